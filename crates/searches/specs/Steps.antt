-- How one search goes on: the messages that it has on the way, and its steps. A step takes one message of the search, or none, changes
-- the best of the head that acts, and posts messages. Which untried setup is tried next, which open head gets the plan, and in which
-- order messages to several heads are posted is free. Serves the moves of all searches together. Assumes nothing.
use Rattle.std.specs.Prelude.{◌≡◌, ℕ, ◌+◌, ◌≤◌, true, false, List, [], ◌∷◌, ◌++◌, map, length}
use Rattle.std.specs.List.{range_with_len}
use Rattle.job.specs.declared.plan.Plan.{Plan as Plans}
use Rattle.job.specs.Plans.{setups, heads, empty, name, unnamed_heads}
use Rattle.problem.specs.Bags.{Out, Same}
use Rattle.problem.specs.Costs.{joined, against, plan_cost, bound}
use Rattle.link.specs.declared.message.Kind.TheVariants.{Request, Report, Plan, Return, Notice}
use Rattle.link.specs.declared.message.Message.{Message}
use Rattle.link.specs.Messages.{message}
use Rattle.head.specs.declared.best.Best.{Best}
use Rattle.head.specs.Bests.{hopeless, adopted}
use Rattle.searches.specs.Cubes.{Problem}
use Rattle.searches.specs.Bests.{Bests, put}
use Rattle.searches.specs.Chains.{Trial, Focus, home, acting, asking, sending, coming, Root, plan_of}

module _ {S : Type 0} (π : Problem S) where
  abbrev pub cost_of : Plans → S
  cost_of q = plan_cost π.scale π.costs π.job q

  abbrev pub bound_of : Plans → ℕ → S
  bound_of q u = bound π.scale π.costs π.job u q

  -- what every completion of q costs at least, as far as the bounds of the heads us say
  abbrev pub at_least : Plans → List ℕ → S
  at_least q us = π.scale.join (cost_of q) (joined π.scale (bound_of q) us)

  module _ (v : ℕ) (r : Root) where
    -- the messages of search v
    abbrev pub request : Trial → List Trial → ℕ → Message S
    request t up u = message Request u t.head v (plan_of r (t ∷ up)) π.scale.nothing

    abbrev pub report : Trial → List Trial → ℕ → Message S
    report t up u = message Report t.head u v empty (bound_of (plan_of r (t ∷ up)) u)

    abbrev pub plan_message : Trial → List Trial → ℕ → Message S
    plan_message t up u = message Plan u t.head v (plan_of r (t ∷ up)) (cost_of (plan_of r (t ∷ up)))

    abbrev pub return : ℕ → ℕ → Best S → Message S
    return to from b = message Return to from v b.plan b.cost

    abbrev pub notice : ℕ → Best S → ℕ → Message S
    notice from b to = message Notice to from v b.plan b.cost

    -- what the search has on the way
    abbrev pub on_way : Focus S → List (Message S)
    on_way home = []
    on_way (acting h is up) = []
    on_way (asking t up asked answered heard) = map (request t up) asked ++ map (report t up) answered
    on_way (sending t up u) = plan_message t up u ∷ []
    on_way (coming t up u b) = return t.head u b ∷ []

    -- the chain's plan with setup i for head h, and what that costs
    abbrev pub tried : List Trial → ℕ → ℕ → Best S
    tried up h i = record {
      cost = π.scale.join (cost_of (plan_of r up)) (against π.scale π.costs π.job h i (plan_of r up));
      plan = name (plan_of r up) h i;
    }

    -- One step: from the bests and what the search is doing, by a message taken or none, to the bests and what it is doing then, with
    -- the notices that it would post and the other messages that it posts.
    pub data Step (B : Bests S) : Focus S → List (Message S) → Bests S → Focus S → List (Message S) → List (Message S) → Type 0 where
      -- a head that was asked reports its bound
      answers : {t : Trial} {up : List Trial} {asked answered asked' heard : List ℕ} {u : ℕ} → Out u asked asked' →
          Step B (asking t up asked answered heard) (request t up u ∷ []) B (asking t up asked' (u ∷ answered) heard) [] (report t up u ∷ [])
      -- a report is heard, and others are missing
      hears : {t : Trial} {up : List Trial} {asked answered answered' heard : List ℕ} {u : ℕ} → Out u answered answered' → 1 ≤ length asked + length answered' →
          Step B (asking t up asked answered heard) (report t up u ∷ []) B (asking t up asked answered' (u ∷ heard)) [] []
      -- the last report is heard: the setup on trial is given up, or the plan goes on to an open head
      gives_up : {t : Trial} {up : List Trial} {heard : List ℕ} {u : ℕ} → hopeless π.scale (B t.head) (at_least (plan_of r (t ∷ up)) (u ∷ heard)) ≡ true →
          Step B (asking t up [] (u ∷ []) heard) (report t up u ∷ []) B (acting t.head t.untried up) [] []
      sends : {t : Trial} {up : List Trial} {heard rest : List ℕ} {u w : ℕ} → hopeless π.scale (B t.head) (at_least (plan_of r (t ∷ up)) (u ∷ heard)) ≡ false →
          Out w (unnamed_heads π.job (plan_of r (t ∷ up))) rest →
          Step B (asking t up [] (u ∷ []) heard) (report t up u ∷ []) B (sending t up w) [] (plan_message t up w ∷ [])
      -- a head takes the plan, with all its setups to try
      receives : {t : Trial} {up : List Trial} {u : ℕ} {is : List ℕ} → Same is (range_with_len 0 (setups π.job u)) →
          Step B (sending t up u) (plan_message t up u ∷ []) B (acting u is (t ∷ up)) [] []
      -- a head takes what comes back
      takes_back : {t : Trial} {up : List Trial} {u : ℕ} {b : Best S} →
          Step B (coming t up u b) (return t.head u b ∷ []) (put B t.head (adopted π.scale b (B t.head))) (acting t.head t.untried up) [] []
      -- an untried setup is given up; it is found to make a plan; or all open heads are asked about it
      skips : {h i : ℕ} {is left : List ℕ} {up : List Trial} → Out i is left → hopeless π.scale (B h) (tried up h i).cost ≡ true →
          Step B (acting h is up) [] B (acting h left up) [] []
      finds : {h i : ℕ} {is left others : List ℕ} {up : List Trial} → Out i is left → hopeless π.scale (B h) (tried up h i).cost ≡ false →
          unnamed_heads π.job (name (plan_of r up) h i) ≡ [] → Same (h ∷ others) (heads π.job) →
          Step B (acting h is up) [] (put B h (tried up h i)) (acting h left up) (map (notice h (tried up h i)) others) []
      asks : {h i u : ℕ} {is left us : List ℕ} {up : List Trial} → Out i is left → hopeless π.scale (B h) (tried up h i).cost ≡ false →
          Same (unnamed_heads π.job (name (plan_of r up) h i)) (u ∷ us) →
          Step B (acting h is up) [] B (asking (record { head = h; setup = i; untried = left }) up (u ∷ us) [] []) []
          (map (request (record { head = h; setup = i; untried = left }) up) (u ∷ us))
      -- no setup is left: the head's best goes back to the head above, or the search is home
      rises : {h : ℕ} {t : Trial} {up : List Trial} → Step B (acting h [] (t ∷ up)) [] B (coming t up h (B h)) [] (return t.head h (B h) ∷ [])
      comes_home : {h : ℕ} → Step B (acting h [] []) [] B home [] []
