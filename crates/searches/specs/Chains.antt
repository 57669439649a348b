-- One search at one moment: a chain of heads, each with a setup on trial and the setups that it has still to try, and what goes on at the
-- chain's lowest link. All else about a search follows from that by recursion on the chain, lowest link first: its plan, the cubes that it
-- has still to look into, the messages that it may still cost, who holds its bests. Serves the steps of a search and the invariant.
-- Assumes nothing.
use Rattle.std.specs.Prelude.{◌≡◌, ℕ, ◌+◌, ◌*◌, ◌<◌, ◌≤◌, ◌⊎◌, List, [], ◌∷◌, ◌++◌, map, length}
use Rattle.std.specs.List.{AllByRecursion}
use Rattle.job.specs.declared.job.Job.{Job}
use Rattle.job.specs.declared.plan.Plan.{Plan}
use Rattle.job.specs.Plans.{setups, name, unnamed_heads}
use Rattle.problem.specs.Bags.{Same}
use Rattle.head.specs.declared.best.Best.{Best}
use Rattle.searches.specs.Members.{total}
use Rattle.searches.specs.Cubes.{Problem, Fit, Open, allowance, children_allowance}
use Rattle.searches.specs.Bests.{Bests, AsGood, Good}

-- a head on a chain: its setup on trial, and those that it has still to try
pub record Trial : Type 0 where
  pub head : ℕ
  pub setup : ℕ
  pub untried : List ℕ

-- What a search is doing. The chain's lowest link stands first. Only `acting`, where a head is about to try its next setup, and `home`
-- have no message on the way.
pub data Focus (S : Type 0) : Type 0 where
  home : Focus S
  acting : (h : ℕ) (untried : List ℕ) (up : List Trial) → Focus S
  -- the lowest head has asked all heads that its plan leaves open: some have yet to answer, the answers of some are on the way, and
  -- those of the rest were heard
  asking : (t : Trial) (up : List Trial) (asked answered heard : List ℕ) → Focus S
  -- the chain's plan is on the way to the head u, or the best b on the way back from it
  sending : (t : Trial) (up : List Trial) (u : ℕ) → Focus S
  coming : (t : Trial) (up : List Trial) (u : ℕ) (b : Best S) → Focus S

-- where a search began: with which cube, and at which head
pub record Root : Type 0 where
  pub start : Plan
  pub head : ℕ

pub record Search (S : Type 0) : Type 0 where
  pub number : ℕ
  pub root : Root
  pub focus : Focus S

-- the plan with each of these setups for head h
abbrev pub cubes : Plan → ℕ → List ℕ → List Plan
cubes q h is = map (name q h) is

module _ (r : Root) where
  -- the plan of a chain, and the cubes that it has still to look into above the lowest link
  abbrev pub plan_of : List Trial → Plan
  plan_of [] = r.start
  plan_of (t ∷ up) = name (plan_of up) t.head t.setup

  abbrev pub pending : List Trial → List Plan
  pending [] = []
  pending (t ∷ up) = cubes (plan_of up) t.head t.untried ++ pending up

  -- all cubes that a search has still to look into
  abbrev pub open_cubes : {S : Type 0} → Focus S → List Plan
  open_cubes home = []
  open_cubes (acting h is up) = cubes (plan_of up) h is ++ pending up
  open_cubes (asking t up asked answered heard) = plan_of (t ∷ up) ∷ pending (t ∷ up)
  open_cubes (sending t up u) = plan_of (t ∷ up) ∷ pending (t ∷ up)
  open_cubes (coming t up u b) = pending (t ∷ up)

  module _ (j : Job) where
    abbrev pub pending_cost : List Trial → ℕ
    pending_cost chain = total (allowance j) (pending chain)

    -- The messages that a search may still cost: what its cubes may, a return for each link but the lowest, and what the lowest link
    -- has still to take.
    abbrev pub due : {S : Type 0} → Focus S → ℕ
    due home = 0
    due (acting h is up) = total (allowance j) (cubes (plan_of up) h is) + (pending_cost up + length up)
    due (asking t up asked answered heard) =
        (2 * length asked + length answered + 2 + children_allowance j (plan_of (t ∷ up))) + (pending_cost (t ∷ up) + length up)
    due (sending t up u) = (2 + children_allowance j (plan_of (t ∷ up))) + (pending_cost (t ∷ up) + length up)
    due (coming t up u b) = 1 + (pending_cost (t ∷ up) + length up)

    -- A chain hangs at its root, and each link names a head that the links above it leave open.
    abbrev pub Hangs : ℕ → List Trial → Type 0
    Hangs h [] = h ≡ r.head
    Hangs h (t ∷ up) = Unit

    pub record Linked (t : Trial) (up : List Trial) : Type 0 where
      pub is_open : Open j (plan_of up) t.head
      pub lawful : t.setup < setups j t.head
      pub tries : AllByRecursion (λ i. i < setups j t.head) t.untried
      pub hangs : Hangs t.head up

    abbrev pub Chain : List Trial → Type 0
    Chain [] = Fit j r.start
    Chain (t ∷ up) = Linked t up × Chain up

-- What the parts of a focus must be.
module _ {S : Type 0} (π : Problem S) (r : Root) where
  pub record Acts (h : ℕ) (is : List ℕ) (up : List Trial) : Type 0 where
    pub is_open : Open π.job (plan_of r up) h
    pub tries : AllByRecursion (λ i. i < setups π.job h) is
    pub hangs : Hangs r π.job h up
    pub chain : Chain r π.job up

  -- the open heads are those asked, answered and heard, each once, and not all were heard
  pub record Asks (t : Trial) (up : List Trial) (asked answered heard : List ℕ) : Type 0 where
    pub chain : Chain r π.job (t ∷ up)
    pub split : Same (unnamed_heads π.job (plan_of r (t ∷ up))) (asked ++ (answered ++ heard))
    pub waits : 1 ≤ length asked + length answered

  pub record Sends (t : Trial) (up : List Trial) (u : ℕ) : Type 0 where
    pub chain : Chain r π.job (t ∷ up)
    pub is_open : Open π.job (plan_of r (t ∷ up)) u

  abbrev pub Sound : Focus S → Type 0
  Sound home = Unit
  Sound (acting h is up) = Acts h is up
  Sound (asking t up asked answered heard) = Asks t up asked answered heard
  Sound (sending t up u) = Sends t up u
  Sound (coming t up u b) = Sends t up u × Good π b

-- A search holds a best at least as good as x where a head on its chain does, or a return that is on the way.
module _ {S : Type 0} (π : Problem S) (B : Bests S) (x : Best S) where
  abbrev pub ChainHolds : List Trial → Type 0
  ChainHolds [] = ⊥
  ChainHolds (t ∷ up) = AsGood π.scale (B t.head) x ⊎ ChainHolds up

  abbrev pub Holds : Focus S → Type 0
  Holds home = ⊥
  Holds (acting h is up) = AsGood π.scale (B h) x ⊎ ChainHolds up
  Holds (asking t up asked answered heard) = ChainHolds (t ∷ up)
  Holds (sending t up u) = ChainHolds (t ∷ up)
  Holds (coming t up u b) = AsGood π.scale b x ⊎ ChainHolds (t ∷ up)
