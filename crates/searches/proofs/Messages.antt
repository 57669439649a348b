-- Each message of a run is proper: it goes from one head of the job to another, in one of the searches, with a plan of the job that suits
-- its kind. Assumes nothing.
use Rattle.std.proofs.Common.{◌≡◌, ℕ, ◌<◌, ◌≤◌, true, not, ◌||◌, ◌≢◌, List, [], ◌∷◌, ◌++◌, sym, refl, ap, ◌∙◌, subst, inl, inr, arith}
use Rattle.std.specs.List.{range_with_len, AllByRecursion as All}
use Rattle.std.proofs.ByRecursion.{All-append, All-map, All-weaker}
use Rattle.std.proofs.lemmas.Bool.{cases_Bool, cases_lt, or_left, or_right, not_from_false, and_from, lt-ltb, le-ltb, le-leb, ne_eqb}
use Rattle.job.specs.declared.job.Job.{Job}
use Rattle.job.specs.declared.plan.Plan.{Plan as Plans}
use Rattle.job.specs.Lists.{every}
use Rattle.job.specs.Plans.{heads, setups, setup, named, empty, is_setup, is_complete, is_empty, is_of_job, Complete}
use Rattle.problem.proofs.Naming.{all_counting, setups_few}
use Rattle.problem.proofs.Weights.{setups_some}
use Rattle.link.specs.declared.message.Message.{Message}
use Rattle.link.proofs.Bags.{same_sym}
use Rattle.head.specs.declared.best.Best.{Best}
use Rattle.head.specs.Strays.{is_addressed, is_bests}
use Rattle.searches.specs.Cubes.{Problem, Head, Fit, Open}
use Rattle.searches.specs.Bests.{Good, no_plan, a_plan}
use Rattle.searches.specs.Chains.{Trial, Focus, home, acting, asking, sending, coming, Root, Search, plan_of, Chain, Sound}
use Rattle.searches.specs.Steps.{request, report, on_way}
use Rattle.searches.specs.Invariant.{has_on_way, messages, Rooted, Noticed, Stopping}
use Rattle.searches.specs.Promises.{CompleteOrEmpty, Proper}
use Rattle.searches.proofs.Members.{all_of_append, all_same}
use Rattle.searches.proofs.Cubes.{every_passes, open_heads_are, empty_fits}
use Rattle.searches.proofs.Chains.{chain_fits, lowest_is_named, root_is_named, open_is_other}

module _ (j : Job) where
  -- a plan of the job, by the tests that the code makes
  pub cube_is_of_job : (q : Plans) → Fit j q → is_of_job j q ≡ true
  cube_is_of_job q fit = every_passes _ (range_with_len 1 8) (all_counting _ 1 8 (λ h l u. allowed h))
    where
      allowed : (h : ℕ) → (not (named q h) || is_setup j h (setup q h)) ≡ true
      allowed h = elim (cases_Bool (named q h)) [
        | inl y ↦ or_right _ _ (lt-ltb _ _ (fit.lawful h y))
        | inr n ↦ or_left _ _ (not_from_false _ n)
      ]

  pub complete_is_of_job : (q : Plans) → Complete j q → is_of_job j q ≡ true
  complete_is_of_job q c = every_passes _ (range_with_len 1 8) (all_counting _ 1 8 (λ h l u. allowed h l (omega arith)))
    where
      allowed : (h : ℕ) → 1 ≤ h → h ≤ 8 → (not (named q h) || is_setup j h (setup q h)) ≡ true
      allowed h l u = elim (cases_lt j.heads h) [
        | inl past ↦ or_left _ _ (not_from_false _ (le-ltb (setup q h) 255 (omega (arith, c.no_other h past u))))
        | inr within ↦ or_right _ _ (lt-ltb _ _ (c.each h l within))
      ]

  pub complete_is_complete : (q : Plans) → Complete j q → is_complete j q ≡ true
  complete_is_complete q c = every_passes _ (heads j) (all_counting _ 1 j.heads (λ h l u. lt-ltb (setup q h) 255 (omega (arith, c.each h l (omega arith), setups_few j h))))

  pub empty_is_empty : is_empty empty ≡ true
  unfolding every
  empty_is_empty = refl

  one_is_a_head : Head j 1
  one_is_a_head = record { one_up = omega arith; to_last = j.one }

  open_is_head : (q : Plans) (u : ℕ) → Open j q u → Head j u
  open_is_head q u o = record { one_up = o.one_up; to_last = o.to_last }

module _ {S : Type 0} (π : Problem S) where
  pub good_is_of_job : (b : Best S) → Good π b → is_of_job π.job b.plan ≡ true
  good_is_of_job b (no_plan cost plan) = ap (is_of_job π.job) plan ∙ cube_is_of_job π.job empty (empty_fits π.job)
  good_is_of_job b (a_plan found) = complete_is_of_job π.job b.plan found.complete

  pub good_is_complete_or_empty : (b : Best S) → Good π b → CompleteOrEmpty π.job b.plan
  good_is_complete_or_empty b (no_plan cost plan) = inr (ap is_empty plan ∙ empty_is_empty π.job)
  good_is_complete_or_empty b (a_plan found) = inl (complete_is_complete π.job b.plan found.complete)

  -- what a search has on the way
  module _ (v : ℕ) (r : Root) (numbered : v < setups π.job 1) (at_one : r.head ≡ 1) where
    module _ (t : Trial) (up : List Trial) (c : Chain r π.job (t ∷ up)) (u : ℕ) (o : Open π.job (plan_of r (t ∷ up)) u) where
      lowest : Head π.job t.head
      lowest = open_is_head π.job (plan_of r up) t.head c.0.is_open

      other : u ≢ t.head
      other = open_is_other π.job r (plan_of r (t ∷ up)) u t.head o (lowest_is_named π.job r t up c)

      plan_is_of_job : is_of_job π.job (plan_of r (t ∷ up)) ≡ true
      plan_is_of_job = cube_is_of_job π.job _ (chain_fits π.job r (t ∷ up) c)

      not_one : u ≢ 1
      not_one is = open_is_other π.job r (plan_of r (t ∷ up)) u r.head o (root_is_named π.job r t up c) (is ∙ sym at_one)

      request_is_proper : Proper π.job (request π v r t up u)
      request_is_proper = record { to_head = open_is_head π.job _ u o; from_head = lowest; apart = other; of_search = numbered; of_job = plan_is_of_job; suits = o.unnamed }

      report_is_proper : Proper π.job (report π v r t up u)
      report_is_proper = record {
        to_head = lowest;
        from_head = open_is_head π.job _ u o;
        apart = λ is. other (sym is);
        of_search = numbered;
        of_job = cube_is_of_job π.job empty (empty_fits π.job);
        suits = tt;
      }

    on_way_is_proper : (f : Focus S) → Sound π r f → All (Proper π.job) (on_way π v r f)
    on_way_is_proper home s = tt
    on_way_is_proper (acting h is up) s = tt
    on_way_is_proper (asking t up asked answered heard) s =
        let all = all_same (Open π.job (plan_of r (t ∷ up))) (same_sym s.split) (open_heads_are π.job (plan_of r (t ∷ up))) in
        let first = all_of_append _ asked (answered ++ heard) all in
        let second = all_of_append _ answered heard first.1 in
        All-append _ _ _
        (All-map _ (request π v r t up) asked (All-weaker _ _ (λ u o. request_is_proper t up s.chain u o) asked first.0))
        (All-map _ (report π v r t up) answered (All-weaker _ _ (λ u o. report_is_proper t up s.chain u o) answered second.0))
    on_way_is_proper (sending t up u) s = (
      record {
        to_head = open_is_head π.job _ u s.is_open;
        from_head = lowest t up s.chain u s.is_open;
        apart = other t up s.chain u s.is_open;
        of_search = numbered;
        of_job = plan_is_of_job t up s.chain u s.is_open;
        suits = (s.is_open.unnamed, not_one t up s.chain u s.is_open);
      },
      tt,
    )
    on_way_is_proper (coming t up u b) s = (
      record {
        to_head = lowest t up s.0.chain u s.0.is_open;
        from_head = open_is_head π.job _ u s.0.is_open;
        apart = λ is. other t up s.0.chain u s.0.is_open (sym is);
        of_search = numbered;
        of_job = good_is_of_job b s.1;
        suits = good_is_complete_or_empty b s.1;
      },
      tt,
    )

  pub messages_are_proper : (ss : List (Search S)) → All (Rooted π) ss → All (λ s. Sound π s.root s.focus) ss → All (Proper π.job) (messages π ss)
  messages_are_proper [] a b = tt
  messages_are_proper (s ∷ ss) a b =
      All-append _ (has_on_way π s) (messages π ss) (on_way_is_proper s.number s.root a.0.numbered a.0.at_one s.focus b.0) (messages_are_proper ss a.1 b.1)

  pub notice_is_proper : (H : Best S → Type 0) (m : Message S) → Noticed π H m → Proper π.job m
  notice_is_proper H m n = record {
    to_head = n.to_head;
    from_head = n.from_head;
    apart = n.apart;
    of_search = n.of_search;
    of_job = complete_is_of_job π.job m.plan n.found.complete;
    suits = rw n.is_notice (complete_is_complete π.job m.plan n.found.complete);
  }

  pub stop_is_proper : (b : Best S) (m : Message S) → Good π b → Stopping π b m → Proper π.job m
  stop_is_proper b m good s = subst (Proper π.job) (sym s.is_stop) (record {
    to_head = s.to_head;
    from_head = one_is_a_head π.job;
    apart = s.to_other;
    of_search = setups_some π.job 1 (omega arith) π.job.one;
    of_job = good_is_of_job b good;
    suits = (good_is_complete_or_empty b good, s.to_other);
  })

-- a proper message, by the tests that the code makes
module _ {S : Type 0} (j : Job) (m : Message S) (p : Proper j m) where
  pub proper_is_addressed : is_addressed j m ≡ true
  proper_is_addressed =
      and_from _ _ (le-leb _ _ (setups_some j m.to p.to_head.one_up p.to_head.to_last))
      (and_from _ _ (le-leb _ _ (setups_some j m.from p.from_head.one_up p.from_head.to_last))
      (and_from _ _ (not_from_false _ (ne_eqb m.to m.from p.apart)) (and_from _ _ (lt-ltb _ _ p.of_search) p.of_job)))

pub complete_or_empty_is_a_best : (j : Job) (q : Plans) → CompleteOrEmpty j q → is_bests j q ≡ true
complete_or_empty_is_a_best j q (inl complete) = or_left _ _ complete
complete_or_empty_is_a_best j q (inr none) = or_right _ _ none
