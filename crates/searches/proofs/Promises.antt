-- The beginning has what holds at every moment, and what is promised of a moment and of a run follows from it. Assumes nothing.
use Rattle.std.proofs.Common.{◌≡◌, ℕ, ◌+◌, ◌-◌, ◌*◌, ◌<◌, ◌≤◌, true, false, List, [], ◌∷◌, ◌++◌, map, length, sym, refl, ap, ◌∙◌, subst, inl, inr, arith}
use mathlib.Core.List.{cons≢nil}
use lib.ListN.{length-map}
use Rattle.std.specs.List.{range_with_len, AllByRecursion as All}
use Rattle.std.proofs.lemmas.List.FromFn.{length-range_with_len}
use Rattle.std.proofs.ByRecursion.{All-map, All-weaker}
use Rattle.std.proofs.lemmas.Bool.{cases_Bool, both_ways, cond-false, true≢false}
use Rattle.scale.specs.Operations.{Operations, Laws, AtMost}
use Rattle.job.specs.declared.job.Job.{Job}
use Rattle.job.specs.declared.plan.Plan.{Plan as Plans}
use Rattle.job.specs.Plans.{heads, setups, setup, name, empty, plans, Complete}
use Rattle.problem.specs.Bags.{Out, here, there, Same, none, one}
use Rattle.problem.specs.Costs.{plan_cost}
use Rattle.problem.proofs.Joins.{at_most_itself}
use Rattle.problem.proofs.Naming.{out_counting, setups_few}
use Rattle.problem.proofs.Weights.{setups_some}
use Rattle.link.specs.declared.message.Message.{Message}
use Rattle.link.specs.Posting.{margin}
use Rattle.link.proofs.Bags.{out_append, same_refl, same_sym, same_length, same_nil}
use Rattle.head.specs.Bests.{at_first, hopeless}
use Rattle.searches.specs.Members.{Some, total}
use Rattle.searches.specs.Cubes.{Problem, Lawful, Head, allowance}
use Rattle.searches.specs.Bests.{Bests, AsGood, priced_plan, no_plan, a_plan}
use Rattle.searches.specs.Chains.{Trial, Focus, home, acting, asking, sending, coming, Root, Search, cubes, plan_of, Asks, Sound}
use Rattle.searches.specs.Steps.{at_least, request, report, on_way, Step, answers, hears, gives_up, sends, receives, takes_back}
use Rattle.searches.specs.Moves.{State, is_out, all_home, goes_to, first_search, beginning, Move, a_step, a_notice, a_stop}
use Rattle.searches.specs.Invariant.{most_messages, has_on_way, messages, owes, under_way, over, Invariant}
use Rattle.searches.specs.Promises.{is_settled, Settled, Proper, Promise, BeginningHolds, EveryMoveKeeps, NoMoveRaises, EveryMomentKeepsItsPromise, EveryRunKeepsItsPromise}
use Rattle.searches.proofs.Members.{some_same, some_map, some_weaker, all_out, all_same, all_at_replaced, total_same, same_map, out_of_map, out_of_joined}
use Rattle.searches.proofs.Cubes.{setups_are, child_covers, empty_fits, one_open, every_plan_extends_empty, roots_allowed}
use Rattle.searches.proofs.Bests.{as_good_itself, as_good_costs_at_most}
use Rattle.searches.proofs.Bags.{append_empty}
use Rattle.searches.proofs.Homes.{home_reaches_none, one_holds_all}
use Rattle.searches.proofs.Messages.{messages_are_proper, notice_is_proper, stop_is_proper}
use Rattle.searches.proofs.Moves.{of_search, of_notices, of_stops, sort, a_noticed, a_stopping, step_loses_none, move_keeps, move_improves, moves_keep, moves_improve, moves_count}

bill : (m k p : ℕ) → p * (m * k) + m ≡ m * (k * p + 1)
bill m k p = omega arith

pub one_is_a_head : (j : Job) → Head j 1
one_is_a_head j = record { one_up = omega arith; to_last = j.one }

-- head 1 and the others
pub the_others : (j : Job) → (others : List ℕ) × Same (1 ∷ others) (heads j)
the_others j = let o = out_counting 1 j.heads 1 (omega arith) (omega (arith, j.one)) in (o.0, one o.1 (same_refl o.0))

module _ {S : Type 0} {π : Problem S} (law : Lawful π) (limit : ℕ) where
  module _ (vs : List ℕ) (all : Same vs (range_with_len 0 (setups π.job 1))) where
    numbers_are_setups : All (λ v. v < setups π.job 1) vs
    numbers_are_setups = all_same _ all (setups_are π.job 1)

    nothing_on_way : (us : List ℕ) → messages π (map first_search us) ≡ []
    nothing_on_way [] = refl
    nothing_on_way (u ∷ us) = nothing_on_way us

    not_home : (us : List ℕ) → 1 ≤ length us → all_home {S = S} (map first_search us) ≡ false
    not_home [] l = absurd (omega arith)
    not_home (u ∷ us) l = refl

    first_owe : (us : List ℕ) → total (owes π) (map first_search us) ≡ total (allowance π.job) (cubes empty 1 us)
    first_owe [] = refl
    first_owe (u ∷ us) = omega (arith, first_owe us)

    some_setups : (1 ≤ length vs) × (length vs ≤ 8)
    some_setups =
        let e : length vs ≡ setups π.job 1 = same_length all ∙ length-range_with_len 0 (setups π.job 1) in
        (omega (arith, setups_some π.job 1 (omega arith) π.job.one), omega (arith, setups_few π.job 1))

    pub beginning_holds : Invariant π limit (beginning π.scale vs)
    beginning_holds = record {
      notices = [];
      stops = [];
      bag_is = rw (nothing_on_way vs) none;
      rooted = All-map _ first_search vs (All-weaker _ _ (λ v l. record { numbered = l; at_one = refl }) vs numbers_are_setups);
      sound = All-map _ first_search vs (All-weaker _ _ (λ v l. record { is_open = one_open π.job; tries = (l, tt); hangs = refl; chain = empty_fits π.job }) vs numbers_are_setups);
      searches_few = omega (arith, length-map vs (first_search {S = S}), some_setups.1);
      notices_few = omega arith;
      good = λ g l. no_plan refl refl;
      held = λ g l. inl (as_good_itself law.laws (at_first π.scale));
      noticed = tt;
      covered = λ p complete.
          let got = child_covers π.job empty p 1 (empty_fits π.job) (one_open π.job) (every_plan_extends_empty π.job p complete) in
          inr (some_map _ first_search vs (some_weaker _ _ (λ v k. inl k) vs (some_same _ (same_sym all) got)));
      ending = under_way (not_home vs some_setups.0) refl
          (omega (arith, first_owe vs, total_same (allowance π.job) (same_map (name empty 1) all), roots_allowed π.job, bill (π.job.heads - 1) (π.job.heads + 3) (plans π.job)));
    }

  -- a search expects each message that it has on the way
  module _ (v : ℕ) (r : Root) (B : Bests S) where
    abbrev Expects : Focus S → Message S → Type 0
    Expects f m = (B' : Bests S) × (f' : Focus S) × (notes : List (Message S)) × (posts : List (Message S)) × Step π v r B f (m ∷ []) B' f' notes posts

    expects_report : (t : Trial) (up : List Trial) (asked answered left heard : List ℕ) (u : ℕ) → Asks π r t up asked answered heard → Out u answered left → Expects (asking t up asked answered heard) (report π v r t up u)
    expects_report t up (x ∷ asked) answered left heard u a o = (_, _, _, _, hears o (omega arith))
    expects_report t up [] answered (x ∷ left) heard u a o = (_, _, _, _, hears o (omega arith))
    expects_report t up [] answered [] heard u a here = elim (cases_Bool (hopeless π.scale (B t.head) (at_least π (plan_of r (t ∷ up)) (u ∷ heard)))) [
      | inl e ↦ (_, _, _, _, gives_up e)
      | inr e ↦ elim (same_sym a.split) [ one o s ↦ (_, _, _, _, sends e o) ]
    ]

    expects : (f : Focus S) {m : Message S} {left : List (Message S)} → Sound π r f → Out m (on_way π v r f) left → Expects f m
    expects home s o = elim o [ ]
    expects (acting h is up) s o = elim o [ ]
    expects (asking t up asked answered heard) s o = elim (out_append (map (request π v r t up) asked) (map (report π v r t up) answered) o) [
      | inl k ↦ let m = out_of_map (request π v r t up) asked k.1 in rw m.3 ((_, _, _, _, answers m.2))
      | inr k ↦ let m = out_of_map (report π v r t up) answered k.1 in rw m.3 (expects_report t up asked answered m.1 heard m.0 s m.2)
    ]
    expects (sending t up u) s here = (_, _, _, _, receives (same_refl (range_with_len 0 (setups π.job u))))
    expects (sending t up u) s (there o) = elim o [ ]
    expects (coming t up u b) s here = (_, _, _, _, takes_back)
    expects (coming t up u b) s (there o) = elim o [ ]

  -- a search that is out, and in the midst of no act, has something on the way
  quiet_is_home : (v : ℕ) (r : Root) (f : Focus S) → Sound π r f → is_settled f ≡ true → on_way π v r f ≡ [] → is_out f ≡ false
  quiet_is_home v r home k w e = refl
  quiet_is_home v r (acting h is up) k w e = absurd (true≢false (sym w))
  quiet_is_home v r (asking t up (x ∷ asked) answered heard) k w e = absurd (cons≢nil e)
  quiet_is_home v r (asking t up [] (x ∷ answered) heard) k w e = absurd (cons≢nil e)
  quiet_is_home v r (asking t up [] [] heard) k w e = absurd (omega (arith, k.waits))
  quiet_is_home v r (sending t up u) k w e = absurd (cons≢nil e)
  quiet_is_home v r (coming t up u b) k w e = absurd (cons≢nil e)

  quiet_are_home : (ss : List (Search S)) → All (λ s. Sound π s.root s.focus) ss → Settled ss → messages π ss ≡ [] → all_home ss ≡ true
  quiet_are_home [] k w e = refl
  quiet_are_home (s ∷ ss) k w e =
      let two = append_empty (has_on_way π s) (messages π ss) e in
      cond-false _ _ _ (quiet_is_home s.number s.root s.focus k.0 w.0 two.0) ∙ quiet_are_home ss k.1 w.1 two.1

  -- what a moment promises
  module _ {st : State S} (i : Invariant π limit st) where
    module _ (settled : Settled st.searches) (nothing_waits : st.bag ≡ []) where
      parts : (messages π st.searches ≡ []) × (i.notices ++ i.stops ≡ [])
      parts = append_empty _ _ (same_nil (same_sym (subst (Same (messages π st.searches ++ (i.notices ++ i.stops))) nothing_waits i.bag_is)))

      pub quiet_is_the_end : all_home st.searches ≡ true
      quiet_is_the_end = quiet_are_home st.searches i.sound settled parts.0

      pub agreed : (g : ℕ) → Head π.job g → st.bests g ≡ st.bests 1
      agreed g l = elim i.ending [
        | under_way e empty owed ↦ absurd (both_ways _ e quiet_is_the_end)
        | over e a b owed ↦ elim (b g l) [
          | inl k ↦ k
          | inr k ↦ absurd (subst (Some (λ m. m.to ≡ g)) (append_empty i.notices i.stops parts.1).1 k)
        ]
      ]

      best_of_all : (p : Plans) → Complete π.job p → AsGood π.scale (st.bests 1) (priced_plan π p)
      best_of_all p complete = elim (i.covered p complete) [
        | inl h ↦ one_holds_all π st.bests st.searches (priced_plan π p) quiet_is_the_end h
        | inr a ↦ absurd (home_reaches_none π p st.searches quiet_is_the_end a)
      ]

      pub cheapest : (p : Plans) → Complete π.job p → AtMost π.scale (st.bests 1).cost (plan_cost π.scale π.costs π.job p)
      cheapest p complete = as_good_costs_at_most law.laws (st.bests 1) (priced_plan π p) (best_of_all p complete)

      pub no_plan_then_never : (st.bests 1).plan ≡ empty → (p : Plans) → Complete π.job p → plan_cost π.scale π.costs π.job p ≡ π.scale.never
      no_plan_then_never e p complete = elim (i.good 1 (one_is_a_head π.job)) [
        | no_plan cost plan ↦ law.laws.antisymmetric _ _ (law.laws.greatest _) (subst (λ (x : S). AtMost π.scale x (plan_cost π.scale π.costs π.job p)) cost (cheapest p complete))
        | a_plan found ↦
            let l : setup (st.bests 1).plan 1 < setups π.job 1 = found.complete.each 1 (omega arith) π.job.one in
            let n : setup empty 1 < setups π.job 1 = subst (λ (q : Plans). setup q 1 < setups π.job 1) e l in
            absurd (omega (arith, n, setups_few π.job 1))
      ]

      pub never_then_no_plan : ((p : Plans) → Complete π.job p → plan_cost π.scale π.costs π.job p ≡ π.scale.never) → (st.bests 1).plan ≡ empty
      never_then_no_plan all = elim (i.good 1 (one_is_a_head π.job)) [
        | no_plan cost plan ↦ plan
        | a_plan found ↦
            let e : (st.bests 1).cost ≡ π.scale.never = found.costs ∙ all (st.bests 1).plan found.complete in
            absurd (both_ways _ (subst (λ (x : S). π.scale.leq π.scale.never x ≡ false) e found.below_never) (at_most_itself law.laws π.scale.never))
      ]

    pub few_messages : st.count ≤ most_messages π.job
    few_messages = elim i.ending [ under_way e empty owed ↦ omega (arith, owed) | over e a b owed ↦ omega (arith, owed) ]

    module _ (margin_fits : margin ≤ limit) where
      pub expected : (m : Message S) (rest : List (Message S)) → Same (m ∷ rest) st.bag → (st' : State S) × Move π limit st (m ∷ []) st'
      expected m rest out = elim (sort law limit margin_fits out i) [
        | of_search left o ↦
            let k = out_of_joined (has_on_way π) st.searches o in
            let s = k.0 in
            let e = expects s.number s.root st.bests s.focus (all_at_replaced _ (k.3 s).1 i.sound) k.2 in
            let w = k.3 (goes_to s e.1) in
            (_, a_step rest w.1 e.4 (the_others π.job).1 out (same_refl _))
        | of_notices left o same ↦ (_, a_notice (a_noticed law limit margin_fits out i o).is_notice out)
        | of_stops left o same ↦ (_, a_stop (ap (λ (x : Message S). x.kind) (a_stopping law limit margin_fits out i o).1.is_stop) out)
      ]

      pub proper : (m : Message S) (rest : List (Message S)) → Same (m ∷ rest) st.bag → Proper π.job m
      proper m rest out = elim (sort law limit margin_fits out i) [
        | of_search left o ↦ (all_out _ o (messages_are_proper π st.searches i.rooted i.sound)).0
        | of_notices left o same ↦ notice_is_proper π _ m (a_noticed law limit margin_fits out i o)
        | of_stops left o same ↦ stop_is_proper π (st.bests 1) m (i.good 1 (one_is_a_head π.job)) (a_stopping law limit margin_fits out i o).1
      ]

      pub promised : Promise π limit st
      promised = record {
        best_is_a_plan = i.good;
        few_messages = few_messages;
        proper = proper;
        expected = expected;
        none_is_lost = λ rest w step o out. step_loses_none law limit margin_fits rest w step o out i;
        quiet_is_the_end = quiet_is_the_end;
        agreed = agreed;
        cheapest = cheapest;
        no_plan = λ settled nothing_waits. (no_plan_then_never settled nothing_waits, never_then_no_plan settled nothing_waits);
      }

-- the theorems
module _ {S : Type 0} {s : Operations S} (laws : Laws s) where
  pub lawful : (costs : List S) (j : Job) → Lawful (record { scale = s; costs = costs; job = j })
  lawful costs j = record { laws = laws }

  pub every_beginning_holds : BeginningHolds s
  every_beginning_holds costs j limit vs all = beginning_holds (lawful costs j) limit vs all

  pub every_move_keeps : EveryMoveKeeps s
  every_move_keeps costs j limit fits st st' taken m i = move_keeps (lawful costs j) limit fits m i

  pub no_move_raises : NoMoveRaises s
  no_move_raises costs j limit fits st st' taken m i = move_improves (lawful costs j) limit fits m i

  pub every_moment_keeps_its_promise : EveryMomentKeepsItsPromise s
  every_moment_keeps_its_promise costs j limit fits st i = promised (lawful costs j) limit i fits

  pub every_run_keeps_its_promise : EveryRunKeepsItsPromise s
  every_run_keeps_its_promise costs j limit k vs fits all st run =
      let law = lawful costs j in
      let first = beginning_holds law limit vs all in
      let i = moves_keep law limit fits run first in
      record {
        now = promised law limit i fits;
        counted = omega (arith, moves_count law limit fits run);
        within = omega (arith, moves_count law limit fits run, few_messages law limit i);
        never_raised = λ mid a l before later g. moves_improve law limit fits later (moves_keep law limit fits before first) g;
      }
