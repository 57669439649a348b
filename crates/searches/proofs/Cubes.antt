-- Cubes: what naming an open head does to a cube, to its open heads, to its cost and to the messages that it may still cost; what its
-- completions cost at least; and the cubes with which a run begins. Assumes nothing.
use Rattle.std.proofs.Common.{◌≡◌, ℕ, zero, suc, ◌+◌, ◌-◌, ◌*◌, ◌<◌, ◌≤◌, Bool, true, false, not, ltb, ◌≢◌, List, [], ◌∷◌, length, sym, refl, ap, ◌∙◌, inl, inr, arith}
use mathlib.Core.List.{cons≢nil}
use Rattle.std.specs.List.{range_with_len, AllByRecursion as All}
use Rattle.std.proofs.lemmas.List.FromFn.{length-range_with_len}
use Rattle.std.proofs.ByRecursion.{All-weaker}
use Rattle.std.proofs.lemmas.List.{get_or-replicate, length-set}
use Rattle.std.proofs.lemmas.Bool.{cases_Bool, cases_eq, cases_lt, both_ways, and_from, and_parts, not-true, not-false, not_from_true}
use Rattle.scale.specs.Operations.{AtMost}
use Rattle.job.specs.declared.job.Job.{Job}
use Rattle.job.specs.declared.plan.Plan.{Plan}
use Rattle.job.specs.Lists.{those, every}
use Rattle.job.specs.Plans.{heads, setups, setup, named, name, empty, plans, product, unnamed_heads, is_complete, Complete, Extends}
use Rattle.job.proofs.Readings.{setup_within}
use Rattle.problem.specs.Bags.{Out}
use Rattle.problem.specs.Costs.{joined, against}
use Rattle.problem.specs.Weights.{weight, children}
use Rattle.problem.proofs.Joins.{at_most_join}
use Rattle.problem.proofs.Naming.{those_passes, those_fails, all_those, all_counting, out_counting, setups_few, setup_name_same, setup_name_other, named_name_same, named_name_other, out_unnamed, naming_joins_costs}
use Rattle.problem.proofs.Pruning.{pruning_is_safe, children_cover}
use Rattle.problem.proofs.Weights.{expanding_fits, roots_weigh}
use Rattle.searches.specs.Members.{Some, total}
use Rattle.searches.specs.Cubes.{Problem, Lawful, Head, Fit, Open, allowance, children_allowance}
use Rattle.searches.specs.Chains.{cubes}
use Rattle.searches.specs.Steps.{cost_of, bound_of, at_least}
use Rattle.searches.proofs.Members.{some_in, all_out, Distinct, distinct_out, total_is_sum}

-- the members of a list that pass a test
module _ {X : Type 0} (p : X → Bool) where
  none_passes : (xs : List X) → those p xs ≡ [] → All (λ x. p x ≡ false) xs
  none_passes [] e = tt
  none_passes (x ∷ xs) e = elim (cases_Bool (p x)) [
    | inl y ↦ absurd (cons≢nil (sym (those_passes p x xs y) ∙ e))
    | inr n ↦ (n, none_passes xs (sym (those_fails p x xs n) ∙ e))
  ]

  those_few : (xs : List X) → length (those p xs) ≤ length xs
  those_few [] = unfold those in omega arith
  those_few (x ∷ xs) = elim (cases_Bool (p x)) [
    | inl y ↦ rw (those_passes p x xs y) (omega (arith, those_few xs))
    | inr n ↦ rw (those_fails p x xs n) (omega (arith, those_few xs))
  ]

  -- all pass, or one fails
  pub every_passes : (xs : List X) → All (λ x. p x ≡ true) xs → every p xs ≡ true
  unfolding every
  every_passes [] a = refl
  every_passes (x ∷ xs) a = and_from _ _ a.0 (every_passes xs a.1)

  all_pass : (xs : List X) → every p xs ≡ true → All (λ x. p x ≡ true) xs
  unfolding every
  all_pass [] e = tt
  all_pass (x ∷ xs) e = let both = and_parts _ _ e in (both.0, all_pass xs both.1)

  those_none : (xs : List X) → All (λ x. p x ≡ false) xs → those p xs ≡ []
  those_none [] a = unfold those in refl
  those_none (x ∷ xs) a = those_fails p x xs a.0 ∙ those_none xs a.1

  distinct_those : (xs : List X) → Distinct xs → Distinct (those p xs)
  distinct_those [] d = unfold those in tt
  distinct_those (x ∷ xs) d = elim (cases_Bool (p x)) [
    | inl y ↦ rw (those_passes p x xs y) (all_those _ p xs (All-weaker (λ y. y ≢ x) _ (λ y ne e. ne) xs d.0), distinct_those xs d.1)
    | inr n ↦ rw (those_fails p x xs n) (distinct_those xs d.1)
  ]

distinct_counting : (a n : ℕ) → Distinct (range_with_len a n)
distinct_counting a zero = tt
distinct_counting a (suc n) = (all_counting (λ k. k ≢ a) (a + 1) n (λ k l u. omega arith), distinct_counting (a + 1) n)

-- a number of a range is one of its members, and the members are in the range
pub counting_has : (P : ℕ → Type 0) (a n k : ℕ) → a ≤ k → k < a + n → P k → Some P (range_with_len a n)
counting_has P a n k l u p = some_in P (out_counting a n k l u).1 (inl p)

pub heads_are : (j : Job) → All (Head j) (heads j)
heads_are j = all_counting (Head j) 1 j.heads (λ h l u. record { one_up = l; to_last = omega arith })

pub setups_are : (j : Job) (h : ℕ) → All (λ i. i < setups j h) (range_with_len 0 (setups j h))
setups_are j h = all_counting _ 0 (setups j h) (λ i l u. omega arith)

module _ (j : Job) where
  small : (h i : ℕ) → i < setups j h → i < 255
  small h i l = omega (arith, setups_few j h)

  -- the open heads of a plan
  pub open_heads_are : (q : Plan) → All (Open j q) (unnamed_heads j q)
  open_heads_are q = all_those (Open j q) _ (heads j) (all_counting _ 1 j.heads (λ h l u n. record { one_up = l; to_last = omega arith; unnamed = not-true _ n }))

  pub open_head : (q : Plan) {u : ℕ} {rest : List ℕ} → Out u (unnamed_heads j q) rest → Open j q u
  open_head q o = (all_out (Open j q) o (open_heads_are q)).0

  -- each stands there once
  pub open_heads_once : (q : Plan) {u : ℕ} {rest : List ℕ} → Out u (unnamed_heads j q) rest → All (λ g. g ≢ u) rest
  open_heads_once q o = distinct_out o (distinct_those (λ h. not (named q h)) (heads j) (distinct_counting 1 j.heads))

  -- a plan is complete, by the test that the code makes, just where it leaves none open
  pub complete_leaves_none : (q : Plan) → is_complete j q ≡ true → unnamed_heads j q ≡ []
  complete_leaves_none q e = those_none _ (heads j) (All-weaker _ _ (λ h y. not_from_true _ y) (heads j) (all_pass (named q) (heads j) e))

  pub incomplete_leaves_one : (q : Plan) → is_complete j q ≡ false → (u : ℕ) × (us : List ℕ) × (unnamed_heads j q ≡ u ∷ us)
  incomplete_leaves_one q e = one_of (unnamed_heads j q) refl
    where
      one_of : (us : List ℕ) → unnamed_heads j q ≡ us → (u : ℕ) × (rest : List ℕ) × (unnamed_heads j q ≡ u ∷ rest)
      one_of (u ∷ us) is = (u, us, is)
      one_of [] is = absurd (both_ways _ e (every_passes (named q) (heads j) (All-weaker _ _ (λ h n. not-false _ n) (heads j) (none_passes _ (heads j) is))))

  pub open_heads_few : (q : Plan) → length (unnamed_heads j q) ≤ j.heads
  open_heads_few q = omega (arith, those_few (λ h. not (named q h)) (heads j), length-range_with_len 1 j.heads)

  -- a cube that leaves no head open is a complete plan
  pub complete_cube : (q : Plan) → Fit j q → unnamed_heads j q ≡ [] → Complete j q
  complete_cube q fit e = record { each = λ h l u. fit.lawful h (all_named h l u); no_other = fit.no_other }
    where
      all_named : (h : ℕ) → 1 ≤ h → h ≤ j.heads → named q h ≡ true
      all_named h l u = not-false (named q h) (all_out _ (out_counting 1 j.heads h l (omega arith)).1 (none_passes _ (heads j) e)).0

  -- an open head is named
  module _ (q : Plan) (u i : ℕ) (fit : Fit j q) (o : Open j q u) (l : i < setups j u) where
    pub named_there : named (name q u i) u ≡ true
    named_there = named_name_same j q u i fit.long o.one_up o.to_last (small u i l)

    pub fit_name : Fit j (name q u i)
    fit_name = record {
      long = long_name q u i fit.long;
      lawful = λ h e. elim (cases_eq h u) [
        | inl is ↦ rw (is, setup_name_same q u i fit.long o.one_up (omega (arith, o.to_last, j.eight))) l
        | inr ne ↦ rw (setup_name_other q u i h ne) (fit.lawful h (sym (named_name_other q u i h ne) ∙ e))
      ];
      no_other = λ h past eight. setup_name_other q u i h (λ is. omega (arith, o.to_last)) ∙ fit.no_other h past eight;
    }
      where
        long_name : (q : Plan) (u i : ℕ) → length q.setups ≡ 8 → length (name q u i).setups ≡ 8
        long_name q zero i e = e
        long_name q (suc k) i e = simp length-set e

    pub open_heads_without : Out u (unnamed_heads j q) (unnamed_heads j (name q u i))
    open_heads_without = out_unnamed j q u i fit.long o.one_up o.to_last (small u i l) o.unnamed

  -- its completions are those of its children
  pub child_covers : (q p : Plan) (u : ℕ) → Fit j q → Open j q u → Extends j q p → Some (λ i. Extends j (name q u i) p) (range_with_len 0 (setups j u))
  child_covers q p u fit o e =
      let c = children_cover j q p u fit.long o.one_up o.to_last o.unnamed e in
      counting_has (λ i. Extends j (name q u i) p) 0 (setups j u) c.0 (omega arith) (omega (arith, c.1)) c.2

  -- allowances: a complete plan's pays for a notice to each other head; another cube's pays for asking, sending, returning, and its children's
  pub allowance_complete : (q : Plan) → unnamed_heads j q ≡ [] → allowance j q ≡ j.heads - 1
  unfolding allowance product
  allowance_complete q e = rw e (omega arith)

  module _ (q : Plan) (u : ℕ) (fit : Fit j q) (o : Open j q u) where
    expanding : 2 * length (unnamed_heads j q) + 2 + total (weight j) (children j q u) ≤ weight j q
    expanding = rw (total_is_sum (weight j) (children j q u)) (expanding_fits j q u fit.long o.one_up o.to_last o.unnamed)

    pub allowance_pays : 2 * length (unnamed_heads j q) + 2 + children_allowance j q ≤ allowance j q
    unfolding allowance children_allowance
    allowance_pays = less (2 * length (unnamed_heads j q) + 2) (total (weight j) (children j q u)) (weight j q) expanding
      where
        less : (a b c : ℕ) → a + b ≤ c → a + (c - a) ≤ c
        less a b c h = omega arith

    pub children_allowed : total (allowance j) (cubes q u (range_with_len 0 (setups j u))) ≤ children_allowance j q
    unfolding allowance children_allowance
    children_allowed = less (2 * length (unnamed_heads j q) + 2) (total (weight j) (children j q u)) (weight j q) expanding
      where
        less : (a b c : ℕ) → a + b ≤ c → b ≤ c - a
        less a b c h = omega arith

module _ {S : Type 0} {π : Problem S} (law : Lawful π) where
  pub cost_of_name : (q : Plan) (u i : ℕ) → Fit π.job q → Open π.job q u → i < setups π.job u →
      cost_of π (name q u i) ≡ π.scale.join (cost_of π q) (against π.scale π.costs π.job u i q)
  cost_of_name q u i fit o l = naming_joins_costs law.laws π.costs π.job q u i fit.long o.one_up o.to_last (small π.job u i l) o.unnamed

  -- what every completion costs at least
  pub at_least_holds : (q p : Plan) → Extends π.job q p → AtMost π.scale (at_least π q (unnamed_heads π.job q)) (cost_of π p)
  at_least_holds q p e = pruning_is_safe law.laws π.costs π.job q p e

  -- one more bound is heard
  pub joins_one_more : (q : Plan) (u : ℕ) (us : List ℕ) → π.scale.join (joined π.scale (bound_of π q) us) (bound_of π q u) ≡ joined π.scale (bound_of π q) (u ∷ us)
  unfolding joined
  joins_one_more q u us = law.laws.commutative _ _

  pub cube_costs_at_most : (q p : Plan) → Extends π.job q p → AtMost π.scale (cost_of π q) (cost_of π p)
  cube_costs_at_most q p e =
      let b = joined π.scale (bound_of π q) (unnamed_heads π.job q) in
      let first : AtMost π.scale (cost_of π q) (at_least π q (unnamed_heads π.job q)) = rw (law.laws.commutative (cost_of π q) b) (at_most_join law.laws b (cost_of π q)) in
      law.laws.transitive _ _ _ first (at_least_holds q p e)

-- the empty plan, and the cubes of head 1
pub empty_unnamed : (h : ℕ) → named empty h ≡ false
empty_unnamed zero = refl
empty_unnamed (suc k) = elim (cases_lt k 8) [
  | inl lt ↦ ap (λ x. ltb x 255) (setup_within empty k lt ∙ get_or-replicate 8 k 255 255 lt)
  | inr ge ↦ ap (λ x. ltb x 255) (past k ge)
]
  where
    past : (k : ℕ) → 8 ≤ k → setup empty (suc k) ≡ 255
    past k ge = Rattle.job.proofs.Readings.setup_none empty (suc k) (inr (omega arith, omega arith))

pub empty_fits : (j : Job) → Fit j empty
empty_fits j = record {
  long = refl;
  lawful = λ h e. absurd (both_ways _ (empty_unnamed h) e);
  no_other = λ h past eight. none_named h (omega (arith, past)) eight;
}
  where
    none_named : (h : ℕ) → 1 ≤ h → h ≤ 8 → setup empty h ≡ 255
    none_named zero l u = absurd (omega arith)
    none_named (suc k) l u = setup_within empty k (omega arith) ∙ get_or-replicate 8 k 255 255 u

pub one_open : (j : Job) → Open j empty 1
one_open j = record { one_up = omega arith; to_last = j.one; unnamed = empty_unnamed 1 }

pub every_plan_extends_empty : (j : Job) (p : Plan) → Complete j p → Extends j empty p
every_plan_extends_empty j p c = record { complete = c; as_named = λ h l u e. absurd (both_ways _ (empty_unnamed h) e) }

pub roots_allowed : (j : Job) → total (allowance j) (cubes empty 1 (range_with_len 0 (setups j 1))) ≡ plans j * ((j.heads - 1) * (j.heads + 3))
unfolding allowance
roots_allowed j = total_is_sum (weight j) _ ∙ roots_weigh j 1 (omega arith) j.one
