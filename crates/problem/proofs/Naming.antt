-- Naming a head: the members of a list that pass a test, the numbers of a range, what a plan names once one more head is named,
-- and what that adds to its cost. Assumes nothing.
use Rattle.std.proofs.Common.{◌≡◌, ℕ, zero, suc, ◌+◌, ◌<◌, ◌≤◌, Bool, true, false, cond, not, ltb, ◌≢◌, List, [], ◌∷◌, ◌++◌, length, sym, refl, ap, ◌∙◌, subst, ap₂, inl, inr, arith}
use Rattle.std.specs.List.{range_with_len, AllByRecursion as All}
use Rattle.std.proofs.ByRecursion.{All-weaker}
use Rattle.std.proofs.lemmas.List.{get_or-set_same, get_or-set_other}
use Rattle.std.proofs.lemmas.Bool.{cases_Bool, cases_eq, cond-true, cond-false, not_from_true, not_from_false, lt-ltb, both_ways}
use Rattle.std.proofs.lemmas.Bool.Decides.{nat_tests}
use Rattle.scale.specs.Operations.{Operations, Laws}
use Rattle.job.specs.declared.job.Job.{Job}
use Rattle.job.specs.declared.plan.Plan.{Plan}
use Rattle.job.specs.Lists.{those}
use Rattle.problem.specs.Bags.{Out, here, there, Same, none, one}
use Rattle.job.specs.Plans.{heads, setups, setup, named, name, named_heads, unnamed_heads}
use Rattle.problem.specs.Costs.{between, as_named}
use Rattle.problem.specs.Pruning.{NamingJoinsCosts}
use Rattle.problem.proofs.Bags.{out_middle}
use Rattle.problem.proofs.Joins.{joined_like, joined_pairs_like, joined_pairs_out}
use Rattle.job.proofs.Readings.{setup_within}

module _ {X : Type 0} where
  -- a member that passes a test, and one that fails it
  module _ (p : X → Bool) (x : X) (xs : List X) where
    pub those_passes : p x ≡ true → those p (x ∷ xs) ≡ x ∷ those p xs
    unfolding those
    those_passes e = cond-true _ _ _ e

    pub those_fails : p x ≡ false → those p (x ∷ xs) ≡ those p xs
    unfolding those
    those_fails e = cond-false _ _ _ e

  -- P holds of those that pass p if it holds of each member that passes p
  pub all_those : (P : X → Type 0) (p : X → Bool) (xs : List X) → All (λ x. p x ≡ true → P x) xs → All P (those p xs)
  all_those P p [] h = unfold those in tt
  all_those P p (x ∷ xs) h =
      let rest : All P (those p xs) = all_those P p xs h.1 in
      elim (cases_Bool (p x)) [
        | inl e ↦ rw (those_passes p x xs e) (h.0 e, rest)
        | inr e ↦ rw (those_fails p x xs e) rest
      ]

  -- all members pass; two tests agree on all members
  pub those_all : (p : X → Bool) (xs : List X) → All (λ x. p x ≡ true) xs → those p xs ≡ xs
  those_all p [] h = unfold those in refl
  those_all p (x ∷ xs) h = those_passes p x xs h.0 ∙ ap (λ t. x ∷ t) (those_all p xs h.1)

  pub those_like : (p r : X → Bool) (xs : List X) → All (λ x. p x ≡ r x) xs → those p xs ≡ those r xs
  those_like p r [] h = unfold those in refl
  those_like p r (x ∷ xs) h =
      let rest : those p xs ≡ those r xs = those_like p r xs h.1 in
      elim (cases_Bool (r x)) [
        | inl e ↦ rw (those_passes p x xs (h.0 ∙ e), those_passes r x xs e, rest)
        | inr e ↦ rw (those_fails p x xs (h.0 ∙ e), those_fails r x xs e, rest)
      ]

  -- two tests that agree on all members but m, which passes the first only
  pub out_those : (p r : X → Bool) {m : X} {xs ys : List X} → Out m xs ys → p m ≡ true → r m ≡ false → All (λ x. p x ≡ r x) ys → Out m (those p xs) (those r xs)
  out_those p r {m} (here {xs = xs}) e f h = rw (those_passes p m xs e, those_fails r m xs f, those_like p r xs h) here
  out_those p r {m} (there {x = x} {xs = xs} o) e f h =
      let rest : Out m (those p xs) (those r xs) = out_those p r o e f h.1 in
      elim (cases_Bool (r x)) [
        | inl g ↦ rw (those_passes p x xs (h.0 ∙ g), those_passes r x xs g) (there rest)
        | inr g ↦ rw (those_fails p x xs (h.0 ∙ g), those_fails r x xs g) rest
      ]

  -- a list is its members that fail a test and those that pass it
  pub same_parts : (p : X → Bool) (xs : List X) → Same xs (those (λ x. not (p x)) xs ++ those p xs)
  same_parts p [] = unfold those in none
  same_parts p (x ∷ xs) = elim (cases_Bool (p x)) [
    | inl e ↦ rw (those_passes p x xs e, those_fails (λ y. not (p y)) x xs (not_from_true (p x) e)) (one (out_middle _ _) (same_parts p xs))
    | inr e ↦ rw (those_fails p x xs e, those_passes (λ y. not (p y)) x xs (not_from_false (p x) e)) (one here (same_parts p xs))
  ]

pub all_counting : (P : ℕ → Type 0) (a n : ℕ) → ((k : ℕ) → a ≤ k → k < a + n → P k) → All P (range_with_len a n)
all_counting P a zero f = tt
all_counting P a (suc n) f = (f a (omega arith) (omega arith), all_counting P (a + 1) n (λ k l u. f k (omega arith) (omega arith)))

-- a number of a range stands in it once
pub out_counting : (a n h : ℕ) → a ≤ h → h < a + n → (ys : List ℕ) × Out h (range_with_len a n) ys × All (λ k. k ≢ h) ys
out_counting a zero h l u = absurd (omega arith)
out_counting a (suc n) h l u = elim (cases_eq a h) [
  | inl e ↦ (range_with_len (a + 1) n, subst (λ m. Out m (a ∷ range_with_len (a + 1) n) (range_with_len (a + 1) n)) e here, all_counting (λ k. k ≢ h) (a + 1) n (λ k m v. omega arith))
  | inr ne ↦ let r = out_counting (a + 1) n h (omega arith) (omega arith) in (a ∷ r.0, there r.1, (ne, r.2))
]

pub setups_few : (j : Job) (h : ℕ) → setups j h ≤ 8
setups_few j zero = omega arith
setups_few j (suc k) = j.few k

pub setup_name_same : (q : Plan) (h i : ℕ) → length q.setups ≡ 8 → 1 ≤ h → h ≤ 8 → setup (name q h i) h ≡ i
setup_name_same q zero i len l u = absurd (omega arith)
setup_name_same q (suc k) i len l u = setup_within (name q (suc k) i) k (omega arith) ∙ get_or-set_same q.setups k i 255 (omega arith)

pub setup_name_other : (q : Plan) (h i k : ℕ) → k ≢ h → setup (name q h i) k ≡ setup q k
setup_name_other q zero i k ne = refl
setup_name_other q (suc h) i zero ne = refl
setup_name_other q (suc h) i (suc k) ne = ap (λ (x : ℕ). cond (ltb k 8) x 255) (get_or-set_other q.setups h k i 255 (omega arith))

pub named_name_other : (q : Plan) (h i k : ℕ) → k ≢ h → named (name q h i) k ≡ named q k
named_name_other q h i k ne = ap (λ x. ltb x 255) (setup_name_other q h i k ne)

-- a head of the job gets a setup
module _ (j : Job) (q : Plan) (h i : ℕ) (len : length q.setups ≡ 8) (l : 1 ≤ h) (u : h ≤ j.heads) (small : i < 255) where
  pub named_name_same : named (name q h i) h ≡ true
  named_name_same = rw (setup_name_same q h i len l (omega (arith, j.eight))) (lt-ltb i 255 small)

  -- that q does not name
  module _ (free : named q h ≡ false) where
    pub out_named : Out h (named_heads j (name q h i)) (named_heads j q)
    out_named =
        let r = out_counting 1 j.heads h l (omega arith) in
        out_those (named (name q h i)) (named q) r.1 named_name_same free (All-weaker (λ k. k ≢ h) _ (named_name_other q h i) r.0 r.2)

    pub out_unnamed : Out h (unnamed_heads j q) (unnamed_heads j (name q h i))
    out_unnamed =
        let r = out_counting 1 j.heads h l (omega arith) in
        out_those (λ k. not (named q k)) (λ k. not (named (name q h i) k)) r.1 (not_from_false _ free) (not_from_true _ named_name_same)
        (All-weaker (λ k. k ≢ h) _ (λ k ne. ap not (sym (named_name_other q h i k ne))) r.0 r.2)

pub as_named_symmetric : {S : Type 0} (s : Operations S) (costs : List S) (q : Plan) (a b : ℕ) → as_named s costs q a b ≡ as_named s costs q b a
as_named_symmetric s costs q a b = grind (arith, nat_tests)

pub naming_joins_costs : {S : Type 0} {s : Operations S} (laws : Laws s) → NamingJoinsCosts s
naming_joins_costs {s = s} laws costs j q h i len l u small free =
    let same : setup (name q h i) h ≡ i = setup_name_same q h i len l (omega (arith, j.eight)) in
    let as_before : All (λ g. setup (name q h i) g ≡ setup q g) (named_heads j q) =
    all_those _ (named q) (heads j) (all_counting _ 1 j.heads (λ g _ _ e. setup_name_other q h i g (λ is. both_ways (named q g) (rw is free) e))) in
    joined_pairs_out laws (as_named s costs (name q h i)) (as_named_symmetric s costs (name q h i)) (out_named j q h i len l u small free)
    ∙ ap₂ s.join
    (joined_like s _ _ (named_heads j q) (All-weaker _ _ (λ g e. ap₂ (λ x y. between s costs h x g y) same e) (named_heads j q) as_before))
    (joined_pairs_like s _ _ _ (λ a b e f. ap₂ (λ x y. between s costs a x b y) e f) (named_heads j q) as_before)
    ∙ laws.commutative _ _
