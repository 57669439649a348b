-- Weights: the children of a plan by an unnamed head weigh the same, so together they weigh what the plan does at the share of
-- one head fewer. Assumes nothing.
use Rattle.std.proofs.Common.{◌≡◌, ℕ, zero, suc, ◌+◌, ◌-◌, ◌*◌, ◌^◌, ◌<◌, ◌≤◌, false, not, ltb, List, [], ◌∷◌, length, sum_by, sym, refl, ap, ◌∙◌, inl, inr, mul-le-mul_right, mul_assoc, mul-pos, pow-suc, arith}
use native.Mathlib.Nat.{pow-le-pow_right}
use Rattle.std.specs.List.{range_with_len, AllByRecursion as All}
use Rattle.std.proofs.lemmas.Nat.{mul-le}
use Rattle.std.proofs.lemmas.List.FromFn.{length-range_with_len, length-map-range_with_len}
use Rattle.std.proofs.ByRecursion.{All-map}
use Rattle.std.proofs.lemmas.List.{get_or-replicate}
use Rattle.std.proofs.lemmas.List.Sums.{sum_by-cons}
use Rattle.std.proofs.lemmas.Bool.{cases_eq, not_from_false}
use Rattle.job.specs.declared.job.Job.{Job}
use Rattle.job.specs.declared.plan.Plan.{Plan}
use Rattle.problem.specs.Bags.{Out, here, there}
use Rattle.job.specs.Plans.{heads, setups, plans, product, empty, named, name, unnamed_heads}
use Rattle.problem.specs.Weights.{share, completions, weight, children, ExpandingFits, RootsWeigh}
use Rattle.problem.proofs.Bags.{out_length}
use Rattle.problem.proofs.Naming.{all_those, those_all, those_like, all_counting, setups_few, named_name_same, named_name_other, out_unnamed}
use Rattle.job.proofs.Readings.{setup_within}

pub sum_by_constant : {X : Type 0} (f : X → ℕ) (w : ℕ) (xs : List X) → All (λ x. f x ≡ w) xs → sum_by f xs ≡ length xs * w
sum_by_constant f w [] h = omega arith
sum_by_constant f w (x ∷ xs) h = sum_by-cons f x xs ∙ omega (arith, h.0, sum_by_constant f w xs h.1)

pub product_out : (d : ℕ → ℕ) {u : ℕ} {us vs : List ℕ} → Out u us vs → product d us ≡ d u * product d vs
unfolding product
product_out d here = refl
product_out d (there {x = x} o) = omega (arith, ap (λ t. d x * t) (product_out d o))

pub product_positive : (d : ℕ → ℕ) (us : List ℕ) → All (λ u. 1 ≤ d u) us → 1 ≤ product d us
unfolding product
product_positive d [] h = omega arith
product_positive d (u ∷ us) h = mul-pos h.0 (product_positive d us h.1)

product_few : (j : Job) (a n : ℕ) → product (setups j) (range_with_len a n) ≤ 8 ^ n
unfolding product
product_few j a zero = omega arith
product_few j a (suc n) = let e : 8 ^ suc n ≡ 8 * 8 ^ n = omega (arith, pow-suc 8 n) in rw e (mul-le (setups j a) _ 8 (8 ^ n) (setups_few j a) (product_few j (a + 1) n))

pub plans_few : (j : Job) → plans j ≤ 16777216
plans_few j = omega (arith, product_few j 1 j.heads, pow-le-pow_right {n = 8} (omega arith) j.eight)

pub setups_some : (j : Job) (h : ℕ) → 1 ≤ h → h ≤ j.heads → 1 ≤ setups j h
setups_some j zero l u = absurd (omega arith)
setups_some j (suc k) l u = j.some k (omega arith)

-- a plan that does not name the head u of its job
module _ (j : Job) (q : Plan) (u : ℕ) (len : length q.setups ≡ 8) (l : 1 ≤ u) (k : u ≤ j.heads) (free : named q u ≡ false) where
  -- its children all leave the same heads unnamed
  unnamed_alike : (i : ℕ) → i < 255 → unnamed_heads j (name q u i) ≡ unnamed_heads j (name q u 0)
  unnamed_alike i small = those_like _ _ (heads j) (all_counting _ 1 j.heads (λ h _ _. ap not (alike h)))
    where
      alike : (h : ℕ) → named (name q u i) h ≡ named (name q u 0) h
      alike h = elim (cases_eq h u) [
        | inl e ↦ rw e (named_name_same j q u i len l k small ∙ sym (named_name_same j q u 0 len l k (omega arith)))
        | inr ne ↦ named_name_other q u i h ne ∙ sym (named_name_other q u 0 h ne)
      ]

  out_child : Out u (unnamed_heads j q) (unnamed_heads j (name q u 0))
  out_child = out_unnamed j q u 0 len l k (omega arith) free

  children_weigh : sum_by (weight j) (children j q u) ≡ completions j q * share j.heads (length (unnamed_heads j (name q u 0)))
  children_weigh =
      let weigh_alike : All (λ p. weight j p ≡ weight j (name q u 0)) (children j q u) =
      All-map _ (name q u) (range_with_len 0 (setups j u)) (all_counting _ 0 (setups j u) (λ i _ m.
      ap (λ us. product (setups j) us * share j.heads (length us)) (unnamed_alike i (omega (arith, setups_few j u))))) in
      sum_by_constant (weight j) (weight j (name q u 0)) (children j q u) weigh_alike
      ∙ rw (length-map-range_with_len (name q u) 0 (setups j u), product_out (setups j) out_child) (sym (mul_assoc (setups j u) _ _))

pub completions_positive : (j : Job) (q : Plan) → 1 ≤ completions j q
completions_positive j q =
    product_positive (setups j) (unnamed_heads j q) (all_those _ _ (heads j) (all_counting _ 1 j.heads (λ h l u _. setups_some j h l (omega arith))))

share_step : (c n m : ℕ) → 1 ≤ c → 2 * suc m + 2 + c * share n m ≤ c * share n (suc m)
share_step c n m h = omega (arith, mul-le-mul_right (2 * suc m + 2) h)

pub expanding_fits : ExpandingFits
expanding_fits j q u len l k free =
    rw (children_weigh j q u len l k free, out_length (out_child j q u len l k free)) (share_step (completions j q) j.heads _ (completions_positive j q))

named_empty : (h : ℕ) → 1 ≤ h → h ≤ 8 → named empty h ≡ false
named_empty zero l u = absurd (omega arith)
named_empty (suc k) l u = ap (λ x. ltb x 255) (setup_within empty k (omega arith) ∙ get_or-replicate 8 k 255 255 u)

unnamed_empty : (j : Job) → unnamed_heads j empty ≡ heads j
unnamed_empty j = those_all _ (heads j) (all_counting _ 1 j.heads (λ h l u. not_from_false _ (named_empty h l (omega (arith, j.eight)))))

share_rest : (n m : ℕ) → n ≡ suc m → share n m ≡ (n - 1) * (n + 3)
share_rest n m e = let less : n - 1 ≡ m = omega arith in rw (less, e) (omega arith)

pub roots_weigh : RootsWeigh
roots_weigh j u l k =
    let free : named empty u ≡ false = named_empty u l (omega (arith, j.eight)) in
    let count : j.heads ≡ suc (length (unnamed_heads j (name empty u 0))) =
    sym (ap length (unnamed_empty j) ∙ length-range_with_len 1 j.heads) ∙ out_length (out_child j empty u refl l k free) in
    children_weigh j empty u refl l k free ∙ rw (unnamed_empty j, share_rest j.heads _ count)
