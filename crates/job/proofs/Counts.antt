-- Counts of setups, padded to eight heads. Assumes nothing.
use Rattle.std.proofs.Common.{◌≡◌, ℕ, zero, suc, ◌<◌, ◌≤◌, Bool, true, ◌&&◌, leb, List, [], ◌∷◌, ◌++◌, length, get_or, replicate, refl, ap, ◌∙◌, inl, inr, arith}
use Rattle.std.proofs.lemmas.Bool.{and_parts, leb-true, cases_lt}
use Rattle.job.specs.Lists.{every}

abbrev pub in_range : ℕ → Bool
in_range d = leb 1 d && leb d 8

pub in_range_each : (ds : List ℕ) → every in_range ds ≡ true → (k : ℕ) → k < length ds → (1 ≤ get_or ds k 0) × (get_or ds k 0 ≤ 8)
unfolding every
in_range_each [] e k lt = absurd (omega arith)
in_range_each (d ∷ ds) e zero lt = let b = and_parts _ _ (and_parts _ _ e).0 in (leb-true 1 d b.0, leb-true d 8 b.1)
in_range_each (d ∷ ds) e (suc k) lt = in_range_each ds (and_parts _ _ e).1 k (omega arith)

-- the counts, with m zeros after them
pub padded_front : (ds : List ℕ) (m k : ℕ) → k < length ds → get_or (ds ++ replicate m 0) k 0 ≡ get_or ds k 0
padded_front [] m k lt = absurd (omega arith)
padded_front (d ∷ ds) m zero lt = refl
padded_front (d ∷ ds) m (suc k) lt = padded_front ds m k (omega arith)

zeros : (m k : ℕ) → ◌≡◌ {A = ℕ} (get_or (replicate m 0) k 0) 0
zeros zero k = refl
zeros (suc m) zero = refl
zeros (suc m) (suc k) = zeros m k

pub padded_rest : (ds : List ℕ) (m k : ℕ) → length ds ≤ k → get_or (ds ++ replicate m 0) k 0 ≡ 0
padded_rest [] m k le = zeros m k
padded_rest (d ∷ ds) m zero le = absurd (omega arith)
padded_rest (d ∷ ds) m (suc k) le = padded_rest ds m k (omega arith)

module _ (ds xs : List ℕ) (m : ℕ) (e : every in_range ds ≡ true) (is : xs ≡ ds ++ replicate m 0) where
  at_front : (k : ℕ) → k < length ds → get_or xs k 0 ≡ get_or ds k 0
  at_front k lt = ap (λ (ys : List ℕ). get_or ys k 0) is ∙ padded_front ds m k lt

  pub rest_none : (k : ℕ) → length ds ≤ k → get_or xs k 0 ≡ 0
  rest_none k le = ap (λ (ys : List ℕ). get_or ys k 0) is ∙ padded_rest ds m k le

  pub each_some : (k : ℕ) → k < length ds → 1 ≤ get_or xs k 0
  each_some k lt = omega (arith, at_front k lt, (in_range_each ds e k lt).0)

  pub each_few : (k : ℕ) → get_or xs k 0 ≤ 8
  each_few k = elim (cases_lt k (length ds)) [
    | inl lt ↦ omega (arith, at_front k lt, (in_range_each ds e k lt).1)
    | inr le ↦ omega (arith, rest_none k le)
  ]
