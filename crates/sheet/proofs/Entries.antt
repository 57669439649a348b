-- The loops over the entries of a table, row by row. Assumes nothing.
use Rattle.std.proofs.Common.{◌≡◌, ℕ, suc, ◌+◌, ◌-◌, ◌*◌, ◌<◌, ◌≤◌, Bool, true, false, Some, None, ap, ◌∙◌, ap₂, arith}
use Rattle.std.proofs.lemmas.Nat.{div-mul-add, mod-mul-add}
use Rattle.std.proofs.lemmas.Bool.{cond-true, cond-false}
use Rattle.sheet.specs.Tables.{first_fails, cell}

pub cell_at : (columns i j : ℕ) → j < columns → cell columns (columns * i + j) ≡ (i, j)
cell_at columns i j lt =
    let e : columns * i + j ≡ i * columns + j = omega arith in
    ap (cell columns) e ∙ ap₂ (λ (x y : ℕ). (x, y)) (div-mul-add i columns j lt) (mod-mul-add i columns j lt)

-- the first that fails, from k on of n
module _ (good : ℕ → Bool) (k n : ℕ) where
  pub fails_on : k < n → good k ≡ true → first_fails good k (n - k) ≡ first_fails good (k + 1) (n - (k + 1))
  fails_on lt e = let s : n - k ≡ suc (n - (k + 1)) = omega arith in ap (first_fails good k) s ∙ cond-true _ _ _ e

  pub fails_here : k < n → good k ≡ false → first_fails good k (n - k) ≡ Some k
  fails_here lt e = let s : n - k ≡ suc (n - (k + 1)) = omega arith in ap (first_fails good k) s ∙ cond-false _ _ _ e

  pub fails_none : n ≤ k → first_fails good k (n - k) ≡ None
  fails_none ge = let s : n - k ≡ 0 = omega arith in ap (first_fails good k) s
