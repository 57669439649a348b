-- The entries of a table, in reading order: row by row, as many rows as the first head has setups, as many columns as the second.
-- Assumes nothing.
use Rattle.std.specs.Prelude.{ℕ, zero, suc, ◌+◌, ◌*◌, ◌/◌, ◌%◌, Bool, cond, List, take, drop, is_some, Some, None, Option, slice_set}
use Rattle.scale.specs.Coding.{Coding, reading}
use Rattle.sheet.specs.Hex.{bytes}

module _ {S : Type 0} where
  -- a cost that a sheet may have
  abbrev pub entered : (S → Bool) → Option S → Option S
  entered lawful (Some x) = cond (lawful x) (Some x) None
  entered lawful None = None

  -- the n-th entry of a table's digits, if it is lawful
  abbrev pub entry : Coding S → List ℕ → ℕ → Option S
  entry c ds n = entered c.enterable (reading c (bytes (take (2 * c.width) (drop (2 * c.width * n) ds))))

-- the first of the n numbers from k on that fails a test
abbrev pub first_fails : (ℕ → Bool) → ℕ → ℕ → Option ℕ
first_fails good k zero = None
first_fails good k (suc n) = cond (good k) (first_fails good (k + 1) n) (Some k)

-- row and column of the n-th entry
abbrev pub cell : ℕ → ℕ → ℕ × ℕ
cell columns n = (n / columns, n % columns)

abbrev pub celled : ℕ → Option ℕ → Option (ℕ × ℕ)
celled columns (Some n) = Some (cell columns n)
celled columns None = None

module _ {S : Type 0} (e : ℕ → Option S) where
  -- where the first unlawful entry stands
  abbrev pub first_unlawful : ℕ → ℕ → Option (ℕ × ℕ)
  first_unlawful rows columns = celled columns (first_fails (λ n. is_some (e n)) 0 (columns * rows))

  abbrev pub put : Option S → ℕ → List S → List S
  put (Some x) k xs = slice_set xs k x
  put None k xs = xs

-- the first n entries of a row go to the places from `base` on; the first n rows go to the places of the pair p
module _ {S : Type 0} where
  abbrev pub row_laid : (ℕ → Option S) → ℕ → ℕ → List S → List S
  row_laid e base zero xs = xs
  row_laid e base (suc n) xs = put e (e n) (base + n) (row_laid e base n xs)

  abbrev pub table_laid : (ℕ → Option S) → ℕ → ℕ → ℕ → List S → List S
  table_laid e columns p zero xs = xs
  table_laid e columns p (suc n) xs = row_laid (λ j. e (columns * n + j)) (64 * p + 8 * n) columns (table_laid e columns p n xs)
