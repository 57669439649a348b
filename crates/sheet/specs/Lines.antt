-- The lines of a sheet, and which of them are lines at all: an even number of digits, 2 to 774, and then the byte 0A. Assumes
-- nothing.
use Rattle.std.specs.Prelude.{ℕ, ◌+◌, ◌-◌, ◌%◌, min, Bool, cond, not, ◌&&◌, List, [], ◌∷◌, length, take, ◌==◌, nat_le, slice_index}
use Rattle.std.specs.List.{prefix_len}
use Rattle.job.specs.Lists.{every}
use Rattle.sheet.specs.Hex.{is_digit}

-- the pieces of the bytes, each up to its 0A; the last may have none
abbrev pub onto : ℕ → List (List ℕ) → List (List ℕ)
onto b [] = (b ∷ []) ∷ []
onto b (l ∷ ls) = (b ∷ l) ∷ ls

abbrev pub lines : List ℕ → List (List ℕ)
lines [] = []
lines (b ∷ bs) = cond (b == 10) ((b ∷ []) ∷ lines bs) (onto b (lines bs))

abbrev pub is_line_end : ℕ → Bool
is_line_end b = b == 10

-- how long the first piece is
abbrev pub in_line : ℕ → Bool
in_line b = not (b == 10)

abbrev pub line_length : List ℕ → ℕ
line_length bs = min (prefix_len in_line bs + 1) (length bs)

-- a piece without its last byte
abbrev pub front : List ℕ → List ℕ
front l = take (length l - 1) l

abbrev pub ends : List ℕ → Bool
ends l = nat_le 1 (length l) && slice_index l (length l - 1) == 10

abbrev pub are_digits : List ℕ → Bool
are_digits ds = (nat_le 2 (length ds) && nat_le (length ds) 774) && (length ds % 2 == 0 && every is_digit ds)

abbrev pub is_line : List ℕ → Bool
is_line l = ends l && are_digits (front l)
