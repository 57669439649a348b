-- Hexadecimal digits, 0-9 and A-F, two a byte, the higher first. Assumes nothing.
use Rattle.std.specs.Prelude.{ℕ, ◌+◌, ◌/◌, ◌%◌, cond, List, [], ◌∷◌, ◌++◌, nat_lt}
use Rattle.std.specs.List.{flat_map}

-- the digit that stands for a number below 16
abbrev pub digit : ℕ → ℕ
digit n = cond (nat_lt n 10) (48 + n) (55 + n)

abbrev pub pair : ℕ → List ℕ
pair b = digit (b / 16) ∷ digit (b % 16) ∷ []

abbrev pub hex : List ℕ → List ℕ
hex bs = flat_map pair bs

-- a line of some bytes: their digits, then 0A
abbrev pub line : List ℕ → List ℕ
line bs = hex bs ++ 10 ∷ []
