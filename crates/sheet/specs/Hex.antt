-- Hexadecimal digits, 0-9 and A-F, and the bytes that they write two by two. Assumes nothing.
use Rattle.std.specs.Prelude.{ℕ, ◌+◌, ◌-◌, ◌*◌, Bool, cond, ◌&&◌, ◌||◌, List, [], ◌∷◌, nat_le}

abbrev pub is_decimal : ℕ → Bool
is_decimal b = nat_le 48 b && nat_le b 57

abbrev pub is_letter : ℕ → Bool
is_letter b = nat_le 65 b && nat_le b 70

abbrev pub is_digit : ℕ → Bool
is_digit b = is_decimal b || is_letter b

-- what a digit stands for; 0 for anything else
abbrev pub digit : ℕ → ℕ
digit b = cond (is_decimal b) (b - 48) (cond (is_letter b) (b - 55) 0)

abbrev pub byte : ℕ → ℕ → ℕ
byte high low = 16 * digit high + digit low

-- the bytes of digits, two by two; a single digit left over counts for nothing
abbrev pub bytes : List ℕ → List ℕ
bytes [] = []
bytes (d ∷ []) = []
bytes (d ∷ e ∷ ds) = byte d e ∷ bytes ds
