-- Bytes and the numbers that they write. Assumes nothing.
use Rattle.std.specs.Prelude.{◌≡◌, ℕ, ◌+◌, ◌*◌, ◌/◌, ◌%◌, ◌<◌, List, [], ◌∷◌, ◌++◌, length, slice_index, refl}
use Rattle.std.proofs.Common.{sym, ap, ap₂, ◌∙◌, arith, Fits}
use Rattle.std.specs.Int.{w8}
use Rattle.std.proofs.lemmas.Nat.{shr-shr}
use Rattle.scale.specs.Bytes.{two, four, number}

pub two_of : (a b v : ℕ) → a < 256 → b < 256 → v ≡ a * 256 + b → two v ≡ a ∷ b ∷ []
two_of a b v p q e =
    let e0 : v / 256 % 256 ≡ a = omega arith in
    let e1 : v % 256 ≡ b = omega arith in
    cc

pub four_of : (a b c d v : ℕ) → a < 256 → b < 256 → c < 256 → d < 256 → v ≡ a * 16777216 + b * 65536 + c * 256 + d → four v ≡ a ∷ b ∷ c ∷ d ∷ []
four_of a b c d v p q r s e =
    let e0 : v / 16777216 % 256 ≡ a = omega arith in
    let e1 : v / 65536 % 256 ≡ b = omega arith in
    let e2 : v / 256 % 256 ≡ c = omega arith in
    let e3 : v % 256 ≡ d = omega arith in
    cc

pub two_back : (n : ℕ) → n < 65536 → number (two n) ≡ n
two_back n h = omega arith

pub four_back : (n : ℕ) → n < 4294967296 → number (four n) ≡ n
four_back n h =
    let top : n / 16777216 % 256 ≡ n / 16777216 = omega arith in
    let c : n / 65536 ≡ n / 16777216 * 256 + n / 65536 % 256 = omega (arith, shr-shr n 16 8) in
    let b : n / 256 ≡ n / 65536 * 256 + n / 256 % 256 = omega (arith, shr-shr n 8 8) in
    let a : n ≡ n / 256 * 256 + n % 256 = omega arith in
    rw top (grind arith)

pub list4 : (l : List ℕ) → length l ≡ 4 → l ≡ slice_index l 0 ∷ slice_index l 1 ∷ slice_index l 2 ∷ slice_index l 3 ∷ []
list4 [] e = absurd (omega arith)
list4 (a ∷ []) e = absurd (omega arith)
list4 (a ∷ b ∷ []) e = absurd (omega arith)
list4 (a ∷ b ∷ c ∷ []) e = absurd (omega arith)
list4 (a ∷ b ∷ c ∷ d ∷ []) e = refl
list4 (a ∷ b ∷ c ∷ d ∷ x ∷ l) e = absurd (omega arith)

pub list6 : (l : List ℕ) → length l ≡ 6 → l ≡ slice_index l 0 ∷ slice_index l 1 ∷ slice_index l 2 ∷ slice_index l 3 ∷ slice_index l 4 ∷ slice_index l 5 ∷ []
list6 [] e = absurd (omega arith)
list6 (a ∷ []) e = absurd (omega arith)
list6 (a ∷ b ∷ l) e = ap (λ t. a ∷ b ∷ t) (list4 l (omega arith))

-- four bytes are those of the number that they write
pub four_read : (l : List ℕ) (v : ℕ) → length l ≡ 4 → ((i : ℕ) → Fits w8 (slice_index l i)) → v ≡ slice_index l 0 * 16777216 + slice_index l 1 * 65536 + slice_index l 2 * 256 + slice_index l 3 → four v ≡ l
four_read l v n t e = four_of _ _ _ _ v (omega (arith, t 0)) (omega (arith, t 1)) (omega (arith, t 2)) (omega (arith, t 3)) e ∙ sym (list4 l n)

-- six bytes are those of the two numbers that they write
pub six_read : (l : List ℕ) (u v : ℕ) → length l ≡ 6 → ((i : ℕ) → Fits w8 (slice_index l i)) → u ≡ slice_index l 0 * 256 + slice_index l 1 → v ≡ slice_index l 2 * 16777216 + slice_index l 3 * 65536 + slice_index l 4 * 256 + slice_index l 5 → two u ++ four v ≡ l
six_read l u v n t e f = ap₂ ◌++◌ (two_of _ _ u (omega (arith, t 0)) (omega (arith, t 1)) e) (four_of _ _ _ _ v (omega (arith, t 2)) (omega (arith, t 3)) (omega (arith, t 4)) (omega (arith, t 5)) f) ∙ sym (list6 l n)
