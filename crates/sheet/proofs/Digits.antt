-- The bytes that digits write, two by two. Assumes nothing.
use Rattle.std.proofs.Common.{◌≡◌, ℕ, zero, suc, ◌*◌, ◌<◌, ◌≤◌, List, [], ◌∷◌, length, get_or, refl, ap, arith}
use Rattle.std.specs.Simd.{first_chunks}
use Rattle.sheet.specs.Hex.{byte, bytes}

pub byte_of_pair : (n i : ℕ) (ds : List ℕ) → i < n → 2 * n ≤ length ds →
    byte (get_or (get_or (first_chunks 2 n ds) i []) 0 0) (get_or (get_or (first_chunks 2 n ds) i []) 1 0) ≡ get_or (bytes ds) i 0
byte_of_pair zero i ds lt room = absurd (omega arith)
byte_of_pair (suc n) i [] lt room = absurd (omega arith)
byte_of_pair (suc n) i (d ∷ []) lt room = absurd (omega arith)
byte_of_pair (suc n) zero (d ∷ e ∷ ds) lt room = refl
byte_of_pair (suc n) (suc i) (d ∷ e ∷ ds) lt room = byte_of_pair n i ds (omega arith) (omega arith)

pub bytes_length : (ds : List ℕ) (n : ℕ) → length ds ≡ 2 * n → length (bytes ds) ≡ n
bytes_length [] n h = omega arith
bytes_length (d ∷ []) n h = absurd (omega arith)
bytes_length (d ∷ e ∷ ds) zero h = absurd (omega arith)
bytes_length (d ∷ e ∷ ds) (suc n) h = ap suc (bytes_length ds n (omega arith))
