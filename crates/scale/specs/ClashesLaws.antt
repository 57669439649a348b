-- Clashes first are a scale. Assumes nothing.
use Rattle.std.specs.Prelude.{◌≡◌, ℕ, ◌+◌, ◌<◌, ◌≤◌, min, ◌⊎◌, List, ◌++◌, length, take, drop, replicate, Some, ◌≢◌, refl}
use Rattle.std.proofs.Common.{sym, ap, ap₂, ◌∙◌, inl, inr, ⊎_elim, arith}
use Rattle.std.proofs.lemmas.Bool.Decides.{nat_tests}
use Rattle.std.proofs.lemmas.Bool.{cases_lt, cases_eq, cond-true, cond-false, eq-eqb, ne_eqb}
use Rattle.scale.specs.Operations.{Laws}
use Rattle.scale.specs.Coding.{Coded, reading}
use Rattle.scale.specs.Bytes.{two, four, number}
use Rattle.scale.specs.ClashesModel.{clashes, counted, beside, clashes_same, clashes_bytes, clashes_coding}
use Rattle.scale.specs.declared.clashes.Clashes.{Clashes}
use Rattle.scale.specs.BytesLemmas.{two_back, four_back}
use Rattle.scale.specs.Readings.{reads}

full : (c m : ℕ) → 1000 ≤ c → beside c m ≡ 1000000000
full c m h = omega arith

part : (c m : ℕ) → c < 1000 → beside c m ≡ min m 1000000000
part c m h = omega arith

-- stopping on the way changes nothing
inner : (c d m n : ℕ) → beside (min c 1000 + d) (beside c m + n) ≡ beside (c + d) (m + n)
inner c d m n =
    ⊎_elim
    (λ (lt : c + d < 1000).
    let within : beside c m ≡ min m 1000000000 = part c m (omega arith) in
    let sums : min (beside c m + n) 1000000000 ≡ min (m + n) 1000000000 = rw within (omega arith) in
    part (min c 1000 + d) (beside c m + n) (omega arith) ∙ sums ∙ sym (part (c + d) (m + n) lt))
    (λ (ge : 1000 ≤ c + d). full (min c 1000 + d) (beside c m + n) (omega arith) ∙ sym (full (c + d) (m + n) ge))
    (cases_lt (c + d) 1000)

outer : (c d m n : ℕ) → beside (c + min d 1000) (m + beside d n) ≡ beside (c + d) (m + n)
outer c d m n = ap₂ beside (omega arith) (omega arith) ∙ inner d c n m ∙ ap₂ beside (omega arith) (omega arith)

pub clashes_lawful : Laws clashes
clashes_lawful = record {
  total = λ x y e. grind (arith, nat_tests);
  transitive = λ x y z p q. grind (arith, nat_tests);
  antisymmetric = λ x y p q. clashes_same x y (grind (arith, nat_tests)) (grind (arith, nat_tests));
  least = λ x. grind (arith, nat_tests);
  greatest = λ x. grind (arith, nat_tests);
  commutative = λ x y. clashes_same _ _ (omega arith) (omega arith);
  associative = λ x y z. clashes_same _ _ (omega arith) (inner (x.clashes + y.clashes) z.clashes _ _ ∙ ap₂ beside (omega arith) (omega arith) ∙ sym (outer x.clashes (y.clashes + z.clashes) _ _));
  neutral = λ x. clashes_same _ _ (omega (arith, x.few)) (grind (arith, x.few, x.short, x.full));
  monotone = λ x y z p. grind (arith, nat_tests);
}

-- a value is its numbers
pub counted_same : (c m : ℕ) (x : Clashes) → min c 1000 ≡ x.clashes → min m 1000000000 ≡ x.minutes → counted c m ≡ x
counted_same c m x e f = clashes_same _ _ e (grind (arith, x.few, x.short, x.full))

-- the bytes of never, and those of any other value
bytes_never : (x : Clashes) → x.clashes ≡ 1000 → clashes_bytes x ≡ replicate 6 255
bytes_never x e = cond-true _ _ _ (eq-eqb _ _ e)

bytes_other : (x : Clashes) → (x.clashes ≢ 1000) → clashes_bytes x ≡ two x.clashes ++ four x.minutes
bytes_other x ne = cond-false _ _ _ (ne_eqb _ _ ne)

abbrev Numbers : Clashes → ℕ → ℕ → Type 0
Numbers x c m = (number (take 2 (clashes_bytes x)) ≡ c) × (number (drop 2 (clashes_bytes x)) ≡ m)

-- the numbers that a value's bytes write
pub written_numbers : (x : Clashes) → (Numbers x 65535 4294967295 × (x.clashes ≡ 1000)) ⊎ (Numbers x x.clashes x.minutes × (x.clashes < 1000))
written_numbers x = elim (cases_eq x.clashes 1000) [
  | inl e ↦ inl ((ap (λ bs. number (take 2 bs)) (bytes_never x e), ap (λ bs. number (drop 2 bs)) (bytes_never x e)), e)
  | inr ne ↦
      inr ((ap (λ bs. number (take 2 bs)) (bytes_other x ne) ∙ two_back x.clashes (omega (arith, x.few)), ap (λ bs. number (drop 2 bs)) (bytes_other x ne) ∙ four_back x.minutes (omega (arith, x.short))), omega (arith, x.few))
]

long : (x : Clashes) → length (clashes_bytes x) ≡ 6
long x = elim (cases_eq x.clashes 1000) [
  | inl e ↦ ap length (bytes_never x e)
  | inr ne ↦ ap length (bytes_other x ne)
]

pub clashes_back : (x : Clashes) → counted (number (take 2 (clashes_bytes x))) (number (drop 2 (clashes_bytes x))) ≡ x
clashes_back x = elim (written_numbers x) [
  | inl p ↦ counted_same _ _ x (omega (arith, p.0.0, p.1)) (omega (arith, p.0.1, x.full (omega (arith, p.1))))
  | inr p ↦ counted_same _ _ x (omega (arith, p.0.0, p.1)) (omega (arith, p.0.1, x.short))
]

pub clashes_coded : Coded clashes clashes_coding
clashes_coded = record { some = omega arith; few = omega arith; long = long; back = clashes_back; all_ff = refl }

pub clashes_wide : 6 ≡ clashes_coding.width
clashes_wide = refl

-- two bytes that write the number u and four that write v
module _ (l : List ℕ) (u v : ℕ) (is : two u ++ four v ≡ l) where
  pub read_never : (x : Clashes) → x ≡ clashes.never → u ≡ 65535 → v ≡ 4294967295 → Some x ≡ reading clashes_coding l
  read_never x n e f = reads clashes_coding clashes_back x l (ap clashes_bytes n ∙ ap₂ (λ a b. two a ++ four b) (sym e) (sym f) ∙ is)

  pub read_other : (x : Clashes) → x.clashes ≡ u → x.minutes ≡ v → u < 1000 → Some x ≡ reading clashes_coding l
  read_other x e f lt = reads clashes_coding clashes_back x l (bytes_other x (omega arith) ∙ ap₂ (λ a b. two a ++ four b) e f ∙ is)
