-- Minutes are a scale. Assumes nothing.
use Rattle.std.specs.Prelude.{◌≡◌, ℕ, ◌<◌, ◌⊎◌, List, length, replicate, Some, ◌≢◌, refl}
use Rattle.std.proofs.Common.{sym, ap, ◌∙◌, inl, inr, arith, le-leb, leb-true, leb-false}
use Rattle.std.proofs.lemmas.Bool.{cases_eq, cond-true, cond-false, eq-eqb, ne_eqb}
use Rattle.scale.specs.Operations.{Laws}
use Rattle.scale.specs.Coding.{Coded, reading}
use Rattle.scale.specs.Bytes.{four, number}
use Rattle.scale.specs.MinutesModel.{minutes, capped, minutes_same, minutes_bytes, minutes_coding}
use Rattle.scale.specs.declared.minutes.Minutes.{Minutes}
use Rattle.scale.specs.BytesLemmas.{four_back}
use Rattle.scale.specs.Readings.{reads}

pub minutes_lawful : Laws minutes
minutes_lawful = record {
  total = λ x y e. le-leb _ _ (omega (arith, leb-false x.value y.value e));
  transitive = λ x y z p q. le-leb _ _ (omega (arith, leb-true x.value y.value p, leb-true y.value z.value q));
  antisymmetric = λ x y p q. minutes_same x y (omega (arith, leb-true x.value y.value p, leb-true y.value x.value q));
  least = λ x. le-leb _ _ (omega arith);
  greatest = λ x. le-leb _ _ x.ok;
  commutative = λ x y. minutes_same _ _ (omega arith);
  associative = λ x y z. minutes_same _ _ (omega arith);
  neutral = λ x. minutes_same _ _ (omega (arith, x.ok));
  monotone = λ x y z p. le-leb _ _ (omega (arith, leb-true x.value y.value p));
}

-- the bytes of never, and those of any other value
pub bytes_never : (x : Minutes) → x.value ≡ 1000000000 → minutes_bytes x ≡ replicate 4 255
bytes_never x e = cond-true _ _ _ (eq-eqb _ _ e)

pub bytes_other : (x : Minutes) → (x.value ≢ 1000000000) → minutes_bytes x ≡ four x.value
bytes_other x ne = cond-false _ _ _ (ne_eqb _ _ ne)

-- the number that a value's bytes write
pub written_number : (x : Minutes) → ((number (minutes_bytes x) ≡ 4294967295) × (x.value ≡ 1000000000)) ⊎ ((number (minutes_bytes x) ≡ x.value) × (x.value < 1000000000))
written_number x = elim (cases_eq x.value 1000000000) [
  | inl e ↦ inl (ap number (bytes_never x e), e)
  | inr ne ↦ inr (ap number (bytes_other x ne) ∙ four_back x.value (omega (arith, x.ok)), omega (arith, x.ok))
]

long : (x : Minutes) → length (minutes_bytes x) ≡ 4
long x = elim (cases_eq x.value 1000000000) [
  | inl e ↦ ap length (bytes_never x e)
  | inr ne ↦ ap length (bytes_other x ne)
]

pub minutes_back : (x : Minutes) → capped (number (minutes_bytes x)) ≡ x
minutes_back x = elim (written_number x) [
  | inl p ↦ minutes_same _ _ (omega (arith, p.0, p.1))
  | inr p ↦ minutes_same _ _ (omega (arith, p.0, p.1))
]

pub minutes_coded : Coded minutes minutes_coding
minutes_coded = record { some = omega arith; few = omega arith; long = long; back = minutes_back; all_ff = refl }

pub minutes_wide : 4 ≡ minutes_coding.width
minutes_wide = refl

-- four bytes l that write the number v
module _ (l : List ℕ) (v : ℕ) (is : four v ≡ l) where
  pub read_never : (x : Minutes) → x ≡ minutes.never → v ≡ 4294967295 → Some x ≡ reading minutes_coding l
  read_never x n e = reads minutes_coding minutes_back x l (ap minutes_bytes n ∙ ap four (sym e) ∙ is)

  pub read_other : (x : Minutes) → x.value ≡ v → v < 1000000000 → Some x ≡ reading minutes_coding l
  read_other x e lt = reads minutes_coding minutes_back x l (bytes_other x (omega arith) ∙ ap four e ∙ is)
