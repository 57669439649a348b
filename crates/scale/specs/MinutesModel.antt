-- Minutes as a scale: whole minutes up to 1,000,000,000, which is never; the join is the sum, as far as never. Assumes nothing.
use Rattle.std.specs.Prelude.{◌≡◌, ℕ, ◌+◌, ◌≤◌, min, Bool, cond, ◌||◌, List, replicate, Some, None, Option, ◌==◌, nat_le}
use mathlib.Core.HLevel.{is_prop→PathP}
use Rattle.std.proofs.Math.Bridge.{le_prop}
use Rattle.std.proofs.Common.{arith}
use Rattle.scale.specs.Operations.{Operations}
use Rattle.scale.specs.Coding.{Coding}
use Rattle.scale.specs.Bytes.{four, number}
use Rattle.scale.specs.declared.minutes.Minutes.{Minutes}

-- equal numbers, equal values: the fact beside the number has one proof
pub minutes_same : (x y : Minutes) → x.value ≡ y.value → x ≡ y
minutes_same x y e = λ i. record { value = e i; ok = is_prop→PathP (λ j. e j ≤ 1000000000) (λ j. le_prop) x.ok y.ok i }

-- n minutes, or never where that is more
abbrev pub capped : ℕ → Minutes
capped n = record { value = min n 1000000000; ok = omega arith }

-- n minutes, where there is such a value
abbrev pub minutes_of : ℕ → Option Minutes
minutes_of n = cond (nat_le n 1000000000) (Some (capped n)) None

abbrev pub minutes : Operations Minutes
minutes = record { nothing = capped 0; never = capped 1000000000; join = λ x y. capped (x.value + y.value); leq = λ x y. nat_le x.value y.value }

abbrev pub minutes_bytes : Minutes → List ℕ
minutes_bytes x = cond (x.value == 1000000000) (replicate 4 255) (four x.value)

-- a sheet has at most 1,000,000 minutes for a pair of setups, or never
abbrev pub minutes_enterable : Minutes → Bool
minutes_enterable x = nat_le x.value 1000000 || x.value == 1000000000

abbrev pub minutes_coding : Coding Minutes
minutes_coding = record { number = 1; width = 4; bytes = minutes_bytes; value = λ bs. capped (number bs); enterable = minutes_enterable }
