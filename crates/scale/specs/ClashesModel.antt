-- Clashes first, as a scale: up to 999 clashes, each with up to 1,000,000,000 minutes, and never, which is 1,000 clashes with
-- 1,000,000,000 minutes. Fewer clashes are cheaper, then fewer minutes; the join adds both. Assumes nothing.
use Rattle.std.specs.Prelude.{◌≡◌, ℕ, ◌+◌, ◌-◌, ◌*◌, ◌<◌, ◌≤◌, min, max, Bool, cond, ◌&&◌, ◌||◌, List, ◌++◌, take, drop, replicate, Some, None, Option, ◌==◌, nat_le, nat_lt}
use mathlib.Core.HLevel.{is_prop→PathP, Π_prop}
use Rattle.std.proofs.Math.Bridge.{le_prop}
use Rattle.std.proofs.Math.Nat.{ℕ_set}
use Rattle.std.proofs.Common.{arith}
use Rattle.scale.specs.Operations.{Operations}
use Rattle.scale.specs.Coding.{Coding}
use Rattle.scale.specs.Bytes.{two, four, number}
use Rattle.scale.specs.declared.clashes.Clashes.{Clashes}

-- equal numbers, equal values: the facts beside the numbers have one proof each
pub clashes_same : (x y : Clashes) → x.clashes ≡ y.clashes → x.minutes ≡ y.minutes → x ≡ y
clashes_same x y e f = λ i. record {
  clashes = e i;
  minutes = f i;
  few = is_prop→PathP (λ j. e j ≤ 1000) (λ j. le_prop) x.few y.few i;
  short = is_prop→PathP (λ j. f j ≤ 1000000000) (λ j. le_prop) x.short y.short i;
  full = is_prop→PathP (λ j. 999 < e j → f j ≡ 1000000000) (λ j. Π_prop (λ _. ℕ_set _ _)) x.full y.full i;
}

-- the minutes beside c clashes: at most 1,000,000,000, and just that past 999 clashes
abbrev pub beside : ℕ → ℕ → ℕ
beside c m = min (max m (1000000000 * (c - 999))) 1000000000

-- c clashes with m minutes, or never past 999 clashes
abbrev pub counted : ℕ → ℕ → Clashes
counted c m = record { clashes = min c 1000; minutes = beside c m; few = omega arith; short = omega arith; full = omega arith }

-- c clashes with m minutes, where there is such a value
abbrev pub clashes_of : ℕ → ℕ → Option Clashes
clashes_of c m = cond ((nat_le c 999 && nat_le m 1000000000) || (c == 1000 && m == 1000000000)) (Some (counted c m)) None

abbrev pub clashes_leq : Clashes → Clashes → Bool
clashes_leq x y = cond (x.clashes == y.clashes) (nat_le x.minutes y.minutes) (nat_lt x.clashes y.clashes)

abbrev pub clashes : Operations Clashes
clashes = record {
  nothing = counted 0 0;
  never = counted 1000 1000000000;
  join = λ x y. counted (x.clashes + y.clashes) (x.minutes + y.minutes);
  leq = clashes_leq;
}

abbrev pub clashes_bytes : Clashes → List ℕ
clashes_bytes x = cond (x.clashes == 1000) (replicate 6 255) (two x.clashes ++ four x.minutes)

-- a sheet has at most 10 clashes and 1,000,000 minutes for a pair of setups, or never
abbrev pub clashes_enterable : Clashes → Bool
clashes_enterable x = (nat_le x.clashes 10 && nat_le x.minutes 1000000) || x.clashes == 1000

abbrev pub clashes_coding : Coding Clashes
clashes_coding = record {
  number = 2;
  width = 6;
  bytes = clashes_bytes;
  value = λ bs. counted (number (take 2 bs)) (number (drop 2 bs));
  enterable = clashes_enterable;
}
