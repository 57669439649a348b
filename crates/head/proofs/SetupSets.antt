-- The setups below a number. Assumes nothing.
use Rattle.std.proofs.Common.{◌≡◌, ℕ, ◌-◌, min, ap, arith}
use Rattle.job.specs.Sets.{first_places, below}
use Rattle.head.specs.SetupSets.{first_setups}

pub below_is : (n : ℕ) → below 0 n ≡ first_setups (min n 8)
below_is n = let e : min (n - 0) 8 ≡ min n 8 = omega arith in ap (λ (k : ℕ). record { members = first_places k }) e
