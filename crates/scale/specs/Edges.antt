-- What follows of a scale's laws, and where the sums of the two scales stop. Assumes nothing.
use Rattle.std.specs.Prelude.{◌≡◌, ℕ, Some}
use Rattle.scale.specs.Operations.{Operations}
use Rattle.scale.specs.Coding.{Coding, reading}
use Rattle.scale.specs.MinutesModel.{minutes, capped}
use Rattle.scale.specs.ClashesModel.{clashes, counted}

abbrev pub NeverStays : {S : Type 0} → Operations S → Type 0
NeverStays {S} s = (x : S) → s.join s.never x ≡ s.never

abbrev pub ReadsBack : {S : Type 0} → Coding S → Type 0
ReadsBack {S} c = (x : S) → reading c (c.bytes x) ≡ Some x

abbrev pub MinutesStop : Type 0
MinutesStop = minutes.join (capped 999999999) (capped 1) ≡ minutes.never

-- whatever minutes stand beside them
abbrev pub ClashesStop : Type 0
ClashesStop = (m n : ℕ) → clashes.join (counted 999 m) (counted 1 n) ≡ clashes.never
