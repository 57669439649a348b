use Rattle.std.proofs.Common.{refl, arith}
use Rattle.scale.specs.MinutesModel.{minutes_same}
use Rattle.scale.specs.ClashesModel.{clashes_same}
use Rattle.scale.proofs.edges.sums_stop.Goals as goal

pub returns : goal.returns
returns c = record { minutes = minutes_same _ _ refl; clashes = λ m n. clashes_same _ _ refl (omega arith) }
