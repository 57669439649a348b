use Rattle.std.proofs.Common.{arith}
use Rattle.link.proofs.Fitting.{others_fit_beside_notices, messages_are_others_and_notices}
use Rattle.link.proofs.sending.posting_stands.Goals as goal

pub returns : goal.returns
returns g c = record { answer = omega arith; others = others_fit_beside_notices _; both = messages_are_others_and_notices _ }
