use Rattle.std.proofs.Common.{refl}
use Rattle.run.proofs.Theorem.{every_run_stands}
use Rattle.run.proofs.run.theorem.whole_run_stands.Goals as goal

pub returns : goal.returns
returns g c = record { answer = refl; whole = every_run_stands g.met.S.Scale.lawful }
