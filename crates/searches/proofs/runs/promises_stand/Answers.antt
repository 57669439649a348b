use Rattle.std.proofs.Common.{arith}
use Rattle.searches.proofs.runs.promises_stand.Goals as goal
use Rattle.searches.proofs.Endings.{every_moment_can_end}
use Rattle.searches.proofs.Promises.{every_moment_keeps_its_promise, every_run_keeps_its_promise}

pub returns : goal.returns
returns g c = record {
  answer = omega arith;
  moments = every_moment_keeps_its_promise g.met.S.Scale.lawful;
  ends = every_moment_can_end g.met.S.Scale.lawful;
  runs = every_run_keeps_its_promise g.met.S.Scale.lawful;
}
