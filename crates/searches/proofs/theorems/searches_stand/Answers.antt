use Rattle.std.proofs.Common.{arith}
use Rattle.searches.proofs.theorems.searches_stand.Goals as goal
use Rattle.searches.proofs.Promises.{every_beginning_holds, every_move_keeps, no_move_raises}

pub returns : goal.returns
returns g c = record {
  answer = omega arith;
  begins = every_beginning_holds g.met.S.Scale.lawful;
  keeps = every_move_keeps g.met.S.Scale.lawful;
  improves = no_move_raises g.met.S.Scale.lawful;
}
