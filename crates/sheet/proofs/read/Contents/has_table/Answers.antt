use Rattle.problem.proofs.Places.{pair_of_within}
use Rattle.sheet.proofs.read.Contents.has_table.Goals as goal

pub bounds-self-p : goal.bounds-self-p
bounds-self-p c = pair_of_within c.args.a c.args.b c.in-Some.p c.in-Some.ensures
