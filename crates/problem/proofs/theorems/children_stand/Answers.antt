use Rattle.problem.proofs.theorems.children_stand.Goals as goal
use Rattle.problem.proofs.Pruning.{children_cover}
use Rattle.problem.proofs.Weights.{expanding_fits, roots_weigh}

pub returns : goal.returns
returns c = record { cover = children_cover; expanding = expanding_fits; roots = roots_weigh }
