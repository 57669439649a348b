use Rattle.problem.proofs.theorems.costs_stand.Goals as goal
use Rattle.problem.proofs.Naming.{naming_joins_costs}
use Rattle.problem.proofs.Pruning.{pruning_is_safe}

pub returns : goal.returns
returns g c = record { naming = naming_joins_costs g.met.S.Scale.lawful; pruning = pruning_is_safe g.met.S.Scale.lawful }
