use Rattle.std.proofs.Common.{◌≡◌, ◌∙◌, sym, length, rules}
use Rattle.problem.proofs.Asked.{naming_answered}
use Rattle.problem.proofs.Naming.{naming_joins_costs}
use Rattle.problem.proofs.Pruning.{pruning_is_safe}
use Rattle.problem.proofs.price.Problem.cost_after_adding.Goals as goal

pub returns-in_err-more-clause-naming : goal.returns-in_err-more-clause-naming
returns-in_err-more-clause-naming g c = naming_joins_costs g.met.S.Scale.lawful

pub returns-in_err-more-clause-pruning : goal.returns-in_err-more-clause-pruning
returns-in_err-more-clause-pruning g c = pruning_is_safe g.met.S.Scale.lawful

pub returns-clause-value : goal.returns-clause-value
returns-clause-value g c =
    let long : length c.args.plan.setups ≡ 8 = search rules in
    naming_answered g.met.S.Scale.lawful c.args.self.now.costs.now c.args.self.now.job.now c.args.head c.args.setup c.args.plan long _ _ c.join.result
    (sym c.in_ok-more.was ∙ c.requires) c.plan_cost.ensures c.join.ensures

pub returns-clause-naming : goal.returns-clause-naming
returns-clause-naming g c = naming_joins_costs g.met.S.Scale.lawful

pub returns-clause-pruning : goal.returns-clause-pruning
returns-clause-pruning g c = pruning_is_safe g.met.S.Scale.lawful
