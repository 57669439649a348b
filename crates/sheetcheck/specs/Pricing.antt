-- What pairs of heads cost in a plan. Assumes nothing.
use Rattle.std.specs.Prelude.{◌≡◌, List}
use Rattle.std.specs.List.{AllByRecursion}
use Rattle.scale.specs.Operations.{Operations}
use Rattle.job.specs.declared.plan.Plan.{Plan}
use Rattle.problem.specs.Costs.{as_named}
use Rattle.sheetcheck.specs.declared.prices.PairPrice.{PairPrice}

-- each pair has the cost that its heads have as q names them
abbrev pub PricedAsNamed : {S : Type 0} → Operations S → List S → Plan → List (PairPrice S) → Type 0
PricedAsNamed s costs q pairs = AllByRecursion (λ pair. pair.cost ≡ as_named s costs q pair.a pair.b) pairs
