use Rattle.std.proofs.Common.{ℕ, ◌∙◌, arith, rules}
use Rattle.std.proofs.lemmas.Iterator.{YieldsList-from_range, YieldsList-from_map}
use Rattle.std.proofs.lemmas.Iterator.Consumers.{fold_from_yields_List}
use Rattle.job.specs.Plans.{setups}
use Rattle.problem.specs.Costs.{against, lesser}
use Rattle.problem.proofs.Joins.{least_folded}
use Rattle.problem.proofs.price.Prices.bound.Goals as goal

pub returns : goal.returns
returns g c =
    let s = g.S.Scale.scale in
    let n = setups c.args.self.now.job.now c.args.head in
    let cost : ℕ → _ = λ i. against s c.args.self.now.costs.now c.args.self.now.job.now c.args.head i c.args.plan.now in
    fold_from_yields_List _ (lesser s) c.never.result c.fold.result c.fold.ensures.ran
    (YieldsList-from_map _ cost (YieldsList-from_range 0 c.setups.result n c.map.ensures.source (omega arith)) c.map.ensures.closure (λ x r q k. search rules))
    (λ a x b q k. search rules)
    ∙ rw c.never.ensures (least_folded g.met.S.Scale.lawful cost _)
