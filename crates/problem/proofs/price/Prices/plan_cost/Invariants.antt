use Rattle.std.proofs.Common.{◌≡◌, ◌+◌, ◌-◌}
use Rattle.std.specs.List.{range_with_len}
use Rattle.job.specs.Lists.{those}
use Rattle.job.specs.Plans.{named}
use Rattle.problem.specs.Costs.{joined_pairs, as_named, plan_cost}
use Rattle.problem.proofs.price.Prices.plan_cost.Given as goal

abbrev pub invariant-loop-a : goal.invariant-loop-a
invariant-loop-a g l =
    let s = g.S.Scale.scale in
    s.join l.sum (joined_pairs s (as_named s l.self.costs.now l.plan) (those (named l.plan) (range_with_len l.a (l.last + 1 - l.a))))
    ≡ plan_cost s l.self.costs.now l.self.job.now l.plan
