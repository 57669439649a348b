use Rattle.std.proofs.Common.{◌≡◌, ◌+◌, ◌-◌}
use Rattle.std.specs.List.{range_with_len}
use Rattle.problem.specs.Costs.{against_those}
use Rattle.problem.proofs.price.Prices.against_range.Given as goal

abbrev pub invariant-loop-g : goal.invariant-loop-g
invariant-loop-g g l =
    let s = g.S.Scale.scale in
    s.join l.sum (against_those s l.self.costs.now (range_with_len l.g (l.last + 1 - l.g)) l.h l.i l.plan)
    ≡ against_those s l.self.costs.now (range_with_len l.from (l.last + 1 - l.from)) l.h l.i l.plan
