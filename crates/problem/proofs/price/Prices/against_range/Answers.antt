use Rattle.std.proofs.Common.{◌+◌, sym, ◌∙◌}
use Rattle.problem.proofs.Walks.{against_step, against_skip, against_done}
use Rattle.problem.proofs.price.Prices.against_range.Goals as goal
use Rattle.problem.proofs.price.Prices.against_range.Goals.{in-Some, in_default}

pub loop-g-preserved : goal.loop-g-preserved
loop-g-preserved g c =
    let laws = g.met.S.Scale.lawful in
    let end = c.args.last + 1 in
    elim c.match-setup.branch [
      | in-Some w ↦
          let is = w.sum-is ∙ w.join-sum.ensures in
          let cost = w.between.ensures in
          simp (is, cost) (against_step laws c.args.self.now.costs.now c.args.plan.now c.args.h c.args.i c.loop-g.g end c.loop-g.sum _ c.loop-g.invariant w.in-Some.k c.loop-g-test.true (sym c.setup.ensures ∙ w.in-Some.is))
      | in_default w ↦
          simp w.sum-is (against_skip laws c.args.self.now.costs.now c.args.plan.now c.args.h c.args.i c.loop-g.g end c.loop-g.sum _ c.loop-g.invariant c.loop-g-test.true (sym c.setup.ensures ∙ w.in_default.is))
    ]

pub returns : goal.returns
returns g c =
    against_done g.met.S.Scale.lawful c.args.self.now.costs.now c.args.plan.now c.args.h c.args.i c.loop-g.g (c.args.last + 1) c.loop-g.sum _ c.loop-g.invariant c.loop-g-test.false
