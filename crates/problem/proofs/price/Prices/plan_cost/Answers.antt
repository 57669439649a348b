use Rattle.std.proofs.Common.{ℕ, ◌+◌, sym, ◌∙◌, subst, arith}
use Rattle.problem.specs.Costs.{Comparable}
use Rattle.problem.proofs.Naming.{setups_few}
use Rattle.problem.proofs.Walks.{comparable, some_named, named_of_job, pairs_step, pairs_skip, pairs_done}
use Rattle.problem.proofs.price.Prices.plan_cost.Goals as goal
use Rattle.problem.proofs.price.Prices.plan_cost.Goals.{in-Some, in_default}

pub against_range-requires : goal.against_range-requires
against_range-requires g c =
    let j = c.args.self.now.job.now in
    let q = c.args.plan.now in
    let a = c.loop-a.a in
    let i = c.in-Some.i in
    let is = some_named q a i (sym c.in-Some.ensures) in
    let small = named_of_job j q c.requires a is.0 in
    subst (λ (n : ℕ). Comparable q a i (a + 1) n) (sym c.heads-last.ensures)
    (comparable j q a i (a + 1) c.requires (omega arith) (omega (arith, j.eight)) (omega (arith, setups_few j a, is.1)) (omega arith) (λ k l y e. omega arith))

pub loop-a-preserved : goal.loop-a-preserved
loop-a-preserved g c =
    let laws = g.met.S.Scale.lawful in
    let end = c.heads-last.result + 1 in
    elim c.match-setup.branch [
      | in-Some w ↦
          let is = w.sum-is ∙ w.join-sum.ensures in
          let cost = w.against_range.ensures in
          simp (is, cost) (pairs_step laws c.args.self.now.costs.now c.args.plan.now c.loop-a.a end c.loop-a.sum _ c.loop-a.invariant w.in-Some.i c.loop-a-test.true (sym c.setup.ensures ∙ w.in-Some.is))
      | in_default w ↦
          simp w.sum-is (pairs_skip laws c.args.self.now.costs.now c.args.plan.now c.loop-a.a end c.loop-a.sum _ c.loop-a.invariant c.loop-a-test.true (sym c.setup.ensures ∙ w.in_default.is))
    ]

pub returns : goal.returns
returns g c =
    pairs_done g.met.S.Scale.lawful c.args.self.now.costs.now c.args.plan.now c.loop-a.a (c.heads-last.result + 1) c.loop-a.sum _ c.loop-a.invariant c.loop-a-test.false
