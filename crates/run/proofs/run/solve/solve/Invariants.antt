use Rattle.std.proofs.Common.{ℕ, ◌-◌}
use Rattle.head.specs.Lent.{lent, SamePlaces}
use Rattle.run.specs.Worlds.{at}
use Rattle.run.specs.History.{History}
use Rattle.run.specs.Whole.{most_messages}
use Rattle.run.proofs.run.solve.solve.Given as goal

abbrev pub invariant-loop-run : goal.invariant-loop-run
invariant-loop-run g l =
    let L = g.L.Link in
    SamePlaces l.fn.memory l.memory × (k : ℕ) × History g.S.Scale.scale
    (at (lent l.problem.job.now l.problem.costs.now l.initial.memory.records.now l.initial.memory.bests.now (L.limit l.initial.link) (L.bag l.initial.link)) l.initial.run)
    (at (lent l.problem.job.now l.problem.costs.now l.memory.records.now l.memory.bests.now (L.limit l.link) (L.bag l.link)) l.run) k

abbrev pub decreases-loop-run : goal.decreases-loop-run
decreases-loop-run g l = most_messages l.problem.job.now - l.run.count
