use Rattle.run.proofs.Beginning.{SoFar}
use Rattle.run.proofs.run.start.begin.Given as goal

abbrev pub invariant-loop-v : goal.invariant-loop-v
invariant-loop-v g l =
    SoFar g.S.Scale.scale l.prices.job.now l.prices.costs.now l.initial.best (g.L.Link.limit l.initial.link) (g.L.Link.bag l.initial.link) l.v l.out l.row l.best (g.L.Link.limit l.link) (g.L.Link.bag l.link)
