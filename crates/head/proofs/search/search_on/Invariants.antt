use Rattle.std.proofs.Common.{length}
use Rattle.head.specs.SetupSets.{members}
use Rattle.head.proofs.Trying.{Tried}
use Rattle.head.proofs.search.search_on.Given as goal

abbrev pub invariant-loop-setup : goal.invariant-loop-setup
invariant-loop-setup g l =
    Tried g.S.Scale.scale l.prices.job.now l.prices.costs.now l.seat.head l.seat.search l.known l.known.untried l.initial.best (g.L.Link.limit l.initial.link) (g.L.Link.bag l.initial.link) l.untried l.best
    (g.L.Link.limit l.link) (g.L.Link.bag l.link)

abbrev pub decreases-loop-setup : goal.decreases-loop-setup
decreases-loop-setup g l = length (members l.untried)
