use Rattle.std.proofs.Common.{sym, ◌∙◌}
use Rattle.head.proofs.Replying.{ready_on, hears_on}
use Rattle.head.proofs.respond.hear.Goals as goal

pub returns-then-not-has_heard_all : goal.returns-then-not-has_heard_all
returns-then-not-has_heard_all g c =
    hears_on g.S.Scale.scale c.args.prices.now.job.now c.args.prices.now.costs.now c.args.known.now c.args.message.now c.args.best.now
    c.join-gathered.result c.with-heard.result c.name-plan.result c.join-gathered.ensures c.with-heard.ensures (simp c.of-seat.ensures at c.name-plan.ensures) _ _
    (sym c.has_heard_all.ensures ∙ c.if-not-has_heard_all.true)

pub search_on-requires : goal.search_on-requires
search_on-requires g c = rw c.of-seat.ensures (ready_on c.args.prices.now.job.now c.args.message.now.to c.args.known.now c.requires)
