use Rattle.std.proofs.Common.{sym, ap, ◌∙◌}
use Rattle.head.proofs.Trying.{lowest_has, left_fewer, tried_first, tried_gives_up, tried_found, tried_asks, tried_all}
use Rattle.head.proofs.search.search_on.Goals as goal

pub loop-setup-init : goal.loop-setup-init
loop-setup-init g c = tried_first g.S.Scale.scale c.args.prices.now.job.now c.args.prices.now.costs.now c.args.seat.head c.args.seat.search c.args.known.now _ _ _ _

pub against-requires : goal.against-requires
against-requires g c =
    let i = c.in-Some.setup in
    let mine = c.requires.own i (c.loop-setup.invariant.own i (lowest_has c.loop-setup.untried i (sym c.lowest.ensures ∙ c.in-Some.is))) in
    record { of_job = c.requires.of_job; asked = (mine, c.requires.free) }

pub loop-setup-smaller-then-gives_up : goal.loop-setup-smaller-then-gives_up
loop-setup-smaller-then-gives_up g c = left_fewer c.loop-setup.untried c.without-untried.result c.in-Some.setup (sym c.lowest.ensures ∙ c.in-Some.is) c.without-untried.ensures

pub loop-setup-preserved-then-gives_up : goal.loop-setup-preserved-then-gives_up
loop-setup-preserved-then-gives_up g c =
    tried_gives_up g.S.Scale.scale c.args.prices.now.job.now c.args.prices.now.costs.now c.args.seat.head c.args.seat.search c.args.known.now _ _ _ _
    c.loop-setup.untried c.without-untried.result c.loop-setup.best _ _ c.in-Some.setup (sym c.lowest.ensures ∙ c.in-Some.is) c.without-untried.ensures
    c.join-trial.result (c.join-trial.ensures ∙ ap (g.S.Scale.scale.join c.args.known.now.cost) c.against.ensures) c.loop-setup.invariant
    (sym c.gives_up.ensures ∙ c.if-gives_up.true)

pub returns-then-not-is_complete : goal.returns-then-not-is_complete
returns-then-not-is_complete g c =
    tried_asks g.S.Scale.scale c.args.prices.now.job.now c.args.prices.now.costs.now c.args.seat.head c.args.seat.search c.args.known.now _ _ _ _
    c.loop-setup.untried c.without-untried.result c.loop-setup.best _ _ c.in-Some.setup (sym c.lowest.ensures ∙ c.in-Some.is) c.without-untried.ensures
    c.join-trial.result (c.join-trial.ensures ∙ ap (g.S.Scale.scale.join c.args.known.now.cost) c.against.ensures) c.loop-setup.invariant
    c.name-plan.result c.name-plan.ensures (sym c.gives_up.ensures ∙ c.if-gives_up.false) c.gather.result _ _ (sym c.is_complete.ensures ∙ c.if-not-is_complete.true) (simp c.on_trial.ensures at c.gather.ensures)

pub loop-setup-smaller : goal.loop-setup-smaller
loop-setup-smaller g c = left_fewer c.loop-setup.untried c.without-untried.result c.in-Some.setup (sym c.lowest.ensures ∙ c.in-Some.is) c.without-untried.ensures

pub loop-setup-preserved : goal.loop-setup-preserved
loop-setup-preserved g c =
    tried_found g.S.Scale.scale c.args.prices.now.job.now c.args.prices.now.costs.now c.args.seat.head c.args.seat.search c.args.known.now _ _ _ _
    c.loop-setup.untried c.without-untried.result c.loop-setup.best _ _ c.in-Some.setup (sym c.lowest.ensures ∙ c.in-Some.is) c.without-untried.ensures
    c.join-trial.result (c.join-trial.ensures ∙ ap (g.S.Scale.scale.join c.args.known.now.cost) c.against.ensures) c.loop-setup.invariant
    c.name-plan.result c.name-plan.ensures (sym c.gives_up.ensures ∙ c.if-gives_up.false) _ _ (sym c.is_complete.ensures ∙ c.if-not-is_complete.false) c.notify.ensures

pub returns : goal.returns
returns g c =
    tried_all g.S.Scale.scale c.args.prices.now.job.now c.args.prices.now.costs.now c.args.seat.head c.args.seat.search c.args.known.now _ _ _ _
    c.loop-setup.untried c.loop-setup.best _ _ c.come_back.result _ _ (sym c.lowest.ensures ∙ c.in_default.is) c.loop-setup.invariant c.come_back.ensures
