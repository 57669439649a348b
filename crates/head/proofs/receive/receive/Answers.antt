use Rattle.std.proofs.Common.{sym, refl, ◌∙◌}
use Rattle.std.proofs.lemmas.Result.{err_from_is_err_and}
use Rattle.head.specs.Receiving.{Receives}
use Rattle.head.proofs.Taking.{lacks_so, none_taken, one_taken}
use Rattle.head.proofs.receive.receive.Goals as goal

pub returns-then-not-is_enough-clause-receives : goal.returns-then-not-is_enough-clause-receives
returns-then-not-is_enough-clause-receives g c =
    let lacks = lacks_so c.args.problem.now.job.now c.args.problem.now.costs.now c.args.memory.now.records.now c.args.memory.now.bests.now (g.L.Link.limit c.args.link.now) (g.L.Link.bag c.args.link.now) (sym c.is_enough.ensures ∙ c.if-not-is_enough.true) in
    Receives.too_little refl lacks refl refl

pub returns-in_err-take-clause-receives : goal.returns-in_err-take-clause-receives
returns-in_err-take-clause-receives g c =
    let err = err_from_is_err_and c.from_residual-in_err-take.result c.from_residual-in_err-take.ensures.1 in
    rw (err.1, err.2) (none_taken g.S.Scale.scale c.args.out c.args.problem.now.job.now c.args.problem.now.costs.now c.args.memory.now.records.now c.args.memory.now.bests.now _ _ c.args.place.now (sym c.is_enough.ensures ∙ c.if-not-is_enough.false)
    c.in_err-take.field-0.0 _ _ _ c.in_err-take.ensures)

pub returns-clause-receives : goal.returns-clause-receives
returns-clause-receives g c =
    let heeds = simp (c.in_ok-prices.ensures.1, c.in_ok-prices.ensures.2) at c.sort_out.ensures.heeds in
    one_taken g.S.Scale.scale c.args.out c.args.problem.now.job.now c.args.problem.now.costs.now c.args.memory.now.records.now c.args.memory.now.bests.now _ _ c.args.place.now (sym c.is_enough.ensures ∙ c.if-not-is_enough.false)
    tt _ _ c.take.new.place c.sort_out.result _ c.in_ok-take.ensures heeds
