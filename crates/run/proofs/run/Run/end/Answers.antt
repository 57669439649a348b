use Rattle.std.proofs.Common.{sym, refl, ◌∙◌, arith}
use Rattle.std.proofs.lemmas.List.{get_or_default}
use Rattle.head.specs.Bests.{at_first}
use Rattle.head.specs.Lent.{lent}
use Rattle.head.proofs.Taking.{enough_so, lacks_so}
use Rattle.run.specs.Worlds.{at}
use Rattle.run.specs.Ending.{Ends}
use Rattle.run.proofs.Closing.{ends_so}
use Rattle.run.proofs.Promises.{end_promise}
use Rattle.run.proofs.run.Run.end.Goals as goal

pub returns-then-not-is_enough : goal.returns-then-not-is_enough
returns-then-not-is_enough g c =
    let l = lent c.args.problem.now.job.now c.args.problem.now.costs.now c.args.memory.now.records.now c.args.memory.now.bests.now (g.L.Link.limit c.args.link.now) (g.L.Link.bag c.args.link.now) in
    end_promise g.S.Scale.scale g.met.S.Scale.lawful (at l c.args.self) _
    (Ends.too_little refl (lacks_so l.job l.costs l.records l.bests l.limit l.bag (sym c.is_enough.ensures ∙ c.if-not-is_enough.true)) refl)

pub returns : goal.returns
returns g c =
    let s = g.S.Scale.scale in
    let l = lent c.args.problem.now.job.now c.args.problem.now.costs.now c.args.memory.now.records.now c.args.memory.now.bests.now (g.L.Link.limit c.args.link.now) (g.L.Link.bag c.args.link.now) in
    let e = enough_so l.job l.costs l.records l.bests l.limit l.bag (sym c.is_enough.ensures ∙ c.if-not-is_enough.false) in
    let read = get_or_default l.bests 0 _ (at_first s) (omega (arith, e.bests)) in
    end_promise s g.met.S.Scale.lawful (at l c.args.self) _ (ends_so s (at l c.args.self) _ _ e read c.end_with.ensures)
