use Rattle.std.proofs.Common.{◌++◌, ◌∙◌, arith, length-append}
use Rattle.std.proofs.lemmas.List.{take_all}
use Rattle.std.proofs.lemmas.Result.{err_from_is_err_and}
use Rattle.problem.specs.Bags.{Same}
use Rattle.link.proofs.Bags.{same_length}
use Rattle.linkdemo.proofs.Filling.{too_many}
use Rattle.linkdemo.proofs.fill.fill.Goals as goal

pub returns-in_err-post : goal.returns-in_err-post
returns-in_err-post g c =
    let p = err_from_is_err_and c.from_residual.result c.from_residual.ensures.1 in
    let full = c.in_err-post.ensures in
    let inv = c.loop-message.invariant in
    let many = too_many _ _ c.args.messages.now c.loop-message.message-index _ (omega arith) inv.1 (full.1 ∙ inv.0) in
    rw (p.1, p.2) (full.0, many, full.2 ∙ inv.0, omega (arith, same_length full.3, full.1, inv.0))

pub returns : goal.returns
returns g c =
    let bag = g.L.Link.bag c.args.link.now in
    let ms = c.args.messages.now in
    let all : Same (bag ++ ms) (g.L.Link.bag c.loop-message.link) = rw (take_all c.loop-message.message-index ms (omega arith)) at c.loop-message.invariant.1 in
    (omega (arith, same_length all, length-append bag ms, g.L.Link.room c.loop-message.link, c.loop-message.invariant.0), c.loop-message.invariant.0, all)
