use Rattle.std.proofs.Common.{◌≡◌, Some, sym, ap, ◌∙◌, arith}
use Rattle.std.proofs.lemmas.Bool.{cond-true}
use Rattle.sheet.specs.Steps.{step}
use Rattle.sheet.proofs.Framed.{framed_some}
use Rattle.sheet.proofs.progress.Progress.after_line.Goals as goal

pub returns : goal.returns
returns g c =
    let some : c.of_line.result ≡ Some c.in_ok-frame.frame = grind arith in
    let is = framed_some c.args.line.now _ (rw some at c.of_line.ensures) in
    c.after_frame.ensures ∙ ap (step g.S.Scale.coding c.args.self) is.1 ∙ sym (cond-true _ _ _ is.0)
