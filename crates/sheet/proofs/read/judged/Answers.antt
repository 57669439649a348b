use Rattle.std.proofs.Common.{◌≡◌, length, ap, ◌∙◌, ap₂, arith}
use Rattle.sheet.specs.Lines.{lines}
use Rattle.sheet.specs.Sheets.{lines_read}
use Rattle.sheet.proofs.Lines.{lines_few}
use Rattle.sheet.proofs.read.judged.Goals as goal

pub loop-line-init : goal.loop-line-init
loop-line-init g c =
    let sheet = c.args.sheet.now in
    let all : c.into_iter-line-iterator.result ≡ lines sheet = c.into_iter-line-iterator.ensures.into_iter_gives ∙ c.of-line-items.ensures in
    let long : length c.into_iter-line-iterator.result ≡ length (lines sheet) = ap length all in
    (omega (arith, lines_few sheet), ap₂ (lines_read g.S.Scale.coding 1) c.start-progress.ensures all)
