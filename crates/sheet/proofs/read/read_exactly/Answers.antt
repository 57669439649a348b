use Rattle.std.proofs.Common.{◌≡◌, Err, ◌++◌, length, drop, replicate, sym, refl, ap, ap₂, ◌∙◌, arith}
use Rattle.std.proofs.lemmas.List.{length-take-le, length-replicate}
use Rattle.std.proofs.lemmas.Result.{err_from_is_err_and}
use Rattle.sheet.specs.Lines.{lines}
use Rattle.sheet.specs.Steps.{start}
use Rattle.sheet.specs.Sheets.{too_little, too_long, refused, granted}
use Rattle.sheet.specs.Fillings.{lines_filled}
use Rattle.sheet.proofs.Lines.{read_ends}
use Rattle.sheet.proofs.LaidOut.{lines_fill}
use Rattle.sheet.proofs.read.read_exactly.Given as given
use Rattle.sheet.proofs.read.read_exactly.Goals as goal
use Rattle.sheet.proofs.read.read_exactly.Goals.{After-fill}

pub returns-then-costs-lt-PLACES : goal.returns-then-costs-lt-PLACES
returns-then-costs-lt-PLACES g c = too_little (omega arith) (ap Err c.at_line.ensures) refl

pub returns-then-sheet-gt-MOST_BYTES : goal.returns-then-sheet-gt-MOST_BYTES
returns-then-sheet-gt-MOST_BYTES g c = too_long (omega arith) (omega arith) (ap Err c.at_line-then-sheet-gt-MOST_BYTES.ensures) refl

pub returns-in_err-progress : goal.returns-in_err-progress
returns-in_err-progress g c =
    let p = err_from_is_err_and c.from_residual.result c.from_residual.ensures.1 in
    rw (p.1, p.2) (refused _ (omega arith) (omega arith) (sym c.in_err-progress.ensures) refl refl)

-- all places have nothing before the tables are laid out
cleared : (g : given.Over) (c : After-fill g) → c.fill.new.places ≡ replicate 1792 g.S.Scale.scale.nothing
cleared g c = c.fill.ensures ∙ ap₂ replicate (length-take-le 1792 _ (omega arith)) c.nothing.ensures

pub lay_out-requires : goal.lay_out-requires
lay_out-requires g c =
    let long = ap length (cleared g (goal.at.lay_out-requires g c).After-fill) ∙ length-replicate 1792 g.S.Scale.scale.nothing in
    omega arith

pub told-requires : goal.told-requires
told-requires g c = read_ends g.S.Scale.coding 1 start c.in_ok-progress.progress (lines c.args.sheet.now) (sym c.in_ok-progress.ensures)

pub returns : goal.returns
returns g c =
    let coding = g.S.Scale.coding in
    let sheet = c.args.sheet.now in
    let p = c.in_ok-progress.progress in
    let all = cleared g (goal.at.returns g c).After-fill in
    let read = sym c.in_ok-progress.ensures in
    granted p c.told.result (omega arith) (omega arith) read c.told.ensures refl
    (ap (λ xs. xs ++ drop 1792 c.args.costs.now) (c.lay_out.ensures ∙ ap (lines_filled coding p (lines sheet)) all ∙ lines_fill coding p 1 start (lines sheet) _ read))
