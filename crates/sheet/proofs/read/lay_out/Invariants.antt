use Rattle.std.proofs.Common.{◌≡◌}
use Rattle.sheet.specs.Lines.{lines}
use Rattle.sheet.specs.Fillings.{lines_filled}
use Rattle.sheet.proofs.read.lay_out.Given as goal

-- the lines that are left fill what the whole does
abbrev pub invariant-loop-line : goal.invariant-loop-line
invariant-loop-line g l =
    lines_filled g.S.Scale.coding l.progress l.line-iterator l.costs ≡ lines_filled g.S.Scale.coding l.progress (lines l.sheet) l.initial.costs
