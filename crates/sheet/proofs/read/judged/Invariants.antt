use Rattle.std.proofs.Common.{◌≡◌, ◌+◌, ◌≤◌, length}
use Rattle.sheet.specs.Sheets.{lines_read, sheet_read}
use Rattle.sheet.proofs.read.judged.Given as goal

-- the lines that are left give the whole
abbrev pub invariant-loop-line : goal.invariant-loop-line
invariant-loop-line g l =
    (l.number + length l.line-iterator ≤ 24001)
    × (lines_read g.S.Scale.coding l.number l.progress l.line-iterator ≡ sheet_read g.S.Scale.coding l.sheet)
