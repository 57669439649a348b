use Rattle.std.proofs.Common.{◌≡◌, ◌+◌, ◌*◌}
use Rattle.sheet.specs.Tables.{entry, row_laid, table_laid}
use Rattle.sheet.proofs.table.Table.lay.Given as goal

abbrev pub invariant-loop-column : goal.invariant-loop-column
invariant-loop-column g l =
    let sh = l.self.shape in
    l.costs ≡ row_laid (λ j. entry g.S.Scale.coding l.self.digits.now (sh.columns * l.row + j)) (64 * sh.pair + 8 * l.row) l.column l.initial.costs

abbrev pub invariant-loop-row : goal.invariant-loop-row
invariant-loop-row g l = l.costs ≡ table_laid (entry g.S.Scale.coding l.self.digits.now) l.self.shape.columns l.self.shape.pair l.row l.initial.costs
