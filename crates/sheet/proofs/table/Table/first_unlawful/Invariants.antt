use Rattle.std.proofs.Common.{◌≡◌, ℕ, ◌+◌, ◌-◌, ◌*◌, Bool, is_some, None}
use Rattle.sheet.specs.Tables.{entry, first_fails}
use Rattle.sheet.proofs.table.Table.first_unlawful.Given as goal

-- all entries before this row and this column are lawful
abbrev pub invariant-loop-column : goal.invariant-loop-column
invariant-loop-column g l =
    let good : ℕ → Bool = λ n. is_some (entry g.S.Scale.coding l.self.digits.now n) in
    let sh = l.self.shape in
    (l.found ≡ None)
    × (first_fails good 0 (sh.columns * sh.rows) ≡ first_fails good (sh.columns * l.row + l.column) (sh.columns * sh.rows - (sh.columns * l.row + l.column)))

abbrev pub invariant-rows : goal.invariant-rows
invariant-rows g l =
    let good : ℕ → Bool = λ n. is_some (entry g.S.Scale.coding l.self.digits.now n) in
    let sh = l.self.shape in
    (l.found ≡ None)
    × (first_fails good 0 (sh.columns * sh.rows) ≡ first_fails good (sh.columns * l.row) (sh.columns * sh.rows - sh.columns * l.row))
