use Rattle.std.proofs.Common.{◌≡◌, ℕ, ◌+◌, ◌-◌, ◌*◌, ◌<◌, Bool, is_some, Some, sym, ap, ◌∙◌, arith}
use Rattle.std.proofs.lemmas.Nat.{mul-add-lt}
use Rattle.sheet.specs.Tables.{entry, first_fails, celled}
use Rattle.sheet.proofs.Entries.{cell_at, fails_on, fails_here, fails_none}
use Rattle.sheet.proofs.table.Table.first_unlawful.Goals as goal

pub loop-column-preserved : goal.loop-column-preserved
loop-column-preserved g c =
    let good : ℕ → Bool = λ n. is_some (entry g.S.Scale.coding c.args.self.now.digits.now n) in
    let rows = c.args.self.now.shape.rows in
    let columns = c.args.self.now.shape.columns in
    let k = columns * c.rows.row + c.loop-column.column in
    let lt : k < columns * rows = omega (arith, mul-add-lt c.rows.row columns c.loop-column.column rows c.rows-test.true c.loop-column-test.true) in
    let next : k + 1 ≡ columns * c.rows.row + (c.loop-column.column + 1) = omega arith in (
      c.loop-column.invariant.0,
      c.loop-column.invariant.1 ∙ fails_on good k (columns * rows) lt (ap is_some (sym c.entry.ensures) ∙ c.if-is_none.ensures) ∙ ap (λ (m : ℕ). first_fails good m (columns * rows - m)) next,
    )

pub returns-after-rows : goal.returns-after-rows
returns-after-rows g c =
    let good : ℕ → Bool = λ n. is_some (entry g.S.Scale.coding c.args.self.now.digits.now n) in
    let rows = c.args.self.now.shape.rows in
    let columns = c.args.self.now.shape.columns in
    let all : c.rows.row ≡ rows = omega arith in
    c.rows.invariant.0 ∙ sym (ap (celled columns) (c.rows.invariant.1 ∙ fails_none good (columns * c.rows.row) (columns * rows) (rw all (omega arith))))

pub returns-then-is_none : goal.returns-then-is_none
returns-then-is_none g c =
    let good : ℕ → Bool = λ n. is_some (entry g.S.Scale.coding c.args.self.now.digits.now n) in
    let rows = c.args.self.now.shape.rows in
    let columns = c.args.self.now.shape.columns in
    let k = columns * c.rows.row + c.loop-column.column in
    let lt : k < columns * rows = omega (arith, mul-add-lt c.rows.row columns c.loop-column.column rows c.rows-test.true c.loop-column-test.true) in
    sym (ap (celled columns) (c.loop-column.invariant.1 ∙ fails_here good k (columns * rows) lt (ap is_some (sym c.entry.ensures) ∙ c.if-is_none.ensures)) ∙ ap Some (cell_at columns c.rows.row c.loop-column.column c.loop-column-test.true))
