-- What waits in a first-in link, and its limit. Assumes nothing.
use Rattle.std.specs.Prelude.{ℕ, ◌≤◌, List, length}
use Rattle.link.specs.declared.row.Row.{Row}
use Rattle.link.specs.RowModel.{row_limit, row_waiting, row_room}

module _ {M : Type 0} where
  abbrev pub first_in_limit : Row M 0 → ℕ
  first_in_limit l = row_limit l

  abbrev pub first_in_waiting : Row M 0 → List M
  first_in_waiting l = row_waiting l

  pub first_in_room : (l : Row M 0) → length (first_in_waiting l) ≤ first_in_limit l
  first_in_room l = row_room l
