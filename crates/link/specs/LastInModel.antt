-- What waits in a last-in link, and its limit. Assumes nothing.
use Rattle.std.specs.Prelude.{ℕ, ◌≤◌, List, length}
use Rattle.link.specs.declared.row.Row.{Row}
use Rattle.link.specs.RowModel.{row_limit, row_waiting, row_room}

module _ {M : Type 0} where
  abbrev pub last_in_limit : Row M 1 → ℕ
  last_in_limit l = row_limit l

  abbrev pub last_in_waiting : Row M 1 → List M
  last_in_waiting l = row_waiting l

  pub last_in_room : (l : Row M 1) → length (last_in_waiting l) ≤ last_in_limit l
  last_in_room l = row_room l
