-- What waits in a row of lent places, which takes from one end or from the other, and its limit. The row is first-in where newest is 0
-- and last-in where it is 1. Assumes nothing.
use Rattle.std.specs.Prelude.{ℕ, ◌≤◌, List, length}
use Rattle.link.specs.declared.row.Row.{Row}
use Rattle.link.specs.QueueModel.{limit_of, waiting_in, room_in}

module _ {M : Type 0} {newest : ℕ} where
  abbrev pub row_limit : Row M newest → ℕ
  row_limit l = limit_of l.queue

  -- the oldest first
  abbrev pub row_waiting : Row M newest → List M
  row_waiting l = waiting_in l.queue

  pub row_room : (l : Row M newest) → length (row_waiting l) ≤ row_limit l
  row_room l = room_in l.queue
