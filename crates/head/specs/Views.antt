-- A record as promises see it: whole, unless it rests. So the other fields of a resting record are free. Assumes nothing.
use Rattle.std.specs.Prelude.{◌≡◌, ℕ, ◌+◌, ◌-◌, ◌*◌, List, slice_set}
use Rattle.head.specs.declared.record.State.{State}
use Rattle.head.specs.declared.record.State.TheVariants.{Resting, Gathering, Below}
use Rattle.head.specs.declared.record.Record.{Record}

pub data View (S : Type 0) : Type 0 where
  rests : View S
  shows : Record S → View S

-- What an act does to the record that it is about: nothing at all, or the record comes to look so.
pub data Turn (S : Type 0) : Type 0 where
  stays : Turn S
  becomes : View S → Turn S

module _ {S : Type 0} where
  abbrev seen : State → Record S → View S
  seen Resting r = rests
  seen Gathering r = shows r
  seen Below r = shows r

  abbrev pub view : Record S → View S
  view r = seen r.state r

  abbrev pub Turns : Turn S → Record S → Record S → Type 0
  Turns stays before after = after ≡ before
  Turns (becomes v) before after = view after ≡ v

  -- The records after a turn at a place: every other place is as it was.
  abbrev pub Turned : List (Record S) → ℕ → Turn S → List (Record S) → Type 0
  Turned before at stays after = after ≡ before
  Turned before at (becomes v) after = (r : Record S) × (view r ≡ v) × (after ≡ slice_set before at r)

-- the place of head h's record of search v: its row of eight begins at 8 × (h − 1)
abbrev pub spot : ℕ → ℕ → ℕ
spot h v = 8 * (h - 1) + v
