-- How a sheet is read, line after line: what has been read so far, which kind of frame is due, and what each frame must hold.
-- Assumes nothing.
use Rattle.std.specs.Prelude.{ℕ, ◌+◌, ◌-◌, ◌*◌, Bool, true, false, cond, ◌&&◌, List, length, replicate, Some, None, Ok, Err, Option, Result, ◌==◌, nat_le, nat_lt, slice_index, slice_index_or, slice_set}
use Rattle.scale.specs.Coding.{Coding}
use Rattle.problem.specs.Costs.{pair, is_pair}
use Rattle.sheet.specs.declared.breach.Breach.{Breach}
use Rattle.sheet.specs.declared.breach.Breach.TheVariants.{BadLine, NotDue, BadNumber, SecondTable, BadEntry}
use Rattle.sheet.specs.declared.frame.Kind.{Kind}
use Rattle.sheet.specs.declared.frame.Kind.TheVariants.{Opening, Head, Table, End}
use Rattle.sheet.specs.declared.progress.Stage.{Stage}
use Rattle.sheet.specs.declared.progress.Stage.TheVariants.{Start, Heads, Tables, Ended}
use Rattle.sheet.specs.declared.progress.Progress.{Progress}
use Rattle.sheet.specs.declared.table.Shape.{Shape}
use Rattle.sheet.specs.Lines.{is_line}
use Rattle.sheet.specs.Frames.{Said, opening, head, table, end, misshapen, unknown, kind, frame_of}
use Rattle.sheet.specs.Tables.{entry, first_unlawful, table_laid}

-- nothing read yet
abbrev pub start : Progress
start = record { stage = Start; heads = 0; known = 0; setups = replicate 8 0; tables = replicate 28 false }

-- which kinds are due at each stage: the opening; then a line for each head; then tables and the end
abbrev pub due_kind : Stage → Kind → Bool
due_kind Start Opening = true
due_kind Start Head = false
due_kind Start Table = false
due_kind Start End = false
due_kind Heads Opening = false
due_kind Heads Head = true
due_kind Heads Table = false
due_kind Heads End = false
due_kind Tables Opening = false
due_kind Tables Head = false
due_kind Tables Table = true
due_kind Tables End = true
due_kind Ended Opening = false
due_kind Ended Head = false
due_kind Ended Table = false
due_kind Ended End = false

abbrev pub due : Stage → Option Kind → Bool
due stage (Some k) = due_kind stage k
due stage None = false

abbrev pub in_range : ℕ → Bool
in_range n = nat_le 1 n && nat_le n 8

-- how many setups head h was said to have
abbrev pub setups_of : Progress → ℕ → ℕ
setups_of s h = slice_index s.setups (h - 1)

-- what is known after each frame that is due and right
abbrev pub opened : Progress → ℕ → Progress
opened s n = record { stage = Heads; heads = n; known = 0; setups = s.setups; tables = s.tables }

abbrev pub stage_after : ℕ → ℕ → Stage
stage_after known heads = cond (nat_lt known heads) Heads Tables

abbrev pub headed : Progress → ℕ → Progress
headed s d = record { stage = stage_after (s.known + 1) s.heads; heads = s.heads; known = s.known + 1; setups = slice_set s.setups s.known d; tables = s.tables }

abbrev pub tabled : Progress → ℕ → Progress
tabled s p = record { stage = s.stage; heads = s.heads; known = s.known; setups = s.setups; tables = slice_set s.tables p true }

abbrev pub ended : Progress → Progress
ended s = record { stage = Ended; heads = s.heads; known = s.known; setups = s.setups; tables = s.tables }

abbrev pub entries_judged : Progress → Option (ℕ × ℕ) → Result Progress Breach
entries_judged s (Some at) = Err (BadEntry at.0 at.1)
entries_judged s None = Ok s

module _ {S : Type 0} (c : Coding S) where
  -- numbers in range: the opening's head count, with the scale that is read; the head that is next, with its setups; two heads of
  -- the job in ascending order, with an entry for each two of their setups
  abbrev pub opening_fits : ℕ → ℕ → Bool
  opening_fits n scale = in_range n && scale == c.number

  abbrev pub head_fits : Progress → ℕ → ℕ → Bool
  head_fits s h d = h == s.known + 1 && in_range d

  abbrev pub table_fits : Progress → ℕ → ℕ → List ℕ → Bool
  table_fits s a b ds = (is_pair a b && nat_le b s.heads) && length ds == 2 * c.width * (setups_of s b * setups_of s a)

  -- the shape of a table that fits
  abbrev pub shape : Progress → ℕ → ℕ → List ℕ → Option Shape
  shape s a b ds = cond (table_fits s a b ds) (Some (record { pair = pair a b; rows = setups_of s a; columns = setups_of s b })) None

  -- a table of the right length: the first for its pair, and every entry lawful
  abbrev pub table_read : Progress → ℕ → ℕ → List ℕ → Result Progress Breach
  table_read s a b ds =
      cond (slice_index_or s.tables (pair a b) false) (Err SecondTable) (entries_judged (tabled s (pair a b)) (first_unlawful (entry c ds) (setups_of s a) (setups_of s b)))

  -- a frame that is due
  abbrev pub frame_read : Progress → Said → Result Progress Breach
  frame_read s (opening n scale) = cond (opening_fits n scale) (Ok (opened s n)) (Err BadNumber)
  frame_read s (head h d) = cond (head_fits s h d) (Ok (headed s d)) (Err BadNumber)
  frame_read s (table a b ds) = cond (table_fits s a b ds) (table_read s a b ds) (Err BadNumber)
  frame_read s end = Ok (ended s)
  frame_read s (misshapen k) = Err BadNumber
  frame_read s unknown = Err BadNumber

  abbrev pub step : Progress → Said → Result Progress Breach
  step s f = cond (due s.stage (kind f)) (frame_read s f) (Err NotDue)

  -- one line: what is known after it, or the first rule that it breaks
  abbrev pub line_read : Progress → List ℕ → Result Progress Breach
  line_read s l = cond (is_line l) (step s (frame_of l)) (Err BadLine)

  -- where the entries of a frame go
  abbrev pub frame_laid : Progress → Said → List S → List S
  frame_laid s (opening n scale) xs = xs
  frame_laid s (head h d) xs = xs
  frame_laid s (table a b ds) xs = table_laid (entry c ds) (setups_of s b) (pair a b) (setups_of s a) xs
  frame_laid s end xs = xs
  frame_laid s (misshapen k) xs = xs
  frame_laid s unknown xs = xs
