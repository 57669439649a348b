-- Which scale a sheet is to be read with: the one that a lawful first line names, and minutes for any other sheet. Assumes nothing.
use Rattle.std.specs.Prelude.{ℕ, Bool, false, cond, ◌&&◌, List, take, ◌==◌, slice_index_or}
use Rattle.problem.specs.Costs.{pair, is_pair}
use Rattle.sheet.specs.declared.opening.ScaleName.{ScaleName}
use Rattle.sheet.specs.declared.opening.ScaleName.TheVariants.{Minutes, Clashes}
use Rattle.sheet.specs.declared.read.Contents.{Contents}
use Rattle.sheet.specs.Lines.{line_length, is_line}
use Rattle.sheet.specs.Frames.{Said, opening, head, table, end, misshapen, unknown, frame_of}
use Rattle.sheet.specs.Steps.{in_range}

-- the number of each scale
abbrev pub number : ScaleName → ℕ
number Minutes = 1
number Clashes = 2

abbrev pub scale_said : Said → ScaleName
scale_said (opening n scale) = cond (in_range n && scale == 2) Clashes Minutes
scale_said (head h d) = Minutes
scale_said (table a b ds) = Minutes
scale_said end = Minutes
scale_said (misshapen k) = Minutes
scale_said unknown = Minutes

abbrev pub first_line : List ℕ → List ℕ
first_line sheet = take (line_length sheet) sheet

-- the scale that a line names if it is a lawful opening; minutes for any other line
abbrev pub scale_in : List ℕ → ScaleName
scale_in l = cond (is_line l) (scale_said (frame_of l)) Minutes

abbrev pub scale_of : List ℕ → ScaleName
scale_of sheet = cond (is_line (first_line sheet)) (scale_said (frame_of (first_line sheet))) Minutes

-- whether a sheet had a table for the heads a and b
abbrev pub has_table_for : Contents → ℕ → ℕ → Bool
has_table_for told a b = cond (is_pair a b) (slice_index_or told.tables (pair a b) false) false
