-- Where the entries of lines go by what is known at the end of the sheet. Assumes nothing.
use Rattle.std.specs.Prelude.{ℕ, cond, List, [], ◌∷◌, Some, None, Option}
use Rattle.scale.specs.Coding.{Coding}
use Rattle.sheet.specs.declared.progress.Progress.{Progress}
use Rattle.sheet.specs.declared.table.Shape.{Shape}
use Rattle.sheet.specs.Lines.{is_line}
use Rattle.sheet.specs.Frames.{Said, opening, head, table, end, misshapen, unknown, frame_of}
use Rattle.sheet.specs.Tables.{entry, table_laid}
use Rattle.sheet.specs.Steps.{shape}

-- the digits of a table's entries
abbrev pub digits_said : Said → List ℕ
digits_said (opening n scale) = []
digits_said (head h d) = []
digits_said (table a b ds) = ds
digits_said end = []
digits_said (misshapen k) = []
digits_said unknown = []

abbrev pub digits_in : List ℕ → List ℕ
digits_in l = digits_said (frame_of l)

module _ {S : Type 0} (c : Coding S) where
  -- the shape of the table that a line brings, if it brings one that fits
  abbrev pub shape_said : Progress → Said → Option Shape
  shape_said s (opening n scale) = None
  shape_said s (head h d) = None
  shape_said s (table a b ds) = shape c s a b ds
  shape_said s end = None
  shape_said s (misshapen k) = None
  shape_said s unknown = None

  abbrev pub shape_in : Progress → List ℕ → Option Shape
  shape_in s l = cond (is_line l) (shape_said s (frame_of l)) None

  abbrev pub shaped_laid : List ℕ → Option Shape → List S → List S
  shaped_laid ds (Some sh) xs = table_laid (entry c ds) sh.columns sh.pair sh.rows xs
  shaped_laid ds None xs = xs

  abbrev pub lines_filled : Progress → List (List ℕ) → List S → List S
  lines_filled s [] xs = xs
  lines_filled s (l ∷ ls) xs = lines_filled s ls (shaped_laid (digits_in l) (shape_in s l) xs)
