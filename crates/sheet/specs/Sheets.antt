-- Whole sheets: what reading one answers and what it leaves in the memory lent for the costs, and, above that, which line is
-- refused and where each entry stands. Assumes nothing.
use Rattle.std.specs.Prelude.{◌≡◌, ℕ, ◌+◌, ◌<◌, ◌≤◌, Bool, true, false, cond, List, [], ◌∷◌, ◌++◌, length, take, drop, replicate, Ok, Err, Result}
use Rattle.scale.specs.Operations.{Operations}
use Rattle.scale.specs.Coding.{Coding}
use Rattle.job.specs.Plans.{JobOf}
use Rattle.sheet.specs.declared.breach.Breach.{Breach}
use Rattle.sheet.specs.declared.breach.Breach.TheVariants.{TooLong, TooLittle, NotDue}
use Rattle.sheet.specs.declared.breach.SheetRefusal.{SheetRefusal}
use Rattle.sheet.specs.declared.progress.Stage.{Stage}
use Rattle.sheet.specs.declared.progress.Stage.TheVariants.{Start, Heads, Tables, Ended}
use Rattle.sheet.specs.declared.progress.Progress.{Progress}
use Rattle.sheet.specs.declared.read.Contents.{Contents}
use Rattle.sheet.specs.Lines.{lines}
use Rattle.sheet.specs.Frames.{frame_of}
use Rattle.sheet.specs.Steps.{start, line_read, frame_laid}

abbrev pub refused_at : ℕ → Breach → SheetRefusal
refused_at n b = record { line = n; breach = b }

abbrev pub is_ended : Stage → Bool
is_ended Start = false
is_ended Heads = false
is_ended Tables = false
is_ended Ended = true

-- after line n: go on, or refuse it
abbrev pub onward : ℕ → (Progress → Result Progress SheetRefusal) → Result Progress Breach → Result Progress SheetRefusal
onward n rest (Ok t) = rest t
onward n rest (Err b) = Err (refused_at n b)

module _ {S : Type 0} (c : Coding S) where
  -- the lines from number n on: what is known at the end, or the first refusal; the end itself may be missing
  abbrev pub lines_read : ℕ → Progress → List (List ℕ) → Result Progress SheetRefusal
  lines_read n s [] = cond (is_ended s.stage) (Ok s) (Err (refused_at n NotDue))
  lines_read n s (l ∷ ls) = onward n (λ t. lines_read (n + 1) t ls) (line_read c s l)

  abbrev pub sheet_read : List ℕ → Result Progress SheetRefusal
  sheet_read bs = lines_read 1 start (lines bs)

  -- where the entries of all lines up to the first refused one go
  abbrev pub onto_laid : (Progress → List S → List S) → Result Progress Breach → List S → List S → List S
  onto_laid rest (Ok t) xs ys = rest t ys
  onto_laid rest (Err b) xs ys = xs

  abbrev pub lines_laid : Progress → List (List ℕ) → List S → List S
  lines_laid s [] xs = xs
  lines_laid s (l ∷ ls) xs = onto_laid (λ t. lines_laid t ls) (line_read c s l) xs (frame_laid c s (frame_of l) xs)

  abbrev pub sheet_laid : List ℕ → List S → List S
  sheet_laid bs xs = lines_laid start (lines bs) xs

-- what the reader's caller is told of a sheet that was read to its end
pub record Tells (s : Progress) (told : Contents) : Type 0 where
  pub job : JobOf (take s.heads s.setups) told.job
  pub tables : told.tables ≡ s.tables

-- What reading a sheet answers and leaves, by the bytes of the sheet and what the lent memory held before: four cases, in the
-- order in which they are asked. A refusal leaves the memory as it was. A granted read puts nothing in the first 1,792 places and
-- then each entry in its place; what lies past those places stays.
module _ {S : Type 0} (s : Operations S) (c : Coding S) (sheet : List ℕ) (before : List S) where
  pub data Reads : Result Contents SheetRefusal → List S → Type 0 where
    too_little : {r : Result Contents SheetRefusal} {after : List S} → length before < 1792 → r ≡ Err (refused_at 0 TooLittle) → after ≡ before → Reads r after
    too_long : {r : Result Contents SheetRefusal} {after : List S} → 1792 ≤ length before → 24000 < length sheet → r ≡ Err (refused_at 0 TooLong) → after ≡ before → Reads r after
    refused : {r : Result Contents SheetRefusal} {after : List S} (e : SheetRefusal) → 1792 ≤ length before → length sheet ≤ 24000 → sheet_read c sheet ≡ Err e → r ≡ Err e → after ≡ before → Reads r after
    granted : {r : Result Contents SheetRefusal} {after : List S} (p : Progress) (told : Contents) → 1792 ≤ length before → length sheet ≤ 24000 → sheet_read c sheet ≡ Ok p → Tells p told → r ≡ Ok told →
        after ≡ sheet_laid c sheet (replicate 1792 s.nothing) ++ drop 1792 before → Reads r after
