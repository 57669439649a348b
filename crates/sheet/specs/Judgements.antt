-- Which line of a sheet is refused, in words of the rules: the first line that breaks a rule, by the first rule that it breaks. And
-- where the costs stand that a granted sheet says. Assumes nothing.
use Rattle.std.specs.Prelude.{◌≡◌, ℕ, ◌+◌, ◌*◌, ◌<◌, ◌≤◌, Bool, true, false, List, [], ◌∷◌, ◌++◌, length, drop, is_some, Some, None, Ok, Err, Option, Result, MatchResult, ◌≢◌, slice_index_or}
use Rattle.scale.specs.Operations.{Operations}
use Rattle.scale.specs.Coding.{Coding}
use Rattle.problem.specs.Bags.{Out}
use Rattle.problem.specs.Costs.{pair, place}
use Rattle.job.specs.Plans.{setups}
use Rattle.job.specs.declared.job.Job.{Job}
use Rattle.sheet.specs.declared.breach.Breach.{Breach}
use Rattle.sheet.specs.declared.breach.Breach.TheVariants.{TooLong, TooLittle, BadLine, NotDue, BadNumber, SecondTable, BadEntry}
use Rattle.sheet.specs.declared.breach.SheetRefusal.{SheetRefusal}
use Rattle.sheet.specs.declared.progress.Progress.{Progress}
use Rattle.sheet.specs.declared.read.Contents.{Contents}
use Rattle.sheet.specs.Lines.{lines, is_line}
use Rattle.sheet.specs.Frames.{Said, opening, head, table, end, misshapen, unknown, kind, frame_of}
use Rattle.sheet.specs.Tables.{entry}
use Rattle.sheet.specs.Steps.{start, due, setups_of, opening_fits, head_fits, table_fits, opened, headed, tabled, ended}
use Rattle.sheet.specs.Sheets.{is_ended}

-- Row i and column j of a table have the first entry that a sheet may not have.
pub record FirstUnlawful {S : Type 0} (e : ℕ → Option S) (rows columns i j : ℕ) : Type 0 where
  pub in_row : i < rows
  pub in_column : j < columns
  pub unlawful : e (columns * i + j) ≡ None
  pub before : (n : ℕ) → n < columns * i + j → is_some (e n) ≡ true

module _ {S : Type 0} (c : Coding S) where
  -- lengths and numbers are in range
  abbrev pub fits : Progress → Said → Bool
  fits s (opening n scale) = opening_fits c n scale
  fits s (head h d) = head_fits c s h d
  fits s (table a b ds) = table_fits c s a b ds
  fits s end = true
  fits s (misshapen k) = false
  fits s unknown = false

  -- What is known changes by a frame from s to t: every rule is kept.
  pub data Changes (s : Progress) : Said → Progress → Type 0 where
    opens : {n scale : ℕ} → Changes s (opening n scale) (opened s n)
    knows : {h d : ℕ} → Changes s (head h d) (headed s d)
    has_table : {a b : ℕ} {ds : List ℕ} → slice_index_or s.tables (pair a b) false ≡ false → ((n : ℕ) → n < setups_of s b * setups_of s a → is_some (entry c ds n) ≡ true) →
        Changes s (table a b ds) (tabled s (pair a b))
    ends : Changes s end (ended s)

  -- the line l keeps all rules after s, and t is known then
  pub record Keeps (s : Progress) (l : List ℕ) (t : Progress) : Type 0 where
    pub is_a_line : is_line l ≡ true
    pub is_due : due s.stage (kind (frame_of l)) ≡ true
    pub in_range : fits s (frame_of l) ≡ true
    pub changes : Changes s (frame_of l) t

  -- the next line, or the want of one, breaks this rule and none before it
  pub data Breaks (s : Progress) : List (List ℕ) → Breach → Type 0 where
    no_line : {l : List ℕ} {ls : List (List ℕ)} → is_line l ≡ false → Breaks s (l ∷ ls) BadLine
    not_due : {l : List ℕ} {ls : List (List ℕ)} → is_line l ≡ true → due s.stage (kind (frame_of l)) ≡ false → Breaks s (l ∷ ls) NotDue
    no_end : is_ended s.stage ≡ false → Breaks s [] NotDue
    out_of_range : {l : List ℕ} {ls : List (List ℕ)} → is_line l ≡ true → due s.stage (kind (frame_of l)) ≡ true → fits s (frame_of l) ≡ false → Breaks s (l ∷ ls) BadNumber
    second_table : {l : List ℕ} {ls : List (List ℕ)} (a b : ℕ) (ds : List ℕ) → is_line l ≡ true → due s.stage (kind (frame_of l)) ≡ true → frame_of l ≡ table a b ds → table_fits c s a b ds ≡ true →
        slice_index_or s.tables (pair a b) false ≡ true → Breaks s (l ∷ ls) SecondTable
    bad_entry : {l : List ℕ} {ls : List (List ℕ)} (a b : ℕ) (ds : List ℕ) (i j : ℕ) → is_line l ≡ true → due s.stage (kind (frame_of l)) ≡ true → frame_of l ≡ table a b ds → table_fits c s a b ds ≡ true →
        slice_index_or s.tables (pair a b) false ≡ false → FirstUnlawful (entry c ds) (setups_of s a) (setups_of s b) i j → Breaks s (l ∷ ls) (BadEntry i j)

  -- the lines ls keep all rules one after the other, and lead from s to t
  pub data Goes : Progress → List (List ℕ) → Progress → Type 0 where
    stays : {s : Progress} → Goes s [] s
    goes : {s t u : Progress} {l : List ℕ} {ls : List (List ℕ)} → Keeps s l u → Goes u ls t → Goes s (l ∷ ls) t

  -- Every line of the sheet keeps the rules, and the last is the end.
  pub record Lawful (ls : List (List ℕ)) : Type 0 where
    pub last : Progress
    pub leads : Goes start ls last
    pub has_end : is_ended last.stage ≡ true

  -- The lines before line n keep all rules, and line n breaks the rule.
  pub record Refused (ls : List (List ℕ)) (e : SheetRefusal) : Type 0 where
    pub good : List (List ℕ)
    pub rest : List (List ℕ)
    pub last : Progress
    pub split : ls ≡ good ++ rest
    pub number : e.line ≡ 1 + length good
    pub leads : Goes start good last
    pub breaks : Breaks last rest e.breach

  -- A sheet of at most 24,000 bytes, read with room for 1,792 costs, is granted if every line keeps the rules, and otherwise its first
  -- line that does not is refused.
  pub data Judged (sheet : List ℕ) (room : ℕ) : Result Contents SheetRefusal → Type 0 where
    too_little : {e : SheetRefusal} → room < 1792 → e.line ≡ 0 → e.breach ≡ TooLittle → Judged sheet room (Err e)
    too_long : {e : SheetRefusal} → 1792 ≤ room → 24000 < length sheet → e.line ≡ 0 → e.breach ≡ TooLong → Judged sheet room (Err e)
    refused : {e : SheetRefusal} → 1792 ≤ room → length sheet ≤ 24000 → Refused (lines sheet) e → Judged sheet room (Err e)
    granted : {told : Contents} → 1792 ≤ room → length sheet ≤ 24000 → Lawful (lines sheet) → Judged sheet room (Ok told)

-- the sheet has a table for the heads a and b with these digits
abbrev pub HasTable : List ℕ → ℕ → ℕ → List ℕ → Type 0
HasTable sheet a b ds = (l : List ℕ) × (rest : List (List ℕ)) × Out l (lines sheet) rest × (frame_of l ≡ table a b ds)

-- Each entry stands in its place, every other of the 1,792 places has nothing, and the memory past them is as it was.
pub record LaidOut {S : Type 0} (s : Operations S) (c : Coding S) (sheet : List ℕ) (j : Job) (before after : List S) : Type 0 where
  pub each : (a b : ℕ) (ds : List ℕ) → HasTable sheet a b ds → (i k : ℕ) → i < setups j a → k < setups j b →
      entry c ds (setups j b * i + k) ≡ Some (slice_index_or after (place a i b k) s.nothing)
  pub others : (n : ℕ) → n < 1792 → ((a b : ℕ) (ds : List ℕ) → HasTable sheet a b ds → (i k : ℕ) → i < setups j a → k < setups j b → n ≢ place a i b k) →
      slice_index_or after n s.nothing ≡ s.nothing
  pub beyond : drop 1792 after ≡ drop 1792 before

abbrev pub LaysOut : {S : Type 0} → Operations S → Coding S → List ℕ → List S → Result Contents SheetRefusal → List S → Type 0
LaysOut s c sheet before r after = MatchResult r (λ told. LaidOut s c sheet told.job before after) (λ _. after ≡ before)
