-- Where the entries of a granted sheet stand: a sheet that is read keeps all rules, so no pair has a second table, and what one
-- table fills no other does. Assumes nothing.
use Rattle.std.proofs.Common.{◌≡◌, ℕ, zero, suc, ◌+◌, ◌-◌, ◌*◌, ◌<◌, ◌≤◌, Bool, true, false, List, [], ◌∷◌, ◌++◌, length, get_or, take, drop, set, replicate, is_some, Some, Ok, Err, Result, sym, refl, ap, ◌∙◌, ap₂, inl, inr, arith}
use Rattle.std.proofs.lemmas.Nat.{mul-add-lt}
use Rattle.std.proofs.lemmas.List.{length-set, length-replicate, get_or-set_same, get_or-set_other, get_or-replicate, get_or_append_left, drop_at}
use Rattle.std.proofs.lemmas.Bool.{both_ways, and_parts, cases_eq, cond-true, leb-true, ltb-true}
use Rattle.scale.specs.Operations.{Operations}
use Rattle.scale.specs.Coding.{Coding}
use Rattle.problem.specs.Bags.{Out, here, there}
use Rattle.problem.specs.Costs.{pair, place}
use Rattle.job.specs.Plans.{setups}
use Rattle.job.specs.declared.job.Job.{Job}
use Rattle.problem.proofs.Naming.{setups_few}
use Rattle.problem.proofs.Places.{pair_within}
use Rattle.job.proofs.Readings.{setups_read}
use Rattle.sheet.specs.declared.breach.Breach.{Breach}
use Rattle.sheet.specs.declared.frame.Kind.TheVariants.{Opening, Head, Table}
use Rattle.sheet.specs.declared.breach.SheetRefusal.{SheetRefusal}
use Rattle.sheet.specs.declared.progress.Progress.{Progress}
use Rattle.sheet.specs.declared.progress.Stage.{Stage}
use Rattle.sheet.specs.declared.progress.Stage.TheVariants.{Start, Heads, Tables, Ended}
use Rattle.sheet.specs.declared.read.Contents.{Contents}
use Rattle.sheet.specs.Lines.{lines}
use Rattle.sheet.specs.Frames.{Said, opening, head, table, end, misshapen, unknown, kind, frame_of}
use Rattle.sheet.specs.Tables.{entry, table_laid}
use Rattle.sheet.specs.Steps.{start, due_kind, due, setups_of, shape, line_read, frame_laid}
use Rattle.sheet.specs.Fillings.{digits_said, digits_in, shape_said, shaped_laid, lines_filled}
use Rattle.sheet.specs.Sheets.{onward, lines_read, sheet_read, lines_laid, sheet_laid, Tells, Reads, too_little, too_long, refused, granted}
use Rattle.sheet.specs.Judgements.{fits, Changes, opens, knows, has_table, ends, Goes, stays, goes, LaidOut, LaysOut}
use Rattle.sheet.proofs.Fills.{table_length, table_other, table_at}
use Rattle.sheet.proofs.Judges.{line_kept, lines_kept}

module _ {S : Type 0} (c : Coding S) where
  -- the first line and then the others
  record FirstRead (n : ℕ) (s : Progress) (l : List ℕ) (ls : List (List ℕ)) (p : Progress) : Type 0 where
    next : Progress
    first : line_read c s l ≡ Ok next
    others : lines_read c (n + 1) next ls ≡ Ok p

  first_read : (n : ℕ) (s : Progress) (l : List ℕ) (ls : List (List ℕ)) (p : Progress) → lines_read c n s (l ∷ ls) ≡ Ok p → FirstRead n s l ls p
  first_read n s l ls p = judged (line_read c s l) refl
    where
      judged : (r : Result Progress Breach) → line_read c s l ≡ r → onward n (λ t. lines_read c (n + 1) t ls) r ≡ Ok p → FirstRead n s l ls p
      judged (Ok t) e h = record { next = t; first = e; others = h }
      judged (Err b) e h = absurd (let z : ◌≡◌ {A = ℕ} 0 1 = cc in omega arith)

-- where no opening and no head is due any more, heads and setups stay
abbrev Late : Stage → Type 0
Late stage = (due_kind stage Opening ≡ false) × (due_kind stage Head ≡ false)

table_late : (stage : Stage) → due_kind stage Table ≡ true → Late stage
table_late Start h = absurd (both_ways false refl h)
table_late Heads h = absurd (both_ways false refl h)
table_late Tables h = (refl, refl)
table_late Ended h = absurd (both_ways false refl h)

abbrev Settled : Progress → Progress → Type 0
Settled s t = (s.heads ≡ t.heads) × (s.setups ≡ t.setups)

module _ {S : Type 0} (c : Coding S) where
  change_settled : {s t : Progress} {f : Said} → Late s.stage → due s.stage (kind f) ≡ true → Changes c s f t → Late t.stage × Settled s t
  change_settled late h opens = absurd (both_ways _ late.0 h)
  change_settled late h knows = absurd (both_ways _ late.1 h)
  change_settled late h (has_table fresh all) = (late, (refl, refl))
  change_settled late h ends = ((refl, refl), (refl, refl))

  settled : {s t : Progress} {ls : List (List ℕ)} → Late s.stage → Goes c s ls t → Settled s t
  settled late stays = (refl, refl)
  settled late (goes k g) =
      let one = change_settled late k.is_due k.changes in
      let rest = settled one.0 g in
      (one.1.0 ∙ rest.0, one.1.1 ∙ rest.1)

-- a list cut short and padded reads as before the cut
get_or_padded : {X : Type 0} (n m : ℕ) (xs : List X) (z : X) (k : ℕ) → k < n → get_or (take n xs ++ replicate m z) k z ≡ get_or xs k z
get_or_padded zero m xs z k lt = absurd (omega arith)
get_or_padded (suc n) m [] z k lt = padding m k
  where
    padding : (m k : ℕ) → get_or (replicate m z) k z ≡ z
    padding zero k = refl
    padding (suc m) zero = refl
    padding (suc m) (suc k) = padding m k
get_or_padded (suc n) m (x ∷ xs) z zero lt = refl
get_or_padded (suc n) m (x ∷ xs) z (suc k) lt = get_or_padded n m xs z k (omega arith)

-- the job of a sheet has the setups that its heads were said to have
setups_told : (s p : Progress) (told : Contents) → Settled s p → Tells p told → (h : ℕ) → 1 ≤ h → h ≤ s.heads → setups told.job h ≡ setups_of s h
setups_told s p told same tells h low high =
    setups_read told.job h low
    ∙ ap (λ (xs : List ℕ). get_or xs (h - 1) 0) tells.job.setups_are
    ∙ get_or_padded p.heads _ p.setups 0 (h - 1) (omega (arith, same.0))
    ∙ ap (λ (xs : List ℕ). get_or xs (h - 1) 0) (sym same.1)

abbrev is_table : Said → Bool
is_table (opening n scale) = false
is_table (head h d) = false
is_table (table a b ds) = true
is_table end = false
is_table (misshapen k) = false
is_table unknown = false

-- Lines that lay their tables out: which pairs have had a table, the lines, and the costs before and after.
module _ {S : Type 0} (c : Coding S) (j : Job) where
  data Lays : List Bool → List (List ℕ) → List S → List S → Type 0 where
    none : {ts : List Bool} {xs : List S} → Lays ts [] xs xs
    other : {ts : List Bool} {l : List ℕ} {ls : List (List ℕ)} {xs ys : List S} → is_table (frame_of l) ≡ false → Lays ts ls xs ys → Lays ts (l ∷ ls) xs ys
    one : {ts : List Bool} {l : List ℕ} {ls : List (List ℕ)} {xs ys : List S} (a b : ℕ) (ds : List ℕ) → frame_of l ≡ table a b ds → pair a b < 28 → get_or ts (pair a b) false ≡ false →
        ((n : ℕ) → n < setups j b * setups j a → is_some (entry c ds n) ≡ true) →
        Lays (set ts (pair a b) true) ls (table_laid (entry c ds) (setups j b) (pair a b) (setups j a) xs) ys → Lays ts (l ∷ ls) xs ys

  lays_length : {ts : List Bool} {ls : List (List ℕ)} {xs ys : List S} → Lays ts ls xs ys → length ys ≡ length xs
  lays_length none = refl
  lays_length (other f g) = lays_length g
  lays_length (one {xs = xs} a b ds e small fresh all g) = lays_length g ∙ table_length (entry c ds) (setups j b) (pair a b) (setups j a) xs

  -- a place that no table fills keeps what it has
  lays_other : (m : ℕ) (d : S) {ts : List Bool} {ls : List (List ℕ)} {xs ys : List S} → Lays ts ls xs ys →
      ((a b : ℕ) (ds : List ℕ) (l : List ℕ) (rest : List (List ℕ)) → Out l ls rest → frame_of l ≡ table a b ds → (i k : ℕ) → i < setups j a → k < setups j b → m ≡ place a i b k → ⊥) →
      get_or ys m d ≡ get_or xs m d
  lays_other m d none free = refl
  lays_other m d (other f g) free = lays_other m d g (λ a b ds l rest o. free a b ds l _ (there o))
  lays_other m d (one {xs = xs} a b ds e small fresh all g) free =
      lays_other m d g (λ a b ds l rest o. free a b ds l _ (there o))
      ∙ table_other m d (entry c ds) (setups j b) (pair a b) (setups j a) xs (free a b ds _ _ here e)

  -- no pair has a second table
  no_second : {ts : List Bool} {ls rest : List (List ℕ)} {xs ys : List S} {l : List ℕ} (a b : ℕ) (ds : List ℕ) → Lays ts ls xs ys → Out l ls rest → frame_of l ≡ table a b ds → get_or ts (pair a b) false ≡ true → ⊥
  no_second a b ds none o e had = elim o [ ]
  no_second a b ds (other f g) here e had = both_ways _ f (ap is_table e)
  no_second a b ds (other f g) (there o) e had = no_second a b ds g o e had
  no_second a b ds (one a' b' ds' e' small fresh all g) here e had = let p : pair a b ≡ pair a' b' = cc in both_ways _ fresh (rw p at had)
  no_second {ts = ts} a b ds (one a' b' ds' e' small fresh all g) (there o) e had = elim (cases_eq (pair a b) (pair a' b')) [
    | inl p ↦ both_ways _ fresh (rw p at had)
    | inr ne ↦ no_second a b ds g o e (get_or-set_other ts (pair a' b') (pair a b) true false ne ∙ had)
  ]

  -- each entry of a table stands in its place: of the first line's, which later tables leave as it is, and so of each line's
  first_at : {ls : List (List ℕ)} {ys : List S} (d : S) (ts : List Bool) (xs : List S) (a b : ℕ) (ds : List ℕ) → length ts ≡ 28 → length xs ≡ 1792 → pair a b < 28 →
      ((n : ℕ) → n < setups j b * setups j a → is_some (entry c ds n) ≡ true) → Lays (set ts (pair a b) true) ls (table_laid (entry c ds) (setups j b) (pair a b) (setups j a) xs) ys →
      (i k : ℕ) → i < setups j a → k < setups j b → (place a i b k < 1792) × (entry c ds (setups j b * i + k) ≡ Some (get_or ys (place a i b k) d))
  first_at d ts xs a b ds marks room small all g i k row column =
      let rows = setups_few j a in
      let columns = setups_few j b in
      let within : setups j b * i + k < setups j b * setups j a = omega (arith, mul-add-lt i (setups j b) k (setups j a) row column) in
      let filled = table_at d (entry c ds) (setups j b) (pair a b) (setups j a) xs columns (omega arith) i k row column (all (setups j b * i + k) within) in
      let stays_so = lays_other (place a i b k) d g (λ a' b' ds' l rest o e i' k' row' column' same.
      let p : pair a' b' ≡ pair a b = omega (arith, setups_few j a', setups_few j b') in
      no_second a' b' ds' g o e (rw p (get_or-set_same ts (pair a b) true false (rw marks small)))) in
      (omega arith, filled ∙ ap Some (sym stays_so))

  lays_at : {ts : List Bool} {ls rest : List (List ℕ)} {xs ys : List S} {l : List ℕ} (d : S) (a b : ℕ) (ds : List ℕ) → Lays ts ls xs ys → length ts ≡ 28 → length xs ≡ 1792 → Out l ls rest → frame_of l ≡ table a b ds →
      (i k : ℕ) → i < setups j a → k < setups j b → (place a i b k < 1792) × (entry c ds (setups j b * i + k) ≡ Some (get_or ys (place a i b k) d))
  lays_at d a b ds none marks room o e i k row column = elim o [ ]
  lays_at d a b ds (other f g) marks room here e i k row column = absurd (both_ways _ f (ap is_table e))
  lays_at d a b ds (other f g) marks room (there o) e i k row column = lays_at d a b ds g marks room o e i k row column
  lays_at {ts = ts} {xs = xs} d a b ds (one a' b' ds' e' small fresh all g) marks room here e i k row column =
      let pa : a ≡ a' = cc in
      let pb : b ≡ b' = cc in
      let pd : ds ≡ ds' = cc in
      rw (pa, pb, pd) (first_at d ts xs a' b' ds' marks room small all g i k (rw pa at row) (rw pb at column))
  lays_at {ts = ts} {xs = xs} d a b ds (one a' b' ds' e' small fresh all g) marks room (there o) e i k row column =
      lays_at d a b ds g (length-set ts (pair a' b') true ∙ marks) (table_length (entry c ds') (setups j b') (pair a' b') (setups j a') xs ∙ room) o e i k row column

-- a sheet that is read lays its tables out
module _ {S : Type 0} (c : Coding S) (p : Progress) (told : Contents) (tells : Tells p told) where
  line_lays : {s t : Progress} {f : Said} {l : List ℕ} {ls : List (List ℕ)} (xs ys : List S) → frame_of l ≡ f → due s.stage (kind f) ≡ true → fits c s f ≡ true → Changes c s f t → Goes c t ls p →
      Lays c told.job t.tables ls (frame_laid c s f xs) ys → Lays c told.job s.tables (l ∷ ls) xs ys
  line_lays xs ys is h fit opens then g = other (ap is_table is) g
  line_lays xs ys is h fit knows then g = other (ap is_table is) g
  line_lays {s = s} xs ys is h fit (has_table {a} {b} {ds} fresh all) then g =
      let parts = and_parts _ _ fit in
      let heads = and_parts _ _ parts.0 in
      let is_low = and_parts _ _ heads.0 in
      let is_high = and_parts _ _ is_low.1 in
      let low : 1 ≤ a = leb-true 1 a is_low.0 in
      let above : a < b = ltb-true a b is_high.0 in
      let high : b ≤ s.heads = leb-true b s.heads heads.1 in
      let same = settled c (table_late s.stage h) then in
      let ea = setups_told s p told same tells a low (omega arith) in
      let eb = setups_told s p told same tells b (omega arith) high in
      one a b ds is (pair_within a b low above (leb-true b 8 is_high.1)) fresh (rw (ea, eb) all) (rw (ea, eb) g)
  line_lays xs ys is h fit ends then g = other (ap is_table is) g

  lines_lay : (n : ℕ) (s : Progress) (ls : List (List ℕ)) (xs : List S) → lines_read c n s ls ≡ Ok p → Lays c told.job s.tables ls xs (lines_laid c s ls xs)
  lines_lay n s [] xs h = none
  lines_lay n s (l ∷ ls) xs h =
      let r = first_read c n s l ls p h in
      let k = line_kept c s l r.next r.first in
      rw r.first (line_lays xs _ refl k.is_due k.in_range k.changes (lines_kept c (n + 1) r.next ls p r.others) (lines_lay (n + 1) r.next ls (frame_laid c s (frame_of l) xs) r.others))

-- and fills, by what is known at its end, what its lines lay out one after the other
module _ {S : Type 0} (c : Coding S) (p : Progress) where
  line_fills : {s t : Progress} {f : Said} {ls : List (List ℕ)} (xs : List S) → due s.stage (kind f) ≡ true → fits c s f ≡ true → Changes c s f t → Goes c t ls p →
      shaped_laid c (digits_said f) (shape_said c p f) xs ≡ frame_laid c s f xs
  line_fills xs h fit opens then = refl
  line_fills xs h fit knows then = refl
  line_fills {s = s} xs h fit (has_table {a} {b} {ds} fresh all) then =
      let same = settled c (table_late s.stage h) then in
      let by = λ (heads : ℕ) (setups : List ℕ). shape c (record { stage = s.stage; heads = heads; known = 0; setups = setups; tables = s.tables }) a b ds in
      ap (λ o. shaped_laid c ds o xs) (ap₂ by (sym same.0) (sym same.1) ∙ cond-true _ _ _ fit)
  line_fills xs h fit ends then = refl

  pub lines_fill : (n : ℕ) (s : Progress) (ls : List (List ℕ)) (xs : List S) → lines_read c n s ls ≡ Ok p → lines_filled c p ls xs ≡ lines_laid c s ls xs
  lines_fill n s [] xs h = refl
  lines_fill n s (l ∷ ls) xs h =
      let r = first_read c n s l ls p h in
      let k = line_kept c s l r.next r.first in
      let one = ap (λ o. shaped_laid c (digits_in l) o xs) (cond-true _ _ _ k.is_a_line) ∙ line_fills {f = frame_of l} xs k.is_due k.in_range k.changes (lines_kept c (n + 1) r.next ls p r.others) in
      rw r.first (ap (lines_filled c p ls) one ∙ lines_fill (n + 1) r.next ls (frame_laid c s (frame_of l) xs) r.others)

pub laid_out : {S : Type 0} (s : Operations S) (c : Coding S) (sheet : List ℕ) (p : Progress) (told : Contents) (before after : List S) →
    sheet_read c sheet ≡ Ok p → Tells p told → after ≡ sheet_laid c sheet (replicate 1792 s.nothing) ++ drop 1792 before →
    LaidOut s c sheet told.job before after
laid_out s c sheet p told before after read tells is =
    let laid = sheet_laid c sheet (replicate 1792 s.nothing) in
    let lays = lines_lay c p told tells 1 start (lines sheet) (replicate 1792 s.nothing) read in
    let long : length laid ≡ 1792 = lays_length c told.job lays ∙ length-replicate 1792 s.nothing in
    let same : (n : ℕ) → n < 1792 → get_or after n s.nothing ≡ get_or laid n s.nothing = λ n lt.
    ap (λ (xs : List _). get_or xs n s.nothing) is ∙ get_or_append_left laid (drop 1792 before) s.nothing n (omega arith) in
    record {
      each = λ a b ds has i k row column.
          let at = lays_at c told.job s.nothing a b ds lays (length-replicate 28 false) (length-replicate 1792 s.nothing) has.2 has.3 i k row column in
          at.1 ∙ ap Some (sym (same (place a i b k) at.0));
      others = λ n lt free. same n lt ∙ lays_other c told.job n s.nothing lays (λ a b ds l rest o e. free a b ds (l, rest, o, e)) ∙ get_or-replicate 1792 n s.nothing s.nothing lt;
      beyond = ap (drop 1792) is ∙ drop_at laid (drop 1792 before) 1792 long;
    }

pub lays_out : {S : Type 0} (s : Operations S) (c : Coding S) (sheet : List ℕ) (before after : List S) (r : Result Contents SheetRefusal) → Reads s c sheet before r after → LaysOut s c sheet before r after
lays_out s c sheet before after r (too_little lt is same) = rw is same
lays_out s c sheet before after r (too_long ge gt is same) = rw is same
lays_out s c sheet before after r (refused e ge le read is same) = rw is same
lays_out s c sheet before after r (granted p told ge le read tells is laid) = rw is (laid_out s c sheet p told before after read tells laid)
