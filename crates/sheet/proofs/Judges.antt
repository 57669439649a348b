-- What reading a sheet answers, in the words of the rules. Assumes nothing.
use Rattle.std.proofs.Common.{◌≡◌, ℕ, zero, suc, ◌+◌, ◌*◌, ◌/◌, ◌%◌, ◌<◌, ◌≤◌, Bool, true, false, cond, ◌⊎◌, List, [], ◌∷◌, ◌++◌, length, get_or, is_some, Some, None, Ok, Err, Option, Result, sym, refl, ap, ◌∙◌, subst, inl, inr, mod-lt, arith}
use Rattle.std.proofs.lemmas.Nat.{div_below, div-add-mod'}
use Rattle.std.proofs.lemmas.Bool.{cases_Bool, cases_lt, cases_eq, cond-true, cond-false}
use Rattle.scale.specs.Operations.{Operations}
use Rattle.scale.specs.Coding.{Coding}
use Rattle.problem.specs.Costs.{pair}
use Rattle.sheet.specs.declared.breach.Breach.{Breach}
use Rattle.sheet.specs.declared.breach.Breach.TheVariants.{BadLine, NotDue, BadNumber, SecondTable, BadEntry}
use Rattle.sheet.specs.declared.breach.SheetRefusal.{SheetRefusal}
use Rattle.sheet.specs.declared.progress.Progress.{Progress}
use Rattle.sheet.specs.declared.read.Contents.{Contents}
use Rattle.sheet.specs.Lines.{lines, is_line}
use Rattle.sheet.specs.Frames.{Said, opening, head, table, end, misshapen, unknown, kind, frame_of}
use Rattle.sheet.specs.Tables.{entry, first_fails, celled, first_unlawful}
use Rattle.sheet.specs.Steps.{start, due, setups_of, opening_fits, head_fits, table_fits, opened, headed, tabled, ended, entries_judged, table_read, frame_read, step, line_read}
use Rattle.sheet.specs.Sheets.{refused_at, is_ended, onward, lines_read, sheet_read, Reads}
use Rattle.sheet.specs.Judgements.{FirstUnlawful, fits, Changes, opens, knows, has_table, ends, Keeps, Breaks, no_line, not_due, no_end, out_of_range, second_table, bad_entry, Goes, stays, goes, Judged, too_little, too_long, refused, granted}

-- a test that is passed, or refused by e
module _ {X E : Type 0} (t : Bool) (r : Result X E) (e : E) where
  pub passed : {x : X} → cond t r (Err e) ≡ Ok x → (t ≡ true) × (r ≡ Ok x)
  passed {x} h = elim (cases_Bool t) [
    | inl y ↦ (y, sym (cond-true _ _ _ y) ∙ h)
    | inr n ↦ absurd (let z : Err e ≡ Ok x = sym (cond-false t r (Err e) n) ∙ h in let o : ◌≡◌ {A = ℕ} 0 1 = cc in omega arith)
  ]

  pub broken : {b : E} → cond t r (Err e) ≡ Err b → ((t ≡ true) × (r ≡ Err b)) ⊎ ((t ≡ false) × (e ≡ b))
  broken {b} h = elim (cases_Bool t) [
    | inl y ↦ inl (y, sym (cond-true _ _ _ y) ∙ h)
    | inr n ↦ inr (n, let z : Err e ≡ Err b = sym (cond-false t r (Err e) n) ∙ h in cc)
  ]

-- the first that fails is the first: it fails, and all before it pass
pub record First (good : ℕ → Bool) (k n m : ℕ) : Type 0 where
  pub from : k ≤ m
  pub below : m < k + n
  pub fails : good m ≡ false
  pub before : (i : ℕ) → k ≤ i → i < m → good i ≡ true

pub first_is : (good : ℕ → Bool) (k n m : ℕ) → first_fails good k n ≡ Some m → First good k n m
first_is good k zero m e = absurd (let o : ◌≡◌ {A = ℕ} 0 1 = cc in omega arith)
first_is good k (suc n) m e = elim (cases_Bool (good k)) [
  | inl y ↦ longer y (first_is good (k + 1) n m (sym (cond-true _ _ _ y) ∙ e))
  | inr f ↦ here f (let z : Some k ≡ Some m = sym (cond-false _ _ _ f) ∙ e in cc)
]
  where
    longer : good k ≡ true → First good (k + 1) n m → First good k (suc n) m
    longer y h = record {
      from = omega (arith, h.from);
      below = omega (arith, h.below);
      fails = h.fails;
      before = λ i l u. elim (cases_eq i k) [ inl is ↦ ap good is ∙ y | inr ne ↦ h.before i (omega arith) u ];
    }

    here : good k ≡ false → k ≡ m → First good k (suc n) m
    here f is = record { from = omega arith; below = omega arith; fails = ap good (sym is) ∙ f; before = λ i l u. absurd (omega arith) }

pub all_pass : (good : ℕ → Bool) (k n : ℕ) → first_fails good k n ≡ None → (i : ℕ) → k ≤ i → i < k + n → good i ≡ true
all_pass good k zero e i l u = absurd (omega arith)
all_pass good k (suc n) e i l u = elim (cases_Bool (good k)) [
  | inl y ↦ elim (cases_eq i k) [ inl is ↦ ap good is ∙ y | inr ne ↦ all_pass good (k + 1) n (sym (cond-true _ _ _ y) ∙ e) i (omega arith) (omega arith) ]
  | inr f ↦ absurd (let z : Some k ≡ None = sym (cond-false (good k) (first_fails good (k + 1) n) (Some k) f) ∙ e in let o : ◌≡◌ {A = ℕ} 0 1 = cc in omega arith)
]

absent : {S : Type 0} (o : Option S) → is_some o ≡ false → o ≡ None
absent (Some x) e = absurd (let o : ◌≡◌ {A = ℕ} 0 1 = cc in omega arith)
absent None e = refl

module _ {S : Type 0} (e : ℕ → Option S) (rows columns : ℕ) where
  at_cell : (m : ℕ) → First (λ n. is_some (e n)) 0 (columns * rows) m → FirstUnlawful e rows columns (m / columns) (m % columns)
  at_cell m f =
      let some : 0 < columns = elim (cases_lt 0 columns) [ inl lt ↦ lt | inr ge ↦ absurd (none_below ge f.below) ] in
      let at : columns * (m / columns) + m % columns ≡ m = omega (arith, div-add-mod' m columns) in
      record {
        in_row = div_below m columns rows some (omega (arith, f.below));
        in_column = mod-lt m some;
        unlawful = ap e at ∙ absent (e m) f.fails;
        before = λ n lt. f.before n (omega arith) (omega arith);
      }
    where
      none_below : columns ≤ 0 → m < 0 + columns * rows → ⊥
      none_below z lt = let nil : columns ≡ 0 = omega arith in let h : m < 0 + 0 * rows = rw nil at lt in omega arith

  pub unlawful_at : (at : ℕ × ℕ) → first_unlawful e rows columns ≡ Some at → FirstUnlawful e rows columns at.0 at.1
  unlawful_at at h = by_first (first_fails (λ n. is_some (e n)) 0 (columns * rows)) refl h
    where
      by_first : (o : Option ℕ) → first_fails (λ n. is_some (e n)) 0 (columns * rows) ≡ o → celled columns o ≡ Some at → FirstUnlawful e rows columns at.0 at.1
      by_first (Some m) is k =
          let same : (m / columns, m % columns) ≡ at = cc in
          subst (λ (p : ℕ × ℕ). FirstUnlawful e rows columns p.0 p.1) same (at_cell m (first_is _ 0 (columns * rows) m is))
      by_first None is k = absurd (let o : ◌≡◌ {A = ℕ} 0 1 = cc in omega arith)

  pub lawful_all : first_unlawful e rows columns ≡ None → (n : ℕ) → n < columns * rows → is_some (e n) ≡ true
  lawful_all h n lt = by_first (first_fails (λ k. is_some (e k)) 0 (columns * rows)) refl h
    where
      by_first : (o : Option ℕ) → first_fails (λ k. is_some (e k)) 0 (columns * rows) ≡ o → celled columns o ≡ None → is_some (e n) ≡ true
      by_first (Some m) is k = absurd (let o : ◌≡◌ {A = ℕ} 0 1 = cc in omega arith)
      by_first None is k = all_pass _ 0 (columns * rows) is n (omega arith) (omega arith)

module _ {S : Type 0} (c : Coding S) (s : Progress) where
  -- a frame that is due and read keeps the rules
  pub frame_kept : (f : Said) (t : Progress) → frame_read c s f ≡ Ok t → (fits c s f ≡ true) × Changes c s f t
  frame_kept (opening n scale) t e = let h = passed _ _ _ e in (h.0, let is : opened s n ≡ t = let z = h.1 in cc in subst (Changes c s (opening n scale)) is opens)
  frame_kept (head h d) t e = let k = passed _ _ _ e in (k.0, let is : headed s d ≡ t = let z = k.1 in cc in subst (Changes c s (head h d)) is knows)
  frame_kept (table a b ds) t e = let h = passed _ _ _ e in (h.0, by_seen (get_or s.tables (pair a b) false) refl h.1)
    where
      by_entries : get_or s.tables (pair a b) false ≡ false → (o : Option (ℕ × ℕ)) → first_unlawful (entry c ds) (setups_of s a) (setups_of s b) ≡ o → entries_judged (tabled s (pair a b)) o ≡ Ok t → Changes c s (table a b ds) t
      by_entries new None is k = let same : tabled s (pair a b) ≡ t = cc in subst (Changes c s (table a b ds)) same (has_table new (lawful_all (entry c ds) (setups_of s a) (setups_of s b) is))
      by_entries new (Some at) is k = absurd (let o : ◌≡◌ {A = ℕ} 0 1 = cc in omega arith)

      by_seen : (seen : Bool) → get_or s.tables (pair a b) false ≡ seen → cond seen (Err SecondTable) (entries_judged (tabled s (pair a b)) (first_unlawful (entry c ds) (setups_of s a) (setups_of s b))) ≡ Ok t → Changes c s (table a b ds) t
      by_seen true is k = absurd (let o : ◌≡◌ {A = ℕ} 0 1 = cc in omega arith)
      by_seen false is k = by_entries is _ refl k
  frame_kept end t e = (refl, let is : ended s ≡ t = cc in subst (Changes c s end) is ends)
  frame_kept (misshapen k) t e = absurd (let o : ◌≡◌ {A = ℕ} 0 1 = cc in omega arith)
  frame_kept unknown t e = absurd (let o : ◌≡◌ {A = ℕ} 0 1 = cc in omega arith)

  -- which rule a frame that is due breaks
  data FrameBreaks : Said → Breach → Type 0 where
    misfit : {f : Said} → fits c s f ≡ false → FrameBreaks f BadNumber
    again : {a b : ℕ} {ds : List ℕ} → table_fits c s a b ds ≡ true → get_or s.tables (pair a b) false ≡ true → FrameBreaks (table a b ds) SecondTable
    unlawful_entry : {a b : ℕ} {ds : List ℕ} {i j : ℕ} → table_fits c s a b ds ≡ true → get_or s.tables (pair a b) false ≡ false → FirstUnlawful (entry c ds) (setups_of s a) (setups_of s b) i j →
        FrameBreaks (table a b ds) (BadEntry i j)

  misfits : {b : Breach} (f : Said) → fits c s f ≡ false → BadNumber ≡ b → FrameBreaks f b
  misfits f h e = subst (FrameBreaks f) e (misfit h)

  frame_broken : (f : Said) (b : Breach) → frame_read c s f ≡ Err b → FrameBreaks f b
  frame_broken (opening n scale) b e = elim (broken (opening_fits c n scale) (Ok (opened s n)) BadNumber e) [
    | inl h ↦ absurd (let z = h.1 in let o : ◌≡◌ {A = ℕ} 0 1 = cc in omega arith)
    | inr h ↦ misfits (opening n scale) h.0 h.1
  ]
  frame_broken (head h d) b e = elim (broken (head_fits c s h d) (Ok (headed s d)) BadNumber e) [
    | inl k ↦ absurd (let z = k.1 in let o : ◌≡◌ {A = ℕ} 0 1 = cc in omega arith)
    | inr k ↦ misfits (head h d) k.0 k.1
  ]
  frame_broken (table a₁ a₂ ds) b e = elim (broken (table_fits c s a₁ a₂ ds) (table_read c s a₁ a₂ ds) BadNumber e) [
    | inl h ↦ by_seen h.0 (get_or s.tables (pair a₁ a₂) false) refl h.1
    | inr h ↦ misfits (table a₁ a₂ ds) h.0 h.1
  ]
    where
      by_entries : table_fits c s a₁ a₂ ds ≡ true → get_or s.tables (pair a₁ a₂) false ≡ false → (o : Option (ℕ × ℕ)) → first_unlawful (entry c ds) (setups_of s a₁) (setups_of s a₂) ≡ o → entries_judged (tabled s (pair a₁ a₂)) o ≡ Err b → FrameBreaks (table a₁ a₂ ds) b
      by_entries fit new (Some at) is k =
          let same : BadEntry at.0 at.1 ≡ b = cc in
          subst (FrameBreaks (table a₁ a₂ ds)) same (unlawful_entry fit new (unlawful_at (entry c ds) (setups_of s a₁) (setups_of s a₂) at is))
      by_entries fit new None is k = absurd (let o : ◌≡◌ {A = ℕ} 0 1 = cc in omega arith)

      by_seen : table_fits c s a₁ a₂ ds ≡ true → (seen : Bool) → get_or s.tables (pair a₁ a₂) false ≡ seen → cond seen (Err SecondTable) (entries_judged (tabled s (pair a₁ a₂)) (first_unlawful (entry c ds) (setups_of s a₁) (setups_of s a₂))) ≡ Err b → FrameBreaks (table a₁ a₂ ds) b
      by_seen fit true is k = let same : SecondTable ≡ b = cc in subst (FrameBreaks (table a₁ a₂ ds)) same (again fit is)
      by_seen fit false is k = by_entries fit is _ refl k
  frame_broken end b e = absurd (let o : ◌≡◌ {A = ℕ} 0 1 = cc in omega arith)
  frame_broken (misshapen k) b e = misfits (misshapen k) refl (let same : BadNumber ≡ b = cc in same)
  frame_broken unknown b e = misfits unknown refl (let same : BadNumber ≡ b = cc in same)

  -- a line that is read keeps all rules, and one that is refused breaks the rule named
  pub line_kept : (l : List ℕ) (t : Progress) → line_read c s l ≡ Ok t → Keeps c s l t
  line_kept l t e =
      let a_line = passed _ _ _ e in
      let a_due = passed _ _ _ a_line.1 in
      let kept = frame_kept (frame_of l) t a_due.1 in
      record { is_a_line = a_line.0; is_due = a_due.0; in_range = kept.0; changes = kept.1 }

  pub line_broken : (l : List ℕ) (ls : List (List ℕ)) (b : Breach) → line_read c s l ≡ Err b → Breaks c s (l ∷ ls) b
  line_broken l ls b e = elim (broken (is_line l) (step c s (frame_of l)) BadLine e) [
    | inr h ↦ subst (Breaks c s (l ∷ ls)) h.1 (no_line h.0)
    | inl h ↦ elim (broken (due s.stage (kind (frame_of l))) (frame_read c s (frame_of l)) NotDue h.1) [
      | inr k ↦ subst (Breaks c s (l ∷ ls)) k.1 (not_due h.0 k.0)
      | inl k ↦ by_frame (frame_of l) b refl h.0 k.0 (frame_broken (frame_of l) b k.1)
    ]
  ]
    where
      by_frame : (f : Said) (b' : Breach) → frame_of l ≡ f → is_line l ≡ true → due s.stage (kind (frame_of l)) ≡ true → FrameBreaks f b' → Breaks c s (l ∷ ls) b'
      by_frame f b' is a_line a_due (misfit h) = out_of_range a_line a_due (ap (fits c s) is ∙ h)
      by_frame f b' is a_line a_due (again {a = a} {b = a'} {ds = ds} fit seen) = second_table a a' ds a_line a_due is fit seen
      by_frame f b' is a_line a_due (unlawful_entry {a = a} {b = a'} {ds = ds} {i = i} {j = j} fit new first) = bad_entry a a' ds i j a_line a_due is fit new first

-- the lines from number n on
record RefusedFrom {S : Type 0} (c : Coding S) (n : ℕ) (s : Progress) (ls : List (List ℕ)) (e : SheetRefusal) : Type 0 where
  good : List (List ℕ)
  rest : List (List ℕ)
  last : Progress
  split : ls ≡ good ++ rest
  number : e.line ≡ n + length good
  leads : Goes c s good last
  breaks : Breaks c last rest e.breach

abbrev Verdict : {S : Type 0} → Coding S → ℕ → Progress → List (List ℕ) → Result Progress SheetRefusal → Type 0
Verdict c n s ls (Ok p) = Goes c s ls p × (is_ended p.stage ≡ true)
Verdict c n s ls (Err e) = RefusedFrom c n s ls e

module _ {S : Type 0} (c : Coding S) where
  at_end : (n : ℕ) (s : Progress) (t : Bool) → is_ended s.stage ≡ t → Verdict c n s [] (cond t (Ok s) (Err (refused_at n NotDue)))
  at_end n s true e = (stays, e)
  at_end n s false e = record { good = []; rest = []; last = s; split = refl; number = omega arith; leads = stays; breaks = no_end e }

  longer : (n : ℕ) (s u : Progress) (l : List ℕ) (ls : List (List ℕ)) (r : Result Progress SheetRefusal) → Keeps c s l u → Verdict c (n + 1) u ls r → Verdict c n s (l ∷ ls) r
  longer n s u l ls (Ok p) k v = (goes k v.0, v.1)
  longer n s u l ls (Err e) k v =
      record { good = l ∷ v.good; rest = v.rest; last = v.last; split = ap (λ ms. l ∷ ms) v.split; number = omega (arith, v.number); leads = goes k v.leads; breaks = v.breaks }

  on_line : (n : ℕ) (s : Progress) (l : List ℕ) (ls : List (List ℕ)) (r : Result Progress Breach) → line_read c s l ≡ r → ((u : Progress) → Verdict c (n + 1) u ls (lines_read c (n + 1) u ls)) →
      Verdict c n s (l ∷ ls) (onward n (λ u. lines_read c (n + 1) u ls) r)
  on_line n s l ls (Ok u) e v = longer n s u l ls (lines_read c (n + 1) u ls) (line_kept c s l u e) (v u)
  on_line n s l ls (Err b) e v = record { good = []; rest = l ∷ ls; last = s; split = refl; number = omega arith; leads = stays; breaks = line_broken c s l ls b e }

  verdict : (n : ℕ) (s : Progress) (ls : List (List ℕ)) → Verdict c n s ls (lines_read c n s ls)
  verdict n s [] = at_end n s (is_ended s.stage) refl
  verdict n s (l ∷ ls) = on_line n s l ls (line_read c s l) refl (λ u. verdict (n + 1) u ls)

  pub lines_kept : (n : ℕ) (s : Progress) (ls : List (List ℕ)) (p : Progress) → lines_read c n s ls ≡ Ok p → Goes c s ls p
  lines_kept n s ls p e = let v : Verdict c n s ls (Ok p) = subst (Verdict c n s ls) e (verdict n s ls) in v.0

  verdict_is : (sheet : List ℕ) (r : Result Progress SheetRefusal) → sheet_read c sheet ≡ r → Verdict c 1 start (lines sheet) r
  verdict_is sheet r e = subst (Verdict c 1 start (lines sheet)) e (verdict 1 start (lines sheet))

  pub judged : (s : Operations S) (sheet : List ℕ) (before after : List S) (r : Result Contents SheetRefusal) → Reads s c sheet before r after → Judged c sheet (length before) r
  judged s sheet before after r (Reads.too_little lt is same) = subst (Judged c sheet (length before)) (sym is) (too_little lt refl refl)
  judged s sheet before after r (Reads.too_long ge gt is same) = subst (Judged c sheet (length before)) (sym is) (too_long ge gt refl refl)
  judged s sheet before after r (Reads.refused e ge le read is same) =
      let v = verdict_is sheet (Err e) read in
      subst (Judged c sheet (length before)) (sym is) (refused ge le (record { good = v.good; rest = v.rest; last = v.last; split = v.split; number = v.number; leads = v.leads; breaks = v.breaks }))
  judged s sheet before after r (Reads.granted p told ge le read tells is same) =
      let v = verdict_is sheet (Ok p) read in
      subst (Judged c sheet (length before)) (sym is) (granted ge le (record { last = p; leads = v.0; has_end = v.1 }))
