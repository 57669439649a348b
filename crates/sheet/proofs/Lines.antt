-- The lines of a sheet, one after the other. Assumes nothing.
use Rattle.std.proofs.Common.{◌≡◌, ℕ, suc, ◌+◌, ◌<◌, ◌≤◌, true, false, eqb, List, [], ◌∷◌, length, take, drop, Ok, Err, Result, sym, ap, ◌∙◌, ap₂, inl, inr, arith}
use Rattle.std.proofs.lemmas.Bool.{cases_Bool, cond-true, cond-false}
use Rattle.sheet.specs.Lines.{onto, lines, line_length}
use Rattle.scale.specs.Coding.{Coding}
use Rattle.sheet.specs.declared.breach.Breach.{Breach}
use Rattle.sheet.specs.declared.breach.Breach.TheVariants.{NotDue}
use Rattle.sheet.specs.declared.progress.Progress.{Progress}
use Rattle.sheet.specs.Steps.{line_read}
use Rattle.sheet.specs.Sheets.{refused_at, is_ended, onward, lines_read}

-- the lines of bytes are the first line and the lines of what is left
stop : (b : ℕ) (bs : List ℕ) → eqb b 10 ≡ true → lines (b ∷ bs) ≡ take (line_length (b ∷ bs)) (b ∷ bs) ∷ lines (drop (line_length (b ∷ bs)) (b ∷ bs))
stop b bs e =
    let one : line_length (b ∷ bs) ≡ 1 = rw e (omega arith) in
    cond-true _ _ _ e ∙ ap (λ (n : ℕ). take n (b ∷ bs) ∷ lines (drop n (b ∷ bs))) (sym one)

longer : (b : ℕ) (bs : List ℕ) → eqb b 10 ≡ false → line_length (b ∷ bs) ≡ suc (line_length bs)
longer b bs e = rw e (omega arith)

pub first_line : (bs : List ℕ) → 0 < length bs → lines bs ≡ take (line_length bs) bs ∷ lines (drop (line_length bs) bs)
first_line [] h = absurd (omega arith)
first_line (b ∷ []) h = elim (cases_Bool (eqb b 10)) [
  | inl e ↦ stop b [] e
  | inr e ↦ cond-false _ _ _ e ∙ ap (λ (n : ℕ). take n (b ∷ []) ∷ lines (drop n (b ∷ []))) (sym (longer b [] e))
]
first_line (b ∷ x ∷ bs) h = elim (cases_Bool (eqb b 10)) [
  | inl e ↦ stop b (x ∷ bs) e
  | inr e ↦
      cond-false _ _ _ e ∙ ap (onto b) (first_line (x ∷ bs) (omega arith))
      ∙ ap (λ (n : ℕ). take n (b ∷ x ∷ bs) ∷ lines (drop n (b ∷ x ∷ bs))) (sym (longer b (x ∷ bs) e))
]

pub first_and_rest : (bs l a : List ℕ) → 0 < length bs → l ≡ take (line_length bs) bs → a ≡ drop (line_length bs) bs → lines bs ≡ l ∷ lines a
first_and_rest bs l a h e f = first_line bs h ∙ ap₂ (λ (x y : List ℕ). x ∷ lines y) (sym e) (sym f)

-- there are at most as many lines as bytes
lines_few_onto : (b : ℕ) (ls : List (List ℕ)) → length (onto b ls) ≤ length ls + 1
lines_few_onto b [] = omega arith
lines_few_onto b (l ∷ ls) = omega arith

pub lines_few : (bs : List ℕ) → length (lines bs) ≤ length bs
lines_few [] = omega arith
lines_few (b ∷ bs) = elim (cases_Bool (eqb b 10)) [
  | inl e ↦ rw e (omega (arith, lines_few bs))
  | inr e ↦ rw e (omega (arith, lines_few bs, lines_few_onto b (lines bs)))
]

-- what was read to its end has ended
module _ {S : Type 0} (c : Coding S) where
  at_end : (n : ℕ) (s p : Progress) → lines_read c n s [] ≡ Ok p → is_ended p.stage ≡ true
  at_end n s p e = elim (cases_Bool (is_ended s.stage)) [
    | inl y ↦ let same : Ok s ≡ Ok p = sym (cond-true _ _ _ y) ∙ e in let is : s ≡ p = cc in ap (λ (q : Progress). is_ended q.stage) (sym is) ∙ y
    | inr n' ↦ absurd (let z : Err (refused_at n NotDue) ≡ Ok p = sym (cond-false _ _ _ n') ∙ e in let o : ◌≡◌ {A = ℕ} 0 1 = cc in omega arith)
  ]

  pub read_ends : (n : ℕ) (s p : Progress) (ls : List (List ℕ)) → lines_read c n s ls ≡ Ok p → is_ended p.stage ≡ true
  read_ends n s p [] e = at_end n s p e
  read_ends n s p (l ∷ ls) e = on_line (line_read c s l) (λ t. read_ends (n + 1) t p ls) e
    where
      on_line : (r : Result Progress Breach) → ((t : Progress) → lines_read c (n + 1) t ls ≡ Ok p → is_ended p.stage ≡ true) → onward n (λ t. lines_read c (n + 1) t ls) r ≡ Ok p → is_ended p.stage ≡ true
      on_line (Ok t) h f = h t f
      on_line (Err b) h f = absurd (let o : ◌≡◌ {A = ℕ} 0 1 = cc in omega arith)
