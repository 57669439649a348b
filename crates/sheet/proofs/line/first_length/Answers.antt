use Rattle.std.proofs.Common.{◌≡◌, ℕ, ◌+◌, cond, ltb, List, length, Some, None, Option, ◌∙◌, inl, inr, arith, rules, tests}
use Rattle.std.specs.List.{position_or_len}
use Rattle.std.proofs.lemmas.Iterator.{YieldsList-from_slice}
use Rattle.std.proofs.lemmas.Iterator.Search.{position_from_yields_List}
use Rattle.std.proofs.lemmas.Bool.{cases_lt, cond-true, cond-false, lt-ltb, le-ltb}
use Rattle.sheet.specs.Lines.{is_line_end, line_length}
use Rattle.sheet.proofs.line.first_length.Goals as goal

abbrev found : List ℕ → Option ℕ
found rest = cond (ltb (position_or_len is_line_end rest) (length rest)) (Some (position_or_len is_line_end rest)) None

one_more : (rest : List ℕ) (i : ℕ) → Some i ≡ found rest → i + 1 ≡ line_length rest
one_more rest i e = elim (cases_lt (position_or_len is_line_end rest) (length rest)) [
  | inl lt ↦ let same : Some i ≡ Some (position_or_len is_line_end rest) = e ∙ cond-true _ _ _ (lt-ltb _ _ lt) in let is : i ≡ position_or_len is_line_end rest = cc in omega arith
  | inr ge ↦ absurd (let none : Some i ≡ None = e ∙ cond-false _ _ _ (le-ltb _ _ ge) in let o : ◌≡◌ {A = ℕ} 0 1 = cc in omega arith)
]

all_of_it : (rest : List ℕ) → None ≡ found rest → length rest ≡ line_length rest
all_of_it rest e = elim (cases_lt (position_or_len is_line_end rest) (length rest)) [
  | inl lt ↦ absurd (let some : None ≡ Some (position_or_len is_line_end rest) = e ∙ cond-true _ _ _ (lt-ltb _ _ lt) in let o : ◌≡◌ {A = ℕ} 0 1 = cc in omega arith)
  | inr ge ↦ omega arith
]

pub returns-in-Some : goal.returns-in-Some
returns-in-Some c =
    one_more c.args.rest.now c.in-Some.i (position_from_yields_List is_line_end _ _ _ c.in-Some.ensures.ran (YieldsList-from_slice c.args.rest.now cc) (λ x b q k. search (rules, tests)))

pub returns-in-None : goal.returns-in-None
returns-in-None c =
    all_of_it c.args.rest.now (position_from_yields_List is_line_end _ _ _ c.in-None.ensures.ran (YieldsList-from_slice c.args.rest.now cc) (λ x b q k. search (rules, tests)))
