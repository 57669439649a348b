use Rattle.std.proofs.Common.{◌≡◌, ℕ, ◌<◌, false, eqb, List, ◌∷◌, length, take, drop, sym, ap, ◌∙◌, arith, rules}
use Rattle.std.proofs.lemmas.Bool.Decides.{nat_tests}
use Rattle.sheet.specs.Lines.{lines}
use Rattle.sheet.proofs.Lines.{first_and_rest}
use Rattle.sheet.proofs.line.LinesIterator.next.Goals as goal
use Rattle.sheet.proofs.line.LinesIterator.next.Goals.{After-split_at}

length_some : (xs : List ℕ) → false ≡ eqb (length xs) 0 → 0 < length xs
length_some xs e = grind (arith, nat_tests)

parts : (c : After-split_at) → c.args.self.now ≡ c.split_at.result.0.now ∷ lines c.split_at.result.1.now
parts c =
    let rest = c.self.inside.rest.now in
    sym c.self.view_is
    ∙ first_and_rest rest _ _ (length_some rest c.if-is_empty.ensures) (c.split_at.ensures.front ∙ ap (λ (n : ℕ). take n rest) c.first_length.ensures) (c.split_at.ensures.back ∙ ap (λ (n : ℕ). drop n rest) c.first_length.ensures)

pub returns-clause-steps : goal.returns-clause-steps
returns-clause-steps c = parts (goal.at.returns-clause-steps c).After-split_at

pub returns-clause-goes : goal.returns-clause-goes
returns-clause-goes c = let e = parts (goal.at.returns-clause-goes c).After-split_at in let longer = ap length e in search rules
