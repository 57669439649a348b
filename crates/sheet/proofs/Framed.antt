-- What the answer of `of_line` says. Assumes nothing.
use Rattle.std.proofs.Common.{◌≡◌, ℕ, true, cond, List, Some, None, ◌∙◌, inl, inr, arith}
use Rattle.std.proofs.lemmas.Bool.{cases_Bool, cond-true, cond-false}
use Rattle.sheet.specs.Lines.{is_line}
use Rattle.sheet.specs.Frames.{Said, frame_of}

pub framed_some : (l : List ℕ) (f : Said) → Some f ≡ cond (is_line l) (Some (frame_of l)) None → (is_line l ≡ true) × (f ≡ frame_of l)
framed_some l f e = elim (cases_Bool (is_line l)) [
  | inl y ↦ (y, let z : Some f ≡ Some (frame_of l) = e ∙ cond-true _ _ _ y in cc)
  | inr n ↦ absurd (let z : Some f ≡ None = e ∙ cond-false _ _ _ n in let o : ◌≡◌ {A = ℕ} 0 1 = cc in omega arith)
]
