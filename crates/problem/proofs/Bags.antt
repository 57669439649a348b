-- Bags: a member taken out of the middle of a list, and what taking one out does to the length. Assumes nothing.
use Rattle.std.proofs.Common.{◌≡◌, suc, List, [], ◌∷◌, ◌++◌, length, refl, ap}
use Rattle.problem.specs.Bags.{Out, here, there}

module _ {X : Type 0} where
  pub out_middle : {m : X} (xs ys : List X) → Out m (xs ++ m ∷ ys) (xs ++ ys)
  out_middle [] ys = here
  out_middle (x ∷ xs) ys = there (out_middle xs ys)

  pub out_length : {m : X} {xs ys : List X} → Out m xs ys → length xs ≡ suc (length ys)
  out_length here = refl
  out_length (there o) = ap suc (out_length o)
