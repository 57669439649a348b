-- Lists by a test: which members pass it, and whether all do. Assumes nothing.
use Rattle.std.specs.Prelude.{Bool, true, cond, ◌&&◌, List, [], ◌∷◌}

module _ {X : Type 0} where
  -- those members of a list that pass a test, in their order
  unfoldable pub those : (X → Bool) → List X → List X
  those p [] = []
  those p (x ∷ xs) = let rest = those p xs in cond (p x) (x ∷ rest) rest

  unfoldable pub every : (X → Bool) → List X → Bool
  every p [] = true
  every p (x ∷ xs) = p x && every p xs
