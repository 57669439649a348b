-- Lists by their members: that some member has a property, what a count comes to over all members, and a list with one member in
-- another's place. Serves the definitions of this crate, which say what some search holds, what all searches may still cost, and that
-- one search went on. Assumes nothing.
use Rattle.std.specs.Prelude.{ℕ, ◌+◌, ◌⊎◌, List, [], ◌∷◌}

module _ {X : Type 0} where
  abbrev pub Some : (X → Type 0) → List X → Type 0
  Some P [] = ⊥
  Some P (x ∷ xs) = P x ⊎ Some P xs

  abbrev pub total : (X → ℕ) → List X → ℕ
  total f [] = 0
  total f (x ∷ xs) = f x + total f xs

-- the second list is the first with `new` in the place of `old`
pub data Replaced {X : Type 0} (old new : X) : List X → List X → Type 0 where
  first : {xs : List X} → Replaced old new (old ∷ xs) (new ∷ xs)
  later : {x : X} {xs ys : List X} → Replaced old new xs ys → Replaced old new (x ∷ xs) (x ∷ ys)
