-- A bag is a list up to its order, equal members counted. Assumes nothing.
use Rattle.std.specs.Prelude.{List, [], ◌∷◌}

module _ {X : Type 0} where
  -- `Out m xs ys`: ys is xs with one m taken out
  pub data Out : X → List X → List X → Type 0 where
    here : {m : X} {xs : List X} → Out m (m ∷ xs) xs
    there : {m x : X} {xs ys : List X} → Out m xs ys → Out m (x ∷ xs) (x ∷ ys)

  -- the same members, in any order
  pub data Same : List X → List X → Type 0 where
    none : Same [] []
    one : {m : X} {xs ys rest : List X} → Out m ys rest → Same xs rest → Same (m ∷ xs) ys
