-- What post and take do to what waits in a link: a bag of messages, which is a list up to its order. Assumes nothing.
use Rattle.std.specs.Prelude.{◌≡◌, ℕ, ◌<◌, List, [], ◌∷◌, length, Ok, Err, Result}
use Rattle.job.specs.declared.refusal.Refusal.{Refusal}
use Rattle.job.specs.Refusals.{number}
use Rattle.problem.specs.Bags.{Same}

module _ {M U : Type 0} where
  -- Post adds exactly that message, or refuses with 10 where the number waiting equals the limit. The limit stays.
  abbrev pub Posted : M → ℕ → List M → Result U Refusal → ℕ → List M → Type 0
  Posted m limit bag (Ok u) limit' bag' = (length bag < limit) × (limit' ≡ limit) × Same (m ∷ bag) bag'
  Posted m limit bag (Err e) limit' bag' = (number e ≡ 10) × (length bag ≡ limit) × (limit' ≡ limit) × Same bag bag'

  -- Take removes one waiting message, any one, and puts it into the place; or it refuses with 11 where none waits, and the place
  -- stays. The limit stays.
  abbrev pub Taken : ℕ → List M → M → Result U Refusal → ℕ → List M → M → Type 0
  Taken limit bag place (Ok u) limit' bag' place' = (limit' ≡ limit) × Same (place' ∷ bag') bag
  Taken limit bag place (Err e) limit' bag' place' = (number e ≡ 11) × (bag ≡ []) × (limit' ≡ limit) × (bag' ≡ []) × (place' ≡ place)
