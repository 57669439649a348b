-- Tests of every member of a list, or of every number of a range. Assumes nothing.
use Rattle.std.proofs.Common.{◌≡◌, ℕ, zero, suc, ◌+◌, ◌<◌, ◌≤◌, Bool, true, not, ◌&&◌, ◌||◌, List, [], ◌∷◌, refl, ap, ◌∙◌, inl, inr, arith}
use Rattle.std.specs.List.{range_with_len, list_all}
use Rattle.std.proofs.lemmas.Bool.{cases_Bool, cases_lt, and_parts}
use Rattle.job.specs.Lists.{those, every}

-- that all of a list pass that another test fails, in the words of std
pub every_of_those : {X : Type 0} (named heard : X → Bool) (xs : List X) → list_all (λ x. named x || heard x) xs ≡ every heard (those (λ x. not (named x)) xs)
unfolding every those
every_of_those named heard [] = refl
every_of_those named heard (x ∷ xs) = elim (cases_Bool (named x)) [
  | inl e ↦ rw e (every_of_those named heard xs)
  | inr e ↦ rw e (ap (λ (b : Bool). heard x && b) (every_of_those named heard xs))
]

-- whether a member is lawful: it is not there, or it is
pub lawful_present : (x y : Bool) → x ≡ true → (not x || y) ≡ y
lawful_present x y e = ap (λ (b : Bool). not b || y) e

-- what is true of every number of a range
pub every_at : (p : ℕ → Bool) (a n k : ℕ) → every p (range_with_len a n) ≡ true → a ≤ k → k < a + n → p k ≡ true
unfolding every
every_at p a zero k e l u = absurd (omega arith)
every_at p a (suc n) k e l u = elim (cases_lt a k) [
  | inl lt ↦ every_at p (a + 1) n k (and_parts _ _ e).1 (omega arith) (omega arith)
  | inr ge ↦ let same : k ≡ a = omega arith in ap p same ∙ (and_parts _ _ e).0
]
