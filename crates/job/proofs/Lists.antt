-- A test of every member of a list. Assumes nothing.
use Rattle.std.proofs.Common.{◌≡◌, ℕ, zero, suc, ◌+◌, ◌<◌, Bool, true, false, ◌&&◌, List, [], ◌∷◌, length, get_or, refl, sym, ap, ◌∙◌, ap₂, arith}
use Rattle.std.specs.Bool.{MatchBool}
use Rattle.std.specs.List.{AllWithin, HoldsAt, range_with_len, list_all}
use Rattle.std.proofs.lemmas.Bool.{and_from}
use Rattle.job.specs.Lists.{every}

pub every_at_places : {X : Type 0} (p : X → Bool) (xs : List X) (d : X) → ((k : ℕ) → k < length xs → p (get_or xs k d) ≡ true) → every p xs ≡ true
unfolding every
every_at_places p [] d h = refl
every_at_places p (x ∷ xs) d h = and_from _ _ (h 0 (omega arith)) (every_at_places p xs d (λ k lt. h (suc k) (omega arith)))

-- one that fails is enough
module _ {X : Type 0} (p : X → Bool) where
  pub fails_here : (x : X) (xs : List X) → p x ≡ false → false ≡ every p (x ∷ xs)
  unfolding every
  fails_here x xs e = ap (λ (b : Bool). false) e ∙ sym (ap (λ (b : Bool). b && every p xs) e)

  pub fails_later : (x : X) (xs : List X) → false ≡ every p xs → false ≡ every p (x ∷ xs)
  unfolding every
  fails_later x xs e = never (p x) ∙ ap (λ (b : Bool). p x && b) e where
    never : (b : Bool) → false ≡ (b && false)
    never true = refl
    never false = refl

  -- what `all` answers over the members
  pub every_from_all : (xs : List X) (r : Bool) → MatchBool r (AllWithin (λ y. p y ≡ true) xs 0 (length xs)) ((k : ℕ) × (k < length xs) × HoldsAt (λ y. p y ≡ false) xs k) → r ≡ every p xs
  unfolding every
  every_from_all [] true h = refl
  every_from_all [] false (k, lt, at) = absurd (omega arith)
  every_from_all (x ∷ xs) true h = sym (every_at_places p (x ∷ xs) x (λ k lt. h k x (omega arith) lt))
  every_from_all (x ∷ xs) false (zero, lt, at) = fails_here x xs (at x)
  every_from_all (x ∷ xs) false (suc k, lt, at) = fails_later x xs (every_from_all xs false (k, omega arith, at))

-- that all of a list pass, in the words of std
pub every_listed : {X : Type 0} (p : X → Bool) (xs : List X) → list_all p xs ≡ every p xs
unfolding every
every_listed p [] = refl
every_listed p (x ∷ xs) = ap (λ (b : Bool). p x && b) (every_listed p xs)

-- a test of the numbers from a on is one of the n members, place by place
pub every_by_number : {X : Type 0} (p : X → Bool) (xs : List X) (d : X) (q : ℕ → Bool) (a n : ℕ) → length xs ≡ n → ((k : ℕ) → k < n → q (a + k) ≡ p (get_or xs k d)) → every p xs ≡ every q (range_with_len a n)
unfolding every
every_by_number p [] d q a zero e h = refl
every_by_number p [] d q a (suc n) e h = absurd (omega arith)
every_by_number p (x ∷ xs) d q a zero e h = absurd (omega arith)
every_by_number p (x ∷ xs) d q a (suc n) e h =
    let here : q a ≡ p x = let z : a + 0 ≡ a = omega arith in rw (sym z) (h 0 (omega arith)) in
    let later = every_by_number p xs d q (a + 1) n (omega arith) (λ k lt. let z : a + 1 + k ≡ a + suc k = omega arith in rw z (h (suc k) (omega arith))) in
    ap₂ ◌&&◌ (sym here) later
