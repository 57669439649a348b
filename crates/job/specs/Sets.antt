-- Sets of some of the eight numbers from f on. Every other number is in no set. Assumes nothing.
use Rattle.std.specs.Prelude.{ℕ, zero, suc, ◌-◌, min, Bool, true, false, cond, List, [], ◌∷◌, replicate, reverse, Some, None, Option, nat_lt, slice_index_or, slice_set}
use Rattle.std.specs.List.{range_with_len}
use Rattle.job.specs.Lists.{those}
use Rattle.job.specs.declared.sets.Set.{Set}

-- where the number n has its place, if the first place is that of the number f
abbrev pub place_of : ℕ → ℕ → Option ℕ
place_of zero n = cond (nat_lt n 8) (Some n) None
place_of (suc f) zero = None
place_of (suc f) (suc n) = place_of f n

-- what is set there, and the places when it is set to b
abbrev pub among : ℕ → List Bool → ℕ → Bool
among zero m n = cond (nat_lt n 8) (slice_index_or m n false) false
among (suc f) m zero = false
among (suc f) m (suc n) = among f m n

abbrev pub setting : ℕ → List Bool → ℕ → Bool → List Bool
setting zero m n b = slice_set m n b
setting (suc f) m zero b = m
setting (suc f) m (suc n) b = setting f m n b

-- the first so many places, of eight
unfoldable pub first_places : ℕ → List Bool
first_places zero = replicate 8 false
first_places (suc k) = slice_set (first_places k) k true

abbrev pub none_of : (f : ℕ) → Set f
none_of f = record { members = replicate 8 false }

-- the numbers below n
abbrev pub below : (f : ℕ) → ℕ → Set f
below f n = record { members = first_places (min (n - f) 8) }

abbrev pub has : (f : ℕ) → Set f → ℕ → Bool
has f s n = among f s.members n

-- the set with n in it or not, as b says
abbrev pub put : (f : ℕ) → Set f → ℕ → Bool → Set f
put f s n b = record { members = setting f s.members n b }

abbrev pub with : (f : ℕ) → Set f → ℕ → Set f
with f s n = put f s n true

abbrev pub without : (f : ℕ) → Set f → ℕ → Set f
without f s n = put f s n false

-- the set of one number
abbrev pub only : (f : ℕ) → ℕ → Set f
only f n = with f (none_of f) n

-- the numbers that a set may have, ascending, of those below 255
abbrev pub numbers : ℕ → List ℕ
numbers f = range_with_len f (min (255 - f) 8)

-- the first of a list
abbrev pub head_of : List ℕ → Option ℕ
head_of [] = None
head_of (i ∷ is) = Some i

-- the members, ascending; the first of them, and the first of them descending
abbrev pub members : (f : ℕ) → Set f → List ℕ
members f s = those (has f s) (numbers f)

abbrev pub lowest : (f : ℕ) → Set f → Option ℕ
lowest f s = head_of (members f s)

abbrev pub highest : (f : ℕ) → Set f → Option ℕ
highest f s = head_of (those (has f s) (reverse (numbers f)))
