-- What waits in lent places, and how many can. Assumes nothing.
use Rattle.std.specs.Prelude.{◌≡◌, ℕ, ◌+◌, ◌-◌, ◌<◌, ◌≤◌, ◌⊎◌, List, ◌++◌, length, take, drop}
use Rattle.std.proofs.Common.{arith, length-take, length-drop, length-append}
use Rattle.link.specs.declared.queue.Queue.{Queue}

-- places from number f on, and then those before it
abbrev pub turned : {M : Type 0} → ℕ → List M → List M
turned f xs = drop f xs ++ take f xs

abbrev pub limit_of : {M : Type 0} → Queue M → ℕ
limit_of q = length q.places.now

-- the oldest first
abbrev pub waiting_in : {M : Type 0} → Queue M → List M
waiting_in q = take q.count (turned q.first q.places.now)

pub room_in : {M : Type 0} (q : Queue M) → length (waiting_in q) ≤ limit_of q
room_in q =
    let xs = q.places.now in
    let f = q.first in
    omega (arith, length-take q.count (turned f xs), length-append (drop f xs) (take f xs), length-drop f xs, length-take f xs)

-- where the message lies that comes after c others, in n places read from f on
abbrev pub Next : ℕ → ℕ → ℕ → ℕ → Type 0
Next n f c at = ((c < n - f) × (at ≡ f + c)) ⊎ ((n - f ≤ c) × (at ≡ c - (n - f)))

abbrev pub PlaceOf : {M : Type 0} → Queue M → ℕ → ℕ → Type 0
PlaceOf q c at = (at < limit_of q) × Next (limit_of q) q.first c at
