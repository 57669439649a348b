-- What links that do keep an order promise beyond the meaning of a link. What waits is listed here from the oldest to the newest.
-- Assumes nothing.
use Rattle.std.specs.Prelude.{◌≡◌, ℕ, Bool, true, false, List, [], ◌∷◌, ◌++◌, Ok, Err, Result}
use Rattle.job.specs.declared.refusal.Refusal.{Refusal}
use Rattle.problem.specs.Bags.{Same}

module _ {M U : Type 0} where
  -- A posted message is the newest.
  abbrev pub ComesLast : M → List M → Result U Refusal → List M → Type 0
  ComesLast m waiting (Ok u) waiting' = waiting' ≡ waiting ++ m ∷ []
  ComesLast m waiting (Err e) waiting' = waiting' ≡ waiting

  -- First-in takes the oldest message, last-in the newest.
  abbrev pub OldestTaken : List M → Result U Refusal → List M → M → Type 0
  OldestTaken waiting (Ok u) waiting' m = waiting ≡ m ∷ waiting'
  OldestTaken waiting (Err e) waiting' m = waiting' ≡ waiting

  abbrev pub NewestTaken : List M → Result U Refusal → List M → M → Type 0
  NewestTaken waiting (Ok u) waiting' m = waiting ≡ waiting' ++ m ∷ []
  NewestTaken waiting (Err e) waiting' m = waiting' ≡ waiting

  -- the one or the other
  abbrev pub EndTaken : Bool → List M → Result U Refusal → List M → M → Type 0
  EndTaken false waiting r waiting' m = OldestTaken waiting r waiting' m
  EndTaken true waiting r waiting' m = NewestTaken waiting r waiting' m

-- what a message fewer comes to: in order, and as a bag
module _ {M : Type 0} (m : M) (limit : ℕ) (waiting : List M) (limit' : ℕ) (waiting' : List M) where
  pub record OldestRemoved : Type 0 where
    pub limit_stays : limit' ≡ limit
    pub oldest : waiting ≡ m ∷ waiting'
    pub bag : Same (m ∷ waiting') waiting

  pub record NewestRemoved : Type 0 where
    pub limit_stays : limit' ≡ limit
    pub newest : waiting ≡ waiting' ++ m ∷ []
    pub bag : Same (m ∷ waiting') waiting

-- no message was there to be removed
pub record NoneOut {M : Type 0} (limit : ℕ) (waiting : List M) (limit' : ℕ) (waiting' : List M) : Type 0 where
  pub limit_stays : limit' ≡ limit
  pub none : waiting ≡ []
  pub none_still : waiting' ≡ []
