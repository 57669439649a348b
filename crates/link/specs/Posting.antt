-- What becomes of the messages that a head sends, in their order: which come to wait, and whether one is lost. Assumes nothing.
use Rattle.std.specs.Prelude.{◌≡◌, ℕ, ◌+◌, ◌-◌, Bool, true, false, cond, List, [], ◌∷◌, ◌++◌, length, Ok, Err, Result, nat_lt}
use Rattle.job.specs.declared.refusal.Refusal.{Refusal}
use Rattle.job.specs.Refusals.{number}
use Rattle.problem.specs.Bags.{Same}
use Rattle.link.specs.declared.message.Message.{Message}
use Rattle.link.specs.Messages.{is_notice}

-- The places that notices leave free: one for each of 8 searches and each of 7 other heads.
abbrev pub margin : ℕ
margin = 56

module _ {S : Type 0} (limit : ℕ) where
  -- A message is posted only while fewer than this wait: a notice while fewer than limit − 56 do, any other while fewer than the
  -- limit do.
  abbrev pub room : Message S → ℕ
  room m = cond (is_notice m.kind) (limit - margin) limit

  -- those of the messages that come to wait, where so many wait already
  unfoldable pub accepted : ℕ → List (Message S) → List (Message S)
  accepted waiting [] = []
  accepted waiting (m ∷ ms) =
      let comes = m ∷ accepted (waiting + 1) ms in
      let fails = accepted waiting ms in
      cond (nat_lt waiting (room m)) comes fails

  -- Whether a post is refused: that message is lost, and the rest are still sent. A notice that is not posted is dropped, and no
  -- post of it is refused.
  unfoldable pub loses : ℕ → List (Message S) → Bool
  loses waiting [] = false
  loses waiting (m ∷ ms) =
      let comes = loses (waiting + 1) ms in
      let fails = cond (is_notice m.kind) (loses waiting ms) true in
      cond (nat_lt waiting (room m)) comes fails

-- Messages ms are sent over a link: what then waits, and whether one was lost. The limit stays.
pub record Sent {S : Type 0} (limit : ℕ) (bag : List (Message S)) (ms : List (Message S)) (lost : Bool) (limit' : ℕ) (bag' : List (Message S)) : Type 0 where
  pub limit_stays : limit' ≡ limit
  pub waits : Same (bag ++ accepted limit (length bag) ms) bag'
  pub losses : lost ≡ loses limit (length bag) ms

-- one message is sent; the refusal, if it is lost, is 10
abbrev pub Sends : {S U : Type 0} → ℕ → List (Message S) → Message S → Result U Refusal → ℕ → List (Message S) → Type 0
Sends limit bag m (Ok u) limit' bag' = Sent limit bag (m ∷ []) false limit' bag'
Sends limit bag m (Err e) limit' bag' = (number e ≡ 10) × Sent limit bag (m ∷ []) true limit' bag'
