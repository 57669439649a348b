-- What a take and a post come to. Assumes nothing.
use Rattle.std.proofs.Common.{◌≡◌, ℕ, ◌≤◌, List, ◌∷◌, length, Ok, Err, Result, ◌∙◌, arith}
use Rattle.scale.specs.Operations.{Operations}
use Rattle.job.specs.declared.refusal.Refusal.{Refusal}
use Rattle.problem.specs.Bags.{Same}
use Rattle.link.specs.declared.message.Message.{Message}
use Rattle.link.specs.Links.{Posted}
use Rattle.link.proofs.Bags.{same_length}
use Rattle.linkdemo.specs.Forwarding.{sent_on, ForwardedTo}

module _ {S U : Type 0} (s : Operations S) (surcharge : S) (head : ℕ) (place old sent : Message S) (limit limit₁ limit₂ : ℕ) (bag rest bag₂ : List (Message S)) where
  -- after a take there is room, so the post is not refused
  pub taken_then_posted : length bag ≤ limit → (limit₁ ≡ limit) × Same (old ∷ rest) bag → sent ≡ sent_on s surcharge head old → (r : Result U Refusal) → Posted sent limit₁ rest r limit₂ bag₂ →
      ForwardedTo s surcharge head limit bag place r limit₂ bag₂ sent
  taken_then_posted room took dearer (Ok u) posted = (posted.1 ∙ took.0, record { rest = rest; old = old; out = took.1; back = posted.2; dearer = dearer })
  taken_then_posted room took dearer (Err e) posted = absurd (omega (arith, same_length took.1, posted.1, took.0))
