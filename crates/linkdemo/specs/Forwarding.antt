-- One message that is taken from a link, made dearer, addressed anew and posted again. Assumes nothing.
use Rattle.std.specs.Prelude.{◌≡◌, ℕ, List, [], ◌∷◌, Ok, Err, Result}
use Rattle.scale.specs.Operations.{Operations}
use Rattle.job.specs.declared.refusal.Refusal.{Refusal}
use Rattle.job.specs.Refusals.{number}
use Rattle.problem.specs.Bags.{Same}
use Rattle.link.specs.declared.message.Message.{Message}
use Rattle.link.specs.HeadSets.{HeadSet, Picks}
use Rattle.link.specs.Messages.{message}

module _ {S : Type 0} (s : Operations S) (surcharge : S) where
  -- a message as it is sent on to a head: only the head that it goes to and the cost differ
  abbrev pub sent_on : ℕ → Message S → Message S
  sent_on head m = message m.kind head m.from m.search m.plan (s.join m.cost surcharge)

  -- one message has left the bag and come back so, and the rest have stayed
  pub record Passes (head : ℕ) (bag bag' : List (Message S)) (m' : Message S) : Type 0 where
    pub rest : List (Message S)
    pub old : Message S
    pub out : Same (old ∷ rest) bag
    pub back : Same (m' ∷ rest) bag'
    pub dearer : m' ≡ sent_on head old

  -- Forwarding to a head is refused exactly where none waits, with 11, and alters nothing then. The limit stays.
  abbrev pub ForwardedTo : {U : Type 0} → ℕ → ℕ → List (Message S) → Message S → Result U Refusal → ℕ → List (Message S) → Message S → Type 0
  ForwardedTo head limit bag place (Ok u) limit' bag' place' = (limit' ≡ limit) × Passes head bag bag' place'
  ForwardedTo head limit bag place (Err e) limit' bag' place' = (number e ≡ 11) × (bag ≡ []) × (limit' ≡ limit) × (bag' ≡ []) × (place' ≡ place)

  -- the head is one that a picker may pick out of the set
  abbrev pub Forwarded : {U : Type 0} → HeadSet → ℕ → List (Message S) → Message S → Result U Refusal → ℕ → List (Message S) → Message S → Type 0
  Forwarded heads limit bag place r limit' bag' place' = (head : ℕ) × Picks heads head × ForwardedTo head limit bag place r limit' bag' place'
