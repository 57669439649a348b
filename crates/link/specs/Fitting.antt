-- That sending leaves room. Notices may be dropped and every other message may not: while all others together are at most as many as
-- the places that notices leave free, none of them is lost, however many notices are sent. Assumes nothing.
use Rattle.std.specs.Prelude.{◌≡◌, ℕ, ◌+◌, ◌-◌, ◌≤◌, false, not, List, ◌++◌, length, filter}
use Rattle.problem.specs.Bags.{Same}
use Rattle.link.specs.declared.message.Message.{Message}
use Rattle.link.specs.Messages.{is_notice}
use Rattle.link.specs.Posting.{margin, accepted, loses}

module _ {S : Type 0} where
  -- those of the messages that are notices, and the others, in their order
  abbrev pub notices_of : List (Message S) → List (Message S)
  notices_of = filter (λ m. is_notice m.kind)

  abbrev pub others_of : List (Message S) → List (Message S)
  others_of = filter (λ m. not (is_notice m.kind))

  -- Messages ms are sent where a notices and b other messages wait: every message comes to wait that is no notice, none is lost, and
  -- neither the notices nor all together are too many.
  pub record FitsIn (limit a b : ℕ) (ms : List (Message S)) : Type 0 where
    pub others_come : others_of (accepted limit (a + b) ms) ≡ others_of ms
    pub none_is_lost : loses limit (a + b) ms ≡ false
    pub notices_are_few : a + length (notices_of (accepted limit (a + b) ms)) ≤ limit - margin
    pub all_fit : a + b + length (accepted limit (a + b) ms) ≤ limit

-- While the others that wait and are sent are at most 56, all of them fit beside the notices.
abbrev pub OthersFitBesideNotices : Type 0 → Type 0
OthersFitBesideNotices S = (limit a b : ℕ) (ms : List (Message S)) →
    margin ≤ limit → a ≤ limit - margin → b + length (others_of ms) ≤ margin → FitsIn limit a b ms

-- Any messages are their others and their notices together.
abbrev pub MessagesAreOthersAndNotices : Type 0 → Type 0
MessagesAreOthersAndNotices S = (ms : List (Message S)) → Same ms (others_of ms ++ notices_of ms)
