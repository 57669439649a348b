-- The parts of a bag of messages. Each search has messages of its own on the way, given by `msgs`; besides there are the notices, and
-- the messages that stop the run. So a bag is, up to its order, what the searches have on the way, one search after the other, then
-- the notices, then the stops. The statements here say which part a message comes from that is taken, and which part messages come to
-- that are posted. A search, and a message, may be anything. Assumes nothing.
use Rattle.std.specs.Prelude.{◌≡◌, ℕ, suc, ◌<◌, List, ◌∷◌, ◌++◌, length, take, drop, slice_index_or, slice_set}
use Rattle.std.specs.List.{flat_map}
use Rattle.problem.specs.Bags.{Out, Same}

module _ {Q X : Type 0} (msgs : Q → List X) where
  abbrev pub Holds : List X → List Q → List X → List X → Type 0
  Holds bag searches notices stops = Same bag (flat_map msgs searches ++ (notices ++ stops))

  -- m was a message of one search: which one, what it has left on the way, and that the rest are those of the searches before it,
  -- what it has left, those of the searches after it, and the tail
  pub record FromASearch (searches : List Q) (tail : List X) (m : X) (rest : List X) : Type 0 where
    pub place : ℕ
    pub below : place < length searches
    pub state : Q
    pub stands : (d : Q) → slice_index_or searches place d ≡ state
    pub left : List X
    pub out : Out m (msgs state) left
    pub rest_is : Same rest ((flat_map msgs (take place searches) ++ (left ++ flat_map msgs (drop (suc place) searches))) ++ tail)

  -- the part that a message comes from that is taken, and what the rest is then
  pub data ComesFrom (searches : List Q) (notices stops : List X) (m : X) (rest : List X) : Type 0 where
    a_search : FromASearch searches (notices ++ stops) m rest → ComesFrom searches notices stops m rest
    the_notices : (left : List X) → Out m notices left → Holds rest searches left stops → ComesFrom searches notices stops m rest
    the_stops : (left : List X) → Out m stops left → Holds rest searches notices left → ComesFrom searches notices stops m rest

-- A message that is taken comes from one part, and the others stay as they are.
abbrev pub TakingTakesFromOnePart : Type 0 → Type 0 → Type 0
TakingTakesFromOnePart Q X = (msgs : Q → List X) (searches : List Q) (notices stops bag rest : List X) (m : X) →
    Holds msgs bag searches notices stops → Same (m ∷ rest) bag →
    ComesFrom msgs searches notices stops m rest

-- A search whose message m was taken sends messages, and has then on the way what was left and what it sent.
abbrev pub AnsweringKeepsTheParts : Type 0 → Type 0 → Type 0
AnsweringKeepsTheParts Q X = (msgs : Q → List X) (searches : List Q) (tail bag rest left sent : List X) (v : ℕ) (old new : Q) (m : X) →
    v < length searches → slice_index_or searches v old ≡ old →
    Same bag (flat_map msgs searches ++ tail) → Same (m ∷ rest) bag → Out m (msgs old) left → Same (msgs new) (left ++ sent) →
    Same (rest ++ sent) (flat_map msgs (slice_set searches v new) ++ tail)

-- A search sends messages though none of its own was taken, as at the start.
abbrev pub SendingKeepsTheParts : Type 0 → Type 0 → Type 0
SendingKeepsTheParts Q X = (msgs : Q → List X) (searches : List Q) (tail bag sent : List X) (v : ℕ) (old new : Q) →
    v < length searches → slice_index_or searches v old ≡ old →
    Same bag (flat_map msgs searches ++ tail) → Same (msgs new) (msgs old ++ sent) →
    Same (bag ++ sent) (flat_map msgs (slice_set searches v new) ++ tail)

-- Messages are posted that belong to the notices, or to the stops.
abbrev pub NoticingKeepsTheParts : Type 0 → Type 0 → Type 0
NoticingKeepsTheParts Q X = (msgs : Q → List X) (searches : List Q) (notices stops bag sent : List X) →
    Holds msgs bag searches notices stops → Holds msgs (bag ++ sent) searches (notices ++ sent) stops

abbrev pub StoppingKeepsTheParts : Type 0 → Type 0 → Type 0
StoppingKeepsTheParts Q X = (msgs : Q → List X) (searches : List Q) (notices stops bag sent : List X) →
    Holds msgs bag searches notices stops → Holds msgs (bag ++ sent) searches notices (stops ++ sent)
