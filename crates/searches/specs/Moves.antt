-- The moves of searches that share one bag of messages, and the states that they lead through. Serves the invariant, which every move
-- keeps. Assumes nothing.
use Rattle.std.specs.Prelude.{◌≡◌, ℕ, ◌+◌, Bool, true, false, cond, List, [], ◌∷◌, ◌++◌, map, length}
use Rattle.job.specs.Plans.{heads, empty}
use Rattle.problem.specs.Bags.{Same}
use Rattle.scale.specs.Operations.{Operations}
use Rattle.link.specs.declared.message.Kind.TheVariants.{Notice, Stop}
use Rattle.link.specs.declared.message.Message.{Message}
use Rattle.link.specs.Messages.{message}
use Rattle.link.specs.Posting.{accepted}
use Rattle.head.specs.declared.best.Best.{Best}
use Rattle.head.specs.Bests.{at_first, adopted}
use Rattle.head.specs.Replies.{carried}
use Rattle.searches.specs.Members.{Replaced}
use Rattle.searches.specs.Cubes.{Problem}
use Rattle.searches.specs.Bests.{Bests, put}
use Rattle.searches.specs.Chains.{Focus, home, acting, asking, sending, coming, Search}
use Rattle.searches.specs.Steps.{Step}

-- a moment: the searches, the best of each head, what waits, and the count of the messages taken
pub record State (S : Type 0) : Type 0 where
  pub searches : List (Search S)
  pub bests : Bests S
  pub bag : List (Message S)
  pub count : ℕ

module _ {S : Type 0} where
  -- whether a search is out, whether every search is home
  abbrev pub is_out : Focus S → Bool
  is_out home = false
  is_out (acting h is up) = true
  is_out (asking t up asked answered heard) = true
  is_out (sending t up u) = true
  is_out (coming t up u b) = true

  abbrev pub all_home : List (Search S) → Bool
  all_home [] = true
  all_home (s ∷ ss) = cond (is_out s.focus) false (all_home ss)

  -- the search with another focus
  abbrev pub goes_to : Search S → Focus S → Search S
  goes_to s f = record { number = s.number; root = s.root; focus = f }

  -- a stop from head 1
  abbrev pub stop : Best S → ℕ → Message S
  stop b g = message Stop g 1 0 b.plan b.cost

  -- the stops to these heads, once every search is home
  abbrev pub farewell : List (Search S) → Bests S → List ℕ → List (Message S)
  farewell ss B gs = cond (all_home ss) (map (stop (B 1)) gs) []

  -- the searches with these numbers as head 1 is about to begin them, each with its one setup
  abbrev pub first_search : ℕ → Search S
  first_search v = record { number = v; root = record { start = empty; head = 1 }; focus = acting 1 (v ∷ []) [] }

  abbrev pub beginning : Operations S → List ℕ → State S
  beginning s vs = record { searches = map first_search vs; bests = λ g. at_first s; bag = []; count = 0 }

module _ {S : Type 0} (π : Problem S) (limit : ℕ) where
  -- One move: a search takes a step, and what it posts comes to wait as far as there is room; or a head takes a notice or a stop.
  pub data Move : State S → List (Message S) → State S → Type 0 where
    a_step : {s : Search S} {ss ss' : List (Search S)} {B B' : Bests S} {f : Focus S} {taken notes posts bag bag' : List (Message S)} {c : ℕ} {others : List ℕ} (rest : List (Message S)) →
        Replaced s (goes_to s f) ss ss' → Step π s.number s.root B s.focus taken B' f notes posts → Same (1 ∷ others) (heads π.job) →
        Same (taken ++ rest) bag → Same (rest ++ accepted limit (length rest) (notes ++ (posts ++ farewell ss' B' others))) bag' →
        Move (record { searches = ss; bests = B; bag = bag; count = c }) taken (record { searches = ss'; bests = B'; bag = bag'; count = length taken + c })
    a_notice : {ss : List (Search S)} {B : Bests S} {bag rest : List (Message S)} {c : ℕ} {m : Message S} → m.kind ≡ Notice → Same (m ∷ rest) bag →
        Move (record { searches = ss; bests = B; bag = bag; count = c }) (m ∷ [])
        (record { searches = ss; bests = put B m.to (adopted π.scale (carried m) (B m.to)); bag = rest; count = 1 + c })
    a_stop : {ss : List (Search S)} {B : Bests S} {bag rest : List (Message S)} {c : ℕ} {m : Message S} → m.kind ≡ Stop → Same (m ∷ rest) bag →
        Move (record { searches = ss; bests = B; bag = bag; count = c }) (m ∷ []) (record { searches = ss; bests = put B m.to (carried m); bag = rest; count = 1 + c })

  -- from one state to another by moves, with the number of messages taken
  pub data Moves : State S → ℕ → State S → Type 0 where
    stay : {st : State S} → Moves st 0 st
    move : {st st' st'' : State S} {taken : List (Message S)} {k l : ℕ} → Moves st k st' → Move st' taken st'' → l ≡ length taken + k → Moves st l st''
