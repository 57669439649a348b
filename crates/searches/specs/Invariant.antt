-- What holds at every moment of a run: the searches and the bag that they share, who holds which best, which complete plans have still to
-- be looked at, and how many messages may still come. Serves the promises, which follow from it. Assumes nothing.
use Rattle.std.specs.Prelude.{◌≡◌, ℕ, ◌+◌, ◌-◌, ◌*◌, ◌<◌, ◌≤◌, true, false, ◌≢◌, ◌⊎◌, List, [], ◌++◌, length}
use Rattle.std.specs.List.{flat_map, AllByRecursion}
use Rattle.job.specs.declared.job.Job.{Job}
use Rattle.job.specs.declared.plan.Plan.{Plan as Plans}
use Rattle.job.specs.Plans.{setups, plans, Complete, Extends}
use Rattle.problem.specs.Bags.{Same}
use Rattle.link.specs.declared.message.Kind.TheVariants.{Notice}
use Rattle.link.specs.declared.message.Message.{Message}
use Rattle.link.specs.Posting.{margin}
use Rattle.head.specs.declared.best.Best.{Best}
use Rattle.head.specs.Replies.{carried}
use Rattle.searches.specs.Members.{Some, total}
use Rattle.searches.specs.Cubes.{Problem, Head}
use Rattle.searches.specs.Bests.{Bests, AsGood, Found, Good, priced_plan}
use Rattle.searches.specs.Chains.{Search, open_cubes, due, Sound, Holds}
use Rattle.searches.specs.Steps.{on_way}
use Rattle.searches.specs.Moves.{State, all_home, stop}

-- the most messages that a run takes: (n − 1) × ((n + 3) × P + 1)
abbrev pub most_messages : Job → ℕ
most_messages j = (j.heads - 1) * ((j.heads + 3) * plans j + 1)

module _ {S : Type 0} (π : Problem S) where
  -- what the searches have on the way; what they may still cost
  abbrev pub has_on_way : Search S → List (Message S)
  has_on_way s = on_way π s.number s.root s.focus

  abbrev pub messages : List (Search S) → List (Message S)
  messages ss = flat_map has_on_way ss

  abbrev pub owes : Search S → ℕ
  owes s = due s.root π.job s.focus

  -- head 1, or a search, holds a best at least as good as x
  abbrev pub Held : Bests S → List (Search S) → Best S → Type 0
  Held B ss x = AsGood π.scale (B 1) x ⊎ Some (λ s. Holds π B x s.focus) ss

  -- the complete plan p extends a cube that some search has still to look into
  abbrev pub Reaches : Plans → Search S → Type 0
  Reaches p s = Some (λ q. Extends π.job q p) (open_cubes s.root s.focus)

  abbrev pub Reached : List (Search S) → Plans → Type 0
  Reached ss p = Some (Reaches p) ss

  -- A search has the number of a setup of head 1, and began there: head 1 alone holds a best when every search is home.
  pub record Rooted (s : Search S) : Type 0 where
    pub numbered : s.number < setups π.job 1
    pub at_one : s.root.head ≡ 1

  -- m is a notice from one head of the job to another, of a plan that was found and is held
  pub record Noticed (H : Best S → Type 0) (m : Message S) : Type 0 where
    pub is_notice : m.kind ≡ Notice
    pub to_head : Head π.job m.to
    pub from_head : Head π.job m.from
    pub apart : m.to ≢ m.from
    pub of_search : m.search < setups π.job 1
    pub found : Found π (carried m)
    pub held : H (carried m)

  -- m is the stop that carries the best b from head 1 to another head of the job
  pub record Stopping (b : Best S) (m : Message S) : Type 0 where
    pub to_head : Head π.job m.to
    pub to_other : m.to ≢ 1
    pub is_stop : m ≡ stop b m.to

  -- While a search is out no stop waits. Afterwards each head has head 1's best, or a stop waits that brings it. Either way the messages
  -- taken and still to come are not too many.
  pub data Ending (st : State S) (notices stops : List (Message S)) : Type 0 where
    under_way : all_home st.searches ≡ false → stops ≡ [] →
        st.count + (total owes st.searches + (length notices + (π.job.heads - 1))) ≤ most_messages π.job → Ending st notices stops
    over : all_home st.searches ≡ true → AllByRecursion (Stopping (st.bests 1)) stops →
        ((g : ℕ) → Head π.job g → (st.bests g ≡ st.bests 1) ⊎ Some (λ m. m.to ≡ g) stops) →
        st.count + (length notices + length stops) ≤ most_messages π.job → Ending st notices stops

  -- What holds at every moment.
  pub record Invariant (limit : ℕ) (st : State S) : Type 0 where
    pub notices : List (Message S)
    pub stops : List (Message S)
    -- what waits is what the searches have on the way, the notices and the stops
    pub bag_is : Same (messages st.searches ++ (notices ++ stops)) st.bag
    pub rooted : AllByRecursion Rooted st.searches
    pub sound : AllByRecursion (λ s. Sound π s.root s.focus) st.searches
    pub searches_few : length st.searches ≤ 8
    pub notices_few : length notices ≤ limit - margin
    -- every best is no plan or one that was found, and it is held; so is that of every notice
    pub good : (g : ℕ) → Head π.job g → Good π (st.bests g)
    pub held : (g : ℕ) → Head π.job g → Held st.bests st.searches (st.bests g)
    pub noticed : AllByRecursion (Noticed (Held st.bests st.searches)) notices
    -- no complete plan is forgotten: it is no better than one that is held, or it has still to be looked at
    pub covered : (p : Plans) → Complete π.job p → Held st.bests st.searches (priced_plan π p) ⊎ Reached st.searches p
    pub ending : Ending st notices stops
