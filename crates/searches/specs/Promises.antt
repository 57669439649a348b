-- What is promised of every run of searches that share a bag, in words of the subject, and the theorems that say so. Serves the theorem
-- functions of this crate, and the layer that shows records and code to move as searches do. Assumes nothing.
use Rattle.std.specs.Prelude.{◌≡◌, ℕ, ◌<◌, ◌≤◌, Bool, true, false, ◌≢◌, ◌⊎◌, ◌↔◌, List, [], ◌∷◌, ◌++◌, length}
use Rattle.std.specs.List.{range_with_len, AllByRecursion}
use Rattle.scale.specs.Operations.{Operations, AtMost}
use Rattle.job.specs.declared.job.Job.{Job}
use Rattle.job.specs.declared.plan.Plan.{Plan as Plans}
use Rattle.job.specs.Plans.{setups, heads, empty, named, is_complete, is_empty, is_of_job, Complete}
use Rattle.problem.specs.Bags.{Same}
use Rattle.problem.specs.Costs.{plan_cost}
use Rattle.link.specs.declared.message.Kind.{Kind}
use Rattle.link.specs.declared.message.Kind.TheVariants.{Request, Report, Plan, Return, Notice, Stop}
use Rattle.link.specs.declared.message.Message.{Message}
use Rattle.link.specs.Posting.{margin, loses}
use Rattle.searches.specs.Members.{Replaced}
use Rattle.searches.specs.Cubes.{Problem, Head}
use Rattle.searches.specs.Bests.{Bests, AsGood, Good}
use Rattle.searches.specs.Chains.{Focus, home, acting, asking, sending, coming, Search}
use Rattle.searches.specs.Steps.{Step}
use Rattle.searches.specs.Moves.{State, all_home, goes_to, farewell, beginning, Move, Moves}
use Rattle.searches.specs.Invariant.{most_messages, Invariant}

module _ {S : Type 0} where
  -- no head is in the midst of an act
  abbrev pub is_settled : Focus S → Bool
  is_settled home = true
  is_settled (acting h is up) = false
  is_settled (asking t up asked answered heard) = true
  is_settled (sending t up u) = true
  is_settled (coming t up u b) = true

  abbrev pub Settled : List (Search S) → Type 0
  Settled ss = AllByRecursion (λ s. is_settled s.focus ≡ true) ss

-- What a message says of itself where it is one of a run: it goes from one head of the job to another, in one of the searches, with a plan
-- of the job, which suits its kind.
abbrev pub CompleteOrEmpty : Job → Plans → Type 0
CompleteOrEmpty j q = (is_complete j q ≡ true) ⊎ (is_empty q ≡ true)

module _ {S : Type 0} (j : Job) where
  abbrev pub Suits : Kind → Message S → Type 0
  Suits Request m = named m.plan m.to ≡ false
  Suits Report m = Unit
  Suits Plan m = (named m.plan m.to ≡ false) × (m.to ≢ 1)
  Suits Return m = CompleteOrEmpty j m.plan
  Suits Notice m = is_complete j m.plan ≡ true
  Suits Stop m = CompleteOrEmpty j m.plan × (m.to ≢ 1)

  pub record Proper (m : Message S) : Type 0 where
    pub to_head : Head j m.to
    pub from_head : Head j m.from
    pub apart : m.to ≢ m.from
    pub of_search : m.search < setups j 1
    pub of_job : is_of_job j m.plan ≡ true
    pub suits : Suits m.kind m

module _ {S : Type 0} (π : Problem S) (limit : ℕ) where
  -- What is promised of a moment. What it says of a bag that is empty holds where no head is in the midst of an act.
  pub record Promise (st : State S) : Type 0 where
    pub best_is_a_plan : (g : ℕ) → Head π.job g → Good π (st.bests g)
    pub few_messages : st.count ≤ most_messages π.job
    -- each message that waits is proper, and some search or head expects it
    pub proper : (m : Message S) (rest : List (Message S)) → Same (m ∷ rest) st.bag → Proper π.job m
    pub expected : (m : Message S) (rest : List (Message S)) → Same (m ∷ rest) st.bag → (st' : State S) × Move π limit st (m ∷ []) st'
    -- of what a step posts, none is lost
    pub none_is_lost : {s : Search S} {ss : List (Search S)} {B : Bests S} {f : Focus S} {taken notes posts : List (Message S)} {others : List ℕ} (rest : List (Message S)) →
        Replaced s (goes_to s f) st.searches ss → Step π s.number s.root st.bests s.focus taken B f notes posts →
        Same (1 ∷ others) (heads π.job) → Same (taken ++ rest) st.bag → loses limit (length rest) (notes ++ (posts ++ farewell ss B others)) ≡ false
    pub quiet_is_the_end : Settled st.searches → st.bag ≡ [] → all_home st.searches ≡ true
    pub agreed : Settled st.searches → st.bag ≡ [] → (g : ℕ) → Head π.job g → st.bests g ≡ st.bests 1
    pub cheapest : Settled st.searches → st.bag ≡ [] → (p : Plans) → Complete π.job p → AtMost π.scale (st.bests 1).cost (plan_cost π.scale π.costs π.job p)
    pub no_plan : Settled st.searches → st.bag ≡ [] →
        ((st.bests 1).plan ≡ empty) ↔ ((p : Plans) → Complete π.job p → plan_cost π.scale π.costs π.job p ≡ π.scale.never)

  -- What is promised of a run from a first moment to another, in which k messages were taken.
  pub record RunPromise (first st : State S) (k : ℕ) : Type 0 where
    pub now : Promise st
    pub counted : st.count ≡ k
    pub within : k ≤ most_messages π.job
    pub never_raised : (mid : State S) (i l : ℕ) → Moves π limit first i mid → Moves π limit mid l st → (g : ℕ) → AsGood π.scale (st.bests g) (mid.bests g)

-- The theorems, for every table of costs, every job and every limit that leaves notices a place.
module _ {S : Type 0} (s : Operations S) where
  abbrev pub BeginningHolds : Type 0
  BeginningHolds = (costs : List S) (j : Job) (limit : ℕ) (vs : List ℕ) → let π : Problem S = record { scale = s; costs = costs; job = j } in
      Same vs (range_with_len 0 (setups j 1)) → Invariant π limit (beginning s vs)

  abbrev pub EveryMoveKeeps : Type 0
  EveryMoveKeeps = (costs : List S) (j : Job) (limit : ℕ) → let π : Problem S = record { scale = s; costs = costs; job = j } in
      margin ≤ limit → (st st' : State S) (taken : List (Message S)) → Move π limit st taken st' → Invariant π limit st → Invariant π limit st'

  abbrev pub NoMoveRaises : Type 0
  NoMoveRaises = (costs : List S) (j : Job) (limit : ℕ) → let π : Problem S = record { scale = s; costs = costs; job = j } in
      margin ≤ limit → (st st' : State S) (taken : List (Message S)) → Move π limit st taken st' → Invariant π limit st →
      (g : ℕ) → AsGood s (st'.bests g) (st.bests g)

  abbrev pub EveryMomentKeepsItsPromise : Type 0
  EveryMomentKeepsItsPromise = (costs : List S) (j : Job) (limit : ℕ) → let π : Problem S = record { scale = s; costs = costs; job = j } in
      margin ≤ limit → (st : State S) → Invariant π limit st → Promise π limit st

  -- From every moment a run can come to its end, so these promises are not empty.
  abbrev pub EveryMomentCanEnd : Type 0
  EveryMomentCanEnd = (costs : List S) (j : Job) (limit : ℕ) → let π : Problem S = record { scale = s; costs = costs; job = j } in
      margin ≤ limit → (st : State S) → Invariant π limit st → (k : ℕ) × (end : State S) × Moves π limit st k end × Settled end.searches × (end.bag ≡ [])

  abbrev pub EveryRunKeepsItsPromise : Type 0
  EveryRunKeepsItsPromise = (costs : List S) (j : Job) (limit k : ℕ) (vs : List ℕ) → let π : Problem S = record { scale = s; costs = costs; job = j } in
      margin ≤ limit → Same vs (range_with_len 0 (setups j 1)) → (st : State S) → Moves π limit (beginning s vs) k st → RunPromise π limit (beginning s vs) st k
