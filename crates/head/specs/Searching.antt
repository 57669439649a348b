-- Search on: a head tries the setups that are left, the lowest first, until it has to ask the others, or none is left. Assumes
-- nothing.
use Rattle.std.specs.Prelude.{ℕ, Bool, false, cond, not, List, [], ◌∷◌, ◌++◌, map, ◌==◌}
use Rattle.scale.specs.Operations.{Operations}
use Rattle.job.specs.declared.job.Job.{Job}
use Rattle.job.specs.declared.plan.Plan.{Plan}
use Rattle.job.specs.Lists.{those}
use Rattle.job.specs.Plans.{heads, name, unnamed_heads, is_complete}
use Rattle.problem.specs.Costs.{against}
use Rattle.link.specs.declared.message.Kind.TheVariants.{Request, Return, Notice}
use Rattle.link.specs.declared.message.Message.{Message}
use Rattle.link.specs.Messages.{message}
use Rattle.link.specs.HeadSets.{no_heads}
use Rattle.head.specs.declared.record.State.TheVariants.{Gathering}
use Rattle.head.specs.declared.best.Best.{Best}
use Rattle.head.specs.SetupSets.{SetupSet, without_setup, members}
use Rattle.head.specs.Bests.{hopeless}
use Rattle.head.specs.Views.{View, rests, shows}

-- the heads of the job but h, ascending
abbrev pub others : Job → ℕ → List ℕ
others j h = those (λ g. not (g == h)) (heads j)

-- What searching on comes to: how the record then looks, the head's best, the notices that it sends and then the other messages,
-- each in their order, and whether the search is home.
pub record Searched (S : Type 0) : Type 0 where
  pub view : View S
  pub best : Best S
  pub notices : List (Message S)
  pub posts : List (Message S)
  pub home : Bool

-- What a head was sent in a search: the plan, its cost, and who sent it; 0, nobody, where the search began.
pub record Task (S : Type 0) : Type 0 where
  pub received : Plan
  pub cost : S
  pub sender : ℕ

module _ {S : Type 0} (s : Operations S) (j : Job) (costs : List S) (h v : ℕ) (t : Task S) where
  abbrev pub trial_plan : ℕ → Plan
  trial_plan i = name t.received h i

  -- the received plan's cost joined with the setup's costs against each head named there
  abbrev pub trial_cost : ℕ → S
  trial_cost i = s.join t.cost (against s costs j h i t.received)

  -- A complete plan that was found becomes the head's best, and a notice of it goes to each other head.
  abbrev pub found : ℕ → Best S
  found i = record { cost = trial_cost i; plan = trial_plan i }

  abbrev pub notices_of : ℕ → List (Message S)
  notices_of i = map (λ g. message Notice g h v (trial_plan i) (trial_cost i)) (others j h)

  -- A request goes to each head that the trial does not name, and the record gathers.
  abbrev pub asks : ℕ → SetupSet → Best S → Searched S
  asks i left best = record {
    view = shows (record { state = Gathering; received = t.received; cost = t.cost; sender = t.sender; setup = i; trial = trial_cost i; untried = left; gathered = s.nothing; heard = no_heads });
    best = best;
    notices = [];
    posts = map (λ g. message Request g h v (trial_plan i) s.nothing) (unnamed_heads j (trial_plan i));
    home = false;
  }

  -- After the last setup the record rests, and a return goes to the head that sent the plan; at head 1 the search is home instead.
  abbrev pub comes_back : Best S → Searched S
  comes_back best = record {
    view = rests;
    best = best;
    notices = [];
    posts = cond (h == 1) [] (message Return t.sender h v best.plan best.cost ∷ []);
    home = (h == 1);
  }

  abbrev pub after : List (Message S) → Searched S → Searched S
  after ms r = record { view = r.view; best = r.best; notices = ms ++ r.notices; posts = r.posts; home = r.home }

  -- The next setup is given up where the best is at most the trial cost; else it is found if all other heads are named; else the
  -- head asks.
  unfoldable pub trying : List ℕ → SetupSet → Best S → Searched S
  trying [] left best = comes_back best
  trying (i ∷ is) left best =
      let left' = without_setup left i in
      let gives_up = trying is left' best in
      let finds = after (notices_of i) (trying is left' (found i)) in
      let must_ask = asks i left' best in
      cond (hopeless s best (trial_cost i)) gives_up (cond (is_complete j (trial_plan i)) finds must_ask)

  -- from a set of untried setups
  abbrev pub search_on : SetupSet → Best S → Searched S
  search_on untried best = trying (members untried) untried best
