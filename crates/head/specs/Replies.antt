-- What a head does with a message that is not stray, by the kind of the message. Assumes nothing.
use Rattle.std.specs.Prelude.{ℕ, Bool, false, cond, not, ◌&&◌, List, [], ◌∷◌}
use Rattle.scale.specs.Operations.{Operations}
use Rattle.job.specs.declared.job.Job.{Job}
use Rattle.job.specs.declared.plan.Plan.{Plan}
use Rattle.job.specs.Lists.{every}
use Rattle.job.specs.Plans.{setups, empty, name, unnamed_heads}
use Rattle.problem.specs.Costs.{bound}
use Rattle.link.specs.declared.message.Kind.{Kind}
use Rattle.link.specs.declared.message.Kind.TheVariants.{Request, Report, Plan as PlanMessage, Return, Notice, Stop}
use Rattle.link.specs.declared.message.Message.{Message}
use Rattle.link.specs.Messages.{message}
use Rattle.link.specs.HeadSets.{HeadSet, has_head, with_head, heads_in}
use Rattle.head.specs.declared.record.State.{State}
use Rattle.head.specs.declared.record.State.TheVariants.{Gathering, Below}
use Rattle.head.specs.declared.record.Record.{Record}
use Rattle.head.specs.declared.best.Best.{Best}
use Rattle.head.specs.SetupSets.{first_setups}
use Rattle.head.specs.Bests.{hopeless, adopted}
use Rattle.head.specs.Views.{shows, Turn, stays, becomes}
use Rattle.head.specs.Searching.{Searched, Task, search_on}

-- What a head does: how its record turns, its best, the notices that it sends and then the other messages, each in their order,
-- and whether the search came home.
pub record Reply (S : Type 0) : Type 0 where
  pub turn : Turn S
  pub best : Best S
  pub notices : List (Message S)
  pub posts : List (Message S)
  pub home : Bool

module _ {S : Type 0} where
  -- the plan on trial in a record of head h, and what the record was sent
  abbrev pub on_trial : ℕ → Record S → Plan
  on_trial h r = name r.received h r.setup

  abbrev pub task : Record S → Task S
  task r = record { received = r.received; cost = r.cost; sender = r.sender }

  -- the heads that a picker chooses among: those that the plan on trial does not name
  abbrev pub choice : Job → ℕ → Record S → HeadSet
  choice j h r = heads_in (unnamed_heads j (on_trial h r))

  -- the plan and cost that a message carries
  abbrev pub carried : Message S → Best S
  carried m = record { cost = m.cost; plan = m.plan }

module _ {S : Type 0} (s : Operations S) (j : Job) (costs : List S) where
  -- the record stays as it is, and nothing is sent
  abbrev pub quietly : Best S → Reply S
  quietly best = record { turn = stays; best = best; notices = []; posts = []; home = false }

  abbrev pub searched : Searched S → Reply S
  searched r = record { turn = becomes r.view; best = r.best; notices = r.notices; posts = r.posts; home = r.home }

  -- the head searches on in the search of a record
  abbrev pub goes_on : ℕ → ℕ → Record S → Best S → Reply S
  goes_on h v r best = searched (search_on s j costs h v (task r) r.untried best)

  -- Request: a report with the head's bound for the plan of the request.
  abbrev pub report : Message S → Message S
  report m = message Report m.from m.to m.search empty (bound s costs j m.to m.plan)

  abbrev pub on_request : Message S → Best S → Reply S
  on_request m best = record { turn = stays; best = best; notices = []; posts = report m ∷ []; home = false }

  -- Report: its bound is joined to the gathered one. The record when it has come, in the state given.
  abbrev pub heard_from : Record S → Message S → State → Record S
  heard_from r m st = record {
    state = st;
    received = r.received;
    cost = r.cost;
    sender = r.sender;
    setup = r.setup;
    trial = r.trial;
    untried = r.untried;
    gathered = s.join r.gathered m.cost;
    heard = with_head r.heard m.from;
  }

  -- whether none is missing then, and what the plan on trial will cost at least
  abbrev pub is_last : Record S → Message S → Bool
  is_last r m = every (has_head (with_head r.heard m.from)) (unnamed_heads j (on_trial m.to r))

  abbrev pub at_least : Record S → Message S → S
  at_least r m = s.join r.trial (s.join r.gathered m.cost)

  -- one is missing: the record gathers on
  abbrev pub gathers_on : Record S → Message S → Best S → Reply S
  gathers_on r m best = record { turn = becomes (shows (heard_from r m Gathering)); best = best; notices = []; posts = []; home = false }

  -- none is missing, and the trial is worth it: the picked head gets the plan message, and the record is below
  abbrev pub hands_on : ℕ → Record S → Message S → Best S → Reply S
  hands_on picked r m best = record {
    turn = becomes (shows (heard_from r m Below));
    best = best;
    notices = [];
    posts = message PlanMessage picked m.to m.search (on_trial m.to r) r.trial ∷ [];
    home = false;
  }

  -- none is missing, and the trial is hopeless: the setup is given up, and the head searches on
  abbrev pub on_report : ℕ → Record S → Message S → Best S → Reply S
  on_report picked r m best =
      let gathers = gathers_on r m best in
      let gives_up = goes_on m.to m.search r best in
      let hands = hands_on picked r m best in
      cond (is_last r m) (cond (hopeless s best (at_least r m)) gives_up hands) gathers

  -- Plan message: the record takes it and searches on, from setup 0.
  abbrev pub on_plan : Message S → Best S → Reply S
  on_plan m best = searched (search_on s j costs m.to m.search (record { received = m.plan; cost = m.cost; sender = m.from }) (first_setups (setups j m.to)) best)

  -- Return: a lower cost replaces best and plan, and the head searches on.
  abbrev pub on_return : Record S → Message S → Best S → Reply S
  on_return r m best = goes_on m.to m.search r (adopted s (carried m) best)

  -- Notice: a lower cost replaces best and plan. Stop: its cost and plan always do.
  abbrev pub reply : ℕ → Record S → Message S → Best S → Kind → Reply S
  reply picked r m best Request = on_request m best
  reply picked r m best Report = on_report picked r m best
  reply picked r m best PlanMessage = on_plan m best
  reply picked r m best Return = on_return r m best
  reply picked r m best Notice = quietly (adopted s (carried m) best)
  reply picked r m best Stop = quietly (carried m)

  -- whether the picker is asked
  abbrev pub asks_picker : Record S → Message S → Best S → Kind → Bool
  asks_picker r m best Request = false
  asks_picker r m best Report = is_last r m && not (hopeless s best (at_least r m))
  asks_picker r m best PlanMessage = false
  asks_picker r m best Return = false
  asks_picker r m best Notice = false
  asks_picker r m best Stop = false
