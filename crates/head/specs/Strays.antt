-- Which messages are stray: those that do not fit the job, the record that they are about, or its state. Assumes nothing.
use Rattle.std.specs.Prelude.{ℕ, Bool, true, false, not, ◌&&◌, ◌||◌, ◌==◌, nat_lt}
use Rattle.std.specs.List.{range_with_len}
use Rattle.job.specs.declared.job.Job.{Job}
use Rattle.job.specs.declared.plan.Plan.{Plan}
use Rattle.job.specs.Lists.{every}
use Rattle.job.specs.Plans.{setups, is_head, is_setup, named, is_complete, is_empty, is_of_job}
use Rattle.link.specs.declared.message.Kind.{Kind}
use Rattle.link.specs.declared.message.Kind.TheVariants.{Request, Report, Plan as PlanMessage, Return, Notice, Stop}
use Rattle.link.specs.declared.message.Message.{Message}
use Rattle.link.specs.HeadSets.{HeadSet, has_head}
use Rattle.head.specs.declared.record.State.{State}
use Rattle.head.specs.declared.record.State.TheVariants.{Resting, Gathering, Below}
use Rattle.head.specs.declared.record.Record.{Record}
use Rattle.head.specs.SetupSets.{SetupSet, has_setup}
use Rattle.head.specs.Replies.{on_trial}

-- whether a message of this kind may find the record in this state
abbrev pub expects : State → Kind → Bool
expects Resting Request = true
expects Resting Report = false
expects Resting PlanMessage = true
expects Resting Return = false
expects Resting Notice = true
expects Resting Stop = true
expects Gathering Request = true
expects Gathering Report = true
expects Gathering PlanMessage = false
expects Gathering Return = false
expects Gathering Notice = true
expects Gathering Stop = true
expects Below Request = true
expects Below Report = false
expects Below PlanMessage = false
expects Below Return = true
expects Below Notice = true
expects Below Stop = true

-- a report is awaited from each head that the plan on trial does not name, once
abbrev pub awaited : {S : Type 0} → Record S → Message S → Bool
awaited r m = not (named (on_trial m.to r) m.from) && not (has_head r.heard m.from)

module _ (j : Job) where
  -- all untried setups are setups of head h, all heads heard are heads of the job, and the sender is another head of the job or,
  -- at head 1, nobody
  abbrev pub untried_fit : ℕ → SetupSet → Bool
  untried_fit h u = every (λ i. not (has_setup u i) || is_setup j h i) (range_with_len 0 8)

  abbrev pub heard_fit : HeadSet → Bool
  heard_fit s = every (λ g. not (has_head s g) || is_head j g) (range_with_len 1 8)

  abbrev pub sender_fits : ℕ → ℕ → Bool
  sender_fits h from = (is_head j from && not (from == h)) || (h == 1 && from == 0)

  -- a best's plan is complete or empty
  abbrev pub is_bests : Plan → Bool
  is_bests q = is_complete j q || is_empty q

module _ {S : Type 0} (j : Job) where
  -- its heads are two heads of the job, its search is one of the searches, and its plan is of the job
  abbrev pub is_addressed : Message S → Bool
  is_addressed m = is_head j m.to && (is_head j m.from && (not (m.to == m.from) && (nat_lt m.search (setups j 1) && is_of_job j m.plan)))

  -- A record that does not rest is sound at head h if its numbers are in the job's ranges and its received plan does not name h.
  abbrev pub is_in_range : ℕ → Record S → Bool
  is_in_range h r = is_of_job j r.received && (not (named r.received h) && (is_setup j h r.setup && (untried_fit j h r.untried && (heard_fit j r.heard && sender_fits j h r.sender))))

  abbrev pub sound_in : State → ℕ → Record S → Bool
  sound_in Resting h r = true
  sound_in Gathering h r = is_in_range h r
  sound_in Below h r = is_in_range h r

  abbrev pub is_sound : ℕ → Record S → Bool
  is_sound h r = sound_in r.state h r

  -- What else a message of each kind needs; `out` tells whether its search is out.
  abbrev pub due : Kind → Bool → Record S → Message S → Bool
  due Request out r m = not (named m.plan m.to)
  due Report out r m = out && awaited r m
  due PlanMessage out r m = not (m.to == 1) && not (named m.plan m.to)
  due Return out r m = out && is_bests j m.plan
  due Notice out r m = is_complete j m.plan
  due Stop out r m = not (m.to == 1) && is_bests j m.plan

  -- A message that does not fit is stray.
  abbrev pub fits : Bool → Record S → Message S → Bool
  fits out r m = is_addressed m && (is_sound m.to r && (due m.kind out r m && expects r.state m.kind))
