-- Laws of what a head does, above the definitions: whatever the message, and whichever head is picked. Assumes nothing.
use Rattle.std.specs.Prelude.{◌≡◌, ℕ, ◌≤◌, Bool, true, ◌⊎◌, List, [], ◌∷◌, length, ◌≢◌}
use Rattle.scale.specs.Operations.{Operations, AtMost}
use Rattle.job.specs.declared.job.Job.{Job}
use Rattle.job.specs.declared.plan.Plan.{Plan}
use Rattle.job.specs.Plans.{empty, is_complete, is_of_job}
use Rattle.problem.specs.Costs.{plan_cost, bound}
use Rattle.link.specs.declared.message.Kind.{Kind}
use Rattle.link.specs.declared.message.Kind.TheVariants.{Request, Report, Plan as PlanMessage, Return, Notice, Stop}
use Rattle.link.specs.declared.message.Message.{Message}
use Rattle.link.specs.Messages.{message}
use Rattle.head.specs.declared.best.Best.{Best}
use Rattle.head.specs.declared.record.Record.{Record}
use Rattle.head.specs.Replies.{carried, reply}
use Rattle.head.specs.Strays.{fits}

module _ {S : Type 0} (s : Operations S) where
  module _ (j : Job) (costs : List S) where
    -- a plan has eight places, and stands with its cost
    pub record Priced (q : Plan) (cost : S) : Type 0 where
      pub long : length q.setups ≡ 8
      pub costs_so : cost ≡ plan_cost s costs j q

    -- a best is a complete plan of the job with its cost, or never with the empty plan
    abbrev pub Stands : Best S → Type 0
    Stands b = ((is_complete j b.plan ≡ true) × (is_of_job j b.plan ≡ true) × (b.cost ≡ plan_cost s costs j b.plan)) ⊎ ((b.plan ≡ empty) × (b.cost ≡ s.never))

    -- what a message of each kind must carry, and what the record that it is about must hold
    abbrev pub Carries : Kind → Record S → Message S → Type 0
    Carries Request r m = Unit
    Carries Report r m = Priced r.received r.cost
    Carries PlanMessage r m = Priced m.plan m.cost
    Carries Return r m = Priced r.received r.cost × Stands (carried m)
    Carries Notice r m = Stands (carried m)
    Carries Stop r m = Stands (carried m)

  -- No message but a stop raises a head's best.
  abbrev pub BestNeverRises : Type 0
  BestNeverRises = (j : Job) (costs : List S) (picked : ℕ) (r : Record S) (m : Message S) (best : Best S) (kind : Kind) → (kind ≢ Stop) → AtMost s (reply s j costs picked r m best kind).best.cost best.cost

  -- A best that is a complete plan with its cost, or never with no plan, stays so.
  abbrev pub BestStaysAPlan : Type 0
  BestStaysAPlan = (j : Job) (costs : List S) (picked : ℕ) (out : Bool) (r : Record S) (m : Message S) (best : Best S) → fits j out r m ≡ true → Carries j costs m.kind r m → Stands j costs best →
      Stands j costs (reply s j costs picked r m best m.kind).best

  -- An act sends at most seven messages besides notices.
  abbrev pub FewPosts : Type 0
  FewPosts = (j : Job) (costs : List S) (picked : ℕ) (out : Bool) (r : Record S) (m : Message S) (best : Best S) → fits j out r m ≡ true → Carries j costs m.kind r m → length (reply s j costs picked r m best m.kind).posts ≤ 7

  -- A request is answered with the head's bound for its plan, to the head that asked.
  abbrev pub ReportTellsTheBound : Type 0
  ReportTellsTheBound = (j : Job) (costs : List S) (picked : ℕ) (r : Record S) (m : Message S) (best : Best S) → (reply s j costs picked r m best Request).posts ≡ message Report m.from m.to m.search empty (bound s costs j m.to m.plan) ∷ []
