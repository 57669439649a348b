-- What is promised of whole runs. Assumes nothing.
use Rattle.std.specs.Prelude.{◌≡◌, ℕ, ◌+◌, ◌-◌, ◌*◌, ◌≤◌, true, ◌⊎◌, ◌↔◌, List, [], is_ok, Some, None, Ok, Err, Option, Result}
use Rattle.job.specs.declared.refusal.Refusal.{Refusal}
use Rattle.job.specs.declared.job.Job.{Job}
use Rattle.job.specs.declared.plan.Plan.{Plan}
use Rattle.link.specs.declared.message.Message.{Message}
use Rattle.head.specs.declared.best.Best.{Best}
use Rattle.run.specs.declared.run.Found.{Found}
use Rattle.run.specs.declared.run.Run.{Run}
use Rattle.run.specs.declared.run.Ended.{Ended}
use Rattle.job.specs.declared.declined.Declined.{Declined}
use Rattle.scale.specs.Operations.{Operations, AtMost}
use Rattle.problem.specs.Bags.{Out}
use Rattle.job.specs.Plans.{is_head, plans, empty, Complete}
use Rattle.problem.specs.Costs.{plan_cost}
use Rattle.head.specs.Lent.{best_of}
use Rattle.run.specs.Worlds.{World}
use Rattle.job.specs.Refusals.{number}
use Rattle.run.specs.Delivering.{Delivers}
use Rattle.run.specs.Ending.{Ends, unpacked}
use Rattle.run.specs.History.{Goes, History}

-- The limit on the messages that deliver takes: (n − 1) × ((n + 3) × P + 1).
abbrev pub most_messages : Job → ℕ
most_messages j = (j.heads - 1) * ((j.heads + 3) * plans j + 1)

module _ {S : Type 0} (s : Operations S) where
  module _ (costs : List S) (j : Job) where
    -- every complete plan costs at least this; every complete plan costs never
    abbrev pub NoneCheaper : S → Type 0
    NoneCheaper c = (p : Plan) → Complete j p → AtMost s c (plan_cost s costs j p)

    abbrev pub AllNever : Type 0
    AllNever = (p : Plan) → Complete j p → plan_cost s costs j p ≡ s.never

    -- the cost of the complete plan beside it, or never with no plan
    abbrev pub Stands : Best S → Type 0
    Stands b = (Complete j b.plan × (b.cost ≡ plan_cost s costs j b.plan)) ⊎ ((b.plan ≡ empty) × (b.cost ≡ s.never))

    -- A cheapest plan and its cost, not all being never; or no plan, all being never.
    abbrev pub Right : Option (Found S) → Type 0
    Right (Some found) = (p : Plan) × (p.setups ≡ unpacked found.packed) × Complete j p × (found.cost ≡ plan_cost s costs j p) × NoneCheaper found.cost × (AllNever → ⊥)
    Right None = AllNever

  -- What holds after any calls of a run: `first` is the moment just after its start, w is now, k messages were taken.
  pub record Whole (first w : World S) (k : ℕ) : Type 0 where
    -- Each head's best cost is that of the complete plan beside it, or never with no plan.
    pub best_is_a_plan : (h : ℕ) → is_head w.lent.job h ≡ true → Stands w.lent.costs w.lent.job (best_of s w.lent h)
    -- No call has raised it since the start: not between any two moments.
    pub never_raised : (u : World S) (i o : ℕ) → Goes s first u i → Goes s u w o → (h : ℕ) → is_head w.lent.job h ≡ true →
        AtMost s (best_of s w.lent h).cost (best_of s u.lent h).cost
    -- End is granted exactly when no message waits; while it is refused, a message waits.
    pub ends_when_quiet : (answer : Result (Ended S) (Declined Run)) → Ends s w answer → (is_ok answer ≡ true) ↔ (w.lent.bag ≡ [])
    pub refused_while_one_waits : (f : Declined Run) → Ends s w (Err f) → (m : Message S) × (rest : List (Message S)) × Out m w.lent.bag rest
    -- Then all heads have the same best plan and cost, and every complete plan costs at least that.
    pub agreed : w.lent.bag ≡ [] → (h : ℕ) → is_head w.lent.job h ≡ true → best_of s w.lent h ≡ best_of s w.lent 1
    pub cheapest : w.lent.bag ≡ [] → NoneCheaper w.lent.costs w.lent.job (best_of s w.lent 1).cost
    -- And the end gives that plan and cost, or "no plan" exactly when every complete plan costs never.
    pub right_end : (e : Ended S) → Ends s w (Ok e) → Right w.lent.costs w.lent.job e.outcome
    -- No message of a run is stray and none is lost: deliver is refused only when none waits.
    pub refused_only_when_none_waits : (r : Refusal) (w' : World S) → Delivers s w (Err r) w' → number r ≡ 11
    -- The count is the number of messages that deliver has taken, and is limited.
    pub counted : w.run.count ≡ k
    pub limited : k ≤ most_messages w.lent.job

  -- The theorem.
  abbrev pub EveryRunStands : Type 0
  EveryRunStands = (first w : World S) (k : ℕ) → History s first w k → Whole first w k
