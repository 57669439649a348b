-- How many messages a partial plan may still cost: its weight. The bound on the messages of a run is the weight of the plans
-- with which it starts. Assumes nothing.
use Rattle.std.specs.Prelude.{◌≡◌, ℕ, ◌+◌, ◌-◌, ◌*◌, ◌≤◌, false, List, map, length, sum_by}
use Rattle.std.specs.List.{range_with_len}
use Rattle.job.specs.declared.job.Job.{Job}
use Rattle.job.specs.declared.plan.Plan.{Plan}
use Rattle.job.specs.Plans.{setups, plans, product, empty, named, name, unnamed_heads}

-- what one completion of a plan with m heads to name costs at most, among n heads
abbrev pub share : ℕ → ℕ → ℕ
share n m = m * (m + 3) + (n - 1)

-- how many completions a plan has, and what they cost together
abbrev pub completions : Job → Plan → ℕ
completions j q = product (setups j) (unnamed_heads j q)

abbrev pub weight : Job → Plan → ℕ
weight j q = completions j q * share j.heads (length (unnamed_heads j q))

-- the plan with each setup of head u
abbrev pub children : Job → Plan → ℕ → List Plan
children j q u = map (name q u) (range_with_len 0 (setups j u))

-- To expand a plan by a head costs a request and a report for each head to name, a plan message and a return, and then what the
-- children cost: no more than the plan's weight.
abbrev pub ExpandingFits : Type 0
ExpandingFits = (j : Job) (q : Plan) (u : ℕ) → length q.setups ≡ 8 → 1 ≤ u → u ≤ j.heads → named q u ≡ false →
    2 * length (unnamed_heads j q) + 2 + sum_by (weight j) (children j q u) ≤ weight j q

-- The plans that name one head weigh this together, whichever head it is.
abbrev pub RootsWeigh : Type 0
RootsWeigh = (j : Job) (u : ℕ) → 1 ≤ u → u ≤ j.heads →
    sum_by (weight j) (children j empty u) ≡ plans j * ((j.heads - 1) * (j.heads + 3))
