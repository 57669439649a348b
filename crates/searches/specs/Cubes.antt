-- Cubes. A cube is a plan in part, and stands for all complete plans that extend it. Here is what a cube of a job is, which heads it
-- leaves open, and how many messages it may still cost. Serves the chains of a search, whose every link names one more head of a cube.
-- Assumes nothing.
use Rattle.std.specs.Prelude.{◌≡◌, ℕ, ◌+◌, ◌-◌, ◌*◌, ◌<◌, ◌≤◌, true, false, List, length}
use Rattle.scale.specs.Operations.{Operations, Laws}
use Rattle.job.specs.declared.job.Job.{Job}
use Rattle.job.specs.declared.plan.Plan.{Plan}
use Rattle.job.specs.Plans.{setups, setup, named, unnamed_heads}
use Rattle.problem.specs.Weights.{weight}

-- What searches work on: a scale, the costs of all pairs, and a job.
pub record Problem (S : Type 0) : Type 0 where
  pub scale : Operations S
  pub costs : List S
  pub job : Job

-- on a lawful scale; the ranges of jobs are in the jobs
pub record Lawful {S : Type 0} (π : Problem S) : Type 0 where
  pub laws : Laws π.scale

-- h is a head of the job
pub record Head (j : Job) (h : ℕ) : Type 0 where
  pub one_up : 1 ≤ h
  pub to_last : h ≤ j.heads

-- q is a cube of the job: it names only setups that the job has, and has none for a head past the last
pub record Fit (j : Job) (q : Plan) : Type 0 where
  pub long : length q.setups ≡ 8
  pub lawful : (h : ℕ) → named q h ≡ true → setup q h < setups j h
  pub no_other : (h : ℕ) → j.heads < h → h ≤ 8 → setup q h ≡ 255

-- u is a head of the job that q leaves open
pub record Open (j : Job) (q : Plan) (u : ℕ) : Type 0 where
  pub one_up : 1 ≤ u
  pub to_last : u ≤ j.heads
  pub unnamed : named q u ≡ false

-- The messages that a cube may still cost: its weight. It stays shut, so that a sum of allowances is linear.
unfoldable pub allowance : Job → Plan → ℕ
allowance j q = weight j q

-- what is left of that for the cube's children, once a request and a report for each open head, a plan message and a return are paid
unfoldable pub children_allowance : Job → Plan → ℕ
children_allowance j q = weight j q - (2 * length (unnamed_heads j q) + 2)
