-- Words that spell a plan: for each head of a job, the number of its setup in decimal. Assumes nothing.
use Rattle.std.specs.Prelude.{◌≡◌, ℕ, ◌-◌, ◌≤◌, List, length, decimal, slice_index_or}
use Rattle.job.specs.declared.job.Job.{Job}
use Rattle.job.specs.declared.plan.Plan.{Plan}
use Rattle.job.specs.Plans.{setup, Complete}

-- q is a complete plan of the job, and the words, whose bytes `bytes` gives, are its setups
pub record Spelled {W : Type 0} (bytes : W → List ℕ) (j : Job) (words : List W) (q : Plan) : Type 0 where
  pub whole : length q.setups ≡ 8
  pub complete : Complete j q
  pub count : length words ≡ j.heads
  pub each : (h : ℕ) (other : W) → 1 ≤ h → h ≤ j.heads → bytes (slice_index_or words (h - 1) other) ≡ decimal (setup q h)
