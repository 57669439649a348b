-- Jobs and plans. A head is a number from 1 to 8, a setup one from 0 to 7; 255 in a plan is none. Every other number is a head
-- without setups, which no plan names. Assumes nothing.
use Rattle.std.specs.Prelude.{◌≡◌, ℕ, zero, suc, ◌-◌, ◌*◌, ◌<◌, ◌≤◌, Bool, true, false, cond, not, ◌&&◌, ◌||◌, List, [], ◌∷◌, ◌++◌, length, replicate, Some, None, Option, Result, MatchResult, nat_le, nat_lt, slice_index, slice_index_or, slice_set}
use Rattle.std.specs.List.{range_with_len}
use Rattle.job.specs.declared.refusal.Refusal.{Refusal}
use Rattle.job.specs.declared.refusal.Refusal.TheVariants.{BadNumber}
use Rattle.job.specs.declared.job.Job.{Job}
use Rattle.job.specs.declared.plan.Plan.{Plan}
use Rattle.job.specs.Lists.{those, every}

-- the heads of a job, ascending; how many setups head h has; whether h is a head, and i a setup of h
abbrev pub heads : Job → List ℕ
heads j = range_with_len 1 j.heads

abbrev pub setups : Job → ℕ → ℕ
setups j zero = 0
setups j (suc k) = slice_index j.setups k

abbrev pub is_head : Job → ℕ → Bool
is_head j h = nat_le 1 (setups j h)

abbrev pub is_setup : Job → ℕ → ℕ → Bool
is_setup j h i = nat_lt i (setups j h)

-- counts of setups that a job can have, head by head; what making a job of them answers
abbrev pub are_counts : List ℕ → Bool
are_counts ds = (nat_le 1 (length ds) && nat_le (length ds) 8) && every (λ d. nat_le 1 d && nat_le d 8) ds

pub record JobOf (ds : List ℕ) (j : Job) : Type 0 where
  pub lawful : are_counts ds ≡ true
  pub heads_are : j.heads ≡ length ds
  pub setups_are : j.setups ≡ ds ++ replicate (8 - length ds) 0

abbrev pub MakesJob : List ℕ → Result Job Refusal → Type 0
MakesJob ds r = MatchResult r (JobOf ds) (λ e. (are_counts ds ≡ false) × (e ≡ BadNumber))

-- the number of complete plans
unfoldable pub product : (ℕ → ℕ) → List ℕ → ℕ
product d [] = 1
product d (h ∷ hs) = d h * product d hs

abbrev pub plans : Job → ℕ
plans j = product (setups j) (heads j)

-- the plan that names no head; the setup that a plan names for head h, 255 for none; whether it names one
abbrev pub empty : Plan
empty = record { setups = replicate 8 255 }

abbrev pub setup : Plan → ℕ → ℕ
setup q zero = 255
setup q (suc k) = cond (nat_lt k 8) (slice_index_or q.setups k 255) 255

abbrev pub named : Plan → ℕ → Bool
named q h = nat_lt (setup q h) 255

abbrev pub setup_named : Plan → ℕ → Option ℕ
setup_named q h = cond (named q h) (Some (setup q h)) None

-- the plan that names setup i for head h and is otherwise as q; 255 takes the name back
abbrev pub name : Plan → ℕ → ℕ → Plan
name q zero i = q
name q (suc k) i = record { setups = slice_set q.setups k i }

-- the heads of the job that a plan names, and those that it does not, ascending
abbrev pub named_heads : Job → Plan → List ℕ
named_heads j q = those (named q) (heads j)

abbrev pub unnamed_heads : Job → Plan → List ℕ
unnamed_heads j q = those (λ h. not (named q h)) (heads j)

-- a complete plan names all heads of the job; an empty one names none of the eight
abbrev pub is_complete : Job → Plan → Bool
is_complete j q = every (named q) (heads j)

abbrev pub is_empty : Plan → Bool
is_empty q = every (λ h. not (named q h)) (range_with_len 1 8)

-- a plan of the job names no head and no setup that the job lacks
abbrev pub is_of_job : Job → Plan → Bool
is_of_job j q = every (λ h. not (named q h) || is_setup j h (setup q h)) (range_with_len 1 8)

-- A complete plan of the job: one of its setups for each head of the job, and none for any other head.
pub record Complete (j : Job) (p : Plan) : Type 0 where
  pub each : (h : ℕ) → 1 ≤ h → h ≤ j.heads → setup p h < setups j h
  pub no_other : (h : ℕ) → j.heads < h → h ≤ 8 → setup p h ≡ 255

-- The complete plan p extends q: it names what q names.
pub record Extends (j : Job) (q p : Plan) : Type 0 where
  pub complete : Complete j p
  pub as_named : (h : ℕ) → 1 ≤ h → h ≤ j.heads → named q h ≡ true → setup p h ≡ setup q h
