-- What has been read of a sheet so far, and which numbers the code keeps in range. Assumes nothing.
use Rattle.std.specs.Prelude.{◌≡◌, ℕ, ◌<◌, ◌≤◌, Bool, List, slice_index}
use Rattle.sheet.specs.declared.progress.Stage.{Stage}
use Rattle.sheet.specs.declared.progress.Stage.TheVariants.{Start, Heads, Tables, Ended}

-- the stage; how many heads there are and how many of them are known; their setups, head by head; which pairs have a table
pub record Known : Type 0 where
  pub stage : Stage
  pub heads : ℕ
  pub known : ℕ
  pub setups : List ℕ
  pub tables : List Bool

-- What the code keeps true of what it has read: the numbers are in range.
abbrev pub Staged : Stage → ℕ → ℕ → Type 0
Staged Start heads known = known ≡ 0
Staged Heads heads known = known < heads
Staged Tables heads known = (known ≡ heads) × (1 ≤ heads)
Staged Ended heads known = (known ≡ heads) × (1 ≤ heads)

pub record Sound (s : Known) : Type 0 where
  pub few : s.heads ≤ 8
  pub staged : Staged s.stage s.heads s.known
  pub each : (k : ℕ) → k < s.known → (1 ≤ slice_index s.setups k) × (slice_index s.setups k ≤ 8)
  pub rest : (k : ℕ) → s.known ≤ k → slice_index s.setups k ≡ 0
