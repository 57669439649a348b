-- How the costs of a scale stand in a sheet and in the program's output: a number for the scale, and a fixed number of bytes for
-- each cost. Assumes nothing.
use Rattle.std.specs.Prelude.{◌≡◌, ℕ, ◌≤◌, Bool, cond, List, ◌++◌, length, drop, replicate, Some, None, Option, nat_le}
use Rattle.std.specs.Str.{bytes_eq}
use Rattle.scale.specs.Operations.{Operations}

pub record Coding (S : Type 0) : Type 0 where
  -- the scale's number in the first line of a sheet
  pub number : ℕ
  -- how many bytes a cost has, and which, the most significant first
  pub width : ℕ
  pub bytes : S → List ℕ
  -- the only cost that may have these bytes
  pub value : List ℕ → S
  -- whether the cost may be an entry of a sheet
  pub enterable : S → Bool

pub record Coded {S : Type 0} (s : Operations S) (c : Coding S) : Type 0 where
  pub some : 1 ≤ c.width
  pub few : c.width ≤ 6
  pub long : (x : S) → length (c.bytes x) ≡ c.width
  -- what was written is read back
  pub back : (x : S) → c.value (c.bytes x) ≡ x
  -- never is written as FF throughout
  pub all_ff : c.bytes s.never ≡ replicate c.width 255

module _ {S : Type 0} (c : Coding S) where
  -- the cost that has these bytes, if there is one
  abbrev pub reading : List ℕ → Option S
  reading bs = cond (bytes_eq (c.bytes (c.value bs)) bs) (Some (c.value bs)) None

  -- how many bytes go into a memory, and what it holds then: all of them at its front, or none where it is too short
  abbrev pub written : List ℕ → Option ℕ
  written out = cond (nat_le c.width (length out)) (Some c.width) None

  abbrev pub writing : S → List ℕ → List ℕ
  writing x out = cond (nat_le c.width (length out)) (c.bytes x ++ drop c.width out) out
