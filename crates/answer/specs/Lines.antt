-- The lines that tell what a run came to, and the line of a refusal. Assumes nothing.
use Rattle.std.specs.Prelude.{◌≡◌, ℕ, ◌/◌, ◌%◌, ◌<◌, ◌≤◌, List, [], ◌∷◌, ◌++◌, length, take, drop, Some, None, Ok, Err, Option, Result}
use Rattle.scale.specs.Coding.{Coding}
use Rattle.job.specs.declared.refusal.Refusal.{Refusal}
use Rattle.job.specs.Refusals.{number}
use Rattle.run.specs.declared.run.Found.{Found}
use Rattle.run.specs.declared.run.Ended.{Ended}
use Rattle.run.specs.Ending.{unpacked}
use Rattle.job.specs.declared.declined.Declined.{Declined}
use Rattle.answer.specs.Hex.{line}

-- a number below 2^64 in 8 bytes, and one below 2^16 in 2, the most significant first
abbrev pub eight_bytes : ℕ → List ℕ
eight_bytes n =
    (n / 72057594037927936 % 256) ∷ (n / 281474976710656 % 256) ∷ (n / 1099511627776 % 256) ∷ (n / 4294967296 % 256) ∷ (n / 16777216 % 256) ∷ (n / 65536 % 256) ∷ (n / 256 % 256) ∷ (n % 256) ∷ []

abbrev pub two_bytes : ℕ → List ℕ
two_bytes n = (n / 256 % 256) ∷ (n % 256) ∷ []

-- A refusal is one line: FF, its number, and the number of the line of the sheet in two bytes.
abbrev pub refusal_line : Refusal → ℕ → List ℕ
refusal_line r n = line (255 ∷ number r ∷ two_bytes n)

module _ {S : Type 0} (c : Coding S) where
  -- 05, the number of heads, the setup of each head and the cost; or 06 for no plan
  abbrev pub outcome_bytes : ℕ → Option (Found S) → List ℕ
  outcome_bytes heads (Some found) = 5 ∷ heads ∷ (take heads (unpacked found.packed) ++ c.bytes found.cost)
  outcome_bytes heads None = 6 ∷ []

  -- The first line tells the plan and its cost, the second the count: 07 and the count in 8 bytes.
  abbrev pub answer_lines : Ended S → List ℕ
  answer_lines e = line (outcome_bytes e.heads e.outcome) ++ line (7 ∷ eight_bytes e.count)

  -- The lines stand at the front of the memory, the answer is their length, and nothing else moves. Fewer than 64 bytes are
  -- declined with 7; nothing moves then, and the ended run comes back.
  abbrev pub Writes : Ended S → List ℕ → Result ℕ (Declined (Ended S)) → List ℕ → Type 0
  Writes e out (Ok n) out' = (64 ≤ length out) × (n ≡ length (answer_lines e)) × (out' ≡ answer_lines e ++ drop (length (answer_lines e)) out)
  Writes e out (Err f) out' = (length out < 64) × (number f.refusal ≡ 7) × (f.back ≡ e) × (out' ≡ out)
