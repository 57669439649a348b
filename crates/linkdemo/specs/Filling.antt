-- Many messages posted to a link, one after the other. Assumes nothing.
use Rattle.std.specs.Prelude.{◌≡◌, ℕ, ◌+◌, ◌<◌, ◌≤◌, List, ◌++◌, length, Ok, Err, Result, Some, None, Option}
use Rattle.job.specs.declared.refusal.Refusal.{Refusal}
use Rattle.job.specs.Refusals.{number}
use Rattle.problem.specs.Bags.{Same}

-- All of them come to wait, or there are more than fit, and the first that does not fit is refused with 10.
abbrev pub Filled : {M U : Type 0} → ℕ → List M → List M → Result U Refusal → ℕ → List M → Type 0
Filled limit bag ms (Ok u) limit' bag' = (length bag + length ms ≤ limit) × (limit' ≡ limit) × Same (bag ++ ms) bag'
Filled limit bag ms (Err e) limit' bag' = (number e ≡ 10) × (limit < length bag + length ms) × (limit' ≡ limit) × (length bag' ≡ limit)

-- a refusal's number, if there is one
abbrev pub refused_with : {U : Type 0} → Result U Refusal → Option ℕ
refused_with (Ok u) = None
refused_with (Err e) = Some (number e)
