use Rattle.std.proofs.Common.{◌≡◌, ◌+◌, length, string_bytes}
use Rattle.sheetcheck.proofs.Completing.{NamedBelow}
use Rattle.sheetcheck.proofs.arguments.plan_of.Given as goal

abbrev pub invariant-loop-head : goal.invariant-loop-head
invariant-loop-head l = (length l.plan.setups ≡ 8) × NamedBelow string_bytes l.job l.words l.plan (1 + length l.yielded)
