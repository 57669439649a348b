use Rattle.std.proofs.Common.{◌≤◌, length}
use Rattle.std.specs.Str.Iter.{bytes_rest}
use Rattle.sheet_cases.proofs.expand.read_times.Given as goal

-- a read takes bytes from the front of what is left
abbrev pub invariant-loop-byte : goal.invariant-loop-byte
invariant-loop-byte l = length (bytes_rest l.rest) ≤ length (bytes_rest l.fn.rest)
