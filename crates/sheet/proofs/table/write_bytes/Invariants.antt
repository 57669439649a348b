use Rattle.std.proofs.Common.{◌≡◌, take}
use Rattle.sheet.specs.Hex.{bytes}
use Rattle.sheet.proofs.table.write_bytes.Given as goal

abbrev pub invariant-loop-i : goal.invariant-loop-i
invariant-loop-i l = take l.i l.bytes ≡ take l.i (bytes l.digits)
