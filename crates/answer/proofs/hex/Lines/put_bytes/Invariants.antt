use Rattle.std.proofs.Common.{take}
use Rattle.answer.specs.Hex.{hex}
use Rattle.answer.specs.Cursors.{Puts}
use Rattle.answer.proofs.hex.Lines.put_bytes.Given as goal

abbrev pub invariant-loop-byte : goal.invariant-loop-byte
invariant-loop-byte l = Puts l.initial.self (hex (take l.byte-index l.bytes)) l.self
