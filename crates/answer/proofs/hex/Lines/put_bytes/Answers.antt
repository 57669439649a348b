use Rattle.std.proofs.Common.{ℕ, List, take, sym, subst, refl, arith}
use Rattle.std.proofs.lemmas.List.{take_all, length-take-le}
use Rattle.answer.specs.Hex.{hex}
use Rattle.answer.specs.Cursors.{Puts}
use Rattle.answer.proofs.Cursors.{written_none, puts_then, hex_length, hex_more}
use Rattle.answer.proofs.hex.Lines.put_bytes.Goals as goal

pub loop-byte-init : goal.loop-byte-init
loop-byte-init c = record { written = written_none c.args.self.now.out.now c.args.self.now.end; room = refl; same_memory = refl }

pub put_byte-requires : goal.put_byte-requires
put_byte-requires c =
    let bs = c.args.bytes.now in
    let i = c.loop-byte.byte-index in
    omega (arith, c.loop-byte.invariant.written.end_is, c.loop-byte.invariant.room, hex_length (take i bs), length-take-le i bs (omega arith))

pub loop-byte-preserved : goal.loop-byte-preserved
loop-byte-preserved c =
    subst (λ (xs : List ℕ). Puts c.args.self.now xs c.put_byte.new.self) (sym (hex_more c.args.bytes.now c.loop-byte.byte-index (omega arith))) (puts_then c.loop-byte.invariant c.put_byte.ensures)

pub returns : goal.returns
returns c = subst (λ (xs : List ℕ). Puts c.args.self.now (hex xs) c.loop-byte.self) (take_all c.loop-byte.byte-index c.args.bytes.now (omega arith)) c.loop-byte.invariant
