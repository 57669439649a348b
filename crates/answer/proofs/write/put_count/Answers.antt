use Rattle.std.proofs.Common.{ℕ, List, subst}
use Rattle.answer.specs.Hex.{hex}
use Rattle.answer.specs.Cursors.{Puts}
use Rattle.answer.proofs.Cursors.{puts_then}
use Rattle.answer.proofs.write.put_count.Goals as goal

pub returns : goal.returns
returns c =
    let told = subst (λ (bs : List ℕ). Puts c.put_bytes.new.self (hex bs) c.put_bytes-2.new.self) c.to_be_bytes.ensures c.put_bytes-2.ensures in
    puts_then (puts_then c.put_bytes.ensures told) c.end_line.ensures
