use Rattle.std.proofs.Common.{◌≡◌, ℕ, List, [], ◌∷◌, ◌++◌, ◌/◌, length, get_or, sym, ◌∙◌, ap₂, arith}
use Rattle.std.proofs.lemmas.List.{take_more, take_more_set, take_all}
use Rattle.sheet.specs.Hex.{bytes}
use Rattle.sheet.proofs.Digits.{byte_of_pair, bytes_length}
use Rattle.sheet.proofs.table.write_bytes.Goals as goal

pub loop-i-preserved : goal.loop-i-preserved
loop-i-preserved c =
    let ds = c.args.digits.now in
    let i = c.loop-i.i in
    let long = bytes_length ds (length c.args.bytes.now) c.requires in
    let read = rw c.as_chunks.ensures.front at c.byte.ensures in
    let is : c.byte.result ≡ get_or (bytes ds) i 0 = read ∙ byte_of_pair (length ds / 2) i ds (omega arith) (omega arith) in
    take_more_set c.loop-i.bytes i c.byte.result (omega arith)
    ∙ ap₂ (λ (xs : List ℕ) (x : ℕ). xs ++ x ∷ []) c.loop-i.invariant is
    ∙ sym (take_more (bytes ds) i 0 (omega arith))

pub returns : goal.returns
returns c =
    let ds = c.args.digits.now in
    let long = bytes_length ds (length c.args.bytes.now) c.requires in
    sym (take_all c.loop-i.i c.loop-i.bytes (omega arith)) ∙ c.loop-i.invariant ∙ take_all c.loop-i.i (bytes ds) (omega arith)
