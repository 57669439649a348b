use Rattle.std.proofs.Common.{refl, arith, rules}
use Rattle.scale.specs.BytesLemmas.{six_read}
use Rattle.scale.specs.ClashesLaws.{read_never, read_other}
use Rattle.scale.proofs.clashes.operations.ClashesScale.read.Goals as goal

pub returns-then-minutes : goal.returns-then-minutes
returns-then-minutes c =
    read_never c.args.from.now _ _ (six_read c.args.from.now _ _ (search rules) c.type_inv.from c.from_be_bytes-clashes.ensures c.from_be_bytes-minutes.ensures) _ c.never.ensures c.if-clashes.true c.if-minutes.true

pub returns : goal.returns
returns c =
    read_other c.args.from.now _ _ (six_read c.args.from.now _ _ (search rules) c.type_inv.from c.from_be_bytes-clashes.ensures c.from_be_bytes-minutes.ensures) _ refl refl (omega arith)
