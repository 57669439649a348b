use Rattle.std.proofs.Common.{refl, arith, rules}
use Rattle.scale.specs.BytesLemmas.{four_read}
use Rattle.scale.specs.MinutesLaws.{read_never, read_other}
use Rattle.scale.proofs.minutes.operations.MinutesScale.read.Goals as goal

pub returns-then-value : goal.returns-then-value
returns-then-value c =
    read_never c.args.from.now c.from_be_bytes-value.result (four_read c.args.from.now _ (search rules) c.type_inv.from c.from_be_bytes-value.ensures) _ c.never.ensures c.if-value.true

pub returns : goal.returns
returns c =
    read_other c.args.from.now c.from_be_bytes-value.result (four_read c.args.from.now _ (search rules) c.type_inv.from c.from_be_bytes-value.ensures) _ refl (omega arith)
