use Rattle.std.proofs.Common.{sym, ◌∙◌}
use Rattle.head.proofs.Taking.{stray_address}
use Rattle.head.proofs.receive.sort_out.Goals as goal

pub returns-then-not-is_addressed-clause-heeds : goal.returns-then-not-is_addressed-clause-heeds
returns-then-not-is_addressed-clause-heeds g c = stray_address g.S.Scale.scale c.args.out _ c.args.message.now (sym c.is_addressed.ensures ∙ c.if-not-is_addressed.true)
