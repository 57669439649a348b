use Rattle.std.proofs.Common.{sym, ◌∙◌, arith}
use Rattle.link.proofs.Posting.{sent_dropped}
use Rattle.link.proofs.sending.send.Goals as goal

pub returns-then-waiting-saturating_sub : goal.returns-then-waiting-saturating_sub
returns-then-waiting-saturating_sub g c = sent_dropped _ _ c.args.message (sym c.is_notice.ensures ∙ c.if-is_notice.true) (omega arith)
