use Rattle.std.proofs.Common.{not, eqb, refl}
use Rattle.link.specs.declared.message.Kind.TheVariants.{Notice}
use Rattle.link.specs.Messages.{message}
use Rattle.head.specs.Searching.{others}
use Rattle.head.proofs.EachHead.{sent_collected, sent_unlost, notices_not_lost}
use Rattle.head.proofs.search.notify.Goals as goal

pub returns : goal.returns
returns g c =
    let found = c.args.found in
    let m = message Notice c.args.seat.head c.args.seat.head c.args.seat.search found.plan found.cost in
    sent_unlost _ _ _ _ _ _ (notices_not_lost _ _ m (others c.args.job.now c.args.seat.head) refl)
    (sent_collected c.args.job.now (λ h. not (eqb h c.args.seat.head)) c.others.result m _ _ _ _ _ _ c.others.ensures refl (simp c.message.ensures at c.send_each.ensures))
