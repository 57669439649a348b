use Rattle.std.proofs.Common.{not}
use Rattle.job.specs.Plans.{named}
use Rattle.link.specs.declared.message.Kind.TheVariants.{Request}
use Rattle.link.specs.Messages.{message}
use Rattle.head.proofs.EachHead.{sent_collected}
use Rattle.head.proofs.search.ask.Goals as goal

pub returns : goal.returns
returns g c =
    let m = message Request c.args.seat.head c.args.seat.head c.args.seat.search c.args.plan c.nothing.result in
    sent_collected c.args.job.now (λ h. not (named c.args.plan h)) c.unnamed.result m _ _ _ _ _ _ c.unnamed.ensures c.nothing.ensures (simp c.message.ensures at c.send_each.ensures)
