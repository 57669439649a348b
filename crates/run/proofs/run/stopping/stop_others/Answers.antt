use Rattle.std.proofs.Common.{not, eqb, refl}
use Rattle.link.specs.declared.message.Kind.TheVariants.{Stop}
use Rattle.link.specs.Messages.{message}
use Rattle.head.proofs.EachHead.{sent_collected}
use Rattle.run.proofs.run.stopping.stop_others.Goals as goal

pub returns : goal.returns
returns g c =
    let best = c.args.best.now in
    let m = message Stop 1 1 0 best.plan best.cost in
    sent_collected c.args.job.now (λ h. not (eqb h 1)) c.others.result m _ _ _ _ _ _ c.others.ensures refl c.send_each.ensures
