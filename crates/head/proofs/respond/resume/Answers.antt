use Rattle.head.proofs.Replying.{ready_on}
use Rattle.head.proofs.respond.resume.Goals as goal

pub search_on-requires : goal.search_on-requires
search_on-requires g c = rw c.of-seat.ensures (ready_on c.args.prices.now.job.now c.args.message.now.to c.args.known.now c.requires)
