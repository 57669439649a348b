use Rattle.std.proofs.Common.{sym, refl}
use Rattle.std.proofs.lemmas.Bool.{eq-eqb}
use Rattle.link.proofs.Posting.{sent_none}
use Rattle.head.proofs.search.come_back.Goals as goal

pub returns-then-seat-eq1 : goal.returns-then-seat-eq1
returns-then-seat-eq1 g c =
    let e = eq-eqb c.args.seat.head 1 c.if-seat-eq1.true in
    record { rests = refl; home = sym e; sent = rw e (sent_none _ _) }
