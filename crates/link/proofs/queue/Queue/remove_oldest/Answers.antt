use Rattle.std.proofs.Common.{sym, refl, subst, arith}
use Rattle.problem.specs.Bags.{Same}
use Rattle.link.proofs.Bags.{same_refl}
use Rattle.link.proofs.Rows.{removed_first}
use Rattle.link.proofs.queue.Queue.remove_oldest.Goals as goal

pub returns : goal.returns
returns g c =
    let s = c.args.self.now in
    let e = removed_first s.first s.count c.place_of-at.result s.places.now _ s.inside (omega arith) s.few c.place_of-at.ensures.1 c.place_of-at.ensures.0 in
    record { limit_stays = refl; oldest = e; bag = subst (Same _) (sym e) (same_refl _) }
