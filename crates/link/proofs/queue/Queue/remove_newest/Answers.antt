use Rattle.std.proofs.Common.{sym, refl, subst, arith}
use Rattle.problem.specs.Bags.{Same}
use Rattle.link.proofs.Bags.{same_last}
use Rattle.link.proofs.Rows.{removed_last}
use Rattle.link.proofs.queue.Queue.remove_newest.Goals as goal

pub returns : goal.returns
returns g c =
    let s = c.args.self.now in
    let e = removed_last s.first s.count c.place_of-at.result s.places.now _ s.inside (omega arith) s.few c.place_of-at.ensures.1 in
    record { limit_stays = refl; newest = e; bag = subst (Same _) (sym e) (same_last _ _) }
