use Rattle.std.proofs.Common.{sym, refl, subst, arith}
use Rattle.std.proofs.lemmas.List.{length-set}
use Rattle.problem.specs.Bags.{Same}
use Rattle.link.proofs.Bags.{same_refl, same_last}
use Rattle.link.proofs.Rows.{length_waiting, added_last}
use Rattle.link.proofs.queue.Queue.post.Goals as goal

pub returns-then-self-clause-meaning : goal.returns-then-self-clause-meaning
returns-then-self-clause-meaning g c =
    let s = c.args.self.now in (refl, omega (arith, length_waiting s.count s.first s.places.now), refl, same_refl _)

pub returns : goal.returns
returns g c =
    let s = c.args.self.now in
    let xs = s.places.now in
    let at = c.place_of-at.result in
    let m = c.args.message in
    let e = added_last s.first s.count at xs m s.inside (omega arith) c.place_of-at.ensures.1 in
    record { meaning = (omega (arith, length_waiting s.count s.first xs), length-set xs at m, subst (Same _) (sym e) (same_last _ m)); order = e }
