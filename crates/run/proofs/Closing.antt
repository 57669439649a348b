-- Ending a run where the memory suffices. Assumes nothing.
use Rattle.std.proofs.Common.{◌≡◌, Result, subst}
use Rattle.scale.specs.Operations.{Operations}
use Rattle.job.specs.declared.declined.Declined.{Declined}
use Rattle.job.specs.Plans.{is_complete}
use Rattle.head.specs.declared.best.Best.{Best}
use Rattle.head.specs.Lent.{Enough, best_of}
use Rattle.run.specs.declared.run.Run.{Run}
use Rattle.run.specs.declared.run.Ended.{Ended}
use Rattle.run.specs.Worlds.{World}
use Rattle.run.specs.Ending.{Tells, Ends, EndsWith}

pub ends_so : {S : Type 0} (s : Operations S) (w : World S) (best : Best S) (r : Result (Ended S) (Declined Run)) → Enough w.lent → best ≡ best_of s w.lent 1 → EndsWith s w.lent.job best w.run w.lent.bag r → Ends s w r
ends_so s w best r e is (EndsWith.still_out n o b) = Ends.still_out n e o b
ends_so s w best r e is (EndsWith.granted {e = x} o b h k t) = Ends.granted e o b (record { heads = h; count = k; outcome = subst (λ (y : Best _). Tells s y (is_complete w.lent.job y.plan) x.outcome) is t })
