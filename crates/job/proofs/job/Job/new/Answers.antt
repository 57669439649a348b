use Rattle.std.proofs.Common.{sym, arith}
use Rattle.std.proofs.lemmas.Bool.Decides.{nat_tests}
use Rattle.job.proofs.Counts.{each_some, each_few, rest_none}
use Rattle.job.proofs.job.Job.new.Goals as goal

pub invariant_of-result : goal.invariant_of-result
invariant_of-result c =
    let ds = c.args.counts.now in
    let e = sym c.if-not-are_in_range.ensures in
    let is = c.padded.ensures in
    record { one = grind (arith, nat_tests); eight = omega arith; some = each_some ds _ _ e is; few = each_few ds _ _ e is; rest = rest_none ds _ _ e is }
