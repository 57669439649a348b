use Rattle.std.proofs.Common.{false, rules}
use Rattle.std.proofs.lemmas.Bool.Decides.{nat_tests}
use Rattle.job.proofs.Members.{below_by_place}
use Rattle.job.proofs.sets.Set.below.Goals as goal

pub returns : goal.returns
returns g c =
    below_by_place g.row.FIRST c.args.end c.from_fn.result c.from_fn.ensures.items.long (λ i lt. let called = c.from_fn.ensures.items.at i false lt in search (rules, nat_tests))
