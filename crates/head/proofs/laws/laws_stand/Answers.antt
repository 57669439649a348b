use Rattle.std.proofs.Common.{refl}
use Rattle.head.proofs.ActLaws.{best_never_rises, best_stays_a_plan, few_posts, report_tells_the_bound}
use Rattle.head.proofs.laws.laws_stand.Goals as goal

pub returns : goal.returns
returns g c =
    let laws = g.met.S.Scale.lawful in
    record { answer = refl; lower = best_never_rises laws; plans = best_stays_a_plan laws; few = few_posts laws; bounds = report_tells_the_bound laws }
