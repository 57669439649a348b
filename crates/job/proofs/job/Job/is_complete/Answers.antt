use Rattle.std.proofs.Common.{◌+◌, ◌∙◌, refl, arith, rules}
use borrow.Author.Tests.{tests}
use Rattle.std.proofs.lemmas.Iterator.{YieldsList-from_range}
use Rattle.std.proofs.lemmas.Iterator.Search.{all_from_yields_List}
use Rattle.job.specs.Plans.{named}
use Rattle.job.proofs.Lists.{every_listed}
use Rattle.job.proofs.job.Job.is_complete.Goals as goal

pub returns : goal.returns
returns c =
    let heads = c.args.self.now.heads in
    all_from_yields_List (named c.args.plan.now) _ _ c.all.result c.all.ensures.ran (YieldsList-from_range 1 (heads + 1) heads refl (omega arith)) (λ x b q k. search (rules, tests))
    ∙ every_listed _ _
