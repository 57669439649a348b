use Rattle.std.proofs.Common.{not, ◌∙◌, refl, rules}
use borrow.Author.Tests.{tests}
use Rattle.std.proofs.lemmas.Iterator.{YieldsList-from_range}
use Rattle.std.proofs.lemmas.Iterator.Search.{all_from_yields_List}
use Rattle.job.specs.Plans.{named}
use Rattle.job.proofs.Lists.{every_listed}
use Rattle.job.proofs.plan.Plan.is_empty.Goals as goal

pub returns : goal.returns
returns c =
    all_from_yields_List (λ h. not (named c.args.self.now h)) _ _ c.all.result c.all.ensures.ran (YieldsList-from_range 1 9 8 refl refl) (λ x b q k. search (rules, tests))
    ∙ every_listed _ _
