use Rattle.std.proofs.Common.{◌+◌, ◌||◌, ◌∙◌, refl, arith, rules}
use borrow.Author.Tests.{tests}
use Rattle.std.proofs.lemmas.Iterator.{YieldsList-from_range}
use Rattle.std.proofs.lemmas.Iterator.Search.{all_from_yields_List}
use Rattle.job.specs.Plans.{named}
use Rattle.link.specs.HeadSets.{has_head}
use Rattle.head.proofs.Ranges.{every_of_those}
use Rattle.head.proofs.respond.has_heard_all.Goals as goal

pub returns : goal.returns
returns c =
    all_from_yields_List (λ h. named c.args.plan.now h || has_head c.args.heard.now h) _ _ c.all.result c.all.ensures.ran
    (YieldsList-from_range 1 (c.heads.result + 1) c.args.job.now.heads refl (omega arith)) (λ x b q k. search (rules, tests))
    ∙ every_of_those _ _ _
