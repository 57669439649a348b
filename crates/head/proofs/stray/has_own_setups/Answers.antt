use Rattle.std.proofs.Common.{not, ◌||◌, ◌∙◌, refl, rules}
use borrow.Author.Tests.{tests}
use Rattle.std.proofs.lemmas.Iterator.{YieldsList-from_range}
use Rattle.std.proofs.lemmas.Iterator.Search.{all_from_yields_List}
use Rattle.job.specs.Plans.{is_setup}
use Rattle.head.specs.SetupSets.{has_setup}
use Rattle.job.proofs.Lists.{every_listed}
use Rattle.head.proofs.stray.has_own_setups.Goals as goal

pub returns : goal.returns
returns c =
    all_from_yields_List (λ i. not (has_setup c.args.untried.now i) || is_setup c.args.job.now c.args.head i) _ _ c.all.result c.all.ensures.ran (YieldsList-from_range 0 8 8 refl refl) (λ x b q k. search (rules, tests))
    ∙ every_listed _ _
