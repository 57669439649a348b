use Rattle.std.proofs.Common.{◌+◌, not, eqb, ◌∙◌, arith, rules}
use borrow.Author.Tests.{tests}
use Rattle.std.proofs.lemmas.Iterator.{YieldsList-from_range}
use Rattle.std.proofs.lemmas.Iterator.Consumers.{YieldsList-from_filter, fold_from_yields_List}
use Rattle.link.specs.HeadSets.{with_head}
use Rattle.head.proofs.EachHead.{collected}
use Rattle.head.proofs.sending.others.Goals as goal

pub returns : goal.returns
returns c =
    fold_from_yields_List _ with_head c.empty.result c.fold.result c.fold.ensures.ran
    (YieldsList-from_filter _ (λ g. not (eqb g c.args.head)) (YieldsList-from_range 1 (c.heads.result + 1) c.args.job.now.heads c.filter.ensures.source (omega arith)) c.filter.ensures.closure (λ x b q k. search (rules, tests)))
    (λ a x b q k. search rules)
    ∙ rw c.empty.ensures (collected _ _)
