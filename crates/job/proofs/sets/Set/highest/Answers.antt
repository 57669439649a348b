use Rattle.std.proofs.Common.{◌-◌, min, reverse, sym, ◌∙◌, arith, rules}
use Rattle.std.proofs.lemmas.Iterator.Adapters.{option_map_id}
use Rattle.std.proofs.lemmas.Iterator.Search.{find_from_yields_List}
use Rattle.job.specs.Sets.{has, numbers}
use Rattle.job.proofs.Members.{first_found, YieldsList-from_rev_range}
use Rattle.job.proofs.sets.Set.highest.Goals as goal
use borrow.Author.Tests.{tests}

pub returns : goal.returns
returns g c =
    let f = g.row.FIRST in
    let p = has f c.args.self.now in
    let road = YieldsList-from_rev_range f c.saturating_add.result (min (255 - f) 8) c.rev.ensures.source (omega arith) in
    sym (option_map_id c.find.result) ∙ find_from_yields_List p _ _ c.find.result c.find.ensures.ran road (λ x b q k. search (rules, tests)) ∙ first_found p (reverse (numbers f))
