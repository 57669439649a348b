use Rattle.std.proofs.Common.{◌-◌, min, refl, sym, ◌∙◌, arith, rules}
use Rattle.std.proofs.lemmas.Iterator.{YieldsList-from_range}
use Rattle.std.proofs.lemmas.Iterator.Adapters.{option_map_id}
use Rattle.std.proofs.lemmas.Iterator.Search.{find_from_yields_List}
use Rattle.job.specs.Sets.{has, numbers}
use Rattle.job.proofs.Members.{first_found}
use Rattle.job.proofs.sets.Set.lowest.Goals as goal
use borrow.Author.Tests.{tests}

pub returns : goal.returns
returns g c =
    let f = g.row.FIRST in
    let p = has f c.args.self.now in
    let road = YieldsList-from_range f c.saturating_add.result (min (255 - f) 8) refl (omega arith) in
    sym (option_map_id c.find.result) ∙ find_from_yields_List p _ _ c.find.result c.find.ensures.ran road (λ x b q k. search (rules, tests)) ∙ first_found p (numbers f)
