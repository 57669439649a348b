use Rattle.sheet.proofs.Judges.{judged}
use Rattle.sheet.proofs.LaidOut.{lays_out}
use Rattle.sheet.proofs.read.read.Goals as goal

pub returns-clause-judged : goal.returns-clause-judged
returns-clause-judged g c = judged g.S.Scale.coding g.S.Scale.scale c.args.sheet.now c.args.costs.now _ _ c.read_exactly.ensures

pub returns-clause-laid : goal.returns-clause-laid
returns-clause-laid g c = lays_out g.S.Scale.scale g.S.Scale.coding c.args.sheet.now c.args.costs.now _ c.read_exactly.result c.read_exactly.ensures
