use Rattle.std.proofs.Common.{◌-◌, ◌*◌, ◌<◌, length, refl, arith, rules}
use Rattle.std.proofs.lemmas.List.{get_or_default}
use Rattle.head.specs.Bests.{at_first}
use Rattle.head.proofs.Heeding.{heeds_at}
use Rattle.head.proofs.receive.heed.Goals as goal

pub offset_bounds-bests-head : goal.offset_bounds-bests-head
offset_bounds-bests-head g c = let h : c.args.message.now.to - 1 < length c.args.memory.now.bests.now = omega arith in search rules

pub offset_bounds-memory-first : goal.offset_bounds-memory-first
offset_bounds-memory-first g c = let h : 8 * (c.args.message.now.to - 1) < length c.args.memory.now.records.now = omega arith in search rules

pub returns-clause-heeds : goal.returns-clause-heeds
returns-clause-heeds g c =
    let at = c.args.message.now.to - 1 in
    let best = get_or_default c.args.memory.now.bests.now at _ (at_first g.S.Scale.scale) (omega arith) in
    heeds_at g.S.Scale.scale c.args.out c.args.prices.now.job.now c.args.prices.now.costs.now c.args.memory.now.records.now c.args.memory.now.bests.now _ _ c.args.message.now c.requires _ _ c.is_out.result _
    c.respond.result _ c.respond.new.best _ _ _ refl (omega arith) c.is_out.ensures best refl c.respond.ensures
