use Rattle.std.proofs.Common.{vec_items}
use Rattle.sheetcheck.specs.Pricing.{PricedAsNamed}
use Rattle.sheetcheck.proofs.prices.Prices.new.Given as goal

abbrev pub invariant-loop-b : goal.invariant-loop-b
invariant-loop-b g l = PricedAsNamed g.S.Scale.scale l.costs l.plan (vec_items l.pairs)

abbrev pub invariant-loop-a : goal.invariant-loop-a
invariant-loop-a g l = PricedAsNamed g.S.Scale.scale l.costs l.plan (vec_items l.pairs)
