use Rattle.std.proofs.Common.{◌≡◌, ℕ, ◌<◌, sym, ap, ◌∙◌, subst, arith}
use Rattle.std.proofs.lemmas.Bool.{ltb-true, both_ways}
use Rattle.job.specs.Plans.{setups, named}
use Rattle.problem.specs.Costs.{Comparable}
use Rattle.problem.proofs.Naming.{setups_few}
use Rattle.problem.proofs.Walks.{comparable, head_range}
use Rattle.problem.proofs.price.Prices.against.Goals as goal

pub against_range-requires : goal.against_range-requires
against_range-requires g c =
    let j = c.args.self.now.job.now in
    let q = c.args.plan.now in
    let h = c.args.head in
    let small : c.args.setup < setups j h = ltb-true _ _ c.requires.asked.0 in
    let range = head_range j h (omega arith) in
    let free : (k : ℕ) → named q k ≡ mathlib.Core.Bool.true → h ≡ k → ⊥ = λ k y e. both_ways (named q k) (ap (named q) (sym e) ∙ c.requires.asked.1) y in
    subst (λ (n : ℕ). Comparable q h c.args.setup 1 n) (sym c.heads.ensures)
    (comparable j q h c.args.setup 1 c.requires.of_job range.0 (omega (arith, j.eight)) (omega (arith, setups_few j h)) (omega arith) (λ k l y e. free k y e))
