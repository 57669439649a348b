use Rattle.std.proofs.Common.{◌+◌, ◌-◌, ◌*◌, ◌≤◌, arith}
use Rattle.std.proofs.lemmas.Nat.{mul-le}
use Rattle.problem.proofs.Pruning.{children_cover}
use Rattle.problem.proofs.Weights.{expanding_fits, roots_weigh, plans_few}
use Rattle.problem.proofs.theorems.weight_of_plans.Goals as goal

pub overflow_mul-result-2 : goal.overflow_mul-result-2
overflow_mul-result-2 c =
    let j = c.args.job.now in
    let n = c.heads-heads.result in
    let sides : (n - 1) * (n + 3) ≤ 7 * 11 = mul-le (n - 1) (n + 3) 7 11 (omega (arith, j.eight)) (omega (arith, j.eight)) in
    let all : c.args.plans * ((n - 1) * (n + 3)) ≤ 16777216 * 77 = mul-le c.args.plans ((n - 1) * (n + 3)) 16777216 77 (omega (arith, plans_few j)) (omega arith) in
    omega arith

pub returns : goal.returns
returns c = record { value = rw (c.requires, c.heads-heads.ensures); cover = children_cover; expanding = expanding_fits; roots = roots_weigh }
