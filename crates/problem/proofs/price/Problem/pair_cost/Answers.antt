use Rattle.std.proofs.Common.{sym, arith}
use Rattle.problem.proofs.Naming.{setups_few}
use Rattle.problem.proofs.Walks.{some_named, named_of_job, head_range}
use Rattle.problem.proofs.price.Problem.pair_cost.Goals as goal

pub between-requires : goal.between-requires
between-requires g c =
    let j = c.args.self.now.job.now in
    let q = c.args.plan.now in
    let a = some_named q c.args.a c.in-Some-Some.i (sym c.in-Some-Some.ensures) in
    let b = some_named q c.args.b c.in-Some-Some.j (sym c.in-Some-Some.ensures') in
    let of_job = sym c.if-not-admits.ensures in
    let i = named_of_job j q of_job c.args.a a.0 in
    let k = named_of_job j q of_job c.args.b b.0 in
    let at_a = head_range j c.args.a (omega arith) in
    let at_b = head_range j c.args.b (omega arith) in
    record {
      heads = (at_a.0, (omega (arith, j.eight), (at_b.0, (omega (arith, j.eight), omega arith))));
      setups = (omega (arith, setups_few j c.args.a, a.1), omega (arith, setups_few j c.args.b, b.1));
    }
