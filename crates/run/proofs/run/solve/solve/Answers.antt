use Rattle.std.proofs.Common.{◌≡◌, ℕ, ◌<◌, length, refl, ◌∙◌, subst, arith}
use Rattle.std.proofs.lemmas.List.{nil_from_length}
use Rattle.head.specs.Lent.{lent}
use Rattle.run.specs.Worlds.{at}
use Rattle.run.proofs.Solving.{nearer, quiet_ends, solved}
use Rattle.run.proofs.run.solve.solve.Goals as goal

pub loop-run-init : goal.loop-run-init
loop-run-init g c = (c.start.ensures.places, 0, (c.in_ok-run.ensures.starts.begins c.in_ok-run.run' refl).0)

pub loop-run-smaller : goal.loop-run-smaller
loop-run-smaller g c =
    let some : 0 < length (g.L.Link.bag c.loop-run.link) = subst (λ (n : ℕ). 0 < n) c.waiting.ensures c.loop-run-test.true in
    nearer g.S.Scale.scale g.met.S.Scale.lawful c.deliver.result c.loop-run.invariant.2 some c.deliver.ensures.delivers refl

pub loop-run-preserved : goal.loop-run-preserved
loop-run-preserved g c =
    let now = c.deliver.ensures.places in
    let before = c.loop-run.invariant.0 in
    (record { records = now.records ∙ before.records; bests = now.bests ∙ before.bests }, _, (c.deliver.ensures.delivers.keeps _ c.loop-run.invariant.1 c.loop-run.invariant.2).0)

pub returns-in-Ok-clause-solves : goal.returns-in-Ok-clause-solves
returns-in-Ok-clause-solves g c =
    solved g.S.Scale.scale g.met.S.Scale.lawful _ _
    (at (lent c.args.problem.now.job.now c.args.problem.now.costs.now c.loop-run.memory.records.now c.loop-run.memory.bests.now (g.L.Link.limit c.loop-run.link) (g.L.Link.bag c.loop-run.link)) c.loop-run.run)
    c.loop-run.invariant.1 c.in-Ok.ended c.in_ok-run.ensures.starts.does c.loop-run.invariant.2 c.in-Ok.ensures refl refl

pub returns-in-Err-clause-solves : goal.returns-in-Err-clause-solves
returns-in-Err-clause-solves g c =
    let bag = g.L.Link.bag c.loop-run.link in
    let none : length bag ≡ 0 = omega (arith, c.waiting.ensures, c.loop-run-test.false) in
    absurd (quiet_ends g.S.Scale.scale g.met.S.Scale.lawful _ c.loop-run.invariant.2 (nil_from_length bag none) c.in-Err.ensures.does)
