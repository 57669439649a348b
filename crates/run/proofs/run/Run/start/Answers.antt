use Rattle.std.proofs.Common.{◌≡◌, ℕ, ◌<◌, ◌≤◌, [], ◌++◌, length, drop, replicate, sym, refl, ap, ◌∙◌, subst, arith}
use Rattle.std.proofs.lemmas.List.{nil_from_length, length-take-le, length-append, length-replicate}
use Rattle.link.specs.Posting.{margin}
use Rattle.head.specs.Bests.{at_first}
use Rattle.head.specs.Lent.{lent, blank}
use Rattle.run.specs.Starting.{Starts}
use Rattle.head.proofs.Taking.{enough_so, lacks_so}
use Rattle.run.proofs.Promises.{start_promise}
use Rattle.run.proofs.Filling.{filled_part}
use Rattle.run.proofs.Starting.{begins}
use Rattle.run.proofs.run.Run.start.Goals as goal

pub returns-then-not-is_enough-clause-starts : goal.returns-then-not-is_enough-clause-starts
returns-then-not-is_enough-clause-starts g c =
    let l = lent c.args.problem.now.job.now c.args.problem.now.costs.now c.args.memory.now.records.now c.args.memory.now.bests.now (g.L.Link.limit c.args.link.now) (g.L.Link.bag c.args.link.now) in
    start_promise g.S.Scale.scale g.met.S.Scale.lawful l _ l (Starts.too_little refl (lacks_so l.job l.costs l.records l.bests l.limit l.bag (sym c.is_enough.ensures ∙ c.if-not-is_enough.true)) refl)

pub returns-then-limit-lt-MARGIN-clause-starts : goal.returns-then-limit-lt-MARGIN-clause-starts
returns-then-limit-lt-MARGIN-clause-starts g c =
    let l = lent c.args.problem.now.job.now c.args.problem.now.costs.now c.args.memory.now.records.now c.args.memory.now.bests.now (g.L.Link.limit c.args.link.now) (g.L.Link.bag c.args.link.now) in
    let e = enough_so l.job l.costs l.records l.bests l.limit l.bag (sym c.is_enough.ensures ∙ c.if-not-is_enough.false) in
    let low : l.limit < margin = subst (λ (n : ℕ). n < margin) c.limit.ensures c.if-limit-lt-MARGIN.true in
    start_promise g.S.Scale.scale g.met.S.Scale.lawful l _ l (Starts.low_limit refl e low refl)

pub returns-then-waiting-gt0-clause-starts : goal.returns-then-waiting-gt0-clause-starts
returns-then-waiting-gt0-clause-starts g c =
    let l = lent c.args.problem.now.job.now c.args.problem.now.costs.now c.args.memory.now.records.now c.args.memory.now.bests.now (g.L.Link.limit c.args.link.now) (g.L.Link.bag c.args.link.now) in
    let e = enough_so l.job l.costs l.records l.bests l.limit l.bag (sym c.is_enough.ensures ∙ c.if-not-is_enough.false) in
    let wide : margin ≤ l.limit = subst (λ (n : ℕ). margin ≤ n) c.limit.ensures c.if-limit-lt-MARGIN.false in
    let some : 0 < length l.bag = subst (λ (n : ℕ). 0 < n) c.waiting.ensures c.if-waiting-gt0.true in
    start_promise g.S.Scale.scale g.met.S.Scale.lawful l _ l (Starts.message_waits refl e wide some refl)

pub returns-clause-starts : goal.returns-clause-starts
returns-clause-starts g c =
    let s = g.S.Scale.scale in
    let l = lent c.args.problem.now.job.now c.args.problem.now.costs.now c.args.memory.now.records.now c.args.memory.now.bests.now (g.L.Link.limit c.args.link.now) (g.L.Link.bag c.args.link.now) in
    let e = enough_so l.job l.costs l.records l.bests l.limit l.bag (sym c.is_enough.ensures ∙ c.if-not-is_enough.false) in
    let wide : margin ≤ l.limit = subst (λ (n : ℕ). margin ≤ n) c.limit.ensures c.if-limit-lt-MARGIN.false in
    let none : l.bag ≡ [] = nil_from_length l.bag (omega (arith, c.waiting.ensures, c.if-waiting-gt0.false)) in
    let recs = c.fill-2.new.places ++ drop 64 l.records in
    let rested = filled_part (blank s) c.resting.result 64 l.records c.fill-2.new.places e.records c.fill-2.ensures c.resting.ensures in
    let cleared = filled_part (at_first s) c.none.result 8 l.bests c.fill.new.places e.bests c.fill.ensures c.none.ensures in
    let long : length c.begin-out.new.row ≡ 8 = c.begin-out.auto.row ∙ length-take-le 8 recs (omega (arith, ap length rested, length-append (replicate 64 (blank s)) (drop 64 l.records), length-replicate 64 (blank s))) in
    let did = simp (c.in_ok-prices.ensures.1, c.in_ok-prices.ensures.2) at c.begin-out.ensures in
    start_promise s g.met.S.Scale.lawful l _ _
    (Starts.granted e wide none
    (begins s l recs c.begin-out.new.row (c.fill.new.places ++ drop 8 l.bests) c.none-best.result c.begin-out.new.best c.begin-out.result _ _ e wide none rested cleared c.none-best.ensures long did))
