use Rattle.std.proofs.Common.{◌≡◌, ◌<◌, false, cond, eqb, List, [], length, sym, ap, ◌∙◌, subst, arith, rules}
use Rattle.std.proofs.lemmas.Bool.{cond-true, cond-false, eq-eqb, ne_eqb}
use Rattle.link.specs.declared.message.Message.{Message}
use Rattle.link.specs.Posting.{Sent}
use Rattle.link.proofs.Posting.{sent_none}
use Rattle.head.specs.declared.record.Record.{Record}
use Rattle.head.specs.Readiness.{Ready}
use Rattle.run.specs.Worlds.{all_out, come_home, stops}
use Rattle.run.proofs.Beginning.{ready, so_far_none, so_far_more, has_begun}
use Rattle.run.proofs.run.start.begin.Goals as goal
use Rattle.run.proofs.run.start.begin.Goals.{then-turn, else-turn}

pub loop-v-init : goal.loop-v-init
loop-v-init g c =
    so_far_none g.S.Scale.scale c.args.prices.now.job.now c.args.prices.now.costs.now c.args.best.now _ _ c.all_out-out.result c.args.row.now
    (c.all_out-out.ensures ∙ ap all_out c.setups-count.ensures) c.requires.long c.requires.at_rest

pub search_on-turn-requires : goal.search_on-turn-requires
search_on-turn-requires g c =
    subst (λ (r : Record g.row.S.Denot). Ready c.args.prices.now.job.now 1 r.received r.untried) (sym c.sent_out.ensures)
    (ready c.args.prices.now.job.now c.loop-v.v (omega arith))

pub offset_bounds-row-v : goal.offset_bounds-row-v
offset_bounds-row-v g c = let h : c.loop-v.v < length c.args.row.now = omega (arith, c.args.prices.now.job.now.few 0, c.requires.long) in search rules

pub loop-v-preserved : goal.loop-v-preserved
loop-v-preserved g c =
    let t = c.search_on-turn.result in
    let out = c.loop-v.out in
    let v = c.loop-v.v in
    let is : c.if-turn.out ≡ cond t.home (come_home out v) out = elim c.if-turn.branch [
      | then-turn w ↦ w.out-is ∙ w.come_home-out.ensures ∙ sym (cond-true _ _ _ w.if-turn.true)
      | else-turn w ↦ w.out-is ∙ sym (cond-false _ _ _ w.if-turn.false)
    ] in
    so_far_more g.S.Scale.scale c.args.prices.now.job.now c.args.prices.now.costs.now c.args.best.now _ _ v out c.loop-v.row c.loop-v.best _ _ (omega arith) c.loop-v.invariant
    c.sent_out.result c.sent_out.ensures t _ _ _ c.search_on-turn.ensures c.if-turn.out is

pub returns-then-out-eq0 : goal.returns-then-out-eq0
returns-then-out-eq0 g c =
    let S = g.row.S.Denot in
    let link = c.loop-v.link in
    let last = c.stop_others.new.link in
    let ms : cond (eqb c.loop-v.out 0) (stops c.args.prices.now.job.now c.loop-v.best) [] ≡ stops c.args.prices.now.job.now c.loop-v.best = cond-true _ _ _ (eq-eqb c.loop-v.out 0 (omega arith)) in
    has_begun g.S.Scale.scale c.args.prices.now.job.now c.args.prices.now.costs.now c.args.best.now _ _ c.loop-v.v c.loop-v.out c.loop-v.row c.loop-v.best _ _ c.stop_others.result _ _ (omega arith) c.loop-v.invariant
    (subst (λ (xs : List (Message S)). Sent (g.L.Link.limit link) (g.L.Link.bag link) xs c.stop_others.result (g.L.Link.limit last) (g.L.Link.bag last)) (sym ms) c.stop_others.ensures)

pub returns-else-out-eq0 : goal.returns-else-out-eq0
returns-else-out-eq0 g c =
    let S = g.row.S.Denot in
    let link = c.loop-v.link in
    let ms : cond (eqb c.loop-v.out 0) (stops c.args.prices.now.job.now c.loop-v.best) [] ≡ [] = cond-false _ _ _ (ne_eqb c.loop-v.out 0 (omega arith)) in
    has_begun g.S.Scale.scale c.args.prices.now.job.now c.args.prices.now.costs.now c.args.best.now _ _ c.loop-v.v c.loop-v.out c.loop-v.row c.loop-v.best _ _ false _ _ (omega arith) c.loop-v.invariant
    (subst (λ (xs : List (Message S)). Sent (g.L.Link.limit link) (g.L.Link.bag link) xs false (g.L.Link.limit link) (g.L.Link.bag link)) (sym ms) (sent_none _ _))
