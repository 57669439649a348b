use Rattle.std.proofs.Common.{◌+◌, Bool, ◌||◌, sym, ap, ◌∙◌, arith}
use Rattle.link.specs.HeadSets.{has_head}
use Rattle.head.proofs.EachHead.{SentBelow, sent_below_first, sent_below_passed, sent_below_more, sent_below_all, sent_one}
use Rattle.head.proofs.sending.send_each.Goals as goal
use Rattle.head.proofs.sending.send_each.Goals.{then-has, else-has}

pub loop-h-init : goal.loop-h-init
loop-h-init g c = sent_below_first c.args.message (has_head c.args.heads) _ _

pub loop-h-preserved : goal.loop-h-preserved
loop-h-preserved g c =
    let m = c.args.message in
    let p = has_head c.args.heads in
    let h = c.loop-h.h in
    let limit = g.L.Link.limit c.args.link.now in
    let bag = g.L.Link.bag c.args.link.now in
    elim c.if-has.branch [
      | then-has w ↦
          let link = w.send.new.link in
          let one = sent_one _ _ _ _ w.addressed.result w.send.result w.send.ensures in
          let lost = w.lost-is ∙ ap (λ (b : Bool). c.loop-h.lost || b) w.is_err-lost.ensures.value in
          let is = w.addressed.ensures in
          let go = w.link-is in
          simp (lost, go) (sent_below_more m p limit bag h c.loop-h.lost _ _ _ _ _ c.loop-h.auto.h (sym c.has.ensures ∙ w.if-has.true) c.loop-h.invariant (simp is at one))
      | else-has w ↦
          let lost = w.lost-is in
          let go = w.link-is in
          simp (lost, go) (sent_below_passed m p limit bag h c.loop-h.lost _ _ c.loop-h.auto.h (sym c.has.ensures ∙ w.if-has.false) c.loop-h.invariant)
    ]

pub returns-after-has : goal.returns-after-has
returns-after-has g c =
    let m = c.args.message in
    let p = has_head c.args.heads in
    let h = c.loop-h.h in
    let limit = g.L.Link.limit c.args.link.now in
    let bag = g.L.Link.bag c.args.link.now in
    let all : SentBelow m p limit bag (h + 1) c.if-has.lost (g.L.Link.limit c.if-has.link) (g.L.Link.bag c.if-has.link) =
    elim c.if-has.branch [
      | then-has w ↦
          let link = w.send.new.link in
          let one = sent_one _ _ _ _ w.addressed.result w.send.result w.send.ensures in
          let lost = w.lost-is ∙ ap (λ (b : Bool). c.loop-h.lost || b) w.is_err-lost.ensures.value in
          let is = w.addressed.ensures in
          let go = w.link-is in
          simp (lost, go) (sent_below_more m p limit bag h c.loop-h.lost _ _ _ _ _ c.loop-h.auto.h (sym c.has.ensures ∙ w.if-has.true) c.loop-h.invariant (simp is at one))
      | else-has w ↦
          let lost = w.lost-is in
          let go = w.link-is in
          simp (lost, go) (sent_below_passed m p limit bag h c.loop-h.lost _ _ c.loop-h.auto.h (sym c.has.ensures ∙ w.if-has.false) c.loop-h.invariant)
    ] in
    sent_below_all m p _ _ (h + 1) c.args.job.now.heads _ _ _ (omega arith) all
