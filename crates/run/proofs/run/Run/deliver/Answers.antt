use Rattle.std.proofs.Common.{◌≡◌, ℕ, ◌<◌, Bool, cond, ◌||◌, length, get_or, is_err, Ok, Err, sym, refl, ap, ◌∙◌, arith, rules}
use Rattle.job.specs.declared.refusal.Refusal.TheVariants.{LinkFull}
use Rattle.link.specs.declared.message.Kind.TheVariants.{Request}
use Rattle.head.specs.Lent.{lent}
use Rattle.run.specs.declared.run.Run.{Run}
use Rattle.run.specs.Worlds.{at}
use Rattle.run.specs.Delivering.{counted, Delivered}
use Rattle.run.proofs.Promises.{deliver_promise}
use Rattle.run.proofs.Delivering.{acts_search, has_owed, has_acted, refused_stray, refused_still, told_so, request_delivered, came_home, stayed_out}
use Rattle.run.proofs.run.Run.deliver.Goals as goal
use Rattle.run.proofs.run.Run.deliver.Goals.{then-home, else-home}

pub bounds-memory-0 : goal.bounds-memory-0
bounds-memory-0 g c =
    let did = has_acted g.S.Scale.scale c.in-Ok.ensures.receives c.in-Done.is in
    let h : 0 < length c.args.memory.now.bests.now = omega (arith, did.0.bests) in
    search rules

pub bring_home-stop_lost-requires : goal.bring_home-stop_lost-requires
bring_home-stop_lost-requires g c = acts_search g.S.Scale.scale (has_acted g.S.Scale.scale c.in-Ok.ensures.receives c.in-Done.is).2

pub returns-then-is_stray-clause-delivers : goal.returns-then-is_stray-clause-delivers
returns-then-is_stray-clause-delivers g c =
    let s = g.S.Scale.scale in
    deliver_promise s g.met.S.Scale.lawful _ _ _
    (refused_stray s c.args.self.now _ c.in-Err.ensures.receives (sym c.is_stray.ensures ∙ c.if-is_stray.true) (ap (λ (n : ℕ). record { out = c.args.self.now.out; count = n }) c.saturating_add-self.ensures))

pub returns-else-is_stray-clause-delivers : goal.returns-else-is_stray-clause-delivers
returns-else-is_stray-clause-delivers g c =
    let s = g.S.Scale.scale in
    deliver_promise s g.met.S.Scale.lawful _ _ _ (refused_still s c.args.self.now c.in-Err.ensures.receives (sym c.is_stray.ensures ∙ c.if-is_stray.false))

pub returns-in-Owes-clause-delivers : goal.returns-in-Owes-clause-delivers
returns-in-Owes-clause-delivers g c =
    let s = g.S.Scale.scale in
    let j = c.args.problem.now.job.now in
    let costs = c.args.problem.now.costs.now in
    let m = c.receive.new.place in
    let did = has_owed s c.in-Ok.ensures.receives c.in-Owes.is in
    let now = request_delivered s j costs _ _ _ _ _ _ _ _ c.args.self.now m c.in-Owes.owed did c.post_report.result _ _ c.post_report.ensures (record { out = c.args.self.now.out; count = c.saturating_add-self-2.result })
    (ap (λ (n : ℕ). record { out = c.args.self.now.out; count = n }) c.saturating_add-self-2.ensures) in
    deliver_promise s g.met.S.Scale.lawful _ _ _
    (told_so s _ _ m Request (is_err c.post_report.result) c.told.result (c.told.ensures ∙ ap (λ (b : Bool). cond b (Err LinkFull) (Ok Request)) c.is_err.ensures.value) did.0 (sym did.1) now)

pub returns-after-home-clause-delivers : goal.returns-after-home-clause-delivers
returns-after-home-clause-delivers g c =
    let s = g.S.Scale.scale in
    let j = c.args.problem.now.job.now in
    let costs = c.args.problem.now.costs.now in
    let m = c.receive.new.place in
    let r = c.args.self.now in
    let limit = g.L.Link.limit in
    let bag = g.L.Link.bag in
    let before = c.args.link.now in
    let mid = c.receive.new.link in
    let after = c.if-home.link in
    let kind = c.in-Done.kind in
    let home = c.in-Done.home in
    let lost = c.in-Done.lost in
    let did = has_acted s c.in-Ok.ensures.receives c.in-Done.is in
    let run₁ : Run = record { out = r.out; count = c.saturating_add-self-2.result } in
    let run₂ : Run = record { out = r.out; count = counted r.count } in
    let is : run₁ ≡ run₂ = ap (λ (n : ℕ). record { out = r.out; count = n }) c.saturating_add-self-2.ensures in
    let now : Delivered s (at (lent j costs c.args.memory.now.records.now c.args.memory.now.bests.now (limit before) (bag before)) r) m (lost || c.if-home.stop_lost)
    (at (lent j costs c.receive.new.memory.records.now c.receive.new.memory.bests.now (limit after) (bag after)) c.if-home.self) = elim c.if-home.branch [
      | then-home w ↦
          let b = w.bring_home-stop_lost in
          let run_is = w.self-is in
          let link_is = w.link-is in
          let lost_is = w.stop_lost-is in
          simp (run_is, link_is, lost_is)
          (came_home s j costs c.args.memory.now.records.now c.receive.new.memory.records.now c.args.memory.now.bests.now c.receive.new.memory.bests.now (limit before) (limit mid) (bag before) (bag mid) r m kind home lost did w.if-home.true
          (get_or c.receive.new.memory.bests.now 0 w.index-memory-0.result) w.index-memory-0.result refl run₁ b.new.self is _ _ b.result b.ensures)
      | else-home w ↦
          let run_is = w.self-is in
          let link_is = w.link-is in
          let lost_is = w.stop_lost-is ∙ w.if-home.false in
          simp (run_is, link_is, lost_is)
          (stayed_out s j costs c.args.memory.now.records.now c.receive.new.memory.records.now c.args.memory.now.bests.now c.receive.new.memory.bests.now (limit before) (limit mid) (bag before) (bag mid) r m kind home lost did w.if-home.false run₁ is)
    ] in
    deliver_promise s g.met.S.Scale.lawful _ _ _ (told_so s _ _ m kind (lost || c.if-home.stop_lost) c.told-in-Done.result c.told-in-Done.ensures did.0 did.1 now)
