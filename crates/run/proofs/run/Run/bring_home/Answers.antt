use Rattle.std.proofs.Common.{◌≡◌, ℕ, false, cond, eqb, List, [], sym, ap, ◌∙◌, subst}
use Rattle.std.proofs.lemmas.Bool.{cond-true, cond-false, eq-eqb, ne_eqb}
use Rattle.link.specs.declared.message.Message.{Message}
use Rattle.link.specs.Posting.{Sent}
use Rattle.link.proofs.Posting.{sent_none}
use Rattle.run.specs.Worlds.{come_home, stops}
use Rattle.run.proofs.run.Run.bring_home.Goals as goal

pub returns-then-self-eq0 : goal.returns-then-self-eq0
returns-then-self-eq0 g c =
    let link = c.args.link.now in
    let last = c.stop_others.new.link in
    let out = come_home c.args.self.now.out c.args.search in
    let ms : cond (eqb out 0) (stops c.args.job.now c.args.best.now) [] ≡ stops c.args.job.now c.args.best.now = cond-true _ _ _ (eq-eqb out 0 (sym c.come_home-self.ensures ∙ c.if-self-eq0.true)) in
    record {
      run = ap (λ (o : ℕ). record { out = o; count = c.args.self.now.count }) c.come_home-self.ensures;
      sent = subst (λ (xs : List (Message g.row.S.Denot)). Sent (g.L.Link.limit link) (g.L.Link.bag link) xs c.stop_others.result (g.L.Link.limit last) (g.L.Link.bag last)) (sym ms) c.stop_others.ensures;
    }

pub returns : goal.returns
returns g c =
    let link = c.args.link.now in
    let out = come_home c.args.self.now.out c.args.search in
    let ms : cond (eqb out 0) (stops c.args.job.now c.args.best.now) [] ≡ [] = cond-false _ _ _ (ne_eqb out 0 (λ e. c.if-self-eq0.false (c.come_home-self.ensures ∙ e))) in
    record {
      run = ap (λ (o : ℕ). record { out = o; count = c.args.self.now.count }) c.come_home-self.ensures;
      sent = subst (λ (xs : List (Message g.row.S.Denot)). Sent (g.L.Link.limit link) (g.L.Link.bag link) xs false (g.L.Link.limit link) (g.L.Link.bag link)) (sym ms) (sent_none _ _);
    }
