use Rattle.std.proofs.Common.{ℕ, ◌<◌, ◌≡◌, length, refl, subst, inl, inr, arith}
use Rattle.std.proofs.lemmas.List.{nil_from_length}
use Rattle.run.specs.Ending.{EndsWith}
use Rattle.run.proofs.run.Run.end_with.Goals as goal
use Rattle.run.proofs.run.Run.end_with.Goals.{then-self-gt0-via-then-self-gt0, then-self-gt0-via-else-self-gt0+then-waiting-gt0}

pub returns-then-self-gt0 : goal.returns-then-self-gt0
returns-then-self-gt0 g c =
    EndsWith.still_out refl
    (elim c.then-self-gt0.branch [ then-self-gt0-via-then-self-gt0 w ↦ inl w.if-self-gt0.true | then-self-gt0-via-else-self-gt0+then-waiting-gt0 w ↦ inr (subst (λ (n : ℕ). 0 < n) w.waiting.ensures w.if-waiting-gt0.true) ])
    refl

pub returns : goal.returns
returns g c =
    let bag = g.L.Link.bag c.args.link.now in
    let none : length bag ≡ 0 = omega (arith, c.waiting.ensures, c.if-waiting-gt0.false) in
    EndsWith.granted (omega (arith, c.if-self-gt0.false)) (nil_from_length bag none) c.heads.ensures refl c.outcome_of.ensures
