use Rattle.std.proofs.Common.{ap, ◌∙◌}
use Rattle.scale.specs.Readings.{never_joined}
use Rattle.scale.proofs.edges.never_stays_known.Goals as goal

pub returns : goal.returns
returns g c =
    let s = g.S.Scale.scale in
    let stays = never_joined g.met.S.Scale.lawful in
    record { value = c.join.ensures ∙ ap (λ x. s.join x c.args.cost) c.requires ∙ stays c.args.cost; every = stays }
