use Rattle.std.proofs.Common.{◌∙◌}
use Rattle.scale.proofs.edges.join_to_never.Goals as goal

pub returns : goal.returns
returns g c =
    let laws = g.met.S.Scale.lawful in
    c.join.ensures ∙ laws.antisymmetric _ _ (laws.greatest _) c.requires
