use Rattle.scale.specs.Readings.{never_joined}
use Rattle.scale.proofs.edges.never_stays.Goals as goal

pub returns : goal.returns
returns g c = never_joined g.met.S.Scale.lawful
