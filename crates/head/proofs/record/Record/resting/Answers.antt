use Rattle.std.proofs.Common.{◌≡◌}
use Rattle.job.specs.Sets.{first_places}
use Rattle.head.specs.SetupSets.{no_setups}
use Rattle.head.proofs.record.Record.resting.Goals as goal

pub returns : goal.returns
unfolding first_places
returns g c = let none : c.below.result ≡ no_setups = c.below.ensures in cc
