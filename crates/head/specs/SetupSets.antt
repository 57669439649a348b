-- Sets of setups. A setup is a number from 0 to 7; every other number is in no set. Assumes nothing.
use Rattle.std.specs.Prelude.{ℕ, Bool, List, Option}
use Rattle.job.specs.declared.sets.Set.{Set}
use Rattle.job.specs.Sets.{first_places, none_of, has, without, only, members as members_of, lowest}

abbrev pub SetupSet : Type 0
SetupSet = Set 0

abbrev pub no_setups : SetupSet
no_setups = none_of 0

abbrev pub has_setup : SetupSet → ℕ → Bool
has_setup = has 0

abbrev pub without_setup : SetupSet → ℕ → SetupSet
without_setup = without 0

abbrev pub only_setup : ℕ → SetupSet
only_setup = only 0

-- the setups below a number
abbrev pub first_setups : ℕ → SetupSet
first_setups k = record { members = first_places k }

-- the members, ascending; the first of them
abbrev pub members : SetupSet → List ℕ
members = members_of 0

abbrev pub lowest_setup : SetupSet → Option ℕ
lowest_setup = lowest 0
