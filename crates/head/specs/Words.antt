-- The states of a record in a word, as the bytes of their text. Assumes nothing.
use Rattle.std.specs.Prelude.{ℕ, List, codes}
use Rattle.head.specs.declared.record.State.{State}
use Rattle.head.specs.declared.record.State.TheVariants.{Resting, Gathering, Below}

abbrev pub state_word : State → List ℕ
state_word Resting = codes "resting"
state_word Gathering = codes "gathering"
state_word Below = codes "below"
