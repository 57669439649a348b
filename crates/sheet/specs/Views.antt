-- What a contract sees of what has been read of a sheet: its fields. Assumes nothing.
use Rattle.sheet.specs.Known.{Known}
use Rattle.sheet.specs.declared.progress.Progress.TheInside.{Inside}

abbrev pub known_of : Inside → Known
known_of s = record { stage = s.stage; heads = s.heads; known = s.known; setups = s.setups; tables = s.tables }
