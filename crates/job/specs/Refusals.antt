-- The number that each refusal has in messages to a user. Assumes nothing.
use Rattle.std.specs.Prelude.{ℕ}
use Rattle.job.specs.declared.refusal.Refusal.{Refusal}
use Rattle.job.specs.declared.refusal.Refusal.TheVariants.{TooLong, BadLine, NotDue, BadNumber, SecondTable, BadEntry, TooLittle, LimitTooLow, MessageWaits, LinkFull, NoneWaits, Stray, StillOut}

abbrev pub number : Refusal → ℕ
number TooLong = 1
number BadLine = 2
number NotDue = 3
number BadNumber = 4
number SecondTable = 5
number BadEntry = 6
number TooLittle = 7
number LimitTooLow = 8
number MessageWaits = 9
number LinkFull = 10
number NoneWaits = 11
number Stray = 13
number StillOut = 14
