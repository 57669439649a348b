-- Which refusal stands for a rule that a sheet breaks. Assumes nothing.
use Rattle.job.specs.declared.refusal.Refusal.{Refusal}
use Rattle.job.specs.declared.refusal.Refusal.TheVariants.{TooLong as IsTooLong, TooLittle as IsTooLittle, BadLine as IsBadLine, NotDue as IsNotDue, BadNumber as IsBadNumber, SecondTable as IsSecondTable, BadEntry as IsBadEntry}
use Rattle.sheet.specs.declared.breach.Breach.{Breach}
use Rattle.sheet.specs.declared.breach.Breach.TheVariants.{TooLong, TooLittle, BadLine, NotDue, BadNumber, SecondTable, BadEntry}

abbrev pub refusal : Breach → Refusal
refusal TooLong = IsTooLong
refusal TooLittle = IsTooLittle
refusal BadLine = IsBadLine
refusal NotDue = IsNotDue
refusal BadNumber = IsBadNumber
refusal SecondTable = IsSecondTable
refusal (BadEntry row column) = IsBadEntry
