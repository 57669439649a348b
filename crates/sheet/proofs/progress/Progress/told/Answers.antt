use Rattle.std.proofs.Common.{◌≡◌, true, List, ℕ, Ok, Err, Result, refl, ap, ◌∙◌, rules}
use Rattle.std.proofs.lemmas.Bool.{both_ways}
use Rattle.std.specs.Result.{IsOk}
use Rattle.job.specs.declared.job.Job.{Job}
use Rattle.job.specs.declared.refusal.Refusal.{Refusal}
use Rattle.job.specs.Plans.{MakesJob, are_counts}
use Rattle.sheet.specs.Known.{Known}
use Rattle.sheet.specs.Sheets.{is_ended}
use Rattle.sheet.specs.Views.{known_of}
use Rattle.sheet.proofs.Counts.{counts_lawful}
use Rattle.sheet.proofs.progress.Progress.told.Goals as goal

makes_one : (ds : List ℕ) (r : Result Job Refusal) → MakesJob ds r → are_counts ds ≡ true → IsOk r
makes_one ds (Ok j) made lawful = refl
makes_one ds (Err e) made lawful = absurd (both_ways (are_counts ds) made.0 lawful)

pub unwrap-requires : goal.unwrap-requires
unwrap-requires c =
    let ended = ap (λ (k : Known). is_ended k.stage) c.self.view_is ∙ c.requires in
    makes_one _ c.new.result c.new.ensures (counts_lawful (known_of c.self.inside) c.self.invariant ended (search rules))
