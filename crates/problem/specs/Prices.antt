-- A problem of which all costs are known to be there. Assumes nothing.
use Rattle.std.specs.Prelude.{◌≡◌, ◌<◌, ◌≤◌, List, length, Ok, Err, Result}
use Rattle.job.specs.declared.refusal.Refusal.{Refusal}
use Rattle.job.specs.declared.refusal.Refusal.TheVariants.{TooLittle}
use Rattle.job.specs.declared.job.Job.{Job}
use Rattle.problem.specs.declared.price.Prices.{Prices}

-- the job and its costs, where there are 1,792 of them; else the refusal
abbrev pub MakesPrices : {S : Type 0} → Job → List S → Result (Prices S) Refusal → Type 0
MakesPrices j costs (Ok p) = (1792 ≤ length costs) × (p.job.now ≡ j) × (p.costs.now ≡ costs)
MakesPrices j costs (Err e) = (length costs < 1792) × (e ≡ TooLittle)
