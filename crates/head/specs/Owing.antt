-- What posting an owed report does. Assumes nothing.
use Rattle.std.specs.Prelude.{◌≡◌, ℕ, List, Ok, Err, Result}
use Rattle.scale.specs.Operations.{Operations}
use Rattle.job.specs.declared.job.Job.{Job}
use Rattle.job.specs.declared.refusal.Refusal.{Refusal}
use Rattle.job.specs.Plans.{empty}
use Rattle.problem.specs.Costs.{bound, priced, may_ask_head}
use Rattle.link.specs.declared.message.Kind.TheVariants.{Report}
use Rattle.link.specs.declared.message.Message.{Message}
use Rattle.link.specs.Messages.{message}
use Rattle.link.specs.Posting.{Sends}
use Rattle.head.specs.declared.owed.OwedReport.{OwedReport}

-- the report with a bound
abbrev pub report_with : {S : Type 0} → OwedReport → S → Message S
report_with o b = message Report o.to o.from o.search empty b

-- The report is sent with the bound; where there is none, nothing moves, and the refusal is that of the bound.
abbrev pub ReportsWith : {S U : Type 0} → Result S Refusal → OwedReport → ℕ → List (Message S) → Result U Refusal → ℕ → List (Message S) → Type 0
ReportsWith (Ok b) o limit bag r limit' bag' = Sends limit bag (report_with o b) r limit' bag'
ReportsWith (Err e) o limit bag r limit' bag' = (r ≡ Err e) × (limit' ≡ limit) × (bag' ≡ bag)

abbrev pub Reports : {S U : Type 0} → Operations S → Job → List S → OwedReport → ℕ → List (Message S) → Result U Refusal → ℕ → List (Message S) → Type 0
Reports s j costs o = ReportsWith (priced costs (may_ask_head j o.from o.plan) (bound s costs j o.from o.plan)) o
