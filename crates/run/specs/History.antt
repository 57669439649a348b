-- Whole runs: a granted start, then any calls of deliver, look and end, granted or refused. A granted end is the last. Assumes nothing.
use Rattle.std.specs.Prelude.{ℕ, ◌+◌, cond, ◌||◌, Ok, Err, Result, ◌==◌}
use Rattle.job.specs.declared.refusal.Refusal.{Refusal}
use Rattle.link.specs.declared.message.Kind.{Kind}
use Rattle.run.specs.declared.run.Run.{Run}
use Rattle.run.specs.declared.run.Seen.{Seen}
use Rattle.job.specs.declared.declined.Declined.{Declined}
use Rattle.job.specs.Refusals.{number}
use Rattle.scale.specs.Operations.{Operations}
use Rattle.head.specs.Lent.{Lent}
use Rattle.run.specs.Worlds.{World, at}
use Rattle.run.specs.Starting.{Starts}
use Rattle.run.specs.Delivering.{Delivers}
use Rattle.run.specs.Ending.{Looks, Ends}

-- how many messages a deliver with this answer has taken: one if it was granted, and if it was refused with 10 or 13
abbrev pub took : Result Kind Refusal → ℕ
took (Ok k) = 1
took (Err r) = cond (number r == 10 || number r == 13) 1 0

module _ {S : Type 0} (s : Operations S) where
  -- `Goes u w k`: calls lead from u to w, and took k messages. Each call is given what the call before it left.
  pub data Goes : World S → World S → ℕ → Type 0 where
    stays : {w : World S} → Goes w w 0
    delivers : {u w w' : World S} {k : ℕ} (answer : Result Kind Refusal) → Goes u w k → Delivers s w answer w' → Goes u w' (k + took answer)
    looks : {u w : World S} {k : ℕ} (seen : Seen) → Goes u w k → Looks s w.run w.lent.bag seen → Goes u w k
    declines_end : {u w : World S} {k : ℕ} (f : Declined Run) → Goes u w k → Ends s w (Err f) → Goes u (at w.lent f.back) k

  -- `History first w k`: a granted start left `first`, and calls lead from there to w, having taken k messages.
  pub record History (first w : World S) (k : ℕ) : Type 0 where
    pub before : Lent S
    pub starts : Starts s before (Ok first.run) first.lent
    pub goes : Goes first w k
