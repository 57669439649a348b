-- A moment of a run: what its calls are lent, and the run itself. Assumes nothing.
use Rattle.std.specs.Prelude.{ℕ, ◌-◌, ◌^◌, List, map}
use Rattle.job.specs.declared.job.Job.{Job}
use Rattle.link.specs.declared.message.Kind.TheVariants.{Stop}
use Rattle.link.specs.declared.message.Message.{Message}
use Rattle.link.specs.Messages.{message}
use Rattle.head.specs.declared.best.Best.{Best}
use Rattle.head.specs.Searching.{others}
use Rattle.head.specs.Lent.{Lent}
use Rattle.run.specs.declared.run.Run.{Run}

pub record World (S : Type 0) : Type 0 where
  pub lent : Lent S
  pub run : Run

abbrev pub at : {S : Type 0} → Lent S → Run → World S
at l r = record { lent = l; run = r }

-- the first d searches are out; search v comes home
abbrev pub all_out : ℕ → ℕ
all_out d = 2 ^ d - 1

abbrev pub come_home : ℕ → ℕ → ℕ
come_home out v = out - 2 ^ v

-- When the last search comes home, head 1 sends a stop with its best to each other head, ascending.
abbrev pub stops : {S : Type 0} → Job → Best S → List (Message S)
stops j best = map (λ g. message Stop g 1 0 best.plan best.cost) (others j 1)
