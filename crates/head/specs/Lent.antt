-- What the calls of a run are lent, at one moment: the job, the costs, the records, the bests, and a link, which is its limit and
-- some list of what waits in it. Assumes nothing.
use Rattle.std.specs.Prelude.{◌≡◌, ℕ, ◌-◌, ◌/◌, ◌%◌, ◌^◌, ◌<◌, ◌≤◌, Bool, ◌&&◌, ◌⊎◌, List, length, ◌==◌, nat_le, slice_index_or}
use Rattle.scale.specs.Operations.{Operations}
use Rattle.job.specs.declared.job.Job.{Job}
use Rattle.job.specs.Plans.{empty}
use Rattle.problem.specs.declared.price.Problem.{Problem}
use Rattle.link.specs.declared.message.Message.{Message}
use Rattle.link.specs.HeadSets.{no_heads}
use Rattle.head.specs.declared.record.State.TheVariants.{Resting}
use Rattle.head.specs.declared.record.Record.{Record}
use Rattle.head.specs.declared.best.Best.{Best}
use Rattle.head.specs.declared.memory.Memory.{Memory}
use Rattle.head.specs.SetupSets.{no_setups}
use Rattle.head.specs.Bests.{at_first}
use Rattle.head.specs.Views.{spot}

pub record Lent (S : Type 0) : Type 0 where
  pub job : Job
  pub costs : List S
  pub records : List (Record S)
  pub bests : List (Best S)
  pub limit : ℕ
  pub bag : List (Message S)

abbrev pub lent : {S : Type 0} → Job → List S → List (Record S) → List (Best S) → ℕ → List (Message S) → Lent S
lent j c r b l m = record { job = j; costs = c; records = r; bests = b; limit = l; bag = m }

-- the same of a problem and of memory
abbrev pub lent_by : {S : Type 0} → Problem S → Memory S → ℕ → List (Message S) → Lent S
lent_by p m limit bag = lent p.job.now p.costs.now m.records.now m.bests.now limit bag

-- the records and the bests still stand in the places that were lent
pub record SamePlaces {S : Type 0} (m m' : Memory S) : Type 0 where
  pub records : m'.records.ghost_name ≡ m.records.ghost_name
  pub bests : m'.bests.ghost_name ≡ m.bests.ghost_name

-- enough memory: 64 records, 8 bests and 1,792 costs; or too little of one of them
pub record Enough {S : Type 0} (l : Lent S) : Type 0 where
  pub records : 64 ≤ length l.records
  pub bests : 8 ≤ length l.bests
  pub costs : 1792 ≤ length l.costs

abbrev pub Lacks : {S : Type 0} → Lent S → Type 0
Lacks l = (length l.records < 64) ⊎ (length l.bests < 8) ⊎ (length l.costs < 1792)

abbrev pub are_enough : {S : Type 0} → List (Record S) → List (Best S) → List S → Bool
are_enough records bests costs = nat_le 64 (length records) && (nat_le 8 (length bests) && nat_le 1792 (length costs))

-- which searches are out, as bits of one number
abbrev pub is_out : ℕ → ℕ → Bool
is_out out v = out / 2 ^ v % 2 == 1

module _ {S : Type 0} (s : Operations S) where
  -- a resting record
  abbrev pub blank : Record S
  blank = record {
    state = Resting;
    received = empty;
    cost = s.nothing;
    sender = 0;
    setup = 0;
    trial = s.nothing;
    untried = no_setups;
    gathered = s.nothing;
    heard = no_heads;
  }

  -- head h's record of search v, and head h's best
  abbrev pub record_of : Lent S → ℕ → ℕ → Record S
  record_of l h v = slice_index_or l.records (spot h v) blank

  abbrev pub best_of : Lent S → ℕ → Best S
  best_of l h = slice_index_or l.bests (h - 1) (at_first s)
