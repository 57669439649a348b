-- What the calls promise: what each does, and that a run stays a run of which all of `Whole` holds. Assumes nothing.
use Rattle.std.specs.Prelude.{◌≡◌, ℕ, ◌+◌, ◌≤◌, List, Ok, Err, Result}
use Rattle.job.specs.declared.refusal.Refusal.{Refusal}
use Rattle.link.specs.declared.message.Kind.{Kind}
use Rattle.link.specs.declared.message.Message.{Message}
use Rattle.run.specs.declared.run.Run.{Run}
use Rattle.run.specs.declared.run.Seen.{Seen}
use Rattle.run.specs.declared.run.Ended.{Ended}
use Rattle.job.specs.declared.declined.Declined.{Declined}
use Rattle.head.specs.Lent.{Lent}
use Rattle.run.specs.Worlds.{World, at}
use Rattle.run.specs.Starting.{Starts}
use Rattle.run.specs.Delivering.{Delivers}
use Rattle.run.specs.Ending.{Looks, Ends}
use Rattle.run.specs.History.{took, Goes, History}
use Rattle.run.specs.Whole.{most_messages, Right, Whole}
use Rattle.scale.specs.Operations.{Operations}

module _ {S : Type 0} (s : Operations S) where
  pub record StartPromise (l : Lent S) (answer : Result Run Refusal) (l' : Lent S) : Type 0 where
    pub does : Starts s l answer l'
    pub begins : (run : Run) → answer ≡ Ok run → History s (at l' run) (at l' run) 0 × Whole s (at l' run) (at l' run) 0

  pub record DeliverPromise (w : World S) (answer : Result Kind Refusal) (w' : World S) : Type 0 where
    pub does : Delivers s w answer w'
    pub keeps : (first : World S) (k : ℕ) → History s first w k → History s first w' (k + took answer) × Whole s first w' (k + took answer)

  pub record LookPromise (run : Run) (bag : List (Message S)) (seen : Seen) : Type 0 where
    pub does : Looks s run bag seen
    pub keeps : (first w : World S) (k : ℕ) → w.run ≡ run → w.lent.bag ≡ bag → History s first w k → Whole s first w k × (seen.count ≡ k)

  -- what an end leaves of a run: the run again, or what it came to
  abbrev pub Left : World S → ℕ → Lent S → Result (Ended S) (Declined Run) → Type 0
  Left first k l (Ok e) = Right s l.costs l.job e.outcome × (e.count ≡ k)
  Left first k l (Err f) = History s first (at l f.back) k × Whole s first (at l f.back) k

  pub record EndPromise (w : World S) (answer : Result (Ended S) (Declined Run)) : Type 0 where
    pub does : Ends s w answer
    pub keeps : (first : World S) (k : ℕ) → History s first w k → Whole s first w k × Left first k w.lent answer

  -- Start, deliver until none waits, end: refused only as start is, else a right end.
  pub record Solved (l : Lent S) (e : Ended S) (l' : Lent S) : Type 0 where
    pub first : World S
    pub last : World S
    pub taken : ℕ
    pub starts : Starts s l (Ok first.run) first.lent
    pub goes : Goes s first last taken
    pub ends : Ends s last (Ok e)
    pub leaves : l' ≡ last.lent
    pub right : Right s l.costs l.job e.outcome
    pub counted : e.count ≡ taken
    pub limited : taken ≤ most_messages l.job

  abbrev pub Solves : Lent S → Result (Ended S) Refusal → Lent S → Type 0
  Solves l (Ok e) l' = Solved l e l'
  Solves l (Err r) l' = Starts s l (Err r) l'
