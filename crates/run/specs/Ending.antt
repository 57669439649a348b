-- What look and end do, exactly. Assumes nothing.
use Rattle.std.specs.Prelude.{◌≡◌, ℕ, zero, suc, ◌/◌, ◌%◌, ◌<◌, Bool, true, false, ◌⊎◌, List, [], ◌∷◌, length, Some, None, Ok, Err, Option, Result, count_ones}
use Rattle.link.specs.declared.message.Message.{Message}
use Rattle.head.specs.declared.best.Best.{Best}
use Rattle.run.specs.declared.run.Run.{Run}
use Rattle.run.specs.declared.run.Seen.{Seen}
use Rattle.run.specs.declared.run.Found.{Found}
use Rattle.run.specs.declared.run.Ended.{Ended}
use Rattle.job.specs.declared.declined.Declined.{Declined}
use Rattle.job.specs.Refusals.{number}
use Rattle.job.specs.declared.job.Job.{Job}
use Rattle.job.specs.Plans.{is_complete}
use Rattle.head.specs.Lent.{Enough, Lacks, best_of}
use Rattle.run.specs.Worlds.{World}
use Rattle.scale.specs.Operations.{Operations}

-- the k lowest bytes of a number, the least first; the setups of a packed plan
abbrev pub low_bytes : ℕ → ℕ → List ℕ
low_bytes zero n = []
low_bytes (suc k) n = (n % 256) ∷ low_bytes k (n / 256)

abbrev pub unpacked : ℕ → List ℕ
unpacked n = low_bytes 8 n

module _ {S : Type 0} (s : Operations S) where
  -- Look never refuses, and nothing moves.
  pub record Looks (run : Run) (bag : List (Message S)) (seen : Seen) : Type 0 where
    pub out : seen.out ≡ count_ones run.out
    pub waiting : seen.waiting ≡ length bag
    pub count : seen.count ≡ run.count

  -- head 1's best plan and cost, or no plan if that is incomplete
  abbrev pub Tells : Best S → Bool → Option (Found S) → Type 0
  Tells best true (Some found) = (unpacked found.packed ≡ best.plan.setups) × (found.cost ≡ best.cost)
  Tells best true None = ⊥
  Tells best false (Some found) = ⊥
  Tells best false None = Unit {0}

  pub record Closes (w : World S) (e : Ended S) : Type 0 where
    pub heads : e.heads ≡ w.lent.job.heads
    pub count : e.count ≡ w.run.count
    pub outcome : Tells (best_of s w.lent 1) (is_complete w.lent.job (best_of s w.lent 1).plan) e.outcome

  -- Nothing that is lent moves; a refusal hands the run back.
  pub data Ends (w : World S) : Result (Ended S) (Declined Run) → Type 0 where
    too_little : {f : Declined Run} → number f.refusal ≡ 7 → Lacks w.lent → f.back ≡ w.run → Ends w (Err f)
    still_out : {f : Declined Run} → number f.refusal ≡ 14 → Enough w.lent → (0 < w.run.out) ⊎ (0 < length w.lent.bag) → f.back ≡ w.run → Ends w (Err f)
    granted : {e : Ended S} → Enough w.lent → w.run.out ≡ 0 → w.lent.bag ≡ [] → Closes w e → Ends w (Ok e)

  -- The same where the memory suffices, with head 1's best at hand.
  pub data EndsWith (j : Job) (best : Best S) (run : Run) (bag : List (Message S)) : Result (Ended S) (Declined Run) → Type 0 where
    still_out : {f : Declined Run} → number f.refusal ≡ 14 → (0 < run.out) ⊎ (0 < length bag) → f.back ≡ run → EndsWith j best run bag (Err f)
    granted : {e : Ended S} → run.out ≡ 0 → bag ≡ [] → e.heads ≡ j.heads → e.count ≡ run.count → Tells best (is_complete j best.plan) e.outcome → EndsWith j best run bag (Ok e)
