-- What start does, exactly. Free are the other fields of a resting record. Assumes nothing.
use Rattle.std.specs.Prelude.{◌≡◌, ℕ, ◌<◌, ◌≤◌, false, cond, List, [], ◌∷◌, ◌++◌, length, drop, replicate, Ok, Err, Result, ◌==◌, slice_index_or}
use Rattle.std.specs.List.{range_with_len}
use Rattle.scale.specs.Operations.{Operations}
use Rattle.job.specs.declared.job.Job.{Job}
use Rattle.job.specs.declared.refusal.Refusal.{Refusal}
use Rattle.job.specs.Refusals.{number}
use Rattle.job.specs.Plans.{setups, empty}
use Rattle.link.specs.declared.message.Message.{Message}
use Rattle.link.specs.Posting.{margin, Sent}
use Rattle.head.specs.declared.best.Best.{Best}
use Rattle.head.specs.SetupSets.{only_setup}
use Rattle.head.specs.Bests.{at_first}
use Rattle.head.specs.Views.{View, rests, view}
use Rattle.head.specs.Searching.{Task, search_on}
use Rattle.head.specs.Lent.{Lent, Enough, Lacks, blank}
use Rattle.run.specs.declared.run.Run.{Run}
use Rattle.run.specs.Worlds.{all_out, come_home, stops}

module _ {S : Type 0} (s : Operations S) where
  -- Head 1 searches on in each of some searches, in turn: how its records then look, its best, what it sends, in order, and which
  -- searches are still out. Once none is, the stops follow.
  pub record Begun : Type 0 where
    pub views : List (View S)
    pub best : Best S
    pub sends : List (Message S)
    pub out : ℕ

  -- what head 1 is sent: the empty plan, of cost nothing, by nobody
  abbrev pub root : Task S
  root = record { received = empty; cost = s.nothing; sender = 0 }

  unfoldable pub begin : Job → List S → List ℕ → Best S → ℕ → Begun
  begin j costs [] best out = record { views = []; best = best; sends = cond (out == 0) (stops j best) []; out = out }
  begin j costs (v ∷ vs) best out =
      let r = search_on s j costs 1 v root (only_setup v) best in
      let rest = begin j costs vs r.best (cond r.home (come_home out v) out) in
      record { views = r.view ∷ rest.views; best = rest.best; sends = (r.notices ++ r.posts) ++ rest.sends; out = rest.out }

  abbrev pub begun : Lent S → Begun
  begun l = begin l.job l.costs (range_with_len 0 (setups l.job 1)) (at_first s) (all_out (setups l.job 1))

  -- A granted start: 8 bests as at first, 64 records resting and all searches out; then head 1 searches on in each. No message is
  -- lost, and memory beyond what is asked for stays as it was.
  pub record Begins (l : Lent S) (r : Run) (l' : Lent S) : Type 0 where
    pub job : l'.job ≡ l.job
    pub costs : l'.costs ≡ l.costs
    pub records : (k : ℕ) → k < 64 → view (slice_index_or l'.records k (blank s)) ≡ slice_index_or (begun l).views k rests
    pub more_records : drop 64 l'.records ≡ drop 64 l.records
    pub as_many : length l'.records ≡ length l.records
    pub bests : l'.bests ≡ ((begun l).best ∷ replicate 7 (at_first s)) ++ drop 8 l.bests
    pub sent : Sent l.limit [] (begun l).sends false l'.limit l'.bag
    pub run : r ≡ record { out = (begun l).out; count = 0 }

  pub data Starts (l : Lent S) : Result Run Refusal → Lent S → Type 0 where
    too_little : {e : Refusal} {l' : Lent S} → number e ≡ 7 → Lacks l → l' ≡ l → Starts l (Err e) l'
    low_limit : {e : Refusal} {l' : Lent S} → number e ≡ 8 → Enough l → l.limit < margin → l' ≡ l → Starts l (Err e) l'
    message_waits : {e : Refusal} {l' : Lent S} → number e ≡ 9 → Enough l → margin ≤ l.limit → 0 < length l.bag → l' ≡ l → Starts l (Err e) l'
    granted : {run : Run} {l' : Lent S} → Enough l → margin ≤ l.limit → l.bag ≡ [] → Begins l run l' → Starts l (Ok run) l'
