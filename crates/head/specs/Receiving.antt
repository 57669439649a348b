-- What receiving one message comes to, exactly. Free are which waiting message is taken, which head is picked, and the other fields
-- of a resting record. Assumes nothing.
use Rattle.std.specs.Prelude.{◌≡◌, ℕ, ◌-◌, ◌<◌, ◌≤◌, Bool, true, false, List, [], ◌∷◌, ◌++◌, length, Ok, Err, Result, ◌≢◌, slice_index_or, slice_set}
use Rattle.scale.specs.Operations.{Operations}
use Rattle.job.specs.declared.job.Job.{Job}
use Rattle.job.specs.declared.refusal.Refusal.{Refusal}
use Rattle.job.specs.Refusals.{number}
use Rattle.problem.specs.Bags.{Same}
use Rattle.link.specs.declared.message.Kind.{Kind}
use Rattle.link.specs.declared.message.Kind.TheVariants.{Request}
use Rattle.link.specs.declared.message.Message.{Message}
use Rattle.link.specs.HeadSets.{Picks}
use Rattle.link.specs.Posting.{Sent}
use Rattle.head.specs.declared.record.Record.{Record}
use Rattle.head.specs.declared.owed.OwedReport.{OwedReport}
use Rattle.head.specs.declared.receive.Received.{Received}
use Rattle.head.specs.declared.receive.Received.TheVariants.{Owes, Done}
use Rattle.head.specs.declared.best.Best.{Best}
use Rattle.head.specs.declared.search.Turn.{Turn}
use Rattle.head.specs.Views.{spot, Turned}
use Rattle.head.specs.Replies.{Reply, reply, asks_picker, choice}
use Rattle.head.specs.Strays.{is_addressed, fits}
use Rattle.head.specs.Readiness.{Goes}
use Rattle.head.specs.Lent.{Lent, Enough, Lacks, is_out, blank, record_of, best_of}

module _ {S : Type 0} (s : Operations S) where
  -- the record that a message is about, and whether the message fits, `out` telling which searches are out
  abbrev pub its_record : Lent S → Message S → Record S
  its_record l m = record_of s l m.to m.search

  abbrev pub is_due : ℕ → Lent S → Message S → Bool
  is_due out l m = fits l.job (is_out out m.search) (its_record l m) m

  -- what the head does with it, and whether it asks the picker
  abbrev pub replies : Lent S → Message S → ℕ → Reply S
  replies l m picked = reply s l.job l.costs picked (its_record l m) m (best_of s l m.to) m.kind

  abbrev pub needs_pick : Lent S → Message S → Bool
  needs_pick l m = asks_picker s l.job l.costs (its_record l m) m (best_of s l m.to) m.kind

  -- A message that fits is taken, and the head acts on its record and its best: `home` tells whether the search came home, `lost`
  -- whether a message was lost. `more` is what is sent besides.
  pub record Acts (out : ℕ) (l : Lent S) (m : Message S) (more : ℕ → List (Message S)) (home lost : Bool) (l' : Lent S) : Type 0 where
    pub rest : List (Message S)
    pub picked : ℕ
    pub taken : Same (m ∷ rest) l.bag
    pub due : is_due out l m ≡ true
    pub picks : needs_pick l m ≡ true → Picks (choice l.job m.to (its_record l m)) picked
    pub job : l'.job ≡ l.job
    pub costs : l'.costs ≡ l.costs
    pub records : Turned l.records (spot m.to m.search) (replies l m picked).turn l'.records
    pub bests : l'.bests ≡ slice_set l.bests (m.to - 1) (replies l m picked).best
    pub came_home : home ≡ (replies l m picked).home
    pub sent : Sent l.limit rest ((replies l m picked).notices ++ ((replies l m picked).posts ++ more picked)) lost l'.limit l'.bag

  -- A message is taken, and nothing else moves.
  pub record OnlyTaken (l : Lent S) (m : Message S) (l' : Lent S) : Type 0 where
    pub taken : Same (m ∷ l'.bag) l.bag
    pub job : l'.job ≡ l.job
    pub costs : l'.costs ≡ l.costs
    pub records : l'.records ≡ l.records
    pub bests : l'.bests ≡ l.bests
    pub limit : l'.limit ≡ l.limit

  -- what a request leaves owed: a report to its sender with the bound for its plan
  abbrev pub owed_for : Message S → OwedReport
  owed_for m = record { to = m.from; from = m.to; search = m.search; plan = m.plan }

  -- What a head makes of a message with its own row of records: the message is stray, and nothing moves; or a report is owed, and
  -- nothing moves; or it acts, and its record of the message's search is written back.
  pub data Responds (j : Job) (costs : List S) (out : Bool) (row : List (Record S)) (best : Best S) (m : Message S) (limit : ℕ) (bag : List (Message S)) :
      Result Received Refusal → List (Record S) → Best S → ℕ → List (Message S) → Type 0 where
    strays : {e : Refusal} {row' : List (Record S)} {best' : Best S} {limit' : ℕ} {bag' : List (Message S)} → number e ≡ 13 → fits j out (slice_index_or row m.search (blank s)) m ≡ false → row' ≡ row → best' ≡ best → limit' ≡ limit → bag' ≡ bag →
        Responds j costs out row best m limit bag (Err e) row' best' limit' bag'
    leaves_owed : {o : OwedReport} {row' : List (Record S)} {best' : Best S} {limit' : ℕ} {bag' : List (Message S)} → m.kind ≡ Request → fits j out (slice_index_or row m.search (blank s)) m ≡ true → o ≡ owed_for m →
        row' ≡ row → best' ≡ best → limit' ≡ limit → bag' ≡ bag → Responds j costs out row best m limit bag (Ok (Owes o)) row' best' limit' bag'
    has_acted : {kind : Kind} {home lost : Bool} {row' : List (Record S)} {best' : Best S} {limit' : ℕ} {bag' : List (Message S)} (t : Turn S) → (m.kind ≢ Request) → fits j out (slice_index_or row m.search (blank s)) m ≡ true → kind ≡ m.kind →
        Goes s j costs (slice_index_or row m.search (blank s)) m best m.kind limit bag t best' limit' bag' → row' ≡ slice_set row m.search t.known → home ≡ t.home → lost ≡ t.lost →
        Responds j costs out row best m limit bag (Ok (Done kind home lost)) row' best' limit' bag'

  -- The same in all that is lent, where the message is taken already: a stray one or a request moves nothing, and any other lets its
  -- head act.
  pub data Heeds (out : ℕ) (l : Lent S) (m : Message S) : Result Received Refusal → Lent S → Type 0 where
    strays : {e : Refusal} {l' : Lent S} → number e ≡ 13 → is_due out l m ≡ false → l' ≡ l → Heeds out l m (Err e) l'
    leaves_owed : {o : OwedReport} {l' : Lent S} → m.kind ≡ Request → is_due out l m ≡ true → o ≡ owed_for m → l' ≡ l → Heeds out l m (Ok (Owes o)) l'
    has_acted : {kind : Kind} {home lost : Bool} {l' : Lent S} (picked : ℕ) → (m.kind ≢ Request) → is_due out l m ≡ true → kind ≡ m.kind →
        (needs_pick l m ≡ true → Picks (choice l.job m.to (its_record l m)) picked) → l'.job ≡ l.job → l'.costs ≡ l.costs →
        Turned l.records (spot m.to m.search) (replies l m picked).turn l'.records → l'.bests ≡ slice_set l.bests (m.to - 1) (replies l m picked).best →
        home ≡ (replies l m picked).home → Sent l.limit l.bag ((replies l m picked).notices ++ (replies l m picked).posts) lost l'.limit l'.bag → Heeds out l m (Ok (Done kind home lost)) l'

  -- Receiving is refused for want of memory, or where none waits; then nothing moves. A stray message is taken, and the rest stays.
  -- A request is taken, and a report is owed. Any other message is taken, and the head acts.
  pub data Receives (out : ℕ) (l : Lent S) (place : Message S) : Result Received Refusal → Lent S → Message S → Type 0 where
    too_little : {e : Refusal} {l' : Lent S} {place' : Message S} → number e ≡ 7 → Lacks l → l' ≡ l → place' ≡ place → Receives out l place (Err e) l' place'
    none_waits : {e : Refusal} {l' : Lent S} {place' : Message S} → number e ≡ 11 → Enough l → l.bag ≡ [] → l' ≡ l → place' ≡ place → Receives out l place (Err e) l' place'
    stray : {e : Refusal} {l' : Lent S} {m : Message S} → number e ≡ 13 → Enough l → is_due out l m ≡ false → OnlyTaken l m l' → Receives out l place (Err e) l' m
    owes : {o : OwedReport} {l' : Lent S} {m : Message S} → Enough l → m.kind ≡ Request → is_due out l m ≡ true → o ≡ owed_for m → OnlyTaken l m l' → Receives out l place (Ok (Owes o)) l' m
    acts : {kind : Kind} {home lost : Bool} {l' : Lent S} {m : Message S} → Enough l → (m.kind ≢ Request) → kind ≡ m.kind → Acts out l m (λ _. []) home lost l' → Receives out l place (Ok (Done kind home lost)) l' m

-- An addressed message, and all the records and bests that its head asks for.
pub record Placed {S : Type 0} (j : Job) (records : List (Record S)) (bests : List (Best S)) (m : Message S) : Type 0 where
  pub addressed : is_addressed j m ≡ true
  pub some_head : 1 ≤ m.to
  pub few_heads : m.to ≤ 8
  pub few_searches : m.search < 8
  pub enough_records : 64 ≤ length records
  pub enough_bests : 8 ≤ length bests
