-- What deliver does, exactly. Free are which waiting message is taken, which head is picked, and the other fields of a resting
-- record. Assumes nothing.
use Rattle.std.specs.Prelude.{◌≡◌, ℕ, ◌+◌, ◌-◌, ◌^◌, min, Bool, true, false, cond, ◌&&◌, List, [], Ok, Err, Result, ◌==◌}
use Rattle.scale.specs.Operations.{Operations}
use Rattle.job.specs.declared.refusal.Refusal.{Refusal}
use Rattle.job.specs.Refusals.{number}
use Rattle.job.specs.declared.job.Job.{Job}
use Rattle.link.specs.declared.message.Kind.{Kind}
use Rattle.link.specs.declared.message.Message.{Message}
use Rattle.link.specs.Posting.{Sent}
use Rattle.head.specs.declared.best.Best.{Best}
use Rattle.head.specs.Lent.{Enough, Lacks}
use Rattle.head.specs.Receiving.{is_due, replies, Acts, OnlyTaken}
use Rattle.run.specs.declared.run.Run.{Run}
use Rattle.run.specs.Worlds.{World, come_home, stops}

-- one message more was taken; the count stays at 2^64 − 1
abbrev pub counted : ℕ → ℕ
counted c = min (c + 1) (2 ^ 64 - 1)

module _ {S : Type 0} (s : Operations S) where
  -- which searches are out once the head has acted, and the stops if the last came home by it
  abbrev pub out_after : World S → Message S → ℕ → ℕ
  out_after w m picked = cond (replies s w.lent m picked).home (come_home w.run.out m.search) w.run.out

  abbrev pub farewell : World S → Message S → ℕ → List (Message S)
  farewell w m picked = cond ((replies s w.lent m picked).home && out_after w m picked == 0) (stops w.lent.job (replies s w.lent m picked).best) []

  -- A message is taken and counted, and its head acts; `lost` tells whether a message that it sent was lost.
  pub record Delivered (w : World S) (m : Message S) (lost : Bool) (w' : World S) : Type 0 where
    pub home : Bool
    pub acts : Acts s w.run.out w.lent m (farewell w m) home lost w'.lent
    pub run : w'.run ≡ record { out = out_after w m acts.picked; count = counted w.run.count }

  -- A stray message is taken and counted, and the rest stays.
  pub record Strays (w w' : World S) : Type 0 where
    pub message : Message S
    pub not_due : is_due s w.run.out w.lent message ≡ false
    pub taken : OnlyTaken s w.lent message w'.lent
    pub run : w'.run ≡ record { out = w.run.out; count = counted w.run.count }

  pub data Delivers (w : World S) : Result Kind Refusal → World S → Type 0 where
    too_little : {e : Refusal} {w' : World S} → number e ≡ 7 → Lacks w.lent → w' ≡ w → Delivers w (Err e) w'
    none_waits : {e : Refusal} {w' : World S} → number e ≡ 11 → Enough w.lent → w.lent.bag ≡ [] → w' ≡ w → Delivers w (Err e) w'
    stray : {e : Refusal} {w' : World S} → number e ≡ 13 → Enough w.lent → Strays w w' → Delivers w (Err e) w'
    message_lost : {e : Refusal} {w' : World S} (m : Message S) → number e ≡ 10 → Enough w.lent → Delivered w m true w' → Delivers w (Err e) w'
    granted : {k : Kind} {w' : World S} (m : Message S) → k ≡ m.kind → Enough w.lent → Delivered w m false w' → Delivers w (Ok k) w'

-- A search comes home: it is out no more, and once none is, the stops are sent; `lost` tells whether one was lost.
pub record ComesHome {S : Type 0} (r : Run) (v : ℕ) (j : Job) (best : Best S) (limit : ℕ) (bag : List (Message S)) (lost : Bool) (r' : Run) (limit' : ℕ) (bag' : List (Message S)) : Type 0 where
  pub run : r' ≡ record { out = come_home r.out v; count = r.count }
  pub sent : Sent limit bag (cond (come_home r.out v == 0) (stops j best) []) lost limit' bag'
