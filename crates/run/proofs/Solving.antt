-- Why solve's loop ends, and what it ends with. Assumes what the theorem assumes.
use Rattle.std.proofs.Common.{◌≡◌, ℕ, ◌-◌, ◌<◌, ◌≤◌, Bool, List, [], ◌∷◌, length, drop, replicate, Ok, Err, Result, sym, refl, ap, ◌∙◌, subst, arith, length-append, length-set}
use mathlib.Core.Bool.{false≢true}
use Rattle.job.specs.declared.refusal.Refusal.{Refusal}
use Rattle.job.specs.declared.job.Job.{Job}
use Rattle.link.specs.declared.message.Kind.{Kind}
use Rattle.link.specs.declared.message.Message.{Message}
use Rattle.head.specs.declared.record.Record.{Record}
use Rattle.run.specs.declared.run.Run.{Run}
use Rattle.run.specs.declared.run.Ended.{Ended}
use Rattle.job.specs.declared.declined.Declined.{Declined}
use Rattle.scale.specs.Operations.{Operations, Laws}
use Rattle.head.specs.Views.{Turn, becomes, Turned}
use Rattle.head.specs.Lent.{Lent, Enough}
use Rattle.head.specs.Receiving.{Acts}
use Rattle.run.specs.Worlds.{World}
use Rattle.head.specs.Bests.{at_first}
use Rattle.run.specs.Starting.{begun, Starts}
use Rattle.run.specs.Delivering.{Delivers}
use Rattle.run.specs.Ending.{Ends}
use Rattle.run.specs.History.{Goes, History}
use Rattle.run.specs.History.Goes.{delivers, looks, declines_end}
use Rattle.run.specs.Whole.{Right, most_messages}
use Rattle.run.specs.Promises.{DeliverPromise, EndPromise, Solved}
use Rattle.run.proofs.Excluded.{no_idle_deliver}
use Rattle.run.proofs.Theorem.{every_run_stands}

module _ {S : Type 0} (s : Operations S) where
  abbrev as_long : (l l' : Lent S) → length l'.records ≡ length l.records → 8 ≤ length l'.bests → l'.costs ≡ l.costs → Enough l → Enough l'
  as_long l l' r b c e = let c' = ap length c in record { records = omega (arith, e.records); bests = b; costs = omega (arith, e.costs) }

  turned_as_long : (before : List (Record S)) (k : ℕ) (t : Turn S) (after : List (Record S)) → Turned before k t after → length after ≡ length before
  turned_as_long before k Turn.stays after e = ap length e
  turned_as_long before k (becomes v) after e = ap length e.2 ∙ length-set before k _

  still_enough_acts : {out : ℕ} {l l' : Lent S} {m : Message S} {more : ℕ → List (Message S)} {home lost : Bool} → Acts s out l m more home lost l' → Enough l → Enough l'
  still_enough_acts {out} {l} {l'} did e =
      let n : length l'.bests ≡ length l.bests = ap length did.bests ∙ length-set l.bests _ _ in
      as_long l l' (turned_as_long _ _ _ _ did.records) (omega (arith, e.bests)) did.costs e

  pub still_enough_delivers : {w w' : World S} {a : Result Kind Refusal} → Delivers s w a w' → Enough w.lent → Enough w'.lent
  still_enough_delivers (Delivers.too_little n l eq) e = subst (λ (x : World S). Enough x.lent) (sym eq) e
  still_enough_delivers (Delivers.none_waits n _ b eq) e = subst (λ (x : World S). Enough x.lent) (sym eq) e
  still_enough_delivers {w} {w'} (Delivers.stray n _ did) e = let n = ap length did.taken.bests in as_long w.lent w'.lent (ap length did.taken.records) (omega (arith, e.bests)) did.taken.costs e
  still_enough_delivers (Delivers.message_lost m n _ did) e = still_enough_acts did.acts e
  still_enough_delivers (Delivers.granted m k _ did) e = still_enough_acts did.acts e

  still_enough : {u w : World S} {k : ℕ} → Goes s u w k → Enough u.lent → Enough w.lent
  still_enough Goes.stays e = e
  still_enough (delivers a g did) e = still_enough_delivers did (still_enough g e)
  still_enough (looks seen g did) e = still_enough g e
  still_enough (declines_end f g did) e = still_enough g e

  started_enough : {l l' : Lent S} {r : Run} → Starts s l (Ok r) l' → Enough l'
  started_enough {l} {l'} (Starts.granted e _ _ did) =
      as_long l l' did.as_many (let n = ap length did.bests in omega (arith, length-append ((begun s l).best ∷ replicate 7 (at_first s)) (drop 8 l.bests))) did.costs e

  pub run_has_enough : {first w : World S} {k : ℕ} → History s first w k → Enough w.lent
  run_has_enough h = still_enough h.goes (started_enough h.starts)

  module _ (laws : Laws s) where
    -- each delivery brings the count nearer to the limit
    pub nearer : {first w w' : World S} {k : ℕ} (a : Result Kind Refusal) → History s first w k → 0 < length w.lent.bag → DeliverPromise s w a w' → w'.lent.job ≡ w.lent.job →
        most_messages w'.lent.job - w'.run.count < most_messages w.lent.job - w.run.count
    nearer {first} {w} {w'} {k} a h some did e =
        let one = (no_idle_deliver s did.does (run_has_enough h) some).1 in
        let was = every_run_stands laws first w k h in
        let now = (did.keeps first k h).1 in
        let same = ap most_messages e in
        omega (arith, one, was.counted, now.counted, now.limited, same)

    -- a quiet run is not refused its end
    pub quiet_ends : {first w : World S} {k : ℕ} (f : Declined Run) → History s first w k → w.lent.bag ≡ [] → Ends s w (Err f) → ⊥
    quiet_ends {first} {w} {k} f h quiet did = false≢true (((every_run_stands laws first w k h).ends_when_quiet (Err f) did).1 quiet)

    pub solved : (l : Lent S) (first w : World S) (k : ℕ) (e : Ended S) → Starts s l (Ok first.run) first.lent → History s first w k → EndPromise s w (Ok e) →
        w.lent.job ≡ l.job → w.lent.costs ≡ l.costs → Solved s l e w.lent
    solved l first w k e starts h did j c =
        let whole = every_run_stands laws first w k h in
        let left = (did.keeps first k h).1 in
        record {
          first = first;
          last = w;
          taken = k;
          starts = starts;
          goes = h.goes;
          ends = did.does;
          leaves = refl;
          right = subst (λ (x : List S). Right s x l.job e.outcome) c (subst (λ (x : Job). Right s w.lent.costs x e.outcome) j left.0);
          counted = left.1;
          limited = let m = ap most_messages j in omega (arith, whole.limited, m);
        }
