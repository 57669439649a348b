-- From what a call does to all that it promises, by the theorem. Assumes what the theorem assumes.
use Rattle.std.proofs.Common.{ℕ, ◌+◌, Ok, Err, Result, ◌∙◌, subst}
use Rattle.job.specs.declared.refusal.Refusal.{Refusal}
use Rattle.link.specs.declared.message.Kind.{Kind}
use Rattle.run.specs.declared.run.Run.{Run}
use Rattle.run.specs.declared.run.Ended.{Ended}
use Rattle.job.specs.declared.declined.Declined.{Declined}
use Rattle.scale.specs.Operations.{Operations, Laws}
use Rattle.head.specs.Lent.{Lent}
use Rattle.run.specs.Worlds.{World, at}
use Rattle.run.specs.Starting.{Starts}
use Rattle.run.specs.Delivering.{Delivers}
use Rattle.run.specs.Ending.{Ends}
use Rattle.run.specs.History.{took, History}
use Rattle.run.specs.History.Goes.{stays, delivers, declines_end}
use Rattle.run.specs.Promises.{StartPromise, DeliverPromise, EndPromise, Left}
use Rattle.run.proofs.Theorem.{every_run_stands}

module _ {S : Type 0} (s : Operations S) (laws : Laws s) where
  pub start_promise : (l : Lent S) (a : Result Run Refusal) (l' : Lent S) → Starts s l a l' → StartPromise s l a l'
  start_promise l a l' did = record {
    does = did;
    begins = λ run e. let h : History s (at l' run) (at l' run) 0 = record { before = l; starts = subst (λ (x : Result Run Refusal). Starts s l x l') e did; goes = stays } in (h, every_run_stands laws _ _ _ h);
  }

  pub deliver_promise : (w : World S) (a : Result Kind Refusal) (w' : World S) → Delivers s w a w' → DeliverPromise s w a w'
  deliver_promise w a w' did = record {
    does = did;
    keeps = λ first k h. let h' : History s first w' (k + took a) = record { before = h.before; starts = h.starts; goes = delivers a h.goes did } in (h', every_run_stands laws _ _ _ h');
  }

  left : (w : World S) (a : Result (Ended S) (Declined Run)) → Ends s w a → (first : World S) (k : ℕ) → History s first w k → Left s first k w.lent a
  left w (Ok e) (Ends.granted en o b did) first k h =
      let whole = every_run_stands laws first w k h in
      (whole.right_end e (Ends.granted en o b did), did.count ∙ whole.counted)
  left w (Err f) did first k h =
      let h' : History s first (at w.lent f.back) k = record { before = h.before; starts = h.starts; goes = declines_end f h.goes did } in
      (h', every_run_stands laws _ _ _ h')

  pub end_promise : (w : World S) (a : Result (Ended S) (Declined Run)) → Ends s w a → EndPromise s w a
  end_promise w a did = record { does = did; keeps = λ first k h. (every_run_stands laws first w k h, left w a did first k h) }
