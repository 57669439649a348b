-- What the relations leave no room for: an idle deliver, an end that always declines, an invented count. Assumes nothing.
use Rattle.std.proofs.Common.{◌≡◌, ℕ, ◌<◌, true, cond, ◌||◌, eqb, [], length, Some, None, Ok, Err, Option, Result, refl, ap, inl, inr, arith}
use Rattle.job.specs.declared.refusal.Refusal.{Refusal}
use Rattle.link.specs.declared.message.Kind.{Kind}
use Rattle.run.specs.declared.run.Run.{Run}
use Rattle.run.specs.declared.run.Ended.{Ended}
use Rattle.job.specs.declared.declined.Declined.{Declined}
use Rattle.run.specs.declared.run.Found.{Found}
use Rattle.head.specs.declared.best.Best.{Best}
use Rattle.job.specs.Refusals.{number}
use Rattle.scale.specs.Operations.{Operations}
use Rattle.head.specs.Lent.{Lent, Enough, Lacks}
use Rattle.run.specs.Worlds.{World}
use Rattle.run.specs.Starting.{Starts}
use Rattle.run.specs.Delivering.{counted, Delivers}
use Rattle.run.specs.Ending.{Ends, Tells, unpacked}
use Rattle.run.specs.History.{took}

-- a number tells its refusal's share of messages taken
took_at : (r : Refusal) (n : ℕ) → number r ≡ n → took (Err r) ≡ cond (eqb n 10 || eqb n 13) 1 0
took_at r n e = ap (λ x. cond (eqb x 10 || eqb x 13) 1 0) e

module _ {S : Type 0} (s : Operations S) where
  enough_or_lacks : (l : Lent S) → Enough l → Lacks l → ⊥
  enough_or_lacks l e (inl h) = omega (arith, e.records)
  enough_or_lacks l e (inr (inl h)) = omega (arith, e.bests)
  enough_or_lacks l e (inr (inr h)) = omega (arith, e.costs)

  nothing_waits : (l : Lent S) → l.bag ≡ [] → 0 < length l.bag → ⊥
  nothing_waits l e h = let n : length l.bag ≡ 0 = ap length e in omega arith

  -- No idle deliver: where a message waits and the memory is enough, one is taken and counted, whatever the answer.
  pub no_idle_deliver : {w w' : World S} {a : Result Kind Refusal} → Delivers s w a w' → Enough w.lent → 0 < length w.lent.bag →
      (w'.run.count ≡ counted w.run.count) × (took a ≡ 1)
  no_idle_deliver {w} (Delivers.too_little n l e) en h = absurd (enough_or_lacks w.lent en l)
  no_idle_deliver {w} (Delivers.none_waits n _ b e) en h = absurd (nothing_waits w.lent b h)
  no_idle_deliver (Delivers.stray {e = r} n _ did) en h = (ap (λ (x : Run). x.count) did.run, took_at r 13 n)
  no_idle_deliver (Delivers.message_lost {e = r} m n _ did) en h = (ap (λ (x : Run). x.count) did.run, took_at r 10 n)
  no_idle_deliver (Delivers.granted m k _ did) en h = (ap (λ (x : Run). x.count) did.run, refl)

  -- No end that always refuses, and none that is granted while a message waits or a search is out.
  end_must_grant : {w : World S} {f : Declined Run} → Ends s w (Err f) → Enough w.lent → w.run.out ≡ 0 → w.lent.bag ≡ [] → ⊥
  end_must_grant {w} (Ends.too_little n l e) en o b = enough_or_lacks w.lent en l
  end_must_grant {w} (Ends.still_out n _ (inl h) e) en o b = omega arith
  end_must_grant {w} (Ends.still_out n _ (inr h) e) en o b = nothing_waits w.lent b h

  end_must_refuse : {w : World S} {e : Ended S} → Ends s w (Ok e) → (w.run.out ≡ 0) × (w.lent.bag ≡ [])
  end_must_refuse (Ends.granted _ o b did) = (o, b)

  -- No "no plan" each time, and no plan but head 1's best.
  tells_the_plan : (best : Best S) (o : Option (Found S)) → Tells s best true o → (found : Found S) × (o ≡ Some found) × (unpacked found.packed ≡ best.plan.setups) × (found.cost ≡ best.cost)
  tells_the_plan best (Some found) t = (found, refl, t.0, t.1)
  tells_the_plan best None t = absurd t

  -- No invented count: a run begins at 0.
  count_begins_at_zero : {l l' : Lent S} {r : Run} → Starts s l (Ok r) l' → r.count ≡ 0
  count_begins_at_zero (Starts.granted _ _ _ did) = ap (λ (x : Run). x.count) did.run
