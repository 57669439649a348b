-- What an end tells is right: the best of head 1, if nothing waits, is a cheapest plan with its cost, or none where every plan costs never.
-- Serves the theorem. Assumes nothing.
use Rattle.std.proofs.Common.{◌≡◌, Bool, true, false, ◌↔◌, Some, None, Option, sym, ap, ◌∙◌, subst, inl, inr, arith}
use Rattle.std.proofs.lemmas.Bool.{both_ways}
use Rattle.job.specs.declared.job.Job.{Job}
use Rattle.job.specs.Plans.{heads, named, empty, is_complete}
use Rattle.head.specs.declared.best.Best.{Best}
use Rattle.head.specs.Lent.{Lent, Enough, Lacks}
use Rattle.searches.specs.Cubes.{Problem}
use Rattle.searches.specs.Bests.{Good, no_plan, a_plan}
use Rattle.searches.proofs.Cubes.{counting_has, empty_unnamed}
use Rattle.searches.proofs.Messages.{complete_is_complete}
use Rattle.run.specs.declared.run.Found.{Found}
use Rattle.run.specs.Ending.{Tells}
use Rattle.run.specs.Whole.{NoneCheaper, AllNever, Stands, Right}
use Rattle.run.proofs.Sets.{every_fails}

-- the empty plan is not complete
empty_is_incomplete : (j : Job) → is_complete j empty ≡ false
empty_is_incomplete j = every_fails (named empty) (heads j) (counting_has (λ h. named empty h ≡ false) 1 j.heads 1 (omega arith) (omega (arith, j.one)) (empty_unnamed 1))

pub enough_lacks_nothing : {S : Type 0} (l : Lent S) → Enough l → Lacks l → ⊥
enough_lacks_nothing l e (inl k) = omega (arith, e.records)
enough_lacks_nothing l e (inr (inl k)) = omega (arith, e.bests)
enough_lacks_nothing l e (inr (inr k)) = omega (arith, e.costs)

module _ {S : Type 0} (π : Problem S) where
  pub good_stands : (b : Best S) → Good π b → Stands π.scale π.costs π.job b
  good_stands b (no_plan cost plan) = inr (plan, cost)
  good_stands b (a_plan found) = inl (found.complete, found.costs)

  module _ (b : Best S) (none_cheaper : NoneCheaper π.scale π.costs π.job b.cost) (when : (b.plan ≡ empty) ↔ AllNever π.scale π.costs π.job) where
    -- a complete plan is not the empty one, so not every plan costs never
    not_all_never : is_complete π.job b.plan ≡ true → AllNever π.scale π.costs π.job → ⊥
    not_all_never full all = both_ways (is_complete π.job b.plan) (ap (is_complete π.job) (when.1 all) ∙ empty_is_incomplete π.job) full

    found_is_right : (f : Found S) → Good π b → is_complete π.job b.plan ≡ true → Tells π.scale b true (Some f) → Right π.scale π.costs π.job (Some f)
    found_is_right f (no_plan never plan) full t = absurd (both_ways (is_complete π.job b.plan) (ap (is_complete π.job) plan ∙ empty_is_incomplete π.job) full)
    found_is_right f (a_plan found) full t =
        (b.plan, sym t.0, found.complete, t.1 ∙ found.costs, subst (NoneCheaper π.scale π.costs π.job) (sym t.1) none_cheaper, not_all_never full)

    none_is_right : Good π b → is_complete π.job b.plan ≡ false → Right π.scale π.costs π.job None
    none_is_right (no_plan never plan) part = when.0 plan
    none_is_right (a_plan found) part = absurd (both_ways (is_complete π.job b.plan) part (complete_is_complete π.job b.plan found.complete))

    pub told_is_right : (full : Bool) (outcome : Option (Found S)) → Good π b → is_complete π.job b.plan ≡ full → Tells π.scale b full outcome → Right π.scale π.costs π.job outcome
    told_is_right true (Some f) good e t = found_is_right f good e t
    told_is_right true None good e t = elim t [ ]
    told_is_right false (Some f) good e t = elim t [ ]
    told_is_right false None good e t = none_is_right good e
