-- Bests: the laws of being at least as good, what adopting and giving up have to do with it, and what putting one head's best changes.
-- Assumes nothing.
use Rattle.std.proofs.Common.{◌≡◌, ℕ, true, false, ◌≢◌, ◌⊎◌, [], sym, refl, subst, inl, inr, arith}
use Rattle.std.proofs.lemmas.Bool.{cases_Bool, cases_eq, cond-true, cond-false, eq-eqb, ne_eqb}
use Rattle.scale.specs.Operations.{Operations, Laws, AtMost}
use Rattle.job.specs.declared.plan.Plan.{Plan as Plans}
use Rattle.job.specs.Plans.{unnamed_heads, Extends}
use Rattle.problem.proofs.Joins.{at_most_itself}
use Rattle.head.specs.declared.best.Best.{Best}
use Rattle.head.specs.Bests.{hopeless, adopted}
use Rattle.searches.specs.Cubes.{Problem, Lawful}
use Rattle.searches.specs.Bests.{Bests, put, AsGood, priced_plan, Good, AllGood, Improves}
use Rattle.searches.specs.Steps.{cost_of}
use Rattle.searches.proofs.Cubes.{cube_costs_at_most}

module _ {S : Type 0} {s : Operations S} (laws : Laws s) where
  -- the order
  pub as_good_itself : (b : Best S) → AsGood s b b
  as_good_itself b = at_most_itself laws b.cost

  pub as_good_trans : (a b c : Best S) → AsGood s a b → AsGood s b c → AsGood s a c
  as_good_trans a b c h k = laws.transitive _ _ _ h k

  pub as_good_costs_at_most : (a b : Best S) → AsGood s a b → AtMost s a.cost b.cost
  as_good_costs_at_most a b h = h

  -- what is adopted is one of the two, and at least as good as both
  pub adopted_is_one : (P : Best S → Type 0) (other b : Best S) → P other → P b → P (adopted s other b)
  adopted_is_one P other b p q = elim (cases_Bool (s.leq b.cost other.cost)) [ inl e ↦ rw e q | inr e ↦ rw e p ]

  pub adopted_as_good : (other b : Best S) → AsGood s (adopted s other b) b
  adopted_as_good other b = elim (cases_Bool (s.leq b.cost other.cost)) [ inl e ↦ rw e (as_good_itself b) | inr e ↦ rw e (laws.total _ _ e) ]

  pub adopted_as_good_as_other : (other b : Best S) → AsGood s (adopted s other b) other
  adopted_as_good_as_other other b = elim (cases_Bool (s.leq b.cost other.cost)) [ inl e ↦ rw e e | inr e ↦ rw e (as_good_itself other) ]

  pub adopted_keeps : (other b : Best S) → AsGood s b other → adopted s other b ≡ b
  adopted_keeps other b h = cond-true _ _ _ h

  -- a plan is given up only where the best is at least as good as all that would come of it
  pub hopeless_as_good : (b x : Best S) (least : S) → hopeless s b least ≡ true → AtMost s least x.cost → AsGood s b x
  hopeless_as_good b x least h k = laws.transitive _ _ _ h k

  -- a plan that is not given up is at least as good as the best, and below never
  pub hopeful_as_good : (b x : Best S) → hopeless s b x.cost ≡ false → AsGood s x b
  hopeful_as_good b x e = laws.total _ _ e

  pub hopeful_below_never : (b x : Best S) → hopeless s b x.cost ≡ false → s.leq s.never x.cost ≡ false
  hopeful_below_never b x e = grind (arith, laws.greatest, laws.transitive)

module _ {S : Type 0} (B : Bests S) (h : ℕ) (b : Best S) where
  pub put_there : put B h b h ≡ b
  put_there = cond-true _ _ _ (eq-eqb h h refl)

  -- the best put for h is that of h, and every other is as it was
  pub put_cases : (g : ℕ) → ((g ≡ h) × (put B h b g ≡ b)) ⊎ ((g ≢ h) × (put B h b g ≡ B g))
  put_cases g = elim (cases_eq g h) [ inl e ↦ inl (e, cond-true _ _ _ (eq-eqb g h e)) | inr ne ↦ inr (ne, cond-false _ _ _ (ne_eqb g h ne)) ]

module _ {S : Type 0} {π : Problem S} (law : Lawful π) where
  -- a cube that leaves no head open is, with its cost, at least as good as each of its completions
  pub complete_cube_as_good : (b : Best S) (p : Plans) → b.cost ≡ cost_of π b.plan → unnamed_heads π.job b.plan ≡ [] → Extends π.job b.plan p → AsGood π.scale b (priced_plan π p)
  complete_cube_as_good b p costs full e = subst (λ (x : S). AtMost π.scale x (cost_of π p)) (sym costs) (cube_costs_at_most law b.plan p e)

  pub improves_itself : (B : Bests S) → Improves π B B
  improves_itself B g = as_good_itself law.laws (B g)

  pub put_improves : (B : Bests S) (h : ℕ) (b : Best S) → AsGood π.scale b (B h) → Improves π B (put B h b)
  put_improves B h b l g = elim (put_cases B h b g) [ inl e ↦ rw (e.1, e.0) l | inr e ↦ rw e.1 (as_good_itself law.laws (B g)) ]

  pub put_all_good : (B : Bests S) (h : ℕ) (b : Best S) → AllGood π B → Good π b → AllGood π (put B h b)
  put_all_good B h b good k g l = elim (put_cases B h b g) [ inl e ↦ rw e.1 k | inr e ↦ rw e.1 (good g l) ]
