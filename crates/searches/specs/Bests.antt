-- What a best must be, and when one is at least as good as another. Serves the invariant: who holds a best, and which complete plans are
-- no better than one that is held. `AsGood` is the only order of bests that the theorem uses, so that another rule on plans of equal
-- cost changes it and its laws alone. Assumes nothing.
use Rattle.std.specs.Prelude.{◌≡◌, ℕ, false, cond, ◌==◌}
use Rattle.scale.specs.Operations.{Operations, AtMost}
use Rattle.job.specs.declared.plan.Plan.{Plan}
use Rattle.job.specs.Plans.{empty, Complete}
use Rattle.problem.specs.Costs.{plan_cost}
use Rattle.head.specs.declared.best.Best.{Best}
use Rattle.searches.specs.Cubes.{Problem, Head}

-- the best of each head, by its number; the same but for one head's
abbrev pub Bests : Type 0 → Type 0
Bests S = ℕ → Best S

abbrev pub put : {S : Type 0} → Bests S → ℕ → Best S → Bests S
put B h b g = cond (g == h) b (B g)

-- a is at least as good as b
abbrev pub AsGood : {S : Type 0} → Operations S → Best S → Best S → Type 0
AsGood s a b = AtMost s a.cost b.cost

module _ {S : Type 0} (π : Problem S) where
  -- a plan with its cost
  abbrev pub priced_plan : Plan → Best S
  priced_plan p = record { cost = plan_cost π.scale π.costs π.job p; plan = p }

  -- a complete plan, below never, with its cost
  pub record Found (b : Best S) : Type 0 where
    pub complete : Complete π.job b.plan
    pub costs : b.cost ≡ plan_cost π.scale π.costs π.job b.plan
    pub below_never : π.scale.leq π.scale.never b.cost ≡ false

  -- what a head knows: no plan, or one that was found
  pub data Good (b : Best S) : Type 0 where
    no_plan : b.cost ≡ π.scale.never → b.plan ≡ empty → Good b
    a_plan : Found b → Good b

  -- the bests of all heads of the job are good; none of the second is worse than it is in the first
  abbrev pub AllGood : Bests S → Type 0
  AllGood B = (g : ℕ) → Head π.job g → Good (B g)

  abbrev pub Improves : Bests S → Bests S → Type 0
  Improves B B' = (g : ℕ) → AsGood π.scale (B' g) (B g)
