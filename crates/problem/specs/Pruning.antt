-- The mathematics of the search: what naming a head adds, why giving up a setup loses nothing, and why trying every setup of a
-- head loses nothing. Assumes nothing.
use Rattle.std.specs.Prelude.{◌≡◌, ℕ, ◌<◌, ◌≤◌, false, List, length}
use Rattle.scale.specs.Operations.{Operations, AtMost}
use Rattle.job.specs.declared.job.Job.{Job}
use Rattle.job.specs.declared.plan.Plan.{Plan}
use Rattle.job.specs.Plans.{setups, named, name, unnamed_heads, Extends}
use Rattle.problem.specs.Costs.{joined, against, plan_cost, bound}

module _ {S : Type 0} (s : Operations S) where
  -- Naming one more head joins exactly its costs against the heads named.
  abbrev pub NamingJoinsCosts : Type 0
  NamingJoinsCosts = (costs : List S) (j : Job) (q : Plan) (h i : ℕ) → length q.setups ≡ 8 → 1 ≤ h → h ≤ j.heads → i < 255 → named q h ≡ false →
      plan_cost s costs j (name q h i) ≡ s.join (plan_cost s costs j q) (against s costs j h i q)

  -- Pruning is safe: a partial plan's cost, joined with the bounds of all heads that it does not name, is at most the cost of
  -- every complete plan that extends it.
  abbrev pub PruningIsSafe : Type 0
  PruningIsSafe = (costs : List S) (j : Job) (q p : Plan) → Extends j q p →
      AtMost s (s.join (plan_cost s costs j q) (joined s (λ u. bound s costs j u q) (unnamed_heads j q))) (plan_cost s costs j p)

-- The children of a partial plan by an unnamed head, one for each setup of that head, cover its completions.
abbrev pub ChildrenCover : Type 0
ChildrenCover = (j : Job) (q p : Plan) (u : ℕ) → length q.setups ≡ 8 → 1 ≤ u → u ≤ j.heads → named q u ≡ false → Extends j q p →
    (i : ℕ) × (i < setups j u) × Extends j (name q u i) p
