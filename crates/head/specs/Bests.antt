-- The best plan that a head knows of, and the only two comparisons of bests that there are. Assumes nothing.
use Rattle.std.specs.Prelude.{Bool, cond}
use Rattle.scale.specs.Operations.{Operations}
use Rattle.job.specs.Plans.{empty}
use Rattle.head.specs.declared.best.Best.{Best}

module _ {S : Type 0} (s : Operations S) where
  -- at first: never, with the empty plan
  abbrev pub at_first : Best S
  at_first = record { cost = s.never; plan = empty }

  -- A plan on trial is given up where the best costs at most what the plan will cost at least.
  abbrev pub hopeless : Best S → S → Bool
  hopeless best least = s.leq best.cost least

  -- Another best is adopted only where it costs less.
  abbrev pub adopted : Best S → Best S → Best S
  adopted other best = cond (s.leq best.cost other.cost) best other
