use Rattle.std.proofs.Common.{ℕ, min, sym, ap, ◌∙◌, subst}
use Rattle.head.specs.SetupSets.{SetupSet, first_setups}
use Rattle.head.specs.Readiness.{Ready}
use Rattle.head.proofs.SetupSets.{below_is}
use Rattle.head.proofs.Replying.{first_own}
use Rattle.head.proofs.respond.begin.Goals as goal

pub search_on-requires : goal.search_on-requires
search_on-requires g c =
    let left = c.below.ensures ∙ below_is c.setups.result ∙ ap (λ (d : ℕ). first_setups (min d 8)) c.setups.ensures in
    rw c.of-seat.ensures (subst (λ (u : SetupSet). Ready c.args.prices.now.job.now c.args.message.now.to c.args.message.now.plan u) (sym left)
    (record { head = c.requires.head; of_job = c.requires.of_job; free = c.requires.free; own = first_own c.args.prices.now.job.now c.args.message.now.to }))
