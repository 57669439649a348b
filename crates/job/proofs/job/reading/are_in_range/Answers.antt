use Rattle.std.proofs.Common.{◌≡◌, true, false, rules}
use Rattle.std.proofs.lemmas.Iterator.{cases_from_all, YieldsList-from_slice}
use Rattle.std.proofs.lemmas.Bool.Decides.{nat_tests}
use Rattle.job.proofs.Counts.{in_range}
use Rattle.job.proofs.Lists.{every_from_all}
use Rattle.job.proofs.job.reading.are_in_range.Goals as goal

pub returns : goal.returns
returns c = every_from_all in_range c.args.counts.now _ (cases_from_all _ _ _ (λ d. in_range d ≡ true) (λ d. in_range d ≡ false) c.all.ensures.ran (YieldsList-from_slice c.args.counts.now cc) (λ x q k. search (rules, nat_tests)) (λ x q k. search (rules, nat_tests)))
