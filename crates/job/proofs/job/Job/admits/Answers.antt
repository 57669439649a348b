use Rattle.std.proofs.Common.{◌≡◌, ℕ, Bool, true, false, not, ◌||◌, ltb, sym, ap, ◌∙◌, arith, rules}
use Rattle.std.specs.List.{zip}
use Rattle.std.proofs.lemmas.Iterator.{cases_from_all, YieldsList-from_slice, YieldsList-from_zip}
use Rattle.std.proofs.lemmas.Bool.Decides.{nat_tests}
use Rattle.std.proofs.lemmas.Slice.Zip.{get_or-zip, length-zip}
use Rattle.job.specs.Plans.{named, setup, is_setup}
use Rattle.job.proofs.Lists.{every_from_all, every_by_number}
use Rattle.job.proofs.Readings.{allowed_at}
use Rattle.job.proofs.job.Job.admits.Goals as goal

abbrev may : ℕ × ℕ → Bool
may x = not (ltb x.0 255) || ltb x.0 x.1

pub returns : goal.returns
returns c =
    let j = c.args.self.now in
    let q = c.args.plan.now in
    let both = zip q.setups j.setups in
    every_from_all may both _ (cases_from_all c.all.new.self _ _ (λ x. may x ≡ true) (λ x. may x ≡ false) c.all.ensures.ran (YieldsList-from_zip (YieldsList-from_slice q.setups cc) (YieldsList-from_slice j.setups cc)) (λ x q k. search (rules, nat_tests)) (λ x q k. search (rules, nat_tests)))
    ∙ every_by_number may both (0, 0) (λ h. not (named q h) || is_setup j h (setup q h)) 1 8 (omega (arith, length-zip q.setups j.setups)) (λ k lt. allowed_at j q k (search rules) lt ∙ ap may (sym (get_or-zip q.setups j.setups k (0, 0) (omega arith) (omega arith))))
