use Rattle.std.proofs.Common.{take, sym, ap, ◌*◌, ◌∙◌, arith, rules, length-take, ℕ, ◌≤◌, subst}
use Rattle.std.specs.List.{fold}
use Rattle.std.proofs.lemmas.List.{get_or-take, map-id}
use Rattle.std.proofs.lemmas.Iterator.{YieldsList-from_slice, YieldsList-from_map}
use Rattle.std.proofs.lemmas.Iterator.Adapters.{total_from_yields_List}
use Rattle.job.specs.Plans.{setups}
use Rattle.job.proofs.Readings.{product_along, product_fits, setups_at}
use Rattle.job.proofs.job.Job.plans.Goals as goal

pub product-requires-clause-fits : goal.product-requires-clause-fits
product-requires-clause-fits c =
    let j = c.args.self.now in
    let front = take j.heads j.setups in
    product_fits front c.map.result (YieldsList-from_map _ (λ x. x) (YieldsList-from_slice front cc) c.map.ensures.closure (λ x r q k. search rules))
    (omega (arith, length-take j.heads j.setups, j.eight))
    (λ i lt. subst (λ (d : ℕ). d ≤ 8) (sym (get_or-take j.heads j.setups i 0 (omega (arith, lt, length-take j.heads j.setups)))) (j.few i))

pub returns : goal.returns
returns c =
    let j = c.args.self.now in
    let front = take j.heads j.setups in
    total_from_yields_List (λ a x. a * x) 1 c.product.result c.product.ensures.ran (YieldsList-from_map _ (λ x. x) (YieldsList-from_slice front cc) c.map.ensures.closure (λ x r q k. search rules))
    ∙ ap (fold (λ a x. a * x) 1) (map-id front)
    ∙ product_along (setups j) front 1 j.heads 1 (omega (arith, length-take j.heads j.setups, j.eight)) (λ k lt. setups_at j k ∙ sym (get_or-take j.heads j.setups k 0 lt))
    ∙ omega arith
