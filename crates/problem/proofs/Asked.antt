-- Questions about a plan's costs: what an answer says of its question, and what naming one more head comes to where it may be asked
-- for. Assumes nothing.
use Rattle.std.proofs.Common.{◌≡◌, ℕ, ◌<◌, ◌≤◌, Bool, true, false, cond, not, ltb, List, length, Ok, Err, Result, sym, refl, ap, arith}
use Rattle.std.proofs.lemmas.Bool.{and_parts, ltb-true, not-true}
use Rattle.scale.specs.Operations.{Operations, Laws}
use Rattle.job.specs.declared.job.Job.{Job}
use Rattle.job.specs.declared.plan.Plan.{Plan}
use Rattle.job.specs.declared.refusal.Refusal.{Refusal}
use Rattle.job.specs.declared.refusal.Refusal.TheVariants.{BadNumber, TooLittle}
use Rattle.job.specs.Plans.{setups, named, name, is_of_job}
use Rattle.problem.specs.Costs.{against, plan_cost, priced, may_ask_setup}
use Rattle.problem.proofs.Naming.{setups_few, naming_joins_costs}
use Rattle.problem.proofs.Walks.{head_range}

module _ {S : Type 0} where
  abbrev answer : Bool → Bool → S → Result S Refusal
  answer few sensible x = cond few (Err TooLittle) (cond sensible (Ok x) (Err BadNumber))

  -- an answer: there was room, the question made sense, and it is the one asked for
  answered : (few sensible : Bool) (x y : S) → Ok x ≡ answer few sensible y → (few ≡ false) × (sensible ≡ true) × (x ≡ y)
  answered true sensible x y e = absurd (let o : ◌≡◌ {A = ℕ} 0 1 = cc in omega arith)
  answered false true x y e = (refl, refl, cc)
  answered false false x y e = absurd (let o : ◌≡◌ {A = ℕ} 0 1 = cc in omega arith)

module _ {S : Type 0} {s : Operations S} (laws : Laws s) (costs : List S) (j : Job) (h i : ℕ) (q : Plan) (long : length q.setups ≡ 8) where
  pub naming_answered : (more whole sum : S) → Ok more ≡ priced costs (may_ask_setup j h i q) (against s costs j h i q) → whole ≡ plan_cost s costs j q →
      sum ≡ s.join whole more → Ok sum ≡ priced costs (may_ask_setup j h i q) (plan_cost s costs j (name q h i))
  naming_answered more whole sum asked whole_so joined_so =
      let a = answered (ltb (length costs) 1792) (may_ask_setup j h i q) more _ asked in
      let parts = and_parts (ltb i (setups j h)) (not (named q h)) (and_parts (is_of_job j q) _ a.1).1 in
      let own : i < setups j h = ltb-true i (setups j h) parts.0 in
      let range : (1 ≤ h) × (h ≤ j.heads) = head_range j h (omega arith) in
      let small : i < 255 = omega (arith, setups_few j h) in
      let is : sum ≡ plan_cost s costs j (name q h i) = rw (joined_so, whole_so, a.2) (sym (naming_joins_costs laws costs j q h i long range.0 range.1 small (not-true _ parts.1))) in
      rw (a.0, a.1) (ap Ok is)
