-- Only at head 1 does a search come home. Assumes nothing.
use Rattle.std.proofs.Common.{◌≡◌, ℕ, true, List, [], ◌∷◌, sym, ap, ◌∙◌, inl, inr}
use mathlib.Core.Bool.{false≢true}
use Rattle.std.proofs.lemmas.Bool.{cases_Bool, cond-true, cond-false, eqb-true}
use Rattle.scale.specs.Operations.{Operations}
use Rattle.job.specs.declared.job.Job.{Job}
use Rattle.job.specs.Plans.{is_complete}
use Rattle.link.specs.declared.message.Kind.{Kind}
use Rattle.link.specs.declared.message.Kind.TheVariants.{Request, Report, Plan as PlanMessage, Return, Notice, Stop}
use Rattle.link.specs.declared.message.Message.{Message}
use Rattle.head.specs.declared.best.Best.{Best}
use Rattle.head.specs.declared.record.Record.{Record}
use Rattle.head.specs.Bests.{hopeless}
use Rattle.head.specs.Searching.{Searched, Task, trial_plan, trial_cost, trying}
use Rattle.head.specs.Replies.{Reply, is_last, at_least, reply}
use Rattle.head.specs.SetupSets.{SetupSet}

module _ {S : Type 0} (s : Operations S) (j : Job) (costs : List S) where
  module _ (h v : ℕ) (t : Task S) where
    trying_home : (is : List ℕ) (left : SetupSet) (b : Best S) → (trying s j costs h v t is left b).home ≡ true → h ≡ 1
    unfolding trying
    trying_home [] left b e = eqb-true h 1 e
    trying_home (i ∷ is) left b e = elim (cases_Bool (hopeless s b (trial_cost s j costs h v t i))) [
      | inl y ↦ trying_home is _ _ (sym (ap (λ (x : Searched S). x.home) (cond-true _ _ _ y)) ∙ e)
      | inr n ↦ elim (cases_Bool (is_complete j (trial_plan s j costs h v t i))) [
        | inl f ↦ trying_home is _ _ (sym (ap (λ (x : Searched S). x.home) (cond-false _ _ _ n ∙ cond-true _ _ _ f)) ∙ e)
        | inr u ↦ absurd (false≢true (sym (ap (λ (x : Searched S). x.home) (cond-false _ _ _ n ∙ cond-false _ _ _ u)) ∙ e))
      ]
    ]

  pub home_at_one : (picked : ℕ) (r : Record S) (m : Message S) (b : Best S) (k : Kind) → (reply s j costs picked r m b k).home ≡ true → m.to ≡ 1
  home_at_one picked r m b Request e = absurd (false≢true e)
  home_at_one picked r m b Report e = elim (cases_Bool (is_last s j costs r m)) [
    | inl y ↦ elim (cases_Bool (hopeless s b (at_least s j costs r m))) [
      | inl z ↦ trying_home m.to m.search _ _ _ _ (sym (ap (λ (x : Reply S). x.home) (cond-true _ _ _ y ∙ cond-true _ _ _ z)) ∙ e)
      | inr z ↦ absurd (false≢true (sym (ap (λ (x : Reply S). x.home) (cond-true _ _ _ y ∙ cond-false _ _ _ z)) ∙ e))
    ]
    | inr n ↦ absurd (false≢true (sym (ap (λ (x : Reply S). x.home) (cond-false _ _ _ n)) ∙ e))
  ]
  home_at_one picked r m b PlanMessage e = trying_home m.to m.search _ _ _ _ e
  home_at_one picked r m b Return e = trying_home m.to m.search _ _ _ _ e
  home_at_one picked r m b Notice e = absurd (false≢true e)
  home_at_one picked r m b Stop e = absurd (false≢true e)
