use Rattle.std.proofs.Common.{◌≡◌, ℕ, refl, ap, ◌∙◌, arith, rules}
use Rattle.link.specs.declared.message.Kind.TheVariants.{Report, Plan as PlanMessage, Return, Notice, Stop}
use Rattle.head.specs.declared.best.Best.{Best}
use Rattle.head.specs.declared.record.State.{State}
use Rattle.head.specs.declared.record.State.TheVariants.{Resting, Gathering, Below}
use Rattle.head.specs.Bests.{adopted}
use Rattle.head.specs.Strays.{expects}
use Rattle.head.specs.Readiness.{owing}
use Rattle.head.proofs.Replying.{notices_so, stops_so, chooses_going, chooses_none, expects_request, expects_notice, expects_stop}
use Rattle.head.proofs.respond.act.Goals.{in-Report+in-Resting-1, in-Report+in-Below-1, in-Plan+in-Gathering-1, in-Plan+in-Below-1, in-Return+in-Resting-1, in-Return+in-Gathering-1}
use Rattle.head.proofs.respond.act.Goals as goal

pub returns-in_default-Request : goal.returns-in_default-Request
returns-in_default-Request g c = owing c.in_default-Request.is-1 (ap (expects c.args.known.now.state) c.in_default-Request.is-1 ∙ expects_request c.args.known.now.state) refl refl refl

pub returns-in-Gathering-Report : goal.returns-in-Gathering-Report
returns-in-Gathering-Report g c =
    chooses_going g.S.Scale.scale c.args.prices.now.job.now c.args.prices.now.costs.now c.args.known.now c.args.message.now c.args.best.now _ _ _ _ _ Report c.hear.result c.in-Gathering-Report.is-1 (λ e. let z : ◌≡◌ {A = ℕ} 0 1 = cc in omega arith)
    (ap (λ (st : State). expects st Report) c.in-Gathering-Report.is-0) c.hear.ensures

pub returns-in-Resting-Plan : goal.returns-in-Resting-Plan
returns-in-Resting-Plan g c =
    chooses_going g.S.Scale.scale c.args.prices.now.job.now c.args.prices.now.costs.now c.args.known.now c.args.message.now c.args.best.now _ _ _ _ _ PlanMessage c.begin.result c.in-Resting-Plan.is-1 (λ e. let z : ◌≡◌ {A = ℕ} 0 1 = cc in omega arith)
    (ap (λ (st : State). expects st PlanMessage) c.in-Resting-Plan.is-0) c.begin.ensures

pub returns-in-Below-Return : goal.returns-in-Below-Return
returns-in-Below-Return g c =
    chooses_going g.S.Scale.scale c.args.prices.now.job.now c.args.prices.now.costs.now c.args.known.now c.args.message.now c.args.best.now _ _ _ _ _ Return c.resume.result c.in-Below-Return.is-1 (λ e. let z : ◌≡◌ {A = ℕ} 0 1 = cc in omega arith)
    (ap (λ (st : State). expects st Return) c.in-Below-Return.is-0) c.resume.ensures

pub returns-in_default-Notice : goal.returns-in_default-Notice
returns-in_default-Notice g c =
    chooses_going g.S.Scale.scale c.args.prices.now.job.now c.args.prices.now.costs.now c.args.known.now c.args.message.now c.args.best.now _ _ _ _ _ Notice c.quiet.result c.in_default-Notice.is-1 (λ e. let z : ◌≡◌ {A = ℕ} 0 1 = cc in omega arith) (expects_notice c.args.known.now.state)
    (notices_so g.S.Scale.scale c.args.prices.now.job.now c.args.prices.now.costs.now c.args.known.now c.args.message.now c.args.best.now c.adopted.result c.quiet.result _ _
    (c.adopted.ensures ∙ ap (λ (b : Best _). adopted g.S.Scale.scale b c.args.best.now) c.carried_by.ensures) c.quiet.ensures)

pub returns-in_default-Stop : goal.returns-in_default-Stop
returns-in_default-Stop g c =
    chooses_going g.S.Scale.scale c.args.prices.now.job.now c.args.prices.now.costs.now c.args.known.now c.args.message.now c.args.best.now _ _ _ _ _ Stop c.quiet-in_default-Stop.result c.in_default-Stop.is-1 (λ e. let z : ◌≡◌ {A = ℕ} 0 1 = cc in omega arith) (expects_stop c.args.known.now.state)
    (stops_so g.S.Scale.scale c.args.prices.now.job.now c.args.prices.now.costs.now c.args.known.now c.args.message.now c.args.best.now c.carried_by-in_default-Stop.result c.quiet-in_default-Stop.result _ _ c.carried_by-in_default-Stop.ensures c.quiet-in_default-Stop.ensures)

pub returns-in-Resting-Report : goal.returns-in-Resting-Report
returns-in-Resting-Report g c =
    let none = chooses_none g.S.Scale.scale c.args.prices.now.job.now c.args.prices.now.costs.now c.args.known.now c.args.message.now c.args.best.now _ _ _ _ _ in
    elim c.in-Resting-Report-1.branch [
      | in-Report+in-Resting-1 w ↦ none Resting Report (search rules) (search rules) refl refl refl refl
      | in-Report+in-Below-1 w ↦ none Below Report (search rules) (search rules) refl refl refl refl
      | in-Plan+in-Gathering-1 w ↦ none Gathering PlanMessage (search rules) (search rules) refl refl refl refl
      | in-Plan+in-Below-1 w ↦ none Below PlanMessage (search rules) (search rules) refl refl refl refl
      | in-Return+in-Resting-1 w ↦ none Resting Return (search rules) (search rules) refl refl refl refl
      | in-Return+in-Gathering-1 w ↦ none Gathering Return (search rules) (search rules) refl refl refl refl
    ]
