use Rattle.std.proofs.Common.{◌<◌, length, sym, ◌∙◌, arith, rules}
use Rattle.std.proofs.lemmas.List.{get_or_default}
use Rattle.head.specs.Lent.{blank}
use Rattle.head.proofs.Receipts.{search_small, stray_unsound, stray_undue, responds_unsuited, responds_owing, responds_going}
use Rattle.head.proofs.receive.respond.Goals as goal

pub offset_bounds-row-v : goal.offset_bounds-row-v
offset_bounds-row-v g c =
    let h : c.args.message.now.search < length c.args.row.now = omega (arith, search_small c.args.prices.now.job.now c.args.message.now c.requires.addressed) in
    search rules

pub returns-then-not-is_sound : goal.returns-then-not-is_sound
returns-then-not-is_sound g c =
    let out = c.copied-known.ensures ∙ get_or_default c.args.row.now c.args.message.now.search _ (blank g.S.Scale.scale) (omega (arith, search_small c.args.prices.now.job.now c.args.message.now c.requires.addressed)) in
    stray_unsound g.S.Scale.scale c.args.prices.now.job.now c.args.prices.now.costs.now c.args.out c.args.row.now c.args.best.now c.args.message.now _ _ c.copied-known.result out c.requires.addressed (sym c.is_sound.ensures ∙ c.if-not-is_sound.true)

pub returns-then-not-is_due : goal.returns-then-not-is_due
returns-then-not-is_due g c =
    let out = c.copied-known.ensures ∙ get_or_default c.args.row.now c.args.message.now.search _ (blank g.S.Scale.scale) (omega (arith, search_small c.args.prices.now.job.now c.args.message.now c.requires.addressed)) in
    stray_undue g.S.Scale.scale c.args.prices.now.job.now c.args.prices.now.costs.now c.args.out c.args.row.now c.args.best.now c.args.message.now _ _ c.copied-known.result out c.requires.addressed (sym c.is_sound.ensures ∙ c.if-not-is_sound.false) (sym c.is_due.ensures ∙ c.if-not-is_due.true)

pub returns-in-Goes : goal.returns-in-Goes
returns-in-Goes g c =
    let out = c.copied-known.ensures ∙ get_or_default c.args.row.now c.args.message.now.search _ (blank g.S.Scale.scale) (omega (arith, search_small c.args.prices.now.job.now c.args.message.now c.requires.addressed)) in
    responds_going g.S.Scale.scale c.args.prices.now.job.now c.args.prices.now.costs.now c.args.out c.args.row.now c.args.best.now c.args.message.now _ _ c.copied-known.result out c.requires.addressed (sym c.is_sound.ensures ∙ c.if-not-is_sound.false) (sym c.is_due.ensures ∙ c.if-not-is_due.false) _ _ _ c.in-Goes.turn _ c.in-Goes.ensures c.write_back.ensures

pub returns-in-Owes : goal.returns-in-Owes
returns-in-Owes g c =
    let out = c.copied-known.ensures ∙ get_or_default c.args.row.now c.args.message.now.search _ (blank g.S.Scale.scale) (omega (arith, search_small c.args.prices.now.job.now c.args.message.now c.requires.addressed)) in
    responds_owing g.S.Scale.scale c.args.prices.now.job.now c.args.prices.now.costs.now c.args.out c.args.row.now c.args.best.now c.args.message.now _ _ c.copied-known.result out c.requires.addressed (sym c.is_sound.ensures ∙ c.if-not-is_sound.false) (sym c.is_due.ensures ∙ c.if-not-is_due.false) _ _ _ c.in-Owes.ensures

pub returns-in-Unsuited : goal.returns-in-Unsuited
returns-in-Unsuited g c =
    let out = c.copied-known.ensures ∙ get_or_default c.args.row.now c.args.message.now.search _ (blank g.S.Scale.scale) (omega (arith, search_small c.args.prices.now.job.now c.args.message.now c.requires.addressed)) in
    responds_unsuited g.S.Scale.scale c.args.prices.now.job.now c.args.prices.now.costs.now c.args.out c.args.row.now c.args.best.now c.args.message.now _ _ c.copied-known.result out c.requires.addressed (sym c.is_sound.ensures ∙ c.if-not-is_sound.false) (sym c.is_due.ensures ∙ c.if-not-is_due.false) _ _ _ c.in-Unsuited.ensures
