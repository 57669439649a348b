use Rattle.std.proofs.Common.{Some, None, sym, ap, ◌∙◌, arith}
use Rattle.std.proofs.lemmas.Bool.{cond-true, le-leb}
use Rattle.scale.specs.MinutesModel.{minutes_same, capped}
use Rattle.scale.proofs.minutes.Minutes.new.Goals as goal

pub returns : goal.returns
returns c = ap Some (minutes_same _ _ (omega arith)) ∙ sym (cond-true _ (Some (capped c.args.value)) None (le-leb _ _ (omega arith)))
