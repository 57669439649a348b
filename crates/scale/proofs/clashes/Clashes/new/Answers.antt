use Rattle.std.proofs.Common.{◌≡◌, true, ◌&&◌, ◌||◌, eqb, leb, Some, None, sym, ap, ◌∙◌, arith}
use Rattle.std.proofs.lemmas.Bool.{cond-true}
use Rattle.std.proofs.lemmas.Bool.Decides.{nat_tests}
use Rattle.scale.specs.ClashesModel.{counted}
use Rattle.scale.specs.ClashesLaws.{counted_same}
use Rattle.scale.proofs.clashes.Clashes.new.Goals as goal

pub returns : goal.returns
returns c =
    let n = c.args.clashes in
    let m = c.args.minutes in
    let either = c.else-clashes-eq-NEVER.either in
    let is : ((leb n 999 && leb m 1000000000) || (eqb n 1000 && eqb m 1000000000)) ≡ true = grind (arith, nat_tests, either) in
    ap Some (sym (counted_same n m _ (omega arith) (omega arith))) ∙ sym (cond-true _ (Some (counted n m)) None is)
