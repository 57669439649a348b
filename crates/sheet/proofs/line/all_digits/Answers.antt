use Rattle.std.proofs.Common.{◌≡◌, Bool, List, [], ◌∷◌, ◌&&◌, refl, ap, ◌∙◌, rules}
use Rattle.std.specs.List.{list_all}
use Rattle.std.proofs.lemmas.Iterator.{YieldsList-from_slice}
use Rattle.std.proofs.lemmas.Iterator.Search.{all_from_yields_List}
use Rattle.job.specs.Lists.{every}
use Rattle.sheet.specs.Hex.{is_digit}
use Rattle.sheet.proofs.line.all_digits.Goals as goal

all_every : {X : Type 0} (p : X → Bool) (xs : List X) → list_all p xs ≡ every p xs
unfolding every
all_every p [] = refl
all_every p (x ∷ xs) = ap (λ b. p x && b) (all_every p xs)

pub returns : goal.returns
returns c =
    let digits = c.args.digits.now in
    all_from_yields_List is_digit _ _ c.all.result c.all.ensures.ran (YieldsList-from_slice digits cc) (λ x b q k. search rules) ∙ all_every is_digit digits
