-- What holds on every scale: reading is the inverse of writing, and never joined with anything is never. Assumes nothing.
use Rattle.std.specs.Prelude.{◌≡◌, ℕ, true, List, Some, None}
use Rattle.std.proofs.Common.{sym, ap, subst, ◌∙◌}
use Rattle.std.specs.Str.{bytes_eq}
use Rattle.std.proofs.lemmas.Slice.Eq.{bytes_eq-Decides}
use Rattle.std.proofs.lemmas.Bool.{cond-true}
use Rattle.scale.specs.Operations.{Operations, AtMost, Laws}
use Rattle.scale.specs.Coding.{Coding, reading}

module _ {S : Type 0} (c : Coding S) (back : (x : S) → c.value (c.bytes x) ≡ x) where
  pub reads : (x : S) (bs : List ℕ) → c.bytes x ≡ bs → Some x ≡ reading c bs
  reads x bs e =
      let v : c.value bs ≡ x = ap c.value (sym e) ∙ back x in
      let same : bytes_eq (c.bytes (c.value bs)) bs ≡ true = (bytes_eq-Decides _ bs).1 (ap c.bytes v ∙ e) in
      sym (cond-true _ (Some (c.value bs)) None same ∙ ap Some v)

pub never_joined : {S : Type 0} {s : Operations S} → Laws s → (x : S) → s.join s.never x ≡ s.never
never_joined {S} {s} laws x =
    let up : AtMost s s.never (s.join s.never x) = rw (laws.commutative s.never x) (subst (λ t. AtMost s t (s.join x s.never)) (laws.neutral s.never) (laws.monotone s.nothing x s.never (laws.least x))) in
    laws.antisymmetric _ _ (laws.greatest _) up
