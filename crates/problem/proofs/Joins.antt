-- Joins: the laws of a scale carried over to joins over lists and over pairs of lists, in any order, and to the least of a
-- list. Assumes nothing.
use Rattle.std.proofs.Common.{◌≡◌, ℕ, List, [], ◌∷◌, ◌++◌, map, sym, refl, ap, ◌∙◌, subst, ap₂, inl, inr}
use Rattle.std.proofs.lemmas.Bool.{cases_Bool, cond-true, cond-false}
use Rattle.std.proofs.ByRecursion.{All-weaker}
use Rattle.std.specs.List.{fold, AllByRecursion as All}
use Rattle.scale.specs.Operations.{Operations, Laws, AtMost}
use Rattle.problem.specs.Bags.{Out, here, there, Same, none, one}
use Rattle.problem.specs.Costs.{joined, joined_pairs, lesser, least}

-- functions that agree on the members
module _ {S X : Type 0} (s : Operations S) where
  pub joined_like : (f g : X → S) (xs : List X) → All (λ x. f x ≡ g x) xs → joined s f xs ≡ joined s g xs
  unfolding joined
  joined_like f g [] h = refl
  joined_like f g (x ∷ xs) h = ap₂ s.join h.0 (joined_like f g xs h.1)

  pub joined_pairs_like : (P : X → Type 0) (f g : X → X → S) → ((a b : X) → P a → P b → f a b ≡ g a b) → (xs : List X) → All P xs → joined_pairs s f xs ≡ joined_pairs s g xs
  unfolding joined_pairs
  joined_pairs_like P f g like [] h = refl
  joined_pairs_like P f g like (x ∷ xs) h =
      ap₂ s.join (joined_like (f x) (g x) xs (All-weaker P (λ b. f x b ≡ g x b) (λ b. like x b h.0) xs h.1)) (joined_pairs_like P f g like xs h.1)

module _ {S : Type 0} {s : Operations S} (laws : Laws s) where
  pub at_most_itself : (x : S) → AtMost s x x
  at_most_itself x = elim (cases_Bool (s.leq x x)) [ inl e ↦ e | inr e ↦ laws.total x x e ]

  pub neutral_right : (x : S) → s.join x s.nothing ≡ x
  neutral_right x = laws.commutative x s.nothing ∙ laws.neutral x

  pub left_commutative : (x y z : S) → s.join x (s.join y z) ≡ s.join y (s.join x z)
  left_commutative x y z = sym (laws.associative x y z) ∙ ap (λ t. s.join t z) (laws.commutative x y) ∙ laws.associative y x z

  join_across : (a b c d : S) → s.join (s.join a b) (s.join c d) ≡ s.join (s.join a c) (s.join b d)
  join_across a b c d = simp (laws.associative, left_commutative)

  pub monotone_right : (x y z : S) → AtMost s x y → AtMost s (s.join z x) (s.join z y)
  monotone_right x y z h = rw (laws.commutative z x, laws.commutative z y) (laws.monotone x y z h)

  pub monotone_both : {x y u v : S} → AtMost s x y → AtMost s u v → AtMost s (s.join x u) (s.join y v)
  monotone_both {x} {y} {u} {v} h k = laws.transitive _ _ _ (laws.monotone x y u h) (monotone_right u v y k)

  pub at_most_join : (x y : S) → AtMost s y (s.join x y)
  at_most_join x y = subst (λ t. AtMost s t (s.join x y)) (laws.neutral y) (laws.monotone s.nothing x y (laws.least x))

  module _ {X : Type 0} where
    pub joined_out : (f : X → S) {m : X} {xs ys : List X} → Out m xs ys → joined s f xs ≡ s.join (f m) (joined s f ys)
    unfolding joined
    joined_out f here = refl
    joined_out f {m} (there {x = x} {ys = ys} o) = ap (s.join (f x)) (joined_out f o) ∙ left_commutative (f x) (f m) (joined s f ys)

    pub joined_same : (f : X → S) {xs ys : List X} → Same xs ys → joined s f xs ≡ joined s f ys
    unfolding joined
    joined_same f none = refl
    joined_same f (one {m = m} o t) = ap (s.join (f m)) (joined_same f t) ∙ sym (joined_out f o)

    pub joined_append : (f : X → S) (xs ys : List X) → joined s f (xs ++ ys) ≡ s.join (joined s f xs) (joined s f ys)
    unfolding joined
    joined_append f [] ys = sym (laws.neutral (joined s f ys))
    joined_append f (x ∷ xs) ys = ap (s.join (f x)) (joined_append f xs ys) ∙ sym (laws.associative (f x) (joined s f xs) (joined s f ys))

    pub joined_at_most : (f g : X → S) (xs : List X) → All (λ x. AtMost s (f x) (g x)) xs → AtMost s (joined s f xs) (joined s g xs)
    unfolding joined
    joined_at_most f g [] h = at_most_itself s.nothing
    joined_at_most f g (x ∷ xs) h = monotone_both h.0 (joined_at_most f g xs h.1)

    -- what the members us bring to the pairs of qs, at least
    pub joined_pairs_grow : (f : X → X → S) (us qs : List X) → AtMost s (s.join (joined_pairs s f qs) (joined s (λ u. joined s (f u) qs) us)) (joined_pairs s f (us ++ qs))
    unfolding joined joined_pairs
    joined_pairs_grow f [] qs = rw neutral_right (at_most_itself (joined_pairs s f qs))
    joined_pairs_grow f (u ∷ us) qs =
        let first : AtMost s (joined s (f u) qs) (joined s (f u) (us ++ qs)) = rw joined_append (at_most_join _ _) in
        rw left_commutative (monotone_both first (joined_pairs_grow f us qs))

    module _ (f : X → X → S) (symmetric : (a b : X) → f a b ≡ f b a) where
      pub joined_pairs_out : {m : X} {xs ys : List X} → Out m xs ys → joined_pairs s f xs ≡ s.join (joined s (f m) ys) (joined_pairs s f ys)
      unfolding joined joined_pairs
      joined_pairs_out here = refl
      joined_pairs_out {m} (there {x = x} {ys = ys} o) =
          ap₂ s.join (joined_out (f x) o ∙ ap (λ t. s.join t (joined s (f x) ys)) (symmetric x m)) (joined_pairs_out o)
          ∙ join_across (f m x) (joined s (f x) ys) (joined s (f m) ys) (joined_pairs s f ys)

      pub joined_pairs_same : {xs ys : List X} → Same xs ys → joined_pairs s f xs ≡ joined_pairs s f ys
      unfolding joined_pairs
      joined_pairs_same none = refl
      joined_pairs_same (one {m = m} o t) = ap₂ s.join (joined_same (f m) t) (joined_pairs_same t) ∙ sym (joined_pairs_out o)

  lesser_left : (x y : S) → AtMost s (lesser s x y) x
  lesser_left x y = elim (cases_Bool (s.leq x y)) [
    | inl e ↦ rw e (at_most_itself x)
    | inr e ↦ rw e (laws.total x y e)
  ]

  lesser_right : (x y : S) → AtMost s (lesser s x y) y
  lesser_right x y = elim (cases_Bool (s.leq x y)) [
    | inl e ↦ rw e e
    | inr e ↦ rw e (at_most_itself y)
  ]

  pub lesser_greatest : (w x y : S) → AtMost s w x → AtMost s w y → AtMost s w (lesser s x y)
  lesser_greatest w x y h k = elim (cases_Bool (s.leq x y)) [ inl e ↦ rw e h | inr e ↦ rw e k ]

  -- the lesser of three, whichever two are compared first
  pub lesser_associative : (x y z : S) → lesser s (lesser s x y) z ≡ lesser s x (lesser s y z)
  lesser_associative x y z =
      let first : AtMost s (lesser s (lesser s x y) z) (lesser s x y) = lesser_left (lesser s x y) z in
      let rest : AtMost s (lesser s x (lesser s y z)) (lesser s y z) = lesser_right x (lesser s y z) in
      laws.antisymmetric _ _
      (lesser_greatest _ x _ (laws.transitive _ _ _ first (lesser_left x y)) (lesser_greatest _ y z (laws.transitive _ _ _ first (lesser_right x y)) (lesser_right (lesser s x y) z)))
      (lesser_greatest _ _ z (lesser_greatest _ x y (lesser_left x (lesser s y z)) (laws.transitive _ _ _ rest (lesser_left y z))) (laws.transitive _ _ _ rest (lesser_right y z)))

  pub lesser_never_left : (x : S) → lesser s s.never x ≡ x
  lesser_never_left x = elim (cases_Bool (s.leq s.never x)) [
    | inl e ↦ cond-true _ _ _ e ∙ laws.antisymmetric _ _ e (laws.greatest x)
    | inr e ↦ cond-false _ _ _ e
  ]

  pub lesser_never_right : (x : S) → lesser s x s.never ≡ x
  lesser_never_right x = cond-true _ _ _ (laws.greatest x)

  -- the least, by a fold from the front
  least_folded_from : (f : ℕ → S) (x : S) (xs : List ℕ) → fold (lesser s) x (map f xs) ≡ lesser s x (least s f xs)
  unfolding least
  least_folded_from f x [] = sym (lesser_never_right x)
  least_folded_from f x (z ∷ xs) = least_folded_from f (lesser s x (f z)) xs ∙ lesser_associative x (f z) (least s f xs)

  pub least_folded : (f : ℕ → S) (xs : List ℕ) → fold (lesser s) s.never (map f xs) ≡ least s f xs
  least_folded f xs = least_folded_from f s.never xs ∙ lesser_never_left (least s f xs)

  -- the least is at most what each member has
  pub least_at_most : (f : ℕ → S) {m : ℕ} {xs ys : List ℕ} → Out m xs ys → AtMost s (least s f xs) (f m)
  unfolding least
  least_at_most f {m} (here {xs = xs}) = lesser_left (f m) (least s f xs)
  least_at_most f (there {x = x} {xs = xs} o) = laws.transitive _ _ _ (lesser_right (f x) (least s f xs)) (least_at_most f o)
