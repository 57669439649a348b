-- Some member, all members and totals: what taking a member out, another order, and another member in one's place do to them. Assumes
-- nothing.
use Rattle.std.proofs.Common.{◌≡◌, ℕ, suc, ◌+◌, ◌*◌, ◌≤◌, ◌≢◌, ◌⊎◌, List, [], ◌∷◌, ◌++◌, map, length, sum_by, sym, refl, ap, ◌∙◌, inl, inr, arith, length-append}
use Rattle.std.specs.List.{flat_map, AllByRecursion as All}
use Rattle.std.proofs.ByRecursion.{All-weaker}
use Rattle.std.proofs.lemmas.List.Sums.{sum_by-cons}
use Rattle.problem.specs.Bags.{Out, here, there, Same, none, one}
use Rattle.link.proofs.Bags.{out_append, same_refl, same_trans, same_append, same_mid}
use Rattle.searches.specs.Members.{Some, total, Replaced, first, later}

module _ {X : Type 0} (P : X → Type 0) where
  -- some member
  pub some_out : {x : X} {xs ys : List X} → Out x xs ys → Some P xs → P x ⊎ Some P ys
  some_out here s = s
  some_out (there o) (inl p) = inr (inl p)
  some_out (there o) (inr s) = elim (some_out o s) [ inl p ↦ inl p | inr t ↦ inr (inr t) ]

  pub some_in : {x : X} {xs ys : List X} → Out x xs ys → P x ⊎ Some P ys → Some P xs
  some_in here s = s
  some_in (there o) (inl p) = inr (some_in o (inl p))
  some_in (there o) (inr (inl p)) = inl p
  some_in (there o) (inr (inr s)) = inr (some_in o (inr s))

  pub some_same : {xs ys : List X} → Same xs ys → Some P xs → Some P ys
  some_same none s = s
  some_same (one o t) (inl p) = some_in o (inl p)
  some_same (one o t) (inr s) = some_in o (inr (some_same t s))

  pub some_left : (xs ys : List X) → Some P xs → Some P (xs ++ ys)
  some_left [] ys s = elim s [ ]
  some_left (x ∷ xs) ys (inl p) = inl p
  some_left (x ∷ xs) ys (inr s) = inr (some_left xs ys s)

  pub some_right : (xs ys : List X) → Some P ys → Some P (xs ++ ys)
  some_right [] ys s = s
  some_right (x ∷ xs) ys s = inr (some_right xs ys s)

  pub some_map : {Y : Type 0} (f : Y → X) (ys : List Y) → Some (λ y. P (f y)) ys → Some P (map f ys)
  some_map f [] s = elim s [ ]
  some_map f (y ∷ ys) (inl p) = inl p
  some_map f (y ∷ ys) (inr s) = inr (some_map f ys s)

  -- all members
  pub all_always : ((x : X) → P x) → (xs : List X) → All P xs
  all_always f [] = tt
  all_always f (x ∷ xs) = (f x, all_always f xs)

  pub all_out : {x : X} {xs ys : List X} → Out x xs ys → All P xs → P x × All P ys
  all_out here a = a
  all_out (there o) a = let r = all_out o a.1 in (r.0, (a.0, r.1))

  pub all_same : {xs ys : List X} → Same xs ys → All P ys → All P xs
  all_same none a = a
  all_same (one o t) a = let r = all_out o a in (r.0, all_same t r.1)

  pub all_of_append : (xs ys : List X) → All P (xs ++ ys) → All P xs × All P ys
  all_of_append [] ys a = (tt, a)
  all_of_append (x ∷ xs) ys a = let r = all_of_append xs ys a.1 in ((a.0, r.0), r.1)

  pub all_both : (Q R : X → Type 0) → ((x : X) → P x → Q x → R x) → (xs : List X) → All P xs → All Q xs → All R xs
  all_both Q R f [] a b = tt
  all_both Q R f (x ∷ xs) a b = (f x a.0 b.0, all_both Q R f xs a.1 b.1)

  module _ (Q : X → Type 0) (weaker : (x : X) → P x → Q x) where
    pub some_weaker : (xs : List X) → Some P xs → Some Q xs
    some_weaker [] s = elim s [ ]
    some_weaker (x ∷ xs) (inl p) = inl (weaker x p)
    some_weaker (x ∷ xs) (inr s) = inr (some_weaker xs s)

    -- with another member in one's place
    module _ {old new : X} where
      pub all_replaced : {xs ys : List X} → Replaced old new xs ys → Q new → All P xs → All Q ys
      all_replaced (first {xs = xs}) q a = (q, All-weaker P Q weaker xs a.1)
      all_replaced (later w) q a = (weaker _ a.0, all_replaced w q a.1)

      pub some_replaced : {R : Type 0} {xs ys : List X} → Replaced old new xs ys → (P old → R ⊎ Q new) → Some P xs → R ⊎ Some Q ys
      some_replaced first g (inl p) = elim (g p) [ inl r ↦ inl r | inr q ↦ inr (inl q) ]
      some_replaced (first {xs = xs}) g (inr a) = inr (inr (some_weaker xs a))
      some_replaced (later w) g (inl p) = inr (inl (weaker _ p))
      some_replaced (later w) g (inr a) = elim (some_replaced w g a) [ inl r ↦ inl r | inr q ↦ inr (inr q) ]

  module _ {old new : X} where
    pub all_at_replaced : {xs ys : List X} → Replaced old new xs ys → All P xs → P old
    all_at_replaced first a = a.0
    all_at_replaced (later w) a = all_at_replaced w a.1

    pub some_at_replaced : {xs ys : List X} → Replaced old new xs ys → P new → Some P ys
    some_at_replaced first q = inl q
    some_at_replaced (later w) q = inr (some_at_replaced w q)

-- members that are all different
module _ {X : Type 0} where
  abbrev pub Distinct : List X → Type 0
  Distinct [] = Unit
  Distinct (x ∷ xs) = All (λ y. y ≢ x) xs × Distinct xs

  pub distinct_out : {x : X} {xs ys : List X} → Out x xs ys → Distinct xs → All (λ y. y ≢ x) ys
  distinct_out here d = d.0
  distinct_out {x} (there o) d = ((λ e. (all_out (λ y. y ≢ _) o d.0).0 (sym e)), distinct_out o d.1)

module _ {X : Type 0} (f : X → ℕ) where
  pub total_out : {x : X} {xs ys : List X} → Out x xs ys → total f xs ≡ f x + total f ys
  total_out here = refl
  total_out (there o) = omega (arith, total_out o)

  pub total_same : {xs ys : List X} → Same xs ys → total f xs ≡ total f ys
  total_same none = refl
  total_same (one o t) = omega (arith, total_out o, total_same t)

  pub total_append : (xs ys : List X) → total f (xs ++ ys) ≡ total f xs + total f ys
  total_append [] ys = omega arith
  total_append (x ∷ xs) ys = omega (arith, total_append xs ys)

  pub total_at_most : (m : ℕ) (xs : List X) → All (λ x. f x ≤ m) xs → total f xs ≤ length xs * m
  total_at_most m [] a = omega arith
  total_at_most m (x ∷ xs) a = omega (arith, a.0, total_at_most m xs a.1)

  pub total_replaced : {old new : X} {xs ys : List X} → Replaced old new xs ys → total f ys + f old ≡ total f xs + f new
  total_replaced first = omega arith
  total_replaced (later w) = omega (arith, total_replaced w)

  -- the shelf's sum is the same total
  pub total_is_sum : (xs : List X) → total f xs ≡ sum_by f xs
  total_is_sum [] = refl
  total_is_sum (x ∷ xs) = omega (arith, sum_by-cons f x xs, total_is_sum xs)

module _ {X : Type 0} {old new : X} where
  pub length_replaced : {xs ys : List X} → Replaced old new xs ys → length xs ≡ length ys
  length_replaced first = refl
  length_replaced (later w) = ap suc (length_replaced w)

  -- what the lists of all members come to, with the replaced member's in front
  pub joined_replaced : {Y : Type 0} (f : X → List Y) {xs ys : List X} → Replaced old new xs ys →
      (others : List Y) × Same (flat_map f xs) (f old ++ others) × Same (flat_map f ys) (f new ++ others)
  joined_replaced f (first {xs = xs}) = (flat_map f xs, same_refl _, same_refl _)
  joined_replaced f (later {x = x} w) =
      let r = joined_replaced f w in
      (f x ++ r.0, same_trans (same_append (same_refl (f x)) r.1) (same_mid (f x) (f old) r.0), same_trans (same_append (same_refl (f x)) r.2) (same_mid (f x) (f new) r.0))

module _ {X Y : Type 0} (f : Y → X) where
  pub out_map : {y : Y} {xs ys : List Y} → Out y xs ys → Out (f y) (map f xs) (map f ys)
  out_map here = here
  out_map (there o) = there (out_map o)

  pub same_map : {xs ys : List Y} → Same xs ys → Same (map f xs) (map f ys)
  same_map none = none
  same_map (one o s) = one (out_map o) (same_map s)

  pub out_of_map : (xs : List Y) {m : X} {zs : List X} → Out m (map f xs) zs → (y : Y) × (ys : List Y) × Out y xs ys × (m ≡ f y)
  out_of_map [] o = elim o [ ]
  out_of_map (x ∷ xs) here = (x, xs, here, refl)
  out_of_map (x ∷ xs) (there o) = let r = out_of_map xs o in (r.0, x ∷ r.1, there r.2, r.3)

module _ {X Y : Type 0} (f : X → List Y) where
  -- what is in the lists of all members together is in one member's, which can be replaced
  pub out_of_joined : {m : Y} (xs : List X) {zs : List Y} → Out m (flat_map f xs) zs →
      (x : X) × (left : List Y) × Out m (f x) left × ((new : X) → (ys : List X) × Replaced x new xs ys)
  out_of_joined [] o = elim o [ ]
  out_of_joined (x ∷ xs) o = elim (out_append (f x) (flat_map f xs) o) [
    | inl l ↦ (x, l.0, l.1, λ new. (new ∷ xs, first))
    | inr r ↦ let k = out_of_joined xs r.1 in (k.0, k.1, k.2, λ new. let w = k.3 new in (x ∷ w.0, later w.1))
  ]

  pub length_joined : (xs : List X) → length (flat_map f xs) ≡ total (λ x. length (f x)) xs
  length_joined [] = refl
  length_joined (x ∷ xs) = length-append (f x) (flat_map f xs) ∙ ap (λ t. length (f x) + t) (length_joined xs)
