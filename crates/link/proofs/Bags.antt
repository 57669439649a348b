-- Bags: what is taken out of one, what is put in, and that the order is free. Assumes nothing.
use Rattle.std.proofs.Common.{◌≡◌, suc, ◌⊎◌, List, [], ◌∷◌, ◌++◌, length, sym, refl, ap, ◌∙◌, subst, inl, inr, append_assoc, append-nil}
use Rattle.problem.specs.Bags.{Out, here, there, Same, none, one}
use Rattle.problem.proofs.Bags.{out_length}

module _ {X : Type 0} where
  -- two taken out, in the other order
  pub out_swap : {a b : X} {xs ys zs : List X} → Out a xs ys → Out b ys zs → (us : List X) × Out b xs us × Out a us zs
  out_swap here o = (_, there o, here)
  out_swap (there o) here = (_, here, o)
  out_swap (there {x = x} o) (there p) = let r = out_swap o p in (x ∷ r.0, there r.1, there r.2)

  pub out_left : {m : X} {xs ys : List X} (zs : List X) → Out m xs ys → Out m (xs ++ zs) (ys ++ zs)
  out_left zs here = here
  out_left zs (there o) = there (out_left zs o)

  pub out_right : {m : X} {ys zs : List X} (xs : List X) → Out m ys zs → Out m (xs ++ ys) (xs ++ zs)
  out_right [] o = o
  out_right (x ∷ xs) o = there (out_right xs o)

  -- what is taken out of two lists together is taken out of one of them
  pub out_append : {m : X} (xs ys : List X) {zs : List X} → Out m (xs ++ ys) zs →
      ((l : List X) × Out m xs l × (zs ≡ l ++ ys)) ⊎ ((r : List X) × Out m ys r × (zs ≡ xs ++ r))
  out_append [] ys {zs} o = inr (zs, o, refl)
  out_append (x ∷ xs) ys here = inl (xs, here, refl)
  out_append (x ∷ xs) ys (there o) = elim (out_append xs ys o) [
    | inl l ↦ inl (x ∷ l.0, there l.1, ap (λ t. x ∷ t) l.2)
    | inr r ↦ inr (r.0, r.1, ap (λ t. x ∷ t) r.2)
  ]

  pub out_last : (xs : List X) (m : X) → Out m (xs ++ m ∷ []) xs
  out_last xs m = subst (Out m (xs ++ m ∷ [])) (append-nil xs) (out_right xs here)

  pub same_refl : (xs : List X) → Same xs xs
  same_refl [] = none
  same_refl (x ∷ xs) = one here (same_refl xs)

  -- what is taken out of a bag is taken out of it in any order
  pub same_out : {m : X} {bag xs rest : List X} → Same bag xs → Out m bag rest → (ys : List X) × Out m xs ys × Same rest ys
  same_out none o = elim o [ ]
  same_out (one o s) here = (_, o, s)
  same_out (one o s) (there p) =
      let r = same_out s p in
      let q = out_swap o r.1 in
      (q.0, q.1, one q.2 r.2)

  pub same_in : {m : X} {xs xs' ys ys' : List X} → Out m xs' xs → Out m ys' ys → Same xs ys → Same xs' ys'
  same_in here p s = one p s
  same_in (there o) p (one q s) = let r = out_swap p q in one r.1 (same_in o r.2 s)

  pub same_sym : {xs ys : List X} → Same xs ys → Same ys xs
  same_sym none = none
  same_sym (one o s) = same_in o here (same_sym s)

  pub same_trans : {xs ys zs : List X} → Same xs ys → Same ys zs → Same xs zs
  same_trans none t = t
  same_trans (one o s) t = let r = same_out t o in one r.1 (same_trans s r.2)

  pub same_append : {xs ys us vs : List X} → Same xs ys → Same us vs → Same (xs ++ us) (ys ++ vs)
  same_append none t = t
  same_append {vs = vs} (one o s) t = one (out_left vs o) (same_append s t)

  pub same_length : {xs ys : List X} → Same xs ys → length xs ≡ length ys
  same_length none = refl
  same_length (one o s) = ap suc (same_length s) ∙ sym (out_length o)

  pub same_nil : {xs : List X} → Same [] xs → xs ≡ []
  same_nil none = refl

  pub same_last : (xs : List X) (m : X) → Same (m ∷ xs) (xs ++ m ∷ [])
  same_last xs m = one (out_last xs m) (same_refl xs)

  pub same_comm : (xs ys : List X) → Same (xs ++ ys) (ys ++ xs)
  same_comm [] ys = rw append-nil (same_refl ys)
  same_comm (x ∷ xs) ys = one (out_right ys here) (same_comm xs ys)

  pub same_mid : (xs ys zs : List X) → Same (xs ++ (ys ++ zs)) (ys ++ (xs ++ zs))
  same_mid xs ys zs = rw (← append_assoc xs ys zs, ← append_assoc ys xs zs) (same_append (same_comm xs ys) (same_refl zs))

  -- the same member taken out at two places; over two names for it, since a match of both at one name is refused
  pub out_both : {m k : X} {xs ys zs : List X} → m ≡ k → Out m xs ys → Out k xs zs → Same ys zs
  out_both e here here = same_refl _
  out_both e here (there {ys = ys} p) = same_sym (rw (sym e) at (one p (same_refl ys)))
  out_both e (there {ys = ys} o) here = rw e at (one o (same_refl ys))
  out_both e (there o) (there p) = one here (out_both e o p)

  -- one member taken out of both
  pub same_cancel : {m : X} {bag rest xs ys : List X} → Same bag xs → Out m bag rest → Out m xs ys → Same rest ys
  same_cancel t o p = let r = same_out t o in same_trans r.2 (out_both refl r.1 p)
