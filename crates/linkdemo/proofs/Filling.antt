-- What messages come to that are posted one after the other. Assumes nothing.
use Rattle.std.proofs.Common.{◌≡◌, ℕ, ◌+◌, ◌<◌, List, [], ◌∷◌, ◌++◌, length, get_or, take, sym, ap, ◌∙◌, append_assoc, append-nil, arith, length-append, length-take}
use Rattle.std.proofs.lemmas.List.{take_more}
use Rattle.problem.specs.Bags.{Same}
use Rattle.link.proofs.Bags.{same_refl, same_sym, same_trans, same_append, same_last, same_length}

module _ {M : Type 0} where
  pub posted_none : (bag : List M) → Same (bag ++ []) bag
  posted_none bag = rw (append-nil bag) (same_refl bag)

  -- one message more
  pub posted_more : (bag bag' bag'' ms : List M) (i : ℕ) (m : M) → i < length ms → m ≡ get_or ms i m → Same (bag ++ take i ms) bag' → Same (m ∷ bag') bag'' → Same (bag ++ take (i + 1) ms) bag''
  posted_more bag bag' bag'' ms i m h is before posted =
      let e : take (i + 1) ms ≡ take i ms ++ m ∷ [] = take_more ms i m h ∙ ap (λ x. take i ms ++ x ∷ []) (sym is) in
      rw (e, ← append_assoc bag (take i ms) (m ∷ [])) (same_trans (same_append before (same_refl (m ∷ []))) (same_trans (same_sym (same_last bag' m)) posted))

  -- after messages that all fit, one does not: there are more than fit
  pub too_many : (bag bag' ms : List M) (i limit : ℕ) → i < length ms → Same (bag ++ take i ms) bag' → length bag' ≡ limit → limit < length bag + length ms
  too_many bag bag' ms i limit h before full = omega (arith, same_length before, length-append bag (take i ms), length-take i ms)
