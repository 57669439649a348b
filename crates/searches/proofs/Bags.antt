-- Bags in blocks: blocks in another order, a block taken out of both of two bags, and what comes to wait of messages by their kind.
-- Assumes nothing.
use Rattle.std.proofs.Common.{◌≡◌, ℕ, ◌+◌, ◌≤◌, Bool, true, false, List, [], ◌∷◌, ◌++◌, length, filter, refl, ap, ◌∙◌, inl, inr, append_assoc, append-nil, arith}
use mathlib.Core.List.{cons≢nil}
use Rattle.std.specs.List.{flat_map, AllByRecursion as All}
use Rattle.std.proofs.ByRecursion.{all_kept_by, kept_by_passes}
use Rattle.std.proofs.lemmas.Bool.{cases_Bool, cases_lt, cond-true, cond-false}
use Rattle.problem.specs.Bags.{Out, here, there, Same, none, one}
use Rattle.link.specs.declared.message.Message.{Message}
use Rattle.link.specs.Messages.{is_notice}
use Rattle.link.specs.Posting.{room, accepted}
use Rattle.link.specs.Fitting.{notices_of}
use Rattle.link.proofs.Bags.{same_refl, same_sym, same_trans, same_append, same_mid, same_cancel}
use Rattle.link.proofs.Posting.{accepted_none, accepted_comes, accepted_fails}
use Rattle.link.proofs.Fitting.{notices_more, notices_same}
use Rattle.searches.proofs.Members.{all_both}

module _ {X : Type 0} where
  block_out : {b : List X} {bs cs : List (List X)} → Out b bs cs → Same (flat_map (λ x. x) bs) (b ++ flat_map (λ x. x) cs)
  block_out here = same_refl _
  block_out {b} (there {x = c} {ys = cs} o) = same_trans (same_append (same_refl c) (block_out o)) (same_mid c b (flat_map (λ x. x) cs))

  pub same_blocks : {bs cs : List (List X)} → Same bs cs → Same (flat_map (λ x. x) bs) (flat_map (λ x. x) cs)
  same_blocks none = none
  same_blocks (one {m = m} o s) = same_trans (same_append (same_refl m) (same_blocks s)) (same_sym (block_out o))

  -- what waits after a step, sorted by what it is: k and o stayed of the search and of the others, n are the notices, p and w were
  -- posted, and a are the notices that were
  pub sorted_after_step : (k o n p w a : List X) → Same ((k ++ (o ++ n)) ++ ((p ++ w) ++ a)) (((p ++ k) ++ o) ++ ((a ++ n) ++ w))
  sorted_after_step k o n p w a =
      let t : Same (k ∷ o ∷ n ∷ p ∷ w ∷ a ∷ []) (p ∷ k ∷ o ∷ a ∷ n ∷ w ∷ []) =
      one (there here) (one (there here) (one (there (there here)) (one here (one (there here) (one here none))))) in
      let b : Same (k ++ (o ++ (n ++ (p ++ (w ++ (a ++ [])))))) (p ++ (k ++ (o ++ (a ++ (n ++ (w ++ [])))))) = same_blocks t in
      simp append_assoc (simp append-nil at b)

  pub same_cancel_block : (t : List X) {xs ys : List X} → Same (t ++ xs) (t ++ ys) → Same xs ys
  same_cancel_block [] s = s
  same_cancel_block (x ∷ t) s = same_cancel_block t (same_cancel s here here)

  pub append_empty : (xs ys : List X) → xs ++ ys ≡ [] → (xs ≡ []) × (ys ≡ [])
  append_empty [] ys e = (refl, e)
  append_empty (x ∷ xs) ys e = absurd (cons≢nil e)

  pub out_of_empty : {x : X} {xs ys : List X} → Out x xs ys → xs ≡ [] → ⊥
  out_of_empty here e = cons≢nil e
  out_of_empty (there o) e = cons≢nil e

  -- all members pass a test, or none does
  module _ (p : X → Bool) where
    pub kept_all : (xs : List X) → All (λ x. p x ≡ true) xs → filter p xs ≡ xs
    kept_all [] a = refl
    kept_all (x ∷ xs) a = cond-true _ _ _ a.0 ∙ ap (λ t. x ∷ t) (kept_all xs a.1)

    pub kept_none : (xs : List X) → All (λ x. p x ≡ false) xs → filter p xs ≡ []
    kept_none [] a = refl
    kept_none (x ∷ xs) a = cond-false _ _ _ a.0 ∙ kept_none xs a.1

module _ {S : Type 0} (limit : ℕ) where
  -- what comes to wait is some of what is sent
  pub accepted_all : (P : Message S → Type 0) (w : ℕ) (ms : List (Message S)) → All P ms → All P (accepted limit w ms)
  accepted_all P w [] a = rw (accepted_none S limit w) tt
  accepted_all P w (m ∷ ms) a = elim (cases_lt w (room limit m)) [
    | inl lt ↦ rw (accepted_comes limit w m ms lt) (a.0, accepted_all P (w + 1) ms a.1)
    | inr ge ↦ rw (accepted_fails limit w m ms ge) (accepted_all P w ms a.1)
  ]

  pub accepted_notices : (P : Message S → Type 0) (w : ℕ) (ms : List (Message S)) → All (λ m. is_notice m.kind ≡ true → P m) ms → All P (notices_of (accepted limit w ms))
  accepted_notices P w ms a =
      all_both (λ m. is_notice m.kind ≡ true → P m) (λ m. is_notice m.kind ≡ true) P (λ m f e. f e) (notices_of (accepted limit w ms))
      (all_kept_by (λ m. is_notice m.kind) _ (accepted limit w ms) (accepted_all _ w ms a))
      (kept_by_passes (λ m. is_notice m.kind) (accepted limit w ms))

  pub accepted_notices_few : (w : ℕ) (ms : List (Message S)) → length (notices_of (accepted limit w ms)) ≤ length (notices_of ms)
  accepted_notices_few w [] = rw (accepted_none S limit w) (omega arith)
  accepted_notices_few w (m ∷ ms) = elim (cases_Bool (is_notice m.kind)) [
    | inl n ↦ elim (cases_lt w (room limit m)) [
      | inl lt ↦ rw (accepted_comes limit w m ms lt, notices_more m (accepted limit (w + 1) ms) n, notices_more m ms n) (omega (arith, accepted_notices_few (w + 1) ms))
      | inr ge ↦ rw (accepted_fails limit w m ms ge, notices_more m ms n) (omega (arith, accepted_notices_few w ms))
    ]
    | inr n ↦ elim (cases_lt w (room limit m)) [
      | inl lt ↦ rw (accepted_comes limit w m ms lt, notices_same m (accepted limit (w + 1) ms) n, notices_same m ms n) (accepted_notices_few (w + 1) ms)
      | inr ge ↦ rw (accepted_fails limit w m ms ge, notices_same m ms n) (accepted_notices_few w ms)
    ]
  ]
