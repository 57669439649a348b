-- What comes to wait of messages that are sent one after the other, and what all of them come to together. Assumes nothing.
use Rattle.std.proofs.Common.{◌≡◌, ℕ, suc, ◌+◌, ◌-◌, ◌<◌, ◌≤◌, Bool, true, false, ◌||◌, ◌⊎◌, List, [], ◌∷◌, ◌++◌, length, Ok, Err, Result, sym, refl, ap, ◌∙◌, inl, inr, append_assoc, append-nil, add-zero, arith, length-append}
use Rattle.std.proofs.lemmas.Bool.{cases_Bool, cases_lt, cond-true, cond-false, lt-ltb, le-ltb}
use Rattle.job.specs.declared.refusal.Refusal.{Refusal}
use Rattle.link.specs.declared.message.Message.{Message}
use Rattle.link.specs.Messages.{is_notice}
use Rattle.link.specs.Links.{Posted}
use Rattle.link.specs.Posting.{margin, room, accepted, loses, Sent, Sends}
use Rattle.link.proofs.Bags.{same_refl, same_trans, same_sym, same_append, same_length, same_last}

pub accepted_none : (S : Type 0) (limit w : ℕ) → accepted {S = S} limit w [] ≡ []
unfolding accepted
accepted_none S limit w = refl

pub loses_none : (S : Type 0) (limit w : ℕ) → loses {S = S} limit w [] ≡ false
unfolding loses
loses_none S limit w = refl

module _ {S : Type 0} (limit : ℕ) where
  -- one message more comes to wait, or does not
  module _ (w : ℕ) (m : Message S) (ms : List (Message S)) where
    pub accepted_comes : w < room limit m → accepted limit w (m ∷ ms) ≡ m ∷ accepted limit (w + 1) ms
    unfolding accepted
    accepted_comes h = cond-true _ _ _ (lt-ltb w (room limit m) h)

    pub accepted_fails : room limit m ≤ w → accepted limit w (m ∷ ms) ≡ accepted limit w ms
    unfolding accepted
    accepted_fails h = cond-false _ _ _ (le-ltb w (room limit m) h)

    pub loses_comes : w < room limit m → loses limit w (m ∷ ms) ≡ loses limit (w + 1) ms
    unfolding loses
    loses_comes h = cond-true _ _ _ (lt-ltb w (room limit m) h)

    pub loses_dropped : room limit m ≤ w → is_notice m.kind ≡ true → loses limit w (m ∷ ms) ≡ loses limit w ms
    unfolding loses
    loses_dropped h n = cond-false _ _ _ (le-ltb w (room limit m) h) ∙ cond-true _ _ _ n

    pub loses_refused : room limit m ≤ w → is_notice m.kind ≡ false → loses limit w (m ∷ ms) ≡ true
    unfolding loses
    loses_refused h n = cond-false _ _ _ (le-ltb w (room limit m) h) ∙ cond-false _ _ _ n

  pub room_of_notice : (m : Message S) → is_notice m.kind ≡ true → room limit m ≡ limit - margin
  room_of_notice m n = cond-true _ _ _ n

  pub room_of_other : (m : Message S) → is_notice m.kind ≡ false → room limit m ≡ limit
  room_of_other m n = cond-false _ _ _ n

  -- messages sent after others
  pub accepted_append : (w : ℕ) (xs ys : List (Message S)) → accepted limit w (xs ++ ys) ≡ accepted limit w xs ++ accepted limit (w + length (accepted limit w xs)) ys
  accepted_append w [] ys = rw (accepted_none S limit w, add-zero w)
  accepted_append w (m ∷ xs) ys = elim (cases_lt w (room limit m)) [
    | inl lt ↦
        let e : w + 1 + length (accepted limit (w + 1) xs) ≡ w + suc (length (accepted limit (w + 1) xs)) = omega arith in
        rw (accepted_comes w m (xs ++ ys) lt, accepted_comes w m xs lt) (ap (λ t. m ∷ t) (accepted_append (w + 1) xs ys ∙ ap (λ (n : ℕ). accepted limit (w + 1) xs ++ accepted limit n ys) e))
    | inr ge ↦ rw (accepted_fails w m (xs ++ ys) ge, accepted_fails w m xs ge) (accepted_append w xs ys)
  ]

  pub loses_append : (w : ℕ) (xs ys : List (Message S)) → loses limit w (xs ++ ys) ≡ (loses limit w xs || loses limit (w + length (accepted limit w xs)) ys)
  loses_append w [] ys = rw (loses_none S limit w, accepted_none S limit w, add-zero w)
  loses_append w (m ∷ xs) ys = elim (cases_lt w (room limit m)) [
    | inl lt ↦
        let e : w + 1 + length (accepted limit (w + 1) xs) ≡ w + suc (length (accepted limit (w + 1) xs)) = omega arith in
        rw (loses_comes w m (xs ++ ys) lt, loses_comes w m xs lt, accepted_comes w m xs lt) (loses_append (w + 1) xs ys ∙ ap (λ (n : ℕ). loses limit (w + 1) xs || loses limit n ys) e)
    | inr ge ↦ elim (cases_Bool (is_notice m.kind)) [
      | inl n ↦ rw (loses_dropped w m (xs ++ ys) ge n, loses_dropped w m xs ge n, accepted_fails w m xs ge) (loses_append w xs ys)
      | inr n ↦ rw (loses_refused w m (xs ++ ys) ge n, loses_refused w m xs ge n)
    ]
  ]

module _ {S : Type 0} where
  pub sent_none : (limit : ℕ) (bag : List (Message S)) → Sent limit bag [] false limit bag
  sent_none limit bag = record {
    limit_stays = refl;
    waits = rw (accepted_none S limit (length bag), append-nil bag) (same_refl bag);
    losses = sym (loses_none S limit (length bag));
  }

  -- some messages, and then more
  pub sent_then : {limit limit' limit'' : ℕ} {bag bag' bag'' xs ys : List (Message S)} {lost lost' : Bool} →
      Sent limit bag xs lost limit' bag' → Sent limit' bag' ys lost' limit'' bag'' → Sent limit bag (xs ++ ys) (lost || lost') limit'' bag''
  sent_then {limit} {limit'} {limit''} {bag} {bag'} {bag''} {xs} {ys} {lost} {lost'} a b =
      let more = accepted limit (length bag) xs in
      let e : length bag' ≡ length bag + length more = sym (same_length a.waits) ∙ length-append bag more in
      let same : accepted limit' (length bag') ys ≡ accepted limit (length bag + length more) ys = ap (λ (l : ℕ). accepted l (length bag') ys) a.limit_stays ∙ ap (λ (n : ℕ). accepted limit n ys) e in
      let gone : loses limit' (length bag') ys ≡ loses limit (length bag + length more) ys = ap (λ (l : ℕ). loses l (length bag') ys) a.limit_stays ∙ ap (λ (n : ℕ). loses limit n ys) e in
      record {
        limit_stays = b.limit_stays ∙ a.limit_stays;
        waits = same_trans
            (rw (accepted_append limit (length bag) xs ys, ← append_assoc bag more (accepted limit (length bag + length more) ys), ← same) (same_append a.waits (same_refl _)))
            b.waits;
        losses = rw (loses_append limit (length bag) xs ys, ← a.losses, ← gone, ← b.losses) refl;
      }

  -- a notice that finds too many waiting is dropped
  pub sent_dropped : (limit : ℕ) (bag : List (Message S)) (m : Message S) → is_notice m.kind ≡ true → limit - margin ≤ length bag → Sent limit bag (m ∷ []) false limit bag
  sent_dropped limit bag m n h =
      let ge : room limit m ≤ length bag = rw (room_of_notice limit m n) h in
      record {
        limit_stays = refl;
        waits = rw (accepted_fails limit (length bag) m [] ge, accepted_none S limit (length bag), append-nil bag) (same_refl bag);
        losses = sym (loses_dropped limit (length bag) m [] ge n ∙ loses_none S limit (length bag));
      }

  -- a message that is posted: a notice only while fewer than the limit less the margin wait
  abbrev pub MayPost : ℕ → List (Message S) → Message S → Type 0
  MayPost limit bag m = ((is_notice m.kind ≡ true) × (length bag < limit - margin)) ⊎ (is_notice m.kind ≡ false)

  fits_in_room : (limit : ℕ) (bag : List (Message S)) (m : Message S) → MayPost limit bag m → length bag < limit → length bag < room limit m
  fits_in_room limit bag m (inl n) h = rw (room_of_notice limit m n.0) n.1
  fits_in_room limit bag m (inr o) h = rw (room_of_other limit m o) h

  not_a_notice : (limit : ℕ) (bag : List (Message S)) (m : Message S) → MayPost limit bag m → length bag ≡ limit → is_notice m.kind ≡ false
  not_a_notice limit bag m (inl n) e = absurd (omega (arith, n.1))
  not_a_notice limit bag m (inr o) e = o

  pub sent_posted : {U : Type 0} (limit limit' : ℕ) (bag bag' : List (Message S)) (m : Message S) (r : Result U Refusal) → MayPost limit bag m → Posted m limit bag r limit' bag' → Sends limit bag m r limit' bag'
  sent_posted limit limit' bag bag' m (Ok u) may p =
      let lt : length bag < room limit m = fits_in_room limit bag m may p.0 in
      record {
        limit_stays = p.1;
        waits = rw (accepted_comes limit (length bag) m [] lt, accepted_none S limit (length bag + 1)) (same_trans (same_sym (same_last bag m)) p.2);
        losses = sym (loses_comes limit (length bag) m [] lt ∙ loses_none S limit (length bag + 1));
      }
  sent_posted limit limit' bag bag' m (Err e) may p =
      let o = not_a_notice limit bag m may p.1 in
      let ge : room limit m ≤ length bag = rw (room_of_other limit m o) (omega (arith, p.1)) in (
        p.0,
        record {
          limit_stays = p.2;
          waits = rw (accepted_fails limit (length bag) m [] ge, accepted_none S limit (length bag), append-nil bag) p.3;
          losses = sym (loses_refused limit (length bag) m [] ge o);
        },
      )
