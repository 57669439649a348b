-- That messages which may not be dropped fit beside the notices. Assumes nothing.
use Rattle.std.proofs.Common.{◌≡◌, ℕ, suc, ◌+◌, ◌-◌, ◌<◌, ◌≤◌, Bool, true, false, not, List, [], ◌∷◌, length, sym, refl, ap, ◌∙◌, inl, inr, arith}
use Rattle.std.proofs.lemmas.Bool.{cases_Bool, cases_lt, cond-true, cond-false}
use Rattle.problem.specs.Bags.{here, none, one}
use Rattle.link.specs.declared.message.Message.{Message}
use Rattle.link.specs.Messages.{is_notice}
use Rattle.link.specs.Posting.{margin, room, accepted, loses}
use Rattle.link.specs.Fitting.{notices_of, others_of, OthersFitBesideNotices, MessagesAreOthersAndNotices}
use Rattle.link.proofs.Bags.{out_right}
use Rattle.link.proofs.Posting.{accepted_none, loses_none, accepted_comes, accepted_fails, loses_comes, loses_dropped, room_of_notice, room_of_other}

-- the notices and the others of one message more
module _ {S : Type 0} (m : Message S) (ms : List (Message S)) where
  pub notices_more : is_notice m.kind ≡ true → notices_of (m ∷ ms) ≡ m ∷ notices_of ms
  notices_more n = cond-true _ _ _ n

  pub notices_same : is_notice m.kind ≡ false → notices_of (m ∷ ms) ≡ notices_of ms
  notices_same n = cond-false _ _ _ n

  pub others_more : is_notice m.kind ≡ false → others_of (m ∷ ms) ≡ m ∷ others_of ms
  others_more n = cond-true _ _ _ (ap not n)

  pub others_same : is_notice m.kind ≡ true → others_of (m ∷ ms) ≡ others_of ms
  others_same n = cond-false _ _ _ (ap not n)

pub messages_are_others_and_notices : (S : Type 0) → MessagesAreOthersAndNotices S
messages_are_others_and_notices S [] = none
messages_are_others_and_notices S (m ∷ ms) = elim (cases_Bool (is_notice m.kind)) [
  | inl n ↦ rw (others_same m ms n, notices_more m ms n) (one (out_right (others_of ms) here) (messages_are_others_and_notices S ms))
  | inr o ↦ rw (others_more m ms o, notices_same m ms o) (one here (messages_are_others_and_notices S ms))
]

module _ {S : Type 0} (limit : ℕ) where
  -- Fits-in, for any number of messages that wait and any messages that come to wait
  record Fits (a b : ℕ) (ms new : List (Message S)) (lost : Bool) : Type 0 where
    come : others_of new ≡ others_of ms
    kept : lost ≡ false
    few : a + length (notices_of new) ≤ limit - margin
    fit : a + b + length new ≤ limit

  -- what one message more does to the counts
  module _ (a b : ℕ) (m : Message S) (ms new : List (Message S)) (lost : Bool) where
    notice_comes : is_notice m.kind ≡ true → Fits (a + 1) b ms new lost → Fits a b (m ∷ ms) (m ∷ new) lost
    notice_comes n f = record {
      come = others_same m new n ∙ f.come ∙ sym (others_same m ms n);
      kept = f.kept;
      few = rw (notices_more m new n) (omega (arith, f.few));
      fit = omega (arith, f.fit);
    }

    notice_is_dropped : is_notice m.kind ≡ true → Fits a b ms new lost → Fits a b (m ∷ ms) new lost
    notice_is_dropped n f = record { come = f.come ∙ sym (others_same m ms n); kept = f.kept; few = f.few; fit = f.fit }

    other_comes : is_notice m.kind ≡ false → Fits a (b + 1) ms new lost → Fits a b (m ∷ ms) (m ∷ new) lost
    other_comes o f = record {
      come = others_more m new o ∙ ap (λ t. m ∷ t) f.come ∙ sym (others_more m ms o);
      kept = f.kept;
      few = rw (notices_same m new o) f.few;
      fit = omega (arith, f.fit);
    }

  all_fit_in : (w a b : ℕ) (ms : List (Message S)) → w ≡ a + b → margin ≤ limit → a ≤ limit - margin → b + length (others_of ms) ≤ margin → Fits a b ms (accepted limit w ms) (loses limit w ms)
  all_fit_in w a b [] e enough h k = rw (accepted_none S limit w, loses_none S limit w) (record { come = refl; kept = refl; few = omega arith; fit = omega arith })
  all_fit_in w a b (m ∷ ms) e enough h k = elim (cases_Bool (is_notice m.kind)) [
    | inl n ↦
        let k' : b + length (others_of ms) ≤ margin = rw (others_same m ms n) at k in
        let r : room limit m ≡ limit - margin = room_of_notice limit m n in
        elim (cases_lt w (limit - margin)) [
          | inl lt ↦
              let c : w < room limit m = rw r lt in
              rw (accepted_comes limit w m ms c, loses_comes limit w m ms c) (notice_comes a b m ms _ _ n (all_fit_in (w + 1) (a + 1) b ms (omega arith) enough (omega arith) k'))
          | inr ge ↦
              let c : room limit m ≤ w = rw r ge in
              rw (accepted_fails limit w m ms c, loses_dropped limit w m ms c n) (notice_is_dropped a b m ms _ _ n (all_fit_in w a b ms e enough h k'))
        ]
    | inr o ↦
        let k' : b + suc (length (others_of ms)) ≤ margin = rw (others_more m ms o) at k in
        let c : w < room limit m = rw (room_of_other limit m o) (omega arith) in
        rw (accepted_comes limit w m ms c, loses_comes limit w m ms c) (other_comes a b m ms _ _ o (all_fit_in (w + 1) a (b + 1) ms (omega arith) enough h (omega arith)))
  ]

pub others_fit_beside_notices : (S : Type 0) → OthersFitBesideNotices S
others_fit_beside_notices S limit a b ms enough h k =
    let f = all_fit_in limit (a + b) a b ms refl enough h k in
    record { others_come = f.come; none_is_lost = f.kept; notices_are_few = f.few; all_fit = f.fit }
