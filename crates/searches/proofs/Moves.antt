-- Every move keeps what holds at every moment, and makes no best worse. Assumes nothing.
use Rattle.std.proofs.Common.{◌≡◌, ℕ, ◌+◌, ◌-◌, ◌≤◌, true, false, not, ◌≢◌, List, [], ◌∷◌, ◌++◌, length, sym, refl, ap, ◌∙◌, subst, inl, inr, append_assoc, append-nil, arith, length-append}
use lib.ListN.{length-map}
use Rattle.std.specs.List.{AllByRecursion as All}
use Rattle.std.proofs.lemmas.List.Elements.{filter-append}
use Rattle.std.proofs.ByRecursion.{All-append, All-map, All-weaker}
use Rattle.std.proofs.lemmas.Bool.{cases_Bool, cases_eq, both_ways, cond-false}
use Rattle.job.specs.Plans.{heads}
use Rattle.problem.specs.Bags.{Out, here, Same}
use Rattle.problem.proofs.Bags.{out_length}
use Rattle.link.specs.declared.message.Kind.TheVariants.{Notice, Stop}
use Rattle.link.specs.declared.message.Message.{Message}
use Rattle.link.specs.Messages.{is_notice}
use Rattle.link.specs.Posting.{margin, accepted, loses}
use Rattle.link.specs.Fitting.{notices_of, others_of, FitsIn}
use Rattle.link.proofs.Bags.{out_append, same_refl, same_out, same_sym, same_trans, same_append, same_length}
use Rattle.link.proofs.Fitting.{messages_are_others_and_notices, others_fit_beside_notices}
use Rattle.head.specs.declared.best.Best.{Best}
use Rattle.head.specs.Bests.{adopted}
use Rattle.head.specs.Replies.{carried}
use Rattle.searches.specs.Members.{total, Replaced}
use Rattle.searches.specs.Cubes.{Problem, Lawful, Head}
use Rattle.searches.specs.Bests.{Bests, put, AsGood, priced_plan, Good, a_plan, Improves}
use Rattle.searches.specs.Chains.{Focus, Search, Sound}
use Rattle.searches.specs.Steps.{Step}
use Rattle.searches.specs.Moves.{State, all_home, goes_to, stop, farewell, Move, a_step, a_notice, a_stop, Moves, stay, move}
use Rattle.searches.specs.Invariant.{most_messages, has_on_way, messages, owes, Held, Rooted, Noticed, Stopping, Ending, under_way, over, Invariant}
use Rattle.searches.proofs.Members.{some_out, some_map, some_weaker, some_replaced, some_at_replaced, all_always, all_both, all_out, all_replaced, all_at_replaced, total_replaced, length_replaced, joined_replaced}
use Rattle.searches.proofs.Bests.{as_good_itself, as_good_trans, adopted_is_one, adopted_as_good, adopted_keeps, put_cases, put_improves, put_all_good}
use Rattle.searches.proofs.Chains.{still_holds}
use Rattle.searches.proofs.Steps.{others_are_heads, others_are_apart, others_are_all, others_few, step_is_sound, Kept, step_keeps_bests, step_holds, step_covers, step_is_paid, step_sends, step_posts_no_notice, step_notices, step_is_out}
use Rattle.searches.proofs.Bags.{sorted_after_step, same_cancel_block, out_of_empty, kept_all, kept_none, accepted_notices, accepted_notices_few}
use Rattle.searches.proofs.Homes.{one_is_out, of_a_search, messages_of_a_search, one_holds_all, others_fit}

module _ {S : Type 0} (π : Problem S) where
  noticed_weaker : (H K : Best S → Type 0) → ((x : Best S) → H x → K x) → (m : Message S) → Noticed π H m → Noticed π K m
  noticed_weaker H K f m n = record { is_notice = n.is_notice; to_head = n.to_head; from_head = n.from_head; apart = n.apart; of_search = n.of_search; found = n.found; held = f (carried m) n.held }

  noticed_is_notice : (H : Best S → Type 0) (m : Message S) → Noticed π H m → is_notice m.kind ≡ true
  noticed_is_notice H m n = ap is_notice n.is_notice

  stopping_like : (b c : Best S) → b ≡ c → (m : Message S) → Stopping π b m → Stopping π c m
  stopping_like b c e m s = record { to_head = s.to_head; to_other = s.to_other; is_stop = s.is_stop ∙ ap (λ (x : Best S). stop x m.to) e }

  stopping_carries : (b : Best S) (m : Message S) → Stopping π b m → carried m ≡ b
  stopping_carries b m s = ap carried s.is_stop

module _ {S : Type 0} {π : Problem S} (law : Lawful π) where
  -- what is held stays held while the searches stay and bests improve
  pub still_held : (B B' : Bests S) (ss : List (Search S)) → Improves π B B' → (x : Best S) → Held π B ss x → Held π B' ss x
  still_held B B' ss better x (inl a) = inl (as_good_trans law.laws (B' 1) (B 1) x (better 1) a)
  still_held B B' ss better x (inr a) = inr (some_weaker _ _ (λ s k. still_holds law B B' x better s.focus k) ss a)

  module _ (limit : ℕ) (margin_fits : margin ≤ limit) where
    -- a search takes a step
    module _ {s : Search S} {ss ss' : List (Search S)} {B B' : Bests S} {f : Focus S} {taken notes posts bag : List (Message S)} {c : ℕ} {others : List ℕ} (rest : List (Message S))
        (w : Replaced s (goes_to s f) ss ss') (step : Step π s.number s.root B s.focus taken B' f notes posts) (o : Same (1 ∷ others) (heads π.job))
        (out : Same (taken ++ rest) bag) (i : Invariant π limit (record { searches = ss; bests = B; bag = bag; count = c })) where
      was : Sound π s.root s.focus
      was = all_at_replaced _ w i.sound

      rooted : Rooted π s
      rooted = all_at_replaced _ w i.rooted

      pub kept : Kept law s.number s.root B B' f
      kept = step_keeps_bests law s.number s.root step i.good was

      still_sound : All (λ s. Sound π s.root s.focus) ss'
      still_sound = all_replaced _ _ (λ x k. k) w (step_is_sound law s.number s.root step i.good was) i.sound

      still_rooted : All (Rooted π) ss'
      still_rooted = all_replaced _ _ (λ x k. k) w (record { numbered = rooted.numbered; at_one = rooted.at_one }) i.rooted

      -- each best that was held is held
      held_stays_held : (x : Best S) → Held π B ss x → Held π B' ss' x
      held_stays_held x (inl a) = inl (as_good_trans law.laws (B' 1) (B 1) x (kept.improves 1) a)
      held_stays_held x (inr a) =
          some_replaced _ _ (λ s k. still_holds law B B' x kept.improves s.focus k) w
          (λ k. elim (step_holds law s.number s.root x step kept.improves was k) [
            | inl h ↦ inl (subst (λ (g : ℕ). AsGood π.scale (B' g) x) rooted.at_one h)
            | inr h ↦ inr h
          ]) a

      before : (i.stops ≡ []) × (c + (total (owes π) ss + (length i.notices + (π.job.heads - 1))) ≤ most_messages π.job)
      before = elim i.ending [
        | under_way e empty owed ↦ (empty, owed)
        | over e a b owed ↦ absurd (both_ways (all_home ss) (one_is_out w (step_is_out law s.number s.root step)) e)
      ]

      last : List (Message S)
      last = farewell ss' B' others

      sent : List (Message S)
      sent = notes ++ (posts ++ last)

      stayed : List (Message S)
      stayed = (step_sends law s.number s.root step).0

      elsewhere : List (Message S)
      elsewhere = (joined_replaced (has_on_way π) w).0

      rest_is : Same rest (stayed ++ (elsewhere ++ i.notices))
      unfolding stayed elsewhere
      rest_is =
          let e = joined_replaced (has_on_way π) w in
          let k = step_sends law s.number s.root step in
          let all : Same (messages π ss ++ i.notices) bag = rw (before.0, append-nil) at i.bag_is in
          let split : Same (messages π ss ++ i.notices) (((taken ++ k.0) ++ e.0) ++ i.notices) = same_append (same_trans e.1 (same_append k.1 (same_refl e.0))) (same_refl i.notices) in
          same_cancel_block taken (same_trans out (same_trans (same_sym all) (rw (append_assoc (taken ++ k.0) e.0 i.notices, append_assoc taken k.0 (e.0 ++ i.notices)) at split)))

      now_on_way : Same (messages π ss') ((posts ++ stayed) ++ elsewhere)
      unfolding stayed elsewhere
      now_on_way = same_trans (joined_replaced (has_on_way π) w).2 (same_append (step_sends law s.number s.root step).2 (same_refl (joined_replaced (has_on_way π) w).0))

      last_no_notice : All (λ m. is_notice m.kind ≡ false) last
      unfolding last
      last_no_notice = elim (cases_Bool (all_home ss')) [ inl e ↦ rw e (All-map _ (stop (B' 1)) others (all_always _ (λ g. refl) others)) | inr e ↦ rw e tt ]

      no_notice : All (λ m. is_notice m.kind ≡ false) (posts ++ last)
      no_notice = All-append _ posts last (step_posts_no_notice law s.number s.root step) last_no_notice

      new_noticed : All (Noticed π (Held π B' ss')) notes
      new_noticed = All-weaker _ _ (noticed_weaker π _ _ (λ x k. inr (some_at_replaced _ w k))) notes (step_notices law s.number s.root step rooted.numbered was)

      new_are_notices : All (λ m. is_notice m.kind ≡ true) notes
      new_are_notices = All-weaker _ _ (noticed_is_notice π _) notes new_noticed

      others_of_sent : others_of sent ≡ posts ++ last
      unfolding sent
      others_of_sent =
          filter-append _ notes (posts ++ last)
          ∙ ap (λ z. z ++ others_of (posts ++ last)) (kept_none _ notes (All-weaker _ _ (λ m k. ap not k) notes new_are_notices))
          ∙ kept_all _ (posts ++ last) (All-weaker _ _ (λ m k. ap not k) (posts ++ last) no_notice)

      notices_of_sent : notices_of sent ≡ notes
      unfolding sent
      notices_of_sent =
          filter-append _ notes (posts ++ last)
          ∙ ap (λ z. notices_of notes ++ z) (kept_none _ (posts ++ last) no_notice)
          ∙ append-nil (notices_of notes)
          ∙ kept_all _ notes new_are_notices

      came : List (Message S)
      came = accepted limit (length rest) sent

      waiting : length rest ≡ length i.notices + length (stayed ++ elsewhere)
      waiting = omega (arith, same_length rest_is, length-append stayed (elsewhere ++ i.notices), length-append elsewhere i.notices, length-append stayed elsewhere)

      fits_in : FitsIn limit (length i.notices) (length (stayed ++ elsewhere)) sent
      unfolding last
      fits_in = others_fit_beside_notices S limit (length i.notices) (length (stayed ++ elsewhere)) sent margin_fits i.notices_few
          (rw others_of_sent (omega (
            arith,
            others_fit law ss' B' others still_sound (rw (length_replaced w) at i.searches_few) o,
            same_length now_on_way,
            length-append (posts ++ stayed) elsewhere,
            length-append posts stayed,
            length-append stayed elsewhere,
            length-append posts last,
          )))

      -- no post is lost
      pub step_loses_none : loses limit (length rest) (notes ++ (posts ++ farewell ss' B' others)) ≡ false
      unfolding sent last
      step_loses_none = ap (λ (n : ℕ). loses limit n (notes ++ (posts ++ farewell ss' B' others))) waiting ∙ fits_in.none_is_lost

      others_came : others_of came ≡ posts ++ last
      unfolding came
      others_came = ap (λ (n : ℕ). others_of (accepted limit n sent)) waiting ∙ fits_in.others_come ∙ others_of_sent

      -- of what is posted, all but notices come to wait
      pub step_others_come : others_of (accepted limit (length rest) (notes ++ (posts ++ farewell ss' B' others))) ≡ posts ++ farewell ss' B' others
      unfolding came sent last
      step_others_come = others_came

      notices_came : List (Message S)
      notices_came = notices_of came

      few_came : length notices_came ≤ length notes
      unfolding notices_came came
      few_came = rw notices_of_sent at (accepted_notices_few limit (length rest) sent)

      few_notices : length (notices_came ++ i.notices) ≤ limit - margin
      unfolding notices_came came
      few_notices =
          let e : length (notices_of (accepted limit (length rest) sent)) ≡ length (notices_of (accepted limit (length i.notices + length (stayed ++ elsewhere)) sent)) =
          ap (λ (n : ℕ). length (notices_of (accepted limit n sent))) waiting in
          omega (arith, e, fits_in.notices_are_few, length-append (notices_of (accepted limit (length rest) sent)) i.notices)

      came_noticed : All (Noticed π (Held π B' ss')) notices_came
      unfolding notices_came came sent
      came_noticed = accepted_notices limit _ (length rest) sent (All-append _ notes (posts ++ last)
          (All-weaker _ _ (λ m n e. n) notes new_noticed)
          (All-weaker _ _ (λ m n e. absurd (both_ways _ n e)) (posts ++ last) no_notice))

      -- what waits then
      module _ {bag' : List (Message S)} (into : Same (rest ++ accepted limit (length rest) (notes ++ (posts ++ farewell ss' B' others))) bag') where
        now_waits : Same (messages π ss' ++ ((notices_came ++ i.notices) ++ last)) bag'
        unfolding notices_came came sent last
        now_waits =
            let came_is : Same came ((posts ++ last) ++ notices_came) = rw others_came at (messages_are_others_and_notices S came) in
            same_trans
            (same_append now_on_way (same_refl ((notices_came ++ i.notices) ++ last)))
            (same_trans (same_sym (sorted_after_step stayed elsewhere i.notices posts last notices_came)) (same_trans (same_sym (same_append rest_is came_is)) into))

        still_paid : length taken + (c + (total (owes π) ss' + (length (notices_came ++ i.notices) + (π.job.heads - 1)))) ≤ most_messages π.job
        still_paid = omega (arith, before.1, step_is_paid law s.number s.root step was, total_replaced (owes π) w, few_came, length-append notices_came i.notices)

        now_ending : Ending π (record { searches = ss'; bests = B'; bag = bag'; count = length taken + c }) (notices_came ++ i.notices) last
        unfolding last
        now_ending = elim (cases_Bool (all_home ss')) [
          | inr e ↦ under_way e (cond-false _ _ _ e) (omega (arith, still_paid))
          | inl e ↦ over e
              (rw e (All-map _ (stop (B' 1)) others (all_both (Head π.job) (λ g. g ≢ 1) _ (λ g l ne. record { to_head = l; to_other = ne; is_stop = refl }) others (others_are_heads π.job o) (others_are_apart π.job o))))
              (λ g l. elim (cases_eq g 1) [
                | inl is ↦ inl (ap B' is)
                | inr ne ↦ inr (rw e (some_map _ (stop (B' 1)) others (others_are_all π.job g o l ne)))
              ])
              (rw e (omega (arith, still_paid, length-map others (stop (B' 1)), others_few π.job o)))
        ]

        pub step_keeps : Invariant π limit (record { searches = ss'; bests = B'; bag = bag'; count = length taken + c })
        step_keeps = record {
          notices = notices_came ++ i.notices;
          stops = last;
          bag_is = now_waits;
          rooted = still_rooted;
          sound = still_sound;
          searches_few = rw (length_replaced w) at i.searches_few;
          notices_few = few_notices;
          good = kept.all_good;
          held = λ g l. elim (kept.held g) [ inl e ↦ rw e (held_stays_held (B g) (i.held g l)) | inr h ↦ inr (some_at_replaced _ w h) ];
          noticed = All-append _ notices_came i.notices came_noticed (All-weaker _ _ (noticed_weaker π _ _ held_stays_held) i.notices i.noticed);
          covered = λ p complete. elim (i.covered p complete) [
            | inl h ↦ inl (held_stays_held (priced_plan π p) h)
            | inr a ↦ some_replaced _ _ (λ x k. k) w (λ k. elim (step_covers law s.number s.root p step was k) [ inl h ↦ inl (inr (some_at_replaced _ w h)) | inr b ↦ inr b ]) a
          ];
          ending = now_ending;
        }

    -- a message that waits is a search's, a notice or a stop
    module _ {ss : List (Search S)} {B : Bests S} {bag rest : List (Message S)} {c : ℕ} {m : Message S} (out : Same (m ∷ rest) bag)
        (i : Invariant π limit (record { searches = ss; bests = B; bag = bag; count = c })) where
      pub data Sort : Type 0 where
        of_search : (left : List (Message S)) → Out m (messages π ss) left → Sort
        of_notices : (left : List (Message S)) → Out m i.notices left → Same (messages π ss ++ (left ++ i.stops)) rest → Sort
        of_stops : (left : List (Message S)) → Out m i.stops left → Same (messages π ss ++ (i.notices ++ left)) rest → Sort

      pub sort : Sort
      sort =
          let t = same_out (same_trans out (same_sym i.bag_is)) here in
          elim (out_append (messages π ss) (i.notices ++ i.stops) t.1) [
            | inl l ↦ of_search l.0 l.1
            | inr k ↦ elim (out_append i.notices i.stops k.1) [
              | inl n ↦ of_notices n.0 n.1 (same_sym (rw (k.2 ∙ ap (λ z. messages π ss ++ z) n.2) at t.2))
              | inr q ↦ of_stops q.0 q.1 (same_sym (rw (k.2 ∙ ap (λ z. messages π ss ++ z) q.2) at t.2))
            ]
          ]

      pub a_search_message : {left : List (Message S)} → Out m (messages π ss) left → of_a_search m.kind ≡ true
      a_search_message o = (all_out _ o (messages_of_a_search π ss)).0

      pub a_noticed : {left : List (Message S)} → Out m i.notices left → Noticed π (Held π B ss) m
      a_noticed o = (all_out _ o i.noticed).0

      pub a_stopping : {left : List (Message S)} → Out m i.stops left → (all_home ss ≡ true) × Stopping π (B 1) m
      a_stopping o = elim i.ending [
        | under_way e empty owed ↦ absurd (out_of_empty o empty)
        | over e a b owed ↦ (e, (all_out _ o a).0)
      ]

    -- a notice is taken
    module _ {ss : List (Search S)} {B : Bests S} {bag rest : List (Message S)} {c : ℕ} {m : Message S} (kind : m.kind ≡ Notice) (out : Same (m ∷ rest) bag)
        (i : Invariant π limit (record { searches = ss; bests = B; bag = bag; count = c })) where
      taken_notice : (left : List (Message S)) × Out m i.notices left × Same (messages π ss ++ (left ++ i.stops)) rest
      taken_notice = elim (sort out i) [
        | of_search left o ↦ absurd (both_ways _ (ap of_a_search kind) (a_search_message out i o))
        | of_notices left o same ↦ (left, o, same)
        | of_stops left o same ↦ absurd (both_ways _ (ap is_notice (ap (λ (x : Message S). x.kind) (a_stopping out i o).1.is_stop)) (ap is_notice kind))
      ]

      note : Noticed π (Held π B ss) m
      note = a_noticed out i taken_notice.1

      after : Bests S
      after = put B m.to (adopted π.scale (carried m) (B m.to))

      pub notice_improves : Improves π B (put B m.to (adopted π.scale (carried m) (B m.to)))
      notice_improves = put_improves law B m.to _ (adopted_as_good law.laws (carried m) (B m.to))

      after_improves : Improves π B after
      unfolding after
      after_improves = notice_improves

      -- where all are home, no best that is head 1's changes
      notice_changes_none : all_home ss ≡ true → (g : ℕ) → B g ≡ B 1 → after g ≡ B 1
      unfolding after
      notice_changes_none e g same = elim (put_cases B m.to (adopted π.scale (carried m) (B m.to)) g) [
        | inl k ↦
            let is : B m.to ≡ B 1 = ap B (sym k.0) ∙ same in
            let good : AsGood π.scale (B m.to) (carried m) = rw is (one_holds_all π B ss (carried m) e note.held) in
            k.1 ∙ adopted_keeps law.laws (carried m) (B m.to) good ∙ is
        | inr k ↦ k.1 ∙ same
      ]

      notice_ending : Ending π (record { searches = ss; bests = after; bag = rest; count = 1 + c }) taken_notice.0 i.stops
      notice_ending = elim i.ending [
        | under_way e empty owed ↦ under_way e empty (omega (arith, owed, out_length taken_notice.1))
        | over e a agree owed ↦
            let one_stays : after 1 ≡ B 1 = notice_changes_none e 1 refl in
            over e (All-weaker _ _ (stopping_like π (B 1) (after 1) (sym one_stays)) i.stops a)
            (λ g l. elim (agree g l) [ inl k ↦ inl (notice_changes_none e g k ∙ sym one_stays) | inr k ↦ inr k ])
            (omega (arith, owed, out_length taken_notice.1))
      ]

      pub notice_keeps : Invariant π limit (record { searches = ss; bests = put B m.to (adopted π.scale (carried m) (B m.to)); bag = rest; count = 1 + c })
      unfolding after
      notice_keeps = record {
        notices = taken_notice.0;
        stops = i.stops;
        bag_is = taken_notice.2;
        rooted = i.rooted;
        sound = i.sound;
        searches_few = i.searches_few;
        notices_few = omega (arith, i.notices_few, out_length taken_notice.1);
        good = put_all_good law B m.to _ i.good (adopted_is_one law.laws (Good π) (carried m) (B m.to) (a_plan note.found) (i.good m.to note.to_head));
        held = λ g l. still_held B after ss after_improves (after g) (elim (put_cases B m.to (adopted π.scale (carried m) (B m.to)) g) [
          | inl k ↦ rw k.1 (adopted_is_one law.laws (Held π B ss) (carried m) (B m.to) note.held (i.held m.to note.to_head))
          | inr k ↦ rw k.1 (i.held g l)
        ]);
        noticed = All-weaker _ _ (noticed_weaker π _ _ (still_held B after ss after_improves)) taken_notice.0 (all_out _ taken_notice.1 i.noticed).1;
        covered = λ p complete. elim (i.covered p complete) [ inl h ↦ inl (still_held B after ss after_improves (priced_plan π p) h) | inr a ↦ inr a ];
        ending = notice_ending;
      }

    -- a stop is taken
    module _ {ss : List (Search S)} {B : Bests S} {bag rest : List (Message S)} {c : ℕ} {m : Message S} (kind : m.kind ≡ Stop) (out : Same (m ∷ rest) bag)
        (i : Invariant π limit (record { searches = ss; bests = B; bag = bag; count = c })) where
      taken_stop : (left : List (Message S)) × Out m i.stops left × Same (messages π ss ++ (i.notices ++ left)) rest
      taken_stop = elim (sort out i) [
        | of_search left o ↦ absurd (both_ways _ (ap of_a_search kind) (a_search_message out i o))
        | of_notices left o same ↦ absurd (both_ways _ (ap is_notice kind) (ap is_notice (a_noticed out i o).is_notice))
        | of_stops left o same ↦ (left, o, same)
      ]

      stopping : (all_home ss ≡ true) × Stopping π (B 1) m
      stopping = a_stopping out i taken_stop.1

      brings : carried m ≡ B 1
      brings = stopping_carries π (B 1) m stopping.1

      after_stop : Bests S
      after_stop = put B m.to (carried m)

      pub stop_improves : Improves π B (put B m.to (carried m))
      stop_improves = put_improves law B m.to (carried m) (subst (λ b. AsGood π.scale b (B m.to)) (sym brings) (one_holds_all π B ss (B m.to) stopping.0 (i.held m.to stopping.1.to_head)))

      stop_improves_all : Improves π B after_stop
      unfolding after_stop
      stop_improves_all = stop_improves

      one_stays_same : after_stop 1 ≡ B 1
      unfolding after_stop
      one_stays_same = elim (put_cases B m.to (carried m) 1) [ inl k ↦ absurd (stopping.1.to_other (sym k.0)) | inr k ↦ k.1 ]

      stop_ending : Ending π (record { searches = ss; bests = after_stop; bag = rest; count = 1 + c }) i.notices taken_stop.0
      unfolding after_stop
      stop_ending = elim i.ending [
        | under_way e empty owed ↦ absurd (out_of_empty taken_stop.1 empty)
        | over e a agree owed ↦ over e
            (All-weaker _ _ (stopping_like π (B 1) (after_stop 1) (sym one_stays_same)) taken_stop.0 (all_out _ taken_stop.1 a).1)
            (λ g l. elim (put_cases B m.to (carried m) g) [
              | inl k ↦ inl (k.1 ∙ brings ∙ sym one_stays_same)
              | inr k ↦ elim (agree g l) [
                | inl h ↦ inl (k.1 ∙ h ∙ sym one_stays_same)
                | inr h ↦ elim (some_out _ taken_stop.1 h) [ inl z ↦ absurd (k.0 (sym z)) | inr z ↦ inr z ]
              ]
            ])
            (omega (arith, owed, out_length taken_stop.1))
      ]

      one_is_a_head : Head π.job 1
      one_is_a_head = record { one_up = omega arith; to_last = π.job.one }

      pub stop_keeps : Invariant π limit (record { searches = ss; bests = put B m.to (carried m); bag = rest; count = 1 + c })
      unfolding after_stop
      stop_keeps = record {
        notices = i.notices;
        stops = taken_stop.0;
        bag_is = taken_stop.2;
        rooted = i.rooted;
        sound = i.sound;
        searches_few = i.searches_few;
        notices_few = i.notices_few;
        good = put_all_good law B m.to (carried m) i.good (subst (Good π) (sym brings) (i.good 1 one_is_a_head));
        held = λ g l. still_held B after_stop ss stop_improves_all (after_stop g) (elim (put_cases B m.to (carried m) g) [
          | inl k ↦ subst (Held π B ss) (sym (k.1 ∙ brings)) (i.held 1 one_is_a_head)
          | inr k ↦ subst (Held π B ss) (sym k.1) (i.held g l)
        ]);
        noticed = All-weaker _ _ (noticed_weaker π _ _ (still_held B after_stop ss stop_improves_all)) i.notices i.noticed;
        covered = λ p complete. elim (i.covered p complete) [ inl h ↦ inl (still_held B after_stop ss stop_improves_all (priced_plan π p) h) | inr a ↦ inr a ];
        ending = stop_ending;
      }

    -- the order of what waits is free
    pub any_order_keeps : {ss : List (Search S)} {B : Bests S} {bag bag' : List (Message S)} {c : ℕ} → Same bag bag' →
        Invariant π limit (record { searches = ss; bests = B; bag = bag; count = c }) → Invariant π limit (record { searches = ss; bests = B; bag = bag'; count = c })
    any_order_keeps same i = record {
      notices = i.notices;
      stops = i.stops;
      bag_is = same_trans i.bag_is same;
      rooted = i.rooted;
      sound = i.sound;
      searches_few = i.searches_few;
      notices_few = i.notices_few;
      good = i.good;
      held = i.held;
      noticed = i.noticed;
      covered = i.covered;
      ending = elim i.ending [ under_way e empty owed ↦ under_way e empty owed | over e a b owed ↦ over e a b owed ];
    }

    -- every move
    pub move_keeps : {taken : List (Message S)} {st st' : State S} → Move π limit st taken st' → Invariant π limit st → Invariant π limit st'
    move_keeps (a_step rest w step o out into) i = step_keeps rest w step o out i into
    move_keeps (a_notice kind out) i = notice_keeps kind out i
    move_keeps (a_stop kind out) i = stop_keeps kind out i

    pub move_improves : {taken : List (Message S)} {st st' : State S} → Move π limit st taken st' → Invariant π limit st → Improves π st.bests st'.bests
    move_improves (a_step rest w step o out into) i = (kept rest w step o out i).improves
    move_improves (a_notice kind out) i = notice_improves kind out i
    move_improves (a_stop kind out) i = stop_improves kind out i

    pub move_counts : {taken : List (Message S)} {st st' : State S} → Move π limit st taken st' → st'.count ≡ length taken + st.count
    move_counts (a_step rest w step o out into) = refl
    move_counts (a_notice kind out) = refl
    move_counts (a_stop kind out) = refl

    -- and so all of them
    pub moves_keep : {k : ℕ} {st st' : State S} → Moves π limit st k st' → Invariant π limit st → Invariant π limit st'
    moves_keep stay i = i
    moves_keep (move before m e) i = move_keeps m (moves_keep before i)

    pub moves_improve : {k : ℕ} {st st' : State S} → Moves π limit st k st' → Invariant π limit st → Improves π st.bests st'.bests
    moves_improve (stay {st = st}) i g = as_good_itself law.laws (st.bests g)
    moves_improve {st = st} (move {st' = mid} {st'' = end} before m e) i g = as_good_trans law.laws (end.bests g) (mid.bests g) (st.bests g) (move_improves m (moves_keep before i) g) (moves_improve before i g)

    pub moves_append : {k l : ℕ} {st st' st'' : State S} → Moves π limit st k st' → Moves π limit st' l st'' → Moves π limit st (l + k) st''
    moves_append {k = k} {st = st} first (stay {st = st'}) = let e : k ≡ 0 + k = omega arith in subst (λ (n : ℕ). Moves π limit st n st') e first
    moves_append first (move more m e) = move (moves_append first more) m (omega (arith, e))

    pub moves_count : {k : ℕ} {st st' : State S} → Moves π limit st k st' → st'.count ≡ k + st.count
    moves_count stay = omega arith
    moves_count (move before m e) = omega (arith, move_counts m, moves_count before)
