-- The acts of one search among all searches: steps without a message, and a message with what follows it, as moves of all. What they send
-- comes to wait as the link has it, the stops of the last homecoming with it, and none of it is lost. Serves start and deliver. Assumes
-- nothing.
use Rattle.std.proofs.Common.{◌≡◌, ℕ, suc, ◌+◌, ◌≤◌, true, false, List, [], ◌∷◌, ◌++◌, length, sym, refl, ap, ◌∙◌, subst, append_assoc, append-nil, arith}
use Rattle.std.proofs.lemmas.Bool.{cond-false}
use Rattle.job.specs.Plans.{heads}
use Rattle.problem.specs.Bags.{Same}
use Rattle.link.specs.declared.message.Message.{Message}
use Rattle.link.specs.Posting.{margin, accepted, loses, Sent}
use Rattle.link.proofs.Bags.{same_refl}
use Rattle.link.proofs.Posting.{accepted_none, sent_then}
use Rattle.searches.specs.Members.{Replaced, first, later}
use Rattle.searches.specs.Cubes.{Problem, Lawful}
use Rattle.searches.specs.Bests.{Bests}
use Rattle.searches.specs.Chains.{Focus, Root, Search}
use Rattle.searches.specs.Moves.{State, is_out, goes_to, farewell, a_step, Moves, move}
use Rattle.searches.specs.Invariant.{Invariant}
use Rattle.searches.specs.Promises.{is_settled}
use Rattle.searches.proofs.Homes.{one_is_out}
use Rattle.searches.proofs.Moves.{step_loses_none, moves_keep}
use Rattle.run.proofs.Silences.{Silent, last, next}
use Rattle.run.proofs.Expected.{Walk, at_once, and_on}

module _ {S : Type 0} where
  -- a search among others
  abbrev pub among : List (Search S) → Search S → List (Search S) → List (Search S)
  among front s back = front ++ s ∷ back

  pub replaced_among : (front : List (Search S)) (s t : Search S) (back : List (Search S)) → Replaced s t (among front s back) (among front t back)
  replaced_among [] s t back = first
  replaced_among (x ∷ front) s t back = later (replaced_among front s t back)

  -- where a search is that can be replaced
  pub replaced_splits : {s t : Search S} {ss ts : List (Search S)} → Replaced s t ss ts → (front : List (Search S)) × (back : List (Search S)) × (ss ≡ among front s back)
  replaced_splits (first {xs = xs}) = ([], xs, refl)
  replaced_splits (later {x = x} w) = let k = replaced_splits w in (x ∷ k.0, k.1, ap (λ t. x ∷ t) k.2)

  module _ {π : Problem S} where
    pub silent_settles : {r : Root} {v : ℕ} {B B' : Bests S} {f f' : Focus S} {notes posts : List (Message S)} → Silent π r v B f notes posts B' f' → is_settled f' ≡ true
    silent_settles (last t e) = e
    silent_settles (next t a k) = silent_settles k

    pub walk_settles : {r : Root} {v : ℕ} {B B' : Bests S} {f f' : Focus S} {m : Message S} {notes posts : List (Message S)} → Walk π r v B f m notes posts B' f' → is_settled f' ≡ true
    walk_settles (at_once t a e) = e
    walk_settles (and_on t a k) = silent_settles k

module _ {S : Type 0} {π : Problem S} (law : Lawful π) (limit : ℕ) (margin_fits : margin ≤ limit) {others : List ℕ} (o : Same (1 ∷ others) (heads π.job)) where
  -- no stop is sent while a search is out
  quiet_while_out : (front : List (Search S)) (s : Search S) (back : List (Search S)) (f : Focus S) (B : Bests S) → is_out f ≡ true → farewell (among front (goes_to s f) back) B others ≡ []
  quiet_while_out front s back f B e = cond-false _ _ _ (one_is_out (replaced_among front (goes_to s f) (goes_to s f) back) e)

  -- a search has come to do something, and what it sent was sent where `rest` waits
  pub record Moved (k : ℕ) (from : State S) (front : List (Search S)) (s : Search S) (back : List (Search S)) (B : Bests S) (f : Focus S) (rest notes posts : List (Message S)) (c : ℕ) : Type 0 where
    pub bag : List (Message S)
    pub count : ℕ
    pub moves : Moves π limit from k (record { searches = among front (goes_to s f) back; bests = B; bag = bag; count = count })
    pub counts : count ≡ c
    pub sent : Sent limit rest (notes ++ (posts ++ farewell (among front (goes_to s f) back) B others)) false limit bag

  pub silence_moves : {k : ℕ} {from : State S} (front : List (Search S)) (s : Search S) (back : List (Search S)) {B B' : Bests S} {f f' : Focus S} {notes posts bag : List (Message S)} {c : ℕ} →
      Silent π s.root s.number B f notes posts B' f' → Invariant π limit from → Moves π limit from k (record { searches = among front (goes_to s f) back; bests = B; bag = bag; count = c }) →
      Moved k from front s back B' f' bag notes posts c
  silence_moves front s back {f = f} {f' = f'} {bag = bag} {c = c} (last t e) i run =
      let w = replaced_among front (goes_to s f) (goes_to s f') back in
      record {
        bag = _;
        count = 0 + c;
        moves = move run (a_step bag w t o (same_refl bag) (same_refl _)) (omega arith);
        counts = omega arith;
        sent = record {
          limit_stays = refl;
          waits = same_refl _;
          losses = sym (step_loses_none law limit margin_fits bag w t o (same_refl bag) (moves_keep law limit margin_fits run i));
        };
      }
  silence_moves {k = k} {from = from} front s back {B' = B₂} {f = f} {f' = f₂} {posts = posts} {bag = bag} {c = c} (next {B' = B₁} {f' = f₁} {notes = notes} {notes' = notes'} t a rest) i run =
      let w = replaced_among front (goes_to s f) (goes_to s f₁) back in
      let none_yet : farewell (among front (goes_to s f₁) back) B₁ others ≡ [] = quiet_while_out front s back f₁ B₁ a in
      let all_sent : notes ++ ([] ++ farewell (among front (goes_to s f₁) back) B₁ others) ≡ notes = ap (λ z. notes ++ z) none_yet ∙ append-nil notes in
      let waits : List (Message S) = bag ++ accepted limit (length bag) notes in
      let into : Same (bag ++ accepted limit (length bag) (notes ++ ([] ++ farewell (among front (goes_to s f₁) back) B₁ others))) waits = rw all_sent (same_refl _) in
      let kept : loses limit (length bag) notes ≡ false = subst (λ (ms : List (Message S)). loses limit (length bag) ms ≡ false) all_sent (step_loses_none law limit margin_fits bag w t o (same_refl bag) (moves_keep law limit margin_fits run i)) in
      let now : Sent limit bag notes false limit waits = record { limit_stays = refl; waits = same_refl _; losses = sym kept } in
      let l : Moved k from front s back B₂ f₂ waits notes' posts (0 + c) = silence_moves front s back rest i (move run (a_step bag w t o (same_refl bag) into) (omega arith)) in
      record {
        bag = l.bag;
        count = l.count;
        moves = l.moves;
        counts = omega (arith, l.counts);
        sent = subst (λ (ms : List (Message S)). Sent limit bag ms false limit l.bag) (sym (append_assoc notes notes' _)) (sent_then now l.sent);
      }

  pub walk_moves : {k c : ℕ} {from : State S} (front : List (Search S)) (s : Search S) (back : List (Search S)) {B B' : Bests S} {f' : Focus S} {m : Message S} {notes posts bag : List (Message S)} (rest : List (Message S)) →
      Walk π s.root s.number B s.focus m notes posts B' f' → Invariant π limit from → Same (m ∷ rest) bag →
      Moves π limit from k (record { searches = among front s back; bests = B; bag = bag; count = c }) → Moved (suc k) from front s back B' f' rest notes posts (suc c)
  walk_moves {c = c} front s back {f' = f'} rest (at_once t a e) i out run =
      let w = replaced_among front s (goes_to s f') back in
      record {
        bag = _;
        count = 1 + c;
        moves = move run (a_step rest w t o out (same_refl _)) (omega arith);
        counts = omega arith;
        sent = record {
          limit_stays = refl;
          waits = same_refl _;
          losses = sym (step_loses_none law limit margin_fits rest w t o out (moves_keep law limit margin_fits run i));
        };
      }
  walk_moves {k = k} {c = c} {from = from} front s back {B' = B₂} {f' = f₂} {notes = notes} {posts = posts} rest (and_on {B' = B₁} {f' = f₁} t a more) i out run =
      let w = replaced_among front s (goes_to s f₁) back in
      let none_yet : farewell (among front (goes_to s f₁) back) B₁ others ≡ [] = quiet_while_out front s back f₁ B₁ a in
      let into : Same (rest ++ accepted limit (length rest) ([] ++ ([] ++ farewell (among front (goes_to s f₁) back) B₁ others))) rest = rw (none_yet, accepted_none S limit (length rest), append-nil rest) (same_refl rest) in
      let l : Moved (suc k) from front s back B₂ f₂ rest notes posts (1 + c) = silence_moves front s back more i (move run (a_step rest w t o out into) (omega arith)) in
      record { bag = l.bag; count = l.count; moves = l.moves; counts = omega (arith, l.counts); sent = l.sent }
