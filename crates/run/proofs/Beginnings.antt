-- A granted start, as a part of a run of the searches: head 1 searches on in each search in turn, which is a chain of steps of each that
-- take no message, and the moment after it shows what the searches then do. Serves the theorem. Assumes nothing.
use Rattle.std.proofs.Common.{◌≡◌, ℕ, zero, suc, ◌+◌, ◌-◌, ◌<◌, ◌≤◌, Bool, false, cond, eqb, List, [], ◌∷◌, ◌++◌, map, length, get_or, drop, replicate, sym, refl, ap, ◌∙◌, subst, ap₂, inl, inr, append_assoc, append-nil, arith}
use mathlib.Core.List.{cons≢nil}
use Rattle.std.specs.List.{range_with_len, AllByRecursion as All}
use Rattle.std.proofs.lemmas.List.FromFn.{length-range_with_len}
use Rattle.std.proofs.lemmas.List.{length-append, get_or_append_left, get_or-replicate, get_or_past}
use Rattle.std.proofs.lemmas.Bool.{cases_Bool, cases_eq, cases_lt, cond-true, cond-false, eq-eqb, ne_eqb}
use Rattle.scale.specs.Operations.{Operations}
use Rattle.job.specs.declared.job.Job.{Job}
use Rattle.job.specs.Plans.{setups, named, empty}
use Rattle.problem.specs.Costs.{joined_pairs}
use Rattle.problem.proofs.Naming.{setups_few}
use Rattle.problem.proofs.Weights.{setups_some}
use Rattle.link.specs.declared.message.Message.{Message}
use Rattle.link.specs.Posting.{margin, Sent}
use Rattle.link.proofs.Bags.{same_refl, same_sym, same_trans}
use Rattle.link.proofs.Posting.{sent_then}
use Rattle.head.specs.declared.best.Best.{Best}
use Rattle.head.specs.declared.record.Record.{Record}
use Rattle.head.specs.SetupSets.{only_setup, members}
use Rattle.head.specs.Bests.{at_first}
use Rattle.head.specs.Views.{View, rests, spot}
use Rattle.head.specs.Searching.{others, Searched, trying, search_on}
use Rattle.head.specs.Lent.{Lent, Enough}
use Rattle.searches.specs.Cubes.{Problem, Lawful}
use Rattle.searches.specs.Bests.{Bests, put}
use Rattle.searches.specs.Chains.{Root, Search, Acts, Sound}
use Rattle.searches.specs.Steps.{cost_of}
use Rattle.searches.specs.Moves.{State, all_home, goes_to, farewell, first_search, beginning, Moves, stay}
use Rattle.searches.specs.Invariant.{Invariant}
use Rattle.searches.specs.Promises.{Settled}
use Rattle.searches.proofs.Members.{all_at_replaced}
use Rattle.searches.proofs.Cubes.{empty_unnamed}
use Rattle.searches.proofs.Bests.{put_there}
use Rattle.searches.proofs.Moves.{moves_keep}
use Rattle.searches.proofs.Promises.{beginning_holds}
use Rattle.run.specs.declared.run.Run.{Run}
use Rattle.run.specs.Worlds.{World, at, all_out, come_home, stops}
use Rattle.run.specs.Starting.{Begun, root, begin, begun, Begins}
use Rattle.run.proofs.Bits.{bits, outs, first_are_out, none_is_out, first_are_not_home}
use Rattle.run.proofs.Sets.{those_none, members_of_only}
use Rattle.run.proofs.Foci.{with_view, with_view_else, all_rest, Shows, shows_like}
use Rattle.run.proofs.Silences.{SearchesOn, searches_on}
use Rattle.run.proofs.Walking.{among, replaced_among, silent_settles, Moved, silence_moves}
use Rattle.run.proofs.Moments.{numbers, numbers_stay, placed, out_goes, seen_at, seen_there, seen_nowhere, Mirrors}
use Rattle.run.proofs.Deliveries.{others_of_one}

-- the empty plan costs nothing
empty_costs_nothing : {S : Type 0} (π : Problem S) → cost_of π empty ≡ π.scale.nothing
unfolding joined_pairs
empty_costs_nothing π = ap (joined_pairs π.scale _) (those_none (named empty) 1 π.job.heads (λ k l u. empty_unnamed k))

module _ {S : Type 0} where
  -- the views of a search in which head 1 alone may not rest
  abbrev only_one : View S → ℕ → View S
  only_one x = with_view (λ g. rests) 1 x

module _ {S : Type 0} (π : Problem S) where
  -- each of some searches shows at head 1 one of some views, and rests elsewhere
  abbrev EachShows : List (Search S) → List (View S) → Type 0
  EachShows [] [] = Unit {0}
  EachShows [] (x ∷ xs) = ⊥
  EachShows (s ∷ ss) [] = ⊥
  EachShows (s ∷ ss) (x ∷ xs) = Shows π s.root s.focus (only_one x) × EachShows ss xs

  as_many_views : (ss : List (Search S)) (xs : List (View S)) → EachShows ss xs → length xs ≡ length (numbers ss)
  as_many_views [] [] a = refl
  as_many_views [] (x ∷ xs) a = elim a [ ]
  as_many_views (s ∷ ss) [] a = elim a [ ]
  as_many_views (s ∷ ss) (x ∷ xs) a = ap suc (as_many_views ss xs a.1)

  -- records that show these views show the searches
  each_shown : (records : List (Record S)) (whole : List (View S)) (ss : List (Search S)) (xs : List (View S)) (a d : ℕ) → a + d ≤ 8 → numbers ss ≡ range_with_len a d → EachShows ss xs →
      ((k : ℕ) → get_or whole (a + k) rests ≡ get_or xs k rests) → ((v : ℕ) → v < 8 → (g : ℕ) → seen_at π.scale records v g ≡ only_one (get_or whole v rests) g) →
      All (λ s. Shows π s.root s.focus (seen_at π.scale records s.number)) ss
  each_shown records whole [] [] a d few e sh at_place seen = tt
  each_shown records whole [] (x ∷ xs) a d few e sh at_place seen = elim sh [ ]
  each_shown records whole (s ∷ ss) [] a d few e sh at_place seen = elim sh [ ]
  each_shown records whole (s ∷ ss) (x ∷ xs) a zero few e sh at_place seen = absurd (cons≢nil e)
  each_shown records whole (s ∷ ss) (x ∷ xs) a (suc d) few e sh at_place seen =
      let first : s.number ≡ a = cc in
      let rest : numbers ss ≡ range_with_len (a + 1) d = cc in
      let here : get_or whole s.number rests ≡ x = let z : s.number ≡ a + 0 = omega arith in ap (λ (n : ℕ). get_or whole n rests) z ∙ at_place 0 in (
        shows_like π s.root (λ g. seen s.number (omega arith) g ∙ ap (λ (y : View S). only_one y g) here) sh.0,
        each_shown records whole ss xs (a + 1) d (omega arith) rest sh.1 (λ k. let z : a + 1 + k ≡ a + suc k = omega arith in ap (λ (n : ℕ). get_or whole n rests) z ∙ at_place (suc k)) seen,
      )

module _ {S : Type 0} {π : Problem S} (law : Lawful π) (limit : ℕ) (margin_fits : margin ≤ limit) {from : State S} (holds : Invariant π limit from) where
  -- what head 1 does in some searches, as moves of all
  record GoesThrough (front : List (Search S)) (vs : List ℕ) (B : Bests S) (bag : List (Message S)) (b : Begun π.scale) : Type 0 where
    searches : List (Search S)
    bests : Bests S
    waits : List (Message S)
    moves : Moves π limit from 0 (record { searches = front ++ searches; bests = bests; bag = waits; count = 0 })
    sent : Sent limit bag b.sends false limit waits
    put_in : (g : ℕ) → bests g ≡ put B 1 b.best g
    out : b.out ≡ bits (outs (front ++ searches))
    numbered : numbers searches ≡ vs
    each : EachShows π searches b.views
    settled : Settled searches

  abbrev start_of : Job → List S → List ℕ → Best S → ℕ → Begun π.scale
  start_of j costs vs best out = begin π.scale j costs vs best out

  -- head 1 searches on in one search
  module _ (front : List (Search S)) (v : ℕ) (vs : List ℕ) (B : Bests S) (best : Best S) (out : ℕ) (bag : List (Message S)) (is : B 1 ≡ best)
      (numbered : numbers (front ++ map first_search (v ∷ vs)) ≡ range_with_len 0 (setups π.job 1)) (out_is : out ≡ bits (outs (front ++ map first_search (v ∷ vs))))
      (so_far : Moves π limit from 0 (record { searches = front ++ map first_search (v ∷ vs); bests = B; bag = bag; count = 0 })) where
    abbrev back : List (Search S)
    back = map first_search vs

    abbrev result : Searched S
    result = search_on π.scale π.job π.costs 1 v (root π.scale) (only_setup v) best

    abbrev out_later : ℕ
    out_later = cond result.home (come_home out v) out

    now_holds : Invariant π limit (record { searches = among front (first_search v) back; bests = B; bag = bag; count = 0 })
    now_holds = moves_keep law limit margin_fits so_far holds

    acts : Acts π (first_search {S = S} v).root 1 (v ∷ []) []
    acts = all_at_replaced (λ s. Sound π s.root s.focus) (replaced_among front (first_search v) (first_search v) back) now_holds.sound

    few : v < 8
    few = omega (arith, (all_at_replaced _ (replaced_among front (first_search v) (first_search v) back) now_holds.rooted).numbered, setups_few π.job 1)

    place : v ≡ length front
    place = omega (arith, (placed front (first_search v) back 0 (setups π.job 1) numbered).place)

    goes : SearchesOn π (first_search {S = S} v).root v B 1 (v ∷ []) [] result
    goes =
        let r : Root = (first_search {S = S} v).root in
        let on : S → List ℕ → Searched S = λ (c : S) (is : List ℕ). trying π.scale π.job π.costs 1 v (record { received = empty; cost = c; sender = 0 }) is (only_setup v) best in
        let t : SearchesOn π r v B 1 (v ∷ []) [] (on (cost_of π empty) (v ∷ [])) = searches_on π r refl v 1 [] (v ∷ []) (only_setup v) B best is acts (members_of_only v few) in
        subst (λ (c : S). SearchesOn π r v B 1 (v ∷ []) [] (on c (members (only_setup v)))) (empty_costs_nothing π)
        (subst (λ (xs : List ℕ). SearchesOn π r v B 1 (v ∷ []) [] (on (cost_of π empty) xs)) (sym (members_of_only v few)) t)

    abbrev new : Search S
    new = goes_to (first_search v) goes.focus'

    moved : Moved law limit margin_fits (others_of_one law limit margin_fits) 0 from front (first_search v) back goes.bests' goes.focus' bag result.notices result.posts 0
    moved = silence_moves law limit margin_fits (others_of_one law limit margin_fits) front (first_search v) back goes.silent holds so_far

    out_later_is : out_later ≡ bits (outs (among front new back))
    out_later_is = out_goes front (first_search v) back goes.focus' out result.home place out_is refl goes.came

    best_later : goes.bests' 1 ≡ result.best
    best_later = goes.bests 1 ∙ put_there B 1 result.best

    shown_later : Shows π (first_search {S = S} v).root goes.focus' (only_one result.view)
    shown_later = goes.shown (λ g. rests) (all_rest (λ g. refl))

    moves_later : Moves π limit from 0 (record { searches = among front new back; bests = goes.bests'; bag = moved.bag; count = 0 })
    moves_later = subst (λ (c : ℕ). Moves π limit from 0 (record { searches = among front new back; bests = goes.bests'; bag = moved.bag; count = c })) moved.counts moved.moves

    -- the searches after this one stand behind it
    behind : (xs : List (Search S)) → front ++ new ∷ xs ≡ (front ++ new ∷ []) ++ xs
    behind xs = sym (append_assoc front (new ∷ []) xs)

    -- the stops follow if none is out then
    stops_follow : cond (eqb out_later 0) (stops π.job result.best) [] ≡ farewell (among front new back) goes.bests' (others π.job 1)
    stops_follow = ap₂ (λ (b : Bool) (x : Best S). cond b (stops π.job x) []) (ap (λ (n : ℕ). eqb n 0) out_later_is ∙ none_is_out (among front new back)) (sym best_later)

    -- or head 1 goes through the rest
    with_rest : (b : Begun π.scale) → all_home (among front new back) ≡ false → GoesThrough (front ++ new ∷ []) vs goes.bests' moved.bag b →
        GoesThrough front (v ∷ vs) B bag (record { views = result.view ∷ b.views; best = b.best; sends = (result.notices ++ result.posts) ++ b.sends; out = b.out })
    with_rest b not_home g = record {
      searches = new ∷ g.searches;
      bests = g.bests;
      waits = g.waits;
      moves = subst (λ (ss : List (Search S)). Moves π limit from 0 (record { searches = ss; bests = g.bests; bag = g.waits; count = 0 })) (sym (behind g.searches)) g.moves;
      sent = sent_then now g.sent;
      put_in = λ h. g.put_in h ∙ put_over goes.bests' B result.best b.best goes.bests h;
      out = g.out ∙ ap (λ (ss : List (Search S)). bits (outs ss)) (sym (behind g.searches));
      numbered = ap (λ z. v ∷ z) g.numbered;
      each = (shown_later, g.each);
      settled = (silent_settles goes.silent, g.settled);
    }
      where
        none_yet : farewell (among front new back) goes.bests' (others π.job 1) ≡ []
        none_yet = cond-false _ _ _ not_home

        now : Sent limit bag (result.notices ++ result.posts) false limit moved.bag
        now = subst (λ (ms : List (Message S)). Sent limit bag ms false limit moved.bag) (ap (λ z. result.notices ++ (result.posts ++ z)) none_yet ∙ ap (λ z. result.notices ++ z) (append-nil result.posts)) moved.sent

        put_over : (C D : Bests S) (x y : Best S) → ((g : ℕ) → C g ≡ put D 1 x g) → (g : ℕ) → put C 1 y g ≡ put D 1 y g
        put_over C D x y e g = elim (cases_Bool (eqb g 1)) [
          | inl k ↦ cond-true _ _ _ k ∙ sym (cond-true _ _ _ k)
          | inr k ↦ cond-false _ _ _ k ∙ e g ∙ cond-false _ _ _ k ∙ sym (cond-false _ _ _ k)
        ]

  -- in all that are left
  goes_through : (front : List (Search S)) (v : ℕ) (vs : List ℕ) (B : Bests S) (best : Best S) (out : ℕ) (bag : List (Message S)) → B 1 ≡ best →
      numbers (front ++ map first_search (v ∷ vs)) ≡ range_with_len 0 (setups π.job 1) → out ≡ bits (outs (front ++ map first_search (v ∷ vs))) →
      Moves π limit from 0 (record { searches = front ++ map first_search (v ∷ vs); bests = B; bag = bag; count = 0 }) → GoesThrough front (v ∷ vs) B bag (start_of π.job π.costs (v ∷ vs) best out)
  unfolding begin
  goes_through front v [] B best out bag is numbered out_is so_far =
      let t = goes front v [] B best out bag is numbered out_is so_far in
      let r : Searched S = result front v [] B best out bag is numbered out_is so_far in
      let m = moved front v [] B best out bag is numbered out_is so_far in
      record {
        searches = new front v [] B best out bag is numbered out_is so_far ∷ [];
        bests = t.bests';
        waits = m.bag;
        moves = moves_later front v [] B best out bag is numbered out_is so_far;
        sent = subst (λ (ms : List (Message S)). Sent limit bag ms false limit m.bag)
            (sym (append_assoc r.notices r.posts _ ∙ ap (λ z. r.notices ++ (r.posts ++ z)) (stops_follow front v [] B best out bag is numbered out_is so_far))) m.sent;
        put_in = t.bests;
        out = out_later_is front v [] B best out bag is numbered out_is so_far;
        numbered = refl;
        each = (shown_later front v [] B best out bag is numbered out_is so_far, tt);
        settled = (silent_settles t.silent, tt);
      }
  goes_through front v (u ∷ us) B best out bag is numbered out_is so_far =
      let s : Search S = new front v (u ∷ us) B best out bag is numbered out_is so_far in
      let t = goes front v (u ∷ us) B best out bag is numbered out_is so_far in
      let together = behind front v (u ∷ us) B best out bag is numbered out_is so_far (map first_search (u ∷ us)) in
      with_rest front v (u ∷ us) B best out bag is numbered out_is so_far _ (ap all_home together ∙ first_are_not_home (front ++ s ∷ []) u us)
      (goes_through (front ++ s ∷ []) u us t.bests' (result front v (u ∷ us) B best out bag is numbered out_is so_far).best (out_later front v (u ∷ us) B best out bag is numbered out_is so_far)
      (moved front v (u ∷ us) B best out bag is numbered out_is so_far).bag (best_later front v (u ∷ us) B best out bag is numbered out_is so_far)
      (ap numbers (sym together) ∙ numbers_stay front (first_search v) (map first_search (u ∷ us)) t.focus' ∙ numbered)
      (out_later_is front v (u ∷ us) B best out bag is numbered out_is so_far ∙ ap (λ (ss : List (Search S)). bits (outs ss)) together)
      (subst (λ (ss : List (Search S)). Moves π limit from 0 (record { searches = ss; bests = t.bests'; bag = (moved front v (u ∷ us) B best out bag is numbered out_is so_far).bag; count = 0 })) together
      (moves_later front v (u ∷ us) B best out bag is numbered out_is so_far)))

-- The moment after a granted start shows searches to which moves lead from the beginning.
module _ {S : Type 0} {s : Operations S} (l : Lent S) (law : Lawful (record { scale = s; costs = l.costs; job = l.job })) (margin_fits : margin ≤ l.limit) (enough : Enough l) where
  abbrev problem : Problem S
  problem = record { scale = s; costs = l.costs; job = l.job }

  abbrev all_numbers : List ℕ
  all_numbers = range_with_len 0 (setups l.job 1)

  numbers_of_first : (vs : List ℕ) → numbers (map (first_search {S = S}) vs) ≡ vs
  numbers_of_first [] = refl
  numbers_of_first (v ∷ vs) = ap (λ z. v ∷ z) (numbers_of_first vs)

  from_the_first : (vs : List ℕ) → vs ≡ all_numbers → (holds : Invariant problem l.limit (beginning s vs)) →
      GoesThrough law l.limit margin_fits holds [] vs (λ g. at_first s) [] (begin s l.job l.costs vs (at_first s) (all_out (setups l.job 1)))
  from_the_first [] e holds = absurd (omega (arith, ap length e, length-range_with_len 0 (setups l.job 1), setups_some l.job 1 (omega arith) l.job.one))
  from_the_first (v ∷ vs) e holds =
      let many : length (v ∷ vs) ≡ setups l.job 1 = ap length e ∙ length-range_with_len 0 (setups l.job 1) in
      goes_through law l.limit margin_fits holds [] v vs (λ g. at_first s) (at_first s) (all_out (setups l.job 1)) [] refl (numbers_of_first (v ∷ vs) ∙ e) (sym (first_are_out S (v ∷ vs) ∙ ap all_out many)) stay

  pub first_holds : Invariant problem l.limit (beginning s all_numbers)
  first_holds = beginning_holds law l.limit all_numbers (same_refl all_numbers)

  pub record Started (w : World S) : Type 0 where
    pub state : State S
    pub moves : Moves problem l.limit (beginning s all_numbers) 0 state
    pub mirrors : Mirrors problem l.limit state w

  pub started : (run : Run) (l' : Lent S) → Begins s l run l' → Started (at l' run)
  started run l' b =
      let g = from_the_first all_numbers refl first_holds in
      let whole : List (View S) = (begun s l).views in
      let many : length whole ≡ setups l.job 1 = as_many_views problem g.searches whole g.each ∙ ap length g.numbered ∙ length-range_with_len 0 (setups l.job 1) in
      record {
        state = record { searches = g.searches; bests = g.bests; bag = g.waits; count = 0 };
        moves = g.moves;
        mirrors = record {
          job = b.job;
          costs = b.costs;
          limit_is = b.sent.limit_stays;
          enough = record {
            records = omega (arith, b.as_many, enough.records);
            bests = omega (arith, ap length b.bests, length-append ((begun s l).best ∷ replicate 7 (at_first s)) (drop 8 l.bests));
            costs = omega (arith, ap length b.costs, enough.costs);
          };
          numbered = g.numbered;
          each = each_shown problem l'.records whole g.searches whole 0 (setups l.job 1) (omega (arith, setups_few l.job 1)) g.numbered g.each
              (λ k. let z : 0 + k ≡ k = omega arith in ap (λ (n : ℕ). get_or whole n rests) z) (λ v few h. seen_one l' b whole refl many v few h);
          out = ap (λ (x : Run). x.out) b.run ∙ g.out;
          bests = λ h k. ap (λ (bs : List (Best S)). get_or bs (h - 1) (at_first s)) b.bests ∙ best_one (begun s l).best (drop 8 l.bests) h k.one_up (omega (arith, k.to_last, l.job.eight)) ∙ sym (g.put_in h);
          bag = same_trans (same_sym g.sent.waits) b.sent.waits;
          count = ap (λ (x : Run). x.count) b.run;
          settled = g.settled;
        };
      }
    where
      best_one : (x : Best S) (more : List (Best S)) (h : ℕ) → 1 ≤ h → h ≤ 8 → get_or ((x ∷ replicate 7 (at_first s)) ++ more) (h - 1) (at_first s) ≡ put (λ g. at_first s) 1 x h
      best_one x more zero l u = absurd (omega arith)
      best_one x more (suc zero) l u = refl
      best_one x more (suc (suc k)) l u =
          let e : suc (suc k) - 1 ≡ suc k = omega arith in
          ap (λ (n : ℕ). get_or ((x ∷ replicate 7 (at_first s)) ++ more) n (at_first s)) e
          ∙ get_or_append_left (replicate 7 (at_first s)) more (at_first s) k (omega arith)
          ∙ get_or-replicate 7 k (at_first s) (at_first s) (omega arith)
          ∙ sym (cond-false _ _ _ (ne_eqb (suc (suc k)) 1 (omega arith)))

      seen_one : (l' : Lent S) (b : Begins s l run l') (whole : List (View S)) → (begun s l).views ≡ whole → length whole ≡ setups l.job 1 → (v : ℕ) → v < 8 → (h : ℕ) → seen_at s l'.records v h ≡ only_one (get_or whole v rests) h
      seen_one l' b whole e many v few h = elim (cases_lt h 1) [
        | inl lt ↦ seen_nowhere s l'.records v h (inl lt) ∙ sym (with_view_else (λ g. rests) 1 (get_or whole v rests) h (omega arith))
        | inr low ↦ elim (cases_lt 8 h) [
          | inl gt ↦ seen_nowhere s l'.records v h (inr gt) ∙ sym (with_view_else (λ g. rests) 1 (get_or whole v rests) h (omega arith))
          | inr high ↦
              seen_there s l'.records v h low high
              ∙ b.records (spot h v) (omega arith)
              ∙ ap (λ (xs : List (View S)). get_or xs (spot h v) rests) e
              ∙ elim (cases_eq h 1) [
                | inl one ↦ let z : spot h v ≡ v = omega arith in ap (λ (n : ℕ). get_or whole n rests) z ∙ sym (cond-true _ _ _ (eq-eqb h 1 one))
                | inr ne ↦ get_or_past whole (spot h v) rests (omega (arith, many, setups_few l.job 1)) ∙ sym (with_view_else (λ g. rests) 1 (get_or whole v rests) h ne)
              ]
        ]
      ]
