-- A delivery, as a part of a run of the searches: the message taken is one that a search or a head expects, so it is not stray; what its
-- head does is what the search does, and nothing that is sent is lost. Serves the theorem. Assumes nothing.
use Rattle.std.proofs.Common.{◌≡◌, ℕ, zero, suc, ◌+◌, ◌-◌, ◌<◌, ◌≤◌, Bool, true, false, cond, not, ◌&&◌, eqb, ◌≢◌, List, [], ◌∷◌, ◌++◌, length, get_or, set, sym, refl, ap, ◌∙◌, subst, ap₂, inl, inr, append-nil, arith}
use mathlib.Core.List.{cons≢nil}
use Rattle.std.specs.List.{range_with_len, AllByRecursion as All}
use Rattle.std.proofs.ByRecursion.{All-append, All-map}
use Rattle.std.proofs.lemmas.List.{length-set}
use Rattle.std.proofs.lemmas.Bool.{cases_Bool, cases_eq, cond-false, and_from, ne_eqb, lt-ltb, le-leb, not_from_false}
use Rattle.job.specs.declared.job.Job.{Job}
use Rattle.job.specs.Plans.{setups, heads}
use Rattle.problem.specs.Bags.{Out, Same}
use Rattle.problem.proofs.Naming.{setups_few}
use Rattle.problem.proofs.Weights.{setups_some}
use Rattle.link.specs.declared.message.Kind.{Kind}
use Rattle.link.specs.declared.message.Kind.TheVariants.{Notice, Stop}
use Rattle.link.specs.declared.message.Message.{Message}
use Rattle.link.specs.HeadSets.{Picks}
use Rattle.link.specs.Posting.{margin, accepted, loses, Sent}
use Rattle.link.proofs.Bags.{same_sym, same_trans}
use Rattle.link.proofs.Posting.{accepted_none, loses_none}
use Rattle.head.specs.declared.best.Best.{Best}
use Rattle.head.specs.declared.record.State.{State as Condition}
use Rattle.head.specs.declared.record.State.TheVariants.{Resting, Gathering, Below}
use Rattle.head.specs.declared.record.Record.{Record}
use Rattle.head.specs.Bests.{at_first}
use Rattle.head.specs.Views.{view, spot, Turned}
use Rattle.head.specs.Searching.{others}
use Rattle.head.specs.Replies.{Reply, choice, quietly, reply, asks_picker}
use Rattle.head.specs.Strays.{expects, is_addressed, is_sound, due, fits}
use Rattle.head.specs.Lent.{Lent, lent, is_out as has_bit, blank, best_of}
use Rattle.head.specs.Receiving.{its_record, is_due}
use Rattle.searches.specs.Cubes.{Problem, Lawful, Head}
use Rattle.searches.specs.Bests.{Bests, put}
use Rattle.searches.specs.Chains.{Focus, home, acting, asking, sending, coming, Root, Search, Sound}
use Rattle.searches.specs.Steps.{request, report, on_way}
use Rattle.searches.specs.Moves.{State, is_out, all_home, goes_to, farewell, a_notice, a_stop, Moves, move}
use Rattle.searches.specs.Invariant.{most_messages, has_on_way, Rooted, Invariant}
use Rattle.searches.specs.Promises.{is_settled, Suits, Proper}
use Rattle.searches.proofs.Members.{all_always, all_out, all_both, all_of_append, all_at_replaced, out_of_joined}
use Rattle.searches.proofs.Bests.{put_there}
use Rattle.searches.proofs.Homes.{one_is_out}
use Rattle.searches.proofs.Moves.{of_search, of_notices, of_stops, sort, a_noticed, a_stopping, moves_keep}
use Rattle.searches.proofs.Promises.{one_is_a_head, few_messages, proper}
use Rattle.run.specs.declared.run.Run.{Run}
use Rattle.run.specs.Worlds.{World, at, come_home, stops}
use Rattle.run.specs.Delivering.{counted, Delivered}
use Rattle.run.proofs.Bits.{bits, bit_at, outs, none_is_out}
use Rattle.run.proofs.Sets.{others_are}
use Rattle.run.proofs.Foci.{turned, Shows, shows_like, shown_is_sound}
use Rattle.run.proofs.Expected.{bests_test, Acted, acted, awaits}
use Rattle.run.proofs.Walking.{among, replaced_among, replaced_splits, walk_settles, Moved, walk_moves}
use Rattle.run.proofs.Moments.{numbers, numbers_stay, Placed, placed, outs_among, outs_length, out_goes, seen_at, seen_there, turned_there, turned_elsewhere, turned_length, best_put, most_messages_fit, ShownIn, Mirrors}

module _ {S : Type 0} where
  -- a search's messages have its number, and a search that has one is out
  on_way_numbered : (π : Problem S) (v : ℕ) (r : Root) (f : Focus S) → All (λ m. m.search ≡ v) (on_way π v r f)
  on_way_numbered π v r home = tt
  on_way_numbered π v r (acting h is up) = tt
  on_way_numbered π v r (asking t up asked answered heard) =
      All-append _ _ _ (All-map _ (request π v r t up) asked (all_always _ (λ u. refl) asked)) (All-map _ (report π v r t up) answered (all_always _ (λ u. refl) answered))
  on_way_numbered π v r (sending t up u) = (refl, tt)
  on_way_numbered π v r (coming t up u b) = (refl, tt)

  on_way_out : (π : Problem S) (v : ℕ) (r : Root) (f : Focus S) {m : Message S} {left : List (Message S)} → Out m (on_way π v r f) left → is_out f ≡ true
  on_way_out π v r home o = elim o [ ]
  on_way_out π v r (acting h is up) o = refl
  on_way_out π v r (asking t up asked answered heard) o = refl
  on_way_out π v r (sending t up u) o = refl
  on_way_out π v r (coming t up u b) o = refl

  -- the search with a number
  record Numbered (ss : List (Search S)) (v : ℕ) : Type 0 where
    front : List (Search S)
    found : Search S
    back : List (Search S)
    splits : ss ≡ among front found back
    number_is : found.number ≡ v

  numbered_later : (s : Search S) {ss : List (Search S)} {v : ℕ} → Numbered ss v → Numbered (s ∷ ss) v
  numbered_later s k = record { front = s ∷ k.front; found = k.found; back = k.back; splits = ap (λ t. s ∷ t) k.splits; number_is = k.number_is }

  search_numbered : (ss : List (Search S)) (a d v : ℕ) → numbers ss ≡ range_with_len a d → a ≤ v → v < a + d → Numbered ss v
  search_numbered ss a zero v e l u = absurd (omega arith)
  search_numbered [] a (suc d) v e l u = absurd (cons≢nil (sym e))
  search_numbered (s ∷ ss) a (suc d) v e l u =
      let first : s.number ≡ a = cc in
      let rest : numbers ss ≡ range_with_len (a + 1) d = cc in
      elim (cases_eq a v) [
        | inl same ↦ record { front = []; found = s; back = ss; splits = refl; number_is = first ∙ same }
        | inr ne ↦ numbered_later s (search_numbered ss (a + 1) d v rest (omega arith) (omega arith))
      ]

notice_any_time : (st : Condition) → expects st Notice ≡ true
notice_any_time Resting = refl
notice_any_time Gathering = refl
notice_any_time Below = refl

stop_any_time : (st : Condition) → expects st Stop ≡ true
stop_any_time Resting = refl
stop_any_time Gathering = refl
stop_any_time Below = refl

addressed : {S : Type 0} (j : Job) (m : Message S) → Proper j m → is_addressed j m ≡ true
addressed j m p =
    and_from _ _ (le-leb _ _ (setups_some j m.to p.to_head.one_up p.to_head.to_last))
    (and_from _ _ (le-leb _ _ (setups_some j m.from p.from_head.one_up p.from_head.to_last))
    (and_from _ _ (not_from_false _ (ne_eqb _ _ p.apart)) (and_from _ _ (lt-ltb _ _ p.of_search) p.of_job)))

-- a notice or a stop that is proper fits every sound record
module _ {S : Type 0} (j : Job) (out : Bool) (q : Record S) (m : Message S) (p : Proper j m) (sound : is_sound j m.to q ≡ true) where
  notice_fits : m.kind ≡ Notice → fits j out q m ≡ true
  notice_fits is =
      and_from _ _ (addressed j m p)
      (and_from _ _ sound (and_from _ _ (ap (λ (k : Kind). due j k out q m) is ∙ subst (λ (k : Kind). Suits j k m) is p.suits) (ap (expects q.state) is ∙ notice_any_time q.state)))

  stop_fits : m.kind ≡ Stop → fits j out q m ≡ true
  stop_fits is =
      let suits : Suits j Stop m = subst (λ (k : Kind). Suits j k m) is p.suits in
      and_from _ _ (addressed j m p)
      (and_from _ _ sound (and_from _ _
      (ap (λ (k : Kind). due j k out q m) is ∙ and_from _ _ (not_from_false _ (ne_eqb _ _ suits.1)) (bests_test j m.plan suits.0))
      (ap (expects q.state) is ∙ stop_any_time q.state)))

module _ {S : Type 0} {π : Problem S} (law : Lawful π) (limit : ℕ) (margin_fits : margin ≤ limit) where
  pub others_of_one : Same (1 ∷ others π.job 1) (heads π.job)
  others_of_one = others_are π.job 1 (one_is_a_head π.job)

  -- a moment at which the problem's job and costs are lent, with a link of this limit
  abbrev pub moment : List (Record S) → List (Best S) → List (Message S) → Run → World S
  moment records bests bag run = at (lent π.job π.costs records bests limit bag) run

  -- An act of head h in search v changes the moment so; `rest` waits but for what it sends.
  abbrev out_then : Run → ℕ → Reply S → ℕ
  out_then run v result = cond result.home (come_home run.out v) run.out

  abbrev stops_then : Run → ℕ → Reply S → List (Message S)
  stops_then run v result = cond (result.home && eqb (out_then run v result) 0) (stops π.job result.best) []

  pub record After (records : List (Record S)) (bests : List (Best S)) (run : Run) (h v : ℕ) (rest : List (Message S)) (result : Reply S) (lost : Bool) (w' : World S) : Type 0 where
    pub job_stays : w'.lent.job ≡ π.job
    pub costs_stay : w'.lent.costs ≡ π.costs
    pub records_turn : Turned records (spot h v) result.turn w'.lent.records
    pub best_put_in : w'.lent.bests ≡ set bests (h - 1) result.best
    pub sent : Sent limit rest (result.notices ++ (result.posts ++ stops_then run v result)) lost w'.lent.limit w'.lent.bag
    pub run_then : w'.run ≡ record { out = out_then run v result; count = counted run.count }

  -- What comes of it: moves of the searches, to a state that the moment then shows, and nothing lost.
  pub record ComesTo (k : ℕ) (from : State S) (lost : Bool) (w' : World S) : Type 0 where
    pub state : State S
    pub moves : Moves π limit from k state
    pub mirrors : Mirrors π limit state w'
    pub unlost : lost ≡ false

  count_then : (c d : ℕ) → d ≡ suc c → d ≤ most_messages π.job → counted c ≡ d
  count_then c d e few = omega (arith, most_messages_fit π.job)

  module _ (front : List (Search S)) (s : Search S) (back : List (Search S)) (B : Bests S) (bag : List (Message S)) (c : ℕ)
      (records : List (Record S)) (bests : List (Best S)) (waiting : List (Message S)) (run : Run)
      (i : Invariant π limit (record { searches = among front s back; bests = B; bag = bag; count = c }))
      (m₀ : Mirrors π limit (record { searches = among front s back; bests = B; bag = bag; count = c }) (moment records bests waiting run)) where
    where_it_is : Placed front s back 0
    where_it_is = placed front s back 0 (setups π.job 1) m₀.numbered

    rooted : Rooted π s
    rooted = all_at_replaced _ (replaced_among front s s back) i.rooted

    few : s.number < 8
    few = omega (arith, rooted.numbered, setups_few π.job 1)

    at_its_place : s.number ≡ length (outs front)
    at_its_place = omega (arith, where_it_is.place, outs_length front)

    sound : Sound π s.root s.focus
    sound = all_at_replaced _ (replaced_among front s s back) i.sound

    shown_now : ShownIn π limit records s
    shown_now = all_at_replaced _ (replaced_among front s s back) m₀.each

    out_now : run.out ≡ bits (outs front ++ is_out s.focus ∷ outs back)
    out_now = m₀.out ∙ ap bits (outs_among front s back)

    out_bit : has_bit run.out s.number ≡ is_out s.focus
    out_bit = ap₂ has_bit out_now at_its_place ∙ bit_at (outs front) (is_out s.focus) (outs back)

    -- the search has gone on
    module _ {k : ℕ} {from : State S} (holds : Invariant π limit from) (h : ℕ) (head : Head π.job h) (rest : List (Message S)) (result : Reply S) (B' : Bests S) (f' : Focus S) (was : is_out s.focus ≡ true) (settles : is_settled f' ≡ true)
        (shown : Shows π s.root f' (turned (seen_at π.scale records s.number) h result.turn)) (put_in : (g : ℕ) → B' g ≡ put B h result.best g) (came : is_out f' ≡ not result.home)
        (at_one : result.home ≡ true → h ≡ 1) (moved : Moved law limit margin_fits others_of_one (suc k) from front s back B' f' rest result.notices result.posts (suc c))
        {lost : Bool} {w' : World S} (then : After records bests run h s.number rest result lost w') where
      abbrev searches' : List (Search S)
      searches' = among front (goes_to s f') back

      out_then_is : out_then run s.number result ≡ bits (outs searches')
      out_then_is = out_goes front s back f' run.out result.home (omega (arith, where_it_is.place)) m₀.out was came

      stops_then_are : stops_then run s.number result ≡ farewell searches' B' (others π.job 1)
      stops_then_are = elim (cases_Bool result.home) [
        | inl e ↦
            let best : result.best ≡ B' 1 = sym (put_in 1 ∙ ap (put B h result.best) (sym (at_one e)) ∙ put_there B h result.best) in
            let none_out : eqb (out_then run s.number result) 0 ≡ all_home searches' = ap (λ (n : ℕ). eqb n 0) out_then_is ∙ none_is_out searches' in
            ap₂ (λ (b : Bool) (x : Best S). cond b (stops π.job x) []) (ap₂ (λ (x y : Bool). x && y) e none_out) best
        | inr e ↦
            ap (λ (b : Bool). cond (b && eqb (out_then run s.number result) 0) (stops π.job result.best) []) e
            ∙ sym (cond-false _ _ _ (one_is_out (replaced_among front (goes_to s f') (goes_to s f') back) (came ∙ ap not e)))
      ]

      sent_are : result.notices ++ (result.posts ++ stops_then run s.number result) ≡ result.notices ++ (result.posts ++ farewell searches' B' (others π.job 1))
      sent_are = ap (λ z. result.notices ++ (result.posts ++ z)) stops_then_are

      -- the other searches show what they showed
      other_shown : (x : Search S) → (x.number < 8) × (x.number ≢ s.number) → ShownIn π limit records x → ShownIn π limit w'.lent.records x
      other_shown x other sh =
          shows_like π x.root (turned_elsewhere π.scale records w'.lent.records h s.number m₀.enough.records head.one_up (omega (arith, head.to_last, π.job.eight)) few result.turn then.records_turn x.number other.0 other.1) sh

      each_shown : All (ShownIn π limit w'.lent.records) searches'
      each_shown =
          let parts = all_of_append (ShownIn π limit records) front (s ∷ back) m₀.each in
          let roots = all_of_append (Rooted π) front (s ∷ back) i.rooted in
          All-append _ front (goes_to s f' ∷ back)
          (all_both (λ x. x.number < s.number) (ShownIn π limit records) _ (λ x l sh. other_shown x (omega (arith, l, few), (λ e. omega (arith, l, e))) sh) front where_it_is.before parts.0) (
            shows_like π s.root (turned_there π.scale records w'.lent.records h s.number m₀.enough.records head.one_up (omega (arith, head.to_last, π.job.eight)) few result.turn then.records_turn) shown,
            all_both (λ x. (x.number < 8) × (x.number ≢ s.number)) (ShownIn π limit records) _ other_shown back
                (all_both (Rooted π) (λ x. s.number < x.number) _ (λ x q l. (omega (arith, q.numbered, setups_few π.job 1), (λ e. omega (arith, l, e)))) back roots.1.1 where_it_is.behind) parts.1.1,
          )

      pub comes_to : ComesTo (suc k) from lost w'
      comes_to = record {
        state = record { searches = searches'; bests = B'; bag = moved.bag; count = moved.count };
        moves = moved.moves;
        unlost = then.sent.losses ∙ ap (loses limit (length rest)) sent_are ∙ sym moved.sent.losses;
        mirrors = record {
          job = then.job_stays;
          costs = then.costs_stay;
          limit_is = then.sent.limit_stays;
          enough = record {
            records = omega (arith, m₀.enough.records, turned_length π.scale records w'.lent.records h s.number m₀.enough.records head.one_up (omega (arith, head.to_last, π.job.eight)) few result.turn then.records_turn);
            bests = omega (arith, m₀.enough.bests, ap length then.best_put_in, length-set bests (h - 1) result.best);
            costs = omega (arith, m₀.enough.costs, ap length then.costs_stay);
          };
          numbered = numbers_stay front s back f' ∙ m₀.numbered;
          each = each_shown;
          out = ap (λ (x : Run). x.out) then.run_then ∙ out_then_is;
          bests = λ g k. ap (λ (bs : List (Best S)). get_or bs (g - 1) (at_first π.scale)) then.best_put_in
              ∙ best_put π.scale bests B result.best h g m₀.enough.bests head.one_up (omega (arith, head.to_last, π.job.eight)) k.one_up (m₀.bests g k) ∙ sym (put_in g);
          bag = same_trans (same_sym moved.sent.waits) (subst (λ (ms : List (Message S)). Same (rest ++ accepted limit (length rest) ms) w'.lent.bag) sent_are then.sent.waits);
          count = ap (λ (x : Run). x.count) then.run_then ∙ ap counted m₀.count ∙ count_then c moved.count moved.counts (few_messages law limit (moves_keep law limit margin_fits moved.moves holds));
          settled = let parts = all_of_append _ front (s ∷ back) m₀.settled in All-append _ front (goes_to s f' ∷ back) parts.0 (settles, parts.1.1);
        };
      }

    -- a message of the search is taken: its head does what the search does
    module _ (m : Message S) {left : List (Message S)} (o : Out m (on_way π s.number s.root s.focus) left) (p : Proper π.job m) where
      its_number : m.search ≡ s.number
      its_number = (all_out _ o (on_way_numbered π s.number s.root s.focus)).0

      was_out : is_out s.focus ≡ true
      was_out = on_way_out π s.number s.root s.focus o

      looks_so : view (its_record π.scale (lent π.job π.costs records bests limit waiting) m) ≡ seen_at π.scale records s.number m.to
      looks_so = ap (λ (v : ℕ). view (get_or records (spot m.to v) (blank π.scale))) its_number
          ∙ sym (seen_there π.scale records s.number m.to p.to_head.one_up (omega (arith, p.to_head.to_last, π.job.eight)))

      best_is : best_of π.scale (lent π.job π.costs records bests limit waiting) m.to ≡ B m.to
      best_is = m₀.bests m.to p.to_head

      pub search_delivers : {k : ℕ} {from : State S} {lost : Bool} {w' : World S} → Invariant π limit from → Moves π limit from k (record { searches = among front s back; bests = B; bag = bag; count = c }) →
          Delivered π.scale (moment records bests waiting run) m lost w' → ComesTo (suc k) from lost w'
      search_delivers {lost = lost} {w' = w'} holds so_far d =
          let q : Record S = its_record π.scale (lent π.job π.costs records bests limit waiting) m in
          let picked : ℕ = d.acts.picked in
          let now : Best S → Reply S = λ (b : Best S). reply π.scale π.job π.costs picked q m b m.kind in
          let may : asks_picker π.scale π.job π.costs q m (B m.to) m.kind ≡ true → Picks (choice π.job m.to q) picked =
          λ e. d.acts.picks (ap (λ (b : Best S). asks_picker π.scale π.job π.costs q m b m.kind) best_is ∙ e) in
          let a : Acted π s.root s.number B s.focus (seen_at π.scale records s.number) m (now (B m.to)) =
          acted law s.root rooted.at_one s.number B picked q s.focus (seen_at π.scale records s.number) sound shown_now o looks_so may in
          let first : After records bests run m.to m.search d.acts.rest (now (best_of π.scale (lent π.job π.costs records bests limit waiting) m.to)) lost w' =
          record { job_stays = d.acts.job; costs_stay = d.acts.costs; records_turn = d.acts.records; best_put_in = d.acts.bests; sent = d.acts.sent; run_then = d.run } in
          let then : After records bests run m.to s.number d.acts.rest (now (B m.to)) lost w' =
          subst (λ (v : ℕ). After records bests run m.to v d.acts.rest (now (B m.to)) lost w') its_number
          (subst (λ (b : Best S). After records bests run m.to m.search d.acts.rest (now b) lost w') best_is first) in
          comes_to holds m.to p.to_head d.acts.rest (now (B m.to)) a.bests' a.focus' was_out (walk_settles a.walk) a.shown a.bests a.came a.at_one
          (walk_moves law limit margin_fits others_of_one front s back d.acts.rest a.walk holds (same_trans d.acts.taken (same_sym m₀.bag)) so_far) then

      pub search_expects : is_due π.scale run.out (lent π.job π.costs records bests limit waiting) m ≡ true
      search_expects =
          let q : Record S = its_record π.scale (lent π.job π.costs records bests limit waiting) m in
          let w = awaits law s.root rooted.at_one s.number q s.focus (seen_at π.scale records s.number) sound shown_now o looks_so p in
          ap (λ (b : Bool). fits π.job b q m) (ap (has_bit run.out) its_number ∙ out_bit ∙ was_out)
          ∙ and_from _ _ (addressed π.job m p) (and_from _ _ (shown_is_sound π s.root rooted.at_one m.to q sound shown_now looks_so) (and_from _ _ w.is_due w.expects_it))

  -- a notice or a stop is taken, or any message, whatever the searches are doing
  module _ (ss : List (Search S)) (B : Bests S) (bag : List (Message S)) (c : ℕ) (records : List (Record S)) (bests : List (Best S)) (waiting : List (Message S)) (run : Run)
      (i : Invariant π limit (record { searches = ss; bests = B; bag = bag; count = c })) (m₀ : Mirrors π limit (record { searches = ss; bests = B; bag = bag; count = c }) (moment records bests waiting run)) where
    abbrev lent_now : Lent S
    lent_now = lent π.job π.costs records bests limit waiting

    record_is_sound : (g v : ℕ) → Head π.job g → v < setups π.job 1 → is_sound π.job g (get_or records (spot g v) (blank π.scale)) ≡ true
    record_is_sound g v head few =
        let k : Numbered ss v = search_numbered ss 0 (setups π.job 1) v m₀.numbered (omega arith) (omega arith) in
        let w = replaced_among k.front k.found k.found k.back in
        let rooted : Rooted π k.found = all_at_replaced _ w (subst (All (Rooted π)) k.splits i.rooted) in
        let sound : Sound π k.found.root k.found.focus = all_at_replaced _ w (subst (All (λ s. Sound π s.root s.focus)) k.splits i.sound) in
        let shown : ShownIn π limit records k.found = all_at_replaced _ w (subst (All (ShownIn π limit records)) k.splits m₀.each) in
        shown_is_sound π k.found.root rooted.at_one g (get_or records (spot g v) (blank π.scale)) sound shown
        (sym (seen_there π.scale records v g head.one_up (omega (arith, head.to_last, π.job.eight))) ∙ sym (ap (λ (u : ℕ). seen_at π.scale records u g) k.number_is))

    -- only a best changes
    module _ {k : ℕ} {from : State S} (holds : Invariant π limit from) (h v : ℕ) (head : Head π.job h) (rest : List (Message S)) (best : Best S)
        (so_far : Moves π limit from (suc k) (record { searches = ss; bests = put B h best; bag = rest; count = 1 + c })) {lost : Bool} {w' : World S}
        (then : After records bests run h v rest (quietly π.scale π.job π.costs best) lost w') where
      best_comes_to : ComesTo (suc k) from lost w'
      best_comes_to = record {
        state = record { searches = ss; bests = put B h best; bag = rest; count = 1 + c };
        moves = so_far;
        unlost = then.sent.losses ∙ loses_none S limit (length rest);
        mirrors = record {
          job = then.job_stays;
          costs = then.costs_stay;
          limit_is = then.sent.limit_stays;
          enough = record {
            records = omega (arith, m₀.enough.records, ap length then.records_turn);
            bests = omega (arith, m₀.enough.bests, ap length then.best_put_in, length-set bests (h - 1) best);
            costs = omega (arith, m₀.enough.costs, ap length then.costs_stay);
          };
          numbered = m₀.numbered;
          each = subst (λ (rs : List (Record S)). All (ShownIn π limit rs) ss) (sym then.records_turn) m₀.each;
          out = ap (λ (x : Run). x.out) then.run_then ∙ m₀.out;
          bests = λ g k. ap (λ (bs : List (Best S)). get_or bs (g - 1) (at_first π.scale)) then.best_put_in
              ∙ best_put π.scale bests B best h g m₀.enough.bests head.one_up (omega (arith, head.to_last, π.job.eight)) k.one_up (m₀.bests g k);
          bag = subst (λ (ms : List (Message S)). Same ms w'.lent.bag) (ap (λ z. rest ++ z) (accepted_none S limit (length rest)) ∙ append-nil rest) then.sent.waits;
          count = ap (λ (x : Run). x.count) then.run_then ∙ ap counted m₀.count ∙ count_then c (1 + c) (omega arith) (few_messages law limit (moves_keep law limit margin_fits so_far holds));
          settled = m₀.settled;
        };
      }

    module _ (m : Message S) where
      -- what the head makes of a message, by the message's kind
      after_kind : {lost : Bool} {w' : World S} (d : Delivered π.scale (moment records bests waiting run) m lost w') (kind : Kind) → m.kind ≡ kind → Head π.job m.to →
          After records bests run m.to m.search d.acts.rest (reply π.scale π.job π.costs d.acts.picked (its_record π.scale lent_now m) m (B m.to) kind) lost w'
      after_kind {lost = lost} {w' = w'} d kind is head =
          let q : Record S = its_record π.scale lent_now m in
          let now : Best S → Kind → Reply S = λ (b : Best S) (k : Kind). reply π.scale π.job π.costs d.acts.picked q m b k in
          let first : After records bests run m.to m.search d.acts.rest (now (best_of π.scale lent_now m.to) m.kind) lost w' =
          record { job_stays = d.acts.job; costs_stay = d.acts.costs; records_turn = d.acts.records; best_put_in = d.acts.bests; sent = d.acts.sent; run_then = d.run } in
          subst (λ (k : Kind). After records bests run m.to m.search d.acts.rest (now (B m.to) k) lost w') is
          (subst (λ (b : Best S). After records bests run m.to m.search d.acts.rest (now b m.kind) lost w') (m₀.bests m.to head) first)

      -- the message taken is one that is expected
      pub delivery : {k : ℕ} {from : State S} {lost : Bool} {w' : World S} → Invariant π limit from → Moves π limit from k (record { searches = ss; bests = B; bag = bag; count = c }) →
          Delivered π.scale (moment records bests waiting run) m lost w' → ComesTo (suc k) from lost w'
      delivery {k = k} {from = from} {lost = lost} {w' = w'} holds so_far d =
          let out : Same (m ∷ d.acts.rest) bag = same_trans d.acts.taken (same_sym m₀.bag) in
          let p : Proper π.job m = proper law limit i margin_fits m d.acts.rest out in
          elim (sort law limit margin_fits out i) [
            | of_search left o ↦
                let f = out_of_joined (has_on_way π) ss o in
                let w = replaced_splits (f.3 f.0).1 in
                subst (λ (ts : List (Search S)). Invariant π limit (record { searches = ts; bests = B; bag = bag; count = c }) → Mirrors π limit (record { searches = ts; bests = B; bag = bag; count = c }) (moment records bests waiting run) →
                Moves π limit from k (record { searches = ts; bests = B; bag = bag; count = c }) → ComesTo (suc k) from lost w') (sym w.2)
                (λ i' m' so. search_delivers w.0 f.0 w.1 B bag c records bests waiting run i' m' m f.2 p holds so d) i m₀ so_far
            | of_notices left o same ↦
                let is : m.kind ≡ Notice = (a_noticed law limit margin_fits out i o).is_notice in
                best_comes_to holds m.to m.search p.to_head d.acts.rest _ (move so_far (a_notice is out) (omega arith)) (after_kind d Notice is p.to_head)
            | of_stops left o same ↦
                let is : m.kind ≡ Stop = ap (λ (x : Message S). x.kind) (a_stopping law limit margin_fits out i o).1.is_stop in
                best_comes_to holds m.to m.search p.to_head d.acts.rest _ (move so_far (a_stop is out) (omega arith)) (after_kind d Stop is p.to_head)
          ]

      -- and so none is stray
      pub never_stray : (rest : List (Message S)) → Same (m ∷ rest) waiting → is_due π.scale run.out lent_now m ≡ true
      never_stray rest taken =
          let out : Same (m ∷ rest) bag = same_trans taken (same_sym m₀.bag) in
          let p : Proper π.job m = proper law limit i margin_fits m rest out in
          let sound = record_is_sound m.to m.search p.to_head p.of_search in
          elim (sort law limit margin_fits out i) [
            | of_search left o ↦
                let f = out_of_joined (has_on_way π) ss o in
                let w = replaced_splits (f.3 f.0).1 in
                subst (λ (ts : List (Search S)). Invariant π limit (record { searches = ts; bests = B; bag = bag; count = c }) → Mirrors π limit (record { searches = ts; bests = B; bag = bag; count = c }) (moment records bests waiting run) →
                is_due π.scale run.out lent_now m ≡ true) (sym w.2)
                (λ i' m'. search_expects w.0 f.0 w.1 B bag c records bests waiting run i' m' m f.2 p) i m₀
            | of_notices left o same ↦ notice_fits π.job _ _ m p sound (a_noticed law limit margin_fits out i o).is_notice
            | of_stops left o same ↦ stop_fits π.job _ _ m p sound (ap (λ (x : Message S). x.kind) (a_stopping law limit margin_fits out i o).1.is_stop)
          ]
