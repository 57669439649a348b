-- Every run stands: the moments of a run show the searches as moves lead through them, and what is promised of those is promised of the
-- run. Assumes nothing.
use Rattle.std.proofs.Common.{◌≡◌, ℕ, suc, ◌+◌, ◌<◌, ◌≤◌, Bool, true, false, cond, ◌||◌, eqb, ◌⊎◌, ◌↔◌, List, [], ◌∷◌, length, is_ok, Ok, Err, Result, sym, refl, ap, ◌∙◌, subst, inl, inr, arith}
use Rattle.std.proofs.lemmas.Bool.{both_ways, eqb-true, leb-true, true≢false}
use Rattle.scale.specs.Operations.{Operations, Laws, AtMost}
use Rattle.job.specs.declared.job.Job.{Job}
use Rattle.job.specs.declared.refusal.Refusal.{Refusal}
use Rattle.job.specs.Refusals.{number}
use Rattle.job.specs.Plans.{setups, is_head, is_complete}
use Rattle.problem.specs.Bags.{Out, here, Same}
use Rattle.problem.proofs.Walks.{head_range}
use Rattle.link.specs.declared.message.Kind.{Kind}
use Rattle.link.specs.declared.message.Message.{Message}
use Rattle.link.specs.Posting.{margin}
use Rattle.link.proofs.Bags.{same_sym, same_nil}
use Rattle.head.specs.declared.best.Best.{Best}
use Rattle.head.specs.declared.record.Record.{Record}
use Rattle.head.specs.Lent.{Lent, lent, best_of}
use Rattle.searches.specs.Cubes.{Problem, Lawful, Head}
use Rattle.searches.specs.Bests.{Good}
use Rattle.searches.specs.Moves.{State, Moves, stay}
use Rattle.searches.specs.Invariant.{Invariant}
use Rattle.searches.specs.Promises.{Promise}
use Rattle.searches.proofs.Moves.{moves_keep, moves_improve, moves_count}
use Rattle.searches.proofs.Promises.{one_is_a_head, few_messages, promised}
use Rattle.run.specs.declared.run.Run.{Run}
use Rattle.run.specs.declared.run.Ended.{Ended}
use Rattle.job.specs.declared.declined.Declined.{Declined}
use Rattle.run.specs.Worlds.{World, at}
use Rattle.run.specs.Starting as Starting
use Rattle.run.specs.Delivering.{Delivered, Strays, Delivers}
use Rattle.run.specs.Delivering as Delivering
use Rattle.run.specs.Ending.{Ends}
use Rattle.run.specs.Ending as Ending
use Rattle.run.specs.History.{took, Goes, stays, delivers, looks, declines_end}
use Rattle.run.specs.Whole.{NoneCheaper, Right, Whole, EveryRunStands}
use Rattle.run.proofs.Bits.{none_is_out}
use Rattle.run.proofs.Moments.{Mirrors}
use Rattle.run.proofs.Deliveries.{moment, ComesTo, delivery, never_stray}
use Rattle.run.proofs.Beginnings.{first_holds, started}
use Rattle.run.proofs.Endings.{enough_lacks_nothing, good_stands, told_is_right}

refused_took_none : (r : Refusal) (n : ℕ) → number r ≡ n → (eqb n 10 || eqb n 13) ≡ false → took (Err r) ≡ 0
refused_took_none r n e none = ap (λ (x : ℕ). cond (eqb x 10 || eqb x 13) 1 0) e ∙ ap (λ (b : Bool). cond b 1 0) none

module _ {S : Type 0} {π : Problem S} (law : Lawful π) (limit : ℕ) (margin_fits : margin ≤ limit) where
  -- a moment that shows searches is one with the problem's job and costs, and a link of this limit
  abbrev as_lent : World S → World S
  as_lent w = moment law limit margin_fits w.lent.records w.lent.bests w.lent.bag w.run

  same_moment : {st : State S} {w : World S} → Mirrors π limit st w → w ≡ as_lent w
  same_moment {w = w} m =
      ap (λ (j : Job). at (lent j w.lent.costs w.lent.records w.lent.bests w.lent.limit w.lent.bag) w.run) m.job
      ∙ ap (λ (c : List S). at (lent π.job c w.lent.records w.lent.bests w.lent.limit w.lent.bag) w.run) m.costs
      ∙ ap (λ (n : ℕ). at (lent π.job π.costs w.lent.records w.lent.bests n w.lent.bag) w.run) m.limit_is

  record Continues (k : ℕ) (from : State S) (w : World S) : Type 0 where
    state : State S
    moves : Moves π limit from k state
    mirrors : Mirrors π limit state w

  counted_as : {k n : ℕ} {from : State S} {w : World S} → k ≡ n → Continues k from w → Continues n from w
  counted_as {from = from} {w = w} e c = subst (λ (n : ℕ). Continues n from w) e c

  module _ {from : State S} (holds : Invariant π limit from) where
    -- no message is stray or lost
    no_stray : {k : ℕ} {st : State S} {w w' : World S} → Moves π limit from k st → Mirrors π limit st w → Strays π.scale w w' → ⊥
    no_stray {st = st} {w = w} {w' = w'} run m d =
        let e = same_moment m in
        let m₀ : Mirrors π limit st (as_lent w) = subst (Mirrors π limit st) e m in
        let d₀ : Strays π.scale (as_lent w) w' = subst (λ (x : World S). Strays π.scale x w') e d in
        both_ways _ d₀.not_due
        (never_stray law limit margin_fits st.searches st.bests st.bag st.count w.lent.records w.lent.bests w.lent.bag w.run (moves_keep law limit margin_fits run holds) m₀ d₀.message w'.lent.bag d₀.taken.taken)

    comes : {k : ℕ} {st : State S} {w w' : World S} {lost : Bool} (m : Message S) → Moves π limit from k st → Mirrors π limit st w → Delivered π.scale w m lost w' → ComesTo law limit margin_fits (suc k) from lost w'
    comes {st = st} {w = w} {w' = w'} {lost = lost} m run mirrors d =
        let e = same_moment mirrors in
        delivery law limit margin_fits st.searches st.bests st.bag st.count w.lent.records w.lent.bests w.lent.bag w.run (moves_keep law limit margin_fits run holds)
        (subst (Mirrors π limit st) e mirrors) m holds run (subst (λ (x : World S). Delivered π.scale x m lost w') e d)

    delivers_on : {k : ℕ} {st : State S} {w w' : World S} (answer : Result Kind Refusal) → Moves π limit from k st → Mirrors π limit st w → Delivers π.scale w answer w' → Continues (k + took answer) from w'
    delivers_on {k = k} {st = st} (Err r) run m (Delivering.too_little n lacks e) =
        counted_as (omega (arith, refused_took_none r 7 n refl)) (record { state = st; moves = run; mirrors = subst (Mirrors π limit st) (sym e) m })
    delivers_on {k = k} {st = st} (Err r) run m (Delivering.none_waits n enough none e) =
        counted_as (omega (arith, refused_took_none r 11 n refl)) (record { state = st; moves = run; mirrors = subst (Mirrors π limit st) (sym e) m })
    delivers_on (Err r) run m (Delivering.stray n enough d) = absurd (no_stray run m d)
    delivers_on (Err r) run m (Delivering.message_lost x n enough d) = absurd (true≢false (comes x run m d).unlost)
    delivers_on (Ok kind) run m (Delivering.granted x is enough d) =
        let c = comes x run m d in
        counted_as (omega arith) (record { state = c.state; moves = c.moves; mirrors = c.mirrors })

    -- a declined end leaves the moment as it was
    declined : {w : World S} (f : Declined Run) → Ends π.scale w (Err f) → at w.lent f.back ≡ w
    declined {w = w} f (Ending.too_little n lacks e) = ap (at w.lent) e
    declined {w = w} f (Ending.still_out n enough some e) = ap (at w.lent) e

    goes_on : {k o : ℕ} {st : State S} {u w : World S} → Moves π limit from k st → Mirrors π limit st u → Goes π.scale u w o → Continues (k + o) from w
    goes_on {st = st} run m stays = counted_as (omega arith) (record { state = st; moves = run; mirrors = m })
    goes_on run m (delivers answer before d) = let c = goes_on run m before in counted_as (omega arith) (delivers_on answer c.moves c.mirrors d)
    goes_on run m (looks seen before l) = goes_on run m before
    goes_on run m (declines_end f before e) =
        let c = goes_on run m before in
        record { state = c.state; moves = c.moves; mirrors = subst (Mirrors π limit c.state) (sym (declined f e)) c.mirrors }

  -- what holds after the calls of a run, from a first moment that shows searches
  module _ {begins : State S} (holds : Invariant π limit begins) (no_count : begins.count ≡ 0) (first : World S) (start : State S) (to_start : Moves π limit begins 0 start) (shows_start : Mirrors π limit start first)
      (k : ℕ) (records : List (Record S)) (bests : List (Best S)) (bag : List (Message S)) (run : Run) where
    abbrev now : World S
    now = moment law limit margin_fits records bests bag run

    module _ (goes : Goes π.scale first now k) where
      here_now : Continues (0 + k) begins now
      here_now = goes_on holds to_start shows_start goes

      abbrev st : State S
      st = here_now.state

      mirrors : Mirrors π limit st now
      mirrors = here_now.mirrors

      invariant : Invariant π limit st
      invariant = moves_keep law limit margin_fits here_now.moves holds

      promise : Promise π limit st
      promise = promised law limit invariant margin_fits

      head_of : (h : ℕ) → is_head π.job h ≡ true → Head π.job h
      head_of h e = let r = head_range π.job h (leb-true 1 (setups π.job h) e) in record { one_up = r.0; to_last = r.1 }

      one : Head π.job 1
      one = one_is_a_head π.job

      quiet : bag ≡ [] → st.bag ≡ []
      quiet e = same_nil (same_sym (subst (Same st.bag) e mirrors.bag))

      none_out : bag ≡ [] → run.out ≡ 0
      none_out e = eqb-true run.out 0 (ap (λ (n : ℕ). eqb n 0) mirrors.out ∙ none_is_out st.searches ∙ promise.quiet_is_the_end mirrors.settled (quiet e))

      good_now : (h : ℕ) → Head π.job h → Good π (best_of π.scale now.lent h)
      good_now h head = subst (Good π) (sym (mirrors.bests h head)) (invariant.good h head)

      never_raised : (u : World S) (i o : ℕ) → Goes π.scale first u i → Goes π.scale u now o → (h : ℕ) → is_head π.job h ≡ true →
          AtMost π.scale (best_of π.scale now.lent h).cost (best_of π.scale u.lent h).cost
      never_raised u i o before after h e =
          let head = head_of h e in
          let c = goes_on holds to_start shows_start before in
          let keeps = moves_keep law limit margin_fits c.moves holds in
          let d = goes_on keeps stay c.mirrors after in
          rw (d.mirrors.bests h head, c.mirrors.bests h head) (moves_improve law limit margin_fits d.moves keeps h)

      ends_when_quiet : (answer : Result (Ended S) (Declined Run)) → Ends π.scale now answer → (is_ok answer ≡ true) ↔ (bag ≡ [])
      ends_when_quiet (Err f) (Ending.too_little n lacks e) = absurd (enough_lacks_nothing now.lent mirrors.enough lacks)
      ends_when_quiet (Err f) (Ending.still_out n enough some e) = (λ no. absurd (true≢false (sym no)), λ z. absurd (still z some))
        where
          still : bag ≡ [] → (0 < run.out) ⊎ (0 < length bag) → ⊥
          still z (inl k) = omega (arith, none_out z)
          still z (inr k) = omega (arith, ap length z)
      ends_when_quiet (Ok e) (Ending.granted enough none_left nothing_waits closes) = (λ _. nothing_waits, λ _. refl)

      one_waits : (ms : List (Message S)) → bag ≡ ms → (f : Declined Run) → Ends π.scale now (Err f) → (m : Message S) × (rest : List (Message S)) × Out m ms rest
      one_waits [] z f e = absurd (true≢false (sym ((ends_when_quiet (Err f) e).1 z)))
      one_waits (m ∷ rest) z f e = (m, rest, here)

      cheapest : bag ≡ [] → NoneCheaper π.scale π.costs π.job (best_of π.scale now.lent 1).cost
      cheapest z p complete = rw (mirrors.bests 1 one) (promise.cheapest mirrors.settled (quiet z) p complete)

      right_end : (e : Ended S) → Ends π.scale now (Ok e) → Right π.scale π.costs π.job e.outcome
      right_end e (Ending.granted enough none_left nothing_waits closes) =
          told_is_right π (best_of π.scale now.lent 1) (cheapest nothing_waits) (rw (mirrors.bests 1 one) (promise.no_plan mirrors.settled (quiet nothing_waits)))
          (is_complete π.job (best_of π.scale now.lent 1).plan) e.outcome (good_now 1 one) refl closes.outcome

      refused_only_when_none_waits : (r : Refusal) (w' : World S) → Delivers π.scale now (Err r) w' → number r ≡ 11
      refused_only_when_none_waits r w' (Delivering.too_little n lacks e) = absurd (enough_lacks_nothing now.lent mirrors.enough lacks)
      refused_only_when_none_waits r w' (Delivering.none_waits n enough none e) = n
      refused_only_when_none_waits r w' (Delivering.stray n enough d) = absurd (no_stray holds here_now.moves mirrors d)
      refused_only_when_none_waits r w' (Delivering.message_lost m n enough d) = absurd (true≢false (comes holds m here_now.moves mirrors d).unlost)

      stands_now : Whole π.scale first now k
      stands_now = record {
        best_is_a_plan = λ h e. good_stands π (best_of π.scale now.lent h) (good_now h (head_of h e));
        never_raised = never_raised;
        ends_when_quiet = ends_when_quiet;
        refused_while_one_waits = λ f e. one_waits bag refl f e;
        agreed = λ z h e. mirrors.bests h (head_of h e) ∙ promise.agreed mirrors.settled (quiet z) h (head_of h e) ∙ sym (mirrors.bests 1 one);
        cheapest = cheapest;
        right_end = right_end;
        refused_only_when_none_waits = refused_only_when_none_waits;
        counted = omega (arith, mirrors.count, moves_count law limit margin_fits here_now.moves);
        limited = omega (arith, moves_count law limit margin_fits here_now.moves, few_messages law limit invariant);
      }

  -- at any moment to which calls lead
  pub stands : {begins : State S} → Invariant π limit begins → begins.count ≡ 0 → (first : World S) (start : State S) → Moves π limit begins 0 start → Mirrors π limit start first →
      (w : World S) (k : ℕ) → Goes π.scale first w k → Whole π.scale first w k
  stands holds no_count first start to_start shows_start w k goes =
      let e = same_moment (goes_on holds to_start shows_start goes).mirrors in
      subst (λ (x : World S). Whole π.scale first x k) (sym e)
      (stands_now holds no_count first start to_start shows_start k w.lent.records w.lent.bests w.lent.bag w.run (subst (λ (x : World S). Goes π.scale first x k) e goes))

-- The theorem.
pub every_run_stands : {S : Type 0} {s : Operations S} → Laws s → EveryRunStands s
every_run_stands {S} {s} laws first w k h = from_start h.starts
  where
    from_start : Starting.Starts s h.before (Ok first.run) first.lent → Whole s first w k
    from_start (Starting.granted enough margin_fits nothing_waits b) =
        let l : Lent S = h.before in
        let law : Lawful (record { scale = s; costs = l.costs; job = l.job }) = record { laws = laws } in
        let t = started l law margin_fits enough first.run first.lent b in
        stands law l.limit margin_fits (first_holds l law margin_fits enough) refl first t.state t.moves t.mirrors w k h.goes
