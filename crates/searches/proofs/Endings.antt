-- Every run can come to its end: a head in the midst of an act goes on until it is done, without taking a message, and a message that
-- waits can be taken, until none waits. Assumes nothing.
use Rattle.std.proofs.Common.{◌≡◌, ℕ, zero, suc, ◌+◌, ◌<◌, ◌≤◌, true, false, ◌⊎◌, List, [], ◌∷◌, length, refl, inl, inr, arith}
use Rattle.std.specs.List.{AllByRecursion as All}
use Rattle.std.proofs.lemmas.Bool.{cases_Bool}
use Rattle.scale.specs.Operations.{Operations, Laws}
use Rattle.job.specs.Plans.{name, unnamed_heads}
use Rattle.problem.specs.Bags.{here, Same, one}
use Rattle.problem.proofs.Naming.{out_counting}
use Rattle.link.specs.declared.message.Message.{Message}
use Rattle.link.specs.Posting.{margin}
use Rattle.link.proofs.Bags.{same_refl}
use Rattle.head.specs.Bests.{hopeless}
use Rattle.searches.specs.Members.{total, Replaced, first, later}
use Rattle.searches.specs.Cubes.{Problem, Lawful}
use Rattle.searches.specs.Bests.{Bests}
use Rattle.searches.specs.Chains.{Trial, Focus, home, acting, asking, sending, coming, Root, Search, plan_of, Acts, Sound}
use Rattle.searches.specs.Steps.{Step, tried, skips, finds, asks, rises, comes_home}
use Rattle.searches.specs.Moves.{State, goes_to, Move, a_step, Moves, move, stay}
use Rattle.searches.specs.Invariant.{most_messages, Invariant}
use Rattle.searches.specs.Promises.{is_settled, Settled, EveryMomentCanEnd}
use Rattle.searches.proofs.Members.{total_replaced}
use Rattle.searches.proofs.Moves.{move_keeps, move_counts, moves_count}
use Rattle.searches.proofs.Promises.{the_others, expected, few_messages, lawful}

-- how many steps a head takes at most, until its act is done
abbrev steps_left : {S : Type 0} → Focus S → ℕ
steps_left home = 0
steps_left (acting h is up) = suc (length is)
steps_left (asking t up asked answered heard) = 0
steps_left (sending t up u) = 0
steps_left (coming t up u b) = 0

module _ {S : Type 0} {π : Problem S} (law : Lawful π) where
  module _ (v : ℕ) (r : Root) (B : Bests S) where
    -- a step without a message, after which fewer are left
    record GoesOn (f : Focus S) : Type 0 where
      bests : Bests S
      focus : Focus S
      notes : List (Message S)
      posts : List (Message S)
      step : Step π v r B f [] bests focus notes posts
      fewer : steps_left focus < steps_left f

    tries_next : (h i : ℕ) (is : List ℕ) (up : List Trial) (us : List ℕ) → unnamed_heads π.job (name (plan_of r up) h i) ≡ us → Acts π r h (i ∷ is) up →
        hopeless π.scale (B h) (tried π v r up h i).cost ≡ false → GoesOn (acting h (i ∷ is) up)
    tries_next h i is up [] e a hopeful =
        let o = out_counting 1 π.job.heads h a.is_open.one_up (omega (arith, a.is_open.to_last)) in
        record { bests = _; focus = _; notes = _; posts = _; step = finds here hopeful e (one o.1 (same_refl o.0)); fewer = omega arith }
    tries_next h i is up (u ∷ us) e a hopeful =
        record { bests = _; focus = _; notes = _; posts = _; step = asks {u = u} {us = us} here hopeful (rw e (same_refl (u ∷ us))); fewer = omega arith }

    goes_on : (f : Focus S) → Sound π r f → (is_settled f ≡ true) ⊎ GoesOn f
    goes_on home s = inl refl
    goes_on (acting h [] []) s = inr (record { bests = _; focus = _; notes = _; posts = _; step = comes_home; fewer = omega arith })
    goes_on (acting h [] (t ∷ up)) s = inr (record { bests = _; focus = _; notes = _; posts = _; step = rises; fewer = omega arith })
    goes_on (acting h (i ∷ is) up) s = elim (cases_Bool (hopeless π.scale (B h) (tried π v r up h i).cost)) [
      | inl e ↦ inr (record { bests = _; focus = _; notes = _; posts = _; step = skips here e; fewer = omega arith })
      | inr e ↦ inr (tries_next h i is up _ refl s e)
    ]
    goes_on (asking t up asked answered heard) s = inl refl
    goes_on (sending t up u) s = inl refl
    goes_on (coming t up u b) s = inl refl

  -- one of the searches goes on, or all are settled
  record OneGoesOn (B : Bests S) (ss : List (Search S)) : Type 0 where
    search : Search S
    goes : GoesOn search.number search.root B search.focus
    replaces : (new : Search S) → (ts : List (Search S)) × Replaced search new ss ts

  one_goes_on : (B : Bests S) (ss : List (Search S)) → All (λ s. Sound π s.root s.focus) ss → Settled ss ⊎ OneGoesOn B ss
  one_goes_on B [] a = inl tt
  one_goes_on B (s ∷ ss) a = elim (goes_on s.number s.root B s.focus a.0) [
    | inr g ↦ inr (record { search = s; goes = g; replaces = λ new. (new ∷ ss, first) })
    | inl e ↦ elim (one_goes_on B ss a.1) [
      | inl rest ↦ inl (e, rest)
      | inr g ↦ inr (record { search = g.search; goes = g.goes; replaces = λ new. let w = g.replaces new in (s ∷ w.0, later w.1) })
    ]
  ]

  module _ (limit : ℕ) (margin_fits : margin ≤ limit) (start : State S) where
    abbrev all_steps_left : List (Search S) → ℕ
    all_steps_left ss = total (λ s. steps_left s.focus) ss

    record Settles (k : ℕ) : Type 0 where
      state : State S
      moves : Moves π limit start k state
      holds : Invariant π limit state
      settled : Settled state.searches

    -- the next step, as a move of all
    record MovesOn (st : State S) : Type 0 where
      state : State S
      moves : Move π limit st [] state
      fewer : all_steps_left state.searches < all_steps_left st.searches

    moves_on : (st : State S) → OneGoesOn st.bests st.searches → MovesOn st
    moves_on st g =
        let s = g.search in
        let w = g.replaces (goes_to s g.goes.focus) in
        record {
          state = _;
          moves = a_step st.bag w.1 g.goes.step (the_others π.job).1 (same_refl _) (same_refl _);
          fewer = omega (arith, total_replaced (λ s. steps_left s.focus) w.1, g.goes.fewer);
        }

    settles : (n k : ℕ) (st : State S) → all_steps_left st.searches ≤ n → Moves π limit start k st → Invariant π limit st → Settles k
    settles zero k st few run i = elim (one_goes_on st.bests st.searches i.sound) [
      | inl done ↦ record { state = st; moves = run; holds = i; settled = done }
      | inr g ↦ absurd (omega (arith, (moves_on st g).fewer))
    ]
    settles (suc n) k st few run i = elim (one_goes_on st.bests st.searches i.sound) [
      | inl done ↦ record { state = st; moves = run; holds = i; settled = done }
      | inr g ↦
          let m = moves_on st g in
          settles n k m.state (omega (arith, m.fewer)) (move run m.moves (omega arith)) (move_keeps law limit margin_fits m.moves i)
    ]

    record Ends : Type 0 where
      taken : ℕ
      state : State S
      moves : Moves π limit start taken state
      settled : Settled state.searches
      quiet : state.bag ≡ []

    waits : (bag : List (Message S)) → (bag ≡ []) ⊎ ((m : Message S) × (rest : List (Message S)) × Same (m ∷ rest) bag)
    waits [] = inl refl
    waits (m ∷ rest) = inr (m, rest, same_refl (m ∷ rest))

    -- each message taken leaves one fewer of the most that there are
    ends : (n k : ℕ) (st : State S) → most_messages π.job ≤ n + st.count → Moves π limit start k st → Invariant π limit st → Ends
    ends zero k st few run i =
        let s = settles (all_steps_left st.searches) k st (omega arith) run i in
        elim (waits s.state.bag) [
          | inl e ↦ record { taken = k; state = s.state; moves = s.moves; settled = s.settled; quiet = e }
          | inr w ↦
              let m = expected law limit s.holds margin_fits w.0 w.1 w.2 in
              absurd (omega (
                arith,
                few_messages law limit (move_keeps law limit margin_fits m.1 s.holds),
                move_counts law limit margin_fits m.1,
                moves_count law limit margin_fits run,
                moves_count law limit margin_fits s.moves,
              ))
        ]
    ends (suc n) k st few run i =
        let s = settles (all_steps_left st.searches) k st (omega arith) run i in
        elim (waits s.state.bag) [
          | inl e ↦ record { taken = k; state = s.state; moves = s.moves; settled = s.settled; quiet = e }
          | inr w ↦
              let m = expected law limit s.holds margin_fits w.0 w.1 w.2 in
              ends n (suc k) m.0
              (omega (arith, move_counts law limit margin_fits m.1, moves_count law limit margin_fits run, moves_count law limit margin_fits s.moves))
              (move s.moves m.1 (omega arith))
              (move_keeps law limit margin_fits m.1 s.holds)
        ]

pub every_moment_can_end : {S : Type 0} {s : Operations S} (laws : Laws s) → EveryMomentCanEnd s
every_moment_can_end laws costs j limit fits st i =
    let e = ends (lawful laws costs j) limit fits st (most_messages j) 0 st (omega arith) stay i in
    (e.taken, e.state, e.moves, e.settled, e.quiet)
