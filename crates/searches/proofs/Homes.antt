-- Searches that are home: nothing of them is on the way, nothing is left to look into, and they hold no best. And the kinds of the
-- messages that searches have on the way. Assumes nothing.
use Rattle.std.proofs.Common.{◌≡◌, ℕ, ◌+◌, ◌-◌, ◌*◌, ◌≤◌, Bool, true, false, List, [], ◌∷◌, length, sym, refl, ◌∙◌, inl, inr, mul-le-mul_right, arith}
use lib.ListN.{length-map}
use Rattle.std.specs.List.{AllByRecursion as All}
use Rattle.std.proofs.ByRecursion.{All-append, All-map, All-weaker}
use Rattle.std.proofs.lemmas.Bool.{cases_Bool, both_ways, cond-true, cond-false, true≢false}
use Rattle.job.specs.declared.plan.Plan.{Plan as Plans}
use Rattle.job.specs.Plans.{heads, Extends}
use Rattle.problem.specs.Bags.{Same}
use Rattle.link.specs.declared.message.Kind.{Kind}
use Rattle.link.specs.declared.message.Kind.TheVariants.{Request, Report, Plan, Return, Notice, Stop}
use Rattle.link.specs.Posting.{margin}
use Rattle.head.specs.declared.best.Best.{Best}
use Rattle.searches.specs.Members.{Some, Replaced, first, later}
use Rattle.searches.specs.Cubes.{Problem, Lawful}
use Rattle.searches.specs.Bests.{Bests, AsGood}
use Rattle.searches.specs.Chains.{Focus, home, acting, asking, sending, coming, Root, Search, open_cubes, Sound, Holds}
use Rattle.searches.specs.Steps.{request, report, on_way}
use Rattle.searches.specs.Moves.{is_out, all_home, stop, farewell}
use Rattle.searches.specs.Invariant.{has_on_way, messages, Held, Reached}
use Rattle.searches.proofs.Members.{all_always, length_joined, total_at_most}
use Rattle.searches.proofs.Chains.{on_way_few}
use Rattle.searches.proofs.Steps.{others_few}

-- the kinds of the messages that searches have on the way
abbrev pub of_a_search : Kind → Bool
of_a_search Request = true
of_a_search Report = true
of_a_search Plan = true
of_a_search Return = true
of_a_search Notice = false
of_a_search Stop = false

module _ {S : Type 0} where
  -- a search that is out is one of several
  pub one_is_out : {s t : Search S} {ss ts : List (Search S)} → Replaced s t ss ts → is_out s.focus ≡ true → all_home ss ≡ false
  one_is_out first e = cond-true _ _ _ e
  one_is_out (later {x = x} w) e = elim (cases_Bool (is_out x.focus)) [ inl a ↦ cond-true _ _ _ a | inr a ↦ cond-false _ _ _ a ∙ one_is_out w e ]

  all_are_home : (s : Search S) (ss : List (Search S)) → all_home (s ∷ ss) ≡ true → (is_out s.focus ≡ false) × (all_home ss ≡ true)
  all_are_home s ss e = elim (cases_Bool (is_out s.focus)) [
    | inl a ↦ absurd (both_ways (all_home (s ∷ ss)) (cond-true _ _ _ a) e)
    | inr a ↦ (a, sym (cond-false _ _ _ a) ∙ e)
  ]

  -- what holds at home holds of a focus that is not out
  at_home : (P : Focus S → Type 0) → P home → (f : Focus S) → is_out f ≡ false → P f
  at_home P h home e = h
  at_home P h (acting u is up) e = absurd (true≢false e)
  at_home P h (asking t up asked answered heard) e = absurd (true≢false e)
  at_home P h (sending t up u) e = absurd (true≢false e)
  at_home P h (coming t up u b) e = absurd (true≢false e)

  module _ (π : Problem S) where
    on_way_of_a_search : (v : ℕ) (r : Root) (f : Focus S) → All (λ m. of_a_search m.kind ≡ true) (on_way π v r f)
    on_way_of_a_search v r home = tt
    on_way_of_a_search v r (acting h is up) = tt
    on_way_of_a_search v r (asking t up asked answered heard) =
        All-append _ _ _ (All-map _ (request π v r t up) asked (all_always _ (λ u. refl) asked)) (All-map _ (report π v r t up) answered (all_always _ (λ u. refl) answered))
    on_way_of_a_search v r (sending t up u) = (refl, tt)
    on_way_of_a_search v r (coming t up u b) = (refl, tt)

    pub messages_of_a_search : (ss : List (Search S)) → All (λ m. of_a_search m.kind ≡ true) (messages π ss)
    messages_of_a_search [] = tt
    messages_of_a_search (s ∷ ss) = All-append _ (has_on_way π s) (messages π ss) (on_way_of_a_search s.number s.root s.focus) (messages_of_a_search ss)

    -- when all are home
    pub home_is_quiet : (ss : List (Search S)) → all_home ss ≡ true → messages π ss ≡ []
    home_is_quiet [] e = refl
    home_is_quiet (s ∷ ss) e =
        let d = all_are_home s ss e in
        let q : has_on_way π s ≡ [] = at_home (λ f. on_way π s.number s.root f ≡ []) refl s.focus d.0 in
        rw q (home_is_quiet ss d.1)

    home_holds_none : (B : Bests S) (x : Best S) (ss : List (Search S)) → all_home ss ≡ true → Some (λ s. Holds π B x s.focus) ss → ⊥
    home_holds_none B x [] e h = h
    home_holds_none B x (s ∷ ss) e (inl h) = at_home (λ f. Holds π B x f → ⊥) (λ k. k) s.focus (all_are_home s ss e).0 h
    home_holds_none B x (s ∷ ss) e (inr h) = home_holds_none B x ss (all_are_home s ss e).1 h

    pub home_reaches_none : (p : Plans) (ss : List (Search S)) → all_home ss ≡ true → Reached π ss p → ⊥
    home_reaches_none p [] e h = h
    home_reaches_none p (s ∷ ss) e (inl h) = at_home (λ f. Some (λ q. Extends π.job q p) (open_cubes s.root f) → ⊥) (λ k. k) s.focus (all_are_home s ss e).0 h
    home_reaches_none p (s ∷ ss) e (inr h) = home_reaches_none p ss (all_are_home s ss e).1 h

    -- then what is held head 1 holds
    pub one_holds_all : (B : Bests S) (ss : List (Search S)) (x : Best S) → all_home ss ≡ true → Held π B ss x → AsGood π.scale (B 1) x
    one_holds_all B ss x e (inl h) = h
    one_holds_all B ss x e (inr h) = absurd (home_holds_none B x ss e h)

eight_rows : (a b : ℕ) → a ≤ 8 → b ≤ 8 → a * (b - 1) ≤ margin
eight_rows a b h k = omega (arith, mul-le-mul_right (b - 1) h)

module _ {S : Type 0} {π : Problem S} (law : Lawful π) where
  -- what the searches have on the way, and the stops, fit into the places that notices leave free
  pub others_fit : (ss : List (Search S)) (B : Bests S) (gs : List ℕ) → All (λ s. Sound π s.root s.focus) ss → length ss ≤ 8 → Same (1 ∷ gs) (heads π.job) →
      length (messages π ss) + length (farewell ss B gs) ≤ margin
  others_fit ss B gs sound few o = elim (cases_Bool (all_home ss)) [
    | inl e ↦ rw (home_is_quiet π ss e, e) (omega (arith, length-map gs (stop (B 1)), others_few π.job o, π.job.eight))
    | inr e ↦
        rw e (omega (
          arith,
          length_joined (has_on_way π) ss,
          eight_rows (length ss) π.job.heads few π.job.eight,
          total_at_most (λ s. length (has_on_way π s)) (π.job.heads - 1) ss (All-weaker _ _ (λ s k. on_way_few law s.number s.root s.focus k) ss sound),
        ))
  ]
