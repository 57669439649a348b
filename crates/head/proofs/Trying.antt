-- Searching on, one setup at a time: what was tried so far and what is left come to the whole. Assumes nothing.
use Rattle.std.proofs.Common.{◌≡◌, ℕ, zero, suc, ◌+◌, ◌<◌, Bool, true, false, cond, ltb, ◌≢◌, List, [], ◌∷◌, ◌++◌, map, length, get_or, set, Some, None, sym, refl, ap, ◌∙◌, subst, ap₂, inl, inr, append_assoc, append-nil, arith}
use Rattle.std.specs.List.{range_with_len}
use Rattle.std.proofs.lemmas.List.{get_or-set_other, get_or-set_same, get_or_past, length-set}
use Rattle.std.proofs.lemmas.Bool.{cases_Bool, cases_eq, cases_lt, cond-true, cond-false, both_ways}
use Rattle.scale.specs.Operations.{Operations}
use Rattle.job.specs.declared.job.Job.{Job}
use Rattle.job.specs.declared.plan.Plan.{Plan}
use Rattle.job.specs.Lists.{those}
use Rattle.job.specs.Plans.{name, is_complete}
use Rattle.problem.proofs.Naming.{those_passes, those_fails, those_like, all_counting}
use Rattle.link.specs.declared.message.Message.{Message}
use Rattle.link.specs.declared.message.Kind.TheVariants.{Notice}
use Rattle.link.specs.Messages.{message}
use Rattle.link.specs.HeadSets.{no_heads}
use Rattle.link.specs.Posting.{Sent}
use Rattle.link.proofs.Posting.{sent_none, sent_then}
use Rattle.head.specs.declared.best.Best.{Best}
use Rattle.head.specs.declared.record.State.{State}
use Rattle.head.specs.declared.record.State.TheVariants.{Resting, Gathering, Below}
use Rattle.head.specs.declared.record.Record.{Record}
use Rattle.head.specs.declared.search.Turn.{Turn}
use Rattle.job.specs.Sets.{head_of}
use Rattle.head.specs.SetupSets.{SetupSet, has_setup, without_setup, members, lowest_setup}
use Rattle.head.specs.Bests.{hopeless}
use Rattle.head.specs.Views.{rests, view}
use Rattle.head.specs.Searching.{others, Searched, Task, trial_plan, trial_cost, found, notices_of, asks, comes_back, after, trying, search_on}
use Rattle.head.specs.Replies.{task}
use Rattle.head.specs.Readiness.{with_trial, Gathers, ComesBack, Searches}

-- the first of those that pass passes, and the others are those that pass without it
module _ (p : ℕ → Bool) where
  first_passes : (xs : List ℕ) (i : ℕ) (is : List ℕ) → those p xs ≡ i ∷ is → p i ≡ true
  first_passes [] i is e = absurd (let z : [] ≡ i ∷ is = unfold those in e in let o : ◌≡◌ {A = ℕ} 0 1 = cc in omega arith)
  first_passes (x ∷ xs) i is e = elim (cases_Bool (p x)) [
    | inl y ↦ let z : x ∷ those p xs ≡ i ∷ is = sym (those_passes p x xs y) ∙ e in let same : x ≡ i = cc in rw same at y
    | inr n ↦ first_passes xs i is (sym (those_fails p x xs n) ∙ e)
  ]

  module _ (q : ℕ → Bool) (i : ℕ) (no : q i ≡ false) (like : (k : ℕ) → k ≢ i → q k ≡ p k) where
    without_first : (a n : ℕ) (is : List ℕ) → those p (range_with_len a n) ≡ i ∷ is → those q (range_with_len a n) ≡ is
    without_first a zero is e = absurd (let z : [] ≡ i ∷ is = unfold those in e in let o : ◌≡◌ {A = ℕ} 0 1 = cc in omega arith)
    without_first a (suc n) is e = elim (cases_Bool (p a)) [
      | inl y ↦
          let z : a ∷ those p (range_with_len (a + 1) n) ≡ i ∷ is = sym (those_passes p a (range_with_len (a + 1) n) y) ∙ e in
          let same : a ≡ i = cc in
          let rest : those p (range_with_len (a + 1) n) ≡ is = cc in
          those_fails q a (range_with_len (a + 1) n) (ap q same ∙ no)
          ∙ those_like q p (range_with_len (a + 1) n) (all_counting _ (a + 1) n (λ k l u. like k (omega arith)))
          ∙ rest
      | inr m ↦
          let z : those p (range_with_len (a + 1) n) ≡ i ∷ is = sym (those_fails p a (range_with_len (a + 1) n) m) ∙ e in
          let ne : a ≢ i = λ same. both_ways (p i) (sym (ap p same) ∙ m) (first_passes (range_with_len (a + 1) n) i is z) in
          those_fails q a (range_with_len (a + 1) n) (like a ne ∙ m) ∙ without_first (a + 1) n is z
    ]

has_without_same : (u : SetupSet) (i : ℕ) → has_setup (without_setup u i) i ≡ false
has_without_same u i =
    let gone : get_or (set u.members i false) i false ≡ false = elim (cases_lt i (length u.members)) [
      | inl lt ↦ get_or-set_same u.members i false false lt
      | inr ge ↦ get_or_past (set u.members i false) i false (simp length-set ge)
    ] in
    elim (cases_Bool (ltb i 8)) [ inl e ↦ cond-true _ _ _ e ∙ gone | inr e ↦ cond-false _ _ _ e ]

has_without_other : (u : SetupSet) (i k : ℕ) → k ≢ i → has_setup (without_setup u i) k ≡ has_setup u k
has_without_other u i k ne = ap (λ (b : Bool). cond (ltb k 8) b false) (get_or-set_other u.members i k false false ne)

-- the lowest member, and what is left without it
lowest_first : (xs : List ℕ) (i : ℕ) → head_of xs ≡ Some i → (is : List ℕ) × (xs ≡ i ∷ is)
lowest_first [] i e = absurd (let o : ◌≡◌ {A = ℕ} 0 1 = cc in omega arith)
lowest_first (x ∷ xs) i e = let same : x ≡ i = cc in (xs, ap (λ (k : ℕ). k ∷ xs) same)

lowest_nil : (xs : List ℕ) → head_of xs ≡ None → xs ≡ []
lowest_nil [] e = refl
lowest_nil (x ∷ xs) e = absurd (let o : ◌≡◌ {A = ℕ} 0 1 = cc in omega arith)

pub lowest_leaves : (u : SetupSet) (i : ℕ) → lowest_setup u ≡ Some i → members u ≡ i ∷ members (without_setup u i)
lowest_leaves u i e =
    let f = lowest_first (members u) i e in
    f.1 ∙ ap (λ t. i ∷ t) (sym (without_first (has_setup u) (has_setup (without_setup u i)) i (has_without_same u i) (has_without_other u i) 0 8 f.0 f.1))

pub lowest_has : (u : SetupSet) (i : ℕ) → lowest_setup u ≡ Some i → has_setup u i ≡ true
lowest_has u i e = let f = lowest_first (members u) i e in first_passes (has_setup u) (range_with_len 0 8) i f.0 f.1

pub left_fewer : (u u' : SetupSet) (i : ℕ) → lowest_setup u ≡ Some i → u' ≡ without_setup u i → length (members u') < length (members u)
left_fewer u u' i e left = rw left (omega (arith, ap length (lowest_leaves u i e)))

pub without_own : (u : SetupSet) (i k : ℕ) → has_setup (without_setup u i) k ≡ true → has_setup u k ≡ true
without_own u i k e = elim (cases_eq k i) [
  | inl same ↦ absurd (both_ways (has_setup (without_setup u i) k) (ap (has_setup (without_setup u i)) same ∙ has_without_same u i) e)
  | inr ne ↦ sym (has_without_other u i k ne) ∙ e
]

-- a record in the state of rest looks so
resting : {S : Type 0} (r : Record S) (st : State) → r.state ≡ st → st ≡ Resting → view r ≡ rests
resting r Resting e f = rw e
resting r Gathering e f = absurd (let o : ◌≡◌ {A = ℕ} 0 1 = cc in omega arith)
resting r Below e f = absurd (let o : ◌≡◌ {A = ℕ} 0 1 = cc in omega arith)

module _ {S : Type 0} (s : Operations S) (j : Job) (costs : List S) (h v : ℕ) (r : Record S) where
  abbrev t : Task S
  t = task r

  abbrev on : SetupSet → Best S → Searched S
  on u b = search_on s j costs h v t u b

  abbrev cost : ℕ → S
  cost i = trial_cost s j costs h v t i

  module _ (u : SetupSet) (b : Best S) (i : ℕ) (first : lowest_setup u ≡ Some i) where
    unfolded : on u b ≡ trying s j costs h v t (i ∷ members (without_setup u i)) u b
    unfolded = ap (λ (is : List ℕ). trying s j costs h v t is u b) (lowest_leaves u i first)

    gives_up_is : hopeless s b (cost i) ≡ true → on u b ≡ on (without_setup u i) b
    unfolding trying
    gives_up_is e = unfolded ∙ cond-true _ _ _ e

    found_is : hopeless s b (cost i) ≡ false → is_complete j (trial_plan s j costs h v t i) ≡ true → on u b ≡ after s j costs h v t (notices_of s j costs h v t i) (on (without_setup u i) (found s j costs h v t i))
    unfolding trying
    found_is e f = unfolded ∙ cond-false _ _ _ e ∙ cond-true _ _ _ f

    asks_is : hopeless s b (cost i) ≡ false → is_complete j (trial_plan s j costs h v t i) ≡ false → on u b ≡ asks s j costs h v t i (without_setup u i) b
    unfolding trying
    asks_is e f = unfolded ∙ cond-false _ _ _ e ∙ cond-false _ _ _ f

  comes_back_is : (u : SetupSet) (b : Best S) → lowest_setup u ≡ None → on u b ≡ comes_back s j costs h v t b
  unfolding trying
  comes_back_is u b none = ap (λ (is : List ℕ). trying s j costs h v t is u b) (lowest_nil (members u) none)

  after_none : (r : Searched S) → r ≡ after s j costs h v t [] r
  after_none r = refl

  after_after : (xs ys : List (Message S)) (r : Searched S) → after s j costs h v t xs (after s j costs h v t ys r) ≡ after s j costs h v t (xs ++ ys) r
  after_after xs ys r = ap (λ (ms : List (Message S)). record { view = r.view; best = r.best; notices = ms; posts = r.posts; home = r.home }) (sym (append_assoc xs ys r.notices))

  -- Where the head has come: the notices sent so far, and what is left to try.
  module _ (u₀ : SetupSet) (b₀ : Best S) (limit₀ : ℕ) (bag₀ : List (Message S)) where
    pub record Tried (u : SetupSet) (b : Best S) (limit : ℕ) (bag : List (Message S)) : Type 0 where
      pub so_far : List (Message S)
      pub sent : Sent limit₀ bag₀ so_far false limit bag
      pub goes_on : search_on s j costs h v t u₀ b₀ ≡ after s j costs h v t so_far (search_on s j costs h v t u b)
      pub own : (i : ℕ) → has_setup u i ≡ true → has_setup u₀ i ≡ true

    pub tried_first : Tried u₀ b₀ limit₀ bag₀
    tried_first = record { so_far = []; sent = sent_none limit₀ bag₀; goes_on = after_none _; own = λ i e. e }

    module _ (u u' : SetupSet) (b : Best S) (limit : ℕ) (bag : List (Message S)) (i : ℕ) (first : lowest_setup u ≡ Some i) (left : u' ≡ without_setup u i)
        (trial : S) (costs_so : trial ≡ cost i) (so : Tried u b limit bag) where
      mine : (k : ℕ) → has_setup u' k ≡ true → has_setup u₀ k ≡ true
      mine k e = so.own k (without_own u i k (rw left at e))

      pub tried_gives_up : hopeless s b trial ≡ true → Tried u' b limit bag
      tried_gives_up e = record {
        so_far = so.so_far;
        sent = so.sent;
        goes_on = so.goes_on ∙ ap (after s j costs h v t so.so_far) (gives_up_is u b i first (sym (ap (hopeless s b) costs_so) ∙ e) ∙ ap (λ (w : SetupSet). on w b) (sym left));
        own = mine;
      }

      module _ (plan : Plan) (plan_so : plan ≡ name t.received h i) (better : hopeless s b trial ≡ false) where
        worth : hopeless s b (cost i) ≡ false
        worth = sym (ap (hopeless s b) costs_so) ∙ better

        best_so : record { cost = trial; plan = plan } ≡ found s j costs h v t i
        best_so = ap₂ (λ (c : S) (q : Plan). record { cost = c; plan = q }) costs_so plan_so

        pub tried_found : (limit' : ℕ) (bag' : List (Message S)) → is_complete j plan ≡ true →
            Sent limit bag (map (λ g. message Notice g h v plan trial) (others j h)) false limit' bag' →
            Tried u' (record { cost = trial; plan = plan }) limit' bag'
        tried_found limit' bag' full told =
            let same : map (λ g. message Notice g h v plan trial) (others j h) ≡ notices_of s j costs h v t i =
            ap (λ (b : Best S). map (λ g. message Notice g h v b.plan b.cost) (others j h)) best_so in
            record {
              so_far = so.so_far ++ notices_of s j costs h v t i;
              sent = sent_then so.sent (subst (λ (ms : List (Message S)). Sent limit bag ms false limit' bag') same told);
              goes_on = so.goes_on
                  ∙ ap (after s j costs h v t so.so_far) (found_is u b i first worth (ap (is_complete j) (sym plan_so) ∙ full))
                  ∙ after_after so.so_far (notices_of s j costs h v t i) (on (without_setup u i) (found s j costs h v t i))
                  ∙ ap₂ (λ (w : SetupSet) (x : Best S). after s j costs h v t (so.so_far ++ notices_of s j costs h v t i) (on w x)) (sym left) (sym best_so);
              own = mine;
            }

        looks_asking : (turn : Turn S) (limit' : ℕ) (bag' : List (Message S)) → Gathers s j h v (with_trial r i trial u') limit bag turn limit' bag' → view turn.known ≡ (asks s j costs h v t i u' b).view
        looks_asking turn limit' bag' g = ap view g.known_is ∙ ap (λ (c : S). view (record { state = Gathering; received = r.received; cost = r.cost; sender = r.sender; setup = i; trial = c; untried = u'; gathered = s.nothing; heard = no_heads })) costs_so

        asked : (turn : Turn S) (limit' : ℕ) (bag' : List (Message S)) → Gathers s j h v (with_trial r i trial u') limit bag turn limit' bag' → Searches (after s j costs h v t so.so_far (asks s j costs h v t i u' b)) limit₀ bag₀ turn b limit' bag'
        asked turn limit' bag' g = record {
          looks = looks_asking turn limit' bag' g;
          best = refl;
          home = g.not_home;
          sent = subst (λ (ms : List (Message S)). Sent limit₀ bag₀ (ms ++ (asks s j costs h v t i u' b).posts) turn.lost limit' bag') (sym (append-nil so.so_far)) (sent_then so.sent g.sent);
        }

        pub tried_asks : (turn : Turn S) (limit' : ℕ) (bag' : List (Message S)) → is_complete j plan ≡ false →
            Gathers s j h v (with_trial r i trial u') limit bag turn limit' bag' → Searches (search_on s j costs h v t u₀ b₀) limit₀ bag₀ turn b limit' bag'
        tried_asks turn limit' bag' unfilled g =
            let whole : search_on s j costs h v t u₀ b₀ ≡ after s j costs h v t so.so_far (asks s j costs h v t i u' b) =
            so.goes_on ∙ ap (after s j costs h v t so.so_far) (asks_is u b i first worth (ap (is_complete j) (sym plan_so) ∙ unfilled) ∙ ap (λ (w : SetupSet). asks s j costs h v t i w b) (sym left)) in
            subst (λ (x : Searched S). Searches x limit₀ bag₀ turn b limit' bag') (sym whole) (asked turn limit' bag' g)

    pub tried_all : (u : SetupSet) (b : Best S) (limit : ℕ) (bag : List (Message S)) (turn : Turn S) (limit' : ℕ) (bag' : List (Message S)) → lowest_setup u ≡ None → Tried u b limit bag →
        ComesBack h v r b limit bag turn limit' bag' → Searches (search_on s j costs h v t u₀ b₀) limit₀ bag₀ turn b limit' bag'
    tried_all u b limit bag turn limit' bag' none so c =
        let whole : search_on s j costs h v t u₀ b₀ ≡ after s j costs h v t so.so_far (comes_back s j costs h v t b) = so.goes_on ∙ ap (after s j costs h v t so.so_far) (comes_back_is u b none) in
        let back : Searches (after s j costs h v t so.so_far (comes_back s j costs h v t b)) limit₀ bag₀ turn b limit' bag' = record {
          looks = resting turn.known turn.known.state refl c.rests;
          best = refl;
          home = c.home;
          sent = subst (λ (ms : List (Message S)). Sent limit₀ bag₀ (ms ++ (comes_back s j costs h v t b).posts) turn.lost limit' bag') (sym (append-nil so.so_far)) (sent_then so.sent c.sent);
        } in
        subst (λ (x : Searched S). Searches x limit₀ bag₀ turn b limit' bag') (sym whole) back
