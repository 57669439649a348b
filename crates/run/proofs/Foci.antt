-- What the records of one search show, head by head, from what the search is doing: each head on its chain waits below with what it was
-- sent and its setup on trial, the lowest may be gathering, and every other head rests. And that such records are sound. Serves the
-- steps of a search as the records show them. Assumes nothing.
use Rattle.std.proofs.Common.{◌≡◌, ℕ, ◌+◌, ◌<◌, ◌≤◌, Bool, true, false, cond, not, ◌&&◌, ◌||◌, eqb, ◌≢◌, List, [], ◌∷◌, ◌++◌, sym, refl, ap, ◌∙◌, inl, inr, arith}
use Rattle.std.specs.List.{range_with_len, AllByRecursion as All}
use Rattle.std.proofs.lemmas.Bool.{cases_Bool, cases_eq, both_ways, cond-true, cond-false, and_from, or_left, or_right, eq-eqb, ne_eqb, lt-ltb, le-leb, not_from_false}
use Rattle.job.specs.declared.plan.Plan.{Plan as Plans}
use Rattle.job.specs.Plans.{setups, named, is_head, is_setup}
use Rattle.problem.specs.Costs.{joined, against}
use Rattle.problem.proofs.Naming.{all_counting, named_name_other}
use Rattle.problem.proofs.Weights.{setups_some}
use Rattle.link.specs.HeadSets.{HeadSet, has_head, heads_in}
use Rattle.link.proofs.Bags.{same_sym}
use Rattle.head.specs.declared.best.Best.{Best}
use Rattle.head.specs.declared.record.State.{State}
use Rattle.head.specs.declared.record.State.TheVariants.{Resting, Gathering, Below}
use Rattle.head.specs.declared.record.Record.{Record}
use Rattle.head.specs.SetupSets.{SetupSet, has_setup, members}
use Rattle.head.specs.Views.{View, rests, shows, view, Turn, stays, becomes}
use Rattle.head.specs.Searching.{Task}
use Rattle.head.specs.Strays.{untried_fit, heard_fit, sender_fits, is_in_range, is_sound}
use Rattle.searches.specs.Cubes.{Problem, Open}
use Rattle.searches.specs.Chains.{Trial, Focus, home, acting, asking, sending, coming, Root, plan_of, Chain, Asks, Sound}
use Rattle.searches.specs.Steps.{cost_of, bound_of}
use Rattle.searches.specs.Members.{Some}
use Rattle.searches.proofs.Members.{all_same, all_of_append}
use Rattle.searches.proofs.Cubes.{open_heads_are}
use Rattle.searches.proofs.Chains.{chain_fits, lowest_is_named, open_is_other}
use Rattle.searches.proofs.Messages.{cube_is_of_job}
use Rattle.run.proofs.Sets.{all_of_those, listed_if_has, every_passes}

module _ {S : Type 0} where
  -- the views but that of one head, which is another
  abbrev pub with_view : (ℕ → View S) → ℕ → View S → ℕ → View S
  with_view V h x g = cond (eqb g h) x (V g)

  pub with_view_there : (V : ℕ → View S) (h : ℕ) (x : View S) → with_view V h x h ≡ x
  with_view_there V h x = cond-true _ _ _ (eq-eqb h h refl)

  pub with_view_else : (V : ℕ → View S) (h : ℕ) (x : View S) (g : ℕ) → g ≢ h → with_view V h x g ≡ V g
  with_view_else V h x g ne = cond-false _ _ _ (ne_eqb g h ne)

  pub with_view_like : (V W : ℕ → View S) (h : ℕ) (x : View S) → ((g : ℕ) → g ≢ h → V g ≡ W g) → (g : ℕ) → with_view V h x g ≡ with_view W h x g
  with_view_like V W h x e g = elim (cases_eq g h) [
    | inl same ↦ cond-true _ _ _ (eq-eqb g h same) ∙ sym (cond-true _ _ _ (eq-eqb g h same))
    | inr ne ↦ with_view_else V h x g ne ∙ e g ne ∙ sym (with_view_else W h x g ne)
  ]

  -- what a head already shows
  pub with_view_same : (V : ℕ → View S) (h : ℕ) (x : View S) → V h ≡ x → (g : ℕ) → with_view V h x g ≡ V g
  with_view_same V h x e g = elim (cases_eq g h) [
    | inl same ↦ cond-true _ _ _ (eq-eqb g h same) ∙ sym (ap V same ∙ e)
    | inr ne ↦ with_view_else V h x g ne
  ]

  -- the views after a head's record turns
  abbrev pub turned : (ℕ → View S) → ℕ → Turn S → ℕ → View S
  turned V h stays = V
  turned V h (becomes x) = with_view V h x

  -- a record by what it shows
  view_in : (r q : Record S) (st : State) → r.state ≡ st → view r ≡ shows q → r ≡ q
  view_in r q Resting e v = absurd (let z : rests ≡ shows q = sym (rw e) ∙ v in let o : ◌≡◌ {A = ℕ} 0 1 = cc in omega arith)
  view_in r q Gathering e v = let z : shows r ≡ shows q = sym (rw e) ∙ v in cc
  view_in r q Below e v = let z : shows r ≡ shows q = sym (rw e) ∙ v in cc

  pub shown_is : (r q : Record S) → view r ≡ shows q → r ≡ q
  shown_is r q e = view_in r q r.state refl e

  rests_in : (r : Record S) (st : State) → r.state ≡ st → view r ≡ rests → st ≡ Resting
  rests_in r Resting e v = refl
  rests_in r Gathering e v = absurd (let z : shows r ≡ rests = sym (rw e) ∙ v in let o : ◌≡◌ {A = ℕ} 0 1 = cc in omega arith)
  rests_in r Below e v = absurd (let z : shows r ≡ rests = sym (rw e) ∙ v in let o : ◌≡◌ {A = ℕ} 0 1 = cc in omega arith)

  pub resting_is : (r : Record S) → view r ≡ rests → r.state ≡ Resting
  resting_is r e = rests_in r r.state refl e

module _ {S : Type 0} (π : Problem S) (r : Root) where
  -- who sent a chain's lowest head its plan; nobody, 0, where the search began
  abbrev pub sent_by : List Trial → ℕ
  sent_by [] = 0
  sent_by (t ∷ up) = t.head

  -- what a head below a chain was sent, and its record while a setup is on trial
  abbrev pub task_of : List Trial → Task S
  task_of up = record { received = plan_of r up; cost = cost_of π (plan_of r up); sender = sent_by up }

  abbrev pub record_of : State → Trial → List Trial → SetupSet → S → HeadSet → Record S
  record_of st t up untried gathered heard = record {
    state = st;
    received = plan_of r up;
    cost = cost_of π (plan_of r up);
    sender = sent_by up;
    setup = t.setup;
    trial = π.scale.join (cost_of π (plan_of r up)) (against π.scale π.costs π.job t.head t.setup (plan_of r up));
    untried = untried;
    gathered = gathered;
    heard = heard;
  }

  -- the bounds heard, and the heads that they came from, in the record of the head that gathers
  abbrev pub gathered_from : Trial → List Trial → List ℕ → S
  gathered_from t up heard = joined π.scale (bound_of π (plan_of r (t ∷ up))) heard

  -- every head of a chain is below, and the others rest
  pub data ChainShows : List Trial → (ℕ → View S) → Type 0 where
    all_rest : {V : ℕ → View S} → ((g : ℕ) → V g ≡ rests) → ChainShows [] V
    one_below : {t : Trial} {up : List Trial} {V : ℕ → View S} (above : ℕ → View S) (untried : SetupSet) (gathered : S) (heard : HeadSet) →
        members untried ≡ t.untried → heard_fit π.job heard ≡ true → ChainShows up above →
        ((g : ℕ) → V g ≡ with_view above t.head (shows (record_of Below t up untried gathered heard)) g) → ChainShows (t ∷ up) V

  -- what the records show while a search is doing something
  pub data Shows : Focus S → (ℕ → View S) → Type 0 where
    at_home : {V : ℕ → View S} → ((g : ℕ) → V g ≡ rests) → Shows home V
    in_act : {h : ℕ} {is : List ℕ} {up : List Trial} {V : ℕ → View S} → ChainShows up V → Shows (acting h is up) V
    gathers : {t : Trial} {up : List Trial} {asked answered heard : List ℕ} {V : ℕ → View S} (above : ℕ → View S) (untried : SetupSet) → members untried ≡ t.untried → ChainShows up above →
        ((g : ℕ) → V g ≡ with_view above t.head (shows (record_of Gathering t up untried (gathered_from t up heard) (heads_in heard))) g) → Shows (asking t up asked answered heard) V
    has_sent : {t : Trial} {up : List Trial} {u : ℕ} {V : ℕ → View S} → ChainShows (t ∷ up) V → Shows (sending t up u) V
    will_hear : {t : Trial} {up : List Trial} {u : ℕ} {b : Best S} {V : ℕ → View S} → ChainShows (t ∷ up) V → Shows (coming t up u b) V

  -- other views that are the same
  pub chain_shows_like : {up : List Trial} {V W : ℕ → View S} → ((g : ℕ) → W g ≡ V g) → ChainShows up V → ChainShows up W
  chain_shows_like e (all_rest f) = all_rest (λ g. e g ∙ f g)
  chain_shows_like e (one_below above untried gathered heard m k c f) = one_below above untried gathered heard m k c (λ g. e g ∙ f g)

  pub shows_like : {f : Focus S} {V W : ℕ → View S} → ((g : ℕ) → W g ≡ V g) → Shows f V → Shows f W
  shows_like e (at_home f) = at_home (λ g. e g ∙ f g)
  shows_like e (in_act c) = in_act (chain_shows_like e c)
  shows_like e (gathers above untried m c f) = gathers above untried m c (λ g. e g ∙ f g)
  shows_like e (has_sent c) = has_sent (chain_shows_like e c)
  shows_like e (will_hear c) = will_hear (chain_shows_like e c)

  -- a head that the chain's plan leaves open rests
  pub open_rests : {up : List Trial} {V : ℕ → View S} (g : ℕ) → Chain r π.job up → named (plan_of r up) g ≡ false → ChainShows up V → V g ≡ rests
  open_rests g c n (all_rest f) = f g
  open_rests g c n (one_below {t = t} {up = up} above untried gathered heard m k d f) = elim (cases_eq g t.head) [
    | inl e ↦ absurd (both_ways (named (plan_of r (t ∷ up)) g) n (ap (named (plan_of r (t ∷ up))) e ∙ lowest_is_named π.job r t up c))
    | inr ne ↦ f g ∙ with_view_else above t.head _ g ne ∙ open_rests g c.1 (sym (named_name_other (plan_of r up) t.head t.setup g ne) ∙ n) d
  ]

  -- Such records are sound.
  abbrev sound_view : ℕ → View S → Bool
  sound_view h rests = true
  sound_view h (shows q) = is_sound π.job h q

  view_sound : (h : ℕ) (q : Record S) (st : State) → q.state ≡ st → sound_view h (view q) ≡ true → is_sound π.job h q ≡ true
  view_sound h q Resting e k = rw e
  view_sound h q Gathering e k = rw e (rw e at k)
  view_sound h q Below e k = rw e (rw e at k)

  untried_are_own : (h : ℕ) (untried : SetupSet) (is : List ℕ) → members untried ≡ is → All (λ i. i < setups π.job h) is → untried_fit π.job h untried ≡ true
  untried_are_own h untried is m a = every_passes _ (range_with_len 0 8) (all_counting _ 0 8 (λ i l u. own i l u))
    where
      own : (i : ℕ) → 0 ≤ i → i < 0 + 8 → (not (has_setup untried i) || is_setup π.job h i) ≡ true
      own i l u = elim (cases_Bool (has_setup untried i)) [
        | inl y ↦ or_right _ _ (lt-ltb _ _ (all_of_those (has_setup untried) (λ k. k < setups π.job h) 0 8 i l u y (rw (← m) at a)))
        | inr n ↦ or_left _ _ (not_from_false _ n)
      ]

  head_test : (h : ℕ) → 1 ≤ h → h ≤ π.job.heads → is_head π.job h ≡ true
  head_test h l u = le-leb _ _ (setups_some π.job h l u)

  module _ (at_one : r.head ≡ 1) where
    sender_is_other : (t : Trial) (up : List Trial) → Chain r π.job (t ∷ up) → sender_fits π.job t.head (sent_by up) ≡ true
    sender_is_other t [] c = or_right (is_head π.job 0 && not (eqb 0 t.head)) _ (and_from _ _ (eq-eqb _ _ (c.0.hangs ∙ at_one)) refl)
    sender_is_other t (t' ∷ up) c =
        let o = c.1.0.is_open in
        let ne : t.head ≢ t'.head = open_is_other π.job r (plan_of r (t' ∷ up)) t.head t'.head c.0.is_open (lowest_is_named π.job r t' up c.1) in
        or_left _ _ (and_from _ _ (head_test t'.head o.one_up o.to_last) (not_from_false _ (ne_eqb _ _ (λ e. ne (sym e)))))

    in_range : (st : State) (t : Trial) (up : List Trial) (untried : SetupSet) (gathered : S) (heard : HeadSet) → Chain r π.job (t ∷ up) → members untried ≡ t.untried → heard_fit π.job heard ≡ true →
        is_in_range π.job t.head (record_of st t up untried gathered heard) ≡ true
    in_range st t up untried gathered heard c m k =
        and_from _ _ (cube_is_of_job π.job (plan_of r up) (chain_fits π.job r up c.1))
        (and_from _ _ (not_from_false _ c.0.is_open.unnamed)
        (and_from _ _ (lt-ltb _ _ c.0.lawful) (and_from _ _ (untried_are_own t.head untried t.untried m c.0.tries) (and_from _ _ k (sender_is_other t up c)))))

    chain_views_sound : {up : List Trial} {V : ℕ → View S} (g : ℕ) → Chain r π.job up → ChainShows up V → sound_view g (V g) ≡ true
    chain_views_sound g c (all_rest f) = ap (sound_view g) (f g)
    chain_views_sound g c (one_below {t = t} {up = up} above untried gathered heard m k d f) = elim (cases_eq g t.head) [
      | inl e ↦ ap (sound_view g) (f g ∙ cond-true _ _ _ (eq-eqb g t.head e)) ∙ ap (λ (h : ℕ). is_sound π.job h (record_of Below t up untried gathered heard)) e ∙ in_range Below t up untried gathered heard c m k
      | inr ne ↦ ap (sound_view g) (f g ∙ with_view_else above t.head _ g ne) ∙ chain_views_sound g c.1 d
    ]

    pub heard_are_heads : (q : Plans) (heard : List ℕ) → All (Open π.job q) heard → heard_fit π.job (heads_in heard) ≡ true
    heard_are_heads q heard a = every_passes _ (range_with_len 1 8) (all_counting _ 1 8 (λ g l u. own g))
      where
        head_of : (g : ℕ) (hs : List ℕ) → All (Open π.job q) hs → Some (λ h. h ≡ g) hs → is_head π.job g ≡ true
        head_of g [] a s = elim s [ ]
        head_of g (h ∷ hs) a (inl e) = rw (← e) (head_test h a.0.one_up a.0.to_last)
        head_of g (h ∷ hs) a (inr s) = head_of g hs a.1 s

        own : (g : ℕ) → (not (has_head (heads_in heard) g) || is_head π.job g) ≡ true
        own g = elim (cases_Bool (has_head (heads_in heard) g)) [
          | inl y ↦ or_right _ _ (head_of g heard a (listed_if_has heard g y))
          | inr n ↦ or_left _ _ (not_from_false _ n)
        ]

    -- the heads heard are open
    heard_are_open : (t : Trial) (up : List Trial) (asked answered heard : List ℕ) → Asks π r t up asked answered heard → All (Open π.job (plan_of r (t ∷ up))) heard
    heard_are_open t up asked answered heard a =
        (all_of_append _ answered heard (all_of_append _ asked (answered ++ heard) (all_same _ (same_sym a.split) (open_heads_are π.job (plan_of r (t ∷ up))))).1).1

    heard_fits : (t : Trial) (up : List Trial) (asked answered heard : List ℕ) → Asks π r t up asked answered heard → heard_fit π.job (heads_in heard) ≡ true
    heard_fits t up asked answered heard a = heard_are_heads (plan_of r (t ∷ up)) heard (heard_are_open t up asked answered heard a)

    views_sound : {f : Focus S} {V : ℕ → View S} (g : ℕ) → Sound π r f → Shows f V → sound_view g (V g) ≡ true
    views_sound g s (at_home f) = ap (sound_view g) (f g)
    views_sound g s (in_act c) = chain_views_sound g s.chain c
    views_sound g s (gathers {t = t} {up = up} {asked = asked} {answered = answered} {heard = heard} above untried m c f) = elim (cases_eq g t.head) [
      | inl e ↦ ap (sound_view g) (f g ∙ cond-true _ _ _ (eq-eqb g t.head e))
          ∙ ap (λ (h : ℕ). is_sound π.job h (record_of Gathering t up untried (gathered_from t up heard) (heads_in heard))) e
          ∙ in_range Gathering t up untried (gathered_from t up heard) (heads_in heard) s.chain m (heard_fits t up asked answered heard s)
      | inr ne ↦ ap (sound_view g) (f g ∙ with_view_else above t.head _ g ne) ∙ chain_views_sound g s.chain.1 c
    ]
    views_sound g s (has_sent c) = chain_views_sound g s.chain c
    views_sound g s (will_hear c) = chain_views_sound g s.0.chain c

    -- a record that looks as the search has it is sound
    pub shown_is_sound : {f : Focus S} {V : ℕ → View S} (g : ℕ) (q : Record S) → Sound π r f → Shows f V → view q ≡ V g → is_sound π.job g q ≡ true
    shown_is_sound g q s w e = view_sound g q q.state refl (ap (sound_view g) e ∙ views_sound g s w)
