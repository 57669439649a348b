-- What a head does with a message that its search has on the way is a step of the search, or one and then searching on; and no such
-- message is stray. Serves deliveries. Assumes nothing.
use Rattle.std.proofs.Common.{◌≡◌, ℕ, ◌+◌, ◌≤◌, true, false, not, ◌||◌, ◌≢◌, List, [], ◌∷◌, ◌++◌, map, length, sym, refl, ap, ◌∙◌, subst, ap₂, inl, inr, arith}
use Rattle.std.specs.List.{range_with_len, AllByRecursion as All}
use Rattle.std.proofs.ByRecursion.{All-weaker}
use Rattle.std.proofs.lemmas.Bool.{cases_Bool, both_ways, cond-true, cond-false, and_from, or_left, or_right, ne_eqb, not_from_false, true≢false}
use Rattle.job.specs.declared.job.Job.{Job}
use Rattle.job.specs.declared.plan.Plan.{Plan as Plans}
use Rattle.job.specs.Lists.{every}
use Rattle.job.specs.Plans.{setups, named, name, is_complete, is_empty, unnamed_heads}
use Rattle.problem.specs.Bags.{Out, here, there, Same}
use Rattle.problem.specs.Costs.{joined}
use Rattle.problem.proofs.Naming.{setups_few}
use Rattle.problem.proofs.Weights.{setups_some}
use Rattle.link.specs.declared.message.Kind.TheVariants.{Request, Plan, Return}
use Rattle.link.specs.declared.message.Message.{Message}
use Rattle.link.specs.Messages.{message}
use Rattle.link.specs.HeadSets.{HeadSet, has_head, heads_in, Picks, member, nobody}
use Rattle.link.proofs.Bags.{out_append, out_left, out_right, out_swap, out_both, same_refl, same_sym, same_out}
use Rattle.head.specs.declared.best.Best.{Best}
use Rattle.head.specs.declared.record.State.{State}
use Rattle.head.specs.declared.record.State.TheVariants.{Resting, Gathering, Below}
use Rattle.head.specs.declared.record.Record.{Record}
use Rattle.head.specs.SetupSets.{SetupSet, first_setups, members}
use Rattle.head.specs.Bests.{hopeless, adopted}
use Rattle.head.specs.Views.{View, shows, view}
use Rattle.head.specs.Searching.{search_on}
use Rattle.head.specs.Replies.{Reply, choice, is_last, at_least as at_least_heard, reply, asks_picker}
use Rattle.head.specs.Strays.{heard_fit, expects, due}
use Rattle.searches.specs.Members.{Some}
use Rattle.searches.specs.Cubes.{Problem, Lawful, Fit, Open}
use Rattle.searches.specs.Bests.{Bests, put}
use Rattle.searches.specs.Chains.{Trial, Focus, home, acting, asking, sending, coming, Root, plan_of, Chain, Acts, Asks, Sound}
use Rattle.searches.specs.Steps.{cost_of, bound_of, at_least, request, report, plan_message, return, on_way, Step, answers, hears, gives_up, sends, receives, takes_back}
use Rattle.searches.specs.Moves.{is_out}
use Rattle.searches.specs.Promises.{is_settled, CompleteOrEmpty, Proper}
use Rattle.searches.proofs.Members.{some_in, all_out, all_same, all_of_append, all_both, out_of_map}
use Rattle.searches.proofs.Cubes.{setups_are, open_heads_are, open_head, open_heads_without, named_there, cost_of_name}
use Rattle.searches.proofs.Bests.{put_there}
use Rattle.searches.proofs.Chains.{chain_fits}
use Rattle.run.proofs.Sets.{members_of_first, has_listed, has_unlisted, listed_if_has, every_passes, every_fails}
use Rattle.run.proofs.Foci.{with_view, with_view_there, with_view_else, with_view_like, turned, shown_is, resting_is, task_of, record_of, gathered_from, ChainShows, one_below, Shows, gathers, has_sent, will_hear, shows_like, open_rests, heard_are_heads}
use Rattle.run.proofs.Silences.{put_put, put_same, Silent, SearchesOn, searching, searches_on}

-- a member's place in a list
pub some_place : {X : Type 0} {x : X} (ys : List X) → Some (λ y. y ≡ x) ys → (zs : List X) × Out x ys zs
some_place [] s = elim s [ ]
some_place (y ∷ ys) (inl e) = (ys, rw e here)
some_place (y ∷ ys) (inr s) = let r = some_place ys s in (y ∷ r.0, there r.1)

each_in_itself : (xs : List ℕ) → All (λ x. Some (λ y. y ≡ x) xs) xs
each_in_itself [] = tt
each_in_itself (x ∷ xs) = (inl refl, All-weaker _ _ (λ y s. inr s) xs (each_in_itself xs))

module _ (j : Job) (q : Plans) (fit : Fit j q) where
  -- the open heads stand among the open heads once
  open_once : {u : ℕ} {rest : List ℕ} → Out u (unnamed_heads j q) rest → All (λ g. u ≢ g) rest
  open_once {u} {rest} o =
      let free : Open j q u = open_head j q o in
      let first : 1 ≤ setups j u = setups_some j u free.one_up free.to_last in
      all_same _ (out_both refl o (open_heads_without j q u 0 fit free first))
      (All-weaker (Open j (name q u 0)) _ (λ g k e. both_ways (named (name q u 0) g) k.unnamed (ap (named (name q u 0)) (sym e) ∙ named_there j q u 0 fit free first)) (unnamed_heads j (name q u 0)) (open_heads_are j (name q u 0)))

  -- all open heads were heard, or one was not
  all_heard : (hs : List ℕ) → Same (unnamed_heads j q) hs → every (has_head (heads_in hs)) (unnamed_heads j q) ≡ true
  all_heard hs same =
      let open_ones : All (Open j q) hs = all_same _ (same_sym same) (open_heads_are j q) in
      every_passes _ (unnamed_heads j q)
      (all_same _ same (all_both (Open j q) (λ x. Some (λ y. y ≡ x) hs) _ (λ x k s. has_listed hs x k.one_up (omega (arith, k.to_last, j.eight)) s) hs open_ones (each_in_itself hs)))

  one_unheard : {x : ℕ} {rest : List ℕ} (hs : List ℕ) → Out x (unnamed_heads j q) rest → All (λ g. x ≢ g) hs → every (has_head (heads_in hs)) (unnamed_heads j q) ≡ false
  one_unheard {x} hs o a = every_fails _ (unnamed_heads j q) (some_in (λ y. has_head (heads_in hs) y ≡ false) o (inl (has_unlisted hs x a)))

module _ {S : Type 0} (π : Problem S) (r : Root) (v : ℕ) where
  -- a message of the search is taken: a step after which the search waits, or one after which the head searches on
  pub data Walk (B : Bests S) (f : Focus S) (m : Message S) : List (Message S) → List (Message S) → Bests S → Focus S → Type 0 where
    at_once : {B' : Bests S} {f' : Focus S} {posts : List (Message S)} → Step π v r B f (m ∷ []) B' f' [] posts → is_out f' ≡ true → is_settled f' ≡ true → Walk B f m [] posts B' f'
    and_on : {B' B'' : Bests S} {f' f'' : Focus S} {notes posts : List (Message S)} → Step π v r B f (m ∷ []) B' f' [] [] → is_out f' ≡ true → Silent π r v B' f' notes posts B'' f'' → Walk B f m notes posts B'' f''

  pub record Acted (B : Bests S) (f : Focus S) (V : ℕ → View S) (m : Message S) (result : Reply S) : Type 0 where
    pub bests' : Bests S
    pub focus' : Focus S
    pub walk : Walk B f m result.notices result.posts bests' focus'
    pub shown : Shows π r focus' (turned V m.to result.turn)
    pub bests : (g : ℕ) → bests' g ≡ put B m.to result.best g
    pub came : is_out focus' ≡ not result.home
    pub at_one : result.home ≡ true → m.to ≡ 1

  -- the message is due, and the record's state is one that expects it
  pub record Awaits (q : Record S) (m : Message S) : Type 0 where
    pub is_due : due π.job m.kind true q m ≡ true
    pub expects_it : expects q.state m.kind ≡ true

-- a best's plan, by the test that a head makes
pub bests_test : (j : Job) (q : Plans) → CompleteOrEmpty j q → (is_complete j q || is_empty q) ≡ true
bests_test j q (inl e) = or_left _ _ e
bests_test j q (inr e) = or_right _ _ e

request_any_time : (st : State) → expects st Request ≡ true
request_any_time Resting = refl
request_any_time Gathering = refl
request_any_time Below = refl

module _ {S : Type 0} {π : Problem S} (law : Lawful π) (r : Root) (at_one : r.head ≡ 1) (v : ℕ) where
  -- one of the heads that answered is open, and the others of its trial are other heads
  module _ (t : Trial) (up : List Trial) (asked answered left heard : List ℕ) (u : ℕ) (a : Asks π r t up asked answered heard) (o : Out u answered left) where
    abbrev on_trial : Plans
    on_trial = plan_of r (t ∷ up)

    fit : Fit π.job on_trial
    fit = chain_fits π.job r (t ∷ up) a.chain

    stands : (ys : List ℕ) × Out u (unnamed_heads π.job on_trial) ys × Same (asked ++ (left ++ heard)) ys
    stands = same_out (same_sym a.split) (out_right asked (out_left heard o))

    answered_is_open : Open π.job on_trial u
    answered_is_open = open_head π.job on_trial stands.1

    others_apart : All (λ g. u ≢ g) (asked ++ (left ++ heard))
    others_apart = all_same _ stands.2 (open_once π.job on_trial fit stands.1)

    unheard : has_head (heads_in heard) u ≡ false
    unheard = has_unlisted heard u (all_of_append _ left heard (all_of_append _ asked (left ++ heard) others_apart).1).1

  module _ (t : Trial) (up : List Trial) (heard : List ℕ) (u : ℕ) where
    abbrev whole : Plans
    whole = plan_of r (t ∷ up)

    -- another head has yet to be heard
    not_the_last : (asked answered left : List ℕ) → Asks π r t up asked answered heard → Out u answered left → 1 ≤ length asked + length left →
        every (has_head (heads_in (u ∷ heard))) (unnamed_heads π.job whole) ≡ false
    not_the_last (x ∷ asked) answered left a o some =
        let k = same_out (same_sym a.split) here in
        let rest = (all_of_append _ asked (answered ++ heard) (all_same _ k.2 (open_once π.job whole (chain_fits π.job r (t ∷ up) a.chain) k.1))).1 in
        let parts = all_of_append _ answered heard rest in
        one_unheard π.job whole (chain_fits π.job r (t ∷ up) a.chain) (u ∷ heard) k.1 ((all_out _ o parts.0).0, parts.1)
    not_the_last [] answered (x ∷ left) a o some =
        let w = out_swap o here in
        let k = same_out (same_sym a.split) (out_left heard w.1) in
        let parts = all_of_append _ w.0 heard (all_same _ k.2 (open_once π.job whole (chain_fits π.job r (t ∷ up) a.chain) k.1)) in
        one_unheard π.job whole (chain_fits π.job r (t ∷ up) a.chain) (u ∷ heard) k.1 ((all_out _ w.2 parts.0).0, parts.1)
    not_the_last [] answered [] a o some = absurd (omega arith)

    the_last : Asks π r t up [] (u ∷ []) heard → every (has_head (heads_in (u ∷ heard))) (unnamed_heads π.job whole) ≡ true
    the_last a = all_heard π.job whole (chain_fits π.job r (t ∷ up) a.chain) (u ∷ heard) a.split

    -- the record of the head that gathers
    module _ (untried : SetupSet) (c : Chain r π.job (t ∷ up)) where
      abbrev known : Record S
      known = record_of π r Gathering t up untried (gathered_from π r t up heard) (heads_in heard)

      trial_costs : known.trial ≡ cost_of π whole
      trial_costs = sym (cost_of_name law (plan_of r up) t.head t.setup (chain_fits π.job r up c.1) c.0.is_open c.0.lawful)

      joins_one_more : π.scale.join known.gathered (bound_of π whole u) ≡ gathered_from π r t up (u ∷ heard)
      unfolding joined
      joins_one_more = law.laws.commutative _ _

      at_least_is : at_least_heard π.scale π.job π.costs known (report π v r t up u) ≡ at_least π whole (u ∷ heard)
      at_least_is = ap₂ π.scale.join trial_costs joins_one_more

  module _ (B : Bests S) where
    -- a head that searches on does so from its chain
    goes_on_from : (h : ℕ) (up : List Trial) (is : List ℕ) (untried : SetupSet) (B' : Bests S) (b : Best S) → B' h ≡ b → Acts π r h is up → members untried ≡ is →
        SearchesOn π r v B' h is up (search_on π.scale π.job π.costs h v (task_of π r up) untried b)
    goes_on_from h up is untried B' b e a m =
        subst (λ (xs : List ℕ). SearchesOn π r v B' h is up (searching π r at_one v h up xs untried b)) (sym m) (searches_on π r at_one v h up is untried B' b e a m)

    abbrev answer : ℕ → Record S → Message S → Reply S
    answer picked q m = reply π.scale π.job π.costs picked q m (B m.to) m.kind

    abbrev MayPick : ℕ → Record S → Message S → Type 0
    MayPick picked q m = asks_picker π.scale π.job π.costs q m (B m.to) m.kind ≡ true → Picks (choice π.job m.to q) picked

    -- the head hears a report, and others are missing
    module _ (picked : ℕ) (t : Trial) (up : List Trial) (heard : List ℕ) (u : ℕ) (V above : ℕ → View S) (untried : SetupSet) (tries : members untried ≡ t.untried) (shown_above : ChainShows π r up above)
        (shown : (g : ℕ) → V g ≡ with_view above t.head (shows (record_of π r Gathering t up untried (gathered_from π r t up heard) (heads_in heard))) g) where
      abbrev gathering : Record S
      gathering = record_of π r Gathering t up untried (gathered_from π r t up heard) (heads_in heard)

      -- what the head shows then, over what the heads above it show
      over_above : (x : View S) (g : ℕ) → with_view V t.head x g ≡ with_view above t.head x g
      over_above x = with_view_like V above t.head x (λ g ne. shown g ∙ with_view_else above t.head _ g ne)

      abbrev told : Message S
      told = report π v r t up u

      hears_one : (asked answered left : List ℕ) → Asks π r t up asked answered heard → Out u answered left → 1 ≤ length asked + length left →
          Acted π r v B (asking t up asked answered heard) V told (answer picked gathering told)
      unfolding heads_in
      hears_one asked answered left a o some =
          let c : is_last π.scale π.job π.costs gathering told ≡ false = not_the_last t up heard u asked answered left a o some in
          subst (Acted π r v B (asking t up asked answered heard) V told) (sym (cond-false _ _ _ c)) (record {
            bests' = B;
            focus' = asking t up asked left (u ∷ heard);
            walk = at_once (hears o some) refl refl;
            shown = gathers above untried tries shown_above (λ g. over_above _ g ∙ ap (λ (x : S). with_view above t.head (shows (record_of π r Gathering t up untried x (heads_in (u ∷ heard)))) g) (joins_one_more t up heard u untried a.chain));
            bests = put_same B t.head (B t.head) refl;
            came = refl;
            at_one = λ no. absurd (true≢false (sym no));
          })

      -- the last one: the setup is given up
      hears_last_hopeless : (a : Asks π r t up [] (u ∷ []) heard) → hopeless π.scale (B t.head) (at_least_heard π.scale π.job π.costs gathering told) ≡ true →
          Acted π r v B (asking t up [] (u ∷ []) heard) V told (answer picked gathering told)
      unfolding heads_in
      hears_last_hopeless a e =
          let c : is_last π.scale π.job π.costs gathering told ≡ true = the_last t up heard u a in
          let k = goes_on_from t.head up t.untried untried B (B t.head) refl (record { is_open = a.chain.0.is_open; tries = a.chain.0.tries; hangs = a.chain.0.hangs; chain = a.chain.1 }) tries in
          subst (Acted π r v B (asking t up [] (u ∷ []) heard) V told) (sym (cond-true _ _ _ c ∙ cond-true _ _ _ e)) (record {
            bests' = k.bests';
            focus' = k.focus';
            walk = and_on (gives_up (sym (ap (hopeless π.scale (B t.head)) (at_least_is t up heard u untried a.chain)) ∙ e)) refl k.silent;
            shown = shows_like π r (over_above _) (k.shown above shown_above);
            bests = k.bests;
            came = k.came;
            at_one = k.at_one;
          })

      -- or the plan goes on to the head that was picked
      picked_is_open : Asks π r t up [] (u ∷ []) heard → Picks (heads_in (unnamed_heads π.job (plan_of r (t ∷ up)))) picked → (rest : List ℕ) × Out picked (unnamed_heads π.job (plan_of r (t ∷ up))) rest
      picked_is_open a (member has) = some_place _ (listed_if_has _ picked has)
      picked_is_open a (nobody is none) =
          let k = same_out (same_sym a.split) here in
          let free : Open π.job (plan_of r (t ∷ up)) u = open_head π.job _ k.1 in
          absurd (both_ways _ (none u) (has_listed _ u free.one_up (omega (arith, free.to_last, π.job.eight)) (some_in (λ g. g ≡ u) k.1 (inl refl))))

      hears_last_hopeful : (a : Asks π r t up [] (u ∷ []) heard) → hopeless π.scale (B t.head) (at_least_heard π.scale π.job π.costs gathering told) ≡ false → MayPick picked gathering told →
          Acted π r v B (asking t up [] (u ∷ []) heard) V told (answer picked gathering told)
      unfolding heads_in
      hears_last_hopeful a e may =
          let c : is_last π.scale π.job π.costs gathering told ≡ true = the_last t up heard u a in
          let o = picked_is_open a (may (and_from _ _ c (not_from_false _ e))) in
          subst (Acted π r v B (asking t up [] (u ∷ []) heard) V told) (sym (cond-true _ _ _ c ∙ cond-false _ _ _ e)) (record {
            bests' = B;
            focus' = sending t up picked;
            walk = subst (λ (x : S). Walk π r v B (asking t up [] (u ∷ []) heard) told [] (message Plan picked t.head v (plan_of r (t ∷ up)) x ∷ []) B (sending t up picked)) (sym (trial_costs t up heard u untried a.chain))
                (at_once (sends (sym (ap (hopeless π.scale (B t.head)) (at_least_is t up heard u untried a.chain)) ∙ e) o.1) refl refl);
            shown = has_sent (one_below above untried _ _ tries (rest_heard a) shown_above (over_above _));
            bests = put_same B t.head (B t.head) refl;
            came = refl;
            at_one = λ no. absurd (true≢false (sym no));
          })
        where
          rest_heard : Asks π r t up [] (u ∷ []) heard → heard_fit π.job (heads_in (u ∷ heard)) ≡ true
          rest_heard a = heard_are_heads π r at_one (plan_of r (t ∷ up)) (u ∷ heard) (all_same _ (same_sym a.split) (open_heads_are π.job (plan_of r (t ∷ up))))

      hears_last : (a : Asks π r t up [] (u ∷ []) heard) → MayPick picked gathering told → Acted π r v B (asking t up [] (u ∷ []) heard) V told (answer picked gathering told)
      hears_last a may = elim (cases_Bool (hopeless π.scale (B t.head) (at_least_heard π.scale π.job π.costs gathering told))) [
        | inl e ↦ hears_last_hopeless a e
        | inr e ↦ hears_last_hopeful a e may
      ]

      reported : (asked answered left : List ℕ) → Asks π r t up asked answered heard → Out u answered left → MayPick picked gathering told →
          Acted π r v B (asking t up asked answered heard) V told (answer picked gathering told)
      reported (x ∷ asked) answered left a o may = hears_one (x ∷ asked) answered left a o (omega arith)
      reported [] answered (x ∷ left) a o may = hears_one [] answered (x ∷ left) a o (omega arith)
      reported [] answered [] a here may = hears_last a may

    -- a head that was asked reports
    requested : (picked : ℕ) (q : Record S) (t : Trial) (up : List Trial) (asked answered left heard : List ℕ) (u : ℕ) (V : ℕ → View S) → Shows π r (asking t up asked answered heard) V → Out u asked left →
        Acted π r v B (asking t up asked answered heard) V (request π v r t up u) (answer picked q (request π v r t up u))
    requested picked q t up asked answered left heard u V (gathers above untried m c f) o = record {
      bests' = B;
      focus' = asking t up left (u ∷ answered) heard;
      walk = at_once (answers o) refl refl;
      shown = gathers above untried m c f;
      bests = put_same B u (B u) refl;
      came = refl;
      at_one = λ no. absurd (true≢false (sym no));
    }

    -- a head takes a plan
    handed : (picked : ℕ) (q : Record S) (t : Trial) (up : List Trial) (u : ℕ) (V : ℕ → View S) → Sound π r (sending t up u) → ChainShows π r (t ∷ up) V →
        Acted π r v B (sending t up u) V (plan_message π v r t up u) (answer picked q (plan_message π v r t up u))
    handed picked q t up u V s c =
        let k = goes_on_from u (t ∷ up) (range_with_len 0 (setups π.job u)) (first_setups (setups π.job u)) B (B u) refl
        (record { is_open = s.is_open; tries = setups_are π.job u; hangs = tt; chain = s.chain }) (members_of_first (setups π.job u) (setups_few π.job u)) in
        record {
          bests' = k.bests';
          focus' = k.focus';
          walk = and_on (receives (same_refl _)) refl k.silent;
          shown = k.shown V c;
          bests = k.bests;
          came = k.came;
          at_one = k.at_one;
        }

    -- a head takes what comes back
    returned : (picked : ℕ) (t : Trial) (up : List Trial) (u : ℕ) (b : Best S) (V above : ℕ → View S) (untried : SetupSet) (gathered : S) (heard : HeadSet) → Sound π r (coming t up u b) → members untried ≡ t.untried →
        ChainShows π r up above → ((g : ℕ) → V g ≡ with_view above t.head (shows (record_of π r Below t up untried gathered heard)) g) →
        Acted π r v B (coming t up u b) V (return π v r t.head u b) (answer picked (record_of π r Below t up untried gathered heard) (return π v r t.head u b))
    returned picked t up u b V above untried gathered heard s m d f =
        let new : Best S = adopted π.scale b (B t.head) in
        let c = s.0.chain in
        let k = goes_on_from t.head up t.untried untried (put B t.head new) new (put_there B t.head new) (record { is_open = c.0.is_open; tries = c.0.tries; hangs = c.0.hangs; chain = c.1 }) m in
        record {
          bests' = k.bests';
          focus' = k.focus';
          walk = and_on takes_back refl k.silent;
          shown = shows_like π r (with_view_like V above t.head _ (λ g ne. f g ∙ with_view_else above t.head _ g ne)) (k.shown above d);
          bests = λ g. k.bests g ∙ put_put B t.head new _ g;
          came = k.came;
          at_one = k.at_one;
        }

    -- whichever message of the search it is
    abbrev Responds : ℕ → Record S → Focus S → (ℕ → View S) → Message S → Type 0
    Responds picked q f V m = view q ≡ V m.to → MayPick picked q m → Acted π r v B f V m (answer picked q m)

    pub acted : (picked : ℕ) (q : Record S) (f : Focus S) (V : ℕ → View S) {m : Message S} {left : List (Message S)} → Sound π r f → Shows π r f V → Out m (on_way π v r f) left → Responds picked q f V m
    acted picked q home V s w o = elim o [ ]
    acted picked q (acting h is up) V s w o = elim o [ ]
    acted picked q (asking t up asked answered heard) V s w o = elim (out_append (map (request π v r t up) asked) (map (report π v r t up) answered) o) [
      | inl k ↦ let m = out_of_map (request π v r t up) asked k.1 in rw m.3 (λ e may. requested picked q t up asked answered m.1 heard m.0 V w m.2)
      | inr k ↦ let m = out_of_map (report π v r t up) answered k.1 in rw m.3 (hearing w m.0 m.1 m.2)
    ]
      where
        hearing : Shows π r (asking t up asked answered heard) V → (u : ℕ) (left : List ℕ) → Out u answered left → Responds picked q (asking t up asked answered heard) V (report π v r t up u)
        hearing (gathers above untried m c f) u left o e =
            let is = shown_is q _ (e ∙ f t.head ∙ with_view_there above t.head _) in
            subst (λ (x : Record S). MayPick picked x (report π v r t up u) → Acted π r v B (asking t up asked answered heard) V (report π v r t up u) (answer picked x (report π v r t up u))) (sym is)
            (λ may. reported picked t up heard u V above untried m c f asked answered left s o may)
    acted picked q (sending t up u) V s (has_sent c) here = λ e may. handed picked q t up u V s c
    acted picked q (sending t up u) V s w (there o) = elim o [ ]
    acted picked q (coming t up u b) V s (will_hear c) here = λ e may. returning e c
      where
        returning : view q ≡ V t.head → ChainShows π r (t ∷ up) V → Acted π r v B (coming t up u b) V (return π v r t.head u b) (answer picked q (return π v r t.head u b))
        returning e (one_below above untried gathered heard m k d f) =
            let is = shown_is q _ (e ∙ f t.head ∙ with_view_there above t.head _) in
            subst (λ (x : Record S). Acted π r v B (coming t up u b) V (return π v r t.head u b) (answer picked x (return π v r t.head u b))) (sym is) (returned picked t up u b V above untried gathered heard s m d f)
    acted picked q (coming t up u b) V s w (there o) = elim o [ ]

  -- no message of a search is stray
  pub awaits : (q : Record S) (f : Focus S) (V : ℕ → View S) {m : Message S} {left : List (Message S)} → Sound π r f → Shows π r f V → Out m (on_way π v r f) left → view q ≡ V m.to → Proper π.job m → Awaits π r v q m
  awaits q home V s w o = elim o [ ]
  awaits q (acting h is up) V s w o = elim o [ ]
  awaits q (asking t up asked answered heard) V s w o = elim (out_append (map (request π v r t up) asked) (map (report π v r t up) answered) o) [
    | inl k ↦ let m = out_of_map (request π v r t up) asked k.1 in rw m.3 (λ e p. record { is_due = not_from_false _ p.suits; expects_it = request_any_time q.state })
    | inr k ↦ let m = out_of_map (report π v r t up) answered k.1 in rw m.3 (λ e p. hearing w m.0 m.1 m.2 e)
  ]
    where
      hearing : Shows π r (asking t up asked answered heard) V → (u : ℕ) (left : List ℕ) → Out u answered left → view q ≡ V t.head → Awaits π r v q (report π v r t up u)
      hearing (gathers above untried m c f) u left o e =
          let is = shown_is q _ (e ∙ f t.head ∙ with_view_there above t.head _) in
          subst (λ (x : Record S). Awaits π r v x (report π v r t up u)) (sym is) (record {
            is_due = and_from _ _ (not_from_false _ (answered_is_open t up asked answered left heard u s o).unnamed) (not_from_false _ (unheard t up asked answered left heard u s o));
            expects_it = refl;
          })
  awaits q (sending t up u) V s (has_sent c) here = λ e p. record {
    is_due = and_from _ _ (not_from_false _ (ne_eqb _ _ p.suits.1)) (not_from_false _ p.suits.0);
    expects_it = ap (λ (st : State). expects st Plan) (resting_is q (e ∙ open_rests π r u s.chain s.is_open.unnamed c));
  }
  awaits q (sending t up u) V s w (there o) = elim o [ ]
  awaits q (coming t up u b) V s (will_hear c) here = λ e p. record { is_due = bests_test π.job b.plan p.suits; expects_it = below e c }
    where
      below : view q ≡ V t.head → ChainShows π r (t ∷ up) V → expects q.state Return ≡ true
      below e (one_below above untried gathered heard m k d f) = ap (λ (x : Record S). expects x.state Return) (shown_is q _ (e ∙ f t.head ∙ with_view_there above t.head _))
  awaits q (coming t up u b) V s w (there o) = elim o [ ]
