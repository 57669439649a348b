-- Searching on is a chain of steps of its search that take no message: setups are given up or found to make plans, until the open heads
-- are asked, or no setup is left and the best goes back, or the search is home. Serves the acts of a head, which end in searching on.
-- Assumes nothing.
use Rattle.std.proofs.Common.{◌≡◌, ℕ, true, false, not, eqb, ◌≢◌, List, [], ◌∷◌, ◌++◌, sym, refl, ap, ◌∙◌, subst, inl, inr}
use Rattle.std.proofs.lemmas.Bool.{cases_Bool, eq-eqb, ne_eqb, true≢false}
use Rattle.job.specs.Plans.{heads, named, unnamed_heads, is_complete}
use Rattle.problem.specs.Bags.{here, Same}
use Rattle.problem.specs.Costs.{joined}
use Rattle.link.specs.declared.message.Message.{Message}
use Rattle.link.specs.HeadSets.{heads_in}
use Rattle.link.proofs.Bags.{same_refl}
use Rattle.head.specs.declared.best.Best.{Best}
use Rattle.head.specs.SetupSets.{SetupSet, without_setup, members}
use Rattle.head.specs.Bests.{hopeless}
use Rattle.head.specs.Views.{View, rests}
use Rattle.head.specs.Searching.{asks as asks_others, Searched, found, notices_of, after, trying}
use Rattle.searches.specs.Cubes.{Problem}
use Rattle.searches.specs.Bests.{Bests, put}
use Rattle.searches.specs.Chains.{Trial, Focus, home, acting, asking, coming, Root, plan_of, Acts}
use Rattle.searches.specs.Steps.{return, Step, skips, finds, asks, rises, comes_home}
use Rattle.searches.specs.Moves.{is_out}
use Rattle.searches.specs.Promises.{is_settled}
use Rattle.searches.proofs.Bests.{put_there, put_cases}
use Rattle.searches.proofs.Chains.{root_is_named, open_is_other}
use Rattle.run.proofs.Sets.{members_without, none_of_those, some_of_those, others_are}
use Rattle.run.proofs.Foci.{with_view, with_view_same, task_of, ChainShows, all_rest, Shows, at_home, gathers, will_hear, chain_shows_like, open_rests}

module _ {S : Type 0} where
  pub put_put : (B : Bests S) (h : ℕ) (b c : Best S) (g : ℕ) → put (put B h b) h c g ≡ put B h c g
  put_put B h b c g = elim (cases_Bool (eqb g h)) [ inl e ↦ rw e | inr e ↦ rw e ]

  -- to put what is there changes nothing
  pub put_same : (B : Bests S) (h : ℕ) (b : Best S) → B h ≡ b → (g : ℕ) → B g ≡ put B h b g
  put_same B h b e g = elim (put_cases B h b g) [ inl k ↦ ap B k.0 ∙ e ∙ sym k.1 | inr k ↦ sym k.1 ]

module _ {S : Type 0} (π : Problem S) (r : Root) where
  -- steps of search v that take no message, to where it waits, with the notices and then the other messages that it sends
  pub data Silent (v : ℕ) : Bests S → Focus S → List (Message S) → List (Message S) → Bests S → Focus S → Type 0 where
    last : {B B' : Bests S} {f f' : Focus S} {posts : List (Message S)} → Step π v r B f [] B' f' [] posts → is_settled f' ≡ true → Silent v B f [] posts B' f'
    next : {B B' B'' : Bests S} {f f' f'' : Focus S} {notes notes' posts : List (Message S)} → Step π v r B f [] B' f' notes [] → is_out f' ≡ true → Silent v B' f' notes' posts B'' f'' →
        Silent v B f (notes ++ notes') posts B'' f''

  -- What searching on comes to is such a chain, after which the records show what the search is doing.
  pub record SearchesOn (v : ℕ) (B : Bests S) (h : ℕ) (is : List ℕ) (up : List Trial) (result : Searched S) : Type 0 where
    pub bests' : Bests S
    pub focus' : Focus S
    pub silent : Silent v B (acting h is up) result.notices result.posts bests' focus'
    pub shown : (V : ℕ → View S) → ChainShows π r up V → Shows π r focus' (with_view V h result.view)
    pub bests : (g : ℕ) → bests' g ≡ put B h result.best g
    pub came : is_out focus' ≡ not result.home
    pub at_one : result.home ≡ true → h ≡ 1

module _ {S : Type 0} (π : Problem S) (r : Root) (at_one : r.head ≡ 1) (v h : ℕ) where
  -- searching on from a chain
  abbrev pub searching : List Trial → List ℕ → SetupSet → Best S → Searched S
  searching up is untried b = trying π.scale π.job π.costs h v (task_of π r up) is untried b

  -- no setup is left
  ending : (up : List Trial) (untried : SetupSet) (B : Bests S) (b : Best S) → B h ≡ b → Acts π r h [] up → SearchesOn π r v B h [] up (searching up [] untried b)
  unfolding trying
  ending [] untried B b e a =
      let one : h ≡ 1 = a.hangs ∙ at_one in
      rw (eq-eqb h 1 one) (record {
        bests' = B;
        focus' = home;
        silent = last comes_home refl;
        shown = λ V c. elim c [ all_rest f ↦ at_home (λ g. with_view_same V h rests (f h) g ∙ f g) ];
        bests = put_same B h b e;
        came = refl;
        at_one = λ _. one;
      })
  ending (t ∷ up) untried B b e a =
      let other : h ≢ 1 = λ is. open_is_other π.job r (plan_of r (t ∷ up)) h r.head a.is_open (root_is_named π.job r t up a.chain) (is ∙ sym at_one) in
      rw (ne_eqb h 1 other) (record {
        bests' = B;
        focus' = coming t up h (B h);
        silent = subst (λ (z : Best S). Silent π r v B (acting h [] (t ∷ up)) [] (return π v r t.head h z ∷ []) B (coming t up h (B h))) e (last rises refl);
        shown = λ V c. will_hear (chain_shows_like π r (with_view_same V h rests (open_rests π r h a.chain a.is_open.unnamed c)) c);
        bests = put_same B h b e;
        came = refl;
        at_one = λ no. absurd (true≢false (sym no));
      })

  -- a setup is tried
  module _ (up : List Trial) (i : ℕ) (is : List ℕ) (untried : SetupSet) (B : Bests S) (b : Best S) (e : B h ≡ b) (a : Acts π r h (i ∷ is) up) (m : members untried ≡ i ∷ is) where
    abbrev fresh : Best S
    fresh = found π.scale π.job π.costs h v (task_of π r up) i

    abbrev left : SetupSet
    left = without_setup untried i

    skipped : hopeless π.scale b fresh.cost ≡ true → (result : Searched S) → SearchesOn π r v B h is up result → SearchesOn π r v B h (i ∷ is) up result
    skipped c result k = record {
      bests' = k.bests';
      focus' = k.focus';
      silent = next (skips here (ap (λ (x : Best S). hopeless π.scale x fresh.cost) e ∙ c)) refl k.silent;
      shown = k.shown;
      bests = k.bests;
      came = k.came;
      at_one = k.at_one;
    }

    found_one : hopeless π.scale b fresh.cost ≡ false → is_complete π.job fresh.plan ≡ true → (result : Searched S) → SearchesOn π r v (put B h fresh) h is up result →
        SearchesOn π r v B h (i ∷ is) up (after π.scale π.job π.costs h v (task_of π r up) (notices_of π.scale π.job π.costs h v (task_of π r up) i) result)
    found_one c full result k = record {
      bests' = k.bests';
      focus' = k.focus';
      silent = next
          (finds here (ap (λ (x : Best S). hopeless π.scale x fresh.cost) e ∙ c) (none_of_those (named fresh.plan) (heads π.job) full)
          (others_are π.job h (record { one_up = a.is_open.one_up; to_last = a.is_open.to_last })))
          refl k.silent;
      shown = k.shown;
      bests = λ g. k.bests g ∙ put_put B h fresh result.best g;
      came = k.came;
      at_one = k.at_one;
    }

    asked : hopeless π.scale b fresh.cost ≡ false → is_complete π.job fresh.plan ≡ false →
        SearchesOn π r v B h (i ∷ is) up (asks_others π.scale π.job π.costs h v (task_of π r up) i left b)
    unfolding joined heads_in
    asked c some =
        let o = some_of_those (named fresh.plan) (heads π.job) some in
        let same : Same (unnamed_heads π.job fresh.plan) (o.0 ∷ o.1) = rw o.2 (same_refl (o.0 ∷ o.1)) in
        rw o.2 (record {
          bests' = B;
          focus' = asking (record { head = h; setup = i; untried = is }) up (o.0 ∷ o.1) [] [];
          silent = last (asks here (ap (λ (x : Best S). hopeless π.scale x fresh.cost) e ∙ c) same) refl;
          shown = λ V d. gathers V left (members_without untried i is m) d (λ g. refl);
          bests = put_same B h b e;
          came = refl;
          at_one = λ no. absurd (true≢false (sym no));
        })

  pub searches_on : (up : List Trial) (is : List ℕ) (untried : SetupSet) (B : Bests S) (b : Best S) → B h ≡ b → Acts π r h is up → members untried ≡ is → SearchesOn π r v B h is up (searching up is untried b)
  unfolding trying
  searches_on up [] untried B b e a m = ending up untried B b e a
  searches_on up (i ∷ is) untried B b e a m =
      let rest : Acts π r h is up = record { is_open = a.is_open; tries = a.tries.1; hangs = a.hangs; chain = a.chain } in
      let more : members (without_setup untried i) ≡ is = members_without untried i is m in
      let new : Best S = found π.scale π.job π.costs h v (task_of π r up) i in
      elim (cases_Bool (hopeless π.scale b new.cost)) [
        | inl c ↦ rw c (skipped up i is untried B b e a m c _ (searches_on up is (without_setup untried i) B b e rest more))
        | inr c ↦ elim (cases_Bool (is_complete π.job new.plan)) [
          | inl full ↦ rw (c, full) (found_one up i is untried B b e a m c full _ (searches_on up is (without_setup untried i) (put B h new) new (put_there B h new) rest more))
          | inr some ↦ rw (c, some) (asked up i is untried B b e a m c some)
        ]
      ]
