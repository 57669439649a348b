-- What one step of a search keeps: each sentence of the invariant, as far as it speaks of one search, for each of the eleven steps.
-- Assumes nothing.
use Rattle.std.proofs.Common.{◌≡◌, ℕ, ◌+◌, ◌-◌, ◌<◌, ◌≤◌, true, false, not, eqb, ◌≢◌, ◌⊎◌, List, [], ◌∷◌, ◌++◌, map, length, sym, refl, subst, inl, inr, append-nil, arith}
use lib.ListN.{length-map}
use Rattle.std.specs.List.{AllByRecursion as All}
use Rattle.std.proofs.lemmas.List.FromFn.{length-range_with_len}
use Rattle.std.proofs.ByRecursion.{All-map, All-weaker}
use Rattle.std.proofs.lemmas.Bool.{not_from_true, not_from_false, eq-eqb, ne_eqb}
use Rattle.scale.specs.Operations.{AtMost}
use Rattle.job.specs.declared.job.Job.{Job}
use Rattle.job.specs.declared.plan.Plan.{Plan as Plans}
use Rattle.job.specs.Lists.{those}
use Rattle.job.specs.Plans.{heads, setups, name, unnamed_heads, Extends}
use Rattle.problem.specs.Bags.{Out, here, Same, one}
use Rattle.problem.specs.Costs.{joined}
use Rattle.problem.proofs.Bags.{out_length}
use Rattle.problem.proofs.Joins.{joined_same}
use Rattle.problem.proofs.Naming.{those_all, out_those, out_counting}
use Rattle.link.specs.declared.message.Message.{Message}
use Rattle.link.specs.Messages.{is_notice}
use Rattle.link.proofs.Bags.{out_left, out_right, out_both, same_refl, same_sym, same_trans, same_append, same_in, same_length}
use Rattle.head.specs.declared.best.Best.{Best}
use Rattle.head.specs.Bests.{hopeless, adopted}
use Rattle.head.specs.Searching.{others as ascending_others}
use Rattle.searches.specs.Members.{Some}
use Rattle.searches.specs.Cubes.{Problem, Lawful, Head, Open, allowance}
use Rattle.searches.specs.Bests.{Bests, put, AsGood, priced_plan, Found, Good, a_plan, AllGood, Improves}
use Rattle.searches.specs.Chains.{Trial, Focus, acting, Root, cubes, plan_of, pending, open_cubes, due, Acts, Sound, Holds}
use Rattle.searches.specs.Steps.{cost_of, bound_of, at_least, request, report, notice, on_way, tried, Step, answers, hears, gives_up, sends, receives, takes_back, skips, finds, asks, rises, comes_home}
use Rattle.searches.specs.Moves.{is_out}
use Rattle.searches.specs.Invariant.{Noticed}
use Rattle.searches.proofs.Members.{some_out, some_in, some_same, some_left, some_right, some_map, all_always, all_both, all_out, all_same, total_out, total_same, total_append, out_map, same_map}
use Rattle.searches.proofs.Cubes.{heads_are, setups_are, open_head, open_heads_are, complete_cube, fit_name, child_covers, allowance_complete, allowance_pays, children_allowed, cost_of_name, at_least_holds, cube_costs_at_most}
use Rattle.searches.proofs.Bests.{complete_cube_as_good, as_good_itself, as_good_trans, adopted_is_one, adopted_as_good, adopted_as_good_as_other, hopeless_as_good, hopeful_as_good, hopeful_below_never, put_there, put_cases, improves_itself, put_improves, put_all_good}
use Rattle.searches.proofs.Chains.{chain_fits, chain_still_holds}

-- a head goes from those asked to those answered, or from those answered to those heard
moves_on : {u : ℕ} {us left : List ℕ} (xs ys : List ℕ) → Out u us left → Same (us ++ (xs ++ ys)) (left ++ ((u ∷ xs) ++ ys))
moves_on {left = left} xs ys o = same_in (out_left (xs ++ ys) o) (out_right left here) (same_refl _)

-- the heads but one, in any order
module _ (j : Job) {h : ℕ} {others : List ℕ} where
  pub others_are_heads : Same (h ∷ others) (heads j) → All (Head j) others
  others_are_heads s = (all_same (Head j) s (heads_are j)).1

  pub others_are_apart : Same (h ∷ others) (heads j) → All (λ g. g ≢ h) others
  others_are_apart (one o s) =
      let is = (all_out (Head j) o (heads_are j)).0 in
      let once = out_counting 1 j.heads h is.one_up (omega (arith, is.to_last)) in
      all_same (λ g. g ≢ h) (same_trans s (out_both refl o once.1)) once.2

  pub others_are_all : (g : ℕ) → Same (h ∷ others) (heads j) → Head j g → g ≢ h → Some (λ k. k ≡ g) others
  others_are_all g s l ne = elim (some_same (λ k. k ≡ g) (same_sym s) (some_in _ (out_counting 1 j.heads g l.one_up (omega (arith, l.to_last))).1 (inl refl))) [
    | inl e ↦ absurd (ne (sym e))
    | inr r ↦ r
  ]

  pub others_few : Same (h ∷ others) (heads j) → length others ≡ j.heads - 1
  others_few s = omega (arith, same_length s, length-range_with_len 1 j.heads)

-- the others that the code tells are these, ascending
pub others_same : (j : Job) (h : ℕ) → Head j h → Same (h ∷ ascending_others j h) (heads j)
others_same j h l =
    let o = out_counting 1 j.heads h l.one_up (omega (arith, l.to_last)) in
    let out : Out h (those (λ _. true) (heads j)) (ascending_others j h) =
    out_those (λ _. true) (λ g. not (eqb g h)) o.1 refl (not_from_true _ (eq-eqb h h refl)) (All-weaker _ _ (λ g ne. sym (not_from_false _ (ne_eqb g h ne))) o.0 o.2) in
    one (rw (those_all (λ _. true) (heads j) (all_always _ (λ g. refl) (heads j))) at out) (same_refl (ascending_others j h))

module _ {S : Type 0} {π : Problem S} (law : Lawful π) (v : ℕ) (r : Root) where
  -- what the search is doing stays sound
  pub step_is_sound : {B B' : Bests S} {f f' : Focus S} {taken notes posts : List (Message S)} → Step π v r B f taken B' f' notes posts → AllGood π B → Sound π r f → Sound π r f'
  step_is_sound (answers {answered = answered} {heard = heard} o) good s =
      record { chain = s.chain; split = same_trans s.split (moves_on answered heard o); waits = omega (arith, s.waits, out_length o) }
  step_is_sound (hears {asked = asked} {heard = heard} o w) good s =
      record { chain = s.chain; split = same_trans s.split (same_append (same_refl asked) (moves_on [] heard o)); waits = w }
  step_is_sound (gives_up c) good s = record { is_open = s.chain.0.is_open; tries = s.chain.0.tries; hangs = s.chain.0.hangs; chain = s.chain.1 }
  step_is_sound (sends c o) good s = record { chain = s.chain; is_open = open_head π.job _ o }
  step_is_sound (receives {u = u} e) good s = record { is_open = s.is_open; tries = all_same _ e (setups_are π.job u); hangs = tt; chain = s.chain }
  step_is_sound takes_back good s =
      let c = s.0.chain in
      record { is_open = c.0.is_open; tries = c.0.tries; hangs = c.0.hangs; chain = c.1 }
  step_is_sound (skips o c) good s = record { is_open = s.is_open; tries = (all_out _ o s.tries).1; hangs = s.hangs; chain = s.chain }
  step_is_sound (finds o c e w) good s = record { is_open = s.is_open; tries = (all_out _ o s.tries).1; hangs = s.hangs; chain = s.chain }
  step_is_sound (asks o c e) good s = record {
    chain = (record { is_open = s.is_open; lawful = (all_out _ o s.tries).0; tries = (all_out _ o s.tries).1; hangs = s.hangs }, s.chain);
    split = rw append-nil e;
    waits = omega arith;
  }
  step_is_sound (rises {h = h}) good s =
      (record { chain = s.chain; is_open = s.is_open }, good h (record { one_up = s.is_open.one_up; to_last = s.is_open.to_last }))
  step_is_sound comes_home good s = tt

  -- the bests: none gets worse, each stays good, and a new one is held
  pub record Kept (B B' : Bests S) (f : Focus S) : Type 0 where
    pub improves : Improves π B B'
    pub all_good : AllGood π B'
    pub held : (g : ℕ) → (B' g ≡ B g) ⊎ Holds π B' (B' g) f

  same_kept : (B : Bests S) (f : Focus S) → AllGood π B → Kept B B f
  same_kept B f good = record { improves = improves_itself law B; all_good = good; held = λ g. inl refl }

  new_kept : (B : Bests S) (h : ℕ) (b : Best S) (is : List ℕ) (up : List Trial) → AllGood π B → Good π b → AsGood π.scale b (B h) → Kept B (put B h b) (acting h is up)
  new_kept B h b is up good k l = record {
    improves = put_improves law B h b l;
    all_good = put_all_good law B h b good k;
    held = λ g. elim (put_cases B h b g) [ inl e ↦ inr (inl (rw e.0 (as_good_itself law.laws (put B h b h)))) | inr e ↦ inl e.1 ];
  }

  -- what a head tries costs what it says, and is found where it is complete
  pub tried_costs : (h i : ℕ) (is : List ℕ) (up : List Trial) → Acts π r h is up → i < setups π.job h → (tried π v r up h i).cost ≡ cost_of π (name (plan_of r up) h i)
  tried_costs h i is up a l = sym (cost_of_name law (plan_of r up) h i (chain_fits π.job r up a.chain) a.is_open l)

  pub tried_is_found : (B : Bests S) (h i : ℕ) (is : List ℕ) (up : List Trial) → Acts π r h is up → i < setups π.job h →
      hopeless π.scale (B h) (tried π v r up h i).cost ≡ false → unnamed_heads π.job (name (plan_of r up) h i) ≡ [] → Found π (tried π v r up h i)
  tried_is_found B h i is up a l hopeful full = record {
    complete = complete_cube π.job _ (fit_name π.job (plan_of r up) h i (chain_fits π.job r up a.chain) a.is_open l) full;
    costs = tried_costs h i is up a l;
    below_never = hopeful_below_never law.laws (B h) (tried π v r up h i) hopeful;
  }

  pub step_keeps_bests : {B B' : Bests S} {f f' : Focus S} {taken notes posts : List (Message S)} → Step π v r B f taken B' f' notes posts → AllGood π B → Sound π r f → Kept B B' f'
  step_keeps_bests (answers o) good s = same_kept _ _ good
  step_keeps_bests (hears o w) good s = same_kept _ _ good
  step_keeps_bests (gives_up c) good s = same_kept _ _ good
  step_keeps_bests (sends c o) good s = same_kept _ _ good
  step_keeps_bests (receives e) good s = same_kept _ _ good
  step_keeps_bests {B = B} (takes_back {t = t} {b = b}) good s =
      let o = s.0.chain.0.is_open in
      new_kept B t.head _ _ _ good (adopted_is_one law.laws (Good π) b (B t.head) s.1 (good t.head (record { one_up = o.one_up; to_last = o.to_last }))) (adopted_as_good law.laws b (B t.head))
  step_keeps_bests (skips o c) good s = same_kept _ _ good
  step_keeps_bests {B = B} (finds {h = h} {i = i} {is = is} {up = up} o c e w) good s =
      new_kept B h _ _ _ good (a_plan (tried_is_found B h i is up s (all_out _ o s.tries).0 c e)) (hopeful_as_good law.laws (B h) (tried π v r up h i) c)
  step_keeps_bests (asks o c e) good s = same_kept _ _ good
  step_keeps_bests rises good s = same_kept _ _ good
  step_keeps_bests comes_home good s = same_kept _ _ good

  -- what the search holds it still holds; or, when it comes home, its root holds it
  pub step_holds : {B B' : Bests S} {f f' : Focus S} {taken notes posts : List (Message S)} (x : Best S) → Step π v r B f taken B' f' notes posts → Improves π B B' → Sound π r f →
      Holds π B x f → AsGood π.scale (B' r.head) x ⊎ Holds π B' x f'
  step_holds x (answers o) better s a = inr a
  step_holds x (hears o w) better s a = inr a
  step_holds x (gives_up c) better s a = inr a
  step_holds x (sends c o) better s a = inr a
  step_holds x (receives e) better s a = inr (inr a)
  step_holds {B = B} x (takes_back {t = t} {b = b}) better s (inl a) =
      let new = adopted π.scale b (B t.head) in
      inr (inl (rw (put_there B t.head new) (as_good_trans law.laws new b x (adopted_as_good_as_other law.laws b (B t.head)) a)))
  step_holds {B = B} x (takes_back {t = t} {up = up} {b = b}) better s (inr a) = inr (chain_still_holds law B (put B t.head (adopted π.scale b (B t.head))) x better (t ∷ up) a)
  step_holds x (skips o c) better s a = inr a
  step_holds {B = B} x (finds {h = h} {i = i} {up = up} o c e w) better s (inl a) = inr (inl (as_good_trans law.laws (put B h (tried π v r up h i) h) (B h) x (better h) a))
  step_holds {B = B} x (finds {h = h} {i = i} {up = up} o c e w) better s (inr a) = inr (inr (chain_still_holds law B (put B h (tried π v r up h i)) x better up a))
  step_holds x (asks o c e) better s a = inr a
  step_holds x rises better s a = inr a
  step_holds {B = B} x comes_home better s (inl a) = inl (rw s.hangs at a)
  step_holds x comes_home better s (inr a) = inr a

  -- what the search covers it still covers, or a best at least as good is held
  pub step_covers : {B B' : Bests S} {f f' : Focus S} {taken notes posts : List (Message S)} (p : Plans) → Step π v r B f taken B' f' notes posts → Sound π r f →
      Some (λ q. Extends π.job q p) (open_cubes r f) → Holds π B' (priced_plan π p) f' ⊎ Some (λ q. Extends π.job q p) (open_cubes r f')
  step_covers p (answers o) s a = inr a
  step_covers p (hears o w) s a = inr a
  step_covers {B = B} p (gives_up {t = t} {up = up} {heard = heard} {u = u} c) s (inl e) =
      let q = plan_of r (t ∷ up) in
      let all : joined π.scale (bound_of π q) (unnamed_heads π.job q) ≡ joined π.scale (bound_of π q) (u ∷ heard) = joined_same law.laws (bound_of π q) s.split in
      inl (inl (hopeless_as_good law.laws (B t.head) (priced_plan π p) (at_least π q (u ∷ heard)) c (subst (λ x. AtMost π.scale (π.scale.join (cost_of π q) x) (cost_of π p)) all (at_least_holds law q p e))))
  step_covers p (gives_up c) s (inr a) = inr a
  step_covers p (sends c o) s a = inr a
  step_covers p (receives {t = t} {up = up} {u = u} {is = is} same) s (inl e) =
      let q = plan_of r (t ∷ up) in
      let got = child_covers π.job q p u (chain_fits π.job r (t ∷ up) s.chain) s.is_open e in
      inr (some_left _ _ (pending r (t ∷ up)) (some_map _ (name q u) is (some_same _ (same_sym same) got)))
  step_covers p (receives {t = t} {up = up} {u = u} {is = is} same) s (inr a) = inr (some_right _ (cubes (plan_of r (t ∷ up)) u is) _ a)
  step_covers p takes_back s a = inr a
  step_covers {B = B} p (skips {h = h} {i = i} {is = is} {up = up} o c) s a = elim (some_out _ (out_left (pending r up) (out_map (name (plan_of r up) h) o)) a) [
    | inl e ↦ inl (inl (hopeless_as_good law.laws (B h) (priced_plan π p) _ c (rw (tried_costs h i is up s (all_out _ o s.tries).0) (cube_costs_at_most law _ p e))))
    | inr b ↦ inr b
  ]
  step_covers {B = B} p (finds {h = h} {i = i} {is = is} {up = up} o c full w) s a = elim (some_out _ (out_left (pending r up) (out_map (name (plan_of r up) h) o)) a) [
    | inl e ↦ inl (inl (rw (put_there B h (tried π v r up h i)) (complete_cube_as_good law (tried π v r up h i) p (tried_costs h i is up s (all_out _ o s.tries).0) full e)))
    | inr b ↦ inr b
  ]
  step_covers p (asks {h = h} {up = up} o c e) s a = inr (some_out _ (out_left (pending r up) (out_map (name (plan_of r up) h) o)) a)
  step_covers p rises s a = inr a
  step_covers p comes_home s a = inr a

  -- what a step takes and posts is paid for; notices are paid for when they are posted
  pub step_is_paid : {B B' : Bests S} {f f' : Focus S} {taken notes posts : List (Message S)} → Step π v r B f taken B' f' notes posts → Sound π r f →
      length taken + (length notes + due r π.job f') ≤ due r π.job f
  step_is_paid (answers o) s = omega (arith, out_length o)
  step_is_paid (hears o w) s = omega (arith, out_length o)
  step_is_paid (gives_up {t = t} {up = up} c) s = omega (arith, total_append (allowance π.job) (cubes (plan_of r up) t.head t.untried) (pending r up))
  step_is_paid (sends c o) s = omega arith
  step_is_paid (receives {t = t} {up = up} {u = u} {is = is} same) s =
      omega (
        arith,
        children_allowed π.job (plan_of r (t ∷ up)) u (chain_fits π.job r (t ∷ up) s.chain) s.is_open,
        total_same (allowance π.job) (same_map (name (plan_of r (t ∷ up)) u) same),
      )
  step_is_paid (takes_back {t = t} {up = up}) s = omega (arith, total_append (allowance π.job) (cubes (plan_of r up) t.head t.untried) (pending r up))
  step_is_paid (skips {h = h} {up = up} o c) s = omega (arith, total_out (allowance π.job) (out_map (name (plan_of r up) h) o))
  step_is_paid (finds {h = h} {i = i} {others = others} {up = up} o c full w) s =
      omega (
        arith,
        total_out (allowance π.job) (out_map (name (plan_of r up) h) o),
        allowance_complete π.job (name (plan_of r up) h i) full,
        length-map others (notice π v r h (tried π v r up h i)),
        others_few π.job w,
      )
  step_is_paid (asks {h = h} {i = i} {u = u} {left = left} {us = us} {up = up} o c e) s =
      let q = name (plan_of r up) h i in
      let fit = fit_name π.job (plan_of r up) h i (chain_fits π.job r up s.chain) s.is_open (all_out _ o s.tries).0 in
      let open_one = (all_out (Open π.job q) here (all_same (Open π.job q) (same_sym e) (open_heads_are π.job q))).0 in
      omega (
        arith,
        total_out (allowance π.job) (out_map (name (plan_of r up) h) o),
        allowance_pays π.job q u fit open_one,
        same_length e,
        total_append (allowance π.job) (cubes (plan_of r up) h left) (pending r up),
      )
  step_is_paid (rises {t = t}) s = omega arith
  step_is_paid comes_home s = omega arith

  -- what the search has on the way loses what is taken and gains what is posted
  pub step_sends : {B B' : Bests S} {f f' : Focus S} {taken notes posts : List (Message S)} → Step π v r B f taken B' f' notes posts →
      (keep : List (Message S)) × Same (on_way π v r f) (taken ++ keep) × Same (on_way π v r f') (posts ++ keep)
  step_sends (answers {t = t} {up = up} {answered = answered} {asked' = asked'} o) = (
    map (request π v r t up) asked' ++ map (report π v r t up) answered,
    same_in (out_left _ (out_map (request π v r t up) o)) here (same_refl _),
    same_in (out_right (map (request π v r t up) asked') here) here (same_refl _),
  )
  step_sends (hears {t = t} {up = up} {asked = asked} {answered' = answered'} o w) = (
    map (request π v r t up) asked ++ map (report π v r t up) answered',
    same_in (out_right (map (request π v r t up) asked) (out_map (report π v r t up) o)) here (same_refl _),
    same_refl _,
  )
  step_sends (gives_up c) = ([], same_refl _, same_refl _)
  step_sends (sends c o) = ([], same_refl _, same_refl _)
  step_sends (receives e) = ([], same_refl _, same_refl _)
  step_sends takes_back = ([], same_refl _, same_refl _)
  step_sends (skips o c) = ([], same_refl _, same_refl _)
  step_sends (finds o c e w) = ([], same_refl _, same_refl _)
  step_sends (asks o c e) = ([], same_refl _, same_refl _)
  step_sends rises = ([], same_refl _, same_refl _)
  step_sends comes_home = ([], same_refl _, same_refl _)

  -- what it posts besides notices are no notices
  pub step_posts_no_notice : {B B' : Bests S} {f f' : Focus S} {taken notes posts : List (Message S)} → Step π v r B f taken B' f' notes posts → All (λ m. is_notice m.kind ≡ false) posts
  step_posts_no_notice (answers o) = (refl, tt)
  step_posts_no_notice (hears o w) = tt
  step_posts_no_notice (gives_up c) = tt
  step_posts_no_notice (sends c o) = (refl, tt)
  step_posts_no_notice (receives e) = tt
  step_posts_no_notice takes_back = tt
  step_posts_no_notice (skips o c) = tt
  step_posts_no_notice (finds o c e w) = tt
  step_posts_no_notice (asks {h = h} {i = i} {u = u} {left = left} {us = us} {up = up} o c e) =
      All-map _ (request π v r (record { head = h; setup = i; untried = left }) up) (u ∷ us) (all_always _ (λ g. refl) (u ∷ us))
  step_posts_no_notice rises = (refl, tt)
  step_posts_no_notice comes_home = tt

  -- its notices are of a plan that was found and is held
  pub step_notices : {B B' : Bests S} {f f' : Focus S} {taken notes posts : List (Message S)} → Step π v r B f taken B' f' notes posts → v < setups π.job 1 → Sound π r f →
      All (Noticed π (λ x. Holds π B' x f')) notes
  step_notices (answers o) n s = tt
  step_notices (hears o w) n s = tt
  step_notices (gives_up c) n s = tt
  step_notices (sends c o) n s = tt
  step_notices (receives e) n s = tt
  step_notices takes_back n s = tt
  step_notices (skips o c) n s = tt
  step_notices {B = B} (finds {h = h} {i = i} {is = is} {others = others} {up = up} o c e w) n s =
      All-map _ _ others (all_both _ _ _ (λ g l ne. record {
        is_notice = refl;
        to_head = l;
        from_head = record { one_up = s.is_open.one_up; to_last = s.is_open.to_last };
        apart = ne;
        of_search = n;
        found = tried_is_found B h i is up s (all_out _ o s.tries).0 c e;
        held = inl (rw (put_there B h (tried π v r up h i)) (as_good_itself law.laws (tried π v r up h i)));
      }) others (others_are_heads π.job w) (others_are_apart π.job w))
  step_notices (asks o c e) n s = tt
  step_notices rises n s = tt
  step_notices comes_home n s = tt

  -- only a search that is out takes a step
  pub step_is_out : {B B' : Bests S} {f f' : Focus S} {taken notes posts : List (Message S)} → Step π v r B f taken B' f' notes posts → is_out f ≡ true
  step_is_out (answers o) = refl
  step_is_out (hears o w) = refl
  step_is_out (gives_up c) = refl
  step_is_out (sends c o) = refl
  step_is_out (receives e) = refl
  step_is_out takes_back = refl
  step_is_out (skips o c) = refl
  step_is_out (finds o c e w) = refl
  step_is_out (asks o c e) = refl
  step_is_out rises = refl
  step_is_out comes_home = refl
