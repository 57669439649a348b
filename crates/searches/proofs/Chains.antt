-- Chains: what the parts of a search give each other. Assumes nothing.
use Rattle.std.proofs.Common.{◌≡◌, ℕ, suc, ◌-◌, ◌≤◌, true, ◌≢◌, List, [], ◌∷◌, ◌++◌, map, length, sym, ap, ◌∙◌, inl, inr, append_assoc, arith, length-append}
use lib.ListN.{length-map}
use Rattle.std.specs.List.{AllByRecursion as All}
use Rattle.std.proofs.lemmas.Bool.{both_ways}
use Rattle.job.specs.declared.job.Job.{Job}
use Rattle.job.specs.declared.plan.Plan.{Plan as Plans}
use Rattle.job.specs.Plans.{setups, named, unnamed_heads}
use Rattle.problem.specs.Bags.{Out}
use Rattle.problem.proofs.Bags.{out_length}
use Rattle.problem.proofs.Naming.{named_name_other}
use Rattle.problem.proofs.Weights.{setups_some}
use Rattle.link.proofs.Bags.{out_left, same_out, same_sym, same_length}
use Rattle.head.specs.declared.best.Best.{Best}
use Rattle.searches.specs.Cubes.{Problem, Lawful, Fit, Open}
use Rattle.searches.specs.Bests.{Bests, Improves}
use Rattle.searches.specs.Chains.{Trial, Focus, home, acting, asking, sending, coming, Root, plan_of, Chain, Asks, Sends, Sound, ChainHolds, Holds}
use Rattle.searches.specs.Steps.{request, report, on_way}
use Rattle.searches.proofs.Members.{all_same}
use Rattle.searches.proofs.Cubes.{fit_name, named_there, open_heads_without, open_heads_once, open_heads_few}
use Rattle.searches.proofs.Bests.{as_good_trans}

module _ (j : Job) (r : Root) where
  pub chain_fits : (up : List Trial) → Chain r j up → Fit j (plan_of r up)
  chain_fits [] c = c
  chain_fits (t ∷ up) c = fit_name j (plan_of r up) t.head t.setup (chain_fits up c.1) c.0.is_open c.0.lawful

  -- the lowest head is named by the chain's plan, and so is every head above it
  pub lowest_is_named : (t : Trial) (up : List Trial) → Chain r j (t ∷ up) → named (plan_of r (t ∷ up)) t.head ≡ true
  lowest_is_named t up c = named_there j (plan_of r up) t.head t.setup (chain_fits up c.1) c.0.is_open c.0.lawful

  pub stays_named : (t : Trial) (up : List Trial) (g : ℕ) → Chain r j (t ∷ up) → named (plan_of r up) g ≡ true → named (plan_of r (t ∷ up)) g ≡ true
  stays_named t up g c e = named_name_other (plan_of r up) t.head t.setup g (λ is. both_ways (named (plan_of r up) g) (ap (named (plan_of r up)) is ∙ c.0.is_open.unnamed) e) ∙ e

  pub root_is_named : (t : Trial) (up : List Trial) → Chain r j (t ∷ up) → named (plan_of r (t ∷ up)) r.head ≡ true
  root_is_named t [] c = ap (named (plan_of r (t ∷ []))) (sym c.0.hangs) ∙ lowest_is_named t [] c
  root_is_named t (t' ∷ up) c = stays_named t (t' ∷ up) r.head c (root_is_named t' up c.1)

  -- so an open head is another than these
  pub open_is_other : (q : Plans) (u g : ℕ) → Open j q u → named q g ≡ true → u ≢ g
  open_is_other q u g o e is = both_ways (named q g) (ap (named q) (sym is) ∙ o.unnamed) e

  -- a chain leaves open fewer heads than there are
  pub chain_leaves_fewer : (t : Trial) (up : List Trial) → Chain r j (t ∷ up) → suc (length (unnamed_heads j (plan_of r (t ∷ up)))) ≤ j.heads
  chain_leaves_fewer t up c =
      let o = open_heads_without j (plan_of r up) t.head t.setup (chain_fits up c.1) c.0.is_open c.0.lawful in
      omega (arith, out_length o, open_heads_few j (plan_of r up))

module _ {S : Type 0} {π : Problem S} where
  -- a head that has yet to answer, or whose answer is on the way, was not heard, and has nothing else on the way
  pub not_heard_yet : (r : Root) (t : Trial) (up : List Trial) (asked answered heard : List ℕ) → Asks π r t up asked answered heard →
      {u : ℕ} {left : List ℕ} → Out u (asked ++ answered) left → All (λ g. g ≢ u) (left ++ heard)
  not_heard_yet r t up asked answered heard a {u} {left} o =
      let out : Out u (asked ++ (answered ++ heard)) (left ++ heard) = rw (append_assoc asked answered heard) at (out_left heard o) in
      let k = same_out (same_sym a.split) out in
      all_same (λ g. g ≢ u) k.2 (open_heads_once π.job (plan_of r (t ∷ up)) k.1)

module _ {S : Type 0} {π : Problem S} (law : Lawful π) where
  -- what is held stays held while bests improve
  module _ (B B' : Bests S) (x : Best S) (better : Improves π B B') where
    pub chain_still_holds : (up : List Trial) → ChainHolds π B x up → ChainHolds π B' x up
    chain_still_holds [] a = a
    chain_still_holds (t ∷ up) (inl a) = inl (as_good_trans law.laws (B' t.head) (B t.head) x (better t.head) a)
    chain_still_holds (t ∷ up) (inr a) = inr (chain_still_holds up a)

    pub still_holds : (f : Focus S) → Holds π B x f → Holds π B' x f
    still_holds home a = a
    still_holds (acting h is up) (inl a) = inl (as_good_trans law.laws (B' h) (B h) x (better h) a)
    still_holds (acting h is up) (inr a) = inr (chain_still_holds up a)
    still_holds (asking t up asked answered heard) a = chain_still_holds (t ∷ up) a
    still_holds (sending t up u) a = chain_still_holds (t ∷ up) a
    still_holds (coming t up u b) (inl a) = inl a
    still_holds (coming t up u b) (inr a) = inr (chain_still_holds (t ∷ up) a)

  -- a search has fewer messages on the way than there are heads
  module _ (v : ℕ) (r : Root) where
    two_heads : (t : Trial) (up : List Trial) (u : ℕ) → Sends π r t up u → 1 ≤ π.job.heads - 1
    two_heads t up u s =
        let first : 1 ≤ setups π.job u = setups_some π.job u s.is_open.one_up s.is_open.to_last in
        let o = open_heads_without π.job (plan_of r (t ∷ up)) u 0 (chain_fits π.job r (t ∷ up) s.chain) s.is_open first in
        omega (arith, out_length o, chain_leaves_fewer π.job r t up s.chain)

    pub on_way_few : (f : Focus S) → Sound π r f → length (on_way π v r f) ≤ π.job.heads - 1
    on_way_few home s = omega arith
    on_way_few (acting h is up) s = omega arith
    on_way_few (asking t up asked answered heard) s =
        omega (
          arith,
          length-append (map (request π v r t up) asked) (map (report π v r t up) answered),
          length-map asked (request π v r t up),
          length-map answered (report π v r t up),
          same_length s.split,
          length-append asked (answered ++ heard),
          length-append answered heard,
          chain_leaves_fewer π.job r t up s.chain,
        )
    on_way_few (sending t up u) s = two_heads t up u s
    on_way_few (coming t up u b) s = two_heads t up u s.0
