-- The loops over heads: what is left gives the whole. Assumes nothing.
use Rattle.std.proofs.Common.{◌≡◌, ℕ, zero, suc, ◌+◌, ◌-◌, ◌<◌, ◌≤◌, Bool, true, false, not, ◌||◌, ◌⊎◌, List, [], ◌∷◌, Some, None, sym, ap, ◌∙◌, inl, inr, arith}
use Rattle.std.specs.List.{range_with_len}
use Rattle.std.proofs.lemmas.Bool.{cases_Bool, cases_lt, and_parts, or_cases, cond-true, cond-false, ltb-true, not-true, both_ways}
use Rattle.scale.specs.Operations.{Operations, Laws}
use Rattle.job.specs.declared.job.Job.{Job}
use Rattle.job.specs.declared.plan.Plan.{Plan}
use Rattle.job.specs.Lists.{those, every}
use Rattle.job.specs.Plans.{setup, setups, named, setup_named, is_setup, is_of_job}
use Rattle.problem.specs.Costs.{joined, joined_pairs, against_those, as_named, between, Comparable}
use Rattle.problem.proofs.Joins.{neutral_right}
use Rattle.problem.proofs.Naming.{those_passes, those_fails, setups_few}
use Rattle.job.proofs.Readings.{setup_none}

-- the numbers from a up to, and without, z
pub counting_step : (a z : ℕ) → a < z → range_with_len a (z - a) ≡ a ∷ range_with_len (a + 1) (z - (a + 1))
counting_step a z h = let e : z - a ≡ suc (z - (a + 1)) = omega arith in ap (range_with_len a) e

pub counting_end : (a z : ℕ) → z ≤ a → range_with_len a (z - a) ≡ []
counting_end a z h = let e : z - a ≡ 0 = omega arith in ap (range_with_len a) e

module _ (p : ℕ → Bool) (a z : ℕ) where
  pub those_yes : a < z → p a ≡ true → those p (range_with_len a (z - a)) ≡ a ∷ those p (range_with_len (a + 1) (z - (a + 1)))
  those_yes h e = ap (those p) (counting_step a z h) ∙ those_passes p a _ e

  pub those_not : a < z → p a ≡ false → those p (range_with_len a (z - a)) ≡ those p (range_with_len (a + 1) (z - (a + 1)))
  those_not h e = ap (those p) (counting_step a z h) ∙ those_fails p a _ e

  pub those_end : z ≤ a → those p (range_with_len a (z - a)) ≡ []
  unfolding those
  those_end h = ap (those p) (counting_end a z h)

-- what a plan's answer for a head says
pub some_named : (q : Plan) (h i : ℕ) → setup_named q h ≡ Some i → (named q h ≡ true) × (i ≡ setup q h)
some_named q h i e = elim (cases_Bool (named q h)) [
  | inl y ↦ (y, let z : Some (setup q h) ≡ Some i = sym (cond-true _ _ _ y) ∙ e in cc)
  | inr n ↦ absurd (let z : None ≡ Some i = sym (cond-false (named q h) (Some (setup q h)) None n) ∙ e in let o : ◌≡◌ {A = ℕ} 0 1 = cc in omega arith)
]

pub none_named : (q : Plan) (h : ℕ) → setup_named q h ≡ None → named q h ≡ false
none_named q h e = elim (cases_Bool (named q h)) [
  | inl y ↦ absurd (let z : Some (setup q h) ≡ None = sym (cond-true _ _ _ y) ∙ e in let o : ◌≡◌ {A = ℕ} 0 1 = cc in omega arith)
  | inr n ↦ n
]

-- each head that a plan of the job names has one of the job's setups
every_at : (p : ℕ → Bool) (a n h : ℕ) → every p (range_with_len a n) ≡ true → a ≤ h → h < a + n → p h ≡ true
unfolding every
every_at p a zero h e l m = absurd (omega arith)
every_at p a (suc n) h e l m = elim (cases_lt a h) [
  | inl lt ↦ every_at p (a + 1) n h (and_parts _ _ e).1 (omega arith) (omega arith)
  | inr ge ↦ let same : h ≡ a = omega arith in ap p same ∙ (and_parts _ _ e).0
]

module _ (j : Job) (q : Plan) (of_job : is_of_job j q ≡ true) where
  pub named_of_job : (h : ℕ) → named q h ≡ true → setup q h < setups j h
  named_of_job h y = elim (cases_lt h 1) [
    | inl lt ↦ absurd (none (inl lt))
    | inr ge ↦ elim (cases_lt 8 h) [
      | inl gt ↦ absurd (none (inr (ge, gt)))
      | inr le ↦ elim (or_cases _ _ (every_at (λ g. not (named q g) || is_setup j g (setup q g)) 1 8 h of_job ge (omega arith))) [
        | inl n ↦ absurd (both_ways (named q h) (not-true _ n) y)
        | inr i ↦ ltb-true _ _ i
      ]
    ]
  ]
    where
      none : ((h < 1) ⊎ ((1 ≤ h) × (8 < h))) → ⊥
      none o = let e = ltb-true (setup q h) 255 y in omega (arith, setup_none q h o)

  pub named_few : (h : ℕ) → named q h ≡ true → setup q h < 8
  named_few h y = omega (arith, named_of_job h y, setups_few j h)

-- a number with setups is a head
pub head_range : (j : Job) (h : ℕ) → 1 ≤ setups j h → (1 ≤ h) × (h ≤ j.heads)
head_range j zero e = absurd (omega arith)
head_range j (suc k) e = elim (cases_lt k j.heads) [
  | inl lt ↦ (omega arith, omega arith)
  | inr ge ↦ absurd (omega (arith, j.rest k ge))
]

-- a head against those of the job that a plan names
pub comparable : (j : Job) (q : Plan) (h i a : ℕ) → is_of_job j q ≡ true → 1 ≤ h → h ≤ 8 → i < 8 → 1 ≤ a →
    ((g : ℕ) → a ≤ g → named q g ≡ true → h ≡ g → ⊥) → Comparable q h i a j.heads
comparable j q h i a of_job low high fits from apart = record {
  few = named_few j q of_job;
  head_from = low;
  head_to = high;
  setup_fits = fits;
  from = from;
  to = omega (arith, j.eight);
  apart = λ g l m y e. apart g l y e;
}

module _ {S : Type 0} {s : Operations S} (laws : Laws s) where
  module _ (costs : List S) (q : Plan) (h i a z : ℕ) (sum whole : S)
      (inv : s.join sum (against_those s costs (range_with_len a (z - a)) h i q) ≡ whole) where
    pub against_step : (k : ℕ) → a < z → setup_named q a ≡ Some k →
        s.join (s.join sum (between s costs h i a k)) (against_those s costs (range_with_len (a + 1) (z - (a + 1))) h i q) ≡ whole
    unfolding joined
    against_step k lt e =
        let n = some_named q a k e in
        let f : ℕ → S = λ g. between s costs h i g (setup q g) in
        laws.associative sum _ _
        ∙ ap (λ (x : ℕ). s.join sum (s.join (between s costs h i a x) (joined s f (those (named q) (range_with_len (a + 1) (z - (a + 1))))))) n.1
        ∙ ap (λ (xs : List ℕ). s.join sum (joined s f xs)) (sym (those_yes (named q) a z lt n.0))
        ∙ inv

    pub against_skip : a < z → setup_named q a ≡ None → s.join sum (against_those s costs (range_with_len (a + 1) (z - (a + 1))) h i q) ≡ whole
    against_skip lt e =
        ap (λ (xs : List ℕ). s.join sum (joined s (λ g. between s costs h i g (setup q g)) xs)) (sym (those_not (named q) a z lt (none_named q a e))) ∙ inv

    pub against_done : z ≤ a → sum ≡ whole
    unfolding joined
    against_done h' = sym (neutral_right laws sum) ∙ ap (λ (xs : List ℕ). s.join sum (joined s (λ g. between s costs h i g (setup q g)) xs)) (sym (those_end (named q) a z h')) ∙ inv

  module _ (costs : List S) (q : Plan) (a z : ℕ) (sum whole : S)
      (inv : s.join sum (joined_pairs s (as_named s costs q) (those (named q) (range_with_len a (z - a)))) ≡ whole) where
    pub pairs_step : (i : ℕ) → a < z → setup_named q a ≡ Some i →
        s.join (s.join sum (against_those s costs (range_with_len (a + 1) (z - (a + 1))) a i q)) (joined_pairs s (as_named s costs q) (those (named q) (range_with_len (a + 1) (z - (a + 1))))) ≡ whole
    unfolding joined_pairs
    pairs_step i lt e =
        let n = some_named q a i e in
        let rest : List ℕ = those (named q) (range_with_len (a + 1) (z - (a + 1))) in
        laws.associative sum _ _
        ∙ ap (λ (x : ℕ). s.join sum (s.join (joined s (λ g. between s costs a x g (setup q g)) rest) (joined_pairs s (as_named s costs q) rest))) n.1
        ∙ ap (λ (xs : List ℕ). s.join sum (joined_pairs s (as_named s costs q) xs)) (sym (those_yes (named q) a z lt n.0))
        ∙ inv

    pub pairs_skip : a < z → setup_named q a ≡ None → s.join sum (joined_pairs s (as_named s costs q) (those (named q) (range_with_len (a + 1) (z - (a + 1))))) ≡ whole
    pairs_skip lt e = ap (λ (xs : List ℕ). s.join sum (joined_pairs s (as_named s costs q) xs)) (sym (those_not (named q) a z lt (none_named q a e))) ∙ inv

    pub pairs_done : z ≤ a → sum ≡ whole
    unfolding joined_pairs
    pairs_done h = sym (neutral_right laws sum) ∙ ap (λ (xs : List ℕ). s.join sum (joined_pairs s (as_named s costs q) xs)) (sym (those_end (named q) a z h)) ∙ inv
