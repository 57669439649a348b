-- A plan that names head after head, each by the setup that its word spells, is complete in the end, and the one that the words
-- spell. Assumes nothing.
use Rattle.std.proofs.Common.{◌≡◌, ℕ, zero, suc, ◌+◌, ◌-◌, ◌<◌, ◌≤◌, List, length, get_or, Ok, Err, decimal, Result, sym, refl, ap, ◌∙◌, inl, inr, arith}
use lib.ListN.{get_or-replicate}
use Rattle.std.proofs.lemmas.List.{ext_get_or}
use Rattle.std.proofs.lemmas.Result.{MatchResult-at_ok}
use Rattle.std.proofs.lemmas.Bool.{cases_eq, cases_lt}
use Rattle.job.specs.declared.job.Job.{Job}
use Rattle.job.specs.declared.plan.Plan.{Plan}
use Rattle.job.specs.Plans.{setup, setups, empty, name}
use Rattle.problem.proofs.Naming.{setup_name_same, setup_name_other}
use Rattle.job.proofs.Readings.{setup_within, setup_none, setup_at}
use Rattle.sheetcheck.specs.Spelling.{Spelled}

empty_names_none : (k : ℕ) → setup empty k ≡ 255
empty_names_none zero = refl
empty_names_none (suc k) = elim (cases_lt k 8) [
  | inl lt ↦ setup_within empty k lt ∙ get_or-replicate 8 k 255 255 lt
  | inr ge ↦ setup_none empty (suc k) (inr (omega arith, omega arith))
]

-- plans are alike if they have the same setups
same_setups : (p q : Plan) → length p.setups ≡ 8 → length q.setups ≡ 8 → ((h : ℕ) → 1 ≤ h → h ≤ 8 → setup p h ≡ setup q h) → p ≡ q
same_setups p q long whole same =
    let at : (k : ℕ) → k < length p.setups → get_or p.setups k 0 ≡ get_or q.setups k 0 =
    λ k lt. sym (setup_at p long k (omega arith)) ∙ same (1 + k) (omega arith) (omega arith) ∙ setup_at q whole k (omega arith) in
    ap (λ (l : List ℕ). record { setups = l }) (ext_get_or 0 p.setups q.setups (long ∙ sym whole) at)

module _ {W : Type 0} (bytes : W → List ℕ) (j : Job) (words : List W) where
  -- p names a setup of its own for each head below h, as the words spell it, and no other head
  pub record NamedBelow (p : Plan) (h : ℕ) : Type 0 where
    pub each : (k : ℕ) → 1 ≤ k → k < h → setup p k < setups j k
    pub no_other : (k : ℕ) → h ≤ k → setup p k ≡ 255
    pub as_spelled : (q : Plan) → Spelled bytes j words q → (k : ℕ) → 1 ≤ k → k < h → setup p k ≡ setup q k

  pub named_below_first : NamedBelow empty 1
  named_below_first = record {
    each = λ k l u. absurd (omega arith);
    no_other = λ k _. empty_names_none k;
    as_spelled = λ q s k l u. absurd (omega arith);
  }

  pub named_below_next : (p : Plan) (h i : ℕ) → length p.setups ≡ 8 → 1 ≤ h → h ≤ j.heads → i < setups j h →
      ((q : Plan) → Spelled bytes j words q → i ≡ setup q h) → NamedBelow p h → NamedBelow (name p h i) (h + 1)
  named_below_next p h i long l u own says before = record {
    each = λ k a b. elim (cases_eq k h) [
      | inl e ↦ rw (e, setup_name_same p h i long l (omega (arith, j.eight))) own
      | inr ne ↦ rw (setup_name_other p h i k ne) (before.each k a (omega arith))
    ];
    no_other = λ k a. setup_name_other p h i k (omega arith) ∙ before.no_other k (omega arith);
    as_spelled = λ q s k a b. elim (cases_eq k h) [
      | inl e ↦ rw (e, setup_name_same p h i long l (omega (arith, j.eight))) (says q s)
      | inr ne ↦ setup_name_other p h i k ne ∙ before.as_spelled q s k a (omega arith)
    ];
  }

  module _ (p : Plan) (all : NamedBelow p (j.heads + 1)) where
    pub named_below_spelled : length p.setups ≡ 8 → (q : Plan) → Spelled bytes j words q → p ≡ q
    named_below_spelled long q s = same_setups p q long s.whole (λ k a b. elim (cases_lt k (j.heads + 1)) [
      | inl lt ↦ all.as_spelled q s k a lt
      | inr ge ↦ all.no_other k ge ∙ sym (s.complete.no_other k (omega arith) b)
    ])

  -- what a head's word gives, if the words spell a plan
  module _ {E : Type 0} (h : ℕ) (l : 1 ≤ h) (u : h ≤ j.heads) (word : W) (is : word ≡ get_or words (h - 1) word) (text : List ℕ) (value : text ≡ bytes word)
      (given : Result ℕ E) (named : (i : ℕ) → i < setups j h → text ≡ decimal i → given ≡ Ok i) where
    spelled_given : (q : Plan) → Spelled bytes j words q → given ≡ Ok (setup q h)
    spelled_given q s = named (setup q h) (s.complete.each h l u) (value ∙ ap bytes is ∙ s.each h word l u)

    pub given_is_spelled : (i : ℕ) → given ≡ Ok i → (q : Plan) → Spelled bytes j words q → i ≡ setup q h
    given_is_spelled i e q s = MatchResult-at_ok (λ n. i ≡ n) (λ _. Unit {0}) (setup q h) (sym e ∙ spelled_given q s) refl

    pub none_is_spelled : (x : E) → given ≡ Err x → (q : Plan) → Spelled bytes j words q → ⊥
    none_is_spelled x e q s = MatchResult-at_ok (λ _. ⊥) (λ _. Unit {0}) (setup q h) (sym e ∙ spelled_given q s) tt
