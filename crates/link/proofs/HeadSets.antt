-- What the first and the last member of a set of heads come to. Assumes nothing.
use Rattle.std.proofs.Common.{◌≡◌, ℕ, zero, suc, ◌+◌, ◌<◌, ◌≤◌, Bool, true, false, List, [], ◌∷◌, Some, None, Option, unwrap_or, MatchOption, sym, refl, ap, ◌∙◌, inl, inr, subst, arith}
use Rattle.std.specs.List.{range_with_len}
use Rattle.std.proofs.lemmas.Bool.{cases_Bool, cases_eq, cases_lt, cond-true, cond-false, le-ltb}
use Rattle.job.specs.Lists.{those}
use Rattle.job.specs.Sets.{head_of, lowest, highest}
use Rattle.link.specs.HeadSets.{HeadSet, has_head, Picks, member, nobody, PicksLowest, PicksHighest}

-- the numbers from n down to 1
abbrev down : ℕ → List ℕ
down zero = []
down (suc n) = suc n ∷ down n

module _ (p : ℕ → Bool) where
  abbrev None_from_up : ℕ → ℕ → Type 0
  None_from_up a z = (k : ℕ) → a ≤ k → k < z → p k ≡ false

  -- the first number that passes, going up from a, and going down from n
  abbrev FirstUp : ℕ → ℕ → Option ℕ → Type 0
  FirstUp a z o = MatchOption o (None_from_up a z) (λ i. (p i ≡ true) × None_from_up a i)

  abbrev FirstDown : ℕ → Option ℕ → Type 0
  FirstDown z o = MatchOption o (None_from_up 1 z) (λ i. (p i ≡ true) × None_from_up (i + 1) z)

  one_more : (a z : ℕ) → p a ≡ false → None_from_up (a + 1) z → None_from_up a z
  one_more a z e none k l u = elim (cases_eq k a) [ inl same ↦ ap p same ∙ e | inr ne ↦ none k (omega arith) u ]

  one_less : (a z : ℕ) → p z ≡ false → None_from_up a z → None_from_up a (z + 1)
  one_less a z e none k l u = elim (cases_eq k z) [ inl same ↦ ap p same ∙ e | inr ne ↦ none k l (omega arith) ]

  further_up : (a z : ℕ) (o : Option ℕ) → p a ≡ false → FirstUp (a + 1) z o → FirstUp a z o
  further_up a z None e first = one_more a z e first
  further_up a z (Some i) e first = (first.0, one_more a i e first.1)

  further_down : (z : ℕ) (o : Option ℕ) → p z ≡ false → FirstDown z o → FirstDown (z + 1) o
  further_down z None e first = one_less 1 z e first
  further_down z (Some i) e first = (first.0, one_less (i + 1) z e first.1)

  first_up : (a n : ℕ) → FirstUp a (a + n) (head_of (those p (range_with_len a n)))
  unfolding those
  first_up a zero = λ k l u. absurd (omega arith)
  first_up a (suc n) = elim (cases_Bool (p a)) [
    | inl e ↦ subst (FirstUp a (a + suc n)) (ap head_of (sym (cond-true _ _ _ e))) (e, λ k l u. absurd (omega arith))
    | inr e ↦
        let s : a + 1 + n ≡ a + suc n = omega arith in
        subst (FirstUp a (a + suc n)) (ap head_of (sym (cond-false _ _ _ e))) (further_up a (a + suc n) _ e (rw s at (first_up (a + 1) n)))
  ]

  first_down : (n : ℕ) → FirstDown (n + 1) (head_of (those p (down n)))
  unfolding those
  first_down zero = λ k l u. absurd (omega arith)
  first_down (suc n) = elim (cases_Bool (p (suc n))) [
    | inl e ↦ subst (FirstDown (suc n + 1)) (ap head_of (sym (cond-true _ _ _ e))) (e, λ k l u. absurd (omega arith))
    | inr e ↦
        let s : n + 1 ≡ suc n = omega arith in
        subst (FirstDown (suc n + 1)) (ap head_of (sym (cond-false _ _ _ e))) (further_down (suc n) _ e (rw s at (first_down n)))
  ]

module _ (s : HeadSet) where
  abbrev NoHead : ℕ → ℕ → Type 0
  NoHead a z = (g : ℕ) → a ≤ g → g < z → has_head s g ≡ false

  has_past : (g : ℕ) → 8 < g → has_head s g ≡ false
  has_past zero h = refl
  has_past (suc k) h = cond-false _ _ _ (le-ltb k 8 (omega arith))

  -- of the eight heads, or of all numbers
  lower : (z : ℕ) → NoHead 1 z → (g : ℕ) → g < z → has_head s g ≡ false
  lower z none zero u = refl
  lower z none (suc k) u = none (suc k) (omega arith) u

  higher : (a : ℕ) → NoHead a 9 → (g : ℕ) → a ≤ g → has_head s g ≡ false
  higher a none g l = elim (cases_lt g 9) [ inl lt ↦ none g l lt | inr ge ↦ has_past g (omega arith) ]

  nowhere : NoHead 1 9 → (g : ℕ) → has_head s g ≡ false
  nowhere none zero = refl
  nowhere none (suc k) = higher 1 none (suc k) (omega arith)

  the_lowest : (o : Option ℕ) → FirstUp (has_head s) 1 9 o → PicksLowest s (unwrap_or o 0)
  the_lowest None none = record { picks = nobody refl (nowhere none); none_lower = λ g u. absurd (omega arith) }
  the_lowest (Some i) first = record { picks = member first.0; none_lower = lower i first.1 }

  the_highest : (o : Option ℕ) → FirstDown (has_head s) 9 o → PicksHighest s (unwrap_or o 0)
  the_highest None none = record { picks = nobody refl (nowhere none); none_higher = λ g u. nowhere none g }
  the_highest (Some i) first = record { picks = member first.0; none_higher = λ g u. higher (i + 1) first.1 g (omega arith) }

  -- what a picker answers that takes the first member, or the last, or 0 where there is none
  lowest_of : (h : ℕ) → h ≡ unwrap_or (lowest 1 s) 0 → PicksLowest s h
  lowest_of h e = subst (PicksLowest s) (sym e) (the_lowest _ (first_up (has_head s) 1 8))

  highest_of : (h : ℕ) → h ≡ unwrap_or (highest 1 s) 0 → PicksHighest s h
  highest_of h e = subst (PicksHighest s) (sym e) (the_highest _ (first_down (has_head s) 8))

  pub lowest_is_picked : (h : ℕ) → h ≡ unwrap_or (lowest 1 s) 0 → Picks s h
  lowest_is_picked h e = (lowest_of h e).picks

  pub none_lower : (h g : ℕ) → h ≡ unwrap_or (lowest 1 s) 0 → g < h → has_head s g ≡ false
  none_lower h g e = (lowest_of h e).none_lower g

  pub highest_is_picked : (h : ℕ) → h ≡ unwrap_or (highest 1 s) 0 → Picks s h
  highest_is_picked h e = (highest_of h e).picks

  pub none_higher : (h g : ℕ) → h ≡ unwrap_or (highest 1 s) 0 → h < g → has_head s g ≡ false
  none_higher h g e = (highest_of h e).none_higher g
