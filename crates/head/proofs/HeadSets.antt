-- Sets of heads that were collected by a test: which heads are in them, and in which order they are gone through. Assumes nothing.
use Rattle.std.proofs.Common.{◌≡◌, ℕ, zero, suc, ◌+◌, ◌<◌, ◌≤◌, Bool, true, false, cond, ltb, ◌≢◌, List, [], ◌∷◌, length, sym, refl, ap, ◌∙◌, inl, inr, arith}
use Rattle.std.specs.List.{range_with_len}
use Rattle.std.proofs.lemmas.List.{length-set, length-replicate, get_or-set_same, get_or-set_other}
use Rattle.std.proofs.lemmas.Bool.{cases_Bool, cases_eq, cond-true, lt-ltb}
use Rattle.job.specs.declared.job.Job.{Job}
use Rattle.job.specs.Lists.{those}
use Rattle.job.specs.Plans.{heads}
use Rattle.link.specs.HeadSets.{HeadSet, no_heads, has_head, with_head, heads_in}
use Rattle.problem.proofs.Naming.{those_passes, those_fails, those_like, all_counting}
use Rattle.head.specs.Sendings.{heads_of}

pub has_with_same : (s : HeadSet) (h : ℕ) → length s.members ≡ 8 → 1 ≤ h → h ≤ 8 → has_head (with_head s h) h ≡ true
has_with_same s zero long l u = absurd (omega arith)
has_with_same s (suc k) long l u = cond-true _ _ _ (lt-ltb k 8 (omega arith)) ∙ get_or-set_same s.members k true false (omega arith)

pub has_with_other : (s : HeadSet) (g h : ℕ) → h ≢ g → has_head (with_head s g) h ≡ has_head s h
has_with_other s zero h ne = refl
has_with_other s (suc g) zero ne = refl
has_with_other s (suc g) (suc h) ne = ap (λ (b : Bool). cond (ltb h 8) b false) (get_or-set_other s.members g h true false (omega arith))

with_length : (s : HeadSet) (h : ℕ) → length (with_head s h).members ≡ length s.members
with_length s zero = refl
with_length s (suc k) = length-set s.members k true

pub heads_in_length : (hs : List ℕ) → length (heads_in hs).members ≡ 8
unfolding heads_in
heads_in_length [] = refl
heads_in_length (h ∷ hs) = with_length (heads_in hs) h ∙ heads_in_length hs

has_none : (h : ℕ) → has_head no_heads h ≡ false
has_none zero = refl
has_none (suc k) = elim (cases_Bool (ltb k 8)) [ inl e ↦ rw e (at k) | inr e ↦ rw e ]
  where
    at : (k : ℕ) → lib.ListN.get_or no_heads.members k false ≡ false
    at k = elim (Rattle.std.proofs.lemmas.Bool.cases_lt k 8) [
      | inl lt ↦ Rattle.std.proofs.lemmas.List.get_or-replicate 8 k false false lt
      | inr ge ↦ Rattle.std.proofs.lemmas.List.get_or_past no_heads.members k false ge
    ]

module _ (p : ℕ → Bool) where
  pick_yes : (a : ℕ) (hs : List ℕ) → p a ≡ true → heads_in (those p (a ∷ hs)) ≡ with_head (heads_in (those p hs)) a
  unfolding heads_in
  pick_yes a hs e = ap heads_in (those_passes p a hs e)

  pick_no : (a : ℕ) (hs : List ℕ) → p a ≡ false → heads_in (those p (a ∷ hs)) ≡ heads_in (those p hs)
  pick_no a hs e = ap heads_in (those_fails p a hs e)

  -- a head below the range is not in the set
  below : (a n h : ℕ) → h < a → has_head (heads_in (those p (range_with_len a n))) h ≡ false
  unfolding heads_in those
  below a zero h lt = has_none h
  below a (suc n) h lt = elim (cases_Bool (p a)) [
    | inl e ↦ ap (λ (s : HeadSet). has_head s h) (pick_yes a (range_with_len (a + 1) n) e) ∙ has_with_other (heads_in (those p (range_with_len (a + 1) n))) a h (omega arith) ∙ below (a + 1) n h (omega arith)
    | inr e ↦ ap (λ (s : HeadSet). has_head s h) (pick_no a (range_with_len (a + 1) n) e) ∙ below (a + 1) n h (omega arith)
  ]

  pub has_collected : (a n h : ℕ) → 1 ≤ a → a ≤ h → h < a + n → h ≤ 8 → has_head (heads_in (those p (range_with_len a n))) h ≡ p h
  has_collected a zero h l m u few = absurd (omega arith)
  has_collected a (suc n) h l m u few = elim (cases_eq h a) [
    | inl same ↦ elim (cases_Bool (p a)) [
      | inl e ↦ ap (λ (s : HeadSet). has_head s h) (pick_yes a (range_with_len (a + 1) n) e) ∙ rw same (has_with_same (heads_in (those p (range_with_len (a + 1) n))) a (heads_in_length _) l (omega arith) ∙ sym e)
      | inr e ↦ ap (λ (s : HeadSet). has_head s h) (pick_no a (range_with_len (a + 1) n) e) ∙ below (a + 1) n h (omega arith) ∙ sym (ap p same ∙ e)
    ]
    | inr ne ↦ elim (cases_Bool (p a)) [
      | inl e ↦ ap (λ (s : HeadSet). has_head s h) (pick_yes a (range_with_len (a + 1) n) e) ∙ has_with_other (heads_in (those p (range_with_len (a + 1) n))) a h ne ∙ has_collected (a + 1) n h (omega arith) (omega arith) (omega arith) few
      | inr e ↦ ap (λ (s : HeadSet). has_head s h) (pick_no a (range_with_len (a + 1) n) e) ∙ has_collected (a + 1) n h (omega arith) (omega arith) (omega arith) few
    ]
  ]

  -- the heads of the job that pass, collected, are gone through in their order
  pub heads_of_collected : (j : Job) → heads_of j (heads_in (those p (heads j))) ≡ those p (heads j)
  heads_of_collected j = those_like _ p (heads j) (all_counting _ 1 j.heads (λ k l u. has_collected 1 j.heads k (omega arith) l u (omega (arith, j.eight))))
