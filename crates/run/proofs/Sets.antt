-- Sets of setups and of heads by their members: all setups below a number, one setup alone, what is left without the lowest, which
-- heads a set of heads has, and tests of every member of a list. Serves what the records of a search show. Assumes nothing.
use Rattle.std.proofs.Common.{◌≡◌, ℕ, zero, suc, ◌+◌, ◌-◌, ◌<◌, ◌≤◌, Bool, true, false, not, ◌&&◌, eqb, ◌≢◌, List, [], ◌∷◌, length, get_or, replicate, sym, refl, ap, ◌∙◌, inl, inr, arith}
use Rattle.std.specs.List.{range_with_len, AllByRecursion as All}
use Rattle.std.proofs.ByRecursion.{All-weaker}
use Rattle.std.proofs.lemmas.List.{length-set, get_or-set_same, get_or-set_other, get_or-replicate, get_or_past}
use Rattle.std.proofs.lemmas.Bool.{cases_Bool, cases_eq, cases_lt, cond-true, cond-false, and_from, and_left, and_right, lt-ltb, le-ltb, not_from_true, not_from_false, both_ways, and_parts, true≢false, eq-eqb, ne_eqb}
use Rattle.job.specs.declared.job.Job.{Job}
use Rattle.job.specs.Lists.{those, every}
use Rattle.job.specs.Plans.{heads}
use Rattle.problem.specs.Bags.{Out, Same, one}
use Rattle.problem.proofs.Naming.{those_passes, those_fails, those_all, out_those, all_counting, out_counting}
use Rattle.link.specs.HeadSets.{no_heads, has_head, heads_in}
use Rattle.link.proofs.Bags.{same_refl}
use Rattle.job.specs.Sets.{first_places, head_of}
use Rattle.head.specs.SetupSets.{SetupSet, has_setup, without_setup, only_setup, first_setups, members}
use Rattle.head.specs.Searching.{others}
use Rattle.head.proofs.Trying.{lowest_leaves}
use Rattle.head.proofs.HeadSets.{has_with_same, has_with_other, heads_in_length}
use Rattle.searches.specs.Members.{Some}
use Rattle.searches.specs.Cubes.{Head}

-- those of a range that pass a test
module _ (p : ℕ → Bool) where
  pub those_none : (a n : ℕ) → ((k : ℕ) → a ≤ k → k < a + n → p k ≡ false) → those p (range_with_len a n) ≡ []
  those_none a zero f = unfold those in refl
  those_none a (suc n) f = those_fails p a (range_with_len (a + 1) n) (f a (omega arith) (omega arith)) ∙ those_none (a + 1) n (λ k l u. f k (omega arith) (omega arith))

  -- only the first n pass
  those_first : (a n m : ℕ) → ((k : ℕ) → a ≤ k → k < a + n → p k ≡ true) → ((k : ℕ) → a + n ≤ k → k < a + (n + m) → p k ≡ false) → those p (range_with_len a (n + m)) ≡ range_with_len a n
  those_first a zero m pass fail = let e : 0 + m ≡ m = omega arith in rw e (those_none a m (λ k l u. fail k (omega arith) (omega arith)))
  those_first a (suc n) m pass fail =
      let e : suc n + m ≡ suc (n + m) = omega arith in
      rw e (those_passes p a (range_with_len (a + 1) (n + m)) (pass a (omega arith) (omega arith)) ∙ ap (λ t. a ∷ t) (those_first (a + 1) n m (λ k l u. pass k (omega arith) (omega arith)) (λ k l u. fail k (omega arith) (omega arith))))

  -- only one passes
  those_one : (v a n : ℕ) → a ≤ v → v < a + n → p v ≡ true → ((k : ℕ) → k ≢ v → p k ≡ false) → those p (range_with_len a n) ≡ v ∷ []
  those_one v a zero l u pass fail = absurd (omega arith)
  those_one v a (suc n) l u pass fail = elim (cases_eq a v) [
    | inl e ↦ those_passes p a (range_with_len (a + 1) n) (ap p e ∙ pass) ∙ ap (λ t. a ∷ t) (those_none (a + 1) n (λ k l u. fail k (omega arith))) ∙ ap (λ (k : ℕ). k ∷ []) e
    | inr ne ↦ those_fails p a (range_with_len (a + 1) n) (fail a ne) ∙ those_one v (a + 1) n (omega arith) (omega arith) pass fail
  ]

  -- a member that passes is among those, whatever holds of them holds of it
  pub all_of_those : (P : ℕ → Type 0) (a n k : ℕ) → a ≤ k → k < a + n → p k ≡ true → All P (those p (range_with_len a n)) → P k
  all_of_those P a zero k l u e all = absurd (omega arith)
  all_of_those P a (suc n) k l u e all = elim (cases_eq a k) [
    | inl same ↦ rw (← same) (rw (those_passes p a (range_with_len (a + 1) n) (ap p same ∙ e)) at all).0
    | inr ne ↦ elim (cases_Bool (p a)) [
      | inl y ↦ all_of_those P (a + 1) n k (omega arith) (omega arith) e (rw (those_passes p a (range_with_len (a + 1) n) y) at all).1
      | inr n' ↦ all_of_those P (a + 1) n k (omega arith) (omega arith) e (rw (those_fails p a (range_with_len (a + 1) n) n') at all)
    ]
  ]

-- the setups below a number
first_length : (d : ℕ) → length (first_setups d).members ≡ 8
unfolding first_places
first_length zero = refl
first_length (suc d) = length-set (first_setups d).members d true ∙ first_length d

first_has : (d k : ℕ) → d ≤ 8 → k < d → get_or (first_setups d).members k false ≡ true
unfolding first_places
first_has zero k few lt = absurd (omega arith)
first_has (suc d) k few lt = elim (cases_eq k d) [
  | inl e ↦ rw e (get_or-set_same (first_setups d).members d true false (omega (arith, first_length d)))
  | inr ne ↦ get_or-set_other (first_setups d).members d k true false ne ∙ first_has d k (omega arith) (omega arith)
]

first_lacks : (d k : ℕ) → d ≤ k → get_or (first_setups d).members k false ≡ false
unfolding first_places
first_lacks zero k le = elim (cases_lt k 8) [ inl lt ↦ get_or-replicate 8 k false false lt | inr ge ↦ get_or_past (replicate 8 false) k false ge ]
first_lacks (suc d) k le = get_or-set_other (first_setups d).members d k true false (omega arith) ∙ first_lacks d k (omega arith)

pub members_of_first : (d : ℕ) → d ≤ 8 → members (first_setups d) ≡ range_with_len 0 d
members_of_first d few =
    let e : d + (8 - d) ≡ 8 = omega arith in
    sym (ap (λ (n : ℕ). those (has_setup (first_setups d)) (range_with_len 0 n)) e)
    ∙ those_first (has_setup (first_setups d)) 0 d (8 - d)
    (λ k l u. cond-true _ _ _ (lt-ltb k 8 (omega arith)) ∙ first_has d k few (omega arith))
    (λ k l u. cond-true _ _ _ (lt-ltb k 8 (omega arith)) ∙ first_lacks d k (omega arith))

only_lacks : (v k : ℕ) → k ≢ v → has_setup (only_setup v) k ≡ false
only_lacks v k ne = elim (cases_lt k 8) [
  | inl lt ↦ cond-true _ _ _ (lt-ltb k 8 lt) ∙ get_or-set_other (replicate 8 false) v k true false ne ∙ get_or-replicate 8 k false false lt
  | inr ge ↦ cond-false _ _ _ (le-ltb k 8 ge)
]

pub members_of_only : (v : ℕ) → v < 8 → members (only_setup v) ≡ v ∷ []
members_of_only v lt =
    those_one (has_setup (only_setup v)) v 0 8 (omega arith) (omega arith) (cond-true _ _ _ (lt-ltb v 8 lt) ∙ get_or-set_same (replicate 8 false) v true false lt) (only_lacks v)

pub members_without : (u : SetupSet) (i : ℕ) (is : List ℕ) → members u ≡ i ∷ is → members (without_setup u i) ≡ is
members_without u i is e =
    let f : i ∷ members (without_setup u i) ≡ i ∷ is = sym (lowest_leaves u i (ap head_of e)) ∙ e in
    cc

-- which heads are in a set
has_none : (h : ℕ) → has_head no_heads h ≡ false
has_none zero = refl
has_none (suc k) = elim (cases_lt k 8) [
  | inl lt ↦ cond-true _ _ _ (lt-ltb k 8 lt) ∙ get_or-replicate 8 k false false lt
  | inr ge ↦ cond-false _ _ _ (le-ltb k 8 ge)
]

pub has_listed : (hs : List ℕ) (h : ℕ) → 1 ≤ h → h ≤ 8 → Some (λ g. g ≡ h) hs → has_head (heads_in hs) h ≡ true
unfolding heads_in
has_listed [] h l u s = elim s [ ]
has_listed (g ∷ hs) h l u s = elim (cases_eq h g) [
  | inl e ↦ rw (← e) (has_with_same (heads_in hs) h (heads_in_length hs) l u)
  | inr ne ↦ elim s [
    | inl e ↦ absurd (ne (sym e))
    | inr t ↦ has_with_other (heads_in hs) g h ne ∙ has_listed hs h l u t
  ]
]

pub has_unlisted : (hs : List ℕ) (h : ℕ) → All (λ g. h ≢ g) hs → has_head (heads_in hs) h ≡ false
unfolding heads_in
has_unlisted [] h a = has_none h
has_unlisted (g ∷ hs) h a = has_with_other (heads_in hs) g h a.0 ∙ has_unlisted hs h a.1

pub listed_if_has : (hs : List ℕ) (h : ℕ) → has_head (heads_in hs) h ≡ true → Some (λ g. g ≡ h) hs
unfolding heads_in
listed_if_has [] h e = absurd (both_ways _ (has_none h) e)
listed_if_has (g ∷ hs) h e = elim (cases_eq h g) [
  | inl same ↦ inl (sym same)
  | inr ne ↦ inr (listed_if_has hs h (sym (has_with_other (heads_in hs) g h ne) ∙ e))
]

-- tests of every member
module _ {X : Type 0} (p : X → Bool) where
  pub every_passes : (xs : List X) → All (λ x. p x ≡ true) xs → every p xs ≡ true
  unfolding every
  every_passes [] a = refl
  every_passes (x ∷ xs) a = and_from _ _ a.0 (every_passes xs a.1)

  pub every_fails : (xs : List X) → Some (λ x. p x ≡ false) xs → every p xs ≡ false
  unfolding every
  every_fails [] s = elim s [ ]
  every_fails (x ∷ xs) (inl e) = and_left _ _ e
  every_fails (x ∷ xs) (inr s) = and_right _ _ (every_fails xs s)

  -- all pass, and none fails; or one fails
  pub none_of_those : (xs : List X) → every p xs ≡ true → those (λ x. not (p x)) xs ≡ []
  unfolding every
  none_of_those [] e = unfold those in refl
  none_of_those (x ∷ xs) e =
      let b = and_parts _ _ e in
      those_fails (λ x. not (p x)) x xs (not_from_true _ b.0) ∙ none_of_those xs b.1

  pub some_of_those : (xs : List X) → every p xs ≡ false → (y : X) × (ys : List X) × (those (λ x. not (p x)) xs ≡ y ∷ ys)
  unfolding every
  some_of_those [] e = absurd (true≢false e)
  some_of_those (x ∷ xs) e = elim (cases_Bool (p x)) [
    | inr n ↦ (x, those (λ x. not (p x)) xs, those_passes (λ x. not (p x)) x xs (not_from_false _ n))
    | inl y ↦
        let r = some_of_those xs (sym (ap (λ (b : Bool). b && every p xs) y) ∙ e) in
        (r.0, r.1, those_fails (λ x. not (p x)) x xs (not_from_true _ y) ∙ r.2)
  ]

-- a head and the others
pub others_are : (j : Job) (h : ℕ) → Head j h → Same (h ∷ others j h) (heads j)
others_are j h k =
    let o = out_counting 1 j.heads h k.one_up (omega (arith, k.to_last)) in
    let all : those (λ _. true) (heads j) ≡ heads j = those_all (λ _. true) (heads j) (all_counting _ 1 j.heads (λ _ _ _. refl)) in
    let out : Out h (those (λ _. true) (heads j)) (others j h) =
    out_those (λ _. true) (λ g. not (eqb g h)) o.1 refl (ap not (eq-eqb h h refl))
    (All-weaker _ _ (λ g ne. sym (ap not (ne_eqb g h ne))) o.0 o.2) in
    one (rw all at out) (same_refl (others j h))
