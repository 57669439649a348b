-- What the code reads of sets of numbers, in the words of the definitions. Assumes nothing.
use Rattle.std.proofs.Common.{◌≡◌, ℕ, zero, suc, ◌+◌, ◌-◌, ◌<◌, ◌≤◌, min, ltb, Bool, true, false, cond, List, [], ◌∷◌, ◌++◌, length, reverse, get_or, set, Some, None, Option, inl, inr, sym, refl, ap, ◌∙◌, arith}
use Rattle.std.proofs.lemmas.Bool.{cond-true, cond-false, lt-ltb, le-ltb, ltb-true, cases_lt, cases_Bool}
use Rattle.std.proofs.lemmas.List.{set_past, length-set, length-reverse, reverse-append, ext_get_or, get_or-replicate, get_or-set_other}
use Rattle.std.proofs.lemmas.Grind.{get_or-set_at}
use Rattle.std.proofs.lemmas.Option.{cond_some, none-some}
use Rattle.std.specs.Bool.{then_some}
use Rattle.std.proofs.lemmas.List.FromFn.{length-range_with_len}
use Rattle.std.proofs.lemmas.Iterator.{YieldsList}
use Rattle.std.proofs.lemmas.Iterator.Consumers.{YieldsList-from_shown}
use Rattle.std.specs.List.{find, range_with_len}
use Rattle.std.specs.Iterator.Adapters.{rev_source, rev_steps}
use Rattle.std.specs.Range.{range_steps_back}
use Rattle.std.specs.declared.iter.Rev.{Rev}
use Rattle.std.specs.declared.ops.Range.{Range}
use Rattle.job.specs.Lists.{those}
use Rattle.job.specs.Sets.{place_of, among, setting, first_places, below, head_of}

-- a number below the first has no place, and another has the place that it is past the first, of eight
pub no_place_below : (f n : ℕ) → n < f → None ≡ place_of f n
no_place_below zero n lt = absurd (omega arith)
no_place_below (suc f) zero lt = refl
no_place_below (suc f) (suc n) lt = no_place_below f n (omega arith)

then_some_is : (b : Bool) (k : ℕ) → then_some b k ≡ cond b (Some k) None
then_some_is true k = refl
then_some_is false k = refl

pub place_from : (f n k : ℕ) → f ≤ n → k ≡ n - f → then_some (ltb k 8) k ≡ place_of f n
place_from zero n k le e = let same : k ≡ n = omega arith in then_some_is (ltb k 8) k ∙ ap (λ (i : ℕ). cond (ltb i 8) (Some i) None) same
place_from (suc f) zero k le e = absurd (omega arith)
place_from (suc f) (suc n) k le e = place_from f n k (omega arith) (omega arith)

-- what is read and written at a number's place, and of a number that has none
pub record At (f n k : ℕ) : Type 0 where
  pub small : k < 8
  pub read : (m : List Bool) → get_or m k false ≡ among f m n
  pub write : (m : List Bool) (b : Bool) → set m k b ≡ setting f m n b

pub at_place : (f n k : ℕ) → Some k ≡ place_of f n → At f n k
at_place zero n k e =
    let p = cond_some (ltb n 8) n k (sym e) in
    record {
      small = omega (arith, ltb-true n 8 p.0, p.1);
      read = λ m. ap (λ (i : ℕ). get_or m i false) (sym p.1) ∙ sym (cond-true _ _ _ p.0);
      write = λ m b. ap (λ (i : ℕ). set m i b) (sym p.1);
    }
at_place (suc f) zero k e = absurd (none-some k (sym e))
at_place (suc f) (suc n) k e = let a = at_place f n k e in record { small = a.small; read = a.read; write = a.write }

pub not_among : (f n : ℕ) (m : List Bool) → None ≡ place_of f n → among f m n ≡ false
not_among zero n m e = elim (cases_lt n 8) [
  | inl lt ↦ absurd (none-some n (e ∙ cond-true _ _ _ (lt-ltb n 8 lt)))
  | inr ge ↦ cond-false _ _ _ (le-ltb n 8 ge)
]
not_among (suc f) zero m e = refl
not_among (suc f) (suc n) m e = not_among f n m e

pub setting_none : (f n : ℕ) (m : List Bool) (b : Bool) → None ≡ place_of f n → length m ≡ 8 → setting f m n b ≡ m
setting_none zero n m b e long = elim (cases_lt n 8) [
  | inl lt ↦ absurd (none-some n (e ∙ cond-true _ _ _ (lt-ltb n 8 lt)))
  | inr ge ↦ set_past m n b (omega arith)
]
setting_none (suc f) zero m b e long = refl
setting_none (suc f) (suc n) m b e long = setting_none f n m b e long

capped_test : (n i : ℕ) → i < 8 → ltb i n ≡ ltb i (min n 8)
capped_test n i lt = elim (cases_lt i n) [
  | inl less ↦ lt-ltb i n less ∙ sym (lt-ltb i (min n 8) (omega arith))
  | inr more ↦ le-ltb i n more ∙ sym (le-ltb i (min n 8) (omega arith))
]

-- what is set at each place of the first so many
first_length : (k : ℕ) → length (first_places k) ≡ 8
unfolding first_places
first_length zero = refl
first_length (suc k) = length-set (first_places k) k true ∙ first_length k

first_at : (k i : ℕ) → k ≤ 8 → i < 8 → get_or (first_places k) i false ≡ ltb i k
unfolding first_places
first_at zero i le lt = get_or-replicate 8 i false false lt ∙ sym (le-ltb i 0 (omega arith))
first_at (suc k) i le lt = elim (cases_lt i k) [
  | inl less ↦ get_or-set_other (first_places k) k i true false (λ e. omega arith) ∙ first_at k i (omega arith) lt ∙ lt-ltb i k less ∙ sym (lt-ltb i (suc k) (omega arith))
  | inr more ↦ elim (cases_lt k i) [
    | inl past ↦ get_or-set_other (first_places k) k i true false (λ e. omega arith) ∙ first_at k i (omega arith) lt ∙ le-ltb i k more ∙ sym (le-ltb i (suc k) (omega arith))
    | inr here ↦ get_or-set_at (first_places k) k i true false (omega arith) (omega (arith, first_length k)) ∙ sym (lt-ltb i (suc k) (omega arith))
  ]
]

-- eight places, each of which is set where its number is below another
pub below_by_place : (f n : ℕ) (m : List Bool) → length m ≡ 8 → ((i : ℕ) → i < 8 → get_or m i false ≡ ltb i (n - f)) → record { members = m } ≡ below f n
below_by_place f n m long each =
    let k : ℕ = min (n - f) 8 in
    let few : k ≤ 8 = omega arith in
    ap (λ (xs : List Bool). record { members = xs })
    (ext_get_or false m (first_places k) (long ∙ sym (first_length k)) (λ i lt.
    let small : i < 8 = omega (arith, long) in
    each i small ∙ capped_test (n - f) i small ∙ sym (first_at k i few small)))

-- the first member of a list is what a search finds
pub first_found : (p : ℕ → Bool) (xs : List ℕ) → find p xs ≡ head_of (those p xs)
unfolding those
first_found p [] = refl
first_found p (x ∷ xs) = elim (cases_Bool (p x)) [
  | inl e ↦ cond-true _ _ _ e ∙ ap head_of (sym (cond-true _ _ _ e))
  | inr e ↦ cond-false _ _ _ e ∙ first_found p xs ∙ ap head_of (sym (cond-false _ _ _ e))
]

-- the numbers of a range, from its end
abbrev pub range_back : Rev (Range ℕ) → Option ℕ → Rev (Range ℕ) → Type 0
range_back = rev_steps (range_steps_back (λ a b. b - a) (λ a b. b ≡ a + 1))

range_more : (a n x : ℕ) → a + n ≡ x → range_with_len a (suc n) ≡ range_with_len a n ++ x ∷ []
range_more a zero x e = let same : a ≡ x = omega arith in ap (λ (k : ℕ). k ∷ []) same
range_more a (suc n) x e = ap (λ (t : List ℕ). a ∷ t) (range_more (a + 1) n x (omega arith))

one_back : (a n m x : ℕ) → n ≡ suc m → a + m ≡ x → reverse (range_with_len a n) ≡ x ∷ reverse (range_with_len a m)
one_back a n m x e f =
    ap (λ (k : ℕ). reverse (range_with_len a k)) e ∙ ap reverse (range_more a m x f) ∙ reverse-append (range_with_len a m) (x ∷ [])

pub YieldsList-from_rev_range : {s : Rev (Range ℕ)} (a b n : ℕ) → rev_source s ≡ record { start = a; end = b } → b - a ≡ n → YieldsList range_back (λ x. x) s (reverse (range_with_len a n))
YieldsList-from_rev_range {s} a b n e long =
    let left : Range ℕ → List ℕ = λ u. reverse (range_with_len u.start (u.end - u.start)) in
    let road : YieldsList range_back (λ x. x) s (left (rev_source s)) =
    YieldsList-from_shown range_back (λ x. x) (λ u. left (rev_source u))
    (λ u t p. length-reverse (range_with_len (rev_source u).start _) ∙ length-range_with_len (rev_source u).start _ ∙ p.1.0)
    (λ u x t p.
    let m = (rev_source t).end - (rev_source t).start in
    one_back (rev_source u).start ((rev_source u).end - (rev_source u).start) m x (omega (arith, p.0, p.1.0, p.1.2)) (omega (arith, p.0, p.1.0, p.1.1, p.1.2)) ∙ ap (λ (k : ℕ). x ∷ reverse (range_with_len k m)) (sym p.0))
    s
    in
    rw (ap left e ∙ ap (λ (k : ℕ). reverse (range_with_len a k)) long) at road
