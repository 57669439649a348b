-- What the code reads of plans and jobs, in the words of the definitions. Assumes nothing.
use Rattle.std.proofs.Common.{◌≡◌, ℕ, zero, suc, ◌+◌, ◌-◌, ◌*◌, ◌^◌, ◌<◌, ◌≤◌, not, ◌||◌, ltb, ◌⊎◌, List, [], ◌∷◌, length, get_or, refl, sym, ap, subst, ◌∙◌, inl, inr, mul_assoc, arith, pow-add, take, map, Option, length-take}
use native.Mathlib.Nat.{pow-le-pow_right}
use Rattle.std.specs.List.{fold, range_with_len}
use Rattle.std.proofs.lemmas.Nat.{mul-le}
use Rattle.std.proofs.lemmas.List.{get_or_default, get_or-take, map-id}
use Rattle.std.proofs.lemmas.Iterator.{YieldsList}
use Rattle.std.proofs.lemmas.Iterator.Consumers.{YieldsList-so_far}
use Rattle.std.specs.Iterator.{Yields}
use Rattle.std.specs.Iterator.Runs.{EachRunFrom, YieldsRun}
use Rattle.std.proofs.lemmas.Bool.{cond-true, cond-false, lt-ltb, le-ltb}
use Rattle.job.specs.declared.job.Job.{Job}
use Rattle.job.specs.declared.plan.Plan.{Plan}
use Rattle.job.specs.Plans.{setup, setups, named, is_setup, product}

pub setup_within : (q : Plan) (k : ℕ) → k < 8 → setup q (suc k) ≡ get_or q.setups k 255
setup_within q k lt = cond-true _ _ _ (lt-ltb k 8 lt)

-- a number that is no head has no setup
pub setup_none : (q : Plan) (h : ℕ) → (h < 1) ⊎ ((1 ≤ h) × (8 < h)) → setup q h ≡ 255
setup_none q zero o = refl
setup_none q (suc k) (inl lt) = absurd (omega arith)
setup_none q (suc k) (inr gt) = cond-false _ _ _ (le-ltb k 8 (omega (arith, gt.1)))

module _ (q : Plan) (long : length q.setups ≡ 8) where
  pub setup_read : (h : ℕ) → 1 ≤ h → h ≤ 8 → setup q h ≡ get_or q.setups (h - 1) 0
  setup_read zero a b = absurd (omega arith)
  setup_read (suc k) a b = let e : suc k - 1 ≡ k = omega arith in rw e (setup_within q k (omega arith) ∙ get_or_default q.setups k 255 0 (omega arith))

  pub setup_at : (k : ℕ) → k < 8 → setup q (1 + k) ≡ get_or q.setups k 0
  setup_at k lt = let e : 1 + k - 1 ≡ k = omega arith in setup_read (1 + k) (omega arith) (omega arith) ∙ ap (λ (i : ℕ). get_or q.setups i 0) e

pub setups_read : (j : Job) (h : ℕ) → 1 ≤ h → setups j h ≡ get_or j.setups (h - 1) 0
setups_read j zero a = absurd (omega arith)
setups_read j (suc k) a = let e : suc k - 1 ≡ k = omega arith in rw e

pub setups_at : (j : Job) (k : ℕ) → setups j (1 + k) ≡ get_or j.setups k 0
setups_at j k = let e : 1 + k - 1 ≡ k = omega arith in setups_read j (1 + k) (omega arith) ∙ ap (λ (i : ℕ). get_or j.setups i 0) e

-- whether a plan may have what it has for head 1 + k
pub allowed_at : (j : Job) (q : Plan) (k : ℕ) → length q.setups ≡ 8 → k < 8 →
    (not (named q (1 + k)) || is_setup j (1 + k) (setup q (1 + k))) ≡ (not (ltb (get_or q.setups k 0) 255) || ltb (get_or q.setups k 0) (get_or j.setups k 0))
allowed_at j q k long lt = rw (setup_at q long k lt, setups_at j k)

-- the product of the members of a list, that are what q gives from s on
pub product_along : (q : ℕ → ℕ) (xs : List ℕ) (s n a : ℕ) → length xs ≡ n → ((k : ℕ) → k < n → q (s + k) ≡ get_or xs k 0) → fold (λ b x. b * x) a xs ≡ a * product q (range_with_len s n)
unfolding product
product_along q [] s zero a e h = omega arith
product_along q [] s (suc n) a e h = absurd (omega arith)
product_along q (x ∷ xs) s zero a e h = absurd (omega arith)
product_along q (x ∷ xs) s (suc n) a e h =
    let z : s + 0 ≡ s = omega arith in
    let here : q s ≡ x = ap q (sym z) ∙ h 0 (omega arith) in
    let later = product_along q xs (s + 1) n (a * x) (omega arith) (λ k lt. let z : s + 1 + k ≡ s + suc k = omega arith in ap q z ∙ h (suc k) (omega arith)) in
    later ∙ mul_assoc a x _ ∙ ap (λ (y : ℕ). a * (y * product q (range_with_len (s + 1) n))) (sym here)

-- k factors of at most 8, and one more
power_step : (x d k : ℕ) → x ≤ 8 ^ k → d ≤ 8 → x * d ≤ 8 ^ (k + 1)
power_step x d k h l = omega (arith, mul-le x d (8 ^ k) 8 h l, pow-add 8 k 1)

power_small : (x k : ℕ) → x ≤ 8 ^ k → k ≤ 8 → x < 2 ^ 32
power_small x k h l = omega (arith, pow-le-pow_right {n = 8} (omega arith) l)

fold_small : (xs : List ℕ) (a k : ℕ) → a ≤ 8 ^ k → ((i : ℕ) → i < length xs → get_or xs i 0 ≤ 8) → fold (λ b x. b * x) a xs ≤ 8 ^ (k + length xs)
fold_small [] a k h few = let e : k ≡ k + 0 = omega arith in subst (λ (i : ℕ). a ≤ 8 ^ i) e h
fold_small (x ∷ xs) a k h few =
    let e : k + 1 + length xs ≡ k + suc (length xs) = omega arith in
    subst (λ (i : ℕ). fold (λ b y. b * y) (a * x) xs ≤ 8 ^ i) e (fold_small xs (a * x) (k + 1) (power_step a x k h (few 0 (omega arith))) (λ i lt. few (suc i) (omega arith)))

-- the product of what a chain gives, along each run
pub product_fits : {S : Type 0} {steps : S → Option ℕ → S → Type 0} (all : List ℕ) (s : S) → YieldsList steps (λ x. x) s (map (λ x. x) all) → length all ≤ 8 → ((i : ℕ) → i < length all → get_or all i 0 ≤ 8) → EachRunFrom steps s (λ p. fold (λ b x. b * x) 1 p.items < 2 ^ 32)
unfolding YieldsRun
product_fits {steps = steps} all s e short few = λ p _ at.
    let n = length p.items in
    let is : p.items ≡ take n all = sym (map-id p.items) ∙ YieldsList-so_far e p.items p.gave.0.0 (subst (λ u. Yields steps u p.items p.gave.0.0) at p.gave.0.1) ∙ ap (take n) (map-id all) in
    let small : fold (λ b x. b * x) 1 (take n all) < 2 ^ 32 = power_small _ (0 + length (take n all)) (fold_small (take n all) 1 0 (omega arith) (λ i lt. subst (λ (d : ℕ). d ≤ 8) (sym (get_or-take n all i 0 (omega (arith, lt, length-take n all)))) (few i (omega (arith, lt, length-take n all))))) (omega (arith, length-take n all)) in
    subst (λ (xs : List ℕ). fold (λ b x. b * x) 1 xs < 2 ^ 32) (sym is) small
