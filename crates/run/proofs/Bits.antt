-- Which searches are out, as bits of one number: the bit of a search, what a search that comes home takes from the number, and that
-- the number is 0 exactly when all searches are home. Serves the correspondence of a run with its searches. Assumes nothing.
use Rattle.std.proofs.Common.{◌≡◌, ℕ, suc, ◌+◌, ◌*◌, ◌/◌, ◌%◌, ◌^◌, ◌<◌, Bool, true, false, eqb, List, [], ◌∷◌, ◌++◌, map, length, sym, refl, ap, ◌∙◌, inl, inr, pow-suc, arith}
use Rattle.std.proofs.lemmas.Nat.{pow_pos, shr-shr}
use Rattle.std.proofs.lemmas.Bool.{cases_Bool, cases_eq, cond-true, cond-false, eq-eqb, ne_eqb}
use Rattle.head.specs.Lent.{is_out}
use Rattle.searches.specs.Chains.{Search}
use Rattle.searches.specs.Moves.{is_out as goes_out, all_home, first_search}
use Rattle.run.specs.Worlds.{all_out, come_home}

abbrev pub bit : Bool → ℕ
bit true = 1
bit false = 0

-- the number with these bits, the least first
abbrev pub bits : List Bool → ℕ
bits [] = 0
bits (b ∷ bs) = bit b + 2 * bits bs

bit_few : (b : Bool) → bit b < 2
bit_few true = omega arith
bit_few false = omega arith

first_bit : (b : Bool) (x : ℕ) → eqb ((bit b + 2 * x) / 2 ^ 0 % 2) 1 ≡ b
first_bit true x = eq-eqb _ _ (omega arith)
first_bit false x = ne_eqb _ _ (omega arith)

later_bit : (b : Bool) (x k : ℕ) → (bit b + 2 * x) / 2 ^ suc k ≡ x / 2 ^ k
later_bit b x k =
    let e : (bit b + 2 * x) / 2 ≡ x = omega (arith, bit_few b) in
    let f : 1 + k ≡ suc k = omega arith in
    sym (ap (λ (n : ℕ). (bit b + 2 * x) / 2 ^ n) f) ∙ sym (shr-shr (bit b + 2 * x) 1 k) ∙ ap (λ (n : ℕ). n / 2 ^ k) e

-- the bit after as many others
pub bit_at : (xs : List Bool) (b : Bool) (ys : List Bool) → is_out (bits (xs ++ b ∷ ys)) (length xs) ≡ b
bit_at [] b ys = first_bit b (bits ys)
bit_at (x ∷ xs) b ys = ap (λ (n : ℕ). eqb (n % 2) 1) (later_bit x (bits (xs ++ b ∷ ys)) (length xs)) ∙ bit_at xs b ys

bit_weighs : (xs ys : List Bool) → bits (xs ++ true ∷ ys) ≡ 2 ^ length xs + bits (xs ++ false ∷ ys)
bit_weighs [] ys = omega arith
bit_weighs (x ∷ xs) ys = omega (arith, bit_weighs xs ys, pow-suc 2 (length xs))

pub bit_cleared : (xs ys : List Bool) → come_home (bits (xs ++ true ∷ ys)) (length xs) ≡ bits (xs ++ false ∷ ys)
bit_cleared xs ys = omega (arith, bit_weighs xs ys)

-- the bits of some searches
abbrev pub outs : {S : Type 0} → List (Search S) → List Bool
outs ss = map (λ s. goes_out s.focus) ss

module _ (S : Type 0) where
  pub first_are_out : (vs : List ℕ) → bits (outs (map (first_search {S = S}) vs)) ≡ all_out (length vs)
  first_are_out [] = refl
  first_are_out (v ∷ vs) = omega (arith, first_are_out vs, pow-suc 2 (length vs), pow_pos (length vs))

module _ {S : Type 0} where
  pub none_is_out : (ss : List (Search S)) → eqb (bits (outs ss)) 0 ≡ all_home ss
  none_is_out [] = refl
  none_is_out (s ∷ ss) = elim (cases_Bool (goes_out s.focus)) [
    | inl e ↦ rw e (ne_eqb _ _ (omega arith))
    | inr e ↦ rw e (twice (bits (outs ss)) ∙ none_is_out ss)
  ]
    where
      twice : (x : ℕ) → eqb (0 + 2 * x) 0 ≡ eqb x 0
      twice x = elim (cases_eq x 0) [
        | inl z ↦ eq-eqb (0 + 2 * x) 0 (omega arith) ∙ sym (eq-eqb x 0 z)
        | inr ne ↦ ne_eqb (0 + 2 * x) 0 (omega arith) ∙ sym (ne_eqb x 0 ne)
      ]

  pub first_are_not_home : (front : List (Search S)) (v : ℕ) (vs : List ℕ) → all_home (front ++ map first_search (v ∷ vs)) ≡ false
  first_are_not_home [] v vs = refl
  first_are_not_home (s ∷ front) v vs = elim (cases_Bool (goes_out s.focus)) [ inl e ↦ cond-true _ _ _ e | inr e ↦ cond-false _ _ _ e ∙ first_are_not_home front v vs ]
