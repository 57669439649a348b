-- Where costs lie: the numbers of the pairs. Assumes nothing.
use Rattle.std.proofs.Common.{◌≡◌, ℕ, zero, suc, ◌<◌, ◌≤◌, Some, None, ◌∙◌, inl, inr, arith}
use Rattle.std.proofs.lemmas.Bool.{cases_Bool, and_parts, cond-true, cond-false, leb-true, ltb-true}
use Rattle.problem.specs.Costs.{pair, is_pair, pair_of}

-- there are 28 pairs; by the first head
pub pair_within : (a b : ℕ) → 1 ≤ a → a < b → b ≤ 8 → pair a b < 28
pair_within zero b h l e = absurd (omega arith)
pair_within (suc zero) b h l e = omega arith
pair_within (suc (suc zero)) b h l e = omega arith
pair_within (suc (suc (suc zero))) b h l e = omega arith
pair_within (suc (suc (suc (suc zero)))) b h l e = omega arith
pair_within (suc (suc (suc (suc (suc zero))))) b h l e = omega arith
pair_within (suc (suc (suc (suc (suc (suc zero)))))) b h l e = omega arith
pair_within (suc (suc (suc (suc (suc (suc (suc zero))))))) b h l e = omega arith
pair_within (suc (suc (suc (suc (suc (suc (suc (suc a)))))))) b h l e = absurd (omega arith)

pub pair_of_within : (a b p : ℕ) → Some p ≡ pair_of a b → p < 28
pair_of_within a b p e = elim (cases_Bool (is_pair a b)) [
  | inl y ↦
      let is : p ≡ pair a b = let z : Some p ≡ Some (pair a b) = e ∙ cond-true _ _ _ y in cc in
      let low = and_parts _ _ y in
      let high = and_parts _ _ low.1 in
      rw is (pair_within a b (leb-true 1 a low.0) (ltb-true a b high.0) (leb-true b 8 high.1))
  | inr f ↦ absurd (let z : Some p ≡ None = e ∙ cond-false _ _ _ f in let o : ◌≡◌ {A = ℕ} 0 1 = cc in omega arith)
]
