-- The lines of an ended run, from their parts. Assumes nothing.
use Rattle.std.proofs.Common.{◌≡◌, ℕ, ◌≤◌, min, leb, List, [], ◌∷◌, ◌++◌, length, take, drop, replicate, Some, None, Option, sym, refl, ap, ◌∙◌, subst, ap₂, inl, inr, append_assoc, arith, length-append, length-take}
use Rattle.std.proofs.lemmas.List.{take_all, take-append-le}
use Rattle.std.proofs.lemmas.Bool.{cases_lt, cond-true, le-leb}
use Rattle.scale.specs.Operations.{Operations}
use Rattle.scale.specs.Coding.{Coding, Coded, writing}
use Rattle.run.specs.declared.run.Found.{Found}
use Rattle.run.specs.declared.run.Ended.{Ended}
use Rattle.run.specs.Ending.{unpacked}
use Rattle.answer.specs.Hex.{pair, hex, line}
use Rattle.answer.specs.declared.hex.Lines.{Lines}
use Rattle.answer.specs.Cursors.{Puts}
use Rattle.answer.specs.Lines.{eight_bytes, outcome_bytes, answer_lines}
use Rattle.answer.proofs.Cursors.{puts_then, hex_length}

hex_append : (xs ys : List ℕ) → hex (xs ++ ys) ≡ hex xs ++ hex ys
hex_append [] ys = refl
hex_append (x ∷ xs) ys = ap (λ (l : List ℕ). pair x ++ l) (hex_append xs ys) ∙ sym (append_assoc (pair x) (hex xs) (hex ys))

-- no more setups than there are places
take_capped : (heads m : ℕ) (xs : List ℕ) → length xs ≡ 8 → m ≡ min heads 8 → take m xs ≡ take heads xs
take_capped heads m xs long e = elim (cases_lt heads 8) [
  | inl lt ↦ let same : m ≡ heads = omega arith in ap (λ (n : ℕ). take n xs) same
  | inr ge ↦ take_all m xs (omega arith) ∙ sym (take_all heads xs (omega arith))
]

module _ {S : Type 0} {s : Operations S} {c : Coding S} (coded : Coded s c) where
  -- what a cost wrote, read to its width
  pub cost_bytes : (x : S) (w : ℕ) (mem : List ℕ) → w ≡ c.width → mem ≡ writing c x (replicate 6 0) → take w mem ≡ c.bytes x
  cost_bytes x w mem e f =
      let n : w ≡ length (c.bytes x) = omega (arith, coded.long x) in
      ap₂ (λ (k : ℕ) (l : List ℕ). take k l) n (f ∙ cond-true (leb c.width 6) (c.bytes x ++ drop c.width (replicate 6 0)) (replicate 6 0) (le-leb c.width 6 coded.few))
      ∙ take-append-le (length (c.bytes x)) (c.bytes x) (drop c.width (replicate 6 0)) (omega arith)
      ∙ take_all (length (c.bytes x)) (c.bytes x) (omega arith)

  pub outcome_few : (heads : ℕ) (o : Option (Found S)) → length (line (outcome_bytes c heads o)) ≤ 33
  outcome_few heads (Some found) =
      let bs = 5 ∷ heads ∷ (take heads (unpacked found.packed) ++ c.bytes found.cost) in
      omega (arith, length-append (hex bs) (10 ∷ []), hex_length bs, length-append (take heads (unpacked found.packed)) (c.bytes found.cost), length-take heads (unpacked found.packed), coded.long found.cost, coded.few)
  outcome_few heads None = omega arith

  module _ (heads m w : ℕ) (found : Found S) (setups mem : List ℕ) (p : setups ≡ unpacked found.packed) (q : m ≡ min heads 8) (r : w ≡ c.width) (t : mem ≡ writing c found.cost (replicate 6 0)) where
    pub found_written : {us vs ws xs ys : Lines} → Puts us (hex (5 ∷ heads ∷ [])) vs → Puts vs (hex (take m setups)) ws → Puts ws (hex (take w mem)) xs → Puts xs (10 ∷ []) ys →
        Puts us (line (outcome_bytes c heads (Some found))) ys
    found_written {us} {vs} {ws} {xs} {ys} a b d e =
        let first : take m setups ≡ take heads (unpacked found.packed) = ap (take m) p ∙ take_capped heads m (unpacked found.packed) refl q in
        let second : take w mem ≡ c.bytes found.cost = cost_bytes found.cost w mem r t in
        let all : ((hex (5 ∷ heads ∷ []) ++ hex (take m setups)) ++ hex (take w mem)) ++ 10 ∷ [] ≡ line (outcome_bytes c heads (Some found)) =
        ap (λ (l : List ℕ). l ++ 10 ∷ [])
        (append_assoc (hex (5 ∷ heads ∷ [])) (hex (take m setups)) (hex (take w mem))
        ∙ ap (λ (l : List ℕ). hex (5 ∷ heads ∷ []) ++ l) (ap₂ (λ (x y : List ℕ). hex x ++ hex y) first second ∙ sym (hex_append (take heads (unpacked found.packed)) (c.bytes found.cost)))) in
        subst (λ (l : List ℕ). Puts us l ys) all (puts_then (puts_then (puts_then a b) d) e)

  -- both lines, in a memory that held nothing of them
  pub answer_written : (e : Ended S) (heads count : ℕ) (o : Option (Found S)) {xs ys zs : Lines} → heads ≡ e.heads → count ≡ e.count → o ≡ e.outcome →
      Puts xs (line (outcome_bytes c heads o)) ys → Puts ys (line (7 ∷ eight_bytes count)) zs → Puts xs (answer_lines c e) zs
  answer_written e heads count o {xs} {ys} {zs} h n p a b =
      let a' : Puts xs (line (outcome_bytes c e.heads e.outcome)) ys = subst (λ (l : List ℕ). Puts xs l ys) (ap₂ (λ (x : ℕ) (y : Option (Found S)). line (outcome_bytes c x y)) h p) a in
      let b' : Puts ys (line (7 ∷ eight_bytes e.count)) zs = subst (λ (x : ℕ). Puts ys (line (7 ∷ eight_bytes x)) zs) n b in
      puts_then a' b'
