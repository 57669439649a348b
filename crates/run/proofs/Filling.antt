-- Filling the front of a list, one place at a time. Assumes nothing.
use Rattle.std.proofs.Common.{◌≡◌, ℕ, ◌+◌, ◌-◌, ◌<◌, ◌≤◌, List, [], ◌∷◌, ◌++◌, length, take, drop, set, replicate, sym, ap, ◌∙◌, ap₂, append_assoc, arith}
use Rattle.std.proofs.lemmas.List.{drop_more, set-append_right, replicate_more, length-replicate, length-take-le}

module _ {X : Type 0} (x : X) where
  abbrev pub filled : ℕ → List X → List X
  filled i xs = replicate i x ++ drop i xs

  set_first : (i : ℕ) (xs : List X) → i < length xs → set (drop i xs) (i - i) x ≡ x ∷ drop (i + 1) xs
  set_first i xs h =
      let e : i - i ≡ 0 = omega arith in
      ap (λ (k : ℕ). set (drop i xs) k x) e ∙ ap (λ (ys : List X). set ys 0 x) (drop_more xs i x h)

  pub filled_more : (i : ℕ) (xs ys : List X) (y : X) → i < length xs → ys ≡ filled i xs → y ≡ x → set ys i y ≡ filled (i + 1) xs
  filled_more i xs ys y h e same =
      ap (λ (zs : List X). set zs i y) e
      ∙ ap (λ (z : X). set (filled i xs) i z) same
      ∙ set-append_right (replicate i x) (drop i xs) i i x (length-replicate i x) (omega arith)
      ∙ ap (λ (zs : List X). replicate i x ++ zs) (set_first i xs h)
      ∙ sym (append_assoc (replicate i x) (x ∷ []) (drop (i + 1) xs))
      ∙ ap (λ (zs : List X). zs ++ drop (i + 1) xs) (replicate_more i x)

  -- the front of a list, filled by itself
  pub filled_part : (v : X) (n : ℕ) (xs ys : List X) → n ≤ length xs → ys ≡ replicate (length (take n xs)) v → v ≡ x → ys ++ drop n xs ≡ filled n xs
  filled_part v n xs ys h e same = ap (λ (zs : List X). zs ++ drop n xs) (e ∙ ap₂ (λ (k : ℕ) (y : X). replicate k y) (length-take-le n xs h) same)
