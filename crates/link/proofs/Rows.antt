-- A row of places that is read from one place on, and what a write and a step leave of it. Assumes nothing.
use Rattle.std.proofs.Common.{◌≡◌, ℕ, suc, ◌+◌, ◌-◌, ◌<◌, ◌≤◌, min, List, [], ◌∷◌, ◌++◌, length, get_or, take, drop, set, sym, ap, ◌∙◌, ap₂, ⊎_elim, append_assoc, append-nil, arith, length-append, length-drop, length-take}
use lib.Seq.{take-set-lt}
use Rattle.std.proofs.lemmas.List.{take_more, take_more_set, take_all, drop_all, drop_more, drop-set-add, drop-set-lt, get_or-append_right, get_or_append_left, get_or-drop, get_or-take, take-set-le, take-append-le, set-append_left, set-append_right}
use Rattle.link.specs.QueueModel.{turned, Next}

module _ {X : Type 0} where
  pub length_turned : (f : ℕ) (xs : List X) → length (turned f xs) ≡ length xs
  length_turned f xs = omega (arith, length-append (drop f xs) (take f xs), length-drop f xs, length-take f xs)

  -- how many wait, by the numbers that a queue keeps
  pub length_waiting : (c f : ℕ) (xs : List X) → length (take c (turned f xs)) ≡ min c (length xs)
  length_waiting c f xs = omega (arith, length-take c (turned f xs), length_turned f xs)

  -- what is read and what is written at the place of the message that comes after c others
  turned_at : (f c at : ℕ) (xs : List X) (d : X) → f ≤ length xs → c < length xs → Next (length xs) f c at → get_or (turned f xs) c d ≡ get_or xs at d
  turned_at f c at xs d h q way =
      ⊎_elim
      (λ near. get_or_append_left (drop f xs) (take f xs) d c (omega (arith, length-drop f xs, near.0)) ∙ get_or-drop f xs c d ∙ ap (λ i. get_or xs i d) (sym near.1))
      (λ far.
      let i = c - (length xs - f) in
      get_or-append_right (drop f xs) (take f xs) (length xs - f) c d (length-drop f xs) far.0 ∙ get_or-take f xs i d (omega (arith, q)) ∙ ap (λ k. get_or xs k d) (sym far.1))
      way

  turned_set : (f c at : ℕ) (xs : List X) (m : X) → f ≤ length xs → c < length xs → Next (length xs) f c at → turned f (set xs at m) ≡ set (turned f xs) c m
  turned_set f c at xs m h q way =
      ⊎_elim
      (λ near.
      let front : turned f (set xs (f + c) m) ≡ set (turned f xs) c m =
      ap₂ ◌++◌ (drop-set-add f xs c m) (take-set-le f xs (f + c) m (omega arith)) ∙ sym (set-append_left (drop f xs) (take f xs) c m (omega (arith, length-drop f xs, near.0)))
      in
      ap (λ i. turned f (set xs i m)) near.1 ∙ front)
      (λ far.
      let i = c - (length xs - f) in
      let back : turned f (set xs i m) ≡ set (turned f xs) c m =
      ap₂ ◌++◌ (drop-set-lt f xs i m (omega arith)) (take-set-lt f xs i m (omega arith)) ∙ sym (set-append_right (drop f xs) (take f xs) (length xs - f) c m (length-drop f xs) far.0)
      in
      ap (λ k. turned f (set xs k m)) far.1 ∙ back)
      way

  -- one message more
  pub added_last : (f c at : ℕ) (xs : List X) (m : X) → f ≤ length xs → c < length xs → Next (length xs) f c at → take (c + 1) (turned f (set xs at m)) ≡ take c (turned f xs) ++ m ∷ []
  added_last f c at xs m h q way = ap (take (c + 1)) (turned_set f c at xs m h q way) ∙ take_more_set (turned f xs) c m (omega (arith, length_turned f xs))

  -- one message fewer, the newest
  pub removed_last : (f c at : ℕ) (xs : List X) (d : X) → f ≤ length xs → 0 < c → c ≤ length xs → Next (length xs) f (c - 1) at → take c (turned f xs) ≡ take (c - 1) (turned f xs) ++ get_or xs at d ∷ []
  removed_last f c at xs d h p q way =
      let e : c - 1 + 1 ≡ c = omega arith in
      ap (λ i. take i (turned f xs)) (sym e)
      ∙ take_more (turned f xs) (c - 1) d (omega (arith, length_turned f xs))
      ∙ ap (λ x. take (c - 1) (turned f xs) ++ x ∷ []) (turned_at f (c - 1) at xs d h (omega arith) way)

  take_cons : (c : ℕ) (x : X) (r : List X) → 0 < c → take c (x ∷ r) ≡ x ∷ take (c - 1) r
  take_cons c x r h = let e : c ≡ suc (c - 1) = omega arith in ap (λ n. take n (x ∷ r)) e

  -- a row that begins past the last place begins at the first
  turned_start : (f at : ℕ) (xs : List X) → f ≤ length xs → Next (length xs) f 0 at → turned f xs ≡ turned at xs
  turned_start f at xs h way =
      ⊎_elim
      (λ near. let same : f ≡ at = omega (arith, near.1) in ap (λ i. turned i xs) same)
      (λ far.
      let first : 0 ≡ at = omega (arith, far.1) in
      ap₂ ◌++◌ (drop_all f xs (omega (arith, far.0))) (take_all f xs (omega (arith, far.0))) ∙ sym (append-nil xs) ∙ ap (λ i. turned i xs) first)
      way

  -- one message fewer, the oldest: the row begins one place on, and what stood first goes to its end
  pub removed_first : (f c at : ℕ) (xs : List X) (d : X) → f ≤ length xs → 0 < c → c ≤ length xs → Next (length xs) f 0 at → at < length xs → take c (turned f xs) ≡ get_or xs at d ∷ take (c - 1) (turned (at + 1) xs)
  removed_first f c at xs d h p q way lt =
      let rest = drop (at + 1) xs ++ take at xs in
      let long : length rest + 1 ≡ length xs = omega (arith, length-append (drop (at + 1) xs) (take at xs), length-drop (at + 1) xs, length-take at xs) in
      let now : turned at xs ≡ get_or xs at d ∷ rest = ap (λ r. r ++ take at xs) (drop_more xs at d lt) in
      let then : turned (at + 1) xs ≡ rest ++ get_or xs at d ∷ [] =
      ap (λ r. drop (at + 1) xs ++ r) (take_more xs at d lt) ∙ sym (append_assoc (drop (at + 1) xs) (take at xs) (get_or xs at d ∷ [])) in
      let front : take (c - 1) (turned (at + 1) xs) ≡ take (c - 1) rest = ap (take (c - 1)) then ∙ take-append-le (c - 1) rest (get_or xs at d ∷ []) (omega arith) in
      ap (take c) (turned_start f at xs h way ∙ now) ∙ take_cons c (get_or xs at d) rest p ∙ ap (λ r. get_or xs at d ∷ r) (sym front)
