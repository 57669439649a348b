-- A head's row is the middle part of all records: a read and a write in it are a read and a write in the whole. Assumes nothing.
use Rattle.std.proofs.Common.{◌≡◌, ℕ, ◌+◌, ◌-◌, ◌<◌, ◌≤◌, List, ◌++◌, length, get_or, take, drop, set, sym, ap, ◌∙◌, arith}
use borrow.Rule.Slice.PartMut.{put_mid}
use Rattle.std.proofs.lemmas.List.{take-append-drop, set-append_left, set-append_right, length-drop, length-take-le, get_or-take, get_or-drop}

module _ {R : Type 0} (xs : List R) (a k : ℕ) (room : a + k ≤ length xs) where
  pub put_same : put_mid a k xs (take k (drop a xs)) ≡ xs
  put_same = ap (λ ys. take a xs ++ ys) (take-append-drop k (drop a xs)) ∙ take-append-drop a xs

  part : length (take k (drop a xs)) ≡ k
  part = length-take-le k (drop a xs) (simp length-drop (omega arith))

  front : length (take a xs) ≡ a
  front = length-take-le a xs (omega arith)

  module _ (v : ℕ) (inside : v < k) where
    pub put_set : (q : R) → put_mid a k xs (set (take k (drop a xs)) v q) ≡ set xs (a + v) q
    put_set q =
        let i : v < length (take k (drop a xs)) = omega (arith, part) in
        let one = set-append_left (take k (drop a xs)) (drop k (drop a xs)) v q i in
        let two = set-append_right (take a xs) (take k (drop a xs) ++ drop k (drop a xs)) a (a + v) q front (omega arith) in
        let at : a + v - a ≡ v = omega arith in
        ap (λ ys. take a xs ++ ys) (sym one) ∙ sym (ap (λ j. take a xs ++ set (take k (drop a xs) ++ drop k (drop a xs)) j q) at) ∙ sym two ∙ ap (λ ys. set ys (a + v) q) put_same

    pub read_part : (d : R) → get_or (take k (drop a xs)) v d ≡ get_or xs (a + v) d
    read_part d = get_or-take k (drop a xs) v d inside ∙ get_or-drop a xs v d
