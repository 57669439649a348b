-- Where the entries of one table go: each to its own place, and no other place changes. Assumes nothing.
use Rattle.std.proofs.Common.{◌≡◌, ℕ, zero, suc, ◌+◌, ◌*◌, ◌<◌, ◌≤◌, true, List, length, get_or, is_some, Some, None, Option, sym, refl, ap, ◌∙◌, inl, inr, arith}
use Rattle.std.proofs.lemmas.List.{length-set, get_or-set_same, get_or-set_other}
use Rattle.std.proofs.lemmas.Bool.{false≢true, cases_eq}
use Rattle.sheet.specs.Tables.{put, row_laid, table_laid}

module _ {S : Type 0} where
  put_length : (e : ℕ → Option S) (o : Option S) (k : ℕ) (xs : List S) → length (put e o k xs) ≡ length xs
  put_length e (Some x) k xs = length-set xs k x
  put_length e None k xs = refl

  row_length : (e : ℕ → Option S) (base n : ℕ) (xs : List S) → length (row_laid e base n xs) ≡ length xs
  row_length e base zero xs = refl
  row_length e base (suc n) xs = put_length e (e n) (base + n) (row_laid e base n xs) ∙ row_length e base n xs

  pub table_length : (e : ℕ → Option S) (columns p n : ℕ) (xs : List S) → length (table_laid e columns p n xs) ≡ length xs
  table_length e columns p zero xs = refl
  table_length e columns p (suc n) xs =
      row_length (λ j. e (columns * n + j)) (64 * p + 8 * n) columns (table_laid e columns p n xs) ∙ table_length e columns p n xs

  -- a place that gets no entry keeps what it has
  module _ (m : ℕ) (d : S) where
    put_other : (e : ℕ → Option S) (o : Option S) (k : ℕ) (xs : List S) → (m ≡ k → ⊥) → get_or (put e o k xs) m d ≡ get_or xs m d
    put_other e (Some x) k xs ne = get_or-set_other xs k m x d ne
    put_other e None k xs ne = refl

    row_other : (e : ℕ → Option S) (base n : ℕ) (xs : List S) → ((j : ℕ) → j < n → m ≡ base + j → ⊥) → get_or (row_laid e base n xs) m d ≡ get_or xs m d
    row_other e base zero xs none = refl
    row_other e base (suc n) xs none =
        put_other e (e n) (base + n) (row_laid e base n xs) (none n (omega arith)) ∙ row_other e base n xs (λ j lt. none j (omega arith))

    pub table_other : (e : ℕ → Option S) (columns p n : ℕ) (xs : List S) → ((i j : ℕ) → i < n → j < columns → m ≡ 64 * p + 8 * i + j → ⊥) →
        get_or (table_laid e columns p n xs) m d ≡ get_or xs m d
    table_other e columns p zero xs none = refl
    table_other e columns p (suc n) xs none =
        row_other (λ j. e (columns * n + j)) (64 * p + 8 * n) columns (table_laid e columns p n xs) (λ j. none n j (omega arith))
        ∙ table_other e columns p n xs (λ i j lt. none i j (omega arith))

  -- a place that gets an entry has it
  module _ (d : S) where
    put_at : (e : ℕ → Option S) (o : Option S) (k : ℕ) (xs : List S) → k < length xs → is_some o ≡ true → o ≡ Some (get_or (put e o k xs) k d)
    put_at e (Some x) k xs room some = ap Some (sym (get_or-set_same xs k x d room))
    put_at e None k xs room some = absurd (false≢true some)

    row_at : (e : ℕ → Option S) (base n : ℕ) (xs : List S) → base + n ≤ length xs → (j : ℕ) → j < n → is_some (e j) ≡ true → e j ≡ Some (get_or (row_laid e base n xs) (base + j) d)
    row_at e base zero xs room j lt some = absurd (omega arith)
    row_at e base (suc n) xs room j lt some = elim (cases_eq j n) [
      | inl same ↦ rw same (put_at e (e n) (base + n) (row_laid e base n xs) (rw row_length (omega arith)) (rw same at some))
      | inr other ↦ row_at e base n xs (omega arith) j (omega arith) some ∙ ap Some (sym (put_other (base + j) d e (e n) (base + n) (row_laid e base n xs) (omega arith)))
    ]

    pub table_at : (e : ℕ → Option S) (columns p n : ℕ) (xs : List S) → columns ≤ 8 → 64 * p + 8 * n ≤ length xs → (i j : ℕ) → i < n → j < columns → is_some (e (columns * i + j)) ≡ true →
        e (columns * i + j) ≡ Some (get_or (table_laid e columns p n xs) (64 * p + 8 * i + j) d)
    table_at e columns p zero xs few room i j above before some = absurd (omega arith)
    table_at e columns p (suc n) xs few room i j above before some = elim (cases_eq i n) [
      | inl same ↦ rw same (row_at (λ k. e (columns * n + k)) (64 * p + 8 * n) columns (table_laid e columns p n xs) (rw table_length (omega arith)) j before (rw same at some))
      | inr other ↦
          table_at e columns p n xs few (omega arith) i j (omega arith) before some
          ∙ ap Some (sym (row_other (64 * p + 8 * i + j) d (λ k. e (columns * n + k)) (64 * p + 8 * n) columns (table_laid e columns p n xs) (λ k lt same. omega arith)))
    ]
