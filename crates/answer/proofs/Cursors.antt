-- One write after another. Assumes nothing.
use Rattle.std.proofs.Common.{◌≡◌, ℕ, ◌+◌, ◌-◌, ◌*◌, ◌/◌, ◌%◌, ◌<◌, ◌≤◌, List, [], ◌∷◌, ◌++◌, length, get_or, take, drop, set, sym, refl, ap, ◌∙◌, subst, ap₂, append_assoc, append-nil, arith, length-append, length-set}
use Rattle.std.proofs.lemmas.List.{take_more, take_more_set, drop-set-lt, drop-drop, take-append-drop, flat_map_more}
use Rattle.answer.specs.Hex.{digit, pair, hex}
use Rattle.answer.specs.declared.hex.Lines.{Lines}
use Rattle.answer.specs.Cursors.{Written, Puts}

-- what lies past a place stays when the place moves on
past : (xs ys : List ℕ) (m n : ℕ) → m ≤ n → drop m xs ≡ drop m ys → drop n xs ≡ drop n ys
past xs ys m n le e =
    let at : m + (n - m) ≡ n = omega arith in
    rw (← at) (sym (drop-drop (n - m) m xs) ∙ ap (drop (n - m)) e ∙ drop-drop (n - m) m ys)

pub written_none : (xs : List ℕ) (at : ℕ) → Written xs at [] at xs
written_none xs at = record { end_is = omega arith; front = sym (append-nil (take at xs)); back = refl }

pub written_then : {xs ys zs bs cs : List ℕ} {at mid end : ℕ} → Written xs at bs mid ys → Written ys mid cs end zs → Written xs at (bs ++ cs) end zs
written_then {xs} {ys} {zs} {bs} {cs} {at} {mid} {end} p q = record {
  end_is = omega (arith, p.end_is, q.end_is, length-append bs cs);
  front = q.front ∙ ap (λ (l : List ℕ). l ++ cs) p.front ∙ append_assoc (take at xs) bs cs;
  back = q.back ∙ past ys xs mid end (omega (arith, q.end_is)) p.back;
}

pub puts_then : {a b d : Lines} {bs cs : List ℕ} → Puts a bs b → Puts b cs d → Puts a (bs ++ cs) d
puts_then p q = record { written = written_then p.written q.written; room = q.room ∙ p.room; same_memory = q.same_memory ∙ p.same_memory }

pub written_one : (xs : List ℕ) (at b : ℕ) → at < length xs → Written xs at (b ∷ []) (at + 1) (set xs at b)
written_one xs at b lt = record { end_is = refl; front = take_more_set xs at b lt; back = drop-set-lt (at + 1) xs at b (omega arith) }

-- all that is put from the front on, where the memory held `before`
pub written_front : {a b : Lines} {bs before : List ℕ} → a.end ≡ 0 → a.out.now ≡ before → Puts a bs b → (b.end ≡ length bs) × (b.out.now ≡ bs ++ drop (length bs) before)
written_front {a} {b} {bs} {before} zero_is was p =
    let e : b.end ≡ length bs = omega (arith, p.written.end_is) in
    let front : take b.end b.out.now ≡ bs = p.written.front ∙ ap (λ (n : ℕ). take n a.out.now ++ bs) zero_is in
    (e, sym (take-append-drop b.end b.out.now) ∙ ap₂ ◌++◌ front (p.written.back ∙ ap₂ drop e was))

pub hex_length : (bs : List ℕ) → length (hex bs) ≡ 2 * length bs
hex_length [] = refl
hex_length (b ∷ bs) = omega (arith, hex_length bs)

pub hex_more : (bs : List ℕ) (i : ℕ) → i < length bs → hex (take (i + 1) bs) ≡ hex (take i bs) ++ pair (get_or bs i 0)
hex_more bs i lt = ap hex (take_more bs i 0 lt) ∙ sym (flat_map_more pair [] (take i bs) (get_or bs i 0))

pub written_pair : (xs : List ℕ) (at b x y : ℕ) → at + 2 ≤ length xs → x ≡ digit (b / 16) → y ≡ digit (b % 16) → Written xs at (pair b) (at + 2) (set (set xs at x) (at + 1) y)
written_pair xs at b x y room e f =
    let two : at + 1 + 1 ≡ at + 2 = omega arith in
    let is : x ∷ y ∷ [] ≡ pair b = ap₂ (λ (m n : ℕ). m ∷ n ∷ []) e f in
    subst (λ (bs : List ℕ). Written xs at bs (at + 2) (set (set xs at x) (at + 1) y)) is
    (subst (λ (n : ℕ). Written xs at (x ∷ y ∷ []) n (set (set xs at x) (at + 1) y)) two
    (written_then (written_one xs at x (omega arith)) (written_one (set xs at x) (at + 1) y (simp length-set (omega arith)))))
