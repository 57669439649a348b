use Rattle.std.proofs.Common.{◌≡◌, ℕ, ◌-◌, ◌≤◌, Bool, true, false, cond, List, length, get_or, take, drop, Some, None, ap, ◌∙◌, arith, ltb-false}
use Rattle.std.proofs.lemmas.List.{take_rest}
use Rattle.std.proofs.lemmas.Bool.{le-leb}
use Rattle.sheet.specs.declared.frame.Kind.{Kind}
use Rattle.sheet.specs.declared.frame.Kind.TheVariants.{Opening, Head, Table, End}
use Rattle.sheet.specs.Hex.{byte}
use Rattle.sheet.specs.Frames.{table, misshapen, unknown, kind_of_byte, of_kind, with_fields, framed}
use Rattle.sheet.proofs.frame.framed.Goals as goal

-- a choice by four tests, of a kind and of what it says
module _ (a b : ℕ) (ds : List ℕ) where
  by_tests : (is_1 is_2 is_3 is_4 : Bool) (kind : Kind) → Some kind ≡ cond is_1 (Some Opening) (cond is_2 (Some Head) (cond is_3 (Some Table) (cond is_4 (Some End) None))) →
      of_kind kind a b ds ≡ cond is_1 (of_kind Opening a b ds) (cond is_2 (of_kind Head a b ds) (cond is_3 (table a b ds) (cond is_4 (misshapen End) unknown)))
  by_tests true is_2 is_3 is_4 kind e = let is : kind ≡ Opening = cc in ap (λ k. of_kind k a b ds) is
  by_tests false true is_3 is_4 kind e = let is : kind ≡ Head = cc in ap (λ k. of_kind k a b ds) is
  by_tests false false true is_4 kind e = let is : kind ≡ Table = cc in ap (λ k. of_kind k a b ds) is
  by_tests false false false true kind e = let is : kind ≡ End = cc in ap (λ k. of_kind k a b ds) is
  by_tests false false false false kind e = absurd (let o : ◌≡◌ {A = ℕ} 0 1 = cc in omega arith)

  by_byte : (k : ℕ) (kind : Kind) → Some kind ≡ kind_of_byte k → of_kind kind a b ds ≡ with_fields k a b ds
  by_byte k kind e = by_tests _ _ _ _ kind e

full : (ds : List ℕ) (kind : Kind) → 6 ≤ length ds → Some kind ≡ kind_of_byte (byte (get_or ds 0 0) (get_or ds 1 0)) →
    of_kind kind (byte (get_or ds 2 0) (get_or ds 3 0)) (byte (get_or ds 4 0) (get_or ds 5 0)) (take (length ds - 6) (drop 6 ds)) ≡ framed ds
full ds kind h e = rw (take_rest ds 6, le-leb 6 (length ds) h) (by_byte _ _ _ (byte (get_or ds 0 0) (get_or ds 1 0)) kind e)

pub returns-in-Some-of_byte : goal.returns-in-Some-of_byte
returns-in-Some-of_byte c =
    let fields = rw (c.byte-in-Some-of_byte.ensures, c.byte-in-Some-of_byte-2.ensures) at c.from_fields.ensures in
    fields ∙ full c.args.digits.now c.in-Some-of_byte.kind (omega (arith, ltb-false)) (rw c.byte-in-len6-up.ensures at c.in-Some-of_byte.ensures)
