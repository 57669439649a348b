-- What a line says: its first two digits are a byte that tells the kind of the frame, then come fields of one byte each, and in a
-- table the digits of the entries. Assumes nothing.
use Rattle.std.specs.Prelude.{ℕ, Bool, cond, List, [], ◌∷◌, length, drop, Some, None, Option, ◌==◌, nat_le, slice_index}
use Rattle.std.specs.Str.{bytes_eq}
use Rattle.sheet.specs.Hex.{byte}
use Rattle.sheet.specs.Lines.{front}
use Rattle.sheet.specs.declared.frame.Kind.{Kind}
use Rattle.sheet.specs.declared.frame.Kind.TheVariants.{Opening as KindOpening, Head as KindHead, Table as KindTable, End as KindEnd}
use Rattle.sheet.specs.declared.frame.Frame.{Frame}
use Rattle.sheet.specs.declared.frame.Frame.TheVariants.{Opening, Head, Table, End, Misshapen, Unknown}

-- a frame without the place where its digits stand
pub data Said : Type 0 where
  opening : ℕ → ℕ → Said
  head : ℕ → ℕ → Said
  table : ℕ → ℕ → List ℕ → Said
  end : Said
  -- a frame of this kind, but not of its length
  misshapen : Kind → Said
  unknown : Said

abbrev pub said : Frame → Said
said (Opening heads scale) = opening heads scale
said (Head h setups) = head h setups
said (Table a b digits) = table a b digits.now
said End = end
said (Misshapen kind) = misshapen kind
said Unknown = unknown

-- the kind of a frame, where it is known
abbrev pub kind : Said → Option Kind
kind (opening heads scale) = Some KindOpening
kind (head h setups) = Some KindHead
kind (table a b digits) = Some KindTable
kind end = Some KindEnd
kind (misshapen k) = Some k
kind unknown = None

-- the end of a sheet is the three bytes 30 34 0A
abbrev pub is_end : List ℕ → Bool
is_end l = bytes_eq l (48 ∷ 52 ∷ 10 ∷ [])

-- the kinds, by the byte that tells them
abbrev pub kind_of_byte : ℕ → Option Kind
kind_of_byte k = cond (k == 1) (Some KindOpening) (cond (k == 2) (Some KindHead) (cond (k == 3) (Some KindTable) (cond (k == 4) (Some KindEnd) None)))

-- digits of a kind with two fields a and b, and the digits after them
abbrev pub of_kind : Kind → ℕ → ℕ → List ℕ → Said
of_kind KindOpening a b ds = cond (length ds == 0) (opening a b) (misshapen KindOpening)
of_kind KindHead a b ds = cond (length ds == 0) (head a b) (misshapen KindHead)
of_kind KindTable a b ds = table a b ds
of_kind KindEnd a b ds = misshapen KindEnd

-- digits of kind k with two fields a and b, and the digits after them
abbrev pub with_fields : ℕ → ℕ → ℕ → List ℕ → Said
with_fields k a b ds =
    cond (k == 1) (cond (length ds == 0) (opening a b) (misshapen KindOpening))
    (cond (k == 2) (cond (length ds == 0) (head a b) (misshapen KindHead))
    (cond (k == 3) (table a b ds)
    (cond (k == 4) (misshapen KindEnd) unknown)))

-- digits of kind k without room for two fields
abbrev pub without_fields : ℕ → Said
without_fields k =
    cond (k == 1) (misshapen KindOpening)
    (cond (k == 2) (misshapen KindHead)
    (cond (k == 3) (misshapen KindTable)
    (cond (k == 4) (misshapen KindEnd) unknown)))

abbrev pub framed : List ℕ → Said
framed ds =
    cond (nat_le 6 (length ds))
    (with_fields (byte (slice_index ds 0) (slice_index ds 1)) (byte (slice_index ds 2) (slice_index ds 3)) (byte (slice_index ds 4) (slice_index ds 5)) (drop 6 ds))
    (cond (nat_le 2 (length ds)) (without_fields (byte (slice_index ds 0) (slice_index ds 1))) unknown)

-- the frame of a line
abbrev pub frame_of : List ℕ → Said
frame_of l = cond (is_end l) end (framed (front l))
