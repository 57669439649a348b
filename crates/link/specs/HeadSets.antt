-- Sets of heads, and what a picker may answer. A head is a number from 1 to 8; every other number is in no set. Assumes nothing.
use Rattle.std.specs.Prelude.{◌≡◌, ℕ, ◌<◌, Bool, true, false, List, [], ◌∷◌}
use Rattle.job.specs.declared.sets.Set.{Set}
use Rattle.job.specs.Sets.{none_of, has, with}

abbrev pub HeadSet : Type 0
HeadSet = Set 1

abbrev pub no_heads : HeadSet
no_heads = none_of 1

abbrev pub has_head : HeadSet → ℕ → Bool
has_head = has 1

abbrev pub with_head : HeadSet → ℕ → HeadSet
with_head = with 1

-- the set of the heads in a list
unfoldable pub heads_in : List ℕ → HeadSet
heads_in [] = no_heads
heads_in (h ∷ hs) = with_head (heads_in hs) h

-- A picker answers a member of the set, or 0 for the empty set.
pub data Picks (s : HeadSet) (h : ℕ) : Type 0 where
  member : has_head s h ≡ true → Picks s h
  nobody : h ≡ 0 → ((g : ℕ) → has_head s g ≡ false) → Picks s h

-- the member with the lowest number: no head below it is in the set; and the one with the highest
pub record PicksLowest (s : HeadSet) (h : ℕ) : Type 0 where
  pub picks : Picks s h
  pub none_lower : (g : ℕ) → g < h → has_head s g ≡ false

pub record PicksHighest (s : HeadSet) (h : ℕ) : Type 0 where
  pub picks : Picks s h
  pub none_higher : (g : ℕ) → h < g → has_head s g ≡ false
