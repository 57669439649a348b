-- What a scale of costs is: two marked values, a join and an order, and the laws that every scale shows. The layers above are
-- proved from these laws alone, so a new scale owes nothing else. Assumes nothing.
use Rattle.std.specs.Prelude.{◌≡◌, Bool, true, false}

pub record Operations (S : Type 0) : Type 0 where
  -- what no pair of setups at all costs, and what may not be sewn
  pub nothing : S
  pub never : S
  pub join : S → S → S
  -- whether the first is at most the second
  pub leq : S → S → Bool

-- x is at most y
abbrev pub AtMost : {S : Type 0} → Operations S → S → S → Type 0
AtMost s x y = s.leq x y ≡ true

pub record Laws {S : Type 0} (s : Operations S) : Type 0 where
  -- the order is total, with nothing least and never greatest
  pub total : (x y : S) → s.leq x y ≡ false → AtMost s y x
  pub transitive : (x y z : S) → AtMost s x y → AtMost s y z → AtMost s x z
  pub antisymmetric : (x y : S) → AtMost s x y → AtMost s y x → x ≡ y
  pub least : (x : S) → AtMost s s.nothing x
  pub greatest : (x : S) → AtMost s x s.never
  -- join is commutative and associative, joining nothing changes nothing, and joining keeps the order
  pub commutative : (x y : S) → s.join x y ≡ s.join y x
  pub associative : (x y z : S) → s.join (s.join x y) z ≡ s.join x (s.join y z)
  pub neutral : (x : S) → s.join s.nothing x ≡ x
  pub monotone : (x y z : S) → AtMost s x y → AtMost s (s.join x z) (s.join y z)
