-- Writing into lent memory from a place on. Assumes nothing.
use Rattle.std.specs.Prelude.{◌≡◌, ℕ, ◌+◌, List, ◌++◌, length, take, drop}
use Rattle.answer.specs.declared.hex.Lines.{Lines}

-- Bytes bs stand from the place `at` on, up to `end`; what stands before and after them is as it was.
pub record Written (before : List ℕ) (at : ℕ) (bs : List ℕ) (end : ℕ) (after : List ℕ) : Type 0 where
  pub end_is : end ≡ at + length bs
  pub front : take end after ≡ take at before ++ bs
  pub back : drop end after ≡ drop end before

-- Bytes bs were put after what there was, in the same memory.
pub record Puts (old : Lines) (bs : List ℕ) (new : Lines) : Type 0 where
  pub written : Written old.out.now old.end bs new.end new.out.now
  pub room : length new.out.now ≡ length old.out.now
  pub same_memory : new.out.ghost_name ≡ old.out.ghost_name
