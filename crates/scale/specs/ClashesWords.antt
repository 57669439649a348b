-- Clashes and minutes in words, as the bytes of their text. Assumes nothing.
use Rattle.std.specs.Prelude.{ℕ, cond, List, ◌++◌, codes, decimal, ◌==◌}
use Rattle.scale.specs.MinutesWords.{minutes_counted}
use Rattle.scale.specs.declared.clashes.Clashes.{Clashes}

-- the word after a number of clashes
abbrev pub clashes_noun : ℕ → List ℕ
clashes_noun n = cond (n == 1) (codes "clash") (codes "clashes")

-- "1 clash and 17 minutes", "2 clashes and 1 minute"
abbrev pub both_counted : ℕ → ℕ → List ℕ
both_counted c m = decimal c ++ (codes " " ++ (clashes_noun c ++ (codes " and " ++ minutes_counted m)))

abbrev pub clashes_words : Clashes → List ℕ
clashes_words x = cond (x.clashes == 1000) (codes "never") (both_counted x.clashes x.minutes)
