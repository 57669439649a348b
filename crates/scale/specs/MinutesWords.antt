-- Minutes in words, as the bytes of their text. Assumes nothing.
use Rattle.std.specs.Prelude.{ℕ, cond, List, ◌++◌, codes, decimal, ◌==◌}
use Rattle.scale.specs.declared.minutes.Minutes.{Minutes}

-- the word after a number of minutes, and both: "1 minute", "17 minutes"
abbrev pub minutes_noun : ℕ → List ℕ
minutes_noun n = cond (n == 1) (codes "minute") (codes "minutes")

abbrev pub minutes_counted : ℕ → List ℕ
minutes_counted n = decimal n ++ (codes " " ++ minutes_noun n)

abbrev pub minutes_words : Minutes → List ℕ
minutes_words x = cond (x.value == 1000000000) (codes "never") (minutes_counted x.value)
