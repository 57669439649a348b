-- A setup's number in decimal is read as that setup. Assumes nothing.
use Rattle.std.proofs.Common.{◌≡◌, ℕ, ◌<◌, List, Ok, decimal, Result, sym, refl, ◌∙◌, arith}
use Rattle.std.specs.Str.Parse.{ParsesUnsigned}
use Rattle.std.proofs.lemmas.Fmt.{parse-decimal}
use Rattle.std.proofs.lemmas.Result.{MatchResult-at_ok}
use Rattle.job.specs.declared.job.Job.{Job}
use Rattle.job.specs.Plans.{setups}
use Rattle.problem.proofs.Naming.{setups_few}

module _ {E : Type 0} (j : Job) (h : ℕ) (word : List ℕ) (parsed : Result ℕ E) (reads : ParsesUnsigned 32 10 word parsed) where
  pub setup_parses : (i : ℕ) → i < setups j h → word ≡ decimal i → parsed ≡ Ok i
  setup_parses i own e = parse-decimal 32 i word parsed (omega (arith, setups_few j h)) (omega (arith, setups_few j h)) e reads

  pub parsed_setup_is : (n : ℕ) → parsed ≡ Ok n → (i : ℕ) → i < setups j h → word ≡ decimal i → n ≡ i
  parsed_setup_is n is i own e = MatchResult-at_ok (λ y. n ≡ y) (λ _. Unit {0}) i (sym is ∙ setup_parses i own e) refl
