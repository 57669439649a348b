-- A sheet that was read to its end has a job. Assumes nothing.
use Rattle.std.proofs.Common.{◌≡◌, ℕ, ◌≤◌, true, ◌&&◌, leb, length, get_or, take, arith}
use Rattle.std.proofs.lemmas.List.{get_or-take, length-take-le}
use Rattle.std.proofs.lemmas.Bool.{false≢true, and_from, le-leb}
use Rattle.job.specs.Plans.{are_counts}
use Rattle.job.proofs.Lists.{every_at_places}
use Rattle.sheet.specs.declared.progress.Progress.{Progress}
use Rattle.sheet.specs.declared.progress.Stage.{Stage}
use Rattle.sheet.specs.declared.progress.Stage.TheVariants.{Start, Heads, Tables, Ended}
use Rattle.sheet.specs.Known.{Staged, Sound}
use Rattle.sheet.specs.Sheets.{is_ended}

ended_staged : (stage : Stage) (heads known : ℕ) → is_ended stage ≡ true → Staged stage heads known → (known ≡ heads) × (1 ≤ heads)
ended_staged Start heads known e h = absurd (false≢true e)
ended_staged Heads heads known e h = absurd (false≢true e)
ended_staged Tables heads known e h = absurd (false≢true e)
ended_staged Ended heads known e h = h

pub counts_lawful : (s : Progress) → Sound s → is_ended s.stage ≡ true → length s.setups ≡ 8 → are_counts (take s.heads s.setups) ≡ true
counts_lawful s sound e room =
    let staged = ended_staged s.stage s.heads s.known e sound.staged in
    let long : length (take s.heads s.setups) ≡ s.heads = length-take-le s.heads s.setups (omega (arith, sound.few)) in
    and_from _ _ (rw long (and_from (leb 1 s.heads) (leb s.heads 8) (le-leb _ _ (omega arith)) (le-leb _ _ sound.few)))
    (every_at_places (λ d. leb 1 d && leb d 8) (take s.heads s.setups) 0 (λ k lt.
    let same : get_or (take s.heads s.setups) k 0 ≡ get_or s.setups k 0 = get_or-take s.heads s.setups k 0 (omega arith) in
    let each = sound.each k (omega arith) in
    rw same (and_from _ _ (le-leb _ _ each.0) (le-leb _ _ each.1))))
