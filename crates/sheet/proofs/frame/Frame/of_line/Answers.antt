use Rattle.std.proofs.Common.{◌≡◌, ℕ, cond, List, [], ◌∷◌, Some, None, Option, sym, refl, ap, ◌∙◌}
use Rattle.std.proofs.lemmas.Slice.Eq.{bytes_eq-Decides}
use Rattle.job.specs.Lists.{every}
use Rattle.sheet.specs.Lines.{is_line}
use Rattle.sheet.specs.Frames.{Said, end, frame_of}
use Rattle.sheet.proofs.frame.Frame.of_line.Goals as goal

abbrev framed_line : List ℕ → Option Said
framed_line l = cond (is_line l) (Some (frame_of l)) None

end_line : framed_line (48 ∷ 52 ∷ 10 ∷ []) ≡ Some end
unfolding every
end_line = refl

pub returns-then-is_end_line : goal.returns-then-is_end_line
returns-then-is_end_line c =
    let is = (bytes_eq-Decides c.args.line.now (48 ∷ 52 ∷ 10 ∷ [])).0 (sym c.if-is_end_line.ensures) in
    sym end_line ∙ ap framed_line (sym is)
