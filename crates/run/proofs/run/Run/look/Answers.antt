use Rattle.std.proofs.Common.{sym, refl, ap, ◌∙◌, arith}
use Rattle.run.specs.declared.run.Run.{Run}
use Rattle.run.proofs.Theorem.{every_run_stands}
use Rattle.run.proofs.run.Run.look.Goals as goal

pub returns : goal.returns
returns g c = record {
  does = record { out = refl; waiting = omega arith; count = refl };
  keeps = λ first w k e b h.
      let whole = every_run_stands g.met.S.Scale.lawful first w k h in
      (whole, sym (ap (λ (r : Run). r.count) e) ∙ whole.counted);
}
