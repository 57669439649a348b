use Rattle.std.proofs.Common.{◌≡◌, ℕ, ◌+◌, ◌-◌, ◌*◌, take, drop, ◌∙◌, ap₂, arith}
use Rattle.scale.specs.Coding.{reading}
use Rattle.sheet.specs.Hex.{bytes}
use Rattle.sheet.specs.Tables.{entered}
use Rattle.sheet.proofs.table.Table.entry.Goals as goal

pub returns : goal.returns
returns g c =
    let w = c.WIDTH-width.result in
    let coding = g.S.Scale.coding in
    let n = c.args.self.now.shape.columns * c.args.row + c.args.column in
    let is : w ≡ coding.width = c.WIDTH-width.ensures ∙ g.met.S.Scale.wide in
    let long : 2 * w * n + 2 * w - 2 * w * n ≡ 2 * coding.width = omega arith in
    let from : 2 * w * n ≡ 2 * coding.width * n = rw is in
    c.cost_of.ensures ∙ ap₂ (λ (k i : ℕ). entered coding.enterable (reading coding (bytes (take k (drop i c.args.self.now.digits.now))))) long from
