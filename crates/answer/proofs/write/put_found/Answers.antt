use Rattle.std.proofs.Common.{◌∙◌, take, arith, length-take}
use Rattle.answer.proofs.Cursors.{hex_length}
use Rattle.answer.proofs.Telling.{found_written}
use Rattle.answer.proofs.write.put_found.Goals as goal

pub put_bytes-requires-3 : goal.put_bytes-requires-3
put_bytes-requires-3 g c =
    let xs = take c.min.result c.setups.result in
    let ys = c.write.new.out in
    omega (arith, c.put_bytes.ensures.written.end_is, c.put_bytes-2.ensures.written.end_is, hex_length xs, length-take c.min.result c.setups.result, c.min.ensures, length-take c.WIDTH.result ys, c.WIDTH.ensures, g.met.S.Scale.wide, g.met.S.Scale.coded.few)

pub end_line-requires : goal.end_line-requires
end_line-requires g c =
    let xs = take c.min.result c.setups.result in
    let ys = c.write.new.out in
    omega (arith, c.put_bytes.ensures.written.end_is, c.put_bytes-2.ensures.written.end_is, c.put_bytes-3.ensures.written.end_is, hex_length xs, length-take c.min.result c.setups.result, c.min.ensures, hex_length (take c.WIDTH.result ys), length-take c.WIDTH.result ys, c.WIDTH.ensures, g.met.S.Scale.wide, g.met.S.Scale.coded.few)

pub returns : goal.returns
returns g c =
    found_written g.met.S.Scale.coded c.args.heads c.min.result c.WIDTH.result c.args.found c.setups.result c.write.new.out
    c.setups.ensures c.min.ensures (c.WIDTH.ensures ∙ g.met.S.Scale.wide) c.write.ensures.memory
    c.put_bytes.ensures c.put_bytes-2.ensures c.put_bytes-3.ensures c.end_line.ensures
