use Rattle.std.proofs.Common.{◌≡◌, length, ap, ◌∙◌, arith, rules}
use Rattle.answer.proofs.Cursors.{written_front}
use Rattle.answer.proofs.Telling.{outcome_few, answer_written}
use Rattle.answer.proofs.write.write.Goals as goal

pub put_count-requires : goal.put_count-requires
put_count-requires g c =
    let long : length c.new-lines.result.out.now ≡ length c.args.out.now = ap length c.new-lines.ensures.memory in
    let few = outcome_few g.met.S.Scale.coded c.heads.result c.outcome.result in
    omega (arith, few, c.put_outcome.ensures.written.end_is, c.put_outcome.ensures.room, c.new-lines.ensures.front, long)

pub returns : goal.returns
returns g c =
    let done = answer_written g.met.S.Scale.coded c.args.ended c.heads.result _ c.outcome.result c.heads.ensures (omega arith) c.outcome.ensures c.put_outcome.ensures c.put_count.ensures in
    let all = written_front c.new-lines.ensures.front c.new-lines.ensures.memory done in
    let same = done.same_memory ∙ c.new-lines.ensures.same_memory in
    (omega arith, c.end.ensures ∙ all.0, search (rules, same, all.1))
