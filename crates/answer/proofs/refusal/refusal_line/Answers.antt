use Rattle.std.proofs.Common.{◌∙◌, rules}
use Rattle.answer.proofs.Cursors.{puts_then, written_front}
use Rattle.answer.proofs.refusal.refusal_line.Goals as goal

pub returns : goal.returns
returns c =
    let done = puts_then c.put_bytes.ensures c.end_line.ensures in
    let line = (written_front c.new-lines.ensures.front c.new-lines.ensures.memory done).1 in
    let same = done.same_memory ∙ c.new-lines.ensures.same_memory in
    let told = simp (c.number.ensures, c.to_be_bytes.ensures) at line in
    search (rules, same, told)
