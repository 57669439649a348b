use Rattle.std.proofs.Common.{arith}
use Rattle.link.proofs.Parts.{taking_takes_from_one_part, answering_keeps_the_parts, sending_keeps_the_parts, noticing_keeps_the_parts, stopping_keeps_the_parts}
use Rattle.link.proofs.theorems.bags_stand.Goals as goal

pub returns : goal.returns
returns g c = record {
  answer = omega arith;
  taking = taking_takes_from_one_part _ _;
  answering = answering_keeps_the_parts _ _;
  sending = sending_keeps_the_parts _ _;
  noticing = noticing_keeps_the_parts _ _;
  stopping = stopping_keeps_the_parts _ _;
}
