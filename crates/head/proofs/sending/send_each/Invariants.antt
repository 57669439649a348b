use Rattle.link.specs.HeadSets.{has_head}
use Rattle.head.proofs.EachHead.{SentBelow}
use Rattle.head.proofs.sending.send_each.Given as goal

abbrev pub invariant-loop-h : goal.invariant-loop-h
invariant-loop-h g l =
    SentBelow l.message (has_head l.heads) (g.L.Link.limit l.initial.link) (g.L.Link.bag l.initial.link) l.h l.lost (g.L.Link.limit l.link) (g.L.Link.bag l.link)
