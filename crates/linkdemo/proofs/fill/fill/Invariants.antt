use Rattle.std.proofs.Common.{◌≡◌, ◌++◌, take}
use Rattle.problem.specs.Bags.{Same}
use Rattle.linkdemo.proofs.fill.fill.Given as goal

abbrev pub invariant-loop-message : goal.invariant-loop-message
invariant-loop-message g l =
    (g.L.Link.limit l.link ≡ g.L.Link.limit l.initial.link) × Same (g.L.Link.bag l.initial.link ++ take l.message-index l.messages) (g.L.Link.bag l.link)
