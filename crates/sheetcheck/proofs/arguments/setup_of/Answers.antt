use Rattle.std.proofs.Common.{Ok, ap, arith}
use Rattle.sheetcheck.proofs.Parsing.{setup_parses, parsed_setup_is}
use Rattle.sheetcheck.proofs.arguments.setup_of.Goals as goal

pub returns-in_default-clause-named : goal.returns-in_default-clause-named
returns-in_default-clause-named c = λ i own e. absurd (c.in_default.not-Ok i (setup_parses c.args.job.now c.args.head c.args.word.now _ c.parse.ensures.value.0 i own e))

pub returns-then-given-from-clause-named : goal.returns-then-given-from-clause-named
returns-then-given-from-clause-named c = λ i own e. absurd (omega (arith, parsed_setup_is c.args.job.now c.args.head c.args.word.now _ c.parse.ensures.value.0 _ c.in-Ok.is i own e))

pub returns-clause-named : goal.returns-clause-named
returns-clause-named c = λ i own e. ap Ok (parsed_setup_is c.args.job.now c.args.head c.args.word.now _ c.parse.ensures.value.0 _ c.in-Ok.is i own e)
