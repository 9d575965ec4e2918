use Rattle.rx_lex.proofs.NameTests.{read_none, read_more}
use Rattle.std.proofs.lemmas.Str.{IsCharBoundary-from_drop}
use Rattle.rx_lex.proofs.identifier.run_length.Goals as goal

pub loop-length-init : goal.loop-length-init
loop-length-init c = read_none c.args.rest.now c.utf8.rest

pub range_from-requires : goal.range_from-requires
range_from-requires c = λ p. IsCharBoundary-from_drop c.args.rest.now c.loop-length.at c.loop-length.invariant.within c.loop-length.invariant.rest

pub loop-length-preserved : goal.loop-length-preserved
loop-length-preserved c =
    read_more c.loop-length.at c.in-Some.length c.args.rest.now c.range_from.result.now c.range_from.ensures.value c.loop-length.invariant c.in-Some.ensures
