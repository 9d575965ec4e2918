-- By the laws of plans, of extractions and of texts.
use Rattle.std.proofs.Common.{[]}
use Rattle.rx_engine_extraction.specs.Made.{run_of, named}
use Rattle.rx_engine_extraction.proofs.Ends.{block_function}
use Rattle.rx_engine_extraction.proofs.laws.calls_are_formed.Goals as goal

pub returns : goal.returns
returns c = λ T bytes names lexed parsed short meant typed w d selects word seated listed agree few.
    let at = block_function T.program d.run.function d.run.block.path selects.block selects.at in
    c.extractions_are_formed.ensures T.program (run_of d.run) (named T w d) [] at.0 at.1
    (c.texts_are_formed.ensures bytes parsed.tokens T.program parsed.height parsed.lexed parsed.derived)
    (c.plans_are_formed.ensures.formed T bytes names lexed parsed short meant typed w d selects word seated listed agree few) at.2
    (c.plans_are_formed.ensures.value T w d selects listed at.0 at.1 at.2)
