use Rattle.rx_tree.specs.PlainOf.{plain-Program}
use Rattle.rx_engine_extraction.proofs.Starting.{is_text}
use Rattle.rx_engine_extraction.proofs.extraction.extract_checked.Goals as goal

pub tokens_of-requires : goal.tokens_of-requires
tokens_of-requires g c = (c.requires.parses.tokens, c.requires.parses.lexed)

pub extracted-requires-clause-text : goal.extracted-requires-clause-text
extracted-requires-clause-text g c = c.requires.parses.lexed.text

pub returns : goal.returns
returns g c = record {
  verdict = c.extracted.ensures.verdict c.args.text.now
      (is_text c.args.text.now c.in-Ok.tokens (plain-Program c.args.program.now) c.front.result.now c.args.checked.now c.requires.parses c.requires.checked
      c.front.ensures c.in-Ok.ensures.found);
}
