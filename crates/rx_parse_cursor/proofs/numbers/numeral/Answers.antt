use Rattle.std.proofs.Common.{sym}
use Rattle.rx_parse_grammar.proofs.NumberLaws.{numeral_complete}
use Rattle.rx_parse_cursor.proofs.NumberLemmas.{no_numeral}
use Rattle.rx_parse_cursor.proofs.numbers.numeral.Goals as goal

pub returns-in-Some : goal.returns-in-Some
returns-in-Some c = sym (numeral_complete c.args.text.now c.in-Some.number.value c.in-Some.number.suffix c.in-Some.ensures.some c.in-Some.ensures.fits)

pub returns-in-None : goal.returns-in-None
returns-in-None c = no_numeral c.args.text.now c.in-None.ensures.none
