use Rattle.std.proofs.Common.{◌≡◌, true, false, rules, arith}
use Rattle.std.proofs.lemmas.Grind.{common_steps}
use Rattle.rx_parse_grammar.specs.grammar.Words.{is_index}
use Rattle.rx_parse_cursor.proofs.NumberLemmas.{found_index, no_index, not_index}
use Rattle.rx_parse_cursor.proofs.numbers.index_value.Goals as goal

pub returns-then-not-is_index : goal.returns-then-not-is_index
returns-then-not-is_index c =
    let i : is_index c.args.text.now ≡ false = first_of (cc, search rules, grind (arith, common_steps)) in
    not_index c.args.text.now i

pub returns-in-Some : goal.returns-in-Some
returns-in-Some c =
    let i : is_index c.args.text.now ≡ true = first_of (cc, search rules, grind (arith, common_steps)) in
    found_index c.args.text.now c.in-Some.number.value c.in-Some.number.suffix i c.in-Some.ensures.some c.in-Some.ensures.fits

pub returns-in-None : goal.returns-in-None
returns-in-None c = no_index c.args.text.now c.in-None.ensures.none
