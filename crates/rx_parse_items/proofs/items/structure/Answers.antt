-- The struct that is made is the parser's: where it starts is said for any number of levels, and is wanted at this one.
use Rattle.std.proofs.Common.{◌≡◌, option_map, rules, arith}
use Rattle.std.proofs.lemmas.Grind.{common_steps}
use Rattle.rx_lex.specs.Tok.{tok}
use Rattle.rx_parse_grammar.specs.parser.Items.{structure, start_of}
use Rattle.rx_parse_items.proofs.items.structure.Goals as goal

pub returns : goal.returns
unfolding structure
returns c =
    let s : c.start_of.result ≡ start_of c.args.depth (option_map tok c.args.mark) (tok c.in_ok-token.token) = c.start_of.ensures c.args.depth in
    first_of (search rules, grind (arith, common_steps))
