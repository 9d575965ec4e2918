use Rattle.std.proofs.Common.{◌≡◌, rules, arith}
use Rattle.std.proofs.lemmas.Grind.{common_steps}
use Rattle.rx_tree.specs.PlainOf.{plain-Program}
use Rattle.rx_print_spelling.specs.Items.{print_program}
use Rattle.rx_print.proofs.ReadBack.{written_parses}
use Rattle.rx_print.proofs.items.print.Goals as goal

pub returns-clause-parses : goal.returns-clause-parses
returns-clause-parses c =
    let e : c.push_items.new.out ≡ print_program (plain-Program c.args.program.now) = first_of (cc, search rules, grind (arith, common_steps)) in
    written_parses c.push_items.new.out (plain-Program c.args.program.now) e
