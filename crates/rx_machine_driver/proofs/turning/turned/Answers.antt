use Rattle.std.proofs.Common.{map, reverse, ap, sym, ◌∙◌}
use Rattle.rx_machine_values.specs.PlainValues.{plain-Value}
use Rattle.rx_machine_driver.proofs.BindLemmas.{turned_is}
use Rattle.rx_machine_driver.proofs.turning.turned.Goals as goal

pub returns : goal.returns
returns c =
    turned_is c.args.arguments
    ∙ ap (λ l. reverse (map plain-Value l)) (sym (c.from_vec.ensures ∙ c.reverse.ensures.items ∙ ap reverse c.into_vec-items.ensures))
