use Rattle.std.proofs.Common.{map, ap, ◌∙◌}
use Rattle.rx_tree.specs.PlainOf.{plain-Item}
use Rattle.rx_resolve_names.specs.Meant.{function_name, item_named, as_function}
use Rattle.rx_resolve.proofs.items.Items.function.Goals as goal
use Rattle.rx_resolve.proofs.ItemLemmas.{function_number}

pub returns : goal.returns
returns c = c.number_of.ensures ∙ function_number function_name c.self.inside.items.now c.self.inside.functions c.args.name.now c.self.invariant.functions_are c.self.invariant.small c.get.result c.get.ensures
    ∙ ap (λ is. as_function (item_named function_name 0 (map plain-Item is) c.args.name.now)) c.self.view_is
