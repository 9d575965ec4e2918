use Rattle.std.proofs.Common.{◌≡◌, List, map, Option, Some, None, option_map, sym, ap, ◌∙◌}
use Rattle.rx_tree.specs.PlainOf.{plain-Item}
use Rattle.rx_resolve_names.specs.declared.table.NumberedName.{NumberedName}
use Rattle.rx_resolve_names.specs.Meant.{type_name, item_named, number_in, variants_of}
use Rattle.rx_resolve.proofs.items.Items.variant.Goals as goal
use Rattle.rx_resolve.proofs.ItemLemmas.{item_absent, variants_there, variants_are_of}

pub returns-in-Some-get : goal.returns-in-Some-get
returns-in-Some-get c = c.number_of.ensures ∙ ap (option_map (λ (k : NumberedName). k.number)) c.get-in-Some-get.ensures
    ∙ ap (λ ds. number_in ds c.args.variant.now) (sym (variants_are_of type_name c.self.inside.items.now c.self.inside.types c.args.name.now c.self.invariant.types_are c.self.invariant.small c.in-Some.known c.in-Some-get.names.now (sym c.in-Some.ensures)
    (ap (λ vs. Rattle.std.proofs.Common.slice_get vs c.in-Some.known.number) (sym c.self.invariant.variants_are) ∙ sym c.in-Some-get.ensures.value)))
    ∙ ap (λ is. number_in (variants_of (item_named type_name 0 (map plain-Item is) c.args.name.now)) c.args.variant.now) c.self.view_is

pub returns-in-None-get : goal.returns-in-None-get
returns-in-None-get c = absurd (variants_there type_name c.self.inside.items.now c.self.inside.types c.args.name.now c.self.invariant.types_are c.self.invariant.small c.in-Some.known (sym c.in-Some.ensures)
    (ap (λ vs. Rattle.std.proofs.Common.slice_get vs c.in-Some.known.number) (sym c.self.invariant.variants_are) ∙ sym c.in-None-get.ensures.value))

pub returns-in-None : goal.returns-in-None
returns-in-None c = ap (λ o. number_in (variants_of o) c.args.variant.now) (sym (item_absent type_name c.self.inside.items.now c.self.inside.types c.args.name.now c.self.invariant.types_are c.self.invariant.small (sym c.in-None.ensures)))
    ∙ ap (λ is. number_in (variants_of (item_named type_name 0 (map plain-Item is) c.args.name.now)) c.args.variant.now) c.self.view_is
