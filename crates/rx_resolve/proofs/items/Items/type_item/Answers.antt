use Rattle.std.proofs.Common.{map, length, refl, sym, ap, ◌∙◌}
use Rattle.std.proofs.lemmas.Option.{slice_get_read, slice_get_past}
use Rattle.rx_tree.specs.PlainOf.{plain-Item}
use Rattle.rx_resolve_names.specs.Meant.{type_name, item_named}
use Rattle.rx_resolve.proofs.items.Items.type_item.Goals as goal
use Rattle.rx_resolve.proofs.ItemLemmas.{item_absent, item_is, item_there}

pub returns-in-Some-get : goal.returns-in-Some-get
returns-in-Some-get c = sym (item_is type_name c.self.inside.items.now c.self.inside.types c.args.name.now c.self.invariant.types_are c.self.invariant.small c.in-Some.known c.in-Some-get.item.now (sym c.in-Some.ensures) (slice_get_read c.self.inside.items.now (length c.self.inside.items.now) c.in-Some.known.number c.in-Some-get.item.now refl c.in-Some-get.ensures.lookup.3.0 c.in-Some-get.ensures.lookup.1))
    ∙ ap (λ is. item_named type_name 0 (map plain-Item is) c.args.name.now) c.self.view_is

pub returns-in-None-get : goal.returns-in-None-get
returns-in-None-get c = absurd (item_there type_name c.self.inside.items.now c.self.inside.types c.args.name.now c.self.invariant.types_are c.self.invariant.small c.in-Some.known (sym c.in-Some.ensures) (slice_get_past c.self.inside.items.now c.in-Some.known.number c.in-None-get.ensures.lookup.3))

pub returns-in-None : goal.returns-in-None
returns-in-None c = sym (item_absent type_name c.self.inside.items.now c.self.inside.types c.args.name.now c.self.invariant.types_are c.self.invariant.small (sym c.in-None.ensures))
    ∙ ap (λ is. item_named type_name 0 (map plain-Item is) c.args.name.now) c.self.view_is
