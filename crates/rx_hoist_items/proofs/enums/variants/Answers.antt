use Rattle.std.proofs.Common.{◌≡◌, ◌+◌, List, map, drop, ap, ◌∙◌}
use Rattle.rx_tree.specs.declared.tree.EnumVariant.{EnumVariant}
use Rattle.rx_tree.specs.PlainOf.{plain-EnumVariant, plain-Program}
use Rattle.rx_hoist_plan.specs.declared.plan.Leaving.{Leaving}
use Rattle.rx_hoist_plan.specs.PlainPlan.{plain-Leaving, plain-Plan}
use Rattle.rx_hoist_extraction.specs.WrittenTypes.{positions_of}
use Rattle.rx_hoist_extraction.specs.NewEnum.{fields_at}
use Rattle.rx_hoist_made.specs.Rows.{nth_name}
use Rattle.rx_hoist_made.proofs.Dropped.{drop_is, held_ok, mapped_on, on_ok}
use Rattle.rx_hoist_items.specs.Signatures as signatures
use Rattle.rx_hoist_items.proofs.SignatureLemmas.{next_variant}
use Rattle.rx_hoist_items.proofs.enums.variants.Goals as goal

pub loop-leaving-preserved : goal.loop-leaving-preserved
loop-leaving-preserved c =
    let P = plain-Program c.args.program.now in
    let pl = plain-Plan c.args.plan.now in
    let row = c.loop-leaving.row in
    let more = c.variant.new.row in
    let x = plain-Leaving c.leaving-item.result in
    let left = map plain-Leaving (drop (c.loop-leaving.leaving-index + 1) c.args.exits.now) in
    let cut = drop_is c.args.exits.now c.loop-leaving.leaving-index c.leaving-item.result c.loop-leaving-test.true c.leaving-item.is in
    let moved : more ≡ drop (positions_of P (fields_at pl x)) row = on_ok _ c.variant.result c.in_ok-next.next c.variant.ensures.rest c.in_ok-next.ensures.0 in
    let made : plain-EnumVariant c.in_ok-next.next ≡ signatures.variant P pl c.args.span (nth_name row) 0 x =
    held_ok (λ (it : EnumVariant). plain-EnumVariant it ≡ signatures.variant P pl c.args.span (nth_name row) 0 x) c.variant.result c.in_ok-next.next
    c.variant.ensures.made c.in_ok-next.ensures.0 in
    mapped_on plain-EnumVariant c.loop-leaving.all c.in_ok-next.held c.in_ok-all.all c.in_ok-next.next (signatures.variant P pl c.args.span (nth_name row) 0 x)
    (signatures.variants P pl c.args.span (nth_name row) 0 (map plain-Leaving (drop c.loop-leaving.leaving-index c.args.exits.now)))
    (signatures.variants P pl c.args.span (nth_name more) 0 left) _ c.loop-leaving.invariant
    (ap (λ (xs : List Leaving). signatures.variants P pl c.args.span (nth_name row) 0 (map plain-Leaving xs)) cut ∙ next_variant P pl c.args.span row more x left moved)
    c.in_ok-next.ensures.1 made c.in_ok-all.ensures
