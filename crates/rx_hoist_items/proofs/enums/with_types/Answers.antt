use Rattle.std.proofs.Common.{◌≡◌, ◌+◌, List, map, drop, ap, sym, ◌∙◌}
use Rattle.rx_tree.specs.declared.tree.TypeText.{TypeText}
use Rattle.rx_tree.specs.PlainOf.{plain-Program, plain-TypeText}
use Rattle.rx_typed.specs.PlainTypes.{plain-Ty}
use Rattle.rx_hoist_plan.specs.declared.plan.Variable.{Variable}
use Rattle.rx_hoist_plan.specs.PlainPlan.{plain-Variable}
use Rattle.rx_hoist_extraction.specs.Values.{variables_held, types_of}
use Rattle.rx_hoist_extraction.specs.WrittenTypes.{full, positions, positions_of}
use Rattle.rx_hoist_made.specs.Rows.{fulls, nth_name}
use Rattle.rx_hoist_made.proofs.Dropped.{drop_is, held_ok, mapped_on, on_ok}
use Rattle.rx_hoist_made.proofs.RowLemmas.{next_rest, next_typ}
use Rattle.rx_hoist_items.proofs.enums.with_types.Goals as goal

pub loop-variable-preserved : goal.loop-variable-preserved
loop-variable-preserved c =
    let P = plain-Program c.args.program.now in
    let row = c.loop-variable.row in
    let more = c.full.new.row in
    let ty = plain-Ty c.variable-item.result.ty in
    let left = types_of (variables_held (map plain-Variable (drop (c.loop-variable.variable-index + 1) c.args.variables.now))) in
    let cut = drop_is c.args.variables.now c.loop-variable.variable-index c.variable-item.result c.loop-variable-test.true c.variable-item.is in
    let moved : more ≡ drop (positions P ty) row = on_ok _ c.full.result c.in_ok-next.next c.full.ensures.rest c.in_ok-next.ensures.0 in
    let made : plain-TypeText c.in_ok-next.next ≡ full P c.args.span (nth_name row) 0 ty =
    held_ok (λ (it : TypeText). plain-TypeText it ≡ full P c.args.span (nth_name row) 0 ty) c.full.result c.in_ok-next.next c.full.ensures.made c.in_ok-next.ensures.0 in
    record {
      made = mapped_on plain-TypeText c.loop-variable.all c.in_ok-next.held c.in_ok-all.all c.in_ok-next.next (full P c.args.span (nth_name row) 0 ty)
          (fulls P c.args.span (nth_name row) 0 (types_of (variables_held (map plain-Variable (drop c.loop-variable.variable-index c.args.variables.now)))))
          (fulls P c.args.span (nth_name more) 0 left) _ c.loop-variable.invariant.made
          (ap (λ (vs : List Variable). fulls P c.args.span (nth_name row) 0 (types_of (variables_held (map plain-Variable vs)))) cut ∙ next_typ P c.args.span row more ty left moved)
          c.in_ok-next.ensures.1 made c.in_ok-all.ensures;
      rest = sym (ap (λ (vs : List Variable). drop (positions_of P (types_of (variables_held (map plain-Variable vs)))) row) cut ∙ next_rest P row more ty left moved)
          ∙ c.loop-variable.invariant.rest;
    }
