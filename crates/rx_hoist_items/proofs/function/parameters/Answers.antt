use Rattle.std.proofs.Common.{◌≡◌, ◌+◌, List, map, drop, ap, sym, ◌∙◌}
use Rattle.rx_tree.specs.declared.tree.Param.{Param as Parameter}
use Rattle.rx_tree.specs.PlainOf.{plain-Param as plain-Parameter, plain-Program}
use Rattle.rx_hoist_plan.specs.declared.plan.Param.{Param}
use Rattle.rx_hoist_plan.specs.PlainPlan.{plain-Param}
use Rattle.rx_hoist_extraction.specs.WrittenTypes.{positions, positions_of}
use Rattle.rx_hoist_extraction.specs.NewFunction.{passed, passed_types}
use Rattle.rx_hoist_made.specs.Rows.{nth_name}
use Rattle.rx_hoist_made.proofs.Dropped.{drop_is, held_ok, mapped_on, on_ok}
use Rattle.rx_hoist_made.proofs.RowLemmas.{next_rest}
use Rattle.rx_hoist_items.specs.Signatures as signatures
use Rattle.rx_hoist_items.proofs.SignatureLemmas.{next_parameter}
use Rattle.rx_hoist_items.proofs.function.parameters.Goals as goal

pub loop-param-preserved : goal.loop-param-preserved
loop-param-preserved c =
    let P = plain-Program c.args.program.now in
    let row = c.loop-param.row in
    let more = c.parameter.new.row in
    let x = plain-Param c.param-item.result in
    let left = map plain-Param (drop (c.loop-param.param-index + 1) c.args.params.now) in
    let cut = drop_is c.args.params.now c.loop-param.param-index c.param-item.result c.loop-param-test.true c.param-item.is in
    let moved : more ≡ drop (positions P (passed x.mode x.variable.typ)) row = on_ok _ c.parameter.result c.in_ok-next.next c.parameter.ensures.rest c.in_ok-next.ensures.0 in
    let made : plain-Parameter c.in_ok-next.next ≡ signatures.parameter P c.args.span (nth_name row) 0 x =
    held_ok (λ (it : Parameter). plain-Parameter it ≡ signatures.parameter P c.args.span (nth_name row) 0 x) c.parameter.result c.in_ok-next.next
    c.parameter.ensures.made c.in_ok-next.ensures.0 in
    record {
      made = mapped_on plain-Parameter c.loop-param.all c.in_ok-next.held c.in_ok-all.all c.in_ok-next.next (signatures.parameter P c.args.span (nth_name row) 0 x)
          (signatures.parameters P c.args.span (nth_name row) 0 (map plain-Param (drop c.loop-param.param-index c.args.params.now)))
          (signatures.parameters P c.args.span (nth_name more) 0 left) _ c.loop-param.invariant.made
          (ap (λ (xs : List Param). signatures.parameters P c.args.span (nth_name row) 0 (map plain-Param xs)) cut ∙ next_parameter P c.args.span row more x left moved)
          c.in_ok-next.ensures.1 made c.in_ok-all.ensures;
      rest = sym (ap (λ (xs : List Param). drop (positions_of P (passed_types (map plain-Param xs))) row) cut
          ∙ next_rest P row more (passed x.mode x.variable.typ) (passed_types left) moved) ∙ c.loop-param.invariant.rest;
    }
