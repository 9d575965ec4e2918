use Rattle.std.proofs.Common.{List, [], map, None, ap, sym, subst, ◌∙◌}
use Rattle.rx_tree.specs.declared.tree.Item.{Item}
use Rattle.rx_tree.specs.PlainOf.{plain-Item}
use Rattle.rx_resolve_names.specs.Steps.{and_then}
use Rattle.rx_resolve_names.specs.Items.{apart, in_items}
use Rattle.rx_resolve_names.specs.Causes.{HoldsItself}
use Rattle.rx_resolve.proofs.program.resolve.Goals as goal

pub returns-in-Ok-None-clause-found : goal.returns-in-Ok-None-clause-found
returns-in-Ok-None-clause-found c =
    let same = c.in-Ok.ensures.1 ∙ c.as_slice-items.ensures in
    record {
      names_are = ap (λ (is : List Item). and_then (apart (record { types = []; functions = [] }) 0 (map plain-Item is)) (λ _. in_items (map plain-Item is) 0 (map plain-Item is))) (sym c.as_slice-items.ensures)
          ∙ ap (λ r. and_then r (λ _. in_items (map plain-Item c.as_slice-items.result.now) 0 (map plain-Item c.as_slice-items.result.now))) c.in-Ok.ensures.0
          ∙ ap (λ (is : List Item). in_items (map plain-Item is) 0 (map plain-Item c.as_slice-items.result.now)) (sym c.in-Ok.ensures.1)
          ∙ c.in-Ok-names_of_items.ensures;
      finite = subst (λ (is : List Item). HoldsItself (map plain-Item is) None) same (subst (HoldsItself (map plain-Item c.in-Ok.tables)) c.in-Ok-None.field-0-is c.in-Ok-None.ensures);
    }
