use Rattle.std.proofs.Common.{◌≡◌, ◌∷◌, [], ◌++◌, List, map, ap, ◌∙◌}
use Rattle.rx_tree.specs.declared.tree.TypeText.{TypeText}
use Rattle.rx_tree.specs.Plain.{TypeTree}
use Rattle.rx_tree.specs.PlainOf.{plain-Program, plain-TypeText}
use Rattle.rx_hoist_plan.specs.PlainPlan.{plain-Variable}
use Rattle.rx_hoist_extraction.specs.Values.{variables_held, types_of}
use Rattle.rx_hoist_made.specs.PlainHanded.{plain-Handed}
use Rattle.rx_hoist_made.specs.Rows.{fulls, nth_name}
use Rattle.rx_hoist_made.proofs.Dropped.{ok_map}
use Rattle.rx_hoist_items.proofs.SignatureLemmas.{result_first}
use Rattle.rx_hoist_items.proofs.enums.types_handed.Goals as goal

pub returns-in_ok-types-in-Some-clause-made : goal.returns-in_ok-types-in-Some-clause-made
returns-in_ok-types-in-Some-clause-made c =
    let P = plain-Program c.args.program.now in
    let s = c.args.span in
    let row = c.args.row.now in
    let more = c.full.new.row in
    let h = c.args.handed in
    let first = c.in_ok-first-in-Some.first in
    let left = fulls P s (nth_name more) 0 (types_of (variables_held (map plain-Variable h.outs.now))) in
    let types : map plain-TypeText c.in_ok-types-in-Some.types ≡ plain-TypeText first ∷ [] =
    ap (map plain-TypeText) (c.in_ok-types-in-Some.ensures ∙ ap (λ (l : List TypeText). l ++ first ∷ []) c.new.ensures) in
    let all = result_first P s row more h c.in-Some.ty (plain-TypeText first) c.in-Some.is c.in_ok-first-in-Some.ensures.made c.in_ok-first-in-Some.ensures.rest in
    ok_map (λ (it : List TypeText). map plain-TypeText it ≡ map plain-TypeText c.in_ok-types-in-Some.types ++ left)
    (λ (it : List TypeText). map plain-TypeText it ≡ fulls P s (nth_name row) 0 (types_of (plain-Handed h)))
    c.with_types.result (λ it g. g ∙ ap (λ (l : List TypeTree). l ++ left) types ∙ all) c.with_types.ensures.made
