use Rattle.std.proofs.Common.{ℕ, ◌+◌, List, ◌++◌, Option, Some, map, option_map, option_copied, drop, get_or, slice_get, sym, ap, ◌∙◌}
use Rattle.std.proofs.lemmas.List.{drop_more}
use Rattle.rx_tree.specs.declared.tree.Item.{Item}
use Rattle.rx_tree.specs.PlainOf.{plain-Item, plain-Program}
use Rattle.rx_tree.specs.Positions.{NodeTree, an_item, descend, node_at}
use Rattle.rx_tree_operations.specs.declared.positions.Node.{Node}
use Rattle.rx_tree_operations.specs.NodeOf.{plain-Node}
use Rattle.rx_hoist_nodes.specs.Nodes.{in_front}
use Rattle.rx_hoist_finding.proofs.Steps.{way_goes, way_leads, way_stops, way_misses, way_ends, way_ended, as_many, item_at}
use Rattle.rx_hoist_finding.proofs.nodes.node_of.Goals as goal

pub loop-number-init : goal.loop-number-init
loop-number-init c =
    let there = item_at c.args.program.now.items c.args.item ∙ ap (option_map (λ (x : Item). an_item (plain-Item x))) (sym c.get.ensures.value ∙ ap option_copied c.in-Some.is) in (
      ap (λ (l : List Node). map plain-Node l ++ in_front (Some (an_item (plain-Item c.in-Some.found.now))) c.args.path.now) c.new-all.ensures.items
          ∙ ap (λ (o : Option NodeTree). in_front o c.args.path.now) (sym there),
      ap (λ (o : Option NodeTree). descend o c.args.path.now) (sym there),
    )

pub returns-in-None-child-clause-number : goal.returns-in-None-child-clause-number
returns-in-None-child-clause-number c =
    let n = plain-Node c.loop-number.node in
    let old = map plain-Node c.loop-number.all.items in
    let next = drop_more c.args.path.now c.loop-number.number-index 0 c.loop-number-test.true in
    let front = ap (λ (l : List ℕ). old ++ in_front (Some n) l) (sym next) ∙ c.loop-number.invariant.0 in
    let none = sym (ap (option_map plain-Node) c.in-None-child.is) ∙ c.child.ensures in
    c.len.ensures ∙ c.add_in_front.new.all.ok.0
    ∙ as_many c.add_in_front.new.all.items _ (way_stops n old (map plain-Node c.add_in_front.new.all.items) (get_or c.args.path.now c.loop-number.number-index 0) (drop (c.loop-number.number-index + 1) c.args.path.now) _ front c.in_ok-add_in_front.ensures none)

pub returns-in-None-child-clause-node : goal.returns-in-None-child-clause-node
returns-in-None-child-clause-node c =
    let n = plain-Node c.loop-number.node in
    let next = drop_more c.args.path.now c.loop-number.number-index 0 c.loop-number-test.true in
    let leads = ap (λ (l : List ℕ). descend (Some n) l) (sym next) ∙ c.loop-number.invariant.1 in
    way_misses n (get_or c.args.path.now c.loop-number.number-index 0) (drop (c.loop-number.number-index + 1) c.args.path.now) _ leads
    (sym (ap (option_map plain-Node) c.in-None-child.is) ∙ c.child.ensures)

pub loop-number-preserved : goal.loop-number-preserved
loop-number-preserved c =
    let n = plain-Node c.loop-number.node in
    let k = get_or c.args.path.now c.loop-number.number-index 0 in
    let ks = drop (c.loop-number.number-index + 1) c.args.path.now in
    let old = map plain-Node c.loop-number.all.items in
    let next = drop_more c.args.path.now c.loop-number.number-index 0 c.loop-number-test.true in
    let front = ap (λ (l : List ℕ). old ++ in_front (Some n) l) (sym next) ∙ c.loop-number.invariant.0 in
    let leads = ap (λ (l : List ℕ). descend (Some n) l) (sym next) ∙ c.loop-number.invariant.1 in
    let some = sym (ap (option_map plain-Node) c.in-Some-child.is) ∙ c.child.ensures in (
      way_goes n (plain-Node c.in-Some-child.next) old (map plain-Node c.add_in_front.new.all.items) k ks _ front c.in_ok-add_in_front.ensures some,
      way_leads n (plain-Node c.in-Some-child.next) k ks _ leads some,
    )

pub returns-clause-number : goal.returns-clause-number
returns-clause-number c =
    c.len-2.ensures ∙ c.loop-number.all.ok.0
    ∙ as_many c.loop-number.all.items _
    (way_ends (plain-Node c.loop-number.node) (map plain-Node c.loop-number.all.items) c.args.path.now c.loop-number.number-index _ c.loop-number.invariant.0 c.loop-number-test.false)

pub returns-clause-node : goal.returns-clause-node
returns-clause-node c = way_ended (plain-Node c.loop-number.node) c.args.path.now c.loop-number.number-index _ c.loop-number.invariant.1 c.loop-number-test.false
