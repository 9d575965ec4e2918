-- The way from a function's item to a block of the text leads to a block of the typed tree, by its number.
use Rattle.std.proofs.Common.{◌≡◌, ℕ, zero, suc, ◌+◌, List, [], ◌∷◌, ◌++◌, length, Option, Some, None, refl, subst, ◌∙◌, arith}
use Rattle.rx_core.specs.declared.types.Span.{Span}
use Rattle.rx_tree.specs.Plain as plain
use Rattle.rx_tree.specs.Plain.{Parameter, Function, ItemTree}
use Rattle.rx_tree.specs.Lists.{statements}
use Rattle.rx_tree.specs.Positions.{NodeTree, an_item, a_block, parameter_nodes, descend}
use Rattle.rx_resolve_names.specs.declared.resolved.NodeNames.{NodeNames}
use Rattle.rx_typed.specs.declared.nodes.Site.{Site}
use Rattle.rx_typed.specs.declared.nodes.Stage.{Stage}
use Rattle.rx_typed.specs.Named.{body_node}
use Rattle.rx_typed.specs.Naming as naming
use Rattle.rx_typed.specs.Naming.{Cursor, a_node, function_named}
use Rattle.rx_typed.specs.Elaborated as elaborated
use Rattle.rx_typed.specs.Elaborated.{Assigned, elaborated as elaborated_function, function_body}
use Rattle.rx_typed.specs.Tree as tree
use Rattle.rx_typeck_solver.specs.declared.facts.Op.TheVariants as op
use Rattle.rx_typeck_solver.specs.declared.facts.Demand.{Demand}
use Rattle.rx_typeck_solver.specs.Facts.{Assignment, KnownItems, MeetsEach}
use Rattle.rx_typeck_typed.specs.Demands as rules
use Rattle.rx_lower_walks.specs.Walks.{Among}
use Rattle.rx_exits_plan.specs.Spots.{Around, Spot, a_block as spot_block, a_return, outermost, spots}
use Rattle.rx_hoist_nodes.specs.Nodes.{in_front}
use Rattle.rx_hoist_blocks.specs.TypedBlocks.{TypedBlock}
use Rattle.rx_hoist_blocks.proofs.Adding as adding
use Rattle.rx_hoist_blocks.proofs.Blocks.{in_left, nested_long}
use Rattle.rx_hoist_blocks.proofs.Children.{Walked, WalkedAll, from, child_and, one_child, node_with, block_with}
use Rattle.rx_hoist_blocks.proofs.Parts.{entry_if_number, type_walked, type_row}
use Rattle.rx_hoist_blocks.proofs.Places.{before}
use Rattle.rx_hoist_blocks.proofs.Forms.{count_is, inside_walked}

-- ---- a function

parameter_row : (xs : List Parameter) (c : Cursor) (S : Around → List Spot) (ns : List NodeTree) (j : ℕ) → WalkedAll ns (naming.of_parameters xs c).1.number j S
    → WalkedAll (parameter_nodes xs ++ ns) c.number j S
parameter_row [] c S ns j w = w
parameter_row (x ∷ xs) c S ns j w =
    let c1 = (naming.declare (record { mutable = x.mutable; stage = Stage.Known }) c).1 in
    child_and (type_walked x.typ c1 S) (parameter_row xs (naming.of_type x.typ c1).1 S ns j w)

no_item_block : (i : ItemTree) (b : plain.Body) → an_item i ≡ a_block b → ⊥
no_item_block i b e = cc

module _ (K : KnownItems) (A : Assignment) (T : Assigned) where
  -- the body, whose tail is handed to the caller
  function_body_walked : (f : ℕ) (b : plain.Body) (c : Cursor) (ds : List Demand) → MeetsEach K A (rules.of_body f (naming.of_body Site.Expects b c).0 ds)
      → Walked (a_block b) c.number (naming.of_body Site.Expects b c).1.number (λ a. spots a (function_body T (naming.of_body Site.Expects b c).0))
  function_body_walked f (plain.body s ss o) c ds h =
      let n = a_node s Site.Expects c in
      let X = naming.of_statements ss n.1 in
      let O = naming.of_optional Site.Expects o X.1 in
      let e = elaborated.tail T n.0 O.0 in
      let last = tree.give (elaborated.no_mark n.0) e in
      block_with (plain.body s ss o) c.number O.1.number (elaborated.nested T X.0 last) (nested_long T X.0 last ∙ count_is ss n.1)
      (inside_walked K A T f s ss o Site.Expects c last (in_left (λ a. spots a e) (λ a. a_return a n.0.number ∷ [])) ds h)

  item_walked : (i : ℕ) (s : Span) (f : Function) (ns : List NodeNames) → MeetsEach K A (rules.demands (function_named i s f ns))
      → (j : ℕ) × Walked (an_item (plain.function_item s f)) 0 j (λ a. spots a (elaborated_function T (function_named i s f ns)).body)
  item_walked i s f ns h =
      let c0 = naming.begins ns in
      let c1 = (a_node s Site.Value c0).1 in
      let c2 = (naming.entry_if (naming.has_entry f) c1).1 in
      let P = naming.of_parameters f.params c2 in
      let R = naming.of_optional_type f.result P.1 in
      let B = naming.of_body Site.Expects f.body R.1 in
      let F = function_named i s f ns in
      let d = rules.expects (body_node F.body) (op.Result i) [] (rules.of_result F.result (rules.of_parameters F.params [])) in
      let S = λ (a : Around). spots a (function_body T B.0) in
      let met = before K A (rules.of_never_given F.never_given) (adding.never_given_adds F.never_given) (rules.of_body i F.body d) h in (
        B.1.number,
        node_with (no_item_block (plain.function_item s f)) (from (entry_if_number (naming.has_entry f) c1)
            (parameter_row f.params c2 S _ _ (type_row f.result P.1 S _ _ (one_child (function_body_walked i f.body R.1 d met))))),
      )

among_at : {m n : ℕ} {a : Around} {b : tree.Body} {l : List Spot} → m ≡ n → Among (spot_block a m b) l → Among (spot_block a n b) l
among_at {m} {n} {a} {b} {l} e h = subst (λ (x : ℕ). Among (spot_block a x b) l) e h

pub typed_block : (K : KnownItems) (A : Assignment) (T : Assigned) (i : ℕ) (s : Span) (f : Function) (ns : List NodeNames) → MeetsEach K A (rules.demands (function_named i s f ns))
    → (path : List ℕ) (b : plain.Body) → descend (Some (an_item (plain.function_item s f))) path ≡ Some (a_block b)
    → TypedBlock (elaborated_function T (function_named i s f ns)) (length (in_front (Some (an_item (plain.function_item s f))) path)) b
typed_block K A T i s f ns h path b e =
    let x = (item_walked K A T i s f ns h).1.has path b e (outermost (elaborated_function T (function_named i s f ns))) in
    record { around = x.around; body = x.body; among = among_at (omega arith) x.among; long = x.long }
