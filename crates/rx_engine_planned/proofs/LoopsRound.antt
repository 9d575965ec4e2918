-- The loops round a run in a function of a typed program stand there once, and are few.
use Rattle.std.proofs.Common.{◌≡◌, ℕ, zero, suc, ◌+◌, ◌≤◌, ◌<◌, ◌^◌, List, [], ◌∷◌, ◌++◌, length, Option, Some, slice_get, refl, sym, ap, ◌∙◌, subst, arith}
use Rattle.rx_core.specs.declared.types.Span.{Span}
use Rattle.rx_tree.specs.Lists.{Every}
use Rattle.rx_tree.specs.Plain as plain
use Rattle.rx_tree.specs.Plain.{Function, ItemTree, ProgramTree}
use Rattle.rx_tree.specs.Nodes.{below_block, below_item, nodes, total, within_parameters, within_type}
use Rattle.rx_tree.specs.Positions.{a_block}
use Rattle.rx_tree.specs.Size.{loops_at, IsNumbered}
use Rattle.rx_tree.proofs.NodesLaws.{total_both}
use Rattle.rx_resolve_names.specs.declared.resolved.ItemNames.{ItemNames}
use Rattle.rx_resolve_names.specs.Causes.{Meant}
use Rattle.rx_typed.specs.PlainTypes.{declarations}
use Rattle.rx_typed.specs.Naming.{function_named}
use Rattle.rx_typed.specs.Elaborated.{elaborated}
use Rattle.rx_typed.specs.Tree as tree
use Rattle.rx_typed.specs.PlainTree.{plain-TypedTree}
use Rattle.rx_typed_declarations.specs.WellFormed.{WellSigned}
use Rattle.rx_typed_declarations.specs.Sizes.{Sized, told}
use Rattle.rx_typeck_typed.specs.declared.typed.Typed.{Typed}
use Rattle.rx_typeck_typed.specs.declared.typed.TypedFn.{TypedFn}
use Rattle.rx_typeck_typed.specs.Typing.{assigned, known_in, Given, IsTyped}
use Rattle.rx_lower_walks.specs.Walks.{Among, here, there}
use Rattle.rx_exits_plan.specs.Runs.{Home, Run, Sits}
use Rattle.rx_exits_plan.specs.Spots.{spots_of_function, Spot}
use Rattle.rx_exits_plan.specs.Spots as spots
use Rattle.rx_hoist_naming.proofs.Counting.{once_few}
use Rattle.rx_hoist_naming.proofs.Programs as programs
use Rattle.rx_engine_planned.specs.Loops.{LoopsApart}
use Rattle.rx_engine_planned.proofs.LoopNumbers.{loops_rise}
use Rattle.rx_engine_planned.proofs.TypedLoops.{all_good, Good}

one_of : (P : Spot → Type 0) (l : List Spot) (s : Spot) → Every P l → Among s l → P s
one_of P [] s h i = absurd (elim i [ ])
one_of P (x ∷ l) s h i = by i (λ j. one_of P l s h.1 j)
  where
    by : {z : Spot} → Among z (x ∷ l) → (Among z l → P z) → P z
    by here on = h.0
    by (there j) on = on j

-- the loops of a function are some of the program's
body_few : (p : ProgramTree) (n : ℕ) (s : Span) (f : Function) → slice_get p n ≡ Some (plain.function_item s f) → total loops_at (below_block f.body) ≤ total loops_at (nodes p)
body_few [] n s f e = absurd (cc)
body_few (i ∷ p) zero s f e =
    let q : plain.function_item s f ≡ i = cc in
    subst (λ (j : ItemTree). total loops_at (below_block f.body) ≤ total loops_at (nodes (j ∷ p))) q here_few
  where
    here_few : total loops_at (below_block f.body) ≤ total loops_at (nodes (plain.function_item s f ∷ p))
    here_few =
        let rest = within_type f.result ++ (a_block f.body ∷ below_block f.body) in
        let a = total_both loops_at (within_parameters f.params ++ rest) (nodes p) in
        let b = total_both loops_at (within_parameters f.params) rest in
        let c = total_both loops_at (within_type f.result) (a_block f.body ∷ below_block f.body) in
        omega (arith, a, b, c)
body_few (i ∷ p) (suc n) s f e = let h = body_few p n s f e in let a = total_both loops_at (below_item i) (nodes p) in omega (arith, h, a)

module _ (p : ProgramTree) (ns : List ItemNames) (t : Typed) (few : IsNumbered p) (meant : Meant p ns) (typed : IsTyped p ns t) (signed : WellSigned t.decls.items)
    (sized : Sized (declarations typed.declared) (told typed.sizes)) where
  pub loops_apart : (g : TypedFn) → Among g t.functions → (r : Run) (h : Home) → Sits (plain-TypedTree g.tree) r h → LoopsApart h.around.loops
  loops_apart g a r h sits =
      let x = programs.text p ns t few meant typed signed sized g a in
      let G : Given = record { program = p; declared = typed.declared; sizes = typed.sizes } in
      let F = function_named x.number x.span x.function x.table.names in
      let T = assigned (known_in G) x.checked.types in
      let N = total loops_at (below_block x.function.body) in
      let all = subst (λ (f : tree.Function). Every (Good N T) (spots_of_function f)) (sym x.checked.tree) (all_good N T F (loops_rise x.number x.span x.function x.table.names)) in
      let good = one_of (Good N T) (spots_of_function (plain-TypedTree g.tree)) (spots.a_block h.around r.block h.body) all sits.block in
      let most = once_few N h.around.loops good.0 good.1 in
      let own = body_few p x.number x.span x.function x.at in
      let limit = few.loops in
      record { once = good.0; few = omega (arith, most, own, limit) }
