-- In a typed program the loops round each jump stand there once.
use Rattle.std.proofs.Common.{◌≡◌, ℕ, Bool, true, false, List, [], ◌∷◌, sym, ◌∙◌, subst}
use Rattle.rx_tree.specs.Plain.{ProgramTree}
use Rattle.rx_tree.specs.Nodes.{below_block, total}
use Rattle.rx_tree.specs.Lists.{Every}
use Rattle.rx_tree.specs.Size.{loops_at, IsNumbered}
use Rattle.rx_resolve_names.specs.declared.resolved.ItemNames.{ItemNames}
use Rattle.rx_resolve_names.specs.Causes.{Meant}
use Rattle.rx_typed.specs.PlainTypes.{declarations}
use Rattle.rx_typed.specs.Naming.{function_named}
use Rattle.rx_typed.specs.Tree as tree
use Rattle.rx_typed_declarations.specs.WellFormed.{WellSigned}
use Rattle.rx_typed_declarations.specs.Sizes.{Sized, told}
use Rattle.rx_typed.specs.PlainTree.{plain-TypedTree}
use Rattle.rx_typeck_typed.specs.declared.typed.Typed.{Typed}
use Rattle.rx_typeck_typed.specs.declared.typed.TypedFn.{TypedFn}
use Rattle.rx_typeck_typed.specs.Typing.{assigned, known_in, Given, IsTyped}
use Rattle.rx_lower_walks.specs.Walks.{Among, here, there}
use Rattle.rx_exits_plan.specs.Spots as spots
use Rattle.rx_exits_plan.specs.Spots.{Spot, spots_of_function}
use Rattle.rx_hoist_naming.proofs.Programs as programs
use Rattle.rx_hoist_meant.specs.Scoped.{NoneTwice}
use Rattle.rx_hoist_meant.proofs.Patterns.{none_among}
use Rattle.rx_engine_planned.specs.Loops.{EachOnce}
use Rattle.rx_engine_planned.proofs.LoopNumbers.{loops_rise}
use Rattle.rx_engine_planned.proofs.TypedLoops.{all_good, Good}
use Rattle.rx_engine_tied.proofs.Tying.{has_it}

one_of : (P : Spot → Type 0) (l : List Spot) (s : Spot) → Every P l → Among s l → P s
one_of P [] s h i = absurd (none_among i)
one_of P (x ∷ l) s h i = by i (λ j. one_of P l s h.1 j)
  where
    by : {z : Spot} → Among z (x ∷ l) → (Among z l → P z) → P z
    by here on = h.0
    by (there j) on = on j

clash : false ≡ true → ⊥
clash e = cc

once_none : (ls : List ℕ) → EachOnce ls → NoneTwice ls
once_none [] h = tt
once_none (k ∷ ls) h = (λ i. clash (sym h.0 ∙ has_it k ls i), once_none ls h.1)

module _ (p : ProgramTree) (ns : List ItemNames) (t : Typed) (few : IsNumbered p) (meant : Meant p ns) (typed : IsTyped p ns t) (signed : WellSigned t.decls.items)
    (sized : Sized (declarations typed.declared) (told typed.sizes)) where
  pub jumps_apart : (g : TypedFn) → Among g t.functions → (c : spots.Around) (n j : ℕ) (again : Bool) → Among (spots.a_jump c n j again) (spots_of_function (plain-TypedTree g.tree)) → NoneTwice c.loops
  jumps_apart g a c n j again i =
      let x = programs.text p ns t few meant typed signed sized g a in
      let G : Given = record { program = p; declared = typed.declared; sizes = typed.sizes } in
      let F = function_named x.number x.span x.function x.table.names in
      let T = assigned (known_in G) x.checked.types in
      let N = total loops_at (below_block x.function.body) in
      let all = subst (λ (f : tree.Function). Every (Good N T) (spots_of_function f)) (sym x.checked.tree) (all_good N T F (loops_rise x.number x.span x.function x.table.names)) in
      once_none c.loops (one_of (Good N T) (spots_of_function (plain-TypedTree g.tree)) (spots.a_jump c n j again) all i).0
