-- The functions of a typed program stand so, and their bodies give values.
use Rattle.std.proofs.Common.{◌≡◌, ℕ, List, Some, Ok, length, slice_get, sym, subst}
use Rattle.rx_core.specs.declared.types.Span.{Span}
use Rattle.rx_tree.specs.Plain as plain
use Rattle.rx_tree.specs.Plain.{ProgramTree, Function as FunctionTree}
use Rattle.rx_tree.specs.Size.{IsNumbered}
use Rattle.rx_resolve_names.specs.declared.resolved.ItemNames.{ItemNames}
use Rattle.rx_resolve_names.specs.Items.{in_item}
use Rattle.rx_resolve_names.specs.Causes.{Meant}
use Rattle.rx_typed.specs.PlainTypes.{declarations}
use Rattle.rx_typed.specs.Naming.{function_named}
use Rattle.rx_typed.specs.Elaborated.{Assigned, elaborated}
use Rattle.rx_typed.specs.Tree.{Function}
use Rattle.rx_typed.specs.PlainTree.{plain-TypedTree}
use Rattle.rx_typed_declarations.specs.WellFormed.{WellSigned}
use Rattle.rx_typed_declarations.specs.Sizes.{Sized, told}
use Rattle.rx_typeck_solver.specs.Facts.{KnownItems}
use Rattle.rx_typeck_typed.specs.declared.typed.Typed.{Typed}
use Rattle.rx_typeck_typed.specs.declared.typed.TypedFn.{TypedFn}
use Rattle.rx_typeck_typed.specs.Typing.{Given, known_in, assigned, IsTyped}
use Rattle.rx_lower_walks.specs.Walks.{Among}
use Rattle.rx_hoist_naming.proofs.Declaring.{of_program}
use Rattle.rx_hoist_naming.proofs.Programs as words
use Rattle.rx_hoist_meant.proofs.Places.{function_placed}
use Rattle.rx_engine_typing.specs.Scoped.{ScopedFunction}
use Rattle.rx_meaning_sound.specs.Fresh.{StandsFresh}
use Rattle.rx_meaning_sound.proofs.Elaborating.{function_stands}

module _ (p : ProgramTree) (ns : List ItemNames) (t : Typed) (few : IsNumbered p) (meant : Meant p ns) (typed : IsTyped p ns t) (signed : WellSigned t.decls.items)
    (sized : Sized (declarations typed.declared) (told typed.sizes))
    (scoped : (j n i : ℕ) (s : Span) (f : FunctionTree) → slice_get p j ≡ Some (plain.function_item s f) → (u : ItemNames) → in_item p n (plain.function_item s f) ≡ Ok u → ScopedFunction (function_named i s f u.names)) where
  abbrev K : KnownItems
  K = known_in (record { program = p; declared = typed.declared; sizes = typed.sizes })

  pub functions_stand_fresh : (g : TypedFn) → Among g t.functions → StandsFresh (plain-TypedTree g.tree)
  functions_stand_fresh g a =
      let x = words.text p ns t few meant typed signed sized g a in
      let F = function_named x.number x.span x.function x.table.names in
      let A = x.checked.types in
      let placed = function_placed (of_program K.items (length x.table.vars)) K A F x.taken.claims x.checked.valid.prefers.typed in
      subst (λ (f : Function). StandsFresh f) (sym x.checked.tree) (function_stands (assigned K A) F (scoped x.number x.number x.number x.span x.function x.at x.table x.named) placed)
