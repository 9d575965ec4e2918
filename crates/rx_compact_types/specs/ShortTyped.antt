-- A program in which one function has a short signature is typed as before, but for lifetimes (Rust Reference, "Type system").
use Rattle.std.specs.Prelude.{◌≡◌, ℕ, List, [], ◌∷◌, Some, slice_get}
use Rattle.rx_core.specs.declared.types.Bound.{Bound}
use Rattle.rx_core.specs.declared.types.Span.{Span}
use Rattle.rx_core.specs.declared.types.Ty.{Ty}
use Rattle.rx_tree.specs.Plain as plain
use Rattle.rx_tree.specs.Plain.{Function, ProgramTree}
use Rattle.rx_resolve_names.specs.declared.resolved.ItemNames.{ItemNames}
use Rattle.rx_resolve_names.specs.Causes.{Meant}
use Rattle.rx_typed.specs.declared.declarations.Decl.{Decl}
use Rattle.rx_typed.specs.declared.declarations.Decl.TheVariants as decl
use Rattle.rx_typed.specs.Naming.{function_annotations}
use Rattle.rx_typeck_typed.specs.Bindings.{lifetimes}
use Rattle.rx_typeck_typed.specs.Typing.{entries}
use Rattle.rx_typeck_typed.specs.WellTyped.{WellTyped, TypedFunction, functions_of}
use Rattle.rx_compact_types.specs.ShortTypes.{DeclaresAlike}
use Rattle.rx_compact_types.specs.ShortLets.{LetsAlike}

-- two typed functions that are the same but for the types that their `let`s write
pub record SameFunction (f g : TypedFunction) : Type 0 where
  pub item : g.item ≡ f.item
  pub names : g.names ≡ f.names
  pub mutable : g.mutable ≡ f.mutable
  pub spans : g.spans ≡ f.spans
  pub types : g.types ≡ f.types
  pub body : g.body ≡ f.body

abbrev pub SameFunctions : List TypedFunction → List TypedFunction → Type 0
SameFunctions [] [] = Unit {0}
SameFunctions (f ∷ fs) (g ∷ gs) = SameFunction f g × SameFunctions fs gs
SameFunctions _ _ = ⊥

-- where the first is well-typed the second is, with the same functions, and back
pub record TypedAlike (p q : ProgramTree) (names news : List ItemNames) : Type 0 where
  pub there : (w : WellTyped p names) → (v : WellTyped q news) × SameFunctions (functions_of p names w) (functions_of q news v)
  pub back : (v : WellTyped q news) → (w : WellTyped p names) × SameFunctions (functions_of p names w) (functions_of q news v)

-- with the names and declarations of the first
pub record ShortProgram (p : ProgramTree) (i : ℕ) (q : ProgramTree) (names : List ItemNames) (declared : List Decl) : Type 0 where
  pub news : List ItemNames
  pub meant : Meant q news
  pub declares : DeclaresAlike q i news declared
  pub typed : TypedAlike p q names news
  -- its `let`s write what they did, by the new numbers
  pub lets : (n : ℕ) (ps : List Ty) (t : Ty) (bs : List Bound) (at : slice_get declared i ≡ Some (decl.Func n ps t bs)) (s : Span) (f g : Function)
      → slice_get p i ≡ Some (plain.function_item s f) → slice_get q i ≡ Some (plain.function_item s g)
      → LetsAlike p q (lifetimes (slice_get declared i)) (lifetimes (slice_get declares.new i)) (declares.function n ps t bs at).0
      (function_annotations s f (entries (slice_get names i))) (function_annotations s g (entries (slice_get news i)))
