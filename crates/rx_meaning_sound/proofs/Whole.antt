-- All together: an accepted program without references acts by types that have none and is covered.
use Rattle.std.proofs.Common.{ℕ, Bool, List, Some, length, slice_get}
use Rattle.rx_core.specs.declared.types.Span.{Span}
use Rattle.rx_tree.specs.Plain as plain
use Rattle.rx_tree.specs.Plain.{ProgramTree}
use Rattle.rx_resolve_names.specs.declared.resolved.ItemNames.{ItemNames}
use Rattle.rx_resolve_names.specs.declared.resolved.NodeNames.{NodeNames}
use Rattle.rx_typed.specs.Types.{fields_declared}
use Rattle.rx_typed.specs.PlainTypes.{declarations}
use Rattle.rx_typed.specs.Naming.{function_named, function_spans}
use Rattle.rx_typed.specs.TypedNumbers.{AreFrom, nodes}
use Rattle.rx_typed.specs.Tree.{Function, Temporary}
use Rattle.rx_typed.specs.PlainTree.{plain-TypedTree}
use Rattle.rx_typeck_typed.specs.declared.typed.Typed.{Typed}
use Rattle.rx_typeck_typed.specs.declared.typed.TypedFn.{TypedFn}
use Rattle.rx_typeck_typed.specs.Typing.{IsTyped}
use Rattle.rx_machine.specs.Functions.{typed_functions}
use Rattle.rx_meaning_keeping.specs.Keeping.{IsFunction}
use Rattle.rx_meaning_typed.specs.TypedActs.{Typing}
use Rattle.rx_meaning_typed.specs.TypedFunctions.{MakesWholes, ProgramTyped}
use Rattle.rx_lower_walks.specs.Walks.{Among}
use Rattle.rx_meaning_accepted.proofs.Programs.{TextFits}
use Rattle.rx_meaning_accepted.proofs.Facts.{NamedApart}
use Rattle.rx_cover.specs.Finite.{Finite}
use Rattle.rx_meaning_typed.specs.NoReferences.{NoReferences}
use Rattle.rx_meaning_sound.specs.Plain.{FunctionsPlain, ItemsPlain}
use Rattle.rx_check.specs.Passes.{FunctionsCovered}
use Rattle.rx_meaning_covered.specs.Begun.{UsesBegun}
use Rattle.rx_meaning_covered.specs.Covered.{CallsFunctions, Answers, ProgramCovered}
use Rattle.rx_meaning_sound.specs.Fresh.{StandsFresh}
use Rattle.rx_meaning_sound.proofs.Covering.{program_covered}
use Rattle.rx_meaning_sound.proofs.Programs as programs
use Rattle.rx_meaning_sound.proofs.Programs.{TextMeans}

module _ (p : ProgramTree) (ns : List ItemNames) (t : Typed) (typed : IsTyped p ns t) (fit : TextFits p ns (declarations typed.declared))
    (numbers_stand : (i : ℕ) (s : Span) (g : plain.Function) (es : List NodeNames) → AreFrom 0 (nodes (function_named i s g es)) (length (function_spans s g es)))
    (wholes : (g : TypedFn) → Among g t.functions → MakesWholes (plain-TypedTree g.tree)) (means : TextMeans p ns (declarations typed.declared)) (apart : (i : ℕ) → NamedApart (fields_declared (slice_get (declarations typed.declared) i)))
    (items : ItemsPlain (declarations typed.declared) (declarations typed.declared)) (functions_plain : FunctionsPlain (declarations typed.declared) t.functions) (finite : Finite (declarations typed.declared))
    (covered : FunctionsCovered (declarations t.decls.items) t.functions) (stands : (g : TypedFn) → Among g t.functions → StandsFresh (plain-TypedTree g.tree)) (begun : (g : TypedFn) → Among g t.functions → UsesBegun (plain-TypedTree g.tree))
    (answers : (g : TypedFn) → Among g t.functions → Answers (plain-TypedTree g.tree)) (calls : (f : ℕ) (F : Function) → IsFunction (typed_functions (declarations t.decls.items) t.functions) f F → CallsFunctions (typed_functions (declarations t.decls.items) t.functions) F) where
  pub whole_program : (N : ℕ → Temporary → Bool) × (Ts : ℕ → Typing) × ProgramTyped (declarations t.decls.items) Ts (typed_functions (declarations t.decls.items) t.functions) × NoReferences Ts × ProgramCovered N Ts (typed_functions (declarations t.decls.items) t.functions)
  whole_program = (
    programs.literals p ns t typed fit numbers_stand wholes means apart items functions_plain finite,
    programs.typings p ns t typed fit numbers_stand wholes means apart items functions_plain finite,
    programs.program_typed p ns t typed fit numbers_stand wholes means apart items functions_plain finite,
    programs.program_free p ns t typed fit numbers_stand wholes means apart items functions_plain finite,
    program_covered t (programs.literals p ns t typed fit numbers_stand wholes means apart items functions_plain finite) (programs.typings p ns t typed fit numbers_stand wholes means apart items functions_plain finite) (programs.program_declares p ns t typed fit numbers_stand wholes means apart items functions_plain finite) (programs.program_matches p ns t typed fit numbers_stand wholes means apart items functions_plain finite) covered stands begun answers calls (programs.program_ranged p ns t typed fit numbers_stand wholes means apart items functions_plain finite),
  )
