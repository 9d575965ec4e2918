-- A function whose assignment of types meets what the rules ask, without references, matches by the types that its marks say.
use Rattle.std.proofs.Common.{◌≡◌, ℕ, List, [], ◌∷◌, ◌++◌, map, Option, Some, slice_get, refl, sym, ap, ◌∙◌, subst}
use Rattle.rx_tree.specs.Lists.{Every}
use Rattle.rx_typed.specs.declared.nodes.Site.{Site}
use Rattle.rx_typed.specs.Types.{Typ, unit_shape, result_declared, fields_declared}
use Rattle.rx_typed.specs.Named.{Function, body_node}
use Rattle.rx_typed.specs.TypedNumbers.{AreFrom, nodes, optional_nodes}
use Rattle.rx_typed.specs.Elaborated as elaborated
use Rattle.rx_typed.specs.Tree.{Temporary}
use Rattle.rx_typeck_solver.specs.declared.facts.Subject.TheVariants as subject
use Rattle.rx_typeck_solver.specs.declared.facts.Demand.{Demand}
use Rattle.rx_typeck_solver.specs.Facts.{MeetsEach, Assignment, KnownItems}
use Rattle.rx_typeck_typed.specs.Demands as rules
use Rattle.rx_meaning_covered.specs.Standing.{Standing}
use Rattle.rx_meaning_covered.specs.Ranged.{IsInhabited}
use Rattle.rx_repair.specs.TemporaryTypes as given_types
use Rattle.rx_repair.specs.TemporaryTypes.{Entry, silent, temporary_types}
use Rattle.rx_repair.proofs.Sites.{BodySited}
use Rattle.rx_repair.proofs.Entries.{Found, all_found}
use Rattle.rx_repair.proofs.Asking.{Asks, asks_map, both, then_first, then_second, parameters_u, result_u, never_given_u, quiet}
use Rattle.rx_repair.proofs.Settling.{NotLent}
use Rattle.rx_repair.proofs.Pieces.{T}
use Rattle.rx_repair.proofs.Patterns.{every_behind}
use Rattle.rx_meaning_accepted.specs.Fitting.{FunctionFits}
use Rattle.rx_meaning_accepted.specs.Typings.{result_or, typing_of}
use Rattle.rx_meaning_accepted.proofs.Facts.{NamedApart}
use Rattle.rx_meaning_accepted.proofs.Parted.{BodyMeans}
use Rattle.rx_meaning_accepted.proofs.Operands as operands
use Rattle.rx_meaning_sound.specs.Matched.{ChoiceTyped, LetTyped}
use Rattle.rx_meaning_sound.proofs.Literals.{BodyLiterals}
use Rattle.rx_meaning_sound.proofs.Matching as matching

module _ (K : KnownItems) (A : Assignment) (F : Function) (count : ℕ) (numbers : AreFrom 0 (nodes F) count) (sited : BodySited Site.Expects F.body) (fits : FunctionFits K.items F) (means : BodyMeans K.items F.body) (met : MeetsEach K A (rules.demands F))
    (free : (n : ℕ) → NotLent (A (subject.Node n))) (inhabited : (n : ℕ) → IsInhabited K.items (A (subject.Node n))) (apart : (i : ℕ) → NamedApart (fields_declared (slice_get K.items i))) where
  abbrev V : ℕ → Typ
  V x = A (subject.Variable x)

  abbrev U : Temporary → Typ
  U = temporary_types (T K A) V F

  abbrev R : Typ
  R = result_or (result_declared (slice_get K.items F.item))

  abbrev OfEntry : Entry → Type 0
  OfEntry e = Found U e

  found : Every OfEntry (given_types.entries (T K A) V F)
  found = all_found (T K A) V F count numbers

  result : (u : Typ) → result_declared (slice_get K.items F.item) ≡ Some u → R ≡ u
  result u e = ap result_or e

  behind : Every OfEntry (given_types.body_entries (T K A) V unit_shape F.body)
  behind = every_behind OfEntry (map silent (optional_nodes F.result)) _ (every_behind OfEntry (given_types.parameters_entries (T K A) V F.params) _ found.1)

  asked : Asks K A (matching.BodyTold K A U R F.item result free inhabited apart F.body) (rules.of_function F)
  asked =
      then_second (parameters_u F.params) (then_second (result_u F.result) (then_second (operands.result_wished K A F.item (body_node F.body))
      (then_first (matching.body_told K A U R F.item result free inhabited apart unit_shape Site.Expects F.body sited fits means behind) (never_given_u F.never_given))))

  told : matching.BodyTold K A U R F.item result free inhabited apart F.body
  told = asked.gives (subst (λ (l : List Demand). MeetsEach K A l) (asked.adds []) met)

  pub function_matches : Standing (ChoiceTyped (typing_of (T K A) V F)) (LetTyped (typing_of (T K A) V F)) (elaborated.elaborated (T K A) F).body
  function_matches = told.ends

  -- literals that no minus makes negative are in range
  pub function_literals : BodyLiterals (T K A) F.body
  function_literals = told.literals
