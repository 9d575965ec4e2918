-- What is written out where some variable is loose: the kind of each literal without a suffix, and the type of each `let` that has
-- none and whose initialiser is missing or never goes on (Rust Reference, "Integer literal expressions", "let statements"). A `let`
-- in whose initialiser the run stands stays as it is: what gives its type stands behind it, and the way to the run leads through it.
use Rattle.std.specs.Prelude.{ℕ, suc, nat_le, Bool, true, not, ◌&&◌, if◌then◌else◌, List, [], ◌∷◌, ◌++◌, Option, Some, None}
use Rattle.rx_core.specs.declared.types.Span.{Span}
use Rattle.rx_core.specs.declared.types.Kind.{Kind}
use Rattle.rx_tree.specs.Plain as plain
use Rattle.rx_tree.specs.Plain.{OptionalExpression}
use Rattle.rx_tree.specs.Spans.{pattern_span, expression_span}
use Rattle.rx_tree.specs.Positions.{NodeTree, a_statement, an_expression}
use Rattle.rx_typed.specs.Types.{Typ}
use Rattle.rx_typed.specs.Elaborated.{kind_in}
use Rattle.rx_typeck_solver.specs.declared.facts.Subject.TheVariants as subject
use Rattle.rx_typeck_elaborate_parts.specs.Assigning.{shape_of}
use Rattle.rx_typeck_typed.specs.declared.typed.TypedFn.{TypedFn}
use Rattle.rx_typeck_typed.specs.Typing.{type_at}
use Rattle.rx_exits_plan.specs.Occurrences.{has_number}
use Rattle.rx_hoist_extraction.specs.Plan.{Pins}

-- the type of a node
abbrev pub node_type : TypedFn → ℕ → Typ
node_type t n = shape_of (type_at t (subject.Node n))

-- ---- the nodes of a function in the order of the text, from this number on

-- a literal without a suffix
abbrev pub open_literal : NodeTree → Option Span
open_literal (an_expression (plain.int s v None)) = Some s
open_literal _ = None

abbrev pub kind_pin : TypedFn → ℕ → Option Span → List (Span × Kind)
kind_pin t n None = []
kind_pin t n (Some s) = (s, kind_in (node_type t n)) ∷ []

abbrev pub kind_pins : TypedFn → ℕ → List NodeTree → List (Span × Kind)
kind_pins t n [] = []
kind_pins t n (x ∷ xs) = kind_pin t n (open_literal x) ++ kind_pins t (suc n) xs

-- whether a part of the text stands in another
abbrev pub stands_in : Span → Span → Bool
stands_in r s = nat_le s.start r.start && nat_le r.end s.end

-- whether the type of a `let` of this number is told by no value, and its initialiser is not round the run
abbrev pub is_open : Span → List ℕ → ℕ → OptionalExpression → Bool
is_open r ds n plain.absent = true
is_open r ds n (plain.present e) = has_number n ds && not (stands_in r (expression_span e))

-- the pattern of a `let` that has no type and is open; `r` is the run, `ds` are those `let`s whose initialiser never goes on
abbrev pub open_pattern : Span → List ℕ → ℕ → NodeTree → Option Span
open_pattern r ds n (a_statement (plain.let_statement s p None o)) = if is_open r ds n o then Some (pattern_span p) else None
open_pattern r ds n _ = None

-- the pattern is the node behind the `let`
abbrev pub type_pin : TypedFn → ℕ → Option Span → List (Span × Typ)
type_pin t n None = []
type_pin t n (Some s) = (s, node_type t (suc n)) ∷ []

abbrev pub type_pins : TypedFn → Span → List ℕ → ℕ → List NodeTree → List (Span × Typ)
type_pins t r ds n [] = []
type_pins t r ds n (x ∷ xs) = type_pin t n (open_pattern r ds n x) ++ type_pins t r ds (suc n) xs

abbrev pub pins : TypedFn → Span → List ℕ → List NodeTree → Pins
pins t r ds ns = record { kinds = kind_pins t 0 ns; types = type_pins t r ds 0 ns }

-- where some variable is loose
abbrev pub pins_if : List ℕ → TypedFn → Span → List ℕ → List NodeTree → Option Pins
pins_if [] t r ds ns = None
pins_if (x ∷ xs) t r ds ns = Some (pins t r ds ns)
