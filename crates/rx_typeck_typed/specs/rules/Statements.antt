-- What the rules of types ask of statements and blocks, beside what they ask of their parts (Rust Reference, "Statements", "Block expressions").
use Rattle.std.specs.Prelude.{ℕ, Bool, true, false, [], ◌∷◌, Option, Some, None}
use Rattle.rx_typed.specs.declared.nodes.Node.{Node}
use Rattle.rx_typed.specs.Named as named
use Rattle.rx_typed.specs.Named.{Written, Pattern, Exp, Else, written_node, pattern_node, whole_binding, node_of, never}
use Rattle.rx_typeck_solver.specs.declared.facts.Rule.{Rule}
use Rattle.rx_typeck_solver.specs.declared.facts.Op.TheVariants as op
use Rattle.rx_typeck_solver.specs.declared.facts.Fact.TheVariants as fact
use Rattle.rx_typeck_typed.specs.Asking.{Asking, ◌>>◌, nothing, ask, type_of}
use Rattle.rx_typeck_typed.specs.rules.Types.{whole_type}
use Rattle.rx_typeck_typed.specs.rules.Patterns.{Matched, a_value, matched, whole_pattern}
use Rattle.rx_typeck_typed.specs.rules.Expressions.{expects, part_before, part_after, nothing_given}

-- without a type and a value one variable is declared
abbrev pub one_variable_at : Node → Option ℕ → Asking
one_variable_at n (Some x) = nothing
one_variable_at n None = ask n Rule.Unclear (fact.Never ∷ [])

abbrev pub one_variable : Pattern → Asking
one_variable p = one_variable_at (pattern_node p) (whole_binding p)

abbrev pub declared : Pattern → Option Written → Asking
declared p None = one_variable p
declared p (Some t) = whole_type t >> whole_pattern a_value (type_of (written_node t)) p

abbrev pub typed_before : Option Written → Exp → Asking
typed_before None e = nothing
typed_before (Some t) e = whole_type t >> expects (node_of e) op.Same (type_of (written_node t) ∷ [])

-- by what has no type one variable is declared; else the pattern is matched with it
abbrev pub initialised_by : Bool → Pattern → Matched → Node → Asking
initialised_by true p s n = one_variable p
initialised_by false p s n = whole_pattern s (type_of n) p

abbrev pub initialised : Pattern → Option Written → Exp → Asking
initialised p None e = initialised_by (never e) p (matched e) (node_of e)
initialised p (Some t) e = whole_pattern (matched e) (type_of (written_node t)) p

-- a statement without `;` is unit or Never
abbrev pub evaluated : Bool → Node → Bool → Asking
evaluated true n v = nothing
evaluated false n v = nothing_given n v

-- a block without a tail has the unit, where it doesn't diverge
abbrev pub tail_before : Node → Else → Asking
tail_before n named.absent = nothing
tail_before n (named.present e) = part_before n n.site (node_of e)

abbrev pub tail_after : Node → Bool → Else → Asking
tail_after n d named.absent = nothing_given n d
tail_after n d (named.present e) = part_after n n.site (never e) (node_of e)
