-- What a coercion site does, by what its two types are at the outside.
use Rattle.std.specs.Prelude.{Bool, true, false, Option, Some, None}
use Rattle.rx_typed.specs.Types.{Typ, reference}
use Rattle.rx_typed.specs.declared.nodes.Node.{Node}
use Rattle.rx_typed.specs.Elaborated as elaborated
use Rattle.rx_typed.specs.Tree as tree
use Rattle.rx_typed.specs.Tree.{Place, Scrutinee}
use Rattle.rx_typeck_elaborate_parts.specs.declared.marks.Coercion.{Coercion}
use Rattle.rx_typeck_elaborate_parts.specs.declared.marks.Given.{Given}
use Rattle.rx_typeck_elaborate_parts.specs.Assigning.{assigned}

-- whether it is a reference, and if so, whether that is mutable
abbrev pub reference_of : Typ → Option Bool
reference_of (reference m t) = Some m
reference_of _ = None

abbrev pub coercion_of : Option Bool → Option Bool → elaborated.Coercion
coercion_of (Some true) (Some true) = elaborated.reborrow
coercion_of (Some true) (Some false) = elaborated.share
coercion_of _ _ = elaborated.plain

abbrev pub plain-Coercion : Coercion → elaborated.Coercion
plain-Coercion Coercion.Plain = elaborated.plain
plain-Coercion Coercion.Reborrow = elaborated.reborrow
plain-Coercion Coercion.Share = elaborated.share

-- a place that is matched, by what its coercion site does
abbrev pub place_matched_as : elaborated.Assigned → Node → elaborated.Coercion → Place → Scrutinee
place_matched_as T n elaborated.plain p = tree.at_place (elaborated.mark T n) p
place_matched_as T n c p = tree.of_value (elaborated.read_as T n c p)

abbrev pub place_matched : elaborated.Assigned → Node → Place → Scrutinee
place_matched T n p = place_matched_as T n (elaborated.coercion_at T n) p

-- the assignment that is given
abbrev pub types_of : Given → elaborated.Assigned
types_of g = assigned g.decls.now g.types.now
