-- The plain value of a value of the code.
use Rattle.std.specs.Prelude.{◌≡◌, ℕ, Bool, List, [], ◌∷◌, ◌++◌, length, map}
use Rattle.std.proofs.Common.{Box, Global, refl}
use Rattle.rx_machine_values.specs.declared.number.Number.{Number}
use Rattle.rx_machine_values.specs.declared.value.Lack.{Lack}
use Rattle.rx_machine_values.specs.declared.value.Pointer.{Pointer}
use Rattle.rx_machine_values.specs.declared.value.Node.{Node}
use Rattle.rx_machine_values.specs.declared.value.Node.TheVariants as node
use Rattle.rx_machine_values.specs.declared.value.Value.{Value}
use Rattle.rx_machine_values.specs.declared.value.Value.TheVariants as value
use Rattle.rx_machine_values.specs.declared.value.Parts.{Parts}
use Rattle.rx_machine_values.specs.declared.reading.Part.{Part}
use Rattle.rx_machine_values.specs.declared.reading.Part.TheVariants as part
use Rattle.rx_machine_values.specs.PlainNumber.{plain-Number}
use Rattle.rx_machine_values.specs.Rows as rows
use Rattle.rx_machine_values.specs.Rows.{leaf, values_in}
use Rattle.rx_meaning.specs.Values as plain
use Rattle.rx_meaning.specs.Values.{Values, no_value, value_and}

abbrev pub plain-Lack : Lack → plain.Lack
plain-Lack Lack.Unset = plain.unset
plain-Lack Lack.Moved = plain.moved
plain-Lack Lack.Ended = plain.ended

abbrev pub values_of : List plain.Value → Values
values_of [] = no_value
values_of (v ∷ vs) = value_and v (values_of vs)

abbrev pub plain-Pointer : Pointer → plain.Value
plain-Pointer p = plain.pointer p.slot p.path p.mutable

abbrev pub plain-Node : Node → rows.Node
plain-Node (node.Number n) = leaf (plain-Number n)
plain-Node (node.Truth b) = leaf (plain.truth b)
plain-Node (node.Whole n) = rows.whole n
plain-Node (node.Tagged i n) = rows.tagged i n
plain-Node (node.Pointer b) = leaf (plain-Pointer b.value)
plain-Node (node.Lacking l) = leaf (plain.lacking (plain-Lack l))

abbrev pub plain-Nodes : List Node → List rows.Node
plain-Nodes ns = map plain-Node ns

unfoldable pub plain-Parts : Parts → Values
plain-Parts p = values_in (plain-Nodes p.nodes)

unfoldable pub plain-Value : Value → plain.Value
plain-Value (value.Number n) = plain-Number n
plain-Value (value.Truth b) = plain.truth b
plain-Value value.Unit = plain.unit_value
plain-Value (value.Whole b) = plain.whole (plain-Parts b.value)
plain-Value (value.Tagged i b) = plain.tagged i (plain-Parts b.value)
plain-Value (value.Pointer b) = plain-Pointer b.value
plain-Value (value.Lacking l) = plain.lacking (plain-Lack l)

-- the nodes of a value
abbrev pub row_of : Value → List rows.Node
row_of (value.Number n) = leaf (plain-Number n) ∷ []
row_of (value.Truth b) = leaf (plain.truth b) ∷ []
row_of value.Unit = rows.whole 0 ∷ []
row_of (value.Whole b) = rows.whole (length b.value.nodes) ∷ plain-Nodes b.value.nodes
row_of (value.Tagged i b) = rows.tagged i (length b.value.nodes) ∷ plain-Nodes b.value.nodes
row_of (value.Pointer b) = leaf (plain-Pointer b.value) ∷ []
row_of (value.Lacking l) = leaf (plain.lacking (plain-Lack l)) ∷ []

abbrev pub rows_of : List Value → List rows.Node
rows_of [] = []
rows_of (v ∷ vs) = row_of v ++ rows_of vs

-- the plain value of what stands somewhere
abbrev pub plain-Part : Part → plain.Value
plain-Part (part.Number n) = plain-Number n
plain-Part (part.Truth b) = plain.truth b
plain-Part (part.Whole ns) = plain.whole (values_in (plain-Nodes ns.now))
plain-Part (part.Tagged i ns) = plain.tagged i (values_in (plain-Nodes ns.now))
plain-Part (part.Pointer p) = plain-Pointer p.now
plain-Part (part.Lacking l) = plain.lacking (plain-Lack l)

-- ---- by their forms

pub value_number : (n : Number) → plain-Value (value.Number n) ≡ plain-Number n
unfolding plain-Value
value_number n = refl

pub value_truth : (b : Bool) → plain-Value (value.Truth b) ≡ plain.truth b
unfolding plain-Value
value_truth b = refl

pub value_unit : plain-Value value.Unit ≡ plain.unit_value
unfolding plain-Value
value_unit = refl

pub value_whole : (b : Box Parts Global) → plain-Value (value.Whole b) ≡ plain.whole (plain-Parts b.value)
unfolding plain-Value
value_whole b = refl

pub value_tagged : (i : ℕ) (b : Box Parts Global) → plain-Value (value.Tagged i b) ≡ plain.tagged i (plain-Parts b.value)
unfolding plain-Value
value_tagged i b = refl

pub value_pointer : (b : Box Pointer Global) → plain-Value (value.Pointer b) ≡ plain-Pointer b.value
unfolding plain-Value
value_pointer b = refl

pub value_lacking : (l : Lack) → plain-Value (value.Lacking l) ≡ plain.lacking (plain-Lack l)
unfolding plain-Value
value_lacking l = refl

pub parts_is : (p : Parts) → plain-Parts p ≡ values_in (plain-Nodes p.nodes)
unfolding plain-Parts
parts_is p = refl
