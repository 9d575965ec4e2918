-- What is written of a node, before each of its parts, and behind the last.
use Rattle.std.specs.Prelude.{ℕ, zero, suc, ◌+◌, ◌-◌, List, [], ◌∷◌, ◌++◌, slice_get, codes}
use Rattle.std.specs.Fmt.{signed_decimal}
use Rattle.rx_tree.specs.Plain.{ProgramTree}
use Rattle.rx_typed.specs.Elaborated.{with_sign}
use Rattle.rx_cover.specs.declared.node.Node.{Node}
use Rattle.rx_cover.specs.Values.{Values, no_value, value_and}
use Rattle.rx_cover.specs.PlainValue.{first, behind}
use Rattle.rx_cover_values.specs.declared.writing.Open.{Open}
use Rattle.rx_cover_values.specs.Shown.{name_of, fields_of, variants_of, variant_name, field_name, word, comma, shown, shown_parts, shown_fields}

abbrev pub parts_of : Node → ℕ
parts_of (Node.Int g m) = 0
parts_of (Node.Bool b) = 0
parts_of (Node.Tuple k) = k
parts_of (Node.Made i k) = k
parts_of (Node.Variant i j k) = k
parts_of Node.Reference = 1

abbrev pub brace : ℕ → List ℕ
brace zero = codes " {}"
brace (suc k) = codes " { "

abbrev pub end_brace : ℕ → List ℕ
end_brace zero = []
end_brace (suc k) = codes " }"

abbrev pub parenthesis : ℕ → List ℕ
parenthesis zero = []
parenthesis (suc k) = codes "("

abbrev pub end_parenthesis : ℕ → List ℕ
end_parenthesis zero = []
end_parenthesis (suc k) = codes ")"

abbrev pub end_by : ℕ → List ℕ
end_by (suc zero) = codes ",)"
end_by _ = codes ")"

-- of a node itself
abbrev pub opening : ProgramTree → Node → List ℕ
opening p (Node.Int g m) = signed_decimal (with_sign g m)
opening p (Node.Bool b) = word b
opening p (Node.Tuple k) = codes "("
opening p (Node.Made i k) = name_of (slice_get p i) ++ brace k
opening p (Node.Variant i j k) = name_of (slice_get p i) ++ (codes "::" ++ (variant_name (slice_get (variants_of (slice_get p i)) j) ++ parenthesis k))
opening p Node.Reference = codes "&"

-- before the field with this number
abbrev pub field_preface : ProgramTree → ℕ → ℕ → List ℕ
field_preface p i d = comma d ++ (field_name (slice_get (fields_of (slice_get p i)) d) ++ codes ": ")

-- before the part with this number
abbrev pub preface : ProgramTree → Node → ℕ → List ℕ
preface p (Node.Tuple k) d = comma d
preface p (Node.Variant i j k) d = comma d
preface p (Node.Made i k) d = field_preface p i d
preface p _ d = []

abbrev pub closing : Node → List ℕ
closing (Node.Tuple k) = end_by k
closing (Node.Made i k) = end_brace k
closing (Node.Variant i j k) = end_parenthesis k
closing _ = []

-- ---- what is still to be written

abbrev pub shown_each : ProgramTree → Values → List ℕ
shown_each p no_value = []
shown_each p (value_and v vs) = shown p v ++ shown_each p vs

-- of the parts from a number on
abbrev pub middle : ProgramTree → Node → ℕ → Values → List ℕ
middle p (Node.Tuple k) d vs = shown_parts p d vs
middle p (Node.Variant i j k) d vs = shown_parts p d vs
middle p (Node.Made i k) d vs = shown_fields p (fields_of (slice_get p i)) d vs
middle p Node.Reference d vs = shown_each p vs
middle p _ d vs = []

-- how many parts are still to be begun
abbrev pub left : Open → ℕ
left o = parts_of o.node - o.done

abbrev pub wanted : ℕ → List Open → ℕ
wanted n [] = n
wanted n (o ∷ os) = wanted (left o + n) os

-- of the open nodes, the innermost at the list's end, with these values as their parts
abbrev pub due : ProgramTree → (Values → List ℕ) → List Open → Values → List ℕ
due p rest [] vs = rest vs
due p rest (o ∷ os) vs = due p (λ ws. (middle p o.node o.done (first (left o) ws) ++ closing o.node) ++ rest (behind (left o) ws)) os vs
