-- Short forms for examples: a function from its syntax tree, the entries of its names, and the types of its nodes.
use Rattle.std.specs.Prelude.{ℕ, false, nat_eq, List, [], ◌∷◌, if◌then◌else◌}
use Rattle.rx_core.specs.declared.types.Span.{Span}
use Rattle.rx_tree.specs.declared.tree.Ident.{Ident}
use Rattle.rx_tree.specs.Erase.{nowhere}
use Rattle.rx_tree.specs.Plain as plain
use Rattle.rx_resolve_names.specs.declared.resolved.NodeNames.{NodeNames}
use Rattle.rx_typed.specs.Types.{Typ, Declarations, unit_shape}
use Rattle.rx_typed.specs.Naming.{function_named}
use Rattle.rx_typed.specs.Tree.{Function}
use Rattle.rx_typed.specs.Elaborated.{elaborated}

abbrev pub at : Span
at = nowhere

abbrev pub word : List ℕ → Ident
word x = record { span = at; name = x }

abbrev pub table : {A : Type 0} → List (ℕ × A) → A → ℕ → A
table [] a n = a
table (b ∷ bs) a n = if nat_eq n b.0 then b.1 else table bs a n

abbrev pub names_of : List (List ℕ) → List NodeNames
names_of [] = []
names_of (ns ∷ l) = record { node = record { item = 0; path = [] }; numbers = ns; hidden = false } ∷ names_of l

-- its item, what is declared, the types of nodes, the types that places expect, the entries of names, the tree
abbrev pub function_of : ℕ → Declarations → List (ℕ × Typ) → List (ℕ × Typ) → List (List ℕ) → plain.Function → Function
function_of i D ts es ns f = elaborated (record { items = D; typ = table ts unit_shape; expected = table es unit_shape }) (function_named i at f (names_of ns))
