-- Names of new items that differ from those of the other items (Rust Reference, "Namespaces"): an enum that may be missing, and behind
-- it a function.
use Rattle.std.specs.Prelude.{◌≡◌, ◌≢◌, ⊤, true, false, List, [], ◌∷◌, ℕ, Option, Some, None}
use Rattle.std.specs.Str.{bytes_eq}
use Rattle.rx_core.specs.declared.types.Span.{Span}
use Rattle.rx_tree.specs.declared.tree.Ident.{Ident}
use Rattle.rx_tree.specs.Lists.{Every}
use Rattle.rx_tree.specs.Plain as plain
use Rattle.rx_tree.specs.Plain.{Enumeration, Function, ItemTree, ProgramTree}
use Rattle.rx_resolve_names.specs.Meant.{type_name, function_name}
use Rattle.rx_hoist_extraction.specs.Names.{Names, is_among}
use Rattle.rx_hoist_extraction.specs.Plan.{Plan, has_enum, enum_name}

abbrev pub Avoids : Names → Option Ident → Type 0
Avoids X None = Unit {0}
Avoids X (Some y) = is_among y.name X ≡ false

abbrev pub AvoidAll : Names → Names → ProgramTree → Type 0
AvoidAll X Y is = Every (λ i. Avoids X (type_name i) × Avoids Y (function_name i)) is

-- a function behind, and an enum in front of it or not
abbrev pub enum_first : Option (Span × Enumeration) → ItemTree → ProgramTree
enum_first None g = g ∷ []
enum_first (Some e) g = plain.enum_item e.0 e.1 ∷ g ∷ []

abbrev pub enum_names : Option (Span × Enumeration) → Names
enum_names None = []
enum_names (Some e) = e.1.name.name ∷ []

-- a name that no item has stays new
abbrev pub Differs : List ℕ → Option Ident → Type 0
Differs x None = Unit {0}
Differs x (Some y) = bytes_eq x y.name ≡ false

-- the enum's name differs from those of structs, enums and `rt`, the function's from those of functions
abbrev pub EnumDiffers : Option (Span × Enumeration) → Option Ident → Type 0
EnumDiffers None o = Unit {0}
EnumDiffers (Some e) o = Differs e.1.name.name o

abbrev pub AllDiffer : Option (Span × Enumeration) → Function → ProgramTree → Type 0
AllDiffer q g is = Every (λ i. EnumDiffers q (type_name i) × Differs g.name.name (function_name i)) is

-- ---- the names of an extraction

-- the name that an item has, if it has one, is another
abbrev pub Other : List ℕ → Option Ident → Type 0
Other x None = ⊤
Other x (Some y) = x ≢ y.name

-- no item of the program has the name of the new function, nor that of the enum of exits, where there is one
pub record AreFree (P : ProgramTree) (pl : Plan) : Type 0 where
  pub function : Every (λ i. Other pl.name (function_name i)) P
  pub exits : has_enum pl.exits ≡ true → Every (λ i. Other (enum_name pl) (type_name i)) P
