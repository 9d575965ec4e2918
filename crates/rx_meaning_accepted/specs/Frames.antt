-- The frames of a typed program's functions, by their items: the types of their variables, and which are declared `mut`.
use Rattle.std.specs.Prelude.{ℕ, Bool, true, List, [], ◌∷◌, Option, Some, None}
use Rattle.rx_typed.specs.Types.{Declarations}
use Rattle.rx_typed.specs.PlainTypes.{declarations}
use Rattle.rx_typeck_typed.specs.declared.typed.TypedFn.{TypedFn}
use Rattle.rx_typeck_typed.specs.declared.typed.Typed.{Typed}
use Rattle.rx_facts_tables.specs.Places.{Frame}
use Rattle.rx_facts.specs.Functions.{frame_of}
use Rattle.rx_meaning.specs.Values.{element}
use Rattle.rx_machine.specs.Functions.{is_function, behind}

-- the next function, where one is declared
abbrev pub next_of : Bool → List TypedFn → Option TypedFn
next_of true (t ∷ ts) = Some t
next_of _ ts = None

abbrev pub functions_at : Declarations → List TypedFn → List (Option TypedFn)
functions_at [] ts = []
functions_at (d ∷ ds) ts = next_of (is_function d) ts ∷ functions_at ds (behind (is_function d) ts)

-- where no function is, there are no variables
abbrev pub frame_by : Declarations → (ℕ → ℕ) → Option (Option TypedFn) → Frame
frame_by D P (Some (Some f)) = frame_of D P f
frame_by D P _ = record { declared = D; sizes = P; types = [] }

abbrev pub mutable_by : Option (Option TypedFn) → List Bool
mutable_by (Some (Some f)) = f.mutable
mutable_by _ = []

-- by how many parts structs and enums have
abbrev pub frames : Typed → (ℕ → ℕ) → ℕ → Frame
frames t P n = frame_by (declarations t.decls.items) P (element (functions_at (declarations t.decls.items) t.functions) n)

abbrev pub mutables : Typed → ℕ → List Bool
mutables t n = mutable_by (element (functions_at (declarations t.decls.items) t.functions) n)
