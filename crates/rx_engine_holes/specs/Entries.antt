-- An assignment of types that is given by its entries: each is a subject and its type.
use Rattle.std.specs.Prelude.{◌≡◌, ◌⊎◌, false, if◌then◌else◌, List, [], ◌∷◌, Option, Some, None, option_map}
use Rattle.rx_typed.specs.Types.{Typ, unit_shape}
use Rattle.rx_typeck_solver.specs.declared.facts.Subject.{Subject}
use Rattle.rx_typeck_solver.specs.Facts.{Assignment}
use Rattle.rx_typeck_solver.specs.Solver.{same_subject}
use Rattle.rx_engine_blocks.specs.Renumbering.{Renumbering, shape_at}
use Rattle.rx_engine_blocks.specs.Along.{subject_back, PartialInverse}

abbrev pub Entries : Type 0
Entries = List (Subject × Typ)

-- what has no entry has the unit
abbrev pub assigned : Entries → Assignment
assigned [] x = unit_shape
assigned (e ∷ es) x = if same_subject x e.0 then e.1 else assigned es x

-- an assignment gives these types
abbrev pub Has : Assignment → Entries → Type 0
Has C [] = Unit {0}
Has C (e ∷ es) = (C e.0 ≡ e.1) × Has C es

-- a subject has no entry
abbrev pub Without : Subject → Entries → Type 0
Without x [] = Unit {0}
Without x (e ∷ es) = (same_subject e.0 x ≡ false) × Without x es

-- a typing context: the types of some subjects; and with entries
abbrev pub Context : Type 0
Context = Subject → Option Typ

abbrev pub with_entries : Entries → Context → Context
with_entries [] B x = B x
with_entries (e ∷ es) B x = if same_subject x e.0 then Some e.1 else with_entries es B x

-- those of what comes from the text
abbrev pub of_text : (q : Renumbering) → PartialInverse q → Assignment → Context
of_text q w A y = option_map (λ x. shape_at q (A x)) (subject_back q w y)

-- each subject was made, and has one entry; or it comes from the text, and has its type there
abbrev pub Apart : (q : Renumbering) → PartialInverse q → Assignment → Entries → Type 0
Apart q w A [] = Unit {0}
Apart q w A (e ∷ es) = (((subject_back q w e.0 ≡ None) × Without e.0 es) ⊎ (of_text q w A e.0 ≡ Some e.1)) × Apart q w A es
