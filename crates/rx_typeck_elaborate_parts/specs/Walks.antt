-- Steps of the definition as steps of the code's walk.
use Rattle.std.specs.Prelude.{◌≡◌, Result, Ok, Err}
use Rattle.rx_typed.specs.Elaborated.{Assigned}
use Rattle.rx_typed.specs.Naming.{Cursor, Numbering}
use Rattle.rx_typeck_elaborate_parts.specs.Coercing.{types_of}
use Rattle.rx_typeck_elaborate_parts.specs.declared.walk.Walk.{Walk}

-- the walk at another place
abbrev pub moved : Cursor → Walk → Walk
moved c w = record { given = w.given; cursor = c }

-- what a function that goes over a part ensures, unless memory fails: the part is numbered
abbrev pub Goes : {A B E : Type 0} → Numbering A → Walk → Result B E → Walk → Type 0
Goes number old (Ok b) new = new ≡ moved (number old.cursor).1 old
Goes number old (Err e) new = Unit {0}

-- the same, and what is given stands for what the definition makes of the part with numbers
abbrev pub Builds : {A B C E : Type 0} → (B → C) → Numbering A → (Assigned → A → C) → Walk → Result B E → Walk → Type 0
Builds plain number made old (Ok b) new = (plain b ≡ made (types_of old.given) (number old.cursor).0) × (new ≡ moved (number old.cursor).1 old)
Builds plain number made old (Err e) new = Unit {0}

-- the same, beside what is told of the part
abbrev pub Tells : {A B C D E : Type 0} → (B → C) → Numbering A → (Assigned → A → C) → (A → D) → Walk → Result (B × D) E → Walk → Type 0
Tells plain number made told old (Ok b) new =
    (plain b.0 ≡ made (types_of old.given) (number old.cursor).0) × (b.1 ≡ told (number old.cursor).0) × (new ≡ moved (number old.cursor).1 old)
Tells plain number made told old (Err e) new = Unit {0}

-- the walk behind a part
abbrev pub behind : {A : Type 0} → Numbering A → Walk → Walk
behind number w = moved (number w.cursor).1 w
