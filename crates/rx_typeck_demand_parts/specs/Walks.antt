-- Steps of the definition as steps of the code's walk.
use Rattle.std.specs.Prelude.{◌≡◌, List, Result, Ok, Err}
use Rattle.rx_typed.specs.Naming.{Cursor, Numbering}
use Rattle.rx_typeck_solver.specs.declared.facts.Demand.{Demand}
use Rattle.rx_typeck_demand_parts.specs.declared.walk.Walk.{Walk}
use Rattle.rx_typeck_typed.specs.Asking.{Asking}

-- the walk with another cursor and other demands
abbrev pub stepped : Cursor → List Demand → Walk → Walk
stepped c ds w = record { alloc = w.alloc; item = w.item; cursor = c; demands = ds }

-- more is asked
abbrev pub asked : Asking → Walk → Walk
asked ask w = stepped w.cursor (ask w.demands) w

-- the cursor goes on
abbrev pub moved : Cursor → Walk → Walk
moved c w = stepped c w.demands w

-- going over a part: what is told of it, and the walk behind it
abbrev pub over : {A B : Type 0} → Numbering A → (A → Asking) → (A → B) → Walk → B × Walk
over number ask told w = (told (number w.cursor).0, stepped (number w.cursor).1 (ask (number w.cursor).0 w.demands) w)

-- what a function that goes over a part ensures: the part is numbered and its demands are asked, and what is given
-- is told of the numbered part, unless memory fails
abbrev pub Walks : {A B E : Type 0} → Numbering A → (A → Asking) → (A → B) → Walk → Result B E → Walk → Type 0
Walks number ask told old (Ok seen) new = (seen ≡ told (number old.cursor).0) × (new ≡ stepped (number old.cursor).1 (ask (number old.cursor).0 old.demands) old)
Walks number ask told old (Err e) new = Unit {0}

-- the same where nothing is told
abbrev pub Goes : {A B E : Type 0} → Numbering A → (A → Asking) → Walk → Result B E → Walk → Type 0
Goes number ask old (Ok seen) new = new ≡ stepped (number old.cursor).1 (ask (number old.cursor).0 old.demands) old
Goes number ask old (Err e) new = Unit {0}

-- the walk behind a part
abbrev pub behind : {A : Type 0} → Numbering A → (A → Asking) → Walk → Walk
behind number ask w = stepped (number w.cursor).1 (ask (number w.cursor).0 w.demands) w
