-- Whether a place is there as a whole, so that a part of it may be written; and which variables were assigned.
-- (Rust Reference, "Assignment expressions"; "Variables".)
use Rattle.std.specs.Prelude.{ℕ, Bool, true, false, not, ◌&&◌, ◌==◌, List, [], ◌∷◌}
use Rattle.rx_core.specs.declared.types.Step.{Step}
use Rattle.rx_typed.specs.Tree.{Place, Root, variable, temporary}
use Rattle.rx_typed.specs.TypedPlaces.{is_front, same_steps}
use Rattle.rx_lower_walks.specs.Actions.{Act, Declare, Dead, Read, Write, Action}
use Rattle.rx_facts_tables.specs.Along.{Switch, after}
use Rattle.rx_facts_tables.specs.Setting.{is_behind}

-- the place of a variable
abbrev pub placed : ℕ → List Step → Place
placed x ss = record { root = variable x; steps = ss }

-- whether what a way leads to holds what the other does as a part, and is behind no dereference
abbrev pub holds_in : List Step → List Step → Bool
holds_in qs ss = is_front qs ss && not (is_front ss qs) && not (is_behind qs)

abbrev pub is_variable : Root → ℕ → Bool
is_variable (variable x) y = x == y
is_variable (temporary t) y = false

abbrev pub is_all : List Step → Bool
is_all [] = true
is_all _ = false

-- whether an action writes a part of this place of a variable, or through a reference that is this place
abbrev pub enters : ℕ → List Step → Act → Bool
enters x qs (Write p t ss) = is_variable p.root x && holds_in qs p.steps
enters x qs _ = false

-- a write of the place, or of one that it is in
abbrev pub regains : ℕ → List Step → Act → Bool
regains x qs (Write p t ss) = is_variable p.root x && is_front p.steps qs
regains x qs _ = false

-- a move of exactly this place; the begin or the end of exactly this variable
abbrev pub loses : ℕ → List Step → Act → Bool
loses x qs (Declare y) = y == x && is_all qs
loses x qs (Dead y) = y == x && is_all qs
loses x qs (Read true p d) = is_variable p.root x && same_steps p.steps qs
loses x qs _ = false

abbrev pub standing : ℕ → List Step → Switch
standing x qs = record { gives = λ a. regains x qs a.act; kills = λ a. loses x qs a.act }

-- there is a write of it, or of one that it is in, since it was last lost
abbrev pub stands : List Action → ℕ → List Step → Bool
stands w x qs = after (standing x qs) w false

-- ---- variables that were assigned

-- a write of the whole variable
abbrev pub assigns : ℕ → Act → Bool
assigns x (Write p t ss) = is_variable p.root x && is_all p.steps
assigns x _ = false

abbrev pub begins : ℕ → Act → Bool
begins x (Declare y) = y == x
begins x _ = false

abbrev pub assigning : ℕ → Switch
assigning x = record { gives = λ a. assigns x a.act; kills = λ a. begins x a.act }

-- a variable was written as a whole since it last began; no move ends that
abbrev pub was_assigned : List Action → ℕ → Bool
was_assigned w x = after (assigning x) w false
