-- What a plan says that its run does to the variables and loops round it, and so the call in its place (REM, "Extract function", outputs and control flow; Rust
-- Reference, "Assignment expressions", "break expressions", "Divergence"): which variables are assigned, which loops are left, whether it diverges.
use Rattle.std.specs.Prelude.{if◌then◌else◌, ◌≡◌, ◌<◌, ◌==◌, ℕ, Bool, true, false, not, ◌&&◌, ◌||◌, List, [], ◌∷◌, length, Option, Some, None, slice_get}
use Rattle.rx_tree.specs.Lists.{nth}
use Rattle.rx_tree.specs.Plain.{OptionalExpression, Statement}
use Rattle.rx_resolve_names.specs.Scopes.{variable_named}
use Rattle.rx_resolve_names.specs.Steps.{Inside}
use Rattle.rx_typed.specs.declared.nodes.Node.{Node}
use Rattle.rx_typed.specs.Named.{else_diverges, some_diverges, tail_never}
use Rattle.rx_typed.specs.Naming.{Cursor, of_optional, of_statements}
use Rattle.rx_hoist_extraction.specs.Names.{Names}
use Rattle.rx_hoist_extraction.specs.Plan.{has_enum, has_exit, names_of, to_break, to_continue, to_next, Exit, Leaving}
use Rattle.rx_hoist_extraction.specs.Values.{held_by, next_values, result_of, Value}
use Rattle.rx_hoist_extraction.specs.Call.{is_own}
use Rattle.rx_hoist_extraction.specs.Run.{as_statements}
use Rattle.rx_engine_names.specs.Calls.{Calls}
use Rattle.rx_engine_names.specs.HandedOut.{Handing}
use Rattle.rx_engine_names.specs.HandsOver.{at_place}
use Rattle.rx_engine_names.specs.Moves.{numbers_of}
use Rattle.rx_engine_names.specs.Placed.{Place}
use Rattle.rx_engine_names.specs.Replaced.{NumberedBehind, NumberedLast}
use Rattle.rx_engine_changed.specs.Deeds.{also, of_else, Deeds}
use Rattle.rx_engine_changed.specs.Deeds as deeds
use Rattle.rx_engine_changed.specs.Stages.{waits_there}

abbrev pub is_that : Option ℕ → ℕ → Bool
is_that None n = false
is_that (Some j) n = j == n

-- one of these names means this variable where the run begins
abbrev pub names_one : Calls → Names → ℕ → Bool
names_one C [] n = false
names_one C (x ∷ xs) n = is_that (variable_named C.scope x) n || names_one C xs n

-- ---- variables

-- what a jump hands out, by these names, is assigned in front of it
abbrev pub assigned_for : Handing → Exit → Names → ℕ → Bool
assigned_for G (to_break k) xs n = names_one G.call xs n
assigned_for G (to_continue k) xs n = names_one G.call xs n
assigned_for G _ xs n = false

abbrev pub assigned_in_arms : Handing → List Leaving → ℕ → Bool
assigned_in_arms G [] n = false
assigned_in_arms G (x ∷ xs) n = assigned_for G x.exit (names_of x.outs) n || assigned_in_arms G xs n

-- what the end hands out is assigned, but for what a direct statement of the run declares
abbrev pub put_back : Handing → List Value → ℕ → Bool
put_back G [] n = false
put_back G (result_of t ∷ hs) n = put_back G hs n
put_back G (held_by v ∷ hs) n = (if is_own G.own v then false else is_that (variable_named G.call.scope v.name) n) || put_back G hs n

abbrev pub planned_assigned : Handing → ℕ → Bool
planned_assigned G n = assigned_in_arms G G.call.plan.exits n || put_back G (next_values G.call.plan) n

-- ---- loops, by how many stand in front round the run

abbrev pub leaves_by : Handing → Exit → ℕ → Bool
leaves_by G (to_break k) l = is_that (nth (numbers_of G.loops) k) l
leaves_by G _ l = false

abbrev pub left_in_arms : Handing → List Leaving → ℕ → Bool
left_in_arms G [] l = false
left_in_arms G (x ∷ xs) l = leaves_by G x.exit l || left_in_arms G xs l

abbrev pub planned_left : Handing → ℕ → Bool
planned_left G l = left_in_arms G G.call.plan.exits l

-- ---- whether it diverges

abbrev pub planned_diverging : Handing → Bool
planned_diverging G = has_enum G.call.plan.exits && not (has_exit to_next G.call.plan.exits)

-- whether a block has no value behind statements that diverge or not, where these are handed out at its end
abbrev pub ends_without : List Value → Bool → Bool
ends_without (result_of t ∷ hs) d = false
ends_without _ d = d

abbrev pub planned_ending : Handing → Bool → Bool
planned_ending G d = ends_without (next_values G.call.plan) (d || planned_diverging G)

-- ---- a run that does so

-- from here on: a variable in front that waits is assigned where the plan says so, and loops are left where it does
pub record DoesAsPlanned (G : Handing) (f : Deeds) (c : Cursor) : Type 0 where
  pub assigned : (n : ℕ) → n < c.declared → waits_there (slice_get c.variables n) ≡ true → f.assigns n ≡ planned_assigned G n
  pub left : (l : ℕ) → l < length c.loops → f.leaves l ≡ planned_left G l

-- Wherever the text comes to the run: it does as planned, and diverges as planned. `C` says where it comes to it.
abbrev pub RunAsPlanned : Handing → Inside → (Cursor → Type 0) → List Statement → List Statement → Type 0
RunAsPlanned G I C front run = (c : Cursor) (p : Place) → C c → (s : NumberedBehind I p.scope p.around p.way front run p.tables (of_statements (as_statements run) c).0)
    → DoesAsPlanned (at_place G s.middle.scope p.around) (deeds.of_statements (of_statements (as_statements run) c).0) c × (some_diverges (of_statements (as_statements run) c).0 ≡ planned_diverging (at_place G s.middle.scope p.around))

-- the same with a tail, which has a value where one is handed out
abbrev pub EndAsPlanned : Handing → Inside → (Node → Bool → Cursor → Type 0) → List Statement → List Statement → OptionalExpression → Type 0
EndAsPlanned G I C front run tail = (c : Cursor) (p : Place) (n : Node) (d : Bool) → C n d c
    → (s : NumberedLast I p.scope p.around p.way front run tail p.tables (of_statements (as_statements run) c).0 (of_optional n.site tail (of_statements (as_statements run) c).1).0)
    → DoesAsPlanned (at_place G s.middle.scope p.around) (also (deeds.of_statements (of_statements (as_statements run) c).0) (of_else (of_optional n.site tail (of_statements (as_statements run) c).1).0)) c
    × ((some_diverges (of_statements (as_statements run) c).0 || else_diverges (of_optional n.site tail (of_statements (as_statements run) c).1).0) ≡ planned_diverging (at_place G s.middle.scope p.around))
    × ((b : Bool) → tail_never (b || some_diverges (of_statements (as_statements run) c).0) (of_optional n.site tail (of_statements (as_statements run) c).1).0 ≡ planned_ending (at_place G s.middle.scope p.around) b)
