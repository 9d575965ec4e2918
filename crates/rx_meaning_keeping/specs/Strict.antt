-- The strict way to act: what was moved and what has ended is marked in memory, and to look at what lacks a value is Wrong.
-- (Rust Reference, "Expressions", "Moved and copied types"; "Variables"; "Destructors"; "Behavior considered undefined".)
use Rattle.std.specs.Prelude.{ℕ, Bool, true, false, not, ◌&&◌, List, [], Option, Some, None, if◌then◌else◌}
use Rattle.rx_core.specs.declared.types.Step.{Step}
use Rattle.rx_typed.specs.Tree.{Root, variable, temporary}
use Rattle.rx_lower_walks.specs.Actions.{Act, Dead, Read, Write, Borrow, Test}
use Rattle.rx_meaning.specs.Endings.{Cause, wrong, lacks}
use Rattle.rx_meaning.specs.Straying.{why_not_found}
use Rattle.rx_meaning.specs.Values.{Lack, moved, ended, Value, lacking, is_set, and_then, put, element, with_element, slot_of, State, with_memory}
use Rattle.rx_meaning.specs.Results as results
use Rattle.rx_meaning.specs.Results.{Done, gives}
use Rattle.rx_meaning.specs.Places.{Spot, found}
use Rattle.rx_meaning.specs.Acting.{Acting, does_plainly}
use Rattle.rx_facts_tables.specs.Setting.{is_behind}

-- some part of what is there lacks a value
abbrev pub lacks_there : Option (Spot × Value) → Bool
lacks_there None = false
lacks_there (Some f) = not (is_set f.1)

abbrev pub is_lack : Cause → Bool
is_lack lacks = true
is_lack _ = false

-- the same, or the way there ends for this cause, at a lack
abbrev pub lacks_on_the_way : Cause → Option (Spot × Value) → Bool
lacks_on_the_way c None = is_lack c
lacks_on_the_way c (Some f) = not (is_set f.1)

-- Whether an action looks at a lack: reads, borrows or tests what has one inside, borrows a part of one, or writes to one behind a
-- reference. (To read or to test a part of a lack is Wrong for it anyhow. A variable, or a part of it, is written for the first
-- time, or again, where it lacks a value; below a lack nothing can be written.)
abbrev pub looks_at_lack : Act → List Value → State → Bool
looks_at_lack (Read m p d) vs s = lacks_there (found p vs s)
looks_at_lack (Borrow k p d) vs s = lacks_on_the_way (why_not_found p vs s) (found p vs s)
looks_at_lack (Test p c) vs s = lacks_there (found p vs s)
looks_at_lack (Write p t ss) vs s = is_behind p.steps && lacks_there (found p [] s)
looks_at_lack _ vs s = false

-- ---- marks

abbrev pub with_slot : List Value → ℕ → Option Value → List Value
with_slot M i None = M
with_slot M i (Some v) = with_element M i v

-- a slot with this lack at a way, if it is there
abbrev pub marked_in : List Value → ℕ → List Step → Lack → List Value
marked_in M i ss l = with_slot M i (and_then (element M i) (λ v. put ss (lacking l) v))

abbrev pub marked_slot : Option ℕ → List Step → Lack → State → State
marked_slot None ss l s = s
marked_slot (Some i) ss l s = with_memory s (marked_in s.memory i ss l)

-- of a place of a variable; nothing is moved from behind a reference, so nothing is marked there
abbrev pub marked_at : Root → List Step → Lack → State → State
marked_at (temporary t) ss l s = s
marked_at (variable x) ss l s = if is_behind ss then s else marked_slot (slot_of s.frame.slots x) ss l s

-- a move marks the part that it moves, and the end of a variable all of it
abbrev pub marked : Act → State → State
marked (Read true p d) s = marked_at p.root p.steps moved s
marked (Dead x) s = marked_slot (slot_of s.frame.slots x) [] ended s
marked _ s = s

abbrev pub then_marks : Act → Done ℕ → Done ℕ
then_marks a (gives w v s) = gives w v (marked a s)
then_marks a (results.ends w e) = results.ends w e

abbrev pub does_strictly : Act → List Value → State → Done ℕ
does_strictly a vs s = if looks_at_lack a vs s then results.ends [] (wrong lacks) else then_marks a (does_plainly a vs s)

abbrev pub strictly : Acting ℕ
strictly = record { perform = λ a vs s. does_strictly a.act vs s; inner = λ w. w }
