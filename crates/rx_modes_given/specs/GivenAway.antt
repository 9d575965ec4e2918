-- Params that are given away: they are passed by value, and not copied. The run moves them; or it changes something behind a reference inside
-- them, as in `*p.0 = 2;`, so that no shared reference to them serves, and no copy, as a type with such a reference is not Copy. A mutable
-- reference itself can be asked for again, and what is declared `mut` can be lent mutably: those are not given away. (REM, "Extract method",
-- the analysis of ownership; Rust Reference, "Moved and copied types", "Mutability".)
use Rattle.std.specs.Prelude.{ℕ, Bool, true, false, not, ◌&&◌, ◌||◌, List, [], ◌∷◌, Option, Some, slice_get}
use Rattle.rx_typed.specs.Types.{Typ, reference}
use Rattle.rx_lower_walks.specs.Actions.{Act, Write, Borrow, Action}
use Rattle.rx_facts_tables.specs.Setting.{is_behind}
use Rattle.rx_facts_tables.specs.Wholes.{is_variable}
use Rattle.rx_exits_plan.specs.Asked.{Asked}
use Rattle.rx_exits_plan.specs.Plan.{run_actions, is_moved}

-- assigns or borrows mutably a place that is reached from the variable by a dereference
abbrev pub changes_behind : ℕ → Act → Bool
changes_behind x (Write p t ss) = is_variable p.root x && is_behind p.steps
changes_behind x (Borrow true p d) = is_variable p.root x && is_behind p.steps
changes_behind x _ = false

abbrev pub some_changes_behind : ℕ → List Action → Bool
some_changes_behind x [] = false
some_changes_behind x (a ∷ l) = changes_behind x a.act || some_changes_behind x l

-- whether or not some walk comes there
abbrev pub is_changed_behind : Asked → ℕ → Bool
is_changed_behind A x = some_changes_behind x (run_actions A.run A.home.body)

abbrev pub is_mutable_reference : Option (Option Typ) → Bool
is_mutable_reference (Some (Some (reference true t))) = true
is_mutable_reference _ = false

abbrev pub is_mut : Option Bool → Bool
is_mut (Some true) = true
is_mut _ = false

-- declared `mut`, and the muts of the function's variables
abbrev pub is_given_away : Asked → List Bool → ℕ → Bool
is_given_away A muts x =
    is_moved A x || (is_changed_behind A x && not (is_mutable_reference (slice_get A.frame.types x) || is_mut (slice_get muts x)))
