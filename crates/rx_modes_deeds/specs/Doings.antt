-- What actions do to the paths of each variable, gathered in one pass over them; and what that says of lists of actions. (Rust
-- Reference, "Moved and copied types", "Mutability"; RFC 2094, "Access legality".)
use Rattle.std.specs.Prelude.{◌==◌, ℕ, true, false, ◌||◌, if◌then◌else◌, List, [], ◌∷◌, get_or}
use Rattle.std.specs.Bool.{Decides}
use Rattle.rx_typed.specs.Tree.{Root, variable, temporary, Place}
use Rattle.rx_lower_walks.specs.Actions.{Act, Read, Write, Borrow, Action}
use Rattle.rx_lower_walks.specs.Walks.{actions_in}
use Rattle.rx_lower_walks.specs.Flows.{Item, doing, ending, may, trying, order_of}
use Rattle.rx_facts_tables.specs.Setting.{is_behind}
use Rattle.rx_modes_uses.specs.Paths.{OwnPath, PathBehind}
use Rattle.rx_modes_uses.specs.Deeds as deeds
use Rattle.rx_modes_uses.specs.Deeds.{Done}
use Rattle.rx_modes_deeds.specs.declared.deeds.Deeds.{Deeds}

-- ---- what one action does

abbrev pub nothing_done : Deeds
nothing_done = record { moved = false; changed = false; shared = false; borrowed_mutably = false; through = false }

abbrev pub moving : Deeds
moving = record { moved = true; changed = false; shared = false; borrowed_mutably = false; through = false }

abbrev pub writing : Deeds
writing = record { moved = false; changed = true; shared = false; borrowed_mutably = false; through = false }

abbrev pub sharing : Deeds
sharing = record { moved = false; changed = false; shared = true; borrowed_mutably = false; through = false }

abbrev pub lending : Deeds
lending = record { moved = false; changed = true; shared = false; borrowed_mutably = true; through = false }

abbrev pub changing_behind : Deeds
changing_behind = record { moved = false; changed = false; shared = false; borrowed_mutably = false; through = true }

-- to the variable that a place begins with, and to no other
abbrev pub done_at : Root → Deeds → ℕ → Deeds
done_at (variable y) d x = if y == x then d else nothing_done
done_at (temporary t) d x = nothing_done

-- by where the place is: in front of each dereference, or behind one
abbrev pub done_to : Place → Deeds → Deeds → ℕ → Deeds
done_to p own behind x = done_at p.root (if is_behind p.steps then behind else own) x

abbrev pub done_by : Act → ℕ → Deeds
done_by (Read true p d) x = done_to p moving nothing_done x
done_by (Write p t ss) x = done_to p writing changing_behind x
done_by (Borrow true p d) x = done_to p lending changing_behind x
done_by (Borrow false p d) x = done_to p sharing nothing_done x
done_by _ x = nothing_done

-- ---- what several do

abbrev pub both : Deeds → Deeds → Deeds
both d e = record {
  moved = d.moved || e.moved;
  changed = d.changed || e.changed;
  shared = d.shared || e.shared;
  borrowed_mutably = d.borrowed_mutably || e.borrowed_mutably;
  through = d.through || e.through;
}

abbrev pub noted : (ℕ → Deeds) → Action → ℕ → Deeds
noted t a x = both (done_by a.act x) (t x)

abbrev pub all_noted : (ℕ → Deeds) → List Action → ℕ → Deeds
all_noted t [] = t
all_noted t (a ∷ l) = all_noted (noted t a) l

-- those of an item in front of what follows it
abbrev pub item_actions : Item → List Action
item_actions (doing f) = actions_in (order_of f)
item_actions (ending n x) = []
item_actions may = []
item_actions (trying f) = actions_in (order_of f)

-- in a table by variable, as far as it goes
abbrev pub deeds_at : List Deeds → ℕ → Deeds
deeds_at l x = get_or l x nothing_done

-- ---- what they are

pub record AreDeeds (l : List Action) (x : ℕ) (d : Deeds) : Type 0 where
  pub moved : Decides d.moved (Done deeds.moved (OwnPath x) l)
  pub changed : Decides d.changed (Done deeds.changed (OwnPath x) l)
  pub shared : Decides d.shared (Done deeds.shared (OwnPath x) l)
  pub borrowed_mutably : Decides d.borrowed_mutably (Done deeds.borrowed_mutably (OwnPath x) l)
  pub through : Decides d.through (Done deeds.changed (PathBehind x) l)
