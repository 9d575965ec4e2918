-- A step of the definition as a step of the code's walk.
use Rattle.std.specs.Prelude.{◌≡◌, ◌≢◌, ℕ, List, [], ◌∷◌, length, map, Option, option_map, Result, Ok, Err}
use Rattle.rx_tree.specs.declared.tree.Ident.{Ident}
use Rattle.rx_tree.specs.declared.tree.Item.{Item}
use Rattle.rx_tree.specs.Plain.{ItemTree}
use Rattle.rx_tree.specs.PlainOf.{plain-Item}
use Rattle.rx_resolve_names.specs.Scopes.{Variables, DeclaredNames}
use Rattle.rx_resolve_names.specs.declared.resolved.ItemNames.{ItemNames}
use Rattle.rx_resolve.specs.declared.walk.Walk.{Walk}
use Rattle.rx_resolve.specs.declared.walk.Around as code
use Rattle.rx_resolve.specs.declared.walk.Around.TheVariants as around
use Rattle.rx_resolve_names.specs.declared.resolved.Misnamed.{Misnamed}
use Rattle.rx_resolve_names.specs.declared.resolved.Misnamed.TheVariants as misnamed
use Rattle.rx_resolve.specs.declared.entries.Destination as code_target
use Rattle.rx_resolve.specs.declared.entries.Destination.TheVariants as target_form
use Rattle.rx_resolve_names.specs.Meant.{number, firsts, lifetimes_declared, Around, a_loop, a_test, Target, to_loop, out_of_test, nowhere}
use Rattle.rx_resolve_names.specs.Steps.{Outcome, Inside, position, with_loop}
use Rattle.rx_resolve_names.specs.Names.{Bound, Scoped}

abbrev pub with_tables : ItemNames → Walk → Walk
with_tables t w = record { alloc = w.alloc; items = w.items; item = w.item; lifetimes = w.lifetimes; path = w.path; scope = w.scope; around = w.around; tables = t }

abbrev pub with_path : List ℕ → Walk → Walk
with_path p w = record { alloc = w.alloc; items = w.items; item = w.item; lifetimes = w.lifetimes; path = p; scope = w.scope; around = w.around; tables = w.tables }

abbrev pub with_scope : Variables → Walk → Walk
with_scope s w = record { alloc = w.alloc; items = w.items; item = w.item; lifetimes = w.lifetimes; path = w.path; scope = s; around = w.around; tables = w.tables }

abbrev pub with_around : List code.Around → Walk → Walk
with_around a w = record { alloc = w.alloc; items = w.items; item = w.item; lifetimes = w.lifetimes; path = w.path; scope = w.scope; around = a; tables = w.tables }

-- without the last
unfoldable pub above : {A : Type 0} → List A → List A
above [] = []
above (x ∷ []) = []
above (x ∷ y ∷ xs) = x ∷ above (y ∷ xs)

abbrev pub around_of : code.Around → Around
around_of (around.Loop l n) = a_loop (option_map (λ i. i.now) l) n
around_of around.Test = a_test

-- the nearest last, as the code keeps them, in front of others
abbrev pub around_from : List Around → List code.Around → List Around
around_from done [] = done
around_from done (x ∷ xs) = around_from (around_of x ∷ done) xs

-- where the names of a walk stand
abbrev pub inside : Walk → Inside
inside w = record { program = map plain-Item w.items.now; item = w.item; lifetimes = w.lifetimes }

-- what a function that walks ensures: the tables are those of the definition, and nothing else has changed, unless memory fails
abbrev pub Walks : {A : Type 0} → Outcome ItemNames → Walk → Result A Misnamed → Walk → Type 0
Walks outcome old (Ok a) new = (outcome ≡ Ok new.tables) × (new ≡ with_tables new.tables old)
Walks outcome old (Err e) new = e ≢ misnamed.OutOfMemory → outcome ≡ Err e

-- the same of a pattern, with what it has declared
abbrev pub Binds : {A : Type 0} → Outcome Bound → Walk → Result A Misnamed → Walk → DeclaredNames → Type 0
Binds outcome old (Ok a) new bindings = (outcome ≡ Ok (record { bindings = bindings; tables = new.tables })) × (new ≡ with_tables new.tables old)
Binds outcome old (Err e) new bindings = e ≢ misnamed.OutOfMemory → outcome ≡ Err e

-- the same of statements, whose bindings are in scope behind them
abbrev pub Scopes : {A : Type 0} → Outcome Scoped → Walk → Result A Misnamed → Walk → Type 0
Scopes outcome old (Ok a) new = (outcome ≡ Ok (record { scope = new.scope; tables = new.tables })) × (new ≡ with_scope new.scope (with_tables new.tables old))
Scopes outcome old (Err e) new = e ≢ misnamed.OutOfMemory → outcome ≡ Err e

-- the same of a whole pattern, whose bindings are given
abbrev pub Declares : Outcome Bound → Walk → Result DeclaredNames Misnamed → Walk → Type 0
Declares outcome old (Ok bindings) new = (outcome ≡ Ok (record { bindings = bindings; tables = new.tables })) × (new ≡ with_tables new.tables old)
Declares outcome old (Err e) new = e ≢ misnamed.OutOfMemory → outcome ≡ Err e

-- a loop has opened where the walk stands, and the walk is as before when it closes
abbrev pub Loops : {A : Type 0} → Option Ident → Walk → Result A Misnamed → Walk → Type 0
Loops l old (Ok a) new = (around_from [] new.around ≡ a_loop l (number (length old.tables.loops)) ∷ around_from [] old.around) × (above new.around ≡ old.around)
    × (new ≡ with_around new.around (with_tables (with_loop (position (inside old) old.path) old.tables) old))
Loops l old (Err e) new = e ≢ misnamed.OutOfMemory → ⊥

abbrev pub plain-Destination : code_target.Destination → Target
plain-Destination (target_form.Loop n) = to_loop n
plain-Destination target_form.OutOfTest = out_of_test
plain-Destination target_form.Nowhere = nowhere

-- a walk stands at an item of the program, with nothing in scope and nothing found
pub record Begun (w : Walk) (items : List Item) (place : ℕ) (i : ItemTree) : Type 0 where
  pub program : w.items.now ≡ items
  pub item : w.item ≡ number place
  pub lifetimes : w.lifetimes ≡ firsts [] 0 (lifetimes_declared i)
  pub path : w.path ≡ []
  pub scope : w.scope ≡ []
  pub around : w.around ≡ []
  pub tables : w.tables ≡ record { vars = []; lifetimes = map (λ (l : Ident). l.span) (lifetimes_declared i); loops = []; names = [] }
