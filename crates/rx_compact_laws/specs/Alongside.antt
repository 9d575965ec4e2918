-- Programs whose items have the same names, and lifetimes that become others (Rust Reference, "Namespaces", "Paths"): what is asked so
-- that names in a part of the one mean in the other what they mean in the first.
use Rattle.std.specs.Prelude.{◌≡◌, ℕ, List, ◌++◌, Some, Ok}
use Rattle.rx_core.specs.declared.types.Span.{Span}
use Rattle.rx_tree.specs.Plain.{ProgramTree}
use Rattle.rx_resolve_names.specs.declared.resolved.ItemNames.{ItemNames}
use Rattle.rx_resolve_names.specs.declared.resolved.NodeNames.{NodeNames}
use Rattle.rx_resolve_names.specs.Scopes.{DeclaredNames}
use Rattle.rx_resolve_names.specs.Steps.{Outcome}
use Rattle.rx_resolve_names.specs.Meant.{type_name, function_name, item_named, as_type, as_struct, as_enum, as_rt, as_function, number_in, variants_of}
use Rattle.rx_compact_lifetimes.specs.declared.rewriting.Rewriting.{Rewriting}
use Rattle.rx_compact_lifetimes.specs.Rewritten.{becomes}
use Rattle.rx_compact_laws.specs.Beside.{Left, InBoth}

-- each name means in the second what it means in the first
pub record SameItems (p q : ProgramTree) : Type 0 where
  pub types : (x : List ℕ) → as_type (item_named type_name 0 q x) ≡ as_type (item_named type_name 0 p x)
  pub structs : (x : List ℕ) → as_struct (item_named type_name 0 q x) ≡ as_struct (item_named type_name 0 p x)
  pub enums : (x : List ℕ) → as_enum (item_named type_name 0 q x) ≡ as_enum (item_named type_name 0 p x)
  pub variants : (x v : List ℕ) → number_in (variants_of (item_named type_name 0 q x)) v ≡ number_in (variants_of (item_named type_name 0 p x)) v
  pub rt : (x : List ℕ) → as_rt (item_named type_name 0 q x) ≡ as_rt (item_named type_name 0 p x)
  pub functions : (x : List ℕ) → as_function (item_named function_name 0 q x) ≡ as_function (item_named function_name 0 p x)

-- each lifetime of the first list becomes one of the second, or none
abbrev pub AllBecome : List Rewriting → DeclaredNames → DeclaredNames → Type 0
AllBecome rs old new = (x y : List ℕ) (n : ℕ) → number_in old x ≡ Some n → becomes rs x ≡ Some y → (m : ℕ) × (number_in new y ≡ Some m)

-- a body of an item with these lifetimes, and with those in the second
abbrev pub in_both : List Rewriting → ProgramTree → ProgramTree → ℕ → DeclaredNames → DeclaredNames → InBoth
in_both body p q i old new = record { by = body; old = record { program = p; item = i; lifetimes = old }; new = record { program = q; item = i; lifetimes = new } }

-- tables of an item of the second, with these places of its lifetimes and these entries
abbrev pub aside : List Span → ItemNames → List NodeNames → ItemNames
aside spans t names = record { vars = t.vars; lifetimes = spans; loops = t.loops; names = names }

-- from tables t a part of the first comes to u. From tables beside t its like in the second comes to tables beside u, and the entries that
-- are added to the one and to the other are so, where those that follow are
pub record StandsBeside (P Q : Left) (t u : ItemNames) (names : List NodeNames) (spans : List Span) (r : Outcome ItemNames) : Type 0 where
  pub old : List NodeNames
  pub new : List NodeNames
  pub adds : u.names ≡ t.names ++ old
  pub is : r ≡ Ok (aside spans u (names ++ new))
  pub beside : (ks js : List NodeNames) → Q ks js → P (old ++ ks) (new ++ js)
