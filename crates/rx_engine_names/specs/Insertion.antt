-- A program with new items behind one of its functions, which keeps its name (Rust Reference, "Items", "Namespaces"), and the numbers
-- that the other items have there.
use Rattle.std.specs.Prelude.{◌≡◌, ℕ, ◌+◌, nat_le, false, if◌then◌else◌, List, ◌∷◌, ◌++◌, length, Option, Some}
use Rattle.rx_core.specs.declared.types.Span.{Span}
use Rattle.rx_tree.specs.declared.tree.Ident.{Ident}
use Rattle.rx_tree.specs.Lists.{Every}
use Rattle.rx_tree.specs.Plain as plain
use Rattle.rx_tree.specs.Plain.{Function, ItemTree, ProgramTree}
use Rattle.rx_resolve_names.specs.Meant.{type_name, function_name, has_name, item_named}

-- none of the items has the name
abbrev pub NotNamed : (ItemTree → Option Ident) → List ℕ → ProgramTree → Type 0
NotNamed name x new = Every (λ g. has_name x (name g) ≡ false) new

pub record Inserted (P Q : ProgramTree) : Type 0 where
  pub before : ProgramTree
  pub place : Span
  pub old : Function
  pub changed : Function
  pub new : ProgramTree
  pub behind : ProgramTree
  pub first : P ≡ before ++ (plain.function_item place old ∷ behind)
  pub second : Q ≡ before ++ (plain.function_item place changed ∷ (new ++ behind))
  pub name : changed.name ≡ old.name
  -- no new item has the name of an item of the program
  pub fresh_types : (x : List ℕ) (n : ℕ) (i : ItemTree) → item_named type_name 0 P x ≡ Some (n, i) → NotNamed type_name x new
  pub fresh_functions : (x : List ℕ) (n : ℕ) (i : ItemTree) → item_named function_name 0 P x ≡ Some (n, i) → NotNamed function_name x new

-- the number of an item where so many are new behind number k
abbrev pub past : ℕ → ℕ → ℕ → ℕ
past k many n = if nat_le n k then n else n + many

abbrev pub number_there : {P Q : ProgramTree} → Inserted P Q → ℕ → ℕ
number_there c n = past (length c.before) (length c.new) n
