-- The names of a program in which one function has a short signature: all tables but the function's are as they were, and its tree has
-- the same numbers (Rust Reference, "Namespaces", "Scopes").
use Rattle.std.specs.Prelude.{◌≡◌, ℕ, Bool, List, Some, slice_get}
use Rattle.rx_core.specs.declared.types.Span.{Span}
use Rattle.rx_tree.specs.Plain as plain
use Rattle.rx_tree.specs.Plain.{Function, ProgramTree}
use Rattle.rx_resolve_names.specs.declared.resolved.ItemNames.{ItemNames}
use Rattle.rx_resolve_names.specs.Causes.{Meant}
use Rattle.rx_typed.specs.Naming.{function_named, function_spans, function_variables}
use Rattle.rx_compact.specs.Compacted.{compacted_function, compacted}

-- by the names of a function, and of another in its place
pub record NumberedAlike (n : ℕ) (s : Span) (f g : Function) (old new : ItemNames) : Type 0 where
  pub vars : new.vars ≡ old.vars
  pub tree : function_named n s g new.names ≡ function_named n s f old.names
  pub spans : function_spans s g new.names ≡ function_spans s f old.names
  pub variables : function_variables s g new.names ≡ function_variables s f old.names

-- the tables of the item of number i
pub record FunctionNames (i : ℕ) (s : Span) (f g : Function) (names news : List ItemNames) : Type 0 where
  pub old : ItemNames
  pub new : ItemNames
  pub was : slice_get names i ≡ Some old
  pub is : slice_get news i ≡ Some new
  pub alike : NumberedAlike i s f g old new

pub record NamesStay (outlives : ℕ → ℕ → Bool) (single : Bool) (p : ProgramTree) (i : ℕ) (names : List ItemNames) : Type 0 where
  pub news : List ItemNames
  pub meant : Meant (compacted outlives single p i) news
  pub others : (k : ℕ) → (k ≡ i → ⊥) → slice_get news k ≡ slice_get names k
  pub function : (s : Span) (f : Function) → slice_get p i ≡ Some (plain.function_item s f) → FunctionNames i s f (compacted_function outlives single f) names news
