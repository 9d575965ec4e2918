-- A function of one program, and the same with lifetimes written otherwise in another program, at the same place in the items (Rust
-- Reference, "Scopes", "Lifetime parameters").
use Rattle.std.specs.Prelude.{◌≡◌, ℕ, true, List, [], Ok}
use Rattle.rx_core.specs.declared.types.Span.{Span}
use Rattle.rx_tree.specs.Plain as plain
use Rattle.rx_tree.specs.Plain.{Function, ProgramTree}
use Rattle.rx_resolve_names.specs.declared.resolved.ItemNames.{ItemNames}
use Rattle.rx_resolve_names.specs.Scopes.{DeclaredNames}
use Rattle.rx_resolve_names.specs.Meant.{number, firsts, lifetimes_declared}
use Rattle.rx_resolve_names.specs.Steps.{Inside}
use Rattle.rx_resolve_names.specs.Items.{lifetimes_of, in_item}
use Rattle.rx_typed.specs.Naming.{has_entry, function_named, function_spans, function_variables, function_annotations}
use Rattle.rx_compact_lifetimes.specs.declared.rewriting.Rewriting.{Rewriting}
use Rattle.rx_compact_laws.specs.Beside.{IsRewritten, LetsBeside}
use Rattle.rx_compact_laws.specs.Alongside.{SameItems, AllBecome}

-- the lifetimes that a function declares, by their numbers
abbrev pub declared : Span → Function → DeclaredNames
declared s f = firsts [] 0 (lifetimes_declared (plain.function_item s f))

abbrev pub inside : ProgramTree → ℕ → Span → Function → Inside
inside p n s f = record { program = p; item = number n; lifetimes = declared s f }

-- what is asked
pub record IsElsewhere (signature body : List Rewriting) (p q : ProgramTree) (n : ℕ) (s : Span) (f g : Function) : Type 0 where
  pub items : SameItems p q
  pub in_signature : AllBecome signature (declared s f) (declared s g)
  pub in_body : AllBecome body (declared s f) (declared s g)
  pub rewritten : IsRewritten signature body f g
  pub entry : has_entry g ≡ true → has_entry f ≡ true
  -- the new list of lifetimes has a meaning
  pub bounds : List ℕ
  pub meant : lifetimes_of (inside q n s g) [] 0 g.lifetimes ≡ Ok bounds

-- what is had, where the first resolves: the other does, with the same variables and the same tree with numbers, and its `let`s beside those
-- of the first
pub record StaysNumbered (body : List Rewriting) (p q : ProgramTree) (n : ℕ) (s : Span) (f g : Function) (a : ItemNames) : Type 0 where
  pub tables : ItemNames
  pub resolves : in_item q n (plain.function_item s g) ≡ Ok tables
  pub vars : tables.vars ≡ a.vars
  pub tree : function_named n s g tables.names ≡ function_named n s f a.names
  pub spans : function_spans s g tables.names ≡ function_spans s f a.names
  pub variables : function_variables s g tables.names ≡ function_variables s f a.names
  pub lets : LetsBeside (record { by = body; old = inside p n s f; new = inside q n s g }) (function_annotations s f a.names) (function_annotations s g tables.names)
