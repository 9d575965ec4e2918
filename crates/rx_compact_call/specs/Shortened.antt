-- The text with a short signature of its function of a name, and why there is none: the text is none, it isn't accepted, it has no such
-- function, or the answer is too long.
use Rattle.std.specs.Prelude.{◌≡◌, ◌≢◌, ℕ, ◌<◌, ◌≤◌, Bool, List, length, slice_get, Some, None, Result, Ok, Err}
use Rattle.rx_core.specs.declared.types.Which.TheVariants as which
use Rattle.rx_tree.specs.Plain.{Function, ProgramTree}
use Rattle.rx_resolve_names.specs.declared.resolved.ItemNames.{ItemNames}
use Rattle.rx_resolve_names.specs.Causes.{Meant}
use Rattle.rx_typed.specs.declared.declarations.Decl.{Decl}
use Rattle.rx_typeck_typed.specs.Programs.{Declares}
use Rattle.rx_parse_grammar.specs.grammar.Items.{Parses}
use Rattle.rx_parse.specs.Answer.{IsCause}
use Rattle.rx_parse.specs.declared.fault.SyntaxFault.TheVariants as syntax
use Rattle.rx_check.specs.Causes.{Causes}
use Rattle.rx_check.specs.Passes.{Accepted}
use Rattle.rx_check.specs.declared.fault.CheckFault.TheVariants as check
use Rattle.rx_compact.specs.Outliving.{is_single}
use Rattle.rx_compact.specs.Compacted.{Tells}
use Rattle.rx_compact_text.specs.CompactedText.{compacted_text}
use Rattle.rx_compact_call.specs.Named.{function_named}
use Rattle.rx_compact_call.specs.declared.fault.CompactFault.{CompactFault}
use Rattle.rx_compact_call.specs.declared.fault.CompactFault.TheVariants as fault

abbrev pub most_bytes : ℕ
most_bytes = 1048576

-- the bytes are the text, which is accepted, with a short signature of its function of this name
pub record IsShortened (text name bytes : List ℕ) : Type 0 where
  pub program : ProgramTree
  pub parses : Parses text program
  pub accepted : Accepted program
  pub number : ℕ
  pub function : Function
  pub named : function_named name 0 program ≡ Some (number, function)
  pub names : List ItemNames
  pub meant : Meant program names
  pub declared : List Decl
  pub declares : Declares program names declared
  pub outlives : ℕ → ℕ → Bool
  pub tells : Tells declared number outlives
  pub is : bytes ≡ compacted_text outlives (is_single (slice_get declared number)) text parses.tokens function

-- the text is accepted, and has no function of this name
pub record IsUnnamed (text name : List ℕ) : Type 0 where
  pub program : ProgramTree
  pub parses : Parses text program
  pub accepted : Accepted program
  pub none : function_named name 0 program ≡ None

abbrev pub CompactCauses : CompactFault → List ℕ → List ℕ → Type 0
CompactCauses (fault.Syntax e) text name = (e ≢ syntax.OutOfMemory) × IsCause e text
CompactCauses (fault.NotAccepted e) text name = (e ≢ check.OutOfMemory) × ((p : ProgramTree) × Parses text p × Causes e p)
CompactCauses fault.NoFunction text name = IsUnnamed text name
CompactCauses (fault.Limit w n) text name = (w ≡ which.Bytes) × ((bytes : List ℕ) × IsShortened text name bytes × (n ≡ length bytes) × (most_bytes < n))
CompactCauses fault.OutOfMemory text name = Unit {0}

-- the text with the short signature, within the limit, or why there is none
abbrev pub Answers : List ℕ → List ℕ → Result (List ℕ) CompactFault → Type 0
Answers text name (Ok bytes) = IsShortened text name bytes × (length bytes ≤ most_bytes)
Answers text name (Err e) = CompactCauses e text name
