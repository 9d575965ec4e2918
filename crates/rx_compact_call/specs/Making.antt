-- What private functions make and answer.
use Rattle.std.specs.Prelude.{◌≡◌, ℕ, ◌<◌, ◌≤◌, Bool, List, length, map, slice_get, Option, Some, Result, Ok, Err}
use Rattle.rx_core.specs.declared.types.Which.TheVariants as which
use Rattle.rx_tree.specs.Plain.{Function}
use Rattle.rx_tree.specs.PlainOf.{plain-Func}
use Rattle.rx_lex.specs.Tok.{Tok}
use Rattle.rx_typed.specs.declared.declarations.Decl.{Decl}
use Rattle.rx_parse.specs.declared.fault.SyntaxFault.{SyntaxFault}
use Rattle.rx_parse.specs.declared.fault.SyntaxFault.TheVariants as syntax
use Rattle.rx_check.specs.declared.fault.CheckFault.{CheckFault}
use Rattle.rx_check.specs.declared.fault.CheckFault.TheVariants as check
use Rattle.rx_splice.specs.Edits.{AreEdits}
use Rattle.rx_splice_laws.specs.Edits.{written}
use Rattle.rx_compact.specs.Outliving.{is_single}
use Rattle.rx_compact.specs.Compacted.{Tells}
use Rattle.rx_compact_text.specs.CompactedText.{compacted_edits, compacted_text}
use Rattle.rx_compact_call.specs.Shortened.{most_bytes}
use Rattle.rx_compact_call.specs.declared.named.Chosen.{Chosen}
use Rattle.rx_compact_call.specs.declared.fault.CompactFault.{CompactFault}
use Rattle.rx_compact_call.specs.declared.fault.CompactFault.TheVariants as fault

-- want of memory in a pass is that of the whole
abbrev pub of_text : SyntaxFault → CompactFault
of_text syntax.OutOfMemory = fault.OutOfMemory
of_text e = fault.Syntax e

abbrev pub of_check : CheckFault → CompactFault
of_check check.OutOfMemory = fault.OutOfMemory
of_check e = fault.NotAccepted e

abbrev pub plain-Chosen : Chosen → ℕ × Function
plain-Chosen c = (c.number, plain-Func c.function.now)

-- the text of a short signature, where its edits fit, by what is declared
pub record IsMadeOf (D : List Decl) (i : ℕ) (text : List ℕ) (all : List Tok) (f : Function) (made : Option (List ℕ)) : Type 0 where
  pub outlives : ℕ → ℕ → Bool
  pub tells : Tells D i outlives
  pub is : AreEdits text (map written (compacted_edits outlives (is_single (slice_get D i)) text all f)) → made ≡ Some (compacted_text outlives (is_single (slice_get D i)) text all f)

-- bytes that are too many
abbrev pub IsLimit : List ℕ → CompactFault → Type 0
IsLimit bytes (fault.Limit w n) = (w ≡ which.Bytes) × (n ≡ length bytes) × (most_bytes < n)
IsLimit bytes e = ⊥

-- the edits of each short signature of a function fit
abbrev pub Fits : List ℕ → List Tok → Function → Type 0
Fits text all f = (outlives : ℕ → ℕ → Bool) (single : Bool) → AreEdits text (map written (compacted_edits outlives single text all f))

-- these are the bytes of a text with a short signature, by what is declared
pub record IsShortBy (D : List Decl) (i : ℕ) (text : List ℕ) (all : List Tok) (f : Function) (bytes : List ℕ) : Type 0 where
  pub outlives : ℕ → ℕ → Bool
  pub tells : Tells D i outlives
  pub is : bytes ≡ compacted_text outlives (is_single (slice_get D i)) text all f

-- they are too many, as this fault says
pub record IsLongBy (D : List Decl) (i : ℕ) (text : List ℕ) (all : List Tok) (f : Function) (e : CompactFault) : Type 0 where
  pub bytes : List ℕ
  pub short : IsShortBy D i text all f bytes
  pub limit : IsLimit bytes e

-- they are answered, or are too many, or memory runs out
abbrev pub Shortens : List Decl → ℕ → List ℕ → List Tok → Function → Result (List ℕ) CompactFault → Type 0
Shortens D i text all f (Ok bytes) = IsShortBy D i text all f bytes × (length bytes ≤ most_bytes)
Shortens D i text all f (Err fault.OutOfMemory) = Unit {0}
Shortens D i text all f (Err e) = IsLongBy D i text all f e
