-- The text of an answer (REM, "Extract function"; Rust Reference, "Comments", "Whitespace": both are kept): the file's own bytes with the edits
-- that make the extraction, where the file may be cut where these stand, and what they give is read as the extraction, apart from spans.
use Rattle.std.specs.Prelude.{◌≡◌, ℕ, ◌≤◌, true, List, [], map, Option, Some}
use Rattle.rx_tree.specs.Erase.{SameProgram}
use Rattle.rx_tree.specs.Lists.{nth}
use Rattle.rx_tree.specs.Plain as plain
use Rattle.rx_tree.specs.Plain.{Function, ItemTree, ProgramTree}
use Rattle.rx_tree.specs.Spans.{body_span}
use Rattle.rx_lex.specs.Tok.{Tok}
use Rattle.rx_parse_grammar.specs.grammar.Items.{Parses}
use Rattle.rx_hoist_extraction.specs.Run.{Run}
use Rattle.rx_hoist_extraction.specs.Plan.{Bounds, Plan}
use Rattle.rx_hoist_extraction.specs.Extraction.{extraction}
use Rattle.rx_splice_laws.specs.Edits.{Edit, written}
use Rattle.rx_splice_laws.specs.EditsOf.{body_edits}
use Rattle.rx_splice_laws.specs.Moving.{pin_edits}
use Rattle.rx_splice_laws.specs.MovedBy.{moved_by}
use Rattle.rx_splice_laws.specs.SplicedText.{run_text_edits, spliced_text}
use Rattle.rx_splice_edits.specs.InOrder.{in_order}
use Rattle.rx_splice_edits.specs.Cutting.{AreWithin}

-- those that write out kinds and types in the body of the run's function
abbrev pub pins_in : List Tok → ProgramTree → Run → Plan → Function → List Edit
pins_in all P r pl f = body_edits (pin_edits (moved_by P pl r.span) all) [] [] f.body

-- of a run in this function: the tokens are in order, and the text may be cut where the edits stand
pub record CanBeMade (bytes : List ℕ) (all : List Tok) (P : ProgramTree) (r : Run) (pl : Plan) (f : Function) : Type 0 where
  pub tokens : in_order 0 all ≡ true
  pub body : AreWithin bytes 0 (body_span f.body).end (map written (pins_in all P r pl f))
  pub run : AreWithin bytes r.span.start r.span.end (map written (run_text_edits P r pl f all))
  pub in_body : r.span.end ≤ (body_span f.body).end

-- a text is read as a program, apart from spans
abbrev pub IsReadAs : List ℕ → ProgramTree → Type 0
IsReadAs text q = (p : ProgramTree) × Parses text p × SameProgram p q

-- a text is that of the extraction of a run by a plan, with these bounds, from the bytes of a file with these tokens and this program, where the
-- run's function is this item
abbrev pub RendersIn : List ℕ → List Tok → ProgramTree → Run → Plan → Bounds → List ℕ → Option ItemTree → Type 0
RendersIn bytes all P r pl bs text (Some (plain.function_item s f)) =
    CanBeMade bytes all P r pl f × (text ≡ spliced_text bytes all P r pl bs f) × IsReadAs text (extraction P r pl bs)
RendersIn bytes all P r pl bs text _ = ⊥

abbrev pub Renders : List ℕ → List Tok → ProgramTree → Run → Plan → Bounds → List ℕ → Type 0
Renders bytes all P r pl bs text = RendersIn bytes all P r pl bs text (nth P r.item)
