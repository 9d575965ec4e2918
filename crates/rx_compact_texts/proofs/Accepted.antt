-- The text of a short signature is read as the program with it, apart from spans, of which acceptance doesn't speak.
use Rattle.std.proofs.Common.{◌≡◌, ℕ, Bool, List, Some, slice_get, sym, ap, ◌∙◌}
use Rattle.rx_core.specs.declared.types.Span.{Span}
use Rattle.rx_tree.specs.Plain.{Function, ProgramTree}
use Rattle.rx_tree.specs.Plain as plain
use Rattle.rx_tree.specs.Erase.{erase_program, SameProgram}
use Rattle.rx_parse_grammar.specs.grammar.Items.{Parses}
use Rattle.rx_typeck_typed.specs.declared.typed.Typed.{Typed}
use Rattle.rx_check.specs.Passes.{IsAccepted}
use Rattle.rx_check_laws.specs.SameTyped.{SameTyped}
use Rattle.rx_compact.specs.Outliving.{is_single}
use Rattle.rx_compact.specs.Compacted.{IsCompacted, compacted}
use Rattle.rx_compact_text.specs.CompactedText.{compacted_text}

abbrev pub Ignores : Type 0
Ignores = (p q : ProgramTree) → SameProgram p q → (t : Typed) → IsAccepted p t → (u : Typed) × IsAccepted q u × SameTyped t u

abbrev pub AreRead : Type 0
AreRead = (text : List ℕ) (p : ProgramTree) (parses : Parses text p) (i : ℕ) (s : Span) (f : Function) → slice_get p i ≡ Some (plain.function_item s f)
    → (outlives : ℕ → ℕ → Bool) (single : Bool) → (q : ProgramTree) × Parses (compacted_text outlives single text parses.tokens f) q × SameProgram q (compacted outlives single p i)

pub accepted : Ignores → AreRead → (text : List ℕ) (p : ProgramTree) (parses : Parses text p) (i : ℕ) (q : ProgramTree) (c : IsCompacted p i q) (s : Span) (f : Function) → slice_get p i ≡ Some (plain.function_item s f)
    → (u : Typed) → IsAccepted q u
    → (x : ProgramTree) × Parses (compacted_text c.outlives (is_single (slice_get c.declared i)) text parses.tokens f) x × (v : Typed) × IsAccepted x v × SameTyped u v
accepted ignores reads text p parses i q c s f e u a =
    let r = reads text p parses i s f e c.outlives (is_single (slice_get c.declared i)) in
    let same : SameProgram q r.0 = ap erase_program c.same ∙ sym r.2 in
    let v = ignores q r.0 same u a in
    (r.0, r.1, v.0, v.1, v.2)
