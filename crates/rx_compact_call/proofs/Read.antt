-- The text with a short signature is read as the program with it.
use Rattle.std.proofs.Common.{◌≡◌, ℕ, Bool, List, Some, slice_get, refl, sym, subst}
use Rattle.rx_core.specs.declared.types.Span.{Span}
use Rattle.rx_tree.specs.Plain.{Function, ProgramTree}
use Rattle.rx_tree.specs.Plain as plain
use Rattle.rx_tree.specs.Erase.{SameProgram}
use Rattle.rx_parse_grammar.specs.grammar.Items.{Parses}
use Rattle.rx_compact.specs.Outliving.{is_single}
use Rattle.rx_compact.specs.Compacted.{IsCompacted, compacted}
use Rattle.rx_compact_text.specs.CompactedText.{compacted_text}
use Rattle.rx_compact_call.specs.Shortened.{IsShortened}
use Rattle.rx_compact_call.proofs.Finding.{stands}

abbrev pub AreRead : Type 0
AreRead = (text : List ℕ) (p : ProgramTree) (parses : Parses text p) (i : ℕ) (s : Span) (f : Function) → slice_get p i ≡ Some (plain.function_item s f)
    → (outlives : ℕ → ℕ → Bool) (single : Bool) → (q : ProgramTree) × Parses (compacted_text outlives single text parses.tokens f) q × SameProgram q (compacted outlives single p i)

pub read : AreRead → (text name bytes : List ℕ) (s : IsShortened text name bytes) → (q : ProgramTree) × (x : ProgramTree) × IsCompacted s.program s.number q × Parses bytes x × SameProgram x q
read reads text name bytes s =
    let w = stands name s.program s.number s.function s.named in
    let single = is_single (slice_get s.declared s.number) in
    let r = reads text s.program s.parses s.number w.span s.function w.is s.outlives single in (
      compacted s.outlives single s.program s.number,
      r.0,
      record { names = s.names; meant = s.meant; declared = s.declared; declares = s.declares; outlives = s.outlives; tells = s.tells; same = refl },
      subst (λ b. Parses b r.0) (sym s.is) r.1,
      r.2,
    )
