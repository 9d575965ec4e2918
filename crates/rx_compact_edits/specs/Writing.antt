-- What is written of the parts of a signature, one after another, as the code has them.
use Rattle.std.specs.Prelude.{ℕ, ◌≤◌, Bool, List, [], ◌++◌, filter, Option, Some, None, IsCharBoundary}
use Rattle.rx_core.specs.declared.types.Span.{Span}
use Rattle.rx_tree.specs.declared.tree.Ident.{Ident}
use Rattle.rx_tree.specs.declared.tree.BoundLifetime.{BoundLifetime}
use Rattle.rx_tree.specs.Plain.{Function}
use Rattle.rx_tree.specs.PlainOf.{plain-Func}
use Rattle.rx_lex.specs.Tok.{Tok, toks}
use Rattle.rx_hoist_extraction.specs.Names.{Names}
use Rattle.rx_splice_laws.specs.Edits.{Edit}
use Rattle.rx_splice_laws.specs.EditsOf.{body_edits}
use Rattle.rx_splice_laws.specs.Places.{first_start, tokens_from}
use Rattle.rx_compact_lifetimes.specs.declared.rewriting.Rewriting.{Rewriting}
use Rattle.rx_compact_lifetimes.specs.Rewritten.{becomes}
use Rattle.rx_compact_lifetimes.specs.Merged.{merged_by}
use Rattle.rx_compact_lifetimes.specs.Elided.{in_body, elisions, stays}
use Rattle.rx_compact_text.specs.CompactedText.{becomes_both, reference_edits, argument_edits, listed_edits, closed_at, list_edits, parameters_edits, optional_edits, let_edits}
use Rattle.rx_compact_edits.specs.declared.types.Changes.{Changes}
use Rattle.rx_compact_edits.specs.declared.whole.Source.{Source}

abbrev pub becoming : Changes → List ℕ → Option (List ℕ)
becoming c = becomes_both c.first.now c.then.now

abbrev pub pointer_edits : List ℕ → (List ℕ → Option (List ℕ)) → Option Ident → List Edit
pointer_edits text m None = []
pointer_edits text m (Some x) = reference_edits text x (m x.name)

abbrev pub listed_one : (List ℕ → Option (List ℕ)) → Option Ident → List Edit
listed_one m None = []
listed_one m (Some x) = argument_edits x (m x.name)

abbrev pub list_if_any : (List ℕ → Option (List ℕ)) → Option (List (Option Ident)) → List Edit
list_if_any m None = []
list_if_any m (Some ls) = listed_edits m ls

-- from the first token behind a name to the first mark `>` behind a place
abbrev pub angles_to : List Tok → Ident → ℕ → Span
angles_to all x end = record { start = first_start x.span.end (tokens_from x.span.end all); end = closed_at end (tokens_from end all) }

-- ---- a function in a text

pub record Part : Type 0 where
  pub text : List ℕ
  pub tokens : List Tok
  pub function : Function

abbrev pub part_of : Source → Part
part_of s = record { text = s.text.now; tokens = toks s.tokens.now; function = plain-Func s.function.now }

-- with these lifetimes in its list, by the names that stand for others, and those that are left out then
abbrev pub edits_by : Part → List Rewriting → List Rewriting → List BoundLifetime → List Edit
edits_by x rs es ls = let f = x.function in
    list_edits x.tokens f f.lifetimes ls
    ++ (parameters_edits x.text (becomes_both rs es) f.params ++ (optional_edits x.text (becomes_both rs es) f.result ++ body_edits (let_edits x.text (becomes rs)) [] [] f.body))

-- where it has become g, whose body names these
abbrev pub edits_named : Part → Bool → List Rewriting → Names → Function → List Edit
edits_named x single rs names g = edits_by x rs (elisions single names g) (filter (stays single names g) g.lifetimes)

abbrev pub edits_merged : Part → Bool → List Rewriting → List Edit
edits_merged x single rs = let g = merged_by rs x.function in edits_named x single rs (in_body g.body) g

-- a span begins at a place or later, and the text may be cut at both its ends
pub record IsCut (text : List ℕ) (at : ℕ) (s : Span) : Type 0 where
  pub low : at ≤ s.start
  pub up : s.start ≤ s.end
  pub starts : IsCharBoundary text s.start
  pub ends : IsCharBoundary text s.end
