-- The text of a short signature: the file's own bytes with the edits that its changed lifetimes need (Rust Reference, "Comments",
-- "Whitespace": both are kept). The list in angle brackets is written anew, with what stands within it; each changed lifetime gives way
-- to its new name, or goes with the blanks behind it.
use Rattle.std.specs.Prelude.{ℕ, suc, ◌+◌, Bool, if◌then◌else◌, List, [], ◌∷◌, ◌++◌, map, drop, Option, Some, None, codes}
use Rattle.std.specs.Str.{bytes_eq}
use Rattle.rx_core.specs.declared.types.Span.{Span}
use Rattle.rx_core.specs.Bytes.{same_bytes}
use Rattle.rx_tree.specs.declared.tree.Ident.{Ident}
use Rattle.rx_tree.specs.declared.tree.BoundLifetime.{BoundLifetime}
use Rattle.rx_tree.specs.Plain as plain
use Rattle.rx_tree.specs.Plain.{TypeTree, TypeTrees, Parameter, Function}
use Rattle.rx_lex.specs.Tok.{Tok}
use Rattle.rx_lex.specs.Tokens.{is_blank}
use Rattle.rx_print_spelling.specs.Pieces.{Piece, lifetime}
use Rattle.rx_print_spelling.specs.Items.{in_angles, bound_pieces}
use Rattle.rx_splice_laws.specs.Edits.{Edit, replaced, spliced}
use Rattle.rx_splice_laws.specs.EditsOf.{EditsAt, body_edits}
use Rattle.rx_splice_laws.specs.Places.{first_start, tokens_from}
use Rattle.rx_compact_lifetimes.specs.declared.rewriting.Rewriting.{Rewriting}
use Rattle.rx_compact_lifetimes.specs.Rewritten.{becomes, ident_with}
use Rattle.rx_compact_lifetimes.specs.Merged.{mergings_of, merged}
use Rattle.rx_compact_lifetimes.specs.Elided.{in_body, elisions, elided}

-- ---- one lifetime; `text` is the whole file

abbrev pub leading_blanks : List ℕ → ℕ
leading_blanks [] = 0
leading_blanks (c ∷ t) = if is_blank c then suc (leading_blanks t) else 0

-- a lifetime, and the blanks behind it
abbrev pub with_blanks : List ℕ → Span → Span
with_blanks text s = record { start = s.start; end = s.end + leading_blanks (drop s.end text) }

abbrev pub renamed_edits : Ident → List ℕ → List Edit
renamed_edits x n = if bytes_eq n x.name then [] else replaced x.span (lifetime (ident_with x n) ∷ []) ∷ []

-- of a reference
abbrev pub reference_edits : List ℕ → Ident → Option (List ℕ) → List Edit
reference_edits text x None = replaced (with_blanks text x.span) [] ∷ []
reference_edits text x (Some n) = renamed_edits x n

-- in the list of a struct or enum
abbrev pub argument_edits : Ident → Option (List ℕ) → List Edit
argument_edits x None = replaced x.span (lifetime (ident_with x (codes "'_")) ∷ []) ∷ []
argument_edits x (Some n) = renamed_edits x n

-- ---- types; `m` tells what becomes of a name

abbrev pub listed_edits : (List ℕ → Option (List ℕ)) → List (Option Ident) → List Edit
listed_edits m [] = []
listed_edits m (None ∷ ls) = listed_edits m ls
listed_edits m (Some x ∷ ls) = argument_edits x (m x.name) ++ listed_edits m ls

abbrev mutual
  pub type_edits : List ℕ → (List ℕ → Option (List ℕ)) → TypeTree → List Edit
  type_edits text m (plain.kind_type s k) = []
  type_edits text m (plain.bool_type s) = []
  type_edits text m (plain.tuple_type s ts) = types_edits text m ts
  type_edits text m (plain.ref_type s None w t) = type_edits text m t
  type_edits text m (plain.ref_type s (Some x) w t) = reference_edits text x (m x.name) ++ type_edits text m t
  type_edits text m (plain.named_type s x None) = []
  type_edits text m (plain.named_type s x (Some ls)) = listed_edits m ls

  pub types_edits : List ℕ → (List ℕ → Option (List ℕ)) → TypeTrees → List Edit
  types_edits text m plain.no_type = []
  types_edits text m (plain.type_and t ts) = type_edits text m t ++ types_edits text m ts

abbrev pub optional_edits : List ℕ → (List ℕ → Option (List ℕ)) → Option TypeTree → List Edit
optional_edits text m None = []
optional_edits text m (Some t) = type_edits text m t

abbrev pub parameters_edits : List ℕ → (List ℕ → Option (List ℕ)) → List Parameter → List Edit
parameters_edits text m [] = []
parameters_edits text m (x ∷ xs) = type_edits text m x.typ ++ parameters_edits text m xs

-- ---- the list in angle brackets

abbrev pub last_end : BoundLifetime → List Ident → ℕ
last_end l [] = l.name.span.end
last_end l (b ∷ []) = b.span.end
last_end l (b ∷ c ∷ bs) = last_end l (c ∷ bs)

-- where the last lifetime that it names ends, in what is behind one
abbrev pub list_end : BoundLifetime → List BoundLifetime → ℕ
list_end l [] = last_end l l.bounds
list_end l (k ∷ ks) = list_end k ks

-- where the first mark `>` ends
abbrev pub closed_at : ℕ → List Tok → ℕ
closed_at at [] = at
closed_at at (t ∷ ts) = if same_bytes t.text (codes ">") then t.span.end else closed_at at ts

-- from the first token behind the function's name to the first mark `>` behind the last lifetime
abbrev pub angles : List Tok → Function → BoundLifetime → List BoundLifetime → Span
angles all f l ls = record { start = first_start f.name.span.end (tokens_from f.name.span.end all); end = closed_at (list_end l ls) (tokens_from (list_end l ls) all) }

-- where a list is written, it is replaced by the new one
abbrev pub list_edits : List Tok → Function → List BoundLifetime → List BoundLifetime → List Edit
list_edits all f [] new = []
list_edits all f (l ∷ ls) new = replaced (angles all f l ls) (in_angles (map bound_pieces new)) ∷ []

-- ---- the body: nothing but the types of `let`s

abbrev pub let_edits : List ℕ → (List ℕ → Option (List ℕ)) → EditsAt
let_edits text m = record {
  at_int = λ s k. [];
  at_variable = λ own b s x. [];
  at_break = λ ls s l. [];
  at_continue = λ ls s l. [];
  at_return = λ s. [];
  at_return_with = λ s es. es;
  at_let = λ p t. optional_edits text m t;
}

-- ---- the whole

-- what becomes of the names in a signature: first by the one, then by the other
abbrev pub becomes_next : List Rewriting → Option (List ℕ) → Option (List ℕ)
becomes_next es None = None
becomes_next es (Some y) = becomes es y

abbrev pub becomes_both : List Rewriting → List Rewriting → List ℕ → Option (List ℕ)
becomes_both rs es x = becomes_next es (becomes rs x)

-- by what is known, and whether the parameters have one lifetime; `all` are the tokens of the text
abbrev pub compacted_edits : (ℕ → ℕ → Bool) → Bool → List ℕ → List Tok → Function → List Edit
compacted_edits outlives single text all f =
    let g = merged outlives f in
    let rs = mergings_of outlives f in
    let m = becomes_both rs (elisions single (in_body g.body) g) in
    list_edits all f f.lifetimes (elided single g).lifetimes
    ++ (parameters_edits text m f.params ++ (optional_edits text m f.result ++ body_edits (let_edits text (becomes rs)) [] [] f.body))

abbrev pub compacted_text : (ℕ → ℕ → Bool) → Bool → List ℕ → List Tok → Function → List ℕ
compacted_text outlives single text all f = spliced 0 text (compacted_edits outlives single text all f)
