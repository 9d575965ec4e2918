-- What holds of each edit of types: a lifetime gives way to a lifetime, or to nothing.
use Rattle.std.proofs.Common.{◌≡◌, ◌⊎◌, inl, inr, ℕ, Bool, true, false, List, [], ◌∷◌, Option, Some, None, codes, refl, sym, subst, ◌∙◌, append-nil}
use Rattle.std.specs.Prelude.{if◌then◌else◌, IsUtf8}
use Rattle.std.specs.Str.{bytes_eq}
use Rattle.std.proofs.lemmas.Bool.{false≢true}
use Rattle.std.proofs.lemmas.Slice.Eq.{bytes_eq-Decides}
use Rattle.std.proofs.lemmas.Str.{IsUtf8-nil}
use Rattle.rx_core.specs.declared.types.Span.{Span}
use Rattle.rx_tree.specs.declared.tree.Ident.{Ident}
use Rattle.rx_tree.specs.Plain as plain
use Rattle.rx_tree.specs.Plain.{TypeTree, TypeTrees, Parameter, Body}
use Rattle.rx_lex.specs.declared.token.Class.TheVariants.{Lifetime}
use Rattle.rx_lex.specs.Words.{IsWord, lifetime}
use Rattle.rx_lex.specs.Tok.{Tok}
use Rattle.rx_lex.proofs.LongestWord.{word_utf8}
use Rattle.rx_print_spelling.specs.Pieces.{word, flat}
use Rattle.rx_splice_laws.specs.Edits.{Edit, replaced}
use Rattle.rx_splice_laws.specs.EditsOf.{body_edits}
use Rattle.rx_splice_laws.proofs.Spelled.{EachEdit, IsUnslashed}
use Rattle.rx_splice_laws.proofs.Stars.{Holds, each-append, each_body}
use Rattle.rx_compact_text.specs.CompactedText.{renamed_edits, reference_edits, argument_edits, listed_edits, type_edits, types_edits, optional_edits, parameters_edits, let_edits}
use Rattle.rx_compact_read.proofs.Names.{Name}

pub anonymous_word : IsWord Lifetime (codes "'_")
anonymous_word = lifetime {name = codes "_"} refl refl

-- what is asked of P
pub record OfLifetimes (P : Edit → Type 0) : Type 0 where
  pub other : (s : Span) (n : List ℕ) → IsWord Lifetime n → P (replaced s (word Lifetime n ∷ []))
  pub nothing : (s : Span) → P (replaced s [])

module _ (P : Edit → Type 0) (H : OfLifetimes P) (text : List ℕ) (m : List ℕ → Option (List ℕ)) (K : (x n : List ℕ) → m x ≡ Some n → (n ≡ x) ⊎ Name n) where
  each_renamed : (x : Ident) (n : List ℕ) → m x.name ≡ Some n → EachEdit P (renamed_edits x n)
  each_renamed x n e = by (bytes_eq n x.name) refl (K x.name n e) where
    by : (b : Bool) → bytes_eq n x.name ≡ b → (n ≡ x.name) ⊎ Name n → EachEdit P (if b then [] else replaced x.span (word Lifetime n ∷ []) ∷ [])
    by true k o = tt
    by false k (inl h) = absurd (false≢true (sym k ∙ (bytes_eq-Decides n x.name).1 h))
    by false k (inr w) = (H.other x.span n w.0, tt)

  each_reference : (x : Ident) (o : Option (List ℕ)) → m x.name ≡ o → EachEdit P (reference_edits text x o)
  each_reference x None e = (H.nothing _, tt)
  each_reference x (Some n) e = each_renamed x n e

  each_argument : (x : Ident) (o : Option (List ℕ)) → m x.name ≡ o → EachEdit P (argument_edits x o)
  each_argument x None e = (H.other x.span (codes "'_") anonymous_word, tt)
  each_argument x (Some n) e = each_renamed x n e

  each_listed : (ls : List (Option Ident)) → EachEdit P (listed_edits m ls)
  each_listed [] = tt
  each_listed (None ∷ ls) = each_listed ls
  each_listed (Some x ∷ ls) = each-append P (argument_edits x (m x.name)) (listed_edits m ls) (each_argument x (m x.name) refl) (each_listed ls)

  mutual
    each_type : (t : TypeTree) → EachEdit P (type_edits text m t)
    each_type (plain.kind_type s k) = tt
    each_type (plain.bool_type s) = tt
    each_type (plain.tuple_type s ts) = each_types ts
    each_type (plain.ref_type s None w t) = each_type t
    each_type (plain.ref_type s (Some x) w t) = each-append P (reference_edits text x (m x.name)) (type_edits text m t) (each_reference x (m x.name) refl) (each_type t)
    each_type (plain.named_type s x None) = tt
    each_type (plain.named_type s x (Some ls)) = each_listed ls

    each_types : (ts : TypeTrees) → EachEdit P (types_edits text m ts)
    each_types plain.no_type = tt
    each_types (plain.type_and t ts) = each-append P (type_edits text m t) (types_edits text m ts) (each_type t) (each_types ts)

  pub each_optional : (t : Option TypeTree) → EachEdit P (optional_edits text m t)
  each_optional None = tt
  each_optional (Some t) = each_type t

  pub each_parameter : (ps : List Parameter) → EachEdit P (parameters_edits text m ps)
  each_parameter [] = tt
  each_parameter (p ∷ ps) = each-append P (type_edits text m p.typ) (parameters_edits text m ps) (each_type p.typ) (each_parameter ps)

  lets_hold : Holds P (let_edits text m)
  lets_hold = record {
    int = λ s k. tt;
    variable = λ own b s x. tt;
    break = λ ls s l. tt;
    continue = λ ls s l. tt;
    return = λ s. tt;
    return_with = λ s es u. u;
    typing = λ p y. each_optional y;
  }

  pub each_let : (b : Body) → EachEdit P (body_edits (let_edits text m) [] [] b)
  each_let b = each_body P (let_edits text m) lets_hold [] [] b

-- ---- no edit begins with `*`, and each is a text

pub unslashed : (all : List Tok) → OfLifetimes (IsUnslashed all)
unslashed all = record { other = λ s n i e. absurd (false≢true e); nothing = λ s e. absurd (false≢true e) }

abbrev pub IsTextual : Edit → Type 0
IsTextual e = IsUtf8 (flat e.by)

pub textual : OfLifetimes IsTextual
textual = record { other = λ s n i. subst IsUtf8 (sym (append-nil n)) (word_utf8 i); nothing = λ s. IsUtf8-nil }
