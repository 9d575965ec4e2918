-- Edits that are written one part after another.
use Rattle.std.proofs.Common.{◌≡◌, ℕ, Bool, List, [], ◌∷◌, ◌++◌, map, Option, Some, None, refl, ap, ◌∙◌, append-nil, append_assoc}
use mathlib.Core.Path.{fun_ext}
use Rattle.std.proofs.lemmas.List.{map-append}
use Rattle.rx_core.specs.declared.types.Edit as text
use Rattle.rx_core.specs.declared.types.Span.{Span}
use Rattle.rx_tree.specs.declared.tree.Ident.{Ident}
use Rattle.rx_tree.specs.Plain as plain
use Rattle.rx_tree.specs.Plain.{TypeTree, Body}
use Rattle.rx_resolve_names.specs.Meant.{Around}
use Rattle.rx_hoist_extraction.specs.Names.{Names}
use Rattle.rx_splice_laws.specs.Edits.{Edit, written}
use Rattle.rx_splice_laws.specs.EditsOf.{body_edits}
use Rattle.rx_compact_lifetimes.specs.declared.rewriting.Rewriting.{Rewriting}
use Rattle.rx_compact_lifetimes.specs.Rewritten.{becomes}
use Rattle.rx_compact_text.specs.CompactedText.{becomes_next, becomes_both, listed_edits, type_edits, let_edits}
use Rattle.rx_compact_edits.specs.Writing.{pointer_edits, listed_one, list_if_any}

-- ---- as the tactics take them

pub bytes_none : (xs : List ℕ) → xs ++ [] ≡ xs
bytes_none xs = append-nil xs

pub edits_none : (xs : List text.Edit) → xs ++ [] ≡ xs
edits_none xs = append-nil xs

pub edits_then : (xs ys zs : List text.Edit) → (xs ++ ys) ++ zs ≡ xs ++ (ys ++ zs)
edits_then xs ys zs = append_assoc xs ys zs

pub written_both : (es fs : List Edit) → map written (es ++ fs) ≡ map written es ++ map written fs
written_both es fs = map-append written es fs

-- ---- lists

pub listed_first : (m : List ℕ → Option (List ℕ)) (x : Option Ident) (ls : List (Option Ident)) → listed_edits m (x ∷ ls) ≡ listed_one m x ++ listed_edits m ls
listed_first m None ls = refl
listed_first m (Some x) ls = refl

-- ---- a type by its form

pub pointer_is : (text : List ℕ) (m : List ℕ → Option (List ℕ)) (s : Span) (l : Option Ident) (w : Bool) (t : TypeTree)
    → type_edits text m (plain.ref_type s l w t) ≡ pointer_edits text m l ++ type_edits text m t
pointer_is text m s None w t = refl
pointer_is text m s (Some x) w t = refl

pub list_is : (text : List ℕ) (m : List ℕ → Option (List ℕ)) (s : Span) (x : Ident) (ls : Option (List (Option Ident))) → type_edits text m (plain.named_type s x ls) ≡ list_if_any m ls
list_is text m s x None = refl
list_is text m s x (Some ls) = refl

pub ruleset writing = (bytes_none, edits_none, edits_then, written_both, listed_first, pointer_is, list_is)

-- ---- names of which none is left out

none_left : (n : Option (List ℕ)) → becomes_next [] n ≡ n
none_left None = refl
none_left (Some y) = refl

pub becomes_one : (rs : List Rewriting) → becomes_both rs [] ≡ becomes rs
becomes_one rs = fun_ext (λ x. none_left (becomes rs x))

-- ---- the body, where no names are bound before it and nothing stands round it

pub body_written : (bytes : List ℕ) (m k : List ℕ → Option (List ℕ)) (own : Names) (ls : List Around) (b : Body) (o p : List text.Edit) → own ≡ [] → ls ≡ [] → m ≡ k
    → p ≡ o ++ map written (body_edits (let_edits bytes m) own ls b) → p ≡ o ++ map written (body_edits (let_edits bytes k) [] [] b)
body_written bytes m k own ls b o p none alone same made =
    made ∙ ap (λ (n : Names). o ++ map written (body_edits (let_edits bytes m) n ls b)) none
    ∙ ap (λ (l : List Around). o ++ map written (body_edits (let_edits bytes m) [] l b)) alone
    ∙ ap (λ (f : List ℕ → Option (List ℕ)). o ++ map written (body_edits (let_edits bytes f) [] [] b)) same
