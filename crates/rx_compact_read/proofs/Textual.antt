-- A text with edits that begin and end where characters do is a text, where each edit writes one: by recursion on the edits.
use Rattle.std.proofs.Common.{◌≡◌, ℕ, ◌+◌, ◌-◌, List, [], ◌∷◌, length, drop, map, sym, ap, subst, ◌∙◌, arith}
use Rattle.std.specs.Prelude.{IsUtf8, IsCharBoundary}
use Rattle.std.proofs.lemmas.List.{drop-drop}
use Rattle.std.proofs.lemmas.Str.{IsUtf8-append, IsUtf8-between, IsUtf8-drop, IsCharBoundary-start}
use Rattle.rx_splice.specs.Edits.{InOrder, OnBoundaries, AreEdits}
use Rattle.rx_splice_laws.specs.Edits.{Edit, written, spliced}
use Rattle.rx_splice_laws.proofs.Spelled.{EachEdit}
use Rattle.rx_compact_read.proofs.Each.{IsTextual}

from_place : (text : List ℕ) (at : ℕ) (es : List Edit) → IsUtf8 text → IsCharBoundary text at → InOrder at (map written es) (length text) → OnBoundaries text (map written es) → EachEdit IsTextual es
    → IsUtf8 (spliced at (drop at text) es)
from_place text at [] u b o n t = IsUtf8-drop text at u b
from_place text at (e ∷ es) u b o n t =
    let d : drop (e.to - at) (drop at text) ≡ drop e.to text = drop-drop (e.to - at) at text ∙ ap (λ k. drop k text) (let a = o.0 in let c = o.1 in let q : at + (e.to - at) ≡ e.to = omega (arith, a, c) in q) in
    IsUtf8-append _ _ (IsUtf8-between text at e.from u o.0 b n.0)
    (IsUtf8-append _ _ t.0 (subst (λ x. IsUtf8 (spliced e.to x es)) (sym d) (from_place text e.to es u n.1 o.2 n.2 t.1)))

pub textual_text : (text : List ℕ) (es : List Edit) → IsUtf8 text → AreEdits text (map written es) → EachEdit IsTextual es → IsUtf8 (spliced 0 text es)
textual_text text es u a t = from_place text 0 es u (IsCharBoundary-start text u) a.in_order a.on_boundaries t
