-- The loop over the edits: what is written so far, and the rest of the text with the edits that are left, are the whole.
use Rattle.std.proofs.Common.{◌≡◌, ℕ, suc, ◌+◌, ◌-◌, ◌≤◌, ◌<◌, List, [], ◌∷◌, ◌++◌, length, take, drop, drop-cons, get_or, refl, sym, ap, subst, ◌∙◌, arith, append_assoc}
use Rattle.std.specs.Prelude.{IsCharBoundary, IsUtf8}
use Rattle.std.proofs.lemmas.List.{drop-drop, drop_all}
use Rattle.std.proofs.lemmas.Str.{IsCharBoundary-start}
use Rattle.rx_core.specs.declared.types.Edit.{Edit}
use Rattle.rx_splice.specs.Edits.{spliced, InOrder, OnBoundaries, AreEdits}

-- what holds before each edit
pub record SoFar (text : List ℕ) (all : List Edit) (out : List ℕ) (at i : ℕ) : Type 0 where
  pub in_order : InOrder at (drop i all) (length text)
  pub on_boundaries : OnBoundaries text (drop i all)
  pub at_boundary : IsCharBoundary text at
  pub text_so_far : out ++ spliced at (drop at text) (drop i all) ≡ spliced 0 text all

pub begins : (text : List ℕ) (all : List Edit) → IsUtf8 text → AreEdits text all → SoFar text all [] 0 0
begins text all u e = record { in_order = e.in_order; on_boundaries = e.on_boundaries; at_boundary = IsCharBoundary-start text u; text_so_far = refl }

-- the edits that are left, from the next one on
pub left : (all : List Edit) (i : ℕ) (e : Edit) → i < length all → e ≡ get_or all i e → drop i all ≡ e ∷ drop (i + 1) all
left all i e l is =
    let n : suc i ≡ i + 1 = omega arith in
    drop-cons all i e l ∙ ap (λ x. x ∷ drop (suc i) all) (sym is) ∙ ap (λ k. e ∷ drop k all) n

-- what the next edit needs
pub record Next (text : List ℕ) (at : ℕ) (e : Edit) (es : List Edit) : Type 0 where
  pub low : at ≤ e.span.start
  pub up : e.span.start ≤ e.span.end
  pub in_order : InOrder e.span.end es (length text)
  pub starts : IsCharBoundary text e.span.start
  pub ends : IsCharBoundary text e.span.end
  pub on_boundaries : OnBoundaries text es

pub next : (text : List ℕ) (all : List Edit) (out : List ℕ) (at i : ℕ) (e : Edit) → i < length all → e ≡ get_or all i e → SoFar text all out at i → Next text at e (drop (i + 1) all)
next text all out at i e l is s =
    let o = subst (λ es. InOrder at es (length text)) (left all i e l is) s.in_order in
    let b = subst (λ es. OnBoundaries text es) (left all i e l is) s.on_boundaries in
    record { low = o.0; up = o.1; in_order = o.2; starts = b.0; ends = b.1; on_boundaries = b.2 }

pub goes_on : (text : List ℕ) (all : List Edit) (out : List ℕ) (at i : ℕ) (e : Edit) → i < length all → e ≡ get_or all i e → SoFar text all out at i
    → SoFar text all ((out ++ take (e.span.start - at) (drop at text)) ++ e.text) e.span.end (i + 1)
goes_on text all out at i e l is s =
    let n = next text all out at i e l is s in
    let k : at + (e.span.end - at) ≡ e.span.end = omega (arith, n.low, n.up) in
    let es = drop (i + 1) all in
    let front = take (e.span.start - at) (drop at text) in
    record {
      in_order = n.in_order;
      on_boundaries = n.on_boundaries;
      at_boundary = n.ends;
      text_so_far =
          append_assoc (out ++ front) e.text (spliced e.span.end (drop e.span.end text) es)
          ∙ append_assoc out front (e.text ++ spliced e.span.end (drop e.span.end text) es)
          ∙ ap (λ x. out ++ (front ++ (e.text ++ spliced e.span.end x es))) (ap (λ m. drop m text) (sym k) ∙ sym (drop-drop (e.span.end - at) at text))
          ∙ ap (λ x. out ++ spliced at (drop at text) x) (sym (left all i e l is))
          ∙ s.text_so_far;
    }

-- no edit is left
pub done : (text : List ℕ) (all : List Edit) (out : List ℕ) (at i : ℕ) → length all ≤ i → SoFar text all out at i → out ++ drop at text ≡ spliced 0 text all
done text all out at i l s = ap (λ es. out ++ spliced at (drop at text) es) (sym (drop_all i all l)) ∙ s.text_so_far
