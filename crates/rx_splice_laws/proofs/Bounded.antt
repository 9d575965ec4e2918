-- Edits of tokens begin and end where characters do, since tokens do.
use Rattle.std.proofs.Common.{◌≡◌, ℕ, ◌+◌, ◌≤◌, List, [], ◌∷◌, ◌++◌, map, length, length-append, length-take, take, refl, sym, ap, subst, ◌∙◌, arith, append_assoc}
use Rattle.std.specs.Prelude.{◌≢◌, IsUtf8, IsCharBoundary}
use Rattle.std.proofs.lemmas.List.{take_at, drop_at}
use Rattle.std.proofs.lemmas.Str.{IsCharBoundary-at_seam}
use Rattle.rx_lex.specs.Tok.{Tok}
use Rattle.rx_lex.specs.Tokens.{Tokens, none, gap, token}
use Rattle.rx_lex.proofs.Gaps.{gap_front, gap_utf8}
use Rattle.rx_lex.proofs.LongestWord.{word_utf8}
use Rattle.rx_lex.proofs.Names.{rest_text}
use Rattle.rx_parse_grammar.specs.grammar.Words.{span_of}
use Rattle.rx_splice.specs.Edits.{OnBoundaries, InOrder}
use Rattle.rx_splice_laws.specs.Edits.{Edit, put, written, Ordered, no_edit, edit_and}
use Rattle.rx_splice_laws.proofs.Edited.{Edited, kept, instead, renamed, behind, next, between, joined}

-- ---- tokens

abbrev pub EachBounded : List ℕ → List Tok → Type 0
EachBounded text [] = Unit {0}
EachBounded text (t ∷ ts) = IsCharBoundary text t.span.start × IsCharBoundary text t.span.end × EachBounded text ts

rest_utf8 : (w r : List ℕ) → IsUtf8 w → IsUtf8 (w ++ r) → IsUtf8 r
rest_utf8 w r u v =
    subst IsUtf8 (drop_at w r (length w) refl)
    (rest_text (length w) (w ++ r) (let l : length w ≤ length (w ++ r) = omega (arith, length-append w r) in l) v (subst IsUtf8 (sym (take_at w r (length w) refl)) u))

each_bounded : {at : ℕ} {t : List ℕ} {ts : List Tok} (text front : List ℕ) → length front ≡ at → text ≡ front ++ t → IsUtf8 t → Tokens at t ts → EachBounded text ts
each_bounded text front n e u none = tt
each_bounded text front n e u (gap k {t = t} {r = r} g l d) =
    let f : t ≡ take k t ++ r = gap_front k g l in
    each_bounded text (front ++ take k t) (omega (arith, length-append front (take k t), length-take k t)) (e ∙ (ap (λ x. front ++ x) f ∙ sym (append_assoc front (take k t) r))) (gap_utf8 g u) d
each_bounded {at = at} text front n e u (token {t = t} c w r m l d) =
    let f : text ≡ (front ++ w) ++ r = e ∙ ap (λ x. front ++ x) l.front.is ∙ sym (append_assoc front w r) in
    let v = rest_utf8 w r (word_utf8 l.front.word) (subst IsUtf8 l.front.is u) in
    let k : length (front ++ w) ≡ at + length w = omega (arith, length-append front w, n) in (
      subst (IsCharBoundary text) n (IsCharBoundary-at_seam text front t e u),
      subst (IsCharBoundary text) k (IsCharBoundary-at_seam text (front ++ w) r f v),
      each_bounded text (front ++ w) k f v d,
    )

pub tokens_bounded : (text : List ℕ) (ts : List Tok) → IsUtf8 text → Tokens 0 text ts → EachBounded text ts
tokens_bounded text ts u d = each_bounded text [] refl refl u d

pub bounded_left : (text : List ℕ) (ts us : List Tok) → EachBounded text (ts ++ us) → EachBounded text ts
bounded_left text [] us b = tt
bounded_left text (t ∷ ts) us b = (b.0, b.1, bounded_left text ts us b.2)

pub bounded_right : (text : List ℕ) (ts us : List Tok) → EachBounded text (ts ++ us) → EachBounded text us
bounded_right text [] us b = b
bounded_right text (t ∷ ts) us b = bounded_right text ts us b.2

end_bounded : (text : List ℕ) (t : Tok) (ts : List Tok) → EachBounded text (t ∷ ts) → IsCharBoundary text (span_of (t ∷ ts)).end
end_bounded text t [] b = b.1
end_bounded text t (u ∷ us) b = end_bounded text u us b.2

span_bounded : (text : List ℕ) (ts : List Tok) → ts ≢ [] → EachBounded text ts → IsCharBoundary text (span_of ts).start × IsCharBoundary text (span_of ts).end
span_bounded text [] n b = absurd (n refl)
span_bounded text (t ∷ ts) n b = (b.0, end_bounded text t ts b)

-- ---- edits

boundaries-append : (text : List ℕ) (es fs : List Edit) → OnBoundaries text (map written es) → OnBoundaries text (map written fs) → OnBoundaries text (map written (es ++ fs))
boundaries-append text [] fs b c = c
boundaries-append text (e ∷ es) fs b c = (b.0, b.1, boundaries-append text es fs b.2 c)

pub edits_bounded : {es : List Edit} {ts us : List Tok} (text : List ℕ) → Edited es ts us → EachBounded text ts → OnBoundaries text (map written es)
edits_bounded text (kept ts) b = tt
edits_bounded text (instead ts ps n p i) b = let s = span_bounded text ts n b in (s.0, s.1, tt)
edits_bounded text (next ts z ps n c) b = let s = span_bounded text ts n (bounded_left text ts (z ∷ []) b) in (s.1, s.1, tt)
edits_bounded text (behind {es = es} {ts = ts} ps n c e) b =
    let s = span_bounded text ts n b in
    boundaries-append text es (put (span_of ts).end ps ∷ []) (edits_bounded text e b) (s.1, s.1, tt)
edits_bounded text (renamed t w l i) b = (b.0, b.1, tt)
edits_bounded text (between t u ps o e) b = (b.2.0, b.2.0, edits_bounded text e b.2)
edits_bounded text (joined {es = es} {fs = fs} {ts = ts} {vs = vs} e f) b =
    boundaries-append text es fs (edits_bounded text e (bounded_left text ts vs b)) (edits_bounded text f (bounded_right text ts vs b))

-- ---- in order

pub in_order : {from to : ℕ} {es : List Edit} (low high : ℕ) → low ≤ from → to ≤ high → Ordered from es to → InOrder low (map written es) high
in_order low high l h (no_edit k) = omega (arith, l, h, k)
in_order low high l h (edit_and {e = e} a b o) = (omega (arith, l, a), b, in_order e.to high (let k : e.to ≤ e.to = omega arith in k) h o)
