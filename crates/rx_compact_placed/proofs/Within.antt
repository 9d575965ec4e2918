-- Edits among tokens: each stands in the place of one token, of one with the blanks behind it, or of tokens with the marks round them.
-- Where the tokens are those of a text, such edits stand in order, and begin and end where characters do.
use Rattle.std.proofs.Common.{◌≡◌, ◌⊎◌, inl, inr, ℕ, suc, ◌+◌, ◌≤◌, Bool, true, false, List, [], ◌∷◌, ◌++◌, map, length, length-append, length-take, take, drop, codes, refl, sym, ap, subst, ◌∙◌, arith, append_assoc, append-nil}
use Rattle.std.specs.Prelude.{◌≢◌, if◌then◌else◌, IsUtf8, IsCharBoundary}
use Rattle.std.proofs.lemmas.List.{take_at, drop_at}
use Rattle.std.proofs.lemmas.Str.{IsCharBoundary-at_seam}
use Rattle.rx_core.specs.declared.types.Span.{Span}
use Rattle.rx_lex.specs.declared.token.Class.TheVariants as class
use Rattle.rx_lex.specs.Tok.{Tok}
use Rattle.rx_lex.specs.Tokens.{is_blank, Gap, blank, line_comment, block_comment, Tokens, none, gap, token}
use Rattle.rx_lex.proofs.Gaps.{gap_front, gap_utf8}
use Rattle.rx_lex.proofs.LongestWord.{word_utf8}
use Rattle.rx_lex.proofs.Names.{rest_text}
use Rattle.rx_parse_grammar.specs.grammar.Words.{second_ampersand}
use Rattle.rx_print_spelling.specs.Pieces.{Piece}
use Rattle.rx_splice.specs.Edits.{OnBoundaries}
use Rattle.rx_splice_laws.specs.Edits.{Edit, replaced, written, Ordered, no_edit, edit_and}
use Rattle.rx_splice_laws.proofs.Splicing.{ordered-append}
use Rattle.rx_compact_text.specs.CompactedText.{leading_blanks, with_blanks}

-- it is no half of `&&`
abbrev pub IsWhole : Tok → Type 0
IsWhole t = (t.class ≡ class.Lifetime) ⊎ (t.text ≢ codes "&")

pub data Within (text : List ℕ) : List Edit → List Tok → Type 0 where
  kept : (ts : List Tok) → Within text [] ts
  instead : (t : Tok) (ps : List Piece) → IsWhole t → Within text (replaced t.span ps ∷ []) (t ∷ [])
  gone : {es : List Edit} {us : List Tok} (t : Tok) (ps : List Piece) → IsWhole t → Within text es us → Within text (replaced (with_blanks text t.span) ps ∷ es) (t ∷ us)
  enclosed : (o c : Tok) (us : List Tok) (s : Span) (ps : List Piece) → IsWhole o → IsWhole c → s.start ≡ o.span.start → s.end ≡ c.span.end
      → Within text (replaced s ps ∷ []) (o ∷ (us ++ c ∷ []))
  second : {es : List Edit} {us : List Tok} (t : Tok) → t.text ≡ codes "&&" → Within text es (second_ampersand t ∷ us) → Within text es (t ∷ us)
  joined : {es fs : List Edit} {ts vs : List Tok} → Within text es ts → Within text fs vs → Within text (es ++ fs) (ts ++ vs)

pub moved : {text : List ℕ} {es : List Edit} {ts vs : List Tok} → ts ≡ vs → Within text es vs → Within text es ts
moved {text} {es} i w = subst (λ x. Within text es x) (sym i) w

pub same : {text : List ℕ} {es fs : List Edit} {ts : List Tok} → es ≡ fs → Within text fs ts → Within text es ts
same {text} {ts = ts} e w = subst (λ x. Within text x ts) (sym e) w

pub one_kept : {text : List ℕ} {es : List Edit} {ts : List Tok} (t : Tok) → Within text es ts → Within text es (t ∷ ts)
one_kept t w = joined (kept (t ∷ [])) w

pub then_kept : {text : List ℕ} {es : List Edit} {ts : List Tok} → Within text es ts → (bs : List Tok) → Within text es (ts ++ bs)
then_kept {text} {es} {ts} w bs = subst (λ x. Within text x (ts ++ bs)) (append-nil es) (joined w (kept bs))

pub and_none : {text : List ℕ} {es : List Edit} {ts : List Tok} → Within text es ts → Within text (es ++ []) ts
and_none {text} {es} {ts} w = subst (λ x. Within text x ts) (sym (append-nil es)) w

-- ---- tokens in a text

-- the text may be cut at both ends of a token, and behind the blanks that follow it
pub record Cuts (text : List ℕ) (s : Span) : Type 0 where
  pub starts : IsCharBoundary text s.start
  pub ends : IsCharBoundary text s.end
  pub behind : IsCharBoundary text (with_blanks text s).end

-- tokens in order from a place to a place, the blanks behind each too
abbrev pub Stands : List ℕ → ℕ → List Tok → ℕ → Type 0
Stands text from [] to = from ≤ to
Stands text from (t ∷ ts) to =
    (from ≤ t.span.start) × (t.span.end ≡ t.span.start + length t.text) × (IsWhole t → Cuts text t.span) × Stands text (with_blanks text t.span).end ts to

pub stands_low : (text : List ℕ) (from to : ℕ) (ts : List Tok) → Stands text from ts to → from ≤ to
stands_low text from to [] s = s
stands_low text from to (t ∷ ts) s = let a = s.0 in let b = s.1 in let l = stands_low text (with_blanks text t.span).end to ts s.3 in omega (arith, a, b, l)

pub stands_near : (text : List ℕ) (from near to : ℕ) (ts : List Tok) → near ≤ from → Stands text from ts to → Stands text near ts to
stands_near text from near to [] l s = omega (arith, l, s)
stands_near text from near to (t ∷ ts) l s = (let a = s.0 in omega (arith, l, a), s.1, s.2, s.3)

-- where what follows tokens may begin
abbrev past_all : List ℕ → ℕ → List Tok → ℕ
past_all text from [] = from
past_all text from (t ∷ ts) = past_all text (with_blanks text t.span).end ts

front_stands : (text : List ℕ) (from to : ℕ) (ts vs : List Tok) → Stands text from (ts ++ vs) to → Stands text from ts (past_all text from ts)
front_stands text from to [] vs s = omega arith
front_stands text from to (t ∷ ts) vs s = (s.0, s.1, s.2, front_stands text (with_blanks text t.span).end to ts vs s.3)

rest_stands : (text : List ℕ) (from to : ℕ) (ts vs : List Tok) → Stands text from (ts ++ vs) to → Stands text (past_all text from ts) vs to
rest_stands text from to [] vs s = s
rest_stands text from to (t ∷ ts) vs s = rest_stands text (with_blanks text t.span).end to ts vs s.3

-- the last of some tokens
last_stands : (text : List ℕ) (from to : ℕ) (us : List Tok) (c : Tok) → Stands text from (us ++ c ∷ []) to → (from ≤ c.span.end) × (c.span.end ≤ to) × (IsWhole c → Cuts text c.span)
last_stands text from to [] c s = let a = s.0 in let b = s.1 in let d = s.3 in (omega (arith, a, b), omega (arith, d), s.2)
last_stands text from to (u ∷ us) c s =
    let a = s.0 in let b = s.1 in let r = last_stands text (with_blanks text u.span).end to us c s.3 in let l = r.0 in
    (omega (arith, a, b, l), r.1, r.2)

-- ---- edits among them

pub record Placed (text : List ℕ) (from : ℕ) (es : List Edit) (to : ℕ) : Type 0 where
  pub ordered : Ordered from es to
  pub bounded : OnBoundaries text (map written es)

boundaries-append : (text : List ℕ) (es fs : List Edit) → OnBoundaries text (map written es) → OnBoundaries text (map written fs) → OnBoundaries text (map written (es ++ fs))
boundaries-append text [] fs b c = c
boundaries-append text (e ∷ es) fs b c = (b.0, b.1, boundaries-append text es fs b.2 c)

second_whole : (t : Tok) → IsWhole (second_ampersand t) → ⊥
second_whole t (inl e) = absurd (cc)
second_whole t (inr n) = n refl

second_stands : (text : List ℕ) (from to : ℕ) (t : Tok) (us : List Tok) → t.text ≡ codes "&&" → Stands text from (t ∷ us) to → Stands text from (second_ampersand t ∷ us) to
second_stands text from to t us e s =
    let a = s.0 in let b = s.1 in let n : length t.text ≡ 2 = ap length e in let k : length (codes "&") ≡ 1 = refl in
    (omega (arith, a), omega (arith, b, n, k), λ w. absurd (second_whole t w), s.3)

pub placed : {text : List ℕ} {es : List Edit} {ts : List Tok} → Within text es ts → (from to : ℕ) → Stands text from ts to → Placed text from es to
placed {text} (kept ts) from to s = record { ordered = no_edit (stands_low text from to ts s); bounded = tt }
placed {text} (instead t ps w) from to s =
    let a = s.0 in let b = s.1 in let d = s.3 in let c = s.2 w in record {
      ordered = edit_and a (omega (arith, b)) (no_edit (omega (arith, d)));
      bounded = (c.starts, c.ends, tt);
    }
placed {text} (gone {us = us} t ps w r) from to s =
    let a = s.0 in let b = s.1 in let c = s.2 w in let p = placed r (with_blanks text t.span).end to s.3 in record {
      ordered = edit_and a (omega (arith, b)) p.ordered;
      bounded = (c.starts, c.behind, p.bounded);
    }
placed {text} (enclosed o c us p ps v w e f) from to s =
    let a = s.0 in let b = s.1 in let r = last_stands text (with_blanks text o.span).end to us c s.3 in let l = r.0 in let h = r.1 in
    let x = s.2 v in let y = r.2 w in record {
      ordered = edit_and (omega (arith, a, e)) (omega (arith, b, l, e, f)) (no_edit (omega (arith, h, f)));
      bounded = (subst (IsCharBoundary text) (sym e) x.starts, subst (IsCharBoundary text) (sym f) y.ends, tt);
    }
placed {text} (second {us = us} t e w) from to s = placed w from to (second_stands text from to t us e s)
placed {text} (joined {es = es} {fs = fs} {ts = ts} {vs = vs} a b) from to s =
    let p = placed a from (past_all text from ts) (front_stands text from to ts vs s) in
    let q = placed b (past_all text from ts) to (rest_stands text from to ts vs s) in record {
      ordered = ordered-append p.ordered q.ordered;
      bounded = boundaries-append text es fs p.bounded q.bounded;
    }

-- ---- the tokens of a text stand so

rest_utf8 : (w r : List ℕ) → IsUtf8 w → IsUtf8 (w ++ r) → IsUtf8 r
rest_utf8 w r u v =
    subst IsUtf8 (drop_at w r (length w) refl)
    (rest_text (length w) (w ++ r) (let l : length w ≤ length (w ++ r) = omega (arith, length-append w r) in l) v (subst IsUtf8 (sym (take_whole w r)) u))
  where
    take_whole : (w r : List ℕ) → take (length w) (w ++ r) ≡ w
    take_whole w r = take_at w r (length w) refl

behind_blanks : (text front r : List ℕ) (n : ℕ) → length front ≡ n → text ≡ front ++ r → IsUtf8 r → IsCharBoundary text (n + leading_blanks r)
behind_blanks text front [] n e is u = subst (IsCharBoundary text) (omega (arith, e)) (IsCharBoundary-at_seam text front [] is u)
behind_blanks text front (c ∷ r) n e is u =
    by (is_blank c) refl (λ k. behind_blanks text (front ++ c ∷ []) r (n + 1) (omega (arith, e, length-append front (c ∷ []))) (is ∙ sym (append_assoc front (c ∷ []) r)) (gap_utf8 (blank k) u))
  where
    by : (b : Bool) → is_blank c ≡ b → (is_blank c ≡ true → IsCharBoundary text (n + 1 + leading_blanks r)) → IsCharBoundary text (n + (if b then suc (leading_blanks r) else 0))
    by true k more = subst (IsCharBoundary text) (omega arith) (more k)
    by false k more = subst (IsCharBoundary text) (omega (arith, e)) (IsCharBoundary-at_seam text front (c ∷ r) is u)

no_blank : (t : List ℕ) → ((q : List ℕ) → Gap t q → ⊥) → leading_blanks t ≡ 0
no_blank [] n = refl
no_blank (c ∷ t) n = by (is_blank c) refl where
  by : (b : Bool) → is_blank c ≡ b → (if b then suc (leading_blanks t) else 0) ≡ 0
  by true k = absurd (n t (blank k))
  by false k = refl

-- behind a gap not more blanks lead than before it
gap_blanks : {t r : List ℕ} (k : ℕ) → Gap t r → length t ≡ k + length r → leading_blanks t ≤ k + leading_blanks r
gap_blanks k (blank {c = c} {r = r} e) l = by (is_blank c) where
  by : (b : Bool) → (if b then suc (leading_blanks r) else 0) ≤ k + leading_blanks r
  by true = omega (arith, l)
  by false = omega arith
gap_blanks k (line_comment u {r = r} e f is) l = subst (λ (x : List ℕ). leading_blanks x ≤ k + leading_blanks r) (sym is) (let z : 0 ≤ k + leading_blanks r = omega arith in z)
gap_blanks k (block_comment {r = r} b) l = let z : 0 ≤ k + leading_blanks r = omega arith in z

text_from : {at : ℕ} {t : List ℕ} {ts : List Tok} (text front : List ℕ) → length front ≡ at → text ≡ front ++ t → IsUtf8 t → Tokens at t ts → Stands text (at + leading_blanks t) ts (length text)
text_from text front n e u none = omega (arith, n, ap length e, length-append front [])
text_from {at = at} {ts = ts} text front n e u (gap k {t = t} {r = r} g l d) =
    let f : t ≡ take k t ++ r = gap_front k g l in
    let w = gap_blanks k g l in
    stands_near text (at + k + leading_blanks r) (at + leading_blanks t) (length text) ts (omega (arith, w))
    (text_from text (front ++ take k t)
    (omega (arith, length-append front (take k t), length-take k t))
    (e ∙ (ap (λ x. front ++ x) f ∙ sym (append_assoc front (take k t) r))) (gap_utf8 g u) d)
text_from {at = at} text front n e u (token {t = t} {ts = ts} c w r m l d) =
    let f : text ≡ (front ++ w) ++ r = e ∙ ap (λ x. front ++ x) l.front.is ∙ sym (append_assoc front w r) in
    let v = rest_utf8 w r (word_utf8 l.front.word) (subst IsUtf8 l.front.is u) in
    let k : length (front ++ w) ≡ at + length w = omega (arith, length-append front w, n) in
    let q : drop (at + length w) text ≡ r = ap (drop (at + length w)) f ∙ drop_at (front ++ w) r (at + length w) k in
    let z = no_blank t m in (
      omega (arith, z),
      refl,
      λ x. record {
        starts = subst (IsCharBoundary text) n (IsCharBoundary-at_seam text front t e u);
        ends = subst (IsCharBoundary text) k (IsCharBoundary-at_seam text (front ++ w) r f v);
        behind = subst (λ (y : List ℕ). IsCharBoundary text (at + length w + leading_blanks y)) (sym q) (behind_blanks text (front ++ w) r (at + length w) k f v);
      },
      subst (λ (y : List ℕ). Stands text (at + length w + leading_blanks y) ts (length text)) (sym q) (text_from text (front ++ w) k f v d),
    )

pub text_stands : (text : List ℕ) (ts : List Tok) → IsUtf8 text → Tokens 0 text ts → Stands text 0 ts (length text)
text_stands text ts u d = stands_near text (0 + leading_blanks text) 0 (length text) ts (omega arith) (text_from text [] refl refl u d)

-- those of a part
pub part_stands : (text : List ℕ) (pre ts post : List Tok) (to : ℕ) → Stands text 0 (pre ++ (ts ++ post)) to → (from : ℕ) × (end : ℕ) × Stands text from ts end × (end ≤ to)
part_stands text pre ts post to s =
    let r = rest_stands text 0 to pre (ts ++ post) s in
    let from = past_all text 0 pre in
    (from, past_all text from ts, front_stands text from to ts post r, stands_low text (past_all text from ts) to post (rest_stands text from to ts post r))
