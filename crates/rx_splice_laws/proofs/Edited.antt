-- Edits of tokens: what a list of tokens becomes, part by part.
use Rattle.std.proofs.Common.{◌≡◌, ℕ, Bool, true, false, List, [], ◌∷◌, ◌++◌, refl, ◌+◌, length, append-nil, append_assoc, sym, subst, ap, ◌∙◌}
use Rattle.std.specs.Prelude.{◌≢◌, not}
use Rattle.std.proofs.lemmas.Bool.{false≢true}
use Rattle.rx_lex.specs.declared.token.Class.TheVariants.{Lifetime}
use Rattle.rx_lex.specs.Words.{IsWord}
use Rattle.rx_lex.specs.Tok.{Tok}
use Rattle.rx_parse_grammar.specs.grammar.Words.{span_of, IsLifetime}
use Rattle.rx_print_spelling.specs.Pieces.{Piece, word, blanks}
use Rattle.rx_print_spelling.proofs.Pieces.{places}
use Rattle.rx_print_spelling.proofs.FirstWords.{word_begins, tokens_begin}
use Rattle.rx_parse_grammar.specs.grammar.Expressions as g
use Rattle.rx_parse_grammar.specs.grammar.Expressions.{BeginsLike}
use Rattle.rx_splice_laws.specs.Edits.{Edit, replaced, put}
use Rattle.rx_splice_laws.proofs.Beside.{InPlace, Closing, Opening, Next}

-- tokens that pieces are, wherever they stand
abbrev pub made : List Piece → List Tok
made ps = places 0 ps

-- whether the first word is there, and begins no expression that ends in a block
abbrev pub begins_plain : List Piece → Bool
begins_plain [] = false
begins_plain (word c w ∷ ps) = not (word_begins c w)
begins_plain (blanks b ∷ ps) = begins_plain ps

-- the edits make the second tokens of the first ones
pub data Edited : List Edit → List Tok → List Tok → Type 0 where
  kept : (ts : List Tok) → Edited [] ts ts
  -- in place of all of them: with words that begin nothing that ends in a block
  instead : (ts : List Tok) (ps : List Piece) → ts ≢ [] → begins_plain ps ≡ true → InPlace ts ps → Edited (replaced (span_of ts) ps ∷ []) ts (made ps)
  -- in place of a lifetime: another
  renamed : (t : Tok) (w : List ℕ) → IsLifetime t → IsWord Lifetime w → Edited (replaced t.span (word Lifetime w ∷ []) ∷ []) (t ∷ []) (made (word Lifetime w ∷ []))
  -- directly behind the last, before anything
  behind : {es : List Edit} {ts us : List Tok} (ps : List Piece) → ts ≢ [] → Closing ps → Edited es ts us
      → Edited (es ++ put (span_of ts).end ps ∷ []) ts (us ++ made ps)
  -- directly behind all but the last
  next : (ts : List Tok) (z : Tok) (ps : List Piece) → ts ≢ [] → Next ts z ps → Edited (put (span_of ts).end ps ∷ []) (ts ++ z ∷ []) (ts ++ (made ps ++ z ∷ []))
  -- directly before the second: with any words
  between : {es : List Edit} {ts us : List Tok} (t u : Tok) (ps : List Piece) → Opening t u ps → Edited es (u ∷ ts) us
      → Edited (put u.span.start ps ∷ es) (t ∷ u ∷ ts) (t ∷ (made ps ++ us))
  -- one part after the other
  joined : {es fs : List Edit} {ts us vs ws : List Tok} → Edited es ts us → Edited fs vs ws → Edited (es ++ fs) (ts ++ vs) (us ++ ws)

pub one_kept : {es : List Edit} {ts us : List Tok} (t : Tok) → Edited es ts us → Edited es (t ∷ ts) (t ∷ us)
one_kept t e = joined (kept (t ∷ [])) e

-- ---- some more forms

pub then_kept : {es : List Edit} {ts us : List Tok} → Edited es ts us → (bs : List Tok) → Edited es (ts ++ bs) (us ++ bs)
then_kept {es} {ts} {us} e bs = subst (λ x. Edited x (ts ++ bs) (us ++ bs)) (append-nil es) (joined e (kept bs))

pub and_none : {es : List Edit} {ts us : List Tok} → Edited es ts us → Edited (es ++ []) ts us
and_none {es} {ts} {us} e = subst (λ x. Edited x ts us) (sym (append-nil es)) e

pub regrouped : {ts us : List Tok} (es fs gs : List Edit) → Edited (es ++ (fs ++ gs)) ts us → Edited ((es ++ fs) ++ gs) ts us
regrouped {ts} {us} es fs gs e = subst (λ x. Edited x ts us) (sym (append_assoc es fs gs)) e

pub moved : {es : List Edit} {ts vs us : List Tok} → ts ≡ vs → Edited es vs us → Edited es ts us
moved {es} {us = us} i e = subst (λ x. Edited es x us) (sym i) e

-- ---- something is left of something, and nothing begins otherwise than before

made_some : (at : ℕ) (ps : List Piece) → begins_plain ps ≡ true → places at ps ≢ []
made_some at [] b e = false≢true b
made_some at (word c w ∷ ps) b e = absurd (cc)
made_some at (blanks x ∷ ps) b e = made_some (at + length x) ps b e

append_some : (us ws : List Tok) → us ≢ [] → us ++ ws ≢ []
append_some [] ws n e = n refl
append_some (u ∷ us) ws n e = absurd (cc)

append_last : (us ws : List Tok) → ws ≢ [] → us ++ ws ≢ []
append_last [] ws n e = n e
append_last (u ∷ us) ws n e = absurd (cc)

pub some_left : {es : List Edit} {ts us : List Tok} → Edited es ts us → ts ≢ [] → us ≢ []
some_left (kept ts) n = n
some_left (instead ts ps m b i) n = made_some 0 ps b
some_left (renamed t w l i) n = λ z. absurd (cc)
some_left (between t u ps o e) n = λ z. absurd (cc)
some_left (behind {us = us} ps m c e) n = append_some us (made ps) (some_left e m)
some_left (next ts z ps m c) n = append_some ts (made ps ++ z ∷ []) m
some_left (joined {ts = []} {us = us} {vs = vs} {ws = ws} e f) n = append_last us ws (some_left f n)
some_left (joined {ts = t ∷ ts} {us = us} {ws = ws} e f) n = append_some us ws (some_left e (λ z. absurd (cc)))

pub none_left : {es : List Edit} {ts us : List Tok} → Edited es ts us → ts ≡ [] → us ≡ []
none_left (kept ts) n = n
none_left (instead ts ps m b i) n = absurd (m n)
none_left (renamed t w l i) n = absurd (cc)
none_left (between t u ps o e) n = absurd (cc)
none_left (behind ps m c e) n = absurd (m n)
none_left (next ts z ps m c) n = absurd (append_some ts (z ∷ []) m n)
none_left (joined {ts = []} {us = us} {vs = vs} {ws = ws} e f) n = ap (λ x. x ++ ws) (none_left e refl) ∙ none_left f n
none_left (joined {ts = t ∷ ts} e f) n = absurd (cc)

made_begins : (at : ℕ) (ps : List Piece) (us : List Tok) → begins_plain ps ≡ true → BeginsLike (places at ps ++ us) → ⊥
made_begins at [] us b d = false≢true b
made_begins at (word c w ∷ ps) us b d = false≢true (ap not (sym (tokens_begin (word c w ∷ []) at (front d))) ∙ b)
  where
    front : {t : Tok} {us : List Tok} → BeginsLike (t ∷ us) → BeginsLike (t ∷ [])
    front (g.with_brace m) = g.with_brace m
    front (g.with_if m) = g.with_if m
    front (g.with_match m) = g.with_match m
    front (g.with_loop m) = g.with_loop m
    front (g.with_while m) = g.with_while m
    front (g.with_label m) = g.with_label m
made_begins at (blanks x ∷ ps) us b d = made_begins (at + length x) ps us b d

longer_begins : (us ws : List Tok) → BeginsLike us → BeginsLike (us ++ ws)
longer_begins us ws (g.with_brace m) = g.with_brace m
longer_begins us ws (g.with_if m) = g.with_if m
longer_begins us ws (g.with_match m) = g.with_match m
longer_begins us ws (g.with_loop m) = g.with_loop m
longer_begins us ws (g.with_while m) = g.with_while m
longer_begins us ws (g.with_label m) = g.with_label m

same_first : {t : Tok} {us ws : List Tok} → BeginsLike (t ∷ us) → BeginsLike (t ∷ ws)
same_first (g.with_brace m) = g.with_brace m
same_first (g.with_if m) = g.with_if m
same_first (g.with_match m) = g.with_match m
same_first (g.with_loop m) = g.with_loop m
same_first (g.with_while m) = g.with_while m
same_first (g.with_label m) = g.with_label m

front_begins : (us ws : List Tok) → us ≢ [] → BeginsLike (us ++ ws) → BeginsLike us
front_begins [] ws n d = absurd (n refl)
front_begins (u ∷ us) ws n d = same_first d

pub begins_kept : {es : List Edit} {ts us : List Tok} → Edited es ts us → BeginsLike us → BeginsLike ts
begins_kept (kept ts) d = d
begins_kept (instead ts ps m b i) d = absurd (made_begins 0 ps [] b (subst BeginsLike (sym (append-nil (made ps))) d))
begins_kept (renamed t w l i) d = g.with_label l
begins_kept (between t u ps o e) d = same_first d
begins_kept (behind {us = us} ps m c e) d = begins_kept e (front_begins us (made ps) (some_left e m) d)
begins_kept (next ts z ps m c) d = longer_begins ts (z ∷ []) (front_begins ts (made ps ++ z ∷ []) m d)
begins_kept (joined {ts = []} {us = us} {vs = vs} {ws = ws} e f) d = begins_kept f (subst (λ x. BeginsLike (x ++ ws)) (none_left e refl) d)
begins_kept (joined {ts = t ∷ ts} {us = us} {vs = vs} {ws = ws} e f) d = longer_begins (t ∷ ts) vs (begins_kept e (front_begins us ws (some_left e (λ z. absurd (cc))) d))
