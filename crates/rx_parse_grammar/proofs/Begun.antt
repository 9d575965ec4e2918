-- What the tokens begin that a parser passed before it stopped: step by step. Where it reads, they are such a part; where it
-- refuses the next token, some further tokens complete them to one; where it is too deep, so they do with that token.
use Rattle.std.proofs.Common.{◌≡◌, ℕ, None, arith, zero, Bool, true, false, cond, List, [], ◌∷◌, ◌++◌, length, Ok, Err, codes, refl, sym, ap, subst, ◌∙◌, append_assoc, append-nil}
use Rattle.std.specs.Prelude.{nat_lt}
use Rattle.std.specs.List.{list_all}
use Rattle.std.proofs.lemmas.Bool.{and_parts}
use Rattle.std.proofs.lemmas.Slice.Eq.{bytes_eq-Decides}
use Rattle.rx_lex.specs.declared.token.Class.{Class}
use Rattle.rx_lex.specs.declared.token.Class.TheVariants as class
use Rattle.rx_lex.specs.Tok.{Tok}
use Rattle.rx_lex.specs.Words.{format_text}
use Rattle.rx_parse_grammar.specs.declared.stop.Stop.{Stop}
use Rattle.rx_parse_grammar.specs.declared.stop.Stop.TheVariants.{Syntax, TooDeep}
use Rattle.rx_parse_grammar.specs.declared.symbol.Symbol.{Symbol}
use Rattle.rx_parse_grammar.specs.declared.symbol.Symbol.TheVariants as symbol
use Rattle.rx_lex.specs.Words.{IsWord}
use Rattle.rx_lex.specs.Words as words
use Rattle.rx_lex.specs.Numerals.{decimal}
use Rattle.rx_lex.specs.Tokens.{AreWords}
use Rattle.rx_parse_grammar.specs.parser.Symbols.{symbol_of, head, tail, peek}
use Rattle.rx_parse_grammar.specs.parser.Steps.{Parser, Outcome, and_then, ◌>>=◌, pure, refuse, too_deep, next, expect, sees, when_next, within}
use Rattle.rx_parse_grammar.proofs.SymbolLemmas.{Stands, is_word, stands_as, sees_is}
use Rattle.rx_parse_grammar.proofs.Deriving.{Front, Derives, expected, okay}

-- ---- a token for each symbol

abbrev pub spelled : Class → List ℕ → Tok
spelled c w = record { class = c; span = record { start = 0; end = 0 }; text = w }

pub stand_in : Symbol → Tok
stand_in symbol.Name = spelled class.Identifier (codes "x")
stand_in symbol.Lifetime = spelled class.Lifetime (codes "'a")
stand_in symbol.Anonymous = spelled class.Lifetime (codes "'_")
stand_in symbol.Number = spelled class.Number (codes "0")
stand_in symbol.Format = spelled class.Format format_text
stand_in symbol.Mod = spelled class.Keyword (codes "mod")
stand_in symbol.Struct = spelled class.Keyword (codes "struct")
stand_in symbol.Enum = spelled class.Keyword (codes "enum")
stand_in symbol.Fn = spelled class.Keyword (codes "fn")
stand_in symbol.Let = spelled class.Keyword (codes "let")
stand_in symbol.Mut = spelled class.Keyword (codes "mut")
stand_in symbol.If = spelled class.Keyword (codes "if")
stand_in symbol.Else = spelled class.Keyword (codes "else")
stand_in symbol.Match = spelled class.Keyword (codes "match")
stand_in symbol.Loop = spelled class.Keyword (codes "loop")
stand_in symbol.While = spelled class.Keyword (codes "while")
stand_in symbol.Break = spelled class.Keyword (codes "break")
stand_in symbol.Continue = spelled class.Keyword (codes "continue")
stand_in symbol.Return = spelled class.Keyword (codes "return")
stand_in symbol.True = spelled class.Keyword (codes "true")
stand_in symbol.False = spelled class.Keyword (codes "false")
stand_in symbol.Bool = spelled class.Keyword (codes "bool")
stand_in symbol.U8 = spelled class.Keyword (codes "u8")
stand_in symbol.U32 = spelled class.Keyword (codes "u32")
stand_in symbol.U64 = spelled class.Keyword (codes "u64")
stand_in symbol.I32 = spelled class.Keyword (codes "i32")
stand_in symbol.I64 = spelled class.Keyword (codes "i64")
stand_in symbol.Arrow = spelled class.Mark (codes "->")
stand_in symbol.FatArrow = spelled class.Mark (codes "=>")
stand_in symbol.ColonColon = spelled class.Mark (codes "::")
stand_in symbol.EqualEqual = spelled class.Mark (codes "==")
stand_in symbol.NotEqual = spelled class.Mark (codes "!=")
stand_in symbol.LessEqual = spelled class.Mark (codes "<=")
stand_in symbol.GreaterEqual = spelled class.Mark (codes ">=")
stand_in symbol.AndAnd = spelled class.Mark (codes "&&")
stand_in symbol.OrOr = spelled class.Mark (codes "||")
stand_in symbol.PlusEqual = spelled class.Mark (codes "+=")
stand_in symbol.MinusEqual = spelled class.Mark (codes "-=")
stand_in symbol.StarEqual = spelled class.Mark (codes "*=")
stand_in symbol.SlashEqual = spelled class.Mark (codes "/=")
stand_in symbol.PercentEqual = spelled class.Mark (codes "%=")
stand_in symbol.OpenParen = spelled class.Mark (codes "(")
stand_in symbol.CloseParen = spelled class.Mark (codes ")")
stand_in symbol.OpenBrace = spelled class.Mark (codes "{")
stand_in symbol.CloseBrace = spelled class.Mark (codes "}")
stand_in symbol.OpenBracket = spelled class.Mark (codes "[")
stand_in symbol.CloseBracket = spelled class.Mark (codes "]")
stand_in symbol.Less = spelled class.Mark (codes "<")
stand_in symbol.Greater = spelled class.Mark (codes ">")
stand_in symbol.Comma = spelled class.Mark (codes ",")
stand_in symbol.Semicolon = spelled class.Mark (codes ";")
stand_in symbol.Colon = spelled class.Mark (codes ":")
stand_in symbol.Dot = spelled class.Mark (codes ".")
stand_in symbol.Equal = spelled class.Mark (codes "=")
stand_in symbol.Plus = spelled class.Mark (codes "+")
stand_in symbol.Minus = spelled class.Mark (codes "-")
stand_in symbol.Star = spelled class.Mark (codes "*")
stand_in symbol.Slash = spelled class.Mark (codes "/")
stand_in symbol.Percent = spelled class.Mark (codes "%")
stand_in symbol.Bang = spelled class.Mark (codes "!")
stand_in symbol.Ampersand = spelled class.Mark (codes "&")
stand_in symbol.Hash = spelled class.Mark (codes "#")
stand_in symbol.Underscore = spelled class.Mark (codes "_")
stand_in symbol.Other = spelled class.Mark []
stand_in symbol.End = spelled class.Mark []

pub stand_in_stands : (q : Symbol) → is_word q ≡ true → Stands q (stand_in q)
unfolding stand_in
stand_in_stands symbol.Name w = refl
stand_in_stands symbol.Lifetime w = (refl, λ e. let z = (bytes_eq-Decides (codes "'a") (codes "'_")).1 e in cc)
stand_in_stands symbol.Anonymous w = (refl, refl)
stand_in_stands symbol.Number w = refl
stand_in_stands symbol.Format w = refl
stand_in_stands symbol.Mod w = (refl, refl)
stand_in_stands symbol.Struct w = (refl, refl)
stand_in_stands symbol.Enum w = (refl, refl)
stand_in_stands symbol.Fn w = (refl, refl)
stand_in_stands symbol.Let w = (refl, refl)
stand_in_stands symbol.Mut w = (refl, refl)
stand_in_stands symbol.If w = (refl, refl)
stand_in_stands symbol.Else w = (refl, refl)
stand_in_stands symbol.Match w = (refl, refl)
stand_in_stands symbol.Loop w = (refl, refl)
stand_in_stands symbol.While w = (refl, refl)
stand_in_stands symbol.Break w = (refl, refl)
stand_in_stands symbol.Continue w = (refl, refl)
stand_in_stands symbol.Return w = (refl, refl)
stand_in_stands symbol.True w = (refl, refl)
stand_in_stands symbol.False w = (refl, refl)
stand_in_stands symbol.Bool w = (refl, refl)
stand_in_stands symbol.U8 w = (refl, refl)
stand_in_stands symbol.U32 w = (refl, refl)
stand_in_stands symbol.U64 w = (refl, refl)
stand_in_stands symbol.I32 w = (refl, refl)
stand_in_stands symbol.I64 w = (refl, refl)
stand_in_stands symbol.Arrow w = (refl, refl)
stand_in_stands symbol.FatArrow w = (refl, refl)
stand_in_stands symbol.ColonColon w = (refl, refl)
stand_in_stands symbol.EqualEqual w = (refl, refl)
stand_in_stands symbol.NotEqual w = (refl, refl)
stand_in_stands symbol.LessEqual w = (refl, refl)
stand_in_stands symbol.GreaterEqual w = (refl, refl)
stand_in_stands symbol.AndAnd w = (refl, refl)
stand_in_stands symbol.OrOr w = (refl, refl)
stand_in_stands symbol.PlusEqual w = (refl, refl)
stand_in_stands symbol.MinusEqual w = (refl, refl)
stand_in_stands symbol.StarEqual w = (refl, refl)
stand_in_stands symbol.SlashEqual w = (refl, refl)
stand_in_stands symbol.PercentEqual w = (refl, refl)
stand_in_stands symbol.OpenParen w = (refl, refl)
stand_in_stands symbol.CloseParen w = (refl, refl)
stand_in_stands symbol.OpenBrace w = (refl, refl)
stand_in_stands symbol.CloseBrace w = (refl, refl)
stand_in_stands symbol.OpenBracket w = (refl, refl)
stand_in_stands symbol.CloseBracket w = (refl, refl)
stand_in_stands symbol.Less w = (refl, refl)
stand_in_stands symbol.Greater w = (refl, refl)
stand_in_stands symbol.Comma w = (refl, refl)
stand_in_stands symbol.Semicolon w = (refl, refl)
stand_in_stands symbol.Colon w = (refl, refl)
stand_in_stands symbol.Dot w = (refl, refl)
stand_in_stands symbol.Equal w = (refl, refl)
stand_in_stands symbol.Plus w = (refl, refl)
stand_in_stands symbol.Minus w = (refl, refl)
stand_in_stands symbol.Star w = (refl, refl)
stand_in_stands symbol.Slash w = (refl, refl)
stand_in_stands symbol.Percent w = (refl, refl)
stand_in_stands symbol.Bang w = (refl, refl)
stand_in_stands symbol.Ampersand w = (refl, refl)
stand_in_stands symbol.Hash w = (refl, refl)
stand_in_stands symbol.Underscore w = (refl, refl)
stand_in_stands symbol.Other w = absurd (cc)
stand_in_stands symbol.End w = absurd (cc)

-- it is a word of its class
pub stand_in_word : (q : Symbol) → is_word q ≡ true → IsWord (stand_in q).class (stand_in q).text
unfolding stand_in
stand_in_word symbol.Name w = words.identifier refl
stand_in_word symbol.Lifetime w = words.lifetime {name = codes "a"} refl refl
stand_in_word symbol.Anonymous w = words.lifetime {name = codes "_"} refl refl
stand_in_word symbol.Number w = words.number (decimal 48 [] None refl refl refl) (omega arith)
stand_in_word symbol.Format w = words.format refl
stand_in_word symbol.Mod w = words.keyword refl
stand_in_word symbol.Struct w = words.keyword refl
stand_in_word symbol.Enum w = words.keyword refl
stand_in_word symbol.Fn w = words.keyword refl
stand_in_word symbol.Let w = words.keyword refl
stand_in_word symbol.Mut w = words.keyword refl
stand_in_word symbol.If w = words.keyword refl
stand_in_word symbol.Else w = words.keyword refl
stand_in_word symbol.Match w = words.keyword refl
stand_in_word symbol.Loop w = words.keyword refl
stand_in_word symbol.While w = words.keyword refl
stand_in_word symbol.Break w = words.keyword refl
stand_in_word symbol.Continue w = words.keyword refl
stand_in_word symbol.Return w = words.keyword refl
stand_in_word symbol.True w = words.keyword refl
stand_in_word symbol.False w = words.keyword refl
stand_in_word symbol.Bool w = words.keyword refl
stand_in_word symbol.U8 w = words.keyword refl
stand_in_word symbol.U32 w = words.keyword refl
stand_in_word symbol.U64 w = words.keyword refl
stand_in_word symbol.I32 w = words.keyword refl
stand_in_word symbol.I64 w = words.keyword refl
stand_in_word symbol.Arrow w = words.mark refl
stand_in_word symbol.FatArrow w = words.mark refl
stand_in_word symbol.ColonColon w = words.mark refl
stand_in_word symbol.EqualEqual w = words.mark refl
stand_in_word symbol.NotEqual w = words.mark refl
stand_in_word symbol.LessEqual w = words.mark refl
stand_in_word symbol.GreaterEqual w = words.mark refl
stand_in_word symbol.AndAnd w = words.mark refl
stand_in_word symbol.OrOr w = words.mark refl
stand_in_word symbol.PlusEqual w = words.mark refl
stand_in_word symbol.MinusEqual w = words.mark refl
stand_in_word symbol.StarEqual w = words.mark refl
stand_in_word symbol.SlashEqual w = words.mark refl
stand_in_word symbol.PercentEqual w = words.mark refl
stand_in_word symbol.OpenParen w = words.mark refl
stand_in_word symbol.CloseParen w = words.mark refl
stand_in_word symbol.OpenBrace w = words.mark refl
stand_in_word symbol.CloseBrace w = words.mark refl
stand_in_word symbol.OpenBracket w = words.mark refl
stand_in_word symbol.CloseBracket w = words.mark refl
stand_in_word symbol.Less w = words.mark refl
stand_in_word symbol.Greater w = words.mark refl
stand_in_word symbol.Comma w = words.mark refl
stand_in_word symbol.Semicolon w = words.mark refl
stand_in_word symbol.Colon w = words.mark refl
stand_in_word symbol.Dot w = words.mark refl
stand_in_word symbol.Equal w = words.mark refl
stand_in_word symbol.Plus w = words.mark refl
stand_in_word symbol.Minus w = words.mark refl
stand_in_word symbol.Star w = words.mark refl
stand_in_word symbol.Slash w = words.mark refl
stand_in_word symbol.Percent w = words.mark refl
stand_in_word symbol.Bang w = words.mark refl
stand_in_word symbol.Ampersand w = words.mark refl
stand_in_word symbol.Hash w = words.mark refl
stand_in_word symbol.Underscore w = words.mark refl
stand_in_word symbol.Other w = absurd (cc)
stand_in_word symbol.End w = absurd (cc)

-- ---- words

-- a token for each of these symbols
abbrev pub spell : List Symbol → List Tok
spell [] = []
spell (q ∷ qs) = stand_in q ∷ spell qs

pub words_of : (qs : List Symbol) → list_all is_word qs ≡ true → AreWords (spell qs)
words_of [] e = tt
words_of (q ∷ qs) e = let p = and_parts (is_word q) (list_all is_word qs) e in (stand_in_word q p.0, words_of qs p.1)

pub words_and : (ts us : List Tok) → AreWords ts → AreWords us → AreWords (ts ++ us)
words_and [] us a b = b
words_and (t ∷ ts) us a b = (a.0, words_and ts us a.1 b)

-- ---- what a parser says

-- some further words complete these to such a part
pub record Completes {A : Type 0} (E : List Tok → A → Type 0) (us : List Tok) : Type 0 where
  pub further : List Tok
  pub words : AreWords further
  pub made : A
  pub part : E (us ++ further) made

pub data Goes {A : Type 0} (E : List Tok → A → Type 0) (i : List Tok) (o : Outcome A) : Type 0 where
  reads : (us r : List Tok) (a : A) → i ≡ us ++ r → o ≡ Ok (a, r) → E us a → Goes E i o
  stops : (us r : List Tok) → i ≡ us ++ r → o ≡ Err (Syntax (length r)) → Completes E us → Goes E i o
  deep : (us r : List Tok) (t : Tok) → i ≡ us ++ (t ∷ r) → o ≡ Err (TooDeep (length (t ∷ r))) → (IsWord t.class t.text → Completes E (us ++ (t ∷ []))) → Goes E i o

-- whether the next symbol is known
pub data Known : Type 0 where
  any : Known
  at : Symbol → Known

abbrev pub Knows : Known → List Tok → Type 0
Knows any i = zero ≡ zero
Knows (at q) i = peek i ≡ q

pub record Begun (K : Known) {A : Type 0} (p : Parser A) (E : List Tok → A → Type 0) : Type 0 where
  pub goes : (i : List Tok) → Knows K i → Goes E i (p i)
  pub some : Completes E []

-- ---- one after another

under : {A : Type 0} {E : List Tok → A → Type 0} (us vs : List Tok) → Completes (λ vs x. E (us ++ vs) x) vs → Completes E (us ++ vs)
under {E = E} us vs c = record { further = c.further; words = c.words; made = c.made; part = subst (λ z. E z c.made) (sym (append_assoc us vs c.further)) c.part }

pub onto : {A B : Type 0} {D : List Tok → A → Type 0} {E : List Tok → B → Type 0} (us : List Tok) → Completes D us → ((us : List Tok) (a : A) → D us a → Completes (λ vs x. E (us ++ vs) x) []) → Completes E us
onto {E = E} us c g =
    let n = g (us ++ c.further) c.made c.part in
    record { further = c.further ++ n.further; words = words_and c.further n.further c.words n.words; made = n.made; part = subst (λ z. E z n.made) (append_assoc us c.further n.further) n.part }

behind : {A B : Type 0} {E : List Tok → B → Type 0} (f : A → Parser B) {i : List Tok} {o : Outcome A} (us r : List Tok) (a : A) → i ≡ us ++ r → o ≡ Ok (a, r) → Goes (λ vs x. E (us ++ vs) x) r (f a r) → Goes E i (and_then o f)
behind f us r a is oe (reads vs x b it oi h) = reads (us ++ vs) x b (is ∙ ap (λ z. us ++ z) it ∙ sym (append_assoc us vs x)) (ap (λ z. and_then z f) oe ∙ oi) h
behind f us r a is oe (stops vs x it oi c) = stops (us ++ vs) x (is ∙ ap (λ z. us ++ z) it ∙ sym (append_assoc us vs x)) (ap (λ z. and_then z f) oe ∙ oi) (under us vs c)
behind {E = E} f us r a is oe (deep vs x t it oi c) = deep (us ++ vs) x t (is ∙ ap (λ z. us ++ z) it ∙ sym (append_assoc us vs (t ∷ x))) (ap (λ z. and_then z f) oe ∙ oi)
    (λ w. subst (λ z. Completes E z) (sym (append_assoc us vs (t ∷ []))) (under us (vs ++ (t ∷ [])) (c w)))

pub passed_goes : {A B : Type 0} {D : List Tok → A → Type 0} {E : List Tok → B → Type 0} {f : A → Parser B} {i : List Tok} {o : Outcome A} → Goes D i o
    → ((us : List Tok) (a : A) → D us a → Begun any (f a) (λ vs x. E (us ++ vs) x)) → Goes E i (and_then o f)
passed_goes {f = f} (reads us r a is oe h) g = behind f us r a is oe ((g us a h).goes r refl)
passed_goes {f = f} (stops us r is oe c) g = stops us r is (ap (λ z. and_then z f) oe) (onto us c (λ us a h. (g us a h).some))
passed_goes {f = f} (deep us r t is oe c) g = deep us r t is (ap (λ z. and_then z f) oe) (λ w. onto (us ++ (t ∷ [])) (c w) (λ us a h. (g us a h).some))

pub passed_at : {A B : Type 0} {K : Known} {p : Parser A} {f : A → Parser B} {D : List Tok → A → Type 0} {E : List Tok → B → Type 0} → Begun K p D
    → ((us : List Tok) (a : A) → D us a → Begun any (f a) (λ vs x. E (us ++ vs) x)) → Begun K (p >>= f) E
passed_at d g = record { goes = λ i k. passed_goes (d.goes i k) g; some = onto [] d.some (λ us a h. (g us a h).some) }

pub passed : {A B : Type 0} {K : Known} {p : Parser A} {f : A → Parser B} {D : List Tok → A → Type 0} {E : List Tok → B → Type 0} → Begun any p D
    → ((us : List Tok) (a : A) → D us a → Begun any (f a) (λ vs x. E (us ++ vs) x)) → Begun K (p >>= f) E
passed d g = record { goes = λ i k. passed_goes (d.goes i refl) g; some = onto [] d.some (λ us a h. (g us a h).some) }

-- ---- the steps

-- a parser of one token
pub single : {A : Type 0} {K : Known} {p : Parser A} {D : List Tok → A → Type 0} → Derives p D → ((i : List Tok) (e : Stop) → p i ≡ Err e → e ≡ Syntax (length i)) → Completes D [] → Begun K p D
single {A = A} {K = K} {p = p} {D = D} d stop some = record { goes = λ i k. decided i (p i) refl; some = some }
  where
    decided : (i : List Tok) (o : Outcome A) → p i ≡ o → Goes D i o
    decided i (Ok x) e = let f = d.derive i x.1 x.0 e in reads f.ts x.1 x.0 f.is refl f.part
    decided i (Err y) e = stops [] i refl (ap (λ z. Err z) (stop i y e)) some

-- one token with this symbol
pub record Single (q : Symbol) (us : List Tok) (c : Tok) : Type 0 where
  pub is : us ≡ c ∷ []
  pub stands : Stands q c

pub cut : {A : Type 0} (b : Bool) (x : A × List Tok) (n : ℕ) (e : Stop) → cond b (okay x) (Err (Syntax n)) ≡ Err e → e ≡ Syntax n
cut true x n e h = absurd (cc)
cut false x n e h = cc

expect_begun : {K : Known} (q : Symbol) → is_word q ≡ true → Begun K (expect q) (Single q)
unfolding expect
expect_begun q w = single
    (record { derive = λ i r c e. let m = expected q i c r w e in record { ts = c ∷ []; is = m.1; part = record { is = refl; stands = m.0 } } })
    (λ i e h. cut (sees q i) (head i, tail i) (length i) e h)
    (record { further = stand_in q ∷ []; words = (stand_in_word q w, tt); made = stand_in q; part = record { is = refl; stands = stand_in_stands q w } })

pub took : {A : Type 0} {K : Known} {f : Tok → Parser A} {E : List Tok → A → Type 0} (q : Symbol) → is_word q ≡ true → ((c : Tok) → Stands q c → Begun any (f c) (λ vs x. E (c ∷ vs) x))
    → Begun K (expect q >>= f) E
took {f = f} {E = E} q w g = passed (expect_begun q w) (λ us c m. subst (λ z. Begun any (f c) (λ vs x. E (z ++ vs) x)) (sym m.is) (g c m.stands))

pub gave : {A : Type 0} {K : Known} {x : A} {E : List Tok → A → Type 0} → E [] x → Begun K (pure x) E
gave {x = x} h = record { goes = λ i k. reads [] i x refl refl h; some = record { further = []; words = tt; made = x; part = h } }

pub passed_last : {A B : Type 0} {K : Known} {p : Parser A} (g : A → B) {D : List Tok → A → Type 0} {E : List Tok → B → Type 0} → Begun any p D
    → ((us : List Tok) (a : A) → D us a → E us (g a)) → Begun K (p >>= (λ a. pure (g a))) E
passed_last g {E = E} d h = passed d (λ us a s. gave (subst (λ z. E z (g a)) (sym (append-nil us)) (h us a s)))

pub refused : {A : Type 0} {K : Known} {E : List Tok → A → Type 0} → Completes E [] → Begun K (refuse {A = A}) E
refused c = record { goes = λ i k. stops [] i refl refl c; some = c }

pub chose : {A : Type 0} {K : Known} {E : List Tok → A → Type 0} (f : Symbol → Parser A) → ((q : Symbol) → Begun (at q) (f q) E) → Begun K (next >>= f) E
chose f g = record { goes = λ i k. (g (peek i)).goes i refl; some = (g symbol.End).some }

-- with what is completed where nothing was passed
pub chose_knowing : {A : Type 0} {K : Known} {E : List Tok → A → Type 0} → Completes E [] → (f : Symbol → Parser A) → ((q : Symbol) → Begun (at q) (f q) (λ ts x. Front q ts → E ts x)) → Begun K (next >>= f) E
chose_knowing {A = A} {E = E} c f g = record { goes = λ i k. known i (f (peek i) i) ((g (peek i)).goes i refl); some = c }
  where
    known : (i : List Tok) (o : Outcome A) → Goes (λ ts x. Front (peek i) ts → E ts x) i o → Goes E i o
    known i o (reads [] r a is oe h) = reads [] r a is oe (h (λ n. absurd (n refl)))
    known i o (reads (u ∷ us) r a is oe h) = reads (u ∷ us) r a is oe (h (λ n. sym (ap peek is)))
    known i o (stops [] r is oe h) = stops [] r is oe c
    known i o (stops (u ∷ us) r is oe h) = stops (u ∷ us) r is oe (record { further = h.further; words = h.words; made = h.made; part = h.part (λ n. sym (ap peek is)) })
    known i o (deep [] r t is oe h) = deep [] r t is oe (λ w. let z = h w in record { further = z.further; words = z.words; made = z.made; part = z.part (λ n. sym (ap peek is)) })
    known i o (deep (u ∷ us) r t is oe h) = deep (u ∷ us) r t is oe (λ w. let z = h w in record { further = z.further; words = z.words; made = z.made; part = z.part (λ n. sym (ap peek is)) })

pub either : {A : Type 0} {K : Known} {p q : Parser A} (k : Symbol) {E : List Tok → A → Type 0} → Begun (at k) p E → Begun any q E → Begun K (when_next k p q) E
either {A = A} {p = p} {q = q} k {E = E} a b = record { goes = λ i w. decided i (sees k i) refl; some = b.some }
  where
    decided : (i : List Tok) (c : Bool) → sees k i ≡ c → Goes E i (cond c (p i) (q i))
    decided i true e = a.goes i (sees_is k i e)
    decided i false e = b.goes i refl

pub as_also : {A : Type 0} {K : Known} {p : Parser A} {D E : List Tok → A → Type 0} → ((ts : List Tok) (x : A) → D ts x → E ts x) → Begun K p D → Begun K p E
as_also {A = A} {D = D} {E = E} f d = record { goes = λ i k. turned i _ (d.goes i k); some = also [] d.some }
  where
    also : (us : List Tok) → Completes D us → Completes E us
    also us c = record { further = c.further; words = c.words; made = c.made; part = f (us ++ c.further) c.made c.part }

    turned : (i : List Tok) (o : Outcome A) → Goes D i o → Goes E i o
    turned i o (reads us r a is oe h) = reads us r a is oe (f us a h)
    turned i o (stops us r is oe c) = stops us r is oe (also us c)
    turned i o (deep us r t is oe c) = deep us r t is oe (λ w. also (us ++ (t ∷ [])) (c w))

-- what is too deep at a token begins with it
pub first_deep : {A : Type 0} {E : List Tok → A → Type 0} (q : Symbol) (i : List Tok) → is_word q ≡ true → peek i ≡ q → ((t : Tok) → Stands q t → IsWord t.class t.text → Completes E (t ∷ [])) → Goes E i (Err (TooDeep (length i)))
first_deep q [] w e c = absurd (let z : is_word symbol.End ≡ true = ap is_word e ∙ w in cc)
first_deep q (t ∷ i) w e c = deep [] i t refl refl (λ v. c t (stands_as q t e) v)

-- where so many levels may stand below
pub roomy : {A : Type 0} {p : Parser A} (n d : ℕ) (q : Symbol) {E : List Tok → A → Type 0} → is_word q ≡ true → ((t : Tok) → Stands q t → Completes E (t ∷ [])) → Begun (at q) p E → Begun (at q) (within n d p) E
roomy {A = A} {p = p} n d q {E = E} w first b = record { goes = λ i k. decided i k (nat_lt d n); some = b.some }
  where
    decided : (i : List Tok) → peek i ≡ q → (c : Bool) → Goes E i (cond c (Err (TooDeep (length i))) (p i))
    decided i k true = first_deep q i w k (λ t s v. first t s)
    decided i k false = b.goes i k

-- where the part begins with this token
pub roomed : {A : Type 0} {f : Tok → Parser A} (n d : ℕ) {E : List Tok → A → Type 0} (q : Symbol) → is_word q ≡ true → ((c : Tok) → Stands q c → Begun any (f c) (λ vs x. E (c ∷ vs) x))
    → Begun (at q) (within n d (expect q >>= f)) E
roomed n d {E = E} q w g = roomy n d q w (λ t s. let c = (g t s).some in record { further = c.further; words = c.words; made = c.made; part = c.part }) (took q w g)

-- what reads nothing
pub stopped : {A : Type 0} {E : List Tok → A → Type 0} (b : Symbol → Bool) → b symbol.End ≡ false → Completes E [] → ((t : Tok) → b (symbol_of t) ≡ true → IsWord t.class t.text → Completes E (t ∷ []))
    → Begun any (next >>= (λ q. cond {A = Parser A} (b q) too_deep refuse)) E
stopped {A = A} {E = E} b none c first = record { goes = λ i k. decided i (b (peek i)) refl; some = c }
  where
    decided : (i : List Tok) (v : Bool) → b (peek i) ≡ v → Goes E i (cond {A = Parser A} v (λ i. Err (TooDeep (length i))) (λ i. Err (Syntax (length i))) i)
    decided [] true e = absurd (let z : b symbol.End ≡ true = e in cc)
    decided (t ∷ i) true e = deep [] i t refl refl (λ w. first t e w)
    decided i false e = stops [] i refl refl c

-- whatever the next symbol is
pub still : {A : Type 0} {K : Known} {p : Parser A} {E : List Tok → A → Type 0} → Begun any p E → Begun K p E
still b = record { goes = λ i k. b.goes i refl; some = b.some }
