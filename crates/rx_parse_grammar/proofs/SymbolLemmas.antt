-- A token has a symbol exactly where it is the word that the symbol names: each entry of the tables is looked at once.
use Rattle.std.proofs.Common.{◌≡◌, ℕ, zero, Bool, true, false, cond, List, [], ◌∷◌, codes, refl, sym, subst, ◌∙◌, rules}
use Rattle.std.specs.Prelude.{◌≢◌}
use Rattle.std.specs.Str.{bytes_eq}
use Rattle.std.proofs.lemmas.Slice.Eq.{bytes_eq-Decides}
use Rattle.std.proofs.lemmas.Bool.{false_from_ne_true}
use denote.Enum.Bare.{same_true}
use Rattle.rx_lex.specs.declared.token.Class.{Class}
use Rattle.rx_lex.specs.declared.token.Class.TheVariants as class
use Rattle.rx_lex.specs.Tok.{Tok}
use Rattle.rx_parse_grammar.specs.declared.symbol.Symbol.{Symbol}
use Rattle.rx_parse_grammar.specs.declared.symbol.Symbol.TheVariants as symbol
use Rattle.rx_parse_grammar.specs.contracts.symbol.Symbol.{the_type}
use Rattle.rx_parse_grammar.specs.parser.Symbols.{lookup, keywords, keyword, marks, mark, symbol_by, symbol_of, same_symbol, peek}
use Rattle.rx_parse_grammar.specs.parser.Steps.{sees}
use Rattle.rx_parse_grammar.specs.grammar.Words.{IsMark, IsKeyword, IsName, IsFormat, IsLifetime, IsAnonymous}

-- what a token with this symbol is
abbrev pub Stands : Symbol → Tok → Type 0
Stands symbol.Name t = IsName t
Stands symbol.Lifetime t = IsLifetime t
Stands symbol.Anonymous t = IsAnonymous t
Stands symbol.Number t = t.class ≡ class.Number
Stands symbol.Format t = IsFormat t
Stands symbol.Mod t = IsKeyword (codes "mod") t
Stands symbol.Struct t = IsKeyword (codes "struct") t
Stands symbol.Enum t = IsKeyword (codes "enum") t
Stands symbol.Fn t = IsKeyword (codes "fn") t
Stands symbol.Let t = IsKeyword (codes "let") t
Stands symbol.Mut t = IsKeyword (codes "mut") t
Stands symbol.If t = IsKeyword (codes "if") t
Stands symbol.Else t = IsKeyword (codes "else") t
Stands symbol.Match t = IsKeyword (codes "match") t
Stands symbol.Loop t = IsKeyword (codes "loop") t
Stands symbol.While t = IsKeyword (codes "while") t
Stands symbol.Break t = IsKeyword (codes "break") t
Stands symbol.Continue t = IsKeyword (codes "continue") t
Stands symbol.Return t = IsKeyword (codes "return") t
Stands symbol.True t = IsKeyword (codes "true") t
Stands symbol.False t = IsKeyword (codes "false") t
Stands symbol.Bool t = IsKeyword (codes "bool") t
Stands symbol.U8 t = IsKeyword (codes "u8") t
Stands symbol.U32 t = IsKeyword (codes "u32") t
Stands symbol.U64 t = IsKeyword (codes "u64") t
Stands symbol.I32 t = IsKeyword (codes "i32") t
Stands symbol.I64 t = IsKeyword (codes "i64") t
Stands symbol.Arrow t = IsMark (codes "->") t
Stands symbol.FatArrow t = IsMark (codes "=>") t
Stands symbol.ColonColon t = IsMark (codes "::") t
Stands symbol.EqualEqual t = IsMark (codes "==") t
Stands symbol.NotEqual t = IsMark (codes "!=") t
Stands symbol.LessEqual t = IsMark (codes "<=") t
Stands symbol.GreaterEqual t = IsMark (codes ">=") t
Stands symbol.AndAnd t = IsMark (codes "&&") t
Stands symbol.OrOr t = IsMark (codes "||") t
Stands symbol.PlusEqual t = IsMark (codes "+=") t
Stands symbol.MinusEqual t = IsMark (codes "-=") t
Stands symbol.StarEqual t = IsMark (codes "*=") t
Stands symbol.SlashEqual t = IsMark (codes "/=") t
Stands symbol.PercentEqual t = IsMark (codes "%=") t
Stands symbol.OpenParen t = IsMark (codes "(") t
Stands symbol.CloseParen t = IsMark (codes ")") t
Stands symbol.OpenBrace t = IsMark (codes "{") t
Stands symbol.CloseBrace t = IsMark (codes "}") t
Stands symbol.OpenBracket t = IsMark (codes "[") t
Stands symbol.CloseBracket t = IsMark (codes "]") t
Stands symbol.Less t = IsMark (codes "<") t
Stands symbol.Greater t = IsMark (codes ">") t
Stands symbol.Comma t = IsMark (codes ",") t
Stands symbol.Semicolon t = IsMark (codes ";") t
Stands symbol.Colon t = IsMark (codes ":") t
Stands symbol.Dot t = IsMark (codes ".") t
Stands symbol.Equal t = IsMark (codes "=") t
Stands symbol.Plus t = IsMark (codes "+") t
Stands symbol.Minus t = IsMark (codes "-") t
Stands symbol.Star t = IsMark (codes "*") t
Stands symbol.Slash t = IsMark (codes "/") t
Stands symbol.Percent t = IsMark (codes "%") t
Stands symbol.Bang t = IsMark (codes "!") t
Stands symbol.Ampersand t = IsMark (codes "&") t
Stands symbol.Hash t = IsMark (codes "#") t
Stands symbol.Underscore t = IsMark (codes "_") t
Stands symbol.Other t = zero ≡ zero
Stands symbol.End t = ⊥

-- ---- from the symbol to the token

abbrev Standing : Class → Symbol → List ℕ → Type 0
Standing c q w = (t : Tok) → t.class ≡ c → t.text ≡ w → Stands q t

abbrev EachStands : Class → List (List ℕ × Symbol) → Type 0
EachStands c [] = zero ≡ zero
EachStands c (k ∷ ks) = Standing c k.1 k.0 × EachStands c ks

looked_up : (c : Class) (k : List ℕ × Symbol) (q : Symbol) (w : List ℕ) (b : Bool) → bytes_eq k.0 w ≡ b → Standing c k.1 k.0 → Standing c q w → Standing c (cond b k.1 q) w
looked_up c k q w true e here further = λ t x y. here t x (y ∙ sym ((bytes_eq-Decides k.0 w).0 e))
looked_up c k q w false e here further = further

lookup_stands : (c : Class) (ks : List (List ℕ × Symbol)) (w : List ℕ) → EachStands c ks → Standing c (lookup ks w) w
lookup_stands c [] w all = λ t a b. refl
lookup_stands c (k ∷ ks) w all = looked_up c k (lookup ks w) w (bytes_eq k.0 w) refl all.0 (lookup_stands c ks w all.1)

keyword_stands : (w : List ℕ) → Standing class.Keyword (keyword w) w
unfolding keyword
keyword_stands w =
    let entry : (v : List ℕ) (t : Tok) → t.class ≡ class.Keyword → t.text ≡ v → IsKeyword v t = λ v t a b. (a, b) in
    lookup_stands class.Keyword keywords w (entry _, (entry _, (entry _, (entry _, (entry _, (entry _, (entry _, (entry _, (entry _, (entry _, (entry _, (entry _, (entry _, (entry _, (entry _, (entry _, (entry _, (entry _, (entry _, (entry _, (entry _, (entry _, refl))))))))))))))))))))))

mark_stands : (w : List ℕ) → Standing class.Mark (mark w) w
unfolding mark
mark_stands w =
    let entry : (v : List ℕ) (t : Tok) → t.class ≡ class.Mark → t.text ≡ v → IsMark v t = λ v t a b. (a, b) in
    lookup_stands class.Mark marks w (entry _, (entry _, (entry _, (entry _, (entry _, (entry _, (entry _, (entry _, (entry _, (entry _, (entry _, (entry _, (entry _, (entry _, (entry _, (entry _, (entry _, (entry _, (entry _, (entry _, (entry _, (entry _, (entry _, (entry _, (entry _, (entry _, (entry _, (entry _, (entry _, (entry _, (entry _, (entry _, (entry _, (entry _, (entry _, (entry _, refl))))))))))))))))))))))))))))))))))))

lifetime_stands : (t : Tok) (w : List ℕ) (b : Bool) → t.class ≡ class.Lifetime → t.text ≡ w → bytes_eq w (codes "'_") ≡ b → Stands (cond b symbol.Anonymous symbol.Lifetime) t
lifetime_stands t w true c e q = (c, e ∙ (bytes_eq-Decides w (codes "'_")).0 q)
lifetime_stands t w false c e q = (c, λ a. let p : true ≡ false = sym ((bytes_eq-Decides w (codes "'_")).1 (sym e ∙ a)) ∙ q in cc)

by_class : (c : Class) (t : Tok) → t.class ≡ c → Stands (symbol_by c t.text) t
by_class class.Identifier t e = e
by_class class.Keyword t e = keyword_stands t.text t e refl
by_class class.Lifetime t e = lifetime_stands t t.text (bytes_eq t.text (codes "'_")) e refl refl
by_class class.Number t e = e
by_class class.Format t e = e
by_class class.Mark t e = mark_stands t.text t e refl

pub stands : (t : Tok) → Stands (symbol_of t) t
unfolding symbol_of
stands t = by_class t.class t refl

pub stands_as : (q : Symbol) (t : Tok) → symbol_of t ≡ q → Stands q t
stands_as q t e = subst (λ z. Stands z t) e (stands t)

-- no token is the end
pub not_end : (t : Tok) → symbol_of t ≢ symbol.End
not_end t e = stands_as symbol.End t e

-- ---- from the token to the symbol

-- the symbols that name words
abbrev pub is_word : Symbol → Bool
is_word symbol.Other = false
is_word symbol.End = false
is_word _ = true

pub symbol_is : (q : Symbol) (t : Tok) → is_word q ≡ true → Stands q t → symbol_of t ≡ q
unfolding symbol_of keyword mark
symbol_is symbol.Name t n s = rw s
symbol_is symbol.Number t n s = rw s
symbol_is symbol.Format t n s = rw s
symbol_is symbol.Lifetime t n s = rw (s.0, false_from_ne_true (bytes_eq t.text (codes "'_")) (λ a. s.1 ((bytes_eq-Decides t.text (codes "'_")).0 a)))
symbol_is symbol.Anonymous t n s = rw (s.0, s.1)
symbol_is symbol.Mod t n s = rw (s.0, s.1)
symbol_is symbol.Struct t n s = rw (s.0, s.1)
symbol_is symbol.Enum t n s = rw (s.0, s.1)
symbol_is symbol.Fn t n s = rw (s.0, s.1)
symbol_is symbol.Let t n s = rw (s.0, s.1)
symbol_is symbol.Mut t n s = rw (s.0, s.1)
symbol_is symbol.If t n s = rw (s.0, s.1)
symbol_is symbol.Else t n s = rw (s.0, s.1)
symbol_is symbol.Match t n s = rw (s.0, s.1)
symbol_is symbol.Loop t n s = rw (s.0, s.1)
symbol_is symbol.While t n s = rw (s.0, s.1)
symbol_is symbol.Break t n s = rw (s.0, s.1)
symbol_is symbol.Continue t n s = rw (s.0, s.1)
symbol_is symbol.Return t n s = rw (s.0, s.1)
symbol_is symbol.True t n s = rw (s.0, s.1)
symbol_is symbol.False t n s = rw (s.0, s.1)
symbol_is symbol.Bool t n s = rw (s.0, s.1)
symbol_is symbol.U8 t n s = rw (s.0, s.1)
symbol_is symbol.U32 t n s = rw (s.0, s.1)
symbol_is symbol.U64 t n s = rw (s.0, s.1)
symbol_is symbol.I32 t n s = rw (s.0, s.1)
symbol_is symbol.I64 t n s = rw (s.0, s.1)
symbol_is symbol.Arrow t n s = rw (s.0, s.1)
symbol_is symbol.FatArrow t n s = rw (s.0, s.1)
symbol_is symbol.ColonColon t n s = rw (s.0, s.1)
symbol_is symbol.EqualEqual t n s = rw (s.0, s.1)
symbol_is symbol.NotEqual t n s = rw (s.0, s.1)
symbol_is symbol.LessEqual t n s = rw (s.0, s.1)
symbol_is symbol.GreaterEqual t n s = rw (s.0, s.1)
symbol_is symbol.AndAnd t n s = rw (s.0, s.1)
symbol_is symbol.OrOr t n s = rw (s.0, s.1)
symbol_is symbol.PlusEqual t n s = rw (s.0, s.1)
symbol_is symbol.MinusEqual t n s = rw (s.0, s.1)
symbol_is symbol.StarEqual t n s = rw (s.0, s.1)
symbol_is symbol.SlashEqual t n s = rw (s.0, s.1)
symbol_is symbol.PercentEqual t n s = rw (s.0, s.1)
symbol_is symbol.OpenParen t n s = rw (s.0, s.1)
symbol_is symbol.CloseParen t n s = rw (s.0, s.1)
symbol_is symbol.OpenBrace t n s = rw (s.0, s.1)
symbol_is symbol.CloseBrace t n s = rw (s.0, s.1)
symbol_is symbol.OpenBracket t n s = rw (s.0, s.1)
symbol_is symbol.CloseBracket t n s = rw (s.0, s.1)
symbol_is symbol.Less t n s = rw (s.0, s.1)
symbol_is symbol.Greater t n s = rw (s.0, s.1)
symbol_is symbol.Comma t n s = rw (s.0, s.1)
symbol_is symbol.Semicolon t n s = rw (s.0, s.1)
symbol_is symbol.Colon t n s = rw (s.0, s.1)
symbol_is symbol.Dot t n s = rw (s.0, s.1)
symbol_is symbol.Equal t n s = rw (s.0, s.1)
symbol_is symbol.Plus t n s = rw (s.0, s.1)
symbol_is symbol.Minus t n s = rw (s.0, s.1)
symbol_is symbol.Star t n s = rw (s.0, s.1)
symbol_is symbol.Slash t n s = rw (s.0, s.1)
symbol_is symbol.Percent t n s = rw (s.0, s.1)
symbol_is symbol.Bang t n s = rw (s.0, s.1)
symbol_is symbol.Ampersand t n s = rw (s.0, s.1)
symbol_is symbol.Hash t n s = rw (s.0, s.1)
symbol_is symbol.Underscore t n s = rw (s.0, s.1)
symbol_is symbol.Other t n s = absurd (cc)
symbol_is symbol.End t n s = absurd s

-- ---- the steps

pub same_self : (q : Symbol) → same_symbol q q ≡ true
unfolding same_symbol
same_self symbol.Name = refl
same_self _ = refl

pub seen : (q : Symbol) (i : List Tok) → peek i ≡ q → sees q i ≡ true
seen q i e = rw (e, same_self q)

pub sees_is : (q : Symbol) (i : List Tok) → sees q i ≡ true → peek i ≡ q
unfolding same_symbol
sees_is q i e = same_true the_type (search rules) _ _ e

pub unseen : (q : Symbol) (i : List Tok) → peek i ≢ q → sees q i ≡ false
unseen q i n = false_from_ne_true (sees q i) (λ e. n (sees_is q i e))
