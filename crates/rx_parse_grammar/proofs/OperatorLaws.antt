-- Operators as tokens and as symbols, and what tokens begin with.
use Rattle.std.proofs.Common.{◌≡◌, ℕ, Bool, true, false, cond, List, [], ◌∷◌, Option, Some, None, refl, ap, subst, arith}
use Rattle.std.specs.Prelude.{◌==◌}
use Rattle.std.proofs.lemmas.Bool.{eqb-true}
use Rattle.std.proofs.lemmas.Bool.Decides.{nat_tests}
use Rattle.rx_tree.specs.declared.tree.BinaryOp.{BinaryOp}
use Rattle.rx_tree.specs.declared.tree.BinaryOp.TheVariants as op
use Rattle.rx_lex.specs.Tok.{Tok}
use Rattle.rx_parse_grammar.specs.declared.symbol.Symbol.{Symbol}
use Rattle.rx_parse_grammar.specs.declared.symbol.Symbol.TheVariants as symbol
use Rattle.rx_parse_grammar.specs.grammar.Expressions.{IsOperator, times, divided, modulo, plus, minus, equal, unequal, less, at_most, greater, at_least, and, or, BeginsLike, with_brace, with_if, with_match, with_loop, with_while, with_label}
use Rattle.rx_parse_grammar.specs.parser.Symbols.{symbol_of, peek}
use Rattle.rx_parse_grammar.specs.parser.Operators.{strength, operator_at, begins_like}
use Rattle.rx_parse_grammar.proofs.SymbolLemmas.{Stands, is_word, stands}
use Rattle.rx_parse_grammar.proofs.Reading.{first_is}

-- ---- from the token to the symbol

pub operator_of : (j : ℕ) (t : Tok) (o : BinaryOp) → IsOperator j t o → operator_at j (symbol_of t) ≡ Some o
unfolding operator_at
operator_of j t o (times m) = rw (first_is symbol.Star t refl m)
operator_of j t o (divided m) = rw (first_is symbol.Slash t refl m)
operator_of j t o (modulo m) = rw (first_is symbol.Percent t refl m)
operator_of j t o (plus m) = rw (first_is symbol.Plus t refl m)
operator_of j t o (minus m) = rw (first_is symbol.Minus t refl m)
operator_of j t o (equal m) = rw (first_is symbol.EqualEqual t refl m)
operator_of j t o (unequal m) = rw (first_is symbol.NotEqual t refl m)
operator_of j t o (less m) = rw (first_is symbol.Less t refl m)
operator_of j t o (at_most m) = rw (first_is symbol.LessEqual t refl m)
operator_of j t o (greater m) = rw (first_is symbol.Greater t refl m)
operator_of j t o (at_least m) = rw (first_is symbol.GreaterEqual t refl m)
operator_of j t o (and m) = rw (first_is symbol.AndAnd t refl m)
operator_of j t o (or m) = rw (first_is symbol.OrOr t refl m)

-- ---- from the symbol to the token

chosen_by : (b : Bool) (p o : BinaryOp) → cond b (Some p) None ≡ Some o → (b ≡ true) × (p ≡ o)
chosen_by true p o e = (refl, cc)
chosen_by false p o e = absurd (cc)

operated : (m j : ℕ) (t : Tok) (p o : BinaryOp) → IsOperator m t p → cond (m == j) (Some p) None ≡ Some o → IsOperator j t o
operated m j t p o is e =
    let w = chosen_by (m == j) p o e in
    subst (λ z. IsOperator j t z) w.1 (subst (λ z. IsOperator z t p) (eqb-true m j w.0) is)

none_chosen : (b : Bool) (o : BinaryOp) → cond {A = Option BinaryOp} b None None ≡ Some o → ⊥
none_chosen true o e = cc
none_chosen false o e = cc

pub operator_by : (j : ℕ) (t : Tok) (o : BinaryOp) (q : Symbol) → Stands q t → operator_at j q ≡ Some o → IsOperator j t o
unfolding operator_at
operator_by j t o symbol.Star s e = operated 1 j t op.Mul o (times s) e
operator_by j t o symbol.Slash s e = operated 1 j t op.Div o (divided s) e
operator_by j t o symbol.Percent s e = operated 1 j t op.Rem o (modulo s) e
operator_by j t o symbol.Plus s e = operated 2 j t op.Add o (plus s) e
operator_by j t o symbol.Minus s e = operated 2 j t op.Sub o (minus s) e
operator_by j t o symbol.EqualEqual s e = operated 3 j t op.Eq o (equal s) e
operator_by j t o symbol.NotEqual s e = operated 3 j t op.Ne o (unequal s) e
operator_by j t o symbol.Less s e = operated 3 j t op.Lt o (less s) e
operator_by j t o symbol.LessEqual s e = operated 3 j t op.Le o (at_most s) e
operator_by j t o symbol.Greater s e = operated 3 j t op.Gt o (greater s) e
operator_by j t o symbol.GreaterEqual s e = operated 3 j t op.Ge o (at_least s) e
operator_by j t o symbol.AndAnd s e = operated 4 j t op.And o (and s) e
operator_by j t o symbol.OrOr s e = operated 5 j t op.Or o (or s) e
operator_by j t o _ s e = absurd (none_chosen (0 == j) o e)

pub operator_word : (j : ℕ) (o : BinaryOp) (q : Symbol) → operator_at j q ≡ Some o → is_word q ≡ true
unfolding operator_at
operator_word j o symbol.Other e = absurd (none_chosen (0 == j) o e)
operator_word j o symbol.End e = absurd (none_chosen (0 == j) o e)
operator_word j o _ e = refl

-- an operator of some strength is none of another
pub operator_strength : (j : ℕ) (q : Symbol) (o : BinaryOp) → operator_at j q ≡ Some o → strength q ≡ j
unfolding operator_at
operator_strength j q o e = grind (arith, nat_tests)

pub no_operator : (j : ℕ) (q : Symbol) → (strength q ≡ j → ⊥) → operator_at j q ≡ None
unfolding operator_at
no_operator j q n = grind (arith, nat_tests)

-- ---- what an expression that ends in a block begins with

pub like_begins : {us : List Tok} → BeginsLike us → begins_like (peek us) ≡ true
like_begins (with_brace {t = t} s) = ap begins_like (first_is symbol.OpenBrace t refl s)
like_begins (with_if {t = t} s) = ap begins_like (first_is symbol.If t refl s)
like_begins (with_match {t = t} s) = ap begins_like (first_is symbol.Match t refl s)
like_begins (with_loop {t = t} s) = ap begins_like (first_is symbol.Loop t refl s)
like_begins (with_while {t = t} s) = ap begins_like (first_is symbol.While t refl s)
like_begins (with_label {t = t} s) = ap begins_like (first_is symbol.Lifetime t refl s)

pub not_like : (us : List Tok) → begins_like (peek us) ≡ false → BeginsLike us → ⊥
not_like us n b = let z = like_begins b in cc

with_symbol : (t : Tok) (us : List Tok) (q : Symbol) → Stands q t → begins_like q ≡ true → BeginsLike (t ∷ us)
with_symbol t us symbol.OpenBrace s e = with_brace s
with_symbol t us symbol.If s e = with_if s
with_symbol t us symbol.Match s e = with_match s
with_symbol t us symbol.Loop s e = with_loop s
with_symbol t us symbol.While s e = with_while s
with_symbol t us symbol.Lifetime s e = with_label s
with_symbol t us _ s e = absurd (cc)

begun : (t : Tok) (us : List Tok) (b : Bool) → begins_like (symbol_of t) ≡ b → (BeginsLike (t ∷ us) → ⊥) → b ≡ false
begun t us true e n = absurd (n (with_symbol t us (symbol_of t) (stands t) e))
begun t us false e n = refl

pub begins_other : (us : List Tok) → (BeginsLike us → ⊥) → begins_like (peek us) ≡ false
begins_other [] n = refl
begins_other (t ∷ us) n = begun t us (begins_like (symbol_of t)) refl n
