-- An expression, a block and arms for each token that begins one.
use Rattle.std.proofs.Common.{◌≡◌, ℕ, zero, suc, Bool, true, false, List, [], ◌∷◌, Some, None, refl, ap}
use Rattle.rx_tree.specs.Plain as plain
use Rattle.rx_tree.specs.Plain.{Expression, Body, PatternTree}
use Rattle.rx_lex.specs.Tok.{Tok}
use Rattle.rx_parse_grammar.specs.declared.symbol.Symbol.{Symbol}
use Rattle.rx_parse_grammar.specs.declared.symbol.Symbol.TheVariants as symbol
use Rattle.rx_parse_grammar.specs.grammar.Words.{span_of, ident, immutable, second_ampersand}
use Rattle.rx_lex.specs.Words.{IsWord}
use Rattle.rx_lex.specs.Tokens.{AreWords}
use Rattle.rx_parse_grammar.specs.grammar.Patterns.{IsPattern}
use Rattle.rx_parse_grammar.specs.grammar.Patterns as patterns
use Rattle.rx_parse_grammar.specs.grammar.Expressions.{IsExpression, IsOperand, IsUnary, IsPrimary, IsLike, IsElse, IsBlock, BeginsLike, no_label, label}
use Rattle.rx_parse_grammar.specs.grammar.Expressions as g
use Rattle.rx_parse_grammar.specs.parser.Operators.{begins_like, begins_operand, begins_expression}
use Rattle.rx_parse_grammar.specs.parser.Blocks.{opens}
use Rattle.rx_parse_grammar.proofs.SymbolLemmas.{Stands, symbol_is}
use Rattle.rx_parse_grammar.proofs.OperatorLaws.{not_like}
use Rattle.rx_parse_grammar.proofs.Begun.{Completes, stand_in, stand_in_stands, words_of}
use Rattle.rx_parse_grammar.proofs.BegunWords.{is_number}
use Rattle.rx_parse_grammar.proofs.BegunLists.{Fits, whole_part}

-- ---- a variable and an empty block

abbrev pub a_name : Tok
a_name = stand_in symbol.Name

abbrev pub an_end : Tok
an_end = stand_in symbol.CloseBrace

abbrev pub a_block : List Tok
a_block = stand_in symbol.OpenBrace ∷ an_end ∷ []

pub block_words : AreWords a_block
block_words = words_of (symbol.OpenBrace ∷ symbol.CloseBrace ∷ []) refl

as_operand : (f : Bool) (j : ℕ) {ts : List Tok} {x : Expression} {h : ℕ} → IsUnary f ts x h → IsOperand f j ts x h
as_operand f zero r = g.unary r
as_operand f (suc j) r = g.stronger (as_operand f j r)

of_primary : (f : Bool) (j : ℕ) {ts : List Tok} {x : Expression} {h : ℕ} → IsPrimary f ts x h → IsOperand f j ts x h
of_primary f j r = as_operand f j (g.postfix (g.primary r))

some_primary : (f : Bool) → IsPrimary f (a_name ∷ []) (plain.var (span_of (a_name ∷ [])) a_name.text) 1
some_primary f = g.variable a_name (stand_in_stands symbol.Name refl) refl

some_unary : (f : Bool) → IsUnary f (a_name ∷ []) (plain.var (span_of (a_name ∷ [])) a_name.text) 1
some_unary f = g.postfix (g.primary (some_primary f))

pub some_operand : (f : Bool) (j : ℕ) → IsOperand f j (a_name ∷ []) (plain.var (span_of (a_name ∷ [])) a_name.text) 1
some_operand f j = of_primary f j (some_primary f)

pub some_expression : IsExpression (a_name ∷ []) (plain.var (span_of (a_name ∷ [])) a_name.text) 1
some_expression = g.operand (some_operand true 5)

pub name_not_like : BeginsLike (a_name ∷ []) → ⊥
name_not_like = not_like (a_name ∷ []) (ap begins_like (symbol_is symbol.Name a_name refl (stand_in_stands symbol.Name refl)))

pub some_pattern : IsPattern (a_name ∷ []) (plain.bind (span_of (a_name ∷ [])) (ident a_name) false) 1
some_pattern = patterns.binding a_name (stand_in_stands symbol.Name refl) refl

pub opened : (t : Tok) → Stands symbol.OpenBrace t → IsBlock (t ∷ an_end ∷ []) (plain.body (span_of (t ∷ an_end ∷ [])) plain.no_statement plain.absent) 1
opened t s = g.braces t an_end [] [] plain.absent 0 s (stand_in_stands symbol.CloseBrace refl) g.end refl

pub some_block : IsBlock a_block (plain.body (span_of a_block) plain.no_statement plain.absent) 1
some_block = opened (stand_in symbol.OpenBrace) (stand_in_stands symbol.OpenBrace refl)

-- ---- what each token begins

pub first_like : (q : Symbol) → begins_like q ≡ true → (t : Tok) → Stands q t → Completes (Fits IsLike) (t ∷ [])
first_like symbol.OpenBrace e t s = whole_part (t ∷ []) (an_end ∷ []) _ _ (words_of (symbol.CloseBrace ∷ []) refl) (g.block _ _ (opened t s))
first_like symbol.If e t s = whole_part (t ∷ []) (a_name ∷ a_block) _ _ (words_of (symbol.Name ∷ symbol.OpenBrace ∷ symbol.CloseBrace ∷ []) refl) (g.conditional (g.if_alone t (a_name ∷ []) a_block _ _ _ _ s (g.test (some_operand false 5)) some_block refl))
first_like symbol.Match e t s =
    let arrow : Tok = stand_in symbol.FatArrow in
    whole_part (t ∷ []) (a_name ∷ stand_in symbol.OpenBrace ∷ a_name ∷ arrow ∷ a_name ∷ an_end ∷ []) _ _ (words_of (symbol.Name ∷ symbol.OpenBrace ∷ symbol.Name ∷ symbol.FatArrow ∷ symbol.Name ∷ symbol.CloseBrace ∷ []) refl)
    (g.match t (stand_in symbol.OpenBrace) an_end (a_name ∷ []) (a_name ∷ arrow ∷ a_name ∷ []) _ _ [] _ _ s (stand_in_stands symbol.OpenBrace refl) (stand_in_stands symbol.CloseBrace refl) (some_operand false 5)
    (g.last_arm arrow (a_name ∷ []) (a_name ∷ []) _ _ _ _ some_pattern (stand_in_stands symbol.FatArrow refl) some_expression name_not_like refl) refl)
first_like symbol.Loop e t s = whole_part (t ∷ []) a_block _ _ block_words (g.loop [] a_block t None _ _ no_label s some_block refl)
first_like symbol.While e t s = whole_part (t ∷ []) (a_name ∷ a_block) _ _ (words_of (symbol.Name ∷ symbol.OpenBrace ∷ symbol.CloseBrace ∷ []) refl) (g.while [] (a_name ∷ []) a_block t None _ _ _ _ no_label s (g.test (some_operand false 5)) some_block refl)
first_like symbol.Lifetime e t s =
    let colon : Tok = stand_in symbol.Colon in
    let loop : Tok = stand_in symbol.Loop in
    whole_part (t ∷ []) (colon ∷ loop ∷ a_block) _ _ (words_of (symbol.Colon ∷ symbol.Loop ∷ symbol.OpenBrace ∷ symbol.CloseBrace ∷ []) refl)
    (g.loop (t ∷ colon ∷ []) a_block loop (Some (ident t)) _ _ (label t colon s (stand_in_stands symbol.Colon refl)) (stand_in_stands symbol.Loop refl) some_block refl)
first_like _ e t s = absurd (cc)

like_operand : (f : Bool) (j : ℕ) (t : Tok) → Completes (Fits IsLike) (t ∷ []) → Completes (Fits (IsOperand f j)) (t ∷ [])
like_operand f j t c = record { further = c.further; words = c.words; made = c.made; part = record { span = c.part.span; holds = of_primary f j (g.like c.part.holds) } }

pub first_operand : (f : Bool) (j : ℕ) (q : Symbol) → begins_operand q ≡ true → (t : Tok) → Stands q t → IsWord t.class t.text → Completes (Fits (IsOperand f j)) (t ∷ [])
first_operand f j symbol.Number e t s w = let n = is_number t w s in whole_part (t ∷ []) [] _ _ tt (of_primary f j (g.number t n.0 n.1 n.2 refl))
first_operand f j symbol.True e t s w = whole_part (t ∷ []) [] _ _ tt (of_primary f j (g.true_is t s refl))
first_operand f j symbol.False e t s w = whole_part (t ∷ []) [] _ _ tt (of_primary f j (g.false_is t s refl))
first_operand f j symbol.Name e t s w = whole_part (t ∷ []) [] _ _ tt (of_primary f j (g.variable t s refl))
first_operand f j symbol.OpenParen e t s w = whole_part (t ∷ []) (stand_in symbol.CloseParen ∷ []) _ _ (words_of (symbol.CloseParen ∷ []) refl) (of_primary f j (g.unit t (stand_in symbol.CloseParen) s (stand_in_stands symbol.CloseParen refl) refl))
first_operand f j symbol.Minus e t s w = whole_part (t ∷ []) (a_name ∷ []) _ _ (words_of (symbol.Name ∷ []) refl) (as_operand f j (g.negate t (a_name ∷ []) _ _ s (some_unary f) refl))
first_operand f j symbol.Bang e t s w = whole_part (t ∷ []) (a_name ∷ []) _ _ (words_of (symbol.Name ∷ []) refl) (as_operand f j (g.invert t (a_name ∷ []) _ _ s (some_unary f) refl))
first_operand f j symbol.Star e t s w = whole_part (t ∷ []) (a_name ∷ []) _ _ (words_of (symbol.Name ∷ []) refl) (as_operand f j (g.deref t (a_name ∷ []) _ _ s (some_unary f) refl))
first_operand f j symbol.Ampersand e t s w = whole_part (t ∷ []) (a_name ∷ []) _ _ (words_of (symbol.Name ∷ []) refl) (as_operand f j (g.borrow t [] (a_name ∷ []) false _ _ s immutable (some_unary f) refl))
first_operand f j symbol.AndAnd e t s w = whole_part (t ∷ []) (a_name ∷ []) _ _ (words_of (symbol.Name ∷ []) refl) (as_operand f j (g.borrow_twice t (a_name ∷ []) _ _ s
    (g.borrow (second_ampersand t) [] (a_name ∷ []) false _ _ (refl, refl) immutable (some_unary f) refl) refl))
first_operand f j symbol.OpenBrace e t s w = like_operand f j t (first_like symbol.OpenBrace refl t s)
first_operand f j symbol.If e t s w = like_operand f j t (first_like symbol.If refl t s)
first_operand f j symbol.Match e t s w = like_operand f j t (first_like symbol.Match refl t s)
first_operand f j symbol.Loop e t s w = like_operand f j t (first_like symbol.Loop refl t s)
first_operand f j symbol.While e t s w = like_operand f j t (first_like symbol.While refl t s)
first_operand f j symbol.Lifetime e t s w = like_operand f j t (first_like symbol.Lifetime refl t s)
first_operand f j _ e t s w = absurd (cc)

operand_first : (q : Symbol) → begins_operand q ≡ true → (t : Tok) → Stands q t → IsWord t.class t.text → Completes (Fits IsExpression) (t ∷ [])
operand_first q e t s w = let c = first_operand true 5 q e t s w in record { further = c.further; words = c.words; made = c.made; part = record { span = c.part.span; holds = g.operand c.part.holds } }

pub first_expression : (q : Symbol) → begins_expression q ≡ true → (t : Tok) → Stands q t → IsWord t.class t.text → Completes (Fits IsExpression) (t ∷ [])
first_expression symbol.Return e t s w = whole_part (t ∷ []) [] _ _ tt (g.return t s refl)
first_expression symbol.Break e t s w = whole_part (t ∷ []) [] _ _ tt (g.break t s refl)
first_expression symbol.Continue e t s w = whole_part (t ∷ []) [] _ _ tt (g.continue t s refl)
first_expression q e t s w = operand_first q e t s w

pub first_block : (q : Symbol) → opens q ≡ true → (t : Tok) → Stands q t → Completes (Fits IsBlock) (t ∷ [])
first_block symbol.OpenBrace e t s = whole_part (t ∷ []) (an_end ∷ []) _ _ (words_of (symbol.CloseBrace ∷ []) refl) (opened t s)
first_block _ e t s = absurd (cc)

pub like_completes : Completes (Fits IsLike) []
like_completes = whole_part [] a_block _ _ block_words (g.block _ _ some_block)

pub else_completes : Completes (Fits IsElse) []
else_completes = whole_part [] a_block _ _ block_words (g.else_block _ _ some_block)
