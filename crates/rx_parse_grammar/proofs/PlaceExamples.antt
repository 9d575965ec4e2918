-- Where texts stop being a program, by computation: each text is the comment above its tokens, and ‸ stands before the token
-- in question, or nowhere at the end. Behind `TooDeep` stands with
-- how many levels the text is read. Places and levels were written down by hand.
use Rattle.std.proofs.Common.{◌≡◌, ℕ, List, [], ◌∷◌, Option, Some, None, Ok, Err, codes, refl}
use Rattle.rx_tree.specs.Plain.{ItemTree}
use Rattle.rx_parse_grammar.specs.parser.Steps.{Outcome}
use Rattle.rx_lex.specs.declared.token.Class.TheVariants as class
use Rattle.rx_lex.specs.Tok.{Tok}
use Rattle.rx_lex.specs.Tokens.{token_at}
use Rattle.rx_lex.specs.Words.{format_text}
use Rattle.rx_parse_grammar.specs.declared.stop.Stop.TheVariants as stop
use Rattle.rx_parse_grammar.specs.parser.Blocks as blocks
use Rattle.rx_parse_grammar.specs.parser.Expressions as expressions
use Rattle.rx_parse_grammar.specs.parser.Items as items
use Rattle.rx_parse_grammar.specs.parser.Lists as lists
use Rattle.rx_parse_grammar.specs.parser.Numbers as numbers
use Rattle.rx_parse_grammar.specs.parser.Operators as operators
use Rattle.rx_parse_grammar.specs.parser.Patterns as patterns_of
use Rattle.rx_parse_grammar.specs.parser.Steps as steps
use Rattle.rx_parse_grammar.specs.parser.Symbols as symbols
use Rattle.rx_parse_grammar.specs.parser.Types as types_of

-- tokens of each class, where they stand
abbrev k : ℕ → List ℕ → Tok
k at w = token_at at class.Keyword w

abbrev n : ℕ → List ℕ → Tok
n at w = token_at at class.Identifier w

abbrev m : ℕ → List ℕ → Tok
m at w = token_at at class.Mark w

abbrev d : ℕ → List ℕ → Tok
d at w = token_at at class.Number w

abbrev l : ℕ → List ℕ → Tok
l at w = token_at at class.Lifetime w

abbrev f : ℕ → Tok
f at = token_at at class.Format format_text

-- the levels of what is read
abbrev levels_of : Outcome (List ItemTree × ℕ) → Option ℕ
levels_of (Ok p) = Some p.0.1
levels_of (Err e) = None

places_0 :
    -- fn ‸{ }
    (items.file 16 (k 0 (codes "fn") ∷ m 3 (codes "{") ∷ m 5 (codes "}") ∷ []) ≡ Err (stop.Syntax 2))
    -- fn main ‸{ }
    × (items.file 16 (k 0 (codes "fn") ∷ n 3 (codes "main") ∷ m 8 (codes "{") ∷ m 10 (codes "}") ∷ []) ≡ Err (stop.Syntax 2))
    -- fn main(a‸) {}
    × (items.file 16 (k 0 (codes "fn") ∷ n 3 (codes "main") ∷ m 7 (codes "(") ∷ n 8 (codes "a") ∷ m 9 (codes ")") ∷ m 11 (codes "{") ∷ m 12 (codes "}") ∷ []) ≡ Err (stop.Syntax 3))
    -- fn main(a: ‸) {}
    × (items.file 16 (k 0 (codes "fn") ∷ n 3 (codes "main") ∷ m 7 (codes "(") ∷ n 8 (codes "a") ∷ m 9 (codes ":") ∷ m 11 (codes ")") ∷ m 13 (codes "{") ∷ m 14 (codes "}") ∷ []) ≡ Err (stop.Syntax 3))
    -- fn main(a: u8 ‸b: u8) {}
    × (items.file 16 (k 0 (codes "fn") ∷ n 3 (codes "main") ∷ m 7 (codes "(") ∷ n 8 (codes "a") ∷ m 9 (codes ":") ∷ k 11 (codes "u8") ∷ n 14 (codes "b") ∷ m 15 (codes ":") ∷ k 17 (codes "u8") ∷ m 19 (codes ")") ∷ m 21 (codes "{") ∷ m 22 (codes "}") ∷ []) ≡ Err (stop.Syntax 6))
    -- fn main() -> ‸{ }
    × (items.file 16 (k 0 (codes "fn") ∷ n 3 (codes "main") ∷ m 7 (codes "(") ∷ m 8 (codes ")") ∷ m 10 (codes "->") ∷ m 13 (codes "{") ∷ m 15 (codes "}") ∷ []) ≡ Err (stop.Syntax 2))
    -- fn main() ‸;
    × (items.file 16 (k 0 (codes "fn") ∷ n 3 (codes "main") ∷ m 7 (codes "(") ∷ m 8 (codes ")") ∷ m 10 (codes ";") ∷ []) ≡ Err (stop.Syntax 1))
    -- fn f(‸let: u8) {}
    × (items.file 16 (k 0 (codes "fn") ∷ n 3 (codes "f") ∷ m 4 (codes "(") ∷ k 5 (codes "let") ∷ m 8 (codes ":") ∷ k 10 (codes "u8") ∷ m 12 (codes ")") ∷ m 14 (codes "{") ∷ m 15 (codes "}") ∷ []) ≡ Err (stop.Syntax 6))
unfolding blocks.annotation blocks.let_statement blocks.statements_from blocks.statements blocks.block_of blocks.operand blocks.whole blocks.like blocks.block expressions.chain expressions.call expressions.variant_arguments expressions.input expressions.variant_with expressions.path expressions.field_value expressions.field expressions.struct_literal expressions.print expressions.named expressions.block_value expressions.let_test expressions.test expressions.else_value expressions.conditional expressions.arms_from expressions.arms expressions.match_value expressions.loop_value expressions.while_value expressions.labelled expressions.primary expressions.member expressions.postfix expressions.borrow expressions.borrow_twice expressions.unary expressions.longer expressions.at_strength expressions.return_value expressions.jump expressions.set_or_operand items.derived_name items.derives items.lifetime_parameter items.lifetimes items.bounds_from items.bounds items.bound_lifetime items.bound_lifetimes items.struct_field items.variant items.parameter items.result items.structure items.enumeration items.derived items.function items.rt items.item items.items_from items.file lists.elements_from lists.elements lists.some_elements lists.group numbers.numeral numbers.index_value numbers.number numbers.index operators.operator_at patterns_of.mutable_binding patterns_of.number_pattern patterns_of.negative_pattern patterns_of.variant_pattern patterns_of.long_field patterns_of.short_field patterns_of.field_pattern patterns_of.struct_pattern patterns_of.named_pattern patterns_of.pattern steps.expect steps.sees_word steps.expect_word symbols.keyword symbols.mark symbols.symbol_of symbols.same_symbol types_of.mutability types_of.reference_lifetime types_of.lifetime_argument types_of.named_type types_of.reference types_of.two_references types_of.typ
places_0 = (refl, refl, refl, refl, refl, refl, refl, refl)

places_1 :
    -- struct S { a: u8, ‸, }
    (items.file 16 (k 0 (codes "struct") ∷ n 7 (codes "S") ∷ m 9 (codes "{") ∷ n 11 (codes "a") ∷ m 12 (codes ":") ∷ k 14 (codes "u8") ∷ m 16 (codes ",") ∷ m 18 (codes ",") ∷ m 20 (codes "}") ∷ []) ≡ Err (stop.Syntax 2))
    -- struct S ‸;
    × (items.file 16 (k 0 (codes "struct") ∷ n 7 (codes "S") ∷ m 9 (codes ";") ∷ []) ≡ Err (stop.Syntax 1))
    -- struct S<‸> {}
    × (items.file 16 (k 0 (codes "struct") ∷ n 7 (codes "S") ∷ m 8 (codes "<") ∷ m 9 (codes ">") ∷ m 11 (codes "{") ∷ m 12 (codes "}") ∷ []) ≡ Err (stop.Syntax 3))
    -- struct S<'a ‸b> {}
    × (items.file 16 (k 0 (codes "struct") ∷ n 7 (codes "S") ∷ m 8 (codes "<") ∷ l 9 (codes "'a") ∷ n 12 (codes "b") ∷ m 13 (codes ">") ∷ m 15 (codes "{") ∷ m 16 (codes "}") ∷ []) ≡ Err (stop.Syntax 4))
    -- enum E { A(‸) }
    × (items.file 16 (k 0 (codes "enum") ∷ n 5 (codes "E") ∷ m 7 (codes "{") ∷ n 9 (codes "A") ∷ m 10 (codes "(") ∷ m 11 (codes ")") ∷ m 13 (codes "}") ∷ []) ≡ Err (stop.Syntax 2))
    -- enum E { A, ‸, }
    × (items.file 16 (k 0 (codes "enum") ∷ n 5 (codes "E") ∷ m 7 (codes "{") ∷ n 9 (codes "A") ∷ m 10 (codes ",") ∷ m 12 (codes ",") ∷ m 14 (codes "}") ∷ []) ≡ Err (stop.Syntax 2))
    -- #[derive(Clone ‸Copy)] struct S {}
    × (items.file 16 (m 0 (codes "#") ∷ m 1 (codes "[") ∷ n 2 (codes "derive") ∷ m 8 (codes "(") ∷ n 9 (codes "Clone") ∷ n 15 (codes "Copy") ∷ m 19 (codes ")") ∷ m 20 (codes "]") ∷ k 22 (codes "struct") ∷ n 29 (codes "S") ∷ m 31 (codes "{") ∷ m 32 (codes "}") ∷ []) ≡ Err (stop.Syntax 7))
    -- #[derive(Copy)] ‸fn f() {}
    × (items.file 16 (m 0 (codes "#") ∷ m 1 (codes "[") ∷ n 2 (codes "derive") ∷ m 8 (codes "(") ∷ n 9 (codes "Copy") ∷ m 13 (codes ")") ∷ m 14 (codes "]") ∷ k 16 (codes "fn") ∷ n 19 (codes "f") ∷ m 20 (codes "(") ∷ m 21 (codes ")") ∷ m 23 (codes "{") ∷ m 24 (codes "}") ∷ []) ≡ Err (stop.Syntax 6))
unfolding blocks.annotation blocks.let_statement blocks.statements_from blocks.statements blocks.block_of blocks.operand blocks.whole blocks.like blocks.block expressions.chain expressions.call expressions.variant_arguments expressions.input expressions.variant_with expressions.path expressions.field_value expressions.field expressions.struct_literal expressions.print expressions.named expressions.block_value expressions.let_test expressions.test expressions.else_value expressions.conditional expressions.arms_from expressions.arms expressions.match_value expressions.loop_value expressions.while_value expressions.labelled expressions.primary expressions.member expressions.postfix expressions.borrow expressions.borrow_twice expressions.unary expressions.longer expressions.at_strength expressions.return_value expressions.jump expressions.set_or_operand items.derived_name items.derives items.lifetime_parameter items.lifetimes items.bounds_from items.bounds items.bound_lifetime items.bound_lifetimes items.struct_field items.variant items.parameter items.result items.structure items.enumeration items.derived items.function items.rt items.item items.items_from items.file lists.elements_from lists.elements lists.some_elements lists.group numbers.numeral numbers.index_value numbers.number numbers.index operators.operator_at patterns_of.mutable_binding patterns_of.number_pattern patterns_of.negative_pattern patterns_of.variant_pattern patterns_of.long_field patterns_of.short_field patterns_of.field_pattern patterns_of.struct_pattern patterns_of.named_pattern patterns_of.pattern steps.expect steps.sees_word steps.expect_word symbols.keyword symbols.mark symbols.symbol_of symbols.same_symbol types_of.mutability types_of.reference_lifetime types_of.lifetime_argument types_of.named_type types_of.reference types_of.two_references types_of.typ
places_1 = (refl, refl, refl, refl, refl, refl, refl, refl)

places_2 :
    -- #‸(derive)
    (items.file 16 (m 0 (codes "#") ∷ m 1 (codes "(") ∷ n 2 (codes "derive") ∷ m 8 (codes ")") ∷ []) ≡ Err (stop.Syntax 3))
    -- mod rt ‸{ }
    × (items.file 16 (k 0 (codes "mod") ∷ n 4 (codes "rt") ∷ m 7 (codes "{") ∷ m 9 (codes "}") ∷ []) ≡ Err (stop.Syntax 2))
    -- mod ‸S;
    × (items.file 16 (k 0 (codes "mod") ∷ n 4 (codes "S") ∷ m 5 (codes ";") ∷ []) ≡ Err (stop.Syntax 2))
    -- ‸let x = 1;
    × (items.file 16 (k 0 (codes "let") ∷ n 4 (codes "x") ∷ m 6 (codes "=") ∷ d 8 (codes "1") ∷ m 9 (codes ";") ∷ []) ≡ Err (stop.Syntax 5))
    -- fn f<'a: 'b + ‸, 'c>() {}
    × (items.file 16 (k 0 (codes "fn") ∷ n 3 (codes "f") ∷ m 4 (codes "<") ∷ l 5 (codes "'a") ∷ m 7 (codes ":") ∷ l 9 (codes "'b") ∷ m 12 (codes "+") ∷ m 14 (codes ",") ∷ l 16 (codes "'c") ∷ m 18 (codes ">") ∷ m 19 (codes "(") ∷ m 20 (codes ")") ∷ m 22 (codes "{") ∷ m 23 (codes "}") ∷ []) ≡ Err (stop.Syntax 7))
    -- fn f() {} ‸}
    × (items.file 16 (k 0 (codes "fn") ∷ n 3 (codes "f") ∷ m 4 (codes "(") ∷ m 5 (codes ")") ∷ m 7 (codes "{") ∷ m 8 (codes "}") ∷ m 10 (codes "}") ∷ []) ≡ Err (stop.Syntax 1))
    -- fn f(a: &‸) {}
    × (items.file 16 (k 0 (codes "fn") ∷ n 3 (codes "f") ∷ m 4 (codes "(") ∷ n 5 (codes "a") ∷ m 6 (codes ":") ∷ m 8 (codes "&") ∷ m 9 (codes ")") ∷ m 11 (codes "{") ∷ m 12 (codes "}") ∷ []) ≡ Err (stop.Syntax 3))
    -- fn f(a: &mut ‸mut u8) {}
    × (items.file 16 (k 0 (codes "fn") ∷ n 3 (codes "f") ∷ m 4 (codes "(") ∷ n 5 (codes "a") ∷ m 6 (codes ":") ∷ m 8 (codes "&") ∷ k 9 (codes "mut") ∷ k 13 (codes "mut") ∷ k 17 (codes "u8") ∷ m 19 (codes ")") ∷ m 21 (codes "{") ∷ m 22 (codes "}") ∷ []) ≡ Err (stop.Syntax 5))
unfolding blocks.annotation blocks.let_statement blocks.statements_from blocks.statements blocks.block_of blocks.operand blocks.whole blocks.like blocks.block expressions.chain expressions.call expressions.variant_arguments expressions.input expressions.variant_with expressions.path expressions.field_value expressions.field expressions.struct_literal expressions.print expressions.named expressions.block_value expressions.let_test expressions.test expressions.else_value expressions.conditional expressions.arms_from expressions.arms expressions.match_value expressions.loop_value expressions.while_value expressions.labelled expressions.primary expressions.member expressions.postfix expressions.borrow expressions.borrow_twice expressions.unary expressions.longer expressions.at_strength expressions.return_value expressions.jump expressions.set_or_operand items.derived_name items.derives items.lifetime_parameter items.lifetimes items.bounds_from items.bounds items.bound_lifetime items.bound_lifetimes items.struct_field items.variant items.parameter items.result items.structure items.enumeration items.derived items.function items.rt items.item items.items_from items.file lists.elements_from lists.elements lists.some_elements lists.group numbers.numeral numbers.index_value numbers.number numbers.index operators.operator_at patterns_of.mutable_binding patterns_of.number_pattern patterns_of.negative_pattern patterns_of.variant_pattern patterns_of.long_field patterns_of.short_field patterns_of.field_pattern patterns_of.struct_pattern patterns_of.named_pattern patterns_of.pattern steps.expect steps.sees_word steps.expect_word symbols.keyword symbols.mark symbols.symbol_of symbols.same_symbol types_of.mutability types_of.reference_lifetime types_of.lifetime_argument types_of.named_type types_of.reference types_of.two_references types_of.typ
places_2 = (refl, refl, refl, refl, refl, refl, refl, refl)

places_3 :
    -- fn f(a: (u8, ‸, u8)) {}
    (items.file 16 (k 0 (codes "fn") ∷ n 3 (codes "f") ∷ m 4 (codes "(") ∷ n 5 (codes "a") ∷ m 6 (codes ":") ∷ m 8 (codes "(") ∷ k 9 (codes "u8") ∷ m 11 (codes ",") ∷ m 13 (codes ",") ∷ k 15 (codes "u8") ∷ m 17 (codes ")") ∷ m 18 (codes ")") ∷ m 20 (codes "{") ∷ m 21 (codes "}") ∷ []) ≡ Err (stop.Syntax 6))
    -- fn f(a: S<‸u8>) {}
    × (items.file 16 (k 0 (codes "fn") ∷ n 3 (codes "f") ∷ m 4 (codes "(") ∷ n 5 (codes "a") ∷ m 6 (codes ":") ∷ n 8 (codes "S") ∷ m 9 (codes "<") ∷ k 10 (codes "u8") ∷ m 12 (codes ">") ∷ m 13 (codes ")") ∷ m 15 (codes "{") ∷ m 16 (codes "}") ∷ []) ≡ Err (stop.Syntax 5))
    -- fn f(a: S<'a ‸'b>) {}
    × (items.file 16 (k 0 (codes "fn") ∷ n 3 (codes "f") ∷ m 4 (codes "(") ∷ n 5 (codes "a") ∷ m 6 (codes ":") ∷ n 8 (codes "S") ∷ m 9 (codes "<") ∷ l 10 (codes "'a") ∷ l 13 (codes "'b") ∷ m 15 (codes ">") ∷ m 16 (codes ")") ∷ m 18 (codes "{") ∷ m 19 (codes "}") ∷ []) ≡ Err (stop.Syntax 5))
    -- fn f(a: ‸[u8]) {}
    × (items.file 16 (k 0 (codes "fn") ∷ n 3 (codes "f") ∷ m 4 (codes "(") ∷ n 5 (codes "a") ∷ m 6 (codes ":") ∷ m 8 (codes "[") ∷ k 9 (codes "u8") ∷ m 11 (codes "]") ∷ m 12 (codes ")") ∷ m 14 (codes "{") ∷ m 15 (codes "}") ∷ []) ≡ Err (stop.Syntax 6))
    -- fn f() { let ‸= 1; }
    × (items.file 16 (k 0 (codes "fn") ∷ n 3 (codes "f") ∷ m 4 (codes "(") ∷ m 5 (codes ")") ∷ m 7 (codes "{") ∷ k 9 (codes "let") ∷ m 13 (codes "=") ∷ d 15 (codes "1") ∷ m 16 (codes ";") ∷ m 18 (codes "}") ∷ []) ≡ Err (stop.Syntax 4))
    -- fn f() { let mut ‸(a, b) = c; }
    × (items.file 16 (k 0 (codes "fn") ∷ n 3 (codes "f") ∷ m 4 (codes "(") ∷ m 5 (codes ")") ∷ m 7 (codes "{") ∷ k 9 (codes "let") ∷ k 13 (codes "mut") ∷ m 17 (codes "(") ∷ n 18 (codes "a") ∷ m 19 (codes ",") ∷ n 21 (codes "b") ∷ m 22 (codes ")") ∷ m 24 (codes "=") ∷ n 26 (codes "c") ∷ m 27 (codes ";") ∷ m 29 (codes "}") ∷ []) ≡ Err (stop.Syntax 9))
    -- fn f() { let (a, ‸,) = c; }
    × (items.file 16 (k 0 (codes "fn") ∷ n 3 (codes "f") ∷ m 4 (codes "(") ∷ m 5 (codes ")") ∷ m 7 (codes "{") ∷ k 9 (codes "let") ∷ m 13 (codes "(") ∷ n 14 (codes "a") ∷ m 15 (codes ",") ∷ m 17 (codes ",") ∷ m 18 (codes ")") ∷ m 20 (codes "=") ∷ n 22 (codes "c") ∷ m 23 (codes ";") ∷ m 25 (codes "}") ∷ []) ≡ Err (stop.Syntax 6))
    -- fn f() { let E::V(‸) = c; }
    × (items.file 16 (k 0 (codes "fn") ∷ n 3 (codes "f") ∷ m 4 (codes "(") ∷ m 5 (codes ")") ∷ m 7 (codes "{") ∷ k 9 (codes "let") ∷ n 13 (codes "E") ∷ m 14 (codes "::") ∷ n 16 (codes "V") ∷ m 17 (codes "(") ∷ m 18 (codes ")") ∷ m 20 (codes "=") ∷ n 22 (codes "c") ∷ m 23 (codes ";") ∷ m 25 (codes "}") ∷ []) ≡ Err (stop.Syntax 5))
unfolding blocks.annotation blocks.let_statement blocks.statements_from blocks.statements blocks.block_of blocks.operand blocks.whole blocks.like blocks.block expressions.chain expressions.call expressions.variant_arguments expressions.input expressions.variant_with expressions.path expressions.field_value expressions.field expressions.struct_literal expressions.print expressions.named expressions.block_value expressions.let_test expressions.test expressions.else_value expressions.conditional expressions.arms_from expressions.arms expressions.match_value expressions.loop_value expressions.while_value expressions.labelled expressions.primary expressions.member expressions.postfix expressions.borrow expressions.borrow_twice expressions.unary expressions.longer expressions.at_strength expressions.return_value expressions.jump expressions.set_or_operand items.derived_name items.derives items.lifetime_parameter items.lifetimes items.bounds_from items.bounds items.bound_lifetime items.bound_lifetimes items.struct_field items.variant items.parameter items.result items.structure items.enumeration items.derived items.function items.rt items.item items.items_from items.file lists.elements_from lists.elements lists.some_elements lists.group numbers.numeral numbers.index_value numbers.number numbers.index operators.operator_at patterns_of.mutable_binding patterns_of.number_pattern patterns_of.negative_pattern patterns_of.variant_pattern patterns_of.long_field patterns_of.short_field patterns_of.field_pattern patterns_of.struct_pattern patterns_of.named_pattern patterns_of.pattern steps.expect steps.sees_word steps.expect_word symbols.keyword symbols.mark symbols.symbol_of symbols.same_symbol types_of.mutability types_of.reference_lifetime types_of.lifetime_argument types_of.named_type types_of.reference types_of.two_references types_of.typ
places_3 = (refl, refl, refl, refl, refl, refl, refl, refl)

places_4 :
    -- fn f() { let S { a: ‸, } = c; }
    (items.file 16 (k 0 (codes "fn") ∷ n 3 (codes "f") ∷ m 4 (codes "(") ∷ m 5 (codes ")") ∷ m 7 (codes "{") ∷ k 9 (codes "let") ∷ n 13 (codes "S") ∷ m 15 (codes "{") ∷ n 17 (codes "a") ∷ m 18 (codes ":") ∷ m 20 (codes ",") ∷ m 22 (codes "}") ∷ m 24 (codes "=") ∷ n 26 (codes "c") ∷ m 27 (codes ";") ∷ m 29 (codes "}") ∷ []) ≡ Err (stop.Syntax 6))
    -- fn f() { let -‸x = 1; }
    × (items.file 16 (k 0 (codes "fn") ∷ n 3 (codes "f") ∷ m 4 (codes "(") ∷ m 5 (codes ")") ∷ m 7 (codes "{") ∷ k 9 (codes "let") ∷ m 13 (codes "-") ∷ n 14 (codes "x") ∷ m 16 (codes "=") ∷ d 18 (codes "1") ∷ m 19 (codes ";") ∷ m 21 (codes "}") ∷ []) ≡ Err (stop.Syntax 5))
    -- fn f() { let E::‸1 = c; }
    × (items.file 16 (k 0 (codes "fn") ∷ n 3 (codes "f") ∷ m 4 (codes "(") ∷ m 5 (codes ")") ∷ m 7 (codes "{") ∷ k 9 (codes "let") ∷ n 13 (codes "E") ∷ m 14 (codes "::") ∷ d 16 (codes "1") ∷ m 18 (codes "=") ∷ n 20 (codes "c") ∷ m 21 (codes ";") ∷ m 23 (codes "}") ∷ []) ≡ Err (stop.Syntax 5))
    -- fn f() { let (a, b)‸; }
    × (items.file 16 (k 0 (codes "fn") ∷ n 3 (codes "f") ∷ m 4 (codes "(") ∷ m 5 (codes ")") ∷ m 7 (codes "{") ∷ k 9 (codes "let") ∷ m 13 (codes "(") ∷ n 14 (codes "a") ∷ m 15 (codes ",") ∷ n 17 (codes "b") ∷ m 18 (codes ")") ∷ m 19 (codes ";") ∷ m 21 (codes "}") ∷ []) ≡ Err (stop.Syntax 2))
    -- fn f() { let x: ‸= 1; }
    × (items.file 16 (k 0 (codes "fn") ∷ n 3 (codes "f") ∷ m 4 (codes "(") ∷ m 5 (codes ")") ∷ m 7 (codes "{") ∷ k 9 (codes "let") ∷ n 13 (codes "x") ∷ m 14 (codes ":") ∷ m 16 (codes "=") ∷ d 18 (codes "1") ∷ m 19 (codes ";") ∷ m 21 (codes "}") ∷ []) ≡ Err (stop.Syntax 4))
    -- fn f() { let x ‸1; }
    × (items.file 16 (k 0 (codes "fn") ∷ n 3 (codes "f") ∷ m 4 (codes "(") ∷ m 5 (codes ")") ∷ m 7 (codes "{") ∷ k 9 (codes "let") ∷ n 13 (codes "x") ∷ d 15 (codes "1") ∷ m 16 (codes ";") ∷ m 18 (codes "}") ∷ []) ≡ Err (stop.Syntax 3))
    -- fn f() { let x = 1 ‸}
    × (items.file 16 (k 0 (codes "fn") ∷ n 3 (codes "f") ∷ m 4 (codes "(") ∷ m 5 (codes ")") ∷ m 7 (codes "{") ∷ k 9 (codes "let") ∷ n 13 (codes "x") ∷ m 15 (codes "=") ∷ d 17 (codes "1") ∷ m 19 (codes "}") ∷ []) ≡ Err (stop.Syntax 1))
    -- fn f() { let x = ‸let; }
    × (items.file 16 (k 0 (codes "fn") ∷ n 3 (codes "f") ∷ m 4 (codes "(") ∷ m 5 (codes ")") ∷ m 7 (codes "{") ∷ k 9 (codes "let") ∷ n 13 (codes "x") ∷ m 15 (codes "=") ∷ k 17 (codes "let") ∷ m 20 (codes ";") ∷ m 22 (codes "}") ∷ []) ≡ Err (stop.Syntax 3))
unfolding blocks.annotation blocks.let_statement blocks.statements_from blocks.statements blocks.block_of blocks.operand blocks.whole blocks.like blocks.block expressions.chain expressions.call expressions.variant_arguments expressions.input expressions.variant_with expressions.path expressions.field_value expressions.field expressions.struct_literal expressions.print expressions.named expressions.block_value expressions.let_test expressions.test expressions.else_value expressions.conditional expressions.arms_from expressions.arms expressions.match_value expressions.loop_value expressions.while_value expressions.labelled expressions.primary expressions.member expressions.postfix expressions.borrow expressions.borrow_twice expressions.unary expressions.longer expressions.at_strength expressions.return_value expressions.jump expressions.set_or_operand items.derived_name items.derives items.lifetime_parameter items.lifetimes items.bounds_from items.bounds items.bound_lifetime items.bound_lifetimes items.struct_field items.variant items.parameter items.result items.structure items.enumeration items.derived items.function items.rt items.item items.items_from items.file lists.elements_from lists.elements lists.some_elements lists.group numbers.numeral numbers.index_value numbers.number numbers.index operators.operator_at patterns_of.mutable_binding patterns_of.number_pattern patterns_of.negative_pattern patterns_of.variant_pattern patterns_of.long_field patterns_of.short_field patterns_of.field_pattern patterns_of.struct_pattern patterns_of.named_pattern patterns_of.pattern steps.expect steps.sees_word steps.expect_word symbols.keyword symbols.mark symbols.symbol_of symbols.same_symbol types_of.mutability types_of.reference_lifetime types_of.lifetime_argument types_of.named_type types_of.reference types_of.two_references types_of.typ
places_4 = (refl, refl, refl, refl, refl, refl, refl, refl)

places_5 :
    -- fn f() { 1 + ‸; }
    (items.file 16 (k 0 (codes "fn") ∷ n 3 (codes "f") ∷ m 4 (codes "(") ∷ m 5 (codes ")") ∷ m 7 (codes "{") ∷ d 9 (codes "1") ∷ m 11 (codes "+") ∷ m 13 (codes ";") ∷ m 15 (codes "}") ∷ []) ≡ Err (stop.Syntax 2))
    -- fn f() { g(1 ‸2); }
    × (items.file 16 (k 0 (codes "fn") ∷ n 3 (codes "f") ∷ m 4 (codes "(") ∷ m 5 (codes ")") ∷ m 7 (codes "{") ∷ n 9 (codes "g") ∷ m 10 (codes "(") ∷ d 11 (codes "1") ∷ d 13 (codes "2") ∷ m 14 (codes ")") ∷ m 15 (codes ";") ∷ m 17 (codes "}") ∷ []) ≡ Err (stop.Syntax 4))
    -- fn f() { g(‸, 1); }
    × (items.file 16 (k 0 (codes "fn") ∷ n 3 (codes "f") ∷ m 4 (codes "(") ∷ m 5 (codes ")") ∷ m 7 (codes "{") ∷ n 9 (codes "g") ∷ m 10 (codes "(") ∷ m 11 (codes ",") ∷ d 13 (codes "1") ∷ m 14 (codes ")") ∷ m 15 (codes ";") ∷ m 17 (codes "}") ∷ []) ≡ Err (stop.Syntax 5))
    -- fn f() { E::V(‸) }
    × (items.file 16 (k 0 (codes "fn") ∷ n 3 (codes "f") ∷ m 4 (codes "(") ∷ m 5 (codes ")") ∷ m 7 (codes "{") ∷ n 9 (codes "E") ∷ m 10 (codes "::") ∷ n 12 (codes "V") ∷ m 13 (codes "(") ∷ m 14 (codes ")") ∷ m 16 (codes "}") ∷ []) ≡ Err (stop.Syntax 2))
    -- fn f() { rt::next(1‸; }
    × (items.file 16 (k 0 (codes "fn") ∷ n 3 (codes "f") ∷ m 4 (codes "(") ∷ m 5 (codes ")") ∷ m 7 (codes "{") ∷ n 9 (codes "rt") ∷ m 11 (codes "::") ∷ n 13 (codes "next") ∷ m 17 (codes "(") ∷ d 18 (codes "1") ∷ m 19 (codes ";") ∷ m 21 (codes "}") ∷ []) ≡ Err (stop.Syntax 2))
    -- fn f() { S { a: ‸, } }
    × (items.file 16 (k 0 (codes "fn") ∷ n 3 (codes "f") ∷ m 4 (codes "(") ∷ m 5 (codes ")") ∷ m 7 (codes "{") ∷ n 9 (codes "S") ∷ m 11 (codes "{") ∷ n 13 (codes "a") ∷ m 14 (codes ":") ∷ m 16 (codes ",") ∷ m 18 (codes "}") ∷ m 20 (codes "}") ∷ []) ≡ Err (stop.Syntax 3))
    -- fn f() { S { a ‸b } }
    × (items.file 16 (k 0 (codes "fn") ∷ n 3 (codes "f") ∷ m 4 (codes "(") ∷ m 5 (codes ")") ∷ m 7 (codes "{") ∷ n 9 (codes "S") ∷ m 11 (codes "{") ∷ n 13 (codes "a") ∷ n 15 (codes "b") ∷ m 17 (codes "}") ∷ m 19 (codes "}") ∷ []) ≡ Err (stop.Syntax 3))
    -- fn f() { x.‸; }
    × (items.file 16 (k 0 (codes "fn") ∷ n 3 (codes "f") ∷ m 4 (codes "(") ∷ m 5 (codes ")") ∷ m 7 (codes "{") ∷ n 9 (codes "x") ∷ m 10 (codes ".") ∷ m 11 (codes ";") ∷ m 13 (codes "}") ∷ []) ≡ Err (stop.Syntax 2))
unfolding blocks.annotation blocks.let_statement blocks.statements_from blocks.statements blocks.block_of blocks.operand blocks.whole blocks.like blocks.block expressions.chain expressions.call expressions.variant_arguments expressions.input expressions.variant_with expressions.path expressions.field_value expressions.field expressions.struct_literal expressions.print expressions.named expressions.block_value expressions.let_test expressions.test expressions.else_value expressions.conditional expressions.arms_from expressions.arms expressions.match_value expressions.loop_value expressions.while_value expressions.labelled expressions.primary expressions.member expressions.postfix expressions.borrow expressions.borrow_twice expressions.unary expressions.longer expressions.at_strength expressions.return_value expressions.jump expressions.set_or_operand items.derived_name items.derives items.lifetime_parameter items.lifetimes items.bounds_from items.bounds items.bound_lifetime items.bound_lifetimes items.struct_field items.variant items.parameter items.result items.structure items.enumeration items.derived items.function items.rt items.item items.items_from items.file lists.elements_from lists.elements lists.some_elements lists.group numbers.numeral numbers.index_value numbers.number numbers.index operators.operator_at patterns_of.mutable_binding patterns_of.number_pattern patterns_of.negative_pattern patterns_of.variant_pattern patterns_of.long_field patterns_of.short_field patterns_of.field_pattern patterns_of.struct_pattern patterns_of.named_pattern patterns_of.pattern steps.expect steps.sees_word steps.expect_word symbols.keyword symbols.mark symbols.symbol_of symbols.same_symbol types_of.mutability types_of.reference_lifetime types_of.lifetime_argument types_of.named_type types_of.reference types_of.two_references types_of.typ
places_5 = (refl, refl, refl, refl, refl, refl, refl, refl)

places_6 :
    -- fn f() { x.‸1u8; }
    (items.file 16 (k 0 (codes "fn") ∷ n 3 (codes "f") ∷ m 4 (codes "(") ∷ m 5 (codes ")") ∷ m 7 (codes "{") ∷ n 9 (codes "x") ∷ m 10 (codes ".") ∷ d 11 (codes "1u8") ∷ m 14 (codes ";") ∷ m 16 (codes "}") ∷ []) ≡ Err (stop.Syntax 3))
    -- fn f() { a == b ‸== c; }
    × (items.file 16 (k 0 (codes "fn") ∷ n 3 (codes "f") ∷ m 4 (codes "(") ∷ m 5 (codes ")") ∷ m 7 (codes "{") ∷ n 9 (codes "a") ∷ m 11 (codes "==") ∷ n 14 (codes "b") ∷ m 16 (codes "==") ∷ n 19 (codes "c") ∷ m 20 (codes ";") ∷ m 22 (codes "}") ∷ []) ≡ Err (stop.Syntax 4))
    -- fn f() { if S { a ‸: 1 } {} }
    × (items.file 16 (k 0 (codes "fn") ∷ n 3 (codes "f") ∷ m 4 (codes "(") ∷ m 5 (codes ")") ∷ m 7 (codes "{") ∷ k 9 (codes "if") ∷ n 12 (codes "S") ∷ m 14 (codes "{") ∷ n 16 (codes "a") ∷ m 18 (codes ":") ∷ d 20 (codes "1") ∷ m 22 (codes "}") ∷ m 24 (codes "{") ∷ m 25 (codes "}") ∷ m 27 (codes "}") ∷ []) ≡ Err (stop.Syntax 6))
    -- fn f() { println!‸; }
    × (items.file 16 (k 0 (codes "fn") ∷ n 3 (codes "f") ∷ m 4 (codes "(") ∷ m 5 (codes ")") ∷ m 7 (codes "{") ∷ n 9 (codes "println") ∷ m 16 (codes "!") ∷ m 17 (codes ";") ∷ m 19 (codes "}") ∷ []) ≡ Err (stop.Syntax 2))
    -- fn f() { println!(‸x); }
    × (items.file 16 (k 0 (codes "fn") ∷ n 3 (codes "f") ∷ m 4 (codes "(") ∷ m 5 (codes ")") ∷ m 7 (codes "{") ∷ n 9 (codes "println") ∷ m 16 (codes "!") ∷ m 17 (codes "(") ∷ n 18 (codes "x") ∷ m 19 (codes ")") ∷ m 20 (codes ";") ∷ m 22 (codes "}") ∷ []) ≡ Err (stop.Syntax 4))
    -- fn f() { println!("{}"‸); }
    × (items.file 16 (k 0 (codes "fn") ∷ n 3 (codes "f") ∷ m 4 (codes "(") ∷ m 5 (codes ")") ∷ m 7 (codes "{") ∷ n 9 (codes "println") ∷ m 16 (codes "!") ∷ m 17 (codes "(") ∷ f 18 ∷ m 22 (codes ")") ∷ m 23 (codes ";") ∷ m 25 (codes "}") ∷ []) ≡ Err (stop.Syntax 3))
    -- fn f() { println!("{}", x‸,); }
    × (items.file 16 (k 0 (codes "fn") ∷ n 3 (codes "f") ∷ m 4 (codes "(") ∷ m 5 (codes ")") ∷ m 7 (codes "{") ∷ n 9 (codes "println") ∷ m 16 (codes "!") ∷ m 17 (codes "(") ∷ f 18 ∷ m 22 (codes ",") ∷ n 24 (codes "x") ∷ m 25 (codes ",") ∷ m 26 (codes ")") ∷ m 27 (codes ";") ∷ m 29 (codes "}") ∷ []) ≡ Err (stop.Syntax 4))
    -- fn f() { {} ‸+ 1; }
    × (items.file 16 (k 0 (codes "fn") ∷ n 3 (codes "f") ∷ m 4 (codes "(") ∷ m 5 (codes ")") ∷ m 7 (codes "{") ∷ m 9 (codes "{") ∷ m 10 (codes "}") ∷ m 12 (codes "+") ∷ d 14 (codes "1") ∷ m 15 (codes ";") ∷ m 17 (codes "}") ∷ []) ≡ Err (stop.Syntax 4))
unfolding blocks.annotation blocks.let_statement blocks.statements_from blocks.statements blocks.block_of blocks.operand blocks.whole blocks.like blocks.block expressions.chain expressions.call expressions.variant_arguments expressions.input expressions.variant_with expressions.path expressions.field_value expressions.field expressions.struct_literal expressions.print expressions.named expressions.block_value expressions.let_test expressions.test expressions.else_value expressions.conditional expressions.arms_from expressions.arms expressions.match_value expressions.loop_value expressions.while_value expressions.labelled expressions.primary expressions.member expressions.postfix expressions.borrow expressions.borrow_twice expressions.unary expressions.longer expressions.at_strength expressions.return_value expressions.jump expressions.set_or_operand items.derived_name items.derives items.lifetime_parameter items.lifetimes items.bounds_from items.bounds items.bound_lifetime items.bound_lifetimes items.struct_field items.variant items.parameter items.result items.structure items.enumeration items.derived items.function items.rt items.item items.items_from items.file lists.elements_from lists.elements lists.some_elements lists.group numbers.numeral numbers.index_value numbers.number numbers.index operators.operator_at patterns_of.mutable_binding patterns_of.number_pattern patterns_of.negative_pattern patterns_of.variant_pattern patterns_of.long_field patterns_of.short_field patterns_of.field_pattern patterns_of.struct_pattern patterns_of.named_pattern patterns_of.pattern steps.expect steps.sees_word steps.expect_word symbols.keyword symbols.mark symbols.symbol_of symbols.same_symbol types_of.mutability types_of.reference_lifetime types_of.lifetime_argument types_of.named_type types_of.reference types_of.two_references types_of.typ
places_6 = (refl, refl, refl, refl, refl, refl, refl, refl)

places_7 :
    -- fn f() { if a {} else ‸x; }
    (items.file 16 (k 0 (codes "fn") ∷ n 3 (codes "f") ∷ m 4 (codes "(") ∷ m 5 (codes ")") ∷ m 7 (codes "{") ∷ k 9 (codes "if") ∷ n 12 (codes "a") ∷ m 14 (codes "{") ∷ m 15 (codes "}") ∷ k 17 (codes "else") ∷ n 22 (codes "x") ∷ m 23 (codes ";") ∷ m 25 (codes "}") ∷ []) ≡ Err (stop.Syntax 3))
    -- fn f() { match a {‸} }
    × (items.file 16 (k 0 (codes "fn") ∷ n 3 (codes "f") ∷ m 4 (codes "(") ∷ m 5 (codes ")") ∷ m 7 (codes "{") ∷ k 9 (codes "match") ∷ n 15 (codes "a") ∷ m 17 (codes "{") ∷ m 18 (codes "}") ∷ m 20 (codes "}") ∷ []) ≡ Err (stop.Syntax 2))
    -- fn f() { match a { b ‸1 } }
    × (items.file 16 (k 0 (codes "fn") ∷ n 3 (codes "f") ∷ m 4 (codes "(") ∷ m 5 (codes ")") ∷ m 7 (codes "{") ∷ k 9 (codes "match") ∷ n 15 (codes "a") ∷ m 17 (codes "{") ∷ n 19 (codes "b") ∷ d 21 (codes "1") ∷ m 23 (codes "}") ∷ m 25 (codes "}") ∷ []) ≡ Err (stop.Syntax 3))
    -- fn f() { match a { b => ‸, } }
    × (items.file 16 (k 0 (codes "fn") ∷ n 3 (codes "f") ∷ m 4 (codes "(") ∷ m 5 (codes ")") ∷ m 7 (codes "{") ∷ k 9 (codes "match") ∷ n 15 (codes "a") ∷ m 17 (codes "{") ∷ n 19 (codes "b") ∷ m 21 (codes "=>") ∷ m 24 (codes ",") ∷ m 26 (codes "}") ∷ m 28 (codes "}") ∷ []) ≡ Err (stop.Syntax 3))
    -- fn f() { match a { b => 1 ‸c => 2 } }
    × (items.file 16 (k 0 (codes "fn") ∷ n 3 (codes "f") ∷ m 4 (codes "(") ∷ m 5 (codes ")") ∷ m 7 (codes "{") ∷ k 9 (codes "match") ∷ n 15 (codes "a") ∷ m 17 (codes "{") ∷ n 19 (codes "b") ∷ m 21 (codes "=>") ∷ d 24 (codes "1") ∷ n 26 (codes "c") ∷ m 28 (codes "=>") ∷ d 31 (codes "2") ∷ m 33 (codes "}") ∷ m 35 (codes "}") ∷ []) ≡ Err (stop.Syntax 5))
    -- fn f() { match a { b => {} c ‸} }
    × (items.file 16 (k 0 (codes "fn") ∷ n 3 (codes "f") ∷ m 4 (codes "(") ∷ m 5 (codes ")") ∷ m 7 (codes "{") ∷ k 9 (codes "match") ∷ n 15 (codes "a") ∷ m 17 (codes "{") ∷ n 19 (codes "b") ∷ m 21 (codes "=>") ∷ m 24 (codes "{") ∷ m 25 (codes "}") ∷ n 27 (codes "c") ∷ m 29 (codes "}") ∷ m 31 (codes "}") ∷ []) ≡ Err (stop.Syntax 2))
    -- fn f() { 'a: ‸{ } }
    × (items.file 16 (k 0 (codes "fn") ∷ n 3 (codes "f") ∷ m 4 (codes "(") ∷ m 5 (codes ")") ∷ m 7 (codes "{") ∷ l 9 (codes "'a") ∷ m 11 (codes ":") ∷ m 13 (codes "{") ∷ m 15 (codes "}") ∷ m 17 (codes "}") ∷ []) ≡ Err (stop.Syntax 3))
    -- fn f() { 'a ‸loop {} }
    × (items.file 16 (k 0 (codes "fn") ∷ n 3 (codes "f") ∷ m 4 (codes "(") ∷ m 5 (codes ")") ∷ m 7 (codes "{") ∷ l 9 (codes "'a") ∷ k 12 (codes "loop") ∷ m 17 (codes "{") ∷ m 18 (codes "}") ∷ m 20 (codes "}") ∷ []) ≡ Err (stop.Syntax 4))
unfolding blocks.annotation blocks.let_statement blocks.statements_from blocks.statements blocks.block_of blocks.operand blocks.whole blocks.like blocks.block expressions.chain expressions.call expressions.variant_arguments expressions.input expressions.variant_with expressions.path expressions.field_value expressions.field expressions.struct_literal expressions.print expressions.named expressions.block_value expressions.let_test expressions.test expressions.else_value expressions.conditional expressions.arms_from expressions.arms expressions.match_value expressions.loop_value expressions.while_value expressions.labelled expressions.primary expressions.member expressions.postfix expressions.borrow expressions.borrow_twice expressions.unary expressions.longer expressions.at_strength expressions.return_value expressions.jump expressions.set_or_operand items.derived_name items.derives items.lifetime_parameter items.lifetimes items.bounds_from items.bounds items.bound_lifetime items.bound_lifetimes items.struct_field items.variant items.parameter items.result items.structure items.enumeration items.derived items.function items.rt items.item items.items_from items.file lists.elements_from lists.elements lists.some_elements lists.group numbers.numeral numbers.index_value numbers.number numbers.index operators.operator_at patterns_of.mutable_binding patterns_of.number_pattern patterns_of.negative_pattern patterns_of.variant_pattern patterns_of.long_field patterns_of.short_field patterns_of.field_pattern patterns_of.struct_pattern patterns_of.named_pattern patterns_of.pattern steps.expect steps.sees_word steps.expect_word symbols.keyword symbols.mark symbols.symbol_of symbols.same_symbol types_of.mutability types_of.reference_lifetime types_of.lifetime_argument types_of.named_type types_of.reference types_of.two_references types_of.typ
places_7 = (refl, refl, refl, refl, refl, refl, refl, refl)

places_8 :
    -- fn f() { while { } ‸}
    (items.file 16 (k 0 (codes "fn") ∷ n 3 (codes "f") ∷ m 4 (codes "(") ∷ m 5 (codes ")") ∷ m 7 (codes "{") ∷ k 9 (codes "while") ∷ m 15 (codes "{") ∷ m 17 (codes "}") ∷ m 19 (codes "}") ∷ []) ≡ Err (stop.Syntax 1))
    -- fn f() { loop ‸; }
    × (items.file 16 (k 0 (codes "fn") ∷ n 3 (codes "f") ∷ m 4 (codes "(") ∷ m 5 (codes ")") ∷ m 7 (codes "{") ∷ k 9 (codes "loop") ∷ m 14 (codes ";") ∷ m 16 (codes "}") ∷ []) ≡ Err (stop.Syntax 2))
    -- fn f() { a = ‸= b; }
    × (items.file 16 (k 0 (codes "fn") ∷ n 3 (codes "f") ∷ m 4 (codes "(") ∷ m 5 (codes ")") ∷ m 7 (codes "{") ∷ n 9 (codes "a") ∷ m 11 (codes "=") ∷ m 13 (codes "=") ∷ n 15 (codes "b") ∷ m 16 (codes ";") ∷ m 18 (codes "}") ∷ []) ≡ Err (stop.Syntax 4))
    -- fn f() { return ‸let; }
    × (items.file 16 (k 0 (codes "fn") ∷ n 3 (codes "f") ∷ m 4 (codes "(") ∷ m 5 (codes ")") ∷ m 7 (codes "{") ∷ k 9 (codes "return") ∷ k 16 (codes "let") ∷ m 19 (codes ";") ∷ m 21 (codes "}") ∷ []) ≡ Err (stop.Syntax 3))
    -- fn f() { break 'a ‸'b; }
    × (items.file 16 (k 0 (codes "fn") ∷ n 3 (codes "f") ∷ m 4 (codes "(") ∷ m 5 (codes ")") ∷ m 7 (codes "{") ∷ k 9 (codes "break") ∷ l 15 (codes "'a") ∷ l 18 (codes "'b") ∷ m 20 (codes ";") ∷ m 22 (codes "}") ∷ []) ≡ Err (stop.Syntax 3))
    -- fn f() { (1, ‸, 2) }
    × (items.file 16 (k 0 (codes "fn") ∷ n 3 (codes "f") ∷ m 4 (codes "(") ∷ m 5 (codes ")") ∷ m 7 (codes "{") ∷ m 9 (codes "(") ∷ d 10 (codes "1") ∷ m 11 (codes ",") ∷ m 13 (codes ",") ∷ d 15 (codes "2") ∷ m 16 (codes ")") ∷ m 18 (codes "}") ∷ []) ≡ Err (stop.Syntax 4))
    -- fn f() { -‸; }
    × (items.file 16 (k 0 (codes "fn") ∷ n 3 (codes "f") ∷ m 4 (codes "(") ∷ m 5 (codes ")") ∷ m 7 (codes "{") ∷ m 9 (codes "-") ∷ m 10 (codes ";") ∷ m 12 (codes "}") ∷ []) ≡ Err (stop.Syntax 2))
    -- fn f() { &mut ‸mut x }
    × (items.file 16 (k 0 (codes "fn") ∷ n 3 (codes "f") ∷ m 4 (codes "(") ∷ m 5 (codes ")") ∷ m 7 (codes "{") ∷ m 9 (codes "&") ∷ k 10 (codes "mut") ∷ k 14 (codes "mut") ∷ n 18 (codes "x") ∷ m 20 (codes "}") ∷ []) ≡ Err (stop.Syntax 3))
unfolding blocks.annotation blocks.let_statement blocks.statements_from blocks.statements blocks.block_of blocks.operand blocks.whole blocks.like blocks.block expressions.chain expressions.call expressions.variant_arguments expressions.input expressions.variant_with expressions.path expressions.field_value expressions.field expressions.struct_literal expressions.print expressions.named expressions.block_value expressions.let_test expressions.test expressions.else_value expressions.conditional expressions.arms_from expressions.arms expressions.match_value expressions.loop_value expressions.while_value expressions.labelled expressions.primary expressions.member expressions.postfix expressions.borrow expressions.borrow_twice expressions.unary expressions.longer expressions.at_strength expressions.return_value expressions.jump expressions.set_or_operand items.derived_name items.derives items.lifetime_parameter items.lifetimes items.bounds_from items.bounds items.bound_lifetime items.bound_lifetimes items.struct_field items.variant items.parameter items.result items.structure items.enumeration items.derived items.function items.rt items.item items.items_from items.file lists.elements_from lists.elements lists.some_elements lists.group numbers.numeral numbers.index_value numbers.number numbers.index operators.operator_at patterns_of.mutable_binding patterns_of.number_pattern patterns_of.negative_pattern patterns_of.variant_pattern patterns_of.long_field patterns_of.short_field patterns_of.field_pattern patterns_of.struct_pattern patterns_of.named_pattern patterns_of.pattern steps.expect steps.sees_word steps.expect_word symbols.keyword symbols.mark symbols.symbol_of symbols.same_symbol types_of.mutability types_of.reference_lifetime types_of.lifetime_argument types_of.named_type types_of.reference types_of.two_references types_of.typ
places_8 = (refl, refl, refl, refl, refl, refl, refl, refl)

places_9 :
    -- fn f() { &&‸; }
    (items.file 16 (k 0 (codes "fn") ∷ n 3 (codes "f") ∷ m 4 (codes "(") ∷ m 5 (codes ")") ∷ m 7 (codes "{") ∷ m 9 (codes "&&") ∷ m 11 (codes ";") ∷ m 13 (codes "}") ∷ []) ≡ Err (stop.Syntax 2))
    -- fn f() { x ‸y }
    × (items.file 16 (k 0 (codes "fn") ∷ n 3 (codes "f") ∷ m 4 (codes "(") ∷ m 5 (codes ")") ∷ m 7 (codes "{") ∷ n 9 (codes "x") ∷ n 11 (codes "y") ∷ m 13 (codes "}") ∷ []) ≡ Err (stop.Syntax 2))
    -- fn f() { continue ‸+ 1 }
    × (items.file 16 (k 0 (codes "fn") ∷ n 3 (codes "f") ∷ m 4 (codes "(") ∷ m 5 (codes ")") ∷ m 7 (codes "{") ∷ k 9 (codes "continue") ∷ m 18 (codes "+") ∷ d 20 (codes "1") ∷ m 22 (codes "}") ∷ []) ≡ Err (stop.Syntax 3))
    -- fn
    × (items.file 16 (k 0 (codes "fn") ∷ []) ≡ Err (stop.Syntax 0))
    -- fn f(
    × (items.file 16 (k 0 (codes "fn") ∷ n 3 (codes "f") ∷ m 4 (codes "(") ∷ []) ≡ Err (stop.Syntax 0))
    -- fn f() {
    × (items.file 16 (k 0 (codes "fn") ∷ n 3 (codes "f") ∷ m 4 (codes "(") ∷ m 5 (codes ")") ∷ m 7 (codes "{") ∷ []) ≡ Err (stop.Syntax 0))
    -- fn f(a: (
    × (items.file 16 (k 0 (codes "fn") ∷ n 3 (codes "f") ∷ m 4 (codes "(") ∷ n 5 (codes "a") ∷ m 6 (codes ":") ∷ m 8 (codes "(") ∷ []) ≡ Err (stop.Syntax 0))
    -- fn f() { g(
    × (items.file 16 (k 0 (codes "fn") ∷ n 3 (codes "f") ∷ m 4 (codes "(") ∷ m 5 (codes ")") ∷ m 7 (codes "{") ∷ n 9 (codes "g") ∷ m 10 (codes "(") ∷ []) ≡ Err (stop.Syntax 0))
unfolding blocks.annotation blocks.let_statement blocks.statements_from blocks.statements blocks.block_of blocks.operand blocks.whole blocks.like blocks.block expressions.chain expressions.call expressions.variant_arguments expressions.input expressions.variant_with expressions.path expressions.field_value expressions.field expressions.struct_literal expressions.print expressions.named expressions.block_value expressions.let_test expressions.test expressions.else_value expressions.conditional expressions.arms_from expressions.arms expressions.match_value expressions.loop_value expressions.while_value expressions.labelled expressions.primary expressions.member expressions.postfix expressions.borrow expressions.borrow_twice expressions.unary expressions.longer expressions.at_strength expressions.return_value expressions.jump expressions.set_or_operand items.derived_name items.derives items.lifetime_parameter items.lifetimes items.bounds_from items.bounds items.bound_lifetime items.bound_lifetimes items.struct_field items.variant items.parameter items.result items.structure items.enumeration items.derived items.function items.rt items.item items.items_from items.file lists.elements_from lists.elements lists.some_elements lists.group numbers.numeral numbers.index_value numbers.number numbers.index operators.operator_at patterns_of.mutable_binding patterns_of.number_pattern patterns_of.negative_pattern patterns_of.variant_pattern patterns_of.long_field patterns_of.short_field patterns_of.field_pattern patterns_of.struct_pattern patterns_of.named_pattern patterns_of.pattern steps.expect steps.sees_word steps.expect_word symbols.keyword symbols.mark symbols.symbol_of symbols.same_symbol types_of.mutability types_of.reference_lifetime types_of.lifetime_argument types_of.named_type types_of.reference types_of.two_references types_of.typ
places_9 = (refl, refl, refl, refl, refl, refl, refl, refl)

places_10 :
    -- fn f() { match a {
    (items.file 16 (k 0 (codes "fn") ∷ n 3 (codes "f") ∷ m 4 (codes "(") ∷ m 5 (codes ")") ∷ m 7 (codes "{") ∷ k 9 (codes "match") ∷ n 15 (codes "a") ∷ m 17 (codes "{") ∷ []) ≡ Err (stop.Syntax 0))
    -- fn f() { S { a
    × (items.file 16 (k 0 (codes "fn") ∷ n 3 (codes "f") ∷ m 4 (codes "(") ∷ m 5 (codes ")") ∷ m 7 (codes "{") ∷ n 9 (codes "S") ∷ m 11 (codes "{") ∷ n 13 (codes "a") ∷ []) ≡ Err (stop.Syntax 0))
    -- struct S {
    × (items.file 16 (k 0 (codes "struct") ∷ n 7 (codes "S") ∷ m 9 (codes "{") ∷ []) ≡ Err (stop.Syntax 0))
    -- enum E { A(
    × (items.file 16 (k 0 (codes "enum") ∷ n 5 (codes "E") ∷ m 7 (codes "{") ∷ n 9 (codes "A") ∷ m 10 (codes "(") ∷ []) ≡ Err (stop.Syntax 0))
    -- #[derive(
    × (items.file 16 (m 0 (codes "#") ∷ m 1 (codes "[") ∷ n 2 (codes "derive") ∷ m 8 (codes "(") ∷ []) ≡ Err (stop.Syntax 0))
    -- fn f<
    × (items.file 16 (k 0 (codes "fn") ∷ n 3 (codes "f") ∷ m 4 (codes "<") ∷ []) ≡ Err (stop.Syntax 0))
    -- fn f() { let (a,
    × (items.file 16 (k 0 (codes "fn") ∷ n 3 (codes "f") ∷ m 4 (codes "(") ∷ m 5 (codes ")") ∷ m 7 (codes "{") ∷ k 9 (codes "let") ∷ m 13 (codes "(") ∷ n 14 (codes "a") ∷ m 15 (codes ",") ∷ []) ≡ Err (stop.Syntax 0))
    -- fn f() { (1
    × (items.file 16 (k 0 (codes "fn") ∷ n 3 (codes "f") ∷ m 4 (codes "(") ∷ m 5 (codes ")") ∷ m 7 (codes "{") ∷ m 9 (codes "(") ∷ d 10 (codes "1") ∷ []) ≡ Err (stop.Syntax 0))
unfolding blocks.annotation blocks.let_statement blocks.statements_from blocks.statements blocks.block_of blocks.operand blocks.whole blocks.like blocks.block expressions.chain expressions.call expressions.variant_arguments expressions.input expressions.variant_with expressions.path expressions.field_value expressions.field expressions.struct_literal expressions.print expressions.named expressions.block_value expressions.let_test expressions.test expressions.else_value expressions.conditional expressions.arms_from expressions.arms expressions.match_value expressions.loop_value expressions.while_value expressions.labelled expressions.primary expressions.member expressions.postfix expressions.borrow expressions.borrow_twice expressions.unary expressions.longer expressions.at_strength expressions.return_value expressions.jump expressions.set_or_operand items.derived_name items.derives items.lifetime_parameter items.lifetimes items.bounds_from items.bounds items.bound_lifetime items.bound_lifetimes items.struct_field items.variant items.parameter items.result items.structure items.enumeration items.derived items.function items.rt items.item items.items_from items.file lists.elements_from lists.elements lists.some_elements lists.group numbers.numeral numbers.index_value numbers.number numbers.index operators.operator_at patterns_of.mutable_binding patterns_of.number_pattern patterns_of.negative_pattern patterns_of.variant_pattern patterns_of.long_field patterns_of.short_field patterns_of.field_pattern patterns_of.struct_pattern patterns_of.named_pattern patterns_of.pattern steps.expect steps.sees_word steps.expect_word symbols.keyword symbols.mark symbols.symbol_of symbols.same_symbol types_of.mutability types_of.reference_lifetime types_of.lifetime_argument types_of.named_type types_of.reference types_of.two_references types_of.typ
places_10 = (refl, refl, refl, refl, refl, refl, refl, refl)

places_11 :
    -- fn f() { println!("{}", x
    (items.file 16 (k 0 (codes "fn") ∷ n 3 (codes "f") ∷ m 4 (codes "(") ∷ m 5 (codes ")") ∷ m 7 (codes "{") ∷ n 9 (codes "println") ∷ m 16 (codes "!") ∷ m 17 (codes "(") ∷ f 18 ∷ m 22 (codes ",") ∷ n 24 (codes "x") ∷ []) ≡ Err (stop.Syntax 0))
    -- fn f() { 'a:
    × (items.file 16 (k 0 (codes "fn") ∷ n 3 (codes "f") ∷ m 4 (codes "(") ∷ m 5 (codes ")") ∷ m 7 (codes "{") ∷ l 9 (codes "'a") ∷ m 11 (codes ":") ∷ []) ≡ Err (stop.Syntax 0))
    -- fn f(a: ‸u8) {}
    × (items.file 0 (k 0 (codes "fn") ∷ n 3 (codes "f") ∷ m 4 (codes "(") ∷ n 5 (codes "a") ∷ m 6 (codes ":") ∷ k 8 (codes "u8") ∷ m 10 (codes ")") ∷ m 12 (codes "{") ∷ m 13 (codes "}") ∷ []) ≡ Err (stop.TooDeep 4)) × (levels_of (items.file 1 (k 0 (codes "fn") ∷ n 3 (codes "f") ∷ m 4 (codes "(") ∷ n 5 (codes "a") ∷ m 6 (codes ":") ∷ k 8 (codes "u8") ∷ m 10 (codes ")") ∷ m 12 (codes "{") ∷ m 13 (codes "}") ∷ [])) ≡ Some 1)
    -- fn f(a: ‸&u8) {}
    × (items.file 1 (k 0 (codes "fn") ∷ n 3 (codes "f") ∷ m 4 (codes "(") ∷ n 5 (codes "a") ∷ m 6 (codes ":") ∷ m 8 (codes "&") ∷ k 9 (codes "u8") ∷ m 11 (codes ")") ∷ m 13 (codes "{") ∷ m 14 (codes "}") ∷ []) ≡ Err (stop.TooDeep 5)) × (levels_of (items.file 2 (k 0 (codes "fn") ∷ n 3 (codes "f") ∷ m 4 (codes "(") ∷ n 5 (codes "a") ∷ m 6 (codes ":") ∷ m 8 (codes "&") ∷ k 9 (codes "u8") ∷ m 11 (codes ")") ∷ m 13 (codes "{") ∷ m 14 (codes "}") ∷ [])) ≡ Some 2)
    -- fn f(a: (‸u8)) {}
    × (items.file 1 (k 0 (codes "fn") ∷ n 3 (codes "f") ∷ m 4 (codes "(") ∷ n 5 (codes "a") ∷ m 6 (codes ":") ∷ m 8 (codes "(") ∷ k 9 (codes "u8") ∷ m 11 (codes ")") ∷ m 12 (codes ")") ∷ m 14 (codes "{") ∷ m 15 (codes "}") ∷ []) ≡ Err (stop.TooDeep 5)) × (levels_of (items.file 2 (k 0 (codes "fn") ∷ n 3 (codes "f") ∷ m 4 (codes "(") ∷ n 5 (codes "a") ∷ m 6 (codes ":") ∷ m 8 (codes "(") ∷ k 9 (codes "u8") ∷ m 11 (codes ")") ∷ m 12 (codes ")") ∷ m 14 (codes "{") ∷ m 15 (codes "}") ∷ [])) ≡ Some 2)
    -- fn f(a: ‸&&u8) {}
    × (items.file 1 (k 0 (codes "fn") ∷ n 3 (codes "f") ∷ m 4 (codes "(") ∷ n 5 (codes "a") ∷ m 6 (codes ":") ∷ m 8 (codes "&&") ∷ k 10 (codes "u8") ∷ m 12 (codes ")") ∷ m 14 (codes "{") ∷ m 15 (codes "}") ∷ []) ≡ Err (stop.TooDeep 5))
    -- fn f(a: ‸&&u8) {}
    × (items.file 2 (k 0 (codes "fn") ∷ n 3 (codes "f") ∷ m 4 (codes "(") ∷ n 5 (codes "a") ∷ m 6 (codes ":") ∷ m 8 (codes "&&") ∷ k 10 (codes "u8") ∷ m 12 (codes ")") ∷ m 14 (codes "{") ∷ m 15 (codes "}") ∷ []) ≡ Err (stop.TooDeep 5)) × (levels_of (items.file 3 (k 0 (codes "fn") ∷ n 3 (codes "f") ∷ m 4 (codes "(") ∷ n 5 (codes "a") ∷ m 6 (codes ":") ∷ m 8 (codes "&&") ∷ k 10 (codes "u8") ∷ m 12 (codes ")") ∷ m 14 (codes "{") ∷ m 15 (codes "}") ∷ [])) ≡ Some 3)
    -- fn f() ‸{ }
    × (items.file 0 (k 0 (codes "fn") ∷ n 3 (codes "f") ∷ m 4 (codes "(") ∷ m 5 (codes ")") ∷ m 7 (codes "{") ∷ m 9 (codes "}") ∷ []) ≡ Err (stop.TooDeep 2)) × (levels_of (items.file 1 (k 0 (codes "fn") ∷ n 3 (codes "f") ∷ m 4 (codes "(") ∷ m 5 (codes ")") ∷ m 7 (codes "{") ∷ m 9 (codes "}") ∷ [])) ≡ Some 1)
unfolding blocks.annotation blocks.let_statement blocks.statements_from blocks.statements blocks.block_of blocks.operand blocks.whole blocks.like blocks.block expressions.chain expressions.call expressions.variant_arguments expressions.input expressions.variant_with expressions.path expressions.field_value expressions.field expressions.struct_literal expressions.print expressions.named expressions.block_value expressions.let_test expressions.test expressions.else_value expressions.conditional expressions.arms_from expressions.arms expressions.match_value expressions.loop_value expressions.while_value expressions.labelled expressions.primary expressions.member expressions.postfix expressions.borrow expressions.borrow_twice expressions.unary expressions.longer expressions.at_strength expressions.return_value expressions.jump expressions.set_or_operand items.derived_name items.derives items.lifetime_parameter items.lifetimes items.bounds_from items.bounds items.bound_lifetime items.bound_lifetimes items.struct_field items.variant items.parameter items.result items.structure items.enumeration items.derived items.function items.rt items.item items.items_from items.file lists.elements_from lists.elements lists.some_elements lists.group numbers.numeral numbers.index_value numbers.number numbers.index operators.operator_at patterns_of.mutable_binding patterns_of.number_pattern patterns_of.negative_pattern patterns_of.variant_pattern patterns_of.long_field patterns_of.short_field patterns_of.field_pattern patterns_of.struct_pattern patterns_of.named_pattern patterns_of.pattern steps.expect steps.sees_word steps.expect_word symbols.keyword symbols.mark symbols.symbol_of symbols.same_symbol types_of.mutability types_of.reference_lifetime types_of.lifetime_argument types_of.named_type types_of.reference types_of.two_references types_of.typ
places_11 = (refl, refl, refl, refl, refl, refl, refl, refl, refl, refl, refl, refl, refl)

places_12 :
    -- struct S { a: ‸u8 }
    (items.file 0 (k 0 (codes "struct") ∷ n 7 (codes "S") ∷ m 9 (codes "{") ∷ n 11 (codes "a") ∷ m 12 (codes ":") ∷ k 14 (codes "u8") ∷ m 17 (codes "}") ∷ []) ≡ Err (stop.TooDeep 2)) × (levels_of (items.file 1 (k 0 (codes "struct") ∷ n 7 (codes "S") ∷ m 9 (codes "{") ∷ n 11 (codes "a") ∷ m 12 (codes ":") ∷ k 14 (codes "u8") ∷ m 17 (codes "}") ∷ [])) ≡ Some 1)
    -- enum E { A(‸u8) }
    × (items.file 0 (k 0 (codes "enum") ∷ n 5 (codes "E") ∷ m 7 (codes "{") ∷ n 9 (codes "A") ∷ m 10 (codes "(") ∷ k 11 (codes "u8") ∷ m 13 (codes ")") ∷ m 15 (codes "}") ∷ []) ≡ Err (stop.TooDeep 3)) × (levels_of (items.file 1 (k 0 (codes "enum") ∷ n 5 (codes "E") ∷ m 7 (codes "{") ∷ n 9 (codes "A") ∷ m 10 (codes "(") ∷ k 11 (codes "u8") ∷ m 13 (codes ")") ∷ m 15 (codes "}") ∷ [])) ≡ Some 1)
    -- fn f() { ‸let x = 1; }
    × (items.file 1 (k 0 (codes "fn") ∷ n 3 (codes "f") ∷ m 4 (codes "(") ∷ m 5 (codes ")") ∷ m 7 (codes "{") ∷ k 9 (codes "let") ∷ n 13 (codes "x") ∷ m 15 (codes "=") ∷ d 17 (codes "1") ∷ m 18 (codes ";") ∷ m 20 (codes "}") ∷ []) ≡ Err (stop.TooDeep 6)) × (levels_of (items.file 2 (k 0 (codes "fn") ∷ n 3 (codes "f") ∷ m 4 (codes "(") ∷ m 5 (codes ")") ∷ m 7 (codes "{") ∷ k 9 (codes "let") ∷ n 13 (codes "x") ∷ m 15 (codes "=") ∷ d 17 (codes "1") ∷ m 18 (codes ";") ∷ m 20 (codes "}") ∷ [])) ≡ Some 2)
    -- fn f() { let (‸a) = x; }
    × (items.file 2 (k 0 (codes "fn") ∷ n 3 (codes "f") ∷ m 4 (codes "(") ∷ m 5 (codes ")") ∷ m 7 (codes "{") ∷ k 9 (codes "let") ∷ m 13 (codes "(") ∷ n 14 (codes "a") ∷ m 15 (codes ")") ∷ m 17 (codes "=") ∷ n 19 (codes "x") ∷ m 20 (codes ";") ∷ m 22 (codes "}") ∷ []) ≡ Err (stop.TooDeep 6)) × (levels_of (items.file 3 (k 0 (codes "fn") ∷ n 3 (codes "f") ∷ m 4 (codes "(") ∷ m 5 (codes ")") ∷ m 7 (codes "{") ∷ k 9 (codes "let") ∷ m 13 (codes "(") ∷ n 14 (codes "a") ∷ m 15 (codes ")") ∷ m 17 (codes "=") ∷ n 19 (codes "x") ∷ m 20 (codes ";") ∷ m 22 (codes "}") ∷ [])) ≡ Some 3)
    -- fn f() { let S { ‸a } = x; }
    × (items.file 2 (k 0 (codes "fn") ∷ n 3 (codes "f") ∷ m 4 (codes "(") ∷ m 5 (codes ")") ∷ m 7 (codes "{") ∷ k 9 (codes "let") ∷ n 13 (codes "S") ∷ m 15 (codes "{") ∷ n 17 (codes "a") ∷ m 19 (codes "}") ∷ m 21 (codes "=") ∷ n 23 (codes "x") ∷ m 24 (codes ";") ∷ m 26 (codes "}") ∷ []) ≡ Err (stop.TooDeep 6)) × (levels_of (items.file 3 (k 0 (codes "fn") ∷ n 3 (codes "f") ∷ m 4 (codes "(") ∷ m 5 (codes ")") ∷ m 7 (codes "{") ∷ k 9 (codes "let") ∷ n 13 (codes "S") ∷ m 15 (codes "{") ∷ n 17 (codes "a") ∷ m 19 (codes "}") ∷ m 21 (codes "=") ∷ n 23 (codes "x") ∷ m 24 (codes ";") ∷ m 26 (codes "}") ∷ [])) ≡ Some 3)
    -- fn f() { let S { ‸mut a } = x; }
    × (items.file 2 (k 0 (codes "fn") ∷ n 3 (codes "f") ∷ m 4 (codes "(") ∷ m 5 (codes ")") ∷ m 7 (codes "{") ∷ k 9 (codes "let") ∷ n 13 (codes "S") ∷ m 15 (codes "{") ∷ k 17 (codes "mut") ∷ n 21 (codes "a") ∷ m 23 (codes "}") ∷ m 25 (codes "=") ∷ n 27 (codes "x") ∷ m 28 (codes ";") ∷ m 30 (codes "}") ∷ []) ≡ Err (stop.TooDeep 7)) × (levels_of (items.file 3 (k 0 (codes "fn") ∷ n 3 (codes "f") ∷ m 4 (codes "(") ∷ m 5 (codes ")") ∷ m 7 (codes "{") ∷ k 9 (codes "let") ∷ n 13 (codes "S") ∷ m 15 (codes "{") ∷ k 17 (codes "mut") ∷ n 21 (codes "a") ∷ m 23 (codes "}") ∷ m 25 (codes "=") ∷ n 27 (codes "x") ∷ m 28 (codes ";") ∷ m 30 (codes "}") ∷ [])) ≡ Some 3)
    -- fn f() { let E::V‸(a) = x; }
    × (items.file 2 (k 0 (codes "fn") ∷ n 3 (codes "f") ∷ m 4 (codes "(") ∷ m 5 (codes ")") ∷ m 7 (codes "{") ∷ k 9 (codes "let") ∷ n 13 (codes "E") ∷ m 14 (codes "::") ∷ n 16 (codes "V") ∷ m 17 (codes "(") ∷ n 18 (codes "a") ∷ m 19 (codes ")") ∷ m 21 (codes "=") ∷ n 23 (codes "x") ∷ m 24 (codes ";") ∷ m 26 (codes "}") ∷ []) ≡ Err (stop.TooDeep 7)) × (levels_of (items.file 3 (k 0 (codes "fn") ∷ n 3 (codes "f") ∷ m 4 (codes "(") ∷ m 5 (codes ")") ∷ m 7 (codes "{") ∷ k 9 (codes "let") ∷ n 13 (codes "E") ∷ m 14 (codes "::") ∷ n 16 (codes "V") ∷ m 17 (codes "(") ∷ n 18 (codes "a") ∷ m 19 (codes ")") ∷ m 21 (codes "=") ∷ n 23 (codes "x") ∷ m 24 (codes ";") ∷ m 26 (codes "}") ∷ [])) ≡ Some 3)
    -- fn f() { ‸1 }
    × (items.file 1 (k 0 (codes "fn") ∷ n 3 (codes "f") ∷ m 4 (codes "(") ∷ m 5 (codes ")") ∷ m 7 (codes "{") ∷ d 9 (codes "1") ∷ m 11 (codes "}") ∷ []) ≡ Err (stop.TooDeep 2)) × (levels_of (items.file 2 (k 0 (codes "fn") ∷ n 3 (codes "f") ∷ m 4 (codes "(") ∷ m 5 (codes ")") ∷ m 7 (codes "{") ∷ d 9 (codes "1") ∷ m 11 (codes "}") ∷ [])) ≡ Some 2)
unfolding blocks.annotation blocks.let_statement blocks.statements_from blocks.statements blocks.block_of blocks.operand blocks.whole blocks.like blocks.block expressions.chain expressions.call expressions.variant_arguments expressions.input expressions.variant_with expressions.path expressions.field_value expressions.field expressions.struct_literal expressions.print expressions.named expressions.block_value expressions.let_test expressions.test expressions.else_value expressions.conditional expressions.arms_from expressions.arms expressions.match_value expressions.loop_value expressions.while_value expressions.labelled expressions.primary expressions.member expressions.postfix expressions.borrow expressions.borrow_twice expressions.unary expressions.longer expressions.at_strength expressions.return_value expressions.jump expressions.set_or_operand items.derived_name items.derives items.lifetime_parameter items.lifetimes items.bounds_from items.bounds items.bound_lifetime items.bound_lifetimes items.struct_field items.variant items.parameter items.result items.structure items.enumeration items.derived items.function items.rt items.item items.items_from items.file lists.elements_from lists.elements lists.some_elements lists.group numbers.numeral numbers.index_value numbers.number numbers.index operators.operator_at patterns_of.mutable_binding patterns_of.number_pattern patterns_of.negative_pattern patterns_of.variant_pattern patterns_of.long_field patterns_of.short_field patterns_of.field_pattern patterns_of.struct_pattern patterns_of.named_pattern patterns_of.pattern steps.expect steps.sees_word steps.expect_word symbols.keyword symbols.mark symbols.symbol_of symbols.same_symbol types_of.mutability types_of.reference_lifetime types_of.lifetime_argument types_of.named_type types_of.reference types_of.two_references types_of.typ
places_12 = (refl, refl, refl, refl, refl, refl, refl, refl, refl, refl, refl, refl, refl, refl, refl, refl)

places_13 :
    -- fn f() { ‸return }
    (items.file 1 (k 0 (codes "fn") ∷ n 3 (codes "f") ∷ m 4 (codes "(") ∷ m 5 (codes ")") ∷ m 7 (codes "{") ∷ k 9 (codes "return") ∷ m 16 (codes "}") ∷ []) ≡ Err (stop.TooDeep 2)) × (levels_of (items.file 2 (k 0 (codes "fn") ∷ n 3 (codes "f") ∷ m 4 (codes "(") ∷ m 5 (codes ")") ∷ m 7 (codes "{") ∷ k 9 (codes "return") ∷ m 16 (codes "}") ∷ [])) ≡ Some 2)
    -- fn f() { (‸1) }
    × (items.file 2 (k 0 (codes "fn") ∷ n 3 (codes "f") ∷ m 4 (codes "(") ∷ m 5 (codes ")") ∷ m 7 (codes "{") ∷ m 9 (codes "(") ∷ d 10 (codes "1") ∷ m 11 (codes ")") ∷ m 13 (codes "}") ∷ []) ≡ Err (stop.TooDeep 3)) × (levels_of (items.file 3 (k 0 (codes "fn") ∷ n 3 (codes "f") ∷ m 4 (codes "(") ∷ m 5 (codes ")") ∷ m 7 (codes "{") ∷ m 9 (codes "(") ∷ d 10 (codes "1") ∷ m 11 (codes ")") ∷ m 13 (codes "}") ∷ [])) ≡ Some 3)
    -- fn f() { ‸-1 }
    × (items.file 2 (k 0 (codes "fn") ∷ n 3 (codes "f") ∷ m 4 (codes "(") ∷ m 5 (codes ")") ∷ m 7 (codes "{") ∷ m 9 (codes "-") ∷ d 10 (codes "1") ∷ m 12 (codes "}") ∷ []) ≡ Err (stop.TooDeep 3)) × (levels_of (items.file 3 (k 0 (codes "fn") ∷ n 3 (codes "f") ∷ m 4 (codes "(") ∷ m 5 (codes ")") ∷ m 7 (codes "{") ∷ m 9 (codes "-") ∷ d 10 (codes "1") ∷ m 12 (codes "}") ∷ [])) ≡ Some 3)
    -- fn f() { ‸!x }
    × (items.file 2 (k 0 (codes "fn") ∷ n 3 (codes "f") ∷ m 4 (codes "(") ∷ m 5 (codes ")") ∷ m 7 (codes "{") ∷ m 9 (codes "!") ∷ n 10 (codes "x") ∷ m 12 (codes "}") ∷ []) ≡ Err (stop.TooDeep 3)) × (levels_of (items.file 3 (k 0 (codes "fn") ∷ n 3 (codes "f") ∷ m 4 (codes "(") ∷ m 5 (codes ")") ∷ m 7 (codes "{") ∷ m 9 (codes "!") ∷ n 10 (codes "x") ∷ m 12 (codes "}") ∷ [])) ≡ Some 3)
    -- fn f() { ‸*x }
    × (items.file 2 (k 0 (codes "fn") ∷ n 3 (codes "f") ∷ m 4 (codes "(") ∷ m 5 (codes ")") ∷ m 7 (codes "{") ∷ m 9 (codes "*") ∷ n 10 (codes "x") ∷ m 12 (codes "}") ∷ []) ≡ Err (stop.TooDeep 3)) × (levels_of (items.file 3 (k 0 (codes "fn") ∷ n 3 (codes "f") ∷ m 4 (codes "(") ∷ m 5 (codes ")") ∷ m 7 (codes "{") ∷ m 9 (codes "*") ∷ n 10 (codes "x") ∷ m 12 (codes "}") ∷ [])) ≡ Some 3)
    -- fn f() { ‸&x }
    × (items.file 2 (k 0 (codes "fn") ∷ n 3 (codes "f") ∷ m 4 (codes "(") ∷ m 5 (codes ")") ∷ m 7 (codes "{") ∷ m 9 (codes "&") ∷ n 10 (codes "x") ∷ m 12 (codes "}") ∷ []) ≡ Err (stop.TooDeep 3)) × (levels_of (items.file 3 (k 0 (codes "fn") ∷ n 3 (codes "f") ∷ m 4 (codes "(") ∷ m 5 (codes ")") ∷ m 7 (codes "{") ∷ m 9 (codes "&") ∷ n 10 (codes "x") ∷ m 12 (codes "}") ∷ [])) ≡ Some 3)
    -- fn f() { ‸&&x }
    × (items.file 2 (k 0 (codes "fn") ∷ n 3 (codes "f") ∷ m 4 (codes "(") ∷ m 5 (codes ")") ∷ m 7 (codes "{") ∷ m 9 (codes "&&") ∷ n 11 (codes "x") ∷ m 13 (codes "}") ∷ []) ≡ Err (stop.TooDeep 3))
    -- fn f() { ‸&&x }
    × (items.file 3 (k 0 (codes "fn") ∷ n 3 (codes "f") ∷ m 4 (codes "(") ∷ m 5 (codes ")") ∷ m 7 (codes "{") ∷ m 9 (codes "&&") ∷ n 11 (codes "x") ∷ m 13 (codes "}") ∷ []) ≡ Err (stop.TooDeep 3)) × (levels_of (items.file 4 (k 0 (codes "fn") ∷ n 3 (codes "f") ∷ m 4 (codes "(") ∷ m 5 (codes ")") ∷ m 7 (codes "{") ∷ m 9 (codes "&&") ∷ n 11 (codes "x") ∷ m 13 (codes "}") ∷ [])) ≡ Some 4)
unfolding blocks.annotation blocks.let_statement blocks.statements_from blocks.statements blocks.block_of blocks.operand blocks.whole blocks.like blocks.block expressions.chain expressions.call expressions.variant_arguments expressions.input expressions.variant_with expressions.path expressions.field_value expressions.field expressions.struct_literal expressions.print expressions.named expressions.block_value expressions.let_test expressions.test expressions.else_value expressions.conditional expressions.arms_from expressions.arms expressions.match_value expressions.loop_value expressions.while_value expressions.labelled expressions.primary expressions.member expressions.postfix expressions.borrow expressions.borrow_twice expressions.unary expressions.longer expressions.at_strength expressions.return_value expressions.jump expressions.set_or_operand items.derived_name items.derives items.lifetime_parameter items.lifetimes items.bounds_from items.bounds items.bound_lifetime items.bound_lifetimes items.struct_field items.variant items.parameter items.result items.structure items.enumeration items.derived items.function items.rt items.item items.items_from items.file lists.elements_from lists.elements lists.some_elements lists.group numbers.numeral numbers.index_value numbers.number numbers.index operators.operator_at patterns_of.mutable_binding patterns_of.number_pattern patterns_of.negative_pattern patterns_of.variant_pattern patterns_of.long_field patterns_of.short_field patterns_of.field_pattern patterns_of.struct_pattern patterns_of.named_pattern patterns_of.pattern steps.expect steps.sees_word steps.expect_word symbols.keyword symbols.mark symbols.symbol_of symbols.same_symbol types_of.mutability types_of.reference_lifetime types_of.lifetime_argument types_of.named_type types_of.reference types_of.two_references types_of.typ
places_13 = (refl, refl, refl, refl, refl, refl, refl, refl, refl, refl, refl, refl, refl, refl, refl)

places_14 :
    -- fn f() { 1 ‸+ 2 }
    (items.file 2 (k 0 (codes "fn") ∷ n 3 (codes "f") ∷ m 4 (codes "(") ∷ m 5 (codes ")") ∷ m 7 (codes "{") ∷ d 9 (codes "1") ∷ m 11 (codes "+") ∷ d 13 (codes "2") ∷ m 15 (codes "}") ∷ []) ≡ Err (stop.TooDeep 3)) × (levels_of (items.file 3 (k 0 (codes "fn") ∷ n 3 (codes "f") ∷ m 4 (codes "(") ∷ m 5 (codes ")") ∷ m 7 (codes "{") ∷ d 9 (codes "1") ∷ m 11 (codes "+") ∷ d 13 (codes "2") ∷ m 15 (codes "}") ∷ [])) ≡ Some 3)
    -- fn f() { 1 + 2 ‸+ 3 }
    × (items.file 3 (k 0 (codes "fn") ∷ n 3 (codes "f") ∷ m 4 (codes "(") ∷ m 5 (codes ")") ∷ m 7 (codes "{") ∷ d 9 (codes "1") ∷ m 11 (codes "+") ∷ d 13 (codes "2") ∷ m 15 (codes "+") ∷ d 17 (codes "3") ∷ m 19 (codes "}") ∷ []) ≡ Err (stop.TooDeep 3)) × (levels_of (items.file 4 (k 0 (codes "fn") ∷ n 3 (codes "f") ∷ m 4 (codes "(") ∷ m 5 (codes ")") ∷ m 7 (codes "{") ∷ d 9 (codes "1") ∷ m 11 (codes "+") ∷ d 13 (codes "2") ∷ m 15 (codes "+") ∷ d 17 (codes "3") ∷ m 19 (codes "}") ∷ [])) ≡ Some 4)
    -- fn f() { x‸.a }
    × (items.file 2 (k 0 (codes "fn") ∷ n 3 (codes "f") ∷ m 4 (codes "(") ∷ m 5 (codes ")") ∷ m 7 (codes "{") ∷ n 9 (codes "x") ∷ m 10 (codes ".") ∷ n 11 (codes "a") ∷ m 13 (codes "}") ∷ []) ≡ Err (stop.TooDeep 3)) × (levels_of (items.file 3 (k 0 (codes "fn") ∷ n 3 (codes "f") ∷ m 4 (codes "(") ∷ m 5 (codes ")") ∷ m 7 (codes "{") ∷ n 9 (codes "x") ∷ m 10 (codes ".") ∷ n 11 (codes "a") ∷ m 13 (codes "}") ∷ [])) ≡ Some 3)
    -- fn f() { x ‸= 1 }
    × (items.file 2 (k 0 (codes "fn") ∷ n 3 (codes "f") ∷ m 4 (codes "(") ∷ m 5 (codes ")") ∷ m 7 (codes "{") ∷ n 9 (codes "x") ∷ m 11 (codes "=") ∷ d 13 (codes "1") ∷ m 15 (codes "}") ∷ []) ≡ Err (stop.TooDeep 3)) × (levels_of (items.file 3 (k 0 (codes "fn") ∷ n 3 (codes "f") ∷ m 4 (codes "(") ∷ m 5 (codes ")") ∷ m 7 (codes "{") ∷ n 9 (codes "x") ∷ m 11 (codes "=") ∷ d 13 (codes "1") ∷ m 15 (codes "}") ∷ [])) ≡ Some 3)
    -- fn f() { x ‸+= 1 }
    × (items.file 2 (k 0 (codes "fn") ∷ n 3 (codes "f") ∷ m 4 (codes "(") ∷ m 5 (codes ")") ∷ m 7 (codes "{") ∷ n 9 (codes "x") ∷ m 11 (codes "+=") ∷ d 14 (codes "1") ∷ m 16 (codes "}") ∷ []) ≡ Err (stop.TooDeep 3)) × (levels_of (items.file 3 (k 0 (codes "fn") ∷ n 3 (codes "f") ∷ m 4 (codes "(") ∷ m 5 (codes ")") ∷ m 7 (codes "{") ∷ n 9 (codes "x") ∷ m 11 (codes "+=") ∷ d 14 (codes "1") ∷ m 16 (codes "}") ∷ [])) ≡ Some 3)
    -- fn f() { E::V‸(1) }
    × (items.file 2 (k 0 (codes "fn") ∷ n 3 (codes "f") ∷ m 4 (codes "(") ∷ m 5 (codes ")") ∷ m 7 (codes "{") ∷ n 9 (codes "E") ∷ m 10 (codes "::") ∷ n 12 (codes "V") ∷ m 13 (codes "(") ∷ d 14 (codes "1") ∷ m 15 (codes ")") ∷ m 17 (codes "}") ∷ []) ≡ Err (stop.TooDeep 4)) × (levels_of (items.file 3 (k 0 (codes "fn") ∷ n 3 (codes "f") ∷ m 4 (codes "(") ∷ m 5 (codes ")") ∷ m 7 (codes "{") ∷ n 9 (codes "E") ∷ m 10 (codes "::") ∷ n 12 (codes "V") ∷ m 13 (codes "(") ∷ d 14 (codes "1") ∷ m 15 (codes ")") ∷ m 17 (codes "}") ∷ [])) ≡ Some 3)
    -- fn f() { rt::next(‸1) }
    × (items.file 2 (k 0 (codes "fn") ∷ n 3 (codes "f") ∷ m 4 (codes "(") ∷ m 5 (codes ")") ∷ m 7 (codes "{") ∷ n 9 (codes "rt") ∷ m 11 (codes "::") ∷ n 13 (codes "next") ∷ m 17 (codes "(") ∷ d 18 (codes "1") ∷ m 19 (codes ")") ∷ m 21 (codes "}") ∷ []) ≡ Err (stop.TooDeep 3)) × (levels_of (items.file 3 (k 0 (codes "fn") ∷ n 3 (codes "f") ∷ m 4 (codes "(") ∷ m 5 (codes ")") ∷ m 7 (codes "{") ∷ n 9 (codes "rt") ∷ m 11 (codes "::") ∷ n 13 (codes "next") ∷ m 17 (codes "(") ∷ d 18 (codes "1") ∷ m 19 (codes ")") ∷ m 21 (codes "}") ∷ [])) ≡ Some 3)
    -- fn f() { S { ‸a: 1 } }
    × (items.file 2 (k 0 (codes "fn") ∷ n 3 (codes "f") ∷ m 4 (codes "(") ∷ m 5 (codes ")") ∷ m 7 (codes "{") ∷ n 9 (codes "S") ∷ m 11 (codes "{") ∷ n 13 (codes "a") ∷ m 14 (codes ":") ∷ d 16 (codes "1") ∷ m 18 (codes "}") ∷ m 20 (codes "}") ∷ []) ≡ Err (stop.TooDeep 5)) × (levels_of (items.file 3 (k 0 (codes "fn") ∷ n 3 (codes "f") ∷ m 4 (codes "(") ∷ m 5 (codes ")") ∷ m 7 (codes "{") ∷ n 9 (codes "S") ∷ m 11 (codes "{") ∷ n 13 (codes "a") ∷ m 14 (codes ":") ∷ d 16 (codes "1") ∷ m 18 (codes "}") ∷ m 20 (codes "}") ∷ [])) ≡ Some 3)
unfolding blocks.annotation blocks.let_statement blocks.statements_from blocks.statements blocks.block_of blocks.operand blocks.whole blocks.like blocks.block expressions.chain expressions.call expressions.variant_arguments expressions.input expressions.variant_with expressions.path expressions.field_value expressions.field expressions.struct_literal expressions.print expressions.named expressions.block_value expressions.let_test expressions.test expressions.else_value expressions.conditional expressions.arms_from expressions.arms expressions.match_value expressions.loop_value expressions.while_value expressions.labelled expressions.primary expressions.member expressions.postfix expressions.borrow expressions.borrow_twice expressions.unary expressions.longer expressions.at_strength expressions.return_value expressions.jump expressions.set_or_operand items.derived_name items.derives items.lifetime_parameter items.lifetimes items.bounds_from items.bounds items.bound_lifetime items.bound_lifetimes items.struct_field items.variant items.parameter items.result items.structure items.enumeration items.derived items.function items.rt items.item items.items_from items.file lists.elements_from lists.elements lists.some_elements lists.group numbers.numeral numbers.index_value numbers.number numbers.index operators.operator_at patterns_of.mutable_binding patterns_of.number_pattern patterns_of.negative_pattern patterns_of.variant_pattern patterns_of.long_field patterns_of.short_field patterns_of.field_pattern patterns_of.struct_pattern patterns_of.named_pattern patterns_of.pattern steps.expect steps.sees_word steps.expect_word symbols.keyword symbols.mark symbols.symbol_of symbols.same_symbol types_of.mutability types_of.reference_lifetime types_of.lifetime_argument types_of.named_type types_of.reference types_of.two_references types_of.typ
places_14 = (refl, refl, refl, refl, refl, refl, refl, refl, refl, refl, refl, refl, refl, refl, refl, refl)

places_15 :
    -- fn f() { g(‸1) }
    (items.file 2 (k 0 (codes "fn") ∷ n 3 (codes "f") ∷ m 4 (codes "(") ∷ m 5 (codes ")") ∷ m 7 (codes "{") ∷ n 9 (codes "g") ∷ m 10 (codes "(") ∷ d 11 (codes "1") ∷ m 12 (codes ")") ∷ m 14 (codes "}") ∷ []) ≡ Err (stop.TooDeep 3)) × (levels_of (items.file 3 (k 0 (codes "fn") ∷ n 3 (codes "f") ∷ m 4 (codes "(") ∷ m 5 (codes ")") ∷ m 7 (codes "{") ∷ n 9 (codes "g") ∷ m 10 (codes "(") ∷ d 11 (codes "1") ∷ m 12 (codes ")") ∷ m 14 (codes "}") ∷ [])) ≡ Some 3)
    -- fn f() { println‸!("{}", 1) }
    × (items.file 2 (k 0 (codes "fn") ∷ n 3 (codes "f") ∷ m 4 (codes "(") ∷ m 5 (codes ")") ∷ m 7 (codes "{") ∷ n 9 (codes "println") ∷ m 16 (codes "!") ∷ m 17 (codes "(") ∷ f 18 ∷ m 22 (codes ",") ∷ d 24 (codes "1") ∷ m 25 (codes ")") ∷ m 27 (codes "}") ∷ []) ≡ Err (stop.TooDeep 7)) × (levels_of (items.file 3 (k 0 (codes "fn") ∷ n 3 (codes "f") ∷ m 4 (codes "(") ∷ m 5 (codes ")") ∷ m 7 (codes "{") ∷ n 9 (codes "println") ∷ m 16 (codes "!") ∷ m 17 (codes "(") ∷ f 18 ∷ m 22 (codes ",") ∷ d 24 (codes "1") ∷ m 25 (codes ")") ∷ m 27 (codes "}") ∷ [])) ≡ Some 3)
    -- fn f() { return ‸1 }
    × (items.file 2 (k 0 (codes "fn") ∷ n 3 (codes "f") ∷ m 4 (codes "(") ∷ m 5 (codes ")") ∷ m 7 (codes "{") ∷ k 9 (codes "return") ∷ d 16 (codes "1") ∷ m 18 (codes "}") ∷ []) ≡ Err (stop.TooDeep 2)) × (levels_of (items.file 3 (k 0 (codes "fn") ∷ n 3 (codes "f") ∷ m 4 (codes "(") ∷ m 5 (codes ")") ∷ m 7 (codes "{") ∷ k 9 (codes "return") ∷ d 16 (codes "1") ∷ m 18 (codes "}") ∷ [])) ≡ Some 3)
    -- fn f() { ‸{ } }
    × (items.file 1 (k 0 (codes "fn") ∷ n 3 (codes "f") ∷ m 4 (codes "(") ∷ m 5 (codes ")") ∷ m 7 (codes "{") ∷ m 9 (codes "{") ∷ m 11 (codes "}") ∷ m 13 (codes "}") ∷ []) ≡ Err (stop.TooDeep 3))
    -- fn f() { ‸{ } }
    × (items.file 2 (k 0 (codes "fn") ∷ n 3 (codes "f") ∷ m 4 (codes "(") ∷ m 5 (codes ")") ∷ m 7 (codes "{") ∷ m 9 (codes "{") ∷ m 11 (codes "}") ∷ m 13 (codes "}") ∷ []) ≡ Err (stop.TooDeep 3)) × (levels_of (items.file 3 (k 0 (codes "fn") ∷ n 3 (codes "f") ∷ m 4 (codes "(") ∷ m 5 (codes ")") ∷ m 7 (codes "{") ∷ m 9 (codes "{") ∷ m 11 (codes "}") ∷ m 13 (codes "}") ∷ [])) ≡ Some 3)
    -- fn f() { ‸if a {} }
    × (items.file 2 (k 0 (codes "fn") ∷ n 3 (codes "f") ∷ m 4 (codes "(") ∷ m 5 (codes ")") ∷ m 7 (codes "{") ∷ k 9 (codes "if") ∷ n 12 (codes "a") ∷ m 14 (codes "{") ∷ m 15 (codes "}") ∷ m 17 (codes "}") ∷ []) ≡ Err (stop.TooDeep 5)) × (levels_of (items.file 3 (k 0 (codes "fn") ∷ n 3 (codes "f") ∷ m 4 (codes "(") ∷ m 5 (codes ")") ∷ m 7 (codes "{") ∷ k 9 (codes "if") ∷ n 12 (codes "a") ∷ m 14 (codes "{") ∷ m 15 (codes "}") ∷ m 17 (codes "}") ∷ [])) ≡ Some 3)
    -- fn f() { if a {} ‸else {} }
    × (items.file 3 (k 0 (codes "fn") ∷ n 3 (codes "f") ∷ m 4 (codes "(") ∷ m 5 (codes ")") ∷ m 7 (codes "{") ∷ k 9 (codes "if") ∷ n 12 (codes "a") ∷ m 14 (codes "{") ∷ m 15 (codes "}") ∷ k 17 (codes "else") ∷ m 22 (codes "{") ∷ m 23 (codes "}") ∷ m 25 (codes "}") ∷ []) ≡ Err (stop.TooDeep 4)) × (levels_of (items.file 4 (k 0 (codes "fn") ∷ n 3 (codes "f") ∷ m 4 (codes "(") ∷ m 5 (codes ")") ∷ m 7 (codes "{") ∷ k 9 (codes "if") ∷ n 12 (codes "a") ∷ m 14 (codes "{") ∷ m 15 (codes "}") ∷ k 17 (codes "else") ∷ m 22 (codes "{") ∷ m 23 (codes "}") ∷ m 25 (codes "}") ∷ [])) ≡ Some 4)
    -- fn f() { ‸match a { b => 1 } }
    × (items.file 2 (k 0 (codes "fn") ∷ n 3 (codes "f") ∷ m 4 (codes "(") ∷ m 5 (codes ")") ∷ m 7 (codes "{") ∷ k 9 (codes "match") ∷ n 15 (codes "a") ∷ m 17 (codes "{") ∷ n 19 (codes "b") ∷ m 21 (codes "=>") ∷ d 24 (codes "1") ∷ m 26 (codes "}") ∷ m 28 (codes "}") ∷ []) ≡ Err (stop.TooDeep 8)) × (levels_of (items.file 3 (k 0 (codes "fn") ∷ n 3 (codes "f") ∷ m 4 (codes "(") ∷ m 5 (codes ")") ∷ m 7 (codes "{") ∷ k 9 (codes "match") ∷ n 15 (codes "a") ∷ m 17 (codes "{") ∷ n 19 (codes "b") ∷ m 21 (codes "=>") ∷ d 24 (codes "1") ∷ m 26 (codes "}") ∷ m 28 (codes "}") ∷ [])) ≡ Some 3)
unfolding blocks.annotation blocks.let_statement blocks.statements_from blocks.statements blocks.block_of blocks.operand blocks.whole blocks.like blocks.block expressions.chain expressions.call expressions.variant_arguments expressions.input expressions.variant_with expressions.path expressions.field_value expressions.field expressions.struct_literal expressions.print expressions.named expressions.block_value expressions.let_test expressions.test expressions.else_value expressions.conditional expressions.arms_from expressions.arms expressions.match_value expressions.loop_value expressions.while_value expressions.labelled expressions.primary expressions.member expressions.postfix expressions.borrow expressions.borrow_twice expressions.unary expressions.longer expressions.at_strength expressions.return_value expressions.jump expressions.set_or_operand items.derived_name items.derives items.lifetime_parameter items.lifetimes items.bounds_from items.bounds items.bound_lifetime items.bound_lifetimes items.struct_field items.variant items.parameter items.result items.structure items.enumeration items.derived items.function items.rt items.item items.items_from items.file lists.elements_from lists.elements lists.some_elements lists.group numbers.numeral numbers.index_value numbers.number numbers.index operators.operator_at patterns_of.mutable_binding patterns_of.number_pattern patterns_of.negative_pattern patterns_of.variant_pattern patterns_of.long_field patterns_of.short_field patterns_of.field_pattern patterns_of.struct_pattern patterns_of.named_pattern patterns_of.pattern steps.expect steps.sees_word steps.expect_word symbols.keyword symbols.mark symbols.symbol_of symbols.same_symbol types_of.mutability types_of.reference_lifetime types_of.lifetime_argument types_of.named_type types_of.reference types_of.two_references types_of.typ
places_15 = (refl, refl, refl, refl, refl, refl, refl, refl, refl, refl, refl, refl, refl, refl, refl)

places_16 :
    -- fn f() { match a { (‸b) => 1 } }
    (items.file 3 (k 0 (codes "fn") ∷ n 3 (codes "f") ∷ m 4 (codes "(") ∷ m 5 (codes ")") ∷ m 7 (codes "{") ∷ k 9 (codes "match") ∷ n 15 (codes "a") ∷ m 17 (codes "{") ∷ m 19 (codes "(") ∷ n 20 (codes "b") ∷ m 21 (codes ")") ∷ m 23 (codes "=>") ∷ d 26 (codes "1") ∷ m 28 (codes "}") ∷ m 30 (codes "}") ∷ []) ≡ Err (stop.TooDeep 6)) × (levels_of (items.file 4 (k 0 (codes "fn") ∷ n 3 (codes "f") ∷ m 4 (codes "(") ∷ m 5 (codes ")") ∷ m 7 (codes "{") ∷ k 9 (codes "match") ∷ n 15 (codes "a") ∷ m 17 (codes "{") ∷ m 19 (codes "(") ∷ n 20 (codes "b") ∷ m 21 (codes ")") ∷ m 23 (codes "=>") ∷ d 26 (codes "1") ∷ m 28 (codes "}") ∷ m 30 (codes "}") ∷ [])) ≡ Some 4)
    -- fn f() { ‸loop {} }
    × (items.file 2 (k 0 (codes "fn") ∷ n 3 (codes "f") ∷ m 4 (codes "(") ∷ m 5 (codes ")") ∷ m 7 (codes "{") ∷ k 9 (codes "loop") ∷ m 14 (codes "{") ∷ m 15 (codes "}") ∷ m 17 (codes "}") ∷ []) ≡ Err (stop.TooDeep 4)) × (levels_of (items.file 3 (k 0 (codes "fn") ∷ n 3 (codes "f") ∷ m 4 (codes "(") ∷ m 5 (codes ")") ∷ m 7 (codes "{") ∷ k 9 (codes "loop") ∷ m 14 (codes "{") ∷ m 15 (codes "}") ∷ m 17 (codes "}") ∷ [])) ≡ Some 3)
    -- fn f() { ‸while a {} }
    × (items.file 2 (k 0 (codes "fn") ∷ n 3 (codes "f") ∷ m 4 (codes "(") ∷ m 5 (codes ")") ∷ m 7 (codes "{") ∷ k 9 (codes "while") ∷ n 15 (codes "a") ∷ m 17 (codes "{") ∷ m 18 (codes "}") ∷ m 20 (codes "}") ∷ []) ≡ Err (stop.TooDeep 5)) × (levels_of (items.file 3 (k 0 (codes "fn") ∷ n 3 (codes "f") ∷ m 4 (codes "(") ∷ m 5 (codes ")") ∷ m 7 (codes "{") ∷ k 9 (codes "while") ∷ n 15 (codes "a") ∷ m 17 (codes "{") ∷ m 18 (codes "}") ∷ m 20 (codes "}") ∷ [])) ≡ Some 3)
    -- fn f() { ‸'a: loop {} }
    × (items.file 2 (k 0 (codes "fn") ∷ n 3 (codes "f") ∷ m 4 (codes "(") ∷ m 5 (codes ")") ∷ m 7 (codes "{") ∷ l 9 (codes "'a") ∷ m 11 (codes ":") ∷ k 13 (codes "loop") ∷ m 18 (codes "{") ∷ m 19 (codes "}") ∷ m 21 (codes "}") ∷ []) ≡ Err (stop.TooDeep 6)) × (levels_of (items.file 3 (k 0 (codes "fn") ∷ n 3 (codes "f") ∷ m 4 (codes "(") ∷ m 5 (codes ")") ∷ m 7 (codes "{") ∷ l 9 (codes "'a") ∷ m 11 (codes ":") ∷ k 13 (codes "loop") ∷ m 18 (codes "{") ∷ m 19 (codes "}") ∷ m 21 (codes "}") ∷ [])) ≡ Some 3)
    -- fn f() { ‸-1 } }
    × (items.file 2 (k 0 (codes "fn") ∷ n 3 (codes "f") ∷ m 4 (codes "(") ∷ m 5 (codes ")") ∷ m 7 (codes "{") ∷ m 9 (codes "-") ∷ d 10 (codes "1") ∷ m 12 (codes "}") ∷ m 14 (codes "}") ∷ []) ≡ Err (stop.TooDeep 4))
    -- fn f() { } ‸} fn g() { -1 }
    × (items.file 2 (k 0 (codes "fn") ∷ n 3 (codes "f") ∷ m 4 (codes "(") ∷ m 5 (codes ")") ∷ m 7 (codes "{") ∷ m 9 (codes "}") ∷ m 11 (codes "}") ∷ k 13 (codes "fn") ∷ n 16 (codes "g") ∷ m 17 (codes "(") ∷ m 18 (codes ")") ∷ m 20 (codes "{") ∷ m 22 (codes "-") ∷ d 23 (codes "1") ∷ m 25 (codes "}") ∷ []) ≡ Err (stop.Syntax 9))
unfolding blocks.annotation blocks.let_statement blocks.statements_from blocks.statements blocks.block_of blocks.operand blocks.whole blocks.like blocks.block expressions.chain expressions.call expressions.variant_arguments expressions.input expressions.variant_with expressions.path expressions.field_value expressions.field expressions.struct_literal expressions.print expressions.named expressions.block_value expressions.let_test expressions.test expressions.else_value expressions.conditional expressions.arms_from expressions.arms expressions.match_value expressions.loop_value expressions.while_value expressions.labelled expressions.primary expressions.member expressions.postfix expressions.borrow expressions.borrow_twice expressions.unary expressions.longer expressions.at_strength expressions.return_value expressions.jump expressions.set_or_operand items.derived_name items.derives items.lifetime_parameter items.lifetimes items.bounds_from items.bounds items.bound_lifetime items.bound_lifetimes items.struct_field items.variant items.parameter items.result items.structure items.enumeration items.derived items.function items.rt items.item items.items_from items.file lists.elements_from lists.elements lists.some_elements lists.group numbers.numeral numbers.index_value numbers.number numbers.index operators.operator_at patterns_of.mutable_binding patterns_of.number_pattern patterns_of.negative_pattern patterns_of.variant_pattern patterns_of.long_field patterns_of.short_field patterns_of.field_pattern patterns_of.struct_pattern patterns_of.named_pattern patterns_of.pattern steps.expect steps.sees_word steps.expect_word symbols.keyword symbols.mark symbols.symbol_of symbols.same_symbol types_of.mutability types_of.reference_lifetime types_of.lifetime_argument types_of.named_type types_of.reference types_of.two_references types_of.typ
places_16 = (refl, refl, refl, refl, refl, refl, refl, refl, refl, refl)

places_17 :
    -- fn f() { if let A = b ‸&& c {} }
    (items.file 16 (k 0 (codes "fn") ∷ n 3 (codes "f") ∷ m 4 (codes "(") ∷ m 5 (codes ")") ∷ m 7 (codes "{") ∷ k 9 (codes "if") ∷ k 12 (codes "let") ∷ n 16 (codes "A") ∷ m 18 (codes "=") ∷ n 20 (codes "b") ∷ m 22 (codes "&&") ∷ n 25 (codes "c") ∷ m 27 (codes "{") ∷ m 28 (codes "}") ∷ m 30 (codes "}") ∷ []) ≡ Err (stop.Syntax 5))
    -- fn f() { if let P = S { x‸: 1 } {} }
    × (items.file 16 (k 0 (codes "fn") ∷ n 3 (codes "f") ∷ m 4 (codes "(") ∷ m 5 (codes ")") ∷ m 7 (codes "{") ∷ k 9 (codes "if") ∷ k 12 (codes "let") ∷ n 16 (codes "P") ∷ m 18 (codes "=") ∷ n 20 (codes "S") ∷ m 22 (codes "{") ∷ n 24 (codes "x") ∷ m 25 (codes ":") ∷ d 27 (codes "1") ∷ m 29 (codes "}") ∷ m 31 (codes "{") ∷ m 32 (codes "}") ∷ m 34 (codes "}") ∷ []) ≡ Err (stop.Syntax 6))
    -- fn f() { if let ‸= a {} }
    × (items.file 16 (k 0 (codes "fn") ∷ n 3 (codes "f") ∷ m 4 (codes "(") ∷ m 5 (codes ")") ∷ m 7 (codes "{") ∷ k 9 (codes "if") ∷ k 12 (codes "let") ∷ m 16 (codes "=") ∷ n 18 (codes "a") ∷ m 20 (codes "{") ∷ m 21 (codes "}") ∷ m 23 (codes "}") ∷ []) ≡ Err (stop.Syntax 5))
    -- fn f() { if let x {} ‸}
    × (items.file 16 (k 0 (codes "fn") ∷ n 3 (codes "f") ∷ m 4 (codes "(") ∷ m 5 (codes ")") ∷ m 7 (codes "{") ∷ k 9 (codes "if") ∷ k 12 (codes "let") ∷ n 16 (codes "x") ∷ m 18 (codes "{") ∷ m 19 (codes "}") ∷ m 21 (codes "}") ∷ []) ≡ Err (stop.Syntax 1))
    -- fn f() { if let x ‸== a {} }
    × (items.file 16 (k 0 (codes "fn") ∷ n 3 (codes "f") ∷ m 4 (codes "(") ∷ m 5 (codes ")") ∷ m 7 (codes "{") ∷ k 9 (codes "if") ∷ k 12 (codes "let") ∷ n 16 (codes "x") ∷ m 18 (codes "==") ∷ n 21 (codes "a") ∷ m 23 (codes "{") ∷ m 24 (codes "}") ∷ m 26 (codes "}") ∷ []) ≡ Err (stop.Syntax 5))
    -- fn f() { if let x‸: u8 = a {} }
    × (items.file 16 (k 0 (codes "fn") ∷ n 3 (codes "f") ∷ m 4 (codes "(") ∷ m 5 (codes ")") ∷ m 7 (codes "{") ∷ k 9 (codes "if") ∷ k 12 (codes "let") ∷ n 16 (codes "x") ∷ m 17 (codes ":") ∷ k 19 (codes "u8") ∷ m 22 (codes "=") ∷ n 24 (codes "a") ∷ m 26 (codes "{") ∷ m 27 (codes "}") ∷ m 29 (codes "}") ∷ []) ≡ Err (stop.Syntax 7))
    -- fn f() { if let x = {} ‸}
    × (items.file 16 (k 0 (codes "fn") ∷ n 3 (codes "f") ∷ m 4 (codes "(") ∷ m 5 (codes ")") ∷ m 7 (codes "{") ∷ k 9 (codes "if") ∷ k 12 (codes "let") ∷ n 16 (codes "x") ∷ m 18 (codes "=") ∷ m 20 (codes "{") ∷ m 21 (codes "}") ∷ m 23 (codes "}") ∷ []) ≡ Err (stop.Syntax 1))
    -- fn f() { if let x = a ‸|| b {} }
    × (items.file 16 (k 0 (codes "fn") ∷ n 3 (codes "f") ∷ m 4 (codes "(") ∷ m 5 (codes ")") ∷ m 7 (codes "{") ∷ k 9 (codes "if") ∷ k 12 (codes "let") ∷ n 16 (codes "x") ∷ m 18 (codes "=") ∷ n 20 (codes "a") ∷ m 22 (codes "||") ∷ n 25 (codes "b") ∷ m 27 (codes "{") ∷ m 28 (codes "}") ∷ m 30 (codes "}") ∷ []) ≡ Err (stop.Syntax 5))
unfolding blocks.annotation blocks.let_statement blocks.statements_from blocks.statements blocks.block_of blocks.operand blocks.whole blocks.like blocks.block expressions.chain expressions.call expressions.variant_arguments expressions.input expressions.variant_with expressions.path expressions.field_value expressions.field expressions.struct_literal expressions.print expressions.named expressions.block_value expressions.let_test expressions.test expressions.else_value expressions.conditional expressions.arms_from expressions.arms expressions.match_value expressions.loop_value expressions.while_value expressions.labelled expressions.primary expressions.member expressions.postfix expressions.borrow expressions.borrow_twice expressions.unary expressions.longer expressions.at_strength expressions.return_value expressions.jump expressions.set_or_operand items.derived_name items.derives items.lifetime_parameter items.lifetimes items.bounds_from items.bounds items.bound_lifetime items.bound_lifetimes items.struct_field items.variant items.parameter items.result items.structure items.enumeration items.derived items.function items.rt items.item items.items_from items.file lists.elements_from lists.elements lists.some_elements lists.group numbers.numeral numbers.index_value numbers.number numbers.index operators.operator_at patterns_of.mutable_binding patterns_of.number_pattern patterns_of.negative_pattern patterns_of.variant_pattern patterns_of.long_field patterns_of.short_field patterns_of.field_pattern patterns_of.struct_pattern patterns_of.named_pattern patterns_of.pattern steps.expect steps.sees_word steps.expect_word symbols.keyword symbols.mark symbols.symbol_of symbols.same_symbol types_of.mutability types_of.reference_lifetime types_of.lifetime_argument types_of.named_type types_of.reference types_of.two_references types_of.typ
places_17 = (refl, refl, refl, refl, refl, refl, refl, refl)

places_18 :
    -- fn f() { if let x = a ‸= b {} }
    (items.file 16 (k 0 (codes "fn") ∷ n 3 (codes "f") ∷ m 4 (codes "(") ∷ m 5 (codes ")") ∷ m 7 (codes "{") ∷ k 9 (codes "if") ∷ k 12 (codes "let") ∷ n 16 (codes "x") ∷ m 18 (codes "=") ∷ n 20 (codes "a") ∷ m 22 (codes "=") ∷ n 24 (codes "b") ∷ m 26 (codes "{") ∷ m 27 (codes "}") ∷ m 29 (codes "}") ∷ []) ≡ Err (stop.Syntax 5))
    -- fn f() { if let x = a == b ‸== c {} }
    × (items.file 16 (k 0 (codes "fn") ∷ n 3 (codes "f") ∷ m 4 (codes "(") ∷ m 5 (codes ")") ∷ m 7 (codes "{") ∷ k 9 (codes "if") ∷ k 12 (codes "let") ∷ n 16 (codes "x") ∷ m 18 (codes "=") ∷ n 20 (codes "a") ∷ m 22 (codes "==") ∷ n 25 (codes "b") ∷ m 27 (codes "==") ∷ n 30 (codes "c") ∷ m 32 (codes "{") ∷ m 33 (codes "}") ∷ m 35 (codes "}") ∷ []) ≡ Err (stop.Syntax 5))
    -- fn f() { if let x = ‸return {} }
    × (items.file 16 (k 0 (codes "fn") ∷ n 3 (codes "f") ∷ m 4 (codes "(") ∷ m 5 (codes ")") ∷ m 7 (codes "{") ∷ k 9 (codes "if") ∷ k 12 (codes "let") ∷ n 16 (codes "x") ∷ m 18 (codes "=") ∷ k 20 (codes "return") ∷ m 27 (codes "{") ∷ m 28 (codes "}") ∷ m 30 (codes "}") ∷ []) ≡ Err (stop.Syntax 4))
    -- fn f() { if a && ‸let x = b {} }
    × (items.file 16 (k 0 (codes "fn") ∷ n 3 (codes "f") ∷ m 4 (codes "(") ∷ m 5 (codes ")") ∷ m 7 (codes "{") ∷ k 9 (codes "if") ∷ n 12 (codes "a") ∷ m 14 (codes "&&") ∷ k 17 (codes "let") ∷ n 21 (codes "x") ∷ m 23 (codes "=") ∷ n 25 (codes "b") ∷ m 27 (codes "{") ∷ m 28 (codes "}") ∷ m 30 (codes "}") ∷ []) ≡ Err (stop.Syntax 7))
    -- fn f() { if (‸let x = a) {} }
    × (items.file 16 (k 0 (codes "fn") ∷ n 3 (codes "f") ∷ m 4 (codes "(") ∷ m 5 (codes ")") ∷ m 7 (codes "{") ∷ k 9 (codes "if") ∷ m 12 (codes "(") ∷ k 13 (codes "let") ∷ n 17 (codes "x") ∷ m 19 (codes "=") ∷ n 21 (codes "a") ∷ m 22 (codes ")") ∷ m 24 (codes "{") ∷ m 25 (codes "}") ∷ m 27 (codes "}") ∷ []) ≡ Err (stop.Syntax 8))
    -- fn f() { while let x = a‸; }
    × (items.file 16 (k 0 (codes "fn") ∷ n 3 (codes "f") ∷ m 4 (codes "(") ∷ m 5 (codes ")") ∷ m 7 (codes "{") ∷ k 9 (codes "while") ∷ k 15 (codes "let") ∷ n 19 (codes "x") ∷ m 21 (codes "=") ∷ n 23 (codes "a") ∷ m 24 (codes ";") ∷ m 26 (codes "}") ∷ []) ≡ Err (stop.Syntax 2))
    -- fn f() { while let ‸while = a {} }
    × (items.file 16 (k 0 (codes "fn") ∷ n 3 (codes "f") ∷ m 4 (codes "(") ∷ m 5 (codes ")") ∷ m 7 (codes "{") ∷ k 9 (codes "while") ∷ k 15 (codes "let") ∷ k 19 (codes "while") ∷ m 25 (codes "=") ∷ n 27 (codes "a") ∷ m 29 (codes "{") ∷ m 30 (codes "}") ∷ m 32 (codes "}") ∷ []) ≡ Err (stop.Syntax 6))
    -- fn f() { if let x = a {} else ‸let }
    × (items.file 16 (k 0 (codes "fn") ∷ n 3 (codes "f") ∷ m 4 (codes "(") ∷ m 5 (codes ")") ∷ m 7 (codes "{") ∷ k 9 (codes "if") ∷ k 12 (codes "let") ∷ n 16 (codes "x") ∷ m 18 (codes "=") ∷ n 20 (codes "a") ∷ m 22 (codes "{") ∷ m 23 (codes "}") ∷ k 25 (codes "else") ∷ k 30 (codes "let") ∷ m 34 (codes "}") ∷ []) ≡ Err (stop.Syntax 2))
unfolding blocks.annotation blocks.let_statement blocks.statements_from blocks.statements blocks.block_of blocks.operand blocks.whole blocks.like blocks.block expressions.chain expressions.call expressions.variant_arguments expressions.input expressions.variant_with expressions.path expressions.field_value expressions.field expressions.struct_literal expressions.print expressions.named expressions.block_value expressions.let_test expressions.test expressions.else_value expressions.conditional expressions.arms_from expressions.arms expressions.match_value expressions.loop_value expressions.while_value expressions.labelled expressions.primary expressions.member expressions.postfix expressions.borrow expressions.borrow_twice expressions.unary expressions.longer expressions.at_strength expressions.return_value expressions.jump expressions.set_or_operand items.derived_name items.derives items.lifetime_parameter items.lifetimes items.bounds_from items.bounds items.bound_lifetime items.bound_lifetimes items.struct_field items.variant items.parameter items.result items.structure items.enumeration items.derived items.function items.rt items.item items.items_from items.file lists.elements_from lists.elements lists.some_elements lists.group numbers.numeral numbers.index_value numbers.number numbers.index operators.operator_at patterns_of.mutable_binding patterns_of.number_pattern patterns_of.negative_pattern patterns_of.variant_pattern patterns_of.long_field patterns_of.short_field patterns_of.field_pattern patterns_of.struct_pattern patterns_of.named_pattern patterns_of.pattern steps.expect steps.sees_word steps.expect_word symbols.keyword symbols.mark symbols.symbol_of symbols.same_symbol types_of.mutability types_of.reference_lifetime types_of.lifetime_argument types_of.named_type types_of.reference types_of.two_references types_of.typ
places_18 = (refl, refl, refl, refl, refl, refl, refl, refl)

places_19 :
    -- fn f() { if let x = a {} else if let ‸{} }
    (items.file 16 (k 0 (codes "fn") ∷ n 3 (codes "f") ∷ m 4 (codes "(") ∷ m 5 (codes ")") ∷ m 7 (codes "{") ∷ k 9 (codes "if") ∷ k 12 (codes "let") ∷ n 16 (codes "x") ∷ m 18 (codes "=") ∷ n 20 (codes "a") ∷ m 22 (codes "{") ∷ m 23 (codes "}") ∷ k 25 (codes "else") ∷ k 30 (codes "if") ∷ k 33 (codes "let") ∷ m 37 (codes "{") ∷ m 38 (codes "}") ∷ m 40 (codes "}") ∷ []) ≡ Err (stop.Syntax 3))
    -- fn f() { match ‸let x = a {} }
    × (items.file 16 (k 0 (codes "fn") ∷ n 3 (codes "f") ∷ m 4 (codes "(") ∷ m 5 (codes ")") ∷ m 7 (codes "{") ∷ k 9 (codes "match") ∷ k 15 (codes "let") ∷ n 19 (codes "x") ∷ m 21 (codes "=") ∷ n 23 (codes "a") ∷ m 25 (codes "{") ∷ m 26 (codes "}") ∷ m 28 (codes "}") ∷ []) ≡ Err (stop.Syntax 7))
    -- fn f() { 'a: ‸if let x = a {} }
    × (items.file 16 (k 0 (codes "fn") ∷ n 3 (codes "f") ∷ m 4 (codes "(") ∷ m 5 (codes ")") ∷ m 7 (codes "{") ∷ l 9 (codes "'a") ∷ m 11 (codes ":") ∷ k 13 (codes "if") ∷ k 16 (codes "let") ∷ n 20 (codes "x") ∷ m 22 (codes "=") ∷ n 24 (codes "a") ∷ m 26 (codes "{") ∷ m 27 (codes "}") ∷ m 29 (codes "}") ∷ []) ≡ Err (stop.Syntax 8))
    -- fn f() { let x = ‸let y = a; }
    × (items.file 16 (k 0 (codes "fn") ∷ n 3 (codes "f") ∷ m 4 (codes "(") ∷ m 5 (codes ")") ∷ m 7 (codes "{") ∷ k 9 (codes "let") ∷ n 13 (codes "x") ∷ m 15 (codes "=") ∷ k 17 (codes "let") ∷ n 21 (codes "y") ∷ m 23 (codes "=") ∷ n 25 (codes "a") ∷ m 26 (codes ";") ∷ m 28 (codes "}") ∷ []) ≡ Err (stop.Syntax 6))
    -- fn f() { if let x = a ‸
    × (items.file 16 (k 0 (codes "fn") ∷ n 3 (codes "f") ∷ m 4 (codes "(") ∷ m 5 (codes ")") ∷ m 7 (codes "{") ∷ k 9 (codes "if") ∷ k 12 (codes "let") ∷ n 16 (codes "x") ∷ m 18 (codes "=") ∷ n 20 (codes "a") ∷ []) ≡ Err (stop.Syntax 0))
    -- fn f() { if let E::V(‸) = a {} }
    × (items.file 16 (k 0 (codes "fn") ∷ n 3 (codes "f") ∷ m 4 (codes "(") ∷ m 5 (codes ")") ∷ m 7 (codes "{") ∷ k 9 (codes "if") ∷ k 12 (codes "let") ∷ n 16 (codes "E") ∷ m 17 (codes "::") ∷ n 19 (codes "V") ∷ m 20 (codes "(") ∷ m 21 (codes ")") ∷ m 23 (codes "=") ∷ n 25 (codes "a") ∷ m 27 (codes "{") ∷ m 28 (codes "}") ∷ m 30 (codes "}") ∷ []) ≡ Err (stop.Syntax 6))
    -- fn f() { if let ‸&x = a {} }
    × (items.file 16 (k 0 (codes "fn") ∷ n 3 (codes "f") ∷ m 4 (codes "(") ∷ m 5 (codes ")") ∷ m 7 (codes "{") ∷ k 9 (codes "if") ∷ k 12 (codes "let") ∷ m 16 (codes "&") ∷ n 17 (codes "x") ∷ m 19 (codes "=") ∷ n 21 (codes "a") ∷ m 23 (codes "{") ∷ m 24 (codes "}") ∷ m 26 (codes "}") ∷ []) ≡ Err (stop.Syntax 7))
    -- fn f() { if let x = a‸, {} }
    × (items.file 16 (k 0 (codes "fn") ∷ n 3 (codes "f") ∷ m 4 (codes "(") ∷ m 5 (codes ")") ∷ m 7 (codes "{") ∷ k 9 (codes "if") ∷ k 12 (codes "let") ∷ n 16 (codes "x") ∷ m 18 (codes "=") ∷ n 20 (codes "a") ∷ m 21 (codes ",") ∷ m 23 (codes "{") ∷ m 24 (codes "}") ∷ m 26 (codes "}") ∷ []) ≡ Err (stop.Syntax 4))
unfolding blocks.annotation blocks.let_statement blocks.statements_from blocks.statements blocks.block_of blocks.operand blocks.whole blocks.like blocks.block expressions.chain expressions.call expressions.variant_arguments expressions.input expressions.variant_with expressions.path expressions.field_value expressions.field expressions.struct_literal expressions.print expressions.named expressions.block_value expressions.let_test expressions.test expressions.else_value expressions.conditional expressions.arms_from expressions.arms expressions.match_value expressions.loop_value expressions.while_value expressions.labelled expressions.primary expressions.member expressions.postfix expressions.borrow expressions.borrow_twice expressions.unary expressions.longer expressions.at_strength expressions.return_value expressions.jump expressions.set_or_operand items.derived_name items.derives items.lifetime_parameter items.lifetimes items.bounds_from items.bounds items.bound_lifetime items.bound_lifetimes items.struct_field items.variant items.parameter items.result items.structure items.enumeration items.derived items.function items.rt items.item items.items_from items.file lists.elements_from lists.elements lists.some_elements lists.group numbers.numeral numbers.index_value numbers.number numbers.index operators.operator_at patterns_of.mutable_binding patterns_of.number_pattern patterns_of.negative_pattern patterns_of.variant_pattern patterns_of.long_field patterns_of.short_field patterns_of.field_pattern patterns_of.struct_pattern patterns_of.named_pattern patterns_of.pattern steps.expect steps.sees_word steps.expect_word symbols.keyword symbols.mark symbols.symbol_of symbols.same_symbol types_of.mutability types_of.reference_lifetime types_of.lifetime_argument types_of.named_type types_of.reference types_of.two_references types_of.typ
places_19 = (refl, refl, refl, refl, refl, refl, refl, refl)

places_20 :
    -- fn f() { while let x = a {} ‸else {} }
    (items.file 16 (k 0 (codes "fn") ∷ n 3 (codes "f") ∷ m 4 (codes "(") ∷ m 5 (codes ")") ∷ m 7 (codes "{") ∷ k 9 (codes "while") ∷ k 15 (codes "let") ∷ n 19 (codes "x") ∷ m 21 (codes "=") ∷ n 23 (codes "a") ∷ m 25 (codes "{") ∷ m 26 (codes "}") ∷ k 28 (codes "else") ∷ m 33 (codes "{") ∷ m 34 (codes "}") ∷ m 36 (codes "}") ∷ []) ≡ Err (stop.Syntax 4))
    -- fn f() { if let x = S {} ‸.y {} }
    × (items.file 16 (k 0 (codes "fn") ∷ n 3 (codes "f") ∷ m 4 (codes "(") ∷ m 5 (codes ")") ∷ m 7 (codes "{") ∷ k 9 (codes "if") ∷ k 12 (codes "let") ∷ n 16 (codes "x") ∷ m 18 (codes "=") ∷ n 20 (codes "S") ∷ m 22 (codes "{") ∷ m 23 (codes "}") ∷ m 25 (codes ".") ∷ n 26 (codes "y") ∷ m 28 (codes "{") ∷ m 29 (codes "}") ∷ m 31 (codes "}") ∷ []) ≡ Err (stop.Syntax 5))
    -- fn f() { if let x = &mut S { a‸: 1 } {} }
    × (items.file 16 (k 0 (codes "fn") ∷ n 3 (codes "f") ∷ m 4 (codes "(") ∷ m 5 (codes ")") ∷ m 7 (codes "{") ∷ k 9 (codes "if") ∷ k 12 (codes "let") ∷ n 16 (codes "x") ∷ m 18 (codes "=") ∷ m 20 (codes "&") ∷ k 21 (codes "mut") ∷ n 25 (codes "S") ∷ m 27 (codes "{") ∷ n 29 (codes "a") ∷ m 30 (codes ":") ∷ d 32 (codes "1") ∷ m 34 (codes "}") ∷ m 36 (codes "{") ∷ m 37 (codes "}") ∷ m 39 (codes "}") ∷ []) ≡ Err (stop.Syntax 6))
    -- fn f() { while let A = b ‸&& let C = d {} }
    × (items.file 16 (k 0 (codes "fn") ∷ n 3 (codes "f") ∷ m 4 (codes "(") ∷ m 5 (codes ")") ∷ m 7 (codes "{") ∷ k 9 (codes "while") ∷ k 15 (codes "let") ∷ n 19 (codes "A") ∷ m 21 (codes "=") ∷ n 23 (codes "b") ∷ m 25 (codes "&&") ∷ k 28 (codes "let") ∷ n 32 (codes "C") ∷ m 34 (codes "=") ∷ n 36 (codes "d") ∷ m 38 (codes "{") ∷ m 39 (codes "}") ∷ m 41 (codes "}") ∷ []) ≡ Err (stop.Syntax 8))
    -- fn f() { if let x = a ‸+= b {} }
    × (items.file 16 (k 0 (codes "fn") ∷ n 3 (codes "f") ∷ m 4 (codes "(") ∷ m 5 (codes ")") ∷ m 7 (codes "{") ∷ k 9 (codes "if") ∷ k 12 (codes "let") ∷ n 16 (codes "x") ∷ m 18 (codes "=") ∷ n 20 (codes "a") ∷ m 22 (codes "+=") ∷ n 25 (codes "b") ∷ m 27 (codes "{") ∷ m 28 (codes "}") ∷ m 30 (codes "}") ∷ []) ≡ Err (stop.Syntax 5))
    -- fn f() { if let x = ‸break {} }
    × (items.file 16 (k 0 (codes "fn") ∷ n 3 (codes "f") ∷ m 4 (codes "(") ∷ m 5 (codes ")") ∷ m 7 (codes "{") ∷ k 9 (codes "if") ∷ k 12 (codes "let") ∷ n 16 (codes "x") ∷ m 18 (codes "=") ∷ k 20 (codes "break") ∷ m 26 (codes "{") ∷ m 27 (codes "}") ∷ m 29 (codes "}") ∷ []) ≡ Err (stop.Syntax 4))
    -- fn f() { if ‸mut x = a {} }
    × (items.file 16 (k 0 (codes "fn") ∷ n 3 (codes "f") ∷ m 4 (codes "(") ∷ m 5 (codes ")") ∷ m 7 (codes "{") ∷ k 9 (codes "if") ∷ k 12 (codes "mut") ∷ n 16 (codes "x") ∷ m 18 (codes "=") ∷ n 20 (codes "a") ∷ m 22 (codes "{") ∷ m 23 (codes "}") ∷ m 25 (codes "}") ∷ []) ≡ Err (stop.Syntax 7))
    -- fn f() { if let mut ‸1 = a {} }
    × (items.file 16 (k 0 (codes "fn") ∷ n 3 (codes "f") ∷ m 4 (codes "(") ∷ m 5 (codes ")") ∷ m 7 (codes "{") ∷ k 9 (codes "if") ∷ k 12 (codes "let") ∷ k 16 (codes "mut") ∷ d 20 (codes "1") ∷ m 22 (codes "=") ∷ n 24 (codes "a") ∷ m 26 (codes "{") ∷ m 27 (codes "}") ∷ m 29 (codes "}") ∷ []) ≡ Err (stop.Syntax 6))
unfolding blocks.annotation blocks.let_statement blocks.statements_from blocks.statements blocks.block_of blocks.operand blocks.whole blocks.like blocks.block expressions.chain expressions.call expressions.variant_arguments expressions.input expressions.variant_with expressions.path expressions.field_value expressions.field expressions.struct_literal expressions.print expressions.named expressions.block_value expressions.let_test expressions.test expressions.else_value expressions.conditional expressions.arms_from expressions.arms expressions.match_value expressions.loop_value expressions.while_value expressions.labelled expressions.primary expressions.member expressions.postfix expressions.borrow expressions.borrow_twice expressions.unary expressions.longer expressions.at_strength expressions.return_value expressions.jump expressions.set_or_operand items.derived_name items.derives items.lifetime_parameter items.lifetimes items.bounds_from items.bounds items.bound_lifetime items.bound_lifetimes items.struct_field items.variant items.parameter items.result items.structure items.enumeration items.derived items.function items.rt items.item items.items_from items.file lists.elements_from lists.elements lists.some_elements lists.group numbers.numeral numbers.index_value numbers.number numbers.index operators.operator_at patterns_of.mutable_binding patterns_of.number_pattern patterns_of.negative_pattern patterns_of.variant_pattern patterns_of.long_field patterns_of.short_field patterns_of.field_pattern patterns_of.struct_pattern patterns_of.named_pattern patterns_of.pattern steps.expect steps.sees_word steps.expect_word symbols.keyword symbols.mark symbols.symbol_of symbols.same_symbol types_of.mutability types_of.reference_lifetime types_of.lifetime_argument types_of.named_type types_of.reference types_of.two_references types_of.typ
places_20 = (refl, refl, refl, refl, refl, refl, refl, refl)

places_21 :
    -- fn f() { ‸if let 1 = 2 {} }
    (items.file 2 (k 0 (codes "fn") ∷ n 3 (codes "f") ∷ m 4 (codes "(") ∷ m 5 (codes ")") ∷ m 7 (codes "{") ∷ k 9 (codes "if") ∷ k 12 (codes "let") ∷ d 16 (codes "1") ∷ m 18 (codes "=") ∷ d 20 (codes "2") ∷ m 22 (codes "{") ∷ m 23 (codes "}") ∷ m 25 (codes "}") ∷ []) ≡ Err (stop.TooDeep 8)) × (levels_of (items.file 3 (k 0 (codes "fn") ∷ n 3 (codes "f") ∷ m 4 (codes "(") ∷ m 5 (codes ")") ∷ m 7 (codes "{") ∷ k 9 (codes "if") ∷ k 12 (codes "let") ∷ d 16 (codes "1") ∷ m 18 (codes "=") ∷ d 20 (codes "2") ∷ m 22 (codes "{") ∷ m 23 (codes "}") ∷ m 25 (codes "}") ∷ [])) ≡ Some 3)
    -- fn f() { if let 1 = 2 {} ‸else {} }
    × (items.file 3 (k 0 (codes "fn") ∷ n 3 (codes "f") ∷ m 4 (codes "(") ∷ m 5 (codes ")") ∷ m 7 (codes "{") ∷ k 9 (codes "if") ∷ k 12 (codes "let") ∷ d 16 (codes "1") ∷ m 18 (codes "=") ∷ d 20 (codes "2") ∷ m 22 (codes "{") ∷ m 23 (codes "}") ∷ k 25 (codes "else") ∷ m 30 (codes "{") ∷ m 31 (codes "}") ∷ m 33 (codes "}") ∷ []) ≡ Err (stop.TooDeep 4)) × (levels_of (items.file 4 (k 0 (codes "fn") ∷ n 3 (codes "f") ∷ m 4 (codes "(") ∷ m 5 (codes ")") ∷ m 7 (codes "{") ∷ k 9 (codes "if") ∷ k 12 (codes "let") ∷ d 16 (codes "1") ∷ m 18 (codes "=") ∷ d 20 (codes "2") ∷ m 22 (codes "{") ∷ m 23 (codes "}") ∷ k 25 (codes "else") ∷ m 30 (codes "{") ∷ m 31 (codes "}") ∷ m 33 (codes "}") ∷ [])) ≡ Some 4)
    -- fn f() { if let (‸1) = 2 {} }
    × (items.file 3 (k 0 (codes "fn") ∷ n 3 (codes "f") ∷ m 4 (codes "(") ∷ m 5 (codes ")") ∷ m 7 (codes "{") ∷ k 9 (codes "if") ∷ k 12 (codes "let") ∷ m 16 (codes "(") ∷ d 17 (codes "1") ∷ m 18 (codes ")") ∷ m 20 (codes "=") ∷ d 22 (codes "2") ∷ m 24 (codes "{") ∷ m 25 (codes "}") ∷ m 27 (codes "}") ∷ []) ≡ Err (stop.TooDeep 7)) × (levels_of (items.file 4 (k 0 (codes "fn") ∷ n 3 (codes "f") ∷ m 4 (codes "(") ∷ m 5 (codes ")") ∷ m 7 (codes "{") ∷ k 9 (codes "if") ∷ k 12 (codes "let") ∷ m 16 (codes "(") ∷ d 17 (codes "1") ∷ m 18 (codes ")") ∷ m 20 (codes "=") ∷ d 22 (codes "2") ∷ m 24 (codes "{") ∷ m 25 (codes "}") ∷ m 27 (codes "}") ∷ [])) ≡ Some 4)
    -- fn f() { if let 1 = (‸2) {} }
    × (items.file 3 (k 0 (codes "fn") ∷ n 3 (codes "f") ∷ m 4 (codes "(") ∷ m 5 (codes ")") ∷ m 7 (codes "{") ∷ k 9 (codes "if") ∷ k 12 (codes "let") ∷ d 16 (codes "1") ∷ m 18 (codes "=") ∷ m 20 (codes "(") ∷ d 21 (codes "2") ∷ m 22 (codes ")") ∷ m 24 (codes "{") ∷ m 25 (codes "}") ∷ m 27 (codes "}") ∷ []) ≡ Err (stop.TooDeep 5)) × (levels_of (items.file 4 (k 0 (codes "fn") ∷ n 3 (codes "f") ∷ m 4 (codes "(") ∷ m 5 (codes ")") ∷ m 7 (codes "{") ∷ k 9 (codes "if") ∷ k 12 (codes "let") ∷ d 16 (codes "1") ∷ m 18 (codes "=") ∷ m 20 (codes "(") ∷ d 21 (codes "2") ∷ m 22 (codes ")") ∷ m 24 (codes "{") ∷ m 25 (codes "}") ∷ m 27 (codes "}") ∷ [])) ≡ Some 4)
    -- fn f() { if let x = a ‸+ b {} }
    × (items.file 3 (k 0 (codes "fn") ∷ n 3 (codes "f") ∷ m 4 (codes "(") ∷ m 5 (codes ")") ∷ m 7 (codes "{") ∷ k 9 (codes "if") ∷ k 12 (codes "let") ∷ n 16 (codes "x") ∷ m 18 (codes "=") ∷ n 20 (codes "a") ∷ m 22 (codes "+") ∷ n 24 (codes "b") ∷ m 26 (codes "{") ∷ m 27 (codes "}") ∷ m 29 (codes "}") ∷ []) ≡ Err (stop.TooDeep 5)) × (levels_of (items.file 4 (k 0 (codes "fn") ∷ n 3 (codes "f") ∷ m 4 (codes "(") ∷ m 5 (codes ")") ∷ m 7 (codes "{") ∷ k 9 (codes "if") ∷ k 12 (codes "let") ∷ n 16 (codes "x") ∷ m 18 (codes "=") ∷ n 20 (codes "a") ∷ m 22 (codes "+") ∷ n 24 (codes "b") ∷ m 26 (codes "{") ∷ m 27 (codes "}") ∷ m 29 (codes "}") ∷ [])) ≡ Some 4)
    -- fn f() { ‸while let 1 = 2 {} }
    × (items.file 2 (k 0 (codes "fn") ∷ n 3 (codes "f") ∷ m 4 (codes "(") ∷ m 5 (codes ")") ∷ m 7 (codes "{") ∷ k 9 (codes "while") ∷ k 15 (codes "let") ∷ d 19 (codes "1") ∷ m 21 (codes "=") ∷ d 23 (codes "2") ∷ m 25 (codes "{") ∷ m 26 (codes "}") ∷ m 28 (codes "}") ∷ []) ≡ Err (stop.TooDeep 8)) × (levels_of (items.file 3 (k 0 (codes "fn") ∷ n 3 (codes "f") ∷ m 4 (codes "(") ∷ m 5 (codes ")") ∷ m 7 (codes "{") ∷ k 9 (codes "while") ∷ k 15 (codes "let") ∷ d 19 (codes "1") ∷ m 21 (codes "=") ∷ d 23 (codes "2") ∷ m 25 (codes "{") ∷ m 26 (codes "}") ∷ m 28 (codes "}") ∷ [])) ≡ Some 3)
    -- fn f() { ‸'a: while let 1 = 2 {} }
    × (items.file 2 (k 0 (codes "fn") ∷ n 3 (codes "f") ∷ m 4 (codes "(") ∷ m 5 (codes ")") ∷ m 7 (codes "{") ∷ l 9 (codes "'a") ∷ m 11 (codes ":") ∷ k 13 (codes "while") ∷ k 19 (codes "let") ∷ d 23 (codes "1") ∷ m 25 (codes "=") ∷ d 27 (codes "2") ∷ m 29 (codes "{") ∷ m 30 (codes "}") ∷ m 32 (codes "}") ∷ []) ≡ Err (stop.TooDeep 10)) × (levels_of (items.file 3 (k 0 (codes "fn") ∷ n 3 (codes "f") ∷ m 4 (codes "(") ∷ m 5 (codes ")") ∷ m 7 (codes "{") ∷ l 9 (codes "'a") ∷ m 11 (codes ":") ∷ k 13 (codes "while") ∷ k 19 (codes "let") ∷ d 23 (codes "1") ∷ m 25 (codes "=") ∷ d 27 (codes "2") ∷ m 29 (codes "{") ∷ m 30 (codes "}") ∷ m 32 (codes "}") ∷ [])) ≡ Some 3)
    -- fn f() { while let 1 = 2 { ‸a } }
    × (items.file 3 (k 0 (codes "fn") ∷ n 3 (codes "f") ∷ m 4 (codes "(") ∷ m 5 (codes ")") ∷ m 7 (codes "{") ∷ k 9 (codes "while") ∷ k 15 (codes "let") ∷ d 19 (codes "1") ∷ m 21 (codes "=") ∷ d 23 (codes "2") ∷ m 25 (codes "{") ∷ n 27 (codes "a") ∷ m 29 (codes "}") ∷ m 31 (codes "}") ∷ []) ≡ Err (stop.TooDeep 3)) × (levels_of (items.file 4 (k 0 (codes "fn") ∷ n 3 (codes "f") ∷ m 4 (codes "(") ∷ m 5 (codes ")") ∷ m 7 (codes "{") ∷ k 9 (codes "while") ∷ k 15 (codes "let") ∷ d 19 (codes "1") ∷ m 21 (codes "=") ∷ d 23 (codes "2") ∷ m 25 (codes "{") ∷ n 27 (codes "a") ∷ m 29 (codes "}") ∷ m 31 (codes "}") ∷ [])) ≡ Some 4)
unfolding blocks.annotation blocks.let_statement blocks.statements_from blocks.statements blocks.block_of blocks.operand blocks.whole blocks.like blocks.block expressions.chain expressions.call expressions.variant_arguments expressions.input expressions.variant_with expressions.path expressions.field_value expressions.field expressions.struct_literal expressions.print expressions.named expressions.block_value expressions.let_test expressions.test expressions.else_value expressions.conditional expressions.arms_from expressions.arms expressions.match_value expressions.loop_value expressions.while_value expressions.labelled expressions.primary expressions.member expressions.postfix expressions.borrow expressions.borrow_twice expressions.unary expressions.longer expressions.at_strength expressions.return_value expressions.jump expressions.set_or_operand items.derived_name items.derives items.lifetime_parameter items.lifetimes items.bounds_from items.bounds items.bound_lifetime items.bound_lifetimes items.struct_field items.variant items.parameter items.result items.structure items.enumeration items.derived items.function items.rt items.item items.items_from items.file lists.elements_from lists.elements lists.some_elements lists.group numbers.numeral numbers.index_value numbers.number numbers.index operators.operator_at patterns_of.mutable_binding patterns_of.number_pattern patterns_of.negative_pattern patterns_of.variant_pattern patterns_of.long_field patterns_of.short_field patterns_of.field_pattern patterns_of.struct_pattern patterns_of.named_pattern patterns_of.pattern steps.expect steps.sees_word steps.expect_word symbols.keyword symbols.mark symbols.symbol_of symbols.same_symbol types_of.mutability types_of.reference_lifetime types_of.lifetime_argument types_of.named_type types_of.reference types_of.two_references types_of.typ
places_21 = (refl, refl, refl, refl, refl, refl, refl, refl, refl, refl, refl, refl, refl, refl, refl, refl)

places_22 :
    -- fn f() { if let x = a {} else if let y = b {} ‸else {} }
    (items.file 4 (k 0 (codes "fn") ∷ n 3 (codes "f") ∷ m 4 (codes "(") ∷ m 5 (codes ")") ∷ m 7 (codes "{") ∷ k 9 (codes "if") ∷ k 12 (codes "let") ∷ n 16 (codes "x") ∷ m 18 (codes "=") ∷ n 20 (codes "a") ∷ m 22 (codes "{") ∷ m 23 (codes "}") ∷ k 25 (codes "else") ∷ k 30 (codes "if") ∷ k 33 (codes "let") ∷ n 37 (codes "y") ∷ m 39 (codes "=") ∷ n 41 (codes "b") ∷ m 43 (codes "{") ∷ m 44 (codes "}") ∷ k 46 (codes "else") ∷ m 51 (codes "{") ∷ m 52 (codes "}") ∷ m 54 (codes "}") ∷ []) ≡ Err (stop.TooDeep 4)) × (levels_of (items.file 5 (k 0 (codes "fn") ∷ n 3 (codes "f") ∷ m 4 (codes "(") ∷ m 5 (codes ")") ∷ m 7 (codes "{") ∷ k 9 (codes "if") ∷ k 12 (codes "let") ∷ n 16 (codes "x") ∷ m 18 (codes "=") ∷ n 20 (codes "a") ∷ m 22 (codes "{") ∷ m 23 (codes "}") ∷ k 25 (codes "else") ∷ k 30 (codes "if") ∷ k 33 (codes "let") ∷ n 37 (codes "y") ∷ m 39 (codes "=") ∷ n 41 (codes "b") ∷ m 43 (codes "{") ∷ m 44 (codes "}") ∷ k 46 (codes "else") ∷ m 51 (codes "{") ∷ m 52 (codes "}") ∷ m 54 (codes "}") ∷ [])) ≡ Some 5)
unfolding blocks.annotation blocks.let_statement blocks.statements_from blocks.statements blocks.block_of blocks.operand blocks.whole blocks.like blocks.block expressions.chain expressions.call expressions.variant_arguments expressions.input expressions.variant_with expressions.path expressions.field_value expressions.field expressions.struct_literal expressions.print expressions.named expressions.block_value expressions.let_test expressions.test expressions.else_value expressions.conditional expressions.arms_from expressions.arms expressions.match_value expressions.loop_value expressions.while_value expressions.labelled expressions.primary expressions.member expressions.postfix expressions.borrow expressions.borrow_twice expressions.unary expressions.longer expressions.at_strength expressions.return_value expressions.jump expressions.set_or_operand items.derived_name items.derives items.lifetime_parameter items.lifetimes items.bounds_from items.bounds items.bound_lifetime items.bound_lifetimes items.struct_field items.variant items.parameter items.result items.structure items.enumeration items.derived items.function items.rt items.item items.items_from items.file lists.elements_from lists.elements lists.some_elements lists.group numbers.numeral numbers.index_value numbers.number numbers.index operators.operator_at patterns_of.mutable_binding patterns_of.number_pattern patterns_of.negative_pattern patterns_of.variant_pattern patterns_of.long_field patterns_of.short_field patterns_of.field_pattern patterns_of.struct_pattern patterns_of.named_pattern patterns_of.pattern steps.expect steps.sees_word steps.expect_word symbols.keyword symbols.mark symbols.symbol_of symbols.same_symbol types_of.mutability types_of.reference_lifetime types_of.lifetime_argument types_of.named_type types_of.reference types_of.two_references types_of.typ
places_22 = (refl, refl)
