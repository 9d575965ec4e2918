-- Texts of each production, read by computation: each is the comment above its tokens. The trees were written down
-- by a second parser, which was made from the grammar alone; the faults by hand.
use Rattle.std.proofs.Common.{◌≡◌, ℕ, ◌+◌, true, false, List, [], ◌∷◌, length, Some, None, Ok, Err, codes, refl}
use Rattle.rx_core.specs.declared.types.Span.{Span}
use Rattle.rx_core.specs.declared.types.Kind.TheVariants as kind
use Rattle.rx_tree.specs.declared.tree.Ident.{Ident}
use Rattle.rx_tree.specs.declared.tree.BinaryOp.TheVariants as op
use Rattle.rx_tree.specs.declared.tree.UpdateOp.TheVariants as update
use Rattle.rx_tree.specs.declared.tree.Derive.TheVariants as derive
use Rattle.rx_tree.specs.Plain as plain
use Rattle.rx_tree.specs.Plain.{TypeTree, PatternTree, Expression, ItemTree}
use Rattle.rx_lex.specs.declared.token.Class.TheVariants as class
use Rattle.rx_lex.specs.Tok.{Tok}
use Rattle.rx_lex.specs.Tokens.{token_at}
use Rattle.rx_lex.specs.Words.{format_text}
use Rattle.rx_parse_grammar.specs.declared.stop.Stop.TheVariants as stop
use Rattle.rx_parse_grammar.specs.parser.Steps.{Got, Outcome}
use Rattle.rx_parse_grammar.specs.parser.Blocks as blocks
use Rattle.rx_parse_grammar.specs.parser.Expressions as expressions
use Rattle.rx_parse_grammar.specs.parser.Items as items
use Rattle.rx_parse_grammar.specs.parser.Lists as lists
use Rattle.rx_parse_grammar.specs.parser.Numbers as numbers
use Rattle.rx_parse_grammar.specs.parser.Operators as operators
use Rattle.rx_parse_grammar.specs.parser.Patterns as patterns_of
use Rattle.rx_parse_grammar.specs.parser.Steps as steps
use Rattle.rx_parse_grammar.specs.parser.Symbols as symbols
use Rattle.rx_parse_grammar.specs.parser.Types as types_of

-- tokens of each class, where they stand
abbrev k : ℕ → List ℕ → Tok
k at w = token_at at class.Keyword w

abbrev n : ℕ → List ℕ → Tok
n at w = token_at at class.Identifier w

abbrev m : ℕ → List ℕ → Tok
m at w = token_at at class.Mark w

abbrev d : ℕ → List ℕ → Tok
d at w = token_at at class.Number w

abbrev l : ℕ → List ℕ → Tok
l at w = token_at at class.Lifetime w

abbrev f : ℕ → Tok
f at = token_at at class.Format format_text

abbrev s : ℕ → ℕ → Span
s a b = record { start = a; end = b }

abbrev i : ℕ → List ℕ → Ident
i at w = record { span = s at (at + length w); name = w }

abbrev read : {A : Type 0} → A → ℕ → ℕ → ℕ → Outcome (Got A)
read x h a b = Ok (record { tree = x; height = h; span = s a b }, [])

abbrev file : List ItemTree → ℕ → Outcome (List ItemTree × ℕ)
file p h = Ok ((p, h), [])

types_read_0 :
    -- u8
    (types_of.typ 8 (k 0 (codes "u8") ∷ []) ≡ read (plain.kind_type (s 0 2) kind.U8) 1 0 2)
    -- bool
    × (types_of.typ 8 (k 0 (codes "bool") ∷ []) ≡ read (plain.bool_type (s 0 4)) 1 0 4)
    -- S
    × (types_of.typ 8 (n 0 (codes "S") ∷ []) ≡ read (plain.named_type (s 0 1) (i 0 (codes "S")) None) 1 0 1)
    -- S<'a, '_,>
    × (types_of.typ 8 (n 0 (codes "S") ∷ m 1 (codes "<") ∷ l 2 (codes "'a") ∷ m 4 (codes ",") ∷ l 6 (codes "'_") ∷ m 8 (codes ",") ∷ m 9 (codes ">") ∷ []) ≡ read (plain.named_type (s 0 10) (i 0 (codes "S")) (Some (Some (i 2 (codes "'a")) ∷ None ∷ []))) 1 0 10)
    -- &u8
    × (types_of.typ 8 (m 0 (codes "&") ∷ k 1 (codes "u8") ∷ []) ≡ read (plain.ref_type (s 0 3) None false (plain.kind_type (s 1 3) kind.U8)) 2 0 3)
    -- &'a mut i64
    × (types_of.typ 8 (m 0 (codes "&") ∷ l 1 (codes "'a") ∷ k 4 (codes "mut") ∷ k 8 (codes "i64") ∷ []) ≡ read (plain.ref_type (s 0 11) (Some (i 1 (codes "'a"))) true (plain.kind_type (s 8 11) kind.I64)) 2 0 11)
unfolding blocks.annotation blocks.let_statement blocks.statements_from blocks.statements blocks.block_of blocks.operand blocks.whole blocks.like blocks.block expressions.chain expressions.call expressions.variant_arguments expressions.input expressions.variant_with expressions.path expressions.field_value expressions.field expressions.struct_literal expressions.print expressions.named expressions.block_value expressions.let_test expressions.test expressions.else_value expressions.conditional expressions.arms_from expressions.arms expressions.match_value expressions.loop_value expressions.while_value expressions.labelled expressions.primary expressions.member expressions.postfix expressions.borrow expressions.borrow_twice expressions.unary expressions.longer expressions.at_strength expressions.return_value expressions.jump expressions.set_or_operand items.derived_name items.derives items.lifetime_parameter items.lifetimes items.bounds_from items.bounds items.bound_lifetime items.bound_lifetimes items.struct_field items.variant items.parameter items.result items.structure items.enumeration items.derived items.function items.rt items.item items.items_from items.file lists.elements_from lists.elements lists.some_elements lists.group numbers.numeral numbers.index_value numbers.number numbers.index operators.operator_at patterns_of.mutable_binding patterns_of.number_pattern patterns_of.negative_pattern patterns_of.variant_pattern patterns_of.long_field patterns_of.short_field patterns_of.field_pattern patterns_of.struct_pattern patterns_of.named_pattern patterns_of.pattern steps.expect steps.sees_word steps.expect_word symbols.keyword symbols.mark symbols.symbol_of symbols.same_symbol types_of.mutability types_of.reference_lifetime types_of.lifetime_argument types_of.named_type types_of.reference types_of.two_references types_of.typ
types_read_0 = (refl, refl, refl, refl, refl, refl)

types_read_1 :
    -- &'_ u32
    (types_of.typ 8 (m 0 (codes "&") ∷ l 1 (codes "'_") ∷ k 4 (codes "u32") ∷ []) ≡ read (plain.ref_type (s 0 7) None false (plain.kind_type (s 4 7) kind.U32)) 2 0 7)
    -- &&mut u8
    × (types_of.typ 8 (m 0 (codes "&&") ∷ k 2 (codes "mut") ∷ k 6 (codes "u8") ∷ []) ≡ read (plain.ref_type (s 0 8) None false (plain.ref_type (s 1 8) None true (plain.kind_type (s 6 8) kind.U8))) 3 0 8)
    -- ()
    × (types_of.typ 8 (m 0 (codes "(") ∷ m 1 (codes ")") ∷ []) ≡ read (plain.tuple_type (s 0 2) plain.no_type) 1 0 2)
    -- (u64)
    × (types_of.typ 8 (m 0 (codes "(") ∷ k 1 (codes "u64") ∷ m 4 (codes ")") ∷ []) ≡ read (plain.kind_type (s 1 4) kind.U64) 2 0 5)
    -- (u8,)
    × (types_of.typ 8 (m 0 (codes "(") ∷ k 1 (codes "u8") ∷ m 3 (codes ",") ∷ m 4 (codes ")") ∷ []) ≡ read (plain.tuple_type (s 0 5) (plain.type_and (plain.kind_type (s 1 3) kind.U8) plain.no_type)) 2 0 5)
    -- (u8, (bool), &i32,)
    × (types_of.typ 8 (m 0 (codes "(") ∷ k 1 (codes "u8") ∷ m 3 (codes ",") ∷ m 5 (codes "(") ∷ k 6 (codes "bool") ∷ m 10 (codes ")") ∷ m 11 (codes ",") ∷ m 13 (codes "&") ∷ k 14 (codes "i32") ∷ m 17 (codes ",") ∷ m 18 (codes ")") ∷ []) ≡ read (plain.tuple_type (s 0 19) (plain.type_and (plain.kind_type (s 1 3) kind.U8) (plain.type_and (plain.bool_type (s 6 10)) (plain.type_and (plain.ref_type (s 13 17) None false (plain.kind_type (s 14 17) kind.I32)) plain.no_type)))) 3 0 19)
unfolding blocks.annotation blocks.let_statement blocks.statements_from blocks.statements blocks.block_of blocks.operand blocks.whole blocks.like blocks.block expressions.chain expressions.call expressions.variant_arguments expressions.input expressions.variant_with expressions.path expressions.field_value expressions.field expressions.struct_literal expressions.print expressions.named expressions.block_value expressions.let_test expressions.test expressions.else_value expressions.conditional expressions.arms_from expressions.arms expressions.match_value expressions.loop_value expressions.while_value expressions.labelled expressions.primary expressions.member expressions.postfix expressions.borrow expressions.borrow_twice expressions.unary expressions.longer expressions.at_strength expressions.return_value expressions.jump expressions.set_or_operand items.derived_name items.derives items.lifetime_parameter items.lifetimes items.bounds_from items.bounds items.bound_lifetime items.bound_lifetimes items.struct_field items.variant items.parameter items.result items.structure items.enumeration items.derived items.function items.rt items.item items.items_from items.file lists.elements_from lists.elements lists.some_elements lists.group numbers.numeral numbers.index_value numbers.number numbers.index operators.operator_at patterns_of.mutable_binding patterns_of.number_pattern patterns_of.negative_pattern patterns_of.variant_pattern patterns_of.long_field patterns_of.short_field patterns_of.field_pattern patterns_of.struct_pattern patterns_of.named_pattern patterns_of.pattern steps.expect steps.sees_word steps.expect_word symbols.keyword symbols.mark symbols.symbol_of symbols.same_symbol types_of.mutability types_of.reference_lifetime types_of.lifetime_argument types_of.named_type types_of.reference types_of.two_references types_of.typ
types_read_1 = (refl, refl, refl, refl, refl, refl)

patterns_read_0 :
    -- _
    (patterns_of.pattern 8 (m 0 (codes "_") ∷ []) ≡ read (plain.wild (s 0 1)) 1 0 1)
    -- x
    × (patterns_of.pattern 8 (n 0 (codes "x") ∷ []) ≡ read (plain.bind (s 0 1) (i 0 (codes "x")) false) 1 0 1)
    -- mut x
    × (patterns_of.pattern 8 (k 0 (codes "mut") ∷ n 4 (codes "x") ∷ []) ≡ read (plain.bind (s 0 5) (i 4 (codes "x")) true) 1 0 5)
    -- 7
    × (patterns_of.pattern 8 (d 0 (codes "7") ∷ []) ≡ read (plain.int_pattern (s 0 1) false 7 None) 1 0 1)
    -- -0x1F_u8
    × (patterns_of.pattern 8 (m 0 (codes "-") ∷ d 1 (codes "0x1F_u8") ∷ []) ≡ read (plain.int_pattern (s 0 8) true 31 (Some kind.U8)) 1 0 8)
unfolding blocks.annotation blocks.let_statement blocks.statements_from blocks.statements blocks.block_of blocks.operand blocks.whole blocks.like blocks.block expressions.chain expressions.call expressions.variant_arguments expressions.input expressions.variant_with expressions.path expressions.field_value expressions.field expressions.struct_literal expressions.print expressions.named expressions.block_value expressions.let_test expressions.test expressions.else_value expressions.conditional expressions.arms_from expressions.arms expressions.match_value expressions.loop_value expressions.while_value expressions.labelled expressions.primary expressions.member expressions.postfix expressions.borrow expressions.borrow_twice expressions.unary expressions.longer expressions.at_strength expressions.return_value expressions.jump expressions.set_or_operand items.derived_name items.derives items.lifetime_parameter items.lifetimes items.bounds_from items.bounds items.bound_lifetime items.bound_lifetimes items.struct_field items.variant items.parameter items.result items.structure items.enumeration items.derived items.function items.rt items.item items.items_from items.file lists.elements_from lists.elements lists.some_elements lists.group numbers.numeral numbers.index_value numbers.number numbers.index operators.operator_at patterns_of.mutable_binding patterns_of.number_pattern patterns_of.negative_pattern patterns_of.variant_pattern patterns_of.long_field patterns_of.short_field patterns_of.field_pattern patterns_of.struct_pattern patterns_of.named_pattern patterns_of.pattern steps.expect steps.sees_word steps.expect_word symbols.keyword symbols.mark symbols.symbol_of symbols.same_symbol types_of.mutability types_of.reference_lifetime types_of.lifetime_argument types_of.named_type types_of.reference types_of.two_references types_of.typ
patterns_read_0 = (refl, refl, refl, refl, refl)

patterns_read_1 :
    -- true
    (patterns_of.pattern 8 (k 0 (codes "true") ∷ []) ≡ read (plain.bool_pattern (s 0 4) true) 1 0 4)
    -- false
    × (patterns_of.pattern 8 (k 0 (codes "false") ∷ []) ≡ read (plain.bool_pattern (s 0 5) false) 1 0 5)
    -- ()
    × (patterns_of.pattern 8 (m 0 (codes "(") ∷ m 1 (codes ")") ∷ []) ≡ read (plain.tuple_pattern (s 0 2) plain.no_pattern) 1 0 2)
    -- (x)
    × (patterns_of.pattern 8 (m 0 (codes "(") ∷ n 1 (codes "x") ∷ m 2 (codes ")") ∷ []) ≡ read (plain.bind (s 1 2) (i 1 (codes "x")) false) 2 0 3)
    -- (x, _)
    × (patterns_of.pattern 8 (m 0 (codes "(") ∷ n 1 (codes "x") ∷ m 2 (codes ",") ∷ m 4 (codes "_") ∷ m 5 (codes ")") ∷ []) ≡ read (plain.tuple_pattern (s 0 6) (plain.pattern_and (plain.bind (s 1 2) (i 1 (codes "x")) false) (plain.pattern_and (plain.wild (s 4 5)) plain.no_pattern))) 2 0 6)
unfolding blocks.annotation blocks.let_statement blocks.statements_from blocks.statements blocks.block_of blocks.operand blocks.whole blocks.like blocks.block expressions.chain expressions.call expressions.variant_arguments expressions.input expressions.variant_with expressions.path expressions.field_value expressions.field expressions.struct_literal expressions.print expressions.named expressions.block_value expressions.let_test expressions.test expressions.else_value expressions.conditional expressions.arms_from expressions.arms expressions.match_value expressions.loop_value expressions.while_value expressions.labelled expressions.primary expressions.member expressions.postfix expressions.borrow expressions.borrow_twice expressions.unary expressions.longer expressions.at_strength expressions.return_value expressions.jump expressions.set_or_operand items.derived_name items.derives items.lifetime_parameter items.lifetimes items.bounds_from items.bounds items.bound_lifetime items.bound_lifetimes items.struct_field items.variant items.parameter items.result items.structure items.enumeration items.derived items.function items.rt items.item items.items_from items.file lists.elements_from lists.elements lists.some_elements lists.group numbers.numeral numbers.index_value numbers.number numbers.index operators.operator_at patterns_of.mutable_binding patterns_of.number_pattern patterns_of.negative_pattern patterns_of.variant_pattern patterns_of.long_field patterns_of.short_field patterns_of.field_pattern patterns_of.struct_pattern patterns_of.named_pattern patterns_of.pattern steps.expect steps.sees_word steps.expect_word symbols.keyword symbols.mark symbols.symbol_of symbols.same_symbol types_of.mutability types_of.reference_lifetime types_of.lifetime_argument types_of.named_type types_of.reference types_of.two_references types_of.typ
patterns_read_1 = (refl, refl, refl, refl, refl)

patterns_read_2 :
    -- (x,)
    (patterns_of.pattern 8 (m 0 (codes "(") ∷ n 1 (codes "x") ∷ m 2 (codes ",") ∷ m 3 (codes ")") ∷ []) ≡ read (plain.tuple_pattern (s 0 4) (plain.pattern_and (plain.bind (s 1 2) (i 1 (codes "x")) false) plain.no_pattern)) 2 0 4)
    -- E::V
    × (patterns_of.pattern 8 (n 0 (codes "E") ∷ m 1 (codes "::") ∷ n 3 (codes "V") ∷ []) ≡ read (plain.variant_pattern (s 0 4) (i 0 (codes "E")) (i 3 (codes "V")) plain.no_pattern) 1 0 4)
    -- E::V(x, -1i64,)
    × (patterns_of.pattern 8 (n 0 (codes "E") ∷ m 1 (codes "::") ∷ n 3 (codes "V") ∷ m 4 (codes "(") ∷ n 5 (codes "x") ∷ m 6 (codes ",") ∷ m 8 (codes "-") ∷ d 9 (codes "1i64") ∷ m 13 (codes ",") ∷ m 14 (codes ")") ∷ []) ≡ read (plain.variant_pattern (s 0 15) (i 0 (codes "E")) (i 3 (codes "V")) (plain.pattern_and (plain.bind (s 5 6) (i 5 (codes "x")) false) (plain.pattern_and (plain.int_pattern (s 8 13) true 1 (Some kind.I64)) plain.no_pattern))) 2 0 15)
    -- S {}
    × (patterns_of.pattern 8 (n 0 (codes "S") ∷ m 2 (codes "{") ∷ m 3 (codes "}") ∷ []) ≡ read (plain.make_pattern (s 0 4) (i 0 (codes "S")) plain.no_field_pattern) 1 0 4)
    -- S { a: _, b, mut c, }
    × (patterns_of.pattern 8 (n 0 (codes "S") ∷ m 2 (codes "{") ∷ n 4 (codes "a") ∷ m 5 (codes ":") ∷ m 7 (codes "_") ∷ m 8 (codes ",") ∷ n 10 (codes "b") ∷ m 11 (codes ",") ∷ k 13 (codes "mut") ∷ n 17 (codes "c") ∷ m 18 (codes ",") ∷ m 20 (codes "}") ∷ []) ≡ read (plain.make_pattern (s 0 21) (i 0 (codes "S")) (plain.field_pattern_and (i 4 (codes "a")) (plain.wild (s 7 8)) (plain.field_pattern_and (i 10 (codes "b")) (plain.bind (s 10 11) (i 10 (codes "b")) false) (plain.field_pattern_and (i 17 (codes "c")) (plain.bind (s 13 18) (i 17 (codes "c")) true) plain.no_field_pattern)))) 2 0 21)
unfolding blocks.annotation blocks.let_statement blocks.statements_from blocks.statements blocks.block_of blocks.operand blocks.whole blocks.like blocks.block expressions.chain expressions.call expressions.variant_arguments expressions.input expressions.variant_with expressions.path expressions.field_value expressions.field expressions.struct_literal expressions.print expressions.named expressions.block_value expressions.let_test expressions.test expressions.else_value expressions.conditional expressions.arms_from expressions.arms expressions.match_value expressions.loop_value expressions.while_value expressions.labelled expressions.primary expressions.member expressions.postfix expressions.borrow expressions.borrow_twice expressions.unary expressions.longer expressions.at_strength expressions.return_value expressions.jump expressions.set_or_operand items.derived_name items.derives items.lifetime_parameter items.lifetimes items.bounds_from items.bounds items.bound_lifetime items.bound_lifetimes items.struct_field items.variant items.parameter items.result items.structure items.enumeration items.derived items.function items.rt items.item items.items_from items.file lists.elements_from lists.elements lists.some_elements lists.group numbers.numeral numbers.index_value numbers.number numbers.index operators.operator_at patterns_of.mutable_binding patterns_of.number_pattern patterns_of.negative_pattern patterns_of.variant_pattern patterns_of.long_field patterns_of.short_field patterns_of.field_pattern patterns_of.struct_pattern patterns_of.named_pattern patterns_of.pattern steps.expect steps.sees_word steps.expect_word symbols.keyword symbols.mark symbols.symbol_of symbols.same_symbol types_of.mutability types_of.reference_lifetime types_of.lifetime_argument types_of.named_type types_of.reference types_of.two_references types_of.typ
patterns_read_2 = (refl, refl, refl, refl, refl)

expressions_read_0 :
    -- 7
    (blocks.whole 16 (d 0 (codes "7") ∷ []) ≡ read (plain.int (s 0 1) 7 None) 1 0 1)
    -- 0b1_01u8
    × (blocks.whole 16 (d 0 (codes "0b1_01u8") ∷ []) ≡ read (plain.int (s 0 8) 5 (Some kind.U8)) 1 0 8)
    -- true
    × (blocks.whole 16 (k 0 (codes "true") ∷ []) ≡ read (plain.bool (s 0 4) true) 1 0 4)
    -- x
    × (blocks.whole 16 (n 0 (codes "x") ∷ []) ≡ read (plain.var (s 0 1) (codes "x")) 1 0 1)
    -- f()
    × (blocks.whole 16 (n 0 (codes "f") ∷ m 1 (codes "(") ∷ m 2 (codes ")") ∷ []) ≡ read (plain.call (s 0 3) (i 0 (codes "f")) plain.no_expression) 1 0 3)
    -- f(a, b,)
    × (blocks.whole 16 (n 0 (codes "f") ∷ m 1 (codes "(") ∷ n 2 (codes "a") ∷ m 3 (codes ",") ∷ n 5 (codes "b") ∷ m 6 (codes ",") ∷ m 7 (codes ")") ∷ []) ≡ read (plain.call (s 0 8) (i 0 (codes "f")) (plain.expression_and (plain.var (s 2 3) (codes "a")) (plain.expression_and (plain.var (s 5 6) (codes "b")) plain.no_expression))) 2 0 8)
unfolding blocks.annotation blocks.let_statement blocks.statements_from blocks.statements blocks.block_of blocks.operand blocks.whole blocks.like blocks.block expressions.chain expressions.call expressions.variant_arguments expressions.input expressions.variant_with expressions.path expressions.field_value expressions.field expressions.struct_literal expressions.print expressions.named expressions.block_value expressions.let_test expressions.test expressions.else_value expressions.conditional expressions.arms_from expressions.arms expressions.match_value expressions.loop_value expressions.while_value expressions.labelled expressions.primary expressions.member expressions.postfix expressions.borrow expressions.borrow_twice expressions.unary expressions.longer expressions.at_strength expressions.return_value expressions.jump expressions.set_or_operand items.derived_name items.derives items.lifetime_parameter items.lifetimes items.bounds_from items.bounds items.bound_lifetime items.bound_lifetimes items.struct_field items.variant items.parameter items.result items.structure items.enumeration items.derived items.function items.rt items.item items.items_from items.file lists.elements_from lists.elements lists.some_elements lists.group numbers.numeral numbers.index_value numbers.number numbers.index operators.operator_at patterns_of.mutable_binding patterns_of.number_pattern patterns_of.negative_pattern patterns_of.variant_pattern patterns_of.long_field patterns_of.short_field patterns_of.field_pattern patterns_of.struct_pattern patterns_of.named_pattern patterns_of.pattern steps.expect steps.sees_word steps.expect_word symbols.keyword symbols.mark symbols.symbol_of symbols.same_symbol types_of.mutability types_of.reference_lifetime types_of.lifetime_argument types_of.named_type types_of.reference types_of.two_references types_of.typ
expressions_read_0 = (refl, refl, refl, refl, refl, refl)

expressions_read_1 :
    -- rt::next()
    (blocks.whole 16 (n 0 (codes "rt") ∷ m 2 (codes "::") ∷ n 4 (codes "next") ∷ m 8 (codes "(") ∷ m 9 (codes ")") ∷ []) ≡ read (plain.next_input (s 0 10)) 1 0 10)
    -- rt::next(x)
    × (blocks.whole 16 (n 0 (codes "rt") ∷ m 2 (codes "::") ∷ n 4 (codes "next") ∷ m 8 (codes "(") ∷ n 9 (codes "x") ∷ m 10 (codes ")") ∷ []) ≡ read (plain.variant (s 0 11) (i 0 (codes "rt")) (i 4 (codes "next")) (plain.a_list (plain.expression_and (plain.var (s 9 10) (codes "x")) plain.no_expression))) 2 0 11)
    -- rt::next
    × (blocks.whole 16 (n 0 (codes "rt") ∷ m 2 (codes "::") ∷ n 4 (codes "next") ∷ []) ≡ read (plain.variant (s 0 8) (i 0 (codes "rt")) (i 4 (codes "next")) plain.no_list) 1 0 8)
    -- E::V
    × (blocks.whole 16 (n 0 (codes "E") ∷ m 1 (codes "::") ∷ n 3 (codes "V") ∷ []) ≡ read (plain.variant (s 0 4) (i 0 (codes "E")) (i 3 (codes "V")) plain.no_list) 1 0 4)
    -- E::V(a,)
    × (blocks.whole 16 (n 0 (codes "E") ∷ m 1 (codes "::") ∷ n 3 (codes "V") ∷ m 4 (codes "(") ∷ n 5 (codes "a") ∷ m 6 (codes ",") ∷ m 7 (codes ")") ∷ []) ≡ read (plain.variant (s 0 8) (i 0 (codes "E")) (i 3 (codes "V")) (plain.a_list (plain.expression_and (plain.var (s 5 6) (codes "a")) plain.no_expression))) 2 0 8)
    -- S {}
    × (blocks.whole 16 (n 0 (codes "S") ∷ m 2 (codes "{") ∷ m 3 (codes "}") ∷ []) ≡ read (plain.make (s 0 4) (i 0 (codes "S")) plain.no_field) 1 0 4)
unfolding blocks.annotation blocks.let_statement blocks.statements_from blocks.statements blocks.block_of blocks.operand blocks.whole blocks.like blocks.block expressions.chain expressions.call expressions.variant_arguments expressions.input expressions.variant_with expressions.path expressions.field_value expressions.field expressions.struct_literal expressions.print expressions.named expressions.block_value expressions.let_test expressions.test expressions.else_value expressions.conditional expressions.arms_from expressions.arms expressions.match_value expressions.loop_value expressions.while_value expressions.labelled expressions.primary expressions.member expressions.postfix expressions.borrow expressions.borrow_twice expressions.unary expressions.longer expressions.at_strength expressions.return_value expressions.jump expressions.set_or_operand items.derived_name items.derives items.lifetime_parameter items.lifetimes items.bounds_from items.bounds items.bound_lifetime items.bound_lifetimes items.struct_field items.variant items.parameter items.result items.structure items.enumeration items.derived items.function items.rt items.item items.items_from items.file lists.elements_from lists.elements lists.some_elements lists.group numbers.numeral numbers.index_value numbers.number numbers.index operators.operator_at patterns_of.mutable_binding patterns_of.number_pattern patterns_of.negative_pattern patterns_of.variant_pattern patterns_of.long_field patterns_of.short_field patterns_of.field_pattern patterns_of.struct_pattern patterns_of.named_pattern patterns_of.pattern steps.expect steps.sees_word steps.expect_word symbols.keyword symbols.mark symbols.symbol_of symbols.same_symbol types_of.mutability types_of.reference_lifetime types_of.lifetime_argument types_of.named_type types_of.reference types_of.two_references types_of.typ
expressions_read_1 = (refl, refl, refl, refl, refl, refl)

expressions_read_2 :
    -- S { a: 1, b, }
    (blocks.whole 16 (n 0 (codes "S") ∷ m 2 (codes "{") ∷ n 4 (codes "a") ∷ m 5 (codes ":") ∷ d 7 (codes "1") ∷ m 8 (codes ",") ∷ n 10 (codes "b") ∷ m 11 (codes ",") ∷ m 13 (codes "}") ∷ []) ≡ read (plain.make (s 0 14) (i 0 (codes "S")) (plain.field_and (i 4 (codes "a")) (plain.int (s 7 8) 1 None) (plain.field_and (i 10 (codes "b")) (plain.var (s 10 11) (codes "b")) plain.no_field))) 2 0 14)
    -- println!("{}", x + 1)
    × (blocks.whole 16 (n 0 (codes "println") ∷ m 7 (codes "!") ∷ m 8 (codes "(") ∷ f 9 ∷ m 13 (codes ",") ∷ n 15 (codes "x") ∷ m 17 (codes "+") ∷ d 19 (codes "1") ∷ m 20 (codes ")") ∷ []) ≡ read (plain.print (s 0 21) (plain.binary (s 15 20) op.Add (plain.var (s 15 16) (codes "x")) (plain.int (s 19 20) 1 None))) 3 0 21)
    -- println
    × (blocks.whole 16 (n 0 (codes "println") ∷ []) ≡ read (plain.var (s 0 7) (codes "println")) 1 0 7)
    -- ()
    × (blocks.whole 16 (m 0 (codes "(") ∷ m 1 (codes ")") ∷ []) ≡ read (plain.tuple (s 0 2) plain.no_expression) 1 0 2)
    -- (x)
    × (blocks.whole 16 (m 0 (codes "(") ∷ n 1 (codes "x") ∷ m 2 (codes ")") ∷ []) ≡ read (plain.var (s 1 2) (codes "x")) 2 0 3)
    -- (x,)
    × (blocks.whole 16 (m 0 (codes "(") ∷ n 1 (codes "x") ∷ m 2 (codes ",") ∷ m 3 (codes ")") ∷ []) ≡ read (plain.tuple (s 0 4) (plain.expression_and (plain.var (s 1 2) (codes "x")) plain.no_expression)) 2 0 4)
unfolding blocks.annotation blocks.let_statement blocks.statements_from blocks.statements blocks.block_of blocks.operand blocks.whole blocks.like blocks.block expressions.chain expressions.call expressions.variant_arguments expressions.input expressions.variant_with expressions.path expressions.field_value expressions.field expressions.struct_literal expressions.print expressions.named expressions.block_value expressions.let_test expressions.test expressions.else_value expressions.conditional expressions.arms_from expressions.arms expressions.match_value expressions.loop_value expressions.while_value expressions.labelled expressions.primary expressions.member expressions.postfix expressions.borrow expressions.borrow_twice expressions.unary expressions.longer expressions.at_strength expressions.return_value expressions.jump expressions.set_or_operand items.derived_name items.derives items.lifetime_parameter items.lifetimes items.bounds_from items.bounds items.bound_lifetime items.bound_lifetimes items.struct_field items.variant items.parameter items.result items.structure items.enumeration items.derived items.function items.rt items.item items.items_from items.file lists.elements_from lists.elements lists.some_elements lists.group numbers.numeral numbers.index_value numbers.number numbers.index operators.operator_at patterns_of.mutable_binding patterns_of.number_pattern patterns_of.negative_pattern patterns_of.variant_pattern patterns_of.long_field patterns_of.short_field patterns_of.field_pattern patterns_of.struct_pattern patterns_of.named_pattern patterns_of.pattern steps.expect steps.sees_word steps.expect_word symbols.keyword symbols.mark symbols.symbol_of symbols.same_symbol types_of.mutability types_of.reference_lifetime types_of.lifetime_argument types_of.named_type types_of.reference types_of.two_references types_of.typ
expressions_read_2 = (refl, refl, refl, refl, refl, refl)

expressions_read_3 :
    -- (x, y,)
    (blocks.whole 16 (m 0 (codes "(") ∷ n 1 (codes "x") ∷ m 2 (codes ",") ∷ n 4 (codes "y") ∷ m 5 (codes ",") ∷ m 6 (codes ")") ∷ []) ≡ read (plain.tuple (s 0 7) (plain.expression_and (plain.var (s 1 2) (codes "x")) (plain.expression_and (plain.var (s 4 5) (codes "y")) plain.no_expression))) 2 0 7)
    -- x.a
    × (blocks.whole 16 (n 0 (codes "x") ∷ m 1 (codes ".") ∷ n 2 (codes "a") ∷ []) ≡ read (plain.field (s 0 3) (plain.var (s 0 1) (codes "x")) (i 2 (codes "a"))) 2 0 3)
    -- x.0.1
    × (blocks.whole 16 (n 0 (codes "x") ∷ m 1 (codes ".") ∷ d 2 (codes "0") ∷ m 3 (codes ".") ∷ d 4 (codes "1") ∷ []) ≡ read (plain.part (s 0 5) (plain.part (s 0 3) (plain.var (s 0 1) (codes "x")) 0) 1) 3 0 5)
    -- S { a }.a
    × (blocks.whole 16 (n 0 (codes "S") ∷ m 2 (codes "{") ∷ n 4 (codes "a") ∷ m 6 (codes "}") ∷ m 7 (codes ".") ∷ n 8 (codes "a") ∷ []) ≡ read (plain.field (s 0 9) (plain.make (s 0 7) (i 0 (codes "S")) (plain.field_and (i 4 (codes "a")) (plain.var (s 4 5) (codes "a")) plain.no_field)) (i 8 (codes "a"))) 3 0 9)
    -- -x
    × (blocks.whole 16 (m 0 (codes "-") ∷ n 1 (codes "x") ∷ []) ≡ read (plain.negate (s 0 2) (plain.var (s 1 2) (codes "x"))) 2 0 2)
    -- !*x
    × (blocks.whole 16 (m 0 (codes "!") ∷ m 1 (codes "*") ∷ n 2 (codes "x") ∷ []) ≡ read (plain.invert (s 0 3) (plain.deref (s 1 3) (plain.var (s 2 3) (codes "x")))) 3 0 3)
unfolding blocks.annotation blocks.let_statement blocks.statements_from blocks.statements blocks.block_of blocks.operand blocks.whole blocks.like blocks.block expressions.chain expressions.call expressions.variant_arguments expressions.input expressions.variant_with expressions.path expressions.field_value expressions.field expressions.struct_literal expressions.print expressions.named expressions.block_value expressions.let_test expressions.test expressions.else_value expressions.conditional expressions.arms_from expressions.arms expressions.match_value expressions.loop_value expressions.while_value expressions.labelled expressions.primary expressions.member expressions.postfix expressions.borrow expressions.borrow_twice expressions.unary expressions.longer expressions.at_strength expressions.return_value expressions.jump expressions.set_or_operand items.derived_name items.derives items.lifetime_parameter items.lifetimes items.bounds_from items.bounds items.bound_lifetime items.bound_lifetimes items.struct_field items.variant items.parameter items.result items.structure items.enumeration items.derived items.function items.rt items.item items.items_from items.file lists.elements_from lists.elements lists.some_elements lists.group numbers.numeral numbers.index_value numbers.number numbers.index operators.operator_at patterns_of.mutable_binding patterns_of.number_pattern patterns_of.negative_pattern patterns_of.variant_pattern patterns_of.long_field patterns_of.short_field patterns_of.field_pattern patterns_of.struct_pattern patterns_of.named_pattern patterns_of.pattern steps.expect steps.sees_word steps.expect_word symbols.keyword symbols.mark symbols.symbol_of symbols.same_symbol types_of.mutability types_of.reference_lifetime types_of.lifetime_argument types_of.named_type types_of.reference types_of.two_references types_of.typ
expressions_read_3 = (refl, refl, refl, refl, refl, refl)

expressions_read_4 :
    -- & mut x
    (blocks.whole 16 (m 0 (codes "&") ∷ k 2 (codes "mut") ∷ n 6 (codes "x") ∷ []) ≡ read (plain.borrow (s 0 7) true (plain.var (s 6 7) (codes "x"))) 2 0 7)
    -- &&x
    × (blocks.whole 16 (m 0 (codes "&&") ∷ n 2 (codes "x") ∷ []) ≡ read (plain.borrow (s 0 3) false (plain.borrow (s 1 3) false (plain.var (s 2 3) (codes "x")))) 3 0 3)
    -- &&mut x
    × (blocks.whole 16 (m 0 (codes "&&") ∷ k 2 (codes "mut") ∷ n 6 (codes "x") ∷ []) ≡ read (plain.borrow (s 0 7) false (plain.borrow (s 1 7) true (plain.var (s 6 7) (codes "x")))) 3 0 7)
    -- -x.a
    × (blocks.whole 16 (m 0 (codes "-") ∷ n 1 (codes "x") ∷ m 2 (codes ".") ∷ n 3 (codes "a") ∷ []) ≡ read (plain.negate (s 0 4) (plain.field (s 1 4) (plain.var (s 1 2) (codes "x")) (i 3 (codes "a")))) 3 0 4)
    -- a * b / c % d
    × (blocks.whole 16 (n 0 (codes "a") ∷ m 2 (codes "*") ∷ n 4 (codes "b") ∷ m 6 (codes "/") ∷ n 8 (codes "c") ∷ m 10 (codes "%") ∷ n 12 (codes "d") ∷ []) ≡ read (plain.binary (s 0 13) op.Rem (plain.binary (s 0 9) op.Div (plain.binary (s 0 5) op.Mul (plain.var (s 0 1) (codes "a")) (plain.var (s 4 5) (codes "b"))) (plain.var (s 8 9) (codes "c"))) (plain.var (s 12 13) (codes "d"))) 4 0 13)
    -- (a) + b
    × (blocks.whole 16 (m 0 (codes "(") ∷ n 1 (codes "a") ∷ m 2 (codes ")") ∷ m 4 (codes "+") ∷ n 6 (codes "b") ∷ []) ≡ read (plain.binary (s 0 7) op.Add (plain.var (s 1 2) (codes "a")) (plain.var (s 6 7) (codes "b"))) 3 0 7)
unfolding blocks.annotation blocks.let_statement blocks.statements_from blocks.statements blocks.block_of blocks.operand blocks.whole blocks.like blocks.block expressions.chain expressions.call expressions.variant_arguments expressions.input expressions.variant_with expressions.path expressions.field_value expressions.field expressions.struct_literal expressions.print expressions.named expressions.block_value expressions.let_test expressions.test expressions.else_value expressions.conditional expressions.arms_from expressions.arms expressions.match_value expressions.loop_value expressions.while_value expressions.labelled expressions.primary expressions.member expressions.postfix expressions.borrow expressions.borrow_twice expressions.unary expressions.longer expressions.at_strength expressions.return_value expressions.jump expressions.set_or_operand items.derived_name items.derives items.lifetime_parameter items.lifetimes items.bounds_from items.bounds items.bound_lifetime items.bound_lifetimes items.struct_field items.variant items.parameter items.result items.structure items.enumeration items.derived items.function items.rt items.item items.items_from items.file lists.elements_from lists.elements lists.some_elements lists.group numbers.numeral numbers.index_value numbers.number numbers.index operators.operator_at patterns_of.mutable_binding patterns_of.number_pattern patterns_of.negative_pattern patterns_of.variant_pattern patterns_of.long_field patterns_of.short_field patterns_of.field_pattern patterns_of.struct_pattern patterns_of.named_pattern patterns_of.pattern steps.expect steps.sees_word steps.expect_word symbols.keyword symbols.mark symbols.symbol_of symbols.same_symbol types_of.mutability types_of.reference_lifetime types_of.lifetime_argument types_of.named_type types_of.reference types_of.two_references types_of.typ
expressions_read_4 = (refl, refl, refl, refl, refl, refl)

expressions_read_5 :
    -- a + b - c * d
    (blocks.whole 16 (n 0 (codes "a") ∷ m 2 (codes "+") ∷ n 4 (codes "b") ∷ m 6 (codes "-") ∷ n 8 (codes "c") ∷ m 10 (codes "*") ∷ n 12 (codes "d") ∷ []) ≡ read (plain.binary (s 0 13) op.Sub (plain.binary (s 0 5) op.Add (plain.var (s 0 1) (codes "a")) (plain.var (s 4 5) (codes "b"))) (plain.binary (s 8 13) op.Mul (plain.var (s 8 9) (codes "c")) (plain.var (s 12 13) (codes "d")))) 3 0 13)
    -- a < b
    × (blocks.whole 16 (n 0 (codes "a") ∷ m 2 (codes "<") ∷ n 4 (codes "b") ∷ []) ≡ read (plain.binary (s 0 5) op.Lt (plain.var (s 0 1) (codes "a")) (plain.var (s 4 5) (codes "b"))) 2 0 5)
    -- a + b == c
    × (blocks.whole 16 (n 0 (codes "a") ∷ m 2 (codes "+") ∷ n 4 (codes "b") ∷ m 6 (codes "==") ∷ n 9 (codes "c") ∷ []) ≡ read (plain.binary (s 0 10) op.Eq (plain.binary (s 0 5) op.Add (plain.var (s 0 1) (codes "a")) (plain.var (s 4 5) (codes "b"))) (plain.var (s 9 10) (codes "c"))) 3 0 10)
    -- a && b || c && d
    × (blocks.whole 16 (n 0 (codes "a") ∷ m 2 (codes "&&") ∷ n 5 (codes "b") ∷ m 7 (codes "||") ∷ n 10 (codes "c") ∷ m 12 (codes "&&") ∷ n 15 (codes "d") ∷ []) ≡ read (plain.binary (s 0 16) op.Or (plain.binary (s 0 6) op.And (plain.var (s 0 1) (codes "a")) (plain.var (s 5 6) (codes "b"))) (plain.binary (s 10 16) op.And (plain.var (s 10 11) (codes "c")) (plain.var (s 15 16) (codes "d")))) 3 0 16)
    -- a = b = c
    × (blocks.whole 16 (n 0 (codes "a") ∷ m 2 (codes "=") ∷ n 4 (codes "b") ∷ m 6 (codes "=") ∷ n 8 (codes "c") ∷ []) ≡ read (plain.assign (s 0 9) (plain.var (s 0 1) (codes "a")) (plain.assign (s 4 9) (plain.var (s 4 5) (codes "b")) (plain.var (s 8 9) (codes "c")))) 3 0 9)
    -- a.b += c
    × (blocks.whole 16 (n 0 (codes "a") ∷ m 1 (codes ".") ∷ n 2 (codes "b") ∷ m 4 (codes "+=") ∷ n 7 (codes "c") ∷ []) ≡ read (plain.update (s 0 8) update.Add (plain.field (s 0 3) (plain.var (s 0 1) (codes "a")) (i 2 (codes "b"))) (plain.var (s 7 8) (codes "c"))) 3 0 8)
unfolding blocks.annotation blocks.let_statement blocks.statements_from blocks.statements blocks.block_of blocks.operand blocks.whole blocks.like blocks.block expressions.chain expressions.call expressions.variant_arguments expressions.input expressions.variant_with expressions.path expressions.field_value expressions.field expressions.struct_literal expressions.print expressions.named expressions.block_value expressions.let_test expressions.test expressions.else_value expressions.conditional expressions.arms_from expressions.arms expressions.match_value expressions.loop_value expressions.while_value expressions.labelled expressions.primary expressions.member expressions.postfix expressions.borrow expressions.borrow_twice expressions.unary expressions.longer expressions.at_strength expressions.return_value expressions.jump expressions.set_or_operand items.derived_name items.derives items.lifetime_parameter items.lifetimes items.bounds_from items.bounds items.bound_lifetime items.bound_lifetimes items.struct_field items.variant items.parameter items.result items.structure items.enumeration items.derived items.function items.rt items.item items.items_from items.file lists.elements_from lists.elements lists.some_elements lists.group numbers.numeral numbers.index_value numbers.number numbers.index operators.operator_at patterns_of.mutable_binding patterns_of.number_pattern patterns_of.negative_pattern patterns_of.variant_pattern patterns_of.long_field patterns_of.short_field patterns_of.field_pattern patterns_of.struct_pattern patterns_of.named_pattern patterns_of.pattern steps.expect steps.sees_word steps.expect_word symbols.keyword symbols.mark symbols.symbol_of symbols.same_symbol types_of.mutability types_of.reference_lifetime types_of.lifetime_argument types_of.named_type types_of.reference types_of.two_references types_of.typ
expressions_read_5 = (refl, refl, refl, refl, refl, refl)

expressions_read_6 :
    -- a -= -b
    (blocks.whole 16 (n 0 (codes "a") ∷ m 2 (codes "-=") ∷ m 5 (codes "-") ∷ n 6 (codes "b") ∷ []) ≡ read (plain.update (s 0 7) update.Sub (plain.var (s 0 1) (codes "a")) (plain.negate (s 5 7) (plain.var (s 6 7) (codes "b")))) 3 0 7)
    -- return
    × (blocks.whole 16 (k 0 (codes "return") ∷ []) ≡ read (plain.return (s 0 6) plain.absent) 1 0 6)
    -- return x
    × (blocks.whole 16 (k 0 (codes "return") ∷ n 7 (codes "x") ∷ []) ≡ read (plain.return (s 0 8) (plain.present (plain.var (s 7 8) (codes "x")))) 2 0 8)
    -- return {} == x
    × (blocks.whole 16 (k 0 (codes "return") ∷ m 7 (codes "{") ∷ m 8 (codes "}") ∷ m 10 (codes "==") ∷ n 13 (codes "x") ∷ []) ≡ read (plain.return (s 0 14) (plain.present (plain.binary (s 7 14) op.Eq (plain.block (s 7 9) (plain.body (s 7 9) plain.no_statement plain.absent)) (plain.var (s 13 14) (codes "x"))))) 4 0 14)
    -- break
    × (blocks.whole 16 (k 0 (codes "break") ∷ []) ≡ read (plain.break (s 0 5) None) 1 0 5)
    -- break 'a
    × (blocks.whole 16 (k 0 (codes "break") ∷ l 6 (codes "'a") ∷ []) ≡ read (plain.break (s 0 8) (Some (i 6 (codes "'a")))) 1 0 8)
unfolding blocks.annotation blocks.let_statement blocks.statements_from blocks.statements blocks.block_of blocks.operand blocks.whole blocks.like blocks.block expressions.chain expressions.call expressions.variant_arguments expressions.input expressions.variant_with expressions.path expressions.field_value expressions.field expressions.struct_literal expressions.print expressions.named expressions.block_value expressions.let_test expressions.test expressions.else_value expressions.conditional expressions.arms_from expressions.arms expressions.match_value expressions.loop_value expressions.while_value expressions.labelled expressions.primary expressions.member expressions.postfix expressions.borrow expressions.borrow_twice expressions.unary expressions.longer expressions.at_strength expressions.return_value expressions.jump expressions.set_or_operand items.derived_name items.derives items.lifetime_parameter items.lifetimes items.bounds_from items.bounds items.bound_lifetime items.bound_lifetimes items.struct_field items.variant items.parameter items.result items.structure items.enumeration items.derived items.function items.rt items.item items.items_from items.file lists.elements_from lists.elements lists.some_elements lists.group numbers.numeral numbers.index_value numbers.number numbers.index operators.operator_at patterns_of.mutable_binding patterns_of.number_pattern patterns_of.negative_pattern patterns_of.variant_pattern patterns_of.long_field patterns_of.short_field patterns_of.field_pattern patterns_of.struct_pattern patterns_of.named_pattern patterns_of.pattern steps.expect steps.sees_word steps.expect_word symbols.keyword symbols.mark symbols.symbol_of symbols.same_symbol types_of.mutability types_of.reference_lifetime types_of.lifetime_argument types_of.named_type types_of.reference types_of.two_references types_of.typ
expressions_read_6 = (refl, refl, refl, refl, refl, refl)

expressions_read_7 :
    -- continue
    (blocks.whole 16 (k 0 (codes "continue") ∷ []) ≡ read (plain.continue (s 0 8) None) 1 0 8)
    -- continue 'a
    × (blocks.whole 16 (k 0 (codes "continue") ∷ l 9 (codes "'a") ∷ []) ≡ read (plain.continue (s 0 11) (Some (i 9 (codes "'a")))) 1 0 11)
    -- {}
    × (blocks.whole 16 (m 0 (codes "{") ∷ m 1 (codes "}") ∷ []) ≡ read (plain.block (s 0 2) (plain.body (s 0 2) plain.no_statement plain.absent)) 2 0 2)
    -- { x }
    × (blocks.whole 16 (m 0 (codes "{") ∷ n 2 (codes "x") ∷ m 4 (codes "}") ∷ []) ≡ read (plain.block (s 0 5) (plain.body (s 0 5) plain.no_statement (plain.present (plain.var (s 2 3) (codes "x"))))) 3 0 5)
    -- { x; y }
    × (blocks.whole 16 (m 0 (codes "{") ∷ n 2 (codes "x") ∷ m 3 (codes ";") ∷ n 5 (codes "y") ∷ m 7 (codes "}") ∷ []) ≡ read (plain.block (s 0 8) (plain.body (s 0 8) (plain.statement_and (plain.expression_statement (s 2 4) (plain.var (s 2 3) (codes "x")) true) plain.no_statement) (plain.present (plain.var (s 5 6) (codes "y"))))) 3 0 8)
    -- { let x = 1; let (a, b): (u8, i64) = f(); let mut y; let z: u8; }
    × (blocks.whole 16 (m 0 (codes "{") ∷ k 2 (codes "let") ∷ n 6 (codes "x") ∷ m 8 (codes "=") ∷ d 10 (codes "1") ∷ m 11 (codes ";") ∷ k 13 (codes "let") ∷ m 17 (codes "(") ∷ n 18 (codes "a") ∷ m 19 (codes ",") ∷ n 21 (codes "b") ∷ m 22 (codes ")") ∷ m 23 (codes ":") ∷ m 25 (codes "(") ∷ k 26 (codes "u8") ∷ m 28 (codes ",") ∷ k 30 (codes "i64") ∷ m 33 (codes ")") ∷ m 35 (codes "=") ∷ n 37 (codes "f") ∷ m 38 (codes "(") ∷ m 39 (codes ")") ∷ m 40 (codes ";") ∷ k 42 (codes "let") ∷ k 46 (codes "mut") ∷ n 50 (codes "y") ∷ m 51 (codes ";") ∷ k 53 (codes "let") ∷ n 57 (codes "z") ∷ m 58 (codes ":") ∷ k 60 (codes "u8") ∷ m 62 (codes ";") ∷ m 64 (codes "}") ∷ []) ≡ read (plain.block (s 0 65) (plain.body (s 0 65) (plain.statement_and (plain.let_statement (s 2 12) (plain.bind (s 6 7) (i 6 (codes "x")) false) None (plain.present (plain.int (s 10 11) 1 None))) (plain.statement_and (plain.let_statement (s 13 41) (plain.tuple_pattern (s 17 23) (plain.pattern_and (plain.bind (s 18 19) (i 18 (codes "a")) false) (plain.pattern_and (plain.bind (s 21 22) (i 21 (codes "b")) false) plain.no_pattern))) (Some (plain.tuple_type (s 25 34) (plain.type_and (plain.kind_type (s 26 28) kind.U8) (plain.type_and (plain.kind_type (s 30 33) kind.I64) plain.no_type)))) (plain.present (plain.call (s 37 40) (i 37 (codes "f")) plain.no_expression))) (plain.statement_and (plain.let_statement (s 42 52) (plain.bind (s 46 51) (i 50 (codes "y")) true) None plain.absent) (plain.statement_and (plain.let_statement (s 53 63) (plain.bind (s 57 58) (i 57 (codes "z")) false) (Some (plain.kind_type (s 60 62) kind.U8)) plain.absent) plain.no_statement)))) plain.absent)) 4 0 65)
unfolding blocks.annotation blocks.let_statement blocks.statements_from blocks.statements blocks.block_of blocks.operand blocks.whole blocks.like blocks.block expressions.chain expressions.call expressions.variant_arguments expressions.input expressions.variant_with expressions.path expressions.field_value expressions.field expressions.struct_literal expressions.print expressions.named expressions.block_value expressions.let_test expressions.test expressions.else_value expressions.conditional expressions.arms_from expressions.arms expressions.match_value expressions.loop_value expressions.while_value expressions.labelled expressions.primary expressions.member expressions.postfix expressions.borrow expressions.borrow_twice expressions.unary expressions.longer expressions.at_strength expressions.return_value expressions.jump expressions.set_or_operand items.derived_name items.derives items.lifetime_parameter items.lifetimes items.bounds_from items.bounds items.bound_lifetime items.bound_lifetimes items.struct_field items.variant items.parameter items.result items.structure items.enumeration items.derived items.function items.rt items.item items.items_from items.file lists.elements_from lists.elements lists.some_elements lists.group numbers.numeral numbers.index_value numbers.number numbers.index operators.operator_at patterns_of.mutable_binding patterns_of.number_pattern patterns_of.negative_pattern patterns_of.variant_pattern patterns_of.long_field patterns_of.short_field patterns_of.field_pattern patterns_of.struct_pattern patterns_of.named_pattern patterns_of.pattern steps.expect steps.sees_word steps.expect_word symbols.keyword symbols.mark symbols.symbol_of symbols.same_symbol types_of.mutability types_of.reference_lifetime types_of.lifetime_argument types_of.named_type types_of.reference types_of.two_references types_of.typ
expressions_read_7 = (refl, refl, refl, refl, refl, refl)

expressions_read_8 :
    -- { {} {}; - b }
    (blocks.whole 16 (m 0 (codes "{") ∷ m 2 (codes "{") ∷ m 3 (codes "}") ∷ m 5 (codes "{") ∷ m 6 (codes "}") ∷ m 7 (codes ";") ∷ m 9 (codes "-") ∷ n 11 (codes "b") ∷ m 13 (codes "}") ∷ []) ≡ read (plain.block (s 0 14) (plain.body (s 0 14) (plain.statement_and (plain.expression_statement (s 2 4) (plain.block (s 2 4) (plain.body (s 2 4) plain.no_statement plain.absent)) false) (plain.statement_and (plain.expression_statement (s 5 8) (plain.block (s 5 7) (plain.body (s 5 7) plain.no_statement plain.absent)) true) plain.no_statement)) (plain.present (plain.negate (s 9 12) (plain.var (s 11 12) (codes "b")))))) 4 0 14)
    -- { {a} - b }
    × (blocks.whole 16 (m 0 (codes "{") ∷ m 2 (codes "{") ∷ n 3 (codes "a") ∷ m 4 (codes "}") ∷ m 6 (codes "-") ∷ n 8 (codes "b") ∷ m 10 (codes "}") ∷ []) ≡ read (plain.block (s 0 11) (plain.body (s 0 11) (plain.statement_and (plain.expression_statement (s 2 5) (plain.block (s 2 5) (plain.body (s 2 5) plain.no_statement (plain.present (plain.var (s 3 4) (codes "a"))))) false) plain.no_statement) (plain.present (plain.negate (s 6 9) (plain.var (s 8 9) (codes "b")))))) 5 0 11)
    -- if a {}
    × (blocks.whole 16 (k 0 (codes "if") ∷ n 3 (codes "a") ∷ m 5 (codes "{") ∷ m 6 (codes "}") ∷ []) ≡ read (plain.if (s 0 7) (plain.var (s 3 4) (codes "a")) (plain.body (s 5 7) plain.no_statement plain.absent) plain.absent) 2 0 7)
    -- if a == S {} else {}
    × (blocks.whole 16 (k 0 (codes "if") ∷ n 3 (codes "a") ∷ m 5 (codes "==") ∷ n 8 (codes "S") ∷ m 10 (codes "{") ∷ m 11 (codes "}") ∷ k 13 (codes "else") ∷ m 18 (codes "{") ∷ m 19 (codes "}") ∷ []) ≡ read (plain.if (s 0 20) (plain.binary (s 3 9) op.Eq (plain.var (s 3 4) (codes "a")) (plain.var (s 8 9) (codes "S"))) (plain.body (s 10 12) plain.no_statement plain.absent) (plain.present (plain.block (s 18 20) (plain.body (s 18 20) plain.no_statement plain.absent)))) 3 0 20)
    -- if a {} else if b {} else {}
    × (blocks.whole 16 (k 0 (codes "if") ∷ n 3 (codes "a") ∷ m 5 (codes "{") ∷ m 6 (codes "}") ∷ k 8 (codes "else") ∷ k 13 (codes "if") ∷ n 16 (codes "b") ∷ m 18 (codes "{") ∷ m 19 (codes "}") ∷ k 21 (codes "else") ∷ m 26 (codes "{") ∷ m 27 (codes "}") ∷ []) ≡ read (plain.if (s 0 28) (plain.var (s 3 4) (codes "a")) (plain.body (s 5 7) plain.no_statement plain.absent) (plain.present (plain.if (s 13 28) (plain.var (s 16 17) (codes "b")) (plain.body (s 18 20) plain.no_statement plain.absent) (plain.present (plain.block (s 26 28) (plain.body (s 26 28) plain.no_statement plain.absent)))))) 4 0 28)
    -- if (S {} == a) {}
    × (blocks.whole 16 (k 0 (codes "if") ∷ m 3 (codes "(") ∷ n 4 (codes "S") ∷ m 6 (codes "{") ∷ m 7 (codes "}") ∷ m 9 (codes "==") ∷ n 12 (codes "a") ∷ m 13 (codes ")") ∷ m 15 (codes "{") ∷ m 16 (codes "}") ∷ []) ≡ read (plain.if (s 0 17) (plain.binary (s 4 13) op.Eq (plain.make (s 4 8) (i 4 (codes "S")) plain.no_field) (plain.var (s 12 13) (codes "a"))) (plain.body (s 15 17) plain.no_statement plain.absent) plain.absent) 4 0 17)
unfolding blocks.annotation blocks.let_statement blocks.statements_from blocks.statements blocks.block_of blocks.operand blocks.whole blocks.like blocks.block expressions.chain expressions.call expressions.variant_arguments expressions.input expressions.variant_with expressions.path expressions.field_value expressions.field expressions.struct_literal expressions.print expressions.named expressions.block_value expressions.let_test expressions.test expressions.else_value expressions.conditional expressions.arms_from expressions.arms expressions.match_value expressions.loop_value expressions.while_value expressions.labelled expressions.primary expressions.member expressions.postfix expressions.borrow expressions.borrow_twice expressions.unary expressions.longer expressions.at_strength expressions.return_value expressions.jump expressions.set_or_operand items.derived_name items.derives items.lifetime_parameter items.lifetimes items.bounds_from items.bounds items.bound_lifetime items.bound_lifetimes items.struct_field items.variant items.parameter items.result items.structure items.enumeration items.derived items.function items.rt items.item items.items_from items.file lists.elements_from lists.elements lists.some_elements lists.group numbers.numeral numbers.index_value numbers.number numbers.index operators.operator_at patterns_of.mutable_binding patterns_of.number_pattern patterns_of.negative_pattern patterns_of.variant_pattern patterns_of.long_field patterns_of.short_field patterns_of.field_pattern patterns_of.struct_pattern patterns_of.named_pattern patterns_of.pattern steps.expect steps.sees_word steps.expect_word symbols.keyword symbols.mark symbols.symbol_of symbols.same_symbol types_of.mutability types_of.reference_lifetime types_of.lifetime_argument types_of.named_type types_of.reference types_of.two_references types_of.typ
expressions_read_8 = (refl, refl, refl, refl, refl, refl)

expressions_read_9 :
    -- match x { _ => 1 }
    (blocks.whole 16 (k 0 (codes "match") ∷ n 6 (codes "x") ∷ m 8 (codes "{") ∷ m 10 (codes "_") ∷ m 12 (codes "=>") ∷ d 15 (codes "1") ∷ m 17 (codes "}") ∷ []) ≡ read (plain.match (s 0 18) (plain.var (s 6 7) (codes "x")) (plain.arm_and (plain.wild (s 10 11)) (plain.int (s 15 16) 1 None) plain.no_arm)) 2 0 18)
    -- match x { 1 => {} 2 => {}, _ => a, }
    × (blocks.whole 16 (k 0 (codes "match") ∷ n 6 (codes "x") ∷ m 8 (codes "{") ∷ d 10 (codes "1") ∷ m 12 (codes "=>") ∷ m 15 (codes "{") ∷ m 16 (codes "}") ∷ d 18 (codes "2") ∷ m 20 (codes "=>") ∷ m 23 (codes "{") ∷ m 24 (codes "}") ∷ m 25 (codes ",") ∷ m 27 (codes "_") ∷ m 29 (codes "=>") ∷ n 32 (codes "a") ∷ m 33 (codes ",") ∷ m 35 (codes "}") ∷ []) ≡ read (plain.match (s 0 36) (plain.var (s 6 7) (codes "x")) (plain.arm_and (plain.int_pattern (s 10 11) false 1 None) (plain.block (s 15 17) (plain.body (s 15 17) plain.no_statement plain.absent)) (plain.arm_and (plain.int_pattern (s 18 19) false 2 None) (plain.block (s 23 25) (plain.body (s 23 25) plain.no_statement plain.absent)) (plain.arm_and (plain.wild (s 27 28)) (plain.var (s 32 33) (codes "a")) plain.no_arm)))) 3 0 36)
    -- match x { _ => if a {} _ => return, }
    × (blocks.whole 16 (k 0 (codes "match") ∷ n 6 (codes "x") ∷ m 8 (codes "{") ∷ m 10 (codes "_") ∷ m 12 (codes "=>") ∷ k 15 (codes "if") ∷ n 18 (codes "a") ∷ m 20 (codes "{") ∷ m 21 (codes "}") ∷ m 23 (codes "_") ∷ m 25 (codes "=>") ∷ k 28 (codes "return") ∷ m 34 (codes ",") ∷ m 36 (codes "}") ∷ []) ≡ read (plain.match (s 0 37) (plain.var (s 6 7) (codes "x")) (plain.arm_and (plain.wild (s 10 11)) (plain.if (s 15 22) (plain.var (s 18 19) (codes "a")) (plain.body (s 20 22) plain.no_statement plain.absent) plain.absent) (plain.arm_and (plain.wild (s 23 24)) (plain.return (s 28 34) plain.absent) plain.no_arm))) 3 0 37)
    -- loop {}
    × (blocks.whole 16 (k 0 (codes "loop") ∷ m 5 (codes "{") ∷ m 6 (codes "}") ∷ []) ≡ read (plain.loop (s 0 7) None (plain.body (s 5 7) plain.no_statement plain.absent)) 2 0 7)
    -- 'a: loop { break 'a; }
    × (blocks.whole 16 (l 0 (codes "'a") ∷ m 2 (codes ":") ∷ k 4 (codes "loop") ∷ m 9 (codes "{") ∷ k 11 (codes "break") ∷ l 17 (codes "'a") ∷ m 19 (codes ";") ∷ m 21 (codes "}") ∷ []) ≡ read (plain.loop (s 0 22) (Some (i 0 (codes "'a"))) (plain.body (s 9 22) (plain.statement_and (plain.expression_statement (s 11 20) (plain.break (s 11 19) (Some (i 17 (codes "'a")))) true) plain.no_statement) plain.absent)) 3 0 22)
    -- while a.b {}
    × (blocks.whole 16 (k 0 (codes "while") ∷ n 6 (codes "a") ∷ m 7 (codes ".") ∷ n 8 (codes "b") ∷ m 10 (codes "{") ∷ m 11 (codes "}") ∷ []) ≡ read (plain.while (s 0 12) None (plain.field (s 6 9) (plain.var (s 6 7) (codes "a")) (i 8 (codes "b"))) (plain.body (s 10 12) plain.no_statement plain.absent)) 3 0 12)
unfolding blocks.annotation blocks.let_statement blocks.statements_from blocks.statements blocks.block_of blocks.operand blocks.whole blocks.like blocks.block expressions.chain expressions.call expressions.variant_arguments expressions.input expressions.variant_with expressions.path expressions.field_value expressions.field expressions.struct_literal expressions.print expressions.named expressions.block_value expressions.let_test expressions.test expressions.else_value expressions.conditional expressions.arms_from expressions.arms expressions.match_value expressions.loop_value expressions.while_value expressions.labelled expressions.primary expressions.member expressions.postfix expressions.borrow expressions.borrow_twice expressions.unary expressions.longer expressions.at_strength expressions.return_value expressions.jump expressions.set_or_operand items.derived_name items.derives items.lifetime_parameter items.lifetimes items.bounds_from items.bounds items.bound_lifetime items.bound_lifetimes items.struct_field items.variant items.parameter items.result items.structure items.enumeration items.derived items.function items.rt items.item items.items_from items.file lists.elements_from lists.elements lists.some_elements lists.group numbers.numeral numbers.index_value numbers.number numbers.index operators.operator_at patterns_of.mutable_binding patterns_of.number_pattern patterns_of.negative_pattern patterns_of.variant_pattern patterns_of.long_field patterns_of.short_field patterns_of.field_pattern patterns_of.struct_pattern patterns_of.named_pattern patterns_of.pattern steps.expect steps.sees_word steps.expect_word symbols.keyword symbols.mark symbols.symbol_of symbols.same_symbol types_of.mutability types_of.reference_lifetime types_of.lifetime_argument types_of.named_type types_of.reference types_of.two_references types_of.typ
expressions_read_9 = (refl, refl, refl, refl, refl, refl)

expressions_read_10 :
    -- 'b: while {a} {}
    (blocks.whole 16 (l 0 (codes "'b") ∷ m 2 (codes ":") ∷ k 4 (codes "while") ∷ m 10 (codes "{") ∷ n 11 (codes "a") ∷ m 12 (codes "}") ∷ m 14 (codes "{") ∷ m 15 (codes "}") ∷ []) ≡ read (plain.while (s 0 16) (Some (i 0 (codes "'b"))) (plain.block (s 10 13) (plain.body (s 10 13) plain.no_statement (plain.present (plain.var (s 11 12) (codes "a"))))) (plain.body (s 14 16) plain.no_statement plain.absent)) 4 0 16)
    -- { if a {} (b) }
    × (blocks.whole 16 (m 0 (codes "{") ∷ k 2 (codes "if") ∷ n 5 (codes "a") ∷ m 7 (codes "{") ∷ m 8 (codes "}") ∷ m 10 (codes "(") ∷ n 11 (codes "b") ∷ m 12 (codes ")") ∷ m 14 (codes "}") ∷ []) ≡ read (plain.block (s 0 15) (plain.body (s 0 15) (plain.statement_and (plain.expression_statement (s 2 9) (plain.if (s 2 9) (plain.var (s 5 6) (codes "a")) (plain.body (s 7 9) plain.no_statement plain.absent) plain.absent) false) plain.no_statement) (plain.present (plain.var (s 11 12) (codes "b"))))) 4 0 15)
    -- { (a); (b) = c; }
    × (blocks.whole 16 (m 0 (codes "{") ∷ m 2 (codes "(") ∷ n 3 (codes "a") ∷ m 4 (codes ")") ∷ m 5 (codes ";") ∷ m 7 (codes "(") ∷ n 8 (codes "b") ∷ m 9 (codes ")") ∷ m 11 (codes "=") ∷ n 13 (codes "c") ∷ m 14 (codes ";") ∷ m 16 (codes "}") ∷ []) ≡ read (plain.block (s 0 17) (plain.body (s 0 17) (plain.statement_and (plain.expression_statement (s 2 6) (plain.var (s 3 4) (codes "a")) true) (plain.statement_and (plain.expression_statement (s 7 15) (plain.assign (s 7 14) (plain.var (s 8 9) (codes "b")) (plain.var (s 13 14) (codes "c"))) true) plain.no_statement)) plain.absent)) 5 0 17)
unfolding blocks.annotation blocks.let_statement blocks.statements_from blocks.statements blocks.block_of blocks.operand blocks.whole blocks.like blocks.block expressions.chain expressions.call expressions.variant_arguments expressions.input expressions.variant_with expressions.path expressions.field_value expressions.field expressions.struct_literal expressions.print expressions.named expressions.block_value expressions.let_test expressions.test expressions.else_value expressions.conditional expressions.arms_from expressions.arms expressions.match_value expressions.loop_value expressions.while_value expressions.labelled expressions.primary expressions.member expressions.postfix expressions.borrow expressions.borrow_twice expressions.unary expressions.longer expressions.at_strength expressions.return_value expressions.jump expressions.set_or_operand items.derived_name items.derives items.lifetime_parameter items.lifetimes items.bounds_from items.bounds items.bound_lifetime items.bound_lifetimes items.struct_field items.variant items.parameter items.result items.structure items.enumeration items.derived items.function items.rt items.item items.items_from items.file lists.elements_from lists.elements lists.some_elements lists.group numbers.numeral numbers.index_value numbers.number numbers.index operators.operator_at patterns_of.mutable_binding patterns_of.number_pattern patterns_of.negative_pattern patterns_of.variant_pattern patterns_of.long_field patterns_of.short_field patterns_of.field_pattern patterns_of.struct_pattern patterns_of.named_pattern patterns_of.pattern steps.expect steps.sees_word steps.expect_word symbols.keyword symbols.mark symbols.symbol_of symbols.same_symbol types_of.mutability types_of.reference_lifetime types_of.lifetime_argument types_of.named_type types_of.reference types_of.two_references types_of.typ
expressions_read_10 = (refl, refl, refl)

expressions_read_11 :
    -- if let 1 = 2 {}
    (blocks.whole 16 (k 0 (codes "if") ∷ k 3 (codes "let") ∷ d 7 (codes "1") ∷ m 9 (codes "=") ∷ d 11 (codes "2") ∷ m 13 (codes "{") ∷ m 14 (codes "}") ∷ []) ≡ read (plain.if_let (s 0 15) (plain.int_pattern (s 7 8) false 1 None) (plain.int (s 11 12) 2 None) (plain.body (s 13 15) plain.no_statement plain.absent) plain.absent) 2 0 15)
    -- if let x = a {} else {}
    × (blocks.whole 16 (k 0 (codes "if") ∷ k 3 (codes "let") ∷ n 7 (codes "x") ∷ m 9 (codes "=") ∷ n 11 (codes "a") ∷ m 13 (codes "{") ∷ m 14 (codes "}") ∷ k 16 (codes "else") ∷ m 21 (codes "{") ∷ m 22 (codes "}") ∷ []) ≡ read (plain.if_let (s 0 23) (plain.bind (s 7 8) (i 7 (codes "x")) false) (plain.var (s 11 12) (codes "a")) (plain.body (s 13 15) plain.no_statement plain.absent) (plain.present (plain.block (s 21 23) (plain.body (s 21 23) plain.no_statement plain.absent)))) 3 0 23)
    -- if let P::A(x) = f(b) { x }
    × (blocks.whole 16 (k 0 (codes "if") ∷ k 3 (codes "let") ∷ n 7 (codes "P") ∷ m 8 (codes "::") ∷ n 10 (codes "A") ∷ m 11 (codes "(") ∷ n 12 (codes "x") ∷ m 13 (codes ")") ∷ m 15 (codes "=") ∷ n 17 (codes "f") ∷ m 18 (codes "(") ∷ n 19 (codes "b") ∷ m 20 (codes ")") ∷ m 22 (codes "{") ∷ n 24 (codes "x") ∷ m 26 (codes "}") ∷ []) ≡ read (plain.if_let (s 0 27) (plain.variant_pattern (s 7 14) (i 7 (codes "P")) (i 10 (codes "A")) (plain.pattern_and (plain.bind (s 12 13) (i 12 (codes "x")) false) plain.no_pattern)) (plain.call (s 17 21) (i 17 (codes "f")) (plain.expression_and (plain.var (s 19 20) (codes "b")) plain.no_expression)) (plain.body (s 22 27) plain.no_statement (plain.present (plain.var (s 24 25) (codes "x")))) plain.absent) 3 0 27)
    -- if let S { x } = s {}
    × (blocks.whole 16 (k 0 (codes "if") ∷ k 3 (codes "let") ∷ n 7 (codes "S") ∷ m 9 (codes "{") ∷ n 11 (codes "x") ∷ m 13 (codes "}") ∷ m 15 (codes "=") ∷ n 17 (codes "s") ∷ m 19 (codes "{") ∷ m 20 (codes "}") ∷ []) ≡ read (plain.if_let (s 0 21) (plain.make_pattern (s 7 14) (i 7 (codes "S")) (plain.field_pattern_and (i 11 (codes "x")) (plain.bind (s 11 12) (i 11 (codes "x")) false) plain.no_field_pattern)) (plain.var (s 17 18) (codes "s")) (plain.body (s 19 21) plain.no_statement plain.absent) plain.absent) 3 0 21)
unfolding blocks.annotation blocks.let_statement blocks.statements_from blocks.statements blocks.block_of blocks.operand blocks.whole blocks.like blocks.block expressions.chain expressions.call expressions.variant_arguments expressions.input expressions.variant_with expressions.path expressions.field_value expressions.field expressions.struct_literal expressions.print expressions.named expressions.block_value expressions.let_test expressions.test expressions.else_value expressions.conditional expressions.arms_from expressions.arms expressions.match_value expressions.loop_value expressions.while_value expressions.labelled expressions.primary expressions.member expressions.postfix expressions.borrow expressions.borrow_twice expressions.unary expressions.longer expressions.at_strength expressions.return_value expressions.jump expressions.set_or_operand items.derived_name items.derives items.lifetime_parameter items.lifetimes items.bounds_from items.bounds items.bound_lifetime items.bound_lifetimes items.struct_field items.variant items.parameter items.result items.structure items.enumeration items.derived items.function items.rt items.item items.items_from items.file lists.elements_from lists.elements lists.some_elements lists.group numbers.numeral numbers.index_value numbers.number numbers.index operators.operator_at patterns_of.mutable_binding patterns_of.number_pattern patterns_of.negative_pattern patterns_of.variant_pattern patterns_of.long_field patterns_of.short_field patterns_of.field_pattern patterns_of.struct_pattern patterns_of.named_pattern patterns_of.pattern steps.expect steps.sees_word steps.expect_word symbols.keyword symbols.mark symbols.symbol_of symbols.same_symbol types_of.mutability types_of.reference_lifetime types_of.lifetime_argument types_of.named_type types_of.reference types_of.two_references types_of.typ
expressions_read_11 = (refl, refl, refl, refl)

expressions_read_12 :
    -- if let (a, b) = (1, 2) {}
    (blocks.whole 16 (k 0 (codes "if") ∷ k 3 (codes "let") ∷ m 7 (codes "(") ∷ n 8 (codes "a") ∷ m 9 (codes ",") ∷ n 11 (codes "b") ∷ m 12 (codes ")") ∷ m 14 (codes "=") ∷ m 16 (codes "(") ∷ d 17 (codes "1") ∷ m 18 (codes ",") ∷ d 20 (codes "2") ∷ m 21 (codes ")") ∷ m 23 (codes "{") ∷ m 24 (codes "}") ∷ []) ≡ read (plain.if_let (s 0 25) (plain.tuple_pattern (s 7 13) (plain.pattern_and (plain.bind (s 8 9) (i 8 (codes "a")) false) (plain.pattern_and (plain.bind (s 11 12) (i 11 (codes "b")) false) plain.no_pattern))) (plain.tuple (s 16 22) (plain.expression_and (plain.int (s 17 18) 1 None) (plain.expression_and (plain.int (s 20 21) 2 None) plain.no_expression))) (plain.body (s 23 25) plain.no_statement plain.absent) plain.absent) 3 0 25)
    -- if let _ = a == b {}
    × (blocks.whole 16 (k 0 (codes "if") ∷ k 3 (codes "let") ∷ m 7 (codes "_") ∷ m 9 (codes "=") ∷ n 11 (codes "a") ∷ m 13 (codes "==") ∷ n 16 (codes "b") ∷ m 18 (codes "{") ∷ m 19 (codes "}") ∷ []) ≡ read (plain.if_let (s 0 20) (plain.wild (s 7 8)) (plain.binary (s 11 17) op.Eq (plain.var (s 11 12) (codes "a")) (plain.var (s 16 17) (codes "b"))) (plain.body (s 18 20) plain.no_statement plain.absent) plain.absent) 3 0 20)
    -- if let -1 = x + 2 * y {} else if let true = b {} else {}
    × (blocks.whole 16 (k 0 (codes "if") ∷ k 3 (codes "let") ∷ m 7 (codes "-") ∷ d 8 (codes "1") ∷ m 10 (codes "=") ∷ n 12 (codes "x") ∷ m 14 (codes "+") ∷ d 16 (codes "2") ∷ m 18 (codes "*") ∷ n 20 (codes "y") ∷ m 22 (codes "{") ∷ m 23 (codes "}") ∷ k 25 (codes "else") ∷ k 30 (codes "if") ∷ k 33 (codes "let") ∷ k 37 (codes "true") ∷ m 42 (codes "=") ∷ n 44 (codes "b") ∷ m 46 (codes "{") ∷ m 47 (codes "}") ∷ k 49 (codes "else") ∷ m 54 (codes "{") ∷ m 55 (codes "}") ∷ []) ≡ read (plain.if_let (s 0 56) (plain.int_pattern (s 7 9) true 1 None) (plain.binary (s 12 21) op.Add (plain.var (s 12 13) (codes "x")) (plain.binary (s 16 21) op.Mul (plain.int (s 16 17) 2 None) (plain.var (s 20 21) (codes "y")))) (plain.body (s 22 24) plain.no_statement plain.absent) (plain.present (plain.if_let (s 30 56) (plain.bool_pattern (s 37 41) true) (plain.var (s 44 45) (codes "b")) (plain.body (s 46 48) plain.no_statement plain.absent) (plain.present (plain.block (s 54 56) (plain.body (s 54 56) plain.no_statement plain.absent)))))) 4 0 56)
    -- if a {} else if let 1 = b {}
    × (blocks.whole 16 (k 0 (codes "if") ∷ n 3 (codes "a") ∷ m 5 (codes "{") ∷ m 6 (codes "}") ∷ k 8 (codes "else") ∷ k 13 (codes "if") ∷ k 16 (codes "let") ∷ d 20 (codes "1") ∷ m 22 (codes "=") ∷ n 24 (codes "b") ∷ m 26 (codes "{") ∷ m 27 (codes "}") ∷ []) ≡ read (plain.if (s 0 28) (plain.var (s 3 4) (codes "a")) (plain.body (s 5 7) plain.no_statement plain.absent) (plain.present (plain.if_let (s 13 28) (plain.int_pattern (s 20 21) false 1 None) (plain.var (s 24 25) (codes "b")) (plain.body (s 26 28) plain.no_statement plain.absent) plain.absent))) 3 0 28)
unfolding blocks.annotation blocks.let_statement blocks.statements_from blocks.statements blocks.block_of blocks.operand blocks.whole blocks.like blocks.block expressions.chain expressions.call expressions.variant_arguments expressions.input expressions.variant_with expressions.path expressions.field_value expressions.field expressions.struct_literal expressions.print expressions.named expressions.block_value expressions.let_test expressions.test expressions.else_value expressions.conditional expressions.arms_from expressions.arms expressions.match_value expressions.loop_value expressions.while_value expressions.labelled expressions.primary expressions.member expressions.postfix expressions.borrow expressions.borrow_twice expressions.unary expressions.longer expressions.at_strength expressions.return_value expressions.jump expressions.set_or_operand items.derived_name items.derives items.lifetime_parameter items.lifetimes items.bounds_from items.bounds items.bound_lifetime items.bound_lifetimes items.struct_field items.variant items.parameter items.result items.structure items.enumeration items.derived items.function items.rt items.item items.items_from items.file lists.elements_from lists.elements lists.some_elements lists.group numbers.numeral numbers.index_value numbers.number numbers.index operators.operator_at patterns_of.mutable_binding patterns_of.number_pattern patterns_of.negative_pattern patterns_of.variant_pattern patterns_of.long_field patterns_of.short_field patterns_of.field_pattern patterns_of.struct_pattern patterns_of.named_pattern patterns_of.pattern steps.expect steps.sees_word steps.expect_word symbols.keyword symbols.mark symbols.symbol_of symbols.same_symbol types_of.mutability types_of.reference_lifetime types_of.lifetime_argument types_of.named_type types_of.reference types_of.two_references types_of.typ
expressions_read_12 = (refl, refl, refl, refl)

expressions_read_13 :
    -- if let P = (S { x: 1 }) {}
    (blocks.whole 16 (k 0 (codes "if") ∷ k 3 (codes "let") ∷ n 7 (codes "P") ∷ m 9 (codes "=") ∷ m 11 (codes "(") ∷ n 12 (codes "S") ∷ m 14 (codes "{") ∷ n 16 (codes "x") ∷ m 17 (codes ":") ∷ d 19 (codes "1") ∷ m 21 (codes "}") ∷ m 22 (codes ")") ∷ m 24 (codes "{") ∷ m 25 (codes "}") ∷ []) ≡ read (plain.if_let (s 0 26) (plain.bind (s 7 8) (i 7 (codes "P")) false) (plain.make (s 12 22) (i 12 (codes "S")) (plain.field_and (i 16 (codes "x")) (plain.int (s 19 20) 1 None) plain.no_field)) (plain.body (s 24 26) plain.no_statement plain.absent) plain.absent) 4 0 26)
    -- if let P = (b && c) {}
    × (blocks.whole 16 (k 0 (codes "if") ∷ k 3 (codes "let") ∷ n 7 (codes "P") ∷ m 9 (codes "=") ∷ m 11 (codes "(") ∷ n 12 (codes "b") ∷ m 14 (codes "&&") ∷ n 17 (codes "c") ∷ m 18 (codes ")") ∷ m 20 (codes "{") ∷ m 21 (codes "}") ∷ []) ≡ read (plain.if_let (s 0 22) (plain.bind (s 7 8) (i 7 (codes "P")) false) (plain.binary (s 12 18) op.And (plain.var (s 12 13) (codes "b")) (plain.var (s 17 18) (codes "c"))) (plain.body (s 20 22) plain.no_statement plain.absent) plain.absent) 4 0 22)
    -- if let x = {a} {}
    × (blocks.whole 16 (k 0 (codes "if") ∷ k 3 (codes "let") ∷ n 7 (codes "x") ∷ m 9 (codes "=") ∷ m 11 (codes "{") ∷ n 12 (codes "a") ∷ m 13 (codes "}") ∷ m 15 (codes "{") ∷ m 16 (codes "}") ∷ []) ≡ read (plain.if_let (s 0 17) (plain.bind (s 7 8) (i 7 (codes "x")) false) (plain.block (s 11 14) (plain.body (s 11 14) plain.no_statement (plain.present (plain.var (s 12 13) (codes "a"))))) (plain.body (s 15 17) plain.no_statement plain.absent) plain.absent) 4 0 17)
    -- while let 0 = n {}
    × (blocks.whole 16 (k 0 (codes "while") ∷ k 6 (codes "let") ∷ d 10 (codes "0") ∷ m 12 (codes "=") ∷ n 14 (codes "n") ∷ m 16 (codes "{") ∷ m 17 (codes "}") ∷ []) ≡ read (plain.while_let (s 0 18) None (plain.int_pattern (s 10 11) false 0 None) (plain.var (s 14 15) (codes "n")) (plain.body (s 16 18) plain.no_statement plain.absent)) 2 0 18)
unfolding blocks.annotation blocks.let_statement blocks.statements_from blocks.statements blocks.block_of blocks.operand blocks.whole blocks.like blocks.block expressions.chain expressions.call expressions.variant_arguments expressions.input expressions.variant_with expressions.path expressions.field_value expressions.field expressions.struct_literal expressions.print expressions.named expressions.block_value expressions.let_test expressions.test expressions.else_value expressions.conditional expressions.arms_from expressions.arms expressions.match_value expressions.loop_value expressions.while_value expressions.labelled expressions.primary expressions.member expressions.postfix expressions.borrow expressions.borrow_twice expressions.unary expressions.longer expressions.at_strength expressions.return_value expressions.jump expressions.set_or_operand items.derived_name items.derives items.lifetime_parameter items.lifetimes items.bounds_from items.bounds items.bound_lifetime items.bound_lifetimes items.struct_field items.variant items.parameter items.result items.structure items.enumeration items.derived items.function items.rt items.item items.items_from items.file lists.elements_from lists.elements lists.some_elements lists.group numbers.numeral numbers.index_value numbers.number numbers.index operators.operator_at patterns_of.mutable_binding patterns_of.number_pattern patterns_of.negative_pattern patterns_of.variant_pattern patterns_of.long_field patterns_of.short_field patterns_of.field_pattern patterns_of.struct_pattern patterns_of.named_pattern patterns_of.pattern steps.expect steps.sees_word steps.expect_word symbols.keyword symbols.mark symbols.symbol_of symbols.same_symbol types_of.mutability types_of.reference_lifetime types_of.lifetime_argument types_of.named_type types_of.reference types_of.two_references types_of.typ
expressions_read_13 = (refl, refl, refl, refl)

expressions_read_14 :
    -- 'a: while let E::V(n) = rt::next() { break 'a }
    (blocks.whole 16 (l 0 (codes "'a") ∷ m 2 (codes ":") ∷ k 4 (codes "while") ∷ k 10 (codes "let") ∷ n 14 (codes "E") ∷ m 15 (codes "::") ∷ n 17 (codes "V") ∷ m 18 (codes "(") ∷ n 19 (codes "n") ∷ m 20 (codes ")") ∷ m 22 (codes "=") ∷ n 24 (codes "rt") ∷ m 26 (codes "::") ∷ n 28 (codes "next") ∷ m 32 (codes "(") ∷ m 33 (codes ")") ∷ m 35 (codes "{") ∷ k 37 (codes "break") ∷ l 43 (codes "'a") ∷ m 46 (codes "}") ∷ []) ≡ read (plain.while_let (s 0 47) (Some (i 0 (codes "'a"))) (plain.variant_pattern (s 14 21) (i 14 (codes "E")) (i 17 (codes "V")) (plain.pattern_and (plain.bind (s 19 20) (i 19 (codes "n")) false) plain.no_pattern)) (plain.next_input (s 24 34)) (plain.body (s 35 47) plain.no_statement (plain.present (plain.break (s 37 45) (Some (i 43 (codes "'a"))))))) 3 0 47)
    -- if let x = if let y = z { 1 } else { 2 } {}
    × (blocks.whole 16 (k 0 (codes "if") ∷ k 3 (codes "let") ∷ n 7 (codes "x") ∷ m 9 (codes "=") ∷ k 11 (codes "if") ∷ k 14 (codes "let") ∷ n 18 (codes "y") ∷ m 20 (codes "=") ∷ n 22 (codes "z") ∷ m 24 (codes "{") ∷ d 26 (codes "1") ∷ m 28 (codes "}") ∷ k 30 (codes "else") ∷ m 35 (codes "{") ∷ d 37 (codes "2") ∷ m 39 (codes "}") ∷ m 41 (codes "{") ∷ m 42 (codes "}") ∷ []) ≡ read (plain.if_let (s 0 43) (plain.bind (s 7 8) (i 7 (codes "x")) false) (plain.if_let (s 11 40) (plain.bind (s 18 19) (i 18 (codes "y")) false) (plain.var (s 22 23) (codes "z")) (plain.body (s 24 29) plain.no_statement (plain.present (plain.int (s 26 27) 1 None))) (plain.present (plain.block (s 35 40) (plain.body (s 35 40) plain.no_statement (plain.present (plain.int (s 37 38) 2 None)))))) (plain.body (s 41 43) plain.no_statement plain.absent) plain.absent) 5 0 43)
    -- match x { _ => if let 1 = y {} 2 => 3 }
    × (blocks.whole 16 (k 0 (codes "match") ∷ n 6 (codes "x") ∷ m 8 (codes "{") ∷ m 10 (codes "_") ∷ m 12 (codes "=>") ∷ k 15 (codes "if") ∷ k 18 (codes "let") ∷ d 22 (codes "1") ∷ m 24 (codes "=") ∷ n 26 (codes "y") ∷ m 28 (codes "{") ∷ m 29 (codes "}") ∷ d 31 (codes "2") ∷ m 33 (codes "=>") ∷ d 36 (codes "3") ∷ m 38 (codes "}") ∷ []) ≡ read (plain.match (s 0 39) (plain.var (s 6 7) (codes "x")) (plain.arm_and (plain.wild (s 10 11)) (plain.if_let (s 15 30) (plain.int_pattern (s 22 23) false 1 None) (plain.var (s 26 27) (codes "y")) (plain.body (s 28 30) plain.no_statement plain.absent) plain.absent) (plain.arm_and (plain.int_pattern (s 31 32) false 2 None) (plain.int (s 36 37) 3 None) plain.no_arm))) 3 0 39)
    -- { if let 1 = 2 {} a }
    × (blocks.whole 16 (m 0 (codes "{") ∷ k 2 (codes "if") ∷ k 5 (codes "let") ∷ d 9 (codes "1") ∷ m 11 (codes "=") ∷ d 13 (codes "2") ∷ m 15 (codes "{") ∷ m 16 (codes "}") ∷ n 18 (codes "a") ∷ m 20 (codes "}") ∷ []) ≡ read (plain.block (s 0 21) (plain.body (s 0 21) (plain.statement_and (plain.expression_statement (s 2 17) (plain.if_let (s 2 17) (plain.int_pattern (s 9 10) false 1 None) (plain.int (s 13 14) 2 None) (plain.body (s 15 17) plain.no_statement plain.absent) plain.absent) false) plain.no_statement) (plain.present (plain.var (s 18 19) (codes "a"))))) 4 0 21)
unfolding blocks.annotation blocks.let_statement blocks.statements_from blocks.statements blocks.block_of blocks.operand blocks.whole blocks.like blocks.block expressions.chain expressions.call expressions.variant_arguments expressions.input expressions.variant_with expressions.path expressions.field_value expressions.field expressions.struct_literal expressions.print expressions.named expressions.block_value expressions.let_test expressions.test expressions.else_value expressions.conditional expressions.arms_from expressions.arms expressions.match_value expressions.loop_value expressions.while_value expressions.labelled expressions.primary expressions.member expressions.postfix expressions.borrow expressions.borrow_twice expressions.unary expressions.longer expressions.at_strength expressions.return_value expressions.jump expressions.set_or_operand items.derived_name items.derives items.lifetime_parameter items.lifetimes items.bounds_from items.bounds items.bound_lifetime items.bound_lifetimes items.struct_field items.variant items.parameter items.result items.structure items.enumeration items.derived items.function items.rt items.item items.items_from items.file lists.elements_from lists.elements lists.some_elements lists.group numbers.numeral numbers.index_value numbers.number numbers.index operators.operator_at patterns_of.mutable_binding patterns_of.number_pattern patterns_of.negative_pattern patterns_of.variant_pattern patterns_of.long_field patterns_of.short_field patterns_of.field_pattern patterns_of.struct_pattern patterns_of.named_pattern patterns_of.pattern steps.expect steps.sees_word steps.expect_word symbols.keyword symbols.mark symbols.symbol_of symbols.same_symbol types_of.mutability types_of.reference_lifetime types_of.lifetime_argument types_of.named_type types_of.reference types_of.two_references types_of.typ
expressions_read_14 = (refl, refl, refl, refl)

expressions_read_15 :
    -- if let ((x)) = (y) {}
    (blocks.whole 16 (k 0 (codes "if") ∷ k 3 (codes "let") ∷ m 7 (codes "(") ∷ m 8 (codes "(") ∷ n 9 (codes "x") ∷ m 10 (codes ")") ∷ m 11 (codes ")") ∷ m 13 (codes "=") ∷ m 15 (codes "(") ∷ n 16 (codes "y") ∷ m 17 (codes ")") ∷ m 19 (codes "{") ∷ m 20 (codes "}") ∷ []) ≡ read (plain.if_let (s 0 21) (plain.bind (s 9 10) (i 9 (codes "x")) false) (plain.var (s 16 17) (codes "y")) (plain.body (s 19 21) plain.no_statement plain.absent) plain.absent) 4 0 21)
    -- if let mut x = -a.b {}
    × (blocks.whole 16 (k 0 (codes "if") ∷ k 3 (codes "let") ∷ k 7 (codes "mut") ∷ n 11 (codes "x") ∷ m 13 (codes "=") ∷ m 15 (codes "-") ∷ n 16 (codes "a") ∷ m 17 (codes ".") ∷ n 18 (codes "b") ∷ m 20 (codes "{") ∷ m 21 (codes "}") ∷ []) ≡ read (plain.if_let (s 0 22) (plain.bind (s 7 12) (i 11 (codes "x")) true) (plain.negate (s 15 19) (plain.field (s 16 19) (plain.var (s 16 17) (codes "a")) (i 18 (codes "b")))) (plain.body (s 20 22) plain.no_statement plain.absent) plain.absent) 4 0 22)
    -- if let a = b {} else { while let c = d {} }
    × (blocks.whole 16 (k 0 (codes "if") ∷ k 3 (codes "let") ∷ n 7 (codes "a") ∷ m 9 (codes "=") ∷ n 11 (codes "b") ∷ m 13 (codes "{") ∷ m 14 (codes "}") ∷ k 16 (codes "else") ∷ m 21 (codes "{") ∷ k 23 (codes "while") ∷ k 29 (codes "let") ∷ n 33 (codes "c") ∷ m 35 (codes "=") ∷ n 37 (codes "d") ∷ m 39 (codes "{") ∷ m 40 (codes "}") ∷ m 42 (codes "}") ∷ []) ≡ read (plain.if_let (s 0 43) (plain.bind (s 7 8) (i 7 (codes "a")) false) (plain.var (s 11 12) (codes "b")) (plain.body (s 13 15) plain.no_statement plain.absent) (plain.present (plain.block (s 21 43) (plain.body (s 21 43) plain.no_statement (plain.present (plain.while_let (s 23 41) None (plain.bind (s 33 34) (i 33 (codes "c")) false) (plain.var (s 37 38) (codes "d")) (plain.body (s 39 41) plain.no_statement plain.absent))))))) 5 0 43)
    -- while let S { x: 1 } = *s {}
    × (blocks.whole 16 (k 0 (codes "while") ∷ k 6 (codes "let") ∷ n 10 (codes "S") ∷ m 12 (codes "{") ∷ n 14 (codes "x") ∷ m 15 (codes ":") ∷ d 17 (codes "1") ∷ m 19 (codes "}") ∷ m 21 (codes "=") ∷ m 23 (codes "*") ∷ n 24 (codes "s") ∷ m 26 (codes "{") ∷ m 27 (codes "}") ∷ []) ≡ read (plain.while_let (s 0 28) None (plain.make_pattern (s 10 20) (i 10 (codes "S")) (plain.field_pattern_and (i 14 (codes "x")) (plain.int_pattern (s 17 18) false 1 None) plain.no_field_pattern)) (plain.deref (s 23 25) (plain.var (s 24 25) (codes "s"))) (plain.body (s 26 28) plain.no_statement plain.absent)) 3 0 28)
unfolding blocks.annotation blocks.let_statement blocks.statements_from blocks.statements blocks.block_of blocks.operand blocks.whole blocks.like blocks.block expressions.chain expressions.call expressions.variant_arguments expressions.input expressions.variant_with expressions.path expressions.field_value expressions.field expressions.struct_literal expressions.print expressions.named expressions.block_value expressions.let_test expressions.test expressions.else_value expressions.conditional expressions.arms_from expressions.arms expressions.match_value expressions.loop_value expressions.while_value expressions.labelled expressions.primary expressions.member expressions.postfix expressions.borrow expressions.borrow_twice expressions.unary expressions.longer expressions.at_strength expressions.return_value expressions.jump expressions.set_or_operand items.derived_name items.derives items.lifetime_parameter items.lifetimes items.bounds_from items.bounds items.bound_lifetime items.bound_lifetimes items.struct_field items.variant items.parameter items.result items.structure items.enumeration items.derived items.function items.rt items.item items.items_from items.file lists.elements_from lists.elements lists.some_elements lists.group numbers.numeral numbers.index_value numbers.number numbers.index operators.operator_at patterns_of.mutable_binding patterns_of.number_pattern patterns_of.negative_pattern patterns_of.variant_pattern patterns_of.long_field patterns_of.short_field patterns_of.field_pattern patterns_of.struct_pattern patterns_of.named_pattern patterns_of.pattern steps.expect steps.sees_word steps.expect_word symbols.keyword symbols.mark symbols.symbol_of symbols.same_symbol types_of.mutability types_of.reference_lifetime types_of.lifetime_argument types_of.named_type types_of.reference types_of.two_references types_of.typ
expressions_read_15 = (refl, refl, refl, refl)

expressions_read_16 :
    -- { let mut sum = 0i64; while let Step::Add(n) = next_step() { if let 13 = n { break; } sum = sum + n; } println!("{}", sum); }
    (blocks.whole 16 (m 0 (codes "{") ∷ k 2 (codes "let") ∷ k 6 (codes "mut") ∷ n 10 (codes "sum") ∷ m 14 (codes "=") ∷ d 16 (codes "0i64") ∷ m 20 (codes ";") ∷ k 22 (codes "while") ∷ k 28 (codes "let") ∷ n 32 (codes "Step") ∷ m 36 (codes "::") ∷ n 38 (codes "Add") ∷ m 41 (codes "(") ∷ n 42 (codes "n") ∷ m 43 (codes ")") ∷ m 45 (codes "=") ∷ n 47 (codes "next_step") ∷ m 56 (codes "(") ∷ m 57 (codes ")") ∷ m 59 (codes "{") ∷ k 61 (codes "if") ∷ k 64 (codes "let") ∷ d 68 (codes "13") ∷ m 71 (codes "=") ∷ n 73 (codes "n") ∷ m 75 (codes "{") ∷ k 77 (codes "break") ∷ m 82 (codes ";") ∷ m 84 (codes "}") ∷ n 86 (codes "sum") ∷ m 90 (codes "=") ∷ n 92 (codes "sum") ∷ m 96 (codes "+") ∷ n 98 (codes "n") ∷ m 99 (codes ";") ∷ m 101 (codes "}") ∷ n 103 (codes "println") ∷ m 110 (codes "!") ∷ m 111 (codes "(") ∷ f 112 ∷ m 116 (codes ",") ∷ n 118 (codes "sum") ∷ m 121 (codes ")") ∷ m 122 (codes ";") ∷ m 124 (codes "}") ∷ []) ≡ read (plain.block (s 0 125) (plain.body (s 0 125) (plain.statement_and (plain.let_statement (s 2 21) (plain.bind (s 6 13) (i 10 (codes "sum")) true) None (plain.present (plain.int (s 16 20) 0 (Some kind.I64)))) (plain.statement_and (plain.expression_statement (s 22 102) (plain.while_let (s 22 102) None (plain.variant_pattern (s 32 44) (i 32 (codes "Step")) (i 38 (codes "Add")) (plain.pattern_and (plain.bind (s 42 43) (i 42 (codes "n")) false) plain.no_pattern)) (plain.call (s 47 58) (i 47 (codes "next_step")) plain.no_expression) (plain.body (s 59 102) (plain.statement_and (plain.expression_statement (s 61 85) (plain.if_let (s 61 85) (plain.int_pattern (s 68 70) false 13 None) (plain.var (s 73 74) (codes "n")) (plain.body (s 75 85) (plain.statement_and (plain.expression_statement (s 77 83) (plain.break (s 77 82) None) true) plain.no_statement) plain.absent) plain.absent) false) (plain.statement_and (plain.expression_statement (s 86 100) (plain.assign (s 86 99) (plain.var (s 86 89) (codes "sum")) (plain.binary (s 92 99) op.Add (plain.var (s 92 95) (codes "sum")) (plain.var (s 98 99) (codes "n")))) true) plain.no_statement)) plain.absent)) false) (plain.statement_and (plain.expression_statement (s 103 123) (plain.print (s 103 122) (plain.var (s 118 121) (codes "sum"))) true) plain.no_statement))) plain.absent)) 7 0 125)
unfolding blocks.annotation blocks.let_statement blocks.statements_from blocks.statements blocks.block_of blocks.operand blocks.whole blocks.like blocks.block expressions.chain expressions.call expressions.variant_arguments expressions.input expressions.variant_with expressions.path expressions.field_value expressions.field expressions.struct_literal expressions.print expressions.named expressions.block_value expressions.let_test expressions.test expressions.else_value expressions.conditional expressions.arms_from expressions.arms expressions.match_value expressions.loop_value expressions.while_value expressions.labelled expressions.primary expressions.member expressions.postfix expressions.borrow expressions.borrow_twice expressions.unary expressions.longer expressions.at_strength expressions.return_value expressions.jump expressions.set_or_operand items.derived_name items.derives items.lifetime_parameter items.lifetimes items.bounds_from items.bounds items.bound_lifetime items.bound_lifetimes items.struct_field items.variant items.parameter items.result items.structure items.enumeration items.derived items.function items.rt items.item items.items_from items.file lists.elements_from lists.elements lists.some_elements lists.group numbers.numeral numbers.index_value numbers.number numbers.index operators.operator_at patterns_of.mutable_binding patterns_of.number_pattern patterns_of.negative_pattern patterns_of.variant_pattern patterns_of.long_field patterns_of.short_field patterns_of.field_pattern patterns_of.struct_pattern patterns_of.named_pattern patterns_of.pattern steps.expect steps.sees_word steps.expect_word symbols.keyword symbols.mark symbols.symbol_of symbols.same_symbol types_of.mutability types_of.reference_lifetime types_of.lifetime_argument types_of.named_type types_of.reference types_of.two_references types_of.typ
expressions_read_16 = refl

files_read_0 :
    -- no token
    (items.file 16 ([]) ≡ file ([]) 0)
    -- mod rt;
    × (items.file 16 (k 0 (codes "mod") ∷ n 4 (codes "rt") ∷ m 6 (codes ";") ∷ []) ≡ file (plain.rt_item (s 0 7) (s 4 6) ∷ []) 0)
    -- struct S {}
    × (items.file 16 (k 0 (codes "struct") ∷ n 7 (codes "S") ∷ m 9 (codes "{") ∷ m 10 (codes "}") ∷ []) ≡ file (plain.struct_item (s 0 11) (record { name = (i 7 (codes "S")); derives = ([]); lifetimes = ([]); fields = ([]) }) ∷ []) 0)
unfolding blocks.annotation blocks.let_statement blocks.statements_from blocks.statements blocks.block_of blocks.operand blocks.whole blocks.like blocks.block expressions.chain expressions.call expressions.variant_arguments expressions.input expressions.variant_with expressions.path expressions.field_value expressions.field expressions.struct_literal expressions.print expressions.named expressions.block_value expressions.let_test expressions.test expressions.else_value expressions.conditional expressions.arms_from expressions.arms expressions.match_value expressions.loop_value expressions.while_value expressions.labelled expressions.primary expressions.member expressions.postfix expressions.borrow expressions.borrow_twice expressions.unary expressions.longer expressions.at_strength expressions.return_value expressions.jump expressions.set_or_operand items.derived_name items.derives items.lifetime_parameter items.lifetimes items.bounds_from items.bounds items.bound_lifetime items.bound_lifetimes items.struct_field items.variant items.parameter items.result items.structure items.enumeration items.derived items.function items.rt items.item items.items_from items.file lists.elements_from lists.elements lists.some_elements lists.group numbers.numeral numbers.index_value numbers.number numbers.index operators.operator_at patterns_of.mutable_binding patterns_of.number_pattern patterns_of.negative_pattern patterns_of.variant_pattern patterns_of.long_field patterns_of.short_field patterns_of.field_pattern patterns_of.struct_pattern patterns_of.named_pattern patterns_of.pattern steps.expect steps.sees_word steps.expect_word symbols.keyword symbols.mark symbols.symbol_of symbols.same_symbol types_of.mutability types_of.reference_lifetime types_of.lifetime_argument types_of.named_type types_of.reference types_of.two_references types_of.typ
files_read_0 = (refl, refl, refl)

files_read_1 :
    -- struct S<'a,> { a: &'a u8, b: bool, }
    (items.file 16 (k 0 (codes "struct") ∷ n 7 (codes "S") ∷ m 8 (codes "<") ∷ l 9 (codes "'a") ∷ m 11 (codes ",") ∷ m 12 (codes ">") ∷ m 14 (codes "{") ∷ n 16 (codes "a") ∷ m 17 (codes ":") ∷ m 19 (codes "&") ∷ l 20 (codes "'a") ∷ k 23 (codes "u8") ∷ m 25 (codes ",") ∷ n 27 (codes "b") ∷ m 28 (codes ":") ∷ k 30 (codes "bool") ∷ m 34 (codes ",") ∷ m 36 (codes "}") ∷ []) ≡ file (plain.struct_item (s 0 37) (record { name = (i 7 (codes "S")); derives = ([]); lifetimes = ((i 9 (codes "'a")) ∷ []); fields = (record { name = (i 16 (codes "a")); typ = (plain.ref_type (s 19 25) (Some (i 20 (codes "'a"))) false (plain.kind_type (s 23 25) kind.U8)) } ∷ record { name = (i 27 (codes "b")); typ = (plain.bool_type (s 30 34)) } ∷ []) }) ∷ []) 2)
    -- #[derive(Clone, Copy,)] struct S { a: u8 }
    × (items.file 16 (m 0 (codes "#") ∷ m 1 (codes "[") ∷ n 2 (codes "derive") ∷ m 8 (codes "(") ∷ n 9 (codes "Clone") ∷ m 14 (codes ",") ∷ n 16 (codes "Copy") ∷ m 20 (codes ",") ∷ m 21 (codes ")") ∷ m 22 (codes "]") ∷ k 24 (codes "struct") ∷ n 31 (codes "S") ∷ m 33 (codes "{") ∷ n 35 (codes "a") ∷ m 36 (codes ":") ∷ k 38 (codes "u8") ∷ m 41 (codes "}") ∷ []) ≡ file (plain.struct_item (s 0 42) (record { name = (i 31 (codes "S")); derives = (derive.Clone ∷ derive.Copy ∷ []); lifetimes = ([]); fields = (record { name = (i 35 (codes "a")); typ = (plain.kind_type (s 38 40) kind.U8) } ∷ []) }) ∷ []) 1)
    -- enum E { A, B(u8, bool,), }
    × (items.file 16 (k 0 (codes "enum") ∷ n 5 (codes "E") ∷ m 7 (codes "{") ∷ n 9 (codes "A") ∷ m 10 (codes ",") ∷ n 12 (codes "B") ∷ m 13 (codes "(") ∷ k 14 (codes "u8") ∷ m 16 (codes ",") ∷ k 18 (codes "bool") ∷ m 22 (codes ",") ∷ m 23 (codes ")") ∷ m 24 (codes ",") ∷ m 26 (codes "}") ∷ []) ≡ file (plain.enum_item (s 0 27) (record { name = (i 5 (codes "E")); derives = ([]); lifetimes = ([]); variants = (record { name = (i 9 (codes "A")); types = plain.no_type } ∷ record { name = (i 12 (codes "B")); types = (plain.type_and (plain.kind_type (s 14 16) kind.U8) (plain.type_and (plain.bool_type (s 18 22)) plain.no_type)) } ∷ []) }) ∷ []) 1)
unfolding blocks.annotation blocks.let_statement blocks.statements_from blocks.statements blocks.block_of blocks.operand blocks.whole blocks.like blocks.block expressions.chain expressions.call expressions.variant_arguments expressions.input expressions.variant_with expressions.path expressions.field_value expressions.field expressions.struct_literal expressions.print expressions.named expressions.block_value expressions.let_test expressions.test expressions.else_value expressions.conditional expressions.arms_from expressions.arms expressions.match_value expressions.loop_value expressions.while_value expressions.labelled expressions.primary expressions.member expressions.postfix expressions.borrow expressions.borrow_twice expressions.unary expressions.longer expressions.at_strength expressions.return_value expressions.jump expressions.set_or_operand items.derived_name items.derives items.lifetime_parameter items.lifetimes items.bounds_from items.bounds items.bound_lifetime items.bound_lifetimes items.struct_field items.variant items.parameter items.result items.structure items.enumeration items.derived items.function items.rt items.item items.items_from items.file lists.elements_from lists.elements lists.some_elements lists.group numbers.numeral numbers.index_value numbers.number numbers.index operators.operator_at patterns_of.mutable_binding patterns_of.number_pattern patterns_of.negative_pattern patterns_of.variant_pattern patterns_of.long_field patterns_of.short_field patterns_of.field_pattern patterns_of.struct_pattern patterns_of.named_pattern patterns_of.pattern steps.expect steps.sees_word steps.expect_word symbols.keyword symbols.mark symbols.symbol_of symbols.same_symbol types_of.mutability types_of.reference_lifetime types_of.lifetime_argument types_of.named_type types_of.reference types_of.two_references types_of.typ
files_read_1 = (refl, refl, refl)

files_read_2 :
    -- #[derive(Copy)] enum E<'a> { A(&'a S<'a>) }
    (items.file 16 (m 0 (codes "#") ∷ m 1 (codes "[") ∷ n 2 (codes "derive") ∷ m 8 (codes "(") ∷ n 9 (codes "Copy") ∷ m 13 (codes ")") ∷ m 14 (codes "]") ∷ k 16 (codes "enum") ∷ n 21 (codes "E") ∷ m 22 (codes "<") ∷ l 23 (codes "'a") ∷ m 25 (codes ">") ∷ m 27 (codes "{") ∷ n 29 (codes "A") ∷ m 30 (codes "(") ∷ m 31 (codes "&") ∷ l 32 (codes "'a") ∷ n 35 (codes "S") ∷ m 36 (codes "<") ∷ l 37 (codes "'a") ∷ m 39 (codes ">") ∷ m 40 (codes ")") ∷ m 42 (codes "}") ∷ []) ≡ file (plain.enum_item (s 0 43) (record { name = (i 21 (codes "E")); derives = (derive.Copy ∷ []); lifetimes = ((i 23 (codes "'a")) ∷ []); variants = (record { name = (i 29 (codes "A")); types = (plain.type_and (plain.ref_type (s 31 40) (Some (i 32 (codes "'a"))) false (plain.named_type (s 35 40) (i 35 (codes "S")) (Some (Some (i 37 (codes "'a")) ∷ [])))) plain.no_type) } ∷ []) }) ∷ []) 2)
    -- fn main() {}
    × (items.file 16 (k 0 (codes "fn") ∷ n 3 (codes "main") ∷ m 7 (codes "(") ∷ m 8 (codes ")") ∷ m 10 (codes "{") ∷ m 11 (codes "}") ∷ []) ≡ file (plain.function_item (s 0 12) (record { name = (i 3 (codes "main")); lifetimes = ([]); params = ([]); result = None; body = (plain.body (s 10 12) plain.no_statement plain.absent) }) ∷ []) 1)
    -- fn f<'a, 'b: 'a + 'c>(a: u8, mut b: &'a bool,) -> &'a u8 { a }
    × (items.file 16 (k 0 (codes "fn") ∷ n 3 (codes "f") ∷ m 4 (codes "<") ∷ l 5 (codes "'a") ∷ m 7 (codes ",") ∷ l 9 (codes "'b") ∷ m 11 (codes ":") ∷ l 13 (codes "'a") ∷ m 16 (codes "+") ∷ l 18 (codes "'c") ∷ m 20 (codes ">") ∷ m 21 (codes "(") ∷ n 22 (codes "a") ∷ m 23 (codes ":") ∷ k 25 (codes "u8") ∷ m 27 (codes ",") ∷ k 29 (codes "mut") ∷ n 33 (codes "b") ∷ m 34 (codes ":") ∷ m 36 (codes "&") ∷ l 37 (codes "'a") ∷ k 40 (codes "bool") ∷ m 44 (codes ",") ∷ m 45 (codes ")") ∷ m 47 (codes "->") ∷ m 50 (codes "&") ∷ l 51 (codes "'a") ∷ k 54 (codes "u8") ∷ m 57 (codes "{") ∷ n 59 (codes "a") ∷ m 61 (codes "}") ∷ []) ≡ file (plain.function_item (s 0 62) (record { name = (i 3 (codes "f")); lifetimes = (record { name = (i 5 (codes "'a")); bounds = ([]) } ∷ record { name = (i 9 (codes "'b")); bounds = ((i 13 (codes "'a")) ∷ (i 18 (codes "'c")) ∷ []) } ∷ []); params = (record { name = (i 22 (codes "a")); mutable = false; typ = (plain.kind_type (s 25 27) kind.U8) } ∷ record { name = (i 33 (codes "b")); mutable = true; typ = (plain.ref_type (s 36 44) (Some (i 37 (codes "'a"))) false (plain.bool_type (s 40 44))) } ∷ []); result = Some (plain.ref_type (s 50 56) (Some (i 51 (codes "'a"))) false (plain.kind_type (s 54 56) kind.U8)); body = (plain.body (s 57 62) plain.no_statement (plain.present (plain.var (s 59 60) (codes "a")))) }) ∷ []) 2)
unfolding blocks.annotation blocks.let_statement blocks.statements_from blocks.statements blocks.block_of blocks.operand blocks.whole blocks.like blocks.block expressions.chain expressions.call expressions.variant_arguments expressions.input expressions.variant_with expressions.path expressions.field_value expressions.field expressions.struct_literal expressions.print expressions.named expressions.block_value expressions.let_test expressions.test expressions.else_value expressions.conditional expressions.arms_from expressions.arms expressions.match_value expressions.loop_value expressions.while_value expressions.labelled expressions.primary expressions.member expressions.postfix expressions.borrow expressions.borrow_twice expressions.unary expressions.longer expressions.at_strength expressions.return_value expressions.jump expressions.set_or_operand items.derived_name items.derives items.lifetime_parameter items.lifetimes items.bounds_from items.bounds items.bound_lifetime items.bound_lifetimes items.struct_field items.variant items.parameter items.result items.structure items.enumeration items.derived items.function items.rt items.item items.items_from items.file lists.elements_from lists.elements lists.some_elements lists.group numbers.numeral numbers.index_value numbers.number numbers.index operators.operator_at patterns_of.mutable_binding patterns_of.number_pattern patterns_of.negative_pattern patterns_of.variant_pattern patterns_of.long_field patterns_of.short_field patterns_of.field_pattern patterns_of.struct_pattern patterns_of.named_pattern patterns_of.pattern steps.expect steps.sees_word steps.expect_word symbols.keyword symbols.mark symbols.symbol_of symbols.same_symbol types_of.mutability types_of.reference_lifetime types_of.lifetime_argument types_of.named_type types_of.reference types_of.two_references types_of.typ
files_read_2 = (refl, refl, refl)

files_read_3 :
    -- mod rt; struct rt {} fn next(derive: u8) { println!("{}", rt::next()); }
    (items.file 16 (k 0 (codes "mod") ∷ n 4 (codes "rt") ∷ m 6 (codes ";") ∷ k 8 (codes "struct") ∷ n 15 (codes "rt") ∷ m 18 (codes "{") ∷ m 19 (codes "}") ∷ k 21 (codes "fn") ∷ n 24 (codes "next") ∷ m 28 (codes "(") ∷ n 29 (codes "derive") ∷ m 35 (codes ":") ∷ k 37 (codes "u8") ∷ m 39 (codes ")") ∷ m 41 (codes "{") ∷ n 43 (codes "println") ∷ m 50 (codes "!") ∷ m 51 (codes "(") ∷ f 52 ∷ m 56 (codes ",") ∷ n 58 (codes "rt") ∷ m 60 (codes "::") ∷ n 62 (codes "next") ∷ m 66 (codes "(") ∷ m 67 (codes ")") ∷ m 68 (codes ")") ∷ m 69 (codes ";") ∷ m 71 (codes "}") ∷ []) ≡ file (plain.rt_item (s 0 7) (s 4 6) ∷ plain.struct_item (s 8 20) (record { name = (i 15 (codes "rt")); derives = ([]); lifetimes = ([]); fields = ([]) }) ∷ plain.function_item (s 21 72) (record { name = (i 24 (codes "next")); lifetimes = ([]); params = (record { name = (i 29 (codes "derive")); mutable = false; typ = (plain.kind_type (s 37 39) kind.U8) } ∷ []); result = None; body = (plain.body (s 41 72) (plain.statement_and (plain.expression_statement (s 43 70) (plain.print (s 43 69) (plain.next_input (s 58 68))) true) plain.no_statement) plain.absent) }) ∷ []) 3)
unfolding blocks.annotation blocks.let_statement blocks.statements_from blocks.statements blocks.block_of blocks.operand blocks.whole blocks.like blocks.block expressions.chain expressions.call expressions.variant_arguments expressions.input expressions.variant_with expressions.path expressions.field_value expressions.field expressions.struct_literal expressions.print expressions.named expressions.block_value expressions.let_test expressions.test expressions.else_value expressions.conditional expressions.arms_from expressions.arms expressions.match_value expressions.loop_value expressions.while_value expressions.labelled expressions.primary expressions.member expressions.postfix expressions.borrow expressions.borrow_twice expressions.unary expressions.longer expressions.at_strength expressions.return_value expressions.jump expressions.set_or_operand items.derived_name items.derives items.lifetime_parameter items.lifetimes items.bounds_from items.bounds items.bound_lifetime items.bound_lifetimes items.struct_field items.variant items.parameter items.result items.structure items.enumeration items.derived items.function items.rt items.item items.items_from items.file lists.elements_from lists.elements lists.some_elements lists.group numbers.numeral numbers.index_value numbers.number numbers.index operators.operator_at patterns_of.mutable_binding patterns_of.number_pattern patterns_of.negative_pattern patterns_of.variant_pattern patterns_of.long_field patterns_of.short_field patterns_of.field_pattern patterns_of.struct_pattern patterns_of.named_pattern patterns_of.pattern steps.expect steps.sees_word steps.expect_word symbols.keyword symbols.mark symbols.symbol_of symbols.same_symbol types_of.mutability types_of.reference_lifetime types_of.lifetime_argument types_of.named_type types_of.reference types_of.two_references types_of.typ
files_read_3 = refl

faults_0 :
    -- fn main() { let x = ; }
    (items.file 16 (k 0 (codes "fn") ∷ n 3 (codes "main") ∷ m 7 (codes "(") ∷ m 8 (codes ")") ∷ m 10 (codes "{") ∷ k 12 (codes "let") ∷ n 16 (codes "x") ∷ m 18 (codes "=") ∷ m 20 (codes ";") ∷ m 22 (codes "}") ∷ []) ≡ Err (stop.Syntax 2))
    -- fn
    × (items.file 16 (k 0 (codes "fn") ∷ []) ≡ Err (stop.Syntax 0))
    -- fn main(
    × (items.file 16 (k 0 (codes "fn") ∷ n 3 (codes "main") ∷ m 7 (codes "(") ∷ []) ≡ Err (stop.Syntax 0))
    -- fn main() {
    × (items.file 16 (k 0 (codes "fn") ∷ n 3 (codes "main") ∷ m 7 (codes "(") ∷ m 8 (codes ")") ∷ m 10 (codes "{") ∷ []) ≡ Err (stop.Syntax 0))
unfolding blocks.annotation blocks.let_statement blocks.statements_from blocks.statements blocks.block_of blocks.operand blocks.whole blocks.like blocks.block expressions.chain expressions.call expressions.variant_arguments expressions.input expressions.variant_with expressions.path expressions.field_value expressions.field expressions.struct_literal expressions.print expressions.named expressions.block_value expressions.let_test expressions.test expressions.else_value expressions.conditional expressions.arms_from expressions.arms expressions.match_value expressions.loop_value expressions.while_value expressions.labelled expressions.primary expressions.member expressions.postfix expressions.borrow expressions.borrow_twice expressions.unary expressions.longer expressions.at_strength expressions.return_value expressions.jump expressions.set_or_operand items.derived_name items.derives items.lifetime_parameter items.lifetimes items.bounds_from items.bounds items.bound_lifetime items.bound_lifetimes items.struct_field items.variant items.parameter items.result items.structure items.enumeration items.derived items.function items.rt items.item items.items_from items.file lists.elements_from lists.elements lists.some_elements lists.group numbers.numeral numbers.index_value numbers.number numbers.index operators.operator_at patterns_of.mutable_binding patterns_of.number_pattern patterns_of.negative_pattern patterns_of.variant_pattern patterns_of.long_field patterns_of.short_field patterns_of.field_pattern patterns_of.struct_pattern patterns_of.named_pattern patterns_of.pattern steps.expect steps.sees_word steps.expect_word symbols.keyword symbols.mark symbols.symbol_of symbols.same_symbol types_of.mutability types_of.reference_lifetime types_of.lifetime_argument types_of.named_type types_of.reference types_of.two_references types_of.typ
faults_0 = (refl, refl, refl, refl)

faults_1 :
    -- mod x;
    (items.file 16 (k 0 (codes "mod") ∷ n 4 (codes "x") ∷ m 5 (codes ";") ∷ []) ≡ Err (stop.Syntax 2))
    -- struct S { a u8 }
    × (items.file 16 (k 0 (codes "struct") ∷ n 7 (codes "S") ∷ m 9 (codes "{") ∷ n 11 (codes "a") ∷ k 13 (codes "u8") ∷ m 16 (codes "}") ∷ []) ≡ Err (stop.Syntax 2))
    -- enum E {}
    × (items.file 16 (k 0 (codes "enum") ∷ n 5 (codes "E") ∷ m 7 (codes "{") ∷ m 8 (codes "}") ∷ []) ≡ Err (stop.Syntax 1))
    -- #[derive(Clone)] fn f() {}
    × (items.file 16 (m 0 (codes "#") ∷ m 1 (codes "[") ∷ n 2 (codes "derive") ∷ m 8 (codes "(") ∷ n 9 (codes "Clone") ∷ m 14 (codes ")") ∷ m 15 (codes "]") ∷ k 17 (codes "fn") ∷ n 20 (codes "f") ∷ m 21 (codes "(") ∷ m 22 (codes ")") ∷ m 24 (codes "{") ∷ m 25 (codes "}") ∷ []) ≡ Err (stop.Syntax 6))
unfolding blocks.annotation blocks.let_statement blocks.statements_from blocks.statements blocks.block_of blocks.operand blocks.whole blocks.like blocks.block expressions.chain expressions.call expressions.variant_arguments expressions.input expressions.variant_with expressions.path expressions.field_value expressions.field expressions.struct_literal expressions.print expressions.named expressions.block_value expressions.let_test expressions.test expressions.else_value expressions.conditional expressions.arms_from expressions.arms expressions.match_value expressions.loop_value expressions.while_value expressions.labelled expressions.primary expressions.member expressions.postfix expressions.borrow expressions.borrow_twice expressions.unary expressions.longer expressions.at_strength expressions.return_value expressions.jump expressions.set_or_operand items.derived_name items.derives items.lifetime_parameter items.lifetimes items.bounds_from items.bounds items.bound_lifetime items.bound_lifetimes items.struct_field items.variant items.parameter items.result items.structure items.enumeration items.derived items.function items.rt items.item items.items_from items.file lists.elements_from lists.elements lists.some_elements lists.group numbers.numeral numbers.index_value numbers.number numbers.index operators.operator_at patterns_of.mutable_binding patterns_of.number_pattern patterns_of.negative_pattern patterns_of.variant_pattern patterns_of.long_field patterns_of.short_field patterns_of.field_pattern patterns_of.struct_pattern patterns_of.named_pattern patterns_of.pattern steps.expect steps.sees_word steps.expect_word symbols.keyword symbols.mark symbols.symbol_of symbols.same_symbol types_of.mutability types_of.reference_lifetime types_of.lifetime_argument types_of.named_type types_of.reference types_of.two_references types_of.typ
faults_1 = (refl, refl, refl, refl)

faults_2 :
    -- #[derive()] struct S {}
    (items.file 16 (m 0 (codes "#") ∷ m 1 (codes "[") ∷ n 2 (codes "derive") ∷ m 8 (codes "(") ∷ m 9 (codes ")") ∷ m 10 (codes "]") ∷ k 12 (codes "struct") ∷ n 19 (codes "S") ∷ m 21 (codes "{") ∷ m 22 (codes "}") ∷ []) ≡ Err (stop.Syntax 6))
    -- #[derive(Eq)] struct S {}
    × (items.file 16 (m 0 (codes "#") ∷ m 1 (codes "[") ∷ n 2 (codes "derive") ∷ m 8 (codes "(") ∷ n 9 (codes "Eq") ∷ m 11 (codes ")") ∷ m 12 (codes "]") ∷ k 14 (codes "struct") ∷ n 21 (codes "S") ∷ m 23 (codes "{") ∷ m 24 (codes "}") ∷ []) ≡ Err (stop.Syntax 7))
    -- fn f<>() {}
    × (items.file 16 (k 0 (codes "fn") ∷ n 3 (codes "f") ∷ m 4 (codes "<") ∷ m 5 (codes ">") ∷ m 6 (codes "(") ∷ m 7 (codes ")") ∷ m 9 (codes "{") ∷ m 10 (codes "}") ∷ []) ≡ Err (stop.Syntax 5))
    -- fn f<'_>() {}
    × (items.file 16 (k 0 (codes "fn") ∷ n 3 (codes "f") ∷ m 4 (codes "<") ∷ l 5 (codes "'_") ∷ m 7 (codes ">") ∷ m 8 (codes "(") ∷ m 9 (codes ")") ∷ m 11 (codes "{") ∷ m 12 (codes "}") ∷ []) ≡ Err (stop.Syntax 6))
unfolding blocks.annotation blocks.let_statement blocks.statements_from blocks.statements blocks.block_of blocks.operand blocks.whole blocks.like blocks.block expressions.chain expressions.call expressions.variant_arguments expressions.input expressions.variant_with expressions.path expressions.field_value expressions.field expressions.struct_literal expressions.print expressions.named expressions.block_value expressions.let_test expressions.test expressions.else_value expressions.conditional expressions.arms_from expressions.arms expressions.match_value expressions.loop_value expressions.while_value expressions.labelled expressions.primary expressions.member expressions.postfix expressions.borrow expressions.borrow_twice expressions.unary expressions.longer expressions.at_strength expressions.return_value expressions.jump expressions.set_or_operand items.derived_name items.derives items.lifetime_parameter items.lifetimes items.bounds_from items.bounds items.bound_lifetime items.bound_lifetimes items.struct_field items.variant items.parameter items.result items.structure items.enumeration items.derived items.function items.rt items.item items.items_from items.file lists.elements_from lists.elements lists.some_elements lists.group numbers.numeral numbers.index_value numbers.number numbers.index operators.operator_at patterns_of.mutable_binding patterns_of.number_pattern patterns_of.negative_pattern patterns_of.variant_pattern patterns_of.long_field patterns_of.short_field patterns_of.field_pattern patterns_of.struct_pattern patterns_of.named_pattern patterns_of.pattern steps.expect steps.sees_word steps.expect_word symbols.keyword symbols.mark symbols.symbol_of symbols.same_symbol types_of.mutability types_of.reference_lifetime types_of.lifetime_argument types_of.named_type types_of.reference types_of.two_references types_of.typ
faults_2 = (refl, refl, refl, refl)

faults_3 :
    -- fn f<'a: >() {}
    (items.file 16 (k 0 (codes "fn") ∷ n 3 (codes "f") ∷ m 4 (codes "<") ∷ l 5 (codes "'a") ∷ m 7 (codes ":") ∷ m 9 (codes ">") ∷ m 10 (codes "(") ∷ m 11 (codes ")") ∷ m 13 (codes "{") ∷ m 14 (codes "}") ∷ []) ≡ Err (stop.Syntax 5))
    -- fn f() { let E::V(); }
    × (items.file 16 (k 0 (codes "fn") ∷ n 3 (codes "f") ∷ m 4 (codes "(") ∷ m 5 (codes ")") ∷ m 7 (codes "{") ∷ k 9 (codes "let") ∷ n 13 (codes "E") ∷ m 14 (codes "::") ∷ n 16 (codes "V") ∷ m 17 (codes "(") ∷ m 18 (codes ")") ∷ m 19 (codes ";") ∷ m 21 (codes "}") ∷ []) ≡ Err (stop.Syntax 3))
    -- fn f() { E::V(); }
    × (items.file 16 (k 0 (codes "fn") ∷ n 3 (codes "f") ∷ m 4 (codes "(") ∷ m 5 (codes ")") ∷ m 7 (codes "{") ∷ n 9 (codes "E") ∷ m 10 (codes "::") ∷ n 12 (codes "V") ∷ m 13 (codes "(") ∷ m 14 (codes ")") ∷ m 15 (codes ";") ∷ m 17 (codes "}") ∷ []) ≡ Err (stop.Syntax 3))
    -- fn f() { a == b == c; }
    × (items.file 16 (k 0 (codes "fn") ∷ n 3 (codes "f") ∷ m 4 (codes "(") ∷ m 5 (codes ")") ∷ m 7 (codes "{") ∷ n 9 (codes "a") ∷ m 11 (codes "==") ∷ n 14 (codes "b") ∷ m 16 (codes "==") ∷ n 19 (codes "c") ∷ m 20 (codes ";") ∷ m 22 (codes "}") ∷ []) ≡ Err (stop.Syntax 4))
unfolding blocks.annotation blocks.let_statement blocks.statements_from blocks.statements blocks.block_of blocks.operand blocks.whole blocks.like blocks.block expressions.chain expressions.call expressions.variant_arguments expressions.input expressions.variant_with expressions.path expressions.field_value expressions.field expressions.struct_literal expressions.print expressions.named expressions.block_value expressions.let_test expressions.test expressions.else_value expressions.conditional expressions.arms_from expressions.arms expressions.match_value expressions.loop_value expressions.while_value expressions.labelled expressions.primary expressions.member expressions.postfix expressions.borrow expressions.borrow_twice expressions.unary expressions.longer expressions.at_strength expressions.return_value expressions.jump expressions.set_or_operand items.derived_name items.derives items.lifetime_parameter items.lifetimes items.bounds_from items.bounds items.bound_lifetime items.bound_lifetimes items.struct_field items.variant items.parameter items.result items.structure items.enumeration items.derived items.function items.rt items.item items.items_from items.file lists.elements_from lists.elements lists.some_elements lists.group numbers.numeral numbers.index_value numbers.number numbers.index operators.operator_at patterns_of.mutable_binding patterns_of.number_pattern patterns_of.negative_pattern patterns_of.variant_pattern patterns_of.long_field patterns_of.short_field patterns_of.field_pattern patterns_of.struct_pattern patterns_of.named_pattern patterns_of.pattern steps.expect steps.sees_word steps.expect_word symbols.keyword symbols.mark symbols.symbol_of symbols.same_symbol types_of.mutability types_of.reference_lifetime types_of.lifetime_argument types_of.named_type types_of.reference types_of.two_references types_of.typ
faults_3 = (refl, refl, refl, refl)

faults_4 :
    -- fn f() { a < b > c; }
    (items.file 16 (k 0 (codes "fn") ∷ n 3 (codes "f") ∷ m 4 (codes "(") ∷ m 5 (codes ")") ∷ m 7 (codes "{") ∷ n 9 (codes "a") ∷ m 11 (codes "<") ∷ n 13 (codes "b") ∷ m 15 (codes ">") ∷ n 17 (codes "c") ∷ m 18 (codes ";") ∷ m 20 (codes "}") ∷ []) ≡ Err (stop.Syntax 4))
    -- fn f() { if S { a: 1 } {} }
    × (items.file 16 (k 0 (codes "fn") ∷ n 3 (codes "f") ∷ m 4 (codes "(") ∷ m 5 (codes ")") ∷ m 7 (codes "{") ∷ k 9 (codes "if") ∷ n 12 (codes "S") ∷ m 14 (codes "{") ∷ n 16 (codes "a") ∷ m 17 (codes ":") ∷ d 19 (codes "1") ∷ m 21 (codes "}") ∷ m 23 (codes "{") ∷ m 24 (codes "}") ∷ m 26 (codes "}") ∷ []) ≡ Err (stop.Syntax 6))
    -- fn f() { {} + 1; }
    × (items.file 16 (k 0 (codes "fn") ∷ n 3 (codes "f") ∷ m 4 (codes "(") ∷ m 5 (codes ")") ∷ m 7 (codes "{") ∷ m 9 (codes "{") ∷ m 10 (codes "}") ∷ m 12 (codes "+") ∷ d 14 (codes "1") ∷ m 15 (codes ";") ∷ m 17 (codes "}") ∷ []) ≡ Err (stop.Syntax 4))
    -- fn f() { {}.a; }
    × (items.file 16 (k 0 (codes "fn") ∷ n 3 (codes "f") ∷ m 4 (codes "(") ∷ m 5 (codes ")") ∷ m 7 (codes "{") ∷ m 9 (codes "{") ∷ m 10 (codes "}") ∷ m 11 (codes ".") ∷ n 12 (codes "a") ∷ m 13 (codes ";") ∷ m 15 (codes "}") ∷ []) ≡ Err (stop.Syntax 4))
unfolding blocks.annotation blocks.let_statement blocks.statements_from blocks.statements blocks.block_of blocks.operand blocks.whole blocks.like blocks.block expressions.chain expressions.call expressions.variant_arguments expressions.input expressions.variant_with expressions.path expressions.field_value expressions.field expressions.struct_literal expressions.print expressions.named expressions.block_value expressions.let_test expressions.test expressions.else_value expressions.conditional expressions.arms_from expressions.arms expressions.match_value expressions.loop_value expressions.while_value expressions.labelled expressions.primary expressions.member expressions.postfix expressions.borrow expressions.borrow_twice expressions.unary expressions.longer expressions.at_strength expressions.return_value expressions.jump expressions.set_or_operand items.derived_name items.derives items.lifetime_parameter items.lifetimes items.bounds_from items.bounds items.bound_lifetime items.bound_lifetimes items.struct_field items.variant items.parameter items.result items.structure items.enumeration items.derived items.function items.rt items.item items.items_from items.file lists.elements_from lists.elements lists.some_elements lists.group numbers.numeral numbers.index_value numbers.number numbers.index operators.operator_at patterns_of.mutable_binding patterns_of.number_pattern patterns_of.negative_pattern patterns_of.variant_pattern patterns_of.long_field patterns_of.short_field patterns_of.field_pattern patterns_of.struct_pattern patterns_of.named_pattern patterns_of.pattern steps.expect steps.sees_word steps.expect_word symbols.keyword symbols.mark symbols.symbol_of symbols.same_symbol types_of.mutability types_of.reference_lifetime types_of.lifetime_argument types_of.named_type types_of.reference types_of.two_references types_of.typ
faults_4 = (refl, refl, refl, refl)

faults_5 :
    -- fn f() { match x {} }
    (items.file 16 (k 0 (codes "fn") ∷ n 3 (codes "f") ∷ m 4 (codes "(") ∷ m 5 (codes ")") ∷ m 7 (codes "{") ∷ k 9 (codes "match") ∷ n 15 (codes "x") ∷ m 17 (codes "{") ∷ m 18 (codes "}") ∷ m 20 (codes "}") ∷ []) ≡ Err (stop.Syntax 2))
    -- fn f() { match x { _ => {} + 1 } }
    × (items.file 16 (k 0 (codes "fn") ∷ n 3 (codes "f") ∷ m 4 (codes "(") ∷ m 5 (codes ")") ∷ m 7 (codes "{") ∷ k 9 (codes "match") ∷ n 15 (codes "x") ∷ m 17 (codes "{") ∷ m 19 (codes "_") ∷ m 21 (codes "=>") ∷ m 24 (codes "{") ∷ m 25 (codes "}") ∷ m 27 (codes "+") ∷ d 29 (codes "1") ∷ m 31 (codes "}") ∷ m 33 (codes "}") ∷ []) ≡ Err (stop.Syntax 4))
    -- fn f() { match x { _ => 1 _ => 2 } }
    × (items.file 16 (k 0 (codes "fn") ∷ n 3 (codes "f") ∷ m 4 (codes "(") ∷ m 5 (codes ")") ∷ m 7 (codes "{") ∷ k 9 (codes "match") ∷ n 15 (codes "x") ∷ m 17 (codes "{") ∷ m 19 (codes "_") ∷ m 21 (codes "=>") ∷ d 24 (codes "1") ∷ m 26 (codes "_") ∷ m 28 (codes "=>") ∷ d 31 (codes "2") ∷ m 33 (codes "}") ∷ m 35 (codes "}") ∷ []) ≡ Err (stop.Syntax 5))
    -- fn f() { println!("{}", x,); }
    × (items.file 16 (k 0 (codes "fn") ∷ n 3 (codes "f") ∷ m 4 (codes "(") ∷ m 5 (codes ")") ∷ m 7 (codes "{") ∷ n 9 (codes "println") ∷ m 16 (codes "!") ∷ m 17 (codes "(") ∷ f 18 ∷ m 22 (codes ",") ∷ n 24 (codes "x") ∷ m 25 (codes ",") ∷ m 26 (codes ")") ∷ m 27 (codes ";") ∷ m 29 (codes "}") ∷ []) ≡ Err (stop.Syntax 4))
unfolding blocks.annotation blocks.let_statement blocks.statements_from blocks.statements blocks.block_of blocks.operand blocks.whole blocks.like blocks.block expressions.chain expressions.call expressions.variant_arguments expressions.input expressions.variant_with expressions.path expressions.field_value expressions.field expressions.struct_literal expressions.print expressions.named expressions.block_value expressions.let_test expressions.test expressions.else_value expressions.conditional expressions.arms_from expressions.arms expressions.match_value expressions.loop_value expressions.while_value expressions.labelled expressions.primary expressions.member expressions.postfix expressions.borrow expressions.borrow_twice expressions.unary expressions.longer expressions.at_strength expressions.return_value expressions.jump expressions.set_or_operand items.derived_name items.derives items.lifetime_parameter items.lifetimes items.bounds_from items.bounds items.bound_lifetime items.bound_lifetimes items.struct_field items.variant items.parameter items.result items.structure items.enumeration items.derived items.function items.rt items.item items.items_from items.file lists.elements_from lists.elements lists.some_elements lists.group numbers.numeral numbers.index_value numbers.number numbers.index operators.operator_at patterns_of.mutable_binding patterns_of.number_pattern patterns_of.negative_pattern patterns_of.variant_pattern patterns_of.long_field patterns_of.short_field patterns_of.field_pattern patterns_of.struct_pattern patterns_of.named_pattern patterns_of.pattern steps.expect steps.sees_word steps.expect_word symbols.keyword symbols.mark symbols.symbol_of symbols.same_symbol types_of.mutability types_of.reference_lifetime types_of.lifetime_argument types_of.named_type types_of.reference types_of.two_references types_of.typ
faults_5 = (refl, refl, refl, refl)

faults_6 :
    -- fn f() { x.0x1; }
    (items.file 16 (k 0 (codes "fn") ∷ n 3 (codes "f") ∷ m 4 (codes "(") ∷ m 5 (codes ")") ∷ m 7 (codes "{") ∷ n 9 (codes "x") ∷ m 10 (codes ".") ∷ d 11 (codes "0x1") ∷ m 14 (codes ";") ∷ m 16 (codes "}") ∷ []) ≡ Err (stop.Syntax 3))
    -- fn f() { x.01; }
    × (items.file 16 (k 0 (codes "fn") ∷ n 3 (codes "f") ∷ m 4 (codes "(") ∷ m 5 (codes ")") ∷ m 7 (codes "{") ∷ n 9 (codes "x") ∷ m 10 (codes ".") ∷ d 11 (codes "01") ∷ m 13 (codes ";") ∷ m 15 (codes "}") ∷ []) ≡ Err (stop.Syntax 3))
    -- fn f() { x.1u8; }
    × (items.file 16 (k 0 (codes "fn") ∷ n 3 (codes "f") ∷ m 4 (codes "(") ∷ m 5 (codes ")") ∷ m 7 (codes "{") ∷ n 9 (codes "x") ∷ m 10 (codes ".") ∷ d 11 (codes "1u8") ∷ m 14 (codes ";") ∷ m 16 (codes "}") ∷ []) ≡ Err (stop.Syntax 3))
    -- fn f() { let (x); }
    × (items.file 16 (k 0 (codes "fn") ∷ n 3 (codes "f") ∷ m 4 (codes "(") ∷ m 5 (codes ")") ∷ m 7 (codes "{") ∷ k 9 (codes "let") ∷ m 13 (codes "(") ∷ n 14 (codes "x") ∷ m 15 (codes ")") ∷ m 16 (codes ";") ∷ m 18 (codes "}") ∷ []) ≡ Err (stop.Syntax 2))
unfolding blocks.annotation blocks.let_statement blocks.statements_from blocks.statements blocks.block_of blocks.operand blocks.whole blocks.like blocks.block expressions.chain expressions.call expressions.variant_arguments expressions.input expressions.variant_with expressions.path expressions.field_value expressions.field expressions.struct_literal expressions.print expressions.named expressions.block_value expressions.let_test expressions.test expressions.else_value expressions.conditional expressions.arms_from expressions.arms expressions.match_value expressions.loop_value expressions.while_value expressions.labelled expressions.primary expressions.member expressions.postfix expressions.borrow expressions.borrow_twice expressions.unary expressions.longer expressions.at_strength expressions.return_value expressions.jump expressions.set_or_operand items.derived_name items.derives items.lifetime_parameter items.lifetimes items.bounds_from items.bounds items.bound_lifetime items.bound_lifetimes items.struct_field items.variant items.parameter items.result items.structure items.enumeration items.derived items.function items.rt items.item items.items_from items.file lists.elements_from lists.elements lists.some_elements lists.group numbers.numeral numbers.index_value numbers.number numbers.index operators.operator_at patterns_of.mutable_binding patterns_of.number_pattern patterns_of.negative_pattern patterns_of.variant_pattern patterns_of.long_field patterns_of.short_field patterns_of.field_pattern patterns_of.struct_pattern patterns_of.named_pattern patterns_of.pattern steps.expect steps.sees_word steps.expect_word symbols.keyword symbols.mark symbols.symbol_of symbols.same_symbol types_of.mutability types_of.reference_lifetime types_of.lifetime_argument types_of.named_type types_of.reference types_of.two_references types_of.typ
faults_6 = (refl, refl, refl, refl)

faults_7 :
    -- fn f() { let 1; }
    (items.file 16 (k 0 (codes "fn") ∷ n 3 (codes "f") ∷ m 4 (codes "(") ∷ m 5 (codes ")") ∷ m 7 (codes "{") ∷ k 9 (codes "let") ∷ d 13 (codes "1") ∷ m 14 (codes ";") ∷ m 16 (codes "}") ∷ []) ≡ Err (stop.Syntax 2))
    -- fn f() { ; }
    × (items.file 16 (k 0 (codes "fn") ∷ n 3 (codes "f") ∷ m 4 (codes "(") ∷ m 5 (codes ")") ∷ m 7 (codes "{") ∷ m 9 (codes ";") ∷ m 11 (codes "}") ∷ []) ≡ Err (stop.Syntax 2))
    -- fn f() { if a {} else x }
    × (items.file 16 (k 0 (codes "fn") ∷ n 3 (codes "f") ∷ m 4 (codes "(") ∷ m 5 (codes ")") ∷ m 7 (codes "{") ∷ k 9 (codes "if") ∷ n 12 (codes "a") ∷ m 14 (codes "{") ∷ m 15 (codes "}") ∷ k 17 (codes "else") ∷ n 22 (codes "x") ∷ m 24 (codes "}") ∷ []) ≡ Err (stop.Syntax 2))
    -- fn f() { 'a: x }
    × (items.file 16 (k 0 (codes "fn") ∷ n 3 (codes "f") ∷ m 4 (codes "(") ∷ m 5 (codes ")") ∷ m 7 (codes "{") ∷ l 9 (codes "'a") ∷ m 11 (codes ":") ∷ n 13 (codes "x") ∷ m 15 (codes "}") ∷ []) ≡ Err (stop.Syntax 2))
unfolding blocks.annotation blocks.let_statement blocks.statements_from blocks.statements blocks.block_of blocks.operand blocks.whole blocks.like blocks.block expressions.chain expressions.call expressions.variant_arguments expressions.input expressions.variant_with expressions.path expressions.field_value expressions.field expressions.struct_literal expressions.print expressions.named expressions.block_value expressions.let_test expressions.test expressions.else_value expressions.conditional expressions.arms_from expressions.arms expressions.match_value expressions.loop_value expressions.while_value expressions.labelled expressions.primary expressions.member expressions.postfix expressions.borrow expressions.borrow_twice expressions.unary expressions.longer expressions.at_strength expressions.return_value expressions.jump expressions.set_or_operand items.derived_name items.derives items.lifetime_parameter items.lifetimes items.bounds_from items.bounds items.bound_lifetime items.bound_lifetimes items.struct_field items.variant items.parameter items.result items.structure items.enumeration items.derived items.function items.rt items.item items.items_from items.file lists.elements_from lists.elements lists.some_elements lists.group numbers.numeral numbers.index_value numbers.number numbers.index operators.operator_at patterns_of.mutable_binding patterns_of.number_pattern patterns_of.negative_pattern patterns_of.variant_pattern patterns_of.long_field patterns_of.short_field patterns_of.field_pattern patterns_of.struct_pattern patterns_of.named_pattern patterns_of.pattern steps.expect steps.sees_word steps.expect_word symbols.keyword symbols.mark symbols.symbol_of symbols.same_symbol types_of.mutability types_of.reference_lifetime types_of.lifetime_argument types_of.named_type types_of.reference types_of.two_references types_of.typ
faults_7 = (refl, refl, refl, refl)

faults_8 :
    -- fn f() { foo!(1); }
    (items.file 16 (k 0 (codes "fn") ∷ n 3 (codes "f") ∷ m 4 (codes "(") ∷ m 5 (codes ")") ∷ m 7 (codes "{") ∷ n 9 (codes "foo") ∷ m 12 (codes "!") ∷ m 13 (codes "(") ∷ d 14 (codes "1") ∷ m 15 (codes ")") ∷ m 16 (codes ";") ∷ m 18 (codes "}") ∷ []) ≡ Err (stop.Syntax 6))
    -- fn f() { f()(); }
    × (items.file 16 (k 0 (codes "fn") ∷ n 3 (codes "f") ∷ m 4 (codes "(") ∷ m 5 (codes ")") ∷ m 7 (codes "{") ∷ n 9 (codes "f") ∷ m 10 (codes "(") ∷ m 11 (codes ")") ∷ m 12 (codes "(") ∷ m 13 (codes ")") ∷ m 14 (codes ";") ∷ m 16 (codes "}") ∷ []) ≡ Err (stop.Syntax 4))
    -- fn f() { a b }
    × (items.file 16 (k 0 (codes "fn") ∷ n 3 (codes "f") ∷ m 4 (codes "(") ∷ m 5 (codes ")") ∷ m 7 (codes "{") ∷ n 9 (codes "a") ∷ n 11 (codes "b") ∷ m 13 (codes "}") ∷ []) ≡ Err (stop.Syntax 2))
    -- fn f() { return + 1; }
    × (items.file 16 (k 0 (codes "fn") ∷ n 3 (codes "f") ∷ m 4 (codes "(") ∷ m 5 (codes ")") ∷ m 7 (codes "{") ∷ k 9 (codes "return") ∷ m 16 (codes "+") ∷ d 18 (codes "1") ∷ m 19 (codes ";") ∷ m 21 (codes "}") ∷ []) ≡ Err (stop.Syntax 4))
unfolding blocks.annotation blocks.let_statement blocks.statements_from blocks.statements blocks.block_of blocks.operand blocks.whole blocks.like blocks.block expressions.chain expressions.call expressions.variant_arguments expressions.input expressions.variant_with expressions.path expressions.field_value expressions.field expressions.struct_literal expressions.print expressions.named expressions.block_value expressions.let_test expressions.test expressions.else_value expressions.conditional expressions.arms_from expressions.arms expressions.match_value expressions.loop_value expressions.while_value expressions.labelled expressions.primary expressions.member expressions.postfix expressions.borrow expressions.borrow_twice expressions.unary expressions.longer expressions.at_strength expressions.return_value expressions.jump expressions.set_or_operand items.derived_name items.derives items.lifetime_parameter items.lifetimes items.bounds_from items.bounds items.bound_lifetime items.bound_lifetimes items.struct_field items.variant items.parameter items.result items.structure items.enumeration items.derived items.function items.rt items.item items.items_from items.file lists.elements_from lists.elements lists.some_elements lists.group numbers.numeral numbers.index_value numbers.number numbers.index operators.operator_at patterns_of.mutable_binding patterns_of.number_pattern patterns_of.negative_pattern patterns_of.variant_pattern patterns_of.long_field patterns_of.short_field patterns_of.field_pattern patterns_of.struct_pattern patterns_of.named_pattern patterns_of.pattern steps.expect steps.sees_word steps.expect_word symbols.keyword symbols.mark symbols.symbol_of symbols.same_symbol types_of.mutability types_of.reference_lifetime types_of.lifetime_argument types_of.named_type types_of.reference types_of.two_references types_of.typ
faults_8 = (refl, refl, refl, refl)

faults_9 :
    -- fn f() { let x: S<> = a; }
    (items.file 16 (k 0 (codes "fn") ∷ n 3 (codes "f") ∷ m 4 (codes "(") ∷ m 5 (codes ")") ∷ m 7 (codes "{") ∷ k 9 (codes "let") ∷ n 13 (codes "x") ∷ m 14 (codes ":") ∷ n 16 (codes "S") ∷ m 17 (codes "<") ∷ m 18 (codes ">") ∷ m 20 (codes "=") ∷ n 22 (codes "a") ∷ m 23 (codes ";") ∷ m 25 (codes "}") ∷ []) ≡ Err (stop.Syntax 5))
    -- let
    × (items.file 16 (k 0 (codes "let") ∷ []) ≡ Err (stop.Syntax 1))
    -- struct S {} 1
    × (items.file 16 (k 0 (codes "struct") ∷ n 7 (codes "S") ∷ m 9 (codes "{") ∷ m 10 (codes "}") ∷ d 12 (codes "1") ∷ []) ≡ Err (stop.Syntax 1))
unfolding blocks.annotation blocks.let_statement blocks.statements_from blocks.statements blocks.block_of blocks.operand blocks.whole blocks.like blocks.block expressions.chain expressions.call expressions.variant_arguments expressions.input expressions.variant_with expressions.path expressions.field_value expressions.field expressions.struct_literal expressions.print expressions.named expressions.block_value expressions.let_test expressions.test expressions.else_value expressions.conditional expressions.arms_from expressions.arms expressions.match_value expressions.loop_value expressions.while_value expressions.labelled expressions.primary expressions.member expressions.postfix expressions.borrow expressions.borrow_twice expressions.unary expressions.longer expressions.at_strength expressions.return_value expressions.jump expressions.set_or_operand items.derived_name items.derives items.lifetime_parameter items.lifetimes items.bounds_from items.bounds items.bound_lifetime items.bound_lifetimes items.struct_field items.variant items.parameter items.result items.structure items.enumeration items.derived items.function items.rt items.item items.items_from items.file lists.elements_from lists.elements lists.some_elements lists.group numbers.numeral numbers.index_value numbers.number numbers.index operators.operator_at patterns_of.mutable_binding patterns_of.number_pattern patterns_of.negative_pattern patterns_of.variant_pattern patterns_of.long_field patterns_of.short_field patterns_of.field_pattern patterns_of.struct_pattern patterns_of.named_pattern patterns_of.pattern steps.expect steps.sees_word steps.expect_word symbols.keyword symbols.mark symbols.symbol_of symbols.same_symbol types_of.mutability types_of.reference_lifetime types_of.lifetime_argument types_of.named_type types_of.reference types_of.two_references types_of.typ
faults_9 = (refl, refl, refl)

too_deep_0 :
    -- &u8, of 1 levels
    (types_of.typ 1 (m 0 (codes "&") ∷ k 1 (codes "u8") ∷ []) ≡ Err (stop.TooDeep 2))
    -- &&u8, of 2 levels
    × (types_of.typ 2 (m 0 (codes "&&") ∷ k 2 (codes "u8") ∷ []) ≡ Err (stop.TooDeep 2))
    -- (u8), of 1 levels
    × (types_of.typ 1 (m 0 (codes "(") ∷ k 1 (codes "u8") ∷ m 3 (codes ")") ∷ []) ≡ Err (stop.TooDeep 2))
    -- (u8,), of 1 levels
    × (types_of.typ 1 (m 0 (codes "(") ∷ k 1 (codes "u8") ∷ m 3 (codes ",") ∷ m 4 (codes ")") ∷ []) ≡ Err (stop.TooDeep 3))
    -- ((u8)), of 2 levels
    × (types_of.typ 2 (m 0 (codes "(") ∷ m 1 (codes "(") ∷ k 2 (codes "u8") ∷ m 4 (codes ")") ∷ m 5 (codes ")") ∷ []) ≡ Err (stop.TooDeep 3))
    -- (x), of 1 levels
    × (patterns_of.pattern 1 (m 0 (codes "(") ∷ n 1 (codes "x") ∷ m 2 (codes ")") ∷ []) ≡ Err (stop.TooDeep 2))
unfolding blocks.annotation blocks.let_statement blocks.statements_from blocks.statements blocks.block_of blocks.operand blocks.whole blocks.like blocks.block expressions.chain expressions.call expressions.variant_arguments expressions.input expressions.variant_with expressions.path expressions.field_value expressions.field expressions.struct_literal expressions.print expressions.named expressions.block_value expressions.let_test expressions.test expressions.else_value expressions.conditional expressions.arms_from expressions.arms expressions.match_value expressions.loop_value expressions.while_value expressions.labelled expressions.primary expressions.member expressions.postfix expressions.borrow expressions.borrow_twice expressions.unary expressions.longer expressions.at_strength expressions.return_value expressions.jump expressions.set_or_operand items.derived_name items.derives items.lifetime_parameter items.lifetimes items.bounds_from items.bounds items.bound_lifetime items.bound_lifetimes items.struct_field items.variant items.parameter items.result items.structure items.enumeration items.derived items.function items.rt items.item items.items_from items.file lists.elements_from lists.elements lists.some_elements lists.group numbers.numeral numbers.index_value numbers.number numbers.index operators.operator_at patterns_of.mutable_binding patterns_of.number_pattern patterns_of.negative_pattern patterns_of.variant_pattern patterns_of.long_field patterns_of.short_field patterns_of.field_pattern patterns_of.struct_pattern patterns_of.named_pattern patterns_of.pattern steps.expect steps.sees_word steps.expect_word symbols.keyword symbols.mark symbols.symbol_of symbols.same_symbol types_of.mutability types_of.reference_lifetime types_of.lifetime_argument types_of.named_type types_of.reference types_of.two_references types_of.typ
too_deep_0 = (refl, refl, refl, refl, refl, refl)

too_deep_1 :
    -- E::V(x), of 1 levels
    (patterns_of.pattern 1 (n 0 (codes "E") ∷ m 1 (codes "::") ∷ n 3 (codes "V") ∷ m 4 (codes "(") ∷ n 5 (codes "x") ∷ m 6 (codes ")") ∷ []) ≡ Err (stop.TooDeep 3))
    -- S { a }, of 1 levels
    × (patterns_of.pattern 1 (n 0 (codes "S") ∷ m 2 (codes "{") ∷ n 4 (codes "a") ∷ m 6 (codes "}") ∷ []) ≡ Err (stop.TooDeep 2))
    -- S { mut a }, of 1 levels
    × (patterns_of.pattern 1 (n 0 (codes "S") ∷ m 2 (codes "{") ∷ k 4 (codes "mut") ∷ n 8 (codes "a") ∷ m 10 (codes "}") ∷ []) ≡ Err (stop.TooDeep 3))
    -- -x, of 1 levels
    × (blocks.whole 1 (m 0 (codes "-") ∷ n 1 (codes "x") ∷ []) ≡ Err (stop.TooDeep 2))
    -- &&x, of 2 levels
    × (blocks.whole 2 (m 0 (codes "&&") ∷ n 2 (codes "x") ∷ []) ≡ Err (stop.TooDeep 2))
    -- (x), of 1 levels
    × (blocks.whole 1 (m 0 (codes "(") ∷ n 1 (codes "x") ∷ m 2 (codes ")") ∷ []) ≡ Err (stop.TooDeep 2))
unfolding blocks.annotation blocks.let_statement blocks.statements_from blocks.statements blocks.block_of blocks.operand blocks.whole blocks.like blocks.block expressions.chain expressions.call expressions.variant_arguments expressions.input expressions.variant_with expressions.path expressions.field_value expressions.field expressions.struct_literal expressions.print expressions.named expressions.block_value expressions.let_test expressions.test expressions.else_value expressions.conditional expressions.arms_from expressions.arms expressions.match_value expressions.loop_value expressions.while_value expressions.labelled expressions.primary expressions.member expressions.postfix expressions.borrow expressions.borrow_twice expressions.unary expressions.longer expressions.at_strength expressions.return_value expressions.jump expressions.set_or_operand items.derived_name items.derives items.lifetime_parameter items.lifetimes items.bounds_from items.bounds items.bound_lifetime items.bound_lifetimes items.struct_field items.variant items.parameter items.result items.structure items.enumeration items.derived items.function items.rt items.item items.items_from items.file lists.elements_from lists.elements lists.some_elements lists.group numbers.numeral numbers.index_value numbers.number numbers.index operators.operator_at patterns_of.mutable_binding patterns_of.number_pattern patterns_of.negative_pattern patterns_of.variant_pattern patterns_of.long_field patterns_of.short_field patterns_of.field_pattern patterns_of.struct_pattern patterns_of.named_pattern patterns_of.pattern steps.expect steps.sees_word steps.expect_word symbols.keyword symbols.mark symbols.symbol_of symbols.same_symbol types_of.mutability types_of.reference_lifetime types_of.lifetime_argument types_of.named_type types_of.reference types_of.two_references types_of.typ
too_deep_1 = (refl, refl, refl, refl, refl, refl)

too_deep_2 :
    -- f(x), of 1 levels
    (blocks.whole 1 (n 0 (codes "f") ∷ m 1 (codes "(") ∷ n 2 (codes "x") ∷ m 3 (codes ")") ∷ []) ≡ Err (stop.TooDeep 2))
    -- E::V(x), of 1 levels
    × (blocks.whole 1 (n 0 (codes "E") ∷ m 1 (codes "::") ∷ n 3 (codes "V") ∷ m 4 (codes "(") ∷ n 5 (codes "x") ∷ m 6 (codes ")") ∷ []) ≡ Err (stop.TooDeep 3))
    -- rt::next(x), of 1 levels
    × (blocks.whole 1 (n 0 (codes "rt") ∷ m 2 (codes "::") ∷ n 4 (codes "next") ∷ m 8 (codes "(") ∷ n 9 (codes "x") ∷ m 10 (codes ")") ∷ []) ≡ Err (stop.TooDeep 2))
    -- S { a }, of 1 levels
    × (blocks.whole 1 (n 0 (codes "S") ∷ m 2 (codes "{") ∷ n 4 (codes "a") ∷ m 6 (codes "}") ∷ []) ≡ Err (stop.TooDeep 2))
    -- println!("{}", x), of 1 levels
    × (blocks.whole 1 (n 0 (codes "println") ∷ m 7 (codes "!") ∷ m 8 (codes "(") ∷ f 9 ∷ m 13 (codes ",") ∷ n 15 (codes "x") ∷ m 16 (codes ")") ∷ []) ≡ Err (stop.TooDeep 6))
    -- x.a, of 1 levels
    × (blocks.whole 1 (n 0 (codes "x") ∷ m 1 (codes ".") ∷ n 2 (codes "a") ∷ []) ≡ Err (stop.TooDeep 2))
unfolding blocks.annotation blocks.let_statement blocks.statements_from blocks.statements blocks.block_of blocks.operand blocks.whole blocks.like blocks.block expressions.chain expressions.call expressions.variant_arguments expressions.input expressions.variant_with expressions.path expressions.field_value expressions.field expressions.struct_literal expressions.print expressions.named expressions.block_value expressions.let_test expressions.test expressions.else_value expressions.conditional expressions.arms_from expressions.arms expressions.match_value expressions.loop_value expressions.while_value expressions.labelled expressions.primary expressions.member expressions.postfix expressions.borrow expressions.borrow_twice expressions.unary expressions.longer expressions.at_strength expressions.return_value expressions.jump expressions.set_or_operand items.derived_name items.derives items.lifetime_parameter items.lifetimes items.bounds_from items.bounds items.bound_lifetime items.bound_lifetimes items.struct_field items.variant items.parameter items.result items.structure items.enumeration items.derived items.function items.rt items.item items.items_from items.file lists.elements_from lists.elements lists.some_elements lists.group numbers.numeral numbers.index_value numbers.number numbers.index operators.operator_at patterns_of.mutable_binding patterns_of.number_pattern patterns_of.negative_pattern patterns_of.variant_pattern patterns_of.long_field patterns_of.short_field patterns_of.field_pattern patterns_of.struct_pattern patterns_of.named_pattern patterns_of.pattern steps.expect steps.sees_word steps.expect_word symbols.keyword symbols.mark symbols.symbol_of symbols.same_symbol types_of.mutability types_of.reference_lifetime types_of.lifetime_argument types_of.named_type types_of.reference types_of.two_references types_of.typ
too_deep_2 = (refl, refl, refl, refl, refl, refl)

too_deep_3 :
    -- x.a.b, of 2 levels
    (blocks.whole 2 (n 0 (codes "x") ∷ m 1 (codes ".") ∷ n 2 (codes "a") ∷ m 3 (codes ".") ∷ n 4 (codes "b") ∷ []) ≡ Err (stop.TooDeep 2))
    -- a + b, of 1 levels
    × (blocks.whole 1 (n 0 (codes "a") ∷ m 2 (codes "+") ∷ n 4 (codes "b") ∷ []) ≡ Err (stop.TooDeep 2))
    -- a + b + c, of 2 levels
    × (blocks.whole 2 (n 0 (codes "a") ∷ m 2 (codes "+") ∷ n 4 (codes "b") ∷ m 6 (codes "+") ∷ n 8 (codes "c") ∷ []) ≡ Err (stop.TooDeep 2))
    -- a = b, of 1 levels
    × (blocks.whole 1 (n 0 (codes "a") ∷ m 2 (codes "=") ∷ n 4 (codes "b") ∷ []) ≡ Err (stop.TooDeep 2))
    -- {}, of 1 levels
    × (blocks.whole 1 (m 0 (codes "{") ∷ m 1 (codes "}") ∷ []) ≡ Err (stop.TooDeep 2))
    -- { x }, of 2 levels
    × (blocks.whole 2 (m 0 (codes "{") ∷ n 2 (codes "x") ∷ m 4 (codes "}") ∷ []) ≡ Err (stop.TooDeep 2))
unfolding blocks.annotation blocks.let_statement blocks.statements_from blocks.statements blocks.block_of blocks.operand blocks.whole blocks.like blocks.block expressions.chain expressions.call expressions.variant_arguments expressions.input expressions.variant_with expressions.path expressions.field_value expressions.field expressions.struct_literal expressions.print expressions.named expressions.block_value expressions.let_test expressions.test expressions.else_value expressions.conditional expressions.arms_from expressions.arms expressions.match_value expressions.loop_value expressions.while_value expressions.labelled expressions.primary expressions.member expressions.postfix expressions.borrow expressions.borrow_twice expressions.unary expressions.longer expressions.at_strength expressions.return_value expressions.jump expressions.set_or_operand items.derived_name items.derives items.lifetime_parameter items.lifetimes items.bounds_from items.bounds items.bound_lifetime items.bound_lifetimes items.struct_field items.variant items.parameter items.result items.structure items.enumeration items.derived items.function items.rt items.item items.items_from items.file lists.elements_from lists.elements lists.some_elements lists.group numbers.numeral numbers.index_value numbers.number numbers.index operators.operator_at patterns_of.mutable_binding patterns_of.number_pattern patterns_of.negative_pattern patterns_of.variant_pattern patterns_of.long_field patterns_of.short_field patterns_of.field_pattern patterns_of.struct_pattern patterns_of.named_pattern patterns_of.pattern steps.expect steps.sees_word steps.expect_word symbols.keyword symbols.mark symbols.symbol_of symbols.same_symbol types_of.mutability types_of.reference_lifetime types_of.lifetime_argument types_of.named_type types_of.reference types_of.two_references types_of.typ
too_deep_3 = (refl, refl, refl, refl, refl, refl)

too_deep_4 :
    -- { let x; }, of 2 levels
    (blocks.whole 2 (m 0 (codes "{") ∷ k 2 (codes "let") ∷ n 6 (codes "x") ∷ m 7 (codes ";") ∷ m 9 (codes "}") ∷ []) ≡ Err (stop.TooDeep 4))
    -- return x, of 1 levels
    × (blocks.whole 1 (k 0 (codes "return") ∷ n 7 (codes "x") ∷ []) ≡ Err (stop.TooDeep 1))
    -- if a {} else {}, of 2 levels
    × (blocks.whole 2 (k 0 (codes "if") ∷ n 3 (codes "a") ∷ m 5 (codes "{") ∷ m 6 (codes "}") ∷ k 8 (codes "else") ∷ m 13 (codes "{") ∷ m 14 (codes "}") ∷ []) ≡ Err (stop.TooDeep 3))
    -- match a { x => b }, of 1 levels
    × (blocks.whole 1 (k 0 (codes "match") ∷ n 6 (codes "a") ∷ m 8 (codes "{") ∷ n 10 (codes "x") ∷ m 12 (codes "=>") ∷ n 15 (codes "b") ∷ m 17 (codes "}") ∷ []) ≡ Err (stop.TooDeep 7))
    -- loop {}, of 1 levels
    × (blocks.whole 1 (k 0 (codes "loop") ∷ m 5 (codes "{") ∷ m 6 (codes "}") ∷ []) ≡ Err (stop.TooDeep 3))
    -- 'a: loop {}, of 1 levels
    × (blocks.whole 1 (l 0 (codes "'a") ∷ m 2 (codes ":") ∷ k 4 (codes "loop") ∷ m 9 (codes "{") ∷ m 10 (codes "}") ∷ []) ≡ Err (stop.TooDeep 5))
unfolding blocks.annotation blocks.let_statement blocks.statements_from blocks.statements blocks.block_of blocks.operand blocks.whole blocks.like blocks.block expressions.chain expressions.call expressions.variant_arguments expressions.input expressions.variant_with expressions.path expressions.field_value expressions.field expressions.struct_literal expressions.print expressions.named expressions.block_value expressions.let_test expressions.test expressions.else_value expressions.conditional expressions.arms_from expressions.arms expressions.match_value expressions.loop_value expressions.while_value expressions.labelled expressions.primary expressions.member expressions.postfix expressions.borrow expressions.borrow_twice expressions.unary expressions.longer expressions.at_strength expressions.return_value expressions.jump expressions.set_or_operand items.derived_name items.derives items.lifetime_parameter items.lifetimes items.bounds_from items.bounds items.bound_lifetime items.bound_lifetimes items.struct_field items.variant items.parameter items.result items.structure items.enumeration items.derived items.function items.rt items.item items.items_from items.file lists.elements_from lists.elements lists.some_elements lists.group numbers.numeral numbers.index_value numbers.number numbers.index operators.operator_at patterns_of.mutable_binding patterns_of.number_pattern patterns_of.negative_pattern patterns_of.variant_pattern patterns_of.long_field patterns_of.short_field patterns_of.field_pattern patterns_of.struct_pattern patterns_of.named_pattern patterns_of.pattern steps.expect steps.sees_word steps.expect_word symbols.keyword symbols.mark symbols.symbol_of symbols.same_symbol types_of.mutability types_of.reference_lifetime types_of.lifetime_argument types_of.named_type types_of.reference types_of.two_references types_of.typ
too_deep_4 = (refl, refl, refl, refl, refl, refl)

too_deep_5 :
    -- while a {}, of 1 levels
    (blocks.whole 1 (k 0 (codes "while") ∷ n 6 (codes "a") ∷ m 8 (codes "{") ∷ m 9 (codes "}") ∷ []) ≡ Err (stop.TooDeep 4))
    -- if a {}, of 1 levels
    × (blocks.whole 1 (k 0 (codes "if") ∷ n 3 (codes "a") ∷ m 5 (codes "{") ∷ m 6 (codes "}") ∷ []) ≡ Err (stop.TooDeep 4))
unfolding blocks.annotation blocks.let_statement blocks.statements_from blocks.statements blocks.block_of blocks.operand blocks.whole blocks.like blocks.block expressions.chain expressions.call expressions.variant_arguments expressions.input expressions.variant_with expressions.path expressions.field_value expressions.field expressions.struct_literal expressions.print expressions.named expressions.block_value expressions.let_test expressions.test expressions.else_value expressions.conditional expressions.arms_from expressions.arms expressions.match_value expressions.loop_value expressions.while_value expressions.labelled expressions.primary expressions.member expressions.postfix expressions.borrow expressions.borrow_twice expressions.unary expressions.longer expressions.at_strength expressions.return_value expressions.jump expressions.set_or_operand items.derived_name items.derives items.lifetime_parameter items.lifetimes items.bounds_from items.bounds items.bound_lifetime items.bound_lifetimes items.struct_field items.variant items.parameter items.result items.structure items.enumeration items.derived items.function items.rt items.item items.items_from items.file lists.elements_from lists.elements lists.some_elements lists.group numbers.numeral numbers.index_value numbers.number numbers.index operators.operator_at patterns_of.mutable_binding patterns_of.number_pattern patterns_of.negative_pattern patterns_of.variant_pattern patterns_of.long_field patterns_of.short_field patterns_of.field_pattern patterns_of.struct_pattern patterns_of.named_pattern patterns_of.pattern steps.expect steps.sees_word steps.expect_word symbols.keyword symbols.mark symbols.symbol_of symbols.same_symbol types_of.mutability types_of.reference_lifetime types_of.lifetime_argument types_of.named_type types_of.reference types_of.two_references types_of.typ
too_deep_5 = (refl, refl)
