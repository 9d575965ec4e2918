-- A longer text, and texts of as many levels as there may be and of more, read by computation.
use Rattle.std.proofs.Common.{◌≡◌, ℕ, zero, suc, ◌+◌, true, false, List, [], ◌∷◌, length, Some, None, Ok, Err, codes, refl}
use Rattle.rx_core.specs.declared.types.Span.{Span}
use Rattle.rx_core.specs.declared.types.Kind.TheVariants as kind
use Rattle.rx_tree.specs.declared.tree.Ident.{Ident}
use Rattle.rx_tree.specs.declared.tree.BinaryOp.TheVariants as op
use Rattle.rx_tree.specs.Plain as plain
use Rattle.rx_tree.specs.Plain.{TypeTree, PatternTree, Expression, ItemTree}
use Rattle.rx_lex.specs.declared.token.Class.TheVariants as class
use Rattle.rx_lex.specs.Tok.{Tok}
use Rattle.rx_lex.specs.Tokens.{token_at}
use Rattle.rx_lex.specs.Words.{format_text}
use Rattle.rx_parse_grammar.specs.declared.stop.Stop.TheVariants as stop
use Rattle.rx_parse_grammar.specs.parser.Steps.{Got, Outcome}
use Rattle.rx_parse_grammar.specs.parser.Blocks as blocks
use Rattle.rx_parse_grammar.specs.parser.Expressions as expressions
use Rattle.rx_parse_grammar.specs.parser.Items as items
use Rattle.rx_parse_grammar.specs.parser.Lists as lists
use Rattle.rx_parse_grammar.specs.parser.Numbers as numbers
use Rattle.rx_parse_grammar.specs.parser.Operators as operators
use Rattle.rx_parse_grammar.specs.parser.Patterns as patterns_of
use Rattle.rx_parse_grammar.specs.parser.Steps as steps
use Rattle.rx_parse_grammar.specs.parser.Symbols as symbols
use Rattle.rx_parse_grammar.specs.parser.Types as types_of

-- tokens of each class, where they stand
abbrev k : ℕ → List ℕ → Tok
k at w = token_at at class.Keyword w

abbrev n : ℕ → List ℕ → Tok
n at w = token_at at class.Identifier w

abbrev m : ℕ → List ℕ → Tok
m at w = token_at at class.Mark w

abbrev d : ℕ → List ℕ → Tok
d at w = token_at at class.Number w

abbrev l : ℕ → List ℕ → Tok
l at w = token_at at class.Lifetime w

abbrev f : ℕ → Tok
f at = token_at at class.Format format_text

abbrev s : ℕ → ℕ → Span
s a b = record { start = a; end = b }

abbrev i : ℕ → List ℕ → Ident
i at w = record { span = s at (at + length w); name = w }

abbrev read : {A : Type 0} → A → ℕ → ℕ → ℕ → Outcome (Got A)
read x h a b = Ok (record { tree = x; height = h; span = s a b }, [])

abbrev file : List ItemTree → ℕ → Outcome (List ItemTree × ℕ)
file p h = Ok ((p, h), [])

-- how many items are read, and of how many levels
abbrev counted : Outcome (List ItemTree × ℕ) → Outcome (ℕ × ℕ)
counted (Ok p) = Ok ((length p.0.0, p.0.1), p.1)
counted (Err e) = Err e

abbrev repeated : ℕ → Tok → List Tok → List Tok
repeated zero t ts = ts
repeated (suc n) t ts = t ∷ repeated n t ts

-- the item `rt` of the bank
rt_read : items.file 16 (k 47 (codes "mod") ∷ n 51 (codes "rt") ∷ m 53 (codes ";") ∷ []) ≡ file (plain.rt_item (s 47 54) (s 51 53) ∷ []) 0
unfolding blocks.annotation blocks.let_statement blocks.statements_from blocks.statements blocks.block_of blocks.operand blocks.whole blocks.like blocks.block expressions.chain expressions.call expressions.variant_arguments expressions.input expressions.variant_with expressions.path expressions.field_value expressions.field expressions.struct_literal expressions.print expressions.named expressions.block_value expressions.let_test expressions.test expressions.else_value expressions.conditional expressions.arms_from expressions.arms expressions.match_value expressions.loop_value expressions.while_value expressions.labelled expressions.primary expressions.member expressions.postfix expressions.borrow expressions.borrow_twice expressions.unary expressions.longer expressions.at_strength expressions.return_value expressions.jump expressions.set_or_operand items.derived_name items.derives items.lifetime_parameter items.lifetimes items.bounds_from items.bounds items.bound_lifetime items.bound_lifetimes items.struct_field items.variant items.parameter items.result items.structure items.enumeration items.derived items.function items.rt items.item items.items_from items.file lists.elements_from lists.elements lists.some_elements lists.group numbers.numeral numbers.index_value numbers.number numbers.index operators.operator_at patterns_of.mutable_binding patterns_of.number_pattern patterns_of.negative_pattern patterns_of.variant_pattern patterns_of.long_field patterns_of.short_field patterns_of.field_pattern patterns_of.struct_pattern patterns_of.named_pattern patterns_of.pattern steps.expect steps.sees_word steps.expect_word symbols.keyword symbols.mark symbols.symbol_of symbols.same_symbol types_of.mutability types_of.reference_lifetime types_of.lifetime_argument types_of.named_type types_of.reference types_of.two_references types_of.typ
rt_read = refl

-- the item `account` of the bank
account_read : items.file 16 (k 56 (codes "struct") ∷ n 63 (codes "Account") ∷ m 71 (codes "{") ∷ n 77 (codes "id") ∷ m 79 (codes ":") ∷ k 81 (codes "i64") ∷ m 84 (codes ",") ∷ n 90 (codes "balance") ∷ m 97 (codes ":") ∷ k 99 (codes "i64") ∷ m 102 (codes ",") ∷ m 104 (codes "}") ∷ []) ≡ file (plain.struct_item (s 56 105) (record { name = (i 63 (codes "Account")); derives = ([]); lifetimes = ([]); fields = (record { name = (i 77 (codes "id")); typ = (plain.kind_type (s 81 84) kind.I64) } ∷ record { name = (i 90 (codes "balance")); typ = (plain.kind_type (s 99 102) kind.I64) } ∷ []) }) ∷ []) 1
unfolding blocks.annotation blocks.let_statement blocks.statements_from blocks.statements blocks.block_of blocks.operand blocks.whole blocks.like blocks.block expressions.chain expressions.call expressions.variant_arguments expressions.input expressions.variant_with expressions.path expressions.field_value expressions.field expressions.struct_literal expressions.print expressions.named expressions.block_value expressions.let_test expressions.test expressions.else_value expressions.conditional expressions.arms_from expressions.arms expressions.match_value expressions.loop_value expressions.while_value expressions.labelled expressions.primary expressions.member expressions.postfix expressions.borrow expressions.borrow_twice expressions.unary expressions.longer expressions.at_strength expressions.return_value expressions.jump expressions.set_or_operand items.derived_name items.derives items.lifetime_parameter items.lifetimes items.bounds_from items.bounds items.bound_lifetime items.bound_lifetimes items.struct_field items.variant items.parameter items.result items.structure items.enumeration items.derived items.function items.rt items.item items.items_from items.file lists.elements_from lists.elements lists.some_elements lists.group numbers.numeral numbers.index_value numbers.number numbers.index operators.operator_at patterns_of.mutable_binding patterns_of.number_pattern patterns_of.negative_pattern patterns_of.variant_pattern patterns_of.long_field patterns_of.short_field patterns_of.field_pattern patterns_of.struct_pattern patterns_of.named_pattern patterns_of.pattern steps.expect steps.sees_word steps.expect_word symbols.keyword symbols.mark symbols.symbol_of symbols.same_symbol types_of.mutability types_of.reference_lifetime types_of.lifetime_argument types_of.named_type types_of.reference types_of.two_references types_of.typ
account_read = refl

-- the item `bank` of the bank
bank_read : items.file 16 (k 107 (codes "struct") ∷ n 114 (codes "Bank") ∷ m 119 (codes "{") ∷ n 125 (codes "first") ∷ m 130 (codes ":") ∷ n 132 (codes "Account") ∷ m 139 (codes ",") ∷ n 145 (codes "second") ∷ m 151 (codes ":") ∷ n 153 (codes "Account") ∷ m 160 (codes ",") ∷ n 166 (codes "fee") ∷ m 169 (codes ":") ∷ k 171 (codes "i64") ∷ m 174 (codes ",") ∷ m 176 (codes "}") ∷ []) ≡ file (plain.struct_item (s 107 177) (record { name = (i 114 (codes "Bank")); derives = ([]); lifetimes = ([]); fields = (record { name = (i 125 (codes "first")); typ = (plain.named_type (s 132 139) (i 132 (codes "Account")) None) } ∷ record { name = (i 145 (codes "second")); typ = (plain.named_type (s 153 160) (i 153 (codes "Account")) None) } ∷ record { name = (i 166 (codes "fee")); typ = (plain.kind_type (s 171 174) kind.I64) } ∷ []) }) ∷ []) 1
unfolding blocks.annotation blocks.let_statement blocks.statements_from blocks.statements blocks.block_of blocks.operand blocks.whole blocks.like blocks.block expressions.chain expressions.call expressions.variant_arguments expressions.input expressions.variant_with expressions.path expressions.field_value expressions.field expressions.struct_literal expressions.print expressions.named expressions.block_value expressions.let_test expressions.test expressions.else_value expressions.conditional expressions.arms_from expressions.arms expressions.match_value expressions.loop_value expressions.while_value expressions.labelled expressions.primary expressions.member expressions.postfix expressions.borrow expressions.borrow_twice expressions.unary expressions.longer expressions.at_strength expressions.return_value expressions.jump expressions.set_or_operand items.derived_name items.derives items.lifetime_parameter items.lifetimes items.bounds_from items.bounds items.bound_lifetime items.bound_lifetimes items.struct_field items.variant items.parameter items.result items.structure items.enumeration items.derived items.function items.rt items.item items.items_from items.file lists.elements_from lists.elements lists.some_elements lists.group numbers.numeral numbers.index_value numbers.number numbers.index operators.operator_at patterns_of.mutable_binding patterns_of.number_pattern patterns_of.negative_pattern patterns_of.variant_pattern patterns_of.long_field patterns_of.short_field patterns_of.field_pattern patterns_of.struct_pattern patterns_of.named_pattern patterns_of.pattern steps.expect steps.sees_word steps.expect_word symbols.keyword symbols.mark symbols.symbol_of symbols.same_symbol types_of.mutability types_of.reference_lifetime types_of.lifetime_argument types_of.named_type types_of.reference types_of.two_references types_of.typ
bank_read = refl

-- the item `command` of the bank
command_read : items.file 16 (k 179 (codes "enum") ∷ n 184 (codes "Command") ∷ m 192 (codes "{") ∷ n 198 (codes "Deposit") ∷ m 205 (codes "(") ∷ k 206 (codes "i64") ∷ m 209 (codes ",") ∷ k 211 (codes "i64") ∷ m 214 (codes ")") ∷ m 215 (codes ",") ∷ n 221 (codes "Withdraw") ∷ m 229 (codes "(") ∷ k 230 (codes "i64") ∷ m 233 (codes ",") ∷ k 235 (codes "i64") ∷ m 238 (codes ")") ∷ m 239 (codes ",") ∷ n 245 (codes "Show") ∷ m 249 (codes "(") ∷ k 250 (codes "i64") ∷ m 253 (codes ")") ∷ m 254 (codes ",") ∷ n 260 (codes "Quit") ∷ m 264 (codes ",") ∷ m 266 (codes "}") ∷ []) ≡ file (plain.enum_item (s 179 267) (record { name = (i 184 (codes "Command")); derives = ([]); lifetimes = ([]); variants = (record { name = (i 198 (codes "Deposit")); types = (plain.type_and (plain.kind_type (s 206 209) kind.I64) (plain.type_and (plain.kind_type (s 211 214) kind.I64) plain.no_type)) } ∷ record { name = (i 221 (codes "Withdraw")); types = (plain.type_and (plain.kind_type (s 230 233) kind.I64) (plain.type_and (plain.kind_type (s 235 238) kind.I64) plain.no_type)) } ∷ record { name = (i 245 (codes "Show")); types = (plain.type_and (plain.kind_type (s 250 253) kind.I64) plain.no_type) } ∷ record { name = (i 260 (codes "Quit")); types = plain.no_type } ∷ []) }) ∷ []) 1
unfolding blocks.annotation blocks.let_statement blocks.statements_from blocks.statements blocks.block_of blocks.operand blocks.whole blocks.like blocks.block expressions.chain expressions.call expressions.variant_arguments expressions.input expressions.variant_with expressions.path expressions.field_value expressions.field expressions.struct_literal expressions.print expressions.named expressions.block_value expressions.let_test expressions.test expressions.else_value expressions.conditional expressions.arms_from expressions.arms expressions.match_value expressions.loop_value expressions.while_value expressions.labelled expressions.primary expressions.member expressions.postfix expressions.borrow expressions.borrow_twice expressions.unary expressions.longer expressions.at_strength expressions.return_value expressions.jump expressions.set_or_operand items.derived_name items.derives items.lifetime_parameter items.lifetimes items.bounds_from items.bounds items.bound_lifetime items.bound_lifetimes items.struct_field items.variant items.parameter items.result items.structure items.enumeration items.derived items.function items.rt items.item items.items_from items.file lists.elements_from lists.elements lists.some_elements lists.group numbers.numeral numbers.index_value numbers.number numbers.index operators.operator_at patterns_of.mutable_binding patterns_of.number_pattern patterns_of.negative_pattern patterns_of.variant_pattern patterns_of.long_field patterns_of.short_field patterns_of.field_pattern patterns_of.struct_pattern patterns_of.named_pattern patterns_of.pattern steps.expect steps.sees_word steps.expect_word symbols.keyword symbols.mark symbols.symbol_of symbols.same_symbol types_of.mutability types_of.reference_lifetime types_of.lifetime_argument types_of.named_type types_of.reference types_of.two_references types_of.typ
command_read = refl

-- the item `read_command` of the bank
read_command_read : items.file 16 (k 319 (codes "fn") ∷ n 322 (codes "read_command") ∷ m 334 (codes "(") ∷ m 335 (codes ")") ∷ m 337 (codes "->") ∷ n 340 (codes "Command") ∷ m 348 (codes "{") ∷ k 354 (codes "let") ∷ n 358 (codes "kind") ∷ m 363 (codes "=") ∷ n 365 (codes "rt") ∷ m 367 (codes "::") ∷ n 369 (codes "next") ∷ m 373 (codes "(") ∷ m 374 (codes ")") ∷ m 375 (codes ";") ∷ k 381 (codes "if") ∷ n 384 (codes "kind") ∷ m 389 (codes "==") ∷ d 392 (codes "0") ∷ m 394 (codes "{") ∷ k 404 (codes "return") ∷ n 411 (codes "Command") ∷ m 418 (codes "::") ∷ n 420 (codes "Quit") ∷ m 424 (codes ";") ∷ m 430 (codes "}") ∷ k 436 (codes "let") ∷ n 440 (codes "id") ∷ m 443 (codes "=") ∷ n 445 (codes "rt") ∷ m 447 (codes "::") ∷ n 449 (codes "next") ∷ m 453 (codes "(") ∷ m 454 (codes ")") ∷ m 455 (codes ";") ∷ k 461 (codes "match") ∷ n 467 (codes "kind") ∷ m 472 (codes "{") ∷ d 482 (codes "1") ∷ m 484 (codes "=>") ∷ n 487 (codes "Command") ∷ m 494 (codes "::") ∷ n 496 (codes "Deposit") ∷ m 503 (codes "(") ∷ n 504 (codes "id") ∷ m 506 (codes ",") ∷ n 508 (codes "rt") ∷ m 510 (codes "::") ∷ n 512 (codes "next") ∷ m 516 (codes "(") ∷ m 517 (codes ")") ∷ m 518 (codes ")") ∷ m 519 (codes ",") ∷ d 529 (codes "2") ∷ m 531 (codes "=>") ∷ n 534 (codes "Command") ∷ m 541 (codes "::") ∷ n 543 (codes "Withdraw") ∷ m 551 (codes "(") ∷ n 552 (codes "id") ∷ m 554 (codes ",") ∷ n 556 (codes "rt") ∷ m 558 (codes "::") ∷ n 560 (codes "next") ∷ m 564 (codes "(") ∷ m 565 (codes ")") ∷ m 566 (codes ")") ∷ m 567 (codes ",") ∷ m 577 (codes "_") ∷ m 579 (codes "=>") ∷ n 582 (codes "Command") ∷ m 589 (codes "::") ∷ n 591 (codes "Show") ∷ m 595 (codes "(") ∷ n 596 (codes "id") ∷ m 598 (codes ")") ∷ m 599 (codes ",") ∷ m 605 (codes "}") ∷ m 607 (codes "}") ∷ []) ≡ file (plain.function_item (s 319 608) (record { name = (i 322 (codes "read_command")); lifetimes = ([]); params = ([]); result = Some (plain.named_type (s 340 347) (i 340 (codes "Command")) None); body = (plain.body (s 348 608) (plain.statement_and (plain.let_statement (s 354 376) (plain.bind (s 358 362) (i 358 (codes "kind")) false) None (plain.present (plain.next_input (s 365 375)))) (plain.statement_and (plain.expression_statement (s 381 431) (plain.if (s 381 431) (plain.binary (s 384 393) op.Eq (plain.var (s 384 388) (codes "kind")) (plain.int (s 392 393) 0 None)) (plain.body (s 394 431) (plain.statement_and (plain.expression_statement (s 404 425) (plain.return (s 404 424) (plain.present (plain.variant (s 411 424) (i 411 (codes "Command")) (i 420 (codes "Quit")) plain.no_list))) true) plain.no_statement) plain.absent) plain.absent) false) (plain.statement_and (plain.let_statement (s 436 456) (plain.bind (s 440 442) (i 440 (codes "id")) false) None (plain.present (plain.next_input (s 445 455)))) plain.no_statement))) (plain.present (plain.match (s 461 606) (plain.var (s 467 471) (codes "kind")) (plain.arm_and (plain.int_pattern (s 482 483) false 1 None) (plain.variant (s 487 519) (i 487 (codes "Command")) (i 496 (codes "Deposit")) (plain.a_list (plain.expression_and (plain.var (s 504 506) (codes "id")) (plain.expression_and (plain.next_input (s 508 518)) plain.no_expression)))) (plain.arm_and (plain.int_pattern (s 529 530) false 2 None) (plain.variant (s 534 567) (i 534 (codes "Command")) (i 543 (codes "Withdraw")) (plain.a_list (plain.expression_and (plain.var (s 552 554) (codes "id")) (plain.expression_and (plain.next_input (s 556 566)) plain.no_expression)))) (plain.arm_and (plain.wild (s 577 578)) (plain.variant (s 582 599) (i 582 (codes "Command")) (i 591 (codes "Show")) (plain.a_list (plain.expression_and (plain.var (s 596 598) (codes "id")) plain.no_expression))) plain.no_arm)))))) }) ∷ []) 5
unfolding blocks.annotation blocks.let_statement blocks.statements_from blocks.statements blocks.block_of blocks.operand blocks.whole blocks.like blocks.block expressions.chain expressions.call expressions.variant_arguments expressions.input expressions.variant_with expressions.path expressions.field_value expressions.field expressions.struct_literal expressions.print expressions.named expressions.block_value expressions.let_test expressions.test expressions.else_value expressions.conditional expressions.arms_from expressions.arms expressions.match_value expressions.loop_value expressions.while_value expressions.labelled expressions.primary expressions.member expressions.postfix expressions.borrow expressions.borrow_twice expressions.unary expressions.longer expressions.at_strength expressions.return_value expressions.jump expressions.set_or_operand items.derived_name items.derives items.lifetime_parameter items.lifetimes items.bounds_from items.bounds items.bound_lifetime items.bound_lifetimes items.struct_field items.variant items.parameter items.result items.structure items.enumeration items.derived items.function items.rt items.item items.items_from items.file lists.elements_from lists.elements lists.some_elements lists.group numbers.numeral numbers.index_value numbers.number numbers.index operators.operator_at patterns_of.mutable_binding patterns_of.number_pattern patterns_of.negative_pattern patterns_of.variant_pattern patterns_of.long_field patterns_of.short_field patterns_of.field_pattern patterns_of.struct_pattern patterns_of.named_pattern patterns_of.pattern steps.expect steps.sees_word steps.expect_word symbols.keyword symbols.mark symbols.symbol_of symbols.same_symbol types_of.mutability types_of.reference_lifetime types_of.lifetime_argument types_of.named_type types_of.reference types_of.two_references types_of.typ
read_command_read = refl

-- the item `pick` of the bank
pick_read : items.file 16 (k 610 (codes "fn") ∷ n 613 (codes "pick") ∷ m 617 (codes "(") ∷ n 618 (codes "bank") ∷ m 622 (codes ":") ∷ m 624 (codes "&") ∷ k 625 (codes "mut") ∷ n 629 (codes "Bank") ∷ m 633 (codes ",") ∷ n 635 (codes "id") ∷ m 637 (codes ":") ∷ k 639 (codes "i64") ∷ m 642 (codes ")") ∷ m 644 (codes "->") ∷ m 647 (codes "&") ∷ k 648 (codes "mut") ∷ n 652 (codes "Account") ∷ m 660 (codes "{") ∷ k 666 (codes "if") ∷ n 669 (codes "id") ∷ m 672 (codes "==") ∷ n 675 (codes "bank") ∷ m 679 (codes ".") ∷ n 680 (codes "first") ∷ m 685 (codes ".") ∷ n 686 (codes "id") ∷ m 689 (codes "{") ∷ k 699 (codes "return") ∷ m 706 (codes "&") ∷ k 707 (codes "mut") ∷ n 711 (codes "bank") ∷ m 715 (codes ".") ∷ n 716 (codes "first") ∷ m 721 (codes ";") ∷ m 727 (codes "}") ∷ m 733 (codes "&") ∷ k 734 (codes "mut") ∷ n 738 (codes "bank") ∷ m 742 (codes ".") ∷ n 743 (codes "second") ∷ m 750 (codes "}") ∷ []) ≡ file (plain.function_item (s 610 751) (record { name = (i 613 (codes "pick")); lifetimes = ([]); params = (record { name = (i 618 (codes "bank")); mutable = false; typ = (plain.ref_type (s 624 633) None true (plain.named_type (s 629 633) (i 629 (codes "Bank")) None)) } ∷ record { name = (i 635 (codes "id")); mutable = false; typ = (plain.kind_type (s 639 642) kind.I64) } ∷ []); result = Some (plain.ref_type (s 647 659) None true (plain.named_type (s 652 659) (i 652 (codes "Account")) None)); body = (plain.body (s 660 751) (plain.statement_and (plain.expression_statement (s 666 728) (plain.if (s 666 728) (plain.binary (s 669 688) op.Eq (plain.var (s 669 671) (codes "id")) (plain.field (s 675 688) (plain.field (s 675 685) (plain.var (s 675 679) (codes "bank")) (i 680 (codes "first"))) (i 686 (codes "id")))) (plain.body (s 689 728) (plain.statement_and (plain.expression_statement (s 699 722) (plain.return (s 699 721) (plain.present (plain.borrow (s 706 721) true (plain.field (s 711 721) (plain.var (s 711 715) (codes "bank")) (i 716 (codes "first")))))) true) plain.no_statement) plain.absent) plain.absent) false) plain.no_statement) (plain.present (plain.borrow (s 733 749) true (plain.field (s 738 749) (plain.var (s 738 742) (codes "bank")) (i 743 (codes "second")))))) }) ∷ []) 7
unfolding blocks.annotation blocks.let_statement blocks.statements_from blocks.statements blocks.block_of blocks.operand blocks.whole blocks.like blocks.block expressions.chain expressions.call expressions.variant_arguments expressions.input expressions.variant_with expressions.path expressions.field_value expressions.field expressions.struct_literal expressions.print expressions.named expressions.block_value expressions.let_test expressions.test expressions.else_value expressions.conditional expressions.arms_from expressions.arms expressions.match_value expressions.loop_value expressions.while_value expressions.labelled expressions.primary expressions.member expressions.postfix expressions.borrow expressions.borrow_twice expressions.unary expressions.longer expressions.at_strength expressions.return_value expressions.jump expressions.set_or_operand items.derived_name items.derives items.lifetime_parameter items.lifetimes items.bounds_from items.bounds items.bound_lifetime items.bound_lifetimes items.struct_field items.variant items.parameter items.result items.structure items.enumeration items.derived items.function items.rt items.item items.items_from items.file lists.elements_from lists.elements lists.some_elements lists.group numbers.numeral numbers.index_value numbers.number numbers.index operators.operator_at patterns_of.mutable_binding patterns_of.number_pattern patterns_of.negative_pattern patterns_of.variant_pattern patterns_of.long_field patterns_of.short_field patterns_of.field_pattern patterns_of.struct_pattern patterns_of.named_pattern patterns_of.pattern steps.expect steps.sees_word steps.expect_word symbols.keyword symbols.mark symbols.symbol_of symbols.same_symbol types_of.mutability types_of.reference_lifetime types_of.lifetime_argument types_of.named_type types_of.reference types_of.two_references types_of.typ
pick_read = refl

-- the item `serve` of the bank
serve_read : items.file 16 (k 753 (codes "fn") ∷ n 756 (codes "serve") ∷ m 761 (codes "(") ∷ n 762 (codes "bank") ∷ m 766 (codes ":") ∷ m 768 (codes "&") ∷ k 769 (codes "mut") ∷ n 773 (codes "Bank") ∷ m 777 (codes ",") ∷ n 779 (codes "limit") ∷ m 784 (codes ":") ∷ k 786 (codes "i64") ∷ m 789 (codes ")") ∷ m 791 (codes "->") ∷ k 794 (codes "i64") ∷ m 798 (codes "{") ∷ k 804 (codes "let") ∷ k 808 (codes "mut") ∷ n 812 (codes "served") ∷ m 819 (codes "=") ∷ d 821 (codes "0") ∷ m 822 (codes ";") ∷ k 828 (codes "loop") ∷ m 833 (codes "{") ∷ k 843 (codes "let") ∷ n 847 (codes "command") ∷ m 855 (codes "=") ∷ n 857 (codes "read_command") ∷ m 869 (codes "(") ∷ m 870 (codes ")") ∷ m 871 (codes ";") ∷ k 954 (codes "if") ∷ n 957 (codes "served") ∷ m 964 (codes "==") ∷ n 967 (codes "limit") ∷ m 973 (codes "{") ∷ k 987 (codes "return") ∷ n 994 (codes "served") ∷ m 1000 (codes ";") ∷ m 1010 (codes "}") ∷ k 1020 (codes "match") ∷ n 1026 (codes "command") ∷ m 1034 (codes "{") ∷ n 1048 (codes "Command") ∷ m 1055 (codes "::") ∷ n 1057 (codes "Deposit") ∷ m 1064 (codes "(") ∷ n 1065 (codes "id") ∷ m 1067 (codes ",") ∷ n 1069 (codes "amount") ∷ m 1075 (codes ")") ∷ m 1077 (codes "=>") ∷ m 1080 (codes "{") ∷ k 1098 (codes "let") ∷ n 1102 (codes "account") ∷ m 1110 (codes "=") ∷ n 1112 (codes "pick") ∷ m 1116 (codes "(") ∷ n 1117 (codes "bank") ∷ m 1121 (codes ",") ∷ n 1123 (codes "id") ∷ m 1125 (codes ")") ∷ m 1126 (codes ";") ∷ n 1144 (codes "account") ∷ m 1151 (codes ".") ∷ n 1152 (codes "balance") ∷ m 1160 (codes "=") ∷ n 1162 (codes "account") ∷ m 1169 (codes ".") ∷ n 1170 (codes "balance") ∷ m 1178 (codes "+") ∷ n 1180 (codes "amount") ∷ m 1186 (codes ";") ∷ m 1200 (codes "}") ∷ n 1214 (codes "Command") ∷ m 1221 (codes "::") ∷ n 1223 (codes "Withdraw") ∷ m 1231 (codes "(") ∷ n 1232 (codes "id") ∷ m 1234 (codes ",") ∷ n 1236 (codes "amount") ∷ m 1242 (codes ")") ∷ m 1244 (codes "=>") ∷ m 1247 (codes "{") ∷ k 1265 (codes "let") ∷ n 1269 (codes "fee") ∷ m 1273 (codes "=") ∷ n 1275 (codes "bank") ∷ m 1279 (codes ".") ∷ n 1280 (codes "fee") ∷ m 1283 (codes ";") ∷ k 1301 (codes "let") ∷ n 1305 (codes "account") ∷ m 1313 (codes "=") ∷ n 1315 (codes "pick") ∷ m 1319 (codes "(") ∷ n 1320 (codes "bank") ∷ m 1324 (codes ",") ∷ n 1326 (codes "id") ∷ m 1328 (codes ")") ∷ m 1329 (codes ";") ∷ k 1394 (codes "if") ∷ n 1397 (codes "account") ∷ m 1404 (codes ".") ∷ n 1405 (codes "balance") ∷ m 1413 (codes "<") ∷ n 1415 (codes "amount") ∷ m 1422 (codes "+") ∷ n 1424 (codes "fee") ∷ m 1428 (codes "{") ∷ n 1450 (codes "println") ∷ m 1457 (codes "!") ∷ m 1458 (codes "(") ∷ f 1459 ∷ m 1463 (codes ",") ∷ m 1465 (codes "-") ∷ d 1466 (codes "1") ∷ m 1467 (codes ")") ∷ m 1468 (codes ";") ∷ k 1490 (codes "continue") ∷ m 1498 (codes ";") ∷ m 1516 (codes "}") ∷ n 1534 (codes "account") ∷ m 1541 (codes ".") ∷ n 1542 (codes "balance") ∷ m 1550 (codes "=") ∷ n 1552 (codes "account") ∷ m 1559 (codes ".") ∷ n 1560 (codes "balance") ∷ m 1568 (codes "-") ∷ n 1570 (codes "amount") ∷ m 1577 (codes "-") ∷ n 1579 (codes "fee") ∷ m 1582 (codes ";") ∷ m 1596 (codes "}") ∷ n 1610 (codes "Command") ∷ m 1617 (codes "::") ∷ n 1619 (codes "Show") ∷ m 1623 (codes "(") ∷ n 1624 (codes "id") ∷ m 1626 (codes ")") ∷ m 1628 (codes "=>") ∷ m 1631 (codes "{") ∷ k 1649 (codes "let") ∷ n 1653 (codes "account") ∷ m 1661 (codes "=") ∷ n 1663 (codes "pick") ∷ m 1667 (codes "(") ∷ n 1668 (codes "bank") ∷ m 1672 (codes ",") ∷ n 1674 (codes "id") ∷ m 1676 (codes ")") ∷ m 1677 (codes ";") ∷ n 1695 (codes "println") ∷ m 1702 (codes "!") ∷ m 1703 (codes "(") ∷ f 1704 ∷ m 1708 (codes ",") ∷ n 1710 (codes "account") ∷ m 1717 (codes ".") ∷ n 1718 (codes "balance") ∷ m 1725 (codes ")") ∷ m 1726 (codes ";") ∷ m 1740 (codes "}") ∷ n 1754 (codes "Command") ∷ m 1761 (codes "::") ∷ n 1763 (codes "Quit") ∷ m 1768 (codes "=>") ∷ k 1771 (codes "break") ∷ m 1776 (codes ",") ∷ m 1786 (codes "}") ∷ n 1796 (codes "served") ∷ m 1803 (codes "=") ∷ n 1805 (codes "served") ∷ m 1812 (codes "+") ∷ d 1814 (codes "1") ∷ m 1815 (codes ";") ∷ m 1821 (codes "}") ∷ n 1827 (codes "served") ∷ m 1834 (codes "}") ∷ []) ≡ file (plain.function_item (s 753 1835) (record { name = (i 756 (codes "serve")); lifetimes = ([]); params = (record { name = (i 762 (codes "bank")); mutable = false; typ = (plain.ref_type (s 768 777) None true (plain.named_type (s 773 777) (i 773 (codes "Bank")) None)) } ∷ record { name = (i 779 (codes "limit")); mutable = false; typ = (plain.kind_type (s 786 789) kind.I64) } ∷ []); result = Some (plain.kind_type (s 794 797) kind.I64); body = (plain.body (s 798 1835) (plain.statement_and (plain.let_statement (s 804 823) (plain.bind (s 808 818) (i 812 (codes "served")) true) None (plain.present (plain.int (s 821 822) 0 None))) (plain.statement_and (plain.expression_statement (s 828 1822) (plain.loop (s 828 1822) None (plain.body (s 833 1822) (plain.statement_and (plain.let_statement (s 843 872) (plain.bind (s 847 854) (i 847 (codes "command")) false) None (plain.present (plain.call (s 857 871) (i 857 (codes "read_command")) plain.no_expression))) (plain.statement_and (plain.expression_statement (s 954 1011) (plain.if (s 954 1011) (plain.binary (s 957 972) op.Eq (plain.var (s 957 963) (codes "served")) (plain.var (s 967 972) (codes "limit"))) (plain.body (s 973 1011) (plain.statement_and (plain.expression_statement (s 987 1001) (plain.return (s 987 1000) (plain.present (plain.var (s 994 1000) (codes "served")))) true) plain.no_statement) plain.absent) plain.absent) false) (plain.statement_and (plain.expression_statement (s 1020 1787) (plain.match (s 1020 1787) (plain.var (s 1026 1033) (codes "command")) (plain.arm_and (plain.variant_pattern (s 1048 1076) (i 1048 (codes "Command")) (i 1057 (codes "Deposit")) (plain.pattern_and (plain.bind (s 1065 1067) (i 1065 (codes "id")) false) (plain.pattern_and (plain.bind (s 1069 1075) (i 1069 (codes "amount")) false) plain.no_pattern))) (plain.block (s 1080 1201) (plain.body (s 1080 1201) (plain.statement_and (plain.let_statement (s 1098 1127) (plain.bind (s 1102 1109) (i 1102 (codes "account")) false) None (plain.present (plain.call (s 1112 1126) (i 1112 (codes "pick")) (plain.expression_and (plain.var (s 1117 1121) (codes "bank")) (plain.expression_and (plain.var (s 1123 1125) (codes "id")) plain.no_expression))))) (plain.statement_and (plain.expression_statement (s 1144 1187) (plain.assign (s 1144 1186) (plain.field (s 1144 1159) (plain.var (s 1144 1151) (codes "account")) (i 1152 (codes "balance"))) (plain.binary (s 1162 1186) op.Add (plain.field (s 1162 1177) (plain.var (s 1162 1169) (codes "account")) (i 1170 (codes "balance"))) (plain.var (s 1180 1186) (codes "amount")))) true) plain.no_statement)) plain.absent)) (plain.arm_and (plain.variant_pattern (s 1214 1243) (i 1214 (codes "Command")) (i 1223 (codes "Withdraw")) (plain.pattern_and (plain.bind (s 1232 1234) (i 1232 (codes "id")) false) (plain.pattern_and (plain.bind (s 1236 1242) (i 1236 (codes "amount")) false) plain.no_pattern))) (plain.block (s 1247 1597) (plain.body (s 1247 1597) (plain.statement_and (plain.let_statement (s 1265 1284) (plain.bind (s 1269 1272) (i 1269 (codes "fee")) false) None (plain.present (plain.field (s 1275 1283) (plain.var (s 1275 1279) (codes "bank")) (i 1280 (codes "fee"))))) (plain.statement_and (plain.let_statement (s 1301 1330) (plain.bind (s 1305 1312) (i 1305 (codes "account")) false) None (plain.present (plain.call (s 1315 1329) (i 1315 (codes "pick")) (plain.expression_and (plain.var (s 1320 1324) (codes "bank")) (plain.expression_and (plain.var (s 1326 1328) (codes "id")) plain.no_expression))))) (plain.statement_and (plain.expression_statement (s 1394 1517) (plain.if (s 1394 1517) (plain.binary (s 1397 1427) op.Lt (plain.field (s 1397 1412) (plain.var (s 1397 1404) (codes "account")) (i 1405 (codes "balance"))) (plain.binary (s 1415 1427) op.Add (plain.var (s 1415 1421) (codes "amount")) (plain.var (s 1424 1427) (codes "fee")))) (plain.body (s 1428 1517) (plain.statement_and (plain.expression_statement (s 1450 1469) (plain.print (s 1450 1468) (plain.negate (s 1465 1467) (plain.int (s 1466 1467) 1 None))) true) (plain.statement_and (plain.expression_statement (s 1490 1499) (plain.continue (s 1490 1498) None) true) plain.no_statement)) plain.absent) plain.absent) false) (plain.statement_and (plain.expression_statement (s 1534 1583) (plain.assign (s 1534 1582) (plain.field (s 1534 1549) (plain.var (s 1534 1541) (codes "account")) (i 1542 (codes "balance"))) (plain.binary (s 1552 1582) op.Sub (plain.binary (s 1552 1576) op.Sub (plain.field (s 1552 1567) (plain.var (s 1552 1559) (codes "account")) (i 1560 (codes "balance"))) (plain.var (s 1570 1576) (codes "amount"))) (plain.var (s 1579 1582) (codes "fee")))) true) plain.no_statement)))) plain.absent)) (plain.arm_and (plain.variant_pattern (s 1610 1627) (i 1610 (codes "Command")) (i 1619 (codes "Show")) (plain.pattern_and (plain.bind (s 1624 1626) (i 1624 (codes "id")) false) plain.no_pattern)) (plain.block (s 1631 1741) (plain.body (s 1631 1741) (plain.statement_and (plain.let_statement (s 1649 1678) (plain.bind (s 1653 1660) (i 1653 (codes "account")) false) None (plain.present (plain.call (s 1663 1677) (i 1663 (codes "pick")) (plain.expression_and (plain.var (s 1668 1672) (codes "bank")) (plain.expression_and (plain.var (s 1674 1676) (codes "id")) plain.no_expression))))) (plain.statement_and (plain.expression_statement (s 1695 1727) (plain.print (s 1695 1726) (plain.field (s 1710 1725) (plain.var (s 1710 1717) (codes "account")) (i 1718 (codes "balance")))) true) plain.no_statement)) plain.absent)) (plain.arm_and (plain.variant_pattern (s 1754 1767) (i 1754 (codes "Command")) (i 1763 (codes "Quit")) plain.no_pattern) (plain.break (s 1771 1776) None) plain.no_arm))))) false) (plain.statement_and (plain.expression_statement (s 1796 1816) (plain.assign (s 1796 1815) (plain.var (s 1796 1802) (codes "served")) (plain.binary (s 1805 1815) op.Add (plain.var (s 1805 1811) (codes "served")) (plain.int (s 1814 1815) 1 None))) true) plain.no_statement)))) plain.absent)) false) plain.no_statement)) (plain.present (plain.var (s 1827 1833) (codes "served")))) }) ∷ []) 11
unfolding blocks.annotation blocks.let_statement blocks.statements_from blocks.statements blocks.block_of blocks.operand blocks.whole blocks.like blocks.block expressions.chain expressions.call expressions.variant_arguments expressions.input expressions.variant_with expressions.path expressions.field_value expressions.field expressions.struct_literal expressions.print expressions.named expressions.block_value expressions.let_test expressions.test expressions.else_value expressions.conditional expressions.arms_from expressions.arms expressions.match_value expressions.loop_value expressions.while_value expressions.labelled expressions.primary expressions.member expressions.postfix expressions.borrow expressions.borrow_twice expressions.unary expressions.longer expressions.at_strength expressions.return_value expressions.jump expressions.set_or_operand items.derived_name items.derives items.lifetime_parameter items.lifetimes items.bounds_from items.bounds items.bound_lifetime items.bound_lifetimes items.struct_field items.variant items.parameter items.result items.structure items.enumeration items.derived items.function items.rt items.item items.items_from items.file lists.elements_from lists.elements lists.some_elements lists.group numbers.numeral numbers.index_value numbers.number numbers.index operators.operator_at patterns_of.mutable_binding patterns_of.number_pattern patterns_of.negative_pattern patterns_of.variant_pattern patterns_of.long_field patterns_of.short_field patterns_of.field_pattern patterns_of.struct_pattern patterns_of.named_pattern patterns_of.pattern steps.expect steps.sees_word steps.expect_word symbols.keyword symbols.mark symbols.symbol_of symbols.same_symbol types_of.mutability types_of.reference_lifetime types_of.lifetime_argument types_of.named_type types_of.reference types_of.two_references types_of.typ
serve_read = refl

-- the item `main` of the bank
main_read : items.file 16 (k 1837 (codes "fn") ∷ n 1840 (codes "main") ∷ m 1844 (codes "(") ∷ m 1845 (codes ")") ∷ m 1847 (codes "{") ∷ k 1853 (codes "let") ∷ k 1857 (codes "mut") ∷ n 1861 (codes "bank") ∷ m 1866 (codes "=") ∷ n 1868 (codes "Bank") ∷ m 1873 (codes "{") ∷ n 1883 (codes "first") ∷ m 1888 (codes ":") ∷ n 1890 (codes "Account") ∷ m 1898 (codes "{") ∷ n 1900 (codes "id") ∷ m 1902 (codes ":") ∷ d 1904 (codes "1") ∷ m 1905 (codes ",") ∷ n 1907 (codes "balance") ∷ m 1914 (codes ":") ∷ d 1916 (codes "100") ∷ m 1920 (codes "}") ∷ m 1921 (codes ",") ∷ n 1931 (codes "second") ∷ m 1937 (codes ":") ∷ n 1939 (codes "Account") ∷ m 1947 (codes "{") ∷ n 1949 (codes "id") ∷ m 1951 (codes ":") ∷ d 1953 (codes "2") ∷ m 1954 (codes ",") ∷ n 1956 (codes "balance") ∷ m 1963 (codes ":") ∷ d 1965 (codes "50") ∷ m 1968 (codes "}") ∷ m 1969 (codes ",") ∷ n 1979 (codes "fee") ∷ m 1982 (codes ":") ∷ d 1984 (codes "1") ∷ m 1985 (codes ",") ∷ m 1991 (codes "}") ∷ m 1992 (codes ";") ∷ k 1998 (codes "let") ∷ n 2002 (codes "done") ∷ m 2007 (codes "=") ∷ n 2009 (codes "serve") ∷ m 2014 (codes "(") ∷ m 2015 (codes "&") ∷ k 2016 (codes "mut") ∷ n 2020 (codes "bank") ∷ m 2024 (codes ",") ∷ d 2026 (codes "10") ∷ m 2028 (codes ")") ∷ m 2029 (codes ";") ∷ n 2035 (codes "println") ∷ m 2042 (codes "!") ∷ m 2043 (codes "(") ∷ f 2044 ∷ m 2048 (codes ",") ∷ n 2050 (codes "done") ∷ m 2054 (codes ")") ∷ m 2055 (codes ";") ∷ m 2057 (codes "}") ∷ []) ≡ file (plain.function_item (s 1837 2058) (record { name = (i 1840 (codes "main")); lifetimes = ([]); params = ([]); result = None; body = (plain.body (s 1847 2058) (plain.statement_and (plain.let_statement (s 1853 1993) (plain.bind (s 1857 1865) (i 1861 (codes "bank")) true) None (plain.present (plain.make (s 1868 1992) (i 1868 (codes "Bank")) (plain.field_and (i 1883 (codes "first")) (plain.make (s 1890 1921) (i 1890 (codes "Account")) (plain.field_and (i 1900 (codes "id")) (plain.int (s 1904 1905) 1 None) (plain.field_and (i 1907 (codes "balance")) (plain.int (s 1916 1919) 100 None) plain.no_field))) (plain.field_and (i 1931 (codes "second")) (plain.make (s 1939 1969) (i 1939 (codes "Account")) (plain.field_and (i 1949 (codes "id")) (plain.int (s 1953 1954) 2 None) (plain.field_and (i 1956 (codes "balance")) (plain.int (s 1965 1967) 50 None) plain.no_field))) (plain.field_and (i 1979 (codes "fee")) (plain.int (s 1984 1985) 1 None) plain.no_field)))))) (plain.statement_and (plain.let_statement (s 1998 2030) (plain.bind (s 2002 2006) (i 2002 (codes "done")) false) None (plain.present (plain.call (s 2009 2029) (i 2009 (codes "serve")) (plain.expression_and (plain.borrow (s 2015 2024) true (plain.var (s 2020 2024) (codes "bank"))) (plain.expression_and (plain.int (s 2026 2028) 10 None) plain.no_expression))))) (plain.statement_and (plain.expression_statement (s 2035 2056) (plain.print (s 2035 2055) (plain.var (s 2050 2054) (codes "done"))) true) plain.no_statement))) plain.absent) }) ∷ []) 4
unfolding blocks.annotation blocks.let_statement blocks.statements_from blocks.statements blocks.block_of blocks.operand blocks.whole blocks.like blocks.block expressions.chain expressions.call expressions.variant_arguments expressions.input expressions.variant_with expressions.path expressions.field_value expressions.field expressions.struct_literal expressions.print expressions.named expressions.block_value expressions.let_test expressions.test expressions.else_value expressions.conditional expressions.arms_from expressions.arms expressions.match_value expressions.loop_value expressions.while_value expressions.labelled expressions.primary expressions.member expressions.postfix expressions.borrow expressions.borrow_twice expressions.unary expressions.longer expressions.at_strength expressions.return_value expressions.jump expressions.set_or_operand items.derived_name items.derives items.lifetime_parameter items.lifetimes items.bounds_from items.bounds items.bound_lifetime items.bound_lifetimes items.struct_field items.variant items.parameter items.result items.structure items.enumeration items.derived items.function items.rt items.item items.items_from items.file lists.elements_from lists.elements lists.some_elements lists.group numbers.numeral numbers.index_value numbers.number numbers.index operators.operator_at patterns_of.mutable_binding patterns_of.number_pattern patterns_of.negative_pattern patterns_of.variant_pattern patterns_of.long_field patterns_of.short_field patterns_of.field_pattern patterns_of.struct_pattern patterns_of.named_pattern patterns_of.pattern steps.expect steps.sees_word steps.expect_word symbols.keyword symbols.mark symbols.symbol_of symbols.same_symbol types_of.mutability types_of.reference_lifetime types_of.lifetime_argument types_of.named_type types_of.reference types_of.two_references types_of.typ
main_read = refl

-- `fn main() { let a = 1; }` with 126 pairs of parentheses round the 1
many_parentheses : counted (items.file 128 (k 0 (codes "fn") ∷ n 3 (codes "main") ∷ m 7 (codes "(") ∷ m 8 (codes ")") ∷ m 10 (codes "{") ∷ k 12 (codes "let") ∷ n 16 (codes "a") ∷ m 18 (codes "=") ∷ repeated 126 (m 20 (codes "(")) (d 20 (codes "1") ∷ repeated 126 (m 20 (codes ")")) (m 20 (codes ";") ∷ m 20 (codes "}") ∷ [])))) ≡ Ok ((1, 128), [])
unfolding blocks.annotation blocks.let_statement blocks.statements_from blocks.statements blocks.block_of blocks.operand blocks.whole blocks.like blocks.block expressions.chain expressions.call expressions.variant_arguments expressions.input expressions.variant_with expressions.path expressions.field_value expressions.field expressions.struct_literal expressions.print expressions.named expressions.block_value expressions.let_test expressions.test expressions.else_value expressions.conditional expressions.arms_from expressions.arms expressions.match_value expressions.loop_value expressions.while_value expressions.labelled expressions.primary expressions.member expressions.postfix expressions.borrow expressions.borrow_twice expressions.unary expressions.longer expressions.at_strength expressions.return_value expressions.jump expressions.set_or_operand items.derived_name items.derives items.lifetime_parameter items.lifetimes items.bounds_from items.bounds items.bound_lifetime items.bound_lifetimes items.struct_field items.variant items.parameter items.result items.structure items.enumeration items.derived items.function items.rt items.item items.items_from items.file lists.elements_from lists.elements lists.some_elements lists.group numbers.numeral numbers.index_value numbers.number numbers.index operators.operator_at patterns_of.mutable_binding patterns_of.number_pattern patterns_of.negative_pattern patterns_of.variant_pattern patterns_of.long_field patterns_of.short_field patterns_of.field_pattern patterns_of.struct_pattern patterns_of.named_pattern patterns_of.pattern steps.expect steps.sees_word steps.expect_word symbols.keyword symbols.mark symbols.symbol_of symbols.same_symbol types_of.mutability types_of.reference_lifetime types_of.lifetime_argument types_of.named_type types_of.reference types_of.two_references types_of.typ
many_parentheses = refl

-- ... with 127 it stops at the 1
too_many_parentheses : counted (items.file 128 (k 0 (codes "fn") ∷ n 3 (codes "main") ∷ m 7 (codes "(") ∷ m 8 (codes ")") ∷ m 10 (codes "{") ∷ k 12 (codes "let") ∷ n 16 (codes "a") ∷ m 18 (codes "=") ∷ repeated 127 (m 20 (codes "(")) (d 20 (codes "1") ∷ repeated 127 (m 20 (codes ")")) (m 20 (codes ";") ∷ m 20 (codes "}") ∷ [])))) ≡ Err (stop.TooDeep 130)
unfolding blocks.annotation blocks.let_statement blocks.statements_from blocks.statements blocks.block_of blocks.operand blocks.whole blocks.like blocks.block expressions.chain expressions.call expressions.variant_arguments expressions.input expressions.variant_with expressions.path expressions.field_value expressions.field expressions.struct_literal expressions.print expressions.named expressions.block_value expressions.let_test expressions.test expressions.else_value expressions.conditional expressions.arms_from expressions.arms expressions.match_value expressions.loop_value expressions.while_value expressions.labelled expressions.primary expressions.member expressions.postfix expressions.borrow expressions.borrow_twice expressions.unary expressions.longer expressions.at_strength expressions.return_value expressions.jump expressions.set_or_operand items.derived_name items.derives items.lifetime_parameter items.lifetimes items.bounds_from items.bounds items.bound_lifetime items.bound_lifetimes items.struct_field items.variant items.parameter items.result items.structure items.enumeration items.derived items.function items.rt items.item items.items_from items.file lists.elements_from lists.elements lists.some_elements lists.group numbers.numeral numbers.index_value numbers.number numbers.index operators.operator_at patterns_of.mutable_binding patterns_of.number_pattern patterns_of.negative_pattern patterns_of.variant_pattern patterns_of.long_field patterns_of.short_field patterns_of.field_pattern patterns_of.struct_pattern patterns_of.named_pattern patterns_of.pattern steps.expect steps.sees_word steps.expect_word symbols.keyword symbols.mark symbols.symbol_of symbols.same_symbol types_of.mutability types_of.reference_lifetime types_of.lifetime_argument types_of.named_type types_of.reference types_of.two_references types_of.typ
too_many_parentheses = refl

-- ... and with more at the parenthesis that has no room for what is inside
more_parentheses : counted (items.file 128 (k 0 (codes "fn") ∷ n 3 (codes "main") ∷ m 7 (codes "(") ∷ m 8 (codes ")") ∷ m 10 (codes "{") ∷ k 12 (codes "let") ∷ n 16 (codes "a") ∷ m 18 (codes "=") ∷ repeated 128 (m 20 (codes "(")) ((m 20 (codes ";") ∷ m 20 (codes "}") ∷ [])))) ≡ Err (stop.TooDeep 3)
unfolding blocks.annotation blocks.let_statement blocks.statements_from blocks.statements blocks.block_of blocks.operand blocks.whole blocks.like blocks.block expressions.chain expressions.call expressions.variant_arguments expressions.input expressions.variant_with expressions.path expressions.field_value expressions.field expressions.struct_literal expressions.print expressions.named expressions.block_value expressions.let_test expressions.test expressions.else_value expressions.conditional expressions.arms_from expressions.arms expressions.match_value expressions.loop_value expressions.while_value expressions.labelled expressions.primary expressions.member expressions.postfix expressions.borrow expressions.borrow_twice expressions.unary expressions.longer expressions.at_strength expressions.return_value expressions.jump expressions.set_or_operand items.derived_name items.derives items.lifetime_parameter items.lifetimes items.bounds_from items.bounds items.bound_lifetime items.bound_lifetimes items.struct_field items.variant items.parameter items.result items.structure items.enumeration items.derived items.function items.rt items.item items.items_from items.file lists.elements_from lists.elements lists.some_elements lists.group numbers.numeral numbers.index_value numbers.number numbers.index operators.operator_at patterns_of.mutable_binding patterns_of.number_pattern patterns_of.negative_pattern patterns_of.variant_pattern patterns_of.long_field patterns_of.short_field patterns_of.field_pattern patterns_of.struct_pattern patterns_of.named_pattern patterns_of.pattern steps.expect steps.sees_word steps.expect_word symbols.keyword symbols.mark symbols.symbol_of symbols.same_symbol types_of.mutability types_of.reference_lifetime types_of.lifetime_argument types_of.named_type types_of.reference types_of.two_references types_of.typ
more_parentheses = refl
