-- The tokens that an expression or a block is spelled with are derived as it, at each place that takes it, within its levels: by recursion on the tree.
use Rattle.std.proofs.Common.{ℕ, suc, true, false, Option}
use Rattle.std.specs.Prelude.{⊤}
use Rattle.rx_core.specs.declared.types.Span.{Span}
use Rattle.rx_tree.specs.Plain as plain
use Rattle.rx_tree.specs.Plain.{TypeTree, PatternTree, Expression, Expressions, OptionalExpression, FieldExpressions, Arms, Body, Statements}
use Rattle.rx_print_spelling.specs.Formed.{Formed, FormedList, FormedFields, FormedOptional, FormedArms, FormedBody, FormedStatements, MayLack, WrittenType}
use Rattle.rx_print_spelling.proofs.PatternsRead.{pattern_reads}
use Rattle.rx_print_spelling.proofs.Claims.{Reads}
use Rattle.rx_print_spelling.proofs.OperandsRead as operands
use Rattle.rx_print_spelling.proofs.PrimariesRead as primaries
use Rattle.rx_print_spelling.proofs.PrimariesRead.{ReadsList, ReadsFields}
use Rattle.rx_print_spelling.proofs.LikesRead as likes
use Rattle.rx_print_spelling.proofs.LikesRead.{ReadsArms}
use Rattle.rx_print_spelling.proofs.BlocksRead as blocks
use Rattle.rx_print_spelling.proofs.BlocksRead.{ReadsBlock, ReadsBetween}

-- what is claimed of a tail
abbrev ReadsTail : ℕ → OptionalExpression → Type 0
ReadsTail depth plain.absent = ⊤
ReadsTail depth (plain.present e) = Reads depth e

-- a variable without a value
declared : (depth : ℕ) (s : Span) (p : PatternTree) (y : Option TypeTree) (ss : Statements) (z : OptionalExpression) → MayLack p plain.absent → WrittenType y
    → ReadsBetween depth ss z → ReadsBetween depth (plain.statement_and (plain.let_statement s p y plain.absent) ss) z
declared depth s (plain.bind v n m) y ss z l f k =
    blocks.statement_then depth (plain.let_statement s (plain.bind v n m) y plain.absent) ss z (blocks.declared_reads depth s v n m y f) k
declared depth s _ y ss z l f k = absurd l

mutual
  pub expression_reads : (e : Expression) (depth : ℕ) → Formed e → Reads depth e
  expression_reads (plain.int s v k) depth f = primaries.int_reads depth s v k f
  expression_reads (plain.bool s b) depth f = primaries.bool_reads depth s b
  expression_reads (plain.tuple s plain.no_expression) depth f = primaries.unit_reads depth s
  expression_reads (plain.tuple s (plain.expression_and e plain.no_expression)) depth f = primaries.single_reads depth s e (expression_reads e depth f.0)
  expression_reads (plain.tuple s (plain.expression_and e (plain.expression_and u us))) depth f =
      primaries.several_reads depth s e u us (expression_reads e depth f.0) (list_reads (plain.expression_and u us) depth f.1)
  expression_reads (plain.var s x) depth f = primaries.var_reads depth s x
  expression_reads (plain.field s e n) depth f = operands.field_reads depth s e n (expression_reads e depth f.0)
  expression_reads (plain.part s e i) depth f = operands.part_reads depth s e i f.1 (expression_reads e depth f.0)
  expression_reads (plain.deref s e) depth f = operands.deref_reads depth s e (expression_reads e depth f)
  expression_reads (plain.negate s e) depth f = operands.negate_reads depth s e (expression_reads e depth f)
  expression_reads (plain.invert s e) depth f = operands.invert_reads depth s e (expression_reads e depth f)
  expression_reads (plain.borrow s m e) depth f = operands.borrow_reads depth s m e (expression_reads e depth f)
  expression_reads (plain.binary s o a b) depth f = operands.binary_reads depth s o a b (expression_reads a depth f.0) (expression_reads b depth f.1)
  expression_reads (plain.assign s a b) depth f = operands.assign_reads depth s a b (expression_reads a depth f.0) (expression_reads b depth f.1)
  expression_reads (plain.update s o a b) depth f = operands.update_reads depth s o a b (expression_reads a depth f.0) (expression_reads b depth f.1)
  expression_reads (plain.call s n es) depth f = primaries.call_reads depth s n es (list_reads es depth f.1)
  expression_reads (plain.next_input s) depth f = primaries.input_reads depth s
  expression_reads (plain.variant s a v plain.no_list) depth f = primaries.variant_reads depth s a v
  expression_reads (plain.variant s a v (plain.a_list plain.no_expression)) depth f = absurd f.2.0
  expression_reads (plain.variant s a v (plain.a_list (plain.expression_and e es))) depth f =
      primaries.variant_with_reads depth s a v e es (list_reads (plain.expression_and e es) depth f.2.1)
  expression_reads (plain.make s n fs) depth f = primaries.make_reads depth s n fs (fields_read fs depth f.1)
  expression_reads (plain.print s e) depth f = primaries.print_reads depth s e (expression_reads e depth f)
  expression_reads (plain.block s b) depth f = likes.block_value depth s b (block_reads b depth f)
  expression_reads (plain.if s c b plain.absent) depth f = likes.if_reads depth s c b (expression_reads c depth f.0) (block_reads b depth f.1)
  expression_reads (plain.if s c b (plain.present e)) depth f =
      likes.else_reads depth s c b e f.2.0 (expression_reads c depth f.0) (block_reads b depth f.1) (expression_reads e depth f.2.1)
  expression_reads (plain.if_let s p e b plain.absent) depth f = likes.if_let_reads depth s p e b (pattern_reads p f.0) (expression_reads e depth f.1) (block_reads b depth f.2)
  expression_reads (plain.if_let s p e b (plain.present o)) depth f =
      likes.let_else_reads depth s p e b o f.3.0 (pattern_reads p f.0) (expression_reads e depth f.1) (block_reads b depth f.2) (expression_reads o depth f.3.1)
  expression_reads (plain.match s e plain.no_arm) depth f = absurd f.1
  expression_reads (plain.match s e (plain.arm_and p x more)) depth f =
      likes.match_reads depth s e p x more (expression_reads e depth f.0) (arms_read (plain.arm_and p x more) (suc depth) f.2)
  expression_reads (plain.loop s l b) depth f = likes.loop_reads depth s l b f.0 (block_reads b depth f.1)
  expression_reads (plain.while s l c b) depth f = likes.while_reads depth s l c b f.0 (expression_reads c depth f.1) (block_reads b depth f.2)
  expression_reads (plain.while_let s l p e b) depth f = likes.while_let_reads depth s l p e b f.0 (pattern_reads p f.1) (expression_reads e depth f.2) (block_reads b depth f.3)
  expression_reads (plain.break s l) depth f = operands.break_reads depth s l f
  expression_reads (plain.continue s l) depth f = operands.continue_reads depth s l f
  expression_reads (plain.return s plain.absent) depth f = operands.return_reads depth s
  expression_reads (plain.return s (plain.present e)) depth f = operands.return_with_reads depth s e (expression_reads e depth f)

  list_reads : (es : Expressions) (depth : ℕ) → FormedList es → ReadsList depth es
  list_reads plain.no_expression depth f = primaries.no_reads depth
  list_reads (plain.expression_and e plain.no_expression) depth f = primaries.last_reads depth e (expression_reads e depth f.0)
  list_reads (plain.expression_and e (plain.expression_and u us)) depth f =
      primaries.further_reads depth e u us (expression_reads e depth f.0) (list_reads (plain.expression_and u us) depth f.1)

  fields_read : (fs : FieldExpressions) (depth : ℕ) → FormedFields fs → ReadsFields depth fs
  fields_read plain.no_field depth f = primaries.no_field depth
  fields_read (plain.field_and n e plain.no_field) depth f = primaries.last_field depth n e (expression_reads e depth f.1)
  fields_read (plain.field_and n e (plain.field_and m u us)) depth f =
      primaries.further_fields depth n m e u us (expression_reads e depth f.1) (fields_read (plain.field_and m u us) depth f.2)

  arms_read : (as' : Arms) (depth : ℕ) → FormedArms as' → ReadsArms depth as'
  arms_read plain.no_arm depth f = likes.no_arms depth
  arms_read (plain.arm_and p e more) depth f = likes.arm_reads depth p e more (pattern_reads p f.0) (expression_reads e depth f.1) (arms_read more depth f.2)

  pub block_reads : (b : Body) (depth : ℕ) → FormedBody b → ReadsBlock depth b
  block_reads (plain.body s ss y) depth f = blocks.block_reads depth s ss y (between_reads ss y (suc depth) f.0 (tail_reads y (suc depth) f.1))

  tail_reads : (y : OptionalExpression) (depth : ℕ) → FormedOptional y → ReadsTail depth y
  tail_reads plain.absent depth f = tt
  tail_reads (plain.present e) depth f = expression_reads e depth f

  between_reads : (ss : Statements) (y : OptionalExpression) (depth : ℕ) → FormedStatements ss y → ReadsTail depth y → ReadsBetween depth ss y
  between_reads plain.no_statement plain.absent depth f t = blocks.end_reads depth
  between_reads plain.no_statement (plain.present e) depth f t = blocks.tail_reads depth e t
  between_reads (plain.statement_and (plain.let_statement s p y (plain.present e)) ss) z depth f t =
      blocks.statement_then depth (plain.let_statement s p y (plain.present e)) ss z
      (blocks.let_reads depth s p y e (pattern_reads p f.0.1) f.0.2 (expression_reads e depth f.0.3)) (between_reads ss z depth f.2 t)
  between_reads (plain.statement_and (plain.let_statement s p y plain.absent) ss) z depth f t =
      declared depth s p y ss z f.0.0 f.0.2 (between_reads ss z depth f.2 t)
  between_reads (plain.statement_and (plain.expression_statement s e true) ss) z depth f t =
      blocks.statement_then depth (plain.expression_statement s e true) ss z (blocks.evaluated_reads depth s e (expression_reads e depth f.0.1)) (between_reads ss z depth f.2 t)
  between_reads (plain.statement_and (plain.expression_statement s e false) ss) z depth f t =
      blocks.like_then depth s e ss z f.0.0 (expression_reads e depth f.0.1) f.1 (between_reads ss z depth f.2 t)
