-- The parsers of expressions, over the parsers of what is one level deeper: of operands (whether a struct literal may stand
-- in them, and their strength), of whole expressions, of expressions that end in a block, and of blocks.
use Rattle.std.specs.Prelude.{ℕ, zero, suc, max, Bool, true, false, ◌&&◌, if◌then◌else◌, ◌==◌, List, [], ◌∷◌, ◌++◌, length, Option, Some, None, codes}
use Rattle.std.specs.Str.{bytes_eq}
use Rattle.rx_core.specs.declared.types.Span.{Span}
use Rattle.rx_tree.specs.declared.tree.Ident.{Ident}
use Rattle.rx_tree.specs.declared.tree.BinaryOp.{BinaryOp}
use Rattle.rx_tree.specs.Plain as plain
use Rattle.rx_tree.specs.Plain.{Expression, Body, PatternTree}
use Rattle.rx_tree.specs.PlainOf.{expressions_of, field_expressions_of, arms_of}
use Rattle.rx_lex.specs.Tok.{Tok}
use Rattle.rx_parse_grammar.specs.declared.symbol.Symbol.{Symbol}
use Rattle.rx_parse_grammar.specs.declared.symbol.Symbol.TheVariants as symbol
use Rattle.rx_parse_grammar.specs.grammar.Strengths as at
use Rattle.rx_parse_grammar.specs.grammar.Words.{join, ident, second_ampersand}
use Rattle.rx_parse_grammar.specs.grammar.Expressions.{Test, condition, fitting, if_of, while_of}
use Rattle.rx_parse_grammar.specs.parser.Steps.{Parser, Got, ◌>>=◌, ◌>>◌, pure, refuse, next, expect, when_next, within, leaf, node}
use Rattle.rx_parse_grammar.specs.parser.Numbers.{number, index}
use Rattle.rx_parse_grammar.specs.parser.Lists.{Items, elements, some_elements, group}
use Rattle.rx_parse_grammar.specs.parser.Types.{mutability}
use Rattle.rx_parse_grammar.specs.parser.Patterns.{pattern}
use Rattle.rx_parse_grammar.specs.parser.Operators.{operator_at, Setting, assigns, updates, setting, begins_like, begins_expression}

-- ---- what goes on behind an operand on the left

abbrev pub chain_by : (Got Expression → Parser (Got Expression)) → Got Expression → Option (Parser (Got Expression)) → Parser (Got Expression)
chain_by again l None = pure l
chain_by again l (Some p) = p >>= again

-- as often as a step can be made, at most n times
unfoldable pub chain : (Got Expression → Symbol → Option (Parser (Got Expression))) → ℕ → Got Expression → Parser (Got Expression)
chain step zero l = pure l
chain step (suc n) l = next >>= (λ q. chain_by (chain step n) l (step l q))

-- ---- primaries

abbrev pub variable : Tok → Got Expression
variable t = leaf (λ s. plain.var s t.text) t.span

abbrev pub is_input : Tok → Tok → Bool
is_input e v = bytes_eq e.text (codes "rt") && bytes_eq v.text (codes "next")

module _ (whole : Parser (Got Expression)) (d : ℕ) where
  -- behind a name
  unfoldable pub call : Tok → Parser (Got Expression)
  call t = expect symbol.OpenParen >> elements symbol.CloseParen whole [] 0
      >>= (λ l. pure (node (λ s. plain.call s (ident t) (expressions_of l.list)) (join t.span l.close) l.height))

  unfoldable pub variant_arguments : Tok → Tok → Parser (Got Expression)
  variant_arguments e v = some_elements symbol.CloseParen whole
      >>= (λ l. pure (node (λ s. plain.variant s (ident e) (ident v) (plain.a_list (expressions_of l.list))) (join e.span l.close) l.height))

  -- `rt::next()`, or a variant that is called so
  unfoldable pub input : Tok → Tok → Parser (Got Expression)
  input e v = expect symbol.OpenParen >> when_next symbol.CloseParen (expect symbol.CloseParen >>= (λ c. pure (leaf plain.next_input (join e.span c.span))))
      (variant_arguments e v)

  unfoldable pub variant_with : Tok → Tok → Parser (Got Expression)
  variant_with e v = within 1 d (expect symbol.OpenParen >> variant_arguments e v)

  unfoldable pub path : Tok → Parser (Got Expression)
  path e = expect symbol.ColonColon >> expect symbol.Name >>= (λ v. when_next symbol.OpenParen
      (if is_input e v then input e v else variant_with e v)
      (pure (leaf (λ s. plain.variant s (ident e) (ident v) plain.no_list) (join e.span v.span))))

  unfoldable pub field_value : Parser (Got (Ident × Expression))
  field_value = expect symbol.Name >>= (λ n. when_next symbol.Colon
      (expect symbol.Colon >> whole >>= (λ x. pure (record { tree = (ident n, x.tree); height = x.height; span = join n.span x.span })))
      (pure (leaf (λ s. (ident n, plain.var s n.text)) n.span)))

  -- a field needs a level for its value
  abbrev pub field_by : Symbol → Parser (Got (Ident × Expression))
  field_by symbol.Name = within 1 d field_value
  field_by _ = refuse

  unfoldable pub field : Parser (Got (Ident × Expression))
  field = next >>= field_by

  unfoldable pub struct_literal : Tok → Parser (Got Expression)
  struct_literal n = expect symbol.OpenBrace >> elements symbol.CloseBrace field [] 0
      >>= (λ l. pure (node (λ s. plain.make s (ident n) (field_expressions_of l.list)) (join n.span l.close) l.height))

  unfoldable pub print : Tok → Parser (Got Expression)
  print p = within 1 d (do
    expect symbol.Bang
    expect symbol.OpenParen
    expect symbol.Format
    expect symbol.Comma
    x ← whole
    c ← expect symbol.CloseParen
    pure (node (λ s. plain.print s x.tree) (join p.span c.span) x.height))

  abbrev pub named_by : Bool → Tok → Symbol → Parser (Got Expression)
  named_by f t symbol.OpenParen = call t
  named_by f t symbol.ColonColon = path t
  named_by f t symbol.OpenBrace = if f then struct_literal t else pure (variable t)
  named_by f t symbol.Bang = if bytes_eq t.text (codes "println") then print t else pure (variable t)
  named_by f t _ = pure (variable t)

  unfoldable pub named : Bool → Parser (Got Expression)
  named f = expect symbol.Name >>= (λ t. next >>= named_by f t)

  abbrev pub number_value : Parser (Got Expression)
  number_value = number >>= (λ n. pure (leaf (λ s. plain.int s n.value n.suffix) n.span))

-- ---- expressions that end in a block

abbrev pub label_of : Option Tok → Option Ident
label_of None = None
label_of (Some l) = Some (ident l)

-- where a loop begins: at its label, if it has one
abbrev pub start_of : Option Tok → Tok → Span
start_of None t = t.span
start_of (Some l) t = l.span

module _ (operand : Bool → ℕ → Parser (Got Expression)) (whole like : Parser (Got Expression)) (body : Parser (Got Body)) (d : ℕ) where
  unfoldable pub block_value : Parser (Got Expression)
  block_value = within 1 d (body >>= (λ b. pure (node (λ s. plain.block s b.tree) b.span b.height)))

  unfoldable pub let_test : Parser (Got Test)
  let_test = do
    t ← expect symbol.Let
    p ← pattern d
    expect symbol.Equal
    x ← operand false at.comparison
    pure (record { tree = fitting p.tree x.tree; height = max p.height x.height; span = join t.span x.span })

  abbrev pub test_by : Symbol → Parser (Got Test)
  test_by symbol.Let = let_test
  test_by _ = operand false at.disjunction >>= (λ x. pure (record { tree = condition x.tree; height = x.height; span = x.span }))

  -- what an `if` or a `while` tests
  unfoldable pub test : Parser (Got Test)
  test = next >>= test_by

  abbrev pub else_by : Symbol → Parser (Got Expression)
  else_by symbol.OpenBrace = like
  else_by symbol.If = like
  else_by _ = refuse

  unfoldable pub else_value : Parser (Got Expression)
  else_value = next >>= else_by

  unfoldable pub conditional : Parser (Got Expression)
  conditional = within 1 d (do
    t ← expect symbol.If
    x ← test
    b ← body
    when_next symbol.Else
        (within 2 d (expect symbol.Else >> else_value
        >>= (λ y. pure (node (λ s. if_of s x.tree b.tree (plain.present y.tree)) (join t.span y.span) (max x.height (max b.height y.height))))))
        (pure (node (λ s. if_of s x.tree b.tree plain.absent) (join t.span b.span) (max x.height b.height))))

  abbrev pub arms_closed : List (PatternTree × Expression) → ℕ → Parser (Items (PatternTree × Expression))
  arms_closed found h = expect symbol.CloseBrace >>= (λ c. pure (record { list = found; height = h; close = c.span }))

  -- behind an arm
  abbrev pub after_arm : (List (PatternTree × Expression) → ℕ → Parser (Items (PatternTree × Expression))) → List (PatternTree × Expression) → ℕ
      → Parser (Items (PatternTree × Expression))
  after_arm again found h = when_next symbol.CloseBrace (arms_closed found h) (again found h)

  -- behind `=>`
  abbrev pub arm_by : (List (PatternTree × Expression) → ℕ → Parser (Items (PatternTree × Expression))) → List (PatternTree × Expression) → ℕ
      → Got PatternTree → Bool → Parser (Items (PatternTree × Expression))
  arm_by again found h p true = like >>= (λ x. when_next symbol.Comma
      (expect symbol.Comma >> after_arm again (found ++ (p.tree, x.tree) ∷ []) (max h (max p.height x.height)))
      (after_arm again (found ++ (p.tree, x.tree) ∷ []) (max h (max p.height x.height))))
  arm_by again found h p false = whole >>= (λ x. when_next symbol.Comma
      (expect symbol.Comma >> after_arm again (found ++ (p.tree, x.tree) ∷ []) (max h (max p.height x.height)))
      (arms_closed (found ++ (p.tree, x.tree) ∷ []) (max h (max p.height x.height))))

  unfoldable pub arms_from : ℕ → List (PatternTree × Expression) → ℕ → Parser (Items (PatternTree × Expression))
  arms_from zero found h = refuse
  arms_from (suc n) found h = pattern d >>= (λ p. expect symbol.FatArrow >> next >>= (λ q. arm_by (arms_from n) found h p (begins_like q)))

  -- at least one
  unfoldable pub arms : Parser (Items (PatternTree × Expression))
  arms = λ i. arms_from (length i) [] 0 i

  unfoldable pub match_value : Parser (Got Expression)
  match_value = within 1 d (do
    t ← expect symbol.Match
    x ← operand false at.disjunction
    expect symbol.OpenBrace
    l ← arms
    pure (node (λ s. plain.match s x.tree (arms_of l.list)) (join t.span l.close) (max x.height l.height)))

  unfoldable pub loop_value : Option Tok → Parser (Got Expression)
  loop_value l = do
    t ← expect symbol.Loop
    b ← body
    pure (node (λ s. plain.loop s (label_of l) b.tree) (join (start_of l t) b.span) b.height)

  unfoldable pub while_value : Option Tok → Parser (Got Expression)
  while_value l = do
    t ← expect symbol.While
    x ← test
    b ← body
    pure (node (λ s. while_of s (label_of l) x.tree b.tree) (join (start_of l t) b.span) (max x.height b.height))

  abbrev pub labelled_by : Tok → Symbol → Parser (Got Expression)
  labelled_by l symbol.Loop = loop_value (Some l)
  labelled_by l symbol.While = while_value (Some l)
  labelled_by l _ = refuse

  unfoldable pub labelled : Parser (Got Expression)
  labelled = expect symbol.Lifetime >>= (λ l. expect symbol.Colon >> next >>= labelled_by l)

  abbrev pub like_by : Symbol → Parser (Got Expression)
  like_by symbol.OpenBrace = block_value
  like_by symbol.If = conditional
  like_by symbol.Match = match_value
  like_by symbol.Loop = within 1 d (loop_value None)
  like_by symbol.While = within 1 d (while_value None)
  like_by symbol.Lifetime = within 1 d labelled
  like_by _ = refuse

  -- ---- operands

  abbrev pub primary_by : Bool → Symbol → Parser (Got Expression)
  primary_by f symbol.Number = number_value whole d
  primary_by f symbol.True = expect symbol.True >>= (λ t. pure (leaf (λ s. plain.bool s true) t.span))
  primary_by f symbol.False = expect symbol.False >>= (λ t. pure (leaf (λ s. plain.bool s false) t.span))
  primary_by f symbol.Name = named whole d f
  primary_by f symbol.OpenParen = group whole (λ s l. plain.tuple s (expressions_of l))
  primary_by f q = like_by q

  unfoldable pub primary : Bool → Parser (Got Expression)
  primary f = next >>= primary_by f

  abbrev pub member_by : Got Expression → Symbol → Parser (Got Expression)
  member_by l symbol.Name = expect symbol.Name >>= (λ n. pure (node (λ s. plain.field s l.tree (ident n)) (join l.span n.span) l.height))
  member_by l symbol.Number = index >>= (λ v. pure (node (λ s. plain.part s l.tree v.0) (join l.span v.1) l.height))
  member_by l _ = refuse

  unfoldable pub member : Got Expression → Parser (Got Expression)
  member l = within l.height d (expect symbol.Dot >> next >>= member_by l)

  abbrev pub member_step : Got Expression → Symbol → Option (Parser (Got Expression))
  member_step l symbol.Dot = Some (member l)
  member_step l _ = None

  unfoldable pub postfix : Bool → Parser (Got Expression)
  postfix f = primary f >>= (λ l i. chain member_step (length i) l i)

  -- an operator before its operand
  abbrev pub prefix : Bool → Symbol → (Span → Expression → Expression) → Parser (Got Expression)
  prefix f q make = within 1 d (do
    t ← expect q
    x ← operand f 0
    pure (node (λ s. make s x.tree) (join t.span x.span) x.height))

  unfoldable pub borrow : Bool → Parser (Got Expression)
  borrow f = within 1 d (do
    t ← expect symbol.Ampersand
    m ← mutability
    x ← operand f 0
    pure (node (λ s. plain.borrow s m x.tree) (join t.span x.span) x.height))

  -- the second `&` begins what is borrowed
  unfoldable pub borrow_twice : Bool → Parser (Got Expression)
  borrow_twice f = within 1 d (do
    t ← expect symbol.AndAnd
    x ← (λ i. operand f 0 (second_ampersand t ∷ i))
    pure (node (λ s. plain.borrow s false x.tree) (join t.span x.span) x.height))

  abbrev pub unary_by : Bool → Symbol → Parser (Got Expression)
  unary_by f symbol.Minus = prefix f symbol.Minus plain.negate
  unary_by f symbol.Bang = prefix f symbol.Bang plain.invert
  unary_by f symbol.Star = prefix f symbol.Star plain.deref
  unary_by f symbol.Ampersand = borrow f
  unary_by f symbol.AndAnd = borrow_twice f
  unary_by f _ = postfix f

  unfoldable pub unary : Bool → Parser (Got Expression)
  unary f = next >>= unary_by f

  -- the operator, and the operand on the right
  unfoldable pub longer : Bool → ℕ → Got Expression → Symbol → BinaryOp → Parser (Got Expression)
  longer f j l q o = within l.height d (do
    expect q
    r ← operand f j
    pure (node (λ s. plain.binary s o l.tree r.tree) (join l.span r.span) (max l.height r.height)))

  abbrev pub longer_by : Bool → ℕ → Got Expression → Symbol → Option BinaryOp → Option (Parser (Got Expression))
  longer_by f j l q None = None
  longer_by f j l q (Some o) = Some (longer f j l q o)

  -- operands of strength j on the right
  abbrev pub binary_step : Bool → ℕ → Got Expression → Symbol → Option (Parser (Got Expression))
  binary_step f j l q = longer_by f j l q (operator_at (suc j) q)

  -- comparisons don't group: one step
  abbrev pub turns : ℕ → ℕ → ℕ
  turns j n = if j == at.sum then 1 else n

  unfoldable pub at_strength : Bool → ℕ → Parser (Got Expression)
  at_strength f zero = unary f
  at_strength f (suc j) = at_strength f j >>= (λ l i. chain (binary_step f j) (turns j (length i)) l i)

  -- ---- whole expressions

  abbrev pub set_as : Setting → Span → Expression → Expression → Expression
  set_as assigns s l r = plain.assign s l r
  set_as (updates o) s l r = plain.update s o l r

  abbrev pub set_by : Got Expression → Symbol → Option Setting → Parser (Got Expression)
  set_by l q None = pure l
  set_by l q (Some u) = within l.height d (do
    expect q
    r ← whole
    pure (node (λ s. set_as u s l.tree r.tree) (join l.span r.span) (max l.height r.height)))

  abbrev pub returned_by : Tok → Bool → Parser (Got Expression)
  returned_by t true = whole >>= (λ x. pure (node (λ s. plain.return s (plain.present x.tree)) (join t.span x.span) x.height))
  returned_by t false = pure (leaf (λ s. plain.return s plain.absent) t.span)

  unfoldable pub return_value : Parser (Got Expression)
  return_value = expect symbol.Return >>= (λ t. next >>= (λ q. returned_by t (begins_expression q)))

  -- `break` or `continue`
  unfoldable pub jump : Symbol → (Span → Option Ident → Expression) → Parser (Got Expression)
  jump q make = expect q >>= (λ t. when_next symbol.Lifetime
      (expect symbol.Lifetime >>= (λ l. pure (leaf (λ s. make s (Some (ident l))) (join t.span l.span))))
      (pure (leaf (λ s. make s None) t.span)))

  unfoldable pub set_or_operand : Parser (Got Expression)
  set_or_operand = at_strength true at.disjunction >>= (λ l. next >>= (λ q. set_by l q (setting q)))

  abbrev pub whole_by : Symbol → Parser (Got Expression)
  whole_by symbol.Return = return_value
  whole_by symbol.Break = jump symbol.Break plain.break
  whole_by symbol.Continue = jump symbol.Continue plain.continue
  whole_by _ = set_or_operand
