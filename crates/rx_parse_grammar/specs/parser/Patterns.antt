-- The parser of patterns.
use Rattle.std.specs.Prelude.{ℕ, zero, suc, Bool, true, false, if◌then◌else◌, []}
use Rattle.rx_tree.specs.declared.tree.Ident.{Ident}
use Rattle.rx_tree.specs.Plain as plain
use Rattle.rx_tree.specs.Plain.{PatternTree}
use Rattle.rx_tree.specs.PlainOf.{patterns_of, field_patterns_of}
use Rattle.rx_lex.specs.Tok.{Tok}
use Rattle.rx_parse_grammar.specs.declared.symbol.Symbol.{Symbol}
use Rattle.rx_parse_grammar.specs.declared.symbol.Symbol.TheVariants as symbol
use Rattle.rx_parse_grammar.specs.grammar.Words.{join, ident}
use Rattle.rx_parse_grammar.specs.parser.Steps.{Parser, Got, ◌>>=◌, ◌>>◌, pure, refuse, too_deep, next, expect, when_next, within, leaf, node}
use Rattle.rx_parse_grammar.specs.parser.Numbers.{number}
use Rattle.rx_parse_grammar.specs.parser.Lists.{elements, some_elements, group}

-- what a pattern begins with
abbrev pub begins_pattern : Symbol → Bool
begins_pattern symbol.Name = true
begins_pattern symbol.Number = true
begins_pattern symbol.Mut = true
begins_pattern symbol.True = true
begins_pattern symbol.False = true
begins_pattern symbol.Underscore = true
begins_pattern symbol.Minus = true
begins_pattern symbol.OpenParen = true
begins_pattern _ = false

unfoldable pub mutable_binding : Parser (Got PatternTree)
mutable_binding = do
  m ← expect symbol.Mut
  n ← expect symbol.Name
  pure (leaf (λ s. plain.bind s (ident n) true) (join m.span n.span))

unfoldable pub number_pattern : Parser (Got PatternTree)
number_pattern = number >>= (λ n. pure (leaf (λ s. plain.int_pattern s false n.value n.suffix) n.span))

unfoldable pub negative_pattern : Parser (Got PatternTree)
negative_pattern = do
  m ← expect symbol.Minus
  n ← number
  pure (leaf (λ s. plain.int_pattern s true n.value n.suffix) (join m.span n.span))

-- over the parser of what is one level deeper, where so many levels may stand below
module _ (nested : Parser (Got PatternTree)) (d : ℕ) where
  -- behind the name of an enum
  unfoldable pub variant_pattern : Tok → Parser (Got PatternTree)
  variant_pattern e = expect symbol.ColonColon >> expect symbol.Name >>= (λ v. when_next symbol.OpenParen
      (within 1 d (expect symbol.OpenParen >> some_elements symbol.CloseParen nested
      >>= (λ l. pure (node (λ s. plain.variant_pattern s (ident e) (ident v) (patterns_of l.list)) (join e.span l.close) l.height))))
      (pure (leaf (λ s. plain.variant_pattern s (ident e) (ident v) plain.no_pattern) (join e.span v.span))))

  -- from the name of a field on
  unfoldable pub long_field : Parser (Got (Ident × PatternTree))
  long_field = expect symbol.Name >>= (λ n. when_next symbol.Colon
      (expect symbol.Colon >> nested >>= (λ y. pure (record { tree = (ident n, y.tree); height = y.height; span = join n.span y.span })))
      (pure (leaf (λ s. (ident n, plain.bind s (ident n) false)) n.span)))

  unfoldable pub short_field : Parser (Got (Ident × PatternTree))
  short_field = do
    m ← expect symbol.Mut
    n ← expect symbol.Name
    pure (leaf (λ s. (ident n, plain.bind s (ident n) true)) (join m.span n.span))

  -- a field needs a level for its pattern
  abbrev pub field_pattern_by : Symbol → Parser (Got (Ident × PatternTree))
  field_pattern_by symbol.Name = within 1 d long_field
  field_pattern_by symbol.Mut = within 1 d short_field
  field_pattern_by _ = refuse

  unfoldable pub field_pattern : Parser (Got (Ident × PatternTree))
  field_pattern = next >>= field_pattern_by

  -- behind the name of a struct
  unfoldable pub struct_pattern : Tok → Parser (Got PatternTree)
  struct_pattern n = expect symbol.OpenBrace >> elements symbol.CloseBrace field_pattern [] 0
      >>= (λ l. pure (node (λ s. plain.make_pattern s (ident n) (field_patterns_of l.list)) (join n.span l.close) l.height))

  abbrev pub named_pattern_by : Tok → Symbol → Parser (Got PatternTree)
  named_pattern_by t symbol.ColonColon = variant_pattern t
  named_pattern_by t symbol.OpenBrace = struct_pattern t
  named_pattern_by t _ = pure (leaf (λ s. plain.bind s (ident t) false) t.span)

  unfoldable pub named_pattern : Parser (Got PatternTree)
  named_pattern = expect symbol.Name >>= (λ t. next >>= named_pattern_by t)

  abbrev pub pattern_by : Symbol → Parser (Got PatternTree)
  pattern_by symbol.Name = named_pattern
  pattern_by symbol.Number = number_pattern
  pattern_by symbol.Mut = mutable_binding
  pattern_by symbol.True = expect symbol.True >>= (λ t. pure (leaf (λ s. plain.bool_pattern s true) t.span))
  pattern_by symbol.False = expect symbol.False >>= (λ t. pure (leaf (λ s. plain.bool_pattern s false) t.span))
  pattern_by symbol.Underscore = expect symbol.Underscore >>= (λ t. pure (leaf plain.wild t.span))
  pattern_by symbol.Minus = negative_pattern
  pattern_by symbol.OpenParen = group nested (λ s l. plain.tuple_pattern s (patterns_of l))
  pattern_by _ = refuse

-- a pattern of at most so many levels
unfoldable pub pattern : ℕ → Parser (Got PatternTree)
pattern zero = next >>= (λ q. if begins_pattern q then too_deep else refuse)
pattern (suc d) = next >>= pattern_by (pattern d) d
