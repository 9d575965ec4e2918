-- The parser of types.
use Rattle.std.specs.Prelude.{ℕ, zero, suc, Bool, true, false, if◌then◌else◌, ◌∷◌, Option, Some, None}
use Rattle.rx_core.specs.declared.types.Kind.{Kind}
use Rattle.rx_core.specs.declared.types.Kind.TheVariants.{U8, U32, U64, I32, I64}
use Rattle.rx_tree.specs.declared.tree.Ident.{Ident}
use Rattle.rx_tree.specs.Plain as plain
use Rattle.rx_tree.specs.Plain.{TypeTree}
use Rattle.rx_tree.specs.PlainOf.{types_of}
use Rattle.rx_parse_grammar.specs.declared.symbol.Symbol.{Symbol}
use Rattle.rx_parse_grammar.specs.declared.symbol.Symbol.TheVariants as symbol
use Rattle.rx_parse_grammar.specs.grammar.Words.{join, ident, second_ampersand}
use Rattle.rx_parse_grammar.specs.parser.Steps.{Parser, Got, ◌>>=◌, ◌>>◌, pure, refuse, too_deep, next, expect, when_next, within, leaf, node}
use Rattle.rx_parse_grammar.specs.parser.Lists.{some_elements, group}

-- what a type begins with
abbrev pub begins_type : Symbol → Bool
begins_type symbol.Name = true
begins_type symbol.Bool = true
begins_type symbol.U8 = true
begins_type symbol.U32 = true
begins_type symbol.U64 = true
begins_type symbol.I32 = true
begins_type symbol.I64 = true
begins_type symbol.Ampersand = true
begins_type symbol.AndAnd = true
begins_type symbol.OpenParen = true
begins_type _ = false

unfoldable pub mutability : Parser Bool
mutability = when_next symbol.Mut (expect symbol.Mut >> pure true) (pure false)

unfoldable pub reference_lifetime : Parser (Option Ident)
reference_lifetime = when_next symbol.Lifetime (expect symbol.Lifetime >>= (λ t. pure (Some (ident t))))
    (when_next symbol.Anonymous (expect symbol.Anonymous >> pure None) (pure None))

abbrev pub lifetime_argument_by : Symbol → Parser (Got (Option Ident))
lifetime_argument_by symbol.Lifetime = expect symbol.Lifetime >>= (λ t. pure (record { tree = Some (ident t); height = 0; span = t.span }))
lifetime_argument_by symbol.Anonymous = expect symbol.Anonymous >>= (λ t. pure (record { tree = None; height = 0; span = t.span }))
lifetime_argument_by _ = refuse

unfoldable pub lifetime_argument : Parser (Got (Option Ident))
lifetime_argument = next >>= lifetime_argument_by

abbrev pub kind_by : Symbol → Kind → Parser (Got TypeTree)
kind_by q k = expect q >>= (λ t. pure (leaf (λ s. plain.kind_type s k) t.span))

unfoldable pub named_type : Parser (Got TypeTree)
named_type = expect symbol.Name >>= (λ t. when_next symbol.Less
    (expect symbol.Less >> some_elements symbol.Greater lifetime_argument
    >>= (λ l. pure (leaf (λ s. plain.named_type s (ident t) (Some l.list)) (join t.span l.close))))
    (pure (leaf (λ s. plain.named_type s (ident t) None) t.span)))

-- over the parser of what is one level deeper, where so many levels may stand below
module _ (nested : Parser (Got TypeTree)) (d : ℕ) where
  unfoldable pub reference : Parser (Got TypeTree)
  reference = within 1 d (do
    t ← expect symbol.Ampersand
    l ← reference_lifetime
    m ← mutability
    y ← nested
    pure (node (λ s. plain.ref_type s l m y.tree) (join t.span y.span) y.height))

  -- the second `&` begins what the first points to
  unfoldable pub two_references : Parser (Got TypeTree)
  two_references = within 1 d (do
    t ← expect symbol.AndAnd
    y ← (λ i. nested (second_ampersand t ∷ i))
    pure (node (λ s. plain.ref_type s None false y.tree) (join t.span y.span) y.height))

  abbrev pub type_by : Symbol → Parser (Got TypeTree)
  type_by symbol.Name = named_type
  type_by symbol.Bool = expect symbol.Bool >>= (λ t. pure (leaf plain.bool_type t.span))
  type_by symbol.U8 = kind_by symbol.U8 U8
  type_by symbol.U32 = kind_by symbol.U32 U32
  type_by symbol.U64 = kind_by symbol.U64 U64
  type_by symbol.I32 = kind_by symbol.I32 I32
  type_by symbol.I64 = kind_by symbol.I64 I64
  type_by symbol.Ampersand = reference
  type_by symbol.AndAnd = two_references
  type_by symbol.OpenParen = group nested (λ s l. plain.tuple_type s (types_of l))
  type_by _ = refuse

-- a type of at most so many levels
unfoldable pub typ : ℕ → Parser (Got TypeTree)
typ zero = next >>= (λ q. if begins_type q then too_deep else refuse)
typ (suc d) = next >>= type_by (typ d) d
