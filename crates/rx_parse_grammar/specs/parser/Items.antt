-- The parser of items and files, whose types and bodies have at most so many levels.
use Rattle.std.specs.Prelude.{ℕ, zero, suc, max, true, false, List, [], ◌∷◌, ◌++◌, length, Option, Some, None, codes}
use Rattle.rx_core.specs.declared.types.Span.{Span}
use Rattle.rx_tree.specs.declared.tree.Ident.{Ident}
use Rattle.rx_tree.specs.declared.tree.Derive.{Derive}
use Rattle.rx_tree.specs.declared.tree.Derive.TheVariants.{Clone, Copy}
use Rattle.rx_tree.specs.declared.tree.BoundLifetime.{BoundLifetime}
use Rattle.rx_tree.specs.Plain as plain
use Rattle.rx_tree.specs.Plain.{TypeTree, Parameter, FieldOf, VariantOf, ItemTree}
use Rattle.rx_tree.specs.PlainOf.{types_of}
use Rattle.rx_lex.specs.Tok.{Tok}
use Rattle.rx_parse_grammar.specs.declared.symbol.Symbol.{Symbol}
use Rattle.rx_parse_grammar.specs.declared.symbol.Symbol.TheVariants as symbol
use Rattle.rx_parse_grammar.specs.grammar.Words.{join, ident}
use Rattle.rx_parse_grammar.specs.parser.Steps.{Parser, Got, ◌>>=◌, ◌>>◌, pure, refuse, next, expect, expect_word, when_next, when_word}
use Rattle.rx_parse_grammar.specs.parser.Lists.{elements, some_elements}
use Rattle.rx_parse_grammar.specs.parser.Types.{typ}
use Rattle.rx_parse_grammar.specs.parser.Blocks.{block}

-- a part of an item, of so many levels
abbrev pub piece : {A : Type 0} → A → ℕ → Span → Got A
piece x h s = record { tree = x; height = h; span = s }

-- ---- what stands before a struct or an enum

unfoldable pub derived_name : Parser (Got Derive)
derived_name = when_word (codes "Clone") (expect_word (codes "Clone") >>= (λ t. pure (piece Clone 0 t.span)))
    (expect_word (codes "Copy") >>= (λ t. pure (piece Copy 0 t.span)))

-- behind `#`
unfoldable pub derives : Parser (List Derive)
derives = do
  expect symbol.OpenBracket
  expect_word (codes "derive")
  expect symbol.OpenParen
  l ← some_elements symbol.CloseParen derived_name
  expect symbol.CloseBracket
  pure l.list

-- ---- lifetimes

unfoldable pub lifetime_parameter : Parser (Got Ident)
lifetime_parameter = expect symbol.Lifetime >>= (λ t. pure (piece (ident t) 0 t.span))

unfoldable pub lifetimes : Parser (List Ident)
lifetimes = when_next symbol.Less (expect symbol.Less >> some_elements symbol.Greater lifetime_parameter >>= (λ l. pure l.list)) (pure [])

abbrev pub after_bound : (List Ident → Parser (List Ident × Span)) → List Ident → Tok → Parser (List Ident × Span)
after_bound again found t = when_next symbol.Plus (expect symbol.Plus >> again (found ++ ident t ∷ [])) (pure (found ++ ident t ∷ [], t.span))

unfoldable pub bounds_from : ℕ → List Ident → Parser (List Ident × Span)
bounds_from zero found = refuse
bounds_from (suc n) found = expect symbol.Lifetime >>= after_bound (bounds_from n) found

unfoldable pub bounds : Parser (List Ident × Span)
bounds = λ i. bounds_from (length i) [] i

unfoldable pub bound_lifetime : Parser (Got BoundLifetime)
bound_lifetime = expect symbol.Lifetime >>= (λ t. when_next symbol.Colon
    (expect symbol.Colon >> bounds >>= (λ l. pure (piece (record { name = ident t; bounds = l.0 }) 0 (join t.span l.1))))
    (pure (piece (record { name = ident t; bounds = [] }) 0 t.span)))

unfoldable pub bound_lifetimes : Parser (List BoundLifetime)
bound_lifetimes = when_next symbol.Less (expect symbol.Less >> some_elements symbol.Greater bound_lifetime >>= (λ l. pure l.list)) (pure [])

-- ---- fields, variants and parameters

module _ (d : ℕ) where
  unfoldable pub struct_field : Parser (Got FieldOf)
  struct_field = do
    n ← expect symbol.Name
    expect symbol.Colon
    y ← typ d
    pure (piece (record { name = ident n; typ = y.tree }) y.height (join n.span y.span))

  unfoldable pub variant : Parser (Got VariantOf)
  variant = expect symbol.Name >>= (λ n. when_next symbol.OpenParen
      (expect symbol.OpenParen >> some_elements symbol.CloseParen (typ d)
      >>= (λ l. pure (piece (record { name = ident n; types = types_of l.list }) l.height (join n.span l.close))))
      (pure (piece (record { name = ident n; types = plain.no_type }) 0 n.span)))

  abbrev pub parameter_by : Symbol → Parser (Got Parameter)
  parameter_by symbol.Mut = expect symbol.Mut >>= (λ m. struct_field
      >>= (λ f. pure (piece (record { name = f.tree.name; mutable = true; typ = f.tree.typ }) f.height (join m.span f.span))))
  parameter_by _ = struct_field >>= (λ f. pure (piece (record { name = f.tree.name; mutable = false; typ = f.tree.typ }) f.height f.span))

  unfoldable pub parameter : Parser (Got Parameter)
  parameter = next >>= parameter_by

  -- the result's type, where one is written, and its levels
  unfoldable pub result : Parser (Option TypeTree × ℕ)
  result = when_next symbol.Arrow (expect symbol.Arrow >> typ d >>= (λ y. pure (Some y.tree, y.height))) (pure (None, 0))

  -- ---- items

  -- where an item begins: at its derives, if it has any
  abbrev pub start_of : Option Tok → Tok → Span
  start_of None t = t.span
  start_of (Some m) t = m.span

  unfoldable pub structure : Option Tok → List Derive → Parser (Got ItemTree)
  structure m xs = do
    t ← expect symbol.Struct
    n ← expect symbol.Name
    l ← lifetimes
    expect symbol.OpenBrace
    f ← elements symbol.CloseBrace struct_field [] 0
    pure (piece (plain.struct_item (join (start_of m t) f.close) (record { name = ident n; derives = xs; lifetimes = l; fields = f.list })) f.height (join (start_of m t) f.close))

  unfoldable pub enumeration : Option Tok → List Derive → Parser (Got ItemTree)
  enumeration m xs = do
    t ← expect symbol.Enum
    n ← expect symbol.Name
    l ← lifetimes
    expect symbol.OpenBrace
    v ← some_elements symbol.CloseBrace variant
    pure (piece (plain.enum_item (join (start_of m t) v.close) (record { name = ident n; derives = xs; lifetimes = l; variants = v.list })) v.height (join (start_of m t) v.close))

  abbrev pub derived_by : Tok → List Derive → Symbol → Parser (Got ItemTree)
  derived_by m xs symbol.Struct = structure (Some m) xs
  derived_by m xs symbol.Enum = enumeration (Some m) xs
  derived_by m xs _ = refuse

  unfoldable pub derived : Parser (Got ItemTree)
  derived = expect symbol.Hash >>= (λ m. derives >>= (λ xs. next >>= derived_by m xs))

  unfoldable pub function : Parser (Got ItemTree)
  function = do
    f ← expect symbol.Fn
    n ← expect symbol.Name
    l ← bound_lifetimes
    expect symbol.OpenParen
    p ← elements symbol.CloseParen parameter [] 0
    r ← result
    b ← block d
    pure (piece (plain.function_item (join f.span b.span) (record { name = ident n; lifetimes = l; params = p.list; result = r.0; body = b.tree }))
        (max p.height (max r.1 b.height)) (join f.span b.span))

  unfoldable pub rt : Parser (Got ItemTree)
  rt = do
    m ← expect symbol.Mod
    r ← expect_word (codes "rt")
    z ← expect symbol.Semicolon
    pure (piece (plain.rt_item (join m.span z.span) r.span) 0 (join m.span z.span))

  abbrev pub item_by : Symbol → Parser (Got ItemTree)
  item_by symbol.Mod = rt
  item_by symbol.Hash = derived
  item_by symbol.Struct = structure None []
  item_by symbol.Enum = enumeration None []
  item_by symbol.Fn = function
  item_by _ = refuse

  unfoldable pub item : Parser (Got ItemTree)
  item = next >>= item_by

  unfoldable pub items_from : ℕ → List ItemTree → ℕ → Parser (List ItemTree × ℕ)
  items_from zero found h = when_next symbol.End (pure (found, h)) refuse
  items_from (suc n) found h = when_next symbol.End (pure (found, h)) (item >>= (λ x. items_from n (found ++ x.tree ∷ []) (max h x.height)))

  -- a file, and the levels of its types and bodies
  unfoldable pub file : Parser (List ItemTree × ℕ)
  file = λ i. items_from (length i) [] 0 i
