-- The premise on a program's size: its items, and what a number counts in it, are fewer than 2^32, and so are the entries of each list.
use Rattle.std.specs.Prelude.{ℕ, ◌<◌, ◌^◌, max, List, [], ◌∷◌, length, Some, None}
use Rattle.rx_tree.specs.declared.tree.BoundLifetime.{BoundLifetime}
use Rattle.rx_tree.specs.Plain as plain
use Rattle.rx_tree.specs.Plain.{TypeTree, PatternTree, Expression, OptionalExpressions, VariantOf, ItemTree, ProgramTree}
use Rattle.rx_tree.specs.Lists.{listed_types, listed_patterns, listed_field_patterns, listed_expressions, listed_fields, listed_arms, statements}
use Rattle.rx_tree.specs.Positions.{NodeTree, an_item, a_type, a_block, a_statement, an_expression, a_pattern}
use Rattle.rx_tree.specs.Nodes.{nodes, total, greatest}

-- ---- what a node declares

abbrev pub item_parameters : ItemTree → ℕ
item_parameters (plain.function_item s f) = length f.params
item_parameters _ = 0

abbrev pub item_lifetimes : ItemTree → ℕ
item_lifetimes (plain.rt_item s r) = 0
item_lifetimes (plain.struct_item s x) = length x.lifetimes
item_lifetimes (plain.enum_item s x) = length x.lifetimes
item_lifetimes (plain.function_item s f) = length f.lifetimes

abbrev pub pattern_bindings : PatternTree → ℕ
pattern_bindings (plain.bind s n m) = 1
pattern_bindings _ = 0

abbrev pub expression_loops : Expression → ℕ
expression_loops (plain.loop s l b) = 1
expression_loops (plain.while s l c b) = 1
expression_loops (plain.while_let s l p e b) = 1
expression_loops _ = 0

-- parameters are bindings
abbrev pub bindings_at : NodeTree → ℕ
bindings_at (an_item i) = item_parameters i
bindings_at (a_pattern p) = pattern_bindings p
bindings_at _ = 0

abbrev pub lifetimes_at : NodeTree → ℕ
lifetimes_at (an_item i) = item_lifetimes i
lifetimes_at _ = 0

abbrev pub loops_at : NodeTree → ℕ
loops_at (an_expression e) = expression_loops e
loops_at _ = 0

-- ---- the longest list that a node holds with no node between

abbrev pub longest_bounds : List BoundLifetime → ℕ
longest_bounds [] = 0
longest_bounds (l ∷ ls) = max (length l.bounds) (longest_bounds ls)

abbrev pub longest_types : List VariantOf → ℕ
longest_types [] = 0
longest_types (v ∷ vs) = max (length (listed_types v.types)) (longest_types vs)

abbrev pub longest_of_item : ItemTree → ℕ
longest_of_item (plain.rt_item s r) = 0
longest_of_item (plain.struct_item s x) = max (length x.derives) (max (length x.lifetimes) (length x.fields))
longest_of_item (plain.enum_item s x) = max (length x.derives)
    (max (length x.lifetimes) (max (length x.variants) (longest_types x.variants)))
longest_of_item (plain.function_item s f) = max (length f.lifetimes)
    (max (longest_bounds f.lifetimes) (length f.params))

abbrev pub longest_of_type : TypeTree → ℕ
longest_of_type (plain.tuple_type s ts) = length (listed_types ts)
longest_of_type (plain.named_type s n None) = 0
longest_of_type (plain.named_type s n (Some ls)) = length ls
longest_of_type _ = 0

abbrev pub longest_of_pattern : PatternTree → ℕ
longest_of_pattern (plain.tuple_pattern s ps) = length (listed_patterns ps)
longest_of_pattern (plain.variant_pattern s a v ps) = length (listed_patterns ps)
longest_of_pattern (plain.make_pattern s n fs) = length (listed_field_patterns fs)
longest_of_pattern _ = 0

abbrev pub longest_of_arguments : OptionalExpressions → ℕ
longest_of_arguments plain.no_list = 0
longest_of_arguments (plain.a_list es) = length (listed_expressions es)

abbrev pub longest_of_expression : Expression → ℕ
longest_of_expression (plain.tuple s es) = length (listed_expressions es)
longest_of_expression (plain.call s f es) = length (listed_expressions es)
longest_of_expression (plain.variant s a v es) = longest_of_arguments es
longest_of_expression (plain.make s n fs) = length (listed_fields fs)
longest_of_expression (plain.match s e l) = length (listed_arms l)
longest_of_expression _ = 0

abbrev pub longest_at : NodeTree → ℕ
longest_at (an_item i) = longest_of_item i
longest_at (a_type t) = longest_of_type t
longest_at (a_block b) = length (statements b)
longest_at (a_statement a) = 0
longest_at (an_expression e) = longest_of_expression e
longest_at (a_pattern p) = longest_of_pattern p

-- ---- the premise

-- a program whose items, bindings, declared lifetimes and loops can be numbered in 32 bits, and the entries of each of its lists too
pub record IsNumbered (p : ProgramTree) : Type 0 where
  pub items : length p < 2 ^ 32
  pub bindings : total bindings_at (nodes p) < 2 ^ 32
  pub lifetimes : total lifetimes_at (nodes p) < 2 ^ 32
  pub loops : total loops_at (nodes p) < 2 ^ 32
  pub lists : greatest longest_at (nodes p) < 2 ^ 32
