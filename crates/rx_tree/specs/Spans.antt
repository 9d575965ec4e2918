-- The span of each kind of node, of a body and of a program.
use Rattle.std.specs.Prelude.{[], ◌∷◌}
use Rattle.rx_core.specs.declared.types.Span.{Span}
use Rattle.rx_tree.specs.Plain as plain
use Rattle.rx_tree.specs.Plain.{TypeTree, PatternTree, Expression, Body, ItemTree, ProgramTree}
use Rattle.rx_tree.specs.Lists.{statement_span}
use Rattle.rx_tree.specs.Positions.{NodeTree, an_item, a_type, a_block, a_statement, an_expression, a_pattern}

abbrev pub type_span : TypeTree → Span
type_span (plain.kind_type s k) = s
type_span (plain.bool_type s) = s
type_span (plain.tuple_type s ts) = s
type_span (plain.ref_type s l m t) = s
type_span (plain.named_type s n ls) = s

abbrev pub pattern_span : PatternTree → Span
pattern_span (plain.wild s) = s
pattern_span (plain.bind s n m) = s
pattern_span (plain.int_pattern s g v k) = s
pattern_span (plain.bool_pattern s b) = s
pattern_span (plain.tuple_pattern s ps) = s
pattern_span (plain.variant_pattern s a v ps) = s
pattern_span (plain.make_pattern s n fs) = s

abbrev pub expression_span : Expression → Span
expression_span (plain.int s v k) = s
expression_span (plain.bool s b) = s
expression_span (plain.tuple s es) = s
expression_span (plain.var s x) = s
expression_span (plain.field s e n) = s
expression_span (plain.part s e i) = s
expression_span (plain.deref s e) = s
expression_span (plain.negate s e) = s
expression_span (plain.invert s e) = s
expression_span (plain.borrow s m e) = s
expression_span (plain.binary s o a b) = s
expression_span (plain.assign s a b) = s
expression_span (plain.update s o a b) = s
expression_span (plain.call s f es) = s
expression_span (plain.next_input s) = s
expression_span (plain.variant s a v es) = s
expression_span (plain.make s n fs) = s
expression_span (plain.print s e) = s
expression_span (plain.block s b) = s
expression_span (plain.if s c b o) = s
expression_span (plain.if_let s p e b o) = s
expression_span (plain.match s e as') = s
expression_span (plain.loop s l b) = s
expression_span (plain.while s l c b) = s
expression_span (plain.while_let s l p e b) = s
expression_span (plain.break s l) = s
expression_span (plain.continue s l) = s
expression_span (plain.return s o) = s

abbrev pub body_span : Body → Span
body_span (plain.body s ss t) = s

abbrev pub item_span : ItemTree → Span
item_span (plain.rt_item s r) = s
item_span (plain.struct_item s x) = s
item_span (plain.enum_item s x) = s
item_span (plain.function_item s f) = s

abbrev pub node_span : NodeTree → Span
node_span (an_item i) = item_span i
node_span (a_type t) = type_span t
node_span (a_block b) = body_span b
node_span (a_statement a) = statement_span a
node_span (an_expression e) = expression_span e
node_span (a_pattern p) = pattern_span p

abbrev pub last_span : Span → ProgramTree → Span
last_span s [] = s
last_span s (i ∷ is) = last_span (item_span i) is

-- from the first item to the last
abbrev pub program_span : ProgramTree → Span
program_span [] = record { start = 0; end = 0 }
program_span (i ∷ is) = record { start = (item_span i).start; end = (last_span (item_span i) is).end }
