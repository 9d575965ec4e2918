-- Nodes by their positions.
-- A node is an item, a type, a block, a statement, an expression or a pattern. Its children are the nodes
-- that it holds with no node between, in the order of the text, counted from 0. Names, lifetimes and labels
-- are no nodes: the types of fields, variants and parameters stand directly under their item, the values of
-- a struct literal and the parts of a pattern under that, and an arm's pattern, then its body, under the match.
use Rattle.std.specs.Prelude.{ℕ, List, [], ◌∷◌, ◌++◌, Option, Some, None, map, slice_get}
use Rattle.rx_tree.specs.Plain as plain
use Rattle.rx_tree.specs.Plain.{TypeTree, TypeTrees, PatternTree, PatternTrees, FieldPatterns, Expression, Expressions, OptionalExpression, OptionalExpressions, FieldExpressions, Arms, Body, Statement, Statements, Parameter, Function, FieldOf, VariantOf, ItemTree, ProgramTree}

pub data NodeTree : Type 0 where
  an_item : ItemTree → NodeTree
  a_type : TypeTree → NodeTree
  a_block : Body → NodeTree
  a_statement : Statement → NodeTree
  an_expression : Expression → NodeTree
  a_pattern : PatternTree → NodeTree

-- ---- the nodes of lists and of optional parts

abbrev pub type_nodes : TypeTrees → List NodeTree
type_nodes plain.no_type = []
type_nodes (plain.type_and t ts) = a_type t ∷ type_nodes ts

abbrev pub optional_type_nodes : Option TypeTree → List NodeTree
optional_type_nodes None = []
optional_type_nodes (Some t) = a_type t ∷ []

abbrev pub pattern_nodes : PatternTrees → List NodeTree
pattern_nodes plain.no_pattern = []
pattern_nodes (plain.pattern_and p ps) = a_pattern p ∷ pattern_nodes ps

abbrev pub field_pattern_nodes : FieldPatterns → List NodeTree
field_pattern_nodes plain.no_field_pattern = []
field_pattern_nodes (plain.field_pattern_and n p fs) = a_pattern p ∷ field_pattern_nodes fs

abbrev pub expression_nodes : Expressions → List NodeTree
expression_nodes plain.no_expression = []
expression_nodes (plain.expression_and e es) = an_expression e ∷ expression_nodes es

abbrev pub optional_nodes : OptionalExpression → List NodeTree
optional_nodes plain.absent = []
optional_nodes (plain.present e) = an_expression e ∷ []

abbrev pub argument_nodes : OptionalExpressions → List NodeTree
argument_nodes plain.no_list = []
argument_nodes (plain.a_list es) = expression_nodes es

abbrev pub field_nodes : FieldExpressions → List NodeTree
field_nodes plain.no_field = []
field_nodes (plain.field_and n e fs) = an_expression e ∷ field_nodes fs

abbrev pub arm_nodes : Arms → List NodeTree
arm_nodes plain.no_arm = []
arm_nodes (plain.arm_and p e rest) = a_pattern p ∷ an_expression e ∷ arm_nodes rest

abbrev pub statement_nodes : Statements → List NodeTree
statement_nodes plain.no_statement = []
statement_nodes (plain.statement_and a rest) = a_statement a ∷ statement_nodes rest

abbrev pub declared_nodes : List FieldOf → List NodeTree
declared_nodes [] = []
declared_nodes (f ∷ fs) = a_type f.typ ∷ declared_nodes fs

abbrev pub variant_nodes : List VariantOf → List NodeTree
variant_nodes [] = []
variant_nodes (v ∷ vs) = type_nodes v.types ++ variant_nodes vs

abbrev pub parameter_nodes : List Parameter → List NodeTree
parameter_nodes [] = []
parameter_nodes (x ∷ xs) = a_type x.typ ∷ parameter_nodes xs

-- ---- the children of each kind of node

abbrev pub type_children : TypeTree → List NodeTree
type_children (plain.kind_type s k) = []
type_children (plain.bool_type s) = []
type_children (plain.tuple_type s ts) = type_nodes ts
type_children (plain.ref_type s l m t) = a_type t ∷ []
type_children (plain.named_type s n ls) = []

abbrev pub pattern_children : PatternTree → List NodeTree
pattern_children (plain.wild s) = []
pattern_children (plain.bind s n m) = []
pattern_children (plain.int_pattern s g v k) = []
pattern_children (plain.bool_pattern s b) = []
pattern_children (plain.tuple_pattern s ps) = pattern_nodes ps
pattern_children (plain.variant_pattern s a v ps) = pattern_nodes ps
pattern_children (plain.make_pattern s n fs) = field_pattern_nodes fs

abbrev pub expression_children : Expression → List NodeTree
expression_children (plain.int s v k) = []
expression_children (plain.bool s b) = []
expression_children (plain.tuple s es) = expression_nodes es
expression_children (plain.var s x) = []
expression_children (plain.field s e n) = an_expression e ∷ []
expression_children (plain.part s e i) = an_expression e ∷ []
expression_children (plain.deref s e) = an_expression e ∷ []
expression_children (plain.negate s e) = an_expression e ∷ []
expression_children (plain.invert s e) = an_expression e ∷ []
expression_children (plain.borrow s m e) = an_expression e ∷ []
expression_children (plain.binary s o l r) = an_expression l ∷ an_expression r ∷ []
expression_children (plain.assign s l r) = an_expression l ∷ an_expression r ∷ []
expression_children (plain.update s o l r) = an_expression l ∷ an_expression r ∷ []
expression_children (plain.call s f es) = expression_nodes es
expression_children (plain.next_input s) = []
expression_children (plain.variant s a v es) = argument_nodes es
expression_children (plain.make s n fs) = field_nodes fs
expression_children (plain.print s e) = an_expression e ∷ []
expression_children (plain.block s b) = a_block b ∷ []
expression_children (plain.if s c b o) = an_expression c ∷ a_block b ∷ optional_nodes o
expression_children (plain.if_let s p e b o) = a_pattern p ∷ an_expression e ∷ a_block b ∷ optional_nodes o
expression_children (plain.match s e l) = an_expression e ∷ arm_nodes l
expression_children (plain.loop s l b) = a_block b ∷ []
expression_children (plain.while s l c b) = an_expression c ∷ a_block b ∷ []
expression_children (plain.while_let s l p e b) = a_pattern p ∷ an_expression e ∷ a_block b ∷ []
expression_children (plain.break s l) = []
expression_children (plain.continue s l) = []
expression_children (plain.return s o) = optional_nodes o

-- the statements, then the tail
abbrev pub block_children : Body → List NodeTree
block_children (plain.body s ss t) = statement_nodes ss ++ optional_nodes t

-- the pattern, its type, its initialiser
abbrev pub statement_children : Statement → List NodeTree
statement_children (plain.let_statement s p t i) = a_pattern p ∷ (optional_type_nodes t ++ optional_nodes i)
statement_children (plain.expression_statement s e b) = an_expression e ∷ []

-- the types of the parameters, the result's type, the body
abbrev pub function_children : Function → List NodeTree
function_children f = parameter_nodes f.params ++ (optional_type_nodes f.result ++ (a_block f.body ∷ []))

abbrev pub item_children : ItemTree → List NodeTree
item_children (plain.rt_item s r) = []
item_children (plain.struct_item s x) = declared_nodes x.fields
item_children (plain.enum_item s x) = variant_nodes x.variants
item_children (plain.function_item s f) = function_children f

abbrev pub children : NodeTree → List NodeTree
children (an_item i) = item_children i
children (a_type t) = type_children t
children (a_block b) = block_children b
children (a_statement a) = statement_children a
children (an_expression e) = expression_children e
children (a_pattern p) = pattern_children p

-- ---- positions

-- from a node, where there is one, to the end of a way of numbers of children
abbrev pub descend : Option NodeTree → List ℕ → Option NodeTree
descend None ks = None
descend (Some n) [] = Some n
descend (Some n) (k ∷ ks) = descend (slice_get (children n) k) ks

-- the node at a position: the way begins at the item of that number
abbrev pub node_at : ProgramTree → ℕ → List ℕ → Option NodeTree
node_at p item path = descend (slice_get (map an_item p) item) path
