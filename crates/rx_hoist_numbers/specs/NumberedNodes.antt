-- Nodes of the tree with numbers of a function by their positions: the children of each in the order of the text, counted from 0
-- (Rust Reference, "Items", "Statements and expressions": what stands in what).
use Rattle.std.specs.Prelude.{ℕ, List, [], ◌∷◌, ◌++◌, Option, Some, None, slice_get}
use Rattle.rx_typed.specs.declared.nodes.Node.{Node}
use Rattle.rx_typed.specs.Named as named
use Rattle.rx_typed.specs.Named.{Written, WrittenTypes, Pattern, Patterns, FieldPatterns, Exp, Exps, Else, Fields, Arms, Body, Statement, Statements, Parameter, Function}

pub data NumberedNode : Type 0 where
  the_item : Function → NumberedNode
  the_type : Written → NumberedNode
  the_block : Body → NumberedNode
  the_statement : Statement → NumberedNode
  the_expression : Exp → NumberedNode
  the_pattern : Pattern → NumberedNode

abbrev pub statement_node : Statement → Node
statement_node (named.declares n p t) = n
statement_node (named.lets n p t e) = n
statement_node (named.evaluates n e s) = n

-- ---- the nodes of lists and of optional parts

abbrev pub type_nodes : WrittenTypes → List NumberedNode
type_nodes named.no_written = []
type_nodes (named.written_and t ts) = the_type t ∷ type_nodes ts

abbrev pub optional_type_nodes : Option Written → List NumberedNode
optional_type_nodes None = []
optional_type_nodes (Some t) = the_type t ∷ []

abbrev pub pattern_nodes : Patterns → List NumberedNode
pattern_nodes named.no_pattern = []
pattern_nodes (named.pattern_and p ps) = the_pattern p ∷ pattern_nodes ps

abbrev pub field_pattern_nodes : FieldPatterns → List NumberedNode
field_pattern_nodes named.no_field_pattern = []
field_pattern_nodes (named.field_pattern_and x p fs) = the_pattern p ∷ field_pattern_nodes fs

abbrev pub expression_nodes : Exps → List NumberedNode
expression_nodes named.no_exp = []
expression_nodes (named.exp_and e es) = the_expression e ∷ expression_nodes es

abbrev pub else_nodes : Else → List NumberedNode
else_nodes named.absent = []
else_nodes (named.present e) = the_expression e ∷ []

abbrev pub field_nodes : Fields → List NumberedNode
field_nodes named.no_field = []
field_nodes (named.field_and x e fs) = the_expression e ∷ field_nodes fs

abbrev pub arm_nodes : Arms → List NumberedNode
arm_nodes named.no_arm = []
arm_nodes (named.arm_and p e l) = the_pattern p ∷ the_expression e ∷ arm_nodes l

abbrev pub statement_nodes : Statements → List NumberedNode
statement_nodes named.no_statement = []
statement_nodes (named.statement_and a ss) = the_statement a ∷ statement_nodes ss

abbrev pub parameter_nodes : List Parameter → List NumberedNode
parameter_nodes [] = []
parameter_nodes (x ∷ xs) = the_type x.typ ∷ parameter_nodes xs

-- ---- the children of each kind of node

abbrev pub type_children : Written → List NumberedNode
type_children (named.a_kind n k) = []
type_children (named.a_bool n) = []
type_children (named.a_tuple n ts) = type_nodes ts
type_children (named.a_reference n m t) = the_type t ∷ []
type_children (named.an_item n i ls) = []

abbrev pub pattern_children : Pattern → List NumberedNode
pattern_children (named.wild n) = []
pattern_children (named.bind n x m) = []
pattern_children (named.whole_number n g v k) = []
pattern_children (named.truth n b) = []
pattern_children (named.tuple_pattern n ps) = pattern_nodes ps
pattern_children (named.variant_pattern n i v ps) = pattern_nodes ps
pattern_children (named.struct_pattern n i fs) = field_pattern_nodes fs

abbrev pub expression_children : Exp → List NumberedNode
expression_children (named.int n m v k) = []
expression_children (named.bool n b) = []
expression_children (named.tuple n es) = expression_nodes es
expression_children (named.var n x) = []
expression_children (named.field n e x) = the_expression e ∷ []
expression_children (named.part n e i) = the_expression e ∷ []
expression_children (named.deref n e) = the_expression e ∷ []
expression_children (named.negate n e) = the_expression e ∷ []
expression_children (named.invert n e) = the_expression e ∷ []
expression_children (named.borrow n m e) = the_expression e ∷ []
expression_children (named.binary n o a b) = the_expression a ∷ the_expression b ∷ []
expression_children (named.assign n p e) = the_expression p ∷ the_expression e ∷ []
-- the variable that waits, then what gives it its type
expression_children (named.gives n p x d e) = the_expression (named.var p x) ∷ the_expression e ∷ []
expression_children (named.update n o p e) = the_expression p ∷ the_expression e ∷ []
expression_children (named.call n f es) = expression_nodes es
expression_children (named.hidden_call n es) = expression_nodes es
expression_children (named.next_input n) = []
expression_children (named.variant n i v es) = expression_nodes es
expression_children (named.make n i fs) = field_nodes fs
expression_children (named.print n e) = the_expression e ∷ []
expression_children (named.block n b) = the_block b ∷ []
expression_children (named.if n c b o) = the_expression c ∷ the_block b ∷ else_nodes o
expression_children (named.if_let n p e b o) = the_pattern p ∷ the_expression e ∷ the_block b ∷ else_nodes o
expression_children (named.match n e l) = the_expression e ∷ arm_nodes l
expression_children (named.loop n l k b) = the_block b ∷ []
expression_children (named.while n l c b) = the_expression c ∷ the_block b ∷ []
expression_children (named.while_let n l p e b) = the_pattern p ∷ the_expression e ∷ the_block b ∷ []
expression_children (named.break n l) = []
expression_children (named.continue n l) = []
expression_children (named.return n o) = else_nodes o

-- the statements, then the tail
abbrev pub block_children : Body → List NumberedNode
block_children (named.body n ss o) = statement_nodes ss ++ else_nodes o

-- the pattern, its type, its initialiser
abbrev pub statement_children : Statement → List NumberedNode
statement_children (named.declares n p t) = the_pattern p ∷ optional_type_nodes t
statement_children (named.lets n p t e) = the_pattern p ∷ (optional_type_nodes t ++ (the_expression e ∷ []))
statement_children (named.evaluates n e s) = the_expression e ∷ []

-- the types of the parameters, the result's type, the body
abbrev pub function_children : Function → List NumberedNode
function_children f = parameter_nodes f.params ++ (optional_type_nodes f.result ++ (the_block f.body ∷ []))

abbrev pub children : NumberedNode → List NumberedNode
children (the_item f) = function_children f
children (the_type t) = type_children t
children (the_block b) = block_children b
children (the_statement a) = statement_children a
children (the_expression e) = expression_children e
children (the_pattern p) = pattern_children p

-- from a node, where there is one, to the end of a way of numbers of children
abbrev pub descend : Option NumberedNode → List ℕ → Option NumberedNode
descend None ks = None
descend (Some n) [] = Some n
descend (Some n) (k ∷ ks) = descend (slice_get (children n) k) ks
