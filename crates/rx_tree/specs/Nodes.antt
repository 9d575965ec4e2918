-- All nodes of a program in the order of the text, each before those below it, and what holds at every node.
use Rattle.std.specs.Prelude.{◌≡◌, ℕ, ◌+◌, max, List, [], ◌∷◌, ◌++◌, Option, Some, None}
use Rattle.rx_tree.specs.Plain as plain
use Rattle.rx_tree.specs.Plain.{TypeTree, TypeTrees, PatternTree, PatternTrees, FieldPatterns, Expression, Expressions, OptionalExpression, OptionalExpressions, FieldExpressions, Arms, Body, Statement, Statements, Parameter, FieldOf, VariantOf, ItemTree, ProgramTree}
use Rattle.rx_tree.specs.Positions.{NodeTree, an_item, a_type, a_block, a_statement, an_expression, a_pattern, node_at}

-- `below` leaves out the node itself; `within` has each node of a list or an optional part, and those below it
abbrev mutual
  pub below_type : TypeTree → List NodeTree
  below_type (plain.kind_type s k) = []
  below_type (plain.bool_type s) = []
  below_type (plain.tuple_type s ts) = within_types ts
  below_type (plain.ref_type s l m t) = a_type t ∷ below_type t
  below_type (plain.named_type s n ls) = []

  pub within_types : TypeTrees → List NodeTree
  within_types plain.no_type = []
  within_types (plain.type_and t ts) = a_type t ∷ (below_type t ++ within_types ts)

abbrev pub within_type : Option TypeTree → List NodeTree
within_type None = []
within_type (Some t) = a_type t ∷ below_type t

abbrev mutual
  pub below_pattern : PatternTree → List NodeTree
  below_pattern (plain.wild s) = []
  below_pattern (plain.bind s n m) = []
  below_pattern (plain.int_pattern s g v k) = []
  below_pattern (plain.bool_pattern s b) = []
  below_pattern (plain.tuple_pattern s ps) = within_patterns ps
  below_pattern (plain.variant_pattern s a v ps) = within_patterns ps
  below_pattern (plain.make_pattern s n fs) = within_field_patterns fs

  pub within_patterns : PatternTrees → List NodeTree
  within_patterns plain.no_pattern = []
  within_patterns (plain.pattern_and p ps) = a_pattern p ∷ (below_pattern p ++ within_patterns ps)

  pub within_field_patterns : FieldPatterns → List NodeTree
  within_field_patterns plain.no_field_pattern = []
  within_field_patterns (plain.field_pattern_and n p fs) = a_pattern p ∷ (below_pattern p ++ within_field_patterns fs)

abbrev mutual
  pub below_expression : Expression → List NodeTree
  below_expression (plain.int s v k) = []
  below_expression (plain.bool s b) = []
  below_expression (plain.tuple s es) = within_expressions es
  below_expression (plain.var s x) = []
  below_expression (plain.field s e n) = an_expression e ∷ below_expression e
  below_expression (plain.part s e i) = an_expression e ∷ below_expression e
  below_expression (plain.deref s e) = an_expression e ∷ below_expression e
  below_expression (plain.negate s e) = an_expression e ∷ below_expression e
  below_expression (plain.invert s e) = an_expression e ∷ below_expression e
  below_expression (plain.borrow s m e) = an_expression e ∷ below_expression e
  below_expression (plain.binary s o l r) = an_expression l ∷
      (below_expression l ++ (an_expression r ∷ below_expression r))
  below_expression (plain.assign s l r) = an_expression l ∷
      (below_expression l ++ (an_expression r ∷ below_expression r))
  below_expression (plain.update s o l r) = an_expression l ∷
      (below_expression l ++ (an_expression r ∷ below_expression r))
  below_expression (plain.call s f es) = within_expressions es
  below_expression (plain.next_input s) = []
  below_expression (plain.variant s a v es) = within_arguments es
  below_expression (plain.make s n fs) = within_fields fs
  below_expression (plain.print s e) = an_expression e ∷ below_expression e
  below_expression (plain.block s b) = a_block b ∷ below_block b
  below_expression (plain.if s c b o) = an_expression c ∷
      (below_expression c ++ (a_block b ∷ (below_block b ++ within_optional o)))
  below_expression (plain.if_let s p e b o) =
      a_pattern p ∷ (below_pattern p ++ (an_expression e ∷
      (below_expression e ++ (a_block b ∷ (below_block b ++ within_optional o)))))
  below_expression (plain.match s e l) = an_expression e ∷ (below_expression e ++ within_arms l)
  below_expression (plain.loop s l b) = a_block b ∷ below_block b
  below_expression (plain.while s l c b) = an_expression c ∷ (below_expression c ++ (a_block b ∷ below_block b))
  below_expression (plain.while_let s l p e b) =
      a_pattern p ∷ (below_pattern p ++ (an_expression e ∷ (below_expression e ++ (a_block b ∷ below_block b))))
  below_expression (plain.break s l) = []
  below_expression (plain.continue s l) = []
  below_expression (plain.return s o) = within_optional o

  pub within_expressions : Expressions → List NodeTree
  within_expressions plain.no_expression = []
  within_expressions (plain.expression_and e es) = an_expression e ∷ (below_expression e ++ within_expressions es)

  pub within_optional : OptionalExpression → List NodeTree
  within_optional plain.absent = []
  within_optional (plain.present e) = an_expression e ∷ below_expression e

  pub within_arguments : OptionalExpressions → List NodeTree
  within_arguments plain.no_list = []
  within_arguments (plain.a_list es) = within_expressions es

  pub within_fields : FieldExpressions → List NodeTree
  within_fields plain.no_field = []
  within_fields (plain.field_and n e fs) = an_expression e ∷ (below_expression e ++ within_fields fs)

  pub within_arms : Arms → List NodeTree
  within_arms plain.no_arm = []
  within_arms (plain.arm_and p e rest) = a_pattern p ∷
      (below_pattern p ++ (an_expression e ∷ (below_expression e ++ within_arms rest)))

  pub below_block : Body → List NodeTree
  below_block (plain.body s ss t) = within_statements ss ++ within_optional t

  pub below_statement : Statement → List NodeTree
  below_statement (plain.let_statement s p t i) = a_pattern p ∷
      (below_pattern p ++ (within_type t ++ within_optional i))
  below_statement (plain.expression_statement s e b) = an_expression e ∷ below_expression e

  pub within_statements : Statements → List NodeTree
  within_statements plain.no_statement = []
  within_statements (plain.statement_and a ss) = a_statement a ∷ (below_statement a ++ within_statements ss)

abbrev pub within_declared : List FieldOf → List NodeTree
within_declared [] = []
within_declared (f ∷ fs) = a_type f.typ ∷ (below_type f.typ ++ within_declared fs)

abbrev pub within_variants : List VariantOf → List NodeTree
within_variants [] = []
within_variants (v ∷ vs) = within_types v.types ++ within_variants vs

abbrev pub within_parameters : List Parameter → List NodeTree
within_parameters [] = []
within_parameters (x ∷ xs) = a_type x.typ ∷ (below_type x.typ ++ within_parameters xs)

abbrev pub below_item : ItemTree → List NodeTree
below_item (plain.rt_item s r) = []
below_item (plain.struct_item s x) = within_declared x.fields
below_item (plain.enum_item s x) = within_variants x.variants
below_item (plain.function_item s f) = within_parameters f.params ++
    (within_type f.result ++ (a_block f.body ∷ below_block f.body))

abbrev pub below : NodeTree → List NodeTree
below (an_item i) = below_item i
below (a_type t) = below_type t
below (a_block b) = below_block b
below (a_statement a) = below_statement a
below (an_expression e) = below_expression e
below (a_pattern p) = below_pattern p

abbrev pub nodes : ProgramTree → List NodeTree
nodes [] = []
nodes (i ∷ is) = an_item i ∷ (below_item i ++ nodes is)

-- a fact of the node at each position
abbrev pub EveryNode : (NodeTree → Type 0) → ProgramTree → Type 0
EveryNode P p = (item : ℕ) (path : List ℕ) (n : NodeTree) → node_at p item path ≡ Some n → P n

-- ---- numbers of nodes

abbrev pub total : (NodeTree → ℕ) → List NodeTree → ℕ
total f [] = 0
total f (n ∷ ns) = f n + total f ns

abbrev pub greatest : (NodeTree → ℕ) → List NodeTree → ℕ
greatest f [] = 0
greatest f (n ∷ ns) = max (f n) (greatest f ns)
