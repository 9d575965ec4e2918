-- Trees with numbers without the spans of their nodes, and without written types.
use Rattle.std.specs.Prelude.{None}
use Rattle.rx_tree.specs.Erase.{nowhere}
use Rattle.rx_typed.specs.declared.nodes.Node.{Node}
use Rattle.rx_typed.specs.Named as named
use Rattle.rx_typed.specs.Named.{Pattern, Patterns, FieldPatterns, Exp, Exps, Else, Fields, Arms, Body, Statement, Statements}

abbrev pub bare_node : Node → Node
bare_node n = record n { span = nowhere }

abbrev mutual
  pub bare_pattern : Pattern → Pattern
  bare_pattern (named.wild n) = named.wild (bare_node n)
  bare_pattern (named.bind n x m) = named.bind (bare_node n) x m
  bare_pattern (named.whole_number n g v k) = named.whole_number (bare_node n) g v k
  bare_pattern (named.truth n b) = named.truth (bare_node n) b
  bare_pattern (named.tuple_pattern n ps) = named.tuple_pattern (bare_node n) (bare_patterns ps)
  bare_pattern (named.variant_pattern n i v ps) = named.variant_pattern (bare_node n) i v (bare_patterns ps)
  bare_pattern (named.struct_pattern n i fs) = named.struct_pattern (bare_node n) i (bare_field_patterns fs)

  pub bare_patterns : Patterns → Patterns
  bare_patterns named.no_pattern = named.no_pattern
  bare_patterns (named.pattern_and p ps) = named.pattern_and (bare_pattern p) (bare_patterns ps)

  pub bare_field_patterns : FieldPatterns → FieldPatterns
  bare_field_patterns named.no_field_pattern = named.no_field_pattern
  bare_field_patterns (named.field_pattern_and x p fs) = named.field_pattern_and x (bare_pattern p) (bare_field_patterns fs)

abbrev mutual
  pub bare : Exp → Exp
  bare (named.int n m v k) = named.int (bare_node n) m v k
  bare (named.bool n b) = named.bool (bare_node n) b
  bare (named.tuple n es) = named.tuple (bare_node n) (bare_all es)
  bare (named.var n x) = named.var (bare_node n) x
  bare (named.field n e x) = named.field (bare_node n) (bare e) x
  bare (named.part n e i) = named.part (bare_node n) (bare e) i
  bare (named.deref n e) = named.deref (bare_node n) (bare e)
  bare (named.negate n e) = named.negate (bare_node n) (bare e)
  bare (named.invert n e) = named.invert (bare_node n) (bare e)
  bare (named.borrow n m e) = named.borrow (bare_node n) m (bare e)
  bare (named.binary n o a b) = named.binary (bare_node n) o (bare a) (bare b)
  bare (named.assign n p e) = named.assign (bare_node n) (bare p) (bare e)
  bare (named.gives n p x d e) = named.gives (bare_node n) (bare_node p) x d (bare e)
  bare (named.update n o p e) = named.update (bare_node n) o (bare p) (bare e)
  bare (named.call n f es) = named.call (bare_node n) f (bare_all es)
  bare (named.hidden_call n es) = named.hidden_call (bare_node n) (bare_all es)
  bare (named.next_input n) = named.next_input (bare_node n)
  bare (named.variant n i v es) = named.variant (bare_node n) i v (bare_all es)
  bare (named.make n i fs) = named.make (bare_node n) i (bare_fields fs)
  bare (named.print n e) = named.print (bare_node n) (bare e)
  bare (named.block n b) = named.block (bare_node n) (bare_body b)
  bare (named.if n c b o) = named.if (bare_node n) (bare c) (bare_body b) (bare_else o)
  bare (named.if_let n p e b o) = named.if_let (bare_node n) (bare_pattern p) (bare e) (bare_body b) (bare_else o)
  bare (named.match n e l) = named.match (bare_node n) (bare e) (bare_arms l)
  bare (named.loop n l k b) = named.loop (bare_node n) l k (bare_body b)
  bare (named.while n l c b) = named.while (bare_node n) l (bare c) (bare_body b)
  bare (named.while_let n l p e b) = named.while_let (bare_node n) l (bare_pattern p) (bare e) (bare_body b)
  bare (named.break n l) = named.break (bare_node n) l
  bare (named.continue n l) = named.continue (bare_node n) l
  bare (named.return n o) = named.return (bare_node n) (bare_else o)

  pub bare_all : Exps → Exps
  bare_all named.no_exp = named.no_exp
  bare_all (named.exp_and e es) = named.exp_and (bare e) (bare_all es)

  pub bare_else : Else → Else
  bare_else named.absent = named.absent
  bare_else (named.present e) = named.present (bare e)

  pub bare_fields : Fields → Fields
  bare_fields named.no_field = named.no_field
  bare_fields (named.field_and x e fs) = named.field_and x (bare e) (bare_fields fs)

  pub bare_arms : Arms → Arms
  bare_arms named.no_arm = named.no_arm
  bare_arms (named.arm_and p e l) = named.arm_and (bare_pattern p) (bare e) (bare_arms l)

  pub bare_body : Body → Body
  bare_body (named.body n ss o) = named.body (bare_node n) (bare_statements ss) (bare_else o)

  pub bare_statement : Statement → Statement
  bare_statement (named.declares n p t) = named.declares (bare_node n) (bare_pattern p) None
  bare_statement (named.lets n p t e) = named.lets (bare_node n) (bare_pattern p) None (bare e)
  bare_statement (named.evaluates n e s) = named.evaluates (bare_node n) (bare e) s

  pub bare_statements : Statements → Statements
  bare_statements named.no_statement = named.no_statement
  bare_statements (named.statement_and a ss) = named.statement_and (bare_statement a) (bare_statements ss)
