-- The nodes of a function: those that have a type, which are its written types, patterns, expressions and blocks but for what
-- is Never (Rust Reference, "Never type"); and those that have none, which are its item, its statements and what is Never.
use Rattle.std.specs.Prelude.{ℕ, Bool, true, false, ◌&&◌, not, List, [], ◌∷◌, ◌++◌, Option, Some, None}
use Rattle.rx_typed.specs.declared.nodes.Node.{Node}
use Rattle.rx_typed.specs.Named as named
use Rattle.rx_typed.specs.Named.{Written, WrittenTypes, Pattern, Patterns, FieldPatterns, Exp, Exps, Else, Fields, Arms, Body, Statement, Statements, Parameter, Function, body_never, else_never, all_never, tail_never, some_diverges}

-- a node, where it isn't so
abbrev pub unless : Bool → Node → List ℕ
unless true n = []
unless false n = n.number ∷ []

-- a node, among those that have a type (`true`) or those that have none; whether it is Never, or a statement
abbrev pub one : Bool → Bool → Node → List ℕ
one true v n = unless v n
one false v n = unless (not v) n

-- these, where the first is true
abbrev pub when : Bool → List ℕ → List ℕ
when true ns = ns
when false ns = []

-- ---- what always has a type

abbrev mutual
  pub type_nodes : Written → List ℕ
  type_nodes (named.a_kind n k) = n.number ∷ []
  type_nodes (named.a_bool n) = n.number ∷ []
  type_nodes (named.a_tuple n ts) = n.number ∷ types_nodes ts
  type_nodes (named.a_reference n m t) = n.number ∷ type_nodes t
  type_nodes (named.an_item n i ls) = n.number ∷ []

  pub types_nodes : WrittenTypes → List ℕ
  types_nodes named.no_written = []
  types_nodes (named.written_and t ts) = type_nodes t ++ types_nodes ts

abbrev pub optional_nodes : Option Written → List ℕ
optional_nodes None = []
optional_nodes (Some t) = type_nodes t

abbrev mutual
  pub pattern_nodes : Pattern → List ℕ
  pattern_nodes (named.wild n) = n.number ∷ []
  pattern_nodes (named.bind n x m) = n.number ∷ []
  pattern_nodes (named.whole_number n g v k) = n.number ∷ []
  pattern_nodes (named.truth n b) = n.number ∷ []
  pattern_nodes (named.tuple_pattern n ps) = n.number ∷ patterns_nodes ps
  pattern_nodes (named.variant_pattern n i v ps) = n.number ∷ patterns_nodes ps
  pattern_nodes (named.struct_pattern n i fs) = n.number ∷ field_patterns_nodes fs

  pub patterns_nodes : Patterns → List ℕ
  patterns_nodes named.no_pattern = []
  patterns_nodes (named.pattern_and p ps) = pattern_nodes p ++ patterns_nodes ps

  pub field_patterns_nodes : FieldPatterns → List ℕ
  field_patterns_nodes named.no_field_pattern = []
  field_patterns_nodes (named.field_pattern_and x p fs) = pattern_nodes p ++ field_patterns_nodes fs

-- ---- those that have a type, or the others

abbrev mutual
  pub exp_nodes : Bool → Exp → List ℕ
  exp_nodes w (named.int n m v k) = one w false n
  exp_nodes w (named.bool n b) = one w false n
  exp_nodes w (named.tuple n es) = one w false n ++ exps_nodes w es
  exp_nodes w (named.var n x) = one w false n
  exp_nodes w (named.field n e x) = one w false n ++ exp_nodes w e
  exp_nodes w (named.part n e i) = one w false n ++ exp_nodes w e
  exp_nodes w (named.deref n e) = one w false n ++ exp_nodes w e
  exp_nodes w (named.negate n e) = one w false n ++ exp_nodes w e
  exp_nodes w (named.invert n e) = one w false n ++ exp_nodes w e
  exp_nodes w (named.borrow n m e) = one w false n ++ exp_nodes w e
  exp_nodes w (named.binary n o a b) = one w false n ++ (exp_nodes w a ++ exp_nodes w b)
  exp_nodes w (named.assign n p e) = one w false n ++ (exp_nodes w p ++ exp_nodes w e)
  -- the variable that is given its type
  exp_nodes w (named.gives n p x d e) = one w false n ++ (one w false p ++ exp_nodes w e)
  exp_nodes w (named.update n o p e) = one w false n ++ (exp_nodes w p ++ exp_nodes w e)
  exp_nodes w (named.call n f es) = one w false n ++ exps_nodes w es
  exp_nodes w (named.hidden_call n es) = one w false n ++ exps_nodes w es
  exp_nodes w (named.next_input n) = one w false n
  exp_nodes w (named.variant n i v es) = one w false n ++ exps_nodes w es
  exp_nodes w (named.make n i fs) = one w false n ++ fields_nodes w fs
  exp_nodes w (named.print n e) = one w false n ++ exp_nodes w e
  exp_nodes w (named.block n b) = one w (body_never b) n ++ body_nodes w b
  exp_nodes w (named.if n c b o) = one w (body_never b && else_never o) n ++ (exp_nodes w c ++ (body_nodes w b ++ else_nodes w o))
  exp_nodes w (named.if_let n p e b o) = one w (body_never b && else_never o) n ++ (when w (pattern_nodes p) ++ (exp_nodes w e ++ (body_nodes w b ++ else_nodes w o)))
  exp_nodes w (named.match n e l) = one w (all_never l) n ++ (exp_nodes w e ++ arms_nodes w l)
  exp_nodes w (named.loop n l k b) = one w (not k) n ++ body_nodes w b
  exp_nodes w (named.while n l c b) = one w false n ++ (exp_nodes w c ++ body_nodes w b)
  exp_nodes w (named.while_let n l p e b) = one w false n ++ (when w (pattern_nodes p) ++ (exp_nodes w e ++ body_nodes w b))
  exp_nodes w (named.break n l) = one w true n
  exp_nodes w (named.continue n l) = one w true n
  exp_nodes w (named.return n o) = one w true n ++ else_nodes w o

  pub exps_nodes : Bool → Exps → List ℕ
  exps_nodes w named.no_exp = []
  exps_nodes w (named.exp_and e es) = exp_nodes w e ++ exps_nodes w es

  pub else_nodes : Bool → Else → List ℕ
  else_nodes w named.absent = []
  else_nodes w (named.present e) = exp_nodes w e

  pub fields_nodes : Bool → Fields → List ℕ
  fields_nodes w named.no_field = []
  fields_nodes w (named.field_and x e fs) = exp_nodes w e ++ fields_nodes w fs

  pub arms_nodes : Bool → Arms → List ℕ
  arms_nodes w named.no_arm = []
  arms_nodes w (named.arm_and p e l) = when w (pattern_nodes p) ++ (exp_nodes w e ++ arms_nodes w l)

  pub body_nodes : Bool → Body → List ℕ
  body_nodes w (named.body n ss o) = one w (tail_never (some_diverges ss) o) n ++ (statements_nodes w ss ++ else_nodes w o)

  pub statement_nodes : Bool → Statement → List ℕ
  statement_nodes w (named.declares n p t) = one w true n ++ (when w (pattern_nodes p) ++ when w (optional_nodes t))
  statement_nodes w (named.lets n p t e) = one w true n ++ (when w (pattern_nodes p) ++ (when w (optional_nodes t) ++ exp_nodes w e))
  statement_nodes w (named.evaluates n e s) = one w true n ++ exp_nodes w e

  pub statements_nodes : Bool → Statements → List ℕ
  statements_nodes w named.no_statement = []
  statements_nodes w (named.statement_and a ss) = statement_nodes w a ++ statements_nodes w ss

abbrev pub parameters_nodes : List Parameter → List ℕ
parameters_nodes [] = []
parameters_nodes (x ∷ xs) = type_nodes x.typ ++ parameters_nodes xs

-- the item is node 0
abbrev pub nodes : Bool → Function → List ℕ
nodes w f = when (not w) (0 ∷ []) ++ (when w (parameters_nodes f.params) ++ (when w (optional_nodes f.result) ++ body_nodes w f.body))
