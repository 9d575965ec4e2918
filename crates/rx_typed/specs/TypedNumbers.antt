-- The numbers of a function's tree, in the order of the text: those of its nodes, and those of the variables that it declares
-- (Rust Reference, "Patterns", "Identifier patterns"; "Functions", "Function parameters").
use Rattle.std.specs.Prelude.{◌≡◌, ℕ, suc, List, [], ◌∷◌, ◌++◌, Option, Some, None}
use Rattle.rx_typed.specs.Named as named
use Rattle.rx_typed.specs.Named.{Written, WrittenTypes, Pattern, Patterns, FieldPatterns, Exp, Exps, Else, Fields, Arms, Body, Statement, Statements, Parameter, Function}
use Rattle.rx_typed.specs.Elaborated.{variables}

-- the numbers from the first on, one by one, up to the last, which is left out
abbrev pub AreFrom : ℕ → List ℕ → ℕ → Type 0
AreFrom i [] j = i ≡ j
AreFrom i (n ∷ ns) j = (n ≡ i) × AreFrom (suc i) ns j

-- ---- nodes

abbrev mutual
  pub type_nodes : Written → List ℕ
  type_nodes (named.a_kind n k) = n.number ∷ []
  type_nodes (named.a_bool n) = n.number ∷ []
  type_nodes (named.a_tuple n ts) = n.number ∷ types_nodes ts
  type_nodes (named.a_reference n m t) = n.number ∷ type_nodes t
  type_nodes (named.an_item n i ls) = n.number ∷ []

  pub types_nodes : WrittenTypes → List ℕ
  types_nodes named.no_written = []
  types_nodes (named.written_and t ts) = type_nodes t ++ types_nodes ts

abbrev pub optional_nodes : Option Written → List ℕ
optional_nodes None = []
optional_nodes (Some t) = type_nodes t

abbrev mutual
  pub pattern_nodes : Pattern → List ℕ
  pattern_nodes (named.wild n) = n.number ∷ []
  pattern_nodes (named.bind n x m) = n.number ∷ []
  pattern_nodes (named.whole_number n g v k) = n.number ∷ []
  pattern_nodes (named.truth n b) = n.number ∷ []
  pattern_nodes (named.tuple_pattern n ps) = n.number ∷ patterns_nodes ps
  pattern_nodes (named.variant_pattern n i v ps) = n.number ∷ patterns_nodes ps
  pattern_nodes (named.struct_pattern n i fs) = n.number ∷ field_patterns_nodes fs

  pub patterns_nodes : Patterns → List ℕ
  patterns_nodes named.no_pattern = []
  patterns_nodes (named.pattern_and p ps) = pattern_nodes p ++ patterns_nodes ps

  pub field_patterns_nodes : FieldPatterns → List ℕ
  field_patterns_nodes named.no_field_pattern = []
  field_patterns_nodes (named.field_pattern_and x p fs) = pattern_nodes p ++ field_patterns_nodes fs

abbrev mutual
  pub exp_nodes : Exp → List ℕ
  exp_nodes (named.int n m v k) = n.number ∷ []
  exp_nodes (named.bool n b) = n.number ∷ []
  exp_nodes (named.tuple n es) = n.number ∷ exps_nodes es
  exp_nodes (named.var n x) = n.number ∷ []
  exp_nodes (named.field n e x) = n.number ∷ exp_nodes e
  exp_nodes (named.part n e i) = n.number ∷ exp_nodes e
  exp_nodes (named.deref n e) = n.number ∷ exp_nodes e
  exp_nodes (named.negate n e) = n.number ∷ exp_nodes e
  exp_nodes (named.invert n e) = n.number ∷ exp_nodes e
  exp_nodes (named.borrow n m e) = n.number ∷ exp_nodes e
  exp_nodes (named.binary n o a b) = n.number ∷ (exp_nodes a ++ exp_nodes b)
  exp_nodes (named.assign n p e) = n.number ∷ (exp_nodes p ++ exp_nodes e)
  -- the variable that is given its type
  exp_nodes (named.gives n p x d e) = n.number ∷ (p.number ∷ exp_nodes e)
  exp_nodes (named.update n o p e) = n.number ∷ (exp_nodes p ++ exp_nodes e)
  exp_nodes (named.call n f es) = n.number ∷ exps_nodes es
  exp_nodes (named.hidden_call n es) = n.number ∷ exps_nodes es
  exp_nodes (named.next_input n) = n.number ∷ []
  exp_nodes (named.variant n i v es) = n.number ∷ exps_nodes es
  exp_nodes (named.make n i fs) = n.number ∷ fields_nodes fs
  exp_nodes (named.print n e) = n.number ∷ exp_nodes e
  exp_nodes (named.block n b) = n.number ∷ body_nodes b
  exp_nodes (named.if n c b o) = n.number ∷ (exp_nodes c ++ (body_nodes b ++ else_nodes o))
  exp_nodes (named.if_let n p e b o) = n.number ∷ (pattern_nodes p ++ (exp_nodes e ++ (body_nodes b ++ else_nodes o)))
  exp_nodes (named.match n e l) = n.number ∷ (exp_nodes e ++ arms_nodes l)
  exp_nodes (named.loop n l k b) = n.number ∷ body_nodes b
  exp_nodes (named.while n l c b) = n.number ∷ (exp_nodes c ++ body_nodes b)
  exp_nodes (named.while_let n l p e b) = n.number ∷ (pattern_nodes p ++ (exp_nodes e ++ body_nodes b))
  exp_nodes (named.break n l) = n.number ∷ []
  exp_nodes (named.continue n l) = n.number ∷ []
  exp_nodes (named.return n o) = n.number ∷ else_nodes o

  pub exps_nodes : Exps → List ℕ
  exps_nodes named.no_exp = []
  exps_nodes (named.exp_and e es) = exp_nodes e ++ exps_nodes es

  pub else_nodes : Else → List ℕ
  else_nodes named.absent = []
  else_nodes (named.present e) = exp_nodes e

  pub fields_nodes : Fields → List ℕ
  fields_nodes named.no_field = []
  fields_nodes (named.field_and x e fs) = exp_nodes e ++ fields_nodes fs

  pub arms_nodes : Arms → List ℕ
  arms_nodes named.no_arm = []
  arms_nodes (named.arm_and p e l) = pattern_nodes p ++ (exp_nodes e ++ arms_nodes l)

  pub body_nodes : Body → List ℕ
  body_nodes (named.body n ss o) = n.number ∷ (statements_nodes ss ++ else_nodes o)

  pub statement_nodes : Statement → List ℕ
  statement_nodes (named.declares n p t) = n.number ∷ (pattern_nodes p ++ optional_nodes t)
  statement_nodes (named.lets n p t e) = n.number ∷ (pattern_nodes p ++ (optional_nodes t ++ exp_nodes e))
  statement_nodes (named.evaluates n e s) = n.number ∷ exp_nodes e

  pub statements_nodes : Statements → List ℕ
  statements_nodes named.no_statement = []
  statements_nodes (named.statement_and a ss) = statement_nodes a ++ statements_nodes ss

abbrev pub parameters_nodes : List Parameter → List ℕ
parameters_nodes [] = []
parameters_nodes (x ∷ xs) = type_nodes x.typ ++ parameters_nodes xs

-- the item is node 0
abbrev pub nodes : Function → List ℕ
nodes f = 0 ∷ (parameters_nodes f.params ++ (optional_nodes f.result ++ body_nodes f.body))

-- ---- variables

abbrev mutual
  pub exp_variables : Exp → List ℕ
  exp_variables (named.int n m v k) = []
  exp_variables (named.bool n b) = []
  exp_variables (named.tuple n es) = exps_variables es
  exp_variables (named.var n x) = []
  exp_variables (named.field n e x) = exp_variables e
  exp_variables (named.part n e i) = exp_variables e
  exp_variables (named.deref n e) = exp_variables e
  exp_variables (named.negate n e) = exp_variables e
  exp_variables (named.invert n e) = exp_variables e
  exp_variables (named.borrow n m e) = exp_variables e
  exp_variables (named.binary n o a b) = exp_variables a ++ exp_variables b
  exp_variables (named.assign n p e) = exp_variables p ++ exp_variables e
  exp_variables (named.gives n p x d e) = exp_variables e
  exp_variables (named.update n o p e) = exp_variables p ++ exp_variables e
  exp_variables (named.call n f es) = exps_variables es
  exp_variables (named.hidden_call n es) = exps_variables es
  exp_variables (named.next_input n) = []
  exp_variables (named.variant n i v es) = exps_variables es
  exp_variables (named.make n i fs) = fields_variables fs
  exp_variables (named.print n e) = exp_variables e
  exp_variables (named.block n b) = body_variables b
  exp_variables (named.if n c b o) = exp_variables c ++ (body_variables b ++ else_variables o)
  exp_variables (named.if_let n p e b o) = variables p ++ (exp_variables e ++ (body_variables b ++ else_variables o))
  exp_variables (named.match n e l) = exp_variables e ++ arms_variables l
  exp_variables (named.loop n l k b) = body_variables b
  exp_variables (named.while n l c b) = exp_variables c ++ body_variables b
  exp_variables (named.while_let n l p e b) = variables p ++ (exp_variables e ++ body_variables b)
  exp_variables (named.break n l) = []
  exp_variables (named.continue n l) = []
  exp_variables (named.return n o) = else_variables o

  pub exps_variables : Exps → List ℕ
  exps_variables named.no_exp = []
  exps_variables (named.exp_and e es) = exp_variables e ++ exps_variables es

  pub else_variables : Else → List ℕ
  else_variables named.absent = []
  else_variables (named.present e) = exp_variables e

  pub fields_variables : Fields → List ℕ
  fields_variables named.no_field = []
  fields_variables (named.field_and x e fs) = exp_variables e ++ fields_variables fs

  pub arms_variables : Arms → List ℕ
  arms_variables named.no_arm = []
  arms_variables (named.arm_and p e l) = variables p ++ (exp_variables e ++ arms_variables l)

  pub body_variables : Body → List ℕ
  body_variables (named.body n ss o) = statements_variables ss ++ else_variables o

  pub statement_variables : Statement → List ℕ
  statement_variables (named.declares n p t) = variables p
  statement_variables (named.lets n p t e) = variables p ++ exp_variables e
  statement_variables (named.evaluates n e s) = exp_variables e

  pub statements_variables : Statements → List ℕ
  statements_variables named.no_statement = []
  statements_variables (named.statement_and a ss) = statement_variables a ++ statements_variables ss

abbrev pub parameters_variables : List Parameter → List ℕ
parameters_variables [] = []
parameters_variables (x ∷ xs) = x.variable ∷ parameters_variables xs

abbrev pub declared : Function → List ℕ
declared f = parameters_variables f.params ++ body_variables f.body
