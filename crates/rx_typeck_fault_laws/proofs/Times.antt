-- How often a number is that of a node of a part of a function.
use Rattle.std.proofs.Common.{ℕ, ◌+◌, List, [], ◌∷◌, Option, Some, None}
use Rattle.rx_typed.specs.Named as named
use Rattle.rx_typed.specs.Named.{Written, WrittenTypes, Pattern, Patterns, FieldPatterns, Exp, Exps, Else, Fields, Arms, Body, Statement, Statements, Parameter}

-- of the weight of each number
module _ (at : ℕ → ℕ) where
  abbrev mutual
    pub type_times : Written → ℕ
    type_times (named.a_kind n k) = at n.number
    type_times (named.a_bool n) = at n.number
    type_times (named.a_tuple n ts) = at n.number + types_times ts
    type_times (named.a_reference n m t) = at n.number + type_times t
    type_times (named.an_item n i ls) = at n.number

    pub types_times : WrittenTypes → ℕ
    types_times named.no_written = 0
    types_times (named.written_and t ts) = type_times t + types_times ts

  abbrev pub optional_times : Option Written → ℕ
  optional_times None = 0
  optional_times (Some t) = type_times t

  abbrev mutual
    pub pattern_times : Pattern → ℕ
    pattern_times (named.wild n) = at n.number
    pattern_times (named.bind n x m) = at n.number
    pattern_times (named.whole_number n g v k) = at n.number
    pattern_times (named.truth n b) = at n.number
    pattern_times (named.tuple_pattern n ps) = at n.number + patterns_times ps
    pattern_times (named.variant_pattern n i v ps) = at n.number + patterns_times ps
    pattern_times (named.struct_pattern n i fs) = at n.number + field_patterns_times fs

    pub patterns_times : Patterns → ℕ
    patterns_times named.no_pattern = 0
    patterns_times (named.pattern_and p ps) = pattern_times p + patterns_times ps

    pub field_patterns_times : FieldPatterns → ℕ
    field_patterns_times named.no_field_pattern = 0
    field_patterns_times (named.field_pattern_and x p fs) = pattern_times p + field_patterns_times fs

  abbrev mutual
    pub exp_times : Exp → ℕ
    exp_times (named.int n m v k) = at n.number
    exp_times (named.bool n b) = at n.number
    exp_times (named.tuple n es) = at n.number + exps_times es
    exp_times (named.var n x) = at n.number
    exp_times (named.field n e x) = at n.number + exp_times e
    exp_times (named.part n e i) = at n.number + exp_times e
    exp_times (named.deref n e) = at n.number + exp_times e
    exp_times (named.negate n e) = at n.number + exp_times e
    exp_times (named.invert n e) = at n.number + exp_times e
    exp_times (named.borrow n m e) = at n.number + exp_times e
    exp_times (named.binary n o a b) = at n.number + (exp_times a + exp_times b)
    exp_times (named.assign n p e) = at n.number + (exp_times p + exp_times e)
    exp_times (named.gives n p x d e) = at n.number + (at p.number + exp_times e)
    exp_times (named.update n o p e) = at n.number + (exp_times p + exp_times e)
    exp_times (named.call n f es) = at n.number + exps_times es
    exp_times (named.hidden_call n es) = at n.number + exps_times es
    exp_times (named.next_input n) = at n.number
    exp_times (named.variant n i v es) = at n.number + exps_times es
    exp_times (named.make n i fs) = at n.number + fields_times fs
    exp_times (named.print n e) = at n.number + exp_times e
    exp_times (named.block n b) = at n.number + body_times b
    exp_times (named.if n c b o) = at n.number + (exp_times c + (body_times b + else_times o))
    exp_times (named.if_let n p e b o) = at n.number + (pattern_times p + (exp_times e + (body_times b + else_times o)))
    exp_times (named.match n e l) = at n.number + (exp_times e + arms_times l)
    exp_times (named.loop n l k b) = at n.number + body_times b
    exp_times (named.while n l c b) = at n.number + (exp_times c + body_times b)
    exp_times (named.while_let n l p e b) = at n.number + (pattern_times p + (exp_times e + body_times b))
    exp_times (named.break n l) = at n.number
    exp_times (named.continue n l) = at n.number
    exp_times (named.return n o) = at n.number + else_times o

    pub exps_times : Exps → ℕ
    exps_times named.no_exp = 0
    exps_times (named.exp_and e es) = exp_times e + exps_times es

    pub else_times : Else → ℕ
    else_times named.absent = 0
    else_times (named.present e) = exp_times e

    pub fields_times : Fields → ℕ
    fields_times named.no_field = 0
    fields_times (named.field_and x e fs) = exp_times e + fields_times fs

    pub arms_times : Arms → ℕ
    arms_times named.no_arm = 0
    arms_times (named.arm_and p e l) = pattern_times p + (exp_times e + arms_times l)

    pub body_times : Body → ℕ
    body_times (named.body n ss o) = at n.number + (statements_times ss + else_times o)

    pub statement_times : Statement → ℕ
    statement_times (named.declares n p t) = at n.number + (pattern_times p + optional_times t)
    statement_times (named.lets n p t e) = at n.number + (pattern_times p + (optional_times t + exp_times e))
    statement_times (named.evaluates n e s) = at n.number + exp_times e

    pub statements_times : Statements → ℕ
    statements_times named.no_statement = 0
    statements_times (named.statement_and a ss) = statement_times a + statements_times ss

  abbrev pub parameters_times : List Parameter → ℕ
  parameters_times [] = 0
  parameters_times (x ∷ xs) = type_times x.typ + parameters_times xs
