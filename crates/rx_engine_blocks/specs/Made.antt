-- Code that is made anew: of its nodes and variables something holds, and no literal stands in it. Calls, values, borrows of variables,
-- assignments, jumps, blocks and matches can be made.
use Rattle.std.specs.Prelude.{ℕ, List, [], ◌∷◌, Option, Some, None}
use Rattle.rx_typed.specs.declared.nodes.Node.{Node}
use Rattle.rx_typed.specs.Named as named
use Rattle.rx_typed.specs.Named.{Written, WrittenTypes, Pattern, Patterns, Exp, Exps, Else, Arms, Body, Statement, Statements, Parameter}
use Rattle.rx_typeck_solver.specs.declared.facts.Subject.{Subject}
use Rattle.rx_typeck_solver.specs.declared.facts.Subject.TheVariants as subject
use Rattle.rx_typeck_typed.specs.Asking.{type_of, expected}

module _ (P : Subject → Type 0) where
  -- what a node has, and what is expected there
  abbrev pub AtNode : Node → Type 0
  AtNode n = P (type_of n) × P (expected n)

  abbrev pub AtVariable : ℕ → Type 0
  AtVariable x = P (subject.Variable x)

  abbrev mutual
    pub MadeType : Written → Type 0
    MadeType (named.a_kind n k) = AtNode n
    MadeType (named.a_bool n) = AtNode n
    MadeType (named.a_tuple n ts) = AtNode n × MadeTypes ts
    MadeType (named.a_reference n m t) = AtNode n × MadeType t
    MadeType (named.an_item n i ls) = AtNode n

    pub MadeTypes : WrittenTypes → Type 0
    MadeTypes named.no_written = Unit {0}
    MadeTypes (named.written_and t ts) = MadeType t × MadeTypes ts

  abbrev pub MadeOptionalType : Option Written → Type 0
  MadeOptionalType None = Unit {0}
  MadeOptionalType (Some t) = MadeType t

  abbrev mutual
    pub MadePattern : Pattern → Type 0
    MadePattern (named.wild n) = AtNode n
    MadePattern (named.bind n x m) = AtNode n × AtVariable x
    MadePattern (named.tuple_pattern n ps) = AtNode n × MadePatterns ps
    MadePattern (named.variant_pattern n i v ps) = AtNode n × MadePatterns ps
    MadePattern _ = ⊥

    pub MadePatterns : Patterns → Type 0
    MadePatterns named.no_pattern = Unit {0}
    MadePatterns (named.pattern_and p ps) = MadePattern p × MadePatterns ps

  -- where the variable was given its type, if it was
  abbrev pub MadeGiving : Option ℕ → Type 0
  MadeGiving None = Unit {0}
  MadeGiving (Some d) = P (subject.Node d)

  abbrev mutual
    pub MadeExp : Exp → Type 0
    MadeExp (named.var n x) = AtNode n × AtVariable x.number
    MadeExp (named.borrow n m (named.var k x)) = AtNode n × AtNode k × AtVariable x.number
    MadeExp (named.tuple n es) = AtNode n × MadeExps es
    MadeExp (named.call n g es) = AtNode n × MadeExps es
    MadeExp (named.variant n i v es) = AtNode n × MadeExps es
    MadeExp (named.assign n (named.var k x) e) = AtNode n × AtNode k × AtVariable x.number × MadeExp e
    MadeExp (named.gives n p x d e) = AtNode n × AtNode p × AtVariable x.number × MadeGiving d × MadeExp e
    MadeExp (named.block n b) = AtNode n × MadeBody b
    MadeExp (named.match n e l) = AtNode n × MadeExp e × MadeArms l
    MadeExp (named.return n o) = AtNode n × MadeElse o
    MadeExp (named.break n l) = AtNode n
    MadeExp (named.continue n l) = AtNode n
    MadeExp _ = ⊥

    pub MadeExps : Exps → Type 0
    MadeExps named.no_exp = Unit {0}
    MadeExps (named.exp_and e es) = MadeExp e × MadeExps es

    pub MadeElse : Else → Type 0
    MadeElse named.absent = Unit {0}
    MadeElse (named.present e) = MadeExp e

    pub MadeArms : Arms → Type 0
    MadeArms named.no_arm = Unit {0}
    MadeArms (named.arm_and p e l) = MadePattern p × MadeExp e × MadeArms l

    pub MadeBody : Body → Type 0
    MadeBody (named.body n ss o) = AtNode n × MadeStatements ss × MadeElse o

    pub MadeStatement : Statement → Type 0
    MadeStatement (named.declares n p t) = AtNode n × MadePattern p × MadeOptionalType t
    MadeStatement (named.lets n p t e) = AtNode n × MadePattern p × MadeOptionalType t × MadeExp e
    MadeStatement (named.evaluates n e s) = AtNode n × MadeExp e

    pub MadeStatements : Statements → Type 0
    MadeStatements named.no_statement = Unit {0}
    MadeStatements (named.statement_and a ss) = MadeStatement a × MadeStatements ss

  abbrev pub MadeParameters : List Parameter → Type 0
  MadeParameters [] = Unit {0}
  MadeParameters (x ∷ xs) = (AtVariable x.variable × MadeType x.typ) × MadeParameters xs
