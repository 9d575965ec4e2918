-- A tree with numbers in which a place stands wherever one is wanted, and no callee is a variable (Rust Reference, "Place Expressions and
-- Value Expressions", "Call expressions"): what else stands there is refused by the rules of types.
use Rattle.std.specs.Prelude.{◌≡◌, true}
use Rattle.rx_typed.specs.Named as named
use Rattle.rx_typed.specs.Named.{Exp, Exps, Else, Fields, Arms, Body, Statement, Statements, is_place}

abbrev mutual
  pub Placed : Exp → Type 0
  Placed (named.int n m v k) = Unit {0}
  Placed (named.bool n b) = Unit {0}
  Placed (named.tuple n es) = PlacedAll es
  Placed (named.var n u) = Unit {0}
  Placed (named.field n e x) = Placed e × (is_place e ≡ true)
  Placed (named.part n e i) = Placed e × (is_place e ≡ true)
  Placed (named.deref n e) = Placed e × (is_place e ≡ true)
  Placed (named.negate n e) = Placed e
  Placed (named.invert n e) = Placed e
  Placed (named.borrow n m e) = Placed e × (is_place e ≡ true)
  Placed (named.binary n o a b) = Placed a × Placed b
  Placed (named.assign n p e) = (Placed p × (is_place p ≡ true)) × Placed e
  Placed (named.gives n p x d e) = Placed e
  Placed (named.update n o p e) = (Placed p × (is_place p ≡ true)) × Placed e
  Placed (named.call n f es) = PlacedAll es
  Placed (named.hidden_call n es) = ⊥
  Placed (named.next_input n) = Unit {0}
  Placed (named.variant n i v es) = PlacedAll es
  Placed (named.make n i fs) = PlacedFields fs
  Placed (named.print n e) = Placed e
  Placed (named.block n b) = PlacedBody b
  Placed (named.if n c b o) = Placed c × PlacedBody b × PlacedElse o
  Placed (named.if_let n p e b o) = Placed e × PlacedBody b × PlacedElse o
  Placed (named.match n e l) = Placed e × PlacedArms l
  Placed (named.loop n l k b) = PlacedBody b
  Placed (named.while n l c b) = Placed c × PlacedBody b
  Placed (named.while_let n l p e b) = Placed e × PlacedBody b
  Placed (named.break n l) = Unit {0}
  Placed (named.continue n l) = Unit {0}
  Placed (named.return n o) = PlacedElse o

  pub PlacedAll : Exps → Type 0
  PlacedAll named.no_exp = Unit {0}
  PlacedAll (named.exp_and e es) = Placed e × PlacedAll es

  pub PlacedElse : Else → Type 0
  PlacedElse named.absent = Unit {0}
  PlacedElse (named.present e) = Placed e

  pub PlacedFields : Fields → Type 0
  PlacedFields named.no_field = Unit {0}
  PlacedFields (named.field_and x e fs) = Placed e × PlacedFields fs

  pub PlacedArms : Arms → Type 0
  PlacedArms named.no_arm = Unit {0}
  PlacedArms (named.arm_and p e l) = Placed e × PlacedArms l

  pub PlacedBody : Body → Type 0
  PlacedBody (named.body n ss o) = PlacedRow ss × PlacedElse o

  pub PlacedStatement : Statement → Type 0
  PlacedStatement (named.declares n p t) = Unit {0}
  PlacedStatement (named.lets n p t e) = Placed e
  PlacedStatement (named.evaluates n e b) = Placed e

  pub PlacedRow : Statements → Type 0
  PlacedRow named.no_statement = Unit {0}
  PlacedRow (named.statement_and a ss) = PlacedStatement a × PlacedRow ss
