-- What holds of each `let` of a tree with numbers, by its pattern and the type that it writes (Rust Reference, "let statements").
use Rattle.std.proofs.Common.{Option}
use Rattle.rx_typed.specs.Named as named
use Rattle.rx_typed.specs.Named.{Written, Pattern, Exp, Exps, Else, Fields, Arms, Body, Statement, Statements}

abbrev pub Lets : Type 1
Lets = Pattern → Option Written → Type 0

abbrev mutual
  pub InExp : Lets → Exp → Type 0
  InExp N (named.int n m v k) = Unit {0}
  InExp N (named.bool n b) = Unit {0}
  InExp N (named.tuple n es) = InExps N es
  InExp N (named.var n x) = Unit {0}
  InExp N (named.field n e x) = InExp N e
  InExp N (named.part n e i) = InExp N e
  InExp N (named.deref n e) = InExp N e
  InExp N (named.negate n e) = InExp N e
  InExp N (named.invert n e) = InExp N e
  InExp N (named.borrow n m e) = InExp N e
  InExp N (named.binary n o a b) = InExp N a × InExp N b
  InExp N (named.assign n p e) = InExp N p × InExp N e
  InExp N (named.gives n p x d e) = InExp N e
  InExp N (named.update n o p e) = InExp N p × InExp N e
  InExp N (named.call n g es) = InExps N es
  InExp N (named.hidden_call n es) = InExps N es
  InExp N (named.next_input n) = Unit {0}
  InExp N (named.variant n i v es) = InExps N es
  InExp N (named.make n i fs) = InFields N fs
  InExp N (named.print n e) = InExp N e
  InExp N (named.block n b) = InBody N b
  InExp N (named.if n c b o) = InExp N c × InBody N b × InElse N o
  InExp N (named.if_let n p e b o) = InExp N e × InBody N b × InElse N o
  InExp N (named.match n e l) = InExp N e × InArms N l
  InExp N (named.loop n l k b) = InBody N b
  InExp N (named.while n l c b) = InExp N c × InBody N b
  InExp N (named.while_let n l p e b) = InExp N e × InBody N b
  InExp N (named.break n l) = Unit {0}
  InExp N (named.continue n l) = Unit {0}
  InExp N (named.return n o) = InElse N o

  pub InExps : Lets → Exps → Type 0
  InExps N named.no_exp = Unit {0}
  InExps N (named.exp_and e es) = InExp N e × InExps N es

  pub InElse : Lets → Else → Type 0
  InElse N named.absent = Unit {0}
  InElse N (named.present e) = InExp N e

  pub InFields : Lets → Fields → Type 0
  InFields N named.no_field = Unit {0}
  InFields N (named.field_and x e fs) = InExp N e × InFields N fs

  pub InArms : Lets → Arms → Type 0
  InArms N named.no_arm = Unit {0}
  InArms N (named.arm_and p e l) = InExp N e × InArms N l

  pub InBody : Lets → Body → Type 0
  InBody N (named.body n ss o) = InStatements N ss × InElse N o

  pub InStatement : Lets → Statement → Type 0
  InStatement N (named.declares n p t) = N p t
  InStatement N (named.lets n p t e) = N p t × InExp N e
  InStatement N (named.evaluates n e s) = InExp N e

  pub InStatements : Lets → Statements → Type 0
  InStatements N named.no_statement = Unit {0}
  InStatements N (named.statement_and a ss) = InStatement N a × InStatements N ss
