-- Trees with numbers in which each list of lifetimes in the type of a `let` is as long as what it belongs to declares (Rust Reference,
-- "let statements", "Paths in types").
use Rattle.std.proofs.Common.{◌≡◌, ℕ, Option, Some, None, slice_get}
use Rattle.rx_typed.specs.Named as named
use Rattle.rx_typed.specs.Named.{Written, WrittenTypes, Exp, Exps, Else, Fields, Arms, Body, Statement, Statements}
use Rattle.rx_typed.specs.Types.{Declarations, lifetimes_declared}

abbrev pub ListFits : Declarations → ℕ → Option ℕ → Type 0
ListFits D i None = Unit {0}
ListFits D i (Some k) = lifetimes_declared (slice_get D i) ≡ k

abbrev mutual
  pub TypeFits : Declarations → Written → Type 0
  TypeFits D (named.a_kind n k) = Unit {0}
  TypeFits D (named.a_bool n) = Unit {0}
  TypeFits D (named.a_tuple n ts) = TypesFit D ts
  TypeFits D (named.a_reference n m t) = TypeFits D t
  TypeFits D (named.an_item n i ls) = ListFits D i ls

  pub TypesFit : Declarations → WrittenTypes → Type 0
  TypesFit D named.no_written = Unit {0}
  TypesFit D (named.written_and t ts) = TypeFits D t × TypesFit D ts

abbrev pub OptionFits : Declarations → Option Written → Type 0
OptionFits D None = Unit {0}
OptionFits D (Some t) = TypeFits D t

abbrev mutual
  pub InExp : Declarations → Exp → Type 0
  InExp D (named.int n m v k) = Unit {0}
  InExp D (named.bool n b) = Unit {0}
  InExp D (named.tuple n es) = InExps D es
  InExp D (named.var n x) = Unit {0}
  InExp D (named.field n e x) = InExp D e
  InExp D (named.part n e i) = InExp D e
  InExp D (named.deref n e) = InExp D e
  InExp D (named.negate n e) = InExp D e
  InExp D (named.invert n e) = InExp D e
  InExp D (named.borrow n m e) = InExp D e
  InExp D (named.binary n o a b) = InExp D a × InExp D b
  InExp D (named.assign n p e) = InExp D p × InExp D e
  InExp D (named.gives n p x d e) = InExp D e
  InExp D (named.update n o p e) = InExp D p × InExp D e
  InExp D (named.call n g es) = InExps D es
  InExp D (named.hidden_call n es) = InExps D es
  InExp D (named.next_input n) = Unit {0}
  InExp D (named.variant n i v es) = InExps D es
  InExp D (named.make n i fs) = InFields D fs
  InExp D (named.print n e) = InExp D e
  InExp D (named.block n b) = InBody D b
  InExp D (named.if n c b o) = InExp D c × InBody D b × InElse D o
  InExp D (named.if_let n p e b o) = InExp D e × InBody D b × InElse D o
  InExp D (named.match n e l) = InExp D e × InArms D l
  InExp D (named.loop n l k b) = InBody D b
  InExp D (named.while n l c b) = InExp D c × InBody D b
  InExp D (named.while_let n l p e b) = InExp D e × InBody D b
  InExp D (named.break n l) = Unit {0}
  InExp D (named.continue n l) = Unit {0}
  InExp D (named.return n o) = InElse D o

  pub InExps : Declarations → Exps → Type 0
  InExps D named.no_exp = Unit {0}
  InExps D (named.exp_and e es) = InExp D e × InExps D es

  pub InElse : Declarations → Else → Type 0
  InElse D named.absent = Unit {0}
  InElse D (named.present e) = InExp D e

  pub InFields : Declarations → Fields → Type 0
  InFields D named.no_field = Unit {0}
  InFields D (named.field_and x e fs) = InExp D e × InFields D fs

  pub InArms : Declarations → Arms → Type 0
  InArms D named.no_arm = Unit {0}
  InArms D (named.arm_and p e l) = InExp D e × InArms D l

  pub InBody : Declarations → Body → Type 0
  InBody D (named.body n ss o) = InStatements D ss × InElse D o

  pub InStatement : Declarations → Statement → Type 0
  InStatement D (named.declares n p t) = OptionFits D t
  InStatement D (named.lets n p t e) = OptionFits D t × InExp D e
  InStatement D (named.evaluates n e s) = InExp D e

  pub InStatements : Declarations → Statements → Type 0
  InStatements D named.no_statement = Unit {0}
  InStatements D (named.statement_and a ss) = InStatement D a × InStatements D ss
