-- Trees with numbers in which struct literals name structs, variants are those of their enums, and loops are left by the `break`s that are
-- told: a loop that no `break` is told to lead to has none of its own, and neither has the test of a loop (Rust Reference, "Struct
-- expressions"; "Enumerations"; "break expressions", "Predicate loops").
use Rattle.std.specs.Prelude.{◌≡◌, ℕ, Bool, false, List, Some, slice_get}
use Rattle.rx_typed.specs.Types.{FieldDeclared, VariantDeclared, Declarations, struct_declared, enum_declared}
use Rattle.rx_typed.specs.Named as named
use Rattle.rx_typed.specs.Named.{Exp, Exps, Else, Fields, Arms, Body, Statement, Statements, Function}

-- no `break` in it leads to the loop of this number
abbrev mutual
  pub BreaksNot : ℕ → Exp → Type 0
  BreaksNot l (named.int n m v k) = Unit {0}
  BreaksNot l (named.bool n b) = Unit {0}
  BreaksNot l (named.tuple n es) = EachBreaksNot l es
  BreaksNot l (named.var n x) = Unit {0}
  BreaksNot l (named.field n e x) = BreaksNot l e
  BreaksNot l (named.part n e i) = BreaksNot l e
  BreaksNot l (named.deref n e) = BreaksNot l e
  BreaksNot l (named.negate n e) = BreaksNot l e
  BreaksNot l (named.invert n e) = BreaksNot l e
  BreaksNot l (named.borrow n m e) = BreaksNot l e
  BreaksNot l (named.binary n o a b) = BreaksNot l a × BreaksNot l b
  BreaksNot l (named.assign n p e) = BreaksNot l p × BreaksNot l e
  BreaksNot l (named.gives n p x d e) = BreaksNot l e
  BreaksNot l (named.update n o p e) = BreaksNot l p × BreaksNot l e
  BreaksNot l (named.call n f es) = EachBreaksNot l es
  BreaksNot l (named.hidden_call n es) = EachBreaksNot l es
  BreaksNot l (named.next_input n) = Unit {0}
  BreaksNot l (named.variant n i v es) = EachBreaksNot l es
  BreaksNot l (named.make n i fs) = FieldsBreakNot l fs
  BreaksNot l (named.print n e) = BreaksNot l e
  BreaksNot l (named.block n b) = BodyBreaksNot l b
  BreaksNot l (named.if n c b o) = BreaksNot l c × BodyBreaksNot l b × ElseBreaksNot l o
  BreaksNot l (named.if_let n p e b o) = BreaksNot l e × BodyBreaksNot l b × ElseBreaksNot l o
  BreaksNot l (named.match n e r) = BreaksNot l e × ArmsBreakNot l r
  BreaksNot l (named.loop n j k b) = BodyBreaksNot l b
  BreaksNot l (named.while n j c b) = BreaksNot l c × BodyBreaksNot l b
  BreaksNot l (named.while_let n j p e b) = BreaksNot l e × BodyBreaksNot l b
  BreaksNot l (named.break n k) = k ≡ l → ⊥
  BreaksNot l (named.continue n k) = Unit {0}
  BreaksNot l (named.return n o) = ElseBreaksNot l o

  pub EachBreaksNot : ℕ → Exps → Type 0
  EachBreaksNot l named.no_exp = Unit {0}
  EachBreaksNot l (named.exp_and e es) = BreaksNot l e × EachBreaksNot l es

  pub ElseBreaksNot : ℕ → Else → Type 0
  ElseBreaksNot l named.absent = Unit {0}
  ElseBreaksNot l (named.present e) = BreaksNot l e

  pub FieldsBreakNot : ℕ → Fields → Type 0
  FieldsBreakNot l named.no_field = Unit {0}
  FieldsBreakNot l (named.field_and x e fs) = BreaksNot l e × FieldsBreakNot l fs

  pub ArmsBreakNot : ℕ → Arms → Type 0
  ArmsBreakNot l named.no_arm = Unit {0}
  ArmsBreakNot l (named.arm_and p e r) = BreaksNot l e × ArmsBreakNot l r

  pub BodyBreaksNot : ℕ → Body → Type 0
  BodyBreaksNot l (named.body n ss o) = StatementsBreakNot l ss × ElseBreaksNot l o

  pub StatementBreaksNot : ℕ → Statement → Type 0
  StatementBreaksNot l (named.declares n p t) = Unit {0}
  StatementBreaksNot l (named.lets n p t e) = BreaksNot l e
  StatementBreaksNot l (named.evaluates n e b) = BreaksNot l e

  pub StatementsBreakNot : ℕ → Statements → Type 0
  StatementsBreakNot l named.no_statement = Unit {0}
  StatementsBreakNot l (named.statement_and a ss) = StatementBreaksNot l a × StatementsBreakNot l ss

-- a struct, and a variant of an enum
abbrev pub IsStruct : Declarations → ℕ → Type 0
IsStruct D i = (c : Bool) × (l : ℕ) × (fs : List FieldDeclared) × (slice_get D i ≡ Some (struct_declared c l fs))

abbrev pub IsVariant : Declarations → ℕ → ℕ → Type 0
IsVariant D i v = (c : Bool) × (l : ℕ) × (vs : List VariantDeclared) × (d : VariantDeclared) × (slice_get D i ≡ Some (enum_declared c l vs)) × (slice_get vs v ≡ Some d)

-- over what is declared
abbrev mutual
  pub Fits : Declarations → Exp → Type 0
  Fits D (named.int n m v k) = Unit {0}
  Fits D (named.bool n b) = Unit {0}
  Fits D (named.tuple n es) = EachFits D es
  Fits D (named.var n x) = Unit {0}
  Fits D (named.field n e x) = Fits D e
  Fits D (named.part n e i) = Fits D e
  Fits D (named.deref n e) = Fits D e
  Fits D (named.negate n e) = Fits D e
  Fits D (named.invert n e) = Fits D e
  Fits D (named.borrow n m e) = Fits D e
  Fits D (named.binary n o a b) = Fits D a × Fits D b
  Fits D (named.assign n p e) = Fits D p × Fits D e
  Fits D (named.gives n p x d e) = Fits D e
  Fits D (named.update n o p e) = Fits D p × Fits D e
  Fits D (named.call n f es) = EachFits D es
  Fits D (named.hidden_call n es) = EachFits D es
  Fits D (named.next_input n) = Unit {0}
  Fits D (named.variant n i v es) = IsVariant D i v × EachFits D es
  Fits D (named.make n i fs) = IsStruct D i × FieldsFit D fs
  Fits D (named.print n e) = Fits D e
  Fits D (named.block n b) = BodyFits D b
  Fits D (named.if n c b o) = Fits D c × BodyFits D b × ElseFits D o
  Fits D (named.if_let n p e b o) = Fits D e × BodyFits D b × ElseFits D o
  Fits D (named.match n e l) = Fits D e × ArmsFit D l
  Fits D (named.loop n l k b) = (k ≡ false → BodyBreaksNot l b) × BodyFits D b
  Fits D (named.while n l c b) = BreaksNot l c × Fits D c × BodyFits D b
  Fits D (named.while_let n l p e b) = BreaksNot l e × Fits D e × BodyFits D b
  Fits D (named.break n l) = Unit {0}
  Fits D (named.continue n l) = Unit {0}
  Fits D (named.return n o) = ElseFits D o

  pub EachFits : Declarations → Exps → Type 0
  EachFits D named.no_exp = Unit {0}
  EachFits D (named.exp_and e es) = Fits D e × EachFits D es

  pub ElseFits : Declarations → Else → Type 0
  ElseFits D named.absent = Unit {0}
  ElseFits D (named.present e) = Fits D e

  pub FieldsFit : Declarations → Fields → Type 0
  FieldsFit D named.no_field = Unit {0}
  FieldsFit D (named.field_and x e fs) = Fits D e × FieldsFit D fs

  pub ArmsFit : Declarations → Arms → Type 0
  ArmsFit D named.no_arm = Unit {0}
  ArmsFit D (named.arm_and p e l) = Fits D e × ArmsFit D l

  pub BodyFits : Declarations → Body → Type 0
  BodyFits D (named.body n ss o) = StatementsFit D ss × ElseFits D o

  pub StatementFits : Declarations → Statement → Type 0
  StatementFits D (named.declares n p t) = Unit {0}
  StatementFits D (named.lets n p t e) = Fits D e
  StatementFits D (named.evaluates n e b) = Fits D e

  pub StatementsFit : Declarations → Statements → Type 0
  StatementsFit D named.no_statement = Unit {0}
  StatementsFit D (named.statement_and a ss) = StatementFits D a × StatementsFit D ss

abbrev pub FunctionFits : Declarations → Function → Type 0
FunctionFits D f = BodyFits D f.body
