-- Trees with numbers in which names stand where they mean something (Rust Reference, "Scopes", "Loop expressions", "Place expressions and
-- value expressions"): each variable in the scope of its pattern, each jump in its loop, and each part of a place where a place is wanted.
use Rattle.std.specs.Prelude.{◌≡◌, ℕ, List, [], ◌∷◌}
use Rattle.rx_typed.specs.declared.nodes.Site.{Site}
use Rattle.rx_typed.specs.Named as named
use Rattle.rx_typed.specs.Named.{Pattern, Exp, Exps, Else, Fields, Arms, Body, Statement, Statements, Parameter, Function, node_of}
use Rattle.rx_typed.specs.Elaborated.{variables}
use Rattle.rx_typeck_solver.specs.Valid.{IsIn}

-- variables in scope, or the loops round a part, the newest first
abbrev pub Around : Type 0
Around = List ℕ

abbrev pub IsNotIn : ℕ → Around → Type 0
IsNotIn x xs = IsIn x xs → ⊥

-- these enter the scope in order
abbrev pub entered : Around → List ℕ → Around
entered xs [] = xs
entered xs (y ∷ ys) = entered (y ∷ xs) ys

-- each of them is new there
abbrev pub AllNew : Around → List ℕ → Type 0
AllNew xs [] = Unit {0}
AllNew xs (y ∷ ys) = IsNotIn y xs × AllNew (y ∷ xs) ys

-- behind a statement, and behind several
abbrev pub behind : Around → Statement → Around
behind xs (named.declares n p t) = entered xs (variables p)
behind xs (named.lets n p t e) = entered xs (variables p)
behind xs (named.evaluates n e b) = xs

abbrev pub behind_all : Around → Statements → Around
behind_all xs named.no_statement = xs
behind_all xs (named.statement_and a ss) = behind_all (behind xs a) ss

abbrev pub IsPlaced : Exp → Type 0
IsPlaced e = (node_of e).site ≡ Site.Place

-- with the variables in scope and the loops round it
abbrev mutual
  pub ScopedExp : Around → Around → Exp → Type 0
  ScopedExp xs ls (named.int n m v k) = Unit {0}
  ScopedExp xs ls (named.bool n b) = Unit {0}
  ScopedExp xs ls (named.tuple n es) = ScopedExps xs ls es
  ScopedExp xs ls (named.var n u) = IsIn u.number xs
  ScopedExp xs ls (named.field n e x) = ScopedExp xs ls e × IsPlaced e
  ScopedExp xs ls (named.part n e i) = ScopedExp xs ls e × IsPlaced e
  ScopedExp xs ls (named.deref n e) = ScopedExp xs ls e × IsPlaced e
  ScopedExp xs ls (named.negate n e) = ScopedExp xs ls e
  ScopedExp xs ls (named.invert n e) = ScopedExp xs ls e
  ScopedExp xs ls (named.borrow n m e) = ScopedExp xs ls e × IsPlaced e
  ScopedExp xs ls (named.binary n o a b) = ScopedExp xs ls a × ScopedExp xs ls b
  ScopedExp xs ls (named.assign n p e) = (ScopedExp xs ls p × IsPlaced p) × ScopedExp xs ls e
  ScopedExp xs ls (named.gives n p u d e) = IsIn u.number xs × ScopedExp xs ls e
  ScopedExp xs ls (named.update n o p e) = (ScopedExp xs ls p × IsPlaced p) × ScopedExp xs ls e
  ScopedExp xs ls (named.call n f es) = ScopedExps xs ls es
  ScopedExp xs ls (named.hidden_call n es) = ScopedExps xs ls es
  ScopedExp xs ls (named.next_input n) = Unit {0}
  ScopedExp xs ls (named.variant n i v es) = ScopedExps xs ls es
  ScopedExp xs ls (named.make n i fs) = ScopedFields xs ls fs
  ScopedExp xs ls (named.print n e) = ScopedExp xs ls e
  ScopedExp xs ls (named.block n b) = ScopedBody xs ls b
  ScopedExp xs ls (named.if n c b o) = ScopedExp xs ls c × ScopedBody xs ls b × ScopedElse xs ls o
  -- the variables are in scope in the body alone
  ScopedExp xs ls (named.if_let n p e b o) = AllNew xs (variables p) × ScopedExp xs ls e × ScopedBody (entered xs (variables p)) ls b × ScopedElse xs ls o
  ScopedExp xs ls (named.match n e l) = ScopedExp xs ls e × ScopedArms xs ls l
  ScopedExp xs ls (named.loop n l k b) = IsNotIn l ls × ScopedBody xs (l ∷ ls) b
  ScopedExp xs ls (named.while n l c b) = IsNotIn l ls × ScopedExp xs (l ∷ ls) c × ScopedBody xs (l ∷ ls) b
  ScopedExp xs ls (named.while_let n l p e b) = IsNotIn l ls × AllNew xs (variables p) × ScopedExp xs (l ∷ ls) e × ScopedBody (entered xs (variables p)) (l ∷ ls) b
  ScopedExp xs ls (named.break n l) = IsIn l ls
  ScopedExp xs ls (named.continue n l) = IsIn l ls
  ScopedExp xs ls (named.return n o) = ScopedElse xs ls o

  pub ScopedExps : Around → Around → Exps → Type 0
  ScopedExps xs ls named.no_exp = Unit {0}
  ScopedExps xs ls (named.exp_and e es) = ScopedExp xs ls e × ScopedExps xs ls es

  pub ScopedElse : Around → Around → Else → Type 0
  ScopedElse xs ls named.absent = Unit {0}
  ScopedElse xs ls (named.present e) = ScopedExp xs ls e

  pub ScopedFields : Around → Around → Fields → Type 0
  ScopedFields xs ls named.no_field = Unit {0}
  ScopedFields xs ls (named.field_and x e fs) = ScopedExp xs ls e × ScopedFields xs ls fs

  pub ScopedArms : Around → Around → Arms → Type 0
  ScopedArms xs ls named.no_arm = Unit {0}
  ScopedArms xs ls (named.arm_and p e l) = AllNew xs (variables p) × ScopedExp (entered xs (variables p)) ls e × ScopedArms xs ls l

  pub ScopedBody : Around → Around → Body → Type 0
  ScopedBody xs ls (named.body n ss o) = ScopedStatements xs ls ss × ScopedElse (behind_all xs ss) ls o

  pub ScopedStatement : Around → Around → Statement → Type 0
  ScopedStatement xs ls (named.declares n p t) = AllNew xs (variables p)
  ScopedStatement xs ls (named.lets n p t e) = AllNew xs (variables p) × ScopedExp xs ls e
  ScopedStatement xs ls (named.evaluates n e b) = ScopedExp xs ls e

  pub ScopedStatements : Around → Around → Statements → Type 0
  ScopedStatements xs ls named.no_statement = Unit {0}
  ScopedStatements xs ls (named.statement_and a ss) = ScopedStatement xs ls a × ScopedStatements (behind xs a) ls ss

abbrev pub parameter_variables : List Parameter → List ℕ
parameter_variables [] = []
parameter_variables (p ∷ ps) = p.variable ∷ parameter_variables ps

pub record ScopedFunction (f : Function) : Type 0 where
  pub params : AllNew [] (parameter_variables f.params)
  pub body : ScopedBody (entered [] (parameter_variables f.params)) [] f.body
