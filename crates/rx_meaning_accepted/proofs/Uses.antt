-- Of the uses of variables in a tree with numbers: what is marked as a use of a variable that is declared `mut` is one (Rust Reference,
-- "Mutability"). So told alone, and along with what holds of the items and variables that are named.
use Rattle.std.proofs.Common.{◌≡◌, ℕ, true, sym}
use Rattle.std.proofs.lemmas.Bool.{true≢false}
use Rattle.rx_typed.specs.declared.nodes.Use.{Use}
use Rattle.rx_typed.specs.Named as named
use Rattle.rx_typed.specs.Naming.{initialiser_site}
use Rattle.rx_typed.specs.Named.{Pattern, Exp, Exps, Else, Fields, Arms, Body, Statement, Statements, node_of, root}
use Rattle.rx_hoist_naming.proofs.Claims.{Claims, OfAnnotation, OfPattern, IsPlaced, OfExp, OfExps, OfElse, OfFields, OfArms, OfBody, OfStatement, OfStatements, OfParameters, OfFunction}

abbrev pub Fits : (ℕ → Type 0) → Use → Type 0
Fits M u = u.mutable ≡ true → M u.number

abbrev mutual
  pub UsesExp : (ℕ → Type 0) → Exp → Type 0
  UsesExp M (named.int n m v k) = Unit {0}
  UsesExp M (named.bool n b) = Unit {0}
  UsesExp M (named.tuple n es) = UsesExps M es
  UsesExp M (named.var n u) = Fits M u
  UsesExp M (named.field n e x) = UsesExp M e
  UsesExp M (named.part n e i) = UsesExp M e
  UsesExp M (named.deref n e) = UsesExp M e
  UsesExp M (named.negate n e) = UsesExp M e
  UsesExp M (named.invert n e) = UsesExp M e
  UsesExp M (named.borrow n m e) = UsesExp M e
  UsesExp M (named.binary n o a b) = UsesExp M a × UsesExp M b
  UsesExp M (named.assign n p e) = UsesExp M p × UsesExp M e
  UsesExp M (named.gives n p x d e) = UsesExp M e
  UsesExp M (named.update n o p e) = UsesExp M p × UsesExp M e
  UsesExp M (named.call n f es) = UsesExps M es
  UsesExp M (named.hidden_call n es) = UsesExps M es
  UsesExp M (named.next_input n) = Unit {0}
  UsesExp M (named.variant n i v es) = UsesExps M es
  UsesExp M (named.make n i fs) = UsesFields M fs
  UsesExp M (named.print n e) = UsesExp M e
  UsesExp M (named.block n b) = UsesBody M b
  UsesExp M (named.if n c b o) = UsesExp M c × UsesBody M b × UsesElse M o
  UsesExp M (named.if_let n p e b o) = UsesExp M e × UsesBody M b × UsesElse M o
  UsesExp M (named.match n e l) = UsesExp M e × UsesArms M l
  UsesExp M (named.loop n l k b) = UsesBody M b
  UsesExp M (named.while n l c b) = UsesExp M c × UsesBody M b
  UsesExp M (named.while_let n l p e b) = UsesExp M e × UsesBody M b
  UsesExp M (named.break n l) = Unit {0}
  UsesExp M (named.continue n l) = Unit {0}
  UsesExp M (named.return n o) = UsesElse M o

  pub UsesExps : (ℕ → Type 0) → Exps → Type 0
  UsesExps M named.no_exp = Unit {0}
  UsesExps M (named.exp_and e es) = UsesExp M e × UsesExps M es

  pub UsesElse : (ℕ → Type 0) → Else → Type 0
  UsesElse M named.absent = Unit {0}
  UsesElse M (named.present e) = UsesExp M e

  pub UsesFields : (ℕ → Type 0) → Fields → Type 0
  UsesFields M named.no_field = Unit {0}
  UsesFields M (named.field_and x e fs) = UsesExp M e × UsesFields M fs

  pub UsesArms : (ℕ → Type 0) → Arms → Type 0
  UsesArms M named.no_arm = Unit {0}
  UsesArms M (named.arm_and p e l) = UsesExp M e × UsesArms M l

  pub UsesBody : (ℕ → Type 0) → Body → Type 0
  UsesBody M (named.body n ss o) = UsesStatements M ss × UsesElse M o

  pub UsesStatement : (ℕ → Type 0) → Statement → Type 0
  UsesStatement M (named.declares n p t) = Unit {0}
  UsesStatement M (named.lets n p t e) = UsesExp M e
  UsesStatement M (named.evaluates n e b) = UsesExp M e

  pub UsesStatements : (ℕ → Type 0) → Statements → Type 0
  UsesStatements M named.no_statement = Unit {0}
  UsesStatements M (named.statement_and a ss) = UsesStatement M a × UsesStatements M ss

abbrev mutual
  pub UsedExp : Claims → (ℕ → Type 0) → Exp → Type 0
  UsedExp C M (named.int n m v k) = Unit {0}
  UsedExp C M (named.bool n b) = Unit {0}
  UsedExp C M (named.tuple n es) = UsedExps C M es
  UsedExp C M (named.var n u) = C.variable u.number × Fits M u
  UsedExp C M (named.field n e x) = UsedExp C M e × IsPlaced e
  UsedExp C M (named.part n e i) = UsedExp C M e × IsPlaced e
  UsedExp C M (named.deref n e) = UsedExp C M e × IsPlaced e
  UsedExp C M (named.negate n e) = UsedExp C M e
  UsedExp C M (named.invert n e) = UsedExp C M e
  UsedExp C M (named.borrow n m e) = UsedExp C M e × IsPlaced e
  UsedExp C M (named.binary n o a b) = UsedExp C M a × UsedExp C M b
  UsedExp C M (named.assign n p e) = (UsedExp C M p × IsPlaced p) × UsedExp C M e
  UsedExp C M (named.gives n p x d e) = C.variable x.number × UsedExp C M e
  UsedExp C M (named.update n o p e) = (UsedExp C M p × IsPlaced p) × UsedExp C M e
  UsedExp C M (named.call n f es) = UsedExps C M es
  UsedExp C M (named.hidden_call n es) = UsedExps C M es
  UsedExp C M (named.next_input n) = Unit {0}
  UsedExp C M (named.variant n i v es) = C.item i × UsedExps C M es
  UsedExp C M (named.make n i fs) = C.item i × UsedFields C M fs
  UsedExp C M (named.print n e) = UsedExp C M e
  UsedExp C M (named.block n b) = UsedBody C M b
  UsedExp C M (named.if n c b o) = UsedExp C M c × UsedBody C M b × UsedElse C M o
  UsedExp C M (named.if_let n p e b o) = OfPattern C p × UsedExp C M e × UsedBody C M b × UsedElse C M o
  UsedExp C M (named.match n e l) = UsedExp C M e × UsedArms C M l
  UsedExp C M (named.loop n l k b) = UsedBody C M b
  UsedExp C M (named.while n l c b) = UsedExp C M c × UsedBody C M b
  UsedExp C M (named.while_let n l p e b) = OfPattern C p × UsedExp C M e × UsedBody C M b
  UsedExp C M (named.break n l) = Unit {0}
  UsedExp C M (named.continue n l) = Unit {0}
  UsedExp C M (named.return n o) = UsedElse C M o

  pub UsedExps : Claims → (ℕ → Type 0) → Exps → Type 0
  UsedExps C M named.no_exp = Unit {0}
  UsedExps C M (named.exp_and e es) = UsedExp C M e × UsedExps C M es

  pub UsedElse : Claims → (ℕ → Type 0) → Else → Type 0
  UsedElse C M named.absent = Unit {0}
  UsedElse C M (named.present e) = UsedExp C M e

  pub UsedFields : Claims → (ℕ → Type 0) → Fields → Type 0
  UsedFields C M named.no_field = Unit {0}
  UsedFields C M (named.field_and x e fs) = UsedExp C M e × UsedFields C M fs

  pub UsedArms : Claims → (ℕ → Type 0) → Arms → Type 0
  UsedArms C M named.no_arm = Unit {0}
  UsedArms C M (named.arm_and p e l) = OfPattern C p × UsedExp C M e × UsedArms C M l

  pub UsedBody : Claims → (ℕ → Type 0) → Body → Type 0
  UsedBody C M (named.body n ss o) = UsedStatements C M ss × UsedElse C M o

  pub UsedStatement : Claims → (ℕ → Type 0) → Statement → Type 0
  UsedStatement C M (named.declares n p t) = OfPattern C p × OfAnnotation C t
  UsedStatement C M (named.lets n p t e) = OfPattern C p × OfAnnotation C t × UsedExp C M e × ((node_of e).site ≡ initialiser_site t)
  UsedStatement C M (named.evaluates n e b) = UsedExp C M e

  pub UsedStatements : Claims → (ℕ → Type 0) → Statements → Type 0
  UsedStatements C M named.no_statement = Unit {0}
  UsedStatements C M (named.statement_and a ss) = UsedStatement C M a × UsedStatements C M ss

pub record UsedFunction (C : Claims) (M : ℕ → Type 0) (F : named.Function) : Type 0 where
  pub params : OfParameters C F.params
  pub body : UsedBody C M F.body

-- ---- both told together

module _ (C : Claims) (M : ℕ → Type 0) where
  mutual
    pub both_exp : (e : Exp) → OfExp C e → UsesExp M e → UsedExp C M e
    both_exp (named.int n m v k) h g = tt
    both_exp (named.bool n b) h g = tt
    both_exp (named.tuple n es) h g = both_exps es h g
    both_exp (named.var n u) h g = (h, g)
    both_exp (named.field n e x) h g = (both_exp e h.0 g, h.1)
    both_exp (named.part n e i) h g = (both_exp e h.0 g, h.1)
    both_exp (named.deref n e) h g = (both_exp e h.0 g, h.1)
    both_exp (named.negate n e) h g = both_exp e h g
    both_exp (named.invert n e) h g = both_exp e h g
    both_exp (named.borrow n m e) h g = (both_exp e h.0 g, h.1)
    both_exp (named.binary n o a b) h g = (both_exp a h.0 g.0, both_exp b h.1 g.1)
    both_exp (named.assign n p e) h g = ((both_exp p h.0.0 g.0, h.0.1), both_exp e h.1 g.1)
    both_exp (named.gives n p x d e) h g = (h.0, both_exp e h.1 g)
    both_exp (named.update n o p e) h g = ((both_exp p h.0.0 g.0, h.0.1), both_exp e h.1 g.1)
    both_exp (named.call n f es) h g = both_exps es h g
    both_exp (named.hidden_call n es) h g = both_exps es h g
    both_exp (named.next_input n) h g = tt
    both_exp (named.variant n i v es) h g = (h.0, both_exps es h.1 g)
    both_exp (named.make n i fs) h g = (h.0, both_fields fs h.1 g)
    both_exp (named.print n e) h g = both_exp e h g
    both_exp (named.block n b) h g = both_body b h g
    both_exp (named.if n c b o) h g = (both_exp c h.0 g.0, both_body b h.1 g.1, both_else o h.2 g.2)
    both_exp (named.if_let n p e b o) h g = (h.0, both_exp e h.1 g.0, both_body b h.2 g.1, both_else o h.3 g.2)
    both_exp (named.match n e l) h g = (both_exp e h.0 g.0, both_arms l h.1 g.1)
    both_exp (named.loop n l k b) h g = both_body b h g
    both_exp (named.while n l c b) h g = (both_exp c h.0 g.0, both_body b h.1 g.1)
    both_exp (named.while_let n l p e b) h g = (h.0, both_exp e h.1 g.0, both_body b h.2 g.1)
    both_exp (named.break n l) h g = tt
    both_exp (named.continue n l) h g = tt
    both_exp (named.return n o) h g = both_else o h g

    pub both_exps : (e : Exps) → OfExps C e → UsesExps M e → UsedExps C M e
    both_exps named.no_exp h g = tt
    both_exps (named.exp_and e es) h g = (both_exp e h.0 g.0, both_exps es h.1 g.1)

    pub both_else : (e : Else) → OfElse C e → UsesElse M e → UsedElse C M e
    both_else named.absent h g = tt
    both_else (named.present e) h g = both_exp e h g

    pub both_fields : (e : Fields) → OfFields C e → UsesFields M e → UsedFields C M e
    both_fields named.no_field h g = tt
    both_fields (named.field_and x e fs) h g = (both_exp e h.0 g.0, both_fields fs h.1 g.1)

    pub both_arms : (e : Arms) → OfArms C e → UsesArms M e → UsedArms C M e
    both_arms named.no_arm h g = tt
    both_arms (named.arm_and p e l) h g = (h.0, both_exp e h.1 g.0, both_arms l h.2 g.1)

    pub both_body : (e : Body) → OfBody C e → UsesBody M e → UsedBody C M e
    both_body (named.body n ss o) h g = (both_statements ss h.0 g.0, both_else o h.1 g.1)

    pub both_statement : (e : Statement) → OfStatement C e → UsesStatement M e → UsedStatement C M e
    both_statement (named.declares n p t) h g = (h.0, h.1)
    both_statement (named.lets n p t e) h g = (h.0, h.1, both_exp e h.2 g, h.3)
    both_statement (named.evaluates n e b) h g = both_exp e h g

    pub both_statements : (e : Statements) → OfStatements C e → UsesStatements M e → UsedStatements C M e
    both_statements named.no_statement h g = tt
    both_statements (named.statement_and a ss) h g = (both_statement a h.0 g.0, both_statements ss h.1 g.1)

  pub both_function : (F : named.Function) → OfFunction C F → UsesBody M F.body → UsedFunction C M F
  both_function F h g = record { params = h.params; body = both_body F.body h.body g }

  -- the variable of a place; what is no place names none
  pub root_fits : (e : Exp) → UsedExp C M e → Fits M (root e)
  root_fits (named.var n u) h = h.1
  root_fits (named.field n e x) h = root_fits e h.0
  root_fits (named.part n e i) h = root_fits e h.0
  root_fits (named.deref n e) h = root_fits e h.0
  root_fits _ h = λ q. absurd (true≢false (sym q))
