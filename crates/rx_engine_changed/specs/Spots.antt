-- How a tree with numbers is numbered from one spot of a text to another (Rust Reference, "Statements", "Expressions", "Coercion sites"): nodes take their
-- numbers in order, each expression stands at its site, patterns declare variables in order, and a use of a variable is as that is declared there.
use Rattle.std.specs.Prelude.{◌≡◌, ℕ, suc, Bool, true, false, ◌&&◌, ◌-◌, List, [], ◌∷◌, ◌++◌, get_or, slice_set, Option, Some, None}
use Rattle.rx_typed.specs.declared.nodes.Node.{Node}
use Rattle.rx_typed.specs.declared.nodes.Site.{Site}
use Rattle.rx_typed.specs.declared.nodes.Use.{Use}
use Rattle.rx_typed.specs.declared.nodes.Stage.{Stage}
use Rattle.rx_typed.specs.declared.nodes.Declaration.{Declaration}
use Rattle.rx_typed.specs.Named as named
use Rattle.rx_typed.specs.Named.{Written, WrittenTypes, Pattern, Patterns, FieldPatterns, Exp, Exps, Else, Fields, Arms, Body, Statement, Statements, never, pattern_node, whole_binding}
use Rattle.rx_typed.specs.Naming.{Cursor, has_no_type, initialiser_site, known_among, not_declared, passed_on, use_of, waiting}

-- the next node's number, the next variable's, and the variables that were declared so far, by number
pub record Spot : Type 0 where
  pub number : ℕ
  pub declared : ℕ
  pub variables : List Declaration

abbrev pub spot : Cursor → Spot
spot c = record { number = c.number; declared = c.declared; variables = c.variables }

-- behind a node
abbrev pub after : Spot → Spot
after p = record { number = suc p.number; declared = p.declared; variables = p.variables }

abbrev pub declared_at : Spot → ℕ → Declaration
declared_at p x = get_or p.variables x not_declared

abbrev pub with_stage_at : ℕ → Stage → Spot → Spot
with_stage_at x s p = record { number = p.number; declared = p.declared; variables = slice_set p.variables x (record (declared_at p x) { stage = s }) }

abbrev pub with_variable : Bool → Spot → Spot
with_variable m p = record { number = p.number; declared = suc p.declared; variables = p.variables ++ record { mutable = m; stage = Stage.Given } ∷ [] }

-- variables from a number to another are known
abbrev pub known_from : ℕ → ℕ → Spot → Spot
known_from i j p = record { number = p.number; declared = p.declared; variables = known_among i (j - i) p.variables }

-- the one that is a whole pattern waits for its type
abbrev pub waits_for_at : Node → Option ℕ → Spot → Spot
waits_for_at n None p = p
waits_for_at n (Some x) p = with_stage_at x (Stage.Waits n.number n.span) p

abbrev pub waits_where : Bool → Pattern → Spot → Spot
waits_where true x p = waits_for_at (pattern_node x) (whole_binding x) p
waits_where false x p = p

abbrev pub IsAt : Node → Site → Spot → Type 0
IsAt n t p = (n.number ≡ p.number) × (n.site ≡ t)

-- a node alone
abbrev pub OneAt : Node → Site → Spot → Spot → Type 0
OneAt n t p q = IsAt n t p × (q ≡ after p)

-- a use is as the variable is declared there
abbrev pub IsUse : Use → Spot → Type 0
IsUse x p = x ≡ use_of x.number (declared_at p x.number)

-- a whole variable that is assigned doesn't wait there
abbrev pub WaitsNot : Exp → Spot → Type 0
WaitsNot (named.var n x) p = waiting x.number (declared_at p x.number).stage ≡ None
WaitsNot _ p = Unit {0}

-- behind the value that it is given: it is known from here on, where it waited still
abbrev pub GivenThere : Option (ℕ × ℕ) → ℕ → Option ℕ → Spot → Spot → Type 0
GivenThere None x d p q = (d ≡ None) × (q ≡ p)
GivenThere (Some w) x d p q = (d ≡ Some w.1) × (q ≡ with_stage_at x Stage.Known p)

-- the body of an `if` without `else` is no branch
abbrev pub branch_at : Site → Else → Site
branch_at t named.absent = Site.Value
branch_at t (named.present e) = passed_on t

abbrev mutual
  pub NumberedType : Spot → Written → Spot → Type 0
  NumberedType p (named.a_kind n k) q = OneAt n Site.Value p q
  NumberedType p (named.a_bool n) q = OneAt n Site.Value p q
  NumberedType p (named.a_tuple n ts) q = IsAt n Site.Value p × NumberedTypes (after p) ts q
  NumberedType p (named.a_reference n m t) q = IsAt n Site.Value p × NumberedType (after p) t q
  NumberedType p (named.an_item n i ls) q = OneAt n Site.Value p q

  pub NumberedTypes : Spot → WrittenTypes → Spot → Type 0
  NumberedTypes p named.no_written q = q ≡ p
  NumberedTypes p (named.written_and t ts) q = (r : Spot) × NumberedType p t r × NumberedTypes r ts q

abbrev pub NumberedOptionalType : Spot → Option Written → Spot → Type 0
NumberedOptionalType p None q = q ≡ p
NumberedOptionalType p (Some t) q = NumberedType p t q

abbrev mutual
  pub NumberedPattern : Spot → Pattern → Spot → Type 0
  NumberedPattern p (named.wild n) q = OneAt n Site.Value p q
  NumberedPattern p (named.bind n x m) q = IsAt n Site.Value p × (x ≡ p.declared) × (q ≡ with_variable m (after p))
  NumberedPattern p (named.whole_number n g v k) q = OneAt n Site.Value p q
  NumberedPattern p (named.truth n b) q = OneAt n Site.Value p q
  NumberedPattern p (named.tuple_pattern n ps) q = IsAt n Site.Value p × NumberedPatterns (after p) ps q
  NumberedPattern p (named.variant_pattern n i v ps) q = IsAt n Site.Value p × NumberedPatterns (after p) ps q
  NumberedPattern p (named.struct_pattern n i fs) q = IsAt n Site.Value p × NumberedFieldPatterns (after p) fs q

  pub NumberedPatterns : Spot → Patterns → Spot → Type 0
  NumberedPatterns p named.no_pattern q = q ≡ p
  NumberedPatterns p (named.pattern_and x xs) q = (r : Spot) × NumberedPattern p x r × NumberedPatterns r xs q

  pub NumberedFieldPatterns : Spot → FieldPatterns → Spot → Type 0
  NumberedFieldPatterns p named.no_field_pattern q = q ≡ p
  NumberedFieldPatterns p (named.field_pattern_and y x xs) q = (r : Spot) × NumberedPattern p x r × NumberedFieldPatterns r xs q

-- at a site
abbrev mutual
  pub NumberedExp : Spot → Site → Exp → Spot → Type 0
  NumberedExp p t (named.int n m v k) q = OneAt n t p q
  NumberedExp p t (named.bool n b) q = OneAt n t p q
  NumberedExp p t (named.tuple n es) q = IsAt n t p × NumberedExps (after p) Site.Value es q
  NumberedExp p t (named.var n x) q = IsAt n t p × IsUse x p × (q ≡ after p)
  NumberedExp p t (named.field n e x) q = IsAt n t p × NumberedExp (after p) Site.Place e q
  NumberedExp p t (named.part n e i) q = IsAt n t p × NumberedExp (after p) Site.Place e q
  NumberedExp p t (named.deref n e) q = IsAt n t p × NumberedExp (after p) Site.Place e q
  NumberedExp p t (named.negate n e) q = IsAt n t p × NumberedExp (after p) Site.Value e q
  NumberedExp p t (named.invert n e) q = IsAt n t p × NumberedExp (after p) Site.Value e q
  NumberedExp p t (named.borrow n m e) q = IsAt n t p × NumberedExp (after p) Site.Place e q
  NumberedExp p t (named.binary n o a b) q = IsAt n t p × (r : Spot) × NumberedExp (after p) Site.Value a r × NumberedExp r Site.Value b q
  NumberedExp p t (named.assign n x e) q = IsAt n t p × (r : Spot) × NumberedExp (after p) Site.Place x r × WaitsNot x r × NumberedExp r Site.Expects e q
  NumberedExp p t (named.gives n k x d e) q = IsAt n t p × IsAt k Site.Place (after p) × ((w : ℕ × ℕ) × (waiting x.number (declared_at (after p) x.number).stage ≡ Some w))
      × (r : Spot) × NumberedExp (after (after p)) Site.Reborrows e r × IsUse x r × GivenThere (waiting x.number (declared_at r x.number).stage) x.number d r q
  NumberedExp p t (named.update n o x e) q = IsAt n t p × (r : Spot) × NumberedExp (after p) Site.Place x r × NumberedExp r Site.Value e q
  NumberedExp p t (named.call n f es) q = IsAt n t p × NumberedExps (after p) Site.Expects es q
  NumberedExp p t (named.hidden_call n es) q = IsAt n t p × NumberedExps (after p) Site.Value es q
  NumberedExp p t (named.next_input n) q = OneAt n t p q
  NumberedExp p t (named.variant n i v es) q = IsAt n t p × NumberedExps (after p) Site.Expects es q
  NumberedExp p t (named.make n i fs) q = IsAt n t p × NumberedFields (after p) fs q
  NumberedExp p t (named.print n e) q = IsAt n t p × NumberedExp (after p) Site.Value e q
  NumberedExp p t (named.block n b) q = IsAt n t p × NumberedBody (after p) (passed_on t) b q
  NumberedExp p t (named.if n c b o) q = IsAt n t p × (r : Spot) × NumberedExp (after p) Site.Value c r × (s : Spot) × NumberedBody r (branch_at t o) b s × NumberedElse s (passed_on t) o q
  -- variables of the pattern are known in the body
  NumberedExp p t (named.if_let n x e b o) q = IsAt n t p × (r : Spot) × NumberedPattern (after p) x r × (s : Spot) × NumberedExp r Site.Scrutinee e s
      × (u : Spot) × NumberedBody (known_from p.declared r.declared s) (branch_at t o) b u × NumberedElse u (passed_on t) o q
  NumberedExp p t (named.match n e l) q = IsAt n t p × (r : Spot) × NumberedExp (after p) Site.Scrutinee e r × NumberedArms r (passed_on t) l q
  NumberedExp p t (named.loop n l k b) q = IsAt n t p × NumberedBody (after p) Site.Value b q
  NumberedExp p t (named.while n l c b) q = IsAt n t p × (r : Spot) × NumberedExp (after p) Site.Value c r × NumberedBody r Site.Value b q
  NumberedExp p t (named.while_let n l x e b) q = IsAt n t p × (r : Spot) × NumberedPattern (after p) x r × (s : Spot) × NumberedExp r Site.Scrutinee e s
      × NumberedBody (known_from p.declared r.declared s) Site.Value b q
  NumberedExp p t (named.break n l) q = OneAt n t p q
  NumberedExp p t (named.continue n l) q = OneAt n t p q
  NumberedExp p t (named.return n o) q = IsAt n t p × NumberedElse (after p) Site.Expects o q

  pub NumberedExps : Spot → Site → Exps → Spot → Type 0
  NumberedExps p t named.no_exp q = q ≡ p
  NumberedExps p t (named.exp_and e es) q = (r : Spot) × NumberedExp p t e r × NumberedExps r t es q

  pub NumberedElse : Spot → Site → Else → Spot → Type 0
  NumberedElse p t named.absent q = q ≡ p
  NumberedElse p t (named.present e) q = NumberedExp p t e q

  pub NumberedFields : Spot → Fields → Spot → Type 0
  NumberedFields p named.no_field q = q ≡ p
  NumberedFields p (named.field_and x e fs) q = (r : Spot) × NumberedExp p Site.Expects e r × NumberedFields r fs q

  pub NumberedArms : Spot → Site → Arms → Spot → Type 0
  NumberedArms p t named.no_arm q = q ≡ p
  NumberedArms p t (named.arm_and x e l) q = (r : Spot) × NumberedPattern p x r × (s : Spot) × NumberedExp (known_from p.declared r.declared r) t e s × NumberedArms s t l q

  pub NumberedBody : Spot → Site → Body → Spot → Type 0
  NumberedBody p t (named.body n ss o) q = IsAt n t p × (r : Spot) × NumberedStatements (after p) ss r × NumberedElse r t o q

  pub NumberedStatement : Spot → Statement → Spot → Type 0
  NumberedStatement p (named.declares n x y) q = IsAt n Site.Value p × (r : Spot) × NumberedPattern (after p) x r × (s : Spot) × NumberedOptionalType r y s
      × (q ≡ waits_where (has_no_type y) x (known_from p.declared r.declared s))
  NumberedStatement p (named.lets n x y e) q = IsAt n Site.Value p × (r : Spot) × NumberedPattern (after p) x r × (s : Spot) × NumberedOptionalType r y s
      × (u : Spot) × NumberedExp s (initialiser_site y) e u × (q ≡ waits_where (has_no_type y && never e) x (known_from p.declared r.declared u))
  NumberedStatement p (named.evaluates n e b) q = IsAt n Site.Value p × NumberedExp (after p) Site.Value e q

  pub NumberedStatements : Spot → Statements → Spot → Type 0
  NumberedStatements p named.no_statement q = q ≡ p
  NumberedStatements p (named.statement_and a ss) q = (r : Spot) × NumberedStatement p a r × NumberedStatements r ss q
