-- What holds of the types of nodes, expectations and variables, and of those that a temporary may get besides, holds of the types of all
-- temporaries.
use Rattle.std.proofs.Common.{◌≡◌, ℕ, zero, suc, ◌==◌, Bool, true, false, ◌&&◌, not, if◌then◌else◌, List, [], ◌∷◌, ◌++◌, map, drop, Option, Some, None}
use Rattle.rx_core.specs.declared.types.Kind.{Kind}
use Rattle.rx_tree.specs.declared.tree.BinaryOp.{BinaryOp}
use Rattle.rx_tree.specs.Lists.{Every}
use Rattle.rx_typed.specs.declared.nodes.Node.{Node}
use Rattle.rx_typed.specs.declared.nodes.Site.{Site}
use Rattle.rx_typed.specs.Types.{Typ, integer, boolean, unit_shape}
use Rattle.rx_typed.specs.Named as named
use Rattle.rx_typed.specs.Named.{Pattern, Patterns, FieldPatterns, Exp, Exps, Else, Fields, Arms, Body, Statement, Statements, Parameter, Function, written_node, whole_binding, node_of, never, body_never, else_never, all_never}
use Rattle.rx_typed.specs.TypedNumbers.{type_nodes, optional_nodes}
use Rattle.rx_typed.specs.Elaborated.{Assigned}
use Rattle.rx_typed.specs.Tree.{Temporary}
use Rattle.rx_repair.specs.TemporaryTypes as types
use Rattle.rx_repair.specs.TemporaryTypes.{Entry, silent, at_site, own_or, typ_in}
use Rattle.rx_repair.proofs.Patterns.{every_both}

module _ (P : Typ → Type 0) (T : Assigned) (X : ℕ → Typ) (unit : P unit_shape) (truth : P boolean) (number : P (integer Kind.I32)) (node : (n : ℕ) → P (T.typ n)) (expected : (n : ℕ) → P (T.expected n)) (variable : (x : ℕ) → P (X x)) where
  abbrev All : Entry → Type 0
  All e = (k : ℕ) → P (e.typ k)

  entry_all : (n : ℕ) (t u : Typ) → P t → P u → All (types.entry n t u)
  entry_all n t u h g zero = h
  entry_all n t u h g (suc k) = g

  silent_all : (n : ℕ) → All (silent n)
  silent_all n = entry_all n unit_shape unit_shape unit unit

  silents_all : (ns : List ℕ) → Every All (map silent ns)
  silents_all [] = tt
  silents_all (n ∷ ns) = (silent_all n, silents_all ns)

  joined : (a b : List Entry) → Every All a → Every All b → Every All (a ++ b)
  joined a b h g = every_both All a b h g

  own_all : (v : Bool) (t w : Typ) → P t → P w → P (own_or v t w)
  own_all true t w h g = g
  own_all false t w h g = h

  site_all : (s : Site) (t u : Typ) → P t → P u → P (at_site s t u)
  site_all Site.Value t u h g = h
  site_all Site.Place t u h g = h
  site_all Site.Scrutinee t u h g = h
  site_all Site.Expects t u h g = g
  site_all Site.Initialises t u h g = g
  site_all Site.Reborrows t u h g = h

  given_all : (n : Node) (v : Bool) (w : Typ) → P w → P (types.given T X n v w)
  given_all n v w h = site_all n.site (own_or v (T.typ n.number) w) (T.expected n.number) (own_all v (T.typ n.number) w (node n.number) h) (expected n.number)

  value_all : (n : Node) (v : Bool) (w : Typ) → P w → All (types.value_entry T X n v w)
  value_all n v w h = entry_all n.number (types.given T X n v w) (T.typ n.number) (given_all n v w h) (node n.number)

  beside_all : (o : BinaryOp) (n : Node) (e : Exp) → P (types.wanted_beside T X o n e)
  beside_all BinaryOp.And n e = truth
  beside_all BinaryOp.Or n e = truth
  beside_all BinaryOp.Eq n e = own_all (never e) (T.typ (node_of e).number) (integer Kind.I32) (node (node_of e).number) number
  beside_all BinaryOp.Ne n e = own_all (never e) (T.typ (node_of e).number) (integer Kind.I32) (node (node_of e).number) number
  beside_all BinaryOp.Lt n e = own_all (never e) (T.typ (node_of e).number) (integer Kind.I32) (node (node_of e).number) number
  beside_all BinaryOp.Le n e = own_all (never e) (T.typ (node_of e).number) (integer Kind.I32) (node (node_of e).number) number
  beside_all BinaryOp.Gt n e = own_all (never e) (T.typ (node_of e).number) (integer Kind.I32) (node (node_of e).number) number
  beside_all BinaryOp.Ge n e = own_all (never e) (T.typ (node_of e).number) (integer Kind.I32) (node (node_of e).number) number
  beside_all BinaryOp.Add n e = node n.number
  beside_all BinaryOp.Sub n e = node n.number
  beside_all BinaryOp.Mul n e = node n.number
  beside_all BinaryOp.Div n e = node n.number
  beside_all BinaryOp.Rem n e = node n.number

  by_all : (o : Option ℕ) → P (types.wanted_by T X o)
  by_all None = unit
  by_all (Some x) = variable x

  mutual
    pattern_all : (p : Pattern) → Every All (types.pattern_entries T X p)
    pattern_all (named.wild n) = (silent_all n.number, tt)
    pattern_all (named.bind n x m) = (entry_all n.number (X x) (X x) (variable x) (variable x), tt)
    pattern_all (named.whole_number n g v k) = (silent_all n.number, tt)
    pattern_all (named.truth n b) = (silent_all n.number, tt)
    pattern_all (named.tuple_pattern n ps) = (silent_all n.number, patterns_all ps)
    pattern_all (named.variant_pattern n i v ps) = (silent_all n.number, patterns_all ps)
    pattern_all (named.struct_pattern n i fs) = (silent_all n.number, field_patterns_all fs)

    patterns_all : (ps : Patterns) → Every All (types.patterns_entries T X ps)
    patterns_all named.no_pattern = tt
    patterns_all (named.pattern_and p ps) = joined _ _ (pattern_all p) (patterns_all ps)

    field_patterns_all : (fs : FieldPatterns) → Every All (types.field_patterns_entries T X fs)
    field_patterns_all named.no_field_pattern = tt
    field_patterns_all (named.field_pattern_and x p fs) = joined _ _ (pattern_all p) (field_patterns_all fs)

  mutual
    exp_all : (w : Typ) → P w → (e : Exp) → Every All (types.exp_entries T X w e)
    exp_all w h (named.int n m v k) = (value_all n false w h, tt)
    exp_all w h (named.bool n b) = (value_all n false w h, tt)
    exp_all w h (named.tuple n es) = (value_all n false w h, exps_all es)
    exp_all w h (named.var n x) = (value_all n false w h, tt)
    exp_all w h (named.field n e x) = (value_all n false w h, exp_all unit_shape unit e)
    exp_all w h (named.part n e i) = (value_all n false w h, exp_all unit_shape unit e)
    exp_all w h (named.deref n e) = (value_all n false w h, exp_all unit_shape unit e)
    exp_all w h (named.negate n e) = (value_all n false w h, exp_all (T.typ n.number) (node n.number) e)
    exp_all w h (named.invert n e) = (value_all n false w h, exp_all boolean truth e)
    exp_all w h (named.borrow n m e) = (value_all n false w h, exp_all unit_shape unit e)
    exp_all w h (named.binary n o a b) = (value_all n false w h, joined _ _ (exp_all _ (beside_all o n b) a) (exp_all _ (beside_all o n a) b))
    exp_all w h (named.assign n p e) = (value_all n false w h, joined _ _ (exp_all unit_shape unit p) (exp_all unit_shape unit e))
    exp_all w h (named.gives n p x d e) = (value_all n false w h, (silent_all p.number, exp_all (X x.number) (variable x.number) e))
    exp_all w h (named.update n o p e) =
        (entry_all n.number (types.given T X n false w) (T.typ (node_of p).number) (given_all n false w h) (node (node_of p).number), joined _ _ (exp_all unit_shape unit p) (exp_all (T.typ (node_of p).number) (node (node_of p).number) e))
    exp_all w h (named.call n f es) = (value_all n false w h, exps_all es)
    exp_all w h (named.hidden_call n es) = (value_all n false w h, exps_all es)
    exp_all w h (named.next_input n) = (value_all n false w h, tt)
    exp_all w h (named.variant n i v es) = (value_all n false w h, exps_all es)
    exp_all w h (named.make n i fs) = (value_all n false w h, fields_all fs)
    exp_all w h (named.print n e) = (value_all n false w h, exp_all boolean truth e)
    exp_all w h (named.block n b) = (value_all n (body_never b) w h, body_all _ (given_all n (body_never b) w h) b)
    exp_all w h (named.if n c b o) = let v = body_never b && else_never o in let g = given_all n v w h in
        (value_all n v w h, joined _ _ (exp_all boolean truth c) (joined _ _ (body_all _ g b) (else_all _ g o)))
    exp_all w h (named.if_let n p e b o) = let v = body_never b && else_never o in let g = given_all n v w h in
        (value_all n v w h, joined _ _ (pattern_all p) (joined _ _ (exp_all unit_shape unit e) (joined _ _ (body_all _ g b) (else_all _ g o))))
    exp_all w h (named.match n e l) = (value_all n (all_never l) w h, joined _ _ (exp_all unit_shape unit e) (arms_all _ (given_all n (all_never l) w h) l))
    exp_all w h (named.loop n l k b) = (value_all n (not k) w h, body_all unit_shape unit b)
    exp_all w h (named.while n l c b) = (value_all n false w h, joined _ _ (exp_all boolean truth c) (body_all unit_shape unit b))
    exp_all w h (named.while_let n l p e b) = (value_all n false w h, joined _ _ (pattern_all p) (joined _ _ (exp_all unit_shape unit e) (body_all unit_shape unit b)))
    exp_all w h (named.break n l) = (value_all n true w h, tt)
    exp_all w h (named.continue n l) = (value_all n true w h, tt)
    exp_all w h (named.return n o) = (silent_all n.number, else_all unit_shape unit o)

    exps_all : (es : Exps) → Every All (types.exps_entries T X es)
    exps_all named.no_exp = tt
    exps_all (named.exp_and e es) = joined _ _ (exp_all unit_shape unit e) (exps_all es)

    else_all : (w : Typ) → P w → (o : Else) → Every All (types.else_entries T X w o)
    else_all w h named.absent = tt
    else_all w h (named.present e) = exp_all w h e

    fields_all : (fs : Fields) → Every All (types.fields_entries T X fs)
    fields_all named.no_field = tt
    fields_all (named.field_and x e fs) = joined _ _ (exp_all unit_shape unit e) (fields_all fs)

    arms_all : (w : Typ) → P w → (l : Arms) → Every All (types.arms_entries T X w l)
    arms_all w h named.no_arm = tt
    arms_all w h (named.arm_and p e l) = joined _ _ (pattern_all p) (joined _ _ (exp_all w h e) (arms_all w h l))

    body_all : (w : Typ) → P w → (b : Body) → Every All (types.body_entries T X w b)
    body_all w h (named.body n ss o) = let v = body_never (named.body n ss o) in (value_all n v w h, joined _ _ (statements_all ss) (else_all _ (given_all n v w h) o))

    statement_all : (a : Statement) → Every All (types.statement_entries T X a)
    statement_all (named.declares n p t) = (silent_all n.number, joined _ _ (pattern_all p) (silents_all (optional_nodes t)))
    statement_all (named.lets n p t e) = (silent_all n.number, joined _ _ (pattern_all p) (joined _ _ (silents_all (optional_nodes t)) (exp_all _ (by_all (whole_binding p)) e)))
    statement_all (named.evaluates n e s) = (silent_all n.number, exp_all unit_shape unit e)

    statements_all : (ss : Statements) → Every All (types.statements_entries T X ss)
    statements_all named.no_statement = tt
    statements_all (named.statement_and a ss) = joined _ _ (statement_all a) (statements_all ss)

  parameters_all : (xs : List Parameter) → Every All (types.parameters_entries T X xs)
  parameters_all [] = tt
  parameters_all (x ∷ xs) = joined (types.entry (written_node x.typ).number (X x.variable) unit_shape ∷ map silent (drop 1 (type_nodes x.typ))) (types.parameters_entries T X xs)
      (entry_all (written_node x.typ).number (X x.variable) unit_shape (variable x.variable) unit, silents_all (drop 1 (type_nodes x.typ))) (parameters_all xs)

  looked : (es : List Entry) (t : Temporary) → Every All es → P (typ_in es t)
  looked [] t h = unit
  looked (e ∷ es) t h = by (e.node == t.node) (looked es t h.1)
    where
      by : (b : Bool) → P (typ_in es t) → P (if b then e.typ t.which else typ_in es t)
      by true g = h.0 t.which
      by false g = g

  pub temporaries_all : (f : Function) (t : Temporary) → P (types.temporary_types T X f t)
  temporaries_all f t = looked (types.entries T X f) t (silent_all 0, joined _ _ (parameters_all f.params) (joined _ _ (silents_all (optional_nodes f.result)) (body_all unit_shape unit f.body)))
