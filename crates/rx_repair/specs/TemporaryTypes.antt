-- The types of the temporaries of a function, by its tree with numbers: the value of a node has the type that its place expects, at a
-- coercion site (Rust Reference, "Coercion sites"), and its own elsewhere; what is Never has the type that is wanted there ("Never type").
use Rattle.std.specs.Prelude.{ℕ, zero, suc, ◌==◌, Bool, true, false, ◌&&◌, not, if◌then◌else◌, List, [], ◌∷◌, ◌++◌, map, drop, Option, Some, None}
use Rattle.rx_core.specs.declared.types.Kind.{Kind}
use Rattle.rx_tree.specs.declared.tree.BinaryOp.{BinaryOp}
use Rattle.rx_typed.specs.declared.nodes.Node.{Node}
use Rattle.rx_typed.specs.declared.nodes.Site.{Site}
use Rattle.rx_typed.specs.Types.{Typ, integer, boolean, unit_shape}
use Rattle.rx_typed.specs.Named as named
use Rattle.rx_typed.specs.Named.{Pattern, Patterns, FieldPatterns, Exp, Exps, Else, Fields, Arms, Body, Statement, Statements, Parameter, Function, written_node, whole_binding, node_of, body_node, never, body_never, else_never, all_never}
use Rattle.rx_typed.specs.TypedNumbers.{type_nodes, optional_nodes}
use Rattle.rx_typed.specs.Elaborated.{Assigned}
use Rattle.rx_typed.specs.Tree.{Temporary}

-- ---- the types of the temporaries of one node

pub record Entry : Type 0 where
  pub node : ℕ
  pub typ : ℕ → Typ

-- of its value, and of the others
abbrev pub value_and_others : Typ → Typ → ℕ → Typ
value_and_others t u zero = t
value_and_others t u (suc k) = u

abbrev pub entry : ℕ → Typ → Typ → Entry
entry n t u = record { node = n; typ = value_and_others t u }

-- one that has no temporary
abbrev pub silent : ℕ → Entry
silent n = entry n unit_shape unit_shape

-- ---- values where they stand

-- the own type of a value, and the one that its place expects
abbrev pub at_site : Site → Typ → Typ → Typ
at_site Site.Expects own expected = expected
at_site Site.Initialises own expected = expected
at_site _ own expected = own

-- of what is Never it is the one that is wanted
abbrev pub own_or : Bool → Typ → Typ → Typ
own_or true own wanted = wanted
own_or false own wanted = own

module _ (T : Assigned) (variables : ℕ → Typ) where
  -- a node, whether it is Never, the type that is wanted there
  abbrev pub given : Node → Bool → Typ → Typ
  given n v w = at_site n.site (own_or v (T.typ n.number) w) (T.expected n.number)

  -- a shared value was of the node's own type before
  abbrev pub value_entry : Node → Bool → Typ → Entry
  value_entry n v w = entry n.number (given n v w) (T.typ n.number)

  -- what is wanted of an operand: by the operator, the node and the other operand
  abbrev pub wanted_beside : BinaryOp → Node → Exp → Typ
  wanted_beside BinaryOp.And n e = boolean
  wanted_beside BinaryOp.Or n e = boolean
  wanted_beside BinaryOp.Eq n e = own_or (never e) (T.typ (node_of e).number) (integer Kind.I32)
  wanted_beside BinaryOp.Ne n e = own_or (never e) (T.typ (node_of e).number) (integer Kind.I32)
  wanted_beside BinaryOp.Lt n e = own_or (never e) (T.typ (node_of e).number) (integer Kind.I32)
  wanted_beside BinaryOp.Le n e = own_or (never e) (T.typ (node_of e).number) (integer Kind.I32)
  wanted_beside BinaryOp.Gt n e = own_or (never e) (T.typ (node_of e).number) (integer Kind.I32)
  wanted_beside BinaryOp.Ge n e = own_or (never e) (T.typ (node_of e).number) (integer Kind.I32)
  wanted_beside _ n e = T.typ n.number

  -- of an initialiser: the type of the variable that is the whole pattern
  abbrev pub wanted_by : Option ℕ → Typ
  wanted_by None = unit_shape
  wanted_by (Some x) = variables x

  -- ---- each node of a tree, in the order of the text

  abbrev mutual
    pub pattern_entries : Pattern → List Entry
    pattern_entries (named.wild n) = silent n.number ∷ []
    -- what is taken for a variable is of its type
    pattern_entries (named.bind n x m) = entry n.number (variables x) (variables x) ∷ []
    pattern_entries (named.whole_number n g v k) = silent n.number ∷ []
    pattern_entries (named.truth n b) = silent n.number ∷ []
    pattern_entries (named.tuple_pattern n ps) = silent n.number ∷ patterns_entries ps
    pattern_entries (named.variant_pattern n i v ps) = silent n.number ∷ patterns_entries ps
    pattern_entries (named.struct_pattern n i fs) = silent n.number ∷ field_patterns_entries fs

    pub patterns_entries : Patterns → List Entry
    patterns_entries named.no_pattern = []
    patterns_entries (named.pattern_and p ps) = pattern_entries p ++ patterns_entries ps

    pub field_patterns_entries : FieldPatterns → List Entry
    field_patterns_entries named.no_field_pattern = []
    field_patterns_entries (named.field_pattern_and x p fs) = pattern_entries p ++ field_patterns_entries fs

  -- each expression with the type that is wanted of it where it is Never
  abbrev mutual
    pub exp_entries : Typ → Exp → List Entry
    exp_entries w (named.int n m v k) = value_entry n false w ∷ []
    exp_entries w (named.bool n b) = value_entry n false w ∷ []
    exp_entries w (named.tuple n es) = value_entry n false w ∷ exps_entries es
    exp_entries w (named.var n x) = value_entry n false w ∷ []
    exp_entries w (named.field n e x) = value_entry n false w ∷ exp_entries unit_shape e
    exp_entries w (named.part n e i) = value_entry n false w ∷ exp_entries unit_shape e
    exp_entries w (named.deref n e) = value_entry n false w ∷ exp_entries unit_shape e
    exp_entries w (named.negate n e) = value_entry n false w ∷ exp_entries (T.typ n.number) e
    exp_entries w (named.invert n e) = value_entry n false w ∷ exp_entries boolean e
    exp_entries w (named.borrow n m e) = value_entry n false w ∷ exp_entries unit_shape e
    exp_entries w (named.binary n o a b) = value_entry n false w ∷ (exp_entries (wanted_beside o n b) a ++ exp_entries (wanted_beside o n a) b)
    exp_entries w (named.assign n p e) = value_entry n false w ∷ (exp_entries unit_shape p ++ exp_entries unit_shape e)
    exp_entries w (named.gives n p x d e) = value_entry n false w ∷ (silent p.number ∷ exp_entries (variables x.number) e)
    -- what was read and made is of the place's type
    exp_entries w (named.update n o p e) =
        entry n.number (given n false w) (T.typ (node_of p).number) ∷ (exp_entries unit_shape p ++ exp_entries (T.typ (node_of p).number) e)
    exp_entries w (named.call n f es) = value_entry n false w ∷ exps_entries es
    exp_entries w (named.hidden_call n es) = value_entry n false w ∷ exps_entries es
    exp_entries w (named.next_input n) = value_entry n false w ∷ []
    exp_entries w (named.variant n i v es) = value_entry n false w ∷ exps_entries es
    exp_entries w (named.make n i fs) = value_entry n false w ∷ fields_entries fs
    exp_entries w (named.print n e) = value_entry n false w ∷ exp_entries boolean e
    exp_entries w (named.block n b) = value_entry n (body_never b) w ∷ body_entries (given n (body_never b) w) b
    exp_entries w (named.if n c b o) = let v = body_never b && else_never o in
        value_entry n v w ∷ (exp_entries boolean c ++ (body_entries (given n v w) b ++ else_entries (given n v w) o))
    exp_entries w (named.if_let n p e b o) = let v = body_never b && else_never o in
        value_entry n v w ∷ (pattern_entries p ++ (exp_entries unit_shape e ++ (body_entries (given n v w) b ++ else_entries (given n v w) o)))
    exp_entries w (named.match n e l) = value_entry n (all_never l) w ∷ (exp_entries unit_shape e ++ arms_entries (given n (all_never l) w) l)
    exp_entries w (named.loop n l k b) = value_entry n (not k) w ∷ body_entries unit_shape b
    exp_entries w (named.while n l c b) = value_entry n false w ∷ (exp_entries boolean c ++ body_entries unit_shape b)
    exp_entries w (named.while_let n l p e b) = value_entry n false w ∷ (pattern_entries p ++ (exp_entries unit_shape e ++ body_entries unit_shape b))
    exp_entries w (named.break n l) = value_entry n true w ∷ []
    exp_entries w (named.continue n l) = value_entry n true w ∷ []
    -- of a `return` without a value, that of the unit that it gives
    exp_entries w (named.return n o) = silent n.number ∷ else_entries unit_shape o

    pub exps_entries : Exps → List Entry
    exps_entries named.no_exp = []
    exps_entries (named.exp_and e es) = exp_entries unit_shape e ++ exps_entries es

    pub else_entries : Typ → Else → List Entry
    else_entries w named.absent = []
    else_entries w (named.present e) = exp_entries w e

    pub fields_entries : Fields → List Entry
    fields_entries named.no_field = []
    fields_entries (named.field_and x e fs) = exp_entries unit_shape e ++ fields_entries fs

    pub arms_entries : Typ → Arms → List Entry
    arms_entries w named.no_arm = []
    arms_entries w (named.arm_and p e l) = pattern_entries p ++ (exp_entries w e ++ arms_entries w l)

    pub body_entries : Typ → Body → List Entry
    body_entries w (named.body n ss o) = let v = body_never (named.body n ss o) in
        value_entry n v w ∷ (statements_entries ss ++ else_entries (given n v w) o)

    pub statement_entries : Statement → List Entry
    statement_entries (named.declares n p t) = silent n.number ∷ (pattern_entries p ++ map silent (optional_nodes t))
    statement_entries (named.lets n p t e) = silent n.number ∷ (pattern_entries p ++ (map silent (optional_nodes t) ++ exp_entries (wanted_by (whole_binding p)) e))
    statement_entries (named.evaluates n e s) = silent n.number ∷ exp_entries unit_shape e

    pub statements_entries : Statements → List Entry
    statements_entries named.no_statement = []
    statements_entries (named.statement_and a ss) = statement_entries a ++ statements_entries ss

  -- an argument is of the parameter's type
  abbrev pub parameters_entries : List Parameter → List Entry
  parameters_entries [] = []
  parameters_entries (x ∷ xs) =
      (entry (written_node x.typ).number (variables x.variable) unit_shape ∷ map silent (drop 1 (type_nodes x.typ))) ++ parameters_entries xs

  abbrev pub entries : Function → List Entry
  entries f = silent 0 ∷ (parameters_entries f.params ++ (map silent (optional_nodes f.result) ++ body_entries unit_shape f.body))

-- ---- the types of a function's temporaries

abbrev pub typ_in : List Entry → Temporary → Typ
typ_in [] t = unit_shape
typ_in (e ∷ es) t = if e.node == t.node then e.typ t.which else typ_in es t

-- by the assignment of types to its nodes, and the types of its variables
abbrev pub temporary_types : Assigned → (ℕ → Typ) → Function → Temporary → Typ
temporary_types T variables f t = typ_in (entries T variables f) t
