-- Trees with numbers that are one tree by other numbers of nodes, variables, loops and items (Rust Reference, "Expressions", "Patterns",
-- "Statements", "Scopes", "Loop labels"): each form stands where it stood, so its place makes the same of its value, and a variable is known
-- where it was. Where something else stands in the second tree, that is a hole. A variable may be `mut` in one alone, or known in the second
-- alone, and an assignment that gives a variable its type may give none in the second: whether they may is a parameter too.
use Rattle.std.specs.Prelude.{ℕ, Bool, true, List, [], ◌∷◌, Option, Some, None, option_map}
use Rattle.rx_core.specs.declared.types.Kind.{Kind}
use Rattle.rx_core.specs.declared.types.Span.{Span}
use Rattle.rx_tree.specs.declared.tree.BinaryOp.{BinaryOp}
use Rattle.rx_tree.specs.declared.tree.UpdateOp.{UpdateOp}
use Rattle.rx_typed.specs.declared.nodes.Node.{Node}
use Rattle.rx_typed.specs.declared.nodes.Use.{Use}
use Rattle.rx_typed.specs.Named as named
use Rattle.rx_typed.specs.Named.{Written, WrittenTypes, Pattern, Patterns, FieldPatterns, Exp, Exps, Else, Fields, Arms, Body, Statement, Statements, Parameter, Function}
use Rattle.rx_engine_blocks.specs.Renumbering.{Renumbering, node_at}
use Rattle.rx_engine_blocks.specs.DemandsLike.{Is}
use Rattle.rx_engine_typing.specs.Expecting.{expecting}

-- what may stand in the second: for an expression, for a block; whether a return stands for a return
pub record Holes : Type 1 where
  pub expression : Exp → Exp → Type 0
  pub block : Body → Body → Type 0
  pub returns : Type 0
  -- for a use of a variable: whether it may be `mut` so, and known so, in the second
  pub uses : Use → Bool → Bool → Type 0
  -- whether an assignment of the first that gives a variable its type may give none in the second, where its value is this one
  pub given_before : Exp → Exp → Type 0

-- nothing else
abbrev pub no_holes : Holes
no_holes = record { expression = λ e e'. ⊥; block = λ b b'. ⊥; returns = Unit {0}; uses = λ x m k. ⊥; given_before = λ e e'. ⊥ }

-- but for variables that are `mut` in one alone, or known in the second alone, and assignments of these
abbrev pub known_before : Holes
known_before = record { expression = λ e e'. ⊥; block = λ b b'. ⊥; returns = Unit {0}; uses = λ x m k. Unit {0}; given_before = λ e e'. Unit {0} }

module _ (r : Renumbering) where
  abbrev pub use_at : Use → Use
  use_at x = record { number = r.variables x.number; mutable = x.mutable; known = x.known }

  -- `mut` and known so in the second
  abbrev pub use_so : Bool → Bool → Use → Use
  use_so m k x = record { number = r.variables x.number; mutable = m; known = k }

  -- the span may be another
  pub data NodeAt : Node → Node → Type 0 where
    renumbered : {n : Node} {s : Span} → NodeAt n (node_at r n s)

  mutual
    pub data RenumberedType : Written → Written → Type 0 where
      a_kind : {n : Node} {s : Span} {k : Kind} → RenumberedType (named.a_kind n k) (named.a_kind (node_at r n s) k)
      a_bool : {n : Node} {s : Span} → RenumberedType (named.a_bool n) (named.a_bool (node_at r n s))
      a_tuple : {n : Node} {s : Span} {ts ts' : WrittenTypes} → RenumberedTypes ts ts' → RenumberedType (named.a_tuple n ts) (named.a_tuple (node_at r n s) ts')
      a_reference : {n : Node} {s : Span} {m : Bool} {t t' : Written} → RenumberedType t t' → RenumberedType (named.a_reference n m t) (named.a_reference (node_at r n s) m t')
      an_item : {n : Node} {s : Span} {i : ℕ} {ls : Option ℕ} → RenumberedType (named.an_item n i ls) (named.an_item (node_at r n s) (r.items i) ls)

    pub data RenumberedTypes : WrittenTypes → WrittenTypes → Type 0 where
      no_written : RenumberedTypes named.no_written named.no_written
      written_and : {t t' : Written} {ts ts' : WrittenTypes} → RenumberedType t t' → RenumberedTypes ts ts' → RenumberedTypes (named.written_and t ts) (named.written_and t' ts')

  pub data RenumberedAnnotation : Option Written → Option Written → Type 0 where
    no_type : RenumberedAnnotation None None
    a_type : {t t' : Written} → RenumberedType t t' → RenumberedAnnotation (Some t) (Some t')

  mutual
    pub data RenumberedPattern : Pattern → Pattern → Type 0 where
      wild : {n : Node} {s : Span} → RenumberedPattern (named.wild n) (named.wild (node_at r n s))
      bind : {n : Node} {s : Span} {x : ℕ} {m : Bool} → RenumberedPattern (named.bind n x m) (named.bind (node_at r n s) (r.variables x) m)
      whole_number : {n : Node} {s : Span} {g : Bool} {v : ℕ} {k : Option Kind} → RenumberedPattern (named.whole_number n g v k) (named.whole_number (node_at r n s) g v k)
      truth : {n : Node} {s : Span} {b : Bool} → RenumberedPattern (named.truth n b) (named.truth (node_at r n s) b)
      tuple_pattern : {n : Node} {s : Span} {ps ps' : Patterns} → RenumberedPatterns ps ps' → RenumberedPattern (named.tuple_pattern n ps) (named.tuple_pattern (node_at r n s) ps')
      variant_pattern : {n : Node} {s : Span} {i v : ℕ} {ps ps' : Patterns} → RenumberedPatterns ps ps' → RenumberedPattern (named.variant_pattern n i v ps) (named.variant_pattern (node_at r n s) (r.items i) v ps')
      struct_pattern : {n : Node} {s : Span} {i : ℕ} {fs fs' : FieldPatterns} → RenumberedFieldPatterns fs fs' → RenumberedPattern (named.struct_pattern n i fs) (named.struct_pattern (node_at r n s) (r.items i) fs')

    pub data RenumberedPatterns : Patterns → Patterns → Type 0 where
      no_pattern : RenumberedPatterns named.no_pattern named.no_pattern
      pattern_and : {p p' : Pattern} {ps ps' : Patterns} → RenumberedPattern p p' → RenumberedPatterns ps ps' → RenumberedPatterns (named.pattern_and p ps) (named.pattern_and p' ps')

    pub data RenumberedFieldPatterns : FieldPatterns → FieldPatterns → Type 0 where
      no_field_pattern : RenumberedFieldPatterns named.no_field_pattern named.no_field_pattern
      field_pattern_and : {x : List ℕ} {p p' : Pattern} {fs fs' : FieldPatterns} → RenumberedPattern p p' → RenumberedFieldPatterns fs fs' → RenumberedFieldPatterns (named.field_pattern_and x p fs) (named.field_pattern_and x p' fs')

  pub data RenumberedParameters : List Parameter → List Parameter → Type 0 where
    no_parameter : RenumberedParameters [] []
    parameter_and : {x : ℕ} {t t' : Written} {xs xs' : List Parameter} → RenumberedType t t' → RenumberedParameters xs xs'
        → RenumberedParameters (record { variable = x; typ = t } ∷ xs) (record { variable = r.variables x; typ = t' } ∷ xs')

  pub data RenumberedNodes : List Node → List Node → Type 0 where
    no_node : RenumberedNodes [] []
    node_and : {n : Node} {s : Span} {ns ns' : List Node} → RenumberedNodes ns ns' → RenumberedNodes (n ∷ ns) (node_at r n s ∷ ns')

-- with the loops of the second for those of the first
module _ (r : Renumbering) (loops : ℕ → ℕ) (H : Holes) where
  mutual
    pub data RenumberedExp : Exp → Exp → Type 0 where
      hole : {e e' : Exp} → H.expression e e' → RenumberedExp e e'
      int : {n : Node} {s : Span} {m : Bool} {v : ℕ} {k : Option Kind} → RenumberedExp (named.int n m v k) (named.int (node_at r n s) m v k)
      bool : {n : Node} {s : Span} {b : Bool} → RenumberedExp (named.bool n b) (named.bool (node_at r n s) b)
      tuple : {n : Node} {s : Span} {es es' : Exps} → RenumberedExps es es' → RenumberedExp (named.tuple n es) (named.tuple (node_at r n s) es')
      var : {n : Node} {s : Span} {x : Use} → RenumberedExp (named.var n x) (named.var (node_at r n s) (use_at r x))
      -- it is `mut` or known in one alone
      other_var : {n : Node} {s : Span} {x : Use} {m k : Bool} → H.uses x m k → RenumberedExp (named.var n x) (named.var (node_at r n s) (use_so r m k x))
      field : {n : Node} {s : Span} {e e' : Exp} {x : List ℕ} → RenumberedExp e e' → RenumberedExp (named.field n e x) (named.field (node_at r n s) e' x)
      part : {n : Node} {s : Span} {e e' : Exp} {i : ℕ} → RenumberedExp e e' → RenumberedExp (named.part n e i) (named.part (node_at r n s) e' i)
      deref : {n : Node} {s : Span} {e e' : Exp} → RenumberedExp e e' → RenumberedExp (named.deref n e) (named.deref (node_at r n s) e')
      negate : {n : Node} {s : Span} {e e' : Exp} → RenumberedExp e e' → RenumberedExp (named.negate n e) (named.negate (node_at r n s) e')
      invert : {n : Node} {s : Span} {e e' : Exp} → RenumberedExp e e' → RenumberedExp (named.invert n e) (named.invert (node_at r n s) e')
      borrow : {n : Node} {s : Span} {m : Bool} {e e' : Exp} → RenumberedExp e e' → RenumberedExp (named.borrow n m e) (named.borrow (node_at r n s) m e')
      binary : {n : Node} {s : Span} {o : BinaryOp} {a a' b b' : Exp} → RenumberedExp a a' → RenumberedExp b b' → RenumberedExp (named.binary n o a b) (named.binary (node_at r n s) o a' b')
      assign : {n : Node} {s : Span} {p p' e e' : Exp} → RenumberedExp p p' → RenumberedExp e e' → RenumberedExp (named.assign n p e) (named.assign (node_at r n s) p' e')
      -- whether the variable is `mut` isn't looked at
      gives : {n p : Node} {s t : Span} {x : Use} {m : Bool} {d : Option ℕ} {e e' : Exp} → RenumberedExp e e' → RenumberedExp (named.gives n p x d e) (named.gives (node_at r n s) (node_at r p t) (use_so r m x.known x) (option_map r.nodes d) e')
      -- the variable's type is known before, and expected of the value
      assigns : {n p : Node} {s t : Span} {x : Use} {m : Bool} {d : Option ℕ} {e e' : Exp} → H.given_before (named.gives n p x d e) e' → RenumberedExp e e'
          → RenumberedExp (named.gives n p x d e) (named.assign (node_at r n s) (named.var (node_at r p t) (use_so r m true x)) (expecting e'))
      update : {n : Node} {s : Span} {o : UpdateOp} {p p' e e' : Exp} → RenumberedExp p p' → RenumberedExp e e' → RenumberedExp (named.update n o p e) (named.update (node_at r n s) o p' e')
      call : {n : Node} {s : Span} {g : ℕ} {es es' : Exps} → RenumberedExps es es' → RenumberedExp (named.call n g es) (named.call (node_at r n s) (r.items g) es')
      hidden_call : {n : Node} {s : Span} {es es' : Exps} → RenumberedExps es es' → RenumberedExp (named.hidden_call n es) (named.hidden_call (node_at r n s) es')
      next_input : {n : Node} {s : Span} → RenumberedExp (named.next_input n) (named.next_input (node_at r n s))
      variant : {n : Node} {s : Span} {i v : ℕ} {es es' : Exps} → RenumberedExps es es' → RenumberedExp (named.variant n i v es) (named.variant (node_at r n s) (r.items i) v es')
      make : {n : Node} {s : Span} {i : ℕ} {fs fs' : Fields} → RenumberedFields fs fs' → RenumberedExp (named.make n i fs) (named.make (node_at r n s) (r.items i) fs')
      print : {n : Node} {s : Span} {e e' : Exp} → RenumberedExp e e' → RenumberedExp (named.print n e) (named.print (node_at r n s) e')
      block : {n : Node} {s : Span} {b b' : Body} → RenumberedBody b b' → RenumberedExp (named.block n b) (named.block (node_at r n s) b')
      if : {n : Node} {s : Span} {c c' : Exp} {b b' : Body} {o o' : Else} → RenumberedExp c c' → RenumberedBody b b' → RenumberedElse o o' → RenumberedExp (named.if n c b o) (named.if (node_at r n s) c' b' o')
      if_let : {n : Node} {s : Span} {p p' : Pattern} {e e' : Exp} {b b' : Body} {o o' : Else} → RenumberedPattern r p p' → RenumberedExp e e' → RenumberedBody b b' → RenumberedElse o o'
          → RenumberedExp (named.if_let n p e b o) (named.if_let (node_at r n s) p' e' b' o')
      match : {n : Node} {s : Span} {e e' : Exp} {l l' : Arms} → RenumberedExp e e' → RenumberedArms l l' → RenumberedExp (named.match n e l) (named.match (node_at r n s) e' l')
      loop : {n : Node} {s : Span} {l : ℕ} {k : Bool} {b b' : Body} → RenumberedBody b b' → RenumberedExp (named.loop n l k b) (named.loop (node_at r n s) (loops l) k b')
      while : {n : Node} {s : Span} {l : ℕ} {c c' : Exp} {b b' : Body} → RenumberedExp c c' → RenumberedBody b b' → RenumberedExp (named.while n l c b) (named.while (node_at r n s) (loops l) c' b')
      while_let : {n : Node} {s : Span} {l : ℕ} {p p' : Pattern} {e e' : Exp} {b b' : Body} → RenumberedPattern r p p' → RenumberedExp e e' → RenumberedBody b b'
          → RenumberedExp (named.while_let n l p e b) (named.while_let (node_at r n s) (loops l) p' e' b')
      break : {n : Node} {s : Span} {l : ℕ} → RenumberedExp (named.break n l) (named.break (node_at r n s) (loops l))
      continue : {n : Node} {s : Span} {l : ℕ} → RenumberedExp (named.continue n l) (named.continue (node_at r n s) (loops l))
      return : {n : Node} {s : Span} {o o' : Else} → H.returns → RenumberedElse o o' → RenumberedExp (named.return n o) (named.return (node_at r n s) o')

    pub data RenumberedExps : Exps → Exps → Type 0 where
      no_exp : RenumberedExps named.no_exp named.no_exp
      exp_and : {e e' : Exp} {es es' : Exps} → RenumberedExp e e' → RenumberedExps es es' → RenumberedExps (named.exp_and e es) (named.exp_and e' es')

    pub data RenumberedElse : Else → Else → Type 0 where
      absent : RenumberedElse named.absent named.absent
      present : {e e' : Exp} → RenumberedExp e e' → RenumberedElse (named.present e) (named.present e')

    pub data RenumberedFields : Fields → Fields → Type 0 where
      no_field : RenumberedFields named.no_field named.no_field
      field_and : {x : List ℕ} {e e' : Exp} {fs fs' : Fields} → RenumberedExp e e' → RenumberedFields fs fs' → RenumberedFields (named.field_and x e fs) (named.field_and x e' fs')

    pub data RenumberedArms : Arms → Arms → Type 0 where
      no_arm : RenumberedArms named.no_arm named.no_arm
      arm_and : {p p' : Pattern} {e e' : Exp} {l l' : Arms} → RenumberedPattern r p p' → RenumberedExp e e' → RenumberedArms l l' → RenumberedArms (named.arm_and p e l) (named.arm_and p' e' l')

    pub data RenumberedBody : Body → Body → Type 0 where
      other_block : {b b' : Body} → H.block b b' → RenumberedBody b b'
      body : {n : Node} {s : Span} {ss ss' : Statements} {o o' : Else} → RenumberedStatements ss ss' → RenumberedElse o o' → RenumberedBody (named.body n ss o) (named.body (node_at r n s) ss' o')

    pub data RenumberedStatement : Statement → Statement → Type 0 where
      declares : {n : Node} {s : Span} {p p' : Pattern} {t t' : Option Written} → RenumberedPattern r p p' → RenumberedAnnotation r t t' → RenumberedStatement (named.declares n p t) (named.declares (node_at r n s) p' t')
      lets : {n : Node} {s : Span} {p p' : Pattern} {t t' : Option Written} {e e' : Exp} → RenumberedPattern r p p' → RenumberedAnnotation r t t' → RenumberedExp e e' → RenumberedStatement (named.lets n p t e) (named.lets (node_at r n s) p' t' e')
      evaluates : {n : Node} {s : Span} {e e' : Exp} {c : Bool} → RenumberedExp e e' → RenumberedStatement (named.evaluates n e c) (named.evaluates (node_at r n s) e' c)

    pub data RenumberedStatements : Statements → Statements → Type 0 where
      no_statement : RenumberedStatements named.no_statement named.no_statement
      statement_and : {a a' : Statement} {ss ss' : Statements} → RenumberedStatement a a' → RenumberedStatements ss ss' → RenumberedStatements (named.statement_and a ss) (named.statement_and a' ss')

  pub record RenumberedFunction (f f' : Function) : Type 0 where
    pub item : Is (r.items f.item) f'.item
    pub params : RenumberedParameters r f.params f'.params
    pub result : RenumberedAnnotation r f.result f'.result
    pub body : RenumberedBody f.body f'.body
    pub never_given : RenumberedNodes r f.never_given f'.never_given
