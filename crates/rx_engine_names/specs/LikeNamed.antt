-- Trees with numbers that are alike (Rust Reference, "Expressions", "Patterns", "Statements"): the second is the first with other
-- numbers of nodes, variables, loops and items. The spans of nodes that correspond are equal. The relation goes through all forms;
-- where something else stands in the second, that is a hole: a parameter says what may stand there. What a place makes of its
-- value, what is known of a variable where it is used, and whether an assignment gives a type, may differ.
use Rattle.std.specs.Prelude.{◌≡◌, ℕ, Bool, true, List, [], ◌∷◌, Option, Some, None}
use Rattle.rx_core.specs.declared.types.Span.{Span}
use Rattle.rx_core.specs.declared.types.Kind.{Kind}
use Rattle.rx_tree.specs.declared.tree.BinaryOp.{BinaryOp}
use Rattle.rx_tree.specs.declared.tree.UpdateOp.{UpdateOp}
use Rattle.rx_typed.specs.declared.nodes.Node.{Node}
use Rattle.rx_typed.specs.declared.nodes.Use.{Use}
use Rattle.rx_typed.specs.Named as named
use Rattle.rx_typed.specs.Named.{Written, WrittenTypes, Pattern, Patterns, FieldPatterns, Exp, Exps, Else, Fields, Arms, Body, Statement, Statements}
use Rattle.rx_engine_names.specs.Renaming.{Renaming}

-- what may stand in the second
pub record Holes : Type 1 where
  -- for an expression of which no part is copied: a variable, a jump, a literal
  pub expression : Renaming → Exp → Exp → Type 0
  -- for a return with this node, whose operand has become this one
  pub returned : Renaming → Node → Else → Exp → Type 0
  -- for the type of a `let` whose pattern has this span
  pub annotation : Renaming → Span → Option Written → Option Written → Type 0
  -- for a block
  pub block : Renaming → Body → Body → Type 0
  -- which blocks may be copied, by their spans
  pub copied : Span → Type 0

-- nothing else
abbrev pub no_holes : Holes
no_holes = record { expression = λ R e e'. ⊥; returned = λ R n o e'. ⊥; annotation = λ R s t t'. ⊥; block = λ R b b'. ⊥; copied = λ s. Unit {0} }

abbrev pub SameSpan : Node → Node → Type 0
SameSpan n n' = n.span ≡ n'.span

mutual
  pub data LikeWritten (R : Renaming) : Written → Written → Type 0 where
    like_kind : {n n' : Node} {k : Kind} → SameSpan n n' → LikeWritten R (named.a_kind n k) (named.a_kind n' k)
    like_bool_type : {n n' : Node} → SameSpan n n' → LikeWritten R (named.a_bool n) (named.a_bool n')
    like_tuple_type : {n n' : Node} {ts ts' : WrittenTypes} → SameSpan n n' → LikeWrittens R ts ts' → LikeWritten R (named.a_tuple n ts) (named.a_tuple n' ts')
    like_reference : {n n' : Node} {m : Bool} {t t' : Written} → SameSpan n n' → LikeWritten R t t' → LikeWritten R (named.a_reference n m t) (named.a_reference n' m t')
    like_item : {n n' : Node} {i i' : ℕ} {ls : Option ℕ} → SameSpan n n' → R.item i ≡ i' → LikeWritten R (named.an_item n i ls) (named.an_item n' i' ls)

  pub data LikeWrittens (R : Renaming) : WrittenTypes → WrittenTypes → Type 0 where
    like_no_type : LikeWrittens R named.no_written named.no_written
    like_more_types : {t t' : Written} {ts ts' : WrittenTypes} → LikeWritten R t t' → LikeWrittens R ts ts' → LikeWrittens R (named.written_and t ts) (named.written_and t' ts')

pub data LikeOptionalWritten (R : Renaming) : Option Written → Option Written → Type 0 where
  like_no_annotation : LikeOptionalWritten R None None
  like_annotation : {t t' : Written} → LikeWritten R t t' → LikeOptionalWritten R (Some t) (Some t')

mutual
  pub data LikePattern (R : Renaming) : Pattern → Pattern → Type 0 where
    like_wild : {n n' : Node} → SameSpan n n' → LikePattern R (named.wild n) (named.wild n')
    like_bind : {n n' : Node} {x x' : ℕ} {m : Bool} → SameSpan n n' → R.variable x x' ≡ true → LikePattern R (named.bind n x m) (named.bind n' x' m)
    like_whole_number : {n n' : Node} {g : Bool} {v : ℕ} {k : Option Kind} → SameSpan n n' → LikePattern R (named.whole_number n g v k) (named.whole_number n' g v k)
    like_truth : {n n' : Node} {b : Bool} → SameSpan n n' → LikePattern R (named.truth n b) (named.truth n' b)
    like_tuple_pattern : {n n' : Node} {ps ps' : Patterns} → SameSpan n n' → LikePatterns R ps ps' → LikePattern R (named.tuple_pattern n ps) (named.tuple_pattern n' ps')
    like_variant_pattern : {n n' : Node} {i i' v : ℕ} {ps ps' : Patterns} → SameSpan n n' → R.item i ≡ i' → LikePatterns R ps ps' → LikePattern R (named.variant_pattern n i v ps) (named.variant_pattern n' i' v ps')
    like_struct_pattern : {n n' : Node} {i i' : ℕ} {fs fs' : FieldPatterns} → SameSpan n n' → R.item i ≡ i' → LikeFieldPatterns R fs fs' → LikePattern R (named.struct_pattern n i fs) (named.struct_pattern n' i' fs')

  pub data LikePatterns (R : Renaming) : Patterns → Patterns → Type 0 where
    like_no_pattern : LikePatterns R named.no_pattern named.no_pattern
    like_more_patterns : {p p' : Pattern} {ps ps' : Patterns} → LikePattern R p p' → LikePatterns R ps ps' → LikePatterns R (named.pattern_and p ps) (named.pattern_and p' ps')

  pub data LikeFieldPatterns (R : Renaming) : FieldPatterns → FieldPatterns → Type 0 where
    like_no_field_pattern : LikeFieldPatterns R named.no_field_pattern named.no_field_pattern
    like_more_field_patterns : {x : List ℕ} {p p' : Pattern} {fs fs' : FieldPatterns} → LikePattern R p p' → LikeFieldPatterns R fs fs' → LikeFieldPatterns R (named.field_pattern_and x p fs) (named.field_pattern_and x p' fs')

-- the type of a `let` whose pattern has this span
pub data LikeAnnotation (H : Holes) (R : Renaming) (s : Span) : Option Written → Option Written → Type 0 where
  like_typed : {t t' : Option Written} → LikeOptionalWritten R t t' → LikeAnnotation H R s t t'
  like_other_type : {t t' : Option Written} → H.annotation R s t t' → LikeAnnotation H R s t t'

-- the left side of an assignment that gives its variable a type, which is a whole variable: its node and its variable
pub record IsLeftSide (a : Exp) (p : Node) (x : Use) : Type 0 where
  pub node : named.node_of a ≡ p
  pub variable : (named.root a).number ≡ x.number
  pub whole : named.is_variable a ≡ true

mutual
  pub data LikeExp (H : Holes) (R : Renaming) : Exp → Exp → Type 0 where
    -- something else stands there
    like_hole : {e e' : Exp} → H.expression R e e' → LikeExp H R e e'
    like_other_return : {n : Node} {o o' : Else} {e' : Exp} → LikeElse H R o o' → H.returned R n o' e' → LikeExp H R (named.return n o) e'
    like_int : {n n' : Node} {m m' : Bool} {v : ℕ} {k : Option Kind} → SameSpan n n' → LikeExp H R (named.int n m v k) (named.int n' m' v k)
    like_bool : {n n' : Node} {b : Bool} → SameSpan n n' → LikeExp H R (named.bool n b) (named.bool n' b)
    like_tuple : {n n' : Node} {es es' : Exps} → SameSpan n n' → LikeExps H R es es' → LikeExp H R (named.tuple n es) (named.tuple n' es')
    like_var : {n n' : Node} {u u' : Use} → SameSpan n n' → R.variable u.number u'.number ≡ true → LikeExp H R (named.var n u) (named.var n' u')
    like_field : {n n' : Node} {e e' : Exp} {x : List ℕ} → SameSpan n n' → LikeExp H R e e' → LikeExp H R (named.field n e x) (named.field n' e' x)
    like_part : {n n' : Node} {e e' : Exp} {i : ℕ} → SameSpan n n' → LikeExp H R e e' → LikeExp H R (named.part n e i) (named.part n' e' i)
    like_deref : {n n' : Node} {e e' : Exp} → SameSpan n n' → LikeExp H R e e' → LikeExp H R (named.deref n e) (named.deref n' e')
    like_negate : {n n' : Node} {e e' : Exp} → SameSpan n n' → LikeExp H R e e' → LikeExp H R (named.negate n e) (named.negate n' e')
    like_invert : {n n' : Node} {e e' : Exp} → SameSpan n n' → LikeExp H R e e' → LikeExp H R (named.invert n e) (named.invert n' e')
    like_borrow : {n n' : Node} {m : Bool} {e e' : Exp} → SameSpan n n' → LikeExp H R e e' → LikeExp H R (named.borrow n m e) (named.borrow n' m e')
    like_binary : {n n' : Node} {o : BinaryOp} {a a' b b' : Exp} → SameSpan n n' → LikeExp H R a a' → LikeExp H R b b' → LikeExp H R (named.binary n o a b) (named.binary n' o a' b')
    like_assign : {n n' : Node} {a a' b b' : Exp} → SameSpan n n' → LikeExp H R a a' → LikeExp H R b b' → LikeExp H R (named.assign n a b) (named.assign n' a' b')
    -- an assignment before which a variable waits for its type, in both or in one
    like_gives : {n n' p p' : Node} {x x' : Use} {d d' : Option ℕ} {a a' b b' : Exp} → SameSpan n n' → LikeExp H R a a' → IsLeftSide a p x → IsLeftSide a' p' x' → LikeExp H R b b' → LikeExp H R (named.gives n p x d b) (named.gives n' p' x' d' b')
    like_given : {n n' p : Node} {x : Use} {d : Option ℕ} {a a' b b' : Exp} → SameSpan n n' → LikeExp H R a a' → IsLeftSide a p x → LikeExp H R b b' → LikeExp H R (named.gives n p x d b) (named.assign n' a' b')
    like_giving : {n n' p' : Node} {x' : Use} {d' : Option ℕ} {a a' b b' : Exp} → SameSpan n n' → LikeExp H R a a' → IsLeftSide a' p' x' → LikeExp H R b b' → LikeExp H R (named.assign n a b) (named.gives n' p' x' d' b')
    like_update : {n n' : Node} {o : UpdateOp} {a a' b b' : Exp} → SameSpan n n' → LikeExp H R a a' → LikeExp H R b b' → LikeExp H R (named.update n o a b) (named.update n' o a' b')
    like_call : {n n' : Node} {f f' : ℕ} {es es' : Exps} → SameSpan n n' → R.item f ≡ f' → LikeExps H R es es' → LikeExp H R (named.call n f es) (named.call n' f' es')
    like_hidden : {n n' : Node} {es es' : Exps} → SameSpan n n' → LikeExps H R es es' → LikeExp H R (named.hidden_call n es) (named.hidden_call n' es')
    like_input : {n n' : Node} → SameSpan n n' → LikeExp H R (named.next_input n) (named.next_input n')
    like_variant : {n n' : Node} {i i' v : ℕ} {es es' : Exps} → SameSpan n n' → R.item i ≡ i' → LikeExps H R es es' → LikeExp H R (named.variant n i v es) (named.variant n' i' v es')
    like_make : {n n' : Node} {i i' : ℕ} {fs fs' : Fields} → SameSpan n n' → R.item i ≡ i' → LikeFields H R fs fs' → LikeExp H R (named.make n i fs) (named.make n' i' fs')
    like_print : {n n' : Node} {e e' : Exp} → SameSpan n n' → LikeExp H R e e' → LikeExp H R (named.print n e) (named.print n' e')
    like_block : {n n' : Node} {b b' : Body} → SameSpan n n' → LikeBody H R b b' → LikeExp H R (named.block n b) (named.block n' b')
    like_if : {n n' : Node} {c c' : Exp} {b b' : Body} {o o' : Else} → SameSpan n n' → LikeExp H R c c' → LikeBody H R b b' → LikeElse H R o o' → LikeExp H R (named.if n c b o) (named.if n' c' b' o')
    like_if_let : {n n' : Node} {p p' : Pattern} {e e' : Exp} {b b' : Body} {o o' : Else} → SameSpan n n' → LikePattern R p p' → LikeExp H R e e' → LikeBody H R b b' → LikeElse H R o o' → LikeExp H R (named.if_let n p e b o) (named.if_let n' p' e' b' o')
    like_match : {n n' : Node} {e e' : Exp} {l l' : Arms} → SameSpan n n' → LikeExp H R e e' → LikeArms H R l l' → LikeExp H R (named.match n e l) (named.match n' e' l')
    like_loop : {n n' : Node} {l l' : ℕ} {k k' : Bool} {b b' : Body} → SameSpan n n' → R.loop l l' ≡ true → LikeBody H R b b' → LikeExp H R (named.loop n l k b) (named.loop n' l' k' b')
    like_while : {n n' : Node} {l l' : ℕ} {c c' : Exp} {b b' : Body} → SameSpan n n' → R.loop l l' ≡ true → LikeExp H R c c' → LikeBody H R b b' → LikeExp H R (named.while n l c b) (named.while n' l' c' b')
    like_while_let : {n n' : Node} {l l' : ℕ} {p p' : Pattern} {e e' : Exp} {b b' : Body} → SameSpan n n' → R.loop l l' ≡ true → LikePattern R p p' → LikeExp H R e e' → LikeBody H R b b' → LikeExp H R (named.while_let n l p e b) (named.while_let n' l' p' e' b')
    like_break : {n n' : Node} {l l' : ℕ} → SameSpan n n' → R.loop l l' ≡ true → LikeExp H R (named.break n l) (named.break n' l')
    like_continue : {n n' : Node} {l l' : ℕ} → SameSpan n n' → R.loop l l' ≡ true → LikeExp H R (named.continue n l) (named.continue n' l')
    like_return : {n n' : Node} {o o' : Else} → SameSpan n n' → LikeElse H R o o' → LikeExp H R (named.return n o) (named.return n' o')

  pub data LikeExps (H : Holes) (R : Renaming) : Exps → Exps → Type 0 where
    like_no_exp : LikeExps H R named.no_exp named.no_exp
    like_more_exps : {e e' : Exp} {es es' : Exps} → LikeExp H R e e' → LikeExps H R es es' → LikeExps H R (named.exp_and e es) (named.exp_and e' es')

  pub data LikeElse (H : Holes) (R : Renaming) : Else → Else → Type 0 where
    like_absent : LikeElse H R named.absent named.absent
    like_present : {e e' : Exp} → LikeExp H R e e' → LikeElse H R (named.present e) (named.present e')

  pub data LikeFields (H : Holes) (R : Renaming) : Fields → Fields → Type 0 where
    like_no_field : LikeFields H R named.no_field named.no_field
    like_more_fields : {x : List ℕ} {e e' : Exp} {fs fs' : Fields} → LikeExp H R e e' → LikeFields H R fs fs' → LikeFields H R (named.field_and x e fs) (named.field_and x e' fs')

  pub data LikeArms (H : Holes) (R : Renaming) : Arms → Arms → Type 0 where
    like_no_arm : LikeArms H R named.no_arm named.no_arm
    like_more_arms : {p p' : Pattern} {e e' : Exp} {l l' : Arms} → LikePattern R p p' → LikeExp H R e e' → LikeArms H R l l' → LikeArms H R (named.arm_and p e l) (named.arm_and p' e' l')

  pub data LikeBody (H : Holes) (R : Renaming) : Body → Body → Type 0 where
    like_other_block : {b b' : Body} → H.block R b b' → LikeBody H R b b'
    like_body : {n n' : Node} {ss ss' : Statements} {o o' : Else} → H.copied n.span → SameSpan n n' → LikeStatements H R ss ss' → LikeElse H R o o' → LikeBody H R (named.body n ss o) (named.body n' ss' o')

  pub data LikeStatement (H : Holes) (R : Renaming) : Statement → Statement → Type 0 where
    like_declares : {n n' : Node} {p p' : Pattern} {t t' : Option Written} → SameSpan n n' → LikePattern R p p' → LikeAnnotation H R (named.pattern_node p).span t t' → LikeStatement H R (named.declares n p t) (named.declares n' p' t')
    like_lets : {n n' : Node} {p p' : Pattern} {t t' : Option Written} {e e' : Exp} → SameSpan n n' → LikePattern R p p' → LikeAnnotation H R (named.pattern_node p).span t t' → LikeExp H R e e' → LikeStatement H R (named.lets n p t e) (named.lets n' p' t' e')
    like_evaluates : {n n' : Node} {e e' : Exp} {b : Bool} → SameSpan n n' → LikeExp H R e e' → LikeStatement H R (named.evaluates n e b) (named.evaluates n' e' b)

  pub data LikeStatements (H : Holes) (R : Renaming) : Statements → Statements → Type 0 where
    like_no_statement : LikeStatements H R named.no_statement named.no_statement
    like_more_statements : {a a' : Statement} {ss ss' : Statements} → LikeStatement H R a a' → LikeStatements H R ss ss' → LikeStatements H R (named.statement_and a ss) (named.statement_and a' ss')

pub data LikeParameters (R : Renaming) : List named.Parameter → List named.Parameter → Type 0 where
  like_no_parameter : LikeParameters R [] []
  like_more_parameters : {x x' : named.Parameter} {xs xs' : List named.Parameter} → R.variable x.variable x'.variable ≡ true → LikeWritten R x.typ x'.typ → LikeParameters R xs xs' → LikeParameters R (x ∷ xs) (x' ∷ xs')

pub record LikeFunction (H : Holes) (R : Renaming) (d d' : named.Function) : Type 0 where
  pub params : LikeParameters R d.params d'.params
  pub result : LikeOptionalWritten R d.result d'.result
  pub body : LikeBody H R d.body d'.body
