-- A part of a text as a part of its tree with numbers (Rust Reference, "Scopes", "Shadowing", "Loop labels"): one relation through all
-- forms. Nodes are numbered in the order of the text, from one number to another. A variable is the newest in scope of its name, a jump
-- leads to its loop. What a pattern binds has its names and is new there, and so is a loop's number. A block resolves in a scope whose names mean just the variables
-- that are in scope in the tree.
use Rattle.std.specs.Prelude.{◌≡◌, ℕ, suc, ◌+◌, Bool, List, [], ◌∷◌, ◌++◌, length, reverse, map, Option, Some, Ok, slice_get}
use Rattle.rx_core.specs.declared.types.Span.{Span}
use Rattle.rx_core.specs.declared.types.Kind.{Kind}
use Rattle.rx_tree.specs.declared.tree.Ident.{Ident}
use Rattle.rx_tree.specs.declared.tree.BinaryOp.{BinaryOp}
use Rattle.rx_tree.specs.declared.tree.UpdateOp.{UpdateOp}
use Rattle.rx_tree.specs.Plain as plain
use Rattle.rx_tree.specs.Plain.{TypeTree, PatternTree}
use Rattle.rx_tree.specs.Positions.{a_pattern, optional_type_nodes}
use Rattle.rx_resolve_names.specs.Scopes.{Variable, Variables}
use Rattle.rx_resolve_names.specs.declared.resolved.ItemNames.{ItemNames}
use Rattle.rx_resolve_names.specs.Meant.{Around, a_loop, a_test, as_function, function_name, item_named, target, to_loop}
use Rattle.rx_resolve_names.specs.Steps.{Inside}
use Rattle.rx_resolve_names.specs.Names.{in_block}
use Rattle.rx_typed.specs.declared.nodes.Node.{Node}
use Rattle.rx_typed.specs.declared.nodes.Use.{Use}
use Rattle.rx_typed.specs.Named as named
use Rattle.rx_typed.specs.Named.{Written, Pattern, Exp, Exps, Else, Fields, Arms, Body, Statement, Statements}
use Rattle.rx_typed.specs.Elaborated.{variables}
use Rattle.rx_lower_walks.specs.Walks.{Among}
use Rattle.rx_exits.specs.Refusing.{same_name}
use Rattle.rx_hoist_nodes.specs.Nodes.{within, within_all}
use Rattle.rx_hoist_extraction.specs.Names.{bound}
use Rattle.rx_hoist_meant.specs.NamesMeant.{MeansIt}

-- ---- by the names of all variables of the function, which have numbers

-- a scope means just these variables, the newest first
pub record ScopeMeans (names : List (List ℕ)) (vs : List ℕ) (sc : Variables) : Type 0 where
  pub numbers : vs ≡ map (λ (v : Variable). v.number) sc
  pub words : map (λ (k : ℕ). slice_get names k) vs ≡ map (λ (v : Variable). Some v.name) sc

-- a pattern, in front of which these are in scope
pub record StandsPattern (names : List (List ℕ)) (vs : List ℕ) (i j : ℕ) (p : PatternTree) (c : Pattern) : Type 0 where
  pub size : j ≡ i + length (within (a_pattern p))
  pub words : map (λ (k : ℕ). slice_get names k) (variables c) ≡ map (λ (x : List ℕ). Some x) (bound p)
  pub fresh : (x : ℕ) → Among x (variables c) → Among x vs → ⊥

-- a block resolves where these are in scope
pub record BlockComes (I : Inside) (names : List (List ℕ)) (vs : List ℕ) (ls : List Around) (b : plain.Body) : Type 0 where
  pub scope : Variables
  pub means : ScopeMeans names vs scope
  pub at : List ℕ
  pub before : ItemNames
  pub end : ItemNames
  pub resolves : in_block I scope ls at b before ≡ Ok end

-- the loops round a part by their numbers; tests are none
abbrev pub loop_numbers : List Around → List ℕ
loop_numbers [] = []
loop_numbers (a_loop l n ∷ ls) = n ∷ loop_numbers ls
loop_numbers (a_test ∷ ls) = loop_numbers ls

-- and by their labels
abbrev pub loop_labels : List Around → List (Option Ident)
loop_labels [] = []
loop_labels (a_loop l n ∷ ls) = l ∷ loop_labels ls
loop_labels (a_test ∷ ls) = loop_labels ls

-- a callee that is a function: no variable in scope has its name
pub record IsFunction (I : Inside) (names : List (List ℕ)) (vs : List ℕ) (x : List ℕ) (item : ℕ) : Type 0 where
  pub unnamed : (k : ℕ) → Among k vs → slice_get names k ≡ Some x → ⊥
  pub found : as_function (item_named function_name 0 I.program x) ≡ Some item

-- what a statement brings into scope
abbrev pub brought : Statement → List ℕ
brought (named.declares n p t) = variables p
brought (named.lets n p t e) = variables p
brought (named.evaluates n e b) = []

-- ---- all forms: the variables in scope, the loops and tests round it, the number of the first node and the one behind the last

mutual
  pub data StandsExp (I : Inside) (names : List (List ℕ)) : List ℕ → List Around → ℕ → ℕ → plain.Expression → Exp → Type 0 where
    s_int : {vs : List ℕ} {ls : List Around} {i : ℕ} {s : Span} {n : Node} {m : Bool} {v : ℕ} {k : Option Kind} → n.number ≡ i → StandsExp I names vs ls i (suc i) (plain.int s v k) (named.int n m v k)
    s_bool : {vs : List ℕ} {ls : List Around} {i : ℕ} {s : Span} {n : Node} {b : Bool} → n.number ≡ i → StandsExp I names vs ls i (suc i) (plain.bool s b) (named.bool n b)
    s_tuple : {vs : List ℕ} {ls : List Around} {i j : ℕ} {s : Span} {n : Node} {es : plain.Expressions} {xs : Exps} → n.number ≡ i → StandsExps I names vs ls (suc i) j es xs
        → StandsExp I names vs ls i j (plain.tuple s es) (named.tuple n xs)
    s_var : {vs : List ℕ} {ls : List Around} {i : ℕ} {s : Span} {n : Node} {x : List ℕ} {u : Use} → n.number ≡ i → slice_get names u.number ≡ Some x → MeansIt (same_name names) vs u.number
        → StandsExp I names vs ls i (suc i) (plain.var s x) (named.var n u)
    s_field : {vs : List ℕ} {ls : List Around} {i j : ℕ} {s : Span} {n : Node} {e : plain.Expression} {a : Exp} {x : Ident} → n.number ≡ i → StandsExp I names vs ls (suc i) j e a
        → StandsExp I names vs ls i j (plain.field s e x) (named.field n a x.name)
    s_part : {vs : List ℕ} {ls : List Around} {i j : ℕ} {s : Span} {n : Node} {e : plain.Expression} {a : Exp} {k : ℕ} → n.number ≡ i → StandsExp I names vs ls (suc i) j e a
        → StandsExp I names vs ls i j (plain.part s e k) (named.part n a k)
    s_deref : {vs : List ℕ} {ls : List Around} {i j : ℕ} {s : Span} {n : Node} {e : plain.Expression} {a : Exp} → n.number ≡ i → StandsExp I names vs ls (suc i) j e a
        → StandsExp I names vs ls i j (plain.deref s e) (named.deref n a)
    s_negate : {vs : List ℕ} {ls : List Around} {i j : ℕ} {s : Span} {n : Node} {e : plain.Expression} {a : Exp} → n.number ≡ i → StandsExp I names vs ls (suc i) j e a
        → StandsExp I names vs ls i j (plain.negate s e) (named.negate n a)
    s_invert : {vs : List ℕ} {ls : List Around} {i j : ℕ} {s : Span} {n : Node} {e : plain.Expression} {a : Exp} → n.number ≡ i → StandsExp I names vs ls (suc i) j e a
        → StandsExp I names vs ls i j (plain.invert s e) (named.invert n a)
    s_borrow : {vs : List ℕ} {ls : List Around} {i j : ℕ} {s : Span} {n : Node} {m : Bool} {e : plain.Expression} {a : Exp} → n.number ≡ i → StandsExp I names vs ls (suc i) j e a
        → StandsExp I names vs ls i j (plain.borrow s m e) (named.borrow n m a)
    s_binary : {vs : List ℕ} {ls : List Around} {i k j : ℕ} {s : Span} {n : Node} {o : BinaryOp} {e f : plain.Expression} {a b : Exp} → n.number ≡ i → StandsExp I names vs ls (suc i) k e a → StandsExp I names vs ls k j f b
        → StandsExp I names vs ls i j (plain.binary s o e f) (named.binary n o a b)
    s_assign : {vs : List ℕ} {ls : List Around} {i k j : ℕ} {s : Span} {n : Node} {e f : plain.Expression} {a b : Exp} → n.number ≡ i → StandsExp I names vs ls (suc i) k e a → StandsExp I names vs ls k j f b
        → StandsExp I names vs ls i j (plain.assign s e f) (named.assign n a b)
    -- a variable that waits for its type is the whole left side
    s_gives : {vs : List ℕ} {ls : List Around} {i j : ℕ} {s t : Span} {n m : Node} {x : List ℕ} {u : Use} {d : Option ℕ} {f : plain.Expression} {b : Exp} → n.number ≡ i → slice_get names u.number ≡ Some x
        → MeansIt (same_name names) vs u.number → StandsExp I names vs ls (suc (suc i)) j f b → StandsExp I names vs ls i j (plain.assign s (plain.var t x) f) (named.gives n m u d b)
    s_update : {vs : List ℕ} {ls : List Around} {i k j : ℕ} {s : Span} {n : Node} {o : UpdateOp} {e f : plain.Expression} {a b : Exp} → n.number ≡ i → StandsExp I names vs ls (suc i) k e a → StandsExp I names vs ls k j f b
        → StandsExp I names vs ls i j (plain.update s o e f) (named.update n o a b)
    -- a function, whose name no variable in scope has
    s_call : {vs : List ℕ} {ls : List Around} {i j : ℕ} {s : Span} {n : Node} {g : Ident} {k : ℕ} {es : plain.Expressions} {xs : Exps} → n.number ≡ i → IsFunction I names vs g.name k → StandsExps I names vs ls (suc i) j es xs
        → StandsExp I names vs ls i j (plain.call s g es) (named.call n k xs)
    s_hidden : {vs : List ℕ} {ls : List Around} {i j : ℕ} {s : Span} {n : Node} {g : Ident} {es : plain.Expressions} {xs : Exps} → n.number ≡ i → StandsExps I names vs ls (suc i) j es xs
        → StandsExp I names vs ls i j (plain.call s g es) (named.hidden_call n xs)
    s_input : {vs : List ℕ} {ls : List Around} {i : ℕ} {s : Span} {n : Node} → n.number ≡ i → StandsExp I names vs ls i (suc i) (plain.next_input s) (named.next_input n)
    s_variant : {vs : List ℕ} {ls : List Around} {i j : ℕ} {s : Span} {n : Node} {a v : Ident} {k w : ℕ} {es : plain.OptionalExpressions} {xs : Exps} → n.number ≡ i → StandsArguments I names vs ls (suc i) j es xs
        → StandsExp I names vs ls i j (plain.variant s a v es) (named.variant n k w xs)
    s_make : {vs : List ℕ} {ls : List Around} {i j : ℕ} {s : Span} {n : Node} {x : Ident} {k : ℕ} {fs : plain.FieldExpressions} {xs : Fields} → n.number ≡ i → StandsFields I names vs ls (suc i) j fs xs
        → StandsExp I names vs ls i j (plain.make s x fs) (named.make n k xs)
    s_print : {vs : List ℕ} {ls : List Around} {i j : ℕ} {s : Span} {n : Node} {e : plain.Expression} {a : Exp} → n.number ≡ i → StandsExp I names vs ls (suc i) j e a
        → StandsExp I names vs ls i j (plain.print s e) (named.print n a)
    s_block : {vs : List ℕ} {ls : List Around} {i j : ℕ} {s : Span} {n : Node} {b : plain.Body} {B : Body} → n.number ≡ i → StandsBody I names vs ls (suc i) j b B
        → StandsExp I names vs ls i j (plain.block s b) (named.block n B)
    s_if : {vs : List ℕ} {ls : List Around} {i k l j : ℕ} {s : Span} {n : Node} {c : plain.Expression} {C : Exp} {b : plain.Body} {B : Body} {o : plain.OptionalExpression} {O : Else} → n.number ≡ i
        → StandsExp I names vs ls (suc i) k c C → StandsBody I names vs ls k l b B → StandsElse I names vs ls l j o O → StandsExp I names vs ls i j (plain.if s c b o) (named.if n C B O)
    s_if_let : {vs : List ℕ} {ls : List Around} {i h k l j : ℕ} {s : Span} {n : Node} {p : PatternTree} {P : Pattern} {e : plain.Expression} {a : Exp} {b : plain.Body} {B : Body} {o : plain.OptionalExpression} {O : Else} → n.number ≡ i
        → StandsPattern names vs (suc i) h p P → StandsExp I names vs ls h k e a → StandsBody I names (reverse (variables P) ++ vs) ls k l b B → StandsElse I names vs ls l j o O
        → StandsExp I names vs ls i j (plain.if_let s p e b o) (named.if_let n P a B O)
    s_match : {vs : List ℕ} {ls : List Around} {i k j : ℕ} {s : Span} {n : Node} {e : plain.Expression} {a : Exp} {l : plain.Arms} {L : Arms} → n.number ≡ i → StandsExp I names vs ls (suc i) k e a → StandsArms I names vs ls k j l L
        → StandsExp I names vs ls i j (plain.match s e l) (named.match n a L)
    s_loop : {vs : List ℕ} {ls : List Around} {i j : ℕ} {s : Span} {n : Node} {l : Option Ident} {k : ℕ} {q : Bool} {b : plain.Body} {B : Body} → n.number ≡ i → (Among k (loop_numbers ls) → ⊥)
        → StandsBody I names vs (a_loop l k ∷ ls) (suc i) j b B
        → StandsExp I names vs ls i j (plain.loop s l b) (named.loop n k q B)
    s_while : {vs : List ℕ} {ls : List Around} {i h j : ℕ} {s : Span} {n : Node} {l : Option Ident} {k : ℕ} {c : plain.Expression} {C : Exp} {b : plain.Body} {B : Body} → n.number ≡ i → (Among k (loop_numbers ls) → ⊥)
        → StandsExp I names vs (a_test ∷ a_loop l k ∷ ls) (suc i) h c C → StandsBody I names vs (a_loop l k ∷ ls) h j b B → StandsExp I names vs ls i j (plain.while s l c b) (named.while n k C B)
    s_while_let : {vs : List ℕ} {ls : List Around} {i h m j : ℕ} {s : Span} {n : Node} {l : Option Ident} {k : ℕ} {p : PatternTree} {P : Pattern} {e : plain.Expression} {a : Exp} {b : plain.Body} {B : Body} → n.number ≡ i → (Among k (loop_numbers ls) → ⊥)
        → StandsPattern names vs (suc i) h p P → StandsExp I names vs (a_test ∷ a_loop l k ∷ ls) h m e a → StandsBody I names (reverse (variables P) ++ vs) (a_loop l k ∷ ls) m j b B
        → StandsExp I names vs ls i j (plain.while_let s l p e b) (named.while_let n k P a B)
    s_break : {vs : List ℕ} {ls : List Around} {i : ℕ} {s : Span} {n : Node} {l : Option Ident} {k : ℕ} → n.number ≡ i → target l ls ≡ to_loop k → StandsExp I names vs ls i (suc i) (plain.break s l) (named.break n k)
    s_continue : {vs : List ℕ} {ls : List Around} {i : ℕ} {s : Span} {n : Node} {l : Option Ident} {k : ℕ} → n.number ≡ i → target l ls ≡ to_loop k → StandsExp I names vs ls i (suc i) (plain.continue s l) (named.continue n k)
    s_return : {vs : List ℕ} {ls : List Around} {i j : ℕ} {s : Span} {n : Node} {o : plain.OptionalExpression} {O : Else} → n.number ≡ i → StandsElse I names vs ls (suc i) j o O
        → StandsExp I names vs ls i j (plain.return s o) (named.return n O)

  pub data StandsExps (I : Inside) (names : List (List ℕ)) : List ℕ → List Around → ℕ → ℕ → plain.Expressions → Exps → Type 0 where
    s_no_exp : {vs : List ℕ} {ls : List Around} {i : ℕ} → StandsExps I names vs ls i i plain.no_expression named.no_exp
    s_exp_and : {vs : List ℕ} {ls : List Around} {i k j : ℕ} {e : plain.Expression} {a : Exp} {es : plain.Expressions} {xs : Exps} → StandsExp I names vs ls i k e a → StandsExps I names vs ls k j es xs
        → StandsExps I names vs ls i j (plain.expression_and e es) (named.exp_and a xs)

  pub data StandsElse (I : Inside) (names : List (List ℕ)) : List ℕ → List Around → ℕ → ℕ → plain.OptionalExpression → Else → Type 0 where
    s_absent : {vs : List ℕ} {ls : List Around} {i : ℕ} → StandsElse I names vs ls i i plain.absent named.absent
    s_present : {vs : List ℕ} {ls : List Around} {i j : ℕ} {e : plain.Expression} {a : Exp} → StandsExp I names vs ls i j e a → StandsElse I names vs ls i j (plain.present e) (named.present a)

  pub data StandsArguments (I : Inside) (names : List (List ℕ)) : List ℕ → List Around → ℕ → ℕ → plain.OptionalExpressions → Exps → Type 0 where
    s_no_list : {vs : List ℕ} {ls : List Around} {i : ℕ} → StandsArguments I names vs ls i i plain.no_list named.no_exp
    s_list : {vs : List ℕ} {ls : List Around} {i j : ℕ} {es : plain.Expressions} {xs : Exps} → StandsExps I names vs ls i j es xs → StandsArguments I names vs ls i j (plain.a_list es) xs

  pub data StandsFields (I : Inside) (names : List (List ℕ)) : List ℕ → List Around → ℕ → ℕ → plain.FieldExpressions → Fields → Type 0 where
    s_no_field : {vs : List ℕ} {ls : List Around} {i : ℕ} → StandsFields I names vs ls i i plain.no_field named.no_field
    s_field_and : {vs : List ℕ} {ls : List Around} {i k j : ℕ} {x : Ident} {e : plain.Expression} {a : Exp} {fs : plain.FieldExpressions} {xs : Fields} → StandsExp I names vs ls i k e a → StandsFields I names vs ls k j fs xs
        → StandsFields I names vs ls i j (plain.field_and x e fs) (named.field_and x.name a xs)

  pub data StandsArms (I : Inside) (names : List (List ℕ)) : List ℕ → List Around → ℕ → ℕ → plain.Arms → Arms → Type 0 where
    s_no_arm : {vs : List ℕ} {ls : List Around} {i : ℕ} → StandsArms I names vs ls i i plain.no_arm named.no_arm
    s_arm_and : {vs : List ℕ} {ls : List Around} {i h k j : ℕ} {p : PatternTree} {P : Pattern} {e : plain.Expression} {a : Exp} {l : plain.Arms} {L : Arms} → StandsPattern names vs i h p P
        → StandsExp I names (reverse (variables P) ++ vs) ls h k e a → StandsArms I names vs ls k j l L → StandsArms I names vs ls i j (plain.arm_and p e l) (named.arm_and P a L)

  -- the tail stands behind all statements, in the scope there
  pub data StandsBody (I : Inside) (names : List (List ℕ)) : List ℕ → List Around → ℕ → ℕ → plain.Body → Body → Type 0 where
    s_body : {vs : List ℕ} {ls : List Around} {i k j : ℕ} {s : Span} {n : Node} {ss : plain.Statements} {xs : Statements} {after : List ℕ} {o : plain.OptionalExpression} {O : Else} → n.number ≡ i
        → BlockComes I names vs ls (plain.body s ss o) → StandsRow I names vs ls (suc i) k ss xs after → StandsElse I names after ls k j o O → StandsBody I names vs ls i j (plain.body s ss o) (named.body n xs O)

  -- types are nodes too
  pub data StandsStatement (I : Inside) (names : List (List ℕ)) : List ℕ → List Around → ℕ → ℕ → plain.Statement → Statement → Type 0 where
    s_declares : {vs : List ℕ} {ls : List Around} {i k j : ℕ} {s : Span} {n : Node} {p : PatternTree} {P : Pattern} {y : Option TypeTree} {w : Option Written} → n.number ≡ i → StandsPattern names vs (suc i) k p P
        → j ≡ k + length (within_all (optional_type_nodes y)) → StandsStatement I names vs ls i j (plain.let_statement s p y plain.absent) (named.declares n P w)
    s_lets : {vs : List ℕ} {ls : List Around} {i k l j : ℕ} {s : Span} {n : Node} {p : PatternTree} {P : Pattern} {y : Option TypeTree} {w : Option Written} {e : plain.Expression} {a : Exp} → n.number ≡ i
        → StandsPattern names vs (suc i) k p P → l ≡ k + length (within_all (optional_type_nodes y)) → StandsExp I names vs ls l j e a
        → StandsStatement I names vs ls i j (plain.let_statement s p y (plain.present e)) (named.lets n P w a)
    s_evaluates : {vs : List ℕ} {ls : List Around} {i j : ℕ} {s : Span} {n : Node} {e : plain.Expression} {a : Exp} {b : Bool} → n.number ≡ i → StandsExp I names vs ls (suc i) j e a
        → StandsStatement I names vs ls i j (plain.expression_statement s e b) (named.evaluates n a b)

  -- from one scope to another
  pub data StandsRow (I : Inside) (names : List (List ℕ)) : List ℕ → List Around → ℕ → ℕ → plain.Statements → Statements → List ℕ → Type 0 where
    s_no_statement : {vs : List ℕ} {ls : List Around} {i : ℕ} → StandsRow I names vs ls i i plain.no_statement named.no_statement vs
    s_statement_and : {vs : List ℕ} {ls : List Around} {i k j : ℕ} {a : plain.Statement} {x : Statement} {ss : plain.Statements} {xs : Statements} {after : List ℕ} → StandsStatement I names vs ls i k a x
        → StandsRow I names (reverse (brought x) ++ vs) ls k j ss xs after → StandsRow I names vs ls i j (plain.statement_and a ss) (named.statement_and x xs) after
