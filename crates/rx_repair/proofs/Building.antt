-- What a function of a typed program makes of an item is a struct or enum, since names of others are refused where one is made: in the tree
-- with numbers, in the typed tree, in its order, and so at its sites.
use Rattle.std.proofs.Common.{◌≡◌, ℕ, suc, Bool, true, List, [], ◌∷◌, ◌++◌, slice_get, sym, subst}
use Rattle.rx_core.specs.declared.types.Step.{Step}
use Rattle.rx_tree.specs.Plain.{ProgramTree}
use Rattle.rx_tree.specs.Size.{IsNumbered}
use Rattle.rx_tree.specs.declared.tree.BinaryOp.{BinaryOp}
use Rattle.rx_resolve_names.specs.declared.resolved.ItemNames.{ItemNames}
use Rattle.rx_resolve_names.specs.Causes.{Meant}
use Rattle.rx_typed.specs.declared.nodes.Node.{Node}
use Rattle.rx_typed.specs.PlainTypes.{declarations}
use Rattle.rx_typed.specs.Types.{Declarations}
use Rattle.rx_typed.specs.Named as named
use Rattle.rx_typed.specs.Named.{node_of, is_place}
use Rattle.rx_typed.specs.Naming.{function_named}
use Rattle.rx_typed.specs.Elaborated as elaborated
use Rattle.rx_typed.specs.Elaborated.{Assigned, Coercion, plain, reborrow, share}
use Rattle.rx_typed.specs.Tree as tree
use Rattle.rx_typed.specs.Tree.{Temporary, Place, Mode, by_value, by_reference, mark_of, temporary_of}
use Rattle.rx_typed.specs.PlainTree.{plain-TypedTree}
use Rattle.rx_typed_declarations.specs.WellFormed.{is_adt, WellSigned}
use Rattle.rx_typed_declarations.specs.Sizes.{Sized, told}
use Rattle.rx_typed_declarations.proofs.Polarities.{same_declared}
use Rattle.rx_lower_walks.specs.Matching.{PartTest, Binding, tests, bindings}
use Rattle.rx_lower_walks.specs.Actions.{Action, Subject, in_place, in_temporary, subject, taking}
use Rattle.rx_lower_walks.specs.Orders as order
use Rattle.rx_lower_walks.specs.Orders.{Order, exit_node, testing, perhaps, binding, declaring, order_all, order_scrutinee, order_arms, order_body, beginning, order_function}
use Rattle.rx_lower_walks.specs.Pieces.{Scope, Variable, Looped, left, graph}
use Rattle.rx_lower_walks.specs.Text.{ending_all, in_text, text, actions_of, Sublist}
use Rattle.rx_lower_walks.specs.Text as texts
use Rattle.rx_lower_walks.specs.Walks.{Among}
use Rattle.rx_typeck_typed.specs.declared.typed.Typed.{Typed}
use Rattle.rx_typeck_typed.specs.declared.typed.TypedFn.{TypedFn}
use Rattle.rx_typeck_typed.specs.Typing.{IsTyped, known_in, assigned}
use Rattle.rx_facts.specs.Functions.{sites_of}
use Rattle.rx_hoist_naming.proofs.Claims.{Claims, OfExp, OfExps, OfElse, OfFields, OfArms, OfBody, OfStatement, OfStatements}
use Rattle.rx_hoist_naming.proofs.Declaring.{of_program}
use Rattle.rx_hoist_naming.proofs.Programs as programs
use Rattle.rx_repair.proofs.Holding.{MakesItem, ActMakes, AllMake}

module _ (E : Declarations) where
  -- ---- typed trees

  abbrev mutual
    Builds : tree.Exp → Type 0
    Builds (tree.read m v p) = Unit {0}
    Builds (tree.borrow m k p) = Unit {0}
    Builds (tree.share m e) = Builds e
    Builds (tree.build m w es) = MakesItem E w × BuildAll es
    Builds (tree.unit m) = Unit {0}
    Builds (tree.lazily m b e f) = Builds e × Builds f
    Builds (tree.assign m p e) = Builds e
    Builds (tree.update m o p e) = Builds e
    Builds (tree.call m f es) = BuildAll es
    Builds (tree.input m) = Unit {0}
    Builds (tree.print m e) = Builds e
    Builds (tree.block m b) = BuildsBody b
    Builds (tree.choose m s l) = BuildsMatched s × BuildsArms l
    Builds (tree.loop m l e) = Builds e
    Builds (tree.jump m l k) = Unit {0}
    Builds (tree.give m e) = Builds e

    BuildAll : tree.Operands → Type 0
    BuildAll tree.no_operand = Unit {0}
    BuildAll (tree.operand_and i e es) = Builds e × BuildAll es

    BuildsMatched : tree.Scrutinee → Type 0
    BuildsMatched (tree.at_place m p) = Unit {0}
    BuildsMatched (tree.of_value e) = Builds e

    BuildsArms : tree.Arms → Type 0
    BuildsArms tree.no_arm = Unit {0}
    BuildsArms (tree.arm_and p e l) = Builds e × BuildsArms l

    BuildsBody : tree.Body → Type 0
    BuildsBody (tree.ends e) = Builds e
    BuildsBody (tree.runs e b) = Builds e × BuildsBody b
    BuildsBody (tree.declares n xs b) = BuildsBody b
    BuildsBody (tree.lets n p s b) = BuildsMatched s × BuildsBody b

  -- ---- orders

  abbrev Made : Order → Type 0
  Made order.nothing = Unit {0}
  Made order.nowhere = Unit {0}
  Made (order.act a) = ActMakes E a.act
  Made (order.then s t) = Made s × Made t
  Made (order.or s t) = Made s × Made t
  Made (order.leave x) = Unit {0}
  Made order.fail = Unit {0}
  Made (order.otherwise s t) = Made s × Made t
  Made (order.ending n x s) = Made s
  Made (order.passes l s) = Made s

  testing_made : (S : Subject) (ts : List PartTest) (rest : Order) → Made rest → Made (testing S ts rest)
  testing_made S [] rest h = h
  testing_made S (t ∷ ts) rest h = (tt, (testing_made S ts rest h, tt))

  taking_made : (n : ℕ) (m : Mode) (S : Subject) (ss : List Step) (d : Temporary) → Made (perhaps n (taking m S ss d))
  taking_made n (by_value v) (in_place p) ss d = tt
  taking_made n (by_value v) (in_temporary t) ss d = tt
  taking_made n (by_reference k) (in_place p) ss d = tt
  taking_made n (by_reference k) (in_temporary t) ss d = tt

  binding_made : (S : Subject) (bs : List Binding) (n : ℕ) (rest : Order) → Made rest → Made (binding S bs n rest)
  binding_made S [] n rest h = h
  binding_made S (b ∷ bs) n rest h = (taking_made b.node b.mode S b.steps _, (tt, (tt, binding_made S bs n rest h)))

  declaring_made : (s : ℕ) (xs : List ℕ) (n : ℕ) (rest : Order) → Made rest → Made (declaring s xs n rest)
  declaring_made s [] n rest h = h
  declaring_made s (x ∷ xs) n rest h = (tt, declaring_made s xs n rest h)

  mutual
    made : (e : tree.Exp) (d : Temporary) → Builds e → Made (order.order e d)
    made (tree.read m v p) d h = tt
    made (tree.borrow m k p) d h = tt
    made (tree.share m e) d h = (made e _ h, tt)
    made (tree.build m w es) d h = (all_made es h.1, h.0)
    made (tree.unit m) d h = tt
    made (tree.lazily m b e f) d h = (made e _ h.0, (tt, ((made f _ h.1, tt), tt)))
    made (tree.assign m p e) d h = (made e _ h, tt)
    made (tree.update m o p e) d h = (made e _ h, (tt, (tt, tt)))
    made (tree.call m f es) d h = (all_made es h, tt)
    made (tree.input m) d h = tt
    made (tree.print m e) d h = (made e _ h, tt)
    made (tree.block m b) d h = body_made b m.node d h
    made (tree.choose m s l) d h = (matched_made s h.0, arms_made (subject s) l d h.1)
    made (tree.loop m l e) d h = made e _ h
    made (tree.jump m l k) d h = tt
    made (tree.give m e) d h = (made e _ h, (tt, tt))

    all_made : (es : tree.Operands) → BuildAll es → Made (order_all es)
    all_made tree.no_operand h = tt
    all_made (tree.operand_and i e es) h = (made e _ h.0, all_made es h.1)

    matched_made : (s : tree.Scrutinee) → BuildsMatched s → Made (order_scrutinee s)
    matched_made (tree.at_place m p) h = tt
    matched_made (tree.of_value e) h = made e _ h

    arms_made : (S : Subject) (l : tree.Arms) (d : Temporary) → BuildsArms l → Made (order_arms S l d)
    arms_made S tree.no_arm d h = tt
    arms_made S (tree.arm_and p e l) d h = (testing_made S (tests [] p) _ (binding_made S (bindings [] p) (mark_of e).node (order.order e d) (made e d h.0)), arms_made S l d h.1)

    body_made : (b : tree.Body) (n : ℕ) (d : Temporary) → BuildsBody b → Made (order_body b n d)
    body_made (tree.ends e) n d h = made e d h
    body_made (tree.runs e b) n d h = (made e _ h.0, body_made b n d h.1)
    body_made (tree.declares s xs b) n d h = declaring_made s xs n (order_body b n d) (body_made b n d h)
    body_made (tree.lets s p c b) n d h = (matched_made c h.0, binding_made (subject c) (bindings [] p) n (order_body b n d) (body_made b n d h.1))

  beginning_made : (ps : List tree.Parameter) (n : ℕ) (rest : Order) → Made rest → Made (beginning ps n rest)
  beginning_made [] n rest h = h
  beginning_made (p ∷ ps) n rest h = (tt, (tt, beginning_made ps n rest h))

  -- ---- the actions of the text, and of the sites

  makes_both : (us vs : List Action) → AllMake E us → AllMake E vs → AllMake E (us ++ vs)
  makes_both [] vs h k = k
  makes_both (a ∷ us) vs h k = (h.0, makes_both us vs h.1 k)

  endings_make : (n : ℕ) (xs : List ℕ) → AllMake E (ending_all n xs)
  endings_make n [] = tt
  endings_make n (x ∷ xs) = (tt, endings_make n xs)

  text_makes : (scope : Scope) (s : Order) → Made s → AllMake E (in_text scope s)
  text_makes scope order.nothing h = tt
  text_makes scope order.nowhere h = tt
  text_makes scope (order.act a) h = (h, tt)
  text_makes scope (order.then s t) h = makes_both (in_text scope s) (in_text scope t) (text_makes scope s h.0) (text_makes scope t h.1)
  text_makes scope (order.or s t) h = makes_both (in_text scope s) (in_text scope t) (text_makes scope s h.0) (text_makes scope t h.1)
  text_makes scope (order.leave x) h = endings_make (exit_node x) (left x scope)
  text_makes scope order.fail h = tt
  text_makes scope (order.otherwise s t) h = makes_both (in_text scope s) (in_text scope t) (text_makes scope s h.0) (text_makes scope t h.1)
  text_makes scope (order.ending n x s) h = makes_both (in_text (Variable x ∷ scope) s) _ (text_makes (Variable x ∷ scope) s h) (tt, tt)
  text_makes scope (order.passes l s) h = text_makes (Looped l ∷ scope) s h

  some_make : (us vs : List Action) → Sublist us vs → AllMake E vs → AllMake E us
  some_make _ _ texts.none h = tt
  some_make _ _ (texts.kept {l = l} {m = m} w) h = (h.0, some_make l m w h.1)
  some_make us _ (texts.dropped {m = m} w) h = some_make us m w h.1

  function_makes : (F : tree.Function) → Sublist (actions_of (graph F)) (text F) → Builds F.body → AllMake E (actions_of (graph F))
  function_makes F w h =
      some_make (actions_of (graph F)) (text F) w (text_makes [] (order_function F) (beginning_made F.params (mark_of F.body).node (order.order F.body (temporary_of F.body)) (made F.body (temporary_of F.body) h)))

  -- ---- trees with numbers

  module _ (C : Claims) (items : (i : ℕ) → C.item i → is_adt (slice_get E i) ≡ true) (T : Assigned) where
    read_builds : (n : Node) (c : Coercion) (p : Place) → Builds (elaborated.read_as T n c p)
    read_builds n plain p = tt
    read_builds n reborrow p = tt
    read_builds n share p = tt

    place_builds : (n : Node) (p : Place) → Builds (elaborated.place_value T n p)
    place_builds n p = read_builds n (elaborated.coercion_at T n) p

    passed_builds : (n : Node) (c : Coercion) (e : tree.Exp) → Builds e → Builds (elaborated.passed_as T n c e)
    passed_builds n plain e h = h
    passed_builds n reborrow e h = h
    passed_builds n share e h = h

    tuple_builds : (n : Node) (es : tree.Operands) → BuildAll es → Builds (elaborated.tuple_of T n es)
    tuple_builds n tree.no_operand h = tt
    tuple_builds n (tree.operand_and i e es) h = (tt, h)

    operated_builds : (n : Node) (o : BinaryOp) (a b : tree.Exp) → Builds a → Builds b → Builds (elaborated.operated T n o a b)
    operated_builds n BinaryOp.And a b h k = (h, k)
    operated_builds n BinaryOp.Or a b h k = (h, k)
    operated_builds n _ a b h k = (tt, (h, (k, tt)))

    matched_builds : (b : Bool) (c : Coercion) (e : named.Exp) (v : tree.Exp) → Builds v → BuildsMatched (elaborated.matched_as T b c e v)
    matched_builds true plain e v h = tt
    matched_builds _ _ e v h = h

    looked_builds : (e : named.Exp) (v : tree.Exp) → Builds v → BuildsMatched (elaborated.matched T e v)
    looked_builds e v h = matched_builds (is_place e) (elaborated.coercion_at T (node_of e)) e v h

    mutual
      value_builds : (e : named.Exp) → OfExp C e → Builds (elaborated.value T e)
      value_builds (named.int n m v k) h = (tt, tt)
      value_builds (named.bool n b) h = (tt, tt)
      value_builds (named.tuple n es) h = tuple_builds n (elaborated.operands T 0 es) (operands_build 0 es h)
      value_builds (named.var n x) h = place_builds n _
      value_builds (named.field n e x) h = place_builds n _
      value_builds (named.part n e i) h = place_builds n _
      value_builds (named.deref n e) h = place_builds n _
      value_builds (named.negate n e) h = (tt, (value_builds e h, tt))
      value_builds (named.invert n e) h = (tt, (value_builds e h, tt))
      value_builds (named.borrow n m e) h = passed_builds n (elaborated.coercion_at T n) _ tt
      value_builds (named.binary n o a b) h = operated_builds n o (elaborated.value T a) (elaborated.value T b) (value_builds a h.0) (value_builds b h.1)
      value_builds (named.assign n p e) h = value_builds e h.1
      value_builds (named.gives n p x d e) h = value_builds e h.1
      value_builds (named.update n o p e) h = value_builds e h.1
      value_builds (named.call n f es) h = passed_builds n (elaborated.coercion_at T n) _ (operands_build 0 es h)
      value_builds (named.hidden_call n es) h = tt
      value_builds (named.next_input n) h = tt
      value_builds (named.variant n i v es) h = (items i h.0, operands_build 0 es h.1)
      value_builds (named.make n i fs) h = (items i h.0, fields_build i fs h.1)
      value_builds (named.print n e) h = value_builds e h
      value_builds (named.block n b) h = body_builds b h
      value_builds (named.if n c b o) h = (value_builds c h.0, (body_builds b h.1, (else_builds n o h.2, tt)))
      value_builds (named.if_let n p e b o) h = (looked_builds e _ (value_builds e h.1), (body_builds b h.2, (else_builds n o h.3, tt)))
      value_builds (named.match n e l) h = (looked_builds e _ (value_builds e h.0), arms_build l h.1)
      value_builds (named.loop n l k b) h = body_builds b h
      value_builds (named.while n l c b) h = (value_builds c h.0, (body_builds b h.1, (tt, tt)))
      value_builds (named.while_let n l p e b) h = (looked_builds e _ (value_builds e h.1), (body_builds b h.2, (tt, tt)))
      value_builds (named.break n l) h = tt
      value_builds (named.continue n l) h = tt
      value_builds (named.return n o) h = returned_builds n o h

      operands_build : (k : ℕ) (es : named.Exps) → OfExps C es → BuildAll (elaborated.operands T k es)
      operands_build k named.no_exp h = tt
      operands_build k (named.exp_and e es) h = (value_builds e h.0, operands_build (suc k) es h.1)

      fields_build : (i : ℕ) (fs : named.Fields) → OfFields C fs → BuildAll (elaborated.fields T i fs)
      fields_build i named.no_field h = tt
      fields_build i (named.field_and x e fs) h = (value_builds e h.0, fields_build i fs h.1)

      else_builds : (n : Node) (o : named.Else) → OfElse C o → Builds (elaborated.otherwise T n o)
      else_builds n named.absent h = tt
      else_builds n (named.present e) h = value_builds e h

      returned_builds : (n : Node) (o : named.Else) → OfElse C o → Builds (elaborated.returned T n o)
      returned_builds n named.absent h = tt
      returned_builds n (named.present e) h = value_builds e h

      arms_build : (l : named.Arms) → OfArms C l → BuildsArms (elaborated.arms T l)
      arms_build named.no_arm h = tt
      arms_build (named.arm_and p e l) h = (value_builds e h.1, arms_build l h.2)

      body_builds : (b : named.Body) → OfBody C b → Builds (elaborated.body T b)
      body_builds (named.body n ss o) h = nested_builds ss _ h.0 (tail_builds n o h.1)

      tail_builds : (n : Node) (o : named.Else) → OfElse C o → Builds (elaborated.tail T n o)
      tail_builds n named.absent h = tt
      tail_builds n (named.present e) h = value_builds e h

      nested_builds : (ss : named.Statements) (last : tree.Exp) → OfStatements C ss → Builds last → BuildsBody (elaborated.nested T ss last)
      nested_builds named.no_statement last h k = k
      nested_builds (named.statement_and a ss) last h k = statement_builds a _ h.0 (nested_builds ss last h.1 k)

      statement_builds : (a : named.Statement) (rest : tree.Body) → OfStatement C a → BuildsBody rest → BuildsBody (elaborated.statement T a rest)
      statement_builds (named.declares n p t) rest h k = k
      statement_builds (named.lets n p t e) rest h k = (looked_builds e _ (value_builds e h.2), k)
      statement_builds (named.evaluates n e s) rest h k = (value_builds e h, k)

    function_builds : (b : named.Body) → OfBody C b → Builds (elaborated.function_body T b)
    function_builds (named.body n ss o) h = nested_builds ss _ h.0 (tail_builds n o h.1)

-- ---- a function of a typed program

module _ (p : ProgramTree) (ns : List ItemNames) (t : Typed) (few : IsNumbered p) (meant : Meant p ns) (typed : IsTyped p ns t) (signed : WellSigned t.decls.items)
    (sized : Sized (declarations typed.declared) (told typed.sizes)) (in_order : (F : tree.Function) → Sublist (actions_of (graph F)) (text F)) where
  pub sites_make : (f : TypedFn) → Among f t.functions → AllMake (declarations t.decls.items) (actions_of (sites_of f))
  sites_make f among =
      let x = programs.text p ns t few meant typed signed sized f among in
      let D = declarations typed.declared in
      let K = known_in (record { program = p; declared = typed.declared; sizes = typed.sizes }) in
      let F = function_named x.number x.span x.function x.table.names in
      let builds = function_builds D (of_program D _) (λ i h. h) (assigned K x.checked.types) F.body x.taken.claims.body in
      subst (λ (E : Declarations). AllMake E (actions_of (sites_of f))) (sym (same_declared t.decls.items typed.declared typed.same))
      (function_makes D (plain-TypedTree f.tree) (in_order (plain-TypedTree f.tree)) (subst (λ (G : tree.Function). Builds D G.body) (sym x.checked.tree) builds))
