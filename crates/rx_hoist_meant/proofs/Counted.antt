-- Resolving a part adds no more loops than stand there: by induction on what resolves.
use Rattle.std.proofs.Common.{◌≡◌, ℕ, suc, ◌+◌, ◌≤◌, List, [], ◌∷◌, ◌++◌, length, Ok, refl, subst, arith}
use Rattle.rx_tree.specs.Plain as plain
use Rattle.rx_tree.specs.Plain.{PatternTree, Expression, Expressions, OptionalExpression, OptionalExpressions, FieldExpressions, Statement, Statements}
use Rattle.rx_tree.specs.Positions.{NodeTree, an_expression, a_block, a_pattern}
use Rattle.rx_tree.specs.Nodes.{below_pattern, below_expression, within_expressions, within_optional, within_arguments, within_fields, within_arms, below_block, below_statement, within_statements, within_type, total}
use Rattle.rx_tree.specs.Size.{loops_at}
use Rattle.rx_tree.proofs.NodesLaws.{total_both}
use Rattle.rx_resolve_names.specs.Scopes.{DeclaredNames, Variables, variable_named, entered}
use Rattle.rx_resolve_names.specs.declared.resolved.ItemNames.{ItemNames}
use Rattle.rx_resolve_names.specs.Meant.{number, Around, a_loop, a_test}
use Rattle.rx_resolve_names.specs.Steps.{Outcome, and_then, Naming, ◌>>◌, nothing, Inside, child, next, with_loop, position}
use Rattle.rx_resolve_names.specs.Names.{in_pattern, pattern_then, in_loop, in_optional_type, initialiser_at, Scoped, in_expression, in_expressions, in_optional, in_arguments, in_fields, in_arms, in_block, in_statements, in_statement}
use Rattle.rx_hoist_naming.proofs.Steps.{named_ok, the_same, one_more}
use Rattle.rx_hoist_meant.proofs.Loops.{Keeps, callee_keeps, names_keep, optional_type_keeps, pattern_keeps}

abbrev T : List NodeTree → ℕ
T ns = total loops_at ns

abbrev E : Expression → List NodeTree
E e = an_expression e ∷ below_expression e

abbrev pub Adds : ℕ → Naming → Type 0
Adds n f = (t t' : ItemNames) → f t ≡ Ok t' → length t'.loops ≤ length t.loops + n

abbrev pub ScopeAdds : ℕ → (ItemNames → Outcome Scoped) → Type 0
ScopeAdds n f = (t : ItemNames) (r : Scoped) → f t ≡ Ok r → length r.tables.loops ≤ length t.loops + n

kept_adds : (n : ℕ) (f : Naming) → Keeps f → Adds n f
kept_adds n f k t t' e = let s = k t t' e in omega (arith, s)

then_adds : (n m k : ℕ) (f g : Naming) → n + m ≤ k → Adds n f → Adds m g → Adds k (f >> g)
then_adds n m k f g h p q t t' e = let a = named_ok (f t) g t' e in let x = p t a.0 a.1 in let y = q a.0 t' a.2 in omega (arith, x, y, h)

more_adds : (n m : ℕ) (f : Naming) → n ≤ m → Adds n f → Adds m f
more_adds n m f h p t t' e = let x = p t t' e in omega (arith, x, h)

nothing_keeps : Keeps nothing
nothing_keeps t t' e = subst (λ (z : ItemNames). length z.loops ≡ length t.loops) (the_same t t' e) refl

pattern_then_adds : (n : ℕ) (I : Inside) (at : List ℕ) (p : PatternTree) (f : DeclaredNames → Naming) → ((ds : DeclaredNames) → Adds n (f ds)) → Adds n (pattern_then I at p f)
pattern_then_adds n I at p f g t t' e =
    let a = named_ok (in_pattern I at p (record { bindings = []; tables = t })) (λ b. f b.bindings b.tables) t' e in
    let x = pattern_keeps I at p (record { bindings = []; tables = t }) a.0 a.1 in let y = g a.0.bindings a.0.tables t' a.2 in omega (arith, x, y)

loop_adds : (n : ℕ) (I : Inside) (at : List ℕ) (f : ℕ → Naming) → ((k : ℕ) → Adds n (f k)) → Adds (suc n) (in_loop I at f)
loop_adds n I at f g t t' e = let p = position I at in let x = g (number (length t.loops)) (with_loop p t) t' e in let m = one_more t.loops p in omega (arith, x, m)

tables_add : (n : ℕ) (sc : Variables) (f : Naming) → Adds n f → ScopeAdds n (λ t. and_then (f t) (λ t. Ok (record { scope = sc; tables = t })))
tables_add n sc f g t r e =
    let to : ItemNames → Scoped = λ t. record { scope = sc; tables = t } in
    let a = named_ok (f t) (λ t. Ok (to t)) r e in
    subst (λ (z : Scoped). length z.tables.loops ≤ length t.loops + n) (the_same (to a.0) r a.2) (g t a.0 a.1)

mutual
  expression_adds : (I : Inside) (sc : Variables) (ls : List Around) (at : List ℕ) (e : Expression) → Adds (T (E e)) (in_expression I sc ls at e)
  expression_adds I sc ls at (plain.int s v k) = kept_adds _ _ nothing_keeps
  expression_adds I sc ls at (plain.bool s b) = kept_adds _ _ nothing_keeps
  expression_adds I sc ls at (plain.tuple s es) = more_adds (T (within_expressions es)) (T (E (plain.tuple s es))) _ (omega arith) (expressions_add I sc ls at 0 es)
  expression_adds I sc ls at (plain.var s x) = kept_adds _ _ (names_keep I at _)
  expression_adds I sc ls at (plain.field s e x) = more_adds (T (E e)) (T (E (plain.field s e x))) _ (omega arith) (expression_adds I sc ls (child at 0) e)
  expression_adds I sc ls at (plain.part s e i) = more_adds (T (E e)) (T (E (plain.part s e i))) _ (omega arith) (expression_adds I sc ls (child at 0) e)
  expression_adds I sc ls at (plain.deref s e) = more_adds (T (E e)) (T (E (plain.deref s e))) _ (omega arith) (expression_adds I sc ls (child at 0) e)
  expression_adds I sc ls at (plain.negate s e) = more_adds (T (E e)) (T (E (plain.negate s e))) _ (omega arith) (expression_adds I sc ls (child at 0) e)
  expression_adds I sc ls at (plain.invert s e) = more_adds (T (E e)) (T (E (plain.invert s e))) _ (omega arith) (expression_adds I sc ls (child at 0) e)
  expression_adds I sc ls at (plain.borrow s m e) = more_adds (T (E e)) (T (E (plain.borrow s m e))) _ (omega arith) (expression_adds I sc ls (child at 0) e)
  expression_adds I sc ls at (plain.binary s o a b) =
      let z = total_both loops_at (E a) (E b) in then_adds (T (E a)) (T (E b)) (T (E (plain.binary s o a b))) _ _ (omega (arith, z)) (expression_adds I sc ls (child at 0) a) (expression_adds I sc ls (child at 1) b)
  expression_adds I sc ls at (plain.assign s a b) =
      let z = total_both loops_at (E a) (E b) in then_adds (T (E a)) (T (E b)) (T (E (plain.assign s a b))) _ _ (omega (arith, z)) (expression_adds I sc ls (child at 0) a) (expression_adds I sc ls (child at 1) b)
  expression_adds I sc ls at (plain.update s o a b) =
      let z = total_both loops_at (E a) (E b) in then_adds (T (E a)) (T (E b)) (T (E (plain.update s o a b))) _ _ (omega (arith, z)) (expression_adds I sc ls (child at 0) a) (expression_adds I sc ls (child at 1) b)
  expression_adds I sc ls at (plain.call s f es) =
      then_adds 0 (T (within_expressions es)) (T (E (plain.call s f es))) _ _ (omega arith) (kept_adds 0 _ (callee_keeps I at f (variable_named sc f.name))) (expressions_add I sc ls at 0 es)
  expression_adds I sc ls at (plain.next_input s) = kept_adds _ _ (names_keep I at _)
  expression_adds I sc ls at (plain.variant s a v es) =
      then_adds 0 (T (within_arguments es)) (T (E (plain.variant s a v es))) _ _ (omega arith) (kept_adds 0 _ (names_keep I at _)) (arguments_add I sc ls at es)
  expression_adds I sc ls at (plain.make s x fs) = then_adds 0 (T (within_fields fs)) (T (E (plain.make s x fs))) _ _ (omega arith) (kept_adds 0 _ (names_keep I at _)) (fields_add I sc ls at 0 fs)
  expression_adds I sc ls at (plain.print s e) = more_adds (T (E e)) (T (E (plain.print s e))) _ (omega arith) (expression_adds I sc ls (child at 0) e)
  expression_adds I sc ls at (plain.block s b) = more_adds (T (below_block b)) (T (E (plain.block s b))) _ (omega arith) (block_adds I sc ls (child at 0) b)
  expression_adds I sc ls at (plain.if s c b o) =
      let z = total_both loops_at (E c) (a_block b ∷ (below_block b ++ within_optional o)) in
      let w = total_both loops_at (a_block b ∷ below_block b) (within_optional o) in
      then_adds (T (E c)) (T (below_block b) + T (within_optional o)) (T (E (plain.if s c b o))) _ _ (omega (arith, z, w)) (expression_adds I sc ls (child at 0) c)
      (then_adds (T (below_block b)) (T (within_optional o)) (T (below_block b) + T (within_optional o)) _ _ (omega arith) (block_adds I sc ls (child at 1) b) (optional_adds I sc ls (child at 2) o))
  expression_adds I sc ls at (plain.if_let s p e b o) =
      let y = total_both loops_at (a_pattern p ∷ below_pattern p) (an_expression e ∷ (below_expression e ++ (a_block b ∷ (below_block b ++ within_optional o)))) in
      let z = total_both loops_at (E e) (a_block b ∷ (below_block b ++ within_optional o)) in
      let w = total_both loops_at (a_block b ∷ below_block b) (within_optional o) in
      pattern_then_adds (T (E (plain.if_let s p e b o))) I (child at 0) p _ (λ ds.
      then_adds (T (E e)) (T (below_block b) + T (within_optional o)) (T (E (plain.if_let s p e b o))) _ _ (omega (arith, y, z, w)) (expression_adds I sc ls (child at 1) e)
      (then_adds (T (below_block b)) (T (within_optional o)) (T (below_block b) + T (within_optional o)) _ _ (omega arith) (block_adds I (entered sc ds) ls (child at 2) b) (optional_adds I sc ls (child at 3) o)))
  expression_adds I sc ls at (plain.match s e l) =
      let z = total_both loops_at (E e) (within_arms l) in then_adds (T (E e)) (T (within_arms l)) (T (E (plain.match s e l))) _ _ (omega (arith, z)) (expression_adds I sc ls (child at 0) e) (arms_add I sc ls at 1 l)
  expression_adds I sc ls at (plain.loop s l b) = more_adds (suc (T (below_block b))) (T (E (plain.loop s l b))) _ (omega arith) (loop_adds (T (below_block b)) I at (λ n. in_block I sc (a_loop l n ∷ ls) (child at 0) b) (λ n. block_adds I sc (a_loop l n ∷ ls) (child at 0) b))
  expression_adds I sc ls at (plain.while s l c b) =
      let z = total_both loops_at (E c) (a_block b ∷ below_block b) in
      more_adds (suc (T (E c) + T (below_block b))) (T (E (plain.while s l c b))) _ (omega (arith, z)) (loop_adds (T (E c) + T (below_block b)) I at
      (λ n. in_expression I sc (a_test ∷ a_loop l n ∷ ls) (child at 0) c >> in_block I sc (a_loop l n ∷ ls) (child at 1) b) (λ n.
      then_adds (T (E c)) (T (below_block b)) (T (E c) + T (below_block b)) _ _ (omega arith) (expression_adds I sc (a_test ∷ a_loop l n ∷ ls) (child at 0) c) (block_adds I sc (a_loop l n ∷ ls) (child at 1) b)))
  expression_adds I sc ls at (plain.while_let s l p e b) =
      let y = total_both loops_at (a_pattern p ∷ below_pattern p) (an_expression e ∷ (below_expression e ++ (a_block b ∷ below_block b))) in
      let z = total_both loops_at (E e) (a_block b ∷ below_block b) in
      more_adds (suc (T (E e) + T (below_block b))) (T (E (plain.while_let s l p e b))) _ (omega (arith, y, z)) (loop_adds (T (E e) + T (below_block b)) I at
      (λ n. pattern_then I (child at 0) p (λ ds. in_expression I sc (a_test ∷ a_loop l n ∷ ls) (child at 1) e >> in_block I (entered sc ds) (a_loop l n ∷ ls) (child at 2) b)) (λ n.
      pattern_then_adds (T (E e) + T (below_block b)) I (child at 0) p _ (λ ds.
      then_adds (T (E e)) (T (below_block b)) (T (E e) + T (below_block b)) _ _ (omega arith) (expression_adds I sc (a_test ∷ a_loop l n ∷ ls) (child at 1) e) (block_adds I (entered sc ds) (a_loop l n ∷ ls) (child at 2) b))))
  expression_adds I sc ls at (plain.break s l) = kept_adds _ _ (names_keep I at _)
  expression_adds I sc ls at (plain.continue s l) = kept_adds _ _ (names_keep I at _)
  expression_adds I sc ls at (plain.return s o) = more_adds (T (within_optional o)) (T (E (plain.return s o))) _ (omega arith) (optional_adds I sc ls (child at 0) o)

  expressions_add : (I : Inside) (sc : Variables) (ls : List Around) (at : List ℕ) (i : ℕ) (es : Expressions) → Adds (T (within_expressions es)) (in_expressions I sc ls at i es)
  expressions_add I sc ls at i plain.no_expression = kept_adds _ _ nothing_keeps
  expressions_add I sc ls at i (plain.expression_and e es) =
      let z = total_both loops_at (E e) (within_expressions es) in
      then_adds (T (E e)) (T (within_expressions es)) (T (within_expressions (plain.expression_and e es))) _ _ (omega (arith, z)) (expression_adds I sc ls (child at i) e) (expressions_add I sc ls at (next i) es)

  optional_adds : (I : Inside) (sc : Variables) (ls : List Around) (at : List ℕ) (o : OptionalExpression) → Adds (T (within_optional o)) (in_optional I sc ls at o)
  optional_adds I sc ls at plain.absent = kept_adds _ _ nothing_keeps
  optional_adds I sc ls at (plain.present e) = expression_adds I sc ls at e

  arguments_add : (I : Inside) (sc : Variables) (ls : List Around) (at : List ℕ) (o : OptionalExpressions) → Adds (T (within_arguments o)) (in_arguments I sc ls at o)
  arguments_add I sc ls at plain.no_list = kept_adds _ _ nothing_keeps
  arguments_add I sc ls at (plain.a_list es) = expressions_add I sc ls at 0 es

  fields_add : (I : Inside) (sc : Variables) (ls : List Around) (at : List ℕ) (i : ℕ) (fs : FieldExpressions) → Adds (T (within_fields fs)) (in_fields I sc ls at i fs)
  fields_add I sc ls at i plain.no_field = kept_adds _ _ nothing_keeps
  fields_add I sc ls at i (plain.field_and x e fs) =
      let z = total_both loops_at (E e) (within_fields fs) in
      then_adds (T (E e)) (T (within_fields fs)) (T (within_fields (plain.field_and x e fs))) _ _ (omega (arith, z)) (expression_adds I sc ls (child at i) e) (fields_add I sc ls at (next i) fs)

  arms_add : (I : Inside) (sc : Variables) (ls : List Around) (at : List ℕ) (i : ℕ) (l : plain.Arms) → Adds (T (within_arms l)) (in_arms I sc ls at i l)
  arms_add I sc ls at i plain.no_arm = kept_adds _ _ nothing_keeps
  arms_add I sc ls at i (plain.arm_and p e l) =
      let y = total_both loops_at (a_pattern p ∷ below_pattern p) (an_expression e ∷ (below_expression e ++ within_arms l)) in
      let z = total_both loops_at (E e) (within_arms l) in
      then_adds (T (E e)) (T (within_arms l)) (T (within_arms (plain.arm_and p e l))) _ _ (omega (arith, y, z))
      (pattern_then_adds (T (E e)) I (child at i) p _ (λ ds. expression_adds I (entered sc ds) ls (child at (next i)) e)) (arms_add I sc ls at (next (next i)) l)

  pub block_adds : (I : Inside) (sc : Variables) (ls : List Around) (at : List ℕ) (b : plain.Body) → Adds (T (below_block b)) (in_block I sc ls at b)
  block_adds I sc ls at (plain.body s ss o) t t' e =
      let a = named_ok (in_statements I sc ls at 0 ss t) _ t' e in
      let x = statements_add I sc ls at 0 ss t a.0 a.1 in
      let y = optional_adds I a.0.scope ls _ o a.0.tables t' a.2 in
      let z = total_both loops_at (within_statements ss) (within_optional o) in
      omega (arith, x, y, z)

  statements_add : (I : Inside) (sc : Variables) (ls : List Around) (at : List ℕ) (i : ℕ) (ss : Statements) → ScopeAdds (T (within_statements ss)) (in_statements I sc ls at i ss)
  statements_add I sc ls at i plain.no_statement t r e =
      let to : ItemNames → Scoped = λ t. record { scope = sc; tables = t } in subst (λ (z : Scoped). length z.tables.loops ≤ length t.loops + 0) (the_same (to t) r e) (omega arith)
  statements_add I sc ls at i (plain.statement_and x ss) t r e =
      let a = named_ok (in_statement I sc ls (child at i) x t) _ r e in
      let u = statement_adds I sc ls (child at i) x t a.0 a.1 in
      let v = statements_add I a.0.scope ls at (next i) ss a.0.tables r a.2 in
      let z = total_both loops_at (below_statement x) (within_statements ss) in
      omega (arith, u, v, z)

  statement_adds : (I : Inside) (sc : Variables) (ls : List Around) (at : List ℕ) (x : Statement) → ScopeAdds (T (below_statement x)) (in_statement I sc ls at x)
  statement_adds I sc ls at (plain.let_statement s p y o) t r e =
      let a = named_ok (in_pattern I (child at 0) p (record { bindings = []; tables = t })) _ r e in
      let k = pattern_keeps I (child at 0) p (record { bindings = []; tables = t }) a.0 a.1 in
      let u = total_both loops_at (a_pattern p ∷ below_pattern p) (within_type y ++ within_optional o) in
      let z = total_both loops_at (within_type y) (within_optional o) in
      let g = tables_add (T (within_optional o)) (entered sc a.0.bindings) (in_optional_type I (child at 1) y >> in_optional I sc ls (child at (initialiser_at y)) o)
      (then_adds 0 (T (within_optional o)) (T (within_optional o)) _ _ (omega arith) (kept_adds 0 _ (optional_type_keeps I (child at 1) y)) (optional_adds I sc ls (child at (initialiser_at y)) o)) a.0.tables r a.2 in
      omega (arith, k, u, z, g)
  statement_adds I sc ls at (plain.expression_statement s x b) t r e =
      let k = tables_add (T (E x)) sc (in_expression I sc ls (child at 0) x) (expression_adds I sc ls (child at 0) x) t r e in omega (arith, k)
