-- Expressions, statements and blocks that are copied resolve alike, and their trees with numbers are alike, where the special places are.
use Rattle.std.proofs.Common.{◌≡◌, ℕ, Bool, true, false, ◌&&◌, List, [], ◌∷◌, ◌++◌, length, Option, Some, None, Ok, refl, sym, ap, ◌∙◌, subst}
use Rattle.rx_core.specs.declared.types.Span.{Span}
use Rattle.rx_core.specs.declared.types.Position.{Position}
use Rattle.rx_tree.specs.declared.tree.Ident.{Ident}
use Rattle.rx_tree.specs.Lists.{listed}
use Rattle.rx_tree.specs.Plain as plain
use Rattle.rx_tree.specs.Spans.{pattern_span}
use Rattle.rx_tree.specs.Plain.{TypeTree, PatternTree, Expression, Expressions, OptionalExpression, OptionalExpressions, FieldExpressions, Arms, Body, Statement, Statements}
use Rattle.rx_resolve_names.specs.Scopes.{DeclaredNames, Variables, variable_named, entered}
use Rattle.rx_resolve_names.specs.declared.resolved.ItemNames.{ItemNames}
use Rattle.rx_resolve_names.specs.declared.resolved.NodeNames.{NodeNames}
use Rattle.rx_resolve_names.specs.Meant.{number, Around, a_loop, a_test}
use Rattle.rx_resolve_names.specs.Steps.{Outcome, and_then, Naming, ◌>>◌, one, child, next, with_loop, with_names, position, numbered, names}
use Rattle.rx_resolve_names.specs.Names.{variant_in, struct_in, Bound, in_pattern, pattern_then, callee, rt_span, in_optional_type, initialiser_at, Scoped, in_expression, in_expressions, in_optional, in_arguments, in_fields, in_arms, in_block, in_statements, in_statement}
use Rattle.rx_typed.specs.declared.nodes.Node.{Node}
use Rattle.rx_typed.specs.declared.nodes.Site.{Site}
use Rattle.rx_typed.specs.declared.nodes.Stage.{Stage}
use Rattle.rx_typed.specs.declared.nodes.Use.{Use}
use Rattle.rx_typed.specs.Named as named
use Rattle.rx_typed.specs.Named.{Exp, Exps}
use Rattle.rx_typed.specs.Naming as numbering
use Rattle.rx_typed.specs.Naming.{Cursor, Numbering, give, an_entry, first, second, of_expression}
use Rattle.rx_engine_names.specs.Renaming.{Renaming, Made, Has}
use Rattle.rx_engine_names.specs.LikeNamed.{Holes, SameSpan, LikeAnnotation, LikeExp, LikeExps, LikeElse, LikeStatement, like_bool, like_tuple, like_field, like_part, like_deref, like_negate, like_invert, like_borrow, like_binary, like_assign, like_gives, like_given, like_giving, like_update, like_call, like_hidden, like_input, like_variant, like_make, like_print, like_block, like_if, like_if_let, like_match, like_loop, like_while, like_while_let, like_no_exp, like_more_exps, like_absent, like_present, like_no_field, like_more_fields, like_no_arm, like_more_arms, like_body, like_declares, like_lets, like_evaluates, like_no_statement, like_more_statements}
use Rattle.rx_hoist_extraction.specs.Names.{Names, bound, bound_by, behind_all}
use Rattle.rx_hoist_extraction.specs.Changed.{Changes, changed, changed_all, changed_optional, changed_arguments, changed_fields, changed_arms, changed_body, changed_statement, changed_statements}
use Rattle.rx_engine_names.specs.Within.{Within, AllWithin, OptionalWithin, ArgumentsWithin, FieldsWithin, ArmsWithin, BodyWithin, StatementWithin, StatementsWithin}
use Rattle.rx_engine_names.proofs.SideBySide.{numbers_then_told, named_ok, then_ok, and_ok, the_same, Reached, Grows, grows_not, grows_on, Kind, Numbers, numbers_then, numbers_last, numbers_give, numbers_map, numbers_node, numbers_node_at, numbers_made, numbers_made_at, numbers_also, numbers_left, numbers_right, numbers_both, at_entries, numbers_entry, numbers_loop, with_loops, grows_loops, newest, newest_kept, loop_reached, Part, in_turn, in_turn3, in_turn4, restated, unchanged, names_alike, Keeps}
use Rattle.rx_engine_names.proofs.Scoped.{Corresponds, AtName, Scopes, scopes_later, scopes_entered}
use Rattle.rx_engine_names.proofs.Fitting.{function_in, rt_in}
use Rattle.rx_engine_names.proofs.CopiedPatterns.{names_one, PatternNumbers, pattern_alike, pattern_binds}
use Rattle.rx_engine_names.proofs.Standing.{AnnotationNumbers, later, ExpNumbers, AllNumbers, ElseNumbers, ArgumentsNumbers, FieldsNumbers, ArmsNumbers, BodyNumbers, StatementNumbers, StatementsNumbers, keeps_counted, keeps_between, keeps_annotates, keeps_a_use, keeps_gives_here, keeps_waits, keeps_is_left, keeps_waits_for, Setting, Stand, with_bindings, in_the_loop, in_the_test, in_scope, SameForm, ExpPart, ElsePart, Special}

-- ---- an assignment, which may give a variable its type

numbers_left_told : {A B B' : Type 0} {W : A → Type 0} {T : B → B' → Type 0} {t u t1 u1 : ItemNames} {es es' : List NodeNames} {m : Numbering A} {k : A → Numbering B} {m' : Numbering B'}
    → Keeps m → ((c : Cursor) → W (m c).0) → ((a : A) → W a → Numbers T t u t1 u1 es es' (k a) m') → Numbers T t u t1 u1 es es' (numbering.and_then m k) m'
numbers_left_told {m = m} h w K = record {
  holds = λ c c' rest rest' q e e'.
      (K (m c).0 (w c)).holds (m c).1 c' rest rest'
      (record { declared = h.declared c ∙ q.declared; declared' = q.declared'; loops = h.loops c ∙ q.loops; loops' = q.loops' }) (h.names c ∙ e) e';
}

numbers_right_told : {A B B' : Type 0} {W : A → Type 0} {T : B → B' → Type 0} {t u t1 u1 : ItemNames} {es es' : List NodeNames} {m : Numbering B} {m' : Numbering A} {k : A → Numbering B'}
    → Keeps m' → ((c : Cursor) → W (m' c).0) → ((a : A) → W a → Numbers T t u t1 u1 es es' m (k a)) → Numbers T t u t1 u1 es es' m (numbering.and_then m' k)
numbers_right_told {m' = m'} h w K = record {
  holds = λ c c' rest rest' q e e'.
      (K (m' c').0 (w c')).holds c (m' c').1 rest rest'
      (record { declared = q.declared; declared' = h.declared c' ∙ q.declared'; loops = q.loops; loops' = h.loops c' ∙ q.loops' }) e (h.names c' ∙ e');
}

-- what each side does in front is told
numbers_told : {A A' B B' : Type 0} {W : A → Type 0} {W' : A' → Type 0} {T : B → B' → Type 0} {t u t1 u1 : ItemNames} {es es' : List NodeNames} {m : Numbering A} {m' : Numbering A'} {k : A → Numbering B} {k' : A' → Numbering B'}
    → Keeps m → Keeps m' → ((c : Cursor) → W (m c).0) → ((c : Cursor) → W' (m' c).0) → ((a : A) (a' : A') → W a → W' a' → Numbers T t u t1 u1 es es' (k a) (k' a')) → Numbers T t u t1 u1 es es' (numbering.and_then m k) (numbering.and_then m' k')
numbers_told {m = m} {m' = m'} h h' w w' K = record {
  holds = λ c c' rest rest' q e e'.
      (K (m c).0 (m' c').0 (w c) (w' c')).holds (m c).1 (m' c').1 rest rest'
      (record { declared = h.declared c ∙ q.declared; declared' = h'.declared c' ∙ q.declared'; loops = h.loops c ∙ q.loops; loops' = h'.loops c' ∙ q.loops' }) (h.names c ∙ e) (h'.names c' ∙ e');
}

-- the left side is a whole variable by its form
abbrev Whole : Expression → Exp → Type 0
Whole (plain.var s y) p = named.is_variable p ≡ true
Whole _ p = Unit {0}

whole_told : (x : Expression) (m : Bool) (k : Site) (c : Cursor) → Whole x (of_expression m k x c).0
whole_told (plain.var s y) m k c = refl
whole_told _ m k c = tt

-- a variable that waits is the left side
abbrev Waits : Exp → Option (ℕ × ℕ) → Type 0
Waits p None = Unit {0}
Waits p (Some w) = ((named.root p).number ≡ w.0) × (named.is_variable p ≡ true)

waits_told : (x : Expression) (p : Exp) → Whole x p → (c : Cursor) → Waits p (numbering.waits_in x (named.root p).number c)
waits_told (plain.var s y) p h c = go (numbering.declaration c (named.root p).number).stage
  where
    go : (s : Stage) → Waits p (numbering.waiting (named.root p).number s)
    go (Stage.Waits m z) = (refl, h)
    go Stage.Known = tt
    go Stage.Given = tt
waits_told _ p h c = tt

abbrev IsUse : ℕ → Use → Type 0
IsUse w x = w ≡ x.number

assigned_alike : {H : Holes} {R : Renaming} {t u t' u' : ItemNames} {es es' : List NodeNames} (n n' : Node) (p p' : Exp) (w w' : Option (ℕ × ℕ)) (f f' : Site → Numbering Exp) → Waits p w → Waits p' w' → SameSpan n n' → LikeExp H R p p'
    → ((k k' : Site) → Numbers (LikeExp H R) t u t' u' es es' (f k) (f' k')) → Numbers (LikeExp H R) t u t' u' es es' (numbering.assigned n p w f) (numbering.assigned n' p' w' f')
assigned_alike n n' p p' None None f f' v v' g h k = numbers_map (named.assign n p) (named.assign n' p') (k Site.Expects Site.Expects) (λ a b l. like_assign g h l)
assigned_alike n n' p p' None (Some w') f f' v v' g h k =
    numbers_last (k Site.Expects Site.Reborrows) (λ a b l. numbers_right_told {W = IsUse w'.0} (keeps_a_use w'.0) (λ c. refl) (λ x e. numbers_right (keeps_gives_here w'.0) (λ d.
    numbers_give (named.assign n p a) (named.gives n' (named.node_of p') x d b) (like_giving g h (record { node = refl; variable = v'.0 ∙ e; whole = v'.1 }) l))))
assigned_alike n n' p p' (Some w) None f f' v v' g h k =
    numbers_last (k Site.Reborrows Site.Expects) (λ a b l. numbers_left_told {W = IsUse w.0} (keeps_a_use w.0) (λ c. refl) (λ x e. numbers_left (keeps_gives_here w.0) (λ d.
    numbers_give (named.gives n (named.node_of p) x d a) (named.assign n' p' b) (like_given g h (record { node = refl; variable = v.0 ∙ e; whole = v.1 }) l))))
assigned_alike n n' p p' (Some w) (Some w') f f' v v' g h k =
    numbers_last (k Site.Reborrows Site.Reborrows) (λ a b l. numbers_told {W = IsUse w.0} {W' = IsUse w'.0} (keeps_a_use w.0) (keeps_a_use w'.0) (λ c. refl) (λ c. refl) (λ x y e e'.
    numbers_both (keeps_gives_here w.0) (keeps_gives_here w'.0) (λ d d'.
    numbers_give (named.gives n (named.node_of p) x d a) (named.gives n' (named.node_of p') y d' b) (like_gives g h (record { node = refl; variable = v.0 ∙ e; whole = v.1 }) (record { node = refl; variable = v'.0 ∙ e'; whole = v'.1 }) l))))

-- ---- a callee

data Called (R : Renaming) : (List ℕ × Bool) → (List ℕ × Bool) → Type 0 where
  a_function : {n m : ℕ} → R.item n ≡ m → Called R (n ∷ [], false) (m ∷ [], false)
  a_hidden : {n m : ℕ} → Called R (n ∷ [], true) (m ∷ [], true)

called_alike : {H : Holes} {R : Renaming} {t u t' u' : ItemNames} {es es' : List NodeNames} (n n' : Node) (a a' : List ℕ × Bool) (f f' : Site → Numbering Exps) → SameSpan n n' → Called R a a'
    → ((k k' : Site) → Numbers (LikeExps H R) t u t' u' es es' (f k) (f' k')) → Numbers (LikeExp H R) t u t' u' es es' (numbering.called n a f) (numbering.called n' a' f')
called_alike n n' a a' f f' g (a_function {n = i} {m = j} r) k = numbers_map (named.call n i) (named.call n' j) (k Site.Expects Site.Expects) (λ b c l. like_call g r l)
called_alike n n' a a' f f' g a_hidden k = numbers_map (named.hidden_call n) (named.hidden_call n') (k Site.Value Site.Value) (λ b c l. like_hidden g l)

abbrev CalledNumbers : ItemNames → ItemNames → ItemNames → Kind
CalledNumbers t u t' R u' es es' = Numbers (Called R) t u t' u' es es' an_entry an_entry

callee_alike : (K : Setting) (M : Made) (at at' : List ℕ) (x : Ident) (b f : Bool) (o o' : Option ℕ) → AtName (Corresponds K.behind M) b f o o' → (t t' u : ItemNames) → callee K.I at x o t ≡ Ok t' → Reached K.L M t u
    → Part K.L M t t' u (λ G v. callee K.I' at' x o' u ≡ Ok v) (CalledNumbers t u t')
callee_alike K M at at' x b f None None h t t' u e q =
    let A = names_one K.L M K.I K.I' at at' t t' u (function_in K.I x) (function_in K.I' x) (λ n m. K.L.items n ≡ m) (K.fits.functions x) e q in
    restated A.part (λ z. z) (λ R sv k. numbers_map (λ a. a) (λ a. a) k (λ a a' r. at_entries (Called R) (A.first ∷ []) (A.second ∷ []) false false a a' r (a_function (sv.items_are A.first ∙ A.fits))))
callee_alike K M at at' x b f (Some n) (Some m) h t t' u e q =
    let X : NodeNames = record { node = position K.I at; numbers = n ∷ []; hidden = true } in let X' : NodeNames = record { node = position K.I' at'; numbers = m ∷ []; hidden = true } in
    subst (λ (v : ItemNames). Part K.L M t v u (λ G w. callee K.I' at' x (Some m) u ≡ Ok w) (CalledNumbers t u v)) (the_same (with_names X t) t' e)
    (record {
      made = M;
      grows = grows_not M;
      table = with_names X' u;
      answer = refl;
      reached = record { vars = q.vars; loops = q.loops; passages = q.passages };
      added = X ∷ [];
      added' = X' ∷ [];
      grown = refl;
      grown' = refl;
      numbers = λ R s. numbers_map (λ a. a) (λ a. a) (numbers_entry X X') (λ a a' r. at_entries (Called R) (n ∷ []) (m ∷ []) true true a a' r a_hidden);
    })
callee_alike K M at at' x b f None (Some m) h t t' u e q = absurd h
callee_alike K M at at' x b f (Some n) None h t t' u e q = absurd h

-- ---- a new loop round a part

in_new_loop : (K : Setting) (M : Made) (t t' u : ItemNames) (p p' : Position) {X : Made → ItemNames → Type 0} {J : Kind} → Part K.L (with_loops M t u) (with_loop p t) t' (with_loop p' u) X J → Part K.L M t t' u X J
in_new_loop K M t t' u p p' A = record {
  made = A.made;
  grows = grows_on (grows_loops M t u) A.grows;
  table = A.table;
  answer = A.answer;
  reached = A.reached;
  added = A.added;
  added' = A.added';
  grown = A.grown;
  grown' = A.grown';
  numbers = A.numbers;
}

-- the loop that is new
the_loop : (M G : Made) (t u : ItemNames) → Grows (with_loops M t u) G → Has G.loops (length t.loops) (length u.loops)
the_loop M G t u g = g.loops (length t.loops) (length u.loops) (newest M.loops (length t.loops) (length u.loops))

-- ---- a `let`

kept_form : (C : Changes) (own : Names) (m : List Around) (o : OptionalExpression) → SameForm o (changed_optional C own m o)
kept_form C own m plain.absent = tt
kept_form C own m (plain.present x) = tt

else_exp : {H : Holes} {R : Renaming} {e e' : Exp} → LikeElse H R (named.present e) (named.present e') → LikeExp H R e e'
else_exp (like_present l) = l

-- the numbering of an initialiser
pub initialiser : {H : Holes} {R : Renaming} {t u t' u' : ItemNames} {es es' : List NodeNames} (x x' : Expression) (k k' : Site) → Numbers (LikeElse H R) t u t' u' es es' (numbering.of_optional k (plain.present x)) (numbering.of_optional k' (plain.present x'))
    → Numbers (LikeExp H R) t u t' u' es es' (of_expression false k x) (of_expression false k' x')
initialiser x x' k k' n = record { holds = λ c c' rest rest' q e e'. let z = n.holds c c' rest rest' q e e' in record { like = else_exp z.like; cursors = z.cursors; left = z.left; left' = z.left' } }

-- the node of a pattern has its span
abbrev AtSpan : Span → named.Pattern → Type 0
AtSpan s p = (named.pattern_node p).span ≡ s

span_of : (p : PatternTree) (c : numbering.Cursor) → AtSpan (pattern_span p) (numbering.of_pattern p c).0
span_of (plain.wild s) c = refl
span_of (plain.bind s x m) c = refl
span_of (plain.int_pattern s g v k) c = refl
span_of (plain.bool_pattern s b) c = refl
span_of (plain.tuple_pattern s ps) c = refl
span_of (plain.variant_pattern s a v ps) c = refl
span_of (plain.make_pattern s x fs) c = refl

at_span : {H : Holes} {R : Renaming} (p : named.Pattern) {s : Span} {y y' : Option named.Written} → AtSpan s p → LikeAnnotation H R s y y' → LikeAnnotation H R (named.pattern_node p).span y y'
at_span {H = H} {R = R} p {y = y} {y' = y'} e h = subst (λ (z : Span). LikeAnnotation H R z y y') (sym e) h

let_numbers : {H : Holes} {R : Renaming} {t u t1 u1 t2 u2 t3 u3 : ItemNames} {es es' fs fs' hs hs' : List NodeNames} (s : Span) (p : PatternTree) (y y' : Option TypeTree) (o o' : OptionalExpression) → SameForm o o'
    → PatternNumbers t u p t1 R u1 es es' → AnnotationNumbers H (pattern_span p) t1 u1 y y' t2 R u2 fs fs' → ElseNumbers H t2 u2 o o' t3 R u3 hs hs'
    → Numbers (LikeStatement H R) t u t3 u3 (es ++ (fs ++ hs)) (es' ++ (fs' ++ hs')) (numbering.of_statement (plain.let_statement s p y o)) (numbering.of_statement (plain.let_statement s p y' o'))
let_numbers s p y y' plain.absent plain.absent f k l n =
    numbers_node s Site.Value Site.Value (λ i i' g. numbers_both (keeps_annotates p y) (keeps_annotates p y') (λ _ _. numbers_both keeps_counted keeps_counted (λ i0 i0'.
    numbers_then (numbers_also {W = AtSpan (pattern_span p)} k (span_of p)) (λ c c' v. numbers_both keeps_counted keeps_counted (λ j0 j0'. numbers_then l (λ z z' h. numbers_last (n Site.Value Site.Value) (λ _ _ _.
    numbers_both (keeps_between i0 j0) (keeps_between i0' j0') (λ _ _. numbers_both (keeps_waits (numbering.has_no_type z) c) (keeps_waits (numbering.has_no_type z') c') (λ _ _. numbers_give (named.declares i c z) (named.declares i' c' z') (like_declares g v.1 (at_span c v.0 h)))))))))))
let_numbers s p y y' (plain.present x) (plain.present x') f k l n =
    numbers_node s Site.Value Site.Value (λ i i' g. numbers_both (keeps_annotates p y) (keeps_annotates p y') (λ _ _. numbers_both keeps_counted keeps_counted (λ i0 i0'.
    numbers_then (numbers_also {W = AtSpan (pattern_span p)} k (span_of p)) (λ c c' v. numbers_both keeps_counted keeps_counted (λ j0 j0'. numbers_then l (λ z z' h. numbers_last (initialiser x x' (numbering.initialiser_site z) (numbering.initialiser_site z') (n (numbering.initialiser_site z) (numbering.initialiser_site z'))) (λ a a' d.
    numbers_both (keeps_between i0 j0) (keeps_between i0' j0') (λ _ _. numbers_both (keeps_waits (numbering.has_no_type z && named.never a) c) (keeps_waits (numbering.has_no_type z' && named.never a') c') (λ _ _. numbers_give (named.lets i c z a) (named.lets i' c' z' a') (like_lets g v.1 (at_span c v.0 h) d))))))))))
let_numbers s p y y' plain.absent (plain.present x') f k l n = absurd f
let_numbers s p y y' (plain.present x) plain.absent f k l n = absurd f

-- what a statement comes to: the scope behind it too
abbrev pub ScopedPart : (K : Setting) (M : Made) (own : Names) (t : ItemNames) (r : Scoped) (u : ItemNames) → Outcome Scoped → Kind → Type 0
ScopedPart K M own t r u o J = Part K.L M t r.tables u (λ G v. (sc1 : Variables) × (o ≡ Ok (record { scope = sc1; tables = v })) × Scopes K.behind G K.N K.stars K.known own r.scope sc1) J

let_alike : (K : Setting) → Special K → (M : Made) (own : Names) (m : List Around) (w : Stand K M own m) (at at' : List ℕ) (s : Span) (p : PatternTree) (y : Option TypeTree) (o o' : OptionalExpression) (t : ItemNames) (r : Scoped) (u : ItemNames) → K.N.annotation y
    → ((G : Made) (g : Grows M G) (at1 at2 : List ℕ) (t1 t2 v : ItemNames) → in_optional K.I w.sc w.ls at1 o t1 ≡ Ok t2 → Reached K.L G t1 v → ElsePart K G own m (later K M G own m w g) at2 o o' t1 t2 v) → SameForm o o'
    → in_statement K.I w.sc w.ls at (plain.let_statement s p y o) t ≡ Ok r → Reached K.L M t u
    → ScopedPart K M (bound p ++ own) t r u (in_statement K.I' w.sc' w.ls' at' (plain.let_statement s p (K.C.at_let p y) o') u)
    (StatementNumbers K.H t u (plain.let_statement s p y o) (plain.let_statement s p (K.C.at_let p y) o') r.tables)
let_alike K S M own m w at at' s p y o o' t r u n h f e q =
    let b0 : Bound = record { bindings = []; tables = t } in let b0' : Bound = record { bindings = []; tables = u } in
    let y' = K.C.at_let p y in
    let i = initialiser_at y in let i' = initialiser_at y' in
    let to : DeclaredNames → ItemNames → Scoped = λ ds t. record { scope = entered w.sc ds; tables = t } in let to' : DeclaredNames → ItemNames → Scoped = λ ds t. record { scope = entered w.sc' ds; tables = t } in
    let g = in_optional_type K.I (child at 1) y in let k = in_optional K.I w.sc w.ls (child at i) o in
    let g' = in_optional_type K.I' (child at' 1) y' in let k' = in_optional K.I' w.sc' w.ls' (child at' i') o' in
    let Z = named_ok (in_pattern K.I (child at 0) p b0) (λ b. and_then ((g >> k) b.tables) (λ t. Ok (to b.bindings t))) r e in
    let Y = named_ok ((g >> k) Z.0.tables) (λ t. Ok (to Z.0.bindings t)) r Z.2 in
    let X = named_ok (g Z.0.tables) k Y.0 Y.1 in
    let P = pattern_alike K.L M K.I K.I' K.fits (child at 0) (child at' 0) p b0 Z.0 b0' Z.1 q tt in
    let T = S.annotated P.made (child at 1) (child at' 1) p y Z.0.tables X.0 P.table n X.1 P.reached in
    let D = h T.made (grows_on P.grows T.grows) (child at i) (child at' i') X.0 Y.0 T.table X.2 T.reached in
    let es = P.answer.0 in
    let w1 = later K M P.made own m w P.grows in
    let scopes = scopes_later K.behind P.made D.made K.N K.stars K.known (bound p ++ own) (entered w.sc Z.0.bindings) (entered w.sc' es) (grows_on T.grows D.grows)
    (scopes_entered K.behind P.made K.N K.stars K.known own (bound p) Z.0.bindings es w.sc w.sc' P.answer.2 (pattern_binds K.I (child at 0) p b0 Z.0 Z.1) w1.scopes) in
    subst (λ (z : Scoped). ScopedPart K M (bound p ++ own) t z u (in_statement K.I' w.sc' w.ls' at' (plain.let_statement s p y' o') u)
    (StatementNumbers K.H t u (plain.let_statement s p y o) (plain.let_statement s p y' o') z.tables)) (the_same (to Z.0.bindings Y.0) r Y.2)
    (in_turn3 P T D
    (λ c d v. (
      entered w.sc' es,
      and_ok (in_pattern K.I' (child at' 0) p b0') (record { bindings = es; tables = P.table }) (λ b. and_then ((g' >> k') b.tables) (λ t. Ok (to' b.bindings t))) (Ok (to' es D.table)) P.answer.1
          (and_ok ((g' >> k') P.table) D.table (λ t. Ok (to' es t)) (Ok (to' es D.table)) (then_ok g' k' P.table T.table D.table d v) refl),
      scopes,
    ))
    (λ R sv c d v. let_numbers s p y y' o o' f c d v))

-- ---- all forms

mutual
  pub expression_alike : (K : Setting) → Special K → (M : Made) (own : Names) (m : List Around) (w : Stand K M own m) (at at' : List ℕ) (e : Expression) → Within K.N own m e → (t t' u : ItemNames) → in_expression K.I w.sc w.ls at e t ≡ Ok t' → Reached K.L M t u
      → ExpPart K M own m w at' e (changed K.C own m e) t t' u
  expression_alike K S M own m w at at' (plain.int s v k) a t t' u e q =
      unchanged K.L M t t' u (λ G v. Ok u ≡ Ok v) (ExpNumbers K.H t u (plain.int s v k) (plain.int s v (K.C.at_int s k))) e q refl
      (λ R b b' i i'. numbers_made_at s i i' (λ n. named.int n b v k) (λ n. named.int n b' v (K.C.at_int s k)) (λ n n' h g. S.suffix R s n n' b b' v k h g))
  expression_alike K S M own m w at at' (plain.bool s x) a t t' u e q =
      unchanged K.L M t t' u (λ G v. Ok u ≡ Ok v) (ExpNumbers K.H t u (plain.bool s x) (plain.bool s x)) e q refl (λ R. λ b b' i i'. numbers_made s i i' (λ n. named.bool n x) (λ n. named.bool n x) (λ n n' g. like_bool g))
  expression_alike K S M own m w at at' (plain.tuple s es) a t t' u e q =
      restated (all_alike K S M own m w at at' 0 0 es a t t' u e q) (λ z. z) (λ R sv k b b' i i'. numbers_node s i i' (λ n n' g. numbers_map (named.tuple n) (named.tuple n') (k Site.Value Site.Value) (λ c d h. like_tuple g h)))
  expression_alike K S M own m w at at' (plain.var s x) a t t' u e q = S.variable M own m w at at' s x t t' u a e q
  expression_alike K S M own m w at at' (plain.field s x f) a t t' u e q =
      restated (expression_alike K S M own m w (child at 0) (child at' 0) x a t t' u e q) (λ z. z)
      (λ R sv k b b' i i'. numbers_node s i i' (λ n n' g. numbers_map (λ c. named.field n c f.name) (λ c. named.field n' c f.name) (k false false Site.Place Site.Place) (λ c d h. like_field g h)))
  expression_alike K S M own m w at at' (plain.part s x j) a t t' u e q =
      restated (expression_alike K S M own m w (child at 0) (child at' 0) x a t t' u e q) (λ z. z)
      (λ R sv k b b' i i'. numbers_node s i i' (λ n n' g. numbers_map (λ c. named.part n c j) (λ c. named.part n' c j) (k false false Site.Place Site.Place) (λ c d h. like_part g h)))
  expression_alike K S M own m w at at' (plain.deref s x) a t t' u e q =
      restated (expression_alike K S M own m w (child at 0) (child at' 0) x a t t' u e q) (λ z. z)
      (λ R sv k b b' i i'. numbers_node s i i' (λ n n' g. numbers_map (named.deref n) (named.deref n') (k false false Site.Place Site.Place) (λ c d h. like_deref g h)))
  expression_alike K S M own m w at at' (plain.negate s x) a t t' u e q =
      restated (expression_alike K S M own m w (child at 0) (child at' 0) x a t t' u e q) (λ z. z)
      (λ R sv k b b' i i'. numbers_node s i i' (λ n n' g. numbers_map (named.negate n) (named.negate n') (k true true Site.Value Site.Value) (λ c d h. like_negate g h)))
  expression_alike K S M own m w at at' (plain.invert s x) a t t' u e q =
      restated (expression_alike K S M own m w (child at 0) (child at' 0) x a t t' u e q) (λ z. z)
      (λ R sv k b b' i i'. numbers_node s i i' (λ n n' g. numbers_map (named.invert n) (named.invert n') (k false false Site.Value Site.Value) (λ c d h. like_invert g h)))
  expression_alike K S M own m w at at' (plain.borrow s r x) a t t' u e q =
      restated (expression_alike K S M own m w (child at 0) (child at' 0) x a t t' u e q) (λ z. z)
      (λ R sv k b b' i i'. numbers_node s i i' (λ n n' g. numbers_map (named.borrow n r) (named.borrow n' r) (k false false Site.Place Site.Place) (λ c d h. like_borrow g h)))
  expression_alike K S M own m w at at' (plain.binary s o x y) a t t' u e q =
      let X = named_ok (in_expression K.I w.sc w.ls (child at 0) x t) (in_expression K.I w.sc w.ls (child at 1) y) t' e in
      let A = expression_alike K S M own m w (child at 0) (child at' 0) x a.0 t X.0 u X.1 q in
      let B = expression_alike K S A.made own m (later K M A.made own m w A.grows) (child at 1) (child at' 1) y a.1 X.0 t' A.table X.2 A.reached in
      in_turn A B (λ c d. then_ok (in_expression K.I' w.sc' w.ls' (child at' 0) (changed K.C own m x)) (in_expression K.I' w.sc' w.ls' (child at' 1) (changed K.C own m y)) u A.table B.table c d)
      (λ R sv k l b b' i i'. numbers_node s i i' (λ n n' g. numbers_then (k false false Site.Value Site.Value) (λ c d h. numbers_map (named.binary n o c) (named.binary n' o d) (l false false Site.Value Site.Value) (λ c d z. like_binary g h z))))
  expression_alike K S M own m w at at' (plain.assign s x y) a t t' u e q =
      let X = named_ok (in_expression K.I w.sc w.ls (child at 0) x t) (in_expression K.I w.sc w.ls (child at 1) y) t' e in
      let A = expression_alike K S M own m w (child at 0) (child at' 0) x a.0 t X.0 u X.1 q in
      let B = expression_alike K S A.made own m (later K M A.made own m w A.grows) (child at 1) (child at' 1) y a.1 X.0 t' A.table X.2 A.reached in
      in_turn A B (λ c d. then_ok (in_expression K.I' w.sc' w.ls' (child at' 0) (changed K.C own m x)) (in_expression K.I' w.sc' w.ls' (child at' 1) (changed K.C own m y)) u A.table B.table c d)
      (λ R sv k l b b' i i'. numbers_node s i i' (λ n n' g. numbers_then_told {W = Whole x} {W' = Whole (changed K.C own m x)} (k false false Site.Place Site.Place) (whole_told x false Site.Place) (whole_told (changed K.C own m x) false Site.Place) (λ c d a a' h. numbers_told {W = Waits c} {W' = Waits d} (keeps_waits_for x c) (keeps_waits_for (changed K.C own m x) d) (waits_told x c a) (waits_told (changed K.C own m x) d a') (λ z z' v v'.
      assigned_alike n n' c d z z' (λ i. of_expression false i y) (λ i. of_expression false i (changed K.C own m y)) v v' g h (λ i i'. l false false i i')))))
  expression_alike K S M own m w at at' (plain.update s o x y) a t t' u e q =
      let X = named_ok (in_expression K.I w.sc w.ls (child at 0) x t) (in_expression K.I w.sc w.ls (child at 1) y) t' e in
      let A = expression_alike K S M own m w (child at 0) (child at' 0) x a.0 t X.0 u X.1 q in
      let B = expression_alike K S A.made own m (later K M A.made own m w A.grows) (child at 1) (child at' 1) y a.1 X.0 t' A.table X.2 A.reached in
      in_turn A B (λ c d. then_ok (in_expression K.I' w.sc' w.ls' (child at' 0) (changed K.C own m x)) (in_expression K.I' w.sc' w.ls' (child at' 1) (changed K.C own m y)) u A.table B.table c d)
      (λ R sv k l b b' i i'. numbers_node s i i' (λ n n' g. numbers_then (k false false Site.Place Site.Place) (λ c d h. numbers_map (named.update n o c) (named.update n' o d) (l false false Site.Value Site.Value) (λ c d z. like_update g h z))))
  expression_alike K S M own m w at at' (plain.call s f es) a t t' u e q =
      let X = named_ok (callee K.I at f (variable_named w.sc f.name) t) (in_expressions K.I w.sc w.ls at 0 es) t' e in
      let A = callee_alike K M at at' f _ _ (variable_named w.sc f.name) (variable_named w.sc' f.name) (w.scopes.callees f.name a.0) t X.0 u X.1 q in
      let B = all_alike K S A.made own m (later K M A.made own m w A.grows) at at' 0 0 es a.1 X.0 t' A.table X.2 A.reached in
      in_turn A B (λ c d. then_ok (callee K.I' at' f (variable_named w.sc' f.name)) (in_expressions K.I' w.sc' w.ls' at' 0 (changed_all K.C own m es)) u A.table B.table c d)
      (λ R sv k l b b' i i'. numbers_node s i i' (λ n n' g. numbers_then k (λ c d h. called_alike n n' c d (λ i. numbering.of_expressions i es) (λ i. numbering.of_expressions i (changed_all K.C own m es)) g h l)))
  expression_alike K S M own m w at at' (plain.next_input s) a t t' u e q =
      let A = names_one K.L M K.I K.I' at at' t t' u (rt_in K.I (rt_span s)) (rt_in K.I' (rt_span s)) (λ n m. K.L.items n ≡ m) (K.fits.input (rt_span s)) e q in
      restated A.part (λ z. z) (λ R sv k b b' i i'. numbers_node s i i' (λ n n' g. numbers_map (λ z. named.next_input n) (λ z. named.next_input n') k (λ c d h. like_input g)))
  expression_alike K S M own m w at at' (plain.variant s c v es) a t t' u e q =
      let X = named_ok (names K.I at (variant_in K.I c v) t) (in_arguments K.I w.sc w.ls at es) t' e in
      let y = named_ok (variant_in K.I c v) (λ ns. numbered K.I at ns t) X.0 X.1 in
      let f = K.fits.variants c v y.0 y.1 in
      let A = names_alike K.L M K.I K.I' at at' t X.0 u f.0 f.1 (f.2 ∷ []) (f.2 ∷ []) (variant_in K.I c v) (variant_in K.I' c v) (y.1 ∙ ap (λ (l : List ℕ). Ok l) f.3) f.4 X.1 q in
      let B = arguments_alike K S A.made own m (later K M A.made own m w A.grows) at at' es a X.0 t' A.table X.2 A.reached in
      in_turn A B (λ x d. then_ok (names K.I' at' (variant_in K.I' c v)) (in_arguments K.I' w.sc' w.ls' at' (changed_arguments K.C own m es)) u A.table B.table x d)
      (λ R sv k l b b' i i'. numbers_node s i i' (λ n n' g. numbers_then k (λ y z h. numbers_map (named.variant n (first y.0) (second y.0)) (named.variant n' (first z.0) (second z.0)) l (λ es es' x.
      at_entries (λ y z. LikeExp K.H R (named.variant n (first y.0) (second y.0) es) (named.variant n' (first z.0) (second z.0) es')) (f.0 ∷ f.2 ∷ []) (f.1 ∷ f.2 ∷ []) false false y z h (like_variant g (sv.items_are f.0 ∙ f.5) x)))))
  expression_alike K S M own m w at at' (plain.make s x fs) a t t' u e q =
      let X = named_ok (names K.I at (one (struct_in K.I x)) t) (in_fields K.I w.sc w.ls at 0 fs) t' e in
      let A = names_one K.L M K.I K.I' at at' t X.0 u (struct_in K.I x) (struct_in K.I' x) (λ n m. K.L.items n ≡ m) (K.fits.structs x) X.1 q in
      let B = fields_alike K S A.part.made own m (later K M A.part.made own m w A.part.grows) at at' 0 0 fs a X.0 t' A.part.table X.2 A.part.reached in
      in_turn A.part B (λ c d. then_ok (names K.I' at' (one (struct_in K.I' x))) (in_fields K.I' w.sc' w.ls' at' 0 (changed_fields K.C own m fs)) u A.part.table B.table c d)
      (λ R sv k l b b' i i'. numbers_node s i i' (λ n n' g. numbers_then k (λ y z h. numbers_map (named.make n (first y.0)) (named.make n' (first z.0)) l (λ fs fs' x.
      at_entries (λ y z. LikeExp K.H R (named.make n (first y.0) fs) (named.make n' (first z.0) fs')) (A.first ∷ []) (A.second ∷ []) false false y z h (like_make g (sv.items_are A.first ∙ A.fits) x)))))
  expression_alike K S M own m w at at' (plain.print s x) a t t' u e q =
      restated (expression_alike K S M own m w (child at 0) (child at' 0) x a t t' u e q) (λ z. z)
      (λ R sv k b b' i i'. numbers_node s i i' (λ n n' g. numbers_map (named.print n) (named.print n') (k false false Site.Value Site.Value) (λ c d h. like_print g h)))
  expression_alike K S M own m w at at' (plain.block s x) a t t' u e q =
      restated (body_alike K S M own m w (child at 0) (child at' 0) x a t t' u e q) (λ z. z)
      (λ R sv k b b' i i'. numbers_node s i i' (λ n n' g. numbers_map (named.block n) (named.block n') (k (numbering.passed_on i) (numbering.passed_on i')) (λ c d h. like_block g h)))
  expression_alike K S M own m w at at' (plain.if s c x o) a t t' u e q =
      let X = named_ok (in_expression K.I w.sc w.ls (child at 0) c t) (in_block K.I w.sc w.ls (child at 1) x >> in_optional K.I w.sc w.ls (child at 2) o) t' e in
      let Y = named_ok (in_block K.I w.sc w.ls (child at 1) x X.0) (in_optional K.I w.sc w.ls (child at 2) o) t' X.2 in
      let A = expression_alike K S M own m w (child at 0) (child at' 0) c a.0 t X.0 u X.1 q in
      let B = body_alike K S A.made own m (later K M A.made own m w A.grows) (child at 1) (child at' 1) x a.1 X.0 Y.0 A.table Y.1 A.reached in
      let D = optional_alike K S B.made own m (later K M B.made own m w (grows_on A.grows B.grows)) (child at 2) (child at' 2) o a.2 Y.0 t' B.table Y.2 B.reached in
      let g' = in_block K.I' w.sc' w.ls' (child at' 1) (changed_body K.C own m x) in let h' = in_optional K.I' w.sc' w.ls' (child at' 2) (changed_optional K.C own m o) in
      in_turn3 A B D (λ y z v. then_ok (in_expression K.I' w.sc' w.ls' (child at' 0) (changed K.C own m c)) (g' >> h') u A.table D.table y (then_ok g' h' A.table B.table D.table z v))
      (λ R sv k l r b b' i i'. numbers_node s i i' (λ n n' g. numbers_then (k false false Site.Value Site.Value) (λ c d h. numbers_then (l (numbering.branch_site i o) (numbering.branch_site i' (changed_optional K.C own m o))) (λ x y z.
      numbers_map (named.if n c x) (named.if n' d y) (r (numbering.passed_on i) (numbering.passed_on i')) (λ _ _ v. like_if g h z v)))))
  expression_alike K S M own m w at at' (plain.if_let s p c x o) a t t' u e q =
      let rest : DeclaredNames → Naming = λ ds. in_expression K.I w.sc w.ls (child at 1) c >> in_block K.I (entered w.sc ds) w.ls (child at 2) x >> in_optional K.I w.sc w.ls (child at 3) o in
      let Z = named_ok (in_pattern K.I (child at 0) p (record { bindings = []; tables = t })) (λ b. rest b.bindings b.tables) t' e in
      let ds = Z.0.bindings in
      let X = named_ok (in_expression K.I w.sc w.ls (child at 1) c Z.0.tables) (in_block K.I (entered w.sc ds) w.ls (child at 2) x >> in_optional K.I w.sc w.ls (child at 3) o) t' Z.2 in
      let Y = named_ok (in_block K.I (entered w.sc ds) w.ls (child at 2) x X.0) (in_optional K.I w.sc w.ls (child at 3) o) t' X.2 in
      let P = pattern_alike K.L M K.I K.I' K.fits (child at 0) (child at' 0) p (record { bindings = []; tables = t }) Z.0 (record { bindings = []; tables = u }) Z.1 q tt in
      let es = P.answer.0 in
      let w1 = with_bindings K P.made own m (later K M P.made own m w P.grows) (bound p) ds es P.answer.2 (pattern_binds K.I (child at 0) p (record { bindings = []; tables = t }) Z.0 Z.1) in
      let A = expression_alike K S P.made own m (later K M P.made own m w P.grows) (child at 1) (child at' 1) c a.0 Z.0.tables X.0 P.table X.1 P.reached in
      let B = body_alike K S A.made (bound p ++ own) m (later K P.made A.made (bound p ++ own) m w1 A.grows) (child at 2) (child at' 2) x a.1 X.0 Y.0 A.table Y.1 A.reached in
      let D = optional_alike K S B.made own m (later K M B.made own m w (grows_on P.grows (grows_on A.grows B.grows))) (child at 3) (child at' 3) o a.2 Y.0 t' B.table Y.2 B.reached in
      let f' = in_expression K.I' w.sc' w.ls' (child at' 1) (changed K.C own m c) in
      let g' = in_block K.I' (entered w.sc' es) w.ls' (child at' 2) (changed_body K.C (bound p ++ own) m x) in let h' = in_optional K.I' w.sc' w.ls' (child at' 3) (changed_optional K.C own m o) in
      let rest' : DeclaredNames → Naming = λ ds. in_expression K.I' w.sc' w.ls' (child at' 1) (changed K.C own m c) >> in_block K.I' (entered w.sc' ds) w.ls' (child at' 2) (changed_body K.C (bound p ++ own) m x) >> in_optional K.I' w.sc' w.ls' (child at' 3) (changed_optional K.C own m o) in
      in_turn4 P A B D (λ y z v x. and_ok (in_pattern K.I' (child at' 0) p (record { bindings = []; tables = u })) (record { bindings = es; tables = P.table }) (λ b. rest' b.bindings b.tables) (Ok D.table) P.answer.1
      (then_ok f' (g' >> h') P.table A.table D.table z (then_ok g' h' A.table B.table D.table v x)))
      (λ R sv y k l r b b' i i'. numbers_node s i i' (λ n n' g. numbers_both keeps_counted keeps_counted (λ i0 i0'. numbers_then y (λ p p' v. numbers_both keeps_counted keeps_counted (λ j0 j0'.
      numbers_then (k false false Site.Scrutinee Site.Scrutinee) (λ c d h. numbers_both (keeps_between i0 j0) (keeps_between i0' j0') (λ _ _.
      numbers_then (l (numbering.branch_site i o) (numbering.branch_site i' (changed_optional K.C own m o))) (λ x y z. numbers_map (named.if_let n p c x) (named.if_let n' p' d y) (r (numbering.passed_on i) (numbering.passed_on i')) (λ _ _ r. like_if_let g v h z r)))))))))
  expression_alike K S M own m w at at' (plain.match s c l) a t t' u e q =
      let X = named_ok (in_expression K.I w.sc w.ls (child at 0) c t) (in_arms K.I w.sc w.ls at 1 l) t' e in
      let A = expression_alike K S M own m w (child at 0) (child at' 0) c a.0 t X.0 u X.1 q in
      let B = arms_alike K S A.made own m (later K M A.made own m w A.grows) at at' 1 1 l a.1 X.0 t' A.table X.2 A.reached in
      in_turn A B (λ y z. then_ok (in_expression K.I' w.sc' w.ls' (child at' 0) (changed K.C own m c)) (in_arms K.I' w.sc' w.ls' at' 1 (changed_arms K.C own m l)) u A.table B.table y z)
      (λ R sv k l b b' i i'. numbers_node s i i' (λ n n' g. numbers_then (k false false Site.Scrutinee Site.Scrutinee) (λ c d h. numbers_map (named.match n c) (named.match n' d) (l (numbering.passed_on i) (numbering.passed_on i')) (λ _ _ z. like_match g h z))))
  expression_alike K S M own m w at at' (plain.loop s l x) a t t' u e q =
      let p = position K.I at in let p' = position K.I' at' in
      let M1 = with_loops M t u in
      let q1 = loop_reached K.L M t u p p' q in
      let w1 = in_the_loop K M1 own m (later K M M1 own m w (grows_loops M t u)) l (number (length t.loops)) (number (length u.loops)) (newest_kept M.loops (length t.loops) (length u.loops)) in
      let A = body_alike K S M1 own (a_loop l 0 ∷ m) w1 (child at 0) (child at' 0) x a (with_loop p t) t' (with_loop p' u) e q1 in
      in_new_loop K M t t' u p p' (restated A (λ z. z)
      (λ R sv k b b' i i'. numbers_node s i i' (λ n n' g. numbers_then (numbers_loop R t u p p' (sv.loops (length t.loops) (length u.loops) (the_loop M A.made t u A.grows))) (λ j j' h. numbers_last (k Site.Value Site.Value) (λ c d z.
      numbers_both (keeps_is_left j) (keeps_is_left j') (λ y y'. numbers_give (named.loop n j y c) (named.loop n' j' y' d) (like_loop g h z)))))))
  expression_alike K S M own m w at at' (plain.while s l c x) a t t' u e q =
      let p = position K.I at in let p' = position K.I' at' in
      let M1 = with_loops M t u in
      let q1 = loop_reached K.L M t u p p' q in
      let w1 = in_the_loop K M1 own m (later K M M1 own m w (grows_loops M t u)) l (number (length t.loops)) (number (length u.loops)) (newest_kept M.loops (length t.loops) (length u.loops)) in
      let w2 = in_the_test K M1 own (a_loop l 0 ∷ m) w1 in
      let X = named_ok (in_expression K.I w2.sc w2.ls (child at 0) c (with_loop p t)) (in_block K.I w1.sc w1.ls (child at 1) x) t' e in
      let A = expression_alike K S M1 own (a_test ∷ a_loop l 0 ∷ m) w2 (child at 0) (child at' 0) c a.0 (with_loop p t) X.0 (with_loop p' u) X.1 q1 in
      let B = body_alike K S A.made own (a_loop l 0 ∷ m) (later K M1 A.made own (a_loop l 0 ∷ m) w1 A.grows) (child at 1) (child at' 1) x a.1 X.0 t' A.table X.2 A.reached in
      in_new_loop K M t t' u p p' (in_turn A B
      (λ y z. then_ok (in_expression K.I' w2.sc' w2.ls' (child at' 0) (changed K.C own (a_test ∷ a_loop l 0 ∷ m) c)) (in_block K.I' w1.sc' w1.ls' (child at' 1) (changed_body K.C own (a_loop l 0 ∷ m) x)) (with_loop p' u) A.table B.table y z)
      (λ R sv k r b b' i i'. numbers_node s i i' (λ n n' g. numbers_then (numbers_loop R t u p p' (sv.loops (length t.loops) (length u.loops) (the_loop M B.made t u (grows_on A.grows B.grows)))) (λ j j' h. numbers_then (k false false Site.Value Site.Value) (λ c d z.
      numbers_map (named.while n j c) (named.while n' j' d) (r Site.Value Site.Value) (λ _ _ y. like_while g h z y))))))
  expression_alike K S M own m w at at' (plain.while_let s l y0 c x) a t t' u e q =
      let p = position K.I at in let p' = position K.I' at' in
      let M1 = with_loops M t u in
      let q1 = loop_reached K.L M t u p p' q in
      let w1 = in_the_loop K M1 own m (later K M M1 own m w (grows_loops M t u)) l (number (length t.loops)) (number (length u.loops)) (newest_kept M.loops (length t.loops) (length u.loops)) in
      let w2 = in_the_test K M1 own (a_loop l 0 ∷ m) w1 in
      let rest : DeclaredNames → Naming = λ ds. in_expression K.I w2.sc w2.ls (child at 1) c >> in_block K.I (entered w1.sc ds) w1.ls (child at 2) x in
      let Z = named_ok (in_pattern K.I (child at 0) y0 (record { bindings = []; tables = with_loop p t })) (λ b. rest b.bindings b.tables) t' e in
      let ds = Z.0.bindings in
      let X = named_ok (in_expression K.I w2.sc w2.ls (child at 1) c Z.0.tables) (in_block K.I (entered w1.sc ds) w1.ls (child at 2) x) t' Z.2 in
      let P = pattern_alike K.L M1 K.I K.I' K.fits (child at 0) (child at' 0) y0 (record { bindings = []; tables = with_loop p t }) Z.0 (record { bindings = []; tables = with_loop p' u }) Z.1 q1 tt in
      let es = P.answer.0 in
      let w3 = with_bindings K P.made own (a_loop l 0 ∷ m) (later K M1 P.made own (a_loop l 0 ∷ m) w1 P.grows) (bound y0) ds es P.answer.2 (pattern_binds K.I (child at 0) y0 (record { bindings = []; tables = with_loop p t }) Z.0 Z.1) in
      let A = expression_alike K S P.made own (a_test ∷ a_loop l 0 ∷ m) (later K M1 P.made own (a_test ∷ a_loop l 0 ∷ m) w2 P.grows) (child at 1) (child at' 1) c a.0 Z.0.tables X.0 P.table X.1 P.reached in
      let B = body_alike K S A.made (bound y0 ++ own) (a_loop l 0 ∷ m) (later K P.made A.made (bound y0 ++ own) (a_loop l 0 ∷ m) w3 A.grows) (child at 2) (child at' 2) x a.1 X.0 t' A.table X.2 A.reached in
      let rest' : DeclaredNames → Naming = λ ds. in_expression K.I' w2.sc' w2.ls' (child at' 1) (changed K.C own (a_test ∷ a_loop l 0 ∷ m) c) >> in_block K.I' (entered w1.sc' ds) w1.ls' (child at' 2) (changed_body K.C (bound y0 ++ own) (a_loop l 0 ∷ m) x) in
      in_new_loop K M t t' u p p' (in_turn3 P A B
      (λ y z v. and_ok (in_pattern K.I' (child at' 0) y0 (record { bindings = []; tables = with_loop p' u })) (record { bindings = es; tables = P.table }) (λ b. rest' b.bindings b.tables) (Ok B.table) P.answer.1
      (then_ok (in_expression K.I' w2.sc' w2.ls' (child at' 1) (changed K.C own (a_test ∷ a_loop l 0 ∷ m) c)) (in_block K.I' w3.sc' w3.ls' (child at' 2) (changed_body K.C (bound y0 ++ own) (a_loop l 0 ∷ m) x)) P.table A.table B.table z v))
      (λ R sv y k r b b' i i'. numbers_node s i i' (λ n n' g. numbers_then (numbers_loop R t u p p' (sv.loops (length t.loops) (length u.loops) (the_loop M B.made t u (grows_on P.grows (grows_on A.grows B.grows))))) (λ j j' h. numbers_both keeps_counted keeps_counted (λ i0 i0'.
      numbers_then y (λ p p' v. numbers_both keeps_counted keeps_counted (λ j0 j0'. numbers_then (k false false Site.Scrutinee Site.Scrutinee) (λ c d z. numbers_both (keeps_between i0 j0) (keeps_between i0' j0') (λ _ _.
      numbers_map (named.while_let n j p c) (named.while_let n' j' p' d) (r Site.Value Site.Value) (λ _ _ y. like_while_let g h v z y))))))))))
  expression_alike K S M own m w at at' (plain.break s l) a t t' u e q = S.broken M own m w at at' s l t t' u a e q
  expression_alike K S M own m w at at' (plain.continue s l) a t t' u e q = S.continued M own m w at at' s l t t' u a e q
  expression_alike K S M own m w at at' (plain.return s o) a t t' u e q =
      S.returned M own m w at at' s o (changed_optional K.C own m o) t t' u a.0 (kept_form K.C own m o) (λ at1 v q1. optional_alike K S M own m w (child at 0) at1 o a.1 t t' v e q1) q

  pub all_alike : (K : Setting) → Special K → (M : Made) (own : Names) (m : List Around) (w : Stand K M own m) (at at' : List ℕ) (j j' : ℕ) (e : Expressions) → AllWithin K.N own m e → (t t' u : ItemNames) → in_expressions K.I w.sc w.ls at j e t ≡ Ok t' → Reached K.L M t u
      → Part K.L M t t' u (λ G v. in_expressions K.I' w.sc' w.ls' at' j' (changed_all K.C own m e) u ≡ Ok v) (AllNumbers K.H t u e (changed_all K.C own m e) t')
  all_alike K S M own m w at at' j j' plain.no_expression a t t' u e q =
      unchanged K.L M t t' u (λ G v. Ok u ≡ Ok v) (AllNumbers K.H t u plain.no_expression plain.no_expression) e q refl (λ R. λ i i'. numbers_give named.no_exp named.no_exp like_no_exp)
  all_alike K S M own m w at at' j j' (plain.expression_and x xs) a t t' u e q =
      let X = named_ok (in_expression K.I w.sc w.ls (child at j) x t) (in_expressions K.I w.sc w.ls at (next j) xs) t' e in
      let A = expression_alike K S M own m w (child at j) (child at' j') x a.0 t X.0 u X.1 q in
      let B = all_alike K S A.made own m (later K M A.made own m w A.grows) at at' (next j) (next j') xs a.1 X.0 t' A.table X.2 A.reached in
      in_turn A B (λ y z. then_ok (in_expression K.I' w.sc' w.ls' (child at' j') (changed K.C own m x)) (in_expressions K.I' w.sc' w.ls' at' (next j') (changed_all K.C own m xs)) u A.table B.table y z)
      (λ R sv k l i i'. numbers_then (k false false i i') (λ c d h. numbers_map (named.exp_and c) (named.exp_and d) (l i i') (λ _ _ z. like_more_exps h z)))

  pub optional_alike : (K : Setting) → Special K → (M : Made) (own : Names) (m : List Around) (w : Stand K M own m) (at at' : List ℕ) (e : OptionalExpression) → OptionalWithin K.N own m e → (t t' u : ItemNames) → in_optional K.I w.sc w.ls at e t ≡ Ok t' → Reached K.L M t u
      → ElsePart K M own m w at' e (changed_optional K.C own m e) t t' u
  optional_alike K S M own m w at at' plain.absent a t t' u e q =
      unchanged K.L M t t' u (λ G v. Ok u ≡ Ok v) (ElseNumbers K.H t u plain.absent plain.absent) e q refl (λ R. λ i i'. numbers_give named.absent named.absent like_absent)
  optional_alike K S M own m w at at' (plain.present x) a t t' u e q =
      restated (expression_alike K S M own m w at at' x a t t' u e q) (λ z. z) (λ R sv k i i'. numbers_map named.present named.present (k false false i i') (λ c d h. like_present h))

  pub arguments_alike : (K : Setting) → Special K → (M : Made) (own : Names) (m : List Around) (w : Stand K M own m) (at at' : List ℕ) (e : OptionalExpressions) → ArgumentsWithin K.N own m e → (t t' u : ItemNames) → in_arguments K.I w.sc w.ls at e t ≡ Ok t' → Reached K.L M t u
      → Part K.L M t t' u (λ G v. in_arguments K.I' w.sc' w.ls' at' (changed_arguments K.C own m e) u ≡ Ok v) (ArgumentsNumbers K.H t u e (changed_arguments K.C own m e) t')
  arguments_alike K S M own m w at at' plain.no_list a t t' u e q =
      unchanged K.L M t t' u (λ G v. Ok u ≡ Ok v) (ArgumentsNumbers K.H t u plain.no_list plain.no_list) e q refl (λ R. numbers_give named.no_exp named.no_exp like_no_exp)
  arguments_alike K S M own m w at at' (plain.a_list es) a t t' u e q =
      restated (all_alike K S M own m w at at' 0 0 es a t t' u e q) (λ z. z) (λ R sv k. k Site.Expects Site.Expects)

  pub fields_alike : (K : Setting) → Special K → (M : Made) (own : Names) (m : List Around) (w : Stand K M own m) (at at' : List ℕ) (j j' : ℕ) (e : FieldExpressions) → FieldsWithin K.N own m e → (t t' u : ItemNames) → in_fields K.I w.sc w.ls at j e t ≡ Ok t' → Reached K.L M t u
      → Part K.L M t t' u (λ G v. in_fields K.I' w.sc' w.ls' at' j' (changed_fields K.C own m e) u ≡ Ok v) (FieldsNumbers K.H t u e (changed_fields K.C own m e) t')
  fields_alike K S M own m w at at' j j' plain.no_field a t t' u e q =
      unchanged K.L M t t' u (λ G v. Ok u ≡ Ok v) (FieldsNumbers K.H t u plain.no_field plain.no_field) e q refl (λ R. numbers_give named.no_field named.no_field like_no_field)
  fields_alike K S M own m w at at' j j' (plain.field_and f x xs) a t t' u e q =
      let X = named_ok (in_expression K.I w.sc w.ls (child at j) x t) (in_fields K.I w.sc w.ls at (next j) xs) t' e in
      let A = expression_alike K S M own m w (child at j) (child at' j') x a.0 t X.0 u X.1 q in
      let B = fields_alike K S A.made own m (later K M A.made own m w A.grows) at at' (next j) (next j') xs a.1 X.0 t' A.table X.2 A.reached in
      in_turn A B (λ y z. then_ok (in_expression K.I' w.sc' w.ls' (child at' j') (changed K.C own m x)) (in_fields K.I' w.sc' w.ls' at' (next j') (changed_fields K.C own m xs)) u A.table B.table y z)
      (λ R sv k l. numbers_then (k false false Site.Expects Site.Expects) (λ c d h. numbers_map (named.field_and f.name c) (named.field_and f.name d) l (λ _ _ z. like_more_fields h z)))

  pub arms_alike : (K : Setting) → Special K → (M : Made) (own : Names) (m : List Around) (w : Stand K M own m) (at at' : List ℕ) (j j' : ℕ) (e : Arms) → ArmsWithin K.N own m e → (t t' u : ItemNames) → in_arms K.I w.sc w.ls at j e t ≡ Ok t' → Reached K.L M t u
      → Part K.L M t t' u (λ G v. in_arms K.I' w.sc' w.ls' at' j' (changed_arms K.C own m e) u ≡ Ok v) (ArmsNumbers K.H t u e (changed_arms K.C own m e) t')
  arms_alike K S M own m w at at' j j' plain.no_arm a t t' u e q =
      unchanged K.L M t t' u (λ G v. Ok u ≡ Ok v) (ArmsNumbers K.H t u plain.no_arm plain.no_arm) e q refl (λ R. λ i i'. numbers_give named.no_arm named.no_arm like_no_arm)
  arms_alike K S M own m w at at' j j' (plain.arm_and p x xs) a t t' u e q =
      let arm : DeclaredNames → Naming = λ ds. in_expression K.I (entered w.sc ds) w.ls (child at (next j)) x in
      let Y = named_ok (pattern_then K.I (child at j) p arm t) (in_arms K.I w.sc w.ls at (next (next j)) xs) t' e in
      let Z = named_ok (in_pattern K.I (child at j) p (record { bindings = []; tables = t })) (λ b. arm b.bindings b.tables) Y.0 Y.1 in
      let ds = Z.0.bindings in
      let P = pattern_alike K.L M K.I K.I' K.fits (child at j) (child at' j') p (record { bindings = []; tables = t }) Z.0 (record { bindings = []; tables = u }) Z.1 q tt in
      let es = P.answer.0 in
      let w1 = with_bindings K P.made own m (later K M P.made own m w P.grows) (bound p) ds es P.answer.2 (pattern_binds K.I (child at j) p (record { bindings = []; tables = t }) Z.0 Z.1) in
      let A = expression_alike K S P.made (bound p ++ own) m w1 (child at (next j)) (child at' (next j')) x a.0 Z.0.tables Y.0 P.table Z.2 P.reached in
      let B = arms_alike K S A.made own m (later K M A.made own m w (grows_on P.grows A.grows)) at at' (next (next j)) (next (next j')) xs a.1 Y.0 t' A.table Y.2 A.reached in
      let arm' : DeclaredNames → Naming = λ ds. in_expression K.I' (entered w.sc' ds) w.ls' (child at' (next j')) (changed K.C (bound p ++ own) m x) in
      in_turn3 P A B
      (λ y z v. then_ok (pattern_then K.I' (child at' j') p arm') (in_arms K.I' w.sc' w.ls' at' (next (next j')) (changed_arms K.C own m xs)) u A.table B.table
      (and_ok (in_pattern K.I' (child at' j') p (record { bindings = []; tables = u })) (record { bindings = es; tables = P.table }) (λ b. arm' b.bindings b.tables) (Ok A.table) P.answer.1 z) v)
      (λ R sv y k l i i'. numbers_both keeps_counted keeps_counted (λ i0 i0'. numbers_then y (λ p p' v. numbers_both keeps_counted keeps_counted (λ j0 j0'. numbers_both (keeps_between i0 j0) (keeps_between i0' j0') (λ _ _.
      numbers_then (k false false i i') (λ c d z. numbers_map (named.arm_and p c) (named.arm_and p' d) (l i i') (λ _ _ h. like_more_arms v z h)))))))

  pub body_alike : (K : Setting) → Special K → (M : Made) (own : Names) (m : List Around) (w : Stand K M own m) (at at' : List ℕ) (e : Body) → BodyWithin K.N own m e → (t t' u : ItemNames) → in_block K.I w.sc w.ls at e t ≡ Ok t' → Reached K.L M t u
      → Part K.L M t t' u (λ G v. in_block K.I' w.sc' w.ls' at' (changed_body K.C own m e) u ≡ Ok v) (BodyNumbers K.H t u e (changed_body K.C own m e) t')
  body_alike K S M own m w at at' (plain.body s ss o) a t t' u e q =
      let k = number (length (listed ss)) in let k' = number (length (listed (changed_statements K.C own m ss))) in
      let X = named_ok (in_statements K.I w.sc w.ls at 0 ss t) (λ r. in_optional K.I r.scope w.ls (child at k) o r.tables) t' e in
      let A = statements_alike K S M own m w at at' 0 0 ss a.1 t X.0 u X.1 q in
      let w1 = in_scope K A.made own (behind_all own ss) m (later K M A.made own m w A.grows) X.0.scope A.answer.0 A.answer.2 in
      let B = optional_alike K S A.made (behind_all own ss) m w1 (child at k) (child at' k') o a.2 X.0.tables t' A.table X.2 A.reached in
      S.blocks M own m w at at' (plain.body s ss o) (plain.body s (changed_statements K.C own m ss) (changed_optional K.C (behind_all own ss) m o)) t t' u a.0 e q (λ free.
      in_turn A B (λ y z. and_ok (in_statements K.I' w.sc' w.ls' at' 0 (changed_statements K.C own m ss) u) (record { scope = A.answer.0; tables = A.table })
      (λ r. in_optional K.I' r.scope w.ls' (child at' k') (changed_optional K.C (behind_all own ss) m o) r.tables) (Ok B.table) A.answer.1 z)
      (λ R sv k l i i'. numbers_node_at s i i' (λ n n' f g. numbers_then k (λ c d h. numbers_map (named.body n c) (named.body n' d) (l i i') (λ _ _ z. like_body (subst (λ (s : Span). K.H.copied s) (sym f) free) g h z)))))

  pub statement_alike : (K : Setting) → Special K → (M : Made) (own : Names) (m : List Around) (w : Stand K M own m) (at at' : List ℕ) (e : Statement) → StatementWithin K.N own m e → (t : ItemNames) (r : Scoped) (u : ItemNames) → in_statement K.I w.sc w.ls at e t ≡ Ok r → Reached K.L M t u
      → Part K.L M t r.tables u (λ G v. (sc1 : Variables) × (in_statement K.I' w.sc' w.ls' at' (changed_statement K.C own m e) u ≡ Ok (record { scope = sc1; tables = v })) × Scopes K.behind G K.N K.stars K.known (bound_by e ++ own) r.scope sc1) (StatementNumbers K.H t u e (changed_statement K.C own m e) r.tables)
  statement_alike K S M own m w at at' (plain.let_statement s p y o) a t r u e q = let_alike K S M own m w at at' s p y o (changed_optional K.C own m o) t r u a.0
      (λ G g at1 at2 t1 t2 v e q. optional_alike K S G own m (later K M G own m w g) at1 at2 o a.1 t1 t2 v e q) (kept_form K.C own m o) e q
  statement_alike K S M own m w at at' (plain.expression_statement s x b) a t r u e q =
      let X = named_ok (in_expression K.I w.sc w.ls (child at 0) x t) (λ t. Ok (record { scope = w.sc; tables = t })) r e in
      let A = expression_alike K S M own m w (child at 0) (child at' 0) x a t X.0 u X.1 q in
      let to : ItemNames → Scoped = λ t. record { scope = w.sc; tables = t } in let to' : ItemNames → Scoped = λ t. record { scope = w.sc'; tables = t } in
      subst (λ (z : Scoped). Part K.L M t z.tables u (λ G v. (sc1 : Variables) × (in_statement K.I' w.sc' w.ls' at' (plain.expression_statement s (changed K.C own m x) b) u ≡ Ok (record { scope = sc1; tables = v })) × Scopes K.behind G K.N K.stars K.known own z.scope sc1)
      (StatementNumbers K.H t u (plain.expression_statement s x b) (plain.expression_statement s (changed K.C own m x) b) z.tables)) (the_same (to X.0) r X.2)
      (restated A (λ z. (w.sc', and_ok (in_expression K.I' w.sc' w.ls' (child at' 0) (changed K.C own m x) u) A.table (λ t. Ok (to' t)) (Ok (to' A.table)) z refl, (later K M A.made own m w A.grows).scopes))
      (λ R sv k. numbers_node s Site.Value Site.Value (λ n n' g. numbers_map (λ c. named.evaluates n c b) (λ c. named.evaluates n' c b) (k false false Site.Value Site.Value) (λ c d h. like_evaluates g h))))

  pub statements_alike : (K : Setting) → Special K → (M : Made) (own : Names) (m : List Around) (w : Stand K M own m) (at at' : List ℕ) (j j' : ℕ) (e : Statements) → StatementsWithin K.N own m e → (t : ItemNames) (r : Scoped) (u : ItemNames) → in_statements K.I w.sc w.ls at j e t ≡ Ok r → Reached K.L M t u
      → Part K.L M t r.tables u (λ G v. (sc1 : Variables) × (in_statements K.I' w.sc' w.ls' at' j' (changed_statements K.C own m e) u ≡ Ok (record { scope = sc1; tables = v })) × Scopes K.behind G K.N K.stars K.known (behind_all own e) r.scope sc1) (StatementsNumbers K.H t u e (changed_statements K.C own m e) r.tables)
  statements_alike K S M own m w at at' j j' plain.no_statement a t r u e q =
      let to : ItemNames → Scoped = λ t. record { scope = w.sc; tables = t } in
      subst (λ (z : Scoped). Part K.L M t z.tables u (λ G v. (sc1 : Variables) × (in_statements K.I' w.sc' w.ls' at' j' plain.no_statement u ≡ Ok (record { scope = sc1; tables = v })) × Scopes K.behind G K.N K.stars K.known own z.scope sc1)
      (StatementsNumbers K.H t u plain.no_statement plain.no_statement z.tables)) (the_same (to t) r e)
      (unchanged K.L M t t u (λ G v. (sc1 : Variables) × (in_statements K.I' w.sc' w.ls' at' j' plain.no_statement u ≡ Ok (record { scope = sc1; tables = v })) × Scopes K.behind G K.N K.stars K.known own w.sc sc1)
      (StatementsNumbers K.H t u plain.no_statement plain.no_statement) refl q (w.sc', refl, w.scopes) (λ R. numbers_give named.no_statement named.no_statement like_no_statement))
  statements_alike K S M own m w at at' j j' (plain.statement_and x xs) a t r u e q =
      let X = named_ok (in_statement K.I w.sc w.ls (child at j) x t) (λ r. in_statements K.I r.scope w.ls at (next j) xs r.tables) r e in
      let A = statement_alike K S M own m w (child at j) (child at' j') x a.0 t X.0 u X.1 q in
      let w1 = in_scope K A.made own (bound_by x ++ own) m (later K M A.made own m w A.grows) X.0.scope A.answer.0 A.answer.2 in
      let B = statements_alike K S A.made (bound_by x ++ own) m w1 at at' (next j) (next j') xs a.1 X.0.tables r A.table X.2 A.reached in
      in_turn A B (λ y z. (
        z.0,
        and_ok (in_statement K.I' w.sc' w.ls' (child at' j') (changed_statement K.C own m x) u) (record { scope = A.answer.0; tables = A.table })
            (λ r. in_statements K.I' r.scope w.ls' at' (next j') (changed_statements K.C (bound_by x ++ own) m xs) r.tables) (Ok (record { scope = z.0; tables = B.table })) A.answer.1 z.1,
        z.2,
      ))
      (λ R sv k l. numbers_then k (λ c d h. numbers_map (named.statement_and c) (named.statement_and d) l (λ _ _ z. like_more_statements h z)))
