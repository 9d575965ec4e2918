-- Returns of a run that is moved: `return` of the variant of Return, with the operand or, where that is a unit, behind it. The operand is
-- alike wherever it stands.
use Rattle.std.proofs.Common.{◌≡◌, ℕ, Bool, true, false, ◌&&◌, if◌then◌else◌, List, [], ◌∷◌, ◌++◌, length, Option, Some, Ok, refl, sym, ap, ◌∙◌, append-nil}
use Rattle.rx_core.specs.declared.types.Span.{Span}
use Rattle.rx_tree.specs.Lists.{listed}
use Rattle.rx_tree.specs.Plain as plain
use Rattle.rx_tree.specs.Plain.{TypeTree, PatternTree, Expression, OptionalExpression, OptionalExpressions, Body, Statement, Statements}
use Rattle.rx_resolve_names.specs.Scopes.{Variables}
use Rattle.rx_resolve_names.specs.declared.resolved.ItemNames.{ItemNames}
use Rattle.rx_resolve_names.specs.declared.resolved.NodeNames.{NodeNames}
use Rattle.rx_resolve_names.specs.Meant.{number, Around}
use Rattle.rx_resolve_names.specs.Steps.{Outcome, and_then, nothing, Inside, child, entry, with_names, with_variable, names}
use Rattle.rx_resolve_names.specs.Names.{variant_in, in_expression, in_arguments, Scoped}
use Rattle.rx_typed.specs.declared.nodes.Node.{Node}
use Rattle.rx_typed.specs.declared.nodes.Site.{Site}
use Rattle.rx_typed.specs.declared.nodes.Stage.{Stage}
use Rattle.rx_typed.specs.Named as named
use Rattle.rx_typed.specs.Named.{Exp, Exps, Else}
use Rattle.rx_typed.specs.Naming as numbering
use Rattle.rx_typed.specs.Naming.{Numbering, give, an_entry, first, second, of_pattern, of_expression, of_optional, of_statement}
use Rattle.rx_hoist_extraction.specs.Names.{Names}
use Rattle.rx_hoist_extraction.specs.Fresh.{fresh_variable}
use Rattle.rx_hoist_extraction.specs.Plan.{to_return, has_exit, is_unit, enum_name, exit_name}
use Rattle.rx_hoist_extraction.specs.Made.{ident}
use Rattle.rx_hoist_extraction.specs.Moved.{returned, returned_unit as returned_in_front, moved_return}
use Rattle.rx_engine_names.specs.Renaming.{Renaming, Made}
use Rattle.rx_engine_names.specs.LikeNamed.{Holes, SameSpan, LikeExp, like_other_return, LikeElse}
use Rattle.rx_engine_names.specs.Moves.{Moves, returned_none, returned_value, returned_unit, OneExp, one_exp, NoExp, IsVariant, moved_return as moved_as_return, moved, ExitsNamed}
use Rattle.rx_engine_names.proofs.SideBySide.{the_same, then_ok, Reached, grows_not, Kind, Numbers, numbers_give, numbers_node, numbers_right, Part, in_turn}
use Rattle.rx_engine_names.proofs.Fitting.{FitItems}
use Rattle.rx_engine_names.proofs.Standing.{ElseNumbers, keeps_counted, keeps_between, keeps_annotates, keeps_waits, Setting, Stand, ExpPart, ElsePart, SameForm}
use Rattle.rx_engine_names.proofs.OneSided.{second_node, second_map, second_first, second_last, second_then, second_entry, second_declare, first_gives, first_map}
use Rattle.rx_engine_names.proofs.MadePlaces.{MadeExp, EntryAlone, entry_alone, variant_of, variant_at, is_that, made_bare}
use Rattle.rx_engine_names.proofs.MovedPlaces.{K, loose}

-- ---- the operand

-- it is missing in both
quiet : {H : Holes} {R : Renaming} {t u t1 u1 : ItemNames} {es es' : List NodeNames} (k k' : Site) → Numbers (LikeElse H R) t u t1 u1 es es' (of_optional k plain.absent) (of_optional k' plain.absent)
    → Numbers (λ (z : Unit {0}) (z' : Unit {0}). LikeElse H R named.absent named.absent) t u t1 u1 es es' (give tt) (give tt)
quiet k k' N = record { holds = λ c c' rest rest' q e e'. let x = N.holds c c' rest rest' q e e' in record { like = x.like; cursors = x.cursors; left = x.left; left' = x.left' } }

-- it stands as an expression in the second
operand : {H : Holes} {R : Renaming} {t u t1 u1 : ItemNames} {es es' : List NodeNames} (k k' : Site) (o : OptionalExpression) (e' : Expression) → Numbers (LikeElse H R) t u t1 u1 es es' (of_optional k o) (of_optional k' (plain.present e'))
    → Numbers (λ a z. LikeElse H R a (named.present z)) t u t1 u1 es es' (of_optional k o) (of_expression false k' e')
operand k k' o e' N = record { holds = λ c c' rest rest' q e f. let x = N.holds c c' rest rest' q e f in record { like = x.like; cursors = x.cursors; left = x.left; left' = x.left' } }

-- ---- the unit that is bound in front

data IsBinding : named.Pattern → Type 0 where
  is_binding : {n : Node} {x : ℕ} → IsBinding (named.bind n x false)

-- the text's return, and the `let` with its operand
data OperandOf (H : Holes) (R : Renaming) (n : Node) : Exp → Exp → Type 0 where
  operand_of : {o : Else} {z : Exp} → LikeElse H R o (named.present z) → OperandOf H R n (named.return n o) z

data LetOf (H : Holes) (R : Renaming) (n : Node) : Exp → named.Statement → Type 0 where
  let_of : {o : Else} {l p y : Node} {x : ℕ} {z : Exp} → LikeElse H R o (named.present z) → LetOf H R n (named.return n o) (named.lets l (named.bind p x false) (Some (named.a_tuple y named.no_written)) z)

let_done : {H : Holes} {R : Renaming} (n l y : Node) (p : named.Pattern) (a z : Exp) → IsBinding p → OperandOf H R n a z → LetOf H R n a (named.lets l p (Some (named.a_tuple y named.no_written)) z)
let_done n l y p a z is_binding (operand_of d) = let_of d

data LetsOf (H : Holes) (R : Renaming) (n : Node) : Exp → named.Statements → Type 0 where
  lets_of : {a : Exp} {s : named.Statement} → LetOf H R n a s → LetsOf H R n a (named.statement_and s named.no_statement)

module _ (items : ℕ → ℕ) (V : Moves) (I I' : Inside) (start : Variables) (F : FitItems items I I') (E : ExitsNamed V I') where
  abbrev J : Setting
  J = K items V I I' start F E

  abbrev Operand : (M : Made) (own : Names) (m : List Around) → Stand J M own m → OptionalExpression → OptionalExpression → ItemNames → ItemNames → Type 0
  Operand M own m w o o' t t' = (at' : List ℕ) (v : ItemNames) → Reached (loose items) M t v → ElsePart J M own m w at' o o' t t' v

  abbrev bare : Expression
  bare = variant_of (loose items) V I' start [] to_return plain.no_list

  -- ---- without an operand

  return_numbers : (R : Renaming) (s : Span) (i i' : Site) {t u t1 u1 u2 : ItemNames} {es es' fs fs' : List NodeNames} (m : Bool) (k k' : Site)
      → Numbers (LikeElse (moved V) R) t u t1 u1 es es' (of_optional k plain.absent) (of_optional k' plain.absent) → MadeExp (λ R b. IsVariant V to_return NoExp b) t1 u1 bare t1 R u2 fs fs'
      → Numbers (LikeExp (moved V) R) t u t1 u2 (es ++ fs) (es' ++ fs') (of_expression m i (plain.return s plain.absent)) (of_expression m i' (plain.return s (plain.present bare)))
  return_numbers R s i i' m k k' N l =
      numbers_node s i i' (λ n n' g. second_first {m' = give tt} {k = λ _. numbering.and_then (of_optional Site.Expects (plain.present bare)) (λ o. give (named.return n' o))} (quiet k k' N)
      (λ z d. second_map {S = λ a o. LikeExp (moved V) R a (named.return n' o)} (named.return n') (second_map {S = λ a b. LikeExp (moved V) R a (named.return n' (named.present b))} named.present
      (first_gives (named.return n named.absent) (l false Site.Expects) (λ b v. like_other_return d (moved_as_return g (returned_none v)))) (λ a b x. x)) (λ a o x. x)))

  moved_none : (M : Made) (own : Names) (m : List Around) (w : Stand J M own m) (at' : List ℕ) (s : Span) (t t' u : ItemNames) → has_exit to_return V.plan.exits ≡ true → Operand M own m w plain.absent plain.absent t t'
      → Reached (loose items) M t u → ExpPart J M own m w at' (plain.return s plain.absent) (plain.return s (plain.present bare)) t t' u
  moved_none M own m w at' s t t' u c h q =
      let X = h (child at' 0) u q in
      let B = made_bare (loose items) V I' w.sc' w.ls' X.made (child at' 0) to_return t' X.table (E to_return c refl) X.reached in
      in_turn X B (λ x z. ap (λ (v : ItemNames). in_expression I' w.sc' w.ls' (child at' 0) bare v) (the_same u X.table x) ∙ z)
      (λ R sv k l m' m'' i i'. return_numbers R s i i' m' Site.Expects Site.Expects (k Site.Expects Site.Expects) l)

  -- ---- a value

  abbrev with_one : Expression → Expression
  with_one e' = variant_of (loose items) V I' start [] to_return (plain.a_list (plain.expression_and e' plain.no_expression))

  value_numbers : (R : Renaming) (s : Span) (i i' : Site) (e e' : Expression) → is_unit V.plan.result ≡ false → {t u u1 t2 u2 : ItemNames} {es es' fs fs' : List NodeNames} (m : Bool)
      → EntryAlone t u (V.enum ∷ V.variant to_return ∷ []) t R u1 es es' → ElseNumbers (moved V) t u1 (plain.present e) (plain.present e') t2 R u2 fs fs'
      → Numbers (LikeExp (moved V) R) t u t2 u2 (es ++ fs) (es' ++ fs') (of_expression m i (plain.return s (plain.present e))) (of_expression m i' (plain.return s (plain.present (with_one e'))))
  value_numbers R s i i' e e' is m k l =
      numbers_node s i i' (λ n n' g. second_map {S = λ a o. LikeExp (moved V) R a (named.return n' o)} (named.return n') (second_map {S = λ a b. LikeExp (moved V) R a (named.return n' (named.present b))} named.present
      (second_node V.place Site.Expects (λ d h. second_first k (λ x r. second_map {S = λ a es. LikeExp (moved V) R a (named.return n' (named.present (variant_at (loose items) V I' start [] d x es)))} (variant_at (loose items) V I' start [] d x)
      (second_map {S = λ a z. LikeExp (moved V) R a (named.return n' (named.present (variant_at (loose items) V I' start [] d x (named.exp_and z named.no_exp))))} (λ z. named.exp_and z named.no_exp)
      (first_map (named.return n) (operand Site.Expects Site.Expects (plain.present e) e' (l Site.Expects Site.Expects))
      (λ o z like. like_other_return like (moved_as_return g (returned_value is (is_that (loose items) V I' start [] to_return d (OneExp z) x (named.exp_and z named.no_exp) h r one_exp)))))
      (λ a z y. y)) (λ a es y. y)))) (λ a b y. y)) (λ a o y. y))

  moved_value : (M : Made) (own : Names) (m : List Around) (w : Stand J M own m) (at' : List ℕ) (s : Span) (e e' : Expression) (t t' u : ItemNames) → has_exit to_return V.plan.exits ≡ true → is_unit V.plan.result ≡ false
      → Operand M own m w (plain.present e) (plain.present e') t t' → Reached (loose items) M t u → ExpPart J M own m w at' (plain.return s (plain.present e)) (plain.return s (plain.present (with_one e'))) t t' u
  unfolding entry_alone
  moved_value M own m w at' s e e' t t' u c is h q =
      let r = variant_in I' (ident V.place (enum_name V.plan)) (ident V.place (exit_name to_return)) in
      let at1 = child at' 0 in
      let X = entry_alone (loose items) M I' at1 t u V.enum (V.variant to_return ∷ []) r (E to_return c refl) q in
      let Y = h (child at1 0) X.table X.reached in
      in_turn X Y (λ x y. then_ok (names I' at1 r) (in_arguments I' w.sc' w.ls' at1 (plain.a_list (plain.expression_and e' plain.no_expression))) u X.table Y.table x
      (then_ok (in_expression I' w.sc' w.ls' (child at1 0) e') nothing X.table Y.table Y.table y refl))
      (λ R sv k l m' m'' i i'. value_numbers R s i i' e e' is m' k l)

  -- ---- a unit

  abbrev fresh : List ℕ
  fresh = fresh_variable V.plan.identifiers 0

  abbrev unit_binding : PatternTree
  unit_binding = plain.bind V.place (ident V.place fresh) false

  abbrev unit_type : TypeTree
  unit_type = plain.tuple_type V.place plain.no_type

  abbrev unit_let : Expression → Statement
  unit_let e' = plain.let_statement V.place unit_binding (Some unit_type) (plain.present e')

  abbrev unit_body : Expression → Body
  unit_body e' = plain.body V.place (plain.statement_and (unit_let e') plain.no_statement) (plain.present bare)

  abbrev binding_entry : List ℕ → ItemNames → NodeNames
  binding_entry at3 u = entry I' (child at3 0) (number (length u.vars) ∷ [])

  abbrev bound_table : List ℕ → ItemNames → ItemNames
  bound_table at3 u = with_names (binding_entry at3 u) (with_variable V.place u)

  abbrev unit_scope : Variables → ItemNames → Variables
  unit_scope sc' u = record { name = fresh; number = number (length u.vars) } ∷ sc'

  abbrev BindingAlone : ItemNames → ItemNames → ItemNames → Kind
  BindingAlone t u t' R u' es es' = Numbers (λ (z : Unit {0}) p. IsBinding p) t u t' u' es es' (give tt) (of_pattern unit_binding)

  binding_alone : (M : Made) (at3 : List ℕ) (t u : ItemNames) → Reached (loose items) M t u → Part (loose items) M t t u (λ G v. v ≡ bound_table at3 u) (BindingAlone t u t)
  binding_alone M at3 t u q = let z = binding_entry at3 u in record {
    made = M;
    grows = grows_not M;
    table = bound_table at3 u;
    answer = refl;
    reached = record { vars = tt; loops = tt; passages = tt };
    added = [];
    added' = z ∷ [];
    grown = sym (append-nil t.names);
    grown' = refl;
    numbers = λ R sv. second_node V.place Site.Value (λ n h. second_first (second_entry z) (λ a d.
        second_first (second_declare V.place (record { mutable = false; stage = Stage.Given })) (λ x d. numbers_give tt (named.bind n x false) is_binding)));
  }

  -- the numbering behind the type
  abbrev let_rest : Expression → Node → ℕ → named.Pattern → ℕ → Option named.Written → Numbering named.Statement
  let_rest e' d i0 p j0 y = numbering.and_then (of_expression false (numbering.initialiser_site y) e') (λ z. numbering.and_then (numbering.known_between i0 j0) (λ _. numbering.and_then (numbering.waits_if (numbering.has_no_type y && named.never z) p) (λ _. give (named.lets d p y z))))

  let_numbers : (R : Renaming) (e e' : Expression) (n : Node) {t u u1 t2 u2 : ItemNames} {es es' fs fs' : List NodeNames} → BindingAlone t u t R u1 es es' → ElseNumbers (moved V) t u1 (plain.present e) (plain.present e') t2 R u2 fs fs'
      → Numbers (LetOf (moved V) R n) t u t2 u2 (es ++ fs) (es' ++ fs') (numbering.and_then (of_optional Site.Expects (plain.present e)) (λ o. give (named.return n o))) (of_statement (unit_let e'))
  let_numbers R e e' n k l =
      second_node V.place Site.Value (λ d h. numbers_right (keeps_annotates unit_binding (Some unit_type)) (λ _. numbers_right keeps_counted (λ i0. second_first k (λ p b. numbers_right keeps_counted (λ j0.
      second_node {k = λ y. let_rest e' d i0 p j0 (Some (named.a_tuple y named.no_written))} V.place Site.Value (λ y g.
      second_then (first_map {T = OperandOf (moved V) R n} (named.return n) (operand Site.Expects Site.Initialises (plain.present e) e' (l Site.Expects Site.Initialises)) (λ o z like. operand_of like))
      (λ a z o. numbers_right (keeps_between i0 j0) (λ _. numbers_right (keeps_waits false p) (λ _. numbers_give tt (named.lets d p (Some (named.a_tuple y named.no_written)) z) (let_done n d y p a z b o))))))))))

  unit_done : (R : Renaming) (n n' d1 d2 : Node) (a : Exp) (ss : named.Statements) (b : Exp) → SameSpan n n' → is_unit V.plan.result ≡ true → LetsOf (moved V) R n a ss → IsVariant V to_return NoExp b
      → LikeExp (moved V) R a (named.return n' (named.present (named.block d1 (named.body d2 ss (named.present b)))))
  unit_done R n n' d1 d2 a ss b g is (lets_of (let_of like)) v = like_other_return like (moved_as_return g (returned_unit is v))

  abbrev LetNumbers : ItemNames → ItemNames → Expression → Expression → ItemNames → Kind
  LetNumbers t u e e' t' R u' es es' = (n : Node) → Numbers (LetOf (moved V) R n) t u t' u' es es' (numbering.and_then (of_optional Site.Expects (plain.present e)) (λ o. give (named.return n o))) (of_statement (unit_let e'))

  body_numbers : (R : Renaming) (e e' : Expression) (n n' d1 d2 : Node) → SameSpan n n' → is_unit V.plan.result ≡ true → {t u t1 u1 u2 : ItemNames} {es es' fs fs' : List NodeNames}
      → Numbers (LetOf (moved V) R n) t u t1 u1 es es' (numbering.and_then (of_optional Site.Expects (plain.present e)) (λ o. give (named.return n o))) (of_statement (unit_let e')) → MadeExp (λ R b. IsVariant V to_return NoExp b) t1 u1 bare t1 R u2 fs fs'
      → Numbers (λ a b. LikeExp (moved V) R a (named.return n' (named.present (named.block d1 b)))) t u t1 u2 (es ++ fs) (es' ++ fs') (numbering.and_then (of_optional Site.Expects (plain.present e)) (λ o. give (named.return n o)))
      (numbering.and_then (numbering.of_statements (plain.statement_and (unit_let e') plain.no_statement)) (λ ss. numbering.and_then (of_optional Site.Expects (plain.present bare)) (λ o. give (named.body d2 ss o))))
  body_numbers R e e' n n' d1 d2 g is k j =
      second_last {S = LetsOf (moved V) R n} {m' = numbering.of_statements (plain.statement_and (unit_let e') plain.no_statement)} {k = λ ss. numbering.and_then (of_optional Site.Expects (plain.present bare)) (λ o. give (named.body d2 ss o))}
      (second_map (λ s. named.statement_and s named.no_statement) k (λ a s d. lets_of d))
      (λ a ss d. second_map {S = λ (z : Unit {0}) o. LikeExp (moved V) R a (named.return n' (named.present (named.block d1 (named.body d2 ss o))))} (λ o. named.body d2 ss o)
      (second_map named.present (j false Site.Expects) (λ z b v. unit_done R n n' d1 d2 a ss b g is d v)) (λ z o y. y))

  unit_numbers : (R : Renaming) (s : Span) (i i' : Site) (e e' : Expression) → is_unit V.plan.result ≡ true → {t u t1 u1 u2 : ItemNames} {es es' fs fs' : List NodeNames} (m : Bool)
      → LetNumbers t u e e' t1 R u1 es es' → MadeExp (λ R b. IsVariant V to_return NoExp b) t1 u1 bare t1 R u2 fs fs'
      → Numbers (LikeExp (moved V) R) t u t1 u2 (es ++ fs) (es' ++ fs') (of_expression m i (plain.return s (plain.present e))) (of_expression m i' (plain.return s (plain.present (plain.block V.place (unit_body e')))))
  unit_numbers R s i i' e e' is m k j =
      numbers_node s i i' (λ n n' g. second_map {S = λ a o. LikeExp (moved V) R a (named.return n' o)} (named.return n') (second_map {S = λ a b. LikeExp (moved V) R a (named.return n' (named.present b))} named.present
      (second_node V.place Site.Expects (λ d1 h. second_map {S = λ a b. LikeExp (moved V) R a (named.return n' (named.present (named.block d1 b)))} (named.block d1)
      (second_node V.place Site.Expects (λ d2 h. body_numbers R e e' n n' d1 d2 g is (k n) j)) (λ a b y. y))) (λ a b y. y)) (λ a o y. y))

  moved_unit : (M : Made) (own : Names) (m : List Around) (w : Stand J M own m) (at' : List ℕ) (s : Span) (e e' : Expression) (t t' u : ItemNames) → has_exit to_return V.plan.exits ≡ true → is_unit V.plan.result ≡ true
      → Operand M own m w (plain.present e) (plain.present e') t t' → Reached (loose items) M t u
      → ExpPart J M own m w at' (plain.return s (plain.present e)) (plain.return s (plain.present (plain.block V.place (unit_body e')))) t t' u
  unfolding binding_alone
  moved_unit M own m w at' s e e' t t' u c is h q =
      let at2 = child (child at' 0) 0 in let at3 = child at2 0 in
      let last = child at2 (number (length (listed (plain.statement_and (unit_let e') plain.no_statement)))) in
      let X = binding_alone M at3 t u q in
      let Y = h (child at3 2) X.table X.reached in
      let A : Part (loose items) M t t' u (λ G v. in_expression I' w.sc' w.ls' (child at3 2) e' (bound_table at3 u) ≡ Ok v) (LetNumbers t u e e' t') = in_turn X Y (λ x y. y) (λ R sv k l n. let_numbers R e e' n k l) in
      let B = made_bare (loose items) V I' (unit_scope w.sc' u) w.ls' A.made last to_return t' A.table (E to_return c refl) A.reached in
      let to : ItemNames → Scoped = λ t. record { scope = unit_scope w.sc' u; tables = t } in
      let again : Scoped → Scoped = λ r. record { scope = r.scope; tables = r.tables } in
      let rest : Outcome ItemNames → Outcome ItemNames = λ o. and_then (and_then (and_then o (λ t. Ok (to t))) (λ r. Ok (again r))) (λ r. in_expression I' r.scope w.ls' last bare r.tables) in
      in_turn A B (λ y z. ap rest y ∙ z) (λ R sv k j m' m'' i i'. unit_numbers R s i i' e e' is m' k j)

  -- ---- a return

  pub moved_returned : (M : Made) (own : Names) (m : List Around) (w : Stand J M own m) (at' : List ℕ) (s : Span) (o o' : OptionalExpression) (t t' u : ItemNames) → has_exit to_return V.plan.exits ≡ true → SameForm o o' → Operand M own m w o o' t t'
      → Reached (loose items) M t u → ExpPart J M own m w at' (plain.return s o) (moved_return V.plan V.place s o') t t' u
  moved_returned M own m w at' s plain.absent plain.absent t t' u c f h q = moved_none M own m w at' s t t' u c h q
  moved_returned M own m w at' s (plain.present e) (plain.present e') t t' u c f h q = by (is_unit V.plan.result) refl
    where
      by : (b : Bool) → is_unit V.plan.result ≡ b → ExpPart J M own m w at' (plain.return s (plain.present e)) (plain.return s (plain.present (if b then returned_in_front V.plan V.place e' else returned V.plan V.place (e' ∷ [])))) t t' u
      by true is = moved_unit M own m w at' s e e' t t' u c is h q
      by false is = moved_value M own m w at' s e e' t t' u c is h q
  moved_returned M own m w at' s plain.absent (plain.present e') t t' u c f h q = absurd f
  moved_returned M own m w at' s (plain.present e) plain.absent t t' u c f h q = absurd f
