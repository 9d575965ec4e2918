-- Where items have the same names in two programs, the names in an item mean the same in both: by induction on what it holds.
use Rattle.std.proofs.Common.{◌≡◌, ℕ, suc, List, [], ◌∷◌, ◌++◌, length, map, Option, Some, None, Ok, Err, refl, ap, ◌∙◌}
use Rattle.std.specs.Prelude.{codes}
use Rattle.rx_tree.specs.declared.tree.Ident.{Ident}
use Rattle.rx_tree.specs.declared.tree.BoundLifetime.{BoundLifetime}
use Rattle.rx_tree.specs.Plain as plain
use Rattle.rx_tree.specs.Plain.{TypeTree, TypeTrees, PatternTree, PatternTrees, FieldPatterns, Expression, Expressions, OptionalExpression, OptionalExpressions, FieldExpressions, Arms, Body, Statement, Statements, Parameter, Function, FieldOf, VariantOf, ItemTree, ProgramTree}
use Rattle.rx_tree.specs.Lists.{listed}
use Rattle.rx_resolve_names.specs.declared.resolved.ItemNames.{ItemNames}
use Rattle.rx_resolve_names.specs.Scopes.{DeclaredNames, Variables, variable_named, entered}
use Rattle.rx_resolve_names.specs.Meant.{number, Around, a_loop, a_test, target, firsts, lifetimes_declared}
use Rattle.rx_resolve_names.specs.Steps.{Outcome, and_then, Inside, known, one, both, declare, led, child, next, with_variable, with_loop, position, names, numbered}
use Rattle.rx_resolve_names.specs.Names.{lifetime_in, lifetimes_in, type_in, written, in_lifetime, in_type, in_types, behind, Bound, pattern_then, in_pattern, in_patterns, in_field_patterns, callee, in_optional_type, initialiser_at, in_expression, in_expressions, in_optional, in_arguments, in_fields, in_arms, in_block, in_statements, in_statement, variant_in, struct_in, rt_span}
use Rattle.rx_resolve_names.specs.Items.{distinct, in_declared, in_variants, bounds_in, lifetimes_of, in_parameter, in_parameters, numbers_from, body_at, in_function, in_form, in_item}
use Rattle.rx_compact_laws.specs.Alongside.{SameItems}

-- the same step, and then the same
pub then_same : {A B : Type 0} {m n : Outcome A} {f g : A → Outcome B} → m ≡ n → ((a : A) → f a ≡ g a) → and_then m f ≡ and_then n g
then_same {A = A} {B = B} {n = n} {f = f} {g = g} e h = ap (λ o. and_then o f) e ∙ by n
  where
    by : (n : Outcome A) → and_then n f ≡ and_then n g
    by (Ok a) = h a
    by (Err x) = refl

pub then_more : {A B : Type 0} (m : Outcome A) {f g : A → Outcome B} → ((a : A) → f a ≡ g a) → and_then m f ≡ and_then m g
then_more m h = then_same {m = m} refl h

module _ (p q : ProgramTree) (i : ℕ) (L : DeclaredNames) (same : SameItems p q) where
  abbrev I : Inside
  I = record { program = p; item = i; lifetimes = L }

  abbrev J : Inside
  J = record { program = q; item = i; lifetimes = L }

  number_same : (at ns : List ℕ) (t : ItemNames) → numbered J at ns t ≡ numbered I at ns t
  number_same at [] t = refl
  number_same at (n ∷ ns) t = refl

  names_same : (at : List ℕ) {a b : Outcome (List ℕ)} → b ≡ a → (t : ItemNames) → names J at b t ≡ names I at a t
  names_same at e t = then_same e (λ ns. number_same at ns t)

  -- ---- types

  all_lifetimes : (ls : List (Option Ident)) → lifetimes_in J ls ≡ lifetimes_in I ls
  all_lifetimes [] = refl
  all_lifetimes (None ∷ ls) = all_lifetimes ls
  all_lifetimes (Some l ∷ ls) = ap (both (one (lifetime_in I l))) (all_lifetimes ls)

  lifetime : (at : List ℕ) (l : Option Ident) (t : ItemNames) → in_lifetime J at l t ≡ in_lifetime I at l t
  lifetime at None t = refl
  lifetime at (Some l) t = names_same at {a = one (lifetime_in I l)} refl t

  item : (x : Ident) → type_in J x ≡ type_in I x
  item x = ap (λ o. known o x.span) (same.types x.name)

  mutual
    type : (y : TypeTree) (at : List ℕ) (t : ItemNames) → in_type J at y t ≡ in_type I at y t
    type (plain.kind_type s k) at t = refl
    type (plain.bool_type s) at t = refl
    type (plain.tuple_type s ts) at t = types ts at 0 t
    type (plain.ref_type s l m y) at t = then_same (lifetime at l t) (λ u. type y (child at 0) u)
    type (plain.named_type s x ls) at t =
        names_same at (ap (λ o. both (one o) (lifetimes_in J (written ls))) (item x) ∙ ap (both (one (type_in I x))) (all_lifetimes (written ls))) t

    types : (ys : TypeTrees) (at : List ℕ) (k : ℕ) (t : ItemNames) → in_types J at k ys t ≡ in_types I at k ys t
    types plain.no_type at k t = refl
    types (plain.type_and y ys) at k t = then_same (type y (child at k) t) (λ u. types ys at (next k) u)

  optional_type : (y : Option TypeTree) (at : List ℕ) (t : ItemNames) → in_optional_type J at y t ≡ in_optional_type I at y t
  optional_type None at t = refl
  optional_type (Some y) at t = type y at t

  -- ---- patterns

  struct : (x : Ident) → struct_in J x ≡ struct_in I x
  struct x = ap (λ o. known o x.span) (same.structs x.name)

  variant : (a v : Ident) → variant_in J a v ≡ variant_in I a v
  variant a v = then_same (ap (λ o. one (known o a.span)) (same.enums a.name))
      (λ ns. ap (λ o. and_then (one (known o v.span)) (λ ms. Ok (ns ++ ms))) (same.variants a.name v.name))

  mutual
    pattern : (y : PatternTree) (at : List ℕ) (b : Bound) → in_pattern J at y b ≡ in_pattern I at y b
    pattern (plain.wild s) at b = refl
    pattern (plain.bind s x m) at b = refl
    pattern (plain.int_pattern s g v k) at b = refl
    pattern (plain.bool_pattern s v) at b = refl
    pattern (plain.tuple_pattern s ps) at b = patterns ps at 0 b
    pattern (plain.variant_pattern s a v ps) at b =
        then_same (then_same (names_same at (variant a v) b.tables) (λ t. refl)) (λ c. patterns ps at 0 c)
    pattern (plain.make_pattern s x fs) at b =
        then_same (then_same (names_same at (ap one (struct x)) b.tables) (λ t. refl)) (λ c. field_patterns fs at 0 c)

    patterns : (ys : PatternTrees) (at : List ℕ) (k : ℕ) (b : Bound) → in_patterns J at k ys b ≡ in_patterns I at k ys b
    patterns plain.no_pattern at k b = refl
    patterns (plain.pattern_and y ys) at k b = then_same (pattern y (child at k) b) (λ c. patterns ys at (next k) c)

    field_patterns : (ys : FieldPatterns) (at : List ℕ) (k : ℕ) (b : Bound) → in_field_patterns J at k ys b ≡ in_field_patterns I at k ys b
    field_patterns plain.no_field_pattern at k b = refl
    field_patterns (plain.field_pattern_and x y ys) at k b = then_same (pattern y (child at k) b) (λ c. field_patterns ys at (next k) c)

  bound_then : (at : List ℕ) (y : PatternTree) {f g : DeclaredNames → ItemNames → Outcome ItemNames} → ((ds : DeclaredNames) (u : ItemNames) → f ds u ≡ g ds u)
      → (t : ItemNames) → pattern_then J at y f t ≡ pattern_then I at y g t
  bound_then at y h t = then_same (pattern y at (record { bindings = []; tables = t })) (λ b. h b.bindings b.tables)

  -- ---- expressions

  called : (at : List ℕ) (x : Ident) (o : Option ℕ) (t : ItemNames) → callee J at x o t ≡ callee I at x o t
  called at x (Some n) t = refl
  called at x None t = names_same at (ap (λ o. one (known o x.span)) (same.functions x.name)) t

  mutual
    expression : (e : Expression) (sc : Variables) (ls : List Around) (at : List ℕ) (t : ItemNames) → in_expression J sc ls at e t ≡ in_expression I sc ls at e t
    expression (plain.int s v k) sc ls at t = refl
    expression (plain.bool s b) sc ls at t = refl
    expression (plain.tuple s es) sc ls at t = expressions es sc ls at 0 t
    expression (plain.var s x) sc ls at t = names_same at {a = one (known (variable_named sc x) s)} refl t
    expression (plain.field s e x) sc ls at t = expression e sc ls (child at 0) t
    expression (plain.part s e i) sc ls at t = expression e sc ls (child at 0) t
    expression (plain.deref s e) sc ls at t = expression e sc ls (child at 0) t
    expression (plain.negate s e) sc ls at t = expression e sc ls (child at 0) t
    expression (plain.invert s e) sc ls at t = expression e sc ls (child at 0) t
    expression (plain.borrow s m e) sc ls at t = expression e sc ls (child at 0) t
    expression (plain.binary s o a b) sc ls at t = then_same (expression a sc ls (child at 0) t) (λ u. expression b sc ls (child at 1) u)
    expression (plain.assign s a b) sc ls at t = then_same (expression a sc ls (child at 0) t) (λ u. expression b sc ls (child at 1) u)
    expression (plain.update s o a b) sc ls at t = then_same (expression a sc ls (child at 0) t) (λ u. expression b sc ls (child at 1) u)
    expression (plain.call s f es) sc ls at t = then_same (called at f (variable_named sc f.name) t) (λ u. expressions es sc ls at 0 u)
    expression (plain.next_input s) sc ls at t = names_same at (ap (λ o. one (known o (rt_span s))) (same.rt (codes "rt"))) t
    expression (plain.variant s a v es) sc ls at t = then_same (names_same at (variant a v) t) (λ u. arguments es sc ls at u)
    expression (plain.make s x fs) sc ls at t = then_same (names_same at (ap one (struct x)) t) (λ u. fields fs sc ls at 0 u)
    expression (plain.print s e) sc ls at t = expression e sc ls (child at 0) t
    expression (plain.block s b) sc ls at t = block b sc ls (child at 0) t
    expression (plain.if s c b o) sc ls at t = then_same (expression c sc ls (child at 0) t)
        (λ u. then_same (block b sc ls (child at 1) u) (λ w. optional o sc ls (child at 2) w))
    expression (plain.if_let s y e b o) sc ls at t = bound_then (child at 0) y (λ ds u. then_same (expression e sc ls (child at 1) u)
        (λ w. then_same (block b (entered sc ds) ls (child at 2) w) (λ z. optional o sc ls (child at 3) z))) t
    expression (plain.match s e l) sc ls at t = then_same (expression e sc ls (child at 0) t) (λ u. arms l sc ls at 1 u)
    expression (plain.loop s l b) sc ls at t = block b sc (a_loop l (number (length t.loops)) ∷ ls) (child at 0) (with_loop (position I at) t)
    expression (plain.while s l c b) sc ls at t =
        then_same (expression c sc (a_test ∷ a_loop l (number (length t.loops)) ∷ ls) (child at 0) (with_loop (position I at) t))
        (λ u. block b sc (a_loop l (number (length t.loops)) ∷ ls) (child at 1) u)
    expression (plain.while_let s l y e b) sc ls at t = bound_then (child at 0) y
        (λ ds u. then_same (expression e sc (a_test ∷ a_loop l (number (length t.loops)) ∷ ls) (child at 1) u)
        (λ w. block b (entered sc ds) (a_loop l (number (length t.loops)) ∷ ls) (child at 2) w)) (with_loop (position I at) t)
    expression (plain.break s l) sc ls at t = names_same at {a = one (led s l (target l ls))} refl t
    expression (plain.continue s l) sc ls at t = names_same at {a = one (led s l (target l ls))} refl t
    expression (plain.return s o) sc ls at t = optional o sc ls (child at 0) t

    expressions : (es : Expressions) (sc : Variables) (ls : List Around) (at : List ℕ) (k : ℕ) (t : ItemNames) → in_expressions J sc ls at k es t ≡ in_expressions I sc ls at k es t
    expressions plain.no_expression sc ls at k t = refl
    expressions (plain.expression_and e es) sc ls at k t = then_same (expression e sc ls (child at k) t) (λ u. expressions es sc ls at (next k) u)

    optional : (o : OptionalExpression) (sc : Variables) (ls : List Around) (at : List ℕ) (t : ItemNames) → in_optional J sc ls at o t ≡ in_optional I sc ls at o t
    optional plain.absent sc ls at t = refl
    optional (plain.present e) sc ls at t = expression e sc ls at t

    arguments : (es : OptionalExpressions) (sc : Variables) (ls : List Around) (at : List ℕ) (t : ItemNames) → in_arguments J sc ls at es t ≡ in_arguments I sc ls at es t
    arguments plain.no_list sc ls at t = refl
    arguments (plain.a_list es) sc ls at t = expressions es sc ls at 0 t

    fields : (fs : FieldExpressions) (sc : Variables) (ls : List Around) (at : List ℕ) (k : ℕ) (t : ItemNames) → in_fields J sc ls at k fs t ≡ in_fields I sc ls at k fs t
    fields plain.no_field sc ls at k t = refl
    fields (plain.field_and x e fs) sc ls at k t = then_same (expression e sc ls (child at k) t) (λ u. fields fs sc ls at (next k) u)

    arms : (l : Arms) (sc : Variables) (ls : List Around) (at : List ℕ) (k : ℕ) (t : ItemNames) → in_arms J sc ls at k l t ≡ in_arms I sc ls at k l t
    arms plain.no_arm sc ls at k t = refl
    arms (plain.arm_and y e rest) sc ls at k t =
        then_same (bound_then (child at k) y (λ ds u. expression e (entered sc ds) ls (child at (next k)) u) t) (λ u. arms rest sc ls at (next (next k)) u)

    block : (b : Body) (sc : Variables) (ls : List Around) (at : List ℕ) (t : ItemNames) → in_block J sc ls at b t ≡ in_block I sc ls at b t
    block (plain.body s ss o) sc ls at t = then_same (statements ss sc ls at 0 t) (λ r. optional o r.scope ls (child at (number (length (listed ss)))) r.tables)

    statements : (ss : Statements) (sc : Variables) (ls : List Around) (at : List ℕ) (k : ℕ) (t : ItemNames) → in_statements J sc ls at k ss t ≡ in_statements I sc ls at k ss t
    statements plain.no_statement sc ls at k t = refl
    statements (plain.statement_and a ss) sc ls at k t = then_same (statement a sc ls (child at k) t) (λ r. statements ss r.scope ls at (next k) r.tables)

    statement : (a : Statement) (sc : Variables) (ls : List Around) (at : List ℕ) (t : ItemNames) → in_statement J sc ls at a t ≡ in_statement I sc ls at a t
    statement (plain.let_statement s y z o) sc ls at t = then_same (pattern y (child at 0) (record { bindings = []; tables = t }))
        (λ b. then_same (then_same (optional_type z (child at 1) b.tables) (λ u. optional o sc ls (child at (initialiser_at z)) u)) (λ u. refl))
    statement (plain.expression_statement s e b) sc ls at t = then_same (expression e sc ls (child at 0) t) (λ u. refl)

  -- ---- items

  bounds : (ls : List Ident) → bounds_in J ls ≡ bounds_in I ls
  bounds [] = refl
  bounds (l ∷ ls) = ap (both (one (lifetime_in I l))) (bounds ls)

  listed_lifetimes : (ds : DeclaredNames) (n : ℕ) (ls : List BoundLifetime) → lifetimes_of J ds n ls ≡ lifetimes_of I ds n ls
  listed_lifetimes ds n [] = refl
  listed_lifetimes ds n (l ∷ ls) = then_more (declare ds l.name n) (λ es. then_same (bounds l.bounds) (λ ns. then_same (listed_lifetimes es (suc n) ls) (λ ms. refl)))

  parameter : (x : Parameter) (at : List ℕ) (k : ℕ) (b : Bound) → in_parameter J at k x b ≡ in_parameter I at k x b
  parameter x at k b = then_more (declare b.bindings x.name k) (λ ds. then_same (type x.typ (child at k) (with_variable x.name.span b.tables)) (λ t. refl))

  parameters : (xs : List Parameter) (at : List ℕ) (k : ℕ) (b : Bound) → in_parameters J at k xs b ≡ in_parameters I at k xs b
  parameters [] at k b = refl
  parameters (x ∷ xs) at k b = then_same (parameter x at k b) (λ c. parameters xs at (next k) c)

  function : (f : Function) (sc : Variables) (ls : List Around) (at : List ℕ) (t : ItemNames) → in_function J sc ls at f t ≡ in_function I sc ls at f t
  function f sc ls at t = then_same (listed_lifetimes [] 0 f.lifetimes) (λ ns. then_same (number_same at (ns ++ numbers_from 0 f.params) t)
      (λ u. then_same (parameters f.params at 0 (record { bindings = []; tables = u })) (λ b.
      then_same (optional_type f.result (child at (number (length f.params))) b.tables)
      (λ w. block f.body (entered sc b.bindings) ls (child at (body_at (number (length f.params)) f.result)) w))))

  declared : (fs : List FieldOf) (at : List ℕ) (ds : DeclaredNames) (k : ℕ) (t : ItemNames) → in_declared J at ds k fs t ≡ in_declared I at ds k fs t
  declared [] at ds k t = refl
  declared (f ∷ fs) at ds k t = then_more (declare ds f.name k) (λ es. then_same (type f.typ (child at k) t) (λ u. declared fs at es (next k) u))

  variants : (vs : List VariantOf) (at : List ℕ) (ds : DeclaredNames) (n k : ℕ) (t : ItemNames) → in_variants J at ds n k vs t ≡ in_variants I at ds n k vs t
  variants [] at ds n k t = refl
  variants (v ∷ vs) at ds n k t = then_more (declare ds v.name n) (λ es. then_same (types v.types at k t) (λ u. variants vs at es (suc n) (behind k v.types) u))

  form : (x : ItemTree) (sc : Variables) (ls : List Around) (at : List ℕ) (t : ItemNames) → in_form J sc ls at x t ≡ in_form I sc ls at x t
  form (plain.rt_item s r) sc ls at t = refl
  form (plain.struct_item s d) sc ls at t = then_more (distinct [] 0 d.lifetimes t) (λ u. declared d.fields at [] 0 u)
  form (plain.enum_item s d) sc ls at t = then_more (distinct [] 0 d.lifetimes t) (λ u. variants d.variants at [] 0 0 u)
  form (plain.function_item s f) sc ls at t = function f sc ls at t

pub item_same : (p q : ProgramTree) → SameItems p q → (n : ℕ) (x : ItemTree) → in_item q n x ≡ in_item p n x
item_same p q same n x = form p q (number n) (firsts [] 0 (lifetimes_declared x)) same x [] [] [] (record { vars = []; lifetimes = map (λ (l : Ident). l.span) (lifetimes_declared x); loops = []; names = [] })
