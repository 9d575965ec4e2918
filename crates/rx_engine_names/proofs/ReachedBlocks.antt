-- Where a function's names have meanings, those of each block in it have, in the scope and with the loops where it stands: by induction on
-- the way to it, from each node to its children.
use Rattle.std.proofs.Common.{◌≡◌, ℕ, zero, suc, List, [], ◌∷◌, ◌++◌, length, map, Option, Some, None, Ok, slice_get, refl, sym, ap, ◌∙◌, subst}
use Rattle.rx_core.specs.declared.types.Span.{Span}
use Rattle.rx_tree.specs.declared.tree.Ident.{Ident}
use Rattle.rx_tree.specs.Plain as plain
use Rattle.rx_tree.specs.Plain.{TypeTree, TypeTrees, PatternTree, PatternTrees, FieldPatterns, Expression, Expressions, OptionalExpression, OptionalExpressions, FieldExpressions, Arms, Body, Statement, Statements, Function, ProgramTree}
use Rattle.rx_tree.specs.Lists.{Every, listed}
use Rattle.rx_tree.specs.Positions.{NodeTree, an_item, a_type, a_block, a_statement, an_expression, a_pattern, type_nodes, pattern_nodes, field_pattern_nodes, optional_type_nodes, expression_nodes, optional_nodes, argument_nodes, field_nodes, arm_nodes, statement_nodes, children, descend}
use Rattle.rx_tree.proofs.NodesLaws.{every_both}
use Rattle.rx_resolve_names.specs.Scopes.{DeclaredNames, Variables, entered, variable_named}
use Rattle.rx_resolve_names.specs.declared.resolved.ItemNames.{ItemNames}
use Rattle.rx_resolve_names.specs.Meant.{number, lifetimes_declared, Around, a_loop, a_test}
use Rattle.rx_resolve_names.specs.Steps.{Outcome, and_then, Naming, ◌>>◌, Inside, child, next, names, one, position, with_loop, numbered}
use Rattle.rx_resolve_names.specs.Names.{Bound, Scoped, callee, struct_in, variant_in, in_pattern, in_optional_type, initialiser_at, in_expression, in_expressions, in_optional, in_arguments, in_fields, in_arms, in_block, in_statements, in_statement}
use Rattle.rx_resolve_names.specs.Items.{lifetimes_of, numbers_from, in_parameters, body_at, in_item}
use Rattle.rx_hoist_extraction.specs.Run.{label_of, labels_on}
use Rattle.rx_engine_names.specs.Moves.{labels_of}
use Rattle.rx_engine_names.specs.Placed.{inside_of, labels_at}
use Rattle.rx_engine_names.specs.Reached.{BlockReached}
use Rattle.rx_engine_names.proofs.SideBySide.{named_ok}

module _ (I : Inside) where
  -- an expression that is come to with loops of these labels round it
  record Come (L : List (Option Ident)) (e : Expression) : Type 0 where
    scope : Variables
    around : List Around
    at : List ℕ
    before : ItemNames
    end : ItemNames
    resolves : in_expression I scope around at e before ≡ Ok end
    labels_are : labels_of around ≡ L

  record StatementCome (L : List (Option Ident)) (a : Statement) : Type 0 where
    scope : Variables
    around : List Around
    at : List ℕ
    before : ItemNames
    end : Scoped
    resolves : in_statement I scope around at a before ≡ Ok end
    labels_are : labels_of around ≡ L

  abbrev ComeTo : List (Option Ident) → NodeTree → Type 0
  ComeTo L (an_item i) = ⊥
  ComeTo L (a_type t) = Unit {0}
  ComeTo L (a_block b) = BlockReached I L b
  ComeTo L (a_statement a) = StatementCome L a
  ComeTo L (an_expression e) = Come L e
  ComeTo L (a_pattern p) = Unit {0}

  come : (sc : Variables) (ls : List Around) (at : List ℕ) (e : Expression) (t t' : ItemNames) → in_expression I sc ls at e t ≡ Ok t' → Come (labels_of ls) e
  come sc ls at e t t' h = record { scope = sc; around = ls; at = at; before = t; end = t'; resolves = h; labels_are = refl }

  block_come : (sc : Variables) (ls : List Around) (at : List ℕ) (b : Body) (t t' : ItemNames) → in_block I sc ls at b t ≡ Ok t' → BlockReached I (labels_of ls) b
  block_come sc ls at b t t' h = record { scope = sc; around = ls; at = at; before = t; end = t'; resolves = h; labels_are = refl }

  -- ---- rows of children

  optional_come : (sc : Variables) (ls : List Around) (at : List ℕ) (o : OptionalExpression) (t t' : ItemNames) → in_optional I sc ls at o t ≡ Ok t' → Every (ComeTo (labels_of ls)) (optional_nodes o)
  optional_come sc ls at plain.absent t t' h = tt
  optional_come sc ls at (plain.present e) t t' h = (come sc ls at e t t' h, tt)

  all_come : (sc : Variables) (ls : List Around) (at : List ℕ) (i : ℕ) (es : Expressions) (t t' : ItemNames) → in_expressions I sc ls at i es t ≡ Ok t' → Every (ComeTo (labels_of ls)) (expression_nodes es)
  all_come sc ls at i plain.no_expression t t' h = tt
  all_come sc ls at i (plain.expression_and e es) t t' h =
      let x = named_ok (in_expression I sc ls (child at i) e t) (in_expressions I sc ls at (next i) es) t' h in
      (come sc ls (child at i) e t x.0 x.1, all_come sc ls at (next i) es x.0 t' x.2)

  fields_come : (sc : Variables) (ls : List Around) (at : List ℕ) (i : ℕ) (fs : FieldExpressions) (t t' : ItemNames) → in_fields I sc ls at i fs t ≡ Ok t' → Every (ComeTo (labels_of ls)) (field_nodes fs)
  fields_come sc ls at i plain.no_field t t' h = tt
  fields_come sc ls at i (plain.field_and y e fs) t t' h =
      let x = named_ok (in_expression I sc ls (child at i) e t) (in_fields I sc ls at (next i) fs) t' h in
      (come sc ls (child at i) e t x.0 x.1, fields_come sc ls at (next i) fs x.0 t' x.2)

  arms_come : (sc : Variables) (ls : List Around) (at : List ℕ) (i : ℕ) (l : Arms) (t t' : ItemNames) → in_arms I sc ls at i l t ≡ Ok t' → Every (ComeTo (labels_of ls)) (arm_nodes l)
  arms_come sc ls at i plain.no_arm t t' h = tt
  arms_come sc ls at i (plain.arm_and p e l) t t' h =
      let x = named_ok (and_then (in_pattern I (child at i) p (record { bindings = []; tables = t })) (λ b. in_expression I (entered sc b.bindings) ls (child at (next i)) e b.tables)) (in_arms I sc ls at (next (next i)) l) t' h in
      let y = named_ok (in_pattern I (child at i) p (record { bindings = []; tables = t })) (λ b. in_expression I (entered sc b.bindings) ls (child at (next i)) e b.tables) x.0 x.1 in
      (tt, (come (entered sc y.0.bindings) ls (child at (next i)) e y.0.tables x.0 y.2, arms_come sc ls at (next (next i)) l x.0 t' x.2))

  statements_come : (sc : Variables) (ls : List Around) (at : List ℕ) (i : ℕ) (ss : Statements) (t : ItemNames) (r : Scoped) → in_statements I sc ls at i ss t ≡ Ok r → Every (ComeTo (labels_of ls)) (statement_nodes ss)
  statements_come sc ls at i plain.no_statement t r h = tt
  statements_come sc ls at i (plain.statement_and a ss) t r h =
      let x = named_ok (in_statement I sc ls (child at i) a t) (λ r. in_statements I r.scope ls at (next i) ss r.tables) r h in
      (record { scope = sc; around = ls; at = child at i; before = t; end = x.0; resolves = x.1; labels_are = refl }, statements_come x.0.scope ls at (next i) ss x.0.tables r x.2)

  types_come : (L : List (Option Ident)) (ts : TypeTrees) → Every (ComeTo L) (type_nodes ts)
  types_come L plain.no_type = tt
  types_come L (plain.type_and t ts) = (tt, types_come L ts)

  maybe_type_comes : (L : List (Option Ident)) (y : Option TypeTree) → Every (ComeTo L) (optional_type_nodes y)
  maybe_type_comes L None = tt
  maybe_type_comes L (Some t) = (tt, tt)

  patterns_come : (L : List (Option Ident)) (ps : PatternTrees) → Every (ComeTo L) (pattern_nodes ps)
  patterns_come L plain.no_pattern = tt
  patterns_come L (plain.pattern_and p ps) = (tt, patterns_come L ps)

  field_patterns_come : (L : List (Option Ident)) (fs : FieldPatterns) → Every (ComeTo L) (field_pattern_nodes fs)
  field_patterns_come L plain.no_field_pattern = tt
  field_patterns_come L (plain.field_pattern_and y p fs) = (tt, field_patterns_come L fs)

  -- ---- children

  type_children_come : (L : List (Option Ident)) (t : TypeTree) → Every (ComeTo L) (children (a_type t))
  type_children_come L (plain.kind_type s k) = tt
  type_children_come L (plain.bool_type s) = tt
  type_children_come L (plain.tuple_type s ts) = types_come L ts
  type_children_come L (plain.ref_type s l m t) = (tt, tt)
  type_children_come L (plain.named_type s n ls) = tt

  pattern_children_come : (L : List (Option Ident)) (p : PatternTree) → Every (ComeTo L) (children (a_pattern p))
  pattern_children_come L (plain.wild s) = tt
  pattern_children_come L (plain.bind s n m) = tt
  pattern_children_come L (plain.int_pattern s g v k) = tt
  pattern_children_come L (plain.bool_pattern s b) = tt
  pattern_children_come L (plain.tuple_pattern s ps) = patterns_come L ps
  pattern_children_come L (plain.variant_pattern s a v ps) = patterns_come L ps
  pattern_children_come L (plain.make_pattern s n fs) = field_patterns_come L fs

  abbrev Below : List Around → Expression → Type 0
  Below ls e = Every (ComeTo (label_of (an_expression e) ++ labels_of ls)) (children (an_expression e))

  two_come : (sc : Variables) (ls : List Around) (at : List ℕ) (a b : Expression) (t t' : ItemNames) → (in_expression I sc ls (child at 0) a >> in_expression I sc ls (child at 1) b) t ≡ Ok t'
      → Every (ComeTo (labels_of ls)) (an_expression a ∷ an_expression b ∷ [])
  two_come sc ls at a b t t' h =
      let x = named_ok (in_expression I sc ls (child at 0) a t) (in_expression I sc ls (child at 1) b) t' h in
      (come sc ls (child at 0) a t x.0 x.1, (come sc ls (child at 1) b x.0 t' x.2, tt))

  below_come : (sc : Variables) (ls : List Around) (at : List ℕ) (e : Expression) (t t' : ItemNames) → in_expression I sc ls at e t ≡ Ok t' → Below ls e
  below_come sc ls at (plain.int s v k) t t' h = tt
  below_come sc ls at (plain.bool s b) t t' h = tt
  below_come sc ls at (plain.tuple s es) t t' h = all_come sc ls at 0 es t t' h
  below_come sc ls at (plain.var s x) t t' h = tt
  below_come sc ls at (plain.field s e x) t t' h = (come sc ls (child at 0) e t t' h, tt)
  below_come sc ls at (plain.part s e i) t t' h = (come sc ls (child at 0) e t t' h, tt)
  below_come sc ls at (plain.deref s e) t t' h = (come sc ls (child at 0) e t t' h, tt)
  below_come sc ls at (plain.negate s e) t t' h = (come sc ls (child at 0) e t t' h, tt)
  below_come sc ls at (plain.invert s e) t t' h = (come sc ls (child at 0) e t t' h, tt)
  below_come sc ls at (plain.borrow s m e) t t' h = (come sc ls (child at 0) e t t' h, tt)
  below_come sc ls at (plain.binary s o a b) t t' h = two_come sc ls at a b t t' h
  below_come sc ls at (plain.assign s a b) t t' h = two_come sc ls at a b t t' h
  below_come sc ls at (plain.update s o a b) t t' h = two_come sc ls at a b t t' h
  below_come sc ls at (plain.call s f es) t t' h =
      let x = named_ok (callee I at f (variable_named sc f.name) t) (in_expressions I sc ls at 0 es) t' h in all_come sc ls at 0 es x.0 t' x.2
  below_come sc ls at (plain.next_input s) t t' h = tt
  below_come sc ls at (plain.variant s a v plain.no_list) t t' h = tt
  below_come sc ls at (plain.variant s a v (plain.a_list es)) t t' h =
      let x = named_ok (names I at (variant_in I a v) t) (in_expressions I sc ls at 0 es) t' h in all_come sc ls at 0 es x.0 t' x.2
  below_come sc ls at (plain.make s y fs) t t' h =
      let x = named_ok (names I at (one (struct_in I y)) t) (in_fields I sc ls at 0 fs) t' h in fields_come sc ls at 0 fs x.0 t' x.2
  below_come sc ls at (plain.print s e) t t' h = (come sc ls (child at 0) e t t' h, tt)
  below_come sc ls at (plain.block s b) t t' h = (block_come sc ls (child at 0) b t t' h, tt)
  below_come sc ls at (plain.if s c b o) t t' h =
      let x = named_ok (in_expression I sc ls (child at 0) c t) (in_block I sc ls (child at 1) b >> in_optional I sc ls (child at 2) o) t' h in
      let y = named_ok (in_block I sc ls (child at 1) b x.0) (in_optional I sc ls (child at 2) o) t' x.2 in
      (come sc ls (child at 0) c t x.0 x.1, (block_come sc ls (child at 1) b x.0 y.0 y.1, optional_come sc ls (child at 2) o y.0 t' y.2))
  below_come sc ls at (plain.if_let s p e b o) t t' h =
      let z = named_ok (in_pattern I (child at 0) p (record { bindings = []; tables = t }))
      (λ d. (in_expression I sc ls (child at 1) e >> in_block I (entered sc d.bindings) ls (child at 2) b >> in_optional I sc ls (child at 3) o) d.tables) t' h in
      let x = named_ok (in_expression I sc ls (child at 1) e z.0.tables) (in_block I (entered sc z.0.bindings) ls (child at 2) b >> in_optional I sc ls (child at 3) o) t' z.2 in
      let y = named_ok (in_block I (entered sc z.0.bindings) ls (child at 2) b x.0) (in_optional I sc ls (child at 3) o) t' x.2 in
      (tt, (come sc ls (child at 1) e z.0.tables x.0 x.1, (block_come (entered sc z.0.bindings) ls (child at 2) b x.0 y.0 y.1, optional_come sc ls (child at 3) o y.0 t' y.2)))
  below_come sc ls at (plain.match s e l) t t' h =
      let x = named_ok (in_expression I sc ls (child at 0) e t) (in_arms I sc ls at 1 l) t' h in
      (come sc ls (child at 0) e t x.0 x.1, arms_come sc ls at 1 l x.0 t' x.2)
  below_come sc ls at (plain.loop s l b) t t' h = (block_come sc (a_loop l (number (length t.loops)) ∷ ls) (child at 0) b (with_loop (position I at) t) t' h, tt)
  below_come sc ls at (plain.while s l c b) t t' h =
      let n = number (length t.loops) in let u = with_loop (position I at) t in
      let x = named_ok (in_expression I sc (a_test ∷ a_loop l n ∷ ls) (child at 0) c u) (in_block I sc (a_loop l n ∷ ls) (child at 1) b) t' h in
      (come sc (a_test ∷ a_loop l n ∷ ls) (child at 0) c u x.0 x.1, (block_come sc (a_loop l n ∷ ls) (child at 1) b x.0 t' x.2, tt))
  below_come sc ls at (plain.while_let s l p e b) t t' h =
      let n = number (length t.loops) in let u = with_loop (position I at) t in
      let z = named_ok (in_pattern I (child at 0) p (record { bindings = []; tables = u }))
      (λ d. (in_expression I sc (a_test ∷ a_loop l n ∷ ls) (child at 1) e >> in_block I (entered sc d.bindings) (a_loop l n ∷ ls) (child at 2) b) d.tables) t' h in
      let x = named_ok (in_expression I sc (a_test ∷ a_loop l n ∷ ls) (child at 1) e z.0.tables) (in_block I (entered sc z.0.bindings) (a_loop l n ∷ ls) (child at 2) b) t' z.2 in
      (tt, (come sc (a_test ∷ a_loop l n ∷ ls) (child at 1) e z.0.tables x.0 x.1, (block_come (entered sc z.0.bindings) (a_loop l n ∷ ls) (child at 2) b x.0 t' x.2, tt)))
  below_come sc ls at (plain.break s l) t t' h = tt
  below_come sc ls at (plain.continue s l) t t' h = tt
  below_come sc ls at (plain.return s o) t t' h = optional_come sc ls (child at 0) o t t' h

  block_below : (sc : Variables) (ls : List Around) (at : List ℕ) (b : Body) (t t' : ItemNames) → in_block I sc ls at b t ≡ Ok t' → Every (ComeTo (labels_of ls)) (children (a_block b))
  block_below sc ls at (plain.body s ss o) t t' h =
      let x = named_ok (in_statements I sc ls at 0 ss t) (λ r. in_optional I r.scope ls (child at (number (length (listed ss)))) o r.tables) t' h in
      every_both (ComeTo (labels_of ls)) (statement_nodes ss) (optional_nodes o) (statements_come sc ls at 0 ss t x.0 x.1) (optional_come x.0.scope ls (child at (number (length (listed ss)))) o x.0.tables t' x.2)

  statement_below : (sc : Variables) (ls : List Around) (at : List ℕ) (a : Statement) (t : ItemNames) (r : Scoped) → in_statement I sc ls at a t ≡ Ok r → Every (ComeTo (labels_of ls)) (children (a_statement a))
  statement_below sc ls at (plain.let_statement s p y o) t r h =
      let z = named_ok (in_pattern I (child at 0) p (record { bindings = []; tables = t })) (λ b. and_then ((in_optional_type I (child at 1) y >> in_optional I sc ls (child at (initialiser_at y)) o) b.tables) (λ t. Ok (record { scope = entered sc b.bindings; tables = t }))) r h in
      let x = named_ok ((in_optional_type I (child at 1) y >> in_optional I sc ls (child at (initialiser_at y)) o) z.0.tables) (λ t. Ok (record { scope = entered sc z.0.bindings; tables = t })) r z.2 in
      let w = named_ok (in_optional_type I (child at 1) y z.0.tables) (in_optional I sc ls (child at (initialiser_at y)) o) x.0 x.1 in
      (tt, every_both (ComeTo (labels_of ls)) (optional_type_nodes y) (optional_nodes o) (maybe_type_comes (labels_of ls) y) (optional_come sc ls (child at (initialiser_at y)) o w.0 x.0 w.2))
  statement_below sc ls at (plain.expression_statement s e b) t r h =
      let x = named_ok (in_expression I sc ls (child at 0) e t) (λ t. Ok (record { scope = sc; tables = t })) r h in (come sc ls (child at 0) e t x.0 x.1, tt)

  node_below : (L : List (Option Ident)) (n : NodeTree) → ComeTo L n → Every (ComeTo (label_of n ++ L)) (children n)
  node_below L (an_item i) h = absurd h
  node_below L (a_type t) h = type_children_come L t
  node_below L (a_block b) h = subst (λ K. Every (ComeTo K) (children (a_block b))) h.labels_are (block_below h.scope h.around h.at b h.before h.end h.resolves)
  node_below L (a_statement a) h = subst (λ K. Every (ComeTo K) (children (a_statement a))) h.labels_are (statement_below h.scope h.around h.at a h.before h.end h.resolves)
  node_below L (an_expression e) h = subst (λ K. Every (ComeTo (label_of (an_expression e) ++ K)) (children (an_expression e))) h.labels_are (below_come h.scope h.around h.at e h.before h.end h.resolves)
  node_below L (a_pattern p) h = pattern_children_come L p

  -- ---- along a way

  one_of : (P : NodeTree → Type 0) (cs : List NodeTree) (k : ℕ) (c : NodeTree) → Every P cs → slice_get cs k ≡ Some c → P c
  one_of P [] k c h e = absurd (cc)
  one_of P (x ∷ cs) zero c h e = let q : x ≡ c = cc in subst P q h.0
  one_of P (x ∷ cs) (suc k) c h e = one_of P cs k c h.1 e

  way_comes : (ks : List ℕ) (L : List (Option Ident)) (n m : NodeTree) → ComeTo L n → descend (Some n) ks ≡ Some m → ComeTo (labels_on (Some n) ks L) m
  way_comes [] L n m h e = let q : n ≡ m = cc in subst (ComeTo L) q h
  way_comes (k ∷ ks) L n m h e = by (slice_get (children n) k) refl e (λ c g d. way_comes ks (label_of n ++ L) c m g d)
    where
      by : (o : Option NodeTree) → slice_get (children n) k ≡ o → descend o ks ≡ Some m → ((c : NodeTree) → ComeTo (label_of n ++ L) c → descend (Some c) ks ≡ Some m → ComeTo (labels_on (Some c) ks (label_of n ++ L)) m)
          → ComeTo (labels_on (slice_get (children n) k) ks (label_of n ++ L)) m
      by None q d on = absurd (cc)
      by (Some c) q d on = subst (λ (o : Option NodeTree). ComeTo (labels_on o ks (label_of n ++ L)) m) (sym q) (on c (one_of (ComeTo (label_of n ++ L)) (children n) k c (node_below L n h) q) d)

-- ---- from the function

pub block_reached : (P : ProgramTree) (n : ℕ) (s : Span) (f : Function) (t : ItemNames) → in_item P n (plain.function_item s f) ≡ Ok t → (way : List ℕ) (b : Body) → descend (Some (a_block f.body)) way ≡ Some (a_block b)
    → BlockReached (inside_of P n s f) (labels_at way f.body) b
block_reached P n s f t h way b d =
    let I = inside_of P n s f in
    let start : ItemNames = record { vars = []; lifetimes = map (λ (l : Ident). l.span) (lifetimes_declared (plain.function_item s f)); loops = []; names = [] } in
    let last : Bound → Outcome ItemNames =
    λ b. (in_optional_type I (child [] (number (length f.params))) f.result >> in_block I (entered [] b.bindings) [] (child [] (body_at (number (length f.params)) f.result)) f.body) b.tables in
    let after : Naming = λ t. and_then (in_parameters I [] 0 f.params (record { bindings = []; tables = t })) last in
    let x = named_ok (lifetimes_of I [] 0 f.lifetimes) (λ ns. and_then (numbered I [] (ns ++ numbers_from 0 f.params) start) after) t h in
    let y = named_ok (numbered I [] (x.0 ++ numbers_from 0 f.params) start) after t x.2 in
    let z = named_ok (in_parameters I [] 0 f.params (record { bindings = []; tables = y.0 })) last t y.2 in
    let w = named_ok (in_optional_type I (child [] (number (length f.params))) f.result z.0.tables) (in_block I (entered [] z.0.bindings) [] (child [] (body_at (number (length f.params)) f.result)) f.body) t z.2 in
    way_comes I way [] (a_block f.body) (a_block b) (block_come I (entered [] z.0.bindings) [] (child [] (body_at (number (length f.params)) f.result)) f.body w.0 t w.2) d
