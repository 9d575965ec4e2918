-- The names in a run are as they are asked for in the new function: it declares the lifetimes that types in the run name, and the names of
-- callees mean no variable there. By induction on the part.
use Rattle.std.proofs.lemmas.Bool.{or_left, or_right}
use Rattle.std.proofs.Common.{◌≡◌, ℕ, Bool, true, false, ◌||◌, if◌then◌else◌, List, [], ◌∷◌, ◌++◌, Option, Some, None, refl, bytes_eq}
use Rattle.rx_tree.specs.declared.tree.Ident.{Ident}
use Rattle.rx_tree.specs.Lists.{Every}
use Rattle.rx_tree.specs.Plain as plain
use Rattle.rx_tree.specs.Plain.{TypeTree, TypeTrees, Expression, Expressions, OptionalExpression, OptionalExpressions, FieldExpressions, Arms, Body, Statement, Statements}
use Rattle.rx_tree.specs.Positions.{NodeTree, a_type}
use Rattle.rx_tree.specs.Nodes.{below_type, within_types, within_type, below_pattern, below_expression, within_expressions, within_optional, within_arguments, within_fields, within_arms, below_block, below_statement, within_statements}
use Rattle.rx_resolve_names.specs.Scopes.{Variables, variable_named}
use Rattle.rx_resolve_names.specs.Meant.{Around, a_loop, a_test}
use Rattle.rx_resolve_names.specs.Steps.{Inside}
use Rattle.rx_hoist_extraction.specs.Names.{Names, is_among, bound, bound_by, behind_all}
use Rattle.rx_hoist_extraction.specs.Run.{Parts, as_statements}
use Rattle.rx_hoist_extraction.specs.NewFunction.{lifetimes_listed, lifetimes_at, lifetimes_at_all, firsts_of, copied_lifetimes}
use Rattle.rx_hoist_extraction.specs.OwnLifetimes.{idents}
use Rattle.rx_engine_names.specs.NamedLifetimes.{LifetimeFits, OptionalFits, ListFits, TypeFits, TypesFit, AnnotationFits}
use Rattle.rx_engine_names.specs.Within.{Within, AllWithin, OptionalWithin, ArgumentsWithin, FieldsWithin, ArmsWithin, BodyWithin, StatementWithin, StatementsWithin}
use Rattle.rx_engine_names.specs.Moves.{Moves, asked}
use Rattle.rx_engine_names.specs.NewPlan.{run_claims}
use Rattle.rx_engine_names.proofs.ExtractionItems.{every_front}
use Rattle.rx_engine_names.proofs.NewScopes.{same_name}
use Rattle.rx_engine_names.proofs.DeclaredLifetimes.{Meant}

module _ (V : Moves) (I I' : Inside) (start : Variables) (callee : (x : List ℕ) → is_among x V.known ≡ false → variable_named start x ≡ None) where
  -- the lifetimes that a node names itself
  abbrev NodeFits : NodeTree → Type 0
  NodeFits n = Every (LifetimeFits I I') (lifetimes_at n)

  abbrev pub AllFit : List NodeTree → Type 0
  AllFit ns = Every NodeFits ns

  parts_of : (xs ys : List NodeTree) → AllFit (xs ++ ys) → AllFit xs × AllFit ys
  parts_of xs ys h = every_front NodeFits xs ys h

  -- ---- types

  optional_fits : (l : Option Ident) → Every (LifetimeFits I I') (lifetimes_listed (l ∷ [])) → OptionalFits I I' l
  optional_fits None h = tt
  optional_fits (Some l) h = h.0

  list_fits : (ls : List (Option Ident)) → Every (LifetimeFits I I') (lifetimes_listed ls) → ListFits I I' ls
  list_fits [] h = tt
  list_fits (None ∷ ls) h = (tt, list_fits ls h)
  list_fits (Some l ∷ ls) h = (h.0, list_fits ls h.1)

  mutual
    type_fits : (y : TypeTree) → NodeFits (a_type y) → AllFit (below_type y) → TypeFits I I' y
    type_fits (plain.kind_type s k) h g = tt
    type_fits (plain.bool_type s) h g = tt
    type_fits (plain.tuple_type s ts) h g = types_fit ts g
    type_fits (plain.ref_type s l m t) h g = (optional_fits l h, type_fits t g.0 g.1)
    type_fits (plain.named_type s x None) h g = tt
    type_fits (plain.named_type s x (Some ls)) h g = list_fits ls h

    types_fit : (ys : TypeTrees) → AllFit (within_types ys) → TypesFit I I' ys
    types_fit plain.no_type g = tt
    types_fit (plain.type_and t ts) g = let p = parts_of (below_type t) (within_types ts) g.1 in (type_fits t g.0 p.0, types_fit ts p.1)

  annotation_fits : (y : Option TypeTree) → AllFit (within_type y) → AnnotationFits I I' y
  annotation_fits None g = tt
  annotation_fits (Some y) g = type_fits y g.0 g.1

  -- ---- all forms

  mutual
    pub exp_asked : (own : Names) (ls : List Around) (e : Expression) → Within (run_claims V) own ls e → AllFit (below_expression e) → Within (asked V I I' start) own ls e
    exp_asked own ls (plain.int s v k) h g = tt
    exp_asked own ls (plain.bool s x) h g = tt
    exp_asked own ls (plain.tuple s es) h g = all_asked own ls es h g
    exp_asked own ls (plain.var s x) h g = h
    exp_asked own ls (plain.field s e x) h g = exp_asked own ls e h g.1
    exp_asked own ls (plain.part s e i) h g = exp_asked own ls e h g.1
    exp_asked own ls (plain.deref s e) h g = exp_asked own ls e h g.1
    exp_asked own ls (plain.negate s e) h g = exp_asked own ls e h g.1
    exp_asked own ls (plain.invert s e) h g = exp_asked own ls e h g.1
    exp_asked own ls (plain.borrow s m e) h g = exp_asked own ls e h g.1
    exp_asked own ls (plain.binary s o a b) h g = let p = parts_of (below_expression a) _ g.1 in (exp_asked own ls a h.0 p.0, exp_asked own ls b h.1 p.1.1)
    exp_asked own ls (plain.assign s a b) h g = let p = parts_of (below_expression a) _ g.1 in (exp_asked own ls a h.0 p.0, exp_asked own ls b h.1 p.1.1)
    exp_asked own ls (plain.update s o a b) h g = let p = parts_of (below_expression a) _ g.1 in (exp_asked own ls a h.0 p.0, exp_asked own ls b h.1 p.1.1)
    exp_asked own ls (plain.call s f es) h g = (λ e. (h.0 e, callee f.name e), all_asked own ls es h.1 g)
    exp_asked own ls (plain.next_input s) h g = tt
    exp_asked own ls (plain.variant s a v es) h g = arguments_asked own ls es h g
    exp_asked own ls (plain.make s x fs) h g = fields_asked own ls fs h g
    exp_asked own ls (plain.print s e) h g = exp_asked own ls e h g.1
    exp_asked own ls (plain.block s b) h g = body_asked own ls b h g.1
    exp_asked own ls (plain.if s c b o) h g =
        let p = parts_of (below_expression c) _ g.1 in let q = parts_of (below_block b) (within_optional o) p.1.1 in
        (exp_asked own ls c h.0 p.0, body_asked own ls b h.1 q.0, optional_asked own ls o h.2 q.1)
    exp_asked own ls (plain.if_let s p e b o) h g =
        let w = parts_of (below_pattern p) _ g.1 in let q = parts_of (below_expression e) _ w.1.1 in let z = parts_of (below_block b) (within_optional o) q.1.1 in
        (exp_asked own ls e h.0 q.0, body_asked (bound p ++ own) ls b h.1 z.0, optional_asked own ls o h.2 z.1)
    exp_asked own ls (plain.match s e l) h g = let p = parts_of (below_expression e) (within_arms l) g.1 in (exp_asked own ls e h.0 p.0, arms_asked own ls l h.1 p.1)
    exp_asked own ls (plain.loop s l b) h g = body_asked own (a_loop l 0 ∷ ls) b h g.1
    exp_asked own ls (plain.while s l c b) h g = let p = parts_of (below_expression c) _ g.1 in (exp_asked own (a_test ∷ a_loop l 0 ∷ ls) c h.0 p.0, body_asked own (a_loop l 0 ∷ ls) b h.1 p.1.1)
    exp_asked own ls (plain.while_let s l p e b) h g =
        let w = parts_of (below_pattern p) _ g.1 in let q = parts_of (below_expression e) _ w.1.1 in
        (exp_asked own (a_test ∷ a_loop l 0 ∷ ls) e h.0 q.0, body_asked (bound p ++ own) (a_loop l 0 ∷ ls) b h.1 q.1.1)
    exp_asked own ls (plain.break s l) h g = h
    exp_asked own ls (plain.continue s l) h g = h
    exp_asked own ls (plain.return s o) h g = (h.0, optional_asked own ls o h.1 g)

    pub all_asked : (own : Names) (ls : List Around) (e : Expressions) → AllWithin (run_claims V) own ls e → AllFit (within_expressions e) → AllWithin (asked V I I' start) own ls e
    all_asked own ls plain.no_expression h g = tt
    all_asked own ls (plain.expression_and e es) h g = let p = parts_of (below_expression e) (within_expressions es) g.1 in (exp_asked own ls e h.0 p.0, all_asked own ls es h.1 p.1)

    pub optional_asked : (own : Names) (ls : List Around) (e : OptionalExpression) → OptionalWithin (run_claims V) own ls e → AllFit (within_optional e) → OptionalWithin (asked V I I' start) own ls e
    optional_asked own ls plain.absent h g = tt
    optional_asked own ls (plain.present e) h g = exp_asked own ls e h g.1

    pub arguments_asked : (own : Names) (ls : List Around) (e : OptionalExpressions) → ArgumentsWithin (run_claims V) own ls e → AllFit (within_arguments e) → ArgumentsWithin (asked V I I' start) own ls e
    arguments_asked own ls plain.no_list h g = tt
    arguments_asked own ls (plain.a_list es) h g = all_asked own ls es h g

    pub fields_asked : (own : Names) (ls : List Around) (e : FieldExpressions) → FieldsWithin (run_claims V) own ls e → AllFit (within_fields e) → FieldsWithin (asked V I I' start) own ls e
    fields_asked own ls plain.no_field h g = tt
    fields_asked own ls (plain.field_and x e fs) h g = let p = parts_of (below_expression e) (within_fields fs) g.1 in (exp_asked own ls e h.0 p.0, fields_asked own ls fs h.1 p.1)

    pub arms_asked : (own : Names) (ls : List Around) (e : Arms) → ArmsWithin (run_claims V) own ls e → AllFit (within_arms e) → ArmsWithin (asked V I I' start) own ls e
    arms_asked own ls plain.no_arm h g = tt
    arms_asked own ls (plain.arm_and p e rest) h g =
        let w = parts_of (below_pattern p) _ g.1 in let q = parts_of (below_expression e) (within_arms rest) w.1.1 in
        (exp_asked (bound p ++ own) ls e h.0 q.0, arms_asked own ls rest h.1 q.1)

    pub body_asked : (own : Names) (ls : List Around) (e : Body) → BodyWithin (run_claims V) own ls e → AllFit (below_block e) → BodyWithin (asked V I I' start) own ls e
    body_asked own ls (plain.body s ss o) h g = let p = parts_of (within_statements ss) (within_optional o) g in (tt, statements_asked own ls ss h.1 p.0, optional_asked (behind_all own ss) ls o h.2 p.1)

    pub statement_asked : (own : Names) (ls : List Around) (e : Statement) → StatementWithin (run_claims V) own ls e → AllFit (below_statement e) → StatementWithin (asked V I I' start) own ls e
    statement_asked own ls (plain.let_statement s p y o) h g =
        let w = parts_of (below_pattern p) _ g.1 in let q = parts_of (within_type y) (within_optional o) w.1 in
        (annotation_fits y q.0, optional_asked own ls o h.1 q.1)
    statement_asked own ls (plain.expression_statement s e b) h g = exp_asked own ls e h g.1

    pub statements_asked : (own : Names) (ls : List Around) (e : Statements) → StatementsWithin (run_claims V) own ls e → AllFit (within_statements e) → StatementsWithin (asked V I I' start) own ls e
    statements_asked own ls plain.no_statement h g = tt
    statements_asked own ls (plain.statement_and a ss) h g =
        let p = parts_of (below_statement a) (within_statements ss) g.1 in (statement_asked own ls a h.0 p.0, statements_asked (bound_by a ++ own) ls ss h.1 p.1)

-- ---- the lifetimes that the run names are copied

more_found : (found : Names) (l : Ident) (ls : List Ident) → Every (λ (m : Ident). (is_among m.name (l.name ∷ found) || is_among m.name (idents (firsts_of (l.name ∷ found) ls))) ≡ true) ls → (ms : List Ident)
    → Every (λ (m : Ident). (is_among m.name (l.name ∷ found) || is_among m.name (idents (firsts_of (l.name ∷ found) ls))) ≡ true) ms → Every (λ (m : Ident). (is_among m.name found || is_among m.name (idents (l ∷ firsts_of (l.name ∷ found) ls))) ≡ true) ms
more_found found l ls h [] g = tt
more_found found l ls h (m ∷ ms) g = (by (bytes_eq m.name l.name) (is_among m.name found) (is_among m.name (idents (firsts_of (l.name ∷ found) ls))) g.0, more_found found l ls h ms g.1)
  where
    by : (a b c : Bool) → ((a || b) || c) ≡ true → (b || (a || c)) ≡ true
    by true true c e = refl
    by true false c e = refl
    by false b c e = e

first_found : (found : Names) (ls : List Ident) → Every (λ (m : Ident). (is_among m.name found || is_among m.name (idents (firsts_of found ls))) ≡ true) ls
first_found found [] = tt
first_found found (l ∷ ls) = by (is_among l.name found) refl (first_found found ls) (first_found (l.name ∷ found) ls)
  where
    by : (b : Bool) → is_among l.name found ≡ b → Every (λ (m : Ident). (is_among m.name found || is_among m.name (idents (firsts_of found ls))) ≡ true) ls
        → Every (λ (m : Ident). (is_among m.name (l.name ∷ found) || is_among m.name (idents (firsts_of (l.name ∷ found) ls))) ≡ true) ls
        → Every (λ (m : Ident). (is_among m.name found || is_among m.name (idents (if b then firsts_of found ls else l ∷ firsts_of (l.name ∷ found) ls))) ≡ true) (l ∷ ls)
    by true e same more = (or_left (is_among l.name found) (is_among l.name (idents (firsts_of found ls))) e, same)
    by false e same more = (
      or_right (is_among l.name found) (is_among l.name (idents (l ∷ firsts_of (l.name ∷ found) ls))) (or_left (bytes_eq l.name l.name) (is_among l.name (idents (firsts_of (l.name ∷ found) ls))) (same_name l.name)),
      more_found found l ls more ls more,
    )

nodes_named : (Q : Ident → Type 0) (ns : List NodeTree) → Every Q (lifetimes_at_all ns) → Every (λ (n : NodeTree). Every Q (lifetimes_at n)) ns
nodes_named Q [] h = tt
nodes_named Q (n ∷ ns) h = let p = every_front Q (lifetimes_at n) (lifetimes_at_all ns) h in (p.0, nodes_named Q ns p.1)

each_means : (I I' : Inside) (xs : Names) → ((x : List ℕ) → is_among x xs ≡ true → Meant I' x) → (ls : List Ident) → Every (λ (l : Ident). is_among l.name xs ≡ true) ls → Every (LifetimeFits I I') ls
each_means I I' xs f [] h = tt
each_means I I' xs f (l ∷ ls) h = let r = f l.name h.0 l.span in (λ n e. (r.0, r.1, tt), each_means I I' xs f ls h.1)

-- where those that are copied mean lifetimes, all nodes of the run name such
pub run_fits : (I I' : Inside) (run : Parts) → ((x : List ℕ) → is_among x (idents (copied_lifetimes run)) ≡ true → Meant I' x)
    → Every (λ (n : NodeTree). Every (LifetimeFits I I') (lifetimes_at n)) (within_statements (as_statements run.statements) ++ within_optional run.tail)
run_fits I I' run f =
    let ns = within_statements (as_statements run.statements) ++ within_optional run.tail in
    nodes_named (LifetimeFits I I') ns (each_means I I' (idents (copied_lifetimes run)) f (lifetimes_at_all ns) (first_found [] (lifetimes_at_all ns)))
