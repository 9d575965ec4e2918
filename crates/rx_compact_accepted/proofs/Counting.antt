-- A body whose types are written with other lifetimes has nodes that count as much: bindings, loops, and how long their lists are.
use Rattle.std.proofs.Common.{◌≡◌, ℕ, suc, List, [], ◌∷◌, ◌++◌, length, map, Option, Some, None, refl, sym, ap, ap₂, ◌∙◌}
use Rattle.std.specs.Prelude.{option_map}
use Rattle.std.proofs.lemmas.List.{length-map}
use Rattle.rx_tree.specs.declared.tree.Ident.{Ident}
use Rattle.rx_tree.specs.Lists.{listed, listed_types, listed_expressions, listed_fields, listed_arms, statements}
use Rattle.rx_tree.specs.Nodes.{below_type, within_types, within_type, below_pattern, below_expression, within_expressions, within_optional, within_arguments, within_fields, within_arms, below_block, below_statement, within_statements, within_parameters}
use Rattle.rx_tree.specs.Positions.{NodeTree, a_type, a_block, a_statement, an_expression, a_pattern}
use Rattle.rx_tree.specs.Plain as plain
use Rattle.rx_tree.specs.Plain.{TypeTree, TypeTrees, Expression, Expressions, OptionalExpression, OptionalExpressions, FieldExpressions, Arms, Body, Statement, Statements, Parameter}
use Rattle.rx_tree.specs.Size.{bindings_at, lifetimes_at, loops_at, longest_at}
use Rattle.rx_resolve_names.specs.Meant.{Around, a_loop, a_test}
use Rattle.rx_hoist_extraction.specs.Names.{Names, bound, bound_by, behind_all}
use Rattle.rx_hoist_extraction.specs.Changed.{Changes, changed, changed_all, changed_optional, changed_arguments, changed_fields, changed_arms, changed_body, changed_statement, changed_statements}
use Rattle.rx_compact_lifetimes.specs.declared.rewriting.Rewriting.{Rewriting}
use Rattle.rx_compact_lifetimes.specs.Rewritten.{rewritten_lifetime, rewritten_type, rewritten_types, rewritten_parameter, rewritten_body, retyping}

-- what a node counts
pub record Counted : Type 0 where
  pub bindings : ℕ
  pub loops : ℕ
  pub lifetimes : ℕ
  pub longest : ℕ

abbrev pub counts : NodeTree → Counted
counts n = record { bindings = bindings_at n; loops = loops_at n; lifetimes = lifetimes_at n; longest = longest_at n }

-- nodes that count as much
pub record Likes (ns ms : List NodeTree) : Type 0 where
  pub same : map counts ns ≡ map counts ms

abbrev long : ℕ → Counted
long n = record { bindings = 0; loops = 0; lifetimes = 0; longest = n }

pub like_itself : (ns : List NodeTree) → Likes ns ns
like_itself ns = record { same = refl }

pub like_on : {a b c : List NodeTree} → Likes a b → Likes b c → Likes a c
like_on x y = record { same = x.same ∙ y.same }

pub like_and : {n m : NodeTree} {ns ms : List NodeTree} → counts n ≡ counts m → Likes ns ms → Likes (n ∷ ns) (m ∷ ms)
like_and e x = record { same = ap₂ (λ c cs. c ∷ cs) e x.same }

both_counted : (ns ms : List NodeTree) → map counts (ns ++ ms) ≡ map counts ns ++ map counts ms
both_counted [] ms = refl
both_counted (n ∷ ns) ms = ap (λ cs. counts n ∷ cs) (both_counted ns ms)

pub like_both : {a b c d : List NodeTree} → Likes a b → Likes c d → Likes (a ++ c) (b ++ d)
like_both {a} {b} {c} {d} x y = record { same = both_counted a c ∙ (ap₂ (λ u v. u ++ v) x.same y.same ∙ sym (both_counted b d)) }

module _ (rs : List Rewriting) where
  -- ---- types

  many_types : (ts : TypeTrees) → length (listed_types (rewritten_types rs ts)) ≡ length (listed_types ts)
  many_types plain.no_type = refl
  many_types (plain.type_and t ts) = ap suc (many_types ts)

  type_counts : (t : TypeTree) → counts (a_type (rewritten_type rs t)) ≡ counts (a_type t)
  type_counts (plain.kind_type s k) = refl
  type_counts (plain.bool_type s) = refl
  type_counts (plain.tuple_type s ts) = ap long (many_types ts)
  type_counts (plain.ref_type s l m t) = refl
  type_counts (plain.named_type s x None) = refl
  type_counts (plain.named_type s x (Some ls)) = ap long (length-map ls (rewritten_lifetime rs))

  mutual
    type : (t : TypeTree) → Likes (below_type (rewritten_type rs t)) (below_type t)
    type (plain.kind_type s k) = like_itself []
    type (plain.bool_type s) = like_itself []
    type (plain.tuple_type s ts) = types ts
    type (plain.ref_type s l m t) = like_and (type_counts t) (type t)
    type (plain.named_type s x ls) = like_itself []

    types : (ts : TypeTrees) → Likes (within_types (rewritten_types rs ts)) (within_types ts)
    types plain.no_type = like_itself []
    types (plain.type_and t ts) = like_and (type_counts t) (like_both (type t) (types ts))

  pub optional_type : (y : Option TypeTree) → Likes (within_type (option_map (rewritten_type rs) y)) (within_type y)
  optional_type None = like_itself []
  optional_type (Some t) = like_and (type_counts t) (type t)

  pub parameters : (xs : List Parameter) → Likes (within_parameters (map (rewritten_parameter rs) xs)) (within_parameters xs)
  parameters [] = like_itself []
  parameters (x ∷ xs) = like_and (type_counts x.typ) (like_both (type x.typ) (parameters xs))

  -- ---- expressions

  abbrev C : Changes
  C = retyping (rewritten_type rs)

  many : (own : Names) (ls : List Around) (es : Expressions) → length (listed_expressions (changed_all C own ls es)) ≡ length (listed_expressions es)
  many own ls plain.no_expression = refl
  many own ls (plain.expression_and e es) = ap suc (many own ls es)

  many_fields : (own : Names) (ls : List Around) (fs : FieldExpressions) → length (listed_fields (changed_fields C own ls fs)) ≡ length (listed_fields fs)
  many_fields own ls plain.no_field = refl
  many_fields own ls (plain.field_and x e fs) = ap suc (many_fields own ls fs)

  many_arms : (own : Names) (ls : List Around) (l : Arms) → length (listed_arms (changed_arms C own ls l)) ≡ length (listed_arms l)
  many_arms own ls plain.no_arm = refl
  many_arms own ls (plain.arm_and p e rest) = ap suc (many_arms own ls rest)

  many_statements : (own : Names) (ls : List Around) (ss : Statements) → length (listed (changed_statements C own ls ss)) ≡ length (listed ss)
  many_statements own ls plain.no_statement = refl
  many_statements own ls (plain.statement_and a ss) = ap suc (many_statements (bound_by a ++ own) ls ss)

  one : (own : Names) (ls : List Around) (e : Expression) → counts (an_expression (changed C own ls e)) ≡ counts (an_expression e)
  one own ls (plain.int s v k) = refl
  one own ls (plain.bool s b) = refl
  one own ls (plain.tuple s es) = ap long (many own ls es)
  one own ls (plain.var s x) = refl
  one own ls (plain.field s e x) = refl
  one own ls (plain.part s e i) = refl
  one own ls (plain.deref s e) = refl
  one own ls (plain.negate s e) = refl
  one own ls (plain.invert s e) = refl
  one own ls (plain.borrow s m e) = refl
  one own ls (plain.binary s o a b) = refl
  one own ls (plain.assign s a b) = refl
  one own ls (plain.update s o a b) = refl
  one own ls (plain.call s f es) = ap long (many own ls es)
  one own ls (plain.next_input s) = refl
  one own ls (plain.variant s a v plain.no_list) = refl
  one own ls (plain.variant s a v (plain.a_list es)) = ap long (many own ls es)
  one own ls (plain.make s x fs) = ap long (many_fields own ls fs)
  one own ls (plain.print s e) = refl
  one own ls (plain.block s b) = refl
  one own ls (plain.if s c b o) = refl
  one own ls (plain.if_let s p e b o) = refl
  one own ls (plain.match s e l) = ap long (many_arms own ls l)
  one own ls (plain.loop s l b) = refl
  one own ls (plain.while s l c b) = refl
  one own ls (plain.while_let s l p e b) = refl
  one own ls (plain.break s l) = refl
  one own ls (plain.continue s l) = refl
  one own ls (plain.return s o) = refl

  block_counts : (own : Names) (ls : List Around) (b : Body) → counts (a_block (changed_body C own ls b)) ≡ counts (a_block b)
  block_counts own ls (plain.body s ss o) = ap long (many_statements own ls ss)

  mutual
    below : (own : Names) (ls : List Around) (e : Expression) → Likes (below_expression (changed C own ls e)) (below_expression e)
    below own ls (plain.int s v k) = like_itself []
    below own ls (plain.bool s b) = like_itself []
    below own ls (plain.tuple s es) = all own ls es
    below own ls (plain.var s x) = like_itself []
    below own ls (plain.field s e x) = like_and (one own ls e) (below own ls e)
    below own ls (plain.part s e i) = like_and (one own ls e) (below own ls e)
    below own ls (plain.deref s e) = like_and (one own ls e) (below own ls e)
    below own ls (plain.negate s e) = like_and (one own ls e) (below own ls e)
    below own ls (plain.invert s e) = like_and (one own ls e) (below own ls e)
    below own ls (plain.borrow s m e) = like_and (one own ls e) (below own ls e)
    below own ls (plain.binary s o a b) = like_and (one own ls a) (like_both (below own ls a) (like_and (one own ls b) (below own ls b)))
    below own ls (plain.assign s a b) = like_and (one own ls a) (like_both (below own ls a) (like_and (one own ls b) (below own ls b)))
    below own ls (plain.update s o a b) = like_and (one own ls a) (like_both (below own ls a) (like_and (one own ls b) (below own ls b)))
    below own ls (plain.call s f es) = all own ls es
    below own ls (plain.next_input s) = like_itself []
    below own ls (plain.variant s a v es) = arguments own ls es
    below own ls (plain.make s x fs) = fields own ls fs
    below own ls (plain.print s e) = like_and (one own ls e) (below own ls e)
    below own ls (plain.block s b) = like_and (block_counts own ls b) (block own ls b)
    below own ls (plain.if s c b o) = like_and (one own ls c) (like_both (below own ls c) (like_and (block_counts own ls b) (like_both (block own ls b) (optional own ls o))))
    below own ls (plain.if_let s p e b o) = like_and refl (like_both (like_itself (below_pattern p)) (like_and (one own ls e) (like_both (below own ls e) (like_and (block_counts (bound p ++ own) ls b) (like_both (block (bound p ++ own) ls b) (optional own ls o))))))
    below own ls (plain.match s e l) = like_and (one own ls e) (like_both (below own ls e) (arms own ls l))
    below own ls (plain.loop s l b) = like_and (block_counts own (a_loop l 0 ∷ ls) b) (block own (a_loop l 0 ∷ ls) b)
    below own ls (plain.while s l c b) = like_and (one own (a_test ∷ a_loop l 0 ∷ ls) c) (like_both (below own (a_test ∷ a_loop l 0 ∷ ls) c) (like_and (block_counts own (a_loop l 0 ∷ ls) b) (block own (a_loop l 0 ∷ ls) b)))
    below own ls (plain.while_let s l p e b) = like_and refl (like_both (like_itself (below_pattern p)) (like_and (one own (a_test ∷ a_loop l 0 ∷ ls) e) (like_both (below own (a_test ∷ a_loop l 0 ∷ ls) e) (like_and (block_counts (bound p ++ own) (a_loop l 0 ∷ ls) b) (block (bound p ++ own) (a_loop l 0 ∷ ls) b)))))
    below own ls (plain.break s l) = like_itself []
    below own ls (plain.continue s l) = like_itself []
    below own ls (plain.return s o) = optional own ls o

    all : (own : Names) (ls : List Around) (es : Expressions) → Likes (within_expressions (changed_all C own ls es)) (within_expressions es)
    all own ls plain.no_expression = like_itself []
    all own ls (plain.expression_and e es) = like_and (one own ls e) (like_both (below own ls e) (all own ls es))

    optional : (own : Names) (ls : List Around) (o : OptionalExpression) → Likes (within_optional (changed_optional C own ls o)) (within_optional o)
    optional own ls plain.absent = like_itself []
    optional own ls (plain.present e) = like_and (one own ls e) (below own ls e)

    arguments : (own : Names) (ls : List Around) (es : OptionalExpressions) → Likes (within_arguments (changed_arguments C own ls es)) (within_arguments es)
    arguments own ls plain.no_list = like_itself []
    arguments own ls (plain.a_list es) = all own ls es

    fields : (own : Names) (ls : List Around) (fs : FieldExpressions) → Likes (within_fields (changed_fields C own ls fs)) (within_fields fs)
    fields own ls plain.no_field = like_itself []
    fields own ls (plain.field_and x e fs) = like_and (one own ls e) (like_both (below own ls e) (fields own ls fs))

    arms : (own : Names) (ls : List Around) (l : Arms) → Likes (within_arms (changed_arms C own ls l)) (within_arms l)
    arms own ls plain.no_arm = like_itself []
    arms own ls (plain.arm_and p e rest) = like_and refl (like_both (like_itself (below_pattern p)) (like_and (one (bound p ++ own) ls e) (like_both (below (bound p ++ own) ls e) (arms own ls rest))))

    pub block : (own : Names) (ls : List Around) (b : Body) → Likes (below_block (changed_body C own ls b)) (below_block b)
    block own ls (plain.body s ss o) = like_both (all_statements own ls ss) (optional (behind_all own ss) ls o)

    statement : (own : Names) (ls : List Around) (a : Statement) → Likes (below_statement (changed_statement C own ls a)) (below_statement a)
    statement own ls (plain.let_statement s p y o) = like_and refl (like_both (like_itself (below_pattern p)) (like_both (optional_type y) (optional own ls o)))
    statement own ls (plain.expression_statement s e b) = like_and (one own ls e) (below own ls e)

    all_statements : (own : Names) (ls : List Around) (ss : Statements) → Likes (within_statements (changed_statements C own ls ss)) (within_statements ss)
    all_statements own ls plain.no_statement = like_itself []
    all_statements own ls (plain.statement_and a ss) = like_and refl (like_both (statement own ls a) (all_statements (bound_by a ++ own) ls ss))

  pub body : (b : Body) → Likes (a_block (rewritten_body rs b) ∷ below_block (rewritten_body rs b)) (a_block b ∷ below_block b)
  body b = like_and (block_counts [] [] b) (block [] [] b)
