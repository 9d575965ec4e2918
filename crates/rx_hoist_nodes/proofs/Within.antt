-- What stands below a node is what its children are and have below them, form by form; so a child has less below it.
use Rattle.std.proofs.Common.{◌≡◌, ℕ, zero, suc, ◌+◌, ◌<◌, ◌≤◌, List, [], ◌∷◌, ◌++◌, length, take, Option, Some, None, slice_get, refl, sym, ap, subst, ◌∙◌, append_assoc, append-nil, arith, length-append}
use Rattle.std.proofs.lemmas.Option.{slice_get_within}
use Rattle.rx_tree.specs.Plain as plain
use Rattle.rx_tree.specs.Plain.{TypeTree, TypeTrees, PatternTree, PatternTrees, FieldPatterns, Expression, Expressions, OptionalExpression, OptionalExpressions, FieldExpressions, Arms, Statement, Statements, Body, Parameter, FieldOf, VariantOf, Function, ItemTree}
use Rattle.rx_tree.specs.Positions.{NodeTree, an_item, a_type, a_block, a_statement, an_expression, a_pattern, type_nodes, optional_type_nodes, pattern_nodes, field_pattern_nodes, expression_nodes, optional_nodes, argument_nodes, field_nodes, arm_nodes, statement_nodes, declared_nodes, variant_nodes, parameter_nodes, type_children, pattern_children, expression_children, block_children, statement_children, function_children, item_children, children}
use Rattle.rx_tree.specs.Nodes.{below, below_type, within_types, within_type, below_pattern, within_patterns, within_field_patterns, below_expression, within_expressions, within_optional, within_arguments, within_fields, within_arms, below_block, below_statement, within_statements, within_declared, within_variants, within_parameters, below_item}
use Rattle.rx_hoist_nodes.specs.Nodes.{within, within_all}

-- ---- lists put together

pub together : (xs ys : List NodeTree) → within_all (xs ++ ys) ≡ within_all xs ++ within_all ys
together [] ys = refl
together (x ∷ xs) ys = ap (λ l. within x ++ l) (together xs ys) ∙ sym (append_assoc (within x) (within_all xs) (within_all ys))

one : (n : NodeTree) → n ∷ below n ≡ within_all (n ∷ [])
one n = ap (λ l. n ∷ l) (sym (append-nil (below n)))

two : (m n : NodeTree) → m ∷ (below m ++ (n ∷ below n)) ≡ within_all (m ∷ n ∷ [])
two m n = ap (λ l. m ∷ (below m ++ l)) (one n)

-- ---- lists of nodes

all_types : (ts : TypeTrees) → within_types ts ≡ within_all (type_nodes ts)
all_types plain.no_type = refl
all_types (plain.type_and t ts) = ap (λ l. a_type t ∷ (below_type t ++ l)) (all_types ts)

if_type : (t : Option TypeTree) → within_type t ≡ within_all (optional_type_nodes t)
if_type None = refl
if_type (Some t) = one (a_type t)

all_patterns : (ps : PatternTrees) → within_patterns ps ≡ within_all (pattern_nodes ps)
all_patterns plain.no_pattern = refl
all_patterns (plain.pattern_and p ps) = ap (λ l. a_pattern p ∷ (below_pattern p ++ l)) (all_patterns ps)

all_field_patterns : (fs : FieldPatterns) → within_field_patterns fs ≡ within_all (field_pattern_nodes fs)
all_field_patterns plain.no_field_pattern = refl
all_field_patterns (plain.field_pattern_and x p fs) = ap (λ l. a_pattern p ∷ (below_pattern p ++ l)) (all_field_patterns fs)

all_expressions : (es : Expressions) → within_expressions es ≡ within_all (expression_nodes es)
all_expressions plain.no_expression = refl
all_expressions (plain.expression_and e es) = ap (λ l. an_expression e ∷ (below_expression e ++ l)) (all_expressions es)

if_expression : (o : OptionalExpression) → within_optional o ≡ within_all (optional_nodes o)
if_expression plain.absent = refl
if_expression (plain.present e) = one (an_expression e)

all_arguments : (es : OptionalExpressions) → within_arguments es ≡ within_all (argument_nodes es)
all_arguments plain.no_list = refl
all_arguments (plain.a_list es) = all_expressions es

all_fields : (fs : FieldExpressions) → within_fields fs ≡ within_all (field_nodes fs)
all_fields plain.no_field = refl
all_fields (plain.field_and x e fs) = ap (λ l. an_expression e ∷ (below_expression e ++ l)) (all_fields fs)

all_arms : (l : Arms) → within_arms l ≡ within_all (arm_nodes l)
all_arms plain.no_arm = refl
all_arms (plain.arm_and p e l) = ap (λ r. a_pattern p ∷ (below_pattern p ++ (an_expression e ∷ (below_expression e ++ r)))) (all_arms l)

all_statements : (ss : Statements) → within_statements ss ≡ within_all (statement_nodes ss)
all_statements plain.no_statement = refl
all_statements (plain.statement_and a ss) = ap (λ l. a_statement a ∷ (below_statement a ++ l)) (all_statements ss)

all_declared : (fs : List FieldOf) → within_declared fs ≡ within_all (declared_nodes fs)
all_declared [] = refl
all_declared (f ∷ fs) = ap (λ l. a_type f.typ ∷ (below_type f.typ ++ l)) (all_declared fs)

all_variants : (vs : List VariantOf) → within_variants vs ≡ within_all (variant_nodes vs)
all_variants [] = refl
all_variants (v ∷ vs) = ap (λ l. l ++ within_variants vs) (all_types v.types) ∙ ap (λ l. within_all (type_nodes v.types) ++ l) (all_variants vs)
    ∙ sym (together (type_nodes v.types) (variant_nodes vs))

all_parameters : (xs : List Parameter) → within_parameters xs ≡ within_all (parameter_nodes xs)
all_parameters [] = refl
all_parameters (x ∷ xs) = ap (λ l. a_type x.typ ∷ (below_type x.typ ++ l)) (all_parameters xs)

-- ---- each kind of node

of_type : (t : TypeTree) → below_type t ≡ within_all (type_children t)
of_type (plain.kind_type s k) = refl
of_type (plain.bool_type s) = refl
of_type (plain.tuple_type s ts) = all_types ts
of_type (plain.ref_type s l m t) = one (a_type t)
of_type (plain.named_type s n ls) = refl

of_pattern : (p : PatternTree) → below_pattern p ≡ within_all (pattern_children p)
of_pattern (plain.wild s) = refl
of_pattern (plain.bind s n m) = refl
of_pattern (plain.int_pattern s g v k) = refl
of_pattern (plain.bool_pattern s b) = refl
of_pattern (plain.tuple_pattern s ps) = all_patterns ps
of_pattern (plain.variant_pattern s a v ps) = all_patterns ps
of_pattern (plain.make_pattern s n fs) = all_field_patterns fs

of_expression : (e : Expression) → below_expression e ≡ within_all (expression_children e)
of_expression (plain.int s v k) = refl
of_expression (plain.bool s b) = refl
of_expression (plain.tuple s es) = all_expressions es
of_expression (plain.var s x) = refl
of_expression (plain.field s e n) = one (an_expression e)
of_expression (plain.part s e i) = one (an_expression e)
of_expression (plain.deref s e) = one (an_expression e)
of_expression (plain.negate s e) = one (an_expression e)
of_expression (plain.invert s e) = one (an_expression e)
of_expression (plain.borrow s m e) = one (an_expression e)
of_expression (plain.binary s o l r) = two (an_expression l) (an_expression r)
of_expression (plain.assign s l r) = two (an_expression l) (an_expression r)
of_expression (plain.update s o l r) = two (an_expression l) (an_expression r)
of_expression (plain.call s f es) = all_expressions es
of_expression (plain.next_input s) = refl
of_expression (plain.variant s a v es) = all_arguments es
of_expression (plain.make s n fs) = all_fields fs
of_expression (plain.print s e) = one (an_expression e)
of_expression (plain.block s b) = one (a_block b)
of_expression (plain.if s c b o) = ap (λ l. an_expression c ∷ (below_expression c ++ (a_block b ∷ (below_block b ++ l)))) (if_expression o)
of_expression (plain.if_let s p e b o) = ap (λ l. a_pattern p ∷ (below_pattern p ++ (an_expression e ∷ (below_expression e ++ (a_block b ∷ (below_block b ++ l)))))) (if_expression o)
of_expression (plain.match s e l) = ap (λ r. an_expression e ∷ (below_expression e ++ r)) (all_arms l)
of_expression (plain.loop s l b) = one (a_block b)
of_expression (plain.while s l c b) = two (an_expression c) (a_block b)
of_expression (plain.while_let s l p e b) = ap (λ r. a_pattern p ∷ (below_pattern p ++ r)) (two (an_expression e) (a_block b))
of_expression (plain.break s l) = refl
of_expression (plain.continue s l) = refl
of_expression (plain.return s o) = if_expression o

of_block : (b : Body) → below_block b ≡ within_all (block_children b)
of_block (plain.body s ss t) = ap (λ l. l ++ within_optional t) (all_statements ss) ∙ ap (λ l. within_all (statement_nodes ss) ++ l) (if_expression t)
    ∙ sym (together (statement_nodes ss) (optional_nodes t))

of_statement : (a : Statement) → below_statement a ≡ within_all (statement_children a)
of_statement (plain.let_statement s p t i) =
    ap (λ l. a_pattern p ∷ (below_pattern p ++ l))
    (ap (λ l. l ++ within_optional i) (if_type t) ∙ ap (λ l. within_all (optional_type_nodes t) ++ l) (if_expression i) ∙ sym (together (optional_type_nodes t) (optional_nodes i)))
of_statement (plain.expression_statement s e b) = one (an_expression e)

of_function : (f : Function) → within_parameters f.params ++ (within_type f.result ++ (a_block f.body ∷ below_block f.body)) ≡ within_all (function_children f)
of_function f =
    ap (λ l. l ++ (within_type f.result ++ (a_block f.body ∷ below_block f.body))) (all_parameters f.params)
    ∙ ap (λ l. within_all (parameter_nodes f.params) ++ l)
    (ap (λ l. l ++ (a_block f.body ∷ below_block f.body)) (if_type f.result) ∙ ap (λ l. within_all (optional_type_nodes f.result) ++ l) (one (a_block f.body))
    ∙ sym (together (optional_type_nodes f.result) (a_block f.body ∷ [])))
    ∙ sym (together (parameter_nodes f.params) (optional_type_nodes f.result ++ (a_block f.body ∷ [])))

of_item : (i : ItemTree) → below_item i ≡ within_all (item_children i)
of_item (plain.rt_item s r) = refl
of_item (plain.struct_item s x) = all_declared x.fields
of_item (plain.enum_item s x) = all_variants x.variants
of_item (plain.function_item s f) = of_function f

pub below_is : (n : NodeTree) → below n ≡ within_all (children n)
below_is (an_item i) = of_item i
below_is (a_type t) = of_type t
below_is (a_block b) = of_block b
below_is (a_statement a) = of_statement a
below_is (an_expression e) = of_expression e
below_is (a_pattern p) = of_pattern p

-- ---- one child more

pub one_more : (ns : List NodeTree) (k : ℕ) (n : NodeTree) → slice_get ns k ≡ Some n → within_all (take (suc k) ns) ≡ within_all (take k ns) ++ within n
one_more [] k n e = absurd (cc)
one_more (x ∷ xs) zero n e = let same : x ≡ n = cc in append-nil (within x) ∙ ap within same
one_more (x ∷ xs) (suc k) n e = ap (λ l. within x ++ l) (one_more xs k n e) ∙ sym (append_assoc (within x) (within_all (take k xs)) (within n))

-- each child is one node at least
pub at_least : (ns : List NodeTree) → length ns ≤ length (within_all ns)
at_least [] = omega arith
at_least (x ∷ xs) = let l = at_least xs in let e = length-append (within x) (within_all xs) in omega (arith, l, e)

-- a child has less below it
in_all : (ns : List NodeTree) (k : ℕ) (n : NodeTree) → slice_get ns k ≡ Some n → length (below n) < length (within_all ns)
in_all [] k n e = absurd (cc)
in_all (x ∷ xs) zero n e = let same : x ≡ n = cc in subst (λ y. length (below y) < length (within x ++ within_all xs)) same (let l = length-append (within x) (within_all xs) in omega (arith, l))
in_all (x ∷ xs) (suc k) n e = let h = in_all xs k n e in let l = length-append (within x) (within_all xs) in omega (arith, h, l)

pub less_below : (n c : NodeTree) (k : ℕ) → slice_get (children n) k ≡ Some c → length (below c) < length (below n)
less_below n c k e = subst (λ l. length (below c) < length l) (sym (below_is n)) (in_all (children n) k c e)
