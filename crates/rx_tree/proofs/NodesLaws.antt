-- What holds of each of a program's nodes holds at every position, and the other way round.
use Rattle.std.proofs.Common.{◌≡◌, ℕ, zero, suc, ◌+◌, ◌≤◌, max, List, [], ◌∷◌, ◌++◌, length, Option, Some, None, refl, ap, sym, subst, ◌∙◌, slice_get, map, arith, append_assoc, append-nil, length-append}
use Rattle.rx_tree.specs.Plain as plain
use Rattle.rx_tree.specs.Plain.{TypeTree, TypeTrees, PatternTree, PatternTrees, FieldPatterns, Expression, Expressions, OptionalExpression, OptionalExpressions, FieldExpressions, Arms, Body, Statement, Statements, Parameter, FieldOf, VariantOf, ItemTree, ProgramTree}
use Rattle.rx_tree.specs.Lists.{Every}
use Rattle.rx_tree.specs.Positions.{NodeTree, an_item, a_type, a_block, a_statement, an_expression, a_pattern, type_nodes, optional_type_nodes, pattern_nodes, field_pattern_nodes, expression_nodes, optional_nodes, argument_nodes, field_nodes, arm_nodes, statement_nodes, declared_nodes, variant_nodes, parameter_nodes, children, descend, node_at}
use Rattle.rx_tree.specs.Nodes.{below_type, within_types, within_type, below_pattern, within_patterns, within_field_patterns, below_expression, within_expressions, within_optional, within_arguments, within_fields, within_arms, below_block, below_statement, within_statements, within_declared, within_variants, within_parameters, below_item, below, nodes, EveryNode, total, greatest}

-- ---- a fact of each of two lists put together

pub every_both : {A : Type 0} (P : A → Type 0) (xs ys : List A) → Every P xs → Every P ys → Every P (xs ++ ys)
every_both P [] ys f g = g
every_both P (x ∷ xs) ys f g = (f.0, every_both P xs ys f.1 g)

pub every_front : {A : Type 0} (P : A → Type 0) (xs ys : List A) → Every P (xs ++ ys) → Every P xs
every_front P [] ys f = tt
every_front P (x ∷ xs) ys f = (f.0, every_front P xs ys f.1)

pub every_behind : {A : Type 0} (P : A → Type 0) (xs ys : List A) → Every P (xs ++ ys) → Every P ys
every_behind P [] ys f = f
every_behind P (x ∷ xs) ys f = every_behind P xs ys f.1

-- ---- numbers of two lists put together

pub total_both : (f : NodeTree → ℕ) (xs ys : List NodeTree) → total f (xs ++ ys) ≡ total f xs + total f ys
total_both f [] ys = omega arith
total_both f (x ∷ xs) ys = let e : total f (xs ++ ys) ≡ total f xs + total f ys = total_both f xs ys in omega arith

pub greatest_both : (f : NodeTree → ℕ) (xs ys : List NodeTree)
    → greatest f (xs ++ ys) ≡ max (greatest f xs) (greatest f ys)
greatest_both f [] ys = omega arith
greatest_both f (x ∷ xs) ys = let e : greatest f (xs ++ ys) ≡ max (greatest f xs)
    (greatest f ys) = greatest_both f xs ys in omega arith

-- ---- the nodes below a node are its children and those below them

abbrev pub joined : List NodeTree → List NodeTree
joined [] = []
joined (c ∷ cs) = c ∷ (below c ++ joined cs)

joined_both : (xs ys : List NodeTree) → joined (xs ++ ys) ≡ joined xs ++ joined ys
joined_both [] ys = refl
joined_both (x ∷ xs) ys = ap (λ l. x ∷ (below x ++ l)) (joined_both xs ys) ∙ ap (λ l. x ∷ l)
    (sym (append_assoc (below x) (joined xs) (joined ys)))

joined_one : (x : NodeTree) → x ∷ below x ≡ joined (x ∷ [])
joined_one x = ap (λ l. x ∷ l) (sym (append-nil (below x)))

joined_two : (x y : NodeTree) → x ∷ (below x ++ (y ∷ below y)) ≡ joined (x ∷ y ∷ [])
joined_two x y = ap (λ l. x ∷ (below x ++ l)) (joined_one y)

types_joined : (ts : TypeTrees) → within_types ts ≡ joined (type_nodes ts)
types_joined plain.no_type = refl
types_joined (plain.type_and t ts) = ap (λ l. a_type t ∷ (below_type t ++ l)) (types_joined ts)

type_joined : (t : Option TypeTree) → within_type t ≡ joined (optional_type_nodes t)
type_joined None = refl
type_joined (Some t) = joined_one (a_type t)

patterns_joined : (ps : PatternTrees) → within_patterns ps ≡ joined (pattern_nodes ps)
patterns_joined plain.no_pattern = refl
patterns_joined (plain.pattern_and p ps) = ap (λ l. a_pattern p ∷ (below_pattern p ++ l)) (patterns_joined ps)

field_patterns_joined : (fs : FieldPatterns) → within_field_patterns fs ≡ joined (field_pattern_nodes fs)
field_patterns_joined plain.no_field_pattern = refl
field_patterns_joined (plain.field_pattern_and n p fs) = ap (λ l. a_pattern p ∷ (below_pattern p ++ l))
    (field_patterns_joined fs)

expressions_joined : (es : Expressions) → within_expressions es ≡ joined (expression_nodes es)
expressions_joined plain.no_expression = refl
expressions_joined (plain.expression_and e es) = ap (λ l. an_expression e ∷ (below_expression e ++ l))
    (expressions_joined es)

optional_joined : (o : OptionalExpression) → within_optional o ≡ joined (optional_nodes o)
optional_joined plain.absent = refl
optional_joined (plain.present e) = joined_one (an_expression e)

arguments_joined : (o : OptionalExpressions) → within_arguments o ≡ joined (argument_nodes o)
arguments_joined plain.no_list = refl
arguments_joined (plain.a_list es) = expressions_joined es

fields_joined : (fs : FieldExpressions) → within_fields fs ≡ joined (field_nodes fs)
fields_joined plain.no_field = refl
fields_joined (plain.field_and n e fs) = ap (λ l. an_expression e ∷ (below_expression e ++ l)) (fields_joined fs)

arms_joined : (l : Arms) → within_arms l ≡ joined (arm_nodes l)
arms_joined plain.no_arm = refl
arms_joined (plain.arm_and p e rest) = ap (λ l. a_pattern p ∷
    (below_pattern p ++ (an_expression e ∷ (below_expression e ++ l)))) (arms_joined rest)

statements_joined : (ss : Statements) → within_statements ss ≡ joined (statement_nodes ss)
statements_joined plain.no_statement = refl
statements_joined (plain.statement_and a ss) = ap (λ l. a_statement a ∷ (below_statement a ++ l)) (statements_joined ss)

declared_joined : (fs : List FieldOf) → within_declared fs ≡ joined (declared_nodes fs)
declared_joined [] = refl
declared_joined (f ∷ fs) = ap (λ l. a_type f.typ ∷ (below_type f.typ ++ l)) (declared_joined fs)

variants_joined : (vs : List VariantOf) → within_variants vs ≡ joined (variant_nodes vs)
variants_joined [] = refl
variants_joined (v ∷ vs) =
    ap (λ l. l ++ within_variants vs) (types_joined v.types) ∙ ap (λ l. joined (type_nodes v.types) ++ l)
    (variants_joined vs)
    ∙ sym (joined_both (type_nodes v.types) (variant_nodes vs))

parameters_joined : (xs : List Parameter) → within_parameters xs ≡ joined (parameter_nodes xs)
parameters_joined [] = refl
parameters_joined (x ∷ xs) = ap (λ l. a_type x.typ ∷ (below_type x.typ ++ l)) (parameters_joined xs)

expression_joined : (e : Expression) → below_expression e ≡ joined (children (an_expression e))
expression_joined (plain.int s v k) = refl
expression_joined (plain.bool s b) = refl
expression_joined (plain.tuple s es) = expressions_joined es
expression_joined (plain.var s x) = refl
expression_joined (plain.field s e n) = joined_one (an_expression e)
expression_joined (plain.part s e i) = joined_one (an_expression e)
expression_joined (plain.deref s e) = joined_one (an_expression e)
expression_joined (plain.negate s e) = joined_one (an_expression e)
expression_joined (plain.invert s e) = joined_one (an_expression e)
expression_joined (plain.borrow s m e) = joined_one (an_expression e)
expression_joined (plain.binary s o l r) = joined_two (an_expression l) (an_expression r)
expression_joined (plain.assign s l r) = joined_two (an_expression l) (an_expression r)
expression_joined (plain.update s o l r) = joined_two (an_expression l) (an_expression r)
expression_joined (plain.call s f es) = expressions_joined es
expression_joined (plain.next_input s) = refl
expression_joined (plain.variant s a v es) = arguments_joined es
expression_joined (plain.make s n fs) = fields_joined fs
expression_joined (plain.print s e) = joined_one (an_expression e)
expression_joined (plain.block s b) = joined_one (a_block b)
expression_joined (plain.if s c b o) = ap (λ l. an_expression c ∷
    (below_expression c ++ (a_block b ∷ (below_block b ++ l)))) (optional_joined o)
expression_joined (plain.if_let s p e b o) =
    ap (λ l. a_pattern p ∷ (below_pattern p ++
    (an_expression e ∷ (below_expression e ++ (a_block b ∷ (below_block b ++ l)))))) (optional_joined o)
expression_joined (plain.match s e l) = ap (λ l. an_expression e ∷ (below_expression e ++ l)) (arms_joined l)
expression_joined (plain.loop s l b) = joined_one (a_block b)
expression_joined (plain.while s l c b) = joined_two (an_expression c) (a_block b)
expression_joined (plain.while_let s l p e b) = ap (λ l. a_pattern p ∷ (below_pattern p ++ l))
    (joined_two (an_expression e) (a_block b))
expression_joined (plain.break s l) = refl
expression_joined (plain.continue s l) = refl
expression_joined (plain.return s o) = optional_joined o

block_joined : (b : Body) → below_block b ≡ joined (children (a_block b))
block_joined (plain.body s ss t) =
    ap (λ l. l ++ within_optional t) (statements_joined ss) ∙ ap (λ l. joined (statement_nodes ss) ++ l)
    (optional_joined t)
    ∙ sym (joined_both (statement_nodes ss) (optional_nodes t))

statement_joined : (a : Statement) → below_statement a ≡ joined (children (a_statement a))
statement_joined (plain.let_statement s p t i) =
    ap (λ l. a_pattern p ∷ (below_pattern p ++ l))
    (ap (λ l. l ++ within_optional i) (type_joined t) ∙ ap (λ l. joined (optional_type_nodes t) ++ l)
    (optional_joined i)
    ∙ sym (joined_both (optional_type_nodes t) (optional_nodes i)))
statement_joined (plain.expression_statement s e b) = joined_one (an_expression e)

type_node_joined : (t : TypeTree) → below_type t ≡ joined (children (a_type t))
type_node_joined (plain.kind_type s k) = refl
type_node_joined (plain.bool_type s) = refl
type_node_joined (plain.tuple_type s ts) = types_joined ts
type_node_joined (plain.ref_type s l m t) = joined_one (a_type t)
type_node_joined (plain.named_type s n ls) = refl

pattern_joined : (p : PatternTree) → below_pattern p ≡ joined (children (a_pattern p))
pattern_joined (plain.wild s) = refl
pattern_joined (plain.bind s n m) = refl
pattern_joined (plain.int_pattern s g v k) = refl
pattern_joined (plain.bool_pattern s b) = refl
pattern_joined (plain.tuple_pattern s ps) = patterns_joined ps
pattern_joined (plain.variant_pattern s a v ps) = patterns_joined ps
pattern_joined (plain.make_pattern s n fs) = field_patterns_joined fs

item_joined : (i : ItemTree) → below_item i ≡ joined (children (an_item i))
item_joined (plain.rt_item s r) = refl
item_joined (plain.struct_item s x) = declared_joined x.fields
item_joined (plain.enum_item s x) = variants_joined x.variants
item_joined (plain.function_item s f) =
    ap (λ l. l ++ (within_type f.result ++ (a_block f.body ∷ below_block f.body))) (parameters_joined f.params)
    ∙ ap (λ l. joined (parameter_nodes f.params) ++ l)
    (ap (λ l. l ++ (a_block f.body ∷ below_block f.body)) (type_joined f.result)
    ∙ ap (λ l. joined (optional_type_nodes f.result) ++ l) (joined_one (a_block f.body))
    ∙ sym (joined_both (optional_type_nodes f.result) (a_block f.body ∷ [])))
    ∙ sym (joined_both (parameter_nodes f.params) (optional_type_nodes f.result ++ (a_block f.body ∷ [])))

pub below_is : (n : NodeTree) → below n ≡ joined (children n)
below_is (an_item i) = item_joined i
below_is (a_type t) = type_node_joined t
below_is (a_block b) = block_joined b
below_is (a_statement a) = statement_joined a
below_is (an_expression e) = expression_joined e
below_is (a_pattern p) = pattern_joined p

pub nodes_are : (p : ProgramTree) → nodes p ≡ joined (map an_item p)
nodes_are [] = refl
nodes_are (i ∷ is) = ap (λ l. an_item i ∷ (below_item i ++ l)) (nodes_are is)

-- ---- further down from a node

descend_end : (q : Option NodeTree) → descend q [] ≡ q
descend_end None = refl
descend_end (Some n) = refl

descend_on : (q : Option NodeTree) (ks js : List ℕ) → descend q (ks ++ js) ≡ descend (descend q ks) js
descend_on None ks js = refl
descend_on (Some n) [] js = refl
descend_on (Some n) (k ∷ ks) js = descend_on (slice_get (children n) k) ks js

-- the positions of a node's children
pub child_at : (p : ProgramTree) (item : ℕ) (path : List ℕ) (n : NodeTree) (k : ℕ) → node_at p item path ≡ Some n
    → node_at p item (path ++ (k ∷ [])) ≡ slice_get (children n) k
child_at p item path n k e =
    descend_on (slice_get (map an_item p) item) path (k ∷ []) ∙ ap (λ q. descend q (k ∷ [])) e ∙ descend_end
    (slice_get (children n) k)

-- ---- from each node to every position

none_some : {A : Type 0} (x : A) → None ≡ Some x → ⊥
none_some x e = cc

some_same : {A : Type 0} (x y : A) → Some x ≡ Some y → x ≡ y
some_same x y e = cc

child_of : (P : NodeTree → Type 0) (cs : List NodeTree) → Every P (joined cs) → (k : ℕ) (c : NodeTree)
    → slice_get cs k ≡ Some c → P c × Every P (below c)
child_of P [] f k c e = absurd (none_some c e)
child_of P (x ∷ cs) f zero c e = subst (λ z. P z × Every P (below z)) (some_same x c e)
    (f.0, every_front P (below x) (joined cs) f.1)
child_of P (x ∷ cs) f (suc k) c e = child_of P cs (every_behind P (below x) (joined cs) f.1) k c e

step : (P : NodeTree → Type 0) (cs : List NodeTree) → Every P (joined cs) → (k : ℕ) (ks : List ℕ) (m : NodeTree)
    → ((c : NodeTree) → P c → Every P (below c) → descend (Some c) ks ≡ Some m → P m) → (q : Option NodeTree)
    → slice_get cs k ≡ q → descend q ks ≡ Some m → P m
step P cs f k ks m go None is e = absurd (none_some m e)
step P cs f k ks m go (Some c) is e = let w = child_of P cs f k c is in go c w.0 w.1 e

descends : (P : NodeTree → Type 0) (n : NodeTree) → P n → Every P (below n) → (ks : List ℕ) (m : NodeTree)
    → descend (Some n) ks ≡ Some m → P m
descends P n p f [] m e = subst P (some_same n m e) p
descends P n p f (k ∷ ks) m e = step P (children n) (subst (Every P) (below_is n) f) k ks m
    (λ c p f e. descends P c p f ks m e) (slice_get (children n) k) refl e

pub every_node : (P : NodeTree → Type 0) (p : ProgramTree) → Every P (nodes p) → EveryNode P p
every_node P p f item path n e =
    step P (map an_item p) (subst (Every P) (nodes_are p) f) item path n (λ c q f e. descends P c q f path n e)
    (slice_get (map an_item p) item) refl e

-- ---- from every position to each node

-- from some nodes on, at every position
abbrev Everywhere : (NodeTree → Type 0) → List NodeTree → Type 0
Everywhere P cs = (k : ℕ) (ks : List ℕ) (m : NodeTree) → descend (slice_get cs k) ks ≡ Some m → P m

long : (n : ℕ) (c : NodeTree) (cs : List NodeTree) → length (joined (c ∷ cs)) ≤ suc n → length (joined (children c)) ≤ n
long n c cs l =
    let s : length (below c) ≡ length (joined (children c)) = ap length (below_is c) in
    let both : length (below c ++ joined cs) ≡ length (below c) + length (joined cs) = length-append (below c)
    (joined cs) in
    omega arith

short : (n : ℕ) (c : NodeTree) (cs : List NodeTree) → length (joined (c ∷ cs)) ≤ suc n → length (joined cs) ≤ n
short n c cs l =
    let both : length (below c ++ joined cs) ≡ length (below c) + length (joined cs) = length-append (below c)
    (joined cs) in
    omega arith

all_joined : (n : ℕ) (P : NodeTree → Type 0) (cs : List NodeTree) → length (joined cs) ≤ n → Everywhere P cs
    → Every P (joined cs)
all_joined n P [] l f = tt
all_joined zero P (c ∷ cs) l f = let none : ⊥ = omega arith in absurd none
all_joined (suc n) P (c ∷ cs) l f = (
  f 0 [] c refl,
  every_both P (below c) (joined cs)
      (subst (Every P) (sym (below_is c)) (all_joined n P (children c) (long n c cs l) (λ k ks m e. f 0 (k ∷ ks) m e)))
      (all_joined n P cs (short n c cs l) (λ k ks m e. f (suc k) ks m e)),
)

pub each_of_nodes : (P : NodeTree → Type 0) (p : ProgramTree) → EveryNode P p → Every P (nodes p)
each_of_nodes P p f = subst (Every P) (sym (nodes_are p))
    (all_joined (length (joined (map an_item p))) P (map an_item p) (omega arith) f)
