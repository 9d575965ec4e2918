-- How much there is to number in a program doesn't depend on spans; so a program whose canonical text has fewer than 2^32 bytes can be
-- numbered, since the tree that the text is read as can.
use Rattle.std.proofs.Common.{◌≡◌, ℕ, zero, suc, ◌+◌, ◌<◌, ◌≤◌, ◌^◌, max, Bool, true, false, List, [], ◌∷◌, ◌++◌, length, map, Option, Some, None, refl, sym, ap, ap₂, subst, ◌∙◌, arith}
use Rattle.std.specs.Prelude.{option_map}
use Rattle.std.proofs.lemmas.List.{map-append, length-map}
use Rattle.rx_tree.specs.declared.tree.BoundLifetime.{BoundLifetime}
use Rattle.rx_tree.specs.declared.tree.Ident.{Ident}
use Rattle.rx_tree.specs.Plain as plain
use Rattle.rx_tree.specs.Plain.{TypeTree, TypeTrees, PatternTree, PatternTrees, FieldPatterns, Expression, Expressions, OptionalExpression, OptionalExpressions, FieldExpressions, Arms, Body, Statement, Statements, Parameter, Function, FieldOf, VariantOf, ItemTree, ProgramTree}
use Rattle.rx_tree.specs.Lists.{listed_types, listed_patterns, listed_field_patterns, listed_expressions, listed_fields, listed_arms, listed}
use Rattle.rx_tree.specs.Positions.{NodeTree, an_item, a_type, a_block, a_statement, an_expression, a_pattern}
use Rattle.rx_tree.specs.Nodes.{below_type, within_types, within_type, below_pattern, within_patterns, within_field_patterns, below_expression, within_expressions, within_optional, within_arguments, within_fields, within_arms, below_block, below_statement, within_statements, within_declared, within_variants, within_parameters, below_item, nodes, total, greatest}
use Rattle.rx_tree.specs.Size.{IsNumbered, item_parameters, item_lifetimes, pattern_bindings, expression_loops, bindings_at, lifetimes_at, loops_at, longest_bounds, longest_types, longest_of_item, longest_of_type, longest_of_pattern, longest_of_arguments, longest_of_expression, longest_at}
use Rattle.rx_tree.specs.Erase.{erase_ident, erase_label, erase_type, erase_types, erase_pattern, erase_patterns, erase_field_patterns, erase, erase_all, erase_optional, erase_optional_list, erase_fields, erase_arms, erase_body, erase_statement, erase_statements, erase_lifetime, erase_parameter, erase_function, erase_field, erase_variant, erase_item, erase_program, SameProgram}
use Rattle.rx_lex.specs.Tok.{Tok}
use Rattle.rx_lex.proofs.TokenLaws.{Ordered, tokens_in_order}
use Rattle.rx_parse_grammar.proofs.Numbered.{numbered}
use Rattle.rx_print_spelling.specs.Items.{print_program}
use Rattle.rx_print_spelling.specs.Levels.{levels_of}
use Rattle.rx_print_spelling.specs.ReadBack.{ReadBack}

-- ---- nodes without spans

abbrev bare : NodeTree → NodeTree
bare (an_item i) = an_item (erase_item i)
bare (a_type t) = a_type (erase_type t)
bare (a_block b) = a_block (erase_body b)
bare (a_statement a) = a_statement (erase_statement a)
bare (an_expression e) = an_expression (erase e)
bare (a_pattern p) = a_pattern (erase_pattern p)

both : (A B a b : List NodeTree) → A ≡ map bare a → B ≡ map bare b → A ++ B ≡ map bare (a ++ b)
both A B a b h k = ap₂ (λ x y. x ++ y) h k ∙ sym (map-append bare a b)

with : (n : NodeTree) (A a : List NodeTree) → A ≡ map bare a → bare n ∷ A ≡ map bare (n ∷ a)
with n A a h = ap (λ r. bare n ∷ r) h

mutual
  bare_type : (x : TypeTree) → below_type (erase_type x) ≡ map bare (below_type x)
  bare_type (plain.kind_type s k) = refl
  bare_type (plain.bool_type s) = refl
  bare_type (plain.tuple_type s ts) = bare_types ts
  bare_type (plain.ref_type s l m t) = with (a_type t) (below_type (erase_type t)) (below_type t) (bare_type t)
  bare_type (plain.named_type s n ls) = refl

  bare_types : (x : TypeTrees) → within_types (erase_types x) ≡ map bare (within_types x)
  bare_types plain.no_type = refl
  bare_types (plain.type_and t ts) = with (a_type t) (below_type (erase_type t) ++ (within_types (erase_types ts))) (below_type t ++ (within_types ts)) (both (below_type (erase_type t)) (within_types (erase_types ts)) (below_type t) (within_types ts) (bare_type t) (bare_types ts))

bare_written : (o : Option TypeTree) → within_type (option_map erase_type o) ≡ map bare (within_type o)
bare_written None = refl
bare_written (Some t) = with (a_type t) (below_type (erase_type t)) (below_type t) (bare_type t)

mutual
  bare_pattern : (x : PatternTree) → below_pattern (erase_pattern x) ≡ map bare (below_pattern x)
  bare_pattern (plain.wild s) = refl
  bare_pattern (plain.bind s n m) = refl
  bare_pattern (plain.int_pattern s g v k) = refl
  bare_pattern (plain.bool_pattern s b) = refl
  bare_pattern (plain.tuple_pattern s ps) = bare_patterns ps
  bare_pattern (plain.variant_pattern s a v ps) = bare_patterns ps
  bare_pattern (plain.make_pattern s n fs) = bare_field_patterns fs

  bare_patterns : (x : PatternTrees) → within_patterns (erase_patterns x) ≡ map bare (within_patterns x)
  bare_patterns plain.no_pattern = refl
  bare_patterns (plain.pattern_and p ps) = with (a_pattern p) (below_pattern (erase_pattern p) ++ (within_patterns (erase_patterns ps))) (below_pattern p ++ (within_patterns ps)) (both (below_pattern (erase_pattern p)) (within_patterns (erase_patterns ps)) (below_pattern p) (within_patterns ps) (bare_pattern p) (bare_patterns ps))

  bare_field_patterns : (x : FieldPatterns) → within_field_patterns (erase_field_patterns x) ≡ map bare (within_field_patterns x)
  bare_field_patterns plain.no_field_pattern = refl
  bare_field_patterns (plain.field_pattern_and n p fs) = with (a_pattern p) (below_pattern (erase_pattern p) ++ (within_field_patterns (erase_field_patterns fs))) (below_pattern p ++ (within_field_patterns fs)) (both (below_pattern (erase_pattern p)) (within_field_patterns (erase_field_patterns fs)) (below_pattern p) (within_field_patterns fs) (bare_pattern p) (bare_field_patterns fs))

mutual
  bare_expression : (x : Expression) → below_expression (erase x) ≡ map bare (below_expression x)
  bare_expression (plain.int s v k) = refl
  bare_expression (plain.bool s b) = refl
  bare_expression (plain.tuple s es) = bare_expressions es
  bare_expression (plain.var s x) = refl
  bare_expression (plain.field s e n) = with (an_expression e) (below_expression (erase e)) (below_expression e) (bare_expression e)
  bare_expression (plain.part s e i) = with (an_expression e) (below_expression (erase e)) (below_expression e) (bare_expression e)
  bare_expression (plain.deref s e) = with (an_expression e) (below_expression (erase e)) (below_expression e) (bare_expression e)
  bare_expression (plain.negate s e) = with (an_expression e) (below_expression (erase e)) (below_expression e) (bare_expression e)
  bare_expression (plain.invert s e) = with (an_expression e) (below_expression (erase e)) (below_expression e) (bare_expression e)
  bare_expression (plain.borrow s m e) = with (an_expression e) (below_expression (erase e)) (below_expression e) (bare_expression e)
  bare_expression (plain.binary s o l r) = with (an_expression l) (below_expression (erase l) ++ (an_expression (erase r) ∷ below_expression (erase r))) (below_expression l ++ (an_expression r ∷ below_expression r)) (both (below_expression (erase l)) (an_expression (erase r) ∷ below_expression (erase r)) (below_expression l) (an_expression r ∷ below_expression r) (bare_expression l) (with (an_expression r) (below_expression (erase r)) (below_expression r) (bare_expression r)))
  bare_expression (plain.assign s l r) = with (an_expression l) (below_expression (erase l) ++ (an_expression (erase r) ∷ below_expression (erase r))) (below_expression l ++ (an_expression r ∷ below_expression r)) (both (below_expression (erase l)) (an_expression (erase r) ∷ below_expression (erase r)) (below_expression l) (an_expression r ∷ below_expression r) (bare_expression l) (with (an_expression r) (below_expression (erase r)) (below_expression r) (bare_expression r)))
  bare_expression (plain.update s o l r) = with (an_expression l) (below_expression (erase l) ++ (an_expression (erase r) ∷ below_expression (erase r))) (below_expression l ++ (an_expression r ∷ below_expression r)) (both (below_expression (erase l)) (an_expression (erase r) ∷ below_expression (erase r)) (below_expression l) (an_expression r ∷ below_expression r) (bare_expression l) (with (an_expression r) (below_expression (erase r)) (below_expression r) (bare_expression r)))
  bare_expression (plain.call s f es) = bare_expressions es
  bare_expression (plain.next_input s) = refl
  bare_expression (plain.variant s a v es) = bare_arguments es
  bare_expression (plain.make s n fs) = bare_fields fs
  bare_expression (plain.print s e) = with (an_expression e) (below_expression (erase e)) (below_expression e) (bare_expression e)
  bare_expression (plain.block s b) = with (a_block b) (below_block (erase_body b)) (below_block b) (bare_block b)
  bare_expression (plain.if s c b o) = with (an_expression c) (below_expression (erase c) ++ (a_block (erase_body b) ∷ (below_block (erase_body b) ++ (within_optional (erase_optional o))))) (below_expression c ++ (a_block b ∷ (below_block b ++ (within_optional o)))) (both (below_expression (erase c)) (a_block (erase_body b) ∷ (below_block (erase_body b) ++ (within_optional (erase_optional o)))) (below_expression c) (a_block b ∷ (below_block b ++ (within_optional o))) (bare_expression c) (with (a_block b) (below_block (erase_body b) ++ (within_optional (erase_optional o))) (below_block b ++ (within_optional o)) (both (below_block (erase_body b)) (within_optional (erase_optional o)) (below_block b) (within_optional o) (bare_block b) (bare_optional o))))
  bare_expression (plain.if_let s p e b o) = with (a_pattern p) (below_pattern (erase_pattern p) ++ (an_expression (erase e) ∷ (below_expression (erase e) ++ (a_block (erase_body b) ∷ (below_block (erase_body b) ++ (within_optional (erase_optional o))))))) (below_pattern p ++ (an_expression e ∷ (below_expression e ++ (a_block b ∷ (below_block b ++ (within_optional o)))))) (both (below_pattern (erase_pattern p)) (an_expression (erase e) ∷ (below_expression (erase e) ++ (a_block (erase_body b) ∷ (below_block (erase_body b) ++ (within_optional (erase_optional o)))))) (below_pattern p) (an_expression e ∷ (below_expression e ++ (a_block b ∷ (below_block b ++ (within_optional o))))) (bare_pattern p) (with (an_expression e) (below_expression (erase e) ++ (a_block (erase_body b) ∷ (below_block (erase_body b) ++ (within_optional (erase_optional o))))) (below_expression e ++ (a_block b ∷ (below_block b ++ (within_optional o)))) (both (below_expression (erase e)) (a_block (erase_body b) ∷ (below_block (erase_body b) ++ (within_optional (erase_optional o)))) (below_expression e) (a_block b ∷ (below_block b ++ (within_optional o))) (bare_expression e) (with (a_block b) (below_block (erase_body b) ++ (within_optional (erase_optional o))) (below_block b ++ (within_optional o)) (both (below_block (erase_body b)) (within_optional (erase_optional o)) (below_block b) (within_optional o) (bare_block b) (bare_optional o))))))
  bare_expression (plain.match s e l) = with (an_expression e) (below_expression (erase e) ++ (within_arms (erase_arms l))) (below_expression e ++ (within_arms l)) (both (below_expression (erase e)) (within_arms (erase_arms l)) (below_expression e) (within_arms l) (bare_expression e) (bare_arms l))
  bare_expression (plain.loop s l b) = with (a_block b) (below_block (erase_body b)) (below_block b) (bare_block b)
  bare_expression (plain.while s l c b) = with (an_expression c) (below_expression (erase c) ++ (a_block (erase_body b) ∷ below_block (erase_body b))) (below_expression c ++ (a_block b ∷ below_block b)) (both (below_expression (erase c)) (a_block (erase_body b) ∷ below_block (erase_body b)) (below_expression c) (a_block b ∷ below_block b) (bare_expression c) (with (a_block b) (below_block (erase_body b)) (below_block b) (bare_block b)))
  bare_expression (plain.while_let s l p e b) = with (a_pattern p) (below_pattern (erase_pattern p) ++ (an_expression (erase e) ∷ (below_expression (erase e) ++ (a_block (erase_body b) ∷ below_block (erase_body b))))) (below_pattern p ++ (an_expression e ∷ (below_expression e ++ (a_block b ∷ below_block b)))) (both (below_pattern (erase_pattern p)) (an_expression (erase e) ∷ (below_expression (erase e) ++ (a_block (erase_body b) ∷ below_block (erase_body b)))) (below_pattern p) (an_expression e ∷ (below_expression e ++ (a_block b ∷ below_block b))) (bare_pattern p) (with (an_expression e) (below_expression (erase e) ++ (a_block (erase_body b) ∷ below_block (erase_body b))) (below_expression e ++ (a_block b ∷ below_block b)) (both (below_expression (erase e)) (a_block (erase_body b) ∷ below_block (erase_body b)) (below_expression e) (a_block b ∷ below_block b) (bare_expression e) (with (a_block b) (below_block (erase_body b)) (below_block b) (bare_block b)))))
  bare_expression (plain.break s l) = refl
  bare_expression (plain.continue s l) = refl
  bare_expression (plain.return s o) = bare_optional o

  bare_expressions : (x : Expressions) → within_expressions (erase_all x) ≡ map bare (within_expressions x)
  bare_expressions plain.no_expression = refl
  bare_expressions (plain.expression_and e es) = with (an_expression e) (below_expression (erase e) ++ (within_expressions (erase_all es))) (below_expression e ++ (within_expressions es)) (both (below_expression (erase e)) (within_expressions (erase_all es)) (below_expression e) (within_expressions es) (bare_expression e) (bare_expressions es))

  bare_optional : (x : OptionalExpression) → within_optional (erase_optional x) ≡ map bare (within_optional x)
  bare_optional plain.absent = refl
  bare_optional (plain.present e) = with (an_expression e) (below_expression (erase e)) (below_expression e) (bare_expression e)

  bare_arguments : (x : OptionalExpressions) → within_arguments (erase_optional_list x) ≡ map bare (within_arguments x)
  bare_arguments plain.no_list = refl
  bare_arguments (plain.a_list es) = bare_expressions es

  bare_fields : (x : FieldExpressions) → within_fields (erase_fields x) ≡ map bare (within_fields x)
  bare_fields plain.no_field = refl
  bare_fields (plain.field_and n e fs) = with (an_expression e) (below_expression (erase e) ++ (within_fields (erase_fields fs))) (below_expression e ++ (within_fields fs)) (both (below_expression (erase e)) (within_fields (erase_fields fs)) (below_expression e) (within_fields fs) (bare_expression e) (bare_fields fs))

  bare_arms : (x : Arms) → within_arms (erase_arms x) ≡ map bare (within_arms x)
  bare_arms plain.no_arm = refl
  bare_arms (plain.arm_and p e rest) = with (a_pattern p) (below_pattern (erase_pattern p) ++ (an_expression (erase e) ∷ (below_expression (erase e) ++ (within_arms (erase_arms rest))))) (below_pattern p ++ (an_expression e ∷ (below_expression e ++ (within_arms rest)))) (both (below_pattern (erase_pattern p)) (an_expression (erase e) ∷ (below_expression (erase e) ++ (within_arms (erase_arms rest)))) (below_pattern p) (an_expression e ∷ (below_expression e ++ (within_arms rest))) (bare_pattern p) (with (an_expression e) (below_expression (erase e) ++ (within_arms (erase_arms rest))) (below_expression e ++ (within_arms rest)) (both (below_expression (erase e)) (within_arms (erase_arms rest)) (below_expression e) (within_arms rest) (bare_expression e) (bare_arms rest))))

  bare_block : (x : Body) → below_block (erase_body x) ≡ map bare (below_block x)
  bare_block (plain.body s ss t) = both (within_statements (erase_statements ss)) (within_optional (erase_optional t)) (within_statements ss) (within_optional t) (bare_statements ss) (bare_optional t)

  bare_statement : (x : Statement) → below_statement (erase_statement x) ≡ map bare (below_statement x)
  bare_statement (plain.let_statement s p t i) = with (a_pattern p) (below_pattern (erase_pattern p) ++ (within_type (option_map erase_type t) ++ (within_optional (erase_optional i)))) (below_pattern p ++ (within_type t ++ (within_optional i))) (both (below_pattern (erase_pattern p)) (within_type (option_map erase_type t) ++ (within_optional (erase_optional i))) (below_pattern p) (within_type t ++ (within_optional i)) (bare_pattern p) (both (within_type (option_map erase_type t)) (within_optional (erase_optional i)) (within_type t) (within_optional i) (bare_written t) (bare_optional i)))
  bare_statement (plain.expression_statement s e b) = with (an_expression e) (below_expression (erase e)) (below_expression e) (bare_expression e)

  bare_statements : (x : Statements) → within_statements (erase_statements x) ≡ map bare (within_statements x)
  bare_statements plain.no_statement = refl
  bare_statements (plain.statement_and a ss) = with (a_statement a) (below_statement (erase_statement a) ++ (within_statements (erase_statements ss))) (below_statement a ++ (within_statements ss)) (both (below_statement (erase_statement a)) (within_statements (erase_statements ss)) (below_statement a) (within_statements ss) (bare_statement a) (bare_statements ss))

-- ---- items

bare_declared : (fs : List FieldOf) → within_declared (map erase_field fs) ≡ map bare (within_declared fs)
bare_declared [] = refl
bare_declared (f ∷ fs) = with (a_type f.typ) (below_type (erase_type f.typ) ++ within_declared (map erase_field fs)) (below_type f.typ ++ within_declared fs)
    (both (below_type (erase_type f.typ)) (within_declared (map erase_field fs)) (below_type f.typ) (within_declared fs) (bare_type f.typ) (bare_declared fs))

bare_variants : (vs : List VariantOf) → within_variants (map erase_variant vs) ≡ map bare (within_variants vs)
bare_variants [] = refl
bare_variants (v ∷ vs) = both (within_types (erase_types v.types)) (within_variants (map erase_variant vs)) (within_types v.types) (within_variants vs) (bare_types v.types) (bare_variants vs)

bare_parameters : (xs : List Parameter) → within_parameters (map erase_parameter xs) ≡ map bare (within_parameters xs)
bare_parameters [] = refl
bare_parameters (x ∷ xs) = with (a_type x.typ) (below_type (erase_type x.typ) ++ within_parameters (map erase_parameter xs)) (below_type x.typ ++ within_parameters xs)
    (both (below_type (erase_type x.typ)) (within_parameters (map erase_parameter xs)) (below_type x.typ) (within_parameters xs) (bare_type x.typ) (bare_parameters xs))

bare_item : (i : ItemTree) → below_item (erase_item i) ≡ map bare (below_item i)
bare_item (plain.rt_item s r) = refl
bare_item (plain.struct_item s x) = bare_declared x.fields
bare_item (plain.enum_item s x) = bare_variants x.variants
bare_item (plain.function_item s f) =
    let block = with (a_block f.body) (below_block (erase_body f.body)) (below_block f.body) (bare_block f.body) in
    both (within_parameters (map erase_parameter f.params)) (within_type (option_map erase_type f.result) ++ (a_block (erase_body f.body) ∷ below_block (erase_body f.body)))
    (within_parameters f.params) (within_type f.result ++ (a_block f.body ∷ below_block f.body)) (bare_parameters f.params)
    (both (within_type (option_map erase_type f.result)) (a_block (erase_body f.body) ∷ below_block (erase_body f.body)) (within_type f.result) (a_block f.body ∷ below_block f.body)
    (bare_written f.result) block)

bare_nodes : (p : ProgramTree) → nodes (erase_program p) ≡ map bare (nodes p)
bare_nodes [] = refl
bare_nodes (i ∷ is) = with (an_item i) (below_item (erase_item i) ++ nodes (erase_program is)) (below_item i ++ nodes is)
    (both (below_item (erase_item i)) (nodes (erase_program is)) (below_item i) (nodes is) (bare_item i) (bare_nodes is))

-- ---- what is counted at a node

total_bare : (f : NodeTree → ℕ) → ((n : NodeTree) → f (bare n) ≡ f n) → (ns : List NodeTree) → total f (map bare ns) ≡ total f ns
total_bare f h [] = refl
total_bare f h (n ∷ ns) = ap₂ (λ x y. x + y) (h n) (total_bare f h ns)

greatest_bare : (f : NodeTree → ℕ) → ((n : NodeTree) → f (bare n) ≡ f n) → (ns : List NodeTree) → greatest f (map bare ns) ≡ greatest f ns
greatest_bare f h [] = refl
greatest_bare f h (n ∷ ns) = ap₂ max (h n) (greatest_bare f h ns)

same_total : (f : NodeTree → ℕ) → ((n : NodeTree) → f (bare n) ≡ f n) → (p q : ProgramTree) → SameProgram p q → total f (nodes p) ≡ total f (nodes q)
same_total f h p q e = sym (ap (total f) (bare_nodes p) ∙ total_bare f h (nodes p)) ∙ (ap (λ x. total f (nodes x)) e ∙ (ap (total f) (bare_nodes q) ∙ total_bare f h (nodes q)))

same_greatest : (f : NodeTree → ℕ) → ((n : NodeTree) → f (bare n) ≡ f n) → (p q : ProgramTree) → SameProgram p q → greatest f (nodes p) ≡ greatest f (nodes q)
same_greatest f h p q e = sym (ap (greatest f) (bare_nodes p) ∙ greatest_bare f h (nodes p)) ∙ (ap (λ x. greatest f (nodes x)) e ∙ (ap (greatest f) (bare_nodes q) ∙ greatest_bare f h (nodes q)))

bare_bindings : (p : PatternTree) → pattern_bindings (erase_pattern p) ≡ pattern_bindings p
bare_bindings (plain.wild s) = refl
bare_bindings (plain.bind s n m) = refl
bare_bindings (plain.int_pattern s g v k) = refl
bare_bindings (plain.bool_pattern s b) = refl
bare_bindings (plain.tuple_pattern s ps) = refl
bare_bindings (plain.variant_pattern s a v ps) = refl
bare_bindings (plain.make_pattern s n fs) = refl

bare_loops : (e : Expression) → expression_loops (erase e) ≡ expression_loops e
bare_loops (plain.int s v k) = refl
bare_loops (plain.bool s b) = refl
bare_loops (plain.tuple s es) = refl
bare_loops (plain.var s x) = refl
bare_loops (plain.field s e n) = refl
bare_loops (plain.part s e i) = refl
bare_loops (plain.deref s e) = refl
bare_loops (plain.negate s e) = refl
bare_loops (plain.invert s e) = refl
bare_loops (plain.borrow s m e) = refl
bare_loops (plain.binary s o l r) = refl
bare_loops (plain.assign s l r) = refl
bare_loops (plain.update s o l r) = refl
bare_loops (plain.call s f es) = refl
bare_loops (plain.next_input s) = refl
bare_loops (plain.variant s a v es) = refl
bare_loops (plain.make s n fs) = refl
bare_loops (plain.print s e) = refl
bare_loops (plain.block s b) = refl
bare_loops (plain.if s c b o) = refl
bare_loops (plain.if_let s p e b o) = refl
bare_loops (plain.match s e l) = refl
bare_loops (plain.loop s l b) = refl
bare_loops (plain.while s l c b) = refl
bare_loops (plain.while_let s l p e b) = refl
bare_loops (plain.break s l) = refl
bare_loops (plain.continue s l) = refl
bare_loops (plain.return s o) = refl

bindings_spanless : (n : NodeTree) → bindings_at (bare n) ≡ bindings_at n
bindings_spanless (an_item (plain.rt_item s r)) = refl
bindings_spanless (an_item (plain.struct_item s x)) = refl
bindings_spanless (an_item (plain.enum_item s x)) = refl
bindings_spanless (an_item (plain.function_item s f)) = length-map f.params erase_parameter
bindings_spanless (a_type t) = refl
bindings_spanless (a_block b) = refl
bindings_spanless (a_statement a) = refl
bindings_spanless (an_expression e) = refl
bindings_spanless (a_pattern p) = bare_bindings p

lifetimes_spanless : (n : NodeTree) → lifetimes_at (bare n) ≡ lifetimes_at n
lifetimes_spanless (an_item (plain.rt_item s r)) = refl
lifetimes_spanless (an_item (plain.struct_item s x)) = length-map x.lifetimes erase_ident
lifetimes_spanless (an_item (plain.enum_item s x)) = length-map x.lifetimes erase_ident
lifetimes_spanless (an_item (plain.function_item s f)) = length-map f.lifetimes erase_lifetime
lifetimes_spanless (a_type t) = refl
lifetimes_spanless (a_block b) = refl
lifetimes_spanless (a_statement a) = refl
lifetimes_spanless (an_expression e) = refl
lifetimes_spanless (a_pattern p) = refl

loops_spanless : (n : NodeTree) → loops_at (bare n) ≡ loops_at n
loops_spanless (an_item i) = refl
loops_spanless (a_type t) = refl
loops_spanless (a_block b) = refl
loops_spanless (a_statement a) = refl
loops_spanless (an_expression e) = bare_loops e
loops_spanless (a_pattern p) = refl

-- ---- lengths of lists

length_types : (x : TypeTrees) → length (listed_types (erase_types x)) ≡ length (listed_types x)
length_types plain.no_type = refl
length_types (plain.type_and t ts) = ap suc (length_types ts)

length_patterns : (x : PatternTrees) → length (listed_patterns (erase_patterns x)) ≡ length (listed_patterns x)
length_patterns plain.no_pattern = refl
length_patterns (plain.pattern_and p ps) = ap suc (length_patterns ps)

length_field_patterns : (x : FieldPatterns) → length (listed_field_patterns (erase_field_patterns x)) ≡ length (listed_field_patterns x)
length_field_patterns plain.no_field_pattern = refl
length_field_patterns (plain.field_pattern_and n p fs) = ap suc (length_field_patterns fs)

length_expressions : (x : Expressions) → length (listed_expressions (erase_all x)) ≡ length (listed_expressions x)
length_expressions plain.no_expression = refl
length_expressions (plain.expression_and e es) = ap suc (length_expressions es)

length_fields : (x : FieldExpressions) → length (listed_fields (erase_fields x)) ≡ length (listed_fields x)
length_fields plain.no_field = refl
length_fields (plain.field_and n e fs) = ap suc (length_fields fs)

length_arms : (x : Arms) → length (listed_arms (erase_arms x)) ≡ length (listed_arms x)
length_arms plain.no_arm = refl
length_arms (plain.arm_and p e rest) = ap suc (length_arms rest)

length_statements : (x : Statements) → length (listed (erase_statements x)) ≡ length (listed x)
length_statements plain.no_statement = refl
length_statements (plain.statement_and a ss) = ap suc (length_statements ss)

longest_type : (t : TypeTree) → longest_of_type (erase_type t) ≡ longest_of_type t
longest_type (plain.kind_type s k) = refl
longest_type (plain.bool_type s) = refl
longest_type (plain.tuple_type s ts) = length_types ts
longest_type (plain.ref_type s l m t) = refl
longest_type (plain.named_type s n None) = refl
longest_type (plain.named_type s n (Some ls)) = length-map ls erase_label

longest_pattern : (p : PatternTree) → longest_of_pattern (erase_pattern p) ≡ longest_of_pattern p
longest_pattern (plain.wild s) = refl
longest_pattern (plain.bind s n m) = refl
longest_pattern (plain.int_pattern s g v k) = refl
longest_pattern (plain.bool_pattern s b) = refl
longest_pattern (plain.tuple_pattern s ps) = length_patterns ps
longest_pattern (plain.variant_pattern s a v ps) = length_patterns ps
longest_pattern (plain.make_pattern s n fs) = length_field_patterns fs

longest_arguments : (o : OptionalExpressions) → longest_of_arguments (erase_optional_list o) ≡ longest_of_arguments o
longest_arguments plain.no_list = refl
longest_arguments (plain.a_list es) = length_expressions es

longest_expression : (e : Expression) → longest_of_expression (erase e) ≡ longest_of_expression e
longest_expression (plain.int s v k) = refl
longest_expression (plain.bool s b) = refl
longest_expression (plain.tuple s es) = length_expressions es
longest_expression (plain.var s x) = refl
longest_expression (plain.field s e n) = refl
longest_expression (plain.part s e i) = refl
longest_expression (plain.deref s e) = refl
longest_expression (plain.negate s e) = refl
longest_expression (plain.invert s e) = refl
longest_expression (plain.borrow s m e) = refl
longest_expression (plain.binary s o l r) = refl
longest_expression (plain.assign s l r) = refl
longest_expression (plain.update s o l r) = refl
longest_expression (plain.call s f es) = length_expressions es
longest_expression (plain.next_input s) = refl
longest_expression (plain.variant s a v es) = longest_arguments es
longest_expression (plain.make s n fs) = length_fields fs
longest_expression (plain.print s e) = refl
longest_expression (plain.block s b) = refl
longest_expression (plain.if s c b o) = refl
longest_expression (plain.if_let s p e b o) = refl
longest_expression (plain.match s e l) = length_arms l
longest_expression (plain.loop s l b) = refl
longest_expression (plain.while s l c b) = refl
longest_expression (plain.while_let s l p e b) = refl
longest_expression (plain.break s l) = refl
longest_expression (plain.continue s l) = refl
longest_expression (plain.return s o) = refl

bare_bounds : (ls : List BoundLifetime) → longest_bounds (map erase_lifetime ls) ≡ longest_bounds ls
bare_bounds [] = refl
bare_bounds (l ∷ ls) = ap₂ max (length-map l.bounds erase_ident) (bare_bounds ls)

bare_variant_types : (vs : List VariantOf) → longest_types (map erase_variant vs) ≡ longest_types vs
bare_variant_types [] = refl
bare_variant_types (v ∷ vs) = ap₂ max (length_types v.types) (bare_variant_types vs)

longest_item : (i : ItemTree) → longest_of_item (erase_item i) ≡ longest_of_item i
longest_item (plain.rt_item s r) = refl
longest_item (plain.struct_item s x) = ap₂ (λ a b. max (length x.derives) (max a b)) (length-map x.lifetimes erase_ident) (length-map x.fields erase_field)
longest_item (plain.enum_item s x) = λ j. max (length x.derives) (max (length-map x.lifetimes erase_ident j) (max (length-map x.variants erase_variant j) (bare_variant_types x.variants j)))
longest_item (plain.function_item s f) = λ j. max (length-map f.lifetimes erase_lifetime j) (max (bare_bounds f.lifetimes j) (length-map f.params erase_parameter j))

longest_block : (b : Body) → longest_at (a_block (erase_body b)) ≡ longest_at (a_block b)
longest_block (plain.body s ss t) = length_statements ss

longest_spanless : (n : NodeTree) → longest_at (bare n) ≡ longest_at n
longest_spanless (an_item i) = longest_item i
longest_spanless (a_type t) = longest_type t
longest_spanless (a_block b) = longest_block b
longest_spanless (a_statement a) = refl
longest_spanless (an_expression e) = longest_expression e
longest_spanless (a_pattern p) = longest_pattern p

-- ---- programs

same_length : (p q : ProgramTree) → SameProgram p q → length p ≡ length q
same_length p q e = sym (length-map p erase_item) ∙ (ap length e ∙ length-map q erase_item)

pub same_numbered : (p q : ProgramTree) → SameProgram p q → IsNumbered p → IsNumbered q
same_numbered p q e h = record {
  items = subst (λ n. n < 2 ^ 32) (same_length p q e) h.items;
  bindings = subst (λ n. n < 2 ^ 32) (same_total bindings_at bindings_spanless p q e) h.bindings;
  lifetimes = subst (λ n. n < 2 ^ 32) (same_total lifetimes_at lifetimes_spanless p q e) h.lifetimes;
  loops = subst (λ n. n < 2 ^ 32) (same_total loops_at loops_spanless p q e) h.loops;
  lists = subst (λ n. n < 2 ^ 32) (same_greatest longest_at longest_spanless p q e) h.lists;
}

-- a text has no more tokens than bytes
ordered_short : (from to : ℕ) (ts : List Tok) → Ordered from to ts → from + length ts ≤ to
ordered_short from to [] o = omega (arith, o)
ordered_short from to (t ∷ ts) o = let z = ordered_short t.span.end to ts o.2 in omega (arith, z, o.0, o.1)

pub numbered_by_text : (p : ProgramTree) → ReadBack p → length (print_program p) < 2 ^ 32 → IsNumbered p
numbered_by_text p r short =
    let few = ordered_short 0 (0 + length (print_program p)) r.tokens (tokens_in_order 0 (print_program p) r.tokens r.lexed.tokens) in
    same_numbered r.tree p r.same (numbered r.tokens r.tree (levels_of p) r.derived (omega (arith, few, short)))
