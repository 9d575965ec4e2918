-- How many blocks of a part are such and stand in no other one that is: none, where no way leads to one; and one, where one way leads to one, and
-- no other.
use Rattle.std.specs.Prelude.{◌==◌}
use Rattle.std.proofs.Common.{◌≡◌, ◌⊎◌, inl, inr, ℕ, zero, suc, ◌+◌, Bool, true, false, ◌&&◌, if◌then◌else◌, List, [], ◌∷◌, ◌++◌, Option, Some, None, slice_get, refl, sym, ap, ◌∙◌, eq-eqb, arith}
use Rattle.rx_core.specs.declared.types.Span.{Span}
use Rattle.rx_tree.specs.Erase.{nowhere}
use Rattle.rx_tree.specs.Lists.{Every}
use Rattle.rx_tree.specs.Plain as plain
use Rattle.rx_tree.specs.Plain.{Expression, Expressions, OptionalExpression, OptionalExpressions, FieldExpressions, Arms, Body, Statement, Statements}
use Rattle.rx_tree.specs.Positions.{NodeTree, an_item, a_type, a_block, a_statement, an_expression, a_pattern, type_nodes, optional_type_nodes, pattern_nodes, field_pattern_nodes, expression_nodes, optional_nodes, argument_nodes, field_nodes, arm_nodes, statement_nodes, declared_nodes, variant_nodes, parameter_nodes, children, descend}
use Rattle.rx_tree.specs.Spans.{body_span}
use Rattle.rx_tree.proofs.NodesLaws.{every_front, every_behind}
use Rattle.rx_hoist_extraction.specs.Run.{same_place}
use Rattle.rx_engine_names.specs.Placed.{StandsAlone}

pub same_itself : (s : Span) → same_place s s ≡ true
same_itself s = let a : (s.start == s.start) ≡ true = eq-eqb s.start s.start refl in let b : (s.end == s.end) ≡ true = eq-eqb s.end s.end refl in
    ap (λ (x : Bool). x && (s.end == s.end)) a ∙ b

abbrev pub none_such : Body → Bool
none_such b = false

abbrev pub at_place : Span → Body → Bool
at_place s b = same_place s (body_span b)

module _ (w : Body → Bool) where
  abbrev mutual
    pub count : Expression → ℕ
    count (plain.int s v k) = 0
    count (plain.bool s b) = 0
    count (plain.tuple s es) = count_all es
    count (plain.var s x) = 0
    count (plain.field s e x) = count e
    count (plain.part s e i) = count e
    count (plain.deref s e) = count e
    count (plain.negate s e) = count e
    count (plain.invert s e) = count e
    count (plain.borrow s b e) = count e
    count (plain.binary s o a b) = count a + count b
    count (plain.assign s a b) = count a + count b
    count (plain.update s o a b) = count a + count b
    count (plain.call s f es) = count_all es
    count (plain.next_input s) = 0
    count (plain.variant s a v es) = count_arguments es
    count (plain.make s y fs) = count_fields fs
    count (plain.print s e) = count e
    count (plain.block s b) = count_body b
    count (plain.if s e b o) = count e + (count_body b + count_optional o)
    count (plain.if_let s p e b o) = count e + (count_body b + count_optional o)
    count (plain.match s e l) = count e + count_arms l
    count (plain.loop s l b) = count_body b
    count (plain.while s l e b) = count e + count_body b
    count (plain.while_let s l p e b) = count e + count_body b
    count (plain.break s l) = 0
    count (plain.continue s l) = 0
    count (plain.return s o) = count_optional o

    pub count_all : Expressions → ℕ
    count_all plain.no_expression = 0
    count_all (plain.expression_and e es) = count e + count_all es

    pub count_optional : OptionalExpression → ℕ
    count_optional plain.absent = 0
    count_optional (plain.present e) = count e

    pub count_arguments : OptionalExpressions → ℕ
    count_arguments plain.no_list = 0
    count_arguments (plain.a_list es) = count_all es

    pub count_fields : FieldExpressions → ℕ
    count_fields plain.no_field = 0
    count_fields (plain.field_and y e fs) = count e + count_fields fs

    pub count_arms : Arms → ℕ
    count_arms plain.no_arm = 0
    count_arms (plain.arm_and p e l) = count e + count_arms l

    pub count_body : Body → ℕ
    count_body (plain.body s ss o) = if w (plain.body s ss o) then 1 else count_statements ss + count_optional o

    pub count_statement : Statement → ℕ
    count_statement (plain.let_statement s p y o) = count_optional o
    count_statement (plain.expression_statement s e b) = count e

    pub count_statements : Statements → ℕ
    count_statements plain.no_statement = 0
    count_statements (plain.statement_and a ss) = count_statement a + count_statements ss

  -- ---- by nodes

  abbrev count_node : NodeTree → ℕ
  count_node (an_item (plain.function_item s f)) = count_body f.body
  count_node (an_item (plain.struct_item s x)) = 0
  count_node (an_item (plain.enum_item s x)) = 0
  count_node (an_item (plain.rt_item s r)) = 0
  count_node (a_type t) = 0
  count_node (a_block b) = count_body b
  count_node (a_statement a) = count_statement a
  count_node (an_expression e) = count e
  count_node (a_pattern p) = 0

  abbrev count_nodes : List NodeTree → ℕ
  count_nodes [] = 0
  count_nodes (n ∷ ns) = count_node n + count_nodes ns

  -- it is not such a block itself
  abbrev NotItself : NodeTree → Type 0
  NotItself (a_block b) = w b ≡ false
  NotItself (an_item i) = Unit {0}
  NotItself (a_type t) = Unit {0}
  NotItself (a_statement a) = Unit {0}
  NotItself (an_expression e) = Unit {0}
  NotItself (a_pattern p) = Unit {0}

  nodes_append : (xs ys : List NodeTree) → count_nodes (xs ++ ys) ≡ count_nodes xs + count_nodes ys
  nodes_append [] ys = omega arith
  nodes_append (x ∷ xs) ys = let h = nodes_append xs ys in omega (arith, h)

  of_expressions : (es : Expressions) → count_nodes (expression_nodes es) ≡ count_all es
  of_expressions plain.no_expression = refl
  of_expressions (plain.expression_and e es) = let h = of_expressions es in omega (arith, h)

  of_optional : (o : OptionalExpression) → count_nodes (optional_nodes o) ≡ count_optional o
  of_optional plain.absent = refl
  of_optional (plain.present e) = omega arith

  of_arguments : (es : OptionalExpressions) → count_nodes (argument_nodes es) ≡ count_arguments es
  of_arguments plain.no_list = refl
  of_arguments (plain.a_list es) = of_expressions es

  of_fields : (fs : FieldExpressions) → count_nodes (field_nodes fs) ≡ count_fields fs
  of_fields plain.no_field = refl
  of_fields (plain.field_and y e fs) = let h = of_fields fs in omega (arith, h)

  of_arms : (l : Arms) → count_nodes (arm_nodes l) ≡ count_arms l
  of_arms plain.no_arm = refl
  of_arms (plain.arm_and p e l) = let h = of_arms l in omega (arith, h)

  of_statements : (ss : Statements) → count_nodes (statement_nodes ss) ≡ count_statements ss
  of_statements plain.no_statement = refl
  of_statements (plain.statement_and a ss) = let h = of_statements ss in omega (arith, h)

  of_types : (ts : plain.TypeTrees) → count_nodes (type_nodes ts) ≡ 0
  of_types plain.no_type = refl
  of_types (plain.type_and t ts) = let h = of_types ts in omega (arith, h)

  of_optional_type : (t : Option plain.TypeTree) → count_nodes (optional_type_nodes t) ≡ 0
  of_optional_type None = refl
  of_optional_type (Some t) = refl

  of_patterns : (ps : plain.PatternTrees) → count_nodes (pattern_nodes ps) ≡ 0
  of_patterns plain.no_pattern = refl
  of_patterns (plain.pattern_and p ps) = let h = of_patterns ps in omega (arith, h)

  of_field_patterns : (fs : plain.FieldPatterns) → count_nodes (field_pattern_nodes fs) ≡ 0
  of_field_patterns plain.no_field_pattern = refl
  of_field_patterns (plain.field_pattern_and y p fs) = let h = of_field_patterns fs in omega (arith, h)

  of_declared : (fs : List plain.FieldOf) → count_nodes (declared_nodes fs) ≡ 0
  of_declared [] = refl
  of_declared (f ∷ fs) = let h = of_declared fs in omega (arith, h)

  of_variants : (vs : List plain.VariantOf) → count_nodes (variant_nodes vs) ≡ 0
  of_variants [] = refl
  of_variants (v ∷ vs) = let a = nodes_append (type_nodes v.types) (variant_nodes vs) in let b = of_types v.types in let c = of_variants vs in omega (arith, a, b, c)

  of_parameters : (xs : List plain.Parameter) → count_nodes (parameter_nodes xs) ≡ 0
  of_parameters [] = refl
  of_parameters (x ∷ xs) = let h = of_parameters xs in omega (arith, h)

  of_expression : (e : Expression) → count e ≡ count_nodes (children (an_expression e))
  of_expression (plain.tuple s es) = sym (of_expressions es)
  of_expression (plain.field s e x) = omega arith
  of_expression (plain.part s e i) = omega arith
  of_expression (plain.deref s e) = omega arith
  of_expression (plain.negate s e) = omega arith
  of_expression (plain.invert s e) = omega arith
  of_expression (plain.borrow s b e) = omega arith
  of_expression (plain.binary s o a b) = omega arith
  of_expression (plain.assign s a b) = omega arith
  of_expression (plain.update s o a b) = omega arith
  of_expression (plain.call s f es) = sym (of_expressions es)
  of_expression (plain.variant s a v es) = sym (of_arguments es)
  of_expression (plain.make s y fs) = sym (of_fields fs)
  of_expression (plain.print s e) = omega arith
  of_expression (plain.block s b) = omega arith
  of_expression (plain.if s e b o) = let h = of_optional o in omega (arith, h)
  of_expression (plain.if_let s p e b o) = let h = of_optional o in omega (arith, h)
  of_expression (plain.match s e l) = let h = of_arms l in omega (arith, h)
  of_expression (plain.loop s l b) = omega arith
  of_expression (plain.while s l e b) = omega arith
  of_expression (plain.while_let s l p e b) = omega arith
  of_expression (plain.return s o) = sym (of_optional o)
  of_expression (plain.int s v k) = refl
  of_expression (plain.bool s b) = refl
  of_expression (plain.var s x) = refl
  of_expression (plain.next_input s) = refl
  of_expression (plain.break s l) = refl
  of_expression (plain.continue s l) = refl

  -- those of its children
  of_node : (n : NodeTree) → NotItself n → count_node n ≡ count_nodes (children n)
  of_node (an_item (plain.function_item s f)) x =
      let a = nodes_append (parameter_nodes f.params) (optional_type_nodes f.result ++ (a_block f.body ∷ [])) in let b = nodes_append (optional_type_nodes f.result) (a_block f.body ∷ []) in
      let c = of_parameters f.params in let d = of_optional_type f.result in omega (arith, a, b, c, d)
  of_node (an_item (plain.struct_item s y)) x = sym (of_declared y.fields)
  of_node (an_item (plain.enum_item s y)) x = sym (of_variants y.variants)
  of_node (an_item (plain.rt_item s r)) x = refl
  of_node (a_type (plain.kind_type s k)) x = refl
  of_node (a_type (plain.bool_type s)) x = refl
  of_node (a_type (plain.tuple_type s ts)) x = sym (of_types ts)
  of_node (a_type (plain.ref_type s l m t)) x = refl
  of_node (a_type (plain.named_type s y ls)) x = refl
  of_node (a_block (plain.body s ss o)) x =
      let a = nodes_append (statement_nodes ss) (optional_nodes o) in let b = of_statements ss in let c = of_optional o in
      ap (λ (z : Bool). if z then 1 else count_statements ss + count_optional o) x ∙ (let e : count_statements ss + count_optional o ≡ count_nodes (statement_nodes ss ++ optional_nodes o) = omega (arith, a, b, c) in e)
  of_node (a_statement (plain.let_statement s p y o)) x =
      let a = nodes_append (optional_type_nodes y) (optional_nodes o) in let b = of_optional_type y in let c = of_optional o in omega (arith, a, b, c)
  of_node (a_statement (plain.expression_statement s e b)) x = omega arith
  of_node (an_expression e) x = of_expression e
  of_node (a_pattern (plain.wild s)) x = refl
  of_node (a_pattern (plain.bind s y m)) x = refl
  of_node (a_pattern (plain.int_pattern s g v k)) x = refl
  of_node (a_pattern (plain.bool_pattern s b)) x = refl
  of_node (a_pattern (plain.tuple_pattern s ps)) x = sym (of_patterns ps)
  of_node (a_pattern (plain.variant_pattern s a v ps)) x = sym (of_patterns ps)
  of_node (a_pattern (plain.make_pattern s y fs)) x = sym (of_field_patterns fs)

  -- ---- none

  abbrev Without : NodeTree → Type 0
  Without n = (way : List ℕ) (c : Body) → descend (Some n) way ≡ Some (a_block c) → w c ≡ false

  abbrev WithoutThere : Option NodeTree → Type 0
  WithoutThere o = (way : List ℕ) (c : Body) → descend o way ≡ Some (a_block c) → w c ≡ false

  abbrev AllWithout : List NodeTree → Type 0
  AllWithout ns = Every Without ns

  each_without : (ns : List NodeTree) → ((k : ℕ) → WithoutThere (slice_get ns k)) → AllWithout ns
  each_without [] h = tt
  each_without (n ∷ ns) h = (h zero, each_without ns (λ k. h (suc k)))

  below : (n : NodeTree) → Without n → AllWithout (children n)
  below n h = each_without (children n) (λ k way c e. h (k ∷ way) c e)

  front : (xs ys : List NodeTree) → AllWithout (xs ++ ys) → AllWithout xs
  front xs ys f = every_front Without xs ys f

  last : (xs ys : List NodeTree) → AllWithout (xs ++ ys) → AllWithout ys
  last xs ys f = every_behind Without xs ys f

  no_more : {a b : ℕ} → a ≡ 0 → b ≡ 0 → a + b ≡ 0
  no_more e f = omega (arith, e, f)

  mutual
    without : (e : Expression) → Without (an_expression e) → count e ≡ 0
    without (plain.int s v k) h = refl
    without (plain.bool s b) h = refl
    without (plain.tuple s es) h = without_all es (below (an_expression (plain.tuple s es)) h)
    without (plain.var s x) h = refl
    without (plain.field s e x) h = without e (below (an_expression (plain.field s e x)) h).0
    without (plain.part s e i) h = without e (below (an_expression (plain.part s e i)) h).0
    without (plain.deref s e) h = without e (below (an_expression (plain.deref s e)) h).0
    without (plain.negate s e) h = without e (below (an_expression (plain.negate s e)) h).0
    without (plain.invert s e) h = without e (below (an_expression (plain.invert s e)) h).0
    without (plain.borrow s b e) h = without e (below (an_expression (plain.borrow s b e)) h).0
    without (plain.binary s o a b) h = let g = below (an_expression (plain.binary s o a b)) h in no_more (without a g.0) (without b g.1.0)
    without (plain.assign s a b) h = let g = below (an_expression (plain.assign s a b)) h in no_more (without a g.0) (without b g.1.0)
    without (plain.update s o a b) h = let g = below (an_expression (plain.update s o a b)) h in no_more (without a g.0) (without b g.1.0)
    without (plain.call s f es) h = without_all es (below (an_expression (plain.call s f es)) h)
    without (plain.next_input s) h = refl
    without (plain.variant s a v es) h = without_arguments es (below (an_expression (plain.variant s a v es)) h)
    without (plain.make s y fs) h = without_fields fs (below (an_expression (plain.make s y fs)) h)
    without (plain.print s e) h = without e (below (an_expression (plain.print s e)) h).0
    without (plain.block s b) h = without_body b (below (an_expression (plain.block s b)) h).0
    without (plain.if s e b o) h = let g = below (an_expression (plain.if s e b o)) h in no_more (without e g.0) (no_more (without_body b g.1.0) (without_optional o g.1.1))
    without (plain.if_let s p e b o) h = let g = below (an_expression (plain.if_let s p e b o)) h in no_more (without e g.1.0) (no_more (without_body b g.1.1.0) (without_optional o g.1.1.1))
    without (plain.match s e l) h = let g = below (an_expression (plain.match s e l)) h in no_more (without e g.0) (without_arms l g.1)
    without (plain.loop s l b) h = without_body b (below (an_expression (plain.loop s l b)) h).0
    without (plain.while s l e b) h = let g = below (an_expression (plain.while s l e b)) h in no_more (without e g.0) (without_body b g.1.0)
    without (plain.while_let s l p e b) h = let g = below (an_expression (plain.while_let s l p e b)) h in no_more (without e g.1.0) (without_body b g.1.1.0)
    without (plain.break s l) h = refl
    without (plain.continue s l) h = refl
    without (plain.return s o) h = without_optional o (below (an_expression (plain.return s o)) h)

    without_all : (es : Expressions) → AllWithout (expression_nodes es) → count_all es ≡ 0
    without_all plain.no_expression h = refl
    without_all (plain.expression_and e es) h = no_more (without e h.0) (without_all es h.1)

    without_optional : (o : OptionalExpression) → AllWithout (optional_nodes o) → count_optional o ≡ 0
    without_optional plain.absent h = refl
    without_optional (plain.present e) h = without e h.0

    without_arguments : (es : OptionalExpressions) → AllWithout (argument_nodes es) → count_arguments es ≡ 0
    without_arguments plain.no_list h = refl
    without_arguments (plain.a_list es) h = without_all es h

    without_fields : (fs : FieldExpressions) → AllWithout (field_nodes fs) → count_fields fs ≡ 0
    without_fields plain.no_field h = refl
    without_fields (plain.field_and y e fs) h = no_more (without e h.0) (without_fields fs h.1)

    without_arms : (l : Arms) → AllWithout (arm_nodes l) → count_arms l ≡ 0
    without_arms plain.no_arm h = refl
    without_arms (plain.arm_and p e l) h = no_more (without e h.1.0) (without_arms l h.1.1)

    without_body : (b : Body) → Without (a_block b) → count_body b ≡ 0
    without_body (plain.body s ss o) h =
        let g = below (a_block (plain.body s ss o)) h in
        ap (λ (z : Bool). if z then 1 else count_statements ss + count_optional o) (h [] (plain.body s ss o) refl)
        ∙ no_more (without_statements ss (front (statement_nodes ss) (optional_nodes o) g)) (without_optional o (last (statement_nodes ss) (optional_nodes o) g))

    without_statement : (a : Statement) → Without (a_statement a) → count_statement a ≡ 0
    without_statement (plain.let_statement s p y o) h = without_optional o (last (optional_type_nodes y) (optional_nodes o) (below (a_statement (plain.let_statement s p y o)) h).1)
    without_statement (plain.expression_statement s e b) h = without e (below (a_statement (plain.expression_statement s e b)) h).0

    without_statements : (ss : Statements) → AllWithout (statement_nodes ss) → count_statements ss ≡ 0
    without_statements plain.no_statement h = refl
    without_statements (plain.statement_and a ss) h = no_more (without_statement a h.0) (without_statements ss h.1)

  without_node : (n : NodeTree) → Without n → count_node n ≡ 0
  without_node (an_item (plain.function_item s f)) h =
      without_body f.body (last (optional_type_nodes f.result) (a_block f.body ∷ []) (last (parameter_nodes f.params) (optional_type_nodes f.result ++ (a_block f.body ∷ [])) (below (an_item (plain.function_item s f)) h))).0
  without_node (an_item (plain.struct_item s x)) h = refl
  without_node (an_item (plain.enum_item s x)) h = refl
  without_node (an_item (plain.rt_item s r)) h = refl
  without_node (a_type t) h = refl
  without_node (a_block b) h = without_body b h
  without_node (a_statement a) h = without_statement a h
  without_node (an_expression e) h = without e h
  without_node (a_pattern p) h = refl

  without_nodes : (ns : List NodeTree) → AllWithout ns → count_nodes ns ≡ 0
  without_nodes [] h = refl
  without_nodes (n ∷ ns) h = no_more (without_node n h.0) (without_nodes ns h.1)

  -- ---- one

  -- no other way leads to one
  abbrev OnlyThere : Option NodeTree → List ℕ → Type 0
  OnlyThere o way = (other : List ℕ) (c : Body) → descend o other ≡ Some (a_block c) → (w c ≡ false) ⊎ (other ≡ way)

  abbrev OneFrom : List ℕ → Type 0
  OneFrom way = (n : NodeTree) (b : Body) → descend (Some n) way ≡ Some (a_block b) → w b ≡ true → OnlyThere (Some n) way → count_node n ≡ 1

  the_rest : (k : ℕ) (ks : List ℕ) (o : Option NodeTree) → ((other : List ℕ) (c : Body) → descend o other ≡ Some (a_block c) → (w c ≡ false) ⊎ (k ∷ other ≡ k ∷ ks)) → OnlyThere o ks
  the_rest k ks o h other c e = by (h other c e)
    where
      behind : (k : ℕ) (xs ys : List ℕ) → k ∷ xs ≡ k ∷ ys → xs ≡ ys
      behind k xs ys e = cc

      by : (w c ≡ false) ⊎ (k ∷ other ≡ k ∷ ks) → (w c ≡ false) ⊎ (other ≡ ks)
      by (inl z) = inl z
      by (inr z) = inr (behind k other ks z)

  one_of : (ks : List ℕ) → OneFrom ks → (ns : List NodeTree) (k : ℕ) (b : Body) → descend (slice_get ns k) ks ≡ Some (a_block b) → w b ≡ true
      → ((j : ℕ) (other : List ℕ) (c : Body) → descend (slice_get ns j) other ≡ Some (a_block c) → (w c ≡ false) ⊎ (j ∷ other ≡ k ∷ ks)) → count_nodes ns ≡ 1
  one_of ks step [] k b e f only = absurd (cc)
  one_of ks step (n ∷ ns) zero b e f only =
      let x = step n b e f (the_rest zero ks (Some n) (λ other c. only zero other c)) in
      let y = without_nodes ns (each_without ns (λ j other c d. is_without c j other (only (suc j) other c d))) in omega (arith, x, y)
    where
      is_without : (c : Body) (j : ℕ) (other : List ℕ) → (w c ≡ false) ⊎ (suc j ∷ other ≡ zero ∷ ks) → w c ≡ false
      is_without c j other (inl z) = z
      is_without c j other (inr z) = absurd (cc)
  one_of ks step (n ∷ ns) (suc k) b e f only =
      let x = without_node n (λ other c d. is_without c other (only zero other c d)) in
      let y = one_of ks step ns k b e f (λ j other c d. earlier c j other (only (suc j) other c d)) in omega (arith, x, y)
    where
      is_without : (c : Body) (other : List ℕ) → (w c ≡ false) ⊎ (zero ∷ other ≡ suc k ∷ ks) → w c ≡ false
      is_without c other (inl z) = z
      is_without c other (inr z) = absurd (cc)

      earlier : (c : Body) (j : ℕ) (other : List ℕ) → (w c ≡ false) ⊎ (suc j ∷ other ≡ suc k ∷ ks) → (w c ≡ false) ⊎ (j ∷ other ≡ k ∷ ks)
      earlier c j other (inl z) = inl z
      earlier c j other (inr z) = inr (cc)

  pub one_there : (b : Body) → w b ≡ true → count_body b ≡ 1
  one_there (plain.body s ss o) f = ap (λ (z : Bool). if z then 1 else count_statements ss + count_optional o) f

  pub those_inside : (s : Span) (ss : Statements) (o : OptionalExpression) → w (plain.body s ss o) ≡ false → count_body (plain.body s ss o) ≡ count_statements ss + count_optional o
  those_inside s ss o f = ap (λ (z : Bool). if z then 1 else count_statements ss + count_optional o) f

  one_from : (way : List ℕ) → OneFrom way
  one_from [] n b e f only = by n (let z : Some n ≡ Some (a_block b) = e in cc)
    where
      by : (n : NodeTree) → n ≡ a_block b → count_node n ≡ 1
      by n g = ap count_node g ∙ one_there b f
  one_from (k ∷ ks) n b e f only = of_node n (not_itself n only) ∙ one_of ks (one_from ks) (children n) k b e f (λ j other c d. only (j ∷ other) c d)
    where
      is_without : (c : Body) → (w c ≡ false) ⊎ ([] ≡ k ∷ ks) → w c ≡ false
      is_without c (inl z) = z
      is_without c (inr z) = absurd (cc)

      not_itself : (n : NodeTree) → OnlyThere (Some n) (k ∷ ks) → NotItself n
      not_itself (a_block c) only = is_without c (only [] c refl)
      not_itself (an_item i) only = tt
      not_itself (a_type t) only = tt
      not_itself (a_statement a) only = tt
      not_itself (an_expression e) only = tt
      not_itself (a_pattern p) only = tt

-- ---- where none is such

pub no_statements_count : (ss : Statements) → count_statements none_such ss ≡ 0
no_statements_count ss = let h = without_body none_such (plain.body nowhere ss plain.absent) (λ way c e. refl) in omega (arith, h)

pub no_tail_counts : (o : OptionalExpression) → count_optional none_such o ≡ 0
no_tail_counts o = let h = without_body none_such (plain.body nowhere plain.no_statement o) (λ way c e. refl) in omega (arith, h)

-- ---- a block that stands alone at its place

pub alone_counts_one : (b : Body) (way : List ℕ) (whole : Body) → StandsAlone b way whole → count_body (at_place (body_span b)) whole ≡ 1
alone_counts_one b way whole h = one_from (at_place (body_span b)) way (a_block whole) b h.there (same_itself (body_span b)) (λ other c e. by other c e (same_place (body_span b) (body_span c)) refl)
  where
    by : (other : List ℕ) (c : Body) → descend (Some (a_block whole)) other ≡ Some (a_block c) → (z : Bool) → same_place (body_span b) (body_span c) ≡ z → (at_place (body_span b) c ≡ false) ⊎ (other ≡ way)
    by other c e true f = inr (h.alone other c e f)
    by other c e false f = inl f
