-- The names that patterns of a text bind, and those of its functions and their parameters, are names among its tokens: by induction on the
-- derivation, of any claim that holds of each such token's text.
use Rattle.std.proofs.Common.{◌≡◌, ℕ, zero, suc, Bool, List, [], ◌∷◌, ◌++◌, Option, Some, None, refl, subst}
use Rattle.std.proofs.Common.{inl, inr}
use Rattle.std.specs.Prelude.{◌⊎◌}
use Rattle.rx_core.specs.declared.types.Span.{Span}
use Rattle.rx_tree.specs.declared.tree.Ident.{Ident}
use Rattle.rx_tree.specs.Plain as plain
use Rattle.rx_tree.specs.Plain.{TypeTree, TypeTrees, PatternTree, PatternTrees, FieldPatterns, Expression, OptionalExpression, Body, Statement, Parameter, Function, ItemTree, ProgramTree}
use Rattle.rx_tree.specs.PlainOf.{patterns_of, field_patterns_of, expressions_of, field_expressions_of, arms_of, statements_of}
use Rattle.rx_tree.specs.Lists.{nth, Every}
use Rattle.rx_tree.specs.Positions.{NodeTree, an_item, a_type, a_block, a_statement, an_expression, a_pattern}
use Rattle.rx_tree.specs.Nodes.{below_type, within_types, within_type, below_pattern, within_patterns, within_field_patterns, below_expression, within_expressions, within_optional, within_fields, within_arms, below_block, below_statement, within_statements}
use Rattle.rx_tree.proofs.NodesLaws.{every_both}
use Rattle.rx_lex.specs.Tok.{Tok}
use Rattle.rx_parse_grammar.specs.grammar.Words.{IsName, IsMutability, IsListOf, no_element, last_element, element, ident, second_ampersand}
use Rattle.rx_parse_grammar.specs.grammar.Patterns as patterns
use Rattle.rx_parse_grammar.specs.grammar.Patterns.{IsPattern, ArePatterns, IsFieldPattern, AreFieldPatterns}
use Rattle.rx_parse_grammar.specs.grammar.Expressions as g
use Rattle.rx_parse_grammar.specs.grammar.Expressions.{IsAnnotation, IsExpression, IsOperand, IsUnary, IsPostfix, IsPrimary, AreArguments, IsField, AreFields, IsLike, IsIf, IsElse, Test, condition, fitting, IsTest, AreArms, IsBlock, IsStatement, AreStatements, if_of, while_of}
use Rattle.rx_parse_grammar.specs.grammar.Items as items
use Rattle.rx_parse_grammar.specs.grammar.Items.{IsParameter, IsItem, IsFile}
use Rattle.rx_hoist_extraction.specs.Names.{Names, bound, all_bound, fields_bound}
use Rattle.rx_engine_names.specs.ParameterNames.{parameter_names}
use Rattle.rx_select.specs.Selected.{IsToken}

-- of a pattern: of all that it binds
abbrev pub Binds : (List ℕ → Type 0) → NodeTree → Type 0
Binds W (an_item i) = Unit {0}
Binds W (a_type t) = Unit {0}
Binds W (a_block b) = Unit {0}
Binds W (a_statement a) = Unit {0}
Binds W (an_expression e) = Unit {0}
Binds W (a_pattern p) = Every W (bound p)

-- of each token that is a name
abbrev pub AllNames : (List ℕ → Type 0) → List Tok → Type 0
AllNames W ts = (t : Tok) → IsToken t ts → IsName t → W t.text

module _ (W : List ℕ → Type 0) where
  abbrev B : NodeTree → Type 0
  B = Binds W

  -- ---- tokens

  from : (ts us : List Tok) → ts ≡ us → AllNames W ts → AllNames W us
  from ts us e h = subst (AllNames W) e h

  here : (t : Tok) (us : List Tok) → AllNames W (t ∷ us) → IsName t → W t.text
  here t us h k = h t (inl refl) k

  rest : (t : Tok) (us : List Tok) → AllNames W (t ∷ us) → AllNames W us
  rest t us h u i k = h u (inr i) k

  left : (us vs : List Tok) → AllNames W (us ++ vs) → AllNames W us
  left [] vs h t i k = absurd i
  left (u ∷ us) vs h t (inl e) k = h t (inl e) k
  left (u ∷ us) vs h t (inr i) k = left us vs (rest u (us ++ vs) h) t i k

  right : (us vs : List Tok) → AllNames W (us ++ vs) → AllNames W vs
  right [] vs h = h
  right (u ∷ us) vs h = right us vs (rest u (us ++ vs) h)

  none : AllNames W []
  none t i k = absurd i

  -- ---- types have no patterns

  mutual
    no_names : (t : TypeTree) → Every B (below_type t)
    no_names (plain.kind_type s k) = tt
    no_names (plain.bool_type s) = tt
    no_names (plain.tuple_type s ts) = no_names_in ts
    no_names (plain.ref_type s l m t) = (tt, no_names t)
    no_names (plain.named_type s n ls) = tt

    no_names_in : (ts : TypeTrees) → Every B (within_types ts)
    no_names_in plain.no_type = tt
    no_names_in (plain.type_and t ts) = (tt, every_both B (below_type t) (within_types ts) (no_names t) (no_names_in ts))

  pub typed : (y : Option TypeTree) → Every B (within_type y)
  typed None = tt
  typed (Some t) = (tt, no_names t)

  -- ---- patterns

  joined_names : (xs ys : Names) → Every W xs → Every W ys → Every W (xs ++ ys)
  joined_names [] ys h k = k
  joined_names (x ∷ xs) ys h k = (h.0, joined_names xs ys h.1 k)

  mutual
    pattern_names : {ts : List Tok} {p : PatternTree} {h : ℕ} → IsPattern ts p h → AllNames W ts → Every W (bound p) × Every B (below_pattern p)
    pattern_names (patterns.wild t s is) a = (tt, tt)
    pattern_names {ts} (patterns.binding n s is) a = ((here n [] (from ts (n ∷ []) is a) s, tt), tt)
    pattern_names {ts} (patterns.mutable_binding m n sm s is) a = ((here n [] (rest m (n ∷ []) (from ts (m ∷ n ∷ []) is a)) s, tt), tt)
    pattern_names (patterns.number t v k s is) a = (tt, tt)
    pattern_names (patterns.negative m t v k sm s is) a = (tt, tt)
    pattern_names (patterns.true_is t s is) a = (tt, tt)
    pattern_names (patterns.false_is t s is) a = (tt, tt)
    pattern_names (patterns.unit o c so sc is) a = (tt, tt)
    pattern_names {ts} (patterns.parentheses o c us y h so sc r is) a = pattern_names r (left us (c ∷ []) (rest o (us ++ c ∷ []) (from ts (o ∷ (us ++ c ∷ [])) is a)))
    pattern_names {ts} (patterns.tuple o m c us vs y ys h i so sm sc r more is) a =
        let w = rest o (us ++ (m ∷ (vs ++ c ∷ []))) (from ts (o ∷ (us ++ (m ∷ (vs ++ c ∷ [])))) is a) in
        let x = pattern_names r (left us (m ∷ (vs ++ c ∷ [])) w) in
        let z = patterns_names more (left vs (c ∷ []) (rest m (vs ++ c ∷ []) (right us (m ∷ (vs ++ c ∷ [])) w))) in
        (joined_names (bound y) (all_bound (patterns_of ys)) x.0 z.0, (x.0, every_both B (below_pattern y) (within_patterns (patterns_of ys)) x.1 z.1))
    pattern_names (patterns.variant e p v se sp sv is) a = (tt, tt)
    pattern_names {ts} (patterns.variant_with e p v o c us y ys h se sp sv so sc r is) a =
        patterns_names r (left us (c ∷ []) (right (e ∷ p ∷ v ∷ o ∷ []) (us ++ c ∷ []) (from ts (e ∷ p ∷ v ∷ o ∷ (us ++ c ∷ [])) is a)))
    pattern_names {ts} (patterns.structure n o c us fs h sn so sc r is) a = fields_names r (left us (c ∷ []) (right (n ∷ o ∷ []) (us ++ c ∷ []) (from ts (n ∷ o ∷ (us ++ c ∷ [])) is a)))

    patterns_names : {ts : List Tok} {ps : List PatternTree} {h : ℕ} → ArePatterns ts ps h → AllNames W ts → Every W (all_bound (patterns_of ps)) × Every B (within_patterns (patterns_of ps))
    patterns_names patterns.no_pattern a = (tt, tt)
    patterns_names (patterns.last_pattern {y = y} r) a = let x = pattern_names r a in (joined_names (bound y) [] x.0 tt, (x.0, every_both B (below_pattern y) [] x.1 tt))
    patterns_names {ts} (patterns.pattern_and us vs c y ys m n r s more is) a =
        let w = from ts (us ++ (c ∷ vs)) is a in
        let x = pattern_names r (left us (c ∷ vs) w) in
        let z = patterns_names more (rest c vs (right us (c ∷ vs) w)) in
        (joined_names (bound y) (all_bound (patterns_of ys)) x.0 z.0, (x.0, every_both B (below_pattern y) (within_patterns (patterns_of ys)) x.1 z.1))

    field_names : {ts : List Tok} {f : Ident × PatternTree} {h : ℕ} → IsFieldPattern ts f h → AllNames W ts → Every W (bound f.1) × Every B (below_pattern f.1)
    field_names {ts} (patterns.field n d us y h sn sd r is) a = pattern_names r (right (n ∷ d ∷ []) us (from ts (n ∷ d ∷ us) is a))
    field_names {ts} (patterns.short_field n s is) a = ((here n [] (from ts (n ∷ []) is a) s, tt), tt)
    field_names {ts} (patterns.short_mutable m n sm s is) a = ((here n [] (rest m (n ∷ []) (from ts (m ∷ n ∷ []) is a)) s, tt), tt)

    fields_names : {ts : List Tok} {fs : List (Ident × PatternTree)} {h : ℕ} → AreFieldPatterns ts fs h → AllNames W ts → Every W (fields_bound (field_patterns_of fs)) × Every B (within_field_patterns (field_patterns_of fs))
    fields_names patterns.no_field a = (tt, tt)
    fields_names (patterns.last_field {f = f} r) a = let x = field_names r a in (joined_names (bound f.1) [] x.0 tt, (x.0, every_both B (below_pattern f.1) [] x.1 tt))
    fields_names {ts} (patterns.field_and us vs c f fs m n r s more is) a =
        let w = from ts (us ++ (c ∷ vs)) is a in
        let x = field_names r (left us (c ∷ vs) w) in
        let z = fields_names more (rest c vs (right us (c ∷ vs) w)) in
        (joined_names (bound f.1) (fields_bound (field_patterns_of fs)) x.0 z.0, (x.0, every_both B (below_pattern f.1) (within_field_patterns (field_patterns_of fs)) x.1 z.1))

  -- ---- expressions

  abbrev E : Expression → Type 0
  E x = Every B (below_expression x)

  two : (x y : Expression) → E x → E y → Every B (an_expression x ∷ (below_expression x ++ (an_expression y ∷ below_expression y)))
  two x y h k = (tt, every_both B (below_expression x) (an_expression y ∷ below_expression y) h (tt, k))

  abbrev T : Test → List NodeTree → Type 0
  T (condition x) cs = Every B (an_expression x ∷ (below_expression x ++ cs))
  T (fitting p x) cs = Every B (a_pattern p ∷ (below_pattern p ++ (an_expression x ∷ (below_expression x ++ cs))))

  if_names : (s : Span) (x : Test) (b : Body) (o : OptionalExpression) → T x (a_block b ∷ (below_block b ++ within_optional o)) → E (if_of s x b o)
  if_names s (condition x) b o h = h
  if_names s (fitting p x) b o h = h

  while_names : (s : Span) (l : Option Ident) (x : Test) (b : Body) → T x (a_block b ∷ below_block b) → E (while_of s l x b)
  while_names s l (condition x) b h = h
  while_names s l (fitting p x) b h = h

  no_name : (t u : Tok) → u ≡ second_ampersand t → IsName u → ⊥
  no_name t u e k = let z : IsName (second_ampersand t) = subst IsName e k in absurd (cc)

  halved : (t : Tok) (us : List Tok) → AllNames W us → AllNames W (second_ampersand t ∷ us)
  halved t us h u (inl e) k = absurd (no_name t u e k)
  halved t us h u (inr i) k = h u i k

  arm_names : (p : PatternTree) (x : Expression) (more : List (PatternTree × Expression)) → Every W (bound p) × Every B (below_pattern p) → E x → Every B (within_arms (arms_of more)) → Every B (within_arms (arms_of ((p, x) ∷ more)))
  arm_names p x more h k l = (h.0, every_both B (below_pattern p) (an_expression x ∷ (below_expression x ++ within_arms (arms_of more))) h.1 (tt, every_both B (below_expression x) (within_arms (arms_of more)) k l))

  third : (xs ys zs : List NodeTree) → Every B xs → Every B (ys ++ zs) → Every B ((xs ++ ys) ++ zs)
  third [] ys zs h k = k
  third (x ∷ xs) ys zs h k = (h.0, third xs ys zs h.1 k)

  mutual
    expression_names : {ts : List Tok} {x : Expression} {h : ℕ} → IsExpression ts x h → AllNames W ts → E x
    expression_names (g.operand r) a = operand_names r a
    expression_names {ts} (g.assign us vs t l r m n s d e is) a = let w = from ts (us ++ (t ∷ vs)) is a in two l r (operand_names d (left us (t ∷ vs) w)) (expression_names e (rest t vs (right us (t ∷ vs) w)))
    expression_names {ts} (g.update us vs t o l r m n s d e is) a = let w = from ts (us ++ (t ∷ vs)) is a in two l r (operand_names d (left us (t ∷ vs) w)) (expression_names e (rest t vs (right us (t ∷ vs) w)))
    expression_names (g.return t s is) a = tt
    expression_names {ts} (g.return_with t us x h s r is) a = (tt, expression_names r (rest t us (from ts (t ∷ us) is a)))
    expression_names (g.break t s is) a = tt
    expression_names (g.break_from t l s k is) a = tt
    expression_names (g.continue t s is) a = tt
    expression_names (g.continue_with t l s k is) a = tt

    operand_names : {f : Bool} {j : ℕ} {ts : List Tok} {x : Expression} {h : ℕ} → IsOperand f j ts x h → AllNames W ts → E x
    operand_names (g.unary r) a = unary_names r a
    operand_names (g.stronger r) a = operand_names r a
    operand_names {ts = ts} (g.chain us vs t o l r m n d k x y is) a = let w = from ts (us ++ (t ∷ vs)) is a in two l r (operand_names x (left us (t ∷ vs) w)) (operand_names y (rest t vs (right us (t ∷ vs) w)))
    operand_names {ts = ts} (g.compare us vs t o l r m n d k x y is) a = let w = from ts (us ++ (t ∷ vs)) is a in two l r (operand_names x (left us (t ∷ vs) w)) (operand_names y (rest t vs (right us (t ∷ vs) w)))

    unary_names : {f : Bool} {ts : List Tok} {x : Expression} {h : ℕ} → IsUnary f ts x h → AllNames W ts → E x
    unary_names (g.postfix r) a = postfix_names r a
    unary_names {ts = ts} (g.negate t us x h s r is) a = (tt, unary_names r (rest t us (from ts (t ∷ us) is a)))
    unary_names {ts = ts} (g.invert t us x h s r is) a = (tt, unary_names r (rest t us (from ts (t ∷ us) is a)))
    unary_names {ts = ts} (g.deref t us x h s r is) a = (tt, unary_names r (rest t us (from ts (t ∷ us) is a)))
    unary_names {ts = ts} (g.borrow t ms us m x h s sm r is) a = (tt, unary_names r (right ms us (rest t (ms ++ us) (from ts (t ∷ (ms ++ us)) is a))))
    unary_names {ts = ts} (g.borrow_twice t us x h s r is) a = (tt, unary_names r (halved t us (rest t us (from ts (t ∷ us) is a))))

    postfix_names : {f : Bool} {ts : List Tok} {x : Expression} {h : ℕ} → IsPostfix f ts x h → AllNames W ts → E x
    postfix_names (g.primary r) a = primary_names r a
    postfix_names {ts = ts} (g.field us d n x h sd sn r is) a = (tt, postfix_names r (left us (d ∷ n ∷ []) (from ts (us ++ (d ∷ n ∷ [])) is a)))
    postfix_names {ts = ts} (g.part us d t v x h sd st r is) a = (tt, postfix_names r (left us (d ∷ t ∷ []) (from ts (us ++ (d ∷ t ∷ [])) is a)))

    primary_names : {f : Bool} {ts : List Tok} {x : Expression} {h : ℕ} → IsPrimary f ts x h → AllNames W ts → E x
    primary_names (g.number t v k s is) a = tt
    primary_names (g.true_is t s is) a = tt
    primary_names (g.false_is t s is) a = tt
    primary_names (g.variable t s is) a = tt
    primary_names {ts = ts} (g.call t o c us xs h st so sc r is) a = arguments_names r (left us (c ∷ []) (right (t ∷ o ∷ []) (us ++ c ∷ []) (from ts (t ∷ o ∷ (us ++ c ∷ [])) is a)))
    primary_names (g.next_input r p n o c sr sp sn so sc is) a = tt
    primary_names (g.variant e p v se sp sv is) a = tt
    primary_names {ts = ts} (g.variant_with e p v o c us y ys h se sp sv so sc r is) a = arguments_names r (left us (c ∷ []) (right (e ∷ p ∷ v ∷ o ∷ []) (us ++ c ∷ []) (from ts (e ∷ p ∷ v ∷ o ∷ (us ++ c ∷ [])) is a)))
    primary_names {ts = ts} (g.structure n o c us fs h sn so sc r is) a = values_names r (left us (c ∷ []) (right (n ∷ o ∷ []) (us ++ c ∷ []) (from ts (n ∷ o ∷ (us ++ c ∷ [])) is a)))
    primary_names {ts = ts} (g.print p b o q m c us y h sp sb so sq sm sc r is) a =
        (tt, expression_names r (left us (c ∷ []) (right (p ∷ b ∷ o ∷ q ∷ m ∷ []) (us ++ c ∷ []) (from ts (p ∷ b ∷ o ∷ q ∷ m ∷ (us ++ c ∷ [])) is a))))
    primary_names (g.unit o c so sc is) a = tt
    primary_names {ts = ts} (g.parentheses o c us y h so sc r is) a = expression_names r (left us (c ∷ []) (rest o (us ++ c ∷ []) (from ts (o ∷ (us ++ c ∷ [])) is a)))
    primary_names {ts = ts} (g.tuple o m c us vs y ys h j so sm sc r more is) a =
        let w = rest o (us ++ (m ∷ (vs ++ c ∷ []))) (from ts (o ∷ (us ++ (m ∷ (vs ++ c ∷ [])))) is a) in
        (tt, every_both B (below_expression y) (within_expressions (expressions_of ys)) (expression_names r (left us (m ∷ (vs ++ c ∷ [])) w)) (arguments_names more (left vs (c ∷ []) (rest m (vs ++ c ∷ []) (right us (m ∷ (vs ++ c ∷ [])) w)))))
    primary_names (g.like r) a = like_names r a

    arguments_names : {ts : List Tok} {xs : List Expression} {h : ℕ} → AreArguments ts xs h → AllNames W ts → Every B (within_expressions (expressions_of xs))
    arguments_names g.no_argument a = tt
    arguments_names (g.last_argument {x = x} r) a = (tt, every_both B (below_expression x) [] (expression_names r a) tt)
    arguments_names {ts} (g.argument_and us vs c x xs m n r s more is) a =
        let w = from ts (us ++ (c ∷ vs)) is a in
        (tt, every_both B (below_expression x) (within_expressions (expressions_of xs)) (expression_names r (left us (c ∷ vs) w)) (arguments_names more (rest c vs (right us (c ∷ vs) w))))

    value_names : {ts : List Tok} {f : Ident × Expression} {h : ℕ} → IsField ts f h → AllNames W ts → E f.1
    value_names {ts} (g.long_field n c us x h sn sc r is) a = expression_names r (right (n ∷ c ∷ []) us (from ts (n ∷ c ∷ us) is a))
    value_names (g.short_field n sn is) a = tt

    values_names : {ts : List Tok} {fs : List (Ident × Expression)} {h : ℕ} → AreFields ts fs h → AllNames W ts → Every B (within_fields (field_expressions_of fs))
    values_names g.no_field a = tt
    values_names (g.last_field {x = x} r) a = (tt, every_both B (below_expression x.1) [] (value_names r a) tt)
    values_names {ts} (g.field_and us vs c x xs m n r s more is) a =
        let w = from ts (us ++ (c ∷ vs)) is a in
        (tt, every_both B (below_expression x.1) (within_fields (field_expressions_of xs)) (value_names r (left us (c ∷ vs) w)) (values_names more (rest c vs (right us (c ∷ vs) w))))

    like_names : {ts : List Tok} {x : Expression} {h : ℕ} → IsLike ts x h → AllNames W ts → E x
    like_names (g.block b h r) a = (tt, block_names r a)
    like_names (g.conditional r) a = conditional_names r a
    like_names {ts} (g.match t o c us vs x arm more m n st so sc r l is) a =
        let w = rest t (us ++ (o ∷ (vs ++ c ∷ []))) (from ts (t ∷ (us ++ (o ∷ (vs ++ c ∷ [])))) is a) in
        (tt, every_both B (below_expression x) (within_arms (arms_of (arm ∷ more))) (operand_names r (left us (o ∷ (vs ++ c ∷ [])) w)) (arms_names l (left vs (c ∷ []) (rest o (vs ++ c ∷ []) (right us (o ∷ (vs ++ c ∷ [])) w)))))
    like_names {ts} (g.loop ls us t l b h sl st r is) a = (tt, block_names r (rest t us (right ls (t ∷ us) (from ts (ls ++ (t ∷ us)) is a))))
    like_names {ts} (g.while ls us vs t l x b m n sl st c r is) a =
        let w = rest t (us ++ vs) (right ls (t ∷ (us ++ vs)) (from ts (ls ++ (t ∷ (us ++ vs))) is a)) in
        while_names _ l x b (test_names c (a_block b ∷ below_block b) (left us vs w) (tt, block_names r (right us vs w)))

    test_names : {ts : List Tok} {x : Test} {h : ℕ} → IsTest ts x h → (cs : List NodeTree) → AllNames W ts → Every B cs → T x cs
    test_names (g.test {x = x} r) cs a k = (tt, every_both B (below_expression x) cs (operand_names r a) k)
    test_names {ts} (g.test_pattern t q ps us p x m n st sq r e is) cs a k =
        let w = rest t (ps ++ (q ∷ us)) (from ts (t ∷ (ps ++ (q ∷ us))) is a) in
        let z = pattern_names r (left ps (q ∷ us) w) in
        (z.0, every_both B (below_pattern p) (an_expression x ∷ (below_expression x ++ cs)) z.1 (tt, every_both B (below_expression x) cs (operand_names e (rest q us (right ps (q ∷ us) w))) k))

    conditional_names : {ts : List Tok} {x : Expression} {h : ℕ} → IsIf ts x h → AllNames W ts → E x
    conditional_names {ts} (g.if_alone t us vs x b m n st c r is) a =
        let w = rest t (us ++ vs) (from ts (t ∷ (us ++ vs)) is a) in
        if_names _ x b plain.absent (test_names c (a_block b ∷ (below_block b ++ [])) (left us vs w) (tt, every_both B (below_block b) [] (block_names r (right us vs w)) tt))
    conditional_names {ts} (g.if_else t e us vs ws x y b m n j st se c r o is) a =
        let w = rest t (us ++ (vs ++ (e ∷ ws))) (from ts (t ∷ (us ++ (vs ++ (e ∷ ws)))) is a) in
        let v = right us (vs ++ (e ∷ ws)) w in
        if_names _ x b (plain.present y) (test_names c (a_block b ∷ (below_block b ++ (an_expression y ∷ below_expression y))) (left us (vs ++ (e ∷ ws)) w)
        (tt, every_both B (below_block b) (an_expression y ∷ below_expression y) (block_names r (left vs (e ∷ ws) v)) (tt, else_names o (rest e ws (right vs (e ∷ ws) v)))))

    else_names : {ts : List Tok} {x : Expression} {h : ℕ} → IsElse ts x h → AllNames W ts → E x
    else_names (g.else_block b h r) a = (tt, block_names r a)
    else_names (g.else_if r) a = conditional_names r a

    arms_names : {ts : List Tok} {l : List (PatternTree × Expression)} {h : ℕ} → AreArms ts l h → AllNames W ts → Every B (within_arms (arms_of l))
    arms_names g.no_arm a = tt
    arms_names {ts} (g.like_arm q ps us vs p x more m n k r s e others is) a =
        let w = from ts (ps ++ (q ∷ (us ++ vs))) is a in
        let v = rest q (us ++ vs) (right ps (q ∷ (us ++ vs)) w) in
        arm_names p x more (pattern_names r (left ps (q ∷ (us ++ vs)) w)) (like_names e (left us vs v)) (arms_names others (right us vs v))
    arms_names {ts} (g.like_arm_and q c ps us vs p x more m n k r s e t others is) a =
        let w = from ts (ps ++ (q ∷ (us ++ (c ∷ vs)))) is a in
        let v = rest q (us ++ (c ∷ vs)) (right ps (q ∷ (us ++ (c ∷ vs))) w) in
        arm_names p x more (pattern_names r (left ps (q ∷ (us ++ (c ∷ vs))) w)) (like_names e (left us (c ∷ vs) v)) (arms_names others (rest c vs (right us (c ∷ vs) v)))
    arms_names {ts} (g.arm_and q c ps us vs p x more m n k r s e o t others is) a =
        let w = from ts (ps ++ (q ∷ (us ++ (c ∷ vs)))) is a in
        let v = rest q (us ++ (c ∷ vs)) (right ps (q ∷ (us ++ (c ∷ vs))) w) in
        arm_names p x more (pattern_names r (left ps (q ∷ (us ++ (c ∷ vs))) w)) (expression_names e (left us (c ∷ vs) v)) (arms_names others (rest c vs (right us (c ∷ vs) v)))
    arms_names {ts} (g.last_arm q ps us p x m n r s e o is) a =
        let w = from ts (ps ++ (q ∷ us)) is a in
        arm_names p x [] (pattern_names r (left ps (q ∷ us) w)) (expression_names e (rest q us (right ps (q ∷ us) w))) tt

    block_names : {ts : List Tok} {b : Body} {h : ℕ} → IsBlock ts b h → AllNames W ts → Every B (below_block b)
    block_names {ts} (g.braces o c us ss y h so sc r is) a = statements_names r (left us (c ∷ []) (rest o (us ++ c ∷ []) (from ts (o ∷ (us ++ c ∷ [])) is a)))

    statement_names : {ts : List Tok} {s : Statement} {h : ℕ} → IsStatement ts s h → AllNames W ts → Every B (below_statement s)
    statement_names {ts} (g.let_with t q z ps ys us p y x m n k st sq sz r j e is) a =
        let w = rest t (ps ++ (ys ++ (q ∷ (us ++ z ∷ [])))) (from ts (t ∷ (ps ++ (ys ++ (q ∷ (us ++ z ∷ []))))) is a) in
        let v = rest q (us ++ z ∷ []) (right ys (q ∷ (us ++ z ∷ [])) (right ps (ys ++ (q ∷ (us ++ z ∷ []))) w)) in
        let u = pattern_names r (left ps (ys ++ (q ∷ (us ++ z ∷ []))) w) in
        (u.0, every_both B (below_pattern p) (within_type y ++ (an_expression x ∷ below_expression x)) u.1 (every_both B (within_type y) (an_expression x ∷ below_expression x) (typed y) (tt, expression_names e (left us (z ∷ []) v))))
    statement_names {ts} (g.let_without t n z ms ys m y h st sn sz sm j is) a =
        let w = rest t ((ms ++ n ∷ []) ++ (ys ++ z ∷ [])) (from ts (t ∷ ((ms ++ n ∷ []) ++ (ys ++ z ∷ []))) is a) in
        let v = right ms (n ∷ []) (left (ms ++ n ∷ []) (ys ++ z ∷ []) w) in
        ((here n [] v sn, tt), every_both B (within_type y) [] (typed y) tt)
    statement_names {ts} (g.done z us x h sz r o is) a = (tt, expression_names r (left us (z ∷ []) (from ts (us ++ z ∷ []) is a)))
    statement_names {ts} (g.done_like z us x h sz r is) a = (tt, like_names r (left us (z ∷ []) (from ts (us ++ z ∷ []) is a)))

    statements_names : {ts : List Tok} {ss : List Statement} {y : OptionalExpression} {h : ℕ} → AreStatements ts ss y h → AllNames W ts → Every B (within_statements (statements_of ss) ++ within_optional y)
    statements_names g.end a = tt
    statements_names (g.tail r o) a = (tt, expression_names r a)
    statements_names (g.tail_like r) a = (tt, like_names r a)
    statements_names {ts} (g.statement_and us vs s ss y m n r more is) a =
        let w = from ts (us ++ vs) is a in
        (tt, third (below_statement s) (within_statements (statements_of ss)) (within_optional y) (statement_names r (left us vs w)) (statements_names more (right us vs w)))
    statements_names {ts} (g.like_and us vs x ss y m n r more o is) a =
        let w = from ts (us ++ vs) is a in
        (tt, (tt, third (below_expression x) (within_statements (statements_of ss)) (within_optional y) (like_names r (left us vs w)) (statements_names more (right us vs w))))

  -- ---- functions

  parameter_name : {ts : List Tok} {x : Parameter} {h : ℕ} → IsParameter ts x h → AllNames W ts → W x.name.name
  parameter_name {ts} (items.parameter ms us n c m y h sm sn sc r is) a = here n (c ∷ us) (right ms (n ∷ c ∷ us) (from ts (ms ++ (n ∷ c ∷ us)) is a)) sn

  parameters_names : {ts : List Tok} {xs : List Parameter} {h : ℕ} → IsListOf IsParameter ts xs h → AllNames W ts → Every W (parameter_names xs)
  parameters_names no_element a = tt
  parameters_names (last_element r) a = (parameter_name r a, tt)
  parameters_names {ts} (element us vs c x xs m n r s more is) a = let w = from ts (us ++ (c ∷ vs)) is a in (parameter_name r (left us (c ∷ vs) w), parameters_names more (rest c vs (right us (c ∷ vs) w)))

  pub record FunctionNames (f : Function) : Type 0 where
    pub name : W f.name.name
    pub params : Every W (parameter_names f.params)
    pub patterns : Every B (below_block f.body)

  abbrev pub Found : ItemTree → Type 0
  Found (plain.rt_item s r) = Unit {0}
  Found (plain.struct_item s x) = W x.name.name
  Found (plain.enum_item s x) = W x.name.name
  Found (plain.function_item s f) = FunctionNames f

  item_names : {ts : List Tok} {i : ItemTree} {h : ℕ} → IsItem ts i h → AllNames W ts → Found i
  item_names (items.rt m r z sm sr sz is) a = tt
  item_names {ts} (items.structure t n o c ds ls us xs l fs h st sn so sc dd dl df is) a =
      let w = right ds (t ∷ n ∷ (ls ++ (o ∷ (us ++ c ∷ [])))) (from ts (ds ++ (t ∷ n ∷ (ls ++ (o ∷ (us ++ c ∷ []))))) is a) in here n (ls ++ (o ∷ (us ++ c ∷ []))) (rest t (n ∷ (ls ++ (o ∷ (us ++ c ∷ [])))) w) sn
  item_names {ts} (items.enumeration t n o c ds ls us xs l v vs h st sn so sc dd dl dv is) a =
      let w = right ds (t ∷ n ∷ (ls ++ (o ∷ (us ++ c ∷ [])))) (from ts (ds ++ (t ∷ n ∷ (ls ++ (o ∷ (us ++ c ∷ []))))) is a) in here n (ls ++ (o ∷ (us ++ c ∷ []))) (rest t (n ∷ (ls ++ (o ∷ (us ++ c ∷ [])))) w) sn
  item_names {ts} (items.function f n o c ls us rs bs l ps r b h j q sf sn so sc dl dp dr db is) a =
      let w = rest f (n ∷ (ls ++ (o ∷ (us ++ (c ∷ (rs ++ bs)))))) (from ts (f ∷ n ∷ (ls ++ (o ∷ (us ++ (c ∷ (rs ++ bs)))))) is a) in
      let v = rest o (us ++ (c ∷ (rs ++ bs))) (right ls (o ∷ (us ++ (c ∷ (rs ++ bs)))) (rest n (ls ++ (o ∷ (us ++ (c ∷ (rs ++ bs))))) w)) in
      record {
        name = here n (ls ++ (o ∷ (us ++ (c ∷ (rs ++ bs))))) w sn;
        params = parameters_names dp (left us (c ∷ (rs ++ bs)) v);
        patterns = block_names db (right rs bs (rest c (rs ++ bs) (right us (c ∷ (rs ++ bs)) v)));
      }

  pub file_names : {ts : List Tok} {p : ProgramTree} {h : ℕ} → IsFile ts p h → AllNames W ts → Every Found p
  file_names items.no_item a = tt
  file_names {ts} (items.item_and us vs i is m n r more e) a = let w = from ts (us ++ vs) e a in (item_names r (left us vs w), file_names more (right us vs w))

  pub function_of : (p : ProgramTree) (n : ℕ) (s : Span) (f : Function) → Every Found p → nth p n ≡ Some (plain.function_item s f) → FunctionNames f
  function_of [] n s f h e = absurd (cc)
  function_of (i ∷ is) zero s f h e = let q : i ≡ plain.function_item s f = cc in subst Found q h.0
  function_of (i ∷ is) (suc n) s f h e = function_of is n s f h.1 e
