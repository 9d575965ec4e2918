-- The nodes of lists, and places in lists put together.
use Rattle.std.proofs.Common.{◌≡◌, ℕ, zero, suc, ◌+◌, ◌-◌, ◌<◌, ◌≤◌, List, [], ◌∷◌, ◌++◌, length, Option, Some, None, map, option_map, slice_get, get_or, drop, refl, ap, sym, ◌∙◌, arith, add-one, drop-cons}
use Rattle.std.proofs.lemmas.Option.{slice_get-map, slice_get_read, slice_get_past}
use Rattle.rx_tree.specs.declared.tree.TypeText.{TypeText}
use Rattle.rx_tree.specs.declared.tree.Pattern.{Pattern}
use Rattle.rx_tree.specs.declared.tree.FieldPattern.{FieldPattern}
use Rattle.rx_tree.specs.declared.tree.Expr.{Expr}
use Rattle.rx_tree.specs.declared.tree.FieldExpr.{FieldExpr}
use Rattle.rx_tree.specs.declared.tree.Arm.{Arm}
use Rattle.rx_tree.specs.declared.tree.Block.{Block, out-Block}
use Rattle.rx_tree.specs.declared.tree.Stmt.{Stmt}
use Rattle.rx_tree.specs.declared.tree.Field.{Field}
use Rattle.rx_tree.specs.declared.tree.Func.{Func}
use Rattle.rx_tree.specs.declared.tree.Item.{Item}
use Rattle.rx_tree.specs.declared.tree.Param.{Param}
use Rattle.rx_tree.specs.declared.tree.EnumVariant.{EnumVariant}
use Rattle.rx_tree.specs.PlainOf.{plain-TypeText, types_of, plain-Pattern, patterns_of, plain-FieldPattern, field_patterns_of, plain-Expr, expressions_of, plain-FieldExpr, field_expressions_of, plain-Arm, arms_of, plain-Stmt, statements_of, plain-Field, plain-Param, plain-EnumVariant, plain-Block, plain-Func, plain-Item, optional_of}
use Rattle.rx_tree.specs.declared.tree.Ident.{Ident}
use Rattle.rx_tree.specs.Plain.{PatternTree, Expression, Body, ItemTree}
use Rattle.rx_tree.specs.Positions.{NodeTree, an_item, a_type, a_block, a_statement, an_expression, a_pattern, type_nodes, pattern_nodes, field_pattern_nodes, expression_nodes, field_nodes, arm_nodes, statement_nodes, declared_nodes, parameter_nodes, variant_nodes, block_children, optional_nodes, optional_type_nodes, function_children, descend, node_at}
use Rattle.rx_tree.proofs.Rules.{field_pattern_by_parts, field_expression_by_parts, arm_by_parts, block_by_parts}

-- ---- places in lists put together

pub in_front : {A : Type 0} (xs ys : List A) (k : ℕ) → k < length xs → slice_get (xs ++ ys) k ≡ slice_get xs k
in_front [] ys k h = let none : ⊥ = omega arith in absurd none
in_front (x ∷ xs) ys zero h = refl
in_front (x ∷ xs) ys (suc k) h = let less : k < length xs = omega arith in in_front xs ys k less

pub behind : {A : Type 0} (xs ys : List A) (k : ℕ) → length xs ≤ k → slice_get (xs ++ ys) k ≡ slice_get ys (k - length xs)
behind [] ys k h = let same : k ≡ k - 0 = omega arith in ap (λ n. slice_get ys n) same
behind (x ∷ xs) ys zero h = let none : ⊥ = omega arith in absurd none
behind (x ∷ xs) ys (suc k) h =
    let less : length xs ≤ k = omega arith in
    let same : k - length xs ≡ suc k - length (x ∷ xs) = omega arith in
    behind xs ys k less ∙ ap (λ n. slice_get ys n) same

-- an element at its place, and no element past the end, in the image of a list
found : {A B : Type 0} (f : A → B) (xs : List A) (k : ℕ) (x : A) → k < length xs → x ≡ get_or xs k x → Some (f x) ≡ option_map f (slice_get xs k)
found f xs k x h e = let is : slice_get xs k ≡ Some x = slice_get_read xs (length xs) k x refl h e in rw is refl

past : {A B : Type 0} (f : A → B) (xs : List A) (k : ℕ) → length xs ≤ k → None ≡ option_map f (slice_get xs k)
past f xs k h = rw (slice_get_past xs k h) refl

-- ---- the nodes of lists

types_are : (xs : List TypeText) → type_nodes (types_of (map plain-TypeText xs)) ≡ map (λ (x : TypeText). a_type (plain-TypeText x)) xs
types_are [] = refl
types_are (x ∷ xs) = ap (λ l. a_type (plain-TypeText x) ∷ l) (types_are xs)

types_at : (xs : List TypeText) (k : ℕ) → slice_get (type_nodes (types_of (map plain-TypeText xs))) k ≡ option_map (λ (x : TypeText). a_type (plain-TypeText x)) (slice_get xs k)
types_at xs k = rw (types_are xs) (slice_get-map (λ (x : TypeText). a_type (plain-TypeText x)) xs k)

patterns_are : (xs : List Pattern) → pattern_nodes (patterns_of (map plain-Pattern xs)) ≡ map (λ (x : Pattern). a_pattern (plain-Pattern x)) xs
patterns_are [] = refl
patterns_are (x ∷ xs) = ap (λ l. a_pattern (plain-Pattern x) ∷ l) (patterns_are xs)

pub patterns_at : (xs : List Pattern) (k : ℕ) → slice_get (pattern_nodes (patterns_of (map plain-Pattern xs))) k ≡ option_map (λ (x : Pattern). a_pattern (plain-Pattern x)) (slice_get xs k)
patterns_at xs k = rw (patterns_are xs) (slice_get-map (λ (x : Pattern). a_pattern (plain-Pattern x)) xs k)

field_patterns_are : (xs : List FieldPattern) → field_pattern_nodes (field_patterns_of (map plain-FieldPattern xs)) ≡ map (λ (x : FieldPattern). a_pattern (plain-Pattern x.pattern)) xs
field_patterns_are [] = refl
field_patterns_are (x ∷ xs) = ap (λ (p : Ident × PatternTree). a_pattern p.1 ∷ field_pattern_nodes (field_patterns_of (map plain-FieldPattern xs))) (field_pattern_by_parts x) ∙ ap (λ l. a_pattern (plain-Pattern x.pattern) ∷ l) (field_patterns_are xs)

pub field_patterns_at : (xs : List FieldPattern) (k : ℕ) → slice_get (field_pattern_nodes (field_patterns_of (map plain-FieldPattern xs))) k ≡ option_map (λ (x : FieldPattern). a_pattern (plain-Pattern x.pattern)) (slice_get xs k)
field_patterns_at xs k = rw (field_patterns_are xs) (slice_get-map (λ (x : FieldPattern). a_pattern (plain-Pattern x.pattern)) xs k)

expressions_are : (xs : List Expr) → expression_nodes (expressions_of (map plain-Expr xs)) ≡ map (λ (x : Expr). an_expression (plain-Expr x)) xs
expressions_are [] = refl
expressions_are (x ∷ xs) = ap (λ l. an_expression (plain-Expr x) ∷ l) (expressions_are xs)

pub expressions_at : (xs : List Expr) (k : ℕ) → slice_get (expression_nodes (expressions_of (map plain-Expr xs))) k ≡ option_map (λ (x : Expr). an_expression (plain-Expr x)) (slice_get xs k)
expressions_at xs k = rw (expressions_are xs) (slice_get-map (λ (x : Expr). an_expression (plain-Expr x)) xs k)

fields_are : (xs : List FieldExpr) → field_nodes (field_expressions_of (map plain-FieldExpr xs)) ≡ map (λ (x : FieldExpr). an_expression (plain-Expr x.value)) xs
fields_are [] = refl
fields_are (x ∷ xs) = ap (λ (p : Ident × Expression). an_expression p.1 ∷ field_nodes (field_expressions_of (map plain-FieldExpr xs))) (field_expression_by_parts x) ∙ ap (λ l. an_expression (plain-Expr x.value) ∷ l) (fields_are xs)

pub fields_at : (xs : List FieldExpr) (k : ℕ) → slice_get (field_nodes (field_expressions_of (map plain-FieldExpr xs))) k ≡ option_map (λ (x : FieldExpr). an_expression (plain-Expr x.value)) (slice_get xs k)
fields_at xs k = rw (fields_are xs) (slice_get-map (λ (x : FieldExpr). an_expression (plain-Expr x.value)) xs k)

statements_are : (xs : List Stmt) → statement_nodes (statements_of (map plain-Stmt xs)) ≡ map (λ (x : Stmt). a_statement (plain-Stmt x)) xs
statements_are [] = refl
statements_are (x ∷ xs) = ap (λ l. a_statement (plain-Stmt x) ∷ l) (statements_are xs)

pub statements_at : (xs : List Stmt) (k : ℕ) → slice_get (statement_nodes (statements_of (map plain-Stmt xs))) k ≡ option_map (λ (x : Stmt). a_statement (plain-Stmt x)) (slice_get xs k)
statements_at xs k = rw (statements_are xs) (slice_get-map (λ (x : Stmt). a_statement (plain-Stmt x)) xs k)

declared_are : (xs : List Field) → declared_nodes (map plain-Field xs) ≡ map (λ (x : Field). a_type (plain-TypeText x.typ)) xs
declared_are [] = refl
declared_are (x ∷ xs) = ap (λ l. a_type (plain-TypeText x.typ) ∷ l) (declared_are xs)

pub declared_at : (xs : List Field) (k : ℕ) → slice_get (declared_nodes (map plain-Field xs)) k ≡ option_map (λ (x : Field). a_type (plain-TypeText x.typ)) (slice_get xs k)
declared_at xs k = rw (declared_are xs) (slice_get-map (λ (x : Field). a_type (plain-TypeText x.typ)) xs k)

parameters_are : (xs : List Param) → parameter_nodes (map plain-Param xs) ≡ map (λ (x : Param). a_type (plain-TypeText x.typ)) xs
parameters_are [] = refl
parameters_are (x ∷ xs) = ap (λ l. a_type (plain-TypeText x.typ) ∷ l) (parameters_are xs)

pub parameters_at : (xs : List Param) (k : ℕ) → slice_get (parameter_nodes (map plain-Param xs)) k ≡ option_map (λ (x : Param). a_type (plain-TypeText x.typ)) (slice_get xs k)
parameters_at xs k = rw (parameters_are xs) (slice_get-map (λ (x : Param). a_type (plain-TypeText x.typ)) xs k)

pub types_found : (xs : List TypeText) (k : ℕ) (x : TypeText) → k < length xs → x ≡ get_or xs k x → Some (a_type (plain-TypeText x)) ≡ slice_get (type_nodes (types_of (map plain-TypeText xs))) k
types_found xs k x h e = found (λ (x : TypeText). a_type (plain-TypeText x)) xs k x h e ∙ sym (types_at xs k)

pub types_past : (xs : List TypeText) (k : ℕ) → length xs ≤ k → None ≡ slice_get (type_nodes (types_of (map plain-TypeText xs))) k
types_past xs k h = past (λ (x : TypeText). a_type (plain-TypeText x)) xs k h ∙ sym (types_at xs k)

pub patterns_found : (xs : List Pattern) (k : ℕ) (x : Pattern) → k < length xs → x ≡ get_or xs k x → Some (a_pattern (plain-Pattern x)) ≡ slice_get (pattern_nodes (patterns_of (map plain-Pattern xs))) k
patterns_found xs k x h e = found (λ (x : Pattern). a_pattern (plain-Pattern x)) xs k x h e ∙ sym (patterns_at xs k)

pub patterns_past : (xs : List Pattern) (k : ℕ) → length xs ≤ k → None ≡ slice_get (pattern_nodes (patterns_of (map plain-Pattern xs))) k
patterns_past xs k h = past (λ (x : Pattern). a_pattern (plain-Pattern x)) xs k h ∙ sym (patterns_at xs k)

pub field_patterns_found : (xs : List FieldPattern) (k : ℕ) (x : FieldPattern) → k < length xs → x ≡ get_or xs k x → Some (a_pattern (plain-Pattern x.pattern)) ≡ slice_get (field_pattern_nodes (field_patterns_of (map plain-FieldPattern xs))) k
field_patterns_found xs k x h e = found (λ (x : FieldPattern). a_pattern (plain-Pattern x.pattern)) xs k x h e ∙ sym (field_patterns_at xs k)

pub field_patterns_past : (xs : List FieldPattern) (k : ℕ) → length xs ≤ k → None ≡ slice_get (field_pattern_nodes (field_patterns_of (map plain-FieldPattern xs))) k
field_patterns_past xs k h = past (λ (x : FieldPattern). a_pattern (plain-Pattern x.pattern)) xs k h ∙ sym (field_patterns_at xs k)

pub expressions_found : (xs : List Expr) (k : ℕ) (x : Expr) → k < length xs → x ≡ get_or xs k x → Some (an_expression (plain-Expr x)) ≡ slice_get (expression_nodes (expressions_of (map plain-Expr xs))) k
expressions_found xs k x h e = found (λ (x : Expr). an_expression (plain-Expr x)) xs k x h e ∙ sym (expressions_at xs k)

pub expressions_past : (xs : List Expr) (k : ℕ) → length xs ≤ k → None ≡ slice_get (expression_nodes (expressions_of (map plain-Expr xs))) k
expressions_past xs k h = past (λ (x : Expr). an_expression (plain-Expr x)) xs k h ∙ sym (expressions_at xs k)

pub fields_found : (xs : List FieldExpr) (k : ℕ) (x : FieldExpr) → k < length xs → x ≡ get_or xs k x → Some (an_expression (plain-Expr x.value)) ≡ slice_get (field_nodes (field_expressions_of (map plain-FieldExpr xs))) k
fields_found xs k x h e = found (λ (x : FieldExpr). an_expression (plain-Expr x.value)) xs k x h e ∙ sym (fields_at xs k)

pub fields_past : (xs : List FieldExpr) (k : ℕ) → length xs ≤ k → None ≡ slice_get (field_nodes (field_expressions_of (map plain-FieldExpr xs))) k
fields_past xs k h = past (λ (x : FieldExpr). an_expression (plain-Expr x.value)) xs k h ∙ sym (fields_at xs k)

pub statements_found : (xs : List Stmt) (k : ℕ) (x : Stmt) → k < length xs → x ≡ get_or xs k x → Some (a_statement (plain-Stmt x)) ≡ slice_get (statement_nodes (statements_of (map plain-Stmt xs))) k
statements_found xs k x h e = found (λ (x : Stmt). a_statement (plain-Stmt x)) xs k x h e ∙ sym (statements_at xs k)

pub statements_past : (xs : List Stmt) (k : ℕ) → length xs ≤ k → None ≡ slice_get (statement_nodes (statements_of (map plain-Stmt xs))) k
statements_past xs k h = past (λ (x : Stmt). a_statement (plain-Stmt x)) xs k h ∙ sym (statements_at xs k)

pub declared_found : (xs : List Field) (k : ℕ) (x : Field) → k < length xs → x ≡ get_or xs k x → Some (a_type (plain-TypeText x.typ)) ≡ slice_get (declared_nodes (map plain-Field xs)) k
declared_found xs k x h e = found (λ (x : Field). a_type (plain-TypeText x.typ)) xs k x h e ∙ sym (declared_at xs k)

pub declared_past : (xs : List Field) (k : ℕ) → length xs ≤ k → None ≡ slice_get (declared_nodes (map plain-Field xs)) k
declared_past xs k h = past (λ (x : Field). a_type (plain-TypeText x.typ)) xs k h ∙ sym (declared_at xs k)

pub parameters_found : (xs : List Param) (k : ℕ) (x : Param) → k < length xs → x ≡ get_or xs k x → Some (a_type (plain-TypeText x.typ)) ≡ slice_get (parameter_nodes (map plain-Param xs)) k
parameters_found xs k x h e = found (λ (x : Param). a_type (plain-TypeText x.typ)) xs k x h e ∙ sym (parameters_at xs k)

pub parameters_past : (xs : List Param) (k : ℕ) → length xs ≤ k → None ≡ slice_get (parameter_nodes (map plain-Param xs)) k
parameters_past xs k h = past (λ (x : Param). a_type (plain-TypeText x.typ)) xs k h ∙ sym (parameters_at xs k)

-- ---- the children of a block

statement_count : (xs : List Stmt) → length (statement_nodes (statements_of (map plain-Stmt xs))) ≡ length xs
statement_count [] = refl
statement_count (x ∷ xs) = ap suc (statement_count xs)

parameter_count : (xs : List Param) → length (parameter_nodes (map plain-Param xs)) ≡ length xs
parameter_count [] = refl
parameter_count (x ∷ xs) = ap suc (parameter_count xs)

type_count : (xs : List TypeText) → length (type_nodes (types_of (map plain-TypeText xs))) ≡ length xs
type_count [] = refl
type_count (x ∷ xs) = ap suc (type_count xs)

block_parts : (b : Block) (k : ℕ) → slice_get (block_children (plain-Block b)) k ≡ slice_get (statement_nodes (statements_of (map plain-Stmt (out-Block b).stmts)) ++ optional_nodes (optional_of (option_map plain-Expr (out-Block b).tail))) k
block_parts b k = ap (λ (t : Body). slice_get (block_children t) k) (block_by_parts b)

pub block_front : (b : Block) (l : List Stmt) (k : ℕ) (r : Option NodeTree) → l ≡ (out-Block b).stmts → k < length l → r ≡ slice_get (statement_nodes (statements_of (map plain-Stmt l))) k → r ≡ slice_get (block_children (plain-Block b)) k
block_front b l k r e h is =
    let less : k < length (statement_nodes (statements_of (map plain-Stmt l))) = rw (statement_count l) h in
    is ∙ sym (in_front _ (optional_nodes (optional_of (option_map plain-Expr (out-Block b).tail))) k less)
    ∙ ap (λ (l : List Stmt). slice_get (statement_nodes (statements_of (map plain-Stmt l)) ++ optional_nodes (optional_of (option_map plain-Expr (out-Block b).tail))) k) e
    ∙ sym (block_parts b k)

pub block_behind : (b : Block) (l : List Stmt) (t : Option Expr) (k : ℕ) (r : Option NodeTree) → l ≡ (out-Block b).stmts → (out-Block b).tail ≡ t → length l ≤ k → r ≡ slice_get (optional_nodes (optional_of (option_map plain-Expr t))) (k - length l) → r ≡ slice_get (block_children (plain-Block b)) k
block_behind b l t k r e f h is =
    let nodes : List NodeTree = statement_nodes (statements_of (map plain-Stmt l)) in
    let rest : List NodeTree = optional_nodes (optional_of (option_map plain-Expr t)) in
    let count : length nodes ≡ length l = statement_count l in
    let more : length nodes ≤ k = rw count h in
    is ∙ ap (λ (n : ℕ). slice_get rest (k - n)) (sym count) ∙ sym (behind nodes rest k more)
    ∙ ap (λ (l : List Stmt). slice_get (statement_nodes (statements_of (map plain-Stmt l)) ++ rest) k) e
    ∙ ap (λ (t : Option Expr). slice_get (statement_nodes (statements_of (map plain-Stmt (out-Block b).stmts)) ++ optional_nodes (optional_of (option_map plain-Expr t))) k) (sym f)
    ∙ sym (block_parts b k)

-- ---- the children of a function

pub function_front : (f : Func) (l : List Param) (k : ℕ) (r : Option NodeTree) → l ≡ f.params → k < length l → r ≡ slice_get (parameter_nodes (map plain-Param l)) k → r ≡ slice_get (function_children (plain-Func f)) k
function_front f l k r e h is =
    let rest : List NodeTree = optional_type_nodes (option_map plain-TypeText f.result) ++ (a_block (plain-Block f.body) ∷ []) in
    let less : k < length (parameter_nodes (map plain-Param l)) = rw (parameter_count l) h in
    is ∙ sym (in_front (parameter_nodes (map plain-Param l)) rest k less) ∙ ap (λ (l : List Param). slice_get (parameter_nodes (map plain-Param l) ++ rest) k) e

pub function_behind : (f : Func) (l : List Param) (t : Option TypeText) (k : ℕ) (r : Option NodeTree) → l ≡ f.params → f.result ≡ t → length l ≤ k
    → r ≡ slice_get (optional_type_nodes (option_map plain-TypeText t) ++ (a_block (plain-Block f.body) ∷ [])) (k - length l) → r ≡ slice_get (function_children (plain-Func f)) k
function_behind f l t k r e g h is =
    let nodes : List NodeTree = parameter_nodes (map plain-Param l) in
    let rest : List NodeTree = optional_type_nodes (option_map plain-TypeText t) ++ (a_block (plain-Block f.body) ∷ []) in
    let count : length nodes ≡ length l = parameter_count l in
    let more : length nodes ≤ k = rw count h in
    is ∙ ap (λ (n : ℕ). slice_get rest (k - n)) (sym count) ∙ sym (behind nodes rest k more)
    ∙ ap (λ (l : List Param). slice_get (parameter_nodes (map plain-Param l) ++ rest) k) e
    ∙ ap (λ (t : Option TypeText). slice_get (parameter_nodes (map plain-Param f.params) ++ (optional_type_nodes (option_map plain-TypeText t) ++ (a_block (plain-Block f.body) ∷ []))) k) (sym g)

-- ---- parts counted through a list

abbrev pub arm_places : List Arm → List NodeTree
arm_places xs = arm_nodes (arms_of (map plain-Arm xs))

arm_first : (x : Arm) (xs : List Arm) → arm_places (x ∷ xs) ≡ a_pattern (plain-Pattern x.pattern) ∷ an_expression (plain-Expr x.body) ∷ arm_places xs
arm_first x xs = ap (λ (a : PatternTree × Expression). a_pattern a.0 ∷ an_expression a.1 ∷ arm_places xs) (arm_by_parts x)

arms_from : (xs : List Arm) (i : ℕ) (x : Arm) → i < length xs → x ≡ get_or xs i x → arm_places (drop i xs) ≡ a_pattern (plain-Pattern x.pattern) ∷ an_expression (plain-Expr x.body) ∷ arm_places (drop (i + 1) xs)
arms_from xs i x h e = rw (add-one, drop-cons xs i x h, ← e) (arm_first x (drop (suc i) xs))

pub arm_here : (xs : List Arm) (i k : ℕ) (x : Arm) (r : Option NodeTree) → i < length xs → x ≡ get_or xs i x → k < 2
    → r ≡ slice_get (a_pattern (plain-Pattern x.pattern) ∷ an_expression (plain-Expr x.body) ∷ []) k → r ≡ slice_get (arm_places (drop i xs)) k
arm_here xs i k x r h e less is = is ∙ sym (in_front (a_pattern (plain-Pattern x.pattern) ∷ an_expression (plain-Expr x.body) ∷ []) (arm_places (drop (i + 1) xs)) k less) ∙ ap (λ (l : List NodeTree). slice_get l k) (sym (arms_from xs i x h e))

-- so many arms in front have two nodes each
arms_skip : (xs : List Arm) (i k : ℕ) → slice_get (arm_places xs) (i + i + k) ≡ slice_get (arm_places (drop i xs)) k
arms_skip xs zero k = let same : 0 + 0 + k ≡ k = omega arith in ap (λ n. slice_get (arm_places xs) n) same
arms_skip [] (suc i) k = refl
arms_skip (x ∷ xs) (suc i) k =
    let same : suc i + suc i + k ≡ suc (suc (i + i + k)) = omega arith in
    ap (λ l. slice_get l (suc i + suc i + k)) (arm_first x xs)
    ∙ ap (λ n. slice_get (a_pattern (plain-Pattern x.pattern) ∷ an_expression (plain-Expr x.body) ∷ arm_places xs) n) same ∙ arms_skip xs i k

pub arm_at : (xs : List Arm) (n i k : ℕ) (x : Arm) (r : Option NodeTree) → n ≡ i + i + k → i < length xs → x ≡ get_or xs i x → k < 2
    → r ≡ slice_get (a_pattern (plain-Pattern x.pattern) ∷ an_expression (plain-Expr x.body) ∷ []) k → r ≡ slice_get (arm_places xs) n
arm_at xs n i k x r q h e less is = arm_here xs i k x r h e less is ∙ sym (arms_skip xs i k) ∙ ap (λ m. slice_get (arm_places xs) m) (sym q)

pub arm_past : (xs : List Arm) (n : ℕ) → length xs + length xs ≤ n → None ≡ slice_get (arm_places xs) n
arm_past [] n h = refl
arm_past (x ∷ xs) zero h = absurd (omega (arith, h))
arm_past (x ∷ xs) (suc zero) h = absurd (omega (arith, h))
arm_past (x ∷ xs) (suc (suc n)) h = arm_past xs n (omega (arith, h)) ∙ ap (λ l. slice_get l (suc (suc n))) (sym (arm_first x xs))

abbrev pub variant_places : List EnumVariant → List NodeTree
variant_places xs = variant_nodes (map plain-EnumVariant xs)

variants_from : (xs : List EnumVariant) (i : ℕ) (x : EnumVariant) → i < length xs → x ≡ get_or xs i x → variant_places (drop i xs) ≡ type_nodes (types_of (map plain-TypeText x.types)) ++ variant_places (drop (i + 1) xs)
variants_from xs i x h e = rw (add-one, drop-cons xs i x h, ← e) refl

pub variant_here : (xs : List EnumVariant) (i k : ℕ) (x : EnumVariant) (l : List TypeText) (r : Option NodeTree) → i < length xs → x ≡ get_or xs i x → l ≡ x.types → k < length l
    → r ≡ slice_get (type_nodes (types_of (map plain-TypeText l))) k → r ≡ slice_get (variant_places (drop i xs)) k
variant_here xs i k x l r h e f less is =
    let inside : k < length (type_nodes (types_of (map plain-TypeText l))) = rw (type_count l) less in
    is ∙ sym (in_front _ (variant_places (drop (i + 1) xs)) k inside) ∙ ap (λ (l : List TypeText). slice_get (type_nodes (types_of (map plain-TypeText l)) ++ variant_places (drop (i + 1) xs)) k) f
    ∙ ap (λ (l : List NodeTree). slice_get l k) (sym (variants_from xs i x h e))

pub variant_later : (xs : List EnumVariant) (i k : ℕ) (x : EnumVariant) (l : List TypeText) → i < length xs → x ≡ get_or xs i x → l ≡ x.types → length l ≤ k
    → slice_get (variant_places (drop (i + 1) xs)) (k - length l) ≡ slice_get (variant_places (drop i xs)) k
variant_later xs i k x l h e f more =
    let nodes : List NodeTree = type_nodes (types_of (map plain-TypeText l)) in
    let count : length nodes ≡ length l = type_count l in
    let past : length nodes ≤ k = rw count more in
    ap (λ (n : ℕ). slice_get (variant_places (drop (i + 1) xs)) (k - n)) (sym count) ∙ sym (behind nodes (variant_places (drop (i + 1) xs)) k past)
    ∙ ap (λ (l : List TypeText). slice_get (type_nodes (types_of (map plain-TypeText l)) ++ variant_places (drop (i + 1) xs)) k) f
    ∙ ap (λ (l : List NodeTree). slice_get l k) (sym (variants_from xs i x h e))

-- ---- the way from an item

pub begins : (items : List Item) (k : ℕ) (x : Item) (ks path : List ℕ) → Some x ≡ slice_get items k → ks ≡ path → descend (Some (an_item (plain-Item x))) (drop 0 ks) ≡ node_at (map plain-Item items) k path
begins items k x ks path e f =
    ap (λ (o : Option Item). descend (option_map an_item (option_map plain-Item o)) ks) e
    ∙ ap (λ (o : Option ItemTree). descend (option_map an_item o) ks) (sym (slice_get-map plain-Item items k))
    ∙ ap (λ (o : Option NodeTree). descend o ks) (sym (slice_get-map an_item (map plain-Item items) k))
    ∙ ap (λ (l : List ℕ). descend (slice_get (map an_item (map plain-Item items)) k) l) f
