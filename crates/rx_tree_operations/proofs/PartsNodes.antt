-- The nodes of an expression's parts are its children.
use Rattle.std.proofs.Common.{◌≡◌, ℕ, zero, suc, ◌+◌, ◌-◌, ◌<◌, ◌≤◌, List, [], ◌∷◌, ◌++◌, length, Option, map, slice_get, refl, ap, ◌∙◌, arith, append-nil}
use Rattle.rx_tree.specs.declared.tree.Expr.{Expr}
use Rattle.rx_tree.specs.declared.tree.FieldExpr.{FieldExpr}
use Rattle.rx_tree.specs.Plain as plain
use Rattle.rx_tree.specs.Plain.{Expression}
use Rattle.rx_tree.specs.PlainOf.{plain-Expr, expressions_of, plain-FieldExpr, field_expressions_of}
use Rattle.rx_tree.specs.Positions.{NodeTree, a_pattern, a_block, an_expression, optional_nodes, expression_nodes, field_nodes, expression_children}
use Rattle.rx_tree_operations.specs.Parts.{PartsOf, parts, part_nodes}

nodes_are : (e : Expression) → part_nodes (parts e) ≡ expression_children e
nodes_are (plain.tuple s es) = append-nil (expression_nodes es)
nodes_are (plain.call s f es) = append-nil (expression_nodes es)
nodes_are (plain.variant s a v plain.no_list) = refl
nodes_are (plain.variant s a v (plain.a_list es)) = append-nil (expression_nodes es)
nodes_are (plain.make s n fs) = append-nil (field_nodes fs)
nodes_are (plain.if s c b o) = ap (λ l. an_expression c ∷ a_block b ∷ l) (append-nil (optional_nodes o))
nodes_are (plain.if_let s p e b o) = ap (λ l. a_pattern p ∷ an_expression e ∷ a_block b ∷ l) (append-nil (optional_nodes o))
nodes_are (plain.return s o) = append-nil (optional_nodes o)
nodes_are _ = refl

pub node_of_part : (x : PartsOf) (e : Expression) (k : ℕ) (r : Option NodeTree) → x ≡ parts e → r ≡ slice_get (part_nodes x) k → r ≡ slice_get (expression_children e) k
node_of_part x e k r h i = i ∙ ap (λ l. slice_get l k) (ap part_nodes h ∙ nodes_are e)

-- ---- lists with more behind them

pub listed_front : (xs : List Expr) (ys : List NodeTree) (k : ℕ) (r : Option NodeTree) → k < length xs → r ≡ slice_get (expression_nodes (expressions_of (map plain-Expr xs))) k
    → r ≡ slice_get (expression_nodes (expressions_of (map plain-Expr xs)) ++ ys) k
listed_front [] ys k r h i = let none : ⊥ = omega arith in absurd none
listed_front (x ∷ xs) ys zero r h i = i
listed_front (x ∷ xs) ys (suc k) r h i = let less : k < length xs = omega arith in listed_front xs ys k r less i

pub listed_behind : (xs : List Expr) (ys : List NodeTree) (k : ℕ) (r : Option NodeTree) → length xs ≤ k → r ≡ slice_get ys (k - length xs)
    → r ≡ slice_get (expression_nodes (expressions_of (map plain-Expr xs)) ++ ys) k
listed_behind [] ys k r h i = let same : k - 0 ≡ k = omega arith in i ∙ ap (λ n. slice_get ys n) same
listed_behind (x ∷ xs) ys zero r h i = let none : ⊥ = omega arith in absurd none
listed_behind (x ∷ xs) ys (suc k) r h i =
    let less : length xs ≤ k = omega arith in
    let same : suc k - length (x ∷ xs) ≡ k - length xs = omega arith in
    listed_behind xs ys k r less (i ∙ ap (λ n. slice_get ys n) same)

pub fielded_front : (xs : List FieldExpr) (ys : List NodeTree) (k : ℕ) (r : Option NodeTree) → k < length xs → r ≡ slice_get (field_nodes (field_expressions_of (map plain-FieldExpr xs))) k
    → r ≡ slice_get (field_nodes (field_expressions_of (map plain-FieldExpr xs)) ++ ys) k
fielded_front [] ys k r h i = let none : ⊥ = omega arith in absurd none
fielded_front (x ∷ xs) ys zero r h i = i
fielded_front (x ∷ xs) ys (suc k) r h i = let less : k < length xs = omega arith in fielded_front xs ys k r less i

pub fielded_behind : (xs : List FieldExpr) (ys : List NodeTree) (k : ℕ) (r : Option NodeTree) → length xs ≤ k → r ≡ slice_get ys (k - length xs)
    → r ≡ slice_get (field_nodes (field_expressions_of (map plain-FieldExpr xs)) ++ ys) k
fielded_behind [] ys k r h i = let same : k - 0 ≡ k = omega arith in i ∙ ap (λ n. slice_get ys n) same
fielded_behind (x ∷ xs) ys zero r h i = let none : ⊥ = omega arith in absurd none
fielded_behind (x ∷ xs) ys (suc k) r h i =
    let less : length xs ≤ k = omega arith in
    let same : suc k - length (x ∷ xs) ≡ k - length xs = omega arith in
    fielded_behind xs ys k r less (i ∙ ap (λ n. slice_get ys n) same)
