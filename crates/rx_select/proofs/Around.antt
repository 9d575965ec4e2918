-- Whether a node of the code has the selected tokens: by the span of its layer.
use Rattle.std.proofs.Common.{◌≡◌, ℕ, ◌+◌, ◌≤◌, ◌<◌, Bool, true, false, List, length, map, Option, Some, None, get_or, slice_get, option_map, refl, ap, sym, subst, ◌∙◌, arith}
use Rattle.std.proofs.Common.{inl, inr}
use Rattle.std.specs.Prelude.{◌⊎◌}
use Rattle.std.proofs.lemmas.Option.{slice_get-map, slice_get_read, slice_get_past}
use Rattle.std.proofs.lemmas.List.{length-map}
use Rattle.rx_core.specs.declared.types.Span.{Span}
use Rattle.rx_tree.specs.declared.tree.Block.{Block, out-Block}
use Rattle.rx_tree.specs.declared.tree.Expr.{Expr}
use Rattle.rx_tree.specs.declared.tree.ExprNode.{out-ExprNode}
use Rattle.rx_tree.specs.declared.tree.ExprNode.TheOpen as form
use Rattle.rx_tree.specs.declared.tree.Stmt.{Stmt}
use Rattle.rx_tree.specs.PlainOf.{plain-Expr, plain-Stmt, plain-Block, plain-Item}
use Rattle.rx_tree.specs.declared.tree.Item.{Item}
use Rattle.rx_tree.specs.Plain.{ItemTree}
use Rattle.rx_tree.specs.Lists.{statements}
use Rattle.rx_tree.proofs.ListsLemmas.{listed-statements_of}
use Rattle.rx_tree.specs.Spans.{expression_span, body_span}
use Rattle.rx_tree.specs.Positions.{NodeTree, an_item, a_block, a_statement, an_expression}
use Rattle.rx_tree.proofs.Layers.{Layer, seen, by_layer}
use Rattle.rx_tree.proofs.Rules.{block_by_parts}
use Rattle.rx_select.specs.declared.places.Places.{Places}
use Rattle.rx_select.specs.Search.{holds, around}
use Rattle.rx_select.specs.Descent.{LongBlock, NoChild}
use Rattle.rx_select.proofs.Choosing.{le_or_lt}
use Rattle.rx_select.proofs.Forms.{span_is}

layer_span : (x : Layer) (s : Span) → expression_span (seen x s) ≡ s
layer_span (form.Int v k) s = refl
layer_span (form.Bool b) s = refl
layer_span (form.Tuple l) s = refl
layer_span (form.Var y) s = refl
layer_span (form.Field e n) s = refl
layer_span (form.Part e i) s = refl
layer_span (form.Deref e) s = refl
layer_span (form.Neg e) s = refl
layer_span (form.Not e) s = refl
layer_span (form.Borrow m e) s = refl
layer_span (form.Binary o a b) s = refl
layer_span (form.Assign a b) s = refl
layer_span (form.Update o a b) s = refl
layer_span (form.Call f l) s = refl
layer_span form.NextInput s = refl
layer_span (form.Variant a v l) s = refl
layer_span (form.Make n l) s = refl
layer_span (form.Print e) s = refl
layer_span (form.Block b) s = refl
layer_span (form.If c b o) s = refl
layer_span (form.IfLet p e b o) s = refl
layer_span (form.Match e l) s = refl
layer_span (form.Loop l b) s = refl
layer_span (form.While l c b) s = refl
layer_span (form.WhileLet l p e b) s = refl
layer_span (form.Break l) s = refl
layer_span (form.Continue l) s = refl
layer_span (form.Return o) s = refl

expression_span_is : (e : Expr) → expression_span (plain-Expr e) ≡ e.span
expression_span_is e = ap expression_span (by_layer e) ∙ layer_span (out-ExprNode e.node) e.span

pub expression_around : (g : Places) (e : Expr) → around g (an_expression (plain-Expr e)) ≡ holds e.span g
expression_around g e = ap (λ s. holds s g) (expression_span_is e)

pub statement_around : (g : Places) (a : Stmt) → around g (a_statement (plain-Stmt a)) ≡ holds a.span g
statement_around g a = ap (λ s. holds s g) (span_is a)

pub block_around : (g : Places) (b : Block) → around g (a_block (plain-Block b)) ≡ holds (out-Block b).span g
block_around g b = ap (λ t. holds (body_span t) g) (block_by_parts b)

pub ruleset around_rules = (expression_around, statement_around, block_around)

-- ---- blocks

pub tail_number : (b : Block) → length (statements (plain-Block b)) ≡ length (out-Block b).stmts
tail_number b = ap (λ t. length (statements t)) (block_by_parts b) ∙ ap length (listed-statements_of (map plain-Stmt (out-Block b).stmts)) ∙ length-map (out-Block b).stmts plain-Stmt

pub long_span : (b : Block) → LongBlock (a_block (plain-Block b)) → (out-Block b).span.start < (out-Block b).span.end
long_span b h = subst (λ t. (body_span t).start < (body_span t).end) (block_by_parts b) h

-- ---- items

abbrev nodes_of : List Item → List NodeTree
nodes_of is = map an_item (map plain-Item is)

item_there : (is : List Item) (k : ℕ) → slice_get (nodes_of is) k ≡ option_map an_item (option_map plain-Item (slice_get is k))
item_there is k = slice_get-map an_item (map plain-Item is) k ∙ ap (λ (o : Option ItemTree). option_map an_item o) (slice_get-map plain-Item is k)

pub item_here : (is : List Item) (k : ℕ) (x : Item) → k < length is → x ≡ get_or is k x → slice_get (nodes_of is) k ≡ Some (an_item (plain-Item x))
item_here is k x h e = item_there is k ∙ ap (λ (o : Option Item). option_map an_item (option_map plain-Item o)) (slice_get_read is (length is) k x refl h e)

item_past : (is : List Item) (k : ℕ) (c : NodeTree) → length is ≤ k → slice_get (nodes_of is) k ≡ Some c → ⊥
item_past is k c h e =
    let q = sym e ∙ (item_there is k ∙ ap (λ (o : Option Item). option_map an_item (option_map plain-Item o)) (slice_get_past is k h)) in
    some_none c q
  where
    some_none : (c : NodeTree) → Some c ≡ None → ⊥
    some_none c e = cc

pub item_count : (is : List Item) → length (nodes_of is) ≡ length is
item_count is = length-map (map plain-Item is) an_item ∙ length-map is plain-Item

-- no item in front has the tokens, nor has this one
pub no_item_more : (g : Places) (is : List Item) (n : ℕ) (x : Item) → n < length is → x ≡ get_or is n x → around g (an_item (plain-Item x)) ≡ false
    → ((k : ℕ) (c : NodeTree) → k < n → slice_get (nodes_of is) k ≡ Some c → around g c ≡ true → ⊥) → (k : ℕ) (c : NodeTree) → k < n + 1 → slice_get (nodes_of is) k ≡ Some c → around g c ≡ true → ⊥
no_item_more g is n x l e f h k c m q t = by (le_or_lt n k)
  where
    by : (n ≤ k) ⊎ (k < n) → ⊥
    by (inr a) = h k c a q t
    by (inl a) =
        let z : k ≡ n = omega (arith, a, m) in
        let u : slice_get (nodes_of is) k ≡ Some (an_item (plain-Item x)) = subst (λ i. slice_get (nodes_of is) i ≡ Some (an_item (plain-Item x))) (sym z) (item_here is n x l e) in
        let v : an_item (plain-Item x) ≡ c = same (an_item (plain-Item x)) c (sym u ∙ q) in
        let w : around g (an_item (plain-Item x)) ≡ true = subst (λ d. around g d ≡ true) (sym v) t in
        true_false (around g (an_item (plain-Item x))) f w
      where
        same : (a b : NodeTree) → Some a ≡ Some b → a ≡ b
        same a b e = cc

        true_false : (b : Bool) → b ≡ false → b ≡ true → ⊥
        true_false b e f = cc

pub no_items : (g : Places) (is : List Item) (n : ℕ) → length is ≤ n → ((k : ℕ) (c : NodeTree) → k < n → slice_get (nodes_of is) k ≡ Some c → around g c ≡ true → ⊥) → NoChild g (nodes_of is)
no_items g is n l h k c q t = by (le_or_lt n k)
  where
    by : (n ≤ k) ⊎ (k < n) → ⊥
    by (inr a) = h k c a q t
    by (inl a) = item_past is k c (omega (arith, l, a)) q
