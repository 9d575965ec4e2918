-- What is known of a part of the code's tree before it is walked: by one pass over the forms of a node's layer.
use Rattle.std.proofs.Common.{◌≡◌, ℕ, Bool, List, None, refl, ap, ◌∙◌}
use Rattle.rx_core.specs.declared.types.Span.{Span}
use Rattle.rx_tree.specs.declared.tree.Ident.{Ident}
use Rattle.rx_tree.specs.declared.tree.Expr.{Expr}
use Rattle.rx_tree.specs.declared.tree.Pattern.{Pattern}
use Rattle.rx_tree.specs.declared.tree.FieldPattern.{FieldPattern}
use Rattle.rx_tree.specs.declared.tree.PatternNode.{PatternNode, PatternNode-F, out-PatternNode, fold_out-PatternNode, map-PatternNode}
use Rattle.rx_tree.specs.declared.tree.PatternNode.TheOpen as pattern_form
use Rattle.rx_tree.specs.declared.tree.Block.{Block, out-Block}
use Rattle.rx_tree.specs.declared.tree.ExprNode.{ExprNode, out-ExprNode}
use Rattle.rx_tree.specs.declared.tree.ExprNode.TheOpen as form
use Rattle.rx_tree.specs.declared.tree.ExprNode.TheVariants as node
use Rattle.rx_tree.specs.Plain.{PatternTree, Expression}
use Rattle.rx_tree.specs.PlainOf.{plain-Expr, plain-Pattern, plain-PatternNode, plain-FieldPattern, plain-Block, pattern_node_step, field_pattern_step, pattern_step}
use Rattle.rx_tree.specs.Spans.{expression_span, pattern_span, body_span}
use Rattle.rx_tree.proofs.Layers.{Layer, seen, back, by_layer}
use Rattle.rx_tree.proofs.Rules.{pattern_by_node, block_by_parts}
use Rattle.rx_typed.specs.declared.nodes.Site.{Site}
use Rattle.rx_typed.specs.Named.{node_of, pattern_node, body_node}
use Rattle.rx_typed.specs.Naming.{Cursor, of_pattern, of_expression, of_body, waits_in}
use Rattle.rx_typeck_elaborate_parts.proofs.Numbered.{upcoming, expression_numbered, pattern_numbered, body_numbered}

-- ---- spans

layer_span : (x : Layer) (s : Span) → expression_span (seen x s) ≡ s
layer_span (form.Int v k) s = refl
layer_span (form.Bool b) s = refl
layer_span (form.Tuple l) s = refl
layer_span (form.Var y) s = refl
layer_span (form.Field e n) s = refl
layer_span (form.Part e i) s = refl
layer_span (form.Deref e) s = refl
layer_span (form.Neg e) s = refl
layer_span (form.Not e) s = refl
layer_span (form.Borrow m e) s = refl
layer_span (form.Binary o a b) s = refl
layer_span (form.Assign a b) s = refl
layer_span (form.Update o a b) s = refl
layer_span (form.Call f l) s = refl
layer_span form.NextInput s = refl
layer_span (form.Variant a v l) s = refl
layer_span (form.Make n l) s = refl
layer_span (form.Print e) s = refl
layer_span (form.Block b) s = refl
layer_span (form.If c b o) s = refl
layer_span (form.IfLet p e b o) s = refl
layer_span (form.Match e l) s = refl
layer_span (form.Loop l b) s = refl
layer_span (form.While l c b) s = refl
layer_span (form.WhileLet l p e b) s = refl
layer_span (form.Break l) s = refl
layer_span (form.Continue l) s = refl
layer_span (form.Return o) s = refl

pub span_is : (e : Expr) → expression_span (plain-Expr e) ≡ e.span
span_is e = ap expression_span (by_layer e) ∙ layer_span (out-ExprNode e.node) e.span

abbrev PatternLayer : Type 0
PatternLayer = PatternNode-F PatternNode FieldPattern Pattern

abbrev pattern_seen : PatternLayer → Span → PatternTree
pattern_seen x = pattern_node_step (map-PatternNode PatternNode FieldPattern Pattern (Span → PatternTree) (Ident × PatternTree) PatternTree plain-PatternNode plain-FieldPattern plain-Pattern x)

pattern_seen_is : (n : PatternNode) (s : Span) → plain-PatternNode n s ≡ pattern_seen (out-PatternNode n) s
unfolding plain-PatternNode plain-FieldPattern plain-Pattern
pattern_seen_is n s = ap (λ (f : Span → PatternTree). f s) (fold_out-PatternNode (Span → PatternTree) (Ident × PatternTree) PatternTree pattern_node_step field_pattern_step pattern_step n)

layer_pattern_span : (x : PatternLayer) (s : Span) → pattern_span (pattern_seen x s) ≡ s
layer_pattern_span pattern_form.Wild s = refl
layer_pattern_span (pattern_form.Bind x m) s = refl
layer_pattern_span (pattern_form.Int g v k) s = refl
layer_pattern_span (pattern_form.Bool b) s = refl
layer_pattern_span (pattern_form.Tuple l) s = refl
layer_pattern_span (pattern_form.Variant a v l) s = refl
layer_pattern_span (pattern_form.Make n l) s = refl

pub pattern_span_is : (p : Pattern) → pattern_span (plain-Pattern p) ≡ p.span
pattern_span_is p = ap pattern_span (pattern_by_node p ∙ pattern_seen_is p.node p.span) ∙ layer_pattern_span (out-PatternNode p.node) p.span

pub body_span_is : (b : Block) → body_span (plain-Block b) ≡ (out-Block b).span
body_span_is b = ap body_span (block_by_parts b)

-- ---- the next node

pub next_expression : (m : Bool) (t : Site) (e : Expr) (c : Cursor) → node_of (of_expression m t (plain-Expr e) c).0 ≡ upcoming c e.span t
next_expression m t e c = expression_numbered m t (plain-Expr e) c ∙ ap (λ s. upcoming c s t) (span_is e)

pub next_pattern : (p : Pattern) (c : Cursor) → pattern_node (of_pattern (plain-Pattern p) c).0 ≡ upcoming c p.span Site.Value
next_pattern p c = pattern_numbered (plain-Pattern p) c ∙ ap (λ s. upcoming c s Site.Value) (pattern_span_is p)

pub next_body : (t : Site) (b : Block) (c : Cursor) → body_node (of_body t (plain-Block b) c).0 ≡ upcoming c (out-Block b).span t
next_body t b c = body_numbered t (plain-Block b) c ∙ ap (λ s. upcoming c s t) (body_span_is b)

-- ---- what is no variable waits for no type

abbrev NoVar : ExprNode → Type 0
NoVar n = (y : List ℕ) → n ≡ node.Var y → ⊥

abbrev LayerNoVar : Layer → Type 0
LayerNoVar l = (y : List ℕ) → l ≡ form.Var y → ⊥

layer_waits : (l : Layer) (s : Span) (x : ℕ) (c : Cursor) → LayerNoVar l → waits_in (seen l s) x c ≡ None
layer_waits (form.Var y) s x c v = absurd (v y refl)
layer_waits _ s x c v = refl

pub nothing_waits : (e : Expr) (x : ℕ) (c : Cursor) → NoVar e.node → waits_in (plain-Expr e) x c ≡ None
nothing_waits e x c v = ap (λ (a : Expression). waits_in a x c) (by_layer e) ∙ layer_waits (out-ExprNode e.node) e.span x c (λ y q. v y (back e.node _ q ∙ node.rolls-Var y))
