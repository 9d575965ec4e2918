-- The span of a statement or an expression of the code is that of its plain tree.
use Rattle.std.proofs.Common.{◌≡◌, Some, refl, ap, ◌∙◌}
use Rattle.rx_core.specs.declared.types.Span.{Span}
use Rattle.rx_tree.specs.declared.tree.Expr.{Expr}
use Rattle.rx_tree.specs.declared.tree.ExprNode.{out-ExprNode}
use Rattle.rx_tree.specs.declared.tree.ExprNode.TheOpen as form
use Rattle.rx_tree.specs.declared.tree.Stmt.{Stmt}
use Rattle.rx_tree.specs.PlainOf.{plain-Expr, plain-Stmt}
use Rattle.rx_tree.specs.Positions.{a_statement, an_expression}
use Rattle.rx_tree.specs.Spans.{expression_span}
use Rattle.rx_tree.proofs.Layers.{Layer, seen, by_layer}
use Rattle.rx_select.proofs.Forms.{span_is}
use Rattle.rx_engine_extraction.specs.Failing.{span_if}

layer_span : (x : Layer) (s : Span) → expression_span (seen x s) ≡ s
layer_span (form.Int v k) s = refl
layer_span (form.Bool b) s = refl
layer_span (form.Tuple l) s = refl
layer_span (form.Var y) s = refl
layer_span (form.Field e n) s = refl
layer_span (form.Part e i) s = refl
layer_span (form.Deref e) s = refl
layer_span (form.Neg e) s = refl
layer_span (form.Not e) s = refl
layer_span (form.Borrow m e) s = refl
layer_span (form.Binary o a b) s = refl
layer_span (form.Assign a b) s = refl
layer_span (form.Update o a b) s = refl
layer_span (form.Call f l) s = refl
layer_span form.NextInput s = refl
layer_span (form.Variant a v l) s = refl
layer_span (form.Make n l) s = refl
layer_span (form.Print e) s = refl
layer_span (form.Block b) s = refl
layer_span (form.If c b o) s = refl
layer_span (form.IfLet p e b o) s = refl
layer_span (form.Match e l) s = refl
layer_span (form.Loop l b) s = refl
layer_span (form.While l c b) s = refl
layer_span (form.WhileLet l p e b) s = refl
layer_span (form.Break l) s = refl
layer_span (form.Continue l) s = refl
layer_span (form.Return o) s = refl

pub expression_placed : (e : Expr) → span_if (Some (an_expression (plain-Expr e))) ≡ e.span
expression_placed e = ap expression_span (by_layer e) ∙ layer_span (out-ExprNode e.node) e.span

pub statement_placed : (a : Stmt) → span_if (Some (a_statement (plain-Stmt a))) ≡ a.span
statement_placed a = span_is a
