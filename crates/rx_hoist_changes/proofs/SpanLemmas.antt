-- The spans of blocks and patterns, by one pass over the forms of a pattern's layer.
use Rattle.std.proofs.Common.{◌≡◌, refl, ap, ◌∙◌}
use Rattle.rx_core.specs.declared.types.Span.{Span}
use Rattle.rx_tree.specs.declared.tree.Ident.{Ident}
use Rattle.rx_tree.specs.declared.tree.Pattern.{Pattern}
use Rattle.rx_tree.specs.declared.tree.FieldPattern.{FieldPattern}
use Rattle.rx_tree.specs.declared.tree.PatternNode.{PatternNode, PatternNode-F, out-PatternNode, fold_out-PatternNode, map-PatternNode}
use Rattle.rx_tree.specs.declared.tree.PatternNode.TheOpen as pattern_form
use Rattle.rx_tree.specs.declared.tree.Block.{Block, out-Block}
use Rattle.rx_tree.specs.Plain.{PatternTree}
use Rattle.rx_tree.specs.PlainOf.{plain-Pattern, plain-PatternNode, plain-FieldPattern, plain-Block, pattern_node_step, field_pattern_step, pattern_step}
use Rattle.rx_tree.specs.Spans.{pattern_span, body_span}
use Rattle.rx_tree.proofs.Rules.{pattern_by_node, block_by_parts}

pub body_span_is : (b : Block) → body_span (plain-Block b) ≡ (out-Block b).span
body_span_is b = ap body_span (block_by_parts b)

abbrev PatternLayer : Type 0
PatternLayer = PatternNode-F PatternNode FieldPattern Pattern

abbrev pattern_seen : PatternLayer → Span → PatternTree
pattern_seen x = pattern_node_step (map-PatternNode PatternNode FieldPattern Pattern (Span → PatternTree) (Ident × PatternTree) PatternTree plain-PatternNode plain-FieldPattern plain-Pattern x)

pattern_seen_is : (n : PatternNode) (s : Span) → plain-PatternNode n s ≡ pattern_seen (out-PatternNode n) s
unfolding plain-PatternNode plain-FieldPattern plain-Pattern
pattern_seen_is n s = ap (λ (f : Span → PatternTree). f s) (fold_out-PatternNode (Span → PatternTree) (Ident × PatternTree) PatternTree pattern_node_step field_pattern_step pattern_step n)

layer_pattern_span : (x : PatternLayer) (s : Span) → pattern_span (pattern_seen x s) ≡ s
layer_pattern_span pattern_form.Wild s = refl
layer_pattern_span (pattern_form.Bind x m) s = refl
layer_pattern_span (pattern_form.Int g v k) s = refl
layer_pattern_span (pattern_form.Bool b) s = refl
layer_pattern_span (pattern_form.Tuple l) s = refl
layer_pattern_span (pattern_form.Variant a v l) s = refl
layer_pattern_span (pattern_form.Make n l) s = refl

pub pattern_span_is : (p : Pattern) → pattern_span (plain-Pattern p) ≡ p.span
pattern_span_is p = ap pattern_span (pattern_by_node p ∙ pattern_seen_is p.node p.span) ∙ layer_pattern_span (out-PatternNode p.node) p.span
