-- Whether a pattern is a name alone, by its node: each is the equation of that form.
use Rattle.std.proofs.Common.{◌≡◌, ℕ, Bool, false, List, Option, ap, ◌∙◌}
use Rattle.std.specs.Prelude.{◌==◌}
use Rattle.rx_core.specs.declared.types.Kind.{Kind}
use Rattle.rx_tree.specs.declared.tree.Ident.{Ident}
use Rattle.rx_tree.specs.declared.tree.Pattern.{Pattern}
use Rattle.rx_tree.specs.declared.tree.FieldPattern.{FieldPattern}
use Rattle.rx_tree.specs.declared.tree.PatternNode.{PatternNode}
use Rattle.rx_tree.specs.declared.tree.PatternNode.TheVariants as node
use Rattle.rx_tree.specs.Plain.{PatternTree}
use Rattle.rx_tree.specs.PlainOf.{plain-Pattern, plain-PatternNode, pattern_is, pattern_wild, pattern_bind, pattern_int, pattern_bool, pattern_tuple, pattern_variant, pattern_make}
use Rattle.rx_parse_grammar.specs.parser.Blocks.{declares}

by_node : (p : Pattern) (h : ℕ) (n : PatternNode) (t : PatternTree) → p.node ≡ n → plain-PatternNode n p.span ≡ t → declares (plain-Pattern p) h ≡ declares t h
by_node p h n t e k = ap (λ z. declares z h) (pattern_is p.span p.node ∙ ap (λ z. plain-PatternNode z p.span) e ∙ k)

pub declares_bind : (p : Pattern) (h : ℕ) (n : Ident) (m : Bool) → p.node ≡ node.Bind n m → declares (plain-Pattern p) h ≡ (h == 1)
declares_bind p h n m e = by_node p h _ _ e (pattern_bind p.span n m)

pub declares_wild : (p : Pattern) (h : ℕ) → p.node ≡ node.Wild → declares (plain-Pattern p) h ≡ false
declares_wild p h e = by_node p h _ _ e (pattern_wild p.span)

pub declares_int : (p : Pattern) (h : ℕ) (g : Bool) (v : ℕ) (k : Option Kind) → p.node ≡ node.Int g v k → declares (plain-Pattern p) h ≡ false
declares_int p h g v k e = by_node p h _ _ e (pattern_int p.span g v k)

pub declares_bool : (p : Pattern) (h : ℕ) (b : Bool) → p.node ≡ node.Bool b → declares (plain-Pattern p) h ≡ false
declares_bool p h b e = by_node p h _ _ e (pattern_bool p.span b)

pub declares_tuple : (p : Pattern) (h : ℕ) (ps : List Pattern) → p.node ≡ node.Tuple ps → declares (plain-Pattern p) h ≡ false
declares_tuple p h ps e = by_node p h _ _ e (pattern_tuple p.span ps)

pub declares_variant : (p : Pattern) (h : ℕ) (a v : Ident) (ps : List Pattern) → p.node ≡ node.Variant a v ps → declares (plain-Pattern p) h ≡ false
declares_variant p h a v ps e = by_node p h _ _ e (pattern_variant p.span a v ps)

pub declares_make : (p : Pattern) (h : ℕ) (n : Ident) (fs : List FieldPattern) → p.node ≡ node.Make n fs → declares (plain-Pattern p) h ≡ false
declares_make p h n fs e = by_node p h _ _ e (pattern_make p.span n fs)
