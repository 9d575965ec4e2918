-- Types and patterns of different forms are not equal apart from spans, nor lists of different lengths.
use Rattle.std.proofs.Common.{◌≡◌, ℕ, Bool, false, IsTrue, List, [], ◌∷◌, ◌↔◌, Option, refl, ap, sym, ◌∙◌, map, length, suc}
use Rattle.rx_core.specs.declared.types.Span.{Span}
use Rattle.rx_core.specs.declared.types.Kind.{Kind}
use Rattle.rx_tree.specs.declared.tree.Ident.{Ident}
use Rattle.rx_tree.specs.declared.tree.TypeNode.{TypeNode, TypeNode-F, out-TypeNode, roll-TypeNode, roll-out-TypeNode, fold_out-TypeNode, map-TypeNode}
use Rattle.rx_tree.specs.declared.tree.TypeText.{TypeText}
use Rattle.rx_tree.specs.declared.tree.Pattern.{Pattern}
use Rattle.rx_tree.specs.declared.tree.FieldPattern.{FieldPattern}
use Rattle.rx_tree.specs.declared.tree.PatternNode.{PatternNode, PatternNode-F, out-PatternNode, roll-PatternNode, roll-out-PatternNode, fold_out-PatternNode, map-PatternNode}
use Rattle.rx_tree.specs.declared.tree.TypeNode.TheOpen as type_form
use Rattle.rx_tree.specs.declared.tree.TypeNode.TheVariants as type_node
use Rattle.rx_tree.specs.declared.tree.PatternNode.TheOpen as pattern_form
use Rattle.rx_tree.specs.declared.tree.PatternNode.TheVariants as pattern_node
use Rattle.rx_tree.specs.Plain as plain
use Rattle.rx_tree.specs.Plain.{TypeTree, TypeTrees, PatternTree, PatternTrees, FieldPatterns}
use Rattle.rx_tree.specs.PlainOf.{plain-TypeText, plain-TypeNode, types_of, type_node_step, type_step, plain-Pattern, plain-PatternNode, plain-FieldPattern, patterns_of, field_patterns_of, pattern_node_step, field_pattern_step, pattern_step, type_kind, type_bool, type_tuple, type_ref, type_named, pattern_wild, pattern_bind, pattern_int, pattern_bool, pattern_tuple, pattern_variant, pattern_make}
use Rattle.rx_tree.specs.Erase.{erase_type, erase_types, erase_pattern, erase_patterns, erase_field_patterns}
use Rattle.rx_tree.proofs.Rules.{type_by_node, pattern_by_node}

-- ---- types

abbrev LayerTypeNode : Type 0
LayerTypeNode = TypeNode-F TypeNode TypeText

abbrev seen_type : LayerTypeNode → Span → TypeTree
seen_type x = type_node_step (map-TypeNode TypeNode TypeText (Span → TypeTree) TypeTree plain-TypeNode plain-TypeText x)

seen_type_is : (n : TypeNode) (s : Span) → plain-TypeNode n s ≡ seen_type (out-TypeNode n) s
unfolding plain-TypeNode plain-TypeText
seen_type_is n s = ap (λ (f : Span → TypeTree). f s) (fold_out-TypeNode (Span → TypeTree) TypeTree type_node_step type_step n)

abbrev type_apart : TypeText → TypeText → Type 0
type_apart one other = IsTrue false ↔ (erase_type (plain-TypeText one) ≡ erase_type (plain-TypeText other))

type_apart_by : (t : TypeTree) (it : TypeText) → ((x : LayerTypeNode) → out-TypeNode it.node ≡ x → erase_type t ≡ erase_type (seen_type x it.span) → ⊥) → IsTrue false ↔ (erase_type t ≡ erase_type (plain-TypeText it))
type_apart_by t it f = (λ e. cc, λ e. absurd (f (out-TypeNode it.node) refl (e ∙ ap erase_type (type_by_node it ∙ seen_type_is it.node it.span))))

type_kind_at : (s : Span) (y0 : Kind) (x : LayerTypeNode) (t : Span) → ((x0 : Kind) → x ≡ (type_form.Kind x0) → ⊥) → erase_type (plain.TypeTree.kind_type s y0) ≡ erase_type (seen_type x t) → ⊥
type_kind_at s y0 (type_form.Kind x0) t h e = h x0 refl
type_kind_at s y0 _ t h e = cc

pub type_kind_apart : (one it : TypeText) (z0 : Kind) → one.node ≡ (type_node.Kind z0) → ((x0 : Kind) → it.node ≡ (type_node.Kind x0) → ⊥) → type_apart one it
type_kind_apart one it z0 o h = rw (type_by_node one, o, type_kind) (type_apart_by (plain.TypeTree.kind_type one.span z0) it (λ x o. type_kind_at one.span z0 x it.span (λ x0 e. h x0 (sym (roll-out-TypeNode it.node) ∙ ap roll-TypeNode (o ∙ e) ∙ (type_node.rolls-Kind x0)))))

type_bool_at : (s : Span) (x : LayerTypeNode) (t : Span) → (x ≡ type_form.Bool → ⊥) → erase_type (plain.TypeTree.bool_type s) ≡ erase_type (seen_type x t) → ⊥
type_bool_at s type_form.Bool t h e = h refl
type_bool_at s _ t h e = cc

pub type_bool_apart : (one it : TypeText) → one.node ≡ type_node.Bool → (it.node ≡ type_node.Bool → ⊥) → type_apart one it
type_bool_apart one it o h = rw (type_by_node one, o, type_bool) (type_apart_by (plain.TypeTree.bool_type one.span) it (λ x o. type_bool_at one.span x it.span (λ e. h (sym (roll-out-TypeNode it.node) ∙ ap roll-TypeNode (o ∙ e) ∙ type_node.rolls-Bool))))

type_tuple_at : (s : Span) (y0 : TypeTrees) (x : LayerTypeNode) (t : Span) → ((x0 : List TypeText) → x ≡ (type_form.Tuple x0) → ⊥) → erase_type (plain.TypeTree.tuple_type s y0) ≡ erase_type (seen_type x t) → ⊥
type_tuple_at s y0 (type_form.Tuple x0) t h e = h x0 refl
type_tuple_at s y0 _ t h e = cc

pub type_tuple_apart : (one it : TypeText) (z0 : List TypeText) → one.node ≡ (type_node.Tuple z0) → ((x0 : List TypeText) → it.node ≡ (type_node.Tuple x0) → ⊥) → type_apart one it
type_tuple_apart one it z0 o h = rw (type_by_node one, o, type_tuple) (type_apart_by (plain.TypeTree.tuple_type one.span (types_of (map plain-TypeText z0))) it (λ x o. type_tuple_at one.span (types_of (map plain-TypeText z0)) x it.span (λ x0 e. h x0 (sym (roll-out-TypeNode it.node) ∙ ap roll-TypeNode (o ∙ e) ∙ (type_node.rolls-Tuple x0)))))

type_ref_at : (s : Span) (y0 : Option Ident) (y1 : Bool) (y2 : TypeTree) (x : LayerTypeNode) (t : Span) → ((x0 : Option Ident) (x1 : Bool) (x2 : TypeText) → x ≡ (type_form.Ref x0 x1 x2) → ⊥) → erase_type (plain.TypeTree.ref_type s y0 y1 y2) ≡ erase_type (seen_type x t) → ⊥
type_ref_at s y0 y1 y2 (type_form.Ref x0 x1 x2) t h e = h x0 x1 x2 refl
type_ref_at s y0 y1 y2 _ t h e = cc

pub type_ref_apart : (one it : TypeText) (z0 : Option Ident) (z1 : Bool) (z2 : TypeText) → one.node ≡ (type_node.Ref z0 z1 z2) → ((x0 : Option Ident) (x1 : Bool) (x2 : TypeText) → it.node ≡ (type_node.Ref x0 x1 x2) → ⊥) → type_apart one it
type_ref_apart one it z0 z1 z2 o h = rw (type_by_node one, o, type_ref) (type_apart_by (plain.TypeTree.ref_type one.span z0 z1 (plain-TypeText z2)) it (λ x o. type_ref_at one.span z0 z1 (plain-TypeText z2) x it.span (λ x0 x1 x2 e. h x0 x1 x2 (sym (roll-out-TypeNode it.node) ∙ ap roll-TypeNode (o ∙ e) ∙ (type_node.rolls-Ref x0 x1 x2)))))

type_named_at : (s : Span) (y0 : Ident) (y1 : Option (List (Option Ident))) (x : LayerTypeNode) (t : Span) → ((x0 : Ident) (x1 : Option (List (Option Ident))) → x ≡ (type_form.Named x0 x1) → ⊥) → erase_type (plain.TypeTree.named_type s y0 y1) ≡ erase_type (seen_type x t) → ⊥
type_named_at s y0 y1 (type_form.Named x0 x1) t h e = h x0 x1 refl
type_named_at s y0 y1 _ t h e = cc

pub type_named_apart : (one it : TypeText) (z0 : Ident) (z1 : Option (List (Option Ident))) → one.node ≡ (type_node.Named z0 z1) → ((x0 : Ident) (x1 : Option (List (Option Ident))) → it.node ≡ (type_node.Named x0 x1) → ⊥) → type_apart one it
type_named_apart one it z0 z1 o h = rw (type_by_node one, o, type_named) (type_apart_by (plain.TypeTree.named_type one.span z0 z1) it (λ x o. type_named_at one.span z0 z1 x it.span (λ x0 x1 e. h x0 x1 (sym (roll-out-TypeNode it.node) ∙ ap roll-TypeNode (o ∙ e) ∙ (type_node.rolls-Named x0 x1)))))

abbrev pub types_seen : List TypeText → TypeTrees
types_seen xs = erase_types (types_of (map plain-TypeText xs))

types_length : (xs ys : List TypeText) → types_seen xs ≡ types_seen ys → length xs ≡ length ys
types_length [] [] e = refl
types_length [] (y ∷ ys) e = cc
types_length (x ∷ xs) [] e = cc
types_length (x ∷ xs) (y ∷ ys) e = let r : types_seen xs ≡ types_seen ys = cc in ap suc (types_length xs ys r)

pub types_lengths : (xs ys : List TypeText) → (length xs ≡ length ys → ⊥) → IsTrue false ↔ (types_seen xs ≡ types_seen ys)
types_lengths xs ys h = (λ e. cc, λ e. absurd (h (types_length xs ys e)))

-- ---- patterns

abbrev LayerPatternNode : Type 0
LayerPatternNode = PatternNode-F PatternNode FieldPattern Pattern

abbrev seen_pattern : LayerPatternNode → Span → PatternTree
seen_pattern x = pattern_node_step (map-PatternNode PatternNode FieldPattern Pattern (Span → PatternTree) (Ident × PatternTree) PatternTree plain-PatternNode plain-FieldPattern plain-Pattern x)

seen_pattern_is : (n : PatternNode) (s : Span) → plain-PatternNode n s ≡ seen_pattern (out-PatternNode n) s
unfolding plain-PatternNode plain-FieldPattern plain-Pattern
seen_pattern_is n s = ap (λ (f : Span → PatternTree). f s) (fold_out-PatternNode (Span → PatternTree) (Ident × PatternTree) PatternTree pattern_node_step field_pattern_step pattern_step n)

abbrev pattern_apart : Pattern → Pattern → Type 0
pattern_apart one other = IsTrue false ↔ (erase_pattern (plain-Pattern one) ≡ erase_pattern (plain-Pattern other))

pattern_apart_by : (t : PatternTree) (it : Pattern) → ((x : LayerPatternNode) → out-PatternNode it.node ≡ x → erase_pattern t ≡ erase_pattern (seen_pattern x it.span) → ⊥) → IsTrue false ↔ (erase_pattern t ≡ erase_pattern (plain-Pattern it))
pattern_apart_by t it f = (λ e. cc, λ e. absurd (f (out-PatternNode it.node) refl (e ∙ ap erase_pattern (pattern_by_node it ∙ seen_pattern_is it.node it.span))))

pattern_wild_at : (s : Span) (x : LayerPatternNode) (t : Span) → (x ≡ pattern_form.Wild → ⊥) → erase_pattern (plain.PatternTree.wild s) ≡ erase_pattern (seen_pattern x t) → ⊥
pattern_wild_at s pattern_form.Wild t h e = h refl
pattern_wild_at s _ t h e = cc

pub pattern_wild_apart : (one it : Pattern) → one.node ≡ pattern_node.Wild → (it.node ≡ pattern_node.Wild → ⊥) → pattern_apart one it
pattern_wild_apart one it o h = rw (pattern_by_node one, o, pattern_wild) (pattern_apart_by (plain.PatternTree.wild one.span) it (λ x o. pattern_wild_at one.span x it.span (λ e. h (sym (roll-out-PatternNode it.node) ∙ ap roll-PatternNode (o ∙ e) ∙ pattern_node.rolls-Wild))))

pattern_bind_at : (s : Span) (y0 : Ident) (y1 : Bool) (x : LayerPatternNode) (t : Span) → ((x0 : Ident) (x1 : Bool) → x ≡ (pattern_form.Bind x0 x1) → ⊥) → erase_pattern (plain.PatternTree.bind s y0 y1) ≡ erase_pattern (seen_pattern x t) → ⊥
pattern_bind_at s y0 y1 (pattern_form.Bind x0 x1) t h e = h x0 x1 refl
pattern_bind_at s y0 y1 _ t h e = cc

pub pattern_bind_apart : (one it : Pattern) (z0 : Ident) (z1 : Bool) → one.node ≡ (pattern_node.Bind z0 z1) → ((x0 : Ident) (x1 : Bool) → it.node ≡ (pattern_node.Bind x0 x1) → ⊥) → pattern_apart one it
pattern_bind_apart one it z0 z1 o h = rw (pattern_by_node one, o, pattern_bind) (pattern_apart_by (plain.PatternTree.bind one.span z0 z1) it (λ x o. pattern_bind_at one.span z0 z1 x it.span (λ x0 x1 e. h x0 x1 (sym (roll-out-PatternNode it.node) ∙ ap roll-PatternNode (o ∙ e) ∙ (pattern_node.rolls-Bind x0 x1)))))

pattern_int_at : (s : Span) (y0 : Bool) (y1 : ℕ) (y2 : Option Kind) (x : LayerPatternNode) (t : Span) → ((x0 : Bool) (x1 : ℕ) (x2 : Option Kind) → x ≡ (pattern_form.Int x0 x1 x2) → ⊥) → erase_pattern (plain.PatternTree.int_pattern s y0 y1 y2) ≡ erase_pattern (seen_pattern x t) → ⊥
pattern_int_at s y0 y1 y2 (pattern_form.Int x0 x1 x2) t h e = h x0 x1 x2 refl
pattern_int_at s y0 y1 y2 _ t h e = cc

pub pattern_int_apart : (one it : Pattern) (z0 : Bool) (z1 : ℕ) (z2 : Option Kind) → one.node ≡ (pattern_node.Int z0 z1 z2) → ((x0 : Bool) (x1 : ℕ) (x2 : Option Kind) → it.node ≡ (pattern_node.Int x0 x1 x2) → ⊥) → pattern_apart one it
pattern_int_apart one it z0 z1 z2 o h = rw (pattern_by_node one, o, pattern_int) (pattern_apart_by (plain.PatternTree.int_pattern one.span z0 z1 z2) it (λ x o. pattern_int_at one.span z0 z1 z2 x it.span (λ x0 x1 x2 e. h x0 x1 x2 (sym (roll-out-PatternNode it.node) ∙ ap roll-PatternNode (o ∙ e) ∙ (pattern_node.rolls-Int x0 x1 x2)))))

pattern_bool_at : (s : Span) (y0 : Bool) (x : LayerPatternNode) (t : Span) → ((x0 : Bool) → x ≡ (pattern_form.Bool x0) → ⊥) → erase_pattern (plain.PatternTree.bool_pattern s y0) ≡ erase_pattern (seen_pattern x t) → ⊥
pattern_bool_at s y0 (pattern_form.Bool x0) t h e = h x0 refl
pattern_bool_at s y0 _ t h e = cc

pub pattern_bool_apart : (one it : Pattern) (z0 : Bool) → one.node ≡ (pattern_node.Bool z0) → ((x0 : Bool) → it.node ≡ (pattern_node.Bool x0) → ⊥) → pattern_apart one it
pattern_bool_apart one it z0 o h = rw (pattern_by_node one, o, pattern_bool) (pattern_apart_by (plain.PatternTree.bool_pattern one.span z0) it (λ x o. pattern_bool_at one.span z0 x it.span (λ x0 e. h x0 (sym (roll-out-PatternNode it.node) ∙ ap roll-PatternNode (o ∙ e) ∙ (pattern_node.rolls-Bool x0)))))

pattern_tuple_at : (s : Span) (y0 : PatternTrees) (x : LayerPatternNode) (t : Span) → ((x0 : List Pattern) → x ≡ (pattern_form.Tuple x0) → ⊥) → erase_pattern (plain.PatternTree.tuple_pattern s y0) ≡ erase_pattern (seen_pattern x t) → ⊥
pattern_tuple_at s y0 (pattern_form.Tuple x0) t h e = h x0 refl
pattern_tuple_at s y0 _ t h e = cc

pub pattern_tuple_apart : (one it : Pattern) (z0 : List Pattern) → one.node ≡ (pattern_node.Tuple z0) → ((x0 : List Pattern) → it.node ≡ (pattern_node.Tuple x0) → ⊥) → pattern_apart one it
pattern_tuple_apart one it z0 o h = rw (pattern_by_node one, o, pattern_tuple) (pattern_apart_by (plain.PatternTree.tuple_pattern one.span (patterns_of (map plain-Pattern z0))) it (λ x o. pattern_tuple_at one.span (patterns_of (map plain-Pattern z0)) x it.span (λ x0 e. h x0 (sym (roll-out-PatternNode it.node) ∙ ap roll-PatternNode (o ∙ e) ∙ (pattern_node.rolls-Tuple x0)))))

pattern_variant_at : (s : Span) (y0 : Ident) (y1 : Ident) (y2 : PatternTrees) (x : LayerPatternNode) (t : Span) → ((x0 : Ident) (x1 : Ident) (x2 : List Pattern) → x ≡ (pattern_form.Variant x0 x1 x2) → ⊥) → erase_pattern (plain.PatternTree.variant_pattern s y0 y1 y2) ≡ erase_pattern (seen_pattern x t) → ⊥
pattern_variant_at s y0 y1 y2 (pattern_form.Variant x0 x1 x2) t h e = h x0 x1 x2 refl
pattern_variant_at s y0 y1 y2 _ t h e = cc

pub pattern_variant_apart : (one it : Pattern) (z0 : Ident) (z1 : Ident) (z2 : List Pattern) → one.node ≡ (pattern_node.Variant z0 z1 z2) → ((x0 : Ident) (x1 : Ident) (x2 : List Pattern) → it.node ≡ (pattern_node.Variant x0 x1 x2) → ⊥) → pattern_apart one it
pattern_variant_apart one it z0 z1 z2 o h = rw (pattern_by_node one, o, pattern_variant) (pattern_apart_by (plain.PatternTree.variant_pattern one.span z0 z1 (patterns_of (map plain-Pattern z2))) it (λ x o. pattern_variant_at one.span z0 z1 (patterns_of (map plain-Pattern z2)) x it.span (λ x0 x1 x2 e. h x0 x1 x2 (sym (roll-out-PatternNode it.node) ∙ ap roll-PatternNode (o ∙ e) ∙ (pattern_node.rolls-Variant x0 x1 x2)))))

pattern_make_at : (s : Span) (y0 : Ident) (y1 : FieldPatterns) (x : LayerPatternNode) (t : Span) → ((x0 : Ident) (x1 : List FieldPattern) → x ≡ (pattern_form.Make x0 x1) → ⊥) → erase_pattern (plain.PatternTree.make_pattern s y0 y1) ≡ erase_pattern (seen_pattern x t) → ⊥
pattern_make_at s y0 y1 (pattern_form.Make x0 x1) t h e = h x0 x1 refl
pattern_make_at s y0 y1 _ t h e = cc

pub pattern_make_apart : (one it : Pattern) (z0 : Ident) (z1 : List FieldPattern) → one.node ≡ (pattern_node.Make z0 z1) → ((x0 : Ident) (x1 : List FieldPattern) → it.node ≡ (pattern_node.Make x0 x1) → ⊥) → pattern_apart one it
pattern_make_apart one it z0 z1 o h = rw (pattern_by_node one, o, pattern_make) (pattern_apart_by (plain.PatternTree.make_pattern one.span z0 (field_patterns_of (map plain-FieldPattern z1))) it (λ x o. pattern_make_at one.span z0 (field_patterns_of (map plain-FieldPattern z1)) x it.span (λ x0 x1 e. h x0 x1 (sym (roll-out-PatternNode it.node) ∙ ap roll-PatternNode (o ∙ e) ∙ (pattern_node.rolls-Make x0 x1)))))

abbrev pub patterns_seen : List Pattern → PatternTrees
patterns_seen xs = erase_patterns (patterns_of (map plain-Pattern xs))

patterns_length : (xs ys : List Pattern) → patterns_seen xs ≡ patterns_seen ys → length xs ≡ length ys
patterns_length [] [] e = refl
patterns_length [] (y ∷ ys) e = cc
patterns_length (x ∷ xs) [] e = cc
patterns_length (x ∷ xs) (y ∷ ys) e = let r : patterns_seen xs ≡ patterns_seen ys = cc in ap suc (patterns_length xs ys r)

pub patterns_lengths : (xs ys : List Pattern) → (length xs ≡ length ys → ⊥) → IsTrue false ↔ (patterns_seen xs ≡ patterns_seen ys)
patterns_lengths xs ys h = (λ e. cc, λ e. absurd (h (patterns_length xs ys e)))

abbrev pub field_patterns_seen : List FieldPattern → FieldPatterns
field_patterns_seen xs = erase_field_patterns (field_patterns_of (map plain-FieldPattern xs))

field_patterns_length : (xs ys : List FieldPattern) → field_patterns_seen xs ≡ field_patterns_seen ys → length xs ≡ length ys
field_patterns_length [] [] e = refl
field_patterns_length [] (y ∷ ys) e = cc
field_patterns_length (x ∷ xs) [] e = cc
field_patterns_length (x ∷ xs) (y ∷ ys) e = let r : field_patterns_seen xs ≡ field_patterns_seen ys = cc in ap suc (field_patterns_length xs ys r)

pub field_patterns_lengths : (xs ys : List FieldPattern) → (length xs ≡ length ys → ⊥) → IsTrue false ↔ (field_patterns_seen xs ≡ field_patterns_seen ys)
field_patterns_lengths xs ys h = (λ e. cc, λ e. absurd (h (field_patterns_length xs ys e)))
