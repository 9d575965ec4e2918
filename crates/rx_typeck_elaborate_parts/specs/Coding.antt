-- Codes by which proofs tell cursors apart: a tree of a pattern or type is coded as the tree of the code that it is of.
use Rattle.std.specs.Prelude.{◌≡◌, ℕ, List, [], ◌∷◌, map}
use Rattle.std.proofs.Common.{refl, ap, ◌∙◌}
use Rattle.std.specs.Coded.{Coded, code_by, coded×, coded_ℕ, coded_list}
use Rattle.rx_tree.specs.declared.tree.TypeText.{TypeText}
use Rattle.rx_tree.specs.declared.tree.TypeNode.TheVariants as type_node
use Rattle.rx_tree.specs.declared.tree.Pattern.{Pattern}
use Rattle.rx_tree.specs.declared.tree.PatternNode.TheVariants as pattern_node
use Rattle.rx_tree.specs.declared.tree.FieldPattern.{FieldPattern}
use Rattle.rx_tree.specs.contracts.tree.TypeText as text
use Rattle.rx_tree.specs.contracts.tree.Pattern as pattern
use Rattle.rx_tree.specs.Plain as plain
use Rattle.rx_tree.specs.Plain.{TypeTree, TypeTrees, PatternTree, PatternTrees, FieldPatterns}
use Rattle.rx_tree.specs.PlainOf.{plain-TypeText, plain-Pattern, plain-FieldPattern, types_of, patterns_of, field_patterns_of, type_is, pattern_is, field_pattern_is}
use Rattle.rx_tree.specs.PlainOf.{type_kind, type_bool, type_tuple, type_ref, type_named, pattern_wild, pattern_bind, pattern_int, pattern_bool, pattern_tuple, pattern_variant, pattern_make}
use Rattle.rx_resolve_names.specs.declared.resolved.NodeNames.{NodeNames}
use Rattle.rx_resolve_names.specs.contracts.resolved.NodeNames as entry
use Rattle.rx_typed.specs.Naming.{Annotation}

-- ---- types

abbrev mutual
  pub text_of : TypeTree → TypeText
  text_of (plain.kind_type s k) = record { span = s; node = type_node.Kind k }
  text_of (plain.bool_type s) = record { span = s; node = type_node.Bool }
  text_of (plain.tuple_type s ts) = record { span = s; node = type_node.Tuple (texts_of ts) }
  text_of (plain.ref_type s l m t) = record { span = s; node = type_node.Ref l m (text_of t) }
  text_of (plain.named_type s x ls) = record { span = s; node = type_node.Named x ls }

  pub texts_of : TypeTrees → List TypeText
  texts_of plain.no_type = []
  texts_of (plain.type_and t ts) = text_of t ∷ texts_of ts

mutual
  pub text_back : (t : TypeTree) → plain-TypeText (text_of t) ≡ t
  text_back (plain.kind_type s k) = type_is s (type_node.Kind k) ∙ type_kind s k
  text_back (plain.bool_type s) = type_is s type_node.Bool ∙ type_bool s
  text_back (plain.tuple_type s ts) = type_is s (type_node.Tuple (texts_of ts)) ∙ type_tuple s (texts_of ts) ∙ ap (plain.tuple_type s) (texts_back ts)
  text_back (plain.ref_type s l m t) = type_is s (type_node.Ref l m (text_of t)) ∙ type_ref s l m (text_of t) ∙ ap (plain.ref_type s l m) (text_back t)
  text_back (plain.named_type s x ls) = type_is s (type_node.Named x ls) ∙ type_named s x ls

  pub texts_back : (ts : TypeTrees) → types_of (map plain-TypeText (texts_of ts)) ≡ ts
  texts_back plain.no_type = refl
  texts_back (plain.type_and t ts) = λ i. plain.type_and (text_back t i) (texts_back ts i)

-- ---- patterns

abbrev mutual
  pub code_of : PatternTree → Pattern
  code_of (plain.wild s) = record { span = s; node = pattern_node.Wild }
  code_of (plain.bind s x m) = record { span = s; node = pattern_node.Bind x m }
  code_of (plain.int_pattern s g v k) = record { span = s; node = pattern_node.Int g v k }
  code_of (plain.bool_pattern s b) = record { span = s; node = pattern_node.Bool b }
  code_of (plain.tuple_pattern s ps) = record { span = s; node = pattern_node.Tuple (codes_of ps) }
  code_of (plain.variant_pattern s a v ps) = record { span = s; node = pattern_node.Variant a v (codes_of ps) }
  code_of (plain.make_pattern s x fs) = record { span = s; node = pattern_node.Make x (field_codes_of fs) }

  pub codes_of : PatternTrees → List Pattern
  codes_of plain.no_pattern = []
  codes_of (plain.pattern_and p ps) = code_of p ∷ codes_of ps

  pub field_codes_of : FieldPatterns → List FieldPattern
  field_codes_of plain.no_field_pattern = []
  field_codes_of (plain.field_pattern_and x p fs) = record { field = x; pattern = code_of p } ∷ field_codes_of fs

mutual
  pub code_back : (p : PatternTree) → plain-Pattern (code_of p) ≡ p
  code_back (plain.wild s) = pattern_is s pattern_node.Wild ∙ pattern_wild s
  code_back (plain.bind s x m) = pattern_is s (pattern_node.Bind x m) ∙ pattern_bind s x m
  code_back (plain.int_pattern s g v k) = pattern_is s (pattern_node.Int g v k) ∙ pattern_int s g v k
  code_back (plain.bool_pattern s b) = pattern_is s (pattern_node.Bool b) ∙ pattern_bool s b
  code_back (plain.tuple_pattern s ps) = pattern_is s (pattern_node.Tuple (codes_of ps)) ∙ pattern_tuple s (codes_of ps) ∙ ap (plain.tuple_pattern s) (codes_back ps)
  code_back (plain.variant_pattern s a v ps) = pattern_is s (pattern_node.Variant a v (codes_of ps)) ∙ pattern_variant s a v (codes_of ps) ∙ ap (plain.variant_pattern s a v) (codes_back ps)
  code_back (plain.make_pattern s x fs) = pattern_is s (pattern_node.Make x (field_codes_of fs)) ∙ pattern_make s x (field_codes_of fs) ∙ ap (plain.make_pattern s x) (field_codes_back fs)

  pub codes_back : (ps : PatternTrees) → patterns_of (map plain-Pattern (codes_of ps)) ≡ ps
  codes_back plain.no_pattern = refl
  codes_back (plain.pattern_and p ps) = λ i. plain.pattern_and (code_back p i) (codes_back ps i)

  pub field_codes_back : (fs : FieldPatterns) → field_patterns_of (map plain-FieldPattern (field_codes_of fs)) ≡ fs
  field_codes_back plain.no_field_pattern = refl
  field_codes_back (plain.field_pattern_and x p fs) =
      let e = field_pattern_is x (code_of p) in
      λ i. plain.field_pattern_and (e i).0 ((ap (λ f. f.1) e ∙ code_back p) i) (field_codes_back fs i)

-- ---- annotations

abbrev pub coded_type : Coded TypeTree
coded_type = code_by TypeText text.the_row.coded text_of plain-TypeText text_back

abbrev pub coded_pattern : Coded PatternTree
coded_pattern = code_by Pattern pattern.the_row.coded code_of plain-Pattern code_back

abbrev pub coded_annotation : Coded Annotation
coded_annotation =
    code_by (PatternTree × (TypeTree × (ℕ × List NodeNames)))
    (coded× coded_pattern (coded× coded_type (coded× coded_ℕ (coded_list entry.the_row.coded))))
    (λ a. (a.pattern, (a.typ, (a.variable, a.names)))) (λ t. record { pattern = t.0; typ = t.1.0; variable = t.1.1.0; names = t.1.1.1 }) (λ _. refl)
