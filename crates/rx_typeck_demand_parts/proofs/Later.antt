-- What a pattern is with numbers depends on the place in the text alone, so it can be told later.
use Rattle.std.proofs.Common.{◌≡◌, List, [], ◌∷◌, refl, ap, sym, ◌∙◌}
use Rattle.rx_core.specs.declared.types.Span.{Span}
use Rattle.rx_resolve_names.specs.declared.resolved.NodeNames.{NodeNames}
use Rattle.rx_tree.specs.declared.tree.Pattern.{Pattern}
use Rattle.rx_tree.specs.Plain as plain
use Rattle.rx_tree.specs.Plain.{PatternTree, PatternTrees, FieldPatterns}
use Rattle.rx_tree.specs.PlainOf.{plain-Pattern}
use Rattle.rx_typed.specs.declared.nodes.Site.{Site}
use Rattle.rx_typed.specs.declared.nodes.Stage.{Stage}
use Rattle.rx_typed.specs.declared.nodes.Declaration.{Declaration}
use Rattle.rx_typed.specs.Named as named
use Rattle.rx_typed.specs.Naming.{Cursor, Numbering, give, and_then, a_node, taken, an_entry, declare, first, second, of_pattern, of_patterns, of_field_patterns}
use Rattle.rx_typeck_elaborate_parts.specs.Entries.{left_at}

-- what a step gives, and where it leads, depend on the place alone
abbrev Blind : {A : Type 0} → Numbering A → Type 0
Blind m = (c : Cursor) → ((m c).0 ≡ (m (left_at c)).0) × (left_at (m c).1 ≡ left_at (m (left_at c)).1)

twice : (c : Cursor) → left_at (left_at c) ≡ left_at c
unfolding left_at
twice c = refl

blind_alike : {A : Type 0} (m : Numbering A) → Blind m → (c d : Cursor) → left_at c ≡ left_at d → ((m c).0 ≡ (m d).0) × (left_at (m c).1 ≡ left_at (m d).1)
blind_alike m b c d e = ((b c).0 ∙ ap (λ x. (m x).0) e ∙ sym (b d).0, (b c).1 ∙ ap (λ x. left_at (m x).1) e ∙ sym (b d).1)

blind_then : {A B : Type 0} (m : Numbering A) (f : A → Numbering B) → Blind m → ((a : A) → Blind (f a)) → Blind (and_then m f)
blind_then m f b g c =
    let d = left_at c in
    let rest = blind_alike (f (m d).0) (g (m d).0) (m c).1 (m d).1 (b c).1 in
    (ap (λ a. (f a (m c).1).0) (b c).0 ∙ rest.0, ap (λ a. left_at (f a (m c).1).1) (b c).0 ∙ rest.1)

blind_give : {A : Type 0} (a : A) → Blind (give a)
blind_give a c = (refl, sym (twice c))

blind_node : (s : Span) (t : Site) → Blind (a_node s t)
unfolding left_at
blind_node s t c = (refl, refl)

blind_taken : (ns : List NodeNames) (c : Cursor) → ((taken ns c).0 ≡ (taken ns (left_at c)).0) × (left_at (taken ns c).1 ≡ left_at (taken ns (left_at c)).1)
unfolding left_at
blind_taken [] c = (refl, refl)
blind_taken (x ∷ xs) c = (refl, refl)

blind_entry : Blind an_entry
unfolding left_at
blind_entry c = blind_taken c.names c

blind_declare : (d : Declaration) → Blind (declare d)
unfolding left_at
blind_declare d c = (refl, refl)

mutual
  pattern_blind : (p : PatternTree) → Blind (of_pattern p)
  pattern_blind (plain.wild s) = blind_then _ _ (blind_node s Site.Value) (λ n. blind_give (named.wild n))
  pattern_blind (plain.bind s x m) = blind_then _ _ (blind_node s Site.Value) (λ n. blind_then _ _ blind_entry (λ e. blind_then _ _ (blind_declare (record { mutable = m; stage = Stage.Given })) (λ y. blind_give (named.bind n y m))))
  pattern_blind (plain.int_pattern s g v k) = blind_then _ _ (blind_node s Site.Value) (λ n. blind_give (named.whole_number n g v k))
  pattern_blind (plain.bool_pattern s b) = blind_then _ _ (blind_node s Site.Value) (λ n. blind_give (named.truth n b))
  pattern_blind (plain.tuple_pattern s ps) = blind_then _ _ (blind_node s Site.Value) (λ n. blind_then _ _ (patterns_blind ps) (λ q. blind_give (named.tuple_pattern n q)))
  pattern_blind (plain.variant_pattern s a v ps) = blind_then _ _ (blind_node s Site.Value) (λ n. blind_then _ _ blind_entry (λ e. blind_then _ _ (patterns_blind ps) (λ q. blind_give (named.variant_pattern n (first e.0) (second e.0) q))))
  pattern_blind (plain.make_pattern s x fs) = blind_then _ _ (blind_node s Site.Value) (λ n. blind_then _ _ blind_entry (λ e. blind_then _ _ (field_patterns_blind fs) (λ q. blind_give (named.struct_pattern n (first e.0) q))))

  patterns_blind : (ps : PatternTrees) → Blind (of_patterns ps)
  patterns_blind plain.no_pattern = blind_give named.no_pattern
  patterns_blind (plain.pattern_and p ps) = blind_then _ _ (pattern_blind p) (λ q. blind_then _ _ (patterns_blind ps) (λ qs. blind_give (named.pattern_and q qs)))

  field_patterns_blind : (fs : FieldPatterns) → Blind (of_field_patterns fs)
  field_patterns_blind plain.no_field_pattern = blind_give named.no_field_pattern
  field_patterns_blind (plain.field_pattern_and x p fs) = blind_then _ _ (pattern_blind p) (λ q. blind_then _ _ (field_patterns_blind fs) (λ qs. blind_give (named.field_pattern_and x.name q qs)))

pub pattern_later : (p : Pattern) (c : Cursor) → (of_pattern (plain-Pattern p) (left_at c)).0 ≡ (of_pattern (plain-Pattern p) c).0
pattern_later p c = sym (pattern_blind (plain-Pattern p) c).0
