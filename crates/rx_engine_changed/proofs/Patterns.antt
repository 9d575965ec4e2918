-- Types, patterns and parameters that are numbered beside themselves.
use Rattle.std.proofs.Common.{◌≡◌, ℕ, Bool, true, List, [], ◌∷◌, Option, Some, None, refl, sym, ◌∙◌, subst}
use Rattle.rx_core.specs.declared.types.Span.{Span}
use Rattle.rx_tree.specs.declared.tree.Ident.{Ident}
use Rattle.rx_tree.specs.Plain as plain
use Rattle.rx_tree.specs.Plain.{TypeTree, TypeTrees, PatternTree, PatternTrees, Parameter}
use Rattle.rx_resolve_names.specs.declared.resolved.NodeNames.{NodeNames}
use Rattle.rx_typed.specs.declared.nodes.Node.{Node}
use Rattle.rx_typed.specs.declared.nodes.Site.{Site}
use Rattle.rx_typed.specs.declared.nodes.Stage.{Stage}
use Rattle.rx_typed.specs.declared.nodes.Declaration.{Declaration}
use Rattle.rx_typed.specs.Named as named
use Rattle.rx_typed.specs.Named.{Written, WrittenTypes, Pattern, Patterns, FieldPatterns, pattern_node, whole_binding}
use Rattle.rx_typed.specs.Naming as numbering
use Rattle.rx_typed.specs.Naming.{Cursor, a_node, an_entry, first, second}
use Rattle.rx_engine_names.specs.Renaming.{Renaming}
use Rattle.rx_engine_names.specs.LikeNamed as alike
use Rattle.rx_engine_names.specs.LikeNamed.{LikeWritten, LikeWrittens, LikeOptionalWritten, LikePattern, LikePatterns, LikeFieldPatterns, LikeParameters}
use Rattle.rx_engine_typing.specs.Renumbered as ren
use Rattle.rx_engine_typing.specs.Renumbered.{RenumberedType, RenumberedTypes, RenumberedAnnotation, RenumberedPattern, RenumberedPatterns, RenumberedFieldPatterns, RenumberedParameters}
use Rattle.rx_engine_changed.specs.Beside.{Instead, Piece, paired, IsPiece, newest, Numbers, IsOneToOne}
use Rattle.rx_engine_changed.specs.Stages.{Mutability, InStep, LikeDeclared, known, given}
use Rattle.rx_engine_changed.proofs.Lists.{still_piece}
use Rattle.rx_engine_changed.proofs.Steps.{Ranges, none_ranges, more_range, ranges_on, alike_declared, next_node, next_entry}
use Rattle.rx_engine_changed.proofs.Parts.{reference_part, item_part, bind_part, variant_pattern_parts, field_pattern_parts}
use Rattle.rx_engine_changed.proofs.Kept.{Kept, Anything, SameAnnotation, WholeLike, no_whole, a_whole, gives, becomes, both, behind_node, behind_entry, in_front_of, at_node, a_leaf, a_leaf_with_entry}

module _ (R : Renaming) (W : Mutability) (apart : IsOneToOne R) (even : (n m : ℕ) (b : Bool) → W n m b b) (P : List Piece → Instead → Type 0) where
  -- ---- types

  abbrev TypeLike : Numbers → Written → Written → Type 0
  TypeLike q t t' = RenumberedType q.by t t'

  abbrev TypesLike : Numbers → WrittenTypes → WrittenTypes → Type 0
  TypesLike q ts ts' = RenumberedTypes q.by ts ts'

  abbrev pub AnnotationLike : Numbers → Option Written → Option Written → Type 0
  AnnotationLike q t t' = RenumberedAnnotation q.by t t'

  abbrev TypeKept : List Piece → Cursor → Cursor → Written × Cursor → Written × Cursor → Type 0
  TypeKept made c c' x x' = Kept R W P 0 made Anything TypeLike c c' x x'

  lifetime_kept : {made : List Piece} {A A' : Type 0} {T : A → A' → Type 0} {S : Numbers → A → A' → Type 0} {x : A × Cursor} {x' : A' × Cursor} (l : Option Ident) (c c' : Cursor) → Kept R W P 0 made T S (numbering.lifetime_entry l c).1 (numbering.lifetime_entry l c').1 x x' → Kept R W P 0 made T S c c' x x'
  lifetime_kept None c c' k = k
  lifetime_kept (Some l) c c' k = behind_entry c c' k

  lifetime_next : {made : List Piece} (l : Option Ident) (c c' : Cursor) → InStep R W made c c' → InStep R W made (numbering.lifetime_entry l c).1 (numbering.lifetime_entry l c').1
  lifetime_next None c c' st = st
  lifetime_next (Some l) c c' st = next_entry R W c c' st

  item_type : (q : Numbers) (n : Node) (k : ℕ) (s : Span) (t : Site) (i i' : ℕ) (ls : Option ℕ) → q.by.items i ≡ i' → q.by.nodes n.number ≡ k → n.span ≡ s → n.site ≡ t → RenumberedType q.by (named.an_item n i ls) (named.an_item (record { number = k; span = s; site = t }) i' ls)
  item_type q n k s t i i' ls e d f g =
      subst (λ (j : ℕ). RenumberedType q.by (named.an_item n i ls) (named.an_item (record { number = k; span = s; site = t }) j ls)) e
      (subst (λ (j : Site). RenumberedType q.by (named.an_item n i ls) (named.an_item (record { number = k; span = s; site = j }) (q.by.items i) ls)) g
      (subst (λ (j : ℕ). RenumberedType q.by (named.an_item n i ls) (named.an_item (record { number = j; span = s; site = n.site }) (q.by.items i) ls)) d (ren.RenumberedType.an_item {n = n} {s = s})))

  next : {made : List Piece} (s : Span) (t : Site) (c c' : Cursor) → InStep R W made c c' → InStep R W (paired c.number c'.number ∷ made) (a_node s t c).1 (a_node s t c').1
  next s t c c' st = next_node R W apart even s s t t c c' st

  mutual
    pub type_kept : {made : List Piece} (t : TypeTree) (c c' : Cursor) → InStep R W made c c' → LikeWritten R (numbering.of_type t c).0 (numbering.of_type t c').0 → TypeKept made c c' (numbering.of_type t c) (numbering.of_type t c')
    type_kept (plain.kind_type s k) c c' st h =
        a_leaf s s Site.Value Site.Value c c' (named.a_kind (a_node s Site.Value c).0 k) (named.a_kind (a_node s Site.Value c').0 k) (next s Site.Value c c' st) tt
        (λ q f w. at_node q (λ n. RenumberedType q.by (named.a_kind (a_node s Site.Value c).0 k) (named.a_kind n k)) c.number c'.number s s Site.Value w ren.RenumberedType.a_kind)
    type_kept (plain.bool_type s) c c' st h =
        a_leaf s s Site.Value Site.Value c c' (named.a_bool (a_node s Site.Value c).0) (named.a_bool (a_node s Site.Value c').0) (next s Site.Value c c' st) tt
        (λ q f w. at_node q (λ n. RenumberedType q.by (named.a_bool (a_node s Site.Value c).0) (named.a_bool n)) c.number c'.number s s Site.Value w ren.RenumberedType.a_bool)
    type_kept (plain.tuple_type s ts) c c' st (alike.like_tuple_type e h) =
        becomes (λ ts. named.a_tuple (a_node s Site.Value c).0 ts) (λ ts. named.a_tuple (a_node s Site.Value c').0 ts)
        (behind_node s s Site.Value Site.Value c c' (types_kept ts (a_node s Site.Value c).1 (a_node s Site.Value c').1 (next s Site.Value c c' st) h)) (λ z. tt)
        (λ q a a' f w. at_node q (λ n. RenumberedType q.by (named.a_tuple (a_node s Site.Value c).0 a) (named.a_tuple n a')) c.number c'.number s s Site.Value w.0 (ren.RenumberedType.a_tuple w.1))
    type_kept (plain.ref_type s l m t) c c' st h =
        let d = (a_node s Site.Value c).1 in let d' = (a_node s Site.Value c').1 in
        becomes (λ t. named.a_reference (a_node s Site.Value c).0 m t) (λ t. named.a_reference (a_node s Site.Value c').0 m t)
        (behind_node s s Site.Value Site.Value c c' (lifetime_kept l d d' (type_kept t (numbering.lifetime_entry l d).1 (numbering.lifetime_entry l d').1 (lifetime_next l d d' (next s Site.Value c c' st)) (reference_part h)))) (λ z. tt)
        (λ q a a' f w. at_node q (λ n. RenumberedType q.by (named.a_reference (a_node s Site.Value c).0 m a) (named.a_reference n m a')) c.number c'.number s s Site.Value w.0 (ren.RenumberedType.a_reference w.1))
    type_kept (plain.named_type s y ls) c c' st h =
        let d = (a_node s Site.Value c).1 in let d' = (a_node s Site.Value c').1 in
        a_leaf_with_entry s s Site.Value Site.Value c c' (named.an_item (a_node s Site.Value c).0 (first (an_entry d).0.0) (numbering.lifetimes_written ls)) (named.an_item (a_node s Site.Value c').0 (first (an_entry d').0.0) (numbering.lifetimes_written ls))
        (next_entry R W d d' (next s Site.Value c c' st)) tt (λ q f w. item_type q (a_node s Site.Value c).0 c'.number s Site.Value _ _ (numbering.lifetimes_written ls) (f.items (first (an_entry d).0.0) ∙ item_part h) w refl refl)

    types_kept : {made : List Piece} (ts : TypeTrees) (c c' : Cursor) → InStep R W made c c' → LikeWrittens R (numbering.of_types ts c).0 (numbering.of_types ts c').0 → Kept R W P 0 made Anything TypesLike c c' (numbering.of_types ts c) (numbering.of_types ts c')
    types_kept plain.no_type c c' st h = gives c c' named.no_written named.no_written st tt (λ q f w. ren.RenumberedTypes.no_written)
    types_kept (plain.type_and t ts) c c' st (alike.like_more_types h hs) =
        let x = type_kept t c c' st h in let y = types_kept ts (numbering.of_type t c).1 (numbering.of_type t c').1 x.step hs in
        becomes (λ p. named.written_and p.0 p.1) (λ p. named.written_and p.0 p.1) (both x y) (λ z. tt) (λ q a a' f w. ren.RenumberedTypes.written_and w.0 w.1)

  pub optional_type_kept : {made : List Piece} (y : Option TypeTree) (c c' : Cursor) → InStep R W made c c' → LikeOptionalWritten R (numbering.of_optional_type y c).0 (numbering.of_optional_type y c').0
      → Kept R W P 0 made SameAnnotation AnnotationLike c c' (numbering.of_optional_type y c) (numbering.of_optional_type y c')
  optional_type_kept None c c' st h = gives c c' None None st refl (λ q f w. ren.RenumberedAnnotation.no_type)
  optional_type_kept (Some t) c c' st (alike.like_annotation h) = becomes (λ t. Some t) (λ t. Some t) (type_kept t c c' st h) (λ z. refl) (λ q a a' f w. ren.RenumberedAnnotation.a_type w)

  -- ---- patterns

  abbrev PatternLike : Numbers → Pattern → Pattern → Type 0
  PatternLike q p p' = RenumberedPattern q.by p p'

  abbrev PatternsLike : Numbers → Patterns → Patterns → Type 0
  PatternsLike q p p' = RenumberedPatterns q.by p p'

  abbrev FieldPatternsLike : Numbers → FieldPatterns → FieldPatterns → Type 0
  FieldPatternsLike q p p' = RenumberedFieldPatterns q.by p p'

  -- with the variables that are declared
  pub record KeptPatterns {A : Type 0} (S : Numbers → A → A → Type 0) (made : List Piece) (c c' : Cursor) (x x' : A × Cursor) : Type 0 where
    pub kept : Kept R W P 0 made Anything S c c' x x'
    pub ranges : Ranges R c.declared c'.declared x.1.declared x'.1.declared

  -- with the node of the whole, and the variable that the whole is
  pub record KeptPattern (made : List Piece) (c c' : Cursor) (x x' : Pattern × Cursor) : Type 0 where
    pub kept : Kept R W P 0 made Anything PatternLike c c' x x'
    pub ranges : Ranges R c.declared c'.declared x.1.declared x'.1.declared
    pub node : IsPiece (paired (pattern_node x.0).number (pattern_node x'.0).number) kept.now
    pub whole : WholeLike R (whole_binding x.0) (whole_binding x'.0)

  declared_entry : (c : Cursor) → (an_entry c).1.declared ≡ c.declared
  declared_entry c = by c.names
    where
      by : (xs : List NodeNames) → (numbering.taken xs c).1.declared ≡ c.declared
      by [] = refl
      by (x ∷ xs) = refl

  ranges_behind_entry : {j j' : ℕ} (c c' : Cursor) → Ranges R (an_entry c).1.declared (an_entry c').1.declared j j' → Ranges R c.declared c'.declared j j'
  ranges_behind_entry {j} {j'} c c' g = subst (λ (k : ℕ). Ranges R k c'.declared j j') (declared_entry c) (subst (λ (k : ℕ). Ranges R (an_entry c).1.declared k j j') (declared_entry c') g)

  bound_at : (q : Numbers) (n : Node) (x x' : ℕ) (m : Bool) (k : ℕ) (s : Span) (t : Site) → q.by.variables x ≡ x' → q.by.nodes n.number ≡ k → n.site ≡ t → RenumberedPattern q.by (named.bind n x m) (named.bind (record { number = k; span = s; site = t }) x' m)
  bound_at q n x x' m k s t e d g =
      subst (λ y. RenumberedPattern q.by (named.bind n x m) (named.bind (record { number = k; span = s; site = t }) y m)) e
      (subst (λ j. RenumberedPattern q.by (named.bind n x m) (named.bind (record { number = k; span = s; site = j }) (q.by.variables x) m)) g
      (subst (λ j. RenumberedPattern q.by (named.bind n x m) (named.bind (record { number = j; span = s; site = n.site }) (q.by.variables x) m)) d (ren.RenumberedPattern.bind {n = n} {s = s})))

  variant_at : (q : Numbers) (n : Node) (i i' v v' k : ℕ) (s : Span) (t : Site) {ps ps' : Patterns} → q.by.items i ≡ i' → v' ≡ v → q.by.nodes n.number ≡ k → n.site ≡ t → RenumberedPatterns q.by ps ps'
      → RenumberedPattern q.by (named.variant_pattern n i v ps) (named.variant_pattern (record { number = k; span = s; site = t }) i' v' ps')
  variant_at q n i i' v v' k s t {ps} {ps'} e f d g h =
      subst (λ j. RenumberedPattern q.by (named.variant_pattern n i v ps) (named.variant_pattern (record { number = k; span = s; site = t }) j v' ps')) e
      (subst (λ j. RenumberedPattern q.by (named.variant_pattern n i v ps) (named.variant_pattern (record { number = k; span = s; site = t }) (q.by.items i) j ps')) (sym f)
      (subst (λ j. RenumberedPattern q.by (named.variant_pattern n i v ps) (named.variant_pattern (record { number = k; span = s; site = j }) (q.by.items i) v ps')) g
      (subst (λ j. RenumberedPattern q.by (named.variant_pattern n i v ps) (named.variant_pattern (record { number = j; span = s; site = n.site }) (q.by.items i) v ps')) d (ren.RenumberedPattern.variant_pattern {n = n} {s = s} h))))

  struct_at : (q : Numbers) (n : Node) (i i' k : ℕ) (s : Span) (t : Site) {fs fs' : FieldPatterns} → q.by.items i ≡ i' → q.by.nodes n.number ≡ k → n.site ≡ t → RenumberedFieldPatterns q.by fs fs'
      → RenumberedPattern q.by (named.struct_pattern n i fs) (named.struct_pattern (record { number = k; span = s; site = t }) i' fs')
  struct_at q n i i' k s t {fs} {fs'} e d g h =
      subst (λ j. RenumberedPattern q.by (named.struct_pattern n i fs) (named.struct_pattern (record { number = k; span = s; site = t }) j fs')) e
      (subst (λ j. RenumberedPattern q.by (named.struct_pattern n i fs) (named.struct_pattern (record { number = k; span = s; site = j }) (q.by.items i) fs')) g
      (subst (λ j. RenumberedPattern q.by (named.struct_pattern n i fs) (named.struct_pattern (record { number = j; span = s; site = n.site }) (q.by.items i) fs')) d (ren.RenumberedPattern.struct_pattern {n = n} {s = s} h)))

  pub new_given : (m : Bool) {made : List Piece} (n k : ℕ) → LikeDeclared made (W n k) (Some (record { mutable = m; stage = Stage.Given })) (Some (record { mutable = m; stage = Stage.Given }))
  new_given m n k = given (even n k m)

  pub new_known : (m : Bool) {made : List Piece} (n k : ℕ) → LikeDeclared made (W n k) (Some (record { mutable = m; stage = Stage.Known })) (Some (record { mutable = m; stage = Stage.Known }))
  new_known m n k = known (even n k m)

  mutual
    pub pattern_kept : {made : List Piece} (p : PatternTree) (c c' : Cursor) → InStep R W made c c' → LikePattern R (numbering.of_pattern p c).0 (numbering.of_pattern p c').0 → KeptPattern made c c' (numbering.of_pattern p c) (numbering.of_pattern p c')
    pattern_kept (plain.wild s) c c' st h = record {
      kept = a_leaf s s Site.Value Site.Value c c' (named.wild (a_node s Site.Value c).0) (named.wild (a_node s Site.Value c').0) (next s Site.Value c c' st) tt
          (λ q f w. at_node q (λ n. RenumberedPattern q.by (named.wild (a_node s Site.Value c).0) (named.wild n)) c.number c'.number s s Site.Value w ren.RenumberedPattern.wild);
      ranges = none_ranges;
      node = newest;
      whole = no_whole;
    }
    pattern_kept (plain.bind s y m) c c' st h =
        let d = (an_entry (a_node s Site.Value c).1).1 in let d' = (an_entry (a_node s Site.Value c').1).1 in
        let st1 = next_entry R W (a_node s Site.Value c).1 (a_node s Site.Value c').1 (next s Site.Value c c' st) in
        let x : Declaration = record { mutable = m; stage = Stage.Given } in
        let e : R.variable d.declared d'.declared ≡ true = bind_part h in record {
          kept = in_front_of (a_leaf_with_entry {T = Anything} {S = PatternLike} s s Site.Value Site.Value c c' (named.bind (a_node s Site.Value c).0 d.declared m) (named.bind (a_node s Site.Value c').0 d'.declared m) st1 tt
              (λ q f w. bound_at q (a_node s Site.Value c).0 d.declared d'.declared m c'.number s Site.Value (f.variables d.declared d'.declared e) w refl))
              (numbering.declare x d).1 (numbering.declare x d').1 refl refl (alike_declared R W apart even st1 x e (new_given m));
          ranges = ranges_behind_entry (a_node s Site.Value c).1 (a_node s Site.Value c').1 (more_range e none_ranges);
          node = newest;
          whole = a_whole e;
        }
    pattern_kept (plain.int_pattern s g v k) c c' st h = record {
      kept = a_leaf s s Site.Value Site.Value c c' (named.whole_number (a_node s Site.Value c).0 g v k) (named.whole_number (a_node s Site.Value c').0 g v k) (next s Site.Value c c' st) tt
          (λ q f w. at_node q (λ n. RenumberedPattern q.by (named.whole_number (a_node s Site.Value c).0 g v k) (named.whole_number n g v k)) c.number c'.number s s Site.Value w ren.RenumberedPattern.whole_number);
      ranges = none_ranges;
      node = newest;
      whole = no_whole;
    }
    pattern_kept (plain.bool_pattern s b) c c' st h = record {
      kept = a_leaf s s Site.Value Site.Value c c' (named.truth (a_node s Site.Value c).0 b) (named.truth (a_node s Site.Value c').0 b) (next s Site.Value c c' st) tt
          (λ q f w. at_node q (λ n. RenumberedPattern q.by (named.truth (a_node s Site.Value c).0 b) (named.truth n b)) c.number c'.number s s Site.Value w ren.RenumberedPattern.truth);
      ranges = none_ranges;
      node = newest;
      whole = no_whole;
    }
    pattern_kept (plain.tuple_pattern s ps) c c' st (alike.like_tuple_pattern e h) =
        let x = patterns_kept ps (a_node s Site.Value c).1 (a_node s Site.Value c').1 (next s Site.Value c c' st) h in record {
          kept = becomes (λ ps. named.tuple_pattern (a_node s Site.Value c).0 ps) (λ ps. named.tuple_pattern (a_node s Site.Value c').0 ps) (behind_node s s Site.Value Site.Value c c' x.kept) (λ z. tt)
              (λ q a a' f w. at_node q (λ n. RenumberedPattern q.by (named.tuple_pattern (a_node s Site.Value c).0 a) (named.tuple_pattern n a')) c.number c'.number s s Site.Value w.0 (ren.RenumberedPattern.tuple_pattern w.1));
          ranges = x.ranges;
          node = still_piece x.kept.grows newest;
          whole = no_whole;
        }
    pattern_kept (plain.variant_pattern s a v ps) c c' st h =
        let g = variant_pattern_parts h in let d = (a_node s Site.Value c).1 in let d' = (a_node s Site.Value c').1 in
        let x = patterns_kept ps (an_entry d).1 (an_entry d').1 (next_entry R W d d' (next s Site.Value c c' st)) g.2 in record {
          kept = becomes (λ ps. named.variant_pattern (a_node s Site.Value c).0 (first (an_entry d).0.0) (second (an_entry d).0.0) ps) (λ ps. named.variant_pattern (a_node s Site.Value c').0 (first (an_entry d').0.0) (second (an_entry d').0.0) ps)
              (behind_node s s Site.Value Site.Value c c' (behind_entry d d' x.kept)) (λ z. tt)
              (λ q a a' f w. variant_at q (a_node s Site.Value c).0 _ _ _ _ c'.number s Site.Value (f.items (first (an_entry d).0.0) ∙ g.0) g.1 w.0 refl w.1);
          ranges = ranges_behind_entry d d' x.ranges;
          node = still_piece x.kept.grows newest;
          whole = no_whole;
        }
    pattern_kept (plain.make_pattern s y fs) c c' st (alike.like_struct_pattern e i h) =
        let d = (a_node s Site.Value c).1 in let d' = (a_node s Site.Value c').1 in
        let x = field_patterns_kept fs (an_entry d).1 (an_entry d').1 (next_entry R W d d' (next s Site.Value c c' st)) h in record {
          kept = becomes (λ fs. named.struct_pattern (a_node s Site.Value c).0 (first (an_entry d).0.0) fs) (λ fs. named.struct_pattern (a_node s Site.Value c').0 (first (an_entry d').0.0) fs)
              (behind_node s s Site.Value Site.Value c c' (behind_entry d d' x.kept)) (λ z. tt)
              (λ q a a' f w. struct_at q (a_node s Site.Value c).0 _ _ c'.number s Site.Value (f.items (first (an_entry d).0.0) ∙ i) w.0 refl w.1);
          ranges = ranges_behind_entry d d' x.ranges;
          node = still_piece x.kept.grows newest;
          whole = no_whole;
        }

    patterns_kept : {made : List Piece} (ps : PatternTrees) (c c' : Cursor) → InStep R W made c c' → LikePatterns R (numbering.of_patterns ps c).0 (numbering.of_patterns ps c').0 → KeptPatterns PatternsLike made c c' (numbering.of_patterns ps c) (numbering.of_patterns ps c')
    patterns_kept plain.no_pattern c c' st h = record { kept = gives c c' named.no_pattern named.no_pattern st tt (λ q f w. ren.RenumberedPatterns.no_pattern); ranges = none_ranges }
    patterns_kept (plain.pattern_and p ps) c c' st (alike.like_more_patterns h hs) =
        let x = pattern_kept p c c' st h in let y = patterns_kept ps (numbering.of_pattern p c).1 (numbering.of_pattern p c').1 x.kept.step hs in record {
          kept = becomes (λ p. named.pattern_and p.0 p.1) (λ p. named.pattern_and p.0 p.1) (both x.kept y.kept) (λ z. tt) (λ q a a' f w. ren.RenumberedPatterns.pattern_and w.0 w.1);
          ranges = ranges_on x.ranges y.ranges;
        }

    field_patterns_kept : {made : List Piece} (fs : plain.FieldPatterns) (c c' : Cursor) → InStep R W made c c' → LikeFieldPatterns R (numbering.of_field_patterns fs c).0 (numbering.of_field_patterns fs c').0
        → KeptPatterns FieldPatternsLike made c c' (numbering.of_field_patterns fs c) (numbering.of_field_patterns fs c')
    field_patterns_kept plain.no_field_pattern c c' st h = record { kept = gives c c' named.no_field_pattern named.no_field_pattern st tt (λ q f w. ren.RenumberedFieldPatterns.no_field_pattern); ranges = none_ranges }
    field_patterns_kept (plain.field_pattern_and y p fs) c c' st h =
        let g = field_pattern_parts h in
        let x = pattern_kept p c c' st g.0 in let z = field_patterns_kept fs (numbering.of_pattern p c).1 (numbering.of_pattern p c').1 x.kept.step g.1 in record {
          kept = becomes (λ p. named.field_pattern_and y.name p.0 p.1) (λ p. named.field_pattern_and y.name p.0 p.1) (both x.kept z.kept) (λ z. tt) (λ q a a' f w. ren.RenumberedFieldPatterns.field_pattern_and w.0 w.1);
          ranges = ranges_on x.ranges z.ranges;
        }
