-- Patterns by other numbers are alike for coverage, in typed trees by types that correspond.
use Rattle.std.proofs.Common.{◌≡◌, ℕ, suc, Bool, true, false, refl, sym, ap, ◌∙◌, subst}
use Rattle.rx_core.specs.declared.types.Kind.{Kind}
use Rattle.rx_typed.specs.Types as types
use Rattle.rx_typed.specs.Types.{Typ, integer, boolean, tuple_of, reference, peeled}
use Rattle.rx_typed.specs.Named as named
use Rattle.rx_typed.specs.Named.{Pattern, Patterns, FieldPatterns}
use Rattle.rx_typed.specs.Tree as tree
use Rattle.rx_typed.specs.Elaborated as elaborated
use Rattle.rx_typed.specs.Elaborated.{as_shared, behind_all, field_in, has_several, kind_in, met, Assigned, Met}
use Rattle.rx_engine_blocks.specs.Along.{shared}
use Rattle.rx_engine_blocks.specs.Renumbering.{Renumbering, shape_at}
use Rattle.rx_engine_blocks.proofs.Meets.{peeled_at}
use Rattle.rx_engine_typing.specs.Corresponding.{Corresponding}
use Rattle.rx_engine_typing.specs.Renumbered as like
use Rattle.rx_engine_typing.specs.Renumbered.{RenumberedPattern, RenumberedPatterns, RenumberedFieldPatterns}
use Rattle.rx_engine_typing.proofs.Types.{field_in_at, kind_at, several_at}
use Rattle.rx_engine_covered.specs.LikeChoices as alike
use Rattle.rx_engine_covered.specs.LikeChoices.{LikePattern, LikeSubpatterns, LikeSeen}
use Rattle.rx_engine_covered.specs.Seen.{AsTheyAre, FieldsAsTheyAre, SeenNodes, SeenSo, SeenTypes}

pub away : (w : Bool) (t : Typ) → as_shared (shared w t) ≡ as_shared t
away true (integer k) = refl
away true boolean = refl
away true (tuple_of ts) = refl
away true (reference m t) = refl
away true (types.named i) = refl
away false t = refl

peeled_away : (w : Bool) (t : Typ) → peeled (shared w t) ≡ peeled t
peeled_away true (integer k) = refl
peeled_away true boolean = refl
peeled_away true (tuple_of ts) = refl
peeled_away true (reference m t) = refl
peeled_away true (types.named i) = refl
peeled_away false t = refl

module _ (r : Renumbering) where
  behind_like : (t : Typ) {q q' : tree.Pattern} → LikePattern r q q' → LikePattern r (behind_all t q) (behind_all (shape_at r t) q')
  behind_like (integer k) h = h
  behind_like boolean h = h
  behind_like (tuple_of ts) h = h
  behind_like (reference m t) h = alike.LikePattern.is_behind (behind_like t h)
  behind_like (types.named i) h = h

  seen_by : (w : Bool) (t : Typ) → (w ≡ true → (u : Typ) × (t ≡ reference true u)) → {q q' : tree.Pattern} → LikePattern r q q' → LikeSeen r w (behind_all t q) (behind_all (shared w (shape_at r t)) q')
  seen_by false t m h = alike.LikeSeen.as_it_is (behind_like t h)
  seen_by true t m {q} {q'} h = so t (m refl)
    where
      so : (t : Typ) → (u : Typ) × (t ≡ reference true u) → LikeSeen r true (behind_all t q) (behind_all (shared true (shape_at r t)) q')
      so t o = subst (λ (t : Typ). LikeSeen r true (behind_all t q) (behind_all (shared true (shape_at r t)) q')) (sym o.1) (alike.LikeSeen.behind_shared (behind_like o.0 h))

  as_it_was : {p p' : tree.Pattern} → LikeSeen r false p p' → LikePattern r p p'
  as_it_was (alike.LikeSeen.as_it_is h) = h

  module _ (view : SeenNodes) (T T' : Assigned) (s : SeenTypes r view T T') where
    -- but for types, which aren't looked at
    abbrev without : Assigned → Assigned
    without A = record { items = A.items; typ = λ n. boolean; expected = λ n. boolean }

    declared : Corresponding r (without T) (without T')
    declared = record { items = s.items; typ = λ n. refl; expected = λ n. refl }

    same_kind : (n : ℕ) → kind_in (peeled (T'.typ (r.nodes n))) ≡ kind_in (peeled (T.typ n))
    same_kind n = ap (λ (t : Typ). kind_in (peeled t)) (s.typ n) ∙ (ap kind_in (peeled_away (view n) (shape_at r (T.typ n)) ∙ peeled_at r (T.typ n)) ∙ kind_at r (peeled (T.typ n)))

    seen_at : (w : Bool) (n : ℕ) → view n ≡ w → {q q' : tree.Pattern} → LikePattern r q q' → LikeSeen r w (behind_all (T.typ n) q) (behind_all (T'.typ (r.nodes n)) q')
    seen_at w n v {q} {q'} h = subst (λ (w : Bool). LikeSeen r w (behind_all (T.typ n) q) (behind_all (T'.typ (r.nodes n)) q')) v
        (subst (λ (t : Typ). LikeSeen r (view n) (behind_all (T.typ n) q) (behind_all t q')) (sym (s.typ n)) (seen_by (view n) (T.typ n) (s.mutable n) h))

    pub any_seen : (w : Bool) → LikeSeen r w tree.any tree.any
    any_seen true = alike.LikeSeen.seen_any
    any_seen false = alike.LikeSeen.as_it_is alike.LikePattern.takes_any

    binding_seen : (w : Bool) (n n' x x' : ℕ) (m m' : tree.Mode) → LikeSeen r w (tree.bind n x m) (tree.bind n' x' m')
    binding_seen true n n' x x' m m' = alike.LikeSeen.seen_binds
    binding_seen false n n' x x' m m' = alike.LikeSeen.as_it_is alike.LikePattern.binds

    number_like : (n n' : ℕ) (k k' : Kind) (g : Bool) (v : ℕ) → k' ≡ k → LikePattern r (tree.exactly n (tree.whole_number k (elaborated.with_sign g v))) (tree.exactly n' (tree.whole_number k' (elaborated.with_sign g v)))
    number_like n n' k k' g v e = subst (λ (k' : Kind). LikePattern r (tree.exactly n (tree.whole_number k (elaborated.with_sign g v))) (tree.exactly n' (tree.whole_number k' (elaborated.with_sign g v)))) (sym e) alike.LikePattern.is_exactly

    variant_like : (n n' i v : ℕ) {ps ps' : tree.Subpatterns} → LikeSubpatterns r ps ps' → LikePattern r (tree.variant n i (has_several T.items i) v ps) (tree.variant n' (r.items i) (has_several T'.items (r.items i)) v ps')
    variant_like n n' i v {ps} {ps'} h = subst (λ (b : Bool). LikePattern r (tree.variant n i (has_several T.items i) v ps) (tree.variant n' (r.items i) b v ps')) (sym (several_at r (without T) (without T') declared i)) (alike.LikePattern.is_variant h)

    mutual
      pub pattern_like : (w : Bool) (m m' : Met) {p p' : Pattern} → RenumberedPattern r p p' → SeenSo view w p → LikeSeen r w (elaborated.pattern T m p) (elaborated.pattern T' m' p')
      pattern_like w m m' like.RenumberedPattern.wild v = any_seen w
      pattern_like w m m' like.RenumberedPattern.bind v = binding_seen w _ _ _ _ _ _
      pattern_like w m m' (like.RenumberedPattern.whole_number {n = n} {g = g} {v = k}) v = seen_at w n.number v (number_like n.number (r.nodes n.number) (kind_in (peeled (T.typ n.number))) (kind_in (peeled (T'.typ (r.nodes n.number)))) g k (same_kind n.number))
      pattern_like w m m' (like.RenumberedPattern.truth {n = n} {b = b}) v = seen_at w n.number v {q = tree.exactly n.number (tree.truth b)} {q' = tree.exactly (r.nodes n.number) (tree.truth b)} alike.LikePattern.is_exactly
      pattern_like w m m' (like.RenumberedPattern.tuple_pattern {n = n} h) v = seen_at w n.number v.0 (alike.LikePattern.has_parts (parts_like (met (T.typ n.number) m) (met (T'.typ (r.nodes n.number)) m') 0 h v.1))
      pattern_like w m m' (like.RenumberedPattern.variant_pattern {n = n} {i = i} {v = k} h) v =
          seen_at w n.number v.0 (variant_like n.number (r.nodes n.number) i k (parts_like (met (T.typ n.number) m) (met (T'.typ (r.nodes n.number)) m') 0 h v.1))
      pattern_like w m m' (like.RenumberedPattern.struct_pattern {n = n} {i = i} h) v = seen_at w n.number v.0 (alike.LikePattern.has_parts (fields_like (met (T.typ n.number) m) (met (T'.typ (r.nodes n.number)) m') i h v.1))

      parts_like : (m m' : Met) (k : ℕ) {ps ps' : Patterns} → RenumberedPatterns r ps ps' → AsTheyAre view ps → LikeSubpatterns r (elaborated.subpatterns T m k ps) (elaborated.subpatterns T' m' k ps')
      parts_like m m' k like.RenumberedPatterns.no_pattern v = alike.LikeSubpatterns.no_parts
      parts_like m m' k (like.RenumberedPatterns.pattern_and h hs) v = alike.LikeSubpatterns.more_parts (as_it_was (pattern_like false m m' h v.0)) (parts_like m m' (suc k) hs v.1)

      fields_like : (m m' : Met) (i : ℕ) {fs fs' : FieldPatterns} → RenumberedFieldPatterns r fs fs' → FieldsAsTheyAre view fs → LikeSubpatterns r (elaborated.field_patterns T m i fs) (elaborated.field_patterns T' m' (r.items i) fs')
      fields_like m m' i like.RenumberedFieldPatterns.no_field_pattern v = alike.LikeSubpatterns.no_parts
      fields_like m m' i (like.RenumberedFieldPatterns.field_pattern_and {x = x} {p = p} {p' = p'} {fs = fs} {fs' = fs'} h hs) v =
          subst (λ (k : ℕ). LikeSubpatterns r (elaborated.field_patterns T m i (named.field_pattern_and x p fs)) (tree.part_and k (elaborated.pattern T' m' p') (elaborated.field_patterns T' m' (r.items i) fs')))
          (sym (field_in_at r (without T) (without T') declared (types.named i) x))
          (alike.LikeSubpatterns.more_parts (as_it_was (pattern_like false m m' h v.0)) (fields_like m m' i hs v.1))
