-- What the patterns of `let`s bind, by other numbers of lifetimes: where the types that are written have as many lifetimes as what they name
-- declares, each part of a type has the numbers that the type has.
use Rattle.std.proofs.Common.{◌≡◌, ℕ, suc, List, [], ◌∷◌, ◌++◌, map, Option, Some, None, refl, sym, ap, ap₂, ◌∙◌}
use Rattle.std.proofs.lemmas.List.{map-append}
use Rattle.rx_core.specs.declared.types.Step.{Step}
use Rattle.rx_core.specs.declared.types.Step.TheVariants as step
use Rattle.rx_tree.specs.Plain.{ProgramTree}
use Rattle.rx_typed.specs.declared.declarations.Decl.{Decl}
use Rattle.rx_typed.specs.Elaborated.{Met, met, field_in}
use Rattle.rx_typed.specs.Named as named
use Rattle.rx_typed.specs.Named.{Pattern, Patterns, FieldPatterns}
use Rattle.rx_typed.specs.Naming.{Annotation, of_pattern}
use Rattle.rx_typed.specs.Places.{behind as part_behind, place_type}
use Rattle.rx_typed.specs.PlainTypes.{declarations}
use Rattle.rx_typed.specs.Regions.{RegionTyp, region_integer, region_boolean, region_tuple, region_reference, region_named, erased, region-Ty}
use Rattle.rx_typed.specs.Renaming.{renamed}
use Rattle.rx_typed.specs.Types as types
use Rattle.rx_typeck_elaborate_parts.specs.Entries.{in_front}
use Rattle.rx_typeck_typed.specs.declared.variables.AnnotatedVariable.{AnnotatedVariable}
use Rattle.rx_typeck_typed.specs.Bindings.{peeled, bound, way, part, bindings, parts, fields, behind, of_let, of_lets}
use Rattle.rx_typeck_typed.specs.Lets.{let_type}
use Rattle.rx_typeck_typed.specs.Walks.{plain-Variable}
use Rattle.rx_lower.specs.Functions.{written}
use Rattle.rx_repair.specs.Fitting.{HasAll}
use Rattle.rx_compact_types.specs.ShortLets.{extended, LetAlike, LetsAlike}
use Rattle.rx_compact_types.proofs.Filling.{erased_same}
use Rattle.rx_compact_accepted.specs.AreShort.{IsShort}
use Rattle.rx_compact_accepted.specs.LetsUnder.{LetsUnder}
use Rattle.rx_compact_accepted.proofs.Lets.{bindings_same}
use Rattle.rx_compact_accepted.proofs.PlacesRenamed.{Good, behind_is, place_is}
use Rattle.rx_compact_accepted.proofs.WrittenLets.{LetsHave}

abbrev pub turned : (ℕ → ℕ) → ℕ × RegionTyp → ℕ × RegionTyp
turned g x = (x.0, renamed g x.1)

module _ (g : ℕ → ℕ) (D : List Decl) (good : Good D) (free new_free : ℕ) (free_is : g free ≡ new_free) where
  peeled_is : (t : RegionTyp) → peeled (renamed g t) ≡ renamed g (peeled t)
  peeled_is (region_reference m l t) = peeled_is t
  peeled_is (region_integer k) = refl
  peeled_is region_boolean = refl
  peeled_is (region_tuple ts) = refl
  peeled_is (region_named i ls) = refl

  peeled_has : (t : RegionTyp) → HasAll (declarations D) t → HasAll (declarations D) (peeled t)
  peeled_has (region_reference m l t) h = peeled_has t h
  peeled_has (region_integer k) h = h
  peeled_has region_boolean h = h
  peeled_has (region_tuple ts) h = h
  peeled_has (region_named i ls) h = h

  bound_is : (r : Met) (t : RegionTyp) → bound new_free r (renamed g t) ≡ renamed g (bound free r t)
  bound_is None t = refl
  bound_is (Some m) t = ap (λ l. region_reference m l (renamed g t)) (sym free_is)

  place_has : (t : RegionTyp) (ss : List Step) → HasAll (declarations D) t → HasAll (declarations D) (place_type D t ss)
  place_has t [] h = h
  place_has t (s ∷ ss) h = place_has (part_behind D t s) ss (behind_is g D good t s h).has

  part_has : (v : Option ℕ) (k : ℕ) (t : RegionTyp) → HasAll (declarations D) t → HasAll (declarations D) (part D v k t)
  part_has v k t h = place_has t (way v ++ step.Field k ∷ []) h

  part_is : (v : Option ℕ) (k : ℕ) (t : RegionTyp) → HasAll (declarations D) t → part D v k (renamed g t) ≡ renamed g (part D v k t)
  part_is v k t h = place_is g D good t (way v ++ step.Field k ∷ []) h

  met_is : (r : Met) (t : RegionTyp) → met (erased (renamed g t)) r ≡ met (erased t) r
  met_is r t = ap (λ u. met u r) (erased_same g t)

  mutual
    bindings_are : (p : Pattern) (r : Met) (t : RegionTyp) → HasAll (declarations D) t → bindings D new_free r p (renamed g t) ≡ map (turned g) (bindings D free r p t)
    bindings_are (named.wild n) r t h = refl
    bindings_are (named.bind n x m) r t h = ap (λ u. (x, u) ∷ []) (bound_is r t)
    bindings_are (named.whole_number n s v k) r t h = refl
    bindings_are (named.truth n b) r t h = refl
    bindings_are (named.tuple_pattern n ps) r t h =
        ap₂ (λ m u. parts D new_free m None 0 ps u) (met_is r t) (peeled_is t) ∙ parts_are ps (met (erased t) r) None 0 (peeled t) (peeled_has t h)
    bindings_are (named.variant_pattern n j v ps) r t h =
        ap₂ (λ m u. parts D new_free m (Some v) 0 ps u) (met_is r t) (peeled_is t) ∙ parts_are ps (met (erased t) r) (Some v) 0 (peeled t) (peeled_has t h)
    bindings_are (named.struct_pattern n j fs) r t h =
        ap₂ (λ m u. fields D new_free m j fs u) (met_is r t) (peeled_is t) ∙ fields_are fs (met (erased t) r) j (peeled t) (peeled_has t h)

    parts_are : (ps : Patterns) (r : Met) (v : Option ℕ) (k : ℕ) (t : RegionTyp) → HasAll (declarations D) t → parts D new_free r v k ps (renamed g t) ≡ map (turned g) (parts D free r v k ps t)
    parts_are named.no_pattern r v k t h = refl
    parts_are (named.pattern_and p ps) r v k t h =
        ap₂ (λ a b. a ++ b) (ap (bindings D new_free r p) (part_is v k t h) ∙ bindings_are p r (part D v k t) (part_has v k t h)) (parts_are ps r v (suc k) t h)
        ∙ sym (map-append (turned g) (bindings D free r p (part D v k t)) (parts D free r v (suc k) ps t))

    fields_are : (fs : FieldPatterns) (r : Met) (j : ℕ) (t : RegionTyp) → HasAll (declarations D) t → fields D new_free r j fs (renamed g t) ≡ map (turned g) (fields D free r j fs t)
    fields_are named.no_field_pattern r j t h = refl
    fields_are (named.field_pattern_and x p fs) r j t h =
        let k = field_in (declarations D) (types.named j) x in
        ap₂ (λ a b. a ++ b) (ap (bindings D new_free r p) (part_is None k t h) ∙ bindings_are p r (part D None k t) (part_has None k t h)) (fields_are fs r j t h)
        ∙ sym (map-append (turned g) (bindings D free r p (part D None k t)) (fields D free r j fs t))

-- ---- of two functions with as many lifetimes, in programs that declare this

module _ (i : ℕ) (f : ℕ → ℕ) (D E : List Decl) (S : IsShort i f D E) (plain : declarations E ≡ declarations D) (good : Good D) (p q : ProgramTree) (n m : ℕ) (free_is : extended f n m n ≡ m) where
  let_is : (a b : Annotation) → LetAlike p q n m f a b → HasAll (declarations D) (region-Ty (let_type p n a.typ (behind a).names)) → of_let q E m b ≡ map (turned (extended f n m)) (of_let p D n a)
  let_is a b l h =
      let g = extended f n m in
      let t : RegionTyp = region-Ty (let_type p n a.typ (behind a).names) in
      let w : Pattern = (of_pattern a.pattern (in_front a)).0 in
      ap₂ (λ x y. bindings E m None x y) l.pattern l.typ
      ∙ (bindings_same i f D E S plain m w None (renamed g t)
      ∙ bindings_are g D good n m free_is w None t h)

  pub lets_are : (as' bs : List Annotation) → LetsAlike p q n m f as' bs → LetsHave p (declarations D) n as' → of_lets q E m bs ≡ map (turned (extended f n m)) (of_lets p D n as')
  lets_are [] [] l h = refl
  lets_are [] (b ∷ bs) l h = absurd l
  lets_are (a ∷ as') [] l h = absurd l
  lets_are (a ∷ as') (b ∷ bs) l h =
      ap₂ (λ x y. x ++ y) (let_is a b l.0 h.0) (lets_are as' bs l.1 h.1) ∙ sym (map-append (turned (extended f n m)) (of_let p D n a) (of_lets p D n as'))

-- ---- the variables of both

abbrev first_of : List (ℕ × RegionTyp) → ℕ × RegionTyp → ℕ × RegionTyp
first_of [] d = d
first_of (x ∷ xs) d = x

abbrev rest_of : List (ℕ × RegionTyp) → List (ℕ × RegionTyp)
rest_of [] = []
rest_of (x ∷ xs) = xs

none_such : (x : ℕ × RegionTyp) (xs : List (ℕ × RegionTyp)) → [] ≡ x ∷ xs → ⊥
none_such x xs e = cc

none_more : (x : ℕ × RegionTyp) (xs : List (ℕ × RegionTyp)) → x ∷ xs ≡ [] → ⊥
none_more x xs e = cc

pub lets_under : (g : ℕ → ℕ) (as' bs : List AnnotatedVariable) → map plain-Variable bs ≡ map (turned g) (map plain-Variable as') → LetsUnder g (map written as') (map written bs)
lets_under g [] [] e = tt
lets_under g [] (b ∷ bs) e = absurd (none_more (plain-Variable b) (map plain-Variable bs) e)
lets_under g (a ∷ as') [] e = absurd (none_such (turned g (plain-Variable a)) (map (turned g) (map plain-Variable as')) e)
lets_under g (a ∷ as') (b ∷ bs) e =
    let d : ℕ × RegionTyp = turned g (plain-Variable a) in
    let h : plain-Variable b ≡ d = ap (λ xs. first_of xs d) e in
    ((ap (λ (x : ℕ × RegionTyp). x.0) h, ap (λ (x : ℕ × RegionTyp). x.1) h), lets_under g as' bs (ap rest_of e))
