-- The `let`s of a function that isn't the short one write the same types: reading a type, and the parts of one, know structs and enums alone.
use Rattle.std.proofs.Common.{◌≡◌, ℕ, suc, List, [], ◌∷◌, ◌++◌, map, Option, Some, None, slice_get, refl, sym, ap, ap₂, ◌∙◌}
use Rattle.rx_core.specs.declared.types.Step.TheVariants as step
use Rattle.rx_tree.specs.Plain.{TypeTree, ProgramTree}
use Rattle.rx_resolve_names.specs.declared.resolved.NodeNames.{NodeNames}
use Rattle.rx_typed.specs.declared.declarations.Decl.{Decl}
use Rattle.rx_typed.specs.Elaborated.{Met, met, field_in}
use Rattle.rx_typed.specs.Named as named
use Rattle.rx_typed.specs.Named.{Pattern, Patterns, FieldPatterns}
use Rattle.rx_typed.specs.Naming.{Annotation, of_pattern}
use Rattle.rx_typed.specs.PlainTypes.{declarations}
use Rattle.rx_typed.specs.Regions.{RegionTyp, erased, region-Ty}
use Rattle.rx_typed.specs.Types as types
use Rattle.rx_typeck_elaborate_parts.specs.Entries.{in_front}
use Rattle.rx_typeck_typed.specs.declared.variables.AnnotatedVariable.{AnnotatedVariable}
use Rattle.rx_typeck_typed.specs.Bindings.{peeled, way, part, bindings, parts, fields, behind, of_let, of_lets}
use Rattle.rx_typeck_typed.specs.Items.{begins}
use Rattle.rx_typeck_typed.specs.Lets.{read, let_type}
use Rattle.rx_typeck_typed.specs.Walks.{plain-Variable}
use Rattle.rx_typeck_typed.specs.Written.{lifetimes_of}
use Rattle.rx_lower.specs.Functions.{written}
use Rattle.rx_compact_types.proofs.Programs.{renamed_itself}
use Rattle.rx_compact_types.proofs.SameTypes.{type}
use Rattle.rx_compact_accepted.specs.AreShort.{IsShort}
use Rattle.rx_compact_accepted.proofs.Items.{place_same}
use Rattle.rx_compact_accepted.specs.LetsUnder.{LetsUnder}

module _ (i : ℕ) (f : ℕ → ℕ) (D E : List Decl) (S : IsShort i f D E) (plain : declarations E ≡ declarations D) (free : ℕ) where
  part_same : (v : Option ℕ) (k : ℕ) (t : RegionTyp) → part E v k t ≡ part D v k t
  part_same v k t = place_same i f D E S t (way v ++ step.Field k ∷ [])

  mutual
    pub bindings_same : (p : Pattern) (r : Met) (t : RegionTyp) → bindings E free r p t ≡ bindings D free r p t
    bindings_same (named.wild n) r t = refl
    bindings_same (named.bind n x m) r t = refl
    bindings_same (named.whole_number n g v k) r t = refl
    bindings_same (named.truth n b) r t = refl
    bindings_same (named.tuple_pattern n ps) r t = parts_same ps (met (erased t) r) None 0 (peeled t)
    bindings_same (named.variant_pattern n j v ps) r t = parts_same ps (met (erased t) r) (Some v) 0 (peeled t)
    bindings_same (named.struct_pattern n j fs) r t = fields_same fs (met (erased t) r) j (peeled t)

    parts_same : (ps : Patterns) (r : Met) (v : Option ℕ) (k : ℕ) (t : RegionTyp) → parts E free r v k ps t ≡ parts D free r v k ps t
    parts_same named.no_pattern r v k t = refl
    parts_same (named.pattern_and p ps) r v k t =
        ap₂ (λ a b. a ++ b) (ap (bindings E free r p) (part_same v k t) ∙ bindings_same p r (part D v k t)) (parts_same ps r v (suc k) t)

    fields_same : (fs : FieldPatterns) (r : Met) (j : ℕ) (t : RegionTyp) → fields E free r j fs t ≡ fields D free r j fs t
    fields_same named.no_field_pattern r j t = refl
    fields_same (named.field_pattern_and x p fs) r j t =
        ap₂ (λ a b. a ++ b)
        (ap (λ A. bindings E free r p (part E None (field_in A (types.named j) x) t)) plain
        ∙ (ap (bindings E free r p) (part_same None (field_in (declarations D) (types.named j) x) t) ∙ bindings_same p r (part D None (field_in (declarations D) (types.named j) x) t)))
        (fields_same fs r j t)

  module _ (p q : ProgramTree) (counts : (n : ℕ) → lifetimes_of (slice_get q n) ≡ lifetimes_of (slice_get p n)) where
    type_same : (t : TypeTree) (ns : List NodeNames) → let_type q free t ns ≡ let_type p free t ns
    type_same t ns = ap read (type p q counts t _ (begins ns free))

    let_same : (a : Annotation) → of_let q E free a ≡ of_let p D free a
    let_same a =
        ap (λ v. bindings E free None (of_pattern a.pattern (in_front a)).0 (region-Ty v)) (type_same a.typ (behind a).names)
        ∙ bindings_same (of_pattern a.pattern (in_front a)).0 None (region-Ty (let_type p free a.typ (behind a).names))

    pub lets_same : (as' : List Annotation) → of_lets q E free as' ≡ of_lets p D free as'
    lets_same [] = refl
    lets_same (a ∷ as') = ap₂ (λ x y. x ++ y) (let_same a) (lets_same as')

abbrev first_of : List (ℕ × RegionTyp) → ℕ × RegionTyp → ℕ × RegionTyp
first_of [] d = d
first_of (x ∷ xs) d = x

abbrev rest_of : List (ℕ × RegionTyp) → List (ℕ × RegionTyp)
rest_of [] = []
rest_of (x ∷ xs) = xs

none_such : (x : ℕ × RegionTyp) (xs : List (ℕ × RegionTyp)) → [] ≡ x ∷ xs → ⊥
none_such x xs e = cc

none_more : (x : ℕ × RegionTyp) (xs : List (ℕ × RegionTyp)) → x ∷ xs ≡ [] → ⊥
none_more x xs e = cc

-- where they write the same
pub same_lets : (as' bs : List AnnotatedVariable) → map plain-Variable bs ≡ map plain-Variable as' → LetsUnder (λ l. l) (map written as') (map written bs)
same_lets [] [] e = tt
same_lets [] (b ∷ bs) e = absurd (none_more (plain-Variable b) (map plain-Variable bs) e)
same_lets (a ∷ as') [] e = absurd (none_such (plain-Variable a) (map plain-Variable as') e)
same_lets (a ∷ as') (b ∷ bs) e =
    let h : plain-Variable b ≡ plain-Variable a = ap (λ xs. first_of xs (plain-Variable a)) e in
    ((ap (λ (x : ℕ × RegionTyp). x.0) h, ap (λ (x : ℕ × RegionTyp). x.1) h ∙ sym (renamed_itself (region-Ty a.ty))), same_lets as' bs (ap rest_of e))
