-- What is known of lifetimes doesn't rest on the polarities that declarations have recorded.
use Rattle.std.proofs.Common.{◌≡◌, ◌↔◌, ◌⊎◌, ℕ, Bool, List, [], ◌∷◌, map, Option, Some, None, Result, IfOk, slice_get, refl, sym, ap, ◌∙◌, subst}
use Rattle.std.specs.Prelude.{option_map, length, ◌==◌}
use Rattle.std.proofs.lemmas.Option.{slice_get-map}
use Rattle.rx_core.specs.declared.types.Bound.{Bound}
use Rattle.rx_tree.specs.declared.tree.Program.{Program}
use Rattle.rx_tree.specs.Plain.{ProgramTree}
use Rattle.rx_tree.specs.PlainOf.{plain-Program}
use Rattle.rx_resolve_names.specs.declared.resolved.ItemNames.{ItemNames}
use Rattle.rx_resolve_names.specs.Causes.{Meant}
use Rattle.rx_typed.specs.declared.declarations.Decl.{Decl}
use Rattle.rx_typed.specs.declared.declarations.Decl.TheVariants as decl
use Rattle.rx_typed.specs.Regions.{RegionTyp, region-Ty, regions_of, held_regions, regions}
use Rattle.rx_typed_declarations.specs.Variance.{unrecorded}
use Rattle.rx_region_outlives.specs.Implied.{Implied, ImpliedAmong, HasPair}
use Rattle.rx_typeck_typed.specs.declared.typed.Typed.{Typed}
use Rattle.rx_typeck_typed.specs.Typing.{IsTyped}
use Rattle.rx_check.specs.Front.{Front, IsFrontOf}
use Rattle.rx_hoist_made.proofs.Dropped.{ok_map}
use Rattle.rx_compact.specs.Outliving.{Says, Outlives, itself, by, is_single}
use Rattle.rx_compact.specs.Compacted.{compacted, Tells, IsCompacted}

-- ---- what an item holds and says

held_same : (d : Decl) → held_regions (unrecorded d) ≡ held_regions d
held_same decl.Rt = refl
held_same (decl.Struct c l vs fs) = refl
held_same (decl.Enum c l vs ds) = refl
held_same (decl.Func l ps t bs) = refl

regions_same : (D : List Decl) → regions (map unrecorded D) ≡ regions D
regions_same [] = refl
regions_same (d ∷ D) = λ j. held_same d j ∷ regions_same D j

single_same : (o : Option Decl) → is_single (option_map unrecorded o) ≡ is_single o
single_same None = refl
single_same (Some decl.Rt) = refl
single_same (Some (decl.Struct c l vs fs)) = refl
single_same (Some (decl.Enum c l vs ds)) = refl
single_same (Some (decl.Func l ps t bs)) = refl

says_bare : (D : List Decl) (o : Option Decl) → Says D (option_map unrecorded o) ≡ Says D o
says_bare D None = refl
says_bare D (Some decl.Rt) = refl
says_bare D (Some (decl.Struct c l vs fs)) = refl
says_bare D (Some (decl.Enum c l vs ds)) = refl
says_bare D (Some (decl.Func l ps t bs)) = refl

-- by the types that items hold
abbrev says_by : List (List RegionTyp) → Option Decl → ℕ → ℕ → Type 0
says_by H (Some (decl.Func n ps t bs)) l k = HasPair bs l k ⊎ (ImpliedAmong H (regions_of (map region-Ty ps)) l k ⊎ Implied H (region-Ty t) l k)
says_by H _ l k = ⊥

says_is : (D : List Decl) (o : Option Decl) → Says D o ≡ says_by (regions D) o
says_is D None = refl
says_is D (Some decl.Rt) = refl
says_is D (Some (decl.Struct c l vs fs)) = refl
says_is D (Some (decl.Enum c l vs ds)) = refl
says_is D (Some (decl.Func l ps t bs)) = refl

-- ---- two lists of declarations that are the same but for what they have recorded

goes_over : (D E : List Decl) (o u : Option Decl) → Says D o ≡ Says E u → (l k : ℕ) → Outlives D o l k → Outlives E u l k
goes_over D E o u e l k itself = itself
goes_over D E o u e l k (by m s rest) = by m (subst (λ R. R l m) e s) (goes_over D E o u e m k rest)

module _ (D E : List Decl) (items : map unrecorded D ≡ map unrecorded E) (i : ℕ) where
  regions_alike : regions D ≡ regions E
  regions_alike = sym (regions_same D) ∙ (ap regions items ∙ regions_same E)

  bare_alike : option_map unrecorded (slice_get D i) ≡ option_map unrecorded (slice_get E i)
  bare_alike = sym (slice_get-map unrecorded D i) ∙ (ap (λ (l : List Decl). slice_get l i) items ∙ slice_get-map unrecorded E i)

  says_alike : Says D (slice_get D i) ≡ Says E (slice_get E i)
  says_alike = says_is D (slice_get D i) ∙ ap (λ H. says_by H (slice_get D i)) regions_alike ∙ sym (says_is E (slice_get D i))
      ∙ sym (says_bare E (slice_get D i)) ∙ ap (λ o. Says E o) bare_alike ∙ says_bare E (slice_get E i)

  pub single_alike : is_single (slice_get D i) ≡ is_single (slice_get E i)
  single_alike = sym (single_same (slice_get D i)) ∙ ap is_single bare_alike ∙ single_same (slice_get E i)

  pub tells_alike : (o : ℕ → ℕ → Bool) → Tells D i o → Tells E i o
  tells_alike o t l k = (
    λ e. goes_over D E (slice_get D i) (slice_get E i) says_alike l k ((t l k).0 e),
    λ x. (t l k).1 (goes_over E D (slice_get E i) (slice_get D i) (sym says_alike) l k x),
  )

-- by the types of a program
pub is_compacted : (p q : ProgramTree) (t : Typed) (i : ℕ) (o : ℕ → ℕ → Bool) (b : Bool) → Tells t.decls.items i o → b ≡ is_single (slice_get t.decls.items i)
    → q ≡ compacted o b p i → (names : List ItemNames) → Meant p names → IsTyped p names t → IsCompacted p i q
is_compacted p q t i o b tells single is names meant typed = record {
  names = names;
  meant = meant;
  declared = typed.declared;
  declares = typed.declares;
  outlives = o;
  tells = tells_alike t.decls.items typed.declared typed.same i o tells;
  same = is ∙ ap (λ c. compacted o c p i) (single ∙ single_alike t.decls.items typed.declared typed.same i);
}

-- of a program that the passes up to initialisation accept
pub by_front : {E : Type 0} (p : ProgramTree) (i : ℕ) (x : Front) (t : Typed) (r : Result Program E) → IsFrontOf p x → t ≡ x.typed
    → IfOk r (λ it. (names : List ItemNames) → Meant p names → IsTyped p names t → IsCompacted p i (plain-Program it)) → IfOk r (λ it. IsCompacted p i (plain-Program it))
by_front p i x t r front is h = ok_map (λ (it : Program). (names : List ItemNames) → Meant p names → IsTyped p names t → IsCompacted p i (plain-Program it)) (λ (it : Program). IsCompacted p i (plain-Program it)) r
    (λ it f. f front.accepted.names front.accepted.meant (subst (IsTyped p front.accepted.names) (sym is) front.accepted.typed)) h
