-- What the typed tree looks at of types and of what is declared is the same where these correspond by other numbers.
use Rattle.std.proofs.Common.{◌≡◌, ℕ, zero, suc, true, false, List, [], ◌∷◌, ◌++◌, map, Option, Some, None, option_map, slice_get, refl, sym, ap, ◌∙◌, subst, if◌then◌else◌}
use Rattle.std.specs.Str.{bytes_eq}
use Rattle.rx_core.specs.declared.types.Step.{Step}
use Rattle.rx_core.specs.declared.types.Step.TheVariants as step
use Rattle.rx_typed.specs.declared.nodes.Node.{Node}
use Rattle.rx_typed.specs.declared.nodes.Site.{Site}
use Rattle.rx_typed.specs.Types as types
use Rattle.rx_typed.specs.Types.{Shape, Typ, integer, boolean, tuple_of, reference, rt_declared, struct_declared, enum_declared, function_declared, Declared, FieldDeclared, VariantDeclared, Declarations, fields_declared, variants_declared, field_number, peeled}
use Rattle.rx_typed.specs.Elaborated as elaborated
use Rattle.rx_typed.specs.Elaborated.{Assigned, dereferences, dereference, field_in, Coercion, coercion, coercion_in, coercion_at, Met, met, kind_in, is_several, has_several}
use Rattle.rx_engine_blocks.specs.Renumbering.{Renumbering, shape_at, field_at, variant_at, declared_at}
use Rattle.rx_engine_blocks.specs.DemandsLike.{Is}
use Rattle.rx_engine_blocks.specs.DemandsLike.Is.{itself}
use Rattle.rx_engine_blocks.proofs.Meets.{peeled_at}
use Rattle.rx_engine_simulation.specs.Places.{LikeSteps}
use Rattle.rx_engine_typing.specs.Renumbered.{NodeAt}
use Rattle.rx_engine_typing.specs.Renumbered.NodeAt.{renumbered}
use Rattle.rx_engine_typing.specs.Corresponding.{Corresponding}
use Rattle.rx_engine_typing.proofs.Sights.{same_steps}

pub is_path : {A : Type 0} {a b : A} → a ≡ b → Is a b
is_path {A} {a} e = subst (λ (x : A). Is a x) e itself

module _ (r : Renumbering) where
  dereferences_at : (t : Typ) → dereferences (shape_at r t) ≡ dereferences t
  dereferences_at (reference m t) = ap (λ ss. step.Deref m ∷ ss) (dereferences_at t)
  dereferences_at _ = refl

  dereference_at : (t : Typ) → dereference (shape_at r t) ≡ dereference t
  dereference_at (reference m t) = refl
  dereference_at _ = refl

  pub kind_at : (t : Typ) → kind_in (shape_at r t) ≡ kind_in t
  kind_at (integer k) = refl
  kind_at _ = refl

  number_in : (fs : List FieldDeclared) (x : List ℕ) → field_number (map (field_at r) fs) x ≡ field_number fs x
  number_in [] x = refl
  number_in (f ∷ fs) x = ap (λ n. if bytes_eq f.name x then zero else suc n) (number_in fs x)

  fields_in : (d : Option Declared) → fields_declared (option_map (declared_at r) d) ≡ map (field_at r) (fields_declared d)
  fields_in None = refl
  fields_in (Some rt_declared) = refl
  fields_in (Some (struct_declared c l fs)) = refl
  fields_in (Some (enum_declared c l vs)) = refl
  fields_in (Some (function_declared ps t)) = refl

  several_in : (vs : List VariantDeclared) → is_several (map (variant_at r) vs) ≡ is_several vs
  several_in [] = refl
  several_in (v ∷ []) = refl
  several_in (v ∷ w ∷ vs) = refl

  variants_in_it : (d : Option Declared) → variants_declared (option_map (declared_at r) d) ≡ map (variant_at r) (variants_declared d)
  variants_in_it None = refl
  variants_in_it (Some rt_declared) = refl
  variants_in_it (Some (struct_declared c l fs)) = refl
  variants_in_it (Some (enum_declared c l vs)) = refl
  variants_in_it (Some (function_declared ps t)) = refl

  coercion_of : (t u : Typ) → coercion (shape_at r t) (shape_at r u) ≡ coercion t u
  coercion_of (reference true t) (reference true u) = refl
  coercion_of (reference true t) (reference false u) = refl
  coercion_of (reference true t) _ = refl
  coercion_of (reference false t) u = refl
  coercion_of _ u = refl

  pub met_at : (t : Typ) (m : Met) → met (shape_at r t) m ≡ met t m
  met_at (reference k t) m = met_at t (elaborated.meet k m)
  met_at _ m = refl

  module _ (T T' : Assigned) (a : Corresponding r T T') where
    pub field_in_at : (t : Typ) (x : List ℕ) → field_in T'.items (shape_at r t) x ≡ field_in T.items t x
    field_in_at (types.named i) x = ap (λ d. field_number (fields_declared d) x) (a.items i) ∙ ap (λ fs. field_number fs x) (fields_in (slice_get T.items i)) ∙ number_in (fields_declared (slice_get T.items i)) x
    field_in_at _ x = refl

    pub several_at : (i : ℕ) → has_several T'.items (r.items i) ≡ has_several T.items i
    several_at i = ap (λ d. is_several (variants_declared d)) (a.items i) ∙ ap is_several (variants_in_it (slice_get T.items i)) ∙ several_in (variants_declared (slice_get T.items i))

    pub typ_at : {n n' : Node} → NodeAt r n n' → T'.typ n'.number ≡ shape_at r (T.typ n.number)
    typ_at (renumbered {n = n}) = a.typ n.number

    -- ---- steps

    like_path : {ss ss' : List Step} → ss' ≡ ss → LikeSteps ss ss'
    like_path {ss} e = subst (λ (z : List Step). LikeSteps ss z) (sym e) (same_steps ss)

    pub field_steps : {n n' : Node} (x : List ℕ) → NodeAt r n n' → LikeSteps (dereferences (T.typ n.number) ++ step.Field (field_in T.items (peeled (T.typ n.number)) x) ∷ []) (dereferences (T'.typ n'.number) ++ step.Field (field_in T'.items (peeled (T'.typ n'.number)) x) ∷ [])
    field_steps {n} {n'} x h = like_path (
        ap (λ t. dereferences t ++ step.Field (field_in T'.items (peeled t) x) ∷ []) (typ_at h)
        ∙ ap (λ ss. ss ++ step.Field (field_in T'.items (peeled (shape_at r (T.typ n.number))) x) ∷ []) (dereferences_at (T.typ n.number))
        ∙ ap (λ i. dereferences (T.typ n.number) ++ step.Field i ∷ []) (ap (λ t. field_in T'.items t x) (peeled_at r (T.typ n.number)) ∙ field_in_at (peeled (T.typ n.number)) x))

    pub part_steps : {n n' : Node} (i : ℕ) → NodeAt r n n' → LikeSteps (dereferences (T.typ n.number) ++ step.Field i ∷ []) (dereferences (T'.typ n'.number) ++ step.Field i ∷ [])
    part_steps {n} i h = like_path (ap (λ t. dereferences t ++ step.Field i ∷ []) (typ_at h) ∙ ap (λ ss. ss ++ step.Field i ∷ []) (dereferences_at (T.typ n.number)))

    pub deref_steps : {n n' : Node} → NodeAt r n n' → LikeSteps (dereference (T.typ n.number)) (dereference (T'.typ n'.number))
    deref_steps {n} h = like_path (ap dereference (typ_at h) ∙ dereference_at (T.typ n.number))

    -- ---- coercions

    both_coerced : (n : ℕ) → Is (coercion (T.typ n) (T.expected n)) (coercion (T'.typ (r.nodes n)) (T'.expected (r.nodes n)))
    both_coerced n = is_path (sym (ap (λ t. coercion t (T'.expected (r.nodes n))) (a.typ n) ∙ ap (coercion (shape_at r (T.typ n))) (a.expected n) ∙ coercion_of (T.typ n) (T.expected n)))

    coercion_like_in : (n : ℕ) (t : Site) → Is (coercion_in T n t) (coercion_in T' (r.nodes n) t)
    coercion_like_in n Site.Value = itself
    coercion_like_in n Site.Place = itself
    coercion_like_in n Site.Scrutinee = itself
    coercion_like_in n Site.Expects = both_coerced n
    coercion_like_in n Site.Initialises = both_coerced n
    coercion_like_in n Site.Reborrows = both_coerced n

    pub coercion_like : {n n' : Node} → NodeAt r n n' → Is (coercion_at T n) (coercion_at T' n')
    coercion_like (renumbered {n = n}) = coercion_like_in n.number n.site
