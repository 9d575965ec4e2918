-- A typed program is well-typed; and a program with names is well-typed, or has a fault of types that is no want of memory, and
-- not both: what it declares fits or doesn't, by the definitions, and each function has a valid assignment or a node that has
-- none (`Deciding.antt` of rx_typeck_solver).
use Rattle.std.proofs.Common.{◌≡◌, ◌≢◌, ◌⊎◌, ℕ, suc, List, [], ◌∷◌, map, Option, Some, None, slice_get, inl, inr, refl, sym, ap, subst, ◌∙◌}
use Rattle.rx_core.specs.declared.types.Span.{Span}
use Rattle.rx_tree.specs.Plain as plain
use Rattle.rx_tree.specs.Plain.{ProgramTree}
use Rattle.rx_resolve_names.specs.declared.resolved.ItemNames.{ItemNames}
use Rattle.rx_resolve_names.specs.declared.resolved.NodeNames.{NodeNames}
use Rattle.rx_graph_cycles.specs.Reaches.{NoCycle}
use Rattle.rx_tree.specs.Size.{IsNumbered}
use Rattle.rx_core.proofs.Results.{ok_is}
use Rattle.rx_typed.specs.declared.declarations.Decl.{Decl}
use Rattle.rx_typed.specs.Types.{Declarations}
use Rattle.rx_typed.specs.PlainTypes.{declarations}
use Rattle.rx_core.specs.declared.types.Ty.{Ty}
use Rattle.rx_typed.specs.Regions.{region-Ty}
use Rattle.rx_typed.specs.Named.{Function}
use Rattle.rx_typed.specs.Elaborated.{elaborated}
use Rattle.rx_typed_declarations.specs.Variance.{unrecorded}
use Rattle.rx_typeck_solver.specs.declared.facts.Subject.{Subject}
use Rattle.rx_typeck_solver.specs.Views.{unnumbered}
use Rattle.rx_typed.specs.Naming.{function_named}
use Rattle.rx_typed_declarations.specs.Held.{held_by_each}
use Rattle.rx_typed_declarations.specs.Sizes.{Sized, IsSizes}
use Rattle.rx_typeck_typed.specs.declared.fault.DeclareFault.{DeclareFault}
use Rattle.rx_typeck_typed.specs.declared.fault.DeclareFault.TheVariants as declare_fault
use Rattle.rx_typeck_typed.specs.Programs.{Fits, Declares}
use Rattle.rx_typeck_typed.proofs.Deciding as deciding
use Rattle.rx_typeck_solver.specs.Stepping.{known}
use Rattle.rx_typeck_typed.specs.Typing.{of_declaration, Causes, in_declaration, in_function}
use Rattle.rx_typeck_typed.proofs.ExclusionLemmas as exclusion
use Rattle.rx_typeck_solver.specs.declared.facts.Broken.{Broken}
use Rattle.rx_typeck_solver.specs.declared.facts.Broken.TheVariants as broken
use Rattle.rx_typeck_solver.specs.Facts.{Assignment, KnownItems}
use Rattle.rx_typeck_solver.specs.Valid.{Valid}
use Rattle.rx_typeck_solver.specs.Ordered.{Orderly}
use Rattle.rx_typeck_solver.proofs.Deciding.{Untold, Faulty, valid_or_not}
use Rattle.rx_typeck_typed.specs.Demands.{task}
use Rattle.rx_typeck_typed.specs.declared.typed.TypedFn.{TypedFn}
use Rattle.rx_typeck_typed.specs.declared.typed.Typed.{Typed}
use Rattle.rx_typeck_typed.specs.declared.typed.TypeFault.{TypeFault}
use Rattle.rx_typeck_typed.specs.declared.typed.TypeFault.TheVariants as fault
use Rattle.rx_typeck_typed.specs.Typing.{Given, known_in, entries, variables_at, assigned, type_at, TypeIs, fault_of, FunctionUntyped, FunctionsTyped, FirstUntyped, IsTyped}
use Rattle.rx_typeck_typed.specs.WellTyped.{IsValid, EachValid, WellTyped, functions_by, functions_of, EachIsOf}

-- ---- functions

each_valid : (G : Given) (ns : List ItemNames) (i : ℕ) (p : ProgramTree) (ts : List TypedFn) → FunctionsTyped G ns i p ts → EachValid (known_in G) ns i p
each_valid G ns i [] ts t = tt
each_valid G ns i (plain.function_item s f ∷ p) [] t = absurd t
each_valid G ns i (plain.function_item s f ∷ p) (x ∷ ts) t = ((t.0.types, record { valid = t.0.valid; untold = t.0.untold }), each_valid G ns (suc i) p ts t.1)
each_valid G ns i (plain.rt_item s r ∷ p) ts t = each_valid G ns (suc i) p ts t
each_valid G ns i (plain.struct_item s d ∷ p) ts t = each_valid G ns (suc i) p ts t
each_valid G ns i (plain.enum_item s d ∷ p) ts t = each_valid G ns (suc i) p ts t

pub no_first : (K : KnownItems) (ns : List ItemNames) (i : ℕ) (p : ProgramTree) (e : TypeFault) → EachValid K ns i p → FirstUntyped K ns i p e → ⊥
no_first K ns i [] e t u = u
no_first K ns i (plain.function_item s f ∷ p) e t (inl u) = u.none t.0.0 t.0.1.valid
no_first K ns i (plain.function_item s f ∷ p) e t (inr more) = no_first K ns (suc i) p e t.1 more.1
no_first K ns i (plain.rt_item s r ∷ p) e t u = no_first K ns (suc i) p e t u
no_first K ns i (plain.struct_item s d ∷ p) e t u = no_first K ns (suc i) p e t u
no_first K ns i (plain.enum_item s d ∷ p) e t u = no_first K ns (suc i) p e t u

fault_told : (s : Span) (b : Broken) (vars : List Span) → fault_of s b vars ≢ fault.OutOfMemory
fault_told s (broken.Mismatch r) vars e = cc
fault_told s (broken.Mutability x) vars e = cc
fault_told s broken.Literal vars e = cc

abbrev SomeUntyped : KnownItems → List ItemNames → ℕ → ProgramTree → Type 0
SomeUntyped K ns i p = (e : TypeFault) × (e ≢ fault.OutOfMemory) × FirstUntyped K ns i p e

pub each_or_first : (K : KnownItems) (ns : List ItemNames) (i : ℕ) (p : ProgramTree)
    → ((i : ℕ) (s : Span) (f : plain.Function) (es : List NodeNames) → Orderly (task (function_named i s f es))) → EachValid K ns i p ⊎ SomeUntyped K ns i p
each_or_first K ns i [] o = inl tt
each_or_first K ns i (plain.function_item s f ∷ p) o = by (valid_or_not K (task (function_named i s f (entries (slice_get ns i)))) (o i s f (entries (slice_get ns i)))) (each_or_first K ns (suc i) p o)
  where
    by : ((A : Assignment) × (Valid K (task (function_named i s f (entries (slice_get ns i)))) A × Untold (task (function_named i s f (entries (slice_get ns i)))) A)) ⊎ Faulty K (task (function_named i s f (entries (slice_get ns i)))) → EachValid K ns (suc i) p ⊎ SomeUntyped K ns (suc i) p
        → (((A : Assignment) × IsValid K (function_named i s f (entries (slice_get ns i))) A) × EachValid K ns (suc i) p) ⊎ SomeUntyped K ns i (plain.function_item s f ∷ p)
    by (inr u) r = let vars = variables_at (slice_get ns i) in
        inr (fault_of u.at u.rule vars, fault_told u.at u.rule vars, inl (record { none = u.none; node = u.node; at = u.at; rule = u.rule; asked = u.asked; breaks = u.breaks; is = refl }))
    by (inl v) (inl r) = inl ((v.0, record { valid = v.1.0; untold = v.1.1 }), r)
    by (inl v) (inr r) = inr (r.0, r.1, inr ((v.0, v.1.0), r.2))
each_or_first K ns i (plain.rt_item s r ∷ p) o = each_or_first K ns (suc i) p o
each_or_first K ns i (plain.struct_item s d ∷ p) o = each_or_first K ns (suc i) p o
each_or_first K ns i (plain.enum_item s d ∷ p) o = each_or_first K ns (suc i) p o

-- ---- typed functions are those of a well-typed program

fun_ext : {A B : Type 0} (f g : A → B) → ((x : A) → f x ≡ g x) → f ≡ g
fun_ext f g h = λ i x. h x i

one_type : (K : KnownItems) (F : Function) (A B : Assignment) → Valid K (task F) A → Untold (task F) A → IsValid K F B → (x : Subject) (o : Option Ty) → TypeIs K F A x o → A x ≡ B x
one_type K F A B v u w x None h = u x h ∙ sym (w.untold x h)
one_type K F A B v u w x (Some y) h = v.only_one B w.valid.prefers x h.0

type_told : (K : KnownItems) (F : Function) (A : Assignment) (x : Subject) (o : Option Ty) (y : Ty) → TypeIs K F A x o → o ≡ Some y → region-Ty y ≡ unnumbered K.items (A x)
type_told K F A x None y h e = absurd (cc)
type_told K F A x (Some z) y h e = let s : z ≡ y = cc in ap region-Ty (sym s) ∙ h.1

each_is_of : (G : Given) (ns : List ItemNames) (i : ℕ) (p : ProgramTree) (ts : List TypedFn) (v : EachValid (known_in G) ns i p) → FunctionsTyped G ns i p ts → EachIsOf (known_in G) ts (functions_by G ns i p v)
each_is_of G ns i [] ts v t = subst (λ l. EachIsOf (known_in G) l []) (sym t) tt
each_is_of G ns i (plain.function_item s f ∷ p) [] v t = absurd t
each_is_of G ns i (plain.function_item s f ∷ p) (x ∷ ts) v t =
    let F = function_named i s f (entries (slice_get ns i)) in
    let same : t.0.types ≡ v.0.0 = fun_ext t.0.types v.0.0 (λ y. one_type (known_in G) F t.0.types v.0.0 t.0.valid t.0.untold v.0.1 y (type_at x y) (t.0.found y)) in (
      record {
        item = t.0.item;
        names = t.0.names;
        mutable = t.0.mutable;
        spans = t.0.spans;
        types = λ y z e. type_told (known_in G) F t.0.types y (type_at x y) z (t.0.found y) e ∙ ap (λ (A : Assignment). unnumbered (known_in G).items (A y)) same;
        body = t.0.tree ∙ ap (λ A. elaborated (assigned (known_in G) A) F) same;
        written = t.0.annotated;
      },
      each_is_of G ns (suc i) p ts v.1 t.1,
    )
each_is_of G ns i (plain.rt_item s r ∷ p) ts v t = each_is_of G ns (suc i) p ts v t
each_is_of G ns i (plain.struct_item s d ∷ p) ts v t = each_is_of G ns (suc i) p ts v t
each_is_of G ns i (plain.enum_item s d ∷ p) ts v t = each_is_of G ns (suc i) p ts v t

-- ---- programs

pub well_typed : (p : ProgramTree) (ns : List ItemNames) (t : Typed) → IsTyped p ns t → WellTyped p ns
well_typed p ns t typed = record {
  declared = typed.declared;
  declares = typed.declares;
  sizes = typed.sizes;
  is_sizes = typed.is_sizes;
  functions = each_valid (record { program = p; declared = typed.declared; sizes = typed.sizes }) ns 0 p t.functions typed.functions;
}

declaration_told : (d : DeclareFault) → d ≢ declare_fault.OutOfMemory → of_declaration d ≢ fault.OutOfMemory
declaration_told (declare_fault.Mismatch s r) h e = cc
declaration_told (declare_fault.Elision s) h e = cc
declaration_told declare_fault.OutOfMemory h e = h refl

module _ (some : (D : Declarations) → NoCycle (held_by_each D) → (P : ℕ → ℕ) × Sized D P) (finite : (p : ProgramTree) (D : Declarations) → Fits p D → NoCycle (held_by_each D)) where
  pub not_both : (p : ProgramTree) (ns : List ItemNames) (e : TypeFault) → WellTyped p ns → Causes p ns e → ⊥
  not_both p ns e w (in_declaration d wrong is) = exclusion.declared_or_wrong finite some p ns w.declared d w.declares wrong
  not_both p ns e w (in_function ds declares sizes is_sizes first) =
      let same : ds ≡ w.declared = ok_is ds w.declared (sym declares.items ∙ w.declares.items) in
      let table : sizes ≡ w.sizes = exclusion.one_table finite some (declarations w.declared) sizes w.sizes
      (finite p (declarations w.declared) w.declares.fits) (subst (λ x. IsSizes (declarations x) sizes) same is_sizes) w.is_sizes in
      no_first (known w.declared w.sizes) ns 0 p e w.functions
      (subst (λ l. FirstUntyped (known w.declared l) ns 0 p e) table (subst (λ x. FirstUntyped (known x sizes) ns 0 p e) same first))

  pub one_program : (p : ProgramTree) (ns : List ItemNames) (t : Typed) → IsTyped p ns t → (w : WellTyped p ns)
      → (map unrecorded t.decls.items ≡ map unrecorded w.declared) × EachIsOf (known w.declared w.sizes) t.functions (functions_of p ns w)
  one_program p ns t typed w =
      let same : typed.declared ≡ w.declared = ok_is typed.declared w.declared (sym typed.declares.items ∙ w.declares.items) in
      let table : typed.sizes ≡ w.sizes = exclusion.one_table finite some (declarations w.declared) typed.sizes w.sizes
      (finite p (declarations w.declared) w.declares.fits) (subst (λ x. IsSizes (declarations x) typed.sizes) same typed.is_sizes) w.is_sizes in
      let G : Given = record { program = p; declared = w.declared; sizes = w.sizes } in
      let functions : FunctionsTyped G ns 0 p t.functions = subst (λ l. FunctionsTyped (record { program = p; declared = w.declared; sizes = l }) ns 0 p t.functions) table
      (subst (λ x. FunctionsTyped (record { program = p; declared = x; sizes = typed.sizes }) ns 0 p t.functions) same typed.functions) in
      (typed.same ∙ ap (λ x. map unrecorded x) same, each_is_of G ns 0 p t.functions w.functions functions)

  pub either : ((D : Declarations) (P Q : ℕ → ℕ) → NoCycle (held_by_each D) → Sized D P → Sized D Q → (i : ℕ) → P i ≡ Q i)
      → ((i : ℕ) (s : Span) (f : plain.Function) (es : List NodeNames) → Orderly (task (function_named i s f es)))
      → (p : ProgramTree) (ns : List ItemNames) → IsNumbered p → WellTyped p ns ⊎ ((e : TypeFault) × (e ≢ fault.OutOfMemory) × Causes p ns e)
  either one orderly p ns numbered = declared (deciding.declared_or_wrong some one finite p ns numbered)
    where
      functions : (ds : List Decl) (declares : Declares p ns ds) (sizes : List ℕ) → IsSizes (declarations ds) sizes
          → EachValid (known ds sizes) ns 0 p ⊎ SomeUntyped (known ds sizes) ns 0 p → WellTyped p ns ⊎ ((e : TypeFault) × (e ≢ fault.OutOfMemory) × Causes p ns e)
      functions ds declares sizes is (inl v) = inl (record { declared = ds; declares = declares; sizes = sizes; is_sizes = is; functions = v })
      functions ds declares sizes is (inr u) = inr (u.0, u.1, in_function ds declares sizes is u.2)

      declared : deciding.Declared some one p ns ⊎ deciding.Misdeclared some one p ns → WellTyped p ns ⊎ ((e : TypeFault) × (e ≢ fault.OutOfMemory) × Causes p ns e)
      declared (inl d) = functions d.0 d.1.0 d.1.1.0 d.1.1.1 (each_or_first (known d.0 d.1.1.0) ns 0 p orderly)
      declared (inr w) = inr (of_declaration w.0, declaration_told w.0 w.1.0, in_declaration w.0 w.1.1 refl)
