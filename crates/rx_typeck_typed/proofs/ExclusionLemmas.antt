-- A typed program has no fault: what it declares is one, and so are the parts of its structs and enums; and a function
-- has a valid assignment of types, or none.
use Rattle.std.proofs.Common.{◌≡◌, ℕ, suc, ◌<◌, true≢false, List, [], ◌∷◌, length, Ok, Err, slice_get, unwrap_or, inl, inr, arith, sym, ap, subst, ◌∙◌, refl}
use Rattle.std.specs.Result.{is_ok}
use Rattle.rx_tree.specs.Plain as plain
use Rattle.rx_tree.specs.Plain.{ProgramTree}
use Rattle.rx_graph_cycles.specs.Reaches.{NoCycle}
use Rattle.rx_resolve_names.specs.declared.resolved.ItemNames.{ItemNames}
use Rattle.rx_core.proofs.Results.{ok_is}
use Rattle.rx_typed.specs.declared.declarations.Decl.{Decl}
use Rattle.rx_typed.specs.Types.{Declarations}
use Rattle.rx_typed.specs.PlainTypes.{declarations}
use Rattle.rx_typed_declarations.specs.Held.{held_by_each}
use Rattle.rx_typed_declarations.specs.Sizes.{Sized, IsSizes}
use Rattle.rx_typeck_typed.specs.declared.fault.DeclareFault.{DeclareFault}
use Rattle.rx_typeck_typed.specs.Steps.{Outcome}
use Rattle.rx_typeck_typed.specs.Programs.{Fits, Unfit, derived_wrong, past_limit, main_wrong, Declares, Wrong, in_types, unfit}
use Rattle.rx_typeck_solver.specs.Stepping.{known}
use Rattle.rx_typeck_typed.specs.declared.typed.TypedFn.{TypedFn}
use Rattle.rx_typeck_typed.specs.declared.typed.Typed.{Typed}
use Rattle.rx_typeck_typed.specs.declared.typed.TypeFault.{TypeFault}
use Rattle.rx_typeck_typed.specs.Typing.{Given, known_in, FunctionsTyped, FirstUntyped, IsTyped, Causes, in_declaration, in_function}

-- ---- functions

no_first : (G : Given) (ns : List ItemNames) (i : ℕ) (p : ProgramTree) (ts : List TypedFn) (e : TypeFault) → FunctionsTyped G ns i p ts → FirstUntyped (known_in G) ns i p e → ⊥
no_first G ns i [] ts e t u = u
no_first G ns i (plain.function_item s f ∷ p) [] e t u = t
no_first G ns i (plain.function_item s f ∷ p) (x ∷ ts) e t (inl u) = u.none t.0.types t.0.valid
no_first G ns i (plain.function_item s f ∷ p) (x ∷ ts) e t (inr more) = no_first G ns (suc i) p ts e t.1 more.1
no_first G ns i (plain.rt_item s r ∷ p) ts e t u = no_first G ns (suc i) p ts e t u
no_first G ns i (plain.struct_item s d ∷ p) ts e t u = no_first G ns (suc i) p ts e t u
no_first G ns i (plain.enum_item s d ∷ p) ts e t u = no_first G ns (suc i) p ts e t u

-- ---- declarations

one_outcome : {A : Type 0} (o : Outcome A) (a : A) (e : DeclareFault) → o ≡ Ok a → o ≡ Err e → ⊥
one_outcome o a e ok err = true≢false (sym (ap is_ok ok) ∙ ap is_ok err)

same_list : (xs ys : List ℕ) → length xs ≡ length ys → ((i : ℕ) → i < length xs → slice_get xs i ≡ slice_get ys i) → xs ≡ ys
same_list [] [] long each = refl
same_list [] (y ∷ ys) long each = absurd (omega (arith, long))
same_list (x ∷ xs) [] long each = absurd (omega (arith, long))
same_list (x ∷ xs) (y ∷ ys) long each =
    let here : x ≡ y = ap (λ o. unwrap_or o 0) (each 0 (omega arith)) in
    let more : xs ≡ ys = same_list xs ys (omega (arith, long)) (λ i less. each (suc i) (omega (arith, less))) in
    λ j. here j ∷ more j

module _ (finite : (p : ProgramTree) (D : Declarations) → Fits p D → NoCycle (held_by_each D)) (some : (D : Declarations) → NoCycle (held_by_each D) → (P : ℕ → ℕ) × Sized D P) where
  fits_or_not : (p : ProgramTree) (D : Declarations) (e : DeclareFault) → Fits p D → Unfit p D e → ⊥
  fits_or_not p D e f (derived_wrong h) = one_outcome _ tt e f.derived_well h
  fits_or_not p D e f (past_limit d h) = let none = finite p D f in let s = some D none in
      one_outcome _ tt e (sym (f.limited.each none s.0 s.1)) (sym (h.each none s.0 s.1))
  fits_or_not p D e f (main_wrong d l h) = one_outcome _ tt e f.has_main h

  pub declared_or_wrong : (p : ProgramTree) (ns : List ItemNames) (ds : List Decl) (e : DeclareFault) → Declares p ns ds → Wrong p ns e → ⊥
  declared_or_wrong p ns ds e d (in_types h) = one_outcome _ ds e d.items h
  declared_or_wrong p ns ds e d (unfit es h u) =
      fits_or_not p (declarations es) e (subst (λ x. Fits p (declarations x)) (ok_is ds es (sym d.items ∙ h)) d.fits) u

  pub one_table : (D : Declarations) (xs ys : List ℕ) → NoCycle (held_by_each D) → IsSizes D xs → IsSizes D ys → xs ≡ ys
  one_table D xs ys none x y = let s = some D none in
      same_list xs ys (x.whole ∙ sym y.whole) (λ i less. let within : i < length D = omega (arith, less, x.whole) in
      x.each s.0 s.1 i within ∙ sym (y.each s.0 s.1 i within))

  pub typed_or_wrong : (p : ProgramTree) (ns : List ItemNames) (t : Typed) (e : TypeFault) → IsTyped p ns t → Causes p ns e → ⊥
  typed_or_wrong p ns t e typed (in_declaration d wrong is) = declared_or_wrong p ns typed.declared d typed.declares wrong
  typed_or_wrong p ns t e typed (in_function ds declares sizes is_sizes first) =
      let same : ds ≡ typed.declared = ok_is ds typed.declared (sym declares.items ∙ typed.declares.items) in
      let table : sizes ≡ typed.sizes = one_table (declarations typed.declared) sizes typed.sizes
      (finite p (declarations typed.declared) typed.declares.fits) (subst (λ x. IsSizes (declarations x) sizes) same is_sizes) typed.is_sizes in
      no_first (record { program = p; declared = typed.declared; sizes = typed.sizes }) ns 0 p t.functions e typed.functions
      (subst (λ l. FirstUntyped (known typed.declared l) ns 0 p e) table (subst (λ x. FirstUntyped (known x sizes) ns 0 p e) same first))
