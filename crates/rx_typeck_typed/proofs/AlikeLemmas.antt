-- Two typed programs of one text are alike: what it declares is one, and so are the parts of its structs and enums and the
-- valid assignment of each function.
use Rattle.std.proofs.Common.{◌≡◌, ℕ, suc, List, [], ◌∷◌, Option, Some, None, slice_get, sym, ap, subst, ◌∙◌}
use Rattle.rx_core.specs.declared.types.Span.{Span}
use Rattle.rx_core.specs.declared.types.Ty.{Ty}
use Rattle.rx_tree.specs.Plain as plain
use Rattle.rx_tree.specs.Plain.{ProgramTree}
use Rattle.rx_graph_cycles.specs.Reaches.{NoCycle}
use Rattle.rx_resolve_names.specs.declared.resolved.ItemNames.{ItemNames}
use Rattle.rx_resolve_names.specs.declared.resolved.NodeNames.{NodeNames}
use Rattle.rx_core.proofs.Results.{ok_is}
use Rattle.rx_typed.specs.declared.declarations.Decl.{Decl}
use Rattle.rx_typed.specs.Types.{Declarations}
use Rattle.rx_typed.specs.PlainTypes.{declarations}
use Rattle.rx_typed.specs.Naming.{function_named}
use Rattle.rx_typed.specs.Elaborated.{elaborated}
use Rattle.rx_typed_declarations.specs.Held.{held_by_each}
use Rattle.rx_typed_declarations.specs.Sizes.{Sized, IsSizes}
use Rattle.rx_typeck_typed.specs.Programs.{Fits}
use Rattle.rx_typeck_solver.specs.declared.facts.Subject.{Subject}
use Rattle.rx_typeck_typed.specs.declared.typed.TypedFn.{TypedFn}
use Rattle.rx_typeck_typed.specs.declared.typed.Typed.{Typed}
use Rattle.rx_typeck_typed.specs.Typing.{Given, known_in, entries, variables_at, assigned, type_at, TypeIs, FunctionTyped, FunctionsTyped, IsTyped}
use Rattle.rx_typeck_typed.specs.Alike.{FunctionsAlike, AreAlike}
use Rattle.rx_typed_declarations.proofs.Polarities.{same_declared}
use Rattle.rx_typeck_typed.proofs.ExclusionLemmas as exclusion

fun_ext : {A B : Type 0} (f g : A → B) → ((x : A) → f x ≡ g x) → f ≡ g
fun_ext f g h = λ i x. h x i

-- ---- functions

one_type : (G : Given) (i : ℕ) (s : Span) (f : plain.Function) (ns : List NodeNames) (vars : List Span) (t u : TypedFn)
    (a : FunctionTyped G i s f ns vars t) (b : FunctionTyped G i s f ns vars u) (x : Subject) (o : Option Ty) → TypeIs (known_in G) (function_named i s f ns) a.types x o
    → a.types x ≡ b.types x
one_type G i s f ns vars t u a b x None h = a.untold x h ∙ sym (b.untold x h)
one_type G i s f ns vars t u a b x (Some y) h = a.valid.only_one b.types b.valid.prefers x h.0

one_assignment : (G : Given) (i : ℕ) (s : Span) (f : plain.Function) (ns : List NodeNames) (vars : List Span) (t u : TypedFn)
    (a : FunctionTyped G i s f ns vars t) (b : FunctionTyped G i s f ns vars u) → a.types ≡ b.types
one_assignment G i s f ns vars t u a b = fun_ext _ _ (λ x. one_type G i s f ns vars t u a b x (type_at t x) (a.found x))

functions_alike : (G : Given) (ns : List ItemNames) (i : ℕ) (p : ProgramTree) (ts us : List TypedFn) → FunctionsTyped G ns i p ts → FunctionsTyped G ns i p us → FunctionsAlike ts us
functions_alike G ns i [] ts us a b = subst (FunctionsAlike ts) (sym b) (subst (λ l. FunctionsAlike l []) (sym a) tt)
functions_alike G ns i (plain.function_item s f ∷ p) [] us a b = absurd a
functions_alike G ns i (plain.function_item s f ∷ p) (t ∷ ts) [] a b = absurd b
functions_alike G ns i (plain.function_item s f ∷ p) (t ∷ ts) (u ∷ us) a b =
    let F = function_named i s f (entries (slice_get ns i)) in
    let types = one_assignment G i s f (entries (slice_get ns i)) (variables_at (slice_get ns i)) t u a.0 b.0 in
    (a.0.item ∙ sym b.0.item, a.0.spans ∙ sym b.0.spans, a.0.tree ∙ (ap (λ A. elaborated (assigned (known_in G) A) F) types ∙ sym b.0.tree), functions_alike G ns (suc i) p ts us a.1 b.1)
functions_alike G ns i (plain.rt_item s r ∷ p) ts us a b = functions_alike G ns (suc i) p ts us a b
functions_alike G ns i (plain.struct_item s d ∷ p) ts us a b = functions_alike G ns (suc i) p ts us a b
functions_alike G ns i (plain.enum_item s d ∷ p) ts us a b = functions_alike G ns (suc i) p ts us a b

-- ---- programs

abbrev given : ProgramTree → List Decl → List ℕ → Given
given p ds sizes = record { program = p; declared = ds; sizes = sizes }

module _ (finite : (p : ProgramTree) (D : Declarations) → Fits p D → NoCycle (held_by_each D)) (some : (D : Declarations) → NoCycle (held_by_each D) → (P : ℕ → ℕ) × Sized D P) where
  pub one_typed : (p : ProgramTree) (ns : List ItemNames) (t u : Typed) → IsTyped p ns t → IsTyped p ns u → AreAlike t u
  one_typed p ns t u a b =
      let same : b.declared ≡ a.declared = ok_is b.declared a.declared (sym b.declares.items ∙ a.declares.items) in
      let table : b.sizes ≡ a.sizes = exclusion.one_table finite some (declarations a.declared) b.sizes a.sizes
      (finite p (declarations a.declared) a.declares.fits) (subst (λ x. IsSizes (declarations x) b.sizes) same b.is_sizes) a.is_sizes in
      record {
        declared = same_declared t.decls.items a.declared a.same ∙ (sym (ap declarations same) ∙ sym (same_declared u.decls.items b.declared b.same));
        functions = functions_alike (given p a.declared a.sizes) ns 0 p t.functions u.functions a.functions
            (subst (λ l. FunctionsTyped (given p a.declared l) ns 0 p u.functions) table (subst (λ x. FunctionsTyped (given p x b.sizes) ns 0 p u.functions) same b.functions));
      }
