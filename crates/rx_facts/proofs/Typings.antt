-- Two typed programs of one text have the same functions.
use Rattle.std.proofs.Common.{◌≡◌, ℕ, suc, ◌<◌, List, [], ◌∷◌, length, map, Option, Some, None, option_map, slice_get, unwrap_or, refl, sym, ap, subst, ◌∙◌, arith}
use Rattle.rx_core.specs.declared.types.Span.{Span}
use Rattle.rx_core.specs.declared.types.Ty.{Ty}
use Rattle.rx_tree.specs.Plain as plain
use Rattle.rx_tree.specs.Plain.{ProgramTree}
use Rattle.rx_graph_cycles.specs.Reaches.{NoCycle}
use Rattle.rx_resolve_names.specs.declared.resolved.ItemNames.{ItemNames}
use Rattle.rx_resolve_names.specs.declared.resolved.NodeNames.{NodeNames}
use Rattle.rx_core.proofs.Results.{ok_is}
use Rattle.rx_typed.specs.declared.declarations.Decl.{Decl}
use Rattle.rx_typed.specs.Types.{Declarations}
use Rattle.rx_typed.specs.PlainTypes.{declarations}
use Rattle.rx_typed.specs.Regions.{RegionTyp, region-Ty}
use Rattle.rx_typed.specs.Named.{Function}
use Rattle.rx_typed.specs.Naming.{function_named}
use Rattle.rx_typed.specs.Elaborated.{elaborated}
use Rattle.rx_typed_declarations.specs.Held.{held_by_each}
use Rattle.rx_typed_declarations.specs.Sizes.{Sized, IsSizes}
use Rattle.rx_typed_declarations.specs.Variance.{unrecorded}
use Rattle.rx_typeck_typed.specs.Programs.{Fits}
use Rattle.rx_typeck_elaborate_parts.specs.Assigning.{joined}
use Rattle.rx_typeck_typed.specs.declared.variables.AnnotatedVariable.{AnnotatedVariable}
use Rattle.rx_typeck_typed.specs.Walks.{plain-Variable}
use Rattle.rx_typeck_solver.specs.declared.facts.Subject.{Subject}
use Rattle.rx_typeck_solver.specs.declared.facts.Subject.TheVariants as subject
use Rattle.rx_typeck_solver.specs.Facts.{Assignment, KnownItems}
use Rattle.rx_typeck_typed.specs.declared.typed.TypedFn.{TypedFn}
use Rattle.rx_typeck_typed.specs.declared.typed.Typed.{Typed}
use Rattle.rx_typeck_typed.specs.Typing.{Given, known_in, entries, variables_at, assigned, type_at, TypeIs, FunctionTyped, FunctionsTyped, IsTyped}
use Rattle.rx_lower_lifetimes.specs.Variables.{Written}
use Rattle.rx_lower.specs.Functions.{trimmed, trimmed_and, written}
use Rattle.rx_facts.specs.Passing.{Each}
use Rattle.rx_facts.specs.Same.{SameFunction, AreSame}

fun_ext : {A B : Type 0} (f g : A → B) → ((x : A) → f x ≡ g x) → f ≡ g
fun_ext f g h = λ i x. h x i

-- ---- one assignment of types

one_type : (G : Given) (i : ℕ) (s : Span) (f : plain.Function) (ns : List NodeNames) (vars : List Span) (t u : TypedFn)
    (a : FunctionTyped G i s f ns vars t) (b : FunctionTyped G i s f ns vars u) (x : Subject) (o : Option Ty) → TypeIs (known_in G) (function_named i s f ns) a.types x o
    → a.types x ≡ b.types x
one_type G i s f ns vars t u a b x None h = a.untold x h ∙ sym (b.untold x h)
one_type G i s f ns vars t u a b x (Some y) h = a.valid.only_one b.types b.valid.prefers x h.0

one_assignment : (G : Given) (i : ℕ) (s : Span) (f : plain.Function) (ns : List NodeNames) (vars : List Span) (t u : TypedFn)
    (a : FunctionTyped G i s f ns vars t) (b : FunctionTyped G i s f ns vars u) → a.types ≡ b.types
one_assignment G i s f ns vars t u a b = fun_ext _ _ (λ x. one_type G i s f ns vars t u a b x (type_at t x) (a.found x))

told_same : (K : KnownItems) (F : Function) (A : Assignment) (x : Subject) (o p : Option Ty) → TypeIs K F A x o → TypeIs K F A x p → option_map region-Ty o ≡ option_map region-Ty p
told_same K F A x None None h k = refl
told_same K F A x None (Some z) h k = absurd (h k.0)
told_same K F A x (Some y) None h k = absurd (k h.0)
told_same K F A x (Some y) (Some z) h k = ap (λ (t : RegionTyp). Some t) (h.1 ∙ sym k.1)

-- ---- tables that tell the same

trimmed_mapped : {A B : Type 0} (k : A → B) (t : Option A) (ts : List (Option A)) → map (option_map k) (trimmed_and t ts) ≡ trimmed_and (option_map k t) (map (option_map k) ts)
trimmed_mapped k None [] = refl
trimmed_mapped k None (x ∷ ts) = refl
trimmed_mapped k (Some y) ts = refl

none_is : {A B : Type 0} (k : A → B) (t : Option A) (ts : List (Option A)) → option_map k t ≡ None → map (option_map k) ts ≡ [] → map (option_map k) (trimmed_and t ts) ≡ []
none_is k t ts a b = trimmed_mapped k t ts ∙ (λ j. trimmed_and (a j) (b j))

pub same_trimmed : {A B : Type 0} (k : A → B) (T U : List (Option A)) → ((x : ℕ) → option_map k (joined (slice_get T x)) ≡ option_map k (joined (slice_get U x)))
    → map (option_map k) (trimmed T) ≡ map (option_map k) (trimmed U)
same_trimmed k [] [] h = refl
same_trimmed k [] (u ∷ us) h = sym (none_is k u (trimmed us) (sym (h 0)) (sym (same_trimmed k [] us (λ x. h (suc x)))))
same_trimmed k (t ∷ ts) [] h = none_is k t (trimmed ts) (h 0) (same_trimmed k ts [] (λ x. h (suc x)))
same_trimmed k (t ∷ ts) (u ∷ us) h =
    trimmed_mapped k t (trimmed ts) ∙ (λ j. trimmed_and (h 0 j) (same_trimmed k ts us (λ x. h (suc x)) j)) ∙ sym (trimmed_mapped k u (trimmed us))

abbrev of_pair : ℕ × RegionTyp → Written
of_pair q = record { variable = q.0; typ = q.1 }

written_pairs : (xs : List AnnotatedVariable) → map written xs ≡ map of_pair (map plain-Variable xs)
written_pairs [] = refl
written_pairs (x ∷ xs) = ap (λ (l : List Written). written x ∷ l) (written_pairs xs)

-- ---- functions

same_function : (G : Given) (i : ℕ) (s : Span) (f : plain.Function) (ns : List NodeNames) (vars : List Span) (t u : TypedFn)
    → FunctionTyped G i s f ns vars t → FunctionTyped G i s f ns vars u → SameFunction t u
same_function G i s f ns vars t u a b =
    let F = function_named i s f ns in let types = one_assignment G i s f ns vars t u a b in record {
      item = a.item ∙ sym b.item;
      names = a.names ∙ sym b.names;
      spans = a.spans ∙ sym b.spans;
      mutable = a.mutable ∙ sym b.mutable;
      bodies = a.tree ∙ (ap (λ A. elaborated (assigned (known_in G) A) F) types ∙ sym b.tree);
      types = same_trimmed region-Ty t.variables u.variables (λ x. told_same (known_in G) F a.types (subject.Variable x) (type_at t (subject.Variable x)) (type_at u (subject.Variable x))
          (a.found (subject.Variable x)) (subst (λ (A : Assignment). TypeIs (known_in G) F A (subject.Variable x) (type_at u (subject.Variable x))) (sym types) (b.found (subject.Variable x))));
      annotated = written_pairs t.annotations ∙ (ap (map of_pair) (a.annotated ∙ sym b.annotated) ∙ sym (written_pairs u.annotations));
    }

same_functions : (G : Given) (ns : List ItemNames) (i : ℕ) (p : ProgramTree) (ts us : List TypedFn) → FunctionsTyped G ns i p ts → FunctionsTyped G ns i p us → Each SameFunction ts us
same_functions G ns i [] ts us a b = subst (Each SameFunction ts) (sym b) (subst (λ l. Each SameFunction l []) (sym a) tt)
same_functions G ns i (plain.function_item s f ∷ p) [] us a b = absurd a
same_functions G ns i (plain.function_item s f ∷ p) (t ∷ ts) [] a b = absurd b
same_functions G ns i (plain.function_item s f ∷ p) (t ∷ ts) (u ∷ us) a b =
    (same_function G i s f (entries (slice_get ns i)) (variables_at (slice_get ns i)) t u a.0 b.0, same_functions G ns (suc i) p ts us a.1 b.1)
same_functions G ns i (plain.rt_item s r ∷ p) ts us a b = same_functions G ns (suc i) p ts us a b
same_functions G ns i (plain.struct_item s d ∷ p) ts us a b = same_functions G ns (suc i) p ts us a b
same_functions G ns i (plain.enum_item s d ∷ p) ts us a b = same_functions G ns (suc i) p ts us a b

-- ---- programs

same_list : (xs ys : List ℕ) → length xs ≡ length ys → ((i : ℕ) → i < length xs → slice_get xs i ≡ slice_get ys i) → xs ≡ ys
same_list [] [] long each = refl
same_list [] (y ∷ ys) long each = absurd (omega (arith, long))
same_list (x ∷ xs) [] long each = absurd (omega (arith, long))
same_list (x ∷ xs) (y ∷ ys) long each =
    let here : x ≡ y = ap (λ o. unwrap_or o 0) (each 0 (omega arith)) in
    let more : xs ≡ ys = same_list xs ys (omega (arith, long)) (λ i less. each (suc i) (omega (arith, less))) in
    λ j. here j ∷ more j

abbrev given : ProgramTree → List Decl → List ℕ → Given
given p ds sizes = record { program = p; declared = ds; sizes = sizes }

module _ (finite : (p : ProgramTree) (D : Declarations) → Fits p D → NoCycle (held_by_each D)) (some : (D : Declarations) → NoCycle (held_by_each D) → (P : ℕ → ℕ) × Sized D P) where
  one_table : (D : Declarations) (xs ys : List ℕ) → NoCycle (held_by_each D) → IsSizes D xs → IsSizes D ys → xs ≡ ys
  one_table D xs ys none x y = let s = some D none in
      same_list xs ys (x.whole ∙ sym y.whole) (λ i less. let within : i < length D = omega (arith, less, x.whole) in
      x.each s.0 s.1 i within ∙ sym (y.each s.0 s.1 i within))

  pub one_typing : (p : ProgramTree) (ns : List ItemNames) (t u : Typed) → IsTyped p ns t → IsTyped p ns u → AreSame t u
  one_typing p ns t u a b =
      let same : b.declared ≡ a.declared = ok_is b.declared a.declared (sym b.declares.items ∙ a.declares.items) in
      let table : b.sizes ≡ a.sizes = one_table (declarations a.declared) b.sizes a.sizes
      (finite p (declarations a.declared) a.declares.fits) (subst (λ x. IsSizes (declarations x) b.sizes) same b.is_sizes) a.is_sizes in
      record {
        items = a.same ∙ (sym (ap (map unrecorded) same) ∙ sym b.same);
        functions = same_functions (given p a.declared a.sizes) ns 0 p t.functions u.functions a.functions
            (subst (λ l. FunctionsTyped (given p a.declared l) ns 0 p u.functions) table (subst (λ x. FunctionsTyped (given p x b.sizes) ns 0 p u.functions) same b.functions));
      }
