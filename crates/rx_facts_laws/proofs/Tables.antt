-- Two typed programs of one text have the same tables, to the last entry.
use Rattle.std.proofs.Common.{◌≡◌, ℕ, zero, suc, List, [], ◌∷◌, map, slice_get, Option, Some, None, refl, sym, ap, ◌∙◌, subst}
use Rattle.rx_core.specs.declared.types.Span.{Span}
use Rattle.rx_core.specs.declared.types.Ty.{Ty}
use Rattle.rx_tree.specs.Plain as plain
use Rattle.rx_tree.specs.Plain.{ProgramTree}
use Rattle.rx_graph_cycles.specs.Reaches.{NoCycle}
use Rattle.rx_resolve_names.specs.declared.resolved.ItemNames.{ItemNames}
use Rattle.rx_resolve_names.specs.declared.resolved.NodeNames.{NodeNames}
use Rattle.rx_core.proofs.Results.{ok_is}
use Rattle.rx_typed.specs.declared.declarations.Decl.{Decl}
use Rattle.rx_typed.specs.Types.{Declarations}
use Rattle.rx_typed.specs.PlainTypes.{declarations}
use Rattle.rx_typed.specs.Named.{Function}
use Rattle.rx_typed.specs.Naming.{function_named}
use Rattle.rx_typed_declarations.specs.Held.{held_by_each}
use Rattle.rx_typed_declarations.specs.Sizes.{Sized, IsSizes}
use Rattle.rx_typed_declarations.specs.Variance.{unrecorded}
use Rattle.rx_typed_declarations.proofs.OneType.{one_type}
use Rattle.rx_typed_declarations.proofs.Polarities.{one_recording}
use Rattle.rx_typeck_elaborate_parts.specs.Assigning.{joined}
use Rattle.rx_typeck_solver.specs.declared.facts.Subject.{Subject}
use Rattle.rx_typeck_solver.specs.declared.facts.Subject.TheVariants as subject
use Rattle.rx_typeck_solver.specs.Facts.{Assignment, KnownItems}
use Rattle.rx_typeck_solver.specs.Trimmed.{LastIsThere, IsTrimmed}
use Rattle.rx_typeck_typed.specs.Programs.{Fits}
use Rattle.rx_typeck_typed.specs.Walks.{plain-Variable}
use Rattle.rx_typeck_typed.specs.declared.variables.AnnotatedVariable.{AnnotatedVariable}
use Rattle.rx_typeck_typed.specs.declared.typed.TypedFn.{TypedFn}
use Rattle.rx_typeck_typed.specs.declared.typed.Typed.{Typed}
use Rattle.rx_typeck_typed.specs.Typing.{Given, known_in, entries, variables_at, type_at, TypeIs, FunctionTyped, FunctionsTyped, IsTyped}
use Rattle.rx_typeck_typed.proofs.ExclusionLemmas as exclusion
use Rattle.rx_facts_laws.specs.SameTables.{SameTables, EachSame, HaveSameTables}

-- ---- tables that end with their last type, and say the same of each number

-- one whose last type is there says something
says_some : {A : Type 0} (e : Option A) (es : List (Option A)) → LastIsThere e es → ((n : ℕ) → joined (slice_get (e ∷ es) n) ≡ None) → ⊥
says_some None [] h none = absurd (cc)
says_some (Some x) [] h none = let e : Some x ≡ None = none zero in cc
says_some e (f ∷ fs) h none = says_some f fs h (λ n. none (suc n))

behind : {A : Type 0} (e : Option A) (es : List (Option A)) → LastIsThere e es → IsTrimmed es
behind e [] h = tt
behind e (f ∷ fs) h = h

-- an empty table says nothing of any number
abbrev no_entries : {A : Type 0} → List (Option A)
no_entries = []

says_none : {A : Type 0} (n : ℕ) → joined (slice_get (no_entries {A = A}) n) ≡ None
says_none zero = refl
says_none (suc n) = refl

same_tables : {A : Type 0} (T U : List (Option A)) → IsTrimmed T → IsTrimmed U → ((n : ℕ) → joined (slice_get T n) ≡ joined (slice_get U n)) → T ≡ U
same_tables [] [] t u h = refl
same_tables [] (x ∷ xs) t u h = absurd (says_some x xs u (λ n. sym (h n) ∙ says_none n))
same_tables (x ∷ xs) [] t u h = absurd (says_some x xs t (λ n. h n ∙ says_none n))
same_tables (x ∷ xs) (y ∷ ys) t u h = (λ i. h zero i ∷ same_tables xs ys (behind x xs t) (behind y ys u) (λ n. h (suc n)) i)

-- ---- functions: a type that the rules give is that of the one valid assignment

fun_ext : {A B : Type 0} (f g : A → B) → ((x : A) → f x ≡ g x) → f ≡ g
fun_ext f g h = λ i x. h x i

one_answer : (G : Given) (i : ℕ) (s : Span) (f : plain.Function) (ns : List NodeNames) (vars : List Span) (t u : TypedFn)
    (a : FunctionTyped G i s f ns vars t) (b : FunctionTyped G i s f ns vars u) (x : Subject) (o : Option Ty)
    → TypeIs (known_in G) (function_named i s f ns) a.types x o → a.types x ≡ b.types x
one_answer G i s f ns vars t u a b x None h = a.untold x h ∙ sym (b.untold x h)
one_answer G i s f ns vars t u a b x (Some y) h = a.valid.only_one b.types b.valid.prefers x h.0

one_assignment : (G : Given) (i : ℕ) (s : Span) (f : plain.Function) (ns : List NodeNames) (vars : List Span) (t u : TypedFn)
    (a : FunctionTyped G i s f ns vars t) (b : FunctionTyped G i s f ns vars u) → a.types ≡ b.types
one_assignment G i s f ns vars t u a b = fun_ext _ _ (λ x. one_answer G i s f ns vars t u a b x (type_at t x) (a.found x))

one_told : (K : KnownItems) (F : Function) (A : Assignment) (x : Subject) (o p : Option Ty) → TypeIs K F A x o → TypeIs K F A x p → o ≡ p
one_told K F A x None None h k = refl
one_told K F A x None (Some z) h k = absurd (h k.0)
one_told K F A x (Some y) None h k = absurd (k h.0)
one_told K F A x (Some y) (Some z) h k = ap (λ (t : Ty). Some t) (one_type y z (h.1 ∙ sym k.1))

one_variable : (x y : AnnotatedVariable) → plain-Variable x ≡ plain-Variable y → x ≡ y
one_variable x y e =
    let number = ap (λ q. q.0) e in
    let typ = one_type x.ty y.ty (ap (λ q. q.1) e) in
    λ i. record { variable = number i; ty = typ i }

one_list : (xs ys : List AnnotatedVariable) → map plain-Variable xs ≡ map plain-Variable ys → xs ≡ ys
one_list [] [] e = refl
one_list [] (y ∷ ys) e = absurd (cc)
one_list (x ∷ xs) [] e = absurd (cc)
one_list (x ∷ xs) (y ∷ ys) e =
    let first : plain-Variable x ≡ plain-Variable y = cc in
    let rest : map plain-Variable xs ≡ map plain-Variable ys = cc in
    (λ i. one_variable x y first i ∷ one_list xs ys rest i)

same_function : (G : Given) (i : ℕ) (s : Span) (f : plain.Function) (ns : List NodeNames) (vars : List Span) (t u : TypedFn)
    → FunctionTyped G i s f ns vars t → FunctionTyped G i s f ns vars u → SameTables t u
same_function G i s f ns vars t u a b = record {
  item = a.item ∙ sym b.item;
  names = a.names ∙ sym b.names;
  mutable = a.mutable ∙ sym b.mutable;
  spans = a.spans ∙ sym b.spans;
  variables = same_tables t.variables u.variables a.trimmed.0 b.trimmed.0 (λ n. one (subject.Variable n));
  nodes = same_tables t.types.nodes u.types.nodes a.trimmed.1 b.trimmed.1 (λ n. one (subject.Node n));
  expected = same_tables t.types.expected u.types.expected a.trimmed.2 b.trimmed.2 (λ n. one (subject.Expected n));
  annotations = one_list t.annotations u.annotations (a.annotated ∙ sym b.annotated);
}
  where
    one : (x : Subject) → type_at t x ≡ type_at u x
    one x = one_told (known_in G) (function_named i s f ns) a.types x (type_at t x) (type_at u x) (a.found x)
        (subst (λ (A : Assignment). TypeIs (known_in G) (function_named i s f ns) A x (type_at u x)) (sym (one_assignment G i s f ns vars t u a b)) (b.found x))

each_same : (G : Given) (ns : List ItemNames) (i : ℕ) (p : ProgramTree) (ts us : List TypedFn) → FunctionsTyped G ns i p ts → FunctionsTyped G ns i p us → EachSame ts us
each_same G ns i [] ts us a b = subst (EachSame ts) (sym b) (subst (λ l. EachSame l []) (sym a) tt)
each_same G ns i (plain.function_item s f ∷ p) [] us a b = absurd a
each_same G ns i (plain.function_item s f ∷ p) (t ∷ ts) [] a b = absurd b
each_same G ns i (plain.function_item s f ∷ p) (t ∷ ts) (u ∷ us) a b =
    (same_function G i s f (entries (slice_get ns i)) (variables_at (slice_get ns i)) t u a.0 b.0, each_same G ns (suc i) p ts us a.1 b.1)
each_same G ns i (plain.rt_item s r ∷ p) ts us a b = each_same G ns (suc i) p ts us a b
each_same G ns i (plain.struct_item s d ∷ p) ts us a b = each_same G ns (suc i) p ts us a b
each_same G ns i (plain.enum_item s d ∷ p) ts us a b = each_same G ns (suc i) p ts us a b

-- ---- programs: what is declared is one, and how many parts structs and enums have

abbrev given : ProgramTree → List Decl → List ℕ → Given
given p ds sizes = record { program = p; declared = ds; sizes = sizes }

module _ (finite : (p : ProgramTree) (D : Declarations) → Fits p D → NoCycle (held_by_each D))
    (some : (D : Declarations) → NoCycle (held_by_each D) → (P : ℕ → ℕ) × Sized D P) where
  pub one_table : (p : ProgramTree) (ns : List ItemNames) (t u : Typed) → IsTyped p ns t → IsTyped p ns u → HaveSameTables t u
  one_table p ns t u a b =
      let same : b.declared ≡ a.declared = ok_is b.declared a.declared (sym b.declares.items ∙ a.declares.items) in
      let sizes : b.sizes ≡ a.sizes = exclusion.one_table finite some (declarations a.declared) b.sizes a.sizes
      (finite p (declarations a.declared) a.declares.fits) (subst (λ x. IsSizes (declarations x) b.sizes) same b.is_sizes) a.is_sizes in
      record {
        items = one_recording t.decls.items u.decls.items (a.same ∙ (sym (ap (map unrecorded) same) ∙ sym b.same)) a.recorded a.as_many b.recorded b.as_many;
        functions = each_same (given p a.declared a.sizes) ns 0 p t.functions u.functions a.functions
            (subst (λ l. FunctionsTyped (given p a.declared l) ns 0 p u.functions) sizes (subst (λ x. FunctionsTyped (given p x b.sizes) ns 0 p u.functions) same b.functions));
      }
