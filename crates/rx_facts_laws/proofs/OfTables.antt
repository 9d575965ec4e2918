-- The typed tree of a function is the one that its tables of types make.
use Rattle.std.proofs.Common.{◌≡◌, ℕ, zero, suc, ◌+◌, List, [], ◌∷◌, slice_get, Option, Some, None, refl, sym, ap, ◌∙◌, subst, arith}
use Rattle.rx_core.specs.declared.types.Kind.{Kind}
use Rattle.rx_core.specs.declared.types.Span.{Span}
use Rattle.rx_core.specs.declared.types.Ty.{Ty}
use Rattle.rx_tree.specs.Plain as plain
use Rattle.rx_tree.specs.Plain.{ProgramTree}
use Rattle.rx_resolve_names.specs.declared.resolved.ItemNames.{ItemNames}
use Rattle.rx_resolve_names.specs.declared.resolved.NodeNames.{NodeNames}
use Rattle.rx_typed.specs.Types.{Typ, Shapes, integer, boolean, tuple_of, reference, named, no_shape, shape_and, unit_shape, Declarations}
use Rattle.rx_typed.specs.PlainTypes.{declarations}
use Rattle.rx_typed.specs.Regions.{erased, all_erased}
use Rattle.rx_typed.specs.Named.{Function}
use Rattle.rx_typed.specs.Naming.{function_named}
use Rattle.rx_typed.specs.Elaborated.{Assigned, elaborated}
use Rattle.rx_typed.specs.PlainTree.{plain-TypedTree}
use Rattle.rx_lower_walks.specs.Walks.{Among, here, there}
use Rattle.rx_typed_declarations.proofs.RegionLemmas.{is_erased}
use Rattle.rx_typed_declarations.proofs.Polarities.{same_declared}
use Rattle.rx_typeck_elaborate_parts.specs.Assigning.{shape_of}
use Rattle.rx_typeck_solver.specs.declared.facts.Subject.{Subject}
use Rattle.rx_typeck_solver.specs.declared.facts.Subject.TheVariants as subject
use Rattle.rx_typeck_solver.specs.Facts.{Assignment, KnownItems}
use Rattle.rx_typeck_solver.specs.Valid.{Told}
use Rattle.rx_typeck_solver.specs.Views.{unnumbered, all_unnumbered}
use Rattle.rx_typeck_typed.specs.Demands.{demands}
use Rattle.rx_typeck_typed.specs.declared.typed.TypedFn.{TypedFn}
use Rattle.rx_typeck_typed.specs.declared.typed.Typed.{Typed}
use Rattle.rx_typeck_typed.specs.Typing.{Given, known_in, entries, variables_at, assigned, type_at, TypeIs, FunctionTyped, FunctionsTyped, IsTyped}
use Rattle.rx_facts_laws.specs.TreesOfTables.{of_tables, IsOfTables}

-- ---- types

mutual
  erased_unnumbered : (D : Declarations) (t : Typ) → erased (unnumbered D t) ≡ t
  erased_unnumbered D (integer k) = refl
  erased_unnumbered D boolean = refl
  erased_unnumbered D (tuple_of ts) = ap (λ (x : Shapes Kind). tuple_of x) (all_erased_unnumbered D ts)
  erased_unnumbered D (reference m t) = ap (λ (x : Typ). reference m x) (erased_unnumbered D t)
  erased_unnumbered D (named i) = refl

  all_erased_unnumbered : (D : Declarations) (ts : Shapes Kind) → all_erased (all_unnumbered D ts) ≡ ts
  all_erased_unnumbered D no_shape = refl
  all_erased_unnumbered D (shape_and t ts) = λ i. shape_and (erased_unnumbered D t i) (all_erased_unnumbered D ts i)

type_is : (K : KnownItems) (F : Function) (A : Assignment) (x : Subject) (o : Option Ty) → ((Told (demands F) x → ⊥) → A x ≡ unit_shape) → TypeIs K F A x o → A x ≡ shape_of o
type_is K F A x None u h = u h
type_is K F A x (Some y) u h = sym (erased_unnumbered K.items (A x)) ∙ ap erased (sym h.1) ∙ is_erased y

-- ---- a function

module _ (G : Given) (n : ℕ) (s : Span) (g : plain.Function) (ns : List NodeNames) (vars : List Span) (f : TypedFn) (h : FunctionTyped G n s g ns vars f) where
  each_type : (x : Subject) → h.types x ≡ shape_of (type_at f x)
  each_type x = type_is (known_in G) (function_named n s g ns) h.types x (type_at f x) (h.untold x) (h.found x)

  types_are : assigned (known_in G) h.types ≡ of_tables (known_in G).items f
  types_are = λ i. record { items = (known_in G).items; typ = λ m. each_type (subject.Node m) i; expected = λ m. each_type (subject.Expected m) i }

  tree_is : (D : Declarations) → (known_in G).items ≡ D → plain-TypedTree f.tree ≡ elaborated (of_tables D f) (function_named n s g ns)
  tree_is D e = h.tree ∙ ap (λ (T : Assigned). elaborated T (function_named n s g ns)) types_are
      ∙ ap (λ (E : Declarations). elaborated (of_tables E f) (function_named n s g ns)) e

-- ---- the functions of a program, the first item of which has the number n

record Stands (G : Given) (ns : List ItemNames) (n : ℕ) (p : ProgramTree) (f : TypedFn) : Type 0 where
  pub place : ℕ
  pub span : Span
  pub function : plain.Function
  pub stands : slice_get p place ≡ Some (plain.function_item span function)
  pub typed : FunctionTyped G (n + place) span function (entries (slice_get ns (n + place))) (variables_at (slice_get ns (n + place))) f

further : (G : Given) (ns : List ItemNames) (n : ℕ) (x : plain.ItemTree) (p : ProgramTree) (f : TypedFn) → Stands G ns (suc n) p f → Stands G ns n (x ∷ p) f
further G ns n x p f a =
    let at : suc n + a.place ≡ n + suc a.place = omega arith in
    record {
      place = suc a.place;
      span = a.span;
      function = a.function;
      stands = a.stands;
      typed = subst (λ k. FunctionTyped G k a.span a.function (entries (slice_get ns k)) (variables_at (slice_get ns k)) f) at a.typed;
    }

each_stands : (G : Given) (ns : List ItemNames) (n : ℕ) (p : ProgramTree) (ts : List TypedFn) → FunctionsTyped G ns n p ts → (f : TypedFn) → Among f ts → Stands G ns n p f
each_stands G ns n [] ts e f m = elim (subst (λ (l : List TypedFn). Among f l) e m) [ ]
each_stands G ns n (plain.function_item s g ∷ p) [] h f m = absurd h
each_stands G ns n (plain.function_item s g ∷ p) (t ∷ ts) h f here =
    let at : n ≡ n + 0 = omega arith in
    record {
      place = zero;
      span = s;
      function = g;
      stands = refl;
      typed = subst (λ k. FunctionTyped G k s g (entries (slice_get ns k)) (variables_at (slice_get ns k)) t) at h.0;
    }
each_stands G ns n (plain.function_item s g ∷ p) (t ∷ ts) h f (there m) = further G ns n _ p f (each_stands G ns (suc n) p ts h.1 f m)
each_stands G ns n (plain.rt_item s r ∷ p) ts h f m = further G ns n _ p f (each_stands G ns (suc n) p ts h f m)
each_stands G ns n (plain.struct_item s d ∷ p) ts h f m = further G ns n _ p f (each_stands G ns (suc n) p ts h f m)
each_stands G ns n (plain.enum_item s d ∷ p) ts h f m = further G ns n _ p f (each_stands G ns (suc n) p ts h f m)

pub of_its_tables : (p : ProgramTree) (ns : List ItemNames) (t : Typed) → IsTyped p ns t → (f : TypedFn) → Among f t.functions → IsOfTables p ns (declarations t.decls.items) f
of_its_tables p ns t h f m =
    let G : Given = record { program = p; declared = h.declared; sizes = h.sizes } in
    let a = each_stands G ns 0 p t.functions h.functions f m in
    let zeroth : 0 + a.place ≡ a.place = omega arith in
    let item : 0 + a.place ≡ f.item = sym a.typed.item in
    let D = declarations t.decls.items in
    record {
      span = a.span;
      function = a.function;
      stands = ap (λ k. slice_get p k) (sym item ∙ zeroth) ∙ a.stands;
      tree = subst (λ k. plain-TypedTree f.tree ≡ elaborated (of_tables D f) (function_named k a.span a.function (entries (slice_get ns k)))) item
          (tree_is G (0 + a.place) a.span a.function (entries (slice_get ns (0 + a.place))) (variables_at (slice_get ns (0 + a.place))) f a.typed D (sym (same_declared t.decls.items h.declared h.same)));
    }
