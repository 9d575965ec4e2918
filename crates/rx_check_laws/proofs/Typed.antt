-- A program that is equal apart from spans to a typed one is typed, the same but for places.
use Rattle.std.proofs.Common.{◌≡◌, ℕ, zero, suc, List, [], ◌∷◌, map, Option, Some, None, Ok, slice_get, refl, sym, ap, subst, ◌∙◌}
use Rattle.rx_core.specs.declared.types.Span.{Span}
use Rattle.rx_core.specs.declared.types.Ty.{Ty}
use Rattle.rx_tree.specs.Plain as plain
use Rattle.rx_tree.specs.Plain.{ItemTree, ProgramTree}
use Rattle.rx_tree.specs.Erase.{erase_function, erase_item, erase_program, nowhere, SameProgram}
use Rattle.rx_resolve_names.specs.Causes.{Meant}
use Rattle.rx_resolve_names.specs.declared.resolved.ItemNames.{ItemNames}
use Rattle.rx_resolve_names.specs.declared.resolved.NodeNames.{NodeNames}
use Rattle.rx_resolve_laws.specs.AlikeTables.{AllAlike}
use Rattle.rx_resolve_laws.proofs.Programs.{meant_there}
use Rattle.rx_typed.specs.declared.declarations.Decl.{Decl}
use Rattle.rx_typed.specs.Elaborated.{elaborated}
use Rattle.rx_typed.specs.Named.{Function}
use Rattle.rx_typed.specs.Naming.{function_annotations, function_named, function_spans, function_variables}
use Rattle.rx_typed.specs.PlainTypes.{declarations}
use Rattle.rx_typed.specs.Types.{unit_shape}
use Rattle.rx_typeck_solver.specs.declared.facts.Subject.{Subject}
use Rattle.rx_typeck_solver.specs.declared.facts.Subject.TheVariants as subject
use Rattle.rx_typeck_solver.specs.Facts.{Assignment, KnownItems}
use Rattle.rx_typeck_solver.specs.Valid.{Told}
use Rattle.rx_typeck_typed.specs.declared.typed.Typed.{Typed}
use Rattle.rx_typeck_typed.specs.declared.typed.TypedFn.{TypedFn}
use Rattle.rx_typeck_typed.specs.Demands.{demands}
use Rattle.rx_typeck_typed.specs.Items.{declared_item, declared_items, entries_of}
use Rattle.rx_typeck_typed.specs.Programs.{Declares, Fits}
use Rattle.rx_typeck_typed.specs.Steps.{on_ok}
use Rattle.rx_typeck_typed.specs.Typing.{assigned, entries, known_in, type_at, variables_at, FunctionsTyped, FunctionTyped, Given, IsTyped, TypeIs}
use Rattle.rx_check_laws.specs.SameTyped.{SameFunction, SameFunctions, SameTyped}
use Rattle.rx_check_laws.proofs.Functions.{annotations_alike, mutable_alike, named_alike}
use Rattle.rx_check_laws.proofs.Asked.{asks_alike, bare, told_there, valid_there}
use Rattle.rx_check_laws.proofs.Elaborated.{elaborated_same}
use Rattle.rx_check_laws.proofs.Declared.{items_like, turned, well_there}
use Rattle.rx_check_laws.proofs.Lets.{annotated_same}
use Rattle.rx_check_laws.proofs.Fitting.{fits_with, fits_without}

-- ---- a function

abbrev at_places : TypedFn → List Span → List Span → TypedFn
at_places t xs ss = record t { names = xs; spans = ss }

type_same : (t : TypedFn) (xs ss : List Span) (x : Subject) → type_at t x ≡ type_at (at_places t xs ss) x
type_same t xs ss (subject.Variable x) = refl
type_same t xs ss (subject.Node n) = refl
type_same t xs ss (subject.Expected n) = refl

module _ (G : Given) (i : ℕ) (s : Span) (f : plain.Function) (ns : List NodeNames) where
  abbrev F : Function
  F = function_named i s f ns

  -- the same without spans
  abbrev E : Function
  E = function_named i nowhere (erase_function f) ns

  abbrev H : Given
  H = record { program = erase_program G.program; declared = G.declared; sizes = G.sizes }

  is_there : (A : Assignment) (x : Subject) (o : Option Ty) → TypeIs (known_in G) F A x o → TypeIs (known_in G) E A x o
  is_there A x None h = λ t. h (told_there (demands E) (demands F) x (sym (asks_alike F E (named_alike i s nowhere f ns))) t)
  is_there A x (Some y) h = (told_there (demands F) (demands E) x (asks_alike F E (named_alike i s nowhere f ns)) h.0, h.1)

  is_here : (A : Assignment) (x : Subject) (o : Option Ty) → TypeIs (known_in G) E A x o → TypeIs (known_in G) F A x o
  is_here A x None h = λ t. h (told_there (demands F) (demands E) x (asks_alike F E (named_alike i s nowhere f ns)) t)
  is_here A x (Some y) h = (told_there (demands E) (demands F) x (sym (asks_alike F E (named_alike i s nowhere f ns))) h.0, h.1)

  pub typed_without : (vars xs : List Span) (t : TypedFn) → FunctionTyped G i s f ns vars t → FunctionTyped H i nowhere (erase_function f) ns xs (at_places t xs (function_spans nowhere (erase_function f) ns))
  typed_without vars xs t h = record {
    item = h.item;
    names = refl;
    mutable = h.mutable ∙ mutable_alike s nowhere f ns;
    spans = refl;
    types = h.types;
    valid = valid_there (known_in G) h.types F E (asks_alike F E (named_alike i s nowhere f ns)) h.valid;
    untold = λ x no. h.untold x (λ y. no (told_there (demands F) (demands E) x (asks_alike F E (named_alike i s nowhere f ns)) y));
    found = λ x. subst (TypeIs (known_in G) E h.types x) (type_same t xs (function_spans nowhere (erase_function f) ns) x) (is_there h.types x (type_at t x) (h.found x));
    trimmed = h.trimmed;
    tree = h.tree ∙ elaborated_same (assigned (known_in G) h.types) F E (named_alike i s nowhere f ns);
    annotated = h.annotated ∙ annotated_same G.program G.declared i _ _ (annotations_alike s nowhere f ns);
  }

  pub typed_with : (vars xs : List Span) (t : TypedFn) → FunctionTyped H i nowhere (erase_function f) ns vars t → FunctionTyped G i s f ns xs (at_places t xs (function_spans s f ns))
  typed_with vars xs t h = record {
    item = h.item;
    names = refl;
    mutable = h.mutable ∙ sym (mutable_alike s nowhere f ns);
    spans = refl;
    types = h.types;
    valid = valid_there (known_in G) h.types E F (sym (asks_alike F E (named_alike i s nowhere f ns))) h.valid;
    untold = λ x no. h.untold x (λ y. no (told_there (demands E) (demands F) x (sym (asks_alike F E (named_alike i s nowhere f ns))) y));
    found = λ x. subst (TypeIs (known_in G) F h.types x) (type_same t xs (function_spans s f ns) x) (is_here h.types x (type_at t x) (h.found x));
    trimmed = h.trimmed;
    tree = h.tree ∙ sym (elaborated_same (assigned (known_in G) h.types) F E (named_alike i s nowhere f ns));
    annotated = h.annotated ∙ sym (annotated_same G.program G.declared i _ _ (annotations_alike s nowhere f ns));
  }

-- ---- functions

-- those of items, by their numbers; the first item has this one
abbrev placed : List ItemNames → ℕ → ProgramTree → List TypedFn → List TypedFn
placed ns i [] ts = []
placed ns i (plain.function_item s f ∷ is) [] = []
placed ns i (plain.function_item s f ∷ is) (t ∷ ts) = at_places t (variables_at (slice_get ns i)) (function_spans s f (entries (slice_get ns i))) ∷ placed ns (suc i) is ts
placed ns i (plain.rt_item s r ∷ is) ts = placed ns (suc i) is ts
placed ns i (plain.struct_item s d ∷ is) ts = placed ns (suc i) is ts
placed ns i (plain.enum_item s d ∷ is) ts = placed ns (suc i) is ts

module _ (p : ProgramTree) (declared : List Decl) (sizes : List ℕ) where
  abbrev G : Given
  G = record { program = p; declared = declared; sizes = sizes }

  abbrev K : Given
  K = record { program = erase_program p; declared = declared; sizes = sizes }

  functions_without : (ns : List ItemNames) (i : ℕ) (is : ProgramTree) (ts : List TypedFn) → FunctionsTyped G ns i is ts → FunctionsTyped K ns i (map erase_item is) (placed ns i (map erase_item is) ts)
  functions_without ns i [] ts h = refl
  functions_without ns i (plain.function_item s f ∷ is) [] h = elim h [ ]
  functions_without ns i (plain.function_item s f ∷ is) (t ∷ ts) h = (typed_without G i s f (entries (slice_get ns i)) _ (variables_at (slice_get ns i)) t h.0, functions_without ns (suc i) is ts h.1)
  functions_without ns i (plain.rt_item s r ∷ is) ts h = functions_without ns (suc i) is ts h
  functions_without ns i (plain.struct_item s d ∷ is) ts h = functions_without ns (suc i) is ts h
  functions_without ns i (plain.enum_item s d ∷ is) ts h = functions_without ns (suc i) is ts h

  functions_with : (ns ms : List ItemNames) → ((k : ℕ) → entries (slice_get ns k) ≡ entries (slice_get ms k)) → (i : ℕ) (is : ProgramTree) (ts : List TypedFn) → FunctionsTyped K ns i (map erase_item is) ts → FunctionsTyped G ms i is (placed ms i is ts)
  functions_with ns ms e i [] ts h = refl
  functions_with ns ms e i (plain.function_item s f ∷ is) [] h = elim h [ ]
  functions_with ns ms e i (plain.function_item s f ∷ is) (t ∷ ts) h = (
    subst (λ (ks : List NodeNames). FunctionTyped G i s f ks (variables_at (slice_get ms i)) (at_places t (variables_at (slice_get ms i)) (function_spans s f ks))) (e i)
        (typed_with G i s f (entries (slice_get ns i)) _ (variables_at (slice_get ms i)) t h.0),
    functions_with ns ms e (suc i) is ts h.1,
  )
  functions_with ns ms e i (plain.rt_item s r ∷ is) ts h = functions_with ns ms e (suc i) is ts h
  functions_with ns ms e i (plain.struct_item s d ∷ is) ts h = functions_with ns ms e (suc i) is ts h
  functions_with ns ms e i (plain.enum_item s d ∷ is) ts h = functions_with ns ms e (suc i) is ts h

-- ---- names

entries_there : (ns ms : List ItemNames) → AllAlike ns ms → (k : ℕ) → entries (slice_get ns k) ≡ entries (slice_get ms k)
entries_there [] [] h k = refl
entries_there [] (m ∷ ms) h k = elim h [ ]
entries_there (n ∷ ns) [] h k = elim h [ ]
entries_there (n ∷ ns) (m ∷ ms) h zero = h.0.names
entries_there (n ∷ ns) (m ∷ ms) h (suc k) = entries_there ns ms h.1 k

entries_so : (o : Option ItemNames) → entries_of o ≡ entries o
entries_so None = refl
entries_so (Some n) = refl

declared_by : (p : ProgramTree) (ns ms : List ItemNames) → ((k : ℕ) → entries (slice_get ns k) ≡ entries (slice_get ms k)) → (i : ℕ) (is : ProgramTree) → declared_items p ns i is ≡ declared_items p ms i is
declared_by p ns ms e i [] = refl
declared_by p ns ms e i (x ∷ is) =
    let a : entries_of (slice_get ns i) ≡ entries_of (slice_get ms i) = entries_so (slice_get ns i) ∙ e i ∙ sym (entries_so (slice_get ms i)) in
    let b = declared_by p ns ms e (suc i) is in
    ap (λ (ks : List NodeNames). on_ok (declared_item p ks x) (λ d. on_ok (declared_items p ns (suc i) is) (λ ds. Ok (d ∷ ds)))) a
    ∙ ap (λ r. on_ok (declared_item p (entries_of (slice_get ms i)) x) (λ d. on_ok r (λ ds. Ok (d ∷ ds)))) b

-- ---- the program

stays : (t : TypedFn) (xs ss : List Span) → SameFunction t (at_places t xs ss)
stays t xs ss = refl

all_stay : (G : Given) (ns : List ItemNames) (i : ℕ) (is : ProgramTree) (ts : List TypedFn) → FunctionsTyped G ns i is ts → SameFunctions ts (placed ns i (map erase_item is) ts)
all_stay G ns i [] [] h = tt
all_stay G ns i [] (t ∷ ts) h = absurd (never_more h)
  where
    never_more : {A : Type 0} {x : A} {xs : List A} → x ∷ xs ≡ [] → ⊥
    never_more e = cc
all_stay G ns i (plain.function_item s f ∷ is) [] h = elim h [ ]
all_stay G ns i (plain.function_item s f ∷ is) (t ∷ ts) h = (stays t _ _, all_stay G ns (suc i) is ts h.1)
all_stay G ns i (plain.rt_item s r ∷ is) ts h = all_stay G ns (suc i) is ts h
all_stay G ns i (plain.struct_item s d ∷ is) ts h = all_stay G ns (suc i) is ts h
all_stay G ns i (plain.enum_item s d ∷ is) ts h = all_stay G ns (suc i) is ts h

all_stay_with : (G : Given) (ns ms : List ItemNames) (i : ℕ) (is : ProgramTree) (ts : List TypedFn) → FunctionsTyped G ns i (map erase_item is) ts → SameFunctions ts (placed ms i is ts)
all_stay_with G ns ms i [] [] h = tt
all_stay_with G ns ms i [] (t ∷ ts) h = absurd (never_more h)
  where
    never_more : {A : Type 0} {x : A} {xs : List A} → x ∷ xs ≡ [] → ⊥
    never_more e = cc
all_stay_with G ns ms i (plain.function_item s f ∷ is) [] h = elim h [ ]
all_stay_with G ns ms i (plain.function_item s f ∷ is) (t ∷ ts) h = (stays t _ _, all_stay_with G ns ms (suc i) is ts h.1)
all_stay_with G ns ms i (plain.rt_item s r ∷ is) ts h = all_stay_with G ns ms (suc i) is ts h
all_stay_with G ns ms i (plain.struct_item s d ∷ is) ts h = all_stay_with G ns ms (suc i) is ts h
all_stay_with G ns ms i (plain.enum_item s d ∷ is) ts h = all_stay_with G ns ms (suc i) is ts h

one_behind : (f g h : TypedFn) → SameFunction f g → SameFunction g h → SameFunction f h
one_behind f g h a b = b ∙ ap (λ (x : TypedFn). at_places x h.names h.spans) a

all_behind : (fs gs hs : List TypedFn) → SameFunctions fs gs → SameFunctions gs hs → SameFunctions fs hs
all_behind [] [] [] a b = tt
all_behind [] [] (h ∷ hs) a b = elim b [ ]
all_behind [] (g ∷ gs) hs a b = elim a [ ]
all_behind (f ∷ fs) [] hs a b = elim a [ ]
all_behind (f ∷ fs) (g ∷ gs) [] a b = elim b [ ]
all_behind (f ∷ fs) (g ∷ gs) (h ∷ hs) a b = (one_behind f g h a.0 b.0, all_behind fs gs hs a.1 b.1)

pub record TypedThere (q : ProgramTree) (t : Typed) : Type 0 where
  pub names : List ItemNames
  pub meant : Meant q names
  pub typed : Typed
  pub is : IsTyped q names typed
  pub same : SameTyped t typed

pub typed_there : (p q : ProgramTree) → SameProgram p q → (ns : List ItemNames) → Meant p ns → (t : Typed) → IsTyped p ns t → TypedThere q t
typed_there p q e ns m t h = so (meant_there p q e ns m)
  where
    K : Given
    K = record { program = erase_program q; declared = h.declared; sizes = h.sizes }

    us : List TypedFn
    us = placed ns 0 (erase_program q) t.functions

    so : ((ms : List ItemNames) × Meant q ms × AllAlike ns ms) → TypedThere q t
    so (ms, n, a) = record {
      names = ms;
      meant = n;
      typed = record t { functions = placed ms 0 q us };
      is = record {
        declared = h.declared;
        declares = record {
          items = sym (declared_by q ns ms (entries_there ns ms a) 0 q) ∙ well_there h.declared (turned (items_like q ns 0 q))
              (subst (λ (r : ProgramTree). declared_items r ns 0 r ≡ Ok h.declared) e (well_there h.declared (items_like p ns 0 p) h.declares.items));
          fits = fits_with q (declarations h.declared) (subst (λ (r : ProgramTree). Fits r (declarations h.declared)) e (fits_without p (declarations h.declared) h.declares.fits));
        };
        same = h.same;
        recorded = h.recorded;
        as_many = h.as_many;
        well_formed = h.well_formed;
        sizes = h.sizes;
        is_sizes = h.is_sizes;
        functions = functions_with q h.declared h.sizes ns ms (entries_there ns ms a) 0 q us
            (subst (λ (r : ProgramTree). FunctionsTyped (record { program = r; declared = h.declared; sizes = h.sizes }) ns 0 r (placed ns 0 r t.functions)) e (functions_without p h.declared h.sizes ns 0 p t.functions h.functions));
      };
      same = record {
        declared = refl;
        functions = all_behind t.functions us (placed ms 0 q us)
            (subst (λ (r : ProgramTree). SameFunctions t.functions (placed ns 0 r t.functions)) e (all_stay (record { program = p; declared = h.declared; sizes = h.sizes }) ns 0 p t.functions h.functions))
            (all_stay_with K ns ms 0 q us (subst (λ (r : ProgramTree). FunctionsTyped (record { program = r; declared = h.declared; sizes = h.sizes }) ns 0 r (placed ns 0 r t.functions)) e (functions_without p h.declared h.sizes ns 0 p t.functions h.functions)));
      };
    }
