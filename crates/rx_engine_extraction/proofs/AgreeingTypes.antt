-- Two typed programs of one text have functions that are the same, and types that are the same but for their lifetimes.
use Rattle.std.proofs.Common.{◌≡◌, ℕ, suc, Bool, true, false, ◌==◌, List, [], ◌∷◌, map, slice_get, Option, Some, None, option_map, refl, sym, ap, subst, ◌∙◌}
use Rattle.std.specs.Prelude.{if◌then◌else◌}
use Rattle.rx_core.proofs.Results.{ok_is}
use Rattle.rx_core.specs.declared.types.Span.{Span}
use Rattle.rx_core.specs.declared.types.Ty.{Ty}
use Rattle.rx_tree.specs.Plain as plain
use Rattle.rx_tree.specs.Plain.{ProgramTree}
use Rattle.rx_graph_cycles.specs.Reaches.{NoCycle}
use Rattle.rx_resolve_names.specs.declared.resolved.ItemNames.{ItemNames}
use Rattle.rx_resolve_names.specs.declared.resolved.NodeNames.{NodeNames}
use Rattle.rx_resolve_names.specs.Causes.{Meant}
use Rattle.rx_typed.specs.declared.declarations.Decl.{Decl}
use Rattle.rx_typed.specs.Types.{Declarations}
use Rattle.rx_typed.specs.PlainTypes.{plain-Ty, declarations}
use Rattle.rx_typed.specs.Regions.{RegionTyp, region-Ty, erased}
use Rattle.rx_typed.specs.Named.{Function}
use Rattle.rx_typed.specs.Naming.{function_named}
use Rattle.rx_typed_declarations.specs.Held.{held_by_each}
use Rattle.rx_typed_declarations.specs.Sizes.{Sized, IsSizes}
use Rattle.rx_typed_declarations.proofs.RegionLemmas.{is_erased}
use Rattle.rx_typeck_typed.specs.Programs.{Fits}
use Rattle.rx_typeck_solver.specs.declared.facts.Subject.{Subject}
use Rattle.rx_typeck_solver.specs.Facts.{Assignment, KnownItems}
use Rattle.rx_typeck_typed.specs.declared.typed.TypedFn.{TypedFn}
use Rattle.rx_typeck_typed.specs.declared.typed.Typed.{Typed}
use Rattle.rx_typeck_typed.specs.Typing.{Given, known_in, entries, variables_at, type_at, TypeIs, FunctionTyped, FunctionsTyped, IsTyped}
use Rattle.rx_typeck_typed.proofs.ExclusionLemmas.{one_table}
use Rattle.rx_lower.specs.Functions.{function_at, trimmed}
use Rattle.rx_facts.specs.Passing.{Each}
use Rattle.rx_facts.specs.Same.{SameFunction, AreSame}

-- ---- types

pub record SameTypes (f g : TypedFn) : Type 0 where
  pub item : f.item ≡ g.item
  pub types : (x : Subject) → option_map plain-Ty (type_at f x) ≡ option_map plain-Ty (type_at g x)

one_assignment : (G : Given) (i : ℕ) (s : Span) (f : plain.Function) (ns : List NodeNames) (vars : List Span) (t u : TypedFn)
    (a : FunctionTyped G i s f ns vars t) (b : FunctionTyped G i s f ns vars u) → a.types ≡ b.types
one_assignment G i s f ns vars t u a b = λ j x. one_type x (type_at t x) (a.found x) j
  where
    one_type : (x : Subject) (o : Option Ty) → TypeIs (known_in G) (function_named i s f ns) a.types x o → a.types x ≡ b.types x
    one_type x None h = a.untold x h ∙ sym (b.untold x h)
    one_type x (Some y) h = a.valid.only_one b.types b.valid.prefers x h.0

told_same : (K : KnownItems) (F : Function) (A : Assignment) (x : Subject) (o p : Option Ty) → TypeIs K F A x o → TypeIs K F A x p → option_map region-Ty o ≡ option_map region-Ty p
told_same K F A x None None h k = refl
told_same K F A x None (Some z) h k = absurd (h k.0)
told_same K F A x (Some y) None h k = absurd (k h.0)
told_same K F A x (Some y) (Some z) h k = ap (λ (t : RegionTyp). Some t) (h.1 ∙ sym k.1)

plain_is : (o : Option Ty) → option_map plain-Ty o ≡ option_map erased (option_map region-Ty o)
plain_is None = refl
plain_is (Some t) = λ j. Some (sym (is_erased t) j)

same_types : (G : Given) (i : ℕ) (s : Span) (f : plain.Function) (ns : List NodeNames) (vars : List Span) (t u : TypedFn)
    → FunctionTyped G i s f ns vars t → FunctionTyped G i s f ns vars u → SameTypes t u
same_types G i s f ns vars t u a b = record { item = a.item ∙ sym b.item; types = types }
  where
    types : (x : Subject) → option_map plain-Ty (type_at t x) ≡ option_map plain-Ty (type_at u x)
    types x =
        let F = function_named i s f ns in
        let one = told_same (known_in G) F a.types x (type_at t x) (type_at u x) (a.found x)
        (subst (λ (A : Assignment). TypeIs (known_in G) F A x (type_at u x)) (sym (one_assignment G i s f ns vars t u a b)) (b.found x)) in
        plain_is (type_at t x) ∙ (ap (option_map erased) one ∙ sym (plain_is (type_at u x)))

each_typed : (G : Given) (ns : List ItemNames) (i : ℕ) (p : ProgramTree) (ts us : List TypedFn) → FunctionsTyped G ns i p ts → FunctionsTyped G ns i p us → Each SameTypes ts us
each_typed G ns i [] ts us a b = subst (Each SameTypes ts) (sym b) (subst (λ l. Each SameTypes l []) (sym a) tt)
each_typed G ns i (plain.function_item s f ∷ p) [] us a b = absurd a
each_typed G ns i (plain.function_item s f ∷ p) (t ∷ ts) [] a b = absurd b
each_typed G ns i (plain.function_item s f ∷ p) (t ∷ ts) (u ∷ us) a b =
    (same_types G i s f (entries (slice_get ns i)) (variables_at (slice_get ns i)) t u a.0 b.0, each_typed G ns (suc i) p ts us a.1 b.1)
each_typed G ns i (plain.rt_item s r ∷ p) ts us a b = each_typed G ns (suc i) p ts us a b
each_typed G ns i (plain.struct_item s d ∷ p) ts us a b = each_typed G ns (suc i) p ts us a b
each_typed G ns i (plain.enum_item s d ∷ p) ts us a b = each_typed G ns (suc i) p ts us a b

-- ---- the functions of one item

pub one_meaning : (p : ProgramTree) (ns ms : List ItemNames) → Meant p ns → Meant p ms → ns ≡ ms
one_meaning p ns ms a b = ok_is ns ms (sym a.names_are ∙ b.names_are)

some_one : (f g : TypedFn) → ◌≡◌ {A = Option TypedFn} (Some f) (Some g) → f ≡ g
some_one f g e = cc

none_or_some : (g : TypedFn) → ◌≡◌ {A = Option TypedFn} None (Some g) → ⊥
none_or_some g e = cc

-- what holds of each two functions of two lists, which have one item, holds of those that are found by an item
pub each_at : (R : TypedFn → TypedFn → Type 0) → ((f k : TypedFn) → R f k → f.item ≡ k.item) → (fs ks : List TypedFn) → Each R fs ks → (n : ℕ) (g h : TypedFn)
    → function_at fs n ≡ Some g → function_at ks n ≡ Some h → R g h
each_at R item [] [] e n g h a b = absurd (none_or_some g a)
each_at R item [] (k ∷ ks) e n g h a b = absurd e
each_at R item (f ∷ fs) [] e n g h a b = absurd e
each_at R item (f ∷ fs) (k ∷ ks) e n g h a b =
    by (f.item == n) a (subst (λ (i : ℕ). (if i == n then Some k else function_at ks n) ≡ Some h) (sym (item f k e.0)) b) (λ x y. each_at R item fs ks e.1 n g h x y)
  where
    by : (t : Bool) → (if t then Some f else function_at fs n) ≡ Some g → (if t then Some k else function_at ks n) ≡ Some h
        → (function_at fs n ≡ Some g → function_at ks n ≡ Some h → R g h) → R g h
    by true x y r = subst (λ (z : TypedFn). R z h) (some_one f g x) (subst (λ (z : TypedFn). R f z) (some_one k h y) e.0)
    by false x y r = r x y

plain_types : (rs : List (Option Ty)) → map (option_map plain-Ty) rs ≡ map (option_map erased) (map (option_map region-Ty) rs)
plain_types [] = refl
plain_types (r ∷ rs) = λ j. plain_is r j ∷ plain_types rs j

-- the types of variables in a frame
pub framed_alike : (f g : TypedFn) → SameFunction f g → map (option_map plain-Ty) (trimmed f.variables) ≡ map (option_map plain-Ty) (trimmed g.variables)
framed_alike f g s = plain_types (trimmed f.variables) ∙ (ap (map (option_map erased)) s.types ∙ sym (plain_types (trimmed g.variables)))

pub record SameTyped (f g : TypedFn) : Type 0 where
  pub same : SameFunction f g
  pub types : (x : Subject) → option_map plain-Ty (type_at f x) ≡ option_map plain-Ty (type_at g x)

abbrev given : ProgramTree → List Decl → List ℕ → Given
given p ds sizes = record { program = p; declared = ds; sizes = sizes }

module _ (same : (p : ProgramTree) (names : List ItemNames) (t u : Typed) → IsTyped p names t → IsTyped p names u → AreSame t u)
    (finite : (p : ProgramTree) (D : Declarations) → Fits p D → NoCycle (held_by_each D)) (some : (D : Declarations) → NoCycle (held_by_each D) → (P : ℕ → ℕ) × Sized D P) where
  typed_alike : (p : ProgramTree) (ns : List ItemNames) (t u : Typed) → IsTyped p ns t → IsTyped p ns u → Each SameTypes t.functions u.functions
  typed_alike p ns t u a b =
      let one : b.declared ≡ a.declared = ok_is b.declared a.declared (sym b.declares.items ∙ a.declares.items) in
      let table : b.sizes ≡ a.sizes = one_table finite some (declarations a.declared) b.sizes a.sizes
      (finite p (declarations a.declared) a.declares.fits) (subst (λ x. IsSizes (declarations x) b.sizes) one b.is_sizes) a.is_sizes in
      each_typed (given p a.declared a.sizes) ns 0 p t.functions u.functions a.functions
      (subst (λ l. FunctionsTyped (given p a.declared l) ns 0 p u.functions) table (subst (λ x. FunctionsTyped (given p x b.sizes) ns 0 p u.functions) one b.functions))

  pub function_alike : (p : ProgramTree) (ns : List ItemNames) (t u : Typed) → IsTyped p ns t → IsTyped p ns u → (n : ℕ) (f g : TypedFn)
      → function_at t.functions n ≡ Some f → function_at u.functions n ≡ Some g → SameTyped f g
  function_alike p ns t u a b n f g x y = record {
    same = each_at SameFunction (λ h k s. s.item) t.functions u.functions (same p ns t u a b).functions n f g x y;
    types = (each_at SameTypes (λ h k s. s.item) t.functions u.functions (typed_alike p ns t u a b) n f g x y).types;
  }
