-- A function and the same with a short signature have, typed, the same variables and types of variables, and the same tree.
use Rattle.std.proofs.Common.{◌≡◌, ◌↔◌, ℕ, zero, suc, ◌+◌, ◌≤◌, Bool, List, [], ◌∷◌, map, Option, Some, None, option_map, refl, sym, ap, ap₂, subst, ◌∙◌, arith, slice_get}
use Rattle.rx_core.specs.declared.types.Span.{Span}
use Rattle.rx_core.specs.declared.types.Ty.{Ty}
use Rattle.rx_tree.specs.Plain as plain
use Rattle.rx_tree.specs.Plain.{Function, ItemTree, ProgramTree}
use Rattle.rx_resolve_names.specs.declared.resolved.ItemNames.{ItemNames}
use Rattle.rx_typed.specs.Types.{Typ, Declarations, unit_shape}
use Rattle.rx_typed.specs.PlainTypes.{plain-Ty}
use Rattle.rx_typed.specs.Regions.{RegionTyp, erased, region-Ty}
use Rattle.rx_typed.specs.Named as named
use Rattle.rx_typed.specs.Naming.{function_named}
use Rattle.rx_typed.specs.Tree as tree
use Rattle.rx_typed.specs.Elaborated.{elaborated}
use Rattle.rx_typed_declarations.proofs.RegionLemmas.{is_erased}
use Rattle.rx_typeck_solver.specs.declared.facts.Subject.{Subject}
use Rattle.rx_typeck_solver.specs.declared.facts.Subject.TheVariants as subject
use Rattle.rx_typeck_solver.specs.Facts.{Assignment, KnownItems}
use Rattle.rx_typeck_solver.specs.Valid.{Valid, Told}
use Rattle.rx_typeck_elaborate_parts.specs.Assigning.{joined}
use Rattle.rx_typeck_typed.specs.Demands.{demands, task}
use Rattle.rx_typeck_typed.specs.declared.typed.TypedFn.{TypedFn}
use Rattle.rx_typeck_typed.specs.Typing.{Given, known_in, entries, variables_at, assigned, is_mutable, type_at, TypeIs, FunctionTyped, FunctionsTyped}
use Rattle.rx_facts_tables.specs.Initialised.{Initialised}
use Rattle.rx_lower.specs.Functions.{trimmed, trimmed_and}
use Rattle.rx_facts.specs.Functions.{body, frame_of, IsInitialised}
use Rattle.rx_facts.specs.Passing.{Each}
use Rattle.rx_compact.specs.Compacted.{compacted_function, compacted}
use Rattle.rx_compact_types.proofs.ShortTyped.{SameTables, tables_same, Short}

fun_ext : {A B : Type 0} (f g : A → B) → ((x : A) → f x ≡ g x) → f ≡ g
fun_ext f g h = λ i x. h x i

-- ---- tables that tell the same

trimmed_mapped : {A B : Type 0} (k : A → B) (t : Option A) (ts : List (Option A)) → map (option_map k) (trimmed_and t ts) ≡ trimmed_and (option_map k t) (map (option_map k) ts)
trimmed_mapped k None [] = refl
trimmed_mapped k None (x ∷ ts) = refl
trimmed_mapped k (Some y) ts = refl

none_is : {A B : Type 0} (k : A → B) (t : Option A) (ts : List (Option A)) → option_map k t ≡ None → map (option_map k) ts ≡ [] → map (option_map k) (trimmed_and t ts) ≡ []
none_is k t ts a b = trimmed_mapped k t ts ∙ (λ j. trimmed_and (a j) (b j))

same_trimmed : {A B : Type 0} (k : A → B) (T U : List (Option A)) → ((x : ℕ) → option_map k (joined (slice_get T x)) ≡ option_map k (joined (slice_get U x)))
    → map (option_map k) (trimmed T) ≡ map (option_map k) (trimmed U)
same_trimmed k [] [] h = refl
same_trimmed k [] (u ∷ us) h = sym (none_is k u (trimmed us) (sym (h 0)) (sym (same_trimmed k [] us (λ x. h (suc x)))))
same_trimmed k (t ∷ ts) [] h = none_is k t (trimmed ts) (h 0) (same_trimmed k ts [] (λ x. h (suc x)))
same_trimmed k (t ∷ ts) (u ∷ us) h =
    trimmed_mapped k t (trimmed ts) ∙ (λ j. trimmed_and (h 0 j) (same_trimmed k ts us (λ x. h (suc x)) j)) ∙ sym (trimmed_mapped k u (trimmed us))

told_same : (K : KnownItems) (F : named.Function) (A : Assignment) (x : Subject) (o p : Option Ty) → TypeIs K F A x o → TypeIs K F A x p → option_map region-Ty o ≡ option_map region-Ty p
told_same K F A x None None h k = refl
told_same K F A x None (Some z) h k = absurd (h k.0)
told_same K F A x (Some y) None h k = absurd (k h.0)
told_same K F A x (Some y) (Some z) h k = ap (λ (t : RegionTyp). Some t) (h.1 ∙ sym k.1)

plain_types : (rs : List (Option Ty)) → map (option_map plain-Ty) rs ≡ map (option_map erased) (map (option_map region-Ty) rs)
plain_types [] = refl
plain_types (None ∷ rs) = ap (λ (l : List (Option Typ)). None ∷ l) (plain_types rs)
plain_types (Some t ∷ rs) = λ j. Some (sym (is_erased t) j) ∷ plain_types rs j

-- ---- functions

pub record FunctionAlike (t u : TypedFn) : Type 0 where
  pub mutable : u.mutable ≡ t.mutable
  pub bodies : body u ≡ body t
  pub types : map (option_map region-Ty) (trimmed u.variables) ≡ map (option_map region-Ty) (trimmed t.variables)

module _ (G H : Given) (known : known_in H ≡ known_in G) where
  abbrev K : KnownItems
  K = known_in G

  function_alike : (n : ℕ) (s : Span) (f g : Function) (a b : Option ItemNames) → SameTables n s f g a b → (t u : TypedFn)
      → FunctionTyped G n s f (entries a) (variables_at a) t → FunctionTyped H n s g (entries b) (variables_at b) u → FunctionAlike t u
  function_alike n s f g a b same t u x y =
      let F = function_named n s f (entries a) in
      let E = function_named n s g (entries b) in
      let valid : Valid K (task F) y.types = subst (λ k. Valid k (task F) y.types) known (subst (λ e. Valid (known_in H) (task e) y.types) same.tree y.valid) in
      let untold = λ (z : Subject) (h : Told (demands F) z → ⊥). y.untold z (subst (λ e. Told (demands e) z → ⊥) (sym same.tree) h) in
      let found = λ (z : Subject). subst (λ k. TypeIs k F y.types z (type_at u z)) known (subst (λ e. TypeIs (known_in H) e y.types z (type_at u z)) same.tree (y.found z)) in
      let one : (z : Subject) → x.types z ≡ y.types z = λ z. by F x.types y.types z (type_at t z) (x.found z) (λ h. x.untold z h) (λ h. untold z h) (λ h. x.valid.only_one y.types valid.prefers z h) in
      let types : x.types ≡ y.types = fun_ext x.types y.types one in
      record {
        mutable = y.mutable ∙ (ap (map is_mutable) same.variables ∙ sym x.mutable);
        bodies = y.tree ∙ (ap₂ (λ k e. elaborated (assigned k y.types) e) known same.tree ∙ (ap (λ A. elaborated (assigned K A) F) (sym types) ∙ sym x.tree));
        types = same_trimmed region-Ty u.variables t.variables (λ z. told_same K F y.types (subject.Variable z) (type_at u (subject.Variable z)) (type_at t (subject.Variable z)) (found (subject.Variable z))
            (subst (λ A. TypeIs K F A (subject.Variable z) (type_at t (subject.Variable z))) types (x.found (subject.Variable z))));
      }
    where
      by : (F : named.Function) (A B : Assignment) (z : Subject) (o : Option Ty) → TypeIs K F A z o → ((Told (demands F) z → ⊥) → A z ≡ unit_shape) → ((Told (demands F) z → ⊥) → B z ≡ unit_shape)
          → (Told (demands F) z → A z ≡ B z) → A z ≡ B z
      by F A B z None h p q r = p h ∙ sym (q h)
      by F A B z (Some y) h p q r = r h.0

  module _ (o : ℕ → ℕ → Bool) (single : Bool) (names news : List ItemNames) (i : ℕ) (others : (k : ℕ) → (k ≡ i → ⊥) → slice_get news k ≡ slice_get names k) where
    -- items that are the same in both
    rest_alike : (n : ℕ) (xs : ProgramTree) (ts us : List TypedFn) → ((k : ℕ) → n ≤ k → slice_get news k ≡ slice_get names k) → FunctionsTyped G names n xs ts → FunctionsTyped H news n xs us → Each FunctionAlike ts us
    rest_alike n [] ts us h a b = subst (Each FunctionAlike ts) (sym b) (subst (λ l. Each FunctionAlike l []) (sym a) tt)
    rest_alike n (plain.function_item s f ∷ xs) [] us h a b = absurd a
    rest_alike n (plain.function_item s f ∷ xs) (t ∷ ts) [] h a b = absurd b
    rest_alike n (plain.function_item s f ∷ xs) (t ∷ ts) (u ∷ us) h a b = (
      function_alike n s f f (slice_get names n) (slice_get news n) (tables_same n s f (slice_get names n) (slice_get news n) (h n (omega arith))) t u a.0 b.0,
      rest_alike (suc n) xs ts us (λ k g. h k (omega (arith, g))) a.1 b.1,
    )
    rest_alike n (plain.rt_item s r ∷ xs) ts us h a b = rest_alike (suc n) xs ts us (λ k g. h k (omega (arith, g))) a b
    rest_alike n (plain.struct_item s d ∷ xs) ts us h a b = rest_alike (suc n) xs ts us (λ k g. h k (omega (arith, g))) a b
    rest_alike n (plain.enum_item s d ∷ xs) ts us h a b = rest_alike (suc n) xs ts us (λ k g. h k (omega (arith, g))) a b

    far : (n : ℕ) → i ≡ n + 0 → (k : ℕ) → suc n ≤ k → slice_get news k ≡ slice_get names k
    far n w k g = others k (λ h. omega (arith, w, g, h))

    near : (n m : ℕ) → i ≡ n + suc m → slice_get news n ≡ slice_get names n
    near n m w = others n (λ h. omega (arith, w, h))

    at : (n : ℕ) (s : Span) (f g : Function) → i ≡ n + 0 → SameTables i s f g (slice_get names i) (slice_get news i) → SameTables n s f g (slice_get names n) (slice_get news n)
    at n s f g w t = subst (λ k. SameTables k s f g (slice_get names k) (slice_get news k)) (let e : i ≡ n = omega (arith, w) in e) t

    pub all_alike : (n : ℕ) (xs : ProgramTree) (m : ℕ) → i ≡ n + m → ((x : ItemTree) → slice_get xs m ≡ Some x → Short o single G H known names news i others x) → (ts us : List TypedFn)
        → FunctionsTyped G names n xs ts → FunctionsTyped H news n (compacted o single xs m) us → Each FunctionAlike ts us
    all_alike n [] m w x ts us a b = subst (Each FunctionAlike ts) (sym b) (subst (λ l. Each FunctionAlike l []) (sym a) tt)
    all_alike n (plain.function_item s f ∷ xs) zero w x [] us a b = absurd a
    all_alike n (plain.function_item s f ∷ xs) zero w x (t ∷ ts) [] a b = absurd b
    all_alike n (plain.function_item s f ∷ xs) zero w x (t ∷ ts) (u ∷ us) a b = (
      function_alike n s f (compacted_function o single f) (slice_get names n) (slice_get news n) (at n s f (compacted_function o single f) w (x (plain.function_item s f) refl)) t u a.0 b.0,
      rest_alike (suc n) xs ts us (far n w) a.1 b.1,
    )
    all_alike n (plain.rt_item s r ∷ xs) zero w x ts us a b = rest_alike (suc n) xs ts us (far n w) a b
    all_alike n (plain.struct_item s d ∷ xs) zero w x ts us a b = rest_alike (suc n) xs ts us (far n w) a b
    all_alike n (plain.enum_item s d ∷ xs) zero w x ts us a b = rest_alike (suc n) xs ts us (far n w) a b
    all_alike n (plain.function_item s f ∷ xs) (suc m) w x [] us a b = absurd a
    all_alike n (plain.function_item s f ∷ xs) (suc m) w x (t ∷ ts) [] a b = absurd b
    all_alike n (plain.function_item s f ∷ xs) (suc m) w x (t ∷ ts) (u ∷ us) a b = (
      function_alike n s f f (slice_get names n) (slice_get news n) (tables_same n s f (slice_get names n) (slice_get news n) (near n m w)) t u a.0 b.0,
      all_alike (suc n) xs m (omega (arith, w)) x ts us a.1 b.1,
    )
    all_alike n (plain.rt_item s r ∷ xs) (suc m) w x ts us a b = all_alike (suc n) xs m (omega (arith, w)) x ts us a b
    all_alike n (plain.struct_item s d ∷ xs) (suc m) w x ts us a b = all_alike (suc n) xs m (omega (arith, w)) x ts us a b
    all_alike n (plain.enum_item s d ∷ xs) (suc m) w x ts us a b = all_alike (suc n) xs m (omega (arith, w)) x ts us a b

-- ---- initialised alike

same_frame : (D E : Declarations) → E ≡ D → (parts : ℕ → ℕ) (t u : TypedFn) → FunctionAlike t u → frame_of E parts u ≡ frame_of D parts t
same_frame D E e parts t u s =
    let types : map (option_map plain-Ty) (trimmed u.variables) ≡ map (option_map plain-Ty) (trimmed t.variables) =
    plain_types (trimmed u.variables) ∙ (ap (map (option_map erased)) s.types ∙ sym (plain_types (trimmed t.variables))) in
    λ j. record { declared = e j; sizes = parts; types = types j }

pub initialised_alike : (D E : Declarations) → E ≡ D → (parts : ℕ → ℕ) (t u : TypedFn) → FunctionAlike t u → IsInitialised D parts t ↔ IsInitialised E parts u
initialised_alike D E e parts t u s =
    let f = same_frame D E e parts t u s in (
      λ a. subst (λ F. Initialised F u.mutable (body u)) (sym f) (subst (λ m. Initialised (frame_of D parts t) m (body u)) (sym s.mutable) (subst (λ b. Initialised (frame_of D parts t) t.mutable b) (sym s.bodies) a)),
      λ a. subst (λ b. Initialised (frame_of D parts t) t.mutable b) s.bodies (subst (λ m. Initialised (frame_of D parts t) m (body u)) s.mutable (subst (λ F. Initialised F u.mutable (body u)) f a)),
    )
