-- The typed function of an item is the program's function of this number.
use Rattle.std.proofs.Common.{◌≡◌, ℕ, zero, suc, ◌+◌, ◌<◌, ◌==◌, Bool, true, false, if◌then◌else◌, List, [], ◌∷◌, Option, Some, None, slice_get, Ok, refl, sym, ap, ◌∙◌, subst, arith}
use Rattle.std.proofs.lemmas.Bool.{eqb-true, eq-eqb, true≢false}
use Rattle.rx_core.specs.declared.types.Span.{Span}
use Rattle.rx_tree.specs.Plain as plain
use Rattle.rx_tree.specs.Plain.{ItemTree, ProgramTree}
use Rattle.rx_resolve_names.specs.declared.resolved.ItemNames.{ItemNames}
use Rattle.rx_typed.specs.declared.declarations.Decl.{Decl}
use Rattle.rx_typed.specs.Types.{Declarations}
use Rattle.rx_typed.specs.Tree.{Function}
use Rattle.rx_typed.specs.PlainTypes.{plain-Decl, declarations}
use Rattle.rx_typed.specs.PlainTree.{plain-TypedTree}
use Rattle.rx_typed_declarations.proofs.Polarities.{same_declared}
use Rattle.rx_typeck_typed.specs.Steps as steps
use Rattle.rx_typeck_typed.specs.Items.{declared_item, declared_items, entries_of}
use Rattle.rx_typeck_typed.specs.declared.typed.Typed.{Typed}
use Rattle.rx_typeck_typed.specs.declared.typed.TypedFn.{TypedFn}
use Rattle.rx_typeck_typed.specs.Typing.{Given, FunctionsTyped, IsTyped}
use Rattle.rx_lower.specs.Functions.{function_at}
use Rattle.rx_machine.specs.Functions.{is_function, first_of, behind, typed_functions, program_of}
use Rattle.rx_meaning.specs.Values.{element}
use Rattle.rx_meaning_accepted.proofs.Fields.{read_ok, read_same}
use Rattle.rx_meaning_accepted.proofs.Calls.{DeclaredAs, declared_as}

none_found : (f : TypedFn) → ◌≡◌ {A = Option TypedFn} None (Some f) → ⊥
none_found f e = cc

one_found : (f g : TypedFn) → ◌≡◌ {A = Option TypedFn} (Some f) (Some g) → f ≡ g
one_found f g e = cc

differ : (a b : ℕ) → a < b → (b == a) ≡ false
differ a b l = by (b == a) refl
  where
    by : (c : Bool) → (b == a) ≡ c → c ≡ false
    by false e = refl
    by true e = let q : b ≡ a = eqb-true b a e in absurd (omega (arith, l, q))

-- the first of some functions, which has item i, is not that of an earlier item; nor is one behind it
skips : (t : TypedFn) (ts : List TypedFn) (i n : ℕ) → t.item ≡ i → (t.item == n) ≡ false → function_at (t ∷ ts) n ≡ function_at ts n
skips t ts i n e d = ap (λ (b : Bool). if b then Some t else function_at ts n) d

none_before : (G : Given) (ns : List ItemNames) (i : ℕ) (is : ProgramTree) (ts : List TypedFn) → FunctionsTyped G ns i is ts → (n : ℕ) → n < i → function_at ts n ≡ None
none_before G ns i [] ts h n l = ap (λ us. function_at us n) h
none_before G ns i (plain.function_item s f ∷ is) [] h n l = refl
none_before G ns i (plain.function_item s f ∷ is) (t ∷ ts) h n l =
    skips t ts i n h.0.item (differ n t.item (let e = h.0.item in omega (arith, l, e))) ∙ none_before G ns (suc i) is ts h.1 n (omega (arith, l))
none_before G ns i (plain.rt_item s r ∷ is) ts h n l = none_before G ns (suc i) is ts h n (omega (arith, l))
none_before G ns i (plain.struct_item s r ∷ is) ts h n l = none_before G ns (suc i) is ts h n (omega (arith, l))
none_before G ns i (plain.enum_item s r ∷ is) ts h n l = none_before G ns (suc i) is ts h n (omega (arith, l))

-- item k of these, the first of which has number i
abbrev Enters : ℕ → ℕ → List TypedFn → List (Option Function) → TypedFn → Type 0
Enters i k ts E f = function_at ts (i + k) ≡ Some f → element E k ≡ Some (Some (plain-TypedTree f.tree))

other_item : (G : Given) (ns : List ItemNames) (i k : ℕ) (is : ProgramTree) (ts : List TypedFn) (E : List (Option Function)) (f : TypedFn) → FunctionsTyped G ns (suc i) is ts
    → ((j : ℕ) → Enters (suc i) j ts E f) → Enters i k ts (None ∷ E) f
other_item G ns i zero is ts E f h r e = absurd (none_found f (sym (none_before G ns (suc i) is ts h (i + zero) (omega arith)) ∙ e))
other_item G ns i (suc k) is ts E f h r e = let z : i + suc k ≡ suc i + k = omega arith in r k (subst (λ (n : ℕ). function_at ts n ≡ Some f) z e)

function_item : (i k : ℕ) (t : TypedFn) (ts : List TypedFn) (E : List (Option Function)) (f : TypedFn) → t.item ≡ i
    → ((j : ℕ) → Enters (suc i) j ts E f) → Enters i k (t ∷ ts) (Some (plain-TypedTree t.tree) ∷ E) f
function_item i zero t ts E f h r e =
    let z : t.item ≡ i + zero = omega (arith, h) in
    let s : t ≡ f = one_found t f (sym (ap (λ (b : Bool). if b then Some t else function_at ts (i + zero)) (eq-eqb t.item (i + zero) z)) ∙ e) in
    ap (λ (x : TypedFn). Some (Some (plain-TypedTree x.tree))) s
function_item i (suc k) t ts E f h r e =
    let z : i + suc k ≡ suc i + k = omega arith in
    let d : (t.item == i + suc k) ≡ false = not_here (i + suc k) (omega (arith, h)) in
    r k (subst (λ (n : ℕ). function_at ts n ≡ Some f) z (sym (skips t ts i (i + suc k) h d) ∙ e))
  where
    not_here : (n : ℕ) → t.item < n → (t.item == n) ≡ false
    not_here n l = by (t.item == n) refl
      where
        by : (c : Bool) → (t.item == n) ≡ c → c ≡ false
        by false e = refl
        by true e = let q : t.item ≡ n = eqb-true t.item n e in absurd (omega (arith, l, q))

by_item : (G : Given) (ns : List ItemNames) (i k : ℕ) (x : ItemTree) (is : ProgramTree) (ts : List TypedFn) → FunctionsTyped G ns i (x ∷ is) ts → (d : Decl) → DeclaredAs x d → (D : Declarations) (f : TypedFn)
    → ((us : List TypedFn) → FunctionsTyped G ns (suc i) is us → (j : ℕ) → Enters (suc i) j us (typed_functions D us) f)
    → Enters i k ts (first_of (is_function (plain-Decl d)) ts ∷ typed_functions D (behind (is_function (plain-Decl d)) ts)) f
by_item G ns i k (plain.rt_item s r) is ts h d c D f go =
    subst (λ (b : Bool). Enters i k ts (first_of b ts ∷ typed_functions D (behind b ts)) f) (sym c) (other_item G ns i k is ts (typed_functions D ts) f h (go ts h))
by_item G ns i k (plain.struct_item s r) is ts h d c D f go =
    subst (λ (b : Bool). Enters i k ts (first_of b ts ∷ typed_functions D (behind b ts)) f) (sym c) (other_item G ns i k is ts (typed_functions D ts) f h (go ts h))
by_item G ns i k (plain.enum_item s r) is ts h d c D f go =
    subst (λ (b : Bool). Enters i k ts (first_of b ts ∷ typed_functions D (behind b ts)) f) (sym c) (other_item G ns i k is ts (typed_functions D ts) f h (go ts h))
by_item G ns i k (plain.function_item s r) is [] h d c D f go = absurd h
by_item G ns i k (plain.function_item s r) is (t ∷ ts) h d c D f go =
    subst (λ (b : Bool). Enters i k (t ∷ ts) (first_of b (t ∷ ts) ∷ typed_functions D (behind b (t ∷ ts))) f) (sym c.0) (function_item i k t ts (typed_functions D ts) f h.0.item (go ts h.1))

nothing_declared : (G : Given) (ns : List ItemNames) (i k : ℕ) (ts : List TypedFn) (E : List (Option Function)) (f : TypedFn) → FunctionsTyped G ns i [] ts → Enters i k ts E f
nothing_declared G ns i k ts E f h e = absurd (none_found f (sym (ap (λ us. function_at us (i + k)) h) ∙ e))

entry_at : (G : Given) (p : ProgramTree) (ns : List ItemNames) (i : ℕ) (is : ProgramTree) (ds : List Decl) (ts : List TypedFn) → declared_items p ns i is ≡ Ok ds → FunctionsTyped G ns i is ts
    → (k : ℕ) (f : TypedFn) → Enters i k ts (typed_functions (declarations ds) ts) f
entry_at G p ns i [] ds ts e h k f = nothing_declared G ns i k ts (typed_functions (declarations ds) ts) f h
entry_at G p ns i (x ∷ is) ds ts e h k f =
    let a = read_ok (declared_item p (entries_of (slice_get ns i)) x) (λ d. steps.on_ok (declared_items p ns (suc i) is) (λ ds. Ok (d ∷ ds))) ds e in
    let b = read_ok (declared_items p ns (suc i) is) (λ ds. Ok (a.0 ∷ ds)) ds a.2 in
    let c : a.0 ∷ b.0 ≡ ds = read_same (a.0 ∷ b.0) ds b.2 in
    subst (λ (l : List Decl). Enters i k ts (typed_functions (declarations l) ts) f) c
    (by_item G ns i k x is ts h a.0 (declared_as p (entries_of (slice_get ns i)) x a.0 a.1) (declarations b.0) f (λ us h j. entry_at G p ns (suc i) is b.0 us b.1 h j f))

pub function_stands : (p : ProgramTree) (ns : List ItemNames) (t : Typed) → IsTyped p ns t → (m n : ℕ) (f : TypedFn) → function_at t.functions n ≡ Some f
    → element (program_of t m).functions n ≡ Some (Some (plain-TypedTree f.tree))
function_stands p ns t typed m n f e =
    subst (λ (D : Declarations). element (typed_functions D t.functions) n ≡ Some (Some (plain-TypedTree f.tree))) (sym (same_declared t.decls.items typed.declared typed.same))
    (entry_at (record { program = p; declared = typed.declared; sizes = typed.sizes }) p ns 0 p typed.declared t.functions typed.declares.items typed.functions n f (let z : n ≡ 0 + n = omega arith in subst (λ (k : ℕ). function_at t.functions k ≡ Some f) z e))
