-- The functions of a typed program by their items, and items that stay.
use Rattle.std.proofs.Common.{◌≡◌, ℕ, zero, suc, ◌+◌, ◌<◌, Bool, true, false, List, [], ◌∷◌, ◌++◌, length, Option, Some, None, slice_get, Ok, inl, inr, ◌⊎◌, ⊎_elim, if◌then◌else◌, refl, sym, ap, ◌∙◌, subst, arith}
use Rattle.std.proofs.lemmas.Bool.{le-leb, lt-leb}
use Rattle.rx_core.specs.declared.types.Span.{Span}
use Rattle.rx_tree.specs.Plain as plain
use Rattle.rx_tree.specs.Plain.{ItemTree, ProgramTree, Function}
use Rattle.rx_resolve_names.specs.declared.resolved.ItemNames.{ItemNames}
use Rattle.rx_resolve_names.specs.declared.resolved.NodeNames.{NodeNames}
use Rattle.rx_resolve_names.specs.Meant.{number}
use Rattle.rx_typed.specs.declared.declarations.Decl.{Decl}
use Rattle.rx_typed.specs.declared.declarations.Decl.TheVariants as decl
use Rattle.rx_typed.specs.PlainTypes.{plain-Decl, declarations}
use Rattle.rx_typed.specs.Tree as tree
use Rattle.rx_typed.specs.PlainTree.{plain-TypedTree}
use Rattle.rx_typeck_typed.specs.Steps as steps
use Rattle.rx_typeck_typed.specs.Items.{declared_item, declared_items, entries_of, fields_of, variants_of, begins, all_used, derives_copy, bounded, bounds_of, entry_of, parameters_of, answer_of}
use Rattle.rx_typeck_typed.specs.declared.typed.TypedFn.{TypedFn}
use Rattle.rx_typeck_typed.specs.Typing.{entries, variables_at, Given, FunctionTyped, FunctionsTyped}
use Rattle.rx_machine.specs.Functions.{is_function, first_of, behind, typed_functions}
use Rattle.rx_meaning.specs.Values.{element}
use Rattle.rx_meaning.specs.Expressions.{Functions}
use Rattle.rx_meaning_accepted.proofs.Fields.{read_ok, read_same}
use Rattle.rx_engine_simulation.specs.Programs.{IsNone}
use Rattle.rx_engine_names.specs.Insertion.{past}

-- ---- a function is declared of a function alone

abbrev declares_function : ItemTree → Bool
declares_function (plain.function_item s f) = true
declares_function _ = false

moved : (i : ItemTree) (a d : Decl) → ◌≡◌ {A = steps.Outcome Decl} (Ok a) (Ok d) → is_function (plain-Decl a) ≡ declares_function i → is_function (plain-Decl d) ≡ declares_function i
moved i a d e h = subst (λ (z : Decl). is_function (plain-Decl z) ≡ declares_function i) (read_same a d e) h

declared_as : (p : ProgramTree) (ns : List NodeNames) (i : ItemTree) (d : Decl) → declared_item p ns i ≡ Ok d → is_function (plain-Decl d) ≡ declares_function i
declared_as p ns (plain.rt_item s r) d e = moved (plain.rt_item s r) decl.Rt d e refl
declared_as p ns (plain.struct_item s x) d e =
    let a = read_ok (fields_of p x.fields (begins ns 0)) (λ r. steps.on_ok (all_used 0 x.lifetimes r.1.lifetimes) (λ _. Ok (decl.Struct (derives_copy x.derives) (number (length x.lifetimes)) [] r.0))) d e in
    let b = read_ok (all_used 0 x.lifetimes a.0.1.lifetimes) (λ _. Ok (decl.Struct (derives_copy x.derives) (number (length x.lifetimes)) [] a.0.0)) d a.2 in
    moved (plain.struct_item s x) (decl.Struct (derives_copy x.derives) (number (length x.lifetimes)) [] a.0.0) d b.2 refl
declared_as p ns (plain.enum_item s x) d e =
    let a = read_ok (variants_of p x.variants (begins ns 0)) (λ r. steps.on_ok (all_used 0 x.lifetimes r.1.lifetimes) (λ _. Ok (decl.Enum (derives_copy x.derives) (number (length x.lifetimes)) [] r.0))) d e in
    let b = read_ok (all_used 0 x.lifetimes a.0.1.lifetimes) (λ _. Ok (decl.Enum (derives_copy x.derives) (number (length x.lifetimes)) [] a.0.0)) d a.2 in
    moved (plain.enum_item s x) (decl.Enum (derives_copy x.derives) (number (length x.lifetimes)) [] a.0.0) d b.2 refl
declared_as p ns (plain.function_item s f) d e =
    let B = bounded 0 f.lifetimes in
    let x = read_ok (entry_of B f.params (begins ns (number (length f.lifetimes)))) (λ e. steps.on_ok (parameters_of p f.params e.1) (λ ps. steps.on_ok (answer_of p f.result ps.1) (λ a. Ok (decl.Func ps.1.next ps.0 a.0 (bounds_of B e.0))))) d e in
    let y = read_ok (parameters_of p f.params x.0.1) (λ ps. steps.on_ok (answer_of p f.result ps.1) (λ a. Ok (decl.Func ps.1.next ps.0 a.0 (bounds_of B x.0.0)))) d x.2 in
    let z = read_ok (answer_of p f.result y.0.1) (λ a. Ok (decl.Func y.0.1.next y.0.0 a.0 (bounds_of B x.0.0))) d y.2 in
    moved (plain.function_item s f) (decl.Func y.0.1.next y.0.0 z.0.0 (bounds_of B x.0.0)) d z.2 refl

-- ---- the functions by their items

-- item j of these, the first of which has number i, is a function, which is typed
pub record FunctionAt (G : Given) (ns : List ItemNames) (i j : ℕ) (is : ProgramTree) (E : Functions) : Type 0 where
  pub span : Span
  pub function : Function
  pub typed : TypedFn
  pub at : slice_get is j ≡ Some (plain.function_item span function)
  pub checked : FunctionTyped G (i + j) span function (entries (slice_get ns (i + j))) (variables_at (slice_get ns (i + j))) typed
  pub stands : element E j ≡ Some (Some (plain-TypedTree typed.tree))

pub record NoFunction (j : ℕ) (is : ProgramTree) (E : Functions) : Type 0 where
  pub at : (s : Span) (f : Function) → slice_get is j ≡ Some (plain.function_item s f) → ⊥
  pub stands : IsNone (element E j)

pub data EntryAt (G : Given) (ns : List ItemNames) (i j : ℕ) (is : ProgramTree) (E : Functions) : Type 0 where
  function_there : FunctionAt G ns i j is E → EntryAt G ns i j is E
  nothing_there : NoFunction j is E → EntryAt G ns i j is E

-- behind an item
later_there : (G : Given) (ns : List ItemNames) (i j : ℕ) (x : ItemTree) (is : ProgramTree) (o : Option tree.Function) (E : Functions) → EntryAt G ns (suc i) j is E → EntryAt G ns i (suc j) (x ∷ is) (o ∷ E)
later_there G ns i j x is o E (function_there h) = let z : suc i + j ≡ i + suc j = omega arith in function_there (record {
  span = h.span;
  function = h.function;
  typed = h.typed;
  at = h.at;
  checked = subst (λ (n : ℕ). FunctionTyped G n h.span h.function (entries (slice_get ns n)) (variables_at (slice_get ns n)) h.typed) z h.checked;
  stands = h.stands;
})
later_there G ns i j x is o E (nothing_there h) = nothing_there (record { at = h.at; stands = h.stands })

-- an item that is no function
no_function : (G : Given) (ns : List ItemNames) (i j : ℕ) (x : ItemTree) (is : ProgramTree) (d : Bool) (ts : List TypedFn) (E : List TypedFn → Functions) → d ≡ false → ((s : Span) (f : Function) → ◌≡◌ {A = Option ItemTree} (Some x) (Some (plain.function_item s f)) → ⊥)
    → ((k : ℕ) → EntryAt G ns (suc i) k is (E ts)) → EntryAt G ns i j (x ∷ is) (first_of d ts ∷ E (behind d ts))
no_function G ns i zero x is d ts E e n h = subst (λ (b : Bool). EntryAt G ns i zero (x ∷ is) (first_of b ts ∷ E (behind b ts))) (sym e) (nothing_there (record { at = n; stands = tt }))
no_function G ns i (suc j) x is d ts E e n h = subst (λ (b : Bool). EntryAt G ns i (suc j) (x ∷ is) (first_of b ts ∷ E (behind b ts))) (sym e) (later_there G ns i j x is None (E ts) (h j))

a_function : (G : Given) (ns : List ItemNames) (i j : ℕ) (s : Span) (f : Function) (is : ProgramTree) (d : Bool) (t : TypedFn) (ts : List TypedFn) (E : List TypedFn → Functions) → d ≡ true
    → FunctionTyped G i s f (entries (slice_get ns i)) (variables_at (slice_get ns i)) t → ((k : ℕ) → EntryAt G ns (suc i) k is (E ts)) → EntryAt G ns i j (plain.function_item s f ∷ is) (first_of d (t ∷ ts) ∷ E (behind d (t ∷ ts)))
a_function G ns i zero s f is d t ts E e c h = let z : i ≡ i + 0 = omega arith in
    subst (λ (b : Bool). EntryAt G ns i zero (plain.function_item s f ∷ is) (first_of b (t ∷ ts) ∷ E (behind b (t ∷ ts)))) (sym e) (function_there (record {
      span = s;
      function = f;
      typed = t;
      at = refl;
      checked = subst (λ (n : ℕ). FunctionTyped G n s f (entries (slice_get ns n)) (variables_at (slice_get ns n)) t) z c;
      stands = refl;
    }))
a_function G ns i (suc j) s f is d t ts E e c h =
    subst (λ (b : Bool). EntryAt G ns i (suc j) (plain.function_item s f ∷ is) (first_of b (t ∷ ts) ∷ E (behind b (t ∷ ts)))) (sym e) (later_there G ns i j (plain.function_item s f) is (Some (plain-TypedTree t.tree)) (E ts) (h j))

pub entry_at : (G : Given) (p : ProgramTree) (ns : List ItemNames) (i : ℕ) (is : ProgramTree) (ds : List Decl) (ts : List TypedFn) → declared_items p ns i is ≡ Ok ds → FunctionsTyped G ns i is ts → (j : ℕ) → EntryAt G ns i j is (typed_functions (declarations ds) ts)
entry_at G p ns i [] ds ts e h j = subst (λ (l : List Decl). EntryAt G ns i j [] (typed_functions (declarations l) ts)) (read_same [] ds e) (nothing_there (record { at = λ s f q. absurd (cc); stands = tt }))
entry_at G p ns i (x ∷ is) ds ts e h j =
    let a = read_ok (declared_item p (entries_of (slice_get ns i)) x) (λ d. steps.on_ok (declared_items p ns (suc i) is) (λ ds. Ok (d ∷ ds))) ds e in
    let b = read_ok (declared_items p ns (suc i) is) (λ ds. Ok (a.0 ∷ ds)) ds a.2 in
    let c : a.0 ∷ b.0 ≡ ds = read_same (a.0 ∷ b.0) ds b.2 in
    subst (λ (l : List Decl). EntryAt G ns i j (x ∷ is) (typed_functions (declarations l) ts)) c
    (by x ts h a.0 (declared_as p (entries_of (slice_get ns i)) x a.0 a.1) b.0 (λ ts h k. entry_at G p ns (suc i) is b.0 ts b.1 h k))
  where
    by : (x : ItemTree) (ts : List TypedFn) → FunctionsTyped G ns i (x ∷ is) ts → (d : Decl) → is_function (plain-Decl d) ≡ declares_function x → (D : List Decl)
        → ((ts : List TypedFn) → FunctionsTyped G ns (suc i) is ts → (k : ℕ) → EntryAt G ns (suc i) k is (typed_functions (declarations D) ts)) → EntryAt G ns i j (x ∷ is) (typed_functions (declarations (d ∷ D)) ts)
    by (plain.rt_item s r) ts h d n D f = no_function G ns i j (plain.rt_item s r) is (is_function (plain-Decl d)) ts (typed_functions (declarations D)) n (λ s f q. absurd (cc)) (f ts h)
    by (plain.struct_item s r) ts h d n D f = no_function G ns i j (plain.struct_item s r) is (is_function (plain-Decl d)) ts (typed_functions (declarations D)) n (λ s f q. absurd (cc)) (f ts h)
    by (plain.enum_item s r) ts h d n D f = no_function G ns i j (plain.enum_item s r) is (is_function (plain-Decl d)) ts (typed_functions (declarations D)) n (λ s f q. absurd (cc)) (f ts h)
    by (plain.function_item s g) [] h d n D f = absurd h
    by (plain.function_item s g) (t ∷ ts) h d n D f = a_function G ns i j s g is (is_function (plain-Decl d)) t ts (typed_functions (declarations D)) n h.0 (f ts h.1)

-- ---- items that stay

get_front : {A : Type 0} (bs r : List A) (j : ℕ) → j < length bs → slice_get (bs ++ r) j ≡ slice_get bs j
get_front [] r j l = absurd (omega (arith, l))
get_front (b ∷ bs) r zero l = refl
get_front (b ∷ bs) r (suc j) l = get_front bs r j (omega (arith, l))

get_behind : {A : Type 0} (bs r : List A) (m : ℕ) → slice_get (bs ++ r) (m + length bs) ≡ slice_get r m
get_behind [] r m = let z : m + 0 ≡ m = omega arith in ap (λ k. slice_get r k) z
get_behind (b ∷ bs) r m = let z : m + suc (length bs) ≡ suc (m + length bs) = omega arith in ap (λ k. slice_get (b ∷ (bs ++ r)) k) z ∙ get_behind bs r m

pub item_between : {A : Type 0} (bs : List A) (x : A) (r : List A) → slice_get (bs ++ (x ∷ r)) (length bs) ≡ Some x
item_between [] x r = refl
item_between (b ∷ bs) x r = item_between bs x r

compared : (j k : ℕ) → (j ≡ k → ⊥) → (j < k) ⊎ ((d : ℕ) × (j ≡ suc d + k))
compared zero zero n = absurd (n refl)
compared zero (suc k) n = inl (omega arith)
compared (suc j) zero n = inr (j, omega arith)
compared (suc j) (suc k) n = ⊎_elim (λ l. inl (omega (arith, l))) (λ d. inr (d.0, let e = d.1 in omega (arith, e))) (compared j k (λ e. n (ap suc e)))

pub item_stays : {A : Type 0} (bs ns hs : List A) (x y : A) (j : ℕ) → (j ≡ length bs → ⊥) → slice_get (bs ++ (y ∷ (ns ++ hs))) (past (length bs) (length ns) j) ≡ slice_get (bs ++ (x ∷ hs)) j
item_stays bs ns hs x y j n = ⊎_elim
    (λ l. ap (λ k. slice_get (bs ++ (y ∷ (ns ++ hs))) k) (ap (λ (b : Bool). if b then j else j + length ns) (le-leb j (length bs) (omega (arith, l)))) ∙ get_front bs (y ∷ (ns ++ hs)) j l ∙ sym (get_front bs (x ∷ hs) j l))
    (λ d. behind_it d.0 d.1)
    (compared j (length bs) n)
  where
    behind_it : (d : ℕ) → j ≡ suc d + length bs → slice_get (bs ++ (y ∷ (ns ++ hs))) (past (length bs) (length ns) j) ≡ slice_get (bs ++ (x ∷ hs)) j
    behind_it d e =
        let moved : j + length ns ≡ suc (d + length ns) + length bs = omega (arith, e) in
        ap (λ k. slice_get (bs ++ (y ∷ (ns ++ hs))) k) (ap (λ (b : Bool). if b then j else j + length ns) (lt-leb j (length bs) (omega (arith, e))) ∙ moved)
        ∙ get_behind bs (y ∷ (ns ++ hs)) (suc (d + length ns)) ∙ get_behind ns hs d ∙ sym (get_behind bs (x ∷ hs) (suc d)) ∙ ap (λ k. slice_get (bs ++ (x ∷ hs)) k) (sym e)
