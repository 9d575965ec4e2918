-- The function at an item's number: its text, its typed function, and the parameters that are declared of it.
use Rattle.std.proofs.Common.{◌≡◌, ℕ, zero, suc, ◌+◌, Bool, true, false, List, [], ◌∷◌, Option, Some, None, slice_get, Ok, refl, sym, ap, ◌∙◌, subst, arith}
use Rattle.rx_core.specs.declared.types.Span.{Span}
use Rattle.rx_tree.specs.Plain as plain
use Rattle.rx_tree.specs.Plain.{ItemTree, ProgramTree}
use Rattle.rx_resolve_names.specs.declared.resolved.ItemNames.{ItemNames}
use Rattle.rx_resolve_names.specs.declared.resolved.NodeNames.{NodeNames}
use Rattle.rx_typed.specs.declared.declarations.Decl.{Decl}
use Rattle.rx_typed.specs.Types.{parameters_declared}
use Rattle.rx_typed.specs.PlainTypes.{plain-Decl, declarations}
use Rattle.rx_typed.specs.Naming.{function_named}
use Rattle.rx_typed.specs.Tree.{Function}
use Rattle.rx_typed.specs.PlainTree.{plain-TypedTree}
use Rattle.rx_lower_walks.specs.Walks.{Among, here, there}
use Rattle.rx_typeck_typed.specs.Steps as steps
use Rattle.rx_typeck_typed.specs.Items.{declared_item, declared_items, entries_of}
use Rattle.rx_typeck_typed.specs.declared.typed.TypedFn.{TypedFn}
use Rattle.rx_typeck_typed.specs.Typing.{Given, entries, variables_at, FunctionTyped, FunctionsTyped}
use Rattle.rx_machine.specs.Functions.{is_function, first_of, behind, typed_functions}
use Rattle.rx_meaning.specs.Values.{element}
use Rattle.rx_meaning_keeping.specs.Keeping.{IsFunction}
use Rattle.rx_meaning_accepted.proofs.Calls.{DeclaredAs, declared_as}
use Rattle.rx_repair.proofs.Writing.{AgreeAs}
use Rattle.rx_repair.proofs.Programs.{function_agrees, read_ok, read_same, entries_same}

-- at a number of a list of items, the first of which has the number `n`
record Stands (G : Given) (ns : List ItemNames) (n : ℕ) (is : ProgramTree) (ds : List Decl) (ts : List TypedFn) (k : ℕ) (F : Function) : Type 0 where
  typed : TypedFn
  among : Among typed ts
  span : Span
  text : plain.Function
  item : slice_get is k ≡ Some (plain.function_item span text)
  checked : FunctionTyped G (n + k) span text (entries (slice_get ns (n + k))) (variables_at (slice_get ns (n + k))) typed
  tree : plain-TypedTree typed.tree ≡ F
  agrees : AgreeAs (function_named (n + k) span text (entries (slice_get ns (n + k)))).params (parameters_declared (slice_get (declarations ds) k))

later : (G : Given) (ns : List ItemNames) (n : ℕ) (x : ItemTree) (is : ProgramTree) (d : Decl) (ds : List Decl) (ts us : List TypedFn) (k : ℕ) (F : Function) → ((t : TypedFn) → Among t ts → Among t us) → Stands G ns (suc n) is ds ts k F
    → Stands G ns n (x ∷ is) (d ∷ ds) us (suc k) F
later G ns n x is d ds ts us k F a h =
    let same : suc n + k ≡ n + suc k = omega arith in record {
      typed = h.typed;
      among = a h.typed h.among;
      span = h.span;
      text = h.text;
      item = h.item;
      checked = subst (λ (j : ℕ). FunctionTyped G j h.span h.text (entries (slice_get ns j)) (variables_at (slice_get ns j)) h.typed) same h.checked;
      tree = h.tree;
      agrees = subst (λ (j : ℕ). AgreeAs (function_named j h.span h.text (entries (slice_get ns j))).params (parameters_declared (slice_get (declarations ds) k))) same h.agrees;
    }

-- the functions behind one item, by whether it is a function
abbrev Behind : Bool → List Decl → List TypedFn → ℕ → Function → Type 0
Behind b ds ts k F = element (first_of b ts ∷ typed_functions (declarations ds) (behind b ts)) k ≡ Some (Some F)

none_here : (F : Function) → ◌≡◌ {A = Option (Option Function)} (Some None) (Some (Some F)) → ⊥
none_here F e = cc

some_same : (F H : Function) → ◌≡◌ {A = Option (Option Function)} (Some (Some F)) (Some (Some H)) → F ≡ H
some_same F H e = cc

other_item : (G : Given) (ns : List ItemNames) (n : ℕ) (x : ItemTree) (is : ProgramTree) (d : Decl) (ds : List Decl) (ts : List TypedFn) (k : ℕ) (F : Function) → Behind false ds ts k F
    → ((j : ℕ) → IsFunction (typed_functions (declarations ds) ts) j F → Stands G ns (suc n) is ds ts j F) → Stands G ns n (x ∷ is) (d ∷ ds) ts k F
other_item G ns n x is d ds ts zero F e f = absurd (none_here F e)
other_item G ns n x is d ds ts (suc k) F e f = later G ns n x is d ds ts ts k F (λ t a. a) (f k e)

function_item : (G : Given) (ns : List ItemNames) (n : ℕ) (s : Span) (r : plain.Function) (is : ProgramTree) (d : Decl) (ds : List Decl) (t : TypedFn) (ts : List TypedFn) (k : ℕ) (F : Function) → Behind true ds (t ∷ ts) k F
    → FunctionTyped G n s r (entries (slice_get ns n)) (variables_at (slice_get ns n)) t → AgreeAs (function_named n s r (entries (slice_get ns n))).params (parameters_declared (Some (plain-Decl d)))
    → ((j : ℕ) → IsFunction (typed_functions (declarations ds) ts) j F → Stands G ns (suc n) is ds ts j F) → Stands G ns n (plain.function_item s r ∷ is) (d ∷ ds) (t ∷ ts) k F
function_item G ns n s r is d ds t ts zero F e c a f =
    let same : n ≡ n + zero = omega arith in record {
      typed = t;
      among = here;
      span = s;
      text = r;
      item = refl;
      checked = subst (λ (j : ℕ). FunctionTyped G j s r (entries (slice_get ns j)) (variables_at (slice_get ns j)) t) same c;
      tree = some_same (plain-TypedTree t.tree) F e;
      agrees = subst (λ (j : ℕ). AgreeAs (function_named j s r (entries (slice_get ns j))).params (parameters_declared (Some (plain-Decl d)))) same a;
    }
function_item G ns n s r is d ds t ts (suc k) F e c a f = later G ns n (plain.function_item s r) is d ds ts (t ∷ ts) k F (λ u a. there a) (f k e)

by_item : (G : Given) (p : ProgramTree) (ns : List ItemNames) (n : ℕ) (x : ItemTree) (is : ProgramTree) (d : Decl) (ds : List Decl) (ts : List TypedFn) → declared_item p (entries_of (slice_get ns n)) x ≡ Ok d → DeclaredAs x d → FunctionsTyped G ns n (x ∷ is) ts
    → (k : ℕ) (F : Function) → IsFunction (typed_functions (declarations (d ∷ ds)) ts) k F
    → ((ts : List TypedFn) → FunctionsTyped G ns (suc n) is ts → (j : ℕ) → IsFunction (typed_functions (declarations ds) ts) j F → Stands G ns (suc n) is ds ts j F) → Stands G ns n (x ∷ is) (d ∷ ds) ts k F
by_item G p ns n (plain.rt_item s r) is d ds ts q c h k F e f = other_item G ns n (plain.rt_item s r) is d ds ts k F (subst (λ (b : Bool). Behind b ds ts k F) c e) (f ts h)
by_item G p ns n (plain.struct_item s r) is d ds ts q c h k F e f = other_item G ns n (plain.struct_item s r) is d ds ts k F (subst (λ (b : Bool). Behind b ds ts k F) c e) (f ts h)
by_item G p ns n (plain.enum_item s r) is d ds ts q c h k F e f = other_item G ns n (plain.enum_item s r) is d ds ts k F (subst (λ (b : Bool). Behind b ds ts k F) c e) (f ts h)
by_item G p ns n (plain.function_item s r) is d ds [] q c h k F e f = absurd h
by_item G p ns n (plain.function_item s r) is d ds (t ∷ ts) q c h k F e f =
    function_item G ns n s r is d ds t ts k F (subst (λ (b : Bool). Behind b ds (t ∷ ts) k F) c.0 e) h.0
    (subst (λ (es : List NodeNames). AgreeAs (function_named n s r es).params (parameters_declared (Some (plain-Decl d)))) (entries_same (slice_get ns n)) (function_agrees p (entries_of (slice_get ns n)) n s r d q)) (f ts h.1)

stands : (G : Given) (p : ProgramTree) (ns : List ItemNames) (n : ℕ) (is : ProgramTree) (ds : List Decl) (ts : List TypedFn) → declared_items p ns n is ≡ Ok ds → FunctionsTyped G ns n is ts → (k : ℕ) (F : Function) → IsFunction (typed_functions (declarations ds) ts) k F
    → Stands G ns n is ds ts k F
stands G p ns n [] ds ts e h k F q = absurd (let z : IsFunction (typed_functions (declarations []) ts) k F = subst (λ (l : List Decl). IsFunction (typed_functions (declarations l) ts) k F) (sym (read_same [] ds e)) q in nothing_at k F z)
  where
    nothing_at : (k : ℕ) (F : Function) → ◌≡◌ {A = Option (Option Function)} (element [] k) (Some (Some F)) → ⊥
    nothing_at zero F e = cc
    nothing_at (suc k) F e = cc
stands G p ns n (x ∷ is) ds ts e h k F q =
    let a = read_ok (declared_item p (entries_of (slice_get ns n)) x) (λ d. steps.on_ok (declared_items p ns (suc n) is) (λ ds. Ok (d ∷ ds))) ds e in
    let b = read_ok (declared_items p ns (suc n) is) (λ ds. Ok (a.0 ∷ ds)) ds a.2 in
    let c : a.0 ∷ b.0 ≡ ds = read_same (a.0 ∷ b.0) ds b.2 in
    subst (λ (l : List Decl). Stands G ns n (x ∷ is) l ts k F) c
    (by_item G p ns n x is a.0 b.0 ts a.1 (declared_as p (entries_of (slice_get ns n)) x a.0 a.1) h k F (subst (λ (l : List Decl). IsFunction (typed_functions (declarations l) ts) k F) (sym c) q)
    (λ ts h j z. stands G p ns (suc n) is b.0 ts b.1 h j F z))

-- the same of the number itself, where the first item has the number 0
pub record StandsAt (G : Given) (ns : List ItemNames) (p : ProgramTree) (ds : List Decl) (ts : List TypedFn) (k : ℕ) (F : Function) : Type 0 where
  pub typed : TypedFn
  pub among : Among typed ts
  pub span : Span
  pub text : plain.Function
  pub item : slice_get p k ≡ Some (plain.function_item span text)
  pub checked : FunctionTyped G k span text (entries (slice_get ns k)) (variables_at (slice_get ns k)) typed
  pub tree : plain-TypedTree typed.tree ≡ F
  pub agrees : AgreeAs (function_named k span text (entries (slice_get ns k))).params (parameters_declared (slice_get (declarations ds) k))

pub stands_at : (G : Given) (p : ProgramTree) (ns : List ItemNames) (ds : List Decl) (ts : List TypedFn) → declared_items p ns 0 p ≡ Ok ds → FunctionsTyped G ns 0 p ts → (k : ℕ) (F : Function) → IsFunction (typed_functions (declarations ds) ts) k F
    → StandsAt G ns p ds ts k F
stands_at G p ns ds ts e h k F q =
    let x = stands G p ns 0 p ds ts e h k F q in
    let same : 0 + k ≡ k = omega arith in record {
      typed = x.typed;
      among = x.among;
      span = x.span;
      text = x.text;
      item = x.item;
      checked = subst (λ (j : ℕ). FunctionTyped G j x.span x.text (entries (slice_get ns j)) (variables_at (slice_get ns j)) x.typed) same x.checked;
      tree = x.tree;
      agrees = subst (λ (j : ℕ). AgreeAs (function_named j x.span x.text (entries (slice_get ns j))).params (parameters_declared (slice_get (declarations ds) k))) same x.agrees;
    }
