-- In a typed program each function has its item to itself, which declares a function of as many parameters as its tree has: along the items,
-- by what numbering and declaring do to a list of parameters.
use Rattle.std.proofs.Common.{◌≡◌, ℕ, zero, suc, ◌+◌, ◌≤◌, Bool, true, false, List, [], ◌∷◌, length, map, Option, Some, None, Result, Ok, Err, option_map, slice_get, refl, sym, ap, subst, ◌∙◌, arith, true≢false}
use Rattle.std.proofs.lemmas.Option.{slice_get-map}
use Rattle.rx_core.specs.declared.types.Span.{Span}
use Rattle.rx_core.specs.declared.types.Bound.{Bound}
use Rattle.rx_core.specs.declared.types.Ty.{Ty}
use Rattle.rx_tree.specs.Plain as plain
use Rattle.rx_tree.specs.Plain.{Parameter, Function, ItemTree, ProgramTree}
use Rattle.rx_resolve_names.specs.declared.resolved.ItemNames.{ItemNames}
use Rattle.rx_resolve_names.specs.declared.resolved.NodeNames.{NodeNames}
use Rattle.rx_resolve_names.specs.Meant as meant
use Rattle.rx_typed.specs.declared.declarations.Decl.{Decl}
use Rattle.rx_typed.specs.declared.declarations.Decl.TheVariants as decl
use Rattle.rx_typed.specs.Named as named
use Rattle.rx_typed.specs.Tree as tree
use Rattle.rx_typed.specs.Naming as naming
use Rattle.rx_typed.specs.Naming.{Cursor, function_named}
use Rattle.rx_typed.specs.Elaborated as elaborated
use Rattle.rx_typed_declarations.specs.Variance.{unrecorded}
use Rattle.rx_lower_walks.specs.Walks.{Among}
use Rattle.rx_lower_walks.specs.Walks as walks
use Rattle.rx_lower_lifetimes.specs.Lowered.{parameters}
use Rattle.rx_typeck_typed.specs.Steps as steps
use Rattle.rx_typeck_typed.specs.Steps.{Reading, on_ok}
use Rattle.rx_typeck_typed.specs.Written.{type_of}
use Rattle.rx_typeck_typed.specs.Items.{begins, bounded, bounds_of, entry_of, parameters_of, answer_of, declared_function, declared_item, declared_items, entries_of}
use Rattle.rx_typeck_typed.specs.declared.typed.TypedFn.{TypedFn}
use Rattle.rx_typeck_typed.specs.Typing.{Given, entries, variables_at, FunctionTyped, FunctionsTyped}
use Rattle.rx_facts.specs.Functions.{body}
use Rattle.rx_repair.specs.Bounded.{IsFunction}
use Rattle.rx_facts.proofs.Positions.{unrecorded_option, parameters_same}

read_ok : {A B : Type 0} (m : steps.Outcome A) (f : A → steps.Outcome B) (b : B) → on_ok m f ≡ Ok b → (a : A) × (m ≡ Ok a) × (f a ≡ Ok b)
read_ok (Ok a) f b e = (a, refl, e)
read_ok (Err x) f b e = absurd (cc)

read_same : {A : Type 0} (a b : A) → ◌≡◌ {A = steps.Outcome A} (Ok a) (Ok b) → a ≡ b
read_same a b e = cc

-- ---- what is declared is a function

abbrev is_function : Option Decl → Bool
is_function (Some (decl.Func l ps t bs)) = true
is_function _ = false

function_shown : (o : Option Decl) → is_function o ≡ true → IsFunction o
function_shown None e = absurd (true≢false (sym e))
function_shown (Some decl.Rt) e = absurd (true≢false (sym e))
function_shown (Some (decl.Struct c l vs fs)) e = absurd (true≢false (sym e))
function_shown (Some (decl.Enum c l vs ds)) e = absurd (true≢false (sym e))
function_shown (Some (decl.Func l ps t bs)) e = record { lifetimes = l; params = ps; answer = t; bounds = bs; is = refl }

function_same : (o : Option Decl) → is_function (unrecorded_option o) ≡ is_function o
function_same None = refl
function_same (Some decl.Rt) = refl
function_same (Some (decl.Struct c l vs fs)) = refl
function_same (Some (decl.Enum c l vs ds)) = refl
function_same (Some (decl.Func l ps t bs)) = refl

-- ---- as many parameters

declared_count : (p : ProgramTree) (xs : List Parameter) (r : Reading) (q : List Ty × Reading) → parameters_of p xs r ≡ Ok q → length q.0 ≡ length xs
declared_count p [] r q e = ap (λ (x : List Ty × Reading). length x.0) (sym (read_same {A = List Ty × Reading} ([], r) q e))
declared_count p (x ∷ xs) r q e =
    let a = read_ok (type_of p _ x.typ r) (λ r. on_ok (parameters_of p xs r.1) (λ x. Ok (r.0 ∷ x.0, x.1))) q e in
    let b = read_ok (parameters_of p xs a.0.1) (λ x. Ok (a.0.0 ∷ x.0, x.1)) q a.2 in
    ap (λ (x : List Ty × Reading). length x.0) (sym (read_same {A = List Ty × Reading} (a.0.0 ∷ b.0.0, b.0.1) q b.2)) ∙ ap suc (declared_count p xs a.0.1 b.0 b.1)

-- what is declared of a function
record IsDeclared (p : ProgramTree) (f : Function) (d : Decl) : Type 0 where
  lifetimes : ℕ
  params : List Ty
  answer : Ty
  bounds : List Bound
  is : decl.Func lifetimes params answer bounds ≡ d
  count : length params ≡ length f.params

function_declared : (p : ProgramTree) (ns : List NodeNames) (f : Function) (d : Decl) → declared_function p ns f ≡ Ok d → IsDeclared p f d
function_declared p ns f d e =
    let B = bounded 0 f.lifetimes in
    let a = read_ok (entry_of B f.params (begins ns (meant.number (length f.lifetimes)))) (λ e. on_ok (parameters_of p f.params e.1) (λ ps. on_ok (answer_of p f.result ps.1) (λ a. Ok (decl.Func ps.1.next ps.0 a.0 (bounds_of B e.0))))) d e in
    let b = read_ok (parameters_of p f.params a.0.1) (λ ps. on_ok (answer_of p f.result ps.1) (λ x. Ok (decl.Func ps.1.next ps.0 x.0 (bounds_of B a.0.0)))) d a.2 in
    let c = read_ok (answer_of p f.result b.0.1) (λ x. Ok (decl.Func b.0.1.next b.0.0 x.0 (bounds_of B a.0.0))) d b.2 in
    record {
      lifetimes = b.0.1.next;
      params = b.0.0;
      answer = c.0.0;
      bounds = bounds_of B a.0.0;
      is = read_same (decl.Func b.0.1.next b.0.0 c.0.0 (bounds_of B a.0.0)) d c.2;
      count = declared_count p f.params a.0.1 b.0 b.1;
    }

function_count : (p : ProgramTree) (f : Function) (d : Decl) → IsDeclared p f d → length (parameters (Some d)) ≡ length f.params
function_count p f d x = ap (λ (y : Decl). length (parameters (Some y))) (sym x.is) ∙ x.count

function_is : (p : ProgramTree) (f : Function) (d : Decl) → IsDeclared p f d → is_function (Some d) ≡ true
function_is p f d x = ap (λ (y : Decl). is_function (Some y)) (sym x.is)

named_count : (xs : List Parameter) (c : Cursor) → length (naming.of_parameters xs c).0 ≡ length xs
named_count [] c = refl
named_count (x ∷ xs) c = ap suc (named_count xs (naming.of_parameter x c).1)

elaborated_count : (xs : List named.Parameter) → length (elaborated.parameters xs) ≡ length xs
elaborated_count [] = refl
elaborated_count (x ∷ xs) = ap suc (elaborated_count xs)

tree_count : (G : Given) (i : ℕ) (s : Span) (f : Function) (ns : List NodeNames) (vars : List Span) (t : TypedFn) → FunctionTyped G i s f ns vars t → length (body t).params ≡ length f.params
tree_count G i s f ns vars t typed =
    ap (λ (b : tree.Function). length b.params) typed.tree ∙ (elaborated_count (function_named i s f ns).params ∙ named_count f.params _)

-- ---- the function of an item

record Counted (ds : List Decl) (n : ℕ) (h : TypedFn) : Type 0 where
  place : ℕ
  item : h.item ≡ n + place
  function : is_function (slice_get ds place) ≡ true
  count : length (body h).params ≡ length (parameters (slice_get ds place))

module _ (G : Given) (p : ProgramTree) (ns : List ItemNames) where
  abbrev Declaring : ℕ → ItemTree → ProgramTree → List Decl → Type 0
  Declaring n i is ds = (d : Decl) × (more : List Decl) × (ds ≡ d ∷ more) × (declared_item p (entries_of (slice_get ns n)) i ≡ Ok d) × (declared_items p ns (suc n) is ≡ Ok more)

  declaring : (n : ℕ) (i : ItemTree) (is : ProgramTree) (ds : List Decl) → declared_items p ns n (i ∷ is) ≡ Ok ds → Declaring n i is ds
  declaring n i is ds e =
      let a = read_ok (declared_item p (entries_of (slice_get ns n)) i) (λ d. on_ok (declared_items p ns (suc n) is) (λ ds. Ok (d ∷ ds))) ds e in
      let b = read_ok (declared_items p ns (suc n) is) (λ ds. Ok (a.0 ∷ ds)) ds a.2 in
      (a.0, b.0, sym (read_same (a.0 ∷ b.0) ds b.2), a.1, b.1)

  behind : (n : ℕ) (i : ItemTree) (is : ProgramTree) (ds : List Decl) (h : TypedFn) → declared_items p ns n (i ∷ is) ≡ Ok ds
      → ((more : List Decl) → declared_items p ns (suc n) is ≡ Ok more → Counted more (suc n) h) → Counted ds n h
  behind n i is ds h e rest =
      let d = declaring n i is ds e in let r = rest d.1 d.4 in let at = r.item in record {
        place = suc r.place;
        item = omega (arith, at);
        function = ap (λ (l : List Decl). is_function (slice_get l (suc r.place))) d.2 ∙ r.function;
        count = r.count ∙ ap (λ (l : List Decl). length (parameters (slice_get l (suc r.place)))) (sym d.2);
      }

  first_counted : (n : ℕ) (s : Span) (f : Function) (is : ProgramTree) (ds : List Decl) (t : TypedFn) → declared_items p ns n (plain.function_item s f ∷ is) ≡ Ok ds
      → FunctionTyped G n s f (entries (slice_get ns n)) (variables_at (slice_get ns n)) t → Counted ds n t
  first_counted n s f is ds t e typed =
      let d = declaring n (plain.function_item s f) is ds e in let at = typed.item in record {
        place = 0;
        item = omega (arith, at);
        function = ap (λ (l : List Decl). is_function (slice_get l 0)) d.2 ∙ function_is p f d.0 (function_declared p (entries_of (slice_get ns n)) f d.0 d.3);
        count = tree_count G n s f _ _ t typed ∙ (sym (function_count p f d.0 (function_declared p (entries_of (slice_get ns n)) f d.0 d.3)) ∙ ap (λ (l : List Decl). length (parameters (slice_get l 0))) (sym d.2));
      }

  no_function : (h : TypedFn) → Among h [] → ⊥
  no_function h w = elim w [ ]

  counted : (n : ℕ) (is : ProgramTree) (ts : List TypedFn) (ds : List Decl) (h : TypedFn) → FunctionsTyped G ns n is ts → declared_items p ns n is ≡ Ok ds → Among h ts → Counted ds n h
  counted n [] ts ds h typed e w = absurd (no_function h (subst (λ (l : List TypedFn). Among h l) typed w))
  counted n (plain.rt_item s r ∷ is) ts ds h typed e w = behind n (plain.rt_item s r) is ds h e (λ more m. counted (suc n) is ts more h typed m w)
  counted n (plain.struct_item s d ∷ is) ts ds h typed e w = behind n (plain.struct_item s d) is ds h e (λ more m. counted (suc n) is ts more h typed m w)
  counted n (plain.enum_item s d ∷ is) ts ds h typed e w = behind n (plain.enum_item s d) is ds h e (λ more m. counted (suc n) is ts more h typed m w)
  counted n (plain.function_item s f ∷ is) [] ds h typed e w = absurd typed
  counted n (plain.function_item s f ∷ is) (t ∷ ts) ds _ typed e walks.here = first_counted n s f is ds t e typed.0
  counted n (plain.function_item s f ∷ is) (t ∷ ts) ds h typed e (walks.there w) = behind n (plain.function_item s f) is ds h e (λ more m. counted (suc n) is ts more h typed.1 m w)

  -- ---- and no other

  item_least : (n : ℕ) (is : ProgramTree) (ts : List TypedFn) (h : TypedFn) → FunctionsTyped G ns n is ts → Among h ts → n ≤ h.item
  item_least n [] ts h typed w = absurd (no_function h (subst (λ (l : List TypedFn). Among h l) typed w))
  item_least n (plain.rt_item s r ∷ is) ts h typed w = let m = item_least (suc n) is ts h typed w in omega (arith, m)
  item_least n (plain.struct_item s d ∷ is) ts h typed w = let m = item_least (suc n) is ts h typed w in omega (arith, m)
  item_least n (plain.enum_item s d ∷ is) ts h typed w = let m = item_least (suc n) is ts h typed w in omega (arith, m)
  item_least n (plain.function_item s f ∷ is) [] h typed w = absurd typed
  item_least n (plain.function_item s f ∷ is) (t ∷ ts) _ typed walks.here = let m = typed.0.item in omega (arith, m)
  item_least n (plain.function_item s f ∷ is) (t ∷ ts) h typed (walks.there w) = let m = item_least (suc n) is ts h typed.1 w in omega (arith, m)

  pub only_one : (n : ℕ) (is : ProgramTree) (ts : List TypedFn) (h g : TypedFn) → FunctionsTyped G ns n is ts → Among h ts → Among g ts → h.item ≡ g.item → h ≡ g
  only_one n [] ts h g typed w v e = absurd (no_function h (subst (λ (l : List TypedFn). Among h l) typed w))
  only_one n (plain.rt_item s r ∷ is) ts h g typed w v e = only_one (suc n) is ts h g typed w v e
  only_one n (plain.struct_item s d ∷ is) ts h g typed w v e = only_one (suc n) is ts h g typed w v e
  only_one n (plain.enum_item s d ∷ is) ts h g typed w v e = only_one (suc n) is ts h g typed w v e
  only_one n (plain.function_item s f ∷ is) [] h g typed w v e = absurd typed
  only_one n (plain.function_item s f ∷ is) (t ∷ ts) _ _ typed walks.here walks.here e = refl
  only_one n (plain.function_item s f ∷ is) (t ∷ ts) _ g typed walks.here (walks.there v) e =
      let a = typed.0.item in let b = item_least (suc n) is ts g typed.1 v in absurd (omega (arith, a, b, e))
  only_one n (plain.function_item s f ∷ is) (t ∷ ts) h _ typed (walks.there w) walks.here e =
      let a = typed.0.item in let b = item_least (suc n) is ts h typed.1 w in absurd (omega (arith, a, b, e))
  only_one n (plain.function_item s f ∷ is) (t ∷ ts) h g typed (walks.there w) (walks.there v) e = only_one (suc n) is ts h g typed.1 w v e

-- what is read of declarations without what they have recorded
of_recorded : {A : Type 0} (k : Option Decl → A) → ((o : Option Decl) → k (unrecorded_option o) ≡ k o) → (D E : List Decl) → map unrecorded D ≡ map unrecorded E → (i : ℕ) → k (slice_get D i) ≡ k (slice_get E i)
of_recorded k same D E items i =
    sym (same (slice_get D i)) ∙ (sym (ap k (slice_get-map unrecorded D i))
    ∙ (ap (λ (l : List Decl). k (slice_get l i)) items ∙ (ap k (slice_get-map unrecorded E i) ∙ same (slice_get E i))))

module _ (G : Given) (p : ProgramTree) (ns : List ItemNames) (ts : List TypedFn) (D ds : List Decl) (h : TypedFn) (typed : FunctionsTyped G ns 0 p ts) (e : declared_items p ns 0 p ≡ Ok ds)
    (same : map unrecorded D ≡ map unrecorded ds) (w : Among h ts) where
  there : Counted ds 0 h
  there = counted G p ns 0 p ts ds h typed e w

  at_place : (x : ℕ) → h.item ≡ 0 + x → x ≡ h.item
  at_place x q = omega (arith, q)

  pub as_many : length (body h).params ≡ length (parameters (slice_get D h.item))
  as_many =
      there.count ∙ (ap (λ i. length (parameters (slice_get ds i))) (at_place there.place there.item) ∙ ap (λ (l : List Ty). length l) (sym (of_recorded parameters parameters_same D ds same h.item)))

  pub a_function : IsFunction (slice_get D h.item)
  a_function = function_shown (slice_get D h.item)
      (of_recorded is_function function_same D ds same h.item ∙ (ap (λ i. is_function (slice_get ds i)) (sym (at_place there.place there.item)) ∙ there.function))
