-- A function item of a typed program has a typed function, by its number; and where its lifetimes have no bounds, none are declared. Along
-- the items.
use Rattle.std.proofs.Common.{◌≡◌, ℕ, zero, suc, ◌+◌, ◌==◌, Bool, true, false, List, [], ◌∷◌, ◌++◌, length, map, Option, Some, None, Result, Ok, Err, slice_get, refl, sym, ap, ap₂, ◌∙◌, arith}
use Rattle.std.specs.Prelude.{if◌then◌else◌}
use Rattle.std.proofs.lemmas.Bool.Decides.{Decides-eqb}
use Rattle.std.proofs.lemmas.Option.{slice_get-map}
use Rattle.rx_core.specs.declared.types.Bound.{Bound}
use Rattle.rx_core.specs.declared.types.Span.{Span}
use Rattle.rx_core.specs.declared.types.Ty.{Ty}
use Rattle.rx_tree.specs.declared.tree.BoundLifetime.{BoundLifetime}
use Rattle.rx_tree.specs.Lists.{nth, Every}
use Rattle.rx_tree.specs.Plain as plain
use Rattle.rx_tree.specs.Plain.{Function, ItemTree, ProgramTree}
use Rattle.rx_resolve_names.specs.declared.resolved.ItemNames.{ItemNames}
use Rattle.rx_resolve_names.specs.declared.resolved.NodeNames.{NodeNames}
use Rattle.rx_resolve_names.specs.Meant as meant
use Rattle.rx_typed.specs.declared.declarations.Decl.{Decl}
use Rattle.rx_typed.specs.declared.declarations.Decl.TheVariants as decl
use Rattle.rx_typed_declarations.specs.Variance.{unrecorded}
use Rattle.rx_lower_lifetimes.specs.Lowered as lowered
use Rattle.rx_lower.specs.Functions.{function_at}
use Rattle.rx_typeck_typed.specs.Steps as steps
use Rattle.rx_typeck_typed.specs.Steps.{Reading, on_ok}
use Rattle.rx_typeck_typed.specs.Items.{begins, one_each, bounded, bounds_of, entry_of, parameters_of, answer_of, declared_function, declared_item, declared_items, entries_of}
use Rattle.rx_typeck_typed.specs.Programs.{Declares}
use Rattle.rx_typeck_typed.specs.declared.typed.Typed.{Typed}
use Rattle.rx_typeck_typed.specs.declared.typed.TypedFn.{TypedFn}
use Rattle.rx_typeck_typed.specs.Typing.{Given, FunctionTyped, FunctionsTyped, IsTyped}
use Rattle.rx_facts.proofs.Positions.{unrecorded_option}
use Rattle.rx_check.specs.Contexts.{context_of}

-- ---- the function of an item

this_one : (t : TypedFn) (ts : List TypedFn) (n : ℕ) → t.item ≡ n → function_at (t ∷ ts) n ≡ Some t
this_one t ts n e = rw ((Decides-eqb t.item n).1 e) refl

not_true : (b : Bool) → (b ≡ true → ⊥) → b ≡ false
not_true false n = refl
not_true true n = absurd (n refl)

not_this : (t : TypedFn) (ts : List TypedFn) (n : ℕ) → (t.item ≡ n → ⊥) → function_at (t ∷ ts) n ≡ function_at ts n
not_this t ts n e = rw (not_true (t.item == n) (λ h. e ((Decides-eqb t.item n).0 h))) refl

skipped : (t : TypedFn) (ts : List TypedFn) (n : ℕ) → (t.item == n) ≡ false → function_at (t ∷ ts) n ≡ function_at ts n
skipped t ts n e = rw e refl

some_same : (t g : TypedFn) → Some t ≡ Some g → t ≡ g
some_same t g e = cc

found_item : (ts : List TypedFn) (n : ℕ) (g : TypedFn) → function_at ts n ≡ Some g → g.item ≡ n
found_item [] n g e = absurd (cc)
found_item (t ∷ ts) n g e = by (t.item == n) refl (λ h. found_item ts n g (sym (skipped t ts n h) ∙ e))
  where
    by : (b : Bool) → (t.item == n) ≡ b → ((t.item == n) ≡ false → g.item ≡ n) → g.item ≡ n
    by true h r = let q : t ≡ g = some_same t g (sym (this_one t ts n ((Decides-eqb t.item n).0 h)) ∙ e) in ap (λ (x : TypedFn). x.item) (sym q) ∙ (Decides-eqb t.item n).0 h
    by false h r = r h

module _ (G : Given) (ns : List ItemNames) where
  found_at : (n : ℕ) (is : ProgramTree) (ts : List TypedFn) (k : ℕ) (s : Span) (f : Function) → FunctionsTyped G ns n is ts → nth is k ≡ Some (plain.function_item s f)
      → (t : TypedFn) × (function_at ts (n + k) ≡ Some t)
  found_at n [] ts k s f typed e = absurd (cc)
  found_at n (plain.rt_item a r ∷ is) ts zero s f typed e = absurd (cc)
  found_at n (plain.struct_item a d ∷ is) ts zero s f typed e = absurd (cc)
  found_at n (plain.enum_item a d ∷ is) ts zero s f typed e = absurd (cc)
  found_at n (plain.rt_item a r ∷ is) ts (suc k) s f typed e =
      let h = found_at (suc n) is ts k s f typed e in let m : n + suc k ≡ suc n + k = omega arith in (h.0, ap (function_at ts) m ∙ h.1)
  found_at n (plain.struct_item a d ∷ is) ts (suc k) s f typed e =
      let h = found_at (suc n) is ts k s f typed e in let m : n + suc k ≡ suc n + k = omega arith in (h.0, ap (function_at ts) m ∙ h.1)
  found_at n (plain.enum_item a d ∷ is) ts (suc k) s f typed e =
      let h = found_at (suc n) is ts k s f typed e in let m : n + suc k ≡ suc n + k = omega arith in (h.0, ap (function_at ts) m ∙ h.1)
  found_at n (plain.function_item a g ∷ is) [] k s f typed e = absurd typed
  found_at n (plain.function_item a g ∷ is) (t ∷ ts) zero s f typed e = let at = typed.0.item in (t, this_one t ts (n + 0) (omega (arith, at)))
  found_at n (plain.function_item a g ∷ is) (t ∷ ts) (suc k) s f typed e =
      let h = found_at (suc n) is ts k s f typed.1 e in let m : n + suc k ≡ suc n + k = omega arith in let at = typed.0.item in
      (h.0, not_this t ts (n + suc k) (λ q. omega (arith, at, q)) ∙ (ap (function_at ts) m ∙ h.1))

-- ---- bounds

read_ok : {A B : Type 0} (m : steps.Outcome A) (f : A → steps.Outcome B) (b : B) → on_ok m f ≡ Ok b → (a : A) × (m ≡ Ok a) × (f a ≡ Ok b)
read_ok (Ok a) f b e = (a, refl, e)
read_ok (Err x) f b e = absurd (cc)

read_same : {A : Type 0} (a b : A) → ◌≡◌ {A = steps.Outcome A} (Ok a) (Ok b) → a ≡ b
read_same a b e = cc

none_bounded : (n : ℕ) (ls : List BoundLifetime) → Every (λ (l : BoundLifetime). l.bounds ≡ []) ls → bounded n ls ≡ []
none_bounded n [] h = refl
none_bounded n (l ∷ ls) h = ap₂ (λ a b. one_each (meant.number n) a ++ b) h.0 (none_bounded (suc n) ls h.1)

function_bare : (p : ProgramTree) (ns : List NodeNames) (f : Function) (d : Decl) → declared_function p ns f ≡ Ok d → Every (λ (l : BoundLifetime). l.bounds ≡ []) f.lifetimes
    → lowered.bounds_of (Some d) ≡ []
function_bare p ns f d e bare =
    let B = bounded 0 f.lifetimes in
    let a = read_ok (entry_of B f.params (begins ns (meant.number (length f.lifetimes)))) (λ e. on_ok (parameters_of p f.params e.1) (λ ps. on_ok (answer_of p f.result ps.1) (λ a. Ok (decl.Func ps.1.next ps.0 a.0 (bounds_of B e.0))))) d e in
    let b = read_ok (parameters_of p f.params a.0.1) (λ ps. on_ok (answer_of p f.result ps.1) (λ x. Ok (decl.Func ps.1.next ps.0 x.0 (bounds_of B a.0.0)))) d a.2 in
    let c = read_ok (answer_of p f.result b.0.1) (λ x. Ok (decl.Func b.0.1.next b.0.0 x.0 (bounds_of B a.0.0))) d b.2 in
    ap (λ (x : Decl). lowered.bounds_of (Some x)) (sym (read_same (decl.Func b.0.1.next b.0.0 c.0.0 (bounds_of B a.0.0)) d c.2))
    ∙ ap (λ l. bounds_of l a.0.0) (none_bounded 0 f.lifetimes bare)

module _ (p : ProgramTree) (ns : List ItemNames) where
  items_bare : (n : ℕ) (is : ProgramTree) (ds : List Decl) (k : ℕ) (s : Span) (f : Function) → declared_items p ns n is ≡ Ok ds → nth is k ≡ Some (plain.function_item s f)
      → Every (λ (l : BoundLifetime). l.bounds ≡ []) f.lifetimes → lowered.bounds_of (slice_get ds k) ≡ []
  items_bare n [] ds k s f e there bare = absurd (cc)
  items_bare n (i ∷ is) ds k s f e there bare =
      let a = read_ok (declared_item p (entries_of (slice_get ns n)) i) (λ d. on_ok (declared_items p ns (suc n) is) (λ ds. Ok (d ∷ ds))) ds e in
      let b = read_ok (declared_items p ns (suc n) is) (λ ds. Ok (a.0 ∷ ds)) ds a.2 in
      ap (λ (l : List Decl). lowered.bounds_of (slice_get l k)) (sym (read_same (a.0 ∷ b.0) ds b.2)) ∙ at a.0 a.1 b.0 k there (λ m h. items_bare (suc n) is b.0 m s f b.1 h bare)
    where
      at : (d : Decl) → declared_item p (entries_of (slice_get ns n)) i ≡ Ok d → (es : List Decl) (k : ℕ) → nth (i ∷ is) k ≡ Some (plain.function_item s f)
          → ((m : ℕ) → nth is m ≡ Some (plain.function_item s f) → lowered.bounds_of (slice_get es m) ≡ []) → lowered.bounds_of (slice_get (d ∷ es) k) ≡ []
      at d told es zero h r = let q : i ≡ plain.function_item s f = cc in
          function_bare p (entries_of (slice_get ns n)) f d (sym (ap (declared_item p (entries_of (slice_get ns n))) q) ∙ told) bare
      at d told es (suc k) h r = r k h

same_bounds : (o : Option Decl) → lowered.bounds_of (unrecorded_option o) ≡ lowered.bounds_of o
same_bounds None = refl
same_bounds (Some decl.Rt) = refl
same_bounds (Some (decl.Struct c l vs fs)) = refl
same_bounds (Some (decl.Enum c l vs ds)) = refl
same_bounds (Some (decl.Func l ps t bs)) = refl

of_recorded : (D E : List Decl) → map unrecorded D ≡ map unrecorded E → (i : ℕ) → lowered.bounds_of (slice_get D i) ≡ lowered.bounds_of (slice_get E i)
of_recorded D E items i =
    sym (same_bounds (slice_get D i)) ∙ (sym (ap lowered.bounds_of (slice_get-map unrecorded D i))
    ∙ (ap (λ (l : List Decl). lowered.bounds_of (slice_get l i)) items ∙ (ap lowered.bounds_of (slice_get-map unrecorded E i) ∙ same_bounds (slice_get E i))))

module _ (p : ProgramTree) (ns : List ItemNames) (t : Typed) (typed : IsTyped p ns t) (k : ℕ) (s : Span) (f : Function) (there : nth p k ≡ Some (plain.function_item s f)) where
  pub function_found : (g : TypedFn) × (function_at t.functions k ≡ Some g)
  function_found = let h = found_at _ ns 0 p t.functions k s f typed.functions there in
      let m : k ≡ 0 + k = omega arith in (h.0, ap (function_at t.functions) m ∙ h.1)

  pub none_declared : Every (λ (l : BoundLifetime). l.bounds ≡ []) f.lifetimes → (g : TypedFn) → function_at t.functions k ≡ Some g → (P : ℕ → List Bound)
      → (context_of t.decls.items P g).lifetimes.bounds ≡ []
  none_declared bare g found P =
      ap (λ i. lowered.bounds_of (slice_get t.decls.items i)) (found_item t.functions k g found)
      ∙ (of_recorded t.decls.items typed.declared typed.same k ∙ items_bare p ns 0 p typed.declared k s f typed.declares.items there bare)
