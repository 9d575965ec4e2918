-- The signatures of a typed program are well-formed.
use Rattle.std.proofs.Common.{◌≡◌, ℕ, zero, suc, ◌+◌, ◌<◌, ◌≤◌, true, List, [], ◌∷◌, map, length, Option, Some, None, option_map, Ok, slice_get, refl, sym, ap, subst, ◌∙◌, arith, lt-ltb}
use Rattle.std.proofs.lemmas.List.{length-map}
use Rattle.rx_core.specs.declared.types.Span.{Span}
use Rattle.rx_tree.specs.declared.tree.Ident.{Ident}
use Rattle.rx_tree.specs.declared.tree.BoundLifetime.{BoundLifetime}
use Rattle.rx_tree.specs.Plain as plain
use Rattle.rx_tree.specs.Plain.{Function, ItemTree, ProgramTree}
use Rattle.rx_tree.specs.Size.{item_lifetimes, IsNumbered}
use Rattle.rx_resolve_names.specs.declared.resolved.ItemNames.{ItemNames}
use Rattle.rx_resolve_names.specs.Meant.{number, firsts, lifetimes_declared}
use Rattle.rx_resolve_names.specs.Steps.{Inside}
use Rattle.rx_resolve_names.specs.Causes.{Meant}
use Rattle.rx_resolve_names.specs.Items.{in_item}
use Rattle.rx_typed.specs.declared.declarations.Decl.{Decl}
use Rattle.rx_typed.specs.declared.declarations.Decl.TheVariants as decl
use Rattle.rx_typed.specs.Naming.{function_named}
use Rattle.rx_typed.specs.Types.{Declarations}
use Rattle.rx_typed.specs.PlainTypes.{declarations}
use Rattle.rx_typed_declarations.specs.WellFormed.{signature_fits, WellSigned}
use Rattle.rx_typed_declarations.specs.Variance.{unrecorded}
use Rattle.rx_typed_declarations.proofs.Polarities.{same_declared}
use Rattle.rx_typeck_typed.specs.Steps.{Outcome, on_ok}
use Rattle.rx_typeck_typed.specs.Items.{begins, bounded, bounds_of, entry_of, parameters_of, answer_of, declared_item, declared_function, entries_of}
use Rattle.rx_typeck_solver.specs.Facts.{Assignment, KnownItems, MeetsEach}
use Rattle.rx_typeck_typed.specs.Demands.{demands}
use Rattle.rx_typeck_typed.specs.declared.typed.Typed.{Typed}
use Rattle.rx_typeck_typed.specs.declared.typed.TypedFn.{TypedFn}
use Rattle.rx_typeck_typed.specs.Typing.{Given, known_in, entries, variables_at, FunctionTyped, FunctionsTyped, IsTyped}
use Rattle.rx_typeck_typed.proofs.Lifetimes.{read_ok, both_true}
use Rattle.rx_typeck_typed.proofs.Reading.{Within, ParametersCounted, ResultCounted}
use Rattle.rx_typeck_typed.proofs.Counting.{function_parameters_counted, function_result_counted}
use Rattle.rx_typeck_typed.proofs.DeclaredLemmas.{lifetimes_below, few_number, lifetimes_within, Program, program, adt_at, item_there, declared_there, named_there, struct_is, enum_is}
use Rattle.rx_typeck_typed.proofs.Signatures.{signature_read}

-- ---- what is recorded of lifetimes counts for nothing

unrecorded_fits : (D : Declarations) (d : Decl) → signature_fits D (unrecorded d) ≡ signature_fits D d
unrecorded_fits D decl.Rt = refl
unrecorded_fits D (decl.Struct c l vs fs) = refl
unrecorded_fits D (decl.Enum c l vs ds) = refl
unrecorded_fits D (decl.Func l ps t bs) = refl

unrecorded_at : (ds : List Decl) (i : ℕ) → slice_get (map unrecorded ds) i ≡ option_map unrecorded (slice_get ds i)
unrecorded_at [] i = refl
unrecorded_at (d ∷ ds) zero = refl
unrecorded_at (d ∷ ds) (suc i) = unrecorded_at ds i

-- the declaration at a number, apart from what is recorded
found : (o : Option Decl) (d : Decl) → option_map unrecorded o ≡ Some (unrecorded d) → (x : Decl) × (o ≡ Some x) × (unrecorded x ≡ unrecorded d)
found None d e = absurd (cc)
found (Some x) d e = (x, refl, let s : unrecorded x ≡ unrecorded d = cc in s)

-- ---- functions of a typed program

later : (G : Given) (ns : List ItemNames) (n : ℕ) (is : ProgramTree) (ts : List TypedFn) (j : ℕ) (s : Span) (f : Function)
    → (t : TypedFn) × FunctionTyped G (suc n + j) s f (entries (slice_get ns (suc n + j))) (variables_at (slice_get ns (suc n + j))) t
    → (t : TypedFn) × FunctionTyped G (n + suc j) s f (entries (slice_get ns (n + suc j))) (variables_at (slice_get ns (n + suc j))) t
later G ns n is ts j s f t =
    let at : suc n + j ≡ n + suc j = omega arith in (t.0, subst (λ k. FunctionTyped G k s f (entries (slice_get ns k)) (variables_at (slice_get ns k)) t.0) at t.1)

typed_there : (G : Given) (ns : List ItemNames) (n : ℕ) (is : ProgramTree) (ts : List TypedFn) (j : ℕ) (s : Span) (f : Function) → FunctionsTyped G ns n is ts → slice_get is j ≡ Some (plain.function_item s f)
    → (t : TypedFn) × FunctionTyped G (n + j) s f (entries (slice_get ns (n + j))) (variables_at (slice_get ns (n + j))) t
typed_there G ns n [] ts j s f h e = absurd (cc)
typed_there G ns n (plain.rt_item a b ∷ is) ts zero s f h e = absurd (cc)
typed_there G ns n (plain.struct_item a b ∷ is) ts zero s f h e = absurd (cc)
typed_there G ns n (plain.enum_item a b ∷ is) ts zero s f h e = absurd (cc)
typed_there G ns n (plain.function_item a b ∷ is) [] j s f h e = absurd h
typed_there G ns n (plain.function_item a b ∷ is) (t ∷ ts) zero s f h e =
    let same : plain.function_item a b ≡ plain.function_item s f = cc in
    let at : n ≡ n + 0 = omega arith in (
      t,
      subst (λ k. FunctionTyped G k s f (entries (slice_get ns k)) (variables_at (slice_get ns k)) t) at
          (subst (λ (x : Span × Function). FunctionTyped G n x.0 x.1 (entries (slice_get ns n)) (variables_at (slice_get ns n)) t) (let p : (a, b) ≡ (s, f) = cc in p) h.0),
    )
typed_there G ns n (plain.rt_item a b ∷ is) ts (suc j) s f h e = later G ns n is ts j s f (typed_there G ns (suc n) is ts j s f h e)
typed_there G ns n (plain.struct_item a b ∷ is) ts (suc j) s f h e = later G ns n is ts j s f (typed_there G ns (suc n) is ts j s f h e)
typed_there G ns n (plain.enum_item a b ∷ is) ts (suc j) s f h e = later G ns n is ts j s f (typed_there G ns (suc n) is ts j s f h e)
typed_there G ns n (plain.function_item a b ∷ is) (t ∷ ts) (suc j) s f h e = later G ns n is ts j s f (typed_there G ns (suc n) is ts j s f h.1 e)

-- ---- one function

-- of its item, what resolving and declaring give
module _ (p : ProgramTree) (ns : List ItemNames) (ds : List Decl) (P : Program p ns ds) where
  abbrev D : Declarations
  D = declarations ds

  abbrev inside : ℕ → ItemTree → Inside
  inside n i = record { program = p; item = number n; lifetimes = firsts [] 0 (lifetimes_declared i) }

  within : (j : ℕ) (s : Span) (f : Function) (m : ℕ) → length f.lifetimes ≤ m → Within (inside j (plain.function_item s f)) D m
  within j s f m h = record {
    adt = λ x i e. (adt_at p ns ds P x i e).0;
    counted = λ x i e. (adt_at p ns ds P x i e).1;
    below = λ x k e.
        let less = lifetimes_below (lifetimes_declared (plain.function_item s f)) x k e in
        let same = length-map f.lifetimes (λ (l : BoundLifetime). l.name) in
        lt-ltb k m (omega (arith, less, same, h));
  }

  -- a function whose demands are met
  function_fits : (j : ℕ) (s : Span) (f : Function) (x : ItemNames) (d : Decl) (K : KnownItems) (A : Assignment) → K.items ≡ D → length f.lifetimes < 4294967296 → in_item p j (plain.function_item s f) ≡ Ok x
      → declared_function p x.names f ≡ Ok d → MeetsEach K A (demands (function_named j s f x.names)) → signature_fits D d ≡ true
  function_fits j s f x d K A items few named declared met =
      let it = plain.function_item s f in
      let B = bounded 0 f.lifetimes in
      let n0 = number (length f.lifetimes) in
      let e = read_ok (entry_of B f.params (begins x.names n0)) (λ e. on_ok (parameters_of p f.params e.1) (λ ps. on_ok (answer_of p f.result ps.1) (λ a. Ok (decl.Func ps.1.next ps.0 a.0 (bounds_of B e.0))))) d declared in
      let ps = read_ok (parameters_of p f.params e.0.1) (λ ps. on_ok (answer_of p f.result ps.1) (λ a. Ok (decl.Func ps.1.next ps.0 a.0 (bounds_of B e.0.0)))) d e.2 in
      let a = read_ok (answer_of p f.result ps.0.1) (λ a. Ok (decl.Func ps.0.1.next ps.0.0 a.0 (bounds_of B e.0.0))) d ps.2 in
      let is : decl.Func ps.0.1.next ps.0.0 a.0.0 (bounds_of B e.0.0) ≡ d = one_decl _ d a.2 in
      let t0 : ItemNames = record { vars = []; lifetimes = map (λ (l : Ident). l.span) (lifetimes_declared it); loops = []; names = [] } in
      let all : n0 ≡ length f.lifetimes = few_number (length f.lifetimes) few in
      let first = signature_read (inside j it) D n0 (within j s f n0 (omega (arith, all))) j s f (omega (arith, all)) [] [] [] t0 x refl named e.0 ps.0 a.0 e.1 ps.1 a.1 in
      let m = ps.0.1.next in
      let more : length f.lifetimes ≤ m = let g = first.grows in omega (arith, all, g) in
      let second = signature_read (inside j it) D m (within j s f m more) j s f more [] [] [] t0 x refl named e.0 ps.0 a.0 e.1 ps.1 a.1 in
      let F = function_named j s f x.names in
      let fit = second.fit (omega arith) (subst (λ (D : Declarations). ParametersCounted D F.params) items (function_parameters_counted K A F met)) (subst (λ (D : Declarations). ResultCounted D F.result) items (function_result_counted K A F met)) in
      subst (λ (d : Decl). signature_fits D d ≡ true) is (both_true _ _ (both_true _ _ fit.0 fit.1) fit.2)
    where
      one_decl : (a b : Decl) → ◌≡◌ {A = Outcome Decl} (Ok a) (Ok b) → a ≡ b
      one_decl a b e = cc

  item_fits : (j : ℕ) (it : ItemTree) (d : Decl) (G : Given) (ts : List TypedFn) → G.declared ≡ ds → FunctionsTyped G ns 0 p ts → slice_get p j ≡ Some it → item_lifetimes it < 4294967296
      → (x : ItemNames) × (slice_get ns j ≡ Some x) × (in_item p j it ≡ Ok x) → declared_item p (entries_of (slice_get ns j)) it ≡ Ok d → signature_fits D d ≡ true
  item_fits j (plain.rt_item s r) d G ts same typed at few named e = let x : decl.Rt ≡ d = cc in ap (signature_fits D) (sym x)
  item_fits j (plain.struct_item s y) d G ts same typed at few named e = ap (signature_fits D) (sym (struct_is p _ s y d e).1)
  item_fits j (plain.enum_item s y) d G ts same typed at few named e = ap (signature_fits D) (sym (enum_is p _ s y d e).1)
  item_fits j (plain.function_item s f) d G ts same typed at few named e =
      let t = typed_there G ns 0 p ts j s f typed at in
      let here : 0 + j ≡ j = omega arith in
      let met = t.1.valid.prefers.typed in
      let met1 = subst (λ k. MeetsEach (known_in G) t.1.types (demands (function_named k s f (entries (slice_get ns k))))) here met in
      let met2 = subst (λ (o : Option ItemNames). MeetsEach (known_in G) t.1.types (demands (function_named j s f (entries o)))) named.1 met1 in
      function_fits j s f named.0 d (known_in G) t.1.types (ap declarations same) few named.2 (subst (λ (o : Option ItemNames). declared_item p (entries_of o) (plain.function_item s f) ≡ Ok d) named.1 e) met2

-- ---- all items

pub signed : (p : ProgramTree) (ns : List ItemNames) (t : Typed) → IsNumbered p → Meant p ns → IsTyped p ns t → WellSigned t.decls.items
signed p ns t few named typed =
    let ds = typed.declared in
    let P = program p ns ds few named typed.declares.items in
    let same : declarations t.decls.items ≡ declarations ds = same_declared t.decls.items ds typed.same in
    record {
      signatures = λ i d s.
          let o = found (slice_get ds i) d (sym (unrecorded_at ds i) ∙ ap (λ (l : List Decl). slice_get l i) (sym typed.same) ∙ unrecorded_at t.decls.items i ∙ ap (option_map unrecorded) s) in
          let it = item_there p ns 0 p ds i o.0 typed.declares.items o.1 in
          let at = declared_there p ns 0 p ds i it.item typed.declares.items it.stands in
          let same_decl : at.decl ≡ o.0 = let q = sym at.stands ∙ o.1 in cc in
          let less = lifetimes_within p i it.item it.stands in
          let all = P.few in
          let here : 0 + i ≡ i = omega arith in
          let table = named_there p 0 p ns i it.item P.names it.stands in
          let fit = item_fits p ns ds P i it.item at.decl _ t.functions refl typed.functions it.stands (omega (arith, less, all))
          (table.table, table.stands, subst (λ k. in_item p k it.item ≡ Ok table.table) here table.named)
          (subst (λ k. declared_item p (entries_of (slice_get ns k)) it.item ≡ Ok at.decl) here at.declared) in
          subst (λ (D : Declarations). signature_fits D d ≡ true) (sym same)
          (sym (unrecorded_fits (declarations ds) d) ∙ ap (signature_fits (declarations ds)) (sym o.2) ∙ unrecorded_fits (declarations ds) o.0 ∙ ap (signature_fits (declarations ds)) (sym same_decl) ∙ fit);
    }
