-- What is solved is typed, what isn't has no valid assignment, and the functions of a program one after the other.
use Rattle.std.proofs.Common.{◌≡◌, ◌≢◌, ℕ, zero, suc, ◌<◌, ◌≤◌, Bool, true, false, List, [], ◌∷◌, ◌++◌, map, drop, length, get_or, Option, Some, None, Result, Ok, Err, IfOk, IfErr, slice_get, arith, inl, inr, ⊎_elim, ◌↔◌, refl, sym, ap, subst, ◌∙◌, append_assoc, append-nil}
use Rattle.rx_core.specs.declared.types.Span.{Span}
use Rattle.rx_core.specs.declared.types.Kind.{Kind}
use Rattle.rx_core.specs.declared.types.Ty.{Ty}
use Rattle.rx_tree.specs.Plain as plain
use Rattle.rx_tree.specs.Plain.{ItemTree, ProgramTree}
use Rattle.rx_tree.specs.declared.tree.Item.{Item}
use Rattle.rx_tree.specs.declared.tree.Func.{Func}
use Rattle.rx_tree.specs.declared.tree.ItemNode.TheVariants as node
use Rattle.rx_tree.specs.PlainOf.{plain-Item, plain-ItemNode, plain-Func}
use Rattle.rx_resolve_names.specs.declared.resolved.ItemNames.{ItemNames}
use Rattle.rx_resolve_names.specs.declared.resolved.NodeNames.{NodeNames}
use Rattle.rx_typed.specs.Naming.{function_named}
use Rattle.rx_typed.specs.declared.declarations.Decls.{Decls}
use Rattle.rx_typed.specs.Types.{Typ, Shapes, integer, boolean, tuple_of, reference, named, no_shape, shape_and, unit_shape, Declarations}
use Rattle.rx_typed.specs.PlainTypes.{declarations}
use Rattle.rx_typed.specs.Regions.{erased, all_erased}
use Rattle.rx_typed.specs.Named.{Function}
use Rattle.rx_typed.specs.Elaborated.{elaborated}
use Rattle.rx_typed.specs.PlainTree.{plain-TypedTree}
use Rattle.rx_typed_declarations.proofs.RegionLemmas.{is_erased}
use Rattle.rx_typeck_solver.specs.declared.facts.Broken.{Broken}
use Rattle.rx_typeck_solver.specs.declared.facts.Demand.{Demand}
use Rattle.rx_typeck_solver.specs.declared.facts.Subject.{Subject}
use Rattle.rx_typeck_solver.specs.declared.facts.Subject.TheVariants as subject
use Rattle.rx_typeck_solver.specs.declared.solver.Solved.{Solved}
use Rattle.rx_typeck_solver.specs.declared.solver.Unsolved.{Unsolved}
use Rattle.rx_typeck_solver.specs.declared.solver.Unsolved.TheVariants as unsolved
use Rattle.rx_typeck_solver.specs.declared.export.Found.{Found}
use Rattle.rx_typeck_solver.specs.Facts.{Assignment, KnownItems, MeetsEach}
use Rattle.rx_typeck_solver.specs.Stepping.{known}
use Rattle.rx_typeck_solver.specs.Solver.{Term, filled_or}
use Rattle.rx_typeck_solver.specs.Tabled.{table_of}
use Rattle.rx_typeck_solver.specs.Valid.{Task, Told, Valid, Breaks, MeetsChosen, MeetsOne}
use Rattle.rx_typeck_solver.specs.Solving.{types_of, HasTerm, IsSolved, IsUnsolved}
use Rattle.rx_typeck_solver.specs.Trimmed.{IsTrimmed}
use Rattle.rx_typeck_solver.specs.Views as views
use Rattle.rx_typeck_solver.specs.Views.{unnumbered, all_unnumbered, kind_found, IsFound}
use Rattle.rx_typeck_typed.specs.Demands.{demands, task}
use Rattle.rx_typeck_elaborate_parts.specs.declared.assigned.NodeTypes.{NodeTypes}
use Rattle.rx_typeck_elaborate_parts.specs.Assigning as parts
use Rattle.rx_typeck_elaborate_parts.specs.Assigning.{joined, shape_of}
use Rattle.rx_typeck.specs.declared.check.Described.{Described}
use Rattle.rx_typeck_typed.specs.declared.typed.TypedFn.{TypedFn}
use Rattle.rx_typeck_typed.specs.declared.typed.TypeFault.{TypeFault}
use Rattle.rx_typeck_typed.specs.declared.typed.TypeFault.TheVariants as fault
use Rattle.rx_typeck_typed.specs.Typing.{Given, known_in, IsAnnotated, entries, variables_at, assigned, type_at, TypeIs, FunctionTyped, fault_of, of_unsolved, FunctionUntyped, FunctionsTyped, FirstUntyped}
use Rattle.rx_typeck.specs.Checking.{described, ItemTyped, ItemUntyped, Behind}

-- ---- a function without a valid assignment

meets_chosen : (K : KnownItems) (t : Task) (bs : List Bool) (A : Assignment) (ds : List Demand) → MeetsEach K A ds → MeetsChosen K t bs A ds
meets_chosen K t [] A ds h = tt
meets_chosen K t (b ∷ bs) A [] h = tt
meets_chosen K t (true ∷ bs) A (d ∷ ds) h = (h.0, meets_chosen K t bs A ds h.1)
meets_chosen K t (false ∷ bs) A (d ∷ ds) h = meets_chosen K t bs A ds h.1

meets_one : (K : KnownItems) (t : Task) (n : ℕ) (r : Broken) (A : Assignment) (ds : List Demand) → MeetsEach K A ds → MeetsOne K t n r A ds
meets_one K t n r A [] h = tt
meets_one K t n r A (d ∷ ds) h = ((λ _ _. h.0), meets_one K t n r A ds h.1)

none_valid : (K : KnownItems) (t : Task) (n : ℕ) (r : Broken) → Breaks K t n r → (A : Assignment) → Valid K t A → ⊥
none_valid K t n r b A v = b.none A (meets_chosen K t b.chosen A t.demands v.prefers.typed) (meets_one K t n r A t.demands v.prefers.typed)

untyped : (K : KnownItems) (f : Function) (vars : List Span) (n : ℕ) (s : Span) (b : Broken) → IsUnsolved K (task f) (unsolved.Broken n s b) → FunctionUntyped K f vars (fault_of s b vars)
untyped K f vars n s b h = record {
  none = ⊎_elim (λ x. none_valid K (task f) n b x) (λ x. x.1.not_valid) h.0;
  node = n;
  at = s;
  rule = b;
  asked = h.1;
  breaks = h.0;
  is = refl;
}

untyped_of : (K : KnownItems) (f : Function) (vars : List Span) (u : Unsolved) → IsUnsolved K (task f) u → of_unsolved u vars ≢ fault.OutOfMemory → FunctionUntyped K f vars (of_unsolved u vars)
untyped_of K f vars (unsolved.Broken n s b) h told = untyped K f vars n s b h
untyped_of K f vars unsolved.OutOfMemory h told = absurd (told refl)

pub untyped_as : {A : Type 0} (K : KnownItems) (f : Function) (vars : List Span) (r : Result A Unsolved) (u : Unsolved) (e : TypeFault)
    → IfErr r (λ e. IsUnsolved K (task f) e) → r ≡ Err u → e ≡ of_unsolved u vars → e ≢ fault.OutOfMemory → FunctionUntyped K f vars e
untyped_as K f vars r u e h er ee told =
    subst (FunctionUntyped K f vars) (sym ee) (untyped_of K f vars u (subst (λ r. IfErr r (λ e. IsUnsolved K (task f) e)) er h) (subst (λ e. e ≢ fault.OutOfMemory) ee told))

-- ---- a function with one

mutual
  erased_unnumbered : (D : Declarations) (t : Typ) → erased (unnumbered D t) ≡ t
  erased_unnumbered D (integer k) = refl
  erased_unnumbered D boolean = refl
  erased_unnumbered D (tuple_of ts) = ap tuple_of (all_erased_unnumbered D ts)
  erased_unnumbered D (reference m t) = ap (reference m) (erased_unnumbered D t)
  erased_unnumbered D (named i) = refl

  all_erased_unnumbered : (D : Declarations) (ts : Shapes Kind) → all_erased (all_unnumbered D ts) ≡ ts
  all_erased_unnumbered D no_shape = refl
  all_erased_unnumbered D (shape_and t ts) = (λ i. shape_and (erased_unnumbered D t i) (all_erased_unnumbered D ts i))

no_type : (s : Solved) (x : Subject) (o : Option Term) → table_of s.arena.entries.items s.tables x ≡ o → (HasTerm s x → ⊥) → unit_shape ≡ types_of s x
no_type s x None e h = sym (ap (filled_or (kind_found s)) e)
no_type s x (Some t) e h = absurd (h (t, e))

shape_is : (s : Solved) (D : Declarations) (x : Subject) (o : Option Ty) → views.TypeFound s D x o → shape_of o ≡ types_of s x
shape_is s D x None h = no_type s x (table_of s.arena.entries.items s.tables x) refl h
shape_is s D x (Some t) h = sym (is_erased t) ∙ ap erased h.1 ∙ erased_unnumbered D (types_of s x)

fun_ext : {A B : Type 0} (f g : A → B) → ((x : A) → f x ≡ g x) → f ≡ g
fun_ext f g h = λ i x. h x i

assigned_same : (d : Decls) (sizes : List ℕ) (ts : NodeTypes) (s : Solved) → ((n : ℕ) → shape_of (joined (slice_get ts.nodes n)) ≡ types_of s (subject.Node n))
    → ((n : ℕ) → shape_of (joined (slice_get ts.expected n)) ≡ types_of s (subject.Expected n)) → parts.assigned d ts ≡ assigned (known d.items sizes) (types_of s)
unfolding parts.assigned
assigned_same d sizes ts s nodes expected =
    let a = fun_ext _ _ nodes in let b = fun_ext _ _ expected in
    (λ i. record { items = declarations d.items; typ = a i; expected = b i })

told_type : (K : KnownItems) (f : Function) (s : Solved) (x : Subject) (o : Option Ty) → (Told (demands f) x ↔ HasTerm s x) → views.TypeFound s K.items x o → TypeIs K f (types_of s) x o
told_type K f s x None t h = λ told. h (t.0 told)
told_type K f s x (Some y) t h = (t.1 h.0, h.1)

pub typed : (p : ProgramTree) (d : Decls) (sizes : List ℕ) (i : ℕ) (at : Span) (g : plain.Function) (entries : List NodeNames) (vars : List Span) (t : TypedFn) (before : Described) (found : Found) (s : Solved)
    → before ≡ described at g entries vars → IsFound s (declarations d.items) found → IsSolved (known d.items sizes) (task (function_named i at g entries)) s
    → t.item ≡ i → t.names ≡ before.names → t.mutable ≡ before.mutable → t.spans ≡ before.spans → t.variables ≡ found.variables → t.types.nodes ≡ found.nodes → t.types.expected ≡ found.expected
    → plain-TypedTree t.tree ≡ elaborated (parts.assigned d t.types) (function_named i at g entries) → IsAnnotated (record { program = p; declared = d.items; sizes = sizes }) i at g entries t.annotations
    → FunctionTyped (record { program = p; declared = d.items; sizes = sizes }) i at g entries vars t
typed p d sizes i at g entries vars t before found s is all solved item names mutable spans vs ns es tree annotated = record {
  item = item;
  names = names ∙ ap (λ (b : Described). b.names) is;
  mutable = mutable ∙ ap (λ (b : Described). b.mutable) is;
  spans = spans ∙ ap (λ (b : Described). b.spans) is;
  types = types_of s;
  valid = solved.valid;
  untold = λ x n. sym (no_type s x (table_of s.arena.entries.items s.tables x) refl (λ h. n ((solved.told x).1 h)));
  found = each;
  trimmed = (subst (λ l. IsTrimmed l) (sym vs) all.trimmed.0, subst (λ l. IsTrimmed l) (sym ns) all.trimmed.1, subst (λ l. IsTrimmed l) (sym es) all.trimmed.2);
  tree = tree ∙ ap (λ T. elaborated T (function_named i at g entries)) (assigned_same d sizes t.types s
      (λ n. shape_is s (declarations d.items) (subject.Node n) _ (subst (λ l. views.TypeFound s (declarations d.items) (subject.Node n) (joined (slice_get l n))) (sym ns) (all.each (subject.Node n))))
      (λ n. shape_is s (declarations d.items) (subject.Expected n) _ (subst (λ l. views.TypeFound s (declarations d.items) (subject.Expected n) (joined (slice_get l n))) (sym es) (all.each (subject.Expected n)))));
  annotated = annotated;
}
  where
    each : (x : Subject) → TypeIs (known d.items sizes) (function_named i at g entries) (types_of s) x (type_at t x)
    each (subject.Variable x) = told_type (known d.items sizes) (function_named i at g entries) s (subject.Variable x) _ (solved.told (subject.Variable x))
        (subst (λ l. views.TypeFound s (declarations d.items) (subject.Variable x) (joined (slice_get l x))) (sym vs) (all.each (subject.Variable x)))
    each (subject.Node n) = told_type (known d.items sizes) (function_named i at g entries) s (subject.Node n) _ (solved.told (subject.Node n))
        (subst (λ l. views.TypeFound s (declarations d.items) (subject.Node n) (joined (slice_get l n))) (sym ns) (all.each (subject.Node n)))
    each (subject.Expected n) = told_type (known d.items sizes) (function_named i at g entries) s (subject.Expected n) _ (solved.told (subject.Expected n))
        (subst (λ l. views.TypeFound s (declarations d.items) (subject.Expected n) (joined (slice_get l n))) (sym es) (all.each (subject.Expected n)))

-- ---- one function after the other

drop_none : (p : ProgramTree) → drop 0 p ≡ p
drop_none [] = refl
drop_none (i ∷ p) = refl

pub begins : (G : Given) (ns : List ItemNames) (p : ProgramTree) → Behind G ns p 0 []
begins G ns p = record {
  typed = λ more h. subst (λ l. FunctionsTyped G ns 0 l more) (drop_none p) h;
  untyped = λ e h. subst (λ l. FirstUntyped (known_in G) ns 0 l e) (drop_none p) h;
}

pub goes_on : (G : Given) (ns : List ItemNames) (p : ProgramTree) (i : ℕ) (it : ItemTree) (all new : List TypedFn) → drop i p ≡ it ∷ drop (suc i) p → Behind G ns p i all
    → ItemTyped G ns i it all new → Behind G ns p (suc i) new
goes_on G ns p i (plain.function_item s f) all new at b t = record {
  typed = λ more h. subst (λ l. FunctionsTyped G ns 0 p (l ++ more)) (sym t.1) (subst (FunctionsTyped G ns 0 p) (sym (append_assoc all (t.0 ∷ []) more))
      (b.typed (t.0 ∷ more) (subst (λ l. FunctionsTyped G ns i l (t.0 ∷ more)) (sym at) (t.2, h))));
  untyped = λ e h. b.untyped e (subst (λ l. FirstUntyped (known_in G) ns i l e) (sym at) (inr ((t.2.types, t.2.valid), h)));
}
goes_on G ns p i (plain.rt_item s r) all new at b t = record {
  typed = λ more h. subst (λ l. FunctionsTyped G ns 0 p (l ++ more)) (sym t) (b.typed more (subst (λ l. FunctionsTyped G ns i l more) (sym at) h));
  untyped = λ e h. b.untyped e (subst (λ l. FirstUntyped (known_in G) ns i l e) (sym at) h);
}
goes_on G ns p i (plain.struct_item s d) all new at b t = record {
  typed = λ more h. subst (λ l. FunctionsTyped G ns 0 p (l ++ more)) (sym t) (b.typed more (subst (λ l. FunctionsTyped G ns i l more) (sym at) h));
  untyped = λ e h. b.untyped e (subst (λ l. FirstUntyped (known_in G) ns i l e) (sym at) h);
}
goes_on G ns p i (plain.enum_item s d) all new at b t = record {
  typed = λ more h. subst (λ l. FunctionsTyped G ns 0 p (l ++ more)) (sym t) (b.typed more (subst (λ l. FunctionsTyped G ns i l more) (sym at) h));
  untyped = λ e h. b.untyped e (subst (λ l. FirstUntyped (known_in G) ns i l e) (sym at) h);
}

pub ends : (G : Given) (ns : List ItemNames) (p : ProgramTree) (i : ℕ) (all : List TypedFn) → drop i p ≡ [] → Behind G ns p i all → FunctionsTyped G ns 0 p all
ends G ns p i all at b = subst (FunctionsTyped G ns 0 p) (append-nil all) (b.typed [] (subst (λ l. FunctionsTyped G ns i l []) (sym at) refl))

pub stops : (G : Given) (ns : List ItemNames) (p : ProgramTree) (i : ℕ) (it : ItemTree) (all : List TypedFn) (e : TypeFault) → drop i p ≡ it ∷ drop (suc i) p → Behind G ns p i all
    → ItemUntyped (known_in G) ns i it e → FirstUntyped (known_in G) ns 0 p e
stops G ns p i (plain.function_item s f) all e at b h = b.untyped e (subst (λ l. FirstUntyped (known_in G) ns i l e) (sym at) (inl h))
stops G ns p i (plain.rt_item s r) all e at b h = absurd h
stops G ns p i (plain.struct_item s d) all e at b h = absurd h
stops G ns p i (plain.enum_item s d) all e at b h = absurd h

-- ---- an item's function, by its table of names

pub by_table : (P : List NodeNames → List Span → Type 0) (o : Option ItemNames) (t : ItemNames) (vars : List Span) → o ≡ Some t → vars ≡ t.vars → P t.names vars → P (entries o) (variables_at o)
by_table P o t vars eo ev h = subst (λ o. P (entries o) (variables_at o)) (sym eo) (subst (P t.names) ev h)

pub without_table : (P : List NodeNames → List Span → Type 0) (o : Option ItemNames) (ns : List NodeNames) (vars : List Span) → o ≡ None → ns ≡ [] → vars ≡ [] → P ns vars → P (entries o) (variables_at o)
without_table P o ns vars eo en ev h = subst (λ o. P (entries o) (variables_at o)) (sym eo) (subst (λ n. P n []) en (subst (P ns) ev h))

pub given : {A E : Type 0} (P : A → Type 0) (r : Result A E) (a : A) → IfOk r P → r ≡ Ok a → P a
given P r a h e = subst (λ x. IfOk x P) e h

pub given_err : {A E : Type 0} (P : E → Type 0) (r : Result A E) (e : E) → IfErr r P → r ≡ Err e → P e
given_err P r e h is = subst (λ x. IfErr x P) is h

-- ---- items of the code

item_next : (items : List Item) (i : ℕ) (d : Item) → i < length items → drop i (map plain-Item items) ≡ plain-Item (get_or items i d) ∷ drop (suc i) (map plain-Item items)
item_next [] i d h = absurd (omega (arith, h))
item_next (x ∷ items) zero d h = ap (λ l. plain-Item x ∷ l) (sym (drop_none (map plain-Item items)))
item_next (x ∷ items) (suc i) d h = item_next items i d (omega (arith, h))

pub item_here : (items : List Item) (i : ℕ) (x : Item) → i < length items → x ≡ get_or items i x → drop i (map plain-Item items) ≡ plain-Item x ∷ drop (suc i) (map plain-Item items)
item_here items i x h e = item_next items i x h ∙ ap (λ y. plain-Item y ∷ drop (suc i) (map plain-Item items)) (sym e)

pub items_end : (items : List Item) (i : ℕ) → length items ≤ i → drop i (map plain-Item items) ≡ []
items_end [] zero h = refl
items_end [] (suc i) h = refl
items_end (x ∷ items) zero h = absurd (omega (arith, h))
items_end (x ∷ items) (suc i) h = items_end items i (omega (arith, h))

pub function_item : (G : Given) (ns : List ItemNames) (i : ℕ) (item : Item) (f : Func) (all new : List TypedFn) (t : TypedFn) → item.node ≡ node.Func f → new ≡ all ++ t ∷ []
    → FunctionTyped G i item.span (plain-Func f) (entries (slice_get ns i)) (variables_at (slice_get ns i)) t → ItemTyped G ns i (plain-Item item) all new
function_item G ns i item f all new t is more h =
    subst (λ n. ItemTyped G ns i (plain-ItemNode n item.span) all new) (sym is) (t, more, h)
