-- Each struct or enum that a function of a typed program makes goes to a temporary of its type: by the types of its variables, which are
-- those of the assignment, with lifetimes and without.
use Rattle.std.proofs.Common.{◌≡◌, ℕ, zero, suc, ◌+◌, ◌-◌, Bool, true, false, ◌==◌, if◌then◌else◌, List, [], ◌∷◌, ◌++◌, length, map, drop, Option, Some, None, Ok, Err, slice_get, refl, sym, ap, ◌∙◌, subst, arith}
use Rattle.std.specs.Prelude.{get_or}
use Rattle.std.proofs.lemmas.Bool.{eqb-true}
use Rattle.std.proofs.lemmas.List.{length-map}
use Rattle.rx_core.specs.declared.types.Bound.{Bound}
use Rattle.rx_core.specs.declared.types.Span.{Span}
use Rattle.rx_core.specs.declared.types.Ty.{Ty}
use Rattle.rx_tree.specs.Lists.{Every}
use Rattle.rx_tree.specs.Plain as plain
use Rattle.rx_tree.specs.Plain.{ItemTree, ProgramTree}
use Rattle.rx_resolve_names.specs.Meant.{number}
use Rattle.rx_resolve_names.specs.declared.resolved.ItemNames.{ItemNames}
use Rattle.rx_resolve_names.specs.declared.resolved.NodeNames.{NodeNames}
use Rattle.rx_typed.specs.declared.declarations.Decl.{Decl}
use Rattle.rx_typed.specs.declared.declarations.Decl.TheVariants as decl
use Rattle.rx_typed.specs.declared.nodes.Site.{Site}
use Rattle.rx_typed.specs.Types as types
use Rattle.rx_typed.specs.Types.{Typ, Declared, Declarations, unit_shape, parameters_declared}
use Rattle.rx_typed.specs.PlainTypes.{plain-Ty, plain-Decl, declarations}
use Rattle.rx_typed.specs.Regions.{RegionTyp, region_integer, region_boolean, region_tuple, region_reference, region_named, RegionTyps, no_region, region_and, erased, all_erased, region-Ty}
use Rattle.rx_typed.specs.Named.{Parameter, Function}
use Rattle.rx_typed.specs.Naming as naming
use Rattle.rx_typed.specs.Naming.{function_named, function_spans, function_annotations}
use Rattle.rx_typed.specs.TypedNumbers.{AreFrom, nodes}
use Rattle.rx_typed.specs.Elaborated as elaborated
use Rattle.rx_typed.specs.Tree as tree
use Rattle.rx_typed.specs.Tree.{Temporary, Making, struct, variant_of}
use Rattle.rx_typed.specs.PlainTree.{plain-TypedTree}
use Rattle.rx_typed.specs.Numbers.{open_one, open_in, numbered}
use Rattle.rx_typed.specs.Numbers as numbers_of
use Rattle.rx_typed_declarations.proofs.RegionLemmas.{is_erased}
use Rattle.rx_typed_declarations.proofs.Polarities.{same_declared}
use Rattle.rx_lower_walks.specs.Actions.{Act, Build, Action, does, filled}
use Rattle.rx_lower_walks.specs.Orders.{order_function}
use Rattle.rx_lower_walks.specs.Walks.{Among, here, there}
use Rattle.rx_lower_walks.specs.Pieces.{graph}
use Rattle.rx_lower_walks.specs.Text.{text, actions_of, Sublist}
use Rattle.rx_lower_lifetimes.specs.Values.{Open, Held, same, is_held, held_type, open_unit, lifetimes_of}
use Rattle.rx_lower_lifetimes.specs.Variables.{parameter_type, Written, written_type, told, raw_type, open_type, open_types}
use Rattle.rx_lower_lifetimes.specs.Numbered.{all_numbered, opened}
use Rattle.rx_lower_lifetimes.specs.Lowered.{known, actions, temporaries, parameters}
use Rattle.rx_lower.specs.Functions.{trimmed, trimmed_and, written, function}
use Rattle.rx_region.specs.Constraints.{held, temporary_type}
use Rattle.rx_typeck_elaborate_parts.specs.Assigning.{joined}
use Rattle.rx_typeck_typed.specs.Steps as steps
use Rattle.rx_typeck_typed.specs.Items.{declared_item, declared_items, entries_of, begins, bounded, entry_of, parameters_of, answer_of, bounds_of}
use Rattle.rx_typeck_typed.specs.declared.variables.AnnotatedVariable.{AnnotatedVariable}
use Rattle.rx_typeck_typed.specs.Bindings.{lifetimes as let_lifetimes}
use Rattle.rx_typeck_typed.specs.Walks.{plain-Variable}
use Rattle.rx_typeck_solver.specs.declared.facts.Subject.TheVariants as subject
use Rattle.rx_typeck_solver.specs.Facts as facts
use Rattle.rx_typeck_solver.specs.Facts.{Assignment, MeetsEach}
use Rattle.rx_typeck_typed.specs.Demands as rules
use Rattle.rx_typeck_typed.specs.declared.typed.Typed.{Typed}
use Rattle.rx_typeck_typed.specs.declared.typed.TypedFn.{TypedFn}
use Rattle.rx_typeck_typed.specs.Typing.{Given, known_in, assigned, entries, variables_at, TypeIs, FunctionTyped, FunctionsTyped, IsTyped}
use Rattle.rx_facts.specs.Functions.{sites_of}
use Rattle.rx_check.specs.Contexts.{context_of}
use Rattle.rx_hoist_naming.proofs.Programs.{same_typ}
use Rattle.rx_repair.specs.Making.{IsOfItem, ActIsOfItem, AreOfItems}
use Rattle.rx_repair.specs.TemporaryTypes.{temporary_types}
use Rattle.rx_repair.proofs.Sites.{function_sited}
use Rattle.rx_repair.proofs.Entries.{all_found}
use Rattle.rx_repair.proofs.Patterns as acting
use Rattle.rx_repair.proofs.Acting.{function_holds}
use Rattle.rx_repair.proofs.Erasing.{plain_at, plain_option}
use Rattle.rx_repair.proofs.Making as making
use Rattle.rx_repair.proofs.Making.{IsOf, sites_hold, one_of, right_if}
use Rattle.rx_repair.proofs.Writing.{Taken, parameters_given, well_is, parameters_read, Agree, AgreeAs, agree_plain, entry_read}
use Rattle.rx_repair.proofs.Bound.{Told}
use Rattle.rx_repair.proofs.LetsMet.{parameters_met}
use Rattle.rx_repair.proofs.Lets as lets
use Rattle.rx_repair.proofs.Lets.{notes_are, lets_told}

-- ---- the types of variables, with lifetimes

one_is : (own : ℕ) (o : Option Ty) (w : Option RegionTyp) (r : Option Ty) (v : Typ) → ((t : Ty) → o ≡ Some t → plain-Ty t ≡ v) → ((t : RegionTyp) → w ≡ Some t → erased t ≡ v) → erased (raw_type r) ≡ v → erased (open_type own (told o w) r).typ ≡ v
one_is own (Some t) w r v p l h = is_erased t ∙ p t refl
one_is own None (Some t) r v p l h = l t refl
one_is own None None r v p l h = h

-- those that are found, from a number on
abbrev RawAre : (ℕ → Typ) → ℕ → List (Option Ty) → Type 0
RawAre V n [] = (k : ℕ) → V (n + k) ≡ unit_shape
RawAre V n (r ∷ rs) = (erased (raw_type r) ≡ V n) × RawAre V (suc n) rs

module _ (V : ℕ → Typ) where
  plus_suc : (n k : ℕ) → V (suc n + k) ≡ V (n + suc k)
  plus_suc n k = ap V (let h : suc n + k ≡ n + suc k = omega arith in h)

  plus_zero : (n : ℕ) → V n ≡ V (n + zero)
  plus_zero n = ap V (let h : n ≡ n + zero = omega arith in h)

  raws_are : (vs : List (Option Ty)) (n : ℕ) → ((k : ℕ) → erased (raw_type (joined (slice_get vs k))) ≡ V (n + k)) → RawAre V n vs
  raws_are [] n h = λ k. sym (h k)
  raws_are (v ∷ vs) n h = (h zero ∙ sym (plus_zero n), raws_are vs (suc n) (λ k. h (suc k) ∙ sym (plus_suc n k)))

  trimmed_one : (o : Option Ty) (vs : List (Option Ty)) (n : ℕ) → erased (raw_type o) ≡ V n → RawAre V (suc n) vs → RawAre V n (trimmed_and o vs)
  trimmed_one None [] n h g = by
    where
      by : (k : ℕ) → V (n + k) ≡ unit_shape
      by zero = sym (plus_zero n) ∙ sym h
      by (suc k) = sym (plus_suc n k) ∙ g k
  trimmed_one None (v ∷ vs) n h g = (h, g)
  trimmed_one (Some t) vs n h g = (h, g)

  trimmed_are : (vs : List (Option Ty)) (n : ℕ) → RawAre V n vs → RawAre V n (trimmed vs)
  trimmed_are [] n h = h
  trimmed_are (v ∷ vs) n h = trimmed_one v (trimmed vs) n h.0 (trimmed_are vs (suc n) h.1)

  variables_are : (own : ℕ) (ps : List tree.Parameter) (ts : List Ty) (ws : List Written) → ((x : ℕ) (t : Ty) → parameter_type ps ts x ≡ Some t → plain-Ty t ≡ V x) → ((x : ℕ) (t : RegionTyp) → written_type ws x ≡ Some t → erased t ≡ V x)
      → (n : ℕ) (rs : List (Option Ty)) → RawAre V n rs → (x : ℕ) → erased (get_or (open_types own ps ts ws n rs) x open_unit).typ ≡ V (n + x)
  variables_are own ps ts ws p l n [] h x = sym (h x)
  variables_are own ps ts ws p l n (r ∷ rs) h zero = one_is own (parameter_type ps ts n) (written_type ws n) r (V n) (p n) (l n) h.0 ∙ plus_zero n
  variables_are own ps ts ws p l n (r ∷ rs) h (suc x) = variables_are own ps ts ws p l (suc n) rs h.1 x ∙ plus_suc n x

  written_is : (free : ℕ) (D : List Decl) (xs : List AnnotatedVariable) → Every (Told D V free) (map plain-Variable xs) → (x : ℕ) (t : RegionTyp) → written_type (map written xs) x ≡ Some t → erased t ≡ V x
  written_is free D [] h x t e = absurd (cc)
  written_is free D (a ∷ xs) h x t e = by (a.variable == x) refl e (written_is free D xs h.1 x t)
    where
      some_same : (r s : RegionTyp) → ◌≡◌ {A = Option RegionTyp} (Some r) (Some s) → r ≡ s
      some_same r s q = cc

      by : (b : Bool) → (a.variable == x) ≡ b → (if b then Some (region-Ty a.ty) else written_type (map written xs) x) ≡ Some t → (written_type (map written xs) x ≡ Some t → erased t ≡ V x) → erased t ≡ V x
      by true q s k = ap erased (sym (some_same (region-Ty a.ty) t s)) ∙ (h.0 ∙ ap V (eqb-true a.variable x q))
      by false q s k = k s

param_is : (K : facts.KnownItems) (A : Assignment) (xs : List Parameter) (ts : List Ty) → AgreeAs xs (map plain-Ty ts) → Every (Taken K A) xs → (x : ℕ) (t : Ty) → parameter_type (elaborated.parameters xs) ts x ≡ Some t → plain-Ty t ≡ A (subject.Variable x)
param_is K A [] ts h g x t e = absurd (no_param ts e)
  where
    no_param : (ts : List Ty) → parameter_type [] ts x ≡ Some t → ⊥
    no_param [] e = cc
    no_param (u ∷ ts) e = cc
param_is K A (y ∷ xs) [] h g x t e = absurd h
param_is K A (y ∷ xs) (u ∷ ts) h g x t e = by (y.variable == x) refl e (param_is K A xs ts h.1 g.1 x t)
  where
    some_same : (r s : Ty) → ◌≡◌ {A = Option Ty} (Some r) (Some s) → r ≡ s
    some_same r s q = cc

    by : (b : Bool) → (y.variable == x) ≡ b → (if b then Some u else parameter_type (elaborated.parameters xs) ts x) ≡ Some t → (parameter_type (elaborated.parameters xs) ts x ≡ Some t → plain-Ty t ≡ A (subject.Variable x)) → plain-Ty t ≡ A (subject.Variable x)
    by true q s k = ap plain-Ty (sym (some_same u t s)) ∙ (h.0 ∙ (sym g.0 ∙ ap (λ (z : ℕ). A (subject.Variable z)) (eqb-true y.variable x q)))
    by false q s k = k s

plain_parameters : (o : Option Decl) → parameters_declared (plain_option o) ≡ map plain-Ty (parameters o)
plain_parameters None = refl
plain_parameters (Some decl.Rt) = refl
plain_parameters (Some (decl.Struct c l vs fs)) = refl
plain_parameters (Some (decl.Enum c l vs ds)) = refl
plain_parameters (Some (decl.Func l ps t bs)) = refl

-- ---- a function where it stands, with what is declared of it

pub read_ok : {A B : Type 0} (m : steps.Outcome A) (f : A → steps.Outcome B) (b : B) → steps.on_ok m f ≡ Ok b → (a : A) × (m ≡ Ok a) × (f a ≡ Ok b)
read_ok (Ok a) f b e = (a, refl, e)
read_ok (Err x) f b e = absurd (cc)

pub read_same : {A : Type 0} (a b : A) → ◌≡◌ {A = steps.Outcome A} (Ok a) (Ok b) → a ≡ b
read_same a b e = cc

pub entries_same : (o : Option ItemNames) → entries_of o ≡ entries o
entries_same None = refl
entries_same (Some n) = refl

pub function_agrees : (p : ProgramTree) (es : List NodeNames) (i : ℕ) (s : Span) (f : plain.Function) (d : Decl) → declared_item p es (plain.function_item s f) ≡ Ok d → AgreeAs (function_named i s f es).params (parameters_declared (Some (plain-Decl d)))
function_agrees p es i s f d e =
    let B = bounded 0 f.lifetimes in
    let x = read_ok (entry_of B f.params (begins es (number (length f.lifetimes)))) (λ e. steps.on_ok (parameters_of p f.params e.1) (λ ps. steps.on_ok (answer_of p f.result ps.1) (λ a. Ok (decl.Func ps.1.next ps.0 a.0 (bounds_of B e.0))))) d e in
    let y = read_ok (parameters_of p f.params x.0.1) (λ ps. steps.on_ok (answer_of p f.result ps.1) (λ a. Ok (decl.Func ps.1.next ps.0 a.0 (bounds_of B x.0.0)))) d x.2 in
    let z = read_ok (answer_of p f.result y.0.1) (λ a. Ok (decl.Func y.0.1.next y.0.0 a.0 (bounds_of B x.0.0))) d y.2 in
    let c1 = (naming.a_node s Site.Value (naming.begins es)).1 in
    let c2 = (naming.entry_if (naming.has_entry f) c1).1 in
    let at = well_is (λ (q : List ℕ × steps.Reading). q.1.names ≡ c2.names) (entry_of B f.params (begins es (number (length f.lifetimes)))) x.0 (entry_read f (begins es (number (length f.lifetimes))) c1 refl) x.1 in
    let a = well_is (λ (q : List Ty × steps.Reading). Agree (naming.of_parameters f.params c2).0 q.0) (parameters_of p f.params x.0.1) y.0 (parameters_read p f.params x.0.1 c2 at) y.1 in
    subst (λ (k : Decl). AgreeAs (function_named i s f es).params (parameters_declared (Some (plain-Decl k)))) (read_same (decl.Func y.0.1.next y.0.0 z.0.0 (bounds_of B x.0.0)) d z.2) (agree_plain (function_named i s f es).params y.0.0 a)

record StandsAt (G : Given) (ns : List ItemNames) (n : ℕ) (ds : List Decl) (h : TypedFn) : Type 0 where
  place : ℕ
  span : Span
  text : plain.Function
  typed : FunctionTyped G (n + place) span text (entries (slice_get ns (n + place))) (variables_at (slice_get ns (n + place))) h
  agrees : AgreeAs (function_named (n + place) span text (entries (slice_get ns (n + place)))).params (parameters_declared (slice_get (declarations ds) place))

later : (G : Given) (ns : List ItemNames) (n : ℕ) (d : Decl) (ds : List Decl) (h : TypedFn) → StandsAt G ns (suc n) ds h → StandsAt G ns n (d ∷ ds) h
later G ns n d ds h x =
    let same : suc n + x.place ≡ n + suc x.place = omega arith in record {
      place = suc x.place;
      span = x.span;
      text = x.text;
      typed = subst (λ (k : ℕ). FunctionTyped G k x.span x.text (entries (slice_get ns k)) (variables_at (slice_get ns k)) h) same x.typed;
      agrees = subst (λ (k : ℕ). AgreeAs (function_named k x.span x.text (entries (slice_get ns k))).params (parameters_declared (slice_get (declarations ds) x.place))) same x.agrees;
    }

stands_at : (G : Given) (p : ProgramTree) (ns : List ItemNames) (n : ℕ) (is : ProgramTree) (ds : List Decl) (ts : List TypedFn) → declared_items p ns n is ≡ Ok ds → FunctionsTyped G ns n is ts → (h : TypedFn) → Among h ts → StandsAt G ns n ds h
stands_at G p ns n [] ds ts e k h a = absurd (elim (subst (λ (l : List TypedFn). Among h l) k a) [ ])
stands_at G p ns n (x ∷ is) ds ts e k h a =
    let y = read_ok (declared_item p (entries_of (slice_get ns n)) x) (λ d. steps.on_ok (declared_items p ns (suc n) is) (λ ds. Ok (d ∷ ds))) ds e in
    let z = read_ok (declared_items p ns (suc n) is) (λ ds. Ok (y.0 ∷ ds)) ds y.2 in
    subst (λ (l : List Decl). StandsAt G ns n l h) (read_same (y.0 ∷ z.0) ds z.2) (by x ts y.0 z.0 y.1 k a (λ ts k a. stands_at G p ns (suc n) is z.0 ts z.1 k h a))
  where
    first : (s : Span) (f : plain.Function) (d : Decl) (ds : List Decl) → declared_item p (entries_of (slice_get ns n)) (plain.function_item s f) ≡ Ok d → FunctionTyped G n s f (entries (slice_get ns n)) (variables_at (slice_get ns n)) h → StandsAt G ns n (d ∷ ds) h
    first s f d ds q t =
        let same : n ≡ n + zero = omega arith in record {
          place = zero;
          span = s;
          text = f;
          typed = subst (λ (k : ℕ). FunctionTyped G k s f (entries (slice_get ns k)) (variables_at (slice_get ns k)) h) same t;
          agrees = subst (λ (k : ℕ). AgreeAs (function_named k s f (entries (slice_get ns k))).params (parameters_declared (Some (plain-Decl d)))) same
              (subst (λ (es : List NodeNames). AgreeAs (function_named n s f es).params (parameters_declared (Some (plain-Decl d)))) (entries_same (slice_get ns n)) (function_agrees p (entries_of (slice_get ns n)) n s f d q));
        }

    by : (x : ItemTree) (ts : List TypedFn) (d : Decl) (es : List Decl) → declared_item p (entries_of (slice_get ns n)) x ≡ Ok d → FunctionsTyped G ns n (x ∷ is) ts → Among h ts
        → ((ts : List TypedFn) → FunctionsTyped G ns (suc n) is ts → Among h ts → StandsAt G ns (suc n) es h) → StandsAt G ns n (d ∷ es) h
    by (plain.rt_item s r) ts d es q k a f = later G ns n d es h (f ts k a)
    by (plain.struct_item s r) ts d es q k a f = later G ns n d es h (f ts k a)
    by (plain.enum_item s r) ts d es q k a f = later G ns n d es h (f ts k a)
    by (plain.function_item s r) [] d es q k a f = absurd k
    by (plain.function_item s r) (_ ∷ ts) d es q k here f = first s r d es q k.0
    by (plain.function_item s r) (_ ∷ ts) d es q k (there a) f = later G ns n d es h (f ts k.1 a)

-- ---- numbers of lifetimes say nothing of what a type is without them

mutual
  erased_same : (from next : ℕ) (t : RegionTyp) → erased (numbered from next t) ≡ erased t
  erased_same from next (region_integer k) = refl
  erased_same from next region_boolean = refl
  erased_same from next (region_tuple ts) = ap types.tuple_of (all_erased_same from next ts)
  erased_same from next (region_reference m l t) = ap (types.reference m) (erased_same from (next + open_one from l) t)
  erased_same from next (region_named i ls) = refl

  all_erased_same : (from next : ℕ) (ts : RegionTyps) → all_erased (numbers_of.all_numbered from next ts) ≡ all_erased ts
  all_erased_same from next no_region = refl
  all_erased_same from next (region_and t ts) = λ j. types.shape_and (erased_same from next t j) (all_erased_same from (next + open_in from t) ts j)

many : (n : ℕ) (V : List Open) (H : List Held) → length (all_numbered n (V ++ opened H)) ≡ length V + length H
many n [] [] = omega arith
many n [] (h ∷ H) = let more = many (n + open_in 0 h.typ) [] H in omega (arith, more)
many n (o ∷ V) H = let more = many (n + open_in o.from o.typ) V H in omega (arith, more)

temporaries_behind : (n : ℕ) (V : List Open) (H : List Held) → (m : ℕ) × (drop (length V) (all_numbered n (V ++ opened H)) ≡ all_numbered m (opened H))
temporaries_behind n [] H = (n, refl)
temporaries_behind n (o ∷ V) H = temporaries_behind (n + open_in o.from o.typ) V H

held_erased : (m : ℕ) (H : List Held) (d : Temporary) → erased (temporary_type (map (λ h. h.temporary) H) (all_numbered m (opened H)) d) ≡ erased (held_type H d)
held_erased m [] d = refl
held_erased m (h ∷ H) d = by (same h.temporary d) (held_erased (m + open_in 0 h.typ) H d)
  where
    by : (b : Bool) → erased (temporary_type (map (λ h. h.temporary) H) (all_numbered (m + open_in 0 h.typ) (opened H)) d) ≡ erased (held_type H d)
        → erased (if b then numbered 0 m h.typ else temporary_type (map (λ h. h.temporary) H) (all_numbered (m + open_in 0 h.typ) (opened H)) d) ≡ erased (if b then h.typ else held_type H d)
    by true e = erased_same 0 m h.typ
    by false e = e

held_is : (n : ℕ) (V : List Open) (H : List Held) (d : Temporary)
    → erased (temporary_type (map (λ h. h.temporary) H) (drop (length (all_numbered n (V ++ opened H)) - length (map (λ h. h.temporary) H)) (all_numbered n (V ++ opened H))) d) ≡ erased (held_type H d)
held_is n V H d =
    let all = many n V H in
    let some_held = length-map H (λ (h : Held). h.temporary) in
    let front : length (all_numbered n (V ++ opened H)) - length (map (λ (h : Held). h.temporary) H) ≡ length V = omega (arith, all, some_held) in
    let rest = temporaries_behind n V H in
    ap (λ (k : ℕ). erased (temporary_type (map (λ h. h.temporary) H) (drop k (all_numbered n (V ++ opened H))) d)) front
    ∙ (ap (λ (ts : List RegionTyp). erased (temporary_type (map (λ h. h.temporary) H) ts d)) rest.1 ∙ held_erased rest.0 H d)

-- ---- a function of a typed program

module _ (p : ProgramTree) (ns : List ItemNames) (t : Typed) (typed : IsTyped p ns t) (f : TypedFn) (among : Among f t.functions)
    (numbers_stand : (i : ℕ) (s : Span) (g : plain.Function) (es : List NodeNames) → AreFrom 0 (nodes (function_named i s g es)) (length (function_spans s g es)))
    (sites_stand : (G : tree.Function) → Sublist (actions_of (graph G)) (text G)) where
  abbrev G : Given
  G = record { program = p; declared = typed.declared; sizes = typed.sizes }

  abbrev K : facts.KnownItems
  K = known_in G

  abbrev D : List Decl
  D = t.decls.items

  declared_same : declarations D ≡ K.items
  declared_same = same_declared D typed.declared typed.same

  S : StandsAt G ns 0 typed.declared f
  S = stands_at G p ns 0 p typed.declared t.functions typed.declares.items typed.functions f among

  abbrev Item : ℕ
  Item = 0 + S.place

  abbrev Names : List NodeNames
  Names = entries (slice_get ns Item)

  abbrev F : Function
  F = function_named Item S.span S.text Names

  abbrev A : Assignment
  A = S.typed.types

  abbrev V : ℕ → Typ
  V x = A (subject.Variable x)

  abbrev U : Temporary → Typ
  U = temporary_types (assigned K A) V F

  met : MeetsEach K A (rules.demands F)
  met = S.typed.valid.prefers.typed

  fills : acting.H K A U (order_function (plain-TypedTree f.tree))
  fills = subst (λ (T : tree.Function). acting.H K A U (order_function T)) (sym S.typed.tree)
      (function_holds K A U F (function_sited Item S.span S.text Names) (all_found (assigned K A) V F (length (function_spans S.span S.text Names)) (numbers_stand Item S.span S.text Names)) met)

  sites_fill : Every (λ (a : Action). acting.Fills K A U a.act) (actions_of (sites_of f))
  sites_fill = sites_hold (acting.Fills K A U) (λ x. tt) (plain-TypedTree f.tree) (sites_stand (plain-TypedTree f.tree)) fills

  -- ---- its variables

  raw_is : (x : ℕ) → erased (raw_type (joined (slice_get f.variables x))) ≡ V x
  raw_is x = by (joined (slice_get f.variables x)) (S.typed.found (subject.Variable x))
    where
      by : (o : Option Ty) → TypeIs K F A (subject.Variable x) o → erased (raw_type o) ≡ V x
      by None h = sym (S.typed.untold (subject.Variable x) h)
      by (Some u) h = is_erased u ∙ sym (same_typ K.items u (V x) h.1)

  item_is : f.item ≡ S.place
  item_is = let e = S.typed.item in omega (arith, e)

  params_are : (x : ℕ) (u : Ty) → parameter_type (plain-TypedTree f.tree).params (parameters (slice_get D f.item)) x ≡ Some u → plain-Ty u ≡ V x
  params_are =
      let a : AgreeAs F.params (parameters_declared (slice_get (declarations D) f.item)) =
      subst (λ (E : Declarations). AgreeAs F.params (parameters_declared (slice_get E f.item))) (sym declared_same) (subst (λ (k : ℕ). AgreeAs F.params (parameters_declared (slice_get K.items k))) (sym item_is) S.agrees) in
      let b : AgreeAs F.params (map plain-Ty (parameters (slice_get D f.item))) =
      subst (λ (us : List Typ). AgreeAs F.params us) (ap parameters_declared (plain_at D f.item) ∙ plain_parameters (slice_get D f.item)) a in
      let g = parameters_given K A F.params in
      let k = g.gives (subst (λ (l : List _). MeetsEach K A l) (g.adds []) (parameters_met K A (lets.LetAs K A) (lets.declared_as K A) (lets.IsWritten K A) (lets.typed_as K A) (lets.let_as K A) F met)) in
      subst (λ (T : tree.Function). (x : ℕ) (u : Ty) → parameter_type T.params (parameters (slice_get D f.item)) x ≡ Some u → plain-Ty u ≡ V x) (sym S.typed.tree) (param_is K A F.params (parameters (slice_get D f.item)) b k)

  abbrev Free : ℕ
  Free = let_lifetimes (slice_get typed.declared Item)

  lets_are : (x : ℕ) (r : RegionTyp) → written_type (map written f.annotations) x ≡ Some r → erased r ≡ V x
  lets_are = written_is V Free typed.declared f.annotations
      (subst (λ (l : List (ℕ × RegionTyp)). Every (Told typed.declared V Free) l) (sym S.typed.annotated)
      (lets_told K A typed.declared refl p Free (function_annotations S.span S.text Names) (notes_are K A Item S.span S.text Names met)))

  variables_have : (x : ℕ) → erased (get_or (known (function D f)).variables x open_unit).typ ≡ V x
  variables_have x =
      variables_are V (lifetimes_of (slice_get D f.item)) (plain-TypedTree f.tree).params (parameters (slice_get D f.item)) (map written f.annotations) params_are lets_are 0 (trimmed f.variables)
      (trimmed_are V f.variables 0 (raws_are V f.variables 0 (λ k. raw_is k ∙ ap V (let h : k ≡ 0 + k = omega arith in h)))) x
      ∙ ap V (let h : 0 + x ≡ x = omega arith in h)

  -- ---- what it makes

  all_right : (us : List Action) → Every (λ (a : Action). acting.Fills K A U a.act) us → Every (λ (a : Action). making.Right (known (function D f)) U a.act) us
  all_right [] h = tt
  all_right (a ∷ us) h = (right_if K A U (known (function D f)) declared_same variables_have a.act h.0, all_right us h.1)

  held_of : (filled_held : (a : Action) (d : Temporary) → Among a (actions (function D f)) → filled a.act ≡ Some d → is_held (temporaries (function D f)) d ≡ true)
      → (P : ℕ → List Bound) (a : Action) (d : Temporary) → Among a (actions_of (sites_of f)) → filled a.act ≡ Some d → IsOf (U d) (held (context_of D P f) d)
  held_of filled_held P a d w e i q =
      held_is (lifetimes_of (slice_get D f.item)) (function D f).variables (temporaries (function D f)) d
      ∙ making.all_found (known (function D f)) U (actions_of (sites_of f)) (all_right (actions_of (sites_of f)) sites_fill) d (filled_held a d w e) i q

  pub are_of_items : (filled_held : (a : Action) (d : Temporary) → Among a (actions (function D f)) → filled a.act ≡ Some d → is_held (temporaries (function D f)) d ≡ true)
      → (P : ℕ → List Bound) → AreOfItems (context_of D P f) (actions_of (sites_of f))
  are_of_items filled_held P a w = by a.node a.act w (one_of (λ (b : Action). acting.Fills K A U b.act) (actions_of (sites_of f)) sites_fill a w)
    where
      of_making : (m : Making) (d : Temporary) → IsOf (U d) (held (context_of D P f) d) → acting.Gets K A U m (U d) → IsOfItem m (held (context_of D P f) d)
      of_making (struct i) d h g = h i g
      of_making (variant_of i v) d h g = h i g
      of_making _ d h g = tt

      by : (n : ℕ) (b : Act) → Among (does n b) (actions_of (sites_of f)) → acting.Fills K A U b → ActIsOfItem (context_of D P f) b
      by n (Build m js ts d) k g = of_making m d (held_of filled_held P (does n (Build m js ts d)) d k refl) g
      by n _ k g = tt
