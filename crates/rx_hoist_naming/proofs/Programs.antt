-- Of a typed program whose names have a meaning: its types name structs and enums alone, and each variable has a name.
use Rattle.std.proofs.Common.{◌≡◌, ℕ, zero, suc, ◌+◌, ◌<◌, true, List, [], ◌∷◌, length, map, Option, Some, None, slice_get, Ok, refl, sym, ap, ◌∙◌, subst, arith}
use Rattle.rx_core.specs.declared.types.Kind.{Kind}
use Rattle.rx_core.specs.declared.types.Span.{Span}
use Rattle.rx_core.specs.declared.types.Ty.{Ty}
use Rattle.rx_tree.specs.declared.tree.Ident.{Ident}
use Rattle.rx_tree.specs.Lists.{Every}
use Rattle.rx_tree.specs.Size.{IsNumbered}
use Rattle.rx_tree.specs.Plain as plain
use Rattle.rx_tree.specs.Plain.{Function, ItemTree, ProgramTree}
use Rattle.rx_resolve_names.specs.declared.resolved.ItemNames.{ItemNames}
use Rattle.rx_resolve_names.specs.declared.resolved.NodeNames.{NodeNames}
use Rattle.rx_resolve_names.specs.Meant.{number, firsts, lifetimes_declared}
use Rattle.rx_resolve_names.specs.Steps.{Inside, and_then}
use Rattle.rx_resolve_names.specs.Causes.{Meant}
use Rattle.rx_resolve_names.specs.Items.{in_item, in_items, apart}
use Rattle.rx_typed.specs.Types.{Shapes, Typ, integer, boolean, tuple_of, reference, named, no_shape, shape_and, Declarations, result_declared}
use Rattle.rx_typed.specs.PlainTypes.{plain-Ty, declarations}
use Rattle.rx_typed.specs.Regions.{erased, all_erased, region-Ty}
use Rattle.rx_typed.specs.Naming.{function_named}
use Rattle.rx_typed.specs.Tree as tree
use Rattle.rx_typed.specs.PlainTree.{plain-TypedTree}
use Rattle.rx_typed_declarations.specs.WellFormed.{is_adt, WellSigned}
use Rattle.rx_typed_declarations.specs.Sizes.{Sized, told}
use Rattle.rx_typed_declarations.proofs.RegionLemmas.{is_erased}
use Rattle.rx_typed_declarations.proofs.Polarities.{same_declared}
use Rattle.rx_typeck_elaborate_parts.specs.Assigning.{shape_of}
use Rattle.rx_typeck_solver.specs.declared.facts.Subject.{Subject}
use Rattle.rx_typeck_solver.specs.Facts.{KnownItems}
use Rattle.rx_typeck_solver.specs.Views.{unnumbered, all_unnumbered}
use Rattle.rx_typeck_typed.specs.Demands.{task}
use Rattle.rx_typeck_typed.specs.declared.typed.Typed.{Typed}
use Rattle.rx_typeck_typed.specs.declared.typed.TypedFn.{TypedFn}
use Rattle.rx_typeck_typed.specs.Typing.{Given, known_in, entries, variables_at, type_at, TypeIs, FunctionTyped, FunctionsTyped, IsTyped}
use Rattle.rx_lower_walks.specs.Walks.{Among, here, there}
use Rattle.rx_exits_plan.specs.Occurrences.{Occurrence, the_variable, occurrences}
use Rattle.rx_hoist_naming.specs.DeclaredNames.{declared_names}
use Rattle.rx_hoist_naming.specs.Words.{is_type_item, NamesTypes, NameTypes, HasNames}
use Rattle.rx_hoist_naming.proofs.Claims.{OfFunction}
use Rattle.rx_hoist_naming.proofs.Steps.{named_ok, the_same}
use Rattle.rx_hoist_naming.proofs.Renamed.{Names, AllNames, names_more, DeclaredWell, told_named}
use Rattle.rx_hoist_naming.proofs.Declaring.{declared_well, others, renames, kinds, of_program, sees}
use Rattle.rx_hoist_naming.proofs.Functions.{FunctionTaken, function_taken}
use Rattle.rx_hoist_naming.proofs.Asked.{function_good, function_occurs}

-- ---- the functions of a program

record At (G : Given) (ns : List ItemNames) (i : ℕ) (is : ProgramTree) (t : TypedFn) : Type 0 where
  number : ℕ
  span : Span
  function : Function
  at : slice_get is number ≡ Some (plain.function_item span function)
  typed : FunctionTyped G (i + number) span function (entries (slice_get ns (i + number))) (variables_at (slice_get ns (i + number))) t

later : (G : Given) (ns : List ItemNames) (i : ℕ) (x : ItemTree) (is : ProgramTree) (t : TypedFn) → At G ns (suc i) is t → At G ns i (x ∷ is) t
later G ns i x is t a = record {
  number = suc a.number;
  span = a.span;
  function = a.function;
  at = a.at;
  typed = let same : suc i + a.number ≡ i + suc a.number = omega arith in
      subst (λ (n : ℕ). FunctionTyped G n a.span a.function (entries (slice_get ns n)) (variables_at (slice_get ns n)) t) same a.typed;
}

each_at : (G : Given) (ns : List ItemNames) (i : ℕ) (is : ProgramTree) (ts : List TypedFn) → FunctionsTyped G ns i is ts → (t : TypedFn) → Among t ts → At G ns i is t
each_at G ns i [] ts h t a = absurd (elim (subst (λ (l : List TypedFn). Among t l) h a) [ ])
each_at G ns i (plain.rt_item a b ∷ is) ts h t x = later G ns i _ is t (each_at G ns (suc i) is ts h t x)
each_at G ns i (plain.struct_item a b ∷ is) ts h t x = later G ns i _ is t (each_at G ns (suc i) is ts h t x)
each_at G ns i (plain.enum_item a b ∷ is) ts h t x = later G ns i _ is t (each_at G ns (suc i) is ts h t x)
each_at G ns i (plain.function_item s f ∷ is) [] h t x = absurd h
each_at G ns i (plain.function_item s f ∷ is) (_ ∷ ts) h t here = record {
  number = 0;
  span = s;
  function = f;
  at = refl;
  typed = let same : i ≡ i + 0 = omega arith in
      subst (λ (n : ℕ). FunctionTyped G n s f (entries (slice_get ns n)) (variables_at (slice_get ns n)) t) same h.0;
}
each_at G ns i (plain.function_item s f ∷ is) (_ ∷ ts) h t (there x) = later G ns i _ is t (each_at G ns (suc i) is ts h.1 t x)

-- the names of an item
pub record TableAt (p : ProgramTree) (ns : List ItemNames) (n j : ℕ) (i : ItemTree) : Type 0 where
  pub table : ItemNames
  pub stands : slice_get ns j ≡ Some table
  pub named : in_item p (n + j) i ≡ Ok table

pub table_at : (p : ProgramTree) (n : ℕ) (is : ProgramTree) (ns : List ItemNames) (j : ℕ) (i : ItemTree) → in_items p n is ≡ Ok ns → slice_get is j ≡ Some i → TableAt p ns n j i
table_at p n [] ns j i e s = absurd (cc)
table_at p n (x ∷ is) ns zero i e s =
    let a = named_ok (in_item p n x) (λ x. and_then (in_items p (suc n) is) (λ xs. Ok (x ∷ xs))) ns e in
    let b = named_ok (in_items p (suc n) is) (λ xs. Ok (a.0 ∷ xs)) ns a.2 in
    let c : a.0 ∷ b.0 ≡ ns = the_same (a.0 ∷ b.0) ns b.2 in
    let same : x ≡ i = cc in
    let at : n ≡ n + 0 = omega arith in
    record {
      table = a.0;
      stands = ap (λ (l : List ItemNames). slice_get l 0) (sym c);
      named = subst (λ k. in_item p k i ≡ Ok a.0) at (subst (λ x. in_item p n x ≡ Ok a.0) same a.1);
    }
table_at p n (x ∷ is) ns (suc j) i e s =
    let a = named_ok (in_item p n x) (λ x. and_then (in_items p (suc n) is) (λ xs. Ok (x ∷ xs))) ns e in
    let b = named_ok (in_items p (suc n) is) (λ xs. Ok (a.0 ∷ xs)) ns a.2 in
    let c : a.0 ∷ b.0 ≡ ns = the_same (a.0 ∷ b.0) ns b.2 in
    let more = table_at p (suc n) is b.0 j i b.1 s in
    let at : suc n + j ≡ n + suc j = omega arith in
    record { table = more.table; stands = ap (λ (l : List ItemNames). slice_get l (suc j)) (sym c) ∙ more.stands; named = subst (λ k. in_item p k i ≡ Ok more.table) at more.named }

-- ---- a type of the tables and that of the assignment

mutual
  unnumbered_erased : (D : Declarations) (t : Typ) → erased (unnumbered D t) ≡ t
  unnumbered_erased D (integer k) = refl
  unnumbered_erased D boolean = refl
  unnumbered_erased D (tuple_of ts) = ap (λ (x : Shapes Kind). tuple_of x) (all_unnumbered_erased D ts)
  unnumbered_erased D (reference m t) = ap (λ (x : Typ). reference m x) (unnumbered_erased D t)
  unnumbered_erased D (named i) = refl

  all_unnumbered_erased : (D : Declarations) (ts : Shapes Kind) → all_erased (all_unnumbered D ts) ≡ ts
  all_unnumbered_erased D no_shape = refl
  all_unnumbered_erased D (shape_and t ts) = ap (λ (x : Typ). shape_and x (all_erased (all_unnumbered D ts))) (unnumbered_erased D t) ∙ ap (λ (x : Shapes Kind). shape_and t x) (all_unnumbered_erased D ts)

pub same_typ : (D : Declarations) (t : Ty) (a : Typ) → region-Ty t ≡ unnumbered D a → a ≡ plain-Ty t
same_typ D t a e = sym (unnumbered_erased D a) ∙ ap erased (sym e) ∙ is_erased t

mutual
  to_words : (P : ProgramTree) (t : Typ) → Names (λ i. is_type_item (slice_get P i) ≡ true) t → NamesTypes P t
  to_words P (integer k) h = tt
  to_words P boolean h = tt
  to_words P (tuple_of ts) h = all_to_words P ts h
  to_words P (reference m t) h = to_words P t h
  to_words P (named i) h = h

  all_to_words : (P : ProgramTree) (ts : Shapes Kind) → AllNames (λ i. is_type_item (slice_get P i) ≡ true) ts → NameTypes P ts
  all_to_words P no_shape h = tt
  all_to_words P (shape_and t ts) h = (to_words P t h.0, all_to_words P ts h.1)

every_by : {A : Type 0} (P Q : A → Type 0) → ((x : A) → P x → Q x) → (l : List A) → Every P l → Every Q l
every_by P Q f [] h = tt
every_by P Q f (x ∷ l) h = (f x h.0, every_by P Q f l h.1)

-- ---- a program

module _ (p : ProgramTree) (ns : List ItemNames) (t : Typed) (few : IsNumbered p) (meant : Meant p ns) (typed : IsTyped p ns t) (signed : WellSigned t.decls.items)
    (sized : Sized (declarations typed.declared) (told typed.sizes)) where
  abbrev G : Given
  G = record { program = p; declared = typed.declared; sizes = typed.sizes }

  abbrev K : KnownItems
  K = known_in G

  abbrev D : Declarations
  D = declarations typed.declared

  same : declarations t.decls.items ≡ D
  same = same_declared t.decls.items typed.declared typed.same

  well : DeclaredWell D
  well = subst DeclaredWell same (declared_well t.decls.items typed.well_formed signed)

  kind : (j : ℕ) → is_adt (slice_get D j) ≡ is_type_item (slice_get p j)
  kind j = kinds p ns 0 p typed.declared typed.declares.items j

  in_words : (u : Typ) → Names (λ i. is_adt (slice_get D i) ≡ true) u → NamesTypes p u
  in_words u h = to_words p u (names_more (λ i. is_adt (slice_get D i) ≡ true) (λ i. is_type_item (slice_get p i) ≡ true) (λ i e. sym (kind i) ∙ e) u h)

  pub result_names : (n : ℕ) (u : Typ) → result_declared (slice_get (declarations t.decls.items) n) ≡ Some u → NamesTypes p u
  result_names n u e = in_words u (well.results n u (ap (λ (l : Declarations). result_declared (slice_get l n)) (sym same) ∙ e))

  -- one function, with its names
  taken : (j : ℕ) (s : Span) (f : Function) (x : ItemNames) → in_item p j (plain.function_item s f) ≡ Ok x → FunctionTaken (of_program D (length x.vars)) j s f x
  taken j s f x e =
      let I : Inside = record { program = p; item = number j; lifetimes = firsts [] 0 (lifetimes_declared (plain.function_item s f)) } in
      function_taken (of_program D (length x.vars)) I s f j [] [] []
      (record { vars = []; lifetimes = map (λ (l : Ident). l.span) (lifetimes_declared (plain.function_item s f)); loops = []; names = [] }) x refl refl (λ y n q. absurd (cc)) (sees I D (length x.vars) kind) e

  type_names : (i : ℕ) (s : Span) (f : Function) (ms : List NodeNames) (vs : List Span) (g : TypedFn) (N : ℕ) (h : FunctionTyped G i s f ms vs g) → OfFunction (of_program D N) (function_named i s f ms)
      → (x : Subject) (o : Option Ty) → TypeIs K (function_named i s f ms) h.types x o → NamesTypes p (shape_of o)
  type_names i s f ms vs g N h c x None q = tt
  type_names i s f ms vs g N h c x (Some u) q =
      let F = function_named i s f ms in
      let good = function_good (of_program D N) K h.types F c in
      subst (NamesTypes p) (same_typ K.items u (h.types x) q.1) (in_words (h.types x) (told_named K (others D) well (renames K sized) (task F) h.types good h.valid x q.0))

  names_at : (i : ℕ) (s : Span) (f : Function) (ms : List NodeNames) (vs : List Span) (g : TypedFn) (N : ℕ) → FunctionTyped G i s f ms vs g → OfFunction (of_program D N) (function_named i s f ms)
      → Every (λ (o : Occurrence). the_variable o < N) (occurrences (plain-TypedTree g.tree).body)
  names_at i s f ms vs g N h c =
      let F = function_named i s f ms in
      subst (λ (z : tree.Function). Every (λ (o : Occurrence). the_variable o < N) (occurrences z.body)) (sym h.tree) (function_occurs (of_program D N) K h.types F c h.valid.prefers.typed)

  -- the text of a function, and that its tree with numbers names variables that there are
  pub record Text (g : TypedFn) : Type 0 where
    pub number : ℕ
    pub span : Span
    pub function : Function
    pub table : ItemNames
    pub at : slice_get p number ≡ Some (plain.function_item span function)
    pub named : in_item p number (plain.function_item span function) ≡ Ok table
    pub checked : FunctionTyped G number span function table.names table.vars g
    pub taken : FunctionTaken (of_program D (length table.vars)) number span function table

  pub text : (g : TypedFn) → Among g t.functions → Text g
  text g a =
      let x = each_at G ns 0 p t.functions typed.functions g a in
      let T = table_at p 0 p ns x.number (plain.function_item x.span x.function) (named_ok {A = Unit {0}} (apart (record { types = []; functions = [] }) 0 p) (λ _. in_items p 0 p) ns meant.names_are).2 x.at in
      let zero : 0 + x.number ≡ x.number = omega arith in
      let there : slice_get ns (0 + x.number) ≡ Some T.table = ap (λ (n : ℕ). slice_get ns n) zero ∙ T.stands in
      let h : FunctionTyped G (0 + x.number) x.span x.function T.table.names T.table.vars g =
      subst (λ (o : Option ItemNames). FunctionTyped G (0 + x.number) x.span x.function (entries o) (variables_at o) g) there x.typed in
      record {
        number = 0 + x.number;
        span = x.span;
        function = x.function;
        table = T.table;
        at = ap (λ (n : ℕ). slice_get p n) zero ∙ x.at;
        named = T.named;
        checked = h;
        taken = taken (0 + x.number) x.span x.function T.table T.named;
      }

  record Whole (g : TypedFn) : Type 0 where
    types : (x : Subject) → NamesTypes p (shape_of (type_at g x))
    names : HasNames p g

  whole : (g : TypedFn) → Among g t.functions → Whole g
  whole g a =
      let x = text g a in
      let N = length x.table.vars in
      let item : slice_get p g.item ≡ Some (plain.function_item x.span x.function) = ap (λ (n : ℕ). slice_get p n) x.checked.item ∙ x.at in
      record {
        types = λ y. type_names x.number x.span x.function x.table.names x.table.vars g N x.checked x.taken.claims y (type_at g y) (x.checked.found y);
        names = subst (λ (o : Option ItemTree). Every (λ (o' : Occurrence). the_variable o' < length (declared_names o)) (occurrences (plain-TypedTree g.tree).body)) (sym item)
            (subst (λ (n : ℕ). Every (λ (o : Occurrence). the_variable o < n) (occurrences (plain-TypedTree g.tree).body)) x.taken.count (names_at x.number x.span x.function x.table.names x.table.vars g N x.checked x.taken.claims));
      }

  pub types_are_named : (g : TypedFn) → Among g t.functions → (x : Subject) → NamesTypes p (shape_of (type_at g x))
  types_are_named g a x = (whole g a).types x

  pub variables_have_names : (g : TypedFn) → Among g t.functions → HasNames p g
  variables_have_names g a = (whole g a).names
