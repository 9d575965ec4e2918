-- Each function of a typed program is like itself: it stays where nothing new stands behind it.
use Rattle.std.proofs.Common.{◌≡◌, ℕ, zero, suc, ◌+◌, Bool, true, false, if◌then◌else◌, List, [], ◌∷◌, ◌++◌, length, map, Option, Some, None, slice_get, Ok, refl, sym, ap, ◌∙◌, subst, arith}
use Rattle.std.specs.Prelude.{take, drop, nat_le, option_map}
use Rattle.rx_core.specs.declared.types.Span.{Span}
use Rattle.rx_tree.specs.Plain as plain
use Rattle.rx_tree.specs.Plain.{ProgramTree}
use Rattle.rx_tree.specs.Size.{IsNumbered}
use Rattle.rx_resolve_names.specs.declared.resolved.ItemNames.{ItemNames}
use Rattle.rx_resolve_names.specs.declared.resolved.NodeNames.{NodeNames}
use Rattle.rx_resolve_names.specs.Causes.{Meant}
use Rattle.rx_resolve_names.specs.Items.{in_item, in_items, apart}
use Rattle.rx_typed.specs.Types.{Shape, Shapes, integer, boolean, tuple_of, reference, named, no_shape, shape_and, Typ, FieldDeclared, VariantDeclared, Declared, rt_declared, struct_declared, enum_declared, function_declared, Declarations}
use Rattle.rx_typed.specs.Naming.{function_named}
use Rattle.rx_typed.specs.PlainTypes.{declarations}
use Rattle.rx_typed.specs.PlainTree.{plain-TypedTree}
use Rattle.rx_typed.specs.Tree.{Function}
use Rattle.rx_typed_declarations.proofs.Polarities.{same_declared}
use Rattle.rx_typeck_solver.specs.Facts.{KnownItems}
use Rattle.rx_typeck_solver.specs.Ordered.{Orderly}
use Rattle.rx_typeck_typed.specs.Demands.{task}
use Rattle.rx_typeck_typed.specs.declared.typed.Typed.{Typed}
use Rattle.rx_typeck_typed.specs.declared.typed.TypedFn.{TypedFn}
use Rattle.rx_typeck_typed.specs.Typing.{entries, variables_at, known_in, Given, FunctionTyped, IsTyped}
use Rattle.rx_machine.specs.Functions.{typed_functions, program_of}
use Rattle.rx_meaning.specs.Values.{element}
use Rattle.rx_hoist_naming.proofs.Programs.{table_at}
use Rattle.rx_meaning_accepted.proofs.Fields.{fields_apart}
use Rattle.rx_engine_names.specs.Insertion.{past, number_there, Inserted}
use Rattle.rx_engine_blocks.specs.Renumbering.{shape_at, shapes_at, field_at, variant_at, declared_at}
use Rattle.rx_engine_blocks.specs.Knows.{Knows}
use Rattle.rx_engine_simulation.specs.Openings.{no_openings}
use Rattle.rx_engine_simulation.specs.Programs.{LikeFunction, LikeEntry, functions, neither}
use Rattle.rx_engine_simulation.specs.Marking.{without_turns}
use Rattle.rx_engine_typing.proofs.Steps.{named_ok}
use Rattle.rx_engine_typing.proofs.Counting.{few_names}
use Rattle.rx_engine_validated.specs.Kept.{kept}
use Rattle.rx_engine_validated.specs.Typed.{given_by}
use Rattle.rx_engine_validated.proofs.Programs.{function_stays}
use Rattle.rx_engine_validated.proofs.Entries.{FunctionAt, EntryAt, function_there, nothing_there, entry_at}

abbrev unchanged : ℕ → ℕ
unchanged f = f

-- ---- by the same numbers of items what is declared is the same

mutual
  shape_same : {K : Type 0} (t : Shape K) → shape_at (kept unchanged) t ≡ t
  shape_same (integer k) = refl
  shape_same boolean = refl
  shape_same {K} (tuple_of ts) = ap (λ (us : Shapes K). tuple_of us) (shapes_same ts)
  shape_same {K} (reference m t) = ap (λ (u : Shape K). reference m u) (shape_same t)
  shape_same (named i) = refl

  shapes_same : {K : Type 0} (ts : Shapes K) → shapes_at (kept unchanged) ts ≡ ts
  shapes_same no_shape = refl
  shapes_same {K} (shape_and t ts) = ap (λ (u : Shape K). shape_and u (shapes_at (kept unchanged) ts)) (shape_same t) ∙ ap (λ (us : Shapes K). shape_and t us) (shapes_same ts)

each_same : {A : Type 0} (f : A → A) → ((x : A) → f x ≡ x) → (l : List A) → map f l ≡ l
each_same f h [] = refl
each_same {A} f h (x ∷ l) = ap (λ (y : A). y ∷ map f l) (h x) ∙ ap (λ (m : List A). x ∷ m) (each_same f h l)

field_same : (f : FieldDeclared) → field_at (kept unchanged) f ≡ f
field_same f = ap (λ (t : Typ). record { name = f.name; typ = t }) (shape_same f.typ)

variant_same : (v : VariantDeclared) → variant_at (kept unchanged) v ≡ v
variant_same v = ap (λ (ts : List Typ). record { name = v.name; parts = ts }) (each_same (shape_at (kept unchanged)) shape_same v.parts)

declared_same : (d : Declared) → declared_at (kept unchanged) d ≡ d
declared_same rt_declared = refl
declared_same (struct_declared c l fs) = ap (λ (gs : List FieldDeclared). struct_declared c l gs) (each_same (field_at (kept unchanged)) field_same fs)
declared_same (enum_declared c l vs) = ap (λ (ws : List VariantDeclared). enum_declared c l ws) (each_same (variant_at (kept unchanged)) variant_same vs)
declared_same (function_declared ps t) =
    ap (λ (qs : List Typ). function_declared qs (shape_at (kept unchanged) t)) (each_same (shape_at (kept unchanged)) shape_same ps) ∙ ap (λ (u : Typ). function_declared ps u) (shape_same t)

entry_same : (o : Option Declared) → o ≡ option_map (declared_at (kept unchanged)) o
entry_same None = refl
entry_same (Some d) = ap (λ (e : Declared). Some e) (sym (declared_same d))

knows_itself : (D : KnownItems) → Knows (kept unchanged) D D
knows_itself D = record { items = λ i. entry_same (slice_get D.items i); sizes = λ i. refl; unitem = λ i. i; unnamed = λ i. refl }

-- ---- a program with nothing new behind one of its functions

parted : {A : Type 0} (l : List A) (n : ℕ) (x : A) → slice_get l n ≡ Some x → l ≡ take n l ++ (x ∷ drop (suc n) l)
parted [] zero x e = absurd (cc)
parted [] (suc n) x e = absurd (cc)
parted {A} (y ∷ l) zero x e = let same : y ≡ x = cc in ap (λ (z : A). z ∷ l) same
parted {A} (y ∷ l) (suc n) x e = ap (λ (m : List A). y ∷ m) (parted l n x e)

abbrev nothing_new : (p : ProgramTree) (n : ℕ) (s : Span) (f : plain.Function) → slice_get p n ≡ Some (plain.function_item s f) → Inserted p p
nothing_new p n s f at = record {
  before = take n p;
  place = s;
  old = f;
  changed = f;
  new = [];
  behind = drop (suc n) p;
  first = parted p n (plain.function_item s f) at;
  second = parted p n (plain.function_item s f) at;
  name = refl;
  fresh_types = λ x k i e. tt;
  fresh_functions = λ x k i e. tt;
}

stays_there : (k n : ℕ) → past k 0 n ≡ n
stays_there k n = by (nat_le n k)
  where
    by : (b : Bool) → (if b then n else n + 0) ≡ n
    by true = refl
    by false = omega arith

-- ---- so each function is like itself

module _ (orderly : (i : ℕ) (s : Span) (f : plain.Function) (ns : List NodeNames) → Orderly (task (function_named i s f ns))) (p : ProgramTree) (ns : List ItemNames) (t : Typed) (few : IsNumbered p) (meant : Meant p ns) (typed : IsTyped p ns t) where
  abbrev G : Given
  G = given_by p ns t typed

  abbrev K : KnownItems
  K = known_in G

  function_itself : (n : ℕ) (s : Span) (f : plain.Function) (x : ItemNames) (g : TypedFn) → slice_get p n ≡ Some (plain.function_item s f) → in_item p n (plain.function_item s f) ≡ Ok x → FunctionTyped G n s f x.names x.vars g
      → LikeFunction unchanged no_openings without_turns (plain-TypedTree g.tree) (plain-TypedTree g.tree)
  function_itself n s f x g at e h =
      let c = nothing_new p n s f at in
      let same : number_there c ≡ unchanged = λ i m. stays_there (length c.before) m i in
      let there : number_there c n ≡ n = stays_there (length c.before) n in
      subst (λ (items : ℕ → ℕ). LikeFunction items no_openings without_turns (plain-TypedTree g.tree) (plain-TypedTree g.tree)) same
      (function_stays orderly p p c n s f x x e (subst (λ (m : ℕ). in_item p m (plain.function_item s f) ≡ Ok x) (sym there) e) (few_names p few n n s f x at e) G G
      (subst (λ (items : ℕ → ℕ). Knows (kept items) K K) (sym same) (knows_itself K)) (λ i. fields_apart p ns typed.declared meant typed.declares.items i) x.vars x.vars g g h
      (subst (λ (m : ℕ). FunctionTyped G m s f x.names x.vars g) (sym there) h) no_openings without_turns)

  typed_itself : (j : ℕ) → FunctionAt G ns 0 j p (typed_functions (declarations typed.declared) t.functions)
      → LikeEntry unchanged no_openings without_turns (element (typed_functions (declarations typed.declared) t.functions) j) (element (typed_functions (declarations typed.declared) t.functions) j)
  typed_itself j h =
      let item = plain.function_item h.span h.function in
      let T = table_at p 0 p ns j item (named_ok {A = Unit {0}} (apart (record { types = []; functions = [] }) 0 p) (λ _. in_items p 0 p) ns meant.names_are).2 h.at in
      let zero : 0 + j ≡ j = omega arith in
      let l = function_itself j h.span h.function T.table h.typed h.at (subst (λ (n : ℕ). in_item p n item ≡ Ok T.table) zero T.named)
      (subst (λ (o : Option ItemNames). FunctionTyped G j h.span h.function (entries o) (variables_at o) h.typed) T.stands
      (subst (λ (n : ℕ). FunctionTyped G n h.span h.function (entries (slice_get ns n)) (variables_at (slice_get ns n)) h.typed) zero h.checked)) in
      subst (λ (o : Option (Option Function)). LikeEntry unchanged no_openings without_turns o o) (sym h.stands) (functions l)

  entry_itself : (j : ℕ) → EntryAt G ns 0 j p (typed_functions (declarations typed.declared) t.functions)
      → LikeEntry unchanged no_openings without_turns (element (typed_functions (declarations typed.declared) t.functions) j) (element (typed_functions (declarations typed.declared) t.functions) j)
  entry_itself j (function_there h) = typed_itself j h
  entry_itself j (nothing_there h) = neither h.stands h.stands

  pub items_are_like_themselves : (m j : ℕ) → LikeEntry unchanged no_openings without_turns (element (program_of t m).functions j) (element (program_of t m).functions j)
  items_are_like_themselves m j =
      subst (λ (D : Declarations). LikeEntry unchanged no_openings without_turns (element (typed_functions D t.functions) j) (element (typed_functions D t.functions) j)) (sym (same_declared t.decls.items typed.declared typed.same))
      (entry_itself j (entry_at G p ns 0 p typed.declared t.functions typed.declares.items typed.functions j))
