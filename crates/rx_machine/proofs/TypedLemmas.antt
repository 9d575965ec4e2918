-- The typed trees of a typed program are those of the definition, item by item: what is declared of an item is a function exactly
-- where the item is one.
use Rattle.std.proofs.Common.{◌≡◌, ◌≢◌, ◌⊎◌, inl, inr, ℕ, suc, ◌≤◌, nat_eq, Bool, true, false, List, [], ◌∷◌, map, length, Some, None, Ok, Err, slice_get, if◌then◌else◌, refl, sym, ap, subst, ◌∙◌, arith}
use Rattle.std.proofs.lemmas.Bool.{eq-eqb}
use Rattle.std.proofs.lemmas.Bool.Decides.{eqb_tells}
use Rattle.rx_tree.specs.Plain as plain
use Rattle.rx_tree.specs.Plain.{ItemTree, ProgramTree}
use Rattle.rx_resolve_names.specs.declared.resolved.ItemNames.{ItemNames}
use Rattle.rx_resolve_names.specs.declared.resolved.NodeNames.{NodeNames}
use Rattle.rx_resolve_names.specs.Meant.{number}
use Rattle.rx_core.proofs.Results.{ok_is}
use Rattle.rx_typed.specs.declared.declarations.Decl.{Decl}
use Rattle.rx_typed.specs.declared.declarations.Decl.TheVariants as decl
use Rattle.rx_typed.specs.Types.{unit_shape}
use Rattle.rx_typed.specs.PlainTypes.{plain-Decl, declarations}
use Rattle.rx_typed.specs.Naming.{function_named}
use Rattle.rx_typed.specs.Elaborated.{Assigned, elaborated}
use Rattle.rx_typed_declarations.specs.Variance.{unrecorded}
use Rattle.rx_meaning.specs.Programs.{functions_in, main_in}
use Rattle.rx_typeck_typed.specs.Steps.{Outcome, on_ok}
use Rattle.rx_typeck_typed.specs.Items.{begins, fields_of, variants_of, derives_copy, all_used, bounded, bounds_of, entry_of, parameters_of, answer_of, declared_struct, declared_enum, declared_function, declared_item, entries_of, declared_items}
use Rattle.rx_typeck_typed.specs.declared.typed.TypedFn.{TypedFn}
use Rattle.rx_typeck_typed.specs.declared.typed.Typed.{Typed}
use Rattle.rx_typeck_typed.specs.Typing.{Given, known_in, assigned, FunctionsTyped, IsTyped}
use Rattle.rx_check.specs.Front.{Judged, IsCheckedOf}
use Rattle.rx_machine.specs.Functions.{is_function, first_of, behind, typed_functions, program_of}
use Rattle.rx_machine.specs.TypedRuns.{names_of, TypesAre, RunsAs, RunsText}

not_same : (i j : ℕ) → (i ≡ j → ⊥) → nat_eq i j ≡ false
not_same i j h = by (eqb_tells i j)
  where
    by : ((nat_eq i j ≡ true) × (i ≡ j)) ⊎ ((nat_eq i j ≡ false) × (i ≢ j)) → nat_eq i j ≡ false
    by (inl t) = absurd (h t.1)
    by (inr f) = f.0

-- types of the items behind matter alone
abbrev Agree : ℕ → (ℕ → Assigned) → (ℕ → Assigned) → Type 0
Agree k T U = (j : ℕ) → k ≤ j → T j ≡ U j

later : (k : ℕ) (T U : ℕ → Assigned) → Agree k T U → Agree (suc k) T U
later k T U h = λ j l. h j (omega (arith, l))

functions_agree : (N : ℕ → List NodeNames) (xs : ProgramTree) (k : ℕ) (T U : ℕ → Assigned) → Agree k T U → functions_in xs k N T ≡ functions_in xs k N U
functions_agree N [] k T U h = refl
functions_agree N (plain.function_item s f ∷ xs) k T U h = ap (λ A. Some (elaborated A (function_named k s f (N k))) ∷ functions_in xs (suc k) N T) (h k (omega arith)) ∙ ap (λ l. Some (elaborated (U k) (function_named k s f (N k))) ∷ l) (functions_agree N xs (suc k) T U (later k T U h))
functions_agree N (plain.rt_item s r ∷ xs) k T U h = ap (λ l. None ∷ l) (functions_agree N xs (suc k) T U (later k T U h))
functions_agree N (plain.struct_item s d ∷ xs) k T U h = ap (λ l. None ∷ l) (functions_agree N xs (suc k) T U (later k T U h))
functions_agree N (plain.enum_item s d ∷ xs) k T U h = ap (λ l. None ∷ l) (functions_agree N xs (suc k) T U (later k T U h))

types_agree : (G : Given) (ns : List ItemNames) (xs : ProgramTree) (k : ℕ) (T U : ℕ → Assigned) → Agree k T U → TypesAre G ns k xs T → TypesAre G ns k xs U
types_agree G ns [] k T U h v = tt
types_agree G ns (plain.function_item s f ∷ xs) k T U h v = ((v.0.0, v.0.1, sym (h k (omega arith)) ∙ v.0.2), types_agree G ns xs (suc k) T U (later k T U h) v.1)
types_agree G ns (plain.rt_item s r ∷ xs) k T U h v = types_agree G ns xs (suc k) T U (later k T U h) v
types_agree G ns (plain.struct_item s d ∷ xs) k T U h v = types_agree G ns xs (suc k) T U (later k T U h) v
types_agree G ns (plain.enum_item s d ∷ xs) k T U h v = types_agree G ns xs (suc k) T U (later k T U h) v

-- the types of an item, and of those behind it
abbrev with_types : ℕ → Assigned → (ℕ → Assigned) → ℕ → Assigned
with_types k A T j = if nat_eq j k then A else T j

at_item : (k : ℕ) (A : Assigned) (T : ℕ → Assigned) → with_types k A T k ≡ A
at_item k A T = ap (λ b. if b then A else T k) (eq-eqb k k refl)

behind_item : (k : ℕ) (A : Assigned) (T : ℕ → Assigned) → Agree (suc k) T (with_types k A T)
behind_item k A T = λ j l. ap (λ b. if b then A else T j) (sym (not_same j k (λ e. omega (arith, l, e))))

-- ---- what is declared of an item

ends_so : {A : Type 0} (m : Outcome A) (f : A → Outcome Decl) (b : Bool) → ((a : A) (d : Decl) → f a ≡ Ok d → is_function (plain-Decl d) ≡ b) → (d : Decl) → on_ok m f ≡ Ok d → is_function (plain-Decl d) ≡ b
ends_so (Ok a) f b h d e = h a d e
ends_so (Err x) f b h d e = absurd (cc)

abbrev Gives : Outcome Decl → Decl → Type 0
Gives o d = o ≡ Ok d

said : (c d : Decl) (b : Bool) → is_function (plain-Decl c) ≡ b → Gives (Ok c) d → is_function (plain-Decl d) ≡ b
said c d b k e = subst (λ x. is_function (plain-Decl x) ≡ b) (ok_is c d e) k

a_function : (p : ProgramTree) (ns : List NodeNames) (f : plain.Function) (d : Decl) → declared_function p ns f ≡ Ok d → is_function (plain-Decl d) ≡ true
a_function p ns f d e =
    ends_so (entry_of (bounded 0 f.lifetimes) f.params (begins ns (number (length f.lifetimes))))
    (λ x. on_ok (parameters_of p f.params x.1) (λ ps. on_ok (answer_of p f.result ps.1) (λ a. Ok (decl.Func ps.1.next ps.0 a.0 (bounds_of (bounded 0 f.lifetimes) x.0))))) true
    (λ x. ends_so (parameters_of p f.params x.1) (λ ps. on_ok (answer_of p f.result ps.1) (λ a. Ok (decl.Func ps.1.next ps.0 a.0 (bounds_of (bounded 0 f.lifetimes) x.0)))) true
    (λ ps. ends_so (answer_of p f.result ps.1) (λ a. Ok (decl.Func ps.1.next ps.0 a.0 (bounds_of (bounded 0 f.lifetimes) x.0))) true
    (λ a c. said (decl.Func ps.1.next ps.0 a.0 (bounds_of (bounded 0 f.lifetimes) x.0)) c true refl))) d e

a_struct : (p : ProgramTree) (ns : List NodeNames) (s : plain.Structure) (d : Decl) → declared_struct p ns s ≡ Ok d → is_function (plain-Decl d) ≡ false
a_struct p ns s d e =
    ends_so (fields_of p s.fields (begins ns 0)) (λ r. on_ok (all_used 0 s.lifetimes r.1.lifetimes) (λ _. Ok (decl.Struct (derives_copy s.derives) (number (length s.lifetimes)) [] r.0))) false
    (λ r. ends_so (all_used 0 s.lifetimes r.1.lifetimes) (λ _. Ok (decl.Struct (derives_copy s.derives) (number (length s.lifetimes)) [] r.0)) false
    (λ u c. said (decl.Struct (derives_copy s.derives) (number (length s.lifetimes)) [] r.0) c false refl)) d e

an_enum : (p : ProgramTree) (ns : List NodeNames) (s : plain.Enumeration) (d : Decl) → declared_enum p ns s ≡ Ok d → is_function (plain-Decl d) ≡ false
an_enum p ns s d e =
    ends_so (variants_of p s.variants (begins ns 0)) (λ r. on_ok (all_used 0 s.lifetimes r.1.lifetimes) (λ _. Ok (decl.Enum (derives_copy s.derives) (number (length s.lifetimes)) [] r.0))) false
    (λ r. ends_so (all_used 0 s.lifetimes r.1.lifetimes) (λ _. Ok (decl.Enum (derives_copy s.derives) (number (length s.lifetimes)) [] r.0)) false
    (λ u c. said (decl.Enum (derives_copy s.derives) (number (length s.lifetimes)) [] r.0) c false refl)) d e

read_ok : {A B : Type 0} (m : Outcome A) (f : A → Outcome B) (b : B) → on_ok m f ≡ Ok b → (a : A) × (m ≡ Ok a) × (f a ≡ Ok b)
read_ok (Ok a) f b e = (a, refl, e)
read_ok (Err x) f b e = absurd (cc)

-- what is declared of the first item, and of those behind it
record Split (p : ProgramTree) (ns : List ItemNames) (k : ℕ) (x : ItemTree) (xs : ProgramTree) (ds : List Decl) : Type 0 where
  first : Decl
  others : List Decl
  here : declared_item p (entries_of (slice_get ns k)) x ≡ Ok first
  later : declared_items p ns (suc k) xs ≡ Ok others
  whole : first ∷ others ≡ ds

split : (p : ProgramTree) (ns : List ItemNames) (k : ℕ) (x : ItemTree) (xs : ProgramTree) (ds : List Decl) → declared_items p ns k (x ∷ xs) ≡ Ok ds → Split p ns k x xs ds
split p ns k x xs ds e =
    let a = read_ok (declared_item p (entries_of (slice_get ns k)) x) (λ d. on_ok (declared_items p ns (suc k) xs) (λ es. Ok (d ∷ es))) ds e in
    let b = read_ok (declared_items p ns (suc k) xs) (λ es. Ok (a.0 ∷ es)) ds a.2 in
    record { first = a.0; others = b.0; here = a.1; later = b.1; whole = ok_is (a.0 ∷ b.0) ds b.2 }

-- one function, or none, and what the others have
step : (d : Decl) (es ds : List Decl) (b : Bool) (ts : List TypedFn) → is_function (plain-Decl d) ≡ b → d ∷ es ≡ ds
    → typed_functions (declarations ds) ts ≡ first_of b ts ∷ typed_functions (declarations es) (behind b ts)
step d es ds b ts k w = sym (ap (λ l. typed_functions (declarations l) ts) w) ∙ ap (λ c. first_of c ts ∷ typed_functions (declarations es) (behind c ts)) k

-- ---- items, one after the other

record Found (G : Given) (ns : List ItemNames) (k : ℕ) (xs : ProgramTree) (ds : List Decl) (ts : List TypedFn) : Type 0 where
  types : ℕ → Assigned
  same : typed_functions (declarations ds) ts ≡ functions_in xs k (names_of ns) types
  valid : TypesAre G ns k xs types

none_here : (G : Given) (ns : List ItemNames) (k : ℕ) (xs : ProgramTree) (d : Decl) (es ds : List Decl) (ts : List TypedFn) (r : Found G ns (suc k) xs es ts) → is_function (plain-Decl d) ≡ false → d ∷ es ≡ ds
    → typed_functions (declarations ds) ts ≡ None ∷ functions_in xs (suc k) (names_of ns) r.types
none_here G ns k xs d es ds ts r kind whole = step d es ds false ts kind whole ∙ ap (λ l. None ∷ l) r.same

all_found : (G : Given) (p : ProgramTree) (ns : List ItemNames) (k : ℕ) (xs : ProgramTree) (ds : List Decl) (ts : List TypedFn) → declared_items p ns k xs ≡ Ok ds → FunctionsTyped G ns k xs ts → Found G ns k xs ds ts
all_found G p ns k [] ds ts e h = record { types = λ j. assigned (known_in G) (λ x. unit_shape); same = sym (ap (λ l. typed_functions (declarations l) ts) (ok_is [] ds e)); valid = tt }
all_found G p ns k (plain.function_item s f ∷ xs) ds [] e h = absurd h
all_found G p ns k (plain.function_item s f ∷ xs) ds (t ∷ ts) e h =
    let c = split p ns k (plain.function_item s f) xs ds e in
    let r : Found G ns (suc k) xs c.others ts = all_found G p ns (suc k) xs c.others ts c.later h.1 in
    let A : Assigned = assigned (known_in G) h.0.types in
    let T : ℕ → Assigned = with_types k A r.types in
    record {
      types = T;
      same = step c.first c.others ds true (t ∷ ts) (a_function p (entries_of (slice_get ns k)) f c.first c.here) c.whole
          ∙ ap (λ g. Some g ∷ typed_functions (declarations c.others) ts) (h.0.tree ∙ ap (λ B. elaborated B (function_named k s f (names_of ns k))) (sym (at_item k A r.types)))
          ∙ ap (λ l. Some (elaborated (T k) (function_named k s f (names_of ns k))) ∷ l) (r.same ∙ functions_agree (names_of ns) xs (suc k) r.types T (behind_item k A r.types));
      valid = ((h.0.types, h.0.valid, at_item k A r.types), types_agree G ns xs (suc k) r.types T (behind_item k A r.types) r.valid);
    }
all_found G p ns k (plain.rt_item s r ∷ xs) ds ts e h =
    let c = split p ns k (plain.rt_item s r) xs ds e in
    let q : Found G ns (suc k) xs c.others ts = all_found G p ns (suc k) xs c.others ts c.later h in
    record { types = q.types; same = none_here G ns k xs c.first c.others ds ts q (said decl.Rt c.first false refl c.here) c.whole; valid = q.valid }
all_found G p ns k (plain.struct_item s d ∷ xs) ds ts e h =
    let c = split p ns k (plain.struct_item s d) xs ds e in
    let q : Found G ns (suc k) xs c.others ts = all_found G p ns (suc k) xs c.others ts c.later h in
    record { types = q.types; same = none_here G ns k xs c.first c.others ds ts q (a_struct p (entries_of (slice_get ns k)) d c.first c.here) c.whole; valid = q.valid }
all_found G p ns k (plain.enum_item s d ∷ xs) ds ts e h =
    let c = split p ns k (plain.enum_item s d) xs ds e in
    let q : Found G ns (suc k) xs c.others ts = all_found G p ns (suc k) xs c.others ts c.later h in
    record { types = q.types; same = none_here G ns k xs c.first c.others ds ts q (an_enum p (entries_of (slice_get ns k)) d c.first c.here) c.whole; valid = q.valid }

-- ---- polarities that are recorded don't matter

unrecorded_so : (d : Decl) → plain-Decl (unrecorded d) ≡ plain-Decl d
unrecorded_so decl.Rt = refl
unrecorded_so (decl.Struct c l vs fs) = refl
unrecorded_so (decl.Enum c l vs ds) = refl
unrecorded_so (decl.Func l ps t bs) = refl

all_unrecorded : (ds : List Decl) → declarations (map unrecorded ds) ≡ declarations ds
all_unrecorded [] = refl
all_unrecorded (d ∷ ds) = ap (λ x. x ∷ declarations (map unrecorded ds)) (unrecorded_so d) ∙ ap (λ l. plain-Decl d ∷ l) (all_unrecorded ds)

same_functions : (ds es : List Decl) (ts : List TypedFn) → map unrecorded ds ≡ map unrecorded es → typed_functions (declarations ds) ts ≡ typed_functions (declarations es) ts
same_functions ds es ts h = ap (λ D. typed_functions D ts) (sym (all_unrecorded ds) ∙ (ap declarations h ∙ all_unrecorded es))

-- ---- programs

pub runs_as : (P : ProgramTree) (ns : List ItemNames) (t : Typed) → IsTyped P ns t → RunsAs P ns (program_of t (main_in P 0))
runs_as P ns t h =
    let G : Given = record { program = P; declared = h.declared; sizes = h.sizes } in
    let q : Found G ns 0 P h.declared t.functions = all_found G P ns 0 P h.declared t.functions h.declares.items h.functions in
    record {
      given = G;
      types = q.types;
      valid = q.valid;
      same = ap (λ F. record { functions = F; main = main_in P 0 }) (same_functions t.decls.items h.declared t.functions h.same ∙ q.same);
    }

pub runs_text : (P : ProgramTree) (x : Judged) → IsCheckedOf P x → RunsText P (program_of x.front.typed x.front.main)
runs_text P x h = let a = h.front.accepted in
    record { names = a.names; meant = a.meant; runs = subst (λ m. RunsAs P a.names (program_of x.front.typed m)) (sym h.front.main) (runs_as P a.names x.front.typed a.typed) }
