-- What a function of a typed program calls is a function of the program, and each of its parameters has an argument.
use Rattle.std.proofs.Common.{◌≡◌, ℕ, zero, suc, Bool, true, false, List, [], ◌∷◌, length, Some, slice_get, Ok, refl, sym, ap, ◌∙◌, subst}
use Rattle.std.proofs.lemmas.List.{length-map}
use Rattle.rx_core.specs.declared.types.Span.{Span}
use Rattle.rx_core.specs.declared.types.Ty.{Ty}
use Rattle.rx_tree.specs.Plain as plain
use Rattle.rx_tree.specs.Plain.{TypeTree, ItemTree, ProgramTree, Parameter, Function as FunctionTree}
use Rattle.rx_resolve_names.specs.declared.resolved.ItemNames.{ItemNames}
use Rattle.rx_resolve_names.specs.declared.resolved.NodeNames.{NodeNames}
use Rattle.rx_resolve_names.specs.Meant.{number}
use Rattle.rx_typed.specs.declared.declarations.Decl.{Decl}
use Rattle.rx_typed.specs.declared.declarations.Decl.TheVariants as decl
use Rattle.rx_typed.specs.Types.{Typ, Declared, Declarations, function_declared}
use Rattle.rx_typed.specs.PlainTypes.{plain-Ty, plain-Decl, declarations}
use Rattle.rx_typed.specs.Named as named
use Rattle.rx_typed.specs.Naming as numbering
use Rattle.rx_typed.specs.Naming.{Cursor, a_node, entry_if, has_entry, function_named}
use Rattle.rx_typed.specs.declared.nodes.Site.{Site}
use Rattle.rx_typed.specs.Elaborated.{elaborated}
use Rattle.rx_typed.specs.Elaborated as elaboration
use Rattle.rx_typed.specs.Tree.{Function}
use Rattle.rx_typed.specs.PlainTree.{plain-TypedTree}
use Rattle.rx_typeck_typed.specs.Steps as steps
use Rattle.rx_typeck_typed.specs.Steps.{Reading}
use Rattle.rx_typeck_typed.specs.Written.{type_of}
use Rattle.rx_typeck_typed.specs.Items.{declared_item, declared_items, entries_of, fields_of, variants_of, begins, all_used, derives_copy, bounded, bounds_of, entry_of, parameters_of, answer_of}
use Rattle.rx_typeck_typed.specs.declared.typed.TypedFn.{TypedFn}
use Rattle.rx_typeck_typed.specs.Typing.{Given, FunctionTyped, FunctionsTyped}
use Rattle.rx_machine.specs.Functions.{is_function, first_of, behind, typed_functions}
use Rattle.rx_meaning_keeping.specs.Keeping.{IsFunction}
use Rattle.rx_meaning_accepted.proofs.Fields.{read_ok, read_same}

-- ---- as many parameters

kept_length : (p : ProgramTree) (t : TypeTree) (n : ℕ) (rest : steps.Step (List Ty)) → ((r : Reading) (x : List Ty × Reading) → rest r ≡ Ok x → length x.0 ≡ n) → (r : Reading) (x : List Ty × Reading) (k : _)
    → steps.on_ok (type_of p k t r) (λ q. steps.on_ok (rest q.1) (λ z. Ok (q.0 ∷ z.0, z.1))) ≡ Ok x → length x.0 ≡ suc n
kept_length p t n rest h r x k e =
    let a = read_ok (type_of p k t r) (λ q. steps.on_ok (rest q.1) (λ z. Ok (q.0 ∷ z.0, z.1))) x e in
    let b = read_ok (rest a.0.1) (λ z. Ok (a.0.0 ∷ z.0, z.1)) x a.2 in
    ap (λ (z : List Ty × Reading). length z.0) (sym (read_same (a.0.0 ∷ b.0.0, b.0.1) x b.2)) ∙ ap suc (h a.0.1 b.0 b.1)

parameters_length : (p : ProgramTree) (xs : List Parameter) (r : Reading) (x : List Ty × Reading) → parameters_of p xs r ≡ Ok x → length x.0 ≡ length xs
parameters_length p [] r x e = ap (λ (z : List Ty × Reading). length z.0) (sym (read_same ([], r) x e))
parameters_length p (y ∷ xs) r x e = kept_length p y.typ (length xs) (parameters_of p xs) (λ r x h. parameters_length p xs r x h) r x _ e

numbered_length : (xs : List Parameter) (c : Cursor) → length (numbering.of_parameters xs c).0 ≡ length xs
numbered_length [] c = refl
numbered_length (x ∷ xs) c = ap suc (numbered_length xs (numbering.of_parameter x c).1)

elaborated_length : (xs : List named.Parameter) → length (elaboration.parameters xs) ≡ length xs
elaborated_length [] = refl
elaborated_length (x ∷ xs) = ap suc (elaborated_length xs)

-- ---- items and what is declared of them

abbrev declared_count : Declared → ℕ
declared_count (function_declared ps u) = length ps
declared_count _ = 0

-- of a function as many parameters are declared as its text has
abbrev pub DeclaredAs : ItemTree → Decl → Type 0
DeclaredAs (plain.function_item s f) d = (is_function (plain-Decl d) ≡ true) × (declared_count (plain-Decl d) ≡ length f.params)
DeclaredAs _ d = is_function (plain-Decl d) ≡ false

moved : (i : ItemTree) (a d : Decl) → ◌≡◌ {A = steps.Outcome Decl} (Ok a) (Ok d) → DeclaredAs i a → DeclaredAs i d
moved i a d e h = subst (DeclaredAs i) (read_same a d e) h

pub declared_as : (p : ProgramTree) (ns : List NodeNames) (i : ItemTree) (d : Decl) → declared_item p ns i ≡ Ok d → DeclaredAs i d
declared_as p ns (plain.rt_item s r) d e = moved (plain.rt_item s r) decl.Rt d e refl
declared_as p ns (plain.struct_item s x) d e =
    let a = read_ok (fields_of p x.fields (begins ns 0)) (λ r. steps.on_ok (all_used 0 x.lifetimes r.1.lifetimes) (λ _. Ok (decl.Struct (derives_copy x.derives) (number (length x.lifetimes)) [] r.0))) d e in
    let b = read_ok (all_used 0 x.lifetimes a.0.1.lifetimes) (λ _. Ok (decl.Struct (derives_copy x.derives) (number (length x.lifetimes)) [] a.0.0)) d a.2 in
    moved (plain.struct_item s x) (decl.Struct (derives_copy x.derives) (number (length x.lifetimes)) [] a.0.0) d b.2 refl
declared_as p ns (plain.enum_item s x) d e =
    let a = read_ok (variants_of p x.variants (begins ns 0)) (λ r. steps.on_ok (all_used 0 x.lifetimes r.1.lifetimes) (λ _. Ok (decl.Enum (derives_copy x.derives) (number (length x.lifetimes)) [] r.0))) d e in
    let b = read_ok (all_used 0 x.lifetimes a.0.1.lifetimes) (λ _. Ok (decl.Enum (derives_copy x.derives) (number (length x.lifetimes)) [] a.0.0)) d a.2 in
    moved (plain.enum_item s x) (decl.Enum (derives_copy x.derives) (number (length x.lifetimes)) [] a.0.0) d b.2 refl
declared_as p ns (plain.function_item s f) d e =
    let B = bounded 0 f.lifetimes in
    let x = read_ok (entry_of B f.params (begins ns (number (length f.lifetimes)))) (λ e. steps.on_ok (parameters_of p f.params e.1) (λ ps. steps.on_ok (answer_of p f.result ps.1) (λ a. Ok (decl.Func ps.1.next ps.0 a.0 (bounds_of B e.0))))) d e in
    let y = read_ok (parameters_of p f.params x.0.1) (λ ps. steps.on_ok (answer_of p f.result ps.1) (λ a. Ok (decl.Func ps.1.next ps.0 a.0 (bounds_of B x.0.0)))) d x.2 in
    let z = read_ok (answer_of p f.result y.0.1) (λ a. Ok (decl.Func y.0.1.next y.0.0 a.0 (bounds_of B x.0.0))) d y.2 in
    moved (plain.function_item s f) (decl.Func y.0.1.next y.0.0 z.0.0 (bounds_of B x.0.0)) d z.2 (refl {a = true}, length-map y.0.0 plain-Ty ∙ parameters_length p f.params x.0.1 y.0 y.1)

-- ---- the function at a number

record Callee (D : Declarations) (ts : List TypedFn) (j n : ℕ) : Type 0 where
  tree : Function
  stands : IsFunction (typed_functions D ts) j tree
  count : length tree.params ≡ n

not_function : (o : Declared) (ps : List Typ) (u : Typ) → o ≡ function_declared ps u → is_function o ≡ false → ⊥
not_function o ps u e h = let q : is_function o ≡ true = ap is_function e in cc

skipped : (d : Declared) (D : Declarations) (ts : List TypedFn) (j n : ℕ) (ps : List Typ) (u : Typ) → is_function d ≡ false → slice_get (d ∷ D) j ≡ Some (function_declared ps u) → ((k : ℕ) → slice_get D k ≡ Some (function_declared ps u) → Callee D ts k n) → Callee (d ∷ D) ts j n
skipped d D ts zero n ps u h e f = absurd (not_function d ps u (let q : d ≡ function_declared ps u = cc in q) h)
skipped d D ts (suc j) n ps u h e f = let x = f j e in record {
  tree = x.tree;
  stands = subst (λ (b : Bool). IsFunction (first_of b ts ∷ typed_functions D (behind b ts)) (suc j) x.tree) (sym h) x.stands;
  count = x.count;
}

tree_count : (G : Given) (i : ℕ) (s : Span) (f : FunctionTree) (ns : List NodeNames) (vars : List Span) (g : TypedFn) → FunctionTyped G i s f ns vars g → length (plain-TypedTree g.tree).params ≡ length f.params
tree_count G i s f ns vars g h =
    ap (λ (z : Function). length z.params) h.tree ∙ elaborated_length (function_named i s f ns).params
    ∙ numbered_length f.params (entry_if (has_entry f) (a_node s Site.Value (numbering.begins ns)).1).1

taken_first : (d : Declared) (D : Declarations) (ts : List TypedFn) (g : TypedFn) (j m : ℕ) (ps : List Typ) (u : Typ) → is_function d ≡ true → declared_count d ≡ m → length (plain-TypedTree g.tree).params ≡ m → slice_get (d ∷ D) j ≡ Some (function_declared ps u)
    → ((k : ℕ) → slice_get D k ≡ Some (function_declared ps u) → Callee D ts k (length ps)) → Callee (d ∷ D) (g ∷ ts) j (length ps)
taken_first d D ts g zero m ps u h c l e f = record {
  tree = plain-TypedTree g.tree;
  stands = ap (λ (b : Bool). Some (first_of b (g ∷ ts))) h;
  count = l ∙ sym c ∙ ap declared_count (let q : d ≡ function_declared ps u = cc in q);
}
taken_first d D ts g (suc j) m ps u h c l e f = let x = f j e in record {
  tree = x.tree;
  stands = subst (λ (b : Bool). IsFunction (first_of b (g ∷ ts) ∷ typed_functions D (behind b (g ∷ ts))) (suc j) x.tree) (sym h) x.stands;
  count = x.count;
}

callee : (G : Given) (p : ProgramTree) (ns : List ItemNames) (i : ℕ) (is : ProgramTree) (ds : List Decl) (ts : List TypedFn) → declared_items p ns i is ≡ Ok ds → FunctionsTyped G ns i is ts → (j : ℕ) (ps : List Typ) (u : Typ)
    → slice_get (declarations ds) j ≡ Some (function_declared ps u) → Callee (declarations ds) ts j (length ps)
callee G p ns i [] ds ts e h j ps u q = absurd (let z : slice_get (declarations []) j ≡ Some (function_declared ps u) = ap (λ (l : List Decl). slice_get (declarations l) j) (read_same [] ds e) ∙ q in cc)
callee G p ns i (x ∷ is) ds ts e h j ps u q =
    let a = read_ok (declared_item p (entries_of (slice_get ns i)) x) (λ d. steps.on_ok (declared_items p ns (suc i) is) (λ ds. Ok (d ∷ ds))) ds e in
    let b = read_ok (declared_items p ns (suc i) is) (λ ds. Ok (a.0 ∷ ds)) ds a.2 in
    let c : a.0 ∷ b.0 ≡ ds = read_same (a.0 ∷ b.0) ds b.2 in
    subst (λ (l : List Decl). Callee (declarations l) ts j (length ps)) c
    (by x ts h a.0 (declared_as p (entries_of (slice_get ns i)) x a.0 a.1) b.0 (ap (λ (l : List Decl). slice_get (declarations l) j) c ∙ q) (λ ts h k. callee G p ns (suc i) is b.0 ts b.1 h k ps u))
  where
    by : (x : ItemTree) (ts : List TypedFn) → FunctionsTyped G ns i (x ∷ is) ts → (d : Decl) → DeclaredAs x d → (D : List Decl) → slice_get (declarations (d ∷ D)) j ≡ Some (function_declared ps u)
        → ((ts : List TypedFn) → FunctionsTyped G ns (suc i) is ts → (k : ℕ) → slice_get (declarations D) k ≡ Some (function_declared ps u) → Callee (declarations D) ts k (length ps)) → Callee (declarations (d ∷ D)) ts j (length ps)
    by (plain.rt_item s r) ts h d n D e f = skipped (plain-Decl d) (declarations D) ts j (length ps) ps u n e (f ts h)
    by (plain.struct_item s r) ts h d n D e f = skipped (plain-Decl d) (declarations D) ts j (length ps) ps u n e (f ts h)
    by (plain.enum_item s r) ts h d n D e f = skipped (plain-Decl d) (declarations D) ts j (length ps) ps u n e (f ts h)
    by (plain.function_item s g) [] h d n D e f = absurd h
    by (plain.function_item s g) (t ∷ ts) h d n D e f =
        taken_first (plain-Decl d) (declarations D) ts t j (length g.params) ps u n.0 n.1 (tree_count G i s g _ _ t h.0) e (f ts h.1)

-- what is declared as a function is one of the program, with as many parameters
pub called_is : (G : Given) (p : ProgramTree) (ns : List ItemNames) (ds : List Decl) (ts : List TypedFn) → declared_items p ns 0 p ≡ Ok ds → FunctionsTyped G ns 0 p ts → (j : ℕ) (ps : List Typ) (u : Typ)
    → slice_get (declarations ds) j ≡ Some (function_declared ps u) → (F : Function) × IsFunction (typed_functions (declarations ds) ts) j F × (length F.params ≡ length ps)
called_is G p ns ds ts e h j ps u q = let x = callee G p ns 0 p ds ts e h j ps u q in (x.tree, x.stands, x.count)
