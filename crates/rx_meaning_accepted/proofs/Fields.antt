-- No struct of a program whose names have a meaning declares two fields of one name: each is found at its number by its name.
use Rattle.std.proofs.Common.{◌≡◌, ℕ, zero, suc, ◌+◌, Bool, true, false, List, [], ◌∷◌, ◌++◌, length, map, Option, Some, None, slice_get, Ok, Err, refl, sym, ap, ◌∙◌, subst}
use Rattle.std.specs.Prelude.{if◌then◌else◌}
use Rattle.std.specs.Str.{bytes_eq}
use Rattle.std.proofs.lemmas.Bool.{true≢false}
use Rattle.std.proofs.lemmas.Slice.Eq.{bytes_eq-Decides}
use Rattle.rx_tree.specs.declared.tree.Ident.{Ident}
use Rattle.rx_tree.specs.Lists.{Every}
use Rattle.rx_tree.specs.Plain as plain
use Rattle.rx_tree.specs.Plain.{TypeTree, FieldOf, Structure, ItemTree, ProgramTree}
use Rattle.rx_resolve_names.specs.declared.table.NumberedName.{NumberedName}
use Rattle.rx_resolve_names.specs.Scopes.{DeclaredNames, declared_as}
use Rattle.rx_resolve_names.specs.declared.resolved.ItemNames.{ItemNames}
use Rattle.rx_resolve_names.specs.declared.resolved.NodeNames.{NodeNames}
use Rattle.rx_resolve_names.specs.Meant.{number, firsts, lifetimes_declared}
use Rattle.rx_resolve_names.specs.Steps.{Inside, ◌>>◌, declare, declared_behind, child, next}
use Rattle.rx_resolve_names.specs.Names.{in_type}
use Rattle.rx_resolve_names.specs.Causes.{Meant}
use Rattle.rx_resolve_names.specs.Items.{distinct, in_declared, in_item, in_items, apart}
use Rattle.rx_typed.specs.declared.declarations.Decl.{Decl}
use Rattle.rx_typed.specs.declared.declarations.Decl.TheVariants as decl
use Rattle.rx_typed.specs.declared.declarations.FieldDecl.{FieldDecl}
use Rattle.rx_typed.specs.Types.{FieldDeclared, fields_declared, field_number}
use Rattle.rx_typed.specs.PlainTypes.{plain-Decl, plain-FieldDecl, declarations}
use Rattle.rx_typeck_solver.specs.Facts.{names_of}
use Rattle.rx_typeck_typed.specs.Written.{type_of}
use Rattle.rx_typeck_typed.specs.Steps as steps
use Rattle.rx_typeck_typed.specs.Steps.{Reading}
use Rattle.rx_typeck_typed.specs.Items.{declared_item, declared_items, entries_of, field_of, fields_of, variants_of, begins, all_used, derives_copy, bounded, bounds_of, entry_of, parameters_of, answer_of}
use Rattle.rx_hoist_naming.proofs.Steps.{named_ok, the_same}
use Rattle.rx_hoist_naming.proofs.Programs.{table_at}
use Rattle.rx_meaning_accepted.proofs.Facts.{NamedApart}

-- ---- names

abbrev Unlike : List ℕ → List ℕ → Type 0
Unlike x y = bytes_eq x y ≡ false

-- none is among those before it
abbrev AllNew : List (List ℕ) → List (List ℕ) → Type 0
AllNew ns [] = Unit {0}
AllNew ns (x ∷ xs) = Every (Unlike x) ns × AllNew (ns ++ x ∷ []) xs

abbrev first_of : List (List ℕ) → List ℕ → ℕ
first_of [] x = zero
first_of (y ∷ ys) x = if bytes_eq y x then zero else suc (first_of ys x)

every_front : {A : Type 0} (Q : A → Type 0) (a b : List A) → Every Q (a ++ b) → Every Q a
every_front Q [] b h = tt
every_front Q (x ∷ a) b h = (h.0, every_front Q a b h.1)

every_behind : {A : Type 0} (Q : A → Type 0) (a b : List A) → Every Q (a ++ b) → Every Q b
every_behind Q [] b h = h
every_behind Q (x ∷ a) b h = every_behind Q a b h.1

fresh_at : (ns xs : List (List ℕ)) → AllNew ns xs → (j : ℕ) (x : List ℕ) → slice_get xs j ≡ Some x → Every (Unlike x) ns
fresh_at ns [] h j x e = absurd (cc)
fresh_at ns (y ∷ xs) h zero x e = subst (λ (z : List ℕ). Every (Unlike z) ns) (let q : y ≡ x = cc in q) h.0
fresh_at ns (y ∷ xs) h (suc j) x e = every_front (Unlike x) ns (y ∷ []) (fresh_at (ns ++ y ∷ []) xs h.1 j x e)

unlike_back : (x y : List ℕ) → Unlike x y → Unlike y x
unlike_back x y h = by (bytes_eq y x) refl
  where
    by : (b : Bool) → bytes_eq y x ≡ b → b ≡ false
    by false e = refl
    by true e = absurd (true≢false (sym ((bytes_eq-Decides x y).1 (sym ((bytes_eq-Decides y x).0 e))) ∙ h))

first_is : (ns xs : List (List ℕ)) → AllNew ns xs → (j : ℕ) (x : List ℕ) → slice_get xs j ≡ Some x → first_of xs x ≡ j
first_is ns [] h j x e = absurd (cc)
first_is ns (y ∷ xs) h zero x e = ap (λ (b : Bool). if b then zero else suc (first_of xs x)) ((bytes_eq-Decides y x).1 (let q : y ≡ x = cc in q))
first_is ns (y ∷ xs) h (suc j) x e =
    ap (λ (b : Bool). if b then zero else suc (first_of xs x)) (unlike_back x y (every_behind (Unlike x) ns (y ∷ []) (fresh_at (ns ++ y ∷ []) xs h.1 j x e)).0)
    ∙ ap suc (first_is (ns ++ y ∷ []) xs h.1 j x e)

number_is : (fs : List FieldDeclared) (x : List ℕ) → field_number fs x ≡ first_of (names_of fs) x
number_is [] x = refl
number_is (f ∷ fs) x = ap (λ (n : ℕ). if bytes_eq f.name x then zero else suc n) (number_is fs x)

name_at : (fs : List FieldDeclared) (k : ℕ) (f : FieldDeclared) → slice_get fs k ≡ Some f → slice_get (names_of fs) k ≡ Some f.name
name_at [] k f e = absurd (cc)
name_at (g ∷ fs) zero f e = ap (λ (z : FieldDeclared). Some z.name) (let q : g ≡ f = cc in q)
name_at (g ∷ fs) (suc k) f e = name_at fs k f e

named_apart : (fs : List FieldDeclared) → AllNew [] (names_of fs) → NamedApart fs
named_apart fs h k f e = number_is fs f.name ∙ first_is [] (names_of fs) h k f.name (name_at fs k f e)

-- ---- fields that are declared one behind the other

abbrev field_names : List FieldOf → List (List ℕ)
field_names [] = []
field_names (f ∷ fs) = f.name.name ∷ field_names fs

abbrev names_in : DeclaredNames → List (List ℕ)
names_in [] = []
names_in (d ∷ ds) = d.0 ∷ names_in ds

none_as : (ds : DeclaredNames) (x : List ℕ) → declared_as ds x ≡ None → Every (Unlike x) (names_in ds)
none_as [] x e = tt
none_as (d ∷ ds) x e = by (bytes_eq x d.0) refl e (none_as ds x)
  where
    by : (b : Bool) → bytes_eq x d.0 ≡ b → (if b then Some d.1 else declared_as ds x) ≡ None → (declared_as ds x ≡ None → Every (Unlike x) (names_in ds)) → Every (Unlike x) (names_in (d ∷ ds))
    by true q h g = absurd (cc)
    by false q h g = (q, g h)

names_more : (ds : DeclaredNames) (x : List ℕ × NumberedName) → names_in (ds ++ x ∷ []) ≡ names_in ds ++ x.0 ∷ []
names_more [] x = refl
names_more (d ∷ ds) x = ap (λ (l : List (List ℕ)). d.0 ∷ l) (names_more ds x)

behind_new : (ds new : DeclaredNames) (x : Ident) (n : ℕ) (o : Option NumberedName) → declared_behind ds x n o ≡ Ok new → (o ≡ None) × (names_in new ≡ names_in ds ++ x.name ∷ [])
behind_new ds new x n None e = (refl, ap names_in (sym (the_same _ new e)) ∙ names_more ds (x.name, record { number = number n; span = x.span }))
behind_new ds new x n (Some k) e = absurd (cc)

fields_new : (I : Inside) (at : List ℕ) (ds : DeclaredNames) (i : ℕ) (fs : List FieldOf) (t t' : ItemNames) → in_declared I at ds i fs t ≡ Ok t' → AllNew (names_in ds) (field_names fs)
fields_new I at ds i [] t t' e = tt
fields_new I at ds i (f ∷ fs) t t' e =
    let a = named_ok (declare ds f.name i) (λ ds. (in_type I (child at i) f.typ >> in_declared I at ds (next i) fs) t) t' e in
    let b = named_ok (in_type I (child at i) f.typ t) (in_declared I at a.0 (next i) fs) t' a.2 in
    let c = behind_new ds a.0 f.name i (declared_as ds f.name.name) a.1 in
    (none_as ds f.name.name c.0, subst (λ (l : List (List ℕ)). AllNew l (field_names fs)) c.1 (fields_new I at a.0 (next i) fs b.0 t' b.2))

-- ---- what is declared has these names

pub read_ok : {A B : Type 0} (m : steps.Outcome A) (f : A → steps.Outcome B) (b : B) → steps.on_ok m f ≡ Ok b → (a : A) × (m ≡ Ok a) × (f a ≡ Ok b)
read_ok (Ok a) f b e = (a, refl, e)
read_ok (Err x) f b e = absurd (cc)

pub read_same : {A : Type 0} (a b : A) → ◌≡◌ {A = steps.Outcome A} (Ok a) (Ok b) → a ≡ b
read_same a b e = cc

name_kept : (p : ProgramTree) (t : TypeTree) (n : List ℕ) (r : Reading) (x : FieldDecl × Reading) (k : _) → steps.on_ok (type_of p k t r) (λ q. Ok (record { name = n; ty = q.0 }, q.1)) ≡ Ok x → x.0.name ≡ n
name_kept p t n r x k e =
    let a = read_ok (type_of p k t r) (λ q. Ok (record { name = n; ty = q.0 }, q.1)) x e in
    ap (λ (z : FieldDecl × Reading). z.0.name) (sym (read_same (record { name = n; ty = a.0.0 }, a.0.1) x a.2))

field_name : (p : ProgramTree) (f : FieldOf) (r : Reading) (x : FieldDecl × Reading) → field_of p f r ≡ Ok x → x.0.name ≡ f.name.name
field_name p f r x e = name_kept p f.typ f.name.name r x _ e

fields_names : (p : ProgramTree) (fs : List FieldOf) (r : Reading) (x : List FieldDecl × Reading) → fields_of p fs r ≡ Ok x → names_of (map plain-FieldDecl x.0) ≡ field_names fs
fields_names p [] r x e = ap (λ (z : List FieldDecl × Reading). names_of (map plain-FieldDecl z.0)) (sym (read_same ([], r) x e))
fields_names p (f ∷ fs) r x e =
    let a = read_ok (field_of p f r) (λ q. steps.on_ok (fields_of p fs q.1) (λ z. Ok (q.0 ∷ z.0, z.1))) x e in
    let b = read_ok (fields_of p fs a.0.1) (λ z. Ok (a.0.0 ∷ z.0, z.1)) x a.2 in
    ap (λ (z : List FieldDecl × Reading). names_of (map plain-FieldDecl z.0)) (sym (read_same (a.0.0 ∷ b.0.0, b.0.1) x b.2))
    ∙ ap (λ (n : List ℕ). n ∷ names_of (map plain-FieldDecl b.0.0)) (field_name p f r a.0 a.1) ∙ ap (λ (l : List (List ℕ)). f.name.name ∷ l) (fields_names p fs a.0.1 b.0 b.1)

abbrev item_fields : Option ItemTree → List (List ℕ)
item_fields (Some (plain.struct_item s d)) = field_names d.fields
item_fields _ = []

abbrev decl_names : Decl → List (List ℕ)
decl_names d = names_of (fields_declared (Some (plain-Decl d)))

same_names : (a d : Decl) → ◌≡◌ {A = steps.Outcome Decl} (Ok a) (Ok d) → decl_names d ≡ decl_names a
same_names a d e = ap decl_names (sym (read_same a d e))

item_names : (p : ProgramTree) (ns : List NodeNames) (i : ItemTree) (d : Decl) → declared_item p ns i ≡ Ok d → decl_names d ≡ item_fields (Some i)
item_names p ns (plain.rt_item s r) d e = same_names decl.Rt d e
item_names p ns (plain.struct_item s x) d e =
    let a = read_ok (fields_of p x.fields (begins ns 0)) (λ r. steps.on_ok (all_used 0 x.lifetimes r.1.lifetimes) (λ _. Ok (decl.Struct (derives_copy x.derives) (number (length x.lifetimes)) [] r.0))) d e in
    let b = read_ok (all_used 0 x.lifetimes a.0.1.lifetimes) (λ _. Ok (decl.Struct (derives_copy x.derives) (number (length x.lifetimes)) [] a.0.0)) d a.2 in
    same_names (decl.Struct (derives_copy x.derives) (number (length x.lifetimes)) [] a.0.0) d b.2 ∙ fields_names p x.fields (begins ns 0) a.0 a.1
item_names p ns (plain.enum_item s x) d e =
    let a = read_ok (variants_of p x.variants (begins ns 0)) (λ r. steps.on_ok (all_used 0 x.lifetimes r.1.lifetimes) (λ _. Ok (decl.Enum (derives_copy x.derives) (number (length x.lifetimes)) [] r.0))) d e in
    let b = read_ok (all_used 0 x.lifetimes a.0.1.lifetimes) (λ _. Ok (decl.Enum (derives_copy x.derives) (number (length x.lifetimes)) [] a.0.0)) d a.2 in
    same_names (decl.Enum (derives_copy x.derives) (number (length x.lifetimes)) [] a.0.0) d b.2
item_names p ns (plain.function_item s f) d e =
    let B = bounded 0 f.lifetimes in
    let x = read_ok (entry_of B f.params (begins ns (number (length f.lifetimes)))) (λ e. steps.on_ok (parameters_of p f.params e.1) (λ ps. steps.on_ok (answer_of p f.result ps.1) (λ a. Ok (decl.Func ps.1.next ps.0 a.0 (bounds_of B e.0))))) d e in
    let y = read_ok (parameters_of p f.params x.0.1) (λ ps. steps.on_ok (answer_of p f.result ps.1) (λ a. Ok (decl.Func ps.1.next ps.0 a.0 (bounds_of B x.0.0)))) d x.2 in
    let z = read_ok (answer_of p f.result y.0.1) (λ a. Ok (decl.Func y.0.1.next y.0.0 a.0 (bounds_of B x.0.0))) d y.2 in
    same_names (decl.Func y.0.1.next y.0.0 z.0.0 (bounds_of B x.0.0)) d z.2

items_names : (p : ProgramTree) (ns : List ItemNames) (n : ℕ) (is : ProgramTree) (ds : List Decl) → declared_items p ns n is ≡ Ok ds → (j : ℕ) → names_of (fields_declared (slice_get (declarations ds) j)) ≡ item_fields (slice_get is j)
items_names p ns n [] ds e j = ap (λ (l : List Decl). names_of (fields_declared (slice_get (declarations l) j))) (sym (read_same [] ds e))
items_names p ns n (i ∷ is) ds e zero =
    let a = read_ok (declared_item p (entries_of (slice_get ns n)) i) (λ d. steps.on_ok (declared_items p ns (suc n) is) (λ ds. Ok (d ∷ ds))) ds e in
    let b = read_ok (declared_items p ns (suc n) is) (λ ds. Ok (a.0 ∷ ds)) ds a.2 in
    ap (λ (l : List Decl). names_of (fields_declared (slice_get (declarations l) 0))) (sym (read_same (a.0 ∷ b.0) ds b.2)) ∙ item_names p (entries_of (slice_get ns n)) i a.0 a.1
items_names p ns n (i ∷ is) ds e (suc j) =
    let a = read_ok (declared_item p (entries_of (slice_get ns n)) i) (λ d. steps.on_ok (declared_items p ns (suc n) is) (λ ds. Ok (d ∷ ds))) ds e in
    let b = read_ok (declared_items p ns (suc n) is) (λ ds. Ok (a.0 ∷ ds)) ds a.2 in
    ap (λ (l : List Decl). names_of (fields_declared (slice_get (declarations l) (suc j)))) (sym (read_same (a.0 ∷ b.0) ds b.2)) ∙ items_names p ns (suc n) is b.0 b.1 j

-- ---- a program

item_new : (p : ProgramTree) (n : ℕ) (i : ItemTree) (t : ItemNames) → in_item p n i ≡ Ok t → AllNew [] (item_fields (Some i))
item_new p n (plain.rt_item s r) t e = tt
item_new p n (plain.struct_item s d) t e =
    let I : Inside = record { program = p; item = number n; lifetimes = firsts [] 0 (lifetimes_declared (plain.struct_item s d)) } in
    let t0 : ItemNames = record { vars = []; lifetimes = map (λ (l : Ident). l.span) (lifetimes_declared (plain.struct_item s d)); loops = []; names = [] } in
    let a = named_ok (distinct [] 0 d.lifetimes t0) (in_declared I [] [] 0 d.fields) t e in fields_new I [] [] 0 d.fields a.0 t a.2
item_new p n (plain.enum_item s d) t e = tt
item_new p n (plain.function_item s f) t e = tt

pub fields_apart : (p : ProgramTree) (ns : List ItemNames) (ds : List Decl) → Meant p ns → declared_items p ns 0 p ≡ Ok ds → (i : ℕ) → NamedApart (fields_declared (slice_get (declarations ds) i))
fields_apart p ns ds meant e i = named_apart (fields_declared (slice_get (declarations ds) i)) (subst (λ (l : List (List ℕ)). AllNew [] l) (sym (items_names p ns 0 p ds e i)) (by (slice_get p i) refl))
  where
    by : (o : Option ItemTree) → slice_get p i ≡ o → AllNew [] (item_fields o)
    by None q = tt
    by (Some x) q =
        let T = table_at p 0 p ns i x (named_ok {A = Unit {0}} (apart (record { types = []; functions = [] }) 0 p) (λ _. in_items p 0 p) ns meant.names_are).2 q in
        item_new p (0 + i) x T.table T.named
