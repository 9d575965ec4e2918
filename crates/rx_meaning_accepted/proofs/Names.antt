-- What the names of structs and variants mean: a struct that is declared, and a variant of a declared enum.
use Rattle.std.proofs.Common.{◌≡◌, ℕ, zero, suc, ◌+◌, ◌≤◌, ◌<◌, Bool, true, false, if◌then◌else◌, List, [], ◌∷◌, ◌++◌, length, map, Option, Some, None, option_map, slice_get, Ok, Err, refl, sym, ap, ◌∙◌, subst, arith}
use Rattle.std.proofs.lemmas.List.{length-map}
use Rattle.std.specs.Str.{bytes_eq}
use Rattle.rx_core.specs.declared.types.Span.{Span}
use Rattle.rx_tree.specs.declared.tree.Ident.{Ident}
use Rattle.rx_tree.specs.Plain as plain
use Rattle.rx_tree.specs.Plain.{ItemTree, ProgramTree, VariantOf}
use Rattle.rx_resolve_names.specs.declared.table.NumberedName.{NumberedName}
use Rattle.rx_resolve_names.specs.Scopes.{DeclaredNames, declared_as}
use Rattle.rx_resolve_names.specs.declared.resolved.ItemNames.{ItemNames}
use Rattle.rx_resolve_names.specs.declared.resolved.NodeNames.{NodeNames}
use Rattle.rx_resolve_names.specs.Meant.{number, type_name, has_name, item_named, as_struct, as_enum, kept, firsts, number_in, variant_names, variants_of}
use Rattle.rx_resolve_names.specs.Steps as naming
use Rattle.rx_resolve_names.specs.Steps.{Inside, known, one}
use Rattle.rx_resolve_names.specs.Names.{variant_in, struct_in}
use Rattle.rx_typed.specs.declared.declarations.Decl.{Decl}
use Rattle.rx_typed.specs.declared.declarations.Decl.TheVariants as decl
use Rattle.rx_typed.specs.declared.declarations.VariantDecl.{VariantDecl}
use Rattle.rx_typed.specs.Types as types
use Rattle.rx_typed.specs.PlainTypes.{plain-FieldDecl, plain-VariantDecl, plain-Decl, declarations}
use Rattle.rx_typeck_typed.specs.Steps as steps
use Rattle.rx_typeck_typed.specs.Steps.{Reading}
use Rattle.rx_typeck_typed.specs.Items as items
use Rattle.rx_typeck_typed.specs.Items.{declared_item, declared_items, entries_of, fields_of, variant_of, begins, all_used, derives_copy}
use Rattle.rx_engine_typing.proofs.Steps.{named_ok, the_same}
use Rattle.rx_repair.proofs.Programs.{read_ok, read_same}
use Rattle.rx_meaning_accepted.specs.Fitting.{IsStruct, IsVariant}
use Rattle.rx_meaning_accepted.proofs.Meaning.{Sees}

-- ---- items by their names

pair_same : (a b : ℕ × ItemTree) → Some a ≡ Some b → a ≡ b
pair_same a b e = cc

found_at : (name : ItemTree → Option Ident) (n : ℕ) (is : ProgramTree) (x : List ℕ) (k : ℕ) (i : ItemTree) → item_named name n is x ≡ Some (k, i) → (j : ℕ) × (n + j ≡ k) × (slice_get is j ≡ Some i)
found_at name n [] x k i e = absurd (cc)
found_at name n (y ∷ is) x k i e = by (has_name x (name y)) e (found_at name (suc n) is x k i)
  where
    by : (b : Bool) → (if b then Some (n, y) else item_named name (suc n) is x) ≡ Some (k, i)
        → (item_named name (suc n) is x ≡ Some (k, i) → (j : ℕ) × (suc n + j ≡ k) × (slice_get is j ≡ Some i)) → (j : ℕ) × (n + j ≡ k) × (slice_get (y ∷ is) j ≡ Some i)
    by true e r = let s = pair_same (n, y) (k, i) e in let h : n ≡ k = ap (λ (z : ℕ × ItemTree). z.0) s in (0, omega (arith, h), ap (λ (z : ℕ × ItemTree). Some z.1) s)
    by false e r = let h = r e in let q = h.1 in (suc h.0, omega (arith, q), h.2)

there : (p : ProgramTree) (x : List ℕ) (k : ℕ) (i : ItemTree) → item_named type_name 0 p x ≡ Some (k, i) → slice_get p k ≡ Some i
there p x k i e = let h = found_at type_name 0 p x k i e in let q : h.0 ≡ k = let z = h.1 in omega (arith, z) in ap (λ (j : ℕ). slice_get p j) (sym q) ∙ h.2

known_some : (o : Option ℕ) (s : Span) (n : ℕ) → known o s ≡ Ok n → o ≡ Some n
known_some None s n e = absurd (cc)
known_some (Some m) s n e = ap (λ (z : ℕ). Some z) (the_same m n e)

struct_found : (o : Option (ℕ × ItemTree)) (k : ℕ) → as_struct o ≡ Some k → (s : Span) × (d : _) × (o ≡ Some (k, plain.struct_item s d))
struct_found None k e = absurd (cc)
struct_found (Some (n, plain.rt_item s r)) k e = absurd (cc)
struct_found (Some (n, plain.struct_item s d)) k e = (s, d, ap (λ (z : ℕ). Some (z, plain.struct_item s d)) (let h : n ≡ k = cc in h))
struct_found (Some (n, plain.enum_item s d)) k e = absurd (cc)
struct_found (Some (n, plain.function_item s f)) k e = absurd (cc)

enum_found : (o : Option (ℕ × ItemTree)) (k : ℕ) → as_enum o ≡ Some k → (s : Span) × (d : _) × (o ≡ Some (k, plain.enum_item s d))
enum_found None k e = absurd (cc)
enum_found (Some (n, plain.rt_item s r)) k e = absurd (cc)
enum_found (Some (n, plain.struct_item s d)) k e = absurd (cc)
enum_found (Some (n, plain.enum_item s d)) k e = (s, d, ap (λ (z : ℕ). Some (z, plain.enum_item s d)) (let h : n ≡ k = cc in h))
enum_found (Some (n, plain.function_item s f)) k e = absurd (cc)

-- ---- what is declared of an item

declared_at : (p : ProgramTree) (ns : List ItemNames) (n : ℕ) (is : ProgramTree) (ds : List Decl) → declared_items p ns n is ≡ Ok ds → (k : ℕ) (x : ItemTree) → slice_get is k ≡ Some x
    → (es : List NodeNames) × (d : Decl) × (declared_item p es x ≡ Ok d) × (slice_get (declarations ds) k ≡ Some (plain-Decl d))
declared_at p ns n [] ds e k x q = absurd (cc)
declared_at p ns n (i ∷ is) ds e zero x q =
    let a = read_ok (declared_item p (entries_of (slice_get ns n)) i) (λ d. steps.on_ok (declared_items p ns (suc n) is) (λ ds. Ok (d ∷ ds))) ds e in
    let b = read_ok (declared_items p ns (suc n) is) (λ ds. Ok (a.0 ∷ ds)) ds a.2 in
    let same : i ≡ x = cc in
    (entries_of (slice_get ns n), a.0, ap (λ (z : ItemTree). declared_item p (entries_of (slice_get ns n)) z) (sym same) ∙ a.1, ap (λ (l : List Decl). slice_get (declarations l) 0) (sym (read_same (a.0 ∷ b.0) ds b.2)))
declared_at p ns n (i ∷ is) ds e (suc k) x q =
    let a = read_ok (declared_item p (entries_of (slice_get ns n)) i) (λ d. steps.on_ok (declared_items p ns (suc n) is) (λ ds. Ok (d ∷ ds))) ds e in
    let b = read_ok (declared_items p ns (suc n) is) (λ ds. Ok (a.0 ∷ ds)) ds a.2 in
    let r = declared_at p ns (suc n) is b.0 b.1 k x q in
    (r.0, r.1, r.2, ap (λ (l : List Decl). slice_get (declarations l) (suc k)) (sym (read_same (a.0 ∷ b.0) ds b.2)) ∙ r.3)

struct_declares : (p : ProgramTree) (es : List NodeNames) (s : Span) (x : _) (d : Decl) → declared_item p es (plain.struct_item s x) ≡ Ok d → (c : Bool) × (l : ℕ) × (fs : _) × (plain-Decl d ≡ types.struct_declared c l fs)
struct_declares p es s x d e =
    let a = read_ok (fields_of p x.fields (begins es 0)) (λ r. steps.on_ok (all_used 0 x.lifetimes r.1.lifetimes) (λ _. Ok (decl.Struct (derives_copy x.derives) (number (length x.lifetimes)) [] r.0))) d e in
    let b = read_ok (all_used 0 x.lifetimes a.0.1.lifetimes) (λ _. Ok (decl.Struct (derives_copy x.derives) (number (length x.lifetimes)) [] a.0.0)) d a.2 in
    (derives_copy x.derives, number (length x.lifetimes), map plain-FieldDecl a.0.0, ap plain-Decl (sym (read_same (decl.Struct (derives_copy x.derives) (number (length x.lifetimes)) [] a.0.0) d b.2)))

variants_length : (p : ProgramTree) (vs : List VariantOf) (r : Reading) (x : List VariantDecl × Reading) → items.variants_of p vs r ≡ Ok x → length x.0 ≡ length vs
variants_length p [] r x e = ap (λ (z : List VariantDecl × Reading). length z.0) (sym (read_same ([], r) x e))
variants_length p (v ∷ vs) r x e =
    let a = read_ok (variant_of p v r) (λ q. steps.on_ok (items.variants_of p vs q.1) (λ z. Ok (q.0 ∷ z.0, z.1))) x e in
    let b = read_ok (items.variants_of p vs a.0.1) (λ z. Ok (a.0.0 ∷ z.0, z.1)) x a.2 in
    ap (λ (z : List VariantDecl × Reading). length z.0) (sym (read_same (a.0.0 ∷ b.0.0, b.0.1) x b.2)) ∙ ap suc (variants_length p vs a.0.1 b.0 b.1)

enum_declares : (p : ProgramTree) (es : List NodeNames) (s : Span) (x : _) (d : Decl) → declared_item p es (plain.enum_item s x) ≡ Ok d
    → (c : Bool) × (l : ℕ) × (vs : List types.VariantDeclared) × (plain-Decl d ≡ types.enum_declared c l vs) × (length vs ≡ length x.variants)
enum_declares p es s x d e =
    let a = read_ok (items.variants_of p x.variants (begins es 0)) (λ r. steps.on_ok (all_used 0 x.lifetimes r.1.lifetimes) (λ _. Ok (decl.Enum (derives_copy x.derives) (number (length x.lifetimes)) [] r.0))) d e in
    let b = read_ok (all_used 0 x.lifetimes a.0.1.lifetimes) (λ _. Ok (decl.Enum (derives_copy x.derives) (number (length x.lifetimes)) [] a.0.0)) d a.2 in (
      derives_copy x.derives,
      number (length x.lifetimes),
      map plain-VariantDecl a.0.0,
      ap plain-Decl (sym (read_same (decl.Enum (derives_copy x.derives) (number (length x.lifetimes)) [] a.0.0) d b.2)),
      length-map a.0.0 plain-VariantDecl ∙ variants_length p x.variants (begins es 0) a.0 a.1,
    )

-- ---- numbers of variants

abbrev AllBelow : ℕ → DeclaredNames → Type 0
AllBelow k [] = Unit {0}
AllBelow k (d ∷ ds) = (d.1.number < k) × AllBelow k ds

below_last : (k : ℕ) (ds : DeclaredNames) (x : List ℕ) (d : NumberedName) → AllBelow k ds → d.number < k → AllBelow k (ds ++ (x, d) ∷ [])
below_last k [] x d h l = (l, tt)
below_last k (c ∷ ds) x d h l = (h.0, below_last k ds x d h.1 l)

kept_below : (k : ℕ) (ds : DeclaredNames) (x : Ident) (n : ℕ) (o : Option NumberedName) → AllBelow k ds → n < k → AllBelow k (kept ds x n o)
kept_below k ds x n None h l = below_last k ds x.name (record { number = number n; span = x.span }) h (omega (arith, l))
kept_below k ds x n (Some d) h l = h

firsts_below : (k : ℕ) (ds : DeclaredNames) (n : ℕ) (xs : List Ident) → AllBelow k ds → n + length xs ≤ k → AllBelow k (firsts ds n xs)
firsts_below k ds n [] h l = h
firsts_below k ds n (x ∷ xs) h l = firsts_below k (kept ds x n (declared_as ds x.name)) (suc n) xs (kept_below k ds x n (declared_as ds x.name) h (omega (arith, l))) (omega (arith, l))

named_below : (k : ℕ) (ds : DeclaredNames) (x : List ℕ) (j : ℕ) → AllBelow k ds → number_in ds x ≡ Some j → j < k
named_below k [] x j h e = absurd (cc)
named_below k (d ∷ ds) x j h e = by (bytes_eq x d.0) e (λ g. named_below k ds x j h.1 g)
  where
    by : (b : Bool) → option_map (λ (z : NumberedName). z.number) (if b then Some d.1 else declared_as ds x) ≡ Some j → (number_in ds x ≡ Some j → j < k) → j < k
    by true e f = let q : d.1.number ≡ j = cc in let l = h.0 in omega (arith, q, l)
    by false e f = f e

get_below : {A : Type 0} (l : List A) (j : ℕ) → j < length l → (a : A) × (slice_get l j ≡ Some a)
get_below [] j h = absurd (omega (arith, h))
get_below (a ∷ l) zero h = (a, refl)
get_below (a ∷ l) (suc j) h = get_below l j (omega (arith, h))

-- ---- the whole

pub sees : (I : Inside) (ns : List ItemNames) (ds : List Decl) → declared_items I.program ns 0 I.program ≡ Ok ds → Sees (declarations ds) I
sees I ns ds e = record { structs = λ x n q. of_struct x n q; variants = λ a v ks q. of_variant a v ks q }
  where
    of_struct : (x : Ident) (n : ℕ) → struct_in I x ≡ Ok n → IsStruct (declarations ds) n
    of_struct x n q =
        let o = struct_found (item_named type_name 0 I.program x.name) n (known_some (as_struct (item_named type_name 0 I.program x.name)) x.span n q) in
        let a = declared_at I.program ns 0 I.program ds e n (plain.struct_item o.0 o.1) (there I.program x.name n (plain.struct_item o.0 o.1) o.2) in
        let b = struct_declares I.program a.0 o.0 o.1 a.1 a.2 in
        (b.0, b.1, b.2, a.3 ∙ ap (λ z. Some z) b.3)

    of_enum : (a v : Ident) (n j : ℕ) → as_enum (item_named type_name 0 I.program a.name) ≡ Some n → number_in (variants_of (item_named type_name 0 I.program a.name)) v.name ≡ Some j → IsVariant (declarations ds) n j
    of_enum a v n j q r =
        let o = enum_found (item_named type_name 0 I.program a.name) n q in
        let b = declared_at I.program ns 0 I.program ds e n (plain.enum_item o.0 o.1) (there I.program a.name n (plain.enum_item o.0 o.1) o.2) in
        let c = enum_declares I.program b.0 o.0 o.1 b.1 b.2 in
        let names = map (λ (w : VariantOf). w.name) o.1.variants in
        let k = length o.1.variants in
        let few : length names ≡ k = length-map o.1.variants (λ (w : VariantOf). w.name) in
        let l = named_below k (firsts [] 0 names) v.name j (firsts_below k [] 0 names tt (omega (arith, few))) (subst (λ (z : Option (ℕ × ItemTree)). number_in (variants_of z) v.name ≡ Some j) o.2 r) in
        let s = c.4 in
        let d = get_below c.2 j (omega (arith, l, s)) in
        (c.0, c.1, c.2, d.0, b.3 ∙ ap (λ z. Some z) c.3, d.1)

    of_variant : (a v : Ident) (ks : List ℕ) → variant_in I a v ≡ Ok ks → (n : ℕ) × (j : ℕ) × (ks ≡ n ∷ j ∷ []) × IsVariant (declarations ds) n j
    of_variant a v ks q =
        let o = item_named type_name 0 I.program a.name in
        let last = known (number_in (variants_of o) v.name) v.span in
        let x = named_ok (one (known (as_enum o) a.span)) (λ ns. naming.and_then (one last) (λ ms. Ok (ns ++ ms))) ks q in
        let y = named_ok (known (as_enum o) a.span) (λ n. Ok (n ∷ [])) x.0 x.1 in
        let z = named_ok (one last) (λ ms. Ok (x.0 ++ ms)) ks x.2 in
        let w = named_ok last (λ n. Ok (n ∷ [])) z.0 z.1 in
        let same_list : ks ≡ y.0 ∷ w.0 ∷ [] = sym (the_same (x.0 ++ z.0) ks z.2) ∙ ap (λ (l : List ℕ). l ++ z.0) (sym (the_same (y.0 ∷ []) x.0 y.2)) ∙ ap (λ (l : List ℕ). y.0 ∷ l) (sym (the_same (w.0 ∷ []) z.0 w.2)) in
        (y.0, w.0, same_list, of_enum a v y.0 w.0 (known_some (as_enum o) a.span y.0 y.1) (known_some (number_in (variants_of o) v.name) v.span w.0 w.1))
