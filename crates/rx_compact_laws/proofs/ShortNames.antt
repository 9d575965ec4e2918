-- The names of a program with a short signature have a meaning: item by item.
use Rattle.std.proofs.Common.{◌≡◌, ℕ, zero, suc, ◌+◌, Bool, List, [], ◌∷◌, ◌++◌, length, map, Option, Some, Ok, refl, sym, ap, ap₂, subst, ◌∙◌, arith, slice_get}
use Rattle.rx_core.specs.declared.types.Span.{Span}
use Rattle.rx_tree.specs.declared.tree.Ident.{Ident}
use Rattle.rx_tree.specs.Plain as plain
use Rattle.rx_tree.specs.Plain.{TypeTree, TypeTrees, Function, FieldOf, VariantOf, ItemTree, ProgramTree}
use Rattle.rx_graph_cycles.specs.Reaches.{NoCycle}
use Rattle.rx_resolve_names.specs.declared.resolved.ItemNames.{ItemNames}
use Rattle.rx_resolve_names.specs.Scopes.{entered}
use Rattle.rx_resolve_names.specs.Meant.{number, type_name, function_name, lifetimes_declared}
use Rattle.rx_resolve_names.specs.Steps.{and_then, child, numbered}
use Rattle.rx_resolve_names.specs.Names.{in_optional_type, in_block}
use Rattle.rx_resolve_names.specs.Items.{lifetimes_of, in_parameters, numbers_from, body_at, in_item, in_items, Lists, declared_in, apart}
use Rattle.rx_resolve_names.specs.Holding.{if_found, held_in, held_among, held_by_fields, held_by_variants, held_by}
use Rattle.rx_resolve_names.specs.Causes.{Meant}
use Rattle.rx_compact_lifetimes.specs.Merged.{merged, mergings_of}
use Rattle.rx_compact_lifetimes.specs.Elided.{elisions, in_body}
use Rattle.rx_compact.specs.Compacted.{compacted_function, compacted_item, compacted}
use Rattle.rx_compact_laws.specs.Alongside.{SameItems}
use Rattle.rx_compact_laws.specs.Resolved.{inside, StaysNumbered}
use Rattle.rx_compact_laws.specs.ShortNames.{NumberedAlike, NamesStay}
use Rattle.rx_compact_laws.proofs.Resolving.{read_ok, ok_is}
use Rattle.rx_compact_laws.proofs.Staying.{stays}
use Rattle.rx_compact_laws.proofs.SameNames.{then_same, then_more, item_same}
use Rattle.rx_compact_laws.proofs.Elsewhere.{merged_elsewhere, elided_elsewhere}
use Rattle.rx_compact_laws.proofs.Keeping.{same_items}

-- ---- a function

pub own_items : (q : ProgramTree) → SameItems q q
own_items q = record { types = λ x. refl; structs = λ x. refl; enums = λ x. refl; variants = λ x v. refl; rt = λ x. refl; functions = λ x. refl }

-- where a function resolves, its list of lifetimes has a meaning
pub list_of : (p : ProgramTree) (n : ℕ) (s : Span) (f : Function) (a : ItemNames) → in_item p n (plain.function_item s f) ≡ Ok a → (ns : List ℕ) × (lifetimes_of (inside p n s f) [] 0 f.lifetimes ≡ Ok ns)
list_of p n s f a e =
    let I = inside p n s f in
    let places : List Span = map (λ (l : Ident). l.span) (lifetimes_declared (plain.function_item s f)) in
    let m = read_ok (lifetimes_of I [] 0 f.lifetimes) (λ ns. and_then (numbered I [] (ns ++ numbers_from 0 f.params) (record { vars = []; lifetimes = places; loops = []; names = [] })) (λ t. and_then (in_parameters I [] 0 f.params (record { bindings = []; tables = t })) (λ b.
    and_then (in_optional_type I (child [] (number (length f.params))) f.result b.tables) (in_block I (entered [] b.bindings) [] (child [] (body_at (number (length f.params)) f.result)) f.body)))) a e in
    (m.0, m.1)

module _ (o : ℕ → ℕ → Bool) (single : Bool) (p q : ProgramTree) (same : SameItems p q) where
  abbrev short : Function → Function
  short f = compacted_function o single f

  record Stays (n : ℕ) (s : Span) (f : Function) (a : ItemNames) : Type 0 where
    tables : ItemNames
    resolves : in_item q n (plain.function_item s (short f)) ≡ Ok tables
    alike : NumberedAlike n s f (short f) a tables

  function_stays : (n : ℕ) (s : Span) (f : Function) (a : ItemNames) → in_item p n (plain.function_item s f) ≡ Ok a → Stays n s f a
  function_stays n s f a e =
      let ls = list_of p n s f a e in
      let x : StaysNumbered (mergings_of o f) p q n s f (merged o f) a = stays (mergings_of o f) (mergings_of o f) p q n s f (merged o f) (merged_elsewhere o p q n s f same ls.0 ls.1) a e in
      let ks = list_of q n s (merged o f) x.tables x.resolves in
      let rs = elisions single (in_body (merged o f).body) (merged o f) in
      let y : StaysNumbered rs q q n s (merged o f) (short f) x.tables =
      stays rs rs q q n s (merged o f) (short f) (elided_elsewhere single q q n s (merged o f) (own_items q) ks.0 ks.1) x.tables x.resolves in
      record {
        tables = y.tables;
        resolves = y.resolves;
        alike = record { vars = y.vars ∙ x.vars; tree = y.tree ∙ x.tree; spans = y.spans ∙ x.spans; variables = y.variables ∙ x.variables };
      }

  -- ---- items

  abbrev Alike : ℕ → ItemTree → ItemNames → ItemNames → Type 0
  Alike n (plain.function_item s f) u v = NumberedAlike n s f (short f) u v
  Alike n _ u v = Unit {0}

  item_stays : (n : ℕ) (x : ItemTree) (u : ItemNames) → in_item p n x ≡ Ok u → (v : ItemNames) × (in_item q n (compacted_item o single x) ≡ Ok v) × Alike n x u v
  item_stays n (plain.function_item s f) u e = let r = function_stays n s f u e in (r.tables, r.resolves, r.alike)
  item_stays n (plain.rt_item s r) u e = (u, item_same p q same n (plain.rt_item s r) ∙ e, tt)
  item_stays n (plain.struct_item s d) u e = (u, item_same p q same n (plain.struct_item s d) ∙ e, tt)
  item_stays n (plain.enum_item s d) u e = (u, item_same p q same n (plain.enum_item s d) ∙ e, tt)

  items_same : (n : ℕ) (xs : ProgramTree) → in_items q n xs ≡ in_items p n xs
  items_same n [] = refl
  items_same n (x ∷ xs) = then_same (item_same p q same n x) (λ u. then_same (items_same (suc n) xs) (λ us. refl))

  -- of items from number n on; the function has number m among them, and number j
  record Done (n : ℕ) (xs : ProgramTree) (m j : ℕ) (us : List ItemNames) : Type 0 where
    news : List ItemNames
    is : in_items q n (compacted o single xs m) ≡ Ok news
    others : (k : ℕ) → (k ≡ m → ⊥) → slice_get news k ≡ slice_get us k
    this : (x : ItemTree) → slice_get xs m ≡ Some x → (u : ItemNames) × (v : ItemNames) × (slice_get us m ≡ Some u) × (slice_get news m ≡ Some v) × Alike j x u v

  some_item : (x y : ItemTree) → ◌≡◌ {A = Option ItemTree} (Some x) (Some y) → x ≡ y
  some_item x y e = cc

  done : (xs : ProgramTree) (n m j : ℕ) → j ≡ n + m → (us : List ItemNames) → in_items p n xs ≡ Ok us → Done n xs m j us
  done [] n m j w us e = record {
    news = [];
    is = refl;
    others = λ k h. ap (λ us. slice_get us k) (ok_is [] us e);
    this = λ x h. absurd (cc);
  }
  done (x ∷ xs) n zero j w us e =
      let a = read_ok (in_item p n x) (λ u. and_then (in_items p (suc n) xs) (λ us. Ok (u ∷ us))) us e in
      let b = read_ok (in_items p (suc n) xs) (λ us. Ok (a.0 ∷ us)) us a.2 in
      let c = item_stays n x a.0 a.1 in
      let t : a.0 ∷ b.0 ≡ us = ok_is (a.0 ∷ b.0) us b.2 in
      let f : n ≡ j = omega (arith, w) in
      record {
        news = c.0 ∷ b.0;
        is = ap (λ r. and_then r (λ u. and_then (in_items q (suc n) xs) (λ us. Ok (u ∷ us)))) c.1 ∙ ap (λ r. and_then r (λ us. Ok (c.0 ∷ us))) (items_same (suc n) xs ∙ b.1);
        others = λ k h. other k h c.0 a.0 b.0 ∙ ap (λ us. slice_get us k) t;
        this = λ y h. (a.0, c.0, sym (ap (λ us. slice_get us 0) t), refl, subst (λ y. Alike j y a.0 c.0) (some_item x y h) (subst (λ j. Alike j x a.0 c.0) f c.2));
      }
    where
      other : (k : ℕ) → (k ≡ 0 → ⊥) → (v u : ItemNames) (us : List ItemNames) → slice_get (v ∷ us) k ≡ slice_get (u ∷ us) k
      other zero h v u us = absurd (h refl)
      other (suc k) h v u us = refl
  done (x ∷ xs) n (suc m) j w us e =
      let a = read_ok (in_item p n x) (λ u. and_then (in_items p (suc n) xs) (λ us. Ok (u ∷ us))) us e in
      let b = read_ok (in_items p (suc n) xs) (λ us. Ok (a.0 ∷ us)) us a.2 in
      let c = done xs (suc n) m j (omega (arith, w)) b.0 b.1 in
      let t : a.0 ∷ b.0 ≡ us = ok_is (a.0 ∷ b.0) us b.2 in
      record {
        news = a.0 ∷ c.news;
        is = ap (λ r. and_then r (λ u. and_then (in_items q (suc n) (compacted o single xs m)) (λ us. Ok (u ∷ us)))) (item_same p q same n x ∙ a.1) ∙ ap (λ r. and_then r (λ us. Ok (a.0 ∷ us))) c.is;
        others = λ k h. other k h a.0 c.news b.0 c.others ∙ ap (λ us. slice_get us k) t;
        this = λ y h. let r = c.this y h in (r.0, r.1, sym (ap (λ us. slice_get us (suc m)) t) ∙ r.2, r.3, r.4);
      }
    where
      other : (k : ℕ) → (k ≡ suc m → ⊥) → (u : ItemNames) (vs us : List ItemNames) → ((k : ℕ) → (k ≡ m → ⊥) → slice_get vs k ≡ slice_get us k)
          → slice_get (u ∷ vs) k ≡ slice_get (u ∷ us) k
      other zero h u vs us g = refl
      other (suc k) h u vs us g = g k (λ e. h (ap suc e))

  -- ---- no name twice, and no struct or enum in itself

  type_name_same : (x : ItemTree) → type_name (compacted_item o single x) ≡ type_name x
  type_name_same (plain.function_item s f) = refl
  type_name_same (plain.rt_item s r) = refl
  type_name_same (plain.struct_item s d) = refl
  type_name_same (plain.enum_item s d) = refl

  function_name_same : (x : ItemTree) → function_name (compacted_item o single x) ≡ function_name x
  function_name_same (plain.function_item s f) = refl
  function_name_same (plain.rt_item s r) = refl
  function_name_same (plain.struct_item s d) = refl
  function_name_same (plain.enum_item s d) = refl

  apart_same : (l : Lists) (n : ℕ) (xs : ProgramTree) (m : ℕ) → apart l n (compacted o single xs m) ≡ apart l n xs
  apart_same l n [] m = refl
  apart_same l n (x ∷ xs) zero = ap₂ (λ a c. and_then (declared_in l.types n a) (λ ts. and_then (declared_in l.functions n c) (λ fs. apart (record { types = ts; functions = fs }) (suc n) xs)))
      (type_name_same x) (function_name_same x)
  apart_same l n (x ∷ xs) (suc m) = then_more (declared_in l.types n (type_name x)) (λ ts. then_more (declared_in l.functions n (function_name x)) (λ fs. apart_same (record { types = ts; functions = fs }) (suc n) xs m))

  mutual
    held_same : (t : TypeTree) → held_in q t ≡ held_in p t
    held_same (plain.kind_type s k) = refl
    held_same (plain.bool_type s) = refl
    held_same (plain.tuple_type s ts) = all_held_same ts
    held_same (plain.ref_type s l m t) = held_same t
    held_same (plain.named_type s x ls) = ap if_found (same.types x.name)

    all_held_same : (ts : TypeTrees) → held_among q ts ≡ held_among p ts
    all_held_same plain.no_type = refl
    all_held_same (plain.type_and t ts) = ap₂ (λ a b. a ++ b) (held_same t) (all_held_same ts)

  fields_held : (fs : List FieldOf) → held_by_fields q fs ≡ held_by_fields p fs
  fields_held [] = refl
  fields_held (f ∷ fs) = ap₂ (λ a b. a ++ b) (held_same f.typ) (fields_held fs)

  variants_held : (vs : List VariantOf) → held_by_variants q vs ≡ held_by_variants p vs
  variants_held [] = refl
  variants_held (v ∷ vs) = ap₂ (λ a b. a ++ b) (all_held_same v.types) (variants_held vs)

  item_held : (x : ItemTree) → held_by q x ≡ held_by p x
  item_held (plain.function_item s f) = refl
  item_held (plain.rt_item s r) = refl
  item_held (plain.struct_item s d) = fields_held d.fields
  item_held (plain.enum_item s d) = variants_held d.variants

  short_held : (x : ItemTree) → held_by q (compacted_item o single x) ≡ held_by p x
  short_held (plain.function_item s f) = refl
  short_held (plain.rt_item s r) = refl
  short_held (plain.struct_item s d) = fields_held d.fields
  short_held (plain.enum_item s d) = variants_held d.variants

  items_held : (xs : ProgramTree) → map (held_by q) xs ≡ map (held_by p) xs
  items_held [] = refl
  items_held (x ∷ xs) = ap₂ (λ a b. a ∷ b) (item_held x) (items_held xs)

  all_held : (xs : ProgramTree) (m : ℕ) → map (held_by q) (compacted o single xs m) ≡ map (held_by p) xs
  all_held [] m = refl
  all_held (x ∷ xs) zero = ap₂ (λ a b. a ∷ b) (short_held x) (items_held xs)
  all_held (x ∷ xs) (suc m) = ap₂ (λ a b. a ∷ b) (item_held x) (all_held xs m)

pub names_stay : (o : ℕ → ℕ → Bool) (single : Bool) (p : ProgramTree) (i : ℕ) (names : List ItemNames) → Meant p names → NamesStay o single p i names
names_stay o single p i names w =
    let q = compacted o single p i in
    let same = same_items o single p i in
    let a = read_ok (apart (record { types = []; functions = [] }) 0 p) (λ _. in_items p 0 p) names w.names_are in
    let d = done o single p q same p 0 i i (omega arith) names a.2 in
    record {
      news = d.news;
      meant = record {
        names_are = ap (λ r. and_then r (λ _. in_items q 0 q)) (apart_same o single p q same (record { types = []; functions = [] }) 0 p i ∙ a.1) ∙ d.is;
        finite = subst NoCycle (sym (all_held o single p q same p i)) w.finite;
      };
      others = d.others;
      function = λ s f h. let r = d.this (plain.function_item s f) h in record { old = r.0; new = r.1; was = r.2; is = r.3; alike = r.4 };
    }
