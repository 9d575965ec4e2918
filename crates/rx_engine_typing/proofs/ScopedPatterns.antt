-- Types and patterns whose names have a meaning: numbering takes what resolving adds of them, and the variables of a pattern are numbered
-- one after another.
use Rattle.std.proofs.Common.{◌≡◌, ℕ, zero, suc, ◌+◌, Bool, false, List, [], ◌∷◌, ◌++◌, length, Option, Some, None, Ok, refl, sym, ap, ◌∙◌, subst, append-nil, append_assoc, arith}
use Rattle.rx_core.specs.declared.types.Span.{Span}
use Rattle.rx_tree.specs.declared.tree.Ident.{Ident}
use Rattle.rx_tree.specs.Plain as plain
use Rattle.rx_tree.specs.Plain.{TypeTree, TypeTrees, PatternTree, PatternTrees, FieldPatterns}
use Rattle.rx_resolve_names.specs.declared.table.NumberedName.{NumberedName}
use Rattle.rx_resolve_names.specs.Scopes.{DeclaredNames, declared_as}
use Rattle.rx_resolve_names.specs.declared.resolved.ItemNames.{ItemNames}
use Rattle.rx_resolve_names.specs.Meant.{number, number_in, item_named, type_name, as_enum, variants_of}
use Rattle.rx_resolve_names.specs.Steps.{Outcome, and_then, Naming, Inside, known, one, both, declare, declared_behind, child, next, with_variable, with_names, entry, numbered, names}
use Rattle.rx_resolve_names.specs.Names.{lifetime_in, lifetimes_in, type_in, written, in_lifetime, in_type, in_types, in_optional_type, variant_in, struct_in, Bound, Binding, binds, also, in_order, in_pattern, in_patterns, in_field_patterns}
use Rattle.rx_typed.specs.declared.nodes.Node.{Node}
use Rattle.rx_typed.specs.declared.nodes.Site.{Site}
use Rattle.rx_typed.specs.declared.nodes.Stage.{Stage}
use Rattle.rx_typed.specs.Named as named
use Rattle.rx_typed.specs.Naming as numbering
use Rattle.rx_typed.specs.Naming.{Numbering, an_entry, first, second, of_type, of_types, of_optional_type, of_pattern, of_patterns, of_field_patterns}
use Rattle.rx_typed.specs.Elaborated.{variables, variables_in, variables_in_fields}
use Rattle.rx_engine_typing.proofs.Steps.{named_ok, the_same, one_more, Takes, takes_then, takes_give, takes_map, takes_node, takes_made, takes_entry, takes_declare, takes_weaker, IsEntry, Part, in_turn, restated, unchanged, entry_part, grows_not}

abbrev pub Any : {A : Type 0} → A → Type 0
Any a = Unit {0}

-- an entry of one name
pub record One (t t' : ItemNames) (r : Outcome ℕ) : Type 0 where
  pub first : ℕ
  pub found : r ≡ Ok first
  pub part : Part t t' (λ es. Takes (IsEntry (first ∷ []) false) t t' es an_entry)

pub one_part : (I : Inside) (at : List ℕ) (t t' : ItemNames) (r : Outcome ℕ) → names I at (one r) t ≡ Ok t' → One t t' r
one_part I at t t' r e =
    let a = named_ok (one r) (λ ns. numbered I at ns t) t' e in
    let b = named_ok r (λ n. Ok (n ∷ [])) a.0 a.1 in
    record { first = b.0; found = b.1; part = entry_part I at t t' b.0 [] (one r) (ap one b.1) e }

pub any_entry : {t t' : ItemNames} {ns : List ℕ} → Part t t' (λ es. Takes (IsEntry ns false) t t' es an_entry) → Part t t' (λ es. Takes (λ (a : List ℕ × Bool). Unit {0}) t t' es an_entry)
any_entry p = restated p (λ es k. takes_weaker k (λ a h. tt))

-- two numbers, of an enum and its variant
pub variant_part : (I : Inside) (at : List ℕ) (a v : Ident) (t t' : ItemNames) → names I at (variant_in I a v) t ≡ Ok t' → Part t t' (λ es. Takes (λ (a : List ℕ × Bool). Unit {0}) t t' es an_entry)
variant_part I at a v t t' e =
    let x = named_ok (variant_in I a v) (λ ns. numbered I at ns t) t' e in
    let i = item_named type_name 0 I.program a.name in
    let enums = one (known (as_enum i) a.span) in let cases = one (known (number_in (variants_of i) v.name) v.span) in
    let y = named_ok enums (λ ns. and_then cases (λ ms. Ok (ns ++ ms))) x.0 x.1 in
    let z = named_ok (known (as_enum i) a.span) (λ n. Ok (n ∷ [])) y.0 y.1 in
    let w = named_ok cases (λ ms. Ok (y.0 ++ ms)) x.0 y.2 in
    let same : x.0 ≡ z.0 ∷ w.0 = sym (the_same (y.0 ++ w.0) x.0 w.2) ∙ ap (λ (l : List ℕ). l ++ w.0) (sym (the_same (z.0 ∷ []) y.0 z.2)) in
    any_entry (entry_part I at t t' z.0 w.0 (variant_in I a v) (x.1 ∙ ap (λ (l : List ℕ). Ok l) same) e)

module _ (I : Inside) where
  -- ---- types

  lifetime_taken : (at : List ℕ) (l : Option Ident) (t t' : ItemNames) → in_lifetime I at l t ≡ Ok t' → Part t t' (λ es. Takes (λ (a : List ℕ × Bool). Unit {0}) t t' es (numbering.lifetime_entry l))
  lifetime_taken at None t t' e = unchanged t t' (λ v es. Takes (λ (a : List ℕ × Bool). Unit {0}) t v es (numbering.lifetime_entry None)) e (takes_give numbering.no_names tt)
  lifetime_taken at (Some l) t t' e = any_entry (one_part I at t t' (lifetime_in I l) e).part

  mutual
    pub type_taken : (at : List ℕ) (y : TypeTree) (t t' : ItemNames) → in_type I at y t ≡ Ok t' → Part t t' (λ es. Takes (λ (a : named.Written). Unit {0}) t t' es (of_type y))
    type_taken at (plain.kind_type s k) t t' e = unchanged t t' (λ v es. Takes (λ (a : named.Written). Unit {0}) t v es (of_type (plain.kind_type s k))) e (takes_made s Site.Value (λ n. named.a_kind n k) (λ n q. tt))
    type_taken at (plain.bool_type s) t t' e = unchanged t t' (λ v es. Takes (λ (a : named.Written). Unit {0}) t v es (of_type (plain.bool_type s))) e (takes_made s Site.Value named.a_bool (λ n q. tt))
    type_taken at (plain.tuple_type s ts) t t' e = restated (types_taken at 0 ts t t' e) (λ es k. takes_node s Site.Value (λ n q. takes_map (named.a_tuple n) k (λ a h. tt)))
    type_taken at (plain.ref_type s l b y) t t' e =
        let a = named_ok (in_lifetime I at l t) (in_type I (child at 0) y) t' e in
        in_turn (lifetime_taken at l t a.0 a.1) (type_taken (child at 0) y a.0 t' a.2)
        (λ es fs k h. takes_node s Site.Value (λ n q. takes_then k (λ c x. takes_map (named.a_reference n b) h (λ d x. tt))))
    type_taken at (plain.named_type s x ls) t t' e =
        let a = named_ok (both (one (type_in I x)) (lifetimes_in I (written ls))) (λ ns. numbered I at ns t) t' e in
        let b = named_ok (one (type_in I x)) (λ ns. and_then (lifetimes_in I (written ls)) (λ ms. Ok (ns ++ ms))) a.0 a.1 in
        let c = named_ok (type_in I x) (λ n. Ok (n ∷ [])) b.0 b.1 in
        let d = named_ok (lifetimes_in I (written ls)) (λ ms. Ok (b.0 ++ ms)) a.0 b.2 in
        let r : both (one (type_in I x)) (lifetimes_in I (written ls)) ≡ Ok (c.0 ∷ d.0) =
        ap (λ (o : Outcome ℕ). both (one o) (lifetimes_in I (written ls))) c.1 ∙ ap (λ (o : Outcome (List ℕ)). and_then o (λ ms. Ok (c.0 ∷ ms))) d.1 in
        restated (entry_part I at t t' c.0 d.0 (both (one (type_in I x)) (lifetimes_in I (written ls))) r e)
        (λ es k. takes_node s Site.Value (λ n q. takes_map (λ ns. named.an_item n (first ns.0) (numbering.lifetimes_written ls)) k (λ v h. tt)))

    pub types_taken : (at : List ℕ) (i : ℕ) (ys : TypeTrees) (t t' : ItemNames) → in_types I at i ys t ≡ Ok t' → Part t t' (λ es. Takes (λ (a : named.WrittenTypes). Unit {0}) t t' es (of_types ys))
    types_taken at i plain.no_type t t' e = unchanged t t' (λ v es. Takes (λ (a : named.WrittenTypes). Unit {0}) t v es (of_types plain.no_type)) e (takes_give named.no_written tt)
    types_taken at i (plain.type_and y ys) t t' e =
        let a = named_ok (in_type I (child at i) y t) (in_types I at (next i) ys) t' e in
        in_turn (type_taken (child at i) y t a.0 a.1) (types_taken at (next i) ys a.0 t' a.2)
        (λ es fs k h. takes_then k (λ c x. takes_map (named.written_and c) h (λ d z. tt)))

  pub optional_type_taken : (at : List ℕ) (y : Option TypeTree) (t t' : ItemNames) → in_optional_type I at y t ≡ Ok t' → Part t t' (λ es. Takes (λ (a : Option named.Written). Unit {0}) t t' es (of_optional_type y))
  optional_type_taken at None t t' e = unchanged t t' (λ v es. Takes (λ (a : Option named.Written). Unit {0}) t v es (of_optional_type None)) e (takes_give None tt)
  optional_type_taken at (Some y) t t' e = restated (type_taken at y t t' e) (λ es k. takes_map (λ z. Some z) k (λ a h. tt))

-- ---- numbers one after another

abbrev pub from_number : ℕ → ℕ → List ℕ
from_number n zero = []
from_number n (suc k) = n ∷ from_number (suc n) k

-- the names of a pattern have these numbers, as they are kept
abbrev pub Numbered : DeclaredNames → List ℕ → Type 0
Numbered [] [] = Unit {0}
Numbered (d ∷ ds) (n ∷ ns) = (d.1.number ≡ number n) × Numbered ds ns
Numbered _ _ = ⊥

from_both : (n k l : ℕ) → from_number n k ++ from_number (n + k) l ≡ from_number n (k + l)
from_both n zero l = let h : n + 0 ≡ n = omega arith in let g : 0 + l ≡ l = omega arith in ap (λ m. from_number m l) h ∙ ap (from_number n) (sym g)
from_both n (suc k) l = let h : n + suc k ≡ suc n + k = omega arith in let g : suc k + l ≡ suc (k + l) = omega arith in
    ap (λ (z : List ℕ). n ∷ z) (ap (λ m. from_number (suc n) k ++ from_number m l) h ∙ from_both (suc n) k l) ∙ ap (from_number n) (sym g)

numbered_append : (ds es : DeclaredNames) (ns ms : List ℕ) → Numbered ds ns → Numbered es ms → Numbered (ds ++ es) (ns ++ ms)
numbered_append [] es [] ms h k = k
numbered_append [] es (n ∷ ns) ms h k = absurd h
numbered_append (d ∷ ds) es [] ms h k = absurd h
numbered_append (d ∷ ds) es (n ∷ ns) ms h k = (h.0, numbered_append ds es ns ms h.1 k)

-- ---- patterns

-- the second has further names, numbered from the variables so far; numbering declares as many
pub record Binds {A : Type 0} (b b1 : Bound) (of : A → List ℕ) (m : Numbering A) : Type 0 where
  pub count : ℕ
  pub further : DeclaredNames
  pub names : b1.bindings ≡ b.bindings ++ further
  pub numbers : Numbered further (from_number (length b.tables.vars) count)
  pub vars : length b1.tables.vars ≡ length b.tables.vars + count
  pub loops : length b1.tables.loops ≡ length b.tables.loops
  pub part : Part b.tables b1.tables (λ es. Takes (λ a. of a ≡ from_number (length b.tables.vars) count) b.tables b1.tables es m)

nothing_bound : {A : Type 0} (b b1 : Bound) (of : A → List ℕ) (m : Numbering A) → also (λ t. Ok t) b ≡ Ok b1 → Takes (λ a. of a ≡ []) b.tables b.tables [] m → Binds b b1 of m
nothing_bound b b1 of m e k = subst (λ (v : Bound). Binds b v of m) (the_same b b1 e) (record {
  count = 0;
  further = [];
  names = sym (append-nil b.bindings);
  numbers = tt;
  vars = omega arith;
  loops = refl;
  part = record { added = []; grown = sym (append-nil b.tables.names); grows = grows_not b.tables; numbers = λ _. k };
})

-- one behind another
pub both_bound : {A B C : Type 0} {b b1 b2 : Bound} {of : A → List ℕ} {of' : B → List ℕ} {m : Numbering A} {m' : Numbering B} (whole : C → List ℕ) (f : A → B → C) → ((x : A) (y : B) → whole (f x y) ≡ of x ++ of' y)
    → Binds b b1 of m → Binds b1 b2 of' m' → Binds b b2 whole (numbering.and_then m (λ x. numbering.and_then m' (λ y. numbering.give (f x y))))
both_bound {b = b} {b1 = b1} {b2 = b2} {of' = of'} whole f w x y =
    let v = x.vars in let u = y.vars in
    let at : from_number (length b1.tables.vars) y.count ≡ from_number (length b.tables.vars + x.count) y.count = ap (λ n. from_number n y.count) v in
    let all : from_number (length b.tables.vars) x.count ++ from_number (length b1.tables.vars) y.count ≡ from_number (length b.tables.vars) (x.count + y.count) =
    ap (λ (z : List ℕ). from_number (length b.tables.vars) x.count ++ z) at ∙ from_both (length b.tables.vars) x.count y.count in record {
      count = x.count + y.count;
      further = x.further ++ y.further;
      names = y.names ∙ ap (λ (z : DeclaredNames). z ++ y.further) x.names ∙ append_assoc b.bindings x.further y.further;
      numbers = subst (λ (z : List ℕ). Numbered (x.further ++ y.further) z) all (numbered_append x.further y.further _ _ x.numbers y.numbers);
      vars = omega (arith, v, u);
      loops = y.loops ∙ x.loops;
      part = in_turn x.part y.part (λ es fs k l. takes_then k (λ a h. takes_map (f a) l (λ c g. w a c ∙ ap (λ (z : List ℕ). z ++ of' c) h ∙ ap (λ (z : List ℕ). from_number (length b.tables.vars) x.count ++ z) g ∙ all)));
    }

-- a name adds no variable and no loop
pub names_still : (I : Inside) (at : List ℕ) (r : Outcome (List ℕ)) (t t' : ItemNames) → names I at r t ≡ Ok t' → (length t'.vars ≡ length t.vars) × (length t'.loops ≡ length t.loops)
names_still I at r t t' e = let x = named_ok r (λ ns. numbered I at ns t) t' e in go x.0 x.2
  where
    go : (ns : List ℕ) → numbered I at ns t ≡ Ok t' → (length t'.vars ≡ length t.vars) × (length t'.loops ≡ length t.loops)
    go [] e = let s = the_same t t' e in (ap (λ (v : ItemNames). length v.vars) (sym s), ap (λ (v : ItemNames). length v.loops) (sym s))
    go (n ∷ ns) e = let s = the_same (with_names (entry I at (n ∷ ns)) t) t' e in (ap (λ (v : ItemNames). length v.vars) (sym s), ap (λ (v : ItemNames). length v.loops) (sym s))

-- names first, then what may bind
pub order_ok : (f : Naming) (g : Binding) (b b1 : Bound) → in_order (also f) g b ≡ Ok b1 → (t : ItemNames) × (f b.tables ≡ Ok t) × (g (record { bindings = b.bindings; tables = t }) ≡ Ok b1)
order_ok f g b b1 e =
    let to : ItemNames → Bound = λ t. record { bindings = b.bindings; tables = t } in
    let x = named_ok (also f b) g b1 e in let y = named_ok (f b.tables) (λ t. Ok (to t)) x.0 x.1 in
    (y.0, y.1, ap g (the_same (to y.0) x.0 y.2) ∙ x.2)

behind_names : {A B : Type 0} (s : Span) (b b1 : Bound) (t : ItemNames) (of : B → List ℕ) (of' : A → List ℕ) (m : Numbering A) (h : Node → (List ℕ × Bool) → A → B) → (length t.vars ≡ length b.tables.vars) × (length t.loops ≡ length b.tables.loops)
    → Part b.tables t (λ es. Takes (λ (a : List ℕ × Bool). Unit {0}) b.tables t es an_entry) → ((n : Node) (a : List ℕ × Bool) (x : A) → of (h n a x) ≡ of' x) → Binds (record { bindings = b.bindings; tables = t }) b1 of' m
    → Binds b b1 of (numbering.and_then (numbering.a_node s Site.Value) (λ n. numbering.and_then an_entry (λ a. numbering.and_then m (λ x. numbering.give (h n a x)))))
behind_names s b b1 t of of' m h still p w x =
    let v = x.vars in let u = still.0 in
    let at : from_number (length t.vars) x.count ≡ from_number (length b.tables.vars) x.count = ap (λ n. from_number n x.count) u in record {
      count = x.count;
      further = x.further;
      names = x.names;
      numbers = subst (λ (z : List ℕ). Numbered x.further z) at x.numbers;
      vars = omega (arith, v, u);
      loops = x.loops ∙ still.1;
      part = in_turn p x.part (λ es fs k l. takes_node s Site.Value (λ n q. takes_then k (λ a _. takes_map (h n a) l (λ y g. w n a y ∙ g ∙ at))));
    }

at_node : {A B : Type 0} {b b1 : Bound} {of' : A → List ℕ} {m : Numbering A} (of : B → List ℕ) (s : Span) (h : Node → A → B) → ((n : Node) (x : A) → of (h n x) ≡ of' x) → Binds b b1 of' m
    → Binds b b1 of (numbering.and_then (numbering.a_node s Site.Value) (λ n. numbering.and_then m (λ x. numbering.give (h n x))))
at_node of s h w x = record {
  count = x.count;
  further = x.further;
  names = x.names;
  numbers = x.numbers;
  vars = x.vars;
  loops = x.loops;
  part = restated x.part (λ es k. takes_node s Site.Value (λ n q. takes_map (h n) k (λ y g. w n y ∙ g)));
}

pub declared_further : (ds new : DeclaredNames) (x : Ident) (n : ℕ) (o : Option NumberedName) → declared_behind ds x n o ≡ Ok new → new ≡ ds ++ (x.name, record { number = number n; span = x.span }) ∷ []
declared_further ds new x n None e = sym (the_same _ _ e)
declared_further ds new x n (Some k) e = absurd (cc)

module _ (I : Inside) where
  bind_taken : (at : List ℕ) (s : Span) (x : Ident) (w : Bool) (b b1 : Bound) → binds I at x b ≡ Ok b1 → Binds b b1 variables (of_pattern (plain.bind s x w))
  bind_taken at s x w b b1 e =
      let n = length b.tables.vars in
      let X = entry I at (number n ∷ []) in
      let to : DeclaredNames → Bound = λ ds. record { bindings = ds; tables = with_names X (with_variable x.span b.tables) } in
      let d = named_ok (declare b.bindings x n) (λ ds. Ok (to ds)) b1 e in
      let m : length (to d.0).tables.vars ≡ suc n = one_more b.tables.vars x.span in
      let one : n + 1 ≡ suc n = omega arith in
      subst (λ (v : Bound). Binds b v variables (of_pattern (plain.bind s x w))) (the_same (to d.0) b1 d.2) (record {
        count = 1;
        further = (x.name, record { number = number n; span = x.span }) ∷ [];
        names = declared_further b.bindings d.0 x n (declared_as b.bindings x.name) d.1;
        numbers = (refl, tt);
        vars = m ∙ sym one;
        loops = refl;
        part = record {
          added = X ∷ [];
          grown = refl;
          grows = record { vars = omega (arith, m); loops = omega arith };
          numbers = λ _. takes_node s Site.Value (λ i q. takes_then (takes_entry X) (λ c r. takes_map (λ y. named.bind i y w)
              (takes_declare (with_names X b.tables) (to d.0).tables (record { mutable = w; stage = Stage.Given }) m refl) (λ y v. ap (λ (z : ℕ). z ∷ []) v)));
        };
      })

  mutual
    pub pattern_taken : (at : List ℕ) (p : PatternTree) (b b1 : Bound) → in_pattern I at p b ≡ Ok b1 → Binds b b1 variables (of_pattern p)
    pattern_taken at (plain.wild s) b b1 e = nothing_bound b b1 variables (of_pattern (plain.wild s)) e (takes_made s Site.Value named.wild (λ n q. refl))
    pattern_taken at (plain.bind s x w) b b1 e = bind_taken at s x w b b1 e
    pattern_taken at (plain.int_pattern s g v k) b b1 e = nothing_bound b b1 variables (of_pattern (plain.int_pattern s g v k)) e (takes_made s Site.Value (λ n. named.whole_number n g v k) (λ n q. refl))
    pattern_taken at (plain.bool_pattern s w) b b1 e = nothing_bound b b1 variables (of_pattern (plain.bool_pattern s w)) e (takes_made s Site.Value (λ n. named.truth n w) (λ n q. refl))
    pattern_taken at (plain.tuple_pattern s ps) b b1 e = at_node variables s named.tuple_pattern (λ n x. refl) (patterns_taken at 0 ps b b1 e)
    pattern_taken at (plain.variant_pattern s c v ps) b b1 e =
        let x = order_ok (names I at (variant_in I c v)) (in_patterns I at 0 ps) b b1 e in
        let B = patterns_taken at 0 ps (record { bindings = b.bindings; tables = x.0 }) b1 x.2 in
        behind_names s b b1 x.0 variables variables_in (of_patterns ps) (λ n y ps. named.variant_pattern n (first y.0) (second y.0) ps) (names_still I at (variant_in I c v) b.tables x.0 x.1) (variant_part I at c v b.tables x.0 x.1) (λ n a y. refl) B
    pattern_taken at (plain.make_pattern s x fs) b b1 e =
        let y = order_ok (names I at (one (struct_in I x))) (in_field_patterns I at 0 fs) b b1 e in
        let B = field_patterns_taken at 0 fs (record { bindings = b.bindings; tables = y.0 }) b1 y.2 in
        behind_names s b b1 y.0 variables variables_in_fields (of_field_patterns fs) (λ n y fs. named.struct_pattern n (first y.0) fs) (names_still I at (one (struct_in I x)) b.tables y.0 y.1) (any_entry (one_part I at b.tables y.0 (struct_in I x) y.1).part) (λ n a y. refl) B

    pub patterns_taken : (at : List ℕ) (i : ℕ) (ps : PatternTrees) (b b1 : Bound) → in_patterns I at i ps b ≡ Ok b1 → Binds b b1 variables_in (of_patterns ps)
    patterns_taken at i plain.no_pattern b b1 e = nothing_bound b b1 variables_in (of_patterns plain.no_pattern) e (takes_give named.no_pattern refl)
    patterns_taken at i (plain.pattern_and p ps) b b1 e =
        let x = named_ok (in_pattern I (child at i) p b) (in_patterns I at (next i) ps) b1 e in
        both_bound variables_in named.pattern_and (λ x y. refl) (pattern_taken (child at i) p b x.0 x.1) (patterns_taken at (next i) ps x.0 b1 x.2)

    pub field_patterns_taken : (at : List ℕ) (i : ℕ) (fs : FieldPatterns) (b b1 : Bound) → in_field_patterns I at i fs b ≡ Ok b1 → Binds b b1 variables_in_fields (of_field_patterns fs)
    field_patterns_taken at i plain.no_field_pattern b b1 e = nothing_bound b b1 variables_in_fields (of_field_patterns plain.no_field_pattern) e (takes_give named.no_field_pattern refl)
    field_patterns_taken at i (plain.field_pattern_and y p fs) b b1 e =
        let x = named_ok (in_pattern I (child at i) p b) (in_field_patterns I at (next i) fs) b1 e in
        both_bound variables_in_fields (named.field_pattern_and y.name) (λ x y. refl) (pattern_taken (child at i) p b x.0 x.1) (field_patterns_taken at (next i) fs x.0 b1 x.2)
