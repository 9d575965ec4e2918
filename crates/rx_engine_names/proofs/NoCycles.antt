-- Structs and enums of an extraction reach themselves no more than those of the program: what an item holds there it held before, and
-- the enum of exits is held by none. By induction on types.
use Rattle.std.proofs.lemmas.Bool.{leb-true, leb-false}
use Rattle.std.proofs.Common.{◌≡◌, ℕ, zero, suc, ◌+◌, ◌≤◌, ◌<◌, arith, nat_le, Bool, true, false, if◌then◌else◌, List, [], ◌∷◌, ◌++◌, map, Option, Some, Ok, ◌⊎◌, inl, inr, refl, sym, ap, ◌∙◌, subst}
use Rattle.rx_tree.specs.Lists.{nth}
use Rattle.rx_tree.specs.declared.tree.Ident.{Ident}
use Rattle.rx_tree.specs.Plain as plain
use Rattle.rx_tree.specs.Plain.{TypeTree, TypeTrees, FieldOf, VariantOf, Function, ItemTree, ProgramTree}
use Rattle.rx_graph_cycles.specs.Reaches.{targets, IsIn, Reaches, edge, further, NoCycle}
use Rattle.rx_resolve_names.specs.Scopes.{DeclaredNames}
use Rattle.rx_resolve_names.specs.declared.resolved.ItemNames.{ItemNames}
use Rattle.rx_resolve_names.specs.Meant.{number, type_name, item_named, as_type, firsts, lifetimes_declared}
use Rattle.rx_resolve_names.specs.Steps.{and_then, Inside, one, both, declare, child, next, numbered}
use Rattle.rx_resolve_names.specs.Names.{type_in, lifetimes_in, written, in_lifetime, in_type, in_types, behind}
use Rattle.rx_resolve_names.specs.Items.{distinct, in_declared, in_variants, in_item, in_items}
use Rattle.rx_resolve_names.specs.Holding.{if_found, held_in, held_among, held_by_fields, held_by_variants, held_by}
use Rattle.rx_engine_names.specs.Insertion.{past}
use Rattle.rx_engine_names.proofs.SideBySide.{named_ok}
use Rattle.rx_engine_names.proofs.Fitting.{FitItems}
use Rattle.rx_engine_names.proofs.KeptItems.{known_some}

-- ---- what is held

pub in_one_of : (xs ys : List ℕ) (j : ℕ) → IsIn (xs ++ ys) j → IsIn xs j ⊎ IsIn ys j
in_one_of [] ys j h = inr h
in_one_of (x ∷ xs) ys j (inl e) = inl (inl e)
in_one_of (x ∷ xs) ys j (inr h) = by (in_one_of xs ys j h)
  where
    by : IsIn xs j ⊎ IsIn ys j → IsIn (x ∷ xs) j ⊎ IsIn ys j
    by (inl e) = inl (inr e)
    by (inr e) = inr e

in_left : (xs ys : List ℕ) (j : ℕ) → IsIn xs j → IsIn (xs ++ ys) j
in_left [] ys j h = absurd h
in_left (x ∷ xs) ys j (inl e) = inl e
in_left (x ∷ xs) ys j (inr h) = inr (in_left xs ys j h)

in_right : (xs ys : List ℕ) (j : ℕ) → IsIn ys j → IsIn (xs ++ ys) j
in_right [] ys j h = h
in_right (x ∷ xs) ys j h = inr (in_right xs ys j h)

-- each of the second is of the first, by another number
abbrev pub HeldBefore : (ℕ → ℕ) → List ℕ → List ℕ → Type 0
HeldBefore f ps qs = (j : ℕ) → IsIn qs j → (n : ℕ) × (j ≡ f n) × IsIn ps n

held_both : (f : ℕ → ℕ) (ps qs ps1 qs1 : List ℕ) → HeldBefore f ps qs → HeldBefore f ps1 qs1 → HeldBefore f (ps ++ ps1) (qs ++ qs1)
held_both f ps qs ps1 qs1 h k j i = by (in_one_of qs qs1 j i)
  where
    by : IsIn qs j ⊎ IsIn qs1 j → (n : ℕ) × (j ≡ f n) × IsIn (ps ++ ps1) n
    by (inl e) = let r = h j e in (r.0, r.1, in_left ps ps1 r.0 r.2)
    by (inr e) = let r = k j e in (r.0, r.1, in_right ps ps1 r.0 r.2)

module _ (f : ℕ → ℕ) (P Q : ProgramTree) (a b : ℕ) (ls ms : DeclaredNames) (F : FitItems f (record { program = P; item = a; lifetimes = ls }) (record { program = Q; item = b; lifetimes = ms })) where
  abbrev I : Inside
  I = record { program = P; item = a; lifetimes = ls }

  found_before : (x : Ident) (n : ℕ) → type_in I x ≡ Ok n → HeldBefore f (if_found (as_type (item_named type_name 0 P x.name))) (if_found (as_type (item_named type_name 0 Q x.name)))
  found_before x n e =
      let r = F.types x n e in
      let p = known_some (as_type (item_named type_name 0 P x.name)) x.span n e in
      let q = known_some (as_type (item_named type_name 0 Q x.name)) x.span r.0 r.1 in
      subst (λ (o : Option ℕ). HeldBefore f (if_found o) (if_found (as_type (item_named type_name 0 Q x.name)))) (sym p)
      (subst (λ (o : Option ℕ). HeldBefore f (if_found (Some n)) (if_found o)) (sym q) (λ j i. by j i r.2))
    where
      by : (j : ℕ) → {m : ℕ} → IsIn (m ∷ []) j → f n ≡ m → (k : ℕ) × (j ≡ f k) × IsIn (n ∷ []) k
      by j (inl same) g = (n, sym same ∙ sym g, inl refl)
      by j (inr h) g = absurd h

  mutual
    type_before : (at : List ℕ) (y : TypeTree) (t t' : ItemNames) → in_type I at y t ≡ Ok t' → HeldBefore f (held_in P y) (held_in Q y)
    type_before at (plain.kind_type s k) t t' e = λ j i. absurd i
    type_before at (plain.bool_type s) t t' e = λ j i. absurd i
    type_before at (plain.tuple_type s ts) t t' e = types_before at 0 ts t t' e
    type_before at (plain.ref_type s l m y) t t' e = let x = named_ok (in_lifetime I at l t) (in_type I (child at 0) y) t' e in type_before (child at 0) y x.0 t' x.2
    type_before at (plain.named_type s x ls) t t' e =
        let A = named_ok (both (one (type_in I x)) (lifetimes_in I (written ls))) (λ ns. numbered I at ns t) t' e in
        let B = named_ok (one (type_in I x)) (λ ns. and_then (lifetimes_in I (written ls)) (λ ms. Ok (ns ++ ms))) A.0 A.1 in
        let C = named_ok (type_in I x) (λ n. Ok (n ∷ [])) B.0 B.1 in found_before x C.0 C.1

    pub types_before : (at : List ℕ) (i : ℕ) (ys : TypeTrees) (t t' : ItemNames) → in_types I at i ys t ≡ Ok t' → HeldBefore f (held_among P ys) (held_among Q ys)
    types_before at i plain.no_type t t' e = λ j k. absurd k
    types_before at i (plain.type_and y ys) t t' e =
        let x = named_ok (in_type I (child at i) y t) (in_types I at (next i) ys) t' e in
        held_both f (held_in P y) (held_in Q y) (held_among P ys) (held_among Q ys) (type_before (child at i) y t x.0 x.1) (types_before at (next i) ys x.0 t' x.2)

  fields_before : (at : List ℕ) (ds : DeclaredNames) (i : ℕ) (xs : List FieldOf) (t t' : ItemNames) → in_declared I at ds i xs t ≡ Ok t' → HeldBefore f (held_by_fields P xs) (held_by_fields Q xs)
  fields_before at ds i [] t t' e = λ j k. absurd k
  fields_before at ds i (x ∷ xs) t t' e =
      let D = named_ok (declare ds x.name i) (λ ds. and_then (in_type I (child at i) x.typ t) (in_declared I at ds (next i) xs)) t' e in
      let A = named_ok (in_type I (child at i) x.typ t) (in_declared I at D.0 (next i) xs) t' D.2 in
      held_both f (held_in P x.typ) (held_in Q x.typ) (held_by_fields P xs) (held_by_fields Q xs) (type_before (child at i) x.typ t A.0 A.1) (fields_before at D.0 (next i) xs A.0 t' A.2)

  variants_before : (at : List ℕ) (ds : DeclaredNames) (n i : ℕ) (vs : List VariantOf) (t t' : ItemNames) → in_variants I at ds n i vs t ≡ Ok t' → HeldBefore f (held_by_variants P vs) (held_by_variants Q vs)
  variants_before at ds n i [] t t' e = λ j k. absurd k
  variants_before at ds n i (v ∷ vs) t t' e =
      let D = named_ok (declare ds v.name n) (λ ds. and_then (in_types I at i v.types t) (in_variants I at ds (suc n) (behind i v.types) vs)) t' e in
      let A = named_ok (in_types I at i v.types t) (in_variants I at D.0 (suc n) (behind i v.types) vs) t' D.2 in
      held_both f (held_among P v.types) (held_among Q v.types) (held_by_variants P vs) (held_by_variants Q vs) (types_before at i v.types t A.0 A.1) (variants_before at D.0 (suc n) (behind i v.types) vs A.0 t' A.2)

-- what an item holds
pub item_before : (f : ℕ → ℕ) (P Q : ProgramTree) (n : ℕ) (i : ItemTree) (T : ItemNames) → in_item P n i ≡ Ok T
    → ((a : ℕ) (ls : DeclaredNames) → FitItems f (record { program = P; item = a; lifetimes = ls }) (record { program = Q; item = a; lifetimes = ls })) → HeldBefore f (held_by P i) (held_by Q i)
item_before f P Q n (plain.rt_item s r) T e F = λ j k. absurd k
item_before f P Q n (plain.function_item s g) T e F = λ j k. absurd k
item_before f P Q n (plain.struct_item s d) T e F =
    let ls = firsts [] 0 (lifetimes_declared (plain.struct_item s d)) in
    let A = named_ok (distinct [] 0 d.lifetimes (record { vars = []; lifetimes = map (λ (l : Ident). l.span) d.lifetimes; loops = []; names = [] })) (in_declared (record { program = P; item = number n; lifetimes = ls }) [] [] 0 d.fields) T e in
    fields_before f P Q (number n) (number n) ls ls (F (number n) ls) [] [] 0 d.fields A.0 T A.2
item_before f P Q n (plain.enum_item s d) T e F =
    let ls = firsts [] 0 (lifetimes_declared (plain.enum_item s d)) in
    let A = named_ok (distinct [] 0 d.lifetimes (record { vars = []; lifetimes = map (λ (l : Ident). l.span) d.lifetimes; loops = []; names = [] })) (in_variants (record { program = P; item = number n; lifetimes = ls }) [] [] 0 0 d.variants) T e in
    variants_before f P Q (number n) (number n) ls ls (F (number n) ls) [] [] 0 0 d.variants A.0 T A.2

-- ---- edges

pub items_there : (P : ProgramTree) (n k : ℕ) (is : ProgramTree) (Ts : List ItemNames) (i : ItemTree) → in_items P n is ≡ Ok Ts → nth is k ≡ Some i → (T : ItemNames) × (in_item P (n + k) i ≡ Ok T)
items_there P n k [] Ts i e at = absurd (cc)
items_there P n zero (j ∷ is) Ts i e at =
    let A = named_ok (in_item P n j) (λ x. and_then (in_items P (suc n) is) (λ xs. Ok (x ∷ xs))) Ts e in
    let same : j ≡ i = cc in
    let here : n ≡ n + 0 = omega arith in (A.0, ap (λ m. in_item P m i) (sym here) ∙ ap (in_item P n) (sym same) ∙ A.1)
items_there P n (suc k) (j ∷ is) Ts i e at =
    let A = named_ok (in_item P n j) (λ x. and_then (in_items P (suc n) is) (λ xs. Ok (x ∷ xs))) Ts e in
    let B = named_ok (in_items P (suc n) is) (λ xs. Ok (A.0 ∷ xs)) Ts A.2 in
    let r = items_there P (suc n) k is B.0 i B.1 at in
    let on : suc n + k ≡ n + suc k = omega arith in (r.0, ap (λ m. in_item P m i) (sym on) ∙ r.1)

pub target_of : (g : ItemTree → List ℕ) (is : ProgramTree) (n j : ℕ) → IsIn (targets (map g is) n) j → (i : ItemTree) × (nth is n ≡ Some i) × IsIn (g i) j
target_of g [] n j h = absurd h
target_of g (i ∷ is) zero j h = (i, refl, h)
target_of g (i ∷ is) (suc n) j h = target_of g is n j h

pub to_target : (g : ItemTree → List ℕ) (is : ProgramTree) (n j : ℕ) (i : ItemTree) → nth is n ≡ Some i → IsIn (g i) j → IsIn (targets (map g is) n) j
to_target g [] n j i e h = absurd (cc)
to_target g (k ∷ is) zero j i e h = let same : k ≡ i = cc in subst (λ (z : ItemTree). IsIn (g z) j) (sym same) h
to_target g (k ∷ is) (suc n) j i e h = to_target g is n j i e h

-- each edge comes from one between numbers of the program, or from a number that none has
abbrev pub EdgesBefore : (ℕ → ℕ) → List (List ℕ) → List (List ℕ) → Type 0
EdgesBefore f ps qs = (n j : ℕ) → IsIn (targets qs n) j → (k : ℕ) × (j ≡ f k) × ((m : ℕ) → n ≡ f m → IsIn (targets ps m) k)

reaches_before : (f : ℕ → ℕ) (ps qs : List (List ℕ)) → EdgesBefore f ps qs → {n j : ℕ} → Reaches qs n j → (k : ℕ) × (j ≡ f k) × ((m : ℕ) → n ≡ f m → Reaches ps m k)
reaches_before f ps qs h {n} {j} (edge i) = let r = h n j i in (r.0, r.1, λ m e. edge (r.2 m e))
reaches_before f ps qs h {n} (further {j = j} i w) =
    let r = h n j i in let z = reaches_before f ps qs h w in (z.0, z.1, λ m e. further (r.2 m e) (z.2 r.0 r.1))

pub no_cycle_before : (f : ℕ → ℕ) (ps qs : List (List ℕ)) → EdgesBefore f ps qs → NoCycle ps → NoCycle qs
no_cycle_before f ps qs h none n w = let r = reaches_before f ps qs h w in none r.0 (r.2 r.0 r.1)

-- ---- numbers

-- where it stands in front of the new items or at the function, and where behind
pub past_is : (k many m n : ℕ) → n ≡ past k many m → ((m ≤ k) × (n ≡ m)) ⊎ ((k < m) × (n ≡ m + many))
past_is k many m n e = by (nat_le m k) refl e
  where
    by : (b : Bool) → nat_le m k ≡ b → n ≡ (if b then m else m + many) → ((m ≤ k) × (n ≡ m)) ⊎ ((k < m) × (n ≡ m + many))
    by true g h = inl (leb-true m k g, h)
    by false g h = inr (leb-false m k g, h)
