-- The items of a program that stay have meanings in a program with new items; with those of the items that are new or changed, all
-- items have. A function that stays has the same tree but for the numbers of items.
use Rattle.std.proofs.Common.{◌≡◌, ℕ, suc, ◌+◌, true, List, [], ◌∷◌, ◌++◌, length, map, Ok, refl, sym, ap, ◌∙◌, subst, add-zero, add-suc, suc-add, zero-add}
use Rattle.rx_core.specs.declared.types.Span.{Span}
use Rattle.rx_tree.specs.declared.tree.Ident.{Ident}
use Rattle.rx_tree.specs.Plain as plain
use Rattle.rx_tree.specs.Plain.{FieldOf, VariantOf, Function, ItemTree, ProgramTree}
use Rattle.rx_resolve_names.specs.Scopes.{DeclaredNames}
use Rattle.rx_resolve_names.specs.declared.resolved.ItemNames.{ItemNames}
use Rattle.rx_resolve_names.specs.Meant.{number, firsts, lifetimes_declared}
use Rattle.rx_resolve_names.specs.Steps.{Outcome, and_then, ◌>>◌, Inside, declare, child, next}
use Rattle.rx_resolve_names.specs.Names.{in_type, in_types, behind}
use Rattle.rx_resolve_names.specs.Items.{distinct, in_declared, in_variants, in_item, in_items}
use Rattle.std.specs.Prelude.{◌==◌}
use Rattle.std.proofs.Common.{inl, inr, eq-eqb}
use Rattle.rx_tree.specs.Lists.{Every}
use Rattle.rx_tree.specs.Plain.{PatternTree, TypeTree, Body}
use Rattle.rx_typed.specs.Naming.{function_named}
use Rattle.rx_hoist_extraction.proofs.Unchanged.{same_body}
use Rattle.rx_engine_names.specs.Renaming.{Pairs, Has, HasPassage, Made, Passage, Serves}
use Rattle.rx_engine_names.specs.LikeNamed.{LikeFunction, no_holes, like_int, like_typed}
use Rattle.rx_engine_names.specs.Insertion.{Inserted, number_there}
use Rattle.rx_engine_names.specs.Alike.{same_numbers}
use Rattle.rx_engine_names.proofs.SideBySide.{named_ok, then_ok, and_ok, the_same, Frame, Reached, restated, numbers_map}
use Rattle.rx_engine_names.proofs.CopiedPatterns.{type_alike, types_alike, optional_type_alike}
use Rattle.rx_engine_names.proofs.KeptItems.{Keeps, keeps_fits, inserted_keeps}
use Rattle.rx_engine_names.proofs.ChangedFunctions.{function_item_alike}

-- ---- variables and loops keep their numbers

abbrev pub lockstep : (ℕ → ℕ) → Frame
lockstep items = record {
  items = items;
  holds = λ ps n m. (n ≡ m) × Every (λ (p : ℕ × ℕ). p.0 ≡ p.1) ps;
  pushed = λ ps n m h. (ap suc h.0, (h.0, h.1));
  passed = λ M n m k l. M.passages ≡ [];
  passed_variable = λ M n m k l h. h;
  passed_loop = λ M n m k l h. h;
}

same_pairs : (ps : Pairs) → Every (λ (p : ℕ × ℕ). p.0 ≡ p.1) ps → (n m : ℕ) → Has ps n m → n ≡ m
same_pairs [] h n m x = absurd x
same_pairs (p ∷ ps) h n m (inl (inl x)) = x.0 ∙ h.0 ∙ sym x.1
same_pairs (p ∷ ps) h n m (inl (inr x)) = x.0 ∙ ap number h.0 ∙ sym x.1
same_pairs (p ∷ ps) h n m (inr x) = same_pairs ps h.1 n m x

is_itself : (n m : ℕ) → n ≡ m → (n == m) ≡ true
is_itself n m e = eq-eqb n m e

pub same_serve : (items : ℕ → ℕ) (G : Made) (t u : ItemNames) → Reached (lockstep items) G t u → Serves items G (same_numbers items)
same_serve items G t u q = record {
  variables = λ n m h. is_itself n m (same_pairs G.variables q.vars.1 n m h);
  loops = λ n m h. is_itself n m (same_pairs G.loops q.loops.1 n m h);
  items_are = λ n. refl;
  passages = λ x h. absurd (subst (λ (l : List Passage). HasPassage l x) q.passages h);
}

-- ---- a function that stays

module _ (items : ℕ → ℕ) (P Q : ProgramTree) (k : Keeps items P Q) where
  abbrev frame : Frame
  frame = lockstep items

  pub same_function : (n m : ℕ) (s : Span) (f : Function) (T : ItemNames) → in_item P n (plain.function_item s f) ≡ Ok T
      → (U : ItemNames) × (in_item Q m (plain.function_item s f) ≡ Ok U) × LikeFunction no_holes (same_numbers items) (function_named n s f T.names) (function_named m s f U.names)
  same_function n m s f T e =
      let A = function_item_alike frame no_holes P Q k (λ s k. k) (λ p t. t) (λ b c. c) (refl, tt) refl n m s f (record {
        suffix = λ R s n n' b b' v k h g. like_int g;
        annotated = λ M at at' p y t t' u e q. restated (optional_type_alike frame M _ _ (keeps_fits items P Q k _ _ _) at at' y t t' u e q) (λ z. z) (λ R sv h. numbers_map (λ z. z) (λ z. z) h (λ a b r. like_typed r));
        blocks = λ M own m w at at' b c t t' u e q h. h tt;
      }) T e in
      subst (λ (b : Body). (U : ItemNames) × (in_item Q m (plain.function_item s (record f { body = b })) ≡ Ok U) × LikeFunction no_holes (same_numbers items) (function_named n s f T.names) (function_named m s (record f { body = b }) U.names))
      (same_body [] [] f.body) (A.0, A.1, A.4 (same_numbers items) (same_serve items A.2 T A.0 A.3))

-- ---- structs and enums

-- what follows has a meaning too
abbrev Goes : (ℕ → ℕ) → ItemNames → Outcome ItemNames → Type 0
Goes g t' o = (v : ItemNames) × (o ≡ Ok v) × (M : Made) × Reached (lockstep g) M t' v

distinct_same : (ds : DeclaredNames) (n : ℕ) (xs : List Ident) (t t' u : ItemNames) → distinct ds n xs t ≡ Ok t' → (t ≡ t') × (distinct ds n xs u ≡ Ok u)
distinct_same ds n [] t t' u e = (the_same t t' e, refl)
distinct_same ds n (x ∷ xs) t t' u e =
    let a = named_ok (declare ds x n) (λ ds. distinct ds (suc n) xs t) t' e in let r = distinct_same a.0 (suc n) xs t t' u a.2 in
    (r.0, and_ok (declare ds x n) a.0 (λ ds. distinct ds (suc n) xs u) (Ok u) a.1 r.1)

fields_go : (g : ℕ → ℕ) (P Q : ProgramTree) (c : Keeps g P Q) (M : Made) (a b : ℕ) (L : DeclaredNames) (at : List ℕ) (ds : DeclaredNames) (i : ℕ) (fs : List FieldOf) (t t' u : ItemNames) → in_declared (record { program = P; item = a; lifetimes = L }) at ds i fs t ≡ Ok t' → Reached (lockstep g) M t u
    → Goes g t' (in_declared (record { program = Q; item = b; lifetimes = L }) at ds i fs u)
fields_go g P Q c M a b L at ds i [] t t' u e q = (u, refl, M, subst (λ (z : ItemNames). Reached (lockstep g) M z u) (the_same t t' e) q)
fields_go g P Q c M a b L at ds i (f ∷ fs) t t' u e q =
    let I : Inside = record { program = P; item = a; lifetimes = L } in let I' : Inside = record { program = Q; item = b; lifetimes = L } in
    let d = named_ok (declare ds f.name i) (λ ds. (in_type I (child at i) f.typ >> in_declared I at ds (next i) fs) t) t' e in
    let y = named_ok (in_type I (child at i) f.typ t) (in_declared I at d.0 (next i) fs) t' d.2 in
    let T = type_alike (lockstep g) M I I' (keeps_fits g P Q c a b L) (child at i) (child at i) f.typ t y.0 u y.1 q in
    let r = fields_go g P Q c T.made a b L at d.0 (next i) fs y.0 t' T.table y.2 T.reached in
    (r.0, and_ok (declare ds f.name i) d.0 (λ ds. (in_type I' (child at i) f.typ >> in_declared I' at ds (next i) fs) u) (Ok r.0) d.1 (then_ok (in_type I' (child at i) f.typ) (in_declared I' at d.0 (next i) fs) u T.table r.0 T.answer r.1), r.2, r.3)

variants_go : (g : ℕ → ℕ) (P Q : ProgramTree) (c : Keeps g P Q) (M : Made) (a b : ℕ) (L : DeclaredNames) (at : List ℕ) (ds : DeclaredNames) (n i : ℕ) (vs : List VariantOf) (t t' u : ItemNames) → in_variants (record { program = P; item = a; lifetimes = L }) at ds n i vs t ≡ Ok t' → Reached (lockstep g) M t u
    → Goes g t' (in_variants (record { program = Q; item = b; lifetimes = L }) at ds n i vs u)
variants_go g P Q c M a b L at ds n i [] t t' u e q = (u, refl, M, subst (λ (z : ItemNames). Reached (lockstep g) M z u) (the_same t t' e) q)
variants_go g P Q c M a b L at ds n i (v ∷ vs) t t' u e q =
    let I : Inside = record { program = P; item = a; lifetimes = L } in let I' : Inside = record { program = Q; item = b; lifetimes = L } in
    let k = behind i v.types in
    let d = named_ok (declare ds v.name n) (λ ds. (in_types I at i v.types >> in_variants I at ds (suc n) k vs) t) t' e in
    let y = named_ok (in_types I at i v.types t) (in_variants I at d.0 (suc n) k vs) t' d.2 in
    let T = types_alike (lockstep g) M I I' (keeps_fits g P Q c a b L) at at i i v.types t y.0 u y.1 q in
    let r = variants_go g P Q c T.made a b L at d.0 (suc n) k vs y.0 t' T.table y.2 T.reached in
    (r.0, and_ok (declare ds v.name n) d.0 (λ ds. (in_types I' at i v.types >> in_variants I' at ds (suc n) k vs) u) (Ok r.0) d.1 (then_ok (in_types I' at i v.types) (in_variants I' at d.0 (suc n) k vs) u T.table r.0 T.answer r.1), r.2, r.3)

-- ---- an item that stays

abbrev none : Made
none = record { variables = []; loops = []; passages = [] }

pub same_item : (g : ℕ → ℕ) (P Q : ProgramTree) → Keeps g P Q → (n m : ℕ) (i : ItemTree) (T : ItemNames) → in_item P n i ≡ Ok T → (U : ItemNames) × (in_item Q m i ≡ Ok U)
same_item g P Q c n m (plain.rt_item s r) T e = (_, refl)
same_item g P Q c n m (plain.function_item s f) T e = let r = same_function g P Q c n m s f T e in (r.0, r.1)
same_item g P Q c n m (plain.struct_item s d) T e =
    let L = firsts [] 0 (lifetimes_declared (plain.struct_item s d)) in
    let t : ItemNames = record { vars = []; lifetimes = map (λ (l : Ident). l.span) (lifetimes_declared (plain.struct_item s d)); loops = []; names = [] } in
    let x = named_ok (distinct [] 0 d.lifetimes t) (in_declared (record { program = P; item = number n; lifetimes = L }) [] [] 0 d.fields) T e in
    let y = distinct_same [] 0 d.lifetimes t x.0 t x.1 in
    let r = fields_go g P Q c none (number n) (number m) L [] [] 0 d.fields x.0 T t x.2 (subst (λ (z : ItemNames). Reached (lockstep g) none z t) y.0 (record { vars = (refl, tt); loops = (refl, tt); passages = refl })) in
    (r.0, then_ok (distinct [] 0 d.lifetimes) (in_declared (record { program = Q; item = number m; lifetimes = L }) [] [] 0 d.fields) t t r.0 y.1 r.1)
same_item g P Q c n m (plain.enum_item s d) T e =
    let L = firsts [] 0 (lifetimes_declared (plain.enum_item s d)) in
    let t : ItemNames = record { vars = []; lifetimes = map (λ (l : Ident). l.span) (lifetimes_declared (plain.enum_item s d)); loops = []; names = [] } in
    let x = named_ok (distinct [] 0 d.lifetimes t) (in_variants (record { program = P; item = number n; lifetimes = L }) [] [] 0 0 d.variants) T e in
    let y = distinct_same [] 0 d.lifetimes t x.0 t x.1 in
    let r = variants_go g P Q c none (number n) (number m) L [] [] 0 0 d.variants x.0 T t x.2 (subst (λ (z : ItemNames). Reached (lockstep g) none z t) y.0 (record { vars = (refl, tt); loops = (refl, tt); passages = refl })) in
    (r.0, then_ok (distinct [] 0 d.lifetimes) (in_variants (record { program = Q; item = number m; lifetimes = L }) [] [] 0 0 d.variants) t t r.0 y.1 r.1)

-- ---- all items

items_split : (p : ProgramTree) (n : ℕ) (xs ys : ProgramTree) (Ts : List ItemNames) → in_items p n (xs ++ ys) ≡ Ok Ts → (A : List ItemNames) × (B : List ItemNames) × (in_items p n xs ≡ Ok A) × (in_items p (n + length xs) ys ≡ Ok B)
items_split p n [] ys Ts e = ([], Ts, refl, ap (λ (k : ℕ). in_items p k ys) (add-zero n) ∙ e)
items_split p n (x ∷ xs) ys Ts e =
    let a = named_ok (in_item p n x) (λ z. and_then (in_items p (suc n) (xs ++ ys)) (λ zs. Ok (z ∷ zs))) Ts e in
    let b = named_ok (in_items p (suc n) (xs ++ ys)) (λ zs. Ok (a.0 ∷ zs)) Ts a.2 in
    let r = items_split p (suc n) xs ys b.0 b.1 in (
      a.0 ∷ r.0,
      r.1,
      and_ok (in_item p n x) a.0 (λ z. and_then (in_items p (suc n) xs) (λ zs. Ok (z ∷ zs))) (Ok (a.0 ∷ r.0)) a.1 (ap (λ (o : Outcome (List ItemNames)). and_then o (λ zs. Ok (a.0 ∷ zs))) r.2),
      ap (λ (k : ℕ). in_items p k ys) (add-suc n (length xs) ∙ sym (suc-add n (length xs))) ∙ r.3,
    )

items_join : (p : ProgramTree) (n : ℕ) (xs ys : ProgramTree) (A B : List ItemNames) → in_items p n xs ≡ Ok A → in_items p (n + length xs) ys ≡ Ok B → in_items p n (xs ++ ys) ≡ Ok (A ++ B)
items_join p n [] ys A B d e = ap (λ (k : ℕ). in_items p k ys) (sym (add-zero n)) ∙ e ∙ ap (λ (l : List ItemNames). Ok (l ++ B)) (the_same [] A d)
items_join p n (x ∷ xs) ys A B d e =
    let a = named_ok (in_item p n x) (λ z. and_then (in_items p (suc n) xs) (λ zs. Ok (z ∷ zs))) A d in
    let b = named_ok (in_items p (suc n) xs) (λ zs. Ok (a.0 ∷ zs)) A a.2 in
    let r = items_join p (suc n) xs ys b.0 B b.1 (ap (λ (k : ℕ). in_items p k ys) (suc-add n (length xs) ∙ sym (add-suc n (length xs))) ∙ e) in
    and_ok (in_item p n x) a.0 (λ z. and_then (in_items p (suc n) (xs ++ ys)) (λ zs. Ok (z ∷ zs))) (Ok (A ++ B)) a.1
    (ap (λ (o : Outcome (List ItemNames)). and_then o (λ zs. Ok (a.0 ∷ zs))) r ∙ ap (λ (l : List ItemNames). Ok (l ++ B)) (the_same (a.0 ∷ b.0) A b.2))

same_items : (g : ℕ → ℕ) (P Q : ProgramTree) → Keeps g P Q → (n m : ℕ) (is : ProgramTree) (Ts : List ItemNames) → in_items P n is ≡ Ok Ts → (Us : List ItemNames) × (in_items Q m is ≡ Ok Us)
same_items g P Q c n m [] Ts e = ([], refl)
same_items g P Q c n m (i ∷ is) Ts e =
    let a = named_ok (in_item P n i) (λ z. and_then (in_items P (suc n) is) (λ zs. Ok (z ∷ zs))) Ts e in
    let b = named_ok (in_items P (suc n) is) (λ zs. Ok (a.0 ∷ zs)) Ts a.2 in
    let x = same_item g P Q c n m i a.0 a.1 in let xs = same_items g P Q c (suc n) (suc m) is b.0 b.1 in
    (x.0 ∷ xs.0, and_ok (in_item Q m i) x.0 (λ z. and_then (in_items Q (suc m) is) (λ zs. Ok (z ∷ zs))) (Ok (x.0 ∷ xs.0)) x.1 (ap (λ (o : Outcome (List ItemNames)). and_then o (λ zs. Ok (x.0 ∷ zs))) xs.1))

-- all items have meanings where the changed function and the new items have
pub all_items : (P Q : ProgramTree) (c : Inserted P Q) (Ts : List ItemNames) → in_items P 0 P ≡ Ok Ts → (T : ItemNames) (Ns : List ItemNames) → in_item Q (length c.before) (plain.function_item c.place c.changed) ≡ Ok T → in_items Q (suc (length c.before)) c.new ≡ Ok Ns
    → (Us : List ItemNames) × (in_items Q 0 Q ≡ Ok Us)
all_items P Q c Ts e T Ns t n =
    let k = length c.before in
    let f = plain.function_item c.place c.old in let f' = plain.function_item c.place c.changed in
    let a = items_split P 0 c.before (f ∷ c.behind) Ts (ap (in_items P 0) (sym c.first) ∙ e) in
    let b = named_ok (in_item P (0 + k) f) (λ z. and_then (in_items P (suc (0 + k)) c.behind) (λ zs. Ok (z ∷ zs))) a.1 a.3 in
    let d = named_ok (in_items P (suc (0 + k)) c.behind) (λ zs. Ok (b.0 ∷ zs)) a.1 b.2 in
    let k' = inserted_keeps P Q c in
    let x = same_items (number_there c) P Q k' 0 0 c.before a.0 a.2 in
    let y = same_items (number_there c) P Q k' (suc (0 + k)) (suc k + length c.new) c.behind d.0 d.1 in
    let r = items_join Q (suc k) c.new c.behind Ns y.0 n y.1 in
    let s : in_items Q k (f' ∷ (c.new ++ c.behind)) ≡ Ok (T ∷ (Ns ++ y.0)) = and_ok (in_item Q k f') T (λ z. and_then (in_items Q (suc k) (c.new ++ c.behind)) (λ zs. Ok (z ∷ zs))) (Ok (T ∷ (Ns ++ y.0))) t (ap (λ (o : Outcome (List ItemNames)). and_then o (λ zs. Ok (T ∷ zs))) r) in
    (x.0 ++ (T ∷ (Ns ++ y.0)), ap (in_items Q 0) c.second ∙ items_join Q 0 c.before (f' ∷ (c.new ++ c.behind)) x.0 (T ∷ (Ns ++ y.0)) x.1 (ap (λ (z : ℕ). in_items Q z (f' ∷ (c.new ++ c.behind))) (zero-add k) ∙ s))
