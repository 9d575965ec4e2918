-- The enum of exits: its variants have the numbers of their exits' places, and where it stands its names have meanings. By induction on
-- the exits.
use Rattle.std.proofs.lemmas.Bool.{or_left, or_right, eqb-true}
use Rattle.std.proofs.Common.{◌≡◌, ℕ, zero, suc, ◌+◌, ◌≤◌, ◌<◌, ◌^◌, arith, Bool, true, false, not, ◌||◌, if◌then◌else◌, List, [], ◌∷◌, ◌++◌, length, map, Option, Some, None, option_map, Ok, refl, sym, ap, ◌∙◌, subst, bytes_eq, codes, eq-eqb}
use Rattle.std.specs.Fmt.{decimal}
use Rattle.rx_core.specs.declared.types.Span.{Span}
use Rattle.rx_tree.specs.declared.tree.Ident.{Ident}
use Rattle.rx_tree.specs.Lists.{Every}
use Rattle.rx_tree.specs.Plain as plain
use Rattle.rx_tree.specs.Plain.{TypeTrees, VariantOf, ItemTree, ProgramTree}
use Rattle.rx_resolve_names.specs.declared.table.NumberedName.{NumberedName}
use Rattle.rx_resolve_names.specs.Scopes.{DeclaredNames, declared_as}
use Rattle.rx_resolve_names.specs.declared.resolved.ItemNames.{ItemNames}
use Rattle.rx_resolve_names.specs.Meant.{number, type_name, item_named, as_type, as_enum, number_in, firsts, kept, variants_of, lifetimes_declared}
use Rattle.rx_resolve_names.specs.Steps.{◌>>◌, Inside, known, one, both, declare, declared_behind, child, next}
use Rattle.rx_resolve_names.specs.Names.{lifetime_in, type_in, in_type, in_types, variant_in, behind}
use Rattle.rx_resolve_names.specs.Items.{distinct, in_variants, in_item}
use Rattle.rx_typed.specs.Types.{Typ}
use Rattle.rx_hoist_extraction.specs.Names.{Names, Distinct, is_among}
use Rattle.rx_hoist_extraction.specs.Plan.{Exit, to_next, to_break, to_continue, to_return, same_exit, has_exit, has_enum, Leaving, Plan, enum_name, exit_name}
use Rattle.rx_hoist_extraction.specs.Fresh.{fresh_lifetime}
use Rattle.rx_hoist_extraction.specs.Made.{ident}
use Rattle.rx_hoist_extraction.specs.WrittenTypes.{positions, positions_of, lifetimes_from, full, each_full}
use Rattle.rx_hoist_extraction.specs.NewEnum.{fields_at, all_fields, enum_positions, variants, new_enum}
use Rattle.rx_hoist_extraction.specs.OwnLifetimes.{idents}
use Rattle.rx_hoist_extraction.proofs.Signatures.{positions_both, enum_once}
use Rattle.rx_engine_names.specs.Moves.{Moves, ExitsNamed}
use Rattle.rx_engine_names.specs.NewFunction.{place_of}
use Rattle.rx_engine_names.specs.NewPlan.{exit_names, EnumStands}
use Rattle.rx_engine_names.proofs.SideBySide.{and_ok, then_ok}
use Rattle.rx_engine_names.proofs.Fitting.{FitItems}
use Rattle.rx_engine_names.proofs.FoundTypes.{Finds}
use Rattle.rx_engine_names.proofs.NoDoubles.{none_push}
use Rattle.rx_engine_names.proofs.NewScopes.{is_name, same_name}
use Rattle.rx_engine_names.proofs.DeclaredLifetimes.{declared_last, firsts_keep, declared_means, row_has}
use Rattle.rx_engine_names.proofs.MadeTypes.{full_made}

-- ---- variants by their numbers

same_names : (x y : Exit) → same_exit x y ≡ true → exit_name x ≡ exit_name y
same_names to_next to_next e = refl
same_names (to_break j) (to_break k) e = ap (λ n. codes "Break_" ++ decimal n) (eqb-true j k e)
same_names (to_continue j) (to_continue k) e = ap (λ n. codes "Continue_" ++ decimal n) (eqb-true j k e)
same_names to_return to_return e = refl
same_names x y e = absurd (cc)

same_self : (x : Exit) → same_exit x x ≡ true
same_self to_next = refl
same_self (to_break k) = eq-eqb k k refl
same_self (to_continue k) = eq-eqb k k refl
same_self to_return = refl

-- an exit of the plan has a name among theirs
name_among : (x : Exit) (xs : List Leaving) → has_exit x xs ≡ true → is_among (exit_name x) (exit_names xs) ≡ true
name_among x [] e = absurd (cc)
name_among x (y ∷ ys) e = by (same_exit x y.exit) refl e (name_among x ys)
  where
    by : (b : Bool) → same_exit x y.exit ≡ b → (b || has_exit x ys) ≡ true → (has_exit x ys ≡ true → is_among (exit_name x) (exit_names ys) ≡ true) → is_among (exit_name x) (exit_names (y ∷ ys)) ≡ true
    by true g h rest = or_left (bytes_eq (exit_name x) (exit_name y.exit)) (is_among (exit_name x) (exit_names ys)) (ap (λ (z : List ℕ). bytes_eq z (exit_name y.exit)) (same_names x y.exit g) ∙ same_name (exit_name y.exit))
    by false g h rest = or_right (bytes_eq (exit_name x) (exit_name y.exit)) (is_among (exit_name x) (exit_names ys)) (rest h)

-- names that follow are declared behind one that differs
still_new : (ds : DeclaredNames) (y : List ℕ) (k : NumberedName) (ys : Names) → is_among y ys ≡ false → ((x : List ℕ) → (bytes_eq x y || is_among x ys) ≡ true → declared_as ds x ≡ None) → (x : List ℕ) → is_among x ys ≡ true → declared_as (ds ++ (y, k) ∷ []) x ≡ None
still_new ds y k ys f new x e = none_push ds (y, k) x (new x (or_right (bytes_eq x y) (is_among x ys) e)) (by (bytes_eq x y) refl)
  where
    by : (b : Bool) → bytes_eq x y ≡ b → b ≡ false
    by true g = sym e ∙ subst (λ (z : List ℕ). is_among z ys ≡ false) (sym (is_name x y g)) f
    by false g = refl

abbrev named_variants : ProgramTree → Plan → Span → ℕ → List Leaving → List Ident
named_variants P pl s m xs = map (λ (v : VariantOf). v.name) (variants P pl s m xs)

exit_number : (P : ProgramTree) (pl : Plan) (s : Span) (n m : ℕ) (ds : DeclaredNames) (xs : List Leaving) (x : Exit) → has_exit x xs ≡ true → Distinct (exit_names xs) → ((y : List ℕ) → is_among y (exit_names xs) ≡ true → declared_as ds y ≡ None)
    → number_in (firsts ds n (named_variants P pl s m xs)) (exit_name x) ≡ Some (number (n + place_of x xs))
exit_number P pl s n m ds [] x e d new = absurd (cc)
exit_number P pl s n m ds (y ∷ ys) x e d new =
    let z = exit_name y.exit in
    let k : NumberedName = record { number = number n; span = s } in
    let m1 = m + positions_of P (fields_at pl y) in
    let none = new z (or_left (bytes_eq z z) (is_among z (exit_names ys)) (same_name z)) in
    ap (λ (o : Option NumberedName). number_in (firsts (kept ds (ident s z) n o) (suc n) (named_variants P pl s m1 ys)) (exit_name x)) none
    ∙ by (same_exit x y.exit) refl e (λ h. exit_number P pl s (suc n) m1 (ds ++ (z, k) ∷ []) ys x h d.1 (still_new ds z k (exit_names ys) d.0 new)) (none)
  where
    by : (b : Bool) → same_exit x y.exit ≡ b → (b || has_exit x ys) ≡ true
        → (has_exit x ys ≡ true → number_in (firsts (ds ++ (exit_name y.exit, record { number = number n; span = s }) ∷ []) (suc n) (named_variants P pl s (m + positions_of P (fields_at pl y)) ys)) (exit_name x) ≡ Some (number (suc n + place_of x ys)))
        → declared_as ds (exit_name y.exit) ≡ None
        → number_in (firsts (ds ++ (exit_name y.exit, record { number = number n; span = s }) ∷ []) (suc n) (named_variants P pl s (m + positions_of P (fields_at pl y)) ys)) (exit_name x) ≡ Some (number (n + (if b then zero else suc (place_of x ys))))
    by true g h rest none =
        let k : NumberedName = record { number = number n; span = s } in
        let same = same_names x y.exit g in
        let here : n + 0 ≡ n = omega arith in
        ap (λ (o : Option NumberedName). option_map (λ (k : NumberedName). k.number) o) (firsts_keep (ds ++ (exit_name y.exit, k) ∷ []) (suc n) (named_variants P pl s (m + positions_of P (fields_at pl y)) ys) (exit_name x) k
        (declared_last ds (exit_name x) (exit_name y.exit) k (ap (declared_as ds) same ∙ none) (ap (λ (z : List ℕ). bytes_eq z (exit_name y.exit)) same ∙ same_name (exit_name y.exit))))
        ∙ ap (λ j. Some (number j)) (sym here)
    by false g h rest none = let on : suc n + place_of x ys ≡ n + suc (place_of x ys) = omega arith in rest h ∙ ap (λ j. Some (number j)) on

module _ (P Q : ProgramTree) (V : Moves) (stands : EnumStands P Q V) (apart : Distinct (exit_names V.plan.exits)) (place : (x : Exit) → V.variant x ≡ number (place_of x V.plan.exits)) (I' : Inside) (there : I'.program ≡ Q) where
  abbrev found : Option (ℕ × ItemTree)
  found = item_named type_name 0 I'.program (enum_name V.plan)

  found_is : has_enum V.plan.exits ≡ true → found ≡ Some (V.enum, plain.enum_item V.place (new_enum P V.plan V.place))
  found_is h = ap (λ (p : ProgramTree). item_named type_name 0 p (enum_name V.plan)) there ∙ stands h

  pub enum_meant : has_enum V.plan.exits ≡ true → type_in I' (ident V.place (enum_name V.plan)) ≡ Ok V.enum
  enum_meant h = ap (λ (o : Option (ℕ × ItemTree)). known (as_type o) V.place) (found_is h)

  -- each exit's variant, Next too
  pub variant_meant : has_enum V.plan.exits ≡ true → (x : Exit) → has_exit x V.plan.exits ≡ true → variant_in I' (ident V.place (enum_name V.plan)) (ident V.place (exit_name x)) ≡ Ok (V.enum ∷ V.variant x ∷ [])
  variant_meant h x e =
      let start : 0 + place_of x V.plan.exits ≡ place_of x V.plan.exits = omega arith in
      ap (λ (o : Option (ℕ × ItemTree)). both (one (known (as_enum o) V.place)) (one (known (number_in (variants_of o) (exit_name x)) V.place))) (found_is h)
      ∙ ap (λ (o : Option ℕ). both (Ok (V.enum ∷ [])) (one (known o V.place))) (exit_number P V.plan V.place 0 0 [] V.plan.exits x e apart (λ y k. refl) ∙ ap (λ j. Some (number j)) start ∙ ap (λ j. Some j) (sym (place x)))

  -- an exit other than Next tells that there is an enum
  other_exit : (xs : List Leaving) (x : Exit) → has_exit x xs ≡ true → same_exit to_next x ≡ false → has_enum xs ≡ true
  other_exit [] x e f = absurd (cc)
  other_exit (y ∷ ys) x e f = by x y.exit f e (other_exit ys x)
    where
      by : (x z : Exit) → same_exit to_next x ≡ false → (same_exit x z || has_exit x ys) ≡ true → (has_exit x ys ≡ true → same_exit to_next x ≡ false → has_enum ys ≡ true) → (not (same_exit to_next z) || has_enum ys) ≡ true
      by to_next to_next f e rest = absurd (cc)
      by (to_break k) to_next f e rest = rest e f
      by (to_continue k) to_next f e rest = rest e f
      by to_return to_next f e rest = rest e f
      by x (to_break k) f e rest = refl
      by x (to_continue k) f e rest = refl
      by x to_return f e rest = refl

  pub exits_named : ExitsNamed V I'
  exits_named x e f = variant_meant (other_exit V.plan.exits x e f) x e

  each_named : (xs : List Leaving) → ((x : Exit) → has_exit x xs ≡ true → variant_in I' (ident V.place (enum_name V.plan)) (ident V.place (exit_name x)) ≡ Ok (V.enum ∷ V.variant x ∷ []))
      → Every (λ (x : Leaving). variant_in I' (ident V.place (enum_name V.plan)) (ident V.place (exit_name x.exit)) ≡ Ok (V.enum ∷ V.variant x.exit ∷ [])) xs
  each_named [] h = tt
  each_named (x ∷ xs) h = (h x.exit (or_left (same_exit x.exit x.exit) (has_exit x.exit xs) (same_self x.exit)), each_named xs (λ y e. h y (or_right (same_exit y x.exit) (has_exit y xs) e)))

  pub every_exit_named : has_enum V.plan.exits ≡ true → Every (λ (x : Leaving). variant_in I' (ident V.place (enum_name V.plan)) (ident V.place (exit_name x.exit)) ≡ Ok (V.enum ∷ V.variant x.exit ∷ [])) V.plan.exits
  every_exit_named h = each_named V.plan.exits (variant_meant h)

-- ---- the enum's item

pub distinct_resolves : (ds : DeclaredNames) (n : ℕ) (ls : List Ident) (t : ItemNames) → Distinct (idents ls) → ((x : List ℕ) → is_among x (idents ls) ≡ true → declared_as ds x ≡ None) → distinct ds n ls t ≡ Ok t
distinct_resolves ds n [] t d new = refl
distinct_resolves ds n (l ∷ ls) t d new =
    let k : NumberedName = record { number = number n; span = l.span } in
    let none = new l.name (or_left (bytes_eq l.name l.name) (is_among l.name (idents ls)) (same_name l.name)) in
    and_ok (declare ds l n) (ds ++ (l.name, k) ∷ []) (λ ds. distinct ds (suc n) ls t) (Ok t) (ap (declared_behind ds l n) none)
    (distinct_resolves (ds ++ (l.name, k) ∷ []) (suc n) ls t d.1 (still_new ds l.name k (idents ls) d.0 new))

module _ (items : ℕ → ℕ) (P : ProgramTree) (pl : Plan) (s : Span) (I I' : Inside) (F : FitItems items I I') (total : ℕ) (meant : (i : ℕ) → i < total → (k : ℕ) × (lifetime_in I' (ident s (fresh_lifetime pl.lifetimes i)) ≡ Ok k)) where
  abbrev row : ℕ → List ℕ
  row = fresh_lifetime pl.lifetimes

  each_resolves : (at : List ℕ) (i n : ℕ) (ts : List Typ) → Every (λ (t : Typ). Finds I P t) ts → n + positions_of P ts ≤ total → (u : ItemNames) → (v : ItemNames) × (in_types I' at i (each_full P s row n ts) u ≡ Ok v)
  each_resolves at i n [] f l u = (u, refl)
  each_resolves at i n (t ∷ ts) f l u =
      let A = full_made items (record { variables = []; loops = []; passages = [] }) I' s row total meant I F P (child at i) n t f.0 (omega (arith, l)) u in
      let r = each_resolves at (next i) (n + positions P t) ts f.1 (omega (arith, l)) A.table in
      (r.0, then_ok (in_type I' (child at i) (full P s row n t)) (in_types I' at (next i) (each_full P s row (n + positions P t) ts)) u A.table r.0 A.answer r.1)

  variants_resolve : (n i m : ℕ) (ds : DeclaredNames) (xs : List Leaving) → Distinct (exit_names xs) → ((y : List ℕ) → is_among y (exit_names xs) ≡ true → declared_as ds y ≡ None) → Every (λ (x : Leaving). Every (λ (t : Typ). Finds I P t) (fields_at pl x)) xs
      → m + positions_of P (all_fields pl xs) ≤ total → (u : ItemNames) → (v : ItemNames) × (in_variants I' [] ds n i (variants P pl s m xs) u ≡ Ok v)
  variants_resolve n i m ds [] d new f l u = (u, refl)
  variants_resolve n i m ds (x ∷ xs) d new f l u =
      let z = exit_name x.exit in
      let k : NumberedName = record { number = number n; span = s } in
      let ts = fields_at pl x in
      let ys = each_full P s row m ts in
      let both_there = positions_both P ts (all_fields pl xs) in
      let none = new z (or_left (bytes_eq z z) (is_among z (exit_names xs)) (same_name z)) in
      let A = each_resolves [] i m ts f.0 (omega (arith, l, both_there)) u in
      let r = variants_resolve (suc n) (behind i ys) (m + positions_of P ts) (ds ++ (z, k) ∷ []) xs d.1 (still_new ds z k (exit_names xs) d.0 new) f.1 (omega (arith, l, both_there)) A.0 in (
        r.0,
        and_ok (declare ds (ident s z) n) (ds ++ (z, k) ∷ []) (λ ds. (in_types I' [] i ys >> in_variants I' [] ds (suc n) (behind i ys) (variants P pl s (m + positions_of P ts) xs)) u) (Ok r.0) (ap (declared_behind ds (ident s z) n) none)
            (then_ok (in_types I' [] i ys) (in_variants I' [] (ds ++ (z, k) ∷ []) (suc n) (behind i ys) (variants P pl s (m + positions_of P ts) xs)) u A.0 r.0 A.1 r.1),
      )

-- where its types name structs and enums of the program
pub enum_resolves : (items : ℕ → ℕ) (P Q : ProgramTree) (pl : Plan) (s : Span) (n : ℕ) (I : Inside) → FitItems items I (record { program = Q; item = number n; lifetimes = firsts [] 0 (lifetimes_declared (plain.enum_item s (new_enum P pl s))) })
    → Distinct (exit_names pl.exits) → Every (λ (x : Leaving). Every (λ (t : Typ). Finds I P t) (fields_at pl x)) pl.exits → length pl.lifetimes + enum_positions P pl ≤ 2 ^ 64
    → (t : ItemNames) × (in_item Q n (plain.enum_item s (new_enum P pl s)) ≡ Ok t)
enum_resolves items P Q pl s n I F d f few =
    let it = plain.enum_item s (new_enum P pl s) in
    let I' : Inside = record { program = Q; item = number n; lifetimes = firsts [] 0 (lifetimes_declared it) } in
    let t : ItemNames = record { vars = []; lifetimes = map (λ (l : Ident). l.span) (lifetimes_declared it); loops = []; names = [] } in
    let row = fresh_lifetime pl.lifetimes in
    let many = enum_positions P pl in
    let meant : (i : ℕ) → i < many → (k : ℕ) × (lifetime_in I' (ident s (row i)) ≡ Ok k) = λ i l. declared_means I' (lifetimes_from s row 0 many) (row i) refl (row_has s row 0 many i (omega arith) (omega (arith, l))) s in
    let r = variants_resolve items P pl s I I' F many meant 0 0 0 [] pl.exits d (λ y k. refl) f (omega arith) t in
    (r.0, and_ok (distinct [] 0 (lifetimes_from s row 0 many) t) t (in_variants I' [] [] 0 0 (variants P pl s 0 pl.exits)) (Ok r.0) (distinct_resolves [] 0 (lifetimes_from s row 0 many) t (enum_once P pl s few) (λ x e. refl)) r.1)
