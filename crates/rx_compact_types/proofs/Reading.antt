-- What resolving a type adds to the entries of names is what reading it takes; so the type that is read is told by its text.
use Rattle.std.proofs.Common.{◌≡◌, inl, inr, ℕ, Bool, true, false, List, [], ◌∷◌, ◌++◌, map, Option, Some, None, Ok, refl, sym, ap, ap₂, subst, ◌∙◌, append-nil, append_assoc, slice_get}
use Rattle.rx_core.specs.declared.types.Span.{Span}
use Rattle.rx_core.specs.declared.types.Ty.{Ty}
use Rattle.rx_core.specs.declared.types.Ty.TheVariants as ty
use Rattle.rx_tree.specs.declared.tree.Ident.{Ident}
use Rattle.rx_tree.specs.Plain as plain
use Rattle.rx_tree.specs.Plain.{TypeTree, TypeTrees, Parameter, ProgramTree}
use Rattle.rx_resolve_names.specs.declared.resolved.ItemNames.{ItemNames}
use Rattle.rx_resolve_names.specs.declared.resolved.NodeNames.{NodeNames}
use Rattle.rx_resolve_names.specs.Scopes.{DeclaredNames}
use Rattle.rx_resolve_names.specs.Meant.{type_name, item_named, as_type, number_in}
use Rattle.rx_resolve_names.specs.Steps as naming
use Rattle.rx_resolve_names.specs.Steps.{Inside, known, one, both, declare, child, next, with_variable, with_names, entry, names, numbered}
use Rattle.rx_resolve_names.specs.Names.{lifetime_in, lifetimes_in, type_in, written, in_lifetime, in_type, in_types, Bound}
use Rattle.rx_resolve_names.specs.Items.{in_parameter, in_parameters}
use Rattle.rx_typed.specs.Regions as regions
use Rattle.rx_typed.specs.Regions.{region_tuple, region_reference, region_named, region_and, regions_of, region-Ty, region_of_integer, region_of_boolean, region_of_tuple, region_of_shared, region_of_mut, region_of_item, lifetimes_among}
use Rattle.rx_typed.specs.Renaming.{renamed, all_renamed}
use Rattle.rx_typeck_typed.specs.Steps.{Step, gives, and_then, first, others, occurs}
use Rattle.rx_typeck_typed.specs.Written.{lifetimes_of, all_elided, listed, lifetimes_at, lifetime_at, pointing, type_of, types_of}
use Rattle.rx_typeck_typed.specs.Items.{parameters_of}
use Rattle.rx_compact_laws.proofs.Resolving.{read_ok, ok_is}
use Rattle.rx_compact_types.specs.Positions.{Position, Standing, as_parameter, as_result, as_let, position, or_zero, item_of, all_left_out, listed_at, positions, all_positions, parameter_positions, after, numbers, MayLeaveOut, AllMeant, zero_each, unnumbered_type, unnumbered_types, unnumbered_parameters, no_number}
use Rattle.rx_compact_types.proofs.Roles.{role_of}
use Rattle.rx_compact_types.proofs.Steps.{Reads, Told, meant_from, reads_front, One, Those, told_gives, told_map, told_both, told_front, told_entry, told_occurs, told_elided}

known_is : (o : Option ℕ) (s : Span) (n : ℕ) → known o s ≡ Ok n → o ≡ Some n
known_is None s n e = absurd (cc)
known_is (Some m) s n e = ap (λ k. Some k) (ok_is m n e)

-- ---- lists of lifetimes

all_elided_told : (L : DeclaredNames) (s : Span) (ds : List Ident) → Told (λ e. all_elided (role_of e) s ds) L (all_left_out ds) Those []
all_elided_told L s [] = told_gives L [] refl
all_elided_told L s (d ∷ ds) = told_front L (told_elided L s) (all_elided_told L s ds)

listed_told : (I : Inside) (s : Span) (ls : List (Option Ident)) (ns : List ℕ) → lifetimes_in I ls ≡ Ok ns → Told (λ e. listed (role_of e) s ls ns) I.lifetimes (map position ls) Those []
listed_told I s [] ns w = told_gives I.lifetimes [] refl
listed_told I s (None ∷ ls) ns w = told_front I.lifetimes (told_elided I.lifetimes s) (listed_told I s ls ns w)
listed_told I s (Some x ∷ ls) ns w =
    let a = read_ok (one (lifetime_in I x)) (λ ks. naming.and_then (lifetimes_in I ls) (λ ms. Ok (ks ++ ms))) ns w in
    let b = read_ok (lifetime_in I x) (λ n. Ok (n ∷ [])) a.0 a.1 in
    let c = read_ok (lifetimes_in I ls) (λ ms. Ok (a.0 ++ ms)) ns a.2 in
    let t : b.0 ∷ c.0 ≡ ns = ap (λ ks. ks ++ c.0) (ok_is (b.0 ∷ []) a.0 b.2) ∙ ok_is (a.0 ++ c.0) ns c.2 in
    subst (λ ks. Told (λ e. listed (role_of e) s (Some x ∷ ls) ks) I.lifetimes (Some x.name ∷ map position ls) Those []) t
    (told_front I.lifetimes (told_occurs I.lifetimes x.name b.0 (known_is (number_in I.lifetimes x.name) x.span b.0 b.1)) (listed_told I s ls c.0 c.1))

many_told : (L : DeclaredNames) (s : Span) (ds : List Ident) (ls : List (Option Ident)) (ns : List ℕ) (xs : List Position) → Told (λ e. listed (role_of e) s ls ns) L xs Those []
    → Told (λ e. lifetimes_at (role_of e) s ds (Some ls) ns) L xs Those []
many_told L s ds ls ns xs t = record {
  reads = by;
  fails = elim t.fails [ inl n ↦ inl n | inr y ↦ inr (record { at = λ ns ls k. y.at ns ls k }) ];
  meant = t.meant;
}
  where
    by : (e : Standing) → MayLeaveOut e xs → Reads (lifetimes_at (role_of e) s ds (Some ls) ns) e L [] xs Those
    by as_parameter h = record { run = λ fs ks k. (t.reads as_parameter h).run fs ks k }
    by (as_result None) h = record { run = λ fs ks k. (t.reads (as_result None) h).run fs ks k }
    by (as_result (Some l)) h = record { run = λ fs ks k. (t.reads (as_result (Some l)) h).run fs ks k }
    by (as_let l) h = record { run = λ fs ks k. (t.reads (as_let l) h).run fs ks k }

lifetimes_told : (I : Inside) (s : Span) (ds : List Ident) (ls : Option (List (Option Ident))) (ns : List ℕ) → lifetimes_in I (written ls) ≡ Ok ns
    → (xs : List Position) → (ls ≡ None → xs ≡ all_left_out ds) → ((ks : List (Option Ident)) → ls ≡ Some ks → xs ≡ map position ks)
    → Told (λ e. lifetimes_at (role_of e) s ds ls ns) I.lifetimes xs Those []
lifetimes_told I s ds None ns w xs a b = subst (λ xs. Told (λ e. all_elided (role_of e) s ds) I.lifetimes xs Those []) (sym (a refl)) (all_elided_told I.lifetimes s ds)
lifetimes_told I s ds (Some ks) ns w xs a b = many_told I.lifetimes s ds ks ns xs (subst (λ xs. Told (λ e. listed (role_of e) s ks ns) I.lifetimes xs Those []) (sym (b ks refl)) (listed_told I s ks ns w))

-- ---- what is read of a type

abbrev pub IsType : ProgramTree → TypeTree → Ty → List ℕ → Type 0
IsType p t v ns = (regions.lifetimes_in (region-Ty v) ≡ ns) × (renamed no_number (region-Ty v) ≡ unnumbered_type p t)

abbrev pub AreTypes : ProgramTree → TypeTrees → List Ty → List ℕ → Type 0
AreTypes p ts vs ns = (lifetimes_among (regions_of (map region-Ty vs)) ≡ ns) × (all_renamed no_number (regions_of (map region-Ty vs)) ≡ unnumbered_types p ts)

abbrev pub AreParameters : ProgramTree → List Parameter → List Ty → List ℕ → Type 0
AreParameters p xs vs ns = (lifetimes_among (regions_of (map region-Ty vs)) ≡ ns) × (all_renamed no_number (regions_of (map region-Ty vs)) ≡ unnumbered_parameters p xs)

pointing_is : (m : Bool) (l : ℕ) (v : Ty) → region-Ty (pointing m l v) ≡ region_reference m l (region-Ty v)
pointing_is false l v = region_of_shared l v
pointing_is true l v = region_of_mut l v

-- a list with as many as these places
abbrev Counts : List Position → List ℕ → Type 0
Counts xs vs = map no_number vs ≡ zero_each xs

numbers_count : (e : Standing) (L : DeclaredNames) (k : ℕ) (xs : List Position) → Counts xs (numbers e L k xs)
numbers_count e L k [] = refl
numbers_count e L k (None ∷ xs) = ap (λ ns. 0 ∷ ns) (numbers_count e L (after e k) xs)
numbers_count e L k (Some x ∷ xs) = ap (λ ns. 0 ∷ ns) (numbers_count e L k xs)

counted : {S : Standing → Step (List ℕ)} {L : DeclaredNames} {xs : List Position} {es : List NodeNames} → Told S L xs Those es → Told S L xs (λ vs ns. (ns ≡ vs) × Counts xs vs) es
counted {S = S} {L = L} {xs = xs} {es = es} t = record {
  reads = λ e h. record { run = λ ns ls k. let a = (t.reads e h).run ns ls k in (a.0, a.1, (a.2, subst (Counts xs) a.2 (numbers_count e L k xs))) };
  fails = t.fails;
  meant = t.meant;
}

module _ (p : ProgramTree) (i : ℕ) (L : DeclaredNames) where
  abbrev I : Inside
  I = record { program = p; item = i; lifetimes = L }

  -- these entries were added
  pub record Grows (t u : ItemNames) (Fits : List NodeNames → Type 0) : Type 0 where
    pub adds : List NodeNames
    pub is : u.names ≡ t.names ++ adds
    pub told : Fits adds

  abbrev pub TypeTold : TypeTree → List NodeNames → Type 0
  TypeTold y es = Told (λ e. type_of p (role_of e) y) L (positions p y) (IsType p y) es

  abbrev TypesTold : TypeTrees → List NodeNames → Type 0
  TypesTold ys es = Told (λ e. types_of p (role_of e) ys) L (all_positions p ys) (AreTypes p ys) es

  pub unchanged : (t u : ItemNames) (Fits : List NodeNames → Type 0) → ◌≡◌ {A = naming.Outcome ItemNames} (Ok t) (Ok u) → Fits [] → Grows t u Fits
  unchanged t u Fits e h = record { adds = []; is = ap (λ (w : ItemNames). w.names) (sym (ok_is t u e)) ∙ sym (append-nil t.names); told = h }

  -- an entry with these numbers
  added : (at ns : List ℕ) (t u : ItemNames) (n : ℕ) → numbered I at (n ∷ ns) t ≡ Ok u → u.names ≡ t.names ++ entry I at (n ∷ ns) ∷ []
  added at ns t u n e = ap (λ (w : ItemNames). w.names) (sym (ok_is (with_names (entry I at (n ∷ ns)) t) u e))

  pub both_grow : (t u w : ItemNames) (A B C : List NodeNames → Type 0) → Grows t u A → Grows u w B → ((es fs : List NodeNames) → A es → B fs → C (es ++ fs)) → Grows t w C
  both_grow t u w A B C a b h = record {
    adds = a.adds ++ b.adds;
    is = b.is ∙ (ap (λ ns. ns ++ b.adds) a.is ∙ append_assoc t.names a.adds b.adds);
    told = h a.adds b.adds a.told b.told;
  }

  -- ---- references

  abbrev LifetimeTold : Span → Option Ident → List NodeNames → Type 0
  LifetimeTold s l es = Told (λ e. lifetime_at (role_of e) s l) L (position l ∷ []) One es

  lifetime : (s : Span) (l : Option Ident) (at : List ℕ) (t u : ItemNames) → in_lifetime I at l t ≡ Ok u → Grows t u (LifetimeTold s l)
  lifetime s None at t u e = unchanged t u (LifetimeTold s None) e (told_elided L s)
  lifetime s (Some x) at t u e =
      let a = read_ok (one (lifetime_in I x)) (λ ns. numbered I at ns t) u e in
      let b = read_ok (lifetime_in I x) (λ n. Ok (n ∷ [])) a.0 a.1 in
      record {
        adds = entry I at (b.0 ∷ []) ∷ [];
        is = added at [] t u b.0 (ap (λ ns. numbered I at ns t) (ok_is (b.0 ∷ []) a.0 b.2) ∙ a.2);
        told = told_entry L (λ e ns. occurs (first ns)) (entry I at (b.0 ∷ [])) (told_occurs L x.name b.0 (known_is (number_in L x.name) x.span b.0 b.1));
      }

  -- ---- structs and enums

  named_told : (x : Ident) (ls : Option (List (Option Ident))) (s : Span) (at : List ℕ) (n : ℕ) (ns : List ℕ) → item_of p x ≡ n → lifetimes_in I (written ls) ≡ Ok ns
      → TypeTold (plain.named_type s x ls) (entry I at (n ∷ ns) ∷ [])
  named_told x ls s at n ns v k =
      let inner : Told (λ e. lifetimes_at (role_of e) s (lifetimes_of (slice_get p n)) ls ns) L (listed_at p x ls) Those [] =
      lifetimes_told I s (lifetimes_of (slice_get p n)) ls ns k (listed_at p x ls)
      (λ q. ap (listed_at p x) q ∙ ap (λ m. all_left_out (lifetimes_of (slice_get p m))) v)
      (λ ks q. ap (listed_at p x) q) in
      told_entry L (λ e ms. and_then (lifetimes_at (role_of e) s (lifetimes_of (slice_get p (first ms))) ls (others ms)) (λ ks. gives (ty.Adt (first ms) ks))) (entry I at (n ∷ ns)) (told_map L (λ ms. ty.Adt n ms) (counted inner) (λ ms ks q.
      (ap regions.lifetimes_in (region_of_item n ms) ∙ sym q.0, ap (renamed no_number) (region_of_item n ms) ∙ ap₂ region_named (sym v) q.1)))

  item : (x : Ident) (ls : Option (List (Option Ident))) (s : Span) (at : List ℕ) (t u : ItemNames) → names I at (both (one (type_in I x)) (lifetimes_in I (written ls))) t ≡ Ok u
      → Grows t u (TypeTold (plain.named_type s x ls))
  item x ls s at t u e =
      let a = read_ok (both (one (type_in I x)) (lifetimes_in I (written ls))) (λ ns. numbered I at ns t) u e in
      let b = read_ok (one (type_in I x)) (λ ks. naming.and_then (lifetimes_in I (written ls)) (λ ms. Ok (ks ++ ms))) a.0 a.1 in
      let c = read_ok (type_in I x) (λ n. Ok (n ∷ [])) b.0 b.1 in
      let d = read_ok (lifetimes_in I (written ls)) (λ ms. Ok (b.0 ++ ms)) a.0 b.2 in
      let k : c.0 ∷ d.0 ≡ a.0 = ap (λ ks. ks ++ d.0) (ok_is (c.0 ∷ []) b.0 c.2) ∙ ok_is (b.0 ++ d.0) a.0 d.2 in
      record {
        adds = entry I at (c.0 ∷ d.0) ∷ [];
        is = added at d.0 t u c.0 (ap (λ ns. numbered I at ns t) k ∙ a.2);
        told = named_told x ls s at c.0 d.0 (ap or_zero (known_is (as_type (item_named type_name 0 p x.name)) x.span c.0 c.1)) d.1;
      }

  mutual
    pub type : (y : TypeTree) (at : List ℕ) (t u : ItemNames) → in_type I at y t ≡ Ok u → Grows t u (TypeTold y)
    type (plain.kind_type s k) at t u w = unchanged t u (TypeTold (plain.kind_type s k)) w
        (told_gives L (ty.Int k) (ap regions.lifetimes_in (region_of_integer k), ap (renamed no_number) (region_of_integer k)))
    type (plain.bool_type s) at t u w = unchanged t u (TypeTold (plain.bool_type s)) w
        (told_gives L ty.Bool (ap regions.lifetimes_in region_of_boolean, ap (renamed no_number) region_of_boolean))
    type (plain.tuple_type s ts) at t u w =
        let g = types ts at 0 t u w in
        record {
          adds = g.adds;
          is = g.is;
          told = told_map L (λ vs. ty.Tuple vs) g.told (λ vs ns q.
              (ap regions.lifetimes_in (region_of_tuple vs) ∙ q.0, ap (renamed no_number) (region_of_tuple vs) ∙ ap region_tuple q.1));
        }
    type (plain.ref_type s l m y) at t u w =
        let a = read_ok (in_lifetime I at l t) (in_type I (child at 0) y) u w in
        both_grow t a.0 u (LifetimeTold s l) (TypeTold y) (TypeTold (plain.ref_type s l m y)) (lifetime s l at t a.0 a.1) (type y (child at 0) a.0 u a.2)
        (λ es fs f g. told_both L (pointing m) f g (λ n ms v ns q r.
        (ap regions.lifetimes_in (pointing_is m n v) ∙ (ap (λ ks. n ∷ ks) r.0 ∙ ap (λ ks. ks ++ ns) (sym q)), ap (renamed no_number) (pointing_is m n v) ∙ ap (region_reference m 0) r.1)))
    type (plain.named_type s x ls) at t u w = item x ls s at t u w

    pub types : (ys : TypeTrees) (at : List ℕ) (k : ℕ) (t u : ItemNames) → in_types I at k ys t ≡ Ok u → Grows t u (TypesTold ys)
    types plain.no_type at k t u w = unchanged t u (TypesTold plain.no_type) w (told_gives L [] (refl, refl))
    types (plain.type_and y ys) at k t u w =
        let a = read_ok (in_type I (child at k) y t) (in_types I at (next k) ys) u w in
        both_grow t a.0 u (TypeTold y) (TypesTold ys) (TypesTold (plain.type_and y ys)) (type y (child at k) t a.0 a.1) (types ys at (next k) a.0 u a.2)
        (λ es fs f g. told_both L (λ v vs. v ∷ vs) f g (λ v ms vs ns q r. (ap₂ (λ a b. a ++ b) q.0 r.0, ap₂ region_and q.1 r.1)))

  -- ---- parameters

  pub record ParametersTold (xs : List Parameter) (es : List NodeNames) : Type 0 where
    pub reads : Reads (parameters_of p xs) as_parameter L es (parameter_positions p xs) (AreParameters p xs)
    pub meant : AllMeant L (parameter_positions p xs)

  parameter : (x : Parameter) (at : List ℕ) (k : ℕ) (b c : Bound) → in_parameter I at k x b ≡ Ok c → Grows b.tables c.tables (TypeTold x.typ)
  parameter x at k b c w =
      let a = read_ok (declare b.bindings x.name k) (λ ds. naming.and_then (in_type I (child at k) x.typ (with_variable x.name.span b.tables)) (λ t. Ok (record { bindings = ds; tables = t }))) c w in
      let d = read_ok (in_type I (child at k) x.typ (with_variable x.name.span b.tables)) (λ t. Ok (record { bindings = a.0; tables = t })) c a.2 in
      let g = type x.typ (child at k) (with_variable x.name.span b.tables) d.0 d.1 in
      let t : d.0 ≡ c.tables = ap (λ (z : Bound). z.tables) (ok_is (record { bindings = a.0; tables = d.0 }) c d.2) in
      record { adds = g.adds; is = ap (λ (u : ItemNames). u.names) (sym t) ∙ g.is; told = g.told }

  pub parameters : (xs : List Parameter) (at : List ℕ) (k : ℕ) (b c : Bound) → in_parameters I at k xs b ≡ Ok c → Grows b.tables c.tables (ParametersTold xs)
  parameters [] at k b c w = unchanged b.tables c.tables (ParametersTold []) (ap (λ (z : Bound). Ok z.tables) (ok_is b c w))
      (record { reads = (told_gives L [] (refl, refl)).reads as_parameter tt; meant = tt })
  parameters (x ∷ xs) at k b c w =
      let a = read_ok (in_parameter I at k x b) (in_parameters I at (next k) xs) c w in
      both_grow b.tables a.0.tables c.tables (TypeTold x.typ) (ParametersTold xs) (ParametersTold (x ∷ xs)) (parameter x at k b a.0 a.1) (parameters xs at (next k) a.0 c a.2)
      (λ es fs f g. record {
        reads = reads_front as_parameter L (λ v vs. v ∷ vs) (f.reads as_parameter tt) g.reads (λ v ms vs ns q r. (ap₂ (λ a b. a ++ b) q.0 r.0, ap₂ region_and q.1 r.1));
        meant = meant_from L (positions p x.typ) (parameter_positions p xs) f.meant g.meant;
      })
