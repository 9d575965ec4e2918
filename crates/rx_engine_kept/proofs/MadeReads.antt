-- Types that an extraction makes with lifetimes are read wherever they stand: none is left out, and each struct or enum has as many as it declares.
-- All of their lifetimes occur. By induction on the type.
use Rattle.std.proofs.lemmas.Bool.{leb-true, leb-false}
use Rattle.std.proofs.Common.{◌≡◌, ℕ, zero, suc, ◌+◌, ◌<◌, ◌≤◌, nat_eq, nat_le, Bool, true, false, if◌then◌else◌, List, [], ◌∷◌, ◌++◌, length, map, Option, Some, None, Ok, slice_get, refl, sym, ap, ◌∙◌, subst, arith, append-nil, append_assoc}
use Rattle.rx_core.specs.declared.types.Span.{Span}
use Rattle.rx_core.specs.declared.types.Kind.{Kind}
use Rattle.rx_core.specs.declared.types.Ty.{Ty}
use Rattle.rx_core.specs.declared.types.Ty.TheVariants as ty
use Rattle.rx_tree.specs.Lists.{Every}
use Rattle.rx_tree.specs.declared.tree.Ident.{Ident}
use Rattle.rx_tree.specs.Plain as plain
use Rattle.rx_tree.specs.Plain.{TypeTree, TypeTrees, ItemTree, ProgramTree}
use Rattle.rx_resolve_names.specs.Scopes.{DeclaredNames}
use Rattle.rx_resolve_names.specs.declared.resolved.ItemNames.{ItemNames}
use Rattle.rx_resolve_names.specs.declared.resolved.NodeNames.{NodeNames}
use Rattle.rx_resolve_names.specs.Steps as names
use Rattle.rx_resolve_names.specs.Steps.{Inside, child, next, entry, one, both}
use Rattle.rx_resolve_names.specs.Names.{in_lifetime, in_type, in_types, lifetime_in, lifetimes_in, type_in, written}
use Rattle.rx_typed.specs.Types as types
use Rattle.rx_typed.specs.Types.{Typ, Shape, Shapes, integer, boolean, tuple_of, reference, no_shape, shape_and}
use Rattle.rx_typeck_typed.specs.Steps as steps
use Rattle.rx_typeck_typed.specs.Steps.{Reading, on_ok, occurs, others, first}
use Rattle.rx_typeck_typed.specs.Written.{lifetimes_of, as_many, listed, lifetimes_at, pointing, type_of, types_of}
use Rattle.rx_typeck_typed.specs.Items.{is_among}
use Rattle.rx_hoist_naming.specs.Words.{is_type_item, NamesTypes, NameTypes}
use Rattle.rx_hoist_extraction.specs.Made.{ident}
use Rattle.rx_hoist_extraction.specs.WrittenTypes as made
use Rattle.rx_hoist_extraction.specs.WrittenTypes.{name_of, positions, all_positions, positions_of, lifetimes_from, list_if_any, full, all_full, each_full}
use Rattle.rx_engine_names.proofs.SideBySide.{named_ok, the_same}
use Rattle.rx_engine_names.proofs.KeptItems.{Keeps}
use Rattle.rx_engine_names.proofs.FoundTypes.{Finds}
use Rattle.rx_engine_declared.proofs.Reading.{reading, Role, before_entry, before_none}
use Rattle.rx_engine_kept.proofs.BothTypes.{name_entry, lifetime_entry, same_list}

-- ---- lists of lifetimes

-- a list with as many as are declared is no fault there
abbrev pub Counts : Role → Type 0
Counts e = (s : Span) (ds : List Ident) (ls : List (Option Ident)) → length ls ≡ length ds → as_many e s ds ls ≡ Ok tt

pub same_count : (n : ℕ) → nat_eq n n ≡ true
same_count n = grind arith

-- a list of names of lifetimes, and its numbers
front_of : (J : Inside) (x : Ident) (xs : List (Option Ident)) (ns : List ℕ) → lifetimes_in J (Some x ∷ xs) ≡ Ok ns → (z : ℕ) × (zs : List ℕ) × (lifetime_in J x ≡ Ok z) × (lifetimes_in J xs ≡ Ok zs) × (ns ≡ z ∷ zs)
front_of J x xs ns e =
    let b = named_ok (one (lifetime_in J x)) (λ ns. names.and_then (lifetimes_in J xs) (λ ms. Ok (ns ++ ms))) ns e in
    let c = named_ok (lifetime_in J x) (λ n. Ok (n ∷ [])) b.0 b.1 in
    let d = named_ok (lifetimes_in J xs) (λ ms. Ok (b.0 ++ ms)) ns b.2 in
    (c.0, d.0, c.1, d.1, sym (the_same (b.0 ++ d.0) ns d.2) ∙ ap (λ (l : List ℕ). l ++ d.0) (sym (the_same (c.0 ∷ []) b.0 c.2)))

in_list : (x : ℕ) (xs ys : List ℕ) → is_among x xs ≡ true → is_among x (xs ++ ys) ≡ true
in_list x [] ys e = absurd (cc)
in_list x (z ∷ xs) ys e = by (nat_eq x z) e (in_list x xs ys)
  where
    by : (b : Bool) → (if b then true else is_among x xs) ≡ true → (is_among x xs ≡ true → is_among x (xs ++ ys) ≡ true) → (if b then true else is_among x (xs ++ ys)) ≡ true
    by true e h = refl
    by false e h = h e

behind_list : (x : ℕ) (xs ys : List ℕ) → is_among x ys ≡ true → is_among x (xs ++ ys) ≡ true
behind_list x [] ys e = e
behind_list x (z ∷ xs) ys e = by (nat_eq x z) (behind_list x xs ys e)
  where
    by : (b : Bool) → is_among x (xs ++ ys) ≡ true → (if b then true else is_among x (xs ++ ys)) ≡ true
    by true h = refl
    by false h = h

in_front_of : (x : ℕ) (xs : List ℕ) → is_among x (x ∷ xs) ≡ true
in_front_of x xs = ap (λ (b : Bool). if b then true else is_among x xs) (same_count x)

further_on : (x z : ℕ) (xs : List ℕ) → is_among x xs ≡ true → is_among x (z ∷ xs) ≡ true
further_on x z xs e = behind_list x (z ∷ []) xs e

module _ (J : Inside) (s : Span) (row : ℕ → List ℕ) where
  -- the numbers of so many lifetimes of the row occur
  abbrev pub Occur : ℕ → ℕ → List ℕ → Type 0
  Occur n many xs = (i j : ℕ) → n ≤ i → i < n + many → lifetime_in J (ident s (row i)) ≡ Ok j → is_among j xs ≡ true

  pub none_occur : (n : ℕ) → Occur n 0 []
  none_occur n i j l m e = absurd (let bad : i < n + 0 = m in omega (arith, l, bad))

  pub occur_both : (n a b : ℕ) (xs ys : List ℕ) → Occur n a xs → Occur (n + a) b ys → Occur n (a + b) (xs ++ ys)
  occur_both n a b xs ys h g i j l m e = by (nat_le (n + a) i) refl
    where
      by : (c : Bool) → nat_le (n + a) i ≡ c → is_among j (xs ++ ys) ≡ true
      by true t = let le : n + a ≤ i = leb-true (n + a) i t in behind_list j xs ys (g i j le (let lt : i < n + (a + b) = m in omega (arith, lt)) e)
      by false t = in_list j xs ys (h i j l (leb-false (n + a) i t) e)

  pub row_occurs : (n many : ℕ) (ns : List ℕ) → lifetimes_in J (map (λ (x : Ident). Some x) (lifetimes_from s row n many)) ≡ Ok ns → Occur n many ns
  row_occurs n zero ns e i j l m g = absurd (let bad : i < n + 0 = m in omega (arith, l, bad))
  row_occurs n (suc many) ns e i j l m g =
      let z = front_of J (ident s (row n)) (map (λ (x : Ident). Some x) (lifetimes_from s row (suc n) many)) ns e in
      subst (λ (l : List ℕ). is_among j l ≡ true) (sym z.4) (by z.0 z.1 z.2 (λ lt. row_occurs (suc n) many z.1 z.3 i j lt (omega (arith, m)) g) (nat_le i n) refl)
    where
      by : (a : ℕ) (zs : List ℕ) → lifetime_in J (ident s (row n)) ≡ Ok a → (n < i → is_among j zs ≡ true) → (c : Bool) → nat_le i n ≡ c → is_among j (a ∷ zs) ≡ true
      by a zs h rest true t =
          let le : i ≤ n = leb-true i n t in let here : i ≡ n = omega (arith, l, le) in
          let same : j ≡ a = the_same j a (sym g ∙ ap (λ (x : ℕ). lifetime_in J (ident s (row x))) here ∙ h) in
          subst (λ (x : ℕ). is_among x (a ∷ zs) ≡ true) (sym same) (in_front_of a zs)
      by a zs h rest false t = further_on j a zs (rest (leb-false i n t))

  -- a list is read, and its lifetimes occur
  pub list_read : (e : Role) (xs : List Ident) (ns : List ℕ) → lifetimes_in J (map (λ (x : Ident). Some x) xs) ≡ Ok ns → (m : List NodeNames) (ls : List ℕ) (k : ℕ)
      → (w : List ℕ) × (listed e s (map (λ (x : Ident). Some x) xs) ns (reading m ls k) ≡ Ok (w, reading m (ls ++ ns) k))
  list_read e [] ns h m ls k = ([], ap (λ (l : List ℕ). Ok ([], reading m l k)) (sym (append-nil ls) ∙ ap (λ (z : List ℕ). ls ++ z) (the_same [] ns h)))
  list_read e (x ∷ xs) ns h m ls k =
      let z = front_of J x (map (λ (x : Ident). Some x) xs) ns h in
      let r = list_read e xs z.1 z.3 m (ls ++ z.0 ∷ []) k in (
        z.0 ∷ r.0,
        ap (λ (l : List ℕ). listed e s (Some x ∷ map (λ (x : Ident). Some x) xs) l (reading m ls k)) z.4
            ∙ ap (λ (o : steps.Outcome (List ℕ × Reading)). on_ok o (λ p. Ok (z.0 ∷ p.0, p.1))) r.1
            ∙ ap (λ (l : List ℕ). Ok (z.0 ∷ r.0, reading m l k)) (append_assoc ls (z.0 ∷ []) z.1 ∙ ap (λ (l : List ℕ). ls ++ l) (sym z.4)),
      )

  row_length : (n many : ℕ) → length (map (λ (x : Ident). Some x) (lifetimes_from s row n many)) ≡ many
  row_length n zero = refl
  row_length n (suc many) = ap suc (row_length (suc n) many)

  -- what is read of a type that is made, whatever its place, with lifetimes from a number of the row on
  pub record MadeRead (Q : ProgramTree) (y : TypeTree) (n many : ℕ) (l m : List NodeNames) : Type 0 where
    pub lifetimes : List ℕ
    pub occur : Occur n many lifetimes
    pub reads : (e : Role) → Counts e → (ls : List ℕ) (k : ℕ) → (w : Ty) × (type_of Q e y (reading l ls k) ≡ Ok (w, reading m (ls ++ lifetimes) k))

  pub record MadeReadAll (Q : ProgramTree) (ys : TypeTrees) (n many : ℕ) (l m : List NodeNames) : Type 0 where
    pub lifetimes : List ℕ
    pub occur : Occur n many lifetimes
    pub reads : (e : Role) → Counts e → (ls : List ℕ) (k : ℕ) → (w : List Ty) × (types_of Q e ys (reading l ls k) ≡ Ok (w, reading m (ls ++ lifetimes) k))

  -- a struct or enum by its name, with as many lifetimes as it declares
  pub item_read : (Q : ProgramTree) (x : Ident) (n many j : ℕ) (ms : List ℕ) (u : NodeNames) (m : List NodeNames) → u.numbers ≡ j ∷ ms → length (lifetimes_of (slice_get Q j)) ≡ many
      → lifetimes_in J (written (list_if_any (lifetimes_from s row n many))) ≡ Ok ms → MadeRead Q (plain.named_type s x (list_if_any (lifetimes_from s row n many))) n many (u ∷ m) m
  item_read Q x n zero j ms u m g c e = record {
    lifetimes = [];
    occur = none_occur n;
    reads = λ r w ls k. (
      ty.Adt j [],
      ap (λ (ns : List ℕ). on_ok (lifetimes_at r s (lifetimes_of (slice_get Q (first ns))) None (others ns) (reading m ls k)) (λ p. Ok (ty.Adt (first ns) p.0, p.1))) g
          ∙ ap (λ (ds : List Ident). on_ok (lifetimes_at r s ds None ms (reading m ls k)) (λ p. Ok (ty.Adt j p.0, p.1))) (nothing (lifetimes_of (slice_get Q j)) c)
          ∙ ap (λ (l : List ℕ). Ok (ty.Adt j [], reading m l k)) (sym (append-nil ls)),
    );
  }
    where
      nothing : (ds : List Ident) → length ds ≡ 0 → ds ≡ []
      nothing [] e = refl
      nothing (d ∷ ds) e = absurd (cc)
  item_read Q x n (suc many) j ms u m g c e = record {
    lifetimes = ms;
    occur = row_occurs n (suc many) ms e;
    reads = λ r w ls k.
        let ids = lifetimes_from s row n (suc many) in
        let xs = map (λ (x : Ident). Some x) ids in
        let a = list_read r ids ms e m ls k in (
          ty.Adt j a.0,
          ap (λ (ns : List ℕ). on_ok (lifetimes_at r s (lifetimes_of (slice_get Q (first ns))) (Some xs) (others ns) (reading m ls k)) (λ p. Ok (ty.Adt (first ns) p.0, p.1))) g
              ∙ ap (λ (o : steps.Outcome (Unit {0})). on_ok (on_ok o (λ _. listed r s xs ms (reading m ls k))) (λ p. Ok (ty.Adt j p.0, p.1))) (w s (lifetimes_of (slice_get Q j)) xs (row_length n (suc many) ∙ sym c))
              ∙ ap (λ (o : steps.Outcome (List ℕ × Reading)). on_ok o (λ p. Ok (ty.Adt j p.0, p.1))) a.1,
        );
  }

-- ---- types with lifetimes of their own

-- a struct or enum declares the lifetimes that are counted
counts_there : (o : Option ItemTree) → is_type_item o ≡ true → length (lifetimes_of o) ≡ made.item_lifetimes o
counts_there None h = absurd (cc)
counts_there (Some (plain.rt_item s r)) h = absurd (cc)
counts_there (Some (plain.struct_item s d)) h = refl
counts_there (Some (plain.enum_item s d)) h = refl
counts_there (Some (plain.function_item s f)) h = absurd (cc)

module _ (P Q : ProgramTree) (items : ℕ → ℕ) (k : Keeps items P Q) (a b : ℕ) (L : DeclaredNames) (find : (t : Shape Kind) → NamesTypes P t → Finds (record { program = P; item = a; lifetimes = L }) P t) (s : Span) (row : ℕ → List ℕ) where
  abbrev J : Inside
  J = record { program = Q; item = b; lifetimes = L }

  abbrev OneRead : TypeTree → ℕ → ℕ → List NodeNames → List NodeNames → Type 0
  OneRead y n many l m = MadeRead J s row Q y n many l m

  abbrev AllRead : TypeTrees → ℕ → ℕ → List NodeNames → List NodeNames → Type 0
  AllRead ys n many l m = MadeReadAll J s row Q ys n many l m

  front_read : (y : TypeTree) (ys : TypeTrees) (n i j : ℕ) (l m r : List NodeNames) → OneRead y n i l m → AllRead ys (n + i) j m r → AllRead (plain.type_and y ys) n (i + j) l r
  front_read y ys n i j l m r x more = record {
    lifetimes = x.lifetimes ++ more.lifetimes;
    occur = occur_both J s row n i j x.lifetimes more.lifetimes x.occur more.occur;
    reads = λ e w ls h.
        let p = x.reads e w ls h in
        let q = more.reads e w (ls ++ x.lifetimes) h in (
          p.0 ∷ q.0,
          ap (λ (o : steps.Outcome (Ty × Reading)). on_ok o (λ p. on_ok (types_of Q e ys p.1) (λ w. Ok (p.0 ∷ w.0, w.1)))) p.1
              ∙ ap (λ (o : steps.Outcome (List Ty × Reading)). on_ok o (λ w. Ok (p.0 ∷ w.0, w.1))) q.1
              ∙ ap (λ (z : List ℕ). Ok (p.0 ∷ q.0, reading r z h)) (append_assoc ls x.lifetimes more.lifetimes),
        );
  }

  none_read : (n : ℕ) (m : List NodeNames) → AllRead plain.no_type n 0 m m
  none_read n m = record { lifetimes = []; occur = none_occur J s row n; reads = λ e w ls h. ([], ap (λ (z : List ℕ). Ok ([], reading m z h)) (sym (append-nil ls))) }

  plain_read : (y : TypeTree) (z : Ty) (n : ℕ) (m : List NodeNames) → ((e : Role) (ls : List ℕ) (h : ℕ) → type_of Q e y (reading m ls h) ≡ Ok (z, reading m ls h)) → OneRead y n 0 m m
  plain_read y z n m is = record { lifetimes = []; occur = none_occur J s row n; reads = λ e w ls h. (z, is e ls h ∙ ap (λ (l : List ℕ). Ok (z, reading m l h)) (sym (append-nil ls))) }

  module _ (G : List NodeNames) where
    pub record LeftMade (u : ItemNames) (R : List NodeNames → Type 0) : Type 0 where
      pub left : List NodeNames
      pub stands : G ≡ u.names ++ left
      pub made : R left

    mutual
      pub full_read : (at : List ℕ) (n : ℕ) (t : Shape Kind) → NamesTypes P t → (u u' : ItemNames) → in_type J at (full P s row n t) u ≡ Ok u' → (m : List NodeNames) → G ≡ u'.names ++ m → LeftMade u (λ l. OneRead (full P s row n t) n (positions P t) l m)
      full_read at n (integer z) h u u' e m g = record { left = m; stands = before_none G u u' m e g; made = plain_read (plain.kind_type s z) (ty.Int z) n m (λ e ls h. refl) }
      full_read at n boolean h u u' e m g = record { left = m; stands = before_none G u u' m e g; made = plain_read (plain.bool_type s) ty.Bool n m (λ e ls h. refl) }
      full_read at n (tuple_of ts) h u u' e m g =
          let a = all_read at 0 n ts h u u' e m g in
          record {
            left = a.left;
            stands = a.stands;
            made = record {
              lifetimes = a.made.lifetimes;
              occur = a.made.occur;
              reads = λ e w ls h. let r = a.made.reads e w ls h in (ty.Tuple r.0, ap (λ (o : steps.Outcome (List Ty × Reading)). on_ok o (λ p. Ok (ty.Tuple p.0, p.1))) r.1);
            };
          }
      full_read at n (reference b t) h u u' e m g =
          let p = named_ok (in_lifetime J at (Some (ident s (row n))) u) (in_type J (child at 0) (full P s row (suc n) t)) u' e in
          let x = lifetime_entry J at (lifetime_in J (ident s (row n))) u p.0 p.1 in
          let a = full_read (child at 0) (suc n) t h p.0 u' p.2 m g in
          let n' = entry J at (x.0 ∷ []) in
          record {
            left = n' ∷ a.left;
            stands = before_entry G n' u p.0 a.left x.2 a.stands;
            made = record {
              lifetimes = x.0 ∷ a.made.lifetimes;
              occur = subst (λ (o : ℕ). Occur J s row n o (x.0 ∷ a.made.lifetimes)) (let more : 1 + positions P t ≡ suc (positions P t) = omega arith in more)
                  (occur_both J s row n 1 (positions P t) (x.0 ∷ []) a.made.lifetimes (here n x.0 x.1)
                  (subst (λ (o : ℕ). Occur J s row o (positions P t) a.made.lifetimes) (let more : suc n ≡ n + 1 = omega arith in more) a.made.occur));
              reads = λ e w ls h. let r = a.made.reads e w (ls ++ x.0 ∷ []) h in (
                pointing b x.0 r.0,
                ap (λ (o : steps.Outcome (Ty × Reading)). on_ok o (λ p. Ok (pointing b x.0 p.0, p.1))) r.1
                    ∙ ap (λ (z : List ℕ). Ok (pointing b x.0 r.0, reading m z h)) (append_assoc ls (x.0 ∷ []) a.made.lifetimes),
              );
            };
          }
        where
          here : (n y : ℕ) → lifetime_in J (ident s (row n)) ≡ Ok y → Occur J s row n 1 (y ∷ [])
          here n y e i j l m g =
              let same : i ≡ n = (let less : i < n + 1 = m in omega (arith, l, less)) in
              let one : j ≡ y = the_same j y (sym g ∙ ap (λ (x : ℕ). lifetime_in J (ident s (row x))) same ∙ e) in
              subst (λ (x : ℕ). is_among x (y ∷ []) ≡ true) (sym one) (in_front_of y [])
      full_read at n (types.named i) h u u' e m g =
          let x = ident s (name_of P i) in
          let ls = list_if_any (lifetimes_from s row n (made.lifetimes_of P i)) in
          let v = name_entry J at (type_in J x) (lifetimes_in J (written ls)) u u' e in
          let n' = entry J at (v.0 ∷ v.1) in
          record {
            left = n' ∷ m;
            stands = before_entry G n' u u' m v.4 g;
            made = item_read J s row Q x n (made.lifetimes_of P i) v.0 v.1 n' m refl
                (ap length (same_list P Q items k a b L x i v.0 (find (types.named i) h s) v.2) ∙ counts_there (slice_get P i) h) v.3;
          }

      pub all_read : (at : List ℕ) (c n : ℕ) (ts : Shapes Kind) → NameTypes P ts → (u u' : ItemNames) → in_types J at c (all_full P s row n ts) u ≡ Ok u' → (m : List NodeNames) → G ≡ u'.names ++ m → LeftMade u (λ l. AllRead (all_full P s row n ts) n (all_positions P ts) l m)
      all_read at c n no_shape h u u' e m g = record { left = m; stands = before_none G u u' m e g; made = none_read n m }
      all_read at c n (shape_and t ts) h u u' e m g =
          let y = full P s row n t in let ys = all_full P s row (n + positions P t) ts in
          let p = named_ok (in_type J (child at c) y u) (in_types J at (next c) ys) u' e in
          let more = all_read at (next c) (n + positions P t) ts h.1 p.0 u' p.2 m g in
          let x = full_read (child at c) n t h.0 u p.0 p.1 more.left more.stands in
          record { left = x.left; stands = x.stands; made = front_read y ys n (positions P t) (all_positions P ts) x.left more.left m x.made more.made }

    pub each_read : (at : List ℕ) (c n : ℕ) (ts : List Typ) → Every (λ (t : Typ). NamesTypes P t) ts → (u u' : ItemNames) → in_types J at c (each_full P s row n ts) u ≡ Ok u' → (m : List NodeNames) → G ≡ u'.names ++ m → LeftMade u (λ l. AllRead (each_full P s row n ts) n (positions_of P ts) l m)
    each_read at c n [] h u u' e m g = record { left = m; stands = before_none G u u' m e g; made = none_read n m }
    each_read at c n (t ∷ ts) h u u' e m g =
        let y = full P s row n t in let ys = each_full P s row (n + positions P t) ts in
        let p = named_ok (in_type J (child at c) y u) (in_types J at (next c) ys) u' e in
        let more = each_read at (next c) (n + positions P t) ts h.1 p.0 u' p.2 m g in
        let x = full_read (child at c) n t h.0 u p.0 p.1 more.left more.stands in
        record { left = x.left; stands = x.stands; made = front_read y ys n (positions P t) (positions_of P ts) x.left more.left m x.made more.made }
