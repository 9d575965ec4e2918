-- The extraction is a program with new items behind a function, and its names have meanings where those of the program have, those of
-- the changed function and those of the new items. By induction on the items for what is free.
use Rattle.std.proofs.lemmas.Slice.Eq.{bytes_eq-Decides}
use Rattle.std.proofs.Common.{◌≡◌, ◌≢◌, ℕ, zero, suc, Bool, true, false, ◌||◌, if◌then◌else◌, List, [], ◌∷◌, ◌++◌, length, take, drop, Option, Some, None, Ok, refl, sym, ap, ◌∙◌, subst, bytes_eq}
use Rattle.rx_core.specs.declared.types.Span.{Span}
use Rattle.rx_tree.specs.declared.tree.Ident.{Ident}
use Rattle.rx_tree.specs.Lists.{Every, nth}
use Rattle.rx_tree.specs.Plain as plain
use Rattle.rx_tree.specs.Plain.{Enumeration, Function, ItemTree, ProgramTree}
use Rattle.rx_resolve_names.specs.declared.resolved.ItemNames.{ItemNames}
use Rattle.rx_resolve_names.specs.Meant.{type_name, function_name, has_name, item_named}
use Rattle.rx_resolve_names.specs.Items.{in_item, in_items, in_program}
use Rattle.rx_hoist_extraction.specs.Run.{Run, run_parts, loops_round}
use Rattle.rx_hoist_extraction.specs.Plan.{Bounds, Plan, has_enum, enum_name}
use Rattle.rx_hoist_extraction.specs.Pinned.{pinned_function}
use Rattle.rx_hoist_extraction.specs.NewEnum.{new_enum}
use Rattle.rx_hoist_extraction.specs.NewFunction.{new_function}
use Rattle.rx_hoist_extraction.specs.Extraction.{with_call, made_function, made_enum, new_items, added, extraction}
use Rattle.rx_hoist_extraction.proofs.NewItemsAt.{items_are}
use Rattle.rx_engine_names.specs.Insertion.{NotNamed, Inserted, past, number_there}
use Rattle.rx_engine_names.specs.NewNames.{Avoids, AvoidAll, enum_names, Differs, AllDiffer, Other, AreFree}
use Rattle.rx_engine_names.proofs.NoDoubles.{program_resolves}

-- ---- names that are not the same

differ : (x y : List ℕ) → x ≢ y → bytes_eq x y ≡ false
differ x y h = by (bytes_eq x y) refl
  where
    by : (b : Bool) → bytes_eq x y ≡ b → b ≡ false
    by true e = absurd (h ((bytes_eq-Decides x y).0 e))
    by false e = refl

-- what is found has the name
found_other : (name : ItemTree → Option Ident) (w x : List ℕ) (n k : ℕ) (i : ItemTree) (is : ProgramTree) → Every (λ i. Other w (name i)) is → item_named name n is x ≡ Some (k, i) → bytes_eq x w ≡ false
found_other name w x n k i [] h e = absurd (cc)
found_other name w x n k i (j ∷ is) h e = by (has_name x (name j)) (named (name j) h.0) e (found_other name w x (suc n) k i is h.1)
  where
    named : (o : Option Ident) → Other w o → has_name x o ≡ true → bytes_eq x w ≡ false
    named None other t = absurd (cc)
    named (Some y) other t = differ x w (λ q. other (sym q ∙ (bytes_eq-Decides x y.name).0 t))

    by : (b : Bool) → (b ≡ true → bytes_eq x w ≡ false) → (if b then Some (n, j) else item_named name (suc n) is x) ≡ Some (k, i) → (item_named name (suc n) is x ≡ Some (k, i) → bytes_eq x w ≡ false) → bytes_eq x w ≡ false
    by true other e r = other refl
    by false other e r = r e

differs_of : (w : List ℕ) (o : Option Ident) → Other w o → Differs w o
differs_of w None h = tt
differs_of w (Some y) h = differ w y.name h

or_false : (b : Bool) → b ≡ false → (b || false) ≡ false
or_false true e = e
or_false false e = refl

avoids_of : (w : List ℕ) (o : Option Ident) → Other w o → Avoids (w ∷ []) o
avoids_of w None h = tt
avoids_of w (Some y) h = or_false (bytes_eq y.name w) (differ y.name w (λ q. h (sym q)))

avoids_none : (o : Option Ident) → Avoids [] o
avoids_none None = tt
avoids_none (Some y) = refl

-- ---- items before and behind

pub parts_of : {A : Type 0} (xs : List A) (n : ℕ) (x : A) → nth xs n ≡ Some x → (xs ≡ take n xs ++ (x ∷ drop (suc n) xs)) × (length (take n xs) ≡ n)
parts_of [] n x e = absurd (cc)
parts_of (y ∷ ys) zero x e = let h : y ≡ x = cc in (ap (λ z. z ∷ ys) h, refl)
parts_of (y ∷ ys) (suc n) x e = let r = parts_of ys n x e in (ap (λ z. y ∷ z) r.0, ap suc r.1)

pub every_front : {A : Type 0} (P : A → Type 0) (xs ys : List A) → Every P (xs ++ ys) → Every P xs × Every P ys
every_front P [] ys h = (tt, h)
every_front P (x ∷ xs) ys h = let r = every_front P xs ys h.1 in ((h.0, r.0), r.1)

pub every_join : {A : Type 0} (P : A → Type 0) (xs ys : List A) → Every P xs → Every P ys → Every P (xs ++ ys)
every_join P [] ys h k = k
every_join P (x ∷ xs) ys h k = (h.0, every_join P xs ys h.1 k)

some_is : {A : Type 0} (a b : A) → Some a ≡ Some b → a ≡ b
some_is a b e = cc

-- ---- the extraction

module _ (P : ProgramTree) (r : Run) (pl : Plan) (bs : Bounds) (s : Span) (f : Function) (there : nth P r.item ≡ Some (plain.function_item s f)) (free : AreFree P pl) where
  abbrev g : Function
  g = pinned_function P r.span pl.pins f

  abbrev before : ProgramTree
  before = take r.item P

  abbrev behind : ProgramTree
  behind = drop (suc r.item) P

  abbrev new : ProgramTree
  new = new_items P r pl bs g

  fresh_types : (x : List ℕ) (n : ℕ) (i : ItemTree) → item_named type_name 0 P x ≡ Some (n, i) → NotNamed type_name x new
  fresh_types x n i e = by (has_enum pl.exits) refl
    where
      by : (b : Bool) → has_enum pl.exits ≡ b → NotNamed type_name x (if b then made_enum P r pl ∷ made_function P r pl bs g ∷ [] else made_function P r pl bs g ∷ [])
      by true t = (found_other type_name (enum_name pl) x 0 n i P (free.exits t) e, (refl, tt))
      by false t = (refl, tt)

  fresh_functions : (x : List ℕ) (n : ℕ) (i : ItemTree) → item_named function_name 0 P x ≡ Some (n, i) → NotNamed function_name x new
  fresh_functions x n i e = by (has_enum pl.exits)
    where
      other : bytes_eq x pl.name ≡ false
      other = found_other function_name pl.name x 0 n i P free.function e

      by : (b : Bool) → NotNamed function_name x (if b then made_enum P r pl ∷ made_function P r pl bs g ∷ [] else made_function P r pl bs g ∷ [])
      by true = (refl, (other, tt))
      by false = (other, tt)

  pub extraction_inserted : Inserted P (extraction P r pl bs)
  extraction_inserted = record {
    before = before;
    place = s;
    old = f;
    changed = with_call P r pl g;
    new = new;
    behind = behind;
    first = (parts_of P r.item (plain.function_item s f) there).0;
    second = items_are P r pl bs s f there;
    name = refl;
    fresh_types = fresh_types;
    fresh_functions = fresh_functions;
  }

  -- in both lists, in front and behind
  differ_all : (q : Option (Span × Enumeration)) (h : Function) → h.name.name ≡ pl.name → ((e : Span × Enumeration) → q ≡ Some e → Every (λ i. Other e.1.name.name (type_name i)) P) → AllDiffer q h (before ++ (plain.function_item s f ∷ [])) × AvoidAll (enum_names q) (h.name.name ∷ []) behind
  differ_all q h same exits = (
    all q (before ++ (plain.function_item s f ∷ [])) (front (λ i. Other h.name.name (function_name i)) functions) (λ e t. front (λ i. Other e.1.name.name (type_name i)) (exits e t)),
    each q behind (back (λ i. Other h.name.name (function_name i)) functions) (λ e t. back (λ i. Other e.1.name.name (type_name i)) (exits e t)),
  )
    where
      functions : Every (λ i. Other h.name.name (function_name i)) P
      functions = subst (λ x. Every (λ i. Other x (function_name i)) P) (sym same) free.function

      parts : P ≡ before ++ (plain.function_item s f ∷ behind)
      parts = (parts_of P r.item (plain.function_item s f) there).0

      front : (W : ItemTree → Type 0) → Every W P → Every W (before ++ (plain.function_item s f ∷ []))
      front W a = let z = every_front W before (plain.function_item s f ∷ behind) (subst (Every W) parts a) in every_join W before (plain.function_item s f ∷ []) z.0 (z.1.0, tt)

      back : (W : ItemTree → Type 0) → Every W P → Every W behind
      back W a = (every_front W before (plain.function_item s f ∷ behind) (subst (Every W) parts a)).1.1

      all : (q : Option (Span × Enumeration)) (is : ProgramTree) → Every (λ i. Other h.name.name (function_name i)) is → ((e : Span × Enumeration) → q ≡ Some e → Every (λ i. Other e.1.name.name (type_name i)) is) → AllDiffer q h is
      all q [] a b = tt
      all None (i ∷ is) a b = ((tt, differs_of h.name.name (function_name i) a.0), all None is a.1 (λ e t. (b e t).1))
      all (Some e) (i ∷ is) a b = ((differs_of e.1.name.name (type_name i) (b e refl).0, differs_of h.name.name (function_name i) a.0), all (Some e) is a.1 (λ e t. (b e t).1))

      each : (q : Option (Span × Enumeration)) (is : ProgramTree) → Every (λ i. Other h.name.name (function_name i)) is → ((e : Span × Enumeration) → q ≡ Some e → Every (λ i. Other e.1.name.name (type_name i)) is) → AvoidAll (enum_names q) (h.name.name ∷ []) is
      each q [] a b = tt
      each None (i ∷ is) a b = ((avoids_none (type_name i), avoids_of h.name.name (function_name i) a.0), each None is a.1 (λ e t. (b e t).1))
      each (Some e) (i ∷ is) a b = ((avoids_of e.1.name.name (type_name i) (b e refl).0, avoids_of h.name.name (function_name i) a.0), each (Some e) is a.1 (λ e t. (b e t).1))

  -- the names of the extraction have meanings where those of the program, of the changed function and of the new items have
  pub extraction_resolves : (ts : List ItemNames) → in_program P ≡ Ok ts → (t : ItemNames) (ns : List ItemNames) → in_item (extraction P r pl bs) r.item (plain.function_item s (with_call P r pl g)) ≡ Ok t → in_items (extraction P r pl bs) (suc r.item) new ≡ Ok ns
      → (us : List ItemNames) × (in_program (extraction P r pl bs) ≡ Ok us)
  unfolding extraction_inserted
  extraction_resolves ts e t ns one more =
      let far : length before ≡ r.item = (parts_of P r.item (plain.function_item s f) there).1 in
      let one' = subst (λ n. in_item (extraction P r pl bs) n (plain.function_item s (with_call P r pl g)) ≡ Ok t) (sym far) one in
      let more' = subst (λ n. in_items (extraction P r pl bs) (suc n) new ≡ Ok ns) (sym far) more in
      by (has_enum pl.exits) refl one' more'
    where
      h : Function
      h = new_function P pl bs r.span (loops_round r g) (run_parts r g)

      by : (b : Bool) → has_enum pl.exits ≡ b → in_item (extraction P r pl bs) (length before) (plain.function_item s (with_call P r pl g)) ≡ Ok t → in_items (extraction P r pl bs) (suc (length before)) new ≡ Ok ns
          → (us : List ItemNames) × (in_program (extraction P r pl bs) ≡ Ok us)
      by true has one more =
          let q : Option (Span × Enumeration) = Some (r.span, new_enum P pl r.span) in
          let d = differ_all q h refl (λ e is. subst (λ (z : Span × Enumeration). Every (λ i. Other z.1.name.name (type_name i)) P) (some_is (r.span, new_enum P pl r.span) e is) (free.exits has)) in
          program_resolves P (extraction P r pl bs) extraction_inserted q r.span h (ap (λ (b : Bool). if b then made_enum P r pl ∷ made_function P r pl bs g ∷ [] else made_function P r pl bs g ∷ []) has) d.0 d.1 ts e t ns one more
      by false has one more =
          let d = differ_all None h refl (λ e is. absurd (cc)) in
          program_resolves P (extraction P r pl bs) extraction_inserted None r.span h (ap (λ (b : Bool). if b then made_enum P r pl ∷ made_function P r pl bs g ∷ [] else made_function P r pl bs g ∷ []) has) d.0 d.1 ts e t ns one more

  -- the function of the run is the one that changes, at its number
  pub function_inserted : (extraction_inserted.old ≡ f) × (extraction_inserted.changed ≡ with_call P r pl g) × (extraction_inserted.place ≡ s) × (length extraction_inserted.before ≡ r.item)
  unfolding extraction_inserted
  function_inserted = (refl, refl, refl, (parts_of P r.item (plain.function_item s f) there).1)

  -- so many items are new, behind the function of the run
  pub numbers_there : (n : ℕ) → number_there extraction_inserted n ≡ past r.item (added pl) n
  unfolding extraction_inserted
  numbers_there n = ap (λ k. past k (length new) n) (parts_of P r.item (plain.function_item s f) there).1 ∙ ap (λ k. past r.item k n) (many (has_enum pl.exits))
    where
      many : (b : Bool) → length (if b then made_enum P r pl ∷ made_function P r pl bs g ∷ [] else made_function P r pl bs g ∷ []) ≡ (if b then 2 else 1)
      many true = refl
      many false = refl
