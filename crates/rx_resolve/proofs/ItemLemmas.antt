-- A table of items finds the first item of a name, with its number.
use Rattle.std.proofs.Common.{Result, Ok, Err, IfOk, ◌≡◌, ℕ, suc, ◌+◌, ◌<◌, ◌^◌, Bool, true, false, cond, List, [], ◌∷◌, ◌++◌, length, map, Option, Some, None, option_map, slice_get, refl, sym, ap, ◌∙◌, arith, true≢false, is_none}
use Rattle.std.specs.Str.{bytes_eq}
use Rattle.std.proofs.lemmas.Option.{slice_get_within, slice_get-map}
use Rattle.rx_tree.specs.declared.tree.Item.{Item}
use Rattle.rx_tree.specs.PlainOf.{plain-Item}
use Rattle.std.specs.Cmp.Lexicographic.{bytes_decides}
use Rattle.rx_tree.specs.declared.tree.Ident.{Ident}
use Rattle.rx_tree.specs.declared.tree.EnumVariant.{EnumVariant}
use Rattle.rx_tree.specs.declared.tree.BoundLifetime.{BoundLifetime}
use Rattle.rx_tree.specs.PlainOf.{plain-EnumVariant}
use Rattle.rx_tree.specs.Plain.{ItemTree, ProgramTree, VariantOf}
use Rattle.rx_resolve_names.specs.declared.table.NumberedName.{NumberedName}
use Rattle.rx_resolve_names.specs.Scopes.{DeclaredNames, declared_as}
use Rattle.rx_resolve_names.specs.Meant.{number, item_named, has_name, kept, variant_names, variants_of, as_function}
use Rattle.rx_resolve.specs.Tables.{kept_in, names_from}

abbrev or : {A : Type 0} → Option A → Option A → Option A
or None b = b
or (Some a) b = Some a

declared_push : (ds : DeclaredNames) (d : List ℕ × NumberedName) (x : List ℕ) → declared_as (ds ++ d ∷ []) x ≡ or (declared_as ds x) (cond (bytes_eq x d.0) (Some d.1) None)
declared_push [] d x = refl
declared_push (e ∷ ds) d x = by (bytes_eq x e.0) (declared_push ds d x)
  where
    by : (b : Bool) → declared_as (ds ++ d ∷ []) x ≡ or (declared_as ds x) (cond (bytes_eq x d.0) (Some d.1) None)
        → cond b (Some e.1) (declared_as (ds ++ d ∷ []) x) ≡ or (cond b (Some e.1) (declared_as ds x)) (cond (bytes_eq x d.0) (Some d.1) None)
    by true h = refl
    by false h = h

-- the number of what was found
abbrev numbered : Option (ℕ × ItemTree) → Option ℕ
numbered None = None
numbered (Some e) = Some (number e.0)

abbrev number_of : Option NumberedName → Option ℕ
number_of None = None
number_of (Some k) = Some k.number

module _ (name : ItemTree → Option Ident) (x : List ℕ) where
  -- one more item in a table
  one_more : (ds : DeclaredNames) (n : ℕ) (y : Option Ident) → number_of (declared_as (kept_in ds n y) x) ≡ or (number_of (declared_as ds x)) (cond (has_name x y) (Some (number n)) None)
  one_more ds n None = by (number_of (declared_as ds x))
    where
      by : (o : Option ℕ) → o ≡ or o None
      by None = refl
      by (Some m) = refl
  one_more ds n (Some y) = by (declared_as ds y.name) refl
    where
      after : Option ℕ → Type 0
      after r = r ≡ or (number_of (declared_as ds x)) (cond (bytes_eq x y.name) (Some (number n)) None)

      there : (k : NumberedName) → declared_as ds y.name ≡ Some k → (b : Bool) → bytes_eq x y.name ≡ b → number_of (declared_as ds x) ≡ or (number_of (declared_as ds x)) (cond b (Some (number n)) None)
      there k is true same = ap (λ z. number_of (declared_as ds z)) ((bytes_decides x y.name).0 same) ∙ ap number_of is ∙ sym (ap (λ o. or o (Some (number n))) (ap (λ z. number_of (declared_as ds z)) ((bytes_decides x y.name).0 same) ∙ ap number_of is))
      there k is false same = of (number_of (declared_as ds x))
        where
          of : (o : Option ℕ) → o ≡ or o None
          of None = refl
          of (Some m) = refl

      pushed : (o : Option NumberedName) (b : Bool) → number_of (or o (cond b (Some (record { number = number n; span = y.span })) None)) ≡ or (number_of o) (cond b (Some (number n)) None)
      pushed None true = refl
      pushed None false = refl
      pushed (Some k) b = refl

      by : (o : Option NumberedName) → declared_as ds y.name ≡ o → number_of (declared_as (kept ds y n o) x) ≡ or (number_of (declared_as ds x)) (cond (bytes_eq x y.name) (Some (number n)) None)
      by None is = ap number_of (declared_push ds (y.name, record { number = number n; span = y.span }) x) ∙ pushed (declared_as ds x) (bytes_eq x y.name)
      by (Some k) is = there k is (bytes_eq x y.name) refl

  or_or : (a b : Option ℕ) (c : Bool) (n : ℕ) → or (or a (cond c (Some n) None)) b ≡ or a (cond c (Some n) b)
  or_or None b true n = refl
  or_or None b false n = refl
  or_or (Some a) b c n = refl

  chosen : (c : Bool) (e : ℕ × ItemTree) (o : Option (ℕ × ItemTree)) → cond c (Some (number e.0)) (numbered o) ≡ numbered (cond c (Some e) o)
  chosen true e o = refl
  chosen false e o = refl

  found_from : (ds : DeclaredNames) (n : ℕ) (is : ProgramTree) → number_of (declared_as (names_from name ds n is) x) ≡ or (number_of (declared_as ds x)) (numbered (item_named name n is x))
  found_from ds n [] = by (number_of (declared_as ds x))
    where
      by : (o : Option ℕ) → o ≡ or o None
      by None = refl
      by (Some m) = refl
  found_from ds n (i ∷ is) = found_from (kept_in ds n (name i)) (suc n) is ∙ ap (λ o. or o (numbered (item_named name (suc n) is x))) (one_more ds n (name i))
      ∙ or_or (number_of (declared_as ds x)) (numbered (item_named name (suc n) is x)) (has_name x (name i)) (number n)
      ∙ ap (or (number_of (declared_as ds x))) (chosen (has_name x (name i)) (n, i) (item_named name (suc n) is x))

  -- the item that is found stands at its number
  stands : (m : ℕ) (is : ProgramTree) (n : ℕ) (i : ItemTree) → item_named name m is x ≡ Some (n, i) → (k : ℕ) × (n ≡ m + k) × (slice_get is k ≡ Some i)
  stands m [] n i h = absurd (true≢false (ap is_none h))
  stands m (j ∷ is) n i h = by (has_name x (name j)) refl h (stands (suc m) is n i)
    where
      by : (b : Bool) → has_name x (name j) ≡ b → cond b (Some (m, j)) (item_named name (suc m) is x) ≡ Some (n, i)
          → (item_named name (suc m) is x ≡ Some (n, i) → (k : ℕ) × (n ≡ suc m + k) × (slice_get is k ≡ Some i)) → (k : ℕ) × (n ≡ m + k) × (slice_get (j ∷ is) k ≡ Some i)
      by true e q rest = (0, sym (ap first q) ∙ omega arith, ap second q)
        where
          first : Option (ℕ × ItemTree) → ℕ
          first None = m
          first (Some e) = e.0

          second : Option (ℕ × ItemTree) → Option ItemTree
          second None = None
          second (Some e) = Some e.1
      by false e q rest = let r = rest q in (suc r.0, r.1 ∙ omega arith, r.2)

  module _ (p : ProgramTree) (small : length p < 2 ^ 32) where
    abbrev table : DeclaredNames
    table = names_from name [] 0 p

    agrees : number_of (declared_as table x) ≡ numbered (item_named name 0 p x)
    agrees = found_from [] 0 p

    pub found_none : declared_as table x ≡ None → item_named name 0 p x ≡ None
    found_none h = by (item_named name 0 p x) (sym (ap number_of h) ∙ agrees)
      where
        by : (o : Option (ℕ × ItemTree)) → None ≡ numbered o → o ≡ None
        by None h = refl
        by (Some e) h = absurd (true≢false (ap is_none h))

    pub found_some : (k : NumberedName) → declared_as table x ≡ Some k → (i : ItemTree) × (item_named name 0 p x ≡ Some (k.number, i)) × (slice_get p k.number ≡ Some i)
    found_some k h = by (item_named name 0 p x) refl (sym (ap number_of h) ∙ agrees)
      where
        zero_plus : (k : ℕ) → 0 + k ≡ k
        zero_plus k = omega arith

        fits : (n : ℕ) (i : ItemTree) → item_named name 0 p x ≡ Some (n, i) → (number n ≡ n) × (slice_get p n ≡ Some i)
        fits n i is = let r = stands 0 p n i is in
            let here : slice_get p n ≡ Some i = ap (slice_get p) (r.1 ∙ zero_plus r.0) ∙ r.2 in
            let within = slice_get_within p n i here in
            (omega arith, here)

        of : Option ℕ → ℕ
        of None = 0
        of (Some n) = n

        by : (o : Option (ℕ × ItemTree)) → item_named name 0 p x ≡ o → Some k.number ≡ numbered o → (i : ItemTree) × (o ≡ Some (k.number, i)) × (slice_get p k.number ≡ Some i)
        by None is h = absurd (true≢false (sym (ap is_none h)))
        by (Some e) is h = let f = fits e.0 e.1 is in
            let same : e.0 ≡ k.number = sym f.0 ∙ sym (ap of h) in
            (e.1, ap (λ n. Some (n, e.1)) same, ap (slice_get p) (sym same) ∙ f.1)

slice_get-mapped : {A B : Type 0} (f : A → B) (xs : List A) (n : ℕ) (r : Option A) → slice_get xs n ≡ r → slice_get (map f xs) n ≡ option_map f r
slice_get-mapped f xs n r h = slice_get-map f xs n ∙ ap (option_map f) h

some_is : {A : Type 0} (a : A) (o : Option A) (b : A) → o ≡ Some a → o ≡ Some b → a ≡ b
some_is {A = A} a o b h k = ap of (sym h ∙ k)
  where
    of : Option A → A
    of None = a
    of (Some x) = x

-- the code's ways through a table of items
module _ (name : ItemTree → Option Ident) (items : List Item) (types : DeclaredNames) (x : List ℕ) (are : types ≡ names_from name [] 0 (map plain-Item items)) (small : length (map plain-Item items) < 2 ^ 32) where
  pub item_absent : declared_as types x ≡ None → item_named name 0 (map plain-Item items) x ≡ None
  item_absent h = found_none name x (map plain-Item items) small (sym (ap (λ t. declared_as t x) are) ∙ h)

  pub item_present : (k : NumberedName) → declared_as types x ≡ Some k → (i : ItemTree) × (item_named name 0 (map plain-Item items) x ≡ Some (k.number, i)) × (slice_get (map plain-Item items) k.number ≡ Some i)
  item_present k h = found_some name x (map plain-Item items) small k (sym (ap (λ t. declared_as t x) are) ∙ h)

  pub item_is : (k : NumberedName) (i : Item) → declared_as types x ≡ Some k → slice_get items k.number ≡ Some i → item_named name 0 (map plain-Item items) x ≡ Some (k.number, plain-Item i)
  item_is k i h at = let f = item_present k h in
      f.1 ∙ ap (λ j. Some (k.number, j)) (some_is f.0 (slice_get (map plain-Item items) k.number) (plain-Item i) f.2 (slice_get-mapped plain-Item items k.number (Some i) at))

  pub item_there : (k : NumberedName) → declared_as types x ≡ Some k → slice_get items k.number ≡ None → ⊥
  item_there k h at = let f = item_present k h in true≢false (ap is_none (sym (slice_get-mapped plain-Item items k.number None at) ∙ f.2))

  pub variants_there : (k : NumberedName) → declared_as types x ≡ Some k → slice_get (map variant_names (map plain-Item items)) k.number ≡ None → ⊥
  variants_there k h at = let f = item_present k h in true≢false (ap is_none (sym at ∙ slice_get-mapped variant_names (map plain-Item items) k.number (Some f.0) f.2))

  pub variants_are_of : (k : NumberedName) (vs : DeclaredNames) → declared_as types x ≡ Some k → slice_get (map variant_names (map plain-Item items)) k.number ≡ Some vs
      → variants_of (item_named name 0 (map plain-Item items) x) ≡ vs
  variants_are_of k vs h at = let f = item_present k h in
      ap variants_of f.1 ∙ some_is (variant_names f.0) _ vs (slice_get-mapped variant_names (map plain-Item items) k.number (Some f.0) f.2) at

  pub function_number : (r : Option NumberedName) → r ≡ declared_as types x → option_map (λ (k : NumberedName). k.number) r ≡ as_function (item_named name 0 (map plain-Item items) x)
  function_number None h = ap as_function (sym (item_absent (sym h)))
  function_number (Some k) h = ap as_function (sym (item_present k (sym h)).1)

pub variant_idents : (l : List EnumVariant) → map (λ (v : VariantOf). v.name) (map plain-EnumVariant l) ≡ map (λ (v : EnumVariant). v.name) l
variant_idents [] = refl
variant_idents (v ∷ l) = ap (λ r. v.name ∷ r) (variant_idents l)

pub lifetime_places : (l : List BoundLifetime) → map (λ (i : Ident). i.span) (map (λ (b : BoundLifetime). b.name) l) ≡ map (λ (b : BoundLifetime). b.name.span) l
lifetime_places [] = refl
lifetime_places (b ∷ l) = ap (λ r. b.name.span ∷ r) (lifetime_places l)

pub if_ok : {A E : Type 0} {P Q : A → Type 0} (r : Result A E) → ((a : A) → P a → Q a) → IfOk r P → IfOk r Q
if_ok (Ok a) f h = f a h
if_ok (Err e) f h = h
