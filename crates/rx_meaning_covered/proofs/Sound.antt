-- Why an action ends a run, where its places lead through variants that are there: not because one leads nowhere. Of typed programs
-- without references.
use Rattle.std.specs.Prelude.{ℤ, slice_get}
use Rattle.std.proofs.Common.{◌≡◌, ℕ, zero, suc, Bool, true, false, List, [], ◌∷◌, ◌++◌, Option, Some, None, refl, sym, subst, ap, ◌∙◌, if◌then◌else◌, append-nil, append_assoc, true≢false}
use Rattle.rx_core.specs.declared.types.Kind.{Kind}
use Rattle.rx_core.specs.declared.types.Step.{Step}
use Rattle.rx_typed.specs.Types.{Typ, Shapes, integer, boolean, tuple_of, reference, named, Declared, Declarations, rt_declared, struct_declared, enum_declared, function_declared}
use Rattle.rx_typed.specs.Tree.{Root, variable, temporary, Temporary, Place, own, temporary_place, under}
use Rattle.rx_meaning_keeping.specs.Pending.{Pending}
use Rattle.rx_meaning_keeping.specs.Using.{Does}
use Rattle.rx_meaning_keeping.specs.Using as using
use Rattle.rx_meaning_typed.specs.TypedStates.{StateTyped}
use Rattle.rx_lower_walks.specs.Actions.{Act}
use Rattle.rx_meaning.specs.Endings.{Cause, Ending, wrong, lacks, astray, mistyped, missing_function, missing_arm, missing_value}
use Rattle.rx_meaning.specs.Straying.{unlike, where_some, why_no_part, why_no_content, why_not_followed, why_not_found, why_not_written, why_not_checked}
use Rattle.rx_meaning.specs.Values.{Value, Values, number, truth, whole, tagged, pointer, lacking, unit_value, and_then, field, part, with_part, get, put, element, with_element, slot_of, State, with_memory}
use Rattle.rx_meaning.specs.Results as results
use Rattle.rx_meaning.specs.Results.{Done, gives, or_ends}
use Rattle.rx_meaning.specs.Places.{Spot, in_slot, in_value, content, follow, spot, found, whole_value, after_write}
use Rattle.rx_meaning.specs.Operators as operators
use Rattle.rx_meaning.specs.Operators.{Computed, make, shown}
use Rattle.rx_meaning.specs.Acting.{checked, computed, next_input, does_plainly}
use Rattle.rx_facts_tables.specs.Setting.{is_behind}
use Rattle.rx_meaning_keeping.specs.Strict.{looks_at_lack, then_marks, does_strictly}
use Rattle.rx_meaning_keeping.proofs.Lost.{follow_plain}
use Rattle.rx_meaning_typed.specs.TypedActs.{Typing, shape_at, item_behind, typ_behind, typ_along, root_typ, place_typ, ActTyped}
use Rattle.rx_meaning_typed.specs.ValueTypes.{Store, HasType, of_number, of_truth, of_tuple, of_struct, of_enum, of_reference, of_lack, HaveTypes, none_typed, each_typed, AllTyped, no_typed, typed_and, MemoryTyped}
use Rattle.rx_meaning_typed.specs.NoReferences.{HasNoReference}
use Rattle.rx_meaning_typed.proofs.Parts.{some_is, split, part_typed}
use Rattle.rx_meaning_typed.proofs.Stores.{RootHeld, SlotsTyped, all_element}
use Rattle.rx_meaning_covered.specs.Ways.{Where, OnWay, HasNoVariant, IsHeld, root_value, Leads, Stands, HasSlot, SlotsFor}
use Rattle.rx_meaning_covered.proofs.Ways.{equal_is, where_at, direct_way}

-- ---- causes

abbrev pub IsSound : Cause → Type 0
IsSound astray = ⊥
IsSound missing_function = ⊥
IsSound missing_arm = ⊥
IsSound missing_value = ⊥
IsSound _ = Unit {0}

abbrev pub EndsSoundly : Ending → Type 0
EndsSoundly (wrong c) = IsSound c
EndsSoundly _ = Unit {0}

abbrev pub Soundly : Done ℕ → Type 0
Soundly (gives t v s) = Unit {0}
Soundly (results.ends t e) = EndsSoundly e

-- ---- types without references

items_refer_not : (o : Option Declared) (k : Bool) (u : Typ) → item_behind o (Step.Deref k) ≡ Some u → ⊥
items_refer_not None k u e = cc
items_refer_not (Some rt_declared) k u e = cc
items_refer_not (Some (struct_declared c l fs)) k u e = cc
items_refer_not (Some (enum_declared c l vs)) k u e = cc
items_refer_not (Some (function_declared ps t)) k u e = cc

pub only_references : (D : Declarations) (t : Typ) (k : Bool) (u : Typ) → typ_behind D t (Step.Deref k) ≡ Some u → HasNoReference D t → ⊥
only_references D (integer x) k u e free = cc
only_references D boolean k u e free = cc
only_references D (tuple_of ts) k u e free = cc
only_references D (reference m t) k u e free = free [] m t refl
only_references D (named i) k u e free = items_refer_not (slice_get D i) k u e

pub free_below : (D : Declarations) (t u : Typ) (s : Step) → typ_behind D t s ≡ Some u → HasNoReference D t → HasNoReference D u
free_below D t u s e free rs m x g = free (s ∷ rs) m x (subst (λ z. and_then z (λ y. typ_along D y rs) ≡ Some (reference m x)) (sym e) g)

pub plain_along : (D : Declarations) (ss : List Step) (t u : Typ) → typ_along D t ss ≡ Some u → HasNoReference D t → is_behind ss ≡ false
plain_along D [] t u e free = refl
plain_along D (Step.Field i ∷ ss) t u e free = let a = split (typ_behind D t (Step.Field i)) (λ z. typ_along D z ss) u e in plain_along D ss a.0 u a.2 (free_below D t a.0 (Step.Field i) a.1 free)
plain_along D (Step.Variant i ∷ ss) t u e free = let a = split (typ_behind D t (Step.Variant i)) (λ z. typ_along D z ss) u e in plain_along D ss a.0 u a.2 (free_below D t a.0 (Step.Variant i) a.1 free)
plain_along D (Step.Deref k ∷ ss) t u e free = let a = split (typ_behind D t (Step.Deref k)) (λ z. typ_along D z ss) u e in absurd (only_references D t k a.0 a.1 free)

-- ---- parts of typed values

module _ (L : Bool) (D : Declarations) (S : Store) where
  field_there : {vs : Values} {ts : Shapes Kind} → HaveTypes L D S vs ts → (i : ℕ) (t : Typ) → shape_at ts i ≡ Some t → field vs i ≡ None → ⊥
  field_there none_typed i t e g = cc
  field_there (each_typed h hs) zero t e g = cc
  field_there (each_typed h hs) (suc i) t e g = field_there hs i t e g

  -- a part that isn't there lacks a value, or is of another variant
  no_part : {v : Value} {t : Typ} → HasType L D S v t → (s : Step) (ss : List Step) (u : Typ) → typ_behind D t s ≡ Some u → HasNoReference D t → OnWay (s ∷ ss) v → part v s ≡ None → IsSound (unlike astray v)
  no_part of_number s ss u e free w p = absurd (cc)
  no_part of_truth s ss u e free w p = absurd (cc)
  no_part (of_tuple h) (Step.Field i) ss u e free w p = absurd (field_there h i u e p)
  no_part (of_tuple h) (Step.Variant j) ss u e free w p = absurd (cc)
  no_part (of_tuple h) (Step.Deref m) ss u e free w p = absurd (cc)
  no_part (of_struct d h) (Step.Field i) ss u e free w p = absurd (field_there h i u (subst (λ z. item_behind z (Step.Field i) ≡ Some u) d e) p)
  no_part (of_struct d h) (Step.Variant j) ss u e free w p = let q = subst (λ z. item_behind z (Step.Variant j) ≡ Some u) d e in absurd (cc)
  no_part {t = t} (of_struct d h) (Step.Deref m) ss u e free w p = absurd (only_references D t m u e free)
  no_part (of_enum d f h) (Step.Field i) ss u e free w p = let q = subst (λ z. item_behind z (Step.Field i) ≡ Some u) d e in absurd (cc)
  no_part (of_enum {v = v} {vs = vs} d f h) (Step.Variant j) ss u e free w p = let q = subst (λ z. (if z then Some (whole vs) else None) ≡ None) (equal_is v j w.0) p in absurd (cc)
  no_part {t = t} (of_enum d f h) (Step.Deref m) ss u e free w p = absurd (only_references D t m u e free)
  no_part {t = t} (of_reference a b c) s ss u e free w p = absurd (free [] _ _ refl)
  no_part of_lack s ss u e free w p = tt

  -- the way goes on in a part
  way_on : (s : Step) (ss : List Step) (v u : Value) → OnWay (s ∷ ss) v → part v s ≡ Some u → OnWay ss u
  way_on (Step.Field i) ss (whole vs) u w p = where_at (field vs i) (λ z. OnWay ss z) u p w
  way_on (Step.Variant j) ss (tagged i vs) u w p = subst (λ z. OnWay ss z) (some_is (sym (ap (λ z. if z then Some (whole vs) else None) (equal_is i j w.0)) ∙ p)) w.1
  way_on (Step.Field i) ss (tagged j vs) u w p = absurd (cc)
  way_on (Step.Variant j) ss (whole vs) u w p = absurd (cc)
  way_on (Step.Deref m) ss (whole vs) u w p = absurd (cc)
  way_on (Step.Deref m) ss (tagged j vs) u w p = absurd (cc)
  way_on s ss (number k z) u w p = absurd (cc)
  way_on s ss (truth b) u w p = absurd (cc)
  way_on s ss (pointer i q m) u w p = absurd (cc)
  way_on s ss (lacking l) u w p = absurd (cc)

  some_not_none : {A : Type 0} {a : A} → ◌≡◌ {A = Option A} (Some a) None → ⊥
  some_not_none e = cc

  no_part_on_way : (ss : List Step) (v : Value) (t u : Typ) → HasType L D S v t → typ_along D t ss ≡ Some u → HasNoReference D t → OnWay ss v → get ss v ≡ None → IsSound (why_no_part ss v)
  no_part_on_way [] v t u h e free w g = absurd (some_not_none g)
  no_part_on_way (s ∷ ss) v t u h e free w g = let a = split (typ_behind D t s) (λ z. typ_along D z ss) u e in by (λ y x h1 k fr w1 g1. no_part_on_way ss y x u h1 k fr w1 g1) (part v s) refl a.0 a.1 a.2 g
    where
      by : ((y : Value) (x : Typ) → HasType L D S y x → typ_along D x ss ≡ Some u → HasNoReference D x → OnWay ss y → get ss y ≡ None → IsSound (why_no_part ss y)) → (o : Option Value) → part v s ≡ o → (x : Typ) → typ_behind D t s ≡ Some x → typ_along D x ss ≡ Some u
          → and_then o (λ z. get ss z) ≡ None → IsSound (where_some o (unlike astray v) (λ z. why_no_part ss z))
      by go None p x f k g = no_part h s ss x f free w p
      by go (Some y) p x f k g = go y x (part_typed L D S h s y x f p) k (free_below D t x s f free) (way_on s ss v y w p) g

  abbrev PutsSo : List Step → Value → Typ → Type 0
  PutsSo ss y u = (z : Value) (x : Typ) → HasType L D S z x → typ_along D x ss ≡ Some u → HasNoReference D x → put ss y z ≡ None → IsSound (why_no_part ss z)

  -- a value in place of what stands at a place without variants
  not_put : (ss : List Step) (y v : Value) (t u : Typ) → HasType L D S v t → typ_along D t ss ≡ Some u → HasNoReference D t → HasNoVariant ss → put ss y v ≡ None → IsSound (why_no_part ss v)
  not_put [] y v t u h e free n g = absurd (some_not_none g)
  not_put (Step.Variant j ∷ ss) y v t u h e free n g = absurd n
  not_put (Step.Deref m ∷ ss) y v t u h e free n g = let a = split (typ_behind D t (Step.Deref m)) (λ z. typ_along D z ss) u e in absurd (only_references D t m a.0 a.1 free)
  not_put (Step.Field i ∷ ss) y v t u h e free n g = let a = split (typ_behind D t (Step.Field i)) (λ z. typ_along D z ss) u e in by (λ z x h1 k fr g1. not_put ss y z x u h1 k fr n g1) (part v (Step.Field i)) refl a.0 a.1 a.2 g
    where
      on_field : (v : Value) → OnWay (Step.Field i ∷ []) v
      on_field v = direct_way (Step.Field i ∷ []) tt v

      with_there : (v : Value) (u x : Value) → part v (Step.Field i) ≡ Some u → with_part v (Step.Field i) x ≡ None → ⊥
      with_there (whole vs) u x p q = some_not_none q
      with_there (number k z) u x p q = cc
      with_there (truth b) u x p q = cc
      with_there (tagged j vs) u x p q = cc
      with_there (pointer j r m) u x p q = cc
      with_there (lacking l) u x p q = cc

      at : PutsSo ss y u → (z : Value) (x : Typ) → part v (Step.Field i) ≡ Some z → (o : Option Value) → put ss y z ≡ o → typ_behind D t (Step.Field i) ≡ Some x → typ_along D x ss ≡ Some u → and_then o (λ r. with_part v (Step.Field i) r) ≡ None → IsSound (why_no_part ss z)
      at go z x p None q f k g = go z x (part_typed L D S h (Step.Field i) z x f p) k (free_below D t x (Step.Field i) f free) q
      at go z x p (Some r) q f k g = absurd (with_there v z r p g)

      by : PutsSo ss y u → (o : Option Value) → part v (Step.Field i) ≡ o → (x : Typ) → typ_behind D t (Step.Field i) ≡ Some x → typ_along D x ss ≡ Some u → and_then o (λ z. and_then (put ss y z) (λ r. with_part v (Step.Field i) r)) ≡ None
          → IsSound (where_some o (unlike astray v) (λ z. why_no_part ss z))
      by go None p x f k g = no_part h (Step.Field i) [] x f free (on_field v) p
      by go (Some z) p x f k g = at go z x p (put ss y z) refl f k g

  not_followed_value : (M : List Value) (ss : List Step) (v : Value) (t u : Typ) → HasType L D S v t → typ_along D t ss ≡ Some u → HasNoReference D t → OnWay ss v → follow M ss (in_value v) ≡ None → IsSound (why_not_followed M ss (in_value v))
  not_followed_value M [] v t u h e free w g = absurd (some_not_none g)
  not_followed_value M (Step.Deref m ∷ ss) v t u h e free w g = let a = split (typ_behind D t (Step.Deref m)) (λ z. typ_along D z ss) u e in absurd (only_references D t m a.0 a.1 free)
  not_followed_value M (Step.Field i ∷ ss) v t u h e free w g = let a = split (typ_behind D t (Step.Field i)) (λ z. typ_along D z ss) u e in by (λ y x h1 k fr w1 g1. not_followed_value M ss y x u h1 k fr w1 g1) (part v (Step.Field i)) refl a.0 a.1 a.2 g
    where
      by : ((y : Value) (x : Typ) → HasType L D S y x → typ_along D x ss ≡ Some u → HasNoReference D x → OnWay ss y → follow M ss (in_value y) ≡ None → IsSound (why_not_followed M ss (in_value y))) → (o : Option Value) → part v (Step.Field i) ≡ o → (x : Typ)
          → typ_behind D t (Step.Field i) ≡ Some x → typ_along D x ss ≡ Some u → and_then (and_then o (λ z. Some (in_value z))) (λ to. follow M ss to) ≡ None
          → IsSound (where_some (and_then o (λ z. Some (in_value z))) (unlike astray v) (λ to. why_not_followed M ss to))
      by go None p x f k g = no_part h (Step.Field i) ss x f free w p
      by go (Some y) p x f k g = go y x (part_typed L D S h (Step.Field i) y x f p) k (free_below D t x (Step.Field i) f free) (way_on (Step.Field i) ss v y w p) g
  not_followed_value M (Step.Variant i ∷ ss) v t u h e free w g = let a = split (typ_behind D t (Step.Variant i)) (λ z. typ_along D z ss) u e in by (λ y x h1 k fr w1 g1. not_followed_value M ss y x u h1 k fr w1 g1) (part v (Step.Variant i)) refl a.0 a.1 a.2 g
    where
      by : ((y : Value) (x : Typ) → HasType L D S y x → typ_along D x ss ≡ Some u → HasNoReference D x → OnWay ss y → follow M ss (in_value y) ≡ None → IsSound (why_not_followed M ss (in_value y))) → (o : Option Value) → part v (Step.Variant i) ≡ o → (x : Typ)
          → typ_behind D t (Step.Variant i) ≡ Some x → typ_along D x ss ≡ Some u → and_then (and_then o (λ z. Some (in_value z))) (λ to. follow M ss to) ≡ None
          → IsSound (where_some (and_then o (λ z. Some (in_value z))) (unlike astray v) (λ to. why_not_followed M ss to))
      by go None p x f k g = no_part h (Step.Variant i) ss x f free w p
      by go (Some y) p x f k g = go y x (part_typed L D S h (Step.Variant i) y x f p) k (free_below D t x (Step.Variant i) f free) (way_on (Step.Variant i) ss v y w p) g

-- from a slot
why_plain : (M : List Value) (ss qs : List Step) (i : ℕ) (b : Bool) → is_behind ss ≡ false → why_not_followed M ss (in_slot i qs b) ≡ why_no_content M (in_slot i (qs ++ ss) b)
why_plain M [] qs i b h = ap (λ z. why_no_content M (in_slot i z b)) (sym (append-nil qs))
why_plain M (Step.Field j ∷ ss) qs i b h = why_plain M ss (qs ++ Step.Field j ∷ []) i b h ∙ ap (λ z. why_no_content M (in_slot i z b)) (append_assoc qs (Step.Field j ∷ []) ss)
why_plain M (Step.Variant j ∷ ss) qs i b h = why_plain M ss (qs ++ Step.Variant j ∷ []) i b h ∙ ap (λ z. why_no_content M (in_slot i z b)) (append_assoc qs (Step.Variant j ∷ []) ss)
why_plain M (Step.Deref j ∷ ss) qs i b h = absurd (true≢false h)

-- what is followed in a value
pub follow_value : (M : List Value) (ss : List Step) (v : Value) → is_behind ss ≡ false → follow M ss (in_value v) ≡ and_then (get ss v) (λ u. Some (in_value u))
follow_value M [] v h = refl
follow_value M (Step.Field i ∷ ss) v h = by (λ u. follow_value M ss u h) (part v (Step.Field i))
  where
    by : ((u : Value) → follow M ss (in_value u) ≡ and_then (get ss u) (λ x. Some (in_value x))) → (o : Option Value) → and_then (and_then o (λ u. Some (in_value u))) (λ to. follow M ss to) ≡ and_then (and_then o (λ u. get ss u)) (λ u. Some (in_value u))
    by go None = refl
    by go (Some u) = go u
follow_value M (Step.Variant i ∷ ss) v h = by (λ u. follow_value M ss u h) (part v (Step.Variant i))
  where
    by : ((u : Value) → follow M ss (in_value u) ≡ and_then (get ss u) (λ x. Some (in_value x))) → (o : Option Value) → and_then (and_then o (λ u. Some (in_value u))) (λ to. follow M ss to) ≡ and_then (and_then o (λ u. get ss u)) (λ u. Some (in_value u))
    by go None = refl
    by go (Some u) = go u
follow_value M (Step.Deref m ∷ ss) v h = absurd (true≢false h)

element_there : {L : Bool} {D : Declarations} {S : Store} {M : List Value} {Z : List Typ} → AllTyped L D S M Z → (i : ℕ) (t : Typ) → element Z i ≡ Some t → (v : Value) × (element M i ≡ Some v)
element_there no_typed i t e = absurd (cc)
element_there (typed_and {v = v} h hs) zero t e = (v, refl)
element_there (typed_and h hs) (suc i) t e = element_there hs i t e

-- what is found where a way ends
abbrev finds : List Value → Option Spot → Option (Spot × Value)
finds M o = and_then o (λ at. and_then (content M at) (λ v. Some (at, v)))

abbrev finds_at : Spot → Option Value → Option (Spot × Value)
finds_at at o = and_then o (λ v. Some (at, v))

-- ---- actions

or_sound : {A : Type 0} (c : Cause) (o : Option A) (go : A → Done ℕ) → (o ≡ None → IsSound c) → ((x : A) → o ≡ Some x → Soundly (go x)) → Soundly (or_ends c o go)
or_sound c None go f h = f refl
or_sound c (Some x) go f h = h x refl

unlike_sound : (c : Cause) (v : Value) → IsSound c → IsSound (unlike c v)
unlike_sound c (number k z) h = h
unlike_sound c (truth b) h = h
unlike_sound c (whole vs) h = h
unlike_sound c (tagged i vs) h = h
unlike_sound c (pointer i p m) h = h
unlike_sound c (lacking l) h = tt

computed_sound : (c : Computed) (s : State) → Soundly (computed c s)
computed_sound (operators.gives v) s = tt
computed_sound (operators.traps t) s = tt
computed_sound operators.senseless s = tt

input_sound : (zs : List ℤ) (s : State) → Soundly (next_input zs s)
input_sound [] s = tt
input_sound (z ∷ zs) s = tt

module _ (L : Bool) (T : Typing) (S : Store) (s : State) (memory : MemoryTyped L T.declared S s.memory) (variables : SlotsTyped L T S s.frame.slots) (free : (r : Root) → HasNoReference T.declared (root_typ T r)) where
  -- in the slot of a variable
  module _ (x : ℕ) (ss : List Step) (u : Typ) (g : typ_along T.declared (T.variables x) ss ≡ Some u) where
    plain_here : is_behind ss ≡ false
    plain_here = plain_along T.declared ss (T.variables x) u g (free (variable x))

    followed : (i : ℕ) → follow s.memory ss (in_slot i [] true) ≡ Some (in_slot i ss true)
    followed i = follow_plain s.memory ss [] i true plain_here

    not_found_at : (vs : List Value) (i : ℕ) → slot_of s.frame.slots x ≡ Some i → (v : Value) → element s.memory i ≡ Some v → Where (root_value (variable x) vs s) (λ v. OnWay ss v) → found (record { root = variable x; steps = ss }) vs s ≡ None
        → IsSound (why_not_found (record { root = variable x; steps = ss }) vs s)
    not_found_at vs i q v e w f =
        let h = all_element memory i v (T.variables x) e (variables x i q) in
        let w1 = where_at (element s.memory i) (λ v. OnWay ss v) v e (subst (λ z. Where (and_then z (λ i. element s.memory i)) (λ v. OnWay ss v)) q w) in
        let f1 = subst (λ z. finds s.memory (and_then (and_then z (λ i. Some (in_slot i [] true))) (λ at. follow s.memory ss at)) ≡ None) q f in
        let f2 = subst (λ z. finds s.memory z ≡ None) (followed i) f1 in
        let f3 = subst (λ z. finds_at (in_slot i ss true) (and_then z (λ v. get ss v)) ≡ None) e f2 in
        subst (λ z. IsSound (where_some z astray (λ at. why_not_followed s.memory ss at))) (sym (ap (λ z. and_then z (λ i. Some (in_slot i [] true))) q))
        (subst (λ z. IsSound z) (sym (why_plain s.memory ss [] i true plain_here)) (subst (λ z. IsSound (where_some z astray (λ v. why_no_part ss v))) (sym e)
        (no_part_on_way L T.declared S ss v (T.variables x) u h g (free (variable x)) w1 (was_none i (get ss v) f3))))
      where
        was_none : (i : ℕ) (o : Option Value) → finds_at (in_slot i ss true) o ≡ None → o ≡ None
        was_none i None q = refl
        was_none i (Some v) q = absurd (cc)

    not_found_slot : (vs : List Value) → HasSlot s x → Where (root_value (variable x) vs s) (λ v. OnWay ss v) → found (record { root = variable x; steps = ss }) vs s ≡ None → IsSound (why_not_found (record { root = variable x; steps = ss }) vs s)
    not_found_slot vs h w f = let e = element_there memory h.0 (T.variables x) (variables x h.0 h.1) in not_found_at vs h.0 h.1 e.0 e.1 w f

    -- what may be written there
    written_at : (y : Value) → HasNoVariant ss → (i : ℕ) → slot_of s.frame.slots x ≡ Some i → (v : Value) → element s.memory i ≡ Some v → after_write y s.memory (in_slot i ss true) ≡ None → IsSound (why_not_written s.memory (in_slot i ss true))
    written_at y n i q v e f =
        let h = all_element memory i v (T.variables x) e (variables x i q) in
        let f1 = subst (λ z. and_then z (λ u. and_then (put ss y u) (λ x. Some (with_element s.memory i x))) ≡ None) e f in
        subst (λ z. IsSound (where_some z astray (λ v. why_no_part ss v))) (sym e) (not_put L T.declared S ss y v (T.variables x) u h g (free (variable x)) n (was_none (put ss y v) f1))
      where
        was_none : (o : Option Value) → ◌≡◌ {A = Option (List Value)} (and_then o (λ x. Some (with_element s.memory i x))) None → o ≡ None
        was_none None q = refl
        was_none (Some v) q = absurd (cc)

    not_written_slot : (y : Value) → HasNoVariant ss → HasSlot s x
        → Soundly (or_ends (why_not_found (record { root = variable x; steps = ss }) [] s) (spot (record { root = variable x; steps = ss }) [] s) (λ at. or_ends (why_not_written s.memory at) (after_write y s.memory at) (λ M. gives [] unit_value (with_memory s M))))
    not_written_slot y n h =
        let e = element_there memory h.0 (T.variables x) (variables x h.0 h.1) in
        subst (λ z. Soundly (or_ends (why_not_found (record { root = variable x; steps = ss }) [] s) z (λ at. or_ends (why_not_written s.memory at) (after_write y s.memory at) (λ M. gives [] unit_value (with_memory s M)))))
        (sym (ap (λ z. and_then (and_then z (λ i. Some (in_slot i [] true))) (λ at. follow s.memory ss at)) h.1 ∙ followed h.0))
        (or_sound (why_not_written s.memory (in_slot h.0 ss true)) (after_write y s.memory (in_slot h.0 ss true)) (λ M. gives [] unit_value (with_memory s M)) (λ f. written_at y n h.0 h.1 e.0 e.1 f) (λ M f. tt))

  -- held in a temporary
  not_found_held : (t : Temporary) (ss : List Step) (v : Value) (vs : List Value) (u : Typ) → HasType L T.declared S v (T.temporaries t) → typ_along T.declared (T.temporaries t) ss ≡ Some u → OnWay ss v
      → found (record { root = temporary t; steps = ss }) (v ∷ vs) s ≡ None → IsSound (why_not_found (record { root = temporary t; steps = ss }) (v ∷ vs) s)
  not_found_held t ss v vs u h g w f =
      let e = follow_value s.memory ss v (plain_along T.declared ss (T.temporaries t) u g (free (temporary t))) in
      not_followed_value L T.declared S s.memory ss v (T.temporaries t) u h g (free (temporary t)) w
      (e ∙ was_none (get ss v) (subst (λ z. finds s.memory z ≡ None) e f))
    where
      was_none : (o : Option Value) → finds s.memory (and_then o (λ u. Some (in_value u))) ≡ None → and_then o (λ u. Some (in_value u)) ≡ None
      was_none None q = refl
      was_none (Some y) q = absurd (cc)

  pub not_found : (p : Place) (vs : List Value) (u : Typ) → place_typ T p ≡ Some u → RootHeld L T S p.root vs → ((x : ℕ) → p.root ≡ variable x → HasSlot s x) → Leads p vs s → found p vs s ≡ None → IsSound (why_not_found p vs s)
  not_found p vs u g h slots w f = by p.root refl vs g h w f
    where
      by : (r : Root) → p.root ≡ r → (vs : List Value) → typ_along T.declared (root_typ T r) p.steps ≡ Some u → RootHeld L T S r vs → IsHeld r vs × Where (root_value r vs s) (λ v. OnWay p.steps v)
          → found (record { root = r; steps = p.steps }) vs s ≡ None → IsSound (why_not_found (record { root = r; steps = p.steps }) vs s)
      by (variable x) q vs g h w f = not_found_slot x p.steps u g vs (slots x q) w.1 f
      by (temporary t) q [] g h w f = absurd w.0
      by (temporary t) q (v ∷ vs) g h w f = not_found_held t p.steps v vs u h g w.1 f

  written_soundly : (p : Place) (y : Value) (u : Typ) → place_typ T p ≡ Some u → ((x : ℕ) → p.root ≡ variable x → HasSlot s x) → HasNoVariant p.steps → IsHeld p.root []
      → Soundly (or_ends (why_not_found p [] s) (spot p [] s) (λ at. or_ends (why_not_written s.memory at) (after_write y s.memory at) (λ M. gives [] unit_value (with_memory s M))))
  written_soundly p y u g slots n w = by p.root refl g w
    where
      by : (r : Root) → p.root ≡ r → typ_along T.declared (root_typ T r) p.steps ≡ Some u → IsHeld r []
          → Soundly (or_ends (why_not_found (record { root = r; steps = p.steps }) [] s) (spot (record { root = r; steps = p.steps }) [] s) (λ at. or_ends (why_not_written s.memory at) (after_write y s.memory at) (λ M. gives [] unit_value (with_memory s M))))
      by (variable x) q g w = not_written_slot x p.steps u g y n (slots x q)
      by (temporary t) q g w = absurd w

  none_held : (r : Root) → RootHeld L T S r []
  none_held (variable x) = tt
  none_held (temporary t) = tt

  acts_soundly : {Rs : Temporary → Type 0} (a : Act) (vs : List Value) (K : Pending) (K1 : Value → Pending) → Does Rs a vs K K1 → ActTyped T a → StateTyped L T S s K → SlotsFor a s → Stands a vs s → Soundly (does_plainly a vs s)
  acts_soundly _ _ K _ (using.declares {x = x}) g i sl w = tt
  acts_soundly _ _ K _ using.dies g i sl w = tt
  acts_soundly _ _ K _ (using.reads {m = m} {p = p} {d = d} un) g i sl w =
      or_sound (why_not_found p [] s) (found p [] s) (λ f. or_ends lacks (whole_value f) (λ v. gives [] v s)) (λ f. not_found p [] (T.temporaries d) g (none_held p.root) sl w f) (λ f e. or_sound lacks (whole_value f) (λ v. gives [] v s) (λ z. tt) (λ v q. tt))
  acts_soundly _ _ K _ (using.borrows {m = m} {p = p} {d = d} un) g i sl w = absurd (free (temporary d) [] m g.0 (ap (λ z. Some z) g.2))
  acts_soundly _ _ _ _ (using.borrows_held {m = m} {t = t} {d = d} {ss = ss} {v = v} {K = K} un) g i sl w = absurd (free (temporary d) [] m g.0 (ap (λ z. Some z) g.2))
  acts_soundly _ _ K _ (using.tests {p = p} {c = c}) g i sl w =
      or_sound (why_not_found p [] s) (found p [] s) (λ f. or_ends (why_not_checked f.1) (checked c f.1) (λ y. gives [] (truth y) s)) (λ f. not_found p [] g.0 g.1 (none_held p.root) sl w f)
      (λ f e. or_sound (why_not_checked f.1) (checked c f.1) (λ y. gives [] (truth y) s) (λ z. unlike_sound mistyped f.1 tt) (λ y q. tt))
  acts_soundly _ _ _ _ (using.tests_held {t = t} {ss = ss} {c = c} {v = v} {K = K}) g i sl w =
      let p = under (temporary_place t) ss in
      or_sound (why_not_found p (v ∷ []) s) (found p (v ∷ []) s) (λ f. or_ends (why_not_checked f.1) (checked c f.1) (λ y. gives [] (truth y) s)) (λ f. not_found p (v ∷ []) g.0 g.1 i.pending.0.0 sl w f)
      (λ f e. or_sound (why_not_checked f.1) (checked c f.1) (λ y. gives [] (truth y) s) (λ z. unlike_sound mistyped f.1 tt) (λ y q. tt))
  acts_soundly _ _ _ _ (using.writes {p = p} {t = t} {v = v} {K = K}) g i sl w =
      or_sound (why_no_part [] v) (get [] v) (λ u. or_ends (why_not_found p [] s) (spot p [] s) (λ at. or_ends (why_not_written s.memory at) (after_write u s.memory at) (λ M. gives [] unit_value (with_memory s M))))
      (λ f. absurd (cc)) (λ u e. written_soundly p u g.0 g.1 sl w.0 w.1)
  acts_soundly _ _ _ _ (using.writes_part {x = x} {t = t} {ss = ss} {v = v} {K = K}) g i sl w =
      or_sound (why_no_part ss v) (get ss v) (λ u. or_ends (why_not_found (own x) [] s) (spot (own x) [] s) (λ at. or_ends (why_not_written s.memory at) (after_write u s.memory at) (λ M. gives [] unit_value (with_memory s M))))
      (λ f. no_part_on_way L T.declared S ss v (T.temporaries t) g.0 i.pending.0.0 g.2 (free (temporary t)) w.2.1 f) (λ u e. written_soundly (own x) u g.0 g.1 sl w.0 w.1)
  acts_soundly _ _ _ _ (using.builds {w = q} {js = js} {vs = vs} K pr lz un) g i sl w = computed_sound (make q js vs) s
  acts_soundly _ _ _ _ (using.joins {v = v} am un) g i sl w = tt
  acts_soundly _ _ K _ (using.inputs un) g i sl w = input_sound s.input s
  acts_soundly _ _ _ _ (using.prints {v = v}) g i sl w = or_sound (why_not_checked v) (shown v) (λ bytes. gives bytes unit_value s) (λ z. unlike_sound mistyped v tt) (λ bytes e. tt)
  acts_soundly _ _ _ _ using.gives_up g i sl w = tt
  acts_soundly _ _ _ _ (using.calls K pr un) g i sl w = tt

  marks_soundly : (a : Act) (r : Done ℕ) → Soundly r → Soundly (then_marks a r)
  marks_soundly a (gives t v s1) h = tt
  marks_soundly a (results.ends t e) h = h

  pub acts_strictly : {Rs : Temporary → Type 0} (a : Act) (vs : List Value) (K : Pending) (K1 : Value → Pending) → Does Rs a vs K K1 → ActTyped T a → StateTyped L T S s K → SlotsFor a s → Stands a vs s → Soundly (does_strictly a vs s)
  acts_strictly a vs K K1 d g i sl w = by (looks_at_lack a vs s)
    where
      by : (b : Bool) → Soundly (if b then results.ends [] (wrong lacks) else then_marks a (does_plainly a vs s))
      by true = tt
      by false = marks_soundly a (does_plainly a vs s) (acts_soundly a vs K K1 d g i sl w)
