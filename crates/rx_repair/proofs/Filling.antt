-- A temporary has the type of the value that the first action which fills it makes. So where each action makes a value of the type of the
-- temporary that it fills, and those that were filled before have theirs, all have: along the actions.
use Rattle.std.proofs.Common.{◌≡◌, ℕ, ◌+◌, ◌-◌, Bool, true, false, ◌==◌, if◌then◌else◌, List, [], ◌∷◌, ◌++◌, length, map, drop, Option, Some, None, slice_get, refl, sym, ap, subst, ◌∙◌, append_assoc, arith, true≢false}
use Rattle.std.proofs.lemmas.Bool.{and_parts}
use Rattle.std.proofs.lemmas.Bool.Decides.{Decides-eqb}
use Rattle.std.proofs.lemmas.List.{length-map}
use Rattle.rx_core.specs.declared.types.Bound.{Bound}
use Rattle.rx_typed.specs.declared.declarations.Decl.{Decl}
use Rattle.rx_typed.specs.Regions.{RegionTyp, region_integer, region_boolean, region_tuple, region_reference, region_named, RegionTyps, no_region, region_and, erased, all_erased}
use Rattle.rx_typed.specs.Types.{Typ, Declarations, named}
use Rattle.rx_typed.specs.Types as types
use Rattle.rx_typed.specs.Tree.{Temporary, Making, struct, variant_of}
use Rattle.rx_typed.specs.Numbers.{open_one, open_in, number, numbers, numbered}
use Rattle.rx_typed.specs.Numbers as numbers_of
use Rattle.rx_lower_walks.specs.Actions.{Act, Build, Action, does, filled}
use Rattle.rx_lower_walks.specs.Walks.{Among}
use Rattle.rx_lower_lifetimes.specs.Values.{Open, KnownTypes, Held, same, is_held, held_type, value_type, hold, held_by, lifetimes_of}
use Rattle.rx_lower_lifetimes.specs.Numbered.{all_numbered, opened}
use Rattle.rx_lower_lifetimes.specs.Lowered.{known, actions, temporaries}
use Rattle.rx_lower.specs.Functions.{function}
use Rattle.rx_region.specs.Constraints.{held, temporary_type}
use Rattle.rx_typeck_typed.specs.declared.typed.TypedFn.{TypedFn}
use Rattle.rx_check.specs.Contexts.{context_of}
use Rattle.rx_repair.specs.Making.{IsOfItem, ActIsOfItem, AreOfItems, HeldAs, ValuesAre, ItemIs, ItemsAre}

-- ---- numbers say nothing of what a type is without them

mutual
  erased_same : (from next : ℕ) (t : RegionTyp) → erased (numbered from next t) ≡ erased t
  erased_same from next (region_integer k) = refl
  erased_same from next region_boolean = refl
  erased_same from next (region_tuple ts) = ap types.tuple_of (all_erased_same from next ts)
  erased_same from next (region_reference m l t) = ap (types.reference m) (erased_same from (next + open_one from l) t)
  erased_same from next (region_named i ls) = refl

  all_erased_same : (from next : ℕ) (ts : RegionTyps) → all_erased (numbers_of.all_numbered from next ts) ≡ all_erased ts
  all_erased_same from next no_region = refl
  all_erased_same from next (region_and t ts) = λ j. types.shape_and (erased_same from next t j) (all_erased_same from (next + open_in from t) ts j)

many : (n : ℕ) (V : List Open) (H : List Held) → length (all_numbered n (V ++ opened H)) ≡ length V + length H
many n [] [] = omega arith
many n [] (h ∷ H) = let more = many (n + open_in 0 h.typ) [] H in omega (arith, more)
many n (o ∷ V) H = let more = many (n + open_in o.from o.typ) V H in omega (arith, more)

temporaries_behind : (n : ℕ) (V : List Open) (H : List Held) → (m : ℕ) × (drop (length V) (all_numbered n (V ++ opened H)) ≡ all_numbered m (opened H))
temporaries_behind n [] H = (n, refl)
temporaries_behind n (o ∷ V) H = temporaries_behind (n + open_in o.from o.typ) V H

held_erased : (m : ℕ) (H : List Held) (d : Temporary) → erased (temporary_type (map (λ h. h.temporary) H) (all_numbered m (opened H)) d) ≡ erased (held_type H d)
held_erased m [] d = refl
held_erased m (h ∷ H) d = by (same h.temporary d) (held_erased (m + open_in 0 h.typ) H d)
  where
    by : (b : Bool) → erased (temporary_type (map (λ h. h.temporary) H) (all_numbered (m + open_in 0 h.typ) (opened H)) d) ≡ erased (held_type H d)
        → erased (if b then numbered 0 m h.typ else temporary_type (map (λ h. h.temporary) H) (all_numbered (m + open_in 0 h.typ) (opened H)) d) ≡ erased (if b then h.typ else held_type H d)
    by true e = erased_same 0 m h.typ
    by false e = e

held_is : (n : ℕ) (V : List Open) (H : List Held) (d : Temporary)
    → erased (temporary_type (map (λ h. h.temporary) H) (drop (length (all_numbered n (V ++ opened H)) - length (map (λ h. h.temporary) H)) (all_numbered n (V ++ opened H))) d) ≡ erased (held_type H d)
held_is n V H d =
    let all = many n V H in
    let some_held = length-map H (λ (h : Held). h.temporary) in
    let front : length (all_numbered n (V ++ opened H)) - length (map (λ (h : Held). h.temporary) H) ≡ length V = omega (arith, all, some_held) in
    let rest = temporaries_behind n V H in
    ap (λ (k : ℕ). erased (temporary_type (map (λ h. h.temporary) H) (drop k (all_numbered n (V ++ opened H))) d)) front
    ∙ (ap (λ (ts : List RegionTyp). erased (temporary_type (map (λ h. h.temporary) H) ts d)) rest.1 ∙ held_erased rest.0 H d)

-- ---- what is held has these types

same_is : (s t : Temporary) → same s t ≡ true → s ≡ t
same_is s t e =
    let x = and_parts (s.node == t.node) (s.which == t.which) e in
    let a = (Decides-eqb s.node t.node).0 x.0 in
    let b = (Decides-eqb s.which t.which).0 x.1 in
    λ j. record { node = a j; which = b j }

module _ (K : KnownTypes) (T : Temporary → Typ) where
  held_as : (H : List Held) (d : Temporary) → HeldAs T H → is_held H d ≡ true → erased (held_type H d) ≡ T d
  held_as [] d h e = absurd (true≢false (sym e))
  held_as (x ∷ H) d h e = by (same x.temporary d) refl (held_as H d h.1) e
    where
      by : (b : Bool) → same x.temporary d ≡ b → (is_held H d ≡ true → erased (held_type H d) ≡ T d) → (if b then true else is_held H d) ≡ true → erased (if b then x.typ else held_type H d) ≡ T d
      by true s k e = h.0 ∙ ap T (same_is x.temporary d s)
      by false s k e = k e

  one_more : (H : List Held) (x : Held) → HeldAs T H → erased x.typ ≡ T x.temporary → HeldAs T (H ++ x ∷ [])
  one_more [] x h k = (k, tt)
  one_more (y ∷ H) x h k = (h.0, one_more H x h.1 k)

  hold_as : (H : List Held) (o : Option Temporary) (t : RegionTyp) → HeldAs T H → ((d : Temporary) → o ≡ Some d → erased t ≡ T d) → HeldAs T (hold H o t)
  hold_as H None t h k = h
  hold_as H (Some d) t h k = by (is_held H d)
    where
      by : (b : Bool) → HeldAs T (if b then H else H ++ record { temporary = d; typ = t } ∷ [])
      by true = h
      by false = one_more H (record { temporary = d; typ = t }) h (k d refl)

  held_last : (H : List Held) (before : List Action) (a : Action) → held_by K H (before ++ a ∷ []) ≡ hold (held_by K H before) (filled a.act) (value_type K (held_by K H before) a.act)
  held_last H [] a = refl
  held_last H (b ∷ before) a = held_last (hold H (filled b.act) (value_type K H b.act)) before a

  module _ (all : List Action) (values : ValuesAre K T all) where
    along : (before us : List Action) → all ≡ before ++ us → HeldAs T (held_by K [] before) → HeldAs T (held_by K (held_by K [] before) us)
    along before [] e h = h
    along before (a ∷ us) e h =
        let H = held_by K [] before in
        let last = held_last [] before a in
        let next : HeldAs T (hold H (filled a.act) (value_type K H a.act)) = hold_as H (filled a.act) (value_type K H a.act) h (λ d s. values before us a d e s h) in
        subst (λ (I : List Held). HeldAs T (held_by K I us)) last
        (along (before ++ a ∷ []) us (e ∙ sym (append_assoc before (a ∷ []) us)) (subst (λ (I : List Held). HeldAs T I) (sym last) next))

    pub all_held_as : HeldAs T (held_by K [] all)
    all_held_as = along [] all refl tt

-- ---- of a function

module _ (D : List Decl) (P : ℕ → List Bound) (f : TypedFn) (T : Temporary → Typ) (values : ValuesAre (known (function D f)) T (actions (function D f)))
    (filled_held : (a : Action) (d : Temporary) → Among a (actions (function D f)) → filled a.act ≡ Some d → is_held (temporaries (function D f)) d ≡ true) where
  pub held_has : (a : Action) (d : Temporary) → Among a (actions (function D f)) → filled a.act ≡ Some d → erased (held (context_of D P f) d) ≡ T d
  held_has a d w e =
      held_is (lifetimes_of (slice_get D f.item)) (function D f).variables (temporaries (function D f)) d
      ∙ held_as (known (function D f)) T (temporaries (function D f)) d (all_held_as (known (function D f)) T (actions (function D f)) values) (filled_held a d w e)

  module _ (items : ItemsAre T (actions (function D f))) where
    item_is : (w : Making) (d : Temporary) → erased (held (context_of D P f) d) ≡ T d → ItemIs w (T d) → IsOfItem w (held (context_of D P f) d)
    item_is (struct i) d e h = e ∙ h
    item_is (variant_of i v) d e h = e ∙ h
    item_is _ d e h = tt

    act_is : (n : ℕ) (a : Act) → Among (does n a) (actions (function D f)) → ActIsOfItem (context_of D P f) a
    act_is n (Build w is ts d) k = item_is w d (held_has (does n (Build w is ts d)) d k refl) (items n w is ts d k)
    act_is n _ k = tt

    pub are_of_items : AreOfItems (context_of D P f) (actions (function D f))
    are_of_items a w = act_is a.node a.act w
