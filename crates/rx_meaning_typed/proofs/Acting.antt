-- Each action of the plain way whose operands are of their types gives a value of its type, and keeps the types of all slots.
use Rattle.std.specs.Prelude.{ℤ, pos, map}
use Rattle.std.proofs.Common.{◌≡◌, ℕ, suc, Bool, true, false, nat_eq, List, [], ◌∷◌, ◌++◌, length, Option, Some, None, refl, sym, ap, subst, ◌∙◌, eqb-true, if◌then◌else◌, ◌&&◌, true≢false}
use Rattle.std.proofs.lemmas.Bool.{and_from}
use Rattle.rx_core.specs.declared.types.Kind.{Kind}
use Rattle.rx_core.specs.declared.types.Step.{Step}
use Rattle.rx_typed.specs.Types.{Typ, integer, reference}
use Rattle.rx_typed.specs.Tree as tree
use Rattle.rx_typed.specs.Tree.{Root, variable, temporary, Temporary, Place, lazy, own, temporary_place, under}
use Rattle.rx_lower_walks.specs.Actions.{Act, Declare, Dead, Read, Write, Borrow, Test, Call, Build, Input, Print, Give, Action, does}
use Rattle.rx_meaning.specs.Endings.{Cause, wrong, lacks, astray}
use Rattle.rx_meaning.specs.Straying.{why_no_part, why_not_found, why_not_written, why_not_checked}
use Rattle.rx_meaning.specs.Values.{Value, number, truth, lacking, unset, is_set, get, slot_of, element, unit_value, State, with_memory, with_variable}
use Rattle.rx_meaning.specs.Results as results
use Rattle.rx_meaning.specs.Results.{Done, gives, or_ends}
use Rattle.rx_meaning.specs.Places.{Spot, in_slot, in_value, may_write, spot, found, whole_value, reference_to, after_write}
use Rattle.rx_meaning.specs.Operators as operators
use Rattle.rx_meaning.specs.Operators.{Computed, make, shown}
use Rattle.rx_meaning.specs.Acting.{checked, computed, next_input, does_plainly}
use Rattle.rx_meaning_keeping.specs.Pending.{Pending, Paired, no_pair, pair_and, holds, pushes, Thin, none, keeps, skips, swaps}
use Rattle.rx_meaning_keeping.specs.Using.{Taken, Does, Gives}
use Rattle.rx_meaning_keeping.specs.Using as using
use Rattle.rx_meaning_keeping.specs.Keeping.{Kept}
use Rattle.rx_meaning_keeping.specs.Ready.{AllHere}
use Rattle.rx_meaning_typed.specs.TypedActs.{Typing, typ_along, place_typ, ActTyped, Checks, IsShown, Makes}
use Rattle.rx_meaning_typed.specs.TypedFunctions.{IsTruth}
use Rattle.rx_meaning_typed.specs.MutableActs.{IsMutablePlace, ActLends}
use Rattle.rx_meaning_typed.specs.ValueTypes.{Store, Lends, HasType, of_number, of_truth, of_reference, of_lack, AllTyped, no_typed, typed_and, MemoryTyped, Extends, SpotTyped}
use Rattle.rx_meaning_typed.specs.TypedStates.{pending_typ, PendingTyped, StateTyped, TypedBehind, IsSensible}
use Rattle.rx_meaning_typed.proofs.Parts.{some_is, get_typed}
use Rattle.rx_meaning_typed.proofs.Stores.{all_and, all_length, all_more, extends_both, extends_and, element_last, has_more, RootHeld, spot_typed, found_typed, written_typed, spot_mutable, found_mutable, spot_slot}
use Rattle.rx_meaning_typed.proofs.Making.{ComputesTyped, made_typed, truths_joined, checked_sensible, shown_sensible}
use Rattle.rx_meaning_typed.proofs.Straying.{no_part_sensible, not_written_sensible}
use Rattle.rx_meaning_typed.proofs.Referring.{not_found_sensible}

-- ---- what is pending

pub pending_more : (L : Bool) (T : Typing) (S Z : Store) → Extends S Z → (K : Pending) → PendingTyped L T S K → PendingTyped L T Z K
pending_more L T S Z f [] h = tt
pending_more L T S Z f (k ∷ K) h = ((has_more L T.declared S Z f h.0.0, h.0.1), pending_more L T S Z f K h.1)

pub pending_thin : (L : Bool) (T : Typing) (S : Store) {K K1 : Pending} → Thin K K1 → PendingTyped L T S K1 → PendingTyped L T S K
pending_thin L T S none h = tt
pending_thin L T S (keeps t) h = (h.0, pending_thin L T S t h.1)
pending_thin L T S (skips t) h = pending_thin L T S t h.1
pending_thin L T S (swaps t) h = (h.1.0, (h.0, pending_thin L T S t h.1.1))

-- operands, of their temporaries' types
pub pending_split : (L : Bool) (T : Typing) (S : Store) {ts : List Temporary} {vs : List Value} (K : Pending) → Paired ts vs → PendingTyped L T S (pushes ts vs K)
    → AllTyped L T.declared S vs (map (λ t. T.temporaries t) ts) × AllHere vs × PendingTyped L T S K
pending_split L T S K no_pair h = (no_typed, tt, h)
pending_split L T S K (pair_and {t = t} {v = v} p) h =
    let r = pending_split L T S (holds t v K) p h in (typed_and r.2.0.0 r.0, (r.2.0.1, r.1), r.2.1)

length_map : (T : Typing) (ts : List Temporary) → length (map (λ t. T.temporaries t) ts) ≡ length ts
length_map T [] = refl
length_map T (t ∷ ts) = ap suc (length_map T ts)

-- a new variable
pub declared_typed : (L : Bool) (T : Typing) (S : Store) (x : ℕ) (s : State) (K : Pending) → StateTyped L T S s K → StateTyped L T (S ++ T.variables x ∷ []) (with_variable x s) K
declared_typed L T S x s K i = record {
  memory = all_and (all_more L T.declared S Z (extends_and S (T.variables x)) i.memory) (lacking unset) (T.variables x) of_lack;
  variables = λ y j e. at y j (nat_eq y x) refl e;
  pending = pending_more L T S Z (extends_and S (T.variables x)) K i.pending;
}
  where
    Z : Store
    Z = S ++ T.variables x ∷ []

    at : (y j : ℕ) (b : Bool) → nat_eq y x ≡ b → (if b then Some (length s.memory) else slot_of s.frame.slots y) ≡ Some j → element (S ++ T.variables x ∷ []) j ≡ Some (T.variables y)
    at y j true q e = subst (λ z. element (S ++ T.variables x ∷ []) z ≡ Some (T.variables y)) (all_length i.memory ∙ some_is e)
        (subst (λ z. element (S ++ T.variables x ∷ []) (length S) ≡ Some (T.variables z)) (sym (eqb-true y x q)) (element_last S (T.variables x)))
    at y j false q e = extends_and S (T.variables x) j (T.variables y) (i.variables y j e)

-- ---- what is lent mutably, and written

lends_to : (L m b : Bool) → (L ≡ true → m ≡ true → b ≡ true) → Lends L m (m && b)
lends_to false m b h = tt
lends_to true m b h = λ q. and_from m b q (h refl q)

lends_borrow : (L : Bool) (T : Typing) (b : Bool) (p : Place) (d : Temporary) → ActLends L T (Borrow b p d) → L ≡ true → b ≡ true → IsMutablePlace T p
lends_borrow true T true p d h x y = h
lends_borrow true T false p d h x y = absurd (true≢false (sym y))
lends_borrow false T b p d h x y = absurd (true≢false (sym x))

lends_write : (L : Bool) (T : Typing) (p : Place) (t : Temporary) (ss : List Step) → ActLends L T (Write p t ss) → L ≡ true → IsMutablePlace T p
lends_write true T p t ss h x = h
lends_write false T p t ss h x = absurd (true≢false (sym x))

-- what a build makes of values without lacks
abbrev pub MakesWhole : Act → Type 0
MakesWhole (Build m js ts d) = (vs : List Value) (v : Value) → Paired ts vs → AllHere vs → make m js vs ≡ operators.gives v → is_set v ≡ true
MakesWhole _ = Unit {0}

module _ (L : Bool) (T : Typing) (k : Store) (w : List Action) (n : ℕ) where
  abbrev pub Behind : Act → State → (Value → Pending) → Done ℕ → Type 0
  Behind a s K1 r = Kept (IsSensible L) (TypedBehind L T k) w (does n a) s K1 r

  or_typed : {A : Type 0} (a : Act) (s : State) (K1 : Value → Pending) (c : Cause) (o : Option A) (go : A → Done ℕ) → (o ≡ None → IsSensible L (wrong c)) → ((x : A) → o ≡ Some x → Behind a s K1 (go x)) → Behind a s K1 (or_ends c o go)
  or_typed a s K1 c None go f h = f refl
  or_typed a s K1 c (Some x) go f h = h x refl

  -- the same state, with something else pending
  with_pending : (s : State) (K K1 : Pending) (i : TypedBehind L T k w s K) → PendingTyped L T i.0 K1 → TypedBehind L T k w s K1
  with_pending s K K1 i h = (i.0, i.1, record { memory = i.2.memory; variables = i.2.variables; pending = h })

  whole_is : (f : Spot × Value) (v : Value) → whole_value f ≡ Some v → (f.1 ≡ v) × (is_set v ≡ true)
  whole_is f v e = by (is_set f.1) refl e
    where
      by : (b : Bool) → is_set f.1 ≡ b → (if b then Some f.1 else None) ≡ Some v → (f.1 ≡ v) × (is_set v ≡ true)
      by true q e = (some_is e, subst (λ z. is_set z ≡ true) (some_is e) q)
      by false q e = absurd (cc)

  none_held : (S : Store) (r : Root) → RootHeld L T S r []
  none_held S (variable x) = tt
  none_held S (temporary t) = tt

  read_typed : (m : Bool) (p : Place) (d : Temporary) (s : State) (K : Pending) → place_typ T p ≡ Some (T.temporaries d) → TypedBehind L T k w s K → Behind (Read m p d) s (λ v. holds d v K) (does_plainly (Read m p d) [] s)
  read_typed m p d s K g i =
      or_typed (Read m p d) s (λ v. holds d v K) (why_not_found p [] s) (found p [] s) (λ f. or_ends lacks (whole_value f) (λ v. gives [] v s)) (λ z. not_found_sensible L T i.0 p [] s (T.temporaries d) i.2.memory i.2.variables (none_held i.0 p.root) g) (λ f e.
      or_typed (Read m p d) s (λ v. holds d v K) lacks (whole_value f) (λ v. gives [] v s) (λ z. tt) (λ v q.
      let h = whole_is f v q in let t = found_typed L T i.0 p [] s (T.temporaries d) f i.2.memory i.2.variables (none_held i.0 p.root) g e in
      (tt, with_pending s K (holds d v K) i ((subst (λ z. HasType L T.declared i.0 z (T.temporaries d)) h.0 t.1, h.1), i.2.pending))))

  pointing_typed : (S : Store) (m : Bool) (at : Spot) (v : Value) (u : Typ) → SpotTyped L T.declared S at u → (L ≡ true → m ≡ true → may_write at ≡ true) → reference_to m at ≡ Some v → HasType L T.declared S v (reference m u) × (is_set v ≡ true)
  pointing_typed S m (in_slot i ps b) v u h l e = subst (λ z. HasType L T.declared S z (reference m u) × (is_set z ≡ true)) (some_is e) (of_reference h.1 h.2 (lends_to L m b l), refl)
  pointing_typed S m (in_value x) v u h l e = absurd (cc)

  -- a reference to a place, of a variable or of what is held
  borrow_typed : (m : Bool) (p : Place) (d : Temporary) (vs : List Value) (s : State) (K : Pending) (u : Typ) → place_typ T p ≡ Some u → T.temporaries d ≡ reference m u → (L ≡ true → m ≡ true → IsMutablePlace T p) → (i : TypedBehind L T k w s K) → RootHeld L T i.0 p.root vs
      → Behind (Borrow m p d) s (λ v. holds d v K) (does_plainly (Borrow m p d) vs s)
  borrow_typed m p d vs s K u g r l i b =
      or_typed (Borrow m p d) s (λ v. holds d v K) (why_not_found p vs s) (spot p vs s) (λ at. or_ends astray (reference_to m at) (λ v. gives [] v s)) (λ z. not_found_sensible L T i.0 p vs s u i.2.memory i.2.variables b g) (λ at e.
      or_typed (Borrow m p d) s (λ v. holds d v K) astray (reference_to m at) (λ v. gives [] v s) (λ z. tt) (λ v q.
      let t = spot_typed L T i.0 p vs s u at i.2.memory i.2.variables b g e in let h = pointing_typed i.0 m at v u t (λ x y. spot_mutable L x T i.0 p vs s u at i.2.memory i.2.variables b g (l x y) e) q in
      (tt, with_pending s K (holds d v K) i ((subst (λ z. HasType L T.declared i.0 v z) (sym r) h.0, h.1), i.2.pending))))

  test_typed : (p : Place) (c : _) (vs : List Value) (s : State) (K : Pending) (u : Typ) → place_typ T p ≡ Some u → Checks T.declared c u → (i : TypedBehind L T k w s K) → RootHeld L T i.0 p.root vs
      → Behind (Test p c) s (λ v. K) (does_plainly (Test p c) vs s)
  test_typed p c vs s K u g x i b =
      or_typed (Test p c) s (λ v. K) (why_not_found p vs s) (found p vs s) (λ f. or_ends (why_not_checked f.1) (checked c f.1) (λ y. gives [] (truth y) s)) (λ z. not_found_sensible L T i.0 p vs s u i.2.memory i.2.variables b g) (λ f e.
      let t = found_typed L T i.0 p vs s u f i.2.memory i.2.variables b g e in
      or_typed (Test p c) s (λ v. K) (why_not_checked f.1) (checked c f.1) (λ y. gives [] (truth y) s) (λ z. checked_sensible L T.declared i.0 c f.1 u t.1 x z) (λ y q. ((refl, y, refl), i)))

  -- a value that is written to a place of its type
  write_typed : (p : Place) (t : Temporary) (ss : List Step) (s : State) (u : Value) (U : Typ) (K K1 : Pending) (i : TypedBehind L T k w s K) → HasType L T.declared i.0 u U → place_typ T p ≡ Some U → (L ≡ true → IsMutablePlace T p) → PendingTyped L T i.0 K1
      → Behind (Write p t ss) s (λ z. K1) (or_ends (why_not_found p [] s) (spot p [] s) (λ at. or_ends (why_not_written s.memory at) (after_write u s.memory at) (λ M. gives [] unit_value (with_memory s M))))
  write_typed p t ss s u U K K1 i h g x l =
      or_typed (Write p t ss) s (λ z. K1) (why_not_found p [] s) (spot p [] s) (λ at. or_ends (why_not_written s.memory at) (after_write u s.memory at) (λ M. gives [] unit_value (with_memory s M))) (λ z. not_found_sensible L T i.0 p [] s U i.2.memory i.2.variables (none_held i.0 p.root) g) (λ at e.
      or_typed (Write p t ss) s (λ z. K1) (why_not_written s.memory at) (after_write u s.memory at) (λ M. gives [] unit_value (with_memory s M)) (λ z. not_written_sensible L s.memory at (spot_slot p s at e) (λ y. spot_mutable L y T i.0 p [] s U at i.2.memory i.2.variables (none_held i.0 p.root) g (x y) e)) (λ M q. (
        refl,
        (
          i.0,
          i.1,
          record {
            memory = written_typed L T.declared i.0 s.memory M at U u i.2.memory (spot_typed L T i.0 p [] s U at i.2.memory i.2.variables (none_held i.0 p.root) g e) h q;
            variables = i.2.variables;
            pending = l;
          },
        ),
      )))

  input_typed : (d : Temporary) (s : State) (K : Pending) (zs : List ℤ) → T.temporaries d ≡ integer Kind.I64 → TypedBehind L T k w s K → Behind (Input d) s (λ v. holds d v K) (next_input zs s)
  input_typed d s K [] g i = (tt, with_pending s K (holds d (number Kind.I64 (pos 0)) K) i ((subst (λ z. HasType L T.declared i.0 (number Kind.I64 (pos 0)) z) (sym g) of_number, refl), i.2.pending))
  input_typed d s K (z ∷ zs) g i =
      (tt, (i.0, i.1, record { memory = i.2.memory; variables = i.2.variables; pending = ((subst (λ y. HasType L T.declared i.0 (number Kind.I64 z) y) (sym g) of_number, refl), i.2.pending) }))

  computed_typed : (a : Act) (d : Temporary) (s : State) (K0 K : Pending) (c : Computed) → ((v : Value) (s1 : State) → Gives a s v s1) → (i : TypedBehind L T k w s K0) → ComputesTyped L T.declared i.0 (T.temporaries d) c
      → ((v : Value) → c ≡ operators.gives v → is_set v ≡ true) → PendingTyped L T i.0 K → Behind a s (λ v. holds d v K) (computed c s)
  computed_typed a d s K0 K (operators.gives v) g i h f l = (g v s, with_pending s K0 (holds d v K) i ((h, f v refl), l))
  computed_typed a d s K0 K (operators.traps t) g i h f l = tt
  computed_typed a d s K0 K operators.senseless g i h f l = h

  -- `&&`, `||`
  joined_typed : {x t u : Temporary} (d : Temporary) → Taken (IsTruth T) t u x → Makes T.declared lazy [] (T.temporaries t ∷ T.temporaries u ∷ []) (T.temporaries d) → T.temporaries x ≡ T.temporaries d
  joined_typed {t = t} {u = u} d using.left g = let h = truths_joined L T.declared k (T.temporaries t) (T.temporaries u) (T.temporaries d) g in h.0 ∙ sym h.1
  joined_typed {t = t} {u = u} d (using.right r) g = let h = truths_joined L T.declared k (T.temporaries t) (T.temporaries u) (T.temporaries d) g in r ∙ sym h.1

  pub plainly_typed : (a : Act) (vs : List Value) (s : State) (K : Pending) (K1 : Value → Pending) → Does (IsTruth T) a vs K K1 → ActTyped T a → ActLends L T a → MakesWhole a → TypedBehind L T k w s K → Behind a s K1 (does_plainly a vs s)
  plainly_typed _ _ s K _ (using.declares {x = x}) g l m i = (tt, (i.0 ++ T.variables x ∷ [], extends_both k i.0 _ i.1 (extends_and i.0 (T.variables x)), declared_typed L T i.0 x s K i.2))
  plainly_typed _ _ s K _ using.dies g l m i = (tt, i)
  plainly_typed _ _ s K _ (using.reads {m = b} {p = p} {d = d} u) g l m i = read_typed b p d s K g i
  plainly_typed _ _ s K _ (using.borrows {m = b} {p = p} {d = d} u) g l m i = borrow_typed b p d [] s K g.0 g.1 g.2 (lends_borrow L T b p d l) i (none_held i.0 p.root)
  plainly_typed _ _ s _ _ (using.borrows_held {m = b} {t = t} {d = d} {ss = ss} {v = v} {K = K} u) g l m i = borrow_typed b (under (temporary_place t) ss) d (v ∷ []) s (holds t v K) g.0 g.1 g.2 (lends_borrow L T b (under (temporary_place t) ss) d l) i i.2.pending.0.0
  plainly_typed _ _ s K _ (using.tests {p = p} {c = c}) g l m i = test_typed p c [] s K g.0 g.1 g.2 i (none_held i.0 p.root)
  plainly_typed _ _ s _ _ (using.tests_held {t = t} {ss = ss} {c = c} {v = v} {K = K}) g l m i = test_typed (under (temporary_place t) ss) c (v ∷ []) s (holds t v K) g.0 g.1 g.2 i i.2.pending.0.0
  plainly_typed _ _ s _ _ (using.writes {p = p} {t = t} {v = v} {K = K}) g l m i =
      write_typed p t [] s v g.0 (holds t v K) K i (subst (λ z. HasType L T.declared i.0 v z) (some_is g.2) i.2.pending.0.0) g.1 (lends_write L T p t [] l) i.2.pending.1
  plainly_typed _ _ s _ _ (using.writes_part {x = x} {t = t} {ss = ss} {v = v} {K = K}) g l m i =
      or_typed (Write (own x) t ss) s (λ z. holds t v K) (why_no_part ss v) (get ss v) (λ u. or_ends (why_not_found (own x) [] s) (spot (own x) [] s) (λ at. or_ends (why_not_written s.memory at) (after_write u s.memory at) (λ M. gives [] unit_value (with_memory s M)))) (λ z. no_part_sensible L ss v)
      (λ u e. write_typed (own x) t ss s u g.0 (holds t v K) (holds t v K) i (get_typed L T.declared i.0 ss v (T.temporaries t) u g.0 i.2.pending.0.0 g.2 e) g.1 (lends_write L T (own x) t ss l) i.2.pending)
  plainly_typed _ _ s _ _ (using.builds {w = q} {js = js} {ts = ts} {vs = vs} {d = d} K pr lz u) g l m i =
      let h = pending_split L T i.0 K pr i.2.pending in
      computed_typed (Build q js ts d) d s (pushes ts vs K) K (make q js vs) (λ v s1. tt) i (made_typed L T.declared i.0 g (λ z. lz z ∙ sym (length_map T ts)) vs h.0 h.1) (λ v e. m vs v pr h.1 e) h.2
  plainly_typed _ _ s _ _ (using.joins {t = t} {u = u} {x = x} {v = v} {d = d} {K = K} am un) g l m i =
      (tt, with_pending s (holds x v K) (holds d v K) i ((subst (λ z. HasType L T.declared i.0 v z) (joined_typed d am g) i.2.pending.0.0, i.2.pending.0.1), i.2.pending.1))
  plainly_typed _ _ s K _ (using.inputs {d = d} u) g l m i = input_typed d s K s.input g i
  plainly_typed _ _ s _ _ (using.prints {t = t} {v = v} {K = K}) g l m i =
      or_typed (Print t) s (λ z. K) (why_not_checked v) (shown v) (λ bytes. gives bytes unit_value s) (λ z. shown_sensible L T.declared i.0 i.2.pending.0.0 g z) (λ bytes e. (refl, with_pending s (holds t v K) K i i.2.pending.1))
  plainly_typed _ _ s _ _ (using.gives_up {t = t} {v = v} {K = K}) g l m i =
      (tt, with_pending s (holds t v K) ((None, v) ∷ K) i ((subst (λ z. HasType L T.declared i.0 v z) g i.2.pending.0.0, i.2.pending.0.1), i.2.pending.1))
  plainly_typed _ _ s _ _ (using.calls K pr u) g l m i = (tt, i)
