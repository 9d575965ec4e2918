-- Memories whose slots are of their types, and where places lead in them.
use Rattle.std.proofs.Common.{◌≡◌, ℕ, zero, suc, Bool, true, false, ◌&&◌, List, [], ◌∷◌, ◌++◌, length, Option, Some, None, refl, sym, ap, subst, ◌∙◌}
use Rattle.std.proofs.lemmas.Bool.{and_from}
use Rattle.rx_core.specs.declared.types.Kind.{Kind}
use Rattle.rx_core.specs.declared.types.Step.{Step}
use Rattle.rx_typed.specs.Types.{Typ, Shapes, reference, Declarations}
use Rattle.rx_typed.specs.Tree.{Root, variable, temporary, Place}
use Rattle.rx_meaning.specs.Values.{Value, Values, number, truth, whole, tagged, pointer, lacking, and_then, part, get, put, element, with_element, slot_of, Frame, State}
use Rattle.rx_meaning.specs.Places.{Spot, in_slot, in_value, content, deeper, may_write, pointed, follow, first_held, start, spot, found, after_write}
use Rattle.rx_meaning_typed.specs.TypedActs.{Typing, typ_behind, typ_along, root_typ, place_typ}
use Rattle.rx_meaning_typed.specs.ValueTypes.{Store, HasType, of_number, of_truth, of_tuple, of_struct, of_enum, of_reference, of_lack, HaveTypes, none_typed, each_typed, AllTyped, no_typed, typed_and, Lends, MemoryTyped, Extends, SpotTyped}
use Rattle.rx_meaning_typed.specs.MutableActs.{IsMutableStep, IsMutableAlong, IsMutablePlace}
use Rattle.rx_meaning_typed.proofs.Straying.{IsSlot}
use Rattle.rx_meaning_typed.proofs.Parts.{some_is, split, typed_at, part_typed, get_typed, put_typed}

-- ---- slots

pub all_element : {L : Bool} {D : Declarations} {S : Store} {M : List Value} {Z : List Typ} → AllTyped L D S M Z → (i : ℕ) (v : Value) (t : Typ) → element M i ≡ Some v → element Z i ≡ Some t → HasType L D S v t
all_element no_typed i v t e g = absurd (cc)
all_element {L = L} {D = D} {S = S} (typed_and {v = w} {t = u} h hs) zero v t e g = typed_at L D S w v u t (some_is e) (some_is g) h
all_element (typed_and h hs) (suc i) v t e g = all_element hs i v t e g

pub all_with : {L : Bool} {D : Declarations} {S : Store} {M : List Value} {Z : List Typ} → AllTyped L D S M Z → (i : ℕ) (x : Value) (t : Typ) → element Z i ≡ Some t → HasType L D S x t → AllTyped L D S (with_element M i x) Z
all_with no_typed i x t e h = no_typed
all_with {L = L} {D = D} {S = S} (typed_and y hs) zero x t e h = typed_and (subst (λ z. HasType L D S x z) (sym (some_is e)) h) hs
all_with (typed_and y hs) (suc i) x t e h = typed_and y (all_with hs i x t e h)

pub all_and : {L : Bool} {D : Declarations} {S : Store} {M : List Value} {Z : List Typ} → AllTyped L D S M Z → (x : Value) (t : Typ) → HasType L D S x t → AllTyped L D S (M ++ x ∷ []) (Z ++ t ∷ [])
all_and no_typed x t h = typed_and h no_typed
all_and (typed_and y hs) x t h = typed_and y (all_and hs x t h)

pub all_length : {L : Bool} {D : Declarations} {S : Store} {M : List Value} {Z : List Typ} → AllTyped L D S M Z → length Z ≡ length M
all_length no_typed = refl
all_length (typed_and y hs) = ap suc (all_length hs)

-- ---- more slots

pub extends_self : (S : Store) → Extends S S
extends_self S i t e = e

pub extends_both : (S Z Y : Store) → Extends S Z → Extends Z Y → Extends S Y
extends_both S Z Y f g i t e = g i t (f i t e)

pub extends_and : (S : Store) (t : Typ) → Extends S (S ++ t ∷ [])
extends_and [] t i u e = absurd (cc)
extends_and (s ∷ S) t zero u e = e
extends_and (s ∷ S) t (suc i) u e = extends_and S t i u e

pub element_last : (S : Store) (t : Typ) → element (S ++ t ∷ []) (length S) ≡ Some t
element_last [] t = refl
element_last (s ∷ S) t = element_last S t

module _ (L : Bool) (D : Declarations) (S Z : Store) (more : Extends S Z) where
  mutual
    pub has_more : {v : Value} {t : Typ} → HasType L D S v t → HasType L D Z v t
    has_more of_number = of_number
    has_more of_truth = of_truth
    has_more (of_tuple h) = of_tuple (have_more h)
    has_more (of_struct d h) = of_struct d (have_more h)
    has_more (of_enum d f h) = of_enum d f (have_more h)
    has_more (of_reference e g c) = of_reference (more _ _ e) g c
    has_more of_lack = of_lack

    have_more : {vs : Values} {ts : Shapes Kind} → HaveTypes L D S vs ts → HaveTypes L D Z vs ts
    have_more none_typed = none_typed
    have_more (each_typed h hs) = each_typed (has_more h) (have_more hs)

  pub all_more : {M : List Value} {Y : List Typ} → AllTyped L D S M Y → AllTyped L D Z M Y
  all_more no_typed = no_typed
  all_more (typed_and h hs) = typed_and (has_more h) (all_more hs)

-- ---- where places lead

pub along_more : (D : Declarations) (ps : List Step) (t u r : Typ) (s : Step) → typ_along D t ps ≡ Some u → typ_behind D u s ≡ Some r → typ_along D t (ps ++ s ∷ []) ≡ Some r
along_more D [] t u r s e g = subst (λ z. and_then (typ_behind D z s) (λ x. Some x) ≡ Some r) (sym (some_is e)) (subst (λ z. and_then z (λ x. Some x) ≡ Some r) (sym g) refl)
along_more D (p ∷ ps) t u r s e g =
    let a = split (typ_behind D t p) (λ z. typ_along D z ps) u e in
    subst (λ z. and_then z (λ x. typ_along D x (ps ++ s ∷ [])) ≡ Some r) (sym a.1) (along_more D ps a.0 u r s a.2 g)

module _ (L : Bool) (D : Declarations) (S : Store) where
  pub content_typed : (M : List Value) → MemoryTyped L D S M → (at : Spot) (t : Typ) (v : Value) → SpotTyped L D S at t → content M at ≡ Some v → HasType L D S v t
  content_typed M m (in_slot i ps w) t v h e =
      let b = split (element M i) (λ z. get ps z) v e in
      get_typed L D S ps b.0 h.0 v t (all_element m i b.0 h.0 b.1 h.1) h.2 b.2
  content_typed M m (in_value u) t v h e = subst (λ z. HasType L D S z t) (some_is e) h

  pub deeper_typed : (s : Step) (at : Spot) (t u : Typ) (to : Spot) → SpotTyped L D S at t → typ_behind D t s ≡ Some u → deeper s at ≡ Some to → SpotTyped L D S to u
  deeper_typed s (in_slot i ps w) t u to h g e = subst (λ z. SpotTyped L D S z u) (some_is e) (h.0, h.1, along_more D ps h.0 t u s h.2 g)
  deeper_typed s (in_value v) t u to h g e =
      let b = split (part v s) (λ z. Some (in_value z)) to e in
      subst (λ z. SpotTyped L D S z u) (some_is b.2) (part_typed L D S h s b.0 u g b.1)

  pub pointed_typed : {v : Value} {t : Typ} → HasType L D S v t → (w m : Bool) (u : Typ) (to : Spot) → typ_behind D t (Step.Deref m) ≡ Some u → pointed w v ≡ Some to → SpotTyped L D S to u
  pointed_typed of_number w m u to g e = absurd (cc)
  pointed_typed of_truth w m u to g e = absurd (cc)
  pointed_typed (of_tuple h) w m u to g e = absurd (cc)
  pointed_typed (of_struct d h) w m u to g e = absurd (cc)
  pointed_typed (of_enum d f h) w m u to g e = absurd (cc)
  pointed_typed (of_reference {i = i} {ps = ps} {t = t} a b c) w m u to g e = subst (λ z. SpotTyped L D S z u) (some_is e) (t, a, b ∙ g)
  pointed_typed of_lack w m u to g e = absurd (cc)

  pub follow_typed : (M : List Value) → MemoryTyped L D S M → (ss : List Step) (at : Spot) (t u : Typ) (to : Spot) → SpotTyped L D S at t → typ_along D t ss ≡ Some u → follow M ss at ≡ Some to → SpotTyped L D S to u
  follow_typed M m [] at t u to h g e = subst (λ z. SpotTyped L D S z u) (some_is e) (subst (λ z. SpotTyped L D S at z) (some_is g) h)
  follow_typed M m (Step.Deref k ∷ ss) at t u to h g e =
      let a = split (typ_behind D t (Step.Deref k)) (λ z. typ_along D z ss) u g in
      let b = split (content M at) (λ v. and_then (pointed (may_write at) v) (λ z. follow M ss z)) to e in
      let c = split (pointed (may_write at) b.0) (λ z. follow M ss z) to b.2 in
      follow_typed M m ss c.0 a.0 u to (pointed_typed (content_typed M m at t b.0 h b.1) (may_write at) k a.0 c.0 a.1 c.1) a.2 c.2
  follow_typed M m (Step.Field i ∷ ss) at t u to h g e =
      let a = split (typ_behind D t (Step.Field i)) (λ z. typ_along D z ss) u g in let b = split (deeper (Step.Field i) at) (λ z. follow M ss z) to e in
      follow_typed M m ss b.0 a.0 u to (deeper_typed (Step.Field i) at t a.0 b.0 h a.1 b.1) a.2 b.2
  follow_typed M m (Step.Variant i ∷ ss) at t u to h g e =
      let a = split (typ_behind D t (Step.Variant i)) (λ z. typ_along D z ss) u g in let b = split (deeper (Step.Variant i) at) (λ z. follow M ss z) to e in
      follow_typed M m ss b.0 a.0 u to (deeper_typed (Step.Variant i) at t a.0 b.0 h a.1 b.1) a.2 b.2

module _ (L : Bool) (D : Declarations) (S : Store) (lend : L ≡ true) where
  -- what may be written stays so through mutable references
  deeper_mutable : (s : Step) (at to : Spot) → may_write at ≡ true → deeper s at ≡ Some to → may_write to ≡ true
  deeper_mutable s (in_slot i ps w) to h e = subst (λ z. may_write z ≡ true) (some_is e) h
  deeper_mutable s (in_value v) to h e = let b = split (part v s) (λ z. Some (in_value z)) to e in subst (λ z. may_write z ≡ true) (some_is b.2) refl

  pointed_mutable : {v : Value} {t : Typ} → HasType L D S v t → (w m : Bool) (to : Spot) → IsMutableStep t (Step.Deref m) → w ≡ true → pointed w v ≡ Some to → may_write to ≡ true
  pointed_mutable of_number w m to g h e = absurd (cc)
  pointed_mutable of_truth w m to g h e = absurd (cc)
  pointed_mutable (of_tuple x) w m to g h e = absurd (cc)
  pointed_mutable (of_struct d x) w m to g h e = absurd (cc)
  pointed_mutable (of_enum d f x) w m to g h e = absurd (cc)
  pointed_mutable (of_reference {m = y} {k = k} a b c) w m to g h e = subst (λ z. may_write z ≡ true) (some_is e) (and_from w y h (subst (λ z. Lends z k y) lend c g))
  pointed_mutable of_lack w m to g h e = absurd (cc)

  follow_mutable : (M : List Value) → MemoryTyped L D S M → (ss : List Step) (at : Spot) (t u : Typ) (to : Spot) → SpotTyped L D S at t → typ_along D t ss ≡ Some u → IsMutableAlong D t ss → may_write at ≡ true → follow M ss at ≡ Some to → may_write to ≡ true
  follow_mutable M m [] at t u to h g l w e = subst (λ z. may_write z ≡ true) (some_is e) w
  follow_mutable M m (Step.Deref k ∷ ss) at t u to h g l w e =
      let a = split (typ_behind D t (Step.Deref k)) (λ z. typ_along D z ss) u g in
      let b = split (content M at) (λ v. and_then (pointed (may_write at) v) (λ z. follow M ss z)) to e in
      let c = split (pointed (may_write at) b.0) (λ z. follow M ss z) to b.2 in
      let v = content_typed L D S M m at t b.0 h b.1 in
      follow_mutable M m ss c.0 a.0 u to (pointed_typed L D S v (may_write at) k a.0 c.0 a.1 c.1) a.2 (l.1 a.0 a.1) (pointed_mutable v (may_write at) k c.0 l.0 w c.1) c.2
  follow_mutable M m (Step.Field i ∷ ss) at t u to h g l w e =
      let a = split (typ_behind D t (Step.Field i)) (λ z. typ_along D z ss) u g in let b = split (deeper (Step.Field i) at) (λ z. follow M ss z) to e in
      follow_mutable M m ss b.0 a.0 u to (deeper_typed L D S (Step.Field i) at t a.0 b.0 h a.1 b.1) a.2 (l.1 a.0 a.1) (deeper_mutable (Step.Field i) at b.0 w b.1) b.2
  follow_mutable M m (Step.Variant i ∷ ss) at t u to h g l w e =
      let a = split (typ_behind D t (Step.Variant i)) (λ z. typ_along D z ss) u g in let b = split (deeper (Step.Variant i) at) (λ z. follow M ss z) to e in
      follow_mutable M m ss b.0 a.0 u to (deeper_typed L D S (Step.Variant i) at t a.0 b.0 h a.1 b.1) a.2 (l.1 a.0 a.1) (deeper_mutable (Step.Variant i) at b.0 w b.1) b.2

module _ (L : Bool) (T : Typing) (S : Store) where
  -- what is held for the root of a place
  abbrev pub RootHeld : Root → List Value → Type 0
  RootHeld (variable x) vs = Unit {0}
  RootHeld (temporary t) [] = Unit {0}
  RootHeld (temporary t) (v ∷ vs) = HasType L T.declared S v (T.temporaries t)

  abbrev pub SlotsTyped : List (ℕ × ℕ) → Type 0
  SlotsTyped bs = (x i : ℕ) → slot_of bs x ≡ Some i → element S i ≡ Some (T.variables x)

  pub start_typed : (r : Root) (vs : List Value) (F : Frame) (at : Spot) → SlotsTyped F.slots → RootHeld r vs → start r vs F ≡ Some at → SpotTyped L T.declared S at (root_typ T r)
  start_typed (variable x) vs F at f h e =
      let b = split (slot_of F.slots x) (λ i. Some (in_slot i [] true)) at e in
      subst (λ z. SpotTyped L T.declared S z (T.variables x)) (some_is b.2) (T.variables x, f x b.0 b.1, refl)
  start_typed (temporary t) [] F at f h e = absurd (cc)
  start_typed (temporary t) (v ∷ vs) F at f h e = subst (λ z. SpotTyped L T.declared S z (T.temporaries t)) (some_is e) h

  pub spot_typed : (p : Place) (vs : List Value) (s : State) (u : Typ) (at : Spot) → MemoryTyped L T.declared S s.memory → SlotsTyped s.frame.slots → RootHeld p.root vs → place_typ T p ≡ Some u → spot p vs s ≡ Some at → SpotTyped L T.declared S at u
  spot_typed p vs s u at m f h g e =
      let b = split (start p.root vs s.frame) (λ z. follow s.memory p.steps z) at e in
      follow_typed L T.declared S s.memory m p.steps b.0 (root_typ T p.root) u at (start_typed p.root vs s.frame b.0 f h b.1) g b.2

  -- what is found is of the place's type
  pub found_typed : (p : Place) (vs : List Value) (s : State) (u : Typ) (f : Spot × Value) → MemoryTyped L T.declared S s.memory → SlotsTyped s.frame.slots → RootHeld p.root vs → place_typ T p ≡ Some u → found p vs s ≡ Some f
      → SpotTyped L T.declared S f.0 u × HasType L T.declared S f.1 u
  found_typed p vs s u f m sl h g e =
      let b = split (spot p vs s) (λ at. and_then (content s.memory at) (λ v. Some (at, v))) f e in
      let c = split (content s.memory b.0) (λ v. Some (b.0, v)) f b.2 in
      let k = spot_typed p vs s u b.0 m sl h g b.1 in
      subst (λ z. SpotTyped L T.declared S z.0 u × HasType L T.declared S z.1 u) (some_is c.2) (k, content_typed L T.declared S s.memory m b.0 u c.0 k c.1)

-- ---- what may be written

start_mutable : (r : Root) (vs : List Value) (F : Frame) (at : Spot) → start r vs F ≡ Some at → may_write at ≡ true
start_mutable (variable x) vs F at e = let b = split (slot_of F.slots x) (λ i. Some (in_slot i [] true)) at e in subst (λ z. may_write z ≡ true) (some_is b.2) refl
start_mutable (temporary t) [] F at e = absurd (cc)
start_mutable (temporary t) (v ∷ vs) F at e = subst (λ z. may_write z ≡ true) (some_is e) refl

pub spot_mutable : (L : Bool) → L ≡ true → (T : Typing) (S : Store) (p : Place) (vs : List Value) (s : State) (u : Typ) (at : Spot) → MemoryTyped L T.declared S s.memory → SlotsTyped L T S s.frame.slots → RootHeld L T S p.root vs
    → place_typ T p ≡ Some u → IsMutablePlace T p → spot p vs s ≡ Some at → may_write at ≡ true
spot_mutable L lend T S p vs s u at m f h g l e =
    let b = split (start p.root vs s.frame) (λ z. follow s.memory p.steps z) at e in
    follow_mutable L T.declared S lend s.memory m p.steps b.0 (root_typ T p.root) u at (start_typed L T S p.root vs s.frame b.0 f h b.1) g l (start_mutable p.root vs s.frame b.0 b.1) b.2

pub found_mutable : (L : Bool) → L ≡ true → (T : Typing) (S : Store) (p : Place) (vs : List Value) (s : State) (u : Typ) (f : Spot × Value) → MemoryTyped L T.declared S s.memory → SlotsTyped L T S s.frame.slots → RootHeld L T S p.root vs
    → place_typ T p ≡ Some u → IsMutablePlace T p → found p vs s ≡ Some f → may_write f.0 ≡ true
found_mutable L lend T S p vs s u f m sl h g l e =
    let b = split (spot p vs s) (λ at. and_then (content s.memory at) (λ v. Some (at, v))) f e in
    let c = split (content s.memory b.0) (λ v. Some (b.0, v)) f b.2 in
    subst (λ z. may_write z.0 ≡ true) (some_is c.2) (spot_mutable L lend T S p vs s u b.0 m sl h g l b.1)

-- ---- slots

deeper_slot : (s : Step) (at to : Spot) → IsSlot at → deeper s at ≡ Some to → IsSlot to
deeper_slot s (in_slot i ps w) to h e = subst IsSlot (some_is e) tt
deeper_slot s (in_value v) to h e = absurd h

pointed_slot : (w : Bool) (v : Value) (to : Spot) → pointed w v ≡ Some to → IsSlot to
pointed_slot w (pointer i ps m) to e = subst IsSlot (some_is e) tt
pointed_slot w (number k z) to e = absurd (cc)
pointed_slot w (truth b) to e = absurd (cc)
pointed_slot w (whole vs) to e = absurd (cc)
pointed_slot w (tagged i vs) to e = absurd (cc)
pointed_slot w (lacking l) to e = absurd (cc)

follow_slot : (M : List Value) (ss : List Step) (at to : Spot) → IsSlot at → follow M ss at ≡ Some to → IsSlot to
follow_slot M [] at to h e = subst IsSlot (some_is e) h
follow_slot M (Step.Deref k ∷ ss) at to h e =
    let b = split (content M at) (λ v. and_then (pointed (may_write at) v) (λ z. follow M ss z)) to e in
    let c = split (pointed (may_write at) b.0) (λ z. follow M ss z) to b.2 in
    follow_slot M ss c.0 to (pointed_slot (may_write at) b.0 c.0 c.1) c.2
follow_slot M (Step.Field i ∷ ss) at to h e = let b = split (deeper (Step.Field i) at) (λ z. follow M ss z) to e in follow_slot M ss b.0 to (deeper_slot (Step.Field i) at b.0 h b.1) b.2
follow_slot M (Step.Variant i ∷ ss) at to h e = let b = split (deeper (Step.Variant i) at) (λ z. follow M ss z) to e in follow_slot M ss b.0 to (deeper_slot (Step.Variant i) at b.0 h b.1) b.2

start_slot : (r : Root) (F : Frame) (at : Spot) → start r [] F ≡ Some at → IsSlot at
start_slot (variable x) F at e = let b = split (slot_of F.slots x) (λ i. Some (in_slot i [] true)) at e in subst IsSlot (some_is b.2) tt
start_slot (temporary t) F at e = absurd (cc)

-- where nothing is held
pub spot_slot : (p : Place) (s : State) (at : Spot) → spot p [] s ≡ Some at → IsSlot at
spot_slot p s at e = let b = split (start p.root [] s.frame) (λ z. follow s.memory p.steps z) at e in follow_slot s.memory p.steps b.0 at (start_slot p.root s.frame b.0 b.1) b.2

-- what is written at a spot of the value's type
pub written_typed : (L : Bool) (D : Declarations) (S : Store) (M N : List Value) (at : Spot) (u : Typ) (v : Value) → MemoryTyped L D S M → SpotTyped L D S at u → HasType L D S v u → after_write v M at ≡ Some N → MemoryTyped L D S N
written_typed L D S M N (in_slot i ps true) u v m h k e =
    let b = split (element M i) (λ z. and_then (put ps v z) (λ x. Some (with_element M i x))) N e in
    let c = split (put ps v b.0) (λ x. Some (with_element M i x)) N b.2 in
    subst (λ z. MemoryTyped L D S z) (some_is c.2) (all_with m i c.0 h.0 h.1 (put_typed L D S ps v b.0 h.0 u c.0 (all_element m i b.0 h.0 b.1 h.1) h.2 k c.1))
written_typed L D S M N (in_slot i ps false) u v m h k e = absurd (cc)
written_typed L D S M N (in_value w) u v m h k e = absurd (cc)
