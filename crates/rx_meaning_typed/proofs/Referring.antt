-- What is followed as a reference is one, or lacks a value: so nothing is not found for want of a reference.
use Rattle.std.proofs.Common.{◌≡◌, ℕ, zero, suc, Bool, true, false, List, [], ◌∷◌, Option, Some, None, refl, sym, ap, subst}
use Rattle.std.specs.Prelude.{slice_get}
use Rattle.rx_core.specs.declared.types.Step.{Step}
use Rattle.rx_typed.specs.Types.{Typ, integer, boolean, tuple_of, reference, named, Declared, struct_declared, enum_declared, function_declared, rt_declared, Declarations}
use Rattle.rx_typed.specs.Tree.{Place}
use Rattle.rx_meaning.specs.Endings.{wrong, lacks, astray, missing_reference}
use Rattle.rx_meaning.specs.Straying.{where_some, unlike, why_no_content, why_not_followed, why_not_found}
use Rattle.rx_meaning.specs.Values.{Value, State}
use Rattle.rx_meaning.specs.Places.{Spot, content, deeper, may_write, pointed, start}
use Rattle.rx_meaning_typed.specs.TypedActs.{Typing, item_behind, typ_behind, typ_along, root_typ, place_typ}
use Rattle.rx_meaning_typed.specs.ValueTypes.{Store, HasType, of_number, of_truth, of_tuple, of_struct, of_enum, of_reference, of_lack, MemoryTyped, SpotTyped}
use Rattle.rx_meaning_typed.specs.TypedStates.{IsSensible}
use Rattle.rx_meaning_typed.proofs.Straying.{no_content_so, Sensible}
use Rattle.rx_meaning_typed.proofs.Parts.{split}
use Rattle.rx_meaning_typed.proofs.Stores.{content_typed, deeper_typed, pointed_typed, RootHeld, SlotsTyped, start_typed}

items_lead_nowhere : (d : Option Declared) (k : Bool) (u : Typ) → item_behind d (Step.Deref k) ≡ Some u → ⊥
items_lead_nowhere None k u e = cc
items_lead_nowhere (Some (struct_declared c l fs)) k u e = cc
items_lead_nowhere (Some (enum_declared c l vs)) k u e = cc
items_lead_nowhere (Some (function_declared ps r)) k u e = cc
items_lead_nowhere (Some rt_declared) k u e = cc

-- by what an option is
by_option : (L : Bool) {A : Type 0} (o : Option A) (c : _) (go : A → _) → (o ≡ None → Sensible L c) → ((x : A) → o ≡ Some x → Sensible L (go x)) → Sensible L (where_some o c go)
by_option L None c go f h = f refl
by_option L (Some x) c go f h = h x refl

module _ (L : Bool) (D : Declarations) (S : Store) where
  no_pointer_lacks : {v : Value} {t : Typ} → HasType L D S v t → (w m : Bool) (u : Typ) → typ_behind D t (Step.Deref m) ≡ Some u → pointed w v ≡ None → Sensible L (unlike missing_reference v)
  no_pointer_lacks of_number w m u g e = absurd (cc)
  no_pointer_lacks of_truth w m u g e = absurd (cc)
  no_pointer_lacks (of_tuple h) w m u g e = absurd (cc)
  no_pointer_lacks (of_struct {i = i} d h) w m u g e = elim (items_lead_nowhere (slice_get D i) m u g) [ ]
  no_pointer_lacks (of_enum {i = i} d f h) w m u g e = elim (items_lead_nowhere (slice_get D i) m u g) [ ]
  no_pointer_lacks (of_reference a b c) w m u g e = absurd (cc)
  no_pointer_lacks of_lack w m u g e = tt

  not_followed_sensible : (M : List Value) → MemoryTyped L D S M → (ss : List Step) (at : Spot) (t u : Typ) → SpotTyped L D S at t → typ_along D t ss ≡ Some u → Sensible L (why_not_followed M ss at)
  not_followed_sensible M m [] at t u h g = no_content_so (Sensible L) tt tt M at
  not_followed_sensible M m (Step.Deref k ∷ ss) at t u h g =
      let a = split (typ_behind D t (Step.Deref k)) (λ z. typ_along D z ss) u g in
      by_option L (content M at) (why_no_content M at) (λ v. where_some (pointed (may_write at) v) (unlike missing_reference v) (λ to. why_not_followed M ss to)) (λ z. no_content_so (Sensible L) tt tt M at) (λ v b.
      let h1 = content_typed L D S M m at t v h b in
      by_option L (pointed (may_write at) v) (unlike missing_reference v) (λ to. why_not_followed M ss to) (no_pointer_lacks h1 (may_write at) k a.0 a.1) (λ to c.
      not_followed_sensible M m ss to a.0 u (pointed_typed L D S h1 (may_write at) k a.0 to a.1 c) a.2))
  not_followed_sensible M m (Step.Field i ∷ ss) at t u h g =
      let a = split (typ_behind D t (Step.Field i)) (λ z. typ_along D z ss) u g in
      by_option L (deeper (Step.Field i) at) (why_no_content M at) (λ to. why_not_followed M ss to) (λ z. no_content_so (Sensible L) tt tt M at) (λ to b.
      not_followed_sensible M m ss to a.0 u (deeper_typed L D S (Step.Field i) at t a.0 to h a.1 b) a.2)
  not_followed_sensible M m (Step.Variant i ∷ ss) at t u h g =
      let a = split (typ_behind D t (Step.Variant i)) (λ z. typ_along D z ss) u g in
      by_option L (deeper (Step.Variant i) at) (why_no_content M at) (λ to. why_not_followed M ss to) (λ z. no_content_so (Sensible L) tt tt M at) (λ to b.
      not_followed_sensible M m ss to a.0 u (deeper_typed L D S (Step.Variant i) at t a.0 to h a.1 b) a.2)

-- of a place with a type
pub not_found_sensible : (L : Bool) (T : Typing) (S : Store) (p : Place) (vs : List Value) (s : State) (u : Typ) → MemoryTyped L T.declared S s.memory → SlotsTyped L T S s.frame.slots → RootHeld L T S p.root vs → place_typ T p ≡ Some u
    → IsSensible L (wrong (why_not_found p vs s))
not_found_sensible L T S p vs s u m f h g =
    by_option L (start p.root vs s.frame) astray (λ at. why_not_followed s.memory p.steps at) (λ z. tt) (λ at e.
    not_followed_sensible L T.declared S s.memory m p.steps at (root_typ T p.root) u (start_typed L T S p.root vs s.frame at f h e) g)
