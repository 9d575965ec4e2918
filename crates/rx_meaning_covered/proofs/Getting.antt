-- What stands at a place without dereferences, what a test of it looks at, and how the ways from what is matched go on.
use Rattle.std.specs.Prelude.{slice_get}
use Rattle.std.proofs.Common.{◌≡◌, ℕ, zero, suc, Bool, true, false, List, [], ◌∷◌, ◌++◌, Option, Some, None, refl, sym, subst, ap, ◌∙◌, append_assoc, true≢false, eqb-true}
use Rattle.rx_core.specs.declared.types.Step.{Step}
use Rattle.rx_typed.specs.Types.{Typ, named, Declarations, VariantDeclared, variants_declared}
use Rattle.rx_typed.specs.Tree.{Root, variable, temporary, Place, under}
use Rattle.rx_typed.specs.Elaborated.{is_several, has_several}
use Rattle.rx_lower_walks.specs.Matching.{Check, has_tag}
use Rattle.rx_lower_walks.specs.Actions.{Test}
use Rattle.rx_meaning.specs.Straying.{why_not_found, why_not_checked}
use Rattle.rx_meaning.specs.Values as meaning
use Rattle.rx_meaning.specs.Values.{Value, number, truth, whole, tagged, pointer, lacking, and_then, get, element, slot_of, State}
use Rattle.rx_meaning.specs.Results.{Done, gives, or_ends}
use Rattle.rx_meaning.specs.Places.{Spot, in_slot, in_value, content, follow, found}
use Rattle.rx_meaning.specs.Acting.{checked}
use Rattle.rx_facts_tables.specs.Setting.{is_behind}
use Rattle.rx_meaning_keeping.specs.Strict.{does_strictly}
use Rattle.rx_meaning_keeping.proofs.Lost.{follow_plain}
use Rattle.rx_meaning_typed.specs.TypedActs.{Typing, parts_behind, item_behind, typ_behind, typ_along, root_typ, place_typ}
use Rattle.rx_meaning_typed.specs.ValueTypes.{Store, HasType, of_number, of_truth, of_tuple, of_struct, of_enum, of_reference, of_lack, MemoryTyped}
use Rattle.rx_meaning_typed.specs.NoReferences.{HasNoReference}
use Rattle.rx_meaning_typed.proofs.Parts.{some_is, split, get_typed}
use Rattle.rx_meaning_typed.proofs.Stores.{RootHeld, SlotsTyped, all_element, along_more}
use Rattle.rx_meaning_covered.specs.Ways.{OnWay, root_value, Leads}
use Rattle.rx_meaning_covered.specs.Ranged.{IsRanged, AllRanged}
use Rattle.rx_meaning_covered.proofs.Ways.{where_map, way_field, way_variant, IsTagged}
use Rattle.rx_meaning_covered.proofs.Sound.{follow_value, plain_along}
use Rattle.rx_meaning_covered.proofs.Ranging.{get_ranged, element_ranged}
use Rattle.rx_meaning_covered.proofs.Carrying.{or_gives, strict_gives}

-- ---- values at places

abbrev pub Got : Place → List Value → State → Option Value
Got p vs s = and_then (root_value p.root vs s) (λ v. get p.steps v)

get_more : (ss : List Step) (st : Step) (v w : Value) → get (ss ++ st ∷ []) v ≡ Some w → (u : Value) × (get ss v ≡ Some u) × (meaning.part u st ≡ Some w)
get_more [] st v w e = let a = split (meaning.part v st) (λ u. Some u) w e in (v, refl, a.1 ∙ a.2)
get_more (s ∷ ss) st v w e =
    let a = split (meaning.part v s) (λ u. get (ss ++ st ∷ []) u) w e in let b = get_more ss st a.0 w a.2 in
    (b.0, subst (λ z. and_then z (λ u. get ss u) ≡ Some b.0) (sym a.1) b.1, b.2)

pub got_more : (r : Root) (ss : List Step) (st : Step) (vs : List Value) (s : State) (w : Value) → Got (record { root = r; steps = ss ++ st ∷ [] }) vs s ≡ Some w
    → (v : Value) × (Got (record { root = r; steps = ss }) vs s ≡ Some v) × (meaning.part v st ≡ Some w)
got_more r ss st vs s w e =
    let a = split (root_value r vs s) (λ v. get (ss ++ st ∷ []) v) w e in let b = get_more ss st a.0 w a.2 in
    (b.0, subst (λ z. and_then z (λ v. get ss v) ≡ Some b.0) (sym a.1) b.1, b.2)

-- what is found is what stands there
pub found_got : (p : Place) (vs : List Value) (s : State) (f : Spot × Value) → is_behind p.steps ≡ false → found p vs s ≡ Some f → Got p vs s ≡ Some f.1
found_got p vs s f plain e = by p.root vs e
  where
    in_one : (i : ℕ) (o : Option Value) → and_then (and_then o (λ v. get p.steps v)) (λ v. Some (in_slot i p.steps true, v)) ≡ Some f → and_then o (λ v. get p.steps v) ≡ Some f.1
    in_one i None e = absurd (cc)
    in_one i (Some v) e = let a = split (get p.steps v) (λ v. Some (in_slot i p.steps true, v)) f e in a.1 ∙ ap (λ z. Some z.1) (some_is a.2)

    slot : (x : ℕ) (o : Option ℕ) → slot_of s.frame.slots x ≡ o → and_then (and_then (and_then o (λ i. Some (in_slot i [] true))) (λ at. follow s.memory p.steps at)) (λ at. and_then (content s.memory at) (λ v. Some (at, v))) ≡ Some f
        → and_then (and_then o (λ i. element s.memory i)) (λ v. get p.steps v) ≡ Some f.1
    slot x None q e = absurd (cc)
    slot x (Some i) q e = in_one i (element s.memory i) (subst (λ z. and_then z (λ at. and_then (content s.memory at) (λ v. Some (at, v))) ≡ Some f) (follow_plain s.memory p.steps [] i true plain) e)

    of_value : (o : Option Value) → and_then (and_then o (λ u. Some (in_value u))) (λ at. and_then (content s.memory at) (λ v. Some (at, v))) ≡ Some f → o ≡ Some f.1
    of_value None e = absurd (cc)
    of_value (Some v) e = ap (λ z. Some z.1) (some_is e)

    by : (r : Root) (vs : List Value) → found (record { root = r; steps = p.steps }) vs s ≡ Some f → Got (record { root = r; steps = p.steps }) vs s ≡ Some f.1
    by (variable x) vs e = slot x (slot_of s.frame.slots x) refl e
    by (temporary t) [] e = absurd (cc)
    by (temporary t) (v ∷ vs) e = of_value (get p.steps v) (subst (λ z. and_then z (λ at. and_then (content s.memory at) (λ v. Some (at, v))) ≡ Some f) (follow_value s.memory p.steps v plain) e)

module _ (L : Bool) (T : Typing) (S : Store) (s : State) (memory : MemoryTyped L T.declared S s.memory) (variables : SlotsTyped L T S s.frame.slots) where
  root_typed : (r : Root) (vs : List Value) → RootHeld L T S r vs → (v : Value) → root_value r vs s ≡ Some v → HasType L T.declared S v (root_typ T r)
  root_typed (variable x) vs h v e = let a = split (slot_of s.frame.slots x) (λ i. element s.memory i) v e in all_element memory a.0 v (T.variables x) a.2 (variables x a.0 a.1)
  root_typed (temporary t) [] h v e = absurd (cc)
  root_typed (temporary t) (u ∷ us) h v e = subst (λ z. HasType L T.declared S z (T.temporaries t)) (some_is e) h

  pub got_typed : (p : Place) (vs : List Value) (t : Typ) (w : Value) → RootHeld L T S p.root vs → place_typ T p ≡ Some t → Got p vs s ≡ Some w → HasType L T.declared S w t
  got_typed p vs t w h g e = let a = split (root_value p.root vs s) (λ v. get p.steps v) w e in get_typed L T.declared S p.steps a.0 (root_typ T p.root) w t (root_typed p.root vs h a.0 a.1) g a.2

-- what is held for a place has its integers in their ranges
abbrev pub RootRanged : Root → List Value → Type 0
RootRanged (variable x) vs = Unit {0}
RootRanged (temporary t) [] = Unit {0}
RootRanged (temporary t) (v ∷ vs) = IsRanged v

root_ranged : (r : Root) (vs : List Value) (s : State) → AllRanged s.memory → RootRanged r vs → (v : Value) → root_value r vs s ≡ Some v → IsRanged v
root_ranged (variable x) vs s m h v e = let a = split (slot_of s.frame.slots x) (λ i. element s.memory i) v e in element_ranged s.memory m a.0 v a.2
root_ranged (temporary t) [] s m h v e = absurd (cc)
root_ranged (temporary t) (u ∷ us) s m h v e = subst IsRanged (some_is e) h

pub got_ranged : (p : Place) (vs : List Value) (s : State) (w : Value) → AllRanged s.memory → RootRanged p.root vs → Got p vs s ≡ Some w → IsRanged w
got_ranged p vs s w m h e = let a = split (root_value p.root vs s) (λ v. get p.steps v) w e in get_ranged p.steps a.0 w (root_ranged p.root vs s m h a.0 a.1) a.2

-- ---- what a test gave

pub test_gave : (p : Place) (c : Check) (vs : List Value) (s : State) (u : List ℕ) (b : Bool) (s1 : State) → does_strictly (Test p c) vs s ≡ gives u (truth b) s1 → (f : Spot × Value) × (found p vs s ≡ Some f) × (checked c f.1 ≡ Some b)
test_gave p c vs s u b s1 e =
    let g = strict_gives (Test p c) vs s u (truth b) s1 e in
    let x = or_gives (why_not_found p vs s) (found p vs s) (λ f. or_ends (why_not_checked f.1) (checked c f.1) (λ y. gives [] (truth y) s)) u (truth b) g.0 g.1 in
    let y = or_gives (why_not_checked x.0.1) (checked c x.0.1) (λ y. gives [] (truth y) s) u (truth b) g.0 x.2 in
    (x.0, x.1, y.1 ∙ ap (λ z. Some z) (truth_is y.0 y.2))
  where
    truth_is : (y : Bool) → ◌≡◌ {A = Done ℕ} (gives [] (truth y) s) (gives u (truth b) (strict_gives (Test p c) vs s u (truth b) s1 e).0) → y ≡ b
    truth_is y q = cc

tagged_true : (v : ℕ) (w : Value) → checked (has_tag v) w ≡ Some true → IsTagged v w
tagged_true v (tagged j vs) e = sym (eqb-true v j (some_is e))
tagged_true v (number k z) e = tt
tagged_true v (truth b) e = tt
tagged_true v (whole vs) e = tt
tagged_true v (pointer i p m) e = tt
tagged_true v (lacking l) e = tt

-- ---- the only variant

one_of : (ds : List VariantDeclared) (i j : ℕ) (a b : VariantDeclared) → is_several ds ≡ false → slice_get ds i ≡ Some a → slice_get ds j ≡ Some b → i ≡ j
one_of [] i j a b h e g = absurd (cc)
one_of (d ∷ []) zero zero a b h e g = refl
one_of (d ∷ []) (suc i) j a b h e g = absurd (cc)
one_of (d ∷ []) zero (suc j) a b h e g = absurd (cc)
one_of (d ∷ c ∷ ds) i j a b h e g = absurd (true≢false h)

only_tagged : {L : Bool} {D : Declarations} {S : Store} {w : Value} {t : Typ} → HasType L D S w t → (i v : ℕ) (u : Typ) → t ≡ named i → has_several D i ≡ false → typ_behind D t (Step.Variant v) ≡ Some u → IsTagged v w
only_tagged of_number i v u q h e = tt
only_tagged of_truth i v u q h e = tt
only_tagged (of_tuple x) i v u q h e = tt
only_tagged (of_struct d x) i v u q h e = tt
only_tagged {D = D} (of_enum {i = n} {v = j} {ds = ds} {d = x} d f y) i v u q h e = by (slice_get ds v) refl (subst (λ z. item_behind z (Step.Variant v) ≡ Some u) d e)
  where
    same : n ≡ i
    same = cc

    several : is_several ds ≡ false
    several = subst (λ z. is_several (variants_declared z) ≡ false) d (subst (λ z. has_several D z ≡ false) (sym same) h)

    by : (o : Option VariantDeclared) → slice_get ds v ≡ o → parts_behind o ≡ Some u → j ≡ v
    by None r e = absurd (cc)
    by (Some y) r e = one_of ds j v x y several f r
only_tagged (of_reference a b c) i v u q h e = tt
only_tagged of_lack i v u q h e = tt

-- ---- ways that go on, from a place

pub typ_on : (T : Typing) (B : Place) (at : List Step) (st : Step) (t u : Typ) → place_typ T (under B at) ≡ Some t → typ_behind T.declared t st ≡ Some u → place_typ T (under B (at ++ st ∷ [])) ≡ Some u
typ_on T B at st t u h e = subst (λ z. typ_along T.declared (root_typ T B.root) z ≡ Some u) (append_assoc B.steps at (st ∷ [])) (along_more T.declared (B.steps ++ at) (root_typ T B.root) t u st h e)

pub to_field : (B : Place) (vs : List Value) (s : State) (at : List Step) (i : ℕ) → Leads (under B at) vs s → Leads (under B (at ++ Step.Field i ∷ [])) vs s
to_field B vs s at i h =
    (h.0, where_map (root_value B.root vs s) (λ v. OnWay (B.steps ++ at) v) (λ v. OnWay (B.steps ++ (at ++ Step.Field i ∷ [])) v) (λ v e g. subst (λ z. OnWay z v) (append_assoc B.steps at (Step.Field i ∷ [])) (way_field (B.steps ++ at) i v g)) h.1)

pub to_variant : (B : Place) (vs : List Value) (s : State) (at : List Step) (v : ℕ) → Leads (under B at) vs s → ((w : Value) → Got (under B at) vs s ≡ Some w → IsTagged v w) → Leads (under B (at ++ Step.Variant v ∷ [])) vs s
to_variant B vs s at v h k = (
  h.0,
  where_map (root_value B.root vs s) (λ x. OnWay (B.steps ++ at) x) (λ x. OnWay (B.steps ++ (at ++ Step.Variant v ∷ [])) x)
      (λ x e g. subst (λ z. OnWay z x) (append_assoc B.steps at (Step.Variant v ∷ [])) (way_variant (B.steps ++ at) v x g (λ u q. k u (subst (λ z. and_then z (λ y. get (B.steps ++ at) y) ≡ Some u) (sym e) q)))) h.1,
)

pub got_on : (B : Place) (vs : List Value) (s : State) (at : List Step) (st : Step) (w : Value) → Got (under B (at ++ st ∷ [])) vs s ≡ Some w → (v : Value) × (Got (under B at) vs s ≡ Some v) × (meaning.part v st ≡ Some w)
got_on B vs s at st w e = got_more B.root (B.steps ++ at) st vs s w (subst (λ z. and_then (root_value B.root vs s) (λ v. get z v) ≡ Some w) (sym (append_assoc B.steps at (st ∷ []))) e)

-- behind its test a variant is the one that is there
pub tested_tag : (T : Typing) (B : Place) (vs : List Value) (s : State) (at : List Step) (t : Typ) (v : ℕ) (u : List ℕ) (s1 : State) → HasNoReference T.declared (root_typ T B.root) → place_typ T (under B at) ≡ Some t
    → does_strictly (Test (under B at) (has_tag v)) vs s ≡ gives u (truth true) s1 → (w : Value) → Got (under B at) vs s ≡ Some w → IsTagged v w
tested_tag T B vs s at t v u s1 free ty e w g =
    let f = test_gave (under B at) (has_tag v) vs s u true s1 e in
    let q = found_got (under B at) vs s f.0 (plain_along T.declared (B.steps ++ at) (root_typ T B.root) t ty free) f.1 in
    subst (λ z. IsTagged v z) (some_is (sym q ∙ g)) (tagged_true v f.0.1 f.2)

-- and where the enum has no other
pub only_tag : (L : Bool) (T : Typing) (S : Store) (s : State) → MemoryTyped L T.declared S s.memory → SlotsTyped L T S s.frame.slots → (p : Place) (vs : List Value) → RootHeld L T S p.root vs → (i v : ℕ) (u : Typ) → place_typ T p ≡ Some (named i)
    → has_several T.declared i ≡ false → typ_behind T.declared (named i) (Step.Variant v) ≡ Some u → (w : Value) → Got p vs s ≡ Some w → IsTagged v w
only_tag L T S s m sl p vs h i v u ty one e w g = only_tagged (got_typed L T S s m sl p vs (named i) w h ty g) i v u refl one e
