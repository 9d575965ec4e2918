-- Ways through variants: places that go through none lead so; a mark on a value takes no way from it.
use Rattle.std.proofs.Common.{◌≡◌, ℕ, zero, suc, Bool, true, false, nat_eq, List, [], ◌∷◌, ◌++◌, Option, Some, None, refl, sym, subst, if◌then◌else◌}
use Rattle.std.proofs.lemmas.Bool.{eqb-false}
use Rattle.rx_core.specs.declared.types.Step.{Step}
use Rattle.rx_typed.specs.Tree.{Place}
use Rattle.rx_meaning.specs.Values.{Lack, Value, Values, number, truth, whole, tagged, pointer, lacking, no_value, value_and, and_then, field, with_field, part, with_part, get, put, State}
use Rattle.rx_meaning_typed.proofs.Parts.{some_is, split}
use Rattle.rx_meaning_covered.specs.Ways.{Where, OnWay, HasNoVariant, IsHeld, root_value, Leads}

pub equal_is : (i j : ℕ) → i ≡ j → nat_eq i j ≡ true
equal_is i j h = by (nat_eq i j) refl
  where
    by : (b : Bool) → nat_eq i j ≡ b → nat_eq i j ≡ true
    by true e = e
    by false e = absurd (eqb-false i j e h)

pub where_all : {A : Type 0} (o : Option A) (P : A → Type 0) → ((a : A) → P a) → Where o P
where_all None P h = tt
where_all (Some a) P h = h a

pub where_map : {A : Type 0} (o : Option A) (P Q : A → Type 0) → ((a : A) → o ≡ Some a → P a → Q a) → Where o P → Where o Q
where_map None P Q k h = tt
where_map (Some a) P Q k h = k a refl h

pub where_at : {A : Type 0} (o : Option A) (P : A → Type 0) (a : A) → o ≡ Some a → Where o P → P a
where_at None P a e h = absurd (cc)
where_at (Some b) P a e h = subst P (some_is e) h

pub direct_way : (ss : List Step) → HasNoVariant ss → (v : Value) → OnWay ss v
direct_way [] h v = tt
direct_way (Step.Field i ∷ ss) h (whole vs) = where_all (field vs i) (λ u. OnWay ss u) (λ u. direct_way ss h u)
direct_way (Step.Field i ∷ ss) h (number k z) = tt
direct_way (Step.Field i ∷ ss) h (truth b) = tt
direct_way (Step.Field i ∷ ss) h (tagged j vs) = tt
direct_way (Step.Field i ∷ ss) h (pointer j p m) = tt
direct_way (Step.Field i ∷ ss) h (lacking l) = tt
direct_way (Step.Variant j ∷ ss) h v = absurd h
direct_way (Step.Deref m ∷ ss) h v = tt

pub direct_leads : (p : Place) (vs : List Value) (s : State) → HasNoVariant p.steps → IsHeld p.root vs → Leads p vs s
direct_leads p vs s h k = (k, where_all (root_value p.root vs s) (λ v. OnWay p.steps v) (λ v. direct_way p.steps h v))

-- ---- one step more

-- a field asks for no variant
pub way_field : (ss : List Step) (i : ℕ) (v : Value) → OnWay ss v → OnWay (ss ++ Step.Field i ∷ []) v
way_field [] i (whole vs) h = where_all (field vs i) (λ u. OnWay [] u) (λ u. tt)
way_field [] i (number k z) h = tt
way_field [] i (truth b) h = tt
way_field [] i (tagged j vs) h = tt
way_field [] i (pointer j p m) h = tt
way_field [] i (lacking l) h = tt
way_field (Step.Field j ∷ ss) i (whole vs) h = where_map (field vs j) (λ u. OnWay ss u) (λ u. OnWay (ss ++ Step.Field i ∷ []) u) (λ u e g. way_field ss i u g) h
way_field (Step.Field j ∷ ss) i (number k z) h = tt
way_field (Step.Field j ∷ ss) i (truth b) h = tt
way_field (Step.Field j ∷ ss) i (tagged k vs) h = tt
way_field (Step.Field j ∷ ss) i (pointer k p m) h = tt
way_field (Step.Field j ∷ ss) i (lacking l) h = tt
way_field (Step.Variant j ∷ ss) i (tagged k vs) h = (h.0, way_field ss i (whole vs) h.1)
way_field (Step.Variant j ∷ ss) i (whole vs) h = tt
way_field (Step.Variant j ∷ ss) i (number k z) h = tt
way_field (Step.Variant j ∷ ss) i (truth b) h = tt
way_field (Step.Variant j ∷ ss) i (pointer k p m) h = tt
way_field (Step.Variant j ∷ ss) i (lacking l) h = tt
way_field (Step.Deref m ∷ ss) i v h = tt

-- a variant is the one that is there
abbrev pub IsTagged : ℕ → Value → Type 0
IsTagged k (tagged j vs) = j ≡ k
IsTagged k _ = Unit {0}

pub way_variant : (ss : List Step) (k : ℕ) (v : Value) → OnWay ss v → ((u : Value) → get ss v ≡ Some u → IsTagged k u) → OnWay (ss ++ Step.Variant k ∷ []) v
way_variant [] k (tagged j vs) h g = (g (tagged j vs) refl, tt)
way_variant [] k (whole vs) h g = tt
way_variant [] k (number n z) h g = tt
way_variant [] k (truth b) h g = tt
way_variant [] k (pointer j p m) h g = tt
way_variant [] k (lacking l) h g = tt
way_variant (Step.Field j ∷ ss) k (whole vs) h g =
    where_map (field vs j) (λ u. OnWay ss u) (λ u. OnWay (ss ++ Step.Variant k ∷ []) u) (λ u e r. way_variant ss k u r (λ y q. g y (subst (λ z. and_then z (λ x. get ss x) ≡ Some y) (sym e) q))) h
way_variant (Step.Field j ∷ ss) k (number n z) h g = tt
way_variant (Step.Field j ∷ ss) k (truth b) h g = tt
way_variant (Step.Field j ∷ ss) k (tagged n vs) h g = tt
way_variant (Step.Field j ∷ ss) k (pointer n p m) h g = tt
way_variant (Step.Field j ∷ ss) k (lacking l) h g = tt
way_variant (Step.Variant j ∷ ss) k (tagged i vs) h g = (h.0, way_variant ss k (whole vs) h.1 (λ y q. g y (subst (λ z. and_then (if z then Some (whole vs) else None) (λ x. get ss x) ≡ Some y) (sym (equal_is i j h.0)) q)))
way_variant (Step.Variant j ∷ ss) k (whole vs) h g = tt
way_variant (Step.Variant j ∷ ss) k (number n z) h g = tt
way_variant (Step.Variant j ∷ ss) k (truth b) h g = tt
way_variant (Step.Variant j ∷ ss) k (pointer n p m) h g = tt
way_variant (Step.Variant j ∷ ss) k (lacking l) h g = tt
way_variant (Step.Deref m ∷ ss) k v h g = tt

-- ---- a mark

pub lack_way : (ss : List Step) (l : Lack) → OnWay ss (lacking l)
lack_way [] l = tt
lack_way (Step.Field i ∷ ss) l = tt
lack_way (Step.Variant i ∷ ss) l = tt
lack_way (Step.Deref i ∷ ss) l = tt

field_way : (vs : Values) (i : ℕ) (u y : Value) → field vs i ≡ Some u → ((ss : List Step) → OnWay ss u → OnWay ss y) → (ss : List Step) (j : ℕ) → Where (field vs j) (λ z. OnWay ss z) → Where (field (with_field vs i y) j) (λ z. OnWay ss z)
field_way no_value i u y e k ss j h = absurd (cc)
field_way (value_and v vs) zero u y e k ss zero h = k ss (subst (λ z. OnWay ss z) (some_is e) h)
field_way (value_and v vs) zero u y e k ss (suc j) h = h
field_way (value_and v vs) (suc i) u y e k ss zero h = h
field_way (value_and v vs) (suc i) u y e k ss (suc j) h = field_way vs i u y e k ss j h

in_part : (s : Step) (v u y x : Value) → part v s ≡ Some u → with_part v s y ≡ Some x → ((ss : List Step) → OnWay ss u → OnWay ss y) → (ss : List Step) → OnWay ss v → OnWay ss x
in_part (Step.Field i) (whole vs) u y x e g k ss h = subst (λ z. OnWay ss z) (some_is g) (fields ss h)
  where
    fields : (ss : List Step) → OnWay ss (whole vs) → OnWay ss (whole (with_field vs i y))
    fields [] h = tt
    fields (Step.Field j ∷ ss) h = field_way vs i u y e k ss j h
    fields (Step.Variant j ∷ ss) h = tt
    fields (Step.Deref j ∷ ss) h = tt
in_part (Step.Variant j) (tagged i vs) u (whole ws) x e g k ss h = subst (λ z. OnWay ss z) (some_is g) (below ss h)
  where
    is_whole : (b : Bool) → (if b then Some (whole vs) else None) ≡ Some u → whole vs ≡ u
    is_whole true q = some_is q
    is_whole false q = absurd (cc)

    below : (ss : List Step) → OnWay ss (tagged i vs) → OnWay ss (tagged i ws)
    below [] h = tt
    below (Step.Variant n ∷ ss) h = (h.0, k ss (subst (λ z. OnWay ss z) (is_whole (nat_eq i j) e) h.1))
    below (Step.Field n ∷ ss) h = tt
    below (Step.Deref n ∷ ss) h = tt
in_part (Step.Variant j) (tagged i vs) u (number n z) x e g k ss h = absurd (cc)
in_part (Step.Variant j) (tagged i vs) u (truth b) x e g k ss h = absurd (cc)
in_part (Step.Variant j) (tagged i vs) u (tagged n ws) x e g k ss h = absurd (cc)
in_part (Step.Variant j) (tagged i vs) u (pointer n p m) x e g k ss h = absurd (cc)
in_part (Step.Variant j) (tagged i vs) u (lacking l) x e g k ss h = absurd (cc)
in_part (Step.Variant j) (whole vs) u y x e g k ss h = absurd (cc)
in_part (Step.Field i) (tagged j vs) u y x e g k ss h = absurd (cc)
in_part (Step.Deref m) (whole vs) u y x e g k ss h = absurd (cc)
in_part (Step.Deref m) (tagged j vs) u y x e g k ss h = absurd (cc)
in_part s (number n z) u y x e g k ss h = absurd (cc)
in_part s (truth b) u y x e g k ss h = absurd (cc)
in_part s (pointer n p m) u y x e g k ss h = absurd (cc)
in_part s (lacking l) u y x e g k ss h = absurd (cc)

pub put_way : (qs : List Step) (l : Lack) (v x : Value) → put qs (lacking l) v ≡ Some x → (ss : List Step) → OnWay ss v → OnWay ss x
put_way [] l v x e ss h = subst (λ z. OnWay ss z) (some_is e) (lack_way ss l)
put_way (s ∷ qs) l v x e ss h =
    let a = split (part v s) (λ u. and_then (put qs (lacking l) u) (λ y. with_part v s y)) x e in
    let b = split (put qs (lacking l) a.0) (λ y. with_part v s y) x a.2 in
    in_part s v a.0 b.0 x a.1 b.2 (λ rs. put_way qs l a.0 b.0 b.1 rs) ss h
