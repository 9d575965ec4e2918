-- Ways of places: fronts of them, and ways that are the same up to a dereference.
use Rattle.std.proofs.Common.{◌≡◌, ◌⊎◌, inl, inr, ℕ, Bool, true, false, not, ◌&&◌, ◌||◌, ◌==◌, List, [], ◌∷◌, refl, sym, ◌∙◌, subst, ap, eqb-true, eq-eqb}
use Rattle.rx_core.specs.declared.types.Step.{Step}
use Rattle.rx_core.specs.declared.types.Step.TheVariants as step
use Rattle.rx_typed.specs.TypedPlaces.{same_step, is_front, same_steps}
use Rattle.rx_facts_tables.specs.Setting.{is_behind}
use Rattle.rx_facts_tables.specs.Wholes.{holds_in, is_all}
use Rattle.rx_facts_tables.proofs.Fronts.{same_step_is}
use Rattle.rx_engine_initial.specs.Variables.{SameWay, both_end, both_field, both_variant, both_behind}

-- ---- truth values

pub no : {A : Type 0} → false ≡ true → A
no e = absurd (cc)

pub and_left : (a b : Bool) → (a && b) ≡ true → a ≡ true
and_left true b h = refl
and_left false b h = no h

pub and_right : (a b : Bool) → (a && b) ≡ true → b ≡ true
and_right true b h = h
and_right false b h = no h

pub and_both : (a b : Bool) → a ≡ true → b ≡ true → (a && b) ≡ true
and_both true b p q = q
and_both false b p q = no p

pub or_left : (a b : Bool) → a ≡ true → (a || b) ≡ true
or_left true b p = refl
or_left false b p = no p

pub or_right : (a b : Bool) → b ≡ true → (a || b) ≡ true
or_right true b p = refl
or_right false b p = p

pub either : (a b : Bool) → (a || b) ≡ true → (a ≡ true) ⊎ (b ≡ true)
either true b h = inl refl
either false b h = inr h

pub agree : (a b : Bool) → (a ≡ true → b ≡ true) → (b ≡ true → a ≡ true) → a ≡ b
agree true b f g = sym (f refl)
agree false true f g = g refl
agree false false f g = refl

pub is_false : (b : Bool) → (b ≡ true → ⊥) → b ≡ false
is_false true h = absurd (h refl)
is_false false h = refl

pub clash : {A : Type 0} (b : Bool) → b ≡ true → b ≡ false → A
clash true p q = absurd (cc)
clash false p q = no p

pub same_self : (x : ℕ) → (x == x) ≡ true
same_self x = eq-eqb x x refl

pub other_number : (x y : ℕ) → (x ≡ y → ⊥) → (x == y) ≡ false
other_number x y n = is_false (x == y) (λ q. n (eqb-true x y q))

-- ---- fronts

pub same_step_self : (s : Step) → same_step s s ≡ true
same_step_self (step.Field i) = same_self i
same_step_self (step.Variant v) = same_self v
same_step_self (step.Deref true) = refl
same_step_self (step.Deref false) = refl

pub front_self : (ss : List Step) → is_front ss ss ≡ true
front_self [] = refl
front_self (s ∷ ss) = and_both (same_step s s) (is_front ss ss) (same_step_self s) (front_self ss)

pub same_steps_self : (ss : List Step) → same_steps ss ss ≡ true
same_steps_self ss = and_both (is_front ss ss) (is_front ss ss) (front_self ss) (front_self ss)

pub front_trans : (ps qs rs : List Step) → is_front ps qs ≡ true → is_front qs rs ≡ true → is_front ps rs ≡ true
front_trans [] qs rs h k = refl
front_trans (p ∷ ps) [] rs h k = no h
front_trans (p ∷ ps) (q ∷ qs) [] h k = no k
front_trans (p ∷ ps) (q ∷ qs) (r ∷ rs) h k = and_both (same_step p r) (is_front ps rs)
    (subst (λ s. same_step p s ≡ true) (same_step_is p q (and_left (same_step p q) (is_front ps qs) h) ∙ same_step_is q r (and_left (same_step q r) (is_front qs rs) k)) (same_step_self p))
    (front_trans ps qs rs (and_right (same_step p q) (is_front ps qs) h) (and_right (same_step q r) (is_front qs rs) k))

behind_more : (s : Step) (ps qs : List Step) → (is_behind qs ≡ false → is_behind ps ≡ false) → is_behind (s ∷ qs) ≡ false → is_behind (s ∷ ps) ≡ false
behind_more (step.Field i) ps qs f b = f b
behind_more (step.Variant v) ps qs f b = f b
behind_more (step.Deref m) ps qs f b = clash true refl b

pub behind_front : (ps qs : List Step) → is_front ps qs ≡ true → is_behind qs ≡ false → is_behind ps ≡ false
behind_front [] qs h b = refl
behind_front (p ∷ ps) [] h b = no h
behind_front (p ∷ ps) (q ∷ qs) h b = behind_more p ps qs (behind_front ps qs (and_right (same_step p q) (is_front ps qs) h))
    (subst (λ s. is_behind (s ∷ qs) ≡ false) (sym (same_step_is p q (and_left (same_step p q) (is_front ps qs) h))) b)

-- what holds another place as a part
pub record Holds (qs ss : List Step) : Type 0 where
  pub front : is_front qs ss ≡ true
  pub less : is_front ss qs ≡ false
  pub outside : is_behind qs ≡ false

three : (a b c : Bool) → (a && not b && not c) ≡ true → (a ≡ true) × (b ≡ false) × (c ≡ false)
three true false false h = (refl, refl, refl)
three true false true h = no h
three true true c h = no h
three false b c h = no h

three_of : (a b c : Bool) → a ≡ true → b ≡ false → c ≡ false → (a && not b && not c) ≡ true
three_of true false false p q r = refl
three_of true false true p q r = clash true refl r
three_of true true c p q r = clash true refl q
three_of false b c p q r = no p

pub holds_of : (qs ss : List Step) → holds_in qs ss ≡ true → Holds qs ss
holds_of qs ss h = let t = three (is_front qs ss) (is_front ss qs) (is_behind qs) h in record { front = t.0; less = t.1; outside = t.2 }

pub of_holds : (qs ss : List Step) → Holds qs ss → holds_in qs ss ≡ true
of_holds qs ss h = three_of (is_front qs ss) (is_front ss qs) (is_behind qs) h.front h.less h.outside

pub fronts_hold : (ps qs ss : List Step) → is_front ps qs ≡ true → Holds qs ss → Holds ps ss
fronts_hold ps qs ss f h = record {
  front = front_trans ps qs ss f h.front;
  less = is_false (is_front ss ps) (λ q. clash (is_front ss qs) (front_trans ss ps qs q f) h.less);
  outside = behind_front ps qs f h.outside;
}

-- ---- ways that are the same up to a dereference

pub behind_same : {ss rs : List Step} → SameWay ss rs → is_behind ss ≡ is_behind rs
behind_same both_end = refl
behind_same (both_field w) = behind_same w
behind_same (both_variant w) = behind_same w
behind_same both_behind = refl

pub all_same : {ss rs : List Step} → SameWay ss rs → is_all ss ≡ is_all rs
all_same both_end = refl
all_same (both_field w) = refl
all_same (both_variant w) = refl
all_same both_behind = refl

no_front : (m : Bool) (ss qs : List Step) → is_behind qs ≡ false → is_front (step.Deref m ∷ ss) qs ≡ false
no_front m ss [] b = refl
no_front true ss (step.Field i ∷ qs) b = refl
no_front false ss (step.Field i ∷ qs) b = refl
no_front true ss (step.Variant v ∷ qs) b = refl
no_front false ss (step.Variant v ∷ qs) b = refl
no_front m ss (step.Deref k ∷ qs) b = clash true refl b

pub front_same : {ss rs : List Step} → SameWay ss rs → (qs : List Step) → is_behind qs ≡ false → is_front ss qs ≡ is_front rs qs
front_same both_end qs b = refl
front_same (both_field w) [] b = refl
front_same (both_field {i = i} w) (step.Field j ∷ qs) b = ap (λ c. (i == j) && c) (front_same w qs b)
front_same (both_field w) (step.Variant v ∷ qs) b = refl
front_same (both_field w) (step.Deref m ∷ qs) b = clash true refl b
front_same (both_variant w) [] b = refl
front_same (both_variant w) (step.Field j ∷ qs) b = refl
front_same (both_variant {v = v} w) (step.Variant u ∷ qs) b = ap (λ c. (v == u) && c) (front_same w qs b)
front_same (both_variant w) (step.Deref m ∷ qs) b = clash true refl b
front_same (both_behind {m = m} {k = k} {ss = ss} {rs = rs}) qs b = no_front m ss qs b ∙ sym (no_front k rs qs b)

no_step : (s : Step) (m k : Bool) (qs ss rs : List Step) → is_behind (s ∷ qs) ≡ false → is_front (s ∷ qs) (step.Deref m ∷ ss) ≡ is_front (s ∷ qs) (step.Deref k ∷ rs)
no_step (step.Field i) m k qs ss rs b = refl
no_step (step.Variant v) m k qs ss rs b = refl
no_step (step.Deref n) m k qs ss rs b = clash true refl b

pub back_same : {ss rs : List Step} → SameWay ss rs → (qs : List Step) → is_behind qs ≡ false → is_front qs ss ≡ is_front qs rs
back_same w [] b = refl
back_same both_end (q ∷ qs) b = refl
back_same (both_field {i = i} w) (step.Field j ∷ qs) b = ap (λ c. (j == i) && c) (back_same w qs b)
back_same (both_field w) (step.Variant v ∷ qs) b = refl
back_same (both_field w) (step.Deref m ∷ qs) b = clash true refl b
back_same (both_variant w) (step.Field j ∷ qs) b = refl
back_same (both_variant {v = v} w) (step.Variant u ∷ qs) b = ap (λ c. (u == v) && c) (back_same w qs b)
back_same (both_variant w) (step.Deref m ∷ qs) b = clash true refl b
back_same (both_behind {m = m} {k = k} {ss = ss} {rs = rs}) (q ∷ qs) b = no_step q m k qs ss rs b

pub holds_same : {ss rs : List Step} → SameWay ss rs → (qs : List Step) → Holds qs ss → Holds qs rs
holds_same w qs h = record { front = sym (back_same w qs h.outside) ∙ h.front; less = sym (front_same w qs h.outside) ∙ h.less; outside = h.outside }
