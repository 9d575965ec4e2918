-- Where a value has nothing, behind a write of a part of it.
use Rattle.std.proofs.Common.{◌≡◌, ℕ, zero, suc, ◌<◌, Bool, true, false, not, ◌&&◌, ◌==◌, nat_eq, List, [], ◌∷◌, ◌++◌, length, Option, Some, None, refl, sym, ap, subst, ◌∙◌, eqb-true, if◌then◌else◌, arith, true≢false}
use Rattle.std.proofs.lemmas.Bool.{eqb-false}
use Rattle.std.proofs.lemmas.Bool.Decides.{Decides-eqb}
use Rattle.rx_core.specs.declared.types.Step.{Step}
use Rattle.rx_meaning.specs.Values.{Lack, Value, Values, number, truth, whole, tagged, pointer, lacking, no_value, value_and, is_set, are_set, and_then, field, with_field, part, with_part, get, put, element, with_element}
use Rattle.rx_facts_tables.specs.Setting.{is_behind}
use Rattle.rx_typed.specs.TypedPlaces.{same_step, is_front}
use Rattle.rx_meaning_keeping.specs.Lacking.{Plain, Off, off_field, off_under}

abbrev pub holds_in : Option Value → (Value → Bool) → Bool
holds_in None f = false
holds_in (Some v) f = f v

-- there is no value somewhere at or below this way, or above it
abbrev pub lacks : List Step → Value → Bool
lacks [] v = not (is_set v)
lacks (s ∷ ss) (lacking l) = true
lacks (s ∷ ss) (number k z) = false
lacks (s ∷ ss) (truth b) = false
lacks (s ∷ ss) (pointer i p m) = false
lacks (s ∷ ss) (whole vs) = holds_in (part (whole vs) s) (λ u. lacks ss u)
lacks (s ∷ ss) (tagged i vs) = holds_in (part (tagged i vs) s) (λ u. lacks ss u)

-- there is none above this way
abbrev pub blocked : List Step → Value → Bool
blocked [] v = false
blocked (s ∷ ss) (lacking l) = true
blocked (s ∷ ss) (number k z) = false
blocked (s ∷ ss) (truth b) = false
blocked (s ∷ ss) (pointer i p m) = false
blocked (s ∷ ss) (whole vs) = holds_in (part (whole vs) s) (λ u. blocked ss u)
blocked (s ∷ ss) (tagged i vs) = holds_in (part (tagged i vs) s) (λ u. blocked ss u)

-- ---- fields

field_same : (vs : Values) (i : ℕ) (u x : Value) → field vs i ≡ Some u → field (with_field vs i x) i ≡ Some x
field_same no_value i u x h = cc
field_same (value_and v vs) zero u x h = refl
field_same (value_and v vs) (suc i) u x h = field_same vs i u x h

field_other : (vs : Values) (i j : ℕ) (x : Value) → (j ≡ i → ⊥) → field (with_field vs i x) j ≡ field vs j
field_other no_value i j x h = refl
field_other (value_and v vs) zero zero x h = absurd (h refl)
field_other (value_and v vs) zero (suc j) x h = refl
field_other (value_and v vs) (suc i) zero x h = refl
field_other (value_and v vs) (suc i) (suc j) x h = field_other vs i j x (λ e. h (ap suc e))

-- ---- ways that part

pub data Where (qs ss : List Step) (w v : Value) (l : Lack) : Type 0 where
  inside : (rs : List Step) → qs ≡ ss ++ rs → get rs w ≡ Some (lacking l) → Where qs ss w v l
  outside : Off qs ss → get qs v ≡ Some (lacking l) → Where qs ss w v l

pub some_is : {A : Type 0} {a b : A} → Some a ≡ Some b → a ≡ b
some_is h = cc

-- one step down
deeper : (s : Step) (qs ss : List Step) (w v u : Value) (l : Lack) → Plain s → part v s ≡ Some u → Where qs ss w u l → Where (s ∷ qs) (s ∷ ss) w v l
deeper s qs ss w v u l f e (inside rs p h) = inside rs (ap (λ x. s ∷ x) p) h
deeper s qs ss w v u l f e (outside o h) = outside (off_under f o) (rw e h)

Reads : Value → List Step → Type 0
Reads w ss = (u y : Value) → put ss w u ≡ Some y → (qs : List Step) (l : Lack) → get qs y ≡ Some (lacking l) → Where qs ss w u l

in_field : (ss : List Step) (w : Value) (vs : Values) (i : ℕ) (u y : Value) → field vs i ≡ Some u → ((qs : List Step) (l : Lack) → get qs y ≡ Some (lacking l) → Where qs ss w u l)
    → (qs : List Step) (l : Lack) → get qs (whole (with_field vs i y)) ≡ Some (lacking l) → Where qs (Step.Field i ∷ ss) w (whole vs) l
in_field ss w vs i u y p k [] l h = cc
in_field ss w vs i u y p k (Step.Field j ∷ qs) l h = by (nat_eq j i) refl
  where
    by : (b : Bool) → nat_eq j i ≡ b → Where (Step.Field j ∷ qs) (Step.Field i ∷ ss) w (whole vs) l
    by true e = let q = eqb-true j i e in
        let h1 = subst (λ z. and_then (field (with_field vs i y) z) (λ x. get qs x) ≡ Some (lacking l)) q h in
        let h2 = subst (λ z. and_then z (λ x. get qs x) ≡ Some (lacking l)) (field_same vs i u y p) h1 in
        subst (λ z. Where (Step.Field z ∷ qs) (Step.Field i ∷ ss) w (whole vs) l) (sym q) (deeper (Step.Field i) qs ss w (whole vs) u l tt p (k qs l h2))
    by false e = outside (off_field (eqb-false j i e)) (subst (λ z. and_then z (λ x. get qs x) ≡ Some (lacking l)) (field_other vs i j y (eqb-false j i e)) h)
in_field ss w vs i u y p k (Step.Variant j ∷ qs) l h = cc
in_field ss w vs i u y p k (Step.Deref j ∷ qs) l h = cc

in_variant : (ss : List Step) (w : Value) (vs ws : Values) (i j : ℕ) → nat_eq i j ≡ true → ((qs : List Step) (l : Lack) → get qs (whole ws) ≡ Some (lacking l) → Where qs ss w (whole vs) l)
    → (qs : List Step) (l : Lack) → get qs (tagged i ws) ≡ Some (lacking l) → Where qs (Step.Variant j ∷ ss) w (tagged i vs) l
in_variant ss w vs ws i j p k [] l h = cc
in_variant ss w vs ws i j p k (Step.Field n ∷ qs) l h = cc
in_variant ss w vs ws i j p k (Step.Deref n ∷ qs) l h = cc
in_variant ss w vs ws i j p k (Step.Variant n ∷ qs) l h = by (nat_eq i n) refl h
  where
    by : (b : Bool) → nat_eq i n ≡ b → and_then (if b then Some (whole ws) else None) (λ x. get qs x) ≡ Some (lacking l) → Where (Step.Variant n ∷ qs) (Step.Variant j ∷ ss) w (tagged i vs) l
    by true e h = let q = sym (eqb-true i j p) ∙ eqb-true i n e in
        subst (λ z. Where (Step.Variant z ∷ qs) (Step.Variant j ∷ ss) w (tagged i vs) l) q
        (deeper (Step.Variant j) qs ss w (tagged i vs) (whole vs) l tt (rw p) (k qs l h))
    by false e h = cc

put_field : (ss : List Step) (w : Value) (vs : Values) (i : ℕ) (x : Value) → Reads w ss → (o : Option Value) → field vs i ≡ o → and_then o (λ u. and_then (put ss w u) (λ y. Some (whole (with_field vs i y)))) ≡ Some x
    → (qs : List Step) (l : Lack) → get qs x ≡ Some (lacking l) → Where qs (Step.Field i ∷ ss) w (whole vs) l
unfolding Reads
put_field ss w vs i x rec None p e qs l h = cc
put_field ss w vs i x rec (Some u) p e qs l h = by (put ss w u) refl e
  where
    by : (o : Option Value) → put ss w u ≡ o → and_then o (λ y. Some (whole (with_field vs i y))) ≡ Some x → Where qs (Step.Field i ∷ ss) w (whole vs) l
    by None q e = cc
    by (Some y) q e = in_field ss w vs i u y p (λ qs l g. rec u y q qs l g) qs l (subst (λ z. get qs z ≡ Some (lacking l)) (sym (some_is e)) h)

put_variant : (ss : List Step) (w : Value) (vs : Values) (i j : ℕ) (x : Value) → Reads w ss → (b : Bool) → nat_eq i j ≡ b
    → and_then (if b then Some (whole vs) else None) (λ u. and_then (put ss w u) (λ y. with_part (tagged i vs) (Step.Variant j) y)) ≡ Some x
    → (qs : List Step) (l : Lack) → get qs x ≡ Some (lacking l) → Where qs (Step.Variant j ∷ ss) w (tagged i vs) l
unfolding Reads
put_variant ss w vs i j x rec false p e qs l h = cc
put_variant ss w vs i j x rec true p e qs l h = by (put ss w (whole vs)) refl e
  where
    by : (o : Option Value) → put ss w (whole vs) ≡ o → and_then o (λ y. with_part (tagged i vs) (Step.Variant j) y) ≡ Some x → Where qs (Step.Variant j ∷ ss) w (tagged i vs) l
    by (Some (whole ws)) q e = in_variant ss w vs ws i j p (λ qs l g. rec (whole vs) (whole ws) q qs l g) qs l (subst (λ z. get qs z ≡ Some (lacking l)) (sym (some_is e)) h)
    by None q e = cc
    by (Some (number k z)) q e = cc
    by (Some (truth b)) q e = cc
    by (Some (tagged k us)) q e = cc
    by (Some (pointer k p m)) q e = cc
    by (Some (lacking k)) q e = cc

pub put_lacks : (ss : List Step) (w v x : Value) → put ss w v ≡ Some x → (qs : List Step) (l : Lack) → get qs x ≡ Some (lacking l) → Where qs ss w v l
unfolding Reads
put_lacks [] w v x e qs l h = inside qs refl (subst (λ z. get qs z ≡ Some (lacking l)) (sym (some_is e)) h)
put_lacks (Step.Field i ∷ ss) w (whole vs) x e qs l h = put_field ss w vs i x (λ u y. put_lacks ss w u y) (field vs i) refl e qs l h
put_lacks (Step.Variant j ∷ ss) w (tagged i vs) x e qs l h = put_variant ss w vs i j x (λ u y. put_lacks ss w u y) (nat_eq i j) refl e qs l h
put_lacks (Step.Field i ∷ ss) w (tagged k vs) x e qs l h = cc
put_lacks (Step.Variant i ∷ ss) w (whole vs) x e qs l h = cc
put_lacks (Step.Deref i ∷ ss) w (whole vs) x e qs l h = cc
put_lacks (Step.Deref i ∷ ss) w (tagged k vs) x e qs l h = cc
put_lacks (s ∷ ss) w (number k z) x e qs l h = nothing_in s h e
  where
    nothing_in : (s : Step) → get qs x ≡ Some (lacking l) → put (s ∷ ss) w (number k z) ≡ Some x → Where qs (s ∷ ss) w (number k z) l
    nothing_in (Step.Field i) h e = cc
    nothing_in (Step.Variant i) h e = cc
    nothing_in (Step.Deref i) h e = cc
put_lacks (s ∷ ss) w (truth k) x e qs l h = nothing_in s h e
  where
    nothing_in : (s : Step) → get qs x ≡ Some (lacking l) → put (s ∷ ss) w (truth k) ≡ Some x → Where qs (s ∷ ss) w (truth k) l
    nothing_in (Step.Field i) h e = cc
    nothing_in (Step.Variant i) h e = cc
    nothing_in (Step.Deref i) h e = cc
put_lacks (s ∷ ss) w (pointer k z m) x e qs l h = nothing_in s h e
  where
    nothing_in : (s : Step) → get qs x ≡ Some (lacking l) → put (s ∷ ss) w (pointer k z m) ≡ Some x → Where qs (s ∷ ss) w (pointer k z m) l
    nothing_in (Step.Field i) h e = cc
    nothing_in (Step.Variant i) h e = cc
    nothing_in (Step.Deref i) h e = cc
put_lacks (s ∷ ss) w (lacking k) x e qs l h = nothing_in s h e
  where
    nothing_in : (s : Step) → get qs x ≡ Some (lacking l) → put (s ∷ ss) w (lacking k) ≡ Some x → Where qs (s ∷ ss) w (lacking k) l
    nothing_in (Step.Field i) h e = cc
    nothing_in (Step.Variant i) h e = cc
    nothing_in (Step.Deref i) h e = cc

-- ---- values that are wholly there

both_true : (a b : Bool) → a && b ≡ true → (a ≡ true) × (b ≡ true)
both_true true true h = (refl, refl)
both_true true false h = cc
both_true false b h = cc

pub field_set : (vs : Values) (i : ℕ) (u : Value) → are_set vs ≡ true → field vs i ≡ Some u → is_set u ≡ true
field_set no_value i u h e = cc
field_set (value_and v vs) zero u h e = subst (λ z. is_set z ≡ true) (some_is e) (both_true (is_set v) (are_set vs) h).0
field_set (value_and v vs) (suc i) u h e = field_set vs i u (both_true (is_set v) (are_set vs) h).1 e

pub part_set : (v : Value) (s : Step) (u : Value) → is_set v ≡ true → part v s ≡ Some u → is_set u ≡ true
part_set (whole vs) (Step.Field i) u h e = field_set vs i u h e
part_set (tagged i vs) (Step.Variant j) u h e = by (nat_eq i j) e
  where
    by : (b : Bool) → (if b then Some (whole vs) else None) ≡ Some u → is_set u ≡ true
    by true e = subst (λ z. is_set z ≡ true) (some_is e) h
    by false e = cc
part_set (whole vs) (Step.Variant i) u h e = cc
part_set (whole vs) (Step.Deref i) u h e = cc
part_set (tagged k vs) (Step.Field i) u h e = cc
part_set (tagged k vs) (Step.Deref i) u h e = cc
part_set (number k z) s u h e = cc
part_set (truth k) s u h e = cc
part_set (pointer k p m) s u h e = cc
part_set (lacking k) s u h e = cc

pub get_set : (ss : List Step) (v u : Value) → is_set v ≡ true → get ss v ≡ Some u → is_set u ≡ true
get_set [] v u h e = subst (λ z. is_set z ≡ true) (some_is e) h
get_set (s ∷ ss) v u h e = by (λ x. get_set ss x u) (part v s) refl e
  where
    by : ((x : Value) → is_set x ≡ true → get ss x ≡ Some u → is_set u ≡ true) → (o : Option Value) → part v s ≡ o → and_then o (λ x. get ss x) ≡ Some u → is_set u ≡ true
    by rec None p e = cc
    by rec (Some x) p e = rec x (part_set v s x h p) e

pub set_not_lacking : (ss : List Step) (v : Value) (l : Lack) → is_set v ≡ true → get ss v ≡ Some (lacking l) → ⊥
set_not_lacking ss v l h e = true≢false (sym (get_set ss v (lacking l) h e))

-- ---- where something is lacking

-- at or below a way, or above it
pub data Near (qs ss : List Step) : Type 0 where
  below : (rs : List Step) → qs ≡ ss ++ rs → Near qs ss
  above : (rs : List Step) → ss ≡ qs ++ rs → Near qs ss

near_under : (s : Step) (qs ss : List Step) → Near qs ss → Near (s ∷ qs) (s ∷ ss)
near_under s qs ss (below rs e) = below rs (ap (λ x. s ∷ x) e)
near_under s qs ss (above rs e) = above rs (ap (λ x. s ∷ x) e)

abbrev Somewhere : Value → Type 0
Somewhere v = (qs : List Step) × (l : Lack) × (get qs v ≡ Some (lacking l))

nat_same : (i : ℕ) → nat_eq i i ≡ true
nat_same i = by (nat_eq i i) refl
  where
    by : (b : Bool) → nat_eq i i ≡ b → nat_eq i i ≡ true
    by true e = e
    by false e = absurd (eqb-false i i e refl)

abbrev SomeField : Values → Type 0
SomeField vs = (i : ℕ) × (u : Value) × Somewhere u × (field vs i ≡ Some u)

first_unset : (v : Value) (vs : Values) → (is_set v ≡ false → Somewhere v) → (are_set vs ≡ false → SomeField vs) → (b : Bool) → is_set v ≡ b → b && are_set vs ≡ false → SomeField (value_and v vs)
first_unset v vs f g false e h = (0, v, f e, refl)
first_unset v vs f g true e h = let r = g h in (suc r.0, r.1, r.2, r.3)

mutual
  unset_where : (v : Value) → is_set v ≡ false → Somewhere v
  unset_where (whole vs) h = let f = unset_field vs h in (Step.Field f.0 ∷ f.2.0, f.2.1, rw (f.3) f.2.2)
  unset_where (tagged i vs) h = let f = unset_field vs h in (Step.Variant i ∷ Step.Field f.0 ∷ f.2.0, f.2.1, rw (nat_same i) (rw (f.3) f.2.2))
  unset_where (lacking l) h = ([], l, refl)
  unset_where (number k z) h = absurd (true≢false h)
  unset_where (truth b) h = absurd (true≢false h)
  unset_where (pointer i p m) h = absurd (true≢false h)

  unset_field : (vs : Values) → are_set vs ≡ false → SomeField vs
  unset_field no_value h = absurd (true≢false h)
  unset_field (value_and v vs) h = first_unset v vs (unset_where v) (unset_field vs) (is_set v) refl h

abbrev Lacking : List Step → Value → Type 0
Lacking ss v = (qs : List Step) × (l : Lack) × (get qs v ≡ Some (lacking l)) × Near qs ss

not_true : (b : Bool) → not b ≡ true → b ≡ false
not_true true h = cc
not_true false h = refl

lacks_below : (s : Step) (ss : List Step) (v : Value) → ((u : Value) → lacks ss u ≡ true → Lacking ss u) → (o : Option Value) → part v s ≡ o → holds_in o (λ u. lacks ss u) ≡ true → Lacking (s ∷ ss) v
lacks_below s ss v rec None p h = cc
lacks_below s ss v rec (Some u) p h = let r = rec u h in (s ∷ r.0, r.1, rw p (r.2), near_under s r.0 ss r.3)

pub lacks_where : (ss : List Step) (v : Value) → lacks ss v ≡ true → Lacking ss v
lacks_where [] v h = let r = unset_where v (not_true (is_set v) h) in (r.0, r.1, r.2, below r.0 refl)
lacks_where (s ∷ ss) (lacking l) h = ([], l, refl, above (s ∷ ss) refl)
lacks_where (s ∷ ss) (number k z) h = cc
lacks_where (s ∷ ss) (truth b) h = cc
lacks_where (s ∷ ss) (pointer i p m) h = cc
lacks_where (s ∷ ss) (whole vs) h = lacks_below s ss (whole vs) (λ u. lacks_where ss u) (part (whole vs) s) refl h
lacks_where (s ∷ ss) (tagged i vs) h = lacks_below s ss (tagged i vs) (λ u. lacks_where ss u) (part (tagged i vs) s) refl h

-- above a way
abbrev Blocked : List Step → Value → Type 0
Blocked ss v = (qs : List Step) × (r : Step) × (rs : List Step) × (l : Lack) × (get qs v ≡ Some (lacking l)) × (ss ≡ qs ++ r ∷ rs)

blocked_below : (s : Step) (ss : List Step) (v : Value) → ((u : Value) → blocked ss u ≡ true → Blocked ss u) → (o : Option Value) → part v s ≡ o → holds_in o (λ u. blocked ss u) ≡ true → Blocked (s ∷ ss) v
blocked_below s ss v rec None p h = cc
blocked_below s ss v rec (Some u) p h = let r = rec u h in (s ∷ r.0, r.1, r.2, r.3, rw (p) (r.4), ap (λ x. s ∷ x) r.5)

pub blocked_where : (ss : List Step) (v : Value) → blocked ss v ≡ true → Blocked ss v
blocked_where [] v h = cc
blocked_where (s ∷ ss) (lacking l) h = ([], s, ss, l, refl, refl)
blocked_where (s ∷ ss) (number k z) h = cc
blocked_where (s ∷ ss) (truth b) h = cc
blocked_where (s ∷ ss) (pointer i p m) h = cc
blocked_where (s ∷ ss) (whole vs) h = blocked_below s ss (whole vs) (λ u. blocked_where ss u) (part (whole vs) s) refl h
blocked_where (s ∷ ss) (tagged i vs) h = blocked_below s ss (tagged i vs) (λ u. blocked_where ss u) (part (tagged i vs) s) refl h

-- a way to what stands in a value has no dereference
pub way_is_plain : (qs : List Step) (v u : Value) → get qs v ≡ Some u → is_behind qs ≡ false
way_is_plain [] v u e = refl
way_is_plain (Step.Field i ∷ qs) v u e = by (part v (Step.Field i)) e (λ x. way_is_plain qs x u)
  where
    by : (o : Option Value) → and_then o (λ x. get qs x) ≡ Some u → ((x : Value) → get qs x ≡ Some u → is_behind qs ≡ false) → is_behind qs ≡ false
    by None e rec = cc
    by (Some x) e rec = rec x e
way_is_plain (Step.Variant i ∷ qs) v u e = by (part v (Step.Variant i)) e (λ x. way_is_plain qs x u)
  where
    by : (o : Option Value) → and_then o (λ x. get qs x) ≡ Some u → ((x : Value) → get qs x ≡ Some u → is_behind qs ≡ false) → is_behind qs ≡ false
    by None e rec = cc
    by (Some x) e rec = rec x e
way_is_plain (Step.Deref b ∷ qs) v u e = none_there v e
  where
    none_there : (v : Value) → get (Step.Deref b ∷ qs) v ≡ Some u → true ≡ false
    none_there (number k z) e = cc
    none_there (truth c) e = cc
    none_there (whole vs) e = cc
    none_there (tagged i vs) e = cc
    none_there (pointer i p m) e = cc
    none_there (lacking l) e = cc

-- ---- fronts of ways

same_self : (s : Step) → same_step s s ≡ true
same_self (Step.Field i) = (Decides-eqb i i).1 refl
same_self (Step.Variant i) = (Decides-eqb i i).1 refl
same_self (Step.Deref true) = refl
same_self (Step.Deref false) = refl

pub front_of : (qs rs : List Step) → is_front qs (qs ++ rs) ≡ true
front_of [] rs = refl
front_of (q ∷ qs) rs = rw (same_self q) (front_of qs rs)

pub no_front : (qs : List Step) (r : Step) (rs : List Step) → is_front (qs ++ r ∷ rs) qs ≡ false
no_front [] r rs = refl
no_front (q ∷ qs) r rs = rw (same_self q) (no_front qs r rs)

pub front_self : (qs : List Step) → is_front qs qs ≡ true
front_self [] = refl
front_self (q ∷ qs) = rw (same_self q) (front_self qs)

pub and_no : (b : Bool) → b && false ≡ false
and_no true = refl
and_no false = refl

pub off_front : (qs ss : List Step) → Off qs ss → is_front ss qs ≡ false
off_front _ _ (off_field {i = i} {j = j} {qs = qs} {ss = ss} d) = by (j == i) refl
  where
    by : (b : Bool) → (j == i) ≡ b → b && is_front ss qs ≡ false
    by true e = absurd (d (sym ((Decides-eqb j i).0 e)))
    by false e = refl
off_front _ _ (off_under {s = s} {qs = qs} {ss = ss} p o) = rw (off_front qs ss o) (and_no (same_step s s))

-- a way through a dereference is no front of one without
pub behind_front : (ps qs : List Step) → is_behind ps ≡ true → is_behind qs ≡ false → is_front ps qs ≡ false
behind_front [] qs h g = absurd (true≢false (sym h))
behind_front (p ∷ ps) [] h g = refl
behind_front (Step.Field i ∷ ps) (Step.Field j ∷ qs) h g = rw (behind_front ps qs h g) (and_no (i == j))
behind_front (Step.Variant i ∷ ps) (Step.Variant j ∷ qs) h g = rw (behind_front ps qs h g) (and_no (i == j))
behind_front (Step.Field i ∷ ps) (Step.Variant j ∷ qs) h g = refl
behind_front (Step.Variant i ∷ ps) (Step.Field j ∷ qs) h g = refl
behind_front (Step.Deref true ∷ ps) (Step.Field j ∷ qs) h g = refl
behind_front (Step.Deref true ∷ ps) (Step.Variant j ∷ qs) h g = refl
behind_front (Step.Deref false ∷ ps) (Step.Field j ∷ qs) h g = refl
behind_front (Step.Deref false ∷ ps) (Step.Variant j ∷ qs) h g = refl
behind_front (s ∷ ps) (Step.Deref c ∷ qs) h g = absurd (true≢false g)

-- ---- slots

pub slot_same : (M : List Value) (i : ℕ) (u x : Value) → element M i ≡ Some u → element (with_element M i x) i ≡ Some x
slot_same [] i u x h = cc
slot_same (v ∷ M) zero u x h = refl
slot_same (v ∷ M) (suc i) u x h = slot_same M i u x h

pub slot_other : (M : List Value) (i j : ℕ) (x : Value) → (j ≡ i → ⊥) → element (with_element M i x) j ≡ element M j
slot_other [] i j x h = refl
slot_other (v ∷ M) zero zero x h = absurd (h refl)
slot_other (v ∷ M) zero (suc j) x h = refl
slot_other (v ∷ M) (suc i) zero x h = refl
slot_other (v ∷ M) (suc i) (suc j) x h = slot_other M i j x (λ e. h (ap suc e))

pub slot_old : (M : List Value) (i : ℕ) (x : Value) → i < length M → element (M ++ x ∷ []) i ≡ element M i
slot_old [] i x h = absurd (omega arith)
slot_old (v ∷ M) zero x h = refl
slot_old (v ∷ M) (suc i) x h = slot_old M i x (omega arith)

pub slot_new : (M : List Value) (x : Value) → element (M ++ x ∷ []) (length M) ≡ Some x
slot_new [] x = refl
slot_new (v ∷ M) x = slot_new M x

pub slot_there : (M : List Value) (i : ℕ) (v : Value) → element M i ≡ Some v → i < length M
slot_there [] i v h = cc
slot_there (u ∷ M) zero v h = omega arith
slot_there (u ∷ M) (suc i) v h = omega (arith, slot_there M i v h)

pub length_with : (M : List Value) (i : ℕ) (x : Value) → length (with_element M i x) ≡ length M
length_with [] i x = refl
length_with (v ∷ M) zero x = refl
length_with (v ∷ M) (suc i) x = ap suc (length_with M i x)

abbrev pub LacksIn : List Value → ℕ → List Step → Type 0
LacksIn M i qs = (v : Value) × (l : Lack) × (element M i ≡ Some v) × (get qs v ≡ Some (lacking l))

-- what lacks behind a write of a part of a slot: what lacked before and is no part of it, or a part of what was written
pub data WrittenLacks (M : List Value) (i j : ℕ) (qs ss : List Step) (w : Value) (l : Lack) : Type 0 where
  of_written : (rs : List Step) → i ≡ j → qs ≡ ss ++ rs → get rs w ≡ Some (lacking l) → WrittenLacks M i j qs ss w l
  of_old : LacksIn M i qs → (i ≡ j → Off qs ss) → WrittenLacks M i j qs ss w l

pub written_lacks : (M : List Value) (i j : ℕ) (ss qs : List Step) (w u x v : Value) (l : Lack) → element M j ≡ Some u → put ss w u ≡ Some x → element (with_element M j x) i ≡ Some v → get qs v ≡ Some (lacking l)
    → WrittenLacks M i j qs ss w l
written_lacks M i j ss qs w u x v l a b c d = by (nat_eq i j) refl
  where
    of : (i ≡ j) → Where qs ss w u l → WrittenLacks M i j qs ss w l
    of e (inside rs p h) = of_written rs e p h
    of e (outside o h) = of_old (u, l, subst (λ z. element M z ≡ Some u) (sym e) a, h) (λ z. o)

    by : (t : Bool) → nat_eq i j ≡ t → WrittenLacks M i j qs ss w l
    by true e = let q = eqb-true i j e in
        let same = some_is (sym (slot_same M j u x a) ∙ subst (λ z. element (with_element M j x) z ≡ Some v) q c) in
        of q (put_lacks ss w u x b qs l (subst (λ z. get qs z ≡ Some (lacking l)) (sym same) d))
    by false e = let n = eqb-false i j e in of_old (v, l, sym (slot_other M j i x n) ∙ c, d) (λ q. absurd (n q))
