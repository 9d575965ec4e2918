-- A value of which some parts are lacking beside the same with these parts: what the first has the second has too, and where the
-- first has no such part, the second has none either, for the same cause, unless a lack is the cause.
use Rattle.std.proofs.Common.{◌≡◌, ℕ, zero, suc, ℤ, Bool, true, false, ◌&&◌, nat_eq, List, [], ◌∷◌, Option, Some, None, ◌⊎◌, inl, inr, refl, sym, ap, subst, if◌then◌else◌, true≢false}
use Rattle.rx_core.specs.declared.types.Step.{Step}
use Rattle.rx_meaning.specs.Endings.{Cause, astray}
use Rattle.rx_meaning.specs.Straying.{unlike, where_some, why_no_part}
use Rattle.rx_meaning.specs.Values.{Lack, Value, Values, number, truth, whole, tagged, pointer, lacking, no_value, value_and, is_set, are_set, and_then, field, with_field, part, with_part, get, put}
use Rattle.rx_meaning_keeping.proofs.Slots.{some_is}
use Rattle.rx_meaning_keeping.proofs.Direct.{IsLack, put_in_whole}

-- ---- a value of which some parts are lacking

mutual
  pub data Fewer : Value → Value → Type 0 where
    lacks : {l : Lack} {v : Value} → Fewer (lacking l) v
    same_number : {k : _} {z : ℤ} → Fewer (number k z) (number k z)
    same_truth : {b : Bool} → Fewer (truth b) (truth b)
    same_pointer : {i : ℕ} {p : List Step} {m : Bool} → Fewer (pointer i p m) (pointer i p m)
    wholes : {vs us : Values} → FewerAll vs us → Fewer (whole vs) (whole us)
    variants : {i : ℕ} {vs us : Values} → FewerAll vs us → Fewer (tagged i vs) (tagged i us)

  pub data FewerAll : Values → Values → Type 0 where
    no_field : FewerAll no_value no_value
    fields : {v u : Value} {vs us : Values} → Fewer v u → FewerAll vs us → FewerAll (value_and v vs) (value_and u us)

abbrev pub FewerIn : Option Value → Option Value → Type 0
FewerIn o q = (v : Value) → o ≡ Some v → (u : Value) × (q ≡ Some u) × Fewer v u

mutual
  pub fewer_same : (v : Value) → Fewer v v
  fewer_same (number k z) = same_number
  fewer_same (truth b) = same_truth
  fewer_same (whole vs) = wholes (all_same vs)
  fewer_same (tagged i vs) = variants (all_same vs)
  fewer_same (pointer i p m) = same_pointer
  fewer_same (lacking l) = lacks

  all_same : (vs : Values) → FewerAll vs vs
  all_same no_value = no_field
  all_same (value_and v vs) = fields (fewer_same v) (all_same vs)

pub fewer_is : {a v u : Value} → Some a ≡ Some v → Fewer a u → Fewer v u
fewer_is {u = u} e h = subst (λ z. Fewer z u) (some_is e) h

in_fields : (vs us : Values) (i : ℕ) → FewerAll vs us → FewerIn (field vs i) (field us i)
in_fields _ _ i no_field v e = cc
in_fields _ _ zero (fields {u = u} h t) v e = (u, refl, fewer_is e h)
in_fields _ _ (suc i) (fields h t) v e = in_fields _ _ i t v e

with_fields : (vs us : Values) (i : ℕ) (x y : Value) → FewerAll vs us → Fewer x y → FewerAll (with_field vs i x) (with_field us i y)
with_fields _ _ i x y no_field g = no_field
with_fields _ _ zero x y (fields h t) g = fields g t
with_fields _ _ (suc i) x y (fields h t) g = fields h (with_fields _ _ i x y t g)

in_variant : (b : Bool) (vs us : Values) → FewerAll vs us → FewerIn (if b then Some (whole vs) else None) (if b then Some (whole us) else None)
in_variant true vs us h v e = (whole us, refl, fewer_is e (wholes h))
in_variant false vs us h v e = cc

pub nothing : {v : Value} {A : Type 0} → None ≡ Some v → A
nothing e = cc

pub fewer_part : (s : Step) (v u : Value) → Fewer v u → FewerIn (part v s) (part u s)
fewer_part (Step.Field i) _ _ (wholes {vs = vs} {us = us} h) x e = in_fields vs us i h x e
fewer_part (Step.Variant j) _ _ (variants {i = i} {vs = vs} {us = us} h) x e = in_variant (nat_eq i j) vs us h x e
fewer_part (Step.Variant j) _ _ (wholes h) x e = nothing e
fewer_part (Step.Deref j) _ _ (wholes h) x e = nothing e
fewer_part (Step.Field j) _ _ (variants h) x e = nothing e
fewer_part (Step.Deref j) _ _ (variants h) x e = nothing e
fewer_part s _ _ lacks x e = nothing e
fewer_part s _ _ same_number x e = nothing e
fewer_part s _ _ same_truth x e = nothing e
fewer_part s _ _ same_pointer x e = nothing e

pub fewer_get : (ss : List Step) (v u : Value) → Fewer v u → FewerIn (get ss v) (get ss u)
fewer_get [] v u h x e = (u, refl, fewer_is e h)
fewer_get (s ∷ ss) v u h x e = by (part v s) refl e (λ a b f. fewer_get ss a b f)
  where
    by : (o : Option Value) → part v s ≡ o → and_then o (λ a. get ss a) ≡ Some x → ((a b : Value) → Fewer a b → FewerIn (get ss a) (get ss b)) → (y : Value) × (and_then (part u s) (λ a. get ss a) ≡ Some y) × Fewer x y
    by None p e rec = nothing e
    by (Some a) p e rec = let q = fewer_part s v u h a p in let r = rec a q.0 q.2 x e in (r.0, rw (q.1) r.1, r.2)

-- a part of both is written
rebuilt : (s : Step) (v u x y z : Value) → Fewer v u → Fewer x y → with_part v s x ≡ Some z → (t : Value) × (with_part u s y ≡ Some t) × Fewer z t
rebuilt (Step.Field i) _ _ x y z (wholes {vs = vs} {us = us} h) g e = (whole (with_field us i y), refl, fewer_is e (wholes (with_fields vs us i x y h g)))
rebuilt (Step.Variant j) _ _ _ _ z (variants {i = i} h) (wholes {us = ys} g) e = (tagged i ys, refl, fewer_is e (variants g))
rebuilt (Step.Variant j) _ _ _ _ z (variants h) lacks e = nothing e
rebuilt (Step.Variant j) _ _ _ _ z (variants h) same_number e = nothing e
rebuilt (Step.Variant j) _ _ _ _ z (variants h) same_truth e = nothing e
rebuilt (Step.Variant j) _ _ _ _ z (variants h) same_pointer e = nothing e
rebuilt (Step.Variant j) _ _ _ _ z (variants h) (variants g) e = nothing e
rebuilt (Step.Variant j) _ _ x y z (wholes h) g e = nothing e
rebuilt (Step.Deref j) _ _ x y z (wholes h) g e = nothing e
rebuilt (Step.Field j) _ _ x y z (variants h) g e = nothing e
rebuilt (Step.Deref j) _ _ x y z (variants h) g e = nothing e
rebuilt s _ _ x y z lacks g e = nothing e
rebuilt s _ _ x y z same_number g e = nothing e
rebuilt s _ _ x y z same_truth g e = nothing e
rebuilt s _ _ x y z same_pointer g e = nothing e

pub fewer_put : (ss : List Step) (w v u : Value) → Fewer v u → FewerIn (put ss w v) (put ss w u)
fewer_put [] w v u h x e = (w, refl, fewer_is e (fewer_same w))
fewer_put (s ∷ ss) w v u h x e = by (part v s) refl e (λ a b f. fewer_put ss w a b f)
  where
    Answer : Type 0
    Answer = (y : Value) × (put (s ∷ ss) w u ≡ Some y) × Fewer x y

    inner : (a : Value) (q : (b : Value) × (part u s ≡ Some b) × Fewer a b) → (o : Option Value) → put ss w a ≡ o → and_then o (λ z. with_part v s z) ≡ Some x → FewerIn (put ss w a) (put ss w q.0) → Answer
    inner a q None f e rec = nothing e
    inner a q (Some b) f e rec = let r = rec b f in let t = rebuilt s v u b r.0 x h r.2 e in (t.0, rw (q.1) (rw (r.1) t.1), t.2)

    by : (o : Option Value) → part v s ≡ o → and_then o (λ a. and_then (put ss w a) (λ z. with_part v s z)) ≡ Some x → ((a b : Value) → Fewer a b → FewerIn (put ss w a) (put ss w b)) → Answer
    by None p e rec = nothing e
    by (Some a) p e rec = let q = fewer_part s v u h a p in inner a q (put ss w a) refl e (rec a q.0 q.2)

-- a part of the first is marked
mark_fields : (vs us : Values) (i : ℕ) (x y : Value) → FewerAll vs us → field us i ≡ Some y → Fewer x y → FewerAll (with_field vs i x) us
mark_fields _ _ i x y no_field e g = no_field
mark_fields _ _ zero x y (fields {u = u} h t) e g = fields (subst (λ z. Fewer x z) (sym (some_is e)) g) t
mark_fields _ _ (suc i) x y (fields h t) e g = fields h (mark_fields _ _ i x y t e g)

mark_variant : (b : Bool) (i : ℕ) (vs us ws : Values) (y : Value) → FewerAll vs us → (if b then Some (whole us) else None) ≡ Some y → Fewer (whole ws) y → Fewer (tagged i ws) (tagged i us)
mark_variant true i vs us ws y h e g = by (subst (λ z. Fewer (whole ws) z) (sym (some_is e)) g)
  where
    by : Fewer (whole ws) (whole us) → Fewer (tagged i ws) (tagged i us)
    by (wholes f) = variants f
mark_variant false i vs us ws y h e g = nothing e

remarked : (s : Step) (v u x y z : Value) → Fewer v u → part u s ≡ Some y → Fewer x y → with_part v s x ≡ Some z → Fewer z u
remarked (Step.Field i) _ _ x y z (wholes {vs = vs} {us = us} h) p g e = fewer_is e (wholes (mark_fields vs us i x y h p g))
remarked (Step.Variant j) _ _ (whole ws) y z (variants {i = i} {vs = vs} {us = us} h) p g e = fewer_is e (mark_variant (nat_eq i j) i vs us ws y h p g)
remarked (Step.Variant j) _ _ (number k n) y z (variants h) p g e = nothing e
remarked (Step.Variant j) _ _ (truth b) y z (variants h) p g e = nothing e
remarked (Step.Variant j) _ _ (tagged i vs) y z (variants h) p g e = nothing e
remarked (Step.Variant j) _ _ (pointer i q m) y z (variants h) p g e = nothing e
remarked (Step.Variant j) _ _ (lacking l) y z (variants h) p g e = nothing e
remarked (Step.Variant j) _ _ x y z (wholes h) p g e = nothing e
remarked (Step.Deref j) _ _ x y z (wholes h) p g e = nothing e
remarked (Step.Field j) _ _ x y z (variants h) p g e = nothing e
remarked (Step.Deref j) _ _ x y z (variants h) p g e = nothing e
remarked s _ _ x y z lacks p g e = nothing e
remarked s _ _ x y z same_number p g e = nothing e
remarked s _ _ x y z same_truth p g e = nothing e
remarked s _ _ x y z same_pointer p g e = nothing e

pub fewer_mark : (ss : List Step) (l : Lack) (v u x : Value) → Fewer v u → put ss (lacking l) v ≡ Some x → Fewer x u
fewer_mark [] l v u x h e = fewer_is e lacks
fewer_mark (s ∷ ss) l v u x h e = by (part v s) refl e (λ a b z f g. fewer_mark ss l a b z f g)
  where
    inner : (a : Value) (q : (b : Value) × (part u s ≡ Some b) × Fewer a b) → (o : Option Value) → put ss (lacking l) a ≡ o → and_then o (λ z. with_part v s z) ≡ Some x → ((z : Value) → put ss (lacking l) a ≡ Some z → Fewer z q.0) → Fewer x u
    inner a q None f e rec = nothing e
    inner a q (Some b) f e rec = remarked s v u b q.0 x h q.1 (rec b f) e

    by : (o : Option Value) → part v s ≡ o → and_then o (λ a. and_then (put ss (lacking l) a) (λ z. with_part v s z)) ≡ Some x → ((a b z : Value) → Fewer a b → put ss (lacking l) a ≡ Some z → Fewer z b) → Fewer x u
    by None p e rec = nothing e
    by (Some a) p e rec = let q = fewer_part s v u h a p in inner a q (put ss (lacking l) a) refl e (λ z g. rec a q.0 z q.2 g)

mutual
  pub fewer_set : (v u : Value) → Fewer v u → is_set v ≡ true → v ≡ u
  fewer_set _ _ lacks e = absurd (true≢false (sym e))
  fewer_set _ _ same_number e = refl
  fewer_set _ _ same_truth e = refl
  fewer_set _ _ same_pointer e = refl
  fewer_set _ _ (wholes h) e = ap (λ z. whole z) (all_set _ _ h e)
  fewer_set _ _ (variants {i = i} h) e = ap (λ z. tagged i z) (all_set _ _ h e)

  all_set : (vs us : Values) → FewerAll vs us → are_set vs ≡ true → vs ≡ us
  all_set _ _ no_field e = refl
  all_set _ _ (fields {v = v} {vs = vs} h t) e = both (is_set v) (are_set vs) e (fewer_set _ _ h) (all_set _ _ t)
    where
      both : {x y : Value} {xs ys : Values} (a b : Bool) → a && b ≡ true → (a ≡ true → x ≡ y) → (b ≡ true → xs ≡ ys) → value_and x xs ≡ value_and y ys
      both true true e f g = rw (f refl) (rw (g refl))
      both true false e f g = absurd (true≢false (sym e))
      both false b e f g = absurd (true≢false (sym e))

-- ---- where the first has no such part, the second has none either, or a lack was the cause

pub unlike_same : (c : Cause) (v u : Value) → Fewer v u → IsLack (unlike c v) ⊎ (unlike c v ≡ unlike c u)
unlike_same c _ _ lacks = inl refl
unlike_same c _ _ same_number = inr refl
unlike_same c _ _ same_truth = inr refl
unlike_same c _ _ same_pointer = inr refl
unlike_same c _ _ (wholes h) = inr refl
unlike_same c _ _ (variants h) = inr refl

fields_fail : (vs us : Values) (i : ℕ) → FewerAll vs us → field vs i ≡ None → field us i ≡ None
fields_fail _ _ i no_field e = refl
fields_fail _ _ zero (fields h t) e = cc
fields_fail _ _ (suc i) (fields h t) e = fields_fail _ _ i t e

variant_fails : (b : Bool) (vs us : Values) → (if b then Some (whole vs) else None) ≡ None → (if b then Some (whole us) else None) ≡ None
variant_fails true vs us e = cc
variant_fails false vs us e = refl

-- a step from what lacks
abbrev OrLack : Value → Type 0 → Type 0
OrLack v A = ((c : Cause) → IsLack (unlike c v)) ⊎ A

part_fails : (s : Step) (v u : Value) → Fewer v u → part v s ≡ None → OrLack v (part u s ≡ None)
part_fails s _ _ lacks e = inl (λ c. refl)
part_fails s _ _ same_number e = inr e
part_fails s _ _ same_truth e = inr e
part_fails s _ _ same_pointer e = inr e
part_fails (Step.Field i) _ _ (wholes {vs = vs} {us = us} h) e = inr (fields_fail vs us i h e)
part_fails (Step.Variant i) _ _ (wholes h) e = inr refl
part_fails (Step.Deref i) _ _ (wholes h) e = inr refl
part_fails (Step.Variant j) _ _ (variants {i = i} {vs = vs} {us = us} h) e = inr (variant_fails (nat_eq i j) vs us e)
part_fails (Step.Field j) _ _ (variants h) e = inr refl
part_fails (Step.Deref j) _ _ (variants h) e = inr refl

-- the cause on a path
pub why_same : (ss : List Step) (v u : Value) → Fewer v u → IsLack (why_no_part ss v) ⊎ (why_no_part ss v ≡ why_no_part ss u)
why_same [] v u h = unlike_same astray v u h
why_same (s ∷ ss) v u h = by (part v s) refl (λ a b g. why_same ss a b g)
  where
    Answer : Option Value → Type 0
    Answer o = IsLack (where_some o (unlike astray v) (λ x. why_no_part ss x)) ⊎ (where_some o (unlike astray v) (λ x. why_no_part ss x) ≡ why_no_part (s ∷ ss) u)

    ends_too : OrLack v (part u s ≡ None) → IsLack (unlike astray v) ⊎ (unlike astray v ≡ unlike astray u) → Answer None
    ends_too (inl l) k = inl (l astray)
    ends_too (inr p) (inl l) = inl l
    ends_too (inr p) (inr q) = inr (rw p q)

    goes_too : (a b : Value) → part u s ≡ Some b → IsLack (why_no_part ss a) ⊎ (why_no_part ss a ≡ why_no_part ss b) → Answer (Some a)
    goes_too a b p (inl l) = inl l
    goes_too a b p (inr q) = inr (rw p q)

    by : (o : Option Value) → part v s ≡ o → ((a b : Value) → Fewer a b → IsLack (why_no_part ss a) ⊎ (why_no_part ss a ≡ why_no_part ss b)) → Answer o
    by None p rec = ends_too (part_fails s v u h p) (unlike_same astray v u h)
    by (Some a) p rec = let q = fewer_part s v u h a p in goes_too a q.0 q.1 (rec a q.0 q.2)

-- nothing stands there
pub get_fails : (ss : List Step) (v u : Value) → Fewer v u → get ss v ≡ None → IsLack (why_no_part ss v) ⊎ (get ss u ≡ None)
get_fails [] v u h e = cc
get_fails (s ∷ ss) v u h e = by (part v s) refl e (λ a b g. get_fails ss a b g)
  where
    Answer : Option Value → Type 0
    Answer o = IsLack (where_some o (unlike astray v) (λ x. why_no_part ss x)) ⊎ (get (s ∷ ss) u ≡ None)

    ends_too : OrLack v (part u s ≡ None) → Answer None
    ends_too (inl l) = inl (l astray)
    ends_too (inr p) = inr (rw p refl)

    goes_too : (a b : Value) → part u s ≡ Some b → IsLack (why_no_part ss a) ⊎ (get ss b ≡ None) → Answer (Some a)
    goes_too a b p (inl l) = inl l
    goes_too a b p (inr q) = inr (rw p q)

    by : (o : Option Value) → part v s ≡ o → and_then o (λ a. get ss a) ≡ None → ((a b : Value) → Fewer a b → get ss a ≡ None → IsLack (why_no_part ss a) ⊎ (get ss b ≡ None)) → Answer o
    by None p e rec = ends_too (part_fails s v u h p)
    by (Some a) p e rec = let q = fewer_part s v u h a p in goes_too a q.0 q.1 (rec a q.0 q.2 e)

-- nothing can be put there
abbrev FailsToo : List Step → Value → Value → Value → Type 0
FailsToo ss w v u = put ss w v ≡ None → IsLack (why_no_part ss v) ⊎ (put ss w u ≡ None)

put_variant_fails : (ss : List Step) (w : Value) (b : Bool) (i j : ℕ) (vs us : Values) → nat_eq i j ≡ b → Fewer (whole vs) (whole us) → FailsToo ss w (whole vs) (whole us)
    → and_then (if b then Some (whole vs) else None) (λ a. and_then (put ss w a) (λ x. with_part (tagged i vs) (Step.Variant j) x)) ≡ None
    → IsLack (where_some (if b then Some (whole vs) else None) astray (λ x. why_no_part ss x)) ⊎ (and_then (if b then Some (whole us) else None) (λ a. and_then (put ss w a) (λ x. with_part (tagged i us) (Step.Variant j) x)) ≡ None)
put_variant_fails ss w false i j vs us p h rec e = inr refl
put_variant_fails ss w true i j vs us p h rec e = by (put ss w (whole vs)) refl e
  where
    Answer : Type 0
    Answer = IsLack (why_no_part ss (whole vs)) ⊎ (and_then (put ss w (whole us)) (λ x. with_part (tagged i us) (Step.Variant j) x) ≡ None)

    too : IsLack (why_no_part ss (whole vs)) ⊎ (put ss w (whole us) ≡ None) → Answer
    too (inl l) = inl l
    too (inr q) = inr (rw q refl)

    -- what was put where the way ends is put there too
    other_form : (x : Value) → with_part (tagged i vs) (Step.Variant j) x ≡ None → with_part (tagged i us) (Step.Variant j) x ≡ None
    other_form (whole xs) e = cc
    other_form (number k z) e = refl
    other_form (truth c) e = refl
    other_form (tagged k xs) e = refl
    other_form (pointer k q m) e = refl
    other_form (lacking l) e = refl

    made : (rs : List Step) (x : Value) → put rs w (whole vs) ≡ Some x → with_part (tagged i vs) (Step.Variant j) x ≡ None → IsLack (why_no_part rs (whole vs)) ⊎ (and_then (put rs w (whole us)) (λ y. with_part (tagged i us) (Step.Variant j) y) ≡ None)
    made [] x q e = inr (other_form w (subst (λ z. with_part (tagged i vs) (Step.Variant j) z ≡ None) (sym (some_is q)) e))
    made (r ∷ rs) x q e = let y = put_in_whole r rs w vs x q in absurd (never y.0 (subst (λ z. with_part (tagged i vs) (Step.Variant j) z ≡ None) y.1 e))
      where
        never : (xs : Values) → with_part (tagged i vs) (Step.Variant j) (whole xs) ≡ None → ⊥
        never xs e = cc

    by : (o : Option Value) → put ss w (whole vs) ≡ o → and_then o (λ x. with_part (tagged i vs) (Step.Variant j) x) ≡ None → Answer
    by None q e = too (rec q)
    by (Some x) q e = made ss x q e

put_field_fails : (ss : List Step) (w : Value) (vs us : Values) (i : ℕ) → FewerAll vs us → ((a b : Value) → Fewer a b → FailsToo ss w a b)
    → and_then (field vs i) (λ a. and_then (put ss w a) (λ x. with_part (whole vs) (Step.Field i) x)) ≡ None
    → IsLack (where_some (field vs i) astray (λ x. why_no_part ss x)) ⊎ (and_then (field us i) (λ a. and_then (put ss w a) (λ x. with_part (whole us) (Step.Field i) x)) ≡ None)
put_field_fails ss w vs us i h rec e = by (field vs i) refl e
  where
    Answer : Option Value → Type 0
    Answer o = IsLack (where_some o astray (λ x. why_no_part ss x)) ⊎ (and_then (field us i) (λ a. and_then (put ss w a) (λ x. with_part (whole us) (Step.Field i) x)) ≡ None)

    too : (a b : Value) → field us i ≡ Some b → IsLack (why_no_part ss a) ⊎ (put ss w b ≡ None) → Answer (Some a)
    too a b p (inl l) = inl l
    too a b p (inr q) = inr (rw p (rw q refl))

    inner : (a b : Value) → field us i ≡ Some b → Fewer a b → (o : Option Value) → put ss w a ≡ o → and_then o (λ x. with_part (whole vs) (Step.Field i) x) ≡ None → Answer (Some a)
    inner a b p g None q e = too a b p (rec a b g q)
    inner a b p g (Some x) q e = cc

    by : (o : Option Value) → field vs i ≡ o → and_then o (λ a. and_then (put ss w a) (λ x. with_part (whole vs) (Step.Field i) x)) ≡ None → Answer o
    by None p e = inr (rw (fields_fail vs us i h p) refl)
    by (Some a) p e = let q = in_fields vs us i h a p in inner a q.0 q.1 q.2 (put ss w a) refl e

pub put_fails : (ss : List Step) (w v u : Value) → Fewer v u → FailsToo ss w v u
put_fails [] w v u h e = cc
put_fails (s ∷ ss) w _ _ lacks e = inl refl
put_fails (s ∷ ss) w _ _ same_number e = inr e
put_fails (s ∷ ss) w _ _ same_truth e = inr e
put_fails (s ∷ ss) w _ _ same_pointer e = inr e
put_fails (Step.Field i ∷ ss) w _ _ (wholes {vs = vs} {us = us} h) e = put_field_fails ss w vs us i h (λ a b g. put_fails ss w a b g) e
put_fails (Step.Variant i ∷ ss) w _ _ (wholes h) e = inr refl
put_fails (Step.Deref i ∷ ss) w _ _ (wholes h) e = inr refl
put_fails (Step.Variant j ∷ ss) w _ _ (variants {i = i} {vs = vs} {us = us} h) e = put_variant_fails ss w (nat_eq i j) i j vs us refl (wholes h) (put_fails ss w (whole vs) (whole us) (wholes h)) e
put_fails (Step.Field j ∷ ss) w _ _ (variants h) e = inr refl
put_fails (Step.Deref j ∷ ss) w _ _ (variants h) e = inr refl
