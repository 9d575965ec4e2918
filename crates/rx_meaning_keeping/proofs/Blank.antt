-- Memory in which some parts are lacking beside the same with these parts: places lead to the same in both, what is found in the
-- first is found in the second, and where nothing is, neither is there, for the same cause, unless a lack is the cause.
use Rattle.std.proofs.Common.{◌≡◌, ℕ, zero, suc, Bool, true, false, List, [], ◌∷◌, ◌++◌, length, Option, Some, None, ◌⊎◌, inl, inr, refl, sym, ap, subst, ◌∙◌, if◌then◌else◌}
use Rattle.rx_core.specs.declared.types.Step.{Step}
use Rattle.rx_typed.specs.Tree as tree
use Rattle.rx_typed.specs.Tree.{Place, whole_number}
use Rattle.rx_lower_walks.specs.Matching.{Check, has_tag, equals}
use Rattle.rx_meaning.specs.Endings.{Cause, astray, missing_reference}
use Rattle.rx_meaning.specs.Straying.{unlike, where_some, why_no_part, why_no_content, why_not_followed, why_not_found, why_not_written, why_not_checked}
use Rattle.rx_meaning.specs.Values.{Value, is_set, and_then, get, put, element, with_element, State, with_memory}
use Rattle.rx_meaning.specs.Places.{Spot, in_slot, in_value, content, deeper, may_write, pointed, follow, start, spot, found, whole_value, after_write}
use Rattle.rx_meaning.specs.Acting.{checked}
use Rattle.rx_meaning_keeping.proofs.Slots.{some_is}
use Rattle.rx_meaning_keeping.proofs.Direct.{IsLack, paired, standing}
use Rattle.rx_meaning_keeping.proofs.Fewer.{Fewer, lacks, same_number, same_truth, same_pointer, wholes, variants, FewerIn, nothing, fewer_same, fewer_is, fewer_get, fewer_put, fewer_set, unlike_same, why_same, get_fails, put_fails}

-- ---- memories

pub data Blank : List Value → List Value → Type 0 where
  no_slot : Blank [] []
  slot_and : {v u : Value} {M N : List Value} → Fewer v u → Blank M N → Blank (v ∷ M) (u ∷ N)

pub blank_slot : (M N : List Value) (i : ℕ) → Blank M N → FewerIn (element M i) (element N i)
blank_slot _ _ i no_slot x e = nothing e
blank_slot _ _ zero (slot_and {u = u} h t) x e = (u, refl, fewer_is e h)
blank_slot _ _ (suc i) (slot_and h t) x e = blank_slot _ _ i t x e

pub blank_with : (M N : List Value) (i : ℕ) (x y : Value) → Blank M N → Fewer x y → Blank (with_element M i x) (with_element N i y)
blank_with _ _ i x y no_slot g = no_slot
blank_with _ _ zero x y (slot_and h t) g = slot_and g t
blank_with _ _ (suc i) x y (slot_and h t) g = slot_and h (blank_with _ _ i x y t g)

pub blank_mark : (M N : List Value) (i : ℕ) (x y : Value) → Blank M N → element N i ≡ Some y → Fewer x y → Blank (with_element M i x) N
blank_mark _ _ i x y no_slot e g = no_slot
blank_mark _ _ zero x y (slot_and h t) e g = slot_and (subst (λ z. Fewer x z) (sym (some_is e)) g) t
blank_mark _ _ (suc i) x y (slot_and h t) e g = slot_and h (blank_mark _ _ i x y t e g)

pub blank_more : (M N : List Value) (x : Value) → Blank M N → Blank (M ++ x ∷ []) (N ++ x ∷ [])
blank_more _ _ x no_slot = slot_and (fewer_same x) no_slot
blank_more _ _ x (slot_and h t) = slot_and h (blank_more _ _ x t)

pub blank_length : (M N : List Value) → Blank M N → length M ≡ length N
blank_length _ _ no_slot = refl
blank_length _ _ (slot_and h t) = ap suc (blank_length _ _ t)

pub blank_same : (M : List Value) → Blank M M
blank_same [] = no_slot
blank_same (v ∷ M) = slot_and (fewer_same v) (blank_same M)

blank_none : (M N : List Value) (i : ℕ) → Blank M N → element M i ≡ None → element N i ≡ None
blank_none _ _ i no_slot e = refl
blank_none _ _ zero (slot_and h t) e = cc
blank_none _ _ (suc i) (slot_and h t) e = blank_none _ _ i t e

-- ---- places

pub content_same : (M N : List Value) (at : Spot) → Blank M N → FewerIn (content M at) (content N at)
content_same M N (in_value v) b x e = (x, e, fewer_same x)
content_same M N (in_slot i p w) b x e = by (element M i) refl e
  where
    by : (o : Option Value) → element M i ≡ o → and_then o (λ v. get p v) ≡ Some x → (u : Value) × (content N (in_slot i p w) ≡ Some u) × Fewer x u
    by None q e = nothing e
    by (Some v) q e = let r = blank_slot M N i b v q in let t = fewer_get p v r.0 r.2 x e in (t.0, rw (r.1) t.1, t.2)

point_same : (w : Bool) (v u : Value) (to : Spot) → Fewer v u → pointed w v ≡ Some to → pointed w u ≡ Some to
point_same w _ _ to same_pointer e = e
point_same w _ _ to lacks e = cc
point_same w _ _ to same_number e = cc
point_same w _ _ to same_truth e = cc
point_same w _ _ to (wholes h) e = cc
point_same w _ _ to (variants h) e = cc

follow_same : (M N : List Value) (ss : List Step) (at to : Spot) → Blank M N → follow M ss at ≡ Some to → follow N ss at ≡ Some to
follow_same M N [] at to b e = e
follow_same M N (Step.Field i ∷ ss) at to b e = deep (deeper (Step.Field i) at) e (λ x. follow_same M N ss x to b)
  where
    deep : (o : Option Spot) → and_then o (λ x. follow M ss x) ≡ Some to → ((x : Spot) → follow M ss x ≡ Some to → follow N ss x ≡ Some to) → and_then o (λ x. follow N ss x) ≡ Some to
    deep None e rec = e
    deep (Some x) e rec = rec x e
follow_same M N (Step.Variant i ∷ ss) at to b e = deep (deeper (Step.Variant i) at) e (λ x. follow_same M N ss x to b)
  where
    deep : (o : Option Spot) → and_then o (λ x. follow M ss x) ≡ Some to → ((x : Spot) → follow M ss x ≡ Some to → follow N ss x ≡ Some to) → and_then o (λ x. follow N ss x) ≡ Some to
    deep None e rec = e
    deep (Some x) e rec = rec x e
follow_same M N (Step.Deref m ∷ ss) at to b e = by (content M at) refl e (λ x. follow_same M N ss x to b)
  where
    Answer : Type 0
    Answer = follow N (Step.Deref m ∷ ss) at ≡ Some to

    onward : (u : Value) → content N at ≡ Some u → (o : Option Spot) → pointed (may_write at) u ≡ o → and_then o (λ x. follow N ss x) ≡ Some to → Answer
    onward u c o p e = rw (c) (rw (p) e)

    inner : (v : Value) (q : (u : Value) × (content N at ≡ Some u) × Fewer v u) → (o : Option Spot) → pointed (may_write at) v ≡ o → and_then o (λ x. follow M ss x) ≡ Some to → ((x : Spot) → follow M ss x ≡ Some to → follow N ss x ≡ Some to) → Answer
    inner v q None p e rec = cc
    inner v q (Some x) p e rec = onward q.0 q.1 (Some x) (point_same (may_write at) v q.0 x q.2 p) (rec x e)

    by : (o : Option Value) → content M at ≡ o → and_then o (λ v. and_then (pointed (may_write at) v) (λ x. follow M ss x)) ≡ Some to → ((x : Spot) → follow M ss x ≡ Some to → follow N ss x ≡ Some to) → Answer
    by None p e rec = cc
    by (Some v) p e rec = inner v (content_same M N at b v p) (pointed (may_write at) v) refl e rec

pub spot_same : (p : Place) (vs : List Value) (s : State) (N : List Value) (at : Spot) → Blank s.memory N → spot p vs s ≡ Some at → spot p vs (with_memory s N) ≡ Some at
spot_same p vs s N at b e = by (start p.root vs s.frame) e
  where
    by : (o : Option Spot) → and_then o (λ x. follow s.memory p.steps x) ≡ Some at → and_then o (λ x. follow N p.steps x) ≡ Some at
    by None e = e
    by (Some x) e = follow_same s.memory N p.steps x at b e

pub found_same : (p : Place) (vs : List Value) (s : State) (N : List Value) (f : Spot × Value) → Blank s.memory N → found p vs s ≡ Some f → (g : Spot × Value) × (found p vs (with_memory s N) ≡ Some g) × (f.0 ≡ g.0) × Fewer f.1 g.1
found_same p vs s N f b e = by (spot p vs s) refl e
  where
    Answer : Type 0
    Answer = (g : Spot × Value) × (found p vs (with_memory s N) ≡ Some g) × (f.0 ≡ g.0) × Fewer f.1 g.1

    inner : (at : Spot) → spot p vs s ≡ Some at → (o : Option Value) → content s.memory at ≡ o → and_then o (λ v. Some (at, v)) ≡ Some f → Answer
    inner at q None c e = cc
    inner at q (Some v) c e = let r = content_same s.memory N at b v c in let t = some_is e in
        ((at, r.0), rw (spot_same p vs s N at b q) (rw (r.1) refl), ap (λ z. z.0) (sym t), subst (λ z. Fewer z.1 r.0) t r.2)

    by : (o : Option Spot) → spot p vs s ≡ o → and_then o (λ at. and_then (content s.memory at) (λ v. Some (at, v))) ≡ Some f → Answer
    by None q e = cc
    by (Some at) q e = inner at q (content s.memory at) refl e

pub whole_same : (f g : Spot × Value) (v : Value) → Fewer f.1 g.1 → whole_value f ≡ Some v → whole_value g ≡ Some v
whole_same f g v h e = by (is_set f.1) refl e
  where
    by : (b : Bool) → is_set f.1 ≡ b → (if b then Some f.1 else None) ≡ Some v → (if is_set g.1 then Some g.1 else None) ≡ Some v
    by true q e = let r = fewer_set f.1 g.1 h q in subst (λ z. (if is_set z then Some z else None) ≡ Some v) r (rw (q) e)
    by false q e = cc

pub check_same : (c : Check) (v u : Value) (b : Bool) → Fewer v u → checked c v ≡ Some b → checked c u ≡ Some b
check_same c _ _ b same_number e = e
check_same c _ _ b same_truth e = e
check_same c _ _ b same_pointer e = e
check_same (has_tag i) _ _ b (variants h) e = e
check_same (equals (whole_number k z)) _ _ b (variants h) e = cc
check_same (equals (tree.truth x)) _ _ b (variants h) e = cc
check_same (has_tag i) _ _ b (wholes h) e = cc
check_same (equals (whole_number k z)) _ _ b (wholes h) e = cc
check_same (equals (tree.truth x)) _ _ b (wholes h) e = cc
check_same (has_tag i) _ _ b lacks e = cc
check_same (equals (whole_number k z)) _ _ b lacks e = cc
check_same (equals (tree.truth x)) _ _ b lacks e = cc

pub write_same : (w : Value) (M N M1 : List Value) (at : Spot) → Blank M N → after_write w M at ≡ Some M1 → (N1 : List Value) × (after_write w N at ≡ Some N1) × Blank M1 N1
write_same w M N M1 (in_value v) b e = cc
write_same w M N M1 (in_slot i p false) b e = cc
write_same w M N M1 (in_slot i p true) b e = by (element M i) refl e
  where
    Answer : Type 0
    Answer = (N1 : List Value) × (after_write w N (in_slot i p true) ≡ Some N1) × Blank M1 N1

    inner : (v u : Value) → element N i ≡ Some u → Fewer v u → (o : Option Value) → put p w v ≡ o → and_then o (λ x. Some (with_element M i x)) ≡ Some M1 → Answer
    inner v u c h None q e = cc
    inner v u c h (Some x) q e = let r = fewer_put p w v u h x q in
        (with_element N i r.0, rw (c) (rw (r.1) refl), subst (λ z. Blank z (with_element N i r.0)) (some_is e) (blank_with M N i x r.0 b r.2))

    by : (o : Option Value) → element M i ≡ o → and_then o (λ u. and_then (put p w u) (λ x. Some (with_element M i x))) ≡ Some M1 → Answer
    by None q e = cc
    by (Some v) q e = let r = blank_slot M N i b v q in inner v r.0 r.1 r.2 (put p w v) refl e

-- ---- and where nothing is found, for what cause

why_content_same : (M N : List Value) (at : Spot) → Blank M N → IsLack (why_no_content M at) ⊎ (why_no_content M at ≡ why_no_content N at)
why_content_same M N (in_value v) b = inr refl
why_content_same M N (in_slot i p w) b = by (element M i) refl
  where
    Answer : Option Value → Type 0
    Answer o = IsLack (where_some o astray (λ v. why_no_part p v)) ⊎ (where_some o astray (λ v. why_no_part p v) ≡ why_no_content N (in_slot i p w))

    there : (v u : Value) → element N i ≡ Some u → IsLack (why_no_part p v) ⊎ (why_no_part p v ≡ why_no_part p u) → Answer (Some v)
    there v u e (inl l) = inl l
    there v u e (inr q) = inr (rw e q)

    by : (o : Option Value) → element M i ≡ o → Answer o
    by None e = inr (rw (blank_none M N i b e) refl)
    by (Some v) e = let r = blank_slot M N i b v e in there v r.0 r.1 (why_same p v r.0 r.2)

content_fails : (M N : List Value) (at : Spot) → Blank M N → content M at ≡ None → IsLack (why_no_content M at) ⊎ (content N at ≡ None)
content_fails M N (in_value v) b e = cc
content_fails M N (in_slot i p w) b e = by (element M i) refl e
  where
    Answer : Option Value → Type 0
    Answer o = IsLack (where_some o astray (λ v. why_no_part p v)) ⊎ (content N (in_slot i p w) ≡ None)

    there : (v u : Value) → element N i ≡ Some u → IsLack (why_no_part p v) ⊎ (get p u ≡ None) → Answer (Some v)
    there v u e (inl l) = inl l
    there v u e (inr q) = inr (rw e q)

    by : (o : Option Value) → element M i ≡ o → and_then o (λ v. get p v) ≡ None → Answer o
    by None q e = inr (rw (blank_none M N i b q) refl)
    by (Some v) q e = let r = blank_slot M N i b v q in there v r.0 r.1 (get_fails p v r.0 r.2 e)

point_fails : (w : Bool) (v u : Value) → Fewer v u → pointed w v ≡ None → IsLack (unlike missing_reference v) ⊎ (pointed w u ≡ None)
point_fails w _ _ lacks e = inl refl
point_fails w _ _ same_pointer e = cc
point_fails w _ _ same_number e = inr refl
point_fails w _ _ same_truth e = inr refl
point_fails w _ _ (wholes h) e = inr refl
point_fails w _ _ (variants h) e = inr refl

-- the cause on the steps from a spot, and that they lead nowhere in the second memory either
abbrev StraysToo : List Value → List Value → List Step → Spot → Type 0
StraysToo M N ss at = IsLack (why_not_followed M ss at) ⊎ (why_not_followed M ss at ≡ why_not_followed N ss at)

why_followed_same : (M N : List Value) (ss : List Step) (at : Spot) → Blank M N → StraysToo M N ss at
why_followed_same M N [] at b = why_content_same M N at b
why_followed_same M N (Step.Field i ∷ ss) at b = by (deeper (Step.Field i) at) (why_content_same M N at b) (λ to. why_followed_same M N ss to b)
  where
    by : (o : Option Spot) → IsLack (why_no_content M at) ⊎ (why_no_content M at ≡ why_no_content N at) → ((to : Spot) → StraysToo M N ss to)
        → IsLack (where_some o (why_no_content M at) (λ to. why_not_followed M ss to)) ⊎ (where_some o (why_no_content M at) (λ to. why_not_followed M ss to) ≡ where_some o (why_no_content N at) (λ to. why_not_followed N ss to))
    by None h rec = h
    by (Some to) h rec = rec to
why_followed_same M N (Step.Variant i ∷ ss) at b = by (deeper (Step.Variant i) at) (why_content_same M N at b) (λ to. why_followed_same M N ss to b)
  where
    by : (o : Option Spot) → IsLack (why_no_content M at) ⊎ (why_no_content M at ≡ why_no_content N at) → ((to : Spot) → StraysToo M N ss to)
        → IsLack (where_some o (why_no_content M at) (λ to. why_not_followed M ss to)) ⊎ (where_some o (why_no_content M at) (λ to. why_not_followed M ss to) ≡ where_some o (why_no_content N at) (λ to. why_not_followed N ss to))
    by None h rec = h
    by (Some to) h rec = rec to
why_followed_same M N (Step.Deref m ∷ ss) at b = by (content M at) refl (λ to. why_followed_same M N ss to b)
  where
    Why : Option Value → Cause
    Why o = where_some o (why_no_content M at) (λ v. where_some (pointed (may_write at) v) (unlike missing_reference v) (λ to. why_not_followed M ss to))

    Answer : Option Value → Type 0
    Answer o = IsLack (Why o) ⊎ (Why o ≡ why_not_followed N (Step.Deref m ∷ ss) at)

    ends_too : IsLack (why_no_content M at) ⊎ (content N at ≡ None) → IsLack (why_no_content M at) ⊎ (why_no_content M at ≡ why_no_content N at) → Answer None
    ends_too (inl l) k = inl l
    ends_too (inr p) (inl l) = inl l
    ends_too (inr p) (inr q) = inr (rw p q)

    no_pointer : (v u : Value) → content N at ≡ Some u → pointed (may_write at) v ≡ None → IsLack (unlike missing_reference v) ⊎ (pointed (may_write at) u ≡ None) → IsLack (unlike missing_reference v) ⊎ (unlike missing_reference v ≡ unlike missing_reference u) → Answer (Some v)
    no_pointer v u e p (inl l) k = inl (rw p l)
    no_pointer v u e p (inr q) (inl l) = inl (rw p l)
    no_pointer v u e p (inr q) (inr r) = inr (rw p (rw e (rw q r)))

    goes_too : (v u : Value) (to : Spot) → content N at ≡ Some u → pointed (may_write at) v ≡ Some to → pointed (may_write at) u ≡ Some to → StraysToo M N ss to → Answer (Some v)
    goes_too v u to e p q (inl l) = inl (rw p l)
    goes_too v u to e p q (inr r) = inr (rw p (rw e (rw q r)))

    inner : (v u : Value) → content N at ≡ Some u → Fewer v u → (o : Option Spot) → pointed (may_write at) v ≡ o → ((to : Spot) → StraysToo M N ss to) → Answer (Some v)
    inner v u e h None p rec = no_pointer v u e p (point_fails (may_write at) v u h p) (unlike_same missing_reference v u h)
    inner v u e h (Some to) p rec = goes_too v u to e p (point_same (may_write at) v u to h p) (rec to)

    by : (o : Option Value) → content M at ≡ o → ((to : Spot) → StraysToo M N ss to) → Answer o
    by None p rec = ends_too (content_fails M N at b p) (why_content_same M N at b)
    by (Some v) p rec = let r = content_same M N at b v p in inner v r.0 r.1 r.2 (pointed (may_write at) v) refl rec

-- where no spot is come to, or nothing stands at it
abbrev arrives : List Value → List Step → Spot → Option (Spot × Value)
arrives M ss at = and_then (follow M ss at) (λ to. standing M to)

follow_fails : (M N : List Value) (ss : List Step) (at : Spot) → Blank M N → follow M ss at ≡ None → IsLack (why_not_followed M ss at) ⊎ (follow N ss at ≡ None)
follow_fails M N [] at b e = cc
follow_fails M N (Step.Field i ∷ ss) at b e = by (deeper (Step.Field i) at) e (λ to. follow_fails M N ss to b)
  where
    by : (o : Option Spot) → and_then o (λ to. follow M ss to) ≡ None → ((to : Spot) → follow M ss to ≡ None → IsLack (why_not_followed M ss to) ⊎ (follow N ss to ≡ None))
        → IsLack (where_some o (why_no_content M at) (λ to. why_not_followed M ss to)) ⊎ (and_then o (λ to. follow N ss to) ≡ None)
    by None e rec = inr refl
    by (Some to) e rec = rec to e
follow_fails M N (Step.Variant i ∷ ss) at b e = by (deeper (Step.Variant i) at) e (λ to. follow_fails M N ss to b)
  where
    by : (o : Option Spot) → and_then o (λ to. follow M ss to) ≡ None → ((to : Spot) → follow M ss to ≡ None → IsLack (why_not_followed M ss to) ⊎ (follow N ss to ≡ None))
        → IsLack (where_some o (why_no_content M at) (λ to. why_not_followed M ss to)) ⊎ (and_then o (λ to. follow N ss to) ≡ None)
    by None e rec = inr refl
    by (Some to) e rec = rec to e
follow_fails M N (Step.Deref m ∷ ss) at b e = by (content M at) refl e (λ to. follow_fails M N ss to b)
  where
    Answer : Option Value → Type 0
    Answer o = IsLack (where_some o (why_no_content M at) (λ v. where_some (pointed (may_write at) v) (unlike missing_reference v) (λ to. why_not_followed M ss to))) ⊎ (follow N (Step.Deref m ∷ ss) at ≡ None)

    ends_too : IsLack (why_no_content M at) ⊎ (content N at ≡ None) → Answer None
    ends_too (inl l) = inl l
    ends_too (inr p) = inr (rw p refl)

    no_pointer : (v u : Value) → content N at ≡ Some u → pointed (may_write at) v ≡ None → IsLack (unlike missing_reference v) ⊎ (pointed (may_write at) u ≡ None) → Answer (Some v)
    no_pointer v u e p (inl l) = inl (rw p l)
    no_pointer v u e p (inr q) = inr (rw e (rw q refl))

    goes_too : (v u : Value) (to : Spot) → content N at ≡ Some u → pointed (may_write at) v ≡ Some to → pointed (may_write at) u ≡ Some to → IsLack (why_not_followed M ss to) ⊎ (follow N ss to ≡ None) → Answer (Some v)
    goes_too v u to e p q (inl l) = inl (rw p l)
    goes_too v u to e p q (inr r) = inr (rw e (rw q r))

    inner : (v u : Value) → content N at ≡ Some u → Fewer v u → (o : Option Spot) → pointed (may_write at) v ≡ o → and_then o (λ to. follow M ss to) ≡ None
        → ((to : Spot) → follow M ss to ≡ None → IsLack (why_not_followed M ss to) ⊎ (follow N ss to ≡ None)) → Answer (Some v)
    inner v u e h None p f rec = no_pointer v u e p (point_fails (may_write at) v u h p)
    inner v u e h (Some to) p f rec = goes_too v u to e p (point_same (may_write at) v u to h p) (rec to f)

    by : (o : Option Value) → content M at ≡ o → and_then o (λ v. and_then (pointed (may_write at) v) (λ to. follow M ss to)) ≡ None
        → ((to : Spot) → follow M ss to ≡ None → IsLack (why_not_followed M ss to) ⊎ (follow N ss to ≡ None)) → Answer o
    by None p e rec = ends_too (content_fails M N at b p)
    by (Some v) p e rec = let r = content_same M N at b v p in inner v r.0 r.1 r.2 (pointed (may_write at) v) refl e rec

-- behind the steps the cause is that of what stands there
follow_why : (M : List Value) (ss : List Step) (at to : Spot) → follow M ss at ≡ Some to → why_not_followed M ss at ≡ why_no_content M to
follow_why M [] at to e = ap (λ z. why_no_content M z) (some_is e)
follow_why M (Step.Field i ∷ ss) at to e = by (deeper (Step.Field i) at) e (λ x f. follow_why M ss x to f)
  where
    by : (o : Option Spot) → and_then o (λ x. follow M ss x) ≡ Some to → ((x : Spot) → follow M ss x ≡ Some to → why_not_followed M ss x ≡ why_no_content M to) → where_some o (why_no_content M at) (λ x. why_not_followed M ss x) ≡ why_no_content M to
    by None e rec = cc
    by (Some x) e rec = rec x e
follow_why M (Step.Variant i ∷ ss) at to e = by (deeper (Step.Variant i) at) e (λ x f. follow_why M ss x to f)
  where
    by : (o : Option Spot) → and_then o (λ x. follow M ss x) ≡ Some to → ((x : Spot) → follow M ss x ≡ Some to → why_not_followed M ss x ≡ why_no_content M to) → where_some o (why_no_content M at) (λ x. why_not_followed M ss x) ≡ why_no_content M to
    by None e rec = cc
    by (Some x) e rec = rec x e
follow_why M (Step.Deref m ∷ ss) at to e = by (content M at) e (λ x f. follow_why M ss x to f)
  where
    inner : (v : Value) (o : Option Spot) → and_then o (λ x. follow M ss x) ≡ Some to → ((x : Spot) → follow M ss x ≡ Some to → why_not_followed M ss x ≡ why_no_content M to) → where_some o (unlike missing_reference v) (λ x. why_not_followed M ss x) ≡ why_no_content M to
    inner v None e rec = cc
    inner v (Some x) e rec = rec x e

    by : (o : Option Value) → and_then o (λ v. and_then (pointed (may_write at) v) (λ x. follow M ss x)) ≡ Some to → ((x : Spot) → follow M ss x ≡ Some to → why_not_followed M ss x ≡ why_no_content M to)
        → where_some o (why_no_content M at) (λ v. where_some (pointed (may_write at) v) (unlike missing_reference v) (λ x. why_not_followed M ss x)) ≡ why_no_content M to
    by None e rec = cc
    by (Some v) e rec = inner v (pointed (may_write at) v) e rec

arrives_fails : (M N : List Value) (ss : List Step) (at : Spot) → Blank M N → arrives M ss at ≡ None → IsLack (why_not_followed M ss at) ⊎ (arrives N ss at ≡ None)
arrives_fails M N ss at b e = by (follow M ss at) refl e
  where
    Answer : Type 0
    Answer = IsLack (why_not_followed M ss at) ⊎ (arrives N ss at ≡ None)

    no_spot : IsLack (why_not_followed M ss at) ⊎ (follow N ss at ≡ None) → Answer
    no_spot (inl l) = inl l
    no_spot (inr p) = inr (rw p refl)

    no_content : (to : Spot) → follow M ss at ≡ Some to → IsLack (why_no_content M to) ⊎ (content N to ≡ None) → Answer
    no_content to f (inl l) = inl (follow_why M ss at to f ∙ l)
    no_content to f (inr p) = inr (rw (follow_same M N ss at to b f) (rw p refl))

    inner : (to : Spot) → follow M ss at ≡ Some to → (o : Option Value) → content M to ≡ o → paired to o ≡ None → Answer
    inner to f None c e = no_content to f (content_fails M N to b c)
    inner to f (Some v) c e = cc

    by : (o : Option Spot) → follow M ss at ≡ o → and_then o (λ to. standing M to) ≡ None → Answer
    by None f e = no_spot (follow_fails M N ss at b f)
    by (Some to) f e = inner to f (content M to) refl e

-- ---- an action ends for a lack, or where the plain one does too, for the same cause
abbrev pub EndsToo : {A B : Type 0} → Cause → Option A → Cause → Option B → Type 0
EndsToo c o c' o' = o ≡ None → IsLack c ⊎ ((o' ≡ None) × (c ≡ c'))

both_so : {A : Type 0} {c c' : Cause} (o' : Option A) → IsLack c ⊎ (o' ≡ None) → IsLack c ⊎ (c ≡ c') → IsLack c ⊎ ((o' ≡ None) × (c ≡ c'))
both_so o' (inl l) k = inl l
both_so o' (inr p) (inl l) = inl l
both_so o' (inr p) (inr q) = inr (p, q)

pub found_fails : (p : Place) (vs : List Value) (s : State) (N : List Value) → Blank s.memory N → EndsToo (why_not_found p vs s) (found p vs s) (why_not_found p vs (with_memory s N)) (found p vs (with_memory s N))
found_fails p vs s N b e = by (start p.root vs s.frame) e
  where
    by : (o : Option Spot) → and_then (and_then o (λ at. follow s.memory p.steps at)) (λ at. standing s.memory at) ≡ None
        → IsLack (where_some o astray (λ at. why_not_followed s.memory p.steps at)) ⊎ ((and_then (and_then o (λ at. follow N p.steps at)) (λ at. standing N at) ≡ None) × (where_some o astray (λ at. why_not_followed s.memory p.steps at) ≡ where_some o astray (λ at. why_not_followed N p.steps at)))
    by None e = inr (refl, refl)
    by (Some at) e = both_so (arrives N p.steps at) (arrives_fails s.memory N p.steps at b e) (why_followed_same s.memory N p.steps at b)

pub spot_fails : (p : Place) (vs : List Value) (s : State) (N : List Value) → Blank s.memory N → EndsToo (why_not_found p vs s) (spot p vs s) (why_not_found p vs (with_memory s N)) (spot p vs (with_memory s N))
spot_fails p vs s N b e = by (start p.root vs s.frame) e
  where
    by : (o : Option Spot) → and_then o (λ at. follow s.memory p.steps at) ≡ None
        → IsLack (where_some o astray (λ at. why_not_followed s.memory p.steps at)) ⊎ ((and_then o (λ at. follow N p.steps at) ≡ None) × (where_some o astray (λ at. why_not_followed s.memory p.steps at) ≡ where_some o astray (λ at. why_not_followed N p.steps at)))
    by None e = inr (refl, refl)
    by (Some at) e = both_so (follow N p.steps at) (follow_fails s.memory N p.steps at b e) (why_followed_same s.memory N p.steps at b)

pub check_fails : (c : Check) (v u : Value) → Fewer v u → EndsToo (why_not_checked v) (checked c v) (why_not_checked u) (checked c u)
check_fails c _ _ lacks e = inl refl
check_fails c _ _ same_number e = inr (e, refl)
check_fails c _ _ same_truth e = inr (e, refl)
check_fails c _ _ same_pointer e = inr (e, refl)
check_fails (has_tag i) _ _ (variants h) e = cc
check_fails (equals (whole_number k z)) _ _ (variants h) e = inr (refl, refl)
check_fails (equals (tree.truth x)) _ _ (variants h) e = inr (refl, refl)
check_fails (has_tag i) _ _ (wholes h) e = inr (refl, refl)
check_fails (equals (whole_number k z)) _ _ (wholes h) e = inr (refl, refl)
check_fails (equals (tree.truth x)) _ _ (wholes h) e = inr (refl, refl)

pub write_fails : (w : Value) (M N : List Value) (at : Spot) → Blank M N → EndsToo (why_not_written M at) (after_write w M at) (why_not_written N at) (after_write w N at)
write_fails w M N (in_value v) b e = inr (refl, refl)
write_fails w M N (in_slot i p false) b e = inr (refl, refl)
write_fails w M N (in_slot i p true) b e = both_so (after_write w N (in_slot i p true)) (by (element M i) refl e) (why_content_same M N (in_slot i p true) b)
  where
    Answer : Option Value → Type 0
    Answer o = IsLack (where_some o astray (λ v. why_no_part p v)) ⊎ (after_write w N (in_slot i p true) ≡ None)

    too : (v u : Value) → element N i ≡ Some u → IsLack (why_no_part p v) ⊎ (put p w u ≡ None) → Answer (Some v)
    too v u e (inl l) = inl l
    too v u e (inr q) = inr (rw e (rw q refl))

    inner : (v u : Value) → element N i ≡ Some u → Fewer v u → (o : Option Value) → put p w v ≡ o → and_then o (λ x. Some (with_element M i x)) ≡ None → Answer (Some v)
    inner v u e h None q f = too v u e (put_fails p w v u h q)
    inner v u e h (Some x) q f = cc

    by : (o : Option Value) → element M i ≡ o → and_then o (λ v. and_then (put p w v) (λ x. Some (with_element M i x))) ≡ None → Answer o
    by None q e = inr (rw (blank_none M N i b q) refl)
    by (Some v) q e = let r = blank_slot M N i b v q in inner v r.0 r.1 r.2 (put p w v) refl e
