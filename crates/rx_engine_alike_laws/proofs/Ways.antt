-- What a way says of two places, step by step; where it may be used so, the places are alike for that use.
use Rattle.std.proofs.Common.{◌≡◌, ℕ, nat_eq, Bool, true, false, not, ◌||◌, List, [], ◌∷◌, ◌++◌, Option, Some, None, if◌then◌else◌, refl, ap, ◌∙◌, sym, subst, eqb-true, append_assoc, append-nil}
use Rattle.rx_core.specs.declared.types.Step.{Step}
use Rattle.rx_core.specs.declared.types.Step.TheVariants as step
use Rattle.rx_typed.specs.Tree.{Root, variable, temporary, Temporary, Place}
use Rattle.rx_engine_simulation.specs.Histories.{IsOwn}
use Rattle.rx_engine_simulation.specs.Sights.{Hold, free, How, plain, special, through, copied, viewed, absent, Sight, sight, Renaming, sight_of}
use Rattle.rx_engine_simulation.specs.Places.{LikeSteps, no_steps, fields, variants, derefs, Use, looking, sharing, changing, writing, NotCopied, IsFreed, IsMutable, Allowed, IsDirect, LikePlace, direct, behind, shared, of_temporary}
use Rattle.rx_engine_alike.specs.Ways.{Way, apart, from_value, in_front, from_variable, by_part, by_dereference, then_step, then_steps, way_seen, way_by, way_from, way_of, not_copied, is_freed, is_mutable, may_seen, may, like_place}
use Rattle.rx_engine_alike_laws.proofs.Promised.{Says, says, silent, so, and_so}

-- ---- steps that are the same way, with one more

more_field : (i : ℕ) {ss ts : List Step} → LikeSteps ss ts → LikeSteps (ss ++ (step.Field i ∷ [])) (ts ++ (step.Field i ∷ []))
more_field i no_steps = fields no_steps
more_field i (fields l) = fields (more_field i l)
more_field i (variants l) = variants (more_field i l)
more_field i (derefs l) = derefs (more_field i l)

more_variant : (i : ℕ) {ss ts : List Step} → LikeSteps ss ts → LikeSteps (ss ++ (step.Variant i ∷ [])) (ts ++ (step.Variant i ∷ []))
more_variant i no_steps = variants no_steps
more_variant i (fields l) = fields (more_variant i l)
more_variant i (variants l) = variants (more_variant i l)
more_variant i (derefs l) = derefs (more_variant i l)

more_deref : (m k : Bool) {ss ts : List Step} → LikeSteps ss ts → LikeSteps (ss ++ (step.Deref m ∷ [])) (ts ++ (step.Deref k ∷ []))
more_deref m k no_steps = derefs no_steps
more_deref m k (fields l) = fields (more_deref m k l)
more_deref m k (variants l) = variants (more_deref m k l)
more_deref m k (derefs l) = derefs (more_deref m k l)

own_front : (ss : List Step) (s : Step) → IsOwn (ss ++ (s ∷ [])) → IsOwn ss
own_front [] s o = tt
own_front (step.Deref m ∷ ss) s o = absurd o
own_front (step.Field i ∷ ss) s o = own_front ss s o
own_front (step.Variant i ∷ ss) s o = own_front ss s o

not_own : (ss : List Step) (m : Bool) → IsOwn (ss ++ (step.Deref m ∷ [])) → ⊥
not_own [] m o = o
not_own (step.Deref k ∷ ss) m o = o
not_own (step.Field i ∷ ss) m o = not_own ss m o
not_own (step.Variant i ∷ ss) m o = not_own ss m o

-- ---- what a way says of a place of the text and one of the answer, each from its root by these steps

pub data IsWay (R : Renaming) : Way → Root → List Step → Root → List Step → Type 0 where
  not_known : {r r' : Root} {ss ts : List Step} → IsWay R apart r ss r' ts
  of_values : {t u : Temporary} {ss ts : List Step} → LikeSteps ss ts → IsWay R from_value (temporary t) ss (temporary u) ts
  in_front_of : {x y : ℕ} → sight_of R x ≡ Some (sight y viewed) → IsWay R in_front (variable x) [] (variable y) []
  directly : {x y : ℕ} {own : Bool} {ss ts : List Step} (h : How) → sight_of R x ≡ Some (sight y h) → IsDirect h → (IsOwn ss → own ≡ true) → LikeSteps ss ts
      → IsWay R (from_variable h own) (variable x) ss (variable y) ts
  behind_one : {x y : ℕ} {own k : Bool} {ss ts : List Step} (w : Hold) (m : Bool) → sight_of R x ≡ Some (sight y (through w m)) → (IsOwn ss → own ≡ true) → LikeSteps ss ts
      → IsWay R (from_variable (through w m) own) (variable x) ss (variable y) (step.Deref k ∷ ts)
  behind_both : {x y : ℕ} {m k : Bool} {ss ts : List Step} → sight_of R x ≡ Some (sight y viewed) → LikeSteps ss ts
      → IsWay R (from_variable viewed false) (variable x) (step.Deref m ∷ ss) (variable y) (step.Deref k ∷ ts)

-- ---- one step further

field_so : {R : Renaming} {w : Way} {r r' : Root} {ss ts : List Step} (i : ℕ) → IsWay R w r ss r' ts → IsWay R (by_part w) r (ss ++ (step.Field i ∷ [])) r' (ts ++ (step.Field i ∷ []))
field_so i not_known = not_known
field_so i (of_values l) = of_values (more_field i l)
field_so i (in_front_of s) = not_known
field_so i (directly {ss = ss} h s d o l) = directly h s d (λ p. o (own_front ss (step.Field i) p)) (more_field i l)
field_so i (behind_one {ss = ss} w m s o l) = behind_one w m s (λ p. o (own_front ss (step.Field i) p)) (more_field i l)
field_so i (behind_both s l) = behind_both s (more_field i l)

variant_so : {R : Renaming} {w : Way} {r r' : Root} {ss ts : List Step} (i : ℕ) → IsWay R w r ss r' ts → IsWay R (by_part w) r (ss ++ (step.Variant i ∷ [])) r' (ts ++ (step.Variant i ∷ []))
variant_so i not_known = not_known
variant_so i (of_values l) = of_values (more_variant i l)
variant_so i (in_front_of s) = not_known
variant_so i (directly {ss = ss} h s d o l) = directly h s d (λ p. o (own_front ss (step.Variant i) p)) (more_variant i l)
variant_so i (behind_one {ss = ss} w m s o l) = behind_one w m s (λ p. o (own_front ss (step.Variant i) p)) (more_variant i l)
variant_so i (behind_both s l) = behind_both s (more_variant i l)

deref_so : {R : Renaming} {w : Way} {r r' : Root} {ss ts : List Step} (m k : Bool) → IsWay R w r ss r' ts → IsWay R (by_dereference w) r (ss ++ (step.Deref m ∷ [])) r' (ts ++ (step.Deref k ∷ []))
deref_so m k not_known = not_known
deref_so m k (of_values l) = of_values (more_deref m k l)
deref_so m k (in_front_of s) = behind_both s no_steps
deref_so m k (directly {ss = ss} h s d o l) = directly h s d (λ p. absurd (not_own ss m p)) (more_deref m k l)
deref_so m k (behind_one {ss = ss} w v s o l) = behind_one w v s (λ p. absurd (not_own ss m p)) (more_deref m k l)
deref_so m k (behind_both s l) = behind_both s (more_deref m k l)

same_part : {R : Renaming} (w : Way) {r r' : Root} {us vs : List Step} (b : Bool) → (b ≡ true → IsWay R (by_part w) r us r' vs) → IsWay R (if b then by_part w else apart) r us r' vs
same_part w true f = f refl
same_part w false f = not_known

pub step_so : {R : Renaming} {w : Way} {r r' : Root} {ss ts : List Step} (s t : Step) → IsWay R w r ss r' ts → IsWay R (then_step w s t) r (ss ++ (s ∷ [])) r' (ts ++ (t ∷ []))
step_so {R} {w} {r} {r'} {ss} {ts} (step.Field i) (step.Field j) l = same_part w (nat_eq i j)
    (λ e. subst (λ j. IsWay R (by_part w) r (ss ++ (step.Field i ∷ [])) r' (ts ++ (step.Field j ∷ []))) (eqb-true i j e) (field_so i l))
step_so {R} {w} {r} {r'} {ss} {ts} (step.Variant i) (step.Variant j) l = same_part w (nat_eq i j)
    (λ e. subst (λ j. IsWay R (by_part w) r (ss ++ (step.Variant i ∷ [])) r' (ts ++ (step.Variant j ∷ []))) (eqb-true i j e) (variant_so i l))
step_so (step.Deref m) (step.Deref k) l = deref_so m k l
step_so _ _ l = not_known

-- ---- from the roots

steps_so : {R : Renaming} {r r' : Root} (w : Way) (ss ts us vs : List Step) → IsWay R w r ss r' ts → IsWay R (then_steps w us vs) r (ss ++ us) r' (ts ++ vs)
steps_so {R} {r} {r'} w ss ts [] [] l = subst (λ z. IsWay R w r (ss ++ []) r' z) (sym (append-nil ts)) (subst (λ z. IsWay R w r z r' ts) (sym (append-nil ss)) l)
steps_so {R} {r} {r'} w ss ts (u ∷ us) (v ∷ vs) l =
    subst (λ z. IsWay R (then_steps (then_step w u v) us vs) r (ss ++ (u ∷ us)) r' z) (append_assoc ts (v ∷ []) vs)
    (subst (λ z. IsWay R (then_steps (then_step w u v) us vs) r z r' ((ts ++ (v ∷ [])) ++ vs)) (append_assoc ss (u ∷ []) us)
    (steps_so (then_step w u v) (ss ++ (u ∷ [])) (ts ++ (v ∷ [])) us vs (step_so u v l)))
steps_so w ss ts [] (v ∷ vs) l = not_known
steps_so w ss ts (u ∷ us) [] l = not_known

seen_so : {R : Renaming} {x y : ℕ} (h : How) (ss ts : List Step) → sight_of R x ≡ Some (sight y h) → IsWay R (way_seen h ss ts) (variable x) ss (variable y) ts
seen_so (plain w) ss ts s = steps_so (from_variable (plain w) true) [] [] ss ts (directly (plain w) s tt (λ o. refl) no_steps)
seen_so special ss ts s = steps_so (from_variable special true) [] [] ss ts (directly special s tt (λ o. refl) no_steps)
seen_so copied ss ts s = steps_so (from_variable copied true) [] [] ss ts (directly copied s tt (λ o. refl) no_steps)
seen_so viewed ss ts s = steps_so in_front [] [] ss ts (in_front_of s)
seen_so absent ss ts s = not_known
seen_so (through w m) ss (step.Deref k ∷ ts) s = steps_so (from_variable (through w m) true) [] (step.Deref k ∷ []) ss ts (behind_one w m s (λ o. refl) no_steps)
seen_so (through w m) ss _ s = not_known

by_so : {R : Renaming} (x : ℕ) (o : Option Sight) (y : ℕ) (ss ts : List Step) → sight_of R x ≡ o → IsWay R (way_by o y ss ts) (variable x) ss (variable y) ts
by_so x None y ss ts q = not_known
by_so {R} x (Some e) y ss ts q = by (nat_eq e.to y) (λ k. eqb-true e.to y k)
  where
    by : (b : Bool) → (b ≡ true → e.to ≡ y) → IsWay R (if b then way_seen e.how ss ts else apart) (variable x) ss (variable y) ts
    by true k = seen_so e.how ss ts (q ∙ ap (λ z. Some (sight z e.how)) (k refl))
    by false k = not_known

from_so : (R : Renaming) (r r' : Root) (ss ts : List Step) → IsWay R (way_from R r r' ss ts) r ss r' ts
from_so R (variable x) (variable y) ss ts = by_so x (sight_of R x) y ss ts refl
from_so R (temporary t) (temporary u) ss ts = steps_so from_value [] [] ss ts (of_values no_steps)
from_so R (variable x) (temporary t) ss ts = not_known
from_so R (temporary t) (variable y) ss ts = not_known

pub way_so : (R : Renaming) (p q : Place) → IsWay R (way_of R p q) p.root p.steps q.root q.steps
way_so R p q = from_so R p.root q.root p.steps q.steps

-- ---- uses

copied_so : (w : How) → Says (NotCopied w) (not_copied w)
copied_so copied = silent
copied_so _ = says tt

freed_so : (w : How) → Says (IsFreed w) (is_freed w)
freed_so (plain free) = says tt
freed_so (through free m) = says tt
freed_so _ = silent

mutable_so : (w : How) → Says (IsMutable w) (is_mutable w)
mutable_so (through w false) = silent
mutable_so viewed = silent
mutable_so _ = says tt

-- it is asked for of the variable's own storage alone
if_own : (ss : List Step) {P : Type 0} {b : Bool} (own : Bool) → (IsOwn ss → own ≡ true) → Says P b → Says (IsOwn ss → P) (not own || b)
if_own ss true o s = so (λ p i. p) s
if_own ss false o s = says (λ i. absurd (false_true (o i)))
  where
    false_true : false ≡ true → ⊥
    false_true e = cc

allowed_so : (ss : List Step) {own : Bool} (u : Use) (h : How) → (IsOwn ss → own ≡ true) → Says (Allowed u h ss) (may_seen u h own)
allowed_so ss looking h o = says tt
allowed_so ss {own = own} sharing h o = if_own ss own o (copied_so h)
allowed_so ss {own = own} changing h o = and_so (if_own ss own o (freed_so h)) (mutable_so h) (λ a b. (a, b))
allowed_so ss {own = own} writing h o = and_so (if_own ss own o (copied_so h)) (mutable_so h) (λ a b. (a, b))

pub may_so : {R : Renaming} {w : Way} {r r' : Root} {ss ts : List Step} (u : Use) → IsWay R w r ss r' ts
    → Says (LikePlace R u (record { root = r; steps = ss }) (record { root = r'; steps = ts })) (may u w)
may_so u not_known = silent
may_so u (of_values l) = says (of_temporary l)
may_so u (in_front_of s) = silent
may_so u (directly {ss = ss} h s d o l) = so (λ a. direct h s d a l) (allowed_so ss u h o)
may_so u (behind_one {ss = ss} w m s o l) = so (λ a. behind w m s a l) (allowed_so ss u (through w m) o)
may_so u (behind_both {m = m} {ss = ss} s l) = so (λ a. shared s a l) (allowed_so (step.Deref m ∷ ss) u viewed (λ o. absurd o))

pub like_place_so : (R : Renaming) (u : Use) (p q : Place) → Says (LikePlace R u p q) (like_place R u p q)
like_place_so R u p q = may_so u (way_so R p q)

-- ---- where further variables have come

pub data Grown (R S : Renaming) : Type 0 where
  grown : ((x : ℕ) (e : Sight) → sight_of R x ≡ Some e → sight_of S x ≡ Some e) → Grown R S

way_in : {R S : Renaming} {w : Way} {r r' : Root} {ss ts : List Step} → ((x : ℕ) (e : Sight) → sight_of R x ≡ Some e → sight_of S x ≡ Some e) → IsWay R w r ss r' ts → IsWay S w r ss r' ts
way_in g not_known = not_known
way_in g (of_values l) = of_values l
way_in g (in_front_of s) = in_front_of (g _ _ s)
way_in g (directly h s d o l) = directly h (g _ _ s) d o l
way_in g (behind_one w m s o l) = behind_one w m (g _ _ s) o l
way_in g (behind_both s l) = behind_both (g _ _ s) l

pub way_grown : {R S : Renaming} {w : Way} {r r' : Root} {ss ts : List Step} → Grown R S → IsWay R w r ss r' ts → IsWay S w r ss r' ts
way_grown (grown g) l = way_in g l
