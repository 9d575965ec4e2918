-- The arm that is found for a variant is the one that is picked. And where each arm's body can be read as its variant asks, all can at once:
-- an arm of a variant that stands behind another one is read as it is.
use Rattle.std.proofs.Common.{◌≡◌, ℕ, nat_eq, Bool, true, false, Some, None, if◌then◌else◌, refl, sym, ap, ◌∙◌, subst, eq-eqb, eqb-true}
use Rattle.rx_typed.specs.Tree as tree
use Rattle.rx_typed.specs.Tree.{Pattern, Subpatterns, Exp, Arms}
use Rattle.rx_engine_simulation.specs.Packing.{Picks, picks_here, picks_later}
use Rattle.rx_engine_simulation.specs.Rereads.{Rereads, RereadsArms, in_no_arm, in_arm}
use Rattle.rx_engine_simulation.proofs.Rereads.{self_exp, self_arms}
use Rattle.rx_engine_alike.specs.Likeness.{if_so}
use Rattle.rx_engine_extracted.specs.Arms.{Arm, arm_for}
use Rattle.rx_engine_alike_laws.proofs.Giving.{Reread, reread}
use Rattle.rx_engine_validated.proofs.Seeing.{some_same, none_some}

-- what is asked of the parts and the body of a variant's arm
abbrev pub Asking : Type 1
Asking = ℕ → Subpatterns → Exp → Type 0

-- each arm's body can be read so
abbrev pub AllRead : Asking → Arms → Type 0
AllRead W l = (v : ℕ) (a : Arm) → arm_for v l ≡ Some a → Reread Rereads (λ e. W v a.parts e) a.body

-- the arm of a variant is picked, with a body that is so
pub data PickedSo (W : Asking) (l : Arms) (v : ℕ) (ps : Subpatterns) : Type 0 where
  picked_so : {e : Exp} → Picks l v ps e → W v ps e → PickedSo W l v ps

-- all at once
pub data Together (W : Asking) (l : Arms) : Type 0 where
  together : (k : Arms) → RereadsArms l k → ((v : ℕ) (a : Arm) → arm_for v l ≡ Some a → PickedSo W k v a.parts) → Together W l

-- of the arms behind that of a variant nothing is asked for this variant
abbrev Behind : Asking → ℕ → Asking
Behind W w = λ v ps e. nat_eq w v ≡ false → W v ps e

true_false : {b : Bool} → b ≡ true → b ≡ false → ⊥
true_false e f = cc

weaker : {P Q : Exp → Type 0} {e : Exp} → ((z : Exp) → P z → Q z) → Reread Rereads P e → Reread Rereads Q e
weaker f (reread z r p) = reread z r (f z p)

module _ (W : Asking) (n i w : ℕ) (ps : Subpatterns) (e : Exp) (l : Arms) where
  abbrev first : Arm
  first = record { parts = ps; body = e }

  -- where the enum has further variants
  behind_so : AllRead W (tree.arm_and (tree.variant n i true w ps) e l) → AllRead (Behind W w) l
  behind_so f v a q = by (nat_eq w v) refl
    where
      by : (t : Bool) → nat_eq w v ≡ t → Reread Rereads (λ z. Behind W w v a.parts z) a.body
      by true k = reread a.body (self_exp a.body) (λ apart. absurd (true_false k apart))
      by false k = weaker (λ z h apart. h) (f v a (ap (λ t. if t then Some first else arm_for v l) k ∙ q))

  first_so : (several : Bool) → AllRead W (tree.arm_and (tree.variant n i several w ps) e l) → Reread Rereads (λ z. W w ps z) e
  first_so several f = f w first (ap (λ t. if t then Some first else if_so several (arm_for w l)) (eq-eqb w w refl))

  picked_first : (several : Bool) {z : Exp} (k : Arms) {v : ℕ} {a : Arm} → W w ps z → w ≡ v → first ≡ a → PickedSo W (tree.arm_and (tree.variant n i several w ps) z k) v a.parts
  picked_first several {z} k {v} {a} h d c =
      subst (λ v. PickedSo W (tree.arm_and (tree.variant n i several w ps) z k) v a.parts) d
      (subst (λ a. PickedSo W (tree.arm_and (tree.variant n i several w ps) z k) w a.parts) c (picked_so picks_here h))

  picked_later : {z : Exp} (k : Arms) {v : ℕ} {qs : Subpatterns} → nat_eq w v ≡ false → PickedSo (Behind W w) k v qs → PickedSo W (tree.arm_and (tree.variant n i true w ps) z k) v qs
  picked_later k apart (picked_so p h) = picked_so (picks_later apart p) (h apart)

  one_of_several : Reread Rereads (λ z. W w ps z) e → Together (Behind W w) l → Together W (tree.arm_and (tree.variant n i true w ps) e l)
  one_of_several (reread z r h) (together k rs g) = together (tree.arm_and (tree.variant n i true w ps) z k) (in_arm r rs) (λ v a q. by v a (nat_eq w v) refl q)
    where
      by : (v : ℕ) (a : Arm) (t : Bool) → nat_eq w v ≡ t → (if t then Some first else arm_for v l) ≡ Some a → PickedSo W (tree.arm_and (tree.variant n i true w ps) z k) v a.parts
      by v a true m q = picked_first true k h (eqb-true w v m) (some_same q)
      by v a false m q = picked_later k m (g v a q)

  the_only_one : Reread Rereads (λ z. W w ps z) e → Together W (tree.arm_and (tree.variant n i false w ps) e l)
  the_only_one (reread z r h) = together (tree.arm_and (tree.variant n i false w ps) z l) (in_arm r (self_arms l)) (λ v a q. by v a (nat_eq w v) refl q)
    where
      by : (v : ℕ) (a : Arm) (t : Bool) → nat_eq w v ≡ t → (if t then Some first else None) ≡ Some a → PickedSo W (tree.arm_and (tree.variant n i false w ps) z l) v a.parts
      by v a true m q = picked_first false l h (eqb-true w v m) (some_same q)
      by v a false m q = absurd (none_some q)

none_picked : {W : Asking} (q : Pattern) (e : Exp) (l : Arms) → ((v : ℕ) → arm_for v (tree.arm_and q e l) ≡ None) → Together W (tree.arm_and q e l)
none_picked q e l none = together (tree.arm_and q e l) (self_arms (tree.arm_and q e l)) (λ v a k. absurd (none_some (sym (none v) ∙ k)))

pub all_at_once : (l : Arms) (W : Asking) → AllRead W l → Together W l
all_at_once tree.no_arm W f = together tree.no_arm in_no_arm (λ v a q. absurd (none_some q))
all_at_once (tree.arm_and (tree.variant n i true w ps) e l) W f = one_of_several W n i w ps e l (first_so W n i w ps e l true f) (all_at_once l (Behind W w) (behind_so W n i w ps e l f))
all_at_once (tree.arm_and (tree.variant n i false w ps) e l) W f = the_only_one W n i w ps e l (first_so W n i w ps e l false f)
all_at_once (tree.arm_and q e l) W f = none_picked q e l (λ v. refl)
