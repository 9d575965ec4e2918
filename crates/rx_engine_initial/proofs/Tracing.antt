-- Where a walk of the new program comes from one of the text, what holds there of a variable that is live there holds here.
use Rattle.std.proofs.Common.{◌≡◌, Bool, true, false, not, ◌&&◌, ◌||◌, List, [], ◌∷◌, ◌++◌, refl, sym, ◌∙◌, subst, ap}
use Rattle.rx_lower_walks.specs.Actions.{Action}
use Rattle.rx_facts_tables.specs.Along.{Switch, behind, after, ahead}
use Rattle.rx_engine_initial.specs.Tracing.{View, Alike, IsQuiet, IsKept, Traced, start, copied, only_new, only_old, handed, kept, unset, over, WholeGives}

-- ---- facts on lists

pub nil_right : {A : Type 0} (w : List A) → w ++ [] ≡ w
nil_right [] = refl
nil_right (a ∷ w) = rw (nil_right w)

pub joined : {A : Type 0} (us vs ws : List A) → (us ++ vs) ++ ws ≡ us ++ (vs ++ ws)
joined [] vs ws = refl
joined (u ∷ us) vs ws = rw (joined us vs ws)

pub after_both : (s : Switch) (us vs : List Action) (b : Bool) → after s (us ++ vs) b ≡ after s vs (after s us b)
after_both s [] vs b = refl
after_both s (u ∷ us) vs b = after_both s us vs (behind s u b)

-- behind one action more
pub after_one : (s : Switch) (us : List Action) (a : Action) (b : Bool) → after s (us ++ a ∷ []) b ≡ behind s a (after s us b)
after_one s us a b = after_both s us (a ∷ []) b

quietly : (g k b : Bool) → g ≡ false → k ≡ false → (g || (not k && b)) ≡ b
quietly false false b p q = refl
quietly false true b p q = absurd (cc)
quietly true k b p q = absurd (cc)

pub quiet_behind : (s : Switch) (a : Action) (b : Bool) → IsQuiet s a → behind s a b ≡ b
quiet_behind s a b q = quietly (s.gives a) (s.kills a) b q.gives q.kills

-- what holds behind an action was made true there, or held before
data Source (g k b : Bool) : Type 0 where
  made : g ≡ true → Source g k b
  stays : g ≡ false → k ≡ false → b ≡ true → Source g k b

source : (g k b : Bool) → (g || (not k && b)) ≡ true → Source g k b
source true k b h = made refl
source false false b h = stays refl refl h
source false true b h = absurd (cc)

given : (g k b : Bool) → g ≡ true → (g || (not k && b)) ≡ true
given true k b h = refl
given false k b h = absurd (cc)

passed : (g k b : Bool) → k ≡ false → b ≡ true → (g || (not k && b)) ≡ true
passed true k b p q = refl
passed false false b p q = q
passed false true b p q = absurd (cc)

not_both : (b : Bool) → b ≡ true → b ≡ false → ⊥
not_both true p q = cc
not_both false p q = cc

is_false : (b : Bool) → (b ≡ true → ⊥) → b ≡ false
is_false true h = absurd (h refl)
is_false false h = refl

-- what does the same
pub same_is_alike : (V : View) (a b : Action) → V.new.gives a ≡ V.old.gives b → V.new.kills a ≡ V.old.kills b → Alike V a b
same_is_alike V a b g k = record {
  made = λ e h. given (V.new.gives a) (V.new.kills a) h (g ∙ e);
  stays = λ e i. passed (V.new.gives a) (V.new.kills a) true (k ∙ i) refl;
}

-- ---- the law

pub holds_here : (C : List Action → Type 0) (V : View) → WholeGives V → {us w : List Action} → Traced C V us w
    → (ws : List Action) → C (w ++ ws) → ahead V.live ws ≡ true → after V.old w V.start_there ≡ true → after V.new us V.start ≡ true
holds_here C V W (start f) ws c l h = f h
holds_here C V W (copied {us = us} {w = w} a b t e) ws c l h =
    by (λ g k. holds_here C V W t (b ∷ ws) (subst C (joined w (b ∷ []) ws) c) (passed (V.live.gives b) (V.live.kills b) (ahead V.live ws) (is_false (V.live.kills b) (λ q. not_both (V.old.gives b) (W b q) g)) l) k)
    (source (V.old.gives b) (V.old.kills b) (after V.old w V.start_there) (sym (after_one V.old w b V.start_there) ∙ h))
  where
    by : (V.old.gives b ≡ false → after V.old w V.start_there ≡ true → after V.new us V.start ≡ true) → Source (V.old.gives b) (V.old.kills b) (after V.old w V.start_there) → after V.new (us ++ a ∷ []) V.start ≡ true
    by again (made g) = after_one V.new us a V.start ∙ e.made g (after V.new us V.start)
    by again (stays g k i) = after_one V.new us a V.start ∙ ap (λ h. behind V.new a h) (again g i) ∙ e.stays g k
holds_here C V W (only_new {us = us} a t q) ws c l h = after_one V.new us a V.start ∙ quiet_behind V.new a (after V.new us V.start) q ∙ holds_here C V W t ws c l h
holds_here C V W (only_old {us = us} {w = w} b t q k) ws c l h =
    by (holds_here C V W t (b ∷ ws) (subst C (joined w (b ∷ []) ws) c) (passed (V.live.gives b) (V.live.kills b) (ahead V.live ws) k l))
    (source (V.old.gives b) (V.old.kills b) (after V.old w V.start_there) (sym (after_one V.old w b V.start_there) ∙ h))
  where
    by : (after V.old w V.start_there ≡ true → after V.new us V.start ≡ true) → Source (V.old.gives b) (V.old.kills b) (after V.old w V.start_there) → after V.new us V.start ≡ true
    by again (made g) = absurd (not_both (V.old.gives b) g q)
    by again (stays g i j) = again j
holds_here C V W (handed {us = us} vs u t g) ws c l h = after_both V.new us vs V.start ∙ g (after V.new us V.start)
holds_here C V W (kept {us = us} {w = w} vs u t k) ws c l h = after_both V.new us vs V.start ∙ k.new (after V.new us V.start)
    ∙ holds_here C V W t (u ++ ws) (subst C (joined w u ws) c) (k.live ws l) (k.old h)
holds_here C V W (unset {w = w} vs u t n) ws c l h = absurd (not_both (after V.old (w ++ u) V.start_there) h n)
holds_here C V W (over {w = w} vs u t n) ws c l h = absurd (not_both (ahead V.live ws) l (n ws c))
