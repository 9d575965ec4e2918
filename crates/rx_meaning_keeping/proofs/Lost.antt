-- What is lost on a walk stays so behind an action that does not set it, and is so behind one that moves or ends it.
use Rattle.std.proofs.Common.{◌≡◌, ℕ, Bool, true, false, not, ◌&&◌, ◌||◌, ◌==◌, nat_eq, List, [], ◌∷◌, ◌++◌, Option, Some, None, refl, sym, subst, ◌∙◌, eqb-true, true≢false, append-nil, append_assoc}
use Rattle.std.proofs.lemmas.Bool.{eqb-false}
use Rattle.std.proofs.lemmas.Bool.Decides.{Decides-eqb}
use Rattle.rx_core.specs.declared.types.Step.{Step}
use Rattle.rx_typed.specs.Tree.{Place, Root, variable, temporary, Temporary}
use Rattle.rx_typed.specs.TypedPlaces.{is_front}
use Rattle.rx_lower_walks.specs.Actions.{Write, Action, does}
use Rattle.rx_meaning.specs.Values.{Value, slot_of, and_then, Frame as MeaningFrame}
use Rattle.rx_meaning.specs.Places.{Spot, in_slot, follow, start}
use Rattle.rx_facts_tables.specs.Along.{Switch, behind, after}
use Rattle.rx_facts_tables.specs.Places.{Frame, is_part}
use Rattle.rx_facts_tables.specs.Setting as setting
use Rattle.rx_facts_tables.specs.Setting.{is_behind, sets, unsets}
use Rattle.rx_facts_tables.specs.Wholes.{placed, standing, regains, loses, is_variable}
use Rattle.rx_meaning_keeping.specs.Pending.{Pending, Thin, none, keeps, skips, swaps, holds, pushes, Paired, no_pair, pair_and}
use Rattle.rx_meaning_keeping.specs.Ready.{HasPart, AllHere}
use Rattle.rx_meaning_keeping.specs.Lacking.{Off, Lost, Here}
use Rattle.rx_meaning_keeping.proofs.Parts.{Parted}
use Rattle.rx_meaning_keeping.proofs.Slots.{off_front, some_is}

-- ---- what is set, behind one more action

pub after_append : (s : Switch) (w : List Action) (a : Action) (b : Bool) → after s (w ++ a ∷ []) b ≡ behind s a (after s w b)
after_append s [] a b = refl
after_append s (c ∷ w) a b = after_append s w a (behind s c b)

pub still : (g k b : Bool) → g ≡ false → b ≡ false → g || (not k && b) ≡ false
still false true false p q = refl
still false false false p q = refl
still true k b p q = cc
still false k true p q = cc

pub killed : (g k b : Bool) → g ≡ false → k ≡ true → g || (not k && b) ≡ false
killed false true b p q = refl
killed true k b p q = cc
killed false false b p q = cc

pub none_of : (b : Bool) → (b ≡ true → ⊥) → b ≡ false
none_of true h = absurd (h refl)
none_of false h = refl

module _ (F : Frame) (parts : Parted F) where
  pub lost_still : (w : List Action) (a : Action) (x : ℕ) (qs : List Step) → ((n : ℕ) → is_part F (placed x qs) n ≡ true → sets F n a.act ≡ false) → regains x qs a.act ≡ false → Lost F w x qs → Lost F (w ++ a ∷ []) x qs
  lost_still w a x qs h h2 l = record { has = l.has; gone = after_append (standing x qs) w a false ∙ still (regains x qs a.act) (loses x qs a.act) _ h2 l.gone; unset = λ n p. after_append (setting.setting F n) w a false ∙ still (sets F n a.act) (unsets F n a.act) _ (h n p) (l.unset n p) }

  pub lost_now : (w : List Action) (a : Action) (x : ℕ) (qs : List Step) → ((n : ℕ) → sets F n a.act ≡ false) → ((n : ℕ) → is_part F (placed x qs) n ≡ true → unsets F n a.act ≡ true) → regains x qs a.act ≡ false → loses x qs a.act ≡ true → HasPart F x qs → Lost F (w ++ a ∷ []) x qs
  lost_now w a x qs h k g1 g2 p = record { has = p; gone = after_append (standing x qs) w a false ∙ killed (regains x qs a.act) (loses x qs a.act) _ g1 g2; unset = λ n q. after_append (setting.setting F n) w a false ∙ killed (sets F n a.act) (unsets F n a.act) _ (h n) (k n q) }

  -- a write of a place of a variable, what is lost and off it
  pub lost_written : (w : List Action) (n x y : ℕ) (p : Place) (t : Temporary) (ss : List Step) (qs : List Step) → p.root ≡ variable y → (x ≡ y → Off qs p.steps) → Lost F w x qs → Lost F (w ++ does n (Write p t ss) ∷ []) x qs
  lost_written w n x y p t ss qs r o l = lost_still w (does n (Write p t ss)) x qs (λ m q. unmet (is_behind p.steps) m q) (subst (λ z. is_variable z x && is_front p.steps qs ≡ false) (sym r) elsewhere) l
    where
      elsewhere : (y == x) && is_front p.steps qs ≡ false
      elsewhere = by (y == x) refl
        where
          by : (b : Bool) → (y == x) ≡ b → b && is_front p.steps qs ≡ false
          by true e = off_front qs p.steps (o (sym ((Decides-eqb y x).0 e)))
          by false e = refl

      part_off : (m : ℕ) → is_part F (placed x qs) m ≡ true → is_part F p m ≡ true → ⊥
      part_off m q z = by (nat_eq x y) refl
        where
          z1 : is_part F (placed y p.steps) m ≡ true
          z1 = subst (λ u. is_part F (record { root = u; steps = p.steps }) m ≡ true) r z

          by : (b : Bool) → nat_eq x y ≡ b → ⊥
          by true e = let g = eqb-true x y e in parts.off y qs p.steps m (o g) (subst (λ u. is_part F (placed u qs) m ≡ true) g q) z1
          by false e = parts.other x y qs p.steps m (eqb-false x y e) q z1

      unmet : (b : Bool) (m : ℕ) → is_part F (placed x qs) m ≡ true → not b && is_part F p m ≡ false
      unmet true m q = refl
      unmet false m q = none_of (is_part F p m) (part_off m q)

-- ---- what is pending

pub here_thin : (K K' : Pending) → Thin K K' → Here K' → Here K
here_thin _ _ none h = h
here_thin _ _ (keeps t) h = (h.0, here_thin _ _ t h.1)
here_thin _ _ (skips t) h = here_thin _ _ t h.1
here_thin _ _ (swaps t) h = (h.1.0, (h.0, here_thin _ _ t h.1.1))

pub here_split : (ts : List Temporary) (vs : List Value) (K : Pending) → Paired ts vs → Here (pushes ts vs K) → AllHere vs × Here K
here_split _ _ K no_pair h = (tt, h)
here_split _ _ K (pair_and {t = t} {ts = ts} {v = v} {vs = vs} p) h = let r = here_split ts vs (holds t v K) p h in ((r.1.0, r.0), r.1.1)

-- ---- where places of variables lead
pub follow_plain : (M : List Value) (ss ps : List Step) (i : ℕ) (b : Bool) → is_behind ss ≡ false → follow M ss (in_slot i ps b) ≡ Some (in_slot i (ps ++ ss) b)
follow_plain M [] ps i b h = rw (append-nil ps)
follow_plain M (Step.Field j ∷ ss) ps i b h = follow_plain M ss (ps ++ Step.Field j ∷ []) i b h ∙ rw (append_assoc ps (Step.Field j ∷ []) ss)
follow_plain M (Step.Variant j ∷ ss) ps i b h = follow_plain M ss (ps ++ Step.Variant j ∷ []) i b h ∙ rw (append_assoc ps (Step.Variant j ∷ []) ss)
follow_plain M (Step.Deref j ∷ ss) ps i b h = absurd (true≢false h)

pub spot_plain : (M : List Value) (G : MeaningFrame) (r : Root) (ss : List Step) (to : Spot) → is_behind ss ≡ false → and_then (start r [] G) (λ at. follow M ss at) ≡ Some to
    → (y : ℕ) × (i : ℕ) × (r ≡ variable y) × (slot_of G.slots y ≡ Some i) × (in_slot i ss true ≡ to)
spot_plain M G (temporary t) ss to b h = cc
spot_plain M G (variable y) ss to b h = by (slot_of G.slots y) refl h
  where
    by : (o : Option ℕ) → slot_of G.slots y ≡ o → and_then (and_then o (λ i. Some (in_slot i [] true))) (λ at. follow M ss at) ≡ Some to → (y1 : ℕ) × (i : ℕ) × (variable y ≡ variable y1) × (slot_of G.slots y1 ≡ Some i) × (in_slot i ss true ≡ to)
    by None p e = cc
    by (Some i) p e = let q = sym (follow_plain M ss [] i true b) ∙ e in (y, i, refl, p, some_is q)

pub slot_is : {i j : ℕ} {ss qs : List Step} {b c : Bool} → in_slot i ss b ≡ in_slot j qs c → (i ≡ j) × (ss ≡ qs)
slot_is h = (cc, cc)
