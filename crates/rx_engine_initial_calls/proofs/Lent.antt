-- Of a function that is initialised and looks at places with parts alone: where all of a variable is set, each of its places stands with
-- each that it is in. For what has a part that was moved is unset until it is written again.
use Rattle.std.proofs.Common.{◌≡◌, ◌⊎◌, inl, inr, ℕ, Bool, true, false, not, ◌&&◌, ◌||◌, ◌==◌, List, [], ◌∷◌, ◌++◌, Some, refl, sym, ◌∙◌, subst, ap, eqb-true, eq-eqb}
use Rattle.rx_core.specs.declared.types.Step.{Step}
use Rattle.rx_typed.specs.Tree.{Root, variable, temporary, Temporary, Function, own}
use Rattle.rx_typed.specs.TypedPlaces.{is_front, same_steps}
use Rattle.rx_typed_declarations.specs.Sizes.{Sized}
use Rattle.rx_lower_walks.specs.Actions.{Act, Declare, Dead, Read, Write, Borrow, Test, Call, Build, Input, Print, Give, Action}
use Rattle.rx_lower_walks.specs.Walks.{IsWalk}
use Rattle.rx_facts_tables.specs.Along.{after}
use Rattle.rx_facts_tables.specs.Places.{Frame, is_part}
use Rattle.rx_facts_tables.specs.Setting.{is_behind, sets, unsets, setting, is_set, looked_at, AllSet}
use Rattle.rx_facts_tables.specs.Wholes.{placed, holds_in, is_variable, is_all, enters, regains, loses, standing, stands}
use Rattle.rx_facts_tables.specs.Initialised.{Initialised}
use Rattle.rx_facts_tables.proofs.Fronts.{same_steps_is, not_so}
use Rattle.rx_meaning_keeping.specs.Ready.{HasPart}
use Rattle.rx_meaning_keeping.proofs.Parts.{Parted, parted}
use Rattle.rx_engine_initial.specs.Variables.{standing_in}
use Rattle.rx_engine_initial.proofs.Tracing.{nil_right, joined, after_one}
use Rattle.rx_engine_initial.proofs.Ways.{no, and_left, and_right, and_both, either, is_false, clash, behind_front, of_holds}
use Rattle.rx_engine_initial.proofs.StandingIn.{stands_in}
use Rattle.rx_engine_initial.proofs.Uses.{no_part}
use Rattle.rx_engine_initial.proofs.Unset.{set_stands}
use Rattle.rx_engine_initial.proofs.Known.{walk_front}
use Rattle.rx_engine_initial_calls.proofs.Apart.{places_apart}

-- what holds on all walks, by their last actions
along_walks : (f : Function) (P : List Action → Type 0) → P [] → ((w : List Action) (a : Action) → IsWalk f (w ++ a ∷ []) → P w → P (w ++ a ∷ [])) → (w : List Action) → IsWalk f w → P w
along_walks f P z s w c = go [] w z c
  where
    go : (done rest : List Action) → P done → IsWalk f (done ++ rest) → P (done ++ rest)
    go done [] p c = subst P (sym (nil_right done)) p
    go done (a ∷ rest) p c = let e = sym (joined done (a ∷ []) rest) in
        subst P (joined done (a ∷ []) rest) (go (done ++ a ∷ []) rest (s done a (walk_front f (done ++ a ∷ []) rest (subst (λ l. IsWalk f l) e c)) p) (subst (λ l. IsWalk f l) e c))

and_false : (a b : Bool) → b ≡ false → (a && b) ≡ false
and_false true b e = e
and_false false b e = refl

left_false : (a b : Bool) → (a || b) ≡ false → a ≡ false
left_false true b e = no (sym e)
left_false false b e = refl

right_false : (a b : Bool) → (a || b) ≡ false → b ≡ false
right_false true b e = no (sym e)
right_false false b e = e

-- a part of the place is unset
pub record IsUnset (F : Frame) (x : ℕ) (q : List Step) (s : ℕ → Bool) : Type 0 where
  pub part : ℕ
  pub is : is_part F (placed x q) part ≡ true
  pub unset : s part ≡ false

module _ (F : Frame) (sized : Sized F.declared F.sizes) (x : ℕ) (q : List Step) (plain : is_behind q ≡ false) where
  parts : Parted F
  parts = parted F sized

  -- behind an action
  abbrev Then : Act → (ℕ → Bool) → Type 0
  Then a s = IsUnset F x q (λ n. sets F n a || (not (unsets F n a) && s n))

  stays_unset : (a : Act) (s : ℕ → Bool) (z : IsUnset F x q s) → sets F z.part a ≡ false → Then a s
  stays_unset a s z e = record { part = z.part; is = z.is; unset = by (sets F z.part a) (unsets F z.part a) (s z.part) e z.unset }
    where
      by : (g k b : Bool) → g ≡ false → b ≡ false → (g || (not k && b)) ≡ false
      by true k b p r = no (sym p)
      by false k b p r = and_false (not k) b r

  -- a move of the place unsets all of it
  is_moved : (r : Root) (ss : List Step) (d : Temporary) (s : ℕ → Bool) → is_variable r x ≡ true → same_steps ss q ≡ true
      → ((ps : List Step) → Some (record { root = r; steps = ss }) ≡ Some (placed x ps) → HasPart F x ps) → Then (Read true (record { root = r; steps = ss }) d) s
  is_moved (temporary t) ss d s v e f = no v
  is_moved (variable y) ss d s v e f = let k = ap (λ z. placed z ss) (eqb-true y x v) ∙ ap (λ rs. placed x rs) (same_steps_is ss q e) in let z = f q (ap (λ p. Some p) k) in
      record { part = z.0; is = z.1; unset = by (is_part F (placed y ss) z.0) (s z.0) (subst (λ p. is_part F p z.0 ≡ true) (sym k) z.1) }
    where
      by : (b c : Bool) → b ≡ true → (not b && c) ≡ false
      by true c p = refl
      by false c p = no p

  -- a write that does not regain the place sets no part of it
  not_set : (r : Root) (ss : List Step) (t : Temporary) (rs : List Step) (n : ℕ) → is_part F (placed x q) n ≡ true → (is_variable r x && is_front ss q) ≡ false
      → (enters x q (Write (record { root = r; steps = ss }) t rs) ≡ true → ⊥) → sets F n (Write (record { root = r; steps = ss }) t rs) ≡ true → ⊥
  not_set (temporary u) ss t rs n i f g e = no_part F u ss n (and_right (not (is_behind ss)) (is_part F (record { root = temporary u; steps = ss }) n) e)
  not_set (variable y) ss t rs n i f g e = by (y == x) refl
    where
      there : is_part F (placed y ss) n ≡ true
      there = and_right (not (is_behind ss)) (is_part F (placed y ss) n) e

      by : (b : Bool) → (y == x) ≡ b → ⊥
      by false k = parts.other y x ss q n (λ m. clash (y == x) (eq-eqb y x m) k) there i
      by true k = of (is_front q ss) refl
        where
          apart : is_front ss q ≡ false
          apart = is_false (is_front ss q) (λ h. clash ((y == x) && is_front ss q) (and_both (y == x) (is_front ss q) k h) f)

          of : (b : Bool) → is_front q ss ≡ b → ⊥
          of true h = g (and_both (y == x) (holds_in q ss) k (of_holds q ss (record { front = h; less = apart; outside = plain })))
          of false h = places_apart F sized x ss q n apart h (not_so (is_behind ss) (and_left (not (is_behind ss)) (is_part F (placed y ss) n) e)) plain
              (subst (λ z. is_part F (placed z ss) n ≡ true) (eqb-true y x k) there) i

  front_none : (ss : List Step) → is_front ss [] ≡ true → is_front ss q ≡ true
  front_none [] e = refl
  front_none (r ∷ ss) e = no e

  step : (a : Act) (whole place : Bool) (s : ℕ → Bool) → ((ps : List Step) → looked_at a ≡ Some (placed x ps) → HasPart F x ps) → (enters x q a ≡ true → place ≡ true)
      → (whole ≡ true → place ≡ false → IsUnset F x q s) → (regains x [] a || (not (loses x [] a) && whole)) ≡ true → (regains x q a || (not (loses x q a) && place)) ≡ false → Then a s
  step (Declare y) b c s l g f h k = by (y == x) h k
    where
      by : (t : Bool) → (not (t && true) && b) ≡ true → (not (t && is_all q) && c) ≡ false → Then (Declare y) s
      by true h k = no h
      by false h k = stays_unset (Declare y) s (f h k) refl
  step (Dead y) b c s l g f h k = by (y == x) h k
    where
      by : (t : Bool) → (not (t && true) && b) ≡ true → (not (t && is_all q) && c) ≡ false → Then (Dead y) s
      by true h k = no h
      by false h k = stays_unset (Dead y) s (f h k) refl
  step (Read true p d) b c s l g f h k = by (is_variable p.root x && same_steps p.steps q) refl k
    where
      by : (t : Bool) → (is_variable p.root x && same_steps p.steps q) ≡ t → (not t && c) ≡ false → Then (Read true p d) s
      by true e k = is_moved p.root p.steps d s (and_left (is_variable p.root x) (same_steps p.steps q) e) (and_right (is_variable p.root x) (same_steps p.steps q) e) l
      by false e k = stays_unset (Read true p d) s (f (and_right (not (is_variable p.root x && same_steps p.steps [])) b h) k) refl
  step (Read false p d) b c s l g f h k = stays_unset (Read false p d) s (f h k) refl
  step (Write p t rs) b c s l g f h k = by (either (is_variable p.root x && is_front p.steps []) b h)
    where
      lost : (is_variable p.root x && is_front p.steps q) ≡ false
      lost = left_false (is_variable p.root x && is_front p.steps q) c k

      place : c ≡ false
      place = right_false (is_variable p.root x && is_front p.steps q) c k

      by : ((is_variable p.root x && is_front p.steps []) ≡ true) ⊎ (b ≡ true) → Then (Write p t rs) s
      by (inl i) = clash (is_variable p.root x && is_front p.steps q) (and_both (is_variable p.root x) (is_front p.steps q) (and_left (is_variable p.root x) (is_front p.steps []) i)
          (front_none p.steps (and_right (is_variable p.root x) (is_front p.steps []) i))) lost
      by (inr i) = let z = f i place in stays_unset (Write p t rs) s z (is_false (sets F z.part (Write p t rs)) (λ e. not_set p.root p.steps t rs z.part z.is lost (λ j. clash c (g j) place) e))
  step (Borrow v p d) b c s l g f h k = stays_unset (Borrow v p d) s (f h k) refl
  step (Test p t) b c s l g f h k = stays_unset (Test p t) s (f h k) refl
  step (Call m ts d) b c s l g f h k = stays_unset (Call m ts d) s (f h k) refl
  step (Build w is ts d) b c s l g f h k = stays_unset (Build w is ts d) s (f h k) refl
  step (Input d) b c s l g f h k = stays_unset (Input d) s (f h k) refl
  step (Print t) b c s l g f h k = stays_unset (Print t) s (f h k) refl
  step (Give t) b c s l g f h k = stays_unset (Give t) s (f h k) refl

  module _ (muts : List Bool) (f : Function) (init : Initialised F muts f)
      (places : (w : List Action) (a : Action) (ss : List Step) → IsWalk f (w ++ a ∷ []) → looked_at a.act ≡ Some (placed x ss) → HasPart F x ss) where
    moved_is_unset : (w : List Action) → IsWalk f w → stands w x [] ≡ true → stands w x q ≡ false → IsUnset F x q (λ n. is_set F w n)
    moved_is_unset w c = along_walks f (λ w. stands w x [] ≡ true → stands w x q ≡ false → IsUnset F x q (λ n. is_set F w n)) (λ h k. no h) next w c
      where
        next : (w : List Action) (a : Action) → IsWalk f (w ++ a ∷ []) → (stands w x [] ≡ true → stands w x q ≡ false → IsUnset F x q (λ n. is_set F w n))
            → stands (w ++ a ∷ []) x [] ≡ true → stands (w ++ a ∷ []) x q ≡ false → IsUnset F x q (λ n. is_set F (w ++ a ∷ []) n)
        next w a c p h k = let z = step a.act (stands w x []) (stands w x q) (λ n. is_set F w n) (λ ps e. places w a ps c e) ((init w a c).enters x q) p
            (sym (after_one (standing x []) w a false) ∙ h) (sym (after_one (standing x q) w a false) ∙ k) in
            record { part = z.part; is = z.is; unset = after_one (setting F z.part) w a false ∙ z.unset }

    pub place_stands : HasPart F x [] → (w : List Action) → IsWalk f w → AllSet F w (own x) → stands w x q ≡ true
    place_stands (n, h) w c s = by (stands w x q) refl
      where
        by : (b : Bool) → stands w x q ≡ b → stands w x q ≡ true
        by true e = e
        by false e = let z = moved_is_unset w c (set_stands F parts muts f init x n h w c (s n h)) e in
            clash (is_set F w z.part) (s z.part (parts.within x [] q z.part z.is)) z.unset

pub all_stand : (F : Frame) → Sized F.declared F.sizes → (muts : List Bool) (f : Function) → Initialised F muts f → (x : ℕ)
    → ((w : List Action) (a : Action) (ss : List Step) → IsWalk f (w ++ a ∷ []) → looked_at a.act ≡ Some (placed x ss) → HasPart F x ss)
    → HasPart F x [] → (w : List Action) → IsWalk f w → AllSet F w (own x) → (qs : List Step) → is_behind qs ≡ false → after (standing_in x qs) w false ≡ true
all_stand F sized muts f init x places has w c s qs plain = stands_in x qs w (λ q i. place_stands F sized x q (behind_front q qs i plain) muts f init places has w c s)
