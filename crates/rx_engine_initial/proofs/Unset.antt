-- Of a function that is initialised: where a variable does not stand, no part of it is set, and none of its places stands.
use Rattle.std.proofs.Common.{◌≡◌, ◌⊎◌, inl, inr, ℕ, Bool, true, false, not, ◌&&◌, ◌||◌, ◌==◌, List, [], ◌∷◌, ◌++◌, refl, sym, ◌∙◌, subst, ap, eqb-true, eq-eqb}
use Rattle.rx_core.specs.declared.types.Step.{Step}
use Rattle.rx_typed.specs.Tree.{Root, variable, temporary, Temporary, Place, Function, own}
use Rattle.rx_typed.specs.TypedPlaces.{is_front, same_steps}
use Rattle.rx_lower_walks.specs.Actions.{Act, Declare, Dead, Read, Write, Borrow, Test, Call, Build, Input, Print, Give, Action}
use Rattle.rx_lower_walks.specs.Walks.{IsWalk}
use Rattle.rx_facts_tables.specs.Along.{Switch, behind, after}
use Rattle.rx_facts_tables.specs.Places.{Frame, is_part}
use Rattle.rx_facts_tables.specs.Setting.{is_behind, sets, unsets, setting, is_set}
use Rattle.rx_facts_tables.specs.Wholes.{placed, holds_in, is_variable, is_all, enters, regains, loses, standing, stands}
use Rattle.rx_facts_tables.specs.Wholes as wholes
use Rattle.rx_facts_tables.specs.Initialised.{Initialised}
use Rattle.rx_meaning_keeping.proofs.Parts.{Parted}
use Rattle.rx_engine_initial.specs.Variables.{lost, standing_in}
use Rattle.rx_engine_initial.proofs.Tracing.{nil_right, joined, after_one}
use Rattle.rx_engine_initial.proofs.Ways.{no, and_left, and_right, and_both, or_left, or_right, either, is_false, clash, same_self}
use Rattle.rx_engine_initial.proofs.Uses.{no_part}
use Rattle.rx_engine_initial.proofs.Known.{walk_front}

-- what holds on all walks, by their last actions
along_walks : (f : Function) (P : List Action → Type 0) → P [] → ((w : List Action) (a : Action) → IsWalk f (w ++ a ∷ []) → P w → P (w ++ a ∷ [])) → (w : List Action) → IsWalk f w → P w
along_walks f P z s w c = go [] w z c
  where
    go : (done rest : List Action) → P done → IsWalk f (done ++ rest) → P (done ++ rest)
    go done [] p c = subst P (sym (nil_right done)) p
    go done (a ∷ rest) p c = subst P (joined done (a ∷ []) rest) (go (done ++ a ∷ []) rest (s done a (walk_front f (done ++ a ∷ []) rest (subst (λ l. IsWalk f l) (sym (joined done (a ∷ []) rest)) c)) p)
        (subst (λ l. IsWalk f l) (sym (joined done (a ∷ []) rest)) c))

-- what one action leaves, the other does
kept : (u l s t : Bool) → (l ≡ true → u ≡ true) → (s ≡ true → t ≡ true) → (not u && s) ≡ true → (not l && t) ≡ true
kept true l s t f g e = no e
kept false true s t f g e = no (f refl)
kept false false s t f g e = g e

holds_all : (s : Step) (ss : List Step) → holds_in [] (s ∷ ss) ≡ true
holds_all s ss = refl

-- a write whose place is of a variable: of the whole, or of a part of it
write_stands : (x : ℕ) (ss : List Step) (t : Temporary) (rs : List Step) (y : ℕ) (b : Bool) → y ≡ x → (enters x [] (Write (placed y ss) t rs) ≡ true → b ≡ true) → (regains x [] (Write (placed y ss) t rs) || b) ≡ true
write_stands x [] t rs y b e f = or_left ((y == x) && true) b (and_both (y == x) true (eq-eqb y x e) refl)
write_stands x (s ∷ ss) t rs y b e f = or_right ((y == x) && false) b (f (and_both (y == x) (holds_in [] (s ∷ ss)) (eq-eqb y x e) (holds_all s ss)))

module _ (F : Frame) (parts : Parted F) (muts : List Bool) (f : Function) (init : Initialised F muts f) (x : ℕ) where
  module _ (n : ℕ) (h : is_part F (own x) n ≡ true) where
    root_is : (r : Root) (ss : List Step) → is_part F (record { root = r; steps = ss }) n ≡ true → (P : Root → Type 0) → P (variable x) → P r
    root_is (variable y) ss k P p = by (x == y) refl
      where
        by : (b : Bool) → (x == y) ≡ b → P (variable y)
        by true q = subst (λ z. P (variable z)) (eqb-true x y q) p
        by false q = absurd (parts.other x y [] ss n (λ e. clash (x == y) (eq-eqb x y e) q) h k)
    root_is (temporary t) ss k P p = absurd (no_part F t ss n k)

    of_part : (r : Root) (ss : List Step) (t : Temporary) (rs : List Step) (b : Bool) → r ≡ variable x → (enters x [] (Write (record { root = r; steps = ss }) t rs) ≡ true → b ≡ true)
        → (regains x [] (Write (record { root = r; steps = ss }) t rs) || b) ≡ true
    of_part r ss t rs b e g = subst (λ (q : Root). (enters x [] (Write (record { root = q; steps = ss }) t rs) ≡ true → b ≡ true) → (regains x [] (Write (record { root = q; steps = ss }) t rs) || b) ≡ true) (sym e)
        (write_stands x ss t rs x b refl) g

    whole_lost : (p : Place) → (is_variable p.root x && same_steps p.steps []) ≡ true → is_part F p n ≡ true
    whole_lost p e = by p.root p.steps (and_left (is_variable p.root x) (same_steps p.steps []) e) (and_right (is_variable p.root x) (same_steps p.steps []) e)
      where
        by : (r : Root) (ss : List Step) → is_variable r x ≡ true → same_steps ss [] ≡ true → is_part F (record { root = r; steps = ss }) n ≡ true
        by (variable z) [] i k = subst (λ v. is_part F (own v) n ≡ true) (sym (eqb-true z x i)) h
        by (variable z) (q ∷ ss) i k = no k
        by (temporary t) ss i k = no i

    ends_it : (y : ℕ) → ((y == x) && true) ≡ true → is_part F (own y) n ≡ true
    ends_it y e = subst (λ v. is_part F (own v) n ≡ true) (sym (eqb-true y x (and_left (y == x) true e))) h

    step_set : (a : Act) (s t : Bool) → (s ≡ true → t ≡ true) → (enters x [] a ≡ true → t ≡ true) → (sets F n a || (not (unsets F n a) && s)) ≡ true → (regains x [] a || (not (loses x [] a) && t)) ≡ true
    step_set (Declare y) s t g k e = kept (is_part F (own y) n) ((y == x) && true) s t (ends_it y) g e
    step_set (Dead y) s t g k e = kept (is_part F (own y) n) ((y == x) && true) s t (ends_it y) g e
    step_set (Read true p d) s t g k e = kept (is_part F p n) (is_variable p.root x && same_steps p.steps []) s t (whole_lost p) g e
    step_set (Read false p d) s t g k e = g e
    step_set (Write p d rs) s t g k e = by (either (not (is_behind p.steps) && is_part F p n) s e)
      where
        by : ((not (is_behind p.steps) && is_part F p n) ≡ true) ⊎ (s ≡ true) → ((is_variable p.root x && is_front p.steps []) || t) ≡ true
        by (inl i) = of_part p.root p.steps d rs t (root_is p.root p.steps (and_right (not (is_behind p.steps)) (is_part F p n) i) (λ r. r ≡ variable x) refl) k
        by (inr i) = or_right (is_variable p.root x && is_front p.steps []) t (g i)
    step_set (Borrow v p d) s t g k e = g e
    step_set (Test p c) s t g k e = g e
    step_set (Call m ts d) s t g k e = g e
    step_set (Build w is ts d) s t g k e = g e
    step_set (Input d) s t g k e = g e
    step_set (Print d) s t g k e = g e
    step_set (Give d) s t g k e = g e

    pub set_stands : (w : List Action) → IsWalk f w → is_set F w n ≡ true → stands w x [] ≡ true
    set_stands w c = along_walks f (λ w. is_set F w n ≡ true → stands w x [] ≡ true) (λ e. e)
        (λ w a c p e. after_one (standing x []) w a false ∙ step_set a.act (is_set F w n) (stands w x []) p ((init w a c).enters x []) (sym (after_one (setting F n) w a false) ∙ e)) w c

    pub unset : (w : List Action) → IsWalk f w → stands w x [] ≡ false → is_set F w n ≡ false
    unset w c e = is_false (is_set F w n) (λ q. clash (stands w x []) (set_stands w c q) e)

  module _ (qs : List Step) where
    whole_lost_too : (p : Place) → (is_variable p.root x && same_steps p.steps []) ≡ true → (is_variable p.root x && is_front p.steps qs) ≡ true
    whole_lost_too p e = and_both (is_variable p.root x) (is_front p.steps qs) (and_left (is_variable p.root x) (same_steps p.steps []) e) (by p.steps (and_right (is_variable p.root x) (same_steps p.steps []) e))
      where
        by : (ss : List Step) → same_steps ss [] ≡ true → is_front ss qs ≡ true
        by [] k = refl
        by (s ∷ ss) k = no k

    of_root : (r : Root) (ss : List Step) (t : Temporary) (rs : List Step) (b : Bool) → is_variable r x ≡ true → (enters x [] (Write (record { root = r; steps = ss }) t rs) ≡ true → b ≡ true)
        → (regains x [] (Write (record { root = r; steps = ss }) t rs) || b) ≡ true
    of_root (variable y) ss t rs b e g = write_stands x ss t rs y b (eqb-true y x e) g
    of_root (temporary u) ss t rs b e g = no e

    step_in : (a : Act) (s t : Bool) → (s ≡ true → t ≡ true) → (enters x [] a ≡ true → t ≡ true) → (regains x qs a || (not (lost x qs a) && s)) ≡ true → (regains x [] a || (not (loses x [] a) && t)) ≡ true
    step_in (Declare y) s t g k e = kept (y == x) ((y == x) && true) s t (and_left (y == x) true) g e
    step_in (Dead y) s t g k e = kept (y == x) ((y == x) && true) s t (and_left (y == x) true) g e
    step_in (Read true p d) s t g k e = kept (is_variable p.root x && is_front p.steps qs) (is_variable p.root x && same_steps p.steps []) s t (whole_lost_too p) g e
    step_in (Read false p d) s t g k e = g e
    step_in (Write p d rs) s t g k e = by (either (is_variable p.root x && is_front p.steps qs) s e)
      where
        by : ((is_variable p.root x && is_front p.steps qs) ≡ true) ⊎ (s ≡ true) → ((is_variable p.root x && is_front p.steps []) || t) ≡ true
        by (inl i) = of_root p.root p.steps d rs t (and_left (is_variable p.root x) (is_front p.steps qs) i) k
        by (inr i) = or_right (is_variable p.root x && is_front p.steps []) t (g i)
    step_in (Borrow v p d) s t g k e = g e
    step_in (Test p c) s t g k e = g e
    step_in (Call m ts d) s t g k e = g e
    step_in (Build w is ts d) s t g k e = g e
    step_in (Input d) s t g k e = g e
    step_in (Print d) s t g k e = g e
    step_in (Give d) s t g k e = g e

    in_stands : (w : List Action) → IsWalk f w → after (standing_in x qs) w false ≡ true → stands w x [] ≡ true
    in_stands w c = along_walks f (λ w. after (standing_in x qs) w false ≡ true → stands w x [] ≡ true) (λ e. e)
        (λ w a c p e. after_one (standing x []) w a false ∙ step_in a.act (after (standing_in x qs) w false) (stands w x []) p ((init w a c).enters x []) (sym (after_one (standing_in x qs) w a false) ∙ e)) w c

    pub stands_not : (w : List Action) → IsWalk f w → stands w x [] ≡ false → after (standing_in x qs) w false ≡ false
    stands_not w c e = is_false (after (standing_in x qs) w false) (λ q. clash (stands w x []) (in_stands w c q) e)
