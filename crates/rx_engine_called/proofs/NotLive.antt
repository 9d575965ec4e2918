-- So a variable that ends with parts of a loop's passes is not live behind a mark in front of jumps out of the loop, where each use of it finds
-- it there as a whole: no use comes before it is written as a whole.
use Rattle.std.proofs.Common.{◌≡◌, ◌⊎◌, inl, inr, ℕ, Bool, true, false, not, ◌&&◌, ◌||◌, ◌==◌, List, [], ◌∷◌, ◌++◌, refl, sym, ap, ◌∙◌, subst, append_assoc}
use Rattle.std.proofs.lemmas.Bool.Decides.{Decides-eqb}
use Rattle.rx_core.specs.declared.types.Step.{Step}
use Rattle.rx_typed.specs.Tree.{Function, Root, temporary, variable}
use Rattle.rx_lower_walks.specs.Actions.{Act, Action, Borrow, Build, Call, Dead, Declare, Give, Input, Print, Read, Test, Write}
use Rattle.rx_lower_walks.specs.Orders.{order_function}
use Rattle.rx_lower_walks.specs.Walks.{EndsVariable, IsWalk, Walk}
use Rattle.rx_facts_tables.specs.Along.{after, ahead}
use Rattle.rx_facts_tables.proofs.Forward.{after_append}
use Rattle.rx_facts_tables.specs.Wholes.{is_variable, loses, regains, standing}
use Rattle.rx_facts_tables.specs.Live.{has_root, living, roots_of, used, whole, written}
use Rattle.rx_typed.specs.TypedPlaces.{is_front}
use Rattle.rx_exits_plan.specs.Unmarked.{is_mark}
use Rattle.rx_engine_called.specs.Ended.{AllEnd, Inside, IsStopped}
use Rattle.rx_engine_called.proofs.Ended.{ends_behind, still, to_end}

clash : false ≡ true → ⊥
clash e = cc

-- what makes it stand writes the whole
regain_kills : (x : ℕ) (a : Act) → regains x [] a ≡ true → has_root (roots_of (written a)) (variable x) ≡ true
regain_kills x (Write p t ss) e = its p.root p.steps e
  where
    only : (b : Bool) → (b && true) ≡ true → b ≡ true
    only true q = refl
    only false q = q

    none_so : {A : Type 0} (b : Bool) → (b && false) ≡ true → A
    none_so true q = absurd (clash q)
    none_so false q = absurd (clash q)

    its : (r : Root) (qs : List Step) → (is_variable r x && is_front qs []) ≡ true → has_root (roots_of (whole r qs)) (variable x) ≡ true
    its (variable y) [] q = ap (λ (b : Bool). b || false) ((Decides-eqb x y).1 (sym ((Decides-eqb y x).0 (only (y == x) q))))
    its (variable y) (s ∷ qs) q = none_so (y == x) q
    its (temporary t) qs q = absurd (clash q)
regain_kills x (Declare y) e = absurd (clash e)
regain_kills x (Dead y) e = absurd (clash e)
regain_kills x (Read m p d) e = absurd (clash e)
regain_kills x (Borrow k p d) e = absurd (clash e)
regain_kills x (Test p c) e = absurd (clash e)
regain_kills x (Call f ts d) e = absurd (clash e)
regain_kills x (Build w js ts d) e = absurd (clash e)
regain_kills x (Input d) e = absurd (clash e)
regain_kills x (Print t) e = absurd (clash e)
regain_kills x (Give t) e = absurd (clash e)

-- the end of a variable uses and writes nothing
quiet : (x : ℕ) (a : Act) → EndsVariable a → (has_root (used a) (variable x) ≡ false) × (has_root (roots_of (written a)) (variable x) ≡ false)
quiet x (Dead y) e = (refl, refl)
quiet x (Declare y) e = absurd e
quiet x (Write p t ss) e = absurd e
quiet x (Read m p d) e = absurd e
quiet x (Borrow k p d) e = absurd e
quiet x (Test p c) e = absurd e
quiet x (Call f ts d) e = absurd e
quiet x (Build w js ts d) e = absurd e
quiet x (Input d) e = absurd e
quiet x (Print t) e = absurd e
quiet x (Give t) e = absurd e

passes_by : (g k z : Bool) → g ≡ false → k ≡ false → (g || (not k && z)) ≡ true → z ≡ true
passes_by true k z d e q = absurd (clash (sym d))
passes_by false true z d e q = absurd (clash q)
passes_by false false z d e q = q

module _ (f : Function) (x : ℕ) (found : (w : List Action) (a : Action) → IsWalk f (w ++ a ∷ []) → has_root (used a.act) (variable x) ≡ true → after (standing x []) w false ≡ true) where
  first_walk : (w us : List Action) (a : Action) → IsWalk f (w ++ a ∷ us) → IsWalk f (w ++ a ∷ [])
  first_walk w us a h = (us ++ h.0, h.1, subst (λ (l : List Action). Walk (order_function f) l h.1) (append_assoc w (a ∷ us) h.0 ∙ sym (append_assoc w (a ∷ []) (us ++ h.0))) h.2)

  on_walk : (w us : List Action) (a : Action) → IsWalk f (w ++ a ∷ us) → IsWalk f ((w ++ a ∷ []) ++ us)
  on_walk w us a h = subst (IsWalk f) (sym (append_assoc w (a ∷ []) us)) h

  -- none lies ahead where it does not stand
  none_ahead : (us w : List Action) → IsWalk f (w ++ us) → after (standing x []) w false ≡ false → ahead (living (variable x)) us ≡ true → ⊥
  none_ahead [] w h e q = clash q
  none_ahead (a ∷ us) w h e q = by (has_root (used a.act) (variable x)) refl (has_root (roots_of (written a.act)) (variable x)) refl (λ l g. none_ahead us (w ++ a ∷ []) (on_walk w us a h) l g) q
    where
      not_regained : (b : Bool) → regains x [] a.act ≡ b → has_root (roots_of (written a.act)) (variable x) ≡ false → b ≡ false
      not_regained true r g = absurd (clash (sym g ∙ regain_kills x a.act r))
      not_regained false r g = refl

      still_lost : has_root (roots_of (written a.act)) (variable x) ≡ false → after (standing x []) (w ++ a ∷ []) false ≡ false
      still_lost g =
          after_append (standing x []) w (a ∷ []) false
          ∙ still (regains x [] a.act) (loses x [] a.act) (after (standing x []) w false) (not_regained (regains x [] a.act) refl g) e

      by : (u : Bool) → has_root (used a.act) (variable x) ≡ u → (k : Bool) → has_root (roots_of (written a.act)) (variable x) ≡ k
          → (after (standing x []) (w ++ a ∷ []) false ≡ false → ahead (living (variable x)) us ≡ true → ⊥) → (u || (not k && ahead (living (variable x)) us)) ≡ true → ⊥
      by true d k g later q = clash (sym e ∙ found w a (first_walk w us a h) d)
      by false d true g later q = clash q
      by false d false g later q = later (still_lost g) q

  none_empty : (a : Action) (us : List Action) → a ∷ us ≡ [] → ⊥
  none_empty a us e = cc

  -- nor behind variables that end
  through : (ending us w rest others : List Action) → us ++ rest ≡ ending ++ others → AllEnd ending → (others ≡ []) ⊎ (after (standing x []) (w ++ ending) false ≡ false) → IsWalk f (w ++ us) → ahead (living (variable x)) us ≡ true → ⊥
  through ending [] w rest others e n l h q = clash q
  through [] (a ∷ us) w rest others e n (inl z) h q = none_empty a (us ++ rest) (e ∙ z)
  through [] (a ∷ us) w rest others e n (inr l) h q = none_ahead (a ∷ us) w h (subst (λ (u : List Action). after (standing x []) u false ≡ false) (sym (to_end w)) l) q
  through (d ∷ ending) (a ∷ us) w rest others e n l h q =
      let head : a ≡ d = cc in
      let tails : us ++ rest ≡ ending ++ others = cc in
      let z = quiet x a.act (subst (λ (b : Action). EndsVariable b.act) (sym head) n.0) in
      through ending us (w ++ a ∷ []) rest others tails n.1 (moved head l) (on_walk w us a h)
      (passes_by (has_root (used a.act) (variable x)) (has_root (roots_of (written a.act)) (variable x)) (ahead (living (variable x)) us) z.0 z.1 q)
    where
      moved : a ≡ d → (others ≡ []) ⊎ (after (standing x []) (w ++ d ∷ ending) false ≡ false) → (others ≡ []) ⊎ (after (standing x []) ((w ++ a ∷ []) ++ ending) false ≡ false)
      moved s (inl z) = inl z
      moved s (inr z) = inr (ap (λ (u : List Action). after (standing x []) u false) (append_assoc w (a ∷ []) ending ∙ ap (λ (b : Action). w ++ b ∷ ending) s) ∙ z)

  pub not_live : (m : Action) (l : ℕ) → is_mark m.act ≡ true → Inside x m l (order_function f) → (w us : List Action) → IsWalk f (w ++ m ∷ us) → ahead (living (variable x)) us ≡ true → ⊥
  not_live m l mark i w us h q =
      let z = ends_behind x m l mark h.2 i w (us ++ h.0) (append_assoc w (m ∷ us) h.0) in
      through z.ending us (w ++ m ∷ []) h.0 z.others z.whole z.all_end (lost z.ending z.others z.lost) (on_walk w us m h) q
    where
      lost : (ending others : List Action) → ((others ≡ []) × IsStopped h.1) ⊎ (after (standing x []) (w ++ m ∷ ending) false ≡ false) → (others ≡ []) ⊎ (after (standing x []) ((w ++ m ∷ []) ++ ending) false ≡ false)
      lost ending others (inl s) = inl s.0
      lost ending others (inr e) = inr (ap (λ (u : List Action). after (standing x []) u false) (append_assoc w (m ∷ []) ending) ∙ e)
