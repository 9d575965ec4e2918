-- A variable that the answer sees through a shared reference: the text asks for the reference again, the answer reads its own, also
-- where it binds the place.
use Rattle.std.proofs.Common.{◌≡◌, ℕ, Bool, true, false, List, [], ◌∷◌, Some, refl, sym, ◌∙◌, subst, ⊎_elim}
use Rattle.rx_core.specs.declared.types.Step.TheVariants as step
use Rattle.rx_typed.specs.Tree as tree
use Rattle.rx_typed.specs.Tree.{Mark, Body, Temporary, own, under}
use Rattle.rx_lower_walks.specs.Actions.{Declare, Read, Write, Borrow, Action, does}
use Rattle.rx_meaning.specs.Values.{Value, pointer, State}
use Rattle.rx_meaning.specs.Results.{Result, gives, on, bind, result_of}
use Rattle.rx_meaning.specs.Patterns.{took, bound, closed}
use Rattle.rx_meaning.proofs.Sequences.{bind_on, bind_same}
use Rattle.rx_meaning.proofs.Reborrows.{reborrow_is}
use Rattle.rx_meaning.specs.Acting.{performed, plainly}
use Rattle.rx_meaning.specs.Expressions.{Functions, Meaning, value, body}
use Rattle.rx_engine_simulation.proofs.Told.{noted, followed}
use Rattle.rx_engine_simulation.proofs.Values.{Pair, pointers, Given}
use Rattle.rx_engine_simulation.proofs.States.{Direction, Turns, Facts, viewed, sight, Renaming, sight_of, Frozen, IsViewed, StatesAlike}
use Rattle.rx_engine_simulation.proofs.Results.{Jumping, ResultsAlike, both_on, DoAlike}
use Rattle.rx_engine_simulation.proofs.Acts.{stays}
use Rattle.rx_engine_simulation.proofs.Given.{read_is}

module _ (V : Facts) (d : Direction) (R : Renaming) (Z Z' : Frozen) (J : Jumping) (c : ℕ) (h : List Action) (j : List Pair) (s s' : State) (inv : StatesAlike V R Z Z' h j s s') (turns : Turns d c s.turns s'.turns) where
  module _ (Q : Functions) (low : Meaning ℕ) (n : ℕ) (m : Mark) (moves r : Bool) (x y : ℕ) (t t' : Temporary) (b : IsViewed Z Z' j s.frame s'.frame x y) where
    abbrev a : Action
    a = does n (Borrow false (under (own x) (step.Deref r ∷ [])) t)

    abbrev answer : Result ℕ Value
    answer = value plainly Q low (tree.read m moves (own y)) t' s'

    false_true : false ≡ true → ⊥
    false_true e = cc

    reads : answer ≡ on [] (pointer b.target.right b.steps false) s'
    reads = read_is Q low m moves y b.right t' (pointer b.target.right b.steps false) s' b.at_answer (inv.paired.frozen' b.right (pointer b.target.right b.steps false) b.held') refl

    viewed_alike : DoAlike V d R Z Z' J Given c h j s s' (performed followed a [] s) answer
    unfolding result_of noted
    viewed_alike good =
        subst (λ q. ResultsAlike V d R Z Z' J Given c h j s s' (result_of (noted a q)) answer) (sym (reborrow_is x b.left b.target.left b.steps false r b.flag t s b.at_text (inv.paired.frozen b.left (pointer b.target.left b.steps b.flag) b.held)))
        (subst (λ q. ResultsAlike V d R Z Z' J Given c h j s s' (result_of (noted a (gives [] (pointer b.target.left b.steps false) s))) q) (sym reads)
        (both_on j refl (pointers b.target b.is_in (λ e. absurd (false_true e)), refl) (stays V d R Z Z' J c h j s s' inv turns a (λ z k. ⊎_elim (λ e. e) (λ e. e) k))))

  pub view_alike : (Q : Functions) (low : Meaning ℕ) (n : ℕ) (m : Mark) (moves r : Bool) (x y : ℕ) (t t' : Temporary) → sight_of R x ≡ Some (sight y viewed)
      → DoAlike V d R Z Z' J Given c h j s s' (performed followed (does n (Borrow false (under (own x) (step.Deref r ∷ [])) t)) [] s) (value plainly Q low (tree.read m moves (own y)) t' s')
  view_alike Q low n m moves r x y t t' seen = viewed_alike Q low n m moves r x y t t' (inv.binds x (sight y viewed) seen)

-- ---- a place that a variable is bound to is read

module _ (Q : Functions) (low : Meaning ℕ) (k z y : ℕ) (v : Bool) (rest : Body) (i : ℕ) (t : Temporary) where
  -- the variable, from what was read
  abbrev bound_then : List Value → State → Result ℕ Value
  bound_then ws s = bind (performed plainly (does k (Declare z)) [] s) (λ u s1. bind (performed plainly (does k (Write (own z) (tree.temporary_at k 0) [])) ws s1) (λ w s2. closed plainly i z (body plainly Q low rest i t s2)))

  pub place_body_is : (n : ℕ) (m m' : Mark) (w : Bool) (s : State) → body plainly Q low (tree.lets n (tree.bind k z (tree.by_value v)) (tree.at_place m (own y)) rest) i t s ≡ body plainly Q low (tree.lets n (tree.bind k z (tree.by_value v)) (tree.of_value (tree.read m' w (own y))) rest) i t s
  unfolding value bound took
  place_body_is n m m' w s =
      bind_on [] s (λ vs s1. bind (bind (performed plainly (does k (Read v (own y) (tree.temporary_at k 0))) vs s1) (λ u s2. on [] (u ∷ []) s2)) bound_then)
      ∙ sym (bind_same (bind (performed plainly (does m'.node (Read w (own y) (tree.temporary_of (tree.read m' w (own y))))) [] s) (λ u s2. on [] (u ∷ []) s2)) (bind (performed plainly (does m'.node (Read w (own y) (tree.temporary_of (tree.read m' w (own y))))) [] s) (λ u s2. on [] (u ∷ []) s2))
      (λ vs s1. bind (on [] vs s1) bound_then) bound_then refl (λ vs s1. bind_on vs s1 bound_then))
