-- What a run reaches is kept: the law, of the least invariant.
use Rattle.std.proofs.Common.{◌≡◌, ℕ, List, [], ◌∷◌, ◌++◌, Some, None, refl, sym, subst, ◌∙◌}
use Rattle.rx_typed.specs.Tree.{Arms, Function, temporary_of}
use Rattle.rx_lower_walks.specs.Actions.{Call, Action, does, Subject}
use Rattle.rx_lower_walks.specs.Orders.{returns, order_function}
use Rattle.rx_lower_walks.specs.Walks.{IsWalk, Walk}
use Rattle.rx_lower_walks.specs.Walks as walk
use Rattle.rx_meaning.specs.Endings.{Ending}
use Rattle.rx_meaning.specs.Values.{Value, State, new_frame}
use Rattle.rx_meaning.specs.Results as results
use Rattle.rx_meaning.specs.Results.{Done, gives}
use Rattle.rx_meaning.specs.Acting.{Acting}
use Rattle.rx_meaning.specs.Telling.{fully}
use Rattle.rx_meaning.specs.Expressions.{Functions, activation, below_level}
use Rattle.rx_meaning_keeping.specs.Pending.{Pending, holds, landing, arguments}
use Rattle.rx_meaning_keeping.specs.RightOperands.{IsRightOf}
use Rattle.rx_meaning_keeping.specs.Using.{Does}
use Rattle.rx_meaning_keeping.specs.Formed.{Any, AllFormed}
use Rattle.rx_meaning_keeping.specs.Choices.{HasChoice}
use Rattle.rx_meaning_keeping.specs.Keeping.{Invariant, IsFunction, Kept, Laws}
use Rattle.rx_meaning_keeping.specs.Reaching.{Behaves, Reached, starts, performs, comes_back, takes_turn, gets_unit, lets_go, Active, first, called, Ends, by_action, without_turns, at_no_function, at_other_number, starts_with_other_number, at_no_arm, at_no_value, Traced}
use Rattle.rx_meaning_keeping.proofs.Keeping.{activations_keep, fine_post, fine_leap}
use Rattle.rx_meaning_keeping.proofs.Choices.{of_kind}

-- an activation: its arguments, and the state in which it starts
pub record Start : Type 0 where
  pub given : List Value
  pub state : State

module _ {E : Type 0} (A : Acting E) (behaves : Behaves A) (P : Functions) (f0 : ℕ) (vs0 : List Value) (s0 : State) where
  abbrev pub I : ℕ → Start → List Action → State → Pending → Type 0
  I f k w s K = Active A P f0 vs0 s0 f k.given k.state × Reached A P f k.given k.state w s K

  abbrev pub C : ℕ → Subject → Arms → Type 0
  C f S l = (F : Function) × IsFunction P f F × HasChoice S l F.body

  acted : (f : ℕ) (F : Function) → IsFunction P f F → (k : Start) (w : List Action) (a : Action) (vs : List Value) (s : State) (K : Pending) (K1 : Value → Pending) → Does (IsRightOf F) a.act vs K K1 → IsWalk F (w ++ a ∷ []) → I f k w s K
      → (r : Done E) → A.perform a vs s ≡ r → Kept (Ends A P f0 vs0 s0) (I f k) w a s K1 r
  acted f F q k w a vs s K K1 d is i (gives t u s1) e = (behaves a vs s t u s1 e, (i.0, performs w s K F a vs K1 t u s1 q d is i.1 e))
  acted f F q k w a vs s K K1 d is i (results.ends t x) e = by_action f k.given k.state w s K F a vs K1 t i.0 i.1 q d is e

  pub reaching : Laws A (Ends A P f0 vs0 s0) P C Start I
  reaching = record {
    steps = λ f F q k. record {
      drops = λ w s K K' t i. (i.0, lets_go t i.1);
      units = λ w s d K g u i. (i.0, gets_unit d F q g u i.1);
      turns = λ w s n K e i. (i.0, takes_turn s n e i.1);
      performs = λ w a vs s K K1 d is i. acted f F q k w a vs s K K1 d is i (A.perform a vs s) refl;
    };
    enters = λ f F k w n g ts d vs s K c G e. (
      record { given = vs; state = record s { frame = new_frame g } },
      (called f k.given k.state w s K F G n g ts d vs c.kept.0 c.caller c.fills c.arguments c.begins c.kept.1 e, starts G e),
      (λ o m s1 v h i. (c.kept.0, comes_back w s K F G n g ts d vs o m s1 v c.caller c.fills c.arguments c.begins c.kept.1 e h i.1)),
    );
    runs_on = without_turns;
    no_callee = λ f F k w n g ts d vs s K c no. at_no_function f k.given k.state w s K F n g ts d vs c.kept.0 c.kept.1 c.caller c.arguments c.begins no;
    not_as_many = λ f F k w n g ts d vs s K c G e no. at_other_number f k.given k.state w s K F G n g ts d vs c.kept.0 c.kept.1 c.caller c.arguments c.begins e no;
    no_arm_left = λ f F q k S l w vs s K c fi i a. at_no_arm f k.given k.state w s K c.0 S l vs i.0 i.1 c.1 c.2 fi a;
    no_answer = λ f F q o x h no. at_no_value f F o x q h no;
  }

  pub formed_so : AllFormed P (λ f. Any) → AllFormed P C
  formed_so h f F q = of_kind (C f) [] F.body (temporary_of F.body) (h f F q) (λ S l c. (F, q, c))

module _ {E : Type 0} (A : Acting E) (behaves : Behaves A) (P : Functions) (formed : AllFormed P (λ f. Any)) where
  pub runs_are_traced : (n f : ℕ) (F : Function) → IsFunction P f F → (vs : List Value) (s : State) → Traced A P f F vs s (activation (fully A) (below_level (fully A) P n) F vs s)
  runs_are_traced n f F q vs s =
      fine_post (Ends A P f vs s) (λ w x v s1. Reached A P f vs s w s1 (landing x v [])) (λ w v s1. Reached A P f vs s w s1 (holds (temporary_of F.body) v [])) (λ w v s1. In w s1 (holds (temporary_of F.body) v [])) (order_function F) [] _ (λ w v s1 i. i.1)
      (fine_leap (Ends A P f vs s) (λ w x v s1. Reached A P f vs s w s1 (landing x v [])) (λ w x v s1. In w s1 (landing x v [])) (λ w v s1. In w s1 (holds (temporary_of F.body) v [])) (order_function F) [] _ (λ w x v s1 i. i.1)
      (activations_keep A (Ends A P f vs s) P (C A behaves P f vs s) Start (I A behaves P f vs s) (reaching A behaves P f vs s) (formed_so A behaves P f vs s formed) n f F q start vs s
      (λ no. starts_with_other_number F q no) (first, starts F q)))
    where
      start : Start
      start = record { given = vs; state = s }

      In : List Action → State → Pending → Type 0
      In w s1 K = I A behaves P f vs s f start w s1 K

-- ---- what each action keeps holds of all that is reached

function_of : {E : Type 0} {A : Acting E} {P : Functions} {f : ℕ} {vs : List Value} {s0 : State} {w : List Action} {s : State} {K : Pending} → Reached A P f vs s0 w s K → (F : Function) × IsFunction P f F
function_of (starts F q) = (F, q)
function_of (performs w s K F a us K1 t u s1 q d is r e) = (F, q)
function_of (comes_back w s K F G n g ts d us o m s1 v q un pr is r e wk b) = (F, q)
function_of (takes_turn s n e r) = function_of r
function_of (gets_unit d F q g u r) = (F, q)
function_of (lets_go t r) = function_of r

same_function : (P : Functions) (g : ℕ) (G H : Function) → IsFunction P g G → IsFunction P g H → G ≡ H
same_function P g G H p q = inner (sym p ∙ q)
  where
    inner : Some (Some G) ≡ Some (Some H) → G ≡ H
    inner e = cc

module _ {E : Type 0} (A : Acting E) (Ok : Ending → Type 0) (P : Functions) (C : ℕ → Subject → Arms → Type 0) (W : Type 0) (J : ℕ → W → Invariant) (laws : Laws A Ok P C W J) where
  given_so : (w : List Action) (a : Action) (s : State) (K1 : Value → Pending) (t : List E) (u : Value) (s1 : State) (f : ℕ) (k : W) (r : Done E) → r ≡ gives t u s1 → Kept Ok (J f k) w a s K1 r → J f k (w ++ a ∷ []) s1 (K1 u)
  given_so w a s K1 t u s1 f k r e h = (subst (λ z. Kept Ok (J f k) w a s K1 z) e h).1

  pub reached_is_kept : {f : ℕ} {vs : List Value} {s0 : State} {w : List Action} {s : State} {K : Pending} → Reached A P f vs s0 w s K → (k : W) → ((F : Function) → IsFunction P f F → J f k [] s0 (arguments F.params vs)) → J f k w s K
  reached_is_kept (starts F q) k h = h F q
  reached_is_kept {f = f} (performs w s K F a us K1 t u s1 q d is r e) k h =
      given_so w a s K1 t u s1 f k (A.perform a us s) e ((laws.steps f F q k).performs w a us s K K1 d is (reached_is_kept r k h))
  reached_is_kept {f = f} (comes_back w s K F G n g ts d us o m s1 v q un pr is r e wk b) k h = back (laws.enters f F k w n g ts d us s K (record { caller = q; fills = un; arguments = pr; begins = is; kept = reached_is_kept r k h }) G e) (λ k' i. reached_is_kept b k' i)
    where
      back : ((k' : W) × J g k' [] (record s { frame = new_frame g }) (arguments G.params us)
          × ((o : List Action) (m : ℕ) (s1 : State) (v : Value) → Walk (order_function G) o (walk.leaves (returns m)) → J g k' o s1 ((None, v) ∷ [])
          → J f k (w ++ does n (Call g ts d) ∷ []) (record s1 { frame = s.frame }) (holds d v K)))
          → ((k' : W) → ((H : Function) → IsFunction P g H → J g k' [] (record s { frame = new_frame g }) (arguments H.params us)) → J g k' o s1 ((None, v) ∷ []))
          → J f k (w ++ does n (Call g ts d) ∷ []) (record s1 { frame = s.frame }) (holds d v K)
      back c go = c.2 o m s1 v wk (go c.0 (λ H x. subst (λ z. J g c.0 [] (record s { frame = new_frame g }) (arguments z.params us)) (same_function P g G H e x) c.1))
  reached_is_kept {f = f} {w = w} {K = K} (takes_turn s n e r) k h = let F = function_of r in (laws.steps f F.0 F.1 k).turns w s n K e (reached_is_kept r k h)
  reached_is_kept {f = f} {w = w} {s = s} (gets_unit {K = K} d F q g u r) k h = (laws.steps f F q k).units w s d K g u (reached_is_kept r k h)
  reached_is_kept {f = f} {w = w} {s = s} (lets_go {K = K} {K' = K'} t r) k h = let F = function_of r in (laws.steps f F.0 F.1 k).drops w s K K' t (reached_is_kept r k h)

  -- each activation of a run has a world, whose invariant holds at its start
  pub active_has_world : {f0 : ℕ} {vs0 : List Value} {s0 : State} {f : ℕ} {vs : List Value} {s : State} → Active A P f0 vs0 s0 f vs s → (k0 : W) → ((F : Function) → IsFunction P f0 F → J f0 k0 [] s0 (arguments F.params vs0))
      → (k : W) × ((F : Function) → IsFunction P f F → J f k [] s (arguments F.params vs))
  active_has_world first k0 h = (k0, h)
  active_has_world (called f vs s1 w s K F G n g ts d us act q un pr is r e) k0 h = of_call (active_has_world act k0 h)
    where
      of_call : ((k : W) × ((H : Function) → IsFunction P f H → J f k [] s1 (arguments H.params vs))) → (k : W) × ((H : Function) → IsFunction P g H → J g k [] (record s { frame = new_frame g }) (arguments H.params us))
      of_call i = entry (laws.enters f F i.0 w n g ts d us s K (record { caller = q; fills = un; arguments = pr; begins = is; kept = reached_is_kept r i.0 i.1 }) G e)
        where
          entry : ((k : W) × J g k [] (record s { frame = new_frame g }) (arguments G.params us)
              × ((o : List Action) (m : ℕ) (s2 : State) (v : Value) → Walk (order_function G) o (walk.leaves (returns m)) → J g k o s2 ((None, v) ∷ []) → J f i.0 (w ++ does n (Call g ts d) ∷ []) (record s2 { frame = s.frame }) (holds d v K)))
              → (k : W) × ((H : Function) → IsFunction P g H → J g k [] (record s { frame = new_frame g }) (arguments H.params us))
          entry c = (c.0, λ H x. subst (λ z. J g c.0 [] (record s { frame = new_frame g }) (arguments z.params us)) (same_function P g G H e x) c.1)
