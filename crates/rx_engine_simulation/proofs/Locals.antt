-- What the new function's activation leads to: the parts of a call compute to it, it has its own variables without a value, and the
-- caller goes on with what it gives.
use Rattle.std.proofs.Common.{◌≡◌, ℕ, zero, suc, List, [], ◌∷◌, Some, refl, sym, ap, ◌∙◌, subst}
use Rattle.rx_typed.specs.Tree as tree
use Rattle.rx_typed.specs.Tree.{Mark, Exp, Operands, Body, Function, Temporary, temporary_of, temporaries_of}
use Rattle.rx_lower_walks.specs.Actions.{Action, Call, Give, at_mark}
use Rattle.rx_lower_walks.specs.Orders.{Order, breaks, continues, returns, order}
use Rattle.rx_meaning.specs.Endings.{Cause, running, wrong}
use Rattle.rx_meaning.specs.Values.{Value, lacking, unset, element, Frame, State, with_turns}
use Rattle.rx_meaning.specs.Results.{Result, on, jumps, stops, after, bind, result_of}
use Rattle.rx_meaning.specs.Acting.{performed, plainly}
use Rattle.rx_meaning.specs.Patterns.{begun, closed}
use Rattle.rx_meaning.specs.Expressions.{Functions, Meaning, found, turn_at, take_turn, returned, entered, value, values, body, below_level}
use Rattle.rx_meaning.proofs.Sequences.{after_nothing, bind_after, closed_is}
use Rattle.rx_meaning.proofs.Fronts.{front_bind, told_returned}
use Rattle.rx_engine_simulation.proofs.Positions.{walked, value_walk_to}
use Rattle.rx_engine_simulation.proofs.Told.{Told, followed, onto}
use Rattle.rx_engine_simulation.specs.Passing.{Local, no_local, local_and}
use Rattle.rx_engine_simulation.specs.Arrivals.{Specials}
use Rattle.rx_engine_simulation.specs.Blocks.{with_locals}
use Rattle.rx_engine_simulation.specs.Statements.{Elsewhere, none_elsewhere, moved_in}
use Rattle.rx_engine_simulation.proofs.Values.{Pair}
use Rattle.rx_engine_simulation.proofs.States.{Facts, special, sight, Renaming, Frozen, IsSpecial, StatesAlike, Living, sight_of}
use Rattle.rx_engine_simulation.proofs.Parts.{declare_answer}
use Rattle.rx_engine_simulation.proofs.Entry.{with_value, IsCold, Going, pass_special}
use Rattle.rx_engine_simulation.proofs.Contexts.{Context}

-- ---- what the parts of a call compute to

pub call_is : (Q : Functions) (low : Meaning ℕ) (m : Mark) (f : ℕ) (g : Function) (es : Operands) (vs : List Value) (t : Temporary) (s : State) → element Q f ≡ Some (Some g) → values plainly Q low es s ≡ on [] vs s
    → value plainly Q low (tree.call m f es) t s ≡ take_turn s (λ s3. entered plainly low f g vs s3)
unfolding value bind result_of
call_is Q low m f g es vs t s e h =
    ap (λ r. bind r (λ vs s1. bind (performed plainly (at_mark m (Call f (temporaries_of es) t)) vs s1) (λ u s2. found (element Q f) (λ g. take_turn s2 (λ s3. entered plainly low f g vs s3))))) h
    ∙ after_nothing _ ∙ after_nothing _ ∙ ap (λ o. found o (λ g. take_turn s (λ s3. entered plainly low f g vs s3))) e

-- where an operand ends the run
pub call_strays : (Q : Functions) (low : Meaning ℕ) (m : Mark) (f : ℕ) (es : Operands) (t : Temporary) (s : State) (c : Cause) → values plainly Q low es s ≡ stops [] (wrong c) → value plainly Q low (tree.call m f es) t s ≡ stops [] (wrong c)
unfolding value bind
call_strays Q low m f es t s c h = ap (λ r. bind r (λ vs s1. bind (performed plainly (at_mark m (Call f (temporaries_of es) t)) vs s1) (λ u s2. found (element Q f) (λ g. take_turn s2 (λ s3. entered plainly low f g vs s3))))) h

pub turned_out : (s : State) → zero ≡ s.turns → (go : State → Result ℕ Value) → take_turn s go ≡ stops [] running
unfolding take_turn
turned_out s e go = ap (λ n. turn_at n s go) (sym e)

pub turned_on : (s : State) (u : ℕ) → suc u ≡ s.turns → (go : State → Result ℕ Value) → take_turn s go ≡ go (with_turns s u)
unfolding take_turn
turned_on s u e go = ap (λ n. turn_at n s go) (sym e)

pub give_is : (Q : Functions) (low : Meaning ℕ) (m : Mark) (e : Exp) (t : Temporary) (v : Value) (s : State) → value plainly Q low e (temporary_of e) s ≡ on [] v s → value plainly Q low (tree.give m e) t s ≡ jumps [] (returns m.node) v s
unfolding value bind result_of
give_is Q low m e t v s h =
    ap (λ r. bind r (λ v s1. bind (performed plainly (at_mark m (Give (temporary_of e))) (v ∷ []) s1) (λ w s2. jumps [] (returns m.node) w s2))) h ∙ after_nothing _ ∙ after_nothing _

-- ---- the call as a context

returned_after : (F : Frame) (w : List ℕ) (r : Result ℕ Value) → returned plainly F (after w r) ≡ after w (returned plainly F r)
unfolding returned after
returned_after F w (on v a s) = refl
returned_after F w (jumps v (breaks n l) a s) = refl
returned_after F w (jumps v (continues n l) a s) = refl
returned_after F w (jumps v (returns n) a s) = refl
returned_after F w (stops v e) = refl

-- the new function's activation goes back to the caller, which goes on with what it gives
abbrev pub called_back : Frame → (Value → State → Result ℕ Value) → Result ℕ Value → Result ℕ Value
called_back F hand r = bind (returned plainly F r) hand

pub back_context : (F : Frame) (hand : Value → State → Result ℕ Value) → Context (called_back F hand)
unfolding bind returned
back_context F hand = record {
  behind = λ w r. ap (λ r. bind r hand) (returned_after F w r) ∙ bind_after w (returned plainly F r) hand;
  ended = λ w e. refl;
  front = λ o r f. front_bind o (returned plainly F r) hand (f.0, told_returned plainly F r ∙ f.1);
}

pub back_is : (F : Frame) (hand : Value → State → Result ℕ Value) (n : ℕ) (v : Value) (s : State) → called_back F hand (jumps [] (returns n) v s) ≡ after [] (hand v (record s { frame = F }))
unfolding returned bind
back_is F hand n v s = refl

pub stops_bind : (hand : Value → State → Result ℕ Value) → bind (stops [] running) hand ≡ stops [] running
unfolding bind
stops_bind hand = refl

-- ---- what is elsewhere in the answer

pub all_moved : {V : Facts} {R Ra : Renaming} {e : Exp} → Elsewhere V R Ra e → Specials R Ra
all_moved (none_elsewhere none) x y seen = absurd (none x y seen)
all_moved (moved_in moved to dead) x y seen = moved x y seen

pub all_dead : {V : Facts} {R Ra : Renaming} {e : Exp} (P : Functions) (m : ℕ) (t : Temporary) (h : List Action) (s : State) → V.Comes (order e t) h → Elsewhere V R Ra e → (o : List (Told ℕ)) (v : Value) (t1 : State) → value followed P (below_level followed P m) e t s ≡ on o v t1
    → (x y : ℕ) → sight_of R x ≡ Some (sight y special) → Living V x (onto o h) → ⊥
all_dead P m t h s at (none_elsewhere none) o v t1 same x y seen l = none x y seen
all_dead {V} {R} {Ra} {e} P m t h s at (moved_in moved to dead) o v t1 same x y seen l =
    let k = walked (order e t) h o (value followed P (below_level followed P m) e t s) v t1 same (value_walk_to P m e t s (to t h at)) in
    dead t h k.0 at k.2 x y seen (subst (λ h1. Living V x h1) k.1 l)

-- ---- variables without a value

pub one_local : (n z i : ℕ) (go : State → Result ℕ Value) (s : State) → begun plainly n (z ∷ []) i go s ≡ go (with_value z (lacking unset) s)
unfolding begun
one_local n z i go s = declare_answer n z s (λ u s1. closed plainly i z (begun plainly n [] i go s1)) ∙ after_nothing _ ∙ closed_is i z _

module _ (Q : Functions) (low : Meaning ℕ) (V : Facts) (part : Order) (R : Renaming) (Z Z' : Frozen) (Cold : ℕ → Type 0) (h : List Action) (at : V.Comes part h) (j : List Pair) (s s' : State) (inv : StatesAlike V R Z Z' h j s s') (cold : (x : ℕ) → Cold x → IsCold R x) where
  pub record Localled (Rf : Renaming) (Zp : Frozen) (ls : List (ℕ × ℕ)) (sa : State) : Type 0 where
    pub at_end : State
    pub going : Going V R Z Z' Cold h j s s' inv cold Rf Zp at_end
    pub is : (b : Body) (i : ℕ) (t : Temporary) → body plainly Q low (with_locals ls b) i t sa ≡ body plainly Q low b i t at_end
    pub turns : at_end.turns ≡ sa.turns

  pub local_all : {Rp Rf : Renaming} {ls : List (ℕ × ℕ)} → Local V R part Cold Rp ls Rf → (Zp : Frozen) (sa : State) → Going V R Z Z' Cold h j s s' inv cold Rp Zp sa → Localled Rf Zp ls sa
  unfolding value
  local_all no_local Zp sa going = record { at_end = sa; going = going; is = λ b i t. refl; turns = refl }
  local_all {Rp} (local_and {x = x} {y = y} {z = z} {n = n} {ls = ls} seen warm dead none unused l) Zp sa going =
      let b : IsSpecial V Z Z' h j s.frame s'.frame s.memory s'.memory x y = inv.binds x (sight y special) seen in
      let rest = local_all l Zp (with_value z (lacking unset) sa) (pass_special V R Z Z' Cold h j s s' inv cold Rp Zp sa going x z (lacking unset) unused none y seen warm b (λ k. absurd (dead h at k))) in
      record { at_end = rest.at_end; going = rest.going; is = λ b i t. one_local n z i (λ s1. body plainly Q low (with_locals ls b) i t s1) sa ∙ rest.is b i t; turns = rest.turns }
