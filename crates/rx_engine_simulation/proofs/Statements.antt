-- Statements beside the call that stands in their place: the text goes on in its frame, the answer enters one of its own, and goes on in
-- its caller's with what is handed back.
use Rattle.std.proofs.Common.{◌≡◌, ℕ, zero, suc, ◌+◌, ◌≤◌, Bool, List, [], Some, refl, sym, ap, ◌∙◌, subst, arith, inr}
use Rattle.rx_typed.specs.Tree as tree
use Rattle.rx_typed.specs.Tree.{Mark, Exp, Operands, Body, Temporary, mark_of, temporary_of}
use Rattle.rx_lower_walks.specs.Actions.{Action}
use Rattle.rx_lower_walks.specs.Orders.{order_body}
use Rattle.rx_meaning.specs.Values.{Value, element, State, with_turns}
use Rattle.rx_meaning.specs.Results.{Result, stops, bind}
use Rattle.rx_meaning.specs.Endings.{missing_reference, wrong}
use Rattle.rx_meaning.specs.Acting.{plainly}
use Rattle.rx_meaning.specs.Expressions.{Functions, take_turn, entered, activation, with_arguments, value, values, body, below_level}
use Rattle.rx_meaning.proofs.Sequences.{bind_bind}
use Rattle.rx_engine_simulation.specs.Passing.{New, AreShut, Passing, Local, Absents, Covers}
use Rattle.rx_engine_simulation.specs.Arrivals.{Specials}
use Rattle.rx_engine_simulation.specs.Packing.{Way}
use Rattle.rx_engine_simulation.specs.Units.{UnitFunctions}
use Rattle.rx_engine_simulation.specs.Variants.{leaving}
use Rattle.rx_engine_simulation.specs.Histories.{put}
use Rattle.rx_engine_simulation.specs.Blocks.{Stretch, before, with_locals, Through}
use Rattle.rx_engine_simulation.specs.Stretches.{LikeStretch}
use Rattle.rx_engine_simulation.specs.Temporaries.{IsPlaced}
use Rattle.rx_engine_simulation.specs.Endings.{Last, a_tail, with_last, aim_of, LikeEnd}
use Rattle.rx_engine_simulation.specs.Statements.{body_of, enters, Calling, Handing, count, StatementsBecomeCall, statements_become_call}
use Rattle.rx_engine_simulation.proofs.Told.{Told, followed}
use Rattle.rx_engine_simulation.proofs.Values.{Pair, In, Given}
use Rattle.rx_engine_simulation.proofs.States.{Direction, Allowance, MayStray, gain, Turns, weaken, EntryCase, cut_off, extra, entry_case, special, Sight, sight, Renaming, sight_of, Facts, Frozen, StatesAlike, grown_refl}
use Rattle.rx_engine_simulation.proofs.Results.{Jumping, answer_cut, DoAlike}
use Rattle.rx_engine_simulation.proofs.Parts.{Ready}
use Rattle.rx_engine_simulation.proofs.Calls.{in_item}
use Rattle.rx_engine_simulation.proofs.Entry.{IsCold, Zt, Za, Going, begins}
use Rattle.rx_engine_simulation.proofs.Given.{Passed, Tries, passes, strays, pass_all, absent_all}
use Rattle.rx_engine_simulation.proofs.Congruence.{CallsUpTo, level_alike}
use Rattle.rx_engine_simulation.proofs.Contexts.{Inside, AllExits}
use Rattle.rx_engine_simulation.proofs.Stretches.{stretch_extends, stretch_inside}
use Rattle.rx_engine_simulation.proofs.Locals.{call_is, call_strays, turned_out, turned_on, called_back, back_context, stops_bind, local_all}
use Rattle.rx_engine_simulation.proofs.Variants.{leaving_alike}
use Rattle.rx_engine_simulation.proofs.Landing.{opened, called_to, calling_is, all_exits}
use Rattle.rx_engine_simulation.proofs.Handed.{used_in, temp_in, handing_is}
use Rattle.rx_engine_simulation.proofs.Ends.{ends_alike}

specials_on : {items : ℕ → ℕ} {i : Allowance} {U : List ℕ} {V : Facts} {J : Jumping} {Ra Rb : Renaming} {r r' : Stretch} (R : Renaming) → Specials R Ra → LikeStretch items i U V J Ra r r' Rb → Specials R Rb
specials_on R moved inside x y seen = let a = moved x y seen in (a.0, stretch_extends inside x (sight a.0 special) a.1)

module _ (items : ℕ → ℕ) (P Q : Functions) (d : Direction) (N : New) (stands : element Q N.number ≡ Some (Some N.function)) (U : List ℕ) (units : UnitFunctions P U) where
  module _ (V : Facts) (J Ji : Jumping) (R Rp Rl Ra Rb : Renaming) (Z Z' : Frozen) (cold : List ℕ) (r r' : Stretch) (behind end : Body) (es : Operands) (mb : Mark) (ls : List (ℕ × ℕ)) (is : N.function.body ≡ body_of mb ls r' end) (is_cold : AreShut R cold) (absents : Absents Rl Ra)
      (covers : Covers R Ra) (moved : Specials R Ra) (inside : LikeStretch items (gain d) U V Ji Ra r r' Rb) (m c c1 : ℕ) (i : ℕ) (t0 : Temporary) (passing : Passing (gain d).strays V R (order_body (before r behind) i t0) (λ x. In x cold) [] es N.function.params Rp) (local : Local V R (order_body (before r behind) i t0) (λ x. In x cold) Rp ls Rl)
      (h : List Action) (at : V.Comes (order_body (before r behind) i t0) h) (j : List Pair) (s s' : State) (inv : StatesAlike V R Z Z' h j s s') (known : (x i : ℕ) → Z.anchored x i → (e : Sight) × (sight_of R x ≡ Some e)) (low : s.turns ≤ m) where
    abbrev chilled : (x : ℕ) → In x cold → IsCold R x
    chilled x k = ((is_cold x k).0, inr (is_cold x k).1)

    abbrev Zs : Frozen
    Zs = Zt V R Z Z' (λ x. In x cold) h j s s' inv chilled

    abbrev tb : Temporary
    tb = temporary_of N.function.body

    abbrev entry : ℕ → State
    entry u = in_item (with_turns s' u) N.number

    abbrev text_does : Result (Told ℕ) Value
    text_does = body followed P (below_level followed P m) (before r behind) i t0 s

    abbrev Tried : ℕ → ℕ → Type 1
    Tried n u = Tries Q (below_level plainly Q n) V (order_body (before r behind) i t0) R Z Z' (λ x. In x cold) h at j s s' inv chilled (gain d).strays Rp es N.function.params (entry u)

    abbrev Admitted : ℕ → ℕ → Type 1
    Admitted n u = Passed Q (below_level plainly Q n) V (order_body (before r behind) i t0) R Z Z' (λ x. In x cold) h at j s s' inv chilled Rp es N.function.params (entry u)

    passed_at : (n u : ℕ) → Tried n u
    passed_at n u =
        pass_all Q (below_level plainly Q n) V (order_body (before r behind) i t0) R Z Z' (λ x. In x cold) h at j s s' inv chilled passing (Za V R Z Z' (λ x. In x cold) h j s s' inv chilled) (entry u)
        (begins V R Z Z' (λ x. In x cold) h j s s' inv chilled N.number u)

    -- the text has walked through the statements
    abbrev HasPassed : List Action → Type 0
    HasPassed h1 = (w : List Action) × Through r w × (h1 ≡ put w h)

    -- what the new function's end leads to
    abbrev Ends : (Value → State → Result ℕ Value) → ℕ → Type 1
    Ends hand n = (Zf : Frozen) (sf : State) → Going V R Z Z' (λ x. In x cold) h j s s' inv chilled Ra Zf sf → sf.turns ≤ s'.turns → (n1 : ℕ) → n1 ≤ n
        → Inside V d R Z Z' J c j s s' (called_back s'.frame hand) (back_context s'.frame hand) Zs Zf Ji c1 m n1 j s sf Rb (λ h1. V.Comes (order_body behind i t0) h1 × HasPassed h1) (λ s. body followed P (below_level followed P m) behind i t0 s) (λ s. body plainly Q (below_level plainly Q n1) end mb.node tb s)

    -- and its jumps
    abbrev Outs : (Value → State → Result ℕ Value) → ℕ → Type 1
    Outs hand n = (Zf : Frozen) (sf : State) → Going V R Z Z' (λ x. In x cold) h j s s' inv chilled Ra Zf sf → sf.turns ≤ s'.turns → (n1 : ℕ) → n1 ≤ n → AllExits V d R Z Z' J c j s s' (called_back s'.frame hand) (back_context s'.frame hand) Zs Zf Ji c1 m n1 j s sf

    activation_is : (n0 : ℕ) (given : List Value) (sa at_end sf : State) → ((k : ℕ) (go : State → Result ℕ Value) → with_arguments plainly N.function.params k given go sa ≡ go at_end)
        → ((b : Body) (i : ℕ) (t : Temporary) → body plainly Q (below_level plainly Q n0) (with_locals ls b) i t at_end ≡ body plainly Q (below_level plainly Q n0) b i t sf)
        → activation plainly (below_level plainly Q (suc n0)) N.function given sa ≡ body plainly Q (below_level plainly Q n0) (before r' end) mb.node tb sf
    unfolding below_level value
    activation_is n0 given sa at_end sf e f =
        e (mark_of N.function.body).node (λ s1. below_level plainly Q (suc n0) N.function.body tb s1)
        ∙ ap (λ (b : Exp). value plainly Q (below_level plainly Q n0) b tb at_end) is
        ∙ f (before r' end) mb.node tb

    -- its activation, from the turn of the call
    level_entered : (n0 u : ℕ) (p : Admitted (suc n0) u) → suc u ≡ s'.turns → s'.turns ≤ suc n0 → CallsUpTo items P Q d (suc n0) → Turns d c1 s.turns u → (hand : Value → State → Result ℕ Value) → Ends hand (suc n0) → Outs hand (suc n0)
        → DoAlike V d R Z Z' J Given c h j s s' text_does (bind (entered plainly (below_level plainly Q (suc n0)) N.number N.function p.given (with_turns s' u)) hand)
    level_entered n0 u p eu low' calls k hand ends outs =
        let l = local_all Q (below_level plainly Q n0) V (order_body (before r behind) i t0) R Z Z' (λ x. In x cold) h at j s s' inv chilled local p.frozen p.at_end p.going in
        let going = absent_all Q (below_level plainly Q n0) V (order_body (before r behind) i t0) R Z Z' (λ x. In x cold) h at j s s' inv chilled absents p.frozen l.at_end l.going in
        let same_turns : l.at_end.turns ≡ u = l.turns ∙ p.turns in
        subst (λ q. DoAlike V d R Z Z' J Given c h j s s' text_does (called_back s'.frame hand q)) (sym (activation_is n0 p.given (entry u) p.at_end l.at_end p.entered l.is))
        (stretch_inside items U P Q V d R Z Z' J c j s s' (called_back s'.frame hand) (back_context s'.frame hand) Zs p.frozen c1 m n0 j s l.at_end Ji
        (λ Ri e e' x t t' h j s s' ready at. (level_alike items P Q d (leaving U) (leaving_alike items P Q d U units) n0 (λ i le. calls i (omega arith))).exp_all V m 0 c1 Ji Ri Zs p.frozen e e' x t t' h j s s' ready at)
        inside moved behind end i mb.node t0 tb HasPassed (outs p.frozen l.at_end going (omega (arith, same_turns, eu)) n0 (omega arith))
        (ends p.frozen l.at_end going (omega (arith, same_turns, eu)) n0 (omega arith))
        h j s l.at_end (record {
          inv = going.states_now;
          turns = subst (λ u. Turns d c1 s.turns u) (sym same_turns) k;
          low = low;
          low' = omega (arith, same_turns, eu, low');
          known = λ x i a. covers x a.0 a.1;
        }) (grown_refl j s l.at_end) (at, λ w th. (w, th, refl)))

    level : (n u : ℕ) (p : Admitted n u) → suc u ≡ s'.turns → s'.turns ≤ n → CallsUpTo items P Q d n → Turns d c1 s.turns u → (hand : Value → State → Result ℕ Value) → Ends hand n → Outs hand n
        → DoAlike V d R Z Z' J Given c h j s s' text_does (bind (entered plainly (below_level plainly Q n) N.number N.function p.given (with_turns s' u)) hand)
    level zero u p eu low' calls k hand ends outs = absurd (omega (arith, low', eu))
    level (suc n0) u p eu low' calls k hand ends outs = level_entered n0 u p eu low' calls k hand ends outs

    call_by : (n : ℕ) (mc : Mark) (t : Temporary) (u : ℕ) (p : Admitted n u) → value plainly Q (below_level plainly Q n) (tree.call mc N.number es) t s' ≡ take_turn s' (λ s3. entered plainly (below_level plainly Q n) N.number N.function p.given s3)
    call_by n mc t u p = call_is Q (below_level plainly Q n) mc N.number N.function es p.given t s' stands p.arguments

    -- what is asked again for a reference is none
    strayed : (n : ℕ) (mc : Mark) (tc : Temporary) (hand : Value → State → Result ℕ Value) → MayStray d → values plainly Q (below_level plainly Q n) es s' ≡ stops [] (wrong missing_reference)
        → DoAlike V d R Z Z' J Given c h j s s' text_does (bind (value plainly Q (below_level plainly Q n) (tree.call mc N.number es) tc s') hand)
    unfolding bind
    strayed n mc tc hand can f = subst (λ q. DoAlike V d R Z Z' J Given c h j s s' text_does (bind q hand)) (sym (call_strays Q (below_level plainly Q n) mc N.number es tc s' missing_reference f)) (λ good. answer_cut can (_, refl))

    cases : (n : ℕ) (mc : Mark) (tc : Temporary) → s'.turns ≤ n → CallsUpTo items P Q d n → (hand : Value → State → Result ℕ Value) → Ends hand n → Outs hand n → (v : ℕ) → v ≡ s'.turns → EntryCase d c1 s.turns v
        → DoAlike V d R Z Z' J Given c h j s s' text_does (bind (value plainly Q (below_level plainly Q n) (tree.call mc N.number es) tc s') hand)
    cases n mc tc low' calls hand ends outs v ev (cut_off a) = by (passed_at n zero)
      where
        by : Tried n zero → DoAlike V d R Z Z' J Given c h j s s' text_does (bind (value plainly Q (below_level plainly Q n) (tree.call mc N.number es) tc s') hand)
        by (passes p) = subst (λ q. DoAlike V d R Z Z' J Given c h j s s' text_does q) (sym (ap (λ r. bind r hand) (call_by n mc tc zero p ∙ turned_out s' ev (λ s3. entered plainly (below_level plainly Q n) N.number N.function p.given s3)) ∙ stops_bind hand)) (λ good. answer_cut a (_, refl))
        by (strays can f) = strayed n mc tc hand can f
    cases n mc tc low' calls hand ends outs v ev (extra {t' = u} k) = by (passed_at n u)
      where
        by : Tried n u → DoAlike V d R Z Z' J Given c h j s s' text_does (bind (value plainly Q (below_level plainly Q n) (tree.call mc N.number es) tc s') hand)
        by (passes p) = subst (λ q. DoAlike V d R Z Z' J Given c h j s s' text_does (bind q hand)) (sym (call_by n mc tc u p ∙ turned_on s' u ev (λ s3. entered plainly (below_level plainly Q n) N.number N.function p.given s3))) (level n u p ev low' calls k hand ends outs)
        by (strays can f) = strayed n mc tc hand can f

  module _ (V : Facts) (J : Jumping) (R Rp Rl Ra Rb Rn : Renaming) (Z Z' : Frozen) (cold : List ℕ) (r r' : Stretch) (la : Last) (rest end : Body) (es : Operands) (mb : Mark) (ls : List (ℕ × ℕ)) (is_cold : AreShut R cold) (absents : Absents Rl Ra)
      (covers : Covers R Ra) (moved : Specials R Ra) (m c c1 : ℕ) (i : ℕ) (t0 : Temporary) (passing : Passing (gain d).strays V R (order_body (before r (with_last la rest)) i t0) (λ x. In x cold) [] es N.function.params Rp) (local : Local V R (order_body (before r (with_last la rest)) i t0) (λ x. In x cold) Rp ls Rl)
      (h : List Action) (at : V.Comes (order_body (before r (with_last la rest)) i t0) h) (j : List Pair) (s s' : State) (inv : StatesAlike V R Z Z' h j s s') (known : (x i : ℕ) → Z.anchored x i → (e : Sight) × (sight_of R x ≡ Some e)) (low : s.turns ≤ m) (more : c ≤ c1) where
    abbrev cold_is : (x : ℕ) → In x cold → IsCold R x
    cold_is x k = ((is_cold x k).0, inr (is_cold x k).1)

    handed_on : (n : ℕ) (mc : Mark) {Ji : Jumping} {has : Bool} {w : Way} {xs : List ℕ} {called : Exp} {f' : Body → Body} → LikeStretch items (gain d) U V Ji Ra r r' Rb → N.function.body ≡ body_of mb ls r' end → LikeEnd items (gain d) U V Ji Rb (aim_of la (before r (with_last la rest)) r) la has w xs end
        → ((e : Exp) → la ≡ a_tail e → IsPlaced V (before r (with_last la rest)) e)
        → (C : Calling V J R (before r (with_last la rest)) (tree.call mc N.number es) Ji w (count has xs) called) → (H : Handing V J R Rb (before r (with_last la rest)) (aim_of la (before r (with_last la rest)) r) called la has w xs Rn f') → s'.turns ≤ n → CallsUpTo items P Q d n → (v : ℕ) → v ≡ s'.turns → EntryCase d c1 s.turns v
        → (rest' : Body) (i' : ℕ) (t0' : Temporary)
        → ((h : List Action) (j : List Pair) (s s' : State) → Ready V d Rn Z Z' c1 m n h j s s' → V.Comes (order_body rest i t0) h → DoAlike V d Rn Z Z' J Given c h j s s' (body followed P (below_level followed P m) rest i t0 s) (body plainly Q (below_level plainly Q n) rest' i' t0' s'))
        → DoAlike V d R Z Z' J Given c h j s s' (body followed P (below_level followed P m) (before r (with_last la rest)) i t0 s) (body plainly Q (below_level plainly Q n) (f' rest') i' t0' s')
    handed_on n mc {Ji} {called = called} inside is like first C H low' calls v ev k rest' i' t0' go =
        let call = tree.call mc N.number es in
        let dt = temp_in Q (below_level plainly Q n) H t0' in
        let f : Value → State → Result ℕ Value = λ u s1. used_in Q (below_level plainly Q n) H (temporary_of called) rest' i' t0' u s1 in
        subst (λ q. DoAlike V d R Z Z' J Given c h j s s' (body followed P (below_level followed P m) (before r (with_last la rest)) i t0 s) q)
        (sym (handing_is Q (below_level plainly Q n) H rest' i' t0' s' ∙ ap (λ r. bind r f) (calling_is Q (below_level plainly Q n) C dt s') ∙ bind_bind (value plainly Q (below_level plainly Q n) call (called_to C dt) s') _ _))
        (cases V J Ji R Rp Rl Ra Rb Z Z' cold r r' (with_last la rest) end es mb ls is is_cold absents covers moved inside m c c1 i t0 passing local h at j s s' inv known low n mc (called_to C dt) low' calls (λ u s1. bind (opened Q (below_level plainly Q n) C (temporary_of call) dt u s1) f)
        (λ Zf sf going fewer n1 le. ends_alike items U P Q units V d R Z Z' J (λ x. In x cold) h j s s' inv cold_is known Ra Zf sf going fewer c c1 m n n1 more le (before r (with_last la rest)) (λ x u b. u i t0 h at b) r rest rest' i i' mb.node t0 t0' (temporary_of N.function.body) at Ji Rb Rn (specials_on R moved inside)
        (λ Ri e e' x t t' h1 j1 u u' ready at1. (level_alike items P Q d (leaving U) (leaving_alike items P Q d U units) n1 (λ i le1. calls i (omega arith))).exp_all V m 0 c1 Ji Ri (Zt V R Z Z' (λ x. In x cold) h j s s' inv cold_is) Zf e e' x t t' h1 j1 u u' ready at1)
        like C dt H first go)
        (λ Zf sf going fewer n1 le. all_exits P Q V d R Z Z' J (λ x. In x cold) h j s s' inv cold_is known Ra Zf sf going fewer c c1 m n n1 more le (before r (with_last la rest)) (λ x u b. u i t0 h at b) C dt f)
        v ev k)

  pub statements_alike : (n : ℕ) → CallsUpTo items P Q d n → {V : Facts} {a : ℕ} {J : Jumping} {R Rn : Renaming} {e : Body} {f f' : Body → Body} → StatementsBecomeCall items (gain d) U N V a J R Rn e f f' → (Z Z' : Frozen) (m b c : ℕ) → c ≤ b → (e' : Body) (i i' : ℕ) (t t' : Temporary)
      → ((h : List Action) (j : List Pair) (s s' : State) → Ready V d Rn Z Z' b m n h j s s' → V.Comes (order_body e i t) h → DoAlike V d Rn Z Z' J Given c h j s s' (body followed P (below_level followed P m) e i t s) (body plainly Q (below_level plainly Q n) e' i' t' s'))
      → (h : List Action) (j : List Pair) (s s' : State) → Ready V d R Z Z' (a + b) m n h j s s' → V.Comes (order_body (f e) i t) h → DoAlike V d R Z Z' J Given c h j s s' (body followed P (below_level followed P m) (f e) i t s) (body plainly Q (below_level plainly Q n) (f' e') i' t' s')
  statements_alike n calls {V} {a} {J} {R} {Rn} (statements_become_call {r = r} {r' = r'} {l = la} {rest = rest} {end = end} {es = es} {mc = mc} Ra Rb mb ls is (enters cold Rp Rl are_shut passing local absents covers moved) inside like first C H) Z Z' m b c le e' i i' t t' go h j s s' ready at =
      handed_on V J R Rp Rl Ra Rb Rn Z Z' cold r r' la rest end es mb ls are_shut absents covers moved m c b i t (passing i t) (local i t) h at j s s' ready.inv ready.known ready.low le n mc inside is like first C H ready.low' calls s'.turns refl
      (entry_case d b s.turns s'.turns (weaken d (1 + b) (suc b) _ _ (omega arith) ready.turns)) e' i' t' go
