-- An expression beside the call that stands in its place: the text stays in its frame, the answer enters one of its own, with what it
-- is given, and leaves it with the value; what both states keep is the same in both frames but for variables.
use Rattle.std.proofs.Common.{◌≡◌, ℕ, zero, suc, ◌+◌, ◌*◌, ◌≤◌, List, [], ◌∷◌, Some, None, refl, sym, ap, ◌∙◌, subst, arith, inr, ℤ}
use Rattle.std.proofs.lemmas.List.{append-nil}
use Rattle.rx_typed.specs.Tree as tree
use Rattle.rx_typed.specs.Tree.{Mark, Exp, Operands, Function, Temporary, mark_of, temporary_of, temporaries_of}
use Rattle.rx_lower_walks.specs.Actions.{Action, Give, at_mark}
use Rattle.rx_lower_walks.specs.Orders.{order, returns}
use Rattle.rx_meaning.specs.Endings.{missing_reference}
use Rattle.rx_meaning.specs.Values.{Value, element, State, with_turns}
use Rattle.rx_meaning.specs.Results.{Result, jumps, after, bind, result_of, on}
use Rattle.rx_meaning.specs.Acting.{performed, plainly}
use Rattle.rx_meaning.specs.Expressions.{Functions, take_turn, returned, with_arguments, activation, entered, value, below_level}
use Rattle.rx_meaning.specs.Programs.{Program, run, UpTo}
use Rattle.rx_meaning.proofs.Fronts.{front_bind, told_returned}
use Rattle.rx_engine_simulation.specs.Arrivals.{Specials}
use Rattle.rx_engine_simulation.specs.Statements.{Elsewhere}
use Rattle.rx_engine_simulation.specs.Units.{UnitFunctions}
use Rattle.rx_engine_simulation.specs.Openings.{no_openings}
use Rattle.rx_engine_simulation.specs.Like.{LikeExp}
use Rattle.rx_engine_simulation.specs.Passing.{New, Passing, Absents, inner_jumps, Covers}
use Rattle.rx_engine_simulation.specs.Called.{body_giving, BecomesCall, becomes_call, calls_of, a_turn, WithCall}
use Rattle.rx_engine_simulation.proofs.Locals.{call_is, call_strays, turned_out, turned_on, all_moved, all_dead}
use Rattle.rx_engine_simulation.proofs.Statements.{statements_alike}
use Rattle.rx_engine_simulation.proofs.Told.{Told, said, followed, onto}
use Rattle.rx_engine_simulation.proofs.Values.{In, Pair, Given, shut}
use Rattle.rx_engine_simulation.proofs.States.{Direction, shorter, longer, gain, Turns, weaken, EntryCase, cut_off, extra, entry_case, plain, special, Sight, sight, Renaming, sight_of, Facts, Frozen, StatesAlike, Living}
use Rattle.rx_engine_simulation.proofs.Results.{Jumping, Reached, stays_break, stays_continue, gives_back, packs_break, packs_continue, packs_value, packs_unit, ResultsAlike, both_on, both_jump, both_stop, text_cut, answer_cut, DoAlike}
use Rattle.rx_engine_simulation.proofs.Parts.{Ready}
use Rattle.rx_engine_simulation.proofs.Calls.{in_item, in_frame}
use Rattle.rx_engine_simulation.proofs.Entry.{IsCold, Zt, Za, Going, begins}
use Rattle.rx_engine_simulation.proofs.Given.{Passed, Tries, passes, strays, pass_all, absent_all}
use Rattle.rx_engine_simulation.proofs.Leaving.{states_leave, grown_leave}
use Rattle.rx_engine_simulation.proofs.Congruence.{CallsUpTo, OpensAlike, nothing_opens, level_alike}
use Rattle.rx_engine_simulation.proofs.Whole.{answer_up_to_text, text_up_to_answer}
use Rattle.rx_engine_simulation.specs.Astray.{OrAstray}

none_some : {A : Type 0} {a : A} → None ≡ Some a → ⊥
none_some e = cc

-- what the new function's body does with its value
abbrev given_back : Mark → Temporary → Result ℕ Value → Result ℕ Value
given_back mg tg r = bind r (λ v s1. bind (performed plainly (at_mark mg (Give tg)) (v ∷ []) s1) (λ w s2. jumps [] (returns mg.node) w s2))

activation_is : (Q : Functions) (n0 : ℕ) (g : Function) (mb mg : Mark) (e : Exp) (given : List Value) (sa at_end : State) → g.body ≡ body_giving mb mg e → ((k : ℕ) (go : State → Result ℕ Value) → with_arguments plainly g.params k given go sa ≡ go at_end)
    → activation plainly (below_level plainly Q (suc n0)) g given sa ≡ given_back mg (temporary_of e) (value plainly Q (below_level plainly Q n0) e (temporary_of e) at_end)
unfolding below_level value
activation_is Q n0 g mb mg e given sa at_end is h =
    h (mark_of g.body).node (λ s1. below_level plainly Q (suc n0) g.body (temporary_of g.body) s1)
    ∙ ap (λ (b : Exp). value plainly Q (below_level plainly Q n0) b (temporary_of g.body) at_end) is

-- ---- in, and out again

module _ (V : Facts) (R Ra : Renaming) (Z Z' : Frozen) (Cold : ℕ → Type 0) (h : List Action) (j : List Pair) (s s' : State) (inv : StatesAlike V R Z Z' h j s s') (cold : (x : ℕ) → Cold x → IsCold R x)
    (known : (x i : ℕ) → Z.anchored x i → (e : Sight) × (sight_of R x ≡ Some e)) (specials : Specials R Ra) (Zf : Frozen) (sa : State) (going : Going V R Z Z' Cold h j s s' inv cold Ra Zf sa) (fewer : sa.turns ≤ s'.turns) (d : Direction) (J : Jumping) (c : ℕ) where
  back : (h1 : List Action) (j1 : List Pair) (t t' : State) → ((x y : ℕ) → sight_of R x ≡ Some (sight y special) → Living V x h1 → ⊥) → Reached V d Ra (Zt V R Z Z' Cold h j s s' inv cold) Zf c h1 j s sa j1 t t' → Reached V d R Z Z' c h1 j s s' j1 t (in_frame t' s'.frame)
  back h1 j1 t t' dead z = record {
    inv = states_leave V R Z Z' Cold h j s s' inv cold known Ra Ra Zf sa going specials h1 j1 t t' z.inv z.grown R (λ x e f. f) t'.memory (λ n. ⊥) refl (λ n f. refl) (λ q m k. k) (λ i v w k. k) (λ x y seen b l. absurd (dead x y seen l));
    grown = grown_leave V R Z Z' Cold h j s s' inv cold known Ra Ra Zf sa going specials h1 j1 t t' z.inv z.grown R (λ x e f. f) t'.memory (λ n. ⊥) refl (λ n f. refl) (λ q m k. k) (λ i v w k. k) (λ x y seen b l. absurd (dead x y seen l)) fewer;
    turns = z.turns;
  }

  comes_back : (mg : Mark) (tg : Temporary) (r : Result (Told ℕ) Value) (r' : Result ℕ Value) → ((o : List (Told ℕ)) (v : Value) (t : State) → r ≡ on o v t → (x y : ℕ) → sight_of R x ≡ Some (sight y special) → Living V x (onto o h) → ⊥) → ResultsAlike V d Ra (Zt V R Z Z' Cold h j s s' inv cold) Zf inner_jumps Given c h j s sa r r' → ResultsAlike V d R Z Z' J Given c h j s s' r (returned plainly s'.frame (given_back mg tg r'))
  unfolding returned bind after result_of
  comes_back mg tg r r' ends (both_on {o = o} {o' = o'} {a = a} {t = t} {t' = t'} j1 f w z) = both_on j1 (f ∙ sym (append-nil o')) w (back _ j1 t t' (ends o a t refl) z)
  comes_back mg tg r r' ends (both_jump j1 f (stays_break e) z) = absurd (none_some e)
  comes_back mg tg r r' ends (both_jump j1 f (stays_continue e) z) = absurd (none_some e)
  comes_back mg tg r r' ends (both_jump j1 f (gives_back e k) z) = absurd (cc)
  comes_back mg tg r r' ends (both_jump j1 f (packs_break p e us k dead) z) = absurd (none_some e)
  comes_back mg tg r r' ends (both_jump j1 f (packs_continue p e us k dead) z) = absurd (none_some e)
  comes_back mg tg r r' ends (both_jump j1 f (packs_value e k dead) z) = absurd (cc)
  comes_back mg tg r r' ends (both_jump j1 f (packs_unit e k dead) z) = absurd (cc)
  comes_back mg tg r r' ends (both_stop f q) = both_stop f q
  comes_back mg tg r r' ends (text_cut {o = o} m f) =
      let k = front_bind (said o) r' (λ v s1. bind (performed plainly (at_mark mg (Give tg)) (v ∷ []) s1) (λ w s2. jumps [] (returns mg.node) w s2)) f in
      text_cut m (k.0, told_returned plainly s'.frame (given_back mg tg r') ∙ k.1)
  comes_back mg tg r r' ends (answer_cut m f) = answer_cut m f

-- ---- the call

module _ (items : ℕ → ℕ) (P Q : Functions) (d : Direction) (N : New) (stands : element Q N.number ≡ Some (Some N.function)) where
  module _ (V : Facts) (J : Jumping) (R Rp Ra : Renaming) (Z Z' : Frozen) (cold : List ℕ) (e e' : Exp) (es : Operands) (mb mg : Mark) (is : N.function.body ≡ body_giving mb mg e') (elsewhere : Elsewhere V R Ra e) (is_cold : (x : ℕ) → In x cold → (y : ℕ) × (sight_of R x ≡ Some (sight y (plain shut))))
      (absents : Absents Rp Ra) (covers : Covers R Ra) (m b c : ℕ) (le : c ≤ b) (t : Temporary) (passing : Passing (gain d).strays V R (order e t) (λ x. In x cold) [] es N.function.params Rp) (h : List Action) (j : List Pair) (s s' : State) (at : V.Comes (order e t) h)
      (inv : StatesAlike V R Z Z' h j s s') (known : (x i : ℕ) → Z.anchored x i → (e : Sight) × (sight_of R x ≡ Some e)) (low : s.turns ≤ m) where
    abbrev chilled : (x : ℕ) → In x cold → IsCold R x
    chilled x k = ((is_cold x k).0, inr (is_cold x k).1)

    abbrev Zs : Frozen
    Zs = Zt V R Z Z' (λ x. In x cold) h j s s' inv chilled

    abbrev entry : ℕ → State
    entry u = in_item (with_turns s' u) N.number

    abbrev Tried : ℕ → ℕ → Type 1
    Tried n u = Tries Q (below_level plainly Q n) V (order e t) R Z Z' (λ x. In x cold) h at j s s' inv chilled (gain d).strays Rp es N.function.params (entry u)

    abbrev Entered : ℕ → ℕ → Type 1
    Entered n u = Passed Q (below_level plainly Q n) V (order e t) R Z Z' (λ x. In x cold) h at j s s' inv chilled Rp es N.function.params (entry u)

    passed_at : (n u : ℕ) → Tried n u
    passed_at n u =
        pass_all Q (below_level plainly Q n) V (order e t) R Z Z' (λ x. In x cold) h at j s s' inv chilled passing (Za V R Z Z' (λ x. In x cold) h j s s' inv chilled) (entry u)
        (begins V R Z Z' (λ x. In x cold) h j s s' inv chilled N.number u)

    abbrev text_does : Result (Told ℕ) Value
    text_does = value followed P (below_level followed P m) e t s

    -- its activation, from the turn of the call
    level_entered : (n0 u : ℕ) (p : Entered (suc n0) u) → suc u ≡ s'.turns → s'.turns ≤ suc n0 → CallsUpTo items P Q d (suc n0) → LikeExp items no_openings (gain d) V 0 inner_jumps Ra e e' → Turns d b s.turns u
        → DoAlike V d R Z Z' J Given c h j s s' text_does (entered plainly (below_level plainly Q (suc n0)) N.number N.function p.given (with_turns s' u))
    level_entered n0 u p eu low' calls l k =
        let going = absent_all Q (below_level plainly Q (suc n0)) V (order e t) R Z Z' (λ x. In x cold) h at j s s' inv chilled absents p.frozen p.at_end p.going in
        let same_turns : p.at_end.turns ≡ u = p.turns in
        subst (λ q. DoAlike V d R Z Z' J Given c h j s s' text_does (returned plainly s'.frame q)) (sym (activation_is Q n0 N.function mb mg e' p.given (entry u) p.at_end is p.entered))
        (λ good. comes_back V R Ra Z Z' (λ x. In x cold) h j s s' inv chilled known (all_moved elsewhere) p.frozen p.at_end going (omega (arith, same_turns, eu)) d J c mg (temporary_of e') text_does (value plainly Q (below_level plainly Q n0) e' (temporary_of e') p.at_end) (λ o v t1 same. all_dead P m t h s at elsewhere o v t1 same)
        ((level_alike items P Q d no_openings (nothing_opens items P Q d) n0 (λ i le. calls i (omega arith))).exp_all V m 0 c inner_jumps Ra Zs p.frozen e e' l t (temporary_of e') h j s p.at_end
        (record {
          inv = going.states_now;
          turns = subst (λ u. Turns d (0 + c) s.turns u) (sym same_turns) (weaken d b (0 + c) _ _ (omega arith) k);
          low = low;
          low' = omega (arith, same_turns, eu, low');
          known = λ x i a. covers x a.0 a.1;
        }) at good))

    level : (n u : ℕ) (p : Entered n u) → suc u ≡ s'.turns → s'.turns ≤ n → CallsUpTo items P Q d n → LikeExp items no_openings (gain d) V 0 inner_jumps Ra e e' → Turns d b s.turns u
        → DoAlike V d R Z Z' J Given c h j s s' text_does (entered plainly (below_level plainly Q n) N.number N.function p.given (with_turns s' u))
    level zero u p eu low' calls l k = absurd (omega (arith, low', eu))
    level (suc n0) u p eu low' calls l k = level_entered n0 u p eu low' calls l k

    call_by : (n : ℕ) (mc : Mark) (t' : Temporary) (u : ℕ) (p : Entered n u) → value plainly Q (below_level plainly Q n) (tree.call mc N.number es) t' s' ≡ take_turn s' (λ s3. entered plainly (below_level plainly Q n) N.number N.function p.given s3)
    call_by n mc t' u p = call_is Q (below_level plainly Q n) mc N.number N.function es p.given t' s' stands p.arguments

    cases : (n : ℕ) (mc : Mark) (t' : Temporary) → s'.turns ≤ n → CallsUpTo items P Q d n → LikeExp items no_openings (gain d) V 0 inner_jumps Ra e e' → (v : ℕ) → v ≡ s'.turns → EntryCase d b s.turns v
        → DoAlike V d R Z Z' J Given c h j s s' text_does (value plainly Q (below_level plainly Q n) (tree.call mc N.number es) t' s')
    cases n mc t' low' calls l v ev (cut_off a) = by (passed_at n zero)
      where
        by : Tried n zero → DoAlike V d R Z Z' J Given c h j s s' text_does (value plainly Q (below_level plainly Q n) (tree.call mc N.number es) t' s')
        by (passes p) = subst (λ q. DoAlike V d R Z Z' J Given c h j s s' text_does q) (sym (call_by n mc t' zero p ∙ turned_out s' ev (λ s3. entered plainly (below_level plainly Q n) N.number N.function p.given s3))) (λ good. answer_cut a (_, refl))
        by (strays can f) = subst (λ q. DoAlike V d R Z Z' J Given c h j s s' text_does q) (sym (call_strays Q (below_level plainly Q n) mc N.number es t' s' missing_reference f)) (λ good. answer_cut can (_, refl))
    cases n mc t' low' calls l v ev (extra {t' = u} k) = by (passed_at n u)
      where
        by : Tried n u → DoAlike V d R Z Z' J Given c h j s s' text_does (value plainly Q (below_level plainly Q n) (tree.call mc N.number es) t' s')
        by (passes p) = subst (λ q. DoAlike V d R Z Z' J Given c h j s s' text_does q) (sym (call_by n mc t' u p ∙ turned_on s' u ev (λ s3. entered plainly (below_level plainly Q n) N.number N.function p.given s3))) (level n u p ev low' calls l k)
        by (strays can f) = subst (λ q. DoAlike V d R Z Z' J Given c h j s s' text_does q) (sym (call_strays Q (below_level plainly Q n) mc N.number es t' s' missing_reference f)) (λ good. answer_cut can (_, refl))

  becomes_alike : (n : ℕ) → CallsUpTo items P Q d n → {V : Facts} {a : ℕ} {J : Jumping} {R : Renaming} {f f' : Exp → Exp} → BecomesCall items (gain d) N V a J R f f' → (Z Z' : Frozen) (m b c : ℕ) → c ≤ b → (x x' : Exp) (t t' : Temporary) (h : List Action) (j : List Pair) (s s' : State)
      → Ready V d R Z Z' (a + b) m n h j s s' → V.Comes (order (f x) t) h → DoAlike V d R Z Z' J Given c h j s s' (value followed P (below_level followed P m) (f x) t s) (value plainly Q (below_level plainly Q n) (f' x') t' s')
  becomes_alike n calls {V} {a} {J} {R} (becomes_call {e = e} {e' = e'} {es = es} {mc = mc} {mb = mb} {mg = mg} cold Rp Ra is elsewhere is_cold passing absents covers l) Z Z' m b c le x x' t t' h j s s' r at =
      cases V J R Rp Ra Z Z' cold e e' es mb mg is elsewhere is_cold absents covers m b c le t (passing t) h j s s' at r.inv r.known r.low n mc t' r.low' calls l s'.turns refl (entry_case d b s.turns s'.turns (weaken d (1 + b) (suc b) _ _ (omega arith) r.turns))

  pub calls_open_alike : (U : List ℕ) → UnitFunctions P U → OpensAlike items P Q d (calls_of items (gain d) U N)
  calls_open_alike U units = record {
    expression = λ n calls {V} {a} {J} {R} {e} o Z Z' m b c le x' part t t' h j s s' r at. becomes_alike n calls o Z Z' m b c le e x' t t' h j s s' r at;
    statements = λ n calls o Z Z' m b c le e' i i' t t' go h j s s' r at. statements_alike items P Q d N stands U units n calls o Z Z' m b c le e' i i' t t' go h j s s' r at;
  }

-- ---- whole programs

pub answer_to_text : (P Q : Program) (N : New) (w : WithCall P Q N) → (given : List ℤ) (n : ℕ) → OrAstray w.strays P Q given n n (UpTo (run Q given n) (run P given n))
answer_to_text P Q N w given n =
    answer_up_to_text w.items (calls_of w.items (a_turn w.strays) w.units N) P Q (a_turn w.strays) (calls_open_alike w.items P.functions Q.functions (shorter (a_turn w.strays)) N w.stands w.units w.are_units) w.alike given n

twice : (n : ℕ) → n + n * 1 ≡ 2 * n
twice n = omega arith

pub text_to_answer : (P Q : Program) (N : New) (w : WithCall P Q N) → (given : List ℤ) (n : ℕ) → OrAstray w.strays P Q given n (2 * n) (UpTo (run P given n) (run Q given (2 * n)))
text_to_answer P Q N w given n =
    subst (λ k. OrAstray w.strays P Q given n k (UpTo (run P given n) (run Q given k))) (twice n)
    (text_up_to_answer w.items (calls_of w.items (a_turn w.strays) w.units N) P Q (a_turn w.strays) (calls_open_alike w.items P.functions Q.functions (longer (a_turn w.strays)) N w.stands w.units w.are_units) w.alike given n)
