-- Where the call stands for the run, it does so with all that rx_engine_simulation asks of the text's histories.
use Rattle.std.proofs.Common.{◌≡◌, ◌≢◌, ℕ, Bool, false, List, [], ◌∷◌, length, refl, sym, subst}
use Rattle.rx_typed.specs.Tree as tree
use Rattle.rx_typed.specs.Tree.{Exp, Body, Mark, Operands, temporary_of}
use Rattle.rx_lower_walks.specs.Actions.{Action}
use Rattle.rx_lower_walks.specs.Walks.{Among, here}
use Rattle.rx_exits_plan.specs.Points.{next, returns, enters, leaves}
use Rattle.rx_exits_plan.specs.Marked.{mark, shown}
use Rattle.rx_exits_plan.specs.Asked.{Asked}
use Rattle.rx_exits_plan.specs.Plan.{Plan}
use Rattle.rx_modes_policy.specs.declared.uses.Mode.{Mode}
use Rattle.rx_engine_simulation.specs.Turns.{Allowance}
use Rattle.rx_engine_simulation.specs.Histories.{Facts, Living}
use Rattle.rx_engine_simulation.specs.Sights.{In, Renaming}
use Rattle.rx_engine_simulation.specs.Jumps.{Jumping}
use Rattle.rx_engine_simulation.specs.Programs.{Untouched}
use Rattle.rx_engine_simulation.specs.Passing.{New, inner_jumps}
use Rattle.rx_engine_simulation.specs.Arrivals.{Aim, to_rest, Arrives, arrives_rest, arrives_past, arrives_then, AreDead, IsReady, IsUnlent}
use Rattle.rx_engine_simulation.specs.Blocks.{Stretch, before}
use Rattle.rx_engine_simulation.specs.Marks.{reading, with_mark, closed_by, AreWritten}
use Rattle.rx_engine_simulation.specs.Packing.{Way, bare, as_variant, no_way}
use Rattle.rx_engine_simulation.specs.Stretches.{LikeStretch, only_marks}
use Rattle.rx_engine_simulation.specs.Endings.{Last, none_left, a_marked, a_tail, with_last, aim_of, LikeEnd}
use Rattle.rx_engine_simulation.specs.Statements.{body_of, Calling, calls_alone, matches, matches_jumps, goes_on, goes_on_marked, Following, Handing, hands_on, StatementsBecomeCall, statements_become_call}
use Rattle.rx_engine_related.specs.AboutRun.{special_of, about_run}
use Rattle.rx_engine_related.specs.Running.{running_of}
use Rattle.rx_engine_related.specs.Premises.{known_of, ByMark, NotHanded}
use Rattle.rx_engine_related.proofs.Premises.{others_dead, out_ready}
use Rattle.rx_engine_related.proofs.Choosing as choosing
use Rattle.rx_engine_related.proofs.Runs.{running_others_dead, running_param_written}
use Rattle.rx_engine_related.specs.Moved.{Moved, Ended, gives_outs, gives_last, gives_never, gives_left}
use Rattle.rx_engine_related.specs.Handed.{MayBeAssigned, Handed, handed_on}
use Rattle.rx_engine_related.specs.Never.{NeverEnds, first_never, last_never}
use Rattle.rx_engine_related.specs.Leaving.{jumps_of}
use Rattle.rx_engine_related.specs.Standing.{marked_run, call_alone, call_matched, call_left, CallOf, RunBecomesCall, run_becomes_call}
use Rattle.rx_engine_related.specs.Given.{EntersWith}
use Rattle.rx_engine_related.proofs.Loops.{Held}
use Rattle.rx_engine_related.proofs.Specials.{again_special, again_not_out}
use Rattle.rx_engine_related.proofs.Entering.{entered}
use Rattle.rx_engine_related.proofs.Moving.{moved_so, moved_closed}
use Rattle.rx_engine_related.proofs.Leaving.{ByPlan, inner_by_plan, jumps_by_plan, variant_among, all_left, assigned_unlent, arms_so}
use Rattle.rx_engine_related.proofs.Never.{never_on, never_passed, marked_never, closed_marked_never}
use Rattle.rx_engine_related.proofs.Ending.{ended_so, by_mark_behind, by_mark_last}
use Rattle.rx_engine_related.proofs.Handing.{hands_so, again_so}

module _ (A : Asked) (muts : List Bool) (k : Plan) (had : Held A muts k) (u : Untouched (running_of A k.params) (about_run A muts k)) where
  -- each variable of a list in both ways
  among_of : {x : ℕ} {l : List ℕ} → In x l → Among x l
  among_of i = choosing.in_list i

  written_there : AreWritten (known_of A muts k u) enters k.params
  written_there x i b n t h c = running_param_written A had.short k.params muts had.accepted k had.plan x (among_of i) b n t h c

  not_returns : next ≢ returns
  not_returns q = cc

  no_outs : (Among next k.exits → ⊥) → (x : ℕ) → Among x (k.outs next) → ⊥
  no_outs n x o = none_in (subst (λ xs. Among x xs) (had.plan.none_elsewhere next n) o)
    where
      none_in : {x : ℕ} → Among x [] → ⊥
      none_in i = elim i [ ]

  -- how the run ends: by an exit, unless its end is not come to
  abbrev Ends : Way → Type 0
  Ends no_way = Among next k.exits → ⊥
  Ends _ = Among next k.exits

  module _ (a : Aim) (by_mark : ByMark A muts k u next a) where
    -- if the end is not come to, nothing arrives there
    abbrev Unreached : Way → Type 0
    Unreached w = w ≡ no_way → (h : List Action) → Arrives (known_of A muts k u) a h → ⊥

    outs_ready : (w : Way) → Ends w → (x : ℕ) → Among x (k.outs next) → IsReady (known_of A muts k u) a x
    outs_ready bare e x o = out_ready A muts k u had.short had.plan had.accepted next a x by_mark not_returns (had.one_place next e not_returns) (had.whole x) e o
    outs_ready (as_variant v) e x o = out_ready A muts k u had.short had.plan had.accepted next a x by_mark not_returns (had.one_place next e not_returns) (had.whole x) e o
    outs_ready no_way e x o = absurd (no_outs e x o)

    -- and what is needed there
    end_dead : (w : Way) → Ends w → Unreached w → (R : Renaming) → NotHanded A muts k next R → AreDead (known_of A muts k u) R a
    end_dead bare e never R none = others_dead A muts k u had.short had.plan had.passed next a R by_mark not_returns e none
    end_dead (as_variant v) e never R none = others_dead A muts k u had.short had.plan had.passed next a R by_mark not_returns e none
    end_dead no_way e never R none = λ x y seen h c l. never refl h c

    again_dead : (w : Way) → Ends w → Unreached w → (x : ℕ) → Among x k.redeclared → (h : List Action) → Arrives (known_of A muts k u) a h → Living (known_of A muts k u) x h → ⊥
    again_dead w e never x i h c l =
        let n = by_mark h c in
        by w e never n.0 (subst (λ h. Living (known_of A muts k u) x h) n.1 l)
      where
        by : (w : Way) → Ends w → Unreached w → (h0 : List Action) → Living (known_of A muts k u) x (shown (leaves next) ∷ h0) → ⊥
        by bare e never h0 l = running_others_dead A had.short k had.plan muts had.passed u next x e not_returns (again_special A muts k x i) (again_not_out A k had.plan x i) h0 l
        by (as_variant v) e never h0 l = running_others_dead A had.short k had.plan muts had.passed u next x e not_returns (again_special A muts k x i) (again_not_out A k had.plan x i) h0 l
        by no_way e never h0 l = never refl h c

    -- what is assigned there is of that exit
    assigned_so : (w : Way) → Ends w → (b : Body) (x : ℕ) → Among x (k.outs next) → MayBeAssigned A muts k x → IsUnlent (known_of A muts k u) (tree.runs (mark enters) b) x
    assigned_so bare e b x o m = assigned_unlent A muts k had u b next x e o m
    assigned_so (as_variant v) e b x o m = assigned_unlent A muts k had u b next x e o m
    assigned_so no_way e b x o m = absurd (no_outs e x o)

    handed_so : {J : Jumping} {R Rb Rn : Renaming} {e : Exp} {f' : Body → Body} (l : Last) (w : Way) (b : Body) → Ends w → Unreached w → Following J l (λ b. b) → Handed A muts k R Rb e Rn f' → Handing (known_of A muts k u) J R Rb (tree.runs (mark enters) b) a e l false w (k.outs next) Rn f'
    handed_so {R = R} l w b ends never follows (handed_on {f = f} {g = g} Rs Rr Rd within handed back again there back_in) =
        hands_on {f = f} {g = g} {k = λ b. b} Rs Rr Rd within (end_dead w ends never Rs handed)
        (hands_so A (known_of A muts k u) muts k R (tree.runs (mark enters) b) (λ x i m. assigned_so w ends b x i m) back)
        (again_so a (again_dead w ends never) again) follows there back_in

  -- where its statements never end
  none_behind : (r : Stretch) (rest : Body) → NeverEnds none_left r → (h : List Action) → Arrives (known_of A muts k u) (to_rest (before (marked_run k none_left r) rest) (marked_run k none_left r)) h → ⊥
  none_behind r rest (first_never n) h (arrives_rest i t c th) = never_passed (closed_marked_never enters (leaves next) k.params n) th

  none_past : (r : Stretch) (e : Exp) (rest : Body) → NeverEnds (a_marked e (leaves next)) r → (h : List Action)
      → Arrives (known_of A muts k u) (aim_of (a_marked e (leaves next)) (before (with_mark enters k.params r) (with_last (a_marked e (leaves next)) rest)) (with_mark enters k.params r)) h → ⊥
  none_past r e rest (first_never n) h (arrives_then (arrives_past i t c th w)) = never_passed (marked_never enters k.params n) th
  none_past r e rest (last_never n) h (arrives_then (arrives_past i t c th w)) = never_on n (temporary_of e) w

  not_a_tail : (e : Exp) → none_left ≡ a_tail e → ⊥
  not_a_tail e f = cc

  marked_no_tail : (d e : Exp) → a_marked d (leaves next) ≡ a_tail e → ⊥
  marked_no_tail d e f = cc

  module _ (modes : List Mode) (items : ℕ → ℕ) (gain : Allowance) (U : List ℕ) (N : New) (Ji : Jumping) (ok : ByPlan A muts k Ji) where
    abbrev V : Facts
    V = known_of A muts k u

    stretch_so : {R Rb : Renaming} {r r' : Stretch} → Moved items gain U (special_of A muts k) Ji R r r' Rb → LikeStretch items gain U V Ji R (with_mark enters k.params r) r' Rb
    stretch_so m = only_marks enters k.params written_there (moved_so items gain U (special_of A muts k) V (ByPlan A muts k) (all_left A muts k had u U) Ji ok m)

    closed_so : {R Rb : Renaming} {r r' : Stretch} → Moved items gain U (special_of A muts k) Ji R r r' Rb → LikeStretch items gain U V Ji R (with_mark enters k.params (closed_by r (leaves next))) r' Rb
    closed_so m = only_marks enters k.params written_there (moved_closed items gain U (special_of A muts k) V (ByPlan A muts k) (all_left A muts k had u U) Ji ok (leaves next) m)

    end_so : {R : Renaming} {l : Last} {w : Way} {xs ys : List ℕ} {end : Body} (a : Aim) → xs ≡ ys → (w ≡ no_way → (h : List Action) → Arrives V a h → ⊥) → ((x : ℕ) → Among x ys → IsReady V a x) → Ended items gain U (special_of A muts k) Ji R l w xs end
        → LikeEnd items gain U V Ji R a l false w ys end
    end_so {R} {l} {w} {xs} {end = end} a same never ready ended =
        subst (λ ys. LikeEnd items gain U V Ji R a l false w ys end) same
        (ended_so items gain U (special_of A muts k) V (ByPlan A muts k) (all_left A muts k had u U) Ji ok a never (λ x i. ready x (subst (λ ys. Among x ys) same i)) ended)

    module _ {J : Jumping} {R Rn Ra Rb : Renaming} {r r' : Stretch} {w : Way} {xs : List ℕ} {end : Body} {es : Operands} {mc : Mark} {called : Exp} {f' : Body → Body} (rest : Body) (mb : Mark) (ls : List (ℕ × ℕ)) (same : xs ≡ k.outs next)
        (is : N.function.body ≡ body_of mb ls r' end) (en : EntersWith gain.strays k modes R es N.function.params ls Ra) (moved : Moved items gain U (special_of A muts k) Ji Ra r r' Rb)
        (ends : Ends w) (calling : (b : Body) → Calling V J R (tree.runs (mark enters) b) (tree.call mc N.number es) Ji w (length (k.outs next)) called) (handed : Handed A muts k R Rb called Rn f') where
      -- all statements are in front, or one is left
      all_in_front : (w ≡ no_way → NeverEnds none_left r) → Ended items gain U (special_of A muts k) Ji Rb none_left w xs end → StatementsBecomeCall items gain U N V 1 J R Rn rest (λ b. before (marked_run k none_left r) b) f'
      all_in_front never ended =
          let aim = aim_of none_left (before (marked_run k none_left r) rest) (marked_run k none_left r) in
          let told = by_mark_behind A muts k u r rest in
          let unreached : w ≡ no_way → (h : List Action) → Arrives V aim h → ⊥ = λ q h c. none_behind r rest (never q) h c in
          statements_become_call {r = marked_run k none_left r} {l = none_left} {has = false} {mc = mc} Ra Rb mb ls is (entered A muts k u had.short had.plan had.accepted (closed_by r (leaves next)) rest en)
          (closed_so moved) (end_so aim same unreached (outs_ready aim told w ends) ended) (λ e f. absurd (not_a_tail e f)) (calling (before (reading k.params (closed_by r (leaves next))) rest))
          (handed_so aim told none_left w (before (reading k.params (closed_by r (leaves next))) rest) ends unreached goes_on handed)

      one_left : (e : Exp) → (w ≡ no_way → NeverEnds (a_marked e (leaves next)) r) → Ended items gain U (special_of A muts k) Ji Rb (a_marked e (leaves next)) w xs end
          → StatementsBecomeCall items gain U N V 1 J R Rn rest (λ b. before (marked_run k (a_marked e (leaves next)) r) (with_last (a_marked e (leaves next)) b)) f'
      one_left e never ended =
          let l = a_marked e (leaves next) in
          let aim = aim_of l (before (marked_run k l r) (with_last l rest)) (marked_run k l r) in
          let told = by_mark_last A muts k u r e rest in
          let unreached : w ≡ no_way → (h : List Action) → Arrives V aim h → ⊥ = λ q h c. none_past r e rest (never q) h c in
          statements_become_call {r = marked_run k l r} {l = l} {has = false} {mc = mc} Ra Rb mb ls is (entered A muts k u had.short had.plan had.accepted r (with_last l rest) en)
          (stretch_so moved) (end_so aim same unreached (outs_ready aim told w ends) ended) (λ f q. absurd (marked_no_tail e f q)) (calling (before (reading k.params r) (with_last l rest)))
          (handed_so aim told l w (before (reading k.params r) (with_last l rest)) ends unreached goes_on_marked handed)

    becomes : {J : Jumping} {R Rn Ra Rb : Renaming} {r r' : Stretch} {l : Last} {w : Way} {xs : List ℕ} {end : Body} {es : Operands} {mc : Mark} {called : Exp} {f' : Body → Body} (rest : Body) (mb : Mark) (ls : List (ℕ × ℕ)) → xs ≡ k.outs next
        → N.function.body ≡ body_of mb ls r' end → EntersWith gain.strays k modes R es N.function.params ls Ra → Moved items gain U (special_of A muts k) Ji Ra r r' Rb → Ended items gain U (special_of A muts k) Ji Rb l w xs end
        → (w ≡ no_way → NeverEnds l r) → Ends w → ((b : Body) → Calling V J R (tree.runs (mark enters) b) (tree.call mc N.number es) Ji w (length (k.outs next)) called) → Handed A muts k R Rb called Rn f'
        → StatementsBecomeCall items gain U N V 1 J R Rn rest (λ b. before (marked_run k l r) (with_last l b)) f'
    becomes rest mb ls same is en moved (gives_outs have gives) never ends calling handed = all_in_front rest mb ls same is en moved ends calling handed never (gives_outs have gives)
    becomes rest mb ls same is en moved (gives_last {e = e} like) never ends calling handed = one_left rest mb ls same is en moved ends calling handed e never (gives_last like)
    becomes rest mb ls same is en moved gives_never never ends calling handed = all_in_front rest mb ls same is en moved ends calling handed never gives_never
    becomes rest mb ls same is en moved (gives_left {e = e} like) never ends calling handed = one_left rest mb ls same is en moved ends calling handed e never (gives_left like)

  module _ (modes : List Mode) (items : ℕ → ℕ) (gain : Allowance) (U : List ℕ) (N : New) where
    with_call : {J Ji : Jumping} {R Rn Ra Rb : Renaming} {r r' : Stretch} {l : Last} {w : Way} {end : Body} {es : Operands} {mc : Mark} {called : Exp} {f' : Body → Body} (rest : Body) (mb : Mark) (ls : List (ℕ × ℕ))
        → N.function.body ≡ body_of mb ls r' end → EntersWith gain.strays k modes R es N.function.params ls Ra → Moved items gain U (special_of A muts k) Ji Ra r r' Rb → Ended items gain U (special_of A muts k) Ji Rb l w (k.outs next) end
        → (w ≡ no_way → NeverEnds l r) → CallOf A muts k J R (tree.call mc N.number es) Ji w called → Handed A muts k R Rb called Rn f'
        → StatementsBecomeCall items gain U N (known_of A muts k u) 1 J R Rn rest (λ b. before (marked_run k l r) (with_last l b)) f'
    with_call rest mb ls is en moved ended never (call_alone only) handed =
        becomes modes items gain U N inner_jumps (inner_by_plan A muts k) rest mb ls refl is en moved ended never (subst (λ l. Among next l) (sym only) here) (λ b. calls_alone) handed
    with_call rest mb ls is en moved ended never (call_matched unit has arms picks receives new gives many) handed =
        becomes modes items gain U N (jumps_of A muts k unit) (jumps_by_plan A muts k unit) rest mb ls refl is en moved ended never (variant_among k next has) (λ b. matches (arms_so A muts k had u b arms) picks receives new gives many) handed
    with_call rest mb ls is en moved ended never (call_left unit none arms) handed =
        becomes modes items gain U N (jumps_of A muts k unit) (jumps_by_plan A muts k unit) rest mb ls refl is en moved ended never none (λ b. matches_jumps (arms_so A muts k had u b arms)) handed

    pub stands_so : {a : ℕ} {J : Jumping} {R Rn : Renaming} {rest : Body} {f f' : Body → Body} → RunBecomesCall A muts k modes items gain U N a J R Rn rest f f' → StatementsBecomeCall items gain U N (known_of A muts k u) a J R Rn rest f f'
    stands_so (run_becomes_call {rest = rest} Ra Rb mb ls is en moved ended never call handed) = with_call rest mb ls is en moved ended never call handed
