-- What the relation of trees puts in place of a run, with the match over its exits, is the match of the plan.
use Rattle.std.proofs.Common.{◌≡◌, ◌≢◌, ℕ, Bool, true, false, List, [], ◌∷◌, ◌++◌, Some, refl, sym, ◌∙◌, subst, ap}
use Rattle.rx_typed.specs.Tree as tree
use Rattle.rx_typed.specs.Tree.{Temporary, Mark, Parameter, Operands, Exp, Arms, Body, Subpatterns, temporary_of}
use Rattle.rx_lower_walks.specs.Actions.{Action}
use Rattle.rx_lower_walks.specs.Orders.{Order, order, order_body}
use Rattle.rx_lower_walks.specs.Orders as orders
use Rattle.rx_lower_walks.specs.Walks.{Out, on, leaves, fails, stopped, IsAway, Walk, rests, stops, both, first, Among}
use Rattle.rx_exits_plan.specs.Blocks.{Statement}
use Rattle.rx_exits_plan.specs.Points.{Exit, next, returns, jump_exit}
use Rattle.rx_exits_plan.specs.Asked.{Asked}
use Rattle.rx_exits_plan.specs.Plan.{Plan, IsPlan}
use Rattle.rx_modes_policy.specs.declared.uses.Mode.{Mode}
use Rattle.rx_engine_simulation.specs.Sights.{special, sight, Renaming, sight_of}
use Rattle.rx_engine_simulation.specs.Arrivals.{Within}
use Rattle.rx_engine_simulation.specs.Jumps.{Jumping}
use Rattle.rx_engine_simulation.specs.Packing.{Picks}
use Rattle.rx_engine_related.specs.Premises.{NotHanded}
use Rattle.rx_engine_related.specs.Given.{GivenTo, LocalsOf}
use Rattle.rx_engine_related.specs.Leaving.{variant_for}
use Rattle.rx_engine_related.specs.Handed.{HandsBack, Redeclared}
use Rattle.rx_engine_related.proofs.Specials.{again_special, again_not_out}
use Rattle.rx_engine_initial.specs.Variables.{as_itself, Sides, KnownVariables}
use Rattle.rx_engine_initial.specs.Matching.{SameExit, both_break, both_continue, Piece, fill}
use Rattle.rx_engine_initial.specs.Copies.{easy_call, easy_test}
use Rattle.rx_engine_initial.specs.Handing.{Straight, one_action, in_sequence}
use Rattle.rx_engine_initial.proofs.Tracing.{nil_right, joined}
use Rattle.rx_engine_initial_calls.specs.Received.{MayTake, Receives, does_one, IsWay}
use Rattle.rx_engine_initial_calls.specs.Becoming.{Becomes}
use Rattle.rx_engine_initial_calls.specs.GoneThrough.{IsGoneThrough}
use Rattle.rx_engine_initial_calls.specs.CallOf.{Scopes}
use Rattle.rx_engine_initial_calls.specs.MatchOf.{IsFront, LeavesSo, by_return, by_jump, GoesOn, IsMatchOf}
use Rattle.rx_engine_initial_calls.specs.RunPieces.{pieces_of}
use Rattle.rx_engine_initial_calls.proofs.GoingThrough.{body_filled}
use Rattle.rx_engine_initial_forms.specs.Agreeing.{Agrees}
use Rattle.rx_engine_initial_forms.specs.Following.{AgreesOnLoops}
use Rattle.rx_engine_initial_related.specs.CallerAsked.{GivenSo, CallerAsked}
use Rattle.rx_engine_initial_related.specs.ExitArms.{OnlyExits}
use Rattle.rx_engine_initial_related.proofs.Scope.{AllSlots, Injective, known, known_loops, what_is_in_scope, agrees}
use Rattle.rx_engine_initial_related.proofs.Acts.{around_both}
use Rattle.rx_engine_initial_related.proofs.PuttingBack.{Again}
use Rattle.rx_engine_initial_related.proofs.HandingBack.{Hands}
use Rattle.rx_engine_initial_related.proofs.Becoming.{call, args, in_front, becomes_so}
use Rattle.rx_engine_initial_related.proofs.Called.{hand, begun, comes, injective, scopes, stands_so}
use Rattle.rx_engine_initial_related.proofs.Singles.{Took, took_all, took_some, straight_single}
use Rattle.rx_engine_initial_related.proofs.ArmsTook.{Tests, no_test, one_test, Says, ArmTook, arm_all, arm_some, arms_took}
use Rattle.rx_engine_initial_related.proofs.AroundIt.{Front, Begun, stops_in, left_by, goes_behind, around_whole, around_begun, around_away, around_stays}
use Rattle.rx_engine_initial_related.proofs.Giving.{LeavesAll, leaves_both, leaves_more, leaves_nothing, received_front, received_ends}
use Rattle.rx_engine_initial_related.proofs.ExitArms.{ArmDoes, goes_on, jumps_on, returns_on}

tests_leave : (R : Renaming) {us : List Action} → Tests us → LeavesAll R us
tests_leave R no_test = leaves_nothing R
tests_leave R (one_test {us = us} s h) = leaves_more R _ us (λ x w q. tt) (tests_leave R h)

tests_received : (S : Sides) (k : Plan) (e : Exit) (K : KnownVariables S) {us : List Action} → Tests us → {hs ys : List ℕ} (rest : List Action) → Receives S k e K hs ys rest → Receives S k e K hs ys (us ++ rest)
tests_received S k e K no_test rest r = r
tests_received S k e K (one_test s h) rest r = does_one (easy_test s) (tests_received S k e K h rest r)

same_exit : (L : ℕ → ℕ → Type 0) (again : Bool) (m n l j : ℕ) → L l j → SameExit L (orders.exit m l again) (orders.exit n j again)
same_exit L true m n l j h = both_continue h
same_exit L false m n l j h = both_break h

not_returned : (n : ℕ) (again : Bool) → jump_exit n again ≢ returns
not_returned n true q = cc
not_returned n false q = cc

module _ (S : Sides) (A : Asked) (k : Plan) (plan : IsPlan A k) (R : Renaming) (K : KnownVariables S) (g : Agrees S R K) (all : AllSlots R) (Rn : Renaming) (asked : CallerAsked S A k R Rn)
    (J : Jumping) (loops : AgreesOnLoops S J K) {again : Bool} {cold : List ℕ} {modes : List Mode} (es : Operands) {ps : List Parameter} {Rp : Renaming} (to : GivenTo again R cold [] k.params modes es ps Rp) (so : GivenSo A k to)
    {ls : List (ℕ × ℕ)} {Rl : Renaming} (locals : LocalsOf R Rp k.locals ls Rl) (mc : Mark) (i : ℕ) (mm : Mark) (l : Arms) where
  abbrev Does : Exit → List Action → Out → Type 0
  Does = ArmDoes S A k plan R K g all Rn asked J loops

  abbrev called : Exp
  called = tree.call mc i es

  abbrev matched : Exp
  matched = tree.choose mm (tree.of_value (tree.call mc i es)) l

  abbrev front_of : List Action → List Action
  front_of more = in_front S A k plan R K g all Rn asked es to so locals mc i more

  straight : Straight (order (tree.call mc i es) (temporary_of (tree.call mc i es))) (front_of [])
  straight = in_sequence (args S A k plan R K g all Rn asked es to so locals mc i).straight one_action

  front_more : (us : List Action) → front_of [] ++ us ≡ front_of us
  front_more us = joined (args S A k plan R K g all Rn asked es to so locals mc i).actions (call S A k plan R K g all Rn asked es to so locals mc i ∷ []) us

  -- a way is one where what is received is so
  way_of : (e : Exit) (us : List Action) → Receives S k e K [] [] us → IsWay S k e K (front_of us)
  way_of e us r = record {
    taken = (args S A k plan R K g all Rn asked es to so locals mc i).taken;
    arguments = (args S A k plan R K g all Rn asked es to so locals mc i).actions;
    takes = (args S A k plan R K g all Rn asked es to so locals mc i).handing;
    for_params = λ y j. let z = (args S A k plan R K g all Rn asked es to so locals mc i).for_params y j in (z.0, z.1, z.2);
    received = call S A k plan R K g all Rn asked es to so locals mc i ∷ us;
    receives = does_one easy_call r;
    is = refl;
  }

  module _ (x₀ : Exit) (there₀ : Among x₀ k.exits) (l₀ : List Action) (o₀ : Out) (p₀ : Does x₀ l₀ o₀) (d : Temporary)
      (says : (x : Exit) (v : ℕ) (qs : Subpatterns) (e : Exp) → Among x k.exits → variant_for k x ≡ Some v → Picks l v qs e → Says (temporary_of (tree.call mc i es)) Does d v qs e x) (only : OnlyExits k l l) where
    proper : (x : Exit) (us : List Action) → Does x us fails → ⊥
    proper x us h = elim h [ ]

    abbrev Tooks : List Action → Out → Type 0
    Tooks = ArmTook k (temporary_of (tree.call mc i es)) Does proper x₀ there₀ l₀ o₀ p₀ d

    -- a walk of the match
    data MatchTook : List Action → Out → Type 0 where
      match_all : {us : List Action} {o : Out} (x : Exit) → Among x k.exits → (pre : List Action) → Tests pre → Does x us o → MatchTook (front_of (pre ++ us)) o
      match_some : {us : List Action} (x : Exit) → Among x k.exits → (pre ts vs : List Action) (o : Out) → Tests pre → us ++ vs ≡ front_of (pre ++ ts) → Does x ts o → MatchTook us stopped

    match_stops : {us : List Action} {o : Out} → MatchTook us o → MatchTook us stopped
    match_stops (match_all {us = us} {o = o} x j pre h p) = match_some x j pre us [] o h (nil_right (front_of (pre ++ us))) p
    match_stops (match_some x j pre ts vs o h q p) = match_some x j pre ts vs o h q p

    nothing_took : {us : List Action} {p : Out} → IsAway p → Took (front_of []) on us p → MatchTook us p
    nothing_took e took_all = elim e [ ]
    nothing_took e (took_some {us = us} vs q) = match_some x₀ there₀ [] l₀ (vs ++ l₀) o₀ no_test (sym (joined us vs l₀) ∙ (ap (λ w. w ++ l₀) q ∙ front_more l₀)) p₀

    behind_call : {us vs : List Action} {p : Out} → Took (front_of []) on us on → Tooks vs p → MatchTook (us ++ vs) p
    behind_call took_all (arm_all {l = w} {o = o} x j pre h q) = subst (λ u. MatchTook u o) (sym (front_more (pre ++ w))) (match_all x j pre h q)
    behind_call took_all (arm_some {us = vs} x j pre ts ws o h e q) = match_some x j pre ts ws o h (joined (front_of []) vs ws ∙ (ap (λ u. front_of [] ++ u) e ∙ front_more (pre ++ ts))) q

    match_took : {us : List Action} {p : Out} → Walk (order matched d) us p → MatchTook us p
    match_took rests = match_some x₀ there₀ [] l₀ (front_of l₀) o₀ no_test refl p₀
    match_took (stops h) = match_stops (match_took h)
    match_took {p = p} (both {us = us} {vs = vs} h w) =
        behind_call (straight_single straight us on h) (arms_took k (temporary_of (tree.call mc i es)) Does proper x₀ there₀ l₀ o₀ p₀ d l l says only vs p w)
    match_took {us = us} {p = p} (first e h) = nothing_took e (straight_single straight us p h)

    -- ---- what is done behind it

    module _ (behind : List Action) where
      abbrev AtEnd : Type 0
      AtEnd = (hs : List ℕ) → Receives S k next K hs [] behind

      jump_way : (x : Exit) (pre us : List Action) → Tests pre → Receives S k x K [] [] us → IsWay S k x K (front_of (pre ++ us))
      jump_way x pre us h r = way_of x (pre ++ us) (tests_received S k x K h us r)

      -- where it goes on, and is followed by this
      end_way : (pre us rest : List Action) → Tests pre → ((more : List Action) → ((hs : List ℕ) → Receives S k next K hs [] more) → Receives S k next K [] [] (us ++ more)) → ((hs : List ℕ) → Receives S k next K hs [] rest)
          → IsWay S k next K (front_of (pre ++ us) ++ rest)
      end_way pre us rest h f r = subst (λ w. IsWay S k next K w) (ap (λ w. front_of w) (sym (joined pre us rest)) ∙ split_front) (way_of next (pre ++ (us ++ rest)) (tests_received S k next K h (us ++ rest) (f rest r)))
        where
          split_front : front_of ((pre ++ us) ++ rest) ≡ front_of (pre ++ us) ++ rest
          split_front = sym (joined (args S A k plan R K g all Rn asked es to so locals mc i).actions (call S A k plan R K g all Rn asked es to so locals mc i ∷ (pre ++ us)) rest)

      module _ (received : AtEnd) where
        -- a front of a whole walk of the match
        some_front : {us : List Action} (x : Exit) → Among x k.exits → (pre ts vs : List Action) (o : Out) → Tests pre → us ++ vs ≡ front_of (pre ++ ts) → Does x ts o → IsFront S k K us
        some_front {us} x j pre ts vs o h q (goes_on leave f) = record {
          exit = next;
          exits = j;
          all = front_of (pre ++ ts) ++ behind;
          way = end_way pre ts behind h f received;
          rest = vs ++ behind;
          is = sym (joined us vs behind) ∙ ap (λ w. w ++ behind) q;
        }
        some_front x j pre ts vs o h q (jumps_on n c m b taken led r Rs within apart came) = record { exit = jump_exit n b; exits = j; all = front_of (pre ++ ts); way = jump_way (jump_exit n b) pre ts h r; rest = vs; is = q }
        some_front x j pre ts vs o h q (returns_on m r) = record { exit = returns; exits = j; all = front_of (pre ++ ts); way = jump_way returns pre ts h r; rest = vs; is = q }

        took_front : {us : List Action} {o : Out} → MatchTook us o → IsFront S k K us
        took_front (match_all {us = us} {o = o} x j pre h p) = some_front x j pre us [] o h (nil_right (front_of (pre ++ us))) p
        took_front (match_some x j pre ts vs o h q p) = some_front x j pre ts vs o h q p

        front_behind : {us ts : List Action} → MatchTook us on → Front K.variables behind ts → IsFront S k K (us ++ ts)
        front_behind {ts = ts} (match_all {us = us} x j pre h (goes_on leave f)) w = record {
          exit = next;
          exits = j;
          all = front_of (pre ++ us) ++ ts;
          way = end_way pre us ts h f (λ hs. subst (λ u. Receives S k next K hs [] u) (sym w.is) (received_ends S k next K (received_front S k next K (received hs) w.front w.more w.is_front) w.are));
          rest = [];
          is = nil_right (front_of (pre ++ us) ++ ts);
        }

      left_so : (t : Order) → ((n : ℕ) (b : Bool) → Among (jump_exit n b) k.exits → (m : ℕ) × (u : List Action) × Walk t u (leaves (orders.exit m n b)) × IsGoneThrough A k (jump_exit n b) u) → {us : List Action} {j : orders.Exit}
          → MatchTook us (leaves j) → LeavesSo S A k K t us j
      left_so t leaving (match_all {us = us} x j pre h (jumps_on n c m b taken led r Rs within apart came)) =
          let z = leaving n b taken in
          by_jump (jump_exit n b) taken (not_returned n b) (same_exit (λ v w. Among (v, w) K.loops) b m z.0 c n led) z.2 z.3 (λ y w q. becomes y w q)
        where
          becomes : (y w : ℕ) → Among (as_itself y w) K.variables → Becomes S A k (jump_exit n b) K (front_of (pre ++ us)) y w
          becomes y w q =
              let s = g.no_others w y q in
              subst (λ v. Becomes S A k (jump_exit n b) K v y w) (joined (args S A k plan R K g all Rn asked es to so locals mc i).actions (call S A k plan R K g all Rn asked es to so locals mc i ∷ pre) us)
              (becomes_so S A k plan R K g all Rn asked es to so locals mc i (jump_exit n b) taken [] (λ v o. elim o [ ]) Rs within apart pre us (tests_leave R h) w _ (came w _ s.1))
      left_so t leaving (match_all x j pre h (returns_on m r)) = by_return

-- ---- all of it

module _ (S : Sides) (A : Asked) (k : Plan) (plan : IsPlan A k) (R : Renaming) (K : KnownVariables S) (g : Agrees S R K) (all : AllSlots R) (Rn : Renaming) (asked : CallerAsked S A k R Rn)
    (J : Jumping) (loops : AgreesOnLoops S J K) {again : Bool} {cold : List ℕ} {modes : List Mode} (es : Operands) {ps : List Parameter} {Rp : Renaming} (to : GivenTo again R cold [] k.params modes es ps Rp) (so : GivenSo A k to)
    {ls : List (ℕ × ℕ)} {Rl : Renaming} (locals : LocalsOf R Rp k.locals ls Rl) (mc : Mark) (i : ℕ) (mm : Mark) (l : Arms)
    (x₀ : Exit) (there₀ : Among x₀ k.exits) (l₀ : List Action) (o₀ : Out) (p₀ : ArmDoes S A k plan R K g all Rn asked J loops x₀ l₀ o₀)
    (says : (x : Exit) (v : ℕ) (qs : Subpatterns) (e : Exp) → Among x k.exits → variant_for k x ≡ Some v → Picks l v qs e → Says (temporary_of (tree.call mc i es)) (ArmDoes S A k plan R K g all Rn asked J loops) (temporary_of (tree.choose mm (tree.of_value (tree.call mc i es)) l)) v qs e x)
    (only : OnlyExits k l l) (mays : (x y : ℕ) → sight_of R x ≡ Some (sight y special) → Among x (k.outs next) → MayTake S k next y x)
    (Rs Rr Rd Rb : Renaming) (h f : Body → Body) (within : Within Rs R) (not_handed : NotHanded A S.muts_there k next Rs)
    (hb : HandsBack A S.muts_there k R (tree.choose mm (tree.of_value (tree.call mc i es)) l) Rs (k.outs next) Rr h) (rd : Redeclared Rb Rr k.redeclared f Rd) (fewer : Within Rn Rd) (wider : Within R Rn)
    (t : Order) (leaving : (n : ℕ) (b : Bool) → Among (jump_exit n b) k.exits → (m : ℕ) × (u : List Action) × Walk t u (leaves (orders.exit m n b)) × IsGoneThrough A k (jump_exit n b) u) where
  abbrev given : Exp
  given = tree.choose mm (tree.of_value (tree.call mc i es)) l

  abbrev handing : Hands S A k k.redeclared R K g all mays given Rs Rr h
  handing = hand S A k plan R K g all Rn asked mays Rs Rr Rd Rb h f given within hb rd fewer wider

  abbrev beginning : Again S A S.muts_there k next k.redeclared R K g all mays Rr Rd f
  beginning = begun S A k plan R K g all Rn asked mays Rs Rr Rd Rb h f given within hb rd fewer wider

  abbrev here_behind : List Action
  here_behind = handing.actions ++ beginning.actions

  abbrev here_stands : List Statement
  here_stands = handing.statements ++ beginning.statements

  abbrev one_for_each : Injective Rn
  one_for_each = injective S A k plan R K g all Rn asked mays Rs Rr Rd Rb h f given within hb rd fewer wider

  abbrev here_scope : KnownVariables S
  here_scope = known S Rn K.loops asked.slots one_for_each asked.types

  abbrev TookIt : List Action → Out → Type 0
  TookIt = MatchTook S A k plan R K g all Rn asked J loops es to so locals mc i mm l x₀ there₀ l₀ o₀ p₀ (temporary_of given) says only

  took : {us : List Action} {p : Out} → Walk (order given (temporary_of given)) us p → TookIt us p
  took w = match_took S A k plan R K g all Rn asked J loops es to so locals mc i mm l x₀ there₀ l₀ o₀ p₀ (temporary_of given) says only w

  received : (hs : List ℕ) → Receives S k next K hs [] here_behind
  received hs = handing.receives beginning.actions beginning.receives hs

  scopes_here : (n : ℕ) → Scopes S K here_scope (pieces_of n here_stands)
  scopes_here n = scopes S A k plan R K g all Rn asked mays Rs Rr Rd Rb h f given within hb rd fewer wider n

  fronts_of : {us : List Action} → Begun K.variables (order given (temporary_of given)) here_behind us → IsFront S k K us
  fronts_of (stops_in w) = took_front S A k plan R K g all Rn asked J loops es to so locals mc i mm l x₀ there₀ l₀ o₀ p₀ (temporary_of given) says only here_behind received (took w)
  fronts_of (left_by j w) = took_front S A k plan R K g all Rn asked J loops es to so locals mc i mm l x₀ there₀ l₀ o₀ p₀ (temporary_of given) says only here_behind received (took w)
  fronts_of (goes_behind ws ts w front q) =
      subst (λ u. IsFront S k K u) (sym q) (front_behind S A k plan R K g all Rn asked J loops es to so locals mc i mm l x₀ there₀ l₀ o₀ p₀ (temporary_of given) says only here_behind received (took w) front)

  becomes_behind : Among next k.exits → (pre us : List Action) → Tests pre → LeavesAll R us → (y x : ℕ) → Among (as_itself y x) here_scope.variables
      → Becomes S A k next K (in_front S A k plan R K g all Rn asked es to so locals mc i (pre ++ us) ++ here_behind) y x
  becomes_behind nexts pre us tests leave y x j =
      let z = what_is_in_scope S Rn K.loops asked.slots one_for_each asked.types x y j in
      subst (λ v. Becomes S A k next K (in_front S A k plan R K g all Rn asked es to so locals mc i (pre ++ us) ++ here_behind) v x) z.2
      (becomes_so S A k plan R K g all Rn asked es to so locals mc i next nexts k.redeclared (λ w o. (again_special A S.muts_there k w o, again_not_out A k plan w o)) Rs within not_handed (pre ++ us) here_behind
      (leaves_both R pre us (tests_leave R tests) leave) x z.0 (comes S A k plan R K g all Rn asked mays Rs Rr Rd Rb h f given within hb rd fewer wider x z.0 (fewer x z.0 z.1)))

  goes_behind_it : {us : List Action} → TookIt us on → GoesOn S A k K here_scope (us ++ here_behind)
  goes_behind_it (match_all {us = us} x j pre tests (goes_on leave f)) = record {
    exits = j;
    way = end_way S A k plan R K g all Rn asked J loops es to so locals mc i mm l x₀ there₀ l₀ o₀ p₀ (temporary_of given) says only here_behind pre us here_behind tests f received;
    becomes = becomes_behind j pre us tests leave;
  }

  is_match : (n : ℕ) → IsMatchOf S A k K here_scope (pieces_of n here_stands) t
  is_match n = record {
    stays = around_stays K.variables n given (around_both handing.around beginning.acts);
    fronts = λ us w. fronts_of (around_begun K.variables n given (around_both handing.around beginning.acts) (scopes_here n).new w);
    goes_on = λ us r. let z = around_whole K.variables n given (around_both handing.around beginning.acts) r in subst (λ u. GoesOn S A k K here_scope u) (sym z.is) (goes_behind_it (took z.walk));
    leaves = λ us j w. left_so S A k plan R K g all Rn asked J loops es to so locals mc i mm l x₀ there₀ l₀ o₀ p₀ (temporary_of given) says only here_behind t leaving (took (around_away K.variables n given (around_both handing.around beginning.acts) w));
    scopes = scopes_here n;
  }

  pub match_standing : (T : KnownVariables S) × Agrees S Rn T × (T.loops ≡ K.loops) × ((n : ℕ) → (H : List Piece) × ((b : Body) (d : Temporary) → order_body (h (f b)) n d ≡ fill H (order_body b n d)) × IsMatchOf S A k K T H t)
  match_standing = (
    here_scope,
    agrees S Rn K.loops asked.slots one_for_each asked.types,
    known_loops S Rn K.loops asked.slots one_for_each asked.types,
    λ n. (
      pieces_of n here_stands,
      λ b d. ap (λ c. order_body c n d) (stands_so S A k plan R K g all Rn asked mays Rs Rr Rd Rb h f given within hb rd fewer wider b) ∙ body_filled n here_stands b d,
      is_match n,
    ),
  )
