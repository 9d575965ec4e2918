-- The call of a plan, and the match of one, stand for its run: each variable in scope behind has its fate, and what the caller does is in order.
use Rattle.std.proofs.Common.{◌≡◌, ◌≢◌, ℕ, true, false, not, List, [], ◌∷◌, ◌++◌, refl, sym, ◌∙◌, subst, ap}
use Rattle.rx_typed.specs.Tree.{variable, Function, own}
use Rattle.rx_lower_walks.specs.Actions.{Action}
use Rattle.rx_lower_walks.specs.Orders.{Order}
use Rattle.rx_lower_walks.specs.Orders as orders
use Rattle.rx_lower_walks.specs.Walks.{Out, stopped, leaves, fails, Walk, rests, both, halts, IsWalk, Among}
use Rattle.rx_facts_tables.specs.Along.{ahead}
use Rattle.rx_facts_tables.specs.Places.{Frame}
use Rattle.rx_facts_tables.specs.Setting.{is_set, AllSet}
use Rattle.rx_facts_tables.specs.Wholes.{was_assigned}
use Rattle.rx_facts_tables.specs.Initialised.{IsFixed}
use Rattle.rx_facts_tables.specs.Live.{living}
use Rattle.rx_exits_plan.specs.Points.{Exit, next, returns, enters}
use Rattle.rx_exits_plan.specs.Marked.{shown}
use Rattle.rx_exits_plan.specs.Asked.{Asked}
use Rattle.rx_exits_plan.specs.Plan.{Plan, IsPlan}
use Rattle.rx_exits_plan.specs.PartlyMoved.{PartlyMoved}
use Rattle.rx_meaning_keeping.proofs.Parts.{Parted, parted}
use Rattle.rx_engine_simulation.specs.Sights.{In}
use Rattle.rx_engine_related.specs.AboutRun.{special_of, text_of}
use Rattle.rx_engine_related.specs.Accepted.{Accepted}
use Rattle.rx_engine_initial.specs.Matching.{Hist, Reach, Good, Comes, gone, both_leave, Piece, doing, ending, fill, Runs, done, does_one, begins, Aways, Closes, IsCall, Matches, is_call}
use Rattle.rx_engine_initial.specs.Matching as matching
use Rattle.rx_engine_initial.specs.Variables.{as_itself, by_reference, Sides, both_end, LikePart, KnownVariables, set_view, fresh_view, part_set, not_assigned}
use Rattle.rx_engine_initial.specs.Copies.{world}
use Rattle.rx_engine_initial.specs.Planned.{IsTextOf}
use Rattle.rx_engine_initial.specs.Fates.{NotLive, Fate, untouched, lent, handed_out, needless, begins_again, Fates}
use Rattle.rx_engine_initial.specs.Calls.{StandsFor}
use Rattle.rx_engine_initial.proofs.Tracing.{holds_here}
use Rattle.rx_engine_initial.proofs.Ways.{no}
use Rattle.rx_engine_initial.proofs.Uses.{all_turned, not_true_is}
use Rattle.rx_engine_initial.proofs.Keeping.{whole_gives}
use Rattle.rx_engine_initial.proofs.Mapping.{good_both}
use Rattle.rx_engine_initial.proofs.Handing.{good_front, handing_in_order}
use Rattle.rx_engine_initial.proofs.Calls.{call_so, closes_by}
use Rattle.rx_engine_initial.proofs.Fates.{fates_kept}
use Rattle.rx_engine_initial_calls.specs.Received.{IsWay}
use Rattle.rx_engine_initial_calls.specs.Becoming.{Becomes, is_unnamed, is_lent, is_handed, is_gone, is_spent, is_again}
use Rattle.rx_engine_initial_calls.specs.GoneThrough.{IsGoneThrough}
use Rattle.rx_engine_initial_calls.specs.CallOf.{IsCallOf}
use Rattle.rx_engine_initial_calls.specs.MatchOf.{IsFront, LeavesSo, by_return, by_jump, GoesOn, IsMatchOf, HasWays}
use Rattle.rx_engine_initial_calls.proofs.Entry.{entry, param_set, param_stands, param_was, param_ahead, out_was, not_needed, not_live_there, local_not}
use Rattle.rx_engine_initial_calls.proofs.Receiving.{handing_leaves, receives_good, no_variable}
use Rattle.rx_modes_uses.specs.NotMut.{NotMut}

-- a walk through pieces is one of what they stand in front of, cut off
runs_walk : {K : List Piece} {u : List Action} (r : Order) → Runs K u → Walk (fill K r) u stopped
runs_walk r done = rests
runs_walk r (does_one a k) = both a (runs_walk r k)
runs_walk r (begins k) = halts (runs_walk r k)

module _ (A : Asked) (k : Plan) (plan : IsPlan A k) (S : Sides) (acc : Accepted A S.muts_there) (o : IsTextOf S A k) (whole : (x : ℕ) → ¬ (PartlyMoved A k x)) (passed : (x : ℕ) → ¬ (NotMut A S.muts_there k x)) (new : Parted S.frame) where
  old : Parted S.frame_there
  old = subst (λ (F : Frame). Parted F) (sym o.types) (parted A.frame acc.sized)

  -- ---- the way of an exit, beside a walk of the text to it

  module _ (R : KnownVariables S) (t : Order) (e : Exit) (exits : Among e k.exits) (u : List Action) (out : Out) (walk : Walk t u out) (g : IsGoneThrough A k e u) where
    module _ (w : List Action) (reach : Reach (world S) t w) where
      there : IsWalk (text_of A k) (w ++ u)
      there = subst (λ (f : Function). IsWalk f (w ++ u)) o.text (reach u out walk)

      all_set : (y : ℕ) → Among y k.params → AllSet S.frame_there w (own y)
      all_set y i = subst (λ (F : Frame). AllSet F w (own y)) (sym o.types) (param_set A S.muts_there acc k plan whole passed e exits w u there g y i)

      not_live : e ≢ returns → (y : ℕ) → In y (special_of A S.muts_there k) → (Among y (k.outs e) → ⊥) → NotLive S (w ++ u) y
      not_live n y s f ws c = not_needed A S.muts_there acc k plan whole passed e exits w u there g n y s f ws (subst (λ (f : Function). IsWalk f ((w ++ u) ++ ws)) o.text c)

      fate : e ≢ returns → (us : List Action) (x y : ℕ) → Becomes S A k e R us x y → Fate S R w us u x y
      fate m us x y (is_unnamed i n f) = untouched i f (λ a j. g.named a j y n)
      fate m us x y (is_lent i p f) = lent i f (all_set y p) (param_stands A S.muts_there acc k plan whole passed e exits w u there g y p) (param_ahead A S.muts_there acc k plan whole passed e exits w u there g y p)
          (param_was A S.muts_there acc k plan whole passed e exits w u there g y p)
      fate m us x y (is_handed i b c n t ss q f) = handed_out b c n t ss q f (out_was A S.muts_there acc k plan whole passed e exits w u there g y i)
      fate m us x y (is_gone i s d n f) = needless i (not_live m y s n) f (λ a j. g.declared a j y d)
      fate m us x y (is_spent i d n f) = needless i (λ ws c. not_live_there A S.muts_there acc k plan whole passed e exits w u there g y n ws (subst (λ (f : Function). IsWalk f ((w ++ u) ++ ws)) o.text c)) f (λ a j. g.declared a j y d)
      fate m us x y (is_again s n b c l q f) = begins_again (not_live m y s n) b c l q f

      pub fates : e ≢ returns → (T : KnownVariables S) (us : List Action) → ((x y : ℕ) → Among (as_itself x y) T.variables → Becomes S A k e R us x y) → ((x : ℕ) → Among (by_reference x) T.variables → ⊥)
          → Fates S R T w us u
      fates n T us f h = record {
        fates = λ x y i. fate n us x y (f x y i);
        references = λ x i. absurd (h x i);
      }

      module _ (us : List Action) (H : Hist (world S) R us w) where
        -- a param is all set here
        param_here : (x y : ℕ) → Among (as_itself x y) R.variables → Among y k.params → AllSet S.frame us (own x)
        param_here x y j l n p = of ((R.alike x y j).parts n p)
          where
            right : (l : List Action) → l ++ [] ≡ l
            right [] = refl
            right (a ∷ l) = ap (λ v. a ∷ v) (right l)

            ahead_there : ahead (living (variable y)) u ≡ true
            ahead_there = subst (λ v. ahead (living (variable y)) v ≡ true) (right u) (param_ahead A S.muts_there acc k plan whole passed e exits w u there g y l [])

            of : ((m : ℕ) × LikePart S x y n m) → is_set S.frame us n ≡ true
            of (m, d) = holds_here (IsWalk S.text) (set_view S n y m) (whole_gives S new old R (part_set x y n m j p d)) (H (set_view S n y m) (part_set x y n m j p d)) u
                (reach u out walk) ahead_there (all_set y l m (sym (d [] [] both_end) ∙ p))

        -- a variable for a local that is handed out was not assigned here
        local_here : (x y : ℕ) → Among (as_itself x y) R.variables → Among y k.locals → Among y (k.outs e) → IsFixed S.muts x → was_assigned us x ≡ false
        local_here x y j l h f = not_true_is (was_assigned us x) (sym (all_turned x us false) ∙ holds_here (IsWalk S.text) (fresh_view x y) (λ a q. no q) (H (fresh_view x y) (not_assigned x y j)) (shown enters ∷ [])
            (subst (λ (f : Function). IsWalk f (w ++ shown enters ∷ [])) (sym o.text) (entry A S.muts_there acc k plan whole passed e exits w u there g)) refl
            (all_turned y w false ∙ ap not (local_not A S.muts_there acc k plan whole passed e exits w u there g y l h ((R.alike x y j).fixed f))))

        pub orderly : (vs : List Action) → IsWay S k e R vs → Good (world S) us vs
        orderly vs h = subst (λ l. Good (world S) us l) (sym h.is) (good_both (world S) us h.arguments h.received
            (handing_in_order S new h.takes us (λ x i. let z = h.for_params x i in param_here x z.0 z.1 z.2))
            (receives_good S new k e R h.receives (us ++ h.arguments) (λ x i. no_variable x i) (λ x y i l n f d. handing_leaves x h.takes us (local_here x y i l n f))))

  -- ---- the call alone

  module _ (R T : KnownVariables S) (H K : List Piece) (q r : Order) (ends : Among next k.exits) (h : IsCallOf S A k R T H) (u : List Action) (runs : Runs K u) (g : IsGoneThrough A k next u) where
    stands_for : ((us : List Action) → Walk q us fails → ⊥) → StandsFor S R T H K q r
    stands_for f = record {
      actions = h.actions;
      does = h.does;
      orderly = λ us w H0 c. orderly R (fill K r) next ends u stopped (runs_walk r runs) g w c us H0 h.actions h.way;
      through = λ w c. (u, runs, fates R (fill K r) next ends u stopped (runs_walk r runs) g w c (λ z. cc) T h.actions h.becomes h.scopes.no_reference);
      new = h.scopes.new;
      wider = h.scopes.wider;
      loops = h.scopes.loops;
      never_fails = f;
    }

    pub call_matches : ((us : List Action) → Walk q us fails → ⊥) → Matches (world S) T q r → Matches (world S) R (fill H q) (fill K r)
    call_matches f m = is_call (call_so S new old R T H K q r (stands_for f)) (closes_by S new R T H K h.scopes.new h.scopes.wider h.scopes.loops) m

  -- ---- its match

  module _ (R T : KnownVariables S) (H K : List Piece) (q r : Order) (h : IsMatchOf S A k R T H (fill K r)) (ways : HasWays A k K (fill K r)) where
    module _ (us w : List Action) (H0 : Hist (world S) R us w) (reach : Reach (world S) (fill K r) w) where
      front_good : (vs : List Action) → IsFront S k R vs → Good (world S) us vs
      front_good vs f = let z = ways.through f.exit f.exits in good_front S new us vs f.rest (subst (λ l. Good (world S) us l) (sym f.is)
          (orderly R (fill K r) f.exit f.exits z.0 z.1 z.2 z.3 w reach us H0 f.all f.way))

      leaves_so : (vs : List Action) (j : orders.Exit) → LeavesSo S A k R (fill K r) vs j → Comes (world S) R (fill K r) us w vs (leaves j)
      leaves_so vs _ by_return = gone
      leaves_so vs _ (by_jump {i = i} {u = u} e exits n same walk g b) = matching.whole (leaves i) u (both_leave same) walk
          (fates_kept S new old R us w vs u H0 R (fates R (fill K r) e exits u (leaves i) walk g w reach n R vs b (λ x z. h.scopes.no_reference x (h.scopes.wider (by_reference x) z))))

      goes_on : (vs : List Action) → GoesOn S A k R T vs → (ws : List Action) × Runs K ws × Hist (world S) T (us ++ vs) (w ++ ws)
      goes_on vs f = let z = ways.to_end f.exits in
          (z.0, z.1, fates_kept S new old R us w vs z.0 H0 T (fates R (fill K r) next f.exits z.0 stopped (runs_walk r z.1) z.2 w reach (λ q. cc) T vs f.becomes h.scopes.no_reference))

      end_good : (vs : List Action) → GoesOn S A k R T vs → Good (world S) us vs
      end_good vs f = let z = ways.through next f.exits in orderly R (fill K r) next f.exits z.0 z.1 z.2 z.3 w reach us H0 vs f.way

    pub match_matches : ((us : List Action) → Walk q us fails → ⊥) → Matches (world S) T q r → Matches (world S) R (fill H q) (fill K r)
    match_matches f m = is_call (record {
      stays = h.stays;
      no_fail = f;
      in_it = λ us w vs H0 c i. front_good us w H0 c vs (h.fronts vs i);
      good = λ us w vs H0 c i. end_good us w H0 c vs (h.goes_on vs i);
      leaves = λ us w vs j H0 c i. leaves_so us w H0 c vs j (h.leaves vs j i);
      runs = λ us w vs H0 c i. goes_on us w H0 c vs (h.goes_on vs i);
    }) (closes_by S new R T H K h.scopes.new h.scopes.wider h.scopes.loops) m
