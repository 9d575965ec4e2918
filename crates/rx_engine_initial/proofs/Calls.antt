-- Such statements match the run.
use Rattle.std.proofs.Common.{◌≡◌, ℕ, Bool, true, false, List, [], ◌∷◌, ◌++◌, refl, sym, ◌∙◌, subst, ap}
use Rattle.rx_typed.specs.Tree.{variable}
use Rattle.rx_lower_walks.specs.Actions.{Dead, Action, does}
use Rattle.rx_lower_walks.specs.Orders.{Exit, exit_node, Order}
use Rattle.rx_lower_walks.specs.Walks.{Out, on, leaves, fails, stopped, Walk, IsWalk, Among}
use Rattle.rx_facts_tables.specs.Along.{Switch, behind, after, ahead}
use Rattle.rx_meaning_keeping.proofs.Parts.{Parted}
use Rattle.rx_engine_initial.specs.Tracing.{View, IsQuiet, Traced, only_new, only_old}
use Rattle.rx_engine_initial.specs.Matching.{Hist, Reach, Good, SameOut, Piece, doing, ending, fill, Runs, Fronts, Aways, Stays, dead, closing, IsCall, Closes, Maps, Keeps}
use Rattle.rx_engine_initial.specs.Matching as matching
use Rattle.rx_engine_initial.specs.Variables.{Kept, Sides, KnownVariables, IsSeen, part_set, there_as_a_whole, not_assigned, reference_set, reference_there}
use Rattle.rx_engine_initial.specs.Copies.{world}
use Rattle.rx_engine_initial.specs.Entered.{IsNewHere}
use Rattle.rx_engine_initial.specs.Handing.{Straight}
use Rattle.rx_engine_initial.specs.Calls.{Does, no_piece, one_piece, one_variable, AllNew, StandsFor}
use Rattle.rx_engine_initial.proofs.Tracing.{nil_right, joined}
use Rattle.rx_engine_initial.proofs.Mapping.{good_both}
use Rattle.rx_engine_initial.proofs.InOrder.{dead_in_order}
use Rattle.rx_engine_initial.proofs.Entering.{quiet_end}
use Rattle.rx_engine_initial.proofs.Straight.{Taken, all_taken, some_taken, straightly}
use Rattle.rx_engine_initial.proofs.Handing.{good_front}
use Rattle.rx_engine_initial.proofs.Fates.{fates_kept}
use Rattle.rx_engine_initial.specs.Fates.{Fates}

pub taken_on : {l us : List Action} → Taken l us on → us ≡ l
taken_on all_taken = refl

taken_front : {l us : List Action} → Taken l us stopped → (vs : List Action) × (us ++ vs ≡ l)
taken_front (some_taken vs e) = (vs, e)

pub never_leaves : {A : Type 0} {l us : List Action} {j : Exit} → Taken l us (leaves j) → A
never_leaves h = elim h [ ]

never_fails : {A : Type 0} {l us : List Action} → Taken l us fails → A
never_fails h = elim h [ ]

pub runs_all : {H : List Piece} {l vs : List Action} → Does H l → Runs H vs → vs ≡ l
runs_all no_piece matching.done = refl
runs_all (one_piece {us = us} s d) (matching.does_one {us = u} {vs = v} a r) = ap (λ k. k ++ v) (taken_on (straightly s u on a)) ∙ ap (λ k. us ++ k) (runs_all d r)
runs_all (one_variable d) (matching.begins r) = runs_all d r

pub no_aways : {A : Type 0} {H : List Piece} {l vs : List Action} {j : Exit} → Does H l → Aways H vs j → A
no_aways (one_piece s d) (matching.in_one {us = u} {j = j} a) = never_leaves (straightly s u (leaves j) a)
no_aways (one_piece s d) (matching.past_one a r) = no_aways d r
no_aways (one_variable d) (matching.past_begin r) = no_aways d r
no_aways no_piece a = elim a [ ]

pub stays_there : {H : List Piece} {l : List Action} → Does H l → Stays H
stays_there no_piece = tt
stays_there (one_piece s d) = (λ us a. never_fails (straightly s us fails a), stays_there d)
stays_there (one_variable d) = stays_there d

module _ (S : Sides) (new : Parted S.frame) where
  good_split : (us ks ls : List Action) → Good (world S) us (ks ++ ls) → Good (world S) (us ++ ks) ls
  good_split us [] ls g = subst (λ l. Good (world S) l ls) (sym (nil_right us)) g
  good_split us (a ∷ ks) ls g = subst (λ l. Good (world S) l ls) (joined us (a ∷ []) ks) (good_split (us ++ a ∷ []) ks ls g.1)

  fronts_good : {H : List Piece} {l vs : List Action} → Does H l → Fronts H vs → (us : List Action) → Good (world S) us l → Good (world S) us vs
  fronts_good d matching.none us g = tt
  fronts_good (one_piece {us = ks} {vs = ls} s d) (matching.in_one {us = u} a) us g = let z = taken_front (straightly s u stopped a) in
      good_front S new us u z.0 (subst (λ l. Good (world S) us l) (sym z.1) (good_front S new us ks ls g))
  fronts_good (one_piece {us = ks} {vs = ls} s d) (matching.past_one {us = u} {vs = v} a f) us g = let e = sym (taken_on (straightly s u on a)) in
      good_both (world S) us u v (subst (λ l. Good (world S) us l) e (good_front S new us ks ls g)) (fronts_good d f (us ++ u) (subst (λ l. Good (world S) (us ++ l) ls) e (good_split us ks ls g)))
  fronts_good (one_variable d) (matching.past_begin f) us g = fronts_good d f us g
  fronts_good (one_piece s d) (matching.at_jump {us = u} {j = j} a) us g = never_leaves (straightly s u (leaves j) a)
  fronts_good (one_variable d) (matching.past_end {x = x} {us = u} m f) us g = good_both (world S) us u (does m (Dead x) ∷ []) (fronts_good d f us g) (dead_in_order S (us ++ u) m x, tt)

  -- ---- variables that end

  dead_gives : {vs : List Kept} {V : View} → IsSeen S vs V → (n x : ℕ) → V.old.gives (does n (Dead x)) ≡ false
  dead_gives (part_set z y k m q h l) n x = refl
  dead_gives (there_as_a_whole z y qs q o) n x = refl
  dead_gives (not_assigned z y q) n x = refl
  dead_gives (reference_set z k q h) n x = refl
  dead_gives (reference_there z q) n x = refl

  dead_kills : {vs : List Kept} {V : View} → IsSeen S vs V → (n x : ℕ) → V.live.kills (does n (Dead x)) ≡ false
  dead_kills (part_set z y k m q h l) n x = refl
  dead_kills (there_as_a_whole z y qs q o) n x = refl
  dead_kills (not_assigned z y q) n x = refl
  dead_kills (reference_set z k q h) n x = refl
  dead_kills (reference_there z q) n x = refl

  module _ (R : KnownVariables S) (V : View) (s : IsSeen S R.variables V) where
    old_dead : (us w : List Action) (n x : ℕ) (o : Out) → Traced (IsWalk S.text) V us w → Traced (IsWalk S.text) V us (w ++ dead n x o)
    old_dead us w n x on t = only_old (does n (Dead x)) t (dead_gives s n x) (dead_kills s n x)
    old_dead us w n x (leaves j) t = only_old (does (exit_node j) (Dead x)) t (dead_gives s (exit_node j) x) (dead_kills s (exit_node j) x)
    old_dead us w n x fails t = subst (λ l. Traced (IsWalk S.text) V us l) (sym (nil_right w)) t
    old_dead us w n x stopped t = subst (λ l. Traced (IsWalk S.text) V us l) (sym (nil_right w)) t

    old_closing : (K : List Piece) (us w : List Action) (o : Out) → Traced (IsWalk S.text) V us w → Traced (IsWalk S.text) V us (w ++ closing K o)
    old_closing [] us w o t = subst (λ l. Traced (IsWalk S.text) V us l) (sym (nil_right w)) t
    old_closing (doing q ∷ K) us w o t = old_closing K us w o t
    old_closing (ending n x ∷ K) us w o t = subst (λ l. Traced (IsWalk S.text) V us l) (joined w (closing K o) (dead n x o)) (old_dead us (w ++ closing K o) n x o (old_closing K us w o t))

    new_dead : (us w : List Action) (n x : ℕ) (o : Out) → IsNewHere R.variables x → Traced (IsWalk S.text) V us w → Traced (IsWalk S.text) V (us ++ dead n x o) w
    new_dead us w n x on f t = only_new (does n (Dead x)) t (quiet_end S new R.variables x f s n)
    new_dead us w n x (leaves j) f t = only_new (does (exit_node j) (Dead x)) t (quiet_end S new R.variables x f s (exit_node j))
    new_dead us w n x fails f t = subst (λ l. Traced (IsWalk S.text) V l w) (sym (nil_right us)) t
    new_dead us w n x stopped f t = subst (λ l. Traced (IsWalk S.text) V l w) (sym (nil_right us)) t

    new_closing : (H : List Piece) → AllNew R.variables H → (us w : List Action) (o : Out) → Traced (IsWalk S.text) V us w → Traced (IsWalk S.text) V (us ++ closing H o) w
    new_closing [] f us w o t = subst (λ l. Traced (IsWalk S.text) V l w) (sym (nil_right us)) t
    new_closing (doing q ∷ H) f us w o t = new_closing H f us w o t
    new_closing (ending n x ∷ H) f us w o t = subst (λ l. Traced (IsWalk S.text) V l w) (joined us (closing H o) (dead n x o)) (new_dead (us ++ closing H o) w n x o f.0 (new_closing H f.1 us w o t))

  module _ (vs ws : List Kept) (f : (k : Kept) → Among k vs → Among k ws) where
    seen_too : {V : View} → IsSeen S vs V → IsSeen S ws V
    seen_too (part_set x y n m q h l) = part_set x y n m (f _ q) h l
    seen_too (there_as_a_whole x y qs q o) = there_as_a_whole x y qs (f _ q) o
    seen_too (not_assigned x y q) = not_assigned x y (f _ q)
    seen_too (reference_set x n q h) = reference_set x n (f _ q) h
    seen_too (reference_there x q) = reference_there x (f _ q)

  pub closes_by : (R T : KnownVariables S) (H K : List Piece) → AllNew R.variables H → ((k : Kept) → Among k R.variables → Among k T.variables) → ((l k : ℕ) → Among (l, k) T.loops → Among (l, k) R.loops)
      → Closes (world S) R T H K
  closes_by R T H K new_ones wider loops = record {
    loops = loops;
    ended = λ us w o p e h V s. new_closing R V s H new_ones us (w ++ closing K p) o (old_closing R V s K us w p (h V (seen_too R.variables T.variables wider s)));
  }

  pub closes_so : (R T : KnownVariables S) (H K : List Piece) (q r : Order) → StandsFor S R T H K q r → Closes (world S) R T H K
  closes_so R T H K q r c = closes_by R T H K c.new c.wider c.loops

  pub call_so : Parted S.frame_there → (R T : KnownVariables S) (H K : List Piece) (q r : Order) → StandsFor S R T H K q r → IsCall (world S) R T H K q r
  call_so old R T H K q r c = record {
    stays = stays_there c.does;
    no_fail = c.never_fails;
    in_it = λ us w vs h k f. fronts_good c.does f us (c.orderly us w h k);
    good = λ us w vs h k f. subst (λ l. Good (world S) us l) (sym (runs_all c.does f)) (c.orderly us w h k);
    leaves = λ us w vs j h k a. no_aways c.does a;
    runs = λ us w vs h k f. by us w vs h (runs_all c.does f) (c.through w k);
  }
    where
      by : (us w vs : List Action) → Hist (world S) R us w → vs ≡ c.actions → ((u : List Action) × Runs K u × Fates S R T w c.actions u) → (ws : List Action) × Runs K ws × Hist (world S) T (us ++ vs) (w ++ ws)
      by us w vs h e (u, g, f) = (u, g, subst (λ l. Hist (world S) T (us ++ l) (w ++ u)) (sym e) (fates_kept S new old R us w c.actions u h T f))
