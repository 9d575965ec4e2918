-- Walks through statements around an expression that may jump: a walk of the expression, and then what is done behind it.
use Rattle.std.proofs.Common.{◌≡◌, ℕ, List, [], ◌∷◌, ◌++◌, refl, sym, ◌∙◌, ap}
use Rattle.rx_typed.specs.Tree.{Exp, temporary_of}
use Rattle.rx_lower_walks.specs.Matching.{bindings}
use Rattle.rx_lower_walks.specs.Actions.{Dead, Action, does, in_temporary}
use Rattle.rx_lower_walks.specs.Orders.{Exit, Order, order}
use Rattle.rx_lower_walks.specs.Orders as orders
use Rattle.rx_lower_walks.specs.Walks.{Out, on, leaves, fails, stopped, IsAway, Walk, rests, stops, both, first}
use Rattle.rx_exits_plan.specs.Blocks.{Statement}
use Rattle.rx_engine_initial.specs.Variables.{Kept}
use Rattle.rx_engine_initial.specs.Entered.{IsNewHere}
use Rattle.rx_engine_initial.specs.Matching.{Piece, doing, Runs, does_one, Fronts, past_begin, at_jump, past_end, Aways, Stays}
use Rattle.rx_engine_initial.specs.Matching as matching
use Rattle.rx_engine_initial.specs.Handing.{one_action}
use Rattle.rx_engine_initial.specs.Calls.{Does, one_piece, one_variable, AllNew}
use Rattle.rx_engine_initial.proofs.Tracing.{nil_right, joined}
use Rattle.rx_engine_initial.proofs.Straight.{Taken, all_taken, some_taken, straightly}
use Rattle.rx_engine_initial.proofs.Calls.{taken_on, never_leaves, runs_all, no_aways, stays_there}
use Rattle.rx_engine_initial_calls.specs.RunPieces.{pieces_of}
use Rattle.rx_engine_initial_related.proofs.Acts.{Around, it_alone, assigned, bound_to, acts_pieces, bound_does}
use Rattle.rx_engine_initial_related.proofs.NoFails.{exp_stays}

-- ends of variables that are none of those in scope in front
pub data NewEnds (vs : List Kept) : List Action → Type 0 where
  no_end : NewEnds vs []
  one_end : {m x : ℕ} {us : List Action} → IsNewHere vs x → NewEnds vs us → NewEnds vs (does m (Dead x) ∷ us)

end_more : {vs : List Kept} {us : List Action} (m : ℕ) {x : ℕ} → NewEnds vs us → IsNewHere vs x → NewEnds vs (us ++ does m (Dead x) ∷ [])
end_more m no_end n = one_end n no_end
end_more m (one_end k h) n = one_end k (end_more m h n)

-- a front of a list, and ends
pub record Front (vs : List Kept) (l us : List Action) : Type 0 where
  pub front : List Action
  pub more : List Action
  pub ends : List Action
  pub is_front : front ++ more ≡ l
  pub are : NewEnds vs ends
  pub is : us ≡ front ++ ends

taken_front : {l us : List Action} {o : Out} → Taken l us o → (vs : List Action) × (us ++ vs ≡ l)
taken_front {l = l} all_taken = ([], nil_right l)
taken_front (some_taken vs e) = (vs, e)

fronts_some : {vs : List Kept} {H : List Piece} {l us : List Action} → Does H l → AllNew vs H → Fronts H us → Front vs l us
fronts_some {l = l} d a matching.none = record { front = []; more = l; ends = []; is_front = refl; are = no_end; is = refl }
fronts_some (one_piece {us = u} {vs = w} s d) a (matching.in_one {us = x} h) = let z = taken_front (straightly s x stopped h) in
    record { front = x; more = z.0 ++ w; ends = []; is_front = sym (joined x z.0 w) ∙ ap (λ t. t ++ w) z.1; are = no_end; is = sym (nil_right x) }
fronts_some (one_piece {us = u} {vs = w} s d) a (matching.past_one {us = x} {vs = y} h f) = let z = fronts_some d a f in
    record {
      front = u ++ z.front;
      more = z.more;
      ends = z.ends;
      is_front = joined u z.front z.more ∙ ap (λ t. u ++ t) z.is_front;
      are = z.are;
      is = ap (λ t. t ++ y) (taken_on (straightly s x on h)) ∙ (ap (λ t. u ++ t) z.is ∙ sym (joined u z.front z.ends));
    }
fronts_some (one_piece s d) a (at_jump {us = x} {j = j} h) = never_leaves (straightly s x (leaves j) h)
fronts_some (one_variable d) a (past_begin f) = fronts_some d a.1 f
fronts_some (one_variable {n = n} {x = v} d) a (past_end m f) = let z = fronts_some d a.1 f in
    record { front = z.front; more = z.more; ends = z.ends ++ does m (Dead v) ∷ []; is_front = z.is_front; are = end_more m z.are a.0; is = ap (λ t. t ++ does m (Dead v) ∷ []) z.is ∙ joined z.front z.ends (does m (Dead v) ∷ []) }

-- ---- a part, and what is done behind it

pub record Whole (s : Order) (rest us : List Action) : Type 0 where
  pub inner : List Action
  pub walk : Walk s inner on
  pub is : us ≡ inner ++ rest

pub data Begun (vs : List Kept) (s : Order) (rest us : List Action) : Type 0 where
  stops_in : Walk s us stopped → Begun vs s rest us
  left_by : (j : Exit) → Walk s us (leaves j) → Begun vs s rest us
  goes_behind : (ws ts : List Action) → Walk s ws on → Front vs rest ts → us ≡ ws ++ ts → Begun vs s rest us

module _ (vs : List Kept) (s : Order) (H : List Piece) (rest : List Action) (d : Does H rest) where
  pieces_whole : {us : List Action} → Runs (doing s ∷ H) us → Whole s rest us
  pieces_whole (does_one {us = us} w r) = record { inner = us; walk = w; is = ap (λ l. us ++ l) (runs_all d r) }

  pieces_begun : {us : List Action} → AllNew vs H → Fronts (doing s ∷ H) us → Begun vs s rest us
  pieces_begun a matching.none = stops_in rests
  pieces_begun a (matching.in_one w) = stops_in w
  pieces_begun a (matching.past_one {us = us} {vs = ts} w f) = goes_behind us ts w (fronts_some d a f) refl
  pieces_begun a (at_jump {j = j} w) = left_by j w

  pieces_away : {us : List Action} {j : Exit} → Aways (doing s ∷ H) us j → Walk s us (leaves j)
  pieces_away (matching.in_one w) = w
  pieces_away (matching.past_one w a) = no_aways d a

-- ---- with an action behind it

module _ (vs : List Kept) (s : Order) (stays : (us : List Action) → Walk s us fails → ⊥) (a : Action) (rest : List Action) where
  act_taken : {us : List Action} {o : Out} → Walk (orders.act a) us o → Taken (a ∷ []) us o
  act_taken {us = us} {o = o} w = straightly one_action us o w

  then_whole : {us : List Action} → Walk (orders.then s (orders.act a)) us on → Whole s (a ∷ []) us
  then_whole (both {us = us} w k) = record { inner = us; walk = w; is = ap (λ l. us ++ l) (taken_on (act_taken k)) }
  then_whole (first e w) = elim e [ ]

  one_front : {ts : List Action} {o : Out} → Taken (a ∷ []) ts o → Front vs (a ∷ rest) ts
  one_front {ts = ts} t = let z = taken_front t in
      record { front = ts; more = z.0 ++ rest; ends = []; is_front = sym (joined ts z.0 rest) ∙ ap (λ l. l ++ rest) z.1; are = no_end; is = sym (nil_right ts) }

  away_begun : {us : List Action} {o : Out} → IsAway o → Walk s us o → Begun vs s (a ∷ rest) us
  away_begun {o = on} e w = elim e [ ]
  away_begun {o = leaves j} e w = left_by j w
  away_begun {us = us} {o = fails} e w = absurd (stays us w)
  away_begun {o = stopped} e w = stops_in w

  then_begun : {us : List Action} {o : Out} → Walk (orders.then s (orders.act a)) us o → Begun vs s (a ∷ rest) us
  then_begun rests = stops_in rests
  then_begun (stops h) = then_begun h
  then_begun (both {us = us} {vs = ts} w k) = goes_behind us ts w (one_front (act_taken k)) refl
  then_begun (first e w) = away_begun e w

  no_jump : {A : Type 0} {us : List Action} {j : Exit} → Walk (orders.act a) us (leaves j) → A
  no_jump w = elim w [ ]

  then_away : {us : List Action} {j : Exit} → Walk (orders.then s (orders.act a)) us (leaves j) → Walk s us (leaves j)
  then_away (both w k) = no_jump k
  then_away (first e w) = w

  module _ (H : List Piece) (d : Does H rest) where
    acted_whole : {us : List Action} → Runs (doing (orders.then s (orders.act a)) ∷ H) us → Whole s (a ∷ rest) us
    acted_whole (does_one {us = us} {vs = ts} w r) = let z = then_whole w in
        record { inner = z.inner; walk = z.walk; is = ap (λ l. l ++ ts) z.is ∙ (joined z.inner (a ∷ []) ts ∙ ap (λ l. z.inner ++ (a ∷ l)) (runs_all d r)) }

    acted_begun : {us : List Action} → AllNew vs H → Fronts (doing (orders.then s (orders.act a)) ∷ H) us → Begun vs s (a ∷ rest) us
    acted_begun n matching.none = stops_in rests
    acted_begun n (matching.in_one w) = then_begun w
    acted_begun n (matching.past_one {us = us} {vs = ts} w f) = let z = then_whole w in let y = fronts_some d n f in
        goes_behind z.inner (a ∷ ts) z.walk (record { front = a ∷ y.front; more = y.more; ends = y.ends; is_front = ap (λ l. a ∷ l) y.is_front; are = y.are; is = ap (λ l. a ∷ l) y.is }) (ap (λ l. l ++ ts) z.is ∙ joined z.inner (a ∷ []) ts)
    acted_begun n (at_jump {j = j} w) = left_by j (then_away w)

    acted_away : {us : List Action} {j : Exit} → Aways (doing (orders.then s (orders.act a)) ∷ H) us j → Walk s us (leaves j)
    acted_away (matching.in_one w) = then_away w
    acted_away (matching.past_one w r) = no_aways d r

    acted_stays : Stays (doing (orders.then s (orders.act a)) ∷ H)
    acted_stays = (λ us w. by w, stays_there d)
      where
        by : {us : List Action} → Walk (orders.then s (orders.act a)) us fails → ⊥
        by (both w k) = elim k [ ]
        by (first {us = us} e w) = stays us w

-- ---- statements around an expression

module _ (vs : List Kept) (n : ℕ) (e : Exp) where
  stays_it : (us : List Action) → Walk (order e (temporary_of e)) us fails → ⊥
  stays_it us w = exp_stays e (temporary_of e) us w

  pub around_whole : {ss : List Statement} {us ts : List Action} → Around e ss us → Runs (pieces_of n ss) ts → Whole (order e (temporary_of e)) us ts
  around_whole (it_alone {ss = ss} {us = us} a) r = pieces_whole vs (order e (temporary_of e)) (pieces_of n ss) us (acts_pieces n a) r
  around_whole (assigned {ss = ss} {us = us} a) r = acted_whole vs (order e (temporary_of e)) stays_it _ us (pieces_of n ss) (acts_pieces n a) r
  around_whole (bound_to {p = p} {ss = ss} {us = us} {vs = ws} d a) r =
      pieces_whole vs (order e (temporary_of e)) _ (ws ++ us) (bound_does n (in_temporary (temporary_of e)) (bindings [] p) (pieces_of n ss) d (acts_pieces n a)) r

  pub around_begun : {ss : List Statement} {us ts : List Action} → Around e ss us → AllNew vs (pieces_of n ss) → Fronts (pieces_of n ss) ts → Begun vs (order e (temporary_of e)) us ts
  around_begun (it_alone {ss = ss} {us = us} a) new f = pieces_begun vs (order e (temporary_of e)) (pieces_of n ss) us (acts_pieces n a) new f
  around_begun (assigned {ss = ss} {us = us} a) new f = acted_begun vs (order e (temporary_of e)) stays_it _ us (pieces_of n ss) (acts_pieces n a) new f
  around_begun (bound_to {p = p} {ss = ss} {us = us} {vs = ws} d a) new f =
      pieces_begun vs (order e (temporary_of e)) _ (ws ++ us) (bound_does n (in_temporary (temporary_of e)) (bindings [] p) (pieces_of n ss) d (acts_pieces n a)) new f

  pub around_away : {ss : List Statement} {us ts : List Action} {j : Exit} → Around e ss us → Aways (pieces_of n ss) ts j → Walk (order e (temporary_of e)) ts (leaves j)
  around_away (it_alone {ss = ss} {us = us} a) r = pieces_away vs (order e (temporary_of e)) (pieces_of n ss) us (acts_pieces n a) r
  around_away (assigned {ss = ss} {us = us} a) r = acted_away vs (order e (temporary_of e)) stays_it _ us (pieces_of n ss) (acts_pieces n a) r
  around_away (bound_to {p = p} {ss = ss} {us = us} {vs = ws} d a) r =
      pieces_away vs (order e (temporary_of e)) _ (ws ++ us) (bound_does n (in_temporary (temporary_of e)) (bindings [] p) (pieces_of n ss) d (acts_pieces n a)) r

  pub around_stays : {ss : List Statement} {us : List Action} → Around e ss us → Stays (pieces_of n ss)
  around_stays (it_alone a) = (stays_it, stays_there (acts_pieces n a))
  around_stays (assigned {ss = ss} {us = us} a) = acted_stays vs (order e (temporary_of e)) stays_it _ us (pieces_of n ss) (acts_pieces n a)
  around_stays (bound_to {p = p} {ss = ss} d a) = (stays_it, stays_there (bound_does n (in_temporary (temporary_of e)) (bindings [] p) (pieces_of n ss) d (acts_pieces n a)))
