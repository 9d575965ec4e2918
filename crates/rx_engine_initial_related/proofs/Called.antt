-- What the relation of trees puts in place of a run, without a match, is the call of the plan.
use Rattle.std.proofs.Common.{◌≡◌, ◌⊎◌, inl, inr, ℕ, Bool, not, ◌&&◌, List, [], ◌∷◌, ◌++◌, Some, sym, ◌∙◌, subst, ap, true≢false}
use Rattle.rx_typed.specs.Tree as tree
use Rattle.rx_typed.specs.Tree.{Temporary, Mark, Parameter, Operands, Body, temporary_of}
use Rattle.rx_lower_walks.specs.Actions.{Action}
use Rattle.rx_lower_walks.specs.Orders.{order, order_body}
use Rattle.rx_lower_walks.specs.Walks.{Among}
use Rattle.rx_facts_tables.proofs.Fronts.{both_true}
use Rattle.rx_exits_plan.specs.Blocks.{Statement, before, declared_by_all}
use Rattle.rx_exits_plan.specs.Occurrences.{has_number, is_direct, is_named_behind}
use Rattle.rx_exits_plan.specs.Points.{next}
use Rattle.rx_exits_plan.specs.Asked.{Asked}
use Rattle.rx_exits_plan.specs.Plan.{Plan, IsPlan, variables_of, is_redeclared}
use Rattle.rx_modes_policy.specs.declared.uses.Mode.{Mode}
use Rattle.rx_engine_simulation.specs.Sights.{special, Sight, sight, Renaming, sight_of}
use Rattle.rx_engine_simulation.specs.Arrivals.{Within}
use Rattle.rx_engine_related.specs.Premises.{NotHanded}
use Rattle.rx_engine_related.specs.Given.{GivenTo, LocalsOf, EntersWith, enters_with}
use Rattle.rx_engine_related.specs.Handed.{HandsBack, Redeclared, Handed, handed_on}
use Rattle.rx_engine_related.proofs.Choosing.{of_those}
use Rattle.rx_engine_related.proofs.Specials.{again_special, again_not_out}
use Rattle.rx_engine_related.proofs.Outs.{none_direct}
use Rattle.rx_engine_initial.specs.Variables.{as_itself, by_reference, Kept, Sides, KnownVariables}
use Rattle.rx_engine_initial.specs.Matching.{Piece, fill}
use Rattle.rx_engine_initial.specs.Copies.{easy_call}
use Rattle.rx_engine_initial.specs.Entered.{IsNewHere}
use Rattle.rx_engine_initial.specs.Handing.{Straight, one_action, in_sequence}
use Rattle.rx_engine_initial.proofs.Tracing.{joined}
use Rattle.rx_engine_initial_calls.specs.Received.{MayTake, does_one, IsWay}
use Rattle.rx_engine_initial_calls.specs.Becoming.{Becomes}
use Rattle.rx_engine_initial_calls.specs.CallOf.{Scopes, IsCallOf}
use Rattle.rx_engine_initial_calls.specs.RunPieces.{pieces_of}
use Rattle.rx_engine_initial_calls.proofs.GoingThrough.{body_filled, before_both}
use Rattle.rx_engine_initial_forms.specs.Agreeing.{Agrees}
use Rattle.rx_engine_initial_related.specs.CallerAsked.{GivenSo, EntersSo, CallerAsked}
use Rattle.rx_engine_initial_related.proofs.Scope.{AllSlots, Injective, scope_injective, nothing_behind, new_here, known, known_loops, in_scope, none_by_reference, what_is_in_scope, agrees}
use Rattle.rx_engine_initial_related.proofs.Acts.{around_both, around_acts, acts_pieces, all_new}
use Rattle.rx_engine_initial_related.proofs.Coming.{Comes, none_left, comes_both}
use Rattle.rx_engine_initial_related.proofs.PuttingBack.{Again, begun_again, had_in_front}
use Rattle.rx_engine_initial_related.proofs.Lists.{declared_split}
use Rattle.rx_engine_initial_related.proofs.HandingBack.{Hands, hands}
use Rattle.rx_engine_initial_related.proofs.Becoming.{may, call, args, in_front, becomes_so}

-- around what gives what the run's end hands out, the scopes in front and behind
module _ (S : Sides) (A : Asked) (k : Plan) (plan : IsPlan A k) (R : Renaming) (K : KnownVariables S) (g : Agrees S R K) (all : AllSlots R) (Rn : Renaming) (asked : CallerAsked S A k R Rn)
    (mays : (x y : ℕ) → sight_of R x ≡ Some (sight y special) → Among x (k.outs next) → MayTake S k next y x) (Rs Rr Rd Rb : Renaming) (h f : Body → Body) (e : tree.Exp) (within : Within Rs R)
    (hb : HandsBack A S.muts_there k R e Rs (k.outs next) Rr h) (rd : Redeclared Rb Rr k.redeclared f Rd) (fewer : Within Rn Rd) (wider : Within R Rn) where
  pub hand : Hands S A k k.redeclared R K g all mays e Rs Rr h
  hand = hands S A k k.redeclared R K g all mays e hb (λ x z c d p q r. scope_injective S R K g all x z c d (within x c p) (within z d q) r) (λ x j. j)

  -- what is declared again is none of those outside
  not_again : (x : ℕ) (s : Sight) → sight_of R x ≡ Some s → Among x k.redeclared → ⊥
  not_again x s p j =
      let q = (of_those (is_redeclared A (k.outs next)) (variables_of A) (subst (λ l. Among x l) plan.redeclared j)).1 in
      let d = both_true (is_direct A.run A.home.body x && is_named_behind A.run A.home.body x) (not (has_number x (k.outs next))) q in
      true≢false (sym (both_true (is_direct A.run A.home.body x) (is_named_behind A.run A.home.body x) d.0).0 ∙ none_direct A x (asked.outside x s p))

  pub begun : Again S A S.muts_there k next k.redeclared R K g all mays Rr Rd f
  begun = begun_again S A S.muts_there k next k.redeclared R K g all mays rd hand.injective (λ x j. j) (λ z s p. sym (had_in_front rd z (not_again z s p)) ∙ fewer z s (wider z s p))

  abbrev behind : List Action
  behind = hand.actions ++ begun.actions

  abbrev stands : List Statement
  stands = hand.statements ++ begun.statements

  pub stands_so : (b : Body) → h (f b) ≡ before stands b
  stands_so b = hand.is (f b) ∙ (ap (λ c. before hand.statements c) (begun.is b) ∙ before_both hand.statements begun.statements b)

  pub comes : Comes k next k.redeclared Rs behind Rd
  comes = comes_both k next k.redeclared Rs Rr Rd hand.actions begun.actions hand.comes begun.comes

  -- ---- what is in scope behind

  pub injective : Injective Rn
  injective x z c d p q r = begun.injective x z c d (fewer x c p) (fewer z d q) r

  abbrev scope : KnownVariables S
  scope = known S Rn K.loops asked.slots injective asked.types

  begins_new : (z : ℕ) → Among z (declared_by_all hand.statements) ⊎ Among z (declared_by_all begun.statements) → IsNewHere K.variables z
  begins_new z (inl j) = new_here S R K g all z (hand.new z j)
  begins_new z (inr j) = begun.new z j

  wider_scope : (c : Kept) → Among c K.variables → Among c scope.variables
  wider_scope (as_itself y x) j = let z = g.no_others x y j in in_scope S Rn K.loops asked.slots injective asked.types x (sight y z.0) (wider x (sight y z.0) z.1)
  wider_scope (by_reference y) j = absurd (nothing_behind S R K g all y j)

  pub scopes : (n : ℕ) → Scopes S K scope (pieces_of n stands)
  scopes n = record {
    no_reference = λ y j. none_by_reference S Rn K.loops asked.slots injective asked.types y j;
    new = all_new K.variables n stands (λ z j. begins_new z (declared_split z hand.statements begun.statements j));
    wider = wider_scope;
    loops = λ l m j. subst (λ v. Among (l, m) v) (known_loops S Rn K.loops asked.slots injective asked.types) j;
  }

-- ---- the call

module _ (S : Sides) (A : Asked) (k : Plan) (plan : IsPlan A k) (nexts : Among next k.exits) (R : Renaming) (K : KnownVariables S) (g : Agrees S R K) (all : AllSlots R) (Rn : Renaming) (asked : CallerAsked S A k R Rn)
    {again : Bool} {cold : List ℕ} {modes : List Mode} (es : Operands) {ps : List Parameter} {Rp : Renaming} (to : GivenTo again R cold [] k.params modes es ps Rp) (so : GivenSo A k to)
    {ls : List (ℕ × ℕ)} {Rl : Renaming} (locals : LocalsOf R Rp k.locals ls Rl) (Rs Rr Rd Rb : Renaming) (h f : Body → Body) (mc : Mark) (i : ℕ) (within : Within Rs R) (not_handed : NotHanded A S.muts_there k next Rs)
    (hb : HandsBack A S.muts_there k R (tree.call mc i es) Rs (k.outs next) Rr h) (rd : Redeclared Rb Rr k.redeclared f Rd) (fewer : Within Rn Rd) (wider : Within R Rn) where
  abbrev handing : Hands S A k k.redeclared R K g all (may S A k plan R K g all Rn asked next nexts) (tree.call mc i es) Rs Rr h
  handing = hand S A k plan R K g all Rn asked (may S A k plan R K g all Rn asked next nexts) Rs Rr Rd Rb h f (tree.call mc i es) within hb rd fewer wider

  abbrev beginning : Again S A S.muts_there k next k.redeclared R K g all (may S A k plan R K g all Rn asked next nexts) Rr Rd f
  beginning = begun S A k plan R K g all Rn asked (may S A k plan R K g all Rn asked next nexts) Rs Rr Rd Rb h f (tree.call mc i es) within hb rd fewer wider

  abbrev here_in_front : List Action
  here_in_front = in_front S A k plan R K g all Rn asked es to so locals mc i []

  abbrev here_behind : List Action
  here_behind = handing.actions ++ beginning.actions

  abbrev here_stands : List Statement
  here_stands = handing.statements ++ beginning.statements

  abbrev one_for_each : Injective Rn
  one_for_each = injective S A k plan R K g all Rn asked (may S A k plan R K g all Rn asked next nexts) Rs Rr Rd Rb h f (tree.call mc i es) within hb rd fewer wider

  abbrev here_scope : KnownVariables S
  here_scope = known S Rn K.loops asked.slots one_for_each asked.types

  straight : Straight (order (tree.call mc i es) (temporary_of (tree.call mc i es))) here_in_front
  straight = in_sequence (args S A k plan R K g all Rn asked es to so locals mc i).straight one_action

  way : IsWay S k next K (here_in_front ++ here_behind)
  way = record {
    taken = (args S A k plan R K g all Rn asked es to so locals mc i).taken;
    arguments = (args S A k plan R K g all Rn asked es to so locals mc i).actions;
    takes = (args S A k plan R K g all Rn asked es to so locals mc i).handing;
    for_params = λ y j. let z = (args S A k plan R K g all Rn asked es to so locals mc i).for_params y j in (z.0, z.1, z.2);
    received = call S A k plan R K g all Rn asked es to so locals mc i ∷ here_behind;
    receives = does_one easy_call (handing.receives beginning.actions beginning.receives []);
    is = joined (args S A k plan R K g all Rn asked es to so locals mc i).actions (call S A k plan R K g all Rn asked es to so locals mc i ∷ []) here_behind;
  }

  becomes : (y x : ℕ) → Among (as_itself y x) here_scope.variables → Becomes S A k next K (here_in_front ++ here_behind) y x
  becomes y x j =
      let z = what_is_in_scope S Rn K.loops asked.slots one_for_each asked.types x y j in
      subst (λ v. Becomes S A k next K (here_in_front ++ here_behind) v x) z.2
      (becomes_so S A k plan R K g all Rn asked es to so locals mc i next nexts k.redeclared (λ w o. (again_special A S.muts_there k w o, again_not_out A k plan w o)) Rs within not_handed [] here_behind (λ w s q. none_left s.to) x z.0
      (comes S A k plan R K g all Rn asked (may S A k plan R K g all Rn asked next nexts) Rs Rr Rd Rb h f (tree.call mc i es) within hb rd fewer wider x z.0 (fewer x z.0 z.1)))

  pub standing : (T : KnownVariables S) × Agrees S Rn T × (T.loops ≡ K.loops) × ((n : ℕ) → (H : List Piece) × ((b : Body) (d : Temporary) → order_body (h (f b)) n d ≡ fill H (order_body b n d)) × IsCallOf S A k K T H)
  standing = (
    here_scope,
    agrees S Rn K.loops asked.slots one_for_each asked.types,
    known_loops S Rn K.loops asked.slots one_for_each asked.types,
    λ n. (
      pieces_of n here_stands,
      λ b d. ap (λ c. order_body c n d) (stands_so S A k plan R K g all Rn asked (may S A k plan R K g all Rn asked next nexts) Rs Rr Rd Rb h f (tree.call mc i es) within hb rd fewer wider b) ∙ body_filled n here_stands b d,
      record {
        actions = here_in_front ++ here_behind;
        way = way;
        does = acts_pieces n (around_acts straight (around_both handing.around beginning.acts));
        becomes = becomes;
        scopes = scopes S A k plan R K g all Rn asked (may S A k plan R K g all Rn asked next nexts) Rs Rr Rd Rb h f (tree.call mc i es) within hb rd fewer wider n;
      },
    ),
  )

pub call_stands : (S : Sides) (A : Asked) (k : Plan) → IsPlan A k → Among next k.exits → {again : Bool} {modes : List Mode} {R Ra Rb Rn : Renaming} {es : Operands} {ps : List Parameter} {ls : List (ℕ × ℕ)} {mc : Mark} {i : ℕ} {f : Body → Body}
    (given : EntersWith again k modes R es ps ls Ra) → EntersSo A given → Handed A S.muts_there k R Rb (tree.call mc i es) Rn f → CallerAsked S A k R Rn → (K : KnownVariables S) → Agrees S R K
    → (T : KnownVariables S) × Agrees S Rn T × (T.loops ≡ K.loops) × ((n : ℕ) → (H : List Piece) × ((b : Body) (d : Temporary) → order_body (f b) n d ≡ fill H (order_body b n d)) × IsCallOf S A k K T H)
call_stands S A k plan nexts {R = R} {Rb = Rb} {Rn = Rn} {es = es} {mc = mc} {i = i} (enters_with cold Rp Rl shut to locals absents covers specials) so (handed_on {f = f} {g = h} Rs Rr Rd within not_handed hb rd fewer wider) asked K g =
    standing S A k plan nexts R K g (λ x s q. asked.slots x s (wider x s q)) Rn asked es to so locals Rs Rr Rd Rb h f mc i within not_handed hb rd fewer wider
