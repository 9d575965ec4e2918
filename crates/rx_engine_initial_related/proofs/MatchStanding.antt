-- So of the plan's own match, by the relation of trees; and it matches the run.
use Rattle.std.proofs.Common.{◌≡◌, ℕ, suc, Bool, List, [], ◌∷◌, Some, refl, sym, ◌∙◌, subst}
use Rattle.rx_typed.specs.Tree as tree
use Rattle.rx_typed.specs.Tree.{Temporary, Mark, Parameter, Pattern, Operands, Exp, Scrutinee, Arms, Body, Subpatterns, temporary_of}
use Rattle.rx_typed_declarations.specs.Sizes.{Sized}
use Rattle.rx_lower_walks.specs.Actions.{Action}
use Rattle.rx_lower_walks.specs.Orders.{Order, order_body}
use Rattle.rx_lower_walks.specs.Orders as orders
use Rattle.rx_lower_walks.specs.Walks.{leaves, Walk, Among, here, there}
use Rattle.rx_exits_plan.specs.Points.{Exit, next, breaks, continues, returns, jump_exit}
use Rattle.rx_exits_plan.specs.Asked.{Asked}
use Rattle.rx_exits_plan.specs.Plan.{Plan, IsPlan}
use Rattle.rx_exits_plan.specs.Unreachable.{At, Unreachable}
use Rattle.rx_modes_policy.specs.declared.uses.Mode.{Mode}
use Rattle.rx_meaning_keeping.proofs.Parts.{parted}
use Rattle.rx_engine_simulation.specs.Sights.{special, sight, Renaming, sight_of}
use Rattle.rx_engine_simulation.specs.Arrivals.{Within}
use Rattle.rx_engine_simulation.specs.Jumps.{Jumping}
use Rattle.rx_engine_simulation.specs.Packing.{Way, Picks}
use Rattle.rx_engine_related.specs.ByForm.{IsItself}
use Rattle.rx_engine_related.specs.Premises.{NotHanded}
use Rattle.rx_engine_related.specs.Given.{GivenTo, LocalsOf, EntersWith, enters_with}
use Rattle.rx_engine_related.specs.Had.{Had}
use Rattle.rx_engine_related.specs.Handed.{HandsBack, Redeclared, Handed, handed_on}
use Rattle.rx_engine_related.specs.Leaving.{place_from, variant_for, ArmsOf}
use Rattle.rx_engine_related.specs.Standing.{CallOf, call_alone, call_matched, call_left}
use Rattle.rx_engine_initial.specs.Matching.{Piece, fill, Matches}
use Rattle.rx_engine_initial.specs.Variables.{Sides, KnownVariables}
use Rattle.rx_engine_initial.specs.Copies.{world}
use Rattle.rx_engine_initial.specs.Planned.{IsTextOf}
use Rattle.rx_engine_initial.proofs.Uses.{some_is, none_is}
use Rattle.rx_engine_initial_calls.specs.Received.{MayTake}
use Rattle.rx_engine_initial_calls.specs.GoneThrough.{IsGoneThrough}
use Rattle.rx_engine_initial_calls.specs.MatchOf.{IsMatchOf}
use Rattle.rx_engine_initial_calls.specs.RunPieces.{run_pieces}
use Rattle.rx_engine_initial_calls.proofs.Calls.{match_matches}
use Rattle.rx_engine_initial_calls.proofs.Ways.{has_ways, leaves_so}
use Rattle.rx_engine_initial_forms.specs.Agreeing.{Agrees}
use Rattle.rx_engine_initial_forms.specs.Following.{AgreesOnLoops}
use Rattle.rx_engine_initial_related.specs.CallerAsked.{GivenSo, EntersSo, CallerAsked}
use Rattle.rx_engine_initial_related.specs.ExitArms.{OnlyExits, arm_of}
use Rattle.rx_engine_initial_related.proofs.Scope.{AllSlots}
use Rattle.rx_engine_initial_related.proofs.NoFails.{body_stays}
use Rattle.rx_engine_initial_related.proofs.Becoming.{may}
use Rattle.rx_engine_initial_related.proofs.ArmsTook.{Says}
use Rattle.rx_engine_initial_related.proofs.ExitArms.{ArmDoes, end_says, picks_same, arms_say, said_of}
use Rattle.rx_engine_initial_related.proofs.Matched.{match_standing}

-- the end has a variant where it is an exit
end_there : (i : ℕ) (xs : List Exit) {v : ℕ} → place_from i next xs ≡ Some v → Among next xs
end_there i [] h = none_is h
end_there i (next ∷ xs) h = here
end_there i (breaks l ∷ xs) h = there (end_there (suc i) xs h)
end_there i (continues l ∷ xs) h = there (end_there (suc i) xs h)
end_there i (returns ∷ xs) h = there (end_there (suc i) xs h)

no_choice : {A : Type 0} {m n : Mark} {i : ℕ} {es : Operands} {s : Scrutinee} {l : Arms} → tree.call m i es ≡ tree.choose n s l → A
no_choice q = absurd (cc)

arms_are : {m n : Mark} {s t : Scrutinee} {l k : Arms} → tree.choose m s l ≡ tree.choose n t k → l ≡ k
arms_are q = cc

none_in : {y : ℕ} → Among y [] → ⊥
none_in j = elim j [ ]

nothing_out : (A : Asked) (k : Plan) → IsPlan A k → (Among next k.exits → ⊥) → (x : ℕ) → Among x (k.outs next) → ⊥
nothing_out A k plan n x i = none_in (subst (λ l. Among x l) (plan.none_elsewhere next n) i)

abbrev Leaving : Asked → Plan → Order → Type 0
Leaving A k t = (n : ℕ) (b : Bool) → Among (jump_exit n b) k.exits → (m : ℕ) × (u : List Action) × Walk t u (leaves (orders.exit m n b)) × IsGoneThrough A k (jump_exit n b) u

module _ (S : Sides) (A : Asked) (k : Plan) (plan : IsPlan A k) (R : Renaming) (K : KnownVariables S) (g : Agrees S R K) (all : AllSlots R) (Rn : Renaming) (asked : CallerAsked S A k R Rn)
    (J : Jumping) (loops : AgreesOnLoops S J K) {again : Bool} {cold : List ℕ} {modes : List Mode} (es : Operands) {ps : List Parameter} {Rp : Renaming} (to : GivenTo again R cold [] k.params modes es ps Rp) (so : GivenSo A k to)
    {ls : List (ℕ × ℕ)} {Rl : Renaming} (locals : LocalsOf R Rp k.locals ls Rl) (mc : Mark) (i : ℕ) (mm : Mark) (p : Pattern) (e : Exp) (l : Arms)
    (Rs Rr Rd Rb : Renaming) (h f : Body → Body) (within : Within Rs R) (not_handed : NotHanded A S.muts_there k next Rs)
    (hb : HandsBack A S.muts_there k R (tree.choose mm (tree.of_value (tree.call mc i es)) (tree.arm_and p e l)) Rs (k.outs next) Rr h) (rd : Redeclared Rb Rr k.redeclared f Rd) (fewer : Within Rn Rd) (wider : Within R Rn)
    (t : Order) (leaving : Leaving A k t) (only : OnlyExits k (tree.arm_and p e l) (tree.arm_and p e l)) where
  abbrev arms : Arms
  arms = tree.arm_and p e l

  abbrev given : Exp
  given = tree.choose mm (tree.of_value (tree.call mc i es)) (tree.arm_and p e l)

  abbrev Said : ℕ → Subpatterns → Exp → Exit → Type 0
  Said v qs c x = Says (temporary_of (tree.call mc i es)) (ArmDoes S A k plan R K g all Rn asked J loops) (temporary_of (tree.choose mm (tree.of_value (tree.call mc i es)) (tree.arm_and p e l))) v qs c x

  abbrev Stands : Type 0
  Stands = (T : KnownVariables S) × Agrees S Rn T × (T.loops ≡ K.loops) × ((n : ℕ) → (H : List Piece) × ((b : Body) (d : Temporary) → order_body (h (f b)) n d ≡ fill H (order_body b n d)) × IsMatchOf S A k K T H t)

  module _ (unit : Bool) (back : ArmsOf A S.muts_there k unit J R (tree.arm_and p e l)) (mays : (x y : ℕ) → sight_of R x ≡ Some (sight y special) → Among x (k.outs next) → MayTake S k next y x)
      (at_end : (v : ℕ) → Among next k.exits → variant_for k next ≡ Some v → (qs : Subpatterns) (c : Exp) → Picks (tree.arm_and p e l) v qs c → Said v qs c next) where
    says : (x : Exit) (v : ℕ) (qs : Subpatterns) (c : Exp) → Among x k.exits → variant_for k x ≡ Some v → Picks (tree.arm_and p e l) v qs c → Said v qs c x
    says = arms_say S A k plan R K g all Rn asked J loops (temporary_of (tree.call mc i es)) (temporary_of given) arms unit back at_end

    by_first : {c : Arms} {b : Exp} {q : Pattern} → OnlyExits k (tree.arm_and p e l) (tree.arm_and q b c) → Stands
    by_first (arm_of {v = v} {ps = qs} {e = c} x j q picks rest) =
        let z = says x v qs c j q picks in
        match_standing S A k plan R K g all Rn asked J loops es to so locals mc i mm arms x j z.all z.out z.is says only mays Rs Rr Rd Rb h f within not_handed hb rd fewer wider t leaving

  matched_so : {Ji : Jumping} {w : Way} {c : Exp} → CallOf A S.muts_there k J R (tree.call mc i es) Ji w c → c ≡ given → Stands
  matched_so (call_alone only_end) q = no_choice q
  matched_so (call_matched {v = vn} {l = other} {qs = qs} {ps = sp} {e = c} unit q back picks recv new gives many) eq =
      by_first unit (subst (λ u. ArmsOf A S.muts_there k unit J R u) (arms_are eq) back) (may S A k plan R K g all Rn asked next (end_there 0 k.exits q))
      (λ v j r ts d found. said_of S A k plan R K g all Rn asked J loops (temporary_of (tree.call mc i es)) (temporary_of given) arms unit (subst (λ u. ArmsOf A S.muts_there k unit J R u) (arms_are eq) back) v next
      (picks_same (subst (λ u. Picks arms u sp c) (some_is (sym q ∙ r)) (subst (λ u. Picks u vn sp c) (arms_are eq) picks)) found)
      (end_says S A k plan R K g all Rn asked J loops (temporary_of (tree.call mc i es)) (temporary_of given) arms unit (subst (λ u. ArmsOf A S.muts_there k unit J R u) (arms_are eq) back) v sp c qs recv new gives)) only
  matched_so (call_left unit none back) eq =
      by_first unit (subst (λ u. ArmsOf A S.muts_there k unit J R u) (arms_are eq) back) (λ x y q o. absurd (nothing_out A k plan none x o)) (λ v j r ts d found. absurd (none j)) only

pub match_stands : (S : Sides) (A : Asked) (k : Plan) → IsPlan A k → {again : Bool} {modes : List Mode} {R Ra Rb Rn : Renaming} {es : Operands} {ps : List Parameter} {ls : List (ℕ × ℕ)} {mc mm : Mark} {i : ℕ} {f : Body → Body} {J Ji : Jumping} {w : Way}
    {p : Pattern} {e : Exp} {l : Arms} (given : EntersWith again k modes R es ps ls Ra) → EntersSo A given → CallOf A S.muts_there k J R (tree.call mc i es) Ji w (tree.choose mm (tree.of_value (tree.call mc i es)) (tree.arm_and p e l))
    → OnlyExits k (tree.arm_and p e l) (tree.arm_and p e l) → Handed A S.muts_there k R Rb (tree.choose mm (tree.of_value (tree.call mc i es)) (tree.arm_and p e l)) Rn f → CallerAsked S A k R Rn
    → (K : KnownVariables S) → Agrees S R K → AgreesOnLoops S J K → (t : Order) → Leaving A k t
    → (T : KnownVariables S) × Agrees S Rn T × (T.loops ≡ K.loops) × ((n : ℕ) → (H : List Piece) × ((b : Body) (d : Temporary) → order_body (f b) n d ≡ fill H (order_body b n d)) × IsMatchOf S A k K T H t)
match_stands S A k plan {R = R} {Rb = Rb} {Rn = Rn} {es = es} {mc = mc} {mm = mm} {i = i} {J = J} {p = p} {e = e} {l = l} (enters_with cold Rp Rl shut to locals absents covers specials) so calling only
    (handed_on {f = f} {g = h} Rs Rr Rd within not_handed hb rd fewer wider) asked K g loops t leaving =
    matched_so S A k plan R K g (λ x s q. asked.slots x s (wider x s q)) Rn asked J loops es to so locals mc i mm p e l Rs Rr Rd Rb h f within not_handed hb rd fewer wider t leaving only calling refl

-- it matches a run that is reached
pub match_matches_run : (S : Sides) (A : Asked) (k : Plan) → Had A S.muts_there k → IsItself (Some (Some A.function)) → ((q : At) → Unreachable A q → ⊥) → Sized S.frame.declared S.frame.sizes → IsTextOf S A k
    → {again : Bool} {modes : List Mode} {R Ra Rb Rn : Renaming} {es : Operands} {ps : List Parameter} {ls : List (ℕ × ℕ)} {mc mm : Mark} {i : ℕ} {f : Body → Body} {J Ji : Jumping} {w : Way}
    {p : Pattern} {e : Exp} {l : Arms} (given : EntersWith again k modes R es ps ls Ra) → EntersSo A given → CallOf A S.muts_there k J R (tree.call mc i es) Ji w (tree.choose mm (tree.of_value (tree.call mc i es)) (tree.arm_and p e l))
    → OnlyExits k (tree.arm_and p e l) (tree.arm_and p e l) → Handed A S.muts_there k R Rb (tree.choose mm (tree.of_value (tree.call mc i es)) (tree.arm_and p e l)) Rn f → CallerAsked S A k R Rn
    → (K : KnownVariables S) → Agrees S R K → AgreesOnLoops S J K → (r : Order)
    → (T : KnownVariables S) × Agrees S Rn T × (T.loops ≡ K.loops)
    × ((n : ℕ) (b : Body) (d : Temporary) → Matches (world S) T (order_body b n d) r → Matches (world S) K (order_body (f b) n d) (fill (run_pieces A k) r))
match_matches_run S A k had self reached sized text given so calling only handed asked K g loops r =
    let z = match_stands S A k had.plan given so calling only handed asked K g loops (fill (run_pieces A k) r) (λ n b j. leaves_so A S.muts_there k had self reached n b j r) in (
      z.0,
      z.1,
      z.2,
      λ n b d m.
          let w = z.3 n in
          subst (λ s. Matches (world S) K s (fill (run_pieces A k) r)) (sym (w.1 b d))
          (match_matches A k had.plan S had.accepted text had.whole had.passed (parted S.frame sized) K z.0 w.0 (run_pieces A k) (order_body b n d) r w.2 (has_ways A S.muts_there k had reached r) (body_stays b n d) m),
    )
