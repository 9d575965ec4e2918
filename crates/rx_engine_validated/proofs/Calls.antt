-- Where an expression is found to be the call of the new function, or the match of what it gives, it is that: with the arms read so that each
-- does as the text at its exit.
use Rattle.std.proofs.Common.{◌≡◌, ℕ, suc, ◌+◌, ◌==◌, Bool, true, false, List, [], ◌∷◌, Option, Some, None, if◌then◌else◌, slice_get, refl, ap, ◌∙◌, sym, subst, arith, eq-eqb}
use Rattle.std.proofs.lemmas.Bool.Decides.{Decides-eqb}
use Rattle.rx_typed.specs.Tree as tree
use Rattle.rx_typed.specs.Tree.{Mark, Subpatterns, Exp, Operands, Scrutinee, Arms}
use Rattle.rx_lower_walks.specs.Walks.{Among, here, there}
use Rattle.rx_exits_plan.specs.Points.{Exit, next, breaks, continues, returns, same_exit, jump_exit}
use Rattle.rx_exits_plan.specs.Asked.{Asked}
use Rattle.rx_exits_plan.specs.Plan.{Plan}
use Rattle.rx_engine_simulation.specs.Sights.{In, special, sight, Renaming, sight_of}
use Rattle.rx_engine_simulation.specs.Jumps.{Pack, Jumping, loop_of}
use Rattle.rx_engine_simulation.specs.Packing.{Way, bare, as_variant, no_way, Picks}
use Rattle.rx_engine_simulation.specs.Passing.{inner_jumps}
use Rattle.rx_engine_simulation.specs.Statements.{count}
use Rattle.rx_engine_simulation.specs.Variants.{unit_arm, value_arm, ReturnsOn}
use Rattle.rx_engine_simulation.specs.Rereads.{Rereads, in_call, in_choose, in_value_of}
use Rattle.rx_engine_simulation.proofs.Rereads.{self_exp}
use Rattle.rx_engine_related.specs.AboutRun.{special_of}
use Rattle.rx_engine_related.specs.Leaving.{place_from, variant_for, pack_if, packed, returning_if, BackArm, back_arm, jumps_of, ArmsOf}
use Rattle.rx_engine_related.specs.Standing.{CallOf, call_alone, call_matched, call_left}
use Rattle.rx_engine_related.specs.Tails.{TailCallOf, tail_call_alone, tail_call_matched, tail_call_left}
use Rattle.rx_engine_related.proofs.Leaving.{variant_among}
use Rattle.rx_engine_alike.specs.Leaving.{is_number}
use Rattle.rx_engine_extracted.specs.Told.{Told}
use Rattle.rx_engine_extracted.specs.Arms.{Arm, arm_for, is_arm, exit_arms, gives_unit_by, end_arm}
use Rattle.rx_engine_extracted.specs.Calls.{Called, operands_of, operands_in, is_only_next, jumps_in, way_with, matched_with, called_in_with, called_with, called_by}
use Rattle.rx_engine_alike_laws.proofs.Promised.{Promised, kept, nothing, Says, says, silent, said, map_so, then_so, where_so, so, and_so, equal_so}
use Rattle.rx_engine_alike_laws.proofs.Leaving.{number_is}
use Rattle.rx_engine_alike_laws.proofs.Giving.{Reread, reread}
use Rattle.rx_engine_validated.proofs.ExtractedLawsParts.{CalledSo, called_so, CallsSo, TailCalledSo, tail_called_so, TailCallsSo}
use Rattle.rx_engine_validated.proofs.Seeing.{some_same, none_some, specials_among_so}
use Rattle.rx_engine_validated.proofs.Picking.{Asking, AllRead, PickedSo, picked_so, Together, together, all_at_once}
use Rattle.rx_engine_validated.proofs.Arms.{goes_back_by, returns_unit, returns_value, Returned, ends_so, end_so, Does, ArmThere, arm_there, exits_so}

-- ---- exits by their variants

same_number : (f : ℕ → Exit) (l k : ℕ) → (l == k) ≡ true → f l ≡ f k
same_number f l k e = ap f ((Decides-eqb l k).0 e)

if_same : (f : ℕ → Exit) (l k : ℕ) → Says (f l ≡ f k) (l == k)
if_same f l k = by (l == k) (λ e. same_number f l k e)
  where
    by : (b : Bool) → (b ≡ true → f l ≡ f k) → Says (f l ≡ f k) b
    by true g = says (g refl)
    by false g = silent

same_so : (x y : Exit) → Says (x ≡ y) (same_exit x y)
same_so next next = says refl
same_so (breaks l) (breaks k) = if_same breaks l k
same_so (continues l) (continues k) = if_same continues l k
same_so returns returns = says refl
same_so _ _ = silent

-- the exit of a place
place_is : (i : ℕ) (x : Exit) (xs : List Exit) {v : ℕ} → place_from i x xs ≡ Some v → (j : ℕ) × (v ≡ i + j) × (slice_get xs j ≡ Some x)
place_is i x [] q = absurd (none_some q)
place_is i x (y ∷ ys) {v} q = by (same_exit x y) (same_so x y) (λ p. place_is (suc i) x ys p) q
  where
    by : (b : Bool) → Says (x ≡ y) b → (place_from (suc i) x ys ≡ Some v → (j : ℕ) × (v ≡ suc i + j) × (slice_get ys j ≡ Some x)) → (if b then Some i else place_from (suc i) x ys) ≡ Some v
        → (j : ℕ) × (v ≡ i + j) × (slice_get (y ∷ ys) j ≡ Some x)
    by true s f p = let e = some_same p in (0, omega (arith, e), ap Some (sym (said true s refl)))
    by false s f p = let r = f p in (suc r.0, omega (arith, r.1), r.2)

exit_of : (k : Plan) (x : Exit) (v : ℕ) → variant_for k x ≡ Some v → slice_get k.exits v ≡ Some x
exit_of k x v q = let r = place_is 0 x k.exits q in subst (λ j. slice_get k.exits j ≡ Some x) (omega (arith, r.1)) r.2

one_exit : (k : Plan) (x y : Exit) (v : ℕ) → variant_for k x ≡ Some v → variant_for k y ≡ Some v → x ≡ y
one_exit k x y v q r = some_same (sym (exit_of k x v q) ∙ exit_of k y v r)

not_placed : (i : ℕ) (xs : List Exit) → place_from i next xs ≡ None → Among next xs → ⊥
not_placed i _ q here = none_some (sym q)
not_placed i _ q (there {b = y} {l = ys} a) = by (same_exit next y) (λ p. not_placed (suc i) ys p a) q
  where
    by : (b : Bool) → (place_from (suc i) next ys ≡ None → ⊥) → (if b then Some i else place_from (suc i) next ys) ≡ None → ⊥
    by true f p = none_some (sym p)
    by false f p = f p

pack_is : (xs : List ℕ) (o : Option ℕ) {p : Pack} → pack_if xs o ≡ Some p → (v : ℕ) × (o ≡ Some v) × (p ≡ record { variant = v; outs = xs })
pack_is xs None q = absurd (none_some q)
pack_is xs (Some v) q = (v, refl, sym (some_same q))

module _ (A : Asked) (T : Told) (elsewhere : T.elsewhere ≡ special_of A T.muts T.plan) (has : Bool) where
  -- ---- the match

  module _ (unit : Bool) (J : Jumping) (R : Renaming) (l : Arms) where
    abbrev There : Exit → ℕ → Type 0
    There x v = ArmThere A T has unit J R l x v

    abbrev DoesSo : Exit → Subpatterns → Exp → Type 0
    DoesSo x ps e = Does A T has unit J R x ps e

    -- what the arm of a variant is to do: as its exit, if there is one
    abbrev Wanted : Asking
    Wanted = λ v ps e. (x : Exit) → variant_for T.plan x ≡ Some v → DoesSo x ps e

    -- each exit has its arm
    abbrev AllThere : Type 0
    AllThere = (x : Exit) (v : ℕ) → variant_for T.plan x ≡ Some v → There x v

    module _ (there_is : AllThere) where
      read_for : (y : Exit) (v : ℕ) (a : Arm) → variant_for T.plan y ≡ Some v → There y v → arm_for v l ≡ Some a → Reread Rereads (λ e. Wanted v a.parts e) a.body
      read_for y v a q (arm_there b s r) i = by (some_same (sym s ∙ i)) r
        where
          by : b ≡ a → Reread Rereads (λ e. DoesSo y b.parts e) b.body → Reread Rereads (λ e. Wanted v a.parts e) a.body
          by c r = subst (λ a. Reread Rereads (λ e. Wanted v a.parts e) a.body) c (each r)
            where
              each : Reread Rereads (λ e. DoesSo y b.parts e) b.body → Reread Rereads (λ e. Wanted v b.parts e) b.body
              each (reread z k d) = reread z k (λ x p. subst (λ x. DoesSo x b.parts z) (one_exit T.plan y x v q p) d)

      unwanted : (v : ℕ) (a : Arm) → ((x : Exit) → variant_for T.plan x ≡ Some v → ⊥) → Reread Rereads (λ e. Wanted v a.parts e) a.body
      unwanted v a f = reread a.body (self_exp a.body) (λ x p. absurd (f x p))

      all_read : AllRead Wanted l
      all_read v a i = by (slice_get T.plan.exits v) refl
        where
          none_has : (y : Exit) → is_number (variant_for T.plan y) v ≡ false → slice_get T.plan.exits v ≡ Some y → (x : Exit) → variant_for T.plan x ≡ Some v → ⊥
          none_has y f e x p = true_false (sym (eq-eqb v v refl) ∙ (ap (λ o. is_number o v) (sym (ap (λ z. variant_for T.plan z) (some_same (sym e ∙ exit_of T.plan x v p)) ∙ p)) ∙ f))
            where
              true_false : true ≡ false → ⊥
              true_false e = cc

          found : (y : Exit) → slice_get T.plan.exits v ≡ Some y → (b : Bool) → is_number (variant_for T.plan y) v ≡ b → Says (variant_for T.plan y ≡ Some v) b
              → Reread Rereads (λ e. Wanted v a.parts e) a.body
          found y e true n (says p) = read_for y v a p (there_is y v p) i
          found y e false n silent = unwanted v a (none_has y n e)

          by : (o : Option Exit) → slice_get T.plan.exits v ≡ o → Reread Rereads (λ e. Wanted v a.parts e) a.body
          by None e = unwanted v a (λ x p. none_some (sym e ∙ exit_of T.plan x v p))
          by (Some y) e = found y e (is_number (variant_for T.plan y) v) refl (number_is (variant_for T.plan y) v)

    -- the arm of an exit's variant is picked, and does so
    data PickedFor (k : Arms) (x : Exit) (v : ℕ) : Type 0 where
      picked_for : {ps : Subpatterns} {e : Exp} → Picks k v ps e → DoesSo x ps e → PickedFor k x v

    abbrev AllPicked : Arms → Type 0
    AllPicked k = (x : Exit) (v : ℕ) → variant_for T.plan x ≡ Some v → PickedFor k x v

    all_picked : {k : Arms} → AllThere → ((v : ℕ) (a : Arm) → arm_for v l ≡ Some a → PickedSo Wanted k v a.parts) → AllPicked k
    all_picked {k} f g x v p = by (f x v p)
      where
        of_it : {ps : Subpatterns} → PickedSo Wanted k v ps → PickedFor k x v
        of_it (picked_so q h) = picked_for q (h x p)

        by : There x v → PickedFor k x v
        by (arm_there a i r) = of_it (g v a i)

    -- ---- the arms of what was picked

    module _ (k : Arms) (all : AllPicked k) where
      abbrev JumpsBack : ℕ → Bool → ℕ → Type 0
      JumpsBack n again v = (mj : Mark) × (d : ℕ) × (loop_of J.loops n ≡ Some d) × BackArm A T.muts T.plan R k (record { variant = v; outs = T.plan.outs (jump_exit n again) }) (tree.jump mj d again)

      back_so : (n : ℕ) (again : Bool) (v : ℕ) → variant_for T.plan (jump_exit n again) ≡ Some v → JumpsBack n again v
      back_so n true v p = by (all (continues n) v p)
        where
          by : PickedFor k (continues n) v → JumpsBack n true v
          by (picked_for q (goes_back_by {d = d} mj Rs Rr Rd o s w r c b z j)) = (mj, d, o, back_arm Rs Rr Rd s w r c q b z j)
      back_so n false v p = by (all (breaks n) v p)
        where
          by : PickedFor k (breaks n) v → JumpsBack n false v
          by (picked_for q (goes_back_by {d = d} mj Rs Rr Rd o s w r c b z j)) = (mj, d, o, back_arm Rs Rr Rd s w r c q b z j)

      jumps_so : (n : ℕ) (again : Bool) (p : Pack) → packed T.plan n again ≡ Some p → (mj : Mark) × (d : ℕ) × (loop_of J.loops n ≡ Some d) × BackArm A T.muts T.plan R k p (tree.jump mj d again)
      jumps_so n again p q = let i = pack_is (T.plan.outs (jump_exit n again)) (variant_for T.plan (jump_exit n again)) q in
          subst (λ p. (mj : Mark) × (d : ℕ) × (loop_of J.loops n ≡ Some d) × BackArm A T.muts T.plan R k p (tree.jump mj d again)) (sym i.2) (back_so n again i.0 i.1)

      returned_so : (u : Bool) (v : ℕ) {ps : Subpatterns} {e : Exp} → Picks k v ps e → Returned A T has unit J R u ps e → ReturnsOn J R k (returning_if u (Some v))
      returned_so true v q (returns_unit r g) = (r, unit_arm g q)
      returned_so false v q (returns_value r n c t) = (r, value_arm n c t q)

      returns_so : ReturnsOn J R k (returning_if unit (variant_for T.plan returns))
      returns_so = by (variant_for T.plan returns) (λ v p. all returns v p)
        where
          of_it : (v : ℕ) → PickedFor k returns v → ReturnsOn J R k (returning_if unit (Some v))
          of_it v (picked_for q d) = returned_so unit v q d

          by : (o : Option ℕ) → ((v : ℕ) → o ≡ Some v → PickedFor k returns v) → ReturnsOn J R k (returning_if unit o)
          by None f = tt
          by (Some v) f = of_it v (f v refl)

      arms_so : ((x y : ℕ) → sight_of R x ≡ Some (sight y special) → In x T.elsewhere) → ArmsOf A T.muts T.plan unit J R k
      arms_so s = record { all_special = λ x y e. subst (λ l. In x l) elsewhere (s x y e); jumps = jumps_so; return = returns_so }

    -- ---- how the function ends

    data EndsBy : Way → Type 0 where
      no_end : variant_for T.plan next ≡ None → EndsBy no_way
      end_by : (v : ℕ) → variant_for T.plan next ≡ Some v → There next v → EndsBy (as_variant v)

    way_so : (o : Option ℕ) → variant_for T.plan next ≡ o → Promised (λ w. EndsBy w) (way_with has T R l o)
    way_so None q = kept (no_end q)
    way_so (Some v) q = where_so (by (arm_for v l) refl) (λ t. kept (end_by v q t))
      where
        by : (o : Option Arm) → arm_for v l ≡ o → Says (There next v) (is_arm o (λ a. end_arm R (count has (T.plan.outs next)) a))
        by None i = silent
        by (Some a) i = so (λ r. arm_there a i r) (end_so A T has unit J R (count has (T.plan.outs next)) a)

    ends_there : {w : Way} → EndsBy w → (v : ℕ) → variant_for T.plan next ≡ Some v → There next v
    ends_there (no_end q) v p = absurd (none_some (sym q ∙ p))
    ends_there (end_by u q t) v p = subst (λ v. There next v) (some_same (sym q ∙ p)) t

    call_by : {w : Way} {m : Mark} {called : Exp} (k : Arms) → EndsBy w → AllPicked k → ArmsOf A T.muts T.plan unit J R k
        → TailCallOf A T.muts T.plan J R called has (jumps_of A T.muts T.plan unit) w (tree.choose m (tree.of_value called) k)
    call_by k (no_end q) all arms = tail_call_left unit (λ i. not_placed 0 T.plan.exits q i) arms
    call_by {m = m} {called = called} k (end_by v q t) all arms = by (all next v q)
      where
        by : PickedFor k next v → TailCallOf A T.muts T.plan J R called has (jumps_of A T.muts T.plan unit) (as_variant v) (tree.choose m (tree.of_value called) k)
        by (picked_for p (ends_so c w g n)) = tail_call_matched unit q arms p c w g n

    same_jumps : jumps_of A T.muts T.plan unit ≡ jumps_in T unit
    same_jumps = ap (λ dead. record { loops = []; leaving = λ l again. packed T.plan l again; returning = returning_if unit (variant_for T.plan returns); dead = dead }) (sym elsewhere)

    abbrev EndsThere : Type 0
    EndsThere = (v : ℕ) → variant_for T.plan next ≡ Some v → There next v

    abbrev MayBeElsewhere : Type 0
    MayBeElsewhere = (x y : ℕ) → sight_of R x ≡ Some (sight y special) → In x T.elsewhere

    -- each variable that is elsewhere may be; and each exit has its arm, if the run's end has
    data Tested : Type 0 where
      tested : MayBeElsewhere → (EndsThere → (x : Exit) → Among x T.plan.exits → (v : ℕ) → variant_for T.plan x ≡ Some v → There x v) → Tested

    -- the match of a call with these operands, where the function ends so
    abbrev IsMatch : Mark → Mark → Operands → Way → Type 0
    IsMatch m mc es w = TailCallsSo A T has J R (tree.choose m (tree.of_value (tree.call mc T.new.number es)) l) (record { operands = es; jumping = jumps_in T unit; way = w })

    match_read : {es : Operands} {w : Way} (m mc : Mark) → EndsBy w → MayBeElsewhere → AllThere → Together Wanted l → IsMatch m mc es w
    match_read {w = w} m mc e s f (together k r g) = λ fs q. tail_called_so {mc = mc} (in_choose (in_value_of (in_call q)) r)
        (subst (λ jumps. TailCallOf A T.muts T.plan J R (tree.call mc T.new.number fs) has jumps w (tree.choose m (tree.of_value (tree.call mc T.new.number fs)) k)) same_jumps
        (call_by k e (all_picked f g) (arms_so k (all_picked f g) s)))

    match_so : {es : Operands} {w : Way} (m mc : Mark) → Tested → EndsBy w → IsMatch m mc es w
    match_so {es} {w} m mc (tested s f) e = by (λ x v q. f (λ v p. ends_there e v p) x (variant_among T.plan x q) v q)
      where
        by : AllThere → IsMatch m mc es w
        by there_is = match_read m mc e s there_is (all_at_once l Wanted (all_read there_is))

    under : {H X : Type 0} (b : Bool) → (H → Says X b) → Says (H → X) b
    under true f = says (λ h. said true (f h) refl)
    under false f = silent

    pub matched_so : (m mc : Mark) (es : Operands) → Promised (λ K. TailCallsSo A T has J R (tree.choose m (tree.of_value (tree.call mc T.new.number es)) l) K) (matched_with has T J R unit es l)
    matched_so m mc es = where_so
        (and_so (specials_among_so R T.elsewhere) (under (exit_arms T unit J R l T.plan.exits) (λ (h : EndsThere). exits_so A T has unit J R l h T.plan.exits)) (λ s f. tested s f))
        (λ t. then_so (way_so (variant_for T.plan next) refl) (λ w e. kept (match_so m mc t e)))

  -- ---- the call, alone or matched

  pub data IsCall (n : ℕ) (es : Operands) : Exp → Type 0 where
    is_call : {m : Mark} → IsCall n es (tree.call m n es)

  operands_so : (n : ℕ) (e : Exp) → Promised (λ es. IsCall n es e) (operands_of n e)
  operands_so n (tree.call m f es) = where_so (equal_so n f) (λ q. kept (subst (λ f. IsCall n es (tree.call m f es)) q is_call))
  operands_so n _ = nothing

  data IsCallOf (n : ℕ) (es : Operands) : Scrutinee → Type 0 where
    is_call_of : {m : Mark} → IsCallOf n es (tree.of_value (tree.call m n es))

  in_value : {n : ℕ} {es : Operands} {e : Exp} → IsCall n es e → IsCallOf n es (tree.of_value e)
  in_value is_call = is_call_of

  operands_in_so : (n : ℕ) (c : Scrutinee) → Promised (λ es. IsCallOf n es c) (operands_in n c)
  operands_in_so n (tree.of_value e) = map_so (λ es i. in_value i) (operands_so n e)
  operands_in_so n _ = nothing

  -- where it is alone
  pub alone_is_call : (J : Jumping) (R : Renaming) (b : Bool) → b ≡ true → (e : Exp) → Promised (λ K. (es : Operands) × IsCall T.new.number es e) (called_in_with has T J R b e)
  alone_is_call J R true q e = then_so (operands_so T.new.number e) (λ es i. kept (es, i))
  alone_is_call J R false q e = absurd (cc)

  only_next_so : (xs : List Exit) → Says (xs ≡ next ∷ []) (is_only_next xs)
  only_next_so (next ∷ []) = says refl
  only_next_so _ = silent

  alone_so : {J : Jumping} {R : Renaming} {es : Operands} {e : Exp} → T.plan.exits ≡ next ∷ [] → IsCall T.new.number es e
      → TailCallsSo A T has J R e (record { operands = es; jumping = inner_jumps; way = bare })
  alone_so q (is_call {m = m}) = λ fs r. tail_called_so {mc = m} (in_call r) (tail_call_alone q)

  then_matched : {J : Jumping} {R : Renaming} (m : Mark) {es : Operands} {c : Scrutinee} (l : Arms) → IsCallOf T.new.number es c
      → Promised (λ K. TailCallsSo A T has J R (tree.choose m c l) K) (matched_with has T J R (gives_unit_by (variant_for T.plan returns) l) es l)
  then_matched {J} {R} m {es} l (is_call_of {m = mc}) = matched_so (gives_unit_by (variant_for T.plan returns) l) J R l m mc es

  called_in_so : (J : Jumping) (R : Renaming) (b : Bool) → Says (T.plan.exits ≡ next ∷ []) b → (e : Exp) → Promised (λ K. TailCallsSo A T has J R e K) (called_in_with has T J R b e)
  called_in_so J R true (says q) e = then_so (operands_so T.new.number e) (λ es i. kept (alone_so q i))
  called_in_so J R false silent (tree.choose m c l) = then_so (operands_in_so T.new.number c) (λ es i. then_matched m l i)
  called_in_so J R false silent _ = nothing

  pub tail_calls_so : (J : Jumping) (R : Renaming) (e : Exp) → Promised (λ K. TailCallsSo A T has J R e K) (called_with has T J R e)
  tail_calls_so J R e = called_in_so J R (is_only_next T.plan.exits) (only_next_so T.plan.exits) e

-- ---- where the run has no value

without_value : {A : Asked} {muts : List Bool} {k : Plan} {J Ji : Jumping} {R : Renaming} {called e : Exp} {w : Way} → TailCallOf A muts k J R called false Ji w e → CallOf A muts k J R called Ji w e
without_value (tail_call_alone only) = call_alone only
without_value (tail_call_matched unit q arms p c w g n) = call_matched unit q arms p c w g n
without_value (tail_call_left unit none arms) = call_left unit none arms

called_without : {A : Asked} {T : Told} {J : Jumping} {R : Renaming} {e : Exp} {K : Called} {fs : Operands} → TailCalledSo A T false J R e K fs → CalledSo A T J R e K fs
called_without (tail_called_so z call) = called_so z (without_value call)

module _ (A : Asked) (T : Told) (elsewhere : T.elsewhere ≡ special_of A T.muts T.plan) where
  pub calls_so : (J : Jumping) (R : Renaming) (e : Exp) → Promised (λ K. CallsSo A T J R e K) (called_by T J R e)
  calls_so J R e = map_so (λ K calls. λ fs r. called_without (calls fs r)) (tail_calls_so A T elsewhere false J R e)
