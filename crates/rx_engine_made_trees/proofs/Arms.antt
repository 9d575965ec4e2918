-- The arms of the match do in the typed tree what the plan says of the exits, where references are read.
use Rattle.std.proofs.Common.{◌≡◌, ◌≤◌, ℕ, suc, nat_eq, Bool, true, false, List, [], ◌∷◌, length, Option, Some, None, if◌then◌else◌, refl, sym, ap, subst, eqb-true, arith}
use Rattle.rx_typed.specs.declared.nodes.Node.{Node}
use Rattle.rx_typed.specs.Types.{named as item, unit_shape}
use Rattle.rx_typed.specs.Named as named
use Rattle.rx_typed.specs.Named.{all_never, body_never, Else, Exps, Patterns, Statement, Statements}
use Rattle.rx_typed.specs.Tree as tree
use Rattle.rx_typed.specs.Tree.{Body, Mark, Subpatterns}
use Rattle.rx_typed.specs.Elaborated.{arms, Assigned, behind_all, has_several, mark_if, marked, met, nested, no_mark, pattern, returned, statement, subpatterns, tail, value}
use Rattle.rx_exits_plan.specs.Points.{breaks, continues, Exit, jump_exit, next, returns, same_exit}
use Rattle.rx_exits_plan.specs.Asked.{Asked}
use Rattle.rx_exits_plan.specs.Plan.{Plan}
use Rattle.rx_engine_simulation.specs.Sights.{In, Renaming, special, sight, sight_of}
use Rattle.rx_engine_simulation.specs.Jumps.{as_return, Jumping, loop_of, Pack}
use Rattle.rx_engine_simulation.specs.Packing.{AreNew, bare, Gives, Picks, picks_here, picks_later, Receives, Takes}
use Rattle.rx_engine_simulation.specs.Statements.{count}
use Rattle.rx_engine_simulation.specs.Variants.{AllSpecial, jumps_alone, jumps_last, ReturnsOn, unit_arm, value_arm}
use Rattle.rx_engine_simulation.specs.Rereads.{in_arm, in_block, in_end, in_give, in_no_arm, in_run, Rereads, RereadsArms, RereadsBody, same_jump, same_unit}
use Rattle.rx_engine_related.specs.AboutRun.{special_of}
use Rattle.rx_engine_related.specs.Handed.{all_back}
use Rattle.rx_engine_related.specs.Leaving.{ArmsOf, back_arm, BackArm, pack_if, packed, place_from, returning_if, variant_for}
use Rattle.rx_engine_made_trees.specs.Seen.{both_end, Distinct, handed_back, OneToOne, SameLength, seen_so, specials, without}
use Rattle.rx_engine_made_trees.specs.Statements.{around}
use Rattle.rx_engine_made_trees.specs.Giving.{a_variable}
use Rattle.rx_engine_made_trees.specs.Handing.{BindsAll}
use Rattle.rx_engine_made_trees.specs.Arms as made
use Rattle.rx_engine_made_trees.specs.Arms.{alone, an_arm, ArmDoes, ArmsFor, at_once, behind, does_break, does_continue, does_return, EndsWith, goes_on, is_break, is_continue, IsJump, JumpsOut, no_arms, returns_value}
use Rattle.rx_engine_made_trees.proofs.Sights.{back_within, none_some, without_within}
use Rattle.rx_engine_made_trees.proofs.Taking.{reread, Reread, variable_taken}
use Rattle.rx_engine_made_trees.proofs.Giving.{given_them, return_given}
use Rattle.rx_engine_made_trees.proofs.Handing.{frees_received, put_back_so, put_so, PutSo, received_outside, receives, same_length}

-- ---- exits by their numbers

no_yes : false ≡ true → ⊥
no_yes e = cc

same_is : (x y : Exit) → same_exit x y ≡ true → x ≡ y
same_is next next e = refl
same_is (breaks l) (breaks m) e = ap breaks (eqb-true l m e)
same_is (continues l) (continues m) e = ap continues (eqb-true l m e)
same_is returns returns e = refl
same_is next (breaks m) e = absurd (no_yes e)
same_is next (continues m) e = absurd (no_yes e)
same_is next returns e = absurd (no_yes e)
same_is (breaks l) next e = absurd (no_yes e)
same_is (breaks l) (continues m) e = absurd (no_yes e)
same_is (breaks l) returns e = absurd (no_yes e)
same_is (continues l) next e = absurd (no_yes e)
same_is (continues l) (breaks m) e = absurd (no_yes e)
same_is (continues l) returns e = absurd (no_yes e)
same_is returns next e = absurd (no_yes e)
same_is returns (breaks m) e = absurd (no_yes e)
same_is returns (continues m) e = absurd (no_yes e)

some_is : {a b : ℕ} → Some a ≡ Some b → a ≡ b
some_is e = cc

place_behind : (v : ℕ) (e : Exit) (xs : List Exit) (w : ℕ) → place_from v e xs ≡ Some w → v ≤ w
place_behind v e [] w q = absurd (none_some q)
place_behind v e (x ∷ xs) w q = by (same_exit e x) q (λ s. place_behind (suc v) e xs w s)
  where
    by : (t : Bool) → (if t then Some v else place_from (suc v) e xs) ≡ Some w → (place_from (suc v) e xs ≡ Some w → suc v ≤ w) → v ≤ w
    by true s f = let i = some_is s in omega (arith, i)
    by false s f = let h = f s in omega (arith, h)

apart_from : (v w : ℕ) → suc v ≤ w → nat_eq v w ≡ false
apart_from v w h = by (nat_eq v w) (λ q. eqb-true v w q)
  where
    by : (t : Bool) → (t ≡ true → v ≡ w) → t ≡ false
    by true f = let i = f refl in absurd (omega (arith, h, i))
    by false f = refl

-- ---- jumps

jump_is : (T : Assigned) (d : ℕ) (again : Bool) (e : named.Exp) → IsJump d again e → (m : Mark) × (value T e ≡ tree.jump m d again)
jump_is T d again e (is_break {n = n}) = (no_mark n, refl)
jump_is T d again e (is_continue {n = n}) = (no_mark n, refl)

ends_with : (T : Assigned) (s : Statement) (ss ts : Statements) (e : tree.Exp) → EndsWith s ss ts → nested T ts e ≡ around T ss (statement T s (tree.ends e))
ends_with T s ss ts e alone = refl
ends_with T s ss ts e (behind {a = a} {ss = fs} {ts = gs} w) = ap (λ b. statement T a b) (ends_with T s fs gs e w)

module _ (T : Assigned) (A : Asked) (muts : List Bool) (k : Plan) (R : Renaming) where
  -- what the arm of a jump is, whichever match it stands in
  abbrev pub JumpsSo : Bool → List ℕ → ℕ → Subpatterns → tree.Exp → Type 0
  JumpsSo again xs d ps z = (m : Mark) × ((l : tree.Arms) (v : ℕ) → Picks l v ps z → BackArm A muts k R l (record { variant = v; outs = xs }) (tree.jump m d again))

  data JumpRead (again : Bool) (xs : List ℕ) (d : ℕ) (ps : Subpatterns) (e : named.Exp) : Type 0 where
    jump_read : (z : tree.Exp) → Rereads (value T e) z → JumpsSo again xs d ps z → JumpRead again xs d ps e

  with_jump : (d : ℕ) (again : Bool) (xs qs : List ℕ) (ps : Subpatterns) (n m j : Node) (e : named.Exp) (ss ts : Statements) → AllSpecial R xs → Distinct xs → AreNew R qs → Receives 0 qs ps → SameLength xs qs
      → (mj : Mark) → value T e ≡ tree.jump mj d again → EndsWith (named.evaluates j e true) ss ts
      → PutSo T A muts k R (seen_so (without xs R) xs (specials xs) qs) xs qs ss (handed_back R xs qs) → JumpRead again xs d ps (named.block n (named.body m ts named.absent))
  with_jump d again xs qs ps n m j e ss ts a di new rec len mj i w (put_so f p r) =
      jump_read (tree.block (mark_if T m (body_never (named.body m ts named.absent))) (f (tree.runs (tree.jump mj d again) (tree.ends (tree.unit (marked m.number (Some unit_shape)))))))
      (in_block (subst (λ b. RereadsBody b (f (tree.runs (tree.jump mj d again) (tree.ends (tree.unit (marked m.number (Some unit_shape))))))) (sym (ends_with T (named.evaluates j e true) ss ts (tail T m named.absent) w))
      (r (tree.runs (value T e) (tree.ends (tail T m named.absent))) (tree.runs (tree.jump mj d again) (tree.ends (tree.unit (marked m.number (Some unit_shape)))))
      (in_run (subst (λ e. Rereads e (tree.jump mj d again)) (sym i) same_jump) (in_end same_unit)))))
      (mj, λ l v pk. back_arm (without xs R) (seen_so (without xs R) xs (specials xs) qs) (handed_back R xs qs) a (without_within xs R) (received_outside R xs qs di new len) rec pk p (back_within R xs qs di) (jumps_last (marked m.number (Some unit_shape))))

  -- nothing is put back
  alone_jump : (d : ℕ) (again : Bool) (ps : Subpatterns) (e : named.Exp) → Receives 0 [] ps → (mj : Mark) → value T e ≡ tree.jump mj d again → JumpRead again [] d ps e
  alone_jump d again ps e rec mj i = jump_read (tree.jump mj d again) (subst (λ e. Rereads e (tree.jump mj d again)) (sym i) same_jump)
      (mj, λ l v pk. back_arm R R R (λ x i. absurd i) (λ x e s. s) (received_outside R [] [] tt tt both_end) rec pk all_back (λ x e s. s) jumps_alone)

  jumps_so : (d : ℕ) (again : Bool) (xs qs : List ℕ) (ps : Subpatterns) (e : named.Exp) → JumpsOut T A muts k R d again xs qs e → OneToOne R → AllSpecial R xs → Distinct xs → AreNew R qs → Receives 0 qs ps → JumpRead again xs d ps e
  jumps_so d again xs qs ps e (at_once j) one a di new rec = let m = jump_is T d again e j in alone_jump d again ps e rec m.0 m.1
  jumps_so d again xs qs ps e (made.in_block {n = n} {m = m} {j = c} {e = f} {ss = ss} {ts = ts} j p w) one a di new rec = let mj = jump_is T d again f j in
      with_jump d again xs qs ps n m c f ss ts a di new rec (same_length T A muts k R xs qs ss p) mj.0 mj.1 w
      (put_back_so T A muts k R (seen_so (without xs R) xs (specials xs) qs) xs qs ss p one di (frees_received T A muts k R xs xs qs one new (λ x i. i)))

  -- ---- arm by arm

  module _ (unit has : Bool) (J : Jumping) where
    abbrev pub ArmGives : Exit → Subpatterns → tree.Exp → Type 0
    ArmGives next ps z = (qs : List ℕ) × Receives 0 qs ps × AreNew R qs × Gives bare qs z × (length qs ≡ count has (k.outs next))
    ArmGives (breaks n) ps z = (d : ℕ) × (loop_of J.loops n ≡ Some d) × JumpsSo false (k.outs (breaks n)) d ps z
    ArmGives (continues n) ps z = (d : ℕ) × (loop_of J.loops n ≡ Some d) × JumpsSo true (k.outs (continues n)) d ps z
    ArmGives returns ps z = (l : tree.Arms) (v : ℕ) → Picks l v ps z → ReturnsOn J R l (returning_if unit (Some v))

    data ArmRead (x : Exit) (ps : Subpatterns) (e : named.Exp) : Type 0 where
      arm_read : (z : tree.Exp) → Rereads (value T e) z → ArmGives x ps z → ArmRead x ps e

    next_read : (qs : List ℕ) (ps : Subpatterns) (e : named.Exp) → Receives 0 qs ps → AreNew R qs → length qs ≡ count has (k.outs next) → Reread (λ z. Gives bare qs z) (value T e) → ArmRead next ps e
    next_read qs ps e rec new len (reread z r g) = arm_read z r (qs, rec, new, g, len)

    break_read : (n d : ℕ) (ps : Subpatterns) (e : named.Exp) → loop_of J.loops n ≡ Some d → JumpRead false (k.outs (breaks n)) d ps e → ArmRead (breaks n) ps e
    break_read n d ps e q (jump_read z r j) = arm_read z r (d, q, j)

    continue_read : (n d : ℕ) (ps : Subpatterns) (e : named.Exp) → loop_of J.loops n ≡ Some d → JumpRead true (k.outs (continues n)) d ps e → ArmRead (continues n) ps e
    continue_read n d ps e q (jump_read z r j) = arm_read z r (d, q, j)

    no_part_is : (ps : Subpatterns) → Receives 0 [] ps → ps ≡ tree.no_part
    no_part_is ps Receives.receives_none = refl

    unit_read : (n : Node) (o : Else) (ps : Subpatterns) → unit ≡ true → J.returning ≡ as_return → Receives 0 [] ps → Reread (λ z. Gives bare [] z) (returned T n o) → ArmRead returns ps (named.return n o)
    unit_read n o ps u q rec (reread z r g) = arm_read (tree.give (no_mark n) z) (in_give r)
        (λ l v pk. subst (λ u. ReturnsOn J R l (returning_if u (Some v))) (sym u) (q, unit_arm g (subst (λ ps. Picks l v ps (tree.give (no_mark n) z)) (no_part_is ps rec) pk)))

    value_read : (n : Node) (q : ℕ) (e : named.Exp) (ps : Subpatterns) → unit ≡ false → J.returning ≡ as_return → AreNew R (q ∷ []) → Receives 0 (q ∷ []) ps → Reread (λ z. Takes q z) (value T e) → ArmRead returns ps (named.return n (named.present e))
    value_read n q e ps u i new rec (reread z r t) = arm_read (tree.give (no_mark n) z) (in_give r)
        (λ l v pk. subst (λ u. ReturnsOn J R l (returning_if u (Some v))) (sym u) (i, value_arm new.0 rec t pk))

    arm_so : (x : Exit) (qs : List ℕ) (ps : Patterns) (e : named.Exp) → OneToOne R → BindsAll qs ps → AreNew R qs → ArmDoes T A muts k R unit has J x qs e → ArmRead x (subpatterns T None 0 ps) e
    arm_so x qs ps e one b new (goes_on g len) = next_read qs (subpatterns T None 0 ps) e (receives T 0 qs ps b) new len (given_them T bare qs e g)
    arm_so x qs ps e one b new (does_break {n = n} {d = d} q di a j) = break_read n d (subpatterns T None 0 ps) e q (jumps_so d false (k.outs (breaks n)) qs (subpatterns T None 0 ps) e j one a di new (receives T 0 qs ps b))
    arm_so x qs ps e one b new (does_continue {n = n} {d = d} q di a j) = continue_read n d (subpatterns T None 0 ps) e q (jumps_so d true (k.outs (continues n)) qs (subpatterns T None 0 ps) e j one a di new (receives T 0 qs ps b))
    arm_so x qs ps e one b new (does_return {n = n} {o = o} u q g) = unit_read n o (subpatterns T None 0 ps) u q (receives T 0 qs ps b) (return_given T n bare [] o g)
    arm_so x qs ps e one b new (returns_value {n = n} {q = q} {e = f} u i (a_variable {n = m} {u = w} j keeps)) = value_read n q f (subpatterns T None 0 ps) u i new (receives T 0 qs ps b) (variable_taken T m w q j keeps)

    -- ---- all arms

    pub data ArmsSo : ℕ → List Exit → tree.Arms → Type 0 where
      none_so : {v : ℕ} → ArmsSo v [] tree.no_arm
      more_so : {v n i : ℕ} {several : Bool} {ps : Subpatterns} {z : tree.Exp} {l : tree.Arms} {x : Exit} {xs : List Exit} → ((y : Exit) (ys : List Exit) → xs ≡ y ∷ ys → several ≡ true) → ArmGives x ps z → ArmsSo (suc v) xs l
          → ArmsSo v (x ∷ xs) (tree.arm_and (tree.variant n i several v ps) z l)

    pub data ArmsRead (v : ℕ) (xs : List Exit) (l : named.Arms) : Type 0 where
      arms_read : (r : tree.Arms) → RereadsArms (arms T l) r → ArmsSo v xs r → ArmsRead v xs l

    variant_is : (p : Node) (i v : ℕ) (ps : Patterns) → T.typ p.number ≡ item i → pattern T None (named.variant_pattern p i v ps) ≡ tree.variant p.number i (has_several T.items i) v (subpatterns T None 0 ps)
    variant_is p i v ps q = ap (λ t. behind_all t (tree.variant p.number i (has_several T.items i) v (subpatterns T (met t None) 0 ps))) q

    more_read : (v i : ℕ) (p : Node) (ps : Patterns) (e : named.Exp) (l : named.Arms) (x : Exit) (xs : List Exit) → T.typ p.number ≡ item i → ((y : Exit) (ys : List Exit) → xs ≡ y ∷ ys → has_several T.items i ≡ true)
        → ArmRead x (subpatterns T None 0 ps) e → ArmsRead (suc v) xs l → ArmsRead v (x ∷ xs) (named.arm_and (named.variant_pattern p i v ps) e l)
    more_read v i p ps e l x xs q s (arm_read z r g) (arms_read rs ra so) = arms_read (tree.arm_and (tree.variant p.number i (has_several T.items i) v (subpatterns T None 0 ps)) z rs)
        (subst (λ w. RereadsArms (tree.arm_and w (value T e) (arms T l)) (tree.arm_and (tree.variant p.number i (has_several T.items i) v (subpatterns T None 0 ps)) z rs)) (sym (variant_is p i v ps q)) (in_arm r ra)) (more_so s g so)

    pub arms_so : (v : ℕ) (xs : List Exit) (l : named.Arms) → OneToOne R → ArmsFor T A muts k R unit has J v xs l → ArmsRead v xs l
    arms_so v xs l one no_arms = arms_read tree.no_arm in_no_arm none_so
    arms_so v xs l one (an_arm {i = i} {p = p} {ps = ps} {e = e} {l = m} {x = x} {xs = ys} qs q s b new d more) = more_read v i p ps e m x ys q s (arm_so x qs ps e one b new d) (arms_so (suc v) ys m one more)

    pub data Picked (e : Exit) (l : tree.Arms) (w : ℕ) : Type 0 where
      picked : (ps : Subpatterns) (z : tree.Exp) → Picks l w ps z → ArmGives e ps z → Picked e l w

    later : (e : Exit) (n i v w : ℕ) (several : Bool) (ps : Subpatterns) (z : tree.Exp) (l : tree.Arms) → several ≡ true → nat_eq v w ≡ false → Picked e l w → Picked e (tree.arm_and (tree.variant n i several v ps) z l) w
    later e n i v w several ps z l s a (picked qs f pk g) = picked qs f (subst (λ t. Picks (tree.arm_and (tree.variant n i t v ps) z l) w qs f) (sym s) (picks_later a pk)) g

    not_none : (v w : ℕ) (e : Exit) (xs : List Exit) → place_from v e xs ≡ Some w → (y : Exit) × (ys : List Exit) × (xs ≡ y ∷ ys)
    not_none v w e [] q = absurd (none_some q)
    not_none v w e (y ∷ ys) q = (y, ys, refl)

    pub pick : (v : ℕ) (xs : List Exit) (l : tree.Arms) (e : Exit) (w : ℕ) → ArmsSo v xs l → place_from v e xs ≡ Some w → Picked e l w
    pick v [] l e w so q = absurd (none_some q)
    pick v (x ∷ xs) l e w (more_so {n = n} {i = i} {several = several} {ps = ps} {z = z} {l = m} s g so) q = by (same_exit e x) (λ t. same_is e x t) q (λ f. pick (suc v) xs m e w so f)
      where
        by : (t : Bool) → (t ≡ true → e ≡ x) → (if t then Some v else place_from (suc v) e xs) ≡ Some w → (place_from (suc v) e xs ≡ Some w → Picked e m w) → Picked e (tree.arm_and (tree.variant n i several v ps) z m) w
        by true same f more = subst (λ w. Picked e (tree.arm_and (tree.variant n i several v ps) z m) w) (some_is f) (picked ps z picks_here (subst (λ x. ArmGives x ps z) (sym (same refl)) g))
        by false same f more = let y = not_none (suc v) w e xs f in later e n i v w several ps z m (s y.0 y.1 y.2) (apart_from v w (place_behind (suc v) e xs w f)) (more f)

    -- ---- of the exits

    pack_is : (v : ℕ) (xs : List ℕ) (p : Pack) → pack_if xs (Some v) ≡ Some p → record { variant = v; outs = xs } ≡ p
    pack_is v xs p e = cc

    break_arm : (n : ℕ) (l : tree.Arms) (v : ℕ) → Picked (breaks n) l v → (m : Mark) × (d : ℕ) × (loop_of J.loops n ≡ Some d) × BackArm A muts k R l (record { variant = v; outs = k.outs (breaks n) }) (tree.jump m d false)
    break_arm n l v (picked ps z pk g) = (g.2.0, g.0, g.1, g.2.1 l v pk)

    continue_arm : (n : ℕ) (l : tree.Arms) (v : ℕ) → Picked (continues n) l v → (m : Mark) × (d : ℕ) × (loop_of J.loops n ≡ Some d) × BackArm A muts k R l (record { variant = v; outs = k.outs (continues n) }) (tree.jump m d true)
    continue_arm n l v (picked ps z pk g) = (g.2.0, g.0, g.1, g.2.1 l v pk)

    jump_arm : (n : ℕ) (again : Bool) (l : tree.Arms) (v : ℕ) → Picked (jump_exit n again) l v → (m : Mark) × (d : ℕ) × (loop_of J.loops n ≡ Some d) × BackArm A muts k R l (record { variant = v; outs = k.outs (jump_exit n again) }) (tree.jump m d again)
    jump_arm n true l v p = continue_arm n l v p
    jump_arm n false l v p = break_arm n l v p

    abbrev JumpArmOf : tree.Arms → ℕ → Bool → Pack → Type 0
    JumpArmOf l n again p = (m : Mark) × (d : ℕ) × (loop_of J.loops n ≡ Some d) × BackArm A muts k R l p (tree.jump m d again)

    jump_of : (l : tree.Arms) → ArmsSo 0 k.exits l → (n : ℕ) (again : Bool) (p : Pack) → packed k n again ≡ Some p → JumpArmOf l n again p
    jump_of l so n again p q = by (variant_for k (jump_exit n again)) refl q
      where
        by : (o : Option ℕ) → variant_for k (jump_exit n again) ≡ o → pack_if (k.outs (jump_exit n again)) o ≡ Some p → JumpArmOf l n again p
        by None i e = absurd (none_some e)
        by (Some v) i e = subst (λ p. JumpArmOf l n again p) (pack_is v (k.outs (jump_exit n again)) p e) (jump_arm n again l v (pick 0 k.exits l (jump_exit n again) v so i))

    return_arm : (l : tree.Arms) (v : ℕ) → Picked returns l v → ReturnsOn J R l (returning_if unit (Some v))
    return_arm l v (picked ps z pk g) = g l v pk

    none_returns : (u : Bool) (l : tree.Arms) → ReturnsOn J R l (returning_if u None)
    none_returns true l = tt
    none_returns false l = tt

    return_of : (l : tree.Arms) → ArmsSo 0 k.exits l → ReturnsOn J R l (returning_if unit (variant_for k returns))
    return_of l so = by (variant_for k returns) refl
      where
        by : (o : Option ℕ) → variant_for k returns ≡ o → ReturnsOn J R l (returning_if unit o)
        by None i = none_returns unit l
        by (Some v) i = return_arm l v (pick 0 k.exits l returns v so i)

    pub arms_of : (l : tree.Arms) → ((x y : ℕ) → sight_of R x ≡ Some (sight y special) → In x (special_of A muts k)) → ArmsSo 0 k.exits l → ArmsOf A muts k unit J R l
    arms_of l a so = record { all_special = a; jumps = jump_of l so; return = return_of l so }
