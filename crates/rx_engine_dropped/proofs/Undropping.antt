-- An answer in whose block the unit stands in place of what a call gives is related to the text, where that block gives what the call gives: so is the
-- answer with such a block, and references read there as they are here. One induction on what relates them.
use Rattle.std.proofs.Common.{◌≡◌, ℕ, ◌≤◌, ◌+◌, Bool, List, [], refl, sym, ap, subst, arith}
use Rattle.rx_typed.specs.Tree as tree
use Rattle.rx_typed.specs.Tree.{Mark, Pattern, Exp, Operands, Scrutinee, Arms, Body, Function, mark_of, temporary_at, own}
use Rattle.rx_lower_walks.specs.Matching.{tests, bindings}
use Rattle.rx_lower_walks.specs.Actions.{subject, in_temporary}
use Rattle.rx_exits_plan.specs.Asked.{Asked}
use Rattle.rx_exits_plan.specs.Plan.{Plan}
use Rattle.rx_engine_simulation.specs.Turns.{Allowance}
use Rattle.rx_engine_simulation.specs.Histories.{Facts}
use Rattle.rx_engine_simulation.specs.Sights.{Renaming}
use Rattle.rx_engine_simulation.specs.Binders.{LikeBindings, LikeTests}
use Rattle.rx_engine_simulation.specs.Jumps.{Jumping}
use Rattle.rx_engine_simulation.specs.Openings.{Openings}
use Rattle.rx_engine_simulation.specs.Blocks.{Stretch, done, does_then, declares_then, lets_then, before}
use Rattle.rx_engine_simulation.specs.Like.{LikeExp, opens, LikeAll, LikeMatched, LikeArms, LikeBody, opens_in, reads, borrows, views, shares, builds, builds_structs, builds_variants, units, lazies, assigns, updates, calls, inputs, prints, blocks, chooses, loops, stays, gives, no_operands, operands_and, at_places, of_values, no_arms, arms_and, ends_in, runs_on, declares_all, lets_in, reads_place, looks_behind}
use Rattle.rx_engine_simulation.specs.Rereads.{Rereads, is_read, same_read, same_borrow, same_unit, same_input, same_jump, in_share, in_build, in_lazily, in_assign, in_update, in_call, in_print, in_block, in_choose, in_loop, in_give, RereadsAll, in_none, in_operand, RereadsMatched, in_place_of, in_value_of, RereadsArms, in_no_arm, in_arm, RereadsBody, in_end, in_run, in_declare, in_let}
use Rattle.rx_engine_related.specs.AboutRun.{special_of}
use Rattle.rx_engine_related.specs.ByForm.{by_form, RelatedFunction}
use Rattle.rx_engine_related.specs.ExtractsTail.{tail_block, in_its_tail_block}
use Rattle.rx_engine_dropped.specs.Undrops.{Undrops, u_read, u_borrow, u_share, u_build, u_unit, u_lazily, u_assign, u_update, u_call, u_input, u_print, u_block, u_choose, u_loop, u_jump, u_give, UndropsAll, u_none, u_operand, UndropsMatched, u_place, u_value, UndropsArms, u_no_arm, u_arm, UndropsBody, undropped, undropped_given, u_ends, u_runs, u_declares, u_lets, UndropsFunction}
use Rattle.rx_engine_dropped.specs.DropBlock.{DropsCall, drops_call, drops_given, DropBlock, drop_block, in_its_drop_block}
use Rattle.rx_engine_dropped.proofs.Same.{self, self_all, self_matched}

-- ---- the block

-- the end of the block that is read, for that of the one that reads
abbrev pub EndUndone : ℕ → Body → Body → Type 0
EndUndone N b d1 = (b1 : Body) × UndropsBody N b b1 × RereadsBody b1 d1

end_so : {N : ℕ} {b d d1 : Body} → DropsCall N d d1 → RereadsBody b d → EndUndone N b d1
end_so drops_call (in_run (in_call r) (in_end same_unit)) = (_, undropped (self_all _), in_end (in_call r))
end_so drops_given (in_run (in_call r) (in_end (in_give same_unit))) = (_, undropped_given (self_all _), in_end (in_give (in_call r)))

front_so : {N : ℕ} {b d d1 : Body} (r : Stretch) → RereadsBody b (before r d) → DropsCall N d d1 → EndUndone N b (before r d1)
front_so done x k = end_so k x
front_so (does_then e r) (in_run {e = e0} y x) k = let z = front_so r x k in (_, u_runs (self e0) z.1, in_run y z.2)
front_so (declares_then n xs r) (in_declare x) k = let z = front_so r x k in (_, u_declares z.1, in_declare z.2)
front_so (lets_then n q c r) (in_let {c = c0} y x) k = let z = front_so r x k in (_, u_lets (self_matched c0) z.1, in_let y z.2)

-- ---- all forms

module _ (N : ℕ) (A : Asked) (muts : List Bool) (k : Plan) (items : ℕ → ℕ) (O : Openings) (gain : Allowance) where
  abbrev V : Facts
  V = by_form (special_of A muts k)

  abbrev From : Openings
  From = in_its_drop_block N A muts k items O gain

  abbrev To : Openings
  To = in_its_tail_block A muts k items O gain

  -- the tree for that of the answer, the one for that which is read, and what relates them
  abbrev ExpUndone : ℕ → Jumping → Renaming → Exp → Exp → Exp → Type 0
  ExpUndone c J R e z e0 = (e1 : Exp) × (z1 : Exp) × Undrops N e0 e1 × Rereads e1 z1 × (mark_of z1 ≡ mark_of z) × LikeExp items To gain V c J R e z1

  abbrev AllUndone : ℕ → Jumping → Renaming → Operands → Operands → Type 0
  AllUndone c J R es es0 = (es1 : Operands) × (zs1 : Operands) × UndropsAll N es0 es1 × RereadsAll es1 zs1 × LikeAll items To gain V c J R es zs1

  abbrev MatchedUndone : ℕ → Jumping → Renaming → Scrutinee → Scrutinee → Scrutinee → Type 0
  MatchedUndone c J R s t s0 = (s1 : Scrutinee) × (t1 : Scrutinee) × UndropsMatched N s0 s1 × RereadsMatched s1 t1 × (subject t1 ≡ subject t) × LikeMatched items To gain V c J R s t1

  abbrev ArmsUndone : ℕ → Jumping → Renaming → Scrutinee → Scrutinee → Arms → Arms → Type 0
  ArmsUndone c J R s t l l0 = (l1 : Arms) × (k1 : Arms) × UndropsArms N l0 l1 × RereadsArms l1 k1 × ((t1 : Scrutinee) → subject t1 ≡ subject t → LikeArms items To gain V c J R s t1 l k1)

  abbrev BodyUndone : ℕ → Jumping → Renaming → Body → Body → Type 0
  BodyUndone c J R b b0 = (b1 : Body) × (z1 : Body) × UndropsBody N b0 b1 × RereadsBody b1 z1 × LikeBody items To gain V c J R b z1

  block_undone : {c a : ℕ} (i : ℕ) {J : Jumping} {R : Renaming} (e z0 : Exp) {e0 : Exp} (f f' : Exp → Exp) → a + i ≤ c → DropBlock N A muts k items O gain a J R f f' → Rereads e0 (f' z0) → ExpUndone c J R (f e) (f' z0) e0
  block_undone i e z0 _ _ le (drop_block {a = a} {m = m} {m' = m'} {b = b} {d1 = d1} r is drops like) (in_block x) = let u = front_so r x drops in
      (_, _, u_block u.1, in_block u.2, refl, opens {e = tree.unit m} {e' = tree.unit m'} {f = λ e. tree.block m b} {f' = λ e. tree.block m' (before r d1)} a 0 (omega (arith, le)) (tail_block is like) units)

  -- a place that was read for a pattern stands as it did
  place_again : {c s' : ℕ} {J : Jumping} {R : Renaming} {m m' : Mark} {w : Bool} {q' : Pattern} {b b0 : Body} (y : ℕ)
      → ((z1 : Body) → LikeBody items To gain V c J R b (tree.lets s' q' (tree.of_value (tree.read m' w (own y))) z1) → LikeBody items To gain V c J R b (tree.lets s' q' (tree.at_place m (own y)) z1))
      → (b1 : Body) (z1 : Body) → UndropsBody N (tree.lets s' q' (tree.of_value (tree.read m' w (own y))) b0) b1 → RereadsBody b1 z1 → LikeBody items To gain V c J R b z1
      → BodyUndone c J R b (tree.lets s' q' (tree.at_place m (own y)) b0)
  place_again y f _ _ (u_lets (u_value u_read) u) (in_let (in_value_of same_read) x) l = (_, _, u_lets u_place u, in_let in_place_of x, f _ l)

  mutual
    exp_so : {c : ℕ} {J : Jumping} {R : Renaming} {e z e0 : Exp} → LikeExp items From gain V c J R e z → Rereads e0 z → ExpUndone c J R e z e0
    exp_so (opens {e = e} {e' = e'} {f = f} {f' = f'} a i n o l) x = block_undone i e e' f f' n o x
    exp_so (reads p) same_read = (_, _, u_read, same_read, refl, reads p)
    exp_so (reads p) (is_read {w = w}) = (_, _, u_borrow, is_read {w = w}, refl, reads p)
    exp_so (borrows p) same_borrow = (_, _, u_borrow, same_borrow, refl, borrows p)
    exp_so (views seen) same_read = (_, _, u_read, same_read, refl, views seen)
    exp_so (views seen) (is_read {w = w}) = (_, _, u_borrow, is_read {w = w}, refl, views seen)
    exp_so (shares l) (in_share x) = let r = exp_so l x in (_, _, u_share r.2, in_share r.3, refl, shares r.5)
    exp_so (builds f l) (in_build x) = let r = all_so l x in (_, _, u_build r.2, in_build r.3, refl, builds f r.4)
    exp_so (builds_structs f l) (in_build x) = let r = all_so l x in (_, _, u_build r.2, in_build r.3, refl, builds_structs f r.4)
    exp_so (builds_variants f l) (in_build x) = let r = all_so l x in (_, _, u_build r.2, in_build r.3, refl, builds_variants f r.4)
    exp_so units same_unit = (_, _, u_unit, same_unit, refl, units)
    exp_so (lazies i j n l m) (in_lazily x y) = let r = exp_so l x in let t = exp_so m y in (_, _, u_lazily r.2 t.2, in_lazily r.3 t.3, refl, lazies i j n r.5 t.5)
    exp_so (assigns p l) (in_assign x) = let r = exp_so l x in (_, _, u_assign r.2, in_assign r.3, refl, assigns p r.5)
    exp_so (updates p p1 l) (in_update x) = let r = exp_so l x in (_, _, u_update r.2, in_update r.3, refl, updates p p1 r.5)
    exp_so (calls l) (in_call x) = let r = all_so l x in (_, _, u_call r.2, in_call r.3, refl, calls r.4)
    exp_so inputs same_input = (_, _, u_input, same_input, refl, inputs)
    exp_so (prints l) (in_print x) = let r = exp_so l x in (_, _, u_print r.2, in_print r.3, refl, prints r.5)
    exp_so (blocks l) (in_block x) = let r = body_so l x in (_, _, u_block r.2, in_block r.3, refl, blocks r.4)
    exp_so (chooses i j n l a) (in_choose x y) = let r = matched_so l x in let t = arms_so a y in (_, _, u_choose r.2 t.2, in_choose r.3 t.3, refl, chooses i j n r.5 (t.4 r.1 r.4))
    exp_so (loops apart p q l) (in_loop x) = let r = exp_so l x in (_, _, u_loop r.2, in_loop r.3, refl, loops apart p q r.5)
    exp_so (stays f) same_jump = (_, _, u_jump, same_jump, refl, stays f)
    exp_so (gives f l) (in_give x) = let r = exp_so l x in (_, _, u_give r.2, in_give r.3, refl, gives f r.5)

    all_so : {c : ℕ} {J : Jumping} {R : Renaming} {es zs es0 : Operands} → LikeAll items From gain V c J R es zs → RereadsAll es0 zs → AllUndone c J R es es0
    all_so no_operands in_none = (_, _, u_none, in_none, no_operands)
    all_so (operands_and i j n l ls) (in_operand x y) = let r = exp_so l x in let t = all_so ls y in (_, _, u_operand r.2 t.2, in_operand r.3 t.3, operands_and i j n r.5 t.4)

    matched_so : {c : ℕ} {J : Jumping} {R : Renaming} {s t s0 : Scrutinee} → LikeMatched items From gain V c J R s t → RereadsMatched s0 t → MatchedUndone c J R s t s0
    matched_so at_places in_place_of = (_, _, u_place, in_place_of, refl, at_places)
    matched_so (of_values l) (in_value_of x) = let r = exp_so l x in (_, _, u_value r.2, in_value_of r.3, ap (λ (m : Mark). in_temporary (temporary_at m.node 0)) r.4, of_values r.5)

    arms_so : {c : ℕ} {J : Jumping} {R : Renaming} {s t : Scrutinee} {l z l0 : Arms} → LikeArms items From gain V c J R s t l z → RereadsArms l0 z → ArmsUndone c J R s t l l0
    arms_so no_arms in_no_arm = (_, _, u_no_arm, in_no_arm, (λ t1 q. no_arms))
    arms_so {R = R} {s = s} (arms_and {q = q} {q' = q'} Ra lt lb l ls) (in_arm x y) = let r = exp_so l x in let t = arms_so ls y in (
      _,
      _,
      u_arm r.2 t.2,
      in_arm r.3 t.3,
      (λ t1 w. arms_and Ra (subst (λ S. LikeTests R (subject s) S (tests [] q) (tests [] q')) (sym w) lt) (subst (λ S. LikeBindings V (subject s) S R (bindings [] q) (bindings [] q') Ra) (sym w) lb) r.5 (t.4 t1 w)),
    )

    body_so : {c : ℕ} {J : Jumping} {R : Renaming} {b z b0 : Body} → LikeBody items From gain V c J R b z → RereadsBody b0 z → BodyUndone c J R b b0
    body_so (opens_in a i n o l) x = absurd o
    body_so (ends_in l) (in_end x) = let r = exp_so l x in (_, _, u_ends r.2, in_end r.3, ends_in r.5)
    body_so (runs_on i j n l lb) (in_run x y) = let r = exp_so l x in let t = body_so lb y in (_, _, u_runs r.2 t.2, in_run r.3 t.3, runs_on i j n r.5 t.4)
    body_so (declares_all Ra ld lb) (in_declare x) = let r = body_so lb x in (_, _, u_declares r.2, in_declare r.3, declares_all Ra ld r.4)
    body_so {R = R} (lets_in {q = q} {q' = q'} {c = s} Ra i j n lc lp lb) (in_let x y) = let r = matched_so lc x in let t = body_so lb y in (
      _,
      _,
      u_lets r.2 t.2,
      in_let r.3 t.3,
      lets_in Ra i j n r.5 (subst (λ S. LikeBindings V (subject s) S R (bindings [] q) (bindings [] q') Ra) (sym r.4) lp) t.4,
    )
    body_so (reads_place {y = y} l) (in_let in_place_of x) = let r = body_so l (in_let (in_value_of same_read) x) in place_again y (λ z1 h. reads_place h) r.0 r.1 r.2 r.3 r.4
    body_so (looks_behind {y = y} x seen behind l) (in_let in_place_of z) = let r = body_so l (in_let (in_value_of same_read) z) in place_again y (λ z1 h. looks_behind x seen behind h) r.0 r.1 r.2 r.3 r.4

  -- ---- whole functions

  -- the function for the answer's, and the one for that which is read
  abbrev pub FunctionUndone : Function → Function → Type 0
  FunctionUndone g g' = (g1 : Function) × (z1 : Function) × UndropsFunction N g' g1 × (g1.params ≡ z1.params) × Rereads g1.body z1.body × RelatedFunction items To gain (special_of A muts k) g z1

  pub function_so : (g g' z : Function) → g'.params ≡ z.params → Rereads g'.body z.body → RelatedFunction items From gain (special_of A muts k) g z → FunctionUndone g g'
  function_so g g' z same x r = let u = exp_so r.body x in
      (record { params = g'.params; body = u.0 }, record { params = z.params; body = u.1 }, record { params = refl; body = u.2 }, same, u.3, record { inside = r.inside; params = r.params; body = u.5 })
