-- Where the walk finds parts alike they are, with the marks of jumps out of the run in the text: one induction over the forms.
use Rattle.std.proofs.Common.{◌≡◌, ℕ, ◌≤◌, Bool, true, false, not, ◌&&◌, List, [], ◌∷◌, Option, Some, None, if◌then◌else◌, refl, sym, ap, ◌∙◌, subst, arith}
use Rattle.rx_typed.specs.Tree as tree
use Rattle.rx_typed.specs.Tree.{Mark, Making, Place, Exp, Operands, Scrutinee, Arms, Body, fields_of, temporary_of}
use Rattle.rx_lower_walks.specs.Actions.{subject}
use Rattle.rx_exits_plan.specs.Points.{leaves, jump_exit}
use Rattle.rx_exits_plan.specs.Marked.{mark_then, is_among}
use Rattle.rx_exits_plan.specs.Changed.{changed, changed_all, changed_matched, changed_arms, changed_body}
use Rattle.rx_engine_simulation.specs.Turns.{Allowance}
use Rattle.rx_engine_simulation.specs.Histories.{Facts}
use Rattle.rx_engine_simulation.specs.Sights.{In, Renaming, IsNew}
use Rattle.rx_engine_simulation.specs.Jumps.{Pack, Returning, as_return, with_value, with_unit, no_return, Jumping, in_loop, loop_of}
use Rattle.rx_engine_simulation.specs.Places.{looking, writing, use_of, LikePlace}
use Rattle.rx_engine_simulation.specs.Packing.{as_variant}
use Rattle.rx_engine_simulation.specs.Units.{GivesUnit}
use Rattle.rx_engine_simulation.specs.Openings.{Openings}
use Rattle.rx_engine_simulation.specs.Like.{LikeExp, LikeAll, LikeMatched, LikeArms, LikeBody, opens, reads, borrows, shares, builds, builds_structs, builds_variants, units, lazies, assigns, updates, calls, inputs, prints, blocks, chooses, loops, stays, gives, no_operands, operands_and, at_places, of_values, no_arms, arms_and, ends_in, runs_on, declares_all}
use Rattle.rx_engine_simulation.specs.Rereads as again
use Rattle.rx_engine_simulation.specs.Rereads.{Rereads, RereadsAll, RereadsMatched, RereadsArms, RereadsBody}
use Rattle.rx_engine_related.specs.Running.{passing}
use Rattle.rx_engine_related.specs.Leaving.{Left, left_by_jump, left_by_return, left_with_value, left_with_unit}
use Rattle.rx_engine_related.proofs.Weaker.{Opens, weaker_exp}
use Rattle.rx_engine_alike.specs.Likeness.{Hole, Likeness, alike, provided, when, choose, but_open}
use Rattle.rx_engine_alike.specs.Ways.{Way}
use Rattle.rx_engine_alike.specs.Giving.{is_unit, gives_variant}
use Rattle.rx_engine_alike.specs.Units.{gives_unit}
use Rattle.rx_engine_alike.specs.Leaving.{gives_pack, bound_in_block}
use Rattle.rx_engine_alike.specs.Variables.{is_new}
use Rattle.rx_engine_alike.specs.Patterns.{way_of_matched, like_tests, like_bindings}
use Rattle.rx_engine_alike.specs.Forms.{Between, is_open, jumped, returned, may_be_read, value_way, way_of_let, like_exp, like_all, like_matched, like_arms, like_let, like_body}
use Rattle.rx_engine_alike_laws.proofs.Promised.{Promised, kept, nothing, Says, says, silent, given, said, and_so, and_with, equal_so}
use Rattle.rx_engine_alike_laws.proofs.Read.{as_read_so, as_borrow_so, as_share_so, as_build_so, as_unit_so, as_lazily_so, as_assign_so, as_update_so, as_call_so, as_input_so, as_print_so, as_block_so, as_choose_so, as_loop_so, as_jump_so, as_give_so, as_no_operand_so, as_operand_so, as_no_arm_so, as_arm_so, as_ends_so, as_runs_so, as_declares_so, as_lets_so}
use Rattle.rx_engine_alike_laws.proofs.Same.{same_bool_so, same_operator_so, MadeAlike, made_same, made_structs, made_variants, like_making_so}
use Rattle.rx_engine_alike_laws.proofs.Ways.{like_place_so}
use Rattle.rx_engine_alike_laws.proofs.Variables.{is_new_so, declared_so}
use Rattle.rx_engine_alike_laws.proofs.Patterns.{StandAlike, matched_places, matched_values, like_tests_so, like_bindings_so}
use Rattle.rx_engine_alike_laws.proofs.Giving.{reread, GivesAgain, gives_variant_so, PackGiven, pack_given, pack_so}
use Rattle.rx_engine_alike_laws.proofs.Units.{marked_gives_so}
use Rattle.rx_engine_alike_laws.proofs.Found.{Filling, filling, Found, all_alike, alike_around, not_alike, found_at, found, found_both, found_either, found_same, found_if, found_when, found_seen}
use Rattle.rx_engine_alike_laws.proofs.Leaving.{PartOf, part_is, part_so, BoundFirst, bound_first, bound_so, UnitOrNot, the_unit, not_the_unit, unit_or_not, apart_so, stays_so, number_is}
use Rattle.rx_engine_alike_laws.proofs.Letting.{views_place_so, viewing, ReadFor, read_for, may_be_read_so, LetLike, let_like, RestLike, rest_like, let_rest}

none_some : {A : Type 0} {a : A} → None ≡ Some a → ⊥
none_some e = cc

as_test : (b : Bool) → Says (b ≡ true) b
as_test true = says refl
as_test false = silent

as_given : {A : Type 0} (o : Option A) → Promised (λ a. o ≡ Some a) o
as_given None = nothing
as_given (Some a) = kept refl

-- jumps with other loops around
abbrev pub around : Jumping → List (ℕ × ℕ) → Jumping
around J ls = record J { loops = ls }

-- nothing leaves
abbrev pub Whole : Jumping → Type 0
Whole J = ((l : ℕ) (again : Bool) → J.leaving l again ≡ None) × (J.returning ≡ as_return)

module _ (C : Between) (O : Openings) (gain : Allowance) (V : Facts) (J : Jumping) where
  abbrev Likes : List (ℕ × ℕ) → Renaming → Exp → ℕ → Exp → Type 0
  Likes ls R e k z = LikeExp C.items O gain V k (around J ls) R (changed (passing C.outside) e) z

  abbrev AllLike : List (ℕ × ℕ) → Renaming → Operands → ℕ → Operands → Type 0
  AllLike ls R es k z = LikeAll C.items O gain V k (around J ls) R (changed_all (passing C.outside) es) z

  -- matched alike, and standing so
  abbrev MatchedLike : List (ℕ × ℕ) → Renaming → Way → Scrutinee → ℕ → Scrutinee → Type 0
  MatchedLike ls R w c k z = LikeMatched C.items O gain V k (around J ls) R (changed_matched (passing C.outside) c) z × StandAlike R w (subject (changed_matched (passing C.outside) c)) (subject z)

  -- for whatever stands so
  abbrev ArmsLike : List (ℕ × ℕ) → Renaming → Way → Arms → ℕ → Arms → Type 0
  ArmsLike ls R w l k z = (c c' : Scrutinee) → StandAlike R w (subject c) (subject c') → LikeArms C.items O gain V k (around J ls) R c c' (changed_arms (passing C.outside) l) z

  abbrev BodyLike : List (ℕ × ℕ) → Renaming → Body → ℕ → Body → Type 0
  BodyLike ls R b k z = LikeBody C.items O gain V k (around J ls) R (changed_body (passing C.outside) b) z

  -- a body for the open block, in place of the answer's in which references are read, with which the block is like the text's
  pub record Filled (h : Hole) : Type 0 where
    pub turns : 1 ≤ gain.turns
    pub made : Body
    pub rereads : RereadsBody h.answer made
    pub is_like : (m m' : Mark) → is_open C.left_open m.node ≡ true → LikeExp C.items O gain V 1 (around J h.loops) h.inside (tree.block m (changed_body (passing C.outside) h.text))
        (tree.block m' made)

  abbrev ExpFound : List (ℕ × ℕ) → Renaming → Exp → Exp → Likeness → Type 0
  ExpFound ls R e e' l = Found Filled (Whole J) Rereads (Likes ls R e) e' l

  -- ---- single forms

  same_opens : Opens O O V V (λ J. Unit {0})
  same_opens = record { special = λ x k. k; into = λ J l k u. tt; expression = λ a J R e f f' u o. o; statements = λ a J R S b f f' u o. o }

  more_exp : {k k' : ℕ} {K : Jumping} {R : Renaming} {e e' : Exp} → k ≤ k' → LikeExp C.items O gain V k K R e e' → LikeExp C.items O gain V k' K R e e'
  more_exp le l = weaker_exp C.items O O gain gain (omega arith) V V (λ J. Unit {0}) same_opens le tt l

  fields_same : (es : Operands) → fields_of es ≡ fields_of (changed_all (passing C.outside) es)
  fields_same tree.no_operand = refl
  fields_same (tree.operand_and i e es) = ap (λ l. i ∷ l) (fields_same es)

  made_alike : {k : ℕ} {K : Jumping} {R : Renaming} {m m' : Mark} {w w' : Making} {es es' : Operands} → MadeAlike (fields_of es) w w' → LikeAll C.items O gain V k K R es es'
      → LikeExp C.items O gain V k K R (tree.build m w es) (tree.build m' w' es')
  made_alike (made_same f) l = builds f l
  made_alike (made_structs f) l = builds_structs f l
  made_alike (made_variants f) l = builds_variants f l

  built : {k : ℕ} {K : Jumping} {R : Renaming} {m m' : Mark} {w w' : Making} (es : Operands) {es' : Operands} → MadeAlike (fields_of es) w w'
      → LikeAll C.items O gain V k K R (changed_all (passing C.outside) es) es'
      → LikeExp C.items O gain V k K R (tree.build m w (changed_all (passing C.outside) es)) (tree.build m' w' es')
  built {w = w} {w' = w'} es t l = made_alike (subst (λ js. MadeAlike js w w') (fields_same es) t) l

  looped : {K : Jumping} {R : Renaming} {m m' : Mark} {n n' : ℕ} {e e' : Exp} {l : Likeness} → ((i : ℕ) → loop_of K.loops i ≡ Some n' → ⊥) → K.leaving n true ≡ None → K.leaving n false ≡ None
      → Found Filled (Whole J) Rereads (λ k z. LikeExp C.items O gain V k (in_loop K n n') R e z) e' l
      → Found Filled (Whole J) Rereads (λ k z. LikeExp C.items O gain V k K R (tree.loop m n e) z) (tree.loop m' n' e') l
  looped {m' = m'} {n' = n'} u a b (all_alike z x w f) = all_alike (tree.loop m' n' z) (again.in_loop x) (λ v. ap (tree.loop m' n') (w v)) (λ k. loops u a b (f gain.turns))
  looped {K} {R} {m} {m'} {n} {n'} {e} {e'} u a b (alike_around {h = h} g) = alike_around (λ i. by i.turns (g i))
    where
      by : 1 ≤ gain.turns → Filling Rereads (λ k z. LikeExp C.items O gain V k (in_loop K n n') R e z) e'
          → Filling Rereads (λ k z. LikeExp C.items O gain V k K R (tree.loop m n e) z) (tree.loop m' n' e')
      by le (filling z x l) = filling (tree.loop m' n' z) (again.in_loop x) (loops u a b (more_exp le l))
  looped u a b not_alike = not_alike

  -- a block, which may be the one that is left open
  block_found : (ls : List (ℕ × ℕ)) (R : Renaming) (m m' : Mark) (b b' : Body) (o : Bool) {l : Likeness} → is_open C.left_open m.node ≡ o → Found Filled (Whole J) RereadsBody (BodyLike ls R b) b' l
      → ExpFound ls R (tree.block m b) (tree.block m' b') (but_open o (record { loops = ls; inside = R; text = b; answer = b' }) l)
  block_found ls R m m' b b' true q h = alike_around (λ i. filling (tree.block m' i.made) (again.in_block i.rereads) (i.is_like m m' q))
  block_found ls R m m' b b' false q h = found (λ z. tree.block m' z) (λ z r. again.in_block r) (λ k z l. blocks l) h

  -- ---- openings

  module _ (opened : (a : ℕ) (ls : List (ℕ × ℕ)) (R : Renaming) (e : Exp) (f f' : Exp → Exp) → Left C.units a (around J ls) R e f f' → O.expression V a (around J ls) R e f f') where
    -- in place of no part
    opened_alone : {ls : List (ℕ × ℕ)} {R : Renaming} (e e' : Exp) → ((f : Exp) → Left C.units 0 (around J ls) R f (λ f. e) (λ f. e')) → (k : ℕ) → LikeExp C.items O gain V k (around J ls) R e e'
    opened_alone {ls} {R} e e' l k = opens {e = tree.unit (tree.mark_of e)} {e' = tree.unit (tree.mark_of e)} {f = λ f. e} {f' = λ f. e'} 0 k (omega arith)
        (opened 0 ls R (tree.unit (tree.mark_of e)) (λ f. e) (λ f. e') (l (tree.unit (tree.mark_of e)))) units

    left_found : (ls : List (ℕ × ℕ)) (R : Renaming) (m : Mark) (l : ℕ) (back : Bool) (m' : Mark) (g : Exp) (o : Option Pack) → J.leaving l back ≡ o
        → Found Filled (Whole J) Rereads (λ k z. LikeExp C.items O gain V k (around J ls) R (mark_then (leaves (jump_exit l back)) (tree.jump m l back)) z) (tree.give m' g)
        (provided (gives_pack R o g) alike)
    left_found ls R m l back m' g None q = not_alike
    left_found ls R m l back m' g (Some p) q = found_if (pack_so R p g) (λ v. by v)
      where
        by : PackGiven R p g → Found Filled (Whole J) Rereads (λ k z. LikeExp C.items O gain V k (around J ls) R (mark_then (leaves (jump_exit l back)) (tree.jump m l back)) z) (tree.give m' g) alike
        by (pack_given h (reread z r t)) = all_alike (tree.give m' z) (again.in_give r) (λ w. absurd (none_some (sym (w.0 l back) ∙ q)))
            (opened_alone (mark_then (leaves (jump_exit l back)) (tree.jump m l back)) (tree.give m' z) (λ f. left_by_jump p q h t))

    jump_found : (ls : List (ℕ × ℕ)) (R : Renaming) (b : Bool) (m : Mark) (l : ℕ) (back : Bool) (e' : Exp)
        → Found Filled (Whole J) Rereads (λ k z. LikeExp C.items O gain V k (around J ls) R (if b then mark_then (leaves (jump_exit l back)) (tree.jump m l back) else tree.jump m l back) z) e'
        (jumped (around J ls) R b l back e')
    jump_found ls R true m l back e' = found_seen (λ r. tree.give r.0 r.1) (as_give_so e') (λ r. left_found ls R m l back r.0 r.1 (J.leaving l back) refl)
    jump_found ls R false m l back e' = found_seen (λ r. tree.jump r.0 r.1 r.2) (as_jump_so e')
        (λ r. found_if {P = (loop_of ls l ≡ Some r.1) × (back ≡ r.2)} (and_so (number_is (loop_of ls l) r.1) (same_bool_so back r.2) (λ s q. (s, q)))
        (λ t. found_same again.same_jump (λ k. subst (λ c. LikeExp C.items O gain V k (around J ls) R (tree.jump m l back) (tree.jump r.0 r.1 c)) t.1 (stays t.0))))

    -- what is returned, where something is said of its value
    value_found : (ls : List (ℕ × ℕ)) (R : Renaming) (m m' : Mark) (e : Exp) {v : ℕ} {x e' : Exp} {l : Likeness} → J.returning ≡ with_value v → PartOf v x e' → ExpFound ls R e x l
        → ExpFound ls R (tree.give m e) (tree.give m' e') l
    value_found ls R m m' e q (part_is {w = w} {i = i}) h = found_at (λ z. tree.give m' (tree.build w (tree.variant_of i _) (tree.operand_and 0 z tree.no_operand)))
        (λ z r. again.in_give (again.in_build (again.in_operand r again.in_none))) (λ z o p. cc)
        (λ k z l. opens {f = λ e. tree.give m e} {f' = λ e. tree.give m' (tree.build w (tree.variant_of i _) (tree.operand_and 0 e tree.no_operand))} 0 k (omega arith)
        (opened 0 ls R (changed (passing C.outside) e) (λ e. tree.give m e) (λ e. tree.give m' (tree.build w (tree.variant_of i _) (tree.operand_and 0 e tree.no_operand)))
        (left_with_value q)) l) h

    bound_found : (ls : List (ℕ × ℕ)) (R : Renaming) (m m' : Mark) (e : Exp) {v : ℕ} {r : ℕ × Exp × Exp} {e' : Exp} {l : Likeness} → J.returning ≡ with_unit v
        → GivesUnit C.units (changed (passing C.outside) e) → BoundFirst r e' → IsNew R r.0
        → GivesAgain (as_variant v) [] r.2 → ExpFound ls R e r.1 l → ExpFound ls R (tree.give m e) (tree.give m' e') l
    bound_found ls R m m' e q g (bound_first {mb = mb} {n = n} {k = k} {o = o} {mutable = mutable}) u (reread y s t) h = found_at
        (λ z. tree.give m' (tree.block mb (tree.lets n (tree.bind k o (tree.by_value mutable)) (tree.of_value z) (tree.ends y))))
        (λ z r. again.in_give (again.in_block (again.in_let (again.in_value_of r) (again.in_end s)))) (λ z w p. absurd (returns_so (sym (w.1) ∙ q)))
        (λ i z l. opens {f = λ e. tree.give m e} {f' = λ e. tree.give m' (tree.block mb (tree.lets n (tree.bind k o (tree.by_value mutable)) (tree.of_value e) (tree.ends y)))} 0 i (omega arith)
        (opened 0 ls R (changed (passing C.outside) e) (λ e. tree.give m e) (λ e. tree.give m'
        (tree.block mb (tree.lets n (tree.bind k o (tree.by_value mutable)) (tree.of_value e) (tree.ends y)))) (left_with_unit q g u t)) l) h
      where
        returns_so : {v : ℕ} → as_return ≡ with_unit v → ⊥
        returns_so e = cc

    unit_found : (ls : List (ℕ × ℕ)) (R : Renaming) (m m' : Mark) (e : Exp) {v : ℕ} (e' : Exp) (f : Exp → Likeness) (b : Bool) → J.returning ≡ with_unit v → ((x : Exp) → ExpFound ls R e x (f x))
        → UnitOrNot e b
        → ExpFound ls R (tree.give m e) (tree.give m' e') (choose b (provided (gives_variant v [] e') alike)
        (provided (gives_unit C.units e) (when (bound_in_block e') (λ r. provided (is_new R r.0 && gives_variant v [] r.2) (f r.1)))))
    unit_found ls R m m' e {v} e' f b q s (the_unit {m = mu}) = found_if (gives_variant_so v [] e') (λ t. by t)
      where
        returns_so : {v : ℕ} → as_return ≡ with_unit v → ⊥
        returns_so e = cc

        by : GivesAgain (as_variant v) [] e' → Found Filled (Whole J) Rereads (Likes ls R (tree.give m (tree.unit mu))) (tree.give m' e') alike
        by (reread z r t) = all_alike (tree.give m' z) (again.in_give r) (λ w. absurd (returns_so (sym w.1 ∙ q))) (opened_alone (tree.give m (tree.unit mu)) (tree.give m' z) (λ f. left_by_return q t))
    unit_found ls R m m' e {v} e' f b q s not_the_unit = found_if (marked_gives_so C.units C.outside e)
        (λ g. found_when (bound_so e') (λ r i. found_if {P = IsNew R r.0 × GivesAgain (as_variant v) [] r.2}
        (and_so (is_new_so R r.0) (gives_variant_so v [] r.2) (λ a b. (a, b))) (λ t. bound_found ls R m m' e q g i t.0 t.1 (s r.1))))

    give_found : (ls : List (ℕ × ℕ)) (R : Renaming) (m m' : Mark) (e e' : Exp) (f : Exp → Likeness) (w : Returning) → J.returning ≡ w → ((x : Exp) → ExpFound ls R e x (f x))
        → ExpFound ls R (tree.give m e) (tree.give m' e') (returned C.units R w e f e')
    give_found ls R m m' e e' f as_return q s = found (λ z. tree.give m' z) (λ z r. again.in_give r) (λ k z l. gives q l) (s e')
    give_found ls R m m' e e' f (with_value v) q s = found_when (part_so v e') (λ x p. value_found ls R m m' e q p (s x))
    give_found ls R m m' e e' f (with_unit v) q s = unit_found ls R m m' e e' f (is_unit e) q s (unit_or_not e)
    give_found ls R m m' e e' f no_return q s = not_alike

    -- ---- form by form

    read_found : (ls : List (ℕ × ℕ)) (R : Renaming) (e : Exp) (q : tree.Pattern) (m : Mark) (p : Place) (b : Bool) → Says (ReadFor C.items O gain V (passing C.outside) R e q p) b
        → Found Filled (Whole J) RereadsMatched (λ k z. LetLike C.items O gain V k (around J ls) R (value_way b) (tree.of_value (changed (passing C.outside) e)) q z) (tree.at_place m p)
        (provided b alike)
    read_found ls R e q m p true (says (read_for r f)) = found_same again.in_place_of (λ k. let_like (tree.of_value (tree.read m false p)) (of_values (r k (around J ls) m))
        (matched_values R (temporary_of (changed (passing C.outside) e)) (temporary_of (tree.read m false p))) (λ j s' b b' l. f j s' (around J ls) m b b' l))
    read_found ls R e q m p false silent = not_alike

    module _ (too : (x : ℕ) → In x C.ways.elsewhere → V.Special x) where
      -- of what follows a `let`, under each renaming
      rest_found : (ls : List (ℕ × ℕ)) (R : Renaming) (w : Way) (q q' : tree.Pattern) (b b' : Body)
          → ((Ra : Renaming) → Found Filled (Whole J) RereadsBody (BodyLike ls Ra b) b' (like_body C (around J ls) Ra b b'))
          → Found Filled (Whole J) RereadsBody (λ k y. RestLike C.items O gain V k (around J ls) R w q q' (changed_body (passing C.outside) b) y) b'
          (when (like_bindings C.ways w R q q') (λ Ra. like_body C (around J ls) Ra b b'))
      rest_found ls R w q q' b b' f = found_when (as_given (like_bindings C.ways w R q q')) (λ Ra d. found (λ z. z) (λ z x. x)
          (λ k z l. rest_like Ra (λ S S' s. given (like_bindings C.ways w R q q') (like_bindings_so V C.ways too w R q q' s) d) l) (f Ra))

      mutual
        pub exp_so : (ls : List (ℕ × ℕ)) (R : Renaming) (e e' : Exp) → ExpFound ls R e e' (like_exp C (around J ls) R e e')
        exp_so ls R (tree.read m v p) e' = found_seen (λ r. tree.read r.0 r.1 r.2) (as_read_so e') (λ r. found_if (like_place_so R looking p r.2) (λ l. found_same again.same_read (λ k. reads l)))
        exp_so ls R (tree.borrow m b p) (tree.read m' v q) = found_if (views_place_so R b p q) (λ s. found_same again.same_read (λ k. viewing C.items O gain V s))
        exp_so ls R (tree.borrow m b p) e' = found_seen (λ r. tree.borrow r.0 r.1 r.2) (as_borrow_so e')
            (λ r. found_if {P = (b ≡ r.1) × LikePlace R (use_of b) p r.2} (and_so (same_bool_so b r.1) (like_place_so R (use_of b) p r.2) (λ a b. (a, b)))
            (λ t. found_same again.same_borrow (λ k. subst (λ c. Likes ls R (tree.borrow m b p) k (tree.borrow r.0 c r.2)) t.0 (borrows t.1))))
        exp_so ls R (tree.share m e) e' = found_seen (λ r. tree.share r.0 r.1) (as_share_so e') (λ r. found (λ z. tree.share r.0 z) (λ z x. again.in_share x) (λ k z l. shares l) (exp_so ls R e r.1))
        exp_so ls R (tree.build m w es) e' = found_seen (λ r. tree.build r.0 r.1 r.2) (as_build_so e') (λ r. found_if (like_making_so w r.1 (fields_of es))
            (λ t. found (λ z. tree.build r.0 r.1 z) (λ z x. again.in_build x) (λ k z l. built es t l) (all_so ls R es r.2)))
        exp_so ls R (tree.unit m) e' = found_seen (λ r. tree.unit r) (as_unit_so e') (λ r. found_same again.same_unit (λ k. units))
        exp_so ls R (tree.lazily m b e f) e' = found_seen (λ r. tree.lazily r.0 r.1 r.2 r.3) (as_lazily_so e')
            (λ r. found_if (same_bool_so b r.1) (λ q. found_both (λ z y. tree.lazily r.0 r.1 z y) (λ z y x w. again.in_lazily x w)
            (λ i j k z y le l n. subst (λ c. Likes ls R (tree.lazily m b e f) k (tree.lazily r.0 c z y)) q (lazies i j le l n)) (exp_so ls R e r.2) (exp_so ls R f r.3)))
        exp_so ls R (tree.assign m p e) e' = found_seen (λ r. tree.assign r.0 r.1 r.2) (as_assign_so e')
            (λ r. found_if (like_place_so R writing p r.1) (λ t. found (λ z. tree.assign r.0 r.1 z) (λ z x. again.in_assign x) (λ k z l. assigns t l) (exp_so ls R e r.2)))
        exp_so ls R (tree.update m o p e) e' = found_seen (λ r. tree.update r.0 r.1 r.2 r.3) (as_update_so e') (λ r. found_if {P = (o ≡ r.1) × LikePlace R looking p r.2 × LikePlace R writing p r.2}
            (and_with (same_operator_so o r.1) (λ q. and_so (like_place_so R looking p r.2) (like_place_so R writing p r.2) (λ a b. (q, a, b))))
            (λ t. found (λ z. tree.update r.0 r.1 r.2 z) (λ z x. again.in_update x) (λ k z l. subst (λ c. Likes ls R (tree.update m o p e) k (tree.update r.0 c r.2 z)) t.0 (updates t.1 t.2 l))
            (exp_so ls R e r.3)))
        exp_so ls R (tree.call m f es) e' = found_seen (λ r. tree.call r.0 r.1 r.2) (as_call_so e') (λ r. found_if (equal_so (C.items f) r.1)
            (λ q. found (λ z. tree.call r.0 r.1 z) (λ z x. again.in_call x) (λ k z l. subst (λ c. Likes ls R (tree.call m f es) k (tree.call r.0 c z)) q (calls l)) (all_so ls R es r.2)))
        exp_so ls R (tree.input m) e' = found_seen (λ r. tree.input r) (as_input_so e') (λ r. found_same again.same_input (λ k. inputs))
        exp_so ls R (tree.print m e) e' = found_seen (λ r. tree.print r.0 r.1) (as_print_so e') (λ r. found (λ z. tree.print r.0 z) (λ z x. again.in_print x) (λ k z l. prints l) (exp_so ls R e r.1))
        exp_so ls R (tree.block m b) e' = found_seen (λ r. tree.block r.0 r.1) (as_block_so e') (λ r. block_found ls R m r.0 b r.1 (is_open C.left_open m.node) refl (body_so ls R b r.1))
        exp_so ls R (tree.choose m c l) e' = found_seen (λ r. tree.choose r.0 r.1 r.2) (as_choose_so e') (λ r. found_both (λ z y. tree.choose r.0 z y) (λ z y x w. again.in_choose x w)
            (λ i j k z y le a b. chooses i j le a.0 (b (changed_matched (passing C.outside) c) z a.1)) (matched_so ls R c r.1) (arms_so ls R (way_of_matched R c r.1) l r.2))
        exp_so ls R (tree.loop m l e) e' = found_seen (λ r. tree.loop r.0 r.1 r.2) (as_loop_so e')
            (λ r. found_if {P = ((J.leaving l true ≡ None) × (J.leaving l false ≡ None)) × ((n : ℕ) → loop_of ls n ≡ Some r.1 → ⊥)}
            (and_with (as_test (not (is_among l C.outside))) (λ u. and_so (stays_so (around J ls) l) (apart_so ls r.1) (λ a b. (a, b)))) (λ t. looped t.1 t.0.0 t.0.1 (exp_so ((l, r.1) ∷ ls) R e r.2)))
        exp_so ls R (tree.jump m l back) e' = jump_found ls R (is_among l C.outside) m l back e'
        exp_so ls R (tree.give m e) e' = found_seen (λ r. tree.give r.0 r.1) (as_give_so e')
            (λ r. give_found ls R m r.0 e r.1 (λ f. like_exp C (around J ls) R e f) J.returning refl (λ f. exp_so ls R e f))

        pub all_so : (ls : List (ℕ × ℕ)) (R : Renaming) (es es' : Operands) → Found Filled (Whole J) RereadsAll (AllLike ls R es) es' (like_all C (around J ls) R es es')
        all_so ls R tree.no_operand es' = found_seen (λ r. tree.no_operand) (as_no_operand_so es') (λ r. found_same again.in_none (λ k. no_operands))
        all_so ls R (tree.operand_and n e es) es' = found_seen (λ r. tree.operand_and r.0 r.1 r.2) (as_operand_so es')
            (λ r. found_if (equal_so n r.0) (λ q. found_both (λ z y. tree.operand_and r.0 z y) (λ z y x w. again.in_operand x w)
            (λ i j k z y le l s. subst (λ c. AllLike ls R (tree.operand_and n e es) k (tree.operand_and c z y)) q (operands_and i j le l s)) (exp_so ls R e r.1) (all_so ls R es r.2)))

        pub matched_so : (ls : List (ℕ × ℕ)) (R : Renaming) (c c' : Scrutinee) → Found Filled (Whole J) RereadsMatched (MatchedLike ls R (way_of_matched R c c') c) c'
            (like_matched C (around J ls) R c c')
        matched_so ls R (tree.at_place m p) (tree.at_place m' q) = found_same again.in_place_of (λ k. (at_places, matched_places R p q))
        matched_so ls R (tree.of_value e) (tree.of_value f) = found (λ z. tree.of_value z) (λ z x. again.in_value_of x)
            (λ k z l. (of_values l, matched_values R (temporary_of (changed (passing C.outside) e)) (temporary_of z))) (exp_so ls R e f)
        matched_so ls R (tree.at_place m p) (tree.of_value f) = not_alike
        matched_so ls R (tree.of_value e) (tree.at_place m q) = not_alike

        pub arms_so : (ls : List (ℕ × ℕ)) (R : Renaming) (w : Way) (l l' : Arms) → Found Filled (Whole J) RereadsArms (ArmsLike ls R w l) l' (like_arms C (around J ls) R w l l')
        arms_so ls R w tree.no_arm l' = found_seen (λ r. tree.no_arm) (as_no_arm_so l') (λ r. found_same again.in_no_arm (λ k c c' s. no_arms))
        arms_so ls R w (tree.arm_and q e l) l' = found_seen (λ r. tree.arm_and r.0 r.1 r.2) (as_arm_so l')
            (λ r. found_if (as_test (like_tests w q r.0)) (λ t. found_when (as_given (like_bindings C.ways w R q r.0))
            (λ Ra b. found_either (λ z y. tree.arm_and r.0 z y) (λ z y x w. again.in_arm x w)
            (λ k z y h i c c' s. arms_and Ra (said (like_tests w q r.0) (like_tests_so w q r.0 s) t) (given (like_bindings C.ways w R q r.0) (like_bindings_so V C.ways too w R q r.0 s) b) h
            (i c c' s)) (exp_so ls Ra e r.1) (arms_so ls R w l r.2))))

        pub let_so : (ls : List (ℕ × ℕ)) (R : Renaming) (c : Scrutinee) (q : tree.Pattern) (c' : Scrutinee)
            → Found Filled (Whole J) RereadsMatched (λ k z. LetLike C.items O gain V k (around J ls) R (way_of_let R c q c') (changed_matched (passing C.outside) c) q z) c'
            (like_let C (around J ls) R c q c')
        let_so ls R (tree.of_value e) q (tree.at_place m p) = read_found ls R e q m p (may_be_read R e q p) (may_be_read_so C.items O gain V (passing C.outside) R e q p)
        let_so ls R (tree.at_place m p) q (tree.at_place m' p') = found_same again.in_place_of (λ k. let_like (tree.at_place m' p') at_places (matched_places R p p') (λ j s b b' l. l))
        let_so ls R (tree.of_value e) q (tree.of_value f) = found (λ z. tree.of_value z) (λ z x. again.in_value_of x)
            (λ k z l. let_like (tree.of_value z) (of_values l) (matched_values R (temporary_of (changed (passing C.outside) e)) (temporary_of z)) (λ j s b b' l. l)) (exp_so ls R e f)
        let_so ls R (tree.at_place m p) q (tree.of_value f) = not_alike

        pub body_so : (ls : List (ℕ × ℕ)) (R : Renaming) (b b' : Body) → Found Filled (Whole J) RereadsBody (BodyLike ls R b) b' (like_body C (around J ls) R b b')
        body_so ls R (tree.ends e) b' = found_seen (λ r. tree.ends r) (as_ends_so b') (λ r. found (λ z. tree.ends z) (λ z x. again.in_end x) (λ k z l. ends_in l) (exp_so ls R e r))
        body_so ls R (tree.runs e b) b' = found_seen (λ r. tree.runs r.0 r.1) (as_runs_so b')
            (λ r. found_both (λ z y. tree.runs z y) (λ z y x w. again.in_run x w) (λ i j k z y le l n. runs_on i j le l n) (exp_so ls R e r.0) (body_so ls R b r.1))
        body_so ls R (tree.declares s xs b) b' = found_seen (λ r. tree.declares r.0 r.1 r.2) (as_declares_so b')
            (λ r. found_when (declared_so V C.ways too R xs r.1) (λ Ra d. found (λ z. tree.declares r.0 r.1 z) (λ z x. again.in_declare x) (λ k z l. declares_all Ra d l) (body_so ls Ra b r.2)))
        body_so ls R (tree.lets s q c b) b' = found_seen (λ r. tree.lets r.0 r.1 r.2 r.3) (as_lets_so b')
            (λ r. found_both (λ z y. tree.lets r.0 r.1 z y) (λ z y x w. again.in_let x w) (λ i j k z y le l n. let_rest C.items O gain V le l n)
            (let_so ls R c r.1 r.2) (rest_found ls R (way_of_let R c r.1 r.2) q r.1 b r.3 (λ Ra. body_so ls Ra b r.3)))
