-- The block that a walk over two functions leaves open is a block of the text's function, at the node that it is told; where one block has the
-- node it is that one.
use Rattle.std.proofs.Common.{◌≡◌, ℕ, suc, ◌≤◌, ◌==◌, Bool, true, false, ◌&&◌, List, [], ◌∷◌, ◌++◌, Option, Some, None, if◌then◌else◌, refl, sym, subst, arith, true≢false}
use Rattle.std.proofs.lemmas.Bool.Decides.{Decides-eqb}
use Rattle.rx_typed.specs.Tree as tree
use Rattle.rx_typed.specs.Tree.{Mark, Pattern, Exp, Operands, Scrutinee, Arms, Body, Function}
use Rattle.rx_lower_walks.specs.Walks.{Among, here, there}
use Rattle.rx_exits_plan.specs.Blocks.{bound}
use Rattle.rx_exits_plan.specs.Marked.{is_among}
use Rattle.rx_exits_plan.specs.Spots.{Around, Spot, a_block, a_jump, a_return, with_variables, with_loop, spots, spots_in, spots_matched, spots_armed, spots_of, outermost, spots_of_function}
use Rattle.rx_engine_simulation.specs.Sights.{Renaming}
use Rattle.rx_engine_simulation.specs.Jumps.{Returning, as_return, with_value, with_unit, no_return, Jumping, in_loop}
use Rattle.rx_engine_simulation.specs.Places.{use_of}
use Rattle.rx_engine_simulation.specs.Programs.{whole_jumps}
use Rattle.rx_engine_related.specs.OneSite.{blocks_at}
use Rattle.rx_engine_related.proofs.Sole.{block_there}
use Rattle.rx_engine_alike.specs.Likeness.{Hole, Likeness, unlike, alike, alike_but, both, provided, when, choose, but_open}
use Rattle.rx_engine_alike.specs.Read.{as_read, as_borrow, as_share, as_build, as_unit, as_lazily, as_assign, as_update, as_call, as_input, as_print, as_block, as_choose, as_loop, as_jump}
use Rattle.rx_engine_alike.specs.Read.{as_give, as_no_operand, as_operand, as_no_arm, as_arm, as_ends, as_runs, as_declares, as_lets}
use Rattle.rx_engine_alike.specs.Same.{same_bool}
use Rattle.rx_engine_alike.specs.Ways.{Way, like_place}
use Rattle.rx_engine_alike.specs.Variables.{like_params, like_declared}
use Rattle.rx_engine_alike.specs.Patterns.{like_bindings, way_of_matched}
use Rattle.rx_engine_alike.specs.Giving.{is_unit, gives_variant}
use Rattle.rx_engine_alike.specs.Leaving.{part_of_variant, bound_in_block, gives_pack}
use Rattle.rx_engine_alike.specs.Forms.{Between, is_open, jumped, returned, like_exp, like_all, like_matched, like_arms, like_let, like_body, way_of_let}
use Rattle.rx_engine_alike.specs.Functions.{like_function}

-- ---- what is so of the open block, if there is one

data Held (P : Hole → Type 0) : Likeness → Type 0 where
  held_unlike : Held P unlike
  held_alike : Held P alike
  held : {h : Hole} → P h → Held P (alike_but h)

module _ {P : Hole → Type 0} where
  held_as : {Q : Hole → Type 0} {l : Likeness} → ((h : Hole) → P h → Q h) → Held P l → Held Q l
  held_as f held_unlike = held_unlike
  held_as f held_alike = held_alike
  held_as f (held {h = h} p) = held (f h p)

  held_both : {l m : Likeness} → Held P l → Held P m → Held P (both l m)
  held_both held_unlike k = held_unlike
  held_both held_alike k = k
  held_both (held p) held_alike = held p
  held_both (held p) held_unlike = held_unlike
  held_both (held p) (held q) = held_unlike

  held_if : (b : Bool) {l : Likeness} → Held P l → Held P (provided b l)
  held_if true k = k
  held_if false k = held_unlike

  held_when : {A : Type 0} (o : Option A) {f : A → Likeness} → ((a : A) → Held P (f a)) → Held P (when o f)
  held_when None k = held_unlike
  held_when (Some a) k = k a

  held_choose : (b : Bool) {l m : Likeness} → Held P l → Held P m → Held P (choose b l m)
  held_choose true k n = k
  held_choose false k n = n

  held_open : (b : Bool) (h : Hole) {l : Likeness} → (b ≡ true → P h) → Held P l → Held P (but_open b h l)
  held_open true h p k = held (p refl)
  held_open false h p k = k

  -- a jump or a place has no block
  held_jump : (J : Jumping) (R : Renaming) (b : Bool) (l : ℕ) (back : Bool) (e' : Exp) → Held P (jumped J R b l back e')
  held_jump J R true l back e' = held_when (as_give e') (λ r. held_if (gives_pack R (J.leaving l back) r.1) held_alike)
  held_jump J R false l back e' = held_when (as_jump e') (λ r. held_if _ held_alike)

  held_return : (U : List ℕ) (R : Renaming) (w : Returning) (e : Exp) {f : Exp → Likeness} → ((x : Exp) → Held P (f x)) → (e' : Exp) → Held P (returned U R w e f e')
  held_return U R as_return e k e' = k e'
  held_return U R (with_value v) e k e' = held_when (part_of_variant v e') k
  held_return U R (with_unit v) e k e' = held_choose (is_unit e) (held_if (gives_variant v [] e') held_alike) (held_if _ (held_when (bound_in_block e') (λ r. held_if _ (k r.1))))
  held_return U R no_return e k e' = held_unlike

-- ---- form by form

-- it is among these spots, at the node
data IsSpot (C : Between) (l : List Spot) (h : Hole) : Type 0 where
  is_spot : {a : Around} {n : ℕ} → Among (a_block a n h.text) l → is_open C.left_open n ≡ true → IsSpot C l h

among_left : {s : Spot} {l : List Spot} (m : List Spot) → Among s l → Among s (l ++ m)
among_left m here = here
among_left m (there i) = there (among_left m i)

among_right : (l : List Spot) {m : List Spot} {s : Spot} → Among s m → Among s (l ++ m)
among_right [] i = i
among_right (t ∷ l) i = there (among_right l i)

module _ (C : Between) where
  in_left : {l : List Spot} (m : List Spot) {x : Likeness} → Held (IsSpot C l) x → Held (IsSpot C (l ++ m)) x
  in_left {l} m k = held_as (λ h p. by h p) k
    where
      by : (h : Hole) → IsSpot C l h → IsSpot C (l ++ m) h
      by h (is_spot i o) = is_spot (among_left m i) o

  in_right : (l : List Spot) {m : List Spot} {x : Likeness} → Held (IsSpot C m) x → Held (IsSpot C (l ++ m)) x
  in_right l {m} k = held_as (λ h p. by h p) k
    where
      by : (h : Hole) → IsSpot C m h → IsSpot C (l ++ m) h
      by h (is_spot i o) = is_spot (among_right l i) o

  behind : {s : Spot} {l : List Spot} {x : Likeness} → Held (IsSpot C l) x → Held (IsSpot C (s ∷ l)) x
  behind {s} {l} k = held_as (λ h p. by h p) k
    where
      by : (h : Hole) → IsSpot C l h → IsSpot C (s ∷ l) h
      by h (is_spot i o) = is_spot (there i) o

  mutual
    exp_held : (a : Around) (J : Jumping) (R : Renaming) (e e' : Exp) → Held (IsSpot C (spots a e)) (like_exp C J R e e')
    exp_held a J R (tree.read m v p) e' = held_when (as_read e') (λ r. held_if _ held_alike)
    exp_held a J R (tree.borrow m b p) (tree.read m' v q) = held_if _ held_alike
    exp_held a J R (tree.borrow m b p) e' = held_when (as_borrow e') (λ r. held_if (same_bool b r.1 && like_place R (use_of b) p r.2) held_alike)
    exp_held a J R (tree.share m e) e' = held_when (as_share e') (λ r. exp_held a J R e r.1)
    exp_held a J R (tree.build m w es) e' = held_when (as_build e') (λ r. held_if _ (all_held a J R es r.2))
    exp_held a J R (tree.unit m) e' = held_when (as_unit e') (λ r. held_alike)
    exp_held a J R (tree.lazily m b e f) e' = held_when (as_lazily e') (λ r. held_if _ (held_both (in_left (spots a f) (exp_held a J R e r.2)) (in_right (spots a e) (exp_held a J R f r.3))))
    exp_held a J R (tree.assign m p e) e' = held_when (as_assign e') (λ r. held_if _ (exp_held a J R e r.2))
    exp_held a J R (tree.update m o p e) e' = held_when (as_update e') (λ r. held_if _ (exp_held a J R e r.3))
    exp_held a J R (tree.call m f es) e' = held_when (as_call e') (λ r. held_if _ (all_held a J R es r.2))
    exp_held a J R (tree.input m) e' = held_when (as_input e') (λ r. held_alike)
    exp_held a J R (tree.print m e) e' = held_when (as_print e') (λ r. exp_held a J R e r.1)
    exp_held a J R (tree.block m b) e' = held_when (as_block e') (λ r. held_open (is_open C.left_open m.node) (record { loops = J.loops; inside = R; text = b; answer = r.1 }) (λ q. is_spot here q)
        (behind (body_held a J R b r.1)))
    exp_held a J R (tree.choose m c l) e' = held_when (as_choose e') (λ r. held_both (in_left (spots_armed a l) (matched_held a J R c r.1))
        (in_right (spots_matched a c) (arms_held a J R (way_of_matched R c r.1) l r.2)))
    exp_held a J R (tree.loop m l e) e' = held_when (as_loop e') (λ r. held_if _ (exp_held (with_loop l a) (in_loop J l r.1) R e r.2))
    exp_held a J R (tree.jump m l back) e' = held_jump J R (is_among l C.outside) l back e'
    exp_held a J R (tree.give m e) e' = held_when (as_give e') (λ r. held_return C.units R J.returning e (λ f. in_left (a_return a m.node ∷ []) (exp_held a J R e f)) r.1)

    all_held : (a : Around) (J : Jumping) (R : Renaming) (es es' : Operands) → Held (IsSpot C (spots_in a es)) (like_all C J R es es')
    all_held a J R tree.no_operand es' = held_when (as_no_operand es') (λ r. held_alike)
    all_held a J R (tree.operand_and n e es) es' = held_when (as_operand es') (λ r. held_if _ (held_both (in_left (spots_in a es) (exp_held a J R e r.1))
        (in_right (spots a e) (all_held a J R es r.2))))

    matched_held : (a : Around) (J : Jumping) (R : Renaming) (c c' : Scrutinee) → Held (IsSpot C (spots_matched a c)) (like_matched C J R c c')
    matched_held a J R (tree.at_place m p) (tree.at_place m' q) = held_alike
    matched_held a J R (tree.of_value e) (tree.of_value f) = exp_held a J R e f
    matched_held a J R (tree.at_place m p) (tree.of_value f) = held_unlike
    matched_held a J R (tree.of_value e) (tree.at_place m q) = held_unlike

    arms_held : (a : Around) (J : Jumping) (R : Renaming) (w : Way) (l l' : Arms) → Held (IsSpot C (spots_armed a l)) (like_arms C J R w l l')
    arms_held a J R w tree.no_arm l' = held_when (as_no_arm l') (λ r. held_alike)
    arms_held a J R w (tree.arm_and q e l) l' = held_when (as_arm l') (λ r. held_if _ (held_when (like_bindings C.ways w R q r.0)
        (λ Ra. held_both (in_left (spots_armed a l) (exp_held (with_variables (bound q) a) J Ra e r.1)) (in_right (spots (with_variables (bound q) a) e) (arms_held a J R w l r.2)))))

    let_held : (a : Around) (J : Jumping) (R : Renaming) (c : Scrutinee) (q : Pattern) (c' : Scrutinee) → Held (IsSpot C (spots_matched a c)) (like_let C J R c q c')
    let_held a J R (tree.of_value e) q (tree.at_place m p) = held_if _ held_alike
    let_held a J R (tree.at_place m p) q (tree.at_place m' p') = held_alike
    let_held a J R (tree.of_value e) q (tree.of_value f) = exp_held a J R e f
    let_held a J R (tree.at_place m p) q (tree.of_value f) = held_unlike

    body_held : (a : Around) (J : Jumping) (R : Renaming) (b b' : Body) → Held (IsSpot C (spots_of a b)) (like_body C J R b b')
    body_held a J R (tree.ends e) b' = held_when (as_ends b') (λ r. exp_held a J R e r)
    body_held a J R (tree.runs e b) b' = held_when (as_runs b') (λ r. held_both (in_left (spots_of a b) (exp_held a J R e r.0)) (in_right (spots a e) (body_held a J R b r.1)))
    body_held a J R (tree.declares s xs b) b' = held_when (as_declares b') (λ r. held_when (like_declared C.ways R xs r.1) (λ Ra. body_held (with_variables xs a) J Ra b r.2))
    body_held a J R (tree.lets s q c b) b' = held_when (as_lets b') (λ r. held_both (in_left (spots_of (with_variables (bound q) a) b) (let_held a J R c r.1 r.2))
        (in_right (spots_matched a c) (held_when (like_bindings C.ways (way_of_let R c r.1 r.2) R q r.1) (λ Ra. body_held (with_variables (bound q) a) J Ra b r.3))))

  function_held : (g g' : Function) → Held (IsSpot C (spots_of_function g)) (like_function C g g')
  function_held g g' = held_when (like_params C.ways [] g.params g'.params) (λ R. exp_held (outermost g) whole_jumps R g.body g'.body)

-- ---- where one block has the node

fewer : (k : ℕ) (s : Spot) (l : List Spot) → blocks_at k (s ∷ l) ≤ 1 → blocks_at k l ≤ 1
fewer k (a_block a n b) l le = by (n == k) le
  where
    by : (t : Bool) → (if t then suc (blocks_at k l) else blocks_at k l) ≤ 1 → blocks_at k l ≤ 1
    by true le = omega (arith, le)
    by false le = le
fewer k (a_jump a n m back) l le = le
fewer k (a_return a n) l le = le

-- one has the node, and another is behind
no_other : (k : ℕ) (n : ℕ) (a : Around) (b : Body) {i : ℕ} {e : Around} {f : Body} (l : List Spot) → (n == k) ≡ true → (i == k) ≡ true → blocks_at k (a_block a n b ∷ l) ≤ 1
    → Among (a_block e i f) l → ⊥
no_other k n a b {i} {e} {f} l p q le j = by (n == k) p le (block_there k e f l (subst (λ i. Among (a_block e i f) l) ((Decides-eqb i k).0 q) j))
  where
    by : (t : Bool) → t ≡ true → (if t then suc (blocks_at k l) else blocks_at k l) ≤ 1 → 1 ≤ blocks_at k l → ⊥
    by true p le one = omega (arith, le, one)
    by false p le one = true≢false (sym p)

same_block : {a c : Around} {n m : ℕ} {b d : Body} (k : ℕ) (l : List Spot) → (n == k) ≡ true → (m == k) ≡ true → blocks_at k l ≤ 1 → Among (a_block a n b) l → Among (a_block c m d) l → b ≡ d
same_block k [] p q le i j = elim i [ ]
same_block k (_ ∷ l) p q le here here = refl
same_block {a} {c} {n} {m} {b} {d} k (_ ∷ l) p q le here (there j) = absurd (no_other k n a b l p q le j)
same_block {a} {c} {n} {m} {b} {d} k (_ ∷ l) p q le (there i) here = absurd (no_other k m c d l q p le i)
same_block k (s ∷ l) p q le (there i) (there j) = same_block k l p q (fewer k s l le) i j

-- the block at this node is the one that was left open
pub open_text : (C : Between) (k : ℕ) {h : Hole} (g g' : Function) {a : Around} {b : Body} → C.left_open ≡ Some k → blocks_at k (spots_of_function g) ≤ 1
    → Among (a_block a k b) (spots_of_function g) → like_function C g g' ≡ alike_but h → b ≡ h.text
open_text C k {h} g g' {b = b} opened le i q = by (like_function C g g') (function_held C g g') q
  where
    found : IsSpot C (spots_of_function g) h → b ≡ h.text
    found (is_spot {n = n} j o) = same_block k (spots_of_function g) ((Decides-eqb k k).1 refl) (subst (λ w. is_open w n ≡ true) opened o) le i j

    same_hole : {l m : Hole} → alike_but l ≡ alike_but m → m ≡ l
    same_hole e = cc

    by : (l : Likeness) → Held (IsSpot C (spots_of_function g)) l → l ≡ alike_but h → b ≡ h.text
    by _ held_unlike e = absurd (not_but e)
      where
        not_but : {h : Hole} → unlike ≡ alike_but h → ⊥
        not_but e = cc
    by _ held_alike e = absurd (not_but e)
      where
        not_but : {h : Hole} → alike ≡ alike_but h → ⊥
        not_but e = cc
    by _ (held p) e = found (subst (λ h. IsSpot C (spots_of_function g) h) (sym (same_hole e)) p)
