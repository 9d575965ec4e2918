-- Blocks of a typed tree have numbers that rise in the order of the text, so no two have one: along the relation of the text and its tree
-- with numbers, by induction.
use Rattle.std.proofs.Common.{◌≡◌, ℕ, suc, ◌≤◌, Bool, true, false, ◌&&◌, List, [], ◌∷◌, ◌++◌, None, refl, sym, ap, subst, arith, ◌⊎◌, inl, inr}
use Rattle.rx_tree.specs.declared.tree.BinaryOp.{BinaryOp}
use Rattle.rx_tree.specs.Plain as plain
use Rattle.rx_resolve_names.specs.Meant.{Around}
use Rattle.rx_resolve_names.specs.Steps.{Inside}
use Rattle.rx_typed.specs.declared.nodes.Node.{Node}
use Rattle.rx_typed.specs.Named as named
use Rattle.rx_typed.specs.Named.{Exp, is_place, node_of}
use Rattle.rx_typed.specs.Elaborated as elaborated
use Rattle.rx_typed.specs.Elaborated.{Assigned, Coercion, variables}
use Rattle.rx_typed.specs.Tree as tree
use Rattle.rx_lower_walks.specs.Walks.{Among, here, there}
use Rattle.rx_exits_plan.specs.Blocks.{bound}
use Rattle.rx_exits_plan.specs.Spots as spots
use Rattle.rx_exits_plan.specs.Spots.{Spot, with_loop, with_variables, spots_in, spots_matched, spots_armed, spots_of}
use Rattle.rx_hoist_meant.specs.Stands as stands
use Rattle.rx_hoist_meant.specs.Stands.{StandsPattern, StandsExp, StandsExps, StandsElse, StandsArguments, StandsFields, StandsArms, StandsBody, StandsStatement, StandsRow}
use Rattle.rx_hoist_meant.specs.Placed.{Placed, PlacedAll, PlacedElse, PlacedFields, PlacedArms, PlacedBody, PlacedStatement, PlacedRow}
use Rattle.rx_hoist_meant.proofs.Patterns.{none_among}
use Rattle.rx_hoist_meant.proofs.Blocks.{place_walked}

abbrev pub Rising : ℕ → ℕ → List Spot → Type 0
Rising i j [] = i ≤ j
Rising i j (spots.a_block a n b ∷ l) = (i ≤ n) × Rising (suc n) j l
Rising i j (spots.a_jump a n k g ∷ l) = Rising i j l
Rising i j (spots.a_return a n ∷ l) = Rising i j l

rising_from : (i k j : ℕ) (l : List Spot) → i ≤ k → Rising k j l → Rising i j l
rising_from i k j [] h r = omega (arith, h, r)
rising_from i k j (spots.a_block a n b ∷ l) h r = (let q = r.0 in omega (arith, h, q), r.1)
rising_from i k j (spots.a_jump a n m g ∷ l) h r = rising_from i k j l h r
rising_from i k j (spots.a_return a n ∷ l) h r = rising_from i k j l h r

rising_both : (i k j : ℕ) (l r : List Spot) → Rising i k l → Rising k j r → Rising i j (l ++ r)
rising_both i k j [] r g h = rising_from i k j r g h
rising_both i k j (spots.a_block a n b ∷ l) r g h = (g.0, rising_both (suc n) k j l r g.1 h)
rising_both i k j (spots.a_jump a n m w ∷ l) r g h = rising_both i k j l r g h
rising_both i k j (spots.a_return a n ∷ l) r g h = rising_both i k j l r g h

rising_end : (i j : ℕ) (l : List Spot) → Rising i j l → Rising i j (l ++ [])
rising_end i j l h = rising_both i j j l [] h (omega arith)

risen : (i j : ℕ) (l : List Spot) → Rising i j l → i ≤ j
risen i j [] h = h
risen i j (spots.a_block a n b ∷ l) h = let q = h.0 in let r = risen (suc n) j l h.1 in omega (arith, q, r)
risen i j (spots.a_jump a n m w ∷ l) h = risen i j l h
risen i j (spots.a_return a n ∷ l) h = risen i j l h

-- ---- so a number tells its block

front_or : {s x : Spot} {l : List Spot} → Among s (x ∷ l) → (s ≡ x) ⊎ Among s l
front_or here = inl refl
front_or (there k) = inr k

least : (i j : ℕ) (l : List Spot) (a : spots.Around) (n : ℕ) (b : tree.Body) → Rising i j l → Among (spots.a_block a n b) l → i ≤ n
least i j [] a n b h m = absurd (none_among m)
least i j (spots.a_block a' n' b' ∷ l) a n b h m = by (front_or m) (λ k. least (suc n') j l a n b h.1 k)
  where
    by : (spots.a_block a n b ≡ spots.a_block a' n' b') ⊎ Among (spots.a_block a n b) l → (Among (spots.a_block a n b) l → suc n' ≤ n) → i ≤ n
    by (inl e) rest = let q = h.0 in let s : n ≡ n' = cc in omega (arith, q, s)
    by (inr k) rest = let q = h.0 in let r = rest k in omega (arith, r, q)
least i j (spots.a_jump a' n' k' g' ∷ l) a n b h m = by (front_or m) (λ k. least i j l a n b h k)
  where
    by : (spots.a_block a n b ≡ spots.a_jump a' n' k' g') ⊎ Among (spots.a_block a n b) l → (Among (spots.a_block a n b) l → i ≤ n) → i ≤ n
    by (inl e) rest = absurd (cc)
    by (inr k) rest = rest k
least i j (spots.a_return a' n' ∷ l) a n b h m = by (front_or m) (λ k. least i j l a n b h k)
  where
    by : (spots.a_block a n b ≡ spots.a_return a' n') ⊎ Among (spots.a_block a n b) l → (Among (spots.a_block a n b) l → i ≤ n) → i ≤ n
    by (inl e) rest = absurd (cc)
    by (inr k) rest = rest k

pub one_block : (i j : ℕ) (l : List Spot) (a c : spots.Around) (n : ℕ) (b d : tree.Body) → Rising i j l → Among (spots.a_block a n b) l → Among (spots.a_block c n d) l → (a ≡ c) × (b ≡ d)
one_block i j [] a c n b d h m o = absurd (none_among m)
one_block i j (spots.a_block a' n' b' ∷ l) a c n b d h m o = by (front_or m) (front_or o) (λ p q. one_block (suc n') j l a c n b d h.1 p q)
  where
    late : (x : spots.Around) (y : tree.Body) → n ≡ n' → Among (spots.a_block x n y) l → ⊥
    late x y e k = let r = least (suc n') j l x n y h.1 k in omega (arith, r, e)

    by : (spots.a_block a n b ≡ spots.a_block a' n' b') ⊎ Among (spots.a_block a n b) l → (spots.a_block c n d ≡ spots.a_block a' n' b') ⊎ Among (spots.a_block c n d) l
        → (Among (spots.a_block a n b) l → Among (spots.a_block c n d) l → (a ≡ c) × (b ≡ d)) → (a ≡ c) × (b ≡ d)
    by (inl e) (inl f) rest = let p : a ≡ c = cc in let q : b ≡ d = cc in (p, q)
    by (inl e) (inr q) rest = let s : n ≡ n' = cc in absurd (late c d s q)
    by (inr p) (inl f) rest = let s : n ≡ n' = cc in absurd (late a b s p)
    by (inr p) (inr q) rest = rest p q
one_block i j (spots.a_jump a' n' k' g' ∷ l) a c n b d h m o = by (front_or m) (front_or o) (λ p q. one_block i j l a c n b d h p q)
  where
    by : (spots.a_block a n b ≡ spots.a_jump a' n' k' g') ⊎ Among (spots.a_block a n b) l → (spots.a_block c n d ≡ spots.a_jump a' n' k' g') ⊎ Among (spots.a_block c n d) l
        → (Among (spots.a_block a n b) l → Among (spots.a_block c n d) l → (a ≡ c) × (b ≡ d)) → (a ≡ c) × (b ≡ d)
    by (inl e) f rest = absurd (cc)
    by (inr p) (inl f) rest = absurd (cc)
    by (inr p) (inr q) rest = rest p q
one_block i j (spots.a_return a' n' ∷ l) a c n b d h m o = by (front_or m) (front_or o) (λ p q. one_block i j l a c n b d h p q)
  where
    by : (spots.a_block a n b ≡ spots.a_return a' n') ⊎ Among (spots.a_block a n b) l → (spots.a_block c n d ≡ spots.a_return a' n') ⊎ Among (spots.a_block c n d) l
        → (Among (spots.a_block a n b) l → Among (spots.a_block c n d) l → (a ≡ c) × (b ≡ d)) → (a ≡ c) × (b ≡ d)
    by (inl e) f rest = absurd (cc)
    by (inr p) (inl f) rest = absurd (cc)
    by (inr p) (inr q) rest = rest p q

module _ (I : Inside) (names : List (List ℕ)) (T : Assigned) where
  abbrev V : Exp → tree.Exp
  V a = elaborated.value T a

  abbrev Rises : ℕ → ℕ → tree.Exp → Type 0
  Rises i j e = (ar : spots.Around) → Rising i j (spots.spots ar e)

  read_rises : (n : Node) (c : Coercion) (p : tree.Place) (i j : ℕ) → i ≤ j → Rises i j (elaborated.read_as T n c p)
  read_rises n elaborated.plain p i j h ar = h
  read_rises n elaborated.reborrow p i j h ar = h
  read_rises n elaborated.share p i j h ar = h

  passed_rises : (n : Node) (c : Coercion) (e : tree.Exp) (i j : ℕ) → Rises i j e → Rises i j (elaborated.passed_as T n c e)
  passed_rises n elaborated.plain e i j h ar = h ar
  passed_rises n elaborated.reborrow e i j h ar = h ar
  passed_rises n elaborated.share e i j h ar = h ar

  tuple_rises : (n : Node) (es : tree.Operands) (i j : ℕ) → ((ar : spots.Around) → Rising i j (spots_in ar es)) → Rises i j (elaborated.tuple_of T n es)
  tuple_rises n tree.no_operand i j h ar = h ar
  tuple_rises n (tree.operand_and k e es) i j h ar = h ar

  operated_rises : (n : Node) (o : BinaryOp) (x y : tree.Exp) (i k j : ℕ) → Rises i k x → Rises k j y → Rises i j (elaborated.operated T n o x y)
  operated_rises n BinaryOp.And x y i k j g h ar = rising_both i k j (spots.spots ar x) (spots.spots ar y) (g ar) (h ar)
  operated_rises n BinaryOp.Or x y i k j g h ar = rising_both i k j (spots.spots ar x) (spots.spots ar y) (g ar) (h ar)
  operated_rises n _ x y i k j g h ar = rising_both i k j (spots.spots ar x) (spots.spots ar y ++ []) (g ar) (rising_end k j (spots.spots ar y) (h ar))

  matched_rises : (a : Exp) (b : Bool) (c : Coercion) (i j : ℕ) → i ≤ j → Rises i j (V a) → (ar : spots.Around) → Rising i j (spots_matched ar (elaborated.matched_as T b c a (V a)))
  matched_rises a true elaborated.plain i j l h ar = l
  matched_rises a true elaborated.reborrow i j l h ar = h ar
  matched_rises a true elaborated.share i j l h ar = h ar
  matched_rises a false elaborated.plain i j l h ar = h ar
  matched_rises a false elaborated.reborrow i j l h ar = h ar
  matched_rises a false elaborated.share i j l h ar = h ar

  looks_rise : (m : tree.Mark) (s : tree.Scrutinee) (p : tree.Pattern) (x y : tree.Exp) (i k l j : ℕ) → ((ar : spots.Around) → Rising i k (spots_matched ar s)) → Rises k l x → Rises l j y
      → Rises i j (tree.choose m s (tree.arm_and p x (tree.arm_and tree.any y tree.no_arm)))
  looks_rise m s p x y i k l j f g h ar =
      let X = spots.spots (with_variables (bound p) ar) x in
      let Y = spots.spots (with_variables [] ar) y in
      rising_both i k j (spots_matched ar s) (X ++ (Y ++ [])) (f ar) (rising_both k l j X (Y ++ []) (g (with_variables (bound p) ar)) (rising_end l j Y (h (with_variables [] ar))))

  -- a place, which has none
  place_most : {vs : List ℕ} {ls : List Around} {i j : ℕ} {e : plain.Expression} {a : Exp} → StandsExp I names vs ls i j e a → Placed a → is_place a ≡ true → i ≤ j
  place_most h p t = let s = (place_walked I names T {L = []} h p t []).size in omega (arith, s)

  pattern_most : {vs : List ℕ} {i j : ℕ} {p : plain.PatternTree} {c : named.Pattern} → StandsPattern names vs i j p c → i ≤ j
  pattern_most h = let s = h.size in omega (arith, s)

  mutual
    pub exp_rises : {vs : List ℕ} {ls : List Around} {i j : ℕ} {e : plain.Expression} {a : Exp} → StandsExp I names vs ls i j e a → Placed a → Rises i j (V a)
    exp_rises (stands.s_int q) p ar = omega arith
    exp_rises (stands.s_bool q) p ar = omega arith
    exp_rises (stands.s_tuple {i = i} {j = j} {n = n} {xs = xs} q h) p ar = tuple_rises n (elaborated.operands T 0 xs) i j (λ ar. rising_from i (suc i) j (spots_in ar (elaborated.operands T 0 xs)) (omega arith) (exps_rise 0 h p ar)) ar
    exp_rises (stands.s_var {i = i} {n = n} {u = u} q w h) p ar = read_rises n (elaborated.coercion_at T n) (elaborated.place T (named.var n u)) i (suc i) (omega arith) ar
    exp_rises (stands.s_field {i = i} {j = j} {n = n} {a = a} {x = x} q h) p ar =
        read_rises n (elaborated.coercion_at T n) (elaborated.place T (named.field n a x.name)) i j (let m = place_most h p.0 p.1 in omega (arith, m)) ar
    exp_rises (stands.s_part {i = i} {j = j} {n = n} {a = a} {k = k} q h) p ar = read_rises n (elaborated.coercion_at T n) (elaborated.place T (named.part n a k)) i j (let m = place_most h p.0 p.1 in omega (arith, m)) ar
    exp_rises (stands.s_deref {i = i} {j = j} {n = n} {a = a} q h) p ar = read_rises n (elaborated.coercion_at T n) (elaborated.place T (named.deref n a)) i j (let m = place_most h p.0 p.1 in omega (arith, m)) ar
    exp_rises (stands.s_negate {i = i} {j = j} {a = a} q h) p ar = rising_end i j (spots.spots ar (V a)) (rising_from i (suc i) j (spots.spots ar (V a)) (omega arith) (exp_rises h p ar))
    exp_rises (stands.s_invert {i = i} {j = j} {a = a} q h) p ar = rising_end i j (spots.spots ar (V a)) (rising_from i (suc i) j (spots.spots ar (V a)) (omega arith) (exp_rises h p ar))
    exp_rises (stands.s_borrow {i = i} {j = j} {n = n} {m = m} {a = a} q h) p ar =
        passed_rises n (elaborated.coercion_at T n) (tree.borrow (elaborated.mark T n) m (elaborated.place T a)) i j (λ ar. let s = place_most h p.0 p.1 in omega (arith, s)) ar
    exp_rises (stands.s_binary {i = i} {k = k} {j = j} {n = n} {o = o} {a = a} {b = b} q g h) p ar =
        operated_rises n o (V a) (V b) i k j (λ ar. rising_from i (suc i) k (spots.spots ar (V a)) (omega arith) (exp_rises g p.0 ar)) (exp_rises h p.1) ar
    exp_rises (stands.s_assign {i = i} {k = k} {j = j} {b = b} q g h) p ar = rising_from i k j (spots.spots ar (V b)) (let m = place_most g p.0.0 p.0.1 in omega (arith, m)) (exp_rises h p.1 ar)
    exp_rises (stands.s_gives {i = i} {j = j} {b = b} q w m h) p ar = rising_from i (suc (suc i)) j (spots.spots ar (V b)) (omega arith) (exp_rises h p ar)
    exp_rises (stands.s_update {i = i} {k = k} {j = j} {b = b} q g h) p ar = rising_from i k j (spots.spots ar (V b)) (let m = place_most g p.0.0 p.0.1 in omega (arith, m)) (exp_rises h p.1 ar)
    exp_rises (stands.s_call {i = i} {j = j} {n = n} {k = f} {xs = xs} q d h) p ar =
        passed_rises n (elaborated.coercion_at T n) (tree.call (elaborated.mark T n) f (elaborated.operands T 0 xs)) i j (λ ar. rising_from i (suc i) j (spots_in ar (elaborated.operands T 0 xs)) (omega arith) (exps_rise 0 h p ar)) ar
    exp_rises (stands.s_hidden q h) p ar = absurd p
    exp_rises (stands.s_input q) p ar = omega arith
    exp_rises (stands.s_variant {i = i} {j = j} {xs = xs} q h) p ar = rising_from i (suc i) j (spots_in ar (elaborated.operands T 0 xs)) (omega arith) (arguments_rise h p ar)
    exp_rises (stands.s_make {i = i} {j = j} {k = k} {xs = xs} q h) p ar = rising_from i (suc i) j (spots_in ar (elaborated.fields T k xs)) (omega arith) (fields_rise k h p ar)
    exp_rises (stands.s_print {i = i} {j = j} {a = a} q h) p ar = rising_from i (suc i) j (spots.spots ar (V a)) (omega arith) (exp_rises h p ar)
    exp_rises (stands.s_block {i = i} {j = j} {B = B} q h) p ar = rising_from i (suc i) j (spots.spots ar (elaborated.body T B)) (omega arith) (body_rises h p ar)
    exp_rises (stands.s_if {i = i} {k = k} {l = l} {j = j} {n = n} {C = C} {B = B} {O = O} q f g h) p ar =
        looks_rise (elaborated.mark_if T n (named.body_never B && named.else_never O)) (tree.of_value (V C)) (tree.exactly n.number (tree.truth true)) (elaborated.body T B) (elaborated.otherwise T n O) i k l j
        (λ ar. rising_from i (suc i) k (spots.spots ar (V C)) (omega arith) (exp_rises f p.0 ar)) (body_rises g p.1) (otherwise_rises n h p.2) ar
    exp_rises (stands.s_if_let {i = i} {h = z} {k = k} {l = l} {j = j} {n = n} {P = P} {a = a} {B = B} {O = O} q d f g h) p ar =
        let le : suc i ≤ z = pattern_most d in
        looks_rise (elaborated.mark_if T n (named.body_never B && named.else_never O)) (elaborated.matched T a (V a)) (elaborated.pattern T None P) (elaborated.body T B) (elaborated.otherwise T n O) i k l j
        (λ ar. rising_from i z k (spots_matched ar (elaborated.matched T a (V a))) (omega (arith, le)) (matched_rises a (is_place a) (elaborated.coercion_at T (node_of a)) z k (risen z k (spots.spots ar (V a)) (exp_rises f p.0 ar)) (exp_rises f p.0) ar))
        (body_rises g p.1) (otherwise_rises n h p.2) ar
    exp_rises (stands.s_match {i = i} {k = k} {j = j} {a = a} {L = L} q g h) p ar =
        rising_both i k j (spots_matched ar (elaborated.matched T a (V a))) (spots_armed ar (elaborated.arms T L))
        (rising_from i (suc i) k (spots_matched ar (elaborated.matched T a (V a))) (omega arith) (matched_rises a (is_place a) (elaborated.coercion_at T (node_of a)) (suc i) k (risen (suc i) k (spots.spots ar (V a)) (exp_rises g p.0 ar)) (exp_rises g p.0) ar))
        (arms_rise h p.1 ar)
    exp_rises (stands.s_loop {i = i} {j = j} {k = r} {B = B} q n h) p ar = rising_from i (suc i) j (spots.spots (with_loop r ar) (elaborated.body T B)) (omega arith) (body_rises h p (with_loop r ar))
    exp_rises (stands.s_while {i = i} {h = z} {j = j} {n = n} {k = r} {C = C} {B = B} q new g h) p ar =
        looks_rise (elaborated.mark_if T (named.body_node B) (named.body_never B)) (tree.of_value (V C)) (tree.exactly n.number (tree.truth true)) (elaborated.body T B) (elaborated.leaves n r) i z j j
        (λ ar. rising_from i (suc i) z (spots.spots ar (V C)) (omega arith) (exp_rises g p.0 ar)) (body_rises h p.1) (λ ar. omega arith) (with_loop r ar)
    exp_rises (stands.s_while_let {i = i} {h = z} {m = m} {j = j} {n = n} {k = r} {P = P} {a = a} {B = B} q new d g h) p ar =
        let le : suc i ≤ z = pattern_most d in
        looks_rise (elaborated.mark_if T (named.body_node B) (named.body_never B)) (elaborated.matched T a (V a)) (elaborated.pattern T None P) (elaborated.body T B) (elaborated.leaves n r) i m j j
        (λ ar. rising_from i z m (spots_matched ar (elaborated.matched T a (V a))) (omega (arith, le)) (matched_rises a (is_place a) (elaborated.coercion_at T (node_of a)) z m (risen z m (spots.spots ar (V a)) (exp_rises g p.0 ar)) (exp_rises g p.0) ar))
        (body_rises h p.1) (λ ar. omega arith) (with_loop r ar)
    exp_rises (stands.s_break q h) p ar = omega arith
    exp_rises (stands.s_continue q h) p ar = omega arith
    exp_rises (stands.s_return {i = i} {j = j} {n = n} {O = O} q h) p ar =
        rising_both i j j (spots.spots ar (elaborated.returned T n O)) (spots.a_return ar n.number ∷ []) (rising_from i (suc i) j (spots.spots ar (elaborated.returned T n O)) (omega arith) (returned_rises n h p ar)) (omega arith)

    exps_rise : {vs : List ℕ} {ls : List Around} {i j : ℕ} {es : plain.Expressions} {xs : named.Exps} (n : ℕ) → StandsExps I names vs ls i j es xs → PlacedAll xs → (ar : spots.Around) → Rising i j (spots_in ar (elaborated.operands T n xs))
    exps_rise n stands.s_no_exp p ar = omega arith
    exps_rise n (stands.s_exp_and {i = i} {k = k} {j = j} {a = a} {xs = xs} g h) p ar = rising_both i k j (spots.spots ar (V a)) (spots_in ar (elaborated.operands T (suc n) xs)) (exp_rises g p.0 ar) (exps_rise (suc n) h p.1 ar)

    otherwise_rises : {vs : List ℕ} {ls : List Around} {i j : ℕ} {o : plain.OptionalExpression} {O : named.Else} (n : Node) → StandsElse I names vs ls i j o O → PlacedElse O → Rises i j (elaborated.otherwise T n O)
    otherwise_rises n stands.s_absent p ar = omega arith
    otherwise_rises n (stands.s_present h) p ar = exp_rises h p ar

    returned_rises : {vs : List ℕ} {ls : List Around} {i j : ℕ} {o : plain.OptionalExpression} {O : named.Else} (n : Node) → StandsElse I names vs ls i j o O → PlacedElse O → Rises i j (elaborated.returned T n O)
    returned_rises n stands.s_absent p ar = omega arith
    returned_rises n (stands.s_present h) p ar = exp_rises h p ar

    pub tail_rises : {vs : List ℕ} {ls : List Around} {i j : ℕ} {o : plain.OptionalExpression} {O : named.Else} (n : Node) → StandsElse I names vs ls i j o O → PlacedElse O → Rises i j (elaborated.tail T n O)
    tail_rises n stands.s_absent p ar = omega arith
    tail_rises n (stands.s_present h) p ar = exp_rises h p ar

    arguments_rise : {vs : List ℕ} {ls : List Around} {i j : ℕ} {es : plain.OptionalExpressions} {xs : named.Exps} → StandsArguments I names vs ls i j es xs → PlacedAll xs → (ar : spots.Around) → Rising i j (spots_in ar (elaborated.operands T 0 xs))
    arguments_rise stands.s_no_list p ar = omega arith
    arguments_rise (stands.s_list h) p ar = exps_rise 0 h p ar

    fields_rise : {vs : List ℕ} {ls : List Around} {i j : ℕ} {fs : plain.FieldExpressions} {xs : named.Fields} (n : ℕ) → StandsFields I names vs ls i j fs xs → PlacedFields xs → (ar : spots.Around) → Rising i j (spots_in ar (elaborated.fields T n xs))
    fields_rise n stands.s_no_field p ar = omega arith
    fields_rise n (stands.s_field_and {i = i} {k = k} {j = j} {a = a} {xs = xs} g h) p ar = rising_both i k j (spots.spots ar (V a)) (spots_in ar (elaborated.fields T n xs)) (exp_rises g p.0 ar) (fields_rise n h p.1 ar)

    arms_rise : {vs : List ℕ} {ls : List Around} {i j : ℕ} {l : plain.Arms} {L : named.Arms} → StandsArms I names vs ls i j l L → PlacedArms L → (ar : spots.Around) → Rising i j (spots_armed ar (elaborated.arms T L))
    arms_rise stands.s_no_arm p ar = omega arith
    arms_rise (stands.s_arm_and {i = i} {h = z} {k = k} {j = j} {P = P} {a = a} {L = L} d g h) p ar =
        let b = with_variables (bound (elaborated.pattern T None P)) ar in
        let le : i ≤ z = pattern_most d in
        rising_both i k j (spots.spots b (V a)) (spots_armed ar (elaborated.arms T L)) (rising_from i z k (spots.spots b (V a)) le (exp_rises g p.0 b)) (arms_rise h p.1 ar)

    body_rises : {vs : List ℕ} {ls : List Around} {i j : ℕ} {b : plain.Body} {B : named.Body} → StandsBody I names vs ls i j b B → PlacedBody B → Rises i j (elaborated.body T B)
    body_rises (stands.s_body {i = i} {k = k} {j = j} {n = n} {xs = xs} {O = O} q c g h) p ar =
        (omega (arith, q), subst (λ (m : ℕ). Rising m j (spots_of ar (elaborated.nested T xs (elaborated.tail T n O)))) (ap suc (sym q)) (row_rises g p.0 (elaborated.tail T n O) j (λ ar. tail_rises n h p.1 ar) ar))

    -- what follows the statements stands behind them
    pub row_rises : {vs after : List ℕ} {ls : List Around} {i k : ℕ} {ss : plain.Statements} {xs : named.Statements} → StandsRow I names vs ls i k ss xs after → PlacedRow xs → (last : tree.Exp) (j : ℕ) → Rises k j last
        → (ar : spots.Around) → Rising i j (spots_of ar (elaborated.nested T xs last))
    row_rises stands.s_no_statement p last j f ar = f ar
    row_rises (stands.s_statement_and {x = x} {xs = xs} g h) p last j f ar = statement_rises g p.0 (elaborated.nested T xs last) j (λ ar. row_rises h p.1 last j f ar) ar

    statement_rises : {vs : List ℕ} {ls : List Around} {i k : ℕ} {a : plain.Statement} {x : named.Statement} → StandsStatement I names vs ls i k a x → PlacedStatement x → (rest : tree.Body) (j : ℕ)
        → ((ar : spots.Around) → Rising k j (spots_of ar rest)) → (ar : spots.Around) → Rising i j (spots_of ar (elaborated.statement T x rest))
    statement_rises (stands.s_declares {i = i} {k = k} {j = l} {P = P} q d e) p rest j f ar =
        let le : suc i ≤ k = pattern_most d in
        rising_from i l j (spots_of (with_variables (variables P) ar) rest) (omega (arith, le, e)) (f (with_variables (variables P) ar))
    statement_rises (stands.s_lets {i = i} {k = k} {l = l} {j = m} {P = P} {a = a} q d e h) p rest j f ar =
        let le : suc i ≤ k = pattern_most d in
        let b = with_variables (bound (elaborated.pattern T None P)) ar in
        rising_both i m j (spots_matched ar (elaborated.matched T a (V a))) (spots_of b rest)
        (rising_from i l m (spots_matched ar (elaborated.matched T a (V a))) (omega (arith, le, e)) (matched_rises a (is_place a) (elaborated.coercion_at T (node_of a)) l m (risen l m (spots.spots ar (V a)) (exp_rises h p ar)) (exp_rises h p) ar)) (f b)
    statement_rises (stands.s_evaluates {i = i} {j = k} {a = a} q h) p rest j f ar =
        rising_both i k j (spots.spots ar (V a)) (spots_of ar rest) (rising_from i (suc i) k (spots.spots ar (V a)) (omega arith) (exp_rises h p ar)) (f ar)

  -- the body of a function, whose tail is handed to the caller
  pub function_rises : {vs : List ℕ} {ls : List Around} {i j : ℕ} {b : plain.Body} {B : named.Body} → StandsBody I names vs ls i j b B → PlacedBody B → Rises i j (elaborated.function_body T B)
  function_rises (stands.s_body {i = i} {k = k} {j = j} {n = n} {xs = xs} {O = O} q c g h) p ar =
      let last = tree.give (elaborated.no_mark n) (elaborated.tail T n O) in
      let given : Rises k j last = λ ar. rising_both k j j (spots.spots ar (elaborated.tail T n O)) (spots.a_return ar n.number ∷ []) (tail_rises n h p.1 ar) (omega arith) in
      (omega (arith, q), subst (λ (m : ℕ). Rising m j (spots_of ar (elaborated.nested T xs last))) (ap suc (sym q)) (row_rises g p.0 last j given ar))
