-- Nodes that are put into an order: each behind all that it leads to, and some more in each pass where none comes
-- back to itself.
use Rattle.std.proofs.Common.{◌≡◌, ℕ, zero, suc, ◌+◌, ◌<◌, ◌≤◌, ◌⊎◌, inl, inr, Bool, true, false, cond, List, [], ◌∷◌}
use Rattle.std.proofs.Common.{◌++◌, length, replicate, refl, sym, ap, ◌∙◌, subst, arith, true≢false}
use Rattle.std.proofs.lemmas.List.{length-replicate}
use Rattle.std.proofs.lemmas.Bool.{cases_lt}
use Rattle.rx_graph_cycles.specs.Reaches.{targets, IsIn, Reaches, edge, NoCycle}
use Rattle.rx_graph_cycles.specs.Orders.{Behind, InOrder}
use Rattle.rx_graph_cycles.specs.Marks.{marked, mark, all_marked, full, unmarked, with_one, settle, settle_all, with_settled}
use Rattle.rx_graph_cycles.specs.Marks.{with_all_settled, Placed}
use Rattle.rx_graph_cycles.proofs.Ways.{is_in_front, is_in_behind, is_in_either, reaches_on}
use Rattle.rx_graph_cycles.proofs.Marking.{mark_keeps, mark_marks, from_mark, mark_again, one_less, each_marked, full_marks}
use Rattle.rx_graph_cycles.proofs.Marking.{past_from_marked}

-- ---- tables

pub numbers_more : (ns : List ℕ) (i : ℕ) → ((j : ℕ) → j < i → IsIn ns j) → (j : ℕ) → j < i + 1 → IsIn (ns ++ i ∷ []) j
numbers_more ns i h j below = by (cases_lt j i)
  where
    by : (j < i) ⊎ (i ≤ j) → IsIn (ns ++ i ∷ []) j
    by (inl less) = is_in_front ns (i ∷ []) j (h j less)
    by (inr more) = is_in_behind ns (i ∷ []) j (inl (omega arith))

length_mark : (ms : List Bool) (n : ℕ) → length (mark ms n) ≡ length ms
length_mark [] n = refl
length_mark (m ∷ ms) zero = refl
length_mark (m ∷ ms) (suc n) = ap suc (length_mark ms n)

within : (ms : List Bool) (n : ℕ) → marked ms n ≡ false → n < length ms
within [] n h = absurd (true≢false h)
within (m ∷ ms) zero h = omega arith
within (m ∷ ms) (suc n) h = let less = within ms n h in omega arith

-- ---- one more node at an order's end

module _ (edges : List (List ℕ)) where
  pub behind_more : (before order : List ℕ) (n : ℕ) → Behind edges before order
      → ((j : ℕ) → j < length edges → IsIn (targets edges n) j → IsIn before j ⊎ IsIn order j)
      → Behind edges before (order ++ n ∷ [])
  behind_more before [] n b h = (λ j less t. elim (h j less t) [ inl s ↦ s | inr s ↦ absurd s ], tt)
  behind_more before (m ∷ ms) n b h = (b.0, behind_more (m ∷ before) ms n b.1 (λ j less t. move j (h j less t)))
    where
      move : (j : ℕ) → IsIn before j ⊎ IsIn (m ∷ ms) j → IsIn (m ∷ before) j ⊎ IsIn ms j
      move j (inl s) = inl (inr s)
      move j (inr (inl same)) = inl (inl same)
      move j (inr (inr s)) = inr s

  none_placed : Placed edges (replicate (length edges) false) []
  none_placed = record {
    whole = length-replicate (length edges) false;
    stands = λ n less h. let past = past_from_marked (length edges) n h in absurd (omega arith);
    settled = λ n h. absurd h;
    behind = tt;
  }

  module _ (done : List Bool) (order : List ℕ) (p : Placed edges done order) (n : ℕ)
      (all : all_marked done (targets edges n) ≡ true) where
    leads : (j : ℕ) → j < length edges → IsIn (targets edges n) j → IsIn [] j ⊎ IsIn order j
    leads j less t = inr (p.stands j less (each_marked done (targets edges n) j all t))

    one_more : Placed edges (mark done n) (order ++ n ∷ [])
    one_more = record {
      whole = length_mark done n ∙ p.whole;
      stands = λ j less h. elim (from_mark done n j h) [
        | inl same ↦ is_in_behind order (n ∷ []) j (inl same)
        | inr old ↦ is_in_front order (n ∷ []) j (p.stands j less old)
      ];
      settled = λ j h. mine j (is_in_either order (n ∷ []) j h);
      behind = behind_more [] order n p.behind leads;
    }
      where
        mine : (j : ℕ) → IsIn order j ⊎ IsIn (n ∷ []) j → marked (mark done n) j ≡ true
        mine j (inl h) = mark_keeps done n j (p.settled j h)
        mine j (inr (inl same)) = ap (marked (mark done n)) (sym same) ∙ mark_marks done n
        mine j (inr (inr h)) = absurd h

    as_before : marked done n ≡ true → Placed edges (mark done n) order
    as_before is = let At : List Bool → Type 0 = λ ms. Placed edges ms order in subst At (sym (mark_again done n is)) p

    placed_node : Placed edges (mark done n) (with_one done order n)
    placed_node = by (marked done n) refl
      where
        by : (b : Bool) → marked done n ≡ b → Placed edges (mark done n) (cond b order (order ++ n ∷ []))
        by true is = as_before is
        by false is = one_more

  placed_one : (done : List Bool) (order : List ℕ) (n : ℕ) → Placed edges done order
      → Placed edges (settle edges done n) (with_settled edges done order n)
  placed_one done order n p = by (all_marked done (targets edges n)) refl
    where
      by : (b : Bool) → all_marked done (targets edges n) ≡ b
          → Placed edges (cond b (mark done n) done) (cond b (with_one done order n) order)
      by true is = placed_node done order p n is
      by false is = p

  pub placed_all : (done : List Bool) (order ns : List ℕ) → Placed edges done order
      → Placed edges (settle_all edges done ns) (with_all_settled edges done order ns)
  placed_all done order [] p = p
  placed_all done order (n ∷ ns) p =
      placed_all (settle edges done n) (with_settled edges done order n) ns (placed_one done order n p)

  -- where all are settled the order has all
  pub placed_in_order : (done : List Bool) (order : List ℕ) → Placed edges done order → full done ≡ true
      → InOrder edges order
  placed_in_order done order p is = record { all = λ n less. p.stands n less (full_marks done n is); behind = p.behind }

  -- ---- a pass settles one more

  -- a node that can be settled
  record Ready (done : List Bool) : Type 0 where
    node : ℕ
    new : marked done node ≡ false
    all : all_marked done (targets edges node) ≡ true

  record Left (done : List Bool) (ns : List ℕ) : Type 0 where
    node : ℕ
    is_in : IsIn ns node
    new : marked done node ≡ false

  one_left : (done : List Bool) (ns : List ℕ) → all_marked done ns ≡ false → Left done ns
  one_left done [] h = absurd (true≢false h)
  one_left done (n ∷ ns) h = by (marked done n) refl h (one_left done ns)
    where
      by : (b : Bool) → marked done n ≡ b → cond b (all_marked done ns) false ≡ false
          → (all_marked done ns ≡ false → Left done ns) → Left done (n ∷ ns)
      by true is h rest = let l = rest h in record { node = l.node; is_in = inr l.is_in; new = l.new }
      by false is h rest = record { node = n; is_in = inl refl; new = is }

  -- those that were passed lead to this one
  abbrev Leading : List Bool → ℕ → Type 0
  Leading seen v = (j : ℕ) → j < length edges → marked seen j ≡ true → Reaches edges j v

  module _ (done : List Bool) (whole : length done ≡ length edges) (apart : NoCycle edges) where
    -- one edge more on a way of nodes that are not settled
    on : (seen : List Bool) (v w : ℕ) → Leading seen v → IsIn (targets edges v) w → Leading (mark seen v) w
    on seen v w leading t j less h = by (from_mark seen v j h)
      where
        by : (v ≡ j) ⊎ (marked seen j ≡ true) → Reaches edges j w
        by (inl same) = let From : ℕ → Type 0 = λ i. Reaches edges i w in subst From same (edge t)
        by (inr old) = reaches_on edges j v w (leading j less old) t

    -- and no node comes twice on it
    other : (seen : List Bool) (v w : ℕ) → Leading (mark seen v) w → w < length edges → marked (mark seen v) w ≡ false
    other seen v w leading less = by (marked (mark seen v) w) refl
      where
        by : (b : Bool) → marked (mark seen v) w ≡ b → marked (mark seen v) w ≡ false
        by true is = absurd (apart w (leading w less is))
        by false is = is

    -- so it ends, at a node that can be settled
    goes : (left : ℕ) (seen : List Bool) (v : ℕ) → unmarked seen ≡ left → Leading seen v → marked seen v ≡ false
        → marked done v ≡ false → Ready done
    goes zero seen v count leading new is = let less = one_less seen v new in absurd (omega arith)
    goes (suc left) seen v count leading new is = by (all_marked done (targets edges v)) refl (goes left (mark seen v))
      where
        Further : Type 0
        Further = (w : ℕ) → unmarked (mark seen v) ≡ left → Leading (mark seen v) w → marked (mark seen v) w ≡ false
            → marked done w ≡ false → Ready done

        next : Left done (targets edges v) → Further → Ready done
        next l further =
            let less : l.node < length edges = let here = within done l.node l.new in omega arith in
            let leading' = on seen v l.node leading l.is_in in
            let fewer = one_less seen v new in
            further l.node (omega arith) leading' (other seen v l.node leading' less) l.new

        by : (b : Bool) → all_marked done (targets edges v) ≡ b → Further → Ready done
        by true all further = record { node = v; new = is; all = all }
        by false some further = next (one_left done (targets edges v) some) further

    abbrev none : List Bool
    none = replicate (length edges) false

    begins : (v : ℕ) → Leading none v
    begins v j less h = let past = past_from_marked (length edges) j h in absurd (omega arith)

    unmarked_in : (len v : ℕ) → v < len → marked (replicate len false) v ≡ false
    unmarked_in zero v h = absurd (omega arith)
    unmarked_in (suc len) zero h = refl
    unmarked_in (suc len) (suc v) h = unmarked_in len v (omega arith)

    one_unmarked : (ms : List Bool) → full ms ≡ false → (v : ℕ) × (marked ms v ≡ false)
    one_unmarked [] h = absurd (true≢false h)
    one_unmarked (true ∷ ms) h = let r = one_unmarked ms h in (suc r.0, r.1)
    one_unmarked (false ∷ ms) h = (zero, refl)

    ready : full done ≡ false → Ready done
    ready h =
        let v = one_unmarked done h in
        let less : v.0 < length edges = let here = within done v.0 v.1 in omega arith in
        goes (unmarked none) none v.0 refl (begins v.0) (unmarked_in (length edges) v.0 less) v.1

  settle_keeps : (done : List Bool) (n j : ℕ) → marked done j ≡ true → marked (settle edges done n) j ≡ true
  settle_keeps done n j h = by (all_marked done (targets edges n))
    where
      by : (b : Bool) → marked (cond b (mark done n) done) j ≡ true
      by true = mark_keeps done n j h
      by false = h

  length_settle : (done : List Bool) (n : ℕ) → length (settle edges done n) ≡ length done
  length_settle done n = by (all_marked done (targets edges n))
    where
      by : (b : Bool) → length (cond b (mark done n) done) ≡ length done
      by true = length_mark done n
      by false = refl

  keeps : (done : List Bool) (ns : List ℕ) (j : ℕ) → marked done j ≡ true → marked (settle_all edges done ns) j ≡ true
  keeps done [] j h = h
  keeps done (n ∷ ns) j h = keeps (settle edges done n) ns j (settle_keeps done n j h)

  length_settle_all : (done : List Bool) (ns : List ℕ) → length (settle_all edges done ns) ≡ length done
  length_settle_all done [] = refl
  length_settle_all done (n ∷ ns) = length_settle_all (settle edges done n) ns ∙ length_settle done n

  still_all : (done : List Bool) (n : ℕ) (ts : List ℕ) → all_marked done ts ≡ true
      → all_marked (settle edges done n) ts ≡ true
  still_all done n [] h = refl
  still_all done n (t ∷ ts) h = by (marked done t) refl h (still_all done n ts)
    where
      by : (b : Bool) → marked done t ≡ b → cond b (all_marked done ts) false ≡ true
          → (all_marked done ts ≡ true → all_marked (settle edges done n) ts ≡ true)
          → all_marked (settle edges done n) (t ∷ ts) ≡ true
      by true is h rest = rw (settle_keeps done n t is) (rest h)
      by false is h rest = absurd (true≢false (sym h))

  settles : (done : List Bool) (ns : List ℕ) (n : ℕ) → IsIn ns n → all_marked done (targets edges n) ≡ true
      → marked (settle_all edges done ns) n ≡ true
  settles done [] n h all = absurd h
  settles done (m ∷ ms) n (inl same) all =
      keeps (settle edges done m) ms n (here (ap (λ i. all_marked done (targets edges i)) same ∙ all))
    where
      here : all_marked done (targets edges m) ≡ true → marked (settle edges done m) n ≡ true
      here e = rw e (ap (marked (mark done m)) (sym same) ∙ mark_marks done m)
  settles done (m ∷ ms) n (inr h) all = settles (settle edges done m) ms n h (still_all done m (targets edges n) all)

  no_more : (ms ns : List Bool) → length ms ≡ length ns → ((j : ℕ) → marked ms j ≡ true → marked ns j ≡ true)
      → unmarked ns ≤ unmarked ms
  no_more [] [] e h = omega arith
  no_more [] (n ∷ ns) e h = absurd (omega arith)
  no_more (m ∷ ms) [] e h = absurd (omega arith)
  no_more (true ∷ ms) (true ∷ ns) e h = no_more ms ns (omega arith) (λ j. h (suc j))
  no_more (true ∷ ms) (false ∷ ns) e h = absurd (true≢false (sym (h zero refl)))
  no_more (false ∷ ms) (true ∷ ns) e h = let le = no_more ms ns (omega arith) (λ j. h (suc j)) in omega arith
  no_more (false ∷ ms) (false ∷ ns) e h = let le = no_more ms ns (omega arith) (λ j. h (suc j)) in omega arith

  fewer : (ms ns : List Bool) (n : ℕ) → length ms ≡ length ns
      → ((j : ℕ) → marked ms j ≡ true → marked ns j ≡ true) → marked ms n ≡ false → marked ns n ≡ true
      → unmarked ns < unmarked ms
  fewer ms ns n e h old new =
      let le = no_more (mark ms n) ns (length_mark ms n ∙ e) each in let less = one_less ms n old in omega arith
    where
      each : (j : ℕ) → marked (mark ms n) j ≡ true → marked ns j ≡ true
      each j m = elim (from_mark ms n j m) [ inl same ↦ ap (marked ns) (sym same) ∙ new | inr o ↦ h j o ]

  pub pass_settles : (done : List Bool) (ns : List ℕ) → length done ≡ length edges → NoCycle edges
      → ((j : ℕ) → j < length edges → IsIn ns j) → full done ≡ false
      → unmarked (settle_all edges done ns) < unmarked done
  pass_settles done ns whole apart all is =
      let r = ready done whole apart is in
      let less : r.node < length edges = let here = within done r.node r.new in omega arith in
      fewer done (settle_all edges done ns) r.node (sym (length_settle_all done ns)) (keeps done ns) r.new
      (settles done ns r.node (all r.node less) r.all)

  -- ---- the same, where the code has equations

  pub placed_at : (done new : List Bool) (order order' ns : List ℕ) → Placed edges done order
      → new ≡ settle_all edges done ns → order' ≡ with_all_settled edges done order ns → Placed edges new order'
  placed_at done new order order' ns p new_is order_is =
      let AtOrder : List ℕ → Type 0 = λ o. Placed edges new o in
      let AtMarks : List Bool → Type 0 = λ m. Placed edges m (with_all_settled edges done order ns) in
      subst AtOrder (sym order_is) (subst AtMarks (sym new_is) (placed_all done order ns p))

  pub begins_at : (none done : List Bool) (empty order ns : List ℕ) → none ≡ replicate (length edges) false → empty ≡ []
      → done ≡ settle_all edges none ns → order ≡ with_all_settled edges none empty ns → Placed edges done order
  begins_at none done empty order ns is_none is_empty done_is order_is =
      placed_at (replicate (length edges) false) done [] order ns none_placed (cc) (cc)

  pub fewer_at : (done new : List Bool) (order items ns : List ℕ) → Placed edges done order → NoCycle edges
      → ((j : ℕ) → j < length edges → IsIn items j) → ns ≡ items → full done ≡ false → new ≡ settle_all edges done ns
      → unmarked new < unmarked done
  fewer_at done new order items ns p apart all same is new_is =
      let In : List ℕ → Type 0 = λ l. (j : ℕ) → j < length edges → IsIn l j in
      let Less : List Bool → Type 0 = λ m. unmarked m < unmarked done in
      subst Less (sym new_is) (pass_settles done ns p.whole apart (subst In (sym same) all) is)

  -- ---- a graph without a cycle has an order

  numbers : ℕ → List ℕ
  numbers zero = []
  numbers (suc n) = numbers n ++ n ∷ []

  number_in : (n j : ℕ) → j < n → IsIn (numbers n) j
  unfolding numbers
  number_in zero j less = absurd (omega arith)
  number_in (suc n) j less = numbers_more (numbers n) n (number_in n) j (omega arith)

  passes : NoCycle edges → (left : ℕ) (done : List Bool) (order : List ℕ) → unmarked done < left
      → Placed edges done order
      → (o : List ℕ) × InOrder edges o
  passes apart zero done order less p = absurd (omega arith)
  passes apart (suc left) done order less p = by (full done) refl (passes apart left)
    where
      by : (b : Bool) → full done ≡ b
          → ((d : List Bool) (o : List ℕ) → unmarked d < left → Placed edges d o → (q : List ℕ) × InOrder edges q)
          → (q : List ℕ) × InOrder edges q
      by true is further = (order, placed_in_order done order p is)
      by false is further =
          let all = number_in (length edges) in
          let fewer = pass_settles done (numbers (length edges)) p.whole apart all is in
          further (settle_all edges done (numbers (length edges)))
          (with_all_settled edges done order (numbers (length edges))) (omega arith)
          (placed_all done order (numbers (length edges)) p)

  pub order_exists : NoCycle edges → (order : List ℕ) × InOrder edges order
  order_exists apart =
      let none = replicate (length edges) false in
      passes apart (unmarked none + 1) none [] (omega arith) none_placed
