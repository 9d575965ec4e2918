-- What holds of all that occurs in a function holds of what occurs in a run of it: the run's block is a part of the function's tree.
use Rattle.std.proofs.Common.{◌≡◌, ◌⊎◌, inl, inr, ⊎_elim, ℕ, zero, suc, Bool, true, false, if◌then◌else◌, List, [], ◌∷◌, ◌++◌, take, drop, Some, None, refl, subst}
use Rattle.std.specs.Prelude.{◌==◌}
use Rattle.rx_tree.specs.Lists.{Every}
use Rattle.rx_typed.specs.Tree.{Exp, read, borrow, share, build, unit, lazily, assign, update, call, input, print, block, choose, loop, jump, give, Operands, no_operand, operand_and, Scrutinee, at_place, of_value, Arms, no_arm, arm_and, Body, ends, runs, declares, lets, Function}
use Rattle.rx_lower_walks.specs.Walks.{Among, here, there}
use Rattle.rx_exits_plan.specs.Blocks.{Statement, statements, tail, bound, written_tail}
use Rattle.rx_exits_plan.specs.Spots.{Around, Spot, a_block, a_jump, a_return, with_variables, with_loop, spots, spots_in, spots_matched, spots_armed, spots_of, outermost}
use Rattle.rx_exits_plan.specs.Runs.{Run, Home, Sits, inside, last_value}
use Rattle.rx_exits_plan.specs.Occurrences.{Occurrence, the_variable, named_place, all_declared, occurrences, occurrences_in, occurrences_matched, occurrences_armed, occurrences_of, in_statement, in_statements, in_value, in_run, variables_among, drops, firsts, variables_of_run}
use Rattle.rx_hoist_naming.proofs.Good.{every_append, every_front, every_behind, if_holds}

-- ---- spots in rows

none_among : {x : Spot} → Among x [] → ⊥
none_among h = elim h [ ]

at_head : {x y : Spot} {l : List Spot} → Among x (y ∷ l) → (x ≡ y) ⊎ Among x l
at_head here = inl refl
at_head (there h) = inr h

split : {x : Spot} (l m : List Spot) → Among x (l ++ m) → Among x l ⊎ Among x m
split [] m h = inr h
split (y ∷ l) m here = inl here
split (y ∷ l) m (there h) = ⊎_elim (λ a. inl (there a)) (λ b. inr b) (split l m h)

module _ (P : Occurrence → Type 0) where
  abbrev All : List Occurrence → Type 0
  All l = Every P l

  same_block : (c a : Around) (k n : ℕ) (b d : Body) → a_block c k b ≡ a_block a n d → d ≡ b
  same_block c a k n b d e = cc

  -- a part that is one of two
  of_two : (c : Around) (k : ℕ) (b : Body) (l m : List Spot) → (Among (a_block c k b) l → All (occurrences_of b)) → (Among (a_block c k b) m → All (occurrences_of b)) → Among (a_block c k b) (l ++ m) → All (occurrences_of b)
  of_two c k b l m f g h = ⊎_elim f g (split l m h)

  mutual
    in_exp : (c : Around) (k : ℕ) (b : Body) (a : Around) (e : Exp) → All (occurrences e) → Among (a_block c k b) (spots a e) → All (occurrences_of b)
    in_exp c k b a (read m v p) h x = absurd (none_among x)
    in_exp c k b a (borrow m n p) h x = absurd (none_among x)
    in_exp c k b a (share m e) h x = in_exp c k b a e h x
    in_exp c k b a (build m w es) h x = in_operands c k b a es h x
    in_exp c k b a (unit m) h x = absurd (none_among x)
    in_exp c k b a (lazily m o e f) h x = of_two c k b (spots a e) (spots a f) (in_exp c k b a e (every_front P (occurrences e) (occurrences f) h)) (in_exp c k b a f (every_behind P (occurrences e) (occurrences f) h)) x
    in_exp c k b a (assign m p e) h x = in_exp c k b a e (every_behind P (named_place p) (occurrences e) h) x
    in_exp c k b a (update m o p e) h x = in_exp c k b a e (every_behind P (named_place p) (occurrences e) h) x
    in_exp c k b a (call m f es) h x = in_operands c k b a es h x
    in_exp c k b a (input m) h x = absurd (none_among x)
    in_exp c k b a (print m e) h x = in_exp c k b a e h x
    in_exp c k b a (block m d) h x =
        ⊎_elim (λ e. subst (λ (z : Body). All (occurrences_of z)) (same_block c a k m.node b d e) h) (λ y. in_body c k b a d h y) (at_head x)
    in_exp c k b a (choose m s l) h x =
        of_two c k b (spots_matched a s) (spots_armed a l) (in_matched c k b a s (every_front P (occurrences_matched s) (occurrences_armed l) h)) (in_arms c k b a l (every_behind P (occurrences_matched s) (occurrences_armed l) h)) x
    in_exp c k b a (loop m l e) h x = in_exp c k b (with_loop l a) e h x
    in_exp c k b a (jump m l n) h x = ⊎_elim (λ (e : a_block c k b ≡ a_jump a m.node l n). absurd (cc)) (λ y. absurd (none_among y)) (at_head x)
    in_exp c k b a (give m e) h x = of_two c k b (spots a e) (a_return a m.node ∷ []) (in_exp c k b a e h) (λ y. ⊎_elim (λ (e : a_block c k b ≡ a_return a m.node). absurd (cc)) (λ z. absurd (none_among z)) (at_head y)) x

    in_operands : (c : Around) (k : ℕ) (b : Body) (a : Around) (es : Operands) → All (occurrences_in es) → Among (a_block c k b) (spots_in a es) → All (occurrences_of b)
    in_operands c k b a no_operand h x = absurd (none_among x)
    in_operands c k b a (operand_and i e es) h x =
        of_two c k b (spots a e) (spots_in a es) (in_exp c k b a e (every_front P (occurrences e) (occurrences_in es) h)) (in_operands c k b a es (every_behind P (occurrences e) (occurrences_in es) h)) x

    in_matched : (c : Around) (k : ℕ) (b : Body) (a : Around) (s : Scrutinee) → All (occurrences_matched s) → Among (a_block c k b) (spots_matched a s) → All (occurrences_of b)
    in_matched c k b a (at_place m p) h x = absurd (none_among x)
    in_matched c k b a (of_value e) h x = in_exp c k b a e h x

    in_arms : (c : Around) (k : ℕ) (b : Body) (a : Around) (l : Arms) → All (occurrences_armed l) → Among (a_block c k b) (spots_armed a l) → All (occurrences_of b)
    in_arms c k b a no_arm h x = absurd (none_among x)
    in_arms c k b a (arm_and p e l) h x =
        let g = every_behind P (all_declared (bound p)) (occurrences e ++ occurrences_armed l) h in
        of_two c k b (spots (with_variables (bound p) a) e) (spots_armed a l) (in_exp c k b (with_variables (bound p) a) e (every_front P (occurrences e) (occurrences_armed l) g)) (in_arms c k b a l (every_behind P (occurrences e) (occurrences_armed l) g)) x

    in_body : (c : Around) (k : ℕ) (b : Body) (a : Around) (d : Body) → All (occurrences_of d) → Among (a_block c k b) (spots_of a d) → All (occurrences_of b)
    in_body c k b a (ends e) h x = in_exp c k b a e h x
    in_body c k b a (runs e d) h x =
        of_two c k b (spots a e) (spots_of a d) (in_exp c k b a e (every_front P (occurrences e) (occurrences_of d) h)) (in_body c k b a d (every_behind P (occurrences e) (occurrences_of d) h)) x
    in_body c k b a (declares s xs d) h x = in_body c k b (with_variables xs a) d (every_behind P (all_declared xs) (occurrences_of d) h) x
    in_body c k b a (lets s p m d) h x =
        let g = every_behind P (all_declared (bound p)) (occurrences_matched m ++ occurrences_of d) h in
        of_two c k b (spots_matched a m) (spots_of (with_variables (bound p) a) d) (in_matched c k b a m (every_front P (occurrences_matched m) (occurrences_of d) g)) (in_body c k b (with_variables (bound p) a) d (every_behind P (occurrences_matched m) (occurrences_of d) g)) x

  -- ---- the parts of a block

  record Parts (b : Body) : Type 0 where
    rows : Every (λ (s : Statement). All (in_statement s)) (statements b)
    last : All (occurrences (tail b))

  parts : (b : Body) → All (occurrences_of b) → Parts b
  parts (ends e) h = record { rows = tt; last = h }
  parts (runs e b) h = let x = parts b (every_behind P (occurrences e) (occurrences_of b) h) in record { rows = (every_front P (occurrences e) (occurrences_of b) h, x.rows); last = x.last }
  parts (declares s xs b) h = let x = parts b (every_behind P (all_declared xs) (occurrences_of b) h) in record { rows = (every_front P (all_declared xs) (occurrences_of b) h, x.rows); last = x.last }
  parts (lets s p c b) h =
      let d = every_front P (all_declared (bound p)) (occurrences_matched c ++ occurrences_of b) h in
      let g = every_behind P (all_declared (bound p)) (occurrences_matched c ++ occurrences_of b) h in
      let x = parts b (every_behind P (occurrences_matched c) (occurrences_of b) g) in
      record { rows = (every_append P (all_declared (bound p)) (occurrences_matched c) d (every_front P (occurrences_matched c) (occurrences_of b) g), x.rows); last = x.last }

  in_rows : (ss : List Statement) → Every (λ (s : Statement). All (in_statement s)) ss → All (in_statements ss)
  in_rows [] h = tt
  in_rows (s ∷ ss) h = every_append P (in_statement s) (in_statements ss) h.0 (in_rows ss h.1)

  by_number : (c : Bool) (e f : Exp) → All (occurrences e) → All (occurrences f) → All (occurrences (if c then e else f))
  by_number true e f g h = g
  by_number false e f g h = h

  written : (n : ℕ) (e : Exp) → All (occurrences e) → All (occurrences (written_tail n e))
  written n (give m e) h = by_number (m.node == n) e (give m e) h h
  written n (read m v p) h = h
  written n (borrow m k p) h = h
  written n (share m e) h = h
  written n (build m w es) h = h
  written n (unit m) h = h
  written n (lazily m b e f) h = h
  written n (assign m p e) h = h
  written n (update m o p e) h = h
  written n (call m f es) h = h
  written n (input m) h = h
  written n (print m e) h = h
  written n (block m b) h = h
  written n (choose m s l) h = h
  written n (loop m l e) h = h
  written n (jump m l k) h = h

  value_if : (c : Bool) (e : Exp) → All (occurrences e) → All (in_value (if c then Some e else None))
  value_if true e h = h
  value_if false e h = tt

every_take : {A : Type 0} (P : A → Type 0) (n : ℕ) (l : List A) → Every P l → Every P (take n l)
every_take P zero l h = tt
every_take P (suc n) [] h = tt
every_take P (suc n) (x ∷ l) h = (h.0, every_take P n l h.1)

every_drop : {A : Type 0} (P : A → Type 0) (n : ℕ) (l : List A) → Every P l → Every P (drop n l)
every_drop P zero l h = h
every_drop P (suc n) [] h = tt
every_drop P (suc n) (x ∷ l) h = every_drop P n l h.1

-- ---- variables

module _ (Q : ℕ → Type 0) where
  each_variable : (l : List Occurrence) → Every (λ (o : Occurrence). Q (the_variable o)) l → Every Q (variables_among l)
  each_variable [] h = tt
  each_variable (o ∷ l) h = (h.0, each_variable l h.1)

  dropped : (x : ℕ) (l : List ℕ) → Every Q l → Every Q (drops x l)
  dropped x [] h = tt
  dropped x (y ∷ l) h = let rest = dropped x l h.1 in if_holds (λ (m : List ℕ). Every Q m) (y == x) (drops x l) (y ∷ drops x l) (λ _. rest) (λ _. (h.0, rest))

  firsts_of : (l : List ℕ) → Every Q l → Every Q (firsts l)
  firsts_of [] h = tt
  firsts_of (x ∷ l) h = (h.0, dropped x (firsts l) (firsts_of l h.1))

  pub in_a_run : (f : Function) (r : Run) (h : Home) → Sits f r h → Every (λ (o : Occurrence). Q (the_variable o)) (occurrences f.body) → Every Q (variables_of_run r h.body)
  in_a_run f r h s x =
      let P : Occurrence → Type 0 = λ o. Q (the_variable o) in
      let y = parts P h.body (in_exp P h.around r.block h.body (outermost f) f.body x s.block) in
      let rows = in_rows P (inside r h.body) (every_take (λ (s : Statement). Every P (in_statement s)) r.count (drop r.first (statements h.body)) (every_drop (λ (s : Statement). Every P (in_statement s)) r.first (statements h.body) y.rows)) in
      let value = value_if P r.tail (written_tail r.block (tail h.body)) (written P r.block (tail h.body) y.last) in
      firsts_of (variables_among (in_run r h.body)) (each_variable (in_run r h.body) (every_append P (in_statements (inside r h.body)) (in_value (last_value r h.body)) rows value))
