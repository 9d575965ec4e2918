-- A block of a function in which names mean what they name: so they do in the block, where it stands, and in a run of its statements.
use Rattle.std.proofs.Common.{◌≡◌, ℕ, zero, suc, ◌+◌, Bool, true, false, ◌==◌, if◌then◌else◌, List, [], ◌∷◌, ◌++◌, length, take, drop, Option, Some, None, refl, sym, subst, ◌⊎◌, inl, inr, arith}
use Rattle.rx_typed.specs.Tree.{Exp, read, borrow, share, build, unit, lazily, assign, update, call, input, print, block, choose, loop, jump, give, Operands, no_operand, operand_and, Scrutinee, at_place, of_value, Arms, no_arm, arm_and, Body, ends, runs, declares, lets, Function}
use Rattle.rx_lower_walks.specs.Walks.{Among, here, there}
use Rattle.rx_exits_plan.specs.Blocks.{Statement, does, begins, binds, statements, tail, bound, written_tail, declared_by}
use Rattle.rx_exits_plan.specs.Spots.{Around, Spot, a_block, a_jump, a_return, with_variables, with_loop, spots, spots_in, spots_matched, spots_armed, spots_of, outermost}
use Rattle.rx_exits_plan.specs.Runs.{Run, Home, Sits, inside, last_value}
use Rattle.rx_exits_plan.specs.Exits.{past, at_start, at_end}
use Rattle.rx_hoist_meant.specs.NamesMeant.{InExp, InOperands, InScrutinee, InArms, InBody, NamesMeant}

-- ---- spots in rows

at_head : {x y : Spot} {l : List Spot} → Among x (y ∷ l) → (x ≡ y) ⊎ Among x l
at_head here = inl refl
at_head (there h) = inr h

split : {x : Spot} (l m : List Spot) → Among x (l ++ m) → Among x l ⊎ Among x m
split [] m h = inr h
split (y ∷ l) m here = inl here
split (y ∷ l) m (there h) = elim (split l m h) [ inl a ↦ inl (there a) | inr b ↦ inr b ]

module _ (same : ℕ → ℕ → Bool) (c : Around) (k : ℕ) (b : Body) where
  abbrev Its : List Spot → Type 0
  Its l = Among (a_block c k b) l

  none : Its [] → InBody same c b
  none h = absurd (elim h [ ])

  of_two : (l m : List Spot) → (Its l → InBody same c b) → (Its m → InBody same c b) → Its (l ++ m) → InBody same c b
  of_two l m f g h = elim (split l m h) [ inl x ↦ f x | inr y ↦ g y ]

  this_block : (a : Around) (n : ℕ) (d : Body) → a_block c k b ≡ a_block a n d → InBody same a d → InBody same c b
  this_block a n d e h =
      let scope : a ≡ c = cc in
      let body : d ≡ b = cc in
      subst (λ (z : Around). InBody same z b) scope (subst (λ (z : Body). InBody same a z) body h)

  other_jump : (a : Around) (n l : ℕ) (again : Bool) → a_block c k b ≡ a_jump a n l again → InBody same c b
  other_jump a n l again e = absurd (cc)

  other_return : (a : Around) (n : ℕ) → a_block c k b ≡ a_return a n → InBody same c b
  other_return a n e = absurd (cc)

  mutual
    pub in_exp : (a : Around) (e : Exp) → InExp same a e → Its (spots a e) → InBody same c b
    in_exp a (read m v p) h x = none x
    in_exp a (borrow m n p) h x = none x
    in_exp a (share m e) h x = in_exp a e h x
    in_exp a (build m w es) h x = in_operands a es h x
    in_exp a (unit m) h x = none x
    in_exp a (lazily m o e f) h x = of_two (spots a e) (spots a f) (in_exp a e h.0) (in_exp a f h.1) x
    in_exp a (assign m p e) h x = in_exp a e h.1 x
    in_exp a (update m o p e) h x = in_exp a e h.1 x
    in_exp a (call m f es) h x = in_operands a es h x
    in_exp a (input m) h x = none x
    in_exp a (print m e) h x = in_exp a e h x
    in_exp a (block m d) h x = elim (at_head x) [ inl e ↦ this_block a m.node d e h | inr y ↦ in_body a d h y ]
    in_exp a (choose m s l) h x = of_two (spots_matched a s) (spots_armed a l) (in_matched a s h.0) (in_arms a l h.1) x
    in_exp a (loop m l e) h x = in_exp (with_loop l a) e h x
    in_exp a (jump m l n) h x = elim (at_head x) [ inl e ↦ other_jump a m.node l n e | inr y ↦ none y ]
    in_exp a (give m e) h x = of_two (spots a e) (a_return a m.node ∷ []) (in_exp a e h) (λ y. elim (at_head y) [ inl e ↦ other_return a m.node e | inr z ↦ none z ]) x

    in_operands : (a : Around) (es : Operands) → InOperands same a es → Its (spots_in a es) → InBody same c b
    in_operands a no_operand h x = none x
    in_operands a (operand_and i e es) h x = of_two (spots a e) (spots_in a es) (in_exp a e h.0) (in_operands a es h.1) x

    in_matched : (a : Around) (s : Scrutinee) → InScrutinee same a s → Its (spots_matched a s) → InBody same c b
    in_matched a (at_place m p) h x = none x
    in_matched a (of_value e) h x = in_exp a e h x

    in_arms : (a : Around) (l : Arms) → InArms same a l → Its (spots_armed a l) → InBody same c b
    in_arms a no_arm h x = none x
    in_arms a (arm_and p e l) h x = of_two (spots (with_variables (bound p) a) e) (spots_armed a l) (in_exp (with_variables (bound p) a) e h.0) (in_arms a l h.1) x

    in_body : (a : Around) (d : Body) → InBody same a d → Its (spots_of a d) → InBody same c b
    in_body a (ends e) h x = in_exp a e h x
    in_body a (runs e d) h x = of_two (spots a e) (spots_of a d) (in_exp a e h.0) (in_body a d h.1) x
    in_body a (declares s xs d) h x = in_body (with_variables xs a) d h x
    in_body a (lets s p m d) h x = of_two (spots_matched a m) (spots_of (with_variables (bound p) a) d) (in_matched a m h.0) (in_body (with_variables (bound p) a) d h.1) x

-- ---- the statements of a block, one behind the other

module _ (same : ℕ → ℕ → Bool) where
  abbrev pub InStatement : Around → Statement → Type 0
  InStatement a (does e) = InExp same a e
  InStatement a (begins s xs) = Unit {0}
  InStatement a (binds s p c) = InScrutinee same a c

  abbrev pub InStatements : Around → List Statement → Type 0
  InStatements a [] = Unit {0}
  InStatements a (s ∷ ss) = InStatement a s × InStatements (with_variables (declared_by s) a) ss

  record Parts (a : Around) (b : Body) : Type 0 where
    rows : InStatements a (statements b)
    last : InExp same (past (statements b) a) (tail b)

  parts : (a : Around) (b : Body) → InBody same a b → Parts a b
  parts a (ends e) h = record { rows = tt; last = h }
  parts a (runs e b) h = let x = parts (with_variables [] a) b h.1 in record { rows = (h.0, x.rows); last = x.last }
  parts a (declares s xs b) h = let x = parts (with_variables xs a) b h in record { rows = (tt, x.rows); last = x.last }
  parts a (lets s p c b) h = let x = parts (with_variables (bound p) a) b h.1 in record { rows = (h.0, x.rows); last = x.last }

  front_rows : (n : ℕ) (a : Around) (ss : List Statement) → InStatements a ss → InStatements a (take n ss)
  front_rows zero a ss h = tt
  front_rows (suc n) a [] h = tt
  front_rows (suc n) a (s ∷ ss) h = (h.0, front_rows n (with_variables (declared_by s) a) ss h.1)

  later_rows : (n : ℕ) (a : Around) (ss : List Statement) → InStatements a ss → InStatements (past (take n ss) a) (drop n ss)
  later_rows zero a ss h = h
  later_rows (suc n) a [] h = tt
  later_rows (suc n) a (s ∷ ss) h = later_rows n (with_variables (declared_by s) a) ss h.1

  -- past all, in two steps
  past_all : (n m : ℕ) (a : Around) (ss : List Statement) → n + m ≡ length ss → past (take m (drop n ss)) (past (take n ss) a) ≡ past ss a
  past_all zero m a ss e = whole m a ss e
    where
      whole : (m : ℕ) (a : Around) (ss : List Statement) → 0 + m ≡ length ss → past (take m ss) a ≡ past ss a
      whole zero a [] e = refl
      whole zero a (s ∷ ss) e = absurd (omega (arith, e))
      whole (suc m) a [] e = refl
      whole (suc m) a (s ∷ ss) e = whole m (with_variables (declared_by s) a) ss (omega (arith, e))
  past_all (suc n) m a [] e = absurd (omega (arith, e))
  past_all (suc n) m a (s ∷ ss) e = past_all n m (with_variables (declared_by s) a) ss (omega (arith, e))

  by_number : (c : Bool) (a : Around) (e f : Exp) → InExp same a e → InExp same a f → InExp same a (if c then e else f)
  by_number true a e f g h = g
  by_number false a e f g h = h

  written : (n : ℕ) (a : Around) (e : Exp) → InExp same a e → InExp same a (written_tail n e)
  written n a (give m e) h = by_number (m.node == n) a e (give m e) h h
  written n a (read m v p) h = h
  written n a (borrow m k p) h = h
  written n a (share m e) h = h
  written n a (build m w es) h = h
  written n a (unit m) h = h
  written n a (lazily m b e f) h = h
  written n a (assign m p e) h = h
  written n a (update m o p e) h = h
  written n a (call m f es) h = h
  written n a (input m) h = h
  written n a (print m e) h = h
  written n a (block m b) h = h
  written n a (choose m s l) h = h
  written n a (loop m l e) h = h
  written n a (jump m l k) h = h

  abbrev pub InValue : Around → Option Exp → Type 0
  InValue a None = Unit {0}
  InValue a (Some e) = InExp same a e

  -- the statements of a run, and its value
  pub record InRun (r : Run) (h : Home) : Type 0 where
    pub rows : InStatements (at_start r h) (inside r h.body)
    pub last : InValue (at_end r h) (last_value r h.body)

  its_value : (r : Run) (h : Home) → ((r.tail ≡ true) → r.first + r.count ≡ length (statements h.body)) → InExp same (past (statements h.body) h.around) (tail h.body)
      → (t : Bool) → r.tail ≡ t → InValue (at_end r h) (if t then Some (written_tail r.block (tail h.body)) else None)
  its_value r h whole x true e =
      subst (λ (a : Around). InExp same a (written_tail r.block (tail h.body))) (sym (past_all r.first r.count h.around (statements h.body) (whole e)))
      (written r.block (past (statements h.body) h.around) (tail h.body) x)
  its_value r h whole x false e = tt

  pub in_run : (f : Function) (r : Run) (h : Home) → Sits f r h → NamesMeant same f → InRun r h
  in_run f r h s m =
      let b = in_exp same h.around r.block h.body (outermost f) f.body m s.block in
      let p = parts h.around h.body b in
      record {
        rows = front_rows r.count (at_start r h) (drop r.first (statements h.body)) (later_rows r.first h.around (statements h.body) p.rows);
        last = its_value r h s.whole p.last r.tail refl;
      }
