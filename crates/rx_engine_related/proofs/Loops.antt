-- In a function that is like itself no loop has the number of a loop round it. So the marks of an exit lead to one place.
use Rattle.std.proofs.Common.{◌≡◌, ◌≢◌, ◌⊎◌, inl, inr, ℕ, zero, suc, ◌≤◌, ◌==◌, Bool, true, false, ◌||◌, nat_eq, if◌then◌else◌, List, [], ◌∷◌, ◌++◌, Option, Some, None, refl, sym, ap, ◌∙◌, subst, true≢false, eqb-true, arith}
use Rattle.std.specs.Prelude.{◌+◌, ◌&&◌, length, take, drop}
use Rattle.std.proofs.lemmas.Bool.Decides.{Decides-eqb}
use Rattle.rx_typed.specs.Tree as tree
use Rattle.rx_typed.specs.Tree.{Exp, Operands, Scrutinee, Arms, Body, Function, Temporary, mark_of, temporary_of, temporary_at}
use Rattle.rx_lower_walks.specs.Matching.{PartTest, Binding, tests, bindings}
use Rattle.rx_lower_walks.specs.Actions.{Act, Subject, subject, taken}
use Rattle.rx_lower_walks.specs.Orders.{Order, order, order_all, order_scrutinee, order_arms, order_body, order_function, testing, binding, declaring, perhaps}
use Rattle.rx_lower_walks.specs.Walks.{Among, here, there}
use Rattle.rx_exits_plan.specs.Blocks.{Statement, statements, tail, bound}
use Rattle.rx_exits_plan.specs.Blocks as block
use Rattle.rx_exits_plan.specs.Spots.{Around, Spot, a_block, a_jump, a_return, with_variables, with_loop, spots, spots_in, spots_matched, spots_armed, spots_of, outermost, spots_of_function}
use Rattle.rx_exits_plan.specs.Runs.{Run, Home, inside, behind}
use Rattle.rx_exits_plan.specs.Marked.{is_among}
use Rattle.rx_engine_simulation.specs.Turns.{Allowance}
use Rattle.rx_engine_simulation.specs.Histories.{Facts}
use Rattle.rx_engine_simulation.specs.Sights.{Renaming}
use Rattle.rx_engine_simulation.specs.Jumps.{Jumping, loop_of}
use Rattle.rx_engine_simulation.specs.Openings.{no_openings}
use Rattle.rx_engine_simulation.specs.Like.{LikeExp, opens, LikeAll, LikeMatched, LikeArms, LikeBody, opens_in, reads, borrows, views, shares, builds, builds_structs, builds_variants, units, lazies, assigns, updates, calls, inputs, prints, blocks, chooses, loops, stays, gives, no_operands, operands_and, at_places, of_values, no_arms, arms_and, ends_in, runs_on, declares_all, lets_in, reads_place, looks_behind}
use Rattle.rx_engine_simulation.specs.Marking.{without_turns}
use Rattle.rx_engine_simulation.proofs.Declaring.{eq_self}
use Rattle.rx_exits_plan.specs.Points.{Exit, next, breaks, continues, returns, leaves, jump_exit}
use Rattle.rx_exits_plan.specs.Marked.{shown}
use Rattle.rx_exits_plan.specs.Coming.{HasNoMark}
use Rattle.rx_exits_plan.specs.Diverging.{run_diverges}
use Rattle.rx_exits_plan.specs.Exits.{Jump, jumps, is_taken, where_taken, of_loops, exits}
use Rattle.rx_exits_plan.specs.Asked.{Asked}
use Rattle.rx_exits_plan.specs.Plan.{Plan, IsPlan}
use Rattle.rx_exits_plan.specs.PartlyMoved.{PartlyMoved}
use Rattle.rx_modes_uses.specs.Aliased.{Aliased}
use Rattle.rx_engine_related.specs.Running.{running_of}
use Rattle.rx_engine_related.specs.OneSite.{blocks_at}
use Rattle.rx_engine_related.specs.OnePlace.{LeadsToOnePlace, loops_in, loops_of}
use Rattle.rx_engine_related.specs.Accepted.{Accepted}
use Rattle.rx_engine_related.specs.Tailed.{tailed_of, TellsOnce}
use Rattle.rx_engine_related.proofs.Recombining.{sole_leads}
use Rattle.rx_engine_related.proofs.Sole.{end_stands_once}
use Rattle.rx_engine_related.proofs.Jumps.{jumps_meet}
use Rattle.rx_engine_related.proofs.TailJumps.{tail_jumps_meet}
use Rattle.rx_engine_related.proofs.Fewer.{tells_once}
use Rattle.rx_engine_related.specs.ByForm.{by_form, RelatedFunction, IsItself, is_itself, is_none}
use Rattle.rx_engine_related.specs.Had.{Had}
use Rattle.rx_engine_related.specs.ExtractsTail.{HadTail}
use Rattle.rx_engine_related.proofs.Inside.{has_some}
use Rattle.rx_modes_uses.specs.NotMut.{NotMut}

-- ---- numbers that are not in a list

abbrev pub NotIn : ℕ → List ℕ → Type 0
NotIn j l = is_among j l ≡ false

pub not_both : (j : ℕ) (l m : List ℕ) → NotIn j l → NotIn j m → NotIn j (l ++ m)
not_both j [] m p q = q
not_both j (x ∷ l) m p q = by (j == x) p (λ r. not_both j l m r q)
  where
    by : (b : Bool) → b || is_among j l ≡ false → (NotIn j l → NotIn j (l ++ m)) → b || is_among j (l ++ m) ≡ false
    by true r f = r
    by false r f = f r

differ : (j k : ℕ) → (j ≡ k → ⊥) → (j == k) ≡ false
differ j k n = by (j == k) refl
  where
    by : (b : Bool) → (j == k) ≡ b → (j == k) ≡ false
    by true e = absurd (n ((Decides-eqb j k).0 e))
    by false e = e

not_here : (j k : ℕ) (l : List ℕ) → (j ≡ k → ⊥) → NotIn j l → NotIn j (k ∷ l)
not_here j k l n p = ap (λ b. b || is_among j l) (differ j k n) ∙ p

-- ---- loops round a part, in both trees

abbrev pub diagonal : List ℕ → List (ℕ × ℕ)
diagonal [] = []
diagonal (l ∷ ls) = (l, l) ∷ diagonal ls

head_or : {X : Type 0} {x y : X} {l : List X} → Among x (y ∷ l) → (x ≡ y) ⊎ Among x l
head_or here = inl refl
head_or (there i) = inr i

one_only : {X : Type 0} {x y : X} → Among x (y ∷ []) → x ≡ y
one_only here = refl
one_only (there i) = elim i [ ]

found : (j : ℕ) (ls : List ℕ) → Among j ls → loop_of (diagonal ls) j ≡ Some j
found j [] i = elim i [ ]
found j (l ∷ ls) i = by (λ k. found j ls k) (nat_eq j l) refl (head_or i)
  where
    by : (Among j ls → loop_of (diagonal ls) j ≡ Some j) → (b : Bool) → nat_eq j l ≡ b → (j ≡ l) ⊎ Among j ls → (if b then Some l else loop_of (diagonal ls) j) ≡ Some j
    by ih true e i = ap (λ k. Some k) (sym (eqb-true j l e))
    by ih false e (inl q) = absurd (true≢false (sym (eq_self j) ∙ subst (λ k. nat_eq j k ≡ false) (sym q) e))
    by ih false e (inr i) = ih i

-- ---- orders without loops of their own

module _ (j : ℕ) where
  testing_free : (S : Subject) (ts : List PartTest) (r : Order) → NotIn j (loops_in r) → NotIn j (loops_in (testing S ts r))
  testing_free S [] r p = p
  testing_free S (t ∷ ts) r p = not_both j (loops_in (testing S ts r)) [] (testing_free S ts r p) refl

  perhaps_free : (n : ℕ) (o : Option Act) → NotIn j (loops_in (perhaps n o))
  perhaps_free n None = refl
  perhaps_free n (Some a) = refl

  binding_free : (S : Subject) (bs : List Binding) (n : ℕ) (r : Order) → NotIn j (loops_in r) → NotIn j (loops_in (binding S bs n r))
  binding_free S [] n r p = p
  binding_free S (b ∷ bs) n r p = not_both j (loops_in (perhaps b.node (taken S b))) (loops_in (binding S bs n r)) (perhaps_free b.node (taken S b)) (binding_free S bs n r p)

  declaring_free : (s : ℕ) (xs : List ℕ) (n : ℕ) (r : Order) → NotIn j (loops_in r) → NotIn j (loops_in (declaring s xs n r))
  declaring_free s [] n r p = p
  declaring_free s (x ∷ xs) n r p = declaring_free s xs n r p

-- ---- blocks of a part: no loop in one has the number of a loop round it

abbrev pub EachBlock : List Spot → Type 0
EachBlock l = (c : Around) (n : ℕ) (b : Body) → Among (a_block c n b) l → (j : ℕ) → Among j c.loops → NotIn j (loops_of (statements b)) × NotIn j (loops_in (order (tail b) (temporary_of (tail b))))

each_both : (l m : List Spot) → EachBlock l → EachBlock m → EachBlock (l ++ m)
each_both [] m p q c n b i = q c n b i
each_both (_ ∷ l) m p q c n b here = p c n b here
each_both (s ∷ l) m p q c n b (there k) = each_both l m (λ c n b i. p c n b (there i)) q c n b k

no_block : EachBlock []
no_block c n b i = elim i [ ]

no_jump_block : (a : Around) (n l : ℕ) (again : Bool) → EachBlock (a_jump a n l again ∷ [])
no_jump_block a n l again c k b (there i) = elim i [ ]

no_return_block : (a : Around) (n : ℕ) → EachBlock (a_return a n ∷ [])
no_return_block a n c k b (there i) = elim i [ ]

-- ---- form by form

record Fine (ls : List ℕ) (order_of : Temporary → Order) (l : List Spot) : Type 0 where
  pub free : (j : ℕ) → Among j ls → (d : Temporary) → NotIn j (loops_in (order_of d))
  pub each : EachBlock l

record FineParts (ls : List ℕ) (s : Order) (l : List Spot) : Type 0 where
  pub free : (j : ℕ) → Among j ls → NotIn j (loops_in s)
  pub each : EachBlock l

record FineBody (ls : List ℕ) (b : Body) (l : List Spot) : Type 0 where
  pub free : (j : ℕ) → Among j ls → (n : ℕ) (d : Temporary) → NotIn j (loops_in (order_body b n d))
  pub behind : (j : ℕ) → Among j ls → NotIn j (loops_of (statements b)) × NotIn j (loops_in (order (tail b) (temporary_of (tail b))))
  pub each : EachBlock l

nothing_there : (ls : List ℕ) (o : Temporary → Order) → ((j : ℕ) (d : Temporary) → NotIn j (loops_in (o d))) → Fine ls o []
nothing_there ls o f = record { free = λ j i d. f j d; each = no_block }

module _ (items : ℕ → ℕ) (gain : Allowance) (V : Facts) where
  -- a place is not bound where a value is
  no_match : {k : ℕ} {J : Jumping} {R : Renaming} {c d : Scrutinee} {m : tree.Mark} {y : tree.Place} {e : Exp} → LikeMatched items no_openings gain V k J R c d → c ≡ tree.at_place m y → d ≡ tree.of_value e → ⊥
  no_match at_places f g = cc
  no_match (of_values l) f g = cc

  no_place : {k : ℕ} {J : Jumping} {R : Renaming} {b d b' c : Body} {s t : ℕ} {q p : tree.Pattern} {e : Exp} {m : tree.Mark} {y : tree.Place} → LikeBody items no_openings gain V k J R b d → d ≡ tree.lets s q (tree.of_value e) b'
      → b ≡ tree.lets t p (tree.at_place m y) c → ⊥
  no_place (opens_in a i le o l) f g = o
  no_place (ends_in l) f g = cc
  no_place (runs_on i j le l lb) f g = cc
  no_place (declares_all Ra ld lb) f g = cc
  no_place {e = e} {m = m} {y = y} (lets_in {c = c} {c' = d} Ra i j le lc lp lb) f g = let x : c ≡ tree.at_place m y = cc in let z : d ≡ tree.of_value e = cc in no_match lc x z
  no_place (reads_place l) f g = cc
  no_place (looks_behind x seen behind l) f g = cc

  block_each : (a : Around) (n : ℕ) (b : Body) → FineBody a.loops b (spots_of a b) → EachBlock (a_block a n b ∷ spots_of a b)
  block_each a n b z _ _ _ here = z.behind
  block_each a n b z c k d (there i) = z.each c k d i

  mutual
    exp_fine : {k : ℕ} {J : Jumping} {R : Renaming} {e e' : Exp} (a : Around) → e ≡ e' → J.loops ≡ diagonal a.loops → LikeExp items no_openings gain V k J R e e' → Fine a.loops (order e) (spots a e)
    exp_fine a is round (opens d i le o l) = absurd o
    exp_fine a is round (reads {m = m} {v = v} {p = p} l) = nothing_there a.loops (order (tree.read m v p)) (λ j d. refl)
    exp_fine a is round (borrows {m = m} {b = b} {p = p} l) = nothing_there a.loops (order (tree.borrow m b p)) (λ j d. refl)
    exp_fine a is round (views {m = m} seen) = nothing_there a.loops _ (λ j d. refl)
    exp_fine a is round (shares {m = m} {e = e} {e' = e'} l) = let q : e ≡ e' = cc in let z = exp_fine a q round l in record { free = λ j i d. not_both j (loops_in (order e (temporary_at m.node 1))) [] (z.free j i (temporary_at m.node 1)) refl; each = z.each }
    exp_fine a is round (builds {es = es} {es' = es'} f l) = let q : es ≡ es' = cc in let z = all_fine a q round l in record { free = λ j i d. not_both j (loops_in (order_all es)) [] (z.free j i) refl; each = z.each }
    exp_fine a is round (builds_structs {es = es} {es' = es'} f l) = let q : es ≡ es' = cc in let z = all_fine a q round l in record { free = λ j i d. not_both j (loops_in (order_all es)) [] (z.free j i) refl; each = z.each }
    exp_fine a is round (builds_variants {es = es} {es' = es'} f l) = let q : es ≡ es' = cc in let z = all_fine a q round l in record { free = λ j i d. not_both j (loops_in (order_all es)) [] (z.free j i) refl; each = z.each }
    exp_fine a is round (units {m = m}) = nothing_there a.loops (order (tree.unit m)) (λ j d. refl)
    exp_fine a is round (lazies {e = e} {f = f} {e' = e'} {f' = f'} i j le l r) =
        let q : e ≡ e' = cc in
        let x : f ≡ f' = cc in
        let z = exp_fine a q round l in
        let y = exp_fine a x round r in
        let E = loops_in (order e (temporary_of e)) in
        let G = loops_in (order f (temporary_of f)) in
        record {
          free = λ j i d. not_both j E ((G ++ []) ++ []) (z.free j i (temporary_of e)) (not_both j (G ++ []) [] (not_both j G [] (y.free j i (temporary_of f)) refl) refl);
          each = each_both (spots a e) (spots a f) z.each y.each;
        }
    exp_fine a is round (assigns {e = e} {e' = e'} p l) = let q : e ≡ e' = cc in let z = exp_fine a q round l in record { free = λ j i d. not_both j (loops_in (order e (temporary_of e))) [] (z.free j i (temporary_of e)) refl; each = z.each }
    exp_fine a is round (updates {e = e} {e' = e'} p p' l) = let q : e ≡ e' = cc in let z = exp_fine a q round l in record { free = λ j i d. not_both j (loops_in (order e (temporary_of e))) [] (z.free j i (temporary_of e)) refl; each = z.each }
    exp_fine a is round (calls {es = es} {es' = es'} l) = let q : es ≡ es' = cc in let z = all_fine a q round l in record { free = λ j i d. not_both j (loops_in (order_all es)) [] (z.free j i) refl; each = z.each }
    exp_fine a is round (inputs {m = m}) = nothing_there a.loops (order (tree.input m)) (λ j d. refl)
    exp_fine a is round (prints {e = e} {e' = e'} l) = let q : e ≡ e' = cc in let z = exp_fine a q round l in record { free = λ j i d. not_both j (loops_in (order e (temporary_of e))) [] (z.free j i (temporary_of e)) refl; each = z.each }
    exp_fine a is round (blocks {m = m} {b = b} {b' = b'} l) = let q : b ≡ b' = cc in let z = body_fine a q round l in record { free = λ j i d. z.free j i m.node d; each = block_each a m.node b z }
    exp_fine a is round (chooses {c = s} {c' = s'} {l = l} {l' = l'} i j le m r) =
        let q : s ≡ s' = cc in
        let x : l ≡ l' = cc in
        let z = matched_fine a q round m in
        let y = arms_fine a (subject s) x round r in
        record { free = λ j i d. not_both j (loops_in (order_scrutinee s)) (loops_in (order_arms (subject s) l d)) (z.free j i) (y.free j i d); each = each_both (spots_matched a s) (spots_armed a l) z.each y.each }
    exp_fine {J = J} a is round (loops {l = l} {l' = l'} {e = e} {e' = e'} apart p q r) =
        let same : l ≡ l' = cc in
        let x : e ≡ e' = cc in
        let z = exp_fine (with_loop l a) x (ap (λ k. (l, k) ∷ J.loops) (sym same) ∙ ap (λ ls. (l, l) ∷ ls) round) r in
        record {
          free = λ j i d. not_here j l (loops_in (order e (temporary_of e))) (λ e. apart j (ap (λ ls. loop_of ls j) round ∙ found j a.loops i ∙ ap (λ k. Some k) (e ∙ same))) (z.free j (there i) (temporary_of e));
          each = z.each;
        }
    exp_fine a is round (stays {l = l} {m = m} {again = again} f) = record { free = λ j i d. refl; each = no_jump_block a m.node l again }
    exp_fine a is round (gives {m = m} {e = e} {e' = e'} f l) =
        let q : e ≡ e' = cc in
        let z = exp_fine a q round l in
        record { free = λ j i d. not_both j (loops_in (order e (temporary_of e))) [] (z.free j i (temporary_of e)) refl; each = each_both (spots a e) (a_return a m.node ∷ []) z.each (no_return_block a m.node) }

    all_fine : {k : ℕ} {J : Jumping} {R : Renaming} {es es' : Operands} (a : Around) → es ≡ es' → J.loops ≡ diagonal a.loops → LikeAll items no_openings gain V k J R es es' → FineParts a.loops (order_all es) (spots_in a es)
    all_fine a is round no_operands = record { free = λ j i. refl; each = no_block }
    all_fine a is round (operands_and {e = e} {e' = e'} {es = es} {es' = es'} i j le l ls) =
        let q : e ≡ e' = cc in
        let x : es ≡ es' = cc in
        let z = exp_fine a q round l in
        let y = all_fine a x round ls in
        record { free = λ j i. not_both j (loops_in (order e (temporary_of e))) (loops_in (order_all es)) (z.free j i (temporary_of e)) (y.free j i); each = each_both (spots a e) (spots_in a es) z.each y.each }

    matched_fine : {k : ℕ} {J : Jumping} {R : Renaming} {s s' : Scrutinee} (a : Around) → s ≡ s' → J.loops ≡ diagonal a.loops → LikeMatched items no_openings gain V k J R s s' → FineParts a.loops (order_scrutinee s) (spots_matched a s)
    matched_fine a is round at_places = record { free = λ j i. refl; each = no_block }
    matched_fine a is round (of_values {e = e} {e' = e'} l) = let q : e ≡ e' = cc in let z = exp_fine a q round l in record { free = λ j i. z.free j i (temporary_of e); each = z.each }

    arms_fine : {k : ℕ} {J : Jumping} {R : Renaming} {s s' : Scrutinee} {l l' : Arms} (a : Around) (S : Subject) → l ≡ l' → J.loops ≡ diagonal a.loops → LikeArms items no_openings gain V k J R s s' l l' → Fine a.loops (order_arms S l) (spots_armed a l)
    arms_fine a S is round no_arms = record { free = λ j i d. refl; each = no_block }
    arms_fine a S is round (arms_and {q = p} {e = e} {e' = e'} {l = l} {l' = l'} Ra lt lb le ls) =
        let q : e ≡ e' = cc in
        let x : l ≡ l' = cc in
        let z = exp_fine (with_variables (bound p) a) q round le in
        let y = arms_fine a S x round ls in
        record {
          free = λ j i d. not_both j (loops_in (testing S (tests [] p) (binding S (bindings [] p) (mark_of e).node (order e d)))) (loops_in (order_arms S l d))
              (testing_free j S (tests [] p) (binding S (bindings [] p) (mark_of e).node (order e d)) (binding_free j S (bindings [] p) (mark_of e).node (order e d) (z.free j i d))) (y.free j i d);
          each = each_both (spots (with_variables (bound p) a) e) (spots_armed a l) z.each y.each;
        }

    body_fine : {k : ℕ} {J : Jumping} {R : Renaming} {b b' : Body} (a : Around) → b ≡ b' → J.loops ≡ diagonal a.loops → LikeBody items no_openings gain V k J R b b' → FineBody a.loops b (spots_of a b)
    body_fine a is round (opens_in d i le o l) = absurd o
    body_fine a is round (ends_in {e = e} {e' = e'} l) = let q : e ≡ e' = cc in let z = exp_fine a q round l in record { free = λ j i n d. z.free j i d; behind = λ j i. (refl, z.free j i (temporary_of e)); each = z.each }
    body_fine a is round (runs_on {e = e} {e' = e'} {b = b} {b' = b'} i j le l lb) =
        let q : e ≡ e' = cc in
        let x : b ≡ b' = cc in
        let z = exp_fine a q round l in
        let y = body_fine a x round lb in
        record {
          free = λ j i n d. not_both j (loops_in (order e (temporary_of e))) (loops_in (order_body b n d)) (z.free j i (temporary_of e)) (y.free j i n d);
          behind = λ j i. (not_both j (loops_in (order e (temporary_of e))) (loops_of (statements b)) (z.free j i (temporary_of e)) (y.behind j i).0, (y.behind j i).1);
          each = each_both (spots a e) (spots_of a b) z.each y.each;
        }
    body_fine a is round (declares_all {s = s} {xs = xs} {b = b} {b' = b'} Ra ld lb) =
        let q : b ≡ b' = cc in
        let y = body_fine (with_variables xs a) q round lb in
        record { free = λ j i n d. declaring_free j s xs n (order_body b n d) (y.free j i n d); behind = λ j i. y.behind j i; each = y.each }
    body_fine a is round (lets_in {q = p} {c = s} {c' = s'} {b = b} {b' = b'} Ra i j le lc lp lb) =
        let q : s ≡ s' = cc in
        let x : b ≡ b' = cc in
        let z = matched_fine a q round lc in
        let y = body_fine (with_variables (bound p) a) x round lb in
        record {
          free = λ j i n d. not_both j (loops_in (order_scrutinee s)) (loops_in (binding (subject s) (bindings [] p) n (order_body b n d))) (z.free j i) (binding_free j (subject s) (bindings [] p) n (order_body b n d) (y.free j i n d));
          behind = λ j i. (not_both j (loops_in (order_scrutinee s)) (loops_of (statements b)) (z.free j i) (y.behind j i).0, (y.behind j i).1);
          each = each_both (spots_matched a s) (spots_of (with_variables (bound p) a) b) z.each y.each;
        }
    body_fine a is round (reads_place l) = absurd (no_place l refl is)
    body_fine a is round (looks_behind x seen behind l) = absurd (no_place l refl is)

-- ---- a function

pub each_block : {f : Function} → RelatedFunction (λ f. f) no_openings without_turns [] f f → EachBlock (spots_of_function f)
each_block {f} r = (exp_fine (λ f. f) without_turns (by_form []) (outermost f) refl refl r.body).each

-- ---- statements among others

left_part : (j : ℕ) (l m : List ℕ) → NotIn j (l ++ m) → NotIn j l
left_part j [] m q = refl
left_part j (x ∷ l) m q = by (j == x) q (λ r. left_part j l m r)
  where
    by : (b : Bool) → b || is_among j (l ++ m) ≡ false → (NotIn j (l ++ m) → NotIn j l) → b || is_among j l ≡ false
    by true r f = r
    by false r f = f r

right_part : (j : ℕ) (l m : List ℕ) → NotIn j (l ++ m) → NotIn j m
right_part j [] m q = q
right_part j (x ∷ l) m q = by (j == x) q (λ r. right_part j l m r)
  where
    by : (b : Bool) → b || is_among j (l ++ m) ≡ false → (NotIn j (l ++ m) → NotIn j m) → NotIn j m
    by true r f = absurd (true≢false r)
    by false r f = f r

dropped : (j n : ℕ) (ss : List Statement) → NotIn j (loops_of ss) → NotIn j (loops_of (drop n ss))
dropped j zero ss p = p
dropped j (suc n) [] p = p
dropped j (suc n) (block.does e ∷ ss) p = dropped j n ss (right_part j (loops_in (order e (temporary_of e))) (loops_of ss) p)
dropped j (suc n) (block.begins s xs ∷ ss) p = dropped j n ss p
dropped j (suc n) (block.binds s q c ∷ ss) p = dropped j n ss (right_part j (loops_in (order_scrutinee c)) (loops_of ss) p)

took : (j n : ℕ) (ss : List Statement) → NotIn j (loops_of ss) → NotIn j (loops_of (take n ss))
took j zero ss p = refl
took j (suc n) [] p = p
took j (suc n) (block.does e ∷ ss) p =
    not_both j (loops_in (order e (temporary_of e))) (loops_of (take n ss)) (left_part j (loops_in (order e (temporary_of e))) (loops_of ss) p) (took j n ss (right_part j (loops_in (order e (temporary_of e))) (loops_of ss) p))
took j (suc n) (block.begins s xs ∷ ss) p = took j n ss p
took j (suc n) (block.binds s q c ∷ ss) p =
    not_both j (loops_in (order_scrutinee c)) (loops_of (take n ss)) (left_part j (loops_in (order_scrutinee c)) (loops_of ss) p) (took j n ss (right_part j (loops_in (order_scrutinee c)) (loops_of ss) p))

-- no loop of the run has the number of a loop round it
pub run_apart : (f : Function) → RelatedFunction (λ f. f) no_openings without_turns [] f f → (r : Run) (h : Home) → Among (a_block h.around r.block h.body) (spots_of_function f) → (l : ℕ) → Among l h.around.loops → is_among l (loops_of (inside r h.body)) ≡ false
run_apart f self r h i l round = took l r.count (drop r.first (statements h.body)) (dropped l r.first (statements h.body) (each_block self h.around r.block h.body i l round).0)

-- nor has one of its tail
pub tail_apart : (f : Function) → RelatedFunction (λ f. f) no_openings without_turns [] f f → (r : Run) (h : Home) → Among (a_block h.around r.block h.body) (spots_of_function f) → (l : ℕ) → Among l h.around.loops
    → NotIn l (loops_of (inside r h.body) ++ loops_in (order (tail h.body) (temporary_of (tail h.body))))
tail_apart f self r h i l round =
    not_both l (loops_of (inside r h.body)) (loops_in (order (tail h.body) (temporary_of (tail h.body)))) (run_apart f self r h i l round) (each_block self h.around r.block h.body i l round).1

-- ---- exits

abbrev pub exit_loop : Exit → Option ℕ
exit_loop next = None
exit_loop (breaks l) = Some l
exit_loop (continues l) = Some l
exit_loop returns = None

among_either : {X : Type 0} {x : X} (l m : List X) → Among x (l ++ m) → Among x l ⊎ Among x m
among_either [] m i = inr i
among_either (y ∷ l) m here = inl here
among_either {x = x} (y ∷ l) m (there i) = by (among_either l m i)
  where
    by : Among x l ⊎ Among x m → Among x (y ∷ l) ⊎ Among x m
    by (inl k) = inl (there k)
    by (inr k) = inr k

where_it_is : (x : Exit) (js : List Jump) {e : Exit} → Among e (where_taken x js) → e ≡ x
where_it_is x js {e = e} i = by (is_taken x js) i
  where
    by : (b : Bool) → Among e (if b then x ∷ [] else []) → e ≡ x
    by true k = one_only k
    by false k = elim k [ ]

is_some : {l k : ℕ} → Some l ≡ Some k → l ≡ k
is_some e = cc

of_loop : (ls : List ℕ) (js : List Jump) (e : Exit) (l : ℕ) → exit_loop e ≡ Some l → Among e (of_loops ls js) → Among l ls
of_loop [] js e l q i = elim i [ ]
of_loop (k ∷ ls) js e l q i = by (λ z. of_loop ls js e l q z) (among_either (where_taken (breaks k) js) (where_taken (continues k) js ++ of_loops ls js) i)
  where
    here_it_is : (x : Exit) → e ≡ x → exit_loop x ≡ Some k → Among l (k ∷ ls)
    here_it_is x f g = subst (λ n. Among n (k ∷ ls)) (is_some (sym g ∙ ap exit_loop (sym f) ∙ q)) here

    last : (Among e (of_loops ls js) → Among l ls) → Among e (where_taken (continues k) js) ⊎ Among e (of_loops ls js) → Among l (k ∷ ls)
    last ih (inl z) = here_it_is (continues k) (where_it_is (continues k) js z) refl
    last ih (inr z) = there (ih z)

    by : (Among e (of_loops ls js) → Among l ls) → Among e (where_taken (breaks k) js) ⊎ Among e (where_taken (continues k) js ++ of_loops ls js) → Among l (k ∷ ls)
    by ih (inl z) = here_it_is (breaks k) (where_it_is (breaks k) js z) refl
    by ih (inr z) = last ih (among_either (where_taken (continues k) js) (of_loops ls js) z)

pub round_it : (r : Run) (h : Home) (e : Exit) (l : ℕ) → exit_loop e ≡ Some l → Among e (exits r h) → Among l h.around.loops
round_it r h e l q i = by (among_either (if run_diverges r h.body then [] else next ∷ []) (of_loops h.around.loops (jumps r h) ++ where_taken returns (jumps r h)) i)
  where
    first : (b : Bool) → Among e (if b then [] else next ∷ []) → e ≡ next
    first true k = elim k [ ]
    first false k = one_only k

    none_of : (x : Exit) → e ≡ x → exit_loop x ≡ None → Among l h.around.loops
    none_of x f g = absurd (clash (sym g ∙ ap exit_loop (sym f) ∙ q))
      where
        clash : None ≡ Some l → ⊥
        clash c = cc

    rest : Among e (of_loops h.around.loops (jumps r h)) ⊎ Among e (where_taken returns (jumps r h)) → Among l h.around.loops
    rest (inl z) = of_loop h.around.loops (jumps r h) e l q z
    rest (inr z) = none_of returns (where_it_is returns (jumps r h) z) refl

    by : Among e (if run_diverges r h.body then [] else next ∷ []) ⊎ Among e (of_loops h.around.loops (jumps r h) ++ where_taken returns (jumps r h)) → Among l h.around.loops
    by (inl z) = none_of next (first (run_diverges r h.body) z) refl
    by (inr z) = rest (among_either (of_loops h.around.loops (jumps r h)) (where_taken returns (jumps r h)) z)

-- ---- what is had, with this

pub record Held (A : Asked) (muts : List Bool) (k : Plan) : Type 0 where
  pub short : A.run.tail ≡ false
  pub plan : IsPlan A k
  pub accepted : Accepted A muts
  pub sits : Among (a_block A.home.around A.run.block A.home.body) (spots_of_function A.function)
  pub unmarked : HasNoMark (order_function A.function)
  pub one_block : blocks_at A.run.block (spots_of_function A.function) ≤ 1
  pub whole : (x : ℕ) → ¬ (PartlyMoved A k x)
  pub unaliased : (x : ℕ) → ¬ (Aliased A muts k x)
  pub passed : (x : ℕ) → ¬ (NotMut A muts k x)
  pub one_place : (e : Exit) → Among e k.exits → e ≢ returns → LeadsToOnePlace (running_of A k.params) (shown (leaves e))

pub held_of : (A : Asked) (muts : List Bool) (k : Plan) → Had A muts k → IsItself (Some (Some A.function)) → Held A muts k
held_of A muts k had (is_none n) = absurd n
held_of A muts k had (is_itself self) = record {
  short = had.short;
  plan = had.plan;
  accepted = had.accepted;
  sits = had.sits.block;
  unmarked = had.unmarked;
  one_block = had.one_block;
  whole = had.whole;
  unaliased = had.unaliased;
  passed = had.passed;
  one_place = one_place;
}
  where
    meets : (l : ℕ) (again : Bool) → Among l A.home.around.loops → LeadsToOnePlace (running_of A k.params) (shown (leaves (jump_exit l again)))
    meets l again i = jumps_meet A.run A.home k.params A.function l again had.unmarked had.one_block had.sits.block (run_apart A.function self A.run A.home had.sits.block l i)

    one_place : (e : Exit) → Among e k.exits → e ≢ returns → LeadsToOnePlace (running_of A k.params) (shown (leaves e))
    one_place next i n = sole_leads (running_of A k.params) (shown (leaves next)) (end_stands_once A.run A.home.around.loops k.params A.function had.unmarked had.one_block)
    one_place (breaks l) i n = meets l false (round_it A.run A.home (breaks l) l refl (subst (λ es. Among (breaks l) es) had.plan.exits i))
    one_place (continues l) i n = meets l true (round_it A.run A.home (continues l) l refl (subst (λ es. Among (continues l) es) had.plan.exits i))
    one_place returns i n = absurd (n refl)

-- ---- the same of a run with its block's tail

-- no statement is behind all of them
none_dropped : (j : ℕ) (ss : List Statement) → j ≡ length ss → has_some (drop j ss) ≡ false
none_dropped zero [] e = refl
none_dropped zero (s ∷ ss) e = absurd (omega (arith, e))
none_dropped (suc j) [] e = refl
none_dropped (suc j) (s ∷ ss) e = none_dropped j ss (omega (arith, e))

all_dropped : (i j : ℕ) (ss : List Statement) → i + j ≡ length ss → has_some (drop j (drop i ss)) ≡ false
all_dropped zero j ss e = none_dropped j ss (omega (arith, e))
all_dropped (suc i) zero [] e = refl
all_dropped (suc i) (suc j) [] e = refl
all_dropped (suc i) j (s ∷ ss) e = all_dropped i j ss (omega (arith, e))

also : (t c : Bool) → c ≡ false → t && c ≡ false
also true c e = e
also false c e = refl

pub record HeldTail (A : Asked) (muts : List Bool) (k : Plan) : Type 0 where
  pub tail : A.run.tail ≡ true
  pub plan : IsPlan A k
  pub accepted : Accepted A muts
  pub sits : Among (a_block A.home.around A.run.block A.home.body) (spots_of_function A.function)
  pub none_behind : A.run.tail && has_some (behind A.run A.home.body) ≡ false
  pub unmarked : HasNoMark (order_function A.function)
  pub one_block : blocks_at A.run.block (spots_of_function A.function) ≤ 1
  pub whole : (x : ℕ) → ¬ (PartlyMoved A k x)
  pub unaliased : (x : ℕ) → ¬ (Aliased A muts k x)
  pub passed : (x : ℕ) → ¬ (NotMut A muts k x)
  pub told_once : TellsOnce A k.params
  pub one_place : (e : Exit) → Among e k.exits → e ≢ returns → e ≢ next → LeadsToOnePlace (tailed_of A k.params) (shown (leaves e))

pub held_tail_of : (A : Asked) (muts : List Bool) (k : Plan) → HadTail A muts k → IsItself (Some (Some A.function)) → HeldTail A muts k
held_tail_of A muts k had (is_none n) = absurd n
held_tail_of A muts k had (is_itself self) = record {
  tail = had.tail;
  plan = had.plan;
  accepted = had.accepted;
  sits = had.sits.block;
  none_behind = also (A.run.tail) _ (all_dropped A.run.first A.run.count (statements A.home.body) (had.sits.whole had.tail));
  unmarked = had.unmarked;
  one_block = had.one_block;
  whole = had.whole;
  unaliased = had.unaliased;
  passed = had.passed;
  told_once = tells_once A k.params had.unmarked had.unpassed had.one_block;
  one_place = one_place;
}
  where
    meets : (l : ℕ) (again : Bool) → Among l A.home.around.loops → LeadsToOnePlace (tailed_of A k.params) (shown (leaves (jump_exit l again)))
    meets l again i = tail_jumps_meet A.run A.home k.params A.function l again had.unmarked had.one_block had.sits.block (tail_apart A.function self A.run A.home had.sits.block l i)

    one_place : (e : Exit) → Among e k.exits → e ≢ returns → e ≢ next → LeadsToOnePlace (tailed_of A k.params) (shown (leaves e))
    one_place next i n m = absurd (m refl)
    one_place (breaks l) i n m = meets l false (round_it A.run A.home (breaks l) l refl (subst (λ es. Among (breaks l) es) had.plan.exits i))
    one_place (continues l) i n m = meets l true (round_it A.run A.home (continues l) l refl (subst (λ es. Among (continues l) es) had.plan.exits i))
    one_place returns i n m = absurd (n refl)
