-- A function that is the text's but for the block of its run: with the marks of the run it is related to the answer's, if the block is met; if
-- it is not, the answer's is the text's by other numbers.
use Rattle.std.proofs.Common.{◌≡◌, ◌⊎◌, inl, inr, ℕ, zero, suc, ◌+◌, ◌≤◌, ◌==◌, Bool, true, false, if◌then◌else◌, List, [], ◌∷◌, ◌++◌, refl, sym, ap, ◌∙◌, subst, arith, true≢false}
use Rattle.rx_typed.specs.Tree as tree
use Rattle.rx_typed.specs.Tree.{Mark, Exp, Operands, Scrutinee, Arms, Body, Function, mark_of, fields_of, temporary_at}
use Rattle.rx_lower_walks.specs.Matching.{tests, bindings}
use Rattle.rx_lower_walks.specs.Actions.{in_temporary, subject}
use Rattle.rx_exits_plan.specs.Blocks.{bound}
use Rattle.rx_exits_plan.specs.Spots.{Around, Spot, a_block, a_jump, a_return, with_variables, with_loop, spots, spots_in, spots_matched, spots_armed, spots_of, outermost, spots_of_function}
use Rattle.rx_exits_plan.specs.Changed.{Changes, changed, changed_all, changed_matched, changed_arms, changed_body, changed_function}
use Rattle.rx_engine_simulation.specs.Fits.{Complete, Fitting}
use Rattle.rx_engine_simulation.specs.Turns.{Allowance}
use Rattle.rx_engine_simulation.specs.Sights.{Renaming}
use Rattle.rx_engine_simulation.specs.Binders.{LikeBindings, LikeTests}
use Rattle.rx_engine_simulation.specs.Jumps.{Jumping}
use Rattle.rx_engine_simulation.specs.Openings.{Openings, no_openings}
use Rattle.rx_engine_simulation.specs.Like.{LikeExp, opens, LikeAll, LikeMatched, LikeArms, LikeBody, opens_in, reads, borrows, views, shares, builds, builds_structs, builds_variants, units, lazies, assigns, updates, calls, inputs, prints, blocks, chooses, loops, stays, gives, no_operands, operands_and, at_places, of_values, no_arms, arms_and, ends_in, runs_on, declares_all, lets_in, reads_place, looks_behind}
use Rattle.rx_engine_simulation.specs.Programs.{whole_jumps}
use Rattle.rx_engine_related.specs.OneSite.{blocks_at}
use Rattle.rx_engine_related.specs.ByForm.{by_form, RelatedFunction}
use Rattle.rx_engine_related.proofs.Weaker.{Opens, weaker_body}
use Rattle.rx_engine_related.proofs.Freed.{freed, seen_free, place_free, declared_free, params_free, bindings_free, tests_free}

-- ---- how many blocks have the run's node

blocks_both : (n : ℕ) (l m : List Spot) → blocks_at n (l ++ m) ≡ blocks_at n l + blocks_at n m
blocks_both n [] m = omega arith
blocks_both n (a_block a k b ∷ l) m = by (k == n) (blocks_both n l m)
  where
    by : (t : Bool) → blocks_at n (l ++ m) ≡ blocks_at n l + blocks_at n m → (if t then suc (blocks_at n (l ++ m)) else blocks_at n (l ++ m)) ≡ (if t then suc (blocks_at n l) else blocks_at n l) + blocks_at n m
    by true h = omega (arith, h)
    by false h = h
blocks_both n (a_jump a k j again ∷ l) m = blocks_both n l m
blocks_both n (a_return a k ∷ l) m = blocks_both n l m

-- ---- with one such block there is the one or the other, without one both

record Outcome (X Y : Type 0) (c : ℕ) : Type 0 where
  pub some : c ≤ 1 → X ⊎ Y
  pub none : c ≡ 0 → X × Y

module _ {X Y : Type 0} where
  neither : X → Y → Outcome X Y 0
  neither x y = record { some = λ le. inl x; none = λ e. (x, y) }

  recount : {c d : ℕ} → d ≡ c → Outcome X Y c → Outcome X Y d
  recount e o = subst (λ n. Outcome X Y n) (sym e) o

mapped : {X Y X1 Y1 : Type 0} {c : ℕ} → Outcome X1 Y1 c → (X1 → X) → (Y1 → Y) → Outcome X Y c
mapped {X} {Y} {X1} {Y1} o f g = record { some = λ le. by (o.some le); none = λ e. (f (o.none e).0, g (o.none e).1) }
  where
    by : X1 ⊎ Y1 → X ⊎ Y
    by (inl x) = inl (f x)
    by (inr y) = inr (g y)

either_none : (c d : ℕ) → c + d ≤ 1 → (c ≡ 0) ⊎ (d ≡ 0)
either_none zero d le = inl refl
either_none (suc c) zero le = inr refl
either_none (suc c) (suc d) le = absurd (omega (arith, le))

joined : {X Y X1 Y1 X2 Y2 : Type 0} {c d : ℕ} → Outcome X1 Y1 c → Outcome X2 Y2 d → (X1 → X2 → X) → (Y1 → Y2 → Y) → Outcome X Y (c + d)
joined {X} {Y} {X1} {Y1} {X2} {Y2} {c} {d} o p f g = record { some = λ le. by le (either_none c d le); none = λ e. let x = o.none (omega (arith, e)) in let y = p.none (omega (arith, e)) in (f x.0 y.0, g x.1 y.1) }
  where
    second : X1 × Y1 → X2 ⊎ Y2 → X ⊎ Y
    second x (inl y) = inl (f x.0 y)
    second x (inr y) = inr (g x.1 y)

    first : X1 ⊎ Y1 → X2 × Y2 → X ⊎ Y
    first (inl x) y = inl (f x y.0)
    first (inr x) y = inr (g x y.1)

    by : c + d ≤ 1 → (c ≡ 0) ⊎ (d ≡ 0) → X ⊎ Y
    by le (inl e) = second (o.none e) (p.some (omega (arith, le)))
    by le (inr e) = first (o.some (omega (arith, le))) (p.none e)

-- ---- form by form

-- the block at this node, with this in place of its statements
pub data AnInside (n : ℕ) (text : Body → Body) (most : List ℕ) (items : ℕ → ℕ) (O : Openings) (gain : Allowance) : ℕ → Jumping → Renaming → (Exp → Exp) → (Exp → Exp) → Type 0 where
  an_inside : {a : ℕ} {J : Jumping} {R : Renaming} {m m' : Mark} {b b' : Body} → (m.node == n) ≡ true → LikeBody items O gain (by_form most) a J R (text b) b' → AnInside n text most items O gain a J R (λ e. tree.block m b) (λ e. tree.block m' b')

abbrev pub inside_openings : ℕ → (Body → Body) → List ℕ → (ℕ → ℕ) → Openings → Allowance → Openings
inside_openings n text most items O gain = record { expression = λ V a J R e f g. AnInside n text most items O gain a J R f g; statements = λ V a J R S b f g. ⊥ }

abbrev pub in_block : ℕ → (Body → Body) → Changes
in_block n text = record { at_block = λ m was b. if m == n then text was else b; at_jump = λ m l again. tree.jump m l again; at_return = λ e. e }

module _ (n : ℕ) (text : Body → Body) (most : List ℕ) (items : ℕ → ℕ) (O : Openings) (gain : Allowance) (same : Opens O O (by_form most) (by_form most) (λ J. Unit {0})) where
  abbrev C : Changes
  C = in_block n text

  abbrev Within : Openings
  Within = inside_openings n text most items O gain

  mark_kept : (e : Exp) → mark_of (changed C e) ≡ mark_of e
  mark_kept (tree.read m v p) = refl
  mark_kept (tree.borrow m b p) = refl
  mark_kept (tree.share m e) = refl
  mark_kept (tree.build m w es) = refl
  mark_kept (tree.unit m) = refl
  mark_kept (tree.lazily m b e f) = refl
  mark_kept (tree.assign m p e) = refl
  mark_kept (tree.update m o p e) = refl
  mark_kept (tree.call m f es) = refl
  mark_kept (tree.input m) = refl
  mark_kept (tree.print m e) = refl
  mark_kept (tree.block m b) = refl
  mark_kept (tree.choose m s l) = refl
  mark_kept (tree.loop m l e) = refl
  mark_kept (tree.jump m l again) = refl
  mark_kept (tree.give m e) = refl

  subject_kept : (c : Scrutinee) → subject (changed_matched C c) ≡ subject c
  subject_kept (tree.at_place m p) = refl
  subject_kept (tree.of_value e) = ap (λ (w : Mark). in_temporary (temporary_at w.node 0)) (mark_kept e)

  fields_kept : (es : Operands) → fields_of (changed_all C es) ≡ fields_of es
  fields_kept tree.no_operand = refl
  fields_kept (tree.operand_and i e es) = ap (λ l. i ∷ l) (fields_kept es)

  abbrev ExpOut : ℕ → Jumping → Renaming → Exp → Exp → ℕ → Type 0
  ExpOut c J R e e' q = Outcome (LikeExp items O gain (by_form most) c J R (changed C e) e') (LikeExp items no_openings gain (by_form []) c J (freed R) e e') q

  abbrev AllOut : ℕ → Jumping → Renaming → Operands → Operands → ℕ → Type 0
  AllOut c J R es es' q = Outcome (LikeAll items O gain (by_form most) c J R (changed_all C es) es') (LikeAll items no_openings gain (by_form []) c J (freed R) es es') q

  abbrev MatchedOut : ℕ → Jumping → Renaming → Scrutinee → Scrutinee → ℕ → Type 0
  MatchedOut c J R s s' q = Outcome (LikeMatched items O gain (by_form most) c J R (changed_matched C s) s') (LikeMatched items no_openings gain (by_form []) c J (freed R) s s') q

  abbrev ArmsOut : ℕ → Jumping → Renaming → Scrutinee → Scrutinee → Arms → Arms → ℕ → Type 0
  ArmsOut c J R s s' l l' q = Outcome (LikeArms items O gain (by_form most) c J R (changed_matched C s) s' (changed_arms C l) l') (LikeArms items no_openings gain (by_form []) c J (freed R) s s' l l') q

  abbrev BodyOut : ℕ → Jumping → Renaming → Body → Body → ℕ → Type 0
  BodyOut c J R b b' q = Outcome (LikeBody items O gain (by_form most) c J R (changed_body C b) b') (LikeBody items no_openings gain (by_form []) c J (freed R) b b') q

  -- a block: that of the run, or another
  met : {c d : ℕ} {J : Jumping} {R : Renaming} {m m' : Mark} {b b' : Body} (q : ℕ) → d ≤ c → (m.node == n) ≡ true → LikeBody items O gain (by_form most) d J R (text b) b'
      → ExpOut c J R (tree.block m b) (tree.block m' b') (if m.node == n then suc q else q)
  met {c} {J = J} {R = R} {m = m} {m' = m'} {b = b} {b' = b'} q le is l = by (m.node == n) is
    where
      by : (t : Bool) → t ≡ true → Outcome (LikeExp items O gain (by_form most) c J R (tree.block m (if t then text b else changed_body C b)) (tree.block m' b'))
          (LikeExp items no_openings gain (by_form []) c J (freed R) (tree.block m b) (tree.block m' b')) (if t then suc q else q)
      by true e = record { some = λ one. inl (blocks (weaker_body items O O gain gain (omega arith) (by_form most) (by_form most) (λ J. Unit {0}) same le tt l)); none = λ e. absurd (omega (arith, e)) }
      by false e = absurd (true≢false (sym e))

  plainly : {c : ℕ} {J : Jumping} {R : Renaming} {m m' : Mark} {b b' : Body} (q : ℕ) → BodyOut c J R b b' q → ExpOut c J R (tree.block m b) (tree.block m' b') (if m.node == n then suc q else q)
  plainly {c} {J} {R} {m} {m'} {b} {b'} q o = by (m.node == n)
    where
      by : (t : Bool) → Outcome (LikeExp items O gain (by_form most) c J R (tree.block m (if t then text b else changed_body C b)) (tree.block m' b'))
          (LikeExp items no_openings gain (by_form []) c J (freed R) (tree.block m b) (tree.block m' b')) (if t then suc q else q)
      by true = record { some = λ one. inr (blocks (o.none (omega (arith, one))).1); none = λ e. absurd (omega (arith, e)) }
      by false = mapped o (λ l. blocks l) (λ l. blocks l)

  mutual
    exp_out : {c : ℕ} {J : Jumping} {R : Renaming} {e e' : Exp} (a : Around) → LikeExp items Within gain (by_form most) c J R e e' → ExpOut c J R e e' (blocks_at n (spots a e))
    exp_out a (opens d i le (an_inside {b = b} is l) r) = met (blocks_at n (spots_of a b)) (omega (arith, le)) is l
    exp_out a (reads p) = neither (reads p) (reads (place_free p))
    exp_out a (borrows p) = neither (borrows p) (borrows (place_free p))
    exp_out {R = R} a (views {x = x} seen) = neither (views seen) (views (seen_free R x seen))
    exp_out a (shares l) = mapped (exp_out a l) (λ l. shares l) (λ l. shares l)
    exp_out a (builds {w = w} {es = es} f l) = mapped (all_out a l) (λ l. builds (subst (λ fs. Fitting w fs) (sym (fields_kept es)) f) l) (λ l. builds f l)
    exp_out a (builds_structs {es = es} f l) = mapped (all_out a l) (λ l. builds_structs (subst (λ fs. Complete fs) (sym (fields_kept es)) f) l) (λ l. builds_structs f l)
    exp_out a (builds_variants {es = es} f l) = mapped (all_out a l) (λ l. builds_variants (subst (λ fs. Complete fs) (sym (fields_kept es)) f) l) (λ l. builds_variants f l)
    exp_out a units = neither units units
    exp_out a (lazies {e = e} {f = f} i j le l r) = recount (blocks_both n (spots a e) (spots a f)) (joined (exp_out a l) (exp_out a r) (λ l r. lazies i j le l r) (λ l r. lazies i j le l r))
    exp_out a (assigns p l) = mapped (exp_out a l) (λ l. assigns p l) (λ l. assigns (place_free p) l)
    exp_out a (updates p q l) = mapped (exp_out a l) (λ l. updates p q l) (λ l. updates (place_free p) (place_free q) l)
    exp_out a (calls l) = mapped (all_out a l) (λ l. calls l) (λ l. calls l)
    exp_out a inputs = neither inputs inputs
    exp_out a (prints l) = mapped (exp_out a l) (λ l. prints l) (λ l. prints l)
    exp_out a (blocks {b = b} l) = plainly (blocks_at n (spots_of a b)) (body_out a l)
    exp_out a (chooses {c = s} {l = l} i j le m r) = recount (blocks_both n (spots_matched a s) (spots_armed a l)) (joined (matched_out a m) (arms_out a r) (λ l r. chooses i j le l r) (λ l r. chooses i j le l r))
    exp_out a (loops {l = l} apart p q e) = mapped (exp_out (with_loop l a) e) (λ e. loops apart p q e) (λ e. loops apart p q e)
    exp_out a (stays f) = neither (stays f) (stays f)
    exp_out a (gives {m = m} {e = e} f l) =
        recount (blocks_both n (spots a e) (a_return a m.node ∷ []) ∙ omega arith) (mapped (exp_out a l) (λ l. gives f l) (λ l. gives f l))

    all_out : {c : ℕ} {J : Jumping} {R : Renaming} {es es' : Operands} (a : Around) → LikeAll items Within gain (by_form most) c J R es es' → AllOut c J R es es' (blocks_at n (spots_in a es))
    all_out a no_operands = neither no_operands no_operands
    all_out a (operands_and {e = e} {es = es} i j le l ls) = recount (blocks_both n (spots a e) (spots_in a es)) (joined (exp_out a l) (all_out a ls) (λ l r. operands_and i j le l r) (λ l r. operands_and i j le l r))

    matched_out : {c : ℕ} {J : Jumping} {R : Renaming} {s s' : Scrutinee} (a : Around) → LikeMatched items Within gain (by_form most) c J R s s' → MatchedOut c J R s s' (blocks_at n (spots_matched a s))
    matched_out a at_places = neither at_places at_places
    matched_out a (of_values l) = mapped (exp_out a l) (λ l. of_values l) (λ l. of_values l)

    arms_out : {c : ℕ} {J : Jumping} {R : Renaming} {s s' : Scrutinee} {l l' : Arms} (a : Around) → LikeArms items Within gain (by_form most) c J R s s' l l' → ArmsOut c J R s s' l l' (blocks_at n (spots_armed a l))
    arms_out a no_arms = neither no_arms no_arms
    arms_out {R = R} {s = s} {s' = s'} a (arms_and {q = q} {q' = q'} {e = e} {l = l} Ra lt lb le ls) =
        recount (blocks_both n (spots (with_variables (bound q) a) e) (spots_armed a l)) (joined (exp_out (with_variables (bound q) a) le) (arms_out a ls)
        (λ x y. arms_and Ra (subst (λ S. LikeTests R S (subject s') (tests [] q) (tests [] q')) (sym (subject_kept s)) lt) (subst (λ S. LikeBindings (by_form most) S (subject s') R (bindings [] q) (bindings [] q') Ra) (sym (subject_kept s)) lb) x y)
        (λ x y. arms_and (freed Ra) (tests_free lt) (bindings_free (by_form most) lb) x y))

    body_out : {c : ℕ} {J : Jumping} {R : Renaming} {b b' : Body} (a : Around) → LikeBody items Within gain (by_form most) c J R b b' → BodyOut c J R b b' (blocks_at n (spots_of a b))
    body_out a (opens_in d i le o r) = absurd o
    body_out a (ends_in l) = mapped (exp_out a l) (λ l. ends_in l) (λ l. ends_in l)
    body_out a (runs_on {e = e} {b = b} i j le l lb) = recount (blocks_both n (spots a e) (spots_of a b)) (joined (exp_out a l) (body_out a lb) (λ l r. runs_on i j le l r) (λ l r. runs_on i j le l r))
    body_out a (declares_all {xs = xs} Ra ld lb) = mapped (body_out (with_variables xs a) lb) (λ l. declares_all Ra ld l) (λ l. declares_all (freed Ra) (declared_free (by_form most) ld) l)
    body_out {R = R} a (lets_in {q = q} {q' = q'} {c = s} {c' = s'} {b = b} Ra i j le lc lp lb) =
        recount (blocks_both n (spots_matched a s) (spots_of (with_variables (bound q) a) b)) (joined (matched_out a lc) (body_out (with_variables (bound q) a) lb)
        (λ x y. lets_in Ra i j le x (subst (λ S. LikeBindings (by_form most) S (subject s') R (bindings [] q) (bindings [] q') Ra) (sym (subject_kept s)) lp) y)
        (λ x y. lets_in (freed Ra) i j le x (bindings_free (by_form most) lp) y))
    body_out a (reads_place l) = mapped (body_out a l) (λ l. reads_place l) (λ l. reads_place l)
    body_out {R = R} a (looks_behind x seen behind l) = mapped (body_out a l) (λ l. looks_behind x seen behind l) (λ l. looks_behind x (seen_free R x seen) behind l)

  -- a whole function
  pub inside_or_plain : (g g' : Function) → blocks_at n (spots_of_function g) ≤ 1 → RelatedFunction items Within gain most g g'
      → RelatedFunction items O gain most (changed_function C g) g' ⊎ RelatedFunction items no_openings gain [] g g'
  inside_or_plain g g' one r = by ((exp_out (outermost g) r.body).some one)
    where
      by : LikeExp items O gain (by_form most) gain.turns whole_jumps r.inside (changed C g.body) g'.body ⊎ LikeExp items no_openings gain (by_form []) gain.turns whole_jumps (freed r.inside) g.body g'.body
          → RelatedFunction items O gain most (changed_function C g) g' ⊎ RelatedFunction items no_openings gain [] g g'
      by (inl l) = inl (record { inside = r.inside; params = r.params; body = l })
      by (inr l) = inr (record { inside = freed r.inside; params = params_free (by_form most) r.params; body = l })
