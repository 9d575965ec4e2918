-- The exits of a run and its jumps, in what stands in the run: an exit but its end is taken by a jump there, and each jump that leaves takes
-- its exit.
use Rattle.std.proofs.Common.{◌≡◌, ◌≢◌, ℕ, Bool, true, false, ◌||◌, ◌==◌, if◌then◌else◌, List, [], ◌∷◌, ◌++◌, refl, sym, ap, ◌∙◌, subst, ◌⊎◌, inl, inr, eqb-true, eq-eqb}
use Rattle.rx_lower_walks.specs.Walks.{Among, here, there}
use Rattle.rx_exits_plan.specs.Marked.{is_among}
use Rattle.rx_exits_plan.specs.Points.{Exit, next, breaks, continues, returns, same_exit, jump_exit}
use Rattle.rx_exits_plan.specs.Runs.{Home, Run, inside, last_value}
use Rattle.rx_exits_plan.specs.Spots as spots
use Rattle.rx_exits_plan.specs.Spots.{Spot}
use Rattle.rx_exits_plan.specs.Diverging.{run_diverges}
use Rattle.rx_exits_plan.specs.Exits.{at_end, at_start, exits, is_taken, Jump, jumps, leaving, of_loops, spots_in_statements, spots_in_value, where_taken}
use Rattle.rx_hoist_meant.proofs.Patterns.{among_left, among_right, among_split, none_among}

only : {A : Type 0} {e x : A} → Among e (x ∷ []) → e ≡ x
only here = refl
only (there i) = absurd (none_among i)

is_that : (e f : Exit) → same_exit e f ≡ true → e ≡ f
is_that next next h = refl
is_that next (breaks l) h = absurd (cc)
is_that next (continues l) h = absurd (cc)
is_that next returns h = absurd (cc)
is_that (breaks l) (breaks k) h = ap breaks (eqb-true l k h)
is_that (breaks l) next h = absurd (cc)
is_that (breaks l) (continues k) h = absurd (cc)
is_that (breaks l) returns h = absurd (cc)
is_that (continues l) (continues k) h = ap continues (eqb-true l k h)
is_that (continues l) next h = absurd (cc)
is_that (continues l) (breaks k) h = absurd (cc)
is_that (continues l) returns h = absurd (cc)
is_that returns returns h = refl
is_that returns next h = absurd (cc)
is_that returns (breaks l) h = absurd (cc)
is_that returns (continues l) h = absurd (cc)

same_as_it : (e : Exit) → same_exit e e ≡ true
same_as_it next = refl
same_as_it (breaks l) = eq-eqb l l refl
same_as_it (continues l) = eq-eqb l l refl
same_as_it returns = refl

-- ---- what is taken

where_is : (e x : Exit) (js : List Jump) → Among e (where_taken x js) → (e ≡ x) × (is_taken x js ≡ true)
where_is e x js h = by (is_taken x js) refl h
  where
    by : (b : Bool) → is_taken x js ≡ b → Among e (if b then x ∷ [] else []) → (e ≡ x) × (is_taken x js ≡ true)
    by true t h = (only h, t)
    by false t h = absurd (none_among h)

pub it_is_where : (x : Exit) (js : List Jump) → is_taken x js ≡ true → Among x (where_taken x js)
it_is_where x js h = subst (λ (b : Bool). Among x (if b then x ∷ [] else [])) (sym h) here

taker : (e : Exit) (js : List Jump) → is_taken e js ≡ true → (j : Jump) × Among j js × (e ≡ j.exit)
taker e [] h = absurd (cc)
taker e (j ∷ js) h = by (same_exit e j.exit) refl h (taker e js)
  where
    by : (b : Bool) → same_exit e j.exit ≡ b → (b || is_taken e js) ≡ true → (is_taken e js ≡ true → (j : Jump) × Among j js × (e ≡ j.exit)) → (i : Jump) × Among i (j ∷ js) × (e ≡ i.exit)
    by true s h later = (j, here, is_that e j.exit s)
    by false s h later = let x = later h in (x.0, there x.1, x.2)

pub it_is_taken : (j : Jump) (js : List Jump) → Among j js → is_taken j.exit js ≡ true
it_is_taken j [] i = absurd (none_among i)
it_is_taken j (k ∷ js) i = by i (it_is_taken j js)
  where
    or_second : (a b : Bool) → b ≡ true → (a || b) ≡ true
    or_second true b e = refl
    or_second false b e = e

    by : {m : Jump} → Among j (m ∷ js) → (Among j js → is_taken j.exit js ≡ true) → (same_exit j.exit m.exit || is_taken j.exit js) ≡ true
    by here later = ap (λ (b : Bool). b || is_taken j.exit js) (same_as_it j.exit)
    by {m} (there k) later = or_second (same_exit j.exit m.exit) (is_taken j.exit js) (later k)

-- a loop's exit is one of the loop
abbrev pub OfLoop : Exit → ℕ → Type 0
OfLoop e l = (e ≡ breaks l) ⊎ (e ≡ continues l)

of_loops_has : (e : Exit) (ls : List ℕ) (js : List Jump) → Among e (of_loops ls js) → (l : ℕ) × OfLoop e l × Among l ls × (is_taken e js ≡ true)
of_loops_has e [] js h = absurd (none_among h)
of_loops_has e (l ∷ ls) js h =
    among_split e (where_taken (breaks l) js) (where_taken (continues l) js ++ of_loops ls js) ((k : ℕ) × OfLoop e k × Among k (l ∷ ls) × (is_taken e js ≡ true)) h
    (λ i. let w = where_is e (breaks l) js i in (l, inl w.0, here, ap (λ (x : Exit). is_taken x js) w.0 ∙ w.1))
    (λ i. among_split e (where_taken (continues l) js) (of_loops ls js) ((k : ℕ) × OfLoop e k × Among k (l ∷ ls) × (is_taken e js ≡ true)) i
    (λ j. let w = where_is e (continues l) js j in (l, inr w.0, here, ap (λ (x : Exit). is_taken x js) w.0 ∙ w.1)) (λ j. let r = of_loops_has e ls js j in (r.0, r.1, there r.2, r.3)))

pub breaks_there : (l : ℕ) (ls : List ℕ) (js : List Jump) → Among l ls → is_taken (breaks l) js ≡ true → Among (breaks l) (of_loops ls js)
breaks_there l [] js i h = absurd (none_among i)
breaks_there l (k ∷ ls) js i h = by i (λ j. breaks_there l ls js j h)
  where
    by : {m : ℕ} → Among l (m ∷ ls) → (Among l ls → Among (breaks l) (of_loops ls js)) → Among (breaks l) (of_loops (m ∷ ls) js)
    by here on = among_left (where_taken (breaks l) js) (where_taken (continues l) js ++ of_loops ls js) (it_is_where (breaks l) js h)
    by {m} (there j) on = among_right (where_taken (breaks m) js) (where_taken (continues m) js ++ of_loops ls js) (among_right (where_taken (continues m) js) (of_loops ls js) (on j))

pub continues_there : (l : ℕ) (ls : List ℕ) (js : List Jump) → Among l ls → is_taken (continues l) js ≡ true → Among (continues l) (of_loops ls js)
continues_there l [] js i h = absurd (none_among i)
continues_there l (k ∷ ls) js i h = by i (λ j. continues_there l ls js j h)
  where
    by : {m : ℕ} → Among l (m ∷ ls) → (Among l ls → Among (continues l) (of_loops ls js)) → Among (continues l) (of_loops (m ∷ ls) js)
    by here on =
        among_right (where_taken (breaks l) js) (where_taken (continues l) js ++ of_loops ls js) (among_left (where_taken (continues l) js) (of_loops ls js) (it_is_where (continues l) js h))
    by {m} (there j) on = among_right (where_taken (breaks m) js) (where_taken (continues m) js ++ of_loops ls js) (among_right (where_taken (continues m) js) (of_loops ls js) (on j))

-- ---- jumps among what stands there

has_loop : (l : ℕ) (ls : List ℕ) → is_among l ls ≡ true → Among l ls
has_loop l [] h = absurd (cc)
has_loop l (k ∷ ls) h = by (l == k) refl h (has_loop l ls)
  where
    by : (b : Bool) → (l == k) ≡ b → (b || is_among l ls) ≡ true → (is_among l ls ≡ true → Among l ls) → Among l (k ∷ ls)
    by true e h on = subst (λ (n : ℕ). Among n (k ∷ ls)) (sym (eqb-true l k e)) here
    by false e h on = there (on h)

loop_is_there : (l : ℕ) (ls : List ℕ) → Among l ls → is_among l ls ≡ true
loop_is_there l [] i = absurd (none_among i)
loop_is_there l (k ∷ ls) i = by i (loop_is_there l ls)
  where
    or_second : (a b : Bool) → b ≡ true → (a || b) ≡ true
    or_second true b e = refl
    or_second false b e = e

    by : {m : ℕ} → Among l (m ∷ ls) → (Among l ls → is_among l ls ≡ true) → ((l == m) || is_among l ls) ≡ true
    by here on = ap (λ (b : Bool). b || is_among l ls) (eq-eqb l l refl)
    by {m} (there j) on = or_second (l == m) (is_among l ls) (on j)

-- where a jump comes from
pub data Comes (ss : List Spot) : Jump → Type 0 where
  of_jump : {a : spots.Around} {n l : ℕ} {again : Bool} → Among (spots.a_jump a n l again) ss → Comes ss (record { exit = jump_exit l again; node = n; scope = a.scope })
  of_return : {a : spots.Around} {n : ℕ} → Among (spots.a_return a n) ss → Comes ss (record { exit = returns; node = n; scope = a.scope })

comes_on : {ss : List Spot} {s : Spot} {j : Jump} → Comes ss j → Comes (s ∷ ss) j
comes_on (of_jump {a = a} {n = n} {l = l} {again = again} i) = of_jump {a = a} {n = n} {l = l} {again = again} (there i)
comes_on (of_return {a = a} {n = n} i) = of_return {a = a} {n = n} (there i)

pub jump_comes : (ls : List ℕ) (ss : List Spot) (j : Jump) → Among j (leaving ls ss) → Comes ss j
jump_comes ls [] j i = absurd (none_among i)
jump_comes ls (spots.a_block a n b ∷ ss) j i = comes_on (jump_comes ls ss j i)
jump_comes ls (spots.a_jump a n l again ∷ ss) j i = by (is_among l ls) i (jump_comes ls ss j)
  where
    at : {k : Jump} → Among k (record { exit = jump_exit l again; node = n; scope = a.scope } ∷ leaving ls ss) → (Among k (leaving ls ss) → Comes ss k) → Comes (spots.a_jump a n l again ∷ ss) k
    at here on = of_jump {a = a} {n = n} {l = l} {again = again} here
    at (there j) on = comes_on (on j)

    by : (b : Bool) → Among j (if b then record { exit = jump_exit l again; node = n; scope = a.scope } ∷ leaving ls ss else leaving ls ss) → (Among j (leaving ls ss) → Comes ss j) → Comes (spots.a_jump a n l again ∷ ss) j
    by true i on = at i on
    by false i on = comes_on (on i)
jump_comes ls (spots.a_return a n ∷ ss) j i = at i (jump_comes ls ss j)
  where
    at : {k : Jump} → Among k (record { exit = returns; node = n; scope = a.scope } ∷ leaving ls ss) → (Among k (leaving ls ss) → Comes ss k) → Comes (spots.a_return a n ∷ ss) k
    at here on = of_return {a = a} {n = n} here
    at (there j) on = comes_on (on j)

pub jump_leaves : (ls : List ℕ) (ss : List Spot) (a : spots.Around) (n l : ℕ) (again : Bool) → Among (spots.a_jump a n l again) ss → Among l ls → Among (record { exit = jump_exit l again; node = n; scope = a.scope }) (leaving ls ss)
jump_leaves ls [] a n l again i k = absurd (none_among i)
jump_leaves ls (spots.a_block c m b ∷ ss) a n l again (there i) k = jump_leaves ls ss a n l again i k
jump_leaves ls (spots.a_return c m ∷ ss) a n l again (there i) k = there (jump_leaves ls ss a n l again i k)
jump_leaves ls (spots.a_jump c m r further ∷ ss) a n l again i k = at i (λ j. jump_leaves ls ss a n l again j k)
  where
    behind : (e : Jump) {j : Jump} (b : Bool) → Among j (leaving ls ss) → Among j (if b then e ∷ leaving ls ss else leaving ls ss)
    behind e true j = there j
    behind e false j = j

    at : {d : spots.Around} {h g : ℕ} {f : Bool} → Among (spots.a_jump a n l again) (spots.a_jump d h g f ∷ ss) → (Among (spots.a_jump a n l again) ss → Among (record { exit = jump_exit l again; node = n; scope = a.scope }) (leaving ls ss))
        → Among (record { exit = jump_exit l again; node = n; scope = a.scope }) (if is_among g ls then record { exit = jump_exit g f; node = h; scope = d.scope } ∷ leaving ls ss else leaving ls ss)
    at here on =
        subst (λ (b : Bool). Among (record { exit = jump_exit l again; node = n; scope = a.scope }) (if b then record { exit = jump_exit l again; node = n; scope = a.scope } ∷ leaving ls ss else leaving ls ss)) (sym (loop_is_there l ls k)) here
    at {d} {h} {g} {f} (there j) on = behind (record { exit = jump_exit g f; node = h; scope = d.scope }) (is_among g ls) (on j)

pub return_leaves : (ls : List ℕ) (ss : List Spot) (a : spots.Around) (n : ℕ) → Among (spots.a_return a n) ss → Among (record { exit = returns; node = n; scope = a.scope }) (leaving ls ss)
return_leaves ls [] a n i = absurd (none_among i)
return_leaves ls (spots.a_block c m b ∷ ss) a n (there i) = return_leaves ls ss a n i
return_leaves ls (spots.a_jump c m r further ∷ ss) a n (there i) = by (record { exit = jump_exit r further; node = m; scope = c.scope }) (is_among r ls) (return_leaves ls ss a n i)
  where
    by : (e : Jump) {j : Jump} (b : Bool) → Among j (leaving ls ss) → Among j (if b then e ∷ leaving ls ss else leaving ls ss)
    by e true j = there j
    by e false j = j
return_leaves ls (spots.a_return c m ∷ ss) a n i = at i (return_leaves ls ss a n)
  where
    at : {d : spots.Around} {h : ℕ} → Among (spots.a_return a n) (spots.a_return d h ∷ ss) → (Among (spots.a_return a n) ss → Among (record { exit = returns; node = n; scope = a.scope }) (leaving ls ss))
        → Among (record { exit = returns; node = n; scope = a.scope }) (record { exit = returns; node = h; scope = d.scope } ∷ leaving ls ss)
    at here on = here
    at (there j) on = there (on j)

-- ---- of a run

module _ (r : Run) (h : Home) where
  abbrev pub run_spots : List Spot
  run_spots = spots_in_statements (at_start r h) (inside r h.body) ++ spots_in_value (at_end r h) (last_value r h.body)

  -- the jump of an exit but the end
  pub exit_jump : (e : Exit) → Among e (exits r h) → e ≢ next → (j : Jump) × Among j (jumps r h) × (e ≡ j.exit)
  exit_jump e i d = by (run_diverges r h.body) i
    where
      of_others : Among e (of_loops h.around.loops (jumps r h) ++ where_taken returns (jumps r h)) → (j : Jump) × Among j (jumps r h) × (e ≡ j.exit)
      of_others k =
          among_split e (of_loops h.around.loops (jumps r h)) (where_taken returns (jumps r h)) ((j : Jump) × Among j (jumps r h) × (e ≡ j.exit)) k
          (λ m. taker e (jumps r h) (of_loops_has e h.around.loops (jumps r h) m).3) (λ m. let w = where_is e returns (jumps r h) m in taker e (jumps r h) (ap (λ (x : Exit). is_taken x (jumps r h)) w.0 ∙ w.1))

      by : (b : Bool) → Among e ((if b then [] else next ∷ []) ++ (of_loops h.around.loops (jumps r h) ++ where_taken returns (jumps r h))) → (j : Jump) × Among j (jumps r h) × (e ≡ j.exit)
      by true k = of_others k
      by false k = among_split e (next ∷ []) (of_loops h.around.loops (jumps r h) ++ where_taken returns (jumps r h)) ((j : Jump) × Among j (jumps r h) × (e ≡ j.exit)) k (λ m. absurd (d (only m))) of_others

  -- its loop is round the run
  pub exit_loop : (e : Exit) (l : ℕ) → OfLoop e l → Among e (exits r h) → Among l h.around.loops
  exit_loop e l o i = by (run_diverges r h.body) i
    where
      one : (k : ℕ) → OfLoop e k → k ≡ l
      one k (inl p) = with_break o
        where
          with_break : OfLoop e l → k ≡ l
          with_break (inl q) = cc
          with_break (inr q) = absurd (cc)
      one k (inr p) = with_continue o
        where
          with_continue : OfLoop e l → k ≡ l
          with_continue (inl q) = absurd (cc)
          with_continue (inr q) = cc

      not_return : OfLoop e l → e ≡ returns → ⊥
      not_return (inl q) p = cc
      not_return (inr q) p = cc

      not_next : OfLoop e l → e ≡ next → ⊥
      not_next (inl q) p = cc
      not_next (inr q) p = cc

      of_others : Among e (of_loops h.around.loops (jumps r h) ++ where_taken returns (jumps r h)) → Among l h.around.loops
      of_others k =
          among_split e (of_loops h.around.loops (jumps r h)) (where_taken returns (jumps r h)) (Among l h.around.loops) k
          (λ m. let w = of_loops_has e h.around.loops (jumps r h) m in subst (λ (x : ℕ). Among x h.around.loops) (one w.0 w.1) w.2) (λ m. absurd (not_return o (where_is e returns (jumps r h) m).0))

      by : (b : Bool) → Among e ((if b then [] else next ∷ []) ++ (of_loops h.around.loops (jumps r h) ++ where_taken returns (jumps r h))) → Among l h.around.loops
      by true k = of_others k
      by false k = among_split e (next ∷ []) (of_loops h.around.loops (jumps r h) ++ where_taken returns (jumps r h)) (Among l h.around.loops) k (λ m. absurd (not_next o (only m))) of_others
