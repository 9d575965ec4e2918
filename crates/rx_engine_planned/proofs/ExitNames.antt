-- The exits of a plan have names of their own, where each loop round the run stands there once: by induction on the loops.
use Rattle.std.proofs.Common.{◌≡◌, ◌≢◌, ℕ, zero, suc, ◌+◌, ◌≤◌, ◌<◌, ◌^◌, arith, Bool, true, false, ◌||◌, if◌then◌else◌, List, [], ◌∷◌, ◌++◌, length, map, get_or, codes, refl, sym, ap, ◌∙◌, subst, eq-eqb}
use Rattle.std.specs.Prelude.{◌==◌}
use Rattle.std.specs.Fmt.{decimal}
use Rattle.std.specs.Str.{bytes_eq}
use Rattle.std.proofs.lemmas.Fmt.{decimal_injective}
use Rattle.std.proofs.lemmas.List.{append_cancel_left}
use Rattle.rx_tree.specs.Lists.{Every}
use Rattle.rx_tree.proofs.NodesLaws.{every_both}
use Rattle.rx_typeck_typed.specs.declared.typed.TypedFn.{TypedFn}
use Rattle.rx_exits_plan.specs.Points as points
use Rattle.rx_exits_plan.specs.Points.{next, breaks, continues, returns}
use Rattle.rx_exits_plan.specs.Runs.{Home, Run}
use Rattle.rx_exits_plan.specs.Asked.{Asked}
use Rattle.rx_exits_plan.specs.Diverging.{run_diverges}
use Rattle.rx_exits_plan.specs.Exits.{exits, is_taken, jumps, of_loops, where_taken, Jump}
use Rattle.rx_exits_plan.specs.Occurrences.{has_number}
use Rattle.rx_exits_plan.specs.PlainPlan.{plain-Exit, plan_of, IsExitPlan}
use Rattle.rx_exits_plan.specs.declared.plan.Exit.{Exit as ListedExit}
use Rattle.rx_exits_plan.specs.declared.plan.Exit.TheVariants as listed
use Rattle.rx_exits_plan.specs.declared.plan.ExitOuts.{ExitOuts}
use Rattle.rx_hoist_extraction.specs.Names.{Names, is_among, Distinct}
use Rattle.rx_hoist_extraction.specs.Plan.{Exit, exit_name, to_break, to_continue, to_next, to_return, Leaving}
use Rattle.rx_hoist_extraction.proofs.FreshNames.{unlike}
use Rattle.rx_hoist_naming.specs.NamedPlan.{named_exit, named_leaving, named_plan, names_in, place_of, Told}
use Rattle.rx_engine_names.specs.NewPlan.{exit_names}
use Rattle.rx_engine_planned.specs.Loops.{EachOnce, LoopsApart}

-- ---- a name tells its exit

abbrev Small : Exit → Type 0
Small to_next = Unit {0}
Small (to_break k) = k < 2 ^ 64
Small (to_continue k) = k < 2 ^ 64
Small to_return = Unit {0}

-- words that begin with different letters
other_letters : (m n : ℕ) (x y : List ℕ) → (m == n) ≡ false → get_or x 0 0 ≡ m → get_or y 0 0 ≡ n → x ≡ y → ⊥
other_letters m n x y d p q e = let s : m ≡ n = sym p ∙ (ap (λ (l : List ℕ). get_or l 0 0) e ∙ q) in let t = eq-eqb m n s in cc

one_name : (x y : Exit) → Small x → Small y → exit_name x ≡ exit_name y → x ≡ y
one_name to_next to_next a b e = refl
one_name to_next (to_break k) a b e = absurd (other_letters 78 66 (exit_name to_next) (exit_name (to_break k)) refl refl refl e)
one_name to_next (to_continue k) a b e = absurd (other_letters 78 67 (exit_name to_next) (exit_name (to_continue k)) refl refl refl e)
one_name to_next to_return a b e = absurd (other_letters 78 82 (exit_name to_next) (exit_name to_return) refl refl refl e)
one_name (to_break j) to_next a b e = absurd (other_letters 66 78 (exit_name (to_break j)) (exit_name to_next) refl refl refl e)
one_name (to_break j) (to_break k) a b e = ap (λ n. to_break n) (decimal_injective j k a b (append_cancel_left (codes "Break_") (decimal j) (decimal k) e))
one_name (to_break j) (to_continue k) a b e = absurd (other_letters 66 67 (exit_name (to_break j)) (exit_name (to_continue k)) refl refl refl e)
one_name (to_break j) to_return a b e = absurd (other_letters 66 82 (exit_name (to_break j)) (exit_name to_return) refl refl refl e)
one_name (to_continue j) to_next a b e = absurd (other_letters 67 78 (exit_name (to_continue j)) (exit_name to_next) refl refl refl e)
one_name (to_continue j) (to_break k) a b e = absurd (other_letters 67 66 (exit_name (to_continue j)) (exit_name (to_break k)) refl refl refl e)
one_name (to_continue j) (to_continue k) a b e = ap (λ n. to_continue n) (decimal_injective j k a b (append_cancel_left (codes "Continue_") (decimal j) (decimal k) e))
one_name (to_continue j) to_return a b e = absurd (other_letters 67 82 (exit_name (to_continue j)) (exit_name to_return) refl refl refl e)
one_name to_return to_next a b e = absurd (other_letters 82 78 (exit_name to_return) (exit_name to_next) refl refl refl e)
one_name to_return (to_break k) a b e = absurd (other_letters 82 66 (exit_name to_return) (exit_name (to_break k)) refl refl refl e)
one_name to_return (to_continue k) a b e = absurd (other_letters 82 67 (exit_name to_return) (exit_name (to_continue k)) refl refl refl e)
one_name to_return to_return a b e = refl

-- ---- exits that are all different

abbrev Others : Exit → List Exit → Type 0
Others x ys = Every (λ (y : Exit). x ≢ y) ys

abbrev Apart : List Exit → Type 0
Apart [] = Unit {0}
Apart (x ∷ xs) = Others x xs × Apart xs

none_of : (a b : Bool) → a ≡ false → b ≡ false → (a || b) ≡ false
none_of true b d e = absurd (cc)
none_of false b d e = e

other_names : (x : Exit) (ys : List Exit) → Small x → Every Small ys → Others x ys → is_among (exit_name x) (map exit_name ys) ≡ false
other_names x [] a b h = refl
other_names x (y ∷ ys) a b h =
    none_of (bytes_eq (exit_name x) (exit_name y)) (is_among (exit_name x) (map exit_name ys)) (unlike (exit_name x) (exit_name y) (λ e. h.0 (one_name x y a b.0 e))) (other_names x ys a b.1 h.1)

names_apart : (xs : List Exit) → Every Small xs → Apart xs → Distinct (map exit_name xs)
names_apart [] b h = tt
names_apart (x ∷ xs) b h = (other_names x xs b.0 b.1 h.0, names_apart xs b.1 h.1)

every_if : (P : Exit → Type 0) (b : Bool) (x : Exit) (xs : List Exit) → P x → Every P xs → Every P ((if b then x ∷ [] else []) ++ xs)
every_if P true x xs h k = (h, k)
every_if P false x xs h k = k

apart_if : (b : Bool) (x : Exit) (xs : List Exit) → Others x xs → Apart xs → Apart ((if b then x ∷ [] else []) ++ xs)
apart_if true x xs h k = (h, k)
apart_if false x xs h k = k

every_all : (P Q : Exit → Type 0) (xs : List Exit) → ((x : Exit) → P x → Q x) → Every P xs → Every Q xs
every_all P Q [] f h = tt
every_all P Q (x ∷ xs) f h = (f x h.0, every_all P Q xs f h.1)

apart_both : (xs ys : List Exit) → Apart xs → Apart ys → Every (λ (x : Exit). Others x ys) xs → Apart (xs ++ ys)
apart_both [] ys a b h = b
apart_both (x ∷ xs) ys a b h = (every_both (λ (y : Exit). x ≢ y) xs ys a.0 h.0, apart_both xs ys a.1 b h.1)

-- ---- of the loops, by their places

abbrev From : ℕ → Exit → Type 0
From i (to_break k) = (i ≤ k) × (k < 2 ^ 64)
From i (to_continue k) = (i ≤ k) × (k < 2 ^ 64)
From i to_next = ⊥
From i to_return = ⊥

from_later : (i : ℕ) (x : Exit) → From (suc i) x → From i x
from_later i (to_break k) h = (let j = h.0 in omega (arith, j), h.1)
from_later i (to_continue k) h = (let j = h.0 in omega (arith, j), h.1)
from_later i to_next h = h
from_later i to_return h = h

from_small : (i : ℕ) (x : Exit) → From i x → Small x
from_small i (to_break k) h = h.1
from_small i (to_continue k) h = h.1
from_small i to_next h = tt
from_small i to_return h = tt

not_break : (i : ℕ) (x : Exit) → From (suc i) x → to_break i ≢ x
not_break i (to_break k) h e = let j = h.0 in let s : i ≡ k = cc in omega (arith, j, s)
not_break i (to_continue k) h e = cc
not_break i to_next h e = h
not_break i to_return h e = h

not_continue : (i : ℕ) (x : Exit) → From (suc i) x → to_continue i ≢ x
not_continue i (to_break k) h e = cc
not_continue i (to_continue k) h e = let j = h.0 in let s : i ≡ k = cc in omega (arith, j, s)
not_continue i to_next h e = h
not_continue i to_return h e = h

not_next : (i : ℕ) (x : Exit) → From i x → to_next ≢ x
not_next i (to_break k) h e = cc
not_next i (to_continue k) h e = cc
not_next i to_next h e = h
not_next i to_return h e = h

not_return : (i : ℕ) (x : Exit) → From i x → x ≢ to_return
not_return i (to_break k) h e = cc
not_return i (to_continue k) h e = cc
not_return i to_next h e = h
not_return i to_return h e = h

abbrev of_places : ℕ → List ℕ → List Jump → List Exit
of_places i [] js = []
of_places i (l ∷ ls) js = (if is_taken (breaks l) js then to_break i ∷ [] else []) ++ ((if is_taken (continues l) js then to_continue i ∷ [] else []) ++ of_places (suc i) ls js)

places_from : (i : ℕ) (ls : List ℕ) (js : List Jump) → i + length ls ≤ 2 ^ 64 → Every (From i) (of_places i ls js)
places_from i [] js h = tt
places_from i (l ∷ ls) js h =
    every_if (From i) (is_taken (breaks l) js) (to_break i) _ (omega arith, omega (arith, h))
    (every_if (From i) (is_taken (continues l) js) (to_continue i) (of_places (suc i) ls js) (omega arith, omega (arith, h)) (every_all (From (suc i)) (From i) (of_places (suc i) ls js) (from_later i) (places_from (suc i) ls js (omega (arith, h)))))

places_apart : (i : ℕ) (ls : List ℕ) (js : List Jump) → i + length ls ≤ 2 ^ 64 → Apart (of_places i ls js)
places_apart i [] js h = tt
places_apart i (l ∷ ls) js h =
    let rest = places_from (suc i) ls js (omega (arith, h)) in
    apart_if (is_taken (breaks l) js) (to_break i) _
    (every_if (λ (y : Exit). to_break i ≢ y) (is_taken (continues l) js) (to_continue i) (of_places (suc i) ls js) (λ e. cc) (every_all (From (suc i)) (λ (y : Exit). to_break i ≢ y) (of_places (suc i) ls js) (not_break i) rest))
    (apart_if (is_taken (continues l) js) (to_continue i) (of_places (suc i) ls js) (every_all (From (suc i)) (λ (y : Exit). to_continue i ≢ y) (of_places (suc i) ls js) (not_continue i) rest) (places_apart (suc i) ls js (omega (arith, h))))

-- ---- the exits of a run, by names

abbrev by_place : List ℕ → points.Exit → Exit
by_place ls next = to_next
by_place ls (breaks l) = to_break (place_of l ls)
by_place ls (continues l) = to_continue (place_of l ls)
by_place ls returns = to_return

mapped_if : (f : points.Exit → Exit) (b : Bool) (x : points.Exit) (xs : List points.Exit) → map f ((if b then x ∷ [] else []) ++ xs) ≡ (if b then f x ∷ [] else []) ++ map f xs
mapped_if f true x xs = refl
mapped_if f false x xs = refl

-- each loop of these stands at its place
abbrev Placed : List ℕ → ℕ → List ℕ → Type 0
Placed ls i [] = Unit {0}
Placed ls i (k ∷ ks) = (place_of k ls ≡ i) × Placed ls (suc i) ks

loops_mapped : (ls : List ℕ) (i : ℕ) (ks : List ℕ) (js : List Jump) → Placed ls i ks → map (by_place ls) (of_loops ks js) ≡ of_places i ks js
loops_mapped ls i [] js h = refl
loops_mapped ls i (k ∷ ks) js h =
    mapped_if (by_place ls) (is_taken (breaks k) js) (breaks k) (where_taken (continues k) js ++ of_loops ks js)
    ∙ (ap (λ (n : ℕ). (if is_taken (breaks k) js then to_break n ∷ [] else []) ++ map (by_place ls) (where_taken (continues k) js ++ of_loops ks js)) h.0
    ∙ ap (λ (m : List Exit). (if is_taken (breaks k) js then to_break i ∷ [] else []) ++ m)
    (mapped_if (by_place ls) (is_taken (continues k) js) (continues k) (of_loops ks js)
    ∙ (ap (λ (n : ℕ). (if is_taken (continues k) js then to_continue n ∷ [] else []) ++ map (by_place ls) (of_loops ks js)) h.0
    ∙ ap (λ (m : List Exit). (if is_taken (continues k) js then to_continue i ∷ [] else []) ++ m) (loops_mapped ls (suc i) ks js h.1))))

-- one more loop in front
further : (l : ℕ) (ls : List ℕ) (i : ℕ) (ks : List ℕ) → has_number l ks ≡ false → Placed ls i ks → Placed (l ∷ ls) (suc i) ks
further l ls i [] o h = tt
further l ls i (k ∷ ks) o h = (by (l == k) (first_of_two (l == k) (has_number l ks) o), further l ls (suc i) ks (second_of (l == k) (has_number l ks) o) h.1)
  where
    first_of_two : (a b : Bool) → (a || b) ≡ false → a ≡ false
    first_of_two true b e = absurd (cc)
    first_of_two false b e = refl

    second_of : (a b : Bool) → (a || b) ≡ false → b ≡ false
    second_of true b e = absurd (cc)
    second_of false b e = e

    by : (b : Bool) → b ≡ false → (if b then 0 else suc (place_of k ls)) ≡ suc i
    by true e = absurd (cc)
    by false e = ap suc h.0

all_placed : (ls : List ℕ) → EachOnce ls → Placed ls 0 ls
all_placed [] h = tt
all_placed (l ∷ ls) h = (by (l == l) (eq-eqb l l refl), further l ls 0 ls h.0 (all_placed ls h.1))
  where
    by : (b : Bool) → b ≡ true → (if b then 0 else suc (place_of l ls)) ≡ 0
    by true e = refl
    by false e = absurd (cc)

mapped_both : (f : points.Exit → Exit) (xs ys : List points.Exit) → map f (xs ++ ys) ≡ map f xs ++ map f ys
mapped_both f [] ys = refl
mapped_both f (x ∷ xs) ys = ap (λ (m : List Exit). f x ∷ m) (mapped_both f xs ys)

-- the next, those of the loops, the return
module _ (ls : List ℕ) (once : LoopsApart ls) (js : List Jump) where
  abbrev Middle : List Exit
  Middle = of_places 0 ls js

  abbrev Whole : Bool → Bool → List Exit
  Whole d b = (if d then to_next ∷ [] else []) ++ (Middle ++ (if b then to_return ∷ [] else []))

  middle_from : Every (From 0) Middle
  middle_from = let f = once.few in places_from 0 ls js (omega (arith, f))

  last_apart : (b : Bool) → Apart (Middle ++ (if b then to_return ∷ [] else []))
  last_apart b = let f = once.few in apart_both Middle (if b then to_return ∷ [] else []) (places_apart 0 ls js (omega (arith, f))) (alone b)
      (every_all (From 0) (λ (x : Exit). Others x (if b then to_return ∷ [] else [])) Middle (λ x h. other b x (not_return 0 x h)) middle_from)
    where
      alone : (b : Bool) → Apart (if b then to_return ∷ [] else [])
      alone true = (tt, tt)
      alone false = tt

      other : (b : Bool) (x : Exit) → x ≢ to_return → Others x (if b then to_return ∷ [] else [])
      other true x h = (h, tt)
      other false x h = tt

  whole_apart : (d b : Bool) → Apart (Whole d b)
  whole_apart d b = apart_if d to_next (Middle ++ (if b then to_return ∷ [] else [])) (every_both (λ (y : Exit). to_next ≢ y) Middle (if b then to_return ∷ [] else []) (every_all (From 0) (λ (y : Exit). to_next ≢ y) Middle (not_next 0) middle_from) (other b)) (last_apart b)
    where
      other : (b : Bool) → Every (λ (y : Exit). to_next ≢ y) (if b then to_return ∷ [] else [])
      other true = (λ e. cc, tt)
      other false = tt

  whole_small : (d b : Bool) → Every Small (Whole d b)
  whole_small d b = every_if Small d to_next (Middle ++ (if b then to_return ∷ [] else [])) tt (every_both Small Middle (if b then to_return ∷ [] else []) (every_all (From 0) Small Middle (from_small 0) middle_from) (last b))
    where
      last : (b : Bool) → Every Small (if b then to_return ∷ [] else [])
      last true = (tt, tt)
      last false = tt

  is_whole : (d b : Bool) → map (by_place ls) ((if d then [] else next ∷ []) ++ (of_loops ls js ++ (if b then returns ∷ [] else []))) ≡ Whole (if d then false else true) b
  is_whole true b = last_mapped b
    where
      last_mapped : (b : Bool) → map (by_place ls) (of_loops ls js ++ (if b then returns ∷ [] else [])) ≡ Middle ++ (if b then to_return ∷ [] else [])
      last_mapped true = mapped_both (by_place ls) (of_loops ls js) (returns ∷ []) ∙ ap (λ (m : List Exit). m ++ (to_return ∷ [])) (loops_mapped ls 0 ls js (all_placed ls once.once))
      last_mapped false = mapped_both (by_place ls) (of_loops ls js) [] ∙ ap (λ (m : List Exit). m ++ []) (loops_mapped ls 0 ls js (all_placed ls once.once))
  is_whole false true = ap (λ (m : List Exit). to_next ∷ m) (mapped_both (by_place ls) (of_loops ls js) (returns ∷ []) ∙ ap (λ (m : List Exit). m ++ (to_return ∷ [])) (loops_mapped ls 0 ls js (all_placed ls once.once)))
  is_whole false false = ap (λ (m : List Exit). to_next ∷ m) (mapped_both (by_place ls) (of_loops ls js) [] ∙ ap (λ (m : List Exit). m ++ []) (loops_mapped ls 0 ls js (all_placed ls once.once)))

  exits_named_apart : (d b : Bool) → Distinct (map exit_name (map (by_place ls) ((if d then [] else next ∷ []) ++ (of_loops ls js ++ (if b then returns ∷ [] else [])))))
  exits_named_apart d b = subst (λ (m : List Exit). Distinct (map exit_name m)) (sym (is_whole d b)) (names_apart (Whole (if d then false else true) b) (whole_small (if d then false else true) b) (whole_apart (if d then false else true) b))

-- ---- of a plan

named_one : (ls : List ℕ) (e : ListedExit) → named_exit ls e ≡ by_place ls (plain-Exit e)
named_one ls listed.Next = refl
named_one ls (listed.Break l) = refl
named_one ls (listed.Continue l) = refl
named_one ls listed.Return = refl

all_named : (ns : Names) (t : TypedFn) (ls : List ℕ) (es : List ExitOuts) → exit_names (map (named_leaving ns t ls) es) ≡ map exit_name (map (by_place ls) (map (λ (e : ExitOuts). plain-Exit e.exit) es))
all_named ns t ls [] = refl
all_named ns t ls (e ∷ es) = ap (λ (x : Exit). exit_name x ∷ exit_names (map (named_leaving ns t ls) es)) (named_one ls e.exit) ∙ ap (λ (m : Names). exit_name (by_place ls (plain-Exit e.exit)) ∷ m) (all_named ns t ls es)

pub exit_names_apart : (A : Told) (q : Asked) → IsExitPlan q A.plan → A.loops ≡ q.home.around.loops → LoopsApart q.home.around.loops → Distinct (exit_names (named_plan A).exits)
exit_names_apart A q plan same once =
    subst (λ (ls : List ℕ). Distinct (exit_names (map (named_leaving (names_in A) A.function ls) A.plan.exits))) (sym same)
    (subst Distinct (sym (all_named (names_in A) A.function q.home.around.loops A.plan.exits))
    (subst (λ (es : List points.Exit). Distinct (map exit_name (map (by_place q.home.around.loops) es))) (sym plan.plan.exits)
    (exits_named_apart q.home.around.loops once (jumps q.run q.home) (run_diverges q.run q.home.body) (is_taken returns (jumps q.run q.home)))))
