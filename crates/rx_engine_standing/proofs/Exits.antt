-- Exits with names of their own: each hands out what is listed for it, and its variant is the one at its place.
use Rattle.std.proofs.Common.{◌≡◌, ℕ, zero, suc, ◌<◌, Bool, true, false, ◌||◌, if◌then◌else◌, List, [], ◌∷◌, ◌++◌, length, map, Some, slice_get, refl, sym, ap, ◌∙◌, eqb-true, eq-eqb, arith}
use Rattle.std.specs.Prelude.{codes}
use Rattle.std.specs.Str.{bytes_eq}
use Rattle.std.specs.Fmt.{decimal}
use Rattle.rx_tree.specs.Lists.{Every}
use Rattle.rx_hoist_extraction.specs.Names.{is_among, Distinct}
use Rattle.rx_hoist_extraction.specs.Plan.{Exit, to_next, to_break, to_continue, to_return, same_exit, has_exit, outs_of, exit_name, Leaving}
use Rattle.rx_engine_names.specs.NewFunction.{place_of}
use Rattle.rx_engine_names.specs.NewPlan.{exit_names}
use Rattle.rx_engine_names.proofs.NewScopes.{same_name}
use Rattle.rx_engine_standing.proofs.Lists.{both}

same_names : (x y : Exit) → same_exit x y ≡ true → exit_name x ≡ exit_name y
same_names to_next to_next e = refl
same_names (to_break j) (to_break k) e = ap (λ n. codes "Break_" ++ decimal n) (eqb-true j k e)
same_names (to_continue j) (to_continue k) e = ap (λ n. codes "Continue_" ++ decimal n) (eqb-true j k e)
same_names to_return to_return e = refl
same_names x y e = absurd (cc)

pub is_that : (x y : Exit) → same_exit x y ≡ true → x ≡ y
is_that to_next to_next e = refl
is_that (to_break j) (to_break k) e = ap (λ n. to_break n) (eqb-true j k e)
is_that (to_continue j) (to_continue k) e = ap (λ n. to_continue n) (eqb-true j k e)
is_that to_return to_return e = refl
is_that x y e = absurd (cc)

same_self : (x : Exit) → same_exit x x ≡ true
same_self to_next = refl
same_self (to_break k) = eq-eqb k k refl
same_self (to_continue k) = eq-eqb k k refl
same_self to_return = refl

neither : (a b : Bool) → (a || b) ≡ false → (a ≡ false) × (b ≡ false)
neither false b e = (refl, e)
neither true b e = absurd (cc)

-- names that are not among these are of other exits
abbrev Other : Exit → Leaving → Type 0
Other y x = same_exit x.exit y ≡ false

others : (y : Exit) (xs : List Leaving) → is_among (exit_name y) (exit_names xs) ≡ false → Every (Other y) xs
others y [] e = tt
others y (x ∷ xs) e = let a = neither (bytes_eq (exit_name y) (exit_name x.exit)) (is_among (exit_name y) (exit_names xs)) e in (by (same_exit x.exit y) refl a.0, others y xs a.1)
  where
    by : (b : Bool) → same_exit x.exit y ≡ b → bytes_eq (exit_name y) (exit_name x.exit) ≡ false → b ≡ false
    by false g h = refl
    by true g h = sym (same_name (exit_name y)) ∙ ap (λ (z : List ℕ). bytes_eq (exit_name y) z) (sym (same_names x.exit y g)) ∙ h

-- an exit of the list, and what it hands out
pub record Listed (xs : List Leaving) (x : Leaving) : Type 0 where
  pub outs : outs_of x.exit xs ≡ x.outs
  pub there : has_exit x.exit xs ≡ true

pub all_listed : (xs : List Leaving) → Distinct (exit_names xs) → Every (Listed xs) xs
all_listed [] d = tt
all_listed (y ∷ ys) d = (first, both (Other y.exit) (Listed ys) (Listed (y ∷ ys)) later ys (others y.exit ys d.0) (all_listed ys d.1))
  where
    first : Listed (y ∷ ys) y
    first = record {
      outs = ap (λ (b : Bool). if b then y.outs else outs_of y.exit ys) (same_self y.exit);
      there = ap (λ (b : Bool). b || has_exit y.exit ys) (same_self y.exit);
    }

    later : (x : Leaving) → Other y.exit x → Listed ys x → Listed (y ∷ ys) x
    later x o l = record {
      outs = ap (λ (b : Bool). if b then y.outs else outs_of x.exit ys) o ∙ l.outs;
      there = ap (λ (b : Bool). b || has_exit x.exit ys) o ∙ l.there;
    }

-- the exit at the place of one
pub place_below : (e : Exit) (xs : List Leaving) → has_exit e xs ≡ true → place_of e xs < length xs
place_below e [] h = absurd (cc)
place_below e (x ∷ xs) h = by (same_exit e x.exit) h (place_below e xs)
  where
    by : (b : Bool) → (b || has_exit e xs) ≡ true → (has_exit e xs ≡ true → place_of e xs < length xs) → (if b then zero else suc (place_of e xs)) < suc (length xs)
    by true h f = omega arith
    by false h f = let l = f h in omega (arith, l)

pub at_place_of : {A : Type 0} (F : Leaving → A) (e : Exit) (xs : List Leaving) → has_exit e xs ≡ true → slice_get (map F xs) (place_of e xs) ≡ Some (F (record { exit = e; outs = outs_of e xs }))
at_place_of F e [] h = absurd (cc)
at_place_of F e (x ∷ xs) h = by (same_exit e x.exit) refl h (at_place_of F e xs)
  where
    by : (b : Bool) → same_exit e x.exit ≡ b → (b || has_exit e xs) ≡ true → (has_exit e xs ≡ true → slice_get (map F xs) (place_of e xs) ≡ Some (F (record { exit = e; outs = outs_of e xs })))
        → slice_get (F x ∷ map F xs) (if b then zero else suc (place_of e xs)) ≡ Some (F (record { exit = e; outs = if b then x.outs else outs_of e xs }))
    by true g h f = ap (λ (z : Exit). Some (F (record { exit = z; outs = x.outs }))) (sym (is_that e x.exit g))
    by false g h f = f h
