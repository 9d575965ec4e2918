-- The table of functions, declaration by declaration.
use Rattle.std.proofs.Common.{◌≡◌, ℕ, zero, suc, ◌+◌, ◌<◌, ◌≤◌, true, List, [], ◌∷◌, ◌++◌, drop, length, get_or, Bor, Option, None, Some, option_map, refl, sym, ap, ◌∙◌, arith}
use Rattle.rx_typed.specs.Types.{Declared, Declarations}
use Rattle.rx_typed.specs.declared.tree.TypedTree.{TypedTree}
use Rattle.rx_typed.specs.PlainTree.{plain-TypedTree}
use Rattle.rx_typeck_typed.specs.declared.typed.TypedFn.{TypedFn}
use Rattle.rx_machine_driver.specs.Fitting.{functions_of}
use Rattle.rx_machine.specs.Functions.{is_function, first_of, behind, typed_functions}

pub first_at : (fs : List TypedFn) (at : ℕ) (f : TypedFn) → at < length fs → f ≡ get_or fs at f → Some (plain-TypedTree f.tree) ≡ first_of true (drop at fs)
first_at [] at f l e = absurd (omega (arith, l))
first_at (g ∷ fs) zero f l e = ap (λ (x : TypedFn). Some (plain-TypedTree x.tree)) e
first_at (g ∷ fs) (suc at) f l e = first_at fs at f (omega (arith, l)) e

behind_suc : (fs : List TypedFn) (at : ℕ) → at < length fs → drop (suc at) fs ≡ behind true (drop at fs)
behind_suc [] at l = absurd (omega (arith, l))
behind_suc (g ∷ fs) zero l = refl
behind_suc (g ∷ fs) (suc at) l = behind_suc fs at (omega (arith, l))

pub behind_at : (fs : List TypedFn) (at : ℕ) → at < length fs → drop (at + 1) fs ≡ behind true (drop at fs)
behind_at fs at l = let e : at + 1 ≡ suc at = omega arith in ap (λ j. drop j fs) e ∙ behind_suc fs at l

drop_past : (fs : List TypedFn) (at : ℕ) → length fs ≤ at → drop at fs ≡ []
drop_past [] zero l = refl
drop_past [] (suc at) l = refl
drop_past (g ∷ fs) zero l = absurd (omega (arith, l))
drop_past (g ∷ fs) (suc at) l = drop_past fs at (omega (arith, l))

pub first_past : (fs : List TypedFn) (at : ℕ) → length fs ≤ at → None ≡ first_of true (drop at fs)
first_past fs at l = ap (first_of true) (sym (drop_past fs at l))

pub behind_past : (fs : List TypedFn) (at : ℕ) → length fs ≤ at → drop at fs ≡ behind true (drop at fs)
behind_past fs at l = drop_past fs at l ∙ ap (behind true) (sym (drop_past fs at l))

-- what is done, in front of what is left, is the whole
pub one_more : (all : List (Option (Bor TypedTree))) (x : Declared) (rest items : Declarations) (o : Option (Bor TypedTree)) (now next : List TypedFn) → items ≡ x ∷ rest → option_map (λ t. plain-TypedTree t.now) o ≡ first_of (is_function x) now
    → next ≡ behind (is_function x) now → functions_of (all ++ o ∷ []) ++ typed_functions rest next ≡ functions_of all ++ typed_functions items now
one_more all x rest items o now next e f b = by all ∙ ap (λ l. functions_of all ++ typed_functions l now) (sym e)
  where
    tail : option_map (λ t. plain-TypedTree t.now) o ∷ typed_functions rest next ≡ typed_functions (x ∷ rest) now
    tail = ap (λ a. a ∷ typed_functions rest next) f ∙ ap (λ l. first_of (is_function x) now ∷ typed_functions rest l) b

    by : (all : List (Option (Bor TypedTree))) → functions_of (all ++ o ∷ []) ++ typed_functions rest next ≡ functions_of all ++ typed_functions (x ∷ rest) now
    by [] = tail
    by (a ∷ all) = ap (λ l. option_map (λ t. plain-TypedTree t.now) a ∷ l) (by all)
