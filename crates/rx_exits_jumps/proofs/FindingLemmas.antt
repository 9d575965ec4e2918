-- The homes that the walk finds, and the first of them.
use Rattle.std.proofs.Common.{◌≡◌, ℕ, zero, suc, List, [], ◌∷◌, ◌++◌, length, map, take, reverse, Option, Some, None, MatchOption, option_map, refl, sym, ap, ◌∙◌, arith}
use Rattle.std.proofs.lemmas.List.{append-nil}
use Rattle.rx_typed.specs.declared.tree.TypedTree.{TypedTree}
use Rattle.rx_typed.specs.PlainTree.{plain-Expr, plain-Param, plain-TypedTree}
use Rattle.rx_exits_plan.specs.Spots.{Around, spots, spots_of_function}
use Rattle.rx_exits_plan.specs.Runs as runs
use Rattle.rx_exits_plan.specs.declared.parts.Home.{Home}
use Rattle.rx_exits_plan.specs.declared.around.Around as stack
use Rattle.rx_exits_plan.specs.Bound.{variables_of_params}
use Rattle.rx_exits_plan.specs.PlainSyntax.{plain-Home, plain-Around}
use Rattle.rx_exits_jumps.specs.Seen.{homes, first_of_homes, Found, the_run, with_spots}

pub homes_are : (r : runs.Run) (f : TypedTree) (g g1 : Found) (a : stack.Around) → g.homes ≡ [] → a.scope ≡ variables_of_params (map plain-Param f.params) → a.loops ≡ []
    → g1 ≡ with_spots (the_run r) g (spots (plain-Around a) (plain-Expr f.body)) → g1.homes ≡ homes r (spots_of_function (plain-TypedTree f))
homes_are r f g g1 a none scope loops e =
    ap (λ (x : Found). x.homes) e ∙ ap (λ l. l ++ homes r (spots (plain-Around a) (plain-Expr f.body))) none
    ∙ ap (λ (b : Around). homes r (spots b (plain-Expr f.body)))
    (ap (λ (l : List ℕ). let b : Around = record { scope = reverse l; loops = reverse a.loops } in b) scope
    ∙ ap (λ (l : List ℕ). let b : Around = record { scope = reverse (variables_of_params (map plain-Param f.params)); loops = reverse l } in b) loops
    ∙ ap (λ (l : List ℕ). let b : Around = record { scope = l; loops = [] } in b) (sym (append-nil (reverse (variables_of_params (map plain-Param f.params))))))

-- ---- the first of a list, taken off the list of one

zero_suc : (n : ℕ) → zero ≡ suc n → ⊥
zero_suc n e = omega arith

one_more : (ys : List Home) (h : Home) → [] ≡ ys ++ h ∷ [] → ⊥
one_more [] h e = zero_suc zero (ap length e)
one_more (y ∷ ys) h e = zero_suc (length (ys ++ h ∷ [])) (ap length e)

abbrev head_or : Home → List Home → Home
head_or d [] = d
head_or d (x ∷ xs) = x

abbrev tail_of : List Home → List Home
tail_of [] = []
tail_of (x ∷ xs) = xs

last_of_one : (x h : Home) (new : List Home) → x ∷ [] ≡ new ++ h ∷ [] → x ≡ h
last_of_one x h [] e = ap (head_or x) e
last_of_one x h (y ∷ ys) e = absurd (one_more ys h (ap tail_of e))

pub first_popped : (hs old new : List Home) (o : Option Home) → old ≡ take 1 hs → MatchOption o ((old ≡ []) × (new ≡ [])) (λ h. old ≡ new ++ h ∷ [])
    → option_map plain-Home o ≡ first_of_homes (map plain-Home hs)
first_popped [] old new None e h = refl
first_popped [] old new (Some x) e h = absurd (one_more new x (sym e ∙ h))
first_popped (x ∷ xs) old new None e h = absurd (zero_suc zero (ap length (sym h.0 ∙ e)))
first_popped (x ∷ xs) old new (Some y) e h = ap (λ (z : Home). let o : Option runs.Home = Some (plain-Home z) in o) (sym (last_of_one x y new (sym e ∙ h)))
