-- What the walk finds of small trees, computed: a function by other numbers, one that reads another variable, one whose body is left open, and
-- jumps and returns out of a run.
use Rattle.std.proofs.Common.{◌≡◌, ℕ, pos, nat_eq, true, false, if◌then◌else◌, [], ◌∷◌, Some, None, refl}
use Rattle.rx_core.specs.declared.types.Kind.TheVariants as kind
use Rattle.rx_core.specs.declared.types.Step.TheVariants as step
use Rattle.rx_tree.specs.declared.tree.BinaryOp.TheVariants as operator
use Rattle.rx_typed.specs.Tree as tree
use Rattle.rx_typed.specs.Tree.{Mark, Exp, Body, Function, own, under}
use Rattle.rx_engine_simulation.specs.Sights.{plain, free, special, sight, Renaming}
use Rattle.rx_engine_simulation.specs.Jumps.{with_value, Jumping}
use Rattle.rx_engine_alike.specs.Likeness.{unlike, alike, alike_but}
use Rattle.rx_engine_alike.specs.Forms.{Between, like_exp}
use Rattle.rx_engine_alike.specs.Functions.{like_function, plainly, each_is_like_itself}

abbrev m : ℕ → Mark
m n = record { node = n; typ = None }

-- `let mut y = 0; loop { match y { 3 => break, _ => y += x } } y` with these numbers of variables and of the loop
abbrev counted : ℕ → ℕ → ℕ → Body
counted x y l = tree.lets 3 (tree.bind 4 y (tree.by_value true)) (tree.of_value (tree.build (m 5) (tree.constant (tree.whole_number kind.I64 (pos 0))) tree.no_operand))
    (tree.runs (tree.loop (m 6) l (tree.choose (m 7) (tree.at_place (m 8) (own y)) (tree.arm_and (tree.exactly 9 (tree.whole_number kind.I64 (pos 3))) (tree.jump (m 10) l false)
    (tree.arm_and tree.any (tree.update (m 11) operator.Add (own y) (tree.read (m 12) true (own x))) tree.no_arm)))) (tree.ends (tree.give (m 2) (tree.read (m 13) true (own y)))))

abbrev counting : ℕ → ℕ → ℕ → ℕ → Function
counting n x y l = record { params = record { node = 1; variable = x } ∷ []; body = tree.block (m n) (counted x y l) }

by_other_numbers : like_function (plainly (λ f. f)) (counting 2 0 1 6) (counting 22 5 4 7) ≡ alike
by_other_numbers = refl

-- no variable of the answer stands for two
by_one_variable : like_function (plainly (λ f. f)) (counting 2 0 1 6) (counting 2 5 5 7) ≡ unlike
by_one_variable = refl

itself : each_is_like_itself (Some (counting 2 0 1 6) ∷ None ∷ []) ≡ true
itself = refl

left_open : like_function (record (plainly (λ f. f)) { left_open = Some 2 }) (counting 2 0 1 6) (counting 22 5 4 7)
    ≡ alike_but (record { loops = []; inside = (0, sight 5 (plain free)) ∷ []; text = counted 0 1 6; answer = counted 5 4 7 })
left_open = refl

-- ---- in a run inside of loop 6, from where the jump out of it hands out variable 1

abbrev run : Between
run = record { items = λ f. f; ways = record { elsewhere = 1 ∷ []; closed = [] }; units = []; outside = 6 ∷ []; left_open = None }

abbrev out : Jumping
out = record { loops = []; leaving = λ l again. if nat_eq l 6 then Some (record { variant = 1; outs = 1 ∷ [] }) else None; returning = with_value 0; dead = 1 ∷ [] }

abbrev there : Renaming
there = (1, sight 9 special) ∷ []

abbrev variant : ℕ → Exp → Exp
variant v e = tree.give (m 40) (tree.build (m 41) (tree.variant_of 3 v) (tree.operand_and 0 e tree.no_operand))

-- the reference that it holds may be asked for again
jump_leaves : like_exp run out there (tree.jump (m 10) 6 false) (variant 1 (tree.borrow (m 42) true (under (own 9) (step.Deref true ∷ [])))) ≡ alike
jump_leaves = refl

jump_hands_another : like_exp run out there (tree.jump (m 10) 6 false) (variant 1 (tree.read (m 42) true (own 8))) ≡ unlike
jump_hands_another = refl

return_leaves : like_exp run out there (tree.give (m 14) (tree.read (m 13) true (own 1))) (variant 0 (tree.read (m 42) true (own 9))) ≡ alike
return_leaves = refl

return_by_another : like_exp run out there (tree.give (m 14) (tree.read (m 13) true (own 1))) (variant 1 (tree.read (m 42) true (own 9))) ≡ unlike
return_by_another = refl
