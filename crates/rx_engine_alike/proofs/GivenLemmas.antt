-- What is given in a row where one list is at its end, and what a block binds in front of what it gives.
use Rattle.std.proofs.Common.{◌≡◌, ℕ, zero, suc, ◌-◌, ◌<◌, ◌≤◌, Bool, false, List, [], ◌∷◌, length, get_or, take, drop, map, Option, Some, None, option_map, refl, sym, ap, ◌∙◌, arith}
use Rattle.std.specs.Borrow.{Bor}
use Rattle.std.proofs.lemmas.List.{at_drop_more, at_drop_all}
use Rattle.rx_typed.specs.Tree as tree
use Rattle.rx_typed.specs.Tree.{Exp, Operands, Scrutinee, no_operand, operand_and, ends}
use Rattle.rx_typed.specs.declared.tree.Expr.{Expr}
use Rattle.rx_typed.specs.declared.tree.Operand.{Operand}
use Rattle.rx_typed.specs.declared.tree.Pattern.{Pattern}
use Rattle.rx_typed.specs.declared.tree.Matched.{Matched}
use Rattle.rx_typed.specs.declared.tree.Matched.TheVariants as matched
use Rattle.rx_typed.specs.declared.tree.Stmt.{Stmt}
use Rattle.rx_typed.specs.declared.tree.Stmt.TheVariants as stmt
use Rattle.rx_typed.specs.PlainTree.{plain-Expr, plain-Operand, plain-Pattern, plain-Matched, plain-Stmt, operands_of, nested_of, matched_value, stmt_lets}
use Rattle.rx_exits_plan.specs.Points.{jump_exit}
use Rattle.rx_exits_plan.specs.PlainPlan.{plain-Exit, outs_in}
use Rattle.rx_exits_plan.specs.declared.plan.Exit.{Exit}
use Rattle.rx_exits_plan.specs.declared.plan.ExitOuts.{ExitOuts}
use Rattle.rx_exits_plan.specs.declared.plan.ExitPlan.{ExitPlan}
use Rattle.rx_engine_related.specs.Leaving.{place_from, pack_if}
use Rattle.rx_engine_alike.specs.Giving.{takes_all, is_unit, ends_with_unit}
use Rattle.rx_engine_alike.specs.Leaving.{only_operand, bound_by, bound_then, bound_in}
use Rattle.rx_engine_alike.specs.declared.jumping.Pack.{Pack}
use Rattle.rx_engine_alike.specs.declared.jumping.Leaving.{Leaving}
use Rattle.rx_engine_alike.specs.PlainJumping.{plain-Pack, plain-Leaving}
use Rattle.rx_engine_alike.proofs.AlikeLemmas.{front_of, none_of}
use Rattle.rx_engine_alike.proofs.BlockLemmas.{bound_more, no_unit}

-- ---- in a row

pub taken_short : (qs : List ℕ) (i : ℕ) (es : List Operand) → i < length qs → length es < 1 → takes_all i (drop i qs) (operands_of (map plain-Operand es)) ≡ false
taken_short qs i es less few =
    ap (λ l. takes_all i (drop i qs) (operands_of (map plain-Operand l))) (none_of es few) ∙ at_drop_more (λ l. takes_all i l no_operand) qs i 0 less

pub taken_long : (qs : List ℕ) (i : ℕ) (es : List Operand) → length qs ≤ i → 0 < length es → takes_all i (drop i qs) (operands_of (map plain-Operand es)) ≡ false
taken_long qs i [] past some = absurd (omega arith)
taken_long qs i (e ∷ es) past some = at_drop_all (λ l. takes_all i l (operands_of (map plain-Operand (e ∷ es)))) qs i past

only_first_of_two : (i : ℕ) (e : Exp) (j : ℕ) (f : Exp) (l : Operands) → only_operand (operand_and i e (operand_and j f l)) ≡ None
only_first_of_two zero e j f l = refl
only_first_of_two (suc i) e j f l = refl

pub only_of_more : (es : List Operand) → 1 < length es → only_operand (operands_of (map plain-Operand es)) ≡ None
only_of_more [] h = absurd (omega arith)
only_of_more (e ∷ []) h = absurd (omega arith)
only_of_more (e ∷ f ∷ es) h = only_first_of_two (plain-Operand e).0 (plain-Operand e).1 (plain-Operand f).0 (plain-Operand f).1 (operands_of (map plain-Operand es))

pub unit_end : (ss : List Stmt) (t : Exp) → length ss < 1 → ends_with_unit (nested_of (map plain-Stmt ss) t) ≡ is_unit t
unit_end ss t few = ap (λ l. ends_with_unit (nested_of (map plain-Stmt l) t)) (none_of ss few)

pub unit_behind : (ss : List Stmt) (t : Exp) → 0 < length ss → ends_with_unit (nested_of (map plain-Stmt ss) t) ≡ false
unit_behind [] t some = absurd (omega arith)
unit_behind (s ∷ ss) t some = no_unit s (nested_of (map plain-Stmt ss) t)

-- ---- bound in front

pub bound_value : (o : Option ℕ) (v : ℕ) (m : Matched) (e x : Expr) (ss : List Stmt) (t : Exp) → length ss < 1 → o ≡ Some v → m ≡ matched.Value e → x ≡ e
    → Some (v, plain-Expr x, t) ≡ bound_then o (plain-Matched m) (nested_of (map plain-Stmt ss) t)
bound_value o v m e x ss t few variable value got =
    ap (λ y. Some (v, plain-Expr y, t)) got
    ∙ sym (ap (λ l. bound_then o (plain-Matched m) (nested_of (map plain-Stmt l) t)) (none_of ss few) ∙ ap (λ p. bound_then p (plain-Matched m) (ends t)) variable
    ∙ ap (λ c. bound_then (Some v) c (ends t)) (ap plain-Matched value ∙ matched_value e))

pub bound_behind : (o : Option ℕ) (c : Scrutinee) (ss : List Stmt) (t : Exp) → 0 < length ss → None ≡ bound_then o c (nested_of (map plain-Stmt ss) t)
bound_behind o c [] t h = absurd (omega arith)
bound_behind o c (s ∷ ss) t h = sym (bound_more o c s (nested_of (map plain-Stmt ss) t))

pub bound_lets : (ss : List Stmt) (s : Stmt) (n : ℕ) (p : Pattern) (m : Matched) (t : Exp) (b : Option ℕ) (all : Option (ℕ × Exp × Exp)) → 0 < length ss → s ≡ get_or ss 0 s → s ≡ stmt.Lets n p m
    → b ≡ bound_by (plain-Pattern p) → all ≡ bound_then b (plain-Matched m) (nested_of (map plain-Stmt (take (length ss - 1) (drop 1 ss))) t) → all ≡ bound_in (nested_of (map plain-Stmt ss) t)
bound_lets ss s n p m t b all some first is by done =
    let rest = nested_of (map plain-Stmt (take (length ss - 1) (drop 1 ss))) t in
    done ∙ ap (λ o. bound_then o (plain-Matched m) rest) by
    ∙ sym (ap (λ l. bound_in (nested_of (map plain-Stmt l) t)) (front_of ss s some first) ∙ ap (λ x. bound_in (plain-Stmt x rest)) is ∙ ap bound_in (stmt_lets n p m rest))

-- ---- out of the run by a plan

pub pack_by_plan : (L : Leaving) (k : Bor ExitPlan) (es : List ExitOuts) (x : Exit) (n : ℕ) (again : Bool) (r : Option Pack) → L ≡ Leaving.ByPlan k → es ≡ k.now.exits → plain-Exit x ≡ jump_exit n again
    → option_map plain-Pack r ≡ pack_if (outs_in es (plain-Exit x)) (place_from 0 (plain-Exit x) (map (λ (e : ExitOuts). plain-Exit e.exit) es)) → option_map plain-Pack r ≡ plain-Leaving L n again
pack_by_plan L k es x n again r is exits exit done =
    done ∙ ap (λ y. pack_if (outs_in es y) (place_from 0 y (map (λ (e : ExitOuts). plain-Exit e.exit) es))) exit
    ∙ ap (λ l. pack_if (outs_in l (jump_exit n again)) (place_from 0 (jump_exit n again) (map (λ (e : ExitOuts). plain-Exit e.exit) l))) exits
    ∙ ap (λ M. plain-Leaving M n again) (sym is)
