-- The tests of the parts of a pattern, one by one.
use Rattle.std.proofs.Common.{◌≡◌, ℕ, zero, suc, ◌<◌, ◌+◌, Bool, List, [], ◌∷◌, map, drop, get_or, length, Option, ap, sym, ◌∙◌, arith}
use Rattle.rx_core.specs.declared.types.Step.{Step}
use Rattle.rx_typed.specs.Tree.{Pattern, Subpatterns, part_and}
use Rattle.rx_typed.specs.declared.tree.Subpattern.{Subpattern}
use Rattle.rx_typed.specs.PlainTree.{plain-Pattern, plain-Subpattern, subpatterns_of}
use Rattle.rx_typed.proofs.Rules.{subpattern_by_parts}
use Rattle.rx_meaning.specs.Values.{Value}
use Rattle.rx_machine_frames.specs.Choosing.{both}
use Rattle.rx_machine_actions.specs.Matching.{deeper, holds, all_parts_hold}

pub parts_cons : (M : List Value) (o : Option Value) (p : Subpattern) (ps : List Subpattern)
    → all_parts_hold M o (subpatterns_of (map plain-Subpattern (p ∷ ps))) ≡ both (holds M (deeper M o (Step.Field p.field)) (plain-Pattern p.pattern)) (all_parts_hold M o (subpatterns_of (map plain-Subpattern ps)))
parts_cons M o p ps = ap (λ (q : ℕ × Pattern). all_parts_hold M o (part_and q.0 q.1 (subpatterns_of (map plain-Subpattern ps)))) (subpattern_by_parts p)

abbrev subs : List Subpattern → Subpatterns
subs l = subpatterns_of (map plain-Subpattern l)

part_next : (M : List Value) (o : Option Value) (l : List Subpattern) (i : ℕ) (p : Subpattern) → i < length l → p ≡ get_or l i p
    → all_parts_hold M o (subs (drop i l)) ≡ both (holds M (deeper M o (Step.Field p.field)) (plain-Pattern p.pattern)) (all_parts_hold M o (subs (drop (suc i) l)))
part_next M o [] i p l e = absurd (omega (arith, l))
part_next M o (q ∷ ps) zero p l e = parts_cons M o q ps ∙ ap (λ (x : Subpattern). both (holds M (deeper M o (Step.Field x.field)) (plain-Pattern x.pattern)) (all_parts_hold M o (subs ps))) (sym e)
part_next M o (q ∷ ps) (suc i) p l e = part_next M o ps i p (omega (arith, l)) e

-- what a part gave, in front of the parts behind it, is all
pub parts_at : (M : List Value) (o : Option Value) (l : List Subpattern) (i : ℕ) (p : Subpattern) (b : Option Bool) → i < length l → p ≡ get_or l i p → b ≡ holds M (deeper M o (Step.Field p.field)) (plain-Pattern p.pattern)
    → all_parts_hold M o (subs (drop i l)) ≡ all_parts_hold M o (subs l) → both b (all_parts_hold M o (subs (drop (i + 1) l))) ≡ all_parts_hold M o (subs l)
parts_at M o l i p b k e h inv =
    let n : i + 1 ≡ suc i = omega arith in
    ap (λ x. both x (all_parts_hold M o (subs (drop (i + 1) l)))) h ∙ ap (λ j. both (holds M (deeper M o (Step.Field p.field)) (plain-Pattern p.pattern)) (all_parts_hold M o (subs (drop j l)))) n ∙ sym (part_next M o l i p k e) ∙ inv
