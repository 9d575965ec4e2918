-- One more member of a tuple.
use Rattle.std.proofs.Common.{◌≡◌, ℕ, suc, ◌+◌, ◌<◌, Bool, false, ◌||◌, List, [], ◌∷◌, ◌++◌, length, map, drop, get_or, ap, sym, ◌∙◌, append_assoc, add-one, drop-cons}
use Rattle.rx_tree.specs.declared.tree.Expr.{Expr}
use Rattle.rx_tree.specs.PlainOf.{plain-Expr, expressions_of}
use Rattle.rx_typed.specs.declared.nodes.Site.{Site}
use Rattle.rx_typed.specs.Named.{node_of, diverges}
use Rattle.rx_typed.specs.Naming.{of_expression, of_expressions}
use Rattle.rx_typeck_solver.specs.declared.facts.Subject.{Subject}
use Rattle.rx_typeck_elaborate_parts.specs.declared.seen.Seen.{Seen}
use Rattle.rx_typeck_elaborate_parts.specs.Seeing.{seen_of}
use Rattle.rx_typeck_typed.specs.Asking.{type_of}
use Rattle.rx_typeck_typed.specs.Demands.{members, of_each, of_element}
use Rattle.rx_typeck_demand_parts.specs.declared.walk.Walk.{Walk}
use Rattle.rx_typeck_demand_parts.specs.Walks.{over, stepped}
use Rattle.rx_typeck_demands.specs.declared.listed.Members.{Members}
use Rattle.rx_typeck_demands.specs.Pieces.{members_behind}
use Rattle.rx_typeck_demands.proofs.Ways.{or_assoc}

member_step : (f g : ℕ) (parts : List Expr) (i : ℕ) (e : Expr) (nodes : List Subject) (d : Bool) (k : Walk) → i < length parts → get_or parts i e ≡ e → g ≡ f
    → let r = of_expression false Site.Value (plain-Expr e) k.cursor in
    over (of_expressions Site.Value (expressions_of (map plain-Expr (drop (i + 1) parts)))) (of_each f members (i + 1)) (members_behind (nodes ++ type_of (node_of r.0) ∷ []) (d || diverges r.0))
    (stepped r.1 (of_element g members 0 r.0 k.demands) k)
    ≡ over (of_expressions Site.Value (expressions_of (map plain-Expr (drop i parts)))) (of_each f members i) (members_behind nodes d) k
member_step f g parts i e nodes d k h is same =
    let first : drop i parts ≡ e ∷ drop (suc i) parts = drop-cons parts i e h ∙ ap (λ x. x ∷ drop (suc i) parts) is in
    rw (add-one, first) (simp (same, append_assoc, or_assoc))

pub member_walked : (f : ℕ) (parts : List Expr) (i : ℕ) (e : Expr) (nodes more : List Subject) (d some : Bool) (s : Seen) (k next : Walk) (rest : Members × Walk)
    → i < length parts → e ≡ get_or parts i e
    → (s ≡ seen_of (of_expression false Site.Value (plain-Expr e) k.cursor).0)
    × (next ≡ stepped (of_expression false Site.Value (plain-Expr e) k.cursor).1 (of_element k.item members 0 (of_expression false Site.Value (plain-Expr e) k.cursor).0 k.demands) k)
    → more ≡ nodes ++ type_of s.node ∷ [] → some ≡ (d || s.diverges) → k.item ≡ f
    → over (of_expressions Site.Value (expressions_of (map plain-Expr (drop i parts)))) (of_each f members i) (members_behind nodes d) k ≡ rest
    → over (of_expressions Site.Value (expressions_of (map plain-Expr (drop (i + 1) parts)))) (of_each f members (i + 1)) (members_behind more some) next ≡ rest
member_walked f parts i e nodes more d some s k next rest h is a m o same before =
    simp (m, o, a.1, a.0) (member_step f k.item parts i e nodes d k h (sym is) same ∙ before)
