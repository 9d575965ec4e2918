-- One more statement, field or arm.
use Rattle.std.proofs.Common.{◌≡◌, ℕ, suc, ◌+◌, ◌<◌, Bool, false, ◌||◌, ◌&&◌, List, [], ◌∷◌, length, map, drop, get_or, ap, sym, ◌∙◌, add-one, drop-cons}
use Rattle.rx_tree.specs.declared.tree.Arm.{Arm}
use Rattle.rx_tree.specs.declared.tree.FieldExpr.{FieldExpr}
use Rattle.rx_tree.specs.declared.tree.Stmt.{Stmt}
use Rattle.rx_tree.specs.PlainOf.{plain-Arm, plain-FieldExpr, plain-Stmt, arms_of, field_expressions_of, statements_of}
use Rattle.rx_typed.specs.declared.nodes.Node.{Node}
use Rattle.rx_typed.specs.declared.nodes.Site.{Site}
use Rattle.rx_typed.specs.Named.{never, diverges, any_field_diverges, some_diverges, statement_diverges}
use Rattle.rx_typed.specs.Naming as naming
use Rattle.rx_typed.specs.Naming.{of_expression}
use Rattle.rx_typeck_elaborate_parts.specs.declared.seen.Seen.{Seen}
use Rattle.rx_typeck_elaborate_parts.specs.Seeing.{seen_of}
use Rattle.rx_typeck_typed.specs.Demands as demands
use Rattle.rx_typeck_typed.specs.Demands.{Matched}
use Rattle.rx_typeck_demand_parts.specs.declared.walk.Walk.{Walk}
use Rattle.rx_typeck_demand_parts.specs.Walks.{over, stepped}
use Rattle.rx_typeck_demands.specs.declared.listed.Ways.{Ways}
use Rattle.rx_typeck_demands.specs.Pieces.{numbered_arm, ways_behind}
use Rattle.rx_typeck_demands.proofs.Ways.{or_assoc, and_assoc}

statement_step : (f g : ℕ) (l : List Stmt) (i : ℕ) (a : Stmt) (d : Bool) (k : Walk) → i < length l → get_or l i a ≡ a → g ≡ f
    → let r = naming.of_statement (plain-Stmt a) k.cursor in
    over (naming.of_statements (statements_of (map plain-Stmt (drop (i + 1) l)))) (demands.of_statements f) (λ ss. (d || statement_diverges r.0) || some_diverges ss)
    (stepped r.1 (demands.of_statement g r.0 k.demands) k)
    ≡ over (naming.of_statements (statements_of (map plain-Stmt (drop i l)))) (demands.of_statements f) (λ ss. d || some_diverges ss) k
statement_step f g l i a d k h is same =
    let first : drop i l ≡ a ∷ drop (suc i) l = drop-cons l i a h ∙ ap (λ x. x ∷ drop (suc i) l) is in
    rw (add-one, first) (simp (same, or_assoc))

pub statement_walked : (f : ℕ) (l : List Stmt) (i : ℕ) (a : Stmt) (d some one : Bool) (k next : Walk) (rest : Bool × Walk)
    → i < length l → a ≡ get_or l i a
    → (one ≡ statement_diverges (naming.of_statement (plain-Stmt a) k.cursor).0)
    × (next ≡ stepped (naming.of_statement (plain-Stmt a) k.cursor).1 (demands.of_statement k.item (naming.of_statement (plain-Stmt a) k.cursor).0 k.demands) k)
    → some ≡ (d || one) → k.item ≡ f
    → over (naming.of_statements (statements_of (map plain-Stmt (drop i l)))) (demands.of_statements f) (λ ss. d || some_diverges ss) k ≡ rest
    → over (naming.of_statements (statements_of (map plain-Stmt (drop (i + 1) l)))) (demands.of_statements f) (λ ss. some || some_diverges ss) next ≡ rest
statement_walked f l i a d some one k next rest h is p o same before = simp (o, p.1, p.0) (statement_step f k.item l i a d k h (sym is) same ∙ before)

field_step : (f g j : ℕ) (l : List FieldExpr) (i : ℕ) (x : FieldExpr) (d : Bool) (k : Walk) → i < length l → get_or l i x ≡ x → g ≡ f
    → let r = of_expression false Site.Expects (plain-FieldExpr x).1 k.cursor in
    over (naming.of_fields (field_expressions_of (map plain-FieldExpr (drop (i + 1) l)))) (demands.of_fields f j) (λ fs. (d || diverges r.0) || any_field_diverges fs)
    (stepped r.1 (demands.of_field g j (plain-FieldExpr x).0.name r.0 k.demands) k)
    ≡ over (naming.of_fields (field_expressions_of (map plain-FieldExpr (drop i l)))) (demands.of_fields f j) (λ fs. d || any_field_diverges fs) k
field_step f g j l i x d k h is same =
    let first : drop i l ≡ x ∷ drop (suc i) l = drop-cons l i x h ∙ ap (λ a. a ∷ drop (suc i) l) is in
    rw (add-one, first) (simp (same, or_assoc))

pub field_walked : (f j : ℕ) (l : List FieldExpr) (i : ℕ) (x : FieldExpr) (d some : Bool) (s : Seen) (k next : Walk) (rest : Bool × Walk)
    → i < length l → x ≡ get_or l i x
    → (s ≡ seen_of (of_expression false Site.Expects (plain-FieldExpr x).1 k.cursor).0)
    × (next ≡ stepped (of_expression false Site.Expects (plain-FieldExpr x).1 k.cursor).1
    (demands.of_field k.item j (plain-FieldExpr x).0.name (of_expression false Site.Expects (plain-FieldExpr x).1 k.cursor).0 k.demands) k)
    → some ≡ (d || s.diverges) → k.item ≡ f
    → over (naming.of_fields (field_expressions_of (map plain-FieldExpr (drop i l)))) (demands.of_fields f j) (λ fs. d || any_field_diverges fs) k ≡ rest
    → over (naming.of_fields (field_expressions_of (map plain-FieldExpr (drop (i + 1) l)))) (demands.of_fields f j) (λ fs. some || any_field_diverges fs) next ≡ rest
field_walked f j l i x d some s k next rest h is p o same before = simp (o, p.1, p.0) (field_step f k.item j l i x d k h (sym is) same ∙ before)

arm_step : (f g : ℕ) (n : Node) (q : Matched) (m : Node) (l : List Arm) (i : ℕ) (a : Arm) (v d : Bool) (k : Walk) → i < length l → get_or l i a ≡ a → g ≡ f
    → let r = numbered_arm (naming.passed_on n.site) (plain-Arm a) k.cursor in
    over (naming.of_arms (naming.passed_on n.site) (arms_of (map plain-Arm (drop (i + 1) l)))) (demands.of_arms f n q m) (ways_behind (v && never r.0.1) (d && diverges r.0.1))
    (stepped r.1 (demands.of_arm g n q m r.0 k.demands) k)
    ≡ over (naming.of_arms (naming.passed_on n.site) (arms_of (map plain-Arm (drop i l)))) (demands.of_arms f n q m) (ways_behind v d) k
arm_step f g n q m l i a v d k h is same =
    let first : drop i l ≡ a ∷ drop (suc i) l = drop-cons l i a h ∙ ap (λ x. x ∷ drop (suc i) l) is in
    rw (add-one, first) (simp (same, and_assoc))

pub arm_walked : (f : ℕ) (n : Node) (q : Matched) (m : Node) (l : List Arm) (i : ℕ) (a : Arm) (v d never_all diverge_all : Bool) (s : Seen) (k next : Walk) (rest : Ways × Walk)
    → i < length l → a ≡ get_or l i a
    → (s ≡ seen_of (numbered_arm (naming.passed_on n.site) (plain-Arm a) k.cursor).0.1)
    × (next ≡ stepped (numbered_arm (naming.passed_on n.site) (plain-Arm a) k.cursor).1
    (demands.of_arm k.item n q m (numbered_arm (naming.passed_on n.site) (plain-Arm a) k.cursor).0 k.demands) k)
    → never_all ≡ (v && s.never) → diverge_all ≡ (d && s.diverges) → k.item ≡ f
    → over (naming.of_arms (naming.passed_on n.site) (arms_of (map plain-Arm (drop i l)))) (demands.of_arms f n q m) (ways_behind v d) k ≡ rest
    → over (naming.of_arms (naming.passed_on n.site) (arms_of (map plain-Arm (drop (i + 1) l)))) (demands.of_arms f n q m) (ways_behind never_all diverge_all) next ≡ rest
arm_walked f n q m l i a v d never_all diverge_all s k next rest h is p o u same before =
    simp (o, u, p.1, p.0) (arm_step f k.item n q m l i a v d k h (sym is) same ∙ before)
