-- The forms of expressions with parts of several kinds: what the walk does in its steps is what it does over the whole.
use Rattle.std.proofs.Common.{◌≡◌, ℕ, Bool, true, false, ◌||◌, List, [], ◌∷◌, Option, Some, None, Result, Ok, Err, IfOk, option_map, map, refl, ap, sym, ◌∙◌}
use Rattle.rx_core.specs.declared.types.Span.{Span}
use Rattle.rx_tree.specs.declared.tree.UpdateOp.{UpdateOp}
use Rattle.rx_tree.specs.declared.tree.Expr.{Expr}
use Rattle.rx_tree.specs.declared.tree.Arm.{Arm}
use Rattle.rx_tree.specs.declared.tree.Block.{Block}
use Rattle.rx_tree.specs.declared.tree.Pattern.{Pattern}
use Rattle.rx_tree.specs.declared.tree.ExprNode.TheVariants as node
use Rattle.rx_tree.specs.Plain as plain
use Rattle.rx_tree.specs.Plain.{Expression, OptionalExpression, PatternTree, Arms, Body}
use Rattle.rx_tree.specs.PlainOf.{plain-Expr, plain-ExprNode, plain-Block, plain-Pattern, plain-Arm, optional_of, arms_of, expression_assign, expression_update, expression_block, expression_if, expression_if_let, expression_match}
use Rattle.rx_tree.proofs.Rules.{expression_by_node}
use Rattle.rx_typed.specs.declared.nodes.Node.{Node}
use Rattle.rx_typed.specs.declared.nodes.Site.{Site}
use Rattle.rx_typed.specs.Named as named
use Rattle.rx_typed.specs.Named.{Exp, never, diverges, node_of, is_place, is_variable, root, body_never}
use Rattle.rx_typed.specs.Naming.{Cursor, Numbering, a_node, of_expression, of_optional, of_body, of_arms, passed_on, assigned}
use Rattle.rx_typeck_solver.specs.declared.facts.Passing.{Passing}
use Rattle.rx_typeck_elaborate_parts.specs.declared.seen.Seen.{Seen}
use Rattle.rx_typeck_elaborate_parts.specs.Seeing.{seen_of, value_seen}
use Rattle.rx_typeck_typed.specs.Asking.{Asking}
use Rattle.rx_typeck_typed.specs.Demands.{of_exp, of_form, of_scrutinee, matched_if, through}
use Rattle.rx_typeck_demand_parts.specs.declared.walk.Walk.{Walk}
use Rattle.rx_typeck_demand_parts.specs.Places.{through_at}
use Rattle.rx_typeck_demand_parts.specs.Walks.{Walks, over, stepped, asked}
use Rattle.rx_typeck_demand_parts.proofs.Placed.{through_here}
use Rattle.rx_typeck_demands.specs.declared.assignments.Left.{Left}
use Rattle.rx_typeck_demands.specs.Pieces.{numbered_left, of_left, left_told, numbered_value, of_value, value_told, is_there, branch_place, of_condition, of_matched, of_branch, of_other, other_told, body_told, numbered_scrutinee, of_all_arms, arms_told, update_at}

-- what a step does as the last of a form is what the whole form does
pub walks_as : {A B C E : Type 0} (m : Numbering A) (n : Numbering B) (f : A → Asking) (g : B → Asking) (s : A → C) (t : B → C) (v w : Walk) (r : Result C E) (x : Walk)
    → over m f s v ≡ over n g t w → Walks m f s v r x → Walks n g t w r x
walks_as m n f g s t v w (Ok c) x e h = (h.0 ∙ ap (λ (p : _ × Walk). p.0) e, h.1 ∙ ap (λ (p : _ × Walk). p.1) e)
walks_as m n f g s t v w (Err c) x e h = tt

-- ---- `if`

if_whole : (m : Bool) (t : Site) (s : Span) (c : Expression) (b : Body) (o : OptionalExpression) (k : Walk)
    → let n = a_node s t k.cursor in
    let d = of_expression false Site.Value c n.1 in
    let e = of_body (branch_place t (is_there o)) b d.1 in
    over (of_optional (passed_on t) o) (of_other k.item n.0 (body_never e.0)) (other_told n.0 (diverges d.0) (body_told e.0))
    (stepped e.1 (of_branch k.item n.0 (is_there o) e.0 (of_condition k.item d.0 k.demands)) k)
    ≡ over (of_expression m t (plain.if s c b o)) (of_form k.item) seen_of k
if_whole m t s c b plain.absent k = refl
if_whole m t s c b (plain.present e) k = refl

pub if_walks : {E : Type 0} (m : Bool) (t : Site) (e c : Expr) (b : Block) (o : Option Expr) (w w1 w2 w3 w4 : Walk) (n : Node) (j : Bool) (d k : Seen) (r : Result Seen E)
    → e.node ≡ node.If c b o
    → (n ≡ (a_node e.span t w.cursor).0) × (w1 ≡ stepped (a_node e.span t w.cursor).1 w.demands w)
    → (d ≡ seen_of (of_expression false Site.Value (plain-Expr c) w1.cursor).0)
    × (w2 ≡ stepped (of_expression false Site.Value (plain-Expr c) w1.cursor).1 (of_condition w1.item (of_expression false Site.Value (plain-Expr c) w1.cursor).0 w1.demands) w1)
    → j ≡ is_there (optional_of (option_map plain-Expr o))
    → (k ≡ body_told (of_body (branch_place n.site j) (plain-Block b) w2.cursor).0)
    × (w3 ≡ stepped (of_body (branch_place n.site j) (plain-Block b) w2.cursor).1 (of_branch w2.item n j (of_body (branch_place n.site j) (plain-Block b) w2.cursor).0 w2.demands) w2)
    → Walks (of_optional (passed_on n.site) (optional_of (option_map plain-Expr o))) (of_other w3.item n k.never) (other_told n d.diverges k) w3 r w4
    → Walks (of_expression m t (plain-Expr e)) (of_form w.item) seen_of w r w4
if_walks m t e c b o w w1 w2 w3 w4 n j d k r is a p there q last =
    walks_as (of_optional (passed_on n.site) (optional_of (option_map plain-Expr o))) (of_expression m t (plain-Expr e)) (of_other w3.item n k.never) (of_form w.item)
    (other_told n d.diverges k) seen_of w3 w r w4
    (simp (expression_by_node e, is, expression_if, q.0, q.1, there, p.0, p.1, a.0, a.1) (if_whole m t e.span (plain-Expr c) (plain-Block b) (optional_of (option_map plain-Expr o)) w))
    last

-- ---- `if let`

if_let_whole : (m : Bool) (t : Site) (s : Span) (p : PatternTree) (v : Expression) (b : Body) (o : OptionalExpression) (k : Walk)
    → let n = a_node s t k.cursor in
    let d = numbered_scrutinee p v n.1 in
    let e = of_body (branch_place t (is_there o)) b d.1 in
    over (of_optional (passed_on t) o) (of_other k.item n.0 (body_never e.0)) (other_told n.0 (diverges d.0.1) (body_told e.0))
    (stepped e.1 (of_branch k.item n.0 (is_there o) e.0 (of_scrutinee k.item d.0 k.demands)) k)
    ≡ over (of_expression m t (plain.if_let s p v b o)) (of_form k.item) seen_of k
if_let_whole m t s p v b plain.absent k = refl
if_let_whole m t s p v b (plain.present e) k = refl

pub if_let_walks : {E : Type 0} (m : Bool) (t : Site) (e : Expr) (y : Pattern) (c : Expr) (b : Block) (o : Option Expr) (w w1 w2 w3 w4 : Walk) (n : Node) (j : Bool) (d k : Seen) (r : Result Seen E)
    → e.node ≡ node.IfLet y c b o
    → (n ≡ (a_node e.span t w.cursor).0) × (w1 ≡ stepped (a_node e.span t w.cursor).1 w.demands w)
    → (d ≡ seen_of (numbered_scrutinee (plain-Pattern y) (plain-Expr c) w1.cursor).0.1)
    × (w2 ≡ stepped (numbered_scrutinee (plain-Pattern y) (plain-Expr c) w1.cursor).1 (of_scrutinee w1.item (numbered_scrutinee (plain-Pattern y) (plain-Expr c) w1.cursor).0 w1.demands) w1)
    → j ≡ is_there (optional_of (option_map plain-Expr o))
    → (k ≡ body_told (of_body (branch_place n.site j) (plain-Block b) w2.cursor).0)
    × (w3 ≡ stepped (of_body (branch_place n.site j) (plain-Block b) w2.cursor).1 (of_branch w2.item n j (of_body (branch_place n.site j) (plain-Block b) w2.cursor).0 w2.demands) w2)
    → Walks (of_optional (passed_on n.site) (optional_of (option_map plain-Expr o))) (of_other w3.item n k.never) (other_told n d.diverges k) w3 r w4
    → Walks (of_expression m t (plain-Expr e)) (of_form w.item) seen_of w r w4
if_let_walks m t e y c b o w w1 w2 w3 w4 n j d k r is a p there q last =
    let number : Walk → (_ × Cursor) = λ (x : Walk). numbered_scrutinee (plain-Pattern y) (plain-Expr c) x.cursor in
    let second : Walk → Walk = λ (x : Walk). stepped (number x).1 (of_scrutinee x.item (number x).0 x.demands) x in
    let body : Node → Bool → Walk → (named.Body × Cursor) = λ (x : Node) (z : Bool) (u : Walk). of_body (branch_place x.site z) (plain-Block b) u.cursor in
    let third : Node → Bool → Walk → Walk = λ (x : Node) (z : Bool) (u : Walk). stepped (body x z u).1 (of_branch u.item x z (body x z u).0 u.demands) u in
    let behind : w2 ≡ second (stepped (a_node e.span t w.cursor).1 w.demands w) = p.1 ∙ ap second a.1 in
    let value : d ≡ seen_of (number (stepped (a_node e.span t w.cursor).1 w.demands w)).0.1 = p.0 ∙ ap (λ (x : Walk). seen_of (number x).0.1) a.1 in
    let told : k ≡ body_told (body (a_node e.span t w.cursor).0 (is_there (optional_of (option_map plain-Expr o))) (second (stepped (a_node e.span t w.cursor).1 w.demands w))).0 =
    q.0 ∙ (λ i. body_told (body (a.0 i) (there i) (behind i)).0) in
    let end : w3 ≡ third (a_node e.span t w.cursor).0 (is_there (optional_of (option_map plain-Expr o))) (second (stepped (a_node e.span t w.cursor).1 w.demands w)) =
    q.1 ∙ (λ i. third (a.0 i) (there i) (behind i)) in
    let written : plain-Expr e ≡ plain.if_let e.span (plain-Pattern y) (plain-Expr c) (plain-Block b) (optional_of (option_map plain-Expr o)) =
    expression_by_node e ∙ ap (λ x. plain-ExprNode x e.span) is ∙ expression_if_let e.span y c b o in
    walks_as (of_optional (passed_on n.site) (optional_of (option_map plain-Expr o))) (of_expression m t (plain-Expr e)) (of_other w3.item n k.never) (of_form w.item)
    (other_told n d.diverges k) seen_of w3 w r w4
    ((λ i. over (of_optional (passed_on (a.0 i).site) (optional_of (option_map plain-Expr o))) (of_other (end i).item (a.0 i) (told i).never) (other_told (a.0 i) (value i).diverges (told i)) (end i))
    ∙ if_let_whole m t e.span (plain-Pattern y) (plain-Expr c) (plain-Block b) (optional_of (option_map plain-Expr o)) w
    ∙ sym (ap (λ (x : Expression). over (of_expression m t x) (of_form w.item) seen_of w) written))
    last

-- ---- `match`

match_whole : (m : Bool) (t : Site) (s : Span) (v : Expression) (l : Arms) (k : Walk)
    → let n = a_node s t k.cursor in
    let d = of_expression false Site.Scrutinee v n.1 in
    over (of_arms (passed_on t) l) (of_all_arms k.item n.0 (matched_if (is_place d.0) (node_of d.0) (root d.0).number (through d.0)) (node_of d.0)) (arms_told n.0 (diverges d.0))
    (stepped d.1 (of_matched k.item d.0 k.demands) k)
    ≡ over (of_expression m t (plain.match s v l)) (of_form k.item) seen_of k
match_whole m t s v l k = refl

pub match_walks : {E : Type 0} (m : Bool) (t : Site) (e c : Expr) (l : List Arm) (w w1 w2 w3 : Walk) (n : Node) (d : Seen) (ps : List Passing) (r : Result Seen E)
    → e.node ≡ node.Match c l
    → (n ≡ (a_node e.span t w.cursor).0) × (w1 ≡ stepped (a_node e.span t w.cursor).1 w.demands w)
    → (d ≡ seen_of (of_expression false Site.Scrutinee (plain-Expr c) w1.cursor).0)
    × (w2 ≡ stepped (of_expression false Site.Scrutinee (plain-Expr c) w1.cursor).1 (of_matched w1.item (of_expression false Site.Scrutinee (plain-Expr c) w1.cursor).0 w1.demands) w1)
    → ps ≡ through_at (plain-Expr c) d.node.number
    → Walks (of_arms (passed_on n.site) (arms_of (map plain-Arm l))) (of_all_arms w2.item n (matched_if d.place d.node d.root.number ps) d.node) (arms_told n d.diverges) w2 r w3
    → Walks (of_expression m t (plain-Expr e)) (of_form w.item) seen_of w r w3
match_walks m t e c l w w1 w2 w3 n d ps r is a p by last =
    let passed : ps ≡ through (of_expression false Site.Scrutinee (plain-Expr c) w1.cursor).0 =
    by ∙ ap (λ (x : Seen). through_at (plain-Expr c) x.node.number) p.0 ∙ sym (through_here false Site.Scrutinee c w1.cursor) in
    walks_as (of_arms (passed_on n.site) (arms_of (map plain-Arm l))) (of_expression m t (plain-Expr e)) (of_all_arms w2.item n (matched_if d.place d.node d.root.number ps) d.node) (of_form w.item)
    (arms_told n d.diverges) seen_of w2 w r w3
    (simp (expression_by_node e, is, expression_match, passed, p.0, p.1, a.0, a.1) (match_whole m t e.span (plain-Expr c) (arms_of (map plain-Arm l)) w))
    last

-- ---- assignments

assigned_over : (n : Node) (q : Exp) (x : Option (ℕ × ℕ)) (v : Expression) (k : Walk)
    → over (numbered_value x v) (of_value k.item n x (seen_of q) (through q)) (value_told n x (seen_of q)) (stepped k.cursor (of_left k.item x q k.demands) k)
    ≡ over (assigned n q x (λ t. of_expression false t v)) (of_form k.item) seen_of k
assigned_over n q None v k = refl
assigned_over n q (Some x) v k = refl

assign_whole : (m : Bool) (t : Site) (s : Span) (p v : Expression) (k : Walk)
    → let n = a_node s t k.cursor in
    let q = numbered_left p n.1 in
    over (numbered_value q.0.1 v) (of_value k.item n.0 q.0.1 (seen_of q.0.0) (through q.0.0)) (value_told n.0 q.0.1 (seen_of q.0.0)) (stepped q.1 (of_left k.item q.0.1 q.0.0 k.demands) k)
    ≡ over (of_expression m t (plain.assign s p v)) (of_form k.item) seen_of k
assign_whole m t s p v k =
    let n = a_node s t k.cursor in
    let q = numbered_left p n.1 in
    assigned_over n.0 q.0.0 q.0.1 v (stepped q.1 k.demands k)

pub assign_walks : {E : Type 0} (m : Bool) (t : Site) (e y c : Expr) (w w1 w2 w3 : Walk) (n : Node) (d : Left) (r : Result Seen E)
    → e.node ≡ node.Assign y c
    → (n ≡ (a_node e.span t w.cursor).0) × (w1 ≡ stepped (a_node e.span t w.cursor).1 w.demands w)
    → (d ≡ left_told (numbered_left (plain-Expr y) w1.cursor).0)
    × (w2 ≡ stepped (numbered_left (plain-Expr y) w1.cursor).1 (of_left w1.item (numbered_left (plain-Expr y) w1.cursor).0.1 (numbered_left (plain-Expr y) w1.cursor).0.0 w1.demands) w1)
    → Walks (numbered_value d.waits (plain-Expr c)) (of_value w2.item n d.waits d.seen (through_at (plain-Expr y) d.seen.node.number)) (value_told n d.waits d.seen) w2 r w3
    → Walks (of_expression m t (plain-Expr e)) (of_form w.item) seen_of w r w3
assign_walks m t e y c w w1 w2 w3 n d r is a p last =
    let first : Walk = stepped (a_node e.span t w.cursor).1 w.demands w in
    let left : Walk → ((Exp × Option (ℕ × ℕ)) × Cursor) = λ (x : Walk). numbered_left (plain-Expr y) x.cursor in
    let second : Walk → Walk = λ (x : Walk). stepped (left x).1 (of_left x.item (left x).0.1 (left x).0.0 x.demands) x in
    let told : d ≡ left_told (left first).0 = p.0 ∙ ap (λ (x : Walk). left_told (left x).0) a.1 in
    let behind : w2 ≡ second first = p.1 ∙ ap second a.1 in
    let passed : through_at (plain-Expr y) (node_of (left first).0.0).number ≡ through (left first).0.0 = sym (through_here false Site.Place y first.cursor) in
    let written : plain-Expr e ≡ plain.assign e.span (plain-Expr y) (plain-Expr c) =
    expression_by_node e ∙ ap (λ x. plain-ExprNode x e.span) is ∙ expression_assign e.span y c in
    walks_as (numbered_value d.waits (plain-Expr c)) (of_expression m t (plain-Expr e)) (of_value w2.item n d.waits d.seen (through_at (plain-Expr y) d.seen.node.number)) (of_form w.item)
    (value_told n d.waits d.seen) seen_of w2 w r w3
    ((λ i. over (numbered_value (told i).waits (plain-Expr c)) (of_value (behind i).item (a.0 i) (told i).waits (told i).seen (through_at (plain-Expr y) (told i).seen.node.number))
    (value_told (a.0 i) (told i).waits (told i).seen) (behind i))
    ∙ (λ i. over (numbered_value (left first).0.1 (plain-Expr c)) (of_value w.item (a_node e.span t w.cursor).0 (left first).0.1 (seen_of (left first).0.0) (passed i))
    (value_told (a_node e.span t w.cursor).0 (left first).0.1 (seen_of (left first).0.0)) (second first))
    ∙ assign_whole m t e.span (plain-Expr y) (plain-Expr c) w
    ∙ sym (ap (λ (x : Expression). over (of_expression m t x) (of_form w.item) seen_of w) written))
    last

-- ---- operations with assignment

last_as : {B C E : Type 0} (n : Numbering B) (g : B → Asking) (t : B → C) (w : Walk) (r : Result C E) (x : Walk) (s : C) (y : Walk)
    → (s, y) ≡ over n g t w → IfOk r (λ c. (c ≡ s) × (x ≡ y)) → Walks n g t w r x
last_as n g t w (Ok c) x s y e h = (h.0 ∙ ap (λ (p : _ × Walk). p.0) e, h.1 ∙ ap (λ (p : _ × Walk). p.1) e)
last_as n g t w (Err c) x s y e h = tt

update_whole : (m : Bool) (t : Site) (s : Span) (o : UpdateOp) (p v : Expression) (k : Walk)
    → let n = a_node s t k.cursor in
    let q = of_expression false Site.Place p n.1 in
    let x = of_expression false Site.Value v q.1 in (
      value_seen n.0 false (diverges q.0 || diverges x.0),
      stepped x.1 (update_at n.0 (node_of q.0) (never q.0) (node_of x.0) (never x.0) (is_variable q.0) (root q.0) (through q.0)
          (of_exp k.item x.0 (of_exp k.item q.0 k.demands))) k,
    )
    ≡ over (of_expression m t (plain.update s o p v)) (of_form k.item) seen_of k
update_whole m t s o p v k = refl

pub update_walks : {E : Type 0} (m : Bool) (t : Site) (e : Expr) (o : UpdateOp) (y c : Expr) (w w1 w2 w3 w4 : Walk) (n : Node) (d x : Seen) (r : Result Seen E)
    → e.node ≡ node.Update o y c
    → (n ≡ (a_node e.span t w.cursor).0) × (w1 ≡ stepped (a_node e.span t w.cursor).1 w.demands w)
    → (d ≡ seen_of (of_expression false Site.Place (plain-Expr y) w1.cursor).0)
    × (w2 ≡ stepped (of_expression false Site.Place (plain-Expr y) w1.cursor).1 (of_exp w1.item (of_expression false Site.Place (plain-Expr y) w1.cursor).0 w1.demands) w1)
    → (x ≡ seen_of (of_expression false Site.Value (plain-Expr c) w2.cursor).0)
    × (w3 ≡ stepped (of_expression false Site.Value (plain-Expr c) w2.cursor).1 (of_exp w2.item (of_expression false Site.Value (plain-Expr c) w2.cursor).0 w2.demands) w2)
    → IfOk r (λ seen. (seen ≡ value_seen n false (d.diverges || x.diverges)) × (w4 ≡ asked (update_at n d.node d.never x.node x.never d.whole d.root (through_at (plain-Expr y) d.node.number)) w3))
    → Walks (of_expression m t (plain-Expr e)) (of_form w.item) seen_of w r w4
update_walks m t e o y c w w1 w2 w3 w4 n d x r is a p q last =
    let first : Walk = stepped (a_node e.span t w.cursor).1 w.demands w in
    let left : Walk → (Exp × Cursor) = λ (z : Walk). of_expression false Site.Place (plain-Expr y) z.cursor in
    let right : Walk → (Exp × Cursor) = λ (z : Walk). of_expression false Site.Value (plain-Expr c) z.cursor in
    let second : Walk → Walk = λ (z : Walk). stepped (left z).1 (of_exp z.item (left z).0 z.demands) z in
    let third : Walk → Walk = λ (z : Walk). stepped (right z).1 (of_exp z.item (right z).0 z.demands) z in
    let told : d ≡ seen_of (left first).0 = p.0 ∙ ap (λ (z : Walk). seen_of (left z).0) a.1 in
    let behind : w2 ≡ second first = p.1 ∙ ap second a.1 in
    let value : x ≡ seen_of (right (second first)).0 = q.0 ∙ ap (λ (z : Walk). seen_of (right z).0) behind in
    let end : w3 ≡ third (second first) = q.1 ∙ ap third behind in
    let passed : through_at (plain-Expr y) (node_of (left first).0).number ≡ through (left first).0 = sym (through_here false Site.Place y first.cursor) in
    let written : plain-Expr e ≡ plain.update e.span o (plain-Expr y) (plain-Expr c) =
    expression_by_node e ∙ ap (λ z. plain-ExprNode z e.span) is ∙ expression_update e.span o y c in
    let made : Node → Seen → Seen → List Passing → Walk → (Seen × Walk) = λ (u : Node) (f : Seen) (g : Seen) (ps : List Passing) (z : Walk).
    (value_seen u false (f.diverges || g.diverges), asked (update_at u f.node f.never g.node g.never f.whole f.root ps) z) in
    last_as (of_expression m t (plain-Expr e)) (of_form w.item) seen_of w r w4 (value_seen n false (d.diverges || x.diverges))
    (asked (update_at n d.node d.never x.node x.never d.whole d.root (through_at (plain-Expr y) d.node.number)) w3)
    ((λ i. made (a.0 i) (told i) (value i) (through_at (plain-Expr y) (told i).node.number) (end i))
    ∙ (λ i. made (a_node e.span t w.cursor).0 (seen_of (left first).0) (seen_of (right (second first)).0) (passed i) (third (second first)))
    ∙ update_whole m t e.span o (plain-Expr y) (plain-Expr c) w
    ∙ sym (ap (λ (z : Expression). over (of_expression m t z) (of_form w.item) seen_of w) written))
    last

-- ---- blocks

pub block_walks : {E : Type 0} (m : Bool) (t : Site) (e : Expr) (b c : Block) (w w1 : Walk) (r : Result Seen E)
    → e.node ≡ node.Block b → c ≡ b
    → Walks (of_expression false t (plain.block e.span (plain-Block c))) (of_form w.item) seen_of w r w1
    → Walks (of_expression m t (plain-Expr e)) (of_form w.item) seen_of w r w1
block_walks m t e b c w w1 r is same last =
    let written : plain-Expr e ≡ plain.block e.span (plain-Block b) = expression_by_node e ∙ ap (λ x. plain-ExprNode x e.span) is ∙ expression_block e.span b in
    walks_as (of_expression false t (plain.block e.span (plain-Block c))) (of_expression m t (plain-Expr e)) (of_form w.item) (of_form w.item) seen_of seen_of w w r w1
    (ap (λ (x : Block). over (of_expression m t (plain.block e.span (plain-Block x))) (of_form w.item) seen_of w) same
    ∙ sym (ap (λ (x : Expression). over (of_expression m t x) (of_form w.item) seen_of w) written))
    last
