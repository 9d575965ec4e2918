-- A block is added where it is sought.
use Rattle.std.proofs.Common.{◌≡◌, ℕ, ◌==◌, Bool, true, false, ◌&&◌, if◌then◌else◌, List, [], ◌∷◌, ◌++◌, length, map, sym, ap, ◌∙◌}
use Rattle.std.proofs.lemmas.Bool.{eq-eqb, ne_eqb, and_from, and_left, and_right}
use Rattle.std.proofs.lemmas.List.{append-nil, map-append, length-map}
use Rattle.rx_typed.specs.Tree.{Exp}
use Rattle.rx_typed.specs.declared.tree.Stmt.{Stmt}
use Rattle.rx_typed.specs.PlainTree.{plain-Stmt, nested_of}
use Rattle.rx_exits_plan.specs.Blocks.{statements}
use Rattle.rx_exits_plan.specs.Spots.{Around, a_block}
use Rattle.rx_exits_plan.specs.Runs as runs
use Rattle.rx_exits_plan.specs.declared.plan.Run.{Run}
use Rattle.rx_exits_plan.specs.PlainPlan.{plain-Run}
use Rattle.rx_exits_plan.specs.declared.parts.Home.{Home}
use Rattle.rx_exits_plan.specs.PlainSyntax.{plain-Home, plain-Jump, plain-Statement}
use Rattle.rx_exits_plan.proofs.StatementLemmas.{body_statements}
use Rattle.rx_exits_jumps.specs.declared.sought.Sought as code
use Rattle.rx_exits_jumps.specs.declared.sought.Found as found
use Rattle.rx_exits_jumps.specs.PlainSought.{plain-Sought, plain-Found}
use Rattle.rx_exits_jumps.specs.Seen.{has_run, Found, the_run, with_spots}

long : (ss : List Stmt) (t : Exp) → length (statements (nested_of (map plain-Stmt ss) t)) ≡ length ss
long ss t = ap length (body_statements ss t) ∙ length-map ss plain-Statement

is_home : (r : Run) (n : ℕ) (ss : List Stmt) (t : Exp) (c : Bool) → (n == r.block) && has_run (plain-Run r) (length ss) ≡ c → (n == r.block) && has_run (plain-Run r) (length (statements (nested_of (map plain-Stmt ss) t))) ≡ c
is_home r n ss t c e = ap (λ k. (n == r.block) && has_run (plain-Run r) k) (long ss t) ∙ e

added : (r : Run) (f : found.Found) (hs : List Home) (h : Home) (a : Around) (n : ℕ) (ss : List Stmt) (t : Exp) → (n == r.block) && has_run (plain-Run r) (length ss) ≡ true
    → hs ≡ f.homes ++ h ∷ [] → plain-Home h ≡ record { around = a; body = nested_of (map plain-Stmt ss) t }
    → plain-Found (record { homes = hs; jumps = f.jumps }) ≡ with_spots (the_run (plain-Run r)) (plain-Found f) (a_block a n (nested_of (map plain-Stmt ss) t) ∷ [])
added r f hs h a n ss t holds e is =
    let it : runs.Home = record { around = a; body = nested_of (map plain-Stmt ss) t } in
    ap (λ (l : List runs.Home). let g : Found = record { homes = l; jumps = map plain-Jump f.jumps } in g)
    (ap (map plain-Home) e ∙ map-append plain-Home f.homes (h ∷ []) ∙ ap (λ (x : runs.Home). map plain-Home f.homes ++ x ∷ []) is
    ∙ ap (λ (c : Bool). map plain-Home f.homes ++ ((if c then it ∷ [] else []) ++ [])) (sym (is_home r n ss t true holds)))

passed : (r : Run) (f : found.Found) (a : Around) (n : ℕ) (ss : List Stmt) (t : Exp) → (n == r.block) && has_run (plain-Run r) (length ss) ≡ false
    → plain-Found f ≡ with_spots (the_run (plain-Run r)) (plain-Found f) (a_block a n (nested_of (map plain-Stmt ss) t) ∷ [])
passed r f a n ss t fails =
    let it : runs.Home = record { around = a; body = nested_of (map plain-Stmt ss) t } in
    ap (λ (l : List runs.Home). let g : Found = record { homes = l; jumps = map plain-Jump f.jumps } in g)
    (sym (append-nil (map plain-Home f.homes)) ∙ ap (λ (c : Bool). map plain-Home f.homes ++ ((if c then it ∷ [] else []) ++ [])) (sym (is_home r n ss t false fails)))

pub home_added : (s : code.Sought) (r : Run) (f : found.Found) (hs : List Home) (h : Home) (a : Around) (n : ℕ) (ss : List Stmt) (t : Exp) (b : Bool) → s ≡ code.TheVariants.Blocks r → n ≡ r.block
    → b ≡ has_run (plain-Run r) (length ss) → b ≡ true → hs ≡ f.homes ++ h ∷ [] → plain-Home h ≡ record { around = a; body = nested_of (map plain-Stmt ss) t }
    → plain-Found (record { homes = hs; jumps = f.jumps }) ≡ with_spots (plain-Sought s) (plain-Found f) (a_block a n (nested_of (map plain-Stmt ss) t) ∷ [])
home_added s r f hs h a n ss t b is same has holds e made =
    added r f hs h a n ss t (and_from (n == r.block) (has_run (plain-Run r) (length ss)) (eq-eqb n r.block same) (sym has ∙ holds)) e made
    ∙ ap (λ k. with_spots (plain-Sought k) (plain-Found f) (a_block a n (nested_of (map plain-Stmt ss) t) ∷ [])) (sym is)

pub other_node : (s : code.Sought) (r : Run) (f : found.Found) (a : Around) (n : ℕ) (ss : List Stmt) (t : Exp) → s ≡ code.TheVariants.Blocks r → (n ≡ r.block → ⊥)
    → plain-Found f ≡ with_spots (plain-Sought s) (plain-Found f) (a_block a n (nested_of (map plain-Stmt ss) t) ∷ [])
other_node s r f a n ss t is fails =
    passed r f a n ss t (and_left (n == r.block) (has_run (plain-Run r) (length ss)) (ne_eqb n r.block fails))
    ∙ ap (λ k. with_spots (plain-Sought k) (plain-Found f) (a_block a n (nested_of (map plain-Stmt ss) t) ∷ [])) (sym is)

pub no_run : (s : code.Sought) (r : Run) (f : found.Found) (a : Around) (n : ℕ) (ss : List Stmt) (t : Exp) (b : Bool) → s ≡ code.TheVariants.Blocks r → b ≡ has_run (plain-Run r) (length ss) → b ≡ false
    → plain-Found f ≡ with_spots (plain-Sought s) (plain-Found f) (a_block a n (nested_of (map plain-Stmt ss) t) ∷ [])
no_run s r f a n ss t b is has fails =
    passed r f a n ss t (and_right (n == r.block) (has_run (plain-Run r) (length ss)) (sym has ∙ fails))
    ∙ ap (λ k. with_spots (plain-Sought k) (plain-Found f) (a_block a n (nested_of (map plain-Stmt ss) t) ∷ [])) (sym is)
