-- The spots of the forms of expressions of the code.
use Rattle.std.proofs.Common.{◌≡◌, ℕ, ◌+◌, ◌<◌, Bool, List, [], ◌∷◌, ◌++◌, map, take, drop, length, get_or, Result, Ok, Err, OnOk, refl, sym, ap, ◌∙◌, subst}
use Rattle.std.proofs.lemmas.List.{append_assoc, append-nil, take_at}
use Rattle.std.specs.declared.alloc.AllocError.{AllocError}
use Rattle.rx_typed.specs.Tree as tree
use Rattle.rx_typed.specs.Tree.{Exp, Scrutinee, Body, Pattern}
use Rattle.rx_typed.specs.declared.tree.Form.{Form}
use Rattle.rx_typed.specs.declared.tree.Form.TheOpen as open_form
use Rattle.rx_typed.specs.declared.tree.Form.TheVariants as form
use Rattle.rx_typed.specs.declared.tree.Stmt.{Stmt, Stmt-F, fold_out-Stmt}
use Rattle.rx_typed.specs.declared.tree.Stmt.TheVariants as stmt
use Rattle.rx_typed.specs.declared.tree.Expr.{Expr}
use Rattle.rx_typed.specs.declared.tree.Matched.{Matched}
use Rattle.rx_typed.specs.declared.tree.Pattern as code
use Rattle.rx_typed.specs.declared.tree.Arm.{Arm}
use Rattle.rx_typed.specs.declared.tree.Operand.{Operand}
use Rattle.rx_typed.specs.PlainTree.{plain-Mark, plain-Pattern, plain-Form, plain-Matched, plain-Stmt, plain-Arm, plain-Expr, plain-Operand, form_step, matched_step, stmt_step, arm_step, expr_step, operand_step, nested_of, arms_of, operands_of, form_lazily, form_block, form_choose, stmt_runs, stmt_declares, stmt_lets}
use Rattle.rx_typed.proofs.Rules.{expr_by_form, arm_by_parts, operand_by_parts}
use Rattle.rx_exits_plan.specs.Blocks.{does, begins, binds, bound, declared_by, declared_by_all}
use Rattle.rx_exits_plan.specs.Spots.{Around, with_variables, with_loop, Spot, a_block, a_return, spots, spots_in, spots_matched, spots_armed, spots_of}
use Rattle.rx_exits_plan.specs.Exits.{past, spots_in_statements}
use Rattle.rx_exits_plan.specs.PlainSyntax.{plain-Statement, plain-Around, grown, first_of, no_more}
use Rattle.rx_exits_plan.specs.declared.around.Around as stack
use Rattle.rx_exits_plan.proofs.AroundLemmas.{plain_grown, plain_looped}
use Rattle.rx_exits_plan.proofs.Turns.{next_of}
use Rattle.rx_exits_jumps.specs.Seen.{Sought, Found, with_spots}
use Rattle.rx_exits_jumps.proofs.SeenLemmas.{with_none, statements_split, past_is}

pub no_more_spots : (l : List Spot) → l ++ [] ≡ l
no_more_spots l = append-nil l

pub ruleset seeing_rules = (with_none, no_more_spots)

-- ---- blocks

layer_spots : (x : Stmt-F (tree.Mark → Exp) Scrutinee (Body → Body) (Pattern × Exp) Exp (ℕ × Exp)) (a : Around) (b : Body)
    → spots_of a (stmt_step x b) ≡ spots_in_statements a (first_of (stmt_step x no_more) ∷ []) ++ spots_of (with_variables (declared_by (first_of (stmt_step x no_more))) a) b
layer_spots (open_form.Runs e) a b = ap (λ l. l ++ spots_of a b) (sym (append-nil (spots a e)))
layer_spots (open_form.Declares n xs) a b = refl
layer_spots (open_form.Lets n p c) a b = ap (λ l. l ++ spots_of (with_variables (bound (plain-Pattern p)) a) b) (sym (append-nil (spots_matched a c)))

spots_by : (g : Body → Body) (x : Stmt-F (tree.Mark → Exp) Scrutinee (Body → Body) (Pattern × Exp) Exp (ℕ × Exp)) → g ≡ stmt_step x → (a : Around) (b : Body)
    → spots_of a (g b) ≡ spots_in_statements a (first_of (g no_more) ∷ []) ++ spots_of (with_variables (declared_by (first_of (g no_more))) a) b
spots_by g x e a b =
    subst (λ (h : Body → Body). spots_of a (h b) ≡ spots_in_statements a (first_of (h no_more) ∷ []) ++ spots_of (with_variables (declared_by (first_of (h no_more))) a) b) (sym e) (layer_spots x a b)

stmt_spots : (s : Stmt) (a : Around) (b : Body)
    → spots_of a (plain-Stmt s b) ≡ spots_in_statements a (plain-Statement s ∷ []) ++ spots_of (with_variables (declared_by (plain-Statement s)) a) b
unfolding plain-Form plain-Matched plain-Stmt plain-Arm plain-Expr plain-Operand
stmt_spots s a b = spots_by _ _ (fold_out-Stmt (tree.Mark → Exp) Scrutinee (Body → Body) (Pattern × Exp) Exp (ℕ × Exp) form_step matched_step stmt_step arm_step expr_step operand_step s) a b

pub body_spots : (ss : List Stmt) (a : Around) (e : Exp)
    → spots_of a (nested_of (map plain-Stmt ss) e) ≡ spots_in_statements a (map plain-Statement ss) ++ spots (past (map plain-Statement ss) a) e
body_spots [] a e = refl
body_spots (s ∷ ss) a e =
    let S = plain-Statement s in
    let SS = map plain-Statement ss in
    let b = with_variables (declared_by S) a in
    stmt_spots s a (nested_of (map plain-Stmt ss) e)
    ∙ ap (λ l. spots_in_statements a (S ∷ []) ++ l) (body_spots ss b e)
    ∙ sym (append_assoc (spots_in_statements a (S ∷ [])) (spots_in_statements b SS) (spots (past SS b) e))
    ∙ ap (λ l. l ++ spots (past SS b) e) (sym (statements_split a S SS))

-- ---- forms

by_form : (a : Around) (e : Expr) (x : Form) → e.form ≡ x → spots a (plain-Expr e) ≡ spots a (plain-Form x (plain-Mark e.mark))
by_form a e x f = ap (spots a) (expr_by_form e ∙ ap (λ y. plain-Form y (plain-Mark e.mark)) f)

pub lazily_spots : (a a1 : stack.Around) (e : Expr) (b : Bool) (l r l' r' : Expr) → e.form ≡ form.Lazily b l r → l' ≡ l → r' ≡ r → a1 ≡ a
    → spots (plain-Around a) (plain-Expr e) ≡ spots (plain-Around a) (plain-Expr l') ++ spots (plain-Around a1) (plain-Expr r')
lazily_spots a a1 e b l r l' r' f g h k =
    by_form (plain-Around a) e (form.Lazily b l r) f ∙ ap (spots (plain-Around a)) (form_lazily b l r (plain-Mark e.mark))
    ∙ ap (λ x. spots (plain-Around a) (plain-Expr x) ++ spots (plain-Around a) (plain-Expr r)) (sym g)
    ∙ ap (λ x. spots (plain-Around a) (plain-Expr l') ++ spots (plain-Around a) (plain-Expr x)) (sym h)
    ∙ ap (λ (x : stack.Around). spots (plain-Around a) (plain-Expr l') ++ spots (plain-Around x) (plain-Expr r')) (sym k)

pub choose_spots : (a a1 : stack.Around) (e : Expr) (s : Matched) (l l' : List Arm) → e.form ≡ form.Choose s l → l' ≡ l → a1 ≡ a
    → spots (plain-Around a) (plain-Expr e) ≡ spots_matched (plain-Around a) (plain-Matched s) ++ spots_armed (plain-Around a1) (arms_of (map plain-Arm l'))
choose_spots a a1 e s l l' f g k =
    by_form (plain-Around a) e (form.Choose s l) f ∙ ap (spots (plain-Around a)) (form_choose s l (plain-Mark e.mark))
    ∙ ap (λ x. spots_matched (plain-Around a) (plain-Matched s) ++ spots_armed (plain-Around a) (arms_of (map plain-Arm x))) (sym g)
    ∙ ap (λ (x : stack.Around). spots_matched (plain-Around a) (plain-Matched s) ++ spots_armed (plain-Around x) (arms_of (map plain-Arm l'))) (sym k)

-- what is found of a block in three steps: itself, its statements, its tail
pub block_spots : (a a1 : stack.Around) (e : Expr) (ss ss' ss2 : List Stmt) (t t' t2 : Expr) → e.form ≡ form.Block ss t → ss' ≡ ss → ss2 ≡ ss → t' ≡ t → t2 ≡ t
    → a1 ≡ grown a (declared_by_all (map plain-Statement ss2))
    → spots (plain-Around a) (plain-Expr e)
    ≡ (a_block (plain-Around a) e.mark.node (nested_of (map plain-Stmt ss') (plain-Expr t')) ∷ spots_in_statements (plain-Around a) (map plain-Statement ss2)) ++ spots (plain-Around a1) (plain-Expr t2)
block_spots a a1 e ss ss' ss2 t t' t2 f g g2 h h2 k =
    let A = plain-Around a in
    by_form A e (form.Block ss t) f ∙ ap (spots A) (form_block ss t (plain-Mark e.mark))
    ∙ ap (λ l. a_block A e.mark.node (nested_of (map plain-Stmt ss) (plain-Expr t)) ∷ l) (body_spots ss A (plain-Expr t))
    ∙ ap (λ x. (a_block A e.mark.node (nested_of (map plain-Stmt x) (plain-Expr t)) ∷ spots_in_statements A (map plain-Statement ss)) ++ spots (past (map plain-Statement ss) A) (plain-Expr t)) (sym g)
    ∙ ap (λ x. (a_block A e.mark.node (nested_of (map plain-Stmt ss') (plain-Expr x)) ∷ spots_in_statements A (map plain-Statement ss)) ++ spots (past (map plain-Statement ss) A) (plain-Expr t)) (sym h)
    ∙ ap (λ x. (a_block A e.mark.node (nested_of (map plain-Stmt ss') (plain-Expr t')) ∷ spots_in_statements A (map plain-Statement x)) ++ spots (past (map plain-Statement x) A) (plain-Expr t)) (sym g2)
    ∙ ap (λ x. (a_block A e.mark.node (nested_of (map plain-Stmt ss') (plain-Expr t')) ∷ spots_in_statements A (map plain-Statement ss2)) ++ spots (past (map plain-Statement ss2) A) (plain-Expr x)) (sym h2)
    ∙ ap (λ (x : Around). (a_block A e.mark.node (nested_of (map plain-Stmt ss') (plain-Expr t')) ∷ spots_in_statements A (map plain-Statement ss2)) ++ spots x (plain-Expr t2))
    (past_is (map plain-Statement ss2) A ∙ sym (plain_grown a (declared_by_all (map plain-Statement ss2))) ∙ ap plain-Around (sym k))

-- the variables of a block end with it
pub cut_back : (a a1 a2 : stack.Around) (n : ℕ) (xs : List ℕ) → n ≡ length a.scope → a1 ≡ grown a xs → a2 ≡ record { scope = take n a1.scope; loops = a1.loops } → a2 ≡ a
cut_back a a1 a2 n xs e f g =
    g ∙ ap (λ (x : stack.Around). let b : stack.Around = record { scope = take n x.scope; loops = x.loops } in b) f
    ∙ ap (λ (l : List ℕ). let b : stack.Around = record { scope = l; loops = a.loops } in b) (take_at a.scope xs n (sym e))

-- ---- turns of loops

pub operands_next : (xs : List Operand) (i : ℕ) (x : Operand) (a : Around) → i < length xs → x ≡ get_or xs i x
    → spots_in a (operands_of (map plain-Operand (drop i xs))) ≡ spots a (plain-Expr x.value) ++ spots_in a (operands_of (map plain-Operand (drop (i + 1) xs)))
operands_next xs i x a l e =
    next_of (λ ys. spots_in a (operands_of (map plain-Operand ys))) xs i x l e
    ∙ ap (λ (q : ℕ × Exp). spots a q.1 ++ spots_in a (operands_of (map plain-Operand (drop (i + 1) xs)))) (operand_by_parts x)

pub arms_next : (xs : List Arm) (i : ℕ) (x : Arm) (a : Around) → i < length xs → x ≡ get_or xs i x
    → spots_armed a (arms_of (map plain-Arm (drop i xs)))
    ≡ spots (with_variables (bound (plain-Arm x).0) a) (plain-Arm x).1 ++ spots_armed a (arms_of (map plain-Arm (drop (i + 1) xs)))
arms_next xs i x a l e = next_of (λ ys. spots_armed a (arms_of (map plain-Arm ys))) xs i x l e

pub stmts_next : (xs : List Stmt) (i : ℕ) (x : Stmt) (a : stack.Around) → i < length xs → x ≡ get_or xs i x
    → spots_in_statements (plain-Around a) (map plain-Statement (drop i xs))
    ≡ spots_in_statements (plain-Around a) (plain-Statement x ∷ []) ++ spots_in_statements (plain-Around (grown a (declared_by (plain-Statement x)))) (map plain-Statement (drop (i + 1) xs))
stmts_next xs i x a l e =
    next_of (λ ys. spots_in_statements (plain-Around a) (map plain-Statement ys)) xs i x l e
    ∙ statements_split (plain-Around a) (plain-Statement x) (map plain-Statement (drop (i + 1) xs))
    ∙ ap (λ (b : Around). spots_in_statements (plain-Around a) (plain-Statement x ∷ []) ++ spots_in_statements b (map plain-Statement (drop (i + 1) xs)))
    (sym (plain_grown a (declared_by (plain-Statement x))))

pub grown_next : (xs : List Stmt) (i : ℕ) (x : Stmt) (a : stack.Around) → i < length xs → x ≡ get_or xs i x
    → grown (grown a (declared_by (plain-Statement x))) (declared_by_all (map plain-Statement (drop (i + 1) xs))) ≡ grown a (declared_by_all (map plain-Statement (drop i xs)))
grown_next xs i x a l e =
    ap (λ (s : List ℕ). let b : stack.Around = record { scope = s; loops = a.loops } in b)
    (append_assoc a.scope (declared_by (plain-Statement x)) (declared_by_all (map plain-Statement (drop (i + 1) xs)))
    ∙ ap (λ s. a.scope ++ s) (sym (next_of (λ ys. declared_by_all (map plain-Statement ys)) xs i x l e)))

pub grown_none : (a : stack.Around) → grown a [] ≡ a
grown_none a = ap (λ (s : List ℕ). let b : stack.Around = record { scope = s; loops = a.loops } in b) (append-nil a.scope)

-- ---- statements

of_statement : (s : Stmt) (x : Stmt) → s ≡ x → plain-Statement s ≡ first_of (plain-Stmt x no_more)
of_statement s x e = ap plain-Statement e

pub runs_statement : (s : Stmt) (e : Expr) → s ≡ stmt.Runs e → plain-Statement s ≡ does (plain-Expr e)
runs_statement s e f = of_statement s (stmt.Runs e) f ∙ ap first_of (stmt_runs e no_more)

pub declares_statement : (s : Stmt) (n : ℕ) (xs : List ℕ) → s ≡ stmt.Declares n xs → plain-Statement s ≡ begins n xs
declares_statement s n xs f = of_statement s (stmt.Declares n xs) f ∙ ap first_of (stmt_declares n xs no_more)

pub lets_statement : (s : Stmt) (n : ℕ) (p : code.Pattern) (m : Matched) → s ≡ stmt.Lets n p m → plain-Statement s ≡ binds n (plain-Pattern p) (plain-Matched m)
lets_statement s n p m f = of_statement s (stmt.Lets n p m) f ∙ ap first_of (stmt_lets n p m no_more)

pub runs_spots : (a : Around) (s : Stmt) (e : Expr) → s ≡ stmt.Runs e → spots a (plain-Expr e) ≡ spots_in_statements a (plain-Statement s ∷ [])
runs_spots a s e f = sym (append-nil (spots a (plain-Expr e))) ∙ ap (λ x. spots_in_statements a (x ∷ [])) (sym (runs_statement s e f))

pub lets_spots : (a : Around) (s : Stmt) (n : ℕ) (p : code.Pattern) (m : Matched) → s ≡ stmt.Lets n p m → spots_matched a (plain-Matched m) ≡ spots_in_statements a (plain-Statement s ∷ [])
lets_spots a s n p m f = sym (append-nil (spots_matched a (plain-Matched m))) ∙ ap (λ x. spots_in_statements a (x ∷ [])) (sym (lets_statement s n p m f))

-- ---- what is around a part, and around what follows it

around_bound : (a : stack.Around) (s xs : List ℕ) → s ≡ a.scope ++ xs → plain-Around (record { scope = s; loops = a.loops }) ≡ with_variables xs (plain-Around a)
around_bound a s xs e = ap (λ (l : List ℕ). let b : stack.Around = record { scope = l; loops = a.loops } in plain-Around b) e ∙ plain_grown a xs

around_looped : (a : stack.Around) (ls : List ℕ) (l : ℕ) → ls ≡ a.loops ++ l ∷ [] → plain-Around (record { scope = a.scope; loops = ls }) ≡ with_loop l (plain-Around a)
around_looped a ls l e = ap (λ (k : List ℕ). let b : stack.Around = record { scope = a.scope; loops = k } in plain-Around b) e ∙ plain_looped a l

pub arm_seen : (k : Sought) (f f1 : Found) (a : stack.Around) (s : List ℕ) (x : Arm) → s ≡ a.scope ++ bound (plain-Pattern x.pattern)
    → f1 ≡ with_spots k f (spots (plain-Around (record { scope = s; loops = a.loops })) (plain-Expr x.body))
    → f1 ≡ with_spots k f (spots (with_variables (bound (plain-Arm x).0) (plain-Around a)) (plain-Arm x).1)
arm_seen k f f1 a s x e h =
    h ∙ ap (λ (b : Around). with_spots k f (spots b (plain-Expr x.body))) (around_bound a s (bound (plain-Pattern x.pattern)) e)
    ∙ ap (λ (q : Pattern × Exp). with_spots k f (spots (with_variables (bound q.0) (plain-Around a)) q.1)) (sym (arm_by_parts x))

pub loop_seen : (k : Sought) (f f1 : Found) (a : stack.Around) (ls : List ℕ) (l : ℕ) (e e' : Expr) → ls ≡ a.loops ++ l ∷ [] → e' ≡ e
    → f1 ≡ with_spots k f (spots (plain-Around (record { scope = a.scope; loops = ls })) (plain-Expr e'))
    → f1 ≡ with_spots k f (spots (with_loop l (plain-Around a)) (plain-Expr e))
loop_seen k f f1 a ls l e e' is same h =
    h ∙ ap (λ (b : Around). with_spots k f (spots b (plain-Expr e'))) (around_looped a ls l is) ∙ ap (λ x. with_spots k f (spots (with_loop l (plain-Around a)) (plain-Expr x))) same

pub scope_back : (a a1 : stack.Around) (n : ℕ) (s s2 xs : List ℕ) → n ≡ length a.scope → s ≡ a.scope ++ xs → a1 ≡ record { scope = s; loops = a.loops } → s2 ≡ take n a1.scope
    → (let b : stack.Around = record { scope = s2; loops = a1.loops } in b) ≡ a
scope_back a a1 n s s2 xs long e f g =
    ap (λ (l : List ℕ). let b : stack.Around = record { scope = l; loops = a1.loops } in b) (g ∙ ap (λ (x : stack.Around). take n x.scope) f ∙ ap (take n) e ∙ take_at a.scope xs n (sym long))
    ∙ ap (λ (x : stack.Around). let b : stack.Around = record { scope = a.scope; loops = x.loops } in b) f

pub loops_back : (a a1 : stack.Around) (n : ℕ) (ls ls2 xs : List ℕ) → n ≡ length a.loops → ls ≡ a.loops ++ xs → a1 ≡ record { scope = a.scope; loops = ls } → ls2 ≡ take n a1.loops
    → (let b : stack.Around = record { scope = a1.scope; loops = ls2 } in b) ≡ a
loops_back a a1 n ls ls2 xs long e f g =
    ap (λ (l : List ℕ). let b : stack.Around = record { scope = a1.scope; loops = l } in b) (g ∙ ap (λ (x : stack.Around). take n x.loops) f ∙ ap (take n) e ∙ take_at a.loops xs n (sym long))
    ∙ ap (λ (x : stack.Around). let b : stack.Around = record { scope = x.scope; loops = a.loops } in b) f

pub on_back : (r : Result (Unit {0}) AllocError) (a a1 a2 : stack.Around) (n : ℕ) (xs : List ℕ) → n ≡ length a.scope → a1 ≡ grown a xs
    → OnOk r (a2 ≡ record { scope = take n a1.scope; loops = a1.loops }) → OnOk r (a2 ≡ a)
on_back (Ok u) a a1 a2 n xs e f h = cut_back a a1 a2 n xs e f h
on_back (Err v) a a1 a2 n xs e f h = tt

pub given_spots : (a a1 : stack.Around) (n : ℕ) (e e' : Expr) → e' ≡ e → a1 ≡ a
    → spots (plain-Around a) (plain-Expr e) ++ a_return (plain-Around a) n ∷ [] ≡ spots (plain-Around a) (plain-Expr e') ++ a_return (plain-Around a1) n ∷ []
given_spots a a1 n e e' f g =
    ap (λ x. spots (plain-Around a) (plain-Expr x) ++ a_return (plain-Around a) n ∷ []) (sym f)
    ∙ ap (λ (x : stack.Around). spots (plain-Around a) (plain-Expr e') ++ a_return (plain-Around x) n ∷ []) (sym g)

pub runs_grown : (a : stack.Around) (s : Stmt) (e : Expr) → s ≡ stmt.Runs e → a ≡ grown a (declared_by (plain-Statement s))
runs_grown a s e f = sym (grown_none a) ∙ ap (λ x. grown a (declared_by x)) (sym (runs_statement s e f))

pub lets_grown : (a : stack.Around) (s : Stmt) (n : ℕ) (p : code.Pattern) (m : Matched) → s ≡ stmt.Lets n p m → grown a (bound (plain-Pattern p)) ≡ grown a (declared_by (plain-Statement s))
lets_grown a s n p m f = ap (λ x. grown a (declared_by x)) (sym (lets_statement s n p m f))
