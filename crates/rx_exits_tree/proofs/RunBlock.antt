-- The run's block, laid out: its statements and those that are put between them, in the lists of the code.
use Rattle.std.proofs.Common.{◌≡◌, ℕ, zero, suc, ◌==◌, Bool, true, false, if◌then◌else◌, List, [], ◌∷◌, ◌++◌, map, take, drop, Some, None, Result, Ok, Err, IfOk, refl, sym, ap, ◌∙◌, subst}
use Rattle.std.specs.declared.alloc.AllocError.{AllocError}
use Rattle.rx_typed.specs.Tree.{Mark, Exp, read, borrow, share, build, unit, lazily, assign, update, call, input, print, block, choose, loop, jump, give, Body, ends, runs, declares, lets, mark_of}
use Rattle.rx_typed.specs.declared.tree.Stmt.{Stmt}
use Rattle.rx_typed.specs.declared.tree.Expr.{Expr}
use Rattle.rx_typed.specs.declared.tree.Param.{Param}
use Rattle.rx_typed.specs.declared.tree.Form.TheVariants as form
use Rattle.rx_typed.proofs.Rules.{expr_by_form}
use Rattle.rx_typed.specs.PlainTree.{plain-Form, form_block, plain-Expr, plain-Mark, plain-Param, plain-Stmt, plain-TypedTree, nested_of}
use Rattle.rx_exits_plan.specs.Blocks.{Statement, does, begins, binds, statements, tail, before, written_tail}
use Rattle.rx_exits_plan.specs.Runs.{Run, in_front, inside, behind, last_value}
use Rattle.rx_exits_plan.specs.Points.{next, leaves}
use Rattle.rx_exits_plan.specs.Changed.{Changes, changed, changed_matched, changed_body, changed_statement}
use Rattle.rx_exits_plan.specs.Marked.{then_mark, marking, entering, ended, ended_value, ended_tail}
use Rattle.rx_exits_plan.specs.PlainPlan.{plain-Run}
use Rattle.rx_exits_tree.specs.declared.changes.AtBlock.{AtBlock}
use Rattle.rx_exits_tree.specs.Changing.{keeping, body_of, marked_list, cut_list, statements_at, tail_at}
use Rattle.rx_exits_tree.specs.Shapes.{mark_at, plain-Statement, gives_at}
use Rattle.rx_exits_tree.specs.Alone.{value_as_statement, alone}
use Rattle.rx_exits_tree.proofs.Shapes.{expr_mark, nested_before, nested_statements, nested_tail, before_both}
use Rattle.rx_exits_tree.proofs.Keeping.{kept, statements_kept}

-- ---- parts of lists

pub map_take : {A B : Type 0} (f : A → B) (n : ℕ) (l : List A) → map f (take n l) ≡ take n (map f l)
map_take f zero l = refl
map_take f (suc n) [] = refl
map_take f (suc n) (x ∷ l) = ap (λ r. f x ∷ r) (map_take f n l)

pub map_drop : {A B : Type 0} (f : A → B) (n : ℕ) (l : List A) → map f (drop n l) ≡ drop n (map f l)
map_drop f zero l = refl
map_drop f (suc n) [] = refl
map_drop f (suc n) (x ∷ l) = map_drop f n l

middle_is : (r : Run) (ss : List Stmt) → map plain-Statement (take r.count (drop r.first ss)) ≡ take r.count (drop r.first (map plain-Statement ss))
middle_is r ss = map_take plain-Statement r.count (drop r.first ss) ∙ ap (take r.count) (map_drop plain-Statement r.first ss)

back_is : (r : Run) (ss : List Stmt) → map plain-Statement (drop r.count (drop r.first ss)) ≡ drop r.count (drop r.first (map plain-Statement ss))
back_is r ss = map_drop plain-Statement r.count (drop r.first ss) ∙ ap (drop r.count) (map_drop plain-Statement r.first ss)

-- ---- a tail that ends the function

mended : (b : Bool) (m : Mark) (M : Exp → Exp) (e : Exp)
    → (if b then give m (M e) else M (give m e)) ≡ (if b then give m (M (if b then e else give m e)) else M (if b then e else give m e))
mended true m M e = refl
mended false m M e = refl

pub ended_value_is : (n : ℕ) (ls : List ℕ) (e : Exp)
    → ended_value n ls e ≡ (if gives_at n e then give (mark_of e) (then_mark (leaves next) (changed (marking ls) (written_tail n e))) else then_mark (leaves next) (changed (marking ls) (written_tail n e)))
ended_value_is n ls (give m e) = mended (m.node == n) m (λ x. then_mark (leaves next) (changed (marking ls) x)) e
ended_value_is n ls (read m v p) = refl
ended_value_is n ls (borrow m k p) = refl
ended_value_is n ls (share m e) = refl
ended_value_is n ls (build m w es) = refl
ended_value_is n ls (unit m) = refl
ended_value_is n ls (lazily m b e f) = refl
ended_value_is n ls (assign m p e) = refl
ended_value_is n ls (update m o p e) = refl
ended_value_is n ls (call m f es) = refl
ended_value_is n ls (input m) = refl
ended_value_is n ls (print m e) = refl
ended_value_is n ls (block m b) = refl
ended_value_is n ls (choose m s l) = refl
ended_value_is n ls (loop m l e) = refl
ended_value_is n ls (jump m l k) = refl

-- ---- the block

pub same_tree : (r : Result Expr AllocError) (a b : Exp) → a ≡ b → IfOk r (λ it. plain-Expr it ≡ a) → IfOk r (λ it. plain-Expr it ≡ b)
same_tree r a b e h = subst (λ (x : Exp). IfOk r (λ it. plain-Expr it ≡ x)) e h

-- what is so of a value is so in another form
pub if_ok : {A : Type 0} (P Q : A → Type 0) (r : Result A AllocError) → ((a : A) → P a → Q a) → IfOk r P → IfOk r Q
if_ok P Q (Ok a) f h = f a h
if_ok P Q (Err e) f h = h

-- statements that are put behind others without a change
pub kept_behind : (held : List Statement) (new ss : List Stmt) (ts : List Statement) → map plain-Statement ss ≡ ts
    → map plain-Statement new ≡ held ++ map (changed_statement keeping) (map plain-Statement ss) → map plain-Statement new ≡ held ++ ts
kept_behind held new ss ts is h = h ∙ ap (λ l. held ++ l) (statements_kept (map plain-Statement ss) ∙ is)

pub laid_marked : (r : Run) (ls xs : List ℕ) (all front middle back c1 c2 c3 c4 c5 : List Stmt)
    → front ≡ take r.first all → middle ≡ take r.count (drop r.first all) → back ≡ drop r.count (drop r.first all)
    → map plain-Statement c1 ≡ map (changed_statement keeping) (map plain-Statement front)
    → map plain-Statement c2 ≡ map plain-Statement c1 ++ entering xs
    → map plain-Statement c3 ≡ map plain-Statement c2 ++ map (changed_statement (marking ls)) (map plain-Statement middle)
    → map plain-Statement c4 ≡ map plain-Statement c3 ++ ended r.tail
    → map plain-Statement c5 ≡ map plain-Statement c4 ++ map (changed_statement keeping) (map plain-Statement back)
    → map plain-Statement c5 ≡ marked_list r ls xs (map plain-Statement all)
laid_marked r ls xs all front middle back c1 c2 c3 c4 c5 f m b h1 h2 h3 h4 h5 =
    let L = map plain-Statement all in
    let M = map (changed_statement (marking ls)) in
    let one : map plain-Statement c1 ≡ take r.first L = h1 ∙ statements_kept (map plain-Statement front) ∙ ap (map plain-Statement) f ∙ map_take plain-Statement r.first all in
    let two : map plain-Statement c2 ≡ take r.first L ++ entering xs = h2 ∙ ap (λ l. l ++ entering xs) one in
    let three : map plain-Statement c3 ≡ take r.first L ++ entering xs ++ M (take r.count (drop r.first L))
    = h3 ∙ ap (λ l. l ++ M (map plain-Statement middle)) two ∙ ap (λ l. take r.first L ++ entering xs ++ M l) (ap (map plain-Statement) m ∙ middle_is r all) in
    let four : map plain-Statement c4 ≡ take r.first L ++ entering xs ++ M (take r.count (drop r.first L)) ++ ended r.tail = h4 ∙ ap (λ l. l ++ ended r.tail) three in
    kept_behind (map plain-Statement c4) c5 back (drop r.count (drop r.first L)) (ap (map plain-Statement) b ∙ back_is r all) h5 ∙ ap (λ l. l ++ drop r.count (drop r.first L)) four

pub laid_cut : (r : Run) (all front back c1 c2 : List Stmt)
    → front ≡ take r.first all → back ≡ drop r.count (drop r.first all)
    → map plain-Statement c1 ≡ map (changed_statement keeping) (map plain-Statement front)
    → map plain-Statement c2 ≡ map plain-Statement c1 ++ map (changed_statement keeping) (map plain-Statement back)
    → map plain-Statement c2 ≡ cut_list r (map plain-Statement all)
laid_cut r all front back c1 c2 f b h1 h2 =
    let L = map plain-Statement all in
    let one : map plain-Statement c1 ≡ take r.first L = h1 ∙ statements_kept (map plain-Statement front) ∙ ap (map plain-Statement) f ∙ map_take plain-Statement r.first all in
    kept_behind (map plain-Statement c1) c2 back (drop r.count (drop r.first L)) (ap (map plain-Statement) b ∙ back_is r all) h2 ∙ ap (λ l. l ++ drop r.count (drop r.first L)) one

changed_before : (C : Changes) (l : List Statement) (b : Body) → changed_body C (before l b) ≡ before (map (changed_statement C) l) (changed_body C b)
changed_before C [] b = refl
changed_before C (does e ∷ l) b = ap (runs (changed C e)) (changed_before C l b)
changed_before C (begins n xs ∷ l) b = ap (declares n xs) (changed_before C l b)
changed_before C (binds n p c ∷ l) b = ap (lets n p (changed_matched C c)) (changed_before C l b)

laid : (a b c d f : List Statement) (x : Body) → before (a ++ b ++ c ++ d ++ f) x ≡ before a (before b (before c (before d (before f x))))
laid a b c d f x =
    before_both (a ++ b ++ c ++ d) f x ∙ before_both (a ++ b ++ c) d (before f x) ∙ before_both (a ++ b) c (before d (before f x)) ∙ before_both a b (before c (before d (before f x)))

-- by its statements and its tail
body_laid : (a : AtBlock) (C : Changes) (N : Body) (L : List Statement) (e : Exp) → N ≡ before L (ends e) → statements N ≡ L → tail N ≡ e
    → before (statements_at a C L) (ends (tail_at a C e)) ≡ body_of a N (changed_body C N)
body_laid AtBlock.Inside C N L e is all last = sym (changed_before C L (ends e)) ∙ ap (changed_body C) (sym is)
body_laid (AtBlock.Marked r ls xs) C N L e is all last =
    let R = plain-Run r in
    let M = map (changed_statement (marking ls.now)) in
    laid (take r.first L) (entering xs.now) (M (take r.count (drop r.first L))) (ended r.tail) (drop r.count (drop r.first L)) (ends (ended_tail r.tail r.block ls.now e))
    ∙ ap (λ l. before (take r.first l) (before (entering xs.now) (before (M (take r.count (drop r.first l))) (before (ended r.tail) (before (drop r.count (drop r.first l)) (ends (ended_tail r.tail r.block ls.now e))))))) (sym all)
    ∙ ap (λ x. before (in_front R N) (before (entering xs.now) (before (M (inside R N)) (before (ended r.tail) (before (behind R N) (ends (ended_tail r.tail r.block ls.now x))))))) (sym last)
body_laid (AtBlock.Cut r) C N L e is all last =
    let R = plain-Run r in
    before_both (take r.first L) (drop r.count (drop r.first L)) (ends (if r.tail then unit (mark_of e) else e))
    ∙ ap (λ l. before (take r.first l) (before (drop r.count (drop r.first l)) (ends (if r.tail then unit (mark_of e) else e)))) (sym all)
    ∙ ap (λ x. before (in_front R N) (before (behind R N) (ends (if r.tail then unit (mark_of x) else x)))) (sym last)

pub block_laid : (a : AtBlock) (C : Changes) (m : Mark) (at : Body → Body → Body) (ss copies : List Stmt) (e : Expr) (r : Result Expr AllocError)
    → ((was b : Body) → at was b ≡ body_of a was b)
    → map plain-Statement copies ≡ statements_at a C (map plain-Statement ss)
    → IfOk r (λ it. plain-Expr it ≡ block m (before (map plain-Statement copies) (ends (tail_at a C (plain-Expr e)))))
    → IfOk r (λ it. plain-Expr it ≡ block m (at (nested_of (map plain-Stmt ss) (plain-Expr e)) (changed_body C (nested_of (map plain-Stmt ss) (plain-Expr e)))))
block_laid a C m at ss copies e r told h last =
    let N = nested_of (map plain-Stmt ss) (plain-Expr e) in
    same_tree r _ _ (ap (block m) (ap (λ l. before l (ends (tail_at a C (plain-Expr e)))) h
    ∙ body_laid a C N (map plain-Statement ss) (plain-Expr e) (nested_before ss (plain-Expr e)) (nested_statements ss (plain-Expr e)) (nested_tail ss (plain-Expr e))
    ∙ sym (told N (changed_body C N)))) last

-- an expression whose form is a block
pub block_made : (C : Changes) (e : Expr) (ss : List Stmt) (last : Expr) (r : Result Expr AllocError) → e.form ≡ form.Block ss last
    → IfOk r (λ it. plain-Expr it ≡ block (plain-Mark e.mark) (C.at_block e.mark.node (nested_of (map plain-Stmt ss) (plain-Expr last)) (changed_body C (nested_of (map plain-Stmt ss) (plain-Expr last)))))
    → IfOk r (λ it. plain-Expr it ≡ changed C (plain-Expr e))
block_made C e ss last r is h =
    same_tree r _ (changed C (plain-Expr e)) (ap (changed C) (sym (expr_by_form e ∙ ap (λ f. plain-Form f (plain-Mark e.mark)) is ∙ form_block ss last (plain-Mark e.mark)))) h

-- ---- the tail

pub cut_tail_is : (e : Expr) (b : Bool) → b ≡ true → unit (plain-Mark e.mark) ≡ (if b then unit (mark_of (plain-Expr e)) else plain-Expr e)
cut_tail_is e b it = ap unit (sym (expr_mark e)) ∙ ap (λ (c : Bool). if c then unit (mark_of (plain-Expr e)) else plain-Expr e) (sym it)

pub cut_tail_kept : (e : Exp) (b : Bool) → b ≡ false → changed keeping e ≡ (if b then unit (mark_of e) else e)
cut_tail_kept e b it = kept e ∙ ap (λ (c : Bool). if c then unit (mark_of e) else e) (sym it)

pub marked_tail_kept : (n : ℕ) (ls : List ℕ) (e : Exp) (b : Bool) → b ≡ false → changed keeping e ≡ ended_tail b n ls e
marked_tail_kept n ls e b it = kept e ∙ ap (λ (c : Bool). ended_tail c n ls e) (sym it)

pub marked_tail_is : (n : ℕ) (ls : List ℕ) (e v w : Exp) (b : Bool) → b ≡ true → v ≡ changed (marking ls) (written_tail n e) → w ≡ then_mark (leaves next) v
    → (if gives_at n e then give (mark_of e) w else w) ≡ ended_tail b n ls e
marked_tail_is n ls e v w b it value marked =
    ap (λ x. if gives_at n e then give (mark_of e) x else x) (marked ∙ ap (then_mark (leaves next)) value) ∙ sym (ended_value_is n ls e) ∙ ap (λ (c : Bool). ended_tail c n ls e) (sym it)

-- ---- the run alone

pub value_behind : (r : Run) (all : List Stmt) (e : Exp) (was held : List Stmt) (v : Expr) (o : Result (List Stmt) AllocError) → r.tail ≡ true
    → plain-Expr v ≡ changed keeping (written_tail r.block e) → held ≡ was
    → IfOk o (λ it. map plain-Statement it ≡ map plain-Statement held ++ does (plain-Expr v) ∷ [])
    → IfOk o (λ it. map plain-Statement it ≡ map plain-Statement was ++ value_as_statement (last_value r (nested_of (map plain-Stmt all) e)))
value_behind r all e was held v o it value same h =
    let N = nested_of (map plain-Stmt all) e in
    let is : does (plain-Expr v) ∷ [] ≡ value_as_statement (last_value r N)
    = ap (λ x. does x ∷ []) (value ∙ kept (written_tail r.block e)) ∙ ap (λ x. does (written_tail r.block x) ∷ []) (sym (nested_tail all e))
    ∙ ap (λ (b : Bool). value_as_statement (if b then Some (written_tail r.block (tail N)) else None)) (sym it) in
    subst (λ (l : List Statement). IfOk o (λ it. map plain-Statement it ≡ l)) (ap (λ k. map plain-Statement k ++ does (plain-Expr v) ∷ []) same ∙ ap (λ l. map plain-Statement was ++ l) is) h

same_block : (n : ℕ) (m k : Mark) (u : Exp) (l t : List Statement) → m ≡ mark_at n → u ≡ unit k → k ≡ mark_at n → l ≡ t
    → block m (before l (ends u)) ≡ block (mark_at n) (before t (ends (unit (mark_at n))))
same_block n m k u l t m_is u_is k_is is =
    ap (λ x. block x (before l (ends u))) m_is ∙ ap (λ x. block (mark_at n) (before x (ends u))) is ∙ ap (λ x. block (mark_at n) (before t (ends x))) (u_is ∙ ap unit k_is)

pub alone_laid : (r : Run) (ss : List Stmt) (e : Exp) (params : List Param) (body : Expr) (m k : Mark) (u : Exp) (middle c0 c1 c2 : List Stmt)
    → params ≡ [] → plain-Expr body ≡ block m (before (map plain-Statement c2) (ends u)) → m ≡ mark_at r.block → u ≡ unit k → k ≡ mark_at r.block
    → middle ≡ take r.count (drop r.first ss) → c0 ≡ []
    → map plain-Statement c1 ≡ map plain-Statement c0 ++ map (changed_statement keeping) (map plain-Statement middle)
    → map plain-Statement c2 ≡ map plain-Statement c1 ++ value_as_statement (last_value r (nested_of (map plain-Stmt ss) e))
    → plain-TypedTree (record { params = params; body = body }) ≡ alone r (nested_of (map plain-Stmt ss) e)
alone_laid r ss e params body m k u middle c0 c1 c2 none is m_is u_is k_is mid c0_is h1 h2 =
    let N = nested_of (map plain-Stmt ss) e in
    let V = value_as_statement (last_value r N) in
    let one : map plain-Statement c1 ≡ inside r N
    = h1 ∙ ap (λ l. map plain-Statement l ++ map (changed_statement keeping) (map plain-Statement middle)) c0_is ∙ statements_kept (map plain-Statement middle) ∙ ap (map plain-Statement) mid ∙ middle_is r ss
    ∙ ap (λ l. take r.count (drop r.first l)) (sym (nested_statements ss e)) in
    let made : plain-Expr body ≡ (alone r N).body
    = is ∙ same_block r.block m k u (map plain-Statement c2) (inside r N ++ V) m_is u_is k_is (h2 ∙ ap (λ l. l ++ V) one)
    ∙ ap (block (mark_at r.block)) (before_both (inside r N) V (ends (unit (mark_at r.block)))) in
    ap (λ (ps : List Param). record { params = map plain-Param ps; body = plain-Expr body }) none ∙ ap (λ (x : Exp). record { params = []; body = x }) made
