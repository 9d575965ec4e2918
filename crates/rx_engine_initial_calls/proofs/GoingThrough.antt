-- A walk through the pieces of a run: it begins with the mark where the run is entered and the reads of its params, ends with the mark of its
-- end, touches what the run names alone, and begins nothing that is declared outside.
use Rattle.std.proofs.Common.{◌≡◌, ℕ, ◌==◌, Bool, true, false, not, if◌then◌else◌, List, [], ◌∷◌, ◌++◌, map, refl, sym, ◌∙◌, subst, ap, eqb-true}
use Rattle.rx_typed.specs.Tree.{Temporary, Body, ends, runs, declares, lets, temporary_of, temporary_at}
use Rattle.rx_lower_walks.specs.Matching.{Binding, bindings}
use Rattle.rx_lower_walks.specs.Actions.{Act, Declare, Dead, Read, Write, Borrow, Test, Call, Build, Input, Print, Give, Action, does, Subject, subject, taken}
use Rattle.rx_lower_walks.specs.Actions as act
use Rattle.rx_lower_walks.specs.Orders.{Order, perhaps, binding, declaring, order, order_scrutinee, order_body}
use Rattle.rx_lower_walks.specs.Orders as orders
use Rattle.rx_lower_walks.specs.Walks.{on, Walk, Among, here, there}
use Rattle.rx_facts_tables.specs.Wholes.{begins}
use Rattle.rx_exits_plan.specs.Blocks.{Statement, bound, before, tail}
use Rattle.rx_exits_plan.specs.Blocks as block
use Rattle.rx_exits_plan.specs.Runs.{in_front, inside, behind, last_value}
use Rattle.rx_exits_plan.specs.Points.{next, enters, leaves}
use Rattle.rx_exits_plan.specs.Changed.{changed, changed_matched, changed_statement}
use Rattle.rx_exits_plan.specs.Marked.{mark, shown, marking, using, entering, ended, ended_tail, marked_body}
use Rattle.rx_exits_plan.specs.Occurrences.{Occurrence, names, declared, variables_among, all_declared, occurrences, occurrences_matched, in_statements, in_value, in_run, drops, firsts, is_declared_in_run}
use Rattle.rx_exits_plan.specs.Asked.{Asked}
use Rattle.rx_exits_plan.specs.Plan.{Plan, variables_of, foreign_of}
use Rattle.rx_facts_tables.proofs.Fronts.{not_so}
use Rattle.rx_engine_simulation.specs.Histories.{Declares}
use Rattle.rx_engine_related.specs.Reads.{entry_read}
use Rattle.rx_engine_related.proofs.Choosing.{of_those}
use Rattle.rx_engine_related.proofs.Undeclared as declaring_laws
use Rattle.rx_engine_related.proofs.Undeclared.{Undeclared, walk_away, taking_away, exp_away, matched_away, away_of}
use Rattle.rx_engine_initial.specs.Matching.{Piece, doing, ending, fill, Runs, does_one}
use Rattle.rx_engine_initial.specs.Matching as matching
use Rattle.rx_engine_initial.specs.Handing.{Straight, no_action, one_action, in_sequence}
use Rattle.rx_engine_initial.specs.Fates.{LeavesBe}
use Rattle.rx_engine_initial.proofs.Tracing.{joined}
use Rattle.rx_engine_initial.proofs.Ways.{no, other_number, same_self}
use Rattle.rx_engine_initial.proofs.Straight.{Taken, all_taken, straightly}
use Rattle.rx_engine_initial_calls.specs.GoneThrough.{all_read, IsGoneThrough}
use Rattle.rx_engine_initial_calls.specs.RunPieces.{declaring_pieces, binding_pieces, pieces_of, run_pieces}
use Rattle.rx_engine_initial_calls.proofs.Unnamed.{Untouched, Away, away_front, away_rest, walk_leaves, SubjectAway, taking_leaves, exp_leaves, matched_leaves, subject_away}

-- ---- orders of statements are pieces

declaring_filled : (n s : ℕ) (xs : List ℕ) (K : List Piece) (r : Order) → declaring s xs n (fill K r) ≡ fill (declaring_pieces n s xs K) r
declaring_filled n s [] K r = refl
declaring_filled n s (x ∷ xs) K r = ap (λ q. orders.then (orders.act (does s (Declare x))) (orders.ending n x q)) (declaring_filled n s xs K r)

binding_filled : (n : ℕ) (S : Subject) (bs : List Binding) (K : List Piece) (r : Order) → binding S bs n (fill K r) ≡ fill (binding_pieces n S bs K) r
binding_filled n S [] K r = refl
binding_filled n S (b ∷ bs) K r = ap (λ q. orders.then (perhaps b.node (taken S b)) (orders.then (orders.act (act.declared b)) (orders.then (orders.act (act.written S b)) (orders.ending n b.variable q)))) (binding_filled n S bs K r)

pub body_filled : (n : ℕ) (ss : List Statement) (b : Body) (d : Temporary) → order_body (before ss b) n d ≡ fill (pieces_of n ss) (order_body b n d)
body_filled n [] b d = refl
body_filled n (block.does e ∷ ss) b d = ap (λ q. orders.then (order e (temporary_of e)) q) (body_filled n ss b d)
body_filled n (block.begins s xs ∷ ss) b d = ap (λ q. declaring s xs n q) (body_filled n ss b d) ∙ declaring_filled n s xs (pieces_of n ss) (order_body b n d)
body_filled n (block.binds s p c ∷ ss) b d =
    ap (λ q. orders.then (order_scrutinee c) (binding (subject c) (bindings [] p) n q)) (body_filled n ss b d) ∙ ap (λ q. orders.then (order_scrutinee c) q) (binding_filled n (subject c) (bindings [] p) (pieces_of n ss) (order_body b n d))

pub before_both : (ss ts : List Statement) (b : Body) → before ss (before ts b) ≡ before (ss ++ ts) b
before_both [] ts b = refl
before_both (block.does e ∷ ss) ts b = ap (λ c. runs e c) (before_both ss ts b)
before_both (block.begins s xs ∷ ss) ts b = ap (λ c. declares s xs c) (before_both ss ts b)
before_both (block.binds s p c ∷ ss) ts b = ap (λ d. lets s p c d) (before_both ss ts b)

-- the marked block: what stands in front, the run, what follows
pub run_filled : (A : Asked) (k : Plan) (d : Temporary) → order_body (marked_body A.run A.home.around.loops k.params A.home.body) A.run.block d
    ≡ fill (pieces_of A.run.block (in_front A.run A.home.body)) (fill (run_pieces A k)
    (order_body (before (behind A.run A.home.body) (ends (ended_tail A.run.tail A.run.block A.home.around.loops (tail A.home.body)))) A.run.block d))
run_filled A k d =
    let ls = A.home.around.loops in
    let r : Body = before (behind A.run A.home.body) (ends (ended_tail A.run.tail A.run.block ls (tail A.home.body))) in
    let inner = map (changed_statement (marking ls)) (inside A.run A.home.body) in
    body_filled A.run.block (in_front A.run A.home.body) (before (entering k.params) (before inner (before (ended A.run.tail) r))) d
    ∙ ap (λ q. fill (pieces_of A.run.block (in_front A.run A.home.body)) q)
    (ap (λ b. order_body b A.run.block d) (ap (λ b. before (entering k.params) b) (before_both inner (ended A.run.tail) r) ∙ before_both (entering k.params) (inner ++ ended A.run.tail) r)
    ∙ body_filled A.run.block (entering k.params ++ (inner ++ ended A.run.tail)) r d)

-- ---- what all pieces do

abbrev pub AllPieces : (Order → Type 0) → List Piece → Type 0
AllPieces P [] = Unit {0}
AllPieces P (doing s ∷ K) = P s × AllPieces P K
AllPieces P (ending n x ∷ K) = AllPieces P K

pub either_list : {B : Action → Type 0} (l m : List Action) → ((a : Action) → Among a l → B a) → ((a : Action) → Among a m → B a) → (a : Action) → Among a (l ++ m) → B a
either_list [] m f g a i = g a i
either_list (_ ∷ l) m f g b here = f b here
either_list (b ∷ l) m f g a (there i) = either_list l m (λ c k. f c (there k)) g a i

pieces_do : (P : Order → Type 0) (B : Action → Type 0) → ((s : Order) (u : List Action) → P s → Walk s u on → (a : Action) → Among a u → B a) → {K : List Piece} {u : List Action} → AllPieces P K → Runs K u
    → (a : Action) → Among a u → B a
pieces_do P B f h matching.done a i = elim i [ ]
pieces_do P B f h (does_one {s = s} {us = us} {vs = vs} w r) a i = either_list us vs (f s us h.0 w) (pieces_do P B f h.1 r) a i
pieces_do P B f h (matching.begins r) a i = pieces_do P B f h r a i

-- statement by statement
abbrev AllBegun : (Order → Type 0) → ℕ → List ℕ → Type 0
AllBegun P s [] = Unit {0}
AllBegun P s (x ∷ xs) = P (orders.act (does s (Declare x))) × AllBegun P s xs

abbrev AllBound : (Order → Type 0) → Subject → List Binding → Type 0
AllBound P S [] = Unit {0}
AllBound P S (b ∷ bs) = P (perhaps b.node (taken S b)) × P (orders.act (act.declared b)) × P (orders.act (act.written S b)) × AllBound P S bs

abbrev AllStatements : (Order → Type 0) → List Statement → Type 0
AllStatements P [] = Unit {0}
AllStatements P (block.does e ∷ ss) = P (order e (temporary_of e)) × AllStatements P ss
AllStatements P (block.begins s xs ∷ ss) = AllBegun P s xs × AllStatements P ss
AllStatements P (block.binds s p c ∷ ss) = P (order_scrutinee c) × AllBound P (subject c) (bindings [] p) × AllStatements P ss

module _ (P : Order → Type 0) where
  begun_pieces : (n s : ℕ) (xs : List ℕ) (K : List Piece) → AllBegun P s xs → AllPieces P K → AllPieces P (declaring_pieces n s xs K)
  begun_pieces n s [] K h k = k
  begun_pieces n s (x ∷ xs) K h k = (h.0, begun_pieces n s xs K h.1 k)

  bound_pieces : (n : ℕ) (S : Subject) (bs : List Binding) (K : List Piece) → AllBound P S bs → AllPieces P K → AllPieces P (binding_pieces n S bs K)
  bound_pieces n S [] K h k = k
  bound_pieces n S (b ∷ bs) K h k = (h.0, (h.1, (h.2, bound_pieces n S bs K h.3 k)))

  statement_pieces : (n : ℕ) (ss : List Statement) → AllStatements P ss → AllPieces P (pieces_of n ss)
  statement_pieces n [] h = tt
  statement_pieces n (block.does e ∷ ss) h = (h.0, statement_pieces n ss h.1)
  statement_pieces n (block.begins s xs ∷ ss) h = begun_pieces n s xs (pieces_of n ss) h.0 (statement_pieces n ss h.1)
  statement_pieces n (block.binds s p c ∷ ss) h = (h.0, bound_pieces n (subject c) (bindings [] p) (pieces_of n ss) h.1 (statement_pieces n ss h.2))

  both_lists : (ss ts : List Statement) → AllStatements P ss → AllStatements P ts → AllStatements P (ss ++ ts)
  both_lists [] ts h k = k
  both_lists (block.does e ∷ ss) ts h k = (h.0, both_lists ss ts h.1 k)
  both_lists (block.begins s xs ∷ ss) ts h k = (h.0, both_lists ss ts h.1 k)
  both_lists (block.binds s p c ∷ ss) ts h k = (h.0, h.1, both_lists ss ts h.2 k)

  -- reads of params, and the mark of the end
  all_using : ((x : ℕ) → P (orders.act (entry_read x))) → (xs : List ℕ) → AllStatements P (map using xs)
  all_using f [] = tt
  all_using f (x ∷ xs) = (f x, all_using f xs)

  all_ended : P (order (mark (leaves next)) (temporary_of (mark (leaves next)))) → (t : Bool) → AllStatements P (ended t)
  all_ended h true = tt
  all_ended h false = (h, tt)

-- ---- of the run: with what its statements do

module _ (A : Asked) (k : Plan) (P : Order → Type 0) where
  run_statements : AllStatements P (map (changed_statement (marking A.home.around.loops)) (inside A.run A.home.body)) → P (order (mark enters) (temporary_of (mark enters)))
      → ((x : ℕ) → P (orders.act (entry_read x))) → P (order (mark (leaves next)) (temporary_of (mark (leaves next)))) → AllPieces P (run_pieces A k)
  run_statements h e r l = let inner = map (changed_statement (marking A.home.around.loops)) (inside A.run A.home.body) in
      statement_pieces P A.run.block (entering k.params ++ (inner ++ ended A.run.tail)) (both_lists P (entering k.params) (inner ++ ended A.run.tail) (e, all_using P r k.params)
      (both_lists P inner (ended A.run.tail) h (all_ended P l A.run.tail)))

module _ (y : ℕ) (ls : List ℕ) where
  -- what it does not name it does not touch
  untouched_begun : (s : ℕ) (xs : List ℕ) → Away y (all_declared xs) → AllBegun (λ q. Untouched y q) s xs
  untouched_begun s [] h = tt
  untouched_begun s (x ∷ xs) h = (h.0, untouched_begun s xs h.1)

  untouched_bound : (S : Subject) (bs : List Binding) → SubjectAway y S → Away y (all_declared (map (λ (b : Binding). b.variable) bs)) → AllBound (λ q. Untouched y q) S bs
  untouched_bound S [] s h = tt
  untouched_bound S (b ∷ bs) s h = (taking_leaves y b.node b.mode S b.steps (temporary_at b.node 0) s, h.0, h.0, untouched_bound S bs s h.1)

  untouched_statements : (ss : List Statement) → Away y (in_statements ss) → AllStatements (λ q. Untouched y q) (map (changed_statement (marking ls)) ss)
  untouched_statements [] h = tt
  untouched_statements (block.does e ∷ ss) h = (exp_leaves y ls e (temporary_of (changed (marking ls) e)) (away_front y (occurrences e) (in_statements ss) h), untouched_statements ss (away_rest y (occurrences e) (in_statements ss) h))
  untouched_statements (block.begins s xs ∷ ss) h = (untouched_begun s xs (away_front y (all_declared xs) (in_statements ss) h), untouched_statements ss (away_rest y (all_declared xs) (in_statements ss) h))
  untouched_statements (block.binds s p c ∷ ss) h =
      let i = away_front y (all_declared (bound p) ++ occurrences_matched c) (in_statements ss) h in let j = away_rest y (all_declared (bound p)) (occurrences_matched c) i in (
        matched_leaves y ls c j,
        untouched_bound (subject (changed_matched (marking ls) c)) (bindings [] p) (subject_away y ls c j) (away_front y (all_declared (bound p)) (occurrences_matched c) i),
        untouched_statements ss (away_rest y (all_declared (bound p) ++ occurrences_matched c) (in_statements ss) h),
      )

  -- what it does not declare it does not begin
  undeclared_begun : (s : ℕ) (xs : List ℕ) → declaring_laws.Away y (all_declared xs) → AllBegun (λ q. Undeclared y q) s xs
  undeclared_begun s [] h = tt
  undeclared_begun s (x ∷ xs) h = (h.0, undeclared_begun s xs h.1)

  undeclared_bound : (S : Subject) (bs : List Binding) → declaring_laws.Away y (all_declared (map (λ (b : Binding). b.variable) bs)) → AllBound (λ q. Undeclared y q) S bs
  undeclared_bound S [] h = tt
  undeclared_bound S (b ∷ bs) h = (taking_away y b.node b.mode S b.steps (temporary_at b.node 0), h.0, (λ d. d), undeclared_bound S bs h.1)

  undeclared_statements : (ss : List Statement) → declaring_laws.Away y (in_statements ss) → AllStatements (λ q. Undeclared y q) (map (changed_statement (marking ls)) ss)
  undeclared_statements [] h = tt
  undeclared_statements (block.does e ∷ ss) h = (
    exp_away y ls e (temporary_of (changed (marking ls) e)) (declaring_laws.away_front y (occurrences e) (in_statements ss) h),
    undeclared_statements ss (declaring_laws.away_rest y (occurrences e) (in_statements ss) h),
  )
  undeclared_statements (block.begins s xs ∷ ss) h = (undeclared_begun s xs (declaring_laws.away_front y (all_declared xs) (in_statements ss) h), undeclared_statements ss (declaring_laws.away_rest y (all_declared xs) (in_statements ss) h))
  undeclared_statements (block.binds s p c ∷ ss) h =
      let i = declaring_laws.away_front y (all_declared (bound p) ++ occurrences_matched c) (in_statements ss) h in (
        matched_away y ls c (declaring_laws.away_rest y (all_declared (bound p)) (occurrences_matched c) i),
        undeclared_bound (subject (changed_matched (marking ls) c)) (bindings [] p) (declaring_laws.away_front y (all_declared (bound p)) (occurrences_matched c) i),
        undeclared_statements ss (declaring_laws.away_rest y (all_declared (bound p) ++ occurrences_matched c) (in_statements ss) h),
      )

-- ---- what is named

among_drops : (x y : ℕ) (l : List ℕ) → (y ≡ x → ⊥) → Among y l → Among y (drops x l)
among_drops x y _ d (here {l = l}) = by (y == x) (other_number y x d)
  where
    by : (b : Bool) → b ≡ false → Among y (if b then drops x l else y ∷ drops x l)
    by false e = here
    by true e = no (sym e)
among_drops x y _ d (there {b = z} {l = l} i) = by (z == x) (among_drops x y l d i)
  where
    by : (b : Bool) → Among y (drops x l) → Among y (if b then drops x l else z ∷ drops x l)
    by true j = j
    by false j = there j

among_firsts : (y : ℕ) (l : List ℕ) → Among y l → Among y (firsts l)
among_firsts y _ (here {l = l}) = here
among_firsts y _ (there {b = x} {l = l} i) = by (y == x) refl (among_firsts y l i)
  where
    by : (b : Bool) → (y == x) ≡ b → Among y (firsts l) → Among y (x ∷ drops x (firsts l))
    by true e j = subst (λ z. Among y (z ∷ drops x (firsts l))) (eqb-true y x e) here
    by false e j = there (among_drops x y (firsts l) (λ q. differ (subst (λ z. (y == z) ≡ true) q (same_self y)) e) j)
      where
        differ : (y == x) ≡ true → (y == x) ≡ false → ⊥
        differ p q = no (sym q ∙ p)

away_unnamed : (y : ℕ) (os : List Occurrence) → (Among y (variables_among os) → ⊥) → Away y os
away_unnamed y [] f = tt
away_unnamed y (names z ∷ os) f = ((λ e. f (subst (λ v. Among y (v ∷ variables_among os)) (sym e) here)), away_unnamed y os (λ i. f (there i)))
away_unnamed y (declared z ∷ os) f = ((λ e. f (subst (λ v. Among y (v ∷ variables_among os)) (sym e) here)), away_unnamed y os (λ i. f (there i)))

pub not_begun : (y : ℕ) (a : Act) → (Declares a y → ⊥) → begins y a ≡ false
not_begun y (Declare x) f = other_number x y (λ e. f (sym e))
not_begun y (Dead x) f = refl
not_begun y (Read v p d) f = refl
not_begun y (Write p t ss) f = refl
not_begun y (Borrow v p d) f = refl
not_begun y (Test p c) f = refl
not_begun y (Call g ts d) f = refl
not_begun y (Build w is ts d) f = refl
not_begun y (Input d) f = refl
not_begun y (Print t) f = refl
not_begun y (Give t) f = refl

-- ---- of a run: it touches what it names alone, and begins nothing that is declared outside

pub untouched_run : (A : Asked) (k : Plan) (y : ℕ) → (Among y (variables_of A) → ⊥) → AllPieces (λ q. Untouched y q) (run_pieces A k)
untouched_run A k y f = run_statements A k (λ q. Untouched y q) (untouched_statements y A.home.around.loops (inside A.run A.home.body) (away_front y (in_statements (inside A.run A.home.body)) (in_value (last_value A.run A.home.body))
    (away_unnamed y (in_run A.run A.home.body) (λ j. f (among_firsts y (variables_among (in_run A.run A.home.body)) j))))) (tt, tt) (λ x. tt) (tt, tt)

pub undeclared_run : (A : Asked) (k : Plan) (y : ℕ) → Among y (foreign_of A) → AllPieces (λ q. Undeclared y q) (run_pieces A k)
undeclared_run A k y f = run_statements A k (λ q. Undeclared y q) (undeclared_statements y A.home.around.loops (inside A.run A.home.body) (declaring_laws.away_front y (in_statements (inside A.run A.home.body)) (in_value (last_value A.run A.home.body))
    (away_of y (in_run A.run A.home.body) (not_so (is_declared_in_run A.run A.home.body y) (of_those (λ z. not (is_declared_in_run A.run A.home.body z)) (variables_of A) f).1)))) (tt, λ d. d) (λ x d. d) (tt, λ d. d)

-- ---- where it begins and ends

taken_all : {l us : List Action} → Taken l us on → us ≡ l
taken_all all_taken = refl

straight_is : {s : Order} {l us : List Action} → Straight s l → Walk s us on → us ≡ l
straight_is {us = us} s w = taken_all (straightly s us on w)

reads_first : (n : ℕ) (xs : List ℕ) (ts : List Statement) {u : List Action} → Runs (pieces_of n (map using xs ++ ts)) u → (vs : List Action) × (u ≡ all_read xs vs)
reads_first n [] ts {u = u} r = (u, refl)
reads_first n (x ∷ xs) ts (does_one {us = us} {vs = vs} w r) = let z = reads_first n xs ts r in (z.0, ap (λ l. l ++ vs) (straight_is one_action w) ∙ ap (λ l. entry_read x ∷ l) z.1)

marks_first : (n : ℕ) (xs : List ℕ) (ts : List Statement) {u : List Action} → Runs (pieces_of n (entering xs ++ ts)) u → (vs : List Action) × (u ≡ shown enters ∷ all_read xs vs)
marks_first n xs ts (does_one {us = us} {vs = vs} w r) = let z = reads_first n xs ts r in (z.0, ap (λ l. l ++ vs) (straight_is (in_sequence no_action one_action) w) ∙ ap (λ l. shown enters ∷ l) z.1)

-- behind the first statements the others run
pub record Last (K : List Piece) (u : List Action) : Type 0 where
  pub front : List Action
  pub rest : List Action
  pub is : u ≡ front ++ rest
  pub runs : Runs K rest

one_more : {K : List Piece} {v : List Action} (us : List Action) → Last K v → Last K (us ++ v)
one_more us z = record { front = us ++ z.front; rest = z.rest; is = ap (λ l. us ++ l) z.is ∙ sym (joined us z.front z.rest); runs = z.runs }

begun_last : (n s : ℕ) (xs : List ℕ) (K : List Piece) {u : List Action} → Runs (declaring_pieces n s xs K) u → Last K u
begun_last n s [] K {u = u} r = record { front = []; rest = u; is = refl; runs = r }
begun_last n s (x ∷ xs) K (does_one {us = us} w (matching.begins r)) = one_more us (begun_last n s xs K r)

bound_last : (n : ℕ) (S : Subject) (bs : List Binding) (K : List Piece) {u : List Action} → Runs (binding_pieces n S bs K) u → Last K u
bound_last n S [] K {u = u} r = record { front = []; rest = u; is = refl; runs = r }
bound_last n S (b ∷ bs) K (does_one {us = us} w (does_one {us = vs} x (does_one {us = ws} z (matching.begins r)))) = one_more us (one_more vs (one_more ws (bound_last n S bs K r)))

further : {K J : List Piece} {u : List Action} → ((v : List Action) → Runs K v → Last J v) → Last K u → Last J u
further f z = let y = f z.rest z.runs in record { front = z.front ++ y.front; rest = y.rest; is = z.is ∙ (ap (λ l. z.front ++ l) y.is ∙ sym (joined z.front y.front y.rest)); runs = y.runs }

statements_last : (n : ℕ) (ss ts : List Statement) {u : List Action} → Runs (pieces_of n (ss ++ ts)) u → Last (pieces_of n ts) u
statements_last n [] ts {u = u} r = record { front = []; rest = u; is = refl; runs = r }
statements_last n (block.does e ∷ ss) ts (does_one {us = us} w r) = one_more us (statements_last n ss ts r)
statements_last n (block.begins s xs ∷ ss) ts r = further (λ v q. statements_last n ss ts q) (begun_last n s xs (pieces_of n (ss ++ ts)) r)
statements_last n (block.binds s p c ∷ ss) ts (does_one {us = us} w r) = one_more us (further (λ v q. statements_last n ss ts q) (bound_last n (subject c) (bindings [] p) (pieces_of n (ss ++ ts)) r))

ends_marked : (n : ℕ) {u : List Action} → Runs (pieces_of n (ended false)) u → u ≡ shown (leaves next) ∷ []
ends_marked n (does_one {us = us} {vs = vs} w matching.done) = ap (λ l. l ++ []) (straight_is (in_sequence no_action one_action) w)

-- ---- the walk

pub gone_through : (A : Asked) (k : Plan) → A.run.tail ≡ false → (u : List Action) → Runs (run_pieces A k) u → IsGoneThrough A k next u
gone_through A k plain u r = record {
  entered = marks_first A.run.block k.params (within ++ ended A.run.tail) r;
  inner = z.front;
  ends = [];
  left = z.is ∙ ap (λ l. z.front ++ l) (ends_marked A.run.block (subst (λ t. Runs (pieces_of A.run.block (ended t)) z.rest) plain z.runs));
  ended = λ a i. elim i [ ];
  named = λ a i y f. pieces_do (λ q. Untouched y q) (λ b. LeavesBe b.act y) (λ s v h w b j. walk_leaves y h w b j) (untouched_run A k y f) r a i;
  declared = λ a i y f. not_begun y a.act (pieces_do (λ q. Undeclared y q) (λ b. Declares b.act y → ⊥) (λ s v h w b j. walk_away y h w b j) (undeclared_run A k y f) r a i);
}
  where
    within : List Statement
    within = map (changed_statement (marking A.home.around.loops)) (inside A.run A.home.body)

    z : Last (pieces_of A.run.block (ended A.run.tail)) u
    z = further (λ v q. statements_last A.run.block within (ended A.run.tail) q) (statements_last A.run.block (entering k.params) (within ++ ended A.run.tail) r)
