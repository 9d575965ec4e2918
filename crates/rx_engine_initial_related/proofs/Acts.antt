-- Statements without a choice, and what they do.
use Rattle.std.proofs.Common.{◌≡◌, ℕ, List, [], ◌∷◌, ◌++◌, map, None, sym, ◌∙◌, subst, ap}
use Rattle.rx_typed.specs.Tree.{Place, Mark, Pattern, Exp, assign, of_value, temporary_of}
use Rattle.rx_lower_walks.specs.Matching.{Binding, bindings}
use Rattle.rx_lower_walks.specs.Actions.{Declare, Write, Action, does, at_mark, Subject, in_temporary, subject, taken, declared, written}
use Rattle.rx_lower_walks.specs.Orders.{perhaps, order}
use Rattle.rx_lower_walks.specs.Walks.{Among, here, there}
use Rattle.rx_exits_plan.specs.Blocks.{Statement, begins, binds, declared_by_all}
use Rattle.rx_exits_plan.specs.Blocks as block
use Rattle.rx_engine_initial.specs.Variables.{Kept}
use Rattle.rx_engine_initial.specs.Matching.{Piece}
use Rattle.rx_engine_initial.specs.Entered.{IsNewHere}
use Rattle.rx_engine_initial.specs.Handing.{Straight, no_action, one_action, in_sequence}
use Rattle.rx_engine_initial.specs.Calls.{Does, no_piece, one_piece, one_variable, AllNew}
use Rattle.rx_engine_initial.proofs.Tracing.{joined}
use Rattle.rx_engine_initial_calls.specs.RunPieces.{declaring_pieces, binding_pieces, pieces_of}

-- bindings of a value in a temporary: nothing is read
pub data Bound (X : Subject) : List Binding → List Action → Type 0 where
  bound_none : Bound X [] []
  bound_and : {b : Binding} {bs : List Binding} {us : List Action} → taken X b ≡ None → Bound X bs us → Bound X (b ∷ bs) (declared b ∷ written X b ∷ us)

pub data Acts : List Statement → List Action → Type 0 where
  acts_none : Acts [] []
  acts_does : {e : Exp} {ss : List Statement} {us vs : List Action} → Straight (order e (temporary_of e)) us → Acts ss vs → Acts (block.does e ∷ ss) (us ++ vs)
  acts_begins : {n x : ℕ} {ss : List Statement} {us : List Action} → Acts ss us → Acts (begins n (x ∷ []) ∷ ss) (does n (Declare x) ∷ us)
  acts_binds : {n : ℕ} {p : Pattern} {e : Exp} {ss : List Statement} {us vs ws : List Action} → Straight (order e (temporary_of e)) us → Bound (in_temporary (temporary_of e)) (bindings [] p) vs → Acts ss ws
      → Acts (binds n p (of_value e) ∷ ss) (us ++ (vs ++ ws))

-- statements that declare nothing
pub data Done : List Statement → List Action → Type 0 where
  done_none : Done [] []
  done_one : {e : Exp} {ss : List Statement} {us vs : List Action} → Straight (order e (temporary_of e)) us → Done ss vs → Done (block.does e ∷ ss) (us ++ vs)

pub done_acts : {ss : List Statement} {us : List Action} → Done ss us → Acts ss us
done_acts done_none = acts_none
done_acts (done_one s d) = acts_does s (done_acts d)

pub acts_both : {ss ts : List Statement} {us vs : List Action} → Acts ss us → Acts ts vs → Acts (ss ++ ts) (us ++ vs)
acts_both acts_none b = b
acts_both {ts = ts} {vs = vs} (acts_does {e = e} {ss = ss} {us = us} {vs = ws} s a) b = subst (λ l. Acts (block.does e ∷ (ss ++ ts)) l) (sym (joined us ws vs)) (acts_does s (acts_both a b))
acts_both (acts_begins a) b = acts_begins (acts_both a b)
acts_both {ts = ts} {vs = xs} (acts_binds {n = n} {p = p} {e = e} {ss = ss} {us = us} {vs = vs} {ws = ws} s d a) b =
    subst (λ l. Acts (binds n p (of_value e) ∷ (ss ++ ts)) l) (sym (joined us (vs ++ ws) xs ∙ ap (λ l. us ++ l) (joined vs ws xs))) (acts_binds s d (acts_both a b))

-- ---- as pieces of a block

taken_straight : (n : ℕ) (X : Subject) (b : Binding) → taken X b ≡ None → Straight (perhaps b.node (taken X b)) []
taken_straight n X b e = subst (λ o. Straight (perhaps b.node o) []) (sym e) no_action

pub bound_does : (n : ℕ) (X : Subject) (bs : List Binding) (K : List Piece) {us vs : List Action} → Bound X bs us → Does K vs → Does (binding_pieces n X bs K) (us ++ vs)
bound_does n X _ K bound_none d = d
bound_does n X _ K (bound_and {b = b} {bs = bs} e c) d = one_piece (taken_straight n X b e) (one_piece one_action (one_piece one_action (one_variable (bound_does n X bs K c d))))

pub acts_pieces : (n : ℕ) {ss : List Statement} {us : List Action} → Acts ss us → Does (pieces_of n ss) us
acts_pieces n acts_none = no_piece
acts_pieces n (acts_does s a) = one_piece s (acts_pieces n a)
acts_pieces n (acts_begins a) = one_piece one_action (one_variable (acts_pieces n a))
acts_pieces n (acts_binds {p = p} {e = e} {ss = ss} s d a) = one_piece s (bound_does n (in_temporary (temporary_of e)) (bindings [] p) (pieces_of n ss) d (acts_pieces n a))

-- ---- the variables that they begin

declared_new : (vs : List Kept) (n s : ℕ) (xs : List ℕ) (K : List Piece) → ((x : ℕ) → Among x xs → IsNewHere vs x) → AllNew vs K → AllNew vs (declaring_pieces n s xs K)
declared_new vs n s [] K f a = a
declared_new vs n s (x ∷ xs) K f a = (f x here, declared_new vs n s xs K (λ y i. f y (there i)) a)

bound_new : (vs : List Kept) (n : ℕ) (X : Subject) (bs : List Binding) (K : List Piece) → ((b : Binding) → Among b bs → IsNewHere vs b.variable) → AllNew vs K → AllNew vs (binding_pieces n X bs K)
bound_new vs n X [] K f a = a
bound_new vs n X (b ∷ bs) K f a = (f b here, bound_new vs n X bs K (λ c i. f c (there i)) a)

pub among_front : {A : Type 0} {x : A} (l m : List A) → Among x l → Among x (l ++ m)
among_front [] m i = elim i [ ]
among_front (_ ∷ l) m here = here
among_front (y ∷ l) m (there i) = there (among_front l m i)

pub among_rest : {A : Type 0} {x : A} (l m : List A) → Among x m → Among x (l ++ m)
among_rest [] m i = i
among_rest (y ∷ l) m i = there (among_rest l m i)

variable_of : (bs : List Binding) (b : Binding) → Among b bs → Among b.variable (map (λ (c : Binding). c.variable) bs)
variable_of [] b i = elim i [ ]
variable_of (_ ∷ bs) b here = here
variable_of (c ∷ bs) b (there i) = there (variable_of bs b i)

pub all_new : (vs : List Kept) (n : ℕ) (ss : List Statement) → ((x : ℕ) → Among x (declared_by_all ss) → IsNewHere vs x) → AllNew vs (pieces_of n ss)
all_new vs n [] f = tt
all_new vs n (block.does e ∷ ss) f = all_new vs n ss f
all_new vs n (begins s xs ∷ ss) f = declared_new vs n s xs (pieces_of n ss) (λ x i. f x (among_front xs (declared_by_all ss) i)) (all_new vs n ss (λ x i. f x (among_rest xs (declared_by_all ss) i)))
all_new vs n (binds s p c ∷ ss) f =
    bound_new vs n (subject c) (bindings [] p) (pieces_of n ss) (λ b i. f b.variable (among_front (block.bound p) (declared_by_all ss) (variable_of (bindings [] p) b i)))
    (all_new vs n ss (λ x i. f x (among_rest (block.bound p) (declared_by_all ss) i)))

-- ---- statements around an expression, and what they do behind it

pub data Around (e : Exp) : List Statement → List Action → Type 0 where
  it_alone : {ss : List Statement} {us : List Action} → Acts ss us → Around e (block.does e ∷ ss) us
  assigned : {m : Mark} {p : Place} {ss : List Statement} {us : List Action} → Acts ss us → Around e (block.does (assign m p e) ∷ ss) (at_mark m (Write p (temporary_of e) []) ∷ us)
  bound_to : {n : ℕ} {p : Pattern} {ss : List Statement} {us vs : List Action} → Bound (in_temporary (temporary_of e)) (bindings [] p) vs → Acts ss us → Around e (binds n p (of_value e) ∷ ss) (vs ++ us)

pub around_both : {e : Exp} {ss ts : List Statement} {us vs : List Action} → Around e ss us → Acts ts vs → Around e (ss ++ ts) (us ++ vs)
around_both (it_alone a) b = it_alone (acts_both a b)
around_both (assigned a) b = assigned (acts_both a b)
around_both {e = e} {ts = ts} {vs = xs} (bound_to {n = n} {p = p} {ss = ss} {us = us} {vs = vs} d a) b = subst (λ l. Around e (binds n p (of_value e) ∷ (ss ++ ts)) l) (sym (joined vs us xs)) (bound_to d (acts_both a b))

-- with an expression without a choice
pub around_acts : {e : Exp} {C : List Action} {ss : List Statement} {us : List Action} → Straight (order e (temporary_of e)) C → Around e ss us → Acts ss (C ++ us)
around_acts s (it_alone a) = acts_does s a
around_acts {e = e} {C = C} s (assigned {m = m} {p = p} {ss = ss} {us = us} a) =
    subst (λ l. Acts (block.does (assign m p e) ∷ ss) l) (joined C (at_mark m (Write p (temporary_of e) []) ∷ []) us) (acts_does (in_sequence s one_action) a)
around_acts s (bound_to d a) = acts_binds s d a
