-- What never goes on by its form (rx_engine_related) has no walk that goes on: form by form.
use Rattle.std.proofs.Common.{◌≡◌, ℕ, true, false, List, [], ◌∷◌, Option, Some, None}
use Rattle.rx_typed.specs.Tree.{Temporary, read, borrow, share, build, unit, lazily, assign, update, call, input, print, block, choose, loop, jump, give, Exp, Operands, no_operand, operand_and, Scrutinee, at_place, of_value, Arms, no_arm, arm_and, Body, ends, runs, declares, lets, mark_of, temporary_at, temporary_of}
use Rattle.rx_lower_walks.specs.Matching.{Binding, bindings, PartTest, tests}
use Rattle.rx_lower_walks.specs.Actions.{Act, Subject, subject, taken}
use Rattle.rx_lower_walks.specs.Orders.{binding, declaring, Order, order, order_all, order_arms, order_body, order_scrutinee, perhaps, testing}
use Rattle.rx_engine_related.specs.Never as never
use Rattle.rx_engine_related.specs.Never.{AllNever, ArmsHaveNoBreak, BodyHasNoBreak, HasNoBreak, MatchedHasNoBreak, NeverMatched, NeverOn, NeverThrough, NoneHasBreak, SomeNever}
use Rattle.rx_engine_tied.proofs.Sealed.{first_stays, Never, never_ending, never_fail, never_first, never_leave, never_nowhere, never_or, never_otherwise, never_passes, never_second, NoBreak, without_break}

-- ---- breaks

module _ (l : ℕ) where
  perhaps_none : (n : ℕ) (o : Option Act) → NoBreak l (perhaps n o)
  perhaps_none n None = tt
  perhaps_none n (Some a) = tt

  testing_none : (S : Subject) (ts : List PartTest) (r : Order) → NoBreak l r → NoBreak l (testing S ts r)
  testing_none S [] r h = h
  testing_none S (t ∷ ts) r h = (tt, (testing_none S ts r h, tt))

  binding_none : (S : Subject) (bs : List Binding) (n : ℕ) (r : Order) → NoBreak l r → NoBreak l (binding S bs n r)
  binding_none S [] n r h = h
  binding_none S (b ∷ bs) n r h = (perhaps_none b.node (taken S b), (tt, (tt, binding_none S bs n r h)))

  declaring_none : (s : ℕ) (xs : List ℕ) (n : ℕ) (r : Order) → NoBreak l r → NoBreak l (declaring s xs n r)
  declaring_none s [] n r h = h
  declaring_none s (x ∷ xs) n r h = (tt, declaring_none s xs n r h)

  mutual
    exp_none : (e : Exp) (d : Temporary) → HasNoBreak l e → NoBreak l (order e d)
    exp_none (read m v p) d h = tt
    exp_none (borrow m k p) d h = tt
    exp_none (share m e) d h = (exp_none e (temporary_at m.node 1) h, tt)
    exp_none (build m w es) d h = (all_none es h, tt)
    exp_none (unit m) d h = tt
    exp_none (lazily m b e f) d h = (exp_none e (temporary_of e) h.0, (tt, ((exp_none f (temporary_of f) h.1, tt), tt)))
    exp_none (assign m p e) d h = (exp_none e (temporary_of e) h, tt)
    exp_none (update m o p e) d h = (exp_none e (temporary_of e) h, (tt, (tt, tt)))
    exp_none (call m f es) d h = (all_none es h, tt)
    exp_none (input m) d h = tt
    exp_none (print m e) d h = (exp_none e (temporary_of e) h, tt)
    exp_none (block m b) d h = body_none b m.node d h
    exp_none (choose m s r) d h = (matched_none s h.0, arms_none (subject s) r d h.1)
    exp_none (loop m k e) d h = exp_none e (temporary_of e) h
    exp_none (jump m k true) d h = tt
    exp_none (jump m k false) d h = h
    exp_none (give m e) d h = (exp_none e (temporary_of e) h, (tt, tt))

    all_none : (es : Operands) → NoneHasBreak l es → NoBreak l (order_all es)
    all_none no_operand h = tt
    all_none (operand_and i e es) h = (exp_none e (temporary_of e) h.0, all_none es h.1)

    matched_none : (s : Scrutinee) → MatchedHasNoBreak l s → NoBreak l (order_scrutinee s)
    matched_none (at_place m p) h = tt
    matched_none (of_value e) h = exp_none e (temporary_of e) h

    arms_none : (S : Subject) (r : Arms) (d : Temporary) → ArmsHaveNoBreak l r → NoBreak l (order_arms S r d)
    arms_none S no_arm d h = tt
    arms_none S (arm_and p e r) d h =
        (testing_none S (tests [] p) (binding S (bindings [] p) (mark_of e).node (order e d)) (binding_none S (bindings [] p) (mark_of e).node (order e d) (exp_none e d h.0)), arms_none S r d h.1)

    body_none : (b : Body) (n : ℕ) (d : Temporary) → BodyHasNoBreak l b → NoBreak l (order_body b n d)
    body_none (ends e) n d h = exp_none e d h
    body_none (runs e b) n d h = (exp_none e (temporary_of e) h.0, body_none b n d h.1)
    body_none (declares s xs b) n d h = declaring_none s xs n (order_body b n d) (body_none b n d h)
    body_none (lets s p c b) n d h = (matched_none c h.0, binding_none (subject c) (bindings [] p) n (order_body b n d) (body_none b n d h.1))

-- ---- what never goes on

testing_never : (S : Subject) (ts : List PartTest) {r : Order} → Never r → Never (testing S ts r)
testing_never S [] h = h
testing_never S (t ∷ ts) h = never_second (never_or (testing_never S ts h) never_fail)

binding_never : (S : Subject) (bs : List Binding) (n : ℕ) {r : Order} → Never r → Never (binding S bs n r)
binding_never S [] n h = h
binding_never S (b ∷ bs) n h = never_second (never_second (never_second (never_ending (binding_never S bs n h))))

declaring_never : (s : ℕ) (xs : List ℕ) (n : ℕ) {r : Order} → Never r → Never (declaring s xs n r)
declaring_never s [] n h = h
declaring_never s (x ∷ xs) n h = never_second (never_ending (declaring_never s xs n h))

mutual
  pub exp_never : {e : Exp} → NeverOn e → (d : Temporary) → Never (order e d)
  exp_never never.never_jump d = never_leave
  exp_never never.never_return d = never_second (never_second never_leave)
  exp_never (never.never_share {m = m} h) d = never_first (exp_never h (temporary_at m.node 1))
  exp_never (never.never_build h) d = never_first (all_never h)
  exp_never (never.never_lazily {e = e} h) d = never_first (exp_never h (temporary_of e))
  exp_never (never.never_assign {e = e} h) d = never_first (exp_never h (temporary_of e))
  exp_never (never.never_update {e = e} h) d = never_first (exp_never h (temporary_of e))
  exp_never (never.never_call h) d = never_first (all_never h)
  exp_never (never.never_print {e = e} h) d = never_first (exp_never h (temporary_of e))
  exp_never (never.never_block {m = m} h) d = body_never h m.node d
  exp_never (never.never_matched h) d = never_first (matched_never h)
  exp_never (never.never_armed {c = c} h) d = never_second (arms_never h (subject c) d)
  exp_never (never.never_loop {l = l} {e = e} h) d = never_passes (without_break (exp_none l e (temporary_of e) h))
  exp_never (never.never_tested {l = l} {c = c} h k) d = never_passes (first_stays (matched_never h) (without_break (matched_none l c k)))

  all_never : {es : Operands} → SomeNever es → Never (order_all es)
  all_never (never.this_operand {e = e} h) = never_first (exp_never h (temporary_of e))
  all_never (never.later_operand h) = never_second (all_never h)

  pub matched_never : {c : Scrutinee} → NeverMatched c → Never (order_scrutinee c)
  matched_never (never.never_value {e = e} h) = exp_never h (temporary_of e)

  arms_never : {l : Arms} → AllNever l → (S : Subject) (d : Temporary) → Never (order_arms S l d)
  arms_never never.no_arm_goes S d = never_nowhere
  arms_never (never.arm_never {p = p} {e = e} h k) S d = never_otherwise (testing_never S (tests [] p) (binding_never S (bindings [] p) (mark_of e).node (exp_never h d))) (arms_never k S d)

  body_never : {b : Body} → NeverThrough b → (n : ℕ) (d : Temporary) → Never (order_body b n d)
  body_never (never.tail_never h) n d = exp_never h d
  body_never (never.statement_never {e = e} h) n d = never_first (exp_never h (temporary_of e))
  body_never (never.behind_statement h) n d = never_second (body_never h n d)
  body_never (never.behind_declaration {s = s} {xs = xs} h) n d = declaring_never s xs n (body_never h n d)
  body_never (never.let_never h) n d = never_first (matched_never h)
  body_never (never.behind_let {p = p} {c = c} h) n d = never_second (binding_never (subject c) (bindings [] p) n (body_never h n d))
