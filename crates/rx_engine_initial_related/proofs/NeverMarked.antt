-- What never goes on by its form does not with marks behind what is returned either.
use Rattle.std.specs.Prelude.{ℕ, true, false}
use Rattle.rx_typed.specs.Tree.{Exp, Operands, Scrutinee, Arms, Body}
use Rattle.rx_engine_related.specs.Never.{HasNoBreak, NoneHasBreak, MatchedHasNoBreak, ArmsHaveNoBreak, BodyHasNoBreak, NeverOn, never_jump, never_return, never_share, never_build, never_lazily, never_assign, never_update, never_call, never_print, never_block, never_matched, never_armed, never_loop, never_tested, SomeNever, this_operand, later_operand, NeverMatched, never_value, AllNever, no_arm_goes, arm_never, NeverThrough, tail_never, statement_never, behind_statement, behind_declaration, let_never, behind_let}
use Rattle.rx_engine_initial_related.specs.AlsoMarked.{AlsoMarked, read_too, borrow_too, share_too, build_too, unit_too, lazily_too, assign_too, update_too, call_too, input_too, print_too, block_too, choose_too, loop_too, jump_too, give_too, AlsoMarkedAll, none_too, and_too, AlsoMarkedMatched, place_too, value_too, AlsoMarkedArms, no_arm_too, arm_too, AlsoMarkedBody, ends_too, runs_too, declares_too, lets_too}

mutual
  no_break : (l : ℕ) {e x : Exp} → AlsoMarked e x → HasNoBreak l e → HasNoBreak l x
  no_break l read_too h = tt
  no_break l borrow_too h = tt
  no_break l (share_too u) h = no_break l u h
  no_break l (build_too u) h = none_break l u h
  no_break l unit_too h = tt
  no_break l (lazily_too u v) h = (no_break l u h.0, no_break l v h.1)
  no_break l (assign_too u) h = no_break l u h
  no_break l (update_too u) h = no_break l u h
  no_break l (call_too u) h = none_break l u h
  no_break l input_too h = tt
  no_break l (print_too u) h = no_break l u h
  no_break l (block_too u) h = body_break l u h
  no_break l (choose_too u v) h = (matched_break l u h.0, arms_break l v h.1)
  no_break l (loop_too u) h = no_break l u h
  no_break l (jump_too {again = true}) h = tt
  no_break l (jump_too {again = false}) h = h
  no_break l (give_too u) h = (no_break l u h, (tt, tt))

  none_break : (l : ℕ) {es xs : Operands} → AlsoMarkedAll es xs → NoneHasBreak l es → NoneHasBreak l xs
  none_break l none_too h = tt
  none_break l (and_too u v) h = (no_break l u h.0, none_break l v h.1)

  matched_break : (l : ℕ) {c x : Scrutinee} → AlsoMarkedMatched c x → MatchedHasNoBreak l c → MatchedHasNoBreak l x
  matched_break l place_too h = tt
  matched_break l (value_too u) h = no_break l u h

  arms_break : (l : ℕ) {r x : Arms} → AlsoMarkedArms r x → ArmsHaveNoBreak l r → ArmsHaveNoBreak l x
  arms_break l no_arm_too h = tt
  arms_break l (arm_too u v) h = (no_break l u h.0, arms_break l v h.1)

  body_break : (l : ℕ) {b x : Body} → AlsoMarkedBody b x → BodyHasNoBreak l b → BodyHasNoBreak l x
  body_break l (ends_too u) h = no_break l u h
  body_break l (runs_too u v) h = (no_break l u h.0, body_break l v h.1)
  body_break l (declares_too v) h = body_break l v h
  body_break l (lets_too u v) h = (matched_break l u h.0, body_break l v h.1)

mutual
  pub never_marked : {e x : Exp} → AlsoMarked e x → NeverOn e → NeverOn x
  never_marked read_too n = elim n [ ]
  never_marked borrow_too n = elim n [ ]
  never_marked unit_too n = elim n [ ]
  never_marked input_too n = elim n [ ]
  never_marked jump_too never_jump = never_jump
  never_marked (give_too u) never_return = never_return
  never_marked (share_too u) (never_share n) = never_share (never_marked u n)
  never_marked (build_too u) (never_build n) = never_build (some_marked u n)
  never_marked (lazily_too u v) (never_lazily n) = never_lazily (never_marked u n)
  never_marked (assign_too u) (never_assign n) = never_assign (never_marked u n)
  never_marked (update_too u) (never_update n) = never_update (never_marked u n)
  never_marked (call_too u) (never_call n) = never_call (some_marked u n)
  never_marked (print_too u) (never_print n) = never_print (never_marked u n)
  never_marked (block_too u) (never_block n) = never_block (body_marked u n)
  never_marked (choose_too u v) (never_matched n) = never_matched (matched_marked u n)
  never_marked (choose_too u v) (never_armed n) = never_armed (arms_marked v n)
  never_marked (loop_too {l = l} u) (never_loop h) = never_loop (no_break l u h)
  never_marked (loop_too {l = l} (choose_too u v)) (never_tested n h) = never_tested (matched_marked u n) (matched_break l u h)

  some_marked : {es xs : Operands} → AlsoMarkedAll es xs → SomeNever es → SomeNever xs
  some_marked none_too n = elim n [ ]
  some_marked (and_too u v) (this_operand n) = this_operand (never_marked u n)
  some_marked (and_too u v) (later_operand n) = later_operand (some_marked v n)

  pub matched_marked : {c x : Scrutinee} → AlsoMarkedMatched c x → NeverMatched c → NeverMatched x
  matched_marked place_too n = elim n [ ]
  matched_marked (value_too u) (never_value n) = never_value (never_marked u n)

  arms_marked : {r x : Arms} → AlsoMarkedArms r x → AllNever r → AllNever x
  arms_marked no_arm_too no_arm_goes = no_arm_goes
  arms_marked (arm_too u v) (arm_never n a) = arm_never (never_marked u n) (arms_marked v a)

  body_marked : {b x : Body} → AlsoMarkedBody b x → NeverThrough b → NeverThrough x
  body_marked (ends_too u) (tail_never n) = tail_never (never_marked u n)
  body_marked (runs_too u v) (statement_never n) = statement_never (never_marked u n)
  body_marked (runs_too u v) (behind_statement n) = behind_statement (body_marked v n)
  body_marked (declares_too v) (behind_declaration n) = behind_declaration (body_marked v n)
  body_marked (lets_too u v) (let_never n) = let_never (matched_marked u n)
  body_marked (lets_too u v) (behind_let n) = behind_let (body_marked v n)
