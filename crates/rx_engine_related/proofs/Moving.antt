-- The run's statements beside those of the new function, with the marks of the run.
use Rattle.std.proofs.Common.{◌≡◌, ℕ, false, List, [], ◌∷◌, refl, ap, arith}
use Rattle.rx_typed.specs.Tree.{Exp, Scrutinee, read, own}
use Rattle.rx_exits_plan.specs.Points.{Point, enters}
use Rattle.rx_exits_plan.specs.Marked.{at_point}
use Rattle.rx_engine_simulation.specs.Turns.{Allowance}
use Rattle.rx_engine_simulation.specs.Histories.{Facts}
use Rattle.rx_engine_simulation.specs.Sights.{Renaming}
use Rattle.rx_engine_simulation.specs.Jumps.{Jumping}
use Rattle.rx_engine_simulation.specs.Like.{LikeExp, LikeMatched}
use Rattle.rx_engine_simulation.specs.Variants.{leaving}
use Rattle.rx_engine_simulation.specs.Blocks.{Stretch, does_then}
use Rattle.rx_engine_simulation.specs.Marks.{reading, closed_by}
use Rattle.rx_engine_simulation.specs.Stretches.{LikeStretch, both_done, both_do, both_declare, both_let, only_marks, both_read, both_look}
use Rattle.rx_engine_related.specs.ByForm.{by_form}
use Rattle.rx_engine_related.specs.Leaving.{left}
use Rattle.rx_engine_related.specs.Moved.{Moved, moved_all, moved_statement, moved_declaration, moved_let, moved_read, moved_look}
use Rattle.rx_engine_related.proofs.Weaker.{Opens, weaker_exp, weaker_matched, weaker_declared, weaker_bindings}

module _ (items : ℕ → ℕ) (gain : Allowance) (U : List ℕ) (special : List ℕ) (V : Facts) (Ok : Jumping → Type 0) (jumps : Opens (left U) (leaving U) (by_form special) V Ok) (J : Jumping) (ok : Ok J) where
  pub exp_so : {R : Renaming} {e e' : Exp} → LikeExp items (left U) gain (by_form special) 0 J R e e' → LikeExp items (leaving U) gain V 0 J R e e'
  exp_so l = weaker_exp items (left U) (leaving U) gain gain (omega arith) (by_form special) V Ok jumps {k = 0} {k' = 0} (omega arith) ok l

  matched_so : {R : Renaming} {c c' : Scrutinee} → LikeMatched items (left U) gain (by_form special) 0 J R c c' → LikeMatched items (leaving U) gain V 0 J R c c'
  matched_so l = weaker_matched items (left U) (leaving U) gain gain (omega arith) (by_form special) V Ok jumps {k = 0} {k' = 0} (omega arith) ok l

  pub moved_so : {R Rb : Renaming} {r r' : Stretch} → Moved items gain U special J R r r' Rb → LikeStretch items gain U V J R r r' Rb
  moved_so moved_all = both_done
  moved_so (moved_statement l m) = both_do (exp_so l) (moved_so m)
  moved_so (moved_declaration l m) = both_declare (weaker_declared (by_form special) V jumps.special l) (moved_so m)
  moved_so (moved_let l b m) = both_let (matched_so l) (weaker_bindings (by_form special) V jumps.special b) (moved_so m)
  moved_so (moved_read m) = both_read (moved_so m)
  moved_so (moved_look x seen behind m) = both_look x seen behind (moved_so m)

  -- with a mark behind them
  pub moved_closed : {R Rb : Renaming} {r r' : Stretch} (p : Point) → Moved items gain U special J R r r' Rb → LikeStretch items gain U V J R (closed_by r p) r' Rb
  moved_closed p moved_all = only_marks p [] (λ x i. absurd i) both_done
  moved_closed p (moved_statement l m) = both_do (exp_so l) (moved_closed p m)
  moved_closed p (moved_declaration l m) = both_declare (weaker_declared (by_form special) V jumps.special l) (moved_closed p m)
  moved_closed p (moved_let l b m) = both_let (matched_so l) (weaker_bindings (by_form special) V jumps.special b) (moved_closed p m)
  moved_closed p (moved_read m) = both_read (moved_closed p m)
  moved_closed p (moved_look x seen behind m) = both_look x seen behind (moved_closed p m)

-- reads in front of statements, and a mark behind these
pub closed_reading : (xs : List ℕ) (r : Stretch) (p : Point) → closed_by (reading xs r) p ≡ reading xs (closed_by r p)
closed_reading [] r p = refl
closed_reading (x ∷ xs) r p = ap (λ s. does_then (read (at_point enters) false (own x)) s) (closed_reading xs r p)
