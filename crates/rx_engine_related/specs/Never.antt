-- What never goes on, by its form (Rust Reference, "Never type"; "Loop expressions", "break expressions"): jumps, loops without a `break`, and
-- what has such a part that is always come to.
use Rattle.std.specs.Prelude.{◌≡◌, ℕ, Bool, true, false, List}
use Rattle.rx_tree.specs.declared.tree.BinaryOp.{BinaryOp}
use Rattle.rx_typed.specs.Tree as tree
use Rattle.rx_typed.specs.Tree.{Mark, Place, Pattern, Making, Exp, Operands, Scrutinee, Arms, Body}
use Rattle.rx_exits_plan.specs.Points.{Point}
use Rattle.rx_engine_simulation.specs.Blocks.{Stretch, does_then, declares_then, lets_then}
use Rattle.rx_engine_simulation.specs.Endings.{Last, a_marked}

-- no `break` in it leads to this loop
abbrev mutual
  pub HasNoBreak : ℕ → Exp → Type 0
  HasNoBreak l (tree.read m v p) = Unit {0}
  HasNoBreak l (tree.borrow m k p) = Unit {0}
  HasNoBreak l (tree.share m e) = HasNoBreak l e
  HasNoBreak l (tree.build m w es) = NoneHasBreak l es
  HasNoBreak l (tree.unit m) = Unit {0}
  HasNoBreak l (tree.lazily m b e f) = HasNoBreak l e × HasNoBreak l f
  HasNoBreak l (tree.assign m p e) = HasNoBreak l e
  HasNoBreak l (tree.update m o p e) = HasNoBreak l e
  HasNoBreak l (tree.call m f es) = NoneHasBreak l es
  HasNoBreak l (tree.input m) = Unit {0}
  HasNoBreak l (tree.print m e) = HasNoBreak l e
  HasNoBreak l (tree.block m b) = BodyHasNoBreak l b
  HasNoBreak l (tree.choose m s r) = MatchedHasNoBreak l s × ArmsHaveNoBreak l r
  HasNoBreak l (tree.loop m k e) = HasNoBreak l e
  HasNoBreak l (tree.jump m k true) = Unit {0}
  HasNoBreak l (tree.jump m k false) = k ≡ l → ⊥
  HasNoBreak l (tree.give m e) = HasNoBreak l e

  pub NoneHasBreak : ℕ → Operands → Type 0
  NoneHasBreak l tree.no_operand = Unit {0}
  NoneHasBreak l (tree.operand_and i e es) = HasNoBreak l e × NoneHasBreak l es

  pub MatchedHasNoBreak : ℕ → Scrutinee → Type 0
  MatchedHasNoBreak l (tree.at_place m p) = Unit {0}
  MatchedHasNoBreak l (tree.of_value e) = HasNoBreak l e

  pub ArmsHaveNoBreak : ℕ → Arms → Type 0
  ArmsHaveNoBreak l tree.no_arm = Unit {0}
  ArmsHaveNoBreak l (tree.arm_and p e r) = HasNoBreak l e × ArmsHaveNoBreak l r

  pub BodyHasNoBreak : ℕ → Body → Type 0
  BodyHasNoBreak l (tree.ends e) = HasNoBreak l e
  BodyHasNoBreak l (tree.runs e b) = HasNoBreak l e × BodyHasNoBreak l b
  BodyHasNoBreak l (tree.declares s xs b) = BodyHasNoBreak l b
  BodyHasNoBreak l (tree.lets s p c b) = MatchedHasNoBreak l c × BodyHasNoBreak l b

mutual
  pub data NeverOn : Exp → Type 0 where
    never_jump : {m : Mark} {l : ℕ} {again : Bool} → NeverOn (tree.jump m l again)
    never_return : {m : Mark} {e : Exp} → NeverOn (tree.give m e)
    never_share : {m : Mark} {e : Exp} → NeverOn e → NeverOn (tree.share m e)
    never_build : {m : Mark} {w : Making} {es : Operands} → SomeNever es → NeverOn (tree.build m w es)
    -- the right operand may be left out
    never_lazily : {m : Mark} {b : Bool} {e f : Exp} → NeverOn e → NeverOn (tree.lazily m b e f)
    never_assign : {m : Mark} {p : Place} {e : Exp} → NeverOn e → NeverOn (tree.assign m p e)
    never_update : {m : Mark} {o : BinaryOp} {p : Place} {e : Exp} → NeverOn e → NeverOn (tree.update m o p e)
    never_call : {m : Mark} {f : ℕ} {es : Operands} → SomeNever es → NeverOn (tree.call m f es)
    never_print : {m : Mark} {e : Exp} → NeverOn e → NeverOn (tree.print m e)
    never_block : {m : Mark} {b : Body} → NeverThrough b → NeverOn (tree.block m b)
    never_matched : {m : Mark} {c : Scrutinee} {l : Arms} → NeverMatched c → NeverOn (tree.choose m c l)
    never_armed : {m : Mark} {c : Scrutinee} {l : Arms} → AllNever l → NeverOn (tree.choose m c l)
    never_loop : {m : Mark} {l : ℕ} {e : Exp} → HasNoBreak l e → NeverOn (tree.loop m l e)
    -- the test of a `while` comes first
    never_tested : {m n : Mark} {l : ℕ} {c : Scrutinee} {r : Arms} → NeverMatched c → MatchedHasNoBreak l c → NeverOn (tree.loop m l (tree.choose n c r))

  pub data SomeNever : Operands → Type 0 where
    this_operand : {i : ℕ} {e : Exp} {es : Operands} → NeverOn e → SomeNever (tree.operand_and i e es)
    later_operand : {i : ℕ} {e : Exp} {es : Operands} → SomeNever es → SomeNever (tree.operand_and i e es)

  pub data NeverMatched : Scrutinee → Type 0 where
    never_value : {e : Exp} → NeverOn e → NeverMatched (tree.of_value e)

  pub data AllNever : Arms → Type 0 where
    no_arm_goes : AllNever tree.no_arm
    arm_never : {p : Pattern} {e : Exp} {l : Arms} → NeverOn e → AllNever l → AllNever (tree.arm_and p e l)

  pub data NeverThrough : Body → Type 0 where
    tail_never : {e : Exp} → NeverOn e → NeverThrough (tree.ends e)
    statement_never : {e : Exp} {b : Body} → NeverOn e → NeverThrough (tree.runs e b)
    behind_statement : {e : Exp} {b : Body} → NeverThrough b → NeverThrough (tree.runs e b)
    behind_declaration : {s : ℕ} {xs : List ℕ} {b : Body} → NeverThrough b → NeverThrough (tree.declares s xs b)
    let_never : {s : ℕ} {p : Pattern} {c : Scrutinee} {b : Body} → NeverMatched c → NeverThrough (tree.lets s p c b)
    behind_let : {s : ℕ} {p : Pattern} {c : Scrutinee} {b : Body} → NeverThrough b → NeverThrough (tree.lets s p c b)

-- some of these statements
pub data NeverPassed : Stretch → Type 0 where
  does_never : {e : Exp} {r : Stretch} → NeverOn e → NeverPassed (does_then e r)
  does_later : {e : Exp} {r : Stretch} → NeverPassed r → NeverPassed (does_then e r)
  declares_later : {s : ℕ} {xs : List ℕ} {r : Stretch} → NeverPassed r → NeverPassed (declares_then s xs r)
  lets_never : {s : ℕ} {p : Pattern} {c : Scrutinee} {r : Stretch} → NeverMatched c → NeverPassed (lets_then s p c r)
  lets_later : {s : ℕ} {p : Pattern} {c : Scrutinee} {r : Stretch} → NeverPassed r → NeverPassed (lets_then s p c r)

-- or what is left of them behind the first ones
pub data NeverEnds : Last → Stretch → Type 0 where
  first_never : {l : Last} {r : Stretch} → NeverPassed r → NeverEnds l r
  last_never : {e : Exp} {p : Point} {r : Stretch} → NeverOn e → NeverEnds (a_marked e p) r
