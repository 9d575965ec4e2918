-- Matches that are made in place of a run (REM, "Extract function", control flow; Rust Reference, "Match expressions"): each has an arm for every variant of
-- its enum, and few arms.
use Rattle.std.specs.Prelude.{◌≡◌, ◌<◌, ◌⊎◌, ℕ, suc, false, length, slice_get}
use Rattle.rx_typed.specs.Types.{variants_declared, Declarations}
use Rattle.rx_typed.specs.Named as named
use Rattle.rx_typed.specs.Named.{Arms, Else, Exp, Statement, Statements}
use Rattle.rx_cover.specs.Values.{is_struct}
use Rattle.rx_cover.specs.Width.{limit}

-- for the variant with this number
abbrev pub HasArm : ℕ → Arms → Type 0
HasArm v named.no_arm = ⊥
HasArm v (named.arm_and (named.variant_pattern n i w ps) e l) = (w ≡ v) ⊎ HasArm v l
HasArm v (named.arm_and p e l) = HasArm v l

abbrev pub count_arms : Arms → ℕ
count_arms named.no_arm = 0
count_arms (named.arm_and p e l) = suc (count_arms l)

module _ (D : Declarations) where
  -- the arms of a match on an enum
  pub record TakesAll (i : ℕ) (l : Arms) : Type 0 where
    pub enum : is_struct (slice_get D i) ≡ false
    pub each : (v : ℕ) → v < length (variants_declared (slice_get D i)) → HasArm v l
    pub few : count_arms l < limit

  -- that of the first arm
  abbrev pub ArmsTakeAll : Arms → Type 0
  ArmsTakeAll (named.arm_and (named.variant_pattern n i w ps) e l) = TakesAll i (named.arm_and (named.variant_pattern n i w ps) e l)
  ArmsTakeAll l = ⊥

  -- what is made has matches in blocks, assignments and returns, and in what is matched
  abbrev mutual
    pub ExpTakesAll : Exp → Type 0
    ExpTakesAll (named.match n e l) = ArmsTakeAll l × ExpTakesAll e × EachTakesAll l
    ExpTakesAll (named.block n (named.body m ss o)) = StatementsTakeAll ss × ElseTakesAll o
    ExpTakesAll (named.assign n p e) = ExpTakesAll e
    ExpTakesAll (named.gives n p x d e) = ExpTakesAll e
    ExpTakesAll (named.return n o) = ElseTakesAll o
    ExpTakesAll _ = Unit {0}

    pub ElseTakesAll : Else → Type 0
    ElseTakesAll named.absent = Unit {0}
    ElseTakesAll (named.present e) = ExpTakesAll e

    pub EachTakesAll : Arms → Type 0
    EachTakesAll named.no_arm = Unit {0}
    EachTakesAll (named.arm_and p e l) = ExpTakesAll e × EachTakesAll l

    pub StatementTakesAll : Statement → Type 0
    StatementTakesAll (named.declares n p t) = Unit {0}
    StatementTakesAll (named.lets n p t e) = ExpTakesAll e
    StatementTakesAll (named.evaluates n e s) = ExpTakesAll e

    pub StatementsTakeAll : Statements → Type 0
    StatementsTakeAll named.no_statement = Unit {0}
    StatementsTakeAll (named.statement_and a ss) = StatementTakesAll a × StatementsTakeAll ss
