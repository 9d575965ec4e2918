-- What is asked besides of a call that the relation of trees puts in place of a run (rx_engine_related): how the caller has its variables, their
-- types, which of them the plan speaks of, and which may be assigned; and that a variable which is copied to the new function does not move there,
-- unless it is needed no more.
-- (REM: "Adventures in refactoring Rust: extract function", OOPSLA 2023; Rust Reference, "Moved and copied types".)
use Rattle.std.specs.Prelude.{◌≡◌, ◌⊎◌, ℕ, Bool, false, true, List, Some, slice_get}
use Rattle.rx_typed.specs.Tree.{Parameter, Operands}
use Rattle.rx_lower_walks.specs.Walks.{Among}
use Rattle.rx_exits_plan.specs.Occurrences.{is_declared_in_run}
use Rattle.rx_exits_plan.specs.Points.{Exit}
use Rattle.rx_exits_plan.specs.Asked.{Asked, IsLiveAt}
use Rattle.rx_exits_plan.specs.Plan.{Plan, foreign_of}
use Rattle.rx_modes_policy.specs.declared.uses.Mode.{Mode}
use Rattle.rx_engine_simulation.specs.Sights.{How, plain, special, Sight, Renaming, sight_of}
use Rattle.rx_engine_related.specs.Given.{GivenTo, given_all, moves_in, moves_again, is_copied, is_shared, is_lent, is_reborrowed, is_viewed, EntersWith, enters_with}
use Rattle.rx_engine_initial.specs.Variables.{Sides, LikeVariable}

-- a variable of the caller is in a slot of it
abbrev pub IsSlot : How → Type 0
IsSlot (plain w) = Unit {0}
IsSlot special = Unit {0}
IsSlot _ = ⊥

-- on from none of the plan's exits
abbrev pub NeededNoMore : Asked → Plan → ℕ → Type 0
NeededNoMore A k x = (e : Exit) → Among e k.exits → ¬ (IsLiveAt A k.params e x)

-- what is copied to the new function is read without a move, or no walk needs it behind the run
abbrev pub GivenSo : (A : Asked) (k : Plan) {again : Bool} {R : Renaming} {cold : List ℕ} {Rp Rf : Renaming} {xs : List ℕ} {ms : List Mode} {es : Operands} {ps : List Parameter} → GivenTo again R cold Rp xs ms es ps Rf → Type 0
GivenSo A k given_all = Unit {0}
GivenSo A k (moves_in h n f g) = GivenSo A k g
GivenSo A k (moves_again a h n f g) = GivenSo A k g
GivenSo A k (is_copied {x = x} {moves = v} h i n f g) = ((v ≡ false) ⊎ NeededNoMore A k x) × GivenSo A k g
GivenSo A k (is_shared w h n f g) = GivenSo A k g
GivenSo A k (is_lent w h c n f g) = GivenSo A k g
GivenSo A k (is_reborrowed a h i n f g) = GivenSo A k g
GivenSo A k (is_viewed a h i n f g) = GivenSo A k g

abbrev pub EntersSo : (A : Asked) {again : Bool} {k : Plan} {modes : List Mode} {R : Renaming} {es : Operands} {ps : List Parameter} {ls : List (ℕ × ℕ)} {Ra : Renaming} → EntersWith again k modes R es ps ls Ra → Type 0
EntersSo A {k = k} (enters_with cold Rp Rl s g l a c p) = GivenSo A k g

-- with the variables in front of the call, and behind it
pub record CallerAsked (S : Sides) (A : Asked) (k : Plan) (R Rn : Renaming) : Type 0 where
  pub slots : (x : ℕ) (e : Sight) → sight_of Rn x ≡ Some e → IsSlot e.how
  -- what is in scope in front of the run isn't declared in it
  pub outside : (x : ℕ) (e : Sight) → sight_of R x ≡ Some e → is_declared_in_run A.run A.home.body x ≡ false
  pub types : (x : ℕ) (e : Sight) → sight_of Rn x ≡ Some e → LikeVariable S e.to x
  -- no variable that the run names is there on some walks alone
  pub known : (x : ℕ) → Among x (foreign_of A) → Among x k.params ⊎ Among x k.locals
  pub assignable : (e : Exit) → Among e k.exits → (x : ℕ) → Among x (k.outs e) → Among x (foreign_of A) → (slice_get S.muts_there x ≡ Some true) ⊎ Among x k.locals
