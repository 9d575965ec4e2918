-- What is asked besides along the run's block in the caller: in front of the run and behind it as along trees that are alike (rx_engine_initial_forms),
-- and of the call what rx_engine_initial_related asks. (REM: "Adventures in refactoring Rust: extract function", OOPSLA 2023.)
use Rattle.std.specs.Prelude.{ℕ, Bool, List}
use Rattle.rx_typed.specs.Tree as tree
use Rattle.rx_typed.specs.Tree.{Exp, Arms, Body}
use Rattle.rx_exits_plan.specs.Asked.{Asked}
use Rattle.rx_exits_plan.specs.Plan.{Plan}
use Rattle.rx_modes_policy.specs.declared.uses.Mode.{Mode}
use Rattle.rx_engine_simulation.specs.Turns.{Allowance}
use Rattle.rx_engine_simulation.specs.Histories.{Facts}
use Rattle.rx_engine_simulation.specs.Sights.{Renaming}
use Rattle.rx_engine_simulation.specs.Jumps.{Jumping}
use Rattle.rx_engine_simulation.specs.Passing.{New}
use Rattle.rx_engine_simulation.specs.Packing.{Way}
use Rattle.rx_engine_simulation.specs.Like.{LikeBody, opens_in, ends_in, runs_on, declares_all, lets_in, reads_place, looks_behind}
use Rattle.rx_engine_related.specs.Standing.{CallOf, call_alone, call_matched, call_left, RunBecomesCall, run_becomes_call, the_call}
use Rattle.rx_engine_initial.specs.Variables.{Sides}
use Rattle.rx_engine_initial_forms.specs.Agreeing.{AllLike, BindingsSo}
use Rattle.rx_engine_initial_forms.specs.Following.{ExpSo, MatchedSo, BodySo}
use Rattle.rx_engine_initial_related.specs.CallerAsked.{EntersSo, CallerAsked}
use Rattle.rx_engine_initial_related.specs.ExitArms.{OnlyExits}

-- some arm, and none but those of the exits
abbrev pub HasOnlyExits : Plan → Arms → Type 0
HasOnlyExits k tree.no_arm = ⊥
HasOnlyExits k (tree.arm_and p e l) = OnlyExits k (tree.arm_and p e l) (tree.arm_and p e l)

abbrev pub MatchSo : {A : Asked} {muts : List Bool} {k : Plan} {J Ji : Jumping} {R : Renaming} {called e : Exp} {w : Way} → CallOf A muts k J R called Ji w e → Type 0
MatchSo (call_alone q) = Unit {0}
MatchSo {k = k} (call_matched {l = l} unit q a p r n g c) = HasOnlyExits k l
MatchSo {k = k} (call_left {l = l} unit n a) = HasOnlyExits k l

abbrev pub CallSo : (S : Sides) {A : Asked} {k : Plan} {modes : List Mode} {items : ℕ → ℕ} {gain : Allowance} {U : List ℕ} {N : New} {a : ℕ} {J : Jumping} {R Rn : Renaming} {b : Body} {f g : Body → Body}
    → RunBecomesCall A S.muts_there k modes items gain U N a J R Rn b f g → Type 0
CallSo S {A = A} {k = k} (run_becomes_call {R = R} {Rn = Rn} Ra Rb mb ls body given moved ended never call handed) = EntersSo A given × CallerAsked S A k R Rn × MatchSo call

abbrev pub BlockSo : (S : Sides) {A : Asked} {k : Plan} {modes : List Mode} {items : ℕ → ℕ} {gain : Allowance} {U : List ℕ} {N : New} {V : Facts} {i : ℕ} {J : Jumping} {R : Renaming} {b b' : Body}
    → LikeBody items (the_call A S.muts_there k modes items gain U N) gain V i J R b b' → Type 0
BlockSo S (opens_in a i h o l) = CallSo S o × BodySo S l
BlockSo S (ends_in l) = Unit {0}
BlockSo S (runs_on i j h a l) = ExpSo S a × BlockSo S l
BlockSo S (declares_all {xs = xs} {ys = ys} M d l) = AllLike S xs ys × BlockSo S l
BlockSo S (lets_in M i j h c b l) = MatchedSo S c × BindingsSo S b × BlockSo S l
BlockSo S (reads_place l) = ⊥
BlockSo S (looks_behind x e a l) = ⊥
