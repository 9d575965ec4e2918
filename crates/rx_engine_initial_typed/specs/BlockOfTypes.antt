-- What is asked besides along the run's block in the caller (rx_engine_initial_blocks), but for what types say.
use Rattle.std.specs.Prelude.{◌≡◌, ℕ, false, List, Some}
use Rattle.rx_typed.specs.Tree.{Exp, Body}
use Rattle.rx_exits_plan.specs.Occurrences.{is_declared_in_run}
use Rattle.rx_exits_plan.specs.Asked.{Asked}
use Rattle.rx_exits_plan.specs.Plan.{Plan}
use Rattle.rx_modes_policy.specs.declared.uses.Mode.{Mode}
use Rattle.rx_modes_uses.specs.Paths.{OwnPath}
use Rattle.rx_modes_uses.specs.Deeds.{Done, moved}
use Rattle.rx_modes_uses.specs.Outside.{in_run}
use Rattle.rx_engine_simulation.specs.Turns.{Allowance}
use Rattle.rx_engine_simulation.specs.Histories.{Facts}
use Rattle.rx_engine_simulation.specs.Sights.{Hold, plain, Sight, sight, Renaming, sight_of}
use Rattle.rx_engine_simulation.specs.Places.{IsDirect}
use Rattle.rx_engine_simulation.specs.Jumps.{Jumping}
use Rattle.rx_engine_simulation.specs.Passing.{New}
use Rattle.rx_engine_simulation.specs.Like.{LikeBody, opens_in, ends_in, runs_on, declares_all, lets_in, reads_place, looks_behind}
use Rattle.rx_engine_related.specs.InBlock.{RunBlock, run_block}
use Rattle.rx_engine_related.specs.Standing.{RunBecomesCall, run_becomes_call, the_call}
use Rattle.rx_engine_blocks.specs.Renumbering.{Renumbering}
use Rattle.rx_engine_initial.specs.Variables.{Sides}
use Rattle.rx_engine_initial_related.specs.CallerAsked.{IsSlot}
use Rattle.rx_engine_initial_blocks.specs.AtBlock.{MatchSo}
use Rattle.rx_engine_initial_typed.specs.SameTypes.{SameVariable}
use Rattle.rx_engine_initial_typed.specs.OfTypes.{AtBlock, around_call, SamePairs, SameBindings, ExpOfTypes, MatchedOfTypes, BodyOfTypes, StretchOfTypes, EndOfTypes}

-- with the variables in front of the call, and behind it
pub record CallerOfTypes (r : Renumbering) (S : Sides) (A : Asked) (R Rn : Renaming) : Type 0 where
  pub slots : (x : ℕ) (e : Sight) → sight_of Rn x ≡ Some e → IsSlot e.how
  pub outside : (x : ℕ) (e : Sight) → sight_of R x ≡ Some e → is_declared_in_run A.run A.home.body x ≡ false
  pub same : (x : ℕ) (e : Sight) → sight_of Rn x ≡ Some e → SameVariable r S x e.to
  -- what the run moves is elsewhere in the answer
  pub apart : (x y : ℕ) (w : Hold) → sight_of R x ≡ Some (sight y (plain w)) → ¬ (Done moved (OwnPath x) (in_run A))

abbrev pub CallOfTypes : (r : Renumbering) (S : Sides) {A : Asked} {k : Plan} {modes : List Mode} {items : ℕ → ℕ} {gain : Allowance} {U : List ℕ} {N : New} {a : ℕ} {J : Jumping} {R Rn : Renaming} {b : Body} {f g : Body → Body}
    → RunBecomesCall A S.muts_there k modes items gain U N a J R Rn b f g → Type 0
CallOfTypes r S {A = A} (run_becomes_call {R = R} {Rn = Rn} Ra Rb mb ls body given moved ended never call handed) = CallerOfTypes r S A R Rn × MatchSo call

abbrev pub BlockOfTypes : (r : Renumbering) (S : Sides) {A : Asked} {k : Plan} {modes : List Mode} {items : ℕ → ℕ} {gain : Allowance} {U : List ℕ} {N : New} {V : Facts} {i : ℕ} {J : Jumping} {R : Renaming} {b b' : Body}
    → LikeBody items (the_call A S.muts_there k modes items gain U N) gain V i J R b b' → Type 0
BlockOfTypes r S (opens_in a i h o l) = CallOfTypes r S o × BodyOfTypes r S (around_call S) l
BlockOfTypes r S (ends_in l) = Unit {0}
BlockOfTypes r S (runs_on i j h a l) = ExpOfTypes r S (around_call S) a × BlockOfTypes r S l
BlockOfTypes r S (declares_all {xs = xs} {ys = ys} M d l) = SamePairs r S xs ys × BlockOfTypes r S l
BlockOfTypes r S (lets_in M i j h c b l) = MatchedOfTypes r S (around_call S) c × SameBindings r S b × BlockOfTypes r S l
BlockOfTypes r S (reads_place l) = ⊥
BlockOfTypes r S (looks_behind x e a l) = ⊥

-- and of the new function that is called there
abbrev pub NewOfTypes : (r : Renumbering) (S : Sides) {A : Asked} {k : Plan} {modes : List Mode} {items : ℕ → ℕ} {gain : Allowance} {U : List ℕ} {N : New} {a : ℕ} {J : Jumping} {R Rn : Renaming} {b : Body} {f g : Body → Body}
    → RunBecomesCall A S.muts_there k modes items gain U N a J R Rn b f g → Type 0
NewOfTypes r S (run_becomes_call Ra Rb mb ls body given moved ended never call handed) = ((x : ℕ) (e : Sight) → sight_of Ra x ≡ Some e → IsDirect e.how → SameVariable r S x e.to) × StretchOfTypes r S moved × EndOfTypes r S ended

abbrev pub CallsOfTypes : (r : Renumbering) (S : Sides) {A : Asked} {k : Plan} {modes : List Mode} {items : ℕ → ℕ} {gain : Allowance} {U : List ℕ} {N : New} {V : Facts} {i : ℕ} {J : Jumping} {R : Renaming} {b b' : Body}
    → LikeBody items (the_call A S.muts_there k modes items gain U N) gain V i J R b b' → Type 0
CallsOfTypes r S (opens_in a i h o l) = NewOfTypes r S o
CallsOfTypes r S (ends_in l) = Unit {0}
CallsOfTypes r S (runs_on i j h a l) = CallsOfTypes r S l
CallsOfTypes r S (declares_all M d l) = CallsOfTypes r S l
CallsOfTypes r S (lets_in M i j h c b l) = CallsOfTypes r S l
CallsOfTypes r S (reads_place l) = ⊥
CallsOfTypes r S (looks_behind x e a l) = ⊥

-- so along the caller: where the relation opens is the run's block, and what is asked along it
abbrev pub OpenedOfTypes : (r : Renumbering) (S : Sides) {A : Asked} {k : Plan} {modes : List Mode} {items : ℕ → ℕ} {gain : Allowance} {U : List ℕ} {N : New} {a : ℕ} {J : Jumping} {R : Renaming} {f g : Exp → Exp}
    → RunBlock A S.muts_there k items (the_call A S.muts_there k modes items gain U N) gain a J R f g → Type 0
OpenedOfTypes r S {A = A} (run_block {b = b} q t) = (b ≡ A.home.body) × BlockOfTypes r S t

abbrev pub block_of_types : (r : Renumbering) (S : Sides) (A : Asked) (k : Plan) {modes : List Mode} {items : ℕ → ℕ} {gain : Allowance} {U : List ℕ} {N : New} → AtBlock A S.muts_there k items (the_call A S.muts_there k modes items gain U N) gain
block_of_types r S A k = record { asked = λ o. OpenedOfTypes r S o }
