-- What is had of a function with the call that is the text's by one numbering: numbers that are few, what corresponds in front, and of the block's end.
use Rattle.std.proofs.Common.{◌≡◌, ◌≤◌, ◌<◌, ℕ, zero, suc, List, [], ◌++◌, Some, true, sym, subst, arith}
use Rattle.rx_resolve_names.specs.Meant.{number}
use Rattle.rx_typeck_solver.specs.declared.facts.Demand.{Demand}
use Rattle.rx_typeck_solver.specs.Facts.{Assignment, KnownItems, MeetsEach}
use Rattle.rx_engine_names.specs.Apart.{Few}
use Rattle.rx_engine_names.specs.Renaming.{Renaming}
use Rattle.rx_engine_changed.specs.Beside.{Numbers}
use Rattle.rx_engine_standing.specs.CallBinds.{ComesBack}
use Rattle.rx_engine_standing.proofs.Earlier.{split}

pub few_declared : (d : ℕ) → ((k : ℕ) → k < d → number k ≡ k) → d ≤ 4294967296
few_declared zero f = omega arith
few_declared (suc d) f = let e = f d (omega arith) in omega (arith, e)

pub small_comes_back : (N : Numbers) (R : Renaming) → ((x y : ℕ) → N.back.variable y ≡ Some x → Few y → R.variable x y ≡ true) → (d : ℕ) → d ≤ 4294967296 → ComesBack N R d
small_comes_back N R back d few x y e l = back x y e (omega (arith, l, few))

-- what stands among demands is met where these are
pub among_is_met : (D : KnownItems) (A : Assignment) (all front mid back : List Demand) → all ≡ front ++ (mid ++ back) → MeetsEach D A all → MeetsEach D A mid
among_is_met D A all front mid back e h = (split D A mid back (split D A front (mid ++ back) (subst (MeetsEach D A) e h)).1).0
