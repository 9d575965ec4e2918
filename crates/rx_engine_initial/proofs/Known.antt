-- The two programs are as the law on walks asks.
use Rattle.std.proofs.Common.{◌≡◌, ℕ, List, [], ◌∷◌, ◌++◌, refl, sym, subst}
use Rattle.rx_lower_walks.specs.Actions.{Declare, Action, does}
use Rattle.rx_lower_walks.specs.Orders.{order_function}
use Rattle.rx_lower_walks.specs.Walks.{Walk, IsWalk, Among, here, there}
use Rattle.rx_typed.specs.Tree.{Function}
use Rattle.rx_facts_tables.specs.Initialised.{InOrder, Initialised}
use Rattle.rx_meaning_keeping.proofs.Parts.{Parted}
use Rattle.rx_engine_initial.specs.Tracing.{View}
use Rattle.rx_engine_initial.specs.Matching.{WhichLoop, this_loop, outer_loop, Keeps}
use Rattle.rx_engine_initial.specs.Variables.{as_itself, Sides, KnownVariables, IsSeen}
use Rattle.rx_engine_initial.specs.Copies.{ends, BeginsSo, begins_so, InsideSo, world}
use Rattle.rx_engine_initial.proofs.Tracing.{joined}
use Rattle.rx_engine_initial.proofs.Keeping.{copy_alike}
use Rattle.rx_engine_initial.proofs.InOrder.{in_order, dead_in_order, declare_in_order, wider_seen, begun}

pub walk_front : (f : Function) (us vs : List Action) → IsWalk f (us ++ vs) → IsWalk f us
walk_front f us vs (rest, o, a) = (vs ++ rest, o, subst (λ l. Walk (order_function f) l o) (joined us vs rest) a)

begin_in_order : (S : Sides) (R T : KnownVariables S) (us : List Action) (a b : Action) → BeginsSo S R T a b → InOrder S.frame S.muts us a
begin_in_order S R T us _ _ (begins_so {m = i} {x = x} e f) = declare_in_order S us i x

begin_wider : (S : Sides) (R T : KnownVariables S) (a b : Action) (V : View) → BeginsSo S R T a b → IsSeen S R.variables V → IsSeen S T.variables V
begin_wider S R T _ _ V (begins_so {x = x} {y = y} e f) s = subst (λ vs. IsSeen S vs V) (sym e) (wider_seen S (as_itself x y) R.variables s)

begin_loops : (S : Sides) (R T : KnownVariables S) (a b : Action) (l k : ℕ) → BeginsSo S R T a b → Among (l, k) T.loops → Among (l, k) R.loops
begin_loops S R T _ _ l k (begins_so e f) q = subst (λ ls. Among (l, k) ls) f q

which_loop : (ls : List (ℕ × ℕ)) (l k : ℕ) → ((m j : ℕ) → Among (m, j) ls → m ≡ l → ⊥) → ((m j : ℕ) → Among (m, j) ls → j ≡ k → ⊥) → (p q : ℕ × ℕ) → q ≡ (l, k) → Among p (q ∷ ls)
    → WhichLoop (λ m j. Among (m, j) ls) l k p.0 p.1
which_loop ls l k f g p q e here = subst (λ (r : ℕ × ℕ). WhichLoop (λ m j. Among (m, j) ls) l k r.0 r.1) (sym e) (this_loop refl refl)
which_loop ls l k f g p q e (there i) = outer_loop (f p.0 p.1 i) (g p.0 p.1 i) i

pub keeps : (S : Sides) → Parted S.frame → Parted S.frame_there → Initialised S.frame_there S.muts_there S.text → Keeps (world S)
keeps S new old init = record {
  front = walk_front S.text;
  alike = λ R a b V c s. copy_alike S new old R c s a.node b.node;
  in_order = λ R us w a b H c e. in_order S new old init R us w H a.node b.node e c;
  ended = λ R x y m n V q s. copy_alike S new old R (ends q) s m n;
  dead_in_order = dead_in_order S;
  begun = begun S new old;
  begin_in_order = begin_in_order S;
  begin_wider = begin_wider S;
  begin_loops = begin_loops S;
  inside = λ R T l k V i s. subst (λ vs. IsSeen S vs V) i.variables s;
  outside = λ R T l k V i s. subst (λ vs. IsSeen S vs V) (sym i.variables) s;
  which = λ R T l k m j i q. which_loop R.loops l k i.here i.there (m, j) (l, k) refl (subst (λ ls. Among (m, j) ls) i.loops q);
}
