-- What the text does alone, and neither begins nor writes a variable in scope by it, is passed over.
use Rattle.std.proofs.Common.{◌≡◌, ℕ, Bool, true, false, not, ◌&&◌, ◌||◌, ◌==◌, List, [], ◌∷◌, ◌++◌, refl, sym, ◌∙◌, subst, ap, eqb-true}
use Rattle.rx_core.specs.declared.types.Step.{Step}
use Rattle.rx_typed.specs.Tree.{Root, variable, temporary}
use Rattle.rx_lower_walks.specs.Actions.{Act, Declare, Dead, Read, Write, Borrow, Test, Call, Build, Input, Print, Give, Action, does}
use Rattle.rx_lower_walks.specs.Orders.{Order}
use Rattle.rx_lower_walks.specs.Walks.{on, nothing, acts, both, Walk, IsWalk, Among, here, there}
use Rattle.rx_facts_tables.specs.Setting.{sets}
use Rattle.rx_facts_tables.specs.Wholes.{regains, begins}
use Rattle.rx_facts_tables.specs.Live.{living, has_root, roots_of, written}
use Rattle.rx_meaning_keeping.proofs.Parts.{Parted}
use Rattle.rx_engine_initial.specs.Tracing.{View, Traced, only_old}
use Rattle.rx_engine_initial.specs.Matching.{Hist, IsPassedOver}
use Rattle.rx_engine_initial.specs.Variables.{Sides, KnownVariables, IsSeen, part_set, there_as_a_whole, not_assigned, reference_set, reference_there}
use Rattle.rx_engine_initial.specs.Copies.{IsOther, LeavesIt, LeavesAll, world}
use Rattle.rx_engine_initial.specs.Handing.{Straight, no_action, one_action, in_sequence}
use Rattle.rx_engine_initial.proofs.Tracing.{nil_right, joined}
use Rattle.rx_engine_initial.proofs.Ways.{no, is_false}
use Rattle.rx_engine_initial.proofs.Keeping.{own_there, leaves_sets, leaves_regains, leaves_begins}

straight_walk : {s : Order} {l : List Action} → Straight s l → Walk s l on
straight_walk no_action = nothing
straight_walk one_action = acts
straight_walk (in_sequence a b) = both (straight_walk a) (straight_walk b)

unwritten : (x : ℕ) (a : Act) → LeavesIt a x → has_root (roots_of (written a)) (variable x) ≡ false
unwritten x (Write p t ss) o = of p.root p.steps o
  where
    of : (r : Root) (qs : List Step) → IsOther r x → has_root (roots_of (written (Write (record { root = r; steps = qs }) t ss))) (variable x) ≡ false
    of (variable z) [] o = is_false ((x == z) || false) (λ q. o (sym (eqb-true x z (first (x == z) q))))
      where
        first : (b : Bool) → (b || false) ≡ true → b ≡ true
        first true q = refl
        first false q = no q
    of (variable z) (q ∷ qs) o = refl
    of (temporary u) [] o = refl
    of (temporary u) (q ∷ qs) o = refl
unwritten x (Declare z) o = refl
unwritten x (Dead z) o = refl
unwritten x (Read v p d) o = refl
unwritten x (Borrow v p d) o = refl
unwritten x (Test p c) o = refl
unwritten x (Call g ts d) o = refl
unwritten x (Build w is ts d) o = refl
unwritten x (Input d) o = refl
unwritten x (Print t) o = refl
unwritten x (Give t) o = refl

module _ (S : Sides) (new : Parted S.frame) (old : Parted S.frame_there) (R : KnownVariables S) where
  gives_none : {V : View} → IsSeen S R.variables V → (b : Action) → LeavesAll R.variables b.act → V.old.gives b ≡ false
  gives_none (part_set x y n m q h l) b f = is_false (sets S.frame_there m b.act) (leaves_sets S new old R y m (own_there S new old R x y n m h l) b.act (f x y q))
  gives_none (there_as_a_whole x y qs q o) b f = is_false (regains y qs b.act) (leaves_regains S new old R y qs b.act (f x y q))
  gives_none (not_assigned x y q) b f = is_false (begins y b.act) (leaves_begins S new old R y b.act (f x y q))
  gives_none (reference_set x n q h) b f = refl
  gives_none (reference_there x q) b f = refl

  kills_none : {V : View} → IsSeen S R.variables V → (b : Action) → LeavesAll R.variables b.act → V.live.kills b ≡ false
  kills_none (part_set x y n m q h l) b f = unwritten y b.act (f x y q)
  kills_none (there_as_a_whole x y qs q o) b f = unwritten y b.act (f x y q)
  kills_none (not_assigned x y q) b f = refl
  kills_none (reference_set x n q h) b f = refl
  kills_none (reference_there x q) b f = refl

  all_old : (l : List Action) → ((b : Action) → Among b l → LeavesAll R.variables b.act) → (us w : List Action) → Hist (world S) R us w → Hist (world S) R us (w ++ l)
  all_old [] f us w h V s = subst (λ k. Traced (IsWalk S.text) V us k) (sym (nil_right w)) (h V s)
  all_old (b ∷ l) f us w h V s = subst (λ k. Traced (IsWalk S.text) V us k) (joined w (b ∷ []) l)
      (all_old l (λ c i. f c (there i)) us (w ++ b ∷ []) (λ U t. only_old b (h U t) (gives_none t b (f b here)) (kills_none t b (f b here))) V s)

  pub passed_over : (q : Order) (l : List Action) → Straight q l → ((b : Action) → Among b l → LeavesAll R.variables b.act) → IsPassedOver (world S) R q
  passed_over q l e f = record { passes = λ us w h k. (l, straight_walk e, all_old l f us w h) }
