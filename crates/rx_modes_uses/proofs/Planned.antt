-- What uses and plans say of one another: the same list of actions is looked through for moves, so both tests are one; what every walk that
-- enters the run has set, some walk that enters it has.
use Rattle.std.proofs.Common.{◌≡◌, refl, ◌∙◌, ap, ℕ, Bool, true, false, ◌||◌, List, [], ◌∷◌}
use Rattle.std.proofs.lemmas.Bool.Decides.{same_from_decides}
use Rattle.rx_lower_walks.specs.Actions.{Act, Declare, Dead, Read, Write, Borrow, Test, Call, Build, Input, Print, Give, Action}
use Rattle.rx_lower_walks.specs.Walks.{Among, here, there}
use Rattle.rx_exits_plan.specs.Points.{enters}
use Rattle.rx_exits_plan.specs.Asked.{Asked}
use Rattle.rx_exits_plan.specs.Plan.{Plan, Chosen, none, taken, left, IsPlan, moves, some_moves, is_moved}
use Rattle.rx_exits_plan.specs.Unreachable.{SomeComes}
use Rattle.rx_modes_policy.specs.declared.uses.Mode.{Mode}
use Rattle.rx_modes_policy.specs.declared.uses.Mode.TheVariants as mode
use Rattle.rx_modes_policy.specs.declared.uses.Uses.{Uses}
use Rattle.rx_modes_policy.specs.Allowed.{allowed_by, IsMember, HasMember}
use Rattle.rx_modes_uses.specs.Deeds as deeds
use Rattle.rx_modes_uses.specs.Outside.{in_run}
use Rattle.rx_modes_uses.specs.Uses.{IsUses}
use Rattle.rx_modes_uses.specs.Modes.{PassedIn}
use Rattle.rx_modes_uses.proofs.Deciding.{is_own, is_such, is_done, own_done}
use Rattle.rx_modes_uses.proofs.Table.{moved_is_value}

-- ---- moves

same_test : (x : ℕ) (a : Act) → is_such (is_own x) (deeds.moved a) ≡ moves x a
same_test x (Declare y) = refl
same_test x (Dead y) = refl
same_test x (Read true p d) = refl
same_test x (Read false p d) = refl
same_test x (Write p t ss) = refl
same_test x (Borrow k p d) = refl
same_test x (Test p c) = refl
same_test x (Call f ts d) = refl
same_test x (Build w is ts d) = refl
same_test x (Input d) = refl
same_test x (Print t) = refl
same_test x (Give t) = refl

same_tests : (x : ℕ) (l : List Action) → is_done deeds.moved (is_own x) l ≡ some_moves x l
same_tests x [] = refl
same_tests x (a ∷ l) = ap (λ t. t || is_done deeds.moved (is_own x) l) (same_test x a.act) ∙ ap (λ t. moves x a.act || t) (same_tests x l)

pub same_moves : (A : Asked) (muts : List Bool) (k : Plan) (x : ℕ) (u : Uses) → IsUses A muts k x u → u.moved ≡ is_moved A x
same_moves A muts k x u a =
    same_from_decides u.moved (is_done deeds.moved (is_own x) (in_run A)) a.moved (own_done deeds.moved x (in_run A)) ∙ same_tests x (in_run A)

pub moved_by_value : (A : Asked) (muts : List Bool) (k : Plan) (choice : Uses → Mode) (x : ℕ) (m : Mode)
    → ((u : Uses) → HasMember (allowed_by u) → IsMember (choice u) (allowed_by u)) → PassedIn A muts k choice x m → is_moved A x ≡ true → m ≡ mode.Value
moved_by_value A muts k choice x m f p e =
    p.chosen ∙ moved_is_value p.uses (choice p.uses) (same_moves A muts k x p.uses p.are_uses ∙ e) (f p.uses p.some)

-- ---- params

chosen_holds : {Q : ℕ → Type 0} {l m : List ℕ} {x : ℕ} → Chosen Q l m → Among x m → Q x
chosen_holds none i = elim i [ ]
chosen_holds (taken q c) here = q
chosen_holds (taken q c) (there i) = chosen_holds c i
chosen_holds (left r c) i = chosen_holds c i

pub set_where_entered : (A : Asked) (muts : List Bool) (k : Plan) (x : ℕ) (u : Uses) → IsPlan A k → Among x k.params → SomeComes A enters → IsUses A muts k x u → u.set_in ≡ true
set_where_entered A muts k x u p i s a = a.set_in.1 (s.0, s.1, chosen_holds p.params i s.0 s.1)
