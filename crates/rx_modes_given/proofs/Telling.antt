-- What is given away is told by the uses: the same list of actions is looked through, and the same type and declaration.
use Rattle.std.proofs.Common.{◌≡◌, refl, sym, ◌∙◌, ap, ℕ, Bool, true, false, not, ◌&&◌, ◌||◌, List, [], ◌∷◌, Option, Some, None, slice_get}
use Rattle.std.specs.Bool.{Decides}
use Rattle.std.proofs.lemmas.Bool.Decides.{same_from_decides}
use Rattle.rx_typed.specs.Types.{Typ, integer, boolean, tuple_of, reference, named}
use Rattle.rx_lower_walks.specs.Actions.{Act, Declare, Dead, Read, Write, Borrow, Test, Call, Build, Input, Print, Give, Action}
use Rattle.rx_exits_plan.specs.Asked.{Asked}
use Rattle.rx_exits_plan.specs.Plan.{Plan, is_moved}
use Rattle.rx_modes_policy.specs.declared.uses.Uses.{Uses}
use Rattle.rx_modes_uses.specs.Deeds as deeds
use Rattle.rx_modes_uses.specs.Outside.{in_run}
use Rattle.rx_modes_uses.specs.Uses.{IsLiveOut, IsSetIn, IsUses}
use Rattle.rx_modes_uses.proofs.Deciding as deciding
use Rattle.rx_modes_uses.proofs.Deciding.{is_such, is_done, is_path_behind, told, are_uses}
use Rattle.rx_modes_uses.proofs.Planned.{same_moves}
use Rattle.rx_modes_given.specs.GivenAway.{changes_behind, some_changes_behind, is_changed_behind, is_mutable_reference, is_mut, is_given_away}

same_test : (x : ℕ) (a : Act) → is_such (is_path_behind x) (deeds.changed a) ≡ changes_behind x a
same_test x (Declare y) = refl
same_test x (Dead y) = refl
same_test x (Read m p d) = refl
same_test x (Write p t ss) = refl
same_test x (Borrow true p d) = refl
same_test x (Borrow false p d) = refl
same_test x (Test p c) = refl
same_test x (Call f ts d) = refl
same_test x (Build w is ts d) = refl
same_test x (Input d) = refl
same_test x (Print t) = refl
same_test x (Give t) = refl

same_tests : (x : ℕ) (l : List Action) → is_done deeds.changed (is_path_behind x) l ≡ some_changes_behind x l
same_tests x [] = refl
same_tests x (a ∷ l) =
    ap (λ t. t || is_done deeds.changed (is_path_behind x) l) (same_test x a.act) ∙ ap (λ t. changes_behind x a.act || t) (same_tests x l)

same_reference : (o : Option (Option Typ)) → deciding.is_mutable_reference o ≡ is_mutable_reference o
same_reference None = refl
same_reference (Some None) = refl
same_reference (Some (Some (integer k))) = refl
same_reference (Some (Some boolean)) = refl
same_reference (Some (Some (tuple_of ts))) = refl
same_reference (Some (Some (reference true t))) = refl
same_reference (Some (Some (reference false t))) = refl
same_reference (Some (Some (named i))) = refl

same_mut : (o : Option Bool) → deciding.is_mut o ≡ is_mut o
same_mut None = refl
same_mut (Some true) = refl
same_mut (Some false) = refl

abbrev pub by_uses : Uses → Bool
by_uses u = u.moved || (u.through && not (u.mut_ref || u.declared_mut))

-- what decides the same is one
module _ (A : Asked) (muts : List Bool) (k : Plan) (x : ℕ) (u : Uses) (a : IsUses A muts k x u) where
  abbrev v : Uses
  v = told A muts x u.live_out u.set_in

  b : IsUses A muts k x v
  b = are_uses A muts k x u.live_out u.set_in a.live_out a.set_in

  same_through : u.through ≡ is_changed_behind A x
  same_through = same_from_decides u.through v.through a.through b.through ∙ same_tests x (in_run A)

  same_mut_ref : u.mut_ref ≡ is_mutable_reference (slice_get A.frame.types x)
  same_mut_ref = same_from_decides u.mut_ref v.mut_ref a.mut_ref b.mut_ref ∙ same_reference (slice_get A.frame.types x)

  same_declared : u.declared_mut ≡ is_mut (slice_get muts x)
  same_declared = same_from_decides u.declared_mut v.declared_mut a.declared_mut b.declared_mut ∙ same_mut (slice_get muts x)

  pub given_told : is_given_away A muts x ≡ by_uses u
  given_told = λ i. (sym (same_moves A muts k x u a) i) || (sym same_through i && not (sym same_mut_ref i || sym same_declared i))
