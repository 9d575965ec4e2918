-- Eight of the ten truth values of a variable are told by its type and by looking through lists of actions: each test decides what it is
-- for, put together from the tests of its parts.
use Rattle.std.proofs.Common.{◌≡◌, refl, sym, ◌∙◌, ap, subst, ◌⊎◌, inl, inr, ℕ, Bool, true, false, not, ◌&&◌, ◌||◌, true≢false, List, [], ◌∷◌, Option, Some, None, slice_get}
use Rattle.std.specs.Bool.{Decides}
use Rattle.std.proofs.lemmas.Bool.{eq-eqb, eqb-true}
use Rattle.std.proofs.lemmas.Bool.Decides.{Decides-and, Decides-or, Decides-like}
use Rattle.rx_typed.specs.Types.{Typ, integer, boolean, tuple_of, reference, named, Declarations, copies}
use Rattle.rx_typed.specs.Tree.{Root, variable, temporary, Place}
use Rattle.rx_lower_walks.specs.Actions.{Act, Action}
use Rattle.rx_lower_walks.specs.Walks.{Among, here, there}
use Rattle.rx_facts_tables.specs.Setting.{is_behind}
use Rattle.rx_facts_tables.specs.Wholes.{is_variable}
use Rattle.rx_exits_plan.specs.Asked.{Asked}
use Rattle.rx_exits_plan.specs.Plan.{Plan}
use Rattle.rx_modes_policy.specs.declared.uses.Uses.{Uses}
use Rattle.rx_modes_uses.specs.Paths.{OwnPath, PathBehind}
use Rattle.rx_modes_uses.specs.Deeds as deeds
use Rattle.rx_modes_uses.specs.Deeds.{Done}
use Rattle.rx_modes_uses.specs.Outside.{in_run, outside_run}
use Rattle.rx_modes_uses.specs.Uses.{IsLiveOut, IsSetIn, IsUses}

never : {P : Type 0} → false ≡ true → P
never e = absurd (true≢false (sym e))

-- ---- paths

abbrev pub is_own : ℕ → Place → Bool
is_own x p = is_variable p.root x && not (is_behind p.steps)

abbrev pub is_path_behind : ℕ → Place → Bool
is_path_behind x p = is_variable p.root x && is_behind p.steps

abbrev number : Root → ℕ
number (variable x) = x
number (temporary t) = 0

abbrev has_number : Root → Bool
has_number (variable x) = true
has_number (temporary t) = false

root_told : (r : Root) (x : ℕ) → Decides (is_variable r x) (r ≡ variable x)
root_told (variable y) x = (λ e. ap (λ n. variable n) (eqb-true y x e), λ e. eq-eqb y x (ap number e))
root_told (temporary t) x = (λ e. never e, λ e. never (ap has_number e))

false_told : (b : Bool) → Decides (not b) (b ≡ false)
false_told true = (λ e. sym e, λ e. sym e)
false_told false = (λ e. refl, λ e. refl)

own_told : (x : ℕ) (p : Place) → Decides (is_own x p) (OwnPath x p)
own_told x p =
    Decides-like (is_own x p) (λ h. record { of = h.0; here = h.1 }) (λ o. (o.of, o.here))
    (Decides-and (is_variable p.root x) (not (is_behind p.steps)) (root_told p.root x) (false_told (is_behind p.steps)))

behind_told : (x : ℕ) (p : Place) → Decides (is_path_behind x p) (PathBehind x p)
behind_told x p =
    Decides-like (is_path_behind x p) (λ h. record { of = h.0; behind = h.1 }) (λ o. (o.of, o.behind))
    (Decides-and (is_variable p.root x) (is_behind p.steps) (root_told p.root x) ((λ e. e), (λ e. e)))

-- ---- what some action does

abbrev pub is_such : (Place → Bool) → Option Place → Bool
is_such q None = false
is_such q (Some p) = q p

abbrev pub is_done : (Act → Option Place) → (Place → Bool) → List Action → Bool
is_done what q [] = false
is_done what q (a ∷ l) = is_such q (what a.act) || is_done what q l

abbrev or_else : Place → Option Place → Place
or_else p None = p
or_else p (Some q) = q

abbrev is_some : Option Place → Bool
is_some None = false
is_some (Some p) = true

module _ (what : Act → Option Place) (Q : Place → Type 0) (q : Place → Bool) (each : (p : Place) → Decides (q p) (Q p)) where
  abbrev Such : Option Place → Type 0
  Such o = (p : Place) × (o ≡ Some p) × Q p

  such_told : (o : Option Place) → Decides (is_such q o) (Such o)
  such_told None = (λ e. never e, λ h. never (ap is_some h.1))
  such_told (Some p) = (λ e. (p, refl, (each p).0 e), λ h. (each p).1 (subst Q (sym (ap (or_else p) h.1)) h.2))

  put : (a : Action) (l : List Action) → Such (what a.act) ⊎ Done what Q l → Done what Q (a ∷ l)
  put a l (inl h) = record { action = a; among = here; place = h.0; does = h.1; such = h.2 }
  put a l (inr d) = record { action = d.action; among = there d.among; place = d.place; does = d.does; such = d.such }

  taken : {b : Action} (a : Action) (l : List Action) → Among b (a ∷ l) → Such (what b.act) → Such (what a.act) ⊎ Done what Q l
  taken a l here h = inl h
  taken {b = b} a l (there i) h = inr (record { action = b; among = i; place = h.0; does = h.1; such = h.2 })

  pub done_told : (l : List Action) → Decides (is_done what q l) (Done what Q l)
  done_told [] = (λ e. never e, λ d. none d.among)
    where
      none : {b : Action} {P : Type 0} → Among b [] → P
      none i = elim i [ ]
  done_told (a ∷ l) =
      Decides-like (is_done what q (a ∷ l)) (put a l) (λ d. taken a l d.among (d.place, d.does, d.such))
      (Decides-or (is_such q (what a.act)) (is_done what q l) (such_told (what a.act)) (done_told l))

-- ---- types, and what is declared `mut`

abbrev pub is_copy : Declarations → Option (Option Typ) → Bool
is_copy D (Some (Some t)) = copies D t
is_copy D _ = false

abbrev pub is_mutable_reference : Option (Option Typ) → Bool
is_mutable_reference (Some (Some (reference true t))) = true
is_mutable_reference _ = false

abbrev pub is_mut : Option Bool → Bool
is_mut (Some true) = true
is_mut _ = false

copy_told : (D : Declarations) (o : Option (Option Typ)) → is_copy D o ≡ true → (t : Typ) × (o ≡ Some (Some t)) × (copies D t ≡ true)
copy_told D None e = never e
copy_told D (Some None) e = never e
copy_told D (Some (Some t)) e = (t, refl, e)

mutable_told : (o : Option (Option Typ)) → is_mutable_reference o ≡ true → (t : Typ) × (o ≡ Some (Some (reference true t)))
mutable_told None e = never e
mutable_told (Some None) e = never e
mutable_told (Some (Some (integer k))) e = never e
mutable_told (Some (Some boolean)) e = never e
mutable_told (Some (Some (tuple_of ts))) e = never e
mutable_told (Some (Some (reference true t))) e = (t, refl)
mutable_told (Some (Some (reference false t))) e = never e
mutable_told (Some (Some (named i))) e = never e

mut_told : (o : Option Bool) → is_mut o ≡ true → o ≡ Some true
mut_told None e = never e
mut_told (Some true) e = refl
mut_told (Some false) e = never e

-- ---- the uses of a variable, where it is known whether it is live out and whether it is set in

abbrev pub told : Asked → List Bool → ℕ → Bool → Bool → Uses
told A muts x live set = record {
  copy = is_copy A.frame.declared (slice_get A.frame.types x);
  mut_ref = is_mutable_reference (slice_get A.frame.types x);
  moved = is_done deeds.moved (is_own x) (in_run A);
  written = is_done deeds.changed (is_own x) (in_run A);
  lent = is_done deeds.shared (is_own x) (in_run A);
  through = is_done deeds.changed (is_path_behind x) (in_run A);
  mut_out = is_done deeds.borrowed_mutably (is_own x) (outside_run A);
  declared_mut = is_mut (slice_get muts x);
  live_out = live;
  set_in = set;
}

pub own_done : (what : Act → Option Place) (x : ℕ) (l : List Action) → Decides (is_done what (is_own x) l) (Done what (OwnPath x) l)
own_done what x l = done_told what (OwnPath x) (is_own x) (own_told x) l

pub are_uses : (A : Asked) (muts : List Bool) (k : Plan) (x : ℕ) (live set : Bool) → Decides live (IsLiveOut A k x) → Decides set (IsSetIn A x)
    → IsUses A muts k x (told A muts x live set)
are_uses A muts k x live set l s = record {
  copy = (copy_told A.frame.declared (slice_get A.frame.types x), λ h. ap (is_copy A.frame.declared) h.1 ∙ h.2);
  mut_ref = (mutable_told (slice_get A.frame.types x), λ h. ap is_mutable_reference h.1);
  moved = own_done deeds.moved x (in_run A);
  written = own_done deeds.changed x (in_run A);
  lent = own_done deeds.shared x (in_run A);
  through = done_told deeds.changed (PathBehind x) (is_path_behind x) (behind_told x) (in_run A);
  mut_out = own_done deeds.borrowed_mutably x (outside_run A);
  declared_mut = (mut_told (slice_get muts x), λ e. ap is_mut e);
  live_out = l;
  set_in = s;
}
