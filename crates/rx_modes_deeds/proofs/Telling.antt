-- What is noted of a list of actions is what they do.
use mathlib.Core.Path.{fun_ext}
use Rattle.std.proofs.Common.{subst, ◌≡◌, refl, sym, ap, ◌∙◌, ◌==◌, ℕ, zero, suc, Bool, true, false, true≢false, ◌||◌, ◌&&◌, not, if◌then◌else◌, List, [], ◌∷◌, Option}
use Rattle.std.specs.Bool.{Decides}
use Rattle.std.proofs.lemmas.Bool.Decides.{Decides-at, Decides-and, Decides-like}
use Rattle.std.proofs.lemmas.Bool.{eq-eqb, eqb-true}
use Rattle.rx_typed.specs.Tree.{Place, Root, variable, temporary}
use Rattle.rx_lower_walks.specs.Actions.{Act, Declare, Dead, Read, Write, Borrow, Test, Call, Build, Input, Print, Give, Action}
use Rattle.rx_facts_tables.specs.Setting.{is_behind}
use Rattle.rx_facts_tables.specs.Wholes.{is_variable}
use Rattle.rx_modes_uses.specs.Paths.{PathBehind}
use Rattle.rx_modes_uses.specs.Deeds as deeds
use Rattle.rx_modes_uses.specs.Deeds.{Done}
use Rattle.rx_modes_uses.proofs.Deciding.{is_own, is_path_behind, is_such, is_done, done_told, own_done}
use Rattle.rx_modes_deeds.specs.declared.deeds.Deeds.{Deeds}
use Rattle.rx_modes_deeds.specs.Doings.{nothing_done, moving, writing, sharing, lending, changing_behind, done_at, done_to, done_by, both, noted, all_noted, deeds_at, AreDeeds}

-- ---- a place: what is said of it where it is in front of each dereference, behind one, or never

module _ (f : Deeds → Bool) (own behind : Deeds) (none : f nothing_done ≡ false) where
  own_at : f own ≡ true → f behind ≡ false → (p : Place) (x : ℕ) → f (done_to p own behind x) ≡ is_own x p
  own_at o b p x = by p.root (is_behind p.steps)
    where
      chosen : (e d : Bool) → f (if e then (if d then behind else own) else nothing_done) ≡ (e && not d)
      chosen true true = b
      chosen true false = o
      chosen false d = none

      by : (r : Root) (d : Bool) → f (done_at r (if d then behind else own) x) ≡ (is_variable r x && not d)
      by (variable y) d = chosen (y == x) d
      by (temporary t) d = none

  behind_at : f own ≡ false → f behind ≡ true → (p : Place) (x : ℕ) → f (done_to p own behind x) ≡ is_path_behind x p
  behind_at o b p x = by p.root (is_behind p.steps)
    where
      chosen : (e d : Bool) → f (if e then (if d then behind else own) else nothing_done) ≡ (e && d)
      chosen true true = b
      chosen true false = o
      chosen false d = none

      by : (r : Root) (d : Bool) → f (done_at r (if d then behind else own) x) ≡ (is_variable r x && d)
      by (variable y) d = chosen (y == x) d
      by (temporary t) d = none

  never_at : f own ≡ false → f behind ≡ false → (p : Place) (x : ℕ) → f (done_to p own behind x) ≡ false
  never_at o b p x = by p.root (is_behind p.steps)
    where
      chosen : (e d : Bool) → f (if e then (if d then behind else own) else nothing_done) ≡ false
      chosen true true = b
      chosen true false = o
      chosen false d = none

      by : (r : Root) (d : Bool) → f (done_at r (if d then behind else own) x) ≡ false
      by (variable y) d = chosen (y == x) d
      by (temporary t) d = none

-- ---- an action

moved_by : (x : ℕ) (a : Act) → (done_by a x).moved ≡ is_such (is_own x) (deeds.moved a)
moved_by x (Declare y) = refl
moved_by x (Dead y) = refl
moved_by x (Read true p d) = own_at (λ e. e.moved) moving nothing_done refl refl refl p x
moved_by x (Read false p d) = refl
moved_by x (Write p t ss) = never_at (λ e. e.moved) writing changing_behind refl refl refl p x
moved_by x (Borrow true p d) = never_at (λ e. e.moved) lending changing_behind refl refl refl p x
moved_by x (Borrow false p d) = never_at (λ e. e.moved) sharing nothing_done refl refl refl p x
moved_by x (Test p c) = refl
moved_by x (Call f ts d) = refl
moved_by x (Build w is ts d) = refl
moved_by x (Input d) = refl
moved_by x (Print t) = refl
moved_by x (Give t) = refl

changed_by : (x : ℕ) (a : Act) → (done_by a x).changed ≡ is_such (is_own x) (deeds.changed a)
changed_by x (Declare y) = refl
changed_by x (Dead y) = refl
changed_by x (Read true p d) = never_at (λ e. e.changed) moving nothing_done refl refl refl p x
changed_by x (Read false p d) = refl
changed_by x (Write p t ss) = own_at (λ e. e.changed) writing changing_behind refl refl refl p x
changed_by x (Borrow true p d) = own_at (λ e. e.changed) lending changing_behind refl refl refl p x
changed_by x (Borrow false p d) = never_at (λ e. e.changed) sharing nothing_done refl refl refl p x
changed_by x (Test p c) = refl
changed_by x (Call f ts d) = refl
changed_by x (Build w is ts d) = refl
changed_by x (Input d) = refl
changed_by x (Print t) = refl
changed_by x (Give t) = refl

shared_by : (x : ℕ) (a : Act) → (done_by a x).shared ≡ is_such (is_own x) (deeds.shared a)
shared_by x (Declare y) = refl
shared_by x (Dead y) = refl
shared_by x (Read true p d) = never_at (λ e. e.shared) moving nothing_done refl refl refl p x
shared_by x (Read false p d) = refl
shared_by x (Write p t ss) = never_at (λ e. e.shared) writing changing_behind refl refl refl p x
shared_by x (Borrow true p d) = never_at (λ e. e.shared) lending changing_behind refl refl refl p x
shared_by x (Borrow false p d) = own_at (λ e. e.shared) sharing nothing_done refl refl refl p x
shared_by x (Test p c) = refl
shared_by x (Call f ts d) = refl
shared_by x (Build w is ts d) = refl
shared_by x (Input d) = refl
shared_by x (Print t) = refl
shared_by x (Give t) = refl

lent_by : (x : ℕ) (a : Act) → (done_by a x).borrowed_mutably ≡ is_such (is_own x) (deeds.borrowed_mutably a)
lent_by x (Declare y) = refl
lent_by x (Dead y) = refl
lent_by x (Read true p d) = never_at (λ e. e.borrowed_mutably) moving nothing_done refl refl refl p x
lent_by x (Read false p d) = refl
lent_by x (Write p t ss) = never_at (λ e. e.borrowed_mutably) writing changing_behind refl refl refl p x
lent_by x (Borrow true p d) = own_at (λ e. e.borrowed_mutably) lending changing_behind refl refl refl p x
lent_by x (Borrow false p d) = never_at (λ e. e.borrowed_mutably) sharing nothing_done refl refl refl p x
lent_by x (Test p c) = refl
lent_by x (Call f ts d) = refl
lent_by x (Build w is ts d) = refl
lent_by x (Input d) = refl
lent_by x (Print t) = refl
lent_by x (Give t) = refl

through_by : (x : ℕ) (a : Act) → (done_by a x).through ≡ is_such (is_path_behind x) (deeds.changed a)
through_by x (Declare y) = refl
through_by x (Dead y) = refl
through_by x (Read true p d) = never_at (λ e. e.through) moving nothing_done refl refl refl p x
through_by x (Read false p d) = refl
through_by x (Write p t ss) = behind_at (λ e. e.through) writing changing_behind refl refl refl p x
through_by x (Borrow true p d) = behind_at (λ e. e.through) lending changing_behind refl refl refl p x
through_by x (Borrow false p d) = never_at (λ e. e.through) sharing nothing_done refl refl refl p x
through_by x (Test p c) = refl
through_by x (Call f ts d) = refl
through_by x (Build w is ts d) = refl
through_by x (Input d) = refl
through_by x (Print t) = refl
through_by x (Give t) = refl

-- ---- a list of them

turned : (a b c : Bool) → (b || (a || c)) ≡ ((a || b) || c)
turned true true c = refl
turned true false c = refl
turned false b c = refl

module _ (f : Deeds → Bool) (what : Act → Option Place) (q : Place → Bool) (x : ℕ) (joins : (d e : Deeds) → f (both d e) ≡ (f d || f e))
    (each : (a : Act) → f (done_by a x) ≡ is_such q (what a)) where
  all_told : (t : ℕ → Deeds) (l : List Action) → f (all_noted t l x) ≡ (is_done what q l || f (t x))
  all_told t [] = refl
  all_told t (a ∷ l) =
      all_told (noted t a) l ∙ ap (λ b. is_done what q l || b) (joins (done_by a.act x) (t x) ∙ ap (λ b. b || f (t x)) (each a.act))
      ∙ turned (is_such q (what a.act)) (is_done what q l) (f (t x))

  from_none : (l : List Action) → f nothing_done ≡ false → f (all_noted (λ y. nothing_done) l x) ≡ is_done what q l
  from_none l n = all_told (λ y. nothing_done) l ∙ ap (λ b. is_done what q l || b) n ∙ or_false (is_done what q l)
    where
      or_false : (b : Bool) → (b || false) ≡ b
      or_false true = refl
      or_false false = refl

abbrev number : Root → ℕ
number (variable x) = x
number (temporary t) = 0

abbrev has_number : Root → Bool
has_number (variable x) = true
has_number (temporary t) = false

root_told : (r : Root) (x : ℕ) → Decides (is_variable r x) (r ≡ variable x)
root_told (variable y) x = (λ e. ap (λ n. variable n) (eqb-true y x e), λ e. eq-eqb y x (ap number e))
root_told (temporary t) x = (λ e. absurd (true≢false (sym e)), λ e. absurd (true≢false (sym (ap has_number e))))

path_told : (x : ℕ) (p : Place) → Decides (is_path_behind x p) (PathBehind x p)
path_told x p =
    Decides-like (is_path_behind x p) (λ h. record { of = h.0; behind = h.1 }) (λ o. (o.of, o.behind))
    (Decides-and (is_variable p.root x) (is_behind p.steps) (root_told p.root x) ((λ e. e), (λ e. e)))

are_noted : (l : List Action) (x : ℕ) → AreDeeds l x (all_noted (λ y. nothing_done) l x)
are_noted l x = record {
  moved = Decides-at _ _ (from_none (λ d. d.moved) deeds.moved (is_own x) x (λ d e. refl) (moved_by x) l refl) (own_done deeds.moved x l);
  changed = Decides-at _ _ (from_none (λ d. d.changed) deeds.changed (is_own x) x (λ d e. refl) (changed_by x) l refl) (own_done deeds.changed x l);
  shared = Decides-at _ _ (from_none (λ d. d.shared) deeds.shared (is_own x) x (λ d e. refl) (shared_by x) l refl) (own_done deeds.shared x l);
  borrowed_mutably = Decides-at _ _ (from_none (λ d. d.borrowed_mutably) deeds.borrowed_mutably (is_own x) x (λ d e. refl) (lent_by x) l refl)
      (own_done deeds.borrowed_mutably x l);
  through = Decides-at _ _ (from_none (λ d. d.through) deeds.changed (is_path_behind x) x (λ d e. refl) (through_by x) l refl)
      (done_told deeds.changed (PathBehind x) (is_path_behind x) (path_told x) l);
}

none_there : (x : ℕ) → deeds_at [] x ≡ nothing_done
none_there zero = refl
none_there (suc x) = refl

-- a table that was empty before
pub told : (n m : List Deeds) (l : List Action) → n ≡ [] → deeds_at m ≡ all_noted (deeds_at n) l → (x : ℕ) → AreDeeds l x (deeds_at m x)
told n m l none e x =
    subst (AreDeeds l x) (sym (ap (λ (t : ℕ → Deeds). t x) (e ∙ ap (λ k. all_noted (deeds_at k) l) none ∙ ap (λ t. all_noted t l) (fun_ext none_there)))) (are_noted l x)
