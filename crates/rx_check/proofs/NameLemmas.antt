-- The names of a program have a meaning or a fault, and one.
use Rattle.std.proofs.Common.{◌≡◌, ◌≢◌, List, Some, Result, Ok, Err, slice_get, unwrap_or, inl, inr, refl, sym, ap, ◌∙◌, arith}
use Rattle.std.proofs.Common.{true≢false}
use Rattle.std.proofs.lemmas.Bool.{cases_lt}
use Rattle.std.specs.Result.{is_ok}
use Rattle.rx_core.specs.declared.types.Span.{Span}
use Rattle.rx_tree.specs.Plain.{ProgramTree}
use Rattle.rx_resolve_names.specs.declared.resolved.ItemNames.{ItemNames}
use Rattle.rx_resolve_names.specs.declared.resolved.Misnamed.{Misnamed}
use Rattle.rx_resolve_names.specs.declared.resolved.Misnamed.TheVariants as misnamed
use Rattle.rx_resolve_names.specs.declared.resolved.NameFault.{NameFault}
use Rattle.rx_resolve_names.specs.declared.resolved.NameFault.TheVariants as name_fault
use Rattle.rx_resolve_names.specs.Items.{in_program}
use Rattle.rx_resolve_names.specs.Holding.{name_span}
use Rattle.rx_resolve_names.specs.Causes.{Meant, FirstHolding, SelfHolding, fault_of, Causes}
use Rattle.rx_core.proofs.Results.{ok_is}

ok_or_err : {A E : Type 0} (r : Result A E) (a : A) (e : E) → r ≡ Ok a → r ≡ Err e → ⊥
ok_or_err r a e ok err = true≢false (sym (ap is_ok ok) ∙ ap is_ok err)

pub one_meaning : (p : ProgramTree) (ns ms : List ItemNames) → Meant p ns → Meant p ms → ns ≡ ms
one_meaning p ns ms a b = ok_is ns ms (sym a.names_are ∙ b.names_are)

-- a fault is what is misnamed first, or a struct or enum that reaches itself
data View (p : ProgramTree) (e : NameFault) : Type 0 where
  wrong : (m : Misnamed) → in_program p ≡ Err m → e ≡ fault_of m → View p e
  holding : (s : Span) → SelfHolding p s → e ≡ name_fault.SelfHolding s → View p e

view : (p : ProgramTree) (e : NameFault) → e ≢ name_fault.OutOfMemory → Causes e p → View p e
view p (name_fault.Unknown s) known c = wrong (misnamed.Unknown s) c refl
view p (name_fault.Twice a b) known c = wrong (misnamed.Twice a b) c refl
view p (name_fault.Label s) known c = wrong (misnamed.Label s) c refl
view p (name_fault.SelfHolding s) known c = holding s c refl
view p name_fault.OutOfMemory known c = absurd (known refl)

meant_or_viewed : (p : ProgramTree) (ns : List ItemNames) (e : NameFault) → Meant p ns → View p e → ⊥
meant_or_viewed p ns e m (wrong w c is) = ok_or_err (in_program p) ns w m.names_are c
meant_or_viewed p ns e m (holding s h is) = m.finite h.holding.number h.holding.first.0

pub meant_or_misnamed : (p : ProgramTree) (ns : List ItemNames) (e : NameFault) → e ≢ name_fault.OutOfMemory → Meant p ns → Causes e p → ⊥
meant_or_misnamed p ns e known m c = meant_or_viewed p ns e m (view p e known c)

abbrev fault_in : {A E : Type 0} → E → Result A E → E
fault_in d (Ok a) = d
fault_in d (Err e) = e

err_is : {A E : Type 0} (r : Result A E) (d e : E) → r ≡ Err d → r ≡ Err e → d ≡ e
err_is r d e a b = ap (fault_in d) (sym a ∙ b)

some_is : {A : Type 0} (a b : A) → Some a ≡ Some b → a ≡ b
some_is a b h = ap (λ o. unwrap_or o a) h

one_number : (p : ProgramTree) (s t : Span) (a : FirstHolding p s) (b : FirstHolding p t) → a.number ≡ b.number
one_number p s t a b = elim (cases_lt a.number b.number) [
  | inl less ↦ absurd (b.first.1 a.number less a.first.0)
  | inr most ↦ elim (cases_lt b.number a.number) [
    | inl less ↦ absurd (a.first.1 b.number less b.first.0)
    | inr least ↦ omega (arith, most, least)
  ]
]

one_holding : (p : ProgramTree) (s t : Span) → FirstHolding p s → FirstHolding p t → s ≡ t
one_holding p s t a b =
    let item : a.item ≡ b.item = some_is a.item b.item (sym a.stands ∙ (ap (slice_get p) (one_number p s t a b) ∙ b.stands)) in
    a.place ∙ (ap name_span item ∙ sym b.place)

viewed_one : (p : ProgramTree) (d e : NameFault) → View p d → View p e → d ≡ e
viewed_one p d e (wrong m a x) (wrong n b y) = x ∙ (ap fault_of (err_is (in_program p) m n a b) ∙ sym y)
viewed_one p d e (wrong m a x) (holding t b y) = absurd (ok_or_err (in_program p) b.names m b.names_are a)
viewed_one p d e (holding s a x) (wrong n b y) = absurd (ok_or_err (in_program p) a.names n a.names_are b)
viewed_one p d e (holding s a x) (holding t b y) = x ∙ (ap name_fault.SelfHolding (one_holding p s t a.holding b.holding) ∙ sym y)

pub misnamed_one : (p : ProgramTree) (d e : NameFault) → d ≢ name_fault.OutOfMemory → e ≢ name_fault.OutOfMemory → Causes d p → Causes e p → d ≡ e
misnamed_one p d e h i a b = viewed_one p d e (view p d h a) (view p e i b)
