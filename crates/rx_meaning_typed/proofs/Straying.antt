-- Why nothing is found: a value is lacking, or a place leads nowhere.
use Rattle.std.proofs.Common.{◌≡◌, refl, sym, true≢false}
use Rattle.std.specs.Prelude.{Bool, true, false, List, [], ◌∷◌, Option, Some, None}
use Rattle.rx_core.specs.declared.types.Step.{Step}
use Rattle.rx_typed.specs.Tree.{Place}
use Rattle.rx_meaning.specs.Endings.{Cause, wrong, lacks, astray, missing_reference}
use Rattle.rx_meaning.specs.Straying.{where_some, unlike, why_no_part, why_no_content, why_not_followed, why_not_found, why_not_written}
use Rattle.rx_meaning.specs.Values.{Value, number, truth, whole, tagged, pointer, lacking, part, element, State}
use Rattle.rx_meaning.specs.Places.{Spot, in_slot, in_value, content, deeper, may_write, pointed, start}
use Rattle.rx_meaning_typed.specs.TypedStates.{IsSensible}

-- what is so of these two causes
module _ (Q : Cause → Type 0) (l : Q lacks) (a : Q astray) where
  pub where_so : {A : Type 0} (o : Option A) (c : Cause) (go : A → Cause) → Q c → ((x : A) → Q (go x)) → Q (where_some o c go)
  where_so None c go h k = h
  where_so (Some x) c go h k = k x

  pub unlike_so : (c : Cause) (v : Value) → Q c → Q (unlike c v)
  unlike_so c (number k z) h = h
  unlike_so c (truth b) h = h
  unlike_so c (whole vs) h = h
  unlike_so c (tagged i vs) h = h
  unlike_so c (pointer i p m) h = h
  unlike_so c (lacking x) h = l

  pub no_part_so : (ss : List Step) (v : Value) → Q (why_no_part ss v)
  no_part_so [] v = unlike_so astray v a
  no_part_so (s ∷ ss) v = where_so (part v s) (unlike astray v) (λ u. why_no_part ss u) (unlike_so astray v a) (λ u. no_part_so ss u)

  pub no_content_so : (M : List Value) (at : Spot) → Q (why_no_content M at)
  no_content_so M (in_slot i p w) = where_so (element M i) astray (λ v. why_no_part p v) a (λ v. no_part_so p v)
  no_content_so M (in_value v) = unlike_so astray v a

-- what is so of these and of what is no reference
module _ (Q : Cause → Type 0) (l : Q lacks) (a : Q astray) (r : Q missing_reference) where
  not_followed_so : (M : List Value) (ss : List Step) (at : Spot) → Q (why_not_followed M ss at)
  not_followed_so M [] at = no_content_so Q l a M at
  not_followed_so M (Step.Deref m ∷ ss) at = where_so Q l a (content M at) (why_no_content M at) (λ v. where_some (pointed (may_write at) v) (unlike missing_reference v) (λ to. why_not_followed M ss to)) (no_content_so Q l a M at)
      (λ v. where_so Q l a (pointed (may_write at) v) (unlike missing_reference v) (λ to. why_not_followed M ss to) (unlike_so Q l a missing_reference v r) (λ to. not_followed_so M ss to))
  not_followed_so M (Step.Field i ∷ ss) at = where_so Q l a (deeper (Step.Field i) at) (why_no_content M at) (λ to. why_not_followed M ss to) (no_content_so Q l a M at) (λ to. not_followed_so M ss to)
  not_followed_so M (Step.Variant i ∷ ss) at = where_so Q l a (deeper (Step.Variant i) at) (why_no_content M at) (λ to. why_not_followed M ss to) (no_content_so Q l a M at) (λ to. not_followed_so M ss to)

  pub not_found_so : (p : Place) (vs : List Value) (s : State) → Q (why_not_found p vs s)
  not_found_so p vs s = where_so Q l a (start p.root vs s.frame) astray (λ at. why_not_followed s.memory p.steps at) a (λ at. not_followed_so s.memory p.steps at)

-- no operand is of another type
abbrev pub Sensible : Bool → Cause → Type 0
Sensible L c = IsSensible L (wrong c)

abbrev pub IsSlot : Spot → Type 0
IsSlot (in_slot i p w) = Unit {0}
IsSlot (in_value v) = ⊥

pub no_part_sensible : (L : Bool) (ss : List Step) (v : Value) → IsSensible L (wrong (why_no_part ss v))
no_part_sensible L ss v = no_part_so (Sensible L) tt tt ss v

-- also where something was to be written, if that may be
pub not_written_sensible : (L : Bool) (M : List Value) (at : Spot) → IsSlot at → (L ≡ true → may_write at ≡ true) → IsSensible L (wrong (why_not_written M at))
not_written_sensible L M (in_slot i p true) k h = no_content_so (Sensible L) tt tt M (in_slot i p true)
not_written_sensible false M (in_slot i p false) k h = tt
not_written_sensible true M (in_slot i p false) k h = absurd (true≢false (sym (h refl)))
not_written_sensible L M (in_value v) k h = absurd k
