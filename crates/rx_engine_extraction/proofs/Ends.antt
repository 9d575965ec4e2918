-- The end of an extraction: a program that fits, with its bounds, is the extraction; and what stops there is the first condition that is not
-- met, since two faults of a program are of one pass.
use Rattle.std.proofs.Common.{◌≡◌, ◌≢◌, inl, inr, ℕ, zero, suc, Bool, true, false, List, [], ◌∷◌, ◌++◌, map, Some, Result, Ok, Err, codes, refl, sym, ◌∙◌}
use Rattle.std.specs.Prelude.{if◌then◌else◌, nat_lt, IfOk, IfErr}
use Rattle.std.proofs.lemmas.Bool.{ltb-true, ltb-false}
use Rattle.rx_core.specs.declared.types.Bound.{Bound}
use Rattle.rx_core.specs.declared.types.Span.{Span}
use Rattle.rx_core.specs.declared.types.Which.TheVariants as which
use Rattle.rx_tree.specs.declared.tree.BoundLifetime.{BoundLifetime}
use Rattle.rx_tree.specs.Lists.{nth, Every}
use Rattle.rx_tree.specs.Plain as plain
use Rattle.rx_tree.specs.Plain.{Body, Function, ItemTree, ProgramTree}
use Rattle.rx_tree.specs.Positions.{a_block, node_at}
use Rattle.rx_lex.specs.declared.token.Class.TheVariants.{Lifetime}
use Rattle.rx_lex.specs.Words.{IsWord}
use Rattle.rx_lex.specs.Words as words
use Rattle.rx_print_spelling.specs.Formed.{FormedItem, FormedBound, FormedProgram}
use Rattle.rx_select.proofs.Ways.{no_item_block}
use Rattle.rx_check.specs.declared.fault.CheckFault.{CheckFault}
use Rattle.rx_check.specs.declared.fault.CheckFault.TheVariants as check_fault
use Rattle.rx_check.specs.Causes.{Causes, PassCauses}
use Rattle.rx_check.specs.Passes.{Accepted}
use Rattle.rx_check.specs.declared.loans.LoanFault.TheVariants as loan_fault
use Rattle.rx_lower_lifetimes.specs.declared.whole.LowerFault.TheVariants as lower_fault
use Rattle.rx_hoist_extraction.specs.Plan.{Bounds}
use Rattle.rx_repair.specs.Named.{lifetimes_of, named_at}
use Rattle.rx_repair.specs.Repaired.{repaired}
use Rattle.rx_typeck_typed.specs.declared.typed.Typed.{Typed}
use Rattle.rx_typeck_typed.specs.declared.typed.TypedFn.{TypedFn}
use Rattle.rx_engine_extraction.specs.declared.refusal.Answer.{Answer}
use Rattle.rx_engine_extraction.specs.declared.refusal.Fault.{Fault}
use Rattle.rx_engine_extraction.specs.declared.refusal.Fault.TheVariants as fault
use Rattle.rx_engine_extraction.specs.declared.refusal.Refusal.{Refusal}
use Rattle.rx_engine_extraction.specs.declared.refusal.Refusal.TheVariants as refusal
use Rattle.rx_engine_extraction.specs.Meeting.{Fits, most_sites}
use Rattle.rx_engine_extraction.specs.Ending.{too_large, of_front, of_check, IsPastLimit, IsUnfronted, IsMisfit, IsUnchecked, IsUnwritten, IsUnprinted, IsAnswered, IsKept, IsUnanswered, IsFinished}

-- ---- the function of a run

pub block_function : (p : ProgramTree) (n : ℕ) (ks : List ℕ) (b : Body) → node_at p n ks ≡ Some (a_block b) → (s : Span) × (f : Function) × (nth p n ≡ Some (plain.function_item s f))
block_function [] n ks b e = absurd (cc)
block_function (plain.function_item s f ∷ is) zero ks b e = (s, f, refl)
block_function (plain.rt_item s r ∷ is) zero ks b e = absurd (no_item_block ks (plain.rt_item s r) b tt e)
block_function (plain.struct_item s x ∷ is) zero ks b e = absurd (no_item_block ks (plain.struct_item s x) b tt e)
block_function (plain.enum_item s x ∷ is) zero ks b e = absurd (no_item_block ks (plain.enum_item s x) b tt e)
block_function (i ∷ is) (suc n) ks b e = block_function is n ks b e

-- ---- names of lifetimes

some_word : (w : List ℕ) → IsWord Lifetime w → w ≡ [] → ⊥
some_word w (words.lifetime {name = name} a e) h = clash (sym e ∙ h)
  where
    clash : codes "'" ++ name ≡ [] → ⊥
    clash q = cc

bounds_named : (ls : List BoundLifetime) → Every FormedBound ls → Every (λ (x : List ℕ). x ≢ []) (map (λ (l : BoundLifetime). l.name.name) ls)
bounds_named [] h = tt
bounds_named (l ∷ ls) h = (some_word l.name.name h.0.0.0, bounds_named ls h.1)

item_named : (i : ItemTree) → FormedItem i → Every (λ (x : List ℕ). x ≢ []) (lifetimes_of (Some i))
item_named (plain.rt_item s r) h = tt
item_named (plain.struct_item s x) h = tt
item_named (plain.enum_item s x) h = tt
item_named (plain.function_item s f) h = bounds_named f.lifetimes h.1

pub all_named : (p : ProgramTree) (n : ℕ) → FormedProgram p → Every (λ (x : List ℕ). x ≢ []) (lifetimes_of (nth p n))
all_named [] n h = tt
all_named (i ∷ is) zero h = item_named i h.0
all_named (i ∷ is) (suc n) h = all_named is n h.1

-- ---- faults of one program

-- a fault of the passes up to initialisation is one
pub pass_cause : (e : CheckFault) (p : ProgramTree) → PassCauses e p → Causes e p
pass_cause (check_fault.Name e) p h = h
pass_cause (check_fault.Types e) p h = h
pass_cause (check_fault.Cover e) p h = h
pass_cause (check_fault.Lower e) p h = h
pass_cause (check_fault.Init e) p h = h
pass_cause (check_fault.Region i l k) p h = absurd h
pass_cause (check_fault.Loan e) p h = absurd h
pass_cause check_fault.OutOfMemory p h = h

name_told : (x : _) → check_fault.Name x ≢ check_fault.OutOfMemory
name_told x e = cc

types_told : (x : _) → check_fault.Types x ≢ check_fault.OutOfMemory
types_told x e = cc

cover_told : (x : _) → check_fault.Cover x ≢ check_fault.OutOfMemory
cover_told x e = cc

lower_is_told : (x : _) → check_fault.Lower x ≢ check_fault.OutOfMemory
lower_is_told x e = cc

init_told : (x : _) → check_fault.Init x ≢ check_fault.OutOfMemory
init_told x e = cc

too_large_past : (p : ProgramTree) (f s l : ℕ) → PassCauses (check_fault.Lower (lower_fault.TooLarge f s l)) p → IsPastLimit p (too_large s l)
too_large_past p f s l h = by (nat_lt most_sites s) refl
  where
    by : (b : Bool) → nat_lt most_sites s ≡ b → IsPastLimit p (if b then refusal.Limit which.Sites s else refusal.Limit which.Positions l)
    by true e = (l, ltb-true most_sites s e, (f, h))
    by false e = (s, ltb-false most_sites s e, (f, h))

pub unfronted : (e : CheckFault) (p : ProgramTree) → PassCauses e p → IsUnfronted p (of_front e)
unfronted (check_fault.Name x) p h = (tt, h)
unfronted (check_fault.Types x) p h = (tt, h)
unfronted (check_fault.Cover x) p h = (tt, h)
unfronted (check_fault.Lower (lower_fault.TooLarge f s l)) p h = too_large_past p f s l h
unfronted (check_fault.Lower lower_fault.OutOfMemory) p h = tt
unfronted (check_fault.Init x) p h = (tt, h)
unfronted (check_fault.Region i l k) p h = absurd h
unfronted (check_fault.Loan x) p h = absurd h
unfronted check_fault.OutOfMemory p h = tt

pub unchecked : (e : CheckFault) (p : ProgramTree) → Causes e p → IsUnchecked p (of_check e)
unchecked (check_fault.Name x) p h = (name_told x, h)
unchecked (check_fault.Types x) p h = (types_told x, h)
unchecked (check_fault.Cover x) p h = (cover_told x, h)
unchecked (check_fault.Lower x) p h = (lower_is_told x, h)
unchecked (check_fault.Init x) p h = (init_told x, h)
unchecked (check_fault.Region i l k) p h = h
unchecked (check_fault.Loan (loan_fault.Loan a b)) p h = h
unchecked (check_fault.Loan loan_fault.OutOfMemory) p h = tt
unchecked check_fault.OutOfMemory p h = tt

-- ---- what is not accepted, or has no text within the limit, by which texts it may be

module _ (R : List ℕ → Type 0) where
  misfit_kept : (p : ProgramTree) (r : Refusal) → IsMisfit p r → IsKept R p r
  misfit_kept p (refusal.Unfit e) h = h
  misfit_kept p (refusal.Region i l k) h = h
  misfit_kept p (refusal.Loan a b) h = h
  misfit_kept p refusal.Unconfirmed h = absurd h
  misfit_kept p (refusal.Limit w n) h = absurd h
  misfit_kept p refusal.NotARun h = absurd h
  misfit_kept p refusal.BadName h = absurd h
  misfit_kept p refusal.NameTaken h = absurd h
  misfit_kept p (refusal.Unreachable s) h = absurd h
  misfit_kept p refusal.Endless h = absurd h
  misfit_kept p (refusal.MixedInit s) h = absurd h
  misfit_kept p (refusal.PartlyMoved s) h = absurd h
  misfit_kept p (refusal.Shadowed s) h = absurd h
  misfit_kept p (refusal.NotMut s) h = absurd h
  misfit_kept p (refusal.Aliased s) h = absurd h

  pub unchecked_kept : (p : ProgramTree) (f : Fault) → IsUnchecked p f → IsUnanswered R p f
  unchecked_kept p (fault.Refused r) h = misfit_kept p r h
  unchecked_kept p fault.OutOfMemory h = tt
  unchecked_kept p (fault.Syntax e) h = absurd h
  unchecked_kept p (fault.NotAccepted e) h = absurd h

  unwritten_refusal : (r : Refusal) → IsUnwritten R (fault.Refused r) → IsUnprinted R (fault.Refused r)
  unwritten_refusal refusal.Unconfirmed h = h
  unwritten_refusal refusal.NotARun h = absurd h
  unwritten_refusal refusal.BadName h = absurd h
  unwritten_refusal refusal.NameTaken h = absurd h
  unwritten_refusal (refusal.Unreachable s) h = absurd h
  unwritten_refusal refusal.Endless h = absurd h
  unwritten_refusal (refusal.MixedInit s) h = absurd h
  unwritten_refusal (refusal.PartlyMoved s) h = absurd h
  unwritten_refusal (refusal.Shadowed s) h = absurd h
  unwritten_refusal (refusal.NotMut s) h = absurd h
  unwritten_refusal (refusal.Aliased s) h = absurd h
  unwritten_refusal (refusal.Limit x n) h = absurd h
  unwritten_refusal (refusal.Unfit e) h = absurd h
  unwritten_refusal (refusal.Region i l k) h = absurd h
  unwritten_refusal (refusal.Loan x y) h = absurd h

  pub unwritten_unprinted : (f : Fault) → IsUnwritten R f → IsUnprinted R f
  unwritten_unprinted (fault.Refused r) h = unwritten_refusal r h
  unwritten_unprinted fault.OutOfMemory h = tt
  unwritten_unprinted (fault.Syntax e) h = absurd h
  unwritten_unprinted (fault.NotAccepted e) h = absurd h

  refusal_kept : (p : ProgramTree) → Accepted p → (r : Refusal) → IsUnprinted R (fault.Refused r) → IsKept R p r
  refusal_kept p a (refusal.Limit which.Bytes n) h = (a, h)
  refusal_kept p a refusal.Unconfirmed h = (a, h)
  refusal_kept p a (refusal.Limit which.Sites n) h = absurd h
  refusal_kept p a (refusal.Limit which.Positions n) h = absurd h
  refusal_kept p a (refusal.Limit which.Parameters n) h = absurd h
  refusal_kept p a (refusal.Limit which.Lifetimes n) h = absurd h
  refusal_kept p a (refusal.Limit which.Levels n) h = absurd h
  refusal_kept p a (refusal.Limit which.Parts n) h = absurd h
  refusal_kept p a refusal.NotARun h = absurd h
  refusal_kept p a refusal.BadName h = absurd h
  refusal_kept p a refusal.NameTaken h = absurd h
  refusal_kept p a (refusal.Unreachable s) h = absurd h
  refusal_kept p a refusal.Endless h = absurd h
  refusal_kept p a (refusal.MixedInit s) h = absurd h
  refusal_kept p a (refusal.PartlyMoved s) h = absurd h
  refusal_kept p a (refusal.Shadowed s) h = absurd h
  refusal_kept p a (refusal.NotMut s) h = absurd h
  refusal_kept p a (refusal.Aliased s) h = absurd h
  refusal_kept p a (refusal.Unfit e) h = absurd h
  refusal_kept p a (refusal.Region i l k) h = absurd h
  refusal_kept p a (refusal.Loan x y) h = absurd h

  pub unprinted_kept : (p : ProgramTree) → Accepted p → (f : Fault) → IsUnprinted R f → IsUnanswered R p f
  unprinted_kept p a (fault.Refused r) h = refusal_kept p a r h
  unprinted_kept p a fault.OutOfMemory h = tt
  unprinted_kept p a (fault.Syntax e) h = absurd h
  unprinted_kept p a (fault.NotAccepted e) h = absurd h

-- ---- how it ends

module _ (R : Bounds → List ℕ → Type 0) where
  past_finished : (p : ProgramTree) (n : ℕ) (f : Fault) → IsUnfronted p f → IsFinished R p n (Err f)
  past_finished p n (fault.Refused r) h = inl h
  past_finished p n fault.OutOfMemory h = tt
  past_finished p n (fault.Syntax e) h = absurd h
  past_finished p n (fault.NotAccepted e) h = absurd h

  pub unfronted_finished : (p : ProgramTree) (n : ℕ) (f : Fault) → IsUnfronted p f → IsFinished R p n (Err f)
  unfronted_finished = past_finished

  pub fitted_finished : (p : ProgramTree) (n : ℕ) (t : Typed) (g : TypedFn) (bs : List Bound) → Fits p n t g bs → (q : Result Answer Fault)
      → IfOk q (λ a. IsAnswered (R (named_at p n bs)) (repaired p n bs) bs a) → IfErr q (λ f. IsUnanswered (R (named_at p n bs)) (repaired p n bs) f) → IsFinished R p n q
  fitted_finished p n t g bs fits (Ok a) h k = record { types = t; made = g; bounds = bs; fits = fits; answered = h }
  fitted_finished p n t g bs fits (Err (fault.Refused r)) h k = inr (record { types = t; made = g; bounds = bs; fits = fits; kept = k })
  fitted_finished p n t g bs fits (Err fault.OutOfMemory) h k = tt
  fitted_finished p n t g bs fits (Err (fault.Syntax e)) h k = absurd k
  fitted_finished p n t g bs fits (Err (fault.NotAccepted e)) h k = absurd k
