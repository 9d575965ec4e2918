-- A program without references goes behind none, so its strict runs are its plain ones; and what it writes may be written.
use Rattle.std.specs.Prelude.{ℤ, slice_get}
use Rattle.std.proofs.Common.{◌≡◌, ℕ, suc, Bool, true, false, List, [], ◌∷◌, ◌++◌, Option, Some, None, refl, sym, subst, if◌then◌else◌}
use Rattle.rx_core.specs.declared.types.Step.{Step}
use Rattle.rx_typed.specs.Types.{Typ, Shapes, integer, boolean, tuple_of, reference, named, no_shape, shape_and, Declared, Declarations, rt_declared, struct_declared, enum_declared, function_declared}
use Rattle.rx_typed.specs.Tree.{Root, variable, temporary, Place, Temporary, Function, own}
use Rattle.rx_lower_walks.specs.Actions.{Act, Declare, Dead, Read, Write, Borrow, Test, Call, Build, Input, Print, Give, Action}
use Rattle.rx_lower_walks.specs.Walks.{IsWalk}
use Rattle.rx_meaning.specs.Endings.{Cause, Ending, wrong, lacks, astray, immutable, mistyped, missing_reference, missing_function, missing_arm, missing_value}
use Rattle.rx_meaning.specs.Straying.{why_no_part, why_no_content, why_not_found, why_not_written, why_not_checked}
use Rattle.rx_meaning.specs.Values.{Value, truth, unit_value, get, and_then, State, with_memory}
use Rattle.rx_meaning.specs.Results as results
use Rattle.rx_meaning.specs.Results.{Done, gives, or_ends, stops}
use Rattle.rx_meaning.specs.Places.{Spot, in_slot, follow, start, spot, found, whole_value, reference_to, after_write}
use Rattle.rx_meaning.specs.Operators as operators
use Rattle.rx_meaning.specs.Operators.{Computed, make, shown}
use Rattle.rx_meaning.specs.Acting.{checked, computed, next_input, does_plainly, plainly}
use Rattle.rx_meaning.specs.Expressions.{Functions}
use Rattle.rx_meaning.specs.Programs.{Program, run_by}
use Rattle.rx_facts_tables.specs.Places.{Frame}
use Rattle.rx_facts_tables.specs.Setting.{is_behind}
use Rattle.rx_meaning_keeping.specs.Pending.{Pending}
use Rattle.rx_meaning_keeping.specs.Formed.{Any, AllFormed}
use Rattle.rx_meaning_keeping.specs.Keeping.{IsFunction}
use Rattle.rx_meaning_keeping.specs.Reaching.{Ends, by_action, without_turns, at_no_function, at_other_number, starts_with_other_number, at_no_arm, at_no_value, starting}
use Rattle.rx_meaning_keeping.specs.Strict.{looks_at_lack, then_marks, does_strictly, strictly}
use Rattle.rx_meaning_keeping.specs.Ready.{IsInitial}
use Rattle.rx_meaning_keeping.specs.Behind.{goes_behind, NeverBehind, SameRun}
use Rattle.rx_meaning_keeping.proofs.Lost.{spot_plain}
use Rattle.rx_meaning_keeping.proofs.Runs.{runs_end_for_reasons}
use Rattle.rx_meaning_keeping.proofs.Looking.{strictly_behaves, never_lacks}
use Rattle.rx_meaning_keeping.proofs.Alongside.{plain_where_never_behind}
use Rattle.rx_meaning_typed.specs.TypedActs.{Typing, item_behind, typ_behind, typ_along, root_typ, ActTyped}
use Rattle.rx_meaning_typed.specs.TypedFunctions.{ProgramTyped}
use Rattle.rx_meaning_typed.specs.NoReferences.{HasNoReference, NoReferences, RemainsWithoutReferences}
use Rattle.rx_meaning_typed.proofs.Parts.{split}
use Rattle.rx_meaning_typed.proofs.Typing.{ends_sensibly}
use Rattle.rx_meaning_typed.proofs.Strictly.{strictly_keeps}
use Rattle.rx_meaning_typed.proofs.Straying.{unlike_so, no_part_so, no_content_so, not_found_so}

-- ---- it goes behind no reference

items_refer_not : (o : Option Declared) (k : Bool) (u : Typ) → item_behind o (Step.Deref k) ≡ Some u → ⊥
items_refer_not None k u e = cc
items_refer_not (Some rt_declared) k u e = cc
items_refer_not (Some (struct_declared c l fs)) k u e = cc
items_refer_not (Some (enum_declared c l vs)) k u e = cc
items_refer_not (Some (function_declared ps t)) k u e = cc

only_references : (D : Declarations) (t : Typ) (k : Bool) (u : Typ) → typ_behind D t (Step.Deref k) ≡ Some u → HasNoReference D t → ⊥
only_references D (integer x) k u e free = cc
only_references D boolean k u e free = cc
only_references D (tuple_of ts) k u e free = cc
only_references D (reference m t) k u e free = free [] m t refl
only_references D (named i) k u e free = items_refer_not (slice_get D i) k u e

-- below a part without references
further : (D : Declarations) (t u : Typ) (s : Step) → typ_behind D t s ≡ Some u → HasNoReference D t → HasNoReference D u
further D t u s e free rs m x g = free (s ∷ rs) m x (subst (λ z. and_then z (λ y. typ_along D y rs) ≡ Some (reference m x)) (sym e) g)

refers_not : (D : Declarations) (ss : List Step) (t u : Typ) → typ_along D t ss ≡ Some u → HasNoReference D t → is_behind ss ≡ false
refers_not D [] t u e free = refl
refers_not D (Step.Field i ∷ ss) t u e free = let a = split (typ_behind D t (Step.Field i)) (λ z. typ_along D z ss) u e in refers_not D ss a.0 u a.2 (further D t a.0 (Step.Field i) a.1 free)
refers_not D (Step.Variant i ∷ ss) t u e free = let a = split (typ_behind D t (Step.Variant i)) (λ z. typ_along D z ss) u e in refers_not D ss a.0 u a.2 (further D t a.0 (Step.Variant i) a.1 free)
refers_not D (Step.Deref k ∷ ss) t u e free = let a = split (typ_behind D t (Step.Deref k)) (λ z. typ_along D z ss) u e in absurd (only_references D t k a.0 a.1 free)

root_refers_not : (Ts : ℕ → Typing) → NoReferences Ts → (f : ℕ) (r : Root) → HasNoReference (Ts f).declared (root_typ (Ts f) r)
root_refers_not Ts free f (variable x) = free.variables f x
root_refers_not Ts free f (temporary t) = free.temporaries f t

never : (Ts : ℕ → Typing) → NoReferences Ts → (f : ℕ) (a : Act) → ActTyped (Ts f) a → goes_behind a ≡ false
never Ts free f (Read m p d) g = refers_not (Ts f).declared p.steps (root_typ (Ts f) p.root) ((Ts f).temporaries d) g (root_refers_not Ts free f p.root)
never Ts free f (Write p t ss) g = refers_not (Ts f).declared p.steps (root_typ (Ts f) p.root) g.0 g.1 (root_refers_not Ts free f p.root)
never Ts free f (Borrow k p d) g = refers_not (Ts f).declared p.steps (root_typ (Ts f) p.root) g.0 g.1 (root_refers_not Ts free f p.root)
never Ts free f (Test p c) g = refers_not (Ts f).declared p.steps (root_typ (Ts f) p.root) g.0 g.1 (root_refers_not Ts free f p.root)
never Ts free f (Declare x) g = refl
never Ts free f (Dead x) g = refl
never Ts free f (Call h ts d) g = refl
never Ts free f (Build m js ts d) g = refl
never Ts free f (Input d) g = refl
never Ts free f (Print t) g = refl
never Ts free f (Give t) g = refl

pub never_behind : (D : Declarations) (Ts : ℕ → Typing) (P : Functions) → ProgramTyped D Ts P → NoReferences Ts → NeverBehind P
never_behind D Ts P all free f F q w a is = never Ts free f a.act ((all.functions f F q).acts w a is)

-- ---- what it writes may be written

abbrev EndsOther : Ending → Type 0
EndsOther (wrong immutable) = ⊥
EndsOther _ = Unit {0}

abbrev WritesSo : Done ℕ → Type 0
WritesSo (gives t v s) = Unit {0}
WritesSo (results.ends t e) = EndsOther e

abbrev OtherCause : Cause → Type 0
OtherCause c = EndsOther (wrong c)

or_other : {A : Type 0} (c : Cause) (o : Option A) (go : A → Done ℕ) → OtherCause c → ((x : A) → o ≡ Some x → WritesSo (go x)) → WritesSo (or_ends c o go)
or_other c None go h k = h
or_other c (Some x) go h k = k x refl

written_other : (p : Place) (u : Value) (s : State) → is_behind p.steps ≡ false
    → WritesSo (or_ends (why_not_found p [] s) (spot p [] s) (λ at. or_ends (why_not_written s.memory at) (after_write u s.memory at) (λ M. gives [] unit_value (with_memory s M))))
written_other p u s b =
    or_other (why_not_found p [] s) (spot p [] s) (λ at. or_ends (why_not_written s.memory at) (after_write u s.memory at) (λ M. gives [] unit_value (with_memory s M))) (not_found_so OtherCause tt tt tt p [] s) (λ at e.
    or_other (why_not_written s.memory at) (after_write u s.memory at) (λ M. gives [] unit_value (with_memory s M))
    (let r = spot_plain s.memory s.frame p.root p.steps at b e in subst (λ z. OtherCause (why_not_written s.memory z)) r.4 (no_content_so OtherCause tt tt s.memory (in_slot r.1 p.steps true))) (λ M q. tt))

input_other : (zs : List ℤ) (s : State) → WritesSo (next_input zs s)
input_other [] s = tt
input_other (z ∷ zs) s = tt

computed_other : (c : Computed) (s : State) → WritesSo (computed c s)
computed_other (operators.gives v) s = tt
computed_other (operators.traps t) s = tt
computed_other operators.senseless s = tt

plain_other : (a : Act) (vs : List Value) (s : State) → goes_behind a ≡ false → WritesSo (does_plainly a vs s)
plain_other (Declare x) vs s b = tt
plain_other (Dead x) vs s b = tt
plain_other (Read m p d) vs s b = or_other (why_not_found p vs s) (found p vs s) (λ f. or_ends lacks (whole_value f) (λ v. gives [] v s)) (not_found_so OtherCause tt tt tt p vs s) (λ f e. or_other lacks (whole_value f) (λ v. gives [] v s) tt (λ v q. tt))
plain_other (Write p t ss) [] s b = tt
plain_other (Write p t ss) (v ∷ []) s b =
    or_other (why_no_part ss v) (get ss v) (λ u. or_ends (why_not_found p [] s) (spot p [] s) (λ at. or_ends (why_not_written s.memory at) (after_write u s.memory at) (λ M. gives [] unit_value (with_memory s M)))) (no_part_so OtherCause tt tt ss v) (λ u e. written_other p u s b)
plain_other (Write p t ss) (v ∷ u ∷ vs) s b = tt
plain_other (Borrow k p d) vs s b = or_other (why_not_found p vs s) (spot p vs s) (λ at. or_ends astray (reference_to k at) (λ v. gives [] v s)) (not_found_so OtherCause tt tt tt p vs s) (λ at e. or_other astray (reference_to k at) (λ v. gives [] v s) tt (λ v q. tt))
plain_other (Test p c) vs s b =
    or_other (why_not_found p vs s) (found p vs s) (λ f. or_ends (why_not_checked f.1) (checked c f.1) (λ y. gives [] (truth y) s)) (not_found_so OtherCause tt tt tt p vs s)
    (λ f e. or_other (why_not_checked f.1) (checked c f.1) (λ y. gives [] (truth y) s) (unlike_so OtherCause tt tt mistyped f.1 tt) (λ y q. tt))
plain_other (Call f ts d) vs s b = tt
plain_other (Build m js ts d) vs s b = computed_other (make m js vs) s
plain_other (Input d) vs s b = input_other s.input s
plain_other (Print t) [] s b = tt
plain_other (Print t) (v ∷ []) s b = or_other (why_not_checked v) (shown v) (λ bytes. gives bytes unit_value s) (unlike_so OtherCause tt tt mistyped v tt) (λ bytes e. tt)
plain_other (Print t) (v ∷ u ∷ vs) s b = tt
plain_other (Give t) [] s b = tt
plain_other (Give t) (v ∷ []) s b = tt
plain_other (Give t) (v ∷ u ∷ vs) s b = tt

marks_other : (a : Act) (r : Done ℕ) → WritesSo r → WritesSo (then_marks a r)
marks_other a (gives t v s) h = tt
marks_other a (results.ends t e) h = h

strict_other : (a : Act) (vs : List Value) (s : State) → goes_behind a ≡ false → WritesSo (does_strictly a vs s)
strict_other a vs s b = by (looks_at_lack a vs s)
  where
    by : (x : Bool) → WritesSo (if x then results.ends [] (wrong lacks) else then_marks a (does_plainly a vs s))
    by true = tt
    by false = marks_other a (does_plainly a vs s) (plain_other a vs s b)

ends_other : (r : Done ℕ) (t : List ℕ) → WritesSo r → r ≡ results.ends t (wrong immutable) → ⊥
ends_other r t h e = subst WritesSo e h

module _ (P : Program) (behind : NeverBehind P.functions) (given : List ℤ) (n : ℕ) where
  of_reasons : (e : Ending) → Ends strictly P.functions P.main [] (starting P given n) e → e ≡ wrong immutable → ⊥
  of_reasons _ (by_action f vs s1 w s K F a us K1 t act r q d is e) h =
      ends_other (does_strictly a.act us s) t (strict_other a.act us s (behind f F q w a is)) (subst (λ z. does_strictly a.act us s ≡ results.ends t z) h e)
  of_reasons _ without_turns h = cc
  of_reasons _ (at_no_function f vs s1 w s K F m g ts d us act r q pr is none) h = cc
  of_reasons _ (at_other_number f vs s1 w s K F G m g ts d us act r q pr is e other) h = cc
  of_reasons _ (starts_with_other_number F q other) h = cc
  of_reasons _ (at_no_arm f vs s1 w s K F S l us act r q c fi a) h = cc
  of_reasons _ (at_no_value f F o x q wk none) h = cc

  -- no strict run ends where something can't be written
  pub never_immutable : AllFormed P.functions (λ f. Any) → (F : Function) → IsFunction P.functions P.main F → (t : List ℕ) → run_by strictly P given (suc n) ≡ stops t (wrong immutable) → ⊥
  never_immutable formed F q t e = of_reasons (wrong immutable) (runs_end_for_reasons strictly strictly_behaves P formed F q given n t (wrong immutable) e) refl

-- ---- why it may still be Wrong

module _ (D : Declarations) (Ts : ℕ → Typing) (P : Program) (all : ProgramTyped D Ts P.functions) (free : NoReferences Ts) (Fs : ℕ → Frame) (muts : ℕ → List Bool) (initial : IsInitial P.functions Fs muts) (F : Function) (q : IsFunction P.functions P.main F) where
  never_here : NeverBehind P.functions
  never_here = never_behind D Ts P.functions all free

  pub runs_as_plain : (given : List ℤ) (n : ℕ) → SameRun (run_by strictly P given (suc n)) (run_by plainly P given (suc n))
  runs_as_plain given n = plain_where_never_behind P Fs muts initial F q never_here given n

  pub causes_remain : F.params ≡ [] → (given : List ℤ) (n : ℕ) (t : List ℕ) (c : Cause) → run_by strictly P given (suc n) ≡ stops t (wrong c) → RemainsWithoutReferences c
  causes_remain np given n t lacks e = never_lacks P Fs muts initial given n F q never_here t e
  causes_remain np given n t immutable e = never_immutable P never_here given n initial.formed F q t e
  causes_remain np given n t mistyped e = ends_sensibly strictly strictly_keeps D Ts P all false (λ g G x w a is. tt) initial.formed F q np given (suc n) t (wrong mistyped) e
  causes_remain np given n t missing_reference e = ends_sensibly strictly strictly_keeps D Ts P all false (λ g G x w a is. tt) initial.formed F q np given (suc n) t (wrong missing_reference) e
  causes_remain np given n t astray e = tt
  causes_remain np given n t missing_function e = tt
  causes_remain np given n t missing_arm e = tt
  causes_remain np given n t missing_value e = tt
