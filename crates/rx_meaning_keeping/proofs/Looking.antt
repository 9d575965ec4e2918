-- A strict run of an initialised program ends for a lack behind a reference alone: of the reasons for which it ends, an action is the
-- only one with this cause; what is marked holds where it was performed, so it goes behind a reference.
use Rattle.std.proofs.Common.{◌≡◌, ℕ, suc, ℤ, Bool, true, false, List, [], ◌∷◌, ◌++◌, refl, subst, if◌then◌else◌}
use Rattle.rx_typed.specs.Tree.{Function, Parameter}
use Rattle.rx_lower_walks.specs.Actions.{Act, Declare, Dead, Read, Write, Borrow, Test, Call, Build, Input, Print, Give, Action}
use Rattle.rx_lower_walks.specs.Walks.{IsWalk}
use Rattle.rx_meaning.specs.Endings.{Ending, wrong, lacks}
use Rattle.rx_meaning.specs.Values.{Value, State}
use Rattle.rx_meaning.specs.Results as results
use Rattle.rx_meaning.specs.Results.{Done, gives, stops}
use Rattle.rx_meaning.specs.Acting.{does_plainly}
use Rattle.rx_meaning.specs.Programs.{Program, begins, run_by}
use Rattle.rx_facts_tables.specs.Places.{Frame}
use Rattle.rx_meaning_keeping.specs.Pending.{Pending, arguments}
use Rattle.rx_meaning_keeping.specs.RightOperands.{IsRightOf}
use Rattle.rx_meaning_keeping.specs.Using.{Does}
use Rattle.rx_meaning_keeping.specs.Formed.{Any}
use Rattle.rx_meaning_keeping.specs.Keeping.{IsFunction}
use Rattle.rx_meaning_keeping.specs.Reaching.{Behaves, Reached, Active, Ends, by_action, without_turns, at_no_function, at_other_number, starts_with_other_number, at_no_arm, at_no_value, starting}
use Rattle.rx_meaning_keeping.specs.Strict.{looks_at_lack, then_marks, does_strictly, strictly}
use Rattle.rx_meaning_keeping.specs.Ready.{IsInitial}
use Rattle.rx_meaning_keeping.specs.Lacking.{World, Here}
use Rattle.rx_meaning_keeping.specs.Behind.{goes_behind, LacksBehind, behind, NeverBehind}
use Rattle.rx_meaning_keeping.proofs.Reaching.{reached_is_kept, active_has_world}
use Rattle.rx_meaning_keeping.proofs.Runs.{runs_end_for_reasons}
use Rattle.rx_meaning_keeping.proofs.Behaving.{DoneSo, plain_so, so_done}
use Rattle.rx_meaning_keeping.proofs.Parts.{parted}
use Rattle.rx_meaning_keeping.proofs.Marking.{AnyEnd, J, begins_marked, laws_of}
use Rattle.rx_meaning_keeping.proofs.Direct.{NoLack, direct_lacks_not}

-- ---- the strict way behaves

marks_so : (a : Act) (s : State) (r : Done ℕ) → DoneSo a s r → DoneSo a s (then_marks a r)
marks_so a s (results.ends t e) h = tt
marks_so (Write p t ss) s (gives u v s1) h = h
marks_so (Print t) s (gives u v s1) h = h
marks_so (Test p c) s (gives u v s1) h = h
marks_so (Declare x) s (gives u v s1) h = tt
marks_so (Dead x) s (gives u v s1) h = tt
marks_so (Read m p d) s (gives u v s1) h = tt
marks_so (Borrow k p d) s (gives u v s1) h = tt
marks_so (Call f ts d) s (gives u v s1) h = tt
marks_so (Build w js ts d) s (gives u v s1) h = tt
marks_so (Input d) s (gives u v s1) h = tt
marks_so (Give t) s (gives u v s1) h = tt

strict_so : (a : Act) (vs : List Value) (s : State) → DoneSo a s (does_strictly a vs s)
strict_so a vs s = by (looks_at_lack a vs s)
  where
    by : (b : Bool) → DoneSo a s (if b then results.ends [] (wrong lacks) else then_marks a (does_plainly a vs s))
    by true = tt
    by false = marks_so a s (does_plainly a vs s) (plain_so a vs s)

pub strictly_behaves : Behaves strictly
strictly_behaves a vs s t v s1 e = so_done a.act s (does_strictly a.act vs s) t v s1 (strict_so a.act vs s) e

-- ---- where a run ends for a lack

no_lack_ends : (r : Done ℕ) (t : List ℕ) → NoLack r → r ≡ results.ends t (wrong lacks) → ⊥
no_lack_ends r t h e = (subst NoLack e h) refl

here_none : (ps : List Parameter) → Here (arguments ps [])
here_none [] = tt
here_none (p ∷ ps) = tt

module _ (P : Program) (Fs : ℕ → Frame) (muts : ℕ → List Bool) (all : IsInitial P.functions Fs muts) (given : List ℤ) (n : ℕ) where
  abbrev W0 : World
  W0 = record { memory = [] }

  at_start : (F : Function) → IsFunction P.functions P.main F → J P.functions Fs muts all P.main W0 [] (starting P given n) (arguments F.params [])
  at_start F q = begins_marked P.functions Fs muts all P.main (begins given n) P.main (arguments F.params []) (here_none F.params)

  -- where an action ended it
  of_action : (f : ℕ) (vs : List Value) (s1 : State) (w : List Action) (s : State) (K : Pending) (F : Function) (a : Action) (us : List Value) (K1 : Value → Pending) (t : List ℕ)
      → Active strictly P.functions P.main [] (starting P given n) f vs s1 → Reached strictly P.functions f vs s1 w s K → IsFunction P.functions f F → Does (IsRightOf F) a.act us K K1 → IsWalk F (w ++ a ∷ [])
      → does_strictly a.act us s ≡ results.ends t (wrong lacks) → LacksBehind strictly P.functions P.main [] (starting P given n)
  of_action f vs s1 w s K F a us K1 t act r q d is e = by (goes_behind a.act) refl
    where
      world : (k : World) × ((G : Function) → IsFunction P.functions f G → J P.functions Fs muts all f k [] s1 (arguments G.params vs))
      world = active_has_world strictly AnyEnd P.functions (λ g. Any) World (J P.functions Fs muts all) (laws_of P.functions Fs muts all) act W0 at_start

      kept : J P.functions Fs muts all f world.0 w s K
      kept = reached_is_kept strictly AnyEnd P.functions (λ g. Any) World (J P.functions Fs muts all) (laws_of P.functions Fs muts all) r world.0 world.1

      by : (b : Bool) → goes_behind a.act ≡ b → LacksBehind strictly P.functions P.main [] (starting P given n)
      by true g = behind f vs s1 w s K F a us K1 t act r q d is e g
      by false g = absurd (no_lack_ends (does_strictly a.act us s) t
          (direct_lacks_not (Fs f) (parted (Fs f) (all.sized f)) world.0 F (all.ready f F q) (muts f) w a.node a.act us s K K1 d is (all.initialised f F q w a is) kept g) e)

  of_reasons : (e : Ending) → Ends strictly P.functions P.main [] (starting P given n) e → e ≡ wrong lacks → LacksBehind strictly P.functions P.main [] (starting P given n)
  of_reasons _ (by_action f vs s1 w s K F a us K1 t act r q d is e) h = of_action f vs s1 w s K F a us K1 t act r q d is (subst (λ z. does_strictly a.act us s ≡ results.ends t z) h e)
  of_reasons _ without_turns h = absurd (cc)
  of_reasons _ (at_no_function f vs s1 w s K F m g ts d us act r q pr is none) h = absurd (cc)
  of_reasons _ (at_other_number f vs s1 w s K F G m g ts d us act r q pr is e other) h = absurd (cc)
  of_reasons _ (starts_with_other_number F q other) h = absurd (cc)
  of_reasons _ (at_no_arm f vs s1 w s K F S l us act r q c fi a) h = absurd (cc)
  of_reasons _ (at_no_value f F o x q wk none) h = absurd (cc)

  pub lacks_are_behind : (F : Function) → IsFunction P.functions P.main F → (t : List ℕ) → run_by strictly P given (suc n) ≡ stops t (wrong lacks) → LacksBehind strictly P.functions P.main [] (starting P given n)
  lacks_are_behind F q t e = of_reasons (wrong lacks) (runs_end_for_reasons strictly strictly_behaves P all.formed F q given n t (wrong lacks) e) refl

  pub never_lacks : (F : Function) → IsFunction P.functions P.main F → NeverBehind P.functions → (t : List ℕ) → run_by strictly P given (suc n) ≡ stops t (wrong lacks) → ⊥
  never_lacks F q never t e = by (lacks_are_behind F q t e)
    where
      by : LacksBehind strictly P.functions P.main [] (starting P given n) → ⊥
      by (behind f vs s1 w s K G a us K1 u act r p d is x g) = clash (goes_behind a.act) g (never f G p w a is)
        where
          clash : (b : Bool) → b ≡ true → b ≡ false → ⊥
          clash true g h = cc
          clash false g h = cc
