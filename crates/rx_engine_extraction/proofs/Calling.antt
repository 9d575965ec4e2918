-- The program with the call, and the limits that it is held to: those of parameters and lifetimes, of levels, of parts, and of its text.
use Rattle.std.proofs.Common.{◌≡◌, ℕ, zero, suc, ◌<◌, ◌≤◌, ◌^◌, Bool, true, false, [], ◌∷◌, length, Option, Some, None, slice_get, refl, sym, ap, subst, ◌∙◌}
use Rattle.std.specs.Prelude.{if◌then◌else◌, nat_lt, option_map}
use Rattle.std.proofs.lemmas.Bool.{ltb-true, ltb-false}
use Rattle.rx_core.specs.declared.types.Span.{Span}
use Rattle.rx_core.specs.declared.types.Which.{Which}
use Rattle.rx_core.specs.declared.types.Which.TheVariants as which
use Rattle.rx_tree.specs.Lists.{nth}
use Rattle.rx_tree.specs.Size.{IsNumbered}
use Rattle.rx_tree.specs.Plain as plain
use Rattle.rx_tree.specs.Plain.{Function, ItemTree, ProgramTree}
use Rattle.rx_typed_runs.specs.declared.runs.RunPos.{RunPos}
use Rattle.rx_print_spelling.specs.Formed.{FormedProgram}
use Rattle.rx_print_spelling.specs.Items.{print_program}
use Rattle.rx_hoist_extraction.specs.Plan.{Plan}
use Rattle.rx_hoist_extraction.specs.Extraction.{new_number}
use Rattle.rx_hoist_extraction.specs.Limits.{first_past, count_parameters, count_lifetimes, made_parts}
use Rattle.rx_hoist_made.specs.Counts.{capped}
use Rattle.rx_hoist.specs.Runs.{is_function}
use Rattle.rx_hoist.specs.Limits.{Passed, lifetimes_limit, parameters_limit, limit_in, limit_at, Allowed}
use Rattle.rx_hoist.specs.declared.hoisting.HoistFault.{HoistFault}
use Rattle.rx_hoist.specs.declared.hoisting.HoistFault.TheVariants as hoist_fault
use Rattle.rx_engine_extraction.specs.declared.refusal.Fault.{Fault}
use Rattle.rx_engine_extraction.specs.declared.refusal.Fault.TheVariants as fault
use Rattle.rx_engine_extraction.specs.declared.refusal.Refusal.{Refusal}
use Rattle.rx_engine_extraction.specs.declared.refusal.Refusal.TheVariants as refusal
use Rattle.rx_engine_extraction.specs.Source.{Text}
use Rattle.rx_engine_extraction.specs.Made.{run_of}
use Rattle.rx_engine_extraction.specs.Meeting.{most_lifetimes, parts_in}
use Rattle.rx_engine_extraction.specs.Moving.{called, lifetimes_in, HasFewLifetimes, IsMoved, IsPast, IsUnmoved, limit_told, of_hoist, IsWithin, IsOver, IsNotWithin}
use Rattle.rx_engine_extraction.specs.Levels.{HasFewLevels, HasManyLevels}
use Rattle.rx_engine_extraction.specs.Hoisting.{IsBare}
use Rattle.rx_engine_extraction.proofs.Bare.{extraction_bare}

-- ---- what is told of parts

pub parts_told : (o : Option ℕ) (n : ℕ) → Some n ≡ option_map capped o → (m : ℕ) × (n ≡ capped m) × (o ≡ Some m)
parts_told None n e = absurd (no_number n e)
  where
    no_number : (n : ℕ) → ◌≡◌ {A = Option ℕ} (Some n) None → ⊥
    no_number n e = cc
parts_told (Some m) n e = (m, one_number n (capped m) e, refl)
  where
    one_number : (a b : ℕ) → ◌≡◌ {A = Option ℕ} (Some a) (Some b) → a ≡ b
    one_number a b e = cc

pub parts_none : (o : Option ℕ) → None ≡ option_map capped o → o ≡ None
parts_none None e = refl
parts_none (Some m) e = absurd (some_number (capped m) e)
  where
    some_number : (n : ℕ) → ◌≡◌ {A = Option ℕ} None (Some n) → ⊥
    some_number n e = cc

-- ---- the limits of levels, parts and bytes, by what is counted

module _ (T : Text) (r : RunPos) (pl : Plan) (q : ProgramTree) where
  pub many_levels : (k : ℕ) → ((n : ℕ) × (k ≡ capped n) × HasManyLevels T.bytes T.tokens T.program (run_of r) pl n) → (f : Fault) → f ≡ limit_told which.Levels k → IsNotWithin T r pl q f
  many_levels k h f e = subst (λ (x : Fault). IsNotWithin T r pl q x) (sym e) h

  module _ (levels : HasFewLevels T.bytes T.tokens T.program (run_of r) pl) where
    pub many_parts : (n : ℕ) → Some n ≡ option_map capped (first_past 4096 (made_parts T.sizes pl)) → (f : Fault) → f ≡ limit_told which.Parts n → IsNotWithin T r pl q f
    many_parts n h f e = let x = parts_told (first_past 4096 (made_parts T.sizes pl)) n h in
        subst (λ (x : Fault). IsNotWithin T r pl q x) (sym e) (x.0, x.1, x.2, levels)

    module _ (parts : None ≡ option_map capped (first_past 4096 (made_parts T.sizes pl))) (n : ℕ) (long : n ≡ length (print_program q)) where
      pub many_bytes : 2 ^ 32 ≤ n → (f : Fault) → f ≡ limit_told which.Bytes n → IsNotWithin T r pl q f
      many_bytes h f e = subst (λ (x : Fault). IsNotWithin T r pl q x) (sym e)
          (long, subst (λ (k : ℕ). 2 ^ 32 ≤ k) long h, levels, parts_none (first_past 4096 (made_parts T.sizes pl)) parts)

      pub all_within : n < 2 ^ 32 → IsWithin T r pl q
      all_within h = record {
        levels = levels;
        parts = parts_none (first_past 4096 (made_parts T.sizes pl)) parts;
        short = subst (λ (k : ℕ). k < 2 ^ 32) long h;
      }

got : (p : ProgramTree) (n : ℕ) → slice_get p n ≡ nth p n
got [] n = refl
got (i ∷ is) zero = refl
got (i ∷ is) (suc n) = got is n

function_of : (o : Option ItemTree) → is_function o ≡ true → (s : Span) × (f : Function) × (o ≡ Some (plain.function_item s f))
function_of None e = absurd (cc)
function_of (Some (plain.function_item s f)) e = (s, f, refl)
function_of (Some (plain.rt_item s r)) e = absurd (cc)
function_of (Some (plain.struct_item s x)) e = absurd (cc)
function_of (Some (plain.enum_item s x)) e = absurd (cc)

pub function_there : (p : ProgramTree) (n : ℕ) → is_function (slice_get p n) ≡ true → (s : Span) × (f : Function) × (nth p n ≡ Some (plain.function_item s f))
function_there p n e = let h = function_of (slice_get p n) e in (h.0, h.1, sym (got p n) ∙ h.2)

some_same : {A : Type 0} (a b : A) → ◌≡◌ {A = Option A} (Some a) (Some b) → a ≡ b
some_same a b e = cc

none_some : {A : Type 0} (a : A) → ◌≡◌ {A = Option A} None (Some a) → ⊥
none_some a e = cc

some_none : {A : Type 0} (a : A) → ◌≡◌ {A = Option A} (Some a) None → ⊥
some_none a e = cc

module _ (T : Text) (r : RunPos) (pl : Plan) where
  abbrev own : ℕ
  own = lifetimes_in T r pl

  -- ---- what none passes

  few_lifetimes_by : (b : Bool) → nat_lt 128 own ≡ b → (if◌then◌else◌ {A = Option Passed} b (Some (which.Lifetimes, capped own)) None) ≡ None → own ≤ 128
  few_lifetimes_by true e h = absurd (some_none (which.Lifetimes, capped own) h)
  few_lifetimes_by false e h = ltb-false 128 own e

  few_by : (b : Bool) → nat_lt 64 (count_parameters pl) ≡ b → (if b then Some (which.Parameters, capped (count_parameters pl)) else lifetimes_limit own) ≡ None
      → HasFewLifetimes T r pl
  few_by true e h = absurd (some_none (which.Parameters, capped (count_parameters pl)) h)
  few_by false e h = record { parameters = ltb-false 64 (count_parameters pl) e; lifetimes = few_lifetimes_by (nat_lt 128 own) refl h }

  -- ---- what is the first past its limit

  abbrev Told : Passed → Type 0
  Told p = IsPast T r pl (refusal.Limit p.0 p.1)

  past_lifetimes_by : count_parameters pl ≤ 64 → (b : Bool) → nat_lt 128 own ≡ b → (p : Passed)
      → (if◌then◌else◌ {A = Option Passed} b (Some (which.Lifetimes, capped own)) None) ≡ Some p → Told p
  past_lifetimes_by few true e p h = subst Told (some_same (which.Lifetimes, capped own) p h) (refl, ltb-true 128 own e, few)
  past_lifetimes_by few false e p h = absurd (none_some p h)

  past_by : (b : Bool) → nat_lt 64 (count_parameters pl) ≡ b → (p : Passed)
      → (if b then Some (which.Parameters, capped (count_parameters pl)) else lifetimes_limit own) ≡ Some p → Told p
  past_by true e p h = subst Told (some_same (which.Parameters, capped (count_parameters pl)) p h) (refl, ltb-true 64 (count_parameters pl) e)
  past_by false e p h = past_lifetimes_by (ltb-false 64 (count_parameters pl) e) (nat_lt 128 own) refl p h

  module _ (s : Span) (f : Function) (there : nth T.program r.function ≡ Some (plain.function_item s f)) where
    limit_is : limit_at T.program (run_of r) pl ≡ parameters_limit own pl
    limit_is = ap (limit_in T.program (run_of r) pl) (got T.program r.function ∙ there)
        ∙ sym (ap (λ o. parameters_limit (count_lifetimes T.program pl (parts_in T.program pl (run_of r) o)) pl) there)

    few_of : limit_at T.program (run_of r) pl ≡ None → HasFewLifetimes T r pl
    few_of e = few_by (nat_lt 64 (count_parameters pl)) refl (sym limit_is ∙ e)

    allowed_by : (o : Option Passed) → limit_at T.program (run_of r) pl ≡ o → (w : Which) (n : ℕ) → Allowed o (hoist_fault.Limit w n) → IsPast T r pl (refusal.Limit w n)
    allowed_by None e w n h = absurd h
    allowed_by (Some p) e w n h = subst (λ (x : Which). IsPast T r pl (refusal.Limit x n)) (sym h.0)
        (subst (λ (y : ℕ). IsPast T r pl (refusal.Limit p.0 y)) (sym h.1) (past_by (nat_lt 64 (count_parameters pl)) refl p (sym limit_is ∙ e)))

    pub unhoisted : (e : HoistFault) → Allowed (limit_at T.program (run_of r) pl) e → IsUnmoved T r pl (of_hoist e)
    unhoisted (hoist_fault.Limit w n) h = allowed_by (limit_at T.program (run_of r) pl) refl w n h
    unhoisted hoist_fault.OutOfMemory h = tt

    -- ---- with the levels, parts and bytes of the program

    module _ (none : limit_at T.program (run_of r) pl ≡ None) (q : ProgramTree) (is : q ≡ called T r pl) where
      abbrev whole : ProgramTree
      whole = called T r pl

      few : HasFewLifetimes T r pl
      few = few_of none

      over : (x : Refusal) → IsOver T r pl whole x → IsPast T r pl x
      over (refusal.Limit which.Levels n) h = (h.0, h.1, h.2, few)
      over (refusal.Limit which.Parts n) h = (h.0, h.1, h.2, h.3, few)
      over (refusal.Limit which.Bytes n) h = (h.0, h.1, record { few = few; levels = h.2; parts = h.3 })
      over (refusal.Limit which.Sites n) h = absurd h
      over (refusal.Limit which.Positions n) h = absurd h
      over (refusal.Limit which.Parameters n) h = absurd h
      over (refusal.Limit which.Lifetimes n) h = absurd h
      over refusal.NotARun h = absurd h
      over refusal.BadName h = absurd h
      over refusal.NameTaken h = absurd h
      over (refusal.Unreachable a) h = absurd h
      over refusal.Endless h = absurd h
      over (refusal.MixedInit a) h = absurd h
      over (refusal.PartlyMoved a) h = absurd h
      over (refusal.Shadowed a) h = absurd h
      over (refusal.NotMut a) h = absurd h
      over (refusal.Aliased a) h = absurd h
      over (refusal.Unfit e) h = absurd h
      over (refusal.Region i l k) h = absurd h
      over (refusal.Loan a b) h = absurd h
      over refusal.Unconfirmed h = absurd h

      not_within : (x : Fault) → IsNotWithin T r pl whole x → IsUnmoved T r pl x
      not_within (fault.Refused x) h = over x h
      not_within fault.OutOfMemory h = tt
      not_within (fault.Syntax e) h = absurd h
      not_within (fault.NotAccepted e) h = absurd h

      pub outside : (x : Fault) → IsNotWithin T r pl q x → IsUnmoved T r pl x
      outside x h = not_within x (subst (λ (y : ProgramTree). IsNotWithin T r pl y x) is h)

      pub moved_by : ((p : ProgramTree) → FormedProgram p → length (print_program p) < 2 ^ 32 → IsNumbered p)
          → (lifetimes_in T r pl ≤ most_lifetimes → FormedProgram whole) → (n : ℕ) → n ≡ new_number (run_of r) pl → IsWithin T r pl q → IsMoved T r pl q n
      moved_by law told n number w = let v = subst (λ (y : ProgramTree). IsWithin T r pl y) is w in
          let formed = told few.lifetimes in
          let bare = extraction_bare T.program (run_of r) pl s f there in record {
            few = record { few = few; levels = v.levels; parts = v.parts };
            short = v.short;
            program = is;
            item = number;
            bare = subst (λ (y : ProgramTree). IsBare y n) (sym is) (subst (λ (m : ℕ). IsBare whole m) (sym number) bare);
            formed = subst (λ (y : ProgramTree). FormedProgram y) (sym is) formed;
            numbered = subst (λ (y : ProgramTree). IsNumbered y) (sym is) (law whole formed v.short);
          }
