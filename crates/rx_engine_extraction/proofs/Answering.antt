-- From what is hoisted and how it ends to the verdict.
use Rattle.std.proofs.Common.{◌≡◌, ◌≢◌, inl, inr, ℕ, ◌+◌, ◌<◌, ◌≤◌, true, List, [], ◌∷◌, Some, Result, Ok, Err, slice_get, refl, sym, subst, ap, ◌∙◌}
use Rattle.rx_core.specs.declared.types.Bound.{Bound}
use Rattle.rx_core.specs.declared.types.Span.{Span}
use Rattle.rx_core.specs.declared.types.Which.TheVariants as which
use Rattle.rx_tree.specs.Lists.{nth, Every}
use Rattle.rx_tree.specs.Plain as plain
use Rattle.rx_tree.specs.Plain.{Function, ProgramTree}
use Rattle.rx_print_spelling.specs.Formed.{FormedProgram}
use Rattle.rx_typeck_typed.specs.declared.typed.Typed.{Typed}
use Rattle.rx_typeck_typed.specs.declared.typed.TypedFn.{TypedFn}
use Rattle.rx_check.specs.declared.fault.CheckFault.{CheckFault}
use Rattle.rx_check.specs.declared.fault.CheckFault.TheVariants as check_fault
use Rattle.rx_check.specs.Causes.{Causes, PassCauses, AreOne}
use Rattle.rx_check.specs.Passes.{Fronted, Accepted}
use Rattle.rx_check.specs.declared.loans.LoanFault.TheVariants as loan_fault
use Rattle.rx_lower_lifetimes.specs.declared.whole.LowerFault.TheVariants as lower_fault
use Rattle.rx_hoist.specs.Runs.{is_function}
use Rattle.rx_hoist_extraction.specs.Plan.{Bounds, Plan}
use Rattle.rx_hoist_extraction.specs.Extraction.{added, extraction, new_number}
use Rattle.rx_repair.specs.Repaired.{repaired}
use Rattle.rx_repair.proofs.Extracting.{repaired_extraction}
use Rattle.rx_repair.proofs.Once.{all_distinct}
use Rattle.rx_engine_extraction.specs.declared.refusal.Answer.{Answer}
use Rattle.rx_engine_extraction.specs.declared.refusal.Fault.{Fault}
use Rattle.rx_engine_extraction.specs.declared.refusal.Fault.TheVariants as fault
use Rattle.rx_engine_extraction.specs.declared.refusal.Refusal.{Refusal}
use Rattle.rx_engine_extraction.specs.declared.refusal.Refusal.TheVariants as refusal
use Rattle.rx_engine_extraction.specs.Source.{Text, IsText, Wish}
use Rattle.rx_engine_extraction.specs.Case.{Case}
use Rattle.rx_engine_extraction.specs.Made.{run_of, named, hoisted, new_item, named_bounds, extracted}
use Rattle.rx_engine_extraction.specs.Rendering.{Renders}
use Rattle.rx_engine_extraction.specs.Conditions as condition
use Rattle.rx_engine_extraction.specs.Conditions.{Condition, before}
use Rattle.rx_engine_extraction.specs.Confirmed.{IsConfirmed, Confirmed}
use Rattle.rx_engine_extraction.specs.Confirming.{IsJudged}
use Rattle.rx_engine_extraction.specs.Meeting.{Holds, Fits, IsUnfit, IsAnswer, most_sites, most_bytes}
use Rattle.rx_engine_extraction.specs.Failing.{Fails}
use Rattle.rx_engine_extraction.specs.Promise.{Stands, Keeps}
use Rattle.rx_engine_extraction.specs.Verdict.{RefusedBy, IsRefused, Answers}
use Rattle.rx_engine_extraction.specs.Ending.{IsPastLimit, IsLong, IsKept, IsAnswered, IsEnded, IsFinished}
use Rattle.rx_engine_extraction.specs.Hoisting.{IsHoisted}
use Rattle.rx_engine_extraction.proofs.Ends.{block_function, all_named, pass_cause}
use Rattle.rx_engine_extraction.proofs.Forming.{function_there}
use Rattle.rx_engine_extraction.proofs.Rendered.{rendering_read}

-- ---- what is met

behind : (P : Condition → Type 0) (x : Condition) (l : List Condition) → Every P (x ∷ l) → Every P l
behind P x l h = h.1

first_met : (P : Condition → Type 0) (x : Condition) (l : List Condition) → Every P (x ∷ l) → P x
first_met P x l h = h.0

module _ (T : Text) (w : Wish) (d : Case) (stands : Stands T w d condition.fits) where
  abbrev H : Condition → Type 0
  H = Holds T w d

  at_parts : Stands T w d condition.few_parts
  at_parts = behind H condition.few_parts (before condition.few_parts) (behind H condition.few_numbers (before condition.few_numbers) stands)

  at_unmoved : Stands T w d condition.unmoved
  at_unmoved = behind H condition.unmoved (before condition.unmoved) (behind H condition.few_parameters (before condition.few_parameters)
      (behind H condition.few_lifetimes (before condition.few_lifetimes) (behind H condition.few_levels (before condition.few_levels) at_parts)))

  at_whole : Stands T w d condition.whole
  at_whole = behind H condition.whole (before condition.whole) (behind H condition.visible (before condition.visible) (behind H condition.passable (before condition.passable) at_unmoved))

  at_reached : Stands T w d condition.reached
  at_reached = behind H condition.reached (before condition.reached) (behind H condition.left (before condition.left) (behind H condition.settled (before condition.settled) at_whole))

  pub met_selects : Holds T w d condition.selects
  met_selects = first_met H condition.selects [] (behind H condition.word (before condition.word) (behind H condition.unused (before condition.unused) at_reached))

-- ---- what is hoisted, by a plan

module _ (T : Text) (w : Wish) (d : Case) (pl : Plan) (e : pl ≡ named T w d) (p : ProgramTree) (n : ℕ) (h : IsHoisted T w d p n) where
  -- the run is selected, so its item is a function
  pub hoisted_function : is_function (slice_get T.program d.run.function) ≡ true
  hoisted_function =
      let r = met_selects T w d h.stands in let at = block_function T.program d.run.function d.run.block.path r.block r.at in
      function_there T.program d.run.function at.0 at.1 at.2

  pub hoisted_program : p ≡ extraction T.program (run_of d.run) pl []
  hoisted_program = h.program ∙ ap (λ (k : Plan). extraction T.program (run_of d.run) k []) (sym e)

  pub hoisted_item : n ≡ new_number (run_of d.run) pl
  hoisted_item = h.item ∙ ap (λ (k : Plan). new_number (run_of d.run) k) (sym e)

-- ---- faults of one program

unfit_told : (e : CheckFault) → IsUnfit e → e ≢ check_fault.OutOfMemory
unfit_told e u q = subst (λ x. IsUnfit x) q u

not_one : (e : CheckFault) (x : _) → IsUnfit e → AreOne e (check_fault.Lower x) → ⊥
not_one (check_fault.Name e) x u h = h
not_one (check_fault.Types e) x u h = h
not_one (check_fault.Cover e) x u h = h
not_one (check_fault.Lower e) x u h = u
not_one (check_fault.Init e) x u h = h
not_one (check_fault.Region i l k) x u h = h
not_one (check_fault.Loan e) x u h = h
not_one check_fault.OutOfMemory x u h = u

lower_told : (f s l : ℕ) → check_fault.Lower (lower_fault.TooLarge f s l) ≢ check_fault.OutOfMemory
lower_told f s l e = cc

same_sites : (f s l g t m : ℕ) → lower_fault.TooLarge f s l ≡ lower_fault.TooLarge g t m → s ≡ t
same_sites f s l g t m e = cc

region_told : (i l k : ℕ) → check_fault.Region i l k ≢ check_fault.OutOfMemory
region_told i l k e = cc

loan_told : (a b : Span) → check_fault.Loan (loan_fault.Loan a b) ≢ check_fault.OutOfMemory
loan_told a b e = cc

module _ (fronted : (p : ProgramTree) (e : CheckFault) → Fronted p → PassCauses e p → e ≡ check_fault.OutOfMemory)
    (accepted : (p : ProgramTree) (e : CheckFault) → Accepted p → Causes e p → e ≡ check_fault.OutOfMemory)
    (one : (p : ProgramTree) (e f : CheckFault) → e ≢ check_fault.OutOfMemory → f ≢ check_fault.OutOfMemory → Causes e p → Causes f p → AreOne e f) where
  none_unfit : (p : ProgramTree) → Fronted p → (e : CheckFault) → IsUnfit e → PassCauses e p → ⊥
  none_unfit p fr e u h = unfit_told e u (fronted p e fr h)

  none_large : (p : ProgramTree) → Fronted p → (f s l : ℕ) → PassCauses (check_fault.Lower (lower_fault.TooLarge f s l)) p → s ≤ most_sites
  none_large p fr f s l h = absurd (lower_told f s l (fronted p (check_fault.Lower (lower_fault.TooLarge f s l)) fr h))

  large_fits : (p : ProgramTree) (f s l : ℕ) → PassCauses (check_fault.Lower (lower_fault.TooLarge f s l)) p → (e : CheckFault) → IsUnfit e → PassCauses e p → ⊥
  large_fits p f s l h e u k = not_one e (lower_fault.TooLarge f s l) u
      (one p e (check_fault.Lower (lower_fault.TooLarge f s l)) (unfit_told e u) (lower_told f s l) (pass_cause e p k) h)

  large_once : (p : ProgramTree) (f s l g t m : ℕ) → PassCauses (check_fault.Lower (lower_fault.TooLarge f s l)) p → PassCauses (check_fault.Lower (lower_fault.TooLarge g t m)) p → s ≡ t
  large_once p f s l g t m h k = same_sites f s l g t m
      (one p (check_fault.Lower (lower_fault.TooLarge f s l)) (check_fault.Lower (lower_fault.TooLarge g t m)) (lower_told f s l) (lower_told g t m) h k)

  none_before : (p : ProgramTree) → Fronted p → (e : CheckFault) → e ≢ check_fault.OutOfMemory → PassCauses e p → ⊥
  none_before p fr e told h = told (fronted p e fr h)

  accepted_fronted : (p : ProgramTree) → Accepted p → Fronted p
  accepted_fronted p a = (a.0, a.1.front)

  none_lacking : (p : ProgramTree) → Accepted p → (i l k : ℕ) → Causes (check_fault.Region i l k) p → ⊥
  none_lacking p a i l k h = region_told i l k (accepted p (check_fault.Region i l k) a h)

  lends_first : (p : ProgramTree) (a b : Span) → Causes (check_fault.Loan (loan_fault.Loan a b)) p → (i l k : ℕ) → Causes (check_fault.Region i l k) p → ⊥
  lends_first p a b h i l k m = one p (check_fault.Region i l k) (check_fault.Loan (loan_fault.Loan a b)) (region_told i l k) (loan_told a b) m h

  module _ (T : Text) (w : Wish) (c : Case) (stands : Stands T w c condition.fits) where
    refused : (d : Case) (x : Condition) (r : Refusal) → Stands T w d x → Fails T w d x r → RefusedBy T w r
    refused d x r s f = record { case = d; condition = x; stands = s; fails = f }

    abbrev bare : ProgramTree
    bare = hoisted T w c

    -- ---- the program with the call

    past_limit : (r : Refusal) → IsPastLimit bare r → RefusedBy T w r
    past_limit (refusal.Unfit e) h = refused c condition.fits (refusal.Unfit e) stands (e, refl, h.0, h.1)
    past_limit (refusal.Limit which.Sites n) h = let large = h.2 in
        refused c condition.few_sites (refusal.Limit which.Sites n) (large_fits bare large.0 n h.0 large.1, stands) (n, h.0, refl, h.1, large)
    past_limit (refusal.Limit which.Positions n) h = let large = h.2 in
        refused c condition.few_positions (refusal.Limit which.Positions n)
        ((λ f s l k. subst (λ m. m ≤ most_sites) (large_once bare large.0 h.0 n f s l large.1 k) h.1), (large_fits bare large.0 h.0 n large.1, stands))
        (h.0, n, refl, h.1, large)
    past_limit (refusal.Limit which.Parameters n) h = absurd h
    past_limit (refusal.Limit which.Lifetimes n) h = absurd h
    past_limit (refusal.Limit which.Levels n) h = absurd h
    past_limit (refusal.Limit which.Parts n) h = absurd h
    past_limit (refusal.Limit which.Bytes n) h = absurd h
    past_limit refusal.NotARun h = absurd h
    past_limit refusal.BadName h = absurd h
    past_limit refusal.NameTaken h = absurd h
    past_limit (refusal.Unreachable s) h = absurd h
    past_limit refusal.Endless h = absurd h
    past_limit (refusal.MixedInit s) h = absurd h
    past_limit (refusal.PartlyMoved s) h = absurd h
    past_limit (refusal.Shadowed s) h = absurd h
    past_limit (refusal.NotMut s) h = absurd h
    past_limit (refusal.Aliased s) h = absurd h
    past_limit (refusal.Region i l k) h = absurd h
    past_limit (refusal.Loan a b) h = absurd h
    past_limit refusal.Unconfirmed h = absurd h

    -- ---- with bounds

    module _ (t : Typed) (g : TypedFn) (bs : List Bound) (fits : Fits bare (new_item T w c) t g bs)
        (same : repaired bare (new_item T w c) bs ≡ extracted T w (record c { types = t; made = g; bounds = bs })) where
      abbrev bound : Case
      bound = record c { types = t; made = g; bounds = bs }

      abbrev whole : ProgramTree
      whole = extracted T w bound

      fronted_bare : Fronted bare
      fronted_bare = (t, fits.front)

      -- with its text
      abbrev written : List ℕ → Case
      written text = record bound { text = text }

      long_bytes : (n : ℕ) (h : IsLong (IsAnswer T w bound) n) → Fails T w (written h.0) condition.few_bytes (refusal.Limit which.Bytes n)
      long_bytes n h = (ap (λ m. refusal.Limit which.Bytes m) h.2, subst (λ m. most_bytes < m) h.2 h.3)

      fitted : Stands T w bound condition.fits_bounded
      fitted = (fits, (none_large bare fronted_bare, (none_unfit bare fronted_bare, stands)))

      all_met : Accepted whole → Stands T w bound condition.readable
      all_met a = (a, (none_lacking whole a, (none_before whole (accepted_fronted whole a), fitted)))

      misfit : (r : Refusal) → IsKept (IsAnswer T w bound) whole r → RefusedBy T w r
      misfit (refusal.Unfit e) h = refused bound condition.fits_bounded (refusal.Unfit e) fitted (e, refl, h.0, h.1)
      misfit (refusal.Region i l k) h = refused bound condition.known (refusal.Region i l k) (none_before whole (h.types, h.front), fitted) (i, l, k, refl, h)
      misfit (refusal.Loan a b) h = refused bound condition.legal (refusal.Loan a b)
          (lends_first whole a b h, (none_before whole (h.types, h.front), fitted)) (a, b, refl, h)
      misfit (refusal.Limit which.Bytes n) h = refused (written h.1.0) condition.few_bytes (refusal.Limit which.Bytes n)
          (h.1.1, all_met h.0) (long_bytes n h.1)
      misfit refusal.Unconfirmed h = refused bound condition.readable refusal.Unconfirmed (all_met h.0) (refl, h.1)
      misfit (refusal.Limit which.Sites n) h = absurd h
      misfit (refusal.Limit which.Positions n) h = absurd h
      misfit (refusal.Limit which.Parameters n) h = absurd h
      misfit (refusal.Limit which.Lifetimes n) h = absurd h
      misfit (refusal.Limit which.Levels n) h = absurd h
      misfit (refusal.Limit which.Parts n) h = absurd h
      misfit refusal.NotARun h = absurd h
      misfit refusal.BadName h = absurd h
      misfit refusal.NameTaken h = absurd h
      misfit (refusal.Unreachable s) h = absurd h
      misfit refusal.Endless h = absurd h
      misfit (refusal.MixedInit s) h = absurd h
      misfit (refusal.PartlyMoved s) h = absurd h
      misfit (refusal.Shadowed s) h = absurd h
      misfit (refusal.NotMut s) h = absurd h
      misfit (refusal.Aliased s) h = absurd h

  -- ---- from the beginning

  module _ (bytes : List ℕ) (T : Text) (w : Wish) (is : IsText bytes T) (made : Case) (p : ProgramTree) (n : ℕ) (h : IsHoisted T w made p n) where
    abbrev bare_of : ProgramTree
    bare_of = hoisted T w made

    abbrev place : ℕ
    place = new_item T w made

    abbrev new : ℕ
    new = added (named T w made)

    -- the run is selected, so its item is a function
    selected : (s : Span) × (f : Function) × (nth T.program made.run.function ≡ Some (plain.function_item s f))
    selected = let r = met_selects T w made h.stands in block_function T.program made.run.function made.run.block.path r.block r.at

    formed_bare : FormedProgram bare_of
    formed_bare = subst (λ x. FormedProgram x) h.program h.formed

    -- which texts it may be, with bounds
    abbrev rendered : Bounds → List ℕ → Type 0
    rendered bs text = Renders T.bytes T.tokens T.program (run_of made.run) (named T w made) bs text

    module _ (t : Typed) (g : TypedFn) (bs : List Bound) (fits : Fits bare_of place t g bs) where
      abbrev with : Case
      with = record made { types = t; made = g; bounds = bs }

      same_whole : repaired bare_of place bs ≡ extracted T w with
      same_whole = repaired_extraction T.program (run_of made.run) (named T w made) bs selected.0 selected.1 selected.2
          (all_distinct bare_of fits.front.names fits.front.meant.names_are place) (all_named bare_of place formed_bare)

      abbrev texts : List ℕ → Type 0
      texts = IsAnswer T w with

      module _ (a : Answer) (x : IsAnswered texts (repaired bare_of place bs) bs a) where
        -- and this text
        abbrev whole_case : Case
        whole_case = record with { text = a.text }

        y : IsAnswered texts (extracted T w with) bs a
        y = subst (λ q. IsAnswered texts q bs a) same_whole x

        -- what is found of the answer's text is found of the extraction's
        confirmed_with : IsConfirmed T made place new a.text → Confirmed T w whole_case
        confirmed_with c = record { program = c.program; parses = c.parses; types = c.types; accepted = c.accepted; found = c.found }

        confirmed_by : Confirmed T w whole_case → IsConfirmed T made place new a.text
        confirmed_by c = record { program = c.program; parses = c.parses; types = c.types; accepted = c.accepted; found = c.found }

        standing : Stands T w whole_case condition.confirmed
        standing = (y.printed.short, (y.printed.text, all_met T w made h.stands t g bs fits same_whole y.accepted))

        keeps : IsConfirmed T made place new a.text → Keeps bytes w a.text a.bounds
        keeps c = let read = rendering_read T.bytes T.tokens T.program (run_of made.run) (named T w made) (named_bounds T w with)
            a.text y.printed.text in record {
              extracts = record {
                text = T;
                is_text = is;
                case = whole_case;
                stands = standing;
                last = confirmed_with c;
              };
              rendered = refl;
              needed = y.printed.bounds;
              program = read.0;
              parses = read.1;
              same = read.2;
              accepted = y.accepted;
            }

        unconfirmed : (IsConfirmed T made place new a.text → ⊥) → RefusedBy T w refusal.Unconfirmed
        unconfirmed c = record { case = whole_case; condition = condition.confirmed; stands = standing; fails = (refl, λ k. c (confirmed_by k)) }

      kept : (r : Refusal) → IsKept texts (repaired bare_of place bs) r → RefusedBy T w r
      kept r x = misfit T w made h.stands t g bs fits same_whole r (subst (λ p. IsKept texts p r) same_whole x)

    refused_with : (r : Refusal) → RefusedBy T w r → IsRefused bytes w r
    refused_with r x = record { text = T; is_text = is; refused = x }

    refused_after : (a : Answer) → IsEnded rendered bare_of place a → (r : Refusal) → IsJudged T made place new a (Err (fault.Refused r)) → Answers bytes w (Err (fault.Refused r))
    refused_after a x refusal.Unconfirmed j = refused_with refusal.Unconfirmed (unconfirmed x.types x.made x.bounds x.fits a x.answered j)
    refused_after a x refusal.NotARun j = absurd j
    refused_after a x refusal.BadName j = absurd j
    refused_after a x refusal.NameTaken j = absurd j
    refused_after a x (refusal.Unreachable s) j = absurd j
    refused_after a x refusal.Endless j = absurd j
    refused_after a x (refusal.MixedInit s) j = absurd j
    refused_after a x (refusal.PartlyMoved s) j = absurd j
    refused_after a x (refusal.Shadowed s) j = absurd j
    refused_after a x (refusal.NotMut s) j = absurd j
    refused_after a x (refusal.Aliased s) j = absurd j
    refused_after a x (refusal.Limit v m) j = absurd j
    refused_after a x (refusal.Unfit e) j = absurd j
    refused_after a x (refusal.Region i l k) j = absurd j
    refused_after a x (refusal.Loan b c) j = absurd j

    judged : (a : Answer) → IsEnded rendered bare_of place a → (r : Result Answer Fault) → IsJudged T made place new a r → Answers bytes w r
    judged a x (Ok b) j = subst (λ (z : Answer). Keeps bytes w z.text z.bounds) (sym j.0) (keeps x.types x.made x.bounds x.fits a x.answered j.1)
    judged a x (Err (fault.Refused r)) j = refused_after a x r j
    judged a x (Err fault.OutOfMemory) j = tt
    judged a x (Err (fault.Syntax e)) j = absurd j
    judged a x (Err (fault.NotAccepted e)) j = absurd j

    failed : (f : Fault) → IsFinished rendered bare_of place (Err f) → Answers bytes w (Err f)
    failed (fault.Refused r) (inl x) = refused_with r (past_limit T w made h.stands r x)
    failed (fault.Refused r) (inr x) = refused_with r (kept x.types x.made x.bounds x.fits r x.kept)
    failed fault.OutOfMemory x = tt
    failed (fault.Syntax e) x = absurd x
    failed (fault.NotAccepted e) x = absurd x

    finished_there : (pl : Plan) → pl ≡ named T w made → (r : Result Answer Fault) → IsFinished (Renders T.bytes T.tokens T.program (run_of made.run) pl) p n r
        → IsFinished rendered bare_of place r
    finished_there pl e r x =
        subst (λ (k : Plan). IsFinished (Renders T.bytes T.tokens T.program (run_of made.run) k) bare_of place r) e
        (subst (λ m. IsFinished (Renders T.bytes T.tokens T.program (run_of made.run) pl) bare_of m r) h.item
        (subst (λ q. IsFinished (Renders T.bytes T.tokens T.program (run_of made.run) pl) q n r) h.program x))

    -- by what is found of the answer
    pub concluded : (pl : Plan) → pl ≡ named T w made → (a : Answer) → IsFinished (Renders T.bytes T.tokens T.program (run_of made.run) pl) p n (Ok a) → (r : Result Answer Fault) → ((m : ℕ) → n ≡ made.run.function + m → IsJudged T made n m a r) → Answers bytes w r
    concluded pl e a x r j = judged a (finished_there pl e (Ok a) x) r (subst (λ k. IsJudged T made k new a r) h.item (j new h.item))

    pub stopped : (pl : Plan) → pl ≡ named T w made → (f : Fault) → IsFinished (Renders T.bytes T.tokens T.program (run_of made.run) pl) p n (Err f) → Answers bytes w (Err f)
    stopped pl e f x = failed f (finished_there pl e (Err f) x)
