-- Whole programs: the text with the marks of its run runs as the text, and the answer is related to it.
use Rattle.std.proofs.Common.{◌≡◌, ◌⊎◌, inl, inr, ◌≤◌, ℕ, zero, suc, ◌*◌, ℤ, Bool, true, false, nat_eq, List, [], ◌∷◌, Option, Some, refl, sym, ap, ◌∙◌, subst, arith, eqb-true, true≢false}
use Rattle.rx_typed.specs.Tree.{Function}
use Rattle.rx_exits_plan.specs.Points.{enters}
use Rattle.rx_exits_plan.specs.Asked.{Asked}
use Rattle.rx_exits_plan.specs.Plan.{Plan}
use Rattle.rx_modes_policy.specs.declared.uses.Mode.{Mode}
use Rattle.rx_meaning.specs.Values.{element, with_element}
use Rattle.rx_meaning.specs.Programs.{Program, run, UpTo}
use Rattle.rx_engine_simulation.specs.Turns.{Allowance}
use Rattle.rx_engine_simulation.specs.Openings.{Openings, no_openings}
use Rattle.rx_engine_simulation.specs.Programs.{Untouched, facts_of, LikeFunction, LikeEntry, functions, neither}
use Rattle.rx_engine_simulation.specs.Called.{calls_of, a_turn, WithCall}
use Rattle.rx_engine_simulation.specs.Marks.{AreWritten}
use Rattle.rx_engine_simulation.specs.Marking.{no_one, facts_alone, without_turns}
use Rattle.rx_engine_simulation.specs.Astray.{FindsReferences}
use Rattle.rx_engine_simulation.proofs.Declaring.{eq_self}
use Rattle.rx_engine_simulation.proofs.Rightly.{answer_runs_so, text_runs_so}
use Rattle.rx_engine_related.specs.AboutRun.{special_of, about_run}
use Rattle.rx_engine_related.specs.Running.{running_of}
use Rattle.rx_engine_related.specs.Reading.{ReadingEntry, reading_run, as_it_stands, not_there}
use Rattle.rx_engine_related.specs.Premises.{known_of}
use Rattle.rx_engine_related.proofs.Choosing as choosing
use Rattle.rx_engine_related.proofs.ReadingRun.{reading_alike}
use Rattle.rx_engine_related.proofs.Runs.{running_param_written, running_untouched}
use Rattle.rx_engine_related.specs.ByForm.{by_form, RelatedFunction, SameEntry, same_function, no_function, IsItself, is_itself, is_none, EachIsItself}
use Rattle.rx_engine_related.specs.Standing.{the_call}
use Rattle.rx_engine_related.specs.Extracts.{with_its_marks, Extracts}
use Rattle.rx_engine_related.proofs.Weaker.{weaker_exp, weaker_params}
use Rattle.rx_engine_related.specs.Had.{Had}
use Rattle.rx_engine_related.proofs.Loops.{Held, held_of}
use Rattle.rx_engine_related.proofs.Standing.{stands_so}
use Rattle.rx_engine_related.proofs.Blockwise.{marked_or_plain}

-- ---- lists with another element

pub put_same : {A : Type 0} (l : List A) (i : ℕ) (a b : A) → element l i ≡ Some a → element (with_element l i b) i ≡ Some b
put_same [] i a b e = absurd (cc)
put_same (c ∷ l) zero a b e = refl
put_same (c ∷ l) (suc i) a b e = put_same l i a b e

pub put_other : {A : Type 0} (l : List A) (i f : ℕ) (b : A) → (f ≡ i → ⊥) → element (with_element l i b) f ≡ element l f
put_other [] i f b n = refl
put_other (c ∷ l) zero zero b n = absurd (n refl)
put_other (c ∷ l) zero (suc f) b n = refl
put_other (c ∷ l) (suc i) zero b n = refl
put_other (c ∷ l) (suc i) (suc f) b n = put_other l i f b (λ e. n (ap suc e))

-- at one number, and at each other
pub at_each : (Q : ℕ → Type 0) (i : ℕ) → Q i → ((f : ℕ) → (f ≡ i → ⊥) → Q f) → (f : ℕ) → Q f
at_each Q i q others f = by (nat_eq f i) refl
  where
    by : (b : Bool) → nat_eq f i ≡ b → Q f
    by true e = subst Q (sym (eqb-true f i e)) q
    by false e = others f (λ s. true≢false (sym (eq_self f) ∙ subst (λ n. nat_eq f n ≡ false) (sym s) e))

-- ---- functions that stay

abbrev pub alone : (items : ℕ → ℕ) (O : Openings) (less gain : Allowance) → less.turns ≤ gain.turns → {g g' : Function} → RelatedFunction items no_openings less [] g g' → LikeFunction items O gain g g'
alone items O less gain more {g} r = record {
  about = no_one;
  untouched = λ a h x i. absurd i;
  inside = r.inside;
  params = weaker_params (by_form []) (facts_of g no_one (λ a h x i. absurd i)) (λ x i. i) r.params;
  body = weaker_exp items no_openings O less gain more (by_form []) (facts_of g no_one (λ a h x i. absurd i)) (λ J. Unit {0})
      (record { special = λ x i. i; into = λ J l k ok. ok; expression = λ a J R e f f' ok o. absurd o; statements = λ a J R S b f f' ok o. absurd o }) more tt r.body;
}

abbrev pub itself_alone : {g : Function} → RelatedFunction (λ f. f) no_openings without_turns [] g g → LikeFunction (λ f. f) no_openings without_turns g g
itself_alone r = alone (λ f. f) no_openings without_turns without_turns (omega arith) r

pub entry_alone : (items : ℕ → ℕ) (O : Openings) (gain : Allowance) {o o' : Option (Option Function)} → SameEntry items o o' → LikeEntry items O gain o o'
entry_alone items O gain (same_function r) = functions (alone items O without_turns gain (omega arith) r)
entry_alone items O gain (no_function n n') = neither n n'

-- ---- the text with marks

module _ (A : Asked) (muts : List Bool) (k : Plan) (had : Held A muts k) where
  abbrev text : Function
  text = running_of A k.params

  abbrev never_touched : Untouched text (about_run A muts k)
  never_touched = running_untouched A had.short k had.plan muts had.accepted had.unaliased

  written_alone : AreWritten (facts_alone text) enters k.params
  written_alone x i b n t h c = running_param_written A had.short k.params muts had.accepted k had.plan x (choosing.in_list i) b n t h c

  marked_entry : IsItself (Some (Some A.function)) → ReadingEntry (Some (Some A.function)) (Some (Some text))
  marked_entry (is_itself r) = reading_run A.run A.home.around.loops k.params (itself_alone r) refl written_alone
  marked_entry (is_none n) = absurd n

  kept_entry : {o : Option (Option Function)} → IsItself o → ReadingEntry o o
  kept_entry (is_itself r) = as_it_stands (itself_alone r) refl
  kept_entry (is_none n) = not_there n n

  module _ (P : Program) (item : ℕ) (there : element P.functions item ≡ Some (Some A.function)) (each : EachIsItself P) where
    abbrev with_marks : Program
    with_marks = with_its_marks P item A k

    reading_entries : (f : ℕ) → ReadingEntry (element P.functions f) (element with_marks.functions f)
    reading_entries f = at_each (λ f. ReadingEntry (element P.functions f) (element with_marks.functions f)) item
        (subst (λ o. ReadingEntry (element P.functions item) o) (sym (put_same P.functions item (Some A.function) (Some text) there))
        (subst (λ o. ReadingEntry o (Some (Some text))) (sym there) (marked_entry (subst (λ o. IsItself o) there (each item)))))
        (λ f n. subst (λ o. ReadingEntry (element P.functions f) o) (sym (put_other P.functions item f (Some text) n)) (kept_entry (each f))) f

    pub marks_run_so : (given : List ℤ) (n : ℕ) → run with_marks given n ≡ run P given n
    marks_run_so given n = reading_alike P with_marks refl reading_entries given n

  -- ---- the answer

  module _ (modes : List Mode) (P Q : Program) (x : Extracts A muts k modes P Q) where
    abbrev marked_text : Program
    marked_text = with_its_marks P x.item A k

    abbrev opened : Openings
    opened = calls_of x.items (a_turn x.again) x.units x.new

    -- the call stands in its block
    module _ (related : RelatedFunction x.items (the_call A muts k modes x.items (a_turn x.again) x.units x.new) (a_turn x.again) (special_of A muts k) text x.calling) where
      calling_function : LikeFunction x.items opened (a_turn x.again) text x.calling
      calling_function = record {
        about = about_run A muts k;
        untouched = never_touched;
        inside = related.inside;
        params = weaker_params (by_form (special_of A muts k)) (known_of A muts k never_touched) (λ x i. i) related.params;
        body = weaker_exp x.items (the_call A muts k modes x.items (a_turn x.again) x.units x.new) opened (a_turn x.again) (a_turn x.again) (omega arith) (by_form (special_of A muts k)) (known_of A muts k never_touched) (λ J. Unit {0})
            (record {
              special = λ x i. i;
              into = λ J l k ok. ok;
              expression = λ a J R e f f' ok o. absurd o;
              statements = λ a J R S b f f' ok o. stands_so A muts k had never_touched modes x.items (a_turn x.again) x.units x.new o;
            }) (omega arith) tt related.body;
      }

      entries : (f : ℕ) → LikeEntry x.items opened (a_turn x.again) (element marked_text.functions f) (element x.read.functions (x.items f))
      entries f = at_each (λ f. LikeEntry x.items opened (a_turn x.again) (element marked_text.functions f) (element x.read.functions (x.items f))) x.item
          (subst (λ o. LikeEntry x.items opened (a_turn x.again) o (element x.read.functions (x.items x.item))) (sym (put_same P.functions x.item (Some A.function) (Some text) x.is_there))
          (subst (λ o. LikeEntry x.items opened (a_turn x.again) (Some (Some text)) o) (sym x.calling_is_there) (functions calling_function)))
          (λ f n. subst (λ o. LikeEntry x.items opened (a_turn x.again) o (element x.read.functions (x.items f))) (sym (put_other P.functions x.item f (Some text) n)) (entry_alone x.items opened (a_turn x.again) (x.others f n))) f

      with_call : WithCall marked_text x.read x.new
      with_call = record { items = x.items; units = x.units; are_units = x.are_units; strays = x.again; alike = record { all = entries; mains = x.main }; stands = x.new_is_there }

    -- the block was not met, so there is no call
    module _ (related : RelatedFunction x.items no_openings (a_turn x.again) [] A.function x.calling) where
      abbrev none_opened : Openings
      none_opened = calls_of x.items (a_turn x.again) [] x.new

      plain_entries : (f : ℕ) → LikeEntry x.items none_opened (a_turn x.again) (element P.functions f) (element x.read.functions (x.items f))
      plain_entries f = at_each (λ f. LikeEntry x.items none_opened (a_turn x.again) (element P.functions f) (element x.read.functions (x.items f))) x.item
          (subst (λ o. LikeEntry x.items none_opened (a_turn x.again) o (element x.read.functions (x.items x.item))) (sym x.is_there)
          (subst (λ o. LikeEntry x.items none_opened (a_turn x.again) (Some (Some A.function)) o) (sym x.calling_is_there) (functions (alone x.items none_opened (a_turn x.again) (a_turn x.again) (omega arith) related))))
          (λ f n. entry_alone x.items none_opened (a_turn x.again) (x.others f n)) f

      without_call : WithCall P x.read x.new
      without_call = record { items = x.items; units = []; are_units = λ f i. absurd i; strays = x.again; alike = record { all = plain_entries; mains = x.main }; stands = x.new_is_there }

    abbrev ByCall : Type 0
    ByCall = RelatedFunction x.items (the_call A muts k modes x.items (a_turn x.again) x.units x.new) (a_turn x.again) (special_of A muts k) text x.calling

    abbrev ByNone : Type 0
    ByNone = RelatedFunction x.items no_openings (a_turn x.again) [] A.function x.calling

    met_or_not : ByCall ⊎ ByNone
    met_or_not = marked_or_plain A muts k x.items (the_call A muts k modes x.items (a_turn x.again) x.units x.new) (a_turn x.again)
        (record { special = λ x i. i; into = λ J l k ok. ok; expression = λ a J R e f f' ok o. o; statements = λ a J R S b f f' ok o. o }) x.calling had.one_block x.related

    answer_if : EachIsItself P → (given : List ℤ) (n : ℕ) → FindsReferences Q given n → UpTo (run Q given n) (run P given n)
    answer_if each given n found = by met_or_not
      where
        by : ByCall ⊎ ByNone → UpTo (run Q given n) (run P given n)
        by (inl r) = subst (λ o. UpTo (run Q given n) o) (marks_run_so P x.item x.is_there each given n) (answer_runs_so marked_text Q x.read x.new (with_call r) x.rereads given n found)
        by (inr r) = answer_runs_so P Q x.read x.new (without_call r) x.rereads given n found

    text_if : EachIsItself P → (given : List ℤ) (n : ℕ) → FindsReferences Q given (2 * n) → UpTo (run P given n) (run Q given (2 * n))
    text_if each given n found = by met_or_not
      where
        by : ByCall ⊎ ByNone → UpTo (run P given n) (run Q given (2 * n))
        by (inl r) = subst (λ o. UpTo o (run Q given (2 * n))) (marks_run_so P x.item x.is_there each given n) (text_runs_so marked_text Q x.read x.new (with_call r) x.rereads given n found)
        by (inr r) = text_runs_so P Q x.read x.new (without_call r) x.rereads given n found

-- ---- with what is had

module _ (A : Asked) (muts : List Bool) (k : Plan) (had : Had A muts k) (modes : List Mode) (P Q : Program) (x : Extracts A muts k modes P Q) (each : EachIsItself P) where
  held : Held A muts k
  held = held_of A muts k had (subst (λ o. IsItself o) x.is_there (each x.item))

  pub answer_so : (given : List ℤ) (n : ℕ) → FindsReferences Q given n → UpTo (run Q given n) (run P given n)
  answer_so given n found = answer_if A muts k held modes P Q x each given n found

  pub text_so : (given : List ℤ) (n : ℕ) → FindsReferences Q given (2 * n) → UpTo (run P given n) (run Q given (2 * n))
  text_so given n found = text_if A muts k held modes P Q x each given n found
