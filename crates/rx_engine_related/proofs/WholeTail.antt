-- Whole programs with a run that has its block's tail: the text with the marks of the run, which lets the tail pass, runs as the text, and the answer
-- is related to it.
use Rattle.std.proofs.Common.{◌≡◌, ◌⊎◌, inl, inr, ◌*◌, ℕ, ℤ, Bool, List, [], Option, Some, refl, sym, subst, arith}
use Rattle.rx_typed.specs.Tree.{Function}
use Rattle.rx_exits_plan.specs.Points.{enters}
use Rattle.rx_exits_plan.specs.Asked.{Asked}
use Rattle.rx_exits_plan.specs.Plan.{Plan}
use Rattle.rx_modes_policy.specs.declared.uses.Mode.{Mode}
use Rattle.rx_meaning.specs.Values.{element}
use Rattle.rx_meaning.specs.Programs.{Program, run, UpTo}
use Rattle.rx_engine_simulation.specs.Openings.{Openings, no_openings}
use Rattle.rx_engine_simulation.specs.Programs.{Untouched, facts_of, LikeFunction, LikeEntry, functions}
use Rattle.rx_engine_simulation.specs.Called.{calls_of, a_turn, WithCall}
use Rattle.rx_engine_simulation.specs.Marks.{AreWritten}
use Rattle.rx_engine_simulation.specs.Marking.{facts_alone, TreeEntry, without_marks}
use Rattle.rx_engine_simulation.specs.Marking as marking
use Rattle.rx_engine_simulation.specs.Astray.{FindsReferences}
use Rattle.rx_engine_simulation.proofs.Marking.{trees_alike}
use Rattle.rx_engine_simulation.proofs.Rightly.{answer_runs_so, text_runs_so}
use Rattle.rx_engine_related.specs.AboutRun.{special_of, about_run}
use Rattle.rx_engine_related.specs.Tailed.{tailed_of}
use Rattle.rx_engine_related.proofs.Choosing as choosing
use Rattle.rx_engine_related.proofs.Tailed.{at_returns, tailed_near, tailed_entry}
use Rattle.rx_engine_related.proofs.Near.{near_param_written, near_untouched}
use Rattle.rx_engine_related.specs.ByForm.{by_form, RelatedFunction, IsItself, is_itself, is_none, EachIsItself}
use Rattle.rx_engine_related.specs.Tails.{the_tail_call}
use Rattle.rx_engine_related.specs.ExtractsTail.{HadTail, with_tail_marks, ExtractsTail}
use Rattle.rx_engine_related.proofs.Weaker.{weaker_exp, weaker_params}
use Rattle.rx_engine_related.proofs.Whole.{put_same, put_other, at_each, alone, itself_alone, entry_alone}
use Rattle.rx_engine_related.proofs.Blockwise.{tailed_or_plain}
use Rattle.rx_engine_related.proofs.Loops.{HeldTail, held_tail_of}
use Rattle.rx_engine_related.proofs.AtTail.{tail_stands_so}

module _ (A : Asked) (muts : List Bool) (k : Plan) (had : HeldTail A muts k) where
  abbrev text : Function
  text = tailed_of A k.params

  abbrev never_touched : Untouched text (about_run A muts k)
  never_touched = near_untouched at_returns A k had.plan text (tailed_near A had.tail k.params) muts had.accepted had.unaliased

  written_alone : AreWritten (facts_alone text) enters k.params
  written_alone x i b n t h c = near_param_written at_returns A text k.params (tailed_near A had.tail k.params) muts had.accepted k had.plan x (choosing.in_list i) b n t h c

  marked_entry : IsItself (Some (Some A.function)) → TreeEntry (Some (Some A.function)) (Some (Some text))
  marked_entry (is_itself r) = tailed_entry A.function A.run A.home.around.loops k.params (itself_alone r) refl written_alone
  marked_entry (is_none n) = absurd n

  kept_entry : {o : Option (Option Function)} → IsItself o → TreeEntry o o
  kept_entry (is_itself r) = without_marks (itself_alone r) refl
  kept_entry (is_none n) = marking.no_function n n

  module _ (P : Program) (item : ℕ) (there : element P.functions item ≡ Some (Some A.function)) (each : EachIsItself P) where
    abbrev with_marks : Program
    with_marks = with_tail_marks P item A k

    entries_marked : (f : ℕ) → TreeEntry (element P.functions f) (element with_marks.functions f)
    entries_marked f = at_each (λ f. TreeEntry (element P.functions f) (element with_marks.functions f)) item
        (subst (λ o. TreeEntry (element P.functions item) o) (sym (put_same P.functions item (Some A.function) (Some text) there))
        (subst (λ o. TreeEntry o (Some (Some text))) (sym there) (marked_entry (subst (λ o. IsItself o) there (each item)))))
        (λ f n. subst (λ o. TreeEntry (element P.functions f) o) (sym (put_other P.functions item f (Some text) n)) (kept_entry (each f))) f

    pub tail_marks_run_so : (given : List ℤ) (n : ℕ) → run with_marks given n ≡ run P given n
    tail_marks_run_so given n = trees_alike P with_marks (record { entries = entries_marked; mains = refl }) given n

  -- ---- the answer

  module _ (modes : List Mode) (P Q : Program) (x : ExtractsTail A muts k modes P Q) where
    abbrev marked_text : Program
    marked_text = with_tail_marks P x.item A k

    abbrev opened : Openings
    opened = calls_of x.items (a_turn x.again) x.units x.new

    -- the call stands in its block
    module _ (related : RelatedFunction x.items (the_tail_call A muts k modes x.items (a_turn x.again) x.units x.new) (a_turn x.again) (special_of A muts k) text x.calling) where
      calling_function : LikeFunction x.items opened (a_turn x.again) text x.calling
      calling_function = record {
        about = about_run A muts k;
        untouched = never_touched;
        inside = related.inside;
        params = weaker_params (by_form (special_of A muts k)) (facts_of text (about_run A muts k) never_touched) (λ x i. i) related.params;
        body = weaker_exp x.items (the_tail_call A muts k modes x.items (a_turn x.again) x.units x.new) opened (a_turn x.again) (a_turn x.again) (omega arith) (by_form (special_of A muts k)) (facts_of text (about_run A muts k) never_touched) (λ J. Unit {0})
            (record {
              special = λ x i. i;
              into = λ J l k ok. ok;
              expression = λ a J R e f f' ok o. absurd o;
              statements = λ a J R S b f f' ok o. tail_stands_so A muts k had never_touched modes x.items (a_turn x.again) x.units x.new o;
            }) (omega arith) tt related.body;
      }

      entries : (f : ℕ) → LikeEntry x.items opened (a_turn x.again) (element marked_text.functions f) (element x.read.functions (x.items f))
      entries f = at_each (λ f. LikeEntry x.items opened (a_turn x.again) (element marked_text.functions f) (element x.read.functions (x.items f))) x.item
          (subst (λ o. LikeEntry x.items opened (a_turn x.again) o (element x.read.functions (x.items x.item))) (sym (put_same P.functions x.item (Some A.function) (Some text) x.is_there))
          (subst (λ o. LikeEntry x.items opened (a_turn x.again) (Some (Some text)) o) (sym x.calling_is_there) (functions calling_function)))
          (λ f n. subst (λ o. LikeEntry x.items opened (a_turn x.again) o (element x.read.functions (x.items f))) (sym (put_other P.functions x.item f (Some text) n)) (entry_alone x.items opened (a_turn x.again) (x.others f n))) f

      with_call : WithCall marked_text x.read x.new
      with_call = record { items = x.items; units = x.units; are_units = x.are_units; strays = x.again; alike = record { all = entries; mains = x.main }; stands = x.new_is_there }

    -- the block was not met, so there is no call
    module _ (related : RelatedFunction x.items no_openings (a_turn x.again) [] A.function x.calling) where
      abbrev none_opened : Openings
      none_opened = calls_of x.items (a_turn x.again) [] x.new

      plain_entries : (f : ℕ) → LikeEntry x.items none_opened (a_turn x.again) (element P.functions f) (element x.read.functions (x.items f))
      plain_entries f = at_each (λ f. LikeEntry x.items none_opened (a_turn x.again) (element P.functions f) (element x.read.functions (x.items f))) x.item
          (subst (λ o. LikeEntry x.items none_opened (a_turn x.again) o (element x.read.functions (x.items x.item))) (sym x.is_there)
          (subst (λ o. LikeEntry x.items none_opened (a_turn x.again) (Some (Some A.function)) o) (sym x.calling_is_there) (functions (alone x.items none_opened (a_turn x.again) (a_turn x.again) (omega arith) related))))
          (λ f n. entry_alone x.items none_opened (a_turn x.again) (x.others f n)) f

      without_call : WithCall P x.read x.new
      without_call = record { items = x.items; units = []; are_units = λ f i. absurd i; strays = x.again; alike = record { all = plain_entries; mains = x.main }; stands = x.new_is_there }

    abbrev ByCall : Type 0
    ByCall = RelatedFunction x.items (the_tail_call A muts k modes x.items (a_turn x.again) x.units x.new) (a_turn x.again) (special_of A muts k) text x.calling

    abbrev ByNone : Type 0
    ByNone = RelatedFunction x.items no_openings (a_turn x.again) [] A.function x.calling

    met_or_not : ByCall ⊎ ByNone
    met_or_not = tailed_or_plain A muts k x.items (the_tail_call A muts k modes x.items (a_turn x.again) x.units x.new) (a_turn x.again)
        (record { special = λ x i. i; into = λ J l k ok. ok; expression = λ a J R e f f' ok o. o; statements = λ a J R S b f f' ok o. o }) x.calling had.one_block x.related

    module _ (each : EachIsItself P) where
      tail_answer_if : (given : List ℤ) (n : ℕ) → FindsReferences Q given n → UpTo (run Q given n) (run P given n)
      tail_answer_if given n found = by met_or_not
        where
          by : ByCall ⊎ ByNone → UpTo (run Q given n) (run P given n)
          by (inl r) = subst (λ o. UpTo (run Q given n) o) (tail_marks_run_so P x.item x.is_there each given n) (answer_runs_so marked_text Q x.read x.new (with_call r) x.rereads given n found)
          by (inr r) = answer_runs_so P Q x.read x.new (without_call r) x.rereads given n found

      tail_text_if : (given : List ℤ) (n : ℕ) → FindsReferences Q given (2 * n) → UpTo (run P given n) (run Q given (2 * n))
      tail_text_if given n found = by met_or_not
        where
          by : ByCall ⊎ ByNone → UpTo (run P given n) (run Q given (2 * n))
          by (inl r) = subst (λ o. UpTo o (run Q given (2 * n))) (tail_marks_run_so P x.item x.is_there each given n) (text_runs_so marked_text Q x.read x.new (with_call r) x.rereads given n found)
          by (inr r) = text_runs_so P Q x.read x.new (without_call r) x.rereads given n found

-- ---- with what is had

module _ (A : Asked) (muts : List Bool) (k : Plan) (had : HadTail A muts k) (modes : List Mode) (P Q : Program) (x : ExtractsTail A muts k modes P Q) (each : EachIsItself P) where
  held : HeldTail A muts k
  held = held_tail_of A muts k had (subst (λ o. IsItself o) x.is_there (each x.item))

  pub tail_answer_so : (given : List ℤ) (n : ℕ) → FindsReferences Q given n → UpTo (run Q given n) (run P given n)
  tail_answer_so given n found = tail_answer_if A muts k held modes P Q x each given n found

  pub tail_text_so : (given : List ℤ) (n : ℕ) → FindsReferences Q given (2 * n) → UpTo (run P given n) (run Q given (2 * n))
  tail_text_so given n found = tail_text_if A muts k held modes P Q x each given n found
