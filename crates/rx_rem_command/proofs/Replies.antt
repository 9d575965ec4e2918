-- A reply follows from what is due and how far it was written, by cases on both.
use Rattle.std.proofs.Common.{ℕ, ℤ, ◌+◌, ◌≡◌, ◌≤◌, ◌<◌, ◌⊎◌, inl, inr, List, [], length, take, Option, Some, None, refl, sym, ap, ◌∙◌, subst, arith, append-nil, length-append}
use Rattle.std.proofs.lemmas.Bool.{cases_lt}
use Rattle.rx_core.specs.Streams.{Rose, Told, Gone, Grown}
use Rattle.rx_core.specs.declared.write.WriteFail.{WriteFail}
use Rattle.rx_core.specs.declared.write.WriteFail.TheVariants as fail
use Rattle.rx_meaning.specs.declared.outcome.End.{End}
use Rattle.rx_meaning.specs.declared.outcome.End.TheVariants as ends
use Rattle.rx_rem_command.specs.declared.status.Status.{Status}
use Rattle.rx_rem_command.specs.declared.status.Status.TheVariants.{ReadFault, WriteFault, OutOfMemory, TooLong}
use Rattle.rx_tree.specs.Plain.{ProgramTree}
use Rattle.rx_engine_extraction.specs.Source.{Wish}
use Rattle.rx_rem_generated.specs.Generated.{generated}
use Rattle.rx_rem_command.specs.Forms.{Command, extracts, checks, certifies, verifies, compacts, runs, generates, command_of, Reads}
use Rattle.rx_rem_command.specs.RunLines.{end_status}
use Rattle.rx_rem_command.specs.Defined.{Choices, Defined, AnswersTo, Judged, passed, faulty, Checked, no_program, program, wish, Drawn, unaccepted, extracted, unmet, Certified, uncertified, certified, too_large, Shortened, unshortened, shortened, unnamed, too_long as too_long_short, Verdict, good, bad, Ran, refused, ran, generated_wish, Summarised, undrawn, summarised}
use Rattle.rx_rem_command.specs.Replies.{Stream, IsForm, IsReader, HasFailed, IsSound, HasAll, IsCut, IsRead, TakesAtMost, TakesOneMore, most_for, Due, answered, not_read, too_long, no_memory, Ending, whole, out_cut, both_cut, err_cut, IsComplete, Replies, Reports, Delivers, Found, defined, no_room}

-- the statuses that a text's answer has
abbrev pub IsAnswer : Status → Type 0
IsAnswer ReadFault = ⊥
IsAnswer WriteFault = ⊥
IsAnswer TooLong = ⊥
IsAnswer _ = Unit {0}

judged_answers : (p : ProgramTree) (status : Status) (outs errs : List ℕ) → Judged p status outs errs → IsAnswer status
judged_answers p _ _ _ (passed a) = tt
judged_answers p _ _ _ (faulty f n c) = tt

checked_answers : (text : List ℕ) (status : Status) (outs errs : List ℕ) → Checked text status outs errs
    → IsAnswer status
checked_answers text _ _ _ (no_program f c) = tt
checked_answers text status outs errs (program p x j) = judged_answers p status outs errs j

end_answers : (e : End) → IsAnswer (end_status e)
end_answers ends.Ended = tt
end_answers (ends.Trapped t) = tt
end_answers ends.Running = tt
end_answers ends.Wrong = tt

ran_answers : (text : List ℕ) (turns : ℕ) (input : List ℤ) (status : Status) (outs errs : List ℕ) → Ran text turns input status outs errs
    → IsAnswer status
ran_answers text turns input _ _ _ (refused c) = tt
ran_answers text turns input _ _ _ (ran p x h o d) = end_answers o.end

certified_answers : (text : List ℕ) (status : Status) (outs errs : List ℕ) → Certified text status outs errs → IsAnswer status
certified_answers text _ _ _ (uncertified c) = tt
certified_answers text _ _ _ (certified b x l) = tt
certified_answers text _ _ _ (too_large b x l) = tt

shortened_answers : (text name : List ℕ) (status : Status) (outs errs : List ℕ) → Shortened text name status outs errs → IsAnswer status
shortened_answers text name _ _ _ (unshortened c) = tt
shortened_answers text name _ _ _ (shortened b x l) = tt
shortened_answers text name _ _ _ (unnamed x) = tt
shortened_answers text name _ _ _ (too_long_short b x l) = tt

verdict_answers : (bytes : List ℕ) (status : Status) (outs errs : List ℕ) → Verdict bytes status outs errs → IsAnswer status
verdict_answers bytes _ _ _ (good v) = tt
verdict_answers bytes _ _ _ (bad e n c s) = tt

drawn_answers : (text : List ℕ) (w : Wish) (status : Status) (outs errs : List ℕ) → Drawn text w status outs errs → IsAnswer status
drawn_answers text w _ _ _ (unaccepted c) = tt
drawn_answers text w _ _ _ (extracted a bs k) = tt
drawn_answers text w _ _ _ (unmet r x) = tt

told_answers : (text : List ℕ) (n : ℕ) (w : Wish) (status : Status) (outs errs : List ℕ) → Summarised text n w status outs errs → IsAnswer status
told_answers text n w status outs errs (undrawn k d) = drawn_answers text w status outs errs d
told_answers text n w _ _ _ (summarised a bs k f s x y) = tt

module _ (C : Choices) where
  asked_answers : (q : Option Command) (text : List ℕ) (status : Status) (outs errs : List ℕ)
      → AnswersTo C q text status outs errs → IsAnswer status
  asked_answers None text status outs errs a = subst IsAnswer (sym a.0) tt
  asked_answers (Some (extracts name start end w)) text status outs errs a = drawn_answers text (wish C name start end w) status outs errs a
  asked_answers (Some checks) text status outs errs a = checked_answers text status outs errs a
  asked_answers (Some certifies) text status outs errs a = certified_answers text status outs errs a
  asked_answers (Some verifies) text status outs errs a = verdict_answers text status outs errs a
  asked_answers (Some (compacts name)) text status outs errs a = shortened_answers text name status outs errs a
  asked_answers (Some (runs turns input)) text status outs errs a = ran_answers text turns input status outs errs a
  asked_answers (Some (generates n)) text status outs errs a = told_answers (generated n) n (generated_wish C n) status outs errs a

  defined_answers : (words : List (List ℕ)) (text : List ℕ) (status : Status) (outs errs : List ℕ)
      → Defined C words text status outs errs → IsAnswer status
  defined_answers words text status outs errs d = asked_answers (command_of words) text status outs errs d

  -- where no text is read, the answer is one whatever the text
  of_its_text : (q : Option Command) (t text : List ℕ) (status : Status) (outs errs : List ℕ) → (Reads q → t ≡ text)
      → AnswersTo C q t status outs errs → AnswersTo C q text status outs errs
  of_its_text None t text status outs errs h d = d
  of_its_text (Some (generates n)) t text status outs errs h d = d
  of_its_text (Some (extracts name start end w)) t text status outs errs h d =
      subst (λ (x : List ℕ). Drawn x (wish C name start end w) status outs errs) (h tt) d
  of_its_text (Some checks) t text status outs errs h d = subst (λ (x : List ℕ). Checked x status outs errs) (h tt) d
  of_its_text (Some certifies) t text status outs errs h d = subst (λ (x : List ℕ). Certified x status outs errs) (h tt) d
  of_its_text (Some verifies) t text status outs errs h d = subst (λ (x : List ℕ). Verdict x status outs errs) (h tt) d
  of_its_text (Some (compacts name)) t text status outs errs h d = subst (λ (x : List ℕ). Shortened x name status outs errs) (h tt) d
  of_its_text (Some (runs turns input)) t text status outs errs h d = subst (λ (x : List ℕ). Ran x turns input status outs errs) (h tt) d

  -- a source from which one byte more was taken than a text may have had more left
  too_many : (most : ℕ) (s s' : Stream) → TakesOneMore most s s' → Told s.bytes (λ all. most < length all)
  too_many most s s' t = λ all h. let p = t.gone.told all h in let n = t.many in
      omega (arith, n, ap length p.1, length-append t.bytes p.0)

  -- where a text is small enough and the source didn't fail, the due answer is the defined one, or want of memory
  due_complete : (words : List (List ℕ)) (s s' : Stream) (status : Status) (outs errs : List ℕ)
      → Due C words s s' status outs errs → IsForm words
      → (text : List ℕ) → (IsReader words → (s.bytes ≡ Some text) × (length text ≤ most_for words)) → (Rose s.faults s'.faults → ⊥)
      → (status ≡ OutOfMemory) ⊎ Defined C words text status outs errs
  due_complete words s s' status outs errs (answered t k r d) form text given calm =
      inr (of_its_text (command_of words) t text status outs errs (λ h. ((r h).whole text (given h).0).0) d)
  due_complete words s s' _ _ _ (not_read f r t) form text given calm = absurd (calm r)
  due_complete words s s' _ _ _ (too_long f k t) form text given calm = let l = too_many (most_for words) s s' t text (given f).0 in let m = (given f).1 in
      absurd (omega (arith, l, m))
  due_complete words s s' _ _ _ (no_memory f k t) form text given calm = inl refl

  due_fault : (words : List (List ℕ)) (s s' : Stream) (status : Status) (outs errs : List ℕ)
      → Due C words s s' status outs errs → status ≡ ReadFault
      → Rose s.faults s'.faults
  due_fault words s s' status outs errs (answered t k r d) e =
      absurd (subst IsAnswer e (defined_answers words t status outs errs d))
  due_fault words s s' _ _ _ (not_read f r t) e = r
  due_fault words s s' _ _ _ (too_long f k t) e = absurd (cc)
  due_fault words s s' _ _ _ (no_memory f k t) e = absurd (cc)

  due_sound : (words : List (List ℕ)) (s s' : Stream) (status : Status) (outs errs : List ℕ)
      → Due C words s s' status outs errs → (status ≡ ReadFault → ⊥)
      → s'.faults ≡ s.faults
  due_sound words s s' status outs errs (answered t k r d) n = k
  due_sound words s s' _ _ _ (not_read f r t) n = absurd (n refl)
  due_sound words s s' _ _ _ (too_long f k t) n = k
  due_sound words s s' _ _ _ (no_memory f k t) n = k

  due_written : (words : List (List ℕ)) (s s' : Stream) (status : Status) (outs errs : List ℕ)
      → Due C words s s' status outs errs → status ≡ WriteFault → ⊥
  due_written words s s' status outs errs (answered t k r d) e =
      subst IsAnswer e (defined_answers words t status outs errs d)
  due_written words s s' _ _ _ (not_read f r t) e = cc
  due_written words s s' _ _ _ (too_long f k t) e = cc
  due_written words s s' _ _ _ (no_memory f k t) e = cc

  ending_fault : (out out' err err' : Stream) (status result : Status) (outs errs : List ℕ)
      → Ending out out' err err' status outs errs result
      → result ≡ ReadFault → status ≡ ReadFault
  ending_fault out out' err err' status _ outs errs (whole a b) e = e
  ending_fault out out' err err' status _ outs errs (out_cut a b) e = absurd (cc)
  ending_fault out out' err err' status _ outs errs (both_cut a b) e = absurd (cc)
  ending_fault out out' err err' status _ outs errs (err_cut a b) e = absurd (cc)

  ending_written : (out out' err err' : Stream) (status result : Status) (outs errs : List ℕ)
      → Ending out out' err err' status outs errs result
      → (status ≡ WriteFault → ⊥) → result ≡ WriteFault → HasFailed out out' ⊎ HasFailed err err'
  ending_written out out' err err' status _ outs errs (whole a b) n e = absurd (n e)
  ending_written out out' err err' status _ outs errs (out_cut a b) n e = inl a.1
  ending_written out out' err err' status _ outs errs (both_cut a b) n e = inl a.1
  ending_written out out' err err' status _ outs errs (err_cut a b) n e = inr b.1

  ending_sound : (out out' err err' : Stream) (status result : Status) (outs errs : List ℕ)
      → Ending out out' err err' status outs errs result
      → (result ≡ WriteFault → ⊥) → (status ≡ result) × IsSound out out' × IsSound err err'
  ending_sound out out' err err' status _ outs errs (whole a b) n = (refl, a.1, b.1)
  ending_sound out out' err err' status _ outs errs (out_cut a b) n = absurd (n refl)
  ending_sound out out' err err' status _ outs errs (both_cut a b) n = absurd (n refl)
  ending_sound out out' err err' status _ outs errs (err_cut a b) n = absurd (n refl)

  -- where no sink failed, all was written
  ending_complete : (words : List (List ℕ)) (text : List ℕ) (out out' err err' : Stream) (status result : Status)
      (outs errs : List ℕ)
      → Ending out out' err err' status outs errs result → (status ≡ OutOfMemory) ⊎ Defined C words text status outs errs
      → (HasFailed out out' → ⊥) → (HasFailed err err' → ⊥) → IsComplete C words text out out' err err' result
  ending_complete words text out out' err err' status _ outs errs (whole a b) d calm calm' =
      elim d [ inl e ↦ inl e | inr f ↦ inr (outs, errs, f, a, b) ]
  ending_complete words text out out' err err' status _ outs errs (out_cut a b) d calm calm' = absurd (calm a.1)
  ending_complete words text out out' err err' status _ outs errs (both_cut a b) d calm calm' = absurd (calm a.1)
  ending_complete words text out out' err err' status _ outs errs (err_cut a b) d calm calm' = absurd (calm' b.1)

  pub replies : (words : List (List ℕ)) (s s' out out' err err' : Stream) (status : Status) (outs errs : List ℕ)
      (result : Status)
      → Due C words s s' status outs errs → Ending out out' err err' status outs errs result
      → Replies C words s s' out out' err err' result
  replies words s s' out out' err err' status outs errs result d e = record {
    written = (status, outs, errs, d, e);
    read_fault = λ r. due_fault words s s' status outs errs d
        (ending_fault out out' err err' status result outs errs e r);
    write_fault = ending_written out out' err err' status result outs errs e (due_written words s s' status outs errs d);
    read_sound = λ n m. due_sound words s s' status outs errs d
        (λ r. n (sym (ending_sound out out' err err' status result outs errs e m).0 ∙ r));
    write_sound = λ m. let k = ending_sound out out' err err' status result outs errs e m in (k.1, k.2);
    complete = λ form text given calm. ending_complete words text out out' err err' status result outs errs e
        (due_complete words s s' status outs errs d form text given calm);
  }

pub nothing_more : (k : Stream) → HasAll k k []
nothing_more k = (record { told = λ held h. h ∙ ap Some (sym (append-nil held)); untold = λ h. h }, (refl, refl))

-- a line that was written or cut, where nothing goes to standard output
pub reported : (out err err' : Stream) (status result : Status) (line : List ℕ) → Reports err err' status line result
    → Ending out out err err' status [] line result
reported out err err' status result line (inl r) = subst (λ (x : Status). Ending out out err err' status [] line x)
    (sym r.0) (whole (nothing_more out) r.1)
reported out err err' status result line (inr r) = subst (λ (x : Status). Ending out out err err' status [] line x)
    (sym r.0) (err_cut (nothing_more out) r.1)

pub delivered : (out out' err err' : Stream) (status result : Status) (bytes : List ℕ)
    → Delivers out out' err err' bytes status result
    → Ending out out' err err' status bytes [] result
delivered out out' err err' status result bytes (inl r) =
    subst (λ (x : Status). Ending out out' err err' status bytes [] x) (sym r.0) (whole r.1 r.2)
delivered out out' err err' status result bytes (inr r) =
    subst (λ (x : Status). Ending out out' err err' status bytes [] x) (sym r.0)
    (elim r.2 [ inl a ↦ out_cut r.1 a | inr b ↦ both_cut r.1 b ])

failed : (old new : Stream) (f : WriteFail) → (f ≡ fail.WriteFault → Rose old.faults new.faults)
    → ((left : ℕ) → f ≡ fail.Stuck left → Rose old.standstills new.standstills)
    → (f ≡ fail.WriteFault → new.standstills ≡ old.standstills)
    → ((f ≡ fail.WriteFault → ⊥) → new.faults ≡ old.faults) → HasFailed old new
failed old new fail.WriteFault h k moves sound = inl (h refl, moves refl)
failed old new (fail.Stuck left) h k moves sound = inr (k left refl, sound (λ e. cc))

-- a front of the bytes of a text was written, and then the sink failed
pub cut : (old new : Stream) (bytes text : List ℕ) (f : WriteFail) → bytes ≡ text
    → ((n : ℕ) × (n ≤ length bytes) × Grown old.bytes new.bytes (take n bytes)) → (f ≡ fail.WriteFault → Rose old.faults new.faults)
    → ((left : ℕ) → f ≡ fail.Stuck left → Rose old.standstills new.standstills)
    → (f ≡ fail.WriteFault → new.standstills ≡ old.standstills)
    → ((f ≡ fail.WriteFault → ⊥) → new.faults ≡ old.faults) → IsCut old new text
cut old new bytes text f e front h k moves sound = subst (IsCut old new) e (front, failed old new f h k moves sound)

-- what is found for the text that was read is due
pub found_due : (C : Choices) (words : List (List ℕ)) (s s' : Stream) (command : Command) (text : List ℕ) (status : Status)
    (outs errs : List ℕ)
    → Some command ≡ command_of words → s'.faults ≡ s.faults → IsRead (most_for words) s s' text → Found (AnswersTo C (Some command) text) status outs errs
    → Due C words s s' status outs errs
found_due C words s s' command text status outs errs e k r (defined d) =
    answered text k (λ form. r) (subst (λ (q : Option Command). AnswersTo C q text status outs errs) e d)
found_due C words s s' command text _ _ _ e k r no_room = no_memory (λ n. cc) k
    (record { bytes = text; many = r.within; gone = r.gone })

-- from a source of which nothing is asked nothing is taken
nothing_taken : (most : ℕ) (s : Stream) → TakesAtMost most s s
nothing_taken most s = record { bytes = []; many = omega arith; gone = record { told = λ left h. (left, refl, h); untold = λ h. h } }

-- what is found of a text that is made is due
pub generated_due : (C : Choices) (words : List (List ℕ)) (s : Stream) (n : ℕ) (status : Status) (outs errs : List ℕ)
    → Some (generates n) ≡ command_of words → Found (Summarised (generated n) n (generated_wish C n)) status outs errs
    → Due C words s s status outs errs
generated_due C words s n status outs errs e (defined d) =
    answered [] refl (λ h. absurd (subst Reads (sym e) h)) (subst (λ (q : Option Command). AnswersTo C q [] status outs errs) e d)
generated_due C words s n _ _ _ e no_room = no_memory (λ m. cc) refl (nothing_taken (most_for words) s)

-- the bytes that were taken, where they are not too many
pub taken_few : (limit most : ℕ) (s s' : Stream) (bytes : List ℕ) → limit ≡ most → (limit < length bytes → ⊥) → Gone s.bytes s'.bytes bytes
    → TakesAtMost most s s'
taken_few limit most s s' bytes same n g = record {
  bytes = bytes;
  many =
      elim (cases_lt limit (length bytes)) [ inl l ↦ absurd (n l) | inr l ↦ subst (λ (k : ℕ). length bytes ≤ k) same l ];
  gone = g;
}

pub taken_more : (limit most : ℕ) (s s' : Stream) (bytes : List ℕ) → limit ≡ most → length bytes ≤ limit + 1 → limit < length bytes
    → Gone s.bytes s'.bytes bytes → TakesOneMore most s s'
taken_more limit most s s' bytes same l m g = record { bytes = bytes; many = omega (arith, same, l, m); gone = g }

-- the text is what was taken, since nothing is left
whole_gone : (s s' : Option (List ℕ)) (text bytes : List ℕ) → Told s (λ all. (text ≡ all) × (s' ≡ Some []))
    → Gone s s' bytes → Gone s s' text
whole_gone s s' text bytes w g = record {
  told = λ left h. let p = w left h in ([], sym p.0 ∙ sym (append-nil text), p.1);
  untold = g.untold;
}

pub read_whole : (limit most : ℕ) (old new : Stream) (text bytes gone : List ℕ) → limit ≡ most → text ≡ bytes
    → Told old.bytes (λ all. (bytes ≡ all) × (new.bytes ≡ Some [])) → length bytes ≤ limit
    → Gone old.bytes new.bytes gone → IsRead most old new text
read_whole limit most old new text bytes gone same e w l g =
    let whole : Told old.bytes (λ all. (text ≡ all) × (new.bytes ≡ Some [])) = λ all h. let p = w all h in
    (e ∙ p.0, p.1) in
    record {
      whole = whole;
      within = subst (λ (x : List ℕ). length x ≤ most) (sym e) (subst (λ (k : ℕ). length bytes ≤ k) same l);
      gone = whole_gone old.bytes new.bytes text gone whole g;
    }
