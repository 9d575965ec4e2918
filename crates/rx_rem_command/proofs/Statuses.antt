-- When a status comes: by cases on what is due and on how far it was written. And of a text one status comes at most.
use Rattle.std.specs.Prelude.{◌≢◌, codes}
use Rattle.std.proofs.Common.{ℕ, ℤ, ◌≡◌, ◌<◌, ◌≤◌, length, List, [], Option, Some, None, ◌⊎◌, inl, inr, refl, sym, ap, ◌∙◌, subst}
use Rattle.rx_tree.specs.Plain.{ProgramTree}
use Rattle.rx_parse_grammar.specs.grammar.Items.{Parses}
use Rattle.rx_parse_grammar.proofs.Whole.{one_text}
use Rattle.rx_meaning.specs.declared.outcome.Outcome.{Outcome}
use Rattle.rx_meaning.specs.declared.outcome.End.{End}
use Rattle.rx_meaning.specs.declared.outcome.End.TheVariants as ends
use Rattle.rx_check.specs.declared.fault.CheckFault.{CheckFault}
use Rattle.rx_check.specs.declared.fault.CheckFault.TheVariants as check
use Rattle.rx_check.specs.Passes.{Accepted}
use Rattle.rx_check.specs.Causes.{Causes}
use Rattle.rx_cert.specs.declared.fault.VerifyFault.{VerifyFault}
use Rattle.rx_cert.specs.declared.fault.VerifyFault.TheVariants as verify
use Rattle.rx_cert.specs.Verified.{IsVerified, VerifyCauses}
use Rattle.rx_cert_least.specs.Least.{IsCertificateOf}
use Rattle.rx_engine_extraction.specs.declared.refusal.Refusal.{Refusal}
use Rattle.rx_engine_extraction.specs.Source.{Wish}
use Rattle.rx_engine_extraction.specs.Promise.{Extracts}
use Rattle.rx_engine_extraction.specs.Verdict.{IsRefused}
use Rattle.rx_rem_command.specs.declared.status.Status.{Status}
use Rattle.rx_rem_command.specs.declared.status.Status.TheVariants as status
use Rattle.rx_rem_generated.specs.Generated.{generated, run_start, run_end}
use Rattle.rx_rem_command.specs.Forms.{Preference, by_copy, Command, extracts, checks, certifies, verifies, compacts, runs, generates, command_of, Reads, most_bytes}
use Rattle.rx_rem_command.specs.Defined.{Choices, AnswersTo, IsAccepted, Checked, program, passed, Judged, faulty, no_program, wish, Certified, uncertified, certified, too_large, Shortened, unshortened, shortened, unnamed, too_long as too_long_short, Verdict, good, bad, Drawn, unaccepted, extracted, unmet, Ran, refused, ran, generated_wish, Summarised, undrawn, summarised}
use Rattle.rx_rem_command.specs.RunLines.{end_status}
use Rattle.rx_engine.specs.Runs.{Does}
use Rattle.rx_rem_command.specs.Replies.{Stream, IsReader, IsRead, most_for, Due, answered, not_read, too_long, no_memory, Ending, whole, out_cut, both_cut, err_cut, Replies}
use Rattle.rx_rem_command.specs.Statuses.{EndsWith, IsCertified, IsShort, Comes, Cause}
use Rattle.rx_rem_command.proofs.CheckLemmas.{not_accepted}
use Rattle.rx_rem_command.proofs.Certificates.{certificate_accepted}
use Rattle.rx_compact_call.specs.Shortened.{IsShortened, IsUnnamed}
use Rattle.rx_rem_command.proofs.Shorts.{short_accepted, unnamed_accepted, one_short_size}
use Rattle.rx_rem_command.proofs.CertificateAgreement.{one_size}
use Rattle.rx_rem_command.proofs.Extractions.{kept, extracted_accepted, unmet_accepted}

-- ---- of a defined answer

-- the status of a run's end comes where it ends so
end_comes : (C : Choices) (text : List ℕ) (turns : ℕ) (input : List ℤ) (e : End) → EndsWith text turns input (end_status e) → Comes C (runs turns input) text (end_status e)
end_comes C text turns input ends.Ended k = k
end_comes C text turns input (ends.Trapped t) k = k
end_comes C text turns input ends.Running k = k
end_comes C text turns input ends.Wrong k = k

-- a status comes of a text that is made where it comes of its extraction
module _ (C : Choices) (text : List ℕ) (n : ℕ) where
  abbrev pub step : Command
  step = extracts (codes "step") (run_start n) (run_end n) by_copy

  pub of_extraction : (s : Status) → Comes C step (generated n) s → Comes C (generates n) text s
  of_extraction status.Done x = x
  of_extraction _ x = x

  pub to_extraction : (s : Status) → Comes C (generates n) text s → Comes C step (generated n) s
  to_extraction status.Done x = x
  to_extraction _ x = x

module _ (excluded : (p : ProgramTree) (e : CheckFault) → Accepted p → Causes e p → e ≡ check.OutOfMemory)
    (verified_once : (bytes : List ℕ) (e : VerifyFault) → e ≢ verify.OutOfMemory → IsVerified bytes → VerifyCauses e bytes → ⊥) (C : Choices) where
  judged_comes : (text : List ℕ) (p : ProgramTree) → Parses text p → (s : Status) (out err : List ℕ) → Judged p s out err → Comes C checks text s
  judged_comes text p x _ _ _ (passed h) = record { program = p; parses = x; accepted = h }
  judged_comes text p x _ _ _ (faulty f told c) = λ a. not_accepted excluded text a status.NotAccepted [] _ refl (program p x (faulty f told c))

  checked_comes : (text : List ℕ) (s : Status) (out err : List ℕ) → Checked text s out err → Comes C checks text s
  checked_comes text _ _ _ (no_program f c) = λ a. not_accepted excluded text a status.NotAccepted [] _ refl (no_program f c)
  checked_comes text s out err (program p x j) = judged_comes text p x s out err j

  drawn_comes : (text name : List ℕ) (start end : ℕ) (w : Preference) (s : Status) (out err : List ℕ) → Drawn text (wish C name start end w) s out err
      → Comes C (extracts name start end w) text s
  drawn_comes text name start end w _ out err (unaccepted x) = λ a. not_accepted excluded text a status.NotAccepted out err refl x
  drawn_comes text name start end w _ _ _ (extracted a bs k) = kept text (wish C name start end w) a bs k
  drawn_comes text name start end w _ _ _ (unmet r x) = (r, x)

  certified_comes : (text : List ℕ) (s : Status) (out err : List ℕ) → Certified text s out err → Comes C certifies text s
  certified_comes text _ out err (uncertified x) = λ a. not_accepted excluded text a status.NotAccepted out err refl x
  certified_comes text _ _ _ (certified b x l) = record { bytes = b; certificate = x; long = l }
  certified_comes text _ _ _ (too_large b x l) = record { bytes = b; certificate = x; long = l }

  shortened_comes : (text name : List ℕ) (s : Status) (out err : List ℕ) → Shortened text name s out err → Comes C (compacts name) text s
  shortened_comes text name _ out err (unshortened x) = λ a. not_accepted excluded text a status.NotAccepted out err refl x
  shortened_comes text name _ _ _ (shortened b x l) = record { bytes = b; shortened = x; long = l }
  shortened_comes text name _ _ _ (unnamed x) = inl x
  shortened_comes text name _ _ _ (too_long_short b x l) = inr (record { bytes = b; shortened = x; long = l })

  verdict_comes : (bytes : List ℕ) (s : Status) (out err : List ℕ) → Verdict bytes s out err → Comes C verifies bytes s
  verdict_comes bytes _ _ _ (good v) = v
  verdict_comes bytes _ _ _ (bad e n c s) = λ v. verified_once bytes e n v c

  ran_comes : (text : List ℕ) (turns : ℕ) (input : List ℤ) (s : Status) (out err : List ℕ) → Ran text turns input s out err → Comes C (runs turns input) text s
  ran_comes text turns input _ out err (refused x) = λ a. not_accepted excluded text a status.NotAccepted out err refl x
  ran_comes text turns input _ _ _ (ran p x h o d) =
      end_comes C text turns input o.end (record { program = p; parses = x; accepted = h; outcome = o; does = d; ends = refl })

  told_comes : (text : List ℕ) (n : ℕ) (s : Status) (out err : List ℕ) → Summarised (generated n) n (generated_wish C n) s out err → Comes C (generates n) text s
  told_comes text n s out err (undrawn k d) =
      of_extraction C text n s (drawn_comes (generated n) (codes "step") (run_start n) (run_end n) by_copy s out err d)
  told_comes text n _ _ _ (summarised a bs k f s x y) = kept (generated n) (generated_wish C n) a bs k

  answer_comes : (c : Command) (text : List ℕ) (s : Status) (out err : List ℕ) → AnswersTo C (Some c) text s out err → Comes C c text s
  answer_comes (extracts name start end w) text s out err d = drawn_comes text name start end w s out err d
  answer_comes checks text s out err d = checked_comes text s out err d
  answer_comes certifies text s out err d = certified_comes text s out err d
  answer_comes verifies text s out err d = verdict_comes text s out err d
  answer_comes (compacts name) text s out err d = shortened_comes text name s out err d
  answer_comes (runs turns input) text s out err d = ran_comes text turns input s out err d
  answer_comes (generates n) text s out err d = told_comes text n s out err d

  -- ---- of a reply

  module _ (words : List (List ℕ)) (source source' out out' err err' : Stream) where
    abbrev Causes' : Status → Type 0
    Causes' = Cause C words source source' out out' err err'

    -- what comes of a text is a cause
    of_text : (command : Command) (text : List ℕ) → command_of words ≡ Some command → (Reads (Some command) → IsRead (most_bytes (Some command)) source source' text) → (s : Status) → Comes C command text s → Causes' s
    of_text command text e r status.Done k = record { command = command; asked = e; text = text; read = r; comes = k }
    of_text command text e r status.Refused k = record { command = command; asked = e; text = text; read = r; comes = k }
    of_text command text e r status.NotAccepted k = record { command = command; asked = e; text = text; read = r; comes = k }
    of_text command text e r status.StillRunning k = record { command = command; asked = e; text = text; read = r; comes = k }
    of_text command text e r status.Wrong k = record { command = command; asked = e; text = text; read = r; comes = k }
    of_text command text e r status.Trapped k = record { command = command; asked = e; text = text; read = r; comes = k }
    of_text command text e r status.Usage k = absurd k
    of_text command text e r status.ReadFault k = absurd k
    of_text command text e r status.WriteFault k = absurd k
    of_text command text e r status.OutOfMemory k = absurd k
    of_text command text e r status.TooLong k = absurd k

    of_answer : (q : Option Command) (text : List ℕ) (s : Status) (outs errs : List ℕ) → command_of words ≡ q → (IsReader words → IsRead (most_for words) source source' text)
        → AnswersTo C q text s outs errs → Causes' s
    of_answer None text s outs errs e r d = subst Causes' (sym d.0) e
    of_answer (Some c) text s outs errs e r d =
        of_text c text e (λ h. subst (λ (q : Option Command). IsRead (most_bytes q) source source' text) e (r (subst Reads (sym e) h))) s (answer_comes c text s outs errs d)

    of_due : (s : Status) (outs errs : List ℕ) → Due C words source source' s outs errs → Causes' s
    of_due s outs errs (answered text k r d) = of_answer (command_of words) text s outs errs refl r d
    of_due _ _ _ (not_read f r t) = (f, r)
    of_due _ _ _ (too_long f k t) = (f, t)
    of_due _ _ _ (no_memory f k t) = f

    of_ending : (s result : Status) (outs errs : List ℕ) → Causes' s → Ending out out' err err' s outs errs result → Causes' result
    of_ending s _ outs errs k (whole a b) = k
    of_ending s _ outs errs k (out_cut a b) = inl a.1
    of_ending s _ outs errs k (both_cut a b) = inl a.1
    of_ending s _ outs errs k (err_cut a b) = inr b.1

    pub status_cause : (result : Status) → Replies C words source source' out out' err err' result → Causes' result
    status_cause result r = let k = r.written in of_ending k.0 result k.1 k.2 (of_due k.0 k.1 k.2 k.3) k.4

-- ---- one status of a text

-- which command an end is of
module _ (none : (bytes : List ℕ) (w : Wish) (r : Refusal) → IsRefused bytes w r → Extracts bytes w → ⊥)
    (one_does : (p : ProgramTree) (turns : ℕ) (input : List ℤ) (o q : Outcome) → Does p turns input o → Does p turns input q → o ≡ q)
    (excluded : (p : ProgramTree) (e : CheckFault) → Accepted p → Causes e p → e ≡ check.OutOfMemory)
    (one_certificate : (text a b : List ℕ) → IsCertificateOf text a → IsCertificateOf text b → a ≡ b)
    (one_short : (text name a b : List ℕ) → IsShortened text name a → IsShortened text name b → a ≡ b)
    (no_short : (text name a : List ℕ) → IsShortened text name a → IsUnnamed text name → ⊥) (C : Choices) where
  one_end : (text : List ℕ) (turns : ℕ) (input : List ℤ) (s t : Status) → EndsWith text turns input s → EndsWith text turns input t → s ≡ t
  one_end text turns input s t x y =
      let d : Does x.program turns input y.outcome = subst (λ (p : ProgramTree). Does p turns input y.outcome) (one_text text y.program x.program y.parses x.parses) y.does in
      sym x.ends ∙ (ap (λ (o : Outcome). end_status o.end) (one_does x.program turns input x.outcome y.outcome x.does d) ∙ y.ends)

  ends_accepted : (text : List ℕ) (turns : ℕ) (input : List ℤ) (s : Status) → EndsWith text turns input s → IsAccepted text
  ends_accepted text turns input s x = record { program = x.program; parses = x.parses; accepted = x.accepted }

  -- an extraction is done or not, and its text is accepted
  one_extraction : (text name : List ℕ) (start end : ℕ) (w : Preference) (s t : Status) → Comes C (extracts name start end w) text s → Comes C (extracts name start end w) text t → s ≡ t
  one_extraction text name start end w status.Done status.Done x y = refl
  one_extraction text name start end w status.Done status.Refused x y = absurd (none text (wish C name start end w) y.0 y.1 x)
  one_extraction text name start end w status.Done status.NotAccepted x y = absurd (y (extracted_accepted text (wish C name start end w) x))
  one_extraction text name start end w status.Refused status.Done x y = absurd (none text (wish C name start end w) x.0 x.1 y)
  one_extraction text name start end w status.Refused status.Refused x y = refl
  one_extraction text name start end w status.Refused status.NotAccepted x y = absurd (y (unmet_accepted text (wish C name start end w) x.0 x.1))
  one_extraction text name start end w status.NotAccepted status.Done x y = absurd (x (extracted_accepted text (wish C name start end w) y))
  one_extraction text name start end w status.NotAccepted status.Refused x y = absurd (x (unmet_accepted text (wish C name start end w) y.0 y.1))
  one_extraction text name start end w status.NotAccepted status.NotAccepted x y = refl
  one_extraction text name start end w status.Usage t x y = absurd x
  one_extraction text name start end w status.ReadFault t x y = absurd x
  one_extraction text name start end w status.WriteFault t x y = absurd x
  one_extraction text name start end w status.OutOfMemory t x y = absurd x
  one_extraction text name start end w status.TooLong t x y = absurd x
  one_extraction text name start end w status.StillRunning t x y = absurd x
  one_extraction text name start end w status.Wrong t x y = absurd x
  one_extraction text name start end w status.Trapped t x y = absurd x
  one_extraction text name start end w s status.Usage x y = absurd y
  one_extraction text name start end w s status.ReadFault x y = absurd y
  one_extraction text name start end w s status.WriteFault x y = absurd y
  one_extraction text name start end w s status.OutOfMemory x y = absurd y
  one_extraction text name start end w s status.TooLong x y = absurd y
  one_extraction text name start end w s status.StillRunning x y = absurd y
  one_extraction text name start end w s status.Wrong x y = absurd y
  one_extraction text name start end w s status.Trapped x y = absurd y

  one_check : (text : List ℕ) (s t : Status) → Comes C checks text s → Comes C checks text t → s ≡ t
  one_check text status.Done status.Done x y = refl
  one_check text status.Done status.NotAccepted x y = absurd (y x)
  one_check text status.NotAccepted status.Done x y = absurd (x y)
  one_check text status.NotAccepted status.NotAccepted x y = refl
  one_check text status.Refused t x y = absurd x
  one_check text status.Usage t x y = absurd x
  one_check text status.ReadFault t x y = absurd x
  one_check text status.WriteFault t x y = absurd x
  one_check text status.OutOfMemory t x y = absurd x
  one_check text status.TooLong t x y = absurd x
  one_check text status.StillRunning t x y = absurd x
  one_check text status.Wrong t x y = absurd x
  one_check text status.Trapped t x y = absurd x
  one_check text s status.Refused x y = absurd y
  one_check text s status.Usage x y = absurd y
  one_check text s status.ReadFault x y = absurd y
  one_check text s status.WriteFault x y = absurd y
  one_check text s status.OutOfMemory x y = absurd y
  one_check text s status.TooLong x y = absurd y
  one_check text s status.StillRunning x y = absurd y
  one_check text s status.Wrong x y = absurd y
  one_check text s status.Trapped x y = absurd y

  -- of a run: the text is not accepted, or its program ends so
  of_run : (text : List ℕ) (turns : ℕ) (input : List ℤ) (s : Status) → Comes C (runs turns input) text s
      → ((s ≡ status.NotAccepted) × (IsAccepted text → ⊥)) ⊎ EndsWith text turns input s
  of_run text turns input status.Done x = inr x
  of_run text turns input status.StillRunning x = inr x
  of_run text turns input status.Wrong x = inr x
  of_run text turns input status.Trapped x = inr x
  of_run text turns input status.NotAccepted x = inl (refl, x)
  of_run text turns input status.Refused x = absurd x
  of_run text turns input status.Usage x = absurd x
  of_run text turns input status.ReadFault x = absurd x
  of_run text turns input status.WriteFault x = absurd x
  of_run text turns input status.OutOfMemory x = absurd x
  of_run text turns input status.TooLong x = absurd x

  one_run : (text : List ℕ) (turns : ℕ) (input : List ℤ) (s t : Status) → Comes C (runs turns input) text s → Comes C (runs turns input) text t → s ≡ t
  one_run text turns input s t x y = by (of_run text turns input s x) (of_run text turns input t y)
    where
      by : ((s ≡ status.NotAccepted) × (IsAccepted text → ⊥)) ⊎ EndsWith text turns input s
          → ((t ≡ status.NotAccepted) × (IsAccepted text → ⊥)) ⊎ EndsWith text turns input t → s ≡ t
      by (inl a) (inl b) = a.0 ∙ sym b.0
      by (inl a) (inr b) = absurd (a.1 (ends_accepted text turns input t b))
      by (inr a) (inl b) = absurd (b.1 (ends_accepted text turns input s a))
      by (inr a) (inr b) = one_end text turns input s t a b

  -- of a certificate: the text is not accepted, or it is and its certificate is short, or long
  abbrev Sized : List ℕ → Status → Type 0
  Sized text s = ((s ≡ status.Done) × IsCertified text (λ n. n ≤ 16777216)) ⊎ ((s ≡ status.Refused) × IsCertified text (λ n. 16777216 < n))
      ⊎ ((s ≡ status.NotAccepted) × (IsAccepted text → ⊥))

  of_certificate : (text : List ℕ) (s : Status) → Comes C certifies text s → Sized text s
  of_certificate text status.Done x = inl (refl, x)
  of_certificate text status.Refused x = inr (inl (refl, x))
  of_certificate text status.NotAccepted x = inr (inr (refl, x))
  of_certificate text status.StillRunning x = absurd x
  of_certificate text status.Wrong x = absurd x
  of_certificate text status.Trapped x = absurd x
  of_certificate text status.Usage x = absurd x
  of_certificate text status.ReadFault x = absurd x
  of_certificate text status.WriteFault x = absurd x
  of_certificate text status.OutOfMemory x = absurd x
  of_certificate text status.TooLong x = absurd x

  one_certify : (text : List ℕ) (s t : Status) → Sized text s → Sized text t → s ≡ t
  one_certify text s t (inl x) (inl y) = x.0 ∙ sym y.0
  one_certify text s t (inl x) (inr (inl y)) =
      absurd (one_size excluded one_certificate text x.1.bytes y.1.bytes x.1.certificate y.1.certificate x.1.long y.1.long)
  one_certify text s t (inl x) (inr (inr y)) = absurd (y.1 (certificate_accepted text x.1.bytes x.1.certificate))
  one_certify text s t (inr (inl x)) (inl y) =
      absurd (one_size excluded one_certificate text y.1.bytes x.1.bytes y.1.certificate x.1.certificate y.1.long x.1.long)
  one_certify text s t (inr (inl x)) (inr (inl y)) = x.0 ∙ sym y.0
  one_certify text s t (inr (inl x)) (inr (inr y)) = absurd (y.1 (certificate_accepted text x.1.bytes x.1.certificate))
  one_certify text s t (inr (inr x)) (inl y) = absurd (x.1 (certificate_accepted text y.1.bytes y.1.certificate))
  one_certify text s t (inr (inr x)) (inr (inl y)) = absurd (x.1 (certificate_accepted text y.1.bytes y.1.certificate))
  one_certify text s t (inr (inr x)) (inr (inr y)) = x.0 ∙ sym y.0

  -- of a short signature: the text is not accepted, or it is and has no such function, or the text with it is short, or long
  abbrev Shorter : List ℕ → List ℕ → Status → Type 0
  Shorter text name s = ((s ≡ status.Done) × IsShort text name (λ n. n ≤ 1048576)) ⊎ ((s ≡ status.Refused) × (IsUnnamed text name ⊎ IsShort text name (λ n. 1048576 < n)))
      ⊎ ((s ≡ status.NotAccepted) × (IsAccepted text → ⊥))

  of_short : (text name : List ℕ) (s : Status) → Comes C (compacts name) text s → Shorter text name s
  of_short text name status.Done x = inl (refl, x)
  of_short text name status.Refused x = inr (inl (refl, x))
  of_short text name status.NotAccepted x = inr (inr (refl, x))
  of_short text name status.StillRunning x = absurd x
  of_short text name status.Wrong x = absurd x
  of_short text name status.Trapped x = absurd x
  of_short text name status.Usage x = absurd x
  of_short text name status.ReadFault x = absurd x
  of_short text name status.WriteFault x = absurd x
  of_short text name status.OutOfMemory x = absurd x
  of_short text name status.TooLong x = absurd x

  long_accepted : (text name : List ℕ) → IsUnnamed text name ⊎ IsShort text name (λ n. 1048576 < n) → IsAccepted text
  long_accepted text name (inl x) = unnamed_accepted text name x
  long_accepted text name (inr x) = short_accepted text name x.bytes x.shortened

  short_or_not : (text name : List ℕ) → IsShort text name (λ n. n ≤ 1048576) → IsUnnamed text name ⊎ IsShort text name (λ n. 1048576 < n) → ⊥
  short_or_not text name x (inl y) = no_short text name x.bytes x.shortened y
  short_or_not text name x (inr y) = one_short_size excluded one_short no_short text name x.bytes y.bytes x.shortened y.shortened x.long y.long

  one_compact : (text name : List ℕ) (s t : Status) → Shorter text name s → Shorter text name t → s ≡ t
  one_compact text name s t (inl x) (inl y) = x.0 ∙ sym y.0
  one_compact text name s t (inl x) (inr (inl y)) = absurd (short_or_not text name x.1 y.1)
  one_compact text name s t (inl x) (inr (inr y)) = absurd (y.1 (short_accepted text name x.1.bytes x.1.shortened))
  one_compact text name s t (inr (inl x)) (inl y) = absurd (short_or_not text name y.1 x.1)
  one_compact text name s t (inr (inl x)) (inr (inl y)) = x.0 ∙ sym y.0
  one_compact text name s t (inr (inl x)) (inr (inr y)) = absurd (y.1 (long_accepted text name x.1))
  one_compact text name s t (inr (inr x)) (inl y) = absurd (x.1 (short_accepted text name y.1.bytes y.1.shortened))
  one_compact text name s t (inr (inr x)) (inr (inl y)) = absurd (x.1 (long_accepted text name y.1))
  one_compact text name s t (inr (inr x)) (inr (inr y)) = x.0 ∙ sym y.0

  of_verdict : (bytes : List ℕ) (s : Status) → Comes C verifies bytes s
      → ((s ≡ status.Done) × IsVerified bytes) ⊎ ((s ≡ status.NotAccepted) × (IsVerified bytes → ⊥))
  of_verdict bytes status.Done x = inl (refl, x)
  of_verdict bytes status.NotAccepted x = inr (refl, x)
  of_verdict bytes status.Refused x = absurd x
  of_verdict bytes status.StillRunning x = absurd x
  of_verdict bytes status.Wrong x = absurd x
  of_verdict bytes status.Trapped x = absurd x
  of_verdict bytes status.Usage x = absurd x
  of_verdict bytes status.ReadFault x = absurd x
  of_verdict bytes status.WriteFault x = absurd x
  of_verdict bytes status.OutOfMemory x = absurd x
  of_verdict bytes status.TooLong x = absurd x

  one_verify : (bytes : List ℕ) (s t : Status) → ((s ≡ status.Done) × IsVerified bytes) ⊎ ((s ≡ status.NotAccepted) × (IsVerified bytes → ⊥))
      → ((t ≡ status.Done) × IsVerified bytes) ⊎ ((t ≡ status.NotAccepted) × (IsVerified bytes → ⊥)) → s ≡ t
  one_verify bytes s t (inl x) (inl y) = x.0 ∙ sym y.0
  one_verify bytes s t (inl x) (inr y) = absurd (y.1 x.1)
  one_verify bytes s t (inr x) (inl y) = absurd (x.1 y.1)
  one_verify bytes s t (inr x) (inr y) = x.0 ∙ sym y.0

  pub one_status : (c : Command) (text : List ℕ) (s t : Status) → Comes C c text s → Comes C c text t → s ≡ t
  one_status (extracts name start end w) text s t x y = one_extraction text name start end w s t x y
  one_status checks text s t x y = one_check text s t x y
  one_status certifies text s t x y = one_certify text s t (of_certificate text s x) (of_certificate text t y)
  one_status verifies text s t x y = one_verify text s t (of_verdict text s x) (of_verdict text t y)
  one_status (compacts name) text s t x y = one_compact text name s t (of_short text name s x) (of_short text name t y)
  one_status (runs turns input) text s t x y = one_run text turns input s t x y
  one_status (generates n) text s t x y =
      one_extraction (generated n) (codes "step") (run_start n) (run_end n) by_copy s t (to_extraction C text n s x) (to_extraction C text n t y)
