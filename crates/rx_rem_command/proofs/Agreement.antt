-- Two defined answers agree: a text has one fault but for the place where its tokens stop because of their depth, and an answer excludes faults.
use Rattle.std.specs.Prelude.{◌≢◌, codes}
use Rattle.std.proofs.Common.{ℕ, ℤ, ◌≡◌, List, [], Option, Some, None, ◌⊎◌, inl, inr, refl, sym, ap, ◌∙◌, subst}
use Rattle.rx_core.specs.declared.types.Bound.{Bound}
use Rattle.rx_tree.specs.Plain.{ProgramTree}
use Rattle.rx_parse_grammar.specs.grammar.Items.{Parses}
use Rattle.rx_parse_grammar.proofs.Whole.{one_text}
use Rattle.rx_check.specs.declared.fault.CheckFault.{CheckFault}
use Rattle.rx_check.specs.declared.fault.CheckFault.TheVariants as check
use Rattle.rx_check.specs.Passes.{Accepted}
use Rattle.rx_check.specs.Causes.{Causes, AreOne as AreOneFault}
use Rattle.rx_cert.specs.declared.fault.VerifyFault.{VerifyFault}
use Rattle.rx_cert.specs.declared.fault.VerifyFault.TheVariants as verify
use Rattle.rx_cert.specs.Verified.{IsVerified, VerifyCauses}
use Rattle.rx_cert.specs.Verdicts.{AreOne as AreOneVerdict}
use Rattle.rx_cert_least.specs.Least.{IsCertificateOf}
use Rattle.rx_compact_call.specs.Shortened.{IsShortened, IsUnnamed}
use Rattle.rx_engine_extraction.specs.declared.refusal.Refusal.{Refusal}
use Rattle.rx_engine_extraction.specs.Alike.{AreOne as AreOneRefusal}
use Rattle.rx_engine_extraction.specs.Source.{Wish}
use Rattle.rx_engine_extraction.specs.Promise.{Extracts}
use Rattle.rx_engine_extraction.specs.Promise as shape
use Rattle.rx_engine.specs.Promise.{Keeps}
use Rattle.rx_engine.specs.Runs.{Does}
use Rattle.rx_meaning.specs.declared.outcome.Outcome.{Outcome}
use Rattle.rx_engine_extraction.specs.Verdict.{IsRefused}
use Rattle.rx_rem_command.specs.declared.status.Status.{Status}
use Rattle.rx_rem_command.specs.declared.status.Status.TheVariants.{Done, NotAccepted}
use Rattle.rx_rem_command.specs.Alike.{AreCheckLines, AreExtractionLines, AreRefusalLines, AreLines}
use Rattle.rx_rem_generated.specs.Generated.{generated, input, turns, twice}
use Rattle.rx_rem_generated.specs.Summary.{summary}
use Rattle.rx_rem_command.specs.Forms.{Command, extracts, checks, certifies, verifies, compacts, runs, generates, command_of}
use Rattle.rx_rem_command.specs.Defined.{Choices, Defined, AnswersTo, IsAccepted, Judged, passed, faulty, Checked, no_program, program, wish, Drawn, unaccepted, extracted, unmet, generated_wish, Summarised, undrawn, summarised}
use Rattle.rx_rem_command.specs.ExtractionLines.{line_of_refusal}
use Rattle.rx_rem_command.proofs.CertificateAgreement.{certified_agree, verdicts_agree}
use Rattle.rx_rem_command.proofs.Shorts.{shorts_agree}
use Rattle.rx_rem_command.proofs.CheckLemmas.{not_accepted}
use Rattle.rx_rem_command.proofs.Extractions.{kept, extracted_accepted, unmet_accepted, refusal_lines}
use Rattle.rx_rem_command.proofs.Reading.{unread_lines, unread_none}
use Rattle.rx_rem_command.proofs.RunLemmas.{runs_agree}

-- ---- two checks, by what is known of faults, and two runs, which do one thing

module _ (excluded : (p : ProgramTree) (e : CheckFault) → Accepted p → Causes e p → e ≡ check.OutOfMemory)
    (one : (p : ProgramTree) (e f : CheckFault) → e ≢ check.OutOfMemory → f ≢ check.OutOfMemory → Causes e p → Causes f p → AreOneFault e f)
    (one_does : (p : ProgramTree) (turns : ℕ) (input : List ℤ) (o q : Outcome) → Does p turns input o → Does p turns input q → o ≡ q) where
  judged_agree : (text : List ℕ) (p : ProgramTree) → Parses text p → (s t : Status) (a b c d : List ℕ) → Judged p s a b → Judged p t c d
      → (s ≡ t) × (a ≡ c) × AreCheckLines text b d
  judged_agree text p x _ _ _ _ _ _ (passed h) (passed k) = (refl, refl, inl (inl refl))
  judged_agree text p x _ _ _ _ _ _ (passed h) (faulty f told k) = absurd (told (excluded p f h k))
  judged_agree text p x _ _ _ _ _ _ (faulty e told h) (passed k) = absurd (told (excluded p e k h))
  judged_agree text p x _ _ _ _ _ _ (faulty e n h) (faulty f m k) = (
    refl,
    refl,
    inr (record {
      program = p;
      parses = x;
      one = e;
      other = f;
      cause_one = h;
      cause_other = k;
      alike = one p e f n m h k;
      line_one = refl;
      line_other = refl;
    }),
  )

  checks_agree : (text : List ℕ) (s t : Status) (a b c d : List ℕ) → Checked text s a b → Checked text t c d
      → (s ≡ t) × (a ≡ c) × AreCheckLines text b d
  checks_agree text _ _ _ _ _ _ (no_program f c) (no_program g k) =
      (refl, refl, inl (unread_lines text f g c k))
  checks_agree text _ t _ _ c d (no_program f x) (program p y j) = absurd (unread_none text f x p y)
  checks_agree text s _ a b _ _ (program p y j) (no_program f x) = absurd (unread_none text f x p y)
  checks_agree text s t a b c d (program p x j) (program q y k) =
      judged_agree text p x s t a b c d j (subst (λ r. Judged r t c d) (one_text text q p y x) k)

  module _ (none : (bytes : List ℕ) (w : Wish) (r : Refusal) → IsRefused bytes w r → Extracts bytes w → ⊥)
      (one_refusal : (bytes : List ℕ) (w : Wish) (r q : Refusal) → IsRefused bytes w r → IsRefused bytes w q → AreOneRefusal r q)
      (one_answer : (bytes : List ℕ) (w : Wish) (text other : List ℕ) (bs cs : List Bound) → shape.Keeps bytes w text bs → shape.Keeps bytes w other cs → (text ≡ other) × (bs ≡ cs))
      (one_certificate : (text a b : List ℕ) → IsCertificateOf text a → IsCertificateOf text b → a ≡ b)
      (verified_once : (bytes : List ℕ) (e : VerifyFault) → e ≢ verify.OutOfMemory → IsVerified bytes → VerifyCauses e bytes → ⊥)
      (one_verdict : (bytes : List ℕ) (e f : VerifyFault) → e ≢ verify.OutOfMemory → f ≢ verify.OutOfMemory → VerifyCauses e bytes → VerifyCauses f bytes
      → AreOneVerdict e f)
      (one_short : (text name a b : List ℕ) → IsShortened text name a → IsShortened text name b → a ≡ b)
      (no_short : (text name a : List ℕ) → IsShortened text name a → IsUnnamed text name → ⊥) where
    unmet_lines : (text : List ℕ) (w : Wish) (b d : List ℕ) → (b ≡ d) ⊎ AreRefusalLines text w b d → AreExtractionLines text w b d
    unmet_lines text w b d (inl e) = inl (inl (inl e))
    unmet_lines text w b d (inr x) = inr x

    unaccepted_or_extracted : (text : List ℕ) (w : Wish) (a b answer : List ℕ) (bs : List Bound) → Checked text NotAccepted a b → Keeps text w answer bs → ⊥
    unaccepted_or_extracted text w a b answer bs x k = not_accepted excluded text (extracted_accepted text w (kept text w answer bs k)) NotAccepted a b refl x

    unaccepted_or_unmet : (text : List ℕ) (w : Wish) (a b : List ℕ) (r : Refusal) → Checked text NotAccepted a b → IsRefused text w r → ⊥
    unaccepted_or_unmet text w a b r x k = not_accepted excluded text (unmet_accepted text w r k) NotAccepted a b refl x

    drawn_agree : (text : List ℕ) (w : Wish) (s t : Status) (a b c d : List ℕ) → Drawn text w s a b → Drawn text w t c d
        → (s ≡ t) × (a ≡ c) × AreExtractionLines text w b d
    drawn_agree text w _ _ a b c d (unaccepted x) (unaccepted y) = let k = checks_agree text NotAccepted NotAccepted a b c d x y in (k.0, k.1, inl k.2)
    drawn_agree text w _ _ a b _ _ (unaccepted x) (extracted c cs y) = absurd (unaccepted_or_extracted text w a b c cs x y)
    drawn_agree text w _ _ a b _ _ (unaccepted x) (unmet q y) = absurd (unaccepted_or_unmet text w a b q x y)
    drawn_agree text w _ _ _ _ c d (extracted a bs x) (unaccepted y) = absurd (unaccepted_or_extracted text w c d a bs y x)
    drawn_agree text w _ _ _ _ _ _ (extracted a bs x) (extracted c cs y) = (refl, (one_answer text w a c bs cs x.extraction y.extraction).0, inl (inl (inl refl)))
    drawn_agree text w _ _ _ _ _ _ (extracted a bs x) (unmet q y) = absurd (none text w q y (kept text w a bs x))
    drawn_agree text w _ _ _ _ c d (unmet r x) (unaccepted y) = absurd (unaccepted_or_unmet text w c d r y x)
    drawn_agree text w _ _ _ _ _ _ (unmet r x) (extracted c cs y) = absurd (none text w r x (kept text w c cs y))
    drawn_agree text w _ _ _ _ _ _ (unmet r x) (unmet q y) =
        (refl, refl, unmet_lines text w (line_of_refusal r) (line_of_refusal q) (refusal_lines text w r q x y (one_refusal text w r q x y)))

    -- two answers of the same extraction, with what the text and each does, are told alike
    told_alike : (text : List ℕ) (n : ℕ) (w : Wish) (a c : List ℕ) (bs cs : List Bound) (x : Keeps text w a bs) (y : Keeps text w c cs) (o q r s : Outcome)
        → Does x.extraction.extracts.text.program (turns n) (input n) o → Does x.extraction.program (twice n) (input n) r
        → Does y.extraction.extracts.text.program (turns n) (input n) q → Does y.extraction.program (twice n) (input n) s
        → summary text a o.printed r.printed ≡ summary text c q.printed s.printed
    told_alike text n w a c bs cs x y o q r s f h g i = let p = x.extraction.extracts.text.program in let k = y.extraction.extracts.text.program in
        let same : a ≡ c = (one_answer text w a c bs cs x.extraction y.extraction).0 in
        let first : o ≡ q = one_does p (turns n) (input n) o q f
        (subst (λ (t : ProgramTree). Does t (turns n) (input n) q) (one_text text k p y.extraction.extracts.is_text.parses x.extraction.extracts.is_text.parses) g) in
        let second : r ≡ s = one_does x.extraction.program (twice n) (input n) r s h
        (subst (λ (t : ProgramTree). Does t (twice n) (input n) s)
        (one_text c y.extraction.program x.extraction.program y.extraction.parses (subst (λ (t : List ℕ). Parses t x.extraction.program) same x.extraction.parses)) i) in
        ap (λ (t : List ℕ). summary text t o.printed r.printed) same
        ∙ (ap (λ (v : Outcome). summary text c v.printed r.printed) first ∙ ap (λ (v : Outcome). summary text c q.printed v.printed) second)

    told_agree : (text : List ℕ) (n : ℕ) (w : Wish) (s t : Status) (a b c d : List ℕ) → Summarised text n w s a b → Summarised text n w t c d
        → (s ≡ t) × (a ≡ c) × AreExtractionLines text w b d
    told_agree text n w s t a b c d (undrawn k x) (undrawn l y) = drawn_agree text w s t a b c d x y
    told_agree text n w s _ a b _ _ (undrawn k x) (summarised c cs y q r g i) = absurd (k (drawn_agree text w s Done a b c [] x (extracted c cs y)).0)
    told_agree text n w _ t _ _ c d (summarised a bs x o r f h) (undrawn k y) = absurd (k (drawn_agree text w t Done c d a [] y (extracted a bs x)).0)
    told_agree text n w _ _ _ _ _ _ (summarised a bs x o r f h) (summarised c cs y q s g i) =
        (refl, told_alike text n w a c bs cs x y o q r s f h g i, inl (inl (inl refl)))

    answers_agree : (C : Choices) (q : Option Command) (text : List ℕ) (s t : Status) (a b c d : List ℕ) → AnswersTo C q text s a b
        → AnswersTo C q text t c d → (s ≡ t) × (a ≡ c) × AreLines C q text b d
    answers_agree C None text s t a b c d x y = (x.0 ∙ sym y.0, x.1 ∙ sym y.1, inl (x.2 ∙ sym y.2))
    answers_agree C (Some (extracts name start end w)) text s t a b c d x y = drawn_agree text (wish C name start end w) s t a b c d x y
    answers_agree C (Some checks) text s t a b c d x y = checks_agree text s t a b c d x y
    answers_agree C (Some certifies) text s t a b c d x y = certified_agree excluded one_certificate text (checks_agree text) s t a b c d x y
    answers_agree C (Some verifies) text s t a b c d x y = verdicts_agree verified_once one_verdict text s t a b c d x y
    answers_agree C (Some (compacts name)) text s t a b c d x y = shorts_agree excluded one_short no_short text name (checks_agree text) s t a b c d x y
    answers_agree C (Some (runs turns input)) text s t a b c d x y =
        runs_agree text turns input (checks_agree text) (λ p o q. one_does p turns input o q) s t a b c d x y
    answers_agree C (Some (generates n)) text s t a b c d x y = told_agree (generated n) n (generated_wish C n) s t a b c d x y

    pub defined_agree : (C : Choices) (words : List (List ℕ)) (text : List ℕ) (s t : Status) (a b c d : List ℕ) → Defined C words text s a b → Defined C words text t c d
        → (s ≡ t) × (a ≡ c) × AreLines C (command_of words) text b d
    defined_agree C words text s t a b c d x y = answers_agree C (command_of words) text s t a b c d x y

-- an accepted text has the defined answer of a check, and no other text has it
pub acceptance_defined : (C : Choices) (words : List (List ℕ)) (text : List ℕ) → command_of words ≡ Some checks → IsAccepted text
    → Defined C words text Done (codes "accepted\n") []
acceptance_defined C words text e a = subst (λ (c : Option Command). AnswersTo C c text Done (codes "accepted\n") [])
    (sym e) (program a.program a.parses (passed a.accepted))

judged_accepted : (p : ProgramTree) (s : Status) (out err : List ℕ) → s ≡ Done → Judged p s out err → Accepted p
judged_accepted p _ _ _ e (passed a) = a
judged_accepted p _ _ _ e (faulty f told c) = absurd (cc)

checked_accepted : (text : List ℕ) (s : Status) (out err : List ℕ) → s ≡ Done → Checked text s out err → IsAccepted text
checked_accepted text _ _ _ e (no_program f c) = absurd (cc)
checked_accepted text s out err e (program p x j) = record { program = p; parses = x; accepted = judged_accepted p s out err e j }

pub done_accepted : (C : Choices) (words : List (List ℕ)) (text out err : List ℕ) → command_of words ≡ Some checks
    → Defined C words text Done out err → IsAccepted text
done_accepted C words text out err e d = checked_accepted text Done out err refl
    (subst (λ (c : Option Command). AnswersTo C c text Done out err) e d)
