-- Two answers of `certify` agree, and two of `verify`: a text has one certificate, and two faults of the same bytes are of one test.
use Rattle.std.specs.Prelude.{◌≢◌}
use Rattle.std.proofs.Common.{ℕ, ◌≡◌, ◌<◌, ◌≤◌, List, length, inl, inr, refl, sym, ap, ◌∙◌, subst, arith}
use Rattle.rx_tree.specs.Plain.{ProgramTree}
use Rattle.rx_parse_grammar.specs.grammar.Items.{Parses}
use Rattle.rx_parse_grammar.proofs.Whole.{one_text}
use Rattle.rx_parse.specs.declared.fault.SyntaxFault.{SyntaxFault}
use Rattle.rx_parse.specs.Answer.{IsCause}
use Rattle.rx_check.specs.declared.fault.CheckFault.{CheckFault}
use Rattle.rx_check.specs.declared.fault.CheckFault.TheVariants as check
use Rattle.rx_check.specs.Causes.{Causes, PassCauses, AreOne as AreOnePass}
use Rattle.rx_check.specs.Passes.{Accepted}
use Rattle.rx_cert_lines.proofs.Wholes.{one_certificate}
use Rattle.rx_cert.specs.declared.fault.VerifyFault.{VerifyFault}
use Rattle.rx_cert.specs.declared.fault.VerifyFault.TheVariants as verify
use Rattle.rx_cert.specs.Verified.{IsVerified, IsRefused, VerifyCauses}
use Rattle.rx_cert.specs.Verdicts.{AreOne}
use Rattle.rx_cert.proofs.Agreeing.{of_pass}
use Rattle.rx_cert_least.specs.Least.{IsCertificateOf}
use Rattle.rx_rem_command.specs.declared.status.Status.{Status}
use Rattle.rx_rem_command.specs.declared.status.Status.TheVariants.{NotAccepted}
use Rattle.rx_rem_command.specs.Alike.{AreOneLine, AreCheckLines, AreVerdictLines}
use Rattle.rx_rem_command.specs.CertificateLines.{large_line, form_line, rule_line, IsProgramOf, SaysFault}
use Rattle.rx_rem_command.specs.CheckLines.{line_of_check}
use Rattle.rx_rem_command.specs.Lines.{syntax_line}
use Rattle.rx_rem_command.specs.Defined.{Checked, program, Certified, uncertified, certified, too_large, Verdict, good, bad}
use Rattle.rx_rem_command.proofs.CheckLemmas.{unread, not_accepted}
use Rattle.rx_rem_command.proofs.Reading.{unread_lines}
use Rattle.rx_rem_command.proofs.Certificates.{certificate_accepted, same_program}

module _ (excluded : (p : ProgramTree) (e : CheckFault) → Accepted p → Causes e p → e ≡ check.OutOfMemory)
    (one : (text a b : List ℕ) → IsCertificateOf text a → IsCertificateOf text b → a ≡ b) where
  none_too : (text bytes a b : List ℕ) → Checked text NotAccepted a b → IsCertificateOf text bytes → ⊥
  none_too text bytes a b x y = not_accepted excluded text (certificate_accepted text bytes y) NotAccepted a b refl x

  one_length : (text a b : List ℕ) → IsCertificateOf text a → IsCertificateOf text b → length a ≡ length b
  one_length text a b x y = ap (λ (l : List ℕ). length l) (one text a b x y)

  -- a certificate is short or long
  pub one_size : (text a b : List ℕ) → IsCertificateOf text a → IsCertificateOf text b → length a ≤ 16777216 → 16777216 < length b → ⊥
  one_size text a b x y l m = let e = one_length text a b x y in omega (arith, e, l, m)

  pub certified_agree : (text : List ℕ)
      → ((s t : Status) (a b c d : List ℕ) → Checked text s a b → Checked text t c d → (s ≡ t) × (a ≡ c) × AreCheckLines text b d)
      → (s t : Status) (a b c d : List ℕ) → Certified text s a b → Certified text t c d → (s ≡ t) × (a ≡ c) × AreCheckLines text b d
  certified_agree text agree _ _ a b c d (uncertified x) (uncertified y) = agree NotAccepted NotAccepted a b c d x y
  certified_agree text agree _ _ a b _ _ (uncertified x) (certified n y l) = absurd (none_too text n a b x y)
  certified_agree text agree _ _ a b _ _ (uncertified x) (too_large n y l) = absurd (none_too text n a b x y)
  certified_agree text agree _ _ _ _ c d (certified m x k) (uncertified y) = absurd (none_too text m c d y x)
  certified_agree text agree _ _ _ _ _ _ (certified m x k) (certified n y l) = (refl, one text m n x y, inl (inl refl))
  certified_agree text agree _ _ _ _ _ _ (certified m x k) (too_large n y l) = absurd (one_size text m n x y k l)
  certified_agree text agree _ _ _ _ c d (too_large m x k) (uncertified y) = absurd (none_too text m c d y x)
  certified_agree text agree _ _ _ _ _ _ (too_large m x k) (certified n y l) = absurd (one_size text n m y x l k)
  certified_agree text agree _ _ _ _ _ _ (too_large m x k) (too_large n y l) = (refl, refl, inl (inl (ap large_line (one_length text m n x y))))

module _ (verified_once : (bytes : List ℕ) (e : VerifyFault) → e ≢ verify.OutOfMemory → IsVerified bytes → VerifyCauses e bytes → ⊥)
    (one_verdict : (bytes : List ℕ) (e f : VerifyFault) → e ≢ verify.OutOfMemory → f ≢ verify.OutOfMemory → VerifyCauses e bytes → VerifyCauses f bytes → AreOne e f) where
  -- two causes of one text
  text_lines : (bytes a b : List ℕ) (e f : SyntaxFault) → IsRefused (verify.Text e) bytes → IsRefused (verify.Text f) bytes → a ≡ syntax_line e → b ≡ syntax_line f
      → AreVerdictLines bytes a b
  text_lines bytes a b e f x y p q =
      let same = one_certificate y.lines x.lines y.text x.text bytes y.certificate x.certificate in
      let c : IsCause f x.text = subst (λ (t : List ℕ). IsCause f t) same.1 y.cause.1 in
      inr (
        x.lines,
        x.text,
        x.certificate,
        inl (subst (λ (l : List ℕ). AreOneLine l b) (sym p) (subst (λ (l : List ℕ). AreOneLine (syntax_line e) l) (sym q)
            (unread_lines x.text e f (unread x.text e x.cause.0 x.cause.1) (unread x.text f y.cause.0 c)))),
      )

  -- two faults of one pass of one text
  pass_lines : (bytes a b : List ℕ) (e f : CheckFault) → IsRefused (verify.Front e) bytes → IsRefused (verify.Front f) bytes
      → (p q : ProgramTree) → IsProgramOf bytes p → IsProgramOf bytes q → a ≡ line_of_check p e → b ≡ line_of_check q f → AreOnePass e f → AreVerdictLines bytes a b
  pass_lines bytes a b e f x y p q u v k l alike =
      let t = u.text in let c = u.certificate in
      let same : q ≡ p = one_text t q p (same_program bytes t u.lines q c v) u.parses in
      let own = one_certificate x.lines u.lines x.text t bytes x.certificate c in
      let other = one_certificate y.lines u.lines y.text t bytes y.certificate c in
      inr (
        u.lines,
        t,
        c,
        inr (record {
          program = p;
          parses = u.parses;
          one = e;
          other = f;
          cause_one = of_pass e p (subst (λ (r : ProgramTree). PassCauses e r)
              (one_text t x.cause.1.0 p (subst (λ (w : List ℕ). Parses w x.cause.1.0) own.1 x.cause.1.1) u.parses) x.cause.1.2);
          cause_other = of_pass f p (subst (λ (r : ProgramTree). PassCauses f r)
              (one_text t y.cause.1.0 p (subst (λ (w : List ℕ). Parses w y.cause.1.0) other.1 y.cause.1.1) u.parses) y.cause.1.2);
          alike = alike;
          line_one = k;
          line_other = l ∙ ap (λ (r : ProgramTree). line_of_check r f) same;
        }),
      )

  verdict_lines : (bytes a b : List ℕ) (e f : VerifyFault) → VerifyCauses e bytes → VerifyCauses f bytes → SaysFault bytes e a → SaysFault bytes f b → AreOne e f
      → AreVerdictLines bytes a b
  verdict_lines bytes a b (verify.Form m) (verify.Form n) x y p q o = inl (p ∙ ap form_line o ∙ sym q)
  verdict_lines bytes a b (verify.Rule i r) (verify.Rule j s) x y p q o = inl (p ∙ ap (λ k. rule_line k r) o.0 ∙ ap (rule_line j) o.1 ∙ sym q)
  verdict_lines bytes a b (verify.Text e) (verify.Text f) x y p q o = text_lines bytes a b e f x y p q
  verdict_lines bytes a b (verify.Front e) (verify.Front f) x y p q o = pass_lines bytes a b e f x y p.0 q.0 p.1 q.1 p.2 q.2 o
  verdict_lines bytes a b e f x y p q o = absurd o

  pub verdicts_agree : (bytes : List ℕ) (s t : Status) (a b c d : List ℕ) → Verdict bytes s a b → Verdict bytes t c d
      → (s ≡ t) × (a ≡ c) × AreVerdictLines bytes b d
  verdicts_agree bytes _ _ _ _ _ _ (good v) (good w) = (refl, refl, inl refl)
  verdicts_agree bytes _ _ _ _ _ _ (good v) (bad e n c s) = absurd (verified_once bytes e n v c)
  verdicts_agree bytes _ _ _ _ _ _ (bad e n c s) (good v) = absurd (verified_once bytes e n v c)
  verdicts_agree bytes _ _ _ b _ d (bad e n c s) (bad f m k r) = (refl, refl, verdict_lines bytes b d e f c k s r (one_verdict bytes e f n m c k))
