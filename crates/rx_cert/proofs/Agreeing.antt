-- Two faults of the same bytes are of one test.
use Rattle.std.proofs.Common.{◌≡◌, ◌⊎◌, inl, inr, ℕ, ◌+◌, ◌<◌, ◌≤◌, List, [], ◌∷◌, refl, sym, ap, ◌∙◌, subst, arith}
use Rattle.std.specs.Prelude.{◌≢◌}
use Rattle.std.proofs.lemmas.Bool.{cases_lt}
use Rattle.rx_core.specs.declared.types.Bound.{Bound}
use Rattle.rx_tree.specs.Plain.{ProgramTree}
use Rattle.rx_typed.specs.declared.declarations.Decl.{Decl}
use Rattle.rx_resolve_names.specs.declared.resolved.ItemNames.{ItemNames}
use Rattle.rx_parse_grammar.specs.grammar.Items.{Parses}
use Rattle.rx_parse_grammar.proofs.Whole.{one_text}
use Rattle.rx_parse.specs.Answer.{IsCause}
use Rattle.rx_parse.specs.declared.fault.SyntaxFault.{SyntaxFault}
use Rattle.rx_parse.specs.declared.fault.SyntaxFault.TheVariants as syntax
use Rattle.rx_parse.proofs.Causes.{cause_excludes}
use Rattle.rx_typeck_typed.specs.declared.typed.Typed.{Typed}
use Rattle.rx_typeck_typed.specs.declared.typed.TypedFn.{TypedFn}
use Rattle.rx_typeck_typed.specs.Typing.{IsTyped}
use Rattle.rx_facts.specs.Functions.{sites_of}
use Rattle.rx_facts.specs.Same.{AreSame}
use Rattle.rx_check.specs.Contexts.{context_of}
use Rattle.rx_check.specs.Causes.{Causes, PassCauses}
use Rattle.rx_check.specs.Causes as passes
use Rattle.rx_check.specs.Passes.{Fronted}
use Rattle.rx_check.specs.declared.fault.CheckFault.{CheckFault}
use Rattle.rx_check.specs.declared.fault.CheckFault.TheVariants as check
use Rattle.rx_cert_lines.specs.declared.line.Line.{Line}
use Rattle.rx_cert_lines.specs.Certificates.{IsCertificate, Misread}
use Rattle.rx_cert_lines.proofs.Wholes.{one_certificate, one_misread}
use Rattle.rx_cert_tables.specs.declared.shape.Shape.{Shape}
use Rattle.rx_cert_tables.specs.Fitting.{count, IsMisfit}
use Rattle.rx_cert_rules.proofs.Keeping.{not_broken, one_broken}
use Rattle.rx_cert.specs.Shapes.{shape_of, behind, FirstUnfit}
use Rattle.rx_cert.specs.Sets.{points, sites, region_lines, loan_lines, FirstRule}
use Rattle.rx_cert.specs.Verified.{Fronts, IsUnfit, BreaksRule, Faults, IsRefused, VerifyCauses}
use Rattle.rx_cert.specs.Verdicts.{AreOne}
use Rattle.rx_cert.specs.declared.fault.VerifyFault.{VerifyFault}
use Rattle.rx_cert.specs.declared.fault.VerifyFault.TheVariants as fault
use Rattle.rx_cert.proofs.Alike.{lines_alike, unfit_alike, rule_alike}
use Rattle.rx_cert.proofs.Excluding.{fit_or_unfit, same_typed, share}

-- ---- by one typed program

one_misfit : (f : Shape) (ls : List Line) (m n : ℕ) → IsMisfit f ls m → IsMisfit f ls n → m ≡ n
one_misfit f ls m n a b = by (cases_lt m n) (cases_lt n m) where
  by : (m < n) ⊎ (n ≤ m) → (n < m) ⊎ (m ≤ n) → m ≡ n
  by (inl h) k = absurd (a.here (b.before m h))
  by (inr h) (inl k) = absurd (b.here (a.before n k))
  by (inr h) (inr k) = omega (arith, h, k)

one_unfit : (D : List Decl) (fs : List TypedFn) (ls : List Line) (m n : ℕ) → FirstUnfit D fs ls m → FirstUnfit D fs ls n → m ≡ n
one_unfit D [] ls m n a b = a.0 ∙ sym b.0
one_unfit D (f ∷ fs) ls m n (inl a) (inl b) = one_misfit (shape_of D f) ls m n a b
one_unfit D (f ∷ fs) ls m n (inl a) (inr b) = absurd (a.here (b.0 m a.within))
one_unfit D (f ∷ fs) ls m n (inr a) (inl b) = absurd (b.here (a.0 n b.within))
one_unfit D (f ∷ fs) ls m n (inr a) (inr b) =
    a.1.1 ∙ ap (λ k. count (shape_of D f) + k) (one_unfit D fs (behind D f ls) a.1.0 b.1.0 a.1.2 b.1.2) ∙ sym b.1.1

one_rule : (D : List Decl) (P : ℕ → List Bound) (i r j s : ℕ) (fs : List TypedFn) (ls : List Line) → FirstRule D P i r fs ls → FirstRule D P j s fs ls
    → (i ≡ j) × (r ≡ s)
one_rule D P i r j s [] ls a b = absurd a
one_rule D P i r j s (f ∷ fs) ls (inl a) (inl b) = (
  a.0 ∙ sym b.0,
  one_broken (context_of D P f) (sites_of f) (points (region_lines D f ls)) (sites (loan_lines D f ls)) r s a.1 b.1,
)
one_rule D P i r j s (f ∷ fs) ls (inl a) (inr b) =
    absurd (not_broken (context_of D P f) (sites_of f) (points (region_lines D f ls)) (sites (loan_lines D f ls)) r b.0 a.1)
one_rule D P i r j s (f ∷ fs) ls (inr a) (inl b) =
    absurd (not_broken (context_of D P f) (sites_of f) (points (region_lines D f ls)) (sites (loan_lines D f ls)) s a.0 b.1)
one_rule D P i r j s (f ∷ fs) ls (inr a) (inr b) = one_rule D P i r j s fs (behind D f ls) a.1 b.1

-- ---- by any

has_text : (text : List ℕ) (e : SyntaxFault) → (e ≢ syntax.OutOfMemory) × IsCause e text → (p : ProgramTree) → Parses text p → ⊥
has_text text e x p parses = cause_excludes text e x.0 x.1 p parses

pub of_pass : (e : CheckFault) (p : ProgramTree) → PassCauses e p → Causes e p
of_pass (check.Name f) p h = h
of_pass (check.Types f) p h = h
of_pass (check.Cover f) p h = h
of_pass (check.Lower f) p h = h
of_pass (check.Init f) p h = h
of_pass (check.Region i l k) p h = absurd h
of_pass (check.Loan f) p h = absurd h
of_pass check.OutOfMemory p h = h

-- what a fault of a pass says of a text
abbrev IsStopped : List ℕ → CheckFault → Type 0
IsStopped text e = (e ≢ check.OutOfMemory) × ((p : ProgramTree) × Parses text p × PassCauses e p)

module _ (one_typing : (p : ProgramTree) (names : List ItemNames) (t u : Typed) → IsTyped p names t → IsTyped p names u → AreSame t u)
    (passed : (p : ProgramTree) (e : CheckFault) → Fronted p → PassCauses e p → e ≡ check.OutOfMemory)
    (no_certificate : (ls : List Line) (t bytes : List ℕ) (n : ℕ) → Misread bytes n → IsCertificate ls t bytes → ⊥)
    (one_pass : (p : ProgramTree) (e f : CheckFault) → e ≢ check.OutOfMemory → f ≢ check.OutOfMemory → Causes e p → Causes f p → passes.AreOne e f) where
  has_front : (text : List ℕ) (e : CheckFault) → IsStopped text e → Fronts text → ⊥
  has_front text e x a = x.0 (passed x.1.0 e (subst (λ p. Fronted p) (one_text text a.program x.1.0 a.parses x.1.1) (a.typed, a.front)) x.1.2)

  stopped_once : (text : List ℕ) (e f : CheckFault) → IsStopped text e → IsStopped text f → passes.AreOne e f
  stopped_once text e f x y = one_pass x.1.0 e f x.0 y.0 (of_pass e x.1.0 x.1.2)
      (of_pass f x.1.0 (subst (λ p. PassCauses f p) (one_text text y.1.0 x.1.0 y.1.1 x.1.1) y.1.2))

  unfit_once : (ls : List Line) (text : List ℕ) (m n : ℕ) → IsUnfit ls text m → IsUnfit ls text n → m ≡ n
  unfit_once ls text m n x y = let a = x.fronts in let b = y.fronts in let same = same_typed one_typing text a b in
      x.number ∙ ap (λ k. k + 1) (one_unfit b.typed.decls.items b.typed.functions ls x.place y.place
      (unfit_alike a.typed.decls.items b.typed.decls.items (share one_typing text a b) a.typed.functions b.typed.functions same.functions ls
      x.place x.unfit) y.unfit) ∙ sym y.number

  unfit_keeps_none : (ls : List Line) (text : List ℕ) (n i r : ℕ) → IsUnfit ls text n → BreaksRule ls text i r → ⊥
  unfit_keeps_none ls text n i r x y = let a = y.fronts in let b = x.fronts in let same = same_typed one_typing text a b in
      fit_or_unfit b.typed.decls.items b.typed.functions ls x.place
      (lines_alike a.typed.decls.items b.typed.decls.items (share one_typing text a b) a.typed.functions b.typed.functions same.functions ls y.fit)
      x.unfit

  rule_once : (ls : List Line) (text : List ℕ) (i r j s : ℕ) → BreaksRule ls text i r → BreaksRule ls text j s → (i ≡ j) × (r ≡ s)
  rule_once ls text i r j s x y = let a = x.fronts in let b = y.fronts in let same = same_typed one_typing text a b in
      one_rule b.typed.decls.items y.implied i r j s b.typed.functions ls
      (rule_alike a.typed.decls.items b.typed.decls.items (share one_typing text a b) x.implied y.implied x.asked y.asked i r
      a.typed.functions b.typed.functions same.functions ls x.first) y.first

  faults_one : (ls : List Line) (text : List ℕ) (e f : VerifyFault) → e ≢ fault.OutOfMemory → f ≢ fault.OutOfMemory → Faults e ls text → Faults f ls text → AreOne e f
  faults_one ls text (fault.Form m) (fault.Form n) t u x y = unfit_once ls text m n x y
  faults_one ls text (fault.Form m) (fault.Text f) t u x y = absurd (has_text text f y x.fronts.program x.fronts.parses)
  faults_one ls text (fault.Form m) (fault.Front f) t u x y = absurd (has_front text f y x.fronts)
  faults_one ls text (fault.Form m) (fault.Rule j s) t u x y = absurd (unfit_keeps_none ls text m j s x y)
  faults_one ls text (fault.Text e) (fault.Form n) t u x y = absurd (has_text text e x y.fronts.program y.fronts.parses)
  faults_one ls text (fault.Text e) (fault.Text f) t u x y = tt
  faults_one ls text (fault.Text e) (fault.Front f) t u x y = absurd (has_text text e x y.1.0 y.1.1)
  faults_one ls text (fault.Text e) (fault.Rule j s) t u x y = absurd (has_text text e x y.fronts.program y.fronts.parses)
  faults_one ls text (fault.Front e) (fault.Form n) t u x y = absurd (has_front text e x y.fronts)
  faults_one ls text (fault.Front e) (fault.Text f) t u x y = absurd (has_text text f y x.1.0 x.1.1)
  faults_one ls text (fault.Front e) (fault.Front f) t u x y = stopped_once text e f x y
  faults_one ls text (fault.Front e) (fault.Rule j s) t u x y = absurd (has_front text e x y.fronts)
  faults_one ls text (fault.Rule i r) (fault.Form n) t u x y = absurd (unfit_keeps_none ls text n i r y x)
  faults_one ls text (fault.Rule i r) (fault.Text f) t u x y = absurd (has_text text f y x.fronts.program x.fronts.parses)
  faults_one ls text (fault.Rule i r) (fault.Front f) t u x y = absurd (has_front text f y x.fronts)
  faults_one ls text (fault.Rule i r) (fault.Rule j s) t u x y = rule_once ls text i r j s x y
  faults_one ls text fault.OutOfMemory f t u x y = absurd (t refl)
  faults_one ls text e fault.OutOfMemory t u x y = absurd (u refl)

  -- ---- of bytes

  refused_once : (bytes : List ℕ) (e f : VerifyFault) → e ≢ fault.OutOfMemory → f ≢ fault.OutOfMemory → IsRefused e bytes → IsRefused f bytes → AreOne e f
  refused_once bytes e f t u x y = let same = one_certificate y.lines x.lines y.text x.text bytes y.certificate x.certificate in
      faults_one x.lines x.text e f t u x.cause
      (subst (λ (w : List ℕ). Faults f x.lines w) same.1 (subst (λ (ls : List Line). Faults f ls y.text) same.0 y.cause))

  -- bytes are misread at a line, or a certificate of which the fault is true
  abbrev IsMisread : VerifyFault → List ℕ → Type 0
  IsMisread e bytes = (n : ℕ) × (e ≡ fault.Form n) × Misread bytes n

  misread_or_refused : (bytes : List ℕ) (e : VerifyFault) → e ≢ fault.OutOfMemory → VerifyCauses e bytes → IsMisread e bytes ⊎ IsRefused e bytes
  misread_or_refused bytes (fault.Form n) t (inl m) = inl (n, refl, m)
  misread_or_refused bytes (fault.Form n) t (inr r) = inr r
  misread_or_refused bytes (fault.Text e) t r = inr r
  misread_or_refused bytes (fault.Front e) t r = inr r
  misread_or_refused bytes (fault.Rule i k) t r = inr r
  misread_or_refused bytes fault.OutOfMemory t r = absurd (t refl)

  verdicts_by : (bytes : List ℕ) (e f : VerifyFault) → e ≢ fault.OutOfMemory → f ≢ fault.OutOfMemory → IsMisread e bytes ⊎ IsRefused e bytes
      → IsMisread f bytes ⊎ IsRefused f bytes → AreOne e f
  verdicts_by bytes e f t u (inl a) (inl b) = subst (λ (x : VerifyFault). AreOne x f) (sym a.1)
      (subst (λ (y : VerifyFault). AreOne (fault.Form a.0) y) (sym b.1) (one_misread bytes a.0 b.0 a.2 b.2))
  verdicts_by bytes e f t u (inl a) (inr b) = absurd (no_certificate b.lines b.text bytes a.0 a.2 b.certificate)
  verdicts_by bytes e f t u (inr a) (inl b) = absurd (no_certificate a.lines a.text bytes b.0 b.2 a.certificate)
  verdicts_by bytes e f t u (inr a) (inr b) = refused_once bytes e f t u a b

  pub verdicts_one : (bytes : List ℕ) (e f : VerifyFault) → e ≢ fault.OutOfMemory → f ≢ fault.OutOfMemory → VerifyCauses e bytes → VerifyCauses f bytes → AreOne e f
  verdicts_one bytes e f t u x y = verdicts_by bytes e f t u (misread_or_refused bytes e t x) (misread_or_refused bytes f u y)
