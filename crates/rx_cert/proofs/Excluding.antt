-- Bytes that are verified have no cause of a refusal.
use Rattle.std.proofs.Common.{◌≡◌, inl, inr, ℕ, List, [], ◌∷◌, length, refl, sym, ap, subst, arith}
use Rattle.std.specs.Prelude.{◌≢◌}
use Rattle.rx_core.specs.declared.types.Bound.{Bound}
use Rattle.rx_tree.specs.Plain.{ProgramTree}
use Rattle.rx_typed.specs.declared.declarations.Decl.{Decl}
use Rattle.rx_resolve_names.specs.declared.resolved.ItemNames.{ItemNames}
use Rattle.rx_parse_grammar.proofs.Whole.{one_text}
use Rattle.rx_parse.proofs.Causes.{cause_excludes}
use Rattle.rx_typeck_typed.specs.declared.typed.Typed.{Typed}
use Rattle.rx_typeck_typed.specs.declared.typed.TypedFn.{TypedFn}
use Rattle.rx_typeck_typed.specs.Typing.{IsTyped}
use Rattle.rx_facts.specs.Functions.{sites_of}
use Rattle.rx_facts.specs.Same.{AreSame}
use Rattle.rx_check.specs.Contexts.{context_of}
use Rattle.rx_check.specs.Causes.{PassCauses}
use Rattle.rx_check.specs.Passes.{IsFront, Fronted}
use Rattle.rx_check.specs.declared.fault.CheckFault.{CheckFault}
use Rattle.rx_check.specs.declared.fault.CheckFault.TheVariants as check
use Rattle.rx_check.proofs.NameLemmas.{one_meaning}
use Rattle.rx_cert_lines.specs.declared.line.Line.{Line}
use Rattle.rx_cert_lines.specs.Certificates.{IsCertificate, Misread}
use Rattle.rx_cert_lines.proofs.Wholes.{one_certificate}
use Rattle.rx_cert_rules.proofs.Keeping.{not_broken}
use Rattle.rx_cert.specs.Shapes.{behind, AreLinesOf, FirstUnfit}
use Rattle.rx_cert.specs.Sets.{points, sites, region_lines, loan_lines, AllGood, FirstRule}
use Rattle.rx_cert.specs.Verified.{Fronts, IsGood, Faults, IsVerified, IsRefused, VerifyCauses}
use Rattle.rx_cert.specs.declared.fault.VerifyFault.{VerifyFault}
use Rattle.rx_cert.specs.declared.fault.VerifyFault.TheVariants as fault
use Rattle.rx_cert.proofs.Alike.{Shared, shared, lines_alike, all_good_alike}

-- ---- by one typed program

pub fit_or_unfit : (D : List Decl) (fs : List TypedFn) (ls : List Line) (n : ℕ) → AreLinesOf D fs ls → FirstUnfit D fs ls n → ⊥
fit_or_unfit D [] ls n fit u = let e = ap (λ (x : List Line). length x) fit in omega (arith, u.1, e)
fit_or_unfit D (f ∷ fs) ls n fit (inl m) = m.here (fit.0 n m.within)
fit_or_unfit D (f ∷ fs) ls n fit (inr u) = fit_or_unfit D fs (behind D f ls) u.1.0 fit.1 u.1.2

good_or_broken : (D : List Decl) (P : ℕ → List Bound) (i r : ℕ) (fs : List TypedFn) (ls : List Line) → AllGood D P fs ls → FirstRule D P i r fs ls → ⊥
good_or_broken D P i r [] ls good b = b
good_or_broken D P i r (f ∷ fs) ls good (inl b) =
    not_broken (context_of D P f) (sites_of f) (points (region_lines D f ls)) (sites (loan_lines D f ls)) r good.0 b.1
good_or_broken D P i r (f ∷ fs) ls good (inr b) = good_or_broken D P i r fs (behind D f ls) good.1 b.1

-- ---- by any

module _ (one_typing : (p : ProgramTree) (names : List ItemNames) (t u : Typed) → IsTyped p names t → IsTyped p names u → AreSame t u) where
  front_too : (text : List ℕ) (a b : Fronts text) → IsFront a.program b.typed
  front_too text a b = subst (λ p. IsFront p b.typed) (sym (one_text text a.program b.program a.parses b.parses)) b.front

  typed_too : (text : List ℕ) (a b : Fronts text) → IsTyped a.program a.front.names b.typed
  typed_too text a b = let f = front_too text a b in
      subst (λ ns. IsTyped a.program ns b.typed) (one_meaning a.program f.names a.front.names f.meant a.front.meant) f.typed

  pub same_typed : (text : List ℕ) (a b : Fronts text) → AreSame a.typed b.typed
  same_typed text a b = one_typing a.program a.front.names a.typed b.typed a.front.typed (typed_too text a b)

  pub share : (text : List ℕ) (a b : Fronts text) → Shared a.typed.decls.items b.typed.decls.items
  share text a b = shared a.typed.decls.items b.typed.decls.items (same_typed text a b).items a.front.typed.recorded (typed_too text a b).recorded

module _ (one_typing : (p : ProgramTree) (names : List ItemNames) (t u : Typed) → IsTyped p names t → IsTyped p names u → AreSame t u)
    (passed : (p : ProgramTree) (e : CheckFault) → Fronted p → PassCauses e p → e ≡ check.OutOfMemory)
    (no_certificate : (ls : List Line) (t bytes : List ℕ) (n : ℕ) → Misread bytes n → IsCertificate ls t bytes → ⊥) where
  refused : (ls : List Line) (text : List ℕ) → IsGood ls text → (e : VerifyFault) → e ≢ fault.OutOfMemory → Faults e ls text → ⊥
  refused ls text good (fault.Form n) told u = let a = good.fronts in let b = u.fronts in
      fit_or_unfit b.typed.decls.items b.typed.functions ls u.place
      (lines_alike a.typed.decls.items b.typed.decls.items (share one_typing text a b) a.typed.functions b.typed.functions (same_typed one_typing text a b).functions ls good.fit) u.unfit
  refused ls text good (fault.Text e) told x = cause_excludes text e x.0 x.1 good.fronts.program good.fronts.parses
  refused ls text good (fault.Front e) told x = x.0 (passed x.1.0 e
      (subst (λ p. Fronted p) (one_text text good.fronts.program x.1.0 good.fronts.parses x.1.1) (good.fronts.typed, good.fronts.front)) x.1.2)
  refused ls text good (fault.Rule i r) told x = let a = good.fronts in let b = x.fronts in
      good_or_broken b.typed.decls.items x.implied i r b.typed.functions ls
      (all_good_alike a.typed.decls.items b.typed.decls.items (share one_typing text a b) good.implied x.implied good.asked x.asked a.typed.functions b.typed.functions
      (same_typed one_typing text a b).functions ls good.good) x.first
  refused ls text good fault.OutOfMemory told x = told refl

  of_refused : (bytes : List ℕ) (e : VerifyFault) → e ≢ fault.OutOfMemory → IsVerified bytes → IsRefused e bytes → ⊥
  of_refused bytes e told v r = let same = one_certificate r.lines v.lines r.text v.text bytes r.certificate v.certificate in
      refused v.lines v.text v.good e told
      (subst (λ (t : List ℕ). Faults e v.lines t) same.1 (subst (λ (ls : List Line). Faults e ls r.text) same.0 r.cause))

  pub verified_or_refused : (bytes : List ℕ) (e : VerifyFault) → e ≢ fault.OutOfMemory → IsVerified bytes → VerifyCauses e bytes → ⊥
  verified_or_refused bytes (fault.Form n) told v (inl m) = no_certificate v.lines v.text bytes n m v.certificate
  verified_or_refused bytes (fault.Form n) told v (inr r) = of_refused bytes (fault.Form n) told v r
  verified_or_refused bytes (fault.Text e) told v r = of_refused bytes (fault.Text e) told v r
  verified_or_refused bytes (fault.Front e) told v r = of_refused bytes (fault.Front e) told v r
  verified_or_refused bytes (fault.Rule i k) told v r = of_refused bytes (fault.Rule i k) told v r
  verified_or_refused bytes fault.OutOfMemory told v r = told refl

-- a fault of bytes that are verified is want of memory
pub only_memory : (e : VerifyFault) → (e ≢ fault.OutOfMemory → ⊥) → e ≡ fault.OutOfMemory
only_memory (fault.Form n) never = absurd (never (λ x. cc))
only_memory (fault.Text s) never = absurd (never (λ x. cc))
only_memory (fault.Front s) never = absurd (never (λ x. cc))
only_memory (fault.Rule i r) never = absurd (never (λ x. cc))
only_memory fault.OutOfMemory never = refl
