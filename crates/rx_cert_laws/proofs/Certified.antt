-- A certificate of a text is verified, and so refused for no cause.
use Rattle.std.proofs.Common.{◌≡◌, ℕ, ◌+◌, ◌<◌, ◌≤◌, List, [], length, codes, ◌∷◌, ◌++◌, refl, ap, subst, arith}
use Rattle.std.proofs.lemmas.List.{length-append}
use Rattle.rx_core.specs.declared.types.Bound.{Bound}
use Rattle.rx_tree.specs.Plain.{ProgramTree}
use Rattle.rx_tree.specs.Size.{IsNumbered}
use Rattle.rx_resolve_names.specs.declared.resolved.ItemNames.{ItemNames}
use Rattle.rx_resolve_names.specs.Causes.{Meant}
use Rattle.rx_parse_grammar.specs.grammar.Items.{Parses}
use Rattle.rx_parse_grammar.proofs.Whole.{one_text}
use Rattle.rx_parse.proofs.Causes.{cause_excludes}
use Rattle.rx_typed.specs.declared.declarations.Decl.{Decl}
use Rattle.rx_typed_declarations.specs.WellFormed.{WellSigned}
use Rattle.rx_typeck_typed.specs.Typing.{IsTyped}
use Rattle.rx_typeck_typed.specs.declared.typed.Typed.{Typed}
use Rattle.rx_typeck_typed.specs.declared.typed.TypedFn.{TypedFn}
use Rattle.rx_facts.specs.Functions.{sites_of}
use Rattle.rx_facts.specs.Passing.{AllAre}
use Rattle.rx_check.specs.Contexts.{AreAsked}
use Rattle.rx_check.specs.Functions.{Borrows}
use Rattle.rx_check.specs.Passes.{IsFront, Accepted}
use Rattle.rx_check.specs.Causes.{Causes}
use Rattle.rx_check.specs.declared.fault.CheckFault.{CheckFault}
use Rattle.rx_check.specs.declared.fault.CheckFault.TheVariants as check_fault
use Rattle.rx_check.specs.Answers.{AllBorrow}
use Rattle.rx_check.proofs.Asking.{imposed_within, told_within}
use Rattle.rx_check.proofs.Judging.{context, Covers, acceptance_alike}
use Rattle.rx_cert_lines.specs.declared.line.Line.{Line}
use Rattle.rx_cert_lines.specs.Certificates.{lines_text}
use Rattle.rx_cert.specs.Shapes.{lifetimes_of}
use Rattle.rx_cert.specs.Verified.{IsVerified, VerifyCauses}
use Rattle.rx_cert.specs.declared.fault.VerifyFault.{VerifyFault}
use Rattle.rx_cert.specs.declared.fault.VerifyFault.TheVariants as verify_fault
use Rattle.rx_cert_least.specs.Least.{IsCertificateOf}
use Rattle.rx_cert_least.specs.Certified.{CertifyCauses}
use Rattle.rx_cert_least.specs.declared.fault.CertifyFault.{CertifyFault}
use Rattle.rx_cert_least.specs.declared.fault.CertifyFault.TheVariants as certify_fault
use Rattle.rx_cert_laws.proofs.Lists.{lines_long}
use Rattle.rx_cert_laws.proofs.Functions.{items_below, all_lines, all_good, all_front}

-- by other pairs that fields ask, the same functions are accepted
covers : (D : List Decl) (P Q : ℕ → List Bound) → AreAsked D P → AreAsked D Q → (f : TypedFn) → Covers (context D P (lifetimes_of D f)) (context D Q (lifetimes_of D f))
covers D P Q asked other f = record {
  imposes = imposed_within D D refl P Q asked other (lifetimes_of D f) (λ t u. refl);
  tells = told_within D D refl P Q asked other (lifetimes_of D f);
}

borrow_by : (D : List Decl) (P Q : ℕ → List Bound) → AreAsked D P → AreAsked D Q → (fs : List TypedFn) → AllAre (Borrows D P) fs → AllAre (Borrows D Q) fs
borrow_by D P Q asked other [] h = tt
borrow_by D P Q asked other (f ∷ fs) h = (
  acceptance_alike D D P Q (lifetimes_of D f) (covers D P Q asked other f) (covers D Q P other asked f) (sites_of f) h.0,
  borrow_by D P Q asked other fs h.1,
)

module _ (signed : (p : ProgramTree) (names : List ItemNames) (t : Typed) → IsNumbered p → Meant p names → IsTyped p names t → WellSigned t.decls.items)
    (numbered : (bytes : List ℕ) (p : ProgramTree) → Parses bytes p → length bytes ≤ 1048576 → IsNumbered p) where
  pub certified_verified : (text bytes : List ℕ) → length text ≤ 1048576 → length bytes ≤ 16777216 → IsCertificateOf text bytes → IsVerified bytes
  certified_verified text bytes short few c = record {
    lines = ls;
    text = text;
    certificate = record {
      front = all_front D c.is.implied c.typed.functions ls c.is.least front.small
          (items_below _ front.names 0 4294967296 c.program c.typed.functions (let w : length c.program < 4294967296 = small.items in omega (arith, w)) front.typed.functions) few_lines;
      written = c.is.written;
      short = short;
    };
    good = record {
      fronts = record { program = c.program; parses = c.parses; typed = c.typed; front = front };
      fit = all_lines D c.is.implied c.typed.functions ls c.is.least;
      implied = c.is.implied;
      asked = c.is.asked;
      good = all_good D c.is.implied (signed c.program front.names c.typed small front.meant front.typed) c.typed.functions ls c.is.least
          (borrow_by D borrows.implied c.is.implied borrows.asked c.is.asked c.typed.functions borrows.each);
    };
  } where
    D : List Decl
    D = c.typed.decls.items

    ls : List Line
    ls = c.is.lines

    front : IsFront c.program c.typed
    front = c.accepted.front

    borrows : AllBorrow c.typed
    borrows = c.accepted.borrows

    small : IsNumbered c.program
    small = numbered text c.program c.parses short

    few_lines : length ls ≤ 16777216
    few_lines = let r = lines_long ls in omega (arith, r, few, ap length c.is.written, length-append (lines_text ls) (codes "text" ++ 10 ∷ text))

-- ---- what is refused of none

pub refused_for_memory : (bytes : List ℕ) (e : VerifyFault) → ((e ≡ verify_fault.OutOfMemory → ⊥) → VerifyCauses e bytes → ⊥) → VerifyCauses e bytes → e ≡ verify_fault.OutOfMemory
refused_for_memory bytes (verify_fault.Form n) none h = absurd (none (λ e. absurd (cc)) h)
refused_for_memory bytes (verify_fault.Text s) none h = absurd (none (λ e. absurd (cc)) h)
refused_for_memory bytes (verify_fault.Front s) none h = absurd (none (λ e. absurd (cc)) h)
refused_for_memory bytes (verify_fault.Rule i r) none h = absurd (none (λ e. absurd (cc)) h)
refused_for_memory bytes verify_fault.OutOfMemory none h = refl

module _ (passed : (p : ProgramTree) (e : CheckFault) → Accepted p → Causes e p → e ≡ check_fault.OutOfMemory)
    (one : (text : List ℕ) (a b : List ℕ) → IsCertificateOf text a → IsCertificateOf text b → a ≡ b) where
  pub certified_not_refused : (text bytes : List ℕ) (e : CertifyFault) → (e ≡ certify_fault.OutOfMemory → ⊥) → IsCertificateOf text bytes → length bytes ≤ 16777216
      → CertifyCauses e text → ⊥
  certified_not_refused text bytes (certify_fault.Syntax e) told c few x = cause_excludes text e x.0 x.1 c.program c.parses
  certified_not_refused text bytes (certify_fault.NotAccepted e) told c few x = x.0 (passed x.1.0 e
      (subst (λ p. Accepted p) (one_text text c.program x.1.0 c.parses x.1.1) (c.typed, c.accepted)) x.1.2)
  certified_not_refused text bytes (certify_fault.Limit w n) told c few x =
      let same = ap (λ (b : List ℕ). length b) (one text bytes x.1.0 c x.1.1) in omega (arith, same, few, x.1.2, x.1.3)
  certified_not_refused text bytes certify_fault.OutOfMemory told c few x = told refl
