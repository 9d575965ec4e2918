use Rattle.std.proofs.Common.{◌≡◌, ◌≢◌, Bool, false, ◌∙◌, sym, subst, true≢false}
use Rattle.std.specs.Prelude.{◌↔◌, IsTrue}
use Rattle.rx_tree.specs.Erase.{SameProgram}
use Rattle.rx_tree.specs.Plain.{ProgramTree}
use Rattle.rx_tree.specs.PlainOf.{plain-Program}
use Rattle.rx_parse_grammar.specs.grammar.Items.{Parses}
use Rattle.rx_parse.specs.declared.fault.SyntaxFault.TheVariants as faults
use Rattle.rx_engine_extraction.specs.Rendering.{IsReadAs}
use Rattle.rx_engine_extraction.proofs.Outcomes.{map_ok}
use Rattle.rx_engine_extraction.proofs.rendering.is_read.Goals as goal

pub returns-in-Ok : goal.returns-in-Ok
returns-in-Ok c = let q = plain-Program c.args.program.now in (
  λ t. (plain-Program c.in-Ok.read, subst (λ b. Parses b (plain-Program c.in-Ok.read)) c.as_bytes.ensures.value c.in-Ok.ensures.found, c.same-is.ensures.0 t),
  λ h. c.same-is.ensures.1
      (subst (λ (p : ProgramTree). SameProgram p q) (sym (c.in-Ok.ensures.only h.0 (subst (λ b. Parses b h.0) (sym c.as_bytes.ensures.value) h.1))) h.2),
)

pub returns-in-Err : goal.returns-in-Err
returns-in-Err c = let text = c.args.text.now in let q = plain-Program c.args.program.now in
    map_ok (λ (b : Bool). (b ≡ false) × (c.in-Err.fault ≢ faults.OutOfMemory)) (λ (b : Bool). IsTrue b ↔ IsReadAs text q)
    (λ b h. (λ t. absurd (true≢false (sym t ∙ h.0)), λ r. absurd (h.1 (c.in-Err.ensures.only r.0 (subst (λ x. Parses x r.0) (sym c.as_bytes.ensures.value) r.1)))))
    c.not_read.result c.not_read.ensures
