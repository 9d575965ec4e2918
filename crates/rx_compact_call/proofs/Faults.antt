-- Faults of the text's form and of the check as those of a short signature.
use Rattle.std.proofs.Common.{ℕ, List}
use Rattle.rx_tree.specs.Plain.{ProgramTree}
use Rattle.rx_parse_grammar.specs.grammar.Items.{Parses}
use Rattle.rx_parse.specs.Answer.{IsCause}
use Rattle.rx_parse.specs.declared.fault.SyntaxFault.{SyntaxFault}
use Rattle.rx_parse.specs.declared.fault.SyntaxFault.TheVariants as syntax
use Rattle.rx_check.specs.Causes.{Causes}
use Rattle.rx_check.specs.declared.fault.CheckFault.{CheckFault}
use Rattle.rx_check.specs.declared.fault.CheckFault.TheVariants as check
use Rattle.rx_compact_call.specs.Shortened.{CompactCauses}
use Rattle.rx_compact_call.specs.Making.{of_text, of_check}

pub check_fault : (text name : List ℕ) (p : ProgramTree) → Parses text p → (e : CheckFault) → Causes e p → CompactCauses (of_check e) text name
check_fault text name p parses (check.Name f) h = (λ x. cc, (p, parses, h))
check_fault text name p parses (check.Types f) h = (λ x. cc, (p, parses, h))
check_fault text name p parses (check.Cover f) h = (λ x. cc, (p, parses, h))
check_fault text name p parses (check.Lower f) h = (λ x. cc, (p, parses, h))
check_fault text name p parses (check.Init f) h = (λ x. cc, (p, parses, h))
check_fault text name p parses (check.Region i l k) h = (λ x. cc, (p, parses, h))
check_fault text name p parses (check.Loan f) h = (λ x. cc, (p, parses, h))
check_fault text name p parses check.OutOfMemory h = tt

pub text_fault : (text name : List ℕ) (e : SyntaxFault) → IsCause e text → CompactCauses (of_text e) text name
text_fault text name (syntax.Lex f) h = (λ x. cc, h)
text_fault text name (syntax.Syntax at) h = (λ x. cc, h)
text_fault text name (syntax.TooDeep at) h = (λ x. cc, h)
text_fault text name syntax.OutOfMemory h = tt
