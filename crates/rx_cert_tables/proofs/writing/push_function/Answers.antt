-- The function's line, those of its lifetimes and those of its loans.
use Rattle.std.proofs.Common.{ap, ◌∙◌, ◌++◌, ◌∷◌, []}
use Rattle.rx_cert_lines.specs.Lines.{line_text}
use Rattle.rx_cert_tables.proofs.Placed.{written}
use Rattle.rx_cert_tables.proofs.writing.push_function.Goals as goal

pub returns : goal.returns
returns c =
    written c.args.shape.now c.args.regions.now c.args.loans.now c.args.text.now c.push_line.new.text c.push_regions.new.text c.push_loans.new.text
    (c.in_ok-push_line.ensures ∙ ap (λ l. c.args.text.now ++ (line_text l ++ 10 ∷ [])) c.in_ok-line.ensures) c.in_ok-push_regions.ensures c.in_ok-push_loans.ensures
