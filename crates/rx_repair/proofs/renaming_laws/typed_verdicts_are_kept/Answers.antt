use Rattle.rx_check.specs.Contexts.{context_of}
use Rattle.rx_facts.specs.Functions.{sites_of}
use Rattle.rx_repair.proofs.renaming_laws.typed_verdicts_are_kept.Goals as goal

pub returns : goal.returns
returns c = record {
  missing = λ p names t few meant typed f among P items.
      c.renamings_change_no_verdict.ensures.missing (context_of t.decls.items P f) (sites_of f) (c.typed_functions_fit.ensures p names t few meant typed f among P items);
  bounds = λ p names t few meant typed f among P items.
      c.renamings_change_no_verdict.ensures.bounds (context_of t.decls.items P f) (sites_of f) (c.typed_functions_fit.ensures p names t few meant typed f among P items);
  accepted = λ p names t few meant typed f among P items.
      c.renamings_change_no_verdict.ensures.accepted (context_of t.decls.items P f) (sites_of f) (c.typed_functions_fit.ensures p names t few meant typed f among P items);
}
