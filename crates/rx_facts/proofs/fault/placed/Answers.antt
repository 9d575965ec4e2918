use Rattle.std.proofs.Common.{List, ap, ◌∙◌, subst}
use Rattle.rx_core.specs.declared.types.Span.{Span}
use Rattle.rx_facts.specs.Functions.{span_of}
use Rattle.rx_facts.specs.Answers.{NodeSays}
use Rattle.rx_facts.proofs.fault.placed.Goals as goal

pub returns-in-Unset : goal.returns-in-Unset
returns-in-Unset c D P says = (
  c.in-Unset.node,
  c.span_of.ensures ∙ ap (λ (l : List Span). span_of l c.in-Unset.node) c.as_slice.ensures,
  subst (λ e. NodeSays D P c.args.function.now e) c.in-Unset.is says,
)

pub returns-in-Again : goal.returns-in-Again
returns-in-Again c D P says = (
  c.in-Again.node,
  c.in-Again.variable,
  c.span_of-in-Again.ensures ∙ ap (λ (l : List Span). span_of l c.in-Again.node) c.as_slice-in-Again.ensures,
  c.span_of-in-Again-2.ensures ∙ ap (λ (l : List Span). span_of l c.in-Again.variable) c.as_slice-in-Again-2.ensures,
  subst (λ e. NodeSays D P c.args.function.now e) c.in-Again.is says,
)
