use Rattle.std.proofs.Common.{List, sym, ap, ◌∙◌, ◌++◌, subst}
use Rattle.rx_region_outlives.specs.Implied.{pairs_of}
use Rattle.rx_typeck_typed.specs.declared.typed.TypedFn.{TypedFn}
use Rattle.rx_facts.specs.declared.finding.FunctionFacts.{FunctionFacts}
use Rattle.rx_facts.specs.Passing.{Each}
use Rattle.rx_facts.specs.Answers.{IsGraphOf}
use Rattle.rx_check.proofs.Telling.{IsLived}
use Rattle.rx_cert.proofs.Shaping.{all_live}
use Rattle.rx_cert_lines.specs.Certificates.{lines_text}
use Rattle.rx_cert_least.specs.Making.{AddsAll}
use Rattle.rx_cert_least.proofs.Writing.{with_text}
use Rattle.rx_cert_least.proofs.certifying.written.Goals as goal

pub push_all-requires-clause-graphs : goal.push_all-requires-clause-graphs
push_all-requires-clause-graphs c = subst (λ (l : List TypedFn). Each (IsGraphOf c.args.typed.now.decls.items) l c.args.graphs.now) (sym c.as_slice-functions.ensures) c.requires.graphs

pub push_all-requires-clause-live : goal.push_all-requires-clause-live
push_all-requires-clause-live c = let t = c.args.typed.now in let x = c.args.facts.now in
    subst (λ (l : List TypedFn). Each IsLived l c.as_slice-found.result.now) (sym c.as_slice-functions.ensures)
    (subst (λ (l : List FunctionFacts). Each IsLived t.functions l) (sym c.as_slice-found.ensures) (all_live t x.sizes x.functions c.requires.facts.each))

pub returns : goal.returns
returns c = let t = c.args.typed.now in let P = pairs_of c.in_ok-implied.implied.items in
    let all = subst (λ (l : List TypedFn). AddsAll t.decls.items P l c.empty-bytes.result c.push_all.new.text) c.as_slice-functions.ensures c.in_ok-push_all.ensures in record {
      implied = P;
      asked = c.in_ok-implied.ensures.each;
      lines = all.0;
      least = all.1;
      written = with_text all.0 c.args.text.now c.push_all.new.text c.push.new.self c.push-2.new.self
          (all.2 ∙ ap (λ b. b ++ lines_text all.0) c.empty-bytes.ensures) c.in_ok-push.ensures.ok (c.in_ok-push-2.ensures.ok ∙ ap (λ b. c.push.new.self ++ b) c.characters.ensures);
    }
