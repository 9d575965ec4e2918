use Rattle.std.specs.Prelude.{[]}
use Rattle.rx_engine_related.specs.ByForm.{by_form}
use Rattle.rx_engine_initial_forms.proofs.Begun.{declared_alike, params_alike, bindings_alike, tests_alike}
use Rattle.rx_engine_initial_forms.proofs.laws.binders_are_alike.Goals as goal

pub returns : goal.returns
returns c = record {
  declared = λ S s N M xs ys d l R g. declared_alike S (by_form s) d l R g;
  params = λ S s N M ps qs d l R g. params_alike S (by_form s) d l R g;
  bindings = λ S s X Y N M bs cs l h R g. bindings_alike S (by_form s) l h R g;
  tests = λ S X Y N ts us l R g. tests_alike S (by_form []) l R g;
}
