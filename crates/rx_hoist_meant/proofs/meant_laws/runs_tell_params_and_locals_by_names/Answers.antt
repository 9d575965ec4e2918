use Rattle.std.proofs.Common.{slice_get, sym, subst}
use Rattle.rx_typed.specs.Tree.{Function}
use Rattle.rx_exits.specs.Refusing.{same_name}
use Rattle.rx_hoist_naming.specs.DeclaredNames.{declared_names}
use Rattle.rx_hoist_meant.specs.NamesMeant.{NamesMeant}
use Rattle.rx_hoist_meant.proofs.meant_laws.runs_tell_params_and_locals_by_names.Goals as goal

pub returns : goal.returns
returns c = record {
  meant = λ p names t few m typed f a A k is s plan x i. c.params_and_locals_have_their_own_names.ensures.meant A k (declared_names (slice_get p f.item)) s
      (subst (λ (g : Function). NamesMeant (same_name (declared_names (slice_get p f.item))) g) (sym is) (c.names_mean_their_variables.ensures p names t few m typed f a)) plan x i;
  apart = λ p names t few m typed f a A k is s plan x y i j e. c.params_and_locals_have_their_own_names.ensures.apart A k (declared_names (slice_get p f.item)) s
      (subst (λ (g : Function). NamesMeant (same_name (declared_names (slice_get p f.item))) g) (sym is) (c.names_mean_their_variables.ensures p names t few m typed f a)) plan x y i j e;
}
