-- The ends of variables that are still to come.
use Rattle.std.proofs.Common.{◌≡◌, ℕ, ◌+◌, ◌-◌, ◌<◌, List, [], ◌∷◌, ◌++◌, length, map, refl, sym, ap, ◌∙◌, append_assoc, append-nil, arith}
use Rattle.rx_lower_walks.specs.Graph as graph
use Rattle.rx_lower_walks.specs.declared.around.Around.{Around}
use Rattle.rx_lower_walks.specs.declared.site.Site.{Site}
use Rattle.rx_lower_walks.specs.declared.site.Open.{Open}
use Rattle.rx_lower_walks.specs.PlainSite.{plain-Site}
use Rattle.rx_lower_walks.specs.Around.{with_variable}
use Rattle.rx_lower_walks.specs.Emitted.{closed, closing, with_open}

pub sites_push : (l : List Site) (s : Site) → map plain-Site (l ++ s ∷ []) ≡ map plain-Site l ++ plain-Site s ∷ []
sites_push [] s = refl
sites_push (t ∷ l) s = ap (λ (r : List graph.Site). plain-Site t ∷ r) (sites_push l s)

pub closing_last : (os : List Open) (o : Open) → closing (os ++ o ∷ []) ≡ closed o ++ closing os
closing_last [] o = sym (append-nil (closed o))
closing_last (p ∷ os) o = ap (λ (l : List graph.Site). l ++ closed p) (closing_last os o) ∙ append_assoc (closed o) (closing os) (closed p)

pub open_last : (os : List Open) (o : Open) (A : Around) → with_open (os ++ o ∷ []) A ≡ with_variable o.variable (with_open os A)
open_last [] o A = refl
open_last (p ∷ os) o A = open_last os o (with_variable p.variable A)

length_last : (os : List Open) (o : Open) → length (os ++ o ∷ []) ≡ length os + 1
length_last [] o = refl
length_last (p ∷ os) o = omega (arith, length_last os o)

module _ (n turn : ℕ) (lt : turn < n) (os new : List Open) (o : Open) (e : os ≡ new ++ o ∷ []) where
  pub one_fewer : length os ≡ n - turn → length new ≡ n - (turn + 1)
  one_fewer h = let k : length os ≡ length new + 1 = ap length e ∙ length_last new o in omega (arith, h, k, lt)

  pub one_closed : (out more whole : List graph.Site) → more ≡ out ++ closed o → out ++ closing os ≡ whole → more ++ closing new ≡ whole
  one_closed out more whole d h =
      ap (λ (l : List graph.Site). l ++ closing new) d ∙ append_assoc out (closed o) (closing new)
      ∙ ap (λ l. out ++ l) (sym (ap closing e ∙ closing_last new o)) ∙ h

  pub one_out : (A B C D : Around) → A ≡ with_open os D → ((E : Around) → A ≡ with_variable o.variable E → B ≡ E) → C ≡ B → C ≡ with_open new D
  one_out A B C D h f g = g ∙ f (with_open new D) (h ∙ ap (λ os. with_open os D) e ∙ open_last new o D)

pub none_left : {B : Type 0} (n turn : ℕ) (os : List Open) → turn < n → os ≡ [] → length os ≡ n - turn → B
none_left n turn os lt e h = let k : length os ≡ 0 = ap length e in absurd (omega (arith, k, h, lt))
