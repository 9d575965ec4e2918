-- What an expression asks as an initialiser with a type stands for what the text's asks at a coercion site: a place may be moved from there, so
-- a test is dropped.
use Rattle.std.proofs.Common.{◌≡◌, ℕ, Bool, true, false, List, [], ◌∷◌, ◌++◌, append-nil, refl, sym, subst}
use Rattle.rx_core.specs.declared.types.Span.{Span}
use Rattle.rx_typed.specs.declared.nodes.Node.{Node}
use Rattle.rx_typed.specs.declared.nodes.Site.{Site}
use Rattle.rx_typed.specs.declared.nodes.Use.{Use}
use Rattle.rx_typed.specs.Named.{Exp, is_place, node_of, root}
use Rattle.rx_typeck_solver.specs.declared.facts.Broken.{Broken}
use Rattle.rx_typeck_solver.specs.declared.facts.Subject.{Subject}
use Rattle.rx_typeck_solver.specs.declared.facts.Passing.{Passing}
use Rattle.rx_typeck_solver.specs.declared.facts.Op.{Op}
use Rattle.rx_typeck_solver.specs.declared.facts.Op.TheVariants as op
use Rattle.rx_typeck_solver.specs.declared.facts.Test.{Test}
use Rattle.rx_typeck_solver.specs.declared.facts.Fact.TheVariants as fact
use Rattle.rx_typeck_solver.specs.declared.facts.Demand.{Demand}
use Rattle.rx_typeck_typed.specs.Demands as rules
use Rattle.rx_engine_blocks.specs.Renumbering.{Renumbering, node_at, op_at}
use Rattle.rx_engine_blocks.specs.DemandsLike.{DemandsLike}
use Rattle.rx_engine_blocks.specs.DemandsLike.DemandsLike.{like_other_demands}
use Rattle.rx_engine_blocks.specs.Seen.{a_demand}
use Rattle.rx_engine_typing.specs.Renumbered as like
use Rattle.rx_engine_typing.specs.Renumbered.{Holes, NodeAt, RenumberedExp, use_at, use_so}
use Rattle.rx_engine_typing.specs.Renumbered.NodeAt.{renumbered}
use Rattle.rx_engine_typing.proofs.Looks.{Fits, ThroughLike, like_node, like_root, root_through}
use Rattle.rx_engine_typing.proofs.Looks.ThroughLike.{same, longer}
use Rattle.rx_engine_typing.proofs.Rules.{asked, longer_like, named_like}
use Rattle.rx_engine_typing.proofs.Forms.{AsksIn, exp_alike}
use Rattle.rx_engine_holes.specs.Sited.{sited, at_site}
use Rattle.rx_engine_holes.proofs.Sited.{value_asks}

named_same : (n : Node) (x : Use) (k : Bool) (ds : List Demand) → rules.named_at (sited Site.Initialises n) x k ds ≡ rules.named_at n x k ds
named_same n x true ds = refl
named_same n x false ds = refl

pub site_of : {r : Renumbering} {n n' : Node} → NodeAt r n n' → n.site ≡ Site.Expects → n'.site ≡ Site.Expects
site_of renumbered z = z

module _ (r : Renumbering) (loops : ℕ → ℕ) (H : Holes) (S : List Demand → List Demand → Type 0) (fits : Fits r loops H S)
    (dropped : (n : ℕ) (s : Span) (b : Broken) (t : Test) (xs : List Subject) (anc ps : List Passing) → S (a_demand n s b (fact.Passes t xs anc ps) ∷ []) []) where
  abbrev R : List Demand → List Demand → Type 0
  R = DemandsLike r S

  drop : (n : ℕ) (s : Span) (b : Broken) (t : Test) (xs : List Subject) (anc ps : List Passing) {ds ds' : List Demand} → R ds ds' → R (ds ++ a_demand n s b (fact.Passes t xs anc ps) ∷ []) ds'
  drop n s b t xs anc ps {ds} {ds'} d = subst (R (ds ++ a_demand n s b (fact.Passes t xs anc ps) ∷ [])) (append-nil ds') (like_other_demands _ [] d (dropped n s b t xs anc ps))

  initialises : (n : Node) (s : Span) (x x' : ℕ) {ps ps' : List Passing} {ds ds' : List Demand} → ThroughLike r S ps ps' → R ds ds'
      → R (rules.place_in n x ps Site.Expects ds) (rules.place_in (node_at r n s) x' ps' Site.Initialises ds')
  initialises n s x x' same d = asked r loops H S fits n s _ _ _ _ (drop _ _ _ _ _ _ _ (asked r loops H S fits n s _ _ _ _ d))
  initialises n s x x' (longer l k) d = longer_like r loops H S fits l k n s _ _ _ _ _ _ _ (drop _ _ _ _ _ _ _ (asked r loops H S fits n s _ _ _ _ d))

  pub place_initialises : (n : Node) (s : Span) (x x' : ℕ) {ps ps' : List Passing} {ds ds' : List Demand} → n.site ≡ Site.Expects → ThroughLike r S ps ps' → R ds ds'
      → R (rules.place_in n x ps n.site ds) (rules.place_in (node_at r n s) x' ps' Site.Initialises ds')
  place_initialises n s x x' {ps} {ps'} {ds} {ds'} z t d = subst (λ (y : Site). R (rules.place_in n x ps y ds) (rules.place_in (node_at r n s) x' ps' Site.Initialises ds')) (sym z) (initialises n s x x' t d)

  step_like : (n : Node) (s : Span) (o : Op) {a a' : Node} {ds ds' : List Demand} → NodeAt r a a' → R ds ds' → R (rules.step_at n o a ds) (rules.step_at (node_at r n s) (op_at r o) a' ds')
  step_like n s o renumbered d = asked r loops H S fits n s _ _ _ _ d

  module _ (f g : ℕ) (asking : AsksIn r loops H S f g)
      (holes : (e e' : Exp) (ds ds' : List Demand) → H.expression e e' → (node_of e).site ≡ Site.Expects → R ds ds' → R (rules.of_exp f e ds) (rules.of_exp g (at_site Site.Initialises e') ds')) where
    by_place : (b : Bool) {e e' : Exp} {ds ds' : List Demand} → RenumberedExp r loops H e e' → is_place e' ≡ b → (node_of e).site ≡ Site.Expects → R ds ds'
        → R (rules.of_exp f e ds) (rules.of_exp g (at_site Site.Initialises e') ds')
    by_place false {e} {e'} {ds} {ds'} h w z d = subst (R (rules.of_exp f e ds)) (sym (value_asks g e' w (site_of (like_node r loops H S fits h) z) ds')) (exp_alike r loops H S fits f asking h d)
    by_place true {ds = ds} {ds' = ds'} (like.RenumberedExp.hole {e = e} {e' = e'} h) w z d = holes e e' ds ds' h z d
    by_place true {ds = ds} {ds' = ds'} (like.RenumberedExp.var {n = n} {s = s} {x = x}) w z d = place_initialises n s x.number (r.variables x.number) z same
        (subst (R (rules.named_at n x x.known ds)) (sym (named_same (node_at r n s) (use_at r x) x.known ds')) (named_like r loops H S fits n s x x.known d))
    by_place true {ds = ds} {ds' = ds'} (like.RenumberedExp.other_var {n = n} {s = s} {x = x} {m = m} {k = k} u) w z d = place_initialises n s x.number (r.variables x.number) z same
        (subst (R (rules.named_at n x x.known ds)) (sym (named_same (node_at r n s) (use_so r m k x) k ds')) ((fits.uses x m k u).named n s ds ds' d))
    by_place true (like.RenumberedExp.field {n = n} {s = s} {e = e} {e' = e'} {x = x} h) w z d = place_initialises n s (root e).number (root e').number z
        (root_through (like_root r loops H S fits (like.RenumberedExp.field {n = n} {s = s} {x = x} h))) (step_like n s (op.Field x) (like_node r loops H S fits h) (exp_alike r loops H S fits f asking h d))
    by_place true (like.RenumberedExp.part {n = n} {s = s} {e = e} {e' = e'} {i = i} h) w z d = place_initialises n s (root e).number (root e').number z
        (root_through (like_root r loops H S fits (like.RenumberedExp.part {n = n} {s = s} {i = i} h))) (step_like n s (op.Part i) (like_node r loops H S fits h) (exp_alike r loops H S fits f asking h d))
    by_place true (like.RenumberedExp.deref {n = n} {s = s} {e = e} {e' = e'} h) w z d = place_initialises n s (root e).number (root e').number z
        (root_through (like_root r loops H S fits (like.RenumberedExp.deref {n = n} {s = s} h))) (step_like n s op.Pointee (like_node r loops H S fits h) (exp_alike r loops H S fits f asking h d))
    by_place true _ w z d = absurd (cc)

    pub initialiser_like : {e e' : Exp} {ds ds' : List Demand} → RenumberedExp r loops H e e' → (node_of e).site ≡ Site.Expects → R ds ds'
        → R (rules.of_exp f e ds) (rules.of_exp g (at_site Site.Initialises e') ds')
    initialiser_like {e} {e'} h z d = by_place (is_place e') h refl z d
