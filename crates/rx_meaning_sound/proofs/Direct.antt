-- A place of an elaborated tree goes through no variant, and is of a variable.
use Rattle.std.proofs.Common.{◌≡◌, ℕ, List, [], ◌∷◌, ◌++◌}
use Rattle.rx_core.specs.declared.types.Step.{Step}
use Rattle.rx_core.specs.declared.types.Step.TheVariants as step
use Rattle.rx_typed.specs.Types.{Typ, peeled}
use Rattle.rx_typed.specs.Named as named
use Rattle.rx_typed.specs.Named.{Exp, node_of}
use Rattle.rx_typed.specs.Elaborated as elaborated
use Rattle.rx_typed.specs.Elaborated.{Assigned}
use Rattle.rx_typed.specs.Tree.{Place, under}
use Rattle.rx_meaning_covered.specs.Ways.{HasNoVariant, IsDirect}
use Rattle.rx_meaning_sound.proofs.Elaborating.{no_variant_both, no_variant_in, no_variant_one}

module _ (T : Assigned) where
  pub further : (p : Place) (ss : List Step) → HasNoVariant ss → IsDirect p → IsDirect (under p ss)
  further p ss n h = (no_variant_both T p.steps ss h.0 n, h.1)

  stepped : (t : Typ) (k : ℕ) → HasNoVariant (elaborated.dereferences t ++ step.Field k ∷ [])
  stepped t k = no_variant_both T (elaborated.dereferences t) (step.Field k ∷ []) (no_variant_in T t) tt

  pub place_direct : (e : Exp) → IsDirect (elaborated.place T e)
  place_direct (named.var n x) = (tt, tt)
  place_direct (named.field n e x) = let t = T.typ (node_of e).number in
      further (elaborated.place T e) (elaborated.dereferences t ++ step.Field (elaborated.field_in T.items (peeled t) x) ∷ []) (stepped t (elaborated.field_in T.items (peeled t) x)) (place_direct e)
  place_direct (named.part n e i) = let t = T.typ (node_of e).number in
      further (elaborated.place T e) (elaborated.dereferences t ++ step.Field i ∷ []) (stepped t i) (place_direct e)
  place_direct (named.deref n e) = let t = T.typ (node_of e).number in
      further (elaborated.place T e) (elaborated.dereference t) (no_variant_one T t) (place_direct e)
  place_direct (named.int n m v k) = (tt, tt)
  place_direct (named.bool n b) = (tt, tt)
  place_direct (named.tuple n es) = (tt, tt)
  place_direct (named.negate n e) = (tt, tt)
  place_direct (named.invert n e) = (tt, tt)
  place_direct (named.borrow n m e) = (tt, tt)
  place_direct (named.binary n o a b) = (tt, tt)
  place_direct (named.assign n p e) = (tt, tt)
  place_direct (named.gives n p u d e) = (tt, tt)
  place_direct (named.update n o p e) = (tt, tt)
  place_direct (named.call n f es) = (tt, tt)
  place_direct (named.hidden_call n es) = (tt, tt)
  place_direct (named.next_input n) = (tt, tt)
  place_direct (named.variant n i v es) = (tt, tt)
  place_direct (named.make n i fs) = (tt, tt)
  place_direct (named.print n e) = (tt, tt)
  place_direct (named.block n b) = (tt, tt)
  place_direct (named.if n c b o) = (tt, tt)
  place_direct (named.if_let n p e b o) = (tt, tt)
  place_direct (named.match n e l) = (tt, tt)
  place_direct (named.loop n l k b) = (tt, tt)
  place_direct (named.while n l c b) = (tt, tt)
  place_direct (named.while_let n l p e b) = (tt, tt)
  place_direct (named.break n l) = (tt, tt)
  place_direct (named.continue n l) = (tt, tt)
  place_direct (named.return n o) = (tt, tt)
