-- Nodes of what an extraction makes, by their types: where a value is wanted as it is, no coercion shares it (Rust Reference, "Coercion sites",
-- "Coercion types").
use Rattle.std.specs.Prelude.{◌≡◌, Bool, false}
use Rattle.rx_typed.specs.declared.nodes.Node.{Node}
use Rattle.rx_typed.specs.declared.nodes.Site.{Site}
use Rattle.rx_typed.specs.Types.{Typ, reference}
use Rattle.rx_typed.specs.Elaborated.{Assigned}

-- nothing is expected there, or the node's own type is
pub data KeepsItsType (T : Assigned) (n : Node) : Type 0 where
  of_any_type : n.site ≡ Site.Value → KeepsItsType T n
  looked_into : n.site ≡ Site.Scrutinee → KeepsItsType T n
  of_its_type : T.expected n.number ≡ T.typ n.number → KeepsItsType T n

-- a reference that can't be copied
abbrev pub is_unique : Typ → Bool
is_unique (reference m t) = m
is_unique _ = false
