-- What the values of the code stand for.
use Rattle.std.specs.Prelude.{List, map}
use Rattle.rx_typed.specs.declared.declarations.Decl.{Decl}
use Rattle.rx_typed.specs.Regions.{region-Ty}
use Rattle.rx_lower_walks.specs.PlainFlow.{plain-Temporary}
use Rattle.rx_lower_lifetimes.specs.declared.held.Open.{Open}
use Rattle.rx_lower_lifetimes.specs.declared.held.Held.{Held}
use Rattle.rx_lower_lifetimes.specs.declared.notes.Notes.{Notes}
use Rattle.rx_lower_lifetimes.specs.declared.variables.Told.{Told}
use Rattle.rx_lower_lifetimes.specs.Values as values
use Rattle.rx_lower_lifetimes.specs.Held as acts
use Rattle.rx_lower_lifetimes.specs.Variables.{Written}

abbrev pub plain-Open : Open → values.Open
plain-Open o = record { typ = region-Ty o.ty; from = o.from }

abbrev pub plain-Held : Held → values.Held
plain-Held h = record { temporary = plain-Temporary h.temporary; typ = region-Ty h.ty }

abbrev pub known : List Decl → List Open → values.KnownTypes
known D vs = record { items = D; variables = map plain-Open vs }

abbrev pub plain-Notes : Notes → acts.Notes
plain-Notes n = record { held = map plain-Held n.held; own = n.own }

abbrev pub plain-Told : Told → Written
plain-Told t = record { variable = t.variable; typ = region-Ty t.ty }
