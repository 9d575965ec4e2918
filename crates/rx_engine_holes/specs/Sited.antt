-- An expression whose place makes something else of its value (Rust Reference, "Coercion sites", "let statements"): the tree is the same but for
-- its own node.
use Rattle.rx_typed.specs.declared.nodes.Node.{Node}
use Rattle.rx_typed.specs.declared.nodes.Site.{Site}
use Rattle.rx_typed.specs.Named as named
use Rattle.rx_typed.specs.Named.{Exp}

abbrev pub sited : Site → Node → Node
sited t n = record { number = n.number; span = n.span; site = t }

abbrev pub at_site : Site → Exp → Exp
at_site t (named.int n m v k) = named.int (sited t n) m v k
at_site t (named.bool n b) = named.bool (sited t n) b
at_site t (named.tuple n es) = named.tuple (sited t n) es
at_site t (named.var n x) = named.var (sited t n) x
at_site t (named.field n e x) = named.field (sited t n) e x
at_site t (named.part n e i) = named.part (sited t n) e i
at_site t (named.deref n e) = named.deref (sited t n) e
at_site t (named.negate n e) = named.negate (sited t n) e
at_site t (named.invert n e) = named.invert (sited t n) e
at_site t (named.borrow n m e) = named.borrow (sited t n) m e
at_site t (named.binary n o a b) = named.binary (sited t n) o a b
at_site t (named.assign n p e) = named.assign (sited t n) p e
at_site t (named.gives n p x d e) = named.gives (sited t n) p x d e
at_site t (named.update n o p e) = named.update (sited t n) o p e
at_site t (named.call n g es) = named.call (sited t n) g es
at_site t (named.hidden_call n es) = named.hidden_call (sited t n) es
at_site t (named.next_input n) = named.next_input (sited t n)
at_site t (named.variant n i v es) = named.variant (sited t n) i v es
at_site t (named.make n i fs) = named.make (sited t n) i fs
at_site t (named.print n e) = named.print (sited t n) e
at_site t (named.block n b) = named.block (sited t n) b
at_site t (named.if n c b o) = named.if (sited t n) c b o
at_site t (named.if_let n p e b o) = named.if_let (sited t n) p e b o
at_site t (named.match n e l) = named.match (sited t n) e l
at_site t (named.loop n l k b) = named.loop (sited t n) l k b
at_site t (named.while n l c b) = named.while (sited t n) l c b
at_site t (named.while_let n l p e b) = named.while_let (sited t n) l p e b
at_site t (named.break n l) = named.break (sited t n) l
at_site t (named.continue n l) = named.continue (sited t n) l
at_site t (named.return n o) = named.return (sited t n) o
