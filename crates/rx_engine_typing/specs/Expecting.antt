-- An expression that stood where a value is only reborrowed, put at a coercion site (Rust Reference, "Coercion sites", "Coercion types"): its
-- own place and those of what it ends in become coercion sites, all else stays.
use Rattle.rx_typed.specs.declared.nodes.Node.{Node}
use Rattle.rx_typed.specs.declared.nodes.Site.{Site}
use Rattle.rx_typed.specs.Named as named
use Rattle.rx_typed.specs.Named.{Exp, Else, Arms, Body}

abbrev pub expecting_site : Site → Site
expecting_site Site.Reborrows = Site.Expects
expecting_site t = t

abbrev pub expecting_node : Node → Node
expecting_node n = record { number = n.number; span = n.span; site = expecting_site n.site }

abbrev mutual
  pub expecting : Exp → Exp
  expecting (named.int n m v k) = named.int (expecting_node n) m v k
  expecting (named.bool n b) = named.bool (expecting_node n) b
  expecting (named.tuple n es) = named.tuple (expecting_node n) es
  expecting (named.var n x) = named.var (expecting_node n) x
  expecting (named.field n e x) = named.field (expecting_node n) e x
  expecting (named.part n e i) = named.part (expecting_node n) e i
  expecting (named.deref n e) = named.deref (expecting_node n) e
  expecting (named.negate n e) = named.negate (expecting_node n) e
  expecting (named.invert n e) = named.invert (expecting_node n) e
  expecting (named.borrow n m e) = named.borrow (expecting_node n) m e
  expecting (named.binary n o a b) = named.binary (expecting_node n) o a b
  expecting (named.assign n p e) = named.assign (expecting_node n) p e
  expecting (named.gives n p x d e) = named.gives (expecting_node n) p x d e
  expecting (named.update n o p e) = named.update (expecting_node n) o p e
  expecting (named.call n f es) = named.call (expecting_node n) f es
  expecting (named.hidden_call n es) = named.hidden_call (expecting_node n) es
  expecting (named.next_input n) = named.next_input (expecting_node n)
  expecting (named.variant n i v es) = named.variant (expecting_node n) i v es
  expecting (named.make n i fs) = named.make (expecting_node n) i fs
  expecting (named.print n e) = named.print (expecting_node n) e
  expecting (named.block n b) = named.block (expecting_node n) (expecting_body b)
  expecting (named.if n c b o) = named.if (expecting_node n) c (expecting_body b) (expecting_else o)
  expecting (named.if_let n p e b o) = named.if_let (expecting_node n) p e (expecting_body b) (expecting_else o)
  expecting (named.match n e l) = named.match (expecting_node n) e (expecting_arms l)
  expecting (named.loop n l k b) = named.loop (expecting_node n) l k b
  expecting (named.while n l c b) = named.while (expecting_node n) l c b
  expecting (named.while_let n l p e b) = named.while_let (expecting_node n) l p e b
  expecting (named.break n l) = named.break (expecting_node n) l
  expecting (named.continue n l) = named.continue (expecting_node n) l
  expecting (named.return n o) = named.return (expecting_node n) o

  pub expecting_else : Else → Else
  expecting_else named.absent = named.absent
  expecting_else (named.present e) = named.present (expecting e)

  pub expecting_arms : Arms → Arms
  expecting_arms named.no_arm = named.no_arm
  expecting_arms (named.arm_and p e l) = named.arm_and p (expecting e) (expecting_arms l)

  pub expecting_body : Body → Body
  expecting_body (named.body n ss o) = named.body (expecting_node n) ss (expecting_else o)
