-- A block stands where its value is copied, coerced or reborrowed, wherever a function's numbering comes to one, and its tail stands there too.
use Rattle.std.proofs.Common.{◌≡◌, ℕ, [], ◌∷◌, List, subst, ap, sym, ◌∙◌}
use Rattle.rx_tree.specs.Lists.{Every}
use Rattle.rx_tree.specs.Plain as plain
use Rattle.rx_tree.specs.Plain.{Body, Expression, OptionalExpression, Statement}
use Rattle.rx_tree.specs.Spans.{body_span}
use Rattle.rx_typed.specs.declared.nodes.Node.{Node}
use Rattle.rx_typed.specs.declared.nodes.Site.{Site}
use Rattle.rx_typed.specs.Naming.{branch_site, of_optional, passed_on, Cursor}
use Rattle.rx_engine_changed.specs.Comes.{a_body, a_statement, an_expression, an_optional, goes_in, in_expression, in_part, some_arguments, some_arms, some_expressions, some_fields, some_statements, the_whole, Comes, Part, Placed}
use Rattle.rx_engine_changed.proofs.Few.{at_nth}
use Rattle.rx_engine_changed.proofs.Spots.{optional_numbered}
use Rattle.rx_engine_changed.proofs.Standing.{site_is}
use Rattle.rx_engine_standing.specs.EndGives.{IsBlockSite, TailStands}

passed_is : (t : Site) → IsBlockSite (passed_on t)
passed_is Site.Value = tt
passed_is Site.Place = tt
passed_is Site.Scrutinee = tt
passed_is Site.Expects = tt
passed_is Site.Initialises = tt
passed_is Site.Reborrows = tt

branch_is : (t : Site) (o : OptionalExpression) → IsBlockSite (branch_site t o)
branch_is t plain.absent = tt
branch_is t (plain.present e) = passed_is t

abbrev Stands : Part → Type 0
Stands (a_body t b) = IsBlockSite t
Stands _ = Unit {0}

abbrev AllStand : List Placed → Type 0
AllStand xs = Every (λ (y : Placed). Stands y.0) xs

in_form : (t : Site) (e : Expression) (c : Cursor) → AllStand (in_expression t e c)
in_form t (plain.int s v k) c = tt
in_form t (plain.bool s b) c = tt
in_form t (plain.var s x) c = tt
in_form t (plain.next_input s) c = tt
in_form t (plain.break s l) c = tt
in_form t (plain.continue s l) c = tt
in_form t (plain.tuple s es) c = (tt, tt)
in_form t (plain.field s e x) c = (tt, tt)
in_form t (plain.part s e i) c = (tt, tt)
in_form t (plain.deref s e) c = (tt, tt)
in_form t (plain.negate s e) c = (tt, tt)
in_form t (plain.invert s e) c = (tt, tt)
in_form t (plain.borrow s w e) c = (tt, tt)
in_form t (plain.binary s o a b) c = (tt, (tt, tt))
in_form t (plain.assign s p e) c = (tt, (tt, tt))
in_form t (plain.update s o p e) c = (tt, (tt, tt))
in_form t (plain.call s f es) c = (tt, tt)
in_form t (plain.variant s a v es) c = (tt, tt)
in_form t (plain.make s x fs) c = (tt, tt)
in_form t (plain.print s e) c = (tt, tt)
in_form t (plain.block s b) c = (passed_is t, tt)
in_form t (plain.if s e b o) c = (tt, (branch_is t o, (tt, tt)))
in_form t (plain.if_let s p e b o) c = (tt, (branch_is t o, (tt, tt)))
in_form t (plain.match s e l) c = (tt, (tt, tt))
in_form t (plain.loop s l b) c = (tt, tt)
in_form t (plain.while s l e b) c = (tt, (tt, tt))
in_form t (plain.while_let s l p e b) c = (tt, (tt, tt))
in_form t (plain.return s o) c = (tt, tt)

in_a_part : (x : Part) (c : Cursor) → AllStand (in_part x c)
in_a_part (an_expression m t e) c = in_form t e c
in_a_part (some_expressions t plain.no_expression) c = tt
in_a_part (some_expressions t (plain.expression_and e es)) c = (tt, (tt, tt))
in_a_part (an_optional t plain.absent) c = tt
in_a_part (an_optional t (plain.present e)) c = (tt, tt)
in_a_part (some_arguments plain.no_list) c = tt
in_a_part (some_arguments (plain.a_list es)) c = (tt, tt)
in_a_part (some_fields plain.no_field) c = tt
in_a_part (some_fields (plain.field_and x e fs)) c = (tt, (tt, tt))
in_a_part (some_arms t plain.no_arm) c = tt
in_a_part (some_arms t (plain.arm_and p e l)) c = (tt, (tt, tt))
in_a_part (a_body t (plain.body s ss o)) c = (tt, (tt, tt))
in_a_part (a_statement (plain.let_statement s p y plain.absent)) c = tt
in_a_part (a_statement (plain.let_statement s p y (plain.present e))) c = (tt, tt)
in_a_part (a_statement (plain.expression_statement s e b)) c = (tt, tt)
in_a_part (some_statements plain.no_statement) c = tt
in_a_part (some_statements (plain.statement_and a ss)) c = (tt, (tt, tt))

pub block_stands : {w : Placed} {x : Part} {c : Cursor} → Comes w x c → Stands w.0 → Stands x
block_stands the_whole h = h
block_stands (goes_in {x = x} {y = y} {c = c} {d = d} k n e) h = at_nth (λ (z : Placed). Stands z.0) (in_part x c) n (y, d) (in_a_part x c) e

pub tail_stands : (n : Node) (o : OptionalExpression) (c : Cursor) → TailStands n (of_optional n.site o c).0
tail_stands n plain.absent c = tt
tail_stands n (plain.present e) c = site_is _ _ _ _ (optional_numbered (plain.present e) n.site c)
