-- How many holes there are where a tree stands for another by other numbers.
use Rattle.std.specs.Prelude.{ℕ, ◌+◌}
use Rattle.rx_typed.specs.Named.{Exp, Exps, Else, Fields, Arms, Body, Statement, Statements}
use Rattle.rx_engine_blocks.specs.Renumbering.{Renumbering}
use Rattle.rx_engine_typing.specs.Renumbered as like
use Rattle.rx_engine_typing.specs.Renumbered.{Holes, RenumberedExp, RenumberedExps, RenumberedElse, RenumberedFields, RenumberedArms, RenumberedBody, RenumberedStatement, RenumberedStatements}

module _ {r : Renumbering} {loops : ℕ → ℕ} {H : Holes} where
  abbrev mutual
    pub holes_in : {e e' : Exp} → RenumberedExp r loops H e e' → ℕ
    holes_in (like.RenumberedExp.hole h) = 1
    holes_in like.RenumberedExp.int = 0
    holes_in like.RenumberedExp.bool = 0
    holes_in (like.RenumberedExp.tuple h) = holes_in_all h
    holes_in like.RenumberedExp.var = 0
    holes_in (like.RenumberedExp.other_var m) = 0
    holes_in (like.RenumberedExp.field h) = holes_in h
    holes_in (like.RenumberedExp.part h) = holes_in h
    holes_in (like.RenumberedExp.deref h) = holes_in h
    holes_in (like.RenumberedExp.negate h) = holes_in h
    holes_in (like.RenumberedExp.invert h) = holes_in h
    holes_in (like.RenumberedExp.borrow h) = holes_in h
    holes_in (like.RenumberedExp.binary h g) = holes_in h + holes_in g
    holes_in (like.RenumberedExp.assign h g) = holes_in h + holes_in g
    holes_in (like.RenumberedExp.gives h) = holes_in h
    holes_in (like.RenumberedExp.assigns g h) = holes_in h
    holes_in (like.RenumberedExp.update h g) = holes_in h + holes_in g
    holes_in (like.RenumberedExp.call h) = holes_in_all h
    holes_in (like.RenumberedExp.hidden_call h) = holes_in_all h
    holes_in like.RenumberedExp.next_input = 0
    holes_in (like.RenumberedExp.variant h) = holes_in_all h
    holes_in (like.RenumberedExp.make h) = holes_in_fields h
    holes_in (like.RenumberedExp.print h) = holes_in h
    holes_in (like.RenumberedExp.block h) = holes_in_body h
    holes_in (like.RenumberedExp.if h g l) = holes_in h + (holes_in_body g + holes_in_else l)
    holes_in (like.RenumberedExp.if_let p h g l) = holes_in h + (holes_in_body g + holes_in_else l)
    holes_in (like.RenumberedExp.match h l) = holes_in h + holes_in_arms l
    holes_in (like.RenumberedExp.loop h) = holes_in_body h
    holes_in (like.RenumberedExp.while h g) = holes_in h + holes_in_body g
    holes_in (like.RenumberedExp.while_let p h g) = holes_in h + holes_in_body g
    holes_in like.RenumberedExp.break = 0
    holes_in like.RenumberedExp.continue = 0
    holes_in (like.RenumberedExp.return k h) = holes_in_else h

    pub holes_in_all : {es es' : Exps} → RenumberedExps r loops H es es' → ℕ
    holes_in_all like.RenumberedExps.no_exp = 0
    holes_in_all (like.RenumberedExps.exp_and h hs) = holes_in h + holes_in_all hs

    pub holes_in_else : {o o' : Else} → RenumberedElse r loops H o o' → ℕ
    holes_in_else like.RenumberedElse.absent = 0
    holes_in_else (like.RenumberedElse.present h) = holes_in h

    pub holes_in_fields : {fs fs' : Fields} → RenumberedFields r loops H fs fs' → ℕ
    holes_in_fields like.RenumberedFields.no_field = 0
    holes_in_fields (like.RenumberedFields.field_and h hs) = holes_in h + holes_in_fields hs

    pub holes_in_arms : {l l' : Arms} → RenumberedArms r loops H l l' → ℕ
    holes_in_arms like.RenumberedArms.no_arm = 0
    holes_in_arms (like.RenumberedArms.arm_and p h hs) = holes_in h + holes_in_arms hs

    pub holes_in_body : {b b' : Body} → RenumberedBody r loops H b b' → ℕ
    holes_in_body (like.RenumberedBody.other_block h) = 1
    holes_in_body (like.RenumberedBody.body hs o) = holes_in_statements hs + holes_in_else o

    pub holes_in_statement : {a a' : Statement} → RenumberedStatement r loops H a a' → ℕ
    holes_in_statement (like.RenumberedStatement.declares p t) = 0
    holes_in_statement (like.RenumberedStatement.lets p t h) = holes_in h
    holes_in_statement (like.RenumberedStatement.evaluates h) = holes_in h

    pub holes_in_statements : {ss ss' : Statements} → RenumberedStatements r loops H ss ss' → ℕ
    holes_in_statements like.RenumberedStatements.no_statement = 0
    holes_in_statements (like.RenumberedStatements.statement_and h hs) = holes_in_statement h + holes_in_statements hs
