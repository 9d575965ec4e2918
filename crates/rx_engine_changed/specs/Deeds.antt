-- What a part of a function does where it is numbered (Rust Reference, "let statements", "Type inference", "Loop expressions"): the variables and the
-- loops that it declares, in order; which variables that wait get their types in it; to which loops a `break` in it leads; which variables are the
-- whole left side of an `=` in it; and which wait for their types from a `let` in it on.
use Rattle.std.specs.Prelude.{ℕ, Bool, true, false, ◌==◌, ◌&&◌, ◌||◌, List, [], ◌∷◌, ◌++◌, Option, Some, None, option_map}
use Rattle.rx_typed.specs.declared.nodes.Declaration.{Declaration}
use Rattle.rx_typed.specs.Named as named
use Rattle.rx_typed.specs.Named.{Pattern, Patterns, FieldPatterns, Exp, Exps, Else, Fields, Arms, Body, Statement, Statements, never, whole_binding}
use Rattle.rx_typed.specs.Naming.{as_known, has_no_type}

pub record Deeds : Type 0 where
  pub variables : List ℕ
  pub loops : List ℕ
  pub settles : ℕ → Bool
  pub leaves : ℕ → Bool
  pub assigns : ℕ → Bool
  pub awaits : ℕ → Bool

abbrev pub no_number : ℕ → Bool
no_number n = false

abbrev pub nothing : Deeds
nothing = record { variables = []; loops = []; settles = no_number; leaves = no_number; assigns = no_number; awaits = no_number }

abbrev pub declares : ℕ → Deeds
declares x = record nothing { variables = x ∷ [] }

abbrev pub begins : ℕ → Deeds
begins l = record nothing { loops = l ∷ [] }

abbrev pub gives_type : ℕ → Option ℕ → Deeds
gives_type x None = record nothing { assigns = λ n. n == x }
gives_type x (Some p) = record nothing { settles = λ n. n == x; assigns = λ n. n == x }

abbrev pub leads_to : ℕ → Deeds
leads_to l = record nothing { leaves = λ n. n == l }

abbrev pub assigned : Exp → Deeds
assigned (named.var n x) = record nothing { assigns = λ n. n == x.number }
assigned _ = nothing

abbrev pub awaited : Option ℕ → Deeds
awaited None = nothing
awaited (Some x) = record nothing { awaits = λ n. n == x }

abbrev pub awaited_if : Bool → Pattern → Deeds
awaited_if false p = nothing
awaited_if true p = awaited (whole_binding p)

abbrev pub also : Deeds → Deeds → Deeds
also f g = record {
  variables = f.variables ++ g.variables;
  loops = f.loops ++ g.loops;
  settles = λ n. f.settles n || g.settles n;
  leaves = λ n. f.leaves n || g.leaves n;
  assigns = λ n. f.assigns n || g.assigns n;
  awaits = λ n. f.awaits n || g.awaits n;
}

abbrev mutual
  pub of_pattern : Pattern → Deeds
  of_pattern (named.wild n) = nothing
  of_pattern (named.bind n x m) = declares x
  of_pattern (named.whole_number n g v k) = nothing
  of_pattern (named.truth n b) = nothing
  of_pattern (named.tuple_pattern n ps) = of_patterns ps
  of_pattern (named.variant_pattern n i v ps) = of_patterns ps
  of_pattern (named.struct_pattern n i fs) = of_field_patterns fs

  pub of_patterns : Patterns → Deeds
  of_patterns named.no_pattern = nothing
  of_patterns (named.pattern_and p ps) = also (of_pattern p) (of_patterns ps)

  pub of_field_patterns : FieldPatterns → Deeds
  of_field_patterns named.no_field_pattern = nothing
  of_field_patterns (named.field_pattern_and x p fs) = also (of_pattern p) (of_field_patterns fs)

abbrev mutual
  pub of_exp : Exp → Deeds
  of_exp (named.int n m v k) = nothing
  of_exp (named.bool n b) = nothing
  of_exp (named.tuple n es) = of_exps es
  of_exp (named.var n x) = nothing
  of_exp (named.field n e x) = of_exp e
  of_exp (named.part n e i) = of_exp e
  of_exp (named.deref n e) = of_exp e
  of_exp (named.negate n e) = of_exp e
  of_exp (named.invert n e) = of_exp e
  of_exp (named.borrow n m e) = of_exp e
  of_exp (named.binary n o a b) = also (of_exp a) (of_exp b)
  of_exp (named.assign n a b) = also (of_exp a) (also (assigned a) (of_exp b))
  of_exp (named.gives n p x d e) = also (of_exp e) (gives_type x.number d)
  of_exp (named.update n o a b) = also (of_exp a) (of_exp b)
  of_exp (named.call n f es) = of_exps es
  of_exp (named.hidden_call n es) = of_exps es
  of_exp (named.next_input n) = nothing
  of_exp (named.variant n i v es) = of_exps es
  of_exp (named.make n i fs) = of_fields fs
  of_exp (named.print n e) = of_exp e
  of_exp (named.block n b) = of_body b
  of_exp (named.if n c b o) = also (also (of_exp c) (of_body b)) (of_else o)
  of_exp (named.if_let n p e b o) = also (also (also (of_pattern p) (of_exp e)) (of_body b)) (of_else o)
  of_exp (named.match n e l) = also (of_exp e) (of_arms l)
  of_exp (named.loop n l k b) = also (begins l) (of_body b)
  of_exp (named.while n l c b) = also (also (begins l) (of_exp c)) (of_body b)
  of_exp (named.while_let n l p e b) = also (also (also (begins l) (of_pattern p)) (of_exp e)) (of_body b)
  of_exp (named.break n l) = leads_to l
  of_exp (named.continue n l) = nothing
  of_exp (named.return n o) = of_else o

  pub of_exps : Exps → Deeds
  of_exps named.no_exp = nothing
  of_exps (named.exp_and e es) = also (of_exp e) (of_exps es)

  pub of_else : Else → Deeds
  of_else named.absent = nothing
  of_else (named.present e) = of_exp e

  pub of_fields : Fields → Deeds
  of_fields named.no_field = nothing
  of_fields (named.field_and x e fs) = also (of_exp e) (of_fields fs)

  pub of_arms : Arms → Deeds
  of_arms named.no_arm = nothing
  of_arms (named.arm_and p e l) = also (also (of_pattern p) (of_exp e)) (of_arms l)

  pub of_body : Body → Deeds
  of_body (named.body n ss o) = also (of_statements ss) (of_else o)

  pub of_statement : Statement → Deeds
  of_statement (named.declares n p t) = also (of_pattern p) (awaited_if (has_no_type t) p)
  of_statement (named.lets n p t e) = also (also (of_pattern p) (of_exp e)) (awaited_if (has_no_type t && never e) p)
  of_statement (named.evaluates n e b) = of_exp e

  pub of_statements : Statements → Deeds
  of_statements named.no_statement = nothing
  of_statements (named.statement_and a ss) = also (of_statement a) (of_statements ss)

-- ---- what becomes of what is known in front

abbrev pub settled_if : Bool → Option Declaration → Option Declaration
settled_if false o = o
settled_if true o = option_map as_known o

abbrev pub left_if : Bool → Option Bool → Option Bool
left_if false o = o
left_if true o = option_map (λ (b : Bool). true) o
