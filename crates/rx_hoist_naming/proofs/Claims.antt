-- What holds of the items and variables that a tree with numbers names (Rust Reference, "Paths", "Identifier patterns"): a claim of
-- each, where it stands. What is a part of a place stands where a place is wanted.
use Rattle.std.proofs.Common.{◌≡◌, ℕ, List, [], ◌∷◌, Option, Some, None}
use Rattle.rx_typed.specs.declared.nodes.Site.{Site}
use Rattle.rx_typed.specs.Named as named
use Rattle.rx_typed.specs.Naming.{initialiser_site}
use Rattle.rx_typed.specs.Named.{Written, WrittenTypes, Pattern, Patterns, FieldPatterns, Exp, Exps, Else, Fields, Arms, Body, Statement, Statements, node_of}

pub record Claims : Type 1 where
  -- of a struct or enum
  pub item : ℕ → Type 0
  pub variable : ℕ → Type 0

abbrev mutual
  pub OfWritten : Claims → Written → Type 0
  OfWritten C (named.a_kind n k) = Unit {0}
  OfWritten C (named.a_bool n) = Unit {0}
  OfWritten C (named.a_tuple n ts) = OfWrittens C ts
  OfWritten C (named.a_reference n m t) = OfWritten C t
  OfWritten C (named.an_item n i ls) = C.item i

  pub OfWrittens : Claims → WrittenTypes → Type 0
  OfWrittens C named.no_written = Unit {0}
  OfWrittens C (named.written_and t ts) = OfWritten C t × OfWrittens C ts

abbrev pub OfAnnotation : Claims → Option Written → Type 0
OfAnnotation C None = Unit {0}
OfAnnotation C (Some t) = OfWritten C t

abbrev mutual
  pub OfPattern : Claims → Pattern → Type 0
  OfPattern C (named.wild n) = Unit {0}
  OfPattern C (named.bind n x m) = C.variable x
  OfPattern C (named.whole_number n g v k) = Unit {0}
  OfPattern C (named.truth n b) = Unit {0}
  OfPattern C (named.tuple_pattern n ps) = OfPatterns C ps
  OfPattern C (named.variant_pattern n i v ps) = C.item i × OfPatterns C ps
  OfPattern C (named.struct_pattern n i fs) = C.item i × OfFieldPatterns C fs

  pub OfPatterns : Claims → Patterns → Type 0
  OfPatterns C named.no_pattern = Unit {0}
  OfPatterns C (named.pattern_and p ps) = OfPattern C p × OfPatterns C ps

  pub OfFieldPatterns : Claims → FieldPatterns → Type 0
  OfFieldPatterns C named.no_field_pattern = Unit {0}
  OfFieldPatterns C (named.field_pattern_and x p fs) = OfPattern C p × OfFieldPatterns C fs

-- it stands where a place is wanted
abbrev pub IsPlaced : Exp → Type 0
IsPlaced e = (node_of e).site ≡ Site.Place

abbrev mutual
  pub OfExp : Claims → Exp → Type 0
  OfExp C (named.int n m v k) = Unit {0}
  OfExp C (named.bool n b) = Unit {0}
  OfExp C (named.tuple n es) = OfExps C es
  OfExp C (named.var n u) = C.variable u.number
  OfExp C (named.field n e x) = OfExp C e × IsPlaced e
  OfExp C (named.part n e i) = OfExp C e × IsPlaced e
  OfExp C (named.deref n e) = OfExp C e × IsPlaced e
  OfExp C (named.negate n e) = OfExp C e
  OfExp C (named.invert n e) = OfExp C e
  OfExp C (named.borrow n m e) = OfExp C e × IsPlaced e
  OfExp C (named.binary n o a b) = OfExp C a × OfExp C b
  OfExp C (named.assign n p e) = (OfExp C p × IsPlaced p) × OfExp C e
  OfExp C (named.gives n p x d e) = C.variable x.number × OfExp C e
  OfExp C (named.update n o p e) = (OfExp C p × IsPlaced p) × OfExp C e
  OfExp C (named.call n f es) = OfExps C es
  OfExp C (named.hidden_call n es) = OfExps C es
  OfExp C (named.next_input n) = Unit {0}
  OfExp C (named.variant n i v es) = C.item i × OfExps C es
  OfExp C (named.make n i fs) = C.item i × OfFields C fs
  OfExp C (named.print n e) = OfExp C e
  OfExp C (named.block n b) = OfBody C b
  OfExp C (named.if n c b o) = OfExp C c × OfBody C b × OfElse C o
  OfExp C (named.if_let n p e b o) = OfPattern C p × OfExp C e × OfBody C b × OfElse C o
  OfExp C (named.match n e l) = OfExp C e × OfArms C l
  OfExp C (named.loop n l k b) = OfBody C b
  OfExp C (named.while n l c b) = OfExp C c × OfBody C b
  OfExp C (named.while_let n l p e b) = OfPattern C p × OfExp C e × OfBody C b
  OfExp C (named.break n l) = Unit {0}
  OfExp C (named.continue n l) = Unit {0}
  OfExp C (named.return n o) = OfElse C o

  pub OfExps : Claims → Exps → Type 0
  OfExps C named.no_exp = Unit {0}
  OfExps C (named.exp_and e es) = OfExp C e × OfExps C es

  pub OfElse : Claims → Else → Type 0
  OfElse C named.absent = Unit {0}
  OfElse C (named.present e) = OfExp C e

  pub OfFields : Claims → Fields → Type 0
  OfFields C named.no_field = Unit {0}
  OfFields C (named.field_and x e fs) = OfExp C e × OfFields C fs

  pub OfArms : Claims → Arms → Type 0
  OfArms C named.no_arm = Unit {0}
  OfArms C (named.arm_and p e l) = OfPattern C p × OfExp C e × OfArms C l

  pub OfBody : Claims → Body → Type 0
  OfBody C (named.body n ss o) = OfStatements C ss × OfElse C o

  pub OfStatement : Claims → Statement → Type 0
  OfStatement C (named.declares n p t) = OfPattern C p × OfAnnotation C t
  OfStatement C (named.lets n p t e) = OfPattern C p × OfAnnotation C t × OfExp C e × ((node_of e).site ≡ initialiser_site t)
  OfStatement C (named.evaluates n e b) = OfExp C e

  pub OfStatements : Claims → Statements → Type 0
  OfStatements C named.no_statement = Unit {0}
  OfStatements C (named.statement_and a ss) = OfStatement C a × OfStatements C ss

abbrev pub OfParameters : Claims → List named.Parameter → Type 0
OfParameters C [] = Unit {0}
OfParameters C (x ∷ xs) = (C.variable x.variable × OfWritten C x.typ) × OfParameters C xs

pub record OfFunction (C : Claims) (F : named.Function) : Type 0 where
  pub params : OfParameters C F.params
  pub result : OfAnnotation C F.result
  pub body : OfBody C F.body
