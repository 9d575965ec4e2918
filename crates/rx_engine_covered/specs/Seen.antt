-- A function that is another by other numbers, where some nodes have a shared reference for a mutable one (Rust Reference, "Types", "Reborrowing",
-- "Match expressions"): its types; and in the first, patterns of a match that are seen so all of them or none, and no part of them by itself.
use Rattle.std.specs.Prelude.{◌≡◌, ℕ, Bool, true, false, option_map, slice_get}
use Rattle.rx_typed.specs.Types.{Typ, reference}
use Rattle.rx_typed.specs.Elaborated.{Assigned}
use Rattle.rx_typed.specs.Named as named
use Rattle.rx_typed.specs.Named.{Pattern, Patterns, FieldPatterns, Exp, Exps, Else, Fields, Arms, Body, Statement, Statements}
use Rattle.rx_engine_blocks.specs.Along.{shared}
use Rattle.rx_engine_blocks.specs.Renumbering.{Renumbering, shape_at, declared_at}
use Rattle.rx_engine_typing.specs.Corresponding.{StayApart}

-- nodes that have a shared reference in the second
abbrev pub SeenNodes : Type 0
SeenNodes = ℕ → Bool

abbrev pub none_seen : SeenNodes
none_seen n = false

pub record SeenTypes (r : Renumbering) (view : SeenNodes) (T T' : Assigned) : Type 0 where
  pub apart : StayApart r.items
  pub items : (i : ℕ) → slice_get T'.items (r.items i) ≡ option_map (declared_at r) (slice_get T.items i)
  pub typ : (n : ℕ) → T'.typ (r.nodes n) ≡ shared (view n) (shape_at r (T.typ n))
  pub mutable : (n : ℕ) → view n ≡ true → (t : Typ) × (T.typ n ≡ reference true t)

module _ (view : SeenNodes) where
  -- a pattern that is seen so, or as it is; what takes any value has no type
  abbrev mutual
    pub SeenSo : Bool → Pattern → Type 0
    SeenSo w (named.wild n) = Unit {0}
    SeenSo w (named.bind n x m) = Unit {0}
    SeenSo w (named.whole_number n g v k) = view n.number ≡ w
    SeenSo w (named.truth n b) = view n.number ≡ w
    SeenSo w (named.tuple_pattern n ps) = (view n.number ≡ w) × AsTheyAre ps
    SeenSo w (named.variant_pattern n i v ps) = (view n.number ≡ w) × AsTheyAre ps
    SeenSo w (named.struct_pattern n i fs) = (view n.number ≡ w) × FieldsAsTheyAre fs

    pub AsTheyAre : Patterns → Type 0
    AsTheyAre named.no_pattern = Unit {0}
    AsTheyAre (named.pattern_and p ps) = SeenSo false p × AsTheyAre ps

    pub FieldsAsTheyAre : FieldPatterns → Type 0
    FieldsAsTheyAre named.no_field_pattern = Unit {0}
    FieldsAsTheyAre (named.field_pattern_and x p fs) = SeenSo false p × FieldsAsTheyAre fs

  abbrev pub EachSeenSo : Bool → Arms → Type 0
  EachSeenSo w named.no_arm = Unit {0}
  EachSeenSo w (named.arm_and p e l) = SeenSo w p × EachSeenSo w l

  -- those of each match; a place has none
  abbrev mutual
    pub SeenExp : Exp → Type 0
    SeenExp (named.int n m v k) = Unit {0}
    SeenExp (named.bool n b) = Unit {0}
    SeenExp (named.tuple n es) = SeenExps es
    SeenExp (named.var n x) = Unit {0}
    SeenExp (named.field n e x) = Unit {0}
    SeenExp (named.part n e i) = Unit {0}
    SeenExp (named.deref n e) = Unit {0}
    SeenExp (named.negate n e) = SeenExp e
    SeenExp (named.invert n e) = SeenExp e
    SeenExp (named.borrow n m e) = Unit {0}
    SeenExp (named.binary n o a b) = SeenExp a × SeenExp b
    SeenExp (named.assign n p e) = SeenExp e
    SeenExp (named.gives n p x d e) = SeenExp e
    SeenExp (named.update n o p e) = SeenExp e
    SeenExp (named.call n f es) = SeenExps es
    SeenExp (named.hidden_call n es) = Unit {0}
    SeenExp (named.next_input n) = Unit {0}
    SeenExp (named.variant n i v es) = SeenExps es
    SeenExp (named.make n i fs) = SeenFields fs
    SeenExp (named.print n e) = SeenExp e
    SeenExp (named.block n b) = SeenBody b
    SeenExp (named.if n c b o) = SeenExp c × SeenBody b × SeenElse o
    SeenExp (named.if_let n p e b o) = ((w : Bool) × SeenSo w p) × SeenExp e × SeenBody b × SeenElse o
    SeenExp (named.match n e l) = ((w : Bool) × EachSeenSo w l) × SeenExp e × SeenArms l
    SeenExp (named.loop n l k b) = SeenBody b
    SeenExp (named.while n l c b) = SeenExp c × SeenBody b
    SeenExp (named.while_let n l p e b) = ((w : Bool) × SeenSo w p) × SeenExp e × SeenBody b
    SeenExp (named.break n l) = Unit {0}
    SeenExp (named.continue n l) = Unit {0}
    SeenExp (named.return n o) = SeenElse o

    pub SeenExps : Exps → Type 0
    SeenExps named.no_exp = Unit {0}
    SeenExps (named.exp_and e es) = SeenExp e × SeenExps es

    pub SeenElse : Else → Type 0
    SeenElse named.absent = Unit {0}
    SeenElse (named.present e) = SeenExp e

    pub SeenFields : Fields → Type 0
    SeenFields named.no_field = Unit {0}
    SeenFields (named.field_and x e fs) = SeenExp e × SeenFields fs

    pub SeenArms : Arms → Type 0
    SeenArms named.no_arm = Unit {0}
    SeenArms (named.arm_and p e l) = SeenExp e × SeenArms l

    pub SeenBody : Body → Type 0
    SeenBody (named.body n ss o) = SeenStatements ss × SeenElse o

    pub SeenStatement : Statement → Type 0
    SeenStatement (named.declares n p t) = Unit {0}
    SeenStatement (named.lets n p t e) = ((w : Bool) × SeenSo w p) × SeenExp e
    SeenStatement (named.evaluates n e s) = SeenExp e

    pub SeenStatements : Statements → Type 0
    SeenStatements named.no_statement = Unit {0}
    SeenStatements (named.statement_and a ss) = SeenStatement a × SeenStatements ss
