-- What the rules ask at nodes and variables of which something holds is about these, and of no literal.
use Rattle.std.proofs.Common.{◌≡◌, ℕ, suc, Bool, true, false, List, [], ◌∷◌, Option, Some, None, refl, ◌++◌}
use Rattle.rx_typed.specs.declared.nodes.Node.{Node}
use Rattle.rx_typed.specs.declared.nodes.Site.{Site}
use Rattle.rx_typed.specs.declared.nodes.Use.{Use}
use Rattle.rx_typed.specs.Named as named
use Rattle.rx_typed.specs.Named.{Written, WrittenTypes, Pattern, Patterns, written_node, pattern_node, whole_binding}
use Rattle.rx_typeck_solver.specs.declared.facts.Broken.{Broken}
use Rattle.rx_typeck_solver.specs.declared.facts.Subject.{Subject}
use Rattle.rx_typeck_solver.specs.declared.facts.Passing.{Passing}
use Rattle.rx_typeck_solver.specs.declared.facts.Op.{Op}
use Rattle.rx_typeck_solver.specs.declared.facts.Fact.{Fact}
use Rattle.rx_typeck_solver.specs.declared.facts.Demand.{Demand}
use Rattle.rx_typeck_typed.specs.Asking.{Asking, asks, when}
use Rattle.rx_typeck_typed.specs.Demands as rules
use Rattle.rx_typeck_typed.specs.Demands.{Matched, a_value, a_place, an_initialiser}
use Rattle.rx_engine_blocks.specs.Parts.{EachOf, EachPassing, AllAbout}
use Rattle.rx_engine_blocks.specs.Made.{AtNode, AtVariable, MadeType, MadeTypes, MadePattern, MadePatterns, MadeGiving}

module _ (P : Subject → Type 0) (Q : List Demand → Type 0) (asked : (d : Demand) → AllAbout P d.facts → d.unsuffixed ≡ false → (ds : List Demand) → Q ds → Q (ds ++ d ∷ [])) where
  -- what demands have that such are behind
  abbrev pub Keeps : Asking → Type 0
  Keeps f = (ds : List Demand) → Q ds → Q (f ds)

  pub asks_keep : (n : Node) (b : Broken) (fs : List Fact) → AllAbout P fs → Keeps (asks n b false fs)
  asks_keep n b fs a ds h = asked (record { node = n.number; span = n.span; broken = b; unsuffixed = false; facts = fs }) a refl ds h

  pub nothing_keeps : Keeps (λ ds. ds)
  nothing_keeps ds h = h

  -- ---- types

  lifetimes_keep : (n : Node) (i : ℕ) (l : Option ℕ) → Keeps (rules.lifetimes_asked n i l)
  lifetimes_keep n i None = nothing_keeps
  lifetimes_keep n i (Some k) = asks_keep n _ _ ((tt, tt, tt), tt)

  pub type_node : (t : Written) → MadeType P t → AtNode P (written_node t)
  type_node (named.a_kind n k) h = h
  type_node (named.a_bool n) h = h
  type_node (named.a_tuple n ts) h = h.0
  type_node (named.a_reference n m t) h = h.0
  type_node (named.an_item n i ls) h = h

  type_nodes : (ts : WrittenTypes) → MadeTypes P ts → EachOf P (rules.written_nodes ts)
  type_nodes named.no_written h = tt
  type_nodes (named.written_and t ts) h = ((type_node t h.0).0, type_nodes ts h.1)

  mutual
    type_keeps : (t : Written) → MadeType P t → Keeps (rules.of_type t)
    type_keeps (named.a_kind n k) h ds m = asks_keep n _ _ ((h.0, tt, tt), tt) ds m
    type_keeps (named.a_bool n) h ds m = asks_keep n _ _ ((h.0, tt, tt), tt) ds m
    type_keeps (named.a_tuple n ts) h ds m = asks_keep n _ _ ((h.0.0, type_nodes ts h.1, tt), tt) (rules.of_types ts ds) (types_keep ts h.1 ds m)
    type_keeps (named.a_reference n w t) h ds m = asks_keep n _ _ ((h.0.0, ((type_node t h.1).0, tt), tt), tt) (rules.of_type t ds) (type_keeps t h.1 ds m)
    type_keeps (named.an_item n i ls) h ds m = asks_keep n _ _ ((h.0, tt, tt), tt) (rules.lifetimes_asked n i ls ds) (lifetimes_keep n i ls ds m)

    types_keep : (ts : WrittenTypes) → MadeTypes P ts → Keeps (rules.of_types ts)
    types_keep named.no_written h ds m = m
    types_keep (named.written_and t ts) h ds m = types_keep ts h.1 (rules.of_type t ds) (type_keeps t h.0 ds m)

  pub limits_keep : (n : Node) → AtNode P n → Keeps (rules.limits n)
  limits_keep n h = asks_keep n _ _ (((h.0, tt), tt, tt), tt)

  pub whole_type_keeps : (t : Written) → MadeType P t → Keeps (rules.whole_type t)
  whole_type_keeps t h ds m = limits_keep (written_node t) (type_node t h) (rules.of_type t ds) (type_keeps t h ds m)

  -- ---- values and places

  fits_keep : (n : Node) → AtNode P n → Keeps (rules.coerces n)
  fits_keep n h = asks_keep n _ _ ((h.0, (h.0, (h.1, tt)), tt), tt)

  own_expected : (n : Node) → AtNode P n → Keeps (rules.expects_own n)
  own_expected n h = asks_keep n _ _ ((h.1, (h.0, tt), tt), tt)

  pub value_keeps : (n : Node) (t : Site) → AtNode P n → Keeps (rules.value_in n t)
  value_keeps n Site.Place h = asks_keep n _ _ (tt, tt)
  value_keeps n Site.Expects h = fits_keep n h
  value_keeps n Site.Initialises h = fits_keep n h
  value_keeps n Site.Reborrows h = own_expected n h
  value_keeps n Site.Value h = nothing_keeps
  value_keeps n Site.Scrutinee h = nothing_keeps

  pub never_keeps : (n : Node) (t : Site) → Keeps (rules.never_in n t)
  never_keeps n Site.Place = asks_keep n _ _ (tt, tt)
  never_keeps n Site.Expects = nothing_keeps
  never_keeps n Site.Initialises = nothing_keeps
  never_keeps n Site.Reborrows = nothing_keeps
  never_keeps n Site.Value = nothing_keeps
  never_keeps n Site.Scrutinee = nothing_keeps

  -- a whole variable
  pub place_keeps : (n : Node) (x : ℕ) (t : Site) → AtNode P n → Keeps (rules.place_in n x [] t)
  place_keeps n x Site.Value h ds m = asks_keep n _ _ (((h.0, tt), tt, tt), tt) ds m
  place_keeps n x Site.Place h ds m = m
  place_keeps n x Site.Scrutinee h ds m = m
  place_keeps n x Site.Expects h ds m = asks_keep n _ _ (((h.0, (h.1, tt)), tt, tt), tt) _ (asks_keep n _ _ (((h.0, tt), tt, tt), tt) _ (fits_keep n h ds m))
  place_keeps n x Site.Initialises h ds m = asks_keep n _ _ (((h.0, (h.1, tt)), tt, tt), tt) _ (fits_keep n h ds m)
  place_keeps n x Site.Reborrows h ds m = asks_keep n _ _ (((h.0, (h.1, tt)), tt, tt), tt) _ (asks_keep n _ _ (((h.0, tt), tt, tt), tt) _ (own_expected n h ds m))

  pub own_keeps : (n : Node) (o : Op) (xs : List Subject) → AtNode P n → EachOf P xs → Keeps (rules.own n o xs)
  own_keeps n o xs h k ds m = value_keeps n n.site h _ (asks_keep n _ _ ((h.0, k, tt), tt) ds m)

  pub expects_keep : (n : Node) (o : Op) (xs : List Subject) → AtNode P n → EachOf P xs → Keeps (rules.expects n o xs)
  expects_keep n o xs h k = asks_keep n _ _ ((h.1, k, tt), tt)

  pub named_keeps : (n : Node) (x : Use) (k : Bool) → AtNode P n → AtVariable P x.number → Keeps (rules.named_at n x k)
  named_keeps n x true h v = asks_keep n _ _ ((h.0, (v, tt), tt), tt)
  named_keeps n x false h v = asks_keep n _ _ (tt, tt)

  writable_keeps : (n : Node) (own : Bool) (x : ℕ) → Keeps (rules.writable n own x [])
  writable_keeps n own x = asks_keep n _ _ ((tt, tt, tt), tt)

  borrow_writes : (n : Node) (m : Bool) (x : Use) → Keeps (when m (rules.writable n x.mutable x.number []))
  borrow_writes n true x = writable_keeps n x.mutable x.number
  borrow_writes n false x = nothing_keeps

  pub borrowed_keeps : (n : Node) (m : Bool) (e : Node) (x : Use) → AtNode P n → AtNode P e → Keeps (rules.borrowed n m e x [])
  borrowed_keeps n m e x h k ds q = value_keeps n n.site h _ (borrow_writes n m x _ (limits_keep n h _ (asks_keep n _ _ ((h.0, (k.0, tt), tt), tt) ds q)))

  -- ---- patterns

  abbrev pub MadeMatched : Matched → Type 0
  MadeMatched a_value = Unit {0}
  MadeMatched (a_place x qs) = EachPassing P qs
  MadeMatched (an_initialiser e x qs) = AtNode P e × EachPassing P qs

  binding_keeps : (n : Node) (anc : List Passing) (s : Matched) → AtNode P n → EachPassing P anc → MadeMatched s → Keeps (rules.binding_of n anc s)
  binding_keeps n anc a_value h a q ds m = m
  binding_keeps n anc (a_place x qs) h a q ds m = asks_keep n _ _ ((tt, a, q), tt) _ (asks_keep n _ _ (((h.0, tt), a, q), tt) ds m)
  binding_keeps n anc (an_initialiser e x qs) h a q ds m = asks_keep n _ _ (((q.0.0, tt), a, q.1), tt) _ (asks_keep n _ _ (((h.0, (q.0.0, tt)), a, q.1), tt) ds m)

  direct_keeps : (n : Node) (m : Bool) (anc : List Passing) → EachPassing P anc → Keeps (rules.direct n m anc)
  direct_keeps n true anc a = asks_keep n _ _ ((tt, a, tt), tt)
  direct_keeps n false anc a = nothing_keeps

  bound_keeps : (s : Matched) (anc : List Passing) (n : Node) (x : ℕ) (m : Bool) → AtNode P n → AtVariable P x → EachPassing P anc → MadeMatched s → Keeps (rules.bound_at s anc n x m)
  bound_keeps s anc n x m h v a q ds w = binding_keeps n anc s h a q _ (direct_keeps n m anc a _ (asks_keep n _ _ (((v, tt), tt, tt), tt) _ (asks_keep n _ _ ((v, (h.0, tt), a), tt) ds w)))

  under_passing : (anc : List Passing) (n : Node) → EachPassing P anc → AtNode P n → EachPassing P (rules.under n anc)
  under_passing [] n a h = (h.0, tt)
  under_passing (p ∷ anc) n a h = (a.0, under_passing anc n a.1 h)

  pub pattern_at : (p : Pattern) → MadePattern P p → AtNode P (pattern_node p)
  pattern_at (named.wild n) h = h
  pattern_at (named.bind n x m) h = h.0
  pattern_at (named.tuple_pattern n ps) h = h.0
  pattern_at (named.variant_pattern n i v ps) h = h.0
  pattern_at _ h = absurd h

  part_keeps : (n : Node) (o : Op) (xs : List Subject) → AtNode P n → EachOf P xs → Keeps (rules.part_is n o xs)
  part_keeps n o xs h k = asks_keep n _ _ ((h.0, k, tt), tt)

  mutual
    pattern_keeps : (s : Matched) (anc : List Passing) (p : Pattern) → MadeMatched s → EachPassing P anc → MadePattern P p → Keeps (rules.of_pattern s anc p)
    pattern_keeps s anc (named.wild n) q a h ds m = m
    pattern_keeps s anc (named.bind n x m) q a h ds made = bound_keeps s anc n x m h.0 h.1 a q ds made
    pattern_keeps s anc (named.tuple_pattern n ps) q a h ds m = parts_keep s (rules.under n anc) n 0 ps q (under_passing anc n a h.0) h.0 h.1 _ (asks_keep n _ _ (((h.0.0, tt), tt, tt), tt) ds m)
    pattern_keeps s anc (named.variant_pattern n i v ps) q a h ds m =
        variant_parts_keep s (rules.under n anc) i v 0 ps q (under_passing anc n a h.0) h.1 _ (asks_keep n _ _ ((tt, tt, tt), tt) _ (asks_keep n _ _ (((h.0.0, tt), tt, tt), tt) ds m))
    pattern_keeps s anc _ q a h ds m = absurd h

    parts_keep : (s : Matched) (anc : List Passing) (n : Node) (k : ℕ) (ps : Patterns) → MadeMatched s → EachPassing P anc → AtNode P n → MadePatterns P ps → Keeps (rules.of_parts s anc n k ps)
    parts_keep s anc n k named.no_pattern q a h g ds m = m
    parts_keep s anc n k (named.pattern_and p ps) q a h g ds m =
        parts_keep s anc n (suc k) ps q a h g.1 _ (pattern_keeps s anc p q a g.0 _ (part_keeps (pattern_node p) _ _ (pattern_at p g.0) (h.0, tt) ds m))

    variant_parts_keep : (s : Matched) (anc : List Passing) (i v k : ℕ) (ps : Patterns) → MadeMatched s → EachPassing P anc → MadePatterns P ps → Keeps (rules.of_variant_parts s anc i v k ps)
    variant_parts_keep s anc i v k named.no_pattern q a g ds m = m
    variant_parts_keep s anc i v k (named.pattern_and p ps) q a g ds m =
        variant_parts_keep s anc i v (suc k) ps q a g.1 _ (pattern_keeps s anc p q a g.0 _ (part_keeps (pattern_node p) _ _ (pattern_at p g.0) tt ds m))

  pub whole_keeps : (s : Matched) (x : Subject) (p : Pattern) → MadeMatched s → P x → MadePattern P p → Keeps (rules.whole_pattern s x p)
  whole_keeps s x p q k h ds m = pattern_keeps s [] p q tt h _ (asks_keep (pattern_node p) _ _ (((pattern_at p h).0, (k, tt), tt), tt) ds m)

  -- ---- what joins values

  as_part_keeps : (n : Node) (v : Bool) (m : Node) → AtNode P n → AtNode P m → Keeps (rules.as_part n v m)
  as_part_keeps n true m h k = nothing_keeps
  as_part_keeps n false m h k = asks_keep n _ _ ((h.0, (k.0, tt), tt), tt)

  joins_keep : (n : Node) (t : Site) → AtNode P n → Keeps (rules.joins n t)
  joins_keep n Site.Value h = nothing_keeps
  joins_keep n Site.Place h = asks_keep n _ _ (tt, tt)
  joins_keep n Site.Scrutinee h = nothing_keeps
  joins_keep n Site.Reborrows h = own_expected n h
  joins_keep n Site.Expects h = asks_keep n _ _ ((h.0, (h.1, tt), tt), tt)
  joins_keep n Site.Initialises h = asks_keep n _ _ ((h.0, (h.1, tt), tt), tt)

  pub join_keeps : (n : Node) (v : Bool) → AtNode P n → Keeps (rules.join n v)
  join_keeps n true h = never_keeps n n.site
  join_keeps n false h = joins_keep n n.site h

  pub before_keeps : (n : Node) (t : Site) (m : Node) → AtNode P n → AtNode P m → Keeps (rules.part_before n t m)
  before_keeps n Site.Expects m h k = expects_keep m _ _ k (h.1, tt)
  before_keeps n Site.Initialises m h k = expects_keep m _ _ k (h.1, tt)
  before_keeps n Site.Value m h k = nothing_keeps
  before_keeps n Site.Place m h k = nothing_keeps
  before_keeps n Site.Scrutinee m h k = nothing_keeps
  before_keeps n Site.Reborrows m h k = nothing_keeps

  pub after_keeps : (n : Node) (t : Site) (v : Bool) (m : Node) → AtNode P n → AtNode P m → Keeps (rules.part_after n t v m)
  after_keeps n Site.Expects v m h k = nothing_keeps
  after_keeps n Site.Initialises v m h k = nothing_keeps
  after_keeps n Site.Value v m h k = as_part_keeps n v m h k
  after_keeps n Site.Place v m h k = as_part_keeps n v m h k
  after_keeps n Site.Scrutinee v m h k = as_part_keeps n v m h k
  after_keeps n Site.Reborrows v m h k = as_part_keeps n v m h k

  pub unit_keeps : (n : Node) (v : Bool) → AtNode P n → Keeps (rules.nothing_given n v)
  unit_keeps n true h = nothing_keeps
  unit_keeps n false h = asks_keep n _ _ ((h.0, tt, tt), tt)

  pub not_never_keeps : (n : Node) (v : Bool) → Keeps (rules.not_never n v)
  not_never_keeps n true = asks_keep n _ _ (tt, tt)
  not_never_keeps n false = nothing_keeps

  fits_given_keeps : (x : ℕ) (e : Node) (v : Bool) → AtVariable P x → AtNode P e → Keeps (rules.fits_given x e v)
  fits_given_keeps x e true h k = nothing_keeps
  fits_given_keeps x e false h k = asks_keep e _ _ ((h, (k.0, tt), tt), tt)

  pub given_keeps : (n p : Node) (x : Use) (d : Option ℕ) (e : Node) (v : Bool) → AtNode P p → AtVariable P x.number → MadeGiving P d → AtNode P e → Keeps (rules.given n p x d e v)
  given_keeps n p x None e v h w g k ds m = fits_given_keeps x.number e v w k _ (named_keeps p x x.known h w ds m)
  given_keeps n p x (Some d) e v h w g k ds m = asks_keep p _ _ ((h.0, (w, tt), tt), ((g, (w, tt), tt), tt)) _ (asks_keep n _ _ ((w, (k.0, tt), tt), tt) _ (not_never_keeps e v ds m))

  pub one_variable_keeps : (n : Node) (o : Option ℕ) → Keeps (rules.one_variable_at n o)
  one_variable_keeps n None = asks_keep n _ _ (tt, tt)
  one_variable_keeps n (Some x) = nothing_keeps
