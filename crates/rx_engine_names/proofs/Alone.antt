-- Resolving and numbering of what is made in the second program alone.
use Rattle.std.proofs.Common.{◌≡◌, ℕ, suc, false, List, [], ◌∷◌, ◌++◌, length, Ok, refl, sym, ap, ◌∙◌, append_assoc, append-nil}
use Rattle.rx_core.specs.declared.types.Span.{Span}
use Rattle.rx_resolve_names.specs.declared.resolved.ItemNames.{ItemNames}
use Rattle.rx_resolve_names.specs.declared.resolved.NodeNames.{NodeNames}
use Rattle.rx_resolve_names.specs.Steps.{Outcome, Inside, entry, with_names, with_variable, names}
use Rattle.rx_typed.specs.declared.nodes.Node.{Node}
use Rattle.rx_typed.specs.declared.nodes.Site.{Site}
use Rattle.rx_typed.specs.declared.nodes.Declaration.{Declaration}
use Rattle.rx_typed.specs.Naming as numbering
use Rattle.rx_typed.specs.Naming.{Cursor, Numbering, give, a_node, an_entry, declare}
use Rattle.rx_engine_names.specs.Renaming.{Renaming, Made, Serves}
use Rattle.rx_engine_names.specs.Moves.{StandsAt}
use Rattle.rx_engine_names.proofs.SideBySide.{Keeps, one_more, taken_next, taken_names, taken_declared, taken_loops}

-- ---- a numbering that takes these entries

pub record Gives {A : Type 0} (S : A → Type 0) (u : ItemNames) (r : A × Cursor) (rest : List NodeNames) : Type 0 where
  pub like : S r.0
  pub stands : StandsAt u r.1
  pub left : r.1.names ≡ rest

pub record Alone {A : Type 0} (S : A → Type 0) (u u' : ItemNames) (es : List NodeNames) (m : Numbering A) : Type 0 where
  pub holds : (c : Cursor) (rest : List NodeNames) → StandsAt u c → c.names ≡ es ++ rest → Gives S u' (m c) rest

pub weaker : {A : Type 0} {S T : A → Type 0} {u u1 : ItemNames} {es : List NodeNames} {m : Numbering A} → Alone S u u1 es m → ((a : A) → S a → T a) → Alone T u u1 es m
weaker {m = m} N f = record { holds = λ c rest q e. let y = N.holds c rest q e in record { like = f (m c).0 y.like; stands = y.stands; left = y.left } }

pub alone_give : {A : Type 0} {S : A → Type 0} {u : ItemNames} (a : A) → S a → Alone S u u [] (give a)
alone_give a s = record { holds = λ c rest q e. record { like = s; stands = q; left = e } }

pub alone_then : {A B : Type 0} {S : A → Type 0} {T : B → Type 0} {u u1 u2 : ItemNames} {es fs : List NodeNames} {m : Numbering A} {k : A → Numbering B}
    → Alone S u u1 es m → ((a : A) → S a → Alone T u1 u2 fs (k a)) → Alone T u u2 (es ++ fs) (numbering.and_then m k)
alone_then {es = es} {fs = fs} {m = m} N K = record {
  holds = λ c rest q e. let x = N.holds c (fs ++ rest) q (e ∙ append_assoc es fs rest) in (K (m c).0 x.like).holds (m c).1 rest x.stands x.left;
}

pub alone_map : {A B : Type 0} {S : A → Type 0} {T : B → Type 0} {u u1 : ItemNames} {es : List NodeNames} {m : Numbering A} (h : A → B)
    → Alone S u u1 es m → ((a : A) → S a → T (h a)) → Alone T u u1 es (numbering.and_then m (λ a. give (h a)))
alone_map {m = m} h N K = record { holds = λ c rest q e. let x = N.holds c rest q e in record { like = K (m c).0 x.like; stands = x.stands; left = x.left } }

pub alone_node : {B : Type 0} {T : B → Type 0} {u u1 : ItemNames} {es : List NodeNames} {k : Node → Numbering B} (s : Span) (i : Site)
    → ((n : Node) → n.span ≡ s → Alone T u u1 es (k n)) → Alone T u u1 es (numbering.and_then (a_node s i) k)
alone_node s i K = record { holds = λ c rest q e. (K (a_node s i c).0 refl).holds (a_node s i c).1 rest q e }

pub alone_keeps : {A B : Type 0} {T : B → Type 0} {u u1 : ItemNames} {es : List NodeNames} {m : Numbering A} {k : A → Numbering B}
    → Keeps m → ((a : A) → Alone T u u1 es (k a)) → Alone T u u1 es (numbering.and_then m k)
alone_keeps {m = m} h K = record { holds = λ c rest q e. (K (m c).0).holds (m c).1 rest (h.declared c ∙ q.0, h.loops c ∙ q.1) (h.names c ∙ e) }

pub alone_entry : (x : NodeNames) {u : ItemNames} → Alone (λ a. a ≡ (x.numbers, x.hidden)) u (with_names x u) (x ∷ []) an_entry
alone_entry x = record {
  holds = λ c rest q e. record { like = taken_next x rest c e; stands = (taken_declared x rest c e ∙ q.0, taken_loops x rest c e ∙ q.1); left = taken_names x rest c e };
}

pub alone_declare : {u : ItemNames} (s : Span) (d : Declaration) → Alone (λ v. v ≡ length u.vars) u (with_variable s u) [] (declare d)
alone_declare {u = u} s d = record { holds = λ c rest q e. record { like = q.0; stands = (ap suc q.0 ∙ sym (one_more u.vars s), q.1); left = e } }

-- ---- what resolves, and how it is numbered for each renaming in which all correspond that were made

abbrev pub KindAlone : Type 1
KindAlone = Renaming → ItemNames → List NodeNames → Type 0

pub record Makes (items : ℕ → ℕ) (M : Made) (u : ItemNames) (X : ItemNames → Type 0) (K : KindAlone) : Type 0 where
  pub table : ItemNames
  pub answer : X table
  pub added : List NodeNames
  pub grown : table.names ≡ u.names ++ added
  pub numbers : (R : Renaming) → Serves items M R → K R table added

pub makes_nothing : {items : ℕ → ℕ} {M : Made} (u : ItemNames) (X : ItemNames → Type 0) (K : KindAlone) → X u → ((R : Renaming) → K R u []) → Makes items M u X K
makes_nothing u X K x k = record { table = u; answer = x; added = []; grown = sym (append-nil u.names); numbers = λ R sv. k R }

pub makes_then : {items : ℕ → ℕ} {M : Made} {u : ItemNames} {X Y Z : ItemNames → Type 0} {J K N : KindAlone} (a : Makes items M u X J) (b : Makes items M a.table Y K) → (X a.table → Y b.table → Z b.table)
    → ((R : Renaming) → Serves items M R → J R a.table a.added → K R b.table b.added → N R b.table (a.added ++ b.added)) → Makes items M u Z N
makes_then {u = u} a b z k = record {
  table = b.table;
  answer = z a.answer b.answer;
  added = a.added ++ b.added;
  grown = b.grown ∙ ap (λ (l : List NodeNames). l ++ b.added) a.grown ∙ append_assoc u.names a.added b.added;
  numbers = λ R s. k R s (a.numbers R s) (b.numbers R s);
}

pub makes_map : {items : ℕ → ℕ} {M : Made} {u : ItemNames} {X Y : ItemNames → Type 0} {J K : KindAlone} (a : Makes items M u X J) → (X a.table → Y a.table)
    → ((R : Renaming) → Serves items M R → J R a.table a.added → K R a.table a.added) → Makes items M u Y K
makes_map a y k = record { table = a.table; answer = y a.answer; added = a.added; grown = a.grown; numbers = λ R s. k R s (a.numbers R s) }

abbrev pub EntryIs : ItemNames → List ℕ → KindAlone
EntryIs u ns R u' es = Alone (λ a. a ≡ (ns, false)) u u' es an_entry

pub makes_entry : {items : ℕ → ℕ} {M : Made} (I' : Inside) (at' : List ℕ) (u : ItemNames) (n : ℕ) (ns : List ℕ) (r : Outcome (List ℕ)) → r ≡ Ok (n ∷ ns) → Makes items M u (λ v. names I' at' r u ≡ Ok v) (EntryIs u (n ∷ ns))
makes_entry I' at' u n ns r e = let z = entry I' at' (n ∷ ns) in record {
  table = with_names z u;
  answer = ap (λ (o : Outcome (List ℕ)). names I' at' o u) e;
  added = z ∷ [];
  grown = refl;
  numbers = λ R sv. alone_entry z;
}
