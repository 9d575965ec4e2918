-- The tokens that a type is spelled with are derived as this type, within its levels: by recursion on the tree.
use Rattle.std.proofs.Common.{◌≡◌, ℕ, suc, ◌+◌, max, Bool, true, false, List, [], ◌∷◌, ◌++◌, Option, Some, None, codes, length, map, refl, ap, subst, ◌∙◌, arith}
use Rattle.rx_core.specs.declared.types.Span.{Span}
use Rattle.rx_core.specs.declared.types.Kind.{Kind}
use Rattle.rx_tree.specs.declared.tree.Ident.{Ident}
use Rattle.rx_tree.specs.Plain as plain
use Rattle.rx_tree.specs.Plain.{TypeTree, TypeTrees}
use Rattle.rx_tree.specs.PlainOf.{types_of}
use Rattle.rx_tree.specs.Lists.{Every}
use Rattle.rx_tree.specs.Erase.{erase_type, erase_types, erase_label, nowhere}
use Rattle.rx_lex.specs.declared.token.Class.TheVariants.{Identifier, Keyword, Lifetime}
use Rattle.rx_lex.specs.Tok.{Tok}
use Rattle.rx_lex.specs.Tokens.{token_at}
use Rattle.rx_lex.specs.Numerals.{kind_name}
use Rattle.rx_parse_grammar.specs.grammar.Words as w
use Rattle.rx_parse_grammar.specs.grammar.Words.{IsMark, IsListOf, IsMutability, second_ampersand, ident}
use Rattle.rx_parse_grammar.specs.grammar.Types as g
use Rattle.rx_parse_grammar.specs.grammar.Types.{IsType, AreTypes, IsReferenceLifetime, IsLifetimeArgument}
use Rattle.rx_print_spelling.specs.Pieces.{separated, mutable_pieces, with_ampersand, mark}
use Rattle.rx_print_spelling.specs.Types.{type_pieces, each_type, lifetime_pieces, argument_pieces, is_reference}
use Rattle.rx_print_spelling.specs.Levels.{type_levels, types_levels}
use Rattle.rx_print_spelling.specs.Formed.{FormedType, FormedTypes, MaybeLasting, GivenLifetimes}
use Rattle.rx_print_spelling.proofs.Pieces.{places, past, places-append}
use Rattle.rx_print_spelling.proofs.Derives.{Derives, mark_at, closed, single_places, tuple_places}

abbrev pub AsType : List Tok → TypeTree → ℕ → Type 0
AsType ts t h = Derives (λ us y. IsType us y h) erase_type ts (erase_type t)

abbrev pub AsTypes : List Tok → TypeTrees → ℕ → Type 0
AsTypes ts t h = Derives (λ us ys. AreTypes us ys h) (λ ys. erase_types (types_of ys)) ts (erase_types t)

-- as a whole, and behind an `&` that is the second half of a mark
pub record ReadsType (t : TypeTree) : Type 0 where
  pub alone : (at : ℕ) → AsType (places at (type_pieces false t)) t (type_levels t)
  pub joined : is_reference t ≡ true → (k : Tok) → IsMark (codes "&") k → (at : ℕ) → AsType (k ∷ places at (type_pieces true t)) t (type_levels t)

abbrev pub ReadsTypes : TypeTrees → Type 0
ReadsTypes ts = (at : ℕ) → AsTypes (places at (separated (each_type ts))) ts (types_levels ts)

of_alone : (t : TypeTree) → is_reference t ≡ false → ((at : ℕ) → AsType (places at (type_pieces false t)) t (type_levels t)) → ReadsType t
of_alone t n f = record { alone = f; joined = λ e. absurd (cc) }

-- ---- references

abbrev AsLifetime : List Tok → Option Ident → Type 0
AsLifetime ts l = Derives IsReferenceLifetime erase_label ts (erase_label l)

lifetime_reads : (l : Option Ident) → MaybeLasting l → (at : ℕ) → AsLifetime (places at (lifetime_pieces l)) l
lifetime_reads None f at = record { tree = None; derived = g.no_lifetime; same = refl }
lifetime_reads (Some l) f at = record { tree = _; derived = g.lifetime (token_at at Lifetime l.name) (refl, f.1); same = refl }

pub mutable_reads : (m : Bool) (at : ℕ) → IsMutability (places at (mutable_pieces m)) m
mutable_reads false at = w.immutable
mutable_reads true at = w.mutable (token_at at Keyword (codes "mut")) (refl, refl)

-- behind one `&`
apart_reads : (s : Span) (l : Option Ident) (m : Bool) (t : TypeTree) → MaybeLasting l → ReadsType t → (k : Tok) → IsMark (codes "&") k → (at : ℕ)
    → AsType (k ∷ places at (lifetime_pieces l ++ (mutable_pieces m ++ type_pieces false t))) (plain.ref_type s l m t) (suc (type_levels t))
apart_reads s l m t f r k i at =
    let a = lifetime_reads l f at in
    let from : ℕ = past at (lifetime_pieces l) in
    let r = r.alone (past from (mutable_pieces m)) in
    record {
      tree = _;
      derived = g.reference k (places at (lifetime_pieces l)) (places from (mutable_pieces m)) (places (past from (mutable_pieces m)) (type_pieces false t)) a.tree m r.tree (type_levels t)
          i a.derived (mutable_reads m from) r.derived
          (ap (λ z. k ∷ z) (places-append at (lifetime_pieces l) (mutable_pieces m ++ type_pieces false t)
          ∙ ap (λ z. places at (lifetime_pieces l) ++ z) (places-append from (mutable_pieces m) (type_pieces false t))));
      same = rw (a.same, r.same) refl;
    }

joined_reads : (s : Span) (t : TypeTree) → is_reference t ≡ true → ReadsType t → (at : ℕ)
    → AsType (places at (mark (codes "&&") ∷ type_pieces true t)) (plain.ref_type s None false t) (suc (type_levels t))
joined_reads s t e r at =
    let x = r.joined e (second_ampersand (mark_at at (codes "&&"))) (refl, refl) (at + 2) in
    record {
      tree = _;
      derived = g.two_references (mark_at at (codes "&&")) (places (at + 2) (type_pieces true t)) x.tree (type_levels t) (refl, refl) x.derived refl;
      same = ap (plain.ref_type nowhere None false) x.same;
    }

reference_reads : (s : Span) (l : Option Ident) (m : Bool) (t : TypeTree) → MaybeLasting l → ReadsType t → (at : ℕ)
    → AsType (places at (type_pieces false (plain.ref_type s l m t))) (plain.ref_type s l m t) (suc (type_levels t))
reference_reads s None false t f r at = by (is_reference t) refl
  where
    by : (b : Bool) → is_reference t ≡ b
        → AsType (places at (with_ampersand b (type_pieces false t) (type_pieces true t))) (plain.ref_type s None false t) (suc (type_levels t))
    by false e = apart_reads s None false t f r (mark_at at (codes "&")) (refl, refl) (at + 1)
    by true e = joined_reads s t e r at
reference_reads s None true t f r at = apart_reads s None true t f r (mark_at at (codes "&")) (refl, refl) (at + 1)
reference_reads s (Some l) m t f r at = apart_reads s (Some l) m t f r (mark_at at (codes "&")) (refl, refl) (at + 1)

-- ---- lifetimes behind a name

one_argument : (l : Option Ident) → MaybeLasting l → (at : ℕ) → Derives (λ us k. IsLifetimeArgument us k 0) erase_label (places at (argument_pieces l)) (erase_label l)
one_argument None f at = record { tree = None; derived = g.anonymous_argument (token_at at Lifetime (codes "'_")) (refl, refl); same = refl }
one_argument (Some l) f at = record { tree = _; derived = g.lifetime_argument (token_at at Lifetime l.name) (refl, f.1); same = refl }

-- one lifetime and further ones
record SomeArguments (ts : List Tok) (l : Option Ident) (ls : List (Option Ident)) : Type 0 where
  first : Option Ident
  more : List (Option Ident)
  derived : IsListOf IsLifetimeArgument ts (first ∷ more) 0
  same : map erase_label (first ∷ more) ≡ map erase_label (l ∷ ls)

one_or_more : (l : Option Ident) (ls : List (Option Ident)) → Every MaybeLasting (l ∷ ls) → (at : ℕ) → SomeArguments (places at (separated (map argument_pieces (l ∷ ls)))) l ls
one_or_more l [] f at = let a = one_argument l f.0 at in record { first = a.tree; more = []; derived = w.last_element a.derived; same = rw a.same refl }
one_or_more l (k ∷ ls) f at =
    let ps = argument_pieces l in
    let a = one_argument l f.0 at in
    let b = one_or_more k ls f.1 (past at ps + 1 + 1) in
    record {
      first = a.tree;
      more = b.first ∷ b.more;
      derived = w.element (places at ps) (places (past at ps + 1 + 1) (separated (map argument_pieces (k ∷ ls)))) (mark_at (past at ps) (codes ",")) a.tree (b.first ∷ b.more) 0 0 a.derived (refl, refl) b.derived
          (places-append at ps _);
      same = rw (a.same, b.same) refl;
    }

named_reads : (s : Span) (n : Ident) (ls : Option (List (Option Ident))) → GivenLifetimes ls → (at : ℕ)
    → AsType (places at (type_pieces false (plain.named_type s n ls))) (plain.named_type s n ls) 1
named_reads s n None f at = record { tree = _; derived = g.named (token_at at Identifier n.name) refl refl; same = refl }
named_reads s n (Some []) f at = absurd f.0
named_reads s n (Some (l ∷ ls)) f at =
    let from : ℕ = at + length n.name + 1 in
    let a = one_or_more l ls f.1 from in
    record {
      tree = _;
      derived = g.named_with (token_at at Identifier n.name) (mark_at (at + length n.name) (codes "<")) (mark_at (past from (separated (map argument_pieces (l ∷ ls)))) (codes ">"))
          (places from (separated (map argument_pieces (l ∷ ls)))) a.first a.more refl (refl, refl) (refl, refl) a.derived
          (ap (λ z. token_at at Identifier n.name ∷ mark_at (at + length n.name) (codes "<") ∷ z) (closed from (separated (map argument_pieces (l ∷ ls))) (codes ">")));
      same = rw a.same refl;
    }

-- ---- tuples

last_reads : (t : TypeTree) → ReadsType t → ReadsTypes (plain.type_and t plain.no_type)
last_reads t r at =
    let a = r.alone at in
    record {
      tree = a.tree ∷ [];
      derived = subst (λ h. AreTypes (places at (type_pieces false t)) (a.tree ∷ []) h) (omega arith) (g.last_type a.derived);
      same = rw a.same refl;
    }

further_reads : (t u : TypeTree) (us : TypeTrees) → ReadsType t → ReadsTypes (plain.type_and u us) → ReadsTypes (plain.type_and t (plain.type_and u us))
further_reads t u us r k at =
    let ps = type_pieces false t in
    let a = r.alone at in
    let b = k (past at ps + 1 + 1) in
    record {
      tree = a.tree ∷ b.tree;
      derived = g.type_and (places at ps) (places (past at ps + 1 + 1) (separated (each_type (plain.type_and u us)))) (mark_at (past at ps) (codes ",")) a.tree b.tree _ _ a.derived (refl, refl) b.derived
          (places-append at ps _);
      same = rw (a.same, b.same) refl;
    }

single_reads : (s : Span) (t : TypeTree) → ReadsType t → (at : ℕ)
    → AsType (places at (type_pieces false (plain.tuple_type s (plain.type_and t plain.no_type)))) (plain.tuple_type s (plain.type_and t plain.no_type)) (suc (max (type_levels t) 0))
single_reads s t r at =
    let a = r.alone (at + 1) in
    record {
      tree = _;
      derived = g.tuple (mark_at at (codes "(")) (mark_at (past (at + 1) (type_pieces false t)) (codes ",")) (mark_at (past (at + 1) (type_pieces false t) + 1) (codes ")"))
          (places (at + 1) (type_pieces false t)) [] a.tree [] (type_levels t) 0 (refl, refl) (refl, refl) (refl, refl) a.derived g.no_type (single_places at (type_pieces false t));
      same = rw a.same refl;
    }

several_reads : (s : Span) (t u : TypeTree) (us : TypeTrees) → ReadsType t → ReadsTypes (plain.type_and u us) → (at : ℕ)
    → AsType (places at (type_pieces false (plain.tuple_type s (plain.type_and t (plain.type_and u us))))) (plain.tuple_type s (plain.type_and t (plain.type_and u us)))
    (suc (max (type_levels t) (types_levels (plain.type_and u us))))
several_reads s t u us r k at =
    let ps = type_pieces false t in
    let from : ℕ = past (at + 1) ps in
    let qs = separated (each_type (plain.type_and u us)) in
    let a = r.alone (at + 1) in
    let b = k (from + 1 + 1) in
    record {
      tree = _;
      derived = g.tuple (mark_at at (codes "(")) (mark_at from (codes ",")) (mark_at (past (from + 1 + 1) qs) (codes ")"))
          (places (at + 1) ps) (places (from + 1 + 1) qs) a.tree b.tree (type_levels t) (types_levels (plain.type_and u us)) (refl, refl) (refl, refl) (refl, refl) a.derived b.derived
          (tuple_places at ps (type_pieces false u) (each_type us));
      same = rw (a.same, b.same) refl;
    }

kind_reads : (s : Span) (k : Kind) → ReadsType (plain.kind_type s k)
kind_reads s k = of_alone (plain.kind_type s k) refl (λ at. record { tree = _; derived = g.kind (token_at at Keyword (kind_name k)) k (refl, refl) refl; same = refl })

bool_reads : (s : Span) → ReadsType (plain.bool_type s)
bool_reads s = of_alone (plain.bool_type s) refl (λ at. record { tree = _; derived = g.bool (token_at at Keyword (codes "bool")) (refl, refl) refl; same = refl })

unit_reads : (s : Span) → ReadsType (plain.tuple_type s plain.no_type)
unit_reads s = of_alone (plain.tuple_type s plain.no_type) refl (λ at. record { tree = _; derived = g.unit (mark_at at (codes "(")) (mark_at (at + 1) (codes ")")) (refl, refl) (refl, refl) refl; same = refl })

mutual
  pub type_reads : (t : TypeTree) → FormedType t → ReadsType t
  type_reads (plain.kind_type s k) f = kind_reads s k
  type_reads (plain.bool_type s) f = bool_reads s
  type_reads (plain.tuple_type s plain.no_type) f = unit_reads s
  type_reads (plain.tuple_type s (plain.type_and t plain.no_type)) f =
      of_alone (plain.tuple_type s (plain.type_and t plain.no_type)) refl (single_reads s t (type_reads t f.0))
  type_reads (plain.tuple_type s (plain.type_and t (plain.type_and u us))) f =
      of_alone (plain.tuple_type s (plain.type_and t (plain.type_and u us))) refl (several_reads s t u us (type_reads t f.0) (types_read (plain.type_and u us) f.1))
  type_reads (plain.ref_type s l m t) f =
      let r = type_reads t f.1 in
      record { alone = reference_reads s l m t f.0 r; joined = λ e k i at. apart_reads s l m t f.0 r k i at }
  type_reads (plain.named_type s n ls) f = of_alone (plain.named_type s n ls) refl (named_reads s n ls f.1)

  pub types_read : (ts : TypeTrees) → FormedTypes ts → ReadsTypes ts
  types_read plain.no_type f = λ at. record { tree = []; derived = g.no_type; same = refl }
  types_read (plain.type_and t plain.no_type) f = last_reads t (type_reads t f.0)
  types_read (plain.type_and t (plain.type_and u us)) f = further_reads t u us (type_reads t f.0) (types_read (plain.type_and u us) f.1)
