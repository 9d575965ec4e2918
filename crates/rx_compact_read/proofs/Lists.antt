-- The list in angle brackets as it is written anew: each word ends before what follows it where its `>` does, and it is derived.
use Rattle.std.proofs.Common.{◌≡◌, ℕ, ◌+◌, true, List, [], ◌∷◌, ◌++◌, map, None, codes, length, refl, sym, ap, subst, ◌∙◌}
use Rattle.std.specs.Prelude.{IsUtf8}
use Rattle.std.specs.Char.{is_ascii}
use Rattle.std.proofs.lemmas.Bool.Decides.{nat_tests}
use Rattle.std.proofs.lemmas.Str.{IsUtf8-nil, IsUtf8-append}
use Rattle.std.proofs.Common.{arith}
use Rattle.rx_tree.specs.declared.tree.Ident.{Ident}
use Rattle.rx_tree.specs.declared.tree.BoundLifetime.{BoundLifetime}
use Rattle.rx_tree.specs.Lists.{Every}
use Rattle.rx_tree.specs.Plain as plain
use Rattle.rx_tree.specs.Plain.{Function}
use Rattle.rx_tree.specs.Erase.{nowhere, erase_ident, erase_lifetime}
use Rattle.rx_lex.specs.declared.token.Class.TheVariants.{Lifetime, Mark}
use Rattle.rx_lex.specs.Tok.{Tok}
use Rattle.rx_lex.specs.Tokens.{token_at, is_blank}
use Rattle.rx_lex.specs.Stands.{stands}
use Rattle.rx_lex.proofs.FirstBytes.{all_more}
use Rattle.rx_lex.proofs.Names.{ascii_utf8}
use Rattle.rx_lex.proofs.LongestWord.{word_utf8}
use Rattle.rx_parse_grammar.specs.grammar.Items as g
use Rattle.rx_parse_grammar.specs.grammar.Items.{AreBounds, IsBoundLifetime, AreBoundLifetimes}
use Rattle.rx_print_spelling.specs.Pieces.{Piece, word, blanks, flat, mark, separated, space}
use Rattle.rx_print_spelling.specs.Items.{in_angles, bounds_pieces, bound_pieces}
use Rattle.rx_print_spelling.specs.Formed.{Lasting, FormedBound}
use Rattle.rx_print_spelling.proofs.Pieces.{places, past, Stand, flat_then}
use Rattle.rx_print_spelling.proofs.Derives.{Derives, mark_at, closed}
use Rattle.rx_print_spelling.proofs.ListsRead.{Kind, ReadsOne, separated_read, SomeOf, some_of, no_levels}
use Rattle.rx_print_spelling.proofs.Headers.{header_pieces}
use Rattle.rx_print_spelling.proofs.ItemsStand.{header_stands}
use Rattle.rx_splice_laws.proofs.AsRead.{onto, Reads, stand_reads}
use Rattle.rx_splice_laws.proofs.Seams.{nothing_left, word_left, left_of, left_of-append, Fits, kept_read, reads_front}

-- ---- it is derived

bounds_read : (ls : List Ident) (l : Ident) → Every Lasting (l ∷ ls) → (at : ℕ) → Derives AreBounds (map erase_ident) (places at (bounds_pieces (l ∷ ls))) (map erase_ident (l ∷ ls))
bounds_read [] l f at = record { tree = _; derived = g.last_bound (token_at at Lifetime l.name) (refl, f.0.1); same = refl }
bounds_read (k ∷ ls) l f at =
    let from : ℕ = at + length l.name + 1 + 1 + 1 in
    let r = bounds_read ls k f.1 from in
    record {
      tree = _;
      derived = g.bound_and (token_at at Lifetime l.name) (mark_at (at + length l.name + 1) (codes "+")) (places from (bounds_pieces (k ∷ ls))) r.tree (refl, f.0.1) (refl, refl) r.derived;
      same = ap (λ z. erase_ident l ∷ z) r.same;
    }

bound_kind : Kind BoundLifetime BoundLifetime
bound_kind = record { judgement = IsBoundLifetime; view = erase_lifetime; spelled = bound_pieces; level = λ l. 0 }

bound_of : Ident → List Ident → BoundLifetime
bound_of n bs = record { name = n; bounds = bs }

same_bounds : (n : Ident) (as' bs : List Ident) → as' ≡ bs → bound_of n as' ≡ bound_of n bs
same_bounds n as' bs f = ap (bound_of n) f

bounds_reads : (n : Ident) (bs : List Ident) → Lasting n → Every Lasting bs → ReadsOne bound_kind (bound_of n bs)
unfolding bound_kind bound_of
bounds_reads n [] f h at = record { tree = _; derived = g.unbounded (token_at at Lifetime n.name) (refl, f.1); same = refl }
bounds_reads n (b ∷ bs) f h at =
    let from : ℕ = at + length n.name + 1 + 1 in
    let r = bounds_read bs b h from in
    record {
      tree = _;
      derived = g.bounded (token_at at Lifetime n.name) (mark_at (at + length n.name) (codes ":")) (places from (bounds_pieces (b ∷ bs))) r.tree (refl, f.1) (refl, refl) r.derived;
      same = same_bounds (erase_ident n) (map erase_ident r.tree) (map erase_ident (b ∷ bs)) r.same;
    }

bound_reads : (l : BoundLifetime) → FormedBound l → ReadsOne bound_kind l
unfolding bound_of
bound_reads l f = bounds_reads l.name l.bounds f.0 f.1

angle_places : (at : ℕ) (ps : List Piece) (more : List (List Piece))
    → places at (in_angles (ps ∷ more)) ≡ mark_at at (codes "<") ∷ (places (at + 1) (separated (ps ∷ more)) ++ mark_at (past (at + 1) (separated (ps ∷ more))) (codes ">") ∷ [])
angle_places at ps more = ap (λ l. mark_at at (codes "<") ∷ l) (closed (at + 1) (separated (ps ∷ more)) (codes ">"))

some_at_zero : {A C : Type 0} (k : Kind A C) (ts : List Tok) (x : A) (xs : List A) (h : ℕ) → h ≡ 0 → SomeOf k ts x xs h → SomeOf k ts x xs 0
some_at_zero k ts x xs h e r = subst (λ n. SomeOf k ts x xs n) e r

pub list_read : (ls : List BoundLifetime) → Every FormedBound ls → (at : ℕ) → Derives AreBoundLifetimes (map erase_lifetime) (places at (in_angles (map bound_pieces ls))) (map erase_lifetime ls)
unfolding bound_kind
list_read [] f at = record { tree = []; derived = g.no_bound_lifetime; same = refl }
list_read (l ∷ ls) f at =
    let qs = separated (map bound_pieces (l ∷ ls)) in
    let r = some_at_zero bound_kind _ l ls _ (no_levels (l ∷ ls)) (some_of bound_kind _ l ls _ (separated_read bound_kind FormedBound bound_reads (l ∷ ls) f (at + 1))) in
    record {
      tree = r.first ∷ r.more;
      derived = g.bound_lifetimes (mark_at at (codes "<")) (mark_at (past (at + 1) qs) (codes ">")) (places (at + 1) qs) r.first r.more (refl, refl) (refl, refl) r.derived
          (angle_places at (bound_pieces l) (map bound_pieces ls));
      same = r.same;
    }

-- ---- its words end

-- a function with it, for what stands in front of its body
headed : List BoundLifetime → Function
headed ls = record { name = record { span = nowhere; name = codes "f" }; lifetimes = ls; params = []; result = None; body = plain.body nowhere plain.no_statement plain.absent }

list_stands : (ls : List BoundLifetime) → Every FormedBound ls → Stand (header_pieces (headed ls)) []
unfolding headed
list_stands ls f = let a = header_stands (headed ls) refl f tt tt [] in a.stand

list_end : List Piece
list_end = mark (codes "(") ∷ (separated [] ++ (mark (codes ")") ∷ ([] ++ space ∷ [])))

in_header : (ls : List BoundLifetime) → Every FormedBound ls → Stand (in_angles (map bound_pieces ls) ++ list_end) []
unfolding headed list_end
in_header ls f = let s = list_stands ls f in s.2.1.2

pub list_reads : (l : BoundLifetime) (ls : List BoundLifetime) (s : List ℕ) → Every FormedBound (l ∷ ls) → stands Mark (codes ">") s ≡ true → Reads (in_angles (map bound_pieces (l ∷ ls))) s
list_reads l ls s f e =
    let ps = in_angles (map bound_pieces (l ∷ ls)) in
    let a = reads_front ps list_end [] (stand_reads (ps ++ list_end) [] (in_header (l ∷ ls) f)) in
    let i : left_of nothing_left ps ≡ word_left Mark (codes ">") = left_of-append (word_left Mark (codes "<")) (separated (map bound_pieces (l ∷ ls))) (mark (codes ">") ∷ []) in
    let k = kept_read ps nothing_left (onto list_end []) s a (subst (λ x. Fits x (onto list_end []) s) (sym i) (λ h. e)) in k.reads

stand_left : (ps qs : List Piece) (r : List ℕ) → Stand (ps ++ qs) r → Stand ps (flat qs ++ r)
stand_left [] qs r s = tt
stand_left (word c w ∷ ps) qs r s = (s.0, ap (stands c w) (sym (flat_then ps qs r)) ∙ s.1, stand_left ps qs r s.2)
stand_left (blanks b ∷ ps) qs r s = (s.0, stand_left ps qs r s.1)

blank_ascii : (c : ℕ) → is_blank c ≡ true → is_ascii c ≡ true
blank_ascii c e = grind (arith, nat_tests)

text_pieces : (ps : List Piece) (r : List ℕ) → Stand ps r → IsUtf8 (flat ps)
text_pieces [] r s = IsUtf8-nil
text_pieces (word c w ∷ ps) r s = IsUtf8-append w (flat ps) (word_utf8 s.0) (text_pieces ps r s.2)
text_pieces (blanks b ∷ ps) r s = IsUtf8-append b (flat ps) (ascii_utf8 b (all_more is_blank is_ascii blank_ascii b s.0)) (text_pieces ps r s.1)

pub list_text : (ls : List BoundLifetime) → Every FormedBound ls → IsUtf8 (flat (in_angles (map bound_pieces ls)))
list_text ls f = text_pieces (in_angles (map bound_pieces ls)) (flat list_end ++ []) (stand_left (in_angles (map bound_pieces ls)) list_end [] (in_header ls f))
