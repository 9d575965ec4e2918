-- The list in angle brackets: it begins behind the function's name, and ends with the first mark `>` behind its last lifetime.
use Rattle.std.proofs.Common.{◌≡◌, ℕ, ◌<◌, ◌≤◌, Bool, List, [], ◌∷◌, ◌++◌, map, codes, inr, refl, sym, ap, subst, ◌∙◌, arith, append_assoc}
use Rattle.std.specs.Prelude.{◌≢◌, if◌then◌else◌}
use Rattle.std.proofs.lemmas.Bool.{le-leb, lt-leb}
use Rattle.rx_core.specs.Bytes.{same_bytes}
use Rattle.rx_tree.specs.declared.tree.Ident.{Ident}
use Rattle.rx_tree.specs.declared.tree.BoundLifetime.{BoundLifetime}
use Rattle.rx_tree.specs.Plain.{Function}
use Rattle.rx_lex.specs.Tok.{Tok}
use Rattle.rx_lex.proofs.TokenLaws.{Ordered}
use Rattle.rx_parse_grammar.specs.grammar.Words.{IsMark, IsListOf, no_element, last_element, element, ident}
use Rattle.rx_parse_grammar.specs.grammar.Items.{AreBounds, last_bound, bound_and, IsBoundLifetime, unbounded, bounded, AreBoundLifetimes, no_bound_lifetime, bound_lifetimes}
use Rattle.rx_print_spelling.specs.Pieces.{Piece}
use Rattle.rx_print_spelling.specs.Items.{in_angles, bound_pieces}
use Rattle.rx_splice_laws.specs.Edits.{replaced}
use Rattle.rx_splice_laws.specs.Places.{first_start, tokens_from}
use Rattle.rx_compact_text.specs.CompactedText.{last_end, list_end, closed_at, angles, list_edits}
use Rattle.rx_compact_placed.proofs.Within.{Within, kept, enclosed, moved}

-- ---- the tokens behind one

behind_near : (e to : ℕ) (post : List Tok) → Ordered e to post → tokens_from e post ≡ post
behind_near e to [] o = refl
behind_near e to (q ∷ post) o = ap (λ (b : Bool). if b then q ∷ post else tokens_from e post) (le-leb e q.span.start o.0)

reaches : (from to : ℕ) (pre : List Tok) (n : Tok) (post : List Tok) → Ordered from to (pre ++ (n ∷ post)) → from ≤ n.span.start
reaches from to [] n post o = o.0
reaches from to (p ∷ pre) n post o = let a = o.0 in let b = o.1 in let r = reaches p.span.end to pre n post o.2 in omega (arith, a, b, r)

tokens_behind : (from to : ℕ) (pre : List Tok) (n : Tok) (post : List Tok) → Ordered from to (pre ++ (n ∷ post)) → tokens_from n.span.end (pre ++ (n ∷ post)) ≡ post
tokens_behind from to [] n post o =
    ap (λ (b : Bool). if b then n ∷ post else tokens_from n.span.end post) (lt-leb n.span.end n.span.start o.1) ∙ behind_near n.span.end to post o.2
tokens_behind from to (p ∷ pre) n post o =
    let l : p.span.start < n.span.end = (let b = o.1 in let r = reaches p.span.end to pre n post o.2 in let m = own_length p.span.end to pre n post o.2 in omega (arith, b, r, m)) in
    ap (λ (b : Bool). if b then p ∷ (pre ++ (n ∷ post)) else tokens_from n.span.end (pre ++ (n ∷ post))) (lt-leb n.span.end p.span.start l)
    ∙ tokens_behind p.span.end to pre n post o.2
  where
    own_length : (from to : ℕ) (pre : List Tok) (n : Tok) (post : List Tok) → Ordered from to (pre ++ (n ∷ post)) → n.span.start < n.span.end
    own_length from to [] n post o = o.1
    own_length from to (p ∷ pre) n post o = own_length p.span.end to pre n post o.2

-- ---- where a list ends

-- tokens of which one ends where a list does, and behind that only this is left
pub record Ends (us : List Tok) (end : ℕ) (rest : List Tok) : Type 0 where
  pub front : List Tok
  pub last : Tok
  pub is : us ≡ front ++ (last ∷ rest)
  pub ends : end ≡ last.span.end

one_end : (t : Tok) → Ends (t ∷ []) t.span.end []
one_end t = record { front = []; last = t; is = refl; ends = refl }

longer : {us rest : List Tok} {end : ℕ} (ts : List Tok) → Ends us end rest → Ends (ts ++ us) end rest
longer {rest = rest} ts e = record { front = ts ++ e.front; last = e.last; is = ap (λ x. ts ++ x) e.is ∙ sym (append_assoc ts e.front (e.last ∷ rest)); ends = e.ends }

one_before : (t p : Tok) {us : List Tok} {ls : List Ident} → AreBounds us ls → (l : BoundLifetime) → Ends us (last_end l ls) [] → Ends (t ∷ p ∷ us) (last_end l (ident t ∷ ls)) []
one_before t p (last_bound u s) l e = longer (t ∷ p ∷ []) e
one_before t p (bound_and u q vs ks s sq r) l e = longer (t ∷ p ∷ []) e

bounds_end : {us : List Tok} {ls : List Ident} → AreBounds us ls → (l : BoundLifetime) → Ends us (last_end l ls) []
bounds_end (last_bound t s) l = one_end t
bounds_end (bound_and t p us ls s sp d) l = one_before t p d l (bounds_end d l)

lifetime_ends : {us : List Tok} {l : BoundLifetime} {h : ℕ} → IsBoundLifetime us l h → Ends us (last_end l l.bounds) []
lifetime_ends (unbounded t s) = one_end t
lifetime_ends (bounded t c us ls s sc d) = longer (t ∷ c ∷ []) (bounds_end d (record { name = ident t; bounds = ls }))

-- nothing, or a comma
pub data Few : List Tok → Type 0 where
  nothing : Few []
  comma : (c : Tok) → IsMark (codes ",") c → Few (c ∷ [])

-- a list, and what is left behind its last lifetime
pub record ListEnds (us : List Tok) (end : ℕ) : Type 0 where
  pub rest : List Tok
  pub few : Few rest
  pub ends : Ends us end rest

behind_comma : {us : List Tok} {end : ℕ} (c : Tok) → IsMark (codes ",") c → Ends us end [] → Ends (us ++ c ∷ []) end (c ∷ [])
behind_comma c s e = record { front = e.front; last = e.last; is = ap (λ x. x ++ c ∷ []) e.is ∙ append_assoc e.front (e.last ∷ []) (c ∷ []); ends = e.ends }

abbrev pub AllEnd : List Tok → List BoundLifetime → Type 0
AllEnd us [] = us ≡ []
AllEnd us (l ∷ ls) = ListEnds us (list_end l ls)

with_more : {us : List Tok} (vs ws : List Tok) (c : Tok) (x : BoundLifetime) (xs : List BoundLifetime) (m : ℕ) → IsBoundLifetime vs x m → IsMark (codes ",") c → us ≡ vs ++ (c ∷ ws) → AllEnd ws xs
    → ListEnds us (list_end x xs)
with_more vs ws c x [] m d s is e = record {
  rest = c ∷ [];
  few = comma c s;
  ends = subst (λ y. Ends y (last_end x x.bounds) (c ∷ [])) (sym (is ∙ ap (λ zs. vs ++ (c ∷ zs)) e)) (behind_comma c s (lifetime_ends d));
}
with_more vs ws c x (k ∷ ks) m d s is q = record {
  rest = q.rest;
  few = q.few;
  ends = subst (λ y. Ends y (list_end k ks) q.rest) (sym (is ∙ sym (append_assoc vs (c ∷ []) ws))) (longer (vs ++ c ∷ []) q.ends);
}

pub list_ends : {us : List Tok} {ls : List BoundLifetime} {h : ℕ} → IsListOf IsBoundLifetime us ls h → AllEnd us ls
list_ends no_element = refl
list_ends (last_element d) = record { rest = []; few = nothing; ends = lifetime_ends d }
list_ends (element vs ws c x xs m n d s r is) = with_more vs ws c x xs m d s is (list_ends r)

-- ---- the first mark `>` behind

closes_here : (at : ℕ) (more : List Tok) (c : Tok) → IsMark (codes ">") c → closed_at at (c ∷ more) ≡ c.span.end
closes_here at more c s = ap (λ (w : List ℕ). if same_bytes w (codes ">") then c.span.end else closed_at at more) s.1

closes : (at : ℕ) (rest more : List Tok) (c : Tok) → Few rest → IsMark (codes ">") c → closed_at at (rest ++ (c ∷ more)) ≡ c.span.end
closes at rest more c nothing s = closes_here at more c s
closes at rest more c (comma d k) s = ap (λ (w : List ℕ). if same_bytes w (codes ">") then d.span.end else closed_at at (c ∷ more)) k.1 ∙ closes_here at more c s

module _ (from to : ℕ) (all pre us post : List Tok) (n o c : Tok) (is : all ≡ (pre ++ n ∷ []) ++ ((o ∷ (us ++ c ∷ [])) ++ post)) (order : Ordered from to all) where
  pub begins : first_start n.span.end (tokens_from n.span.end all) ≡ o.span.start
  begins = ap (λ ts. first_start n.span.end (tokens_from n.span.end ts)) together
      ∙ ap (first_start n.span.end) (tokens_behind from to pre n (o ∷ ((us ++ c ∷ []) ++ post)) (subst (Ordered from to) together order))
    where
      together : all ≡ pre ++ (n ∷ (o ∷ ((us ++ c ∷ []) ++ post)))
      together = is ∙ append_assoc pre (n ∷ []) (o ∷ ((us ++ c ∷ []) ++ post))

  pub ends : (end : ℕ) → IsMark (codes ">") c → ListEnds us end → closed_at end (tokens_from end all) ≡ c.span.end
  ends end s q = subst (λ e. closed_at e (tokens_from e all) ≡ c.span.end) (sym q.ends.ends)
      (ap (λ ts. closed_at q.ends.last.span.end (tokens_from q.ends.last.span.end ts)) together
      ∙ ap (closed_at q.ends.last.span.end) (tokens_behind from to ahead q.ends.last (q.rest ++ (c ∷ post)) (subst (Ordered from to) together order))
      ∙ closes q.ends.last.span.end q.rest post c q.few s)
    where
      ahead : List Tok
      ahead = (pre ++ n ∷ []) ++ (o ∷ q.ends.front)

      inside : (us ++ c ∷ []) ++ post ≡ q.ends.front ++ (q.ends.last ∷ (q.rest ++ (c ∷ post)))
      inside = append_assoc us (c ∷ []) post ∙ ap (λ x. x ++ (c ∷ post)) q.ends.is ∙ append_assoc q.ends.front (q.ends.last ∷ q.rest) (c ∷ post)

      together : all ≡ ahead ++ (q.ends.last ∷ (q.rest ++ (c ∷ post)))
      together = is ∙ ap (λ x. (pre ++ n ∷ []) ++ (o ∷ x)) inside ∙ sym (append_assoc (pre ++ n ∷ []) (o ∷ q.ends.front) (q.ends.last ∷ (q.rest ++ (c ∷ post))))

no_half : (t : Tok) (w : List ℕ) → t.text ≡ w → w ≢ codes "&" → t.text ≢ codes "&"
no_half t w e n f = n (sym e ∙ f)

less_whole : codes "<" ≢ codes "&"
less_whole e = absurd (cc)

more_whole : codes ">" ≢ codes "&"
more_whole e = absurd (cc)

-- the edit of the list of lifetimes, where there is one
some_listed : (text : List ℕ) (from to : ℕ) (all pre us post : List Tok) (n o c : Tok) (f : Function) (x : BoundLifetime) (xs : List BoundLifetime) (ps : List Piece) (h : ℕ) → f.name ≡ ident n
    → IsMark (codes "<") o → IsMark (codes ">") c → IsListOf IsBoundLifetime us (x ∷ xs) h → all ≡ (pre ++ n ∷ []) ++ ((o ∷ (us ++ c ∷ [])) ++ post) → Ordered from to all
    → Within text (replaced (angles all f x xs) ps ∷ []) (o ∷ (us ++ c ∷ []))
some_listed text from to all pre us post n o c f x xs ps h name so sc d whole order =
    enclosed o c us (angles all f x xs) ps (inr (no_half o (codes "<") so.1 less_whole)) (inr (no_half c (codes ">") sc.1 more_whole))
    (ap (λ (y : Ident). first_start y.span.end (tokens_from y.span.end all)) name ∙ begins from to all pre us post n o c whole order)
    (ends from to all pre us post n o c whole order (list_end x xs) sc (list_ends d))

abbrev list_pieces : List BoundLifetime → List Piece
list_pieces new = in_angles (map bound_pieces new)

pub listed : (text : List ℕ) (from to : ℕ) (all pre ls post : List Tok) (n : Tok) (f : Function) (l new : List BoundLifetime) → f.name ≡ ident n → AreBoundLifetimes ls l
    → all ≡ (pre ++ n ∷ []) ++ (ls ++ post) → Ordered from to all → Within text (list_edits all f l new) ls
listed text from to all pre ls post n f l new name no_bound_lifetime is order = kept []
listed text from to all pre ls post n f l new name (bound_lifetimes o c us x xs so sc d e) is order =
    moved e (some_listed text from to all pre us post n o c f x xs (list_pieces new) 0 name so sc d (is ∙ ap (λ y. (pre ++ n ∷ []) ++ (y ++ post)) e) order)
