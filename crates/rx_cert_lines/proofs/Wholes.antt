-- A whole certificate: its lines one after another, and where bytes stop being one.
use Rattle.std.proofs.Common.{◌≡◌, ℕ, ◌+◌, ◌<◌, ◌≤◌, List, [], ◌∷◌, ◌++◌, length, take, drop, refl, sym, ap, subst, ◌∙◌, arith, append_assoc, length-append}
use Rattle.std.specs.Prelude.{codes}
use Rattle.std.proofs.lemmas.List.{append-nil, append_cancel_left}
use Rattle.rx_cert_lines.specs.declared.line.Head.TheVariants.{Text}
use Rattle.rx_cert_lines.specs.declared.line.Line.{Line}
use Rattle.rx_cert_lines.specs.Lines.{IsLine, NoLine, line_text}
use Rattle.rx_cert_lines.specs.Certificates.{IsFront, AreFront, lines_text, IsCertificate, Free, Misread, of_no_form, no_text, long_text}
use Rattle.rx_cert_lines.specs.Reading.{before, IsCut, IsSplit, IsNextLine, NoNextLine}
use Rattle.rx_cert_lines.proofs.Marks.{two, cut_here, has_mark, split_same}
use Rattle.rx_cert_lines.proofs.ItemTexts.{tails}
use Rattle.rx_cert_lines.proofs.LineTexts.{line_same, line_feedless, text_line, text_is_line, text_line_text}

-- ---- the next line

pub no_feed_left : (left : List ℕ) → Free 10 left → NoNextLine left
no_feed_left left g l rest h e = has_mark 10 (line_text l) rest (subst (Free 10) e g)

pub no_line_left : (left front rest : List ℕ) → IsSplit 10 left front rest → NoLine front → NoNextLine left
no_line_left left front rest s never l more h e =
    never l h (split_same 10 (line_text l) (10 ∷ more) front (10 ∷ rest) (line_feedless l h) s.free refl refl (sym e ∙ sym s.whole)).0

pub line_left : (left front rest : List ℕ) (l : Line) → IsSplit 10 left front rest → line_text l ≡ front → left ≡ line_text l ++ 10 ∷ rest
line_left left front rest l s e = sym s.whole ∙ ap (λ x. x ++ 10 ∷ rest) (sym e)

pub text_left : (left rest : List ℕ) (l : Line) → IsLine l → l.head ≡ Text → left ≡ line_text l ++ 10 ∷ rest → left ≡ codes "text" ++ 10 ∷ rest
text_left left rest l h t e = e ∙ ap (λ x. x ++ 10 ∷ rest) (text_line_text l h t)

pub other_left : (left rest : List ℕ) (l : Line) → IsLine l → (l.head ≡ Text → ⊥) → left ≡ line_text l ++ 10 ∷ rest → IsNextLine l left rest
other_left left rest l h o e = record { front = record { line = h; front = o }; text = e }

-- ---- the lines so far

pub record LinesSoFar (bytes left : List ℕ) (ls : List Line) : Type 0 where
  pub front : AreFront ls
  pub text : bytes ≡ lines_text ls ++ left
  pub few : length ls + length left ≤ length bytes

pub no_lines : (bytes : List ℕ) → LinesSoFar bytes bytes []
no_lines bytes = record { front = tt; text = refl; few = omega arith }

front_more : (ls : List Line) (l : Line) → AreFront ls → IsFront l → AreFront (ls ++ l ∷ [])
front_more [] l a f = (f, tt)
front_more (m ∷ ms) l a f = (a.0, front_more ms l a.1 f)

text_more : (ls : List Line) (l : Line) (rest : List ℕ) → lines_text ls ++ (line_text l ++ 10 ∷ rest) ≡ lines_text (ls ++ l ∷ []) ++ rest
text_more [] l rest = sym (append_assoc (line_text l) (10 ∷ []) rest)
text_more (m ∷ ms) l rest = append_assoc (line_text m) (10 ∷ lines_text ms) (line_text l ++ 10 ∷ rest)
    ∙ ap (λ x. line_text m ++ 10 ∷ x) (text_more ms l rest) ∙ sym (append_assoc (line_text m) (10 ∷ lines_text (ms ++ l ∷ [])) rest)

pub shorter : (l : Line) (left rest : List ℕ) → IsNextLine l left rest → length rest < length left
shorter l left rest n = let e = ap length n.text in let a = length-append (line_text l) (10 ∷ rest) in omega (arith, e, a)

pub line_more : (bytes left rest : List ℕ) (ls : List Line) (l : Line) → LinesSoFar bytes left ls → IsNextLine l left rest → LinesSoFar bytes rest (ls ++ l ∷ [])
line_more bytes left rest ls l s n = let d = shorter l left rest n in let a = length-append ls (l ∷ []) in record {
  front = front_more ls l s.front n.front;
  text = s.text ∙ ap (λ x. lines_text ls ++ x) n.text ∙ text_more ls l rest;
  few = omega (arith, d, a, s.few);
}

-- ---- how it ends

pub misread_here : (bytes left : List ℕ) (ls : List Line) → LinesSoFar bytes left ls → NoNextLine left → Misread bytes (length ls + 1)
misread_here bytes left ls s never = go (drop (before 10 left) left) (cut_here 10 left (take (before 10 left) left) (drop (before 10 left) left) refl refl) where
  go : (rest : List ℕ) → IsCut 10 left (take (before 10 left) left) rest → Misread bytes (length ls + 1)
  go [] c = no_text ls left s.front (subst (Free 10) (sym (append-nil (take (before 10 left) left)) ∙ c.whole) c.free) s.text
  go (m ∷ rest) c =
      let e : left ≡ take (before 10 left) left ++ 10 ∷ rest = sym c.whole ∙ ap (λ x. take (before 10 left) left ++ x ∷ rest) c.ends in
      of_no_form ls (take (before 10 left) left) rest s.front c.free (λ l h t. never l rest h (e ∙ ap (λ x. x ++ 10 ∷ rest) (sym t))) (s.text ∙ ap (λ x. lines_text ls ++ x) e)

pub long_here : (bytes left text : List ℕ) (ls : List Line) → LinesSoFar bytes left ls → left ≡ codes "text" ++ 10 ∷ text → 1048576 < length text
    → Misread bytes (length ls + 1)
long_here bytes left text ls s e h = long_text ls text s.front h (s.text ∙ ap (λ x. lines_text ls ++ x) e)

pub certificate_here : (bytes left text : List ℕ) (ls : List Line) → LinesSoFar bytes left ls → left ≡ codes "text" ++ 10 ∷ text → length text ≤ 1048576
    → IsCertificate ls text bytes
certificate_here bytes left text ls s e h = record { front = s.front; written = s.text ∙ ap (λ x. lines_text ls ++ x) e; short = h }

-- ---- bytes tell the lines before what is no such line

abbrev Stops : List ℕ → Type 0
Stops r = (l : Line) (rest : List ℕ) → IsFront l → r ≡ line_text l ++ 10 ∷ rest → ⊥

text_stops : (t : List ℕ) → Stops (codes "text" ++ 10 ∷ t)
text_stops t l rest f e =
    let p = split_same 10 (line_text l) (10 ∷ rest) (codes "text") (10 ∷ t) (line_feedless l f.line) (line_feedless text_line text_is_line) refl refl (sym e) in
    f.front (ap (λ m. m.head) (line_same l text_line f.line text_is_line p.0))

form_stops : (line left : List ℕ) → Free 10 line → NoLine line → Stops (line ++ 10 ∷ left)
form_stops line left g never l rest f e =
    let p = split_same 10 (line_text l) (10 ∷ rest) line (10 ∷ left) (line_feedless l f.line) g refl refl (sym e) in never l f.line p.0

free_stops : (left : List ℕ) → Free 10 left → Stops left
free_stops left g l rest f e = has_mark 10 (line_text l) rest (subst (Free 10) e g)

front_same : (ls ms : List Line) (r s : List ℕ) → AreFront ls → AreFront ms → Stops r → Stops s → lines_text ls ++ r ≡ lines_text ms ++ s → (ls ≡ ms) × (r ≡ s)
front_same [] [] r s f g h k e = (refl, e)
front_same [] (m ∷ ms) r s f g h k e = absurd (h m (lines_text ms ++ s) g.0 (e ∙ append_assoc (line_text m) (10 ∷ lines_text ms) s))
front_same (l ∷ ls) [] r s f g h k e = absurd (k l (lines_text ls ++ r) f.0 (sym e ∙ append_assoc (line_text l) (10 ∷ lines_text ls) r))
front_same (l ∷ ls) (m ∷ ms) r s f g h k e =
    let p = split_same 10 (line_text l) (10 ∷ (lines_text ls ++ r)) (line_text m) (10 ∷ (lines_text ms ++ s)) (line_feedless l f.0.line) (line_feedless m g.0.line) refl refl
    (sym (append_assoc (line_text l) (10 ∷ lines_text ls) r) ∙ e ∙ append_assoc (line_text m) (10 ∷ lines_text ms) s) in
    let q = front_same ls ms r s f.1 g.1 h k (tails 10 (lines_text ls ++ r) (lines_text ms ++ s) p.1) in
    (two (λ x y. x ∷ y) (line_same l m f.0.line g.0.line p.0) q.0, q.1)

-- how bytes that are misread begin
record Begins (bytes : List ℕ) (n : ℕ) : Type 0 where
  ls : List Line
  rest : List ℕ
  front : AreFront ls
  stops : Stops rest
  text : bytes ≡ lines_text ls ++ rest
  at : n ≡ length ls + 1

begins : (bytes : List ℕ) (n : ℕ) → Misread bytes n → Begins bytes n
begins bytes n (of_no_form ls line left f g never e) = record { ls = ls; rest = line ++ 10 ∷ left; front = f; stops = form_stops line left g never; text = e; at = refl }
begins bytes n (no_text ls left f g e) = record { ls = ls; rest = left; front = f; stops = free_stops left g; text = e; at = refl }
begins bytes n (long_text ls text f h e) = record { ls = ls; rest = codes "text" ++ 10 ∷ text; front = f; stops = text_stops text; text = e; at = refl }

pub one_certificate : (ls ms : List Line) (t u bytes : List ℕ) → IsCertificate ls t bytes → IsCertificate ms u bytes → (ls ≡ ms) × (t ≡ u)
one_certificate ls ms t u bytes a b =
    let p = front_same ls ms (codes "text" ++ 10 ∷ t) (codes "text" ++ 10 ∷ u) a.front b.front (text_stops t) (text_stops u) (sym a.written ∙ b.written) in
    (p.0, tails 10 t u (append_cancel_left (codes "text") (10 ∷ t) (10 ∷ u) p.1))

pub one_misread : (bytes : List ℕ) (m n : ℕ) → Misread bytes m → Misread bytes n → m ≡ n
one_misread bytes m n a b =
    let p = begins bytes m a in let q = begins bytes n b in
    let s = front_same p.ls q.ls p.rest q.rest p.front q.front p.stops q.stops (sym p.text ∙ q.text) in
    p.at ∙ ap (λ x. length x + 1) s.0 ∙ sym q.at

pub not_both : (ls : List Line) (t bytes : List ℕ) (n : ℕ) → Misread bytes n → IsCertificate ls t bytes → ⊥
not_both ls t bytes n (of_no_form ms line left f g never e) a =
    let p = front_same ms ls (line ++ 10 ∷ left) (codes "text" ++ 10 ∷ t) f a.front (form_stops line left g never) (text_stops t) (sym e ∙ a.written) in
    let q = split_same 10 line (10 ∷ left) (codes "text") (10 ∷ t) g (line_feedless text_line text_is_line) refl refl p.1 in
    never text_line text_is_line (sym q.0)
not_both ls t bytes n (no_text ms left f g e) a =
    let p = front_same ms ls left (codes "text" ++ 10 ∷ t) f a.front (free_stops left g) (text_stops t) (sym e ∙ a.written) in
    has_mark 10 (codes "text") t (subst (Free 10) p.1 g)
not_both ls t bytes n (long_text ms u f h e) a =
    let p = front_same ms ls (codes "text" ++ 10 ∷ u) (codes "text" ++ 10 ∷ t) f a.front (text_stops u) (text_stops t) (sym e ∙ a.written) in
    let q = ap length (tails 10 u t (append_cancel_left (codes "text") (10 ∷ u) (10 ∷ t) p.1)) in omega (arith, h, q, a.short)
