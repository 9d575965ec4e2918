-- A certificate: lines, each ended by a line feed, then the line `text`, then the bytes of the text, of which there are at most 1,048,576.
-- And the number of the first line at which bytes stop being one. What stands behind the last line feed, with none behind it, is no line;
-- it would be of none of the forms if it were one, and its number would be the same.
use Rattle.std.specs.Prelude.{◌≡◌, ℕ, ◌+◌, ◌<◌, ◌≤◌, List, [], ◌∷◌, ◌++◌, length, codes}
use Rattle.rx_cert_lines.specs.declared.line.Head.TheVariants.{Text}
use Rattle.rx_cert_lines.specs.declared.line.Line.{Line}
use Rattle.rx_cert_lines.specs.Lines.{IsLine, NoLine, line_text}

-- a line that stands before the line `text`
pub record IsFront (l : Line) : Type 0 where
  pub line : IsLine l
  pub front : l.head ≡ Text → ⊥

abbrev pub AreFront : List Line → Type 0
AreFront [] = Unit {0}
AreFront (l ∷ ls) = IsFront l × AreFront ls

-- each line ended by a line feed, which is 10
abbrev pub lines_text : List Line → List ℕ
lines_text [] = []
lines_text (l ∷ ls) = line_text l ++ 10 ∷ lines_text ls

-- the bytes of a certificate
abbrev pub certificate_text : List Line → List ℕ → List ℕ
certificate_text ls text = lines_text ls ++ (codes "text" ++ 10 ∷ text)

-- bytes that are the certificate of these lines and this text
pub record IsCertificate (ls : List Line) (text bytes : List ℕ) : Type 0 where
  pub front : AreFront ls
  pub written : bytes ≡ certificate_text ls text
  pub short : length text ≤ 1048576

-- none of the bytes is the mark
abbrev pub Free : ℕ → List ℕ → Type 0
Free mark [] = Unit {0}
Free mark (c ∷ cs) = (c ≡ mark → ⊥) × Free mark cs

-- the number of the line, from 1, that isn't as it has to be
pub data Misread (bytes : List ℕ) : ℕ → Type 0 where
  -- the first line that is of none of the forms, before any line `text`
  of_no_form : (ls : List Line) (line left : List ℕ) → AreFront ls → Free 10 line → NoLine line → bytes ≡ lines_text ls ++ (line ++ 10 ∷ left)
      → Misread bytes (length ls + 1)
  -- there is no line `text`: the number of lines and one
  no_text : (ls : List Line) (left : List ℕ) → AreFront ls → Free 10 left → bytes ≡ lines_text ls ++ left → Misread bytes (length ls + 1)
  -- the line `text`, behind which there are too many bytes
  long_text : (ls : List Line) (text : List ℕ) → AreFront ls → 1048576 < length text → bytes ≡ certificate_text ls text
      → Misread bytes (length ls + 1)
