-- A packet's entry in the lent area: six words at slot × 6. Document 01: "Book areas have sizes fixed by the capacity
-- alone".
--   entry, words e         an entry from its words; the words of an entry, in order
--   word_of xs k j         word j of slot k
--   read_e xs k            the entry in slot k
--   write_from xs i j ws   the area with the words ws written at i + j, i + (j + 1) and so on
--   write_e xs k e         the area with e in slot k
pub mod Laws
use Rattle.std.specs.Prelude.{List, [], ◌∷◌, ℕ, suc, ◌+◌, ◌*◌, get_or, set}
use Rattle.ring.specs.declared.Entry.{Entry}

abbrev pub entry : ℕ → ℕ → ℕ → ℕ → ℕ → ℕ → Entry
entry time message place len count resend =
    record { time = time; message = message; place = place; len = len; count = count; resend = resend }

abbrev pub words : Entry → List ℕ
words e = e.time ∷ e.message ∷ e.place ∷ e.len ∷ e.count ∷ e.resend ∷ []

abbrev pub word_of : List ℕ → ℕ → ℕ → ℕ
word_of xs k j = get_or xs (k * 6 + j) 0

unfoldable pub read_e : List ℕ → ℕ → Entry
read_e xs k = entry (word_of xs k 0) (word_of xs k 1) (word_of xs k 2) (word_of xs k 3) (word_of xs k 4) (word_of xs k 5)

unfoldable pub write_from : List ℕ → ℕ → ℕ → List ℕ → List ℕ
write_from xs i j [] = xs
write_from xs i j (w ∷ ws) = write_from (set xs (i + j) w) i (suc j) ws

unfoldable pub write_e : List ℕ → ℕ → Entry → List ℕ
write_e xs k e = write_from xs (k * 6) 0 (words e)
