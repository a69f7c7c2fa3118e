-- Pieces of a line put one behind the other, and a whole line.
-- Assumes nothing.
use Prim.Native.Nat.{ℕ}
use mathlib.Core.Path.{◌≡◌, refl, sym, ◌∙◌}
use mathlib.Core.List.{List, [], ◌∷◌, ◌++◌}
use lib.ListN.{length}
use Rattle.sheet.specs.Writing.Laws.{puts_same, puts_append, puts_long}
use Rattle.sheet.specs.Joining.{bytes_of, joined}
use Rattle.sheet.specs.Joining.Laws.{puts_more, puts_last}
use Rattle.report.specs.Lines.{spaced}
use Rattle.report.specs.declared.pieces.Cursor.{Cursor}
use Rattle.report.specs.Pieces.{Prints, PutsNext}

-- ---- pieces, one behind the other
pub next_append : {a b c : Cursor} (xs ys : List ℕ) → PutsNext xs a b → PutsNext ys b c → PutsNext (xs ++ ys) a c
next_append xs ys h k = record {
  same_buffer = k.same_buffer ∙ h.same_buffer;
  puts = puts_append xs ys h.puts k.puts;
}

pub next_same : {a b : Cursor} {xs ys : List ℕ} → xs ≡ ys → PutsNext xs a b → PutsNext ys a b
next_same e h = record { same_buffer = h.same_buffer; puts = puts_same e h.puts }

pub next_long : {a b : Cursor} {xs : List ℕ} → PutsNext xs a b → length b.buffer.now ≡ length a.buffer.now
next_long {a} {b} {xs} h = puts_long xs h.puts

-- records
pub next_more : {a b c : Cursor} (r : ℕ × List ℕ) (rs : List (ℕ × List ℕ)) → PutsNext (bytes_of r) a b
    → PutsNext (joined rs) b c → PutsNext (joined (r ∷ rs)) a c
next_more r rs h k = record { same_buffer = k.same_buffer ∙ h.same_buffer; puts = puts_more r rs h.puts k.puts }

pub next_last : {a b : Cursor} (r : ℕ × List ℕ) → PutsNext (bytes_of r) a b → PutsNext (joined (r ∷ [])) a b
next_last r h = record { same_buffer = h.same_buffer; puts = puts_last r h.puts }

-- from the start of a buffer
pub next_prints : {start after : Cursor} {before xs : List ℕ} → start.buffer.now ≡ before → start.end ≡ 0
    → PutsNext xs start after → Prints xs before after.buffer.now after.end
next_prints e f h = rw (e, f) at h.puts

-- ---- a phrase, with a space before it where there is one
pub some_phrase : (phrase : List ℕ) → (length phrase ≡ 0 → ⊥) → (32 ∷ []) ++ phrase ≡ spaced phrase
some_phrase [] d = absurd (d refl)
some_phrase (b ∷ bs) d = refl

-- ---- a whole line: the same
pub prints_same : {before after line same : List ℕ} {size : ℕ} → same ≡ line → Prints line before after size
    → Prints same before after size
prints_same e h = puts_same (sym e) h
