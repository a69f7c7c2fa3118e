-- Numbers put one behind the other, and a sheet with a word and its line, over plain variables. Assumes nothing.
use Rattle.std.specs.Prelude.{Err}
use Prim.Native.Nat.{ℕ, ◌+◌, ◌*◌, ◌≤◌, ◌<◌}
use mathlib.Core.Path.{◌≡◌, refl, sym, ap, ap₂, ◌∙◌}
use mathlib.Core.List.{List, [], ◌∷◌, ◌++◌, append_assoc, append-nil}
use mathlib.Core.Option.{Option, some}
use native.Mathlib.Omega.{arith}
use native.Mathlib.Numerals.{add-one}
use lib.ListN.{length, get_or, take, length-take}
use lib.Seq.{take-suc, take-append_seam}
use Rattle.facts.specs.Decimal.{bytes}
use Rattle.word.specs.Answer.{Answer, Found, Nothing}
use Rattle.std.specs.Prelude.{Option as Maybe}
use Rattle.sheet.specs.declared.record.Record.{Record}
use Rattle.sheet.specs.Format.{standard}
use Rattle.sheet.specs.Reader.{found_in}
use Rattle.machine.specs.Causes.Lists.{payload_short, clear_machine}
use Rattle.word.specs.declared.answer.Searched.{Searched}
use Rattle.word.specs.Search.{most_sought}
use Rattle.word.specs.Service.{search_needs, searching, padded, word_beside, Searches}
use Rattle.word.specs.Service.Laws.{Outcome, refused, found, missing, searching_outcome, found_answered}
use Rattle.report.specs.Lines.{labelled, newline, listed, word_line, none_line, refusal_line}
use Rattle.report.specs.declared.pieces.Cursor.{Cursor}
use Rattle.report.specs.Pieces.{list_room, WordRequires, PutsNext}
use Rattle.report.specs.Output.{Output, on_error, Writes}
use Rattle.report.specs.Sheets.{word_sheet}
use Rattle.report.specs.Services.{found_output, searched}
use Rattle.report.specs.Services.Laws.{searched_refused, searched_clear}
use Rattle.sheet.specs.Writing.Laws.{puts_none}
use Rattle.report.proofs.Putting.{next_append, next_same, next_prints}
use Rattle.report.proofs.Making.{writes_parts}

-- ---- a list of numbers
listed_append : (xs ys : List ℕ) → listed (xs ++ ys) ≡ listed xs ++ listed ys
unfolding listed
listed_append [] ys = refl
listed_append (x ∷ xs) ys =
    ap (λ (l : List ℕ). labelled " " x ++ l) (listed_append xs ys)
    ∙ sym (append_assoc (labelled " " x) (listed xs) (listed ys))

module _ (numbers : List ℕ) (start : Cursor) where
  -- what the loop keeps: the numbers before i are put
  pub record Listing (now : Cursor) (i : ℕ) : Type 0 where
    pub next : PutsNext (listed (take i numbers)) start now
    pub bound : now.end ≤ start.end + list_room * i

  pub listing_none : start.end ≤ length start.buffer.now → Listing start 0
  unfolding listed
  listing_none l = record {
    next = record { same_buffer = refl; puts = puts_none start.buffer.now start.end l };
    bound = omega arith;
  }

  one_more : (i : ℕ) → i < length numbers
      → listed (take i numbers) ++ labelled " " (get_or numbers i 0) ≡ listed (take (i + 1) numbers)
  unfolding listed
  one_more i l =
      ap (λ (x : List ℕ). listed (take i numbers) ++ x) (sym (append-nil (labelled " " (get_or numbers i 0))))
      ∙ sym (listed_append (take i numbers) (get_or numbers i 0 ∷ []))
      ∙ ap listed (sym (take-suc numbers i 0 l) ∙ ap (λ (n : ℕ). take n numbers) (sym (add-one i)))

  pub listing_on : {now later : Cursor} {i : ℕ} → Listing now i → i < length numbers
      → PutsNext (labelled " " (get_or numbers i 0)) now later → later.end ≤ now.end + list_room
      → Listing later (i + 1)
  listing_on {now} {later} {i} h l p b = record {
    next =
        next_same (one_more i l)
        (next_append (listed (take i numbers)) (labelled " " (get_or numbers i 0)) h.next p);
    bound = omega (arith, h.bound);
  }

-- ---- a sheet with a word, and the word's line
pub word_written : (s w before : List ℕ) {start middle after : Cursor} → start.buffer.now ≡ before → start.end ≡ 0
    → PutsNext (word_sheet s w) start middle → PutsNext (word_line w) middle after
    → Writes (found_output s (some w)) before after.buffer.now (record { out = middle.end; end = after.end })
word_written s w before e f h k =
    writes_parts (found_output s (some w)) (omega (arith, f, h.puts.ends))
    (next_prints e f (next_append (word_sheet s w) (word_line w) h k))

-- the line of a word, in its pieces
pub word_line_lem : (w : List ℕ) {a b c d : Cursor} → PutsNext (bytes "WORD") a b → PutsNext (listed w) b c
    → PutsNext newline c d → PutsNext (word_line w) a d
unfolding word_line
word_line_lem w h k l = next_append (bytes "WORD" ++ listed w) newline (next_append (bytes "WORD") (listed w) h k) l

-- ---- the answers of the search
-- what is written for an answer and the array beside it
abbrev output_of : List ℕ → List ℕ → Answer → Output
output_of s word (Found n) = found_output s (some (take n word))
output_of s word Nothing = on_error none_line
output_of s word (Err r) = on_error (refusal_line r.number r.place)

output_of_lem : (s : List ℕ) → Outcome s (searching s) → searched s ≡ output_of s (word_beside s) (searching s)
output_of_lem s (refused number place c a o) = searched_refused s c ∙ sym (ap (output_of s (word_beside s)) a)
output_of_lem s (found w c h a o) =
    let front : take (length w) (word_beside s) ≡ w =
    ap (λ (x : Option (List ℕ)). take (length w) (padded x)) o ∙ take-append_seam w _ in
    searched_clear s c
    ∙ ap (found_output s) (o ∙ ap some (sym front))
    ∙ sym (ap (output_of s (word_beside s)) a)
output_of_lem s (missing c h a o) =
    searched_clear s c ∙ ap (found_output s) o ∙ sym (ap (output_of s (word_beside s)) a)

-- what a found word shows of the sheet and of the array
pub record HoldsFound (s : List ℕ) (f : Maybe Record) (word : List ℕ) (n : ℕ) : Type 0 where
  pub inside : n ≤ length word
  pub sized : n ≡ length (take n word)
  pub required : WordRequires s f (take n word)

module _ (s : List ℕ) {r : Searched} (h : Searches s r) where
  pub searched_output : {a : Answer} → r.answer ≡ a → searched s ≡ output_of s r.word a
  searched_output e =
      output_of_lem s (searching_outcome s)
      ∙ ap₂ (output_of s) (sym h.word) (sym h.answer.is ∙ e)

  pub found_holds : {n : ℕ} {f : Maybe Record} → r.answer ≡ Found n → f ≡ found_in standard standard.machine s
      → HoldsFound s f r.word n
  found_holds {n} {f} e is =
      let a = found_answered s (sym h.answer.is ∙ e) in
      let sized : n ≡ length (take n r.word) =
      sym a.long ∙ ap length (sym (ap (take n) h.word ∙ a.beside)) in
      let few : n ≤ most_sought = omega (arith, a.long, a.sought.has.commands.few) in
      record {
        inside = omega (arith, sized, length-take n r.word);
        sized = sized;
        required = record {
          found = is;
          machine = payload_short search_needs s (clear_machine search_needs s a.clear);
          few = omega (arith, sized, few);
        };
      }
