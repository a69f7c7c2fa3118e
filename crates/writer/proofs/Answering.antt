-- From the checks and what is put to the services' promises. Assumes nothing.
use Prim.Native.Nat.{ℕ, ◌≤◌}
use mathlib.Core.Path.{◌≡◌, refl, sym, ap, subst, ◌∙◌}
use mathlib.Core.List.{List}
use native.Mathlib.Omega.{arith}
use lib.ListN.{length}
use Rattle.sheet.specs.Check.{◌else◌, first_cause, Check, Clear, Refused}
use Rattle.sheet.specs.Promise.{cause9, Writes, Answer, Written}
use Rattle.sheet.specs.Check.Laws.{else_clear, else_refused}
use Rattle.sheet.specs.Format.{standard, longest}
use Rattle.sheet.specs.Reader.{sheet_causes, needed}
use Rattle.sheet.specs.Writing.{Puts}
use Rattle.sheet.specs.Promise.Laws.{clear_room, room_refused, by_cause, by_room, refused_writes, puts_writes}
use Rattle.writer.specs.declared.wanted.Wanted.{Wanted}
use Rattle.writer.specs.declared.wanted.Wanted.TheVariants.{Sequence, Answers}
use Rattle.writer.specs.Parts.{Parts, with_answers, needs_of, sheet_of}
use Rattle.writer.specs.Writer.{part_causes, WritesParts, AddsAnswers}
use Rattle.writer.specs.Writer.Laws.{clear_formed, formed_short, answers_causes_are}

-- ---- the writer
module _ (v : Wanted) (p : Parts) (before : List ℕ) {check : Check} (is : check ≡ first_cause (part_causes v p)) where
  pub early_refused : {a b : ℕ} → check ≡ Refused a b → WritesParts v p before before (Refused a b)
  early_refused e = refused_writes before (by_cause (sym is ∙ e)) refl

  module _ (clear : check ≡ Clear) where
    pub short : length (sheet_of v p) ≤ longest
    short = formed_short p v (clear_formed v p (sym is ∙ clear))

    -- cause 9, of the sheet's length
    module _ {size : ℕ} (sized : size ≡ length (sheet_of v p)) {nine : Check} (ne : nine ≡ cause9 (length before) size)
      where
        pub nine_refused : {a b : ℕ} → nine ≡ Refused a b → WritesParts v p before before (Refused a b)
        nine_refused e =
            let t = room_refused _ _ (sym ne ∙ e) in
            refused_writes before
            (by_room (sym is ∙ clear) t.0 (omega (arith, t.1.0, sized)) (omega (arith, t.1))) refl

        pub fits : nine ≡ Clear → length (sheet_of v p) ≤ length before
        fits e = omega (arith, sized, clear_room (length before) size (sym ne ∙ e))

    -- the sheet, put into the buffer
    pub written : {after : List ℕ} {end : ℕ} → Puts before 0 (sheet_of v p) after end
        → WritesParts v p before after (Written end)
    written h = puts_writes before (sym is ∙ clear) h

-- ---- answers put into a sheet
module _ (s ys before : List ℕ) {check : Check}
    (is : check ≡ first_cause (sheet_causes standard (needed standard (needs_of Sequence)) s)) where
  pub sheet_refused : {a b : ℕ} → check ≡ Refused a b → AddsAnswers s ys before before (Refused a b)
  sheet_refused {a} {b} e =
      refused_writes before
      (by_cause (answers_causes_are s ys
      ∙ ap (λ (c : Check). c else first_cause (part_causes Answers (with_answers s ys))) (sym is ∙ e)
      ∙ else_refused a b _)) refl

  pub added : check ≡ Clear → {p : Parts} → p ≡ with_answers s ys → {after : List ℕ} {a : Answer}
      → WritesParts Answers p before after a → AddsAnswers s ys before after a
  added clear {p} e {after} {a} h =
      let same : first_cause (part_causes Answers (with_answers s ys))
      ≡ (first_cause (sheet_causes standard (needed standard (needs_of Sequence)) s)
      else first_cause (part_causes Answers (with_answers s ys))) =
      sym (ap (λ (c : Check). c else first_cause (part_causes Answers (with_answers s ys))) (sym is ∙ clear)
      ∙ else_clear _) in
      subst (λ (c : Check). Writes c (sheet_of Answers (with_answers s ys)) before after a)
      (same ∙ sym (answers_causes_are s ys)) (subst (λ (q : Parts). WritesParts Answers q before after a) e h)
