-- The laws of the promise of a service that writes: cause 9, what an answer says, in both directions, what it leaves in
-- the buffer, and how the promise is kept.
use Rattle.std.specs.Prelude.{Err}
use Rattle.std.specs.Prelude.{ℕ, ◌≤◌, ◌<◌, ◌≡◌, refl, List, ltb, length, take, drop}
use Rattle.std.proofs.Common.{sym, ap, subst, ◌∙◌, inl, inr, arith}
use borrow.Author.Tests.{le-ltb, lt-ltb, ltb-true, ltb-false}
use Rattle.std.proofs.Math.Seq.{take-append_seam, drop-append_seam}
use Rattle.facts.specs.Numbers.{less_or_not}
use Rattle.sheet.specs.Check.{◌else◌, Check, Clear, Refused}
use Rattle.sheet.specs.Promise.{cause9, writing, leaving, values_of, Writes, Answer, Written}
use Rattle.sheet.specs.Check.Laws.{absent, present, clear_absent, present_test}
use Rattle.sheet.specs.Values.Laws.{returns_specified}
use Rattle.sheet.specs.Writing.{Puts, written}
use Rattle.sheet.specs.Writing.Laws.{paste_start, puts_written}

-- ---- cause 9 is clear exactly where the bytes fit, and otherwise has the bytes needed
module _ (room bytes : ℕ) where
  pub room_clear : bytes ≤ room → cause9 room bytes ≡ Clear
  unfolding cause9
  room_clear l = absent 9 bytes (le-ltb room bytes l)

  pub clear_room : cause9 room bytes ≡ Clear → bytes ≤ room
  unfolding cause9
  clear_room e = ltb-false room bytes (clear_absent 9 bytes (ltb room bytes) e)

  pub room_refused : {a b : ℕ} → cause9 room bytes ≡ Refused a b → (a ≡ 9) × ((b ≡ bytes) × (room < bytes))
  unfolding cause9
  room_refused e = let t = present_test 9 bytes (ltb room bytes) e in (t.1.0, (t.1.1, ltb-true room bytes t.0))

-- ---- what an answer says: written, no cause is present and the bytes fit; refused, for the first of the other causes,
-- or for 9, where none of them is present and the bytes do not fit
pub data Outcome (c : Check) (room : ℕ) (xs : List ℕ) : Answer → Type 0 where
  wrote : {n : ℕ} → c ≡ Clear → n ≡ length xs → n ≤ room → Outcome c room xs (Written n)
  by_cause : {a b : ℕ} → c ≡ Refused a b → Outcome c room xs (Refused a b)
  by_room : {a b : ℕ} → c ≡ Clear → a ≡ 9 → b ≡ length xs → room < b → Outcome c room xs (Refused a b)

outcome : (c : Check) (room : ℕ) (xs : List ℕ) → Outcome c room xs (writing c room xs)
unfolding writing ◌else◌ cause9
outcome (Err r) room xs = by_cause refl
outcome Clear room xs = elim (less_or_not room (length xs)) [
  | inl l ↦ rw (present 9 (length xs) (lt-ltb room (length xs) l)) (by_room refl refl refl l)
  | inr l ↦ rw (absent 9 (length xs) (le-ltb room (length xs) l)) (wrote refl refl l)
]

module _ {c : Check} {room : ℕ} {xs : List ℕ} where
  pub writing_outcome : {a : Answer} → writing c room xs ≡ a → Outcome c room xs a
  writing_outcome e = subst (Outcome c room xs) e (outcome c room xs)

  pub outcome_writing : {a : Answer} → Outcome c room xs a → writing c room xs ≡ a
  unfolding writing ◌else◌ cause9
  outcome_writing (by_cause e) = rw e
  outcome_writing (wrote e s l) = rw (e, s, absent 9 (length xs) (le-ltb room (length xs) (omega arith)))
  outcome_writing (by_room e n s l) = rw (e, n, s, present 9 (length xs) (lt-ltb room (length xs) (omega arith)))

  pub written_clear : {n : ℕ} → Outcome c room xs (Written n) → (c ≡ Clear) × ((n ≡ length xs) × (n ≤ room))
  written_clear (wrote e s l) = (e, (s, l))

  -- where the bytes always fit, a refusal is one of the other causes
  pub fits_refused : (c ≡ Clear → length xs ≤ room) → {a b : ℕ} → Outcome c room xs (Refused a b)
      → c ≡ Refused a b
  fits_refused fits (by_cause e) = e
  fits_refused fits (by_room e n s l) = let z : ⊥ = omega (arith, fits e) in absurd z

pub writes_outcome : {c : Check} {xs before after : List ℕ} {a b : Answer} → Writes c xs before after a → a ≡ b
    → Outcome c (length before) xs b
writes_outcome h e = writing_outcome (sym h.answer.is ∙ e)

-- ---- the buffer: on a refusal as before; else it begins with the bytes, and the later ones are as they were
module _ {c : Check} {xs : List ℕ} (before : List ℕ) where
  pub refused_leaves : {a b : ℕ} → Outcome c (length before) xs (Refused a b) → leaving c xs before ≡ before
  unfolding leaving ◌else◌ cause9
  refused_leaves (by_cause e) = rw e
  refused_leaves (by_room e n s l) =
      rw (e, present 9 (length xs) (lt-ltb (length before) (length xs) (omega arith)))

  pub written_leaves : {n : ℕ} → Outcome c (length before) xs (Written n) → leaving c xs before ≡ written xs before
  unfolding leaving ◌else◌ cause9
  written_leaves (wrote e s l) = rw (e, absent 9 (length xs) (le-ltb (length before) (length xs) (omega arith)))

  pub written_first : {n : ℕ} → Outcome c (length before) xs (Written n)
      → (take n (leaving c xs before) ≡ xs) × (drop n (leaving c xs before) ≡ drop n before)
  written_first o =
      rw (written_leaves o, (written_clear o).1.0)
      (take-append_seam xs (drop (length xs) before), drop-append_seam xs (drop (length xs) before))

  -- where the answer is written, no other cause is present, and the first bytes of the buffer are those
  pub writes_first : {after : List ℕ} {n : ℕ} → Writes c xs before after (Written n)
      → (c ≡ Clear) × (take n after ≡ xs)
  writes_first {after} {n} h =
      let o = writes_outcome h refl in
      ((written_clear o).0, ap (take n) h.buffer ∙ (written_first o).0)

  -- ---- how the promise is kept: nothing is written, or the bytes are put at the start; and back
  outcome_writes : {after : List ℕ} {a : Answer} → Outcome c (length before) xs a → after ≡ leaving c xs before
      → Writes c xs before after a
  outcome_writes o e = record { answer = returns_specified values_of (sym (outcome_writing o)); buffer = e }

  pub refused_writes : {after : List ℕ} {a b : ℕ} → Outcome c (length before) xs (Refused a b) → after ≡ before
      → Writes c xs before after (Refused a b)
  refused_writes o e = outcome_writes o (e ∙ sym (refused_leaves o))

  pub puts_writes : {after : List ℕ} {end : ℕ} → c ≡ Clear → Puts before 0 xs after end
      → Writes c xs before after (Written end)
  puts_writes {after} {end} e h =
      let sized : end ≡ length xs = omega (arith, h.ends) in
      let o = wrote e sized h.inside in
      outcome_writes o (puts_written xs h ∙ sym (written_leaves o))

  pub writes_puts : {after : List ℕ} {n : ℕ} → Writes c xs before after (Written n) → Puts before 0 xs after n
  writes_puts h =
      let o = writes_outcome h refl in
      record {
        ends = omega (arith, (written_clear o).1);
        inside = (written_clear o).1.1;
        written = h.buffer ∙ written_leaves o ∙ sym (paste_start xs before);
      }
