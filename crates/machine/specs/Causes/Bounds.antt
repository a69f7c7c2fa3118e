-- The places of causes 3 to 7 and 12 of a sheet lie inside the longest sheet; the answers of its machine are bytes.
use Rattle.std.specs.Prelude.{ℕ, ◌+◌, ◌*◌, ◌≤◌, ◌<◌, ◌≡◌, Bool, true, false, List, length, get_or}
use Rattle.std.proofs.Common.{arith}
use Rattle.std.proofs.Math.Dec.{leb}
use Rattle.sheet.specs.Check.{refusal◌with◌if◌, first_cause, first, Check, Clear}
use Rattle.sheet.specs.declared.reader.Needs.{Needs}
use Rattle.sheet.specs.Check.Laws.{cause_none}
use Rattle.sheet.specs.Check.Bounds.{WhereRefused, place_clear, place_of, place_cause, place_else, place_first}
use Rattle.sheet.specs.Format.{longest, offset, standard}
use Rattle.sheet.specs.Reader.{sheet_causes, needed, record_of, content, machine_payload, word_in, machine_record}
use Rattle.sheet.specs.Reader.{word_record, sequence_record, sequence_in, when}
use Rattle.sheet.specs.Reader.Laws.{record_inside, sheet_short}
use Rattle.facts.specs.Bytes.{Bytes}
use Rattle.sheet.specs.Reader.Bounds.{Small, sheet_small, offset_inside, content_bytes}
use Rattle.machine.specs.Limits.{most_states, most_word, most_sequence}
use Rattle.machine.specs.Machine.{Mealy, pair_at, machine_of}
use Rattle.machine.specs.Causes.{outside, cause3, cause4, cause12, commands_cause, cause5, cause6, machine_in}
use Rattle.machine.specs.Causes.{table_causes_in, word_causes_in, sequence_causes_in, machine_causes, load_causes}
use Rattle.machine.specs.Causes.Laws.{Shape, clear_shape, table_causes_are}
use Rattle.machine.specs.Causes.Lists.{word_causes_are, sequence_causes_are, machine_causes_are}
use Rattle.machine.specs.Causes.Lists.{load_causes_are, clear_sheet, machine_proper, clear_machine}

-- ---- each cause, on a sheet that is not too long
module _ (s : List ℕ) (short : length s ≤ longest) where
  cause3_small : WhereRefused Small (cause3 standard (machine_record s).start (machine_payload s))
  unfolding cause3
  cause3_small =
      place_cause Small 3 (machine_record s).start _
      (λ t. record { number = omega arith; place = omega (arith, record_inside standard standard.machine s) })

  -- an offset in a payload
  offset_small : (number : ℕ) (ks : List ℕ) (i : ℕ) → number < 100 → i < length (content standard ks s)
      → Small number (offset (record_of standard ks s).start i)
  offset_small number ks i low l = record { number = low; place = omega (arith, offset_inside standard ks s i l) }

  -- a cause at the first or the second byte of a pair
  pairs_small : Shape standard (machine_payload s) → (number : ℕ) → number < 100 → (at : ℕ → ℕ)
      → ((e : ℕ) → at e ≤ pair_at standard e + 1)
      → (test : ℕ → Bool)
      → WhereRefused Small (first (get_or (machine_payload s) 0 0 * get_or (machine_payload s) 1 0)
      (λ e. refusal number with offset (machine_record s).start (at e) if test e))
  pairs_small h number low at inside test =
      place_first Small (get_or (machine_payload s) 0 0 * get_or (machine_payload s) 1 0) _
      (λ e l. place_cause Small number (offset (machine_record s).start (at e)) (test e)
      (λ t. offset_small number standard.machine (at e) low (omega (arith, h.long, inside e))))

  cause4_small : Shape standard (machine_payload s)
      → WhereRefused Small (cause4 standard (machine_record s).start (machine_payload s))
  unfolding cause4
  cause4_small h = pairs_small h 4 (omega arith) (pair_at standard) (λ e. omega arith) _

  cause12_small : Shape standard (machine_payload s)
      → WhereRefused Small (cause12 standard (machine_record s).start (machine_payload s))
  unfolding cause12
  cause12_small h = pairs_small h 12 (omega arith) (λ e. pair_at standard e + 1) (λ e. omega arith) _

  table_small : WhereRefused Small (first_cause (table_causes_in s))
  table_small =
      place_of Small (table_causes_are standard (machine_record s).start (machine_payload s))
      (place_else Small (cause3 standard (machine_record s).start (machine_payload s)) _ cause3_small
      (λ t.
      let h = clear_shape standard (machine_record s).start (machine_payload s) t in
      place_else Small (cause4 standard (machine_record s).start (machine_payload s))
      (cause12 standard (machine_record s).start (machine_payload s)) (cause4_small h)
      (λ u. cause12_small h)))

  -- causes 5 and 7, of the record of any role
  commands_small : (number most k : ℕ) (ks : List ℕ) → number < 100
      → WhereRefused Small (commands_cause number most k (record_of standard ks s).start (content standard ks s))
  unfolding commands_cause
  commands_small number most k ks low =
      place_else Small
      (refusal number with (record_of standard ks s).start if outside most (length (content standard ks s)))
      (first (length (content standard ks s))
      (λ i. refusal number with offset (record_of standard ks s).start i if leb k (get_or (content standard ks s) i 0)))
      (place_cause Small number (record_of standard ks s).start _
      (λ t. record { number = low; place = omega (arith, record_inside standard ks s) }))
      (λ q. place_first Small (length (content standard ks s)) _
      (λ i l. place_cause Small number (offset (record_of standard ks s).start i) _
      (λ t. offset_small number ks i low l)))

-- 16i+j of two states
cause6_small : (M : Mealy) (w : List ℕ) → M.n ≤ most_states → WhereRefused Small (cause6 M w)
unfolding cause6
cause6_small M w h =
    place_first Small M.n _
    (λ i il. place_first Small M.n _
    (λ j jl. place_cause Small 6 (16 * i + j) _ (λ t. record { number = omega arith; place = omega arith })))

-- ---- the lists
-- causes that are small are so where they are needed
when_small : (b : Bool) (cs : List Check) → WhereRefused Small (first_cause cs)
    → WhereRefused Small (first_cause (when b cs))
when_small true cs h = h
when_small false cs h = place_of Small cause_none (place_clear Small)

module _ (n : Needs) (s : List ℕ) where
  machine_small : WhereRefused Small (first_cause (machine_causes n s))
  machine_small =
      place_of Small (machine_causes_are n s)
      (place_else Small (first_cause (sheet_causes standard (needed standard n) s)) (first_cause (table_causes_in s))
      (sheet_small (needed standard n) s)
      (λ q. table_small s (sheet_short standard (needed standard n) s q)))

  machine_short : first_cause (machine_causes n s) ≡ Clear → length s ≤ longest
  machine_short e = sheet_short standard (needed standard n) s (clear_sheet n s e)

  word_small : first_cause (machine_causes n s) ≡ Clear → WhereRefused Small (first_cause (word_causes_in s))
  word_small e =
      place_of Small (word_causes_are (machine_in s) (word_record s).start (word_in s))
      (place_else Small (cause5 (machine_in s).k (word_record s).start (word_in s)) (cause6 (machine_in s) (word_in s))
      (commands_small s (machine_short e) 5 most_word (machine_in s).k standard.word (omega arith))
      (λ q. cause6_small (machine_in s) (word_in s) (machine_proper n s e).few_states))

  sequence_small : first_cause (machine_causes n s) ≡ Clear → WhereRefused Small (first_cause (sequence_causes_in s))
  sequence_small e =
      place_of Small (sequence_causes_are (machine_in s) (sequence_record s).start (sequence_in s))
      (commands_small s (machine_short e) 7 most_sequence (machine_in s).k standard.sequence (omega arith))

  -- of the causes of loading
  pub load_small : WhereRefused Small (first_cause (load_causes n s))
  load_small =
      place_of Small (load_causes_are n s)
      (place_else Small (first_cause (machine_causes n s)) _ machine_small
      (λ q. place_else Small (first_cause (when n.word (word_causes_in s))) _
      (when_small n.word (word_causes_in s) (word_small q))
      (λ r. when_small n.sequence (sequence_causes_in s) (sequence_small q))))

  -- a sheet that is loaded is no longer than the longest
  pub load_short : first_cause (load_causes n s) ≡ Clear → length s ≤ longest
  load_short e = machine_short (clear_machine n s e)

-- ---- answers
-- an answer in the table is a byte
pub answer_byte : (s : List ℕ) → Bytes s → (q c : ℕ) → (machine_in s).answer q c < 256
unfolding machine_in machine_of
answer_byte s h q c = content_bytes standard standard.machine s h
    (pair_at standard (q * get_or (machine_payload s) 1 0 + c) + 1)
