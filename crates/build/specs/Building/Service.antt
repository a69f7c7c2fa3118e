-- The laws of the service: it succeeds exactly on what is buildable, why it refuses, and what an answer of built shows
-- of the buffer. What it shows of the sequence (`BuiltSequence`) is in proofs/BuildingService.antt.
use Rattle.std.specs.Prelude.{ℕ, ◌-◌, ◌≤◌, ◌<◌, ◌≡◌, refl, List, length, take, drop}
use Rattle.std.proofs.Common.{sym, ◌∙◌, true≢false, inl, inr, arith}
use Rattle.sheet.specs.Check.{first_cause, Clear, Refused}
use Rattle.sheet.specs.Promise.{Written}
use Rattle.certify.specs.Answer.{Certified as CertifiedAnswer}
use Rattle.sheet.specs.Check.Laws.{both_clear, else_clear, either_refused}
use Rattle.sheet.specs.Reader.{word_in, word_record}
use Rattle.sheet.specs.Promise.Laws.{room_clear, clear_room, Outcome, wrote, by_cause, by_room, writing_outcome}
use Rattle.sheet.specs.Promise.Laws.{outcome_writing, written_clear, refused_leaves, written_first}
use Rattle.machine.specs.Limits.{most_word, most_sequence}
use Rattle.machine.specs.Machine.{Mealy, run, Commands}
use Rattle.machine.specs.Causes.{machine_in, load_causes}
use Rattle.machine.specs.Causes.Laws.{clear_commands}
use Rattle.machine.specs.Causes.Lists.{word_causes_are, distinguishes_clear, loading_clear, machine_proper}
use Rattle.machine.specs.Causes.Lists.{load_proper, clear_machine, clear_word, word_distinguishes}
use Rattle.certify.specs.Recognition.{Certified}
use Rattle.certify.specs.Marks.{count, marks}
use Rattle.certify.specs.Certification.{outcome}
use Rattle.build.specs.Sequence.{following, sequence, length_bound}
use Rattle.build.specs.Building.{build_needs, connected_causes, build_cause, building, buffer_after, Buildable}
use Rattle.build.specs.Building.Connection.{connected_clear, NotConnected, refused_unconnected, connected_causes_are}
use Rattle.build.specs.Building.Connection.{clear_load, clear_distinguishes, clear_strongly, all_clear}

-- ---- building succeeds exactly where the sheet is well formed, the word separates, the table is strongly
-- connected, and there is room
module _ (room : ℕ) (s : List ℕ) where
  connected_buildable : first_cause (connected_causes s) ≡ Clear → length (sequence (machine_in s) (word_in s)) ≤ room
      → Buildable room s
  connected_buildable e l =
      let load = clear_load s e in
      let word = word_causes_are (machine_in s) (word_record s).start (word_in s) in
      record {
        machine = clear_machine build_needs s load;
        word = (both_clear _ _ (sym word ∙ clear_word build_needs s load refl)).0;
        separates = (clear_distinguishes s e).separates;
        connected = clear_strongly s e;
        fits = l;
      }

  buildable_connected : Buildable room s → first_cause (connected_causes s) ≡ Clear
  buildable_connected h =
      let commands : Commands most_word (machine_in s).k (word_in s) =
      clear_commands 5 most_word (machine_in s).k (word_record s).start (word_in s) h.word in
      all_clear s
      (loading_clear build_needs s h.machine
      (λ t. distinguishes_clear (machine_in s) (word_record s).start (word_in s)
      (record { commands = commands; separates = h.separates }))
      (λ t. absurd (true≢false (sym t))))
      (connected_clear (machine_in s) (word_in s) (machine_proper build_needs s h.machine) commands h.connected)

  pub clear_buildable : build_cause room s ≡ Clear → Buildable room s
  clear_buildable e = let h = both_clear _ _ e in connected_buildable h.0 (clear_room _ _ h.1)

  pub buildable_clear : Buildable room s → build_cause room s ≡ Clear
  buildable_clear h = rw (buildable_connected h, room_clear room _ h.fits) (else_clear Clear)

  pub built_buildable : {n : ℕ} → building room s ≡ Written n → Buildable room s
  built_buildable e =
      let o = written_clear (writing_outcome e) in
      connected_buildable o.0 (omega (arith, o.1))

  pub buildable_built : Buildable room s → building room s ≡ Written (length (sequence (machine_in s) (word_in s)))
  buildable_built h = outcome_writing (wrote (buildable_connected h) refl h.fits)

-- ---- a refusal
-- why building refuses with number a and place b: one of the causes of loading; 8, at the least s from which no path of
-- any length leads on; or 9, with the built length, which is above the room
pub data RefusedFor (room : ℕ) (s : List ℕ) (a b : ℕ) : Type 0 where
  early : first_cause (load_causes build_needs s) ≡ Refused a b → RefusedFor room s a b
  unconnected : a ≡ 8 → NotConnected (machine_in s) (word_in s) b → RefusedFor room s a b
  narrow : a ≡ 9 → b ≡ length (sequence (machine_in s) (word_in s)) → room < b → RefusedFor room s a b

why : (room : ℕ) (s : List ℕ) {a b : ℕ}
    → Outcome (first_cause (connected_causes s)) room (sequence (machine_in s) (word_in s)) (Refused a b)
    → RefusedFor room s a b
why room s (by_cause e) = elim (either_refused _ _ (sym (connected_causes_are s) ∙ e)) [
  | inl l ↦ early l
  | inr t ↦ (let commands = (word_distinguishes build_needs s refl t.0).commands in
      let r = refused_unconnected (machine_in s) (word_in s) (load_proper build_needs s t.0) commands t.1 in
      unconnected r.0 r.1)
]
why room s (by_room e n p l) = narrow n p l

pub refused_for : (room : ℕ) (s : List ℕ) {a b : ℕ} → building room s ≡ Refused a b → RefusedFor room s a b
refused_for room s e = why room s (writing_outcome e)

-- it writes nothing
pub refused_buffer : (s buffer : List ℕ) {a b : ℕ} → building (length buffer) s ≡ Refused a b
    → buffer_after s buffer ≡ buffer
refused_buffer s buffer e = refused_leaves buffer (writing_outcome e)

-- ---- what is built
-- a sequence of n commands of a machine M and a word w: it is certified, by certification's own definition and
-- so by what it computes; its commands are the machine's, no more than a sequence may have; n is within the
-- formula; and where it ends
pub record BuiltSequence (M : Mealy) (w xs : List ℕ) (n : ℕ) : Type 0 where
  pub long : n ≡ length xs
  pub commands : Commands most_sequence M.k xs
  pub bounded : n ≤ length_bound M w
  pub certified : Certified M w xs
  pub outcome : outcome M w xs ≡ CertifiedAnswer (count (marks M w xs))
  pub ends : run M M.start xs ≡ following M.n (M.next (M.n - 1) (M.k - 1))

-- an answer of built shows of the buffer: its first bytes are the sequence, the later ones as they were
pub built_buffer : (s buffer : List ℕ) {n : ℕ} → building (length buffer) s ≡ Written n
    → (take n (buffer_after s buffer) ≡ sequence (machine_in s) (word_in s))
    × (drop n (buffer_after s buffer) ≡ drop n buffer)
built_buffer s buffer e = written_first buffer (writing_outcome e)
