-- From the checks, the table of transfers and what is written to the service's promise.
-- Assumes nothing.
use Prim.Native.Nat.{ℕ, ◌+◌}
use mathlib.Core.Path.{◌≡◌, refl, sym, ap, ap₂, subst, ◌∙◌}
use mathlib.Core.List.{List, [], ◌∷◌, ◌++◌}
use native.Mathlib.Omega.{arith}
use lib.ListN.{length, drop}
use Rattle.sheet.specs.Check.{first_cause, Check, Clear, Refused}
use Rattle.sheet.specs.Promise.{cause9, Written}
use Rattle.sheet.specs.Reader.{word_in}
use Rattle.sheet.specs.Writing.{Puts}
use Rattle.sheet.specs.Writing.Laws.{puts_same}
use Rattle.sheet.specs.Promise.Laws.{clear_room, room_refused, by_cause, by_room, refused_writes, puts_writes}
use Rattle.machine.specs.Limits.{most_word}
use Rattle.machine.specs.declared.loading.Loaded.{Loaded}
use Rattle.machine.specs.Machine.{meaning, Proper, Commands}
use Rattle.machine.specs.Causes.{machine_in}
use Rattle.build.specs.Sequence.{sequence}
use Rattle.build.specs.Building.{cause8, connected_causes, Builds}
use Rattle.build.specs.Building.Connection.{clear_eight, clear_proper, clear_distinguishes}
use Rattle.machine.specs.Loading.{LoadedBy}
use Rattle.build.specs.Table.{Filled}
use Rattle.build.specs.Writing.{WriteRequires, Adds}

-- a part of no bytes, given back, leaves a buffer as it was
pub front_none : (front before : List ℕ) → length front ≡ 0 → front ++ drop 0 before ≡ before
front_none [] before e = refl
front_none (x ∷ front) before e = let z : ⊥ = omega arith in absurd z

module _ (s before : List ℕ) (l : Loaded) (h : LoadedBy (connected_causes s) s l) where
  pub early_refused : {a b : ℕ} → l.check ≡ Refused a b → Builds s before before (Refused a b)
  early_refused e = refused_writes before (by_cause (sym h.check ∙ e)) refl

  module _ (clear : l.check ≡ Clear) (w : List ℕ) (we : w ≡ word_in s) where
    connected : first_cause (connected_causes s) ≡ Clear
    connected = sym h.check ∙ clear

    machine_is : meaning l.machine ≡ machine_in s
    machine_is = h.machine clear

    proper : Proper (meaning l.machine)
    proper = rw machine_is (clear_proper s connected)

    commands : Commands most_word (meaning l.machine).k w
    commands = rw (machine_is, we) (clear_distinguishes s connected).commands

    sequence_same : sequence (meaning l.machine) w ≡ sequence (machine_in s) (word_in s)
    sequence_same = ap₂ sequence machine_is we

    -- all that writing needs
    pub write_required : (rows : List ℕ)
        → Filled (meaning l.machine) (word_in s) (meaning l.machine).n rows
        → WriteRequires (meaning l.machine) w rows
    write_required rows f = record {
      proper = proper;
      commands = commands;
      connected = ap₂ cause8 machine_is we ∙ clear_eight s connected;
      filled = rw we f;
    }

    -- cause 9, of the length that writing into an empty part tells, after which the buffer is as it was
    module _ {size : ℕ} (size_is : size ≡ 0 + length (sequence (meaning l.machine) w)) {middle : List ℕ}
        (me : middle ≡ before) {nine : Check} (ne : nine ≡ cause9 (length middle) size) where
      pub nine_refused : {a b : ℕ} → nine ≡ Refused a b → Builds s before middle (Refused a b)
      nine_refused e =
          let t = room_refused _ _ (sym ne ∙ e) in
          refused_writes before
          (by_room connected t.0 (omega (arith, t.1.0, size_is, ap length sequence_same))
          (omega (arith, t.1, ap length me))) me

      -- the sequence, written into the buffer
      pub built : nine ≡ Clear → {after : List ℕ} {end : ℕ}
          → Adds middle 0 (sequence (meaning l.machine) w) after end → Builds s before after (Written end)
      built e {after} {end} a =
          let h = a.puts (omega (arith, a.ends, size_is, clear_room (length middle) size (sym ne ∙ e))) in
          puts_writes before connected
          (puts_same sequence_same
          (subst (λ (d : List ℕ). Puts d 0 (sequence (meaning l.machine) w) after end) me h))
